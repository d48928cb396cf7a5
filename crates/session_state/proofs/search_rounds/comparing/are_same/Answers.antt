use Rattle.std.proofs.Common.{List, length, arith}
use Rattle.std.proofs.lemmas.Bool.{eqb-true}
use Rattle.cnf_core.specs.declared.literal.Lit.{Lit}
use Rattle.session_state.proofs.Rounds.SameLists.{same_all}
use Rattle.session_state.proofs.search_rounds.comparing.are_same.Goals as goal

pub returns-then-clauses-others : goal.returns-then-clauses-others
returns-then-clauses-others c = λ t.
    let xs : List (List Lit) = c.args.clauses.now in
    let ys : List (List Lit) = c.args.others.now in
    let here = eqb-true c.shared.result (length xs) t in
    same_all xs ys c.shared.result (omega arith) (omega arith) c.shared.ensures.same
