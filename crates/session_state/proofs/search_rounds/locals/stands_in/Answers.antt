use Rattle.std.proofs.Common.{◌≡◌, ◌<◌, ◌≤◌, Bool, true, false, ℕ, List, get_or, take, ◌||◌, refl, sym, ◌∙◌, ap, arith, length}
use Rattle.std.specs.List.{list_any}
use Rattle.std.proofs.lemmas.List.{take_all}
use Rattle.std.proofs.lemmas.List.Folds.{list_any_at, list_any_more}
use Rattle.tuple_core.specs.Swap.{atom_eq}
use Rattle.translation_rules.specs.Free.{tuple_at}
use Rattle.session_state.proofs.search_rounds.locals.stands_in.Goals as goal

pub returns-then-cell_has : goal.returns-then-cell_has
returns-then-cell_has c =
    let test : ℕ → Bool = λ n. list_any (atom_eq c.args.atom) (tuple_at c.args.problem.now n) in
    sym (list_any_at test c.args.floor.now c.loop-number.number-index 0 c.loop-number-test.true (sym c.cell_has.ensures ∙ c.if-cell_has.true))

pub loop-number-preserved : goal.loop-number-preserved
loop-number-preserved c =
    let test : ℕ → Bool = λ n. list_any (atom_eq c.args.atom) (tuple_at c.args.problem.now n) in
    let xs = c.args.floor.now in
    let i = c.loop-number.number-index in
    list_any_more test xs i 0 c.loop-number-test.true ∙ ap (λ b. b || test (get_or xs i 0)) c.loop-number.invariant ∙ sym c.cell_has.ensures ∙ c.if-cell_has.false

pub returns : goal.returns
returns c =
    let test : ℕ → Bool = λ n. list_any (atom_eq c.args.atom) (tuple_at c.args.problem.now n) in
    let xs = c.args.floor.now in
    let i = c.loop-number.number-index in
    let all : take i xs ≡ xs = take_all i xs (let f = c.loop-number-test.false in omega arith) in
    sym (ap (list_any test) (sym all) ∙ c.loop-number.invariant)
