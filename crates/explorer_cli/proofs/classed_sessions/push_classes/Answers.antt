use Rattle.std.proofs.Common.{All, List, ℕ, get_or, sym, subst}
use Rattle.std.proofs.lemmas.List.Elements.{Contains-get_or}
use Rattle.rel_formula.specs.Instance.{AreCells}
use Rattle.explorer_cli.proofs.classed_sessions.push_classes.Goals as goal

pub push_numbered-requires : goal.push_numbered-requires
push_numbered-requires c =
    let p = c.args.problem.now in
    let members = c.in_ok-members.members.items in
    subst (λ (ss : List (List ℕ)). All (AreCells p) ss) (sym c.deref.ensures.value) (λ k d l. (c.in_ok-members.ensures.each (get_or members k d) (Contains-get_or members k d l)).2.least.scenario.cells)
