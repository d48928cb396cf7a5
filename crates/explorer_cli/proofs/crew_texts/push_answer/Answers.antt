use Rattle.std.proofs.Common.{ℕ, List, All, get_or, sym, subst}
use Rattle.std.proofs.lemmas.List.Elements.{Contains-get_or}
use Rattle.rel_formula.specs.Bounds.{Bounded}
use Rattle.rel_formula.specs.Instance.{AreCells}
use Rattle.crew_run.specs.Crew.{IsCrewAnswer}
use Rattle.explorer_cli.proofs.crew_texts.push_answer.Goals as goal

pub push_all-requires : goal.push_all-requires
push_all-requires c =
    let t = c.args.translation.now in
    let scenarios = c.in-Ended.scenarios.items in
    let lists = subst (IsCrewAnswer t c.requires.0 c.args.budget 1000000) c.in-Ended.is c.requires.1 in
    let cells : All (AreCells t.problem) scenarios = λ k d l. ((lists.due (get_or scenarios k d)).0 (Contains-get_or scenarios k d l)).minimal.instance_of.scenario.cells in
    subst (λ (p : Bounded). All (AreCells p) c.deref.result.now) (sym c.problem.ensures.value) (subst (λ (ss : List (List ℕ)). All (AreCells t.problem) ss) (sym c.deref.ensures.value) cells)
