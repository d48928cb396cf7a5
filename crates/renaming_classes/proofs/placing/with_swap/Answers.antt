use Rattle.std.proofs.Common.{◌≡◌, ℕ, List, sym, ◌∙◌, subst}
use Rattle.std.specs.Cmp.Lexicographic.{pointwise_decides}
use Rattle.std.proofs.lemmas.Bool.Decides.{Decides-eqb}
use Rattle.tuple_core.specs.Swap.{swap_atoms}
use Rattle.rel_formula.specs.Instance.{AreCells}
use Rattle.rel_formula.specs.Renaming.{IsImage}
use Rattle.renaming_classes.proofs.Searching.{swap_kept}
use Rattle.renaming_classes.proofs.placing.with_swap.Goals as goal

pub swap_atoms-requires : goal.swap_atoms-requires
swap_atoms-requires c = record {
  cells = subst (AreCells c.args.problem.now) (sym c.in_ok-image.ensures) c.requires.cells;
  kept = swap_kept c.args.problem.now c.args.first c.args.second c.requires.symmetric c.requires.first c.requires.second c.if-first-second.false;
}

pub returns-then-eq-clause-none : goal.returns-then-eq-clause-none
returns-then-eq-clause-none c = λ none tops.
    let p = c.args.problem.now in
    let f = swap_atoms c.args.first c.args.second in
    let s : List ℕ = c.args.scenario.now in
    let new : List ℕ = c.swap_atoms.new.self in
    let equal : c.numbers.result.now ≡ c.numbers-2.result.now = (pointwise_decides Decides-eqb c.numbers.result.now c.numbers-2.result.now).0 (sym c.eq.ensures ∙ c.if-eq.true) in
    let same : new ≡ s = sym c.numbers.ensures.value ∙ equal ∙ c.numbers-2.ensures.value in
    subst (IsImage p f s) same (subst (λ (x : List ℕ). IsImage p f x new) c.in_ok-image.ensures c.swap_atoms.ensures.image)

pub returns-clause-some : goal.returns-clause-some
returns-clause-some c =
    let p = c.args.problem.now in
    let f = swap_atoms c.args.first c.args.second in
    (c.if-first-second.false, c.swap_atoms.ensures.scenario, subst (λ (x : List ℕ). IsImage p f x c.swap_atoms.new.self) c.in_ok-image.ensures c.swap_atoms.ensures.image)
