use Rattle.std.proofs.Common.{◌≡◌, ◌++◌, ◌∙◌, ℕ, List, take, drop, length, subst, sym}
use Rattle.std.proofs.Math.Seq.{take-append_seam}
use Rattle.tuple_core.specs.Swap.{swap_atoms}
use Rattle.rel_formula.specs.Renaming.{IsImage}
use Rattle.rel_formula.proofs.scenario.Scenario.swap_atoms.Goals as goal

pub returns-clause-image : goal.returns-clause-image
returns-clause-image c =
    let p = c.args.problem.now in
    let f = swap_atoms c.args.first c.args.second in
    let new : List ℕ = c.swap_in_numbers.new.numbers in
    let old : List ℕ = c.self.inside.numbers.items in
    let rest = drop (length new) old in
    let kept : take c.self.inside.numbers.len (new ++ rest) ≡ new = subst (λ n. take n (new ++ rest) ≡ new) (c.swap_in_numbers.auto.numbers ∙ c.as_mut_slice.ensures.len) (take-append_seam new rest) in
    subst (λ xs. IsImage p f xs (take c.self.inside.numbers.len (new ++ rest))) (c.as_mut_slice.ensures.value ∙ c.self.view_is)
    (subst (IsImage p f c.as_mut_slice.result.now) (sym kept) c.swap_in_numbers.ensures.image)
