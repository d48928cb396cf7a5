use Rattle.std.proofs.Common.{[], ◌∷◌, ℕ, List, take, get_or, subst, sym}
use Rattle.std.proofs.lemmas.List.{take_more}
use Rattle.sat_core.specs.Trimmed.{IsMarkedBy}
use Rattle.sat_core.proofs.NeededSteps.{marked_both}
use Rattle.sat_core.proofs.trimmed.mark_named.Goals as goal

pub loop-hint-preserved : goal.loop-hint-preserved
loop-hint-preserved c =
    let hints : List ℕ = c.args.hints.now in
    let i : ℕ = c.loop-hint.hint-index in
    subst (λ (hs : List ℕ). IsMarkedBy c.args.given hs c.args.marks.now.items c.mark_one.new.marks.items) (sym (take_more hints i 0 c.loop-hint-test.true))
    (marked_both c.args.given (take i hints) (get_or hints i 0 ∷ []) c.args.marks.now.items c.loop-hint.marks.items c.mark_one.new.marks.items c.loop-hint.invariant c.mark_one.ensures)
