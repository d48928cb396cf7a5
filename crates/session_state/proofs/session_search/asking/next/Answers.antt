use Rattle.std.proofs.Common.{◌≡◌, ◌≤◌, ◌∙◌, ℕ, List, All, Contains, IfOk, length, sym, ap, subst, arith}
use Rattle.rel_formula.specs.Instance.{AreCells}
use Rattle.swap_symmetry.specs.Due.{IsDue}
use Rattle.session_rules.specs.States.{shown_here, top_floor}
use Rattle.session_rules.specs.Proofs.{IsCopy}
use Rattle.session_state.specs.Store.Stored.{copies_at}
use Rattle.session_state.proofs.Sessions.TopFloors.{floor_here, copies_here, few_at}
use Rattle.std.proofs.lemmas.Result.{IfOk-weaker}
use Rattle.std.proofs.lemmas.List.Elements.{All-nil}
use Rattle.session_state.specs.Sessions.Proposed.{Proposed}
use Rattle.session_state.proofs.session_search.asking.next.Goals as goal

pub end_again-requires : goal.end_again-requires
end_again-requires c =
    let s = c.args.store.now.state in
    let same : length c.as_slice.result.now ≡ length (shown_here s) = ap length (c.as_slice.ensures.value ∙ c.in_ok-shown.ensures) in
    let few : length (shown_here s) ≤ length s.shown = few_at (top_floor s) s.shown in
    let room = c.requires.room in
    omega arith

pub look_for-requires-clause-floor : goal.look_for-requires-clause-floor
look_for-requires-clause-floor c =
    let p = c.args.translation.now.problem in
    let s = c.args.store.now.state in
    subst (AreCells p) (sym c.floor.ensures) (floor_here p s (c.a_run_is_sound.ensures p s c.requires.fits.reached))

pub look_for-requires-clause-shown : goal.look_for-requires-clause-shown
look_for-requires-clause-shown c =
    let p = c.args.translation.now.problem in
    let s = c.args.store.now.state in
    let sound = c.a_run_is_sound.ensures p s c.requires.fits.reached in
    subst (All (IsDue p c.floor.result.now)) (sym (c.as_slice-in-None.ensures.value ∙ c.in_ok-shown.ensures))
    (subst (λ (f : List ℕ). All (IsDue p f) (shown_here s)) (sym c.floor.ensures) (sound.due (top_floor s)))

pub look_for-requires-clause-copies : goal.look_for-requires-clause-copies
look_for-requires-clause-copies c =
    let p = c.args.translation.now.problem in
    let kept = c.args.store.now in
    let s = kept.state in
    let known = copies_at (top_floor s) kept in
    subst (All (IsCopy p c.floor.result.now c.as_slice-in-None.result.now)) (sym (c.as_slice-in-None-2.ensures.value ∙ c.in_ok-copies-in-None.ensures))
    (subst (λ (xs : List (List ℕ)). All (IsCopy p c.floor.result.now xs) known) (sym (c.as_slice-in-None.ensures.value ∙ c.in_ok-shown.ensures))
    (subst (λ (f : List ℕ). All (IsCopy p f (shown_here s)) known) (sym c.floor.ensures) (copies_here p kept c.requires.fits)))

pub look_for-requires-clause-few : goal.look_for-requires-clause-few
look_for-requires-clause-few c =
    let kept = c.args.store.now in
    let s = kept.state in
    let same : length c.as_slice-in-None.result.now ≡ length (shown_here s) = ap length (c.as_slice-in-None.ensures.value ∙ c.in_ok-shown.ensures) in
    let also : length c.as_slice-in-None-2.result.now ≡ length (copies_at (top_floor s) kept) = ap length (c.as_slice-in-None-2.ensures.value ∙ c.in_ok-copies-in-None.ensures) in
    let few : length (shown_here s) ≤ length s.shown = few_at (top_floor s) s.shown in
    let fewer : length (copies_at (top_floor s) kept) ≤ length kept.copies = few_at (top_floor s) kept.copies in
    let room = c.requires.room in
    let most = c.requires.kept.few_copies in
    omega arith

pub returns-in-Some-clause-new : goal.returns-in-Some-clause-new
returns-in-Some-clause-new c =
    let known = copies_at (top_floor c.args.store.now.state) c.args.store.now in
    IfOk-weaker c.end_again.result _ _ (λ p none. subst (All (λ (copy : List ℕ). ¬ Contains known copy)) (sym none) (All-nil (λ (copy : List ℕ). ¬ Contains known copy))) c.end_again.ensures.none

pub returns-clause-new : goal.returns-clause-new
returns-clause-new c =
    subst (λ (known : List (List ℕ)). IfOk c.look_for.result (λ (p : Proposed). All (λ (copy : List ℕ). ¬ Contains known copy) p.copies)) (c.as_slice-in-None-2.ensures.value ∙ c.in_ok-copies-in-None.ensures) c.look_for.ensures.new
