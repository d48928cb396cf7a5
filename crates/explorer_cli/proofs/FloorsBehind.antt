-- The floor behind an augmentation and a way back.
use Rattle.std.proofs.Common.{◌≡◌, inl, inr, ℕ, zero, suc, ◌+◌, ◌<◌, List, [], ◌∷◌, ◌++◌, drop, slice_index_or, Some, slice_get, refl, sym, ap, ◌∙◌, subst, arith}
use Rattle.rel_formula.specs.Bounds.{Bounded}
use Rattle.session_words.specs.declared.steps.Step.TheVariants as step
use Rattle.session_words.specs.declared.commands.Command.{Command}
use Rattle.session_words.specs.declared.commands.Command.TheVariants as command
use Rattle.session_rules.specs.States.{State, KeepsFloors, top_floor, after}
use Rattle.session_rules.specs.Steps.{Exchange, state_after}
use Rattle.session_rules.specs.Transcripts.{showings, ComesTo, Serves, IsTranscript}
use Rattle.session_rules.specs.declared.answers.Reply.{Reply}
use Rattle.session_rules.specs.declared.answers.Reply.TheVariants as reply
use Rattle.session_rules.proofs.KeptFloors.{floors_stay}
use Rattle.session_rules.proofs.Runs.{states_join}
use Rattle.explorer_cli.specs.Shown.{IsReplyAt, AllKeepFloors}

same_reply : (x y : Reply) → Some x ≡ Some y → x ≡ y
same_reply x y e = cc

same_floor : (x y : List ℕ) → Some x ≡ Some y → x ≡ y
same_floor x y e = cc

showings_stay : (s : State) (n : ℕ) (ss : List (List ℕ)) → (state_after s (showings n ss)).above ≡ s.above
showings_stay s n [] = refl
showings_stay s n (x ∷ ss) = showings_stay (after s (reply.Shown n x)) (n + 1) ss

last_stays : (s : State) (n : ℕ) (r : Reply) (xs : List Exchange) → KeepsFloors r → ComesTo n r xs → (state_after s xs).above ≡ s.above
last_stays s n r xs keeps comes =
    let last : Exchange = record { step = step.Next; reply = r } in
    let before = showings comes.first comes.scenarios in
    ap (λ (ys : List Exchange). (state_after s ys).above) comes.exchanges ∙ ap (λ (u : State). u.above) (states_join s before (last ∷ []))
    ∙ floors_stay (state_after s before) r keeps ∙ showings_stay s comes.first comes.scenarios

served_stay : (p : Bounded) (s : State) (c : Command) (r : Reply) (xs : List Exchange) → KeepsFloors r → Serves p s c r xs → (state_after s xs).above ≡ s.above
served_stay p s (command.Step x) r xs keeps h = ap (λ (ys : List Exchange). (state_after s ys).above) h.read ∙ floors_stay s r keeps
served_stay p s (command.All n) (reply.All scenarios) xs keeps h = last_stays s n (reply.End h.read.0.number h.read.0.proof) xs tt h.read.0.comes
served_stay p s (command.All n) (reply.Partly first scenarios) xs keeps h = ap (λ (ys : List Exchange). (state_after s ys).above) h.read.1 ∙ showings_stay s first scenarios
served_stay p s (command.All n) (reply.Refused refusal) xs keeps h = last_stays s n (reply.Refused refusal) xs tt h.read
served_stay p s (command.All n) reply.Memory xs keeps h = elim h.read [
  | inl comes ↦ last_stays s n reply.Memory xs tt comes
  | inr ends ↦ last_stays s n (reply.End ends.number ends.proof) xs tt ends.comes
]
served_stay p s (command.All n) (reply.Shown number scenario) xs keeps h = absurd h.read
served_stay p s (command.All n) (reply.End number proof) xs keeps h = absurd h.read
served_stay p s (command.All n) (reply.Offers cells) xs keeps h = absurd h.read
served_stay p s (command.All n) (reply.Augmented above) xs keeps h = absurd h.read
served_stay p s (command.All n) reply.Back xs keeps h = absurd h.read
served_stay p s (command.All n) (reply.BudgetSet budget) xs keeps h = absurd h.read
served_stay p s (command.All n) (reply.Proof proof) xs keeps h = absurd h.read

-- what an augmentation and a way back leave
augmented_above : (p : Bounded) (s : State) (c : Command) (above : List ℕ) (xs : List Exchange) → Serves p s c (reply.Augmented above) xs → (state_after s xs).above ≡ above ∷ s.above
augmented_above p s (command.Step x) above xs h = ap (λ (ys : List Exchange). (state_after s ys).above) h.read
augmented_above p s (command.All n) above xs h = absurd h.read

back_above : (p : Bounded) (s : State) (c : Command) (xs : List Exchange) → Serves p s c reply.Back xs → (state_after s xs).above ≡ drop 1 s.above
back_above p s (command.Step x) xs h = ap (λ (ys : List Exchange). (state_after s ys).above) h.read
back_above p s (command.All n) xs h = absurd h.read

-- the floor at the front of a transcript
first_floor : (p : Bounded) (s : State) (cs : List Command) (rs : List Reply) (fs : List (List ℕ)) (xs : List Exchange) (floor : List ℕ) → IsTranscript p s cs rs fs xs → slice_get fs 0 ≡ Some floor → floor ≡ top_floor s
first_floor p s [] [] [] xs floor h e = absurd (cc)
first_floor p s [] [] (g ∷ fs) xs floor h e = absurd h
first_floor p s [] (y ∷ rs) fs xs floor h e = absurd h
first_floor p s (c ∷ cs) [] fs xs floor h e = absurd h
first_floor p s (c ∷ cs) (y ∷ rs) [] xs floor h e = absurd h
first_floor p s (c ∷ cs) (y ∷ rs) (g ∷ fs) xs floor h e = same_floor floor g (sym e) ∙ h.3

-- above one floor more, the first way back leads below it
back_from : (p : Bounded) (old : State) (above : List ℕ) (below : List (List ℕ)) (cs : List Command) (rs : List Reply) (fs : List (List ℕ)) (xs : List Exchange) → IsTranscript p old cs rs fs xs → old.above ≡ above ∷ below
    → (place : ℕ) (top later : List ℕ) → IsReplyAt rs fs place reply.Back top → ((k : ℕ) (r : Reply) → k < place → slice_get rs k ≡ Some r → KeepsFloors r) → slice_get fs (place + 1) ≡ Some later → later ≡ slice_index_or below 0 []
back_from p old above below [] [] [] xs h at' place top later at keep next = absurd (let e = at.0 in cc)
back_from p old above below [] [] (g ∷ fs) xs h at' place top later at keep next = absurd h
back_from p old above below [] (y ∷ rs) fs xs h at' place top later at keep next = absurd h
back_from p old above below (c ∷ cs) [] fs xs h at' place top later at keep next = absurd h
back_from p old above below (c ∷ cs) (y ∷ rs) [] xs h at' place top later at keep next = absurd h
back_from p old above below (c ∷ cs) (y ∷ rs) (g ∷ fs) xs (here, rest, joined, floor, serves, others) at' zero top later at keep next =
    let back = back_above p old c here (subst (λ (w : Reply). Serves p old c w here) (same_reply y reply.Back at.0) serves) in
    first_floor p (state_after old here) cs rs fs rest later others next ∙ ap (λ (zs : List (List ℕ)). slice_index_or zs 0 []) (back ∙ ap (λ (zs : List (List ℕ)). drop 1 zs) at')
back_from p old above below (c ∷ cs) (y ∷ rs) (g ∷ fs) xs (here, rest, joined, floor, serves, others) at' (suc n) top later at keep next =
    let same : suc n + 1 ≡ suc (n + 1) = omega arith in
    let stays = served_stay p old c y here (keep 0 y (omega arith) refl) serves in
    back_from p (state_after old here) above below cs rs fs rest others (stays ∙ at') n top later at (λ k r l e. keep (suc k) r (omega arith) e)
    (subst (λ (k : ℕ). slice_get (g ∷ fs) k ≡ Some later) same next)

pub floor_behind : (p : Bounded) (old : State) (cs : List Command) (rs : List Reply) (fs : List (List ℕ)) (xs : List Exchange) → IsTranscript p old cs rs fs xs
    → (first second : ℕ) (floor above top later : List ℕ) → IsReplyAt rs fs first (reply.Augmented above) floor → IsReplyAt rs fs second reply.Back top → first < second → AllKeepFloors rs first second
    → slice_get fs (second + 1) ≡ Some later → later ≡ floor
floor_behind p old [] [] [] xs h first second f above top later at back l keep next = absurd (let e = at.0 in cc)
floor_behind p old [] [] (g ∷ fs) xs h first second f above top later at back l keep next = absurd h
floor_behind p old [] (y ∷ rs) fs xs h first second f above top later at back l keep next = absurd h
floor_behind p old (c ∷ cs) [] fs xs h first second f above top later at back l keep next = absurd h
floor_behind p old (c ∷ cs) (y ∷ rs) [] xs h first second f above top later at back l keep next = absurd h
floor_behind p old (c ∷ cs) (y ∷ rs) (g ∷ fs) xs h first zero f above top later at back l keep next = absurd (omega arith)
floor_behind p old (c ∷ cs) (y ∷ rs) (g ∷ fs) xs (here, rest, joined, floor, serves, others) zero (suc n) f above top later at back l keep next =
    let same : suc n + 1 ≡ suc (n + 1) = omega arith in
    let up = augmented_above p old c above here (subst (λ (w : Reply). Serves p old c w here) (same_reply y (reply.Augmented above) at.0) serves) in
    back_from p (state_after old here) above old.above cs rs fs rest others up n top later back (λ k r m e. keep (suc k) r (omega arith) (omega arith) e)
    (subst (λ (k : ℕ). slice_get (g ∷ fs) k ≡ Some later) same next)
    ∙ sym floor ∙ same_floor g f at.1
floor_behind p old (c ∷ cs) (y ∷ rs) (g ∷ fs) xs (here, rest, joined, floor, serves, others) (suc m) (suc n) f above top later at back l keep next =
    let same : suc n + 1 ≡ suc (n + 1) = omega arith in
    floor_behind p (state_after old here) cs rs fs rest others m n f above top later at back (omega arith) (λ k r less more e. keep (suc k) r (omega arith) (omega arith) e)
    (subst (λ (k : ℕ). slice_get (g ∷ fs) k ≡ Some later) same next)
