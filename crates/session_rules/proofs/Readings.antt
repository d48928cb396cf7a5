-- Transcripts, read as runs; and runs without want of memory.
use Rattle.std.proofs.Common.{true, not, cond, if◌then◌else◌, ◌≡◌, ◌↔◌, ◌⊎◌, inl, inr, ℕ, suc, List, [], ◌∷◌, ◌++◌, length, Contains, IsTrue, refl, sym, ◌∙◌, ap, subst}
use Rattle.std.proofs.lemmas.Bool.{cases_Bool}
use Rattle.std.proofs.lemmas.List.Elements.{All-contains, Contains-push}
use Rattle.rel_formula.specs.Bounds.{Bounded}
use Rattle.swap_symmetry.specs.Due.{IsDue}
use Rattle.session_words.specs.declared.steps.Step.TheVariants.{Next}
use Rattle.session_words.specs.declared.commands.Command.{Command}
use Rattle.session_words.specs.declared.commands.Command.TheVariants.{All as AllAsked}
use Rattle.session_rules.specs.ProofOfEnd.{ProofOfEnd}
use Rattle.session_rules.specs.States.{State, EndedAt, shown_here, top_floor, has_ended, HasEndedWith, after}
use Rattle.session_rules.specs.Steps.{Exchange, MachineRun, EndsNow, state_after}
use Rattle.session_rules.specs.Sound.{IsSound}
use Rattle.session_rules.specs.Transcripts.{is_memory, without_memory, showings, Serves, IsTranscript}
use Rattle.session_rules.specs.declared.answers.Reply.{Reply}
use Rattle.session_rules.specs.declared.answers.Reply.TheVariants.{End, All as AllShown, Memory}
use Rattle.session_rules.proofs.Runs.{states_join, runs_apart, runs_joined, run_sound, with_ended}

-- a transcript is a run, with one reply and one floor for each command
pub record IsReadAsRun (p : Bounded) (old : State) (commands : List Command) (replies : List Reply) (floors : List (List ℕ)) (xs : List Exchange) : Type 0 where
  pub run : MachineRun p old xs
  pub replies_each : length replies ≡ length commands
  pub floors_each : length floors ≡ length commands

pub read_as_run : (p : Bounded) (old : State) (commands : List Command) (replies : List Reply) (floors : List (List ℕ)) (xs : List Exchange) → IsTranscript p old commands replies floors xs → IsReadAsRun p old commands replies floors xs
read_as_run p old [] [] [] xs none = record { run = subst (MachineRun p old) (sym none) tt; replies_each = refl; floors_each = refl }
read_as_run p old [] [] (f ∷ fs) xs h = absurd h
read_as_run p old [] (r ∷ rs) fs xs h = absurd h
read_as_run p old (c ∷ cs) [] fs xs h = absurd h
read_as_run p old (c ∷ cs) (r ∷ rs) [] xs h = absurd h
read_as_run p old (c ∷ cs) (r ∷ rs) (f ∷ fs) xs (here, later, joined, floor, serves, rest) =
    let others = read_as_run p (state_after old here) cs rs fs later rest in
    record {
      run = subst (MachineRun p old) (sym joined) (runs_joined p old here later serves.run others.run);
      replies_each = ap suc others.replies_each;
      floors_each = ap suc others.floors_each;
    }

-- after an end the top floor has ended
ended_here : (p : Bounded) (s : State) (number : ℕ) (proof : ProofOfEnd) → HasEndedWith s proof ⊎ EndsNow p s → IsTrue (has_ended (top_floor (after s (End number proof))) (after s (End number proof)))
ended_here p s number proof (inl was) =
    let t = with_ended (top_floor s) s proof was in
    subst (λ b. let u : State = if b then s else record s { ended = s.ended ++ record { floor = top_floor s; proof = proof } ∷ [] } in IsTrue (has_ended (top_floor u) u)) (sym t) t
ended_here p s number proof (inr now) = elim (cases_Bool (has_ended (top_floor s) s)) [
  | inl t ↦ absurd (now.not_ended t)
  | inr f ↦
      let e : EndedAt = record { floor = top_floor s; proof = proof } in
      let u : State = record s { ended = s.ended ++ e ∷ [] } in
      subst (λ b. let w : State = if b then s else u in IsTrue (has_ended (top_floor w) w)) (sym f) (with_ended (top_floor s) u proof (Contains-push s.ended e))
]

-- the list that answers `all` has what is due at the floor, and nothing else
pub lists_due : (p : Bounded) (old : State) (n : ℕ) (scenarios : List (List ℕ)) (xs : List Exchange) → IsSound p old → Serves p old (AllAsked n) (AllShown scenarios) xs →
    (x : List ℕ) → Contains scenarios x ↔ IsDue p (top_floor (state_after old xs)) x
lists_due p old n scenarios xs sound serves x =
    let reads = serves.read in
    let comes = reads.0.comes in
    let end : Exchange = record { step = Next; reply = End reads.0.number reads.0.proof } in
    let before = showings comes.first comes.scenarios in
    let parts = runs_apart p old before (end ∷ []) (subst (MachineRun p old) comes.exchanges serves.run) in
    let middle = state_after old before in
    let last : IsTrue (has_ended (top_floor (after middle end.reply)) (after middle end.reply)) = ended_here p middle reads.0.number reads.0.proof parts.1.0.1 in
    let same : after middle end.reply ≡ state_after old xs = sym (states_join old before (end ∷ [])) ∙ ap (state_after old) (sym comes.exchanges) in
    let new = state_after old xs in
    let ended : IsTrue (has_ended (top_floor new) new) = subst (λ (s : State). IsTrue (has_ended (top_floor s) s)) same last in
    let now : IsSound p new = run_sound p old xs sound serves.run in (
      λ h. All-contains (IsDue p (top_floor new)) (shown_here new) x (now.due (top_floor new)) ((reads.1.same x).0 h),
      λ due. (reads.1.same x).1 (now.complete (top_floor new) ended x due),
    )

memory_is : (reply : Reply) → is_memory reply ≡ true → reply ≡ Memory
memory_is Memory t = refl
memory_is reply t = absurd cc

-- want of memory leaves the state as it is
after_memory : (s : State) (reply : Reply) → is_memory reply ≡ true → after s reply ≡ s
after_memory s reply t = ap (after s) (memory_is reply t)

pub state_without : (s : State) (xs : List Exchange) → state_after s (without_memory xs) ≡ state_after s xs
state_without s [] = refl
state_without s (x ∷ xs) = elim (cases_Bool (is_memory x.reply)) [
  | inl t ↦
      subst (λ b. state_after s (cond (not b) (x ∷ without_memory xs) (without_memory xs)) ≡ state_after (after s x.reply) xs) (sym t)
      (subst (λ (u : State). state_after s (without_memory xs) ≡ state_after u xs) (sym (after_memory s x.reply t)) (state_without s xs))
  | inr f ↦
      subst (λ b. state_after s (cond (not b) (x ∷ without_memory xs) (without_memory xs)) ≡ state_after (after s x.reply) xs) (sym f) (state_without (after s x.reply) xs)
]

pub run_without : (p : Bounded) (s : State) (xs : List Exchange) → MachineRun p s xs → MachineRun p s (without_memory xs)
run_without p s [] run = run
run_without p s (x ∷ xs) (step, run) =
    let rest = run_without p (after s x.reply) xs run in
    elim (cases_Bool (is_memory x.reply)) [
      | inl t ↦
          subst (λ b. MachineRun p s (cond (not b) (x ∷ without_memory xs) (without_memory xs))) (sym t)
          (subst (λ (u : State). MachineRun p u (without_memory xs)) (after_memory s x.reply t) rest)
      | inr f ↦ subst (λ b. MachineRun p s (cond (not b) (x ∷ without_memory xs) (without_memory xs))) (sym f) (step, rest)
    ]
