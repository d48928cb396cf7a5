-- A session shares the free steps of a proof before it records it.
use Rattle.std.proofs.Common.{◌≡◌, ◌≢◌, inl, inr, ◌==◌, ℕ, List, [], ◌∷◌, ◌++◌, map, All, Contains, append_assoc, refl, sym, ◌∙◌, ap, subst, arith, cond, Bool}
use Rattle.std.proofs.lemmas.Bool.{eq-eqb}
use Rattle.std.proofs.lemmas.List.Elements.{All-contains, Contains-push, Contains-append_right, filter-append}
use Rattle.atomic_table.specs.Seated.{TableId}
use Rattle.hub_lock.specs.Passes.{of_pass}
use Rattle.cnf_core.specs.declared.literal.Lit.{Lit}
use Rattle.refutation_check.specs.declared.log.Step.{Step as LogStep}
use Rattle.refutation_check.specs.Part.{Parted}
use Rattle.rel_formula.specs.Bounds.{Bounded}
use Rattle.translation_rules.specs.Translation.{Translated}
use Rattle.translation_rules.specs.Locals.{units_of}
use Rattle.session_words.specs.declared.atom_names.AtomName.{AtomName}
use Rattle.session_words.specs.declared.steps.Step.{Step}
use Rattle.session_words.specs.declared.steps.Step.TheVariants.{Next, Augment}
use Rattle.session_rules.specs.ProofOfEnd.{ProofOfEnd}
use Rattle.session_rules.specs.States.{State}
use Rattle.session_rules.specs.Steps.{AsksFor}
use Rattle.session_rules.specs.Evidence.{NeedsEvidence, HasEvidence}
use Rattle.session_rules.specs.declared.answers.Refusal.TheVariants.{NoInstance}
use Rattle.session_rules.specs.declared.answers.Reply.{Reply}
use Rattle.session_rules.specs.declared.answers.Reply.TheVariants.{End, Refused}
use Rattle.session_state.specs.Sessions.Proposed.{EndsWith, RestsOn}
use Rattle.hub_state.specs.Journal.Noted.{Note, Noted, Imported, Recorded}
use Rattle.hub_state.specs.Journal.Journal.{HasNoted, IsReplay, IsLegal}
use Rattle.hub_turns.specs.Groups.{SharesItsSteps, SharesItsProof}
use Rattle.hub_turns.specs.Interleaved.{SharesItsProofs}
use Rattle.hub_state.proofs.Journal.Replays.{one_replay}
use Rattle.hub_turns.proofs.OwnEntries.{no_own, replay_grows}
use Rattle.hub_turns.proofs.Staying.{split_cases}
use Rattle.hub_turns.specs.Turned.{IsIdle, WentOn}
use Rattle.session_turns.specs.Added.{HasAddedAll}
use Rattle.hub_turns.proofs.Onward.{same_problems}
use Rattle.session_turns.proofs.Turning.{Seen, noted, ImportsNothing, since, own_since, steps_grow}

-- one floor is asked for
abbrev pub OneFloor : Bounded → Type 0
OneFloor p = (s : State) (name : List ℕ) (names : List AtomName) (floor other : List ℕ) → AsksFor p s name names floor → AsksFor p s name names other → floor ≡ other

-- the last part of a search shares its steps, where each part does
last_shared : (journal : List Noted) (by key : ℕ) (t : Translated) (pool : List LogStep) (parts : List Parted) (local : List (List Lit)) (log : List LogStep) → EndsWith parts local log → All (λ (part : Parted). SharesItsSteps journal by key t part.local pool part.log) parts →
    SharesItsSteps journal by key t local pool log
last_shared journal by key t pool parts local log ends all =
    let last : Parted = record { local = local; log = log } in
    All-contains (λ (part : Parted). SharesItsSteps journal by key t part.local pool part.log) parts last all (subst (λ (ps : List Parted). Contains ps last) (sym ends.parts_are) (Contains-push ends.before last))

module _ (journal : List Noted) (by key : ℕ) (t : Translated) (one : OneFloor t.problem) (pool : List LogStep) (s : State) (parts : List Parted) (copies : List (List ℕ)) (all : All (λ (part : Parted). SharesItsSteps journal by key t part.local pool part.log) parts) where
  over_pool : (proof : ProofOfEnd) (local : List (List Lit)) → proof.pool ≡ pool → EndsWith parts local proof.log → SharesItsSteps journal by key t local proof.pool proof.log
  over_pool proof local is ends = subst (λ (xs : List LogStep). SharesItsSteps journal by key t local xs proof.log) (sym is) (last_shared journal by key t pool parts local proof.log ends all)

  pub proof_shared : (step : Step) (reply : Reply) → (NeedsEvidence s reply → HasEvidence t pool s step reply) → (NeedsEvidence s reply → RestsOn t s step reply parts copies) → SharesItsProof journal by key t s step reply
  proof_shared Next (End number made) evidence rests proof local (same, not_ended, local_is) =
      let shared = over_pool made local (evidence not_ended).imports (subst (λ (cs : List (List Lit)). EndsWith parts cs made.log) (sym local_is) (rests not_ended)) in
      subst (λ (q : ProofOfEnd). SharesItsSteps journal by key t local q.pool q.log) (sym same) shared
  proof_shared (Augment name names) (Refused (NoInstance made)) evidence rests proof local (same, (floor, asked, local_is)) =
      let found = evidence tt in
      let ends = rests tt in
      let floors : ends.0 ≡ floor = one s name names ends.0 floor ends.1 asked in
      let local_ends : EndsWith parts local made.log = subst (λ (cs : List (List Lit)). EndsWith parts cs made.log) (ap units_of floors ∙ sym local_is) ends.2 in
      subst (λ (q : ProofOfEnd). SharesItsSteps journal by key t local q.pool q.log) (sym same) (over_pool made local found.2.imports local_ends)
  proof_shared step reply evidence rests proof local makes = absurd makes

-- ---- where an entry stands

only_element : {X : Type 0} (xs ys : List X) (x y : X) → xs ++ x ∷ ys ≡ y ∷ [] → (xs ≡ []) × (x ≡ y)
only_element [] ys x y e = (refl, cc)
only_element (z ∷ []) ys x y e = absurd cc
only_element (z ∷ w ∷ zs) ys x y e = absurd cc

module _ (lock : TableId) (a b : Seen) (idle : IsIdle lock a) (went : WentOn lock a b) (notes : List Note) (added : HasAddedAll a b notes) (key : ℕ) (t : Translated) (shares : SharesItsProofs idle.problems a.view.seen a.view.number key t) where
  abbrev n : ℕ
  n = a.view.number

  -- entries that record nothing
  pub shares_still : All (λ (note : Note). (step : Step) (reply : Reply) → note ≢ Recorded step reply) notes → SharesItsProofs idle.problems b.view.seen n key t
  shares_still quiet before step reply later s split replay =
      let more = since lock a b notes idle went added in
      elim (split_cases a.view.seen more.0 before (noted n (Recorded step reply)) later (sym more.1 ∙ split)) [
        | inl old ↦ shares before step reply old.0 s old.1 replay
        | inr new ↦
            let there : HasNoted more.0 n (Recorded step reply) = subst (λ (j : List Noted). Contains j (noted n (Recorded step reply))) (sym new.2) (Contains-append_right new.0 (noted n (Recorded step reply) ∷ later) (noted n (Recorded step reply)) (0, omega arith, refl)) in
            absurd (own_since n more.0 notes (λ (note : Note). (step : Step) (reply : Reply) → note ≢ Recorded step reply) more.2 quiet (Recorded step reply) there step reply refl)
      ]

  -- one record, of what the session may record behind all that the pass had seen
  pub shares_more : (step : Step) (reply : Reply) (s : State) → notes ≡ Recorded step reply ∷ [] → IsReplay idle.problems a.view.seen n key t.problem s → SharesItsProof a.view.seen n key t s step reply → SharesItsProofs idle.problems b.view.seen n key t
  shares_more step reply s notes_are replay shared before step' reply' later s' split replay' =
      let more = since lock a b notes idle went added in
      let O : List Noted → List Noted = of_pass (λ (x : Noted). x.by) n in
      let x : Noted = noted n (Recorded step' reply') in
      elim (split_cases a.view.seen more.0 before x later (sym more.1 ∙ split)) [
        | inl old ↦ shares before step' reply' old.0 s' old.1 replay'
        | inr new ↦
            let kept : O (x ∷ later) ≡ x ∷ O later = ap (λ (b : Bool). cond b (x ∷ O later) (O later)) (eq-eqb n n refl) in
            let own : O new.0 ++ x ∷ O later ≡ noted n (Recorded step reply) ∷ [] =
            ap (λ (es : List Noted). O new.0 ++ es) (sym kept) ∙ sym (filter-append (λ (y : Noted). y.by == n) new.0 (x ∷ later)) ∙ ap O (sym new.2) ∙ more.2 ∙ ap (map (noted n)) notes_are in
            let only = only_element (O new.0) (O later) x (noted n (Recorded step reply)) own in
            let same : Recorded step' reply' ≡ Recorded step reply = ap (λ (y : Noted). y.note) only.1 in
            let others = no_own n new.0 only.0 in
            let imports_nothing : ImportsNothing n new.0 key = λ steps there. All-contains (λ (y : Noted). y.by ≢ n) new.0 (noted n (Imported key steps)) others there refl in
            let legal : IsLegal idle.problems before = λ front y back e. subst (λ (ps : List Bounded). IsLegal ps b.view.seen) (same_problems lock a b idle went) went.idle.legal front y (back ++ x ∷ later) (split ∙ ap (λ (j : List Noted). j ++ x ∷ later) e ∙ append_assoc front (y ∷ back) (x ∷ later)) in
            let here : IsReplay idle.problems before n key t.problem s = subst (λ (j : List Noted). IsReplay idle.problems j n key t.problem s) (sym new.1) (replay_grows idle.problems a.view.seen new.0 n key t.problem s others replay) in
            let states = one_replay idle.problems before legal n key key t.problem t.problem s s' here replay' in
            let grown : SharesItsProof before n key t s step reply = λ proof local makes. subst (λ (j : List Noted). SharesItsSteps j n key t local proof.pool proof.log) (sym new.1) (steps_grow t n key local proof.pool proof.log a.view.seen new.0 imports_nothing (shared proof local makes)) in
            let steps : step ≡ step' = cc in
            let replies : reply ≡ reply' = cc in
            subst (λ (u : State). SharesItsProof before n key t u step' reply') states.2
            (subst (λ (r : Reply). SharesItsProof before n key t s step' r) replies (subst (λ (q : Step). SharesItsProof before n key t s q reply) steps grown))
      ]
