-- What stands behind the replies that a session recorded.
use Rattle.std.proofs.Common.{◌≡◌, inl, inr, ◌==◌, ◌≤◌, ◌+◌, ℕ, Bool, true, not, cond, List, [], ◌∷◌, ◌++◌, length, take, drop, Contains, append-nil, append_assoc, length-take, take-append-drop, refl, sym, ◌∙◌, ap, subst, arith}
use Rattle.std.proofs.lemmas.Bool.{cases_Bool, eqb-true}
use Rattle.std.proofs.lemmas.Grind.{flat_map-append}
use Rattle.std.proofs.lemmas.List.Elements.{Contains-append_left}
use Rattle.std.proofs.lemmas.List.Sums.{sum_by-take-le}
use Rattle.refutation_check.specs.declared.log.Step.{Step as LogStep}
use Rattle.refutation_check.specs.Chain.{IsAccepted}
use Rattle.clause_pool.specs.Limits.{numbers_in}
use Rattle.clause_pool.proofs.Accepting.{front_accepted}
use Rattle.rel_formula.specs.Bounds.{Bounded}
use Rattle.translation_rules.specs.Translation.{Translated}
use Rattle.session_words.specs.declared.steps.Step.{Step}
use Rattle.session_rules.specs.States.{State, Start, after}
use Rattle.session_rules.specs.Steps.{Exchange, state_after}
use Rattle.session_rules.specs.Evidence.{NeedsEvidence, HasEvidence}
use Rattle.session_rules.specs.Transcripts.{is_memory, without_memory}
use Rattle.session_rules.specs.declared.answers.Reply.{Reply}
use Rattle.session_rules.specs.declared.answers.Reply.TheVariants.{Memory}
use Rattle.hub_state.specs.Journal.Noted.{Note, Published, Imported, Shared, Opened, Recorded, Noted}
use Rattle.hub_state.specs.Journal.Journal.{HasNoted, HasImported, IsPublished, IsPool, IsLegal, pool_of, recorded_in, exchanges_of}
use Rattle.hub_turns.specs.Backed.{AreBacked}
use Rattle.hub_state.proofs.Journal.Prefixes.{one_translation}
use Rattle.hub_state.proofs.Journal.Pools.{pool_right}
use Rattle.hub_state.proofs.Journal.FirstEntries.{opened_once}

-- what was imported is a pool over the key's translation
pub imported_pool : (problems : List Bounded) (journal : List Noted) → IsLegal problems journal → (by key : ℕ) (t : Translated) (pool : List LogStep) → HasImported journal by key t pool → IsPool t pool
imported_pool problems journal legal by key t pool has =
    let whole = pool_of key journal in
    let right = pool_right problems key journal legal t has.published in
    let parts : IsAccepted t.cnf.clauses (take has.steps whole ++ drop has.steps whole) = subst (IsAccepted t.cnf.clauses) (sym (take-append-drop has.steps whole)) right.accepted in
    let cut : List LogStep = take has.steps whole in
    let shorter : length cut ≤ length whole = let long = length-take has.steps whole in omega arith in
    let fewer : numbers_in cut ≤ numbers_in whole = sum_by-take-le (λ (s : LogStep). length s.clause + length s.hints) whole has.steps in
    let front : IsPool t cut = record {
      accepted = front_accepted t.cnf.clauses cut (drop has.steps whole) parts;
      limits = record { few_steps = let most = right.limits.few_steps in omega arith; few_numbers = let most = right.limits.few_numbers in omega arith };
    } in
    subst (IsPool t) (sym has.prefix) front

module _ (t : Translated) where
  -- one run after the other
  pub backed_joined : (s : State) (xs ys : List Exchange) → AreBacked t s xs → AreBacked t (state_after s xs) ys → AreBacked t s (xs ++ ys)
  backed_joined s [] ys backed later = later
  backed_joined s (x ∷ xs) ys (first, backed) later = (first, backed_joined (after s x.reply) xs ys backed later)

memory_is : (reply : Reply) → is_memory reply ≡ true → reply ≡ Memory
memory_is Memory wanting = refl
memory_is reply wanting = absurd cc

-- what wants memory needs nothing behind it
pub backed_with_memory : (t : Translated) (s : State) (xs : List Exchange) → AreBacked t s (without_memory xs) → AreBacked t s xs
backed_with_memory t s [] backed = tt
backed_with_memory t s (x ∷ xs) backed = elim (cases_Bool (is_memory x.reply)) [
  | inl wanting ↦
      let is : x.reply ≡ Memory = memory_is x.reply wanting in
      let rest : AreBacked t s (without_memory xs) = subst (λ (b : Bool). AreBacked t s (cond (not b) (x ∷ without_memory xs) (without_memory xs))) wanting backed in
      (λ needs. absurd (subst (NeedsEvidence s) is needs), subst (λ (u : State). AreBacked t u xs) (sym (ap (after s) is)) (backed_with_memory t s xs rest))
  | inr enough ↦
      let both : AreBacked t s (x ∷ without_memory xs) = subst (λ (b : Bool). AreBacked t s (cond (not b) (x ∷ without_memory xs) (without_memory xs))) enough backed in
      (both.0, backed_with_memory t (after s x.reply) xs both.1)
]

module _ (problems : List Bounded) (t : Translated) (number key budget : ℕ) (journal : List Noted) (legal : IsLegal problems journal) (opened : HasNoted journal number (Opened key budget)) (there : IsPublished journal key t) where
  front_legal : (front rest : List Noted) → journal ≡ front ++ rest → IsLegal problems front
  front_legal front rest split before y later s = legal before y (later ++ rest) (split ∙ ap (λ (j : List Noted). j ++ rest) s ∙ append_assoc before (y ∷ later) rest)

  in_all : (front rest : List Noted) → journal ≡ front ++ rest → (x : Noted) → Contains front x → Contains journal x
  in_all front rest split x c = subst (λ (j : List Noted). Contains j x) (sym split) (Contains-append_left front rest x c)

  -- what a session records is backed in the state that it has reached
  backed_entry : (front : List Noted) (step : Step) (reply : Reply) (rest : List Noted) → journal ≡ front ++ record { by = number; note = Recorded step reply } ∷ rest →
      NeedsEvidence (state_after (Start budget) (exchanges_of number front)) reply → (pool : List LogStep) × IsPool t pool × HasEvidence t pool (state_after (Start budget) (exchanges_of number front)) step reply
  backed_entry front step reply rest split needs =
      let x : Noted = record { by = number; note = Recorded step reply } in
      let r = legal front x rest split in
      let one = opened_once problems journal legal number r.key r.replay.budget key budget (in_all front (x ∷ rest) split (record { by = number; note = Opened r.key r.replay.budget }) r.replay.opened) opened in
      let old : r.old ≡ state_after (Start budget) (exchanges_of number front) = r.replay.state ∙ ap (λ (b : ℕ). state_after (Start b) (exchanges_of number front)) one.1 in
      let found = r.evidence (subst (λ (s : State). NeedsEvidence s reply) (sym old) needs) in
      let has : HasImported front number r.key found.0 found.1 = found.2 in
      let published : IsPublished journal key found.0 =
      subst (λ (k : ℕ). IsPublished journal k found.0) one.0 (has.published.0, in_all front (x ∷ rest) split (record { by = has.published.0; note = Published r.key found.0 }) has.published.1) in
      let same : found.0 ≡ t = one_translation problems journal legal key found.0 t published there in
      let right : IsPool found.0 found.1 = imported_pool problems front (front_legal front (x ∷ rest) split) number r.key found.0 found.1 has in
      (found.1, subst (λ (u : Translated). IsPool u found.1) same right, subst (λ (s : State). HasEvidence t found.1 s step reply) old (subst (λ (u : Translated). HasEvidence u found.1 r.old step reply) same found.3))

  backed_note : (front : List Noted) (note : Note) (rest : List Noted) → journal ≡ front ++ record { by = number; note = note } ∷ rest →
      AreBacked t (Start budget) (exchanges_of number front) → AreBacked t (Start budget) (exchanges_of number front ++ recorded_in note)
  backed_note front (Recorded step reply) rest split backed = backed_joined t (Start budget) (exchanges_of number front) (record { step = step; reply = reply } ∷ []) backed (backed_entry front step reply rest split, tt)
  backed_note front (Published k u) rest split backed = subst (AreBacked t (Start budget)) (sym (append-nil (exchanges_of number front))) backed
  backed_note front (Imported k n) rest split backed = subst (AreBacked t (Start budget)) (sym (append-nil (exchanges_of number front))) backed
  backed_note front (Shared k steps) rest split backed = subst (AreBacked t (Start budget)) (sym (append-nil (exchanges_of number front))) backed
  backed_note front (Opened k b) rest split backed = subst (AreBacked t (Start budget)) (sym (append-nil (exchanges_of number front))) backed

  -- one entry more
  backed_more : (front : List Noted) (x : Noted) (rest : List Noted) → journal ≡ front ++ x ∷ rest → AreBacked t (Start budget) (exchanges_of number front) → AreBacked t (Start budget) (exchanges_of number (front ++ x ∷ []))
  backed_more front x rest split backed =
      let grown : exchanges_of number (front ++ x ∷ []) ≡ exchanges_of number front ++ cond (x.by == number) (recorded_in x.note) [] =
      flat_map-append (λ (y : Noted). cond (y.by == number) (recorded_in y.note) []) front (x ∷ []) ∙ ap (λ (es : List Exchange). exchanges_of number front ++ es) (append-nil (cond (x.by == number) (recorded_in x.note) [])) in
      subst (AreBacked t (Start budget)) (sym grown) (elim (cases_Bool (x.by == number)) [
        | inl same ↦
            let by : x.by ≡ number = eqb-true x.by number same in
            subst (λ (b : Bool). AreBacked t (Start budget) (exchanges_of number front ++ cond b (recorded_in x.note) [])) (sym same)
            (backed_note front x.note rest (subst (λ (n : ℕ). journal ≡ front ++ record { by = n; note = x.note } ∷ rest) by split) backed)
        | inr other ↦
            subst (λ (b : Bool). AreBacked t (Start budget) (exchanges_of number front ++ cond b (recorded_in x.note) [])) (sym other)
            (subst (AreBacked t (Start budget)) (sym (append-nil (exchanges_of number front))) backed)
      ])

  backed_from : (front rest : List Noted) → journal ≡ front ++ rest → AreBacked t (Start budget) (exchanges_of number front) → AreBacked t (Start budget) (exchanges_of number journal)
  backed_from front [] split backed = subst (λ (j : List Noted). AreBacked t (Start budget) (exchanges_of number j)) (sym (split ∙ append-nil front)) backed
  backed_from front (x ∷ xs) split backed = backed_from (front ++ x ∷ []) xs (split ∙ sym (append_assoc front (x ∷ []) xs)) (backed_more front x xs split backed)

  -- all that the session recorded
  pub recorded_backed : AreBacked t (Start budget) (exchanges_of number journal)
  recorded_backed = backed_from [] journal refl tt
