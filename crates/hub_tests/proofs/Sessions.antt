-- The journal of the first session, entry by entry.
use Rattle.std.proofs.Common.{◌≡◌, ◌⊎◌, inl, inr, ◌≤◌, ℕ, List, [], ◌∷◌, ◌++◌, length, take, All, append-nil, refl, sym, ◌∙◌, ap, subst, arith}
use Rattle.std.proofs.lemmas.List.Elements.{All-nil, All-cons, All-push}
use Rattle.cnf_core.specs.declared.literal.Lit.{Lit}
use Rattle.refutation_check.specs.declared.log.Step.{Step as LogStep}
use Rattle.refutation_check.specs.Chain.{members_of, IsAccepted}
use Rattle.translation_rules.specs.Translation.{Translated}
use Rattle.session_words.specs.declared.steps.Step.TheVariants.{Next}
use Rattle.session_rules.specs.ProofOfEnd.{ProofOfEnd}
use Rattle.session_rules.specs.declared.answers.Reply.TheVariants.{Shown, End}
use Rattle.hub_state.specs.Journal.Noted.{Note, Noted, Published, Imported, Shared, Opened, Recorded}
use Rattle.hub_state.specs.Journal.Journal.{IsPublished, pool_of}
use Rattle.hub_state.specs.HubView.{HubView, with_entry, HasTranslation, IsPublishing, GoesOn}
use Rattle.hub_state.proofs.GrowingJournals.{note_is, only_one}
use Rattle.hub_state.proofs.Appending.{seen}
use Rattle.hub_tests.proofs.Bottom.{always}
use Rattle.hub_tests.proofs.Ended.{noted, imported, shown_once, showing, ending, end_of}

pub opened_is : (old new : HubView) → old ≡ seen (always ∷ []) [] → new ≡ with_entry old 1 (Opened 0 5) → new ≡ seen (always ∷ []) (noted 1 (Opened 0 5) ∷ [])
opened_is old new was is = is ∙ ap (λ (h : HubView). with_entry h 1 (Opened 0 5)) was

pub published_is : (old new : HubView) (t kept : Translated) → old ≡ seen (always ∷ []) (noted 1 (Opened 0 5) ∷ []) → IsPublishing old 1 0 t new kept →
    new ≡ seen (always ∷ []) (noted 1 (Opened 0 5) ∷ noted 1 (Published 0 t) ∷ [])
published_is old new t kept was is = elim is [
  | inl first ↦ first.1 ∙ ap (λ (h : HubView). with_entry h 1 (Published 0 t)) was
  | inr again ↦
      let there = subst (λ (h : HubView). IsPublished h.journal 0 kept) was again.0 in
      let note : Opened 0 5 ≡ Published 0 kept = note_is (noted 1 (Opened 0 5)) (noted there.0 (Published 0 kept)) (only_one (noted 1 (Opened 0 5)) (noted there.0 (Published 0 kept)) there.1) in
      absurd cc
]

pub imported_is : (old new : HubView) (t : Translated) → old ≡ seen (always ∷ []) (noted 1 (Opened 0 5) ∷ noted 1 (Published 0 t) ∷ []) →
    new ≡ with_entry old 1 (Imported 0 (length (pool_of 0 old.journal))) → new ≡ seen (always ∷ []) (imported t)
imported_is old new t was is = is ∙ ap (λ (h : HubView). with_entry h 1 (Imported 0 (length (pool_of 0 h.journal)))) was

pub shown_is : (old new : HubView) (t : Translated) → old ≡ seen (always ∷ []) (imported t) → new ≡ with_entry old 1 showing → new ≡ seen (always ∷ []) (shown_once t)
shown_is old new t was is = is ∙ ap (λ (h : HubView). with_entry h 1 showing) was

abbrev pub ended : Translated → List Noted
ended t = noted 1 (Opened 0 5) ∷ noted 1 (Published 0 t) ∷ noted 1 (Imported 0 0) ∷ noted 1 showing ∷ noted 1 (ending t) ∷ []

pub ended_is : (old new : HubView) (t : Translated) → old ≡ seen (always ∷ []) (shown_once t) → new ≡ with_entry old 1 (ending t) → new ≡ seen (always ∷ []) (ended t)
ended_is old new t was is = is ∙ ap (λ (h : HubView). with_entry h 1 (ending t)) was

there_at_end : (t : Translated) → IsPublished (ended t) 0 t
there_at_end t = (1, (1, omega arith, refl))

pub published_there : (hub : HubView) (t : Translated) → hub ≡ seen (always ∷ []) (ended t) → IsPublished hub.journal 0 t
published_there hub t is = subst (λ (h : HubView). IsPublished h.journal 0 t) (sym is) (there_at_end t)

-- steps over the translation's clauses go on from the start of any pool
pub goes_on : (journal : List Noted) (key : ℕ) (t : Translated) (free : List LogStep) (clauses : List (List Lit)) → IsPublished journal key t → clauses ≡ t.cnf.clauses → IsAccepted clauses free → GoesOn journal key 0 free
goes_on journal key t free clauses there same accepted = record {
  translation = t;
  published = there;
  within = omega arith;
  accepted = subst (λ (cs : List (List Lit)). IsAccepted cs free) (same ∙ sym (append-nil t.cnf.clauses)) accepted;
}

own_entries : (t : Translated) → All (λ (x : Noted). x.by ≡ 1) (ended t)
own_entries t =
    let Own : Noted → Type 0 = λ (x : Noted). x.by ≡ 1 in
    let last = All-cons Own (noted 1 (ending t)) [] refl (All-nil Own) in
    let fourth = All-cons Own (noted 1 showing) (noted 1 (ending t) ∷ []) refl last in
    let third = All-cons Own (noted 1 (Imported 0 0)) (noted 1 showing ∷ noted 1 (ending t) ∷ []) refl fourth in
    let second = All-cons Own (noted 1 (Published 0 t)) (noted 1 (Imported 0 0) ∷ noted 1 showing ∷ noted 1 (ending t) ∷ []) refl third in
    All-cons Own (noted 1 (Opened 0 5)) (noted 1 (Published 0 t) ∷ noted 1 (Imported 0 0) ∷ noted 1 showing ∷ noted 1 (ending t) ∷ []) refl second

-- the hub of these calls, in order, up to the end
pub after_import : (hub0 hub1 hub2 hub3 : HubView) (t kept : Translated) → hub0 ≡ seen (always ∷ []) [] → hub1 ≡ with_entry hub0 1 (Opened 0 5) → IsPublishing hub1 1 0 t hub2 kept →
    hub3 ≡ with_entry hub2 1 (Imported 0 (length (pool_of 0 hub2.journal))) → hub3 ≡ seen (always ∷ []) (imported t)
after_import hub0 hub1 hub2 hub3 t kept first opened published imports = imported_is hub2 hub3 t (published_is hub1 hub2 t kept (opened_is hub0 hub1 first opened) published) imports

pub after_showing : (hub3 hub4 : HubView) (t : Translated) (s : List ℕ) → s ≡ [] → hub3 ≡ seen (always ∷ []) (imported t) → hub4 ≡ with_entry hub3 1 (Recorded Next (Shown 1 s)) → hub4 ≡ seen (always ∷ []) (shown_once t)
after_showing hub3 hub4 t s none was is = shown_is hub3 hub4 t was (is ∙ ap (λ (x : List ℕ). with_entry hub3 1 (Recorded Next (Shown 1 x))) none)

pub after_ending : (hub4 hub5 : HubView) (t : Translated) (proof : ProofOfEnd) → proof ≡ end_of t → hub4 ≡ seen (always ∷ []) (shown_once t) → hub5 ≡ with_entry hub4 1 (Recorded Next (End 1 proof)) → hub5 ≡ seen (always ∷ []) (ended t)
after_ending hub4 hub5 t proof same was is = ended_is hub4 hub5 t was (is ∙ ap (λ (x : ProofOfEnd). with_entry hub4 1 (Recorded Next (End 1 x))) same)

pub last_problems : (old new : HubView) (t : Translated) (note : Note) → old ≡ seen (always ∷ []) (ended t) → new ≡ with_entry old 1 note → new.problems ≡ always ∷ []
last_problems old new t note was is = ap (λ (h : HubView). h.problems) (is ∙ ap (λ (h : HubView). with_entry h 1 note) was)

pub last_own : (old new : HubView) (t : Translated) (note : Note) → old ≡ seen (always ∷ []) (ended t) → new ≡ with_entry old 1 note → All (λ (x : Noted). x.by ≡ 1) new.journal
last_own old new t note was is =
    subst (λ (h : HubView). All (λ (x : Noted). x.by ≡ 1) h.journal) (sym (is ∙ ap (λ (h : HubView). with_entry h 1 note) was)) (All-push (λ (x : Noted). x.by ≡ 1) (ended t) (noted 1 note) (own_entries t) refl)

pub last_published : (old new : HubView) (t : Translated) (note : Note) → old ≡ seen (always ∷ []) (ended t) → new ≡ with_entry old 1 note → HasTranslation new.journal 0
last_published old new t note was is =
    subst (λ (h : HubView). HasTranslation h.journal 0) (sym (is ∙ ap (λ (h : HubView). with_entry h 1 note) was)) (t, (1, (1, omega arith, refl)))
