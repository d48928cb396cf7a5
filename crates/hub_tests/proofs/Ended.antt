-- The journal of a session on that problem, up to its end.
use Rattle.std.proofs.Common.{◌≡◌, ◌≢◌, ◌⊎◌, inl, inr, ◌<◌, ◌≤◌, ◌+◌, ◌-◌, ℕ, zero, suc, true, false, Some, None, List, [], ◌∷◌, ◌++◌, map, length, get_or, take, All, Contains, append-nil, length-append, refl, sym, ◌∙◌, ap, subst, arith}
use Rattle.std.specs.Prelude.{slice_get}
use Rattle.std.proofs.lemmas.List.{get_or_push}
use Rattle.std.proofs.lemmas.List.Elements.{All-nil, All-cons, All-contains, All-weaker}
use Rattle.std.proofs.lemmas.Option.{none-some, slice_get-get_or}
use Rattle.cnf_core.specs.declared.literal.Lit.{Lit}
use Rattle.refutation_check.specs.declared.log.Step.{Step as LogStep}
use Rattle.refutation_check.specs.Chain.{members_of, IsChain, IsAccepted, IsRefutation}
use Rattle.refutation_check.specs.SearchLog.{IsNovelButLast}
use Rattle.rel_formula.specs.Bounds.{Bounded}
use Rattle.swap_symmetry.specs.Due.{IsDue}
use Rattle.translation_rules.specs.Translation.{Translated}
use Rattle.translation_rules.specs.Locals.{locals_of}
use Rattle.translation.specs.Kept.{IsTranslation}
use Rattle.session_words.specs.declared.steps.Step.TheVariants.{Next}
use Rattle.session_rules.specs.ProofOfEnd.{ProofOfEnd}
use Rattle.session_rules.specs.States.{State, Start, after}
use Rattle.session_rules.specs.Proofs.{IsCopy, RefutesWith}
use Rattle.session_rules.specs.declared.answers.Reply.TheVariants.{Shown, End, Memory}
use Rattle.hub_state.specs.Journal.Noted.{Note, Noted, Published, Imported, Shared, Opened, Recorded}
use Rattle.hub_state.specs.Journal.Journal.{HasNoted, IsPublished, Opens, Records}
use Rattle.hub_state.proofs.GrowingJournals.{note_is, only_one}
use Rattle.hub_tests.proofs.Bottom.{always, no_cells, empty_is_due, no_swaps, blocked}

abbrev pub noted : ℕ → Note → Noted
noted by note = record { by = by; note = note }

-- the session has opened, published and imported; then it shows the empty scenario; then it ends
abbrev pub imported : Translated → List Noted
imported t = noted 1 (Opened 0 5) ∷ noted 1 (Published 0 t) ∷ noted 1 (Imported 0 0) ∷ []

abbrev pub showing : Note
showing = Recorded Next (Shown 1 [])

abbrev pub shown_once : Translated → List Noted
shown_once t = noted 1 (Opened 0 5) ∷ noted 1 (Published 0 t) ∷ noted 1 (Imported 0 0) ∷ noted 1 showing ∷ []

-- an empty clause, from the clause of this number
abbrev pub emptied : ℕ → LogStep
emptied hint = record { clause = []; hints = hint ∷ [] }

abbrev pub with_log : ℕ → ProofOfEnd
with_log hint = record { imported = 0; blocked = [] ∷ []; pool = []; log = emptied hint ∷ [] }

abbrev pub end_of : Translated → ProofOfEnd
end_of t = with_log (length t.cnf.clauses + 1)

abbrev pub ending : Translated → Note
ending t = Recorded Next (End 1 (end_of t))

not_true : false ≡ true → ⊥
not_true e = cc

-- a session may open where all entries are those of others
pub may_open : (by : ℕ) (journal : List Noted) → All (λ (x : Noted). x.by ≢ by) journal → Opens (always ∷ []) journal by 0
may_open by journal others = record {
  problem = always;
  of_key = refl;
  first = λ other budget there. All-contains (λ (x : Noted). x.by ≢ by) journal (noted by (Opened other budget)) others there refl;
}

pub may_show : (t : Translated) → Records (always ∷ []) (imported t) 1 Next (Shown 1 [])
may_show t = record {
  key = 0;
  problem = always;
  old = Start 5;
  replay = record { budget = 5; opened = (0, omega arith, refl); of_key = refl; run = tt; state = refl };
  may = record { not_ended = not_true; due = empty_is_due; fresh = λ h. absurd (let inside = h.1 in omega arith); place = refl };
  not_memory = λ e. cc;
  evidence = λ h. absurd h;
}

chain : (clauses : List (List Lit)) (hint : ℕ) → hint ≡ length clauses + 1 → IsChain (members_of (clauses ++ [] ∷ []) []) [] (hint ∷ [])
chain clauses hint e =
    let all : List (List Lit) = clauses ++ [] ∷ [] in
    let at : hint - 1 ≡ length clauses = omega arith in
    let inside : hint - 1 < length all = let long = length-append clauses ([] ∷ []) in omega arith in
    let found : slice_get all (hint - 1) ≡ Some [] = slice_get-get_or all (hint - 1) [] inside ∙ ap Some (get_or_push clauses [] [] (hint - 1) (sym at)) in
    record {
      before = [];
      last = hint;
      after = [];
      in_order = refl;
      reached = refl;
      refuted = record {
        clause = [];
        named = (omega arith, subst (λ (xs : List (List Lit)). slice_get xs (hint - 1) ≡ Some []) (sym (append-nil all)) found);
        falsified = All-nil (Contains []);
      };
    }

accepted : (clauses : List (List Lit)) (hint : ℕ) → hint ≡ length clauses + 1 → IsAccepted (clauses ++ [] ∷ []) (emptied hint ∷ [])
accepted clauses hint e zero d inside = chain clauses hint e
accepted clauses hint e (suc i) d inside = absurd (omega arith)

novel : (members : List (List Lit)) (hint : ℕ) → IsNovelButLast members (emptied hint ∷ [])
novel members hint zero s is =
    let same : emptied hint ≡ s = cc in
    inr (refl, sym (ap (λ (x : LogStep). x.clause) same))
novel members hint (suc i) s is = absurd (none-some s is)

refutes : (t : Translated) → t.swaps ≡ [] → RefutesWith t (locals_of t [] ([] ∷ [])) (end_of t)
refutes t none =
    let hint = length t.cnf.clauses + 1 in
    let refutes_with : RefutesWith t ([] ∷ []) (end_of t) = record {
      imported = refl;
      refutation = (accepted t.cnf.clauses hint refl, (emptied hint, refl, refl));
      novel = novel (members_of (t.cnf.clauses ++ [] ∷ []) []) hint;
    } in
    subst (λ (local : List (List Lit)). RefutesWith t local (end_of t)) (sym (blocked t none)) refutes_with

pub may_end : (t : Translated) → IsTranslation t → t.problem ≡ always → Records (always ∷ []) (shown_once t) 1 Next (End 1 (end_of t))
may_end t is e = record {
  key = 0;
  problem = always;
  old = after (Start 5) (Shown 1 []);
  replay = record {
    budget = 5;
    opened = (0, omega arith, refl);
    of_key = refl;
    run = (record { not_ended = not_true; due = empty_is_due; fresh = λ h. absurd (let inside = h.1 in omega arith); place = refl }, tt);
    state = refl;
  };
  may = (refl, inr (record { not_ended = not_true; all_shown = λ x due. (0, omega arith, sym (no_cells x due.minimal.instance_of.scenario)) }));
  not_memory = λ e. cc;
  evidence = λ needs. (
    t,
    [],
    record {
      published = (1, (1, omega arith, refl));
      steps = 0;
      imported = record {
        before = noted 1 (Opened 0 5) ∷ noted 1 (Published 0 t) ∷ [];
        after = noted 1 showing ∷ [];
        split = refl;
        last = λ n there. let notes : showing ≡ Imported 0 n = note_is (noted 1 showing) (noted 1 (Imported 0 n)) (only_one (noted 1 showing) (noted 1 (Imported 0 n)) there) in cc;
      };
      prefix = refl;
    },
    record {
      imports = refl;
      proves = refutes t (no_swaps t is e);
      covered = All-cons (λ (s : List ℕ). Contains ([] ∷ []) s ⊎ IsCopy t.problem [] ([] ∷ []) s) [] [] (inl (0, omega arith, refl)) (All-nil (λ (s : List ℕ). Contains ([] ∷ []) s ⊎ IsCopy t.problem [] ([] ∷ []) s));
    },
  );
}

-- entries of session 1 aren't those of session 2
pub others_of : (journal : List Noted) → All (λ (x : Noted). x.by ≡ 1) journal → All (λ (x : Noted). x.by ≢ 2) journal
others_of journal own = All-weaker (λ (x : Noted). x.by ≡ 1) (λ (x : Noted). x.by ≢ 2) (λ x is other. omega arith) journal own
