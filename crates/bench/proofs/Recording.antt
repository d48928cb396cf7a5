-- A journal of sessions, each of which is opened and then shown the empty scenario.
use Rattle.std.proofs.Common.{◌≡◌, ◌≢◌, ◌<◌, ◌+◌, ◌*◌, ◌==◌, if◌then◌else◌, ℕ, Bool, true, false, List, [], ◌∷◌, ◌++◌, length, All, length-append, refl, sym, ◌∙◌, ap, subst, arith}
use Rattle.std.proofs.lemmas.Bool.{ne_eqb, eq-eqb}
use Rattle.std.proofs.lemmas.Grind.{flat_map-append}
use Rattle.std.proofs.lemmas.List.Elements.{All-nil, All-cons, All-append, All-head, All-tail, All-weaker, All-contains, Contains-push}
use Rattle.rel_formula.specs.Kernel.{conjunction, no_formulas}
use Rattle.rel_formula.specs.Bounds.{Bounded}
use Rattle.rel_formula.proofs.Lists.{pairs_nil}
use Rattle.swap_symmetry.specs.Due.{IsDue}
use Rattle.session_words.specs.declared.steps.Step.TheVariants.{Next}
use Rattle.session_rules.specs.States.{Start}
use Rattle.session_rules.specs.Steps.{Exchange, MachineRun, state_after}
use Rattle.session_rules.specs.declared.answers.Reply.TheVariants.{Shown}
use Rattle.hub_state.specs.Journal.Noted.{Note, Noted, Opened, Recorded}
use Rattle.hub_state.specs.Journal.Journal.{Opens, Records, exchanges_of, recorded_in}
use Rattle.hub_state.specs.HubView.{HubView}
use Rattle.translation_cache.proofs.BareProblems.{bare, no_atoms}
use Rattle.bench.specs.Journals.{with_session}

abbrev pub always : Bounded
always = bare (conjunction no_formulas)

abbrev noted : ℕ → Note → Noted
noted by note = record { by = by; note = note }

abbrev AreOthers : ℕ → List Noted → Type 0
AreOthers by journal = All (λ (x : Noted). x.by ≢ by) journal

-- the entries of earlier sessions are those of others
others : (by : ℕ) (journal : List Noted) → All (λ (x : Noted). x.by < by) journal → AreOthers by journal
others by journal earlier = All-weaker (λ (x : Noted). x.by < by) (λ (x : Noted). x.by ≢ by) (λ x below same. omega arith) journal earlier

empty_is_due : IsDue always [] []
empty_is_due = record {
  minimal = record {
    instance_of = record { scenario = record { cells = All-nil (λ (n : ℕ). n < 0); rising = pairs_nil (λ (m n : ℕ). m < n) }; holds = tt };
    above = λ n h. h;
    least = λ t is above part. above;
  };
  settled = λ a b pair earlier. no_atoms (conjunction no_formulas) a pair.0.first;
}

-- others recorded nothing of the session's own
nothing_recorded : (by : ℕ) (journal : List Noted) → AreOthers by journal → exchanges_of by journal ≡ []
nothing_recorded by [] h = refl
nothing_recorded by (x ∷ xs) h =
    let other : (x.by == by) ≡ false = ne_eqb x.by by (All-head (λ (y : Noted). y.by ≢ by) x xs h) in
    ap (λ (b : Bool). (if b then recorded_in x.note else []) ++ exchanges_of by xs) other ∙ nothing_recorded by xs (All-tail (λ (y : Noted). y.by ≢ by) x xs h)

-- nor does the session where it is opened
opened_alone : (by : ℕ) (journal : List Noted) → AreOthers by journal → exchanges_of by (journal ++ noted by (Opened 0 5) ∷ []) ≡ []
opened_alone by journal h =
    flat_map-append (λ (x : Noted). if x.by == by then recorded_in x.note else []) journal (noted by (Opened 0 5) ∷ [])
    ∙ ap (λ (xs : List Exchange). xs ++ exchanges_of by (noted by (Opened 0 5) ∷ [])) (nothing_recorded by journal h)
    ∙ ap (λ (b : Bool). (if b then recorded_in (Opened 0 5) else []) ++ []) (eq-eqb by by refl)

pub may_open : (by : ℕ) (journal : List Noted) → All (λ (x : Noted). x.by < by) journal → Opens (always ∷ []) journal by 0
may_open by journal earlier = record {
  problem = always;
  of_key = refl;
  first = λ other budget there. All-contains (λ (x : Noted). x.by ≢ by) journal (noted by (Opened other budget)) (others by journal earlier) there refl;
}

not_true : false ≡ true → ⊥
not_true e = cc

pub may_show : (by : ℕ) (journal : List Noted) → All (λ (x : Noted). x.by < by) journal → Records (always ∷ []) (journal ++ noted by (Opened 0 5) ∷ []) by Next (Shown 1 [])
may_show by journal earlier =
    let none = opened_alone by journal (others by journal earlier) in
    record {
      key = 0;
      problem = always;
      old = Start 5;
      replay = record {
        budget = 5;
        opened = Contains-push journal (noted by (Opened 0 5));
        of_key = refl;
        run = subst (MachineRun always (Start 5)) (sym none) tt;
        state = sym (ap (state_after (Start 5)) none);
      };
      may = record { not_ended = not_true; due = empty_is_due; fresh = λ h. absurd (let inside = h.1 in omega arith); place = refl };
      not_memory = λ e. cc;
      evidence = λ h. absurd h;
    }

-- the sessions so far: two entries for each
pub record HasSessions (hub : HubView) (count : ℕ) : Type 0 where
  pub problems : hub.problems ≡ always ∷ []
  pub earlier : All (λ (x : Noted). x.by < count) hub.journal
  pub entries : length hub.journal ≡ 2 * count

pub no_sessions : HasSessions (record { problems = always ∷ []; journal = [] }) 0
no_sessions = record { problems = refl; earlier = All-nil (λ (x : Noted). x.by < 0); entries = refl }

pub one_more : (hub : HubView) (by : ℕ) → HasSessions hub by → HasSessions (with_session hub by) (by + 1)
one_more hub by has =
    let B : Noted → Type 0 = λ x. x.by < by + 1 in
    let x : Noted = noted by (Opened 0 5) in
    let y : Noted = noted by (Recorded Next (Shown 1 [])) in
    let below : by < by + 1 = omega arith in
    let old : All B hub.journal = All-weaker (λ (z : Noted). z.by < by) B (λ z h. omega arith) hub.journal has.earlier in
    let first : All B (hub.journal ++ x ∷ []) = All-append B hub.journal (x ∷ []) old (All-cons B x [] below (All-nil B)) in
    record {
      problems = has.problems;
      earlier = All-append B (hub.journal ++ x ∷ []) (y ∷ []) first (All-cons B y [] below (All-nil B));
      entries = let e = has.entries in let n = length-append hub.journal (x ∷ []) in let m = length-append (hub.journal ++ x ∷ []) (y ∷ []) in omega arith;
    }
