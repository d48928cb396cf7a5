-- What a pass without entries may add to a hub of that problem.
use Rattle.std.proofs.Common.{◌≡◌, ◌++◌, ℕ, Bool, cond, Some, List, [], ◌∷◌, length, append-nil, refl, sym, ◌∙◌, ap, subst, arith}
use Rattle.std.proofs.lemmas.Bool.{eq-eqb}
use Rattle.atomic_table.specs.Seated.{TableId}
use Rattle.hub_lock.specs.declared.view.View.{View}
use Rattle.hub_lock.specs.Passes.{PassView, splitting, split_off}
use Rattle.cnf_core.specs.declared.literal.Lit.{Lit}
use Rattle.refutation_check.specs.declared.log.Step.{Step as LogStep}
use Rattle.refutation_check.specs.Chain.{members_of, IsAccepted}
use Rattle.rel_formula.specs.Bounds.{Bounded}
use Rattle.translation_rules.specs.Translation.{Translated}
use Rattle.session_words.specs.declared.steps.Step.TheVariants.{Budget}
use Rattle.session_rules.specs.States.{Start}
use Rattle.session_rules.specs.Steps.{MachineRun, state_after}
use Rattle.session_rules.specs.declared.answers.Reply.TheVariants.{BudgetSet}
use Rattle.hub_state.specs.Journal.Noted.{Noted, Opened, Recorded}
use Rattle.hub_state.specs.Journal.Journal.{HasImported, IsReplay, exchanges_of, recorded_in}
use Rattle.hub_turns.specs.Turned.{IsIdle, WentOn, HasAdded, MayAdd}
use Rattle.hub_turns.proofs.Onward.{same_number}
use Rattle.hub_turns.proofs.OwnEntries.{own_of, own_replay}
use Rattle.hub_tests.proofs.Bottom.{always}
use Rattle.hub_tests.proofs.Ended.{noted}
use Rattle.hub_tests.proofs.Turned.{none_of}

abbrev pub Seen : Type 0
Seen = PassView Noted (List Bounded)

pub may_open_once : (lock : TableId) (p : Seen) → IsIdle lock p → p.view.own ≡ [] → p.view.base ≡ Some (always ∷ []) → MayAdd p (Opened 0 50)
may_open_once lock p idle none base = (
  always ∷ [],
  base,
  record {
    problem = always;
    of_key = refl;
    first = λ other budget there. none_of (λ (x : Noted). x.by) p.view.number p.view.seen (idle.own ∙ none) (noted p.view.number (Opened other budget)) there refl;
  },
)

none_recorded : (n : ℕ) → exchanges_of n (noted n (Opened 0 50) ∷ []) ≡ []
none_recorded n = ap (λ (b : Bool). cond b (recorded_in (Opened 0 50)) [] ++ []) (eq-eqb n n refl)

opened_alone : (n : ℕ) → IsReplay (always ∷ []) (noted n (Opened 0 50) ∷ []) n 0 always (Start 50)
opened_alone n = record {
  budget = 50;
  opened = (0, omega arith, refl);
  of_key = refl;
  run = subst (MachineRun always (Start 50)) (sym (none_recorded n)) tt;
  state = ap (state_after (Start 50)) (sym (none_recorded n));
}

-- and behind the opening it may set the budget
pub may_set : (lock : TableId) (old new : Seen) → WentOn lock old new → old.view.own ≡ [] → HasAdded old new (Opened 0 50) → old.view.base ≡ Some (always ∷ []) → MayAdd new (Recorded (Budget 7) (BudgetSet 7))
may_set lock old new went none added base =
    let n = new.view.number in
    let own : own_of n new.view.seen ≡ noted n (Opened 0 50) ∷ [] =
    went.idle.own ∙ added ∙ ap (λ (xs : List Noted). xs ++ noted old.view.number (Opened 0 50) ∷ []) none ∙ ap (λ (m : ℕ). noted m (Opened 0 50) ∷ []) (sym (same_number lock old new went)) in (
      always ∷ [],
      ap (λ (v : View Noted (List Bounded)). v.base) went.same ∙ base,
      record {
        key = 0;
        problem = always;
        old = Start 50;
        replay = own_replay (always ∷ []) new.view.seen n 0 always (Start 50) (subst (λ (j : List Noted). IsReplay (always ∷ []) j n 0 always (Start 50)) (sym own) (opened_alone n));
        may = refl;
        not_memory = λ e. cc;
        evidence = λ h. absurd h;
      },
    )

-- the base of a pass that is split off is that of the pass that it was split off from, also later
pub base_of_split : (lock : TableId) (old new off now : Seen) → new.view ≡ splitting old.view → off.view ≡ split_off old.view → WentOn lock off now → new.view.base ≡ now.view.base
base_of_split lock old new off now first other went =
    ap (λ (v : View Noted (List Bounded)). v.base) first ∙ sym (ap (λ (v : View Noted (List Bounded)). v.base) went.same ∙ ap (λ (v : View Noted (List Bounded)). v.base) other)

none_imported : (pool : List LogStep) → length pool ≡ 0 → pool ≡ []
none_imported [] none = refl
none_imported (s ∷ pool) none = absurd (omega arith)

-- steps over the translation's clauses go on from an import of no steps
pub goes_on_from_none : (lock : TableId) (before now : Seen) (t : Translated) (pool steps : List LogStep) (clauses : List (List Lit)) → WentOn lock before now → HasImported now.view.seen before.view.number 0 t pool → length pool ≡ 0 → clauses ≡ t.cnf.clauses → IsAccepted clauses steps →
    (u : Translated) × (imported : List LogStep) × HasImported now.view.seen now.view.number 0 u imported × (0 ≡ length imported) × IsAccepted (members_of u.cnf.clauses imported) steps
goes_on_from_none lock before now t pool steps clauses went has none same accepted = (
  t,
  pool,
  subst (λ (n : ℕ). HasImported now.view.seen n 0 t pool) (sym (same_number lock before now went)) has,
  sym none,
  subst (λ (p : List LogStep). IsAccepted (members_of t.cnf.clauses p) steps) (sym (none_imported pool none)) (subst (λ (cs : List (List Lit)). IsAccepted cs steps) (same ∙ sym (append-nil t.cnf.clauses)) accepted),
)
