use Rattle.std.proofs.Common.{◌≡◌, inl, inr, Bool, List, length, nat_lt, cond, refl, sym, ◌∙◌, ap, subst}
use Rattle.std.proofs.lemmas.Bool.{cases_Bool}
use Rattle.hub_lock.specs.declared.view.View.{View}
use Rattle.hub_lock.specs.Passes.{of_pass, longer}
use Rattle.rel_formula.specs.Bounds.{Bounded}
use Rattle.hub_state.specs.Journal.Noted.{Noted}
use Rattle.hub_state.specs.Journal.Journal.{IsLegal}
use Rattle.hub_state.proofs.Journal.Prefixes.{nothing_before}
use Rattle.hub_turns.proofs.Going.{same_base}
use Rattle.hub_turns.proofs.laws.passes_stay_idle.Goals as goal

abbrev V : Type 0
V = View Noted (List Bounded)

abbrev OwnIs : V → Type 0
OwnIs v = of_pass (λ (x : Noted). x.by) v.number v.seen ≡ v.own

pub returns-clause-first : goal.returns-clause-first
returns-clause-first c lock problems p of_lock is = record {
  lock_is = of_lock;
  idle = ap (λ (v : V). v.turn) is;
  problems = problems;
  base_is = ap (λ (v : V). v.base) is;
  legal = subst (λ (v : V). IsLegal problems v.seen) (sym is) (nothing_before problems);
  own = subst OwnIs (sym is) refl;
}

pub returns-clause-split : goal.returns-clause-split
returns-clause-split c lock old new other idle locks is other_is none = (
  record {
    lock_is = locks.0 ∙ idle.lock_is;
    idle = ap (λ (v : V). v.turn) is ∙ idle.idle;
    problems = idle.problems;
    base_is = ap (λ (v : V). v.base) is ∙ idle.base_is;
    legal = subst (λ (v : V). IsLegal idle.problems v.seen) (sym is) idle.legal;
    own = subst OwnIs (sym is) idle.own;
  },
  record {
    lock_is = locks.1 ∙ idle.lock_is;
    idle = ap (λ (v : V). v.turn) other_is;
    problems = idle.problems;
    base_is = ap (λ (v : V). v.base) other_is ∙ idle.base_is;
    legal = subst (λ (v : V). IsLegal idle.problems v.seen) (sym other_is) idle.legal;
    own = subst OwnIs (sym other_is) none;
  },
)

longer_legal : (ps : List Bounded) (xs ys : List Noted) → IsLegal ps xs → IsLegal ps ys → IsLegal ps (longer xs ys)
longer_legal ps xs ys one two = elim (cases_Bool (nat_lt (length xs) (length ys))) [
  | inl t ↦ subst (λ (b : Bool). IsLegal ps (cond b ys xs)) (sym t) two
  | inr f ↦ subst (λ (b : Bool). IsLegal ps (cond b ys xs)) (sym f) one
]

pub returns-clause-joined : goal.returns-clause-joined
returns-clause-joined c lock old new other idle other_idle base of_lock is mine =
    let same = same_base other_idle.problems idle.problems old.view.base (base ∙ other_idle.base_is) idle.base_is in
    record {
      lock_is = of_lock ∙ idle.lock_is;
      idle = ap (λ (v : V). v.turn) is ∙ idle.idle;
      problems = idle.problems;
      base_is = ap (λ (v : V). v.base) is ∙ idle.base_is;
      legal = subst (λ (v : V). IsLegal idle.problems v.seen) (sym is) (longer_legal idle.problems old.view.seen other.view.seen idle.legal (subst (λ (ps : List Bounded). IsLegal ps other.view.seen) same other_idle.legal));
      own = subst (λ n. of_pass (λ (x : Noted). x.by) n new.view.seen ≡ new.view.own) (sym (ap (λ (v : V). v.number) is)) mine;
    }
