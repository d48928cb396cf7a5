-- Turns of a pass, one after the other.
use Rattle.std.proofs.Common.{◌≡◌, List, refl, ◌∙◌, ap}
use base.Growing.{prefix_refl, prefix_trans}
use Rattle.atomic_table.specs.Seated.{TableId}
use Rattle.hub_lock.specs.declared.view.View.{View}
use Rattle.hub_lock.specs.Passes.{PassView, moved}
use Rattle.rel_formula.specs.Bounds.{Bounded}
use Rattle.hub_state.specs.Journal.Noted.{Noted}
use Rattle.hub_turns.specs.Turned.{IsIdle, WentOn}
use Rattle.hub_turns.proofs.Going.{same_base}

abbrev Seen : Type 0
Seen = PassView Noted (List Bounded)

pub went_none : (lock : TableId) (p : Seen) → IsIdle lock p → WentOn lock p p
went_none lock p idle = record { idle = idle; same = refl; seen = prefix_refl p.view.seen }

pub went_then : (lock : TableId) (a b c : Seen) → WentOn lock a b → WentOn lock b c → WentOn lock a c
went_then lock a b c first then' = record {
  idle = then'.idle;
  same = then'.same ∙ ap (λ (v : View Noted (List Bounded)). moved v c.view.seen c.view.own v.turn) first.same;
  seen = prefix_trans a.view.seen b.view.seen c.view.seen first.seen then'.seen;
}

pub same_number : (lock : TableId) (a b : Seen) → WentOn lock a b → b.view.number ≡ a.view.number
same_number lock a b went = ap (λ (v : View Noted (List Bounded)). v.number) went.same

pub same_problems : (lock : TableId) (a b : Seen) (idle : IsIdle lock a) (went : WentOn lock a b) → went.idle.problems ≡ idle.problems
same_problems lock a b idle went = same_base went.idle.problems idle.problems b.view.base went.idle.base_is (ap (λ (v : View Noted (List Bounded)). v.base) went.same ∙ idle.base_is)
