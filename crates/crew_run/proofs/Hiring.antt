-- Passes that are split off and taken back.
use Rattle.std.proofs.Common.{◌≡◌, ◌≤◌, ◌+◌, ◌-◌, ℕ, Option, List, [], All, refl, ◌∙◌, ap, arith}
use Rattle.atomic_table.specs.Seated.{TableId}
use Rattle.hub_lock.specs.Passes.{first_view, splitting, split_off, joining}
use Rattle.crew_run.specs.declared.event.CrewEntry.{CrewEntry}
use Rattle.crew_run.specs.declared.journal.CrewTask.{CrewTask}
use Rattle.crew_run.specs.Passing.{Seen, IsReady, IsRoot}
use Rattle.crew_run.proofs.Later.{own_of, no_own}
use Rattle.crew_run.proofs.Turning.{V}

pub first_root : (lock : TableId) (task : CrewTask) (p : Seen) → p.lock ≡ lock → p.view ≡ first_view task → IsRoot lock p.view.base 0 0 p
first_root lock task p of_lock is = record {
  idle = record { lock_is = of_lock; idle = ap (λ (v : V). v.turn) is };
  number = ap (λ (v : V). v.number) is;
  base_is = refl;
  made = ap (λ (v : V). v.made) is;
  live = ap (λ (v : V). v.live) is;
  own = ap (λ (v : V). v.own) is;
}

module _ (lock : TableId) (base : Option CrewTask) (made out : ℕ) (old new other : Seen) (root : IsRoot lock base made out old) where
  pub root_split : new.lock ≡ old.lock → new.view ≡ splitting old.view → IsRoot lock base (made + 1) (out + 1) new
  root_split of_lock is = record {
    idle = record { lock_is = of_lock ∙ root.idle.lock_is; idle = ap (λ (v : V). v.turn) is ∙ root.idle.idle };
    number = ap (λ (v : V). v.number) is ∙ root.number;
    base_is = ap (λ (v : V). v.base) is ∙ root.base_is;
    made = ap (λ (v : V). v.made) is ∙ ap (λ n. n + 1) root.made;
    live = ap (λ (v : V). v.live) is ∙ ap (λ n. n + 1) root.live;
    own = ap (λ (v : V). v.own) is ∙ root.own;
  }

  pub ready_split : other.lock ≡ old.lock → other.view ≡ split_off old.view → IsReady lock base other
  ready_split of_lock is = record {
    idle = record { lock_is = of_lock ∙ root.idle.lock_is; idle = ap (λ (v : V). v.turn) is };
    number = λ none. let n : other.view.number ≡ old.view.made + 1 = ap (λ (v : V). v.number) is in omega arith;
    base_is = ap (λ (v : V). v.base) is ∙ root.base_is;
  }

  pub root_joined : (rest : ℕ) → out ≡ rest + 1 → new.lock ≡ old.lock → new.view ≡ joining old.view other.view → IsRoot lock base made rest new
  root_joined rest more of_lock is = record {
    idle = record { lock_is = of_lock ∙ root.idle.lock_is; idle = ap (λ (v : V). v.turn) is ∙ root.idle.idle };
    number = ap (λ (v : V). v.number) is ∙ root.number;
    base_is = ap (λ (v : V). v.base) is ∙ root.base_is;
    made = ap (λ (v : V). v.made) is ∙ root.made;
    live = let n : new.view.live ≡ old.view.live - 1 = ap (λ (v : V). v.live) is in let m = root.live in omega arith;
    own = ap (λ (v : V). v.own) is ∙ root.own;
  }

-- the entries are of workers with the numbers from 1 on
pub numbered : (entries : List CrewEntry) (workers made : ℕ) → own_of 0 entries ≡ [] → All (λ e. e.by ≤ made) entries → made ≡ workers → All (λ e. (1 ≤ e.by) × (e.by ≤ workers)) entries
numbered entries workers made none low is k d lt =
    let some = no_own 0 entries none k d lt in
    let high = low k d lt in
    (omega arith, omega arith)
