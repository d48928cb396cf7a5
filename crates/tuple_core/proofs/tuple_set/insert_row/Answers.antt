use Rattle.std.proofs.Common.{◌≡◌, ◌≤◌, ◌↔◌, ◌⊎◌, inl, inr, length, get_or, Contains, refl, sym, subst}
use Rattle.std.specs.declared.cmp.Ordering.TheVariants.{Less, Greater}
use Rattle.std.specs.List.Sorted.{IsPartitionPoint}
use Rattle.tuple_core.specs.Order.{tuple_cmp, IsAscending}
use Rattle.tuple_core.proofs.Ascending.{tied, searchable, absent, still_ascending, insert_contains}
use Rattle.tuple_core.proofs.tuple_set.insert_row.Goals as goal

found : (c : goal.In-Ok) → Contains c.args.rows.now.items c.args.tuple
found c =
    let S = c.deref.result.now in
    subst (λ xs. Contains xs c.args.tuple) c.deref.ensures.value (c.in-Ok.field-0, c.in-Ok.ensures.bound, tied (get_or S c.in-Ok.field-0 c.args.tuple) c.args.tuple (c.in-Ok.ensures.ok c.args.tuple))

pub returns-in-Ok-clause-gains : goal.returns-in-Ok-clause-gains
returns-in-Ok-clause-gains c = record { tuples = λ t. (λ h. inl h, λ s. elim s [ inl h ↦ h | inr e ↦ subst (λ u. Contains c.args.rows.now.items u) (sym e) (found c) ]) }

pub returns-in-Ok-clause-new : goal.returns-in-Ok-clause-new
returns-in-Ok-clause-new c = (λ e. absurd (cc), λ none. absurd (none (found c)))

-- where the tuple goes
place : (c : goal.In_ok-insert-in-Err) → (c.in-Err.i ≤ length c.args.rows.now.items) × IsPartitionPoint (λ y. tuple_cmp y c.args.tuple ≡ Less) (λ y. tuple_cmp y c.args.tuple ≡ Greater) c.args.rows.now.items c.in-Err.i
place c = subst (λ xs. (c.in-Err.i ≤ length xs) × IsPartitionPoint (λ y. tuple_cmp y c.args.tuple ≡ Less) (λ y. tuple_cmp y c.args.tuple ≡ Greater) xs c.in-Err.i) c.deref.ensures.value
    (c.in-Err.ensures.bound, c.in-Err.ensures.position (searchable c.deref.result.now c.args.tuple (subst IsAscending (sym c.deref.ensures.value) c.requires)))

pub returns-in_ok-insert-in-Err-clause-ascending : goal.returns-in_ok-insert-in-Err-clause-ascending
returns-in_ok-insert-in-Err-clause-ascending c =
    let p = place c in
    subst IsAscending (sym c.in_ok-insert-in-Err.ensures.items) (still_ascending c.args.rows.now.items c.args.tuple c.in-Err.i c.requires p.0 p.1)

pub returns-in_ok-insert-in-Err-clause-gains : goal.returns-in_ok-insert-in-Err-clause-gains
returns-in_ok-insert-in-Err-clause-gains c = record {
  tuples = λ t.
      subst (λ xs. Contains xs t ↔ (Contains c.args.rows.now.items t ⊎ (t ≡ c.args.tuple))) (sym c.in_ok-insert-in-Err.ensures.items) (insert_contains c.args.rows.now.items c.in-Err.i c.args.tuple t);
}

pub returns-in_ok-insert-in-Err-clause-new : goal.returns-in_ok-insert-in-Err-clause-new
returns-in_ok-insert-in-Err-clause-new c = let p = place c in (λ e. absent c.args.rows.now.items c.args.tuple c.in-Err.i c.requires p.0 p.1, λ none. refl)
