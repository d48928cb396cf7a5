-- What the marks and the trail of the literals that are taken for false keep.
use Rattle.std.specs.Prelude.{◌≡◌, ◌+◌, ◌^◌, ◌<◌, ◌≤◌, length, vec_capacity, is_none, count_by}
use Rattle.refutation_check.specs.declared.assumptions.Assumptions.TheInside.{Inside}
use Rattle.refutation_check.specs.Marks.{Marks, IsWithin}

-- the marks have what is on the trail, and each variable with no mark leaves room there for one more literal
pub record IsKept (a : Inside) : Type 0 where
  pub marked : Marks a.marks.items a.trail.items
  pub within : IsWithin (length a.marks.items) a.trail.items
  pub some : 0 < length a.marks.items
  pub few : length a.marks.items ≤ 2 ^ 31
  pub room : length a.marks.items ≤ vec_capacity a.trail
  pub open_count : length a.trail.items + count_by is_none a.marks.items ≡ length a.marks.items
