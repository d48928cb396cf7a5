-- What the two steps of a move write.
use Rattle.std.specs.Prelude.{ℕ, List, nat_eq, if◌then◌else◌, slice_set}
use Rattle.unit_propagation.specs.declared.watch_lists.lists.Slot.{Slot}
use Rattle.unit_propagation.specs.Watches.Linked.{next_of, code_at}

-- the head goes on behind the slot, where it is the first of its list
abbrev pub unlinked_first : List ℕ → List Slot → ℕ → ℕ → ℕ → List ℕ
unlinked_first first slots from at slot = if nat_eq at 0 then slice_set first from (next_of slots slot) else first

-- and the slot before it, where there is one
abbrev pub unlinked_slots : List Slot → ℕ → ℕ → ℕ → List Slot
unlinked_slots slots at before slot = if nat_eq at 0 then slots else slice_set slots before (record { code = code_at slots before; next = next_of slots slot })
