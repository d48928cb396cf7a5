-- What contracts see of a translation that was published, and which one stays.
use Rattle.std.specs.Prelude.{ℕ, List, Option, Some, None, slice_index_or, unwrap_or}
use Rattle.std.specs.Option.{option_map}
use Rattle.std.specs.declared.sync.Arc.{Arc}
use Rattle.translation_rules.specs.Translation.{Translated}

-- what the shared pointer points to, if there is one
abbrev pub shown : {A : Type 0} → Option (Arc Translated A) → Option Translated
shown kept = option_map (λ t. t.value) kept

-- the key's translation, or this one where nothing was published for the key before
abbrev pub first_of : List (Option Translated) → ℕ → Translated → Translated
first_of published key t = unwrap_or (slice_index_or published key None) t
