-- Translations that are made in parts.
use Rattle.std.specs.Prelude.{◌≡◌, List, Result, Ok, IfOk, Vec, map, flat_map}
use Rattle.std.specs.declared.alloc.AllocError.{AllocError}
use Rattle.std.specs.declared.alloc.Global.{Global}
use Rattle.std.specs.declared.sync.Arc.{Arc}
use Rattle.rel_formula.specs.Bounds.{Bounded}
use Rattle.translation_rules.specs.Translation.{Translated}
use Rattle.explorer_run.specs.Served.{values_of}

-- translations, each behind a pointer that can be shared
abbrev pub Made : Type 0
Made = Vec (Arc Translated Global) Global

-- these are the translations of the problems, in order, if there was memory for them
abbrev pub AreTranslated : List Bounded → Result Made AllocError → Type 0
AreTranslated problems made = IfOk made (λ ts. map (λ (t : Translated). t.problem) (values_of ts.items) ≡ problems)

-- there was memory for each part, and this is what all parts have, in order
abbrev pub AreJoined : List (Result Made AllocError) → Made → Type 0
AreJoined parts all = (vs : List Made) × (parts ≡ map (λ (v : Made). Ok v) vs) × (all.items ≡ flat_map (λ (v : Made). v.items) vs)
