-- Places of signatures, one size after the other.
use Rattle.std.specs.Prelude.{◌≡◌, ◌<◌, ℕ, List, [], ◌∷◌, Some, None}
use Rattle.tuple_core.specs.declared.atom.Atom.{Atom}
use Rattle.tuple_core.specs.Operators.{Pred}
use Rattle.named_model.specs.declared.named.Signature.{Signature}
use Rattle.named_model.specs.Signatures.{signature_at}
use Rattle.model_sizes.specs.declared.size.Size.{Size}

-- one step up
abbrev pub parent_or_self : List Signature → ℕ → ℕ
parent_or_self xs s = elim (signature_at xs s).parent [ None ↦ s | Some p ↦ p.1 ]

-- a tuple of one atom, whose place is below n
abbrev pub IsPlaceBelow : ℕ → ℕ → Pred
IsPlaceBelow top n t = (a : Atom) × (t ≡ a ∷ []) × (a.top ≡ top) × (a.place < n)

-- a place of the size at `top`, which is that of the signature
abbrev pub IsPlaceIn : ℕ → Size → ℕ → Pred
IsPlaceIn top size signature t = (size.signature ≡ signature) × IsPlaceBelow top size.places t
