-- Signatures by their numbers: which have no parent, and which extend another.
use Rattle.std.specs.Prelude.{ℕ, zero, suc, ◌+◌, ◌==◌, List, [], ◌∷◌, length, slice_index_or, Bool, true, false, ◌&&◌, if◌then◌else◌, Option, Some, None, is_none}
use Rattle.alloy_syntax.specs.declared.tree.Manner.{Manner}
use Rattle.alloy_syntax.specs.declared.tree.Manner.TheVariants as manner
use Rattle.named_model.specs.declared.named.Signature.{Signature}

-- no signature has this number
abbrev pub no_signature : Signature
no_signature = record { name = []; place = record { line = 1; column = 1 }; is_abstract = false; mark = None; parent = None }

abbrev pub signature_at : List Signature → ℕ → Signature
signature_at xs s = slice_index_or xs s no_signature

-- the numbers of those for which the test is true, where the first has the number n
abbrev pub numbers_where : (Signature → Bool) → ℕ → List Signature → List ℕ
numbers_where test n [] = []
numbers_where test n (x ∷ xs) = if test x then n ∷ numbers_where test (n + 1) xs else numbers_where test (n + 1) xs

-- the top-level signatures, in order of declaration
abbrev pub tops : List Signature → List ℕ
tops = numbers_where (λ x. is_none x.parent) 0

abbrev pub extends_to : ℕ → Option (Manner × ℕ) → Bool
extends_to s None = false
extends_to s (Some p) = (elim p.0 [ manner.Extends ↦ true | manner.In ↦ false ]) && (p.1 == s)

-- the signatures that extend one
abbrev pub extensions : List Signature → ℕ → List ℕ
extensions xs s = numbers_where (λ x. extends_to s x.parent) 0 xs

-- the top-level signature over one, which is itself where it has no parent
abbrev pub top_within : List Signature → ℕ → ℕ → ℕ
top_within xs zero s = s
top_within xs (suc n) s = elim (signature_at xs s).parent [ None ↦ s | Some p ↦ top_within xs n p.1 ]

abbrev pub top_of : List Signature → ℕ → ℕ
top_of xs = top_within xs (length xs)
