-- The top-level signatures, as far as a loop has come.
use Rattle.std.proofs.Common.{◌≡◌, ℕ, ◌+◌, ◌<◌, Bool, true, false, List, [], ◌∷◌, ◌++◌, length, drop, get_or, refl, sym, ap, ◌∙◌, append_assoc, if◌then◌else◌, Option, Some, None, is_some, is_none}
use Rattle.std.proofs.lemmas.List.{drop_more}
use Rattle.alloy_syntax.specs.declared.tree.Manner.{Manner}
use Rattle.named_model.specs.declared.named.Signature.{Signature}
use Rattle.named_model.specs.Signatures.{numbers_where}

-- the numbers of top-level signatures, from that number on
abbrev pub tops_from : ℕ → List Signature → List ℕ
tops_from i xs = numbers_where (λ x. is_none x.parent) i (drop i xs)

one_more : (xs : List Signature) (i : ℕ) (x : Signature) (b : Bool) → i < length xs → x ≡ get_or xs i x → is_none x.parent ≡ b
    → tops_from i xs ≡ (if b then i ∷ tops_from (i + 1) xs else tops_from (i + 1) xs)
one_more xs i x b l is e =
    ap (numbers_where (λ x. is_none x.parent) i) (drop_more xs i x l ∙ ap (λ (y : Signature). y ∷ drop (i + 1) xs) (sym is))
    ∙ ap (λ c. if c then i ∷ tops_from (i + 1) xs else tops_from (i + 1) xs) e

has_none : (o : Option (Manner × ℕ)) (b : Bool) → b ≡ is_some o → is_none o ≡ (if b then false else true)
has_none None b e = rw e refl
has_none (Some p) b e = rw e refl

-- a signature with a parent
pub tops_skip : (xs : List Signature) (i : ℕ) (x : Signature) (b : Bool) (numbers all : List ℕ) → i < length xs → x ≡ get_or xs i x → b ≡ is_some x.parent → b ≡ true
    → numbers ++ tops_from i xs ≡ all → numbers ++ tops_from (i + 1) xs ≡ all
tops_skip xs i x b numbers all l is some e before =
    ap (λ ns. numbers ++ ns) (sym (one_more xs i x false l is (has_none x.parent b some ∙ ap (λ c. if c then false else true) e))) ∙ before

-- and one without
pub tops_more : (xs : List Signature) (i : ℕ) (x : Signature) (b : Bool) (numbers all : List ℕ) → i < length xs → x ≡ get_or xs i x → b ≡ is_some x.parent → b ≡ false
    → numbers ++ tops_from i xs ≡ all → (numbers ++ i ∷ []) ++ tops_from (i + 1) xs ≡ all
tops_more xs i x b numbers all l is some e before =
    append_assoc numbers (i ∷ []) (tops_from (i + 1) xs)
    ∙ ap (λ ns. numbers ++ ns) (sym (one_more xs i x true l is (has_none x.parent b some ∙ ap (λ c. if c then false else true) e))) ∙ before
