-- Lists of one length.
use Rattle.std.proofs.Common.{◌≡◌, ℕ, zero, suc, ◌+◌, ◌<◌, ◌==◌, Bool, true, false, not, ◌||◌, List, [], ◌∷◌, length, get_or, All, Vec, Global, refl, sym, ap, ◌∙◌, subst, arith}
use Rattle.std.specs.List.{list_any}
use Rattle.std.proofs.lemmas.Bool.{eq-eqb, eqb-true}
use Rattle.std.proofs.lemmas.List.Elements.{All-head, All-tail, All-nil, All-cons}
use Rattle.named_model.specs.declared.named.Signature.{Signature}
use Rattle.named_model.specs.Phrase.{PhraseTree}
use Rattle.model_types.specs.Bounding.{Lists, products}
use Rattle.model_types.specs.Models.{bound_arity}
use Rattle.model_types.specs.Bounds.Same.{AreSame, lists_of}
use Rattle.rel_lower.specs.Bounding.Bounds.{bound_type}
use Rattle.rel_lower.specs.Bounding.Typed.{HasLists}
use Rattle.rel_lower.proofs.Bounding.TypedBounds.{AreLong, long_products}

-- a list of another length
abbrev other : ℕ → List ℕ → Bool
other n l = not (length l == n)

no_other : (n : ℕ) (a : Lists) → AreLong n a → list_any (other n) a ≡ false
no_other n [] h = refl
no_other n (l ∷ a) h =
    let here : other n l ≡ false = ap not (eq-eqb (length l) n (All-head (λ k. length k ≡ n) l a h)) in
    ap (λ (b : Bool). b || list_any (other n) a) here ∙ no_other n a (All-tail (λ k. length k ≡ n) l a h)

first_is : (b c : Bool) → (not b || c) ≡ false → (b ≡ true) × (c ≡ false)
first_is true c e = (refl, e)
first_is false c e = absurd cc

all_long : (n : ℕ) (a : Lists) → list_any (other n) a ≡ false → AreLong n a
all_long n [] e = All-nil (λ k. length k ≡ n)
all_long n (l ∷ a) e =
    let both = first_is (length l == n) (list_any (other n) a) e in
    All-cons (λ k. length k ≡ n) l a (eqb-true (length l) n both.0) (all_long n a both.1)

-- the same lists are as long
pub same_long : (n : ℕ) (a b : Lists) → AreSame a b → AreLong n b → AreLong n a
same_long n a b same h = all_long n a (same (other n) ∙ no_other n b h)

-- the lists of a field: its signature, and then those of its bound
pub field_long : (xs : List Signature) (x : PhraseTree) (top : ℕ) → HasLists xs x → AreLong (bound_arity x + 1) (products ((top ∷ []) ∷ []) (bound_type xs x))
field_long xs x top h =
    subst (λ n. AreLong n (products ((top ∷ []) ∷ []) (bound_type xs x))) (omega arith)
    (long_products 1 (bound_arity x) ((top ∷ []) ∷ []) (bound_type xs x) (All-cons (λ l. length l ≡ 1) (top ∷ []) [] refl (All-nil (λ l. length l ≡ 1))) h.even)

-- the same lists in code
pub lists_long : {n : ℕ} (xs : List Signature) (x : PhraseTree) (top : ℕ) → n ≡ bound_arity x + 1 → HasLists xs x → (lists : List (Vec ℕ Global)) (a : Lists) → lists_of lists ≡ a
    → AreSame a (products ((top ∷ []) ∷ []) (bound_type xs x)) → AreLong n (lists_of lists)
lists_long {n} xs x top e h lists a is same =
    subst (λ ls. AreLong n ls) (sym is)
    (subst (λ k. AreLong k a) (sym e) (same_long (bound_arity x + 1) a (products ((top ∷ []) ∷ []) (bound_type xs x)) same (field_long xs x top h)))

-- the length of the list at hand
pub long_at : (n : ℕ) (lists : List (Vec ℕ Global)) (i : ℕ) (v : Vec ℕ Global) → AreLong n (lists_of lists) → i < length lists → v ≡ get_or lists i v → length v.items ≡ n
long_at n [] i v h l e = absurd (omega (arith, l))
long_at n (w ∷ ws) zero v h l e = ap (λ (u : Vec ℕ Global). length u.items) e ∙ All-head (λ k. length k ≡ n) w.items (lists_of ws) h
long_at n (w ∷ ws) (suc i) v h l e = long_at n ws i v (All-tail (λ k. length k ≡ n) w.items (lists_of ws) h) (omega (arith, l)) e
