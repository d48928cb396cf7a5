-- Words up to the first of another kind.
use Rattle.std.proofs.Common.{◌≡◌, ◌≢◌, List, ℕ, [], ◌∷◌, ◌++◌, length, refl, sym, subst, ap, ◌∙◌, arith}
use Rattle.std.specs.Prelude.{All}
use Rattle.std.proofs.lemmas.List.Elements.{All-head, All-tail}

pub same_head : {X : Type 0} (x y : X) (xs ys : List X) → x ∷ xs ≡ y ∷ ys → x ≡ y
same_head x y xs ys e = cc

pub same_tail : {X : Type 0} (x y : X) (xs ys : List X) → x ∷ xs ≡ y ∷ ys → xs ≡ ys
same_tail x y xs ys e = cc

pub record Same {X : Type 0} (a a' : List X) (x x' : X) (b b' : List X) : Type 0 where
  pub before : a ≡ a'
  pub here : x ≡ x'
  pub behind : b ≡ b'

-- the first element of another kind is one, and so is what stands before it and behind it
pub one_split : {X : Type 0} (P : X → Type 0) (a a' b b' : List X) (x x' : X) → All P a → (P x → ⊥) → All P a' → (P x' → ⊥) → a ++ (x ∷ b) ≡ a' ++ (x' ∷ b') → Same a a' x x' b b'
one_split P [] [] b b' x x' pa nx pa' nx' e = record { before = refl; here = same_head x x' b b' e; behind = same_tail x x' b b' e }
one_split P [] (y ∷ a') b b' x x' pa nx pa' nx' e = absurd (nx (subst P (sym (same_head x y b (a' ++ (x' ∷ b')) e)) (All-head P y a' pa')))
one_split P (y ∷ a) [] b b' x x' pa nx pa' nx' e = absurd (nx' (subst P (same_head y x' (a ++ (x ∷ b)) b' e) (All-head P y a pa)))
one_split P (y ∷ a) (z ∷ a') b b' x x' pa nx pa' nx' e =
    let rest = one_split P a a' b b' x x' (All-tail P y a pa) nx (All-tail P z a' pa') nx' (same_tail y z (a ++ (x ∷ b)) (a' ++ (x' ∷ b')) e) in
    let first = same_head y z (a ++ (x ∷ b)) (a' ++ (x' ∷ b')) e in
    let before = rest.before in
    record { before = cc; here = rest.here; behind = rest.behind }

-- elements of one kind alone have none of another
pub no_split : {X : Type 0} (P : X → Type 0) (xs a b : List X) (x : X) → All P xs → (P x → ⊥) → xs ≡ a ++ (x ∷ b) → ⊥
no_split P [] [] b x all nx e = absurd (omega (arith, ap length e))
no_split P [] (y ∷ a) b x all nx e = absurd (omega (arith, ap length e))
no_split P (z ∷ xs) [] b x all nx e = nx (subst P (same_head z x xs b e) (All-head P z xs all))
no_split P (z ∷ xs) (y ∷ a) b x all nx e = no_split P xs a b x (All-tail P z xs all) nx (same_tail z y xs (a ++ (x ∷ b)) e)
