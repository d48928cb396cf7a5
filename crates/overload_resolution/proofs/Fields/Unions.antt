-- Sets of signatures as far as a loop has come.
use Rattle.std.proofs.Common.{◌≡◌, ℕ, ◌+◌, ◌<◌, ◌≤◌, Bool, true, false, ◌||◌, ◌&&◌, ◌==◌, List, [], ◌∷◌, ◌++◌, flat_map, filter, length, take, get_or, refl, sym, ap, ◌∙◌, if◌then◌else◌, true≢false, append-nil}
use Rattle.std.specs.Prelude.{Vec, nat_eq}
use Rattle.std.specs.List.{list_any}
use Rattle.std.specs.declared.alloc.Global.{Global}
use Rattle.std.proofs.lemmas.Bool.{eqb-true}
use Rattle.std.proofs.lemmas.List.{map-id, take_more, take_all}
use Rattle.std.proofs.lemmas.List.Folds.{list_any-append, flat_map-map}
use Rattle.std.proofs.lemmas.List.Concat.{flat_map-cons, flat_map_single}
use Rattle.std.proofs.lemmas.Grind.{flat_map-append}
use Rattle.indexmap.specs.IndexSet.{insert_key}
use Rattle.alloy_syntax.specs.declared.tree.Operator.{Operator}
use Rattle.alloy_syntax.specs.declared.tree.Operator.TheVariants as operator
use Rattle.model_types.specs.Bounding.{Lists, end_of}
use Rattle.model_types.specs.Typing.{ends_of, alone_in, tops_behind}
use Rattle.model_types.specs.Bounds.Same.{lists_of, AreSame}
use Rattle.model_types.proofs.Bounds.Sets.{any-filter, any-flat_map}
use Rattle.overload_resolution.specs.Fields.Alike.{AreAlike, single}

-- ---- one signature more

there : (keys : List ℕ) (n : ℕ) (t : ℕ → Bool) → list_any (nat_eq n) keys ≡ true → list_any t keys ≡ (list_any t keys || (t n || false))
there [] n t e = absurd (true≢false (sym e))
there (k ∷ keys) n t e = go (nat_eq n k) refl e (λ h. there keys n t h)
  where
    both : (b c d : Bool) → b ≡ c → (b || d) ≡ ((b || d) || (c || false))
    both true true d same = refl
    both false false true same = refl
    both false false false same = refl
    both true false d same = absurd (true≢false same)
    both false true d same = absurd (true≢false (sym same))

    behind : (b c d : Bool) → d ≡ (d || (c || false)) → (b || d) ≡ ((b || d) || (c || false))
    behind true c d e = refl
    behind false c d e = e

    go : (b : Bool) → nat_eq n k ≡ b → (b || list_any (nat_eq n) keys) ≡ true
        → (list_any (nat_eq n) keys ≡ true → list_any t keys ≡ (list_any t keys || (t n || false)))
        → (t k || list_any t keys) ≡ ((t k || list_any t keys) || (t n || false))
    go true same e rest = both (t k) (t n) (list_any t keys) (ap t (sym (eqb-true n k same)))
    go false same e rest = behind (t k) (t n) (list_any t keys) (rest e)

pub one_more : (keys : List ℕ) (n : ℕ) (new : List ℕ) → new ≡ insert_key nat_eq keys n → AreAlike new (keys ++ n ∷ [])
one_more keys n new e = λ t. ap (list_any t) e ∙ go t (list_any (nat_eq n) keys) refl
  where
    go : (t : ℕ → Bool) (b : Bool) → list_any (nat_eq n) keys ≡ b → list_any t (if b then keys else keys ++ n ∷ []) ≡ list_any t (keys ++ n ∷ [])
    go t true h = there keys n t h ∙ sym (list_any-append t keys (n ∷ []))
    go t false h = refl

-- ---- a loop that puts some signatures into a set for each item

-- one turn: what was there, and what was put in
pub turn : {X : Type 0} (f : X → List ℕ) (xs : List X) (i : ℕ) (x : X) (base before now : List ℕ) → i < length xs → x ≡ get_or xs i x
    → AreAlike before (base ++ flat_map f (take i xs)) → AreAlike now (before ++ f x) → AreAlike now (base ++ flat_map f (take (i + 1) xs))
turn f xs i x base before now l is h k = λ t.
    k t ∙ list_any-append t before (f x) ∙ ap (λ c. c || list_any t (f x)) (h t ∙ list_any-append t base (flat_map f (take i xs)))
    ∙ three (list_any t base) (list_any t (flat_map f (take i xs))) (list_any t (f x))
    ∙ ap (λ c. list_any t base || c) (sym (list_any-append t (flat_map f (take i xs)) (f x)) ∙ ap (list_any t) (sym pieces))
    ∙ sym (list_any-append t base (flat_map f (take (i + 1) xs)))
  where
    three : (a b c : Bool) → ((a || b) || c) ≡ (a || (b || c))
    three true b c = refl
    three false b c = refl

    pieces : flat_map f (take (i + 1) xs) ≡ flat_map f (take i xs) ++ f x
    pieces =
        ap (flat_map f) (take_more xs i x l) ∙ flat_map-append f (take i xs) (get_or xs i x ∷ [])
        ∙ ap (λ ys. flat_map f (take i xs) ++ ys) (flat_map-cons f (get_or xs i x) [] ∙ append-nil (f (get_or xs i x)) ∙ ap f (sym is))

-- ---- what each loop has put in at its end

-- what the first lists add
abbrev pub added : (List ℕ → List ℕ) → List (Vec ℕ Global) → ℕ → List ℕ
added f rows i = flat_map (λ (v : Vec ℕ Global). f v.items) (take i rows)

all_added : (f : List ℕ → List ℕ) (rows : List (Vec ℕ Global)) (i : ℕ) → length rows ≤ i → added f rows i ≡ flat_map f (lists_of rows)
all_added f rows i e =
    ap (λ (vs : List (Vec ℕ Global)). flat_map (λ (v : Vec ℕ Global). f v.items) vs) (take_all i rows e)
    ∙ sym (flat_map-map f (λ (v : Vec ℕ Global). v.items) rows)

pub whole : (f : List ℕ → List ℕ) (rows : List (Vec ℕ Global)) (i : ℕ) (now : List ℕ) → length rows ≤ i → AreAlike now (added f rows i) → AreAlike now (flat_map f (lists_of rows))
whole f rows i now long h = λ t. h t ∙ ap (list_any t) (all_added f rows i long)

pub singles_are : (ls : Lists) → flat_map single ls ≡ alone_in ls
singles_are [] = refl
singles_are (l ∷ ls) = flat_map-cons single l ls ∙ go (length l == 1) (singles_are ls)
  where
    go : (b : Bool) → flat_map single ls ≡ alone_in ls
        → (if b then l else []) ++ flat_map single ls ≡ flat_map (λ k. k) (if b then l ∷ filter (λ k. length k == 1) ls else filter (λ k. length k == 1) ls)
    go true e = ap (λ ks. l ++ ks) e ∙ sym (flat_map-cons (λ k. k) l (filter (λ k. length k == 1) ls))
    go false e = e

-- ---- the same lists have the same signatures

pub numbers_are : (ns : List ℕ) (i : ℕ) (base now : List ℕ) → length ns ≤ i → AreAlike now (base ++ flat_map (λ n. n ∷ []) (take i ns)) → AreAlike now (base ++ ns)
numbers_are ns i base now long h = λ t. h t ∙ ap (λ ms. list_any t (base ++ ms)) (ap (flat_map (λ n. n ∷ [])) (take_all i ns long) ∙ flat_map_single (λ n. n) ns ∙ map-id ns)

pub alike_then : (a b c : List ℕ) → AreAlike a b → AreAlike b c → AreAlike a c
alike_then a b c h k = λ t. h t ∙ k t

pub same_ends : (a x : Lists) → AreSame a x → AreAlike (ends_of a) (ends_of x)
same_ends a x h = λ t. any-flat_map t end_of a ∙ h (λ l. list_any t (end_of l)) ∙ sym (any-flat_map t end_of x)

pub same_alone : (a x : Lists) → AreSame a x → AreAlike (alone_in a) (alone_in x)
same_alone a x h = λ t. tested t a ∙ h (λ l. (length l == 1) && list_any t l) ∙ sym (tested t x)
  where
    tested : (t : ℕ → Bool) (ls : Lists) → list_any t (alone_in ls) ≡ list_any (λ l. (length l == 1) && list_any t l) ls
    tested t ls = any-flat_map t (λ l. l) (filter (λ l. length l == 1) ls) ∙ any-filter (list_any t) (λ l. length l == 1) ls

pub same_behind : (o : Operator) (a x : Lists) → AreSame a x → AreAlike (tops_behind o a) (tops_behind o x)
same_behind operator.Domain a x h = same_alone a x h
same_behind operator.Or a x h = λ t. refl
same_behind operator.Iff a x h = λ t. refl
same_behind operator.And a x h = λ t. refl
same_behind operator.Union a x h = λ t. refl
same_behind operator.Minus a x h = λ t. refl
same_behind operator.Override a x h = λ t. refl
same_behind operator.Meet a x h = λ t. refl
same_behind operator.Product a x h = λ t. refl
same_behind operator.Range a x h = λ t. refl
