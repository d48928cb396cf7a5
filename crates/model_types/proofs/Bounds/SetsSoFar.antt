-- Sets as far as a loop has come.
use Rattle.std.proofs.Common.{◌≡◌, ℕ, ◌+◌, ◌<◌, ◌≤◌, Bool, true, false, ◌||◌, List, [], ◌∷◌, ◌++◌, map, flat_map, filter, length, take, drop, get_or, refl, sym, ap, ◌∙◌, append_assoc, if◌then◌else◌, true≢false}
use Rattle.std.specs.Prelude.{Vec, bytes_eq}
use Rattle.std.specs.List.{list_any}
use Rattle.std.specs.declared.alloc.Global.{Global}
use Rattle.std.proofs.lemmas.List.{map-append, take_more, drop_more, append-nil, take_all, drop_all}
use Rattle.std.proofs.lemmas.List.Folds.{list_any-append, flat_map-map}
use Rattle.std.proofs.lemmas.List.Concat.{flat_map-cons, flat_map_single}
use Rattle.std.proofs.lemmas.Grind.{flat_map-append}
use Rattle.std.proofs.lemmas.Slice.Eq.{bytes_eq-Decides}
use Rattle.indexmap.specs.IndexSet.{insert_key}
use Rattle.model_types.specs.Bounding.{Lists, joins, through, ending_in, starting_in}
use Rattle.model_types.specs.Bounds.Same.{lists_of, AreSame}
use Rattle.model_types.proofs.Bounds.Sets.{filter_pieces}
use Rattle.model_types.proofs.Bounds.SameListsMade.{same, same_then, same_append, same_through}

-- ---- one list more

same_items : (v w : Vec ℕ Global) → bytes_eq v.items w.items ≡ true → v.items ≡ w.items
same_items v w e = (bytes_eq-Decides v.items w.items).0 e

-- a list that is there
there : (keys : List (Vec ℕ Global)) (v : Vec ℕ Global) (t : List ℕ → Bool) → list_any (λ (w : Vec ℕ Global). bytes_eq v.items w.items) keys ≡ true
    → list_any t (lists_of keys) ≡ (list_any t (lists_of keys) || (t v.items || false))
there [] v t e = absurd (true≢false (sym e))
there (w ∷ keys) v t e = go (bytes_eq v.items w.items) refl e (λ h. there keys v t h)
  where
    both : (b c d : Bool) → b ≡ c → (b || d) ≡ ((b || d) || (c || false))
    both true true d same = refl
    both false false true same = refl
    both false false false same = refl
    both true false d same = absurd (true≢false same)
    both false true d same = absurd (true≢false (sym same))

    behind : (b c d : Bool) → d ≡ (d || (c || false)) → (b || d) ≡ ((b || d) || (c || false))
    behind true c d e = refl
    behind false c d e = e

    go : (b : Bool) → bytes_eq v.items w.items ≡ b → (b || list_any (λ (w : Vec ℕ Global). bytes_eq v.items w.items) keys) ≡ true
        → (list_any (λ (w : Vec ℕ Global). bytes_eq v.items w.items) keys ≡ true → list_any t (lists_of keys) ≡ (list_any t (lists_of keys) || (t v.items || false)))
        → (t w.items || list_any t (lists_of keys)) ≡ ((t w.items || list_any t (lists_of keys)) || (t v.items || false))
    go true same e rest = both (t w.items) (t v.items) (list_any t (lists_of keys)) (ap t (sym (same_items v w same)))
    go false same e rest = behind (t w.items) (t v.items) (list_any t (lists_of keys)) (rest e)

pub one_more : (keys : List (Vec ℕ Global)) (v : Vec ℕ Global) (new : List (Vec ℕ Global)) → new ≡ insert_key (λ (a b : Vec ℕ Global). bytes_eq a.items b.items) keys v
    → AreSame (lists_of new) (lists_of keys ++ v.items ∷ [])
one_more keys v new e = λ t. ap (λ ks. list_any t (lists_of ks)) e ∙ go t (list_any (λ (w : Vec ℕ Global). bytes_eq v.items w.items) keys) refl
  where
    go : (t : List ℕ → Bool) (b : Bool) → list_any (λ (w : Vec ℕ Global). bytes_eq v.items w.items) keys ≡ b
        → list_any t (lists_of (if b then keys else keys ++ v ∷ [])) ≡ list_any t (lists_of keys ++ v.items ∷ [])
    go t true h = there keys v t h ∙ sym (list_any-append t (lists_of keys) (v.items ∷ []))
    go t false h = ap (list_any t) (map-append (λ (w : Vec ℕ Global). w.items) keys (v ∷ []))

-- ---- a loop that puts some lists into a set for each item

module _ {X : Type 0} (f : X → Lists) where
  pieces_more : (xs : List X) (i : ℕ) (d : X) → i < length xs → flat_map f (take (i + 1) xs) ≡ flat_map f (take i xs) ++ f (get_or xs i d)
  pieces_more xs i d l =
      ap (flat_map f) (take_more xs i d l) ∙ flat_map-append f (take i xs) (get_or xs i d ∷ [])
      ∙ ap (λ ys. flat_map f (take i xs) ++ ys) (flat_map-cons f (get_or xs i d) [] ∙ append-nil (f (get_or xs i d)))

  -- one turn: what was there, and what was put in
  pub turn : (xs : List X) (i : ℕ) (d x : X) (base before now : Lists) → i < length xs → get_or xs i d ≡ x
      → AreSame before (base ++ flat_map f (take i xs)) → AreSame now (before ++ f x) → AreSame now (base ++ flat_map f (take (i + 1) xs))
  turn xs i d x base before now l is h k = λ t.
      k t ∙ ap (λ y. list_any t (before ++ f y)) (sym is)
      ∙ list_any-append t before (f (get_or xs i d)) ∙ ap (λ c. c || list_any t (f (get_or xs i d))) (h t)
      ∙ sym (list_any-append t (base ++ flat_map f (take i xs)) (f (get_or xs i d)))
      ∙ ap (list_any t) (append_assoc base (flat_map f (take i xs)) (f (get_or xs i d)) ∙ ap (λ ys. base ++ ys) (sym (pieces_more xs i d l)))

  pub start : (xs : List X) (base : Lists) → AreSame base (base ++ flat_map f (take 0 xs))
  start xs base = λ t. ap (list_any t) (sym (append-nil base))

-- what was put in, in another form
pub put : (before now piece other : Lists) → AreSame now (before ++ piece) → piece ≡ other → AreSame now (before ++ other)
put before now piece other h e = λ t. h t ∙ ap (λ ys. list_any t (before ++ ys)) e

-- ---- what each loop has put in at its end

-- what the first rows add
abbrev pub added : (List ℕ → Lists) → List (Vec ℕ Global) → ℕ → Lists
added f rows i = flat_map (λ (v : Vec ℕ Global). f v.items) (take i rows)

all_added : (f : List ℕ → Lists) (rows : List (Vec ℕ Global)) (i : ℕ) → length rows ≤ i → added f rows i ≡ flat_map f (lists_of rows)
all_added f rows i e =
    ap (λ (vs : List (Vec ℕ Global)). flat_map (λ (v : Vec ℕ Global). f v.items) vs) (take_all i rows e)
    ∙ sym (flat_map-map f (λ (v : Vec ℕ Global). v.items) rows)

-- at the end: the pieces of all lists, in another form
pub whole : (f : List ℕ → Lists) (rows : List (Vec ℕ Global)) (i : ℕ) (base now lists other : Lists) → length rows ≤ i → lists_of rows ≡ lists → flat_map f lists ≡ other
    → AreSame now (base ++ added f rows i) → AreSame now (base ++ other)
whole f rows i base now lists other long are is h = put base now (added f rows i) other h (all_added f rows i long ∙ ap (flat_map f) are ∙ is)

pub each_alone : (ls : Lists) → flat_map (λ l. l ∷ []) ls ≡ ls
each_alone [] = refl
each_alone (l ∷ ls) = flat_map-cons (λ l. l ∷ []) l ls ∙ ap (λ ks. l ∷ ks) (each_alone ls)

-- one turn over rows
pub row_turn : (f : List ℕ → Lists) (rows : List (Vec ℕ Global)) (i : ℕ) (v : Vec ℕ Global) (base before now piece : Lists) → i < length rows → v ≡ get_or rows i v
    → AreSame before (base ++ added f rows i) → AreSame now (before ++ piece) → piece ≡ f v.items → AreSame now (base ++ added f rows (i + 1))
row_turn f rows i v base before now piece l is h k e =
    turn (λ (w : Vec ℕ Global). f w.items) rows i v v base before now l (sym is) h (put before now piece (f v.items) k e)

-- a list where a test is true of it
abbrev pub keeping : (List ℕ → Bool) → List ℕ → Lists
keeping p y = if p y then y ∷ [] else []

pub all_kept : (p : List ℕ → Bool) (ls : Lists) → flat_map (keeping p) ls ≡ filter p ls
all_kept p ls = filter_pieces p ls

-- the lists that a function makes of these
pub all_mapped : (f : List ℕ → List ℕ) (ls : Lists) → flat_map (λ y. f y ∷ []) ls ≡ map f ls
all_mapped f ls = flat_map_single f ls

pub all_numbered : (f : ℕ → List ℕ) (ks : List ℕ) (i : ℕ) (base now : Lists) → length ks ≤ i → AreSame now (base ++ flat_map (λ k. f k ∷ []) (take i ks)) → AreSame now (base ++ map f ks)
all_numbered f ks i base now long h = put base now (flat_map (λ k. f k ∷ []) (take i ks)) (map f ks) h (ap (flat_map (λ k. f k ∷ [])) (take_all i ks long) ∙ flat_map_single f ks)

-- ---- closures

-- the pairs by way of one signature
abbrev pub by_way : ℕ → Lists → Lists
by_way k a = joins (ending_in a ((k ∷ []) ∷ [])) (starting_in ((k ∷ []) ∷ []) a)

pub way_turn : (ks : List ℕ) (i d k : ℕ) (before more now all : Lists) → i < length ks → get_or ks i d ≡ k
    → AreSame (through (drop i ks) before) all → AreSame more (by_way k before) → AreSame now (before ++ more) → AreSame (through (drop (i + 1) ks) now) all
way_turn ks i d k before more now all l is h w n =
    let on : AreSame now (before ++ by_way k before) = same_then now (before ++ more) (before ++ by_way k before) n (same_append before more before (by_way k before) (λ t. refl) w) in
    same_then (through (drop (i + 1) ks) now) (through (drop (i + 1) ks) (before ++ by_way k before)) all
    (same_through (drop (i + 1) ks) now (before ++ by_way k before) on)
    (same_then (through (drop (i + 1) ks) (before ++ by_way k before)) (through (drop i ks) before) all
    (same (through (drop (i + 1) ks) (before ++ by_way k before)) (through (drop i ks) before) (ap (λ m. through (m ∷ drop (i + 1) ks) before) (sym is) ∙ ap (λ ms. through ms before) (sym (drop_more ks i d l)))) h)

pub way_end : (ks : List ℕ) (i : ℕ) (now all : Lists) → length ks ≤ i → AreSame (through (drop i ks) now) all → AreSame now all
way_end ks i now all long h = λ t. ap (λ ms. list_any t (through ms now)) (sym (drop_all i ks long)) ∙ h t
