-- Arities beside types.
use Rattle.std.proofs.Common.{◌≡◌, ℕ, ◌+◌, ◌-◌, ◌<◌, ◌≤◌, List, [], ◌∷◌, ◌++◌, map, length, reverse, take, drop, get_or, Some, None, refl, sym, ap, ◌∙◌, arith}
use Rattle.std.specs.List.{slice_get}
use Rattle.std.specs.Option.{option_map}
use Rattle.std.proofs.lemmas.List.{reverse-append, length-reverse, take_more, take_all, length-map, map-append, get_or-reverse, length-take-le}
use Rattle.std.proofs.lemmas.Option.{slice_get-map, slice_get_past, slice_get-get_or}
use Rattle.model_types.specs.Bounding.{Lists}
use Rattle.model_types.specs.Typing.{Local}
use Rattle.overload_resolution.specs.Scopes.Zipped.{locals_of}

abbrev pub arity_of : Local → ℕ
arity_of l = l.arity

abbrev pub the_type : Local → Lists
the_type l = l.type

pub zipped_push : (ns : List ℕ) (ts : List Lists) (n : ℕ) (t : Lists) → length ns ≡ length ts → locals_of (ns ++ n ∷ []) (ts ++ t ∷ []) ≡ locals_of ns ts ++ record { arity = n; type = t } ∷ []
zipped_push [] [] n t e = refl
zipped_push [] (u ∷ ts) n t e = absurd (omega (arith, e))
zipped_push (m ∷ ns) [] n t e = absurd (omega (arith, e))
zipped_push (m ∷ ns) (u ∷ ts) n t e = ap (λ ls. record { arity = m; type = u } ∷ ls) (zipped_push ns ts n t (omega (arith, e)))

pub zipped_types : (ns : List ℕ) (ts : List Lists) → length ns ≡ length ts → map the_type (locals_of ns ts) ≡ ts
zipped_types [] [] e = refl
zipped_types [] (u ∷ ts) e = absurd (omega (arith, e))
zipped_types (m ∷ ns) [] e = absurd (omega (arith, e))
zipped_types (m ∷ ns) (u ∷ ts) e = ap (λ us. u ∷ us) (zipped_types ns ts (omega (arith, e)))

zipped_arities : (ns : List ℕ) (ts : List Lists) → length ns ≡ length ts → map arity_of (locals_of ns ts) ≡ ns
zipped_arities [] [] e = refl
zipped_arities [] (u ∷ ts) e = absurd (omega (arith, e))
zipped_arities (m ∷ ns) [] e = absurd (omega (arith, e))
zipped_arities (m ∷ ns) (u ∷ ts) e = ap (λ us. m ∷ us) (zipped_arities ns ts (omega (arith, e)))

zipped_length : (ns : List ℕ) (ts : List Lists) → length ns ≡ length ts → length (locals_of ns ts) ≡ length ns
zipped_length ns ts e = sym (length-map (locals_of ns ts) arity_of) ∙ ap length (zipped_arities ns ts e)

pub depth_is : (ns : List ℕ) (ts : List Lists) → length ns ≡ length ts → length (reverse (locals_of ns ts)) ≡ length ns
depth_is ns ts e = length-reverse (locals_of ns ts) ∙ zipped_length ns ts e

map_reversed : {X Y : Type 0} (f : X → Y) (xs : List X) → map f (reverse xs) ≡ reverse (map f xs)
map_reversed f [] = refl
map_reversed f (x ∷ xs) =
    ap (map f) (reverse-append (x ∷ []) xs) ∙ map-append f (reverse xs) (x ∷ []) ∙ ap (λ ys. ys ++ f x ∷ []) (map_reversed f xs) ∙ sym (reverse-append (f x ∷ []) (map f xs))

pub types_are : (ns : List ℕ) (ts : List Lists) → length ns ≡ length ts → reverse ts ≡ map the_type (reverse (locals_of ns ts))
types_are ns ts e = sym (map_reversed the_type (locals_of ns ts) ∙ ap reverse (zipped_types ns ts e))

arities_reversed : (ns : List ℕ) (ts : List Lists) → length ns ≡ length ts → map arity_of (reverse (locals_of ns ts)) ≡ reverse ns
arities_reversed ns ts e = map_reversed arity_of (locals_of ns ts) ∙ ap reverse (zipped_arities ns ts e)

pub arity_past : (ns : List ℕ) (ts : List Lists) (i : ℕ) → length ns ≡ length ts → length ns ≤ i → option_map arity_of (slice_get (reverse (locals_of ns ts)) i) ≡ None
arity_past ns ts i e l =
    sym (slice_get-map arity_of (reverse (locals_of ns ts)) i) ∙ ap (λ ks. slice_get ks i) (arities_reversed ns ts e)
    ∙ slice_get_past (reverse ns) i (omega (arith, l, length-reverse ns))

pub arity_inside : (ns : List ℕ) (ts : List Lists) (i d : ℕ) → length ns ≡ length ts → i < length ns → option_map arity_of (slice_get (reverse (locals_of ns ts)) i) ≡ Some (get_or ns (length ns - 1 - i) d)
arity_inside ns ts i d e l =
    sym (slice_get-map arity_of (reverse (locals_of ns ts)) i) ∙ ap (λ ks. slice_get ks i) (arities_reversed ns ts e)
    ∙ slice_get-get_or (reverse ns) i d (omega (arith, l, length-reverse ns)) ∙ ap Some (get_or-reverse ns i d l)

pub entered_is : (ns : List ℕ) (ts : List Lists) (n : ℕ) (t : Lists) → length ns ≡ length ts → reverse (locals_of (ns ++ n ∷ []) (ts ++ t ∷ [])) ≡ record { arity = n; type = t } ∷ reverse (locals_of ns ts)
entered_is ns ts n t e = ap reverse (zipped_push ns ts n t e) ∙ reverse-append (locals_of ns ts) (record { arity = n; type = t } ∷ [])

pub left_is : (ns : List ℕ) (ts : List Lists) (i j : ℕ) → length ns ≡ length ts → i ≡ length ns - 1 → j ≡ length ts - 1 → reverse (locals_of (take i ns) (take j ts)) ≡ drop 1 (reverse (locals_of ns ts))
left_is [] [] i j e f g = λ p. reverse (locals_of (take_all i [] (omega arith) p) (take_all j [] (omega arith) p))
left_is [] (u ∷ ts) i j e f g = absurd (omega (arith, e))
left_is (m ∷ ns) [] i j e f g = absurd (omega (arith, e))
left_is (m ∷ ns) (u ∷ ts) i j e f g =
    let before : i < length (m ∷ ns) = omega (arith, f) in
    let before_types : j < length (u ∷ ts) = omega (arith, g) in
    let fronts : length (take i (m ∷ ns)) ≡ length (take j (u ∷ ts)) =
    length-take-le i (m ∷ ns) (omega (arith, before)) ∙ omega (arith, e, f, g) ∙ sym (length-take-le j (u ∷ ts) (omega (arith, before_types))) in
    let arities : m ∷ ns ≡ take i (m ∷ ns) ++ get_or (m ∷ ns) i m ∷ [] = sym (take_all (i + 1) (m ∷ ns) (omega (arith, f))) ∙ take_more (m ∷ ns) i m before in
    let types : u ∷ ts ≡ take j (u ∷ ts) ++ get_or (u ∷ ts) j u ∷ [] = sym (take_all (j + 1) (u ∷ ts) (omega (arith, g))) ∙ take_more (u ∷ ts) j u before_types in
    sym (ap (drop 1) ((λ p. reverse (locals_of (arities p) (types p))) ∙ entered_is (take i (m ∷ ns)) (take j (u ∷ ts)) (get_or (m ∷ ns) i m) (get_or (u ∷ ts) j u) fronts))
