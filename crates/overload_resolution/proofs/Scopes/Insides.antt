-- Local names inside others.
use Rattle.std.proofs.Common.{◌≡◌, ℕ, ◌+◌, ◌<◌, ◌≤◌, Bool, List, [], ◌∷◌, ◌++◌, length, drop, refl, sym, ap, subst, ◌∙◌, arith, add-one, length-append}
use Rattle.model_types.specs.Typing.{Local, onto}
use Rattle.overload_resolution.specs.Settling.Inside.{AreSameWhere, AreAlikeWhere}
use Rattle.overload_resolution.specs.Scopes.Zipped.{IsInside}

-- the innermost one is left
pub one_left : (more outer : List Local) → length outer < length (more ++ outer) → IsInside (drop 1 (more ++ outer)) outer
one_left [] outer l = absurd (omega arith)
one_left (x ∷ more) outer l = (more, refl)

-- no other is
pub none_left : (more outer : List Local) → length (more ++ outer) ≤ length outer → more ++ outer ≡ outer
none_left [] outer l = refl
none_left (x ∷ more) outer l = absurd (omega (arith, length-append more outer))

pub left_inside : (now outer : List Local) → IsInside now outer → length outer < length now → IsInside (drop 1 now) outer
left_inside now outer i l = subst (λ ls. IsInside (drop 1 ls) outer) (sym i.1) (one_left i.0 outer (subst (λ ls. length outer < length ls) i.1 l))

pub all_left : (now outer : List Local) → IsInside now outer → length now ≤ length outer → now ≡ outer
all_left now outer i l = i.1 ∙ none_left i.0 outer (subst (λ ls. length ls ≤ length outer) i.1 l)

pub inside_more : (l : Local) (ls ms : List Local) → IsInside ls ms → IsInside (l ∷ ls) ms
inside_more l ls ms i = (l ∷ i.0, ap (λ ks. l ∷ ks) i.1)

pub alike_more : (asked : Bool) (n : ℕ) (l m : Local) (ls ms : List Local) → l.arity ≡ m.arity → AreSameWhere asked l.type m.type → AreAlikeWhere asked ls (onto n m ms) → AreAlikeWhere asked (l ∷ ls) (onto (n + 1) m ms)
alike_more asked n l m ls ms e s h = subst (λ k. AreAlikeWhere asked (l ∷ ls) (onto k m ms)) (sym (add-one n)) (e, s, h)
