-- Each part of a bound is smaller than the bound, so the calls for its parts come to an end.
use Rattle.std.proofs.Common.{◌≡◌, ℕ, ◌+◌, ◌*◌, ◌<◌, max, List, length, get_or, Vec, Box, Global, ap, arith, rules}
use denote.Param.Weighed.{most}
use Rattle.alloy_lex.specs.declared.token.Place.{Place}
use Rattle.alloy_syntax.proofs.tree.Bound.TheLaws.{the_size}
use Rattle.alloy_syntax.proofs.tree.BoundArrow.TheLaws.{the_size as arrow_size}
use Rattle.alloy_syntax.specs.declared.tree.Bound.{Bound}
use Rattle.alloy_syntax.specs.declared.tree.BoundArrow.{BoundArrow}
use Rattle.alloy_syntax.specs.declared.tree.Bound.TheVariants as bound
use Rattle.alloy_syntax.specs.declared.tree.Bound.TheViews.{the_lemmas}
use Rattle.reference_cycles.proofs.Recursion.Smaller.{item_falls}

-- the size of an operand beside its place, as it is measured
abbrev pub placed_size : Place × Bound → ℕ
placed_size u = max 0 (max (the_size u.1) 0)

-- the call for a part that is put into a box
pub boxed_falls : (t : ℕ) (whole seen part given : Bound) → 2 * the_size whole + 0 ≡ t → whole ≡ seen → given ≡ part → the_size part < the_size seen → 2 * the_size given + 1 < t
boxed_falls t whole seen part given measured is same smaller = let a = ap the_size is in let b = ap the_size same in omega arith

-- and the call for what goes into it
pub unboxed_falls : (n t : ℕ) → n + 1 ≡ t → n + 0 < t
unboxed_falls n t measured = omega arith

-- the call for one of the operands
pub operand_falls : (t : ℕ) (us : List (Place × Bound)) (i : ℕ) (u : Place × Bound) → 2 * most placed_size us + 1 ≡ t → i < length us → u ≡ get_or us i u → 2 * the_size u.1 + 0 < t
operand_falls t us i u measured there is = let a : 2 * placed_size u + 0 < t = item_falls placed_size t us i u measured there is in omega arith

pub bracketed_smaller : (p : Place) (b : Box Bound Global) → the_size b.value < the_size (bound.Bracketed p b)
bracketed_smaller p b = search (rules, the_lemmas)

pub operand_smaller : (b : Box Bound Global) (us : Vec (Place × Bound) Global) → the_size b.value < the_size (bound.Union b us)
operand_smaller b us = search (rules, the_lemmas)

pub operands_smaller : (b : Box Bound Global) (us : Vec (Place × Bound) Global) → most placed_size us.items < the_size (bound.Union b us)
operands_smaller b us = search (rules, the_lemmas)

pub side_smaller : (b : Box Bound Global) (as' : Vec BoundArrow Global) → the_size b.value < the_size (bound.Arrows b as')
side_smaller b as' = search (rules, the_lemmas)

pub sides_smaller : (b : Box Bound Global) (as' : Vec BoundArrow Global) → most arrow_size as'.items < the_size (bound.Arrows b as')
sides_smaller b as' = search (rules, the_lemmas)

pub arrow_smaller : (a : BoundArrow) → the_size a.side < arrow_size a
arrow_smaller a = search (rules, the_lemmas)
