-- For callers: circuits that grow step by step, and what stands in them.
use Rattle.std.proofs.Common.{◌≡◌, ℕ, ◌<◌, Bool, List, length, take, sym, ap, ◌∙◌, arith}
use Rattle.std.proofs.lemmas.List.{take-take}
use Rattle.bool_circuit.specs.declared.shape.Shape.{Shape}
use Rattle.bool_circuit.specs.Network.{Network}
use Rattle.bool_circuit.specs.Value.{Extends, Stands}

pub Extends-trans : (a b c : Network) → Extends a b → Extends b c → Extends a c
Extends-trans a b c p q = record {
  inputs = q.inputs ∙ p.inputs;
  longer = omega (arith, p.longer, q.longer);
  shapes =
      sym (take-take (length a.shapes) (length b.shapes) c.shapes p.longer)
      ∙ ap (λ (xs : List Shape). take (length a.shapes) xs) q.shapes
      ∙ p.shapes;
  same = λ n s h. let h' : n < length b.shapes = omega (arith, p.longer) in q.same n s h' ∙ p.same n s h;
}

-- what stands in a circuit stands in one that extends it
pub Stands-kept : (a b : Network) (n : ℕ) (f : (ℕ → Bool) → Bool) → Stands a n f → Extends a b → Stands b n f
Stands-kept a b n f p q = record {
  there = omega (arith, p.there, q.longer);
  value = λ s. q.same n s p.there ∙ p.value s;
}

-- cut to its old length, a circuit is the old one
pub truncated : (old new : Network) → Extends old new → record new { shapes = take (length old.shapes) new.shapes } ≡ old
truncated old new p = λ i. record { inputs = p.inputs i; shapes = p.shapes i }
