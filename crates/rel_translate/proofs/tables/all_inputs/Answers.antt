use Rattle.std.proofs.Common.{ℕ, List, length, ap, arith}
use Rattle.std.proofs.lemmas.List.{length_push}
use Rattle.bool_circuit.proofs.CallerLemmas.{Extends-trans}
use Rattle.bool_circuit.proofs.Values.{Extends-refl}
use Rattle.rel_translate.proofs.Tabled.{inputs_push}
use Rattle.rel_translate.proofs.tables.all_inputs.Goals as goal

pub loop-number-init : goal.loop-number-init
loop-number-init c = record {
  extends = Extends-refl c.args.circuit.now;
  count = ap (λ (ns : List ℕ). length ns) c.new-nodes.ensures.items;
  each = λ n d l. absurd (let e = ap (λ (ns : List ℕ). length ns) c.new-nodes.ensures.items in omega arith);
  size = omega arith;
}

pub loop-number-preserved : goal.loop-number-preserved
loop-number-preserved c =
    let inv = c.loop-number.invariant in
    record {
      extends = Extends-trans c.args.circuit.now c.loop-number.circuit c.input.new.self inv.extends c.input.ensures.extends;
      count = let e = ap length c.in_ok-push.ensures.items in let f = length_push c.loop-number.nodes.items c.in_ok-node.node in let m = inv.count in omega arith;
      each = inputs_push c.loop-number.circuit c.input.new.self c.loop-number.nodes.items c.push.new.self.items c.loop-number.number c.in_ok-node.node inv.count c.in_ok-push.ensures.items c.input.ensures.extends c.in_ok-node.ensures.value inv.each;
      size = omega (arith, inv.size, c.input.ensures.size);
    }
