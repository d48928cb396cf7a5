use Rattle.std.proofs.Common.{◌<◌, ℕ, true, List, length, get_or, subst, sym, ◌∙◌, ap, arith}
use Rattle.bool_circuit.specs.Value.{Stands}
use Rattle.bool_circuit.proofs.CallerLemmas.{Stands-kept}
use Rattle.rel_translate.specs.Tables.{AreLeaves}
use Rattle.rel_translate.proofs.Tabled.{size_empty}
use Rattle.rel_translate.proofs.tables.Tables.of.Goals as goal

pub all_inputs-requires-clause-count : goal.all_inputs-requires-clause-count
all_inputs-requires-clause-count c = c.cells.ensures.value ∙ sym c.requires.inputs ∙ sym c.constant.ensures.extends.inputs

pub all_inputs-requires-clause-room : goal.all_inputs-requires-clause-room
all_inputs-requires-clause-room c =
    let start = size_empty c.args.circuit.now c.requires.empty in
    let one = c.constant.ensures.size in
    let few = c.cells.ensures.few in
    omega arith

pub all_relations-requires : goal.all_relations-requires
all_relations-requires c = record { count = ap (λ (ns : List ℕ). length ns) c.deref.ensures.value ∙ c.in_ok-inputs.ensures.count ∙ c.cells.ensures.value }

pub universe-requires-clause-leaves : goal.universe-requires-clause-leaves
universe-requires-clause-leaves c = (
  c.all_inputs.new.circuit,
  record {
    always_is = Stands-kept c.constant.new.self c.all_inputs.new.circuit c.in_ok-always.always (λ s. true) c.in_ok-always.ensures.value c.all_inputs.ensures.extends;
    count = ap (λ (ns : List ℕ). length ns) c.deref-2.ensures.value ∙ c.in_ok-inputs.ensures.count ∙ c.cells.ensures.value;
    each = subst (λ (ns : List ℕ). (n d : ℕ) → n < length ns → Stands c.all_inputs.new.circuit (get_or ns n d) (λ s. s n)) (sym c.deref-2.ensures.value) c.in_ok-inputs.ensures.each;
  },
)

pub returns-clause-tables : goal.returns-clause-tables
returns-clause-tables c =
    let network = c.all_inputs.new.circuit in
    let leaves : AreLeaves network c.args.problem.now c.in_ok-always.always c.in_ok-inputs.inputs.items = record {
      always_is = Stands-kept c.constant.new.self network c.in_ok-always.always (λ s. true) c.in_ok-always.ensures.value c.all_inputs.ensures.extends;
      count = c.in_ok-inputs.ensures.count ∙ c.cells.ensures.value;
      each = c.in_ok-inputs.ensures.each;
    } in
    record {
      always_is = leaves.always_is;
      count = c.in_ok-relations.ensures.count;
      each = c.in_ok-relations.ensures.each network (subst (AreLeaves network c.args.problem.now c.in_ok-always.always) (sym c.deref.ensures.value) leaves);
      universe_is = c.in_ok-universe.ensures network (subst (AreLeaves network c.args.problem.now c.in_ok-always.always) (sym c.deref-2.ensures.value) leaves);
    }

pub returns-clause-size : goal.returns-clause-size
returns-clause-size c =
    let start = size_empty c.args.circuit.now c.requires.empty in
    omega (arith, start, c.constant.ensures.size, c.in_ok-inputs.ensures.size, c.cells.ensures.value)
