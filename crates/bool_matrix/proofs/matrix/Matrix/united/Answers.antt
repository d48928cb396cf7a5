use Rattle.std.proofs.Common.{◌≡◌, ◌<◌, ◌++◌, List, length, ap, sym, ◌∙◌, refl, arith, length-append}
use Rattle.std.proofs.lemmas.List.{append_assoc}
use Rattle.tuple_core.proofs.Congruence.{same_itself}
use Rattle.bool_circuit.proofs.CallerLemmas.{Extends-trans}
use Rattle.bool_matrix.specs.declared.entry.Entry.{Entry}
use Rattle.bool_matrix.proofs.Loops.{matrix_made, entry_of}
use Rattle.bool_matrix.proofs.Merges.{all_part, rest_part, rest_ascending, turn_taken, turns_taken}
use Rattle.bool_matrix.proofs.matrix.Matrix.united.Goals as goal

pub count_before-requires : goal.count_before-requires
count_before-requires c =
    let taken = c.loop-entry.invariant.taken in
    rest_ascending c.args.other.now.entries taken.0 c.loop-entry.rest.now taken.1 c.entries-rest.ensures.well.ascending

pub split_at-requires : goal.split_at-requires
split_at-requires c = c.count_before.ensures.within

pub add_behind-requires-clause-arities : goal.add_behind-requires-clause-arities
add_behind-requires-clause-arities c =
    let other = c.args.other.now in
    let taken = c.loop-entry.invariant.taken in
    let same : c.loop-entry.out.arity ≡ other.arity = taken.2.arity ∙ c.new-out.ensures.arity ∙ c.arity.ensures.value ∙ c.requires.arity in
    λ k d h. all_part (λ e. length e.tuple ≡ other.arity) other.entries taken.0 c.loop-entry.rest.now c.split_at.result.0.now c.split_at.result.1.now taken.1 c.split_at.ensures.by_index.0 c.entries-rest.ensures.well.arities k d h ∙ sym same

pub add_behind-requires-clause-nodes : goal.add_behind-requires-clause-nodes
add_behind-requires-clause-nodes c =
    let old = c.args.circuit.now in
    let taken = c.loop-entry.invariant.taken in
    λ k d h. let b = all_part (λ e. e.node < length old.shapes) c.args.other.now.entries taken.0 c.loop-entry.rest.now c.split_at.result.0.now c.split_at.result.1.now taken.1 c.split_at.ensures.by_index.0 c.requires.of_other k d h in omega (arith, c.loop-entry.invariant.extends.longer)

pub loop-entry-preserved : goal.loop-entry-preserved
loop-entry-preserved c =
    let old = c.args.circuit.now in
    let w = c.loop-entry.circuit in
    let v = c.add_behind.new.circuit in
    let x = c.entry-item.result in
    let xs : List Entry = c.entries-entry-items.result.now in
    let taken = c.loop-entry.invariant.taken in
    let before : List Entry = c.split_at.result.0.now in
    let after : List Entry = c.split_at.result.1.now in
    let b = entry_of old c.args.self.now xs c.loop-entry.entry-index x c.entries-entry-items.ensures.value c.requires.of c.loop-entry-test.true c.entry-item.is in
    record {
      extends = Extends-trans old w v c.loop-entry.invariant.extends c.in_ok-add_behind.ensures.extends;
      taken = (
        taken.0 ++ before,
        taken.1 ∙ ap (λ (zs : List Entry). taken.0 ++ zs) c.split_at.ensures.by_index.0 ∙ sym (append_assoc taken.0 before after),
        turn_taken old w v c.loop-entry.invariant.extends xs c.loop-entry.entry-index c.args.other.now.entries taken.0 c.loop-entry.rest.now taken.1 c.requires.of_other c.new-out.result c.loop-entry.out c.add_behind.new.self taken.2
            x before after c.split_at.ensures.by_index.0 b c.loop-entry-test.true c.entry-item.is c.in_ok-add_behind.ensures.gains,
        omega (arith, taken.3, c.in_ok-add_behind.ensures.size, length-append taken.0 before),
      );
    }

pub add_all-requires-clause-arities : goal.add_all-requires-clause-arities
add_all-requires-clause-arities c =
    let other = c.args.other.now in
    let taken = c.loop-entry.invariant.taken in
    let same : c.loop-entry.out.arity ≡ other.arity = taken.2.arity ∙ c.new-out.ensures.arity ∙ c.arity.ensures.value ∙ c.requires.arity in
    λ k d h. rest_part (λ e. length e.tuple ≡ other.arity) other.entries taken.0 c.loop-entry.rest.now taken.1 c.entries-rest.ensures.well.arities k d h ∙ sym same

pub add_all-requires-clause-nodes : goal.add_all-requires-clause-nodes
add_all-requires-clause-nodes c =
    let old = c.args.circuit.now in
    let taken = c.loop-entry.invariant.taken in
    λ k d h. let b = rest_part (λ e. e.node < length old.shapes) c.args.other.now.entries taken.0 c.loop-entry.rest.now taken.1 c.requires.of_other k d h in omega (arith, c.loop-entry.invariant.extends.longer)

pub returns-clause-is : goal.returns-clause-is
returns-clause-is c =
    let old = c.args.circuit.now in
    let w = c.loop-entry.circuit in
    let v = c.add_all.new.circuit in
    let xs : List Entry = c.entries-entry-items.result.now in
    let taken = c.loop-entry.invariant.taken in
    matrix_made old v c.new-out.result c.add_all.new.self c.args.self.now.arity _ _ _ _ c.new-out.ensures.entries (c.new-out.ensures.arity ∙ c.arity.ensures.value)
    (turns_taken old w v c.loop-entry.invariant.extends xs c.loop-entry.entry-index c.args.other.now.entries taken.0 c.loop-entry.rest.now taken.1 c.requires.of_other c.new-out.result c.loop-entry.out c.add_all.new.self taken.2
    c.args.self.now c.args.other.now (omega arith) c.entries-entry-items.ensures.value refl c.in_ok-add_all.ensures.gains)
    (λ s. same_itself _) (same_itself _)
