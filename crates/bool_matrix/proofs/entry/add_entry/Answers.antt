use Rattle.std.proofs.Common.{◌≡◌, ◌∙◌, sym, ap, subst, get_or, ◌||◌}
use Rattle.std.proofs.lemmas.List.{get_or_default}
use Rattle.bool_circuit.specs.Value.{value_at, Stands}
use Rattle.bool_matrix.specs.declared.entry.Entry.{Entry}
use Rattle.bool_matrix.specs.Entries.{IsAscending, IsPlace, IsGap}
use Rattle.bool_matrix.specs.Edits.{EntriesGain}
use Rattle.bool_matrix.proofs.Places.{still_ascending}
use Rattle.bool_matrix.proofs.Edits.{entry_joined, entry_inserted}
use Rattle.bool_matrix.proofs.entry.add_entry.Goals as goal

pub returns-in_ok-both-in-Ok-clause-gains : goal.returns-in_ok-both-in-Ok-clause-gains
returns-in_ok-both-in-Ok-clause-gains c =
    let es = c.args.entries.now.items in
    let i = c.in-Ok.i in
    let place : IsPlace es c.args.tuple i = subst (λ xs. IsPlace xs c.args.tuple i) c.deref.ensures.value c.in-Ok.ensures.found in
    let same : (d : Entry) → c.index.result.now ≡ get_or es i d = λ d. c.index.ensures ∙ get_or_default es i c.index.result.now d place.within in
    let same' : (d : Entry) → c.index_mut.result.now ≡ get_or es i d = λ d. c.index_mut.ensures.value ∙ get_or_default es i c.index_mut.result.now d place.within in
    entry_joined c.args.circuit.now c.or.new.self c.or.ensures.extends es c.requires.of i c.args.tuple c.index_mut.result.now.tuple c.args.node c.in_ok-both-in-Ok.both place
    (λ d. ap (λ (y : Entry). y.tuple) (same' d))
    (λ d. subst (λ (y : Entry). Stands c.or.new.self c.in_ok-both-in-Ok.both (λ s. value_at c.args.circuit.now y.node s || value_at c.args.circuit.now c.args.node s)) (same d) c.in_ok-both-in-Ok.ensures.value)

pub returns-in_ok-insert-in-Err-clause-ascending : goal.returns-in_ok-insert-in-Err-clause-ascending
returns-in_ok-insert-in-Err-clause-ascending c =
    let es = c.args.entries.now.items in
    let gap : IsGap es c.args.tuple c.in-Err.i = subst (λ xs. IsGap xs c.args.tuple c.in-Err.i) c.deref.ensures.value c.in-Err.ensures.absent in
    subst IsAscending (sym c.in_ok-insert-in-Err.ensures.items) (still_ascending es (record { tuple = c.args.tuple; node = c.args.node }) c.in-Err.i c.requires.ascending gap)

pub returns-in_ok-insert-in-Err-clause-gains : goal.returns-in_ok-insert-in-Err-clause-gains
returns-in_ok-insert-in-Err-clause-gains c =
    let es = c.args.entries.now.items in
    subst (λ xs. EntriesGain c.args.circuit.now c.args.circuit.now es xs c.args.tuple c.args.node) (sym c.in_ok-insert-in-Err.ensures.items)
    (entry_inserted c.args.circuit.now es c.in-Err.i c.args.tuple c.args.node c.requires.of c.requires.node)
