use Rattle.std.proofs.Common.{sym, subst, []}
use Rattle.bool_matrix.specs.declared.entry.Entry.{Entry}
use Rattle.bool_matrix.specs.Entries.{IsAscending, IsPlace, IsGap}
use Rattle.bool_matrix.specs.Cells.{AtEntry}
use Rattle.bool_matrix.specs.Edits.{EntriesPut}
use Rattle.bool_matrix.proofs.Places.{still_ascending}
use Rattle.bool_matrix.proofs.Edits.{at_gives, insert_gives, entry_inserted}
use Rattle.bool_matrix.proofs.entry.put_entry.Goals as goal

pub returns-in-Ok-clause-puts : goal.returns-in-Ok-clause-puts
returns-in-Ok-clause-puts c =
    let es = c.args.entries.now.items in
    let place : IsPlace es c.args.tuple c.in-Ok.field-0 = subst (λ xs. IsPlace xs c.args.tuple c.in-Ok.field-0) c.deref.ensures.value c.in-Ok.ensures.found in
    let none : Entry = record { tuple = []; node = 0 } in
    absurd (c.requires.absent (at_gives es c.in-Ok.field-0 none AtEntry c.args.tuple place.within (sym (place.there none))))

pub returns-in_ok-insert-in-Err-clause-ascending : goal.returns-in_ok-insert-in-Err-clause-ascending
returns-in_ok-insert-in-Err-clause-ascending c =
    let es = c.args.entries.now.items in
    let gap : IsGap es c.args.tuple c.in-Err.i = subst (λ xs. IsGap xs c.args.tuple c.in-Err.i) c.deref.ensures.value c.in-Err.ensures.absent in
    subst IsAscending (sym c.in_ok-insert-in-Err.ensures.items) (still_ascending es (record { tuple = c.args.tuple; node = c.args.node }) c.in-Err.i c.requires.ascending gap)

pub returns-in_ok-insert-in-Err-clause-puts : goal.returns-in_ok-insert-in-Err-clause-puts
returns-in_ok-insert-in-Err-clause-puts c =
    let es = c.args.entries.now.items in
    subst (λ xs. EntriesPut es xs c.args.tuple c.args.node) (sym c.in_ok-insert-in-Err.ensures.items)
    (record { there = insert_gives es c.in-Err.i (record { tuple = c.args.tuple; node = c.args.node }) AtEntry; gains = λ network of l. entry_inserted network es c.in-Err.i c.args.tuple c.args.node of l })
