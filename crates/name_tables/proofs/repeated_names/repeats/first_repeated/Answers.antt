use Rattle.std.proofs.Common.{[], map, flat_map, ap, ◌∙◌}
use Rattle.alloy_syntax.specs.View.{paragraph_view}
use Rattle.named_model.specs.Answers.{first_in}
use Rattle.named_model.specs.Faults.{children, stated_from}
use Rattle.name_tables.specs.Repeats.Coded.{repeats}
use Rattle.name_tables.proofs.Repeats.Repeating.{repeats_are}
use Rattle.name_tables.proofs.repeated_names.repeats.first_repeated.Goals as goal

-- `first_of` is called last and answers itself: if its goal has no clause to cite, write `Ok(first_of(alloc, &reading.coded)?)`
pub returns : goal.returns
returns c =
    c.in_ok-first_of.ensures ∙ ap (λ cs. first_in (repeats [] cs)) c.deref.ensures.value
    ∙ ap first_in (repeats_are c.in_ok-reading.reading.words c.in_ok-reading.reading.coded.items (stated_from (flat_map children (map paragraph_view c.args.paragraphs.now)) 0 (map paragraph_view c.args.paragraphs.now)) c.in_ok-reading.ensures.coded_are)
