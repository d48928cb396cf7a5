use Rattle.explorer_run.specs.Served.{values_of}
use Rattle.explorer_run.proofs.Whole.{all_served}
use Rattle.explorer_run.proofs.sessions.serve_sessions.Goals as goal

pub returns-in_ok-transcripts-in-Ok-clause-served : goal.returns-in_ok-transcripts-in-Ok-clause-served
returns-in_ok-transcripts-in-Ok-clause-served g c =
    let explorer = c.in-Ok.explorer in
    let first = c.in-Ok.ensures in
    let ended = c.finish-hub.ensures in
    let told = c.in_ok-transcripts-in-Ok.ensures in
    all_served explorer.lock c.args.problems.items c.args.scripts.now (values_of explorer.translations.items) (record { translations = c.finish-hub.result.1; transcripts = c.in_ok-transcripts-in-Ok.field-0 }) c.in-Ok.root c.serve_all-transcripts.new.root
    c.finish-hub.result.0 ended.translations first c.serve_all-transcripts.ensures.root told.made (told.told c.args.problems.items first.base) ended.problems ended.journal ended.legal ended.numbers ended.publications
