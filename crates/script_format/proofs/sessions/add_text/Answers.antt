use Rattle.std.proofs.Common.{◌≡◌, get_or, slice_set, ap, ◌∙◌, rules}
use Rattle.script_format.specs.declared.entries.ModelEntry.{ModelEntry}
use Rattle.script_format.specs.Reading.{with_text}
use Rattle.script_format.proofs.Changed.{changed_is_set}
use Rattle.script_format.proofs.sessions.add_text.Goals as goal

pub returns : goal.returns
returns c =
    let xs = c.args.models.now.items in
    let x : ModelEntry = c.index_mut.result.now in
    let more : c.add_line.new.self ≡ with_text c.args.text.now x = search rules in
    let is : x ≡ get_or xs c.args.place x = search rules in
    ap (λ (y : ModelEntry). slice_set xs c.args.place y) more
    ∙ ap (λ (y : ModelEntry). slice_set xs c.args.place (with_text c.args.text.now y)) is
    ∙ changed_is_set (with_text c.args.text.now) c.args.place xs x c.requires
