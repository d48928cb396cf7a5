use Rattle.std.proofs.Common.{◌≡◌, ◌++◌, ◌∷◌, [], List, get_or, slice_set, ap, ◌∙◌, rules}
use Rattle.session_words.specs.declared.commands.Command.{Command}
use Rattle.script_format.specs.declared.entries.SessionEntry.{SessionEntry}
use Rattle.script_format.specs.Reading.{with_command}
use Rattle.script_format.proofs.Changed.{changed_is_set}
use Rattle.script_format.proofs.sessions.add_command.Goals as goal

pub returns : goal.returns
returns c =
    let xs = c.args.sessions.now.items in
    let x : SessionEntry = c.index_mut.result.now in
    let more : c.push.new.self ≡ x.commands ++ c.args.command ∷ [] = search rules in
    let is : x ≡ get_or xs c.args.place x = search rules in
    ap (λ (cs : List Command). slice_set xs c.args.place (record { name = x.name; model = x.model; number = x.number; commands = cs })) more
    ∙ ap (λ (y : SessionEntry). slice_set xs c.args.place (with_command c.args.command y)) is
    ∙ changed_is_set (with_command c.args.command) c.args.place xs x c.requires
