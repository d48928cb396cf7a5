use Rattle.explorer_cli.proofs.FewCommands.{few_commands}
use Rattle.explorer_cli.proofs.scripts.script_of.Goals as goal

pub returns-in-Ok : goal.returns-in-Ok
returns-in-Ok c =
    let bytes = c.args.bytes.now in
    let s = c.in-Ok.script in
    let is = c.in-Ok.ensures.script in
    let law = c.scripts_keep_to_limits.ensures in (
      is,
      record {
        models = law.models bytes s is;
        sessions = law.sessions bytes s is;
        named = law.named bytes s is;
        small = law.small bytes s is;
        allowed = law.allowed bytes s is;
        asked = law.asked bytes s is;
        commands = few_commands bytes s is;
      },
    )
