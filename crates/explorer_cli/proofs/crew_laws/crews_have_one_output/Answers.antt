use Rattle.explorer_cli.proofs.OneCrew.{one_crew_text}
use Rattle.explorer_cli.proofs.crew_laws.crews_have_one_output.Goals as goal

pub returns : goal.returns
returns c = one_crew_text c.what_is_printed_has_one_text.ensures.reply c.models_are_used_one_way.ensures.problem c.models_are_used_one_way.ensures.models
