use Rattle.session_rules.specs.States.{Start}
use Rattle.explorer_cli.proofs.FloorsBehind.{floor_behind}
use Rattle.explorer_cli.proofs.laws.back_leads_to_the_floor_below.Goals as goal

pub returns : goal.returns
returns c p budget commands replies floors run = floor_behind p (Start budget) commands replies floors run.0 run.1
