use Rattle.std.proofs.Common.{sym, subst}
use Rattle.session_rules.specs.Sound.{IsSound}
use Rattle.session_rules.proofs.Runs.{from_start}
use Rattle.session_rules.proofs.laws.a_run_is_sound.Goals as goal

pub returns : goal.returns
returns c p s reached = subst (IsSound p) (sym reached.state) (from_start p reached.budget reached.exchanges reached.run)
