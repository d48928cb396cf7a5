-- What a measure records of a session.
use Rattle.std.specs.Prelude.{ℕ, []}
use Rattle.session_words.specs.declared.steps.Step.TheVariants.{Next}
use Rattle.session_rules.specs.declared.answers.Reply.TheVariants.{Shown}
use Rattle.hub_state.specs.Journal.Noted.{Opened, Recorded}
use Rattle.hub_state.specs.HubView.{HubView, with_entry}

-- the hub after a session was opened on the first problem, and then was shown the empty scenario
abbrev pub with_session : HubView → ℕ → HubView
with_session hub by = with_entry (with_entry hub by (Opened 0 5)) by (Recorded Next (Shown 1 []))
