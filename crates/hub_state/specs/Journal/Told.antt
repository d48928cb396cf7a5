-- What a transcript has to do with the journal.
use Rattle.std.specs.Prelude.{◌≡◌, ℕ, List, slice_get, Some}
use Rattle.rel_formula.specs.Bounds.{Bounded}
use Rattle.session_words.specs.declared.commands.Command.{Command}
use Rattle.session_rules.specs.States.{Start}
use Rattle.session_rules.specs.Steps.{Exchange}
use Rattle.session_rules.specs.Transcripts.{IsTranscript, without_memory}
use Rattle.session_rules.specs.declared.answers.Reply.{Reply}
use Rattle.hub_state.specs.Journal.Noted.{Noted, Opened}
use Rattle.hub_state.specs.Journal.Journal.{HasNoted, exchanges_of}

-- the session of this number was opened on the key's problem with the budget; its replies are a transcript from the start,
-- and read as steps, without the replies that want memory, they are what it recorded
pub record IsTold (problems : List Bounded) (journal : List Noted) (number key budget : ℕ) (commands : List Command) (replies : List Reply) (floors : List (List ℕ)) : Type 0 where
  pub opened : HasNoted journal number (Opened key budget)
  pub problem : Bounded
  pub of_key : slice_get problems key ≡ Some problem
  pub exchanges : List Exchange
  pub transcript : IsTranscript problem (Start budget) commands replies floors exchanges
  pub recorded : exchanges_of number journal ≡ without_memory exchanges
