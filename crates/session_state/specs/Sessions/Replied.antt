-- The reply to what was found for the next scenario.
use Rattle.std.specs.Prelude.{◌+◌, ℕ, List}
use Rattle.refutation_check.specs.Part.{Parted}
use Rattle.session_rules.specs.declared.answers.Refusal.TheVariants.{Spent}
use Rattle.session_rules.specs.declared.answers.Reply.{Reply}
use Rattle.session_rules.specs.declared.answers.Reply.TheVariants.{Shown, End, Refused}
use Rattle.session_state.specs.declared.search_rounds.next.Found.{Found}
use Rattle.session_state.specs.declared.search_rounds.next.Found.TheVariants.{Shown as IsShown, Ended as HasEnded, Spent as IsSpent}

-- the scenario has the next number, an end has the number of those that were shown, and a spent budget has what was done
abbrev pub reply_to : ℕ → ℕ → List Parted → List (List ℕ) → Found → Reply
reply_to shown budget parts copies (IsShown scenario) = Shown (shown + 1) scenario
reply_to shown budget parts copies (HasEnded proof) = End shown proof
reply_to shown budget parts copies IsSpent = Refused (Spent (record { budget = budget; parts = parts; copies = copies }))
