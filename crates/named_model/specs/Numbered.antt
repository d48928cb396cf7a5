-- What stands at a number, counted from 1.
use Rattle.std.specs.Prelude.{ℕ, zero, suc, Bool, true, false, List, Option, Some, None, slice_get}
use Rattle.alloy_syntax.specs.declared.tree.CommandKind.{CommandKind}
use Rattle.alloy_syntax.specs.declared.tree.CommandKind.TheVariants as command_kind
use Rattle.named_model.specs.Model.{CommandTree}

abbrev pub checks : CommandKind → Bool
checks command_kind.Run = false
checks command_kind.Check = true

-- whether the command of that number is there and is a `check` command
abbrev pub is_check : List CommandTree → ℕ → Bool
is_check commands zero = false
is_check commands (suc n) = elim (slice_get commands n) [ None ↦ false | Some command ↦ checks command.kind ]

-- the name of the fact of that number, if it is there and has one
abbrev pub name_of_fact : List (Option (List ℕ)) → ℕ → Option (List ℕ)
name_of_fact names zero = None
name_of_fact names (suc n) = elim (slice_get names n) [ None ↦ None | Some name ↦ name ]
