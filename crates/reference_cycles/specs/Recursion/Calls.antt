-- The calls in a step, and the fault of a callee.
use Rattle.std.specs.Prelude.{ℕ, List, Option, slice_get, option_map}
use Rattle.named_model.specs.declared.fault.NameFault.{NameFault}
use Rattle.named_model.specs.declared.fault.NameFault.TheVariants.{Recursive}
use Rattle.named_model.specs.Phrase.{StepTree, joined, in_brackets, phrases_of}
use Rattle.named_model.specs.Model.{CalleeTree}
use Rattle.named_model.specs.Faults.{calls_in, calls_in_all}

abbrev pub calls_in_step : StepTree → List ℕ
calls_in_step (joined p x) = calls_in x
calls_in_step (in_brackets p xs) = calls_in_all (phrases_of xs)

-- the fault of the callee of a number, where it calls itself
abbrev pub fault_at : List CalleeTree → ℕ → Option NameFault
fault_at cs number = option_map (λ (c : CalleeTree). Recursive c.place) (slice_get cs number)
