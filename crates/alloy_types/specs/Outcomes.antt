-- What checking gives of each thing that a model declares: the thing with its shared names settled, or its fault.
use Rattle.std.specs.Prelude.{◌≡◌, ℕ, List, [], ◌∷◌, map, slice_get, Some, None, Result, Ok, Err}
use Rattle.named_model.specs.Model.{TargetTree, CommandTree, NamedTree}
use Rattle.named_model.specs.View.{callee_view, formulas_view, target_view}
use Rattle.named_model.specs.Answers.{◌>>=◌}
use Rattle.model_types.specs.declared.fault.TypeFault.{TypeFault}
use Rattle.model_types.specs.Sorts.{Checked}
use Rattle.model_types.specs.Typing.{Declared, formulas_settled}
use Rattle.model_types.specs.Models.{field_checked, callee_settled, target_settled, checked}
use Rattle.alloy_types.specs.declared.outcomes.Outcomes.{Outcomes}

-- an outcome, seen by `see`
abbrev pub outcome_view : {X Y : Type 0} → (X → Y) → Result X TypeFault → Result Y TypeFault
outcome_view see (Ok x) = Ok (see x)
outcome_view see (Err e) = Err e

-- the outcomes of a model's fields, predicates and functions, facts, assertions, and of what its commands run or check
pub record AreOutcomes (m : NamedTree) (d : Declared) (o : Outcomes) : Type 0 where
  pub fields : o.fields.items ≡ map (field_checked d) m.fields
  pub callees : map (outcome_view callee_view) o.callees.items ≡ map (callee_settled d) m.callees
  pub facts : map (outcome_view formulas_view) o.facts.items ≡ map (formulas_settled d []) m.facts
  pub assertions : map (outcome_view formulas_view) o.assertions.items ≡ map (formulas_settled d []) m.assertions
  pub targets : map (outcome_view target_view) o.targets.items ≡ map (λ (c : CommandTree). target_settled m d c.target) m.commands

-- the first fault of a list
abbrev pub first_fault : List Checked → Checked
first_fault [] = Ok tt
first_fault (r ∷ rs) = r >>= λ done. first_fault rs

-- the fault of the outcome of a number, if there is one
abbrev pub fault_at : {X : Type 0} → List (Result X TypeFault) → ℕ → Checked
fault_at rs n = elim (slice_get rs n) [ None ↦ Ok tt | Some r ↦ checked r ]

-- things, each with what its outcome puts into it, where that has no fault
abbrev pub with_outcomes : {X Y : Type 0} → (X → Y → X) → List X → List (Result Y TypeFault) → List X
with_outcomes put [] rs = []
with_outcomes put (x ∷ xs) [] = x ∷ xs
with_outcomes put (x ∷ xs) (Ok y ∷ rs) = put x y ∷ with_outcomes put xs rs
with_outcomes put (x ∷ xs) (Err e ∷ rs) = x ∷ with_outcomes put xs rs

-- the second of two, in the place of the first
abbrev pub the_other : {X : Type 0} → X → X → X
the_other x y = y

-- a command that runs or checks this
abbrev pub with_target : CommandTree → TargetTree → CommandTree
with_target c t = record c { target = t }
