-- The problem of a model with types, a command and some facts, and why there may be none.
use Rattle.std.specs.Prelude.{◌≡◌, ◌≢◌, ◌⊎◌, ◌<◌, ◌≤◌, ◌^◌, ℕ, zero, suc, List, length, slice_get, Option, Some, None, Ok, Err, All, AllPairs}
use Rattle.std.specs.List.{AllZip}
use Rattle.rel_formula.specs.declared.problem.Cell.{Cell}
use Rattle.rel_formula.specs.Bounds.{Bounded, IsProblem}
use Rattle.rel_terms.specs.Terms.{HasTerms}
use Rattle.named_model.specs.Model.{CommandTree, NamedTree}
use Rattle.named_model.specs.Signatures.{tops}
use Rattle.model_sizes.specs.declared.size.Size.{Size}
use Rattle.model_sizes.specs.Sizes.{sizes_in}
use Rattle.lowering_rules.specs.declared.fault.LowerFault.{LowerFault}
use Rattle.lowering_rules.specs.declared.fault.LowerFault.TheVariants as fault
use Rattle.lowering_rules.specs.Relations.{Outline, outlines, IsOutlined, MayHave, Has}
use Rattle.lowering_rules.specs.Formula.{formula_of}

-- commands are numbered from 1
abbrev pub command_at : NamedTree → ℕ → Option CommandTree
command_at m zero = None
command_at m (suc n) = slice_get m.commands n

-- the command of a number, and the sizes under it
pub record Commands (m : NamedTree) (n : ℕ) (c : CommandTree) (sizes : List Size) : Type 0 where
  pub there : command_at m n ≡ Some c
  pub sized : sizes_in m n ≡ Ok sizes

-- the problem of a command with these facts
pub record ProblemOf (m : NamedTree) (n : ℕ) (facts : List ℕ) (p : Bounded) : Type 0 where
  pub command : CommandTree
  pub sizes : List Size
  pub commands : Commands m n command sizes
  pub relations : AllZip (IsOutlined sizes) (outlines m sizes) p.relations
  pub tops : p.tops ≡ tops m.signatures
  pub formula : p.formula ≡ formula_of m command facts

-- ---- refusals

-- the relation of that number may have the tuple, and need not have it
abbrev pub IsCellOf : List Size → List Outline → Cell → Type 0
IsCellOf sizes os cell = (o : Outline) × (slice_get os cell.relation ≡ Some o) × MayHave sizes o cell.tuple × (Has sizes o cell.tuple → ⊥)

-- more than n cells
pub record HasMoreCells (sizes : List Size) (os : List Outline) (n : ℕ) : Type 0 where
  pub cells : List Cell
  pub differ : AllPairs (λ a b. a ≢ b) cells
  pub each : All (IsCellOf sizes os) cells
  pub more : n < length cells

-- there is no memory for the problem, or no room to build its formula: nothing is wrong with the model
abbrev pub IsWant : LowerFault → Type 0
IsWant f = (f ≡ fault.Memory) ⊎ (f ≡ fault.TooLarge)

-- the fault is the first one that there is; a formula may be too large to build only where there is a problem, want of memory may
-- come at any time
abbrev pub IsRefusal : NamedTree → ℕ → List ℕ → LowerFault → Type 0
IsRefusal m n facts fault.NoCommand = command_at m n ≡ None
IsRefusal m n facts (fault.Scope f) = (c : CommandTree) × (command_at m n ≡ Some c) × (sizes_in m n ≡ Err f)
IsRefusal m n facts fault.TooManyRelations = (c : CommandTree) × (sizes : List Size) × Commands m n c sizes × (128 < length (outlines m sizes))
IsRefusal m n facts fault.TooManyCells =
    (c : CommandTree) × (sizes : List Size) × Commands m n c sizes × (length (outlines m sizes) ≤ 128) × HasMoreCells sizes (outlines m sizes) 4096
IsRefusal m n facts fault.TooManyTerms = (p : Bounded) × IsProblem p × ProblemOf m n facts p × ((k : ℕ) → HasTerms p k → 2 ^ 18 < k)
IsRefusal m n facts fault.TooLarge = (p : Bounded) × IsProblem p × ProblemOf m n facts p
IsRefusal m n facts fault.Memory = Unit {0}
