-- Texts whose names have no fault, and the sizes under their first command.
use Rattle.std.specs.Prelude.{◌≡◌, ℕ, List, [], ◌∷◌, Option, Some, None, Result, Ok, Err, true, false, codes, option_and_then, map}
use Rattle.alloy_syntax.specs.Tree.{ModelTree}
use Rattle.named_model.specs.declared.fault.NameFault.{NameFault}
use Rattle.named_model.specs.declared.fault.NameFault.TheVariants.{NoScope, ScopeTooLarge, TooManyAtoms, Twice, UnknownScope}
use Rattle.named_model.specs.Texts.{tree_of}
use Rattle.named_model.specs.Faults.{faults_in}
use Rattle.named_model.specs.Declarations.{named_of}
use Rattle.model_sizes.specs.declared.size.Size.{Size}
use Rattle.model_sizes.specs.Sizes.{size, sizes_in}

-- the sizes in a tree whose names have no fault
abbrev pub told_in : ModelTree → Option (Result (List Size) NameFault)
told_in m = elim (faults_in m) [ [] ↦ Some (sizes_in (named_of m) 1) | fault ∷ faults ↦ None ]

abbrev pub told_of : List ℕ → Option (Result (List Size) NameFault)
told_of text = option_and_then told_in (tree_of text)

-- so many places of the signature of a number
abbrev pub at_most : ℕ → ℕ → Size
at_most s n = size s n false

abbrev pub exactly : ℕ → ℕ → Size
exactly s n = size s n true

pub record Row : Type 0 where
  pub text : List ℕ
  pub told : Result (List Size) NameFault

abbrev pub row : List ℕ → Result (List Size) NameFault → Row
row text told = record { text = text; told = told }

abbrev pub rows : List Row
rows =
    row (codes "sig A {} run {}") (Ok (at_most 0 3 ∷ []))
    ∷ row (codes "sig A {} run {} for 5") (Ok (at_most 0 5 ∷ []))
    ∷ row (codes "sig A {} run {} for exactly 5 A") (Ok (exactly 0 5 ∷ []))
    ∷ row (codes "sig A, B {} run {} for 2 but exactly 1 B") (Ok (at_most 0 2 ∷ exactly 1 1 ∷ []))
    ∷ row (codes "sig A, B {} run {} for 1 A") (Err NoScope)
    ∷ row (codes "one sig A {} lone sig B {} some sig C {} run {} for 1") (Ok (exactly 0 1 ∷ at_most 1 1 ∷ at_most 2 1 ∷ []))
    ∷ row (codes "one sig A {} run {} for 5 A") (Ok (exactly 0 1 ∷ []))
    ∷ row (codes "abstract sig C {} one sig R, G extends C {} run {} for 1") (Ok (at_most 0 2 ∷ []))
    ∷ row (codes "abstract sig C {} sig R, G extends C {} run {} for 4 but 2 R, 3 G") (Ok (at_most 0 5 ∷ []))
    ∷ row (codes "abstract sig C {} sig R, G extends C {} run {} for 4 but 2 R") (Ok (at_most 0 4 ∷ []))
    ∷ row (codes "abstract sig C {} sig R, G extends C {} run {} for 4 but 2 R, 3 G, 1 C") (Ok (at_most 0 1 ∷ []))
    ∷ row (codes "abstract sig C {} sig R in C {} run {} for 4 but 2 R") (Ok (at_most 0 4 ∷ []))
    ∷ row (codes "abstract sig C {} run {} for 4") (Ok (at_most 0 4 ∷ []))
    ∷ row (codes "sig C {} sig R, G extends C {} run {} for 4 but 2 R, 3 G") (Ok (at_most 0 4 ∷ []))
    ∷ row (codes "abstract sig C {} one sig R extends C {} lone sig G extends C {} run {} for 4 but 2 R") (Ok (at_most 0 3 ∷ []))
    ∷ row (codes "sig A {} sig B in A {} run {}") (Ok (at_most 0 3 ∷ []))
    ∷ row (codes "sig A {} run {} for 33") (Err ScopeTooLarge)
    ∷ row (codes "sig A {} run {} for 33 but 1 A") (Err ScopeTooLarge)
    ∷ row (codes "sig A {} run {} for 3 but 33 A") (Err ScopeTooLarge)
    ∷ row (codes "sig A {} run {} for 32") (Ok (at_most 0 32 ∷ []))
    ∷ row (codes "abstract sig C {} sig R, G extends C {} run {} for 4 but 17 R, 16 G") (Err ScopeTooLarge)
    ∷ row (codes "sig A {} run {} for 1 B") (Err UnknownScope)
    ∷ row (codes "sig A {} run {} for 1 B, 33 A") (Err UnknownScope)
    ∷ row (codes "sig A {} run {} for 33 A, 1 B") (Err ScopeTooLarge)
    ∷ row (codes "sig A {} run {} for 1 A, 33 A") (Err (Twice (record { line = 1; column = 29 })))
    ∷ row (codes "sig A {} run {} for 33 but 1 B") (Err ScopeTooLarge)
    ∷ row (codes "sig A, B {} run {} for 1 A, 1 A") (Err (Twice (record { line = 1; column = 31 })))
    ∷ row (codes "sig A, B, C {} run {} for 22") (Err TooManyAtoms)
    ∷ row (codes "sig A, B {} run {} for 32") (Ok (at_most 0 32 ∷ at_most 1 32 ∷ []))
    ∷ row (codes "sig A, B, C {} run {} for 22 A, 22 B") (Err NoScope)
    ∷ row (codes "sig A {} run {} for 0") (Ok (at_most 0 0 ∷ []))
    ∷ []

-- what is told is what the table has
abbrev pub AreTold : List Row → Type 0
AreTold rs = map (λ (r : Row). told_of r.text) rs ≡ map (λ (r : Row). Some r.told) rs
