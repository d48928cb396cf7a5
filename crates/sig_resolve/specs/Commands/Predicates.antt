-- The predicates of a model, and which of them have a parameter that need not be a single atom.
use Rattle.std.specs.Prelude.{◌≡◌, ℕ, List, [], ◌∷◌, ◌++◌, map, flat_map, Bool, false, Option, Some, None, if◌then◌else◌, bytes_eq}
use Rattle.std.specs.List.{list_any}
use Rattle.alloy_syntax.specs.declared.tree.Name.{Name}
use Rattle.alloy_syntax.specs.declared.tree.MultiplicityWord.{MultiplicityWord}
use Rattle.alloy_syntax.specs.declared.tree.CommandKind.{CommandKind}
use Rattle.alloy_syntax.specs.declared.tree.CommandKind.TheVariants as command_kind
use Rattle.alloy_syntax.specs.Tree.{ParagraphTree, predicate}
use Rattle.named_model.specs.declared.fault.NameFault.{NameFault}
use Rattle.named_model.specs.declared.fault.NameFault.TheVariants as fault
use Rattle.named_model.specs.Names.{Globals, callee_names, is_higher, is_among}
use Rattle.named_model.specs.Faults.{is_higher_domain, run_faults, predicates_at}
use Rattle.name_tables.specs.InForce.{InForce}

pub record Run : Type 0 where
  pub name : List ℕ
  pub is_higher : Bool

-- the predicate that a paragraph is
abbrev pub run_of : ParagraphTree → List Run
run_of (predicate n ds b) = record { name = n.text; is_higher = list_any is_higher_domain ds } ∷ []
run_of paragraph = []

-- the tables have these predicates
pub record AreRuns (runs : List Run) (names : InForce) (higher : List Bool) : Type 0 where
  pub names_are : callee_names names.globals ≡ map (λ (r : Run). r.name) runs
  pub higher_are : higher ≡ map (λ (r : Run). r.is_higher) runs

-- of those of a name, which are higher
abbrev pub higher_at : List ℕ → List Run → List Bool
higher_at text [] = []
higher_at text (r ∷ rs) = (if bytes_eq r.name text then r.is_higher ∷ [] else []) ++ higher_at text rs

abbrev pub is_higher_mark : Option MultiplicityWord → Bool
is_higher_mark None = false
is_higher_mark (Some mark) = is_higher mark

-- what is wrong with the name of a command
abbrev pub check_faults : Globals → Name → List NameFault
check_faults g n = if is_among g.assertions n.text then [] else fault.Unknown n.place ∷ []

abbrev pub name_faults : List ParagraphTree → Globals → CommandKind → Name → List NameFault
name_faults ps g command_kind.Run n = run_faults n.place (flat_map (predicates_at n.text) ps)
name_faults ps g command_kind.Check n = check_faults g n
