-- Declarations that say the same, but for the order of the lists in their types, check things alike.
use Rattle.std.proofs.Common.{◌≡◌, ◌==◌, List, [], map, true, ◌||◌, if◌then◌else◌, Option, Some, None, is_some, Result, Ok, refl, ap, ◌∙◌}
use Rattle.std.specs.Prelude.{nat_le}
use Rattle.named_model.specs.Phrase.{PhraseTree, PhraseTrees}
use Rattle.named_model.specs.Model.{FieldTree, CalleeTree, TargetTree, at_predicate, at_assertion, at_block, CommandTree, NamedTree}
use Rattle.named_model.specs.Answers.{◌>>=◌}
use Rattle.model_types.specs.declared.fault.TypeFault.{TypeFault}
use Rattle.model_types.specs.declared.fault.TypeFault.TheVariants as fault
use Rattle.model_types.specs.Sorts.{Checked, unless, first_place, as_relation}
use Rattle.model_types.specs.Typing.{Declared, Settled, settled, formulas_settled}
use Rattle.model_types.specs.Models.{sides_of, unary, sides_unary, arrow_checked, wants_unary, field_checked, callee_settled, target_settled}
use Rattle.alloy_types.specs.Declarations.Same.{AreSameDeclared}
use Rattle.alloy_types.specs.declared.outcomes.Outcomes.{Outcomes}
use Rattle.alloy_types.specs.Outcomes.{AreOutcomes}
use Rattle.alloy_types.proofs.Declarations.Settling.{parts_same, all_formulas_same}
use Rattle.alloy_types.proofs.SameCalls.Callees.{callees_same, runs_same}

module _ (d e : Declared) (same : AreSameDeclared d e) where
  part_same : (x : PhraseTree) → settled d [] [] x ≡ settled e [] [] x
  part_same x = parts_same d e same [] [] tt [] [] (λ t. refl) x

  unary_same : (x : PhraseTree) → unary d x ≡ unary e x
  unary_same x = ap (λ r. r >>= λ y. as_relation (first_place x) y.kind >>= λ n. unless (n == 1) (fault.NotUnary (first_place x))) (part_same x)

  sides_same : (o : Option (PhraseTree × PhraseTree)) → sides_unary d o ≡ sides_unary e o
  sides_same None = refl
  sides_same (Some sides) = λ i. unary_same sides.0 i >>= λ left. unary_same sides.1 i

  arrow_same : (f : FieldTree) → arrow_checked d f ≡ arrow_checked e f
  arrow_same f = ap (λ (r : Checked). if is_some f.left || is_some f.right then r else Ok tt) (sides_same (sides_of f.bound))

  abbrev field_by : FieldTree → Result Settled TypeFault → Checked → Checked
  field_by f bound arrow =
      bound >>= λ y. as_relation (first_place f.bound) y.kind >>= λ n. arrow >>= λ sides. unless (if wants_unary f.mark then n == 1 else true) (fault.NotUnary (first_place f.bound)) >>= λ one. unless (nat_le n 2) (fault.ArityTooLarge f.place)

  pub field_same : (f : FieldTree) → field_checked d f ≡ field_checked e f
  field_same f = λ i. field_by f (part_same f.bound i) (arrow_same f i)

  pub target_same : (m : NamedTree) (t : TargetTree) → target_settled m d t ≡ target_settled m e t
  target_same m (at_block xs) = ap (λ r. r >>= λ ys. Ok (at_block ys)) (all_formulas_same d e same [] [] tt xs)
  target_same m (at_predicate n) = ap (λ r. r >>= λ one. Ok (at_predicate n)) (runs_same d e same (Rattle.std.specs.List.slice_get m.callees n))
  target_same m (at_assertion n) = refl

  fields_alike : (fs : List FieldTree) → map (field_checked d) fs ≡ map (field_checked e) fs
  fields_alike fs = λ i. map (λ f. field_same f i) fs

  callees_alike : (cs : List CalleeTree) → map (callee_settled d) cs ≡ map (callee_settled e) cs
  callees_alike cs = λ i. map (λ c. callees_same d e same c i) cs

  blocks_alike : (xs : List PhraseTrees) → map (formulas_settled d []) xs ≡ map (formulas_settled e []) xs
  blocks_alike xs = λ i. map (λ x. all_formulas_same d e same [] [] tt x i) xs

  targets_alike : (m : NamedTree) (cs : List CommandTree) → map (λ (c : CommandTree). target_settled m d c.target) cs ≡ map (λ (c : CommandTree). target_settled m e c.target) cs
  targets_alike m cs = λ i. map (λ (c : CommandTree). target_same m c.target i) cs

  pub outcomes_alike : (m : NamedTree) (o : Outcomes) → AreOutcomes m d o → AreOutcomes m e o
  outcomes_alike m o are = record {
    fields = are.fields ∙ fields_alike m.fields;
    callees = are.callees ∙ callees_alike m.callees;
    facts = are.facts ∙ blocks_alike m.facts;
    assertions = are.assertions ∙ blocks_alike m.assertions;
    targets = are.targets ∙ targets_alike m m.commands;
  }
