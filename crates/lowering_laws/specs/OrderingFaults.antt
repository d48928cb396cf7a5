-- What orderings declare has no fault of its names and its types.
use Rattle.std.specs.Prelude.{◌≡◌, [], flat_map, All}
use Rattle.alloy_syntax.specs.declared.tree.Open.{Open}
use Rattle.alloy_syntax.specs.Tree.{ModelTree}
use Rattle.named_model.specs.Phrase.{PhraseTrees}
use Rattle.named_model.specs.Model.{FieldTree, CalleeTree}
use Rattle.named_model.specs.Declarations.{globals_of, fields_named, facts_named, callees_named, named_of}
use Rattle.named_model.specs.Faults.{signature_faults, body_faults}
use Rattle.model_types.specs.Typing.{formulas_settled}
use Rattle.model_types.specs.Models.{declared_in, field_checked, callee_settled}
use Rattle.lowering_rules.specs.Typed.{HasNoFault}
use Rattle.order_lib.specs.Library.{paragraphs_of}

-- in a text with what orderings declare, none is told of a bound, of a body, of a field, of the fact, of a function or of a predicate
-- of this one
pub record IsFaultless (t : ModelTree) (o : Open) : Type 0 where
  pub bounds : flat_map (signature_faults (globals_of t.paragraphs)) (paragraphs_of o) ≡ []
  pub bodies : flat_map (body_faults (globals_of t.paragraphs)) (paragraphs_of o) ≡ []
  pub fields : All (λ (f : FieldTree). HasNoFault (field_checked (declared_in (named_of t)) f)) (flat_map (fields_named (globals_of t.paragraphs)) (paragraphs_of o))
  pub facts : All (λ (xs : PhraseTrees). HasNoFault (formulas_settled (declared_in (named_of t)) [] xs)) (flat_map (facts_named (globals_of t.paragraphs)) (paragraphs_of o))
  pub callees : All (λ (c : CalleeTree). HasNoFault (callee_settled (declared_in (named_of t)) c)) (flat_map (callees_named (globals_of t.paragraphs)) (paragraphs_of o))
