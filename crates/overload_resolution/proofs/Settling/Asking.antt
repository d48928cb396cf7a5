-- Which types in front of operands and steps matter.
use Rattle.std.proofs.Common.{◌≡◌, ℕ, Bool, List, [], map, Ok, refl, if◌then◌else◌}
use Rattle.alloy_lex.specs.declared.token.Place.{Place}
use Rattle.alloy_syntax.specs.declared.tree.Operator.{Operator}
use Rattle.alloy_syntax.specs.declared.tree.Operator.TheVariants as operator
use Rattle.named_model.specs.declared.phrase.Referent.TheVariants as referent
use Rattle.named_model.specs.Answers.{◌>>=◌}
use Rattle.named_model.specs.Phrase.{PhraseTree, refers, called, numbered, constant, bracketed, block, prefixed, chain, path, compared, implies, implies_else, quantified, bound_by_let, LinkTrees, no_links, more_links, StepTrees, no_steps, join_first, brackets_first}
use Rattle.model_types.specs.Bounding.{Lists, types_of, joins, brackets_type, operator_type}
use Rattle.model_types.specs.Sorts.{Kind, relation, formula, first_place, as_relation, as_formula, is_connective, operator_arity, joined_arity, brackets_arity}
use Rattle.model_types.specs.Typing.{Local, Declared, types_in, type_in, local_types, ends_of, tops_behind, is_shared, formula_from, settled, arguments_settled, links_settled, steps_settled}
use Rattle.model_types.proofs.Bounds.SameListsMade.{same_operator, same_joins}
use Rattle.overload_resolution.proofs.Fields.Unions.{same_ends, same_behind}
use Rattle.overload_resolution.specs.Names.Asking.{asks_behind, asks_in_links, asks_in_steps}
use Rattle.overload_resolution.proofs.Expressions.Each.{each_refl}
use Rattle.overload_resolution.specs.Settling.Inside.{AreSameWhere}
use Rattle.overload_resolution.specs.Settling.Same.{AreSameTops, Asks}
use Rattle.overload_resolution.proofs.Settling.Typed.{brackets_alike}
use Rattle.overload_resolution.proofs.Settling.SharedDeclarations.{asks_left, asks_right, shared_alike}

module _ (asked : Bool) (d : Declared) (ls : List Local) where
  -- the signatures of a place matter for a name of several fields alone
  pub tops_alike : (ts us : List ℕ) (x : PhraseTree) → Asks (is_shared x) asked → AreSameTops asked ts us → settled d ls ts x ≡ settled d ls us x
  tops_alike ts us (refers p (referent.Signature n)) a h = refl
  tops_alike ts us (refers p (referent.Field n)) a h = refl
  tops_alike ts us (refers p (referent.Shared n)) a h = shared_alike d ts us p n (h (a refl))
  tops_alike ts us (refers p (referent.Local n)) a h = refl
  tops_alike ts us (called p n xs) a h = refl
  tops_alike ts us (numbered n) a h = refl
  tops_alike ts us (constant c p) a h = refl
  tops_alike ts us (bracketed p x) a h = λ i. tops_alike ts us x a h i >>= λ y. Ok (record { tree = bracketed p y.tree; kind = y.kind })
  tops_alike ts us (block p xs) a h = refl
  tops_alike ts us (prefixed f p x) a h = refl
  tops_alike ts us (chain x ks) a h = refl
  tops_alike ts us (path x steps) a h = refl
  tops_alike ts us (compared x c y) a h = refl
  tops_alike ts us (implies x p y) a h = refl
  tops_alike ts us (implies_else x p y z) a h = refl
  tops_alike ts us (quantified q p ds x) a h = refl
  tops_alike ts us (bound_by_let p xs x) a h = refl

  pub operand_alike : (o : Operator) (a b : Lists) (x : PhraseTree) → Asks (asks_behind o x) asked → AreSameWhere asked a b → settled d ls (tops_behind o a) x ≡ settled d ls (tops_behind o b) x
  operand_alike operator.Domain a b x q w = tops_alike (tops_behind operator.Domain a) (tops_behind operator.Domain b) x q (λ e. same_behind operator.Domain a b (w e))
  operand_alike operator.Or a b x q w = refl
  operand_alike operator.Iff a b x q w = refl
  operand_alike operator.And a b x q w = refl
  operand_alike operator.Union a b x q w = refl
  operand_alike operator.Minus a b x q w = refl
  operand_alike operator.Override a b x q w = refl
  operand_alike operator.Meet a b x q w = refl
  operand_alike operator.Product a b x q w = refl
  operand_alike operator.Range a b x q w = refl

  -- a chain and a path behind types that are the same where they are asked for
  pub operands_alike : (left : Place) (k : Kind) (a b : Lists) (ks : LinkTrees) → Asks (asks_in_links ks) asked → AreSameWhere asked a b → links_settled d ls left k a ks ≡ links_settled d ls left k b ks
  operands_alike left k a b no_links q w = refl
  operands_alike left k a b (more_links o p x ks) q w = λ i.
      if is_connective o
      then (as_formula left k >>= λ is. formula_from x (settled d ls [] x) >>= λ y. links_settled d ls left formula [] ks >>= λ zs. Ok (more_links o p y zs.0, zs.1))
      else (as_relation left k
      >>= λ m. operand_alike o a b x (asks_left (asks_behind o x) (asks_in_links ks) asked q) w i
      >>= λ y. as_relation (first_place x) y.kind
      >>= λ n. operator_arity o p left (first_place x) m n
      >>= λ r. operands_alike left (relation r) (operator_type o a (type_in d ls y.tree)) (operator_type o b (type_in d ls y.tree)) ks (asks_right (asks_behind o x) (asks_in_links ks) asked q) (λ e. same_operator o a (type_in d ls y.tree) b (type_in d ls y.tree) (w e) (λ t. refl)) i
      >>= λ zs. Ok (more_links o p y.tree zs.0, zs.1))

  pub members_alike : (left : Place) (k : Kind) (a b : Lists) (steps : StepTrees) → Asks (asks_in_steps steps) asked → AreSameWhere asked a b → steps_settled d ls left k a steps ≡ steps_settled d ls left k b steps
  members_alike left k a b no_steps q w = refl
  members_alike left k a b (join_first p x steps) q w = λ i.
      as_relation left k
      >>= λ m. tops_alike (ends_of a) (ends_of b) x (asks_left (is_shared x) (asks_in_steps steps) asked q) (λ e. same_ends a b (w e)) i
      >>= λ y. as_relation (first_place x) y.kind
      >>= λ n. joined_arity p m n
      >>= λ r. members_alike left (relation r) (joins a (type_in d ls y.tree)) (joins b (type_in d ls y.tree)) steps (asks_right (is_shared x) (asks_in_steps steps) asked q) (λ e. same_joins a (type_in d ls y.tree) b (type_in d ls y.tree) (w e) (λ t. refl)) i
      >>= λ zs. Ok (join_first p y.tree zs.0, zs.1)
  members_alike left k a b (brackets_first p xs steps) q w = λ i.
      as_relation left k
      >>= λ m. arguments_settled d ls xs
      >>= λ ys. brackets_arity p m (map (λ n. n.0) ys.arities)
      >>= λ r. members_alike left (relation r) (brackets_type a (types_of (types_in d) (local_types ls) ys.trees)) (brackets_type b (types_of (types_in d) (local_types ls) ys.trees)) steps q (λ e. brackets_alike a b (types_of (types_in d) (local_types ls) ys.trees) (types_of (types_in d) (local_types ls) ys.trees) (w e) (each_refl (types_of (types_in d) (local_types ls) ys.trees))) i
      >>= λ zs. Ok (brackets_first p ys.trees zs.0, zs.1)
