-- The formula of a problem is well formed.
use Rattle.std.specs.Prelude.{slice_index, slice_index_or, flat_map}
use Rattle.std.proofs.Common.{◌≡◌, ℕ, zero, suc, ◌+◌, ◌-◌, ◌<◌, ◌==◌, List, [], ◌∷◌, ◌++◌, map, length, Bool, true, false, Option, Some, None, slice_get, All, Result, Ok, Err, refl, sym, ◌∙◌, ap, subst, arith, zero-add}
use Rattle.std.specs.List.{range_with_len}
use Rattle.std.proofs.lemmas.List.Elements.{All-head, All-tail, All-contains}
use Rattle.rel_formula.proofs.Lists.{some-Contains}
use Rattle.alloy_syntax.specs.declared.tree.Quantifier.TheVariants as quantifier
use Rattle.rel_formula.specs.Kernel.{FormulaTree}
use Rattle.rel_formula.specs.Shape.{IsProper, AreProper}
use Rattle.named_model.specs.Phrase.{PhraseTree, PhraseTrees, no_phrases, DomainTrees, no_domains, more_domains}
use Rattle.named_model.specs.Model.{FieldTree, MeaningTree, formulas, value, CalleeTree, TargetTree, at_predicate, at_assertion, at_block, CommandTree, NamedTree}
use Rattle.named_model.specs.Answers.{◌>>=◌}
use Rattle.model_sizes.specs.Sizes.{listings_of}
use Rattle.model_types.specs.declared.fault.TypeFault.{TypeFault}
use Rattle.model_types.specs.declared.fault.TypeFault.TheVariants as fault
use Rattle.model_types.specs.Sorts as sorts
use Rattle.model_types.specs.Sorts.{Kind, Checked, unless, first_place, as_relation}
use Rattle.model_types.specs.Typing as typing
use Rattle.model_types.specs.Typing.{Declared, Settled, type_in, fits, settled, formulas_settled, domains_settled}
use Rattle.model_types.specs.Models.{declared_in, settled_in, bound_arity, field_declared, callee_settled, command_settled, target_settled, meaning_settled, run_checked, domains_unary, domains_known, local_of, or_unknown, or_same}
use Rattle.lowering_rules.specs.Parts.{Lowered, relation, formula, number, size, formula_in, negation_if}
use Rattle.lowering_rules.specs.Binders.{Local, behind_domains, variables_in, differences_in}
use Rattle.lowering_rules.specs.Lowering.{base_of, field_number, lowered, formulas_lowered, domains_lowered, meaning_lowered}
use Rattle.lowering_rules.specs.Formula.{signature_says, fields_say, fact_says, block_says, predicate_says, target_says, is_check, command_says, formula_of}
use Rattle.lowering_rules.specs.Problem.{command_at}
use Rattle.lowering_rules.specs.Calls.{IsRank}
use Rattle.lowering_rules.specs.Shapes.{IsOfKind, StandFor, HasRelations}
use Rattle.lowering_rules.proofs.Bodies.{HasBodies}
use Rattle.lowering_rules.specs.Typed.{HasReferences, HasNoFault, HasTypes}
use Rattle.lowering_rules.proofs.Inversion.{bind_ok, same_ok, arity_inv, unless_inv}
use Rattle.lowering_rules.proofs.Bound.{ListProper, list_proper, list_both, disjoint_right, quantified_right}
use Rattle.lowering_rules.proofs.Sound.{part_right, formulas_proper, domains_proper}
use Rattle.lowering_rules.proofs.Arities.{get_map, map_get}
use Rattle.lowering_rules.proofs.ProperDeclarations.{flat_right, signature_right, fields_right}

-- ---- things whose shared names are settled

pub settled_is : {X : Type 0} (f : X → Result X TypeFault) (x y : X) → f x ≡ Ok y → or_same f x ≡ y
settled_is f x y e = ap (λ r. elim r [ Ok z ↦ z | Err fault ↦ x ]) e

negation_right : (ns : List ℕ) (b : Bool) (f : FormulaTree) → IsProper ns 0 f → IsProper ns 0 (negation_if b f)
negation_right ns true f h = h
negation_right ns false f h = h

-- the formula in anything that is of some kind
any_formula : (ns : List ℕ) (k : ℕ) (kind : Kind) (x : Lowered) → IsOfKind ns k kind x → IsProper ns k (formula_in x)
any_formula ns k kind (relation e) h = tt
any_formula ns k kind (number n) h = tt
any_formula ns k kind (size e) h = tt
any_formula ns k sorts.formula (formula f) h = h
any_formula ns k sorts.number (formula f) h = absurd h
any_formula ns k sorts.size (formula f) h = absurd h
any_formula ns k (sorts.relation n) (formula f) h = absurd h

-- ---- domains that are all unary

pub known : (d : Declared) (locals : List typing.Local) (x : PhraseTree) (y : Settled) (n : ℕ) → as_relation (first_place x) y.kind ≡ Ok n →
    local_of d locals x (Ok y) ≡ Some (record { arity = n; type = type_in d locals y.tree })
known d locals x y n e =
    let to : Kind → Option typing.Local = λ k. elim k as (λ k. Option typing.Local) [ sorts.relation n ↦ Some (record { arity = n; type = type_in d locals y.tree }) | other ↦ None ] in
    ap to (arity_inv (first_place x) y.kind n e)

then_is : {A B F : Type 0} (r : Result A F) (f : A → Result B F) (a : A) → r ≡ Ok a → (r >>= f) ≡ f a
then_is r f a e = ap (λ q. q >>= f) e

unless_is : (b : Bool) (f : TypeFault) → b ≡ true → unless b f ≡ Ok tt
unless_is true f e = refl
unless_is false f e = absurd cc

module _ (d : Declared) where
  single : (ds : DomainTrees) (locals : List typing.Local) (zs : DomainTrees × List typing.Local) (u : Unit {0}) →
      domains_settled false d locals ds ≡ Ok zs → domains_unary (domains_known d locals ds) ≡ Ok u → domains_settled true d locals ds ≡ Ok zs
  single no_domains locals zs u h g = h
  single (more_domains disjoint n mark x ds) locals zs u h g =
      let a = bind_ok (settled d locals [] x) _ zs h in
      let b = bind_ok (as_relation (first_place x) a.0.kind) _ zs a.2 in
      let l : typing.Local = record { arity = b.0; type = type_in d locals a.0.tree } in
      let r = bind_ok (domains_settled false d (typing.onto n l locals) ds) _ zs b.2 in
      let D : Option typing.Local → Checked = λ o. domains_unary (record { place = first_place x; count = n; local = o } ∷ domains_known d (typing.onto n (or_unknown o) locals) ds) in
      let at : D (local_of d locals x (settled d locals [] x)) ≡ D (Some l) = ap (λ q. D (local_of d locals x q)) a.1 ∙ ap D (known d locals x a.0 b.0 b.1) in
      let c = bind_ok (unless (b.0 == 1) (fault.NotUnary (first_place x))) _ u (sym at ∙ g) in
      let one = unless_inv (b.0 == 1) (fault.NotUnary (first_place x)) c.0 c.1 in
      let rest = single ds (typing.onto n l locals) r.0 u r.1 c.2 in
      then_is (settled d locals [] x) _ a.0 a.1 ∙ then_is (as_relation (first_place x) a.0.kind) _ b.0 b.1 ∙ then_is (unless (b.0 == 1) (fault.NotUnary (first_place x))) _ tt (unless_is (b.0 == 1) (fault.NotUnary (first_place x)) one)
      ∙ then_is (domains_settled true d (typing.onto n l locals) ds) _ r.0 rest ∙ r.2

-- ---- the formula

module _ (ns : List ℕ) (m : NamedTree) (rank : ℕ → ℕ) (relations : HasRelations ns (declared_in m) (length m.signatures)) (bodies : HasBodies (declared_in m) (settled_in m))
    (is_rank : IsRank rank (settled_in m)) (names : HasReferences m) (types : HasTypes m) where
  block_right : (k : ℕ) (locals : List typing.Local) (ls : List Local) → StandFor ns k locals ls → (xs ys : PhraseTrees) → formulas_settled (declared_in m) locals xs ≡ Ok ys →
      AreProper ns k (formulas_lowered (base_of (settled_in m)) ls k ys)
  block_right k locals ls fit xs ys e = formulas_proper ns (declared_in m) (settled_in m) rank relations bodies is_rank xs ys k locals ls fit e

  -- the block of a number among blocks without a fault
  blocks_right : (xs : List PhraseTrees) → All (λ (x : PhraseTrees). HasNoFault (formulas_settled (declared_in m) [] x)) xs → (i : ℕ) →
      IsProper ns 0 (block_says (base_of (settled_in m)) (slice_index_or (map (or_same (formulas_settled (declared_in m) [])) xs) i no_phrases))
  blocks_right [] all i = tt
  blocks_right (x ∷ xs) all zero =
      let ok = All-head (λ (x : PhraseTrees). HasNoFault (formulas_settled (declared_in m) [] x)) x xs all in
      subst (λ y. IsProper ns 0 (block_says (base_of (settled_in m)) y)) (sym (settled_is (formulas_settled (declared_in m) []) x ok.0 ok.1)) (block_right 0 [] [] tt x ok.0 ok.1)
  blocks_right (x ∷ xs) all (suc i) = blocks_right xs (All-tail (λ (x : PhraseTrees). HasNoFault (formulas_settled (declared_in m) [] x)) x xs all) i

  facts_right : (facts : List ℕ) → ListProper ns 0 (map (fact_says (settled_in m) (base_of (settled_in m))) facts)
  facts_right [] = tt
  facts_right (n ∷ facts) = (blocks_right m.facts types.facts (n - 1), facts_right facts)

  meaning_right : (k : ℕ) (locals : List typing.Local) (ls : List Local) → StandFor ns k locals ls → (w v : MeaningTree) → meaning_settled (declared_in m) locals w ≡ Ok v →
      IsProper ns k (formula_in (meaning_lowered (base_of (settled_in m)) ls k v))
  meaning_right k locals ls fit (formulas xs) v h =
      let a = bind_ok (formulas_settled (declared_in m) locals xs) _ v h in
      subst (λ w. IsProper ns k (formula_in (meaning_lowered (base_of (settled_in m)) ls k w))) (same_ok (formulas a.0) v a.2) (block_right k locals ls fit xs a.0 a.1)
  meaning_right k locals ls fit (value range body) v h =
      let r = bind_ok (settled (declared_in m) locals [] range) _ v h in
      let a = bind_ok (as_relation (first_place range) r.0.kind) _ v r.2 in
      let b = bind_ok (settled (declared_in m) locals [] body) _ v a.2 in
      let n = bind_ok (as_relation (first_place body) b.0.kind) _ v b.2 in
      let s = bind_ok (unless (a.0 == n.0) (fault.Arity (first_place body))) _ v n.2 in
      let whole = part_right ns (declared_in m) (settled_in m) rank relations bodies is_rank body k locals ls [] b.0 fit b.1 in
      subst (λ w. IsProper ns k (formula_in (meaning_lowered (base_of (settled_in m)) ls k w))) (same_ok (value r.0.tree b.0.tree) v s.2)
      (any_formula ns k b.0.kind (lowered (base_of (settled_in m)) ls k b.0.tree) whole)

  -- a predicate that is run
  callee_right : (c y : CalleeTree) (u : Unit {0}) → callee_settled (declared_in m) c ≡ Ok y → domains_unary (domains_known (declared_in m) [] c.parameters) ≡ Ok u →
      IsProper ns 0 (predicate_says (base_of (settled_in m)) (Some y))
  callee_right c y u h g =
      let base = base_of (settled_in m) in
      let es = bind_ok (domains_settled false (declared_in m) [] c.parameters) _ y h in
      let x = bind_ok (meaning_settled (declared_in m) es.0.1 c.meaning) _ y es.2 in
      let trees = es.0.0 in
      let inner = variables_in trees in
      let bounds = domains_lowered base [] 0 trees in
      let domains = domains_proper ns (declared_in m) (settled_in m) rank relations bodies is_rank c.parameters es.0 (single (declared_in m) c.parameters [] es.0 u es.1 g) in
      let long = domains.2 in
      let deep : inner ≡ 0 + length bounds = omega arith in
      let first : 0 + inner ≡ inner = omega arith in
      let fit = subst (λ j. StandFor ns j es.0.1 (behind_domains 0 trees [])) first domains.0 in
      let body = meaning_right inner es.0.1 (behind_domains 0 trees []) fit c.meaning x.0 x.1 in
      let differences = disjoint_right ns trees inner 0 (omega arith) in
      let inside = formula_in (meaning_lowered base (behind_domains 0 trees []) inner x.0) in
      subst (λ z. IsProper ns 0 (predicate_says base (Some z))) (same_ok (record c { parameters = trees; meaning = x.0 }) y x.2)
      (quantified_right ns quantifier.Some bounds 0 (differences_in inner 0 trees) inside domains.1
      (subst (λ j. ListProper ns j (differences_in inner 0 trees)) deep differences)
      (subst (λ j. IsProper ns j inside) deep body))

  predicate_right : (n : ℕ) (u : Unit {0}) → run_checked (declared_in m) (slice_get m.callees n) ≡ Ok u → (o : Option CalleeTree) → slice_get (settled_in m).callees n ≡ o →
      IsProper ns 0 (predicate_says (base_of (settled_in m)) o)
  predicate_right n u run None e = tt
  predicate_right n u run (Some z) e =
      let c = map_get (or_same (callee_settled (declared_in m))) m.callees n z e in
      let ok = All-contains (λ (x : CalleeTree). HasNoFault (callee_settled (declared_in m) x)) m.callees c.0 types.callees (some-Contains m.callees n c.0 c.1) in
      let same : ok.0 ≡ z = sym (settled_is (callee_settled (declared_in m)) c.0 ok.0 ok.1) ∙ c.2 in
      subst (λ y. IsProper ns 0 (predicate_says (base_of (settled_in m)) (Some y))) same
      (callee_right c.0 ok.0 u ok.1 (subst (λ q. run_checked (declared_in m) q ≡ Ok u) c.1 run))

  target_right : (t v : TargetTree) → target_settled m (declared_in m) t ≡ Ok v → IsProper ns 0 (target_says (settled_in m) (base_of (settled_in m)) v)
  target_right (at_block xs) v h =
      let a = bind_ok (formulas_settled (declared_in m) [] xs) _ v h in
      subst (λ w. IsProper ns 0 (target_says (settled_in m) (base_of (settled_in m)) w)) (same_ok (at_block a.0) v a.2) (block_right 0 [] [] tt xs a.0 a.1)
  target_right (at_predicate n) v h =
      let a = bind_ok (run_checked (declared_in m) (slice_get m.callees n)) _ v h in
      subst (λ w. IsProper ns 0 (target_says (settled_in m) (base_of (settled_in m)) w)) (same_ok (at_predicate n) v a.2) (predicate_right n a.0 a.1 (slice_get (settled_in m).callees n) refl)
  target_right (at_assertion n) v h =
      subst (λ w. IsProper ns 0 (target_says (settled_in m) (base_of (settled_in m)) w)) (same_ok (at_assertion n) v h) (blocks_right m.assertions types.assertions n)

  command_right : (c y : CommandTree) → command_settled m (declared_in m) c ≡ Ok y → IsProper ns 0 (command_says (settled_in m) (base_of (settled_in m)) y)
  command_right c y h =
      let t = bind_ok (target_settled m (declared_in m) c.target) _ y h in
      subst (λ z. IsProper ns 0 (command_says (settled_in m) (base_of (settled_in m)) z)) (same_ok (record c { target = t.0 }) y t.2)
      (negation_right ns (is_check c.kind) (target_says (settled_in m) (base_of (settled_in m)) t.0) (target_right c.target t.0 t.1))

  commands_right : (n : ℕ) (c : CommandTree) → command_at (settled_in m) n ≡ Some c → IsProper ns 0 (command_says (settled_in m) (base_of (settled_in m)) c)
  commands_right zero c e = absurd cc
  commands_right (suc n) z e =
      let c = map_get (or_same (command_settled m (declared_in m))) m.commands n z e in
      let ok = All-contains (λ (x : CommandTree). HasNoFault (command_settled m (declared_in m) x)) m.commands c.0 types.commands (some-Contains m.commands n c.0 c.1) in
      let same : ok.0 ≡ z = sym (settled_is (command_settled m (declared_in m)) c.0 ok.0 ok.1) ∙ c.2 in
      subst (λ y. IsProper ns 0 (command_says (settled_in m) (base_of (settled_in m)) y)) same (command_right c.0 ok.0 ok.1)

  field_there : (j : ℕ) (f : FieldTree) → slice_get m.fields j ≡ Some f →
      (field_number (length m.signatures) 0 + j < length ns) × (slice_index ns (field_number (length m.signatures) 0 + j) ≡ bound_arity f.bound + 1)
  field_there j f e =
      let at = relations.field j (field_declared m f) (get_map (field_declared m) m.fields j f e) in
      let same : field_number (length m.signatures) j ≡ field_number (length m.signatures) 0 + j = omega arith in
      subst (λ k. (k < length ns) × (slice_index ns k ≡ bound_arity f.bound + 1)) same at

  pub formula_right : (n : ℕ) (c : CommandTree) → command_at (settled_in m) n ≡ Some c → (facts : List ℕ) → IsProper ns 0 (formula_of (settled_in m) c facts)
  formula_right n c e facts =
      let base = base_of (settled_in m) in
      let one = flat_map (signature_says m.signatures (listings_of c.scope)) (range_with_len 0 (length m.signatures)) in
      let two = fields_say base (field_number (length m.signatures) 0) m.fields in
      let three = map (fact_says (settled_in m) base) facts in
      let last = command_says (settled_in m) base c ∷ [] in
      let signatures = flat_right ns (signature_says m.signatures (listings_of c.scope)) 0 (length m.signatures) (λ s l.
      signature_right ns m.signatures relations.signature (listings_of c.scope) names.parents s (subst (λ k. s < k) (zero-add (length m.signatures)) l)) in
      let fields = fields_right ns m rank relations bodies is_rank (field_number (length m.signatures) 0) m.fields field_there names.fields types.fields in
      list_proper ns 0 (one ++ two ++ three ++ last)
      (list_both ns 0 (one ++ two ++ three) last
      (list_both ns 0 (one ++ two) three (list_both ns 0 one two signatures fields) (facts_right facts))
      (commands_right n c e, tt))
