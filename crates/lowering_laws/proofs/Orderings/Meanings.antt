-- Bodies of predicates and functions that no settling of names changes, and the parts that stand in the bodies of an ordering's.
use Rattle.std.proofs.Common.{◌≡◌, ℕ, ◌-◌, ◌==◌, false, List, [], ◌∷◌, Result, Ok, Err, refl, sym, ◌∙◌, ap, ap₂, arith, add-zero}
use Rattle.alloy_lex.specs.declared.token.Place.{Place}
use Rattle.alloy_syntax.specs.declared.tree.Operator.TheVariants as operator
use Rattle.rel_formula.specs.Kernel.{ExpressionTree, rel, var, nothing, univ, iden, binary, unary, conjunction}
use Rattle.named_model.specs.Phrase.{PhraseTree, called, chain, PhraseTrees, no_phrases, more_phrases, no_links, more_links, DomainTrees}
use Rattle.named_model.specs.Model.{MeaningTree, CalleeTree, formulas, value}
use Rattle.model_types.specs.declared.fault.TypeFault.{TypeFault}
use Rattle.model_types.specs.declared.fault.TypeFault.TheVariants as fault
use Rattle.model_types.specs.Sorts as sorts
use Rattle.model_types.specs.Sorts.{unless, first_place, as_relation, as_formula, operator_arity}
use Rattle.model_types.specs.Typing as typing
use Rattle.model_types.specs.Typing.{Declared, Settled, Arguments, type_in, tops_behind, call_kind, formula_from, settled, formulas_settled, arguments_settled, links_settled, domains_settled}
use Rattle.model_types.specs.Models.{or_same, meaning_settled, callee_settled}
use Rattle.lowering_rules.specs.Shifted.{shifted}
use Rattle.lowering_rules.specs.Parts.{formula}
use Rattle.lowering_rules.specs.Binders.{Local}
use Rattle.lowering_rules.specs.Lowering.{Base, lowered, formulas_lowered, meaning_lowered}
use Rattle.lowering_rules.proofs.Inversion.{bind_ok, same_ok}
use Rattle.lowering_laws.proofs.Orderings.Settled.{StaysSo, StayAll, formula_is, tree_is}

module _ (d : Declared) where
  pub minus_stays : (x : PhraseTree) (p : Place) (z : PhraseTree) → StaysSo d x → StaysSo d z → StaysSo d (chain x (more_links operator.Minus p z no_links))
  minus_stays x p z left right locals tops y h =
      let a = bind_ok (settled d locals [] x) _ y h in
      let b = bind_ok (links_settled d locals (first_place x) a.0.kind (type_in d locals a.0.tree) (more_links operator.Minus p z no_links)) _ y a.2 in
      let m = bind_ok (as_relation (first_place x) a.0.kind) _ b.0 b.1 in
      let c = bind_ok (settled d locals (tops_behind operator.Minus (type_in d locals a.0.tree)) z) _ b.0 m.2 in
      let n = bind_ok (as_relation (first_place z) c.0.kind) _ b.0 c.2 in
      let j = bind_ok (operator_arity operator.Minus p (first_place x) (first_place z) m.0 n.0) _ b.0 n.2 in
      let links : b.0.0 ≡ more_links operator.Minus p c.0.tree no_links = ap (λ q. q.0) (sym (same_ok (more_links operator.Minus p c.0.tree no_links, sorts.relation j.0) b.0 j.2)) in
      let first = left locals [] a.0 a.1 in
      let second = right locals (tops_behind operator.Minus (type_in d locals a.0.tree)) c.0 c.1 in
      tree_is (chain x (more_links operator.Minus p z no_links)) (record { tree = chain a.0.tree b.0.0; kind = b.0.1 }) y b.2
      (ap₂ chain first (links ∙ ap (λ w. more_links operator.Minus p w no_links) second))

  pub or_stays_so : (x : PhraseTree) (p : Place) (z : PhraseTree) → StaysSo d x → StaysSo d z → StaysSo d (chain x (more_links operator.Or p z no_links))
  or_stays_so x p z left right locals tops y h =
      let a = bind_ok (settled d locals [] x) _ y h in
      let b = bind_ok (links_settled d locals (first_place x) a.0.kind (type_in d locals a.0.tree) (more_links operator.Or p z no_links)) _ y a.2 in
      let m = bind_ok (as_formula (first_place x) a.0.kind) _ b.0 b.1 in
      let c = bind_ok (formula_from z (settled d locals [] z)) _ b.0 m.2 in
      let links : b.0.0 ≡ more_links operator.Or p c.0 no_links = ap (λ q. q.0) (sym (same_ok (more_links operator.Or p c.0 no_links, sorts.formula) b.0 c.2)) in
      let first = left locals [] a.0 a.1 in
      let second = formula_is z c.0 (settled d locals [] z) (right locals []) c.1 in
      tree_is (chain x (more_links operator.Or p z no_links)) (record { tree = chain a.0.tree b.0.0; kind = b.0.1 }) y b.2
      (ap₂ chain first (links ∙ ap (λ w. more_links operator.Or p w no_links) second))

  abbrev pub ArgumentsStay : PhraseTrees → Type 0
  ArgumentsStay xs = (locals : List typing.Local) (ys : Arguments) → arguments_settled d locals xs ≡ Ok ys → ys.trees ≡ xs

  pub no_arguments_stay : ArgumentsStay no_phrases
  no_arguments_stay locals ys h = ap (λ (w : Arguments). w.trees) (sym (same_ok (record { trees = no_phrases; arities = [] }) ys h))

  pub more_arguments_stay : (x : PhraseTree) (xs : PhraseTrees) → StaysSo d x → ArgumentsStay xs → ArgumentsStay (more_phrases x xs)
  more_arguments_stay x xs one rest locals ys h =
      let a = bind_ok (settled d locals [] x) _ ys h in
      let n = bind_ok (as_relation (first_place x) a.0.kind) _ ys a.2 in
      let b = bind_ok (arguments_settled d locals xs) _ ys n.2 in
      ap (λ (w : Arguments). w.trees) (sym (same_ok (record { trees = more_phrases a.0.tree b.0.trees; arities = (n.0, first_place x) ∷ b.0.arities }) ys b.2))
      ∙ ap₂ more_phrases (one locals [] a.0 a.1) (rest locals b.0 b.1)

  pub called_stays : (p : Place) (n : ℕ) (xs : PhraseTrees) → ArgumentsStay xs → StaysSo d (called p n xs)
  called_stays p n xs same locals tops y h =
      let a = bind_ok (arguments_settled d locals xs) _ y h in
      let k = bind_ok (call_kind p (d.callee n) a.0.arities) _ y a.2 in
      tree_is (called p n xs) (record { tree = called p n a.0.trees; kind = k.0 }) y k.2 (ap (called p n) (same locals a.0 a.1))

  -- ---- bodies

  callee_inv : (place : Place) (parameters : DomainTrees) (meaning : MeaningTree) (y : CalleeTree) → callee_settled d (record { place = place; parameters = parameters; meaning = meaning }) ≡ Ok y →
      (locals : List typing.Local) × (meaning_settled d locals meaning ≡ Ok y.meaning)
  callee_inv place parameters meaning y h =
      let es = bind_ok (domains_settled false d [] parameters) _ y h in
      let x = bind_ok (meaning_settled d es.0.1 meaning) _ y es.2 in
      let same : x.0 ≡ y.meaning = ap (λ (z : CalleeTree). z.meaning) (same_ok (record { place = place; parameters = es.0.0; meaning = x.0 }) y x.2) in
      (es.0.1, x.1 ∙ ap Ok same)

  value_inv : (range body : PhraseTree) → StaysSo d body → (locals : List typing.Local) (x : MeaningTree) → meaning_settled d locals (value range body) ≡ Ok x → (r : PhraseTree) × (x ≡ value r body)
  value_inv range body same locals x h =
      let u = bind_ok (settled d locals [] range) _ x h in
      let v = bind_ok (as_relation (first_place range) u.0.kind) _ x u.2 in
      let w = bind_ok (settled d locals [] body) _ x v.2 in
      let n = bind_ok (as_relation (first_place body) w.0.kind) _ x w.2 in
      let q = bind_ok (unless (v.0 == n.0) (fault.Arity (first_place body))) _ x n.2 in
      let whole : value u.0.tree w.0.tree ≡ x = same_ok (value u.0.tree w.0.tree) x q.2 in
      let body_is : w.0.tree ≡ body = same locals [] w.0 w.1 in
      (u.0.tree, sym whole ∙ ap (value u.0.tree) body_is)

  formulas_inv : (xs : PhraseTrees) → StayAll d xs → (locals : List typing.Local) (x : MeaningTree) → meaning_settled d locals (formulas xs) ≡ Ok x → x ≡ formulas xs
  formulas_inv xs same locals x h =
      let u = bind_ok (formulas_settled d locals xs) _ x h in
      let whole : formulas u.0 ≡ x = same_ok (formulas u.0) x u.2 in
      sym whole ∙ ap formulas (same locals u.0 u.1)

  module _ (place : Place) (parameters : DomainTrees) (base : Base) (ls : List Local) (k : ℕ) where
    abbrev with_meaning : MeaningTree → CalleeTree
    with_meaning x = record { place = place; parameters = parameters; meaning = x }

    pub value_becomes : (range body : PhraseTree) → StaysSo d body → meaning_lowered base ls k (or_same (callee_settled d) (with_meaning (value range body))).meaning ≡ lowered base ls k body
    value_becomes range body same = go (callee_settled d (with_meaning (value range body))) refl
      where
        go : (r : Result CalleeTree TypeFault) → callee_settled d (with_meaning (value range body)) ≡ r →
            meaning_lowered base ls k (elim r as (λ r. CalleeTree) [ Ok y ↦ y | Err e ↦ with_meaning (value range body) ]).meaning ≡ lowered base ls k body
        go (Err e) h = refl
        go (Ok y) h =
            let c = callee_inv place parameters (value range body) y h in
            ap (meaning_lowered base ls k) (value_inv range body same c.0 y.meaning c.1).1

    pub formulas_become : (xs : PhraseTrees) → StayAll d xs → meaning_lowered base ls k (or_same (callee_settled d) (with_meaning (formulas xs))).meaning ≡ formula (conjunction (formulas_lowered base ls k xs))
    formulas_become xs same = go (callee_settled d (with_meaning (formulas xs))) refl
      where
        go : (r : Result CalleeTree TypeFault) → callee_settled d (with_meaning (formulas xs)) ≡ r →
            meaning_lowered base ls k (elim r as (λ r. CalleeTree) [ Ok y ↦ y | Err e ↦ with_meaning (formulas xs) ]).meaning ≡ formula (conjunction (formulas_lowered base ls k xs))
        go (Err e) h = refl
        go (Ok y) h =
            let c = callee_inv place parameters (formulas xs) y h in
            ap (meaning_lowered base ls k) (formulas_inv xs same c.0 y.meaning c.1)

-- ---- arguments, which stand under the binders of the call

shifted_none : (e : ExpressionTree) → shifted 0 e ≡ e
shifted_none (rel r) = refl
shifted_none (var i) = ap var (add-zero i)
shifted_none nothing = refl
shifted_none univ = refl
shifted_none iden = refl
shifted_none (binary o a b) = let left = shifted_none a in let right = shifted_none b in λ i. binary o (left i) (right i)
shifted_none (unary o a) = ap (unary o) (shifted_none a)

pub as_it_is : (d : ℕ) (e : ExpressionTree) → shifted (d - d) e ≡ e
as_it_is d e = let none : d - d ≡ 0 = omega arith in ap (λ k. shifted k e) none ∙ shifted_none e
