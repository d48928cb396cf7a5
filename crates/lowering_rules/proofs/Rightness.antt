-- What a settled part becomes is of the part's kind, and well formed.
use Rattle.std.proofs.Common.{◌≡◌, inl, inr, ℕ, ◌+◌, ◌==◌, nat_lt, List, [], ◌∷◌, ◌++◌, map, length, true, if◌then◌else◌, Option, Some, None, slice_get, Result, Ok, Err, refl, sym, ◌∙◌, ap, subst, arith, add-zero}
use Rattle.std.proofs.lemmas.List.{length-append}
use Rattle.alloy_lex.specs.declared.token.Place.{Place}
use Rattle.rel_formula.specs.Kernel.{ExpressionTree}
use Rattle.rel_formula.specs.Shape.{IsProper, AreProper}
use Rattle.named_model.specs.declared.phrase.Referent.{Referent}
use Rattle.named_model.specs.declared.phrase.Referent.TheVariants as referent
use Rattle.named_model.specs.Phrase.{PhraseTree, refers, called, numbered, constant, bracketed, block, prefixed, chain, path, compared, implies, implies_else, quantified, bound_by_let, PhraseTrees, no_phrases, more_phrases, LinkTrees, no_links, more_links, StepTrees, no_steps, join_first, brackets_first, DomainTrees, no_domains, more_domains}
use Rattle.named_model.specs.Faults.{calls_in, calls_in_all, calls_in_links, calls_in_steps, calls_in_domains}
use Rattle.model_types.specs.declared.fault.TypeFault.{TypeFault}
use Rattle.model_types.specs.declared.fault.TypeFault.TheVariants as fault
use Rattle.model_types.specs.Bounding.{Lists}
use Rattle.model_types.specs.Sorts as sorts
use Rattle.model_types.specs.Sorts.{Kind, unless, first_place, as_relation, as_formula, joined_arity, brackets_arity, operator_arity, is_connective, prefix_kind, may_stand_left, fits_left}
use Rattle.model_types.specs.Typing as typing
use Rattle.model_types.specs.Typing.{Declared, Header, Settled, Arguments, type_in, is_field, chosen, call_kind, formula_from, settled, formulas_settled, arguments_settled, links_settled, steps_settled, domains_settled, values_settled, is_shared, tops_in, tops_behind, ends_of}
use Rattle.lowering_rules.specs.Parts.{Lowered, relation, expression_in, formula_in, operator_lowered, join_lowered, brackets_lowered}
use Rattle.lowering_rules.specs.Binders.{Local, given, behind_variables, behind_domains, variables_in, domain_of_each, differences_in}
use Rattle.lowering_rules.specs.Lowering.{Base, lowered, formulas_lowered, expressions_lowered, links_lowered, operands_lowered, steps_lowered, domains_lowered, behind_values}
use Rattle.lowering_rules.specs.Shapes.{IsOfKind, StandFor, HasRelations}
use Rattle.lowering_rules.proofs.Inversion.{bind_ok, fine, same_ok, if_ok, formula_inv, unless_inv, eq_test, lt_test}
use Rattle.lowering_rules.proofs.Operators.{AreArguments, relation_of, formula_of, prefix_right, constant_right, joined_right, connective_right, between_right, HaveArities, call_right, brackets_right, comparison_right}
use Rattle.lowering_rules.proofs.Bound.{local_right, variables_right, AreDomains, each_right, each_length, disjoint_right, quantified_right, ListProper}

module _ (ns : List ℕ) (d : Declared) (base : Base) (relations : HasRelations ns d base.signatures) where
  -- what a call of the predicate or function of a number becomes is of its header's kind
  abbrev pub IsSound : ℕ → Type 0
  IsSound c = (h : Header) → d.callee c ≡ Some h → (k : ℕ) (es : List ExpressionTree) → AreArguments ns k h.parameters es → IsOfKind ns k h.kind (base.calls c k es)

  abbrev pub AreSound : List ℕ → Type 0
  AreSound [] = Unit {0}
  AreSound (c ∷ cs) = IsSound c × AreSound cs

  front : (cs es : List ℕ) → AreSound (cs ++ es) → AreSound cs
  front [] es h = tt
  front (c ∷ cs) es h = (h.0, front cs es h.1)

  back : (cs es : List ℕ) → AreSound (cs ++ es) → AreSound es
  back [] es h = h
  back (c ∷ cs) es h = back cs es h.1

  -- the part is of its kind where the calls in it are sound
  abbrev IsRight : ℕ → List Local → Settled → Type 0
  IsRight k ls y = AreSound (calls_in y.tree) → IsOfKind ns k y.kind (lowered base ls k y.tree)

  settled_is : (k : ℕ) (ls : List Local) (z y : Settled) → fine z ≡ Ok y → IsRight k ls z → IsRight k ls y
  settled_is k ls z y e h = subst (IsRight k ls) (same_ok z y e) h

  field_right : (k : ℕ) (ls : List Local) (p : Place) (f : ℕ) (y : Settled) (o : Option typing.Field) → slice_get d.fields f ≡ o → is_field d p f ≡ Ok y → IsRight k ls y
  field_right k ls p f y None at h =
      absurd (let e : Err (fault.Sort p) ≡ fine y = sym (ap (λ o. elim o [ None ↦ Err (fault.Sort p) | Some field ↦ fine (record { tree = refers p (referent.Field f); kind = sorts.relation field.arity }) ]) at) ∙ h in cc)
  field_right k ls p f y (Some x) at h =
      let z : Settled = record { tree = refers p (referent.Field f); kind = sorts.relation x.arity } in
      let e : fine z ≡ Ok y = sym (ap (λ o. elim o [ None ↦ Err (fault.Sort p) | Some field ↦ fine (record { tree = refers p (referent.Field f); kind = sorts.relation field.arity }) ]) at) ∙ h in
      settled_is k ls z y e (λ s. relations.field f x at)

  local_is : (k : ℕ) (es : List typing.Local) (ls : List Local) (p : Place) (i : ℕ) (y : Settled) (o : Option typing.Local) → slice_get es i ≡ o → StandFor ns k es ls →
      (elim o as (λ o. Result Settled TypeFault) [ None ↦ Err (fault.Sort p) | Some l ↦ Ok (record { tree = refers p (referent.Local i); kind = sorts.relation l.arity }) ]) ≡ Ok y → IsRight k ls y
  local_is k es ls p i y None at fit h = absurd cc
  local_is k es ls p i y (Some l) at fit h =
      settled_is k ls (record { tree = refers p (referent.Local i); kind = sorts.relation l.arity }) y h (λ s. local_right ns k es ls i l fit at)

  referent_right : (k : ℕ) (es : List typing.Local) (ls : List Local) (tops : List ℕ) (p : Place) (r : Referent) (y : Settled) → StandFor ns k es ls →
      typing.referent_settled d es tops p r ≡ Ok y → IsRight k ls y
  referent_right k es ls tops p (referent.Signature s) y fit h =
      let a = bind_ok (unless (nat_lt s (length d.signatures)) (fault.Sort p)) _ y h in
      let l = lt_test s (length d.signatures) (unless_inv (nat_lt s (length d.signatures)) (fault.Sort p) a.0 a.1) in
      settled_is k ls (record { tree = refers p (referent.Signature s); kind = sorts.relation 1 }) y a.2 (λ t. relations.signature s l)
  referent_right k es ls tops p (referent.Field f) y fit h = field_right k ls p f y (slice_get d.fields f) refl h
  referent_right k es ls tops p (referent.Shared f) y fit h =
      let a = bind_ok (chosen d tops p f) _ y h in
      field_right k ls p a.0 y (slice_get d.fields a.0) refl a.2
  referent_right k es ls tops p (referent.Local i) y fit h = local_is k es ls p i y (slice_get es i) refl fit h

  -- a part that has to be a formula
  abbrev IsProperHere : ℕ → List Local → PhraseTree → Type 0
  IsProperHere k ls t = AreSound (calls_in t) → IsProper ns k (formula_in (lowered base ls k t))

  formula_right : (k : ℕ) (ls : List Local) (x t : PhraseTree) (answer : Result Settled TypeFault) → ((y : Settled) → answer ≡ Ok y → IsRight k ls y) →
      formula_from x answer ≡ Ok t → IsProperHere k ls t
  formula_right k ls x t answer right h =
      let a = bind_ok answer _ t h in
      let b = bind_ok (as_formula (first_place x) a.0.kind) _ t a.2 in
      subst (IsProperHere k ls) (same_ok a.0.tree t b.2) (λ s. formula_of ns k (first_place x) a.0.kind b.0 (lowered base ls k a.0.tree) b.1 (right a.0 a.1 s))

  mutual
    pub right : (x : PhraseTree) (k : ℕ) (es : List typing.Local) (ls : List Local) (tops : List ℕ) (y : Settled) → StandFor ns k es ls → settled d es tops x ≡ Ok y → IsRight k ls y
    right (refers p r) k es ls tops y fit h = referent_right k es ls tops p r y fit h
    right (called p n xs) k es ls tops y fit h =
        let a = bind_ok (arguments_settled d es xs) _ y h in
        let b = bind_ok (call_kind p (d.callee n) a.0.arities) _ y a.2 in
        settled_is k ls (record { tree = called p n a.0.trees; kind = b.0 }) y b.2 (λ s.
        call_right ns k p (d.callee n) a.0.arities b.0 (expressions_lowered base ls k a.0.trees) _ b.1 (arguments_right xs k es ls a.0 fit a.1 s.1)
        (λ header is args. s.0 header is k (expressions_lowered base ls k a.0.trees) args))
    right (numbered n) k es ls tops y fit h = settled_is k ls (record { tree = numbered n; kind = sorts.number }) y h (λ s. tt)
    right (constant c p) k es ls tops y fit h =
        settled_is k ls (record { tree = constant c p; kind = sorts.relation (sorts.constant_arity c) }) y h (λ s. constant_right ns k c)
    right (bracketed p x) k es ls tops y fit h =
        let a = bind_ok (settled d es tops x) _ y h in
        settled_is k ls (record { tree = bracketed p a.0.tree; kind = a.0.kind }) y a.2 (right x k es ls tops a.0 fit a.1)
    right (block p xs) k es ls tops y fit h =
        let a = bind_ok (formulas_settled d es xs) _ y h in
        settled_is k ls (record { tree = block p a.0; kind = sorts.formula }) y a.2 (formulas_right xs k es ls a.0 fit a.1)
    right (prefixed f p x) k es ls tops y fit h =
        let a = bind_ok (settled d es [] x) _ y h in
        let b = bind_ok (prefix_kind f p (first_place x) a.0.kind) _ y a.2 in
        settled_is k ls (record { tree = prefixed f p a.0.tree; kind = b.0 }) y b.2
        (λ s. prefix_right ns k f p (first_place x) a.0.kind b.0 (lowered base ls k a.0.tree) b.1 (right x k es ls [] a.0 fit a.1 s))
    right (chain x links) k es ls tops y fit h =
        let a = bind_ok (settled d es [] x) _ y h in
        let b = bind_ok (links_settled d es (first_place x) a.0.kind (type_in d es a.0.tree) links) _ y a.2 in
        settled_is k ls (record { tree = chain a.0.tree b.0.0; kind = b.0.1 }) y b.2 (λ s.
        links_right links k es ls (first_place x) a.0.kind (type_in d es a.0.tree) (lowered base ls k a.0.tree) b.0 fit
        (right x k es ls [] a.0 fit a.1 (front (calls_in a.0.tree) (calls_in_links b.0.0) s)) b.1 (back (calls_in a.0.tree) (calls_in_links b.0.0) s))
    right (path x steps) k es ls tops y fit h =
        let i = bind_ok (if is_shared x then tops_in d es steps else Ok []) _ y h in
        let a = bind_ok (settled d es i.0 x) _ y i.2 in
        let b = bind_ok (steps_settled d es (first_place x) a.0.kind (type_in d es a.0.tree) steps) _ y a.2 in
        settled_is k ls (record { tree = path a.0.tree b.0.0; kind = b.0.1 }) y b.2 (λ s.
        steps_right steps k es ls (first_place x) a.0.kind (type_in d es a.0.tree) (lowered base ls k a.0.tree) b.0 fit
        (right x k es ls i.0 a.0 fit a.1 (front (calls_in a.0.tree) (calls_in_steps b.0.0) s)) b.1 (back (calls_in a.0.tree) (calls_in_steps b.0.0) s))
    right (compared x c z) k es ls tops y fit h =
        let a = bind_ok (settled d es [] x) _ y h in
        let l = bind_ok (may_stand_left c.comparison (first_place x) a.0.kind) _ y a.2 in
        let b = bind_ok (settled d es [] z) _ y l.2 in
        let r = bind_ok (fits_left c.place (first_place z) a.0.kind b.0.kind) _ y b.2 in
        settled_is k ls (record { tree = compared a.0.tree c b.0.tree; kind = sorts.formula }) y r.2 (λ s.
        comparison_right ns k c (first_place x) (first_place z) a.0.kind b.0.kind l.0 r.0 (lowered base ls k a.0.tree) (lowered base ls k b.0.tree) l.1 r.1
        (right x k es ls [] a.0 fit a.1 (front (calls_in a.0.tree) (calls_in b.0.tree) s)) (right z k es ls [] b.0 fit b.1 (back (calls_in a.0.tree) (calls_in b.0.tree) s)))
    right (implies x p z) k es ls tops y fit h =
        let a = bind_ok (formula_from x (settled d es [] x)) _ y h in
        let b = bind_ok (formula_from z (settled d es [] z)) _ y a.2 in
        let one = formula_right k ls x a.0 (settled d es [] x) (λ w. right x k es ls [] w fit) a.1 in
        let two = formula_right k ls z b.0 (settled d es [] z) (λ w. right z k es ls [] w fit) b.1 in
        settled_is k ls (record { tree = implies a.0 p b.0; kind = sorts.formula }) y b.2 (λ s.
        (one (front (calls_in a.0) (calls_in b.0) s), (two (back (calls_in a.0) (calls_in b.0) s), tt)))
    right (implies_else x p z w) k es ls tops y fit h =
        let a = bind_ok (formula_from x (settled d es [] x)) _ y h in
        let b = bind_ok (formula_from z (settled d es [] z)) _ y a.2 in
        let c = bind_ok (formula_from w (settled d es [] w)) _ y b.2 in
        let one = formula_right k ls x a.0 (settled d es [] x) (λ v. right x k es ls [] v fit) a.1 in
        let two = formula_right k ls z b.0 (settled d es [] z) (λ v. right z k es ls [] v fit) b.1 in
        let three = formula_right k ls w c.0 (settled d es [] w) (λ v. right w k es ls [] v fit) c.1 in
        settled_is k ls (record { tree = implies_else a.0 p b.0 c.0; kind = sorts.formula }) y c.2 (λ s.
        let ab = front (calls_in a.0 ++ calls_in b.0) (calls_in c.0) s in
        let f = one (front (calls_in a.0) (calls_in b.0) ab) in
        ((f, (two (back (calls_in a.0) (calls_in b.0) ab), tt)), ((f, (three (back (calls_in a.0 ++ calls_in b.0) (calls_in c.0) s), tt)), tt)))
    right (quantified q p ds x) k es ls tops y fit h =
        let a = bind_ok (domains_settled true d es ds) _ y h in
        let b = bind_ok (formula_from x (settled d a.0.1 [] x)) _ y a.2 in
        let trees = a.0.0 in
        let inner = k + variables_in trees in
        let behind = behind_domains k trees ls in
        settled_is k ls (record { tree = quantified q p trees b.0; kind = sorts.formula }) y b.2 (λ s.
        let domains = domains_right ds k es ls a.0 fit a.1 (front (calls_in_domains trees) (calls_in b.0) s) in
        let bounds = domains_lowered base ls k trees in
        let deep : k + variables_in trees ≡ k + length bounds = ap (λ j. k + j) (sym domains.2) in
        let body = formula_right inner behind x b.0 (settled d a.0.1 [] x) (λ w. right x inner a.0.1 behind [] w domains.0) b.1 (back (calls_in_domains trees) (calls_in b.0) s) in
        let differences = disjoint_right ns trees inner k (let same = deep in omega arith) in
        quantified_right ns q bounds k (differences_in inner k trees) (formula_in (lowered base behind inner b.0)) domains.1
        (subst (λ j. ListProper ns j (differences_in inner k trees)) deep differences)
        (subst (λ j. IsProper ns j (formula_in (lowered base behind inner b.0))) deep body))
    right (bound_by_let p xs x) k es ls tops y fit h =
        let a = bind_ok (values_settled d es xs) _ y h in
        let b = bind_ok (formula_from x (settled d a.0.1 [] x)) _ y a.2 in
        let c = bind_ok (settled d a.0.1 [] x) _ b.0 b.1 in
        let e = bind_ok (as_formula (first_place x) c.0.kind) _ b.0 c.2 in
        let same : c.0.tree ≡ b.0 = same_ok c.0.tree b.0 e.2 in
        let is_formula : c.0.kind ≡ sorts.formula = formula_inv (first_place x) c.0.kind e.0 e.1 in
        settled_is k ls (record { tree = bound_by_let p a.0.0 b.0; kind = sorts.formula }) y b.2 (λ s.
        let behind = behind_values base ls k a.0.0 in
        let values = values_right xs k es ls a.0 fit a.1 (front (calls_in_all a.0.0) (calls_in b.0) s) in
        let sound = subst (λ t. AreSound (calls_in t)) (sym same) (back (calls_in_all a.0.0) (calls_in b.0) s) in
        let inside = right x k a.0.1 behind [] c.0 values c.1 sound in
        subst (λ t. IsOfKind ns k sorts.formula (lowered base behind k t)) same (subst (λ q. IsOfKind ns k q (lowered base behind k c.0.tree)) is_formula inside))

    pub formulas_right : (xs : PhraseTrees) (k : ℕ) (es : List typing.Local) (ls : List Local) (ys : PhraseTrees) → StandFor ns k es ls → formulas_settled d es xs ≡ Ok ys →
        AreSound (calls_in_all ys) → AreProper ns k (formulas_lowered base ls k ys)
    formulas_right no_phrases k es ls ys fit h = subst (λ zs. AreSound (calls_in_all zs) → AreProper ns k (formulas_lowered base ls k zs)) (same_ok no_phrases ys h) (λ s. tt)
    formulas_right (more_phrases x xs) k es ls ys fit h =
        let a = bind_ok (formula_from x (settled d es [] x)) _ ys h in
        let b = bind_ok (formulas_settled d es xs) _ ys a.2 in
        let one = formula_right k ls x a.0 (settled d es [] x) (λ w. right x k es ls [] w fit) a.1 in
        subst (λ zs. AreSound (calls_in_all zs) → AreProper ns k (formulas_lowered base ls k zs)) (same_ok (more_phrases a.0 b.0) ys b.2)
        (λ s. (one (front (calls_in a.0) (calls_in_all b.0) s), formulas_right xs k es ls b.0 fit b.1 (back (calls_in a.0) (calls_in_all b.0) s)))

    arguments_right : (xs : PhraseTrees) (k : ℕ) (es : List typing.Local) (ls : List Local) (ys : Arguments) → StandFor ns k es ls → arguments_settled d es xs ≡ Ok ys →
        AreSound (calls_in_all ys.trees) → HaveArities ns k ys.arities (expressions_lowered base ls k ys.trees)
    arguments_right no_phrases k es ls ys fit h =
        subst (λ (zs : Arguments). AreSound (calls_in_all zs.trees) → HaveArities ns k zs.arities (expressions_lowered base ls k zs.trees)) (same_ok (record { trees = no_phrases; arities = [] }) ys h) (λ s. tt)
    arguments_right (more_phrases x xs) k es ls ys fit h =
        let a = bind_ok (settled d es [] x) _ ys h in
        let n = bind_ok (as_relation (first_place x) a.0.kind) _ ys a.2 in
        let b = bind_ok (arguments_settled d es xs) _ ys n.2 in
        subst (λ (zs : Arguments). AreSound (calls_in_all zs.trees) → HaveArities ns k zs.arities (expressions_lowered base ls k zs.trees))
        (same_ok (record { trees = more_phrases a.0.tree b.0.trees; arities = (n.0, first_place x) ∷ b.0.arities }) ys b.2) (λ s. (
          relation_of ns k (first_place x) a.0.kind n.0 (lowered base ls k a.0.tree) n.1 (right x k es ls [] a.0 fit a.1 (front (calls_in a.0.tree) (calls_in_all b.0.trees) s)),
          arguments_right xs k es ls b.0 fit b.1 (back (calls_in a.0.tree) (calls_in_all b.0.trees) s),
        ))

    links_right : (links : LinkTrees) (k : ℕ) (es : List typing.Local) (ls : List Local) (left : Place) (kind : Kind) (t : Lists) (x : Lowered) (zs : LinkTrees × Kind) → StandFor ns k es ls →
        IsOfKind ns k kind x → links_settled d es left kind t links ≡ Ok zs → AreSound (calls_in_links zs.0) → IsOfKind ns k zs.1 (links_lowered base ls k x zs.0)
    links_right no_links k es ls left kind t x zs fit f h =
        subst (λ (q : LinkTrees × Kind). AreSound (calls_in_links q.0) → IsOfKind ns k q.1 (links_lowered base ls k x q.0)) (same_ok (no_links, kind) zs h) (λ s. f)
    links_right (more_links o p y links) k es ls left kind t x zs fit f h = elim (if_ok (is_connective o) _ _ zs h) [
      | inl c ↦
          let a = bind_ok (as_formula left kind) _ zs c.1 in
          let b = bind_ok (formula_from y (settled d es [] y)) _ zs a.2 in
          let r = bind_ok (links_settled d es left sorts.formula [] links) _ zs b.2 in
          subst (λ (q : LinkTrees × Kind). AreSound (calls_in_links q.0) → IsOfKind ns k q.1 (links_lowered base ls k x q.0)) (same_ok (more_links o p b.0 r.0.0, r.0.1) zs r.2) (λ s.
          let rest = back (calls_in b.0) (calls_in_links r.0.0) s in
          connective_right ns k o r.0.1 x (lowered base ls k b.0) (links_lowered base ls k (operator_lowered o x (lowered base ls k b.0)) r.0.0) (operands_lowered base ls k r.0.0) c.0
          (formula_of ns k left kind a.0 x a.1 f)
          (formula_right k ls y b.0 (settled d es [] y) (λ w. right y k es ls [] w fit) b.1 (front (calls_in b.0) (calls_in_links r.0.0) s))
          (λ g. links_right links k es ls left sorts.formula [] (operator_lowered o x (lowered base ls k b.0)) r.0 fit g r.1 rest)
          (operands_right links k es ls left [] r.0 fit r.1 rest))
      | inr c ↦
          let m = bind_ok (as_relation left kind) _ zs c.1 in
          let a = bind_ok (settled d es (tops_behind o t) y) _ zs m.2 in
          let n = bind_ok (as_relation (first_place y) a.0.kind) _ zs a.2 in
          let j = bind_ok (operator_arity o p left (first_place y) m.0 n.0) _ zs n.2 in
          let r = bind_ok (links_settled d es left (sorts.relation j.0) _ links) _ zs j.2 in
          subst (λ (q : LinkTrees × Kind). AreSound (calls_in_links q.0) → IsOfKind ns k q.1 (links_lowered base ls k x q.0)) (same_ok (more_links o p a.0.tree r.0.0, r.0.1) zs r.2) (λ s.
          between_right ns k o p left (first_place y) m.0 n.0 j.0 r.0.1 x (lowered base ls k a.0.tree) (links_lowered base ls k (operator_lowered o x (lowered base ls k a.0.tree)) r.0.0)
          (operands_lowered base ls k r.0.0) j.1 (relation_of ns k left kind m.0 x m.1 f)
          (relation_of ns k (first_place y) a.0.kind n.0 (lowered base ls k a.0.tree) n.1 (right y k es ls (tops_behind o t) a.0 fit a.1 (front (calls_in a.0.tree) (calls_in_links r.0.0) s)))
          (λ g. links_right links k es ls left (sorts.relation j.0) _ (operator_lowered o x (lowered base ls k a.0.tree)) r.0 fit g r.1 (back (calls_in a.0.tree) (calls_in_links r.0.0) s)))
    ]

    -- what stands behind a formula in a chain are formulas
    operands_right : (links : LinkTrees) (k : ℕ) (es : List typing.Local) (ls : List Local) (left : Place) (t : Lists) (zs : LinkTrees × Kind) → StandFor ns k es ls →
        links_settled d es left sorts.formula t links ≡ Ok zs → AreSound (calls_in_links zs.0) → (zs.1 ≡ sorts.formula) × AreProper ns k (operands_lowered base ls k zs.0)
    operands_right no_links k es ls left t zs fit h =
        subst (λ (q : LinkTrees × Kind). AreSound (calls_in_links q.0) → (q.1 ≡ sorts.formula) × AreProper ns k (operands_lowered base ls k q.0)) (same_ok (no_links, sorts.formula) zs h) (λ s. (refl, tt))
    operands_right (more_links o p y links) k es ls left t zs fit h = elim (if_ok (is_connective o) _ _ zs h) [
      | inl c ↦
          let b = bind_ok (formula_from y (settled d es [] y)) _ zs c.1 in
          let r = bind_ok (links_settled d es left sorts.formula [] links) _ zs b.2 in
          subst (λ (q : LinkTrees × Kind). AreSound (calls_in_links q.0) → (q.1 ≡ sorts.formula) × AreProper ns k (operands_lowered base ls k q.0)) (same_ok (more_links o p b.0 r.0.0, r.0.1) zs r.2) (λ s.
          let rest = operands_right links k es ls left [] r.0 fit r.1 (back (calls_in b.0) (calls_in_links r.0.0) s) in
          (rest.0, (formula_right k ls y b.0 (settled d es [] y) (λ w. right y k es ls [] w fit) b.1 (front (calls_in b.0) (calls_in_links r.0.0) s), rest.1)))
      | inr c ↦ absurd (let none = c.1 in cc)
    ]

    steps_right : (steps : StepTrees) (k : ℕ) (es : List typing.Local) (ls : List Local) (left : Place) (kind : Kind) (t : Lists) (x : Lowered) (zs : StepTrees × Kind) → StandFor ns k es ls →
        IsOfKind ns k kind x → steps_settled d es left kind t steps ≡ Ok zs → AreSound (calls_in_steps zs.0) → IsOfKind ns k zs.1 (steps_lowered base ls k x zs.0)
    steps_right no_steps k es ls left kind t x zs fit f h =
        subst (λ (q : StepTrees × Kind). AreSound (calls_in_steps q.0) → IsOfKind ns k q.1 (steps_lowered base ls k x q.0)) (same_ok (no_steps, kind) zs h) (λ s. f)
    steps_right (join_first p y steps) k es ls left kind t x zs fit f h =
        let m = bind_ok (as_relation left kind) _ zs h in
        let a = bind_ok (settled d es (ends_of t) y) _ zs m.2 in
        let n = bind_ok (as_relation (first_place y) a.0.kind) _ zs a.2 in
        let j = bind_ok (joined_arity p m.0 n.0) _ zs n.2 in
        let r = bind_ok (steps_settled d es left (sorts.relation j.0) _ steps) _ zs j.2 in
        subst (λ (q : StepTrees × Kind). AreSound (calls_in_steps q.0) → IsOfKind ns k q.1 (steps_lowered base ls k x q.0)) (same_ok (join_first p a.0.tree r.0.0, r.0.1) zs r.2) (λ s.
        let y' = lowered base ls k a.0.tree in
        let joined = joined_right ns k p m.0 n.0 j.0 (expression_in x) (expression_in y') j.1 (relation_of ns k left kind m.0 x m.1 f)
        (relation_of ns k (first_place y) a.0.kind n.0 y' n.1 (right y k es ls (ends_of t) a.0 fit a.1 (front (calls_in a.0.tree) (calls_in_steps r.0.0) s))) in
        steps_right steps k es ls left (sorts.relation j.0) _ (join_lowered x y') r.0 fit joined r.1 (back (calls_in a.0.tree) (calls_in_steps r.0.0) s))
    steps_right (brackets_first p ys steps) k es ls left kind t x zs fit f h =
        let m = bind_ok (as_relation left kind) _ zs h in
        let a = bind_ok (arguments_settled d es ys) _ zs m.2 in
        let j = bind_ok (brackets_arity p m.0 (map (λ n. n.0) a.0.arities)) _ zs a.2 in
        let r = bind_ok (steps_settled d es left (sorts.relation j.0) _ steps) _ zs j.2 in
        subst (λ (q : StepTrees × Kind). AreSound (calls_in_steps q.0) → IsOfKind ns k q.1 (steps_lowered base ls k x q.0)) (same_ok (brackets_first p a.0.trees r.0.0, r.0.1) zs r.2) (λ s.
        let args = expressions_lowered base ls k a.0.trees in
        let joined = brackets_right ns k p m.0 j.0 a.0.arities args (expression_in x) j.1 (relation_of ns k left kind m.0 x m.1 f)
        (arguments_right ys k es ls a.0 fit a.1 (front (calls_in_all a.0.trees) (calls_in_steps r.0.0) s)) in
        steps_right steps k es ls left (sorts.relation j.0) _ (relation (brackets_lowered (expression_in x) args)) r.0 fit joined r.1 (back (calls_in_all a.0.trees) (calls_in_steps r.0.0) s))

    pub domains_right : (ds : DomainTrees) (k : ℕ) (es : List typing.Local) (ls : List Local) (zs : DomainTrees × List typing.Local) → StandFor ns k es ls → domains_settled true d es ds ≡ Ok zs →
        AreSound (calls_in_domains zs.0) →
        StandFor ns (k + variables_in zs.0) zs.1 (behind_domains k zs.0 ls) × AreDomains ns k (domains_lowered base ls k zs.0) × (length (domains_lowered base ls k zs.0) ≡ variables_in zs.0)
    domains_right no_domains k es ls zs fit h =
        subst (λ (q : DomainTrees × List typing.Local). AreSound (calls_in_domains q.0) →
        StandFor ns (k + variables_in q.0) q.1 (behind_domains k q.0 ls) × AreDomains ns k (domains_lowered base ls k q.0) × (length (domains_lowered base ls k q.0) ≡ variables_in q.0))
        (same_ok (no_domains, es) zs h) (λ s. (subst (λ j. StandFor ns j es ls) (sym (add-zero k)) fit, tt, refl))
    domains_right (more_domains disjoint n mark x ds) k es ls zs fit h =
        let a = bind_ok (settled d es [] x) _ zs h in
        let b = bind_ok (as_relation (first_place x) a.0.kind) _ zs a.2 in
        let c = bind_ok (unless (b.0 == 1) (fault.NotUnary (first_place x))) _ zs b.2 in
        let l : typing.Local = record { arity = b.0; type = type_in d es a.0.tree } in
        let r = bind_ok (domains_settled true d (typing.onto n l es) ds) _ zs c.2 in
        let one = eq_test b.0 1 (unless_inv (b.0 == 1) (fault.NotUnary (first_place x)) c.0 c.1) in
        subst (λ (q : DomainTrees × List typing.Local). AreSound (calls_in_domains q.0) →
        StandFor ns (k + variables_in q.0) q.1 (behind_domains k q.0 ls) × AreDomains ns k (domains_lowered base ls k q.0) × (length (domains_lowered base ls k q.0) ≡ variables_in q.0))
        (same_ok (more_domains disjoint n mark a.0.tree r.0.0, r.0.1) zs r.2) (λ s.
        let e = expression_in (lowered base ls k a.0.tree) in
        let g = relation_of ns k (first_place x) a.0.kind b.0 (lowered base ls k a.0.tree) b.1 (right x k es ls [] a.0 fit a.1 (front (calls_in a.0.tree) (calls_in_domains r.0.0) s)) in
        let inner = behind_variables k n ls in
        let bounds = domains_lowered base inner (k + n) r.0.0 in
        let rest = domains_right ds (k + n) (typing.onto n l es) inner r.0 (variables_right ns n k l es ls one fit) r.1 (back (calls_in a.0.tree) (calls_in_domains r.0.0) s) in
        let deep : k + n + variables_in r.0.0 ≡ k + (n + variables_in r.0.0) = omega arith in
        let zero_first : k + 0 + n ≡ k + n = omega arith in (
          subst (λ j. StandFor ns j r.0.1 (behind_domains (k + n) r.0.0 inner)) deep rest.0,
          subst (λ j. AreDomains ns j (domain_of_each 0 e n ++ bounds)) (add-zero k) (each_right ns n 0 k e bounds (g.0, g.1 ∙ one) (subst (λ j. AreDomains ns j bounds) (sym zero_first) rest.1)),
          length-append (domain_of_each 0 e n) bounds ∙ ap (λ j. j + length bounds) (each_length n 0 e) ∙ ap (λ j. n + j) rest.2,
        ))

    values_right : (xs : PhraseTrees) (k : ℕ) (es : List typing.Local) (ls : List Local) (zs : PhraseTrees × List typing.Local) → StandFor ns k es ls → values_settled d es xs ≡ Ok zs →
        AreSound (calls_in_all zs.0) → StandFor ns k zs.1 (behind_values base ls k zs.0)
    values_right no_phrases k es ls zs fit h =
        subst (λ (q : PhraseTrees × List typing.Local). AreSound (calls_in_all q.0) → StandFor ns k q.1 (behind_values base ls k q.0)) (same_ok (no_phrases, es) zs h) (λ s. fit)
    values_right (more_phrases x xs) k es ls zs fit h =
        let a = bind_ok (settled d es [] x) _ zs h in
        let b = bind_ok (as_relation (first_place x) a.0.kind) _ zs a.2 in
        let l : typing.Local = record { arity = b.0; type = type_in d es a.0.tree } in
        let r = bind_ok (values_settled d (l ∷ es) xs) _ zs b.2 in
        subst (λ (q : PhraseTrees × List typing.Local). AreSound (calls_in_all q.0) → StandFor ns k q.1 (behind_values base ls k q.0)) (same_ok (more_phrases a.0.tree r.0.0, r.0.1) zs r.2) (λ s.
        let e = expression_in (lowered base ls k a.0.tree) in
        let g = relation_of ns k (first_place x) a.0.kind b.0 (lowered base ls k a.0.tree) b.1 (right x k es ls [] a.0 fit a.1 (front (calls_in a.0.tree) (calls_in_all r.0.0) s)) in
        values_right xs k (l ∷ es) (given k e ∷ ls) r.0 (omega arith, g, fit) r.1 (back (calls_in a.0.tree) (calls_in_all r.0.0) s))
