-- The value of each expression lies in its type, where the values of calls do.
use Rattle.std.proofs.Common.{◌≡◌, ◌<◌, inl, inr, true, ℕ, List, [], ◌∷◌, ◌++◌, length, map, nat_lt, Contains, if◌then◌else◌, Option, Some, None, slice_get, Result, Ok, Err, refl, sym, ◌∙◌, ap, subst}
use Rattle.std.specs.Prelude.{slice_index_or}
use Rattle.std.specs.List.{AllZip}
use Rattle.std.proofs.lemmas.List.Elements.{Contains-append_left, Contains-append_right}
use Rattle.alloy_lex.specs.declared.token.Place.{Place}
use Rattle.tuple_core.specs.declared.atom.Atom.{Atom}
use Rattle.rel_formula.specs.Kernel.{ExpressionTree}
use Rattle.rel_formula.specs.Meaning.{Structure}
use Rattle.rel_formula.proofs.OpenCells.{cons_first, cons_later}
use Rattle.rel_formula.proofs.Lists.{some_at}
use Rattle.named_model.specs.declared.phrase.Referent.{Referent}
use Rattle.named_model.specs.declared.phrase.Referent.TheVariants as referent
use Rattle.named_model.specs.Phrase.{PhraseTree, refers, called, numbered, constant, bracketed, block, prefixed, chain, path, compared, implies, implies_else, quantified, bound_by_let, PhraseTrees, no_phrases, more_phrases, LinkTrees, no_links, more_links, StepTrees, no_steps, join_first, brackets_first}
use Rattle.named_model.specs.Faults.{calls_in, calls_in_all, calls_in_links, calls_in_steps}
use Rattle.named_model.specs.Signatures.{tops, top_of}
use Rattle.model_sizes.specs.declared.size.Size.{Size}
use Rattle.model_types.specs.declared.fault.TypeFault.{TypeFault}
use Rattle.model_types.specs.declared.fault.TypeFault.TheVariants as fault
use Rattle.model_types.specs.Bounding.{Lists, singles, joins, brackets_type, operator_type, type_of, types_of, links_type, steps_type}
use Rattle.model_types.specs.Sorts as sorts
use Rattle.model_types.specs.Sorts.{Kind, unless, first_place, as_relation, as_formula, joined_arity, brackets_arity, operator_arity, is_connective, prefix_kind}
use Rattle.model_types.specs.Typing as typing
use Rattle.model_types.specs.Typing.{Declared, Header, Settled, Arguments, types_in, type_in, is_field, chosen, referent_settled, arguments_fit, call_kind, call_type, formula_from, settled, formulas_settled, arguments_settled, links_settled, steps_settled, domains_settled, values_settled, is_shared, tops_in, tops_behind, ends_of}
use Rattle.lowering_rules.specs.Parts.{Lowered, relation, expression_in, operator_lowered, join_lowered, brackets_lowered}
use Rattle.lowering_rules.specs.Binders.{Local, local_at}
use Rattle.lowering_rules.specs.Lowering.{Base, field_number, lowered, expressions_lowered, links_lowered, steps_lowered}
use Rattle.lowering_rules.specs.Relations.{IsPlaceOf, InProducts}
use Rattle.lowering_rules.proofs.Inversion.{bind_ok, fine, same_ok, if_ok, arity_inv, unless_inv, lt_test}
use Rattle.lowering_rules.proofs.Arities.{get_map}
use Rattle.lowering_laws.proofs.Types.Places.{LieIn}
use Rattle.lowering_laws.proofs.Types.Operators.{Lies, joins_lie, brackets_lie, constant_lies, prefix_lies, operator_lies, listed_lies}

-- what relations may have, where d says what is declared
pub record IsBounded (d : Declared) (sizes : List Size) (M : Structure) : Type 0 where
  pub sized : (s : ℕ) (a : Atom) → IsPlaceOf sizes s a → Contains (tops d.signatures) s
  pub universe : (t : List Atom) → M.universe t → InProducts sizes (singles (tops d.signatures)) t
  pub signature : (s : ℕ) → s < length d.signatures → LieIn sizes ((top_of d.signatures s ∷ []) ∷ []) (M.values s)
  pub field : (f : ℕ) (x : typing.Field) → slice_get d.fields f ≡ Some x → LieIn sizes x.type (M.values (field_number (length d.signatures) f))

call_inv : (p : Place) (o : Option Header) (ns : List (ℕ × Place)) (k : Kind) → call_kind p o ns ≡ Ok k → (h : Header) × (o ≡ Some h) × (h.kind ≡ k)
call_inv p None ns k e = absurd cc
call_inv p (Some h) ns k e =
    let a = bind_ok (arguments_fit p h.parameters ns) _ k e in
    (h, refl, same_ok h.kind k a.2)

module _ (d : Declared) (sizes : List Size) (M : Structure) (bounded : IsBounded d sizes M) (env : List Atom) (base : Base) (same : base.signatures ≡ length d.signatures) where
  abbrev pub In : Lists → ExpressionTree → Type 0
  In a e = Lies sizes (tops d.signatures) bounded.sized M bounded.universe env a e

  -- the value of each local name lies in its type
  abbrev pub AllIn : List Lists → List Local → Type 0
  AllIn ts ls = (i : ℕ) → In (slice_index_or ts i []) (local_at ls i (length env))

  abbrev pub AreIn : List ExpressionTree → List Lists → Type 0
  AreIn es ts = AllZip (λ e t. In t e) es ts

  -- so do those of calls that are relations
  abbrev pub IsSound : ℕ → Type 0
  IsSound c = (h : Header) → d.callee c ≡ Some h → (n : ℕ) → h.kind ≡ sorts.relation n → (es : List ExpressionTree) (ts : List Lists) → AreIn es ts → In (h.type ts) (expression_in (base.calls c (length env) es))

  abbrev pub AreSound : List ℕ → Type 0
  AreSound cs = (c : ℕ) → Contains cs c → IsSound c

  front : (xs ys : List ℕ) → AreSound (xs ++ ys) → AreSound xs
  front xs ys h = λ c i. h c (Contains-append_left xs ys c i)

  back : (xs ys : List ℕ) → AreSound (xs ++ ys) → AreSound ys
  back xs ys h = λ c i. h c (Contains-append_right xs ys c i)

  module _ (ts : List Lists) (ls : List Local) (locals_in : AllIn ts ls) where
    abbrev of : PhraseTree → Type 0
    of t = In (type_of (types_in d) ts t) (expression_in (lowered base ls (length env) t))

    abbrev IsIn : Settled → Type 0
    IsIn y = (n : ℕ) → y.kind ≡ sorts.relation n → AreSound (calls_in y.tree) → of y.tree

    settled_is : (z y : Settled) → fine z ≡ Ok y → IsIn z → IsIn y
    settled_is z y e h = subst IsIn (same_ok z y e) h

    -- no relation
    other_is : (z y : Settled) → fine z ≡ Ok y → ((n : ℕ) → z.kind ≡ sorts.relation n → ⊥) → IsIn y
    other_is z y e h = settled_is z y e (λ n k s. absurd (h n k))

    field_in : (p : Place) (f : ℕ) (y : Settled) (o : Option typing.Field) → slice_get d.fields f ≡ o → is_field d p f ≡ Ok y → IsIn y
    field_in p f y None at h =
        absurd (let e : Err (fault.Sort p) ≡ fine y = sym (ap (λ o. elim o [ None ↦ Err (fault.Sort p) | Some field ↦ fine (record { tree = refers p (referent.Field f); kind = sorts.relation field.arity }) ]) at) ∙ h in cc)
    field_in p f y (Some x) at h =
        let z : Settled = record { tree = refers p (referent.Field f); kind = sorts.relation x.arity } in
        let e : fine z ≡ Ok y = sym (ap (λ o. elim o [ None ↦ Err (fault.Sort p) | Some field ↦ fine (record { tree = refers p (referent.Field f); kind = sorts.relation field.arity }) ]) at) ∙ h in
        let types = map (λ (g : typing.Field). g.type) d.fields in
        let type : slice_index_or types f [] ≡ x.type = some_at types f x.type [] (get_map (λ (g : typing.Field). g.type) d.fields f x at) in
        let lies : LieIn sizes (slice_index_or types f []) (M.values (field_number base.signatures f)) =
        subst (λ a. LieIn sizes a (M.values (field_number base.signatures f))) (sym type) (subst (λ k. LieIn sizes x.type (M.values (field_number k f))) (sym same) (bounded.field f x at)) in
        settled_is z y e (λ n k s. lies)

    local_in : (p : Place) (i : ℕ) (y : Settled) (o : Option typing.Local) →
        (elim o as (λ o. Result Settled TypeFault) [ None ↦ Err (fault.Sort p) | Some l ↦ Ok (record { tree = refers p (referent.Local i); kind = sorts.relation l.arity }) ]) ≡ Ok y → IsIn y
    local_in p i y None h = absurd cc
    local_in p i y (Some l) h = settled_is (record { tree = refers p (referent.Local i); kind = sorts.relation l.arity }) y h (λ n k s. locals_in i)

    referent_in : (locals : List typing.Local) (tops' : List ℕ) (p : Place) (r : Referent) (y : Settled) → referent_settled d locals tops' p r ≡ Ok y → IsIn y
    referent_in locals tops' p (referent.Signature s) y h =
        let a = bind_ok (unless (nat_lt s (length d.signatures)) (fault.Sort p)) _ y h in
        let l = lt_test s (length d.signatures) (unless_inv (nat_lt s (length d.signatures)) (fault.Sort p) a.0 a.1) in
        settled_is (record { tree = refers p (referent.Signature s); kind = sorts.relation 1 }) y a.2 (λ n k c. bounded.signature s l)
    referent_in locals tops' p (referent.Field f) y h = field_in p f y (slice_get d.fields f) refl h
    referent_in locals tops' p (referent.Shared f) y h =
        let a = bind_ok (chosen d tops' p f) _ y h in
        field_in p a.0 y (slice_get d.fields a.0) refl a.2
    referent_in locals tops' p (referent.Local i) y h = local_in p i y (slice_get locals i) h

    call_in : (p : Place) (c : ℕ) (xs : PhraseTrees) (h : Header) → d.callee c ≡ Some h → In (h.type (types_of (types_in d) ts xs)) (expression_in (base.calls c (length env) (expressions_lowered base ls (length env) xs))) → of (called p c xs)
    call_in p c xs h at lies =
        subst (λ o. In (call_type o (types_of (types_in d) ts xs)) (expression_in (base.calls c (length env) (expressions_lowered base ls (length env) xs)))) (sym at) lies

    mutual
      pub expression : (x : PhraseTree) (locals : List typing.Local) (tops' : List ℕ) (y : Settled) → settled d locals tops' x ≡ Ok y → IsIn y
      expression (refers p r) locals tops' y h = referent_in locals tops' p r y h
      expression (called p c xs) locals tops' y h =
          let a = bind_ok (arguments_settled d locals xs) _ y h in
          let b = bind_ok (call_kind p (d.callee c) a.0.arities) _ y a.2 in
          let g = call_inv p (d.callee c) a.0.arities b.0 b.1 in
          settled_is (record { tree = called p c a.0.trees; kind = b.0 }) y b.2 (λ n k s.
          call_in p c a.0.trees g.0 g.1 (s c (cons_first c (calls_in_all a.0.trees)) g.0 g.1 n (g.2 ∙ k) (expressions_lowered base ls (length env) a.0.trees) (types_of (types_in d) ts a.0.trees)
          (arguments xs locals a.0 a.1 (λ q i. s q (cons_later c (calls_in_all a.0.trees) q i)))))
      expression (numbered n) locals tops' y h = other_is (record { tree = numbered n; kind = sorts.number }) y h (λ n e. cc)
      expression (constant c p) locals tops' y h =
          settled_is (record { tree = constant c p; kind = sorts.relation (sorts.constant_arity c) }) y h (λ n k s. constant_lies sizes (tops d.signatures) bounded.sized M bounded.universe env c)
      expression (bracketed p x) locals tops' y h =
          let a = bind_ok (settled d locals tops' x) _ y h in
          settled_is (record { tree = bracketed p a.0.tree; kind = a.0.kind }) y a.2 (expression x locals tops' a.0 a.1)
      expression (block p xs) locals tops' y h =
          let a = bind_ok (formulas_settled d locals xs) _ y h in
          other_is (record { tree = block p a.0; kind = sorts.formula }) y a.2 (λ n e. cc)
      expression (prefixed f p x) locals tops' y h =
          let a = bind_ok (settled d locals [] x) _ y h in
          let b = bind_ok (prefix_kind f p (first_place x) a.0.kind) _ y a.2 in
          settled_is (record { tree = prefixed f p a.0.tree; kind = b.0 }) y b.2 (λ n k s.
          prefix_lies sizes (tops d.signatures) bounded.sized M bounded.universe env f p (first_place x) a.0.kind b.0 (type_of (types_in d) ts a.0.tree) (lowered base ls (length env) a.0.tree) b.1
          (λ m e. expression x locals [] a.0 a.1 m e s))
      expression (chain x links) locals tops' y h =
          let a = bind_ok (settled d locals [] x) _ y h in
          let b = bind_ok (links_settled d locals (first_place x) a.0.kind (type_in d locals a.0.tree) links) _ y a.2 in
          settled_is (record { tree = chain a.0.tree b.0.0; kind = b.0.1 }) y b.2 (λ n k s.
          links_in links locals (first_place x) a.0.kind (type_in d locals a.0.tree) b.0 (type_of (types_in d) ts a.0.tree) (lowered base ls (length env) a.0.tree)
          (λ m e. expression x locals [] a.0 a.1 m e (front (calls_in a.0.tree) (calls_in_links b.0.0) s)) b.1 n k (back (calls_in a.0.tree) (calls_in_links b.0.0) s))
      expression (path x steps) locals tops' y h =
          let i = bind_ok (if is_shared x then tops_in d locals steps else Ok []) _ y h in
          let a = bind_ok (settled d locals i.0 x) _ y i.2 in
          let b = bind_ok (steps_settled d locals (first_place x) a.0.kind (type_in d locals a.0.tree) steps) _ y a.2 in
          settled_is (record { tree = path a.0.tree b.0.0; kind = b.0.1 }) y b.2 (λ n k s.
          steps_in steps locals (first_place x) a.0.kind (type_in d locals a.0.tree) b.0 (type_of (types_in d) ts a.0.tree) (lowered base ls (length env) a.0.tree)
          (λ m e. expression x locals i.0 a.0 a.1 m e (front (calls_in a.0.tree) (calls_in_steps b.0.0) s)) b.1 n k (back (calls_in a.0.tree) (calls_in_steps b.0.0) s))
      expression (compared x c z) locals tops' y h =
          let a = bind_ok (settled d locals [] x) _ y h in
          let l = bind_ok (sorts.may_stand_left c.comparison (first_place x) a.0.kind) _ y a.2 in
          let b = bind_ok (settled d locals [] z) _ y l.2 in
          let r = bind_ok (sorts.fits_left c.place (first_place z) a.0.kind b.0.kind) _ y b.2 in
          other_is (record { tree = compared a.0.tree c b.0.tree; kind = sorts.formula }) y r.2 (λ n e. cc)
      expression (implies x p z) locals tops' y h =
          let a = bind_ok (formula_from x (settled d locals [] x)) _ y h in
          let b = bind_ok (formula_from z (settled d locals [] z)) _ y a.2 in
          other_is (record { tree = implies a.0 p b.0; kind = sorts.formula }) y b.2 (λ n e. cc)
      expression (implies_else x p z w) locals tops' y h =
          let a = bind_ok (formula_from x (settled d locals [] x)) _ y h in
          let b = bind_ok (formula_from z (settled d locals [] z)) _ y a.2 in
          let c = bind_ok (formula_from w (settled d locals [] w)) _ y b.2 in
          other_is (record { tree = implies_else a.0 p b.0 c.0; kind = sorts.formula }) y c.2 (λ n e. cc)
      expression (quantified q p ds x) locals tops' y h =
          let a = bind_ok (domains_settled true d locals ds) _ y h in
          let b = bind_ok (formula_from x (settled d a.0.1 [] x)) _ y a.2 in
          other_is (record { tree = quantified q p a.0.0 b.0; kind = sorts.formula }) y b.2 (λ n e. cc)
      expression (bound_by_let p xs x) locals tops' y h =
          let a = bind_ok (values_settled d locals xs) _ y h in
          let b = bind_ok (formula_from x (settled d a.0.1 [] x)) _ y a.2 in
          other_is (record { tree = bound_by_let p a.0.0 b.0; kind = sorts.formula }) y b.2 (λ n e. cc)

      arguments : (xs : PhraseTrees) (locals : List typing.Local) (ys : Arguments) → arguments_settled d locals xs ≡ Ok ys → AreSound (calls_in_all ys.trees) →
          AreIn (expressions_lowered base ls (length env) ys.trees) (types_of (types_in d) ts ys.trees)
      arguments no_phrases locals ys h s =
          subst (λ (zs : Arguments). AreIn (expressions_lowered base ls (length env) zs.trees) (types_of (types_in d) ts zs.trees)) (same_ok (record { trees = no_phrases; arities = [] }) ys h) tt
      arguments (more_phrases x xs) locals ys h s =
          let a = bind_ok (settled d locals [] x) _ ys h in
          let n = bind_ok (as_relation (first_place x) a.0.kind) _ ys a.2 in
          let b = bind_ok (arguments_settled d locals xs) _ ys n.2 in
          subst (λ (zs : Arguments). AreSound (calls_in_all zs.trees) → AreIn (expressions_lowered base ls (length env) zs.trees) (types_of (types_in d) ts zs.trees))
          (same_ok (record { trees = more_phrases a.0.tree b.0.trees; arities = (n.0, first_place x) ∷ b.0.arities }) ys b.2) (λ c. (
            expression x locals [] a.0 a.1 n.0 (arity_inv (first_place x) a.0.kind n.0 n.1) (front (calls_in a.0.tree) (calls_in_all b.0.trees) c),
            arguments xs locals b.0 b.1 (back (calls_in a.0.tree) (calls_in_all b.0.trees) c),
          )) s

      links_in : (links : LinkTrees) (locals : List typing.Local) (left : Place) (kind : Kind) (t : Lists) (zs : LinkTrees × Kind) (a : Lists) (x : Lowered) →
          ((n : ℕ) → kind ≡ sorts.relation n → In a (expression_in x)) → links_settled d locals left kind t links ≡ Ok zs → (n : ℕ) → zs.1 ≡ sorts.relation n → AreSound (calls_in_links zs.0) →
          In (links_type (types_in d) ts a zs.0) (expression_in (links_lowered base ls (length env) x zs.0))
      links_in no_links locals left kind t zs a x f h n k s =
          let e = same_ok (no_links, kind) zs h in
          subst (λ (q : LinkTrees × Kind). q.1 ≡ sorts.relation n → In (links_type (types_in d) ts a q.0) (expression_in (links_lowered base ls (length env) x q.0))) e (λ k. f n k) k
      links_in (more_links o p y links) locals left kind t zs a x f h n k s = elim (if_ok (is_connective o) _ _ zs h) [
        | inl c ↦
            let m = bind_ok (as_formula left kind) _ zs c.1 in
            let b = bind_ok (formula_from y (settled d locals [] y)) _ zs m.2 in
            let r = bind_ok (links_settled d locals left sorts.formula [] links) _ zs b.2 in
            subst (λ (q : LinkTrees × Kind). q.1 ≡ sorts.relation n → AreSound (calls_in_links q.0) → In (links_type (types_in d) ts a q.0) (expression_in (links_lowered base ls (length env) x q.0)))
            (same_ok (more_links o p b.0 r.0.0, r.0.1) zs r.2) (λ k s.
            let z = operator_lowered o x (lowered base ls (length env) b.0) in
            listed_lies sizes (tops d.signatures) bounded.sized M bounded.universe env o _ (links_lowered base ls (length env) z r.0.0) (links_type (types_in d) ts (operator_type o a (type_of (types_in d) ts b.0)) r.0.0)
            (links_in links locals left sorts.formula [] r.0 (operator_type o a (type_of (types_in d) ts b.0)) z (λ m e. absurd cc) r.1 n k (back (calls_in b.0) (calls_in_links r.0.0) s))) k s
        | inr c ↦
            let m = bind_ok (as_relation left kind) _ zs c.1 in
            let b = bind_ok (settled d locals (tops_behind o t) y) _ zs m.2 in
            let g = bind_ok (as_relation (first_place y) b.0.kind) _ zs b.2 in
            let j = bind_ok (operator_arity o p left (first_place y) m.0 g.0) _ zs g.2 in
            let r = bind_ok (links_settled d locals left (sorts.relation j.0) _ links) _ zs j.2 in
            subst (λ (q : LinkTrees × Kind). q.1 ≡ sorts.relation n → AreSound (calls_in_links q.0) → In (links_type (types_in d) ts a q.0) (expression_in (links_lowered base ls (length env) x q.0)))
            (same_ok (more_links o p b.0.tree r.0.0, r.0.1) zs r.2) (λ k s.
            let y' = lowered base ls (length env) b.0.tree in
            let type = type_of (types_in d) ts b.0.tree in
            let operand = expression y locals (tops_behind o t) b.0 b.1 g.0 (arity_inv (first_place y) b.0.kind g.0 g.1) (front (calls_in b.0.tree) (calls_in_links r.0.0) s) in
            let made = operator_lies sizes (tops d.signatures) bounded.sized M bounded.universe env o a type x y' (f m.0 (arity_inv left kind m.0 m.1)) operand in
            listed_lies sizes (tops d.signatures) bounded.sized M bounded.universe env o _ (links_lowered base ls (length env) (operator_lowered o x y') r.0.0) (links_type (types_in d) ts (operator_type o a type) r.0.0)
            (links_in links locals left (sorts.relation j.0) _ r.0 (operator_type o a type) (operator_lowered o x y') (λ m e. made) r.1 n k (back (calls_in b.0.tree) (calls_in_links r.0.0) s))) k s
      ]

      steps_in : (steps : StepTrees) (locals : List typing.Local) (left : Place) (kind : Kind) (t : Lists) (zs : StepTrees × Kind) (a : Lists) (x : Lowered) →
          ((n : ℕ) → kind ≡ sorts.relation n → In a (expression_in x)) → steps_settled d locals left kind t steps ≡ Ok zs → (n : ℕ) → zs.1 ≡ sorts.relation n → AreSound (calls_in_steps zs.0) →
          In (steps_type (types_in d) ts a zs.0) (expression_in (steps_lowered base ls (length env) x zs.0))
      steps_in no_steps locals left kind t zs a x f h n k s =
          let e = same_ok (no_steps, kind) zs h in
          subst (λ (q : StepTrees × Kind). q.1 ≡ sorts.relation n → In (steps_type (types_in d) ts a q.0) (expression_in (steps_lowered base ls (length env) x q.0))) e (λ k. f n k) k
      steps_in (join_first p y steps) locals left kind t zs a x f h n k s =
          let m = bind_ok (as_relation left kind) _ zs h in
          let b = bind_ok (settled d locals (ends_of t) y) _ zs m.2 in
          let g = bind_ok (as_relation (first_place y) b.0.kind) _ zs b.2 in
          let j = bind_ok (joined_arity p m.0 g.0) _ zs g.2 in
          let r = bind_ok (steps_settled d locals left (sorts.relation j.0) _ steps) _ zs j.2 in
          subst (λ (q : StepTrees × Kind). q.1 ≡ sorts.relation n → AreSound (calls_in_steps q.0) → In (steps_type (types_in d) ts a q.0) (expression_in (steps_lowered base ls (length env) x q.0)))
          (same_ok (join_first p b.0.tree r.0.0, r.0.1) zs r.2) (λ k s.
          let y' = lowered base ls (length env) b.0.tree in
          let type = type_of (types_in d) ts b.0.tree in
          let operand = expression y locals (ends_of t) b.0 b.1 g.0 (arity_inv (first_place y) b.0.kind g.0 g.1) (front (calls_in b.0.tree) (calls_in_steps r.0.0) s) in
          let made = joins_lie sizes (tops d.signatures) bounded.sized M bounded.universe env a type (expression_in x) (expression_in y') (f m.0 (arity_inv left kind m.0 m.1)) operand in
          steps_in steps locals left (sorts.relation j.0) _ r.0 (joins a type) (join_lowered x y') (λ m e. made) r.1 n k (back (calls_in b.0.tree) (calls_in_steps r.0.0) s)) k s
      steps_in (brackets_first p ys steps) locals left kind t zs a x f h n k s =
          let m = bind_ok (as_relation left kind) _ zs h in
          let b = bind_ok (arguments_settled d locals ys) _ zs m.2 in
          let j = bind_ok (brackets_arity p m.0 (map (λ n. n.0) b.0.arities)) _ zs b.2 in
          let r = bind_ok (steps_settled d locals left (sorts.relation j.0) _ steps) _ zs j.2 in
          subst (λ (q : StepTrees × Kind). q.1 ≡ sorts.relation n → AreSound (calls_in_steps q.0) → In (steps_type (types_in d) ts a q.0) (expression_in (steps_lowered base ls (length env) x q.0)))
          (same_ok (brackets_first p b.0.trees r.0.0, r.0.1) zs r.2) (λ k s.
          let es = expressions_lowered base ls (length env) b.0.trees in
          let types = types_of (types_in d) ts b.0.trees in
          let made = brackets_lie sizes (tops d.signatures) bounded.sized M bounded.universe env es types a (expression_in x)
          (arguments ys locals b.0 b.1 (front (calls_in_all b.0.trees) (calls_in_steps r.0.0) s)) (f m.0 (arity_inv left kind m.0 m.1)) in
          steps_in steps locals left (sorts.relation j.0) _ r.0 (brackets_type a types) (relation (brackets_lowered (expression_in x) es)) (λ m e. made) r.1 n k
          (back (calls_in_all b.0.trees) (calls_in_steps r.0.0) s)) k s
