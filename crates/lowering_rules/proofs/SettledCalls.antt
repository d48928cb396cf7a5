-- A settled part calls what the part calls.
use Rattle.std.proofs.Common.{◌≡◌, inl, inr, ℕ, ◌==◌, nat_lt, List, [], ◌∷◌, ◌++◌, map, length, Bool, true, if◌then◌else◌, Option, Some, None, slice_get, Result, Ok, Err, refl, ap, ap₂, subst}
use Rattle.alloy_lex.specs.declared.token.Place.{Place}
use Rattle.named_model.specs.declared.phrase.Referent.{Referent}
use Rattle.named_model.specs.declared.phrase.Referent.TheVariants as referent
use Rattle.named_model.specs.Phrase.{PhraseTree, refers, called, numbered, constant, bracketed, block, prefixed, chain, path, compared, implies, implies_else, quantified, bound_by_let, PhraseTrees, no_phrases, more_phrases, LinkTrees, no_links, more_links, StepTrees, no_steps, join_first, brackets_first, DomainTrees, no_domains, more_domains}
use Rattle.named_model.specs.Faults.{calls_in, calls_in_all, calls_in_links, calls_in_steps, calls_in_domains}
use Rattle.model_types.specs.declared.fault.TypeFault.{TypeFault}
use Rattle.model_types.specs.declared.fault.TypeFault.TheVariants as fault
use Rattle.model_types.specs.Bounding.{Lists}
use Rattle.model_types.specs.Sorts as sorts
use Rattle.model_types.specs.Sorts.{Kind, unless, first_place, as_relation, as_formula, joined_arity, brackets_arity, operator_arity, is_connective, prefix_kind, may_stand_left, fits_left}
use Rattle.model_types.specs.Typing as typing
use Rattle.model_types.specs.Typing.{Declared, Settled, Arguments, type_in, is_field, chosen, referent_settled, call_kind, formula_from, settled, formulas_settled, arguments_settled, links_settled, steps_settled, domains_settled, values_settled, is_shared, tops_in, tops_behind, ends_of}
use Rattle.lowering_rules.proofs.Inversion.{bind_ok, fine, same_ok, if_ok}

-- the tree has the calls of these
abbrev HasCalls : List ℕ → Settled → Type 0
HasCalls cs y = calls_in y.tree ≡ cs

settled_is : (cs : List ℕ) (z y : Settled) → fine z ≡ Ok y → HasCalls cs z → HasCalls cs y
settled_is cs z y e h = subst (HasCalls cs) (same_ok z y e) h

field_kept : (p : Place) (f : ℕ) (y : Settled) (o : Option typing.Field) →
    (elim o as (λ o. Result Settled TypeFault) [ None ↦ Err (fault.Sort p) | Some field ↦ Ok (record { tree = refers p (referent.Field f); kind = sorts.relation field.arity }) ]) ≡ Ok y → HasCalls [] y
field_kept p f y None h = absurd cc
field_kept p f y (Some x) h = settled_is [] (record { tree = refers p (referent.Field f); kind = sorts.relation x.arity }) y h refl

local_kept : (p : Place) (i : ℕ) (y : Settled) (o : Option typing.Local) →
    (elim o as (λ o. Result Settled TypeFault) [ None ↦ Err (fault.Sort p) | Some l ↦ Ok (record { tree = refers p (referent.Local i); kind = sorts.relation l.arity }) ]) ≡ Ok y → HasCalls [] y
local_kept p i y None h = absurd cc
local_kept p i y (Some x) h = settled_is [] (record { tree = refers p (referent.Local i); kind = sorts.relation x.arity }) y h refl

formula_kept : (cs : List ℕ) (x t : PhraseTree) (answer : Result Settled TypeFault) → ((y : Settled) → answer ≡ Ok y → HasCalls cs y) → formula_from x answer ≡ Ok t → calls_in t ≡ cs
formula_kept cs x t answer kept h =
    let a = bind_ok answer _ t h in
    let b = bind_ok (as_formula (first_place x) a.0.kind) _ t a.2 in
    subst (λ z. calls_in z ≡ cs) (same_ok a.0.tree t b.2) (kept a.0 a.1)

module _ (d : Declared) where
  referent_kept : (locals : List typing.Local) (tops : List ℕ) (p : Place) (r : Referent) (y : Settled) → referent_settled d locals tops p r ≡ Ok y → HasCalls [] y
  referent_kept locals tops p (referent.Signature s) y h =
      let a = bind_ok (unless (nat_lt s (length d.signatures)) (fault.Sort p)) _ y h in
      settled_is [] (record { tree = refers p (referent.Signature s); kind = sorts.relation 1 }) y a.2 refl
  referent_kept locals tops p (referent.Field f) y h = field_kept p f y (slice_get d.fields f) h
  referent_kept locals tops p (referent.Shared f) y h =
      let a = bind_ok (chosen d tops p f) _ y h in
      field_kept p a.0 y (slice_get d.fields a.0) a.2
  referent_kept locals tops p (referent.Local i) y h = local_kept p i y (slice_get locals i) h

  mutual
    pub kept : (x : PhraseTree) (locals : List typing.Local) (tops : List ℕ) (y : Settled) → settled d locals tops x ≡ Ok y → calls_in y.tree ≡ calls_in x
    kept (refers p r) locals tops y h = referent_kept locals tops p r y h
    kept (called p n xs) locals tops y h =
        let a = bind_ok (arguments_settled d locals xs) _ y h in
        let b = bind_ok (call_kind p (d.callee n) a.0.arities) _ y a.2 in
        settled_is (n ∷ calls_in_all xs) (record { tree = called p n a.0.trees; kind = b.0 }) y b.2 (ap (λ cs. n ∷ cs) (arguments_kept xs locals a.0 a.1))
    kept (numbered n) locals tops y h = settled_is [] (record { tree = numbered n; kind = sorts.number }) y h refl
    kept (constant c p) locals tops y h = settled_is [] (record { tree = constant c p; kind = sorts.relation (sorts.constant_arity c) }) y h refl
    kept (bracketed p x) locals tops y h =
        let a = bind_ok (settled d locals tops x) _ y h in
        settled_is (calls_in x) (record { tree = bracketed p a.0.tree; kind = a.0.kind }) y a.2 (kept x locals tops a.0 a.1)
    kept (block p xs) locals tops y h =
        let a = bind_ok (formulas_settled d locals xs) _ y h in
        settled_is (calls_in_all xs) (record { tree = block p a.0; kind = sorts.formula }) y a.2 (formulas_kept xs locals a.0 a.1)
    kept (prefixed f p x) locals tops y h =
        let a = bind_ok (settled d locals [] x) _ y h in
        let b = bind_ok (prefix_kind f p (first_place x) a.0.kind) _ y a.2 in
        settled_is (calls_in x) (record { tree = prefixed f p a.0.tree; kind = b.0 }) y b.2 (kept x locals [] a.0 a.1)
    kept (chain x links) locals tops y h =
        let a = bind_ok (settled d locals [] x) _ y h in
        let b = bind_ok (links_settled d locals (first_place x) a.0.kind (type_in d locals a.0.tree) links) _ y a.2 in
        settled_is (calls_in x ++ calls_in_links links) (record { tree = chain a.0.tree b.0.0; kind = b.0.1 }) y b.2
        (ap₂ (λ cs es. cs ++ es) (kept x locals [] a.0 a.1) (links_kept links locals (first_place x) a.0.kind (type_in d locals a.0.tree) b.0 b.1))
    kept (path x steps) locals tops y h =
        let i = bind_ok (if is_shared x then tops_in d locals steps else Ok []) _ y h in
        let a = bind_ok (settled d locals i.0 x) _ y i.2 in
        let b = bind_ok (steps_settled d locals (first_place x) a.0.kind (type_in d locals a.0.tree) steps) _ y a.2 in
        settled_is (calls_in x ++ calls_in_steps steps) (record { tree = path a.0.tree b.0.0; kind = b.0.1 }) y b.2
        (ap₂ (λ cs es. cs ++ es) (kept x locals i.0 a.0 a.1) (steps_kept steps locals (first_place x) a.0.kind (type_in d locals a.0.tree) b.0 b.1))
    kept (compared x c z) locals tops y h =
        let a = bind_ok (settled d locals [] x) _ y h in
        let l = bind_ok (may_stand_left c.comparison (first_place x) a.0.kind) _ y a.2 in
        let b = bind_ok (settled d locals [] z) _ y l.2 in
        let r = bind_ok (fits_left c.place (first_place z) a.0.kind b.0.kind) _ y b.2 in
        settled_is (calls_in x ++ calls_in z) (record { tree = compared a.0.tree c b.0.tree; kind = sorts.formula }) y r.2
        (ap₂ (λ cs es. cs ++ es) (kept x locals [] a.0 a.1) (kept z locals [] b.0 b.1))
    kept (implies x p z) locals tops y h =
        let a = bind_ok (formula_from x (settled d locals [] x)) _ y h in
        let b = bind_ok (formula_from z (settled d locals [] z)) _ y a.2 in
        settled_is (calls_in x ++ calls_in z) (record { tree = implies a.0 p b.0; kind = sorts.formula }) y b.2
        (ap₂ (λ cs es. cs ++ es) (formula_kept (calls_in x) x a.0 (settled d locals [] x) (kept x locals []) a.1) (formula_kept (calls_in z) z b.0 (settled d locals [] z) (kept z locals []) b.1))
    kept (implies_else x p z w) locals tops y h =
        let a = bind_ok (formula_from x (settled d locals [] x)) _ y h in
        let b = bind_ok (formula_from z (settled d locals [] z)) _ y a.2 in
        let c = bind_ok (formula_from w (settled d locals [] w)) _ y b.2 in
        let one = formula_kept (calls_in x) x a.0 (settled d locals [] x) (kept x locals []) a.1 in
        let two = formula_kept (calls_in z) z b.0 (settled d locals [] z) (kept z locals []) b.1 in
        let three = formula_kept (calls_in w) w c.0 (settled d locals [] w) (kept w locals []) c.1 in
        settled_is (calls_in x ++ calls_in z ++ calls_in w) (record { tree = implies_else a.0 p b.0 c.0; kind = sorts.formula }) y c.2 (λ i. one i ++ two i ++ three i)
    kept (quantified q p ds x) locals tops y h =
        let a = bind_ok (domains_settled true d locals ds) _ y h in
        let b = bind_ok (formula_from x (settled d a.0.1 [] x)) _ y a.2 in
        settled_is (calls_in_domains ds ++ calls_in x) (record { tree = quantified q p a.0.0 b.0; kind = sorts.formula }) y b.2
        (ap₂ (λ cs es. cs ++ es) (domains_kept true ds locals a.0 a.1) (formula_kept (calls_in x) x b.0 (settled d a.0.1 [] x) (kept x a.0.1 []) b.1))
    kept (bound_by_let p xs x) locals tops y h =
        let a = bind_ok (values_settled d locals xs) _ y h in
        let b = bind_ok (formula_from x (settled d a.0.1 [] x)) _ y a.2 in
        settled_is (calls_in_all xs ++ calls_in x) (record { tree = bound_by_let p a.0.0 b.0; kind = sorts.formula }) y b.2
        (ap₂ (λ cs es. cs ++ es) (values_kept xs locals a.0 a.1) (formula_kept (calls_in x) x b.0 (settled d a.0.1 [] x) (kept x a.0.1 []) b.1))

    pub formulas_kept : (xs : PhraseTrees) (locals : List typing.Local) (ys : PhraseTrees) → formulas_settled d locals xs ≡ Ok ys → calls_in_all ys ≡ calls_in_all xs
    formulas_kept no_phrases locals ys h = subst (λ zs. calls_in_all zs ≡ []) (same_ok no_phrases ys h) refl
    formulas_kept (more_phrases x xs) locals ys h =
        let a = bind_ok (formula_from x (settled d locals [] x)) _ ys h in
        let b = bind_ok (formulas_settled d locals xs) _ ys a.2 in
        subst (λ zs. calls_in_all zs ≡ calls_in x ++ calls_in_all xs) (same_ok (more_phrases a.0 b.0) ys b.2)
        (ap₂ (λ cs es. cs ++ es) (formula_kept (calls_in x) x a.0 (settled d locals [] x) (kept x locals []) a.1) (formulas_kept xs locals b.0 b.1))

    pub arguments_kept : (xs : PhraseTrees) (locals : List typing.Local) (ys : Arguments) → arguments_settled d locals xs ≡ Ok ys → calls_in_all ys.trees ≡ calls_in_all xs
    arguments_kept no_phrases locals ys h = subst (λ (zs : Arguments). calls_in_all zs.trees ≡ []) (same_ok (record { trees = no_phrases; arities = [] }) ys h) refl
    arguments_kept (more_phrases x xs) locals ys h =
        let a = bind_ok (settled d locals [] x) _ ys h in
        let n = bind_ok (as_relation (first_place x) a.0.kind) _ ys a.2 in
        let b = bind_ok (arguments_settled d locals xs) _ ys n.2 in
        subst (λ (zs : Arguments). calls_in_all zs.trees ≡ calls_in x ++ calls_in_all xs) (same_ok (record { trees = more_phrases a.0.tree b.0.trees; arities = (n.0, first_place x) ∷ b.0.arities }) ys b.2)
        (ap₂ (λ cs es. cs ++ es) (kept x locals [] a.0 a.1) (arguments_kept xs locals b.0 b.1))

    links_kept : (links : LinkTrees) (locals : List typing.Local) (left : Place) (k : Kind) (t : Lists) (zs : LinkTrees × Kind) → links_settled d locals left k t links ≡ Ok zs → calls_in_links zs.0 ≡ calls_in_links links
    links_kept no_links locals left k t zs h = subst (λ (q : LinkTrees × Kind). calls_in_links q.0 ≡ []) (same_ok (no_links, k) zs h) refl
    links_kept (more_links o p x links) locals left k t zs h = elim (if_ok (is_connective o) _ _ zs h) [
      | inl c ↦
          let a = bind_ok (as_formula left k) _ zs c.1 in
          let b = bind_ok (formula_from x (settled d locals [] x)) _ zs a.2 in
          let r = bind_ok (links_settled d locals left sorts.formula [] links) _ zs b.2 in
          subst (λ (q : LinkTrees × Kind). calls_in_links q.0 ≡ calls_in x ++ calls_in_links links) (same_ok (more_links o p b.0 r.0.0, r.0.1) zs r.2)
          (ap₂ (λ cs es. cs ++ es) (formula_kept (calls_in x) x b.0 (settled d locals [] x) (kept x locals []) b.1) (links_kept links locals left sorts.formula [] r.0 r.1))
      | inr c ↦
          let m = bind_ok (as_relation left k) _ zs c.1 in
          let a = bind_ok (settled d locals (tops_behind o t) x) _ zs m.2 in
          let n = bind_ok (as_relation (first_place x) a.0.kind) _ zs a.2 in
          let j = bind_ok (operator_arity o p left (first_place x) m.0 n.0) _ zs n.2 in
          let r = bind_ok (links_settled d locals left (sorts.relation j.0) _ links) _ zs j.2 in
          subst (λ (q : LinkTrees × Kind). calls_in_links q.0 ≡ calls_in x ++ calls_in_links links) (same_ok (more_links o p a.0.tree r.0.0, r.0.1) zs r.2)
          (ap₂ (λ cs es. cs ++ es) (kept x locals (tops_behind o t) a.0 a.1) (links_kept links locals left (sorts.relation j.0) _ r.0 r.1))
    ]

    steps_kept : (steps : StepTrees) (locals : List typing.Local) (left : Place) (k : Kind) (t : Lists) (zs : StepTrees × Kind) → steps_settled d locals left k t steps ≡ Ok zs → calls_in_steps zs.0 ≡ calls_in_steps steps
    steps_kept no_steps locals left k t zs h = subst (λ (q : StepTrees × Kind). calls_in_steps q.0 ≡ []) (same_ok (no_steps, k) zs h) refl
    steps_kept (join_first p x steps) locals left k t zs h =
        let m = bind_ok (as_relation left k) _ zs h in
        let a = bind_ok (settled d locals (ends_of t) x) _ zs m.2 in
        let n = bind_ok (as_relation (first_place x) a.0.kind) _ zs a.2 in
        let j = bind_ok (joined_arity p m.0 n.0) _ zs n.2 in
        let r = bind_ok (steps_settled d locals left (sorts.relation j.0) _ steps) _ zs j.2 in
        subst (λ (q : StepTrees × Kind). calls_in_steps q.0 ≡ calls_in x ++ calls_in_steps steps) (same_ok (join_first p a.0.tree r.0.0, r.0.1) zs r.2)
        (ap₂ (λ cs es. cs ++ es) (kept x locals (ends_of t) a.0 a.1) (steps_kept steps locals left (sorts.relation j.0) _ r.0 r.1))
    steps_kept (brackets_first p xs steps) locals left k t zs h =
        let m = bind_ok (as_relation left k) _ zs h in
        let a = bind_ok (arguments_settled d locals xs) _ zs m.2 in
        let j = bind_ok (brackets_arity p m.0 (map (λ n. n.0) a.0.arities)) _ zs a.2 in
        let r = bind_ok (steps_settled d locals left (sorts.relation j.0) _ steps) _ zs j.2 in
        subst (λ (q : StepTrees × Kind). calls_in_steps q.0 ≡ calls_in_all xs ++ calls_in_steps steps) (same_ok (brackets_first p a.0.trees r.0.0, r.0.1) zs r.2)
        (ap₂ (λ cs es. cs ++ es) (arguments_kept xs locals a.0 a.1) (steps_kept steps locals left (sorts.relation j.0) _ r.0 r.1))

    pub domains_kept : (b : Bool) (ds : DomainTrees) (locals : List typing.Local) (zs : DomainTrees × List typing.Local) → domains_settled b d locals ds ≡ Ok zs → calls_in_domains zs.0 ≡ calls_in_domains ds
    domains_kept b no_domains locals zs h = subst (λ (q : DomainTrees × List typing.Local). calls_in_domains q.0 ≡ []) (same_ok (no_domains, locals) zs h) refl
    domains_kept b (more_domains disjoint n mark x ds) locals zs h =
        let a = bind_ok (settled d locals [] x) _ zs h in
        let m = bind_ok (as_relation (first_place x) a.0.kind) _ zs a.2 in
        let c = bind_ok (unless (if b then m.0 == 1 else true) (fault.NotUnary (first_place x))) _ zs m.2 in
        let l : typing.Local = record { arity = m.0; type = type_in d locals a.0.tree } in
        let r = bind_ok (domains_settled b d (typing.onto n l locals) ds) _ zs c.2 in
        subst (λ (q : DomainTrees × List typing.Local). calls_in_domains q.0 ≡ calls_in x ++ calls_in_domains ds) (same_ok (more_domains disjoint n mark a.0.tree r.0.0, r.0.1) zs r.2)
        (ap₂ (λ cs es. cs ++ es) (kept x locals [] a.0 a.1) (domains_kept b ds (typing.onto n l locals) r.0 r.1))

    values_kept : (xs : PhraseTrees) (locals : List typing.Local) (zs : PhraseTrees × List typing.Local) → values_settled d locals xs ≡ Ok zs → calls_in_all zs.0 ≡ calls_in_all xs
    values_kept no_phrases locals zs h = subst (λ (q : PhraseTrees × List typing.Local). calls_in_all q.0 ≡ []) (same_ok (no_phrases, locals) zs h) refl
    values_kept (more_phrases x xs) locals zs h =
        let a = bind_ok (settled d locals [] x) _ zs h in
        let m = bind_ok (as_relation (first_place x) a.0.kind) _ zs a.2 in
        let l : typing.Local = record { arity = m.0; type = type_in d locals a.0.tree } in
        let r = bind_ok (values_settled d (l ∷ locals) xs) _ zs m.2 in
        subst (λ (q : PhraseTrees × List typing.Local). calls_in_all q.0 ≡ calls_in x ++ calls_in_all xs) (same_ok (more_phrases a.0.tree r.0.0, r.0.1) zs r.2)
        (ap₂ (λ cs es. cs ++ es) (kept x locals [] a.0 a.1) (values_kept xs (l ∷ locals) r.0 r.1))
