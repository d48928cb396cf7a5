-- What two declarations make of a part is the same, where they say the same of each predicate and function that it calls.
use Rattle.std.proofs.Common.{◌≡◌, ℕ, ◌==◌, nat_lt, List, [], ◌∷◌, map, length, reverse, slice_get, refl, ap, subst, Bool, true, false, if◌then◌else◌, Option, Some, None, Result, Ok, Err, IfOk, option_map}
use Rattle.alloy_lex.specs.declared.token.Place.{Place}
use Rattle.named_model.specs.declared.named.Signature.{Signature}
use Rattle.named_model.specs.declared.phrase.Referent.{Referent}
use Rattle.named_model.specs.declared.phrase.Referent.TheVariants as referent
use Rattle.named_model.specs.Phrase.{PhraseTree, refers, called, numbered, constant, bracketed, block, prefixed, chain, path, compared, implies, implies_else, quantified, bound_by_let, PhraseTrees, no_phrases, more_phrases, LinkTrees, no_links, more_links, StepTrees, no_steps, join_first, brackets_first, DomainTrees, no_domains, more_domains}
use Rattle.named_model.specs.Model.{MeaningTree, formulas, value, CalleeTree}
use Rattle.named_model.specs.Signatures.{tops}
use Rattle.model_types.specs.declared.fault.TypeFault.{TypeFault}
use Rattle.model_types.specs.declared.fault.TypeFault.TheVariants as fault
use Rattle.model_types.specs.Bounding.{Lists, type_of, types_of, operator_type, joins, brackets_type}
use Rattle.model_types.specs.Sorts.{Kind, relation, formula, number, size, unless, first_place, as_relation, as_formula, constant_arity, joined_arity, operator_arity, brackets_arity, is_connective, prefix_kind, may_stand_left, fits_left}
use Rattle.model_types.specs.Typing.{Local, Field, Header, Declared, call_type, types_in, local_types, type_in, ends_of, tops_behind, chosen, is_shared, Settled, is_field, referent_settled, Arguments, call_kind, onto, formula_from, settled, formulas_settled, arguments_settled, links_settled, steps_settled, tops_in, first_ends, domains_settled, values_settled}
use Rattle.model_types.specs.Models.{local_of, or_unknown, Domain, domains_known, parameters_known, kind_known, type_known, header_with, header_of}
use Rattle.alloy_types.specs.Headers.Called.{EachCalled, EachCalledInAll, EachCalledInLinks, EachCalledInSteps, EachCalledInDomains, EachCalledInMeaning, EachCalledBy}
use Rattle.alloy_types.proofs.Headers.TypesAlike.{type_alike, types_alike}
use Rattle.alloy_types.proofs.Headers.SameAnswers.{Alike, Any, alike_ok, alike_any, alike_path, alike_then, alike_if}

module _ (signatures : List Signature) (fields : List Field) (f g : ℕ → Option Header) (P : ℕ → Type 0) (agree : (n : ℕ) → P n → f n ≡ g n) where
  abbrev pub one : Declared
  one = record { signatures = signatures; fields = fields; callee = f }

  abbrev pub other : Declared
  other = record { signatures = signatures; fields = fields; callee = g }

  pub type_agrees : (ls : List Lists) (x : PhraseTree) → EachCalled P x → type_of (types_in one) ls x ≡ type_of (types_in other) ls x
  type_agrees = type_alike signatures (map (λ (d : Field). d.type) fields) (λ n. call_type (f n)) (λ n. call_type (g n)) P (λ n h. ap call_type (agree n h))

  types_agree : (ls : List Lists) (xs : PhraseTrees) → EachCalledInAll P xs → types_of (types_in one) ls xs ≡ types_of (types_in other) ls xs
  types_agree = types_alike signatures (map (λ (d : Field). d.type) fields) (λ n. call_type (f n)) (λ n. call_type (g n)) P (λ n h. ap call_type (agree n h))

  -- ---- settled parts

  abbrev pub Part : Settled → Type 0
  Part y = EachCalled P y.tree

  abbrev Given : Arguments → Type 0
  Given ys = EachCalledInAll P ys.trees

  abbrev Links : LinkTrees × Kind → Type 0
  Links zs = EachCalledInLinks P zs.0

  abbrev Steps : StepTrees × Kind → Type 0
  Steps zs = EachCalledInSteps P zs.0

  abbrev Domains : DomainTrees × List Local → Type 0
  Domains zs = EachCalledInDomains P zs.0

  abbrev Values : PhraseTrees × List Local → Type 0
  Values zs = EachCalledInAll P zs.0

  field_agrees : (p : Place) (n : ℕ) → Alike Part (is_field one p n) (is_field other p n)
  field_agrees p n = record { same = refl; holds = go (slice_get fields n) refl }
    where
      go : (o : Option Field) → slice_get fields n ≡ o → IfOk (is_field one p n) Part
      go None e = rw e tt
      go (Some x) e = rw e tt

  local_agrees : (locals : List Local) (p : Place) (i : ℕ) (tops : List ℕ) → Alike Part (referent_settled one locals tops p (referent.Local i)) (referent_settled other locals tops p (referent.Local i))
  local_agrees locals p i tops = record { same = refl; holds = go (slice_get locals i) refl }
    where
      go : (o : Option Local) → slice_get locals i ≡ o → IfOk (referent_settled one locals tops p (referent.Local i)) Part
      go None e = rw (e, referent_settled) tt
      go (Some x) e = rw (e, referent_settled) tt

  referent_agrees : (locals : List Local) (tops : List ℕ) (p : Place) (r : Referent) → Alike Part (referent_settled one locals tops p r) (referent_settled other locals tops p r)
  referent_agrees locals tops p (referent.Signature s) =
      let test = unless (nat_lt s (length signatures)) (fault.Sort p) in
      let is : Settled = record { tree = refers p (referent.Signature s); kind = relation 1 } in
      alike_then {X = Unit {0}} Any Part test test (λ u. Ok is) (λ u. Ok is) (alike_any test) (λ u k. alike_ok Part is tt)
  referent_agrees locals tops p (referent.Field n) = field_agrees p n
  referent_agrees locals tops p (referent.Shared n) = alike_then Any Part _ _ _ _ (alike_any (chosen one tops p n)) (λ m u. field_agrees p m)
  referent_agrees locals tops p (referent.Local i) = local_agrees locals p i tops

  formula_agrees : (x : PhraseTree) (a b : Result Settled TypeFault) → Alike Part a b → Alike (EachCalled P) (formula_from x a) (formula_from x b)
  formula_agrees x a b h =
      alike_then Part (EachCalled P) a b _ _ h (λ y hy. alike_then Any (EachCalled P) _ _ _ _ (alike_any (as_formula (first_place x) y.kind)) (λ u k. alike_ok (EachCalled P) y.tree hy))

  mutual
    pub settled_agrees : (locals : List Local) (tops : List ℕ) (x : PhraseTree) → EachCalled P x → Alike Part (settled one locals tops x) (settled other locals tops x)
    settled_agrees locals tops (refers p r) h = referent_agrees locals tops p r
    settled_agrees locals tops (called p n xs) h =
        alike_then Given Part _ _ _ _ (arguments_agree locals xs h.1)
        (λ ys hys. alike_then Any Part _ _ _ _ (alike_path (call_kind p (f n) ys.arities) (call_kind p (g n) ys.arities) (ap (λ (o : Option Header). call_kind p o ys.arities) (agree n h.0)))
        (λ k u. alike_ok Part (record { tree = called p n ys.trees; kind = k }) (h.0, hys)))
    settled_agrees locals tops (numbered n) h = alike_ok Part (record { tree = numbered n; kind = number }) tt
    settled_agrees locals tops (constant c p) h = alike_ok Part (record { tree = constant c p; kind = relation (constant_arity c) }) tt
    settled_agrees locals tops (bracketed p x) h =
        alike_then Part Part _ _ _ _ (settled_agrees locals tops x h) (λ y hy. alike_ok Part (record { tree = bracketed p y.tree; kind = y.kind }) hy)
    settled_agrees locals tops (block p xs) h =
        alike_then (EachCalledInAll P) Part _ _ _ _ (formulas_agree locals xs h) (λ ys hys. alike_ok Part (record { tree = block p ys; kind = formula }) hys)
    settled_agrees locals tops (prefixed k p x) h =
        alike_then Part Part _ _ _ _ (settled_agrees locals [] x h)
        (λ y hy. alike_then Any Part _ _ _ _ (alike_any (prefix_kind k p (first_place x) y.kind)) (λ r u. alike_ok Part (record { tree = prefixed k p y.tree; kind = r }) hy))
    settled_agrees locals tops (chain x links) h =
        alike_then Part Part _ _ _ _ (settled_agrees locals [] x h.0)
        (λ y hy. alike_then Links Part _ _ _ _ (links_settle locals (first_place x) y.kind _ _ (type_agrees (local_types locals) y.tree hy) links h.1)
        (λ zs hzs. alike_ok Part (record { tree = chain y.tree zs.0; kind = zs.1 }) (hy, hzs)))
    settled_agrees locals tops (path x steps) h =
        alike_then Any Part _ _ _ _ (asked (is_shared x) locals steps h.1)
        (λ inner u. alike_then Part Part _ _ _ _ (settled_agrees locals inner x h.0)
        (λ y hy. alike_then Steps Part _ _ _ _ (steps_settle locals (first_place x) y.kind _ _ (type_agrees (local_types locals) y.tree hy) steps h.1)
        (λ zs hzs. alike_ok Part (record { tree = path y.tree zs.0; kind = zs.1 }) (hy, hzs))))
    settled_agrees locals tops (compared a c b) h =
        alike_then Part Part _ _ _ _ (settled_agrees locals [] a h.0)
        (λ y hy. alike_then Any Part _ _ _ _ (alike_any (may_stand_left c.comparison (first_place a) y.kind))
        (λ u k. alike_then Part Part _ _ _ _ (settled_agrees locals [] b h.1)
        (λ z hz. alike_then Any Part _ _ _ _ (alike_any (fits_left c.place (first_place b) y.kind z.kind))
        (λ v l. alike_ok Part (record { tree = compared y.tree c z.tree; kind = formula }) (hy, hz)))))
    settled_agrees locals tops (implies a p b) h =
        alike_then (EachCalled P) Part _ _ _ _ (formula_agrees a _ _ (settled_agrees locals [] a h.0))
        (λ y hy. alike_then (EachCalled P) Part _ _ _ _ (formula_agrees b _ _ (settled_agrees locals [] b h.1))
        (λ z hz. alike_ok Part (record { tree = implies y p z; kind = formula }) (hy, hz)))
    settled_agrees locals tops (implies_else a p b c) h =
        alike_then (EachCalled P) Part _ _ _ _ (formula_agrees a _ _ (settled_agrees locals [] a h.0))
        (λ x hx. alike_then (EachCalled P) Part _ _ _ _ (formula_agrees b _ _ (settled_agrees locals [] b h.1))
        (λ y hy. alike_then (EachCalled P) Part _ _ _ _ (formula_agrees c _ _ (settled_agrees locals [] c h.2))
        (λ z hz. alike_ok Part (record { tree = implies_else x p y z; kind = formula }) (hx, hy, hz))))
    settled_agrees locals tops (quantified q p ds x) h =
        alike_then Domains Part _ _ _ _ (domains_agree true locals ds h.0)
        (λ es hes. alike_then (EachCalled P) Part _ _ _ _ (formula_agrees x _ _ (settled_agrees es.1 [] x h.1))
        (λ y hy. alike_ok Part (record { tree = quantified q p es.0 y; kind = formula }) (hes, hy)))
    settled_agrees locals tops (bound_by_let p xs x) h =
        alike_then Values Part _ _ _ _ (values_agree locals xs h.0)
        (λ ys hys. alike_then (EachCalled P) Part _ _ _ _ (formula_agrees x _ _ (settled_agrees ys.1 [] x h.1))
        (λ z hz. alike_ok Part (record { tree = bound_by_let p ys.0 z; kind = formula }) (hys, hz)))

    pub formulas_agree : (locals : List Local) (xs : PhraseTrees) → EachCalledInAll P xs → Alike (EachCalledInAll P) (formulas_settled one locals xs) (formulas_settled other locals xs)
    formulas_agree locals no_phrases h = alike_ok (EachCalledInAll P) no_phrases tt
    formulas_agree locals (more_phrases x xs) h =
        alike_then (EachCalled P) (EachCalledInAll P) _ _ _ _ (formula_agrees x _ _ (settled_agrees locals [] x h.0))
        (λ y hy. alike_then (EachCalledInAll P) (EachCalledInAll P) _ _ _ _ (formulas_agree locals xs h.1)
        (λ ys hys. alike_ok (EachCalledInAll P) (more_phrases y ys) (hy, hys)))

    arguments_agree : (locals : List Local) (xs : PhraseTrees) → EachCalledInAll P xs → Alike Given (arguments_settled one locals xs) (arguments_settled other locals xs)
    arguments_agree locals no_phrases h = alike_ok Given (record { trees = no_phrases; arities = [] }) tt
    arguments_agree locals (more_phrases x xs) h =
        alike_then Part Given _ _ _ _ (settled_agrees locals [] x h.0)
        (λ y hy. alike_then Any Given _ _ _ _ (alike_any (as_relation (first_place x) y.kind))
        (λ n u. alike_then Given Given _ _ _ _ (arguments_agree locals xs h.1)
        (λ ys hys. alike_ok Given (record { trees = more_phrases y.tree ys.trees; arities = (n, first_place x) ∷ ys.arities }) (hy, hys))))

    links_settle : (locals : List Local) (left : Place) (k : Kind) (a b : Lists) → a ≡ b → (links : LinkTrees) → EachCalledInLinks P links
        → Alike Links (links_settled one locals left k a links) (links_settled other locals left k b links)
    links_settle locals left k a b e no_links h = alike_ok Links (no_links, k) tt
    links_settle locals left k a b e (more_links o p x links) h =
        alike_if Links (is_connective o) _ _ _ _
        (alike_then Any Links _ _ _ _ (alike_any (as_formula left k))
        (λ u v. alike_then (EachCalled P) Links _ _ _ _ (formula_agrees x _ _ (settled_agrees locals [] x h.0))
        (λ y hy. alike_then Links Links _ _ _ _ (links_settle locals left formula [] [] refl links h.1)
        (λ zs hzs. alike_ok Links (more_links o p y zs.0, zs.1) (hy, hzs)))))
        (alike_then Any Links _ _ _ _ (alike_any (as_relation left k))
        (λ m v. alike_then Part Links _ _ _ _ (subst (λ (c : Lists). Alike Part (settled one locals (tops_behind o a) x) (settled other locals (tops_behind o c) x)) e (settled_agrees locals (tops_behind o a) x h.0))
        (λ y hy. alike_then Any Links _ _ _ _ (alike_any (as_relation (first_place x) y.kind))
        (λ n w. alike_then Any Links _ _ _ _ (alike_any (operator_arity o p left (first_place x) m n))
        (λ r z. alike_then Links Links _ _ _ _ (links_settle locals left (relation r) (operator_type o a (type_in one locals y.tree)) (operator_type o b (type_in other locals y.tree)) (λ i. operator_type o (e i) (type_agrees (local_types locals) y.tree hy i)) links h.1)
        (λ zs hzs. alike_ok Links (more_links o p y.tree zs.0, zs.1) (hy, hzs)))))))

    steps_settle : (locals : List Local) (left : Place) (k : Kind) (a b : Lists) → a ≡ b → (steps : StepTrees) → EachCalledInSteps P steps
        → Alike Steps (steps_settled one locals left k a steps) (steps_settled other locals left k b steps)
    steps_settle locals left k a b e no_steps h = alike_ok Steps (no_steps, k) tt
    steps_settle locals left k a b e (join_first p x steps) h =
        alike_then Any Steps _ _ _ _ (alike_any (as_relation left k))
        (λ m v. alike_then Part Steps _ _ _ _ (subst (λ (c : Lists). Alike Part (settled one locals (ends_of a) x) (settled other locals (ends_of c) x)) e (settled_agrees locals (ends_of a) x h.0))
        (λ y hy. alike_then Any Steps _ _ _ _ (alike_any (as_relation (first_place x) y.kind))
        (λ n w. alike_then Any Steps _ _ _ _ (alike_any (joined_arity p m n))
        (λ r w2. alike_then Steps Steps _ _ _ _ (steps_settle locals left (relation r) _ _ (λ i. joins (e i) (type_agrees (local_types locals) y.tree hy i)) steps h.1)
        (λ zs hzs. alike_ok Steps (join_first p y.tree zs.0, zs.1) (hy, hzs))))))
    steps_settle locals left k a b e (brackets_first p xs steps) h =
        alike_then Any Steps _ _ _ _ (alike_any (as_relation left k))
        (λ m v. alike_then Given Steps _ _ _ _ (arguments_agree locals xs h.0)
        (λ ys hys. alike_then Any Steps _ _ _ _ (alike_any (brackets_arity p m (map (λ (n : ℕ × Place). n.0) ys.arities)))
        (λ r w. alike_then Steps Steps _ _ _ _ (steps_settle locals left (relation r) _ _ (λ i. brackets_type (e i) (types_agree (local_types locals) ys.trees hys i)) steps h.1)
        (λ zs hzs. alike_ok Steps (brackets_first p ys.trees zs.0, zs.1) (hys, hzs)))))

    asked : (b : Bool) (locals : List Local) (steps : StepTrees) → EachCalledInSteps P steps → Alike {X = List ℕ} {F = TypeFault} Any (if b then tops_in one locals steps else Ok []) (if b then tops_in other locals steps else Ok [])
    asked true locals no_steps h = alike_any _
    asked true locals (join_first p x steps) h = alike_any _
    asked true locals (brackets_first p xs steps) h = first_agrees locals xs h.0
    asked false locals steps h = alike_any _

    first_agrees : (locals : List Local) (xs : PhraseTrees) → EachCalledInAll P xs → Alike {X = List ℕ} {F = TypeFault} Any (first_ends one locals xs) (first_ends other locals xs)
    first_agrees locals no_phrases h = alike_any _
    first_agrees locals (more_phrases x xs) h =
        alike_then Part Any _ _ _ _ (settled_agrees locals [] x h.0) (λ y hy. alike_path (Ok (ends_of (type_in one locals y.tree))) (Ok (ends_of (type_in other locals y.tree))) (ap (λ (a : Lists). Ok (ends_of a)) (type_agrees (local_types locals) y.tree hy)))

    pub domains_agree : (single : Bool) (locals : List Local) (ds : DomainTrees) → EachCalledInDomains P ds → Alike Domains (domains_settled single one locals ds) (domains_settled single other locals ds)
    domains_agree single locals no_domains h = alike_ok Domains (no_domains, locals) tt
    domains_agree single locals (more_domains disjoint n mark x ds) h =
        alike_then Part Domains _ _ _ _ (settled_agrees locals [] x h.0)
        (λ y hy. alike_then Any Domains _ _ _ _ (alike_any (as_relation (first_place x) y.kind))
        (λ m u. alike_then Any Domains _ _ _ _ (alike_any (unless (if single then m == 1 else true) (fault.NotUnary (first_place x))))
        (λ v w. alike_then Domains Domains _ _ _ _
        (subst (λ (a : Lists). Alike Domains (domains_settled single one (onto n (record { arity = m; type = type_in one locals y.tree }) locals) ds) (domains_settled single other (onto n (record { arity = m; type = a }) locals) ds))
        (type_agrees (local_types locals) y.tree hy) (domains_agree single (onto n (record { arity = m; type = type_in one locals y.tree }) locals) ds h.1))
        (λ zs hzs. alike_ok Domains (more_domains disjoint n mark y.tree zs.0, zs.1) (hy, hzs)))))

    values_agree : (locals : List Local) (xs : PhraseTrees) → EachCalledInAll P xs → Alike Values (values_settled one locals xs) (values_settled other locals xs)
    values_agree locals no_phrases h = alike_ok Values (no_phrases, locals) tt
    values_agree locals (more_phrases x xs) h =
        alike_then Part Values _ _ _ _ (settled_agrees locals [] x h.0)
        (λ y hy. alike_then Any Values _ _ _ _ (alike_any (as_relation (first_place x) y.kind))
        (λ n u. alike_then Values Values _ _ _ _
        (subst (λ (a : Lists). Alike Values (values_settled one (record { arity = n; type = type_in one locals y.tree } ∷ locals) xs) (values_settled other (record { arity = n; type = a } ∷ locals) xs))
        (type_agrees (local_types locals) y.tree hy) (values_agree (record { arity = n; type = type_in one locals y.tree } ∷ locals) xs h.1))
        (λ zs hzs. alike_ok Values (more_phrases y.tree zs.0, zs.1) (hy, hzs))))

  -- ---- headers

  relation_agrees : (locals : List Local) (x t : PhraseTree) (k : Kind) → type_in one locals t ≡ type_in other locals t
      → local_of one locals x (Ok (record { tree = t; kind = k })) ≡ local_of other locals x (Ok (record { tree = t; kind = k }))
  relation_agrees locals x t (relation n) e = λ i. Some (record { arity = n; type = e i })
  relation_agrees locals x t formula e = refl
  relation_agrees locals x t number e = refl
  relation_agrees locals x t size e = refl

  domain_agrees : (locals : List Local) (x : PhraseTree) (a b : Result Settled TypeFault) → Alike Part a b → local_of one locals x a ≡ local_of other locals x b
  domain_agrees locals x (Ok y) b h =
      subst (λ (c : Result Settled TypeFault). local_of one locals x (Ok y) ≡ local_of other locals x c) h.same (relation_agrees locals x y.tree y.kind (type_agrees (local_types locals) y.tree h.holds))
  domain_agrees locals x (Err e) b h = subst (λ (c : Result Settled TypeFault). local_of one locals x (Err e) ≡ local_of other locals x c) h.same refl

  pub known_agree : (locals : List Local) (ds : DomainTrees) → EachCalledInDomains P ds → domains_known one locals ds ≡ domains_known other locals ds
  known_agree locals no_domains h = refl
  known_agree locals (more_domains disjoint n mark x ds) h =
      let same = domain_agrees locals x (settled one locals [] x) (settled other locals [] x) (settled_agrees locals [] x h.0) in
      subst (λ (l : Option Local).
      domains_known one locals (more_domains disjoint n mark x ds) ≡ record { place = first_place x; count = n; local = l } ∷ domains_known other (onto n (or_unknown l) locals) ds) same
      (ap (λ (es : List Domain). record { place = first_place x; count = n; local = local_of one locals x (settled one locals [] x) } ∷ es)
      (known_agree (onto n (or_unknown (local_of one locals x (settled one locals [] x))) locals) ds h.1))

  called_agrees : (a b : Result Settled TypeFault) → Alike Part a b → (arguments : List Lists) → type_known one a arguments ≡ type_known other b arguments
  called_agrees (Ok y) b h arguments = subst (λ (c : Result Settled TypeFault). type_known one (Ok y) arguments ≡ type_known other c arguments) h.same (type_agrees (reverse arguments) y.tree h.holds)
  called_agrees (Err e) b h arguments = subst (λ (c : Result Settled TypeFault). type_known one (Err e) arguments ≡ type_known other c arguments) h.same refl

  meaning_agrees : (ls : List (Option Local)) (x : MeaningTree) → EachCalledInMeaning P x → header_with one ls x ≡ header_with other ls x
  meaning_agrees ls (formulas xs) h = refl
  meaning_agrees ls (value range body) h = λ i. record {
    parameters = map (option_map (λ (l : Local). l.arity)) ls;
    kind = kind_known ((settled_agrees (reverse (map or_unknown ls)) [] range h.0).same i);
    type = λ arguments. called_agrees (settled one (reverse (map or_unknown ls)) [] body) (settled other (reverse (map or_unknown ls)) [] body) (settled_agrees (reverse (map or_unknown ls)) [] body h.1) arguments i;
  }

  pub header_agrees : (c : CalleeTree) → EachCalledBy P c → header_of one c ≡ header_of other c
  header_agrees c h =
      subst (λ (es : List Domain). header_of one c ≡ header_with other (parameters_known es) c.meaning) (known_agree [] c.parameters h.0)
      (meaning_agrees (parameters_known (domains_known one [] c.parameters)) c.meaning h.1)
