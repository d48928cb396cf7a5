-- Headers say what the bodies of predicates and functions are, where calls go down a rank.
use Rattle.std.specs.Prelude.{option_map}
use Rattle.std.proofs.Common.{◌≡◌, ℕ, zero, suc, ◌<◌, ◌==◌, List, [], ◌∷◌, ◌++◌, map, length, reverse, replicate, Contains, false, Option, Some, None, slice_get, Ok, refl, sym, ◌∙◌, ap, subst, arith, inl, inr}
use mathlib.Core.List.{reverse_aux}
use Rattle.std.proofs.lemmas.List.{reverse-reverse, length-map}
use Rattle.std.proofs.lemmas.Bool.{cases_lt}
use Rattle.std.proofs.lemmas.List.Elements.{All-contains}
use Rattle.rel_formula.proofs.Lists.{some-Contains, some_below}
use Rattle.named_model.specs.Phrase.{DomainTrees, no_domains, more_domains}
use Rattle.named_model.specs.Model.{MeaningTree, formulas, value, CalleeTree, NamedTree}
use Rattle.named_model.specs.Faults.{calls_in_meaning, callees_of}
use Rattle.model_types.specs.declared.fault.TypeFault.TheVariants as fault
use Rattle.model_types.specs.Sorts as sorts
use Rattle.model_types.specs.Sorts.{Kind, unless, first_place, as_relation}
use Rattle.model_types.specs.Typing as typing
use Rattle.model_types.specs.Typing.{Declared, Header, Settled, type_in, settled, formulas_settled, domains_settled}
use Rattle.model_types.specs.Models.{declared_in, settled_in, field_declared, callee_within, header_of, header_with, domains_known, parameters_known, or_unknown, local_of, kind_known, meaning_settled, callee_settled, or_same}
use Rattle.lowering_rules.specs.Calls.{IsRank}
use Rattle.lowering_rules.proofs.Bodies.{IsBodyOf, HasBody, HasBodies}
use Rattle.lowering_rules.specs.Typed.{HasNoFault, HasTypes}
use Rattle.lowering_rules.proofs.Inversion.{bind_ok, same_ok, arity_inv, unless_inv, eq_test}
use Rattle.lowering_rules.proofs.Outlined.{same_some}
use Rattle.lowering_rules.proofs.Arities.{get_map, map_get}
use Rattle.lowering_rules.proofs.SettledCalls.{kept, formulas_kept, domains_kept}
use Rattle.lowering_rules.proofs.StableParts.{declared_with, header_same, headers_agree}
use Rattle.lowering_rules.proofs.Unfolded.{none_past}
use Rattle.lowering_rules.proofs.ProblemFormulas.{settled_is, known}

-- ---- headers

none_within : (m : NamedTree) (n c : ℕ) → slice_get m.callees c ≡ None → callee_within m n c ≡ None
none_within m zero c e = refl
none_within m (suc n) c e = ap (option_map (header_of (declared_with m.signatures (map (field_declared m) m.fields) (callee_within m n)))) e

module _ (m : NamedTree) (rank : ℕ → ℕ) (is : IsRank rank m) where
  -- what is known with calls at most so many deep
  abbrev within : ℕ → Declared
  within n = declared_with m.signatures (map (field_declared m) m.fields) (callee_within m n)

  option_same : (n k : ℕ) (o : Option CalleeTree) → ((c : CalleeTree) → o ≡ Some c → header_of (within n) c ≡ header_of (within k) c) →
      option_map (header_of (within n)) o ≡ option_map (header_of (within k)) o
  option_same n k None h = refl
  option_same n k (Some c) h = ap (λ x. Some x) (h c refl)

  within_same : (n k c : ℕ) → rank c < n → rank c < k → callee_within m n c ≡ callee_within m k c
  within_same zero k c l r = absurd (omega arith)
  within_same (suc n) zero c l r = absurd (omega arith)
  within_same (suc n) (suc k) c l r = option_same n k (slice_get m.callees c) (λ callee e.
      header_same m.signatures (map (field_declared m) m.fields) (callee_within m n) (callee_within m k) callee
      (headers_agree m.signatures (map (field_declared m) m.fields) (callee_within m n) (callee_within m k) (callees_of callee)
      (λ q h. elim (cases_lt q (length m.callees)) [
        | inl here ↦ let low = is.down c q callee e h here in within_same n k q (omega arith) (omega arith)
        | inr past ↦ let none = none_past m.callees q past in none_within m n q none ∙ sym (none_within m k q none)
      ])))

  -- a header is what its predicate or function says
  pub header_is : (c : ℕ) (callee : CalleeTree) → slice_get m.callees c ≡ Some callee → (declared_in m).callee c ≡ Some (header_of (declared_in m) callee)
  header_is c callee e =
      let low = is.below c (some_below m.callees c callee e) in
      within_same (length m.callees) (suc (length m.callees)) c low (omega arith) ∙ ap (option_map (header_of (declared_in m))) e

-- ---- parameters

aux_append : {X : Type 0} (xs ys zs : List X) → reverse_aux (xs ++ ys) zs ≡ reverse_aux ys (reverse_aux xs zs)
aux_append [] ys zs = refl
aux_append (x ∷ xs) ys zs = aux_append xs ys (x ∷ zs)

pub front_replicate : {X : Type 0} (n : ℕ) (x : X) (ys : List X) → replicate n x ++ x ∷ ys ≡ x ∷ (replicate n x ++ ys)
front_replicate zero x ys = refl
front_replicate (suc n) x ys = ap (λ zs. x ∷ zs) (front_replicate n x ys)

aux_replicate : {X : Type 0} (n : ℕ) (x : X) (ys : List X) → reverse_aux (replicate n x) ys ≡ replicate n x ++ ys
aux_replicate zero x ys = refl
aux_replicate (suc n) x ys = aux_replicate n x (x ∷ ys) ∙ front_replicate n x ys

some_replicate : {X : Type 0} (n : ℕ) (x : X) (xs : List X) → replicate n (Some x) ++ map (λ y. Some y) xs ≡ map (λ y. Some y) (replicate n x ++ xs)
some_replicate zero x xs = refl
some_replicate (suc n) x xs = ap (λ ys. Some x ∷ ys) (some_replicate n x xs)

pub all_known : (ps : List typing.Local) → map or_unknown (map (λ l. Some l) ps) ≡ ps
all_known [] = refl
all_known (p ∷ ps) = ap (λ ys. p ∷ ys) (all_known ps)

arities_known : (ps : List typing.Local) → map (λ (o : Option typing.Local). option_map (λ (l : typing.Local). l.arity) o) (map (λ l. Some l) ps) ≡ map (λ (l : typing.Local). Some l.arity) ps
arities_known [] = refl
arities_known (p ∷ ps) = ap (λ ys. Some p.arity ∷ ys) (arities_known ps)

-- the parameters of domains that are settled, the first one first
pub record IsKnown (d : Declared) (ds : DomainTrees) (locals zs : List typing.Local) : Type 0 where
  pub parameters : List typing.Local
  pub are : parameters_known (domains_known d locals ds) ≡ map (λ l. Some l) parameters
  pub behind : zs ≡ reverse_aux parameters locals

module _ (d : Declared) where
  pub is_known : (ds : DomainTrees) (locals : List typing.Local) (zs : DomainTrees × List typing.Local) → domains_settled false d locals ds ≡ Ok zs → IsKnown d ds locals zs.1
  is_known no_domains locals zs h = subst (λ (q : DomainTrees × List typing.Local). IsKnown d no_domains locals q.1) (same_ok (no_domains, locals) zs h) (record { parameters = []; are = refl; behind = refl })
  is_known (more_domains disjoint n mark x ds) locals zs h =
      let a = bind_ok (settled d locals [] x) _ zs h in
      let b = bind_ok (as_relation (first_place x) a.0.kind) _ zs a.2 in
      let l : typing.Local = record { arity = b.0; type = type_in d locals a.0.tree } in
      let r = bind_ok (domains_settled false d (typing.onto n l locals) ds) _ zs b.2 in
      let rest = is_known ds (typing.onto n l locals) r.0 r.1 in
      let D : Option typing.Local → List (Option typing.Local) = λ o. replicate n o ++ parameters_known (domains_known d (typing.onto n (or_unknown o) locals) ds) in
      let at : D (local_of d locals x (settled d locals [] x)) ≡ D (Some l) = ap (λ q. D (local_of d locals x q)) a.1 ∙ ap D (known d locals x a.0 b.0 b.1) in
      subst (λ (q : DomainTrees × List typing.Local). IsKnown d (more_domains disjoint n mark x ds) locals q.1) (same_ok (more_domains disjoint n mark a.0.tree r.0.0, r.0.1) zs r.2) (record {
        parameters = replicate n l ++ rest.parameters;
        are = at ∙ ap (λ ys. replicate n (Some l) ++ ys) rest.are ∙ some_replicate n l rest.parameters;
        behind = rest.behind ∙ ap (reverse_aux rest.parameters) (sym (aux_replicate n l locals)) ∙ sym (aux_append (replicate n l) rest.parameters locals);
      })

  header_parameters : (ls : List (Option typing.Local)) (w : MeaningTree) → (header_with d ls w).parameters ≡ map (λ (o : Option typing.Local). option_map (λ (l : typing.Local). l.arity) o) ls
  header_parameters ls (formulas xs) = refl
  header_parameters ls (value range body) = refl

  body_of : (w v : MeaningTree) (ls : List (Option typing.Local)) (locals : List typing.Local) → reverse (map or_unknown ls) ≡ locals → meaning_settled d locals w ≡ Ok v →
      IsBodyOf d locals v (header_with d ls w).kind
  body_of (formulas xs) v ls locals same h =
      let a = bind_ok (formulas_settled d locals xs) _ v h in
      subst (λ z. IsBodyOf d locals z sorts.formula) (same_ok (formulas a.0) v a.2) (xs, a.1, refl)
  body_of (value range body) v ls locals same h =
      let r = bind_ok (settled d locals [] range) _ v h in
      let a = bind_ok (as_relation (first_place range) r.0.kind) _ v r.2 in
      let b = bind_ok (settled d locals [] body) _ v a.2 in
      let n = bind_ok (as_relation (first_place body) b.0.kind) _ v b.2 in
      let s = bind_ok (unless (a.0 == n.0) (fault.Arity (first_place body))) _ v n.2 in
      let one = eq_test a.0 n.0 (unless_inv (a.0 == n.0) (fault.Arity (first_place body)) s.0 s.1) in
      let range_kind : r.0.kind ≡ sorts.relation a.0 = arity_inv (first_place range) r.0.kind a.0 a.1 in
      let to : Kind → Kind = λ k. elim k as (λ k. Kind) [ sorts.relation n ↦ sorts.relation n | other ↦ sorts.relation 1 ] in
      let header : kind_known (settled d (reverse (map or_unknown ls)) [] range) ≡ sorts.relation a.0 =
      ap (λ q. kind_known (settled d q [] range)) same ∙ ap kind_known r.1 ∙ ap to range_kind in
      let kind : b.0.kind ≡ kind_known (settled d (reverse (map or_unknown ls)) [] range) =
      arity_inv (first_place body) b.0.kind n.0 n.1 ∙ ap sorts.relation (sym one) ∙ sym header in
      subst (λ z. IsBodyOf d locals z (kind_known (settled d (reverse (map or_unknown ls)) [] range))) (same_ok (value r.0.tree b.0.tree) v s.2) (body, b.0, b.1, refl, kind)

-- ---- bodies

module _ (m : NamedTree) (rank : ℕ → ℕ) (is : IsRank rank m) (types : HasTypes m) where
  body_at : (c : ℕ) (h : Header) (o : Option CalleeTree) → slice_get m.callees c ≡ o → (declared_in m).callee c ≡ Some h → HasBody (declared_in m) (settled_in m) c h
  body_at c h None e at = absurd (let none : None ≡ Some h = sym (none_within m (length m.callees) c e) ∙ at in cc)
  body_at c h (Some callee) e at =
      let d = declared_in m in
      let header : h ≡ header_of d callee = same_some h (header_of d callee) (sym at ∙ header_is m rank is c callee e) in
      let ok = All-contains (λ (x : CalleeTree). HasNoFault (callee_settled d x)) m.callees callee types.callees (some-Contains m.callees c callee e) in
      let es = bind_ok (domains_settled false d [] callee.parameters) _ ok.0 ok.1 in
      let x = bind_ok (meaning_settled d es.0.1 callee.meaning) _ ok.0 es.2 in
      let y : CalleeTree = record callee { parameters = es.0.0; meaning = x.0 } in
      let same : or_same (callee_settled d) callee ≡ y = settled_is (callee_settled d) callee ok.0 ok.1 ∙ sym (same_ok y ok.0 x.2) in
      let k = is_known d callee.parameters [] es.0 es.1 in
      let ls = parameters_known (domains_known d [] callee.parameters) in
      let turned : reverse es.0.1 ≡ k.parameters = ap reverse k.behind ∙ reverse-reverse k.parameters in
      let locals : reverse (map or_unknown ls) ≡ es.0.1 = ap (λ q. reverse (map or_unknown q)) k.are ∙ ap reverse (all_known k.parameters) ∙ sym k.behind in
      record {
        callee = y;
        there = get_map (or_same (callee_settled d)) m.callees c callee e ∙ ap (λ z. Some z) same;
        locals = es.0.1;
        parameters = ap (λ (z : Header). z.parameters) header ∙ header_parameters d ls callee.meaning
            ∙ ap (map (λ (o : Option typing.Local). option_map (λ (l : typing.Local). l.arity) o)) k.are ∙ arities_known k.parameters ∙ ap (map (λ (l : typing.Local). Some l.arity)) (sym turned);
        body = subst (IsBodyOf d es.0.1 x.0) (sym (ap (λ (z : Header). z.kind) header)) (body_of d callee.meaning x.0 ls es.0.1 locals x.1);
      }

  pub has_bodies : HasBodies (declared_in m) (settled_in m)
  has_bodies c h at = body_at c h (slice_get m.callees c) refl at

  meaning_kept : (locals : List typing.Local) (w v : MeaningTree) → meaning_settled (declared_in m) locals w ≡ Ok v → calls_in_meaning v ≡ calls_in_meaning w
  meaning_kept locals (formulas xs) v h =
      let a = bind_ok (formulas_settled (declared_in m) locals xs) _ v h in
      subst (λ z. calls_in_meaning z ≡ calls_in_meaning (formulas xs)) (same_ok (formulas a.0) v a.2) (formulas_kept (declared_in m) xs locals a.0 a.1)
  meaning_kept locals (value range body) v h =
      let r = bind_ok (settled (declared_in m) locals [] range) _ v h in
      let a = bind_ok (as_relation (first_place range) r.0.kind) _ v r.2 in
      let b = bind_ok (settled (declared_in m) locals [] body) _ v a.2 in
      let n = bind_ok (as_relation (first_place body) b.0.kind) _ v b.2 in
      let s = bind_ok (unless (a.0 == n.0) (fault.Arity (first_place body))) _ v n.2 in
      let one = kept (declared_in m) range locals [] r.0 r.1 in
      let two = kept (declared_in m) body locals [] b.0 b.1 in
      subst (λ z. calls_in_meaning z ≡ calls_in_meaning (value range body)) (same_ok (value r.0.tree b.0.tree) v s.2) (λ i. one i ++ two i)

  callee_kept : (c y : CalleeTree) → callee_settled (declared_in m) c ≡ Ok y → callees_of y ≡ callees_of c
  callee_kept c y h =
      let es = bind_ok (domains_settled false (declared_in m) [] c.parameters) _ y h in
      let x = bind_ok (meaning_settled (declared_in m) es.0.1 c.meaning) _ y es.2 in
      let one = domains_kept (declared_in m) false c.parameters [] es.0 es.1 in
      let two = meaning_kept es.0.1 c.meaning x.0 x.1 in
      subst (λ z. callees_of z ≡ callees_of c) (same_ok (record c { parameters = es.0.0; meaning = x.0 }) y x.2) (λ i. one i ++ two i)

  -- ranks of a model are ranks of the model with its names settled
  pub settled_rank : IsRank rank (settled_in m)
  settled_rank = record {
    down = λ c q z e h l.
        let g = map_get (or_same (callee_settled (declared_in m))) m.callees c z e in
        let ok = All-contains (λ (x : CalleeTree). HasNoFault (callee_settled (declared_in m) x)) m.callees g.0 types.callees (some-Contains m.callees c g.0 g.1) in
        let same : ok.0 ≡ z = sym (settled_is (callee_settled (declared_in m)) g.0 ok.0 ok.1) ∙ g.2 in
        let calls : callees_of z ≡ callees_of g.0 = ap callees_of (sym same) ∙ callee_kept g.0 ok.0 ok.1 in
        is.down c q g.0 g.1 (subst (λ qs. Contains qs q) calls h) (let long = length-map m.callees (or_same (callee_settled (declared_in m))) in omega arith);
    below = λ c l. let long = length-map m.callees (or_same (callee_settled (declared_in m))) in let b = is.below c (omega arith) in omega arith;
  }
