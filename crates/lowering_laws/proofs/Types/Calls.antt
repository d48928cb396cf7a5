-- The values of calls lie in the types of calls.
use Rattle.std.specs.Prelude.{option_map}
use Rattle.std.proofs.Common.{◌≡◌, ◌<◌, inl, inr, ℕ, zero, suc, ◌-◌, ◌==◌, List, [], ◌∷◌, map, length, reverse, Contains, false, Option, Some, None, slice_get, Ok, refl, sym, ◌∙◌, ap, subst, arith, add-zero}
use mathlib.Core.List.{reverse_aux}
use Rattle.std.proofs.lemmas.Bool.{cases_lt}
use Rattle.std.proofs.lemmas.List.{length-map}
use Rattle.std.proofs.lemmas.List.Elements.{All-contains, Contains-append_right}
use Rattle.tuple_core.specs.declared.atom.Atom.{Atom}
use Rattle.rel_formula.specs.Kernel.{ExpressionTree, rel, var, nothing, univ, iden, binary, unary}
use Rattle.rel_formula.specs.Meaning.{Structure}
use Rattle.rel_formula.proofs.Lists.{some_below, some-Contains}
use Rattle.named_model.specs.Model.{MeaningTree, formulas, value, CalleeTree, NamedTree}
use Rattle.named_model.specs.Faults.{calls_in, calls_in_domains, calls_in_meaning}
use Rattle.model_sizes.specs.declared.size.Size.{Size}
use Rattle.model_types.specs.declared.fault.TypeFault.TheVariants as fault
use Rattle.model_types.specs.Bounding.{Lists, type_of}
use Rattle.model_types.specs.Sorts as sorts
use Rattle.model_types.specs.Sorts.{unless, first_place, as_relation}
use Rattle.model_types.specs.Typing as typing
use Rattle.model_types.specs.Typing.{Header, types_in, settled, formulas_settled, domains_settled}
use Rattle.model_types.specs.Models.{declared_in, settled_in, callee_within, field_declared, header_of, header_with, domains_known, parameters_known, or_unknown, type_known, meaning_settled, callee_settled, or_same}
use Rattle.lowering_rules.specs.Parts.{expression_in}
use Rattle.lowering_rules.specs.Shifted.{shifted}
use Rattle.lowering_rules.specs.Binders.{Local, under, given, arguments}
use Rattle.lowering_rules.specs.Lowering.{base_of, meaning_lowered, body_lowered}
use Rattle.lowering_rules.specs.Calls.{IsRank}
use Rattle.lowering_rules.specs.Typed.{HasNoFault, HasTypes}
use Rattle.lowering_rules.proofs.Inversion.{bind_ok, same_ok, arity_inv}
use Rattle.lowering_rules.proofs.Outlined.{same_some}
use Rattle.lowering_rules.proofs.Arities.{get_map}
use Rattle.lowering_rules.proofs.Unfolded.{call_unfolds}
use Rattle.lowering_rules.proofs.ProblemFormulas.{settled_is}
use Rattle.lowering_rules.proofs.Headers.{header_is, settled_rank, is_known, all_known}
use Rattle.lowering_laws.proofs.Types.Expressions.{IsBounded, In, AllIn, AreIn, IsSound, expression}

-- ---- arguments

-- under no more binders an expression is as it is
pub unshifted : (e : ExpressionTree) → shifted 0 e ≡ e
unshifted (rel r) = refl
unshifted (var i) = ap var (add-zero i)
unshifted nothing = refl
unshifted univ = refl
unshifted iden = refl
unshifted (binary o a b) = λ i. binary o (unshifted a i) (unshifted b i)
unshifted (unary o a) = ap (unary o) (unshifted a)

pub given_is : (d : ℕ) (e : ExpressionTree) → under d (given d e) ≡ e
given_is d e =
    let none : d - d ≡ 0 = omega arith in
    ap (λ k. shifted k e) none ∙ unshifted e

callee_at : (m : NamedTree) (n c : ℕ) (h : Header) → callee_within m n c ≡ Some h → (callee : CalleeTree) × (slice_get m.callees c ≡ Some callee)
callee_at m zero c h e = absurd cc
callee_at m (suc n) c h e =
    let d : typing.Declared = record { signatures = m.signatures; fields = map (field_declared m) m.fields; callee = callee_within m n } in
    let go : (o : Option CalleeTree) → slice_get m.callees c ≡ o → (callee : CalleeTree) × (slice_get m.callees c ≡ Some callee) =
    λ o. elim o as (λ o. slice_get m.callees c ≡ o → (callee : CalleeTree) × (slice_get m.callees c ≡ Some callee)) [
      | None ↦ λ at. absurd (let none : None ≡ Some h = sym (ap (option_map (header_of d)) at) ∙ e in cc)
      | Some callee ↦ λ at. (callee, at)
    ] in
    go (slice_get m.callees c) refl

module _ (m : NamedTree) (rank : ℕ → ℕ) (is : IsRank rank m) (types : HasTypes m) (sizes : List Size) (M : Structure) (bounded : IsBounded (declared_in m) sizes M) (env : List Atom) where
  abbrev Lies : Lists → ExpressionTree → Type 0
  Lies = In (declared_in m) sizes M bounded env (base_of (settled_in m)) refl

  abbrev AllLie : List Lists → List Local → Type 0
  AllLie = AllIn (declared_in m) sizes M bounded env (base_of (settled_in m)) refl

  abbrev AreLying : List ExpressionTree → List Lists → Type 0
  AreLying = AreIn (declared_in m) sizes M bounded env (base_of (settled_in m)) refl

  abbrev pub Sound : ℕ → Type 0
  Sound = IsSound (declared_in m) sizes M bounded env (base_of (settled_in m)) refl

  pub one_more : (a : Lists) (l : Local) (ts : List Lists) (ls : List Local) → Lies a (under (length env) l) → AllLie ts ls → AllLie (a ∷ ts) (l ∷ ls)
  one_more a l ts ls h hs zero = h
  one_more a l ts ls h hs (suc i) = hs i

  pub one_given : (a : Lists) (e : ExpressionTree) (ts : List Lists) (ls : List Local) → Lies a e → AllLie ts ls → AllLie (a ∷ ts) (given (length env) e ∷ ls)
  one_given a e ts ls h hs = one_more a (given (length env) e) ts ls (subst (Lies a) (sym (given_is (length env) e)) h) hs

  turned : (es : List ExpressionTree) (bs ts : List Lists) (ls : List Local) → AreLying es bs → AllLie ts ls → AllLie (reverse_aux bs ts) (reverse_aux (map (given (length env)) es) ls)
  turned [] [] ts ls h hs = hs
  turned [] (a ∷ bs) ts ls h hs = absurd h
  turned (e ∷ es) [] ts ls h hs = absurd h
  turned (e ∷ es) (a ∷ bs) ts ls h hs = turned es bs (a ∷ ts) (given (length env) e ∷ ls) h.1 (one_given a e ts ls h.0 hs)

  pub none_lie : AllLie [] []
  none_lie = λ i t v. absurd v

  arguments_lie : (es : List ExpressionTree) (bs : List Lists) → AreLying es bs → AllLie (reverse bs) (arguments (length env) es)
  arguments_lie es bs h = turned es bs [] [] h none_lie

  -- ---- bodies

  meaning_lies : (w v : MeaningTree) (os : List (Option typing.Local)) (locals : List typing.Local) → reverse (map or_unknown os) ≡ locals → meaning_settled (declared_in m) locals w ≡ Ok v →
      ((q : ℕ) → Contains (calls_in_meaning v) q → Sound q) → (n : ℕ) → (header_with (declared_in m) os w).kind ≡ sorts.relation n → (es : List ExpressionTree) (bs : List Lists) → AreLying es bs →
      Lies ((header_with (declared_in m) os w).type bs) (expression_in (meaning_lowered (base_of (settled_in m)) (arguments (length env) es) (length env) v))
  meaning_lies (formulas xs) v os locals same h sound n kind es bs args = absurd cc
  meaning_lies (value range body) v os locals same h sound n kind es bs args =
      let d = declared_in m in
      let base = base_of (settled_in m) in
      let r = bind_ok (settled d locals [] range) _ v h in
      let a = bind_ok (as_relation (first_place range) r.0.kind) _ v r.2 in
      let b = bind_ok (settled d locals [] body) _ v a.2 in
      let k = bind_ok (as_relation (first_place body) b.0.kind) _ v b.2 in
      let s = bind_ok (unless (a.0 == k.0) (fault.Arity (first_place body))) _ v k.2 in
      let is_value = same_ok (value r.0.tree b.0.tree) v s.2 in
      let type : type_of (types_in d) (reverse bs) b.0.tree ≡ type_known d (settled d (reverse (map or_unknown os)) [] body) bs =
      sym (ap (λ q. type_known d (settled d q [] body) bs) same ∙ ap (λ q. type_known d q bs) b.1) in
      let calls : (q : ℕ) → Contains (calls_in b.0.tree) q → Sound q =
      λ q c. sound q (subst (λ z. Contains (calls_in_meaning z) q) is_value (Contains-append_right (calls_in r.0.tree) (calls_in b.0.tree) q c)) in
      let inside = expression d sizes M bounded env base refl (reverse bs) (arguments (length env) es) (arguments_lie es bs args) body locals [] b.0 b.1 k.0 (arity_inv (first_place body) b.0.kind k.0 k.1) calls in
      subst (λ z. Lies (type_known d (settled d (reverse (map or_unknown os)) [] body) bs) (expression_in (meaning_lowered base (arguments (length env) es) (length env) z))) is_value
      (subst (λ t. Lies t (expression_in (meaning_lowered base (arguments (length env) es) (length env) (value r.0.tree b.0.tree)))) type inside)

  sound_at : (n c : ℕ) → rank c < n → Sound c
  sound_at zero c l = absurd (omega arith)
  sound_at (suc n) c l = λ h at k kind es bs args.
      let d = declared_in m in
      let m' = settled_in m in
      let base = base_of m' in
      let callee = callee_at m (length m.callees) c h at in
      let header : header_of d callee.0 ≡ h = same_some (header_of d callee.0) h (sym (header_is m rank is c callee.0 callee.1) ∙ at) in
      let ok = All-contains (λ (x : CalleeTree). HasNoFault (callee_settled d x)) m.callees callee.0 types.callees (some-Contains m.callees c callee.0 callee.1) in
      let es' = bind_ok (domains_settled false d [] callee.0.parameters) _ ok.0 ok.1 in
      let x = bind_ok (meaning_settled d es'.0.1 callee.0.meaning) _ ok.0 es'.2 in
      let y : CalleeTree = record callee.0 { parameters = es'.0.0; meaning = x.0 } in
      let same : or_same (callee_settled d) callee.0 ≡ y = settled_is (callee_settled d) callee.0 ok.0 ok.1 ∙ sym (same_ok y ok.0 x.2) in
      let there : slice_get m'.callees c ≡ Some y = get_map (or_same (callee_settled d)) m.callees c callee.0 callee.1 ∙ ap (λ z. Some z) same in
      let known = is_known d callee.0.parameters [] es'.0 es'.1 in
      let os = parameters_known (domains_known d [] callee.0.parameters) in
      let locals : reverse (map or_unknown os) ≡ es'.0.1 = ap (λ q. reverse (map or_unknown q)) known.are ∙ ap reverse (all_known known.parameters) ∙ sym known.behind in
      let unfolds : base.calls c (length env) es ≡ meaning_lowered base (arguments (length env) es) (length env) x.0 =
      call_unfolds m' rank (settled_rank m rank is types) c (length env) es (some_below m'.callees c y there) ∙ ap (body_lowered base (length env) es) there in
      let calls : (q : ℕ) → Contains (calls_in_meaning x.0) q → Sound q =
      λ q i. elim (cases_lt q (length m.callees)) [
        | inl here ↦
            let long = length-map m.callees (or_same (callee_settled d)) in
            let low = (settled_rank m rank is types).down c q y there (Contains-append_right (calls_in_domains y.parameters) (calls_in_meaning x.0) q i) (omega arith) in
            sound_at n q (omega arith)
        | inr past ↦ λ g at' j kind' fs cs args'. absurd (let z = callee_at m (length m.callees) q g at' in let b = some_below m.callees q z.0 z.1 in omega arith)
      ] in
      let inside = meaning_lies callee.0.meaning x.0 os es'.0.1 locals x.1 calls k (ap (λ (z : Header). z.kind) header ∙ kind) es bs args in
      subst (λ (z : Header). Lies (z.type bs) (expression_in (base.calls c (length env) es))) header
      (subst (λ z. Lies ((header_of d callee.0).type bs) (expression_in z)) (sym unfolds) inside)

  pub calls_lie : (c : ℕ) → Sound c
  calls_lie c = λ h at.
      let callee = callee_at m (length m.callees) c h at in
      sound_at (length m.callees) c (is.below c (some_below m.callees c callee.0 callee.1)) h at
