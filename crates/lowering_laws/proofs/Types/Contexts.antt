-- Wherever a part of a body stands, local names lie in their types, and so does the part.
use Rattle.std.proofs.Common.{◌≡◌, ◌≤◌, ◌==◌, ℕ, zero, suc, ◌+◌, ◌-◌, List, [], ◌∷◌, ◌++◌, map, length, drop, slice_index_or, Bool, true, if◌then◌else◌, Contains, All, Ok, refl, sym, ◌∙◌, ap, subst, arith, add-zero}
use mathlib.Core.List.{reverse_aux}
use Rattle.std.specs.List.{AllZip}
use Rattle.std.proofs.lemmas.List.Elements.{All-nil, All-cons, All-weaker}
use Rattle.tuple_core.specs.declared.atom.Atom.{Atom}
use Rattle.rel_formula.specs.Kernel.{ExpressionTree, var}
use Rattle.rel_formula.specs.Meaning.{Structure, InValue}
use Rattle.rel_formula.specs.Instance.{structure_of}
use Rattle.named_model.specs.Phrase.{PhraseTree, PhraseTrees, no_phrases, more_phrases, DomainTrees, no_domains, more_domains}
use Rattle.named_model.specs.Model.{NamedTree}
use Rattle.model_types.specs.declared.fault.TypeFault.TheVariants as fault
use Rattle.model_types.specs.Bounding.{Lists}
use Rattle.model_types.specs.Sorts as sorts
use Rattle.model_types.specs.Sorts.{unless, first_place, as_relation}
use Rattle.model_types.specs.Typing as typing
use Rattle.model_types.specs.Typing.{type_in, local_types, settled, domains_settled, values_settled}
use Rattle.model_types.specs.Models.{declared_in, settled_in}
use Rattle.lowering_rules.specs.Parts.{expression_in}
use Rattle.lowering_rules.specs.Shifted.{shifted}
use Rattle.lowering_rules.specs.Binders.{Local, given, under, local_at, variable, behind_variables, behind_domains, domain_of_each}
use Rattle.lowering_rules.specs.Lowering.{base_of, lowered, domains_lowered, behind_values}
use Rattle.lowering_rules.specs.Calls.{IsRank}
use Rattle.lowering_rules.specs.Typed.{HasTypes}
use Rattle.lowering_rules.proofs.Inversion.{bind_ok, same_ok, arity_inv}
use Rattle.lowering_rules.proofs.Headers.{front_replicate}
use Rattle.lowering_laws.specs.Lying.{Context, LiesIn, LocalsLieIn, ValuesLieInTypes, VariablesLieInTypes, ParametersLieInTypes, LetNamesLieInTypes, Enter}
use Rattle.lowering_laws.proofs.Types.Places.{LieIn}
use Rattle.lowering_laws.proofs.Types.Expressions.{IsBounded, In, AllIn, expression}
use Rattle.lowering_laws.proofs.Types.Relations.{is_bounded}
use Rattle.lowering_laws.proofs.Types.Calls.{given_is, one_given, calls_lie}
use Rattle.lowering_laws.proofs.Types.Variables.{shift_seen, local_under_one}

abbrev AreUnder : ℕ → List Local → Type 0
AreUnder d ls = All (λ (l : Local). l.depth ≤ d) ls

-- ---- parameters

module _ (m : NamedTree) (w : Context m) where
  parameters : (es : List ExpressionTree) (ps locals : List typing.Local) (names : List Local) → AllZip (λ (e : ExpressionTree) (l : typing.Local). LiesIn m w l.type e) es ps →
      LocalsLieIn m (record w { locals = locals; names = names }) → AreUnder (length w.atoms) names →
      let after = reverse_aux (map (given (length w.atoms)) es) names in
      LocalsLieIn m (record w { locals = reverse_aux ps locals; names = after }) × AreUnder (length w.atoms) after
  parameters [] [] locals names h lie outside = (lie, outside)
  parameters [] (l ∷ ps) locals names h lie outside = absurd h
  parameters (e ∷ es) [] locals names h lie outside = absurd h
  parameters (e ∷ es) (l ∷ ps) locals names h lie outside =
      let g = given (length w.atoms) e in
      let under_it : LiesIn m w l.type (under (length w.atoms) g) = subst (LiesIn m w l.type) (sym (given_is (length w.atoms) e)) h.0 in
      let more : LocalsLieIn m (record w { locals = l ∷ locals; names = g ∷ names }) = λ i. elim i as (λ i. LiesIn m w (slice_index_or (local_types (l ∷ locals)) i []) (local_at (g ∷ names) i (length w.atoms))) [ zero ↦ under_it | suc j ↦ lie j ] in
      parameters es ps (l ∷ locals) (g ∷ names) h.1 more (All-cons (λ (k : Local). k.depth ≤ length w.atoms) g names (omega arith) outside)

pub parameters_lie : (m : NamedTree) → ParametersLieInTypes m
parameters_lie m w es ps h = parameters m w es ps [] [] h (λ i t v. absurd v) (All-nil (λ (k : Local). k.depth ≤ length w.atoms))

module _ (m : NamedTree) (rank : ℕ → ℕ) (is : IsRank rank m) (types : HasTypes m) where
  module _ (w : Context m) where
    abbrev M : Structure
    M = structure_of w.problem (Contains w.cells)

    bounded : IsBounded (declared_in m) w.is.sizes M
    bounded = is_bounded m w.command w.facts w.problem w.is (Contains w.cells)

    abbrev Lies : List Atom → Lists → ExpressionTree → Type 0
    Lies env = In (declared_in m) w.is.sizes M bounded env (base_of (settled_in m)) refl

    abbrev AllLie : List Atom → List Lists → List Local → Type 0
    AllLie env = AllIn (declared_in m) w.is.sizes M bounded env (base_of (settled_in m)) refl

    lies : (env : List Atom) (locals : List typing.Local) (names : List Local) → AllLie env (local_types locals) names → (x : PhraseTree) (tops : List ℕ) (y : typing.Settled) (n : ℕ) →
        settled (declared_in m) locals tops x ≡ Ok y → y.kind ≡ sorts.relation n → Lies env (type_in (declared_in m) locals y.tree) (expression_in (lowered (base_of (settled_in m)) names (length env) y.tree))
    lies env locals names h x tops y n e k =
        expression (declared_in m) w.is.sizes M bounded env (base_of (settled_in m)) refl (local_types locals) names h x locals tops y e n k (λ q i. calls_lie m rank is types w.is.sizes M bounded env q)

    -- ---- variables

    -- a variable that is an atom of its domain
    variable_lies : (env : List Atom) (a : Atom) (l : typing.Local) (locals : List typing.Local) (names : List Local) → LieIn w.is.sizes l.type (λ t. t ≡ a ∷ []) → AllLie env (local_types locals) names →
        AreUnder (length env) names → AllLie (a ∷ env) (local_types (l ∷ locals)) (variable (length env) ∷ names)
    variable_lies env a l locals names in_type h outside zero = λ t v.
        let none : length (a ∷ env) - (length env + 1) ≡ 0 = omega arith in
        let same : under (length (a ∷ env)) (variable (length env)) ≡ var 0 = ap (λ k. shifted k (var 0)) none in
        let here : InValue M (a ∷ env) (var 0) t = subst (λ e. InValue M (a ∷ env) e t) same v in
        let atom : a ≡ here.0 = let e = here.1 in cc in
        in_type t (here.2 ∙ ap (λ b. b ∷ []) (sym atom))
    variable_lies env a l locals names in_type h outside (suc i) = λ t v. h i t (local_under_one M env a names i outside t v)

    record Entered (rest : List ExpressionTree) (inner : List Atom) (deep : ℕ) (locals : List typing.Local) (names : List Local) : Type 0 where
      atoms : List Atom
      enter : Enter m w atoms rest inner
      long : length atoms ≡ deep
      lie : AllLie atoms (local_types locals) names
      outside : AreUnder (length atoms) names

    each : (n j : ℕ) (env : List Atom) (l : typing.Local) (locals : List typing.Local) (names : List Local) (e : ExpressionTree) (rest : List ExpressionTree) (inner : List Atom) →
        LieIn w.is.sizes l.type (InValue M (drop j env) e) → AllLie env (local_types locals) names → AreUnder (length env) names → Enter m w env (domain_of_each j e n ++ rest) inner →
        Entered rest inner (length env + n) (typing.onto n l locals) (behind_variables (length env) n names)
    each zero j env l locals names e rest inner domain h outside enter = record { atoms = env; enter = enter; long = sym (add-zero (length env)); lie = h; outside = outside }
    each (suc n) j env l locals names e rest inner domain h outside enter =
        let a : Atom = enter.0 in
        let here : InValue M (drop j env) e (a ∷ []) = subst (λ P. P (a ∷ [])) (shift_seen M j env e) enter.1 in
        let in_type : LieIn w.is.sizes l.type (λ t. t ≡ a ∷ []) = λ t same. domain t (subst (InValue M (drop j env) e) (sym same) here) in
        let longer : length (a ∷ env) ≡ length env + 1 = omega arith in
        let next : j + 1 ≡ suc j = omega arith in
        let domain' : LieIn w.is.sizes l.type (InValue M (drop (j + 1) (a ∷ env)) e) = subst (λ k. LieIn w.is.sizes l.type (InValue M (drop k (a ∷ env)) e)) (sym next) domain in
        let under : AreUnder (length (a ∷ env)) (variable (length env) ∷ names) =
        All-cons (λ (k : Local). k.depth ≤ length (a ∷ env)) (variable (length env)) names (omega arith) (All-weaker (λ (k : Local). k.depth ≤ length env) (λ (k : Local). k.depth ≤ length (a ∷ env)) (λ k b. omega arith) names outside) in
        let more = each n (j + 1) (a ∷ env) l (l ∷ locals) (variable (length env) ∷ names) e rest inner domain' (variable_lies env a l locals names in_type h outside) under enter.2 in
        let deep : length (a ∷ env) + n ≡ length env + suc n = omega arith in
        subst (λ d. Entered rest inner d (typing.onto (suc n) l locals) (behind_variables (length env + 1) n (variable (length env) ∷ names))) deep
        (subst (λ k. Entered rest inner (length (a ∷ env) + n) (typing.onto (suc n) l locals) (behind_variables k n (variable (length env) ∷ names))) longer
        (subst (λ ks. Entered rest inner (length (a ∷ env) + n) ks (behind_variables (length (a ∷ env)) n (variable (length env) ∷ names))) (front_replicate n l locals) more))

    abbrev Behind : List Atom → List Local → List Atom → DomainTrees × List typing.Local → Type 0
    Behind env names inner zs = Enter m w env (domains_lowered (base_of (settled_in m)) names (length env) zs.0) inner →
        AllLie inner (local_types zs.1) (behind_domains (length env) zs.0 names) × AreUnder (length inner) (behind_domains (length env) zs.0 names)

    domains : (single : Bool) (ds : DomainTrees) (env : List Atom) (locals : List typing.Local) (names : List Local) (inner : List Atom) (zs : DomainTrees × List typing.Local) →
        AllLie env (local_types locals) names → AreUnder (length env) names → domains_settled single (declared_in m) locals ds ≡ Ok zs → Behind env names inner zs
    domains single no_domains env locals names inner zs h outside e =
        subst (Behind env names inner) (same_ok (no_domains, locals) zs e) (λ same. subst (λ atoms. AllLie atoms (local_types locals) names × AreUnder (length atoms) names) (sym same) (h, outside))
    domains single (more_domains disjoint n mark x ds) env locals names inner zs h outside e =
        let d = declared_in m in
        let base = base_of (settled_in m) in
        let a = bind_ok (settled d locals [] x) _ zs e in
        let k = bind_ok (as_relation (first_place x) a.0.kind) _ zs a.2 in
        let c = bind_ok (unless (if single then k.0 == 1 else true) (fault.NotUnary (first_place x))) _ zs k.2 in
        let l : typing.Local = record { arity = k.0; type = type_in d locals a.0.tree } in
        let r = bind_ok (domains_settled single d (typing.onto n l locals) ds) _ zs c.2 in
        let domain = expression_in (lowered base names (length env) a.0.tree) in
        let behind = behind_variables (length env) n names in
        let value = lies env locals names h x [] a.0 k.0 a.1 (arity_inv (first_place x) a.0.kind k.0 k.1) in
        subst (Behind env names inner) (same_ok (more_domains disjoint n mark a.0.tree r.0.0, r.0.1) zs r.2) (λ enter.
        let one = each n 0 env l locals names domain (domains_lowered base behind (length env + n) r.0.0) inner value h outside enter in
        let enter' = subst (λ j. Enter m w one.atoms (domains_lowered base behind j r.0.0) inner) (sym one.long) one.enter in
        let rest = domains single ds one.atoms (typing.onto n l locals) behind inner r.0 one.lie one.outside r.1 enter' in
        subst (λ j. AllLie inner (local_types r.0.1) (behind_domains j r.0.0 behind) × AreUnder (length inner) (behind_domains j r.0.0 behind)) one.long rest)

    -- ---- names of a `let`

    abbrev BehindLet : List Atom → List Local → PhraseTrees × List typing.Local → Type 0
    BehindLet env names zs = AllLie env (local_types zs.1) (behind_values (base_of (settled_in m)) names (length env) zs.0) × AreUnder (length env) (behind_values (base_of (settled_in m)) names (length env) zs.0)

    values : (xs : PhraseTrees) (env : List Atom) (locals : List typing.Local) (names : List Local) (zs : PhraseTrees × List typing.Local) →
        AllLie env (local_types locals) names → AreUnder (length env) names → values_settled (declared_in m) locals xs ≡ Ok zs → BehindLet env names zs
    values no_phrases env locals names zs h outside e = subst (BehindLet env names) (same_ok (no_phrases, locals) zs e) (h, outside)
    values (more_phrases x xs) env locals names zs h outside e =
        let d = declared_in m in
        let base = base_of (settled_in m) in
        let a = bind_ok (settled d locals [] x) _ zs e in
        let k = bind_ok (as_relation (first_place x) a.0.kind) _ zs a.2 in
        let l : typing.Local = record { arity = k.0; type = type_in d locals a.0.tree } in
        let r = bind_ok (values_settled d (l ∷ locals) xs) _ zs k.2 in
        let value = expression_in (lowered base names (length env) a.0.tree) in
        let lie = lies env locals names h x [] a.0 k.0 a.1 (arity_inv (first_place x) a.0.kind k.0 k.1) in
        let more = one_given m rank is types w.is.sizes M bounded env l.type value (local_types locals) names lie h in
        let under = All-cons (λ (k : Local). k.depth ≤ length env) (given (length env) value) names (omega arith) outside in
        subst (BehindLet env names) (same_ok (more_phrases a.0.tree r.0.0, r.0.1) zs r.2) (values xs env (l ∷ locals) (given (length env) value ∷ names) r.0 more under r.1)

  -- ---- the laws

  pub values_lie : ValuesLieInTypes m
  values_lie w h tops x y n e = lies w w.atoms w.locals w.names h x tops (record { tree = y; kind = sorts.relation n }) n e refl

  pub variables_lie : VariablesLieInTypes m
  variables_lie w h outside single ds es behind inner e enter = domains w single ds w.atoms w.locals w.names inner (es, behind) h outside e enter

  pub let_names_lie : LetNamesLieInTypes m
  let_names_lie w h outside xs ys behind e = values w xs w.atoms w.locals w.names (ys, behind) h outside e
