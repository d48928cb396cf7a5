-- Calls are of the kinds that are declared, however deep they may be.
use Rattle.std.proofs.Common.{◌≡◌, ℕ, zero, suc, ◌+◌, ◌<◌, List, [], ◌∷◌, map, length, reverse, Some, Contains, IsTrue, Ok, ◌==◌, sym, subst, arith, true, inl, inr}
use Rattle.std.proofs.lemmas.Bool.Decides.{nat_tests}
use Rattle.std.proofs.lemmas.List.{reverse-reverse}
use Rattle.std.proofs.lemmas.Bool.{cases_lt}
use Rattle.std.proofs.lemmas.List.Elements.{Contains-append_right}
use mathlib.Core.List.{reverse_aux}
use Rattle.rel_formula.specs.Kernel.{ExpressionTree}
use Rattle.rel_formula.specs.Shape.{arity_of, AreProper}
use Rattle.rel_formula.proofs.OpenCells.{cons_first, cons_later}
use Rattle.rel_formula.proofs.Lists.{some_below}
use Rattle.named_model.specs.Phrase.{PhraseTree, PhraseTrees, DomainTrees}
use Rattle.named_model.specs.Model.{MeaningTree, formulas, value, NamedTree}
use Rattle.named_model.specs.Faults.{calls_in, calls_in_all, calls_in_domains, calls_in_meaning}
use Rattle.model_types.specs.Sorts.{Kind}
use Rattle.model_types.specs.Typing as typing
use Rattle.model_types.specs.Typing.{Declared, Header, Settled, fits, settled, formulas_settled, domains_settled}
use Rattle.lowering_rules.specs.Binders.{Local, given, arguments, behind_domains, variables_in}
use Rattle.lowering_rules.specs.Lowering.{lowered, formulas_lowered, domains_lowered, meaning_lowered, body_lowered, base_within, base_of}
use Rattle.lowering_rules.specs.Calls.{IsRank}
use Rattle.lowering_rules.specs.Shapes.{IsOfKind, StandFor, HasRelations}
use Rattle.lowering_rules.proofs.Operators.{AreArguments}
use Rattle.lowering_rules.proofs.Bodies.{IsBodyOf, HasBodies}
use Rattle.lowering_rules.proofs.Bound.{AreDomains}
use Rattle.lowering_rules.proofs.Rightness.{IsSound, AreSound, right, formulas_right, domains_right}

-- ---- arguments stand for parameters

eq_is : (m n : ℕ) → IsTrue (m == n) → n ≡ m
eq_is m n e = grind (arith, nat_tests)

given_right : (ns : List ℕ) (k : ℕ) (ls : List typing.Local) (es : List ExpressionTree) → AreArguments ns k (map (λ (l : typing.Local). Some l.arity) ls) es → StandFor ns k ls (map (given k) es)
given_right ns k [] [] h = tt
given_right ns k [] (e ∷ es) h = absurd h
given_right ns k (l ∷ ls) [] h = absurd h
given_right ns k (l ∷ ls) (e ∷ es) h = (omega arith, (h.0, eq_is l.arity (arity_of ns e) h.1), given_right ns k ls es h.2)

onto : (ns : List ℕ) (k : ℕ) (es fs : List typing.Local) (ls ms : List Local) → StandFor ns k es ls → StandFor ns k fs ms → StandFor ns k (reverse_aux es fs) (reverse_aux ls ms)
onto ns k [] fs [] ms h g = g
onto ns k [] fs (l ∷ ls) ms h g = absurd h
onto ns k (e ∷ es) fs [] ms h g = absurd h
onto ns k (e ∷ es) fs (l ∷ ls) ms h g = onto ns k es (e ∷ fs) ls (l ∷ ms) h.2 (h.0, h.1, g)

turned : (ns : List ℕ) (k : ℕ) (es : List typing.Local) (ls : List Local) → StandFor ns k es ls → StandFor ns k (reverse es) (reverse ls)
turned ns k es ls h = onto ns k es [] ls [] h tt

parameters_right : (ns : List ℕ) (k : ℕ) (locals : List typing.Local) (es : List ExpressionTree) → AreArguments ns k (map (λ (l : typing.Local). Some l.arity) (reverse locals)) es →
    StandFor ns k locals (arguments k es)
parameters_right ns k locals es h =
    subst (λ xs. StandFor ns k xs (reverse (map (given k) es))) (reverse-reverse locals) (turned ns k (reverse locals) (map (given k) es) (given_right ns k (reverse locals) es h))

-- ---- calls

module _ (ns : List ℕ) (d : Declared) (m : NamedTree) (rank : ℕ → ℕ) (relations : HasRelations ns d (length m.signatures)) (bodies : HasBodies d m) (is_rank : IsRank rank m) where
  all_sound : (n : ℕ) (cs : List ℕ) → ((q : ℕ) → Contains cs q → IsSound ns d (base_within n m) relations q) → AreSound ns d (base_within n m) relations cs
  all_sound n [] h = tt
  all_sound n (c ∷ cs) h = (h c (cons_first c cs), all_sound n cs (λ q e. h q (cons_later c cs q e)))

  meaning_right : (n k : ℕ) (x : MeaningTree) (locals : List typing.Local) (ls : List Local) (kind : Kind) → IsBodyOf d locals x kind → StandFor ns k locals ls →
      ((q : ℕ) → Contains (calls_in_meaning x) q → IsSound ns d (base_within n m) relations q) → IsOfKind ns k kind (meaning_lowered (base_within n m) ls k x)
  meaning_right n k (formulas ys) locals ls kind b fit sound =
      let proper = formulas_right ns d (base_within n m) relations b.0 k locals ls ys fit b.1 (all_sound n (calls_in_all ys) sound) in
      subst (λ q. IsOfKind ns k q (meaning_lowered (base_within n m) ls k (formulas ys))) (sym b.2) proper
  meaning_right n k (value range y) locals ls kind b fit sound =
      let calls : (q : ℕ) → Contains (calls_in b.1.tree) q → IsSound ns d (base_within n m) relations q =
      λ q c. sound q (Contains-append_right (calls_in range) (calls_in y) q (subst (λ t. Contains (calls_in t) q) b.3 c)) in
      let whole = right ns d (base_within n m) relations b.0 k locals ls [] b.1 fit b.2 (all_sound n (calls_in b.1.tree) calls) in
      subst (λ q. IsOfKind ns k q (lowered (base_within n m) ls k y)) b.4 (subst (λ t. IsOfKind ns k b.1.kind (lowered (base_within n m) ls k t)) b.3 whole)

  sound_at : (n c : ℕ) → rank c < n → IsSound ns d (base_within n m) relations c
  sound_at zero c l = absurd (omega arith)
  sound_at (suc n) c l = λ h is k es args.
      let b = bodies c h is in
      let fit = parameters_right ns k b.locals es (subst (λ ms. AreArguments ns k ms es) b.parameters args) in
      let inside = meaning_right n k b.callee.meaning b.locals (arguments k es) h.kind b.body fit
      (λ q e. elim (cases_lt q (length m.callees)) [
        | inl here ↦
            let low = is_rank.down c q b.callee b.there (Contains-append_right (calls_in_domains b.callee.parameters) (calls_in_meaning b.callee.meaning) q e) here in
            sound_at n q (omega arith)
        | inr past ↦ λ h at k es args. absurd (let b = bodies q h at in let l = some_below m.callees q b.callee b.there in omega arith)
      ]) in
      subst (λ o. IsOfKind ns k h.kind (body_lowered (base_within n m) k es o)) (sym b.there) inside

  pub calls_sound : (c : ℕ) → IsSound ns d (base_of m) relations c
  calls_sound c = λ h is.
      let b = bodies c h is in
      sound_at (length m.callees) c (is_rank.below c (some_below m.callees c b.callee b.there)) h is

  pub part_right : (x : PhraseTree) (k : ℕ) (locals : List typing.Local) (ls : List Local) (tops : List ℕ) (y : Settled) → StandFor ns k locals ls → settled d locals tops x ≡ Ok y →
      IsOfKind ns k y.kind (lowered (base_of m) ls k y.tree)
  part_right x k locals ls tops y fit e =
      right ns d (base_of m) relations x k locals ls tops y fit e (all_sound (length m.callees) (calls_in y.tree) (λ q c. calls_sound q))

  pub formulas_proper : (xs ys : PhraseTrees) (k : ℕ) (locals : List typing.Local) (ls : List Local) → StandFor ns k locals ls → formulas_settled d locals xs ≡ Ok ys →
      AreProper ns k (formulas_lowered (base_of m) ls k ys)
  formulas_proper xs ys k locals ls fit e =
      formulas_right ns d (base_of m) relations xs k locals ls ys fit e (all_sound (length m.callees) (calls_in_all ys) (λ q c. calls_sound q))

  -- the domains of a quantifier, and the names behind them
  pub domains_proper : (ds : DomainTrees) (zs : DomainTrees × List typing.Local) → domains_settled true d [] ds ≡ Ok zs →
      StandFor ns (0 + variables_in zs.0) zs.1 (behind_domains 0 zs.0 []) × AreDomains ns 0 (domains_lowered (base_of m) [] 0 zs.0) × (length (domains_lowered (base_of m) [] 0 zs.0) ≡ variables_in zs.0)
  domains_proper ds zs e = domains_right ns d (base_of m) relations ds 0 [] [] zs tt e (all_sound (length m.callees) (calls_in_domains zs.0) (λ q c. calls_sound q))
