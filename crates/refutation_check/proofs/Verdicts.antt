-- Which verdict fits a log.
use Rattle.std.proofs.Common.{◌≡◌, ◌<◌, ◌≤◌, ◌+◌, ◌-◌, ◌++◌, [], ◌∷◌, ℕ, zero, suc, Some, None, List, length, get_or, take, All, arith, sym, ◌∙◌, ap, inl, inr, refl, subst, below_more, length-append, length-take}
use Rattle.std.proofs.lemmas.Bool.{cases_lt, cases_order}
use Rattle.std.proofs.lemmas.List.{get_or-take, take_all, take-append-le, get_or_default, get_or_append_left}
use Rattle.std.proofs.Math.Seq.{get_or-append_seam}
use Rattle.std.proofs.lemmas.Option.{slice_get-get_or, get_or_from_slice_get, slice_get_cases}
use Rattle.std.proofs.lemmas.List.Elements.{All-append, All-map, All-take, All-weaker}
use Rattle.std.specs.List.{Contains, slice_get}
use Rattle.std.specs.Prelude.{◌↔◌}
use Rattle.cnf_core.specs.declared.literal.Lit.{Lit}
use Rattle.cnf_core.specs.Literal.{negation_of, HasVarsUpTo}
use Rattle.refutation_check.specs.declared.log.Step.{Step}
use Rattle.refutation_check.specs.declared.refutation.Verdict.{Verdict}
use Rattle.refutation_check.specs.declared.refutation.Verdict.TheVariants.{Accepted, Refused, NoEmptyClause}
use Rattle.refutation_check.specs.Verdict.{FailsAt, FailsFirst, Fits}
use Rattle.refutation_check.specs.Chain.{Refutes, Forces, Reaches, IsChain, members_of, IsAccepted}
use Rattle.refutation_check.proofs.Chains.{names_one}
use Rattle.refutation_check.proofs.Entailment.{lit_equal_or_not}

take_shorter : {X : Type 0} → (i n : ℕ) (xs : List X) → i ≤ n → take i (take n xs) ≡ take i xs
take_shorter zero n xs h = refl
take_shorter (suc i) zero xs h = absurd (omega arith)
take_shorter (suc i) (suc n) [] h = refl
take_shorter (suc i) (suc n) (x ∷ xs) h = ap (λ ys. x ∷ ys) (take_shorter i n xs (omega arith))

get_or_left : (xs ys : List ℕ) (i d : ℕ) → i < length xs → get_or (xs ++ ys) i d ≡ get_or xs i d
get_or_left xs ys i d h = get_or_append_left xs ys d i h

get_or_end : (xs : List ℕ) (x : ℕ) → get_or (xs ++ x ∷ []) (length xs) 0 ≡ x
get_or_end xs x = get_or-append_seam xs x [] 0

take_front : (xs ys : List ℕ) → take (length xs) (xs ++ ys) ≡ xs
take_front xs ys = take-append-le (length xs) xs ys (omega arith) ∙ take_all (length xs) xs (omega arith)

module _ (members : List (List Lit)) where
  -- a hint forces one literal
  forces_one : (falses : List Lit) (hint : ℕ) (l k : Lit) → Forces members falses hint l → Forces members falses hint k → l ≡ k
  forces_one falses hint l k f g =
      elim (lit_equal_or_not l k) [
        | inl one ↦ one
        | inr other ↦ absurd (f.unit.not_false (g.unit.others l (subst (λ (c : List Lit). Contains c l) (names_one members hint f.clause g.clause f.named g.named) f.unit.member) other))
      ]

  reaches_one : (falses : List Lit) (hints : List ℕ) (a b : List Lit) → Reaches members falses hints a → Reaches members falses hints b → a ≡ b
  reaches_one falses [] a b p q = p ∙ sym q
  reaches_one falses (hint ∷ hints) a b (l, f, p) (k, g, q) =
      let one : k ≡ l = forces_one falses hint k l g f in
      reaches_one (falses ++ negation_of l ∷ []) hints a b p (subst (λ (x : Lit). Reaches members (falses ++ negation_of x ∷ []) hints b) one q)

  -- each hint on the way forces a literal
  reached_forces : (falses : List Lit) (hints : List ℕ) (after : List Lit) → Reaches members falses hints after → (j : ℕ) → j < length hints →
      (b : List Lit) × Reaches members falses (take j hints) b × ((l : Lit) × Forces members b (get_or hints j 0) l)
  reached_forces falses [] after r j h = absurd (omega arith)
  reached_forces falses (hint ∷ hints) after (l, f, r) zero h = (falses, refl, (l, f))
  reached_forces falses (hint ∷ hints) after (l, f, r) (suc j) h =
      let rest = reached_forces (falses ++ negation_of l ∷ []) hints after r j (omega arith) in
      (rest.0, (l, f, rest.1), rest.2)

  -- the hint at j forces a literal, so the step does not fail there
  not_there : (clause : List Lit) (hints taken : List ℕ) (after : List Lit) (k : ℕ) → Reaches members clause taken after → 1 ≤ k → k - 1 < length taken → k < length hints → take (k - 1) taken ≡ take (k - 1) hints → get_or taken (k - 1) 0 ≡ get_or hints (k - 1) 0 → FailsAt members clause hints k → ⊥
  not_there clause hints taken after k r low in' more same_front same fails =
      let on = reached_forces clause taken after r (k - 1) in' in
      let front : Reaches members clause (take (k - 1) hints) on.0 = subst (λ (hs : List ℕ). Reaches members clause hs on.0) same_front on.1 in
      let one : on.0 ≡ fails.after = reaches_one clause (take (k - 1) hints) on.0 fails.after front fails.reached in
      fails.not_forced low more on.2.0
      (subst (λ (h : ℕ). Forces members fails.after h on.2.0) same (subst (λ (fs : List Lit). Forces members fs (get_or taken (k - 1) 0) on.2.0) one on.2.1))

  pub chain_fails : (clause : List Lit) (hints : List ℕ) (k : ℕ) → IsChain members clause hints → FailsAt members clause hints k → ⊥
  chain_fails clause hints k chain fails =
      let b : List ℕ = chain.before in
      let long : length hints ≡ length b + 1 = ap length chain.in_order ∙ length-append b (chain.last ∷ []) in
      elim (cases_lt k 1) [
        | inl none ↦ let e : length hints ≡ 0 = ap length (fails.no_hints (omega arith)) in omega arith
        | inr low ↦ elim (cases_lt (k - 1) (length b)) [
          | inl inside ↦
              let front : take (k - 1) b ≡ take (k - 1) hints = sym (ap (take (k - 1)) chain.in_order ∙ take-append-le (k - 1) b (chain.last ∷ []) (omega arith)) in
              let at : get_or b (k - 1) 0 ≡ get_or hints (k - 1) 0 = sym (ap (λ (hs : List ℕ). get_or hs (k - 1) 0) chain.in_order ∙ get_or_left b (chain.last ∷ []) (k - 1) 0 inside) in
              not_there clause hints b chain.after k chain.reached low inside (omega (arith, fails.in_range)) front at fails
          | inr outside ↦
              let range : k ≤ length hints = fails.in_range in
              let is : k - 1 ≡ length b = omega arith in
              let front : take (k - 1) hints ≡ b = ap (λ (n : ℕ). take n hints) is ∙ (ap (take (length b)) chain.in_order ∙ take_front b (chain.last ∷ [])) in
              let at : get_or hints (k - 1) 0 ≡ chain.last = ap (λ (n : ℕ). get_or hints n 0) is ∙ (ap (λ (hs : List ℕ). get_or hs (length b) 0) chain.in_order ∙ get_or_end b chain.last) in
              let one : chain.after ≡ fails.after = reaches_one clause b chain.after fails.after chain.reached (subst (λ (hs : List ℕ). Reaches members clause hs fails.after) front fails.reached) in
              fails.not_refuted low (omega arith) (subst (λ (h : ℕ). Refutes members fails.after h) (sym at) (subst (λ (fs : List Lit). Refutes members fs chain.last) one chain.refuted))
        ]
      ]

  fails_before : (clause : List Lit) (hints : List ℕ) (k j : ℕ) → FailsAt members clause hints k → FailsAt members clause hints j → k < j → ⊥
  fails_before clause hints k j first second less =
      let range : j ≤ length hints = second.in_range in
      elim (cases_lt k 1) [
        | inl none ↦ let e : length hints ≡ 0 = ap length (first.no_hints (omega arith)) in omega arith
        | inr low ↦
            let inside : k - 1 < j - 1 = omega arith in
            not_there clause hints (take (j - 1) hints) second.after k second.reached low (omega (arith, length-take (j - 1) hints)) (omega arith)
            (take_shorter (k - 1) (j - 1) hints (omega arith)) (get_or-take (j - 1) hints (k - 1) 0 inside) first
      ]

  pub fails_one : (clause : List Lit) (hints : List ℕ) (k j : ℕ) → FailsAt members clause hints k → FailsAt members clause hints j → k ≡ j
  fails_one clause hints k j f g =
      elim (cases_order k j) [
        | inl same ↦ same
        | inr differ ↦ elim differ [ inl less ↦ absurd (fails_before clause hints k j f g less) | inr more ↦ absurd (fails_before clause hints j k g f more) ]
      ]

slice_get_in : {X : Type 0} → (xs : List X) (i : ℕ) (x : X) → slice_get xs i ≡ Some x → i < length xs
slice_get_in xs i x e =
    elim (cases_lt i (length xs)) [
      | inl lt ↦ lt
      | inr ge ↦ elim (slice_get_cases xs i).1 [
        | inl (y, in', is, there) ↦ in'
        | inr (past, is) ↦ let n : None ≡ Some x = sym is ∙ e in absurd cc
      ]
    ]

-- the first n steps are chains
abbrev pub AcceptedUpTo : List (List Lit) → List Step → ℕ → Type 0
AcceptedUpTo clauses steps n = (j : ℕ) (d : Step) → j < n → IsChain (members_of clauses (take j steps)) (get_or steps j d).clause (get_or steps j d).hints

module _ (clauses : List (List Lit)) (steps : List Step) where
  pub accepted_front : (n : ℕ) → AcceptedUpTo clauses steps n → IsAccepted clauses (take n steps)
  accepted_front n up j d h =
      let below : j < n = omega (arith, length-take n steps) in
      rw (take_shorter j n steps (omega arith), get_or-take n steps j d below) (up j d below)

  pub accepted_from_front : (n : ℕ) → n ≤ length steps → IsAccepted clauses (take n steps) → AcceptedUpTo clauses steps n
  accepted_from_front n within up j d below =
      let chain = up j d (omega (arith, length-take n steps)) in
      rw (take_shorter j n steps (omega arith), get_or-take n steps j d below) at chain

  pub accepted_more : (n : ℕ) (d : Step) → n < length steps → AcceptedUpTo clauses steps n → IsChain (members_of clauses (take n steps)) (get_or steps n d).clause (get_or steps n d).hints → AcceptedUpTo clauses steps (n + 1)
  accepted_more n d in' up chain j e h =
      let here : (e : Step) → IsChain (members_of clauses (take n steps)) (get_or steps n e).clause (get_or steps n e).hints =
      λ e. subst (λ (s : Step). IsChain (members_of clauses (take n steps)) s.clause s.hints) (get_or_default steps n d e in') chain in
      below_more (λ (j : ℕ). (d : Step) → IsChain (members_of clauses (take j steps)) (get_or steps j d).clause (get_or steps j d).hints) n (λ j h d. up j d h) here j h e

  pub fails_first : (i : ℕ) (d : Step) (hint : ℕ) → i < length steps → AcceptedUpTo clauses steps i → FailsAt (members_of clauses (take i steps)) (get_or steps i d).clause (get_or steps i d).hints hint → FailsFirst clauses steps (i + 1) hint
  fails_first i d hint in' up fails =
      let back : (i + 1) - 1 ≡ i = omega arith in
      record {
        from_one = omega arith;
        failing = get_or steps i d;
        there = rw back (slice_get-get_or steps i d in');
        earlier = rw back (accepted_front i up);
        fails = rw back fails;
      }

  -- what fails is in the log
  failing_in : (step hint : ℕ) → FailsFirst clauses steps step hint → step - 1 < length steps
  failing_in step hint f = slice_get_in steps (step - 1) f.failing f.there

  pub accepted_fails : (step hint : ℕ) → AcceptedUpTo clauses steps step → FailsFirst clauses steps step hint → ⊥
  accepted_fails step hint up f =
      let low : 1 ≤ step = f.from_one in
      let same : get_or steps (step - 1) f.failing ≡ f.failing = get_or_from_slice_get steps (step - 1) f.failing f.failing f.there in
      let chain = up (step - 1) f.failing (omega arith) in
      chain_fails (members_of clauses (take (step - 1) steps)) f.failing.clause f.failing.hints hint
      (subst (λ (s : Step). IsChain (members_of clauses (take (step - 1) steps)) s.clause s.hints) same chain) f.fails

  fails_less : (s h t k : ℕ) → FailsFirst clauses steps s h → FailsFirst clauses steps t k → s < t → ⊥
  fails_less s h t k f g less =
      let low : 1 ≤ t = g.from_one in
      let in' : t - 1 < length steps = failing_in t k g in
      let up = accepted_from_front (t - 1) (omega arith) g.earlier in
      accepted_fails s h (λ j d m. up j d (omega arith)) f

  fails_same_step : (s h k : ℕ) → FailsFirst clauses steps s h → FailsFirst clauses steps s k → h ≡ k
  fails_same_step s h k f g =
      let e : Some g.failing ≡ Some f.failing = sym g.there ∙ f.there in
      let same : g.failing ≡ f.failing = cc in
      fails_one (members_of clauses (take (s - 1) steps)) f.failing.clause f.failing.hints h k f.fails (subst (λ (x : Step). FailsAt (members_of clauses (take (s - 1) steps)) x.clause x.hints k) same g.fails)

  whole : (s h : ℕ) → IsAccepted clauses steps → FailsFirst clauses steps s h → ⊥
  whole s h all f =
      let in' : s - 1 < length steps = failing_in s h f in
      let low : 1 ≤ s = f.from_one in
      accepted_fails s h (λ j d m. all j d (omega arith)) f

  -- one verdict fits
  pub Fits_one : (v w : Verdict) → Fits clauses steps v → Fits clauses steps w → v ≡ w
  Fits_one Accepted Accepted f g = refl
  Fits_one Accepted (Refused s h) f g = absurd (whole s h f.0 g)
  Fits_one Accepted NoEmptyClause f g = absurd (g.1 f.1)
  Fits_one (Refused s h) Accepted f g = absurd (whole s h g.0 f)
  Fits_one (Refused s h) (Refused t k) f g =
      elim (cases_order s t) [
        | inl same ↦ let e : h ≡ k = fails_same_step s h k f (subst (λ (n : ℕ). FailsFirst clauses steps n k) (sym same) g) in cc
        | inr differ ↦ elim differ [ inl less ↦ absurd (fails_less s h t k f g less) | inr more ↦ absurd (fails_less t k s h g f more) ]
      ]
  Fits_one (Refused s h) NoEmptyClause f g = absurd (whole s h g.0 f)
  Fits_one NoEmptyClause Accepted f g = absurd (f.1 g.1)
  Fits_one NoEmptyClause (Refused s h) f g = absurd (whole s h f.0 g)
  Fits_one NoEmptyClause NoEmptyClause f g = refl

-- a verdict is given exactly where it fits
pub verdict_exactly : (clauses : List (List Lit)) (steps : List Step) (given v : Verdict) → Fits clauses steps given → (given ≡ v) ↔ Fits clauses steps v
verdict_exactly clauses steps given v fits = (λ e. subst (Fits clauses steps) e fits, λ h. Fits_one clauses steps given v fits h)

-- the members that a step may name have variables up to these
pub members_within : (clauses : List (List Lit)) (steps : List Step) (vars most i : ℕ) → All (HasVarsUpTo vars) clauses → vars ≤ most → All (λ s. HasVarsUpTo most s.clause) steps → All (HasVarsUpTo most) (members_of clauses (take i steps))
members_within clauses steps vars most i first le second =
    All-append (HasVarsUpTo most) clauses _
    (All-weaker (HasVarsUpTo vars) (HasVarsUpTo most) (λ c all k d h. let low : (get_or c k d).var ≤ vars = all k d h in omega arith) clauses first)
    (All-map (HasVarsUpTo most) (λ (s : Step). s.clause) (take i steps) (All-take (λ (s : Step). HasVarsUpTo most s.clause) i steps second))
