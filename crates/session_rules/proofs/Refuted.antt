-- What the proofs of ends show.
use Rattle.std.proofs.Common.{◌≡◌, ◌↔◌, ◌⊎◌, inl, inr, ℕ, Bool, List, ◌++◌, All, Contains, sym, subst}
use Rattle.std.proofs.lemmas.List.Elements.{All-contains}
use Rattle.cnf_core.specs.declared.literal.Lit.{Lit}
use Rattle.cnf_core.specs.Valuation.{Satisfies}
use Rattle.refutation_check.specs.declared.log.Step.{Step}
use Rattle.refutation_check.specs.Chain.{IsRefutation}
use Rattle.rel_formula.specs.Bounds.{Bounded}
use Rattle.rel_formula.specs.Instance.{AreCells, IsScenario, Includes, IsMinimalAbove}
use Rattle.rel_formula.proofs.SameNumbers.{same_rising}
use Rattle.swap_symmetry.specs.Swaps.{IsSettledBeside}
use Rattle.swap_symmetry.specs.Due.{IsDue}
use Rattle.swap_symmetry.proofs.ListSearches.{tried}
use Rattle.translation_rules.specs.Translation.{Translated, IsSatisfiableAt}
use Rattle.translation_rules.specs.Locals.{IsLeft, locals_of}
use Rattle.translation_rules.proofs.Tests.{includes_or_not, cells_within, from_each}
use Rattle.session_rules.specs.ProofOfEnd.{ProofOfEnd}
use Rattle.session_rules.specs.Proofs.{whole_log, Proves, IsCopy, IsCovered}
use Rattle.session_rules.specs.declared.end_proof.ProofKind.TheVariants.{End}

module _ (refuted : (clauses : List (List Lit)) (steps : List Step) → IsRefutation clauses steps → (v : ℕ → Bool) → ¬ Satisfies v clauses) (p : Bounded) (t : Translated)
    (said : (floor : List ℕ) (blocked : List (List ℕ)) → AreCells p floor → All (AreCells p) blocked → (s : List ℕ) → IsScenario p s → IsLeft p floor blocked s ↔ IsSatisfiableAt p s (t.cnf.clauses ++ locals_of t floor blocked))
    (floor : List ℕ) (shown : List (List ℕ)) (all_due : All (IsDue p floor) shown) (proof : ProofOfEnd) (proves : Proves t floor End proof) (covered : IsCovered p floor shown proof.blocked) where
  minimal_of : (b : List ℕ) → Contains shown b ⊎ IsCopy p floor shown b → IsMinimalAbove p floor b
  minimal_of b (inl was) = (All-contains (IsDue p floor) shown b all_due was).minimal
  minimal_of b (inr copy) = copy.minimal

  -- each blocked scenario was shown or is a copy
  blocked_is : (b : List ℕ) → Contains proof.blocked b → Contains shown b ⊎ IsCopy p floor shown b
  blocked_is b c = All-contains (λ (s : List ℕ). Contains shown s ⊎ IsCopy p floor shown s) proof.blocked b covered c

  blocked_in : All (AreCells p) proof.blocked
  blocked_in = from_each (AreCells p) proof.blocked (λ b c. (minimal_of b (blocked_is b c)).instance_of.scenario.cells)

  -- a blocked scenario is minimal, and the due one that includes it is it
  same_as : (x b : List ℕ) → IsMinimalAbove p floor x → IsMinimalAbove p floor b → Includes x b → x ≡ b
  same_as x b x_least b_least includes =
      let within : Includes b x = x_least.least b b_least.instance_of b_least.above includes in
      same_rising x b x_least.instance_of.scenario.rising b_least.instance_of.scenario.rising (λ n. (λ h. within n h, λ h. includes n h))

  was_shown : (x b : List ℕ) → IsSettledBeside p floor x → x ≡ b → Contains shown b ⊎ IsCopy p floor shown b → Contains shown x
  was_shown x b settled same (inl was) = subst (Contains shown) (sym same) was
  was_shown x b settled same (inr copy) = absurd (copy.unsettled (subst (IsSettledBeside p floor) same settled))

  pub end_right : (x : List ℕ) → IsDue p floor x → Contains shown x
  end_right x due =
      let minimal = due.minimal in
      let scenario = minimal.instance_of.scenario in
      elim (tried (Includes x) (λ b. Includes x b → ⊥) proof.blocked (λ b c. includes_or_not x b)) [
        | inl found ↦ was_shown x found.0 due.settled (same_as x found.0 minimal (minimal_of found.0 (blocked_is found.0 found.1)) found.2) (blocked_is found.0 found.1)
        | inr none ↦
            let sat = (said floor proof.blocked (cells_within p x floor scenario.cells minimal.above) blocked_in x scenario).0
            (record { instance_of = minimal.instance_of; above = minimal.above; settled = due.settled; fresh = from_each (λ b. ¬ Includes x b) proof.blocked none }) in
            absurd (refuted (t.cnf.clauses ++ locals_of t floor proof.blocked) (whole_log t (locals_of t floor proof.blocked) proof) proves.refutation sat.valuation sat.satisfied)
      ]
