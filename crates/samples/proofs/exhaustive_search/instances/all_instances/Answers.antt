use Rattle.std.proofs.Common.{◌≡◌, ◌≢◌, ◌<◌, ◌+◌, ◌∙◌, ◌++◌, ◌∷◌, [], List, ℕ, length, Contains, AllPairs, All, ap, sym, subst, arith}
use Rattle.rel_formula.specs.Instance.{IsInstance}
use Rattle.samples.specs.Exhaustive.Subsets.{IsRisingBelow}
use Rattle.samples.proofs.Exhaustive.SiftedLists.{Sifted, sifted_none, sifted_yes, sifted_no, sifted_all}
use Rattle.samples.proofs.exhaustive_search.instances.all_instances.Goals.{then-branch+in_ok-copy+in_ok-push, else-branch}
use Rattle.samples.proofs.exhaustive_search.instances.all_instances.Goals as goal

pub holds-requires : goal.holds-requires
holds-requires c =
    let xs = c.deref-scenario-items.result.now in
    let i = c.loop-scenario.scenario-index in
    let x : List ℕ = c.scenario-item.result in
    let there : Contains xs x = (i, c.loop-scenario-test.true, sym c.scenario-item.is) in
    let is = (c.in_ok-sets.ensures.all x).0 (subst (λ (ys : List (List ℕ)). Contains ys x) c.deref-scenario-items.ensures.value there) in
    subst (λ n. All (λ k. k < n) x) c.cells.ensures.value is.below

pub loop-scenario-init : goal.loop-scenario-init
loop-scenario-init c =
    subst (Sifted c.deref-scenario-items.result.now (IsInstance c.args.problem.now) 0) (sym c.new-instances.ensures.items) (sifted_none c.deref-scenario-items.result.now (IsInstance c.args.problem.now))

pub loop-scenario-preserved : goal.loop-scenario-preserved
loop-scenario-preserved c =
    let xs = c.deref-scenario-items.result.now in
    let i = c.loop-scenario.scenario-index in
    let x : List ℕ = c.scenario-item.result in
    let P = IsInstance c.args.problem.now in
    let old = c.loop-scenario.instances.items in
    let once : AllPairs (λ s t. s ≢ t) xs = subst (λ (ys : List (List ℕ)). AllPairs (λ s t. s ≢ t) ys) (sym c.deref-scenario-items.ensures.value) c.in_ok-sets.ensures.once in
    elim c.if-branch.branch [
      | then-branch+in_ok-copy+in_ok-push w ↦
          let put : c.if-branch.instances.items ≡ old ++ x ∷ [] =
          (let e = w.instances-is in let f = w.in_ok-push.ensures.items in let h : c.if-branch.instances.items ≡ old ++ w.in_ok-copy.field-0 ∷ [] = cc in h) ∙ ap (λ (s : List ℕ). old ++ s ∷ []) w.in_ok-copy.ensures in
          subst (Sifted xs P (i + 1)) (sym put) (sifted_yes xs i c.loop-scenario-test.true P x c.scenario-item.is old c.loop-scenario.invariant once (c.in_ok-holds.ensures.0 w.if-branch.true))
      | else-branch w ↦
          let kept : c.if-branch.instances.items ≡ old = let e = w.instances-is in cc in
          subst (Sifted xs P (i + 1)) (sym kept) (sifted_no xs i c.loop-scenario-test.true P x c.scenario-item.is old c.loop-scenario.invariant
          (λ is. absurd (let h = c.in_ok-holds.ensures.1 is in let g = w.if-branch.false in cc)))
    ]

pub returns : goal.returns
returns c =
    let xs = c.deref-scenario-items.result.now in
    let P = IsInstance c.args.problem.now in
    let all = sifted_all xs P c.loop-scenario.scenario-index c.loop-scenario.instances.items c.loop-scenario-test.false c.loop-scenario.invariant in
    let same = c.deref-scenario-items.ensures.value in
    record {
      all = λ s. (
        λ h.
            let g = (all s).0 h in
            g.1,
        λ is.
            let sub : IsRisingBelow c.cells.result s = record { below = subst (λ n. All (λ k. k < n) s) (sym c.cells.ensures.value) is.scenario.cells; rising = is.scenario.rising } in
            (all s).1 (subst (λ (ys : List (List ℕ)). Contains ys s) (sym same) ((c.in_ok-sets.ensures.all s).1 sub), is),
      );
      once = c.loop-scenario.invariant.once;
      few = let h = c.loop-scenario.invariant.short in let g = c.loop-scenario.auto.scenario-index-end in let e = ap length c.deref-scenario-items.ensures.value in let f = c.in_ok-sets.ensures.few in omega arith;
    }
