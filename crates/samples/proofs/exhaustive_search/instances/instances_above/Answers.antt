use Rattle.std.proofs.Common.{◌≡◌, ◌≢◌, ◌+◌, ◌∙◌, ◌++◌, ◌∷◌, [], List, ℕ, length, Contains, AllPairs, ap, sym, subst, arith}
use Rattle.rel_formula.specs.Instance.{Includes}
use Rattle.samples.proofs.Exhaustive.SiftedLists.{Sifted, sifted_none, sifted_yes, sifted_no, sifted_all}
use Rattle.samples.proofs.exhaustive_search.instances.instances_above.Goals.{then-includes+in_ok-copy+in_ok-push, else-includes}
use Rattle.samples.proofs.exhaustive_search.instances.instances_above.Goals as goal

pub loop-scenario-init : goal.loop-scenario-init
loop-scenario-init c =
    let P : List ℕ → Type 0 = λ s. Includes s c.args.floor.now in
    subst (Sifted c.deref-scenario-items.result.now P 0) (sym c.new-above.ensures.items) (sifted_none c.deref-scenario-items.result.now P)

pub loop-scenario-preserved : goal.loop-scenario-preserved
loop-scenario-preserved c =
    let xs = c.deref-scenario-items.result.now in
    let i = c.loop-scenario.scenario-index in
    let x : List ℕ = c.scenario-item.result in
    let P : List ℕ → Type 0 = λ s. Includes s c.args.floor.now in
    let old = c.loop-scenario.above.items in
    let once : AllPairs (λ s t. s ≢ t) xs = subst (λ (ys : List (List ℕ)). AllPairs (λ s t. s ≢ t) ys) (sym c.deref-scenario-items.ensures.value) c.in_ok-all.ensures.once in
    elim c.if-includes.branch [
      | then-includes+in_ok-copy+in_ok-push w ↦
          let put : c.if-includes.above.items ≡ old ++ x ∷ [] =
          (let e = w.above-is in let f = w.in_ok-push.ensures.items in let h : c.if-includes.above.items ≡ old ++ w.in_ok-copy.field-0 ∷ [] = cc in h) ∙ ap (λ (s : List ℕ). old ++ s ∷ []) w.in_ok-copy.ensures in
          subst (Sifted xs P (i + 1)) (sym put) (sifted_yes xs i c.loop-scenario-test.true P x c.scenario-item.is old c.loop-scenario.invariant once (c.includes.ensures.0 w.if-includes.true))
      | else-includes w ↦
          let kept : c.if-includes.above.items ≡ old = let e = w.above-is in cc in
          subst (Sifted xs P (i + 1)) (sym kept) (sifted_no xs i c.loop-scenario-test.true P x c.scenario-item.is old c.loop-scenario.invariant
          (λ is. absurd (let h = c.includes.ensures.1 is in let g = w.if-includes.false in cc)))
    ]

pub returns : goal.returns
returns c =
    let xs = c.deref-scenario-items.result.now in
    let P : List ℕ → Type 0 = λ s. Includes s c.args.floor.now in
    let all = sifted_all xs P c.loop-scenario.scenario-index c.loop-scenario.above.items c.loop-scenario-test.false c.loop-scenario.invariant in
    let same = c.deref-scenario-items.ensures.value in
    record {
      all = λ s. (
        λ h.
            let g = (all s).0 h in
            ((c.in_ok-all.ensures.all s).0 (subst (λ (ys : List (List ℕ)). Contains ys s) same g.0), g.1),
        λ h. (all s).1 (subst (λ (ys : List (List ℕ)). Contains ys s) (sym same) ((c.in_ok-all.ensures.all s).1 h.0), h.1),
      );
      once = c.loop-scenario.invariant.once;
      few = let h = c.loop-scenario.invariant.short in let g = c.loop-scenario.auto.scenario-index-end in let e = ap length c.deref-scenario-items.ensures.value in let f = c.in_ok-all.ensures.few in omega arith;
    }
