use Rattle.std.proofs.Common.{◌≡◌, ◌≢◌, ◌+◌, ◌∙◌, ◌↔◌, ◌++◌, ◌∷◌, [], List, ℕ, length, Contains, AllPairs, ap, sym, subst, arith}
use Rattle.rel_formula.specs.Instance.{IsInstance, Includes}
use Rattle.swap_symmetry.specs.Due.{IsDue}
use Rattle.samples.proofs.Exhaustive.SiftedLists.{Sifted, sifted_none, sifted_yes, sifted_no, sifted_all}
use Rattle.samples.proofs.exhaustive_search.due.all_due_at.Goals.{then-is_due+in_ok-copy+in_ok-push, else-is_due}
use Rattle.samples.proofs.exhaustive_search.due.all_due_at.Goals as goal

pub is_due-requires : goal.is_due-requires
is_due-requires c =
    let i = c.loop-scenario.scenario-index in
    let x : List ℕ = c.scenario-item.result in
    let there : Contains c.deref-scenario-items.result.now x = (i, c.loop-scenario-test.true, sym c.scenario-item.is) in
    let one = (c.in_ok-instances.ensures.all x).0 (subst (λ (ys : List (List ℕ)). Contains ys x) c.deref-scenario-items.ensures.value there) in
    record {
      instances = subst (λ (ys : List (List ℕ)). (s : List ℕ) → Contains ys s ↔ (IsInstance c.args.problem.now s × Includes s c.args.floor.now)) (sym c.deref.ensures.value) c.in_ok-instances.ensures.all;
      one = one.0;
      above = one.1;
    }

pub loop-scenario-init : goal.loop-scenario-init
loop-scenario-init c =
    let P = IsDue c.args.problem.now c.args.floor.now in
    subst (Sifted c.deref-scenario-items.result.now P 0) (sym c.new-due.ensures.items) (sifted_none c.deref-scenario-items.result.now P)

pub loop-scenario-preserved : goal.loop-scenario-preserved
loop-scenario-preserved c =
    let xs = c.deref-scenario-items.result.now in
    let i = c.loop-scenario.scenario-index in
    let x : List ℕ = c.scenario-item.result in
    let P = IsDue c.args.problem.now c.args.floor.now in
    let old = c.loop-scenario.due.items in
    let once : AllPairs (λ s t. s ≢ t) xs = subst (λ (ys : List (List ℕ)). AllPairs (λ s t. s ≢ t) ys) (sym c.deref-scenario-items.ensures.value) c.in_ok-instances.ensures.once in
    elim c.if-is_due.branch [
      | then-is_due+in_ok-copy+in_ok-push w ↦
          let put : c.if-is_due.due.items ≡ old ++ x ∷ [] =
          (let e = w.due-is in let f = w.in_ok-push.ensures.items in let h : c.if-is_due.due.items ≡ old ++ w.in_ok-copy.field-0 ∷ [] = cc in h) ∙ ap (λ (s : List ℕ). old ++ s ∷ []) w.in_ok-copy.ensures in
          subst (Sifted xs P (i + 1)) (sym put) (sifted_yes xs i c.loop-scenario-test.true P x c.scenario-item.is old c.loop-scenario.invariant once (c.is_due.ensures.0 w.if-is_due.true))
      | else-is_due w ↦
          let kept : c.if-is_due.due.items ≡ old = let e = w.due-is in cc in
          subst (Sifted xs P (i + 1)) (sym kept) (sifted_no xs i c.loop-scenario-test.true P x c.scenario-item.is old c.loop-scenario.invariant
          (λ is. absurd (let h = c.is_due.ensures.1 is in let g = w.if-is_due.false in cc)))
    ]

pub returns : goal.returns
returns c =
    let xs = c.deref-scenario-items.result.now in
    let P = IsDue c.args.problem.now c.args.floor.now in
    let all = sifted_all xs P c.loop-scenario.scenario-index c.loop-scenario.due.items c.loop-scenario-test.false c.loop-scenario.invariant in
    record {
      all = λ s. (
        λ h. ((all s).0 h).1,
        λ due.
            let there = (c.in_ok-instances.ensures.all s).1 (due.minimal.instance_of, due.minimal.above) in
            (all s).1 (subst (λ (ys : List (List ℕ)). Contains ys s) (sym c.deref-scenario-items.ensures.value) there, due),
      );
      once = c.loop-scenario.invariant.once;
      few = let h = c.loop-scenario.invariant.short in let g = c.loop-scenario.auto.scenario-index-end in let e = ap length c.deref-scenario-items.ensures.value in let f = c.in_ok-instances.ensures.few in omega arith;
    }
