use Rattle.std.proofs.Common.{◌≡◌, length, get_or, arith, refl, ap, rules, false}
use Rattle.std.proofs.lemmas.List.Sorted.{IsNonDecreasingBy-from_sort_by_key}
use Rattle.std.proofs.lemmas.List.Elements.{Contains-get_or, All-contains}
use Rattle.std.specs.List.Sorted.{IsNonDecreasingBy}
use Rattle.std.specs.List.{Contains}
use Rattle.cnf_core.specs.declared.literal.Lit.{Lit}
use Rattle.cnf_core.specs.Literal.{negation_of}
use Rattle.cnf_core.proofs.clause.Clause.of.Goals as goal
use Rattle.cnf_core.proofs.clause.Clause.of.Goals.{in-Some+else-last-lit-2, in_default+in_ok-push-in_default, in_default-via-in-Some+else-last-lit, in_default-via-in_default}
use Rattle.cnf_core.proofs.Literals.{lit_equal, signs_differ, signs_agree}
use Rattle.cnf_core.proofs.KeptLiterals.{keeps_again, keeps_push, keeps_same, keeps_no_tautology, last_kept, last_below, moved, moved_back, keeps_variables}

pub returns-then-last-lit-2-clause-none : goal.returns-then-last-lit-2-clause-none
returns-then-last-lit-2-clause-none c =
    let item = c.in-Some.ensures.item in
    let kept = last_kept _ _ c.in-Some.last.now c.deref.ensures.value item.3.0 item.3.1 in
    let back = moved_back _ _ _ _ c.in_ok-sorted.ensures.items c.in_ok-sort_by_key.ensures.permutation c.deref-lit-items.ensures.value in
    let opposite : c.in-Some.last.now ≡ negation_of (get_or c.deref-lit-items.result.now c.loop-lit.lit-index (record { var = 0; positive = false })) = lit_equal _ _ c.if-last-lit.true (signs_differ _ _ c.if-last-lit-2.true) in
    let last_in = All-contains (Contains c.deref-lit-items.result.now) _ c.in-Some.last.now c.loop-lit.invariant.from_items kept in (
      λ _. (
        get_or c.deref-lit-items.result.now c.loop-lit.lit-index (record { var = 0; positive = false }),
        back _ (Contains-get_or c.deref-lit-items.result.now c.loop-lit.lit-index _ c.loop-lit-test.true),
        rw opposite at (back c.in-Some.last.now last_in),
      ),
      λ _. refl,
    )

pub loop-lit-preserved : goal.loop-lit-preserved
loop-lit-preserved c =
    let sorted' = IsNonDecreasingBy-from_sort_by_key (λ (l : Lit). l.var) _ c.in_ok-sort_by_key.ensures.sorted (λ a r q k. search rules) in
    let sorted : IsNonDecreasingBy (λ (l : Lit). l.var) c.deref-lit-items.result.now = rw c.deref-lit-items.ensures.value sorted' in
    elim c.match-last.branch [
      | in-Some+else-last-lit-2 w ↦
          let item = w.in-Some.ensures.item in
          rw w.kept-is (keeps_again _ _ _ c.loop-lit-test.true c.loop-lit.invariant (record { var = 0; positive = false }) w.in-Some.last.now
          (last_kept _ _ w.in-Some.last.now c.deref.ensures.value item.3.0 item.3.1)
          (lit_equal _ _ w.if-last-lit.true (signs_agree _ _ w.if-last-lit-2.false)))
      | in_default+in_ok-push-in_default w ↦ let e = w.in_ok-push-in_default.ensures.items in
          rw (w.kept-is, e) (keeps_push _ _ _ c.loop-lit-test.true c.loop-lit.invariant (record { var = 0; positive = false }) sorted
          (elim w.in_default.branch [
            | in_default-via-in-Some+else-last-lit w' ↦ let item = w'.in-Some.ensures.item in
                last_below _ _ _ c.loop-lit-test.true c.loop-lit.invariant (record { var = 0; positive = false }) _ w'.in-Some.last.now c.deref.ensures.value item.3.0 item.3.1 w'.if-last-lit.false
            | in_default-via-in_default w' ↦ let item = w'.in_default.ensures.item in let same = ap length c.deref.ensures.value in λ k d h. absurd (omega (arith, item.3, same))
          ]))
    ]

pub in_order-requires : goal.in_order-requires
in_order-requires c =
    let back = moved_back _ _ _ _ c.in_ok-sorted.ensures.items c.in_ok-sort_by_key.ensures.permutation c.deref-lit-items.ensures.value in
    record { rising = c.loop-lit.invariant.rising; variables = keeps_variables _ _ _ back c.requires c.loop-lit.invariant.from_items }

pub returns-clause-clause : goal.returns-clause-clause
returns-clause-clause c =
    let back = moved_back _ _ _ _ c.in_ok-sorted.ensures.items c.in_ok-sort_by_key.ensures.permutation c.deref-lit-items.ensures.value in
    rw c.in_order.ensures (record { rising = c.loop-lit.invariant.rising; variables = keeps_variables _ _ _ back c.requires c.loop-lit.invariant.from_items })

pub returns-clause-none : goal.returns-clause-none
returns-clause-none c =
    let forth = moved _ _ _ _ c.in_ok-sorted.ensures.items c.in_ok-sort_by_key.ensures.permutation c.deref-lit-items.ensures.value in
    (λ h. cc, λ t. absurd (keeps_no_tautology _ _ _ (omega arith) c.loop-lit.invariant (t.0, forth _ t.1, forth _ t.2)))

pub returns-clause-same : goal.returns-clause-same
returns-clause-same c =
    let forth = moved _ _ _ _ c.in_ok-sorted.ensures.items c.in_ok-sort_by_key.ensures.permutation c.deref-lit-items.ensures.value in
    let back = moved_back _ _ _ _ c.in_ok-sorted.ensures.items c.in_ok-sort_by_key.ensures.permutation c.deref-lit-items.ensures.value in
    rw c.in_order.ensures (λ l. (λ h. keeps_same _ _ _ (omega arith) c.loop-lit.invariant l (forth l h), λ h. back l (All-contains (Contains c.deref-lit-items.result.now) _ l c.loop-lit.invariant.from_items h)))
