use Rattle.std.proofs.Common.{◌≡◌, subst, sym, ◌∙◌, reverse, List, refl, ◌∷◌, length, All, IsTrue, ◌↔◌, rules, arith, take, ap, ◌+◌, ◌*◌, ◌<◌}
use Rattle.std.specs.List.{Any}
use Rattle.std.proofs.lemmas.List.{length_push}
use denote.Param.Weighed.{most}
use Rattle.tuple_core.specs.declared.atom.Atom.{Atom}
use Rattle.tuple_core.specs.Operators.{Pred}
use Rattle.tuple_core.specs.Rows.{Rows, IsRows, IsSetOf}
use Rattle.tuple_core.proofs.Steps.{then_same, all_step, all_done, all_no}
use Rattle.rel_formula.specs.declared.formula.Formula.{Formula}
use Rattle.rel_formula.specs.declared.connectives.Quantifier.{Quantifier}
use Rattle.rel_formula.specs.declared.connectives.Quantifier.TheVariants as quantifier
use Rattle.rel_formula.specs.Kernel.{FormulaTree}
use Rattle.rel_formula.specs.View.{expression_tree, formula_tree}
use Rattle.rel_formula.specs.Meaning.{Structure, InValue, HoldsFor, Truth}
use Rattle.rel_formula.specs.Evaluation.{HoldsOf, IsTrueAt, IsTrueAtRows}
use Rattle.rel_formula.specs.Shape.{arity_of, IsProper}
use Rattle.rel_formula.specs.Tables.{Tabled, arities, tabled}
use Rattle.rel_formula.proofs.formula.Formula.TheLaws.{the_size}
use Rattle.rel_formula.proofs.Smaller.{part_falls, row_falls, item_falls, rank_falls, negation_smaller, junction_smaller, quantified_smaller}
use Rattle.rel_formula.proofs.Counts.{distinct}
use Rattle.rel_formula.proofs.AndOrParts.{Truth-Junction, IsProper-Junction}
use Rattle.rel_formula.proofs.Loops.{any_none, found_first, found_none, found_two, none_two, for_all_is, for_some_is, for_two_is, says_not}
use Rattle.rel_formula.proofs.evaluate.+truth.Goals.{true_for_at_most_one-then-holds+else-found, true_for_at_most_one-else-holds}
use Rattle.rel_formula.proofs.evaluate.+truth.Goals as goal

-- p holds exactly where f is true
abbrev Tells : Tabled → List Atom → Type 0 → Formula → Type 0
Tells tables env p f = p ↔ Truth (tabled tables) (reverse env) (formula_tree f)

-- and where it is true at this tuple
abbrev TellsAt : Tabled → List Atom → List Atom → Type 0 → Formula → Type 0
TellsAt tables row env p f = p ↔ IsTrueAt (tabled tables) (reverse env) (formula_tree f) row

-- at the rows of a set of atoms, and at the atoms
for_so_many : (q : Quantifier) (v : Rows) (P : Pred) (M : Structure) (env : List Atom) (f : FormulaTree) → IsSetOf v 1 P → IsRows v →
    IsTrueAtRows q M env f v.rows ↔ HoldsFor q P (λ a. Truth M (a ∷ env) f)
for_so_many quantifier.All v P M env f is well = for_all_is v P (λ a. Truth M (a ∷ env) f) is well.arities
for_so_many quantifier.Exists v P M env f is well = for_some_is v P (λ a. Truth M (a ∷ env) f) is well.arities
for_so_many quantifier.Lone v P M env f is well = for_two_is v P (λ a. Truth M (a ∷ env) f) is well.arities (distinct v.rows well.ascending)

-- the ranks of the functions: the one at an atom is 1 above that of a formula, and so on
two_below_four : 2 < 4
two_below_four = omega arith

three_below_four : 3 < 4
three_below_four = omega arith

-- where the formula is proper under these variables, or under one more
abbrev ProperWith : Tabled → List Atom → Formula → Type 0
ProperWith tables env f = IsProper (arities tables) (length env) (formula_tree f)

abbrev ProperUnder : Tabled → List Atom → Formula → Type 0
ProperUnder tables env f = IsProper (arities tables) (length env + 1) (formula_tree f)

pub all_true-loop-part-preserved : goal.all_true-loop-part-preserved
all_true-loop-part-preserved t c =
    let P : Formula → Type 0 = λ f. Truth (tabled c.args.tables.now) (reverse c.args.env.now.items) (formula_tree f) in
    let x = c.part-item.result in
    let told = subst (λ es. Tells c.args.tables.now es (IsTrue c.in_ok-holds.holds) x) c.loop-part.invariant.env c.in_ok-holds.ensures.truth in
    record {
      env = c.in_ok-holds.ensures.env ∙ c.loop-part.invariant.env;
      all = all_step P c.args.parts.now c.loop-part.part-index x c.loop-part-test.true c.part-item.is c.loop-part.invariant.all (told.0 c.if-not-holds.false);
    }

pub all_true-returns-clause-truth : goal.all_true-returns-clause-truth
all_true-returns-clause-truth t c =
    let P : Formula → Type 0 = λ f. Truth (tabled c.args.tables.now) (reverse c.args.env.now.items) (formula_tree f) in
    (λ e. all_done P c.args.parts.now c.loop-part.part-index c.loop-part-test.false c.loop-part.invariant.all, λ h. refl)

pub true_for_all-returns-then-not-holds-clause-truth : goal.true_for_all-returns-then-not-holds-clause-truth
true_for_all-returns-then-not-holds-clause-truth t c =
    let P = IsTrueAt (tabled c.args.tables.now) (reverse c.args.env.now.items) (formula_tree c.args.f.now) in
    let x = c.row-item.result in
    let told = subst (λ es. TellsAt c.args.tables.now x es (IsTrue c.in_ok-holds.holds) c.args.f.now) c.loop-row.invariant.env c.in_ok-holds.ensures.truth in
    (λ e. absurd (cc), λ all. absurd (all_no P c.args.rows.now c.loop-row.row-index x c.loop-row-test.true c.row-item.is (says_not c.in_ok-holds.holds told c.if-not-holds.true) all))

pub true_for_all-loop-row-preserved : goal.true_for_all-loop-row-preserved
true_for_all-loop-row-preserved t c =
    let P = IsTrueAt (tabled c.args.tables.now) (reverse c.args.env.now.items) (formula_tree c.args.f.now) in
    let x = c.row-item.result in
    let told = subst (λ es. TellsAt c.args.tables.now x es (IsTrue c.in_ok-holds.holds) c.args.f.now) c.loop-row.invariant.env c.in_ok-holds.ensures.truth in
    record {
      env = c.in_ok-holds.ensures.env ∙ c.loop-row.invariant.env;
      all = all_step P c.args.rows.now c.loop-row.row-index x c.loop-row-test.true c.row-item.is c.loop-row.invariant.all (told.0 c.if-not-holds.false);
    }

pub true_for_all-returns-clause-truth : goal.true_for_all-returns-clause-truth
true_for_all-returns-clause-truth t c =
    let P = IsTrueAt (tabled c.args.tables.now) (reverse c.args.env.now.items) (formula_tree c.args.f.now) in
    (λ e. all_done P c.args.rows.now c.loop-row.row-index c.loop-row-test.false c.loop-row.invariant.all, λ h. refl)

pub true_for_some-loop-row-preserved : goal.true_for_some-loop-row-preserved
true_for_some-loop-row-preserved t c =
    let P = IsTrueAt (tabled c.args.tables.now) (reverse c.args.env.now.items) (formula_tree c.args.f.now) in
    let x = c.row-item.result in
    let told = subst (λ es. TellsAt c.args.tables.now x es (IsTrue c.in_ok-holds.holds) c.args.f.now) c.loop-row.invariant.env c.in_ok-holds.ensures.truth in
    record {
      env = c.in_ok-holds.ensures.env ∙ c.loop-row.invariant.env;
      none = all_step (λ row. P row → ⊥) c.args.rows.now c.loop-row.row-index x c.loop-row-test.true c.row-item.is c.loop-row.invariant.none (says_not c.in_ok-holds.holds told c.if-holds.false);
    }

pub true_for_some-returns-clause-truth : goal.true_for_some-returns-clause-truth
true_for_some-returns-clause-truth t c =
    let P = IsTrueAt (tabled c.args.tables.now) (reverse c.args.env.now.items) (formula_tree c.args.f.now) in
    any_none P c.args.rows.now c.loop-row.row-index c.loop-row-test.false c.loop-row.invariant.none

pub true_for_at_most_one-returns-then-found-clause-truth : goal.true_for_at_most_one-returns-then-found-clause-truth
true_for_at_most_one-returns-then-found-clause-truth t c =
    let P = IsTrueAt (tabled c.args.tables.now) (reverse c.args.env.now.items) (formula_tree c.args.f.now) in
    let x = c.row-item.result in
    let told = subst (λ es. TellsAt c.args.tables.now x es (IsTrue c.in_ok-holds.holds) c.args.f.now) c.loop-row.invariant.env c.in_ok-holds.ensures.truth in (
      λ e. absurd (cc),
      λ two. absurd (found_two P c.args.rows.now c.loop-row.row-index x c.loop-row-test.true c.row-item.is (told.0 c.if-holds.true) (c.loop-row.invariant.found.0 c.if-found.true) two),
    )

pub true_for_at_most_one-loop-row-preserved : goal.true_for_at_most_one-loop-row-preserved
true_for_at_most_one-loop-row-preserved t c =
    let P = IsTrueAt (tabled c.args.tables.now) (reverse c.args.env.now.items) (formula_tree c.args.f.now) in
    let x = c.row-item.result in
    let xs = c.args.rows.now in
    let i = c.loop-row.row-index in
    let told = subst (λ es. TellsAt c.args.tables.now x es (IsTrue c.in_ok-holds.holds) c.args.f.now) c.loop-row.invariant.env c.in_ok-holds.ensures.truth in
    let env = c.in_ok-holds.ensures.env ∙ c.loop-row.invariant.env in
    elim c.if-holds.branch [
      | true_for_at_most_one-then-holds+else-found w ↦
          let step = found_first P xs i x c.loop-row-test.true c.row-item.is (told.0 w.if-holds.true) (says_not c.loop-row.found c.loop-row.invariant.found w.if-found.false) c.loop-row.invariant.lone in
          record {
            env = env;
            found = (λ e. step.0, λ a. w.found-is);
            lone = step.1;
          }
      | true_for_at_most_one-else-holds w ↦
          let step = found_none P xs i x c.loop-row-test.true c.row-item.is (says_not c.in_ok-holds.holds told w.if-holds.false) c.loop-row.invariant.lone in
          record {
            env = env;
            found = subst (λ b. IsTrue b ↔ Any P (take (i + 1) xs)) (sym w.found-is) (then_same c.loop-row.invariant.found step.0);
            lone = step.1;
          }
    ]

pub true_for_at_most_one-returns-clause-truth : goal.true_for_at_most_one-returns-clause-truth
true_for_at_most_one-returns-clause-truth t c =
    let P = IsTrueAt (tabled c.args.tables.now) (reverse c.args.env.now.items) (formula_tree c.args.f.now) in
    (λ e. none_two P c.args.rows.now c.loop-row.row-index c.loop-row-test.false c.loop-row.invariant.lone, λ h. refl)

pub true_for-returns-in_ok-true_for_at_most_one-in-Lone-clause-truth : goal.true_for-returns-in_ok-true_for_at_most_one-in-Lone-clause-truth
true_for-returns-in_ok-true_for_at_most_one-in-Lone-clause-truth t c =
    subst (λ (q : Quantifier). IsTrue c.in_ok-true_for_at_most_one-in-Lone.field-0 ↔ IsTrueAtRows q (tabled c.args.tables.now) (reverse c.args.env.now.items) (formula_tree c.args.f.now) c.args.rows.now)
    (sym c.in-Lone.is) c.in_ok-true_for_at_most_one-in-Lone.ensures.truth

pub truth-true_of-requires : goal.truth-true_of-requires
truth-true_of-requires t c =
    let ns = arities c.args.tables.now in
    let d = length c.args.env.now.items in
    (row_falls the_size 4 2 0 t two_below_four _ _ c.decreases c.in-Junction.is _ _ c.deref-in-Junction.ensures.value (junction_smaller _ _), subst (All (λ (f : Formula). IsProper ns d (formula_tree f))) (sym c.deref-in-Junction.ensures.value) ((IsProper-Junction ns d c.in-Junction.connective c.in-Junction.parts).0 (subst (λ (f : Formula). IsProper ns d (formula_tree f)) c.in-Junction.is c.requires.proper)))

pub truth-returns-in_ok-true_of-in-Junction-clause-truth : goal.truth-returns-in_ok-true_of-in-Junction-clause-truth
truth-returns-in_ok-true_of-in-Junction-clause-truth t c =
    let M = tabled c.args.tables.now in
    let env = reverse c.args.env.now.items in
    let told = subst (λ (fs : List Formula). IsTrue c.in_ok-true_of-in-Junction.field-0 ↔ HoldsOf c.in-Junction.connective (λ (f : Formula). Truth M env (formula_tree f)) fs) c.deref-in-Junction.ensures.value c.in_ok-true_of-in-Junction.ensures.truth in
    let parts = Truth-Junction M env c.in-Junction.connective c.in-Junction.parts in
    subst (Tells c.args.tables.now c.args.env.now.items (IsTrue c.in_ok-true_of-in-Junction.field-0)) (sym c.in-Junction.is) (then_same told (parts.1, parts.0))

pub truth-returns-in_ok-true_for-in-Quantified-clause-truth : goal.truth-returns-in_ok-true_for-in-Quantified-clause-truth
truth-returns-in_ok-true_for-in-Quantified-clause-truth t c =
    let M = tabled c.args.tables.now in
    let env = reverse c.args.env.now.items in
    let q = c.in-Quantified.quantifier in
    let e = expression_tree c.in-Quantified.e in
    let g = formula_tree c.in-Quantified.g.value in
    let holds = IsTrue c.in_ok-true_for-in-Quantified.field-0 in
    let formed = subst (λ (f : Formula). IsProper (arities c.args.tables.now) (length c.args.env.now.items) (formula_tree f)) c.in-Quantified.is c.requires.proper in
    let set = subst (λ xs. IsSetOf c.in_ok-domain-in-Quantified.domain (arity_of (arities c.args.tables.now) e) (InValue M (reverse xs) e)) c.as_slice-in-Quantified.ensures.value c.in_ok-domain-in-Quantified.ensures in
    let domain = subst (λ n. IsSetOf c.in_ok-domain-in-Quantified.domain n (InValue M env e)) formed.1 set in
    let told = subst (λ (f : Formula). holds ↔ IsTrueAtRows q M env (formula_tree f) c.rows.result.now) c.deref-in-Quantified.ensures c.in_ok-true_for-in-Quantified.ensures.truth in
    let rows = subst (λ zs. holds ↔ IsTrueAtRows q M env g zs) c.rows.ensures.value told in
    subst (Tells c.args.tables.now c.args.env.now.items holds) (sym c.in-Quantified.is)
    (then_same rows (for_so_many q c.in_ok-domain-in-Quantified.domain (InValue M env e) M env g domain c.rows.ensures.well))

pub truth-truth-requires : goal.truth-truth-requires
truth-truth-requires t c =
    let P : Formula → Type 0 = ProperWith c.args.tables.now c.args.env.now.items in
    (part_falls the_size 4 0 0 t (omega arith) _ _ c.decreases c.in-Not.is _ _ c.deref.ensures (negation_smaller _), subst P (sym c.deref.ensures) (subst P c.in-Not.is c.requires.proper))

pub truth-true_for-requires : goal.truth-true_for-requires
truth-true_for-requires t c =
    let ns = arities c.args.tables.now in
    let d = length c.args.env.now.items in
    let formed = subst (λ (f : Formula). IsProper ns d (formula_tree f)) c.in-Quantified.is c.requires.proper in (
      part_falls the_size 4 3 0 t three_below_four _ _ c.decreases c.in-Quantified.is _ _ c.deref-in-Quantified.ensures (quantified_smaller _ _ _),
      (
        subst (λ (f : Formula). IsProper ns (d + 1) (formula_tree f)) (sym c.deref-in-Quantified.ensures) formed.2,
        (let one = formed.1 in search rules),
      ),
    )

pub true_of-all_true-requires : goal.true_of-all_true-requires
true_of-all_true-requires t c = (rank_falls (4 * most the_size c.args.parts.now) 1 2 t (omega arith) c.decreases, c.requires.proper)

pub all_true-truth-requires : goal.all_true-truth-requires
all_true-truth-requires t c =
    let x = c.part-item.result in (
      item_falls the_size 4 0 1 t (omega arith) c.args.parts.now c.loop-part.part-index x c.decreases c.loop-part-test.true c.part-item.is,
      subst (λ es. ProperWith c.args.tables.now es x) (sym c.loop-part.invariant.env) (subst (ProperWith c.args.tables.now c.args.env.now.items) (sym c.part-item.is) (c.requires.proper c.loop-part.part-index x c.loop-part-test.true)),
    )

pub true_of-any_true-requires : goal.true_of-any_true-requires
true_of-any_true-requires t c = (rank_falls (4 * most the_size c.args.parts.now) 1 2 t (omega arith) c.decreases, c.requires.proper)

pub any_true-truth-requires : goal.any_true-truth-requires
any_true-truth-requires t c =
    let x = c.part-item.result in (
      item_falls the_size 4 0 1 t (omega arith) c.args.parts.now c.loop-part.part-index x c.decreases c.loop-part-test.true c.part-item.is,
      subst (λ es. ProperWith c.args.tables.now es x) (sym c.loop-part.invariant.env) (subst (ProperWith c.args.tables.now c.args.env.now.items) (sym c.part-item.is) (c.requires.proper c.loop-part.part-index x c.loop-part-test.true)),
    )

pub true_for-true_for_all-requires : goal.true_for-true_for_all-requires
true_for-true_for_all-requires t c = (rank_falls (4 * the_size c.args.f.now) 2 3 t (omega arith) c.decreases, (c.requires.proper, c.requires.single))

pub true_for_all-true_at-requires : goal.true_for_all-true_at-requires
true_for_all-true_at-requires t c =
    let x = c.row-item.result in (
      rank_falls (4 * the_size c.args.f.now) 1 2 t (omega arith) c.decreases,
      (
        subst (λ es. ProperUnder c.args.tables.now es c.args.f.now) (sym c.loop-row.invariant.env) c.requires.proper,
        subst (λ (row : List Atom). length row ≡ 1) (sym c.row-item.is) (c.requires.single c.loop-row.row-index x c.loop-row-test.true),
      ),
    )

pub true_for-true_for_some-requires : goal.true_for-true_for_some-requires
true_for-true_for_some-requires t c = (rank_falls (4 * the_size c.args.f.now) 2 3 t (omega arith) c.decreases, (c.requires.proper, c.requires.single))

pub true_for_some-true_at-requires : goal.true_for_some-true_at-requires
true_for_some-true_at-requires t c =
    let x = c.row-item.result in (
      rank_falls (4 * the_size c.args.f.now) 1 2 t (omega arith) c.decreases,
      (
        subst (λ es. ProperUnder c.args.tables.now es c.args.f.now) (sym c.loop-row.invariant.env) c.requires.proper,
        subst (λ (row : List Atom). length row ≡ 1) (sym c.row-item.is) (c.requires.single c.loop-row.row-index x c.loop-row-test.true),
      ),
    )

pub true_for-true_for_at_most_one-requires : goal.true_for-true_for_at_most_one-requires
true_for-true_for_at_most_one-requires t c = (rank_falls (4 * the_size c.args.f.now) 2 3 t (omega arith) c.decreases, (c.requires.proper, c.requires.single))

pub true_for_at_most_one-true_at-requires : goal.true_for_at_most_one-true_at-requires
true_for_at_most_one-true_at-requires t c =
    let x = c.row-item.result in (
      rank_falls (4 * the_size c.args.f.now) 1 2 t (omega arith) c.decreases,
      (
        subst (λ es. ProperUnder c.args.tables.now es c.args.f.now) (sym c.loop-row.invariant.env) c.requires.proper,
        subst (λ (row : List Atom). length row ≡ 1) (sym c.row-item.is) (c.requires.single c.loop-row.row-index x c.loop-row-test.true),
      ),
    )

pub true_at-truth-requires : goal.true_at-truth-requires
true_at-truth-requires t c =
    let more = ap length c.in_ok-push.ensures.items ∙ length_push c.args.env.now.items c.first.result in
    (rank_falls (4 * the_size c.args.f.now) 0 1 t (omega arith) c.decreases, subst (λ n. IsProper (arities c.args.tables.now) n (formula_tree c.args.f.now)) (sym more) c.requires.proper)
