use Rattle.std.proofs.Common.{◌≡◌, ◌<◌, ◌≤◌, ◌+◌, ◌-◌, ◌∙◌, ◌++◌, ◌∷◌, [], ℕ, Bool, true, false, List, length, replicate, get_or, Contains, IsTrue, ◌↔◌, ◌⊎◌, refl, sym, subst, ap, arith}
use Rattle.std.proofs.lemmas.List.{get_or_default}
use Rattle.cnf_core.specs.Valuation.{value_of}
use Rattle.refutation_check.specs.Part.{Parted}
use Rattle.rel_formula.specs.Bounds.{cells_of}
use Rattle.rel_formula.specs.Instance.{with_cell}
use Rattle.translation_rules.specs.Translation.{var_of}
use Rattle.translation_rules.specs.Offers.{IsPossible}
use Rattle.translation_rules.specs.Parts.{GoesOn, LastGoesOn, novel_in}
use Rattle.augmenter.specs.declared.search.Sought.{Sought}
use Rattle.augmenter.specs.Search.{part_in, IsSearchFor, IsRightFor, IsStoppedFor}
use Rattle.augmenter.specs.Offering.{AreTrials}
use Rattle.augmenter.proofs.OfferSearches.{Trying, counted, set_out, skipped, spent_trials, spent_all, refused, given, all_offers, others_refuted}
use Rattle.augmenter.proofs.MarkedCells.{written_back}
use Rattle.augmenter.proofs.offering.offers_on.Goals.{then-has-via-then-has, then-has-via-else-has+then-index, in-Possible+in_ok-push-in-Possible, in-Impossible+in_ok-push-in-Impossible}
use Rattle.augmenter.proofs.offering.offers_on.Goals as goal

pub loop-cell-init : goal.loop-cell-init
loop-cell-init c =
    let t = c.args.translation.now in
    let pool = c.args.pool.now in
    let scenario = c.args.scenario.now in
    let n = c.cells-cells.result in
    let count : n ≡ length (cells_of t.problem) = c.cells-cells.ensures.value ∙ ap (λ p. length (cells_of p)) c.problem-problem.ensures.value in
    record {
      trying =
          subst (λ (marks : List Bool). Trying t pool scenario c.args.budget 0 marks c.new-parts.result.items c.args.budget) (sym (c.in_ok-possible.ensures.items_if_clones_equal (λ y h. cc)))
          (subst (λ (parts : List Parted). Trying t pool scenario c.args.budget 0 (replicate n false) parts c.args.budget) (sym c.new-parts.ensures.items)
          (set_out t pool scenario c.args.budget n count));
      counted = omega arith;
      serves = c.requires.trail;
    }

pub loop-cell-preserved-then-has : goal.loop-cell-preserved-then-has
loop-cell-preserved-then-has c =
    let t = c.args.translation.now in
    let marks = c.loop-cell.possible.items in
    let in_range : c.loop-cell.cell < length (cells_of t.problem) = subst (λ n. c.loop-cell.cell < n) (c.cells-cells.ensures.value ∙ ap (λ p. length (cells_of p)) c.problem-problem.ensures.value) c.loop-cell-test.true in
    let within : c.loop-cell.cell < length marks = let e = c.loop-cell.invariant.trying.count in omega arith in
    let known : ((Contains c.args.scenario.now c.loop-cell.cell → ⊥) → get_or marks c.loop-cell.cell false ≡ true) = elim c.then-has.branch [
      | then-has-via-then-has w ↦ λ out. absurd (out (c.has.ensures.0 w.if-has.true))
      | then-has-via-else-has+then-index w ↦ λ out. get_or_default marks c.loop-cell.cell false w.index.result.now within ∙ sym w.index.ensures ∙ w.if-index.true
    ] in
    record {
      trying = skipped c.args.translation.now c.args.pool.now c.args.scenario.now c.args.budget c.loop-cell.cell marks c.loop-cell.parts.items c.loop-cell.left c.loop-cell.invariant.trying known;
      counted = c.loop-cell.invariant.counted;
      serves = c.loop-cell.invariant.serves;
    }

pub seek_on-requires-clause-trail : goal.seek_on-requires-clause-trail
seek_on-requires-clause-trail c = c.loop-cell.invariant.serves

pub seek_on-requires-clause-cell : goal.seek_on-requires-clause-cell
seek_on-requires-clause-cell c = subst (λ n. c.loop-cell.cell < n) (c.cells-cells.ensures.value ∙ ap (λ p. length (cells_of p)) c.problem-problem.ensures.value) c.loop-cell-test.true

pub seek_on-requires-clause-marks : goal.seek_on-requires-clause-marks
seek_on-requires-clause-marks c = ap length c.as_slice.ensures.value ∙ c.loop-cell.invariant.trying.count

pub returns-in-Spent-clause-parts : goal.returns-in-Spent-clause-parts
returns-in-Spent-clause-parts c =
    let t = c.args.translation.now in
    let pool = c.args.pool.now in
    let scenario = c.args.scenario.now in
    let cell = c.loop-cell.cell in
    let left = c.loop-cell.left in
    let in_range : cell < length (cells_of t.problem) = subst (λ n. cell < n) (c.cells-cells.ensures.value ∙ ap (λ p. length (cells_of p)) c.problem-problem.ensures.value) c.loop-cell-test.true in
    let absent : Contains scenario cell → ⊥ = λ there. let yes : c.has.result ≡ true = c.has.ensures.1 there in let no = c.if-has.false in absurd cc in
    let part : Parted = c.in-Spent.part in
    let search = subst (λ (s : Sought). IsSearchFor t pool (with_cell cell scenario) left (part_in s)) c.in-Spent.is c.in_ok-valuation.ensures.part in
    subst (AreTrials t pool scenario c.args.budget) (sym c.in_ok-push-in-Spent.ensures.items)
    (spent_trials t pool scenario c.args.budget cell c.loop-cell.possible.items c.loop-cell.parts.items left c.loop-cell.invariant.trying in_range absent c.requires.scenario part search)

pub returns-in-Spent-clause-answer : goal.returns-in-Spent-clause-answer
returns-in-Spent-clause-answer c =
    let t = c.args.translation.now in
    let pool = c.args.pool.now in
    let scenario = c.args.scenario.now in
    let cell = c.loop-cell.cell in
    let left = c.loop-cell.left in
    let in_range : cell < length (cells_of t.problem) = subst (λ n. cell < n) (c.cells-cells.ensures.value ∙ ap (λ p. length (cells_of p)) c.problem-problem.ensures.value) c.loop-cell-test.true in
    let absent : Contains scenario cell → ⊥ = λ there. let yes : c.has.result ≡ true = c.has.ensures.1 there in let no = c.if-has.false in absurd cc in
    let part : Parted = c.in-Spent.part in
    let search = subst (λ (s : Sought). IsSearchFor t pool (with_cell cell scenario) left (part_in s)) c.in-Spent.is c.in_ok-valuation.ensures.part in
    let answer = subst (IsRightFor t pool (with_cell cell scenario) left) c.in-Spent.is c.in_ok-valuation.ensures.answer in
    subst (λ (ps : List Parted). novel_in t pool ps ≡ c.args.budget) (sym c.in_ok-push-in-Spent.ensures.items)
    (spent_all t pool scenario c.args.budget cell c.loop-cell.possible.items c.loop-cell.parts.items left c.loop-cell.invariant.trying in_range absent c.requires.scenario part search answer.0)

pub returns-in-Spent-clause-stopped : goal.returns-in-Spent-clause-stopped
returns-in-Spent-clause-stopped c =
    let t = c.args.translation.now in
    let pool = c.args.pool.now in
    let part : Parted = c.in-Spent.part in
    let goes : GoesOn t pool part = subst (IsStoppedFor t pool) c.in-Spent.is c.in_ok-valuation.ensures.stopped in
    let last : LastGoesOn t pool (c.loop-cell.parts.items ++ part ∷ []) = record { before = c.loop-cell.parts.items; last = part; in_order = refl; goes_on = goes } in
    subst (LastGoesOn t pool) (sym c.in_ok-push-in-Spent.ensures.items) last

pub loop-cell-preserved : goal.loop-cell-preserved
loop-cell-preserved c =
    let t = c.args.translation.now in
    let pool = c.args.pool.now in
    let scenario = c.args.scenario.now in
    let cell = c.loop-cell.cell in
    let left = c.loop-cell.left in
    let in_range : cell < length (cells_of t.problem) = subst (λ n. cell < n) (c.cells-cells.ensures.value ∙ ap (λ p. length (cells_of p)) c.problem-problem.ensures.value) c.loop-cell-test.true in
    let absent : Contains scenario cell → ⊥ = λ there. let yes : c.has.result ≡ true = c.has.ensures.1 there in let no = c.if-has.false in absurd cc in
    record {
      serves = c.in_ok-valuation.ensures.trail;
      counted = elim c.match-branch-3.branch [
        | in-Possible+in_ok-push-in-Possible w ↦
            let rose = subst (λ (s : Sought). c.seek_on.new.count ≤ c.loop-cell.count + novel_in t pool (part_in s ∷ [])) w.in-Possible.is c.in_ok-valuation.ensures.novel in
            rw (w.parts-is, w.in_ok-push-in-Possible.ensures.items) (counted t pool c.loop-cell.parts.items w.in-Possible.part c.args.count.now c.loop-cell.count c.seek_on.new.count rose c.loop-cell.invariant.counted)
        | in-Impossible+in_ok-push-in-Impossible w ↦
            let rose = subst (λ (s : Sought). c.seek_on.new.count ≤ c.loop-cell.count + novel_in t pool (part_in s ∷ [])) w.in-Impossible.is c.in_ok-valuation.ensures.novel in
            rw (w.parts-is, w.in_ok-push-in-Impossible.ensures.items) (counted t pool c.loop-cell.parts.items w.in-Impossible.part c.args.count.now c.loop-cell.count c.seek_on.new.count rose c.loop-cell.invariant.counted)
      ];
      trying = elim c.match-branch-3.branch [
        | in-Possible+in_ok-push-in-Possible w ↦
            let part : Parted = w.in-Possible.part in
            let search = subst (λ (s : Sought). IsSearchFor t pool (with_cell cell scenario) left (part_in s)) w.in-Possible.is c.in_ok-valuation.ensures.part in
            let answer = subst (IsRightFor t pool (with_cell cell scenario) left) w.in-Possible.is c.in_ok-valuation.ensures.answer in
            let gives = answer.0 in
            let old : List Bool = c.loop-cell.possible.items in
            let new : List Bool = w.mark_true.new.marks in
            let long : length new ≡ length old = w.mark_true.ensures.count ∙ ap length w.as_mut_slice.ensures.value in
            let marked = subst (λ (marks : List Bool). (n : ℕ) → n < length marks → IsTrue (get_or new n false) ↔ (IsTrue (get_or marks n false) ⊎ IsTrue (value_of w.in-Possible.valuation (var_of n)))) w.as_mut_slice.ensures.value w.mark_true.ensures.marked in
            let spent : length w.steps.result.now ≡ length part.log = ap length (w.steps.ensures.steps ∙ w.log.ensures.log) in
            rw (w.possible-is, w.parts-is, w.left-is, w.in_ok-push-in-Possible.ensures.items)
            (subst (λ (marks : List Bool). Trying t pool scenario c.args.budget (cell + 1) marks (c.loop-cell.parts.items ++ part ∷ []) (left - length w.steps.result.now))
            (sym (written_back new old c.loop-cell.possible.len (sym w.as_mut_slice.ensures.len ∙ ap length w.as_mut_slice.ensures.value) long))
            (subst (λ n. Trying t pool scenario c.args.budget (cell + 1) new (c.loop-cell.parts.items ++ part ∷ []) (left - n)) (sym spent)
            (given t pool scenario c.args.budget cell old c.loop-cell.parts.items left c.loop-cell.invariant.trying in_range absent c.requires.scenario part search w.in-Possible.valuation gives new long marked)))
        | in-Impossible+in_ok-push-in-Impossible w ↦
            let part : Parted = w.in-Impossible.part in
            let search = subst (λ (s : Sought). IsSearchFor t pool (with_cell cell scenario) left (part_in s)) w.in-Impossible.is c.in_ok-valuation.ensures.part in
            let answer = subst (IsRightFor t pool (with_cell cell scenario) left) w.in-Impossible.is c.in_ok-valuation.ensures.answer in
            let none : IsPossible t.problem (with_cell cell scenario) → ⊥ = answer.0 in
            let spent : length w.steps-in-Impossible.result.now ≡ length part.log = ap length (w.steps-in-Impossible.ensures.steps ∙ w.log-in-Impossible.ensures.log) in
            rw (w.possible-is, w.parts-is, w.left-is, w.in_ok-push-in-Impossible.ensures.items)
            (subst (λ n. Trying t pool scenario c.args.budget (cell + 1) c.loop-cell.possible.items (c.loop-cell.parts.items ++ part ∷ []) (left - n)) (sym spent)
            (refused t pool scenario c.args.budget cell c.loop-cell.possible.items c.loop-cell.parts.items left c.loop-cell.invariant.trying in_range absent c.requires.scenario part search none answer.1))
      ];
    }

pub returns-clause-answer : goal.returns-clause-answer
returns-clause-answer c =
    let t = c.args.translation.now in
    let count : c.cells-cells.result ≡ length (cells_of t.problem) = c.cells-cells.ensures.value ∙ ap (λ p. length (cells_of p)) c.problem-problem.ensures.value in
    let end : c.loop-cell.cell ≡ length (cells_of t.problem) = let l = c.loop-cell-test.false in let k = c.loop-cell.auto.cell-end in omega arith in
    let exactly = rw c.as_slice-2.ensures.value at c.in_ok-cells.ensures.exactly in (
      all_offers t c.args.pool.now c.args.scenario.now c.args.budget c.loop-cell.cell c.loop-cell.possible.items c.loop-cell.parts.items c.loop-cell.left c.loop-cell.invariant.trying end c.in_ok-cells.cells.items exactly c.in_ok-cells.ensures.rising,
      others_refuted t c.args.pool.now c.args.scenario.now c.args.budget c.loop-cell.cell c.loop-cell.possible.items c.loop-cell.parts.items c.loop-cell.left c.loop-cell.invariant.trying end c.in_ok-cells.cells.items exactly,
    )

pub returns-in-Spent-clause-novel : goal.returns-in-Spent-clause-novel
returns-in-Spent-clause-novel c =
    let t = c.args.translation.now in
    let pool = c.args.pool.now in
    let rose = subst (λ (s : Sought). c.seek_on.new.count ≤ c.loop-cell.count + novel_in t pool (part_in s ∷ [])) c.in-Spent.is c.in_ok-valuation.ensures.novel in
    rw c.in_ok-push-in-Spent.ensures.items (counted t pool c.loop-cell.parts.items c.in-Spent.part c.args.count.now c.loop-cell.count c.seek_on.new.count rose c.loop-cell.invariant.counted)

pub returns-in-Spent-clause-spent : goal.returns-in-Spent-clause-spent
returns-in-Spent-clause-spent c = omega (arith, c.seek_on.ensures.spent, c.loop-cell.invariant.counted, c.loop-cell.invariant.trying.spent)

pub returns-clause-spent : goal.returns-clause-spent
returns-clause-spent c = omega (arith, c.loop-cell.invariant.counted, c.loop-cell.invariant.trying.spent)
