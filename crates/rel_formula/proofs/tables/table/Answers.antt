use Rattle.std.proofs.Common.{◌≡◌, ◌+◌, take, Some, slice_get, get_or, List, ℕ, refl, subst, sym, ap, ◌∙◌, arith, Contains, ◌↔◌, ◌⊎◌}
use Rattle.std.proofs.lemmas.List.{get_or_default}
use Rattle.tuple_core.specs.declared.atom.Atom.{Atom}
use Rattle.tuple_core.specs.Gains.{SomeGives}
use Rattle.tuple_core.specs.Operators.{Pred}
use Rattle.tuple_core.specs.Rows.{Rows, SetGains}
use Rattle.tuple_core.proofs.Steps.{set_more, set_skip, set_all, set_same, set_gained}
use Rattle.rel_formula.specs.declared.problem.Relation.{Relation}
use Rattle.rel_formula.specs.Bounds.{cell_of, cells_of}
use Rattle.rel_formula.proofs.Tabled.{cell_arity, cell_gives, cell_gives_none}
use Rattle.rel_formula.proofs.tables.table.Goals.{then-cell-number+in_ok-insert, else-cell-number}
use Rattle.rel_formula.proofs.tables.table.Goals as goal

pub insert-requires : goal.insert-requires
insert-requires c =
    let n = get_or c.numbers-chosen-items.result.now c.loop-chosen.chosen-index 0 in
    let x = c.cell-cell.result in
    let at : slice_get (cells_of c.args.problem.now) n ≡ Some (cell_of c.args.number x.tuple) = c.cell-cell.ensures ∙ ap (λ r. Some (cell_of r x.tuple)) c.if-cell-number.true in
    cell_arity c.args.problem.now n c.args.number x.tuple c.requires.well at
    ∙ ap (λ (r : Relation). r.lower.arity) (sym c.requires.relation) ∙ sym c.loop-chosen.invariant.arity

pub loop-chosen-preserved : goal.loop-chosen-preserved
loop-chosen-preserved c =
    let p = c.args.problem.now in
    let xs = c.numbers-chosen-items.result.now in
    let i = c.loop-chosen.chosen-index in
    let n = get_or xs i 0 in
    let x = c.cell-cell.result in
    let R : ℕ → Pred = λ k t. slice_get (cells_of p) k ≡ Some (cell_of c.args.number t) in
    let at : n ≡ get_or xs i n = get_or_default xs i 0 n c.loop-chosen-test.true in
    let G : Rows → Type 0 = λ s. SetGains c.args.relation.now.lower s (SomeGives (take (i + 1) xs) R) in
    elim c.if-cell-number.branch [
      | then-cell-number+in_ok-insert w ↦ subst G (sym w.set-is)
          (set_more xs i n R c.args.relation.now.lower c.loop-chosen.set w.insert.new.self c.loop-chosen-test.true at c.loop-chosen.invariant
          (set_same c.loop-chosen.set w.insert.new.self (λ t. t ≡ x.tuple) (R n) (cell_gives p n c.args.number x c.cell-cell.ensures w.if-cell-number.true)
          w.in_ok-insert.ensures.gains))
      | else-cell-number w ↦ subst G (sym w.set-is)
          (set_skip xs i n R c.args.relation.now.lower c.loop-chosen.set c.loop-chosen-test.true at c.loop-chosen.invariant
          (cell_gives_none p n c.args.number x c.cell-cell.ensures w.if-cell-number.false))
    ]

pub returns : goal.returns
returns c =
    let p = c.args.problem.now in
    let R : ℕ → Pred = λ k t. slice_get (cells_of p) k ≡ Some (cell_of c.args.number t) in
    let gained = set_all c.numbers-chosen-items.result.now c.loop-chosen.chosen-index R c.args.relation.now.lower c.loop-chosen.set (omega arith) c.loop-chosen.invariant in
    let chosen = subst (λ (xs : List ℕ). SetGains c.args.relation.now.lower c.loop-chosen.set (SomeGives xs R)) c.numbers-chosen-items.ensures.value gained in
    let set = set_gained c.args.relation.now.lower c.loop-chosen.set c.args.relation.now.lower.arity (SomeGives c.args.scenario.now R) refl chosen in
    record {
      arity_is = set.arity_is;
      just = subst (λ (r : Relation). (t : List Atom) → Contains c.loop-chosen.set.rows t ↔ (Contains r.lower.rows t ⊎ SomeGives c.args.scenario.now R t)) c.requires.relation set.just;
    }
