use Rattle.std.proofs.Common.{◌≡◌, true, false, ℕ, List, get_or, refl, arith, slice_get, Some, Contains}
use Rattle.std.proofs.lemmas.List.{get_or_default}
use Rattle.std.proofs.lemmas.List.Elements.{All-contains, Contains-get_or}
use Rattle.tuple_core.specs.declared.atom.Atom.{Atom}
use Rattle.tuple_core.proofs.Steps.{all_step, all_done}
use Rattle.rel_formula.specs.Bounds.{Bounded, cell_of, cells_of}
use Rattle.swap_symmetry.proofs.settled.stands_in.Goals as goal

-- the atom stands in no cell of this number
abbrev StandsNotIn : Bounded → Atom → ℕ → Type 0
StandsNotIn p a n = (r : ℕ) (t : List Atom) → slice_get (cells_of p) n ≡ Some (cell_of r t) → Contains t a → ⊥

pub returns-then-cell_has : goal.returns-then-cell_has
returns-then-cell_has c =
    let xs = c.args.numbers.now in
    let i = c.loop-number.number-index in (
      λ e. let h = c.cell_has.ensures.0 c.if-cell_has.true in (h.0, h.1, (get_or xs i 0, Contains-get_or xs i 0 c.loop-number-test.true, h.2), h.3),
      λ h. refl,
    )

pub loop-number-preserved : goal.loop-number-preserved
loop-number-preserved c =
    let xs = c.args.numbers.now in
    let i = c.loop-number.number-index in
    let n = get_or xs i 0 in
    all_step (StandsNotIn c.args.problem.now c.args.atom) xs i n c.loop-number-test.true (get_or_default xs i 0 n c.loop-number-test.true) c.loop-number.invariant
    (λ r t e d. absurd (let yes = c.cell_has.ensures.1 (r, t, e, d) in let no = c.if-cell_has.false in cc))

pub returns : goal.returns
returns c =
    let P = StandsNotIn c.args.problem.now c.args.atom in
    let all = all_done P c.args.numbers.now c.loop-number.number-index (omega arith) c.loop-number.invariant in (
      λ e. absurd (let h : false ≡ true = e in cc),
      λ h. absurd (All-contains P c.args.numbers.now h.2.0 all h.2.1 h.0 h.1 h.2.2 h.3),
    )
