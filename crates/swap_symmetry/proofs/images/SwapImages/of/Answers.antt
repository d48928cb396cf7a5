use Rattle.std.proofs.Common.{◌≡◌, ◌∙◌, ◌+◌, ◌<◌, ◌↔◌, ℕ, [], ◌∷◌, ◌++◌, List, Contains, length, map, get_or, sym, ap, subst}
use Rattle.std.proofs.lemmas.List.{take_all}
use Rattle.std.proofs.lemmas.List.Elements.{All-push}
use Rattle.tuple_core.specs.declared.atom.Atom.{Atom}
use Rattle.swap_symmetry.specs.declared.images.SwapRow.{SwapRow}
use Rattle.swap_symmetry.specs.Images.{pair_in, IsSwapRow}
use Rattle.swap_symmetry.specs.Swaps.{AreNeighbours}
use Rattle.swap_symmetry.proofs.SwapRows.{pairs_more}
use Rattle.swap_symmetry.proofs.images.SwapImages.of.Goals as goal

pub loop-pair-preserved : goal.loop-pair-preserved
loop-pair-preserved c =
    let pairs : List (Atom × Atom) = c.deref-pair-items.result.now in
    let rows : List SwapRow = c.loop-pair.rows.items in
    let row : SwapRow = c.in_ok-row_of.field-0 in
    let i = c.loop-pair.pair-index in
    let more : c.push.new.self.items ≡ rows ++ row ∷ [] = c.in_ok-push.ensures.items in
    record {
      pairs = ap (map pair_in) more ∙ pairs_more pairs rows row i _ c.loop-pair.invariant.pairs c.loop-pair-test.true c.in_ok-row_of.ensures.0;
      rows = subst (λ (xs : List SwapRow). (k : ℕ) (d : SwapRow) → k < length xs → IsSwapRow c.args.problem.now (get_or xs k d)) (sym more) (All-push (IsSwapRow c.args.problem.now) rows row c.loop-pair.invariant.rows c.in_ok-row_of.ensures.1);
    }

pub returns : goal.returns
returns c =
    let pairs : List (Atom × Atom) = c.in_ok-pairs.pairs.items in
    let rows : List SwapRow = c.loop-pair.rows.items in
    let all : map pair_in rows ≡ pairs = c.loop-pair.invariant.pairs ∙ take_all c.loop-pair.pair-index c.deref-pair-items.result.now c.loop-pair-test.false ∙ c.deref-pair-items.ensures.value in
    record {
      exactly = subst (λ (xs : List (Atom × Atom)). (a b : Atom) → Contains xs (a, b) ↔ AreNeighbours c.args.problem.now a b) (sym all) c.in_ok-pairs.ensures.exactly;
      rows = c.loop-pair.invariant.rows;
    }
