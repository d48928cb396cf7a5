use Rattle.std.proofs.Common.{◌≡◌, ◌∷◌, [], ap, ◌∙◌, sym, length, List, subst, Contains}
use Rattle.tuple_core.specs.declared.atom.Atom.{Atom}
use Rattle.tuple_core.specs.Gains.{SomeGives}
use Rattle.tuple_core.specs.Rows.{IsSetOf, SetGains}
use Rattle.tuple_core.proofs.Congruence.{rows_same}
use Rattle.tuple_core.proofs.Steps.{set_more, set_same, set_all, set_from_gains, row_arity}
use Rattle.rel_formula.specs.Sizes.{HasSize}
use Rattle.rel_formula.proofs.Valued.{Doubles, one_atom, double_is, doubles_are}
use Rattle.rel_terms.proofs.Counted.{counted, adds_alike, alike_size}
use Rattle.rel_terms.proofs.operators.identity.Goals as goal

pub insert-requires : goal.insert-requires
insert-requires c = ap length c.of.ensures ∙ sym (c.loop-row.invariant.arity ∙ c.new-pairs.ensures.arity)

pub loop-row-preserved : goal.loop-row-preserved
loop-row-preserved c =
    let xs = c.rows-row-items.result.now in
    let i = c.loop-row.row-index in
    let x = c.row-item.result in
    let a = c.first-atom.result in
    let one = row_arity xs c.args.universe.now i x c.rows-row-items.ensures.value c.rows-row-items.ensures.well c.loop-row-test.true c.row-item.is ∙ c.requires in
    set_more xs i x Doubles c.new-pairs.result c.loop-row.pairs c.insert.new.self c.loop-row-test.true c.row-item.is c.loop-row.invariant
    (set_same c.loop-row.pairs c.insert.new.self (λ t. t ≡ a ∷ a ∷ []) (Doubles x) (double_is a x (one_atom a x one c.first-atom.ensures))
    (subst (λ (u : List Atom). SetGains c.loop-row.pairs c.insert.new.self (λ t. t ≡ u)) c.of.ensures c.in_ok-insert.ensures.gains))

pub returns : goal.returns
returns c =
    let xs = c.rows-row-items.result.now in
    let P : List (List Atom) → List Atom → Type 0 = λ rows t. (a : Atom) × Contains rows (a ∷ []) × (t ≡ a ∷ a ∷ []) in
    let gained = set_all xs c.loop-row.row-index Doubles c.new-pairs.result c.loop-row.pairs c.loop-row-test.false c.loop-row.invariant in
    let here = set_from_gains c.new-pairs.result c.loop-row.pairs 2 (SomeGives xs Doubles) (P xs) c.new-pairs.ensures.rows c.new-pairs.ensures.arity gained (doubles_are xs) in
    let set = subst (λ rows. IsSetOf c.loop-row.pairs 2 (P rows)) c.rows-row-items.ensures.value here in
    counted set (adds_alike (HasSize (Contains c.loop-row.pairs.rows)) (HasSize (P c.args.universe.now.rows)) _ _ (alike_size (rows_same set)) c.add_size.ensures)
