use Rattle.std.proofs.Common.{◌≡◌, length, map, sym, ◌∙◌, ap, subst, Contains, List, arith}
use Rattle.std.proofs.lemmas.List.{length-map}
use Rattle.tuple_core.specs.declared.atom.Atom.{Atom}
use Rattle.tuple_core.specs.Swap.{swap_atoms}
use Rattle.tuple_core.specs.Operators.{Pred, Swapped}
use Rattle.tuple_core.specs.Gains.{Same, SomeGives}
use Rattle.tuple_core.specs.Rows.{SetGains}
use Rattle.tuple_core.proofs.Steps.{row_arity, set_more, set_all, set_from_gains}
use Rattle.tuple_core.proofs.tuple_set.TupleSet.swapped.Goals as goal

pub insert-requires : goal.insert-requires
insert-requires c =
    ap length c.swapped.ensures ∙ length-map c.row-item.result (swap_atoms c.args.a c.args.b)
    ∙ row_arity c.rows-row-items.result.now c.args.self.now c.loop-row.row-index c.row-item.result c.rows-row-items.ensures.value c.rows-row-items.ensures.well c.loop-row-test.true c.row-item.is
    ∙ sym (c.loop-row.invariant.arity ∙ c.new-out.ensures.arity ∙ c.arity.ensures.value)

pub loop-row-preserved : goal.loop-row-preserved
loop-row-preserved c =
    set_more c.rows-row-items.result.now c.loop-row.row-index c.row-item.result (λ x t. t ≡ map (swap_atoms c.args.a c.args.b) x) c.new-out.result c.loop-row.out c.insert.new.self c.loop-row-test.true c.row-item.is c.loop-row.invariant
    (subst (λ x. SetGains c.loop-row.out c.insert.new.self (λ t. t ≡ x)) c.swapped.ensures c.in_ok-insert.ensures.gains)

pub returns : goal.returns
returns c =
    let xs : List (List Atom) = c.rows-row-items.result.now in
    let R : List Atom → Pred = λ x t. t ≡ map (swap_atoms c.args.a c.args.b) x in
    set_from_gains c.new-out.result c.loop-row.out c.args.self.now.arity (SomeGives xs R) (Swapped c.args.a c.args.b (Contains c.args.self.now.rows)) c.new-out.ensures.rows (c.new-out.ensures.arity ∙ c.arity.ensures.value)
    (set_all xs c.loop-row.row-index R c.new-out.result c.loop-row.out (omega arith) c.loop-row.invariant)
    (subst (λ zs. Same (SomeGives xs R) (Swapped c.args.a c.args.b (Contains zs))) c.rows-row-items.ensures.value (record { to = λ t g. g; back = λ t g. g }))
