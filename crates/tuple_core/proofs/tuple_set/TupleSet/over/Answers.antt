use Rattle.std.proofs.Common.{◌≡◌, not, sym, ◌∙◌, ap, subst, Contains, arith}
use Rattle.tuple_core.specs.declared.atom.Atom.{Atom}
use Rattle.tuple_core.specs.Operators.{Pred, United, BeginsWith, IsFirstIn}
use Rattle.tuple_core.specs.Rows.{Rows, IsSetOf}
use Rattle.tuple_core.proofs.Steps.{Kept, row_arity, kept_more, kept_same, set_all, set_same, set_gained, over_says}
use Rattle.tuple_core.proofs.tuple_set.TupleSet.over.Goals as goal

pub insert_if-requires : goal.insert_if-requires
insert_if-requires c =
    row_arity c.rows-row-items.result.now c.args.self.now c.loop-row.row-index c.row-item.result c.rows-row-items.ensures.value c.rows-row-items.ensures.well c.loop-row-test.true c.row-item.is
    ∙ sym (c.loop-row.invariant.arity ∙ ap (λ (r : Rows). r.arity) c.in_ok-out.ensures ∙ c.requires.right ∙ sym c.requires.left)

pub loop-row-preserved : goal.loop-row-preserved
loop-row-preserved c =
    let K : Pred = λ t. (x : Atom) → BeginsWith x t → IsFirstIn (Contains c.args.other.now.rows) x → ⊥ in
    kept_more c.rows-row-items.result.now c.loop-row.row-index c.row-item.result K (not c.has_first.result) c.in_ok-out.out c.loop-row.out c.insert_if.new.self c.loop-row-test.true c.row-item.is
    (over_says c.has_first.result (Contains c.args.other.now.rows) c.first.result c.row-item.result c.first.ensures c.has_first.ensures)
    c.loop-row.invariant c.in_ok-insert_if.ensures

pub returns : goal.returns
returns c =
    let K : Pred = λ t. (x : Atom) → BeginsWith x t → IsFirstIn (Contains c.args.other.now.rows) x → ⊥ in
    subst (λ (r : Rows). IsSetOf c.loop-row.out 2 (United (Contains r.rows) (λ t. Contains c.args.self.now.rows t × K t))) c.in_ok-out.ensures
    (set_gained c.in_ok-out.out c.loop-row.out 2 (λ t. Contains c.args.self.now.rows t × K t) (ap (λ (r : Rows). r.arity) c.in_ok-out.ensures ∙ c.requires.right)
    (set_same c.in_ok-out.out c.loop-row.out (Kept c.rows-row-items.result.now K) (λ t. Contains c.args.self.now.rows t × K t) (kept_same c.rows-row-items.result.now c.args.self.now.rows K c.rows-row-items.ensures.value)
    (set_all c.rows-row-items.result.now c.loop-row.row-index (λ x t. (t ≡ x) × K x) c.in_ok-out.out c.loop-row.out (omega arith) c.loop-row.invariant)))
