use Rattle.std.proofs.Common.{◌≡◌, true, All, ◌∙◌, subst, sym, arith}
use Rattle.tuple_core.specs.Operators.{BeginsWith}
use Rattle.std.proofs.lemmas.List.Elements.{All-contains}
use Rattle.tuple_core.proofs.Atoms.{atom_eq-decides, same_first}
use Rattle.tuple_core.proofs.Steps.{all_step, all_done}
use Rattle.tuple_core.proofs.tuple_set.TupleSet.has_first.Goals as goal

pub loop-row-preserved : goal.loop-row-preserved
loop-row-preserved c =
    all_step (λ t. BeginsWith c.args.atom t → ⊥) c.rows-row-items.result.now c.loop-row.row-index c.row-item.result c.loop-row-test.true c.row-item.is c.loop-row.invariant
    (λ b. let same : c.first.result ≡ c.args.atom = same_first c.first.result c.args.atom c.first.ensures.0 b.0 (sym c.first.ensures.1 ∙ b.1) in
    let yes : c.eq.result ≡ true = c.eq.ensures ∙ (atom_eq-decides c.first.result c.args.atom).1 same in cc)

pub returns : goal.returns
returns c = (
  λ e. absurd (cc),
  λ i. absurd (All-contains (λ t. BeginsWith c.args.atom t → ⊥) c.args.self.now.rows i.0
      (subst (All (λ t. BeginsWith c.args.atom t → ⊥)) c.rows-row-items.ensures.value (all_done (λ t. BeginsWith c.args.atom t → ⊥) c.rows-row-items.result.now c.loop-row.row-index (omega arith) c.loop-row.invariant))
      i.1 i.2),
)
