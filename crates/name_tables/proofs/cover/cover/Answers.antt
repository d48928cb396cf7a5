use Rattle.std.proofs.Common.{◌++◌, ◌+◌, ◌∷◌, [], refl, ap, ◌∙◌, append_assoc, replicate}
use Rattle.std.proofs.lemmas.List.{replicate_more}
use Rattle.name_tables.proofs.cover.cover.Goals as goal

pub loop-empty-preserved : goal.loop-empty-preserved
loop-empty-preserved c = λ w.
    let before = w.loop-empty.invariant.0 in (
      (
        before.0 + 1,
        w.in_ok-push.ensures.items
            ∙ ap (λ xs. xs ++ w.args.empty ∷ []) before.1
            ∙ append_assoc w.args.table.now.items (replicate before.0 w.args.empty) (w.args.empty ∷ [])
            ∙ ap (λ ys. w.args.table.now.items ++ ys) (replicate_more before.0 w.args.empty),
      ),
      refl,
    )
