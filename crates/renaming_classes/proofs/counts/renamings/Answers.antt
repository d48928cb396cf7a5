use Rattle.std.proofs.Common.{◌≡◌, ◌<◌, ◌≤◌, ℕ, List, length, MatchOption, refl, subst}
use Rattle.tuple_core.specs.declared.atom.Atom.{Atom}
use Rattle.renaming_classes.specs.Counts.{orders}
use Rattle.renaming_classes.proofs.Factorials.{match_weaker}
use Rattle.renaming_classes.proofs.counts.renamings.Goals as goal

pub returns : goal.returns
returns c =
    let p = c.args.problem.now in
    let atoms = c.atoms.result.now in
    let P : List (List Atom) → ℕ → Type 0 = λ rows k. MatchOption c.orders.result (40320 < orders rows k) (λ n. (n ≡ orders rows k) × (n ≤ 40320)) in
    let told : P atoms.rows (length p.tops) =
    subst (λ (rows : List (List Atom)). P rows (length p.tops)) c.rows.ensures.value (subst (λ (tops : List ℕ). P c.rows.result.now (length tops)) c.tops.ensures c.orders.ensures) in
    match_weaker c.orders.result (40320 < orders atoms.rows (length p.tops)) _ (λ n. (n ≡ orders atoms.rows (length p.tops)) × (n ≤ 40320)) _
    (λ more. (orders atoms.rows (length p.tops), record { atoms = atoms; rows = c.rows.ensures.well; all = c.atoms.ensures.value; number = refl }, more))
    (λ n h. (record { atoms = atoms; rows = c.rows.ensures.well; all = c.atoms.ensures.value; number = h.0 }, h.1)) told
