use Rattle.std.proofs.Common.{◌≡◌, ◌≤◌, ◌^◌, ◌∷◌, [], ℕ, Option, Some, None, length, ap, arith}
use Rattle.std.specs.Prelude.{IfSome}
use Rattle.tuple_core.specs.Rows.{Rows, IsSetOf}
use Rattle.rel_formula.specs.Bounds.{Bounded, InAtoms}
use Rattle.rel_terms.specs.Terms.{HasTerms, IsTranslatable}
use Rattle.rel_terms.proofs.Translatable.{one_top}
use Rattle.bench.proofs.translations.few_terms.Goals as goal

told : (p : Bounded) (atoms : Rows) (answer : Option ℕ) → p.tops ≡ 0 ∷ [] → IsSetOf atoms 1 (InAtoms p) → length atoms.rows ≤ 64 → IfSome answer (λ n. HasTerms p n × (n ≤ 2 ^ 18)) → IfSome answer (λ n. HasTerms p n × IsTranslatable p)
told p atoms None tops set few h = h
told p atoms (Some n) tops set few h = (h.0, one_top p atoms n tops set few h.0 h.1)

pub returns : goal.returns
returns c =
    let few : length c.atoms.result.now.rows ≤ 64 = (let e = ap length c.rows.ensures.value in omega arith) in
    told c.args.problem.now c.atoms.result.now c.in_ok-count.count c.requires c.atoms.ensures.value few c.in_ok-count.ensures.some
