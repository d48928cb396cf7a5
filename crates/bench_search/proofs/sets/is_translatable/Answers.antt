use Rattle.std.proofs.Common.{◌≡◌, ◌≤◌, ◌^◌, ◌∙◌, ℕ, Option, Some, None, true, false, length, sym, ap, arith}
use Rattle.std.specs.Prelude.{IfSome}
use Rattle.std.specs.Option.{is_some}
use Rattle.rel_formula.specs.Bounds.{Bounded}
use Rattle.rel_terms.specs.Terms.{HasTerms}
use Rattle.rel_terms.proofs.Translatable.{one_top}
use Rattle.bench_search.proofs.sets.is_translatable.Goals as goal

told : (p : Bounded) (answer : Option ℕ) → IfSome answer (λ n. HasTerms p n × (n ≤ 2 ^ 18)) → is_some answer ≡ true → (n : ℕ) × HasTerms p n × (n ≤ 2 ^ 18)
told p None h t = absurd (let k : false ≡ true = t in cc)
told p (Some n) h t = (n, h.0, h.1)

pub returns : goal.returns
returns c = λ t.
    let p = c.args.problem.now in
    let (n, has, most) = told p c.in_ok-count.count c.in_ok-count.ensures.some (sym c.is_some.ensures ∙ t) in
    let few : length c.atoms.result.now.rows ≤ 64 = let f = c.if-rows-gt64.false in let e = ap length c.rows.ensures.value in omega arith in
    one_top p c.atoms.result.now n c.requires c.atoms.ensures.value few has most
