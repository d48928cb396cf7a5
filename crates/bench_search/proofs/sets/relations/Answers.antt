use Rattle.std.proofs.Common.{◌≡◌, ◌+◌, ◌∙◌, inl, length, string_bytes, sym, ap, subst}
use Rattle.std.proofs.lemmas.List.{length_push}
use Rattle.rel_formula.specs.declared.problem.Relation.{Relation}
use Rattle.bench_search.specs.Sets.{IsSet}
use Rattle.bench_search.proofs.SetLemmas.{Making, making_more}
use Rattle.bench_search.proofs.sets.relations.Goals as goal

pub loop-made-preserved : goal.loop-made-preserved
loop-made-preserved c =
    let all = c.args.all.now in
    let made = c.loop-made.made in
    let set : Relation = record { name = c.in_ok-of-2.field-0; lower = c.new.result; upper = c.in_ok-copy-3.field-0 } in
    let longer : length (string_bytes c.push_str.new.self) ≡ made + 1 =
    ap length c.in_ok-push_str.ensures.bytes ∙ length_push (string_bytes c.loop-made.name) 83 ∙ ap (λ n. n + 1) c.loop-made.invariant.name in
    let named : length set.name ≡ made + 1 = ap length (c.in_ok-of-2.ensures ∙ c.as_str.ensures.value) ∙ longer in
    let is : IsSet all set = record { arity = c.new.ensures.arity; upper = c.in_ok-copy-3.ensures; lower = inl c.new.ensures.rows } in
    record {
      name = longer;
      making = subst (Making all (made + 1)) (sym c.in_ok-push.ensures.items) (making_more all made c.loop-made.relations.items set c.loop-made.invariant.making named is);
    }
