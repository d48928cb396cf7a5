use Rattle.std.proofs.Common.{◌<◌, inl, inr, [], ◌∙◌, sym, subst, get_or, arith, All}
use Rattle.std.proofs.lemmas.List.Elements.{All-cons, All-nil, All-contains, Contains-get_or}
use Rattle.tuple_core.specs.declared.atom.Atom.{Atom}
use Rattle.bench_search.proofs.sets.atoms.Goals as goal

pub loop-place-preserved : goal.loop-place-preserved
loop-place-preserved c =
    let Z : Atom → Type 0 = λ a. a.top < 1 in
    let one : All Z c.single.result = subst (All Z) (sym c.single.ensures) (All-cons Z _ [] (omega arith) (All-nil Z)) in
    record {
      arity = c.in_ok-insert.ensures.gains.arity ∙ c.loop-place.invariant.arity;
      tops = λ k d l.
          let row = get_or c.insert.new.self.rows k d in
          elim ((c.in_ok-insert.ensures.gains.rows.tuples row).0 (Contains-get_or c.insert.new.self.rows k d l)) [
            | inl old ↦ All-contains (All Z) c.loop-place.set.rows row c.loop-place.invariant.tops old
            | inr new ↦ subst (All Z) (sym new) one
          ];
    }
