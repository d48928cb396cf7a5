use Rattle.std.proofs.Common.{◌≡◌, inl, inr, ◌∷◌, [], ◌∙◌, sym, subst, get_or, All}
use Rattle.std.proofs.lemmas.List.Elements.{All-cons, All-nil, All-contains, Contains-get_or}
use Rattle.tuple_core.specs.declared.atom.Atom.{Atom}
use Rattle.translation_tests.proofs.tables.pairs.Goals as goal

pub loop-pair-preserved : goal.loop-pair-preserved
loop-pair-preserved c =
    let Z : Atom → Type 0 = λ a. a.top ≡ 0 in
    let first = c.at-first.result in
    let second = c.at-second.result in
    let one : All Z c.of.result = subst (All Z) (sym c.of.ensures) (All-cons Z first (second ∷ []) c.at-first.ensures (All-cons Z second [] c.at-second.ensures (All-nil Z))) in
    record {
      arity = c.in_ok-insert.ensures.gains.arity ∙ c.loop-pair.invariant.arity;
      first = λ k d l.
          let row = get_or c.insert.new.self.rows k d in
          elim ((c.in_ok-insert.ensures.gains.rows.tuples row).0 (Contains-get_or c.insert.new.self.rows k d l)) [
            | inl old ↦ All-contains (All Z) c.loop-pair.set.rows row c.loop-pair.invariant.first old
            | inr new ↦ subst (All Z) (sym new) one
          ];
    }
