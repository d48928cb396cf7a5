use Rattle.std.proofs.Common.{◌∙◌, sym, ap, inl, inr}
use Rattle.name_tables.proofs.Occurrences.{repeated, is_again}
use Rattle.name_tables.proofs.firsts.Firsts.is_repeated.Goals as goal

pub returns-in-Never : goal.returns-in-Never
returns-in-Never c = λ first at.
    let is = repeated c.args.number c.args.self.now first c.occurrence.result c.occurrence.ensures at in
    elim c.in-Never.is [
      | inl never ↦ sym (ap is_again never) ∙ is
      | inr once ↦ sym (ap is_again once.1) ∙ is
    ]

pub returns-in-Again : goal.returns-in-Again
returns-in-Again c = λ first at.
    sym (ap is_again c.in-Again.is) ∙ repeated c.args.number c.args.self.now first c.occurrence.result c.occurrence.ensures at
