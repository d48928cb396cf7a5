use Rattle.std.proofs.Common.{ap, ◌∙◌, sym, inl, inr}
use Rattle.name_tables.proofs.Occurrences.{place_in, place_is}
use Rattle.name_tables.proofs.firsts.Firsts.place.Goals as goal

pub returns-in-Never : goal.returns-in-Never
returns-in-Never c = sym (place_is c.args.number c.args.self.now ∙ ap place_in (sym c.occurrence.ensures ∙ c.in-Never.is))

pub returns-in-Once : goal.returns-in-Once
returns-in-Once c =
    elim c.in-Once.is [
      | inl once ↦ sym (place_is c.args.number c.args.self.now ∙ ap place_in (sym c.occurrence.ensures ∙ once))
      | inr again ↦ sym (place_is c.args.number c.args.self.now ∙ ap place_in (sym c.occurrence.ensures ∙ again))
    ]

pub returns-in-Once-2 : goal.returns-in-Once-2
returns-in-Once-2 c =
    elim c.in-Once.is [
      | inl once ↦ sym (place_is c.args.number c.args.self.now ∙ ap place_in (sym c.occurrence.ensures ∙ once))
      | inr again ↦ sym (place_is c.args.number c.args.self.now ∙ ap place_in (sym c.occurrence.ensures ∙ again))
    ]
