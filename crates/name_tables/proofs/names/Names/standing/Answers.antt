use Rattle.std.proofs.Common.{sym, ap, ◌∙◌}
use Rattle.named_model.specs.Names as names
use Rattle.name_tables.specs.InForce.{InForce}
use Rattle.name_tables.proofs.Standings.{by_word, by_no_word}
use Rattle.name_tables.proofs.names.Names.standing.Goals as goal

pub returns-in-Some : goal.returns-in-Some
returns-in-Some c =
    c.standing_by.ensures
    ∙ by_word c.self.inside.words c.self.inside.signatures c.self.inside.fields c.self.inside.callees c.self.inside.entries.items c.self.inside.assertions c.self.inside.locals c.self.invariant c.args.text.now c.in-Some.word (sym c.number.ensures ∙ c.in-Some.is)
    ∙ ap (λ (n : InForce). names.standing_of n.globals n.locals c.args.text.now) c.self.view_is

pub returns-in-None : goal.returns-in-None
returns-in-None c =
    by_no_word c.self.inside.words c.self.inside.signatures c.self.inside.fields c.self.inside.callees c.self.inside.entries.items c.self.inside.assertions c.self.inside.locals c.self.invariant c.args.text.now (sym c.number.ensures ∙ c.in-None.is)
    ∙ ap (λ (n : InForce). names.standing_of n.globals n.locals c.args.text.now) c.self.view_is
