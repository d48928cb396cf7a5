use Rattle.std.proofs.Common.{sym, ap, ◌∙◌}
use Rattle.named_model.specs.Names as names
use Rattle.name_tables.specs.InForce.{InForce}
use Rattle.name_tables.proofs.Standings.{callee_names_are}
use Rattle.name_tables.proofs.names.Names.callee.Goals as goal

pub returns : goal.returns
returns c =
    c.first_of.ensures
    ∙ ap (λ found. names.number_of found c.args.text.now) (sym (callee_names_are c.self.inside.words c.self.inside.signatures c.self.inside.fields c.self.inside.callees c.self.inside.entries.items c.self.inside.assertions c.self.inside.locals c.self.invariant))
    ∙ ap (λ (n : InForce). names.number_of (names.callee_names n.globals) c.args.text.now) c.self.view_is
