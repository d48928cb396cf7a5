use Rattle.std.proofs.Common.{sym, ◌∙◌}
use Rattle.name_tables.proofs.Numbered.{by_number, unmet_is_none}
use Rattle.name_tables.proofs.Standings.{found, unmet}
use Rattle.name_tables.proofs.names.first_of.Goals as goal

pub returns-in-Some : goal.returns-in-Some
returns-in-Some c =
    let at = found c.args.words.now c.args.text.now c.in-Some.word (sym c.number.ensures ∙ c.in-Some.is) in
    c.place.ensures ∙ sym (by_number c.args.words.now c.requires.once c.in-Some.word c.args.text.now at.0 at.1 c.args.numbers.now c.requires.are)

pub returns-in-None : goal.returns-in-None
returns-in-None c = sym (unmet_is_none c.args.words.now c.args.text.now (unmet c.args.words.now c.args.text.now (sym c.number.ensures ∙ c.in-None.is)) c.args.numbers.now c.requires.are)
