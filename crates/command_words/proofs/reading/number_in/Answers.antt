use Rattle.std.proofs.Common.{◌≡◌, ◌∙◌, Some, refl, sym, ap, inl}
use Rattle.std.specs.Option.{option_map}
use Rattle.std.specs.Borrow.{Bor}
use Rattle.clap.specs.Words.{Text, first_of, found_of, rows_of}
use Rattle.clap.proofs.WalkLemmas.{first_value-rows}
use Rattle.command_words.proofs.ReadNumber.{where_given}
use Rattle.command_words.proofs.reading.number_in.Goals as goal

pub returns-in-Some : goal.returns-in-Some
returns-in-Some c =
    let found = found_of c.args.options.now in
    let name = c.args.name.now in
    let text = c.in-Some.field-0.now in
    let first : first_of name (rows_of found) ≡ Some text = sym (first_value-rows found name) ∙ sym c.get_str.ensures ∙ ap (option_map (λ (s : Bor Text). s.now)) c.in-Some.is in
    where_given c.args.default name (rows_of found) text c.number_given.result first c.number_given.ensures

pub returns-in-None : goal.returns-in-None
returns-in-None c =
    let found = found_of c.args.options.now in
    let name = c.args.name.now in
    inl (sym (first_value-rows found name) ∙ sym c.get_str.ensures ∙ ap (option_map (λ (s : Bor Text). s.now)) c.in-None.is, refl)
