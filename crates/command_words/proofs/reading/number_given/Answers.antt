use Rattle.std.proofs.Common.{◌≡◌, ◌∙◌, None, Some, sym, ap, subst, inl, inr}
use Rattle.std.specs.Option.{option_map}
use Rattle.std.specs.Borrow.{Bor}
use Rattle.std.specs.Str.Parse.{ExplainsUnsignedError, HasUnsignedDigitsIfOk, ParsesUnsigned}
use Rattle.clap.specs.Words.{Text, first_of, found_of, rows_of}
use Rattle.clap.proofs.WalkLemmas.{first_value-rows, one_text-rows}
use Rattle.command_words.specs.Program.{ReadsGiven}
use Rattle.command_words.proofs.ReadNumber.{reads_number}
use Rattle.command_words.proofs.reading.number_given.Goals as goal

pub returns-in_err-text : goal.returns-in_err-text
returns-in_err-text c =
    let found = found_of c.args.matches.now in
    let name = c.args.name.now in
    let none : first_of name (rows_of found) ≡ None = sym (first_value-rows found name) ∙ sym c.get_str.ensures ∙ ap (option_map (λ (s : Bor Text). s.now)) c.in_err-text.was in
    subst (ReadsGiven name (rows_of found)) (sym c.from_residual.ensures) (inl none)

pub returns-then-is_number : goal.returns-then-is_number
returns-then-is_number c =
    let found = found_of c.args.matches.now in
    let name = c.args.name.now in
    let text = c.in_ok-text.text.now in
    let first : first_of name (rows_of found) ≡ Some text = sym (first_value-rows found name) ∙ sym c.get_str.ensures ∙ ap (option_map (λ (s : Bor Text). s.now)) c.in_ok-text.was in
    reads_number _ (λ bs r. ParsesUnsigned 32 10 bs r × ExplainsUnsignedError 10 bs r × HasUnsignedDigitsIfOk bs r) (λ bs r given. given.0)
    name (rows_of found) text c.get_one.result first (c.is_number.ensures.0 c.if-is_number.true)
    (λ one. c.get_one.ensures.value text (one_text-rows found name ∙ one))

pub returns-else-is_number : goal.returns-else-is_number
returns-else-is_number c =
    let found = found_of c.args.matches.now in
    let name = c.args.name.now in
    let text = c.in_ok-text.text.now in
    let first : first_of name (rows_of found) ≡ Some text = sym (first_value-rows found name) ∙ sym c.get_str.ensures ∙ ap (option_map (λ (s : Bor Text). s.now)) c.in_ok-text.was in
    inr (text, first, λ number one. absurd (cc (c.is_number.ensures.1 number, c.if-is_number.false)))
