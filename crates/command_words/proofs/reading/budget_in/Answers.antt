use Rattle.std.proofs.Common.{◌≡◌, ◌∙◌, None, Some, codes, sym, ap, subst, inl}
use Rattle.std.specs.Option.{option_map}
use Rattle.std.specs.Borrow.{Bor}
use Rattle.clap.specs.Words.{Text, first_of, found_of, rows_of}
use Rattle.clap.proofs.WalkLemmas.{first_value-rows}
use Rattle.command_words.specs.Program.{ReadsNumber}
use Rattle.command_words.proofs.reading.budget_in.Goals as goal

pub returns-in-Some : goal.returns-in-Some
returns-in-Some c =
    let found = found_of c.args.matches.now in
    let given = c.in-Some.field-0.now in
    let first : first_of (codes "workers") (rows_of found) ≡ Some given = sym (first_value-rows found (codes "workers")) ∙ sym c.get_str.ensures ∙ ap (option_map (λ (s : Bor Text). s.now)) c.in-Some.is in
    inl (λ none. let bad : Some given ≡ None = sym first ∙ none in absurd (cc))

pub returns-in_ok-budget-in-None : goal.returns-in_ok-budget-in-None
returns-in_ok-budget-in-None c =
    let found = found_of c.args.matches.now in
    let none : first_of (codes "workers") (rows_of found) ≡ None = sym (first_value-rows found (codes "workers")) ∙ sym c.get_str.ensures ∙ ap (option_map (λ (s : Bor Text). s.now)) c.in-None.is in
    (none, subst (ReadsNumber 20000 (codes "budget") (rows_of found)) c.in_ok-budget-in-None.was c.number_in.ensures)
