use Rattle.std.proofs.Common.{sym, ap, ◌∙◌, Some, [], map}
use Rattle.std.specs.String.{string_bytes}
use Rattle.std.specs.Option.{option_map}
use Rattle.std.proofs.lemmas.Option.{slice_get-get_or, slice_get-map}
use Rattle.name_tables.specs.InForce.{with_word}
use Rattle.name_tables.proofs.Standings.{found}
use Rattle.name_tables.proofs.Texts.{equal_texts}
use Rattle.name_tables.proofs.WordsMet.{inserted, met_before}
use Rattle.name_tables.proofs.words.Words.meet.Goals as goal

pub returns-in-Some-clause-words : goal.returns-in-Some-clause-words
returns-in-Some-clause-words c =
    sym (met_before c.args.self.now c.args.text.now c.in-Some.number (sym c.number.ensures ∙ c.in-Some.is))

pub returns-in-Some-clause-number : goal.returns-in-Some-clause-number
returns-in-Some-clause-number c =
    let at = found c.args.self.now c.args.text.now c.in-Some.number (sym c.number.ensures ∙ c.in-Some.is) in
    slice_get-get_or c.args.self.now c.in-Some.number [] at.0 ∙ ap Some at.1

pub returns-in_ok-number-in-None-clause-words : goal.returns-in_ok-number-in-None-clause-words
returns-in_ok-number-in-None-clause-words c =
    ap (map string_bytes) c.in_ok-number-in-None.ensures.keys
    ∙ inserted c.self.inside.words.keys c.in_ok-word-in-None.word
    ∙ ap (λ words. with_word words (string_bytes c.in_ok-word-in-None.word)) c.self.view_is
    ∙ ap (with_word c.args.self.now) c.in_ok-word-in-None.ensures.ok

pub returns-in_ok-number-in-None-clause-number : goal.returns-in_ok-number-in-None-clause-number
returns-in_ok-number-in-None-clause-number c =
    let at = c.in_ok-number-in-None.ensures.stored in
    slice_get-map string_bytes c.insert_full.new.self.keys c.in_ok-number-in-None.number
    ∙ ap (option_map string_bytes) at.1
    ∙ ap Some (sym (equal_texts (string_bytes c.in_ok-word-in-None.word) (string_bytes at.0) at.2) ∙ c.in_ok-word-in-None.ensures.ok)
