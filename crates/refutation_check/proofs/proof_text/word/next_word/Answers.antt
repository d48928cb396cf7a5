use Rattle.std.proofs.Common.{◌≡◌, ◌<◌, List, ℕ, [], ◌∷◌, length, get_or, drop, take, ◌-◌, arith, refl, sym, ap, subst, ◌∙◌}
use Rattle.refutation_check.specs.ProofText.{words_in}
use Rattle.refutation_check.specs.Scanned.{behind_spaces, IsFirstWord}
use Rattle.std.proofs.lemmas.Bool.Decides.{nat_tests}
use Rattle.refutation_check.proofs.LineWords.{no_space_first, words_behind_spaces, length-behind_spaces}
use Rattle.refutation_check.proofs.ReadWords.{behind_spaces_first, front_is, none_is}
use Rattle.refutation_check.proofs.proof_text.word.next_word.Goals as goal

pub word_from-requires : goal.word_from-requires
word_from-requires c =
    let bytes = c.behind_spaces.result.now in
    let fails = no_space_first c.args.bytes.now (take (length bytes - 1) (drop 1 bytes)) (get_or bytes 0 0) (sym (front_is bytes (omega arith) ∙ c.behind_spaces.ensures)) in
    grind (arith, nat_tests)

pub returns-in-empty-clause-none : goal.returns-in-empty-clause-none
returns-in-empty-clause-none c =
    let none = none_is c.behind_spaces.result.now (omega arith) in
    sym (words_behind_spaces c.args.bytes.now) ∙ ap words_in (sym c.behind_spaces.ensures ∙ none)

pub returns-in-len1-up-clause-word : goal.returns-in-len1-up-clause-word
returns-in-len1-up-clause-word c =
    let whole = front_is c.behind_spaces.result.now (omega arith) ∙ c.behind_spaces.ensures in
    behind_spaces_first c.args.bytes.now (behind_spaces c.args.bytes.now) c.word_from.result.0 c.word_from.result.1.now
    (words_behind_spaces c.args.bytes.now) (length-behind_spaces c.args.bytes.now)
    (subst (λ (bytes : List ℕ). IsFirstWord bytes c.word_from.result.0 c.word_from.result.1.now) whole c.word_from.ensures)
