use Rattle.std.proofs.Common.{◌∙◌, sym, ap}
use Rattle.alloy_syntax.specs.Class.{class_of, class_in, class_at, words, symbols}
use Rattle.alloy_syntax.proofs.class.class_of.Goals as goal

pub returns-in-Word : goal.returns-in-Word
unfolding class_of
returns-in-Word c =
    c.class_in.ensures ∙ ap (λ text. class_in words text) c.text.ensures.value ∙ sym (ap (λ kind. class_at kind c.args.token.now.text) c.in-Word.is)

pub returns-in-Symbol : goal.returns-in-Symbol
unfolding class_of
returns-in-Symbol c =
    c.class_in-in-Symbol.ensures ∙ ap (λ text. class_in symbols text) c.text-in-Symbol.ensures.value ∙ sym (ap (λ kind. class_at kind c.args.token.now.text) c.in-Symbol.is)
