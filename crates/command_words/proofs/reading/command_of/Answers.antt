use Rattle.std.proofs.Common.{◌∙◌, sym, ap, subst, inl, inr}
use Rattle.std.specs.Prelude.{string_bytes}
use Rattle.std.specs.Str.{bytes_eq}
use Rattle.clap.specs.Words.{App, IsAmong, Text, fault_of, is_simple, is_simple_and_free, kind_of, subcommand_of, subcommand_rows_of}
use Rattle.clap.proofs.WalkLemmas.{list_any-map}
use Rattle.command_words.specs.Read.{texts}
use Rattle.command_words.proofs.LongWords.{dashes}
use Rattle.command_words.proofs.Program.{free_program, simple_program}
use Rattle.command_words.proofs.CommandsOfWords.{escape_says_none, fault_says_none, is_said}
use Rattle.command_words.proofs.reading.command_of.Goals as goal

pub returns-then-has_escape-clause-none : goal.returns-then-has_escape-clause-none
returns-then-has_escape-clause-none c =
    let words = c.args.words.now in
    escape_says_none (texts words) (sym (list_any-map (λ (w : Text). bytes_eq w dashes) string_bytes words) ∙ sym c.has_escape.ensures ∙ c.if-has_escape.true)

pub returns-in-Ok-clause-none : goal.returns-in-Ok-clause-none
returns-in-Ok-clause-none c =
    let words = c.args.words.now in
    let safe = sym (list_any-map (λ (w : Text). bytes_eq w dashes) string_bytes words) ∙ sym c.has_escape.ensures ∙ c.if-has_escape.false in
    let app = c.in_ok-program.ensures in
    let none = sym (ap (λ (a : App). fault_of a (texts words)) app) ∙ c.in-Ok.ensures.kinds (ap is_simple_and_free app ∙ free_program) in
    let found = (c.in-Ok.ensures.matches (ap is_simple app ∙ simple_program)).1 ∙ ap (λ (a : App). subcommand_of a (texts words)) app in
    (is_said (texts words) (subcommand_rows_of c.in-Ok.matches) c.said_by.result safe none found c.said_by.ensures).none

pub returns-in-Ok-clause-some : goal.returns-in-Ok-clause-some
returns-in-Ok-clause-some c =
    let words = c.args.words.now in
    let safe = sym (list_any-map (λ (w : Text). bytes_eq w dashes) string_bytes words) ∙ sym c.has_escape.ensures ∙ c.if-has_escape.false in
    let app = c.in_ok-program.ensures in
    let none = sym (ap (λ (a : App). fault_of a (texts words)) app) ∙ c.in-Ok.ensures.kinds (ap is_simple_and_free app ∙ free_program) in
    let found = (c.in-Ok.ensures.matches (ap is_simple app ∙ simple_program)).1 ∙ ap (λ (a : App). subcommand_of a (texts words)) app in
    (is_said (texts words) (subcommand_rows_of c.in-Ok.matches) c.said_by.result safe none found c.said_by.ensures).some

pub returns-in-Err-2-clause-none : goal.returns-in-Err-2-clause-none
returns-in-Err-2-clause-none c =
    let words = c.args.words.now in
    let app = c.in_ok-program.ensures in
    elim (c.in-Err.ensures.kinds (ap is_simple_and_free app ∙ free_program)) [
      | inl memory ↦
          let same = rw (c.kind.ensures ∙ memory) at c.eq.ensures in
          absurd (cc (same, c.if-eq.false))
      | inr among ↦ fault_says_none (texts words) (kind_of c.in-Err.error) (subst (λ (a : App). IsAmong (kind_of c.in-Err.error) (fault_of a (texts words))) app among)
    ]
