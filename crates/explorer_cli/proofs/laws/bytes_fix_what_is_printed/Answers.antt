use Rattle.std.proofs.Common.{All, get_or}
use Rattle.std.proofs.lemmas.List.Elements.{recursion_from_All, Contains-get_or}
use Rattle.script_format.specs.declared.entries.SessionEntry.{SessionEntry}
use Rattle.explorer_cli.proofs.Usables.{asked_each}
use Rattle.explorer_cli.proofs.ProperReplies.{IsFit, commands_of, all_printed_for, all_alike}
use Rattle.explorer_cli.proofs.RunsTogether.{all_among}
use Rattle.explorer_cli.proofs.laws.bytes_fix_what_is_printed.Goals as goal

pub returns : goal.returns
returns c bytes s models is writable budget other small least runs more are others text out written =
    let sound = c.a_run_is_sound.ensures in
    let may_print = c.transcripts_may_be_printed.ensures in
    let one_problem = c.models_are_used_one_way.ensures.problem in
    let allowed = c.scripts_keep_to_limits.ensures.allowed bytes s is in
    let few = asked_each s.sessions 20000 (c.scripts_keep_to_limits.ensures.asked bytes s is) in
    let Fit : SessionEntry → Type 0 = IsFit models in
    let fit : All Fit s.sessions = λ k d l. record { allowed = allowed k d l; few = few k d l; writable = λ p at. writable (get_or s.sessions k d) p (Contains-get_or s.sessions k d l) at } in
    let each = recursion_from_All Fit s.sessions fit in
    let first = all_among are.1 1 budget models are.0 s.sessions runs are.3 in
    let second = all_among others.1 1 other models others.0 s.sessions more others.3 in
    c.equal_outputs_agree.ensures (commands_of s.sessions) runs more text
    (all_printed_for sound may_print one_problem models budget are.0 small s.sessions runs each first)
    (all_printed_for sound may_print one_problem models other others.0 least s.sessions more each second)
    (all_alike sound may_print one_problem models budget other are.0 others.0 s.sessions runs more first second) out written
