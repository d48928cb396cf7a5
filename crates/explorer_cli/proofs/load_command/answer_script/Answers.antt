use Rattle.std.proofs.Common.{◌≤◌, inr, List, All, length, refl, sym, ap, subst, arith}
use Rattle.command_words.specs.Words.{default_budget}
use Rattle.script_format.specs.declared.entries.ModelEntry.{ModelEntry}
use Rattle.served_models.specs.declared.models.Models.{Models}
use Rattle.served_models.specs.declared.purposes.Purpose.TheVariants.{Lists}
use Rattle.served_models.specs.Served.{AreFound}
use Rattle.explorer_run.specs.Served.{translations_of}
use Rattle.explorer_cli.specs.Learnt.{allowed_of}
use Rattle.explorer_cli.proofs.Servables.{problems_are_servable, all_on, all_can_be_served, few_sessions}
use Rattle.explorer_cli.proofs.SummedRuns.{scenarios_within, ends_within, summary_answer}
use Rattle.explorer_cli.proofs.load_command.answer_script.Goals as goal

pub read_models-requires : goal.read_models-requires
read_models-requires g c = subst (λ (es : List ModelEntry). All (λ (m : ModelEntry). length m.text ≤ 1048576) es) (sym c.entries.ensures) c.requires.limits.small

pub run_sessions-requires-clause-problems : goal.run_sessions-requires-clause-problems
run_sessions-requires-clause-problems g c κs within =
    let sessions = c.entries-sessions.result.now in
    let entries = c.entries.result.now in
    let used = subst (λ (m : Models). AreFound Lists sessions entries m) c.in-Ready.is c.in_ok-models.ensures.found in
    problems_are_servable Lists c.args.script.now sessions entries c.in-Ready.models.items c.entries-sessions.ensures c.entries.ensures used c.requires.limits c.problems_are_symmetric.ensures

pub run_sessions-requires-clause-sessions : goal.run_sessions-requires-clause-sessions
run_sessions-requires-clause-sessions g c κs within =
    let sessions = c.entries-sessions.result.now in
    let entries = c.entries.result.now in
    let used = subst (λ (m : Models). AreFound Lists sessions entries m) c.in-Ready.is c.in_ok-models.ensures.found in
    all_can_be_served Lists c.args.script.now sessions entries c.in-Ready.models.items c.entries-sessions.ensures c.entries.ensures used c.requires.limits

pub run_sessions-requires-clause-few : goal.run_sessions-requires-clause-few
run_sessions-requires-clause-few g c κs within =
    let sessions = c.entries-sessions.result.now in
    let entries = c.entries.result.now in
    let used = subst (λ (m : Models). AreFound Lists sessions entries m) c.in-Ready.is c.in_ok-models.ensures.found in
    few_sessions Lists c.args.script.now sessions entries c.in-Ready.models.items c.entries-sessions.ensures c.entries.ensures used c.requires.limits

pub summary_of-requires-clause-shown : goal.summary_of-requires-clause-shown
summary_of-requires-clause-shown g c =
    let ran = c.in_ok-ran-in-Ready.ran in
    let (lines, texts, fits) = c.in_ok-make_lines-in-Ready.ensures in
    let most = scenarios_within (translations_of ran.served) ran.scripts.items ran.served.transcripts.items lines texts in
    omega (arith, most, fits)

pub summary_of-requires-clause-ended : goal.summary_of-requires-clause-ended
summary_of-requires-clause-ended g c =
    let ran = c.in_ok-ran-in-Ready.ran in
    let (lines, texts, fits) = c.in_ok-make_lines-in-Ready.ensures in
    let most = ends_within (translations_of ran.served) ran.scripts.items ran.served.transcripts.items lines texts in
    omega (arith, most, fits)

pub returns-in_ok-summary_of-in-Ready-clause-answer : goal.returns-in_ok-summary_of-in-Ready-clause-answer
returns-in_ok-summary_of-in-Ready-clause-answer g c =
    let sessions = c.entries-sessions.result.now in
    let entries = c.entries.result.now in
    let models = c.in-Ready.models.items in
    let used = subst (λ (m : Models). AreFound Lists sessions entries m) c.in-Ready.is c.in_ok-models.ensures.found in
    let on = all_on Lists c.args.script.now sessions entries models c.entries-sessions.ensures c.entries.ensures used c.requires.limits in
    let ran = c.in_ok-ran-in-Ready.ran in
    let (lines, texts, fits) = c.in_ok-make_lines-in-Ready.ensures in
    λ number. inr (
      refl,
      summary_answer c.what_was_published_stands.ensures c.a_told_session_is_backed.ensures 20000 c.args.script.now sessions entries models ran lines
          c.in_ok-summary_of-in-Ready.field-0.items c.entries-sessions.ensures c.entries.ensures used on c.in_ok-ran-in-Ready.ensures.served texts c.in_ok-summary_of-in-Ready.ensures,
    )

pub returns-in_err-ran-in-Ready-clause-learnt : goal.returns-in_err-ran-in-Ready-clause-learnt
returns-in_err-ran-in-Ready-clause-learnt g c =
    let may = ap (allowed_of default_budget) c.entries-sessions.ensures in
    let most = c.run_sessions.ensures.learnt in
    omega (arith, may, most)

pub returns-in_err-make_lines-in-Ready-clause-learnt : goal.returns-in_err-make_lines-in-Ready-clause-learnt
returns-in_err-make_lines-in-Ready-clause-learnt g c =
    let may = ap (allowed_of default_budget) c.entries-sessions.ensures in
    let most = c.run_sessions.ensures.learnt in
    omega (arith, may, most)

pub returns-in_err-summary_of-in-Ready-clause-learnt : goal.returns-in_err-summary_of-in-Ready-clause-learnt
returns-in_err-summary_of-in-Ready-clause-learnt g c =
    let may = ap (allowed_of default_budget) c.entries-sessions.ensures in
    let most = c.run_sessions.ensures.learnt in
    omega (arith, may, most)

pub returns-in_ok-summary_of-in-Ready-clause-learnt : goal.returns-in_ok-summary_of-in-Ready-clause-learnt
returns-in_ok-summary_of-in-Ready-clause-learnt g c =
    let may = ap (allowed_of default_budget) c.entries-sessions.ensures in
    let most = c.run_sessions.ensures.learnt in
    omega (arith, may, most)
