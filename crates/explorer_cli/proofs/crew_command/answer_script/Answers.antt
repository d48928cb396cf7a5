use Rattle.std.proofs.Common.{◌≤◌, inr, List, All, length, refl, sym, ap, subst, ◌∙◌}
use Rattle.std.specs.Global.{Vec}
use Rattle.script_format.specs.declared.entries.ModelEntry.{ModelEntry}
use Rattle.served_models.specs.declared.purposes.Purpose.TheVariants.{Lists}
use Rattle.served_models.specs.declared.commands.ServedCommand.{ServedCommand}
use Rattle.served_models.specs.declared.models.Models.{Models}
use Rattle.served_models.specs.Served.{AreFound}
use Rattle.explorer_cli.specs.ServedCrews.{AreServable, AreServedTexts}
use Rattle.explorer_cli.proofs.CrewBlocks.{each_servable, as_many_models, crews_of}
use Rattle.explorer_cli.proofs.crew_command.answer_script.Goals as goal

pub read_models-requires : goal.read_models-requires
read_models-requires g c = subst (λ (es : List ModelEntry). All (λ (m : ModelEntry). length m.text ≤ 1048576) es) (sym c.entries-entries.ensures) c.requires.limits.small

pub text_of_crews-requires-clause-count : goal.text_of_crews-requires-clause-count
text_of_crews-requires-clause-count g c κs within =
    let sessions = c.entries-sessions.result.now in
    let entries = c.entries-entries.result.now in
    let used = subst (λ (m : Models). AreFound Lists sessions entries m) c.in-Ready.is c.in_ok-models.ensures.found in
    ap (λ (xs : List (Vec ServedCommand)). length xs) c.deref.ensures.value ∙ as_many_models sessions entries c.in-Ready.models.items used

pub text_of_crews-requires-clause-servable : goal.text_of_crews-requires-clause-servable
text_of_crews-requires-clause-servable g c κs within =
    let sessions = c.entries-sessions.result.now in
    let entries = c.entries-entries.result.now in
    let used = subst (λ (m : Models). AreFound Lists sessions entries m) c.in-Ready.is c.in_ok-models.ensures.found in
    subst (All AreServable) (sym c.deref.ensures.value) (each_servable sessions entries c.in-Ready.models.items used c.problems_are_symmetric.ensures)

pub returns-in_ok-text_of_crews-in-Ready-clause-answer : goal.returns-in_ok-text_of_crews-in-Ready-clause-answer
returns-in_ok-text_of_crews-in-Ready-clause-answer g c =
    let sessions = c.entries-sessions.result.now in
    let entries = c.entries-entries.result.now in
    let workers = c.args.workers in
    let budget = c.args.budget in
    let text = c.in_ok-text_of_crews-in-Ready.field-0.items in
    let used = subst (λ (m : Models). AreFound Lists sessions entries m) c.in-Ready.is c.in_ok-models.ensures.found in
    let texts = subst (λ (models : List (Vec ServedCommand)). AreServedTexts workers budget entries models text) c.deref.ensures.value c.in_ok-text_of_crews-in-Ready.ensures.texts in
    inr (refl, crews_of sessions entries c.in-Ready.models.items used workers budget c.args.script.now text c.entries-sessions.ensures c.entries-entries.ensures texts)
