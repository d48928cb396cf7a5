use Rattle.alloy_syntax.specs.declared.tree.CommandKind.TheVariants.{Run, Check}
use Rattle.decision_reports.proofs.OneReport.{IsOneThing, one_first_refused, usable_or_first_refused, usable_of_told, usable_of_facts}
use Rattle.decision_reports.proofs.laws.reports_are_one_way.Goals as goal

pub returns : goal.returns
returns c =
    let not_refused = c.problems_are_not_refused.ensures in
    let one = c.refusals_are_one.ensures in
    let text = c.a_text_is_one_thing.ensures in
    let is : IsOneThing = record { model = text.model; fault = text.fault; faulty = text.faulty } in
    record {
      refused = λ kind entries name words others more. one_first_refused not_refused one is kind entries name words others more;
      either = λ budget entries text name words told. usable_or_first_refused not_refused one is Check entries name words (usable_of_told budget entries text told);
      facts = λ budget entries text name words told. usable_or_first_refused not_refused one is Run entries name words (usable_of_facts budget entries text told);
    }
