use Rattle.std.proofs.Common.{◌≡◌, ◌++◌, ℕ, List, subst}
use Rattle.std.proofs.lemmas.Result.{IfOk-weaker}
use Rattle.std.specs.Global.{Vec}
use Rattle.named_model.specs.View.{named_view}
use Rattle.lowering_rules.specs.Formula.{all_facts}
use Rattle.decision_reports.specs.FactSets.{IsFactSet}
use Rattle.decision_reports.specs.Reports.{command_front}
use Rattle.decision_reports.specs.FactReports.{IsFactSetOn, set_text}
use Rattle.decision_reports.proofs.fact_sets.set_on.Goals as goal

pub stop_of-requires : goal.stop_of-requires
stop_of-requires c =
    let m = named_view c.args.model.now in
    let p = c.requires.problem in
    let few = p.1.lowered.translatable.few_terms in
    c.problems_are_not_refused.ensures m c.args.number (all_facts m) p.0 p.1.problem p.1.lowered.is few.0 few.1 few.2 c.in-Err.fault c.in-Err.ensures

pub returns-in-Ok : goal.returns-in-Ok
returns-in-Ok c =
    let m = named_view c.args.model.now in
    IfOk-weaker c.lines_of.result (λ (text : Vec ℕ). text.items ≡ command_front c.args.name.now c.args.number ++ set_text m.fact_names c.args.budget c.in-Ok.set)
    (λ (text : Vec ℕ). IsFactSetOn c.args.budget c.args.name.now m c.args.number text.items)
    (λ _ told. record {
      runs = c.requires.problem;
      set = c.in-Ok.set;
      known = subst (λ (b : ℕ). IsFactSet m c.args.number b c.in-Ok.set) c.from.ensures c.in-Ok.ensures;
      told = told;
    }) c.lines_of.ensures
