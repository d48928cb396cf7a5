use Rattle.std.proofs.Common.{inl, subst}
use Rattle.named_model.specs.View.{named_view}
use Rattle.lowering_rules.specs.Formula.{all_facts}
use Rattle.decision_reports.specs.Trials.{IsTrial}
use Rattle.decision_reports.proofs.needed_facts.needed.set_of.Goals as goal

pub returns-in-Satisfied : goal.returns-in-Satisfied
returns-in-Satisfied c =
    let m = named_view c.args.model.now in
    subst (IsTrial m c.args.command c.args.budget (all_facts m)) c.in-Satisfied.is c.requires.trial

pub returns-in-Spent : goal.returns-in-Spent
returns-in-Spent c =
    let m = named_view c.args.model.now in
    let spent = subst (IsTrial m c.args.command c.args.budget (all_facts m)) c.in-Spent.is c.requires.trial in
    (spent.1, inl spent.0)

pub irreducible-requires-clause-core : goal.irreducible-requires-clause-core
irreducible-requires-clause-core c =
    let m = named_view c.args.model.now in
    (subst (IsTrial m c.args.command c.args.budget (all_facts m)) c.in-Refuted.is c.requires.trial).1
