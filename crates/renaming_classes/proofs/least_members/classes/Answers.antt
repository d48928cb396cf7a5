use Rattle.std.proofs.Common.{ℕ, List, take, get_or, sym, subst}
use Rattle.std.proofs.lemmas.List.{take_all}
use Rattle.std.proofs.lemmas.List.Elements.{Contains-get_or}
use Rattle.renaming_classes.specs.Classes.{AreClasses}
use Rattle.renaming_classes.proofs.Listing.{no_classes, one_class_more}
use Rattle.renaming_classes.proofs.least_members.classes.Goals as goal

pub loop-scenario-init : goal.loop-scenario-init
loop-scenario-init c = subst (AreClasses c.args.problem.now (take 0 c.args.all.now)) (sym c.new-found.ensures.items) (no_classes c.args.problem.now c.args.all.now)

pub loop-scenario-preserved : goal.loop-scenario-preserved
loop-scenario-preserved c =
    let all : List (List ℕ) = c.args.all.now in
    one_class_more c.args.problem.now all c.loop-scenario.scenario-index c.scenario-item.result c.loop-scenario-test.true c.scenario-item.is c.loop-scenario.found.items c.add.new.found.items c.in_ok-member.member
    c.in_ok-member.ensures c.in_ok-add.ensures.members c.in_ok-add.ensures.sorted c.loop-scenario.invariant

pub returns : goal.returns
returns c =
    let all : List (List ℕ) = c.args.all.now in
    subst (λ (xs : List (List ℕ)). AreClasses c.args.problem.now xs c.loop-scenario.found.items) (take_all c.loop-scenario.scenario-index all c.loop-scenario-test.false) c.loop-scenario.invariant

pub add-requires-clause-found : goal.add-requires-clause-found
add-requires-clause-found c = λ k d l. (c.loop-scenario.invariant.each (get_or c.loop-scenario.found.items k d) (Contains-get_or c.loop-scenario.found.items k d l)).2.least.scenario
