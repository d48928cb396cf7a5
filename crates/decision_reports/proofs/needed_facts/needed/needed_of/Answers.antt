use Rattle.std.proofs.Common.{◌≡◌, ◌+◌, inr, ℕ, suc, List, [], drop, sym, subst, arith}
use Rattle.std.specs.List.{AllZip}
use Rattle.std.proofs.Math.Seq.{drop-cons}
use Rattle.std.proofs.lemmas.List.{drop_all}
use Rattle.named_model.specs.View.{named_view}
use Rattle.decision_reports.specs.SomeFacts.{without}
use Rattle.decision_reports.specs.FactSets.{IsWitness, AreNeeded}
use Rattle.decision_reports.specs.Trials.{AreTried, IsNext}
use Rattle.decision_reports.proofs.TriedFacts.{all_needed}
use Rattle.decision_reports.proofs.needed_facts.needed.needed_of.Goals as goal

pub loop-fact-init : goal.loop-fact-init
loop-fact-init c =
    let m = named_view c.args.model.now in
    let n = c.args.command in
    record {
      core = c.requires.core;
      needed = [];
      facts = sym c.requires.facts;
      each = subst (λ (ss : List (List ℕ)). AllZip (λ fact s. IsWitness m n (without fact c.args.core.facts.items) s) [] ss) (sym c.new.ensures.items) tt;
    }

pub try_without-requires-clause-core : goal.try_without-requires-clause-core
try_without-requires-clause-core c = c.loop-fact.invariant.core

pub loop-fact-preserved : goal.loop-fact-preserved
loop-fact-preserved c =
    let m = named_view c.args.model.now in
    let n = c.args.command in
    let i = c.loop-fact.fact-index in
    let xs = c.args.facts.now in
    let next = c.in_ok-next.ensures (drop (suc i) xs) (subst (λ (ys : List ℕ). AreTried m n ys c.loop-fact.tried) (drop-cons xs i 0 c.loop-fact-test.true) c.loop-fact.invariant) in
    let more = subst (IsNext m n c.args.budget (drop (suc i) xs)) c.in-Tried.is next in
    let same : suc i ≡ i + 1 = omega arith in
    subst (λ (k : ℕ). AreTried m n (drop k xs) c.in-Tried.later) same more

pub returns-in-Spent : goal.returns-in-Spent
returns-in-Spent c =
    let m = named_view c.args.model.now in
    let n = c.args.command in
    let i = c.loop-fact.fact-index in
    let xs = c.args.facts.now in
    let next = c.in_ok-next.ensures (drop (suc i) xs) (subst (λ (ys : List ℕ). AreTried m n ys c.loop-fact.tried) (drop-cons xs i 0 c.loop-fact-test.true) c.loop-fact.invariant) in
    let spent = subst (IsNext m n c.args.budget (drop (suc i) xs)) c.in-Spent.is next in
    (spent.0, inr spent.1)

pub returns : goal.returns
returns c =
    let m = named_view c.args.model.now in
    let n = c.args.command in
    let done = subst (λ (ys : List ℕ). AreTried m n ys c.loop-fact.tried) (drop_all c.loop-fact.fact-index c.args.facts.now (omega arith)) c.loop-fact.invariant in
    (done.core, subst (λ (ss : List (List ℕ)). AreNeeded m n c.loop-fact.tried.core.facts.items ss) (sym c.of.ensures) (all_needed m n c.loop-fact.tried done))
