use Rattle.std.proofs.Common.{◌≡◌, ◌≢◌, ◌≤◌, ◌+◌, ◌∷◌, [], inl, List, All, IfOk, sym, ◌∙◌, subst, arith}
use Rattle.std.proofs.lemmas.Result.{IfOk-weaker}
use Rattle.cnf_core.specs.declared.literal.Lit.{Lit}
use Rattle.refutation_check.specs.SearchLog.{HasNoEmpty}
use Rattle.refutation_check.specs.Part.{Parted}
use Rattle.rel_formula.specs.Bounds.{Bounded}
use Rattle.rel_formula.specs.Instance.{IsMinimalAbove}
use Rattle.translation_rules.specs.Parts.{AreSearched, LastGoesOn, novel_in}
use Rattle.minimiser.specs.declared.descent.Down.{Down}
use Rattle.minimiser.specs.Down.{parts_of, IsDescent, IsRightOn, IsStopped}
use Rattle.session_state.specs.declared.search_rounds.round.RoundEnd.{RoundEnd}
use Rattle.session_state.specs.Rounds.Rounds.{parts_in}
use Rattle.session_state.specs.Rounds.Descended.{IsDueOrCopy}
use Rattle.session_state.proofs.Rounds.NovelSteps.{none_empty, none_empty_after}
use Rattle.session_state.proofs.Rounds.SearchedRounds.{led_down, leaves_less, not_blocked}
use Rattle.session_state.proofs.search_rounds.descent.descended.Goals as goal

pub due_or_copy-requires-clause-minimal : goal.due_or_copy-requires-clause-minimal
due_or_copy-requires-clause-minimal c =
    let t = c.args.translation.now in
    let floor = c.args.floor.now in
    let right = subst (IsRightOn t c.args.pool.now floor c.args.start.now c.args.left) c.in-Minimal.is c.in_ok-scenario.ensures.answer in
    subst (λ (p : Bounded). IsMinimalAbove p floor c.in-Minimal.scenario) (sym c.problem-problem.ensures.value) right.0

pub due_or_copy-requires-clause-new : goal.due_or_copy-requires-clause-new
due_or_copy-requires-clause-new c =
    let t = c.args.translation.now in
    let right = subst (IsRightOn t c.args.pool.now c.args.floor.now c.args.start.now c.args.left) c.in-Minimal.is c.in_ok-scenario.ensures.answer in
    not_blocked t.problem c.args.floor.now c.args.shown.now c.args.start.now c.in-Minimal.scenario c.requires.start right.1

pub returns-in_ok-all-in-Minimal : goal.returns-in_ok-all-in-Minimal
returns-in_ok-all-in-Minimal c =
    let t = c.args.translation.now in
    let pool = c.args.pool.now in
    let floor = c.args.floor.now in
    let shown = c.args.shown.now in
    let start = c.args.start.now in
    let left = c.args.left in
    let part : Parted = c.args.part in
    let parts : List Parted = c.in-Minimal.parts.items in
    let minimal = c.in-Minimal.scenario in
    let over = c.left_after-over.result in
    let descent : IsDescent t pool floor start left parts = subst (λ (d : Down). IsDescent t pool floor start left (parts_of d)) c.in-Minimal.is c.in_ok-scenario.ensures.parts in
    let right = subst (IsRightOn t pool floor start left) c.in-Minimal.is c.in_ok-scenario.ensures.answer in
    let counted = subst (λ (d : Down). c.minimise_on.new.count ≤ c.args.count.now + novel_in t pool (parts_of d)) c.in-Minimal.is c.in_ok-scenario.ensures.novel in
    let stands = c.problem-problem.ensures.well.stands in
    let sat = (stands.instances start c.requires.start.instance_of.scenario).0 c.requires.start.instance_of in
    let full : All (λ (l : List Lit). l ≢ []) t.cnf.clauses = none_empty sat.valuation t.cnf.clauses sat.satisfied in
    let later : HasNoEmpty pool = none_empty_after sat.valuation t.cnf.clauses sat.satisfied pool (c.accepted_is_entailed.ensures.entailed t.cnf.clauses pool c.requires.import.accepted) in
    let units : novel_in t pool parts + over ≡ left =
    subst (λ (ps : List Parted). AreSearched t pool ps → novel_in t pool ps ≤ left → novel_in t pool ps + over ≡ left) c.as_slice.ensures.value (c.left_after-over.ensures t pool full later) descent.searched descent.few in
    let all : c.in_ok-all-in-Minimal.all.items ≡ part ∷ parts = c.in_ok-all-in-Minimal.ensures in
    let Led : RoundEnd → Type 0 = λ end. (parts_in end ≡ c.in_ok-all-in-Minimal.all.items) × IsDueOrCopy t.problem floor shown minimal over end in
    let led : IfOk c.due_or_copy.result Led =
    subst (λ (p : Bounded). IfOk c.due_or_copy.result (λ (end : RoundEnd). (parts_in end ≡ c.in_ok-all-in-Minimal.all.items) × IsDueOrCopy p floor shown minimal over end)) c.problem-problem.ensures.value c.due_or_copy.ensures in
    record {
      trail = IfOk-weaker c.due_or_copy.result Led _ (λ end is. c.in_ok-scenario.ensures.trail) led;
      answer = IfOk-weaker c.due_or_copy.result Led _ (λ end is. led_down t pool floor shown part start left parts descent minimal right.1 over units end (is.0 ∙ all) is.1) led;
      spent = c.in_ok-scenario.ensures.spent;
      left = IfOk-weaker c.due_or_copy.result Led _ (λ end is. let l = leaves_less t.problem floor shown minimal over end is.1 in omega arith) led;
    }

pub returns-in_ok-all-in-Spent : goal.returns-in_ok-all-in-Spent
returns-in_ok-all-in-Spent c =
    let t = c.args.translation.now in
    let pool = c.args.pool.now in
    let floor = c.args.floor.now in
    let start = c.args.start.now in
    let left = c.args.left in
    let parts : List Parted = c.in-Spent.parts.items in
    let descent : IsDescent t pool floor start left parts = subst (λ (d : Down). IsDescent t pool floor start left (parts_of d)) c.in-Spent.is c.in_ok-scenario.ensures.parts in
    let units : novel_in t pool parts ≡ left = subst (IsRightOn t pool floor start left) c.in-Spent.is c.in_ok-scenario.ensures.answer in
    let on : LastGoesOn t pool parts = subst (IsStopped t pool) c.in-Spent.is c.in_ok-scenario.ensures.stopped in
    record {
      trail = c.in_ok-scenario.ensures.trail;
      answer = record { parts = parts; in_order = c.in_ok-all-in-Spent.ensures; descent = descent; leads = (units, inl on) };
      spent = c.in_ok-scenario.ensures.spent;
      left = (let s = c.in_ok-scenario.ensures.spent in omega arith);
    }
