use Rattle.std.proofs.Common.{◌≡◌, ◌≤◌, ◌+◌, ◌∷◌, ℕ, List, IfOk, length, subst, arith}
use Rattle.std.proofs.lemmas.Result.{IfOk-weaker}
use Rattle.cnf_core.specs.declared.literal.Lit.{Lit}
use Rattle.refutation_check.specs.Part.{Parted}
use Rattle.sat_core.specs.Kept.{Kept}
use Rattle.session_state.specs.declared.search_rounds.round.RoundEnd.{RoundEnd}
use Rattle.session_state.specs.Rounds.Rounds.{left_in, parts_in, IsRoundAt, IsRightRound, IsStoppedRound}
use Rattle.session_state.specs.Rounds.Going.{IsCopied, IsUntold, TellsNoCopy, kept_in, silent}
use Rattle.session_state.proofs.Rounds.GoingOn.{IsRoundOf, copied_round}
use Rattle.session_state.proofs.search_rounds.going.round_on.Goals as goal

pub copied-requires-clause-copy : goal.copied-requires-clause-copy
copied-requires-clause-copy c =
    let t = c.args.translation.now in
    let pool = c.args.pool.now in
    let floor = c.args.floor.now in
    let shown = c.args.shown.now in
    let blocked = c.args.blocked.now in
    let budget = c.args.budget in
    let old : Kept = c.round_by.new.search in
    let copy : List ℕ = c.in-Copy.scenario in
    let u : IsUntold t pool floor shown blocked budget old copy c.in-Copy.parts.items c.in-Copy.left = subst (TellsNoCopy t pool floor shown blocked budget old) c.in-Copy.is c.in_ok-end.ensures.untold in
    u.is_copy.minimal.instance_of.scenario.cells

pub copied-requires-clause-kept : goal.copied-requires-clause-kept
copied-requires-clause-kept c =
    let t = c.args.translation.now in
    let pool = c.args.pool.now in
    let floor = c.args.floor.now in
    let shown = c.args.shown.now in
    let blocked = c.args.blocked.now in
    let budget = c.args.budget in
    let old : Kept = c.round_by.new.search in
    let copy : List ℕ = c.in-Copy.scenario in
    let u : IsUntold t pool floor shown blocked budget old copy c.in-Copy.parts.items c.in-Copy.left = subst (TellsNoCopy t pool floor shown blocked budget old) c.in-Copy.is c.in_ok-end.ensures.untold in
    let over = u.over_is in
    omega arith

pub copied-requires-clause-few : goal.copied-requires-clause-few
copied-requires-clause-few c =
    let t = c.args.translation.now in
    let pool = c.args.pool.now in
    let floor = c.args.floor.now in
    let shown = c.args.shown.now in
    let blocked = c.args.blocked.now in
    let budget = c.args.budget in
    let old : Kept = c.round_by.new.search in
    let copy : List ℕ = c.in-Copy.scenario in
    let u : IsUntold t pool floor shown blocked budget old copy c.in-Copy.parts.items c.in-Copy.left = subst (TellsNoCopy t pool floor shown blocked budget old) c.in-Copy.is c.in_ok-end.ensures.untold in
    let over = u.over_is in
    let units = u.units in
    let room = u.room in
    let few = c.requires.few in
    omega arith

pub copied-requires-clause-parts : goal.copied-requires-clause-parts
copied-requires-clause-parts c =
    let t = c.args.translation.now in
    let pool = c.args.pool.now in
    let floor = c.args.floor.now in
    let shown = c.args.shown.now in
    let blocked = c.args.blocked.now in
    let budget = c.args.budget in
    let old : Kept = c.round_by.new.search in
    let copy : List ℕ = c.in-Copy.scenario in
    let u : IsUntold t pool floor shown blocked budget old copy c.in-Copy.parts.items c.in-Copy.left = subst (TellsNoCopy t pool floor shown blocked budget old) c.in-Copy.is c.in_ok-end.ensures.untold in
    (u.parts, u.in_order)

pub returns-in-Copy : goal.returns-in-Copy
returns-in-Copy c =
    let t = c.args.translation.now in
    let pool = c.args.pool.now in
    let floor = c.args.floor.now in
    let shown = c.args.shown.now in
    let blocked = c.args.blocked.now in
    let budget = c.args.budget in
    let old : Kept = c.round_by.new.search in
    let copy : List ℕ = c.in-Copy.scenario in
    let u : IsUntold t pool floor shown blocked budget old copy c.in-Copy.parts.items c.in-Copy.left = subst (TellsNoCopy t pool floor shown blocked budget old) c.in-Copy.is c.in_ok-end.ensures.untold in
    let over = c.in-Copy.left in
    let new : Kept = c.copied.new.search in
    let clauses : List (List Lit) = c.copied.new.local in
    let Ended : RoundEnd → Type 0 = IsRoundOf t pool floor shown blocked budget new clauses u.rest in
    let Copied : RoundEnd → Type 0 = λ end. (others : List Parted) → c.in-Copy.parts.items ≡ silent t floor blocked ∷ others → IsCopied t pool floor blocked old new clauses copy others over end in
    let all : IfOk c.copied.result Ended =
    IfOk-weaker c.copied.result Copied Ended
    (λ end is. copied_round t pool floor shown blocked u.start u.found u.left budget old c.in_ok-end.ensures.going u.no_chain u.room copy u.parts u.rest u.descent u.is_copy u.within u.units over u.over_is new clauses end (is u.parts u.in_order)) c.copied.ensures in
    let over_is = u.over_is in
    let was : c.round_by.new.count + length c.args.search.now.steps + over ≤ c.args.count.now + budget + length old.steps =
    subst (λ (e : RoundEnd). c.round_by.new.count + length c.args.search.now.steps + left_in e ≤ c.args.count.now + budget + kept_in old e) c.in-Copy.is c.in_ok-end.ensures.left in
    record {
      trail = IfOk-weaker c.copied.result Ended _ (λ end is. c.in_ok-end.ensures.trail) all;
      parts = IfOk-weaker c.copied.result Ended _ (λ end is. is.parts) all;
      answer = IfOk-weaker c.copied.result Ended _ (λ end is. is.answer) all;
      stopped = IfOk-weaker c.copied.result Ended _ (λ end is. is.stopped) all;
      going = IfOk-weaker c.copied.result Ended _ (λ end is. is.going) all;
      local = IfOk-weaker c.copied.result Ended _ (λ end is. is.local) all;
      spent = c.in_ok-end.ensures.spent;
      left = IfOk-weaker c.copied.result Ended _ (λ end is. let less = is.left in omega arith) all;
    }

pub returns-in-Due : goal.returns-in-Due
returns-in-Due c =
    let t = c.args.translation.now in
    let pool = c.args.pool.now in
    let floor = c.args.floor.now in
    let blocked = c.args.blocked.now in
    let budget = c.args.budget in
    let search : Kept = c.round_by.new.search in
    let is = c.in_ok-end.ensures in
    record {
      trail = is.trail;
      parts = subst (λ (e : RoundEnd). IsRoundAt t pool floor blocked budget (parts_in e)) c.in-Due.is is.parts;
      answer = subst (IsRightRound t pool floor c.args.shown.now blocked budget) c.in-Due.is is.answer;
      stopped = subst (IsStoppedRound t pool floor c.args.shown.now blocked) c.in-Due.is is.stopped;
      going = is.going;
      local = is.local;
      spent = is.spent;
      left = subst (λ (e : RoundEnd). c.round_by.new.count + length c.args.search.now.steps + left_in e ≤ c.args.count.now + budget + kept_in search e) c.in-Due.is is.left;
    }

pub returns-in-Refuted : goal.returns-in-Refuted
returns-in-Refuted c =
    let t = c.args.translation.now in
    let pool = c.args.pool.now in
    let floor = c.args.floor.now in
    let blocked = c.args.blocked.now in
    let budget = c.args.budget in
    let search : Kept = c.round_by.new.search in
    let is = c.in_ok-end.ensures in
    record {
      trail = is.trail;
      parts = subst (λ (e : RoundEnd). IsRoundAt t pool floor blocked budget (parts_in e)) c.in-Refuted.is is.parts;
      answer = subst (IsRightRound t pool floor c.args.shown.now blocked budget) c.in-Refuted.is is.answer;
      stopped = subst (IsStoppedRound t pool floor c.args.shown.now blocked) c.in-Refuted.is is.stopped;
      going = tt;
      local = tt;
      spent = is.spent;
      left = subst (λ (e : RoundEnd). c.round_by.new.count + length c.args.search.now.steps + left_in e ≤ c.args.count.now + budget + kept_in search e) c.in-Refuted.is is.left;
    }

pub returns-in-Spent : goal.returns-in-Spent
returns-in-Spent c =
    let t = c.args.translation.now in
    let pool = c.args.pool.now in
    let floor = c.args.floor.now in
    let blocked = c.args.blocked.now in
    let budget = c.args.budget in
    let search : Kept = c.round_by.new.search in
    let is = c.in_ok-end.ensures in
    record {
      trail = is.trail;
      parts = subst (λ (e : RoundEnd). IsRoundAt t pool floor blocked budget (parts_in e)) c.in-Spent.is is.parts;
      answer = subst (IsRightRound t pool floor c.args.shown.now blocked budget) c.in-Spent.is is.answer;
      stopped = subst (IsStoppedRound t pool floor c.args.shown.now blocked) c.in-Spent.is is.stopped;
      going = tt;
      local = tt;
      spent = is.spent;
      left = subst (λ (e : RoundEnd). c.round_by.new.count + length c.args.search.now.steps + left_in e ≤ c.args.count.now + budget + kept_in search e) c.in-Spent.is is.left;
    }
