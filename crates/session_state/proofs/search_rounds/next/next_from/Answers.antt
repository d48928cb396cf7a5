use Rattle.std.proofs.Common.{◌≡◌, ◌≤◌, ◌+◌, ◌++◌, ◌∷◌, [], ℕ, List, length, All, Contains, sym, ◌∙◌, ap, subst, arith}
use Rattle.refutation_check.specs.Part.{Parted}
use Rattle.refutation_check.proofs.Novelty.{novel_but_last}
use Rattle.translation_rules.specs.Parts.{given_to}
use Rattle.translation_rules.specs.Locals.{locals_of}
use Rattle.session_rules.specs.ProofOfEnd.{ProofOfEnd}
use Rattle.session_rules.specs.Proofs.{IsCovered}
use Rattle.session_state.specs.declared.search_rounds.next.NextAt.{NextAt}
use Rattle.session_state.specs.declared.search_rounds.next.Found.{Found}
use Rattle.session_state.specs.declared.search_rounds.next.Found.TheVariants.{Shown, Ended, Spent}
use Rattle.session_state.specs.declared.search_rounds.round.RoundEnd.{RoundEnd}
use Rattle.session_state.specs.Rounds.Rounds.{left_in, parts_in, IsRoundAt, IsRightRound, IsStoppedRound}
use Rattle.session_state.specs.Rounds.Next.{IsEndAt}
use Rattle.session_state.specs.Rounds.Going.{IsGoing, GoesOnWith, HasLocals, IsBlockedAt, StaysAt, kept_in}
use Rattle.session_state.proofs.Rounds.SearchedRounds.{novel_more, novel_none}
use Rattle.session_state.proofs.Rounds.RoundStates.{Going, Answered, set_out, covered_later, cells_of_blocked, shown_are_blocked, few_blocked, done, spent_all, stopped, next, ended}
use Rattle.session_state.proofs.search_rounds.next.next_from.Goals as goal

pub rounds-init : goal.rounds-init
rounds-init c =
    let t = c.args.translation.now in
    let pool = c.args.pool.now in
    let floor = c.args.floor.now in
    let shown = c.args.shown.now in
    let copies = c.args.copies.now in
    let budget = c.args.budget in
    record {
      over = c.requires.trail;
      local = c.requires.local;
      search = c.requires.going;
      few = c.requires.kept;
      going = subst (λ (b : List (List ℕ)). Going t pool floor shown copies budget b c.new-parts.result.items c.new-found.result.items budget) (sym c.requires.blocked)
          (subst (λ (ps : List Parted). Going t pool floor shown copies budget (shown ++ copies) ps c.new-found.result.items budget) (sym c.new-parts.ensures.items)
          (subst (λ (fs : List (List ℕ)). Going t pool floor shown copies budget (shown ++ copies) [] fs budget) (sym c.new-found.ensures.items) (set_out t pool floor shown copies budget)));
      spent = omega arith;
    }

pub round_on-requires-clause-local : goal.round_on-requires-clause-local
round_on-requires-clause-local c = c.rounds.invariant.local ∙ ap (locals_of c.args.translation.now c.args.floor.now) (sym c.as_slice.ensures.value)

pub round_on-requires-clause-going : goal.round_on-requires-clause-going
round_on-requires-clause-going c =
    subst (λ (b : List (List ℕ)). IsGoing c.args.translation.now c.args.pool.now c.args.floor.now b c.rounds.search) (sym c.as_slice.ensures.value) c.rounds.invariant.search

pub round_on-requires-clause-shown : goal.round_on-requires-clause-shown
round_on-requires-clause-shown c =
    let blocked : List (List ℕ) = c.rounds.blocked.items in
    let all = shown_are_blocked c.args.translation.now c.args.pool.now c.args.floor.now c.args.shown.now c.args.copies.now c.args.budget blocked c.rounds.parts.items c.rounds.found.items c.rounds.left c.rounds.invariant.going in
    subst (λ (b : List (List ℕ)). All (Contains b) c.args.shown.now) (sym c.as_slice.ensures.value) all

pub round_on-requires-clause-blocked : goal.round_on-requires-clause-blocked
round_on-requires-clause-blocked c =
    let p = c.args.translation.now.problem in
    let floor = c.args.floor.now in
    let shown = c.args.shown.now in
    let copies = c.args.copies.now in
    let going = c.rounds.invariant.going in
    let later = covered_later p floor shown copies c.rounds.found.items c.requires.shown c.requires.copies going.new in
    cells_of_blocked p floor shown copies c.rounds.found.items c.requires.shown c.requires.copies c.as_slice.result.now
    (subst (IsCovered p floor shown) (sym (c.as_slice.ensures.value ∙ going.blocked_are)) later)

pub round_on-requires-clause-few : goal.round_on-requires-clause-few
round_on-requires-clause-few c =
    let going = c.rounds.invariant.going in
    let many = few_blocked c.args.translation.now c.args.pool.now c.args.floor.now c.args.shown.now c.args.copies.now c.args.budget c.rounds.blocked.items c.rounds.parts.items c.rounds.found.items c.rounds.left going in
    let same : length c.as_slice.result.now ≡ length c.rounds.blocked.items = ap length c.as_slice.ensures.value in
    let units = going.units in
    let few = c.requires.few in
    let most = c.requires.budget in
    omega arith

pub round_on-requires-clause-budget : goal.round_on-requires-clause-budget
round_on-requires-clause-budget c =
    let going = c.rounds.invariant.going in
    let units = going.units in
    let most = c.requires.budget in
    omega arith

pub rounds-smaller : goal.rounds-smaller
rounds-smaller c =
    let t = c.args.translation.now in
    let pool = c.args.pool.now in
    let floor = c.args.floor.now in
    let shown = c.args.shown.now in
    let copies = c.args.copies.now in
    let budget = c.args.budget in
    let blocked : List (List ℕ) = c.rounds.blocked.items in
    let parts : List Parted = c.rounds.parts.items in
    let found : List (List ℕ) = c.rounds.found.items in
    let left = c.rounds.left in
    let going : Going t pool floor shown copies budget blocked parts found left = c.rounds.invariant.going in
    let right = subst (IsRightRound t pool floor shown blocked left) c.in-Copy.is (subst (λ (b : List (List ℕ)). IsRightRound t pool floor shown b left c.in_ok-scenario.field-0) c.as_slice.ensures.value c.in_ok-scenario.ensures.answer) in
    let units = right.2 in
    omega arith

pub rounds-preserved : goal.rounds-preserved
rounds-preserved c =
    let t = c.args.translation.now in
    let pool = c.args.pool.now in
    let floor = c.args.floor.now in
    let shown = c.args.shown.now in
    let copies = c.args.copies.now in
    let budget = c.args.budget in
    let blocked : List (List ℕ) = c.rounds.blocked.items in
    let parts : List Parted = c.rounds.parts.items in
    let found : List (List ℕ) = c.rounds.found.items in
    let left = c.rounds.left in
    let going : Going t pool floor shown copies budget blocked parts found left = c.rounds.invariant.going in
    let more : List Parted = c.in-Copy.more.items in
    let round : IsRoundAt t pool floor blocked left more =
    subst (λ (e : RoundEnd). IsRoundAt t pool floor blocked left (parts_in e)) c.in-Copy.is (subst (λ (b : List (List ℕ)). IsRoundAt t pool floor b left (parts_in c.in_ok-scenario.field-0)) c.as_slice.ensures.value c.in_ok-scenario.ensures.parts) in
    let right = subst (IsRightRound t pool floor shown blocked left) c.in-Copy.is (subst (λ (b : List (List ℕ)). IsRightRound t pool floor shown b left c.in_ok-scenario.field-0) c.as_slice.ensures.value c.in_ok-scenario.ensures.answer) in
    let copy : List ℕ = c.in-Copy.scenario in
    let on = next t pool floor shown copies budget blocked parts found left going more round copy c.in-Copy.rest right.0 right.1 right.2 in
    let locals = subst (HasLocals t floor blocked c.round_on.new.local) c.in-Copy.is (subst (λ (b : List (List ℕ)). HasLocals t floor b c.round_on.new.local c.in_ok-scenario.field-0) c.as_slice.ensures.value c.in_ok-scenario.ensures.local) in
    let stays = subst (GoesOnWith t pool floor blocked c.round_on.new.search) c.in-Copy.is (subst (λ (b : List (List ℕ)). GoesOnWith t pool floor b c.round_on.new.search c.in_ok-scenario.field-0) c.as_slice.ensures.value c.in_ok-scenario.ensures.going) in
    let parts_now = c.in_ok-add_parts-in-Copy.ensures in
    let found_now = c.in_ok-push-in-Copy.ensures.items ∙ ap (λ (s : List ℕ). found ++ s ∷ []) c.in_ok-copy-in-Copy.ensures in
    let blocked_now = c.in_ok-push-in-Copy-2.ensures.items in
    record {
      over = c.in_ok-scenario.ensures.trail;
      local = locals ∙ ap (locals_of t floor) (sym blocked_now);
      search = subst (λ (b : List (List ℕ)). IsGoing t pool floor b c.round_on.new.search) (sym blocked_now) stays.0;
      few = stays.1;
      going = subst (λ (b : List (List ℕ)). Going t pool floor shown copies budget b c.add_parts-in-Copy.new.parts.items c.push.new.self.items c.in-Copy.rest) (sym blocked_now)
          (subst (λ (ps : List Parted). Going t pool floor shown copies budget (blocked ++ copy ∷ []) ps c.push.new.self.items c.in-Copy.rest) (sym parts_now)
          (subst (λ (fs : List (List ℕ)). Going t pool floor shown copies budget (blocked ++ copy ∷ []) (parts ++ more) fs c.in-Copy.rest) (sym found_now) on));
      spent =
          (let l = subst (λ (e : RoundEnd). c.round_on.new.count + length c.rounds.search.steps + left_in e ≤ c.rounds.count + left + kept_in c.round_on.new.search e) c.in-Copy.is c.in_ok-scenario.ensures.left in
          let s = c.rounds.invariant.spent in
          omega arith);
    }

pub returns-in-Due : goal.returns-in-Due
returns-in-Due c =
    let t = c.args.translation.now in
    let pool = c.args.pool.now in
    let floor = c.args.floor.now in
    let shown = c.args.shown.now in
    let copies = c.args.copies.now in
    let budget = c.args.budget in
    let blocked : List (List ℕ) = c.rounds.blocked.items in
    let parts : List Parted = c.rounds.parts.items in
    let found : List (List ℕ) = c.rounds.found.items in
    let left = c.rounds.left in
    let going : Going t pool floor shown copies budget blocked parts found left = c.rounds.invariant.going in
    let more : List Parted = c.in-Due.more.items in
    let round : IsRoundAt t pool floor blocked left more =
    subst (λ (e : RoundEnd). IsRoundAt t pool floor blocked left (parts_in e)) c.in-Due.is (subst (λ (b : List (List ℕ)). IsRoundAt t pool floor b left (parts_in c.in_ok-scenario.field-0)) c.as_slice.ensures.value c.in_ok-scenario.ensures.parts) in
    let right = subst (IsRightRound t pool floor shown blocked left) c.in-Due.is (subst (λ (b : List (List ℕ)). IsRightRound t pool floor shown b left c.in_ok-scenario.field-0) c.as_slice.ensures.value c.in_ok-scenario.ensures.answer) in
    let finished = done t pool floor shown copies budget blocked parts found left going more round c.requires.copies in
    let what : Found = Shown c.in-Due.scenario in
    let told : Answered t pool floor shown copies budget c.next_of.result =
    subst (Answered t pool floor shown copies budget) (sym c.next_of.ensures)
    (subst (λ (ps : List Parted). Answered t pool floor shown copies budget (record { found = what; parts = ps; copies = found })) (sym c.in_ok-add_parts-in-Due.ensures) (record { done = finished; answer = right; stopped = tt })) in
    let Stays : NextAt → Type 0 =
    λ next. IsBlockedAt t floor (shown ++ copies ++ next.copies) c.round_on.new.local next.found × StaysAt t pool floor (shown ++ copies ++ next.copies) c.round_on.new.search next.found in
    let locals = subst (HasLocals t floor blocked c.round_on.new.local) c.in-Due.is (subst (λ (b : List (List ℕ)). HasLocals t floor b c.round_on.new.local c.in_ok-scenario.field-0) c.as_slice.ensures.value c.in_ok-scenario.ensures.local) in
    let goes = subst (GoesOnWith t pool floor blocked c.round_on.new.search) c.in-Due.is (subst (λ (b : List (List ℕ)). GoesOnWith t pool floor b c.round_on.new.search c.in_ok-scenario.field-0) c.as_slice.ensures.value c.in_ok-scenario.ensures.going) in
    let stays : Stays c.next_of.result =
    subst Stays (sym c.next_of.ensures) ((locals ∙ ap (locals_of t floor) going.blocked_are, subst (λ (b : List (List ℕ)). IsGoing t pool floor b c.round_on.new.search) going.blocked_are goes)) in
    record {
      trail = c.in_ok-scenario.ensures.trail;
      local = stays.0;
      going = stays.1;
      searched = told.done.searched;
      work = told.done.work;
      copies = told.done.new;
      units = told.done.few;
      answer = told.answer;
      stopped = told.stopped;
      spent = (let s = c.in_ok-scenario.ensures.spent in let i = c.rounds.invariant.spent in omega arith);
    }

pub returns-in-Spent : goal.returns-in-Spent
returns-in-Spent c =
    let t = c.args.translation.now in
    let pool = c.args.pool.now in
    let floor = c.args.floor.now in
    let shown = c.args.shown.now in
    let copies = c.args.copies.now in
    let budget = c.args.budget in
    let blocked : List (List ℕ) = c.rounds.blocked.items in
    let parts : List Parted = c.rounds.parts.items in
    let found : List (List ℕ) = c.rounds.found.items in
    let left = c.rounds.left in
    let going : Going t pool floor shown copies budget blocked parts found left = c.rounds.invariant.going in
    let more : List Parted = c.in-Spent.more.items in
    let round : IsRoundAt t pool floor blocked left more =
    subst (λ (e : RoundEnd). IsRoundAt t pool floor blocked left (parts_in e)) c.in-Spent.is (subst (λ (b : List (List ℕ)). IsRoundAt t pool floor b left (parts_in c.in_ok-scenario.field-0)) c.as_slice.ensures.value c.in_ok-scenario.ensures.parts) in
    let right = subst (IsRightRound t pool floor shown blocked left) c.in-Spent.is (subst (λ (b : List (List ℕ)). IsRightRound t pool floor shown b left c.in_ok-scenario.field-0) c.as_slice.ensures.value c.in_ok-scenario.ensures.answer) in
    let finished = done t pool floor shown copies budget blocked parts found left going more round c.requires.copies in
    let on =
    subst (IsStoppedRound t pool floor shown blocked) c.in-Spent.is (subst (λ (b : List (List ℕ)). IsStoppedRound t pool floor shown b c.in_ok-scenario.field-0) c.as_slice.ensures.value c.in_ok-scenario.ensures.stopped) in
    let what : Found = Spent in
    let told : Answered t pool floor shown copies budget c.next_of-in-Spent.result =
    subst (Answered t pool floor shown copies budget) (sym c.next_of-in-Spent.ensures)
    (subst (λ (ps : List Parted). Answered t pool floor shown copies budget (record { found = what; parts = ps; copies = found })) (sym c.in_ok-add_parts-in-Spent.ensures) (record {
      done = finished;
      answer = spent_all t pool floor shown copies budget blocked parts found left going more round right;
      stopped = stopped t pool floor shown copies budget blocked parts found left going more round c.requires.copies on;
    })) in
    let Stays : NextAt → Type 0 =
    λ next. IsBlockedAt t floor (shown ++ copies ++ next.copies) c.round_on.new.local next.found × StaysAt t pool floor (shown ++ copies ++ next.copies) c.round_on.new.search next.found in
    let stays : Stays c.next_of-in-Spent.result = subst Stays (sym c.next_of-in-Spent.ensures) ((tt, tt)) in
    record {
      trail = c.in_ok-scenario.ensures.trail;
      local = stays.0;
      going = stays.1;
      searched = told.done.searched;
      work = told.done.work;
      copies = told.done.new;
      units = told.done.few;
      answer = told.answer;
      stopped = told.stopped;
      spent = (let s = c.in_ok-scenario.ensures.spent in let i = c.rounds.invariant.spent in omega arith);
    }

pub proof_of-requires-clause-few : goal.proof_of-requires-clause-few
proof_of-requires-clause-few c =
    let t = c.args.translation.now in
    let pool = c.args.pool.now in
    let floor = c.args.floor.now in
    let shown = c.args.shown.now in
    let copies = c.args.copies.now in
    let budget = c.args.budget in
    let blocked : List (List ℕ) = c.rounds.blocked.items in
    let parts : List Parted = c.rounds.parts.items in
    let found : List (List ℕ) = c.rounds.found.items in
    let left = c.rounds.left in
    let going : Going t pool floor shown copies budget blocked parts found left = c.rounds.invariant.going in
    let more : List Parted = c.in-Refuted.part ∷ [] in
    let round : IsRoundAt t pool floor blocked left more =
    subst (λ (e : RoundEnd). IsRoundAt t pool floor blocked left (parts_in e)) c.in-Refuted.is (subst (λ (b : List (List ℕ)). IsRoundAt t pool floor b left (parts_in c.in_ok-scenario.field-0)) c.as_slice.ensures.value c.in_ok-scenario.ensures.parts) in
    let right = subst (IsRightRound t pool floor shown blocked left) c.in-Refuted.is (subst (λ (b : List (List ℕ)). IsRightRound t pool floor shown b left c.in_ok-scenario.field-0) c.as_slice.ensures.value c.in_ok-scenario.ensures.answer) in
    let part : Parted = c.in-Refuted.part in
    let many = few_blocked t pool floor shown copies budget blocked parts found left going in
    let units = going.units in
    let few = c.requires.few in
    let most = c.requires.budget in
    let log = round.searched 0 part (omega arith) in
    let long = novel_but_last (given_to t pool part) part.log log.novel in
    let one = novel_more t pool part [] in
    let none = novel_none t pool in
    let fits = round.few in
    omega arith

pub returns-in-Refuted : goal.returns-in-Refuted
returns-in-Refuted c =
    let t = c.args.translation.now in
    let pool = c.args.pool.now in
    let floor = c.args.floor.now in
    let shown = c.args.shown.now in
    let copies = c.args.copies.now in
    let budget = c.args.budget in
    let blocked : List (List ℕ) = c.rounds.blocked.items in
    let parts : List Parted = c.rounds.parts.items in
    let found : List (List ℕ) = c.rounds.found.items in
    let left = c.rounds.left in
    let going : Going t pool floor shown copies budget blocked parts found left = c.rounds.invariant.going in
    let more : List Parted = c.in-Refuted.part ∷ [] in
    let round : IsRoundAt t pool floor blocked left more =
    subst (λ (e : RoundEnd). IsRoundAt t pool floor blocked left (parts_in e)) c.in-Refuted.is (subst (λ (b : List (List ℕ)). IsRoundAt t pool floor b left (parts_in c.in_ok-scenario.field-0)) c.as_slice.ensures.value c.in_ok-scenario.ensures.parts) in
    let right = subst (IsRightRound t pool floor shown blocked left) c.in-Refuted.is (subst (λ (b : List (List ℕ)). IsRightRound t pool floor shown b left c.in_ok-scenario.field-0) c.as_slice.ensures.value c.in_ok-scenario.ensures.answer) in
    let part : Parted = c.in-Refuted.part in
    let finished = done t pool floor shown copies budget blocked parts found left going more round c.requires.copies in
    let ends : IsEndAt t pool floor shown (shown ++ copies ++ found) (parts ++ part ∷ []) (record { imported = length pool; blocked = blocked; pool = pool; log = part.log }) =
    ended t pool floor shown copies budget blocked parts found left going
    (λ blocked part log empty. c.a_refuting_part_makes_a_proof.ensures t pool part blocked c.requires.import.accepted log empty)
    (λ proof proves covered x due. c.a_proof_of_an_end_is_right.ensures t.problem t c.problem.ensures.well.stands floor shown c.requires.shown proof proves covered x due)
    c.requires.copies part (round.searched 0 part (omega arith)) right.0 right.1 in
    let proof : ProofOfEnd = c.in_ok-proof-in-Refuted.proof in
    let what : Found = Ended proof in
    let told : Answered t pool floor shown copies budget c.next_of-in-Refuted.result =
    subst (Answered t pool floor shown copies budget) (sym c.next_of-in-Refuted.ensures)
    (subst (λ (ps : List Parted). Answered t pool floor shown copies budget (record { found = what; parts = ps; copies = found })) (sym c.in_ok-push-in-Refuted.ensures.items)
    (record { done = finished; answer = subst (IsEndAt t pool floor shown (shown ++ copies ++ found) (parts ++ part ∷ [])) (sym c.in_ok-proof-in-Refuted.ensures) ends; stopped = tt })) in
    let Stays : NextAt → Type 0 =
    λ next. IsBlockedAt t floor (shown ++ copies ++ next.copies) c.round_on.new.local next.found × StaysAt t pool floor (shown ++ copies ++ next.copies) c.round_on.new.search next.found in
    let stays : Stays c.next_of-in-Refuted.result = subst Stays (sym c.next_of-in-Refuted.ensures) ((tt, tt)) in
    record {
      trail = c.in_ok-scenario.ensures.trail;
      local = stays.0;
      going = stays.1;
      searched = told.done.searched;
      work = told.done.work;
      copies = told.done.new;
      units = told.done.few;
      answer = told.answer;
      stopped = told.stopped;
      spent = (let s = c.in_ok-scenario.ensures.spent in let i = c.rounds.invariant.spent in omega arith);
    }
