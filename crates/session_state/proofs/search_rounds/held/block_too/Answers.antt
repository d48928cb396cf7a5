use Rattle.std.proofs.Common.{◌≡◌, ◌∷◌, [], ◌++◌, ◌∙◌, List, length, ap, subst, arith}
use Rattle.std.specs.Prelude.{MatchBool}
use Rattle.std.proofs.lemmas.List.{length_push}
use Rattle.cnf_core.specs.declared.literal.Lit.{Lit}
use Rattle.sat_core.specs.Kept.{Kept, IsKept}
use Rattle.session_state.specs.Rounds.Going.{IsGoing}
use Rattle.session_state.proofs.search_rounds.held.block_too.Goals as goal

pub is_blocked_too-requires-clause-few : goal.is_blocked_too-requires-clause-few
is_blocked_too-requires-clause-few c = let kept = c.requires.kept in let few = c.requires.few in omega arith

pub returns-then-branch : goal.returns-then-branch
returns-then-branch c =
    let t = c.args.translation.now in
    let pool = c.args.pool.now in
    let floor = c.args.floor.now in
    let all = c.args.blocked.now ++ c.args.scenario.now ∷ [] in
    let old : Kept = c.args.search.now in
    let new : Kept = c.is_blocked_too.new.search in
    let steps = ap length c.in_ok-is_blocked_too.ensures.steps in
    let kept = c.requires.kept in
    record {
      local = c.in_ok-is_blocked_too.ensures.local;
      going = subst (λ b. MatchBool b (IsGoing t pool floor all new) (new ≡ old)) c.if-branch.true c.in_ok-is_blocked_too.ensures.blocked;
      few = omega arith;
    }

pub anew-requires-clause-local : goal.anew-requires-clause-local
anew-requires-clause-local c =
    let blocked = c.args.blocked.now in
    let long = length_push blocked c.args.scenario.now in
    let few = c.requires.few in
    (blocked ++ c.args.scenario.now ∷ [], c.as_slice.ensures ∙ c.in_ok-is_blocked_too.ensures.local, omega arith)

pub returns : goal.returns
returns c =
    let t = c.args.translation.now in
    let none = ap length c.in_ok-search.ensures.none in
    record {
      local = c.in_ok-is_blocked_too.ensures.local;
      going = subst (λ (ls : List (List Lit)). IsKept t.cnf ls c.args.pool.now c.in_ok-search.field-0) (c.as_slice.ensures ∙ c.in_ok-is_blocked_too.ensures.local) c.in_ok-search.ensures.kept;
      few = omega arith;
    }
