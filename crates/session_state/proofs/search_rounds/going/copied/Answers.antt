use Rattle.std.proofs.Common.{◌≡◌, ◌≤◌, ◌+◌, ◌^◌, ◌∷◌, [], ◌++◌, inl, inr, List, length, refl, sym, ◌∙◌, ap, subst, arith}
use Rattle.std.specs.Prelude.{MatchBool}
use Rattle.std.proofs.lemmas.List.{length_push}
use Rattle.cnf_core.specs.declared.literal.Lit.{Lit}
use Rattle.sat_core.specs.Kept.{Kept, IsKept, AreWithin}
use Rattle.translation_rules.specs.Locals.{locals_of}
use Rattle.session_state.specs.Rounds.Going.{IsGoing, silent, telling}
use Rattle.session_state.proofs.Rounds.Sizes.{few_clauses}
use Rattle.session_state.proofs.search_rounds.going.copied.Goals as goal

pub is_blocked_too-requires-clause-few : goal.is_blocked_too-requires-clause-few
is_blocked_too-requires-clause-few c = let kept = c.requires.kept in let few = c.requires.few in omega arith

pub returns-then-branch : goal.returns-then-branch
returns-then-branch c = λ rest e.
    let t = c.args.translation.now in
    let pool = c.args.pool.now in
    let floor = c.args.floor.now in
    let all = c.args.blocked.now ++ c.args.scenario ∷ [] in
    let old : Kept = c.args.search.now in
    let new : Kept = c.is_blocked_too.new.search in
    let goes : IsGoing t pool floor all new = subst (λ b. MatchBool b (IsGoing t pool floor all new) (new ≡ old)) c.if-branch.true c.in_ok-is_blocked_too.ensures.blocked in
    (refl, goes, c.in_ok-is_blocked_too.ensures.local, inl (e, c.in_ok-is_blocked_too.ensures.steps, refl))

pub overflow_sub-left : goal.overflow_sub-left
overflow_sub-left c = let long = c.len.ensures in let same = ap length c.in_ok-is_blocked_too.ensures.steps in let kept = c.requires.kept in omega arith

pub told-requires-clause-within : goal.told-requires-clause-within
told-requires-clause-within c =
    let t = c.args.translation.now in
    let old : Kept = c.args.search.now in
    let new : Kept = c.is_blocked_too.new.search in
    let same : new ≡ old = subst (λ b. MatchBool b (IsGoing t c.args.pool.now c.args.floor.now (c.args.blocked.now ++ c.args.scenario ∷ []) new) (new ≡ old)) c.if-branch.false c.in_ok-is_blocked_too.ensures.blocked in
    subst (λ (k : Kept). AreWithin (length k.numbers) k.steps) (sym same) c.requires.going.holds.within

pub told-requires-clause-parts : goal.told-requires-clause-parts
told-requires-clause-parts c =
    let t = c.args.translation.now in
    let floor = c.args.floor.now in
    let blocked = c.args.blocked.now in
    let few = few_clauses t c.problem-problem.ensures.well c.problem-problem.result.now c.problem-problem.ensures.value c.relations.ensures.well.few_cells floor c.numbers.ensures.rising c.requires.floor blocked (locals_of t floor blocked) refl in
    let room = c.requires.few in
    let kept = c.requires.kept in
    let long = ap length c.in_ok-is_blocked_too.ensures.steps in
    let fits : length (locals_of t floor blocked) + length c.is_blocked_too.new.search.steps ≤ 2 ^ 28 = omega arith in
    (silent t floor blocked, c.requires.parts.0, c.requires.parts.1, fits)

pub anew-requires-clause-local : goal.anew-requires-clause-local
anew-requires-clause-local c =
    let blocked = c.args.blocked.now in
    let long = length_push blocked c.args.scenario in
    let few = c.requires.few in
    (blocked ++ c.args.scenario ∷ [], c.as_slice.ensures ∙ c.in_ok-is_blocked_too.ensures.local, omega arith)

pub returns : goal.returns
returns c = λ rest e.
    let t = c.args.translation.now in
    let pool = c.args.pool.now in
    let floor = c.args.floor.now in
    let blocked = c.args.blocked.now in
    let copy = c.args.scenario in
    let old : Kept = c.args.search.now in
    let tried : Kept = c.is_blocked_too.new.search in
    let same : tried ≡ old = subst (λ b. MatchBool b (IsGoing t pool floor (blocked ++ copy ∷ []) tried) (tried ≡ old)) c.if-branch.false c.in_ok-is_blocked_too.ensures.blocked in
    let now = c.in_ok-is_blocked_too.ensures.local in
    let goes : IsGoing t pool floor (blocked ++ copy ∷ []) c.in_ok-search.field-0 = subst (λ (ls : List (List Lit)). IsKept t.cnf ls pool c.in_ok-search.field-0) (c.as_slice.ensures ∙ now) c.in_ok-search.ensures.kept in
    let items : c.in_ok-parts.parts.items ≡ telling t floor blocked old ∷ rest = c.in_ok-parts.ensures (silent t floor blocked) rest e ∙ ap (λ (k : Kept). telling t floor blocked k ∷ rest) same in
    let long = c.len.ensures in
    let steps = ap length c.in_ok-is_blocked_too.ensures.steps in
    let kept = c.requires.kept in
    (refl, goes, now, inr (items, c.in_ok-search.ensures.none, omega arith))
