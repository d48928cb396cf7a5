use Rattle.std.proofs.Common.{◌≡◌, ◌+◌, ◌-◌, ◌++◌, ◌∙◌, sym, ap, subst, ℕ, List, length, take, arith}
use Rattle.refutation_check.specs.declared.log.Step.{Step}
use Rattle.refutation_check.specs.Chain.{members_of, IsAccepted}
use Rattle.refutation_check.specs.Lift.{lifted}
use Rattle.clause_pool.specs.Limits.{numbers_in, IsLongestFit, moved_behind}
use Rattle.clause_pool.specs.Pooled.{steps_of, IsCounted}
use Rattle.clause_pool.proofs.Accepting.{members_before, hints_have_room, shared_accepted}
use Rattle.clause_pool.proofs.Fitting.{lifted_longest, counted_more, steps_one_more}
use Rattle.clause_pool.proofs.pool.Pool.share.Goals as goal

pub lifted_front-requires-clause-room : goal.lifted_front-requires-clause-room
lifted_front-requires-clause-room c =
    let clauses = c.args.f.now.clauses in
    let pool = c.args.self.now in
    let steps : c.self.inside.steps ≡ length pool = c.self.invariant.steps_are ∙ ap length c.self.view_is in
    hints_have_room (members_of clauses (take c.args.at pool)) c.args.free.now (c.len.result + c.args.at) (c.self.inside.steps - c.args.at) c.requires.free
    (omega (arith, members_before clauses pool c.args.at c.requires.at, c.steps.ensures.log.few, c.self.invariant.limits.few_steps, c.self.invariant.steps_are))

pub invariant_of-self-2 : goal.invariant_of-self-2
invariant_of-self-2 c =
    let shared = c.self.inside.shared.items in
    let pool : List Step = steps_of shared in
    let base : ℕ = c.len.result + c.args.at in
    let added : ℕ = c.self.inside.steps - c.args.at in
    let n : ℕ = c.fitting-count.result.0 in
    let longest = c.fitting-count.ensures.longest pool (sym c.self.invariant.steps_are) (sym c.self.invariant.numbers_are) in
    let same : steps_of c.push.new.self.items ≡ pool ++ take n (lifted base added c.steps.result.now) =
    ap steps_of c.in_ok-push.ensures.items ∙ (steps_one_more shared c.in_ok-raised.raised ∙
    ap (λ (ys : List Step). pool ++ ys) (c.in_ok-raised.ensures ∙ ap (λ (ys : List Step). take n (lifted base added ys)) (sym c.steps.ensures.steps))) in
    rw same (counted_more base added pool c.steps.result.now n c.fitting-count.result.1 c.self.inside.steps c.self.inside.numbers c.self.invariant longest c.fitting-count.ensures.numbers)

pub returns-clause-longest : goal.returns-clause-longest
returns-clause-longest c =
    let pool = c.args.self.now in
    let long : length pool ≡ c.self.inside.steps = sym (c.self.invariant.steps_are ∙ ap length c.self.view_is) in
    let counted : numbers_in pool ≡ c.self.inside.numbers = sym (c.self.invariant.numbers_are ∙ ap numbers_in c.self.view_is) in
    let longest = subst (λ (ys : List Step). IsLongestFit pool ys c.fitting-count.result.0) c.steps.ensures.steps (c.fitting-count.ensures.longest pool long counted) in
    lifted_longest (length c.args.f.now.clauses + c.args.at) (length pool - c.args.at) pool c.args.free.now c.fitting-count.result.0 longest

pub returns-clause-accepted : goal.returns-clause-accepted
returns-clause-accepted c = λ pooled.
    let clauses = c.args.f.now.clauses in
    let pool = c.args.self.now in
    let n : ℕ = c.fitting-count.result.0 in
    let raised : c.in_ok-raised.raised ≡ take n (moved_behind (length clauses) c.args.at pool c.args.free.now) =
    c.in_ok-raised.ensures ∙ (ap (λ (m : ℕ). take n (lifted (m + c.args.at) (c.self.inside.steps - c.args.at) c.args.free.now)) c.len.ensures.len ∙
    ap (λ (m : ℕ). take n (lifted (length clauses + c.args.at) (m - c.args.at) c.args.free.now)) (c.self.invariant.steps_are ∙ ap length c.self.view_is)) in
    let same : steps_of c.push.new.self.items ≡ pool ++ take n (moved_behind (length clauses) c.args.at pool c.args.free.now) =
    ap steps_of c.in_ok-push.ensures.items ∙ (steps_one_more c.self.inside.shared.items c.in_ok-raised.raised ∙
    (ap (λ (xs : List Step). xs ++ c.in_ok-raised.raised) c.self.view_is ∙ ap (λ (ys : List Step). pool ++ ys) raised)) in
    subst (IsAccepted clauses) (sym same) (shared_accepted clauses pool c.args.at c.requires.at c.args.free.now n c.requires.free pooled)
