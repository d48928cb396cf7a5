use Rattle.std.proofs.Common.{◌≡◌, ◌+◌, ◌-◌, ◌∙◌, sym, ap, subst, ℕ, List, length, take, arith}
use Rattle.refutation_check.specs.declared.log.Step.{Step}
use Rattle.refutation_check.specs.Chain.{members_of}
use Rattle.refutation_check.specs.Lift.{lifted}
use Rattle.clause_pool.specs.Limits.{numbers_in, IsLongestFit, moved_behind}
use Rattle.clause_pool.proofs.Accepting.{members_before, hints_have_room}
use Rattle.clause_pool.proofs.Fitting.{lifted_longest, front_is}
use Rattle.clause_pool.proofs.pool.Pool.addition.Goals as goal

pub lifted_front-requires-clause-room : goal.lifted_front-requires-clause-room
lifted_front-requires-clause-room c =
    let clauses = c.args.f.now.clauses in
    let pool = c.args.self.now in
    let steps : c.self.inside.steps ≡ length pool = c.self.invariant.steps_are ∙ ap length c.self.view_is in
    hints_have_room (members_of clauses (take c.args.at pool)) c.args.free.now (c.len.result + c.args.at) (c.self.inside.steps - c.args.at) c.requires.free
    (omega (arith, members_before clauses pool c.args.at c.requires.at, c.steps.ensures.log.few, c.self.invariant.limits.few_steps, c.self.invariant.steps_are))

pub returns : goal.returns
returns c =
    let clauses = c.args.f.now.clauses in
    let pool = c.args.self.now in
    let moved : List Step = moved_behind (length clauses) c.args.at pool c.args.free.now in
    let n : ℕ = c.fitting-count.result.0 in
    let long : length pool ≡ c.self.inside.steps = sym (c.self.invariant.steps_are ∙ ap length c.self.view_is) in
    let counted : numbers_in pool ≡ c.self.inside.numbers = sym (c.self.invariant.numbers_are ∙ ap numbers_in c.self.view_is) in
    let longest = subst (λ (ys : List Step). IsLongestFit pool ys n) c.steps.ensures.steps (c.fitting-count.ensures.longest pool long counted) in
    let raised : c.in_ok-lifted_front.field-0 ≡ take n moved =
    c.in_ok-lifted_front.ensures ∙ (ap (λ (m : ℕ). take n (lifted (m + c.args.at) (c.self.inside.steps - c.args.at) c.args.free.now)) c.len.ensures.len ∙
    ap (λ (m : ℕ). take n (lifted (length clauses + c.args.at) (m - c.args.at) c.args.free.now)) (c.self.invariant.steps_are ∙ ap length c.self.view_is)) in
    let both = front_is pool moved c.in_ok-lifted_front.field-0 n (lifted_longest (length clauses + c.args.at) (length pool - c.args.at) pool c.args.free.now n longest) raised in
    record { steps = both.0; longest = both.1 }
