use Rattle.std.proofs.Common.{◌≡◌, ◌<◌, ◌≤◌, ◌^◌, ◌∙◌, ◌++◌, ◌+◌, ℕ, List, All, arith, ap, length, refl, subst, sym}
use Rattle.cnf_core.specs.declared.literal.Lit.{Lit}
use Rattle.refutation_check.specs.declared.log.Step.{Step}
use Rattle.refutation_check.specs.Chain.{members_of}
use Rattle.sat_core.specs.Kept.{Kept, KeepsTo, IsLearntTo, numbers_from}
use Rattle.sat_core.specs.Lent.{IsEnding, IsLearnt, IsStanding}
use Rattle.sat_core.specs.Search.{IsVarIn}
use Rattle.sat_core.proofs.Answered.{given_count}
use Rattle.sat_core.proofs.Going.{all_learnt}
use Rattle.sat_core.proofs.Told.{learnt_to}
use Rattle.sat_core.proofs.kept.KeptSearch.learn_on.Goals as goal

pub returns-clause-kept : goal.returns-clause-kept
returns-clause-kept c =
    let f = c.args.f.now in
    let local = c.args.local.now in
    let pool = c.args.pool.now in
    let k = c.self.inside in
    let log = c.log_of.result.now in
    let was : KeepsTo f local pool k.trail.clauses k.trail.vars k.assumed.items k.numbers.items k.steps = subst (λ (x : Kept). KeepsTo f local pool x.trail.clauses x.trail.vars x.assumed x.numbers x.steps) (sym c.self.view_is) c.requires.kept.holds in
    let learnt : IsLearnt k.trail.clauses k.assumed.items log =
    subst (λ (ls : List Lit). IsLearnt k.trail.clauses ls log) c.as_slice-assumed.ensures.value (subst (λ (ss : List Step). IsLearnt k.trail.clauses c.as_slice-assumed.result.now ss) (sym c.log_of.ensures) c.in_ok-ending.ensures.learnt) in
    let first : ℕ = length (members_of (f.clauses ++ local) pool) + length k.steps + 1 in
    let held : length c.args.self.now.steps ≡ length k.steps = ap (λ (x : Kept). length x.steps) (sym c.self.view_is) in
    let all : KeepsTo f local pool (members_of k.trail.clauses log) k.trail.vars k.assumed.items (k.numbers.items ++ numbers_from first (length log)) (k.steps ++ log) =
    all_learnt f local pool k.trail.clauses k.trail.vars k.assumed.items k.numbers.items k.steps was log learnt in
    let clauses_are : c.settle.new.trail.clauses ≡ members_of k.trail.clauses log = c.settle.ensures.clauses ∙ c.in_ok-ending.ensures.clauses ∙ ap (members_of k.trail.clauses) (sym c.log_of.ensures) in
    let numbers_are : c.keep_all.new.numbers.items ≡ k.numbers.items ++ numbers_from first (length log) =
    c.in_ok-keep_all.ensures.numbers ∙ ap (λ (n : ℕ). k.numbers.items ++ numbers_from n (length log)) (omega (arith, c.len.ensures.len, ap length c.steps.ensures.steps, c.len-2.ensures, held, given_count f.clauses local pool)) in
    let kept : KeepsTo f local pool (members_of k.trail.clauses log) k.trail.vars k.assumed.items c.keep_all.new.numbers.items c.keep_all.new.steps =
    subst (λ (ns : List ℕ). KeepsTo f local pool (members_of k.trail.clauses log) k.trail.vars k.assumed.items ns c.keep_all.new.steps) (sym numbers_are)
    (subst (λ (ss : List Step). KeepsTo f local pool (members_of k.trail.clauses log) k.trail.vars k.assumed.items (k.numbers.items ++ numbers_from first (length log)) ss) (sym c.in_ok-keep_all.ensures.steps) all) in
    record {
      holds = subst (λ (n : ℕ). KeepsTo f local pool c.settle.new.trail.clauses n k.assumed.items c.keep_all.new.numbers.items c.keep_all.new.steps) (sym (c.settle.ensures.vars ∙ c.in_ok-ending.ensures.vars))
          (subst (λ (cs : List (List Lit)). KeepsTo f local pool cs k.trail.vars k.assumed.items c.keep_all.new.numbers.items c.keep_all.new.steps) (sym clauses_are) kept);
      stands = subst (λ (ls : List Lit). IsStanding ls c.settle.new.depth c.settle.new.trail) c.as_slice-assumed.ensures.value c.settle.ensures.stands;
    }

pub returns-clause-stays : goal.returns-clause-stays
returns-clause-stays c =
    let log : List Step = c.log_of.result.now in
    (log, c.in_ok-keep_all.ensures.steps ∙ ap (λ (x : Kept). x.steps ++ log) c.self.view_is)

pub returns-clause-end : goal.returns-clause-end
returns-clause-end c =
    let f = c.args.f.now in
    let local = c.args.local.now in
    let pool = c.args.pool.now in
    let k = c.self.inside in
    let log = c.log_of.result.now in
    let was : KeepsTo f local pool k.trail.clauses k.trail.vars k.assumed.items k.numbers.items k.steps = subst (λ (x : Kept). KeepsTo f local pool x.trail.clauses x.trail.vars x.assumed x.numbers x.steps) (sym c.self.view_is) c.requires.kept.holds in
    let learnt : IsLearnt k.trail.clauses k.assumed.items log =
    subst (λ (ls : List Lit). IsLearnt k.trail.clauses ls log) c.as_slice-assumed.ensures.value (subst (λ (ss : List Step). IsLearnt k.trail.clauses c.as_slice-assumed.result.now ss) (sym c.log_of.ensures) c.in_ok-ending.ensures.learnt) in
    let first : ℕ = length (members_of (f.clauses ++ local) pool) + length k.steps + 1 in
    let held : length c.args.self.now.steps ≡ length k.steps = ap (λ (x : Kept). length x.steps) (sym c.self.view_is) in
    let all : KeepsTo f local pool (members_of k.trail.clauses log) k.trail.vars k.assumed.items (k.numbers.items ++ numbers_from first (length log)) (k.steps ++ log) =
    all_learnt f local pool k.trail.clauses k.trail.vars k.assumed.items k.numbers.items k.steps was log learnt in
    let clauses_are : c.settle.new.trail.clauses ≡ members_of k.trail.clauses log = c.settle.ensures.clauses ∙ c.in_ok-ending.ensures.clauses ∙ ap (members_of k.trail.clauses) (sym c.log_of.ensures) in
    let numbers_are : c.keep_all.new.numbers.items ≡ k.numbers.items ++ numbers_from first (length log) =
    c.in_ok-keep_all.ensures.numbers ∙ ap (λ (n : ℕ). k.numbers.items ++ numbers_from n (length log)) (omega (arith, c.len.ensures.len, ap length c.steps.ensures.steps, c.len-2.ensures, held, given_count f.clauses local pool)) in
    let kept : KeepsTo f local pool (members_of k.trail.clauses log) k.trail.vars k.assumed.items c.keep_all.new.numbers.items c.keep_all.new.steps =
    subst (λ (ns : List ℕ). KeepsTo f local pool (members_of k.trail.clauses log) k.trail.vars k.assumed.items ns c.keep_all.new.steps) (sym numbers_are)
    (subst (λ (ss : List Step). KeepsTo f local pool (members_of k.trail.clauses log) k.trail.vars k.assumed.items (k.numbers.items ++ numbers_from first (length log)) ss) (sym c.in_ok-keep_all.ensures.steps) all) in
    let small : k.trail.vars < 2 ^ 31 = subst (λ (n : ℕ). n < 2 ^ 31) c.vars.ensures.vars c.vars.ensures.small in
    let ends : IsEnding k.trail.vars k.trail.clauses k.assumed.items c.args.left c.in_ok-ending.ending = subst (λ (ls : List Lit). IsEnding k.trail.vars k.trail.clauses ls c.args.left c.in_ok-ending.ending) c.as_slice-assumed.ensures.value c.in_ok-ending.ensures.end in
    let after = subst (λ (ss : List Step). KeepsTo f local pool (members_of k.trail.clauses ss) k.trail.vars k.assumed.items c.keep_all.new.numbers.items c.keep_all.new.steps) c.log_of.ensures kept in
    let now : Kept = record { trail = c.settle.new.trail; depth = c.settle.new.depth; assumed = k.assumed.items; numbers = c.keep_all.new.numbers.items; steps = c.keep_all.new.steps } in
    subst (λ (n : ℕ). IsLearntTo f local pool (n + c.args.left) now c.learnt_of.result) (sym held)
    (learnt_to f local pool c.args.left k.trail.clauses k.trail.vars c.args.left k.assumed.items k.numbers.items k.steps was small c.in_ok-ending.ending c.learnt_of.result now c.learnt_of.ensures ends (c.settle.ensures.clauses ∙ c.in_ok-ending.ensures.clauses) refl
    (c.in_ok-keep_all.ensures.steps ∙ ap (λ (ss : List Step). k.steps ++ ss) c.log_of.ensures) after)

pub search_on-requires-clause-in_range : goal.search_on-requires-clause-in_range
search_on-requires-clause-in_range c =
    let held = subst (λ (x : Kept). All (IsVarIn x.trail.vars) x.assumed) (sym c.self.view_is) c.requires.kept.holds.in_range in
    subst (λ (ls : List Lit). All (IsVarIn c.self.inside.trail.vars) ls) (sym c.as_slice-assumed.ensures.value) held

pub search_on-requires-clause-few : goal.search_on-requires-clause-few
search_on-requires-clause-few c =
    let f = c.args.f.now in
    let local = c.args.local.now in
    let pool = c.args.pool.now in
    let k = c.self.inside in
    let few : length k.trail.clauses ≤ length (members_of (f.clauses ++ local) pool) + length k.steps = subst (λ (x : Kept). length x.trail.clauses ≤ length (members_of (f.clauses ++ local) pool) + length x.steps) (sym c.self.view_is) c.requires.kept.holds.few in
    let held : length c.args.self.now.steps ≡ length k.steps = ap (λ (x : Kept). length x.steps) (sym c.self.view_is) in
    omega (arith, few, held, c.requires.few, given_count f.clauses local pool)

pub search_on-requires-clause-stands : goal.search_on-requires-clause-stands
search_on-requires-clause-stands c =
    let stood = subst (λ (x : Kept). IsStanding x.assumed x.depth x.trail) (sym c.self.view_is) c.requires.kept.stands in
    subst (λ (ls : List Lit). IsStanding ls c.self.inside.depth c.self.inside.trail) (sym c.as_slice-assumed.ensures.value) stood
