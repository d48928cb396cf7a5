use Rattle.std.proofs.Common.{◌≡◌, ◌≤◌, ◌<◌, ◌^◌, ◌++◌, ℕ, List, All, length, map, arith, ap, ap₂, subst, sym, ◌∙◌}
use Rattle.std.proofs.lemmas.List.{length-map}
use Rattle.refutation_check.specs.declared.log.Step.{Step}
use Rattle.refutation_check.specs.Chain.{members_of}
use Rattle.sat_core.specs.declared.lent.Ending.{Ending}
use Rattle.sat_core.specs.declared.search.Answer.TheVariants.{Found, Spent}
use Rattle.sat_core.specs.Assuming.{number_of, numbered}
use Rattle.sat_core.specs.Lent.{IsEnding, IsLearnt, steps_of}
use Rattle.sat_core.specs.Search.{IsAnswerTo, IsSoFar}
use Rattle.sat_trail.specs.Closed.{IsClosed}
use Rattle.sat_core.proofs.Numbers.{places_within}
use Rattle.sat_core.proofs.Answered.{small_hints, answer_so_far, clash_given, found_answer, spent_answer}
use Rattle.sat_core.proofs.search.answer_of.Goals as goal

pub log-requires-clause-hints : goal.log-requires-clause-hints
log-requires-clause-hints c =
    let f = c.args.f.now in
    let local = c.args.local.now in
    let pool = c.args.pool.now in
    let locals = c.args.locals.now in
    let assumed = locals.assumed.items in
    let others = locals.others.items in
    let places = locals.numbering.places.items in
    let log = c.in-Found.log in
    let learnt : IsLearnt (members_of (f.clauses ++ others) pool) assumed log = subst (λ (e : Ending). IsLearnt (members_of (f.clauses ++ others) pool) assumed (steps_of e)) c.in-Found.is c.requires.learnt in
    let few : length log ≤ c.args.budget = subst (λ (e : Ending). length (steps_of e) ≤ c.args.budget) c.in-Found.is c.requires.budget in
    small_hints f local assumed others places pool c.args.budget c.requires.split log learnt c.requires.few few

pub log-requires-clause-places : goal.log-requires-clause-places
log-requires-clause-places c =
    subst (λ (n : ℕ). All (λ place. place ≤ n) c.args.locals.now.numbering.places.items) (sym c.requires.local) (places_within c.args.local.now _ c.args.locals.now.others.items _ c.requires.split)

pub log-requires-in-Clash-clause-hints : goal.log-requires-in-Clash-clause-hints
log-requires-in-Clash-clause-hints c =
    let f = c.args.f.now in
    let local = c.args.local.now in
    let pool = c.args.pool.now in
    let locals = c.args.locals.now in
    let assumed = locals.assumed.items in
    let others = locals.others.items in
    let places = locals.numbering.places.items in
    let log = c.in-Clash.log in
    let learnt : IsLearnt (members_of (f.clauses ++ others) pool) assumed log = subst (λ (e : Ending). IsLearnt (members_of (f.clauses ++ others) pool) assumed (steps_of e)) c.in-Clash.is c.requires.learnt in
    let few : length log ≤ c.args.budget = subst (λ (e : Ending). length (steps_of e) ≤ c.args.budget) c.in-Clash.is c.requires.budget in
    small_hints f local assumed others places pool c.args.budget c.requires.split log learnt c.requires.few few

pub log-requires-in-Clash-clause-places : goal.log-requires-in-Clash-clause-places
log-requires-in-Clash-clause-places c =
    subst (λ (n : ℕ). All (λ place. place ≤ n) c.args.locals.now.numbering.places.items) (sym c.requires.local) (places_within c.args.local.now _ c.args.locals.now.others.items _ c.requires.split)

pub log-requires-in-Spent-clause-hints : goal.log-requires-in-Spent-clause-hints
log-requires-in-Spent-clause-hints c =
    let f = c.args.f.now in
    let local = c.args.local.now in
    let pool = c.args.pool.now in
    let locals = c.args.locals.now in
    let assumed = locals.assumed.items in
    let others = locals.others.items in
    let places = locals.numbering.places.items in
    let log = c.in-Spent.log in
    let learnt : IsLearnt (members_of (f.clauses ++ others) pool) assumed log = subst (λ (e : Ending). IsLearnt (members_of (f.clauses ++ others) pool) assumed (steps_of e)) c.in-Spent.is c.requires.learnt in
    let few : length log ≤ c.args.budget = subst (λ (e : Ending). length (steps_of e) ≤ c.args.budget) c.in-Spent.is c.requires.budget in
    small_hints f local assumed others places pool c.args.budget c.requires.split log learnt c.requires.few few

pub log-requires-in-Spent-clause-places : goal.log-requires-in-Spent-clause-places
log-requires-in-Spent-clause-places c =
    subst (λ (n : ℕ). All (λ place. place ≤ n) c.args.locals.now.numbering.places.items) (sym c.requires.local) (places_within c.args.local.now _ c.args.locals.now.others.items _ c.requires.split)

pub returns-in_ok-log-in-Found-clause-answer : goal.returns-in_ok-log-in-Found-clause-answer
returns-in_ok-log-in-Found-clause-answer c =
    let f = c.args.f.now in
    let local = c.args.local.now in
    let pool = c.args.pool.now in
    let locals = c.args.locals.now in
    let assumed = locals.assumed.items in
    let others = locals.others.items in
    let places = locals.numbering.places.items in
    let log = c.in-Found.log in
    let learnt : IsLearnt (members_of (f.clauses ++ others) pool) assumed log = subst (λ (e : Ending). IsLearnt (members_of (f.clauses ++ others) pool) assumed (steps_of e)) c.in-Found.is c.requires.learnt in
    let few : length log ≤ c.args.budget = subst (λ (e : Ending). length (steps_of e) ≤ c.args.budget) c.in-Found.is c.requires.budget in
    let end = subst (IsEnding c.args.trail.now.vars (members_of (f.clauses ++ others) pool) assumed c.args.budget) c.in-Found.is c.requires.end in
    let are : c.in_ok-log-in-Found.log ≡ map (numbered (number_of (length f.clauses) (length local) places)) log = c.in_ok-log-in-Found.ensures ∙ ap₂ (λ (n m : ℕ). map (numbered (number_of n m places)) log) c.requires.formula c.requires.local in
    subst (λ (steps : List Step). IsAnswerTo f local pool c.args.budget (Found c.in-Found.valuation steps)) (sym are)
    (found_answer f local assumed others places pool c.args.budget c.requires.split log c.args.trail.now.vars c.in-Found.valuation learnt few end c.requires.vars (subst (λ (n : ℕ). n < 2 ^ 31) c.vars.ensures.vars c.vars.ensures.small))

pub returns-in_ok-log-in-Spent-clause-answer : goal.returns-in_ok-log-in-Spent-clause-answer
returns-in_ok-log-in-Spent-clause-answer c =
    let f = c.args.f.now in
    let local = c.args.local.now in
    let pool = c.args.pool.now in
    let locals = c.args.locals.now in
    let assumed = locals.assumed.items in
    let others = locals.others.items in
    let places = locals.numbering.places.items in
    let log = c.in-Spent.log in
    let learnt : IsLearnt (members_of (f.clauses ++ others) pool) assumed log = subst (λ (e : Ending). IsLearnt (members_of (f.clauses ++ others) pool) assumed (steps_of e)) c.in-Spent.is c.requires.learnt in
    let few : length log ≤ c.args.budget = subst (λ (e : Ending). length (steps_of e) ≤ c.args.budget) c.in-Spent.is c.requires.budget in
    let end = subst (IsEnding c.args.trail.now.vars (members_of (f.clauses ++ others) pool) assumed c.args.budget) c.in-Spent.is c.requires.end in
    let are : c.in_ok-log-in-Spent.log ≡ map (numbered (number_of (length f.clauses) (length local) places)) log = c.in_ok-log-in-Spent.ensures ∙ ap₂ (λ (n m : ℕ). map (numbered (number_of n m places)) log) c.requires.formula c.requires.local in
    subst (λ (steps : List Step). IsAnswerTo f local pool c.args.budget (Spent steps)) (sym are)
    (spent_answer f local assumed others places pool c.args.budget c.requires.split log learnt end)

pub refuted-requires-clause-budget : goal.refuted-requires-clause-budget
refuted-requires-clause-budget c =
    let f = c.args.f.now in
    let local = c.args.local.now in
    let pool = c.args.pool.now in
    let locals = c.args.locals.now in
    let assumed = locals.assumed.items in
    let others = locals.others.items in
    let places = locals.numbering.places.items in
    let log = c.in-Clash.log in
    let learnt : IsLearnt (members_of (f.clauses ++ others) pool) assumed log = subst (λ (e : Ending). IsLearnt (members_of (f.clauses ++ others) pool) assumed (steps_of e)) c.in-Clash.is c.requires.learnt in
    let few : length log ≤ c.args.budget = subst (λ (e : Ending). length (steps_of e) ≤ c.args.budget) c.in-Clash.is c.requires.budget in
    let end = subst (IsEnding c.args.trail.now.vars (members_of (f.clauses ++ others) pool) assumed c.args.budget) c.in-Clash.is c.requires.end in
    let are : c.in_ok-log-in-Clash.log ≡ map (numbered (number_of (length f.clauses) (length local) places)) log = c.in_ok-log-in-Clash.ensures ∙ ap₂ (λ (n m : ℕ). map (numbered (number_of n m places)) log) c.requires.formula c.requires.local in
    omega (arith, few, ap length are, length-map log (numbered (number_of (length f.clauses) (length local) places)))

pub refuted-requires-clause-so_far : goal.refuted-requires-clause-so_far
refuted-requires-clause-so_far c =
    let f = c.args.f.now in
    let local = c.args.local.now in
    let pool = c.args.pool.now in
    let locals = c.args.locals.now in
    let assumed = locals.assumed.items in
    let others = locals.others.items in
    let places = locals.numbering.places.items in
    let log = c.in-Clash.log in
    let learnt : IsLearnt (members_of (f.clauses ++ others) pool) assumed log = subst (λ (e : Ending). IsLearnt (members_of (f.clauses ++ others) pool) assumed (steps_of e)) c.in-Clash.is c.requires.learnt in
    let few : length log ≤ c.args.budget = subst (λ (e : Ending). length (steps_of e) ≤ c.args.budget) c.in-Clash.is c.requires.budget in
    let end = subst (IsEnding c.args.trail.now.vars (members_of (f.clauses ++ others) pool) assumed c.args.budget) c.in-Clash.is c.requires.end in
    let are : c.in_ok-log-in-Clash.log ≡ map (numbered (number_of (length f.clauses) (length local) places)) log = c.in_ok-log-in-Clash.ensures ∙ ap₂ (λ (n m : ℕ). map (numbered (number_of n m places)) log) c.requires.formula c.requires.local in
    subst (IsSoFar (members_of (f.clauses ++ local) pool) local (length f.clauses)) (sym are) (answer_so_far f local assumed others places pool c.args.budget c.requires.split log learnt)

pub refuted-requires-clause-clash : goal.refuted-requires-clause-clash
refuted-requires-clause-clash c =
    let f = c.args.f.now in
    let local = c.args.local.now in
    let pool = c.args.pool.now in
    let locals = c.args.locals.now in
    let assumed = locals.assumed.items in
    let others = locals.others.items in
    let places = locals.numbering.places.items in
    let log = c.in-Clash.log in
    let learnt : IsLearnt (members_of (f.clauses ++ others) pool) assumed log = subst (λ (e : Ending). IsLearnt (members_of (f.clauses ++ others) pool) assumed (steps_of e)) c.in-Clash.is c.requires.learnt in
    let few : length log ≤ c.args.budget = subst (λ (e : Ending). length (steps_of e) ≤ c.args.budget) c.in-Clash.is c.requires.budget in
    let end = subst (IsEnding c.args.trail.now.vars (members_of (f.clauses ++ others) pool) assumed c.args.budget) c.in-Clash.is c.requires.end in
    let are : c.in_ok-log-in-Clash.log ≡ map (numbered (number_of (length f.clauses) (length local) places)) log = c.in_ok-log-in-Clash.ensures ∙ ap₂ (λ (n m : ℕ). map (numbered (number_of n m places)) log) c.requires.formula c.requires.local in
    λ falses closed. clash_given f local assumed others places pool c.args.budget c.requires.split log end falses (subst (λ (steps : List Step). IsClosed (members_of (members_of (f.clauses ++ local) pool) steps) falses) are closed)

pub returns-in_ok-log-in-Found-clause-learnt : goal.returns-in_ok-log-in-Found-clause-learnt
returns-in_ok-log-in-Found-clause-learnt c =
    let number : ℕ → ℕ = number_of c.args.locals.now.numbering.clauses c.args.locals.now.numbering.local c.args.locals.now.numbering.places.items in
    ap length c.in_ok-log-in-Found.ensures ∙ length-map c.in-Found.log (numbered number) ∙ sym (ap (λ (e : Ending). length (steps_of e)) c.in-Found.is)

pub returns-in_ok-log-in-Spent-clause-learnt : goal.returns-in_ok-log-in-Spent-clause-learnt
returns-in_ok-log-in-Spent-clause-learnt c =
    let number : ℕ → ℕ = number_of c.args.locals.now.numbering.clauses c.args.locals.now.numbering.local c.args.locals.now.numbering.places.items in
    ap length c.in_ok-log-in-Spent.ensures ∙ length-map c.in-Spent.log (numbered number) ∙ sym (ap (λ (e : Ending). length (steps_of e)) c.in-Spent.is)

pub returns-in_ok-answer-in-Clash-clause-learnt : goal.returns-in_ok-answer-in-Clash-clause-learnt
returns-in_ok-answer-in-Clash-clause-learnt c =
    let number : ℕ → ℕ = number_of c.args.locals.now.numbering.clauses c.args.locals.now.numbering.local c.args.locals.now.numbering.places.items in
    c.in_ok-answer-in-Clash.ensures.learnt ∙ ap length c.in_ok-log-in-Clash.ensures ∙ length-map c.in-Clash.log (numbered number) ∙ sym (ap (λ (e : Ending). length (steps_of e)) c.in-Clash.is)
