use Rattle.std.proofs.Common.{◌≡◌, ℕ, List, length, sym, ◌∙◌, ap, subst, arith}
use mathlib.Core.List.{IsPrefix}
use Rattle.refutation_check.specs.declared.log.Step.{Step as LogStep}
use Rattle.hub_state.specs.declared.journal_rules.event.Entry.{Entry}
use Rattle.hub_state.specs.Journal.Noted.{Imported}
use Rattle.hub_state.specs.Journal.Journal.{pool_of}
use Rattle.hub_state.specs.HubView.{HubView, HasTranslation, with_entry}
use Rattle.hub_state.specs.Held.{journal_of, IsHub, steps_in}
use Rattle.hub_state.proofs.Appending.{seen, inside, pool_read, imported, imported_view}
use Rattle.hub_state.proofs.Behind.{one_pool}
use Rattle.hub_state.proofs.hub.Hub.import_behind.Goals as goal

pub index-pool-requires : goal.index-pool-requires
index-pool-requires c =
    let has = subst (λ (h : HubView). HasTranslation h.journal c.args.key) (sym c.self.view_is) c.requires.published in
    let less = inside c.a_legal_journal_grows.ensures.grows c.self.inside.problems.items c.self.inside.cache c.self.inside.pools.items c.self.inside.entries.items c.self.invariant c.args.key has.0 has.1 in
    omega arith

pub put_behind-requires-clause-steps : goal.put_behind-requires-clause-steps
put_behind-requires-clause-steps c =
    let kept = c.self.inside.cache in
    let es = c.self.inside.entries.items in
    let has = subst (λ (h : HubView). HasTranslation h.journal c.args.key) (sym c.self.view_is) c.requires.published in
    let pool = pool_read c.a_legal_journal_grows.ensures.grows c.self.inside.problems.items kept c.self.inside.pools.items es c.self.invariant c.args.key has.0 has.1 c.index-pool.result.now c.index-pool.ensures in
    c.len-steps.ensures.len ∙ ap (λ (xs : List LogStep). length xs) (pool ∙ one_pool kept c.args.key es) ∙ ap (λ (xs : List Entry). length (steps_in c.args.key xs)) (sym c.as_slice.ensures.value)

pub put_behind-requires-clause-few : goal.put_behind-requires-clause-few
put_behind-requires-clause-few c = let few = c.len-steps.ensures.limits.few_steps in let len = c.len-steps.ensures.len in omega arith

pub put_behind-requires-clause-begins : goal.put_behind-requires-clause-begins
put_behind-requires-clause-begins c =
    let kept = c.self.inside.cache in
    let es = c.self.inside.entries.items in
    let whole : pool_of c.args.key c.args.self.now.journal ≡ steps_in c.args.key c.as_slice.result.now =
    ap (λ (h : HubView). pool_of c.args.key h.journal) (sym c.self.view_is) ∙ one_pool kept c.args.key es ∙ ap (steps_in c.args.key) (sym c.as_slice.ensures.value) in
    subst (IsPrefix c.args.have.now) whole c.requires.begins

pub invariant_of-self-2 : goal.invariant_of-self-2
invariant_of-self-2 c =
    let grows = c.a_legal_journal_grows.ensures.grows in
    let problems = c.self.inside.problems.items in
    let kept = c.self.inside.cache in
    let pools = c.self.inside.pools.items in
    let es = c.self.inside.entries.items in
    let has = subst (λ (h : HubView). HasTranslation h.journal c.args.key) (sym c.self.view_is) c.requires.published in
    let pool = pool_read grows problems kept pools es c.self.invariant c.args.key has.0 has.1 c.index-pool.result.now c.index-pool.ensures in
    subst (λ (xs : List Entry). IsHub problems kept pools (journal_of kept xs)) (sym c.in_ok-push.ensures.items)
    (imported grows problems kept pools es c.self.invariant c.args.by c.args.key c.len-steps.result has (c.len-steps.ensures.len ∙ ap length pool))

pub returns-in_err-put_behind-clause-begins : goal.returns-in_err-put_behind-clause-begins
returns-in_err-put_behind-clause-begins c =
    let whole : steps_in c.args.key c.as_slice.result.now ≡ pool_of c.args.key c.args.self.now.journal =
    ap (steps_in c.args.key) c.as_slice.ensures.value ∙ sym (one_pool c.self.inside.cache c.args.key c.self.inside.entries.items) ∙ ap (λ (h : HubView). pool_of c.args.key h.journal) c.self.view_is in
    subst (IsPrefix c.put_behind.new.have) whole c.in_err-put_behind.ensures.begins

pub returns-in_err-push-clause-begins : goal.returns-in_err-push-clause-begins
returns-in_err-push-clause-begins c =
    let whole : steps_in c.args.key c.as_slice.result.now ≡ pool_of c.args.key c.args.self.now.journal =
    ap (steps_in c.args.key) c.as_slice.ensures.value ∙ sym (one_pool c.self.inside.cache c.args.key c.self.inside.entries.items) ∙ ap (λ (h : HubView). pool_of c.args.key h.journal) c.self.view_is in
    subst (IsPrefix c.put_behind.new.have) whole c.in_ok-put_behind.ensures.begins

pub returns-clause-begins : goal.returns-clause-begins
returns-clause-begins c =
    let whole : steps_in c.args.key c.as_slice.result.now ≡ pool_of c.args.key c.args.self.now.journal =
    ap (steps_in c.args.key) c.as_slice.ensures.value ∙ sym (one_pool c.self.inside.cache c.args.key c.self.inside.entries.items) ∙ ap (λ (h : HubView). pool_of c.args.key h.journal) c.self.view_is in
    subst (IsPrefix c.put_behind.new.have) whole c.in_ok-put_behind.ensures.begins

pub returns-clause-pool : goal.returns-clause-pool
returns-clause-pool c =
    c.in_ok-put_behind.ensures.whole
    ∙ ap (steps_in c.args.key) c.as_slice.ensures.value
    ∙ sym (one_pool c.self.inside.cache c.args.key c.self.inside.entries.items)
    ∙ ap (λ (h : HubView). pool_of c.args.key h.journal) c.self.view_is

pub returns-clause-entry : goal.returns-clause-entry
returns-clause-entry c =
    let grows = c.a_legal_journal_grows.ensures.grows in
    let problems = c.self.inside.problems.items in
    let kept = c.self.inside.cache in
    let pools = c.self.inside.pools.items in
    let es = c.self.inside.entries.items in
    let has = subst (λ (h : HubView). HasTranslation h.journal c.args.key) (sym c.self.view_is) c.requires.published in
    let pool = pool_read grows problems kept pools es c.self.invariant c.args.key has.0 has.1 c.index-pool.result.now c.index-pool.ensures in
    ap (λ (xs : List Entry). seen problems (journal_of kept xs)) c.in_ok-push.ensures.items
    ∙ imported_view grows problems kept pools es c.self.invariant c.args.by c.args.key c.len-steps.result
    ∙ ap (λ (n : ℕ). with_entry (seen problems (journal_of kept es)) c.args.by (Imported c.args.key n)) (c.len-steps.ensures.len ∙ ap length pool)
    ∙ ap (λ (h : HubView). with_entry h c.args.by (Imported c.args.key (length (pool_of c.args.key h.journal)))) c.self.view_is
