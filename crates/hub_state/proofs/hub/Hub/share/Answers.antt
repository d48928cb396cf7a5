use Rattle.std.proofs.Common.{◌≡◌, ℕ, List, ◌∷◌, ◌++◌, [], length, take, set, sym, ◌∙◌, ap, subst}
use Rattle.cnf_core.specs.Formula.{Formula}
use Rattle.refutation_check.specs.declared.log.Step.{Step as LogStep}
use Rattle.clause_pool.specs.Limits.{IsLongestFit}
use Rattle.translation_rules.specs.Translation.{Translated}
use Rattle.translation_cache.specs.Published.{shown}
use Rattle.hub_state.specs.declared.journal_rules.event.Entry.{Entry}
use Rattle.hub_state.specs.declared.journal_rules.event.Event.TheVariants.{Shared as WasShared}
use Rattle.hub_state.specs.Journal.Noted.{Shared}
use Rattle.hub_state.specs.Journal.Journal.{IsPublished, pool_of}
use Rattle.hub_state.specs.HubView.{HubView, GoesOn, with_entry, moved}
use Rattle.hub_state.specs.Held.{journal_of, IsHub}
use Rattle.hub_state.proofs.Appending.{entry, seen, inside_kept, pool_read, shared, shared_view}
use Rattle.hub_state.proofs.Sharing.{is_found, nothing_found, over_equals, IsSharing, is_sharing}
use Rattle.hub_state.proofs.hub.Hub.share.Goals as goal

pub find-requires : goal.find-requires
find-requires c =
    let u = c.requires.translation in
    let there = subst (λ (h : HubView). IsPublished h.journal c.args.key u) (sym c.self.view_is) c.requires.published in
    inside_kept c.a_legal_journal_grows.ensures.grows c.self.inside.problems.items c.self.inside.cache c.self.inside.pools.items c.self.inside.entries.items c.self.invariant c.args.key u there

pub unreachable-requires : goal.unreachable-requires
unreachable-requires c =
    let u = c.requires.translation in
    let there = subst (λ (h : HubView). IsPublished h.journal c.args.key u) (sym c.self.view_is) c.requires.published in
    nothing_found c.self.inside.problems.items c.self.inside.cache c.self.inside.pools.items (journal_of c.self.inside.cache c.self.inside.entries.items) c.self.invariant c.args.key u there
    (sym (ap shown c.in_default.is) ∙ c.in_ok-t.ensures)

pub addition-requires-clause-free : goal.addition-requires-clause-free
addition-requires-clause-free c =
    let kept = c.self.inside.cache in
    let es = c.self.inside.entries.items in
    let u = c.requires.translation in
    let there = subst (λ (h : HubView). IsPublished h.journal c.args.key u) (sym c.self.view_is) c.requires.published in
    let value = is_found c.self.inside.problems.items kept c.self.inside.pools.items (journal_of kept es) c.self.invariant c.args.key u there c.in-Some.t (sym (ap shown c.in-Some.is) ∙ c.in_ok-t.ensures) in
    let clauses = ap (λ (f : Formula). f.clauses) c.cnf.ensures ∙ ap (λ (t : Translated). t.cnf.clauses) (c.deref.ensures ∙ value) in
    let pool = pool_read c.a_legal_journal_grows.ensures.grows c.self.inside.problems.items kept c.self.inside.pools.items es c.self.invariant c.args.key u there c.index.result.now c.index.ensures ∙ ap (λ (h : HubView). pool_of c.args.key h.journal) c.self.view_is in
    over_equals c.args.at c.args.free.now c.cnf.result.now.clauses u.cnf.clauses c.index.result.now (pool_of c.args.key c.args.self.now.journal) clauses pool c.requires.accepted

pub share-requires-clause-free : goal.share-requires-clause-free
share-requires-clause-free c =
    let kept = c.self.inside.cache in
    let es = c.self.inside.entries.items in
    let u = c.requires.translation in
    let there = subst (λ (h : HubView). IsPublished h.journal c.args.key u) (sym c.self.view_is) c.requires.published in
    let value = is_found c.self.inside.problems.items kept c.self.inside.pools.items (journal_of kept es) c.self.invariant c.args.key u there c.in-Some.t (sym (ap shown c.in-Some.is) ∙ c.in_ok-t.ensures) in
    let clauses = ap (λ (f : Formula). f.clauses) c.cnf-2.ensures ∙ ap (λ (t : Translated). t.cnf.clauses) (c.deref-2.ensures ∙ value) in
    let pool = pool_read c.a_legal_journal_grows.ensures.grows c.self.inside.problems.items kept c.self.inside.pools.items es c.self.invariant c.args.key u there c.index_mut.result.now c.index_mut.ensures.value ∙ ap (λ (h : HubView). pool_of c.args.key h.journal) c.self.view_is in
    over_equals c.args.at c.args.free.now c.cnf-2.result.now.clauses u.cnf.clauses c.index_mut.result.now (pool_of c.args.key c.args.self.now.journal) clauses pool c.requires.accepted

pub invariant_of-self-2 : goal.invariant_of-self-2
invariant_of-self-2 c =
    let grows = c.a_legal_journal_grows.ensures.grows in
    let problems = c.self.inside.problems.items in
    let kept = c.self.inside.cache in
    let pools = c.self.inside.pools.items in
    let es = c.self.inside.entries.items in
    let journal = journal_of kept es in
    let u = c.requires.translation in
    let there = subst (λ (h : HubView). IsPublished h.journal c.args.key u) (sym c.self.view_is) c.requires.published in
    let value = is_found problems kept pools journal c.self.invariant c.args.key u there c.in-Some.t (sym (ap shown c.in-Some.is) ∙ c.in_ok-t.ensures) in
    let clauses = ap (λ (f : Formula). f.clauses) c.cnf.ensures ∙ ap (λ (t : Translated). t.cnf.clauses) (c.deref.ensures ∙ value) in
    let again = ap (λ (f : Formula). f.clauses) c.cnf-2.ensures ∙ ap (λ (t : Translated). t.cnf.clauses) (c.deref-2.ensures ∙ value) in
    let pool = pool_read grows problems kept pools es c.self.invariant c.args.key u there c.index.result.now c.index.ensures in
    let more = pool_read grows problems kept pools es c.self.invariant c.args.key u there c.index_mut.result.now c.index_mut.ensures.value in
    let right = c.a_pool_rests_on_the_translation_alone.ensures.pool problems c.args.key journal c.self.invariant.legal u there in
    let is = is_sharing c.one_length_is_longest.ensures journal c.args.key c.args.at u there right c.args.free.now c.in_ok-steps.steps c.share.new.self c.in_ok-count.count c.cnf.result.now.clauses c.cnf-2.result.now.clauses c.index.result.now c.index_mut.result.now
    clauses again pool more c.in_ok-steps.ensures.steps c.in_ok-steps.ensures.longest c.in_ok-count.ensures.appended c.in_ok-count.ensures.longest c.in_ok-count.ensures.accepted in
    let appended = c.push_reserved.ensures.items ∙ ap (λ (xs : List Entry). xs ++ entry c.args.by (WasShared c.args.key c.in_ok-steps.steps) ∷ []) c.in_ok-reserve.ensures.items in
    subst (λ (xs : List LogStep). IsHub problems kept (set pools c.args.key xs) (journal_of kept c.push_reserved.new.self.items)) (sym is.new_is)
    (subst (λ (xs : List Entry). IsHub problems kept (set pools c.args.key (pool_of c.args.key journal ++ c.in_ok-steps.steps)) (journal_of kept xs)) (sym appended)
    (shared grows problems kept pools es c.self.invariant c.args.by c.args.key c.in_ok-steps.steps is.shares))

pub returns-clause-entry : goal.returns-clause-entry
returns-clause-entry c t published =
    let grows = c.a_legal_journal_grows.ensures.grows in
    let problems = c.self.inside.problems.items in
    let kept = c.self.inside.cache in
    let pools = c.self.inside.pools.items in
    let es = c.self.inside.entries.items in
    let journal = journal_of kept es in
    let u = c.requires.translation in
    let there = subst (λ (h : HubView). IsPublished h.journal c.args.key u) (sym c.self.view_is) c.requires.published in
    let also = subst (λ (h : HubView). IsPublished h.journal c.args.key t) (sym c.self.view_is) published in
    let one = c.a_pool_rests_on_the_translation_alone.ensures.one problems journal c.self.invariant.legal c.args.key u t there also in
    let value = is_found problems kept pools journal c.self.invariant c.args.key u there c.in-Some.t (sym (ap shown c.in-Some.is) ∙ c.in_ok-t.ensures) in
    let clauses = ap (λ (f : Formula). f.clauses) c.cnf.ensures ∙ ap (λ (t : Translated). t.cnf.clauses) (c.deref.ensures ∙ value) in
    let again = ap (λ (f : Formula). f.clauses) c.cnf-2.ensures ∙ ap (λ (t : Translated). t.cnf.clauses) (c.deref-2.ensures ∙ value) in
    let pool = pool_read grows problems kept pools es c.self.invariant c.args.key u there c.index.result.now c.index.ensures in
    let more = pool_read grows problems kept pools es c.self.invariant c.args.key u there c.index_mut.result.now c.index_mut.ensures.value in
    let right = c.a_pool_rests_on_the_translation_alone.ensures.pool problems c.args.key journal c.self.invariant.legal u there in
    let is = is_sharing c.one_length_is_longest.ensures journal c.args.key c.args.at u there right c.args.free.now c.in_ok-steps.steps c.share.new.self c.in_ok-count.count c.cnf.result.now.clauses c.cnf-2.result.now.clauses c.index.result.now c.index_mut.result.now
    clauses again pool more c.in_ok-steps.ensures.steps c.in_ok-steps.ensures.longest c.in_ok-count.ensures.appended c.in_ok-count.ensures.longest c.in_ok-count.ensures.accepted in
    let appended = c.push_reserved.ensures.items ∙ ap (λ (xs : List Entry). xs ++ entry c.args.by (WasShared c.args.key c.in_ok-steps.steps) ∷ []) c.in_ok-reserve.ensures.items in
    ap (λ (xs : List Entry). seen problems (journal_of kept xs)) appended
    ∙ shared_view grows problems kept pools es c.self.invariant c.args.by c.args.key c.in_ok-steps.steps
    ∙ ap (λ (xs : List LogStep). with_entry (seen problems journal) c.args.by (Shared c.args.key xs)) is.added_is
    ∙ ap (λ (v : Translated). with_entry (seen problems journal) c.args.by (Shared c.args.key (take c.in_ok-count.count (moved journal c.args.key v c.args.at c.args.free.now)))) one
    ∙ ap (λ (h : HubView). with_entry h c.args.by (Shared c.args.key (take c.in_ok-count.count (moved h.journal c.args.key t c.args.at c.args.free.now)))) c.self.view_is

pub returns-clause-longest : goal.returns-clause-longest
returns-clause-longest c t published =
    let grows = c.a_legal_journal_grows.ensures.grows in
    let problems = c.self.inside.problems.items in
    let kept = c.self.inside.cache in
    let pools = c.self.inside.pools.items in
    let es = c.self.inside.entries.items in
    let journal = journal_of kept es in
    let u = c.requires.translation in
    let there = subst (λ (h : HubView). IsPublished h.journal c.args.key u) (sym c.self.view_is) c.requires.published in
    let also = subst (λ (h : HubView). IsPublished h.journal c.args.key t) (sym c.self.view_is) published in
    let one = c.a_pool_rests_on_the_translation_alone.ensures.one problems journal c.self.invariant.legal c.args.key u t there also in
    let value = is_found problems kept pools journal c.self.invariant c.args.key u there c.in-Some.t (sym (ap shown c.in-Some.is) ∙ c.in_ok-t.ensures) in
    let clauses = ap (λ (f : Formula). f.clauses) c.cnf.ensures ∙ ap (λ (t : Translated). t.cnf.clauses) (c.deref.ensures ∙ value) in
    let again = ap (λ (f : Formula). f.clauses) c.cnf-2.ensures ∙ ap (λ (t : Translated). t.cnf.clauses) (c.deref-2.ensures ∙ value) in
    let pool = pool_read grows problems kept pools es c.self.invariant c.args.key u there c.index.result.now c.index.ensures in
    let more = pool_read grows problems kept pools es c.self.invariant c.args.key u there c.index_mut.result.now c.index_mut.ensures.value in
    let right = c.a_pool_rests_on_the_translation_alone.ensures.pool problems c.args.key journal c.self.invariant.legal u there in
    let is = is_sharing c.one_length_is_longest.ensures journal c.args.key c.args.at u there right c.args.free.now c.in_ok-steps.steps c.share.new.self c.in_ok-count.count c.cnf.result.now.clauses c.cnf-2.result.now.clauses c.index.result.now c.index_mut.result.now
    clauses again pool more c.in_ok-steps.ensures.steps c.in_ok-steps.ensures.longest c.in_ok-count.ensures.appended c.in_ok-count.ensures.longest c.in_ok-count.ensures.accepted in
    subst (λ (h : HubView). IsLongestFit (pool_of c.args.key h.journal) (moved h.journal c.args.key t c.args.at c.args.free.now) c.in_ok-count.count) c.self.view_is
    (subst (λ (v : Translated). IsLongestFit (pool_of c.args.key journal) (moved journal c.args.key v c.args.at c.args.free.now) c.in_ok-count.count) one is.longest)
