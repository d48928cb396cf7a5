use Rattle.std.proofs.Common.{◌≡◌, Option, None, Some, List, ◌∷◌, ◌++◌, [], set, sym, ◌∙◌, ap, subst}
use Rattle.std.specs.Prelude.{slice_get, unwrap_or}
use Rattle.translation_rules.specs.Translation.{Translated, StandsFor}
use Rattle.translation.specs.Kept.{IsTranslation}
use Rattle.translation_cache.specs.Published.{shown, first_of}
use Rattle.hub_state.specs.declared.journal_rules.event.Entry.{Entry}
use Rattle.hub_state.specs.declared.journal_rules.event.Event.TheVariants.{Published as WasPublished}
use Rattle.hub_state.specs.Journal.Journal.{IsPublished}
use Rattle.hub_state.specs.HubView.{HubView, IsPublishing}
use Rattle.hub_state.specs.Held.{journal_of, IsHub}
use Rattle.hub_state.proofs.Appending.{entry, seen, key_inside, published, published_view, published_there}
use Rattle.hub_state.proofs.hub.Hub.publish.Goals as goal

pub returns-in-Some-clause-kept : goal.returns-in-Some-clause-kept
returns-in-Some-clause-kept c =
    let found = sym c.in_ok-first.ensures ∙ ap shown c.in-Some.is in
    subst (λ (h : HubView). IsPublished h.journal c.args.key c.in-Some.first.value) c.self.view_is (c.self.invariant.published c.args.key c.in-Some.first.value found)

pub publish-requires : goal.publish-requires
publish-requires c =
    let of_key = subst (λ (h : HubView). slice_get h.problems c.args.key ≡ Some c.args.t.value.problem) (sym c.self.view_is) c.requires in
    key_inside c.a_legal_journal_grows.ensures.grows c.self.inside.problems.items c.self.inside.cache c.self.inside.pools.items c.self.inside.entries.items c.self.invariant c.args.key c.args.t.value.problem of_key

pub invariant_of-self-2 : goal.invariant_of-self-2
invariant_of-self-2 c =
    let problems = c.self.inside.problems.items in
    let kept = c.self.inside.cache in
    let pools = c.self.inside.pools.items in
    let es = c.self.inside.entries.items in
    let t = c.args.t.value in
    let of_key = subst (λ (h : HubView). slice_get h.problems c.args.key ≡ Some t.problem) (sym c.self.view_is) c.requires in
    let free = sym (ap shown c.in_default.is) ∙ c.in_ok-first.ensures in
    let stands : StandsFor t.problem t = (subst IsTranslation c.deref.ensures c.problem.ensures.well).stands in
    let more = c.in_ok-kept.ensures.kept ∙ ap (λ (o : Option Translated). set kept c.args.key (Some (unwrap_or o t))) (sym free) in
    let appended = c.push_reserved.ensures.items ∙ ap (λ (xs : List Entry). xs ++ entry c.args.by (WasPublished c.args.key) ∷ []) c.in_ok-reserve.ensures.items in
    subst (λ (cache : List (Option Translated)). IsHub problems cache pools (journal_of cache c.push_reserved.new.self.items)) (sym more)
    (subst (λ (xs : List Entry). IsHub problems (set kept c.args.key (Some t)) pools (journal_of (set kept c.args.key (Some t)) xs)) (sym appended)
    (published c.a_legal_journal_grows.ensures.grows problems kept pools es c.self.invariant c.args.by c.args.key t free of_key stands))

pub returns-clause-entry : goal.returns-clause-entry
returns-clause-entry c =
    let problems = c.self.inside.problems.items in
    let kept = c.self.inside.cache in
    let pools = c.self.inside.pools.items in
    let es = c.self.inside.entries.items in
    let t = c.args.t.value in
    let first = c.in_ok-kept.kept.value in
    let of_key = subst (λ (h : HubView). slice_get h.problems c.args.key ≡ Some t.problem) (sym c.self.view_is) c.requires in
    let free = sym (ap shown c.in_default.is) ∙ c.in_ok-first.ensures in
    let same = c.in_ok-kept.ensures.first ∙ ap (λ (o : Option Translated). unwrap_or o t) (sym free) in
    let more = c.in_ok-kept.ensures.kept ∙ ap (λ (o : Option Translated). set kept c.args.key (Some (unwrap_or o t))) (sym free) in
    let appended = c.push_reserved.ensures.items ∙ ap (λ (xs : List Entry). xs ++ entry c.args.by (WasPublished c.args.key) ∷ []) c.in_ok-reserve.ensures.items in
    subst (λ (h : HubView). IsPublishing h c.args.by c.args.key t (seen problems (journal_of c.publish.new.self c.push_reserved.new.self.items)) first) c.self.view_is
    (subst (λ (cache : List (Option Translated)). IsPublishing (seen problems (journal_of kept es)) c.args.by c.args.key t (seen problems (journal_of cache c.push_reserved.new.self.items)) first) (sym more)
    (subst (λ (xs : List Entry). IsPublishing (seen problems (journal_of kept es)) c.args.by c.args.key t (seen problems (journal_of (set kept c.args.key (Some t)) xs)) first) (sym appended)
    (published_view c.a_legal_journal_grows.ensures.grows problems kept pools es c.self.invariant c.args.by c.args.key t free of_key first same)))

pub returns-clause-kept : goal.returns-clause-kept
returns-clause-kept c =
    let problems = c.self.inside.problems.items in
    let kept = c.self.inside.cache in
    let pools = c.self.inside.pools.items in
    let es = c.self.inside.entries.items in
    let t = c.args.t.value in
    let first = c.in_ok-kept.kept.value in
    let of_key = subst (λ (h : HubView). slice_get h.problems c.args.key ≡ Some t.problem) (sym c.self.view_is) c.requires in
    let free = sym (ap shown c.in_default.is) ∙ c.in_ok-first.ensures in
    let same = c.in_ok-kept.ensures.first ∙ ap (λ (o : Option Translated). unwrap_or o t) (sym free) in
    let more = c.in_ok-kept.ensures.kept ∙ ap (λ (o : Option Translated). set kept c.args.key (Some (unwrap_or o t))) (sym free) in
    let appended = c.push_reserved.ensures.items ∙ ap (λ (xs : List Entry). xs ++ entry c.args.by (WasPublished c.args.key) ∷ []) c.in_ok-reserve.ensures.items in
    subst (λ (cache : List (Option Translated)). IsPublished (journal_of cache c.push_reserved.new.self.items) c.args.key first) (sym more)
    (subst (λ (xs : List Entry). IsPublished (journal_of (set kept c.args.key (Some t)) xs) c.args.key first) (sym appended)
    (published_there c.a_legal_journal_grows.ensures.grows problems kept pools es c.self.invariant c.args.by c.args.key t free of_key first same))
