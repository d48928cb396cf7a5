use Rattle.std.proofs.Common.{◌≡◌, List, sym, subst}
use Rattle.std.specs.Prelude.{IsSomeAnd, IfSome}
use Rattle.hub_state.specs.declared.journal_rules.event.Entry.{Entry}
use Rattle.hub_state.specs.Journal.Journal.{MayFollow}
use Rattle.hub_state.specs.HubView.{HubView, with_entry, note_to_record}
use Rattle.hub_state.specs.Held.{journal_of, IsHub}
use Rattle.hub_state.proofs.Appending.{seen, recorded, recorded_view}
use Rattle.hub_state.proofs.hub.Hub.record.Goals as goal

pub invariant_of-self-2 : goal.invariant_of-self-2
invariant_of-self-2 c =
    let problems = c.self.inside.problems.items in
    let kept = c.self.inside.cache in
    let pools = c.self.inside.pools.items in
    let may = subst (λ (h : HubView). IsSomeAnd (note_to_record c.args.event) (λ note. MayFollow h.problems h.journal c.args.by note)) (sym c.self.view_is) c.requires in
    subst (λ (es : List Entry). IsHub problems kept pools (journal_of kept es)) (sym c.in_ok-push.ensures.items)
    (recorded c.a_legal_journal_grows.ensures.grows problems kept pools c.self.inside.entries.items c.self.invariant c.args.by c.args.event may)

pub returns-clause-ok : goal.returns-clause-ok
returns-clause-ok c =
    let problems = c.self.inside.problems.items in
    let kept = c.self.inside.cache in
    let old = c.self.inside.entries.items in
    let view = recorded_view c.a_legal_journal_grows.ensures.grows problems kept c.self.inside.pools.items old c.self.invariant c.args.by c.args.event in
    subst (λ (h : HubView). IfSome (note_to_record c.args.event) (λ note. seen problems (journal_of kept c.push.new.self.items) ≡ with_entry h c.args.by note)) c.self.view_is
    (subst (λ (es : List Entry). IfSome (note_to_record c.args.event) (λ note. seen problems (journal_of kept es) ≡ with_entry (seen problems (journal_of kept old)) c.args.by note)) (sym c.in_ok-push.ensures.items) view)
