use Rattle.std.proofs.Common.{◌≡◌, map, sym, ◌∙◌, ap, subst}
use Rattle.hub_state.specs.Journal.Noted.{entry_of}
use Rattle.hub_state.specs.Journal.Journal.{IsLegal}
use Rattle.hub_state.specs.HubView.{HubView}
use Rattle.hub_state.proofs.Journals.{entries_of}
use Rattle.hub_state.proofs.hub.Hub.journal.Goals as goal

pub returns-clause-entries : goal.returns-clause-entries
returns-clause-entries c =
    c.as_slice.ensures.value ∙ sym (entries_of c.self.inside.cache c.self.inside.entries.items) ∙ ap (λ (h : HubView). map entry_of h.journal) c.self.view_is

pub returns-clause-legal : goal.returns-clause-legal
returns-clause-legal c = subst (λ (h : HubView). IsLegal h.problems h.journal) c.self.view_is c.self.invariant.legal
