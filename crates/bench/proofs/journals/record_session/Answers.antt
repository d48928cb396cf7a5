use Rattle.std.proofs.Common.{◌≡◌, ◌∷◌, [], ℕ, List, sym, ◌∙◌, ap, subst}
use Rattle.rel_formula.specs.Bounds.{Bounded}
use Rattle.session_words.specs.declared.steps.Step.TheVariants.{Next}
use Rattle.session_rules.specs.declared.answers.Reply.TheVariants.{Shown}
use Rattle.hub_state.specs.Journal.Noted.{Opened, Recorded}
use Rattle.hub_state.specs.Journal.Journal.{Opens, Records}
use Rattle.hub_state.specs.HubView.{HubView, with_entry}
use Rattle.bench.proofs.Recording.{may_open, may_show}
use Rattle.bench.proofs.journals.record_session.Goals as goal

pub record-requires : goal.record-requires
record-requires c =
    let hub = c.args.hub.now in
    subst (λ (ps : List Bounded). Opens ps hub.journal c.args.session 0) (sym c.requires.problems) (may_open c.args.session hub.journal c.requires.others)

pub record-requires-2 : goal.record-requires-2
record-requires-2 c =
    let hub = c.args.hub.now in
    let by = c.args.session in
    let opened : HubView = with_entry hub by (Opened 0 5) in
    let shows = subst (λ (ps : List Bounded). Records ps opened.journal by Next (Shown 1 [])) (sym c.requires.problems) (may_show by hub.journal c.requires.others) in
    subst (λ (s : List ℕ). Records c.record.new.self.problems c.record.new.self.journal by Next (Shown 1 s)) (sym c.new.ensures)
    (subst (λ (h : HubView). Records h.problems h.journal by Next (Shown 1 [])) (sym c.in_ok-record.ensures.ok) shows)

pub returns : goal.returns
returns c =
    let by = c.args.session in
    c.in_ok-record-2.ensures.ok
    ∙ ap (λ (s : List ℕ). with_entry c.record.new.self by (Recorded Next (Shown 1 s))) c.new.ensures
    ∙ ap (λ (h : HubView). with_entry h by (Recorded Next (Shown 1 []))) c.in_ok-record.ensures.ok
