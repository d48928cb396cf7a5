use Rattle.std.proofs.Common.{◌≡◌, ◌≢◌, ◌∙◌, ap, sym, subst, ℕ, Some, List, arith}
use Rattle.std.specs.Prelude.{slice_get}
use Rattle.hub_lock.specs.declared.view.View.{View}
use Rattle.rel_formula.specs.Bounds.{Bounded}
use Rattle.hub_state.specs.Journal.Noted.{Noted}
use Rattle.hub_turns.proofs.Onward.{same_number}
use Rattle.explorer_run.specs.Served.{values_of}
use Rattle.explorer_run.proofs.Rooted.{stays_then}
use Rattle.hub_tests.proofs.of_explorer_run.one_reply.Goals as goal

abbrev V : Type 0
V = View Noted (List Bounded)

pub command-reply-requires-clause-seated : goal.command-reply-requires-clause-seated
command-reply-requires-clause-seated g c =
    let opened = c.in_ok-pass.ensures.opened in (
      opened.translation,
      0,
      subst (λ (k : ℕ). slice_get (values_of c.args.explorer.now.translations.items) k ≡ Some opened.translation) (sym opened.opened.key_is) opened.of_key,
      opened.seated,
      omega arith,
    )

pub retire-requires-clause-number : goal.retire-requires-clause-number
retire-requires-clause-number g c none =
    let number = same_number c.args.explorer.now.lock c.in_ok-pass.pass c.command-reply.new.pass c.command-reply.ensures.goes in
    let opened = c.in_ok-pass.ensures.opened.number in
    absurd (omega (arith, number, opened, none))

pub retire-requires-clause-base : goal.retire-requires-clause-base
retire-requires-clause-base g c =
    let now = ap (λ (v : V). v.base) c.command-reply.ensures.goes.same in
    c.in_ok-pass.ensures.root.base ∙ sym (now ∙ c.in_ok-pass.ensures.opened.base)

pub returns-clause-root : goal.returns-clause-root
returns-clause-root g c = stays_then c.args.explorer.now.lock (values_of c.args.explorer.now.translations.items) c.args.root.now c.open.new.root c.retire.new.root c.in_ok-pass.ensures.root c.retire.ensures.root

pub returns-clause-live : goal.returns-clause-live
returns-clause-live g c =
    let less = ap (λ (v : V). v.live) c.retire.ensures.view in
    let more = c.in_ok-pass.ensures.live in
    omega (arith, less, more)
