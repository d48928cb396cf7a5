use Rattle.std.proofs.Common.{◌≡◌, ℕ, sym, subst}
use Rattle.hub_lock.specs.Passes.{of_pass}
use Rattle.hub_state.specs.Journal.Noted.{Noted}
use Rattle.explorer_run.specs.Served.{values_of}
use Rattle.explorer_run.proofs.Rooted.{root_joins}
use Rattle.explorer_run.proofs.calls.Explorer.retire.Goals as goal

pub returns-clause-root : goal.returns-clause-root
returns-clause-root g c =
    let lock = c.args.self.now.lock in
    let old = c.args.root.now in
    let new = c.join.new.p in
    let root = c.requires.root in
    let mine = subst (λ (n : ℕ). of_pass (λ (x : Noted). x.by) n new.view.seen ≡ new.view.own) (sym root.number) c.join.ensures.mine in
    let idle = c.passes_stay_idle.ensures.joined lock old new c.args.pass root.idle c.requires.idle c.requires.base c.join.ensures.own c.join.ensures.view mine in
    root_joins lock (values_of c.args.self.now.translations.items) old new c.args.pass.view root idle c.join.ensures.view c.join.ensures.joined.mine
