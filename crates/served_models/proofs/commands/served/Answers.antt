use Rattle.std.proofs.Common.{◌+◌, ℕ, Result, sym, subst}
use Rattle.std.specs.Prelude.{Vec, MatchResult}
use Rattle.std.specs.declared.alloc.Global.{Global}
use Rattle.named_model.specs.View.{named_view}
use Rattle.served_models.specs.declared.commands.ServedCommand.{ServedCommand}
use Rattle.served_models.specs.Served.{IsServedFor, IsUnusable}
use Rattle.std.proofs.lemmas.Result.{err_from_is_err_and}
use Rattle.served_models.proofs.Usables.{IsMadeBelow, made_more, all_made, bad_command, large_command}
use Rattle.served_models.proofs.commands.served.Goals as goal

pub returns-in-Err-clause-found : goal.returns-in-Err-clause-found
returns-in-Err-clause-found c =
    let m = named_view c.args.model.now in
    let number = c.in-Some.number in
    let lacks = subst (λ (found : Result ServedCommand (Vec ℕ Global)). MatchResult found (IsServedFor c.args.purpose m number) (λ (words : Vec ℕ Global). IsUnusable c.args.purpose m number words.items)) c.in-Err.is c.in_ok-command.ensures.found in
    bad_command c.args.purpose c.args.sessions.now c.args.place m c.asked.from number c.asked.made.items c.in-Err.words.items c.asked.invariant c.in-Some.ensures lacks

pub asked-preserved : goal.asked-preserved
asked-preserved c =
    let m = named_view c.args.model.now in
    let number = c.in-Some.number in
    let served = subst (λ (found : Result ServedCommand (Vec ℕ Global)). MatchResult found (IsServedFor c.args.purpose m number) (λ (words : Vec ℕ Global). IsUnusable c.args.purpose m number words.items)) c.in-Ok.is c.in_ok-command.ensures.found in
    let more = made_more c.args.purpose c.args.sessions.now c.args.place m c.asked.from number c.asked.made.items c.push.new.self.items c.in-Ok.command c.in_ok-push-in-Ok.ensures.items c.in-Some.ensures served c.asked.invariant in
    subst (λ (n : ℕ). IsMadeBelow c.args.purpose c.args.sessions.now c.args.place m (n + 1) c.push.new.self.items) (sym c.from-from.ensures) more

pub returns-clause-found : goal.returns-clause-found
returns-clause-found c = all_made c.args.purpose c.args.sessions.now c.args.place (named_view c.args.model.now) c.asked.from c.asked.made.items c.in_default.ensures c.asked.invariant

pub returns-in_err-command-clause-large : goal.returns-in_err-command-clause-large
returns-in_err-command-clause-large c =
    let p = err_from_is_err_and c.from_residual.result c.from_residual.ensures.1 in
    rw (p.1, p.2) (λ is. large_command c.args.sessions.now c.args.place (named_view c.args.model.now) c.asked.from c.in-Some.number c.in-Some.ensures (c.in_err-command.ensures.large is))
