use Rattle.std.proofs.Common.{◌≡◌, ◌+◌, ◌∷◌, ◌++◌, ◌∙◌, [], List, take, sym, ap, subst}
use Rattle.std.specs.List.{AllZip}
use Rattle.std.proofs.lemmas.List.{take_more, take_all}
use Rattle.tuple_core.proofs.Steps.{all_at}
use Rattle.refutation_check.proofs.TextLines.{zip_push}
use Rattle.session_rules.specs.declared.script.SessionScript.{SessionScript}
use Rattle.script_format.specs.declared.entries.SessionEntry.{SessionEntry}
use Rattle.explorer_cli.specs.Keys.{IsScriptOf, CanBeServed}
use Rattle.explorer_cli.proofs.sessions.scripts_of.Goals as goal

pub script_of-requires-clause-session : goal.script_of-requires-clause-session
script_of-requires-clause-session c =
    all_at (CanBeServed c.args.models.now) c.args.sessions.now c.loop-session.session-index c.session-item.result c.requires.sessions c.loop-session-test.true c.session-item.is

pub loop-session-preserved : goal.loop-session-preserved
loop-session-preserved c =
    let xs = c.args.sessions.now in
    let i = c.loop-session.session-index in
    let x = c.session-item.result in
    let y : SessionScript = c.in_ok-script.script in
    let old = c.loop-session.scripts.items in
    let more : take (i + 1) xs ≡ take i xs ++ x ∷ [] = take_more xs i x c.loop-session-test.true ∙ ap (λ (z : SessionEntry). take i xs ++ z ∷ []) (sym c.session-item.is) in
    subst (λ (ys : List SessionScript). AllZip (IsScriptOf c.args.models.now c.args.budget) (take (i + 1) xs) ys) (sym c.in_ok-push.ensures.items)
    (subst (λ (zs : List SessionEntry). AllZip (IsScriptOf c.args.models.now c.args.budget) zs (old ++ y ∷ [])) (sym more)
    (zip_push (IsScriptOf c.args.models.now c.args.budget) (take i xs) old x y c.loop-session.invariant c.in_ok-script.ensures))

pub returns : goal.returns
returns c =
    subst (λ (xs : List SessionEntry). AllZip (IsScriptOf c.args.models.now c.args.budget) xs c.loop-session.scripts.items) (take_all c.loop-session.session-index c.args.sessions.now c.loop-session-test.false)
    c.loop-session.invariant
