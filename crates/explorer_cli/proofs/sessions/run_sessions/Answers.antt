use Rattle.std.proofs.Common.{◌≤◌, ◌<◌, ◌^◌, List, All, length, sym, ap, subst, ◌∙◌, arith}
use Rattle.std.specs.Global.{Vec}
use Rattle.std.specs.List.{AllZip}
use Rattle.rel_formula.specs.Bounds.{Bounded}
use Rattle.session_rules.specs.declared.script.SessionScript.{SessionScript}
use Rattle.script_text.proofs.Zips.{zip_long}
use Rattle.served_models.specs.declared.commands.ServedCommand.{ServedCommand}
use Rattle.explorer_run.specs.Served.{IsServable, IsServableScript, allowed_in}
use Rattle.explorer_cli.specs.Keys.{IsScriptOf}
use Rattle.explorer_cli.proofs.Servables.{scripts_servable}
use Rattle.explorer_cli.proofs.Learning.{same_allowed}
use Rattle.explorer_cli.proofs.sessions.run_sessions.Goals as goal

pub serve_sessions-requires-clause-problems : goal.serve_sessions-requires-clause-problems
serve_sessions-requires-clause-problems g c κs within = subst (λ (ps : List Bounded). (length ps < 2 ^ 32) × All IsServable ps) (sym c.in_ok-problems.ensures) c.requires.problems

pub serve_sessions-requires-clause-scripts : goal.serve_sessions-requires-clause-scripts
serve_sessions-requires-clause-scripts g c κs within =
    let scripts = c.in_ok-scripts.scripts.items in
    let zip = subst (λ (ms : List (Vec ServedCommand)). AllZip (IsScriptOf ms c.args.budget) c.args.sessions.now scripts) c.deref.ensures.value c.in_ok-scripts.ensures in
    subst (λ (xs : List SessionScript). All (IsServableScript (length c.in_ok-problems.problems.items)) xs) (sym c.deref-2.ensures.value)
    (scripts_servable c.args.models.items c.args.budget c.args.sessions.now scripts c.in_ok-problems.problems.items c.requires.budget c.requires.sessions zip c.in_ok-problems.ensures)

pub serve_sessions-requires-clause-few : goal.serve_sessions-requires-clause-few
serve_sessions-requires-clause-few g c κs within =
    let same = zip_long (IsScriptOf c.deref.result.now c.args.budget) c.args.sessions.now c.in_ok-scripts.scripts.items c.in_ok-scripts.ensures in
    let there = ap (λ (xs : List SessionScript). length xs) c.deref-2.ensures.value in
    let few = c.requires.few in
    omega (arith, same, there, few)

pub returns-in_err-served-clause-learnt : goal.returns-in_err-served-clause-learnt
returns-in_err-served-clause-learnt g c =
    let scripts = c.in_ok-scripts.scripts.items in
    let zip = subst (λ (ms : List (Vec ServedCommand)). AllZip (IsScriptOf ms c.args.budget) c.args.sessions.now scripts) c.deref.ensures.value c.in_ok-scripts.ensures in
    let may = ap allowed_in c.deref-2.ensures.value ∙ same_allowed c.args.models.items c.args.budget c.args.sessions.now scripts zip in
    let most = c.serve_sessions.ensures.spent in
    omega (arith, may, most)

pub returns-clause-learnt : goal.returns-clause-learnt
returns-clause-learnt g c =
    let scripts = c.in_ok-scripts.scripts.items in
    let zip = subst (λ (ms : List (Vec ServedCommand)). AllZip (IsScriptOf ms c.args.budget) c.args.sessions.now scripts) c.deref.ensures.value c.in_ok-scripts.ensures in
    let may = ap allowed_in c.deref-2.ensures.value ∙ same_allowed c.args.models.items c.args.budget c.args.sessions.now scripts zip in
    let most = c.serve_sessions.ensures.spent in
    omega (arith, may, most)
