-- The sessions of a script on models that can be used can be served.
use Rattle.std.proofs.Common.{◌≡◌, ◌≤◌, ◌<◌, ◌*◌, ◌^◌, ℕ, List, [], ◌∷◌, All, length, get_or, sym, subst, arith}
use Rattle.std.specs.Global.{Vec}
use Rattle.std.specs.List.{AllZip, AllByRecursion}
use Rattle.std.proofs.lemmas.List.Elements.{recursion_from_All, All-from_recursion}
use Rattle.session_words.specs.declared.commands.Command.{Command}
use Rattle.session_rules.specs.declared.script.SessionScript.{SessionScript}
use Rattle.script_format.specs.declared.entries.Script.{Script}
use Rattle.script_format.specs.declared.entries.ModelEntry.{ModelEntry}
use Rattle.script_format.specs.declared.entries.SessionEntry.{SessionEntry}
use Rattle.script_format.specs.Limits.{IsAllowed, asked_by}
use Rattle.rel_formula.specs.Bounds.{Bounded}
use Rattle.served_models.specs.declared.purposes.Purpose.{Purpose}
use Rattle.served_models.specs.declared.commands.ServedCommand.{ServedCommand}
use Rattle.served_models.specs.Served.{AreUsed}
use Rattle.explorer_run.specs.Served.{IsServable, IsServableScript}
use Rattle.explorer_cli.specs.Runs.{IsServed}
use Rattle.explorer_cli.specs.Keys.{problems_of, IsScriptOf, CanBeServed, KeepsToLimits}
use Rattle.explorer_cli.proofs.KeyedProblems.{AreSymmetric, few_problems, all_servable, key_within}
use Rattle.explorer_cli.proofs.Usables.{usable_length, all_served, asked_each}

-- what was found of a script's models
module _ (purpose : Purpose) (s : Script) (sessions : List SessionEntry) (entries : List ModelEntry) (models : List (Vec ServedCommand)) (sessions_are : sessions ≡ s.sessions) (entries_are : entries ≡ s.models)
    (used : AreUsed purpose sessions entries models) (limits : KeepsToLimits s) where
  of_script : AreUsed purpose s.sessions s.models models
  of_script = subst (λ (es : List ModelEntry). AreUsed purpose s.sessions es models) entries_are (subst (λ (xs : List SessionEntry). AreUsed purpose xs entries models) sessions_are used)

  pub problems_are_servable : AreSymmetric → (length (problems_of models) < 2 ^ 32) × All IsServable (problems_of models)
  problems_are_servable symmetric =
      let (ms, usable, are) = of_script in
      let few = few_problems purpose s.sessions 0 ms models limits.sessions are in
      let long = usable_length purpose s.sessions 0 s.models ms usable in
      let most = limits.models in
      (omega (arith, few, long, most), all_servable purpose s.sessions symmetric 0 ms models are)

  pub all_on : All (IsServed models) sessions
  all_on = subst (λ (xs : List SessionEntry). All (IsServed models) xs) (sym sessions_are) (all_served purpose s.sessions s.models models of_script limits.named)

  pub all_can_be_served : All (CanBeServed models) sessions
  all_can_be_served =
      let on = all_served purpose s.sessions s.models models of_script limits.named in
      let asked = asked_each s.sessions 20000 limits.asked in
      let each : All (CanBeServed models) s.sessions = λ k d l. record { on = on k d l; allowed = limits.allowed k d l; asked = asked k d l; few = let few = limits.commands k d l in omega (arith, few) } in
      subst (λ (xs : List SessionEntry). All (CanBeServed models) xs) (sym sessions_are) each

  pub few_sessions : length sessions < 2 ^ 32
  few_sessions = let few = limits.sessions in subst (λ (xs : List SessionEntry). length xs < 2 ^ 32) (sym sessions_are) (omega (arith, few))

-- a session's script can be served
script_servable : (models : List (Vec ServedCommand)) (budget : ℕ) (x : SessionEntry) (y : SessionScript) → budget ≤ 100000 → CanBeServed models x → IsScriptOf models budget x y → IsServableScript (length (problems_of models)) y
script_servable models budget x y small can is = record {
  key = subst (λ (k : ℕ). k < length (problems_of models)) (sym is.key) (key_within models x can.on);
  budget = subst (λ (b : ℕ). b ≤ 100000) (sym is.budget_is) small;
  allowed = subst (λ (cs : List Command). All IsAllowed cs) (sym is.commands) can.allowed;
  asked = subst (λ (cs : List Command). asked_by cs ≤ 20000) (sym is.commands) can.asked;
  few = subst (λ (cs : List Command). length cs < 2 ^ 32) (sym is.commands) can.few;
}

each_servable : (models : List (Vec ServedCommand)) (budget : ℕ) → budget ≤ 100000 → (sessions : List SessionEntry) (scripts : List SessionScript) → AllByRecursion (CanBeServed models) sessions → AllZip (IsScriptOf models budget) sessions scripts
    → AllByRecursion (IsServableScript (length (problems_of models))) scripts
each_servable models budget small [] [] can zip = tt
each_servable models budget small [] (y ∷ ys) can zip = absurd zip
each_servable models budget small (x ∷ xs) [] can zip = absurd zip
each_servable models budget small (x ∷ xs) (y ∷ ys) can zip = (script_servable models budget x y small can.0 zip.0, each_servable models budget small xs ys can.1 zip.1)

pub scripts_servable : (models : List (Vec ServedCommand)) (budget : ℕ) (sessions : List SessionEntry) (scripts : List SessionScript) (problems : List Bounded) → budget ≤ 100000 → All (CanBeServed models) sessions → AllZip (IsScriptOf models budget) sessions scripts
    → problems ≡ problems_of models → All (IsServableScript (length problems)) scripts
scripts_servable models budget sessions scripts problems small can zip are =
    subst (λ (ps : List Bounded). All (IsServableScript (length ps)) scripts) (sym are)
    (All-from_recursion (IsServableScript (length (problems_of models))) scripts (each_servable models budget small sessions scripts (recursion_from_All (CanBeServed models) sessions can) zip))
