use Rattle.std.proofs.Common.{◌≡◌, ◌≢◌, ◌≤◌, ◌+◌, List, [], All, take}
use Rattle.cnf_core.specs.declared.literal.Lit.{Lit}
use Rattle.refutation_check.specs.declared.log.Step.{Step as LogStep}
use Rattle.refutation_check.specs.SearchLog.{HasNoEmpty}
use Rattle.translation_rules.specs.Translation.{Translated}
use Rattle.translation_rules.specs.Parts.{AreSearched, novel_in}
use Rattle.session_state.proofs.search_rounds.novel.left_after.Given as goal

abbrev pub invariant-loop-part : goal.invariant-loop-part
invariant-loop-part l = (t : Translated) (pool : List LogStep) → All (λ (c : List Lit). c ≢ []) t.cnf.clauses → HasNoEmpty pool → AreSearched t pool l.parts →
    novel_in t pool (take l.part-index l.parts) ≤ l.budget → novel_in t pool (take l.part-index l.parts) + l.left ≡ l.budget
