use Rattle.std.proofs.Common.{ℕ, All, refl, subst}
use Rattle.std.specs.Prelude.{List, Option, Vec}
use Rattle.std.specs.declared.alloc.Global.{Global}
use Rattle.named_model.specs.View.{named_view}
use Rattle.decision_reports.specs.Taken.{CanBeRun, AreLowered}
use Rattle.decision_reports.proofs.taken_models.of_model.Goals as goal

pub returns-in-None : goal.returns-in-None
returns-in-None c =
    let m = named_view c.args.model in
    let lowered = subst (λ (found : Option (Vec ℕ Global)). AreLowered m c.deref.result.now found) c.in-None.is c.in_ok-first_lack.ensures in
    (refl, record { numbers = c.in_ok-numbers.ensures; problems = subst (All (CanBeRun m)) c.deref.ensures.value lowered })
