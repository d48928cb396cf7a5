use Rattle.std.proofs.Common.{inr, refl, sym, ap, subst, ◌∙◌}
use Rattle.std.specs.Prelude.{Result, ℕ}
use Rattle.std.proofs.lemmas.Result.{err_from_is_err_and}
use Rattle.named_model.specs.Answers.{◌>>=◌}
use Rattle.named_model.specs.declared.phrase.Referent.{Referent}
use Rattle.model_types.specs.declared.fault.TypeFault.{TypeFault}
use Rattle.model_types.specs.Typing.{Settled, is_field, referent_settled}
use Rattle.overload_resolution.specs.Settling.Told.{IsTold, Gives}
use Rattle.overload_resolution.specs.Scopes.Declaring.{declared_by}
use Rattle.overload_resolution.specs.Scopes.Given.{settled_view}
use Rattle.overload_resolution.proofs.Scopes.Standing.{entries_are}
use Rattle.overload_resolution.proofs.typed_scopes.names.referent_settled.Goals as goal

pub returns-in_err-chosen-in-Shared : goal.returns-in_err-chosen-in-Shared
returns-in_err-chosen-in-Shared c =
    let s = c.args.setting.now in
    let d = declared_by s in
    let p = err_from_is_err_and c.from_residual.result c.from_residual.ensures.1 in
    let fault = c.in_err-chosen-in-Shared.ensures d c.args.tops.now (entries_are s.fields s.types.fields.items) (λ t. refl) in
    rw (p.1, p.2) (subst (λ (r : Referent). IsTold c.in_err-chosen-in-Shared.field-0.0 (referent_settled d c.args.scope.now.locals c.args.tops.now c.args.place r)) (sym c.in-Shared.is)
    (inr (ap (λ (q : Result ℕ TypeFault). q >>= λ g. is_field d c.args.place g) (sym fault))))

pub returns-in_ok-chosen-in-Shared : goal.returns-in_ok-chosen-in-Shared
returns-in_ok-chosen-in-Shared c =
    let s = c.args.setting.now in
    let d = declared_by s in
    let one = c.in_ok-chosen-in-Shared.ensures d c.args.tops.now (entries_are s.fields s.types.fields.items) (λ t. refl) in
    subst (λ (read : Result Settled TypeFault). Gives settled_view c.field-in-Shared.result read)
    (ap (λ (q : Result ℕ TypeFault). q >>= λ g. is_field d c.args.place g) one
    ∙ ap (λ (r : Referent). referent_settled d c.args.scope.now.locals c.args.tops.now c.args.place r) (sym c.in-Shared.is))
    c.field-in-Shared.ensures
