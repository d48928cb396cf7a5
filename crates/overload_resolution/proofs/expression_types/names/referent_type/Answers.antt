use Rattle.std.proofs.Common.{reverse, ap, ◌∙◌, sym}
use Rattle.std.specs.List.{list_any}
use Rattle.named_model.specs.declared.phrase.Referent.{Referent}
use Rattle.model_types.specs.Bounding.{referent_type}
use Rattle.overload_resolution.proofs.Expressions.Each.{each_at}
use Rattle.overload_resolution.proofs.expression_types.names.referent_type.Goals as goal

pub returns-in_ok-local_type-in-Local : goal.returns-in_ok-local_type-in-Local
returns-in_ok-local_type-in-Local c = λ calls t ls s h test.
    c.in_ok-local_type-in-Local.ensures test
    ∙ each_at (reverse c.args.locals.now) ls c.in-Local.number h test
    ∙ ap (λ (r : Referent). list_any test (referent_type t ls r)) (sym c.in-Local.is)
