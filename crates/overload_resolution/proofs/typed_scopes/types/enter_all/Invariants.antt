use Rattle.named_model.specs.View.{phrase_view}
use Rattle.model_types.specs.Typing.{type_in, onto}
use Rattle.overload_resolution.specs.Settling.Inside.{AreAlikeWhere}
use Rattle.overload_resolution.specs.Scopes.Declaring.{declared_by}
use Rattle.overload_resolution.specs.Scopes.Zipped.{IsInside}
use Rattle.overload_resolution.proofs.typed_scopes.types.enter_all.Given as goal

abbrev pub invariant-loop : goal.invariant-loop
invariant-loop l = record {
  alike : AreAlikeWhere l.asked l.scope.locals (onto l.counter (record { arity = l.arity; type = type_in (declared_by l.setting) l.fn.scope.locals (phrase_view l.phrase) }) l.fn.scope.locals);
  inside : IsInside l.scope.locals l.fn.scope.locals;
}
