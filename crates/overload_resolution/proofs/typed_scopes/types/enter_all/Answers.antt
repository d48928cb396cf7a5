use Rattle.std.proofs.Common.{◌≡◌, ◌+◌, List, [], ◌∷◌, refl, sym, ap, subst, ◌∙◌}
use Rattle.named_model.specs.View.{phrase_view}
use Rattle.model_types.specs.Typing.{Local, type_in, onto}
use Rattle.overload_resolution.specs.Settling.Inside.{AreAlikeWhere}
use Rattle.overload_resolution.proofs.Settling.SharedDeclarations.{alike_refl}
use Rattle.overload_resolution.specs.Scopes.Declaring.{declared_by}
use Rattle.overload_resolution.specs.Scopes.Zipped.{IsInside}
use Rattle.overload_resolution.proofs.Scopes.Insides.{inside_more, alike_more}
use Rattle.overload_resolution.proofs.typed_scopes.types.enter_all.Goals as goal

pub loop-init : goal.loop-init
loop-init c = record {
  alike = subst (λ (ls : List Local). AreAlikeWhere c.args.asked ls c.args.scope.now.locals) (sym c.type_where.ensures.locals) (alike_refl c.args.asked c.args.scope.now.locals);
  inside = ([], c.type_where.ensures.locals);
}

pub loop-preserved : goal.loop-preserved
loop-preserved c =
    let outer = c.args.scope.now.locals in
    let l : Local = record { arity = c.args.arity; type = c.in_ok-copy.copy } in
    let m : Local = record { arity = c.args.arity; type = type_in (declared_by c.args.setting.now) outer (phrase_view c.args.phrase.now) } in
    let entered : c.enter.new.self ≡ l ∷ c.loop.scope.locals = c.in_ok-enter.ensures.ok ∙ ap (λ (ls : List Local). l ∷ ls) c.in_ok-copy.ensures.locals in
    record {
      alike =
          subst (λ (ls : List Local). AreAlikeWhere c.args.asked ls (onto (c.loop.counter + 1) m outer)) (sym entered)
          (alike_more c.args.asked c.loop.counter l m c.loop.scope.locals outer refl (λ a t. c.in_ok-copy.ensures.value t ∙ c.in_ok-of.ensures.value a t) c.loop.invariant.alike);
      inside = subst (λ (ls : List Local). IsInside ls outer) (sym entered) (inside_more l c.loop.scope.locals outer c.loop.invariant.inside);
    }

pub returns-in_err-of-clause-inside : goal.returns-in_err-of-clause-inside
returns-in_err-of-clause-inside c = ([], c.in_err-of.ensures.locals)

pub returns-in_err-copy-clause-inside : goal.returns-in_err-copy-clause-inside
returns-in_err-copy-clause-inside c = subst (λ (ls : List Local). IsInside ls c.args.scope.now.locals) (sym c.in_err-copy.ensures.locals) c.loop.invariant.inside

pub returns-in_err-enter-clause-inside : goal.returns-in_err-enter-clause-inside
returns-in_err-enter-clause-inside c = subst (λ (ls : List Local). IsInside ls c.args.scope.now.locals) (sym (c.in_err-enter.ensures.err ∙ c.in_ok-copy.ensures.locals)) c.loop.invariant.inside
