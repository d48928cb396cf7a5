use Rattle.std.proofs.Common.{rules, ◌≡◌, List, [], ◌∷◌, length, true, refl, sym, ◌∙◌, subst, arith}
use Rattle.std.proofs.lemmas.Bool.{eqb-true}
use Rattle.model_types.specs.Bounding.{Lists}
use Rattle.model_types.proofs.Bounds.SameListsMade.{same}
use Rattle.overload_resolution.specs.Expressions.Types.{AreEachSame}
use Rattle.overload_resolution.proofs.Expressions.Calling.{called_kept}
use Rattle.overload_resolution.proofs.expression_types.names.kept_type.Goals as goal

no_types : (xs : List Lists) → length xs ≡ 0 → xs ≡ []
no_types [] e = refl
no_types (x ∷ xs) e = absurd (omega (arith, e))

pub returns-in_ok-copy-in-Some : goal.returns-in_ok-copy-in-Some
returns-in_ok-copy-in-Some c = λ t ys s h test.
    let lists = c.in-Some.lists.now in
    let empty : c.is_empty.result ≡ true = search rules in
    let none : c.args.arguments.now ≡ [] = no_types c.args.arguments.now (eqb-true (length c.args.arguments.now) 0 (sym c.is_empty.ensures ∙ empty)) in
    c.in_ok-copy-in-Some.ensures [] lists (same c.new-none.result [] c.new-none.ensures) (λ q. refl) test
    ∙ called_kept c.args.known.now t c.args.number c.args.calls lists ys (sym c.in-Some.ensures) s (subst (λ (xs : List Lists). AreEachSame xs ys) none h) test
