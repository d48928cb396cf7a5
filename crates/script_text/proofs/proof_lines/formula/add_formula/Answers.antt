use Rattle.std.proofs.Common.{◌≡◌, ◌+◌, ◌-◌, ◌++◌, ◌∷◌, [], ℕ, List, Some, slice_get, take, refl, sym, ◌∙◌, ap, subst, arith}
use Rattle.std.proofs.lemmas.Option.{slice_get_within}
use Rattle.cnf_core.specs.declared.literal.Lit.{Lit}
use Rattle.cnf_core.specs.Formula.{Formula}
use Rattle.session_state.proofs.Rounds.AddedElements.{added, at_place}
use Rattle.script_text.proofs.proof_lines.formula.add_formula.Goals as goal

pub loop-number-preserved : goal.loop-number-preserved
loop-number-preserved c =
    let old : Formula = c.args.formula.now in
    let xs = c.args.other.now.clauses in
    let i = c.loop-number.number in
    let x : List Lit = c.in_ok-copy.field-0 in
    let here : slice_get xs i ≡ Some c.clause.result.now = subst (λ n. slice_get xs n ≡ Some c.clause.result.now) (let e : i + 1 - 1 ≡ i = omega arith in e) c.clause.ensures.clause in
    let at : slice_get xs i ≡ Some x = here ∙ ap (λ (y : List Lit). Some y) (sym c.in_ok-copy.ensures) in
    let made : List (List Lit) → Formula = λ cs. record { vars = old.vars; clauses = cs } in
    let more : Formula → Formula = λ f. record { vars = f.vars; clauses = f.clauses ++ x ∷ [] } in
    c.in_ok-push.ensures.ok ∙ ap more c.loop-number.invariant
    ∙ ap made (added xs i x (slice_get_within xs i x at) (at_place xs i x at) old.clauses (old.clauses ++ take i xs) refl)
