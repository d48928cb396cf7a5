use Rattle.std.proofs.Common.{◌≡◌, ◌≢◌, inl, inr, Bool, true, false, List, [], ◌∷◌, map, length, Contains, refl, sym, ◌∙◌, ap, subst, arith, ◌==◌}
use Rattle.std.proofs.lemmas.Bool.{eqb-true, eqb-false}
use Rattle.std.proofs.lemmas.List.Elements.{All-contains, All-nil, Contains-append_left, Contains-append_right, Contains-append_cases}
use Rattle.std.proofs.lemmas.Option.{slice_get_within, get_or_from_slice_get}
use Rattle.tuple_core.proofs.Steps.{all_step, all_done}
use Rattle.cnf_core.specs.declared.literal.Lit.{Lit}
use Rattle.refutation_check.specs.declared.log.Step.{Step}
use Rattle.rel_formula.proofs.OpenCells.{has_map, map_has}
use Rattle.session_state.proofs.Rounds.AddedElements.{at_place}
use Rattle.session_state.proofs.search_rounds.novel.has_empty.Goals as goal

no_elements : (xs : List Lit) → length xs ≡ 0 → xs ≡ []
no_elements [] e = refl
no_elements (x ∷ xs) e = absurd (omega arith)

is_nothing : (xs : List Lit) (b : Bool) → b ≡ (length xs == 0) → b ≡ true → xs ≡ []
is_nothing xs b e t = no_elements xs (eqb-true (length xs) 0 (sym e ∙ t))

is_something : (xs : List Lit) (b : Bool) → b ≡ (length xs == 0) → b ≡ false → xs ≢ []
is_something xs b e f none = eqb-false (length xs) 0 (sym e ∙ f) (ap length none)

abbrev clause_of : Step → List Lit
clause_of s = s.clause

pub returns-then-is_empty : goal.returns-then-is_empty
returns-then-is_empty c =
    let xs : List (List Lit) = c.args.part.now.local in
    let i = c.loop-place.place in
    let x : List Lit = c.local.result.now in
    let empty : x ≡ [] = sym c.lits.ensures.lits ∙ is_nothing c.lits.result.now c.is_empty.result c.is_empty.ensures c.if-is_empty.true in
    let there : Contains xs [] = (i, slice_get_within xs i x c.local.ensures, get_or_from_slice_get xs i x [] c.local.ensures ∙ empty) in
    (λ e. Contains-append_left xs (map clause_of c.args.steps.now) [] there, λ h. refl)

pub loop-place-preserved : goal.loop-place-preserved
loop-place-preserved c =
    let xs : List (List Lit) = c.args.part.now.local in
    let i = c.loop-place.place in
    let x : List Lit = c.local.result.now in
    all_step (λ (l : List Lit). l ≢ []) xs i x (slice_get_within xs i x c.local.ensures) (at_place xs i x c.local.ensures) c.loop-place.invariant
    (λ e. is_something c.lits.result.now c.is_empty.result c.is_empty.ensures c.if-is_empty.false (c.lits.ensures.lits ∙ e))

pub loop-step-init : goal.loop-step-init
loop-step-init c = (
  all_done (λ (l : List Lit). l ≢ []) c.args.part.now.local c.loop-place.place (omega arith) c.loop-place.invariant,
  All-nil (λ (s : Step). s.clause ≢ []),
)

pub returns-then-is_empty-2 : goal.returns-then-is_empty-2
returns-then-is_empty-2 c =
    let xs = c.args.steps.now in
    let s : Step = c.step-item.result in
    let empty : s.clause ≡ [] = sym c.lits-in-loop-step.ensures.lits ∙ is_nothing c.lits-in-loop-step.result.now c.is_empty-in-loop-step.result c.is_empty-in-loop-step.ensures c.if-is_empty-2.true in
    let there : Contains (map clause_of xs) s.clause = has_map clause_of xs s (c.loop-step.step-index, c.loop-step-test.true, sym c.step-item.is) in
    (λ e. Contains-append_right c.args.part.now.local (map clause_of xs) [] (subst (Contains (map clause_of xs)) empty there), λ h. refl)

pub returns : goal.returns
returns c =
    let local : List (List Lit) = c.args.part.now.local in
    let xs = c.args.steps.now in
    let No : List Lit → Type 0 = λ l. l ≢ [] in
    let None : Step → Type 0 = λ s. s.clause ≢ [] in
    let all = all_done None xs c.loop-step.step-index (omega arith) c.loop-step.invariant.1 in (
      λ e. absurd (let h : false ≡ true = e in cc),
      λ h. elim (Contains-append_cases local (map clause_of xs) [] h) [
        | inl here ↦ absurd (All-contains No local [] c.loop-step.invariant.0 here refl)
        | inr later ↦ let m = map_has clause_of xs [] later in absurd (All-contains None xs m.0 all m.1 (sym m.2))
      ],
    )
