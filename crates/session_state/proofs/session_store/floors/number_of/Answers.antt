use Rattle.std.proofs.Common.{◌≡◌, ◌≢◌, ◌<◌, ◌+◌, ◌≤◌, ℕ, List, Some, All, take, length, get_or, bytes_eq, refl, sym, ap, subst, ◌∙◌, arith, true≢false}
use Rattle.std.proofs.lemmas.Option.{slice_get-get_or}
use Rattle.std.proofs.lemmas.List.{take_all}
use Rattle.std.proofs.lemmas.Slice.Eq.{bytes_eq-Decides}
use Rattle.tuple_core.proofs.Steps.{all_step}
use Rattle.session_state.proofs.session_store.floors.number_of.Goals as goal

pub returns-then-eq : goal.returns-then-eq
returns-then-eq c =
    let equal : c.numbers.result.now ≡ c.numbers-in-loop-number.result.now = (bytes_eq-Decides _ _).0 (sym c.if-eq.ensures) in
    let same : c.index-floors-number.result ≡ c.args.floor.now = sym c.numbers.ensures.value ∙ equal ∙ c.numbers-in-loop-number.ensures.value in
    slice_get-get_or c.args.floors.now c.loop-number.number c.index-floors-number.result c.loop-number-test.true ∙ ap Some (sym c.index-floors-number.is ∙ same)

pub loop-number-preserved : goal.loop-number-preserved
loop-number-preserved c =
    let other : c.index-floors-number.result ≢ c.args.floor.now = λ same. true≢false (
    sym ((bytes_eq-Decides c.numbers.result.now c.numbers-in-loop-number.result.now).1 (c.numbers.ensures.value ∙ same ∙ sym c.numbers-in-loop-number.ensures.value)) ∙ sym c.if-eq.ensures) in
    all_step (λ (f : List ℕ). f ≢ c.args.floor.now) c.args.floors.now c.loop-number.number c.index-floors-number.result c.loop-number-test.true c.index-floors-number.is c.loop-number.invariant other

pub returns : goal.returns
returns c =
    let past : length c.args.floors.now ≤ c.loop-number.number = omega (arith, c.loop-number-test.false) in
    subst (All (λ (f : List ℕ). f ≢ c.args.floor.now)) (take_all c.loop-number.number c.args.floors.now past) c.loop-number.invariant
