use Rattle.std.proofs.Common.{◌≡◌, ◌+◌, ◌≤◌, ◌∙◌, ◌++◌, ◌∷◌, [], ℕ, Bool, true, false, List, arith, ap, inl, inr, get_or, length, refl, length-append}
use mir.Val.{bool_byte}
use Rattle.std.proofs.lemmas.Bool.{cases_lt}
use Rattle.std.proofs.lemmas.List.{get_or_append_left, get_or_push}
use Rattle.std.specs.Prelude.{if◌then◌else◌}
use Rattle.refutation_check.specs.Renumbering.{kept_number}
use Rattle.sat_core.proofs.NeededSteps.{count_few, count_more}
use Rattle.sat_core.proofs.trimmed.numbers_of.Goals as goal

as_number : (b : Bool) → bool_byte b ≡ (if b then 1 else 0)
as_number true = refl
as_number false = refl

at_most_one : (b : Bool) → bool_byte b ≤ 1
at_most_one true = omega arith
at_most_one false = omega arith

pub overflow_add-number : goal.overflow_add-number
overflow_add-number c =
    let marks : List Bool = c.args.marks.now in
    let i : ℕ = c.loop-is_marked.is_marked-index in
    omega (arith, c.loop-is_marked.invariant.number, count_few marks i, c.from-number.ensures, at_most_one (get_or marks i false), c.loop-is_marked-test.true, c.requires)

pub loop-is_marked-preserved : goal.loop-is_marked-preserved
loop-is_marked-preserved c =
    let marks : List Bool = c.args.marks.now in
    let i : ℕ = c.loop-is_marked.is_marked-index in
    let was = c.loop-is_marked.invariant in
    let old : List ℕ = c.loop-is_marked.numbers.items in
    let new : List ℕ = c.push.new.self.items in
    let number : ℕ = c.loop-is_marked.number + c.from-number.result in
    let pushed : new ≡ old ++ number ∷ [] = c.in_ok-push.ensures.items in
    let count : number ≡ c.args.given + kept_number (i + 1) marks =
    omega (arith, was.number, c.from-number.ensures, as_number (get_or marks i false), count_more marks i (get_or marks i false) c.loop-is_marked-test.true refl) in
    record {
      as_many = omega (arith, ap length pushed, length-append old (number ∷ []), was.as_many);
      number = count;
      each = λ place h.
          ap (λ (ns : List ℕ). get_or ns place 0) pushed ∙ elim (cases_lt place i) [
            | inl before ↦ get_or_append_left old (number ∷ []) 0 place (omega (arith, was.as_many)) ∙ was.each place before
            | inr last ↦
                let is : place ≡ i = omega (arith, h, last) in
                get_or_push old number 0 place (omega (arith, is, was.as_many)) ∙ (count ∙ ap (λ (n : ℕ). c.args.given + kept_number n marks) (omega (arith, is)))
          ];
    }
