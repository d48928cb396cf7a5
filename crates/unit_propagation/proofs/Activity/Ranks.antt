-- What a heap is by the ranks at its places, and what an exchange of two places leaves of it.
use Rattle.std.proofs.Common.{◌≡◌, ◌<◌, ◌≤◌, ◌+◌, ◌-◌, ◌*◌, ◌/◌, ◌^◌, ℕ, zero, suc, List, arith, ap, ◌∙◌, inl, inr}
use Rattle.std.proofs.lemmas.Bool.{cases_eq, cases_lt}
use Rattle.std.proofs.lemmas.List.Edits.{Swapped}
use Rattle.unit_propagation.specs.Activity.OrderState.{IsBefore, activity_of}
use Rattle.unit_propagation.specs.Activity.Heap.{rank, IsBelow, IsRankedFrom, IsRising, IsSinking, IsTopBelow}

-- the place above, of the greater rank, is exchanged with the one that rises
pub rising_step : (count at above : ℕ) (f g : ℕ → ℕ) → IsRising count at f → IsBelow above at → at < count → f above ≤ f at → Swapped f g at above → IsRising count above g
rising_step count at above f g was over in' less sw = record {
  others = λ i j h ne below. elim (cases_eq j at) [
    | inl e ↦
        let same : i ≡ above = omega (arith, below.0, below.1, over.0, over.1) in
        let gj : g j ≡ f above = ap g e ∙ sw.0 in
        let gi : g i ≡ f at = ap g same ∙ sw.1 in
        omega arith
    | inr nj ↦
        let gj : g j ≡ f j = sw.2 j nj ne in
        elim (cases_eq i at) [
          | inl e ↦
              let gi : g i ≡ f above = ap g e ∙ sw.0 in
              let low : f j ≤ f above = was.past above j h over (omega (arith, below.0), omega (arith, below.1)) in
              omega arith
          | inr ni ↦ elim (cases_eq i above) [
            | inl e ↦
                let gi : g i ≡ f at = ap g e ∙ sw.1 in
                let low : f j ≤ f above = was.others above j h nj (omega (arith, below.0), omega (arith, below.1)) in
                omega arith
            | inr na ↦
                let gi : g i ≡ f i = sw.2 i ni na in
                let low : f j ≤ f i = was.others i j h nj below in
                omega arith
          ]
        ]
  ];
  past = λ i j h here below.
      let gi : g i ≡ f i = sw.2 i (λ e. omega (arith, e, here.0, over.0)) (λ e. omega (arith, e, here.0)) in
      let high : f above ≤ f i = was.others i above (omega (arith, over.0)) (λ e. omega (arith, e, over.0)) here in
      elim (cases_eq j at) [
        | inl e ↦
            let gj : g j ≡ f above = ap g e ∙ sw.0 in
            omega arith
        | inr nj ↦
            let gj : g j ≡ f j = sw.2 j nj (λ e. omega (arith, e, below.0)) in
            let low : f j ≤ f above = was.others above j h nj below in
            omega arith
      ];
}

pub rising_end : (count at : ℕ) (f : ℕ → ℕ) → IsRising count at f → ((i : ℕ) → IsBelow i at → f at ≤ f i) → IsRankedFrom 0 count f
rising_end count at f was high i j from h below = elim (cases_eq j at) [
  | inl e ↦
      let same : f j ≡ f at = ap f e in
      let low : f at ≤ f i = high i (omega (arith, e, below.0), omega (arith, e, below.1)) in
      omega arith
  | inr ne ↦ was.others i j h ne below
]

-- the greater of the places below is exchanged with the one that sinks
pub sinking_step : (from count at below : ℕ) (f g : ℕ → ℕ) → IsSinking from count at f → from ≤ at → IsTopBelow count at f below → f at ≤ f below → Swapped f g at below → IsSinking from count below g
sinking_step from count at below f g was low top less sw =
    let here = top.is_below in
    record {
      others = λ i j in' h ne under. elim (cases_eq i at) [
        | inl e ↦
            let gi : g i ≡ f below = ap g e ∙ sw.0 in
            elim (cases_eq j below) [
              | inl e' ↦
                  let gj : g j ≡ f at = ap g e' ∙ sw.1 in
                  omega arith
              | inr nj ↦
                  let gj : g j ≡ f j = sw.2 j (λ e'. omega (arith, e, e', under.0)) nj in
                  let best : f j ≤ f below = top.top j h (omega (arith, e, under.0), omega (arith, e, under.1)) in
                  omega arith
            ]
        | inr ni ↦
            let gi : g i ≡ f i = sw.2 i ni ne in
            elim (cases_eq j at) [
              | inl e ↦
                  let gj : g j ≡ f below = ap g e ∙ sw.0 in
                  let high : f below ≤ f i = was.past i below in' top.in_range (omega (arith, e, under.0), omega (arith, e, under.1)) here in
                  omega arith
              | inr nj ↦
                  let gj : g j ≡ f j = sw.2 j nj (λ e. ni (omega (arith, e, under.0, under.1, here.0, here.1))) in
                  let high : f j ≤ f i = was.others i j in' h ni under in
                  omega arith
            ]
      ];
      past = λ i j in' h over under.
          let same : i ≡ at = omega (arith, over.0, over.1, here.0, here.1) in
          let gi : g i ≡ f below = ap g same ∙ sw.0 in
          let gj : g j ≡ f j = sw.2 j (λ e. omega (arith, e, under.0, here.0)) (λ e. omega (arith, e, under.0)) in
          let high : f j ≤ f below = was.others below j (omega (arith, here.0)) h (λ e. omega (arith, e, here.0)) under in
          omega arith;
    }

pub sinking_start : (from count : ℕ) (f : ℕ → ℕ) → IsRankedFrom (from + 1) count f → IsSinking from count from f
sinking_start from count f was = record {
  others = λ i j in' h ne below. was i j (omega arith) h below;
  past = λ i j in' h over below. absurd (omega (arith, over.0));
}

pub sinking_end : (from count at : ℕ) (f : ℕ → ℕ) → IsSinking from count at f → ((j : ℕ) → j < count → IsBelow at j → f j ≤ f at) → IsRankedFrom from count f
sinking_end from count at f was low i j in' h below = elim (cases_eq i at) [
  | inl e ↦
      let same : f i ≡ f at = ap f e in
      let here : f j ≤ f at = low j h (omega (arith, e, below.0), omega (arith, e, below.1)) in
      omega arith
  | inr ne ↦ was.others i j in' h ne below
]

-- no place has a greater rank than the first
pub top_rank : (count : ℕ) (f : ℕ → ℕ) → IsRankedFrom 0 count f → (n j : ℕ) → j ≤ n → j < count → f j ≤ f 0
top_rank count f was zero j le h = let same : f j ≡ f 0 = ap f (omega arith) in omega arith
top_rank count f was (suc n) j le h = elim (cases_eq j 0) [
  | inl e ↦ let same : f j ≡ f 0 = ap f e in omega arith
  | inr ne ↦
      let i : ℕ = (j - 1) / 2 in
      let low : 2 * i + 1 ≤ j = omega arith in
      let high : j ≤ 2 * i + 2 = omega arith in
      let here : f j ≤ f i = was i j (omega arith) h (low, high) in
      let above : f i ≤ f 0 = top_rank count f was n i (omega arith) (omega arith) in
      omega arith
]

-- of two variables, the one of the greater rank comes first
pub before_from_rank : (activities : List ℕ) (var other : ℕ) → var < 2 ^ 32 → other < 2 ^ 32 → (other ≡ var → ⊥) → rank activities other ≤ rank activities var → IsBefore activities var other
before_from_rank activities var other h k ne le = elim (cases_lt (activity_of activities other) (activity_of activities var)) [
  | inl less ↦ inl less
  | inr more ↦ inr (omega arith, omega arith)
]
