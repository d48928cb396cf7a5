-- How much fits behind a pool.
use Rattle.std.proofs.Common.{◌≡◌, ◌<◌, ◌≤◌, ◌⊎◌, ◌+◌, ◌-◌, ◌++◌, [], ◌∷◌, ℕ, zero, suc, List, All, length, map, get_or, take, min, arith, sym, ◌∙◌, ap, inl, inr, refl, subst, length-append, append-nil}
use Rattle.std.proofs.lemmas.Bool.{cases_lt}
use Rattle.std.proofs.lemmas.Grind.{flat_map-append}
use Rattle.std.proofs.lemmas.List.{length-map, length-take-le, take_more, take-map, take_all}
use Rattle.std.proofs.lemmas.List.Elements.{All-push}
use Rattle.std.proofs.lemmas.List.Sums.{sum_by-append, sum_by-cons, sum_by-take-le}
use Rattle.std.proofs.Math.Seq.{take-append-add}
use Rattle.std.specs.Prelude.{sum_by}
use Rattle.refutation_check.specs.declared.log.Step.{Step}
use Rattle.refutation_check.specs.Lift.{lifted, lifted_hint}
use Rattle.clause_pool.specs.Limits.{numbers_in, IsWithinLimits, IsLongestFit}
use Rattle.clause_pool.specs.Pooled.{steps_of, IsCounted}

-- the literals and hints of one step
abbrev pub size_of : Step → ℕ
size_of s = length s.clause + length s.hints

numbers_append : (steps more : List Step) → numbers_in (steps ++ more) ≡ numbers_in steps + numbers_in more
numbers_append steps more = sum_by-append size_of steps more

-- one step more
pub numbers_more : (steps : List Step) (i : ℕ) (d : Step) → i < length steps → numbers_in (take (i + 1) steps) ≡ numbers_in (take i steps) + size_of (get_or steps i d)
numbers_more steps i d h =
    ap numbers_in (take_more steps i d h) ∙ (numbers_append (take i steps) (get_or steps i d ∷ []) ∙ omega (arith, sum_by-cons size_of (get_or steps i d) []))

take_within : {X : Type 0} (xs : List X) (n m : ℕ) → n ≤ m → take n (take m xs) ≡ take n xs
take_within [] zero m h = refl
take_within [] (suc n) zero h = absurd (omega arith)
take_within [] (suc n) (suc m) h = refl
take_within (x ∷ xs) zero m h = refl
take_within (x ∷ xs) (suc n) zero h = absurd (omega arith)
take_within (x ∷ xs) (suc n) (suc m) h = ap (λ (ys : List _). x ∷ ys) (take_within xs n m (omega arith))

numbers_rise : (steps : List Step) (n m : ℕ) → n ≤ m → numbers_in (take n steps) ≤ numbers_in (take m steps)
numbers_rise steps n m h = subst (λ (ys : List Step). numbers_in ys ≤ numbers_in (take m steps)) (take_within steps n m h) (sum_by-take-le size_of (take m steps) n)

module _ (pool steps : List Step) (n : ℕ) where
  pub fits_here : n ≤ length steps → length pool + n ≤ 20000 → numbers_in pool + numbers_in (take n steps) ≤ 2000000 → IsWithinLimits (pool ++ take n steps)
  fits_here within few_steps few_numbers =
      record {
        few_steps = omega (arith, length-append pool (take n steps), length-take-le n steps within);
        few_numbers = omega (arith, numbers_append pool (take n steps));
      }

  -- all of them fit
  pub all_fit : n ≡ length steps → length pool + n ≤ 20000 → numbers_in pool + numbers_in (take n steps) ≤ 2000000 → IsLongestFit pool steps n
  all_fit all few_steps few_numbers =
      record {
        in_range = omega arith;
        fits = fits_here (omega arith) few_steps few_numbers;
        longest = λ more within fits. omega arith;
      }

  -- the next one doesn't fit
  pub next_is_too_much : (d : Step) → n < length steps → length pool + n ≤ 20000 → numbers_in pool + numbers_in (take n steps) ≤ 2000000 →
      (length pool + n ≡ 20000) ⊎ (2000000 < numbers_in pool + numbers_in (take n steps) + size_of (get_or steps n d)) → IsLongestFit pool steps n
  next_is_too_much d before few_steps few_numbers full =
      record {
        in_range = omega arith;
        fits = fits_here (omega arith) few_steps few_numbers;
        longest = λ more within fits. elim (cases_lt n more) [
          | inr ge ↦ ge
          | inl lt ↦
              let long : length (pool ++ take more steps) ≡ length pool + more = omega (arith, length-append pool (take more steps), length-take-le more steps within) in
              let total : numbers_in (pool ++ take more steps) ≡ numbers_in pool + numbers_in (take more steps) = numbers_append pool (take more steps) in
              let up : numbers_in (take (n + 1) steps) ≤ numbers_in (take more steps) = numbers_rise steps (n + 1) more (omega arith) in
              let next : numbers_in (take (n + 1) steps) ≡ numbers_in (take n steps) + size_of (get_or steps n d) = numbers_more steps n d before in
              elim full [
                | inl steps_full ↦ absurd (omega (arith, fits.few_steps))
                | inr numbers_full ↦ absurd (omega (arith, fits.few_numbers))
              ]
        ];
      }

-- one number is the longest fit
pub one_longest : (pool steps : List Step) (n m : ℕ) → IsLongestFit pool steps n → IsLongestFit pool steps m → n ≡ m
one_longest pool steps n m first second =
    let below : n ≤ m = second.longest n first.in_range first.fits in
    let above : m ≤ n = first.longest m second.in_range second.fits in
    omega arith

-- ---- steps with other hints

module _ (base added : ℕ) where
  lifted_numbers : (steps : List Step) → numbers_in (lifted base added steps) ≡ numbers_in steps
  lifted_numbers [] = refl
  lifted_numbers (s ∷ steps) =
      let new : Step = record { clause = s.clause; hints = map (lifted_hint base added) s.hints } in
      let as_many : length (map (lifted_hint base added) s.hints) ≡ length s.hints = length-map s.hints (lifted_hint base added) in
      let same : size_of new ≡ size_of s = ap (λ (n : ℕ). length s.clause + n) as_many in
      sum_by-cons size_of new (lifted base added steps) ∙ (omega (arith, same, lifted_numbers steps) ∙ sym (sum_by-cons size_of s steps))

  pub lifted_long : (steps : List Step) → length (lifted base added steps) ≡ length steps
  lifted_long steps = length-map steps (λ (s : Step). record { clause = s.clause; hints = map (lifted_hint base added) s.hints })

  pub lifted_take : (n : ℕ) (steps : List Step) → take n (lifted base added steps) ≡ lifted base added (take n steps)
  lifted_take n steps = take-map (λ (s : Step). record { clause = s.clause; hints = map (lifted_hint base added) s.hints }) n steps

  take_numbers : (n : ℕ) (steps : List Step) → numbers_in (take n (lifted base added steps)) ≡ numbers_in (take n steps)
  take_numbers n steps = ap numbers_in (lifted_take n steps) ∙ lifted_numbers (take n steps)

  take_long : (n : ℕ) (steps : List Step) → length (take n (lifted base added steps)) ≡ length (take n steps)
  take_long n steps = ap length (lifted_take n steps) ∙ lifted_long (take n steps)

  module _ (pool steps : List Step) (n : ℕ) where
    same_long : length (pool ++ take n (lifted base added steps)) ≡ length (pool ++ take n steps)
    same_long = omega (arith, length-append pool (take n (lifted base added steps)), length-append pool (take n steps), take_long n steps)

    same_numbers : numbers_in (pool ++ take n (lifted base added steps)) ≡ numbers_in (pool ++ take n steps)
    same_numbers = omega (arith, numbers_append pool (take n (lifted base added steps)), numbers_append pool (take n steps), take_numbers n steps)

    lifted_within : IsWithinLimits (pool ++ take n steps) → IsWithinLimits (pool ++ take n (lifted base added steps))
    lifted_within fits = record { few_steps = omega (arith, same_long, fits.few_steps); few_numbers = omega (arith, same_numbers, fits.few_numbers) }

    within_before : IsWithinLimits (pool ++ take n (lifted base added steps)) → IsWithinLimits (pool ++ take n steps)
    within_before fits = record { few_steps = omega (arith, same_long, fits.few_steps); few_numbers = omega (arith, same_numbers, fits.few_numbers) }

  -- as many of the steps fit with raised hints
  pub lifted_longest : (pool steps : List Step) (n : ℕ) → IsLongestFit pool steps n → IsLongestFit pool (lifted base added steps) n
  lifted_longest pool steps n longest =
      record {
        in_range = omega (arith, longest.in_range, lifted_long steps);
        fits = lifted_within pool steps n longest.fits;
        longest = λ more within fits. longest.longest more (omega (arith, lifted_long steps)) (within_before pool steps more fits);
      }

  -- the counts of a pool behind which they come
  counted : (pool steps : List Step) (n : ℕ) → n ≤ length steps → (length (pool ++ take n (lifted base added steps)) ≡ length pool + n) × (numbers_in (pool ++ take n (lifted base added steps)) ≡ numbers_in pool + numbers_in (take n steps))
  counted pool steps n within = (
    omega (arith, same_long pool steps n, length-append pool (take n steps), length-take-le n steps within),
    omega (arith, same_numbers pool steps n, numbers_append pool (take n steps)),
  )

  pub counted_more : (pool steps : List Step) (n more old_steps old_numbers : ℕ) → IsCounted pool old_steps old_numbers → IsLongestFit pool steps n → more ≡ numbers_in (take n steps) →
      IsCounted (pool ++ take n (lifted base added steps)) (old_steps + n) (old_numbers + more)
  counted_more pool steps n more old_steps old_numbers was longest is =
      let both = counted pool steps n longest.in_range in
      record {
        steps_are = omega (arith, was.steps_are, both.0);
        numbers_are = omega (arith, was.numbers_are, both.1, is);
        limits = lifted_within pool steps n longest.fits;
      }

-- one more list
pub steps_one_more : (shared : List (List Step)) (log : List Step) → steps_of (shared ++ log ∷ []) ≡ steps_of shared ++ log
steps_one_more shared log = flat_map-append (λ (l : List Step). l) shared (log ∷ []) ∙ ap (λ (ys : List Step). steps_of shared ++ ys) (append-nil log)

-- copies of the first steps behind others, until there are so many
pub up_to_is : (to log front made : List Step) (n i : ℕ) → length to ≤ n → front ≡ take (n - length to) log → length front ≤ i → made ≡ to ++ take i front → made ≡ take n (to ++ log)
up_to_is to log front made n i few front_is all made_is =
    let n_is : length to + (n - length to) ≡ n = omega arith in
    made_is ∙ (ap (λ (ys : List Step). to ++ ys) (take_all i front all ∙ front_is) ∙
    (sym (take-append-add to log (n - length to)) ∙ ap (λ (m : ℕ). take m (to ++ log)) n_is))

-- the first of some steps, where so many are the longest fit
pub front_is : (pool steps front : List Step) (n : ℕ) → IsLongestFit pool steps n → front ≡ take n steps → (front ≡ take (length front) steps) × IsLongestFit pool steps (length front)
front_is pool steps front n longest is =
    let long : n ≡ length front = sym (ap length is ∙ length-take-le n steps longest.in_range) in
    (is ∙ ap (λ (m : ℕ). take m steps) long, subst (IsLongestFit pool steps) long longest)

-- what holds of the first elements and of the next one
pub all_more : {X : Type 0} (P : X → Type 0) (xs : List X) (i : ℕ) (d : X) → i < length xs → All P (take i xs) → P (get_or xs i d) → All P (take (i + 1) xs)
all_more P xs i d h was here = subst (All P) (sym (take_more xs i d h)) (All-push P (take i xs) (get_or xs i d) was here)
