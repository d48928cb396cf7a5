-- What a loop keeps that goes through the cells and takes those that a scenario can be given.
use Rattle.std.proofs.Common.{◌≡◌, ℕ, ◌+◌, ◌<◌, ◌≤◌, ◌↔◌, ◌⊎◌, inl, inr, List, [], ◌∷◌, ◌++◌, length, get_or, Contains, AllPairs, refl, subst, arith}
use Rattle.std.proofs.lemmas.Bool.{cases_lt}
use Rattle.std.proofs.lemmas.List.Quantifiers.{all_pairs_push}
use Rattle.std.proofs.lemmas.List.Elements.{Contains-append_left, Contains-push, Contains-push_cases, Contains-get_or}
use Rattle.rel_formula.specs.Bounds.{Bounded, cells_of}
use Rattle.rel_formula.proofs.Lists.{pairs_nil}
use Rattle.rel_formula.proofs.OpenCells.{cons_first}
use Rattle.translation_rules.specs.Offers.{IsOffer, AreOffers}

-- of the first i cells, those that the scenario can be given, in order
pub record Offered (p : Bounded) (scenario : List ℕ) (i : ℕ) (cells : List ℕ) : Type 0 where
  pub exactly : (cell : ℕ) → Contains cells cell ↔ ((cell < i) × IsOffer p scenario cell)
  pub rising : AllPairs (λ m n. m < n) cells

pub offered_none : (p : Bounded) (scenario : List ℕ) → Offered p scenario 0 []
offered_none p scenario = record {
  exactly = λ cell. (λ c. absurd (let l = c.1 in omega arith), λ h. absurd (let l = h.0 in omega arith));
  rising = pairs_nil (λ m n. m < n);
}

module _ (p : Bounded) (scenario : List ℕ) (i : ℕ) (cells : List ℕ) (before : Offered p scenario i cells) where
  pub offered_no : (IsOffer p scenario i → ⊥) → Offered p scenario (i + 1) cells
  offered_no none = record {
    exactly = λ cell. (
      λ c. let h = (before.exactly cell).0 c in (omega arith, h.1),
      λ h. elim (cases_lt cell i) [
        | inl less ↦ (before.exactly cell).1 (less, h.1)
        | inr past ↦ let same : cell ≡ i = (let l = h.0 in omega arith) in absurd (none (subst (IsOffer p scenario) same h.1))
      ],
    );
    rising = before.rising;
  }

  pub offered_yes : IsOffer p scenario i → Offered p scenario (i + 1) (cells ++ i ∷ [])
  offered_yes is = record {
    exactly = λ cell. (
      λ c. elim (Contains-push_cases cells i cell c) [
        | inl old ↦ let h = (before.exactly cell).0 old in (omega arith, h.1)
        | inr same ↦ (omega arith, subst (IsOffer p scenario) same is)
      ],
      λ h. elim (cases_lt cell i) [
        | inl less ↦ Contains-append_left cells (i ∷ []) cell ((before.exactly cell).1 (less, h.1))
        | inr past ↦ let same : i ≡ cell = (let l = h.0 in omega arith) in subst (Contains (cells ++ i ∷ [])) same (Contains-push cells i)
      ],
    );
    rising = all_pairs_push (λ m n. m < n) cells i before.rising (λ k d l. ((before.exactly (get_or cells k d)).0 (Contains-get_or cells k d l)).0);
  }

  pub offered_all : i ≡ length (cells_of p) → AreOffers p scenario cells
  offered_all all = record {
    exactly = λ cell. (
      λ c. ((before.exactly cell).0 c).1,
      λ is. (before.exactly cell).1 (let l = is.in_range in omega arith, is),
    );
    rising = before.rising;
  }

-- a list that isn't empty has something
pub some_of : {X : Type 0} (xs : List X) → (length xs ≡ 0 → ⊥) → (x : X) × Contains xs x
some_of [] h = absurd (h refl)
some_of (x ∷ xs) h = (x, cons_first x xs)
