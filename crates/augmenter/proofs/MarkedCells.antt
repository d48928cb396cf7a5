-- Lists of marked cells.
use Rattle.std.proofs.Common.{◌≡◌, ◌↔◌, inl, inr, ◌<◌, ◌+◌, ℕ, Bool, true, false, List, [], ◌∷◌, ◌++◌, ◌∙◌, ap, take, drop, length, get_or, AllPairs, Contains, IsTrue, sym, subst, arith}
use Rattle.std.proofs.Math.Seq.{take-append_seam}
use Rattle.std.proofs.lemmas.Bool.{cases_lt}
use Rattle.std.proofs.lemmas.List.Elements.{Contains-get_or, Contains-append_left, Contains-push, Contains-push_cases}
use Rattle.std.proofs.lemmas.List.Quantifiers.{all_pairs_push}

-- the cells are those below a number that are marked and outside the scenario, in order
pub record Listed (marks : List Bool) (scenario : List ℕ) (upto : ℕ) (cells : List ℕ) : Type 0 where
  pub exactly : (n : ℕ) → Contains cells n ↔ ((n < upto) × (Contains scenario n → ⊥) × IsTrue (get_or marks n false))
  pub rising : AllPairs (λ m n. m < n) cells

module _ (marks : List Bool) (scenario : List ℕ) (upto : ℕ) (cells : List ℕ) (listed : Listed marks scenario upto cells) where
  pub listed_in : (Contains scenario upto → ⊥) → get_or marks upto false ≡ true → Listed marks scenario (upto + 1) (cells ++ upto ∷ [])
  listed_in out marked = record {
    exactly = λ n. (
      λ c. elim (Contains-push_cases cells upto n c) [
        | inl old ↦ let is = (listed.exactly n).0 old in ((let l = is.0 in omega arith), is.1, is.2)
        | inr same ↦ (omega arith, subst (λ m. Contains scenario m → ⊥) same out, subst (λ m. get_or marks m false ≡ true) same marked)
      ],
      λ is. elim (cases_lt n upto) [
        | inl less ↦ Contains-append_left cells (upto ∷ []) n ((listed.exactly n).1 (less, is.1, is.2))
        | inr past ↦ let l = is.0 in let same : upto ≡ n = omega arith in subst (Contains (cells ++ upto ∷ [])) same (Contains-push cells upto)
      ],
    );
    rising = all_pairs_push (λ m n. m < n) cells upto listed.rising (λ k d l. ((listed.exactly (get_or cells k d)).0 (Contains-get_or cells k d l)).0);
  }

  pub listed_out : ((Contains scenario upto → ⊥) → get_or marks upto false ≡ true → ⊥) → Listed marks scenario (upto + 1) cells
  listed_out out = record {
    exactly = λ n. (
      λ c. let is = (listed.exactly n).0 c in ((let l = is.0 in omega arith), is.1, is.2),
      λ is. elim (cases_lt n upto) [
        | inl less ↦ (listed.exactly n).1 (less, is.1, is.2)
        | inr past ↦
            let l = is.0 in
            let same : n ≡ upto = omega arith in
            absurd (out (subst (λ m. Contains scenario m → ⊥) same is.1) (subst (λ m. get_or marks m false ≡ true) same is.2))
      ],
    );
    rising = listed.rising;
  }

-- marks that are written back whole
pub written_back : (new old : List Bool) (n : ℕ) → n ≡ length old → length new ≡ length old → take n (new ++ drop (length new) old) ≡ new
written_back new old n at same = ap (λ k. take k (new ++ drop (length new) old)) (at ∙ sym same) ∙ take-append_seam new (drop (length new) old)
