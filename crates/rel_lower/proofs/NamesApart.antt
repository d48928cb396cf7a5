-- Relations of different names.
use Rattle.std.proofs.Common.{◌≡◌, ◌≢◌, ℕ, ◌+◌, ◌<◌, ◌≤◌, List, [], ◌∷◌, ◌++◌, length, take, get_or, All, AllPairs, sym, ◌∙◌, subst, arith}
use Rattle.std.proofs.lemmas.List.{take_more, take_all, get_or-take, get_or_default, length-take}
use Rattle.std.proofs.lemmas.List.Quantifiers.{all_pairs_push}
use Rattle.rel_formula.specs.declared.problem.Relation.{Relation}

abbrev pub Apart : Relation → Relation → Type 0
Apart r s = r.name ≢ s.name

module _ (rs : List Relation) (k : ℕ) (r : Relation) (l : k < length rs) where
  -- one more
  pub apart_more : AllPairs Apart (take k rs) → All (λ x. x.name ≢ (get_or rs k r).name) (take k rs) → AllPairs Apart (take (k + 1) rs)
  apart_more h none = subst (AllPairs Apart) (sym (take_more rs k r l)) (all_pairs_push Apart (take k rs) (get_or rs k r) h none)

  -- those of different names have none of its name before it
  pub none_before : AllPairs Apart rs → All (λ x. x.name ≢ (get_or rs k r).name) (take k rs)
  none_before h i d low =
      let below : i < k = omega (arith, low, length-take k rs) in
      subst (λ x. Apart x (get_or rs k r)) (get_or_default rs i r d (omega (arith, below, l)) ∙ sym (get_or-take k rs i d below)) (h i k r below l)

-- all
pub apart_all : (rs : List Relation) (k : ℕ) → length rs ≤ k → AllPairs Apart (take k rs) → AllPairs Apart rs
apart_all rs k l h = subst (AllPairs Apart) (take_all k rs l) h
