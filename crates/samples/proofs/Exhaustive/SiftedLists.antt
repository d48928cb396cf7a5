-- What a loop keeps that goes through a list and takes what passes.
use Rattle.std.proofs.Common.{◌≡◌, ◌≢◌, ℕ, ◌+◌, ◌<◌, ◌≤◌, ◌↔◌, inl, inr, List, [], ◌∷◌, ◌++◌, length, get_or, take, Contains, AllPairs, sym, ◌∙◌, subst, arith}
use Rattle.std.proofs.lemmas.List.{length-take-le, get_or-take, take_all, get_or_default, length_push}
use Rattle.std.proofs.lemmas.List.Quantifiers.{all_pairs_push}
use Rattle.std.proofs.lemmas.List.Elements.{Contains-append_left, Contains-push, Contains-push_cases, Contains-get_or}
use Rattle.rel_formula.proofs.Lists.{pairs_nil, take_last}

-- of the first i elements, out has those at which P holds, each once
pub record Sifted {X : Type 0} (xs : List X) (P : X → Type 0) (i : ℕ) (out : List X) : Type 0 where
  pub has : (x : X) → Contains out x ↔ (Contains (take i xs) x × P x)
  pub once : AllPairs (λ x y. x ≢ y) out
  pub short : length out ≤ i

pub sifted_none : {X : Type 0} (xs : List X) (P : X → Type 0) → Sifted xs P 0 []
sifted_none xs P = record {
  has = λ x. (λ c. absurd (let l = c.1 in omega arith), λ h. absurd (let c = h.0 in let l = c.1 in omega arith));
  once = pairs_nil (λ x y. x ≢ y);
  short = omega arith;
}

module _ {X : Type 0} (xs : List X) (i : ℕ) (l : i < length xs) where
  grows : (y : X) → Contains (take i xs) y → Contains (take (i + 1) xs) y
  grows y c =
      let short = length-take-le i xs (omega arith) in
      let long = length-take-le (i + 1) xs (omega arith) in
      let h = c.1 in
      (c.0, omega arith, get_or-take (i + 1) xs c.0 y (omega arith) ∙ sym (get_or-take i xs c.0 y (omega arith)) ∙ c.2)

  newest : (x : X) → x ≡ get_or xs i x → Contains (take (i + 1) xs) x
  newest x e = (i, (let h = length-take-le (i + 1) xs (omega arith) in omega arith), get_or-take (i + 1) xs i x (omega arith) ∙ sym e)

  module _ (P : X → Type 0) (x : X) (e : x ≡ get_or xs i x) (out : List X) (before : Sifted xs P i out) where
    pub sifted_no : (P x → ⊥) → Sifted xs P (i + 1) out
    sifted_no none = record {
      has = λ y. (
        λ c. let h = (before.has y).0 c in (grows y h.0, h.1),
        λ h. elim (take_last xs i y l h.0) [
          | inl old ↦ (before.has y).1 (old, h.1)
          | inr same ↦ absurd (none (subst P (sym (e ∙ get_or_default xs i x y l ∙ same)) h.1))
        ],
      );
      once = before.once;
      short = let h = before.short in omega arith;
    }

    pub sifted_yes : AllPairs (λ x y. x ≢ y) xs → P x → Sifted xs P (i + 1) (out ++ x ∷ [])
    sifted_yes distinct passes = record {
      has = λ y. (
        λ c. elim (Contains-push_cases out x y c) [
          | inl old ↦ let h = (before.has y).0 old in (grows y h.0, h.1)
          | inr same ↦ (subst (Contains (take (i + 1) xs)) same (newest x e), subst P same passes)
        ],
        λ h. elim (take_last xs i y l h.0) [
          | inl old ↦ Contains-append_left out (x ∷ []) y ((before.has y).1 (old, h.1))
          | inr same ↦ subst (Contains (out ++ x ∷ [])) (e ∙ get_or_default xs i x y l ∙ same) (Contains-push out x)
        ],
      );
      once = all_pairs_push (λ x y. x ≢ y) out x before.once (λ k d m same.
          let c = ((before.has (get_or out k d)).0 (Contains-get_or out k d m)).0 in
          let short = length-take-le i xs (omega arith) in
          let h = c.1 in
          let at : get_or xs c.0 (get_or out k d) ≡ get_or out k d = sym (get_or-take i xs c.0 (get_or out k d) (omega arith)) ∙ c.2 in
          distinct c.0 i (get_or out k d) (omega arith) l (at ∙ same ∙ e ∙ get_or_default xs i x (get_or out k d) l));
      short = let h = before.short in let g = length_push out x in omega arith;
    }

pub sifted_all : {X : Type 0} (xs : List X) (P : X → Type 0) (i : ℕ) (out : List X) → length xs ≤ i → Sifted xs P i out → (x : X) → Contains out x ↔ (Contains xs x × P x)
sifted_all {X} xs P i out l s x = subst (λ (ys : List X). Contains out x ↔ (Contains ys x × P x)) (take_all i xs l) (s.has x)
