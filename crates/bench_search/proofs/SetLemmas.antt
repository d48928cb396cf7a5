-- Relations that are sets of the same atoms.
use Rattle.std.proofs.Common.{◌≡◌, ◌≢◌, ◌+◌, ◌≤◌, ◌++◌, [], ◌∷◌, ℕ, List, All, AllPairs, map, length, get_or, inl, inr, ap, arith}
use Rattle.std.proofs.lemmas.List.{length_push}
use Rattle.std.proofs.lemmas.List.Elements.{All-cons, All-nil, All-map, All-push}
use Rattle.std.proofs.lemmas.List.Quantifiers.{all_pairs_push}
use Rattle.tuple_core.specs.Rows.{Rows, IsRows}
use Rattle.rel_formula.specs.declared.problem.Relation.{Relation}
use Rattle.rel_formula.proofs.OneSetOfAtoms.{one_pair}
use Rattle.rel_formula.proofs.Unary.{IsSetOver, any_set, whole_set}
use Rattle.bench_search.specs.Sets.{IsSet}

pub sets_over : (atoms : Rows) (rs : List Relation) → IsRows atoms → atoms.arity ≡ 1 → All (IsSet atoms) rs → All (IsSetOver atoms) rs
sets_over atoms rs rows one each k d h =
    let r : Relation = get_or rs k d in
    let s = each k d h in
    elim s.lower [ inl none ↦ any_set atoms r s.arity none s.upper | inr all ↦ whole_set atoms r rows one all s.upper ]

pub ones_of : (atoms : Rows) (rs : List Relation) → All (IsSet atoms) rs → All (λ (n : ℕ). n ≡ 1) (map (λ (r : Relation). r.lower.arity) rs)
ones_of atoms rs each = All-map (λ (n : ℕ). n ≡ 1) (λ (r : Relation). r.lower.arity) rs (λ k d h. (each k d h).arity)

-- a first relation and so many sets, made one after the other, each with a name longer than those before
pub record Making (atoms : Rows) (made : ℕ) (rs : List Relation) : Type 0 where
  pub count : length rs ≡ made + 1
  pub short : All (λ (r : Relation). length r.name ≤ made) rs
  pub each : All (IsSet atoms) rs
  pub names : AllPairs (λ (r s : Relation). r.name ≢ s.name) rs

pub making_first : (atoms : Rows) (r : Relation) → length r.name ≡ 0 → IsSet atoms r → Making atoms 0 (r ∷ [])
making_first atoms r none is = record {
  count = omega arith;
  short = All-cons (λ (r : Relation). length r.name ≤ 0) r [] (omega arith) (All-nil (λ (r : Relation). length r.name ≤ 0));
  each = All-cons (IsSet atoms) r [] is (All-nil (IsSet atoms));
  names = one_pair (λ (r s : Relation). r.name ≢ s.name) r;
}

pub making_more : (atoms : Rows) (made : ℕ) (rs : List Relation) (r : Relation) → Making atoms made rs → length r.name ≡ made + 1 → IsSet atoms r → Making atoms (made + 1) (rs ++ r ∷ [])
making_more atoms made rs r making longer is = record {
  count = let e = making.count in omega (arith, length_push rs r);
  short = All-push (λ (s : Relation). length s.name ≤ made + 1) rs r (λ k d l. let h = making.short k d l in omega arith) (omega arith);
  each = All-push (IsSet atoms) rs r making.each is;
  names = all_pairs_push (λ (a b : Relation). a.name ≢ b.name) rs r making.names (λ k d l e. let h = making.short k d l in let same = ap length e in omega arith);
}
