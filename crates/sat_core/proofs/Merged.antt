-- Whether a clause has each literal of another one, both in the order of their variables.
use Rattle.std.proofs.Common.{◌≡◌, ◌<◌, ◌≤◌, ◌+◌, ◌⊎◌, ◌∙◌, ℕ, List, length, get_or, arith, ap, inl, inr, subst, sym}
use Rattle.std.proofs.lemmas.Bool.{cases_lt}
use Rattle.std.proofs.lemmas.List.{get_or_default}
use Rattle.std.proofs.lemmas.List.Elements.{Contains-get_or}
use Rattle.std.specs.List.{Contains}
use Rattle.cnf_core.specs.declared.literal.Lit.{Lit}
use Rattle.cnf_core.specs.Literal.{IsClause}
use Rattle.refutation_check.specs.Chain.{Subsumes}

-- the clause has the first so many literals of the other one, and what stands before this place in it has lower variables than the rest of them
pub record HasFirst (lits others : List Lit) (n at : ℕ) : Type 0 where
  pub within : at ≤ length lits
  pub has : (k : ℕ) (d : Lit) → k < n → Contains lits (get_or others k d)
  pub passed : (i m : ℕ) (d e : Lit) → i < at → n ≤ m → m < length others → (get_or lits i d).var < (get_or others m e).var

pub has_none : (lits others : List Lit) → HasFirst lits others 0 0
has_none lits others = record { within = omega arith; has = λ k d h. absurd (omega arith); passed = λ i m d e h. absurd (omega arith) }

pub has_all : (lits others : List Lit) (n at : ℕ) → HasFirst lits others n at → length others ≤ n → Subsumes others lits
has_all lits others n at first all k d h = first.has k d (omega (arith, h, all))

-- the literals from one place up to another have lower variables, and so has the next one
pub below_more : (lits : List Lit) (from at var : ℕ) (x : Lit) → at < length lits → ((i : ℕ) (d : Lit) → from ≤ i → i < at → (get_or lits i d).var < var) → (get_or lits at x).var < var → (i : ℕ) (d : Lit) → from ≤ i → i < at + 1 → (get_or lits i d).var < var
below_more lits from at var x in' was here i d le h =
    elim (cases_lt i at) [
      | inl before ↦ was i d le before
      | inr last ↦
          let read : (get_or lits i d).var ≡ (get_or lits at x).var = ap (λ (k : ℕ). (get_or lits k d).var) (omega (arith, h, last)) ∙ ap (λ (l : Lit). l.var) (get_or_default lits at d x in') in
          omega (arith, read, here)
    ]

-- the next literal is looked for from there on
module _ (lits others : List Lit) (clause : IsClause lits) (other_clause : IsClause others) (n at place : ℕ) (x : Lit) (in' : n < length others) (first : HasFirst lits others n at) (top : place ≤ length lits) (later : at ≤ place)
    (below : (i : ℕ) (d : Lit) → at ≤ i → i < place → (get_or lits i d).var < (get_or others n x).var) where
  lower : (i m : ℕ) (d e : Lit) → i < place → n ≤ m → m < length others → (get_or lits i d).var < (get_or others m e).var
  lower i m d e h le up =
      elim (cases_lt i at) [
        | inl before ↦ first.passed i m d e before le up
        | inr behind ↦
            let here : (get_or lits i d).var < (get_or others n x).var = below i d behind h in
            elim (cases_lt n m) [
              | inl more ↦ let rise : (get_or others n x).var < (get_or others m x).var = other_clause.rising n m x more up in omega (arith, here, rise, ap (λ (l : Lit). l.var) (get_or_default others m x e up))
              | inr same ↦ let is : m ≡ n = omega (arith, le, same) in omega (arith, here, ap (λ (k : ℕ). (get_or others k x).var) is, ap (λ (l : Lit). l.var) (get_or_default others m x e up))
            ]
      ]

  pub has_next : (d : Lit) → place < length lits → get_or lits place d ≡ get_or others n x → HasFirst lits others (n + 1) place
  has_next d within is =
      record {
        within = top;
        has = λ k e h. elim (cases_lt k n) [
          | inl before ↦ first.has k e before
          | inr last ↦
              let same : k ≡ n = omega (arith, h, last) in
              let there : get_or others n x ≡ get_or others k e = ap (λ (j : ℕ). get_or others j x) (sym same) ∙ get_or_default others k x e (omega (arith, in', same)) in
              subst (Contains lits) (is ∙ there) (Contains-get_or lits place d within)
        ];
        passed = λ i m d e h le up. lower i m d e h (omega (arith, le)) up;
      }

  -- it is nowhere in the clause
  pub has_not : ((d : Lit) → place < length lits → (get_or others n x).var ≤ (get_or lits place d).var) → (place ≡ length lits) ⊎ ((d : Lit) → get_or lits place d ≡ get_or others n x → ⊥) → Subsumes others lits → ⊥
  has_not high differs all =
      let there = all n x in' in
      let k : ℕ = there.0 in
      let l : Lit = get_or others n x in
      let is : get_or lits k l ≡ l = there.2 in
      let var : (get_or lits k l).var ≡ l.var = ap (λ (y : Lit). y.var) is in
      elim (cases_lt k place) [
        | inl before ↦ omega (arith, lower k n l x before (omega arith) in', var)
        | inr behind ↦ elim differs [
          | inl end ↦ omega (arith, there.1, behind, end)
          | inr other ↦ elim (cases_lt place k) [
            | inl above ↦
                let rise : (get_or lits place l).var < (get_or lits k l).var = clause.rising place k l above there.1 in
                omega (arith, high l (omega (arith, above, there.1)), rise, var)
            | inr same ↦ other l (ap (λ (j : ℕ). get_or lits j l) (omega (arith, behind, same)) ∙ is)
          ]
        ]
      ]
