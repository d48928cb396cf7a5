-- What lists with the same literals share.
use Rattle.std.proofs.Common.{◌≡◌, ℕ, Bool, true, false, not, cond, List, get_or, All, sym, ◌∙◌, ap, inl, inr, refl}
use Rattle.std.proofs.lemmas.Bool.{cases_Bool}
use Rattle.std.proofs.lemmas.List.Elements.{All-contains, Contains-get_or}
use Rattle.std.proofs.lemmas.List.Folds.{list_any_at, Any-from_list_any}
use Rattle.std.specs.List.{Contains}
use Rattle.cnf_core.specs.declared.literal.Lit.{Lit}
use Rattle.cnf_core.specs.Literal.{negation_of, IsTautology, HasSameLiterals}
use Rattle.cnf_core.specs.Valuation.{literal_value, clause_value}

-- what all literals of the one meet, those of the other do
pub All-same : (P : Lit → Type 0) (lits others : List Lit) → HasSameLiterals lits others → All P lits → All P others
All-same P lits others same all k d h = All-contains P lits (get_or others k d) all ((same (get_or others k d)).1 (Contains-get_or others k d h))

-- a literal that is true makes a clause true
pub clause_value-true : (v : ℕ → Bool) (lits : List Lit) (l : Lit) → Contains lits l → literal_value v l ≡ true → clause_value v lits ≡ true
clause_value-true v lits l (k, h, is) t = list_any_at (literal_value v) lits k l h (ap (literal_value v) is ∙ t)

true_there : (v : ℕ → Bool) (lits others : List Lit) → HasSameLiterals lits others → clause_value v lits ≡ true → clause_value v others ≡ true
true_there v lits others same t =
    let some = Any-from_list_any (literal_value v) lits t in
    clause_value-true v others some.1 ((same some.1).0 (some.0, some.2, some.3)) some.4

HasSameLiterals-sym : (lits others : List Lit) → HasSameLiterals lits others → HasSameLiterals others lits
HasSameLiterals-sym lits others same l = ((same l).1, (same l).0)

both_ways : (a b : Bool) → (a ≡ true → b ≡ true) → (b ≡ true → a ≡ true) → a ≡ b
both_ways true b f g = sym (f refl)
both_ways false true f g = g refl
both_ways false false f g = refl

-- each valuation makes the same of both
pub clause_value-same : (v : ℕ → Bool) (lits others : List Lit) → HasSameLiterals lits others → clause_value v lits ≡ clause_value v others
clause_value-same v lits others same =
    both_ways (clause_value v lits) (clause_value v others) (true_there v lits others same) (true_there v others lits (HasSameLiterals-sym lits others same))

one_of_two : (p b : Bool) → cond p b (not b) ≡ false → cond (not p) b (not b) ≡ true
one_of_two true true h = cc
one_of_two true false h = refl
one_of_two false true h = refl
one_of_two false false h = cc

-- each valuation makes a tautology true
pub clause_value-tautology : (v : ℕ → Bool) (lits : List Lit) → IsTautology lits → clause_value v lits ≡ true
clause_value-tautology v lits (l, here, there) =
    elim (cases_Bool (literal_value v l)) [
      | inl t ↦ clause_value-true v lits l here t
      | inr f ↦ clause_value-true v lits (negation_of l) there (one_of_two l.positive (v l.var) f)
    ]
