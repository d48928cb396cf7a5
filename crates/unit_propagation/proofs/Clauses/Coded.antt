-- Literals and their numbers.
use Rattle.std.proofs.Common.{◌≡◌, ◌<◌, ◌+◌, ◌*◌, ◌/◌, ◌%◌, ◌^◌, [], ◌∷◌, ℕ, Bool, true, false, List, map, All, arith, ◌∙◌, ap, refl, cond}
use Rattle.std.specs.Prelude.{◌==◌}
use Rattle.cnf_core.specs.declared.literal.Lit.{Lit}
use Rattle.cnf_core.specs.Literal.{IsVariable}
use Rattle.unit_propagation.specs.Clauses.Codes.{code_of, literal_of, literals_of}

half : (v b : ℕ) → b < 2 → (2 * v + b) / 2 ≡ v
half v b h = omega arith

rest : (v b : ℕ) → b < 2 → (2 * v + b) % 2 ≡ b
rest v b h = omega arith

decoded : (v : ℕ) (p : Bool) → literal_of (2 * v + cond p 1 0) ≡ record { var = v; positive = p }
decoded v true =
    let mk : ℕ → ℕ → Lit = λ n r. record { var = n; positive = r == 1 } in
    ap (λ (n : ℕ). mk n ((2 * v + 1) % 2)) (half v 1 (omega arith)) ∙ ap (λ (r : ℕ). mk v r) (rest v 1 (omega arith))
decoded v false =
    let mk : ℕ → ℕ → Lit = λ n r. record { var = n; positive = r == 1 } in
    ap (λ (n : ℕ). mk n ((2 * v + 0) % 2)) (half v 0 (omega arith)) ∙ ap (λ (r : ℕ). mk v r) (rest v 0 (omega arith))

-- the number gives the literal back
pub literal_of-code_of : (l : Lit) → literal_of (code_of l) ≡ l
literal_of-code_of l = decoded l.var l.positive

pub literals_of-codes : (lits : List Lit) → literals_of (map code_of lits) ≡ lits
literals_of-codes [] = refl
literals_of-codes (l ∷ lits) = ap (λ (x : Lit). x ∷ literals_of (map code_of lits)) (literal_of-code_of l) ∙ ap (λ (xs : List Lit). l ∷ xs) (literals_of-codes lits)

pub small_vars : (lits : List Lit) → All (λ l. IsVariable l.var) lits → All (λ l. l.var < 2 ^ 31) lits
small_vars lits all k d h = (all k d h).1
