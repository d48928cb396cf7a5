-- The clauses of a gate say that its variable has the shape's value.
use Rattle.std.proofs.Common.{◌≡◌, ◌↔◌, ◌+◌, ◌<◌, ◌≤◌, ◌&&◌, ◌||◌, ℕ, Bool, true, false, not, cond, List, [], ◌∷◌, length, get_or, All, inl, inr, refl, sym, ap, ◌∙◌, subst, arith}
use Rattle.std.proofs.lemmas.List.Elements.{All-nil, All-cons, All-weaker}
use Rattle.cnf_core.specs.declared.literal.Lit.{Lit}
use Rattle.cnf_core.specs.Literal.{negation_of, HasVarsUpTo}
use Rattle.cnf_core.specs.Valuation.{literal_value}
use Rattle.bool_circuit.specs.declared.shape.Shape.{Shape}
use Rattle.bool_circuit.specs.declared.shape.Shape.TheVariants.{Constant, And, Or}
use Rattle.bool_circuit.specs.Network.{ReadsBelow}
use Rattle.circuit_cnf.specs.Resting.{Reads}
use Rattle.std.proofs.lemmas.List.{get_or_default}
use Rattle.circuit_cnf.specs.Encoding.{IsPushed, Adds, IsAmong, literal_at, encoded_value, DefinesNext, IsLiteral}
use Rattle.circuit_cnf.proofs.Pushed.{pushed_adds, negation_value}

-- the variable behind the others
abbrev pub next_literal : ℕ → Lit
next_literal vars = record { var = vars + 1; positive = true }

unit_is : (b x : Bool) → ((cond b x (not x) || false) ≡ true) ↔ (x ≡ b)
unit_is true true = ((λ h. refl), (λ h. refl))
unit_is true false = ((λ h. h), (λ h. h))
unit_is false true = ((λ h. sym h), (λ h. sym h))
unit_is false false = ((λ h. refl), (λ h. refl))

more_variables : (vars : ℕ) (clauses : List (List Lit)) → All (HasVarsUpTo vars) clauses → All (HasVarsUpTo (vars + 1)) clauses
more_variables vars clauses all =
    All-weaker (HasVarsUpTo vars) (HasVarsUpTo (vars + 1)) (λ lits has. All-weaker (λ l. l.var ≤ vars) (λ l. l.var ≤ vars + 1) (λ l h. omega (arith, h)) lits has) clauses all

pub constant_defines : (vars : ℕ) (b : Bool) (literals : List Lit) (old new : List (List Lit)) → IsPushed (record { var = vars + 1; positive = b } ∷ []) old new →
    DefinesNext vars literals (Constant b) old new
constant_defines vars b literals old new pushed =
    let l : Lit = record { var = vars + 1; positive = b } in
    let adds = pushed_adds (l ∷ []) old new pushed in
    record {
      means = λ v. ((λ s. let both = (adds.means v).0 s in (both.0, (unit_is b (v (vars + 1))).0 both.1)), (λ p. (adds.means v).1 (p.0, (unit_is b (v (vars + 1))).1 p.1)));
      few = omega (arith, adds.few);
      within = λ all. adds.within (vars + 1) (more_variables vars old all) (All-cons (λ k. k.var ≤ vars + 1) l [] (omega arith) (All-nil _));
    }

three_within : (vars : ℕ) (x a b : Lit) → x.var ≡ vars + 1 → a.var ≤ vars → b.var ≤ vars → HasVarsUpTo (vars + 1) (x ∷ a ∷ b ∷ [])
three_within vars x a b is first second =
    All-cons (λ k. k.var ≤ vars + 1) x (a ∷ b ∷ []) (omega (arith, is))
    (All-cons (λ k. k.var ≤ vars + 1) a (b ∷ []) (omega (arith, first)) (All-cons (λ k. k.var ≤ vars + 1) b [] (omega (arith, second)) (All-nil _)))

module _ (vars a b : ℕ) (literals : List Lit) (old new : List (List Lit)) (first second : Lit) (is_first : first ≡ literal_at literals a) (is_second : second ≡ literal_at literals b)
    (among_first : IsAmong vars (literal_at literals a)) (among_second : IsAmong vars (literal_at literals b)) where
  first_within : first.var ≤ vars
  first_within = subst (λ (l : Lit). l.var ≤ vars) (sym is_first) among_first.1

  second_within : second.var ≤ vars
  second_within = subst (λ (l : Lit). l.var ≤ vars) (sym is_second) among_second.1

  pub and_defines : Adds 3 (next_literal vars ∷ first ∷ second ∷ []) (λ v. literal_value v (next_literal vars) ≡ (literal_value v first && literal_value v second)) old new →
      DefinesNext vars literals (And a b) old new
  and_defines adds =
      let same : (v : ℕ → Bool) → (literal_value v first && literal_value v second) ≡ encoded_value literals (And a b) v =
      λ v. ap (λ l. literal_value v l && literal_value v second) is_first ∙ ap (λ l. literal_value v (literal_at literals a) && literal_value v l) is_second in
      record {
        means = λ v. ((λ s. let both = (adds.means v).0 s in (both.0, both.1 ∙ same v)), (λ p. (adds.means v).1 (p.0, p.1 ∙ sym (same v))));
        few = adds.few;
        within = λ all. adds.within (vars + 1) (more_variables vars old all) (three_within vars (next_literal vars) first second refl first_within second_within);
      }

  pub or_defines : (nx na nb : Lit) → nx ≡ negation_of (next_literal vars) → na ≡ negation_of first → nb ≡ negation_of second →
      Adds 3 (nx ∷ na ∷ nb ∷ []) (λ v. literal_value v nx ≡ (literal_value v na && literal_value v nb)) old new → DefinesNext vars literals (Or a b) old new
  or_defines nx na nb ex ea eb adds =
      let value : (v : ℕ → Bool) (n l : Lit) → n ≡ negation_of l → literal_value v n ≡ not (literal_value v l) = λ v n l e. ap (literal_value v) e ∙ negation_value v l in
      let same : (v : ℕ → Bool) → (literal_value v first || literal_value v second) ≡ encoded_value literals (Or a b) v =
      λ v. ap (λ l. literal_value v l || literal_value v second) is_first ∙ ap (λ l. literal_value v (literal_at literals a) || literal_value v l) is_second in
      let turned : (v : ℕ → Bool) → (literal_value v nx ≡ (literal_value v na && literal_value v nb)) ↔ (v (vars + 1) ≡ (literal_value v first || literal_value v second)) =
      λ v. by_opposites (v (vars + 1)) (literal_value v first) (literal_value v second) _ _ _ (value v nx (next_literal vars) ex) (value v na first ea) (value v nb second eb) in
      record {
        means = λ v. ((λ s. let both = (adds.means v).0 s in (both.0, (turned v).0 both.1 ∙ same v)), (λ p. (adds.means v).1 (p.0, (turned v).1 (p.1 ∙ sym (same v)))));
        few = adds.few;
        within = λ all. adds.within (vars + 1) (more_variables vars old all)
            (three_within vars nx na nb (ap (λ (l : Lit). l.var) ex) (subst (λ (l : Lit). l.var ≤ vars) (sym ea) first_within) (subst (λ (l : Lit). l.var ≤ vars) (sym eb) second_within));
      }
    where
      opposites : (x a b : Bool) → (not x ≡ (not a && not b)) ↔ (x ≡ (a || b))
      opposites true true b = ((λ h. refl), (λ h. refl))
      opposites true false true = ((λ h. refl), (λ h. refl))
      opposites true false false = ((λ h. sym h), (λ h. sym h))
      opposites false true b = ((λ h. sym h), (λ h. sym h))
      opposites false false true = ((λ h. sym h), (λ h. sym h))
      opposites false false false = ((λ h. refl), (λ h. refl))

      by_opposites : (x a b nx na nb : Bool) → nx ≡ not x → na ≡ not a → nb ≡ not b → (nx ≡ (na && nb)) ↔ (x ≡ (a || b))
      by_opposites x a b nx na nb ex ea eb = rw ex (rw ea (rw eb (opposites x a b)))

-- the literals that the shapes get
pub constant_literal : (vars : ℕ) (b : Bool) (shape : Shape) (literals : List Lit) (old new : List (List Lit)) → shape ≡ Constant b →
    IsPushed (record { var = vars + 1; positive = b } ∷ []) old new → IsLiteral shape literals (vars, old) (vars + 1, new) (next_literal vars)
constant_literal vars b shape literals old new is pushed =
    subst (λ (s : Shape). IsLiteral s literals (vars, old) (vars + 1, new) (next_literal vars)) (sym is) (refl, refl, constant_defines vars b literals old new pushed)

-- what is read from the list is the node's literal
literal_read : (literals : List Lit) (l : Lit) (i a : ℕ) → l ≡ get_or literals i l → i ≡ a → a < length literals → l ≡ literal_at literals a
literal_read literals l i a is at within = is ∙ ap (λ (k : ℕ). get_or literals k l) at ∙ get_or_default literals a l (record { var = 1; positive = true }) within

module _ (vars a b : ℕ) (shape : Shape) (literals : List Lit) (old new : List (List Lit)) (first second : Lit) (i j : ℕ)
    (is_first : first ≡ get_or literals i first) (is_second : second ≡ get_or literals j second) (at_first : i ≡ a) (at_second : j ≡ b)
    (before : ReadsBelow vars (length literals) shape) (among : (m : ℕ) → Reads shape m → IsAmong vars (literal_at literals m)) where
  pub and_literal : shape ≡ And a b → Adds 3 (next_literal vars ∷ first ∷ second ∷ []) (λ v. literal_value v (next_literal vars) ≡ (literal_value v first && literal_value v second)) old new →
      IsLiteral shape literals (vars, old) (vars + 1, new) (next_literal vars)
  and_literal is adds =
      let operands = subst (λ (s : Shape). (m : ℕ) → Reads s m → IsAmong vars (literal_at literals m)) is among in
      let within = subst (λ (s : Shape). ReadsBelow vars (length literals) s) is before in
      subst (λ (s : Shape). IsLiteral s literals (vars, old) (vars + 1, new) (next_literal vars)) (sym is) (
        refl,
        refl,
        and_defines vars a b literals old new first second (literal_read literals first i a is_first at_first within.0) (literal_read literals second j b is_second at_second within.1)
            (operands a (inl refl)) (operands b (inr refl)) adds,
      )

  pub or_literal : (nx na nb : Lit) → nx ≡ negation_of (next_literal vars) → na ≡ negation_of first → nb ≡ negation_of second → shape ≡ Or a b →
      Adds 3 (nx ∷ na ∷ nb ∷ []) (λ v. literal_value v nx ≡ (literal_value v na && literal_value v nb)) old new → IsLiteral shape literals (vars, old) (vars + 1, new) (next_literal vars)
  or_literal nx na nb ex ea eb is adds =
      let operands = subst (λ (s : Shape). (m : ℕ) → Reads s m → IsAmong vars (literal_at literals m)) is among in
      let within = subst (λ (s : Shape). ReadsBelow vars (length literals) s) is before in
      subst (λ (s : Shape). IsLiteral s literals (vars, old) (vars + 1, new) (next_literal vars)) (sym is) (
        refl,
        refl,
        or_defines vars a b literals old new first second (literal_read literals first i a is_first at_first within.0) (literal_read literals second j b is_second at_second within.1)
            (operands a (inl refl)) (operands b (inr refl)) nx na nb ex ea eb adds,
      )
