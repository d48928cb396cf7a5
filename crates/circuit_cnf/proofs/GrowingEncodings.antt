-- What an encoding keeps when a node gets its literal.
use Rattle.std.proofs.Common.{◌≡◌, ◌⊎◌, ◌+◌, ◌-◌, ◌<◌, ◌≤◌, ℕ, Bool, true, false, cond, List, [], ◌∷◌, ◌++◌, length, All, IsTrue, inl, inr, refl, sym, ap, ◌∙◌, subst, arith, length-append, nat_eq}
use Rattle.std.proofs.lemmas.Bool.{cases_lt}
use Rattle.std.proofs.lemmas.List.Elements.{All-nil}
use Rattle.std.proofs.Math.ListN.{get_or-append}
use Rattle.std.proofs.Math.Seq.{get_or-append_seam}
use Rattle.cnf_core.specs.declared.literal.Lit.{Lit}
use Rattle.cnf_core.specs.Literal.{HasVarsUpTo}
use Rattle.cnf_core.specs.Valuation.{literal_value, Satisfies}
use Rattle.bool_circuit.specs.declared.shape.Shape.{Shape}
use Rattle.bool_circuit.specs.declared.shape.Shape.TheVariants.{Constant, Input, And, Or, Not}
use Rattle.bool_circuit.specs.Network.{Network, Has, ReadsBelow}
use Rattle.bool_circuit.specs.Value.{place, shape_value, value_at}
use Rattle.circuit_cnf.specs.Resting.{Reads, RestsOn}
use Rattle.circuit_cnf.specs.ClauseForm.{inputs_of, HasInputs, AreGates}
use Rattle.circuit_cnf.specs.Encoding.{AreMarks, IsAmong, literal_at, encoded_value, DefinesNext, IsLiteral, IsEncoding}
use Rattle.circuit_cnf.proofs.Agreeing.{satisfies_agrees, shape_agrees, encoded_agrees}
use Rattle.circuit_cnf.proofs.OutputMarks.{rests_further, reads_before}
use Rattle.circuit_cnf.proofs.Pushed.{negation_value}

-- before the first node
pub no_gates : (network : Network) (node : ℕ) → AreGates network node network.inputs []
no_gates network node =
    record {
      extension = λ inputs. ((λ n. inputs (n - 1)), (λ i h. let e : (i + 1) - 1 ≡ i = omega arith in ap inputs e), All-nil _);
      only = λ v w same sv sw var low high. let at : (var - 1) + 1 ≡ var = omega (arith, low) in
          subst (λ n. v n ≡ w n) at (same (var - 1) (omega (arith, low, high)));
      variables = λ var low high. absurd (omega (arith, low, high));
    }

pub nothing_encoded : (network : Network) (node : ℕ) (marks : List Bool) → IsEncoding network node marks network.inputs [] []
nothing_encoded network node marks =
    record {
      inputs = omega arith;
      few_variables = omega arith;
      few_clauses = omega arith;
      within = All-nil _;
      literals_within = λ m h. absurd (omega (arith, h));
      gates = no_gates network node;
      values = λ v satisfied m h. absurd (omega (arith, h));
    }

-- the literals of the nodes before, and that of the next
literal_before : (literals : List Lit) (l : Lit) (m : ℕ) → m < length literals → literal_at (literals ++ l ∷ []) m ≡ literal_at literals m
literal_before literals l m h = get_or-append literals (l ∷ []) _ m h

literal_next : (literals : List Lit) (l : Lit) → literal_at (literals ++ l ∷ []) (length literals) ≡ l
literal_next literals l = get_or-append_seam literals l [] _

here_is : (k : ℕ) (x y : Bool) → cond (nat_eq k k) x y ≡ x
here_is k x y = grind arith

elsewhere : (n k : ℕ) (x y : Bool) → n < k → cond (nat_eq n k) x y ≡ y
elsewhere n k x y h = grind arith

before_or_last : (m n : ℕ) → m < n + 1 → (m < n) ⊎ (m ≡ n)
before_or_last m n h = elim (cases_lt m n) [ inl lt ↦ inl lt | inr ge ↦ inr (omega (arith, h, ge)) ]

module _ (network : Network) (node : ℕ) (marks : List Bool) (vars more : ℕ) (literals : List Lit) (clauses new : List (List Lit)) (was : IsEncoding network node marks vars literals clauses) where
  -- one literal more
  pub one_more : (l : Lit) → vars ≤ more → more ≤ vars + 1 → length new ≤ length clauses + 3 → All (HasVarsUpTo more) new →
      AreGates network node more new → ((v : ℕ → Bool) → Satisfies v new → Satisfies v clauses) → (IsTrue (place marks (length literals)) → IsAmong more l) →
      ((v : ℕ → Bool) → Satisfies v new → IsTrue (place marks (length literals)) → literal_value v l ≡ value_at network (length literals) (inputs_of v)) →
      IsEncoding network node marks more (literals ++ l ∷ []) new
  one_more l up most few within gates back among value =
      let len : length (literals ++ l ∷ []) ≡ length literals + 1 = length-append literals (l ∷ []) in
      record {
        inputs = omega (arith, was.inputs, up);
        few_variables = omega (arith, was.few_variables, most, len);
        few_clauses = omega (arith, was.few_clauses, few, len);
        within = within;
        literals_within = λ m h marked. elim (before_or_last m (length literals) (omega (arith, h, len))) [
          | inl lt ↦ let old = was.literals_within m lt marked in
              subst (λ k. IsAmong more k) (sym (literal_before literals l m lt)) (old.0, omega (arith, old.1, up))
          | inr at ↦ subst (λ k. IsAmong more (literal_at (literals ++ l ∷ []) k)) (sym at)
              (subst (λ k. IsAmong more k) (sym (literal_next literals l)) (among (subst (λ k. IsTrue (place marks k)) at marked)))
        ];
        gates = gates;
        values = λ v satisfied m h marked. elim (before_or_last m (length literals) (omega (arith, h, len))) [
          | inl lt ↦ ap (literal_value v) (literal_before literals l m lt) ∙ was.values v (back v satisfied) m lt marked
          | inr at ↦ subst (λ k. literal_value v (literal_at (literals ++ l ∷ []) k) ≡ value_at network k (inputs_of v)) (sym at)
              (ap (literal_value v) (literal_next literals l) ∙ value v satisfied (subst (λ k. IsTrue (place marks k)) at marked))
        ];
      }

module _ (network : Network) (node : ℕ) (marks : List Bool) (vars : ℕ) (literals : List Lit) (clauses : List (List Lit)) (was : IsEncoding network node marks vars literals clauses)
    (are : AreMarks network node marks) (shape : Shape) (has : Has network (length literals) shape) (before : ReadsBelow network.inputs (length literals) shape)
    (value : (inputs : ℕ → Bool) → value_at network (length literals) inputs ≡ shape_value inputs (λ n. value_at network n inputs) shape) where
  module _ (marked : IsTrue (place marks (length literals))) where
    -- what a marked node reads is marked
    pub operand_marked : (m : ℕ) → Reads shape m → IsTrue (place marks m)
    operand_marked m reads = are.complete m (rests_further network node (length literals) m shape (are.sound (length literals) marked) has reads)

    pub operand_before : (m : ℕ) → Reads shape m → m < length literals
    operand_before m reads = reads_before shape network.inputs (length literals) m before reads

    pub operand_among : (m : ℕ) → Reads shape m → IsAmong vars (literal_at literals m)
    operand_among m reads = was.literals_within m (operand_before m reads) (operand_marked m reads)

    -- by its literals a shape has the node's value
    pub encoded_is_value : (v : ℕ → Bool) → Satisfies v clauses → encoded_value literals shape v ≡ value_at network (length literals) (inputs_of v)
    encoded_is_value v satisfied =
        shape_agrees (inputs_of v) (inputs_of v) (λ m. literal_value v (literal_at literals m)) (λ m. value_at network m (inputs_of v)) shape network.inputs (length literals) before (λ i h. refl)
        (λ m reads. was.values v satisfied m (operand_before m reads) (operand_marked m reads))
        ∙ sym (value (inputs_of v))

    -- a node whose literal is there already
    pub no_clause : (l : Lit) → IsAmong vars l → ((v : ℕ → Bool) → literal_value v l ≡ encoded_value literals shape v) → IsEncoding network node marks vars (literals ++ l ∷ []) clauses
    no_clause l among is =
        one_more network node marks vars vars literals clauses clauses was l (omega arith) (omega arith) (omega arith) was.within was.gates (λ v s. s) (λ _. among) (λ v s _. is v ∙ encoded_is_value v s)

    -- a gate, which gets the next variable
    module _ (new : List (List Lit)) (defines : DefinesNext vars literals shape clauses new) where
      next : (ℕ → Bool) → ℕ → Bool
      next v n = cond (nat_eq n (vars + 1)) (encoded_value literals shape v) (v n)

      next_here : (v : ℕ → Bool) → next v (vars + 1) ≡ encoded_value literals shape v
      unfolding next
      next_here v = here_is (vars + 1) (encoded_value literals shape v) (v (vars + 1))

      next_before : (v : ℕ → Bool) (n : ℕ) → n ≤ vars → v n ≡ next v n
      unfolding next
      next_before v n h = sym (elsewhere n (vars + 1) (encoded_value literals shape v) (v n) (omega (arith, h)))

      extended : (inputs : ℕ → Bool) → (v : ℕ → Bool) × HasInputs network inputs v × Satisfies v new
      extended inputs =
          let old = was.gates.extension inputs in
          let v : ℕ → Bool = old.0 in
          let same : (n : ℕ) → n ≤ vars → v n ≡ next v n = next_before v in
          let here : next v (vars + 1) ≡ encoded_value literals shape (next v) =
          next_here v ∙ encoded_agrees v (next v) vars network.inputs (length literals) literals shape before was.inputs operand_among (λ n low high. same n high) in (
            next v,
            (λ i h. sym (same (i + 1) (omega (arith, h, was.inputs))) ∙ old.1 i h),
            (defines.means (next v)).1 (satisfies_agrees v (next v) vars same clauses was.within old.2, here),
          )

      only_one : (v w : ℕ → Bool) → HasInputs network (inputs_of w) v → Satisfies v new → Satisfies w new → (var : ℕ) → 1 ≤ var → var ≤ vars + 1 → v var ≡ w var
      only_one v w same sv sw var low high =
          let first = (defines.means v).0 sv in
          let second = (defines.means w).0 sw in
          let olds : (n : ℕ) → 1 ≤ n → n ≤ vars → v n ≡ w n = was.gates.only v w same first.0 second.0 in
          elim (cases_lt vars var) [
            | inl lt ↦ let at : vars + 1 ≡ var = omega (arith, lt, high) in
                subst (λ n. v n ≡ w n) at
                (first.1 ∙ encoded_agrees v w vars network.inputs (length literals) literals shape before was.inputs operand_among olds ∙ sym second.1)
            | inr ge ↦ olds var low ge
          ]

      standing : (var : ℕ) → network.inputs < var → var ≤ vars + 1 →
          (m : ℕ) × RestsOn network node m × ((v : ℕ → Bool) → Satisfies v new → v var ≡ value_at network m (inputs_of v))
      standing var low high =
          elim (cases_lt vars var) [
            | inl lt ↦ let at : vars + 1 ≡ var = omega (arith, lt, high) in (
              length literals,
              are.sound (length literals) marked,
              (λ v s. let both = (defines.means v).0 s in subst (λ n. v n ≡ value_at network (length literals) (inputs_of v)) at (both.1 ∙ encoded_is_value v both.0)),
            )
            | inr ge ↦ let old = was.gates.variables var low ge in (old.0, old.1, (λ v s. old.2 v ((defines.means v).0 s).0))
          ]

      pub gate : (l : Lit) → l ≡ record { var = vars + 1; positive = true } → IsEncoding network node marks (vars + 1) (literals ++ l ∷ []) new
      gate l is =
          let gates : AreGates network node (vars + 1) new = record { extension = extended; only = only_one; variables = standing } in
          one_more network node marks vars (vars + 1) literals clauses new was l (omega arith) (omega arith) defines.few (defines.within was.within) gates
          (λ v s. ((defines.means v).0 s).0)
          (λ _. subst (λ k. IsAmong (vars + 1) k) (sym is) (omega arith, omega arith))
          (λ v s _. let both = (defines.means v).0 s in ap (literal_value v) is ∙ both.1 ∙ encoded_is_value v both.0)

-- a marked node, by its shape
pub encoded_node : (network : Network) (node : ℕ) (marks : List Bool) (vars more : ℕ) (literals : List Lit) (clauses new : List (List Lit)) → IsEncoding network node marks vars literals clauses →
    AreMarks network node marks → (shape : Shape) → Has network (length literals) shape → ReadsBelow network.inputs (length literals) shape →
    ((inputs : ℕ → Bool) → value_at network (length literals) inputs ≡ shape_value inputs (λ n. value_at network n inputs) shape) →
    IsTrue (place marks (length literals)) → (l : Lit) → IsLiteral shape literals (vars, clauses) (more, new) l →
    IsEncoding network node marks more (literals ++ l ∷ []) new
encoded_node network node marks vars more literals clauses new was are (Input i) has before value marked l (same, is) =
    let vars_same : more ≡ vars = ap (λ (p : ℕ × List (List Lit)). p.0) same in
    let clauses_same : new ≡ clauses = ap (λ (p : ℕ × List (List Lit)). p.1) same in
    subst (λ k. IsEncoding network node marks k (literals ++ l ∷ []) new) (sym vars_same)
    (subst (λ k. IsEncoding network node marks vars (literals ++ l ∷ []) k) (sym clauses_same)
    (no_clause network node marks vars literals clauses was are (Input i) has before value marked l
    (subst (λ k. IsAmong vars k) (sym is) (omega arith, omega (arith, before, was.inputs)))
    (λ v. ap (literal_value v) is)))
encoded_node network node marks vars more literals clauses new was are (Not a) has before value marked l (same, is) =
    let vars_same : more ≡ vars = ap (λ (p : ℕ × List (List Lit)). p.0) same in
    let clauses_same : new ≡ clauses = ap (λ (p : ℕ × List (List Lit)). p.1) same in
    let among : IsAmong vars (literal_at literals a) = operand_among network node marks vars literals clauses was are (Not a) has before value marked a refl in
    subst (λ k. IsEncoding network node marks k (literals ++ l ∷ []) new) (sym vars_same)
    (subst (λ k. IsEncoding network node marks vars (literals ++ l ∷ []) k) (sym clauses_same)
    (no_clause network node marks vars literals clauses was are (Not a) has before value marked l
    (subst (λ k. IsAmong vars k) (sym is) among)
    (λ v. ap (literal_value v) is ∙ negation_value v (literal_at literals a))))
encoded_node network node marks vars more literals clauses new was are (Constant b) has before value marked l (up, is, defines) =
    subst (λ k. IsEncoding network node marks k (literals ++ l ∷ []) new) (sym up)
    (gate network node marks vars literals clauses was are (Constant b) has before value marked new defines l (is ∙ ap (λ (n : ℕ). record { var = n; positive = true }) up))
encoded_node network node marks vars more literals clauses new was are (And a b) has before value marked l (up, is, defines) =
    subst (λ k. IsEncoding network node marks k (literals ++ l ∷ []) new) (sym up)
    (gate network node marks vars literals clauses was are (And a b) has before value marked new defines l (is ∙ ap (λ (n : ℕ). record { var = n; positive = true }) up))
encoded_node network node marks vars more literals clauses new was are (Or a b) has before value marked l (up, is, defines) =
    subst (λ k. IsEncoding network node marks k (literals ++ l ∷ []) new) (sym up)
    (gate network node marks vars literals clauses was are (Or a b) has before value marked new defines l (is ∙ ap (λ (n : ℕ). record { var = n; positive = true }) up))

-- the next node, by its place
module _ (network : Network) (node : ℕ) (marks : List Bool) (vars : ℕ) (literals : List Lit) (clauses : List (List Lit)) (was : IsEncoding network node marks vars literals clauses)
    (are : AreMarks network node marks) (i : ℕ) (next : length literals ≡ i) where
  pub add_unmarked : (l : Lit) → place marks i ≡ false → IsEncoding network node marks vars (literals ++ l ∷ []) clauses
  add_unmarked l none =
      one_more network node marks vars vars literals clauses clauses was l (omega arith) (omega arith) (omega arith) was.within was.gates (λ v s. s)
      (λ h. absurd (unlike h)) (λ v s h. absurd (unlike h))
    where
      unlike : IsTrue (place marks (length literals)) → ⊥
      unlike h = let e : true ≡ false = sym h ∙ ap (place marks) next ∙ none in cc

  module _ (shape : Shape) (has : Has network i shape) (before : ReadsBelow network.inputs i shape)
      (value : (inputs : ℕ → Bool) → value_at network i inputs ≡ shape_value inputs (λ n. value_at network n inputs) shape) (marked : IsTrue (place marks i)) where
    has' : Has network (length literals) shape
    has' = subst (λ k. Has network k shape) (sym next) has

    before' : ReadsBelow network.inputs (length literals) shape
    before' = subst (λ k. ReadsBelow network.inputs k shape) (sym next) before

    value' : (inputs : ℕ → Bool) → value_at network (length literals) inputs ≡ shape_value inputs (λ n. value_at network n inputs) shape
    value' = subst (λ k. (inputs : ℕ → Bool) → value_at network k inputs ≡ shape_value inputs (λ n. value_at network n inputs) shape) (sym next) value

    marked' : IsTrue (place marks (length literals))
    marked' = subst (λ k. IsTrue (place marks k)) (sym next) marked

    pub operands_among : (m : ℕ) → Reads shape m → IsAmong vars (literal_at literals m)
    operands_among = operand_among network node marks vars literals clauses was are shape has' before' value' marked'

    pub add_marked : (more : ℕ) (new : List (List Lit)) (l : Lit) → IsLiteral shape literals (vars, clauses) (more, new) l → IsEncoding network node marks more (literals ++ l ∷ []) new
    add_marked more new l is = encoded_node network node marks vars more literals clauses new was are shape has' before' value' marked' l is

-- an encoding of empty lists
pub nothing_so_far : (network : Network) (node : ℕ) (marks : List Bool) (vars : ℕ) (literals : List Lit) (clauses : List (List Lit)) → vars ≡ network.inputs → literals ≡ [] → clauses ≡ [] →
    IsEncoding network node marks vars literals clauses
nothing_so_far network node marks vars literals clauses e f g =
    subst (λ k. IsEncoding network node marks k literals clauses) (sym e)
    (subst (λ ls. IsEncoding network node marks network.inputs ls clauses) (sym f)
    (subst (λ cs. IsEncoding network node marks network.inputs [] cs) (sym g) (nothing_encoded network node marks)))
