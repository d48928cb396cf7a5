-- What a line of a proof text adds, from its literals and hints as they are read.
use Rattle.std.proofs.Common.{◌≡◌, ◌≢◌, ◌==◌, ◌≤◌, ◌<◌, ◌+◌, ◌-◌, ◌*◌, ◌⊎◌, ℕ, Bool, true, false, if◌then◌else◌, drop, Result, Ok, Err, OnOk, IfErr, List, [], ◌∷◌, ◌++◌, codes, length, map, min, get_or, refl, sym, subst, ap, ◌∙◌, arith, inl, inr}
use Rattle.std.specs.Prelude.{All}
use Rattle.std.proofs.lemmas.Bool.Decides.{nat_tests}
use Rattle.std.proofs.lemmas.List.Elements.{All-nil, All-cons, All-head, All-tail}
use Rattle.cnf_core.specs.declared.literal.Lit.{Lit}
use Rattle.cnf_core.specs.Literal.{IsTautology, HasSameLiterals}
use Rattle.refutation_check.specs.declared.log.Step.{Step}
use Rattle.refutation_check.specs.declared.proof_text.fault.ProofFault.{ProofFault}
use Rattle.refutation_check.specs.declared.proof_text.fault.ProofFault.TheVariants.{BadLine, NumberTooLarge, Tautology, TooLong, Memory}
use Rattle.refutation_check.specs.declared.proof_text.line.Form.{Form}
use Rattle.refutation_check.specs.declared.proof_text.line.Form.TheVariants as forms
use Rattle.refutation_check.specs.ProofText.{IsNumber, IsLiteral, number_after, number_of, literal_of, AreSmall, IsClauseLine, IsStepLine, SaysClause, SaysStep}
use Rattle.refutation_check.specs.ProofFault.{HasForm, IsBadLine, IsTooLarge, IsContradictory}
use Rattle.refutation_check.specs.Scanned.{capped, read_literal, read_number, IsReadClause, IsReadStep, IsForm}
use Rattle.refutation_check.specs.Progress.{Progress, AreReadSmall, IsNumberFault, IsReadAs, AddsClause, AddsStep, IsClauseFault, AddsLine, IsLineFault}

-- ---- numbers from 1

grows : (n : ℕ) (digits : List ℕ) → n ≤ number_after n digits
grows n [] = omega arith
grows n (b ∷ digits) = let more = grows (n * 10 + (b - 48)) digits in omega arith

pub number_from_one : (word : List ℕ) → IsNumber word → 1 ≤ number_of word
number_from_one [] is = absurd is
number_from_one (b ∷ digits) is = let low = is.0 in let more = grows (0 * 10 + (b - 48)) digits in omega arith

literal_cases : (b : ℕ) (others : List ℕ) (t : Bool) → (b == 45) ≡ t → literal_of (b ∷ others) ≡ (if t then record { var = number_of others; positive = false } else record { var = number_of (b ∷ others); positive = true })
literal_cases b others t e = ap (λ t. if t then record { var = number_of others; positive = false } else record { var = number_of (b ∷ others); positive = true }) e

pub literal_from_one : (word : List ℕ) → IsLiteral word → 1 ≤ (literal_of word).var
literal_from_one [] is = absurd is
literal_from_one (b ∷ others) (inl number) =
    let low = number.0 in
    let plain : (b == 45) ≡ false = grind (arith, nat_tests) in
    subst (λ (l : Lit). 1 ≤ l.var) (sym (literal_cases b others false plain)) (number_from_one (b ∷ others) number)
literal_from_one (b ∷ others) (inr minus) =
    let is = minus.0 in
    let signed : (b == 45) ≡ true = grind (arith, nat_tests) in
    subst (λ (l : Lit). 1 ≤ l.var) (sym (literal_cases b others true signed)) (number_from_one others minus.1)

capped_from_one : (n : ℕ) → 1 ≤ n → 1 ≤ capped n
capped_from_one n low = grind (arith, nat_tests)

pub literals_from_one : (literals : List (List ℕ)) → All IsLiteral literals → All (λ l. 1 ≤ l.var) (map read_literal literals)
literals_from_one [] all = All-nil (λ l. 1 ≤ l.var)
literals_from_one (w ∷ literals) all =
    All-cons (λ l. 1 ≤ l.var) (read_literal w) (map read_literal literals) (capped_from_one (literal_of w).var (literal_from_one w (All-head IsLiteral w literals all)))
    (literals_from_one literals (All-tail IsLiteral w literals all))

-- ---- numbers that aren't too large are read as they are

small_is : (n : ℕ) → n ≤ 2147483647 → capped n ≡ n
small_is n small = grind (arith, nat_tests)

read_small : (n : ℕ) → capped n ≤ 2147483647 → n ≤ 2147483647
read_small n small = grind (arith, nat_tests)

SmallVar : Lit → Type 0
SmallVar l = l.var ≤ 2147483647

Small : ℕ → Type 0
Small n = n ≤ 2147483647

variables_small : (literals : List (List ℕ)) → All SmallVar (map read_literal literals) → All (λ word. SmallVar (literal_of word)) literals
unfolding SmallVar
variables_small [] all = All-nil (λ word. SmallVar (literal_of word))
variables_small (w ∷ literals) all =
    All-cons (λ word. SmallVar (literal_of word)) w literals (read_small (literal_of w).var (All-head SmallVar (read_literal w) (map read_literal literals) all))
    (variables_small literals (All-tail SmallVar (read_literal w) (map read_literal literals) all))

numbers_small : (hints : List (List ℕ)) → All Small (map read_number hints) → All (λ word. Small (number_of word)) hints
unfolding Small
numbers_small [] all = All-nil (λ word. Small (number_of word))
numbers_small (w ∷ hints) all =
    All-cons (λ word. Small (number_of word)) w hints (read_small (number_of w) (All-head Small (read_number w) (map read_number hints) all))
    (numbers_small hints (All-tail Small (read_number w) (map read_number hints) all))

literals_are : (literals : List (List ℕ)) → All (λ word. SmallVar (literal_of word)) literals → map read_literal literals ≡ map literal_of literals
unfolding SmallVar
literals_are [] all = refl
literals_are (w ∷ literals) all =
    let first : read_literal w ≡ literal_of w = ap (λ n. record { var = n; positive = (literal_of w).positive }) (small_is (literal_of w).var (All-head (λ word. SmallVar (literal_of word)) w literals all)) in
    let rest = literals_are literals (All-tail (λ word. SmallVar (literal_of word)) w literals all) in
    cc

numbers_are : (hints : List (List ℕ)) → All (λ word. Small (number_of word)) hints → map read_number hints ≡ map number_of hints
unfolding Small
numbers_are [] all = refl
numbers_are (w ∷ hints) all =
    let first : read_number w ≡ number_of w = small_is (number_of w) (All-head (λ word. Small (number_of word)) w hints all) in
    let rest = numbers_are hints (All-tail (λ word. Small (number_of word)) w hints all) in
    cc

are_small : (literals hints : List (List ℕ)) → AreReadSmall (map read_literal literals) (map read_number hints) → AreSmall literals hints
unfolding SmallVar Small
are_small literals hints small = record { variables = variables_small literals small.0; numbers = numbers_small hints small.1 }

are_read_small : (literals hints : List (List ℕ)) → AreSmall literals hints → AreReadSmall (map read_literal literals) (map read_number hints)
unfolding SmallVar Small
are_read_small literals hints small = (
  subst (λ (ls : List Lit). All SmallVar ls) (sym (literals_are literals small.variables)) (all_map literal_of literals small.variables),
  subst (λ (ns : List ℕ). All Small ns) (sym (numbers_are hints small.numbers)) (all_numbers hints small.numbers),
)
  where
    all_map : (f : List ℕ → Lit) (ws : List (List ℕ)) → All (λ word. SmallVar (f word)) ws → All SmallVar (map f ws)
    all_map f [] all = All-nil SmallVar
    all_map f (w ∷ ws) all = All-cons SmallVar (f w) (map f ws) (All-head (λ word. SmallVar (f word)) w ws all) (all_map f ws (All-tail (λ word. SmallVar (f word)) w ws all))

    all_numbers : (ws : List (List ℕ)) → All (λ word. Small (number_of word)) ws → All Small (map number_of ws)
    all_numbers [] all = All-nil Small
    all_numbers (w ∷ ws) all = All-cons Small (number_of w) (map number_of ws) (All-head (λ word. Small (number_of word)) w ws all) (all_numbers ws (All-tail (λ word. Small (number_of word)) w ws all))

-- ---- lines

pub form_is : (words : List (List ℕ)) (form same : Form) (lits : List Lit) (numbers : List ℕ) → IsForm words form lits numbers → form ≡ same → IsForm words same lits numbers
form_is words form same lits numbers is e = subst (λ (f : Form). IsForm words f lits numbers) e is

pub clause_from_one : (words : List (List ℕ)) (lits : List Lit) (numbers : List ℕ) → IsReadClause words lits numbers → All (λ l. 1 ≤ l.var) lits
clause_from_one words lits numbers is = subst (λ (ls : List Lit). All (λ l. 1 ≤ l.var) ls) (sym is.lits_are) (literals_from_one is.literals is.line.each)

pub step_from_one : (words : List (List ℕ)) (lits : List Lit) (numbers : List ℕ) → IsReadStep words lits numbers → All (λ l. 1 ≤ l.var) lits
step_from_one words lits numbers is = subst (λ (ls : List Lit). All (λ l. 1 ≤ l.var) ls) (sym is.lits_are) (literals_from_one is.literals is.line.each_literal)

as_read : (lits : List Lit) (literals : List (List ℕ)) → lits ≡ map read_literal literals → All (λ word. SmallVar (literal_of word)) literals → lits ≡ map literal_of literals
as_read lits literals e small = e ∙ literals_are literals small

pub clause_line : (words : List (List ℕ)) (lits : List Lit) (numbers : List ℕ) (p q : Progress) → IsReadClause words lits numbers → AddsClause lits p q → AddsLine words p q
unfolding SmallVar Small
clause_line words lits numbers p q is adds =
    let small = are_small is.literals [] (subst (λ (ls : List Lit). AreReadSmall ls []) is.lits_are adds.read.small) in
    inr (inl (record {
      first = adds.first;
      clause = adds.clause;
      says = record {
        literals = is.literals;
        line = is.line;
        small = small;
        said = record { is_clause = adds.read.is_clause; same = subst (λ (ls : List Lit). HasSameLiterals ls adds.clause) (as_read lits is.literals is.lits_are small.variables) adds.read.same };
      };
      clauses = adds.clauses;
      log = adds.log;
      vars = adds.vars;
    }))

pub step_line : (words : List (List ℕ)) (lits : List Lit) (numbers : List ℕ) (p q : Progress) → IsReadStep words lits numbers → AddsStep lits numbers p q → AddsLine words p q
unfolding SmallVar Small
step_line words lits numbers p q is adds =
    let small = are_small is.literals is.hints (subst (λ (ns : List ℕ). AreReadSmall (map read_literal is.literals) ns) is.numbers_are (subst (λ (ls : List Lit). AreReadSmall ls numbers) is.lits_are adds.read.small)) in
    inr (inr (record {
      step = adds.step;
      says = record {
        literals = is.literals;
        hints = is.hints;
        line = is.line;
        small = small;
        said = record { is_clause = adds.read.is_clause; same = subst (λ (ls : List Lit). HasSameLiterals ls adds.step.clause) (as_read lits is.literals is.lits_are small.variables) adds.read.same };
        numbers = adds.hints ∙ is.numbers_are ∙ numbers_are is.hints small.numbers;
      };
      clauses = adds.clauses;
      log = adds.log;
      vars = adds.vars;
    }))

-- ---- faults

clause_has_words : (words literals : List (List ℕ)) → IsClauseLine words literals → words ≢ []
clause_has_words words literals line e = absurd (omega (arith, ap length (sym e ∙ line.spelled)))

letter : (a b : ℕ) (words ws vs : List (List ℕ)) → a ≢ b → words ≡ (a ∷ []) ∷ ws → words ≡ (b ∷ []) ∷ vs → ⊥
letter a b words ws vs differ e f = differ (cc)

-- a clause's line is no step's
pub not_both : (words literals others hints : List (List ℕ)) → IsClauseLine words literals → IsStepLine words others hints → ⊥
not_both words literals others hints clause step =
    letter 99 115 words (literals ++ codes "0" ∷ []) (others ++ (codes "0" ∷ hints ++ codes "0" ∷ [])) (λ e. absurd (omega arith)) clause.spelled step.spelled

pub clause_fault : (words : List (List ℕ)) (lits : List Lit) (numbers : List ℕ) (before : List Step) (line : ℕ) (fault : ProofFault) → IsReadClause words lits numbers
    → IsClauseFault before lits line fault → IsLineFault before words line fault
unfolding SmallVar Small
clause_fault words lits numbers before line (BadLine n) is fault = (
  fault.0,
  (
    clause_has_words words is.literals is.line,
    λ literals hints form. elim form [
      | inl clause ↦ fault.1 clause.2
      | inr step ↦ not_both words is.literals literals hints is.line step
    ],
  ),
)
clause_fault words lits numbers before line (NumberTooLarge n) is fault =
    (fault.1.0, (is.literals, [], inl (is.line, refl, fault.0), λ small. fault.1.1 (subst (λ (ls : List Lit). AreReadSmall ls []) (sym is.lits_are) (are_read_small is.literals [] small))))
clause_fault words lits numbers before line (Tautology n) is fault =
    let small = are_small is.literals [] (subst (λ (ls : List Lit). AreReadSmall ls []) is.lits_are fault.1.1) in
    (fault.1.0, (is.literals, [], inl (is.line, refl, fault.0), small, subst IsTautology (as_read lits is.literals is.lits_are small.variables) fault.1.2))
clause_fault words lits numbers before line TooLong is fault = fault
clause_fault words lits numbers before line Memory is fault = tt

pub step_fault : (words : List (List ℕ)) (lits : List Lit) (numbers : List ℕ) (before : List Step) (line : ℕ) (fault : ProofFault) → IsReadStep words lits numbers
    → IsNumberFault lits numbers line fault → IsLineFault before words line fault
unfolding SmallVar Small
step_fault words lits numbers before line (BadLine n) is fault = absurd fault
step_fault words lits numbers before line (NumberTooLarge n) is fault =
    (fault.0, (is.literals, is.hints, inr is.line, λ small. fault.1 (subst (λ (ns : List ℕ). AreReadSmall lits ns) (sym is.numbers_are) (subst (λ (ls : List Lit). AreReadSmall ls (map read_number is.hints)) (sym is.lits_are) (are_read_small is.literals is.hints small)))))
step_fault words lits numbers before line (Tautology n) is fault =
    let small = are_small is.literals is.hints (subst (λ (ns : List ℕ). AreReadSmall (map read_literal is.literals) ns) is.numbers_are (subst (λ (ls : List Lit). AreReadSmall ls numbers) is.lits_are fault.1)) in
    (fault.0, (is.literals, is.hints, inr is.line, small, subst IsTautology (as_read lits is.literals is.lits_are small.variables) fault.2))
step_fault words lits numbers before line TooLong is fault = fault
step_fault words lits numbers before line Memory is fault = tt

-- ---- answers of calls

pub on_ok : {X E : Type 0} (r : Result X E) {P Q : Type 0} → (P → Q) → OnOk r P → OnOk r Q
on_ok (Ok x) f p = f p
on_ok (Err e) f p = tt

pub if_err : {X E : Type 0} (r : Result X E) {P Q : E → Type 0} → ((e : E) → P e → Q e) → IfErr r P → IfErr r Q
if_err (Ok x) f p = tt
if_err (Err e) f p = f e p
