-- What is written is a proof text.
use Rattle.std.proofs.Common.{◌≡◌, ◌≢◌, ◌==◌, ◌≤◌, ◌<◌, ◌+◌, ◌-◌, ◌*◌, ◌^◌, ℕ, zero, suc, Bool, true, false, not, cond, if◌then◌else◌, List, [], ◌∷◌, ◌++◌, codes, decimal, length, filter, map, take, drop, get_or, slice_get, Some, refl, sym, subst, ap, ◌∙◌, arith, inl, inr, append_assoc, length-append, rules}
use Rattle.std.specs.Prelude.{All}
use Rattle.std.specs.List.{AllByRecursion, slice_split, flat_map, AllZip}
use Rattle.std.specs.Str.Lines.{lines, lines_of_parts, strip_carriage_return}
use Rattle.std.proofs.lemmas.Bool.Decides.{nat_tests}
use Rattle.std.proofs.lemmas.Fmt.{first_decimal, digits_decimal, digits_value-decimal}
use Rattle.std.proofs.lemmas.Str.Parse.{IsNumeralModel, numerals_by_fold}
use Rattle.std.proofs.lemmas.List.{append-nil, map-append}
use Rattle.std.proofs.lemmas.List.Elements.{All-nil, All-cons, All-head, All-tail, All-append, All-from_recursion}
use Rattle.std.proofs.lemmas.List.Splits.{slice_split_at, slice_split_none, length-slice_split}
use Rattle.cnf_core.specs.declared.literal.Lit.{Lit}
use Rattle.cnf_core.specs.Literal.{IsVariable, IsClause, HasSameLiterals}
use Rattle.refutation_check.specs.declared.log.Step.{Step}
use Rattle.refutation_check.specs.ProofText.{words_in, sentences, IsDigit, IsNumber, IsLiteral, number_after, number_of, literal_of, AreSmall, IsClauseLine, IsStepLine, IsClauseOf, SaysClause, SaysStep, Says}
use Rattle.refutation_check.specs.WrittenProof.{number_text, literal_text, clause_text, step_text, proof_text, HasHintsInRange}
use Rattle.refutation_check.proofs.TextLines.{sentences_both, sentence_of, clause_has_words, step_has_words}

-- ---- numbers

own : IsNumeralModel (AllByRecursion IsDigit) (number_after 0)
own = numerals_by_fold _ (search rules) number_after (search rules)

digits_of : (n : ℕ) → n < 2 ^ 64 → All IsDigit (decimal n)
digits_of n h = All-from_recursion IsDigit (decimal n) (digits_decimal own n h)

pub value_of_decimal : (n : ℕ) → n < 2 ^ 64 → number_of (decimal n) ≡ n
value_of_decimal n h = digits_value-decimal own n h

number_is : (word : List ℕ) → All IsDigit word → 48 < get_or word 0 0 → IsNumber word
number_is [] all first = absurd (omega arith)
number_is (b ∷ word) all first = let digit = All-head IsDigit b word all in (omega arith, digit.1, All-tail IsDigit b word all)

pub decimal_is_number : (n : ℕ) → 1 ≤ n → n < 2 ^ 64 → IsNumber (decimal n)
decimal_is_number n low high = number_is (decimal n) (digits_of n high) (first_decimal n low high)

-- ---- words of numbers and literals

abbrev literal_word : Lit → List ℕ
literal_word l = (if l.positive then [] else codes "-") ++ decimal l.var

plain : (word : List ℕ) → 48 < get_or word 0 0 → literal_of word ≡ record { var = number_of word; positive = true }
plain word first =
    let fails : (get_or word 0 0 == 45) ≡ false = grind (arith, nat_tests) in
    ap (λ t. if t then record { var = number_of (drop 1 word); positive = false } else record { var = number_of word; positive = true }) fails

wide : (n : ℕ) → n < 2 ^ 31 → n < 2 ^ 64
wide n h = omega arith

word_of : (var : ℕ) (positive : Bool) → IsVariable var → literal_of (literal_word (record { var = var; positive = positive })) ≡ record { var = var; positive = positive }
word_of var true is = plain (decimal var) (first_decimal var is.0 (wide var is.1)) ∙ ap (λ n. record { var = n; positive = true }) (value_of_decimal var (wide var is.1))
word_of var false is = ap (λ n. record { var = n; positive = false }) (value_of_decimal var (wide var is.1))

-- a literal that is written is that literal
literal_of_word : (l : Lit) → IsVariable l.var → literal_of (literal_word l) ≡ l
literal_of_word l is = word_of l.var l.positive is

number_is_literal : (word : List ℕ) → IsNumber word → IsLiteral word
number_is_literal [] is = is
number_is_literal (b ∷ word) is = inl is

is_literal : (var : ℕ) (positive : Bool) → IsVariable var → IsLiteral (literal_word (record { var = var; positive = positive }))
is_literal var true is = number_is_literal (decimal var) (decimal_is_number var is.0 (wide var is.1))
is_literal var false is = inr (refl, decimal_is_number var is.0 (wide var is.1))

-- ---- bytes of a line

-- neither a space nor a line feed
IsInWord : ℕ → Type 0
IsInWord b = ((b == 32) ≡ false) × ((b == 10) ≡ false)

-- no line feed
IsInLine : ℕ → Type 0
IsInLine b = (b == 10) ≡ false

digit_in_word : (b : ℕ) → IsDigit b → IsInWord b
unfolding IsInWord
digit_in_word b (low, high) = (grind (arith, nat_tests), grind (arith, nat_tests))

weaker : {P Q : ℕ → Type 0} → ((b : ℕ) → P b → Q b) → (bs : List ℕ) → All P bs → All Q bs
weaker {P} {Q} f [] all = All-nil Q
weaker {P} {Q} f (b ∷ bs) all = All-cons Q b bs (f b (All-head P b bs all)) (weaker f bs (All-tail P b bs all))

decimal_in_word : (n : ℕ) → n < 2 ^ 64 → All IsInWord (decimal n)
decimal_in_word n h = weaker digit_in_word (decimal n) (digits_of n h)

one_byte : (P : ℕ → Type 0) (b : ℕ) → P b → All P (b ∷ [])
one_byte P b is = All-cons P b [] is (All-nil P)

literal_in_word : (var : ℕ) (positive : Bool) → var < 2 ^ 64 → All IsInWord (literal_word (record { var = var; positive = positive }))
unfolding IsInWord
literal_in_word var true h = decimal_in_word var h
literal_in_word var false h = All-cons IsInWord 45 (decimal var) (refl, refl) (decimal_in_word var h)

-- ---- words of a line

some_word : (word rest : List ℕ) → 0 < length word → filter (λ w. not (length w == 0)) (word ∷ slice_split (λ b. b == 32) rest) ≡ word ∷ words_in rest
some_word word rest some = let holds : not (length word == 0) ≡ true = grind (arith, nat_tests) in ap (λ t. cond t (word ∷ words_in rest) (words_in rest)) holds

-- a word and a space
word_and_space : (word rest : List ℕ) → All IsInWord word → 0 < length word → words_in (word ++ 32 ∷ rest) ≡ word ∷ words_in rest
unfolding IsInWord
word_and_space word rest all some =
    ap (filter (λ w. not (length w == 0))) (slice_split_at (λ b. b == 32) word 32 rest (weaker (λ b (is : IsInWord b). is.0) word all) refl)
    ∙ some_word word rest some

number_some : (word : List ℕ) → IsNumber word → 0 < length word
number_some [] is = absurd is
number_some (b ∷ word) is = omega arith

literal_some : (word : List ℕ) → IsLiteral word → 0 < length word
literal_some [] is = absurd is
literal_some (b ∷ word) is = omega arith

HasVariables : List Lit → Type 0
HasVariables lits = All (λ l. IsVariable l.var) lits

words_of_literals : (lits : List Lit) (rest : List ℕ) → HasVariables lits → words_in (flat_map literal_text lits ++ rest) ≡ map literal_word lits ++ words_in rest
unfolding HasVariables
words_of_literals [] rest all = refl
words_of_literals (l ∷ lits) rest all =
    let var = All-head (λ l. IsVariable l.var) l lits all in
    let sign : List ℕ = if l.positive then [] else codes "-" in
    let text : literal_text l ≡ literal_word l ++ 32 ∷ [] = sym (append_assoc sign (decimal l.var) (codes " ")) in
    let behind = flat_map literal_text lits ++ rest in
    let whole : flat_map literal_text (l ∷ lits) ++ rest ≡ literal_word l ++ 32 ∷ behind =
    append_assoc (literal_text l) (flat_map literal_text lits) rest ∙ ap (λ t. t ++ behind) text ∙ append_assoc (literal_word l) (32 ∷ []) behind in
    ap words_in whole
    ∙ word_and_space (literal_word l) behind (literal_in_word l.var l.positive (wide l.var var.1)) (literal_some (literal_word l) (is_literal l.var l.positive var))
    ∙ ap (λ ws. literal_word l ∷ ws) (words_of_literals lits rest (All-tail (λ l. IsVariable l.var) l lits all))

InRange : List ℕ → Type 0
InRange hints = All (λ hint. (1 ≤ hint) × (hint ≤ 2147483647)) hints

words_of_hints : (hints : List ℕ) (rest : List ℕ) → InRange hints → words_in (flat_map number_text hints ++ rest) ≡ map decimal hints ++ words_in rest
unfolding InRange
words_of_hints [] rest all = refl
words_of_hints (h ∷ hints) rest all =
    let is = All-head (λ hint. (1 ≤ hint) × (hint ≤ 2147483647)) h hints all in
    let low = is.0 in
    let high = is.1 in
    let behind = flat_map number_text hints ++ rest in
    let whole : flat_map number_text (h ∷ hints) ++ rest ≡ decimal h ++ 32 ∷ behind =
    append_assoc (number_text h) (flat_map number_text hints) rest ∙ append_assoc (decimal h) (codes " ") behind in
    ap words_in whole
    ∙ word_and_space (decimal h) behind (decimal_in_word h (omega arith)) (number_some (decimal h) (decimal_is_number h low (omega arith)))
    ∙ ap (λ ws. decimal h ∷ ws) (words_of_hints hints rest (All-tail (λ hint. (1 ≤ hint) × (hint ≤ 2147483647)) h hints all))

-- a line without its line feed
clause_line : List Lit → List ℕ
clause_line clause = (codes "c " ++ flat_map literal_text clause) ++ codes "0"

step_line : Step → List ℕ
step_line s = (((codes "s " ++ flat_map literal_text s.clause) ++ codes "0 ") ++ flat_map number_text s.hints) ++ codes "0"

words_of_clause : (clause : List Lit) → HasVariables clause → words_in (clause_line clause) ≡ codes "c" ∷ map literal_word clause ++ codes "0" ∷ []
unfolding clause_line IsInWord
words_of_clause clause all =
    ap words_in (append_assoc (codes "c ") (flat_map literal_text clause) (codes "0"))
    ∙ word_and_space (codes "c") (flat_map literal_text clause ++ codes "0") (one_byte IsInWord 99 (refl, refl)) (omega arith)
    ∙ ap (λ ws. codes "c" ∷ ws) (words_of_literals clause (codes "0") all)

words_of_step : (s : Step) → HasVariables s.clause → InRange s.hints → words_in (step_line s) ≡ codes "s" ∷ map literal_word s.clause ++ (codes "0" ∷ map decimal s.hints ++ codes "0" ∷ [])
unfolding step_line IsInWord
words_of_step s all hints =
    let lits = flat_map literal_text s.clause in
    let numbers = flat_map number_text s.hints in
    let whole : step_line s ≡ codes "s " ++ (lits ++ (codes "0 " ++ (numbers ++ codes "0"))) =
    append_assoc ((codes "s " ++ lits) ++ codes "0 ") numbers (codes "0")
    ∙ append_assoc (codes "s " ++ lits) (codes "0 ") (numbers ++ codes "0")
    ∙ append_assoc (codes "s ") lits (codes "0 " ++ (numbers ++ codes "0")) in
    ap words_in whole
    ∙ word_and_space (codes "s") (lits ++ (codes "0 " ++ (numbers ++ codes "0"))) (one_byte IsInWord 115 (refl, refl)) (omega arith)
    ∙ ap (λ ws. codes "s" ∷ ws) (words_of_literals s.clause (codes "0 " ++ (numbers ++ codes "0")) all
    ∙ ap (λ ws. map literal_word s.clause ++ ws) (word_and_space (codes "0") (numbers ++ codes "0") (one_byte IsInWord 48 (refl, refl)) (omega arith)
    ∙ ap (λ ws. codes "0" ∷ ws) (words_of_hints s.hints (codes "0") hints)))

-- ---- lines

behind_all : (front : List ℕ) → get_or (front ++ codes "0") (length front) 0 ≡ 48
behind_all [] = refl
behind_all (b ∷ front) = behind_all front

last_byte : (front : List ℕ) → get_or (front ++ codes "0") (length (front ++ codes "0") - 1) 0 ≡ 48
last_byte front =
    let place : length (front ++ codes "0") - 1 ≡ length front = omega (arith, length-append front (codes "0")) in
    ap (λ n. get_or (front ++ codes "0") n 0) place ∙ behind_all front

kept : (front : List ℕ) → strip_carriage_return (front ++ codes "0") ≡ front ++ codes "0"
kept front =
    let last = last_byte front in
    let fails : (get_or (front ++ codes "0") (length (front ++ codes "0") - 1) 0 == 13) ≡ false = grind (arith, nat_tests) in
    ap (λ t. if t then take (length (front ++ codes "0") - 1) (front ++ codes "0") else front ++ codes "0") fails

parts : List ℕ → List (List ℕ)
parts bytes = slice_split (λ b. b == 10) bytes

before_more : (x : List ℕ) (ps : List (List ℕ)) → 0 < length ps → lines_of_parts (x ∷ ps) ≡ strip_carriage_return x ∷ lines_of_parts ps
before_more x [] some = absurd (omega arith)
before_more x (y ∷ ps) some = refl

-- a line that ends with `0`, and a line feed
line_and_more : (front rest : List ℕ) → All IsInLine front → lines (((front ++ codes "0") ++ codes "\n") ++ rest) ≡ (front ++ codes "0") ∷ lines rest
unfolding IsInLine parts
line_and_more front rest all =
    let line = front ++ codes "0" in
    let whole : parts ((line ++ codes "\n") ++ rest) ≡ line ∷ parts rest =
    ap parts (append_assoc line (codes "\n") rest) ∙ slice_split_at (λ b. b == 10) line 10 rest (All-append IsInLine front (codes "0") all (one_byte IsInLine 48 refl)) refl in
    ap lines_of_parts whole ∙ before_more line (parts rest) (omega (arith, length-slice_split (λ b. b == 10) rest)) ∙ ap (λ l. l ∷ lines rest) (kept front)

in_word_in_line : (b : ℕ) → IsInWord b → IsInLine b
unfolding IsInWord IsInLine
in_word_in_line b is = is.1

space_in_line : All IsInLine (codes " ")
unfolding IsInLine
space_in_line = one_byte IsInLine 32 refl

literals_in_line : (lits : List Lit) → HasVariables lits → All IsInLine (flat_map literal_text lits)
unfolding HasVariables
literals_in_line [] all = All-nil IsInLine
literals_in_line (l ∷ lits) all =
    let var = All-head (λ l. IsVariable l.var) l lits all in
    let sign : List ℕ = if l.positive then [] else codes "-" in
    let text : literal_text l ≡ literal_word l ++ codes " " = sym (append_assoc sign (decimal l.var) (codes " ")) in
    All-append IsInLine (literal_text l) (flat_map literal_text lits)
    (subst (λ (t : List ℕ). All IsInLine t) (sym text) (All-append IsInLine (literal_word l) (codes " ") (weaker in_word_in_line (literal_word l) (literal_in_word l.var l.positive (wide l.var var.1))) space_in_line))
    (literals_in_line lits (All-tail (λ l. IsVariable l.var) l lits all))

hints_in_line : (hints : List ℕ) → InRange hints → All IsInLine (flat_map number_text hints)
unfolding InRange
hints_in_line [] all = All-nil IsInLine
hints_in_line (h ∷ hints) all =
    let is = All-head (λ hint. (1 ≤ hint) × (hint ≤ 2147483647)) h hints all in
    let high = is.1 in
    All-append IsInLine (number_text h) (flat_map number_text hints)
    (All-append IsInLine (decimal h) (codes " ") (weaker in_word_in_line (decimal h) (decimal_in_word h (omega arith))) space_in_line)
    (hints_in_line hints (All-tail (λ hint. (1 ≤ hint) × (hint ≤ 2147483647)) h hints all))

two_in_line : (a b : ℕ) → IsInLine a → IsInLine b → All IsInLine (a ∷ b ∷ [])
two_in_line a b first second = All-cons IsInLine a (b ∷ []) first (one_byte IsInLine b second)

lines_of_clause : (clause : List Lit) (rest : List ℕ) → HasVariables clause → lines (clause_text clause ++ rest) ≡ clause_line clause ∷ lines rest
unfolding clause_line IsInLine
lines_of_clause clause rest all =
    let lits = flat_map literal_text clause in
    ap (λ t. lines (t ++ rest)) (sym (append_assoc (codes "c " ++ lits) (codes "0") (codes "\n")))
    ∙ line_and_more (codes "c " ++ lits) rest (All-append IsInLine (codes "c ") lits (two_in_line 99 32 refl refl) (literals_in_line clause all))

lines_of_step : (s : Step) (rest : List ℕ) → HasVariables s.clause → InRange s.hints → lines (step_text s ++ rest) ≡ step_line s ∷ lines rest
unfolding step_line IsInLine
lines_of_step s rest all hints =
    let lits = flat_map literal_text s.clause in
    let numbers = flat_map number_text s.hints in
    let front = ((codes "s " ++ lits) ++ codes "0 ") ++ numbers in
    ap (λ t. lines (t ++ rest)) (sym (append_assoc front (codes "0") (codes "\n")))
    ∙ line_and_more front rest
    (All-append IsInLine ((codes "s " ++ lits) ++ codes "0 ") numbers
    (All-append IsInLine (codes "s " ++ lits) (codes "0 ") (All-append IsInLine (codes "s ") lits (two_in_line 115 32 refl refl) (literals_in_line s.clause all)) (two_in_line 48 32 refl refl))
    (hints_in_line s.hints hints))

-- ---- what the lines say

words_are_literals : (lits : List Lit) → HasVariables lits → All IsLiteral (map literal_word lits)
unfolding HasVariables
words_are_literals [] all = All-nil IsLiteral
words_are_literals (l ∷ lits) all =
    All-cons IsLiteral (literal_word l) (map literal_word lits) (is_literal l.var l.positive (All-head (λ l. IsVariable l.var) l lits all))
    (words_are_literals lits (All-tail (λ l. IsVariable l.var) l lits all))

literals_of_words : (lits : List Lit) → HasVariables lits → map literal_of (map literal_word lits) ≡ lits
unfolding HasVariables
literals_of_words [] all = refl
literals_of_words (l ∷ lits) all =
    let first = literal_of_word l (All-head (λ l. IsVariable l.var) l lits all) in
    let rest = literals_of_words lits (All-tail (λ l. IsVariable l.var) l lits all) in
    cc

words_are_small : (lits : List Lit) → HasVariables lits → All (λ word. (literal_of word).var ≤ 2147483647) (map literal_word lits)
unfolding HasVariables
words_are_small [] all = All-nil (λ word. (literal_of word).var ≤ 2147483647)
words_are_small (l ∷ lits) all =
    let var = All-head (λ l. IsVariable l.var) l lits all in
    let high = var.1 in
    let small : l.var ≤ 2147483647 = omega arith in
    All-cons (λ word. (literal_of word).var ≤ 2147483647) (literal_word l) (map literal_word lits) (subst (λ (m : Lit). m.var ≤ 2147483647) (sym (literal_of_word l var)) small)
    (words_are_small lits (All-tail (λ l. IsVariable l.var) l lits all))

hints_are_numbers : (hints : List ℕ) → InRange hints → All IsNumber (map decimal hints)
unfolding InRange
hints_are_numbers [] all = All-nil IsNumber
hints_are_numbers (h ∷ hints) all =
    let is = All-head (λ hint. (1 ≤ hint) × (hint ≤ 2147483647)) h hints all in
    let high = is.1 in
    All-cons IsNumber (decimal h) (map decimal hints) (decimal_is_number h is.0 (omega arith)) (hints_are_numbers hints (All-tail (λ hint. (1 ≤ hint) × (hint ≤ 2147483647)) h hints all))

numbers_of_words : (hints : List ℕ) → InRange hints → map number_of (map decimal hints) ≡ hints
unfolding InRange
numbers_of_words [] all = refl
numbers_of_words (h ∷ hints) all =
    let is = All-head (λ hint. (1 ≤ hint) × (hint ≤ 2147483647)) h hints all in
    let high = is.1 in
    let first = value_of_decimal h (omega arith) in
    let rest = numbers_of_words hints (All-tail (λ hint. (1 ≤ hint) × (hint ≤ 2147483647)) h hints all) in
    cc

hints_are_small : (hints : List ℕ) → InRange hints → All (λ word. number_of word ≤ 2147483647) (map decimal hints)
unfolding InRange
hints_are_small [] all = All-nil (λ word. number_of word ≤ 2147483647)
hints_are_small (h ∷ hints) all =
    let is = All-head (λ hint. (1 ≤ hint) × (hint ≤ 2147483647)) h hints all in
    let high = is.1 in
    let value = value_of_decimal h (omega arith) in
    All-cons (λ word. number_of word ≤ 2147483647) (decimal h) (map decimal hints) (omega arith) (hints_are_small hints (All-tail (λ hint. (1 ≤ hint) × (hint ≤ 2147483647)) h hints all))

clause_of_words : (clause : List Lit) → IsClause clause → IsClauseOf (map literal_word clause) clause
unfolding HasVariables
clause_of_words clause is = record {
  is_clause = is;
  same = subst (λ (ls : List Lit). HasSameLiterals ls clause) (sym (literals_of_words clause is.variables)) (λ l. (λ there. there, λ there. there));
}

says_clause : (clause : List Lit) → IsClause clause → SaysClause (words_in (clause_line clause)) clause
unfolding HasVariables
says_clause clause is = record {
  literals = map literal_word clause;
  line = record { spelled = words_of_clause clause is.variables; each = words_are_literals clause is.variables };
  small = record { variables = words_are_small clause is.variables; numbers = All-nil (λ word. number_of word ≤ 2147483647) };
  said = clause_of_words clause is;
}

says_step : (s : Step) → IsClause s.clause → InRange s.hints → SaysStep (words_in (step_line s)) s
unfolding HasVariables
says_step s is hints = record {
  literals = map literal_word s.clause;
  hints = map decimal s.hints;
  line = record { spelled = words_of_step s is.variables hints; each_literal = words_are_literals s.clause is.variables; each_hint = hints_are_numbers s.hints hints };
  small = record { variables = words_are_small s.clause is.variables; numbers = hints_are_small s.hints hints };
  said = clause_of_words s.clause is;
  numbers = sym (numbers_of_words s.hints hints);
}

-- the lines of steps
record AreSteps (text : List ℕ) (steps : List Step) : Type 0 where
  step_lines : List (List (List ℕ))
  in_order : sentences (lines text) ≡ step_lines
  each_step : AllZip SaysStep step_lines steps

IsStep : Step → Type 0
IsStep s = IsClause s.clause × InRange s.hints

steps_are : (steps : List Step) → All IsStep steps → AreSteps (flat_map step_text steps) steps
unfolding IsStep HasVariables
steps_are [] all = record { step_lines = []; in_order = refl; each_step = tt }
steps_are (s ∷ steps) all =
    let is = All-head IsStep s steps all in
    let rest = steps_are steps (All-tail IsStep s steps all) in
    let says = says_step s is.0 is.1 in
    let others = flat_map step_text steps in
    record {
      step_lines = words_in (step_line s) ∷ rest.step_lines;
      in_order = ap sentences (lines_of_step s others is.0.variables is.1) ∙ sentences_both (step_line s ∷ []) (lines others) ∙ ap (λ ls. ls ++ sentences (lines others)) (sentence_of (step_line s) (step_has_words (words_in (step_line s)) s says)) ∙ ap (λ ls. words_in (step_line s) ∷ ls) rest.in_order;
      each_step = (says, rest.each_step);
    }

clauses_and_steps : (clauses : List (List Lit)) (steps : List Step) (text : List ℕ) → All IsClause clauses → AreSteps text steps → Says (lines (flat_map clause_text clauses ++ text)) clauses steps
unfolding HasVariables
clauses_and_steps [] steps text all are = record { clause_lines = []; step_lines = are.step_lines; in_order = are.in_order; each_clause = tt; each_step = are.each_step }
clauses_and_steps (c ∷ clauses) steps text all are =
    let is = All-head IsClause c clauses all in
    let rest = clauses_and_steps clauses steps text (All-tail IsClause c clauses all) are in
    let says = says_clause c is in
    let others = flat_map clause_text clauses ++ text in
    record {
      clause_lines = words_in (clause_line c) ∷ rest.clause_lines;
      step_lines = rest.step_lines;
      in_order = ap (λ t. sentences (lines t)) (append_assoc (clause_text c) (flat_map clause_text clauses) text)
          ∙ ap sentences (lines_of_clause c others is.variables) ∙ sentences_both (clause_line c ∷ []) (lines others)
          ∙ ap (λ ls. ls ++ sentences (lines others)) (sentence_of (clause_line c) (clause_has_words (words_in (clause_line c)) c says)) ∙ ap (λ ls. words_in (clause_line c) ∷ ls) rest.in_order;
      each_clause = (says, rest.each_clause);
      each_step = rest.each_step;
    }

both : (log : List Step) → All (λ s. IsClause s.clause) log → HasHintsInRange log → All IsStep log
unfolding IsStep InRange
both [] clauses hints = All-nil IsStep
both (s ∷ log) clauses hints =
    All-cons IsStep s log (All-head (λ s. IsClause s.clause) s log clauses, All-head (λ s. All (λ hint. (1 ≤ hint) × (hint ≤ 2147483647)) s.hints) s log hints)
    (both log (All-tail (λ s. IsClause s.clause) s log clauses) (All-tail (λ s. All (λ hint. (1 ≤ hint) × (hint ≤ 2147483647)) s.hints) s log hints))

-- the text that is written says the clauses and the steps
pub written_says : (clauses : List (List Lit)) (log : List Step) → All IsClause clauses → All (λ s. IsClause s.clause) log → HasHintsInRange log → Says (lines (proof_text clauses log)) clauses log
written_says clauses log are steps hints = clauses_and_steps clauses log (flat_map step_text log) are (steps_are log (both log steps hints))

-- ---- one clause more

some_same : (x y : List Lit) → Some x ≡ Some y → x ≡ y
some_same x y e = cc

flat_push : (clauses : List (List Lit)) (n : ℕ) (c : List Lit) → slice_get clauses n ≡ Some c → flat_map clause_text (take n clauses) ++ clause_text c ≡ flat_map clause_text (take (n + 1) clauses)
flat_push [] n c e = absurd (cc)
flat_push (x ∷ clauses) zero c e = ap clause_text (sym (some_same x c e)) ∙ sym (append-nil (clause_text x))
flat_push (x ∷ clauses) (suc n) c e =
    let next : suc n + 1 ≡ suc (n + 1) = omega arith in
    append_assoc (clause_text x) (flat_map clause_text (take n clauses)) (clause_text c) ∙ ap (λ t. clause_text x ++ t) (flat_push clauses n c e)
    ∙ sym (ap (λ k. flat_map clause_text (take k (x ∷ clauses))) next)

pub clause_written : (clauses : List (List Lit)) (n : ℕ) (c : List Lit) (old out new : List ℕ) → slice_get clauses n ≡ Some c → out ≡ old ++ flat_map clause_text (take n clauses) → new ≡ out ++ clause_text c
    → new ≡ old ++ flat_map clause_text (take (n + 1) clauses)
clause_written clauses n c old out new there so_far more =
    more ∙ ap (λ t. t ++ clause_text c) so_far ∙ append_assoc old (flat_map clause_text (take n clauses)) (clause_text c) ∙ ap (λ t. old ++ t) (flat_push clauses n c there)
