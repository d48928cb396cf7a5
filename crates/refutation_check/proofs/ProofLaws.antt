-- A text says one proof at most, or has one first fault.
use Rattle.std.proofs.Common.{◌≡◌, ◌≢◌, ◌≤◌, ◌<◌, ◌+◌, ◌-◌, ◌⊎◌, ℕ, zero, suc, Bool, not, true, false, Option, None, Some, List, [], ◌∷◌, ◌++◌, codes, length, map, take, drop, get_or, slice_get, Result, Ok, Err, IfOk, IfErr, MatchResult, refl, sym, subst, ap, ◌∙◌, arith, inl, inr, append_assoc}
use Rattle.std.specs.Prelude.{All, AllPairs, Contains}
use Rattle.std.specs.List.{AllZip}
use Rattle.std.proofs.lemmas.Bool.{cases_lt}
use Rattle.std.proofs.lemmas.List.{append-nil}
use Rattle.std.proofs.lemmas.List.Elements.{All-nil, All-cons, All-head, All-tail}
use Rattle.std.specs.Str.Lines.{lines}
use Rattle.cnf_core.specs.declared.literal.Lit.{Lit}
use Rattle.cnf_core.specs.Formula.{Formula}
use Rattle.cnf_core.specs.Literal.{negation_of, IsClause, IsTautology, HasSameLiterals}
use Rattle.cnf_core.proofs.Literals.{not_both, same_var}
use Rattle.refutation_check.specs.declared.log.Step.{Step}
use Rattle.refutation_check.specs.declared.proof_text.fault.ProofFault.{ProofFault}
use Rattle.refutation_check.specs.declared.proof_text.fault.ProofFault.TheVariants.{BadLine, NumberTooLarge, Tautology, TooLong, Memory}
use Rattle.refutation_check.specs.Chain.{members_of}
use Rattle.refutation_check.specs.ProofText.{words_in, sentences, number_of, literal_of, IsLiteral, IsNumber, AreSmall, IsClauseLine, IsStepLine, IsClauseOf, SaysClause, SaysStep, Says, largest_in, IsProofText}
use Rattle.refutation_check.specs.ProofFault.{HasForm, IsBadLine, IsTooLarge, IsContradictory, IsFirst, HasFault}
use Rattle.refutation_check.proofs.Fronts.{same_head, same_tail, one_split}
use Rattle.refutation_check.proofs.ReadLines.{zero_is_no_literal, zero_is_no_number}
use Rattle.refutation_check.proofs.ReadProgress.{not_both as not_two_forms}
use Rattle.refutation_check.proofs.TextLines.{zip_none, clause_has_words, step_has_words, sentences_both, sentence_of}

-- ---- clauses

first_or_later : (x : Lit) (xs : List Lit) (l : Lit) → Contains (x ∷ xs) l → (x ≡ l) ⊎ Contains xs l
first_or_later x xs l (zero, h, e) = inl e
first_or_later x xs l (suc k, h, e) = inr (k, omega arith, e)

later : (x : Lit) (xs : List Lit) (l : Lit) → Contains xs l → Contains (x ∷ xs) l
later x xs l (k, h, e) = (suc k, omega arith, e)

at_first : (x : Lit) (xs : List Lit) → Contains (x ∷ xs) x
at_first x xs = (zero, omega arith, refl)

Rising : List Lit → Type 0
Rising lits = AllPairs (λ earlier later. earlier.var < later.var) lits

rising_tail : (x : Lit) (xs : List Lit) → Rising (x ∷ xs) → Rising xs
unfolding Rising
rising_tail x xs rising i j d less within = rising (suc i) (suc j) d (omega arith) (omega arith)

above_first : (x : Lit) (xs : List Lit) (l : Lit) → Rising (x ∷ xs) → Contains xs l → x.var < l.var
unfolding Rising
above_first x xs l rising (k, h, e) = let above = rising zero (suc k) l (omega arith) (omega arith) in subst (λ (m : Lit). x.var < m.var) e above

Same : List Lit → List Lit → Type 0
Same xs ys = (l : Lit) → (Contains xs l → Contains ys l) × (Contains ys l → Contains xs l)

none_in : (l : Lit) → Contains [] l → ⊥
none_in l (k, h, e) = absurd (omega arith)

same_first : (x y : Lit) (xs ys : List Lit) → Rising (x ∷ xs) → Rising (y ∷ ys) → Same (x ∷ xs) (y ∷ ys) → x ≡ y
unfolding Same
same_first x y xs ys rx ry same =
    elim (first_or_later y ys x ((same x).0 (at_first x xs))) [
      | inl e ↦ sym e
      | inr x_later ↦ elim (first_or_later x xs y ((same y).1 (at_first y ys))) [
        | inl e ↦ e
        | inr y_later ↦ let a = above_first y ys x ry x_later in let b = above_first x xs y rx y_later in absurd (omega arith)
      ]
    ]

tail_goes : (x y : Lit) (xs ys : List Lit) → Rising (x ∷ xs) → x ≡ y → ((l : Lit) → Contains (x ∷ xs) l → Contains (y ∷ ys) l) → (l : Lit) → Contains xs l → Contains ys l
tail_goes x y xs ys rx e goes l there =
    elim (first_or_later y ys l (goes l (later x xs l there))) [
      | inl is ↦ let above = above_first x xs l rx there in let same : x.var ≡ l.var = ap (λ (m : Lit). m.var) (e ∙ is) in absurd (omega arith)
      | inr inside ↦ inside
    ]

-- rising lists with the same literals are one list
same_rising : (xs ys : List Lit) → Rising xs → Rising ys → Same xs ys → xs ≡ ys
unfolding Same
same_rising [] [] rx ry same = refl
same_rising [] (y ∷ ys) rx ry same = absurd (none_in y ((same y).1 (at_first y ys)))
same_rising (x ∷ xs) [] rx ry same = absurd (none_in x ((same x).0 (at_first x xs)))
same_rising (x ∷ xs) (y ∷ ys) rx ry same =
    let first = same_first x y xs ys rx ry same in
    let rest = same_rising xs ys (rising_tail x xs rx) (rising_tail y ys ry)
    (λ l. (tail_goes x y xs ys rx first (λ m. (same m).0) l, tail_goes y x ys xs ry (sym first) (λ m. (same m).1) l)) in
    cc

pub one_clause : (literals others : List (List ℕ)) (a b : List Lit) → literals ≡ others → IsClauseOf literals a → IsClauseOf others b → a ≡ b
unfolding Same Rising
one_clause literals others a b e first second =
    let same = subst (λ (ls : List (List ℕ)). HasSameLiterals (map literal_of ls) a) e first.same in
    same_rising a b first.is_clause.rising second.is_clause.rising (λ l. (λ there. (second.same l).0 ((same l).1 there), λ there. (same l).0 ((second.same l).1 there)))

-- ---- lines

clause_literals : (words literals others : List (List ℕ)) → IsClauseLine words literals → IsClauseLine words others → literals ≡ others
clause_literals words literals others a b =
    let tail = same_tail (codes "c") (codes "c") (literals ++ codes "0" ∷ []) (others ++ codes "0" ∷ []) (sym a.spelled ∙ b.spelled) in
    (one_split IsLiteral literals others [] [] (codes "0") (codes "0") a.each zero_is_no_literal b.each zero_is_no_literal tail).before

record SameParts (literals others hints numbers : List (List ℕ)) : Type 0 where
  literals_are : literals ≡ others
  hints_are : hints ≡ numbers

step_parts : (words literals others hints numbers : List (List ℕ)) → IsStepLine words literals hints → IsStepLine words others numbers → SameParts literals others hints numbers
step_parts words literals others hints numbers a b =
    let tail = same_tail (codes "s") (codes "s") (literals ++ (codes "0" ∷ hints ++ codes "0" ∷ [])) (others ++ (codes "0" ∷ numbers ++ codes "0" ∷ [])) (sym a.spelled ∙ b.spelled) in
    let front = one_split IsLiteral literals others (hints ++ codes "0" ∷ []) (numbers ++ codes "0" ∷ []) (codes "0") (codes "0") a.each_literal zero_is_no_literal b.each_literal zero_is_no_literal tail in
    let back = one_split IsNumber hints numbers [] [] (codes "0") (codes "0") a.each_hint zero_is_no_number b.each_hint zero_is_no_number front.behind in
    record { literals_are = front.before; hints_are = back.before }

says_one_clause : (words : List (List ℕ)) (a b : List Lit) → SaysClause words a → SaysClause words b → a ≡ b
says_one_clause words a b first second = one_clause first.literals second.literals a b (clause_literals words first.literals second.literals first.line second.line) first.said second.said

says_one_step : (words : List (List ℕ)) (a b : Step) → SaysStep words a → SaysStep words b → a ≡ b
says_one_step words a b first second =
    let parts = step_parts words first.literals second.literals first.hints second.hints first.line second.line in
    let clauses = one_clause first.literals second.literals a.clause b.clause parts.literals_are first.said second.said in
    let hints : a.hints ≡ b.hints = first.numbers ∙ ap (map number_of) parts.hints_are ∙ sym second.numbers in
    ap (λ (c : List Lit). record { clause = c; hints = a.hints }) clauses ∙ ap (λ (hs : List ℕ). record { clause = b.clause; hints = hs }) hints

not_both_said : (words : List (List ℕ)) (c : List Lit) (s : Step) → SaysClause words c → SaysStep words s → ⊥
not_both_said words c s clause step = not_two_forms words clause.literals step.literals step.hints clause.line step.line

-- ---- lines in order

record SameProof (clauses others : List (List Lit)) (steps more : List Step) : Type 0 where
  clauses_are : clauses ≡ others
  steps_are : steps ≡ more

steps_same : (t : List (List (List ℕ))) (u : List (List (List ℕ))) (ss ss' : List Step) → AllZip SaysStep t ss → AllZip SaysStep u ss' → t ≡ u → ss ≡ ss'
steps_same [] [] [] [] zt zu e = refl
steps_same [] [] [] (s ∷ ss') zt zu e = absurd zu
steps_same [] [] (s ∷ ss) ss' zt zu e = absurd zt
steps_same [] (w ∷ u) ss ss' zt zu e = absurd (omega (arith, ap length e))
steps_same (w ∷ t) [] ss ss' zt zu e = absurd (omega (arith, ap length e))
steps_same (w ∷ t) (v ∷ u) [] ss' zt zu e = absurd zt
steps_same (w ∷ t) (v ∷ u) (s ∷ ss) [] zt zu e = absurd zu
steps_same (w ∷ t) (v ∷ u) (s ∷ ss) (s' ∷ ss') zt zu e =
    let first = says_one_step w s s' zt.0 (subst (λ (x : List (List ℕ)). SaysStep x s') (sym (same_head w v t u e)) zu.0) in
    let rest = steps_same t u ss ss' zt.1 zu.1 (same_tail w v t u e) in
    cc

step_first : (t : List (List (List ℕ))) (ss : List Step) (w : List (List ℕ)) (u : List (List (List ℕ))) → AllZip SaysStep t ss → t ≡ w ∷ u → (s : Step) × SaysStep w s
step_first [] ss w u zip e = absurd (omega (arith, ap length e))
step_first (v ∷ t) [] w u zip e = absurd zip
step_first (v ∷ t) (s ∷ ss) w u zip e = (s, subst (λ (x : List (List ℕ)). SaysStep x s) (same_head v w t u e) zip.0)

same_proof : (a a' b b' : List (List (List ℕ))) (cs cs' : List (List Lit)) (ss ss' : List Step) → AllZip SaysClause a cs → AllZip SaysStep b ss → AllZip SaysClause a' cs' → AllZip SaysStep b' ss'
    → a ++ b ≡ a' ++ b' → SameProof cs cs' ss ss'
same_proof [] [] b b' [] [] ss ss' za zb za' zb' e = record { clauses_are = refl; steps_are = steps_same b b' ss ss' zb zb' e }
same_proof [] [] b b' [] (c ∷ cs') ss ss' za zb za' zb' e = absurd za'
same_proof [] [] b b' (c ∷ cs) cs' ss ss' za zb za' zb' e = absurd za
same_proof [] (w ∷ a') b b' cs [] ss ss' za zb za' zb' e = absurd za'
same_proof [] (w ∷ a') b b' cs (c ∷ cs') ss ss' za zb za' zb' e = let step = step_first b ss w (a' ++ b') zb e in absurd (not_both_said w c step.0 za'.0 step.1)
same_proof (w ∷ a) [] b b' [] cs' ss ss' za zb za' zb' e = absurd za
same_proof (w ∷ a) [] b b' (c ∷ cs) cs' ss ss' za zb za' zb' e = let step = step_first b' ss' w (a ++ b) zb' (sym e) in absurd (not_both_said w c step.0 za.0 step.1)
same_proof (w ∷ a) (v ∷ a') b b' [] cs' ss ss' za zb za' zb' e = absurd za
same_proof (w ∷ a) (v ∷ a') b b' (c ∷ cs) [] ss ss' za zb za' zb' e = absurd za'
same_proof (w ∷ a) (v ∷ a') b b' (c ∷ cs) (c' ∷ cs') ss ss' za zb za' zb' e =
    let first = says_one_clause w c c' za.0 (subst (λ (x : List (List ℕ)). SaysClause x c') (sym (same_head w v (a ++ b) (a' ++ b') e)) za'.0) in
    let rest = same_proof a a' b b' cs cs' ss ss' za.1 zb za'.1 zb' (same_tail w v (a ++ b) (a' ++ b') e) in
    let clauses = rest.clauses_are in
    record { clauses_are = cc; steps_are = rest.steps_are }

-- lines say one formula and one log at most
says_one : (ls : List (List ℕ)) (clauses others : List (List Lit)) (steps more : List Step) → Says ls clauses steps → Says ls others more → SameProof clauses others steps more
says_one ls clauses others steps more a b =
    same_proof a.clause_lines b.clause_lines a.step_lines b.step_lines clauses others steps more a.each_clause a.each_step b.each_clause b.each_step (sym a.in_order ∙ b.in_order)

-- ---- a line among others

-- the line says a clause behind no step, or a step
record Good (before : List Step) (words : List (List ℕ)) : Type 0 where
  literals : List (List ℕ)
  hints : List (List ℕ)
  form : HasForm before words literals hints
  small : AreSmall literals hints
  clause : List Lit
  said : IsClauseOf literals clause

record Cut (front : List (List (List ℕ))) (words : List (List ℕ)) : Type 0 where
  clause_lines : List (List (List ℕ))
  step_lines : List (List (List ℕ))
  clauses : List (List Lit)
  steps : List Step
  in_order : front ≡ clause_lines ++ step_lines
  each_clause : AllZip SaysClause clause_lines clauses
  each_step : AllZip SaysStep step_lines steps
  good : Good steps words

good_step : (before : List Step) (words : List (List ℕ)) (s : Step) → SaysStep words s → Good before words
good_step before words s says = record { literals = says.literals; hints = says.hints; form = inr says.line; small = says.small; clause = s.clause; said = says.said }

good_clause : (words : List (List ℕ)) (c : List Lit) → SaysClause words c → Good [] words
good_clause words c says = record { literals = says.literals; hints = []; form = inl (says.line, refl, refl); small = says.small; clause = c; said = says.said }

record CutSteps (front : List (List (List ℕ))) (words : List (List ℕ)) : Type 0 where
  steps : List Step
  each_step : AllZip SaysStep front steps
  step : Step
  said : SaysStep words step

cut_steps : (front t behind : List (List (List ℕ))) (words : List (List ℕ)) (ss : List Step) → AllZip SaysStep t ss → front ++ words ∷ behind ≡ t → CutSteps front words
cut_steps [] t behind words ss zip e = let first = step_first t ss words behind zip (sym e) in record { steps = []; each_step = tt; step = first.0; said = first.1 }
cut_steps (w ∷ front) [] behind words ss zip e = absurd (omega (arith, ap length e))
cut_steps (w ∷ front) (v ∷ t) behind words [] zip e = absurd zip
cut_steps (w ∷ front) (v ∷ t) behind words (s ∷ ss) zip e =
    let rest = cut_steps front t behind words ss zip.1 (same_tail w v (front ++ words ∷ behind) t e) in
    record {
      steps = s ∷ rest.steps;
      each_step = (subst (λ (x : List (List ℕ)). SaysStep x s) (sym (same_head w v (front ++ words ∷ behind) t e)) zip.0, rest.each_step);
      step = rest.step;
      said = rest.said;
    }

cut : (front a t behind : List (List (List ℕ))) (words : List (List ℕ)) (cs : List (List Lit)) (ss : List Step) → AllZip SaysClause a cs → AllZip SaysStep t ss → front ++ words ∷ behind ≡ a ++ t → Cut front words
cut front [] t behind words cs ss za zt e =
    let steps = cut_steps front t behind words ss zt e in
    record { clause_lines = []; step_lines = front; clauses = []; steps = steps.steps; in_order = refl; each_clause = tt; each_step = steps.each_step; good = good_step steps.steps words steps.step steps.said }
cut [] (v ∷ a) t behind words [] ss za zt e = absurd za
cut [] (v ∷ a) t behind words (c ∷ cs) ss za zt e =
    record {
      clause_lines = [];
      step_lines = [];
      clauses = [];
      steps = [];
      in_order = refl;
      each_clause = tt;
      each_step = tt;
      good = good_clause words c (subst (λ (x : List (List ℕ)). SaysClause x c) (sym (same_head words v behind (a ++ t) e)) za.0);
    }
cut (w ∷ front) (v ∷ a) t behind words [] ss za zt e = absurd za
cut (w ∷ front) (v ∷ a) t behind words (c ∷ cs) ss za zt e =
    let rest = cut front a t behind words cs ss za.1 zt (same_tail w v (front ++ words ∷ behind) (a ++ t) e) in
    record {
      clause_lines = w ∷ rest.clause_lines;
      step_lines = rest.step_lines;
      clauses = c ∷ rest.clauses;
      steps = rest.steps;
      in_order = ap (λ ls. w ∷ ls) rest.in_order;
      each_clause = (subst (λ (x : List (List ℕ)). SaysClause x c) (sym (same_head w v (front ++ words ∷ behind) (a ++ t) e)) za.0, rest.each_clause);
      each_step = rest.each_step;
      good = rest.good;
    }

-- among lines that say a proof, one with words is good behind the steps that those before it say
good_there : (front behind : List (List ℕ)) (line : List ℕ) (cs before : List (List Lit)) (ss steps : List Step) → Says (front ++ line ∷ behind) cs ss → words_in line ≢ [] → Says front before steps → Good steps (words_in line)
good_there front behind line cs before ss steps says some earlier =
    let here : sentences (line ∷ behind) ≡ words_in line ∷ sentences behind = sentences_both (line ∷ []) behind ∙ ap (λ ls. ls ++ sentences behind) (sentence_of line some) in
    let whole = sym (sentences_both front (line ∷ behind) ∙ ap (λ ls. sentences front ++ ls) here) ∙ says.in_order in
    let there = cut (sentences front) says.clause_lines says.step_lines (sentences behind) (words_in line) cs ss says.each_clause says.each_step whole in
    let said : Says front there.clauses there.steps = record { clause_lines = there.clause_lines; step_lines = there.step_lines; in_order = there.in_order; each_clause = there.each_clause; each_step = there.each_step } in
    subst (λ (s : List Step). Good s (words_in line)) (says_one front there.clauses before there.steps steps said earlier).steps_are there.good

-- ---- faults

form_has_words : (before : List Step) (words literals hints : List (List ℕ)) → HasForm before words literals hints → words ≢ []
form_has_words before words literals hints (inl clause) e = absurd (omega (arith, ap length (sym e ∙ clause.0.spelled)))
form_has_words before words literals hints (inr step) e = absurd (omega (arith, ap length (sym e ∙ step.spelled)))

-- a line has one form
one_form : (before : List Step) (words literals others hints numbers : List (List ℕ)) → HasForm before words literals hints → HasForm before words others numbers → SameParts literals others hints numbers
one_form before words literals others hints numbers (inl a) (inl b) = record { literals_are = clause_literals words literals others a.0 b.0; hints_are = a.1 ∙ sym b.1 }
one_form before words literals others hints numbers (inl a) (inr b) = absurd (not_two_forms words literals others numbers a.0 b)
one_form before words literals others hints numbers (inr a) (inl b) = absurd (not_two_forms words others literals hints b.0 a)
one_form before words literals others hints numbers (inr a) (inr b) = step_parts words literals others hints numbers a b

same_small : (literals others hints numbers : List (List ℕ)) → SameParts literals others hints numbers → AreSmall literals hints → AreSmall others numbers
same_small literals others hints numbers same small =
    subst (λ (ls : List (List ℕ)). AreSmall ls numbers) same.literals_are (subst (λ (hs : List (List ℕ)). AreSmall literals hs) same.hints_are small)

no_tautology : (literals : List (List ℕ)) (clause : List Lit) → IsClauseOf literals clause → IsTautology (map literal_of literals) → ⊥
no_tautology literals clause is (l, here, there) = not_both clause is.is_clause.rising l ((is.same l).0 here) ((is.same (negation_of l)).0 there)

-- a kind of fault that comes only where there are words, and never of a good line
record IsFaultKind (HasThis : List Step → List (List ℕ) → Type 0) : Type 0 where
  some : (before : List Step) (words : List (List ℕ)) → HasThis before words → words ≢ []
  bad : (before : List Step) (words : List (List ℕ)) → HasThis before words → Good before words → ⊥

bad_line : IsFaultKind IsBadLine
bad_line = record { some = λ before words fault. fault.0; bad = λ before words fault good. fault.1 good.literals good.hints good.form }

too_large : IsFaultKind IsTooLarge
too_large = record {
  some = λ before words fault. form_has_words before words fault.0 fault.1 fault.2;
  bad = λ before words fault good. fault.3 (same_small good.literals fault.0 good.hints fault.1 (one_form before words good.literals fault.0 good.hints fault.1 good.form fault.2) good.small);
}

contradictory : IsFaultKind IsContradictory
contradictory = record {
  some = λ before words fault. form_has_words before words fault.0 fault.1 fault.2;
  bad = λ before words fault good.
      let same = (one_form before words fault.0 good.literals fault.1 good.hints fault.2 good.form).literals_are in
      no_tautology good.literals good.clause good.said (subst (λ (ls : List (List ℕ)). IsTautology (map literal_of ls)) same fault.4);
}

split_there : (ls : List (List ℕ)) (n : ℕ) (line : List ℕ) → slice_get ls n ≡ Some line → ls ≡ take n ls ++ line ∷ drop (suc n) ls
split_there [] n line e = absurd (cc)
split_there (x ∷ ls) zero line e = ap (λ y. y ∷ ls) (some_same x line e)
  where
    some_same : (x y : List ℕ) → Some x ≡ Some y → x ≡ y
    some_same x y e = cc
split_there (x ∷ ls) (suc n) line e = ap (λ ys. x ∷ ys) (split_there ls n line e)

take_there : (ls : List (List ℕ)) (n k : ℕ) (line : List ℕ) → slice_get ls n ≡ Some line → n < k → slice_get (take k ls) n ≡ Some line
take_there [] n k line e l = absurd (cc)
take_there (x ∷ ls) n zero line e l = absurd (omega arith)
take_there (x ∷ ls) zero (suc k) line e l = e
take_there (x ∷ ls) (suc n) (suc k) line e l = take_there ls n k line e (omega arith)

take_less : (ls : List (List ℕ)) (n k : ℕ) → n ≤ k → take n (take k ls) ≡ take n ls
take_less [] n zero l = refl
take_less [] n (suc k) l = refl
take_less (x ∷ ls) zero k l = refl
take_less (x ∷ ls) (suc n) zero l = absurd (omega arith)
take_less (x ∷ ls) (suc n) (suc k) l = ap (λ ys. x ∷ ys) (take_less ls n k (omega arith))

-- no line of lines that say a proof has a fault
no_fault : (HasThis : List Step → List (List ℕ) → Type 0) → IsFaultKind HasThis → (ls : List (List ℕ)) (n : ℕ) (cs : List (List Lit)) (ss : List Step) → IsFirst ls n HasThis → Says ls cs ss → ⊥
no_fault HasThis kind ls n cs ss first says =
    let split = split_there ls (n - 1) first.line first.there in
    kind.bad first.before (words_in first.line) first.fault
    (good_there (take (n - 1) ls) (drop (suc (n - 1)) ls) first.line cs first.clauses ss first.before (subst (λ (xs : List (List ℕ)). Says xs cs ss) split says)
    (kind.some first.before (words_in first.line) first.fault) first.says)

-- of two faults at different lines, the later one isn't first
earlier_fault : (This That : List Step → List (List ℕ) → Type 0) → IsFaultKind This → (ls : List (List ℕ)) (n m : ℕ) → IsFirst ls n This → IsFirst ls m That → n < m → ⊥
earlier_fault This That kind ls n m first second less =
    let from_one = first.from_one in
    no_fault This kind (take (m - 1) ls) n second.clauses second.before
    (record {
      from_one = first.from_one;
      line = first.line;
      there = take_there ls (n - 1) (m - 1) first.line first.there (omega arith);
      clauses = first.clauses;
      before = first.before;
      says = subst (λ (xs : List (List ℕ)). Says xs first.clauses first.before) (sym (take_less ls (n - 1) (m - 1) (omega arith))) first.says;
      fault = first.fault;
    }) second.says

-- ---- whole texts

pub one_proof : (bytes : List ℕ) (f g : Formula) (log other : List Step) → IsProofText bytes f log → IsProofText bytes g other → (f ≡ g) × (log ≡ other)
one_proof bytes f g log other a b =
    let same = says_one (lines bytes) f.clauses g.clauses log other a.says b.says in
    let vars : f.vars ≡ g.vars = a.vars ∙ ap (λ (cs : List (List Lit)). largest_in (members_of cs log)) same.clauses_are ∙ ap (λ (l : List Step). largest_in (members_of g.clauses l)) same.steps_are ∙ sym b.vars in
    (ap (λ (n : ℕ). record { vars = n; clauses = f.clauses }) vars ∙ ap (λ (cs : List (List Lit)). record { vars = g.vars; clauses = cs }) same.clauses_are, same.steps_are)

pub proof_has_no_fault : (bytes : List ℕ) (f : Formula) (log : List Step) (fault : ProofFault) → IsProofText bytes f log → HasFault bytes fault → fault ≡ Memory
proof_has_no_fault bytes f log TooLong is fault = let short = is.short in absurd (omega arith)
proof_has_no_fault bytes f log (BadLine n) is fault = absurd (no_fault IsBadLine bad_line (lines bytes) n f.clauses log fault.1 is.says)
proof_has_no_fault bytes f log (NumberTooLarge n) is fault = absurd (no_fault IsTooLarge too_large (lines bytes) n f.clauses log fault.1 is.says)
proof_has_no_fault bytes f log (Tautology n) is fault = absurd (no_fault IsContradictory contradictory (lines bytes) n f.clauses log fault.1 is.says)
proof_has_no_fault bytes f log Memory is fault = refl

-- the first line with a fault is one, with these lines before it
same_line : (This That : List Step → List (List ℕ) → Type 0) → IsFaultKind This → IsFaultKind That → (ls : List (List ℕ)) (n m : ℕ) → IsFirst ls n This → IsFirst ls m That → n ≡ m
same_line This That one other ls n m first second =
    elim (cases_lt n m) [
      | inl less ↦ absurd (earlier_fault This That one ls n m first second less)
      | inr more ↦ elim (cases_lt m n) [
        | inl less ↦ absurd (earlier_fault That This other ls m n second first less)
        | inr equal ↦ omega arith
      ]
    ]

some_same : (x y : List ℕ) → Some x ≡ Some y → x ≡ y
some_same x y e = cc

-- what is said of the line by the one, in the words of the other
moved : (This That : List Step → List (List ℕ) → Type 0) (ls : List (List ℕ)) (n : ℕ) (first : IsFirst ls n This) (second : IsFirst ls n That) → That first.before (words_in first.line)
moved This That ls n first second =
    let line = some_same second.line first.line (sym second.there ∙ first.there) in
    let before = (says_one (take (n - 1) ls) second.clauses first.clauses second.before first.before second.says first.says).steps_are in
    subst (λ (l : List ℕ). That first.before (words_in l)) line (subst (λ (s : List Step). That s (words_in second.line)) before second.fault)

-- two kinds that no line has both
Apart : (List Step → List (List ℕ) → Type 0) → (List Step → List (List ℕ) → Type 0) → Type 0
Apart This That = (before : List Step) (words : List (List ℕ)) → This before words → That before words → ⊥

not_both_faults : (This That : List Step → List (List ℕ) → Type 0) → IsFaultKind This → IsFaultKind That → Apart This That → (ls : List (List ℕ)) (n m : ℕ) → IsFirst ls n This → IsFirst ls m That → ⊥
unfolding Apart
not_both_faults This That one other apart ls n m first second =
    let same = same_line This That one other ls n m first second in
    let second_here = subst (λ (k : ℕ). IsFirst ls k That) (sym same) second in
    apart first.before (words_in first.line) first.fault (moved This That ls n first second_here)

bad_or_large : Apart IsBadLine IsTooLarge
unfolding Apart
bad_or_large before words bad large = bad.1 large.0 large.1 large.2

bad_or_contradictory : Apart IsBadLine IsContradictory
unfolding Apart
bad_or_contradictory before words bad taut = bad.1 taut.0 taut.1 taut.2

large_or_contradictory : Apart IsTooLarge IsContradictory
unfolding Apart
large_or_contradictory before words large taut = large.3 (same_small taut.0 large.0 taut.1 large.1 (one_form before words taut.0 large.0 taut.1 large.1 taut.2 large.2) taut.3)

IsOne : ProofFault → ProofFault → Type 0
IsOne first second = (first ≡ second) ⊎ (first ≡ Memory) ⊎ (second ≡ Memory)

one_by : (bytes : List ℕ) (first second : ProofFault) → HasFault bytes first → HasFault bytes second → IsOne first second
unfolding IsOne
one_by bytes Memory second a b = inr (inl refl)
one_by bytes first Memory a b = inr (inr refl)
one_by bytes TooLong TooLong a b = inl refl
one_by bytes TooLong (BadLine n) a b = let short = b.0 in absurd (omega arith)
one_by bytes TooLong (NumberTooLarge n) a b = let short = b.0 in absurd (omega arith)
one_by bytes TooLong (Tautology n) a b = let short = b.0 in absurd (omega arith)
one_by bytes (BadLine n) TooLong a b = let short = a.0 in absurd (omega arith)
one_by bytes (NumberTooLarge n) TooLong a b = let short = a.0 in absurd (omega arith)
one_by bytes (Tautology n) TooLong a b = let short = a.0 in absurd (omega arith)
one_by bytes (BadLine n) (BadLine m) a b = inl (ap BadLine (same_line IsBadLine IsBadLine bad_line bad_line (lines bytes) n m a.1 b.1))
one_by bytes (NumberTooLarge n) (NumberTooLarge m) a b = inl (ap NumberTooLarge (same_line IsTooLarge IsTooLarge too_large too_large (lines bytes) n m a.1 b.1))
one_by bytes (Tautology n) (Tautology m) a b = inl (ap Tautology (same_line IsContradictory IsContradictory contradictory contradictory (lines bytes) n m a.1 b.1))
one_by bytes (BadLine n) (NumberTooLarge m) a b = absurd (not_both_faults IsBadLine IsTooLarge bad_line too_large bad_or_large (lines bytes) n m a.1 b.1)
one_by bytes (BadLine n) (Tautology m) a b = absurd (not_both_faults IsBadLine IsContradictory bad_line contradictory bad_or_contradictory (lines bytes) n m a.1 b.1)
one_by bytes (NumberTooLarge n) (Tautology m) a b = absurd (not_both_faults IsTooLarge IsContradictory too_large contradictory large_or_contradictory (lines bytes) n m a.1 b.1)
one_by bytes (NumberTooLarge n) (BadLine m) a b = absurd (not_both_faults IsBadLine IsTooLarge bad_line too_large bad_or_large (lines bytes) m n b.1 a.1)
one_by bytes (Tautology n) (BadLine m) a b = absurd (not_both_faults IsBadLine IsContradictory bad_line contradictory bad_or_contradictory (lines bytes) m n b.1 a.1)
one_by bytes (Tautology n) (NumberTooLarge m) a b = absurd (not_both_faults IsTooLarge IsContradictory too_large contradictory large_or_contradictory (lines bytes) m n b.1 a.1)

pub one_fault : (bytes : List ℕ) (first second : ProofFault) → HasFault bytes first → HasFault bytes second → (first ≡ second) ⊎ (first ≡ Memory) ⊎ (second ≡ Memory)
unfolding IsOne
one_fault bytes first second a b = one_by bytes first second a b

-- where the text says this, nothing else is read
pub only_this : (bytes : List ℕ) (f : Formula) (log : List Step) (r : Result (Formula × List Step) ProofFault) → IsProofText bytes f log
    → IfOk r (λ read. IsProofText bytes read.0 read.1) → IfErr r (HasFault bytes) → MatchResult r (λ read. (read.0 ≡ f) × (read.1 ≡ log)) (λ fault. fault ≡ Memory)
only_this bytes f log (Ok read) is ok err = one_proof bytes read.0 f read.1 log ok is
only_this bytes f log (Err fault) is ok err = proof_has_no_fault bytes f log fault is err
