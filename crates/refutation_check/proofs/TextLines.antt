-- The lines of a proof text, one after the other.
use Rattle.std.proofs.Common.{◌≡◌, ◌≢◌, ◌==◌, ◌≤◌, ◌<◌, ◌+◌, ◌-◌, ◌⊎◌, ℕ, zero, suc, Bool, true, false, not, cond, if◌then◌else◌, Option, None, Some, IfSome, List, [], ◌∷◌, ◌++◌, length, filter, map, max, take, drop, get_or, slice_get, refl, sym, subst, ap, ◌∙◌, arith, inl, inr, append_assoc, length-append}
use Rattle.std.proofs.lemmas.List.{length-drop}
use Rattle.std.specs.List.{slice_split, onto_first, prefix_len, AllZip}
use Rattle.std.specs.Str.Lines.{lines, lines_of_parts, strip_carriage_return}
use Rattle.std.proofs.lemmas.Bool.{cases_Bool}
use Rattle.std.proofs.lemmas.Bool.Decides.{nat_tests}
use Rattle.std.proofs.lemmas.List.{append-nil, map-append, take_all}
use Rattle.std.proofs.lemmas.List.Elements.{filter-append}
use Rattle.std.proofs.lemmas.List.Splits.{length-slice_split}
use Rattle.cnf_core.specs.declared.literal.Lit.{Lit}
use Rattle.refutation_check.specs.declared.log.Step.{Step}
use Rattle.refutation_check.specs.Chain.{members_of}
use Rattle.refutation_check.specs.Scanned.{is_in_line}
use Rattle.refutation_check.specs.ProofText.{words_in, sentences, SaysClause, SaysStep, Says, largest_of, largest_in}
use Rattle.refutation_check.specs.declared.proof_text.fault.ProofFault.{ProofFault}
use Rattle.refutation_check.specs.declared.proof_text.fault.ProofFault.TheVariants.{BadLine, NumberTooLarge, Tautology, TooLong, Memory}
use Rattle.refutation_check.specs.ProofFault.{IsFirst, IsBadLine, IsTooLarge, IsContradictory, HasFault}
use Rattle.refutation_check.specs.Progress.{Progress, IsProgress, AddsLine, SaysOneClause, SaysOneStep, IsLineFault}

-- ---- the first line of a text

parts : List ℕ → List (List ℕ)
parts bytes = slice_split (λ b. b == 10) bytes

-- the parts of a text with a line feed
split_line : (bytes : List ℕ) → prefix_len is_in_line bytes < length bytes
    → parts bytes ≡ take (prefix_len is_in_line bytes) bytes ∷ parts (drop (prefix_len is_in_line bytes + 1) bytes)
unfolding parts
split_line [] l = absurd (omega arith)
split_line (b ∷ bytes) l =
    elim (cases_Bool (b == 10)) [
      | inl holds ↦ rw holds refl
      | inr fails ↦
          let one : 1 + prefix_len is_in_line bytes ≡ suc (prefix_len is_in_line bytes) = omega arith in
          let count : prefix_len is_in_line (b ∷ bytes) ≡ suc (prefix_len is_in_line bytes) = ap (λ t. cond (not t) (1 + prefix_len is_in_line bytes) 0) fails ∙ one in
          let inner = split_line bytes (omega arith) in
          let next : suc (prefix_len is_in_line bytes) + 1 ≡ suc (prefix_len is_in_line bytes + 1) = omega arith in
          ap (λ t. cond t ([] ∷ slice_split (λ x. x == 10) bytes) (onto_first b (slice_split (λ x. x == 10) bytes))) fails
          ∙ ap (onto_first b) inner
          ∙ sym (ap (λ n. take n (b ∷ bytes) ∷ slice_split (λ x. x == 10) (drop (n + 1) (b ∷ bytes))) count
          ∙ ap (λ n. (b ∷ take (prefix_len is_in_line bytes) bytes) ∷ slice_split (λ x. x == 10) (drop n (b ∷ bytes))) next)
    ]

-- those of a text without one
one_part : (bytes : List ℕ) → prefix_len is_in_line bytes ≡ length bytes → parts bytes ≡ bytes ∷ []
unfolding parts
one_part [] e = refl
one_part (b ∷ bytes) e =
    elim (cases_Bool (b == 10)) [
      | inl holds ↦
          let count : prefix_len is_in_line (b ∷ bytes) ≡ 0 = ap (λ t. cond (not t) (1 + prefix_len is_in_line bytes) 0) holds in
          absurd (omega arith)
      | inr fails ↦
          let count : prefix_len is_in_line (b ∷ bytes) ≡ 1 + prefix_len is_in_line bytes = ap (λ t. cond (not t) (1 + prefix_len is_in_line bytes) 0) fails in
          ap (λ t. cond t ([] ∷ slice_split (λ x. x == 10) bytes) (onto_first b (slice_split (λ x. x == 10) bytes))) fails
          ∙ ap (onto_first b) (one_part bytes (omega arith))
    ]

before_more : (x : List ℕ) (ps : List (List ℕ)) → 0 < length ps → lines_of_parts (x ∷ ps) ≡ strip_carriage_return x ∷ lines_of_parts ps
before_more x [] some = absurd (omega arith)
before_more x (y ∷ ps) some = refl

pub first_line : (bytes : List ℕ) → prefix_len is_in_line bytes < length bytes
    → lines bytes ≡ strip_carriage_return (take (prefix_len is_in_line bytes) bytes) ∷ lines (drop (prefix_len is_in_line bytes + 1) bytes)
unfolding parts
first_line bytes l =
    let rest = drop (prefix_len is_in_line bytes + 1) bytes in
    ap lines_of_parts (split_line bytes l)
    ∙ before_more (take (prefix_len is_in_line bytes) bytes) (parts rest) (omega (arith, length-slice_split (λ b. b == 10) rest))

pub last_line : (bytes : List ℕ) → prefix_len is_in_line bytes ≡ length bytes → 0 < length bytes → lines bytes ≡ bytes ∷ []
unfolding parts
last_line bytes e some =
    let full : (length bytes == 0) ≡ false = grind (arith, nat_tests) in
    ap lines_of_parts (one_part bytes e) ∙ ap (λ t. if t then [] else bytes ∷ []) full

pub if_some : {X : Type 0} (o : Option X) {P Q : X → Type 0} → ((x : X) → P x → Q x) → IfSome o P → IfSome o Q
if_some None f p = tt
if_some (Some x) f p = f x p

-- all that is left of a list from a place on
pub rest_is : (xs : List ℕ) (m : ℕ) → take (length xs - m) (drop m xs) ≡ drop m xs
rest_is xs m = take_all (length xs - m) (drop m xs) (omega (arith, length-drop m xs))

-- ---- sentences

has_words : List (List ℕ) → Bool
has_words words = not (length words == 0)

pub sentences_both : (xs ys : List (List ℕ)) → sentences (xs ++ ys) ≡ sentences xs ++ sentences ys
unfolding has_words
sentences_both xs ys = ap (filter has_words) (map-append words_in xs ys) ∙ filter-append has_words (map words_in xs) (map words_in ys)

some_words : (words : List (List ℕ)) → words ≢ [] → has_words words ≡ true
unfolding has_words
some_words [] some = absurd (some refl)
some_words (w ∷ ws) some = grind (arith, nat_tests)

pub sentence_of : (line : List ℕ) → words_in line ≢ [] → sentences (line ∷ []) ≡ words_in line ∷ []
unfolding has_words
sentence_of line some = ap (λ t. cond t (words_in line ∷ []) []) (some_words (words_in line) some)

pub no_sentence : (line : List ℕ) → words_in line ≡ [] → sentences (line ∷ []) ≡ []
unfolding has_words
no_sentence line none = ap (λ (ws : List (List ℕ)). filter has_words (ws ∷ [])) none

-- ---- one line more

pub zip_none : {X Y : Type 0} (R : X → Y → Type 0) (xs : List X) → AllZip R xs [] → xs ≡ []
zip_none R [] zip = refl
zip_none R (x ∷ xs) zip = absurd zip

pub zip_push : {X Y : Type 0} (R : X → Y → Type 0) (xs : List X) (ys : List Y) (x : X) (y : Y) → AllZip R xs ys → R x y → AllZip R (xs ++ x ∷ []) (ys ++ y ∷ [])
zip_push R [] [] x y zip is = (is, tt)
zip_push R [] (z ∷ ys) x y zip is = absurd zip
zip_push R (z ∷ xs) [] x y zip is = absurd zip
zip_push R (z ∷ xs) (w ∷ ys) x y zip is = (zip.0, zip_push R xs ys x y zip.1 is)

pub clause_has_words : (words : List (List ℕ)) (clause : List Lit) → SaysClause words clause → words ≢ []
clause_has_words [] clause says e = absurd (omega (arith, ap length says.line.spelled))
clause_has_words (w ∷ ws) clause says e = absurd (omega (arith, ap length e))

pub step_has_words : (words : List (List ℕ)) (step : Step) → SaysStep words step → words ≢ []
step_has_words [] step says e = absurd (omega (arith, ap length says.line.spelled))
step_has_words (w ∷ ws) step says e = absurd (omega (arith, ap length e))

blank_more : (front : List (List ℕ)) (line : List ℕ) (clauses : List (List Lit)) (log : List Step) → Says front clauses log → words_in line ≡ [] → Says (front ++ line ∷ []) clauses log
blank_more front line clauses log says none = record {
  clause_lines = says.clause_lines;
  step_lines = says.step_lines;
  in_order = sentences_both front (line ∷ []) ∙ ap (λ ls. sentences front ++ ls) (no_sentence line none) ∙ append-nil (sentences front) ∙ says.in_order;
  each_clause = says.each_clause;
  each_step = says.each_step;
}

pub clause_more : (front : List (List ℕ)) (line : List ℕ) (clauses : List (List Lit)) (clause : List Lit) → Says front clauses [] → SaysClause (words_in line) clause → Says (front ++ line ∷ []) (clauses ++ clause ∷ []) []
clause_more front line clauses clause says is =
    let no_steps = zip_none SaysStep says.step_lines says.each_step in
    record {
      clause_lines = says.clause_lines ++ words_in line ∷ [];
      step_lines = [];
      in_order = sentences_both front (line ∷ []) ∙ ap (λ ls. sentences front ++ ls) (sentence_of line (clause_has_words (words_in line) clause is))
          ∙ ap (λ ls. ls ++ words_in line ∷ []) (says.in_order ∙ ap (λ ls. says.clause_lines ++ ls) no_steps ∙ append-nil says.clause_lines) ∙ sym (append-nil (says.clause_lines ++ words_in line ∷ []));
      each_clause = zip_push SaysClause says.clause_lines clauses (words_in line) clause says.each_clause is;
      each_step = tt;
    }

pub step_more : (front : List (List ℕ)) (line : List ℕ) (clauses : List (List Lit)) (log : List Step) (step : Step) → Says front clauses log → SaysStep (words_in line) step → Says (front ++ line ∷ []) clauses (log ++ step ∷ [])
step_more front line clauses log step says is = record {
  clause_lines = says.clause_lines;
  step_lines = says.step_lines ++ words_in line ∷ [];
  in_order = sentences_both front (line ∷ []) ∙ ap (λ ls. sentences front ++ ls) (sentence_of line (step_has_words (words_in line) step is))
      ∙ ap (λ ls. ls ++ words_in line ∷ []) says.in_order ∙ append_assoc says.clause_lines says.step_lines (words_in line ∷ []);
  each_clause = says.each_clause;
  each_step = zip_push SaysStep says.step_lines log (words_in line) step says.each_step is;
}

-- ---- the largest variable

largest_push : (clauses : List (List Lit)) (clause : List Lit) → largest_in (clauses ++ clause ∷ []) ≡ max (largest_in clauses) (largest_of clause)
largest_push [] clause = grind arith
largest_push (c ∷ clauses) clause = let rest = largest_push clauses clause in grind arith

largest_clause : (clauses : List (List Lit)) (clause : List Lit) → largest_in (members_of (clauses ++ clause ∷ []) []) ≡ max (largest_in (members_of clauses [])) (largest_of clause)
largest_clause clauses clause =
    ap largest_in (append-nil (clauses ++ clause ∷ [])) ∙ largest_push clauses clause ∙ ap (λ cs. max (largest_in cs) (largest_of clause)) (sym (append-nil clauses))

largest_step : (clauses : List (List Lit)) (log : List Step) (step : Step) → largest_in (members_of clauses (log ++ step ∷ [])) ≡ max (largest_in (members_of clauses log)) (largest_of step.clause)
largest_step clauses log step =
    ap (λ cs. largest_in (clauses ++ cs)) (map-append (λ (s : Step). s.clause) log (step ∷ []))
    ∙ ap largest_in (sym (append_assoc clauses (map (λ (s : Step). s.clause) log) (step.clause ∷ [])))
    ∙ largest_push (members_of clauses log) step.clause

-- ---- progress

pub progress_more : (front : List (List ℕ)) (line : List ℕ) (p q : Progress) → IsProgress front p → AddsLine (words_in line) p q → IsProgress (front ++ line ∷ []) q
progress_more front line p q is (inl blank) =
    subst (IsProgress (front ++ line ∷ [])) (sym blank.1) (record {
      says = blank_more front line p.clauses p.log is.says blank.0;
      vars = is.vars;
      few = let few = is.few in omega (arith, length-append front (line ∷ []));
    })
progress_more front line p q is (inr (inl clause)) =
    let says = subst (λ (log : List Step). Says front p.clauses log) clause.first is.says in
    let none : q.log ≡ [] = clause.log ∙ clause.first in
    let vars : largest_in (members_of p.clauses []) ≡ p.vars = sym (is.vars ∙ ap (λ log. largest_in (members_of p.clauses log)) clause.first) in
    record {
      says = subst (λ (log : List Step). Says (front ++ line ∷ []) q.clauses log) (sym none) (subst (λ (cs : List (List Lit)). Says (front ++ line ∷ []) cs []) (sym clause.clauses) (clause_more front line p.clauses clause.clause says clause.says));
      vars = clause.vars ∙ ap (λ n. max n (largest_of clause.clause)) (sym vars) ∙ sym (largest_clause p.clauses clause.clause) ∙ ap (λ cs. largest_in (members_of cs [])) (sym clause.clauses) ∙ ap (λ log. largest_in (members_of q.clauses log)) (sym none);
      few = let few = is.few in omega (arith, length-append front (line ∷ []), ap length clause.clauses, length-append p.clauses (clause.clause ∷ []), ap length clause.log);
    }
progress_more front line p q is (inr (inr step)) =
    let says : Says front q.clauses p.log = subst (λ (cs : List (List Lit)). Says front cs p.log) (sym step.clauses) is.says in
    record {
      says = subst (λ (log : List Step). Says (front ++ line ∷ []) q.clauses log) (sym step.log) (step_more front line q.clauses p.log step.step says step.says);
      vars = step.vars ∙ ap (λ n. max n (largest_of step.step.clause)) (is.vars ∙ ap (λ cs. largest_in (members_of cs p.log)) (sym step.clauses)) ∙ sym (largest_step q.clauses p.log step.step) ∙ ap (λ log. largest_in (members_of q.clauses log)) (sym step.log);
      few = let few = is.few in omega (arith, length-append front (line ∷ []), ap length step.clauses, ap length step.log, length-append p.log (step.step ∷ []));
    }

-- the lines of the text but those of the rest are read
pub record IsReadUpTo (bytes rest : List ℕ) (number : ℕ) (p : Progress) : Type 0 where
  pub front : List (List ℕ)
  pub split : lines bytes ≡ front ++ lines rest
  pub count : length front ≡ number
  pub progress : IsProgress front p
  pub room : number + length rest ≤ length bytes

module _ (bytes rest line behind : List ℕ) (number : ℕ) (p : Progress) (is : IsReadUpTo bytes rest number p) (first : lines rest ≡ line ∷ lines behind) where
  split_there : lines bytes ≡ (is.front ++ line ∷ []) ++ lines behind
  split_there = is.split ∙ ap (λ ls. is.front ++ ls) first ∙ sym (append_assoc is.front (line ∷ []) (lines behind))

  pub one_more : (q : Progress) → length behind < length rest → AddsLine (words_in line) p q → IsReadUpTo bytes behind (number + 1) q
  one_more q shorter adds = record {
    front = is.front ++ line ∷ [];
    split = split_there;
    count = let count = is.count in omega (arith, length-append is.front (line ∷ []));
    progress = progress_more is.front line p q is.progress adds;
    room = let room = is.room in omega arith;
  }

pub all_read : (bytes rest : List ℕ) (number : ℕ) (p : Progress) → IsReadUpTo bytes rest number p → rest ≡ [] → IsProgress (lines bytes) p
all_read bytes rest number p is none =
    subst (λ (ls : List (List ℕ)). IsProgress ls p) (sym (is.split ∙ ap (λ r. is.front ++ lines r) none ∙ append-nil is.front)) is.progress

-- ---- faults

line_there : (front behind : List (List ℕ)) (line : List ℕ) → slice_get ((front ++ line ∷ []) ++ behind) (length front) ≡ Some line
line_there [] behind line = refl
line_there (x ∷ front) behind line = line_there front behind line

lines_before : (front behind : List (List ℕ)) (line : List ℕ) → take (length front) ((front ++ line ∷ []) ++ behind) ≡ front
lines_before [] behind line = refl
lines_before (x ∷ front) behind line = ap (λ ls. x ∷ ls) (lines_before front behind line)

module _ (bytes rest line behind : List ℕ) (number : ℕ) (p : Progress) (is : IsReadUpTo bytes rest number p) (first : lines rest ≡ line ∷ lines behind) where
  first_fault : (HasThis : List Step → List (List ℕ) → Type 0) → HasThis p.log (words_in line) → IsFirst (lines bytes) (number + 1) HasThis
  first_fault HasThis fault =
      let place : number + 1 - 1 ≡ length is.front = let count = is.count in omega arith in
      let split = split_there bytes rest line behind number p is first in
      record {
        from_one = omega arith;
        line = line;
        there = ap (λ n. slice_get (lines bytes) n) place ∙ ap (λ (ls : List (List ℕ)). slice_get ls (length is.front)) split ∙ line_there is.front (lines behind) line;
        clauses = p.clauses;
        before = p.log;
        says = subst (λ (ls : List (List ℕ)). Says ls p.clauses p.log) (sym (ap (λ n. take n (lines bytes)) place ∙ ap (λ (ls : List (List ℕ)). take (length is.front) ls) split ∙ lines_before is.front (lines behind) line)) is.progress.says;
        fault = fault;
      }

  pub fault_there : (fault : ProofFault) → length bytes ≤ 268435456 → IsLineFault p.log (words_in line) (number + 1) fault → HasFault bytes fault
  fault_there (BadLine n) short fault = (short, subst (λ (k : ℕ). IsFirst (lines bytes) k IsBadLine) (sym fault.0) (first_fault IsBadLine fault.1))
  fault_there (NumberTooLarge n) short fault = (short, subst (λ (k : ℕ). IsFirst (lines bytes) k IsTooLarge) (sym fault.0) (first_fault IsTooLarge fault.1))
  fault_there (Tautology n) short fault = (short, subst (λ (k : ℕ). IsFirst (lines bytes) k IsContradictory) (sym fault.0) (first_fault IsContradictory fault.1))
  fault_there TooLong short fault = absurd fault
  fault_there Memory short fault = tt
