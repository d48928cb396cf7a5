-- How the lines of a proof text are read.
use Rattle.std.proofs.Common.{◌≡◌, ◌≢◌, ◌==◌, ◌≤◌, ◌⊎◌, if◌then◌else◌, drop, ℕ, Bool, true, false, Option, None, Some, List, Bor, [], ◌∷◌, ◌++◌, codes, map, length, get_or, refl, sym, subst, ap, ◌∙◌, arith, inl, inr, append_assoc}
use Rattle.std.specs.Prelude.{All, IfNone, IfSome}
use Rattle.std.proofs.lemmas.Bool.Decides.{nat_tests}
use Rattle.std.proofs.lemmas.List.{append-nil, map-append}
use Rattle.std.proofs.lemmas.List.Elements.{All-nil, All-push}
use Rattle.cnf_core.specs.declared.literal.Lit.{Lit}
use Rattle.refutation_check.specs.declared.proof_text.word.Word.{Word}
use Rattle.refutation_check.specs.declared.proof_text.word.Word.TheVariants.{Clause, Step, End, Number, Negative, Other}
use Rattle.refutation_check.specs.declared.proof_text.line.Form.TheVariants as forms
use Rattle.refutation_check.specs.ProofText.{words_in, IsNumber, IsLiteral, number_of, literal_of, IsClauseLine, IsStepLine}
use Rattle.refutation_check.specs.Scanned.{capped, IsRead, IsFirstWord, read_literal, read_number, literal_in, number_in, IsFront, IsReadTo, HasNoFront, IsReadClause, IsReadStep, IsForm}
use Rattle.refutation_check.proofs.Fronts.{one_split, no_split, same_head, same_tail}

-- ---- one word

some_is : {X : Type 0} (x y : X) → Some x ≡ Some y → x ≡ y
some_is x y e = cc

pub zero_is_no_number : IsNumber (codes "0") → ⊥
zero_is_no_number is = let low = is.0 in absurd (omega arith)

pub zero_is_no_literal : IsLiteral (codes "0") → ⊥
zero_is_no_literal (inl is) = zero_is_no_number is
zero_is_no_literal (inr is) = let minus = is.0 in absurd (omega arith)

plain_is : (word : List ℕ) → IsNumber word → literal_of word ≡ record { var = number_of word; positive = true }
plain_is [] is = absurd is
plain_is (b ∷ word) is =
    let low = is.0 in
    let fails : (b == 45) ≡ false = grind (arith, nat_tests) in
    ap (λ t. if t then record { var = number_of (drop 1 (b ∷ word)); positive = false } else record { var = number_of (b ∷ word); positive = true }) fails

literal_from_number : (word : List ℕ) → IsNumber word → IsLiteral word
literal_from_number [] is = is
literal_from_number (b ∷ word) is = inl is

-- a word that is read as a literal is that literal
pub literal_is : (word : List ℕ) (read : Word) (l : Lit) → IsRead word read → literal_in read ≡ Some l → IsLiteral word × (l ≡ read_literal word)
literal_is word (Number n) l is e =
    (literal_from_number word is.0, some_is _ _ (sym e) ∙ ap (λ m. record { var = m; positive = true }) is.1 ∙ ap (λ (k : Lit). record { var = capped k.var; positive = k.positive }) (sym (plain_is word is.0)))
literal_is word (Negative n) l (digits, word_is, number, n_is) e =
    (subst IsLiteral (sym word_is) (inr (refl, number)), some_is _ _ (sym e) ∙ ap (λ m. record { var = m; positive = false }) n_is ∙ ap read_literal (sym word_is))
literal_is word Clause l is e = absurd (cc)
literal_is word Step l is e = absurd (cc)
literal_is word End l is e = absurd (cc)
literal_is word Other l is e = absurd (cc)

c_is_no_literal : IsLiteral (codes "c") → ⊥
c_is_no_literal (inl is) = let high = is.1 in absurd (omega arith)
c_is_no_literal (inr is) = let minus = is.0 in absurd (omega arith)

s_is_no_literal : IsLiteral (codes "s") → ⊥
s_is_no_literal (inl is) = let high = is.1 in absurd (omega arith)
s_is_no_literal (inr is) = let minus = is.0 in absurd (omega arith)

-- another word is none
pub no_literal : (word : List ℕ) (read : Word) → IsRead word read → literal_in read ≡ None → IsLiteral word → ⊥
no_literal word (Number n) is e = absurd (cc)
no_literal word (Negative n) is e = absurd (cc)
no_literal word Clause is e = λ literal. c_is_no_literal (subst IsLiteral is literal)
no_literal word Step is e = λ literal. s_is_no_literal (subst IsLiteral is literal)
no_literal word End is e = λ literal. zero_is_no_literal (subst IsLiteral is literal)
no_literal word Other is e = is.3

-- a word that is read as a number is that number
pub number_is : (word : List ℕ) (read : Word) (n : ℕ) → IsRead word read → number_in read ≡ Some n → IsNumber word × (n ≡ read_number word)
number_is word (Number m) n is e = (is.0, some_is _ _ (sym e) ∙ is.1)
number_is word (Negative m) n is e = absurd (cc)
number_is word Clause n is e = absurd (cc)
number_is word Step n is e = absurd (cc)
number_is word End n is e = absurd (cc)
number_is word Other n is e = absurd (cc)

no_number_minus : (digits : List ℕ) → IsNumber (45 ∷ digits) → ⊥
no_number_minus digits is = let low = is.0 in absurd (omega arith)

-- another word is none
pub no_number : (word : List ℕ) (read : Word) → IsRead word read → number_in read ≡ None → IsNumber word → ⊥
no_number word (Number n) is e = absurd (cc)
no_number word (Negative n) (digits, word_is, number, n_is) e = λ is. no_number_minus digits (subst IsNumber word_is is)
no_number word Clause is e = λ number. c_is_no_literal (inl (subst IsNumber is number))
no_number word Step is e = λ number. s_is_no_literal (inl (subst IsNumber is number))
no_number word End is e = λ number. zero_is_no_number (subst IsNumber is number)
no_number word Other is e = λ number. is.3 (literal_from_number word number)

-- a word that isn't read as the last one isn't that
pub not_zero : (word : List ℕ) (read : Word) → IsRead word read → read ≢ End → word ≢ codes "0"
not_zero word (Number n) is e = λ zero. zero_is_no_number (subst IsNumber zero is.0)
not_zero word (Negative n) (digits, word_is, number, n_is) e = λ zero. absurd (omega (arith, ap (λ (w : List ℕ). get_or w 0 0) (sym word_is ∙ zero)))
not_zero word Clause is e = λ zero. absurd (omega (arith, ap (λ (w : List ℕ). get_or w 0 0) (sym is ∙ zero)))
not_zero word Step is e = λ zero. absurd (omega (arith, ap (λ (w : List ℕ). get_or w 0 0) (sym is ∙ zero)))
not_zero word End is e = λ zero. e refl
not_zero word Other is e = is.2

-- and the same of the first ones
differs : (word : List ℕ) (a b : ℕ) → word ≡ a ∷ [] → a ≢ b → word ≢ b ∷ []
differs word a b e differ same = differ (cc)

begins_so : (b : ℕ) (digits word : List ℕ) → word ≡ 45 ∷ digits → 45 ≢ b → word ≢ b ∷ []
begins_so b digits word e differ same = differ (cc)

not_c : (word : List ℕ) (read : Word) → IsRead word read → read ≢ Clause → word ≢ codes "c"
not_c word (Number n) is e = λ c. c_is_no_literal (inl (subst IsNumber c is.0))
not_c word (Negative n) (digits, word_is, number, n_is) e = begins_so 99 digits word word_is (λ x. absurd (omega arith))
not_c word Clause is e = λ c. e refl
not_c word Step is e = differs word 115 99 is (λ x. absurd (omega arith))
not_c word End is e = differs word 48 99 is (λ x. absurd (omega arith))
not_c word Other is e = is.0

not_s : (word : List ℕ) (read : Word) → IsRead word read → read ≢ Step → word ≢ codes "s"
not_s word (Number n) is e = λ c. s_is_no_literal (inl (subst IsNumber c is.0))
not_s word (Negative n) (digits, word_is, number, n_is) e = begins_so 115 digits word word_is (λ x. absurd (omega arith))
not_s word Clause is e = differs word 99 115 is (λ x. absurd (omega arith))
not_s word Step is e = λ c. e refl
not_s word End is e = differs word 48 115 is (λ x. absurd (omega arith))
not_s word Other is e = is.1

-- ---- items up to their `0`

-- items are read, and more may come
pub record IsReadSoFar {X : Type 0} (IsItem : List ℕ → Type 0) (read : List ℕ → X) (line : List ℕ) (old new : List X) (rest : List ℕ) : Type 0 where
  pub items : List (List ℕ)
  pub spelled : words_in line ≡ items ++ words_in rest
  pub each : All IsItem items
  pub read_is : new ≡ old ++ map read items

pub none_read : {X : Type 0} (IsItem : List ℕ → Type 0) (read : List ℕ → X) (line : List ℕ) (old : List X) → IsReadSoFar IsItem read line old old line
none_read IsItem read line old = record { items = []; spelled = refl; each = All-nil IsItem; read_is = sym (append-nil old) }

module _ {X : Type 0} (IsItem : List ℕ → Type 0) (read : List ℕ → X) (line : List ℕ) (old new : List X) (rest : List ℕ) (so_far : IsReadSoFar IsItem read line old new rest) where
  -- one item more
  pub one_read : (word : Word) (behind : List ℕ) (x : X) (first : IsFirstWord rest word behind) → word ≢ Other → IsItem first.word → x ≡ read first.word
      → IsReadSoFar IsItem read line old (new ++ x ∷ []) behind
  one_read word behind x first known is e = record {
    items = so_far.items ++ first.word ∷ [];
    spelled = so_far.spelled ∙ ap (λ ws. so_far.items ++ ws) (first.there ∙ ap (λ ws. first.word ∷ ws) (first.behind known)) ∙ sym (append_assoc so_far.items (first.word ∷ []) (words_in behind));
    each = All-push IsItem so_far.items first.word so_far.each is;
    read_is = ap (λ xs. xs ++ x ∷ []) so_far.read_is ∙ append_assoc old (map read so_far.items) (x ∷ []) ∙ ap (λ xs. old ++ xs) (ap (λ y. map read so_far.items ++ y ∷ []) e ∙ sym (map-append read so_far.items (first.word ∷ [])));
  }

  -- their `0`
  pub all_read : (behind : List ℕ) → IsFirstWord rest End behind → IsReadTo IsItem read line old new behind
  all_read behind first = record {
    items = so_far.items;
    front = record {
      spelled = so_far.spelled ∙ ap (λ ws. so_far.items ++ ws) (first.there ∙ ap (λ w. w ∷ first.others) first.is_read ∙ ap (λ ws. codes "0" ∷ ws) (first.behind (λ e. absurd (cc))));
      each = so_far.each;
    };
    read_is = so_far.read_is;
  }

  -- another word
  pub none_there : (IsItem (codes "0") → ⊥) → (word : Word) (behind : List ℕ) (first : IsFirstWord rest word behind) → word ≢ End → (IsItem first.word → ⊥) → HasNoFront IsItem line
  none_there zero word behind first known other items others front =
      let same = one_split IsItem so_far.items items first.others others first.word (codes "0") so_far.each other front.each zero
      (ap (λ ws. so_far.items ++ ws) (sym first.there) ∙ sym so_far.spelled ∙ front.spelled) in
      not_zero first.word word first.is_read known same.here

  -- no word
  pub none_left : (IsItem (codes "0") → ⊥) → words_in rest ≡ [] → HasNoFront IsItem line
  none_left zero none items others front =
      no_split IsItem so_far.items items others (codes "0") so_far.each zero
      (sym (append-nil so_far.items) ∙ ap (λ ws. so_far.items ++ ws) (sym none) ∙ sym so_far.spelled ∙ front.spelled)

known_literal : (word : Word) (l : Lit) → literal_in word ≡ Some l → word ≢ Other
known_literal word l e other = let none : literal_in word ≡ None = ap literal_in other in absurd (cc)

known_number : (word : Word) (n : ℕ) → number_in word ≡ Some n → word ≢ Other
known_number word n e other = let none : number_in word ≡ None = ap number_in other in absurd (cc)

pub literal_read : (line : List ℕ) (old new : List Lit) (rest : List ℕ) → IsReadSoFar IsLiteral read_literal line old new rest
    → (word : Word) (behind : List ℕ) (l : Lit) → IsFirstWord rest word behind → literal_in word ≡ Some l → IsReadSoFar IsLiteral read_literal line old (new ++ l ∷ []) behind
literal_read line old new rest so_far word behind l first e =
    let is = literal_is first.word word l first.is_read e in
    one_read IsLiteral read_literal line old new rest so_far word behind l first (known_literal word l e) is.0 is.1

pub number_read : (line : List ℕ) (old new : List ℕ) (rest : List ℕ) → IsReadSoFar IsNumber read_number line old new rest
    → (word : Word) (behind : List ℕ) (n : ℕ) → IsFirstWord rest word behind → number_in word ≡ Some n → IsReadSoFar IsNumber read_number line old (new ++ n ∷ []) behind
number_read line old new rest so_far word behind n first e =
    let is = number_is first.word word n first.is_read e in
    one_read IsNumber read_number line old new rest so_far word behind n first (known_number word n e) is.0 is.1

if_none : {Y : Type 0} (r : Option Y) {P Q : Type 0} → (P → Q) → IfNone r P → IfNone r Q
if_none None f p = f p
if_none (Some y) f p = tt

pub no_literals : {Y : Type 0} (r : Option Y) (line : List ℕ) (old new : List Lit) (rest : List ℕ) → IsReadSoFar IsLiteral read_literal line old new rest
    → (word : Word) (behind : List ℕ) → IsFirstWord rest word behind → literal_in word ≡ None → IfNone r (word ≢ End) → IfNone r (HasNoFront IsLiteral line)
no_literals r line old new rest so_far word behind first e n =
    if_none r (λ other. none_there IsLiteral read_literal line old new rest so_far zero_is_no_literal word behind first other (no_literal first.word word first.is_read e)) n

pub no_numbers : {Y : Type 0} (r : Option Y) (line : List ℕ) (old new : List ℕ) (rest : List ℕ) → IsReadSoFar IsNumber read_number line old new rest
    → (word : Word) (behind : List ℕ) → IsFirstWord rest word behind → number_in word ≡ None → IfNone r (word ≢ End) → IfNone r (HasNoFront IsNumber line)
no_numbers r line old new rest so_far word behind first e n =
    if_none r (λ other. none_there IsNumber read_number line old new rest so_far zero_is_no_number word behind first other (no_number first.word word first.is_read e)) n

pub no_more_literals : (line : List ℕ) (old new : List Lit) (rest : List ℕ) → IsReadSoFar IsLiteral read_literal line old new rest → words_in rest ≡ [] → HasNoFront IsLiteral line
no_more_literals line old new rest so_far none = none_left IsLiteral read_literal line old new rest so_far zero_is_no_literal none

pub no_more_numbers : (line : List ℕ) (old new : List ℕ) (rest : List ℕ) → IsReadSoFar IsNumber read_number line old new rest → words_in rest ≡ [] → HasNoFront IsNumber line
no_more_numbers line old new rest so_far none = none_left IsNumber read_number line old new rest so_far zero_is_no_number none

-- ---- forms

no_words : (w : List ℕ) (ws : List (List ℕ)) → w ∷ ws ≢ []
no_words w ws e = absurd (omega (arith, ap length e))

first_letter : (a b : ℕ) (ws vs : List (List ℕ)) → a ≢ b → (a ∷ []) ∷ ws ≡ (b ∷ []) ∷ vs → ⊥
first_letter a b ws vs differ e = differ (cc)

pub clause_is : (rest behind : List ℕ) (lits : List Lit) → IsReadTo IsLiteral read_literal rest [] lits behind → words_in behind ≡ [] → IsReadClause (codes "c" ∷ words_in rest) lits []
clause_is rest behind lits to none = record {
  literals = to.items;
  line = record {
    spelled = ap (λ ws. codes "c" ∷ ws) (to.front.spelled ∙ ap (λ ws. to.items ++ codes "0" ∷ ws) none);
    each = to.front.each;
  };
  lits_are = to.read_is;
  numbers_are = refl;
}

-- words that are no clause's, and no step's
NotClause : List (List ℕ) → Type 0
NotClause words = (literals : List (List ℕ)) → IsClauseLine words literals → ⊥

NotStep : List (List ℕ) → Type 0
NotStep words = (literals hints : List (List ℕ)) → IsStepLine words literals hints → ⊥

is_other : (w : List ℕ) (ws : List (List ℕ)) (lits : List Lit) (numbers : List ℕ) → NotClause (w ∷ ws) → NotStep (w ∷ ws) → IsForm (w ∷ ws) forms.Other lits numbers
unfolding NotClause NotStep
is_other w ws lits numbers clause step = (no_words w ws, clause, step)

c_is_no_step : (ws : List (List ℕ)) → NotStep (codes "c" ∷ ws)
unfolding NotStep
c_is_no_step ws literals hints line = first_letter 99 115 ws (literals ++ (codes "0" ∷ hints ++ codes "0" ∷ [])) (λ e. absurd (omega arith)) line.spelled

s_is_no_clause : (ws : List (List ℕ)) → NotClause (codes "s" ∷ ws)
unfolding NotClause
s_is_no_clause ws literals line = first_letter 115 99 ws (literals ++ codes "0" ∷ []) (λ e. absurd (omega arith)) line.spelled

-- without literals up to a `0` a line is no clause
pub no_clause_front : (rest : List ℕ) (lits : List Lit) → HasNoFront IsLiteral rest → IsForm (codes "c" ∷ words_in rest) forms.Other lits []
unfolding NotClause NotStep
no_clause_front rest lits none =
    is_other (codes "c") (words_in rest) lits []
    (λ literals line. none literals [] (record { spelled = same_tail (codes "c") (codes "c") (words_in rest) (literals ++ codes "0" ∷ []) line.spelled; each = line.each }))
    (c_is_no_step (words_in rest))

-- with words behind it a line is none
pub no_clause_end : (rest behind : List ℕ) (lits : List Lit) → IsReadTo IsLiteral read_literal rest [] lits behind → words_in behind ≢ [] → IsForm (codes "c" ∷ words_in rest) forms.Other lits []
unfolding NotClause NotStep
no_clause_end rest behind lits to some =
    is_other (codes "c") (words_in rest) lits []
    (λ literals line.
    let tail = same_tail (codes "c") (codes "c") (words_in rest) (literals ++ codes "0" ∷ []) line.spelled in
    let same = one_split IsLiteral to.items literals (words_in behind) [] (codes "0") (codes "0") to.front.each zero_is_no_literal line.each zero_is_no_literal (sym to.front.spelled ∙ tail) in
    some same.behind)
    (c_is_no_step (words_in rest))

step_tail : (rest : List ℕ) (literals hints : List (List ℕ)) → IsStepLine (codes "s" ∷ words_in rest) literals hints → words_in rest ≡ literals ++ (codes "0" ∷ hints ++ codes "0" ∷ [])
step_tail rest literals hints line = same_tail (codes "s") (codes "s") (words_in rest) (literals ++ (codes "0" ∷ hints ++ codes "0" ∷ [])) line.spelled

pub no_step_front : (rest : List ℕ) (lits : List Lit) (numbers : List ℕ) → HasNoFront IsLiteral rest → IsForm (codes "s" ∷ words_in rest) forms.Other lits numbers
unfolding NotClause NotStep
no_step_front rest lits numbers none =
    is_other (codes "s") (words_in rest) lits numbers (s_is_no_clause (words_in rest))
    (λ literals hints line. none literals (hints ++ codes "0" ∷ []) (record { spelled = step_tail rest literals hints line; each = line.each_literal }))

module _ (rest behind : List ℕ) (lits : List Lit) (to : IsReadTo IsLiteral read_literal rest [] lits behind) where
  -- behind the literals of a step stand its hints
  hints_behind : (literals hints : List (List ℕ)) → IsStepLine (codes "s" ∷ words_in rest) literals hints → words_in behind ≡ hints ++ codes "0" ∷ []
  hints_behind literals hints line =
      (one_split IsLiteral to.items literals (words_in behind) (hints ++ codes "0" ∷ []) (codes "0") (codes "0") to.front.each zero_is_no_literal line.each_literal zero_is_no_literal
      (sym to.front.spelled ∙ step_tail rest literals hints line)).behind

  pub no_hints_front : (numbers : List ℕ) → HasNoFront IsNumber behind → IsForm (codes "s" ∷ words_in rest) forms.Other lits numbers
  unfolding NotClause NotStep
  no_hints_front numbers none =
      is_other (codes "s") (words_in rest) lits numbers (s_is_no_clause (words_in rest))
      (λ literals hints line. none hints [] (record { spelled = hints_behind literals hints line; each = line.each_hint }))

  pub no_step_end : (end : List ℕ) (numbers : List ℕ) → IsReadTo IsNumber read_number behind [] numbers end → words_in end ≢ [] → IsForm (codes "s" ∷ words_in rest) forms.Other lits numbers
  unfolding NotClause NotStep
  no_step_end end numbers to_end some =
      is_other (codes "s") (words_in rest) lits numbers (s_is_no_clause (words_in rest))
      (λ literals hints line.
      let same = one_split IsNumber to_end.items hints (words_in end) [] (codes "0") (codes "0") to_end.front.each zero_is_no_number line.each_hint zero_is_no_number
      (sym to_end.front.spelled ∙ hints_behind literals hints line) in
      some same.behind)

  pub step_is : (end : List ℕ) (numbers : List ℕ) → IsReadTo IsNumber read_number behind [] numbers end → words_in end ≡ [] → IsReadStep (codes "s" ∷ words_in rest) lits numbers
  step_is end numbers to_end none = record {
    literals = to.items;
    hints = to_end.items;
    line = record {
      spelled = ap (λ ws. codes "s" ∷ ws) (to.front.spelled ∙ ap (λ ws. to.items ++ codes "0" ∷ ws) (to_end.front.spelled ∙ ap (λ ws. to_end.items ++ codes "0" ∷ ws) none));
      each_literal = to.front.each;
      each_hint = to_end.front.each;
    };
    lits_are = to.read_is;
    numbers_are = to_end.read_is;
  }

-- a line that begins with another word
pub other_form : (line : List ℕ) (word : Word) (behind : List ℕ) (lits : List Lit) (numbers : List ℕ) → IsFirstWord line word behind → word ≢ Clause → word ≢ Step → IsForm (words_in line) forms.Other lits numbers
unfolding NotClause NotStep
other_form line word behind lits numbers first clause step =
    subst (λ (ws : List (List ℕ)). IsForm ws forms.Other lits numbers) (sym first.there)
    (is_other first.word first.others lits numbers
    (λ literals is. not_c first.word word first.is_read clause (same_head first.word (codes "c") first.others (literals ++ codes "0" ∷ []) is.spelled))
    (λ literals hints is. not_s first.word word first.is_read step (same_head first.word (codes "s") first.others (literals ++ (codes "0" ∷ hints ++ codes "0" ∷ [])) is.spelled)))

-- a line that begins so, from behind that word
pub clause_form : (line rest : List ℕ) (first : IsFirstWord line Clause rest) → codes "c" ∷ words_in rest ≡ words_in line
clause_form line rest first = sym (first.there ∙ ap (λ w. w ∷ first.others) first.is_read ∙ ap (λ ws. codes "c" ∷ ws) (first.behind (λ e. absurd (cc))))

pub step_form : (line rest : List ℕ) (first : IsFirstWord line Step rest) → codes "s" ∷ words_in rest ≡ words_in line
step_form line rest first = sym (first.there ∙ ap (λ w. w ∷ first.others) first.is_read ∙ ap (λ ws. codes "s" ∷ ws) (first.behind (λ e. absurd (cc))))

-- what a call gives that puts items into an empty list
pub from_some : {X : Type 0} (IsItem : List ℕ → Type 0) (read : List ℕ → X) (line : List ℕ) (old new : List X) (found : Option (Bor (List ℕ))) (behind : Bor (List ℕ))
    → IfSome found (λ rest. IsReadTo IsItem read line old new rest.now) → found ≡ Some behind → old ≡ [] → IsReadTo IsItem read line [] new behind.now
from_some {X} IsItem read line old new found behind is e none =
    subst (λ (xs : List X). IsReadTo IsItem read line xs new behind.now) none
    (subst (λ (o : Option (Bor (List ℕ))). IfSome o (λ rest. IsReadTo IsItem read line old new rest.now)) e is)

pub from_none : {X : Type 0} (found : Option X) (P : Type 0) → IfNone found P → found ≡ None → P
from_none None P is e = is
from_none (Some x) P is e = absurd (cc)
