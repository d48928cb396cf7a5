-- A model is usable or refused, and of a list of models there is one first refusal at most.
use Rattle.std.proofs.Common.{◌≡◌, ◌⊎◌, inl, inr, ℕ, ◌+◌, ◌<◌, ◌≤◌, ◌^◌, List, [], ◌∷◌, ◌++◌, length, refl, sym, ap, subst, ◌∙◌, arith}
use Rattle.std.proofs.lemmas.Bool.{cases_lt}
use Rattle.tuple_core.specs.declared.atom.Atom.{Atom}
use Rattle.tuple_core.proofs.Ascending.{same_lists}
use Rattle.rel_formula.specs.Bounds.{Bounded, IsProblem}
use Rattle.renaming_classes.specs.Counts.{orders, IsNumberOfRenamings}
use Rattle.rel_terms.specs.Terms.{HasTerms}
use Rattle.named_model.specs.Model.{NamedTree}
use Rattle.lowering_rules.specs.declared.fault.LowerFault.{LowerFault}
use Rattle.lowering_rules.specs.Formula.{all_facts}
use Rattle.lowering_rules.specs.Problem.{ProblemOf, IsWant, IsRefusal}
use Rattle.model_texts.specs.Words.Words.{command_words}
use Rattle.script_format.specs.declared.entries.ModelEntry.{ModelEntry}
use Rattle.script_format.specs.declared.entries.SessionEntry.{SessionEntry}
use Rattle.model_texts.specs.Texts.ModelText.{SaysModel, IsFaulty}
use Rattle.served_models.specs.declared.purposes.Purpose.{Purpose}
use Rattle.served_models.specs.declared.purposes.Purpose.TheVariants.{Lists, Classes}
use Rattle.served_models.specs.Served.{IsProblemOf, Fits, IsUnfit, renamings_words, HasProblem, LacksProblem, IsUnusable, IsUsable, IsToldOf, HasBadCommand, SaysBadCommand, IsRefused, AreUsable, IsFirstRefused}

-- what the laws below say, as they are used here
abbrev pub NotRefused : Type 0
NotRefused = (m : NamedTree) (n : ℕ) (facts : List ℕ) (p : Bounded) → IsProblem p → ProblemOf m n facts p → (k : ℕ) → HasTerms p k → k ≤ 2 ^ 18 → (f : LowerFault) → IsRefusal m n facts f → IsWant f

abbrev pub OneRefusal : Type 0
OneRefusal = (m : NamedTree) (n : ℕ) (facts : List ℕ) (f g : LowerFault) → IsRefusal m n facts f → IsRefusal m n facts g → (f ≡ g) ⊎ (IsWant f ⊎ IsWant g)

abbrev pub OneModel : Type 0
OneModel = (text : List ℕ) (m n : NamedTree) → SaysModel text m → SaysModel text n → m ≡ n

abbrev pub OneFault : Type 0
OneFault = (text words others : List ℕ) → IsFaulty text words → IsFaulty text others → words ≡ others

abbrev pub NotFaulty : Type 0
NotFaulty = (text words : List ℕ) (m : NamedTree) → SaysModel text m → IsFaulty text words → ⊥

abbrev pub OneProblem : Type 0
OneProblem = (m : NamedTree) (n : ℕ) (facts : List ℕ) (p q : Bounded) → IsProblem p → IsProblem q → ProblemOf m n facts p → ProblemOf m n facts q → p ≡ q

pub one_problem : OneProblem → (m : NamedTree) (n : ℕ) (p q : Bounded) → IsProblemOf m n p → IsProblemOf m n q → p ≡ q
one_problem one m n p q a b = one m n (all_facts m) p q a.problem b.problem a.lowered.is b.lowered.is

-- a fault that is told is no want
pub told_no_want : (f : LowerFault) → IsToldOf f → IsWant f → ⊥
told_no_want f told (inl memory) = told.0 memory
told_no_want f told (inr large) = told.1 large

-- ---- problems that can be used, and others

-- a problem has one number of renamings
one_number_of_renamings : (p : Bounded) (n k : ℕ) → IsNumberOfRenamings p n → IsNumberOfRenamings p k → n ≡ k
one_number_of_renamings p n k a b =
    let rows : a.atoms.rows ≡ b.atoms.rows = same_lists a.atoms.rows b.atoms.rows a.rows.ascending b.rows.ascending (λ t c. (b.all.just t).1 ((a.all.just t).0 c)) (λ t c. (a.all.just t).1 ((b.all.just t).0 c)) in
    a.number ∙ ap (λ (ts : List (List Atom)). orders ts (length p.tops)) rows ∙ sym b.number

fits_or_not : (purpose : Purpose) (p : Bounded) → Fits purpose p → IsUnfit purpose p → ⊥
fits_or_not Lists p few many = many
fits_or_not Classes p few many = let same = one_number_of_renamings p few.0 many.0 few.1 many.1 in let l = few.2 in let m = many.2 in absurd (omega arith)

-- ---- models

head_is : (x y : ModelEntry) (xs ys : List ModelEntry) → x ∷ xs ≡ y ∷ ys → x ≡ y
head_is x y xs ys e = cc

tail_is : (x y : ModelEntry) (xs ys : List ModelEntry) → x ∷ xs ≡ y ∷ ys → xs ≡ ys
tail_is x y xs ys e = cc

module _ (not_refused : NotRefused) (one_fault_of : OneRefusal) (one_model : OneModel) (one_fault : OneFault) (not_faulty : NotFaulty)
    (one_problem_of : OneProblem) (purpose : Purpose) (sessions : List SessionEntry) where
  has_or_lacks : (m : NamedTree) (n : ℕ) (f : LowerFault) (p : Bounded) → IsProblemOf m n p → IsRefusal m n (all_facts m) f → IsToldOf f → ⊥
  has_or_lacks m n f p is refused told =
      let few = is.lowered.translatable.few_terms in
      told_no_want f told (not_refused m n (all_facts m) p is.problem is.lowered.is few.0 few.1 few.2 f refused)

  usable_or_unusable : (m : NamedTree) (n : ℕ) (words : List ℕ) → HasProblem purpose m n → IsUnusable purpose m n words → ⊥
  usable_or_unusable m n words (p, is, fits) (inl lacks) = has_or_lacks m n lacks.fault p is lacks.refused lacks.told
  usable_or_unusable m n words (p, is, fits) (inr has) =
      fits_or_not purpose p fits (subst (IsUnfit purpose) (one_problem one_problem_of m n has.problem p has.is is) has.unfit)

  usable_or_bad : (place : ℕ) (text words : List ℕ) (m : NamedTree) → IsUsable purpose sessions place text m → HasBadCommand purpose sessions place m words → ⊥
  usable_or_bad place text words m is bad = usable_or_unusable m bad.number words (is.served bad.number bad.asked) bad.unusable

  usable_or_refused : (place : ℕ) (text words : List ℕ) (m : NamedTree) → IsUsable purpose sessions place text m → IsRefused purpose sessions place text words → ⊥
  usable_or_refused place text words m is (inl faulty) = not_faulty text words m is.says faulty
  usable_or_refused place text words m is (inr bad) =
      let same : bad.0 ≡ m = one_model text bad.0 m bad.1 is.says in
      usable_or_bad place text words m is (subst (λ (n : NamedTree). HasBadCommand purpose sessions place n words) same bad.2)

  -- the first command that can't be used is one
  one_number : (place : ℕ) (m : NamedTree) (words others : List ℕ) (a : HasBadCommand purpose sessions place m words) (b : HasBadCommand purpose sessions place m others) → a.number ≡ b.number
  one_number place m words others a b = elim (cases_lt a.number b.number) [
    | inl less ↦ absurd (usable_or_unusable m a.number words (b.earlier a.number a.asked (omega arith)) a.unusable)
    | inr more ↦ elim (cases_lt b.number a.number) [
      | inl less ↦ absurd (usable_or_unusable m b.number others (a.earlier b.number b.asked (omega arith)) b.unusable)
      | inr both ↦ omega arith
    ]
  ]

  one_told : (m : NamedTree) (n : ℕ) (f g : LowerFault) → IsRefusal m n (all_facts m) f → IsRefusal m n (all_facts m) g → IsToldOf f → IsToldOf g → f ≡ g
  one_told m n f g a b x y = elim (one_fault_of m n (all_facts m) f g a b) [
    | inl same ↦ same
    | inr (inl f') ↦ absurd (told_no_want f x f')
    | inr (inr g') ↦ absurd (told_no_want g y g')
  ]

  one_lack : (m : NamedTree) (n : ℕ) (words others : List ℕ) → LacksProblem m n words → LacksProblem m n others → words ≡ others
  one_lack m n words others a b = a.words_are ∙ ap (command_words n) (one_told m n a.fault b.fault a.refused b.refused a.told b.told) ∙ sym b.words_are

  one_unusable : (m : NamedTree) (n : ℕ) (words others : List ℕ) → IsUnusable purpose m n words → IsUnusable purpose m n others → words ≡ others
  one_unusable m n words others (inl a) (inl b) = one_lack m n words others a b
  one_unusable m n words others (inl a) (inr b) = absurd (has_or_lacks m n a.fault b.problem b.is a.refused a.told)
  one_unusable m n words others (inr a) (inl b) = absurd (has_or_lacks m n b.fault a.problem a.is b.refused b.told)
  one_unusable m n words others (inr a) (inr b) = a.words_are ∙ sym b.words_are

  one_bad : (place : ℕ) (words others : List ℕ) (m : NamedTree) → HasBadCommand purpose sessions place m words → HasBadCommand purpose sessions place m others → words ≡ others
  one_bad place words others m a b =
      one_unusable m b.number words others (subst (λ (n : ℕ). IsUnusable purpose m n words) (one_number place m words others a b) a.unusable) b.unusable

  same_bad : (place : ℕ) (text words others : List ℕ) → SaysBadCommand purpose sessions place text words → SaysBadCommand purpose sessions place text others → words ≡ others
  same_bad place text words others a b =
      let same : b.0 ≡ a.0 = one_model text b.0 a.0 b.1 a.1 in
      one_bad place words others a.0 a.2 (subst (λ (m : NamedTree). HasBadCommand purpose sessions place m others) same b.2)

  one_refusal : (place : ℕ) (text words others : List ℕ) → IsRefused purpose sessions place text words → IsRefused purpose sessions place text others → words ≡ others
  one_refusal place text words others (inl a) (inl b) = one_fault text words others a b
  one_refusal place text words others (inl a) (inr b) = absurd (not_faulty text words b.0 b.1 a)
  one_refusal place text words others (inr a) (inl b) = absurd (not_faulty text others a.0 a.1 b)
  one_refusal place text words others (inr a) (inr b) = same_bad place text words others a b

  -- the model at a place further on
  refused_on : (place : ℕ) (x : ModelEntry) (before : List ModelEntry) (text words : List ℕ) → IsRefused purpose sessions (place + length (x ∷ before)) text words → IsRefused purpose sessions ((place + 1) + length before) text words
  refused_on place x before text words is =
      let same : place + length (x ∷ before) ≡ (place + 1) + length before = omega arith in
      subst (λ (n : ℕ). IsRefused purpose sessions n text words) same is

  refused_here : (place : ℕ) (x y : ModelEntry) (words : List ℕ) → x ≡ y → IsRefused purpose sessions (place + 0) x.text words → IsRefused purpose sessions place y.text words
  refused_here place x y words e is =
      let same : place + 0 ≡ place = omega arith in
      subst (λ (n : ℕ). IsRefused purpose sessions n y.text words) same (subst (λ (z : ModelEntry). IsRefused purpose sessions (place + 0) z.text words) e is)

  from_start : (n : ℕ) (text words : List ℕ) → IsRefused purpose sessions n text words → IsRefused purpose sessions (0 + n) text words
  from_start n text words is =
      let same : n ≡ 0 + n = omega arith in
      subst (λ (k : ℕ). IsRefused purpose sessions k text words) same is

  all_usable : (place : ℕ) (before others : List ModelEntry) (x : ModelEntry) (ms : List NamedTree) (words : List ℕ)
      → AreUsable purpose sessions place (before ++ x ∷ others) ms → IsRefused purpose sessions (place + length before) x.text words → ⊥
  all_usable place [] others x [] words are is = are
  all_usable place [] others x (m ∷ ms) words are is = usable_or_refused place x.text words m are.0 (refused_here place x x words refl is)
  all_usable place (y ∷ before) others x [] words are is = are
  all_usable place (y ∷ before) others x (m ∷ ms) words are is = all_usable (place + 1) before others x ms words are.1 (refused_on place y before x.text words is)

  pub usable_or_first_refused : (entries : List ModelEntry) (ms : List NamedTree) (name words : List ℕ) → AreUsable purpose sessions 0 entries ms → IsFirstRefused purpose sessions entries name words → ⊥
  usable_or_first_refused entries ms name words are first =
      all_usable 0 first.before first.others first.entry ms words (subst (λ (es : List ModelEntry). AreUsable purpose sessions 0 es ms) first.entries_are are) (from_start (length first.before) first.entry.text words first.refused)

  one_first : (place : ℕ) (before before' others others' : List ModelEntry) (x y : ModelEntry) (ms ns : List NamedTree) (words words' : List ℕ)
      → before ++ x ∷ others ≡ before' ++ y ∷ others' → AreUsable purpose sessions place before ms → AreUsable purpose sessions place before' ns
      → IsRefused purpose sessions (place + length before) x.text words → IsRefused purpose sessions (place + length before') y.text words' → (x.name ≡ y.name) × (words ≡ words')
  one_first place [] [] others others' x y ms ns words words' e us vs a b =
      let same = head_is x y others others' e in
      (ap (λ (z : ModelEntry). z.name) same, one_refusal place y.text words words' (refused_here place x y words same a) (refused_here place y y words' refl b))
  one_first place [] (z ∷ before') others others' x y ms [] words words' e us vs a b = absurd vs
  one_first place [] (z ∷ before') others others' x y ms (n ∷ ns) words words' e us vs a b =
      absurd (usable_or_refused place z.text words n vs.0 (refused_here place x z words (head_is x z others (before' ++ y ∷ others') e) a))
  one_first place (z ∷ before) [] others others' x y [] ns words words' e us vs a b = absurd us
  one_first place (z ∷ before) [] others others' x y (m ∷ ms) ns words words' e us vs a b =
      absurd (usable_or_refused place z.text words' m us.0 (refused_here place y z words' (sym (head_is z y (before ++ x ∷ others) others' e)) b))
  one_first place (z ∷ before) (w ∷ before') others others' x y [] ns words words' e us vs a b = absurd us
  one_first place (z ∷ before) (w ∷ before') others others' x y (m ∷ ms) [] words words' e us vs a b = absurd vs
  one_first place (z ∷ before) (w ∷ before') others others' x y (m ∷ ms) (n ∷ ns) words words' e us vs a b =
      one_first (place + 1) before before' others others' x y ms ns words words' (tail_is z w (before ++ x ∷ others) (before' ++ y ∷ others') e) us.1 vs.1
      (refused_on place z before x.text words a) (refused_on place w before' y.text words' b)

  pub one_first_refused : (entries : List ModelEntry) (name name' words words' : List ℕ) → IsFirstRefused purpose sessions entries name words → IsFirstRefused purpose sessions entries name' words' → (name ≡ name') × (words ≡ words')
  one_first_refused entries name name' words words' a b =
      let same = one_first 0 a.before b.before a.others b.others a.entry b.entry a.models b.models words words' (sym a.entries_are ∙ b.entries_are) a.usable b.usable
      (from_start (length a.before) a.entry.text words a.refused) (from_start (length b.before) b.entry.text words' b.refused) in
      (a.name_is ∙ same.0 ∙ sym b.name_is, same.1)

  cons_same : (m n : NamedTree) (ms ns : List NamedTree) → m ≡ n → ms ≡ ns → m ∷ ms ≡ n ∷ ns
  cons_same m n ms ns e f = ap (λ (x : NamedTree). x ∷ ms) e ∙ ap (λ (xs : List NamedTree). n ∷ xs) f

  pub one_list : (place : ℕ) (entries : List ModelEntry) (ms ns : List NamedTree) → AreUsable purpose sessions place entries ms → AreUsable purpose sessions place entries ns → ms ≡ ns
  one_list place [] [] [] us vs = refl
  one_list place [] [] (n ∷ ns) us vs = absurd vs
  one_list place [] (m ∷ ms) ns us vs = absurd us
  one_list place (e ∷ es) [] ns us vs = absurd us
  one_list place (e ∷ es) (m ∷ ms) [] us vs = absurd vs
  one_list place (e ∷ es) (m ∷ ms) (n ∷ ns) us vs = cons_same m n ms ns (one_model e.text m n us.0.says vs.0.says) (one_list (place + 1) es ms ns us.1 vs.1)
