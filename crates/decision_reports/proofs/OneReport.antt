-- Of models there is one first refusal at most, and none beside decisions.
use Rattle.std.proofs.Common.{◌≡◌, ◌⊎◌, inl, inr, ℕ, ◌≤◌, ◌^◌, List, [], ◌∷◌, ◌++◌, All, refl, sym, ap, subst, ◌∙◌}
use Rattle.std.proofs.lemmas.List.Elements.{All-nil, All-cons, All-head, All-tail}
use Rattle.alloy_syntax.specs.declared.tree.CommandKind.{CommandKind}
use Rattle.alloy_syntax.specs.declared.tree.CommandKind.TheVariants.{Run, Check}
use Rattle.named_model.specs.Model.{NamedTree}
use Rattle.lowering_rules.specs.declared.fault.LowerFault.{LowerFault}
use Rattle.lowering_rules.specs.Formula.{all_facts}
use Rattle.lowering_rules.specs.Problem.{IsWant, IsRefusal}
use Rattle.model_texts.specs.Words.Words.{command_words}
use Rattle.model_texts.specs.Texts.ModelText.{SaysModel, IsFaulty}
use Rattle.script_format.specs.declared.entries.ModelEntry.{ModelEntry}
use Rattle.served_models.specs.Served.{LacksProblem, IsToldOf}
use Rattle.served_models.proofs.Refusals.{told_no_want}
use Rattle.decision_reports.specs.Taken.{CanBeRun, numbers_of, IsUsableFor, HasBadAmong, SaysBadCommandOf, IsRefusedFor, IsFirstRefusedFor}
use Rattle.decision_reports.specs.Texts.{AreTexts}
use Rattle.decision_reports.specs.Reports.{IsDecisionOn, AreDecisionsOn, AreAssertionsOf}
use Rattle.decision_reports.specs.FactReports.{IsFactSetOn, AreFactSetsOn, AreFactSetsOf}
use Rattle.decision_reports.proofs.FoundModels.{NotRefused, has_or_lacks}

-- ---- the first of a list that is a bad one

module _ {X : Type 0} where
  head_is : (x y : X) (xs ys : List X) → x ∷ xs ≡ y ∷ ys → x ≡ y
  head_is x y xs ys e = cc

  tail_is : (x y : X) (xs ys : List X) → x ∷ xs ≡ y ∷ ys → xs ≡ ys
  tail_is x y xs ys e = cc

  all_at_split : (P : X → Type 0) (before others : List X) (x : X) → All P (before ++ x ∷ others) → P x
  all_at_split P [] others x all = All-head P x others all
  all_at_split P (z ∷ before) others x all = all_at_split P before others x (All-tail P z (before ++ x ∷ others) all)

  module _ (Good : X → Type 0) (Bad : X → List ℕ → Type 0) (clash : (x : X) (words : List ℕ) → Good x → Bad x words → ⊥) where
    first_one : (before before' others others' : List X) (x y : X) (words words' : List ℕ) → before ++ x ∷ others ≡ before' ++ y ∷ others' → All Good before → All Good before' → Bad x words → Bad y words' → x ≡ y
    first_one [] [] others others' x y words words' e good good' bad bad' = head_is x y others others' e
    first_one [] (z ∷ before') others others' x y words words' e good good' bad bad' =
        let same = head_is x z others (before' ++ y ∷ others') e in
        absurd (clash z words (All-head Good z before' good') (subst (λ (u : X). Bad u words) same bad))
    first_one (z ∷ before) [] others others' x y words words' e good good' bad bad' =
        let same = head_is z y (before ++ x ∷ others) others' e in
        absurd (clash z words' (All-head Good z before good) (subst (λ (u : X). Bad u words') (sym same) bad'))
    first_one (z ∷ before) (w ∷ before') others others' x y words words' e good good' bad bad' =
        first_one before before' others others' x y words words' (tail_is z w (before ++ x ∷ others) (before' ++ y ∷ others') e) (All-tail Good z before good) (All-tail Good w before' good') bad bad'

-- ---- what the laws below say, as they are used here

abbrev pub OneRefusal : Type 0
OneRefusal = (m : NamedTree) (n : ℕ) (facts : List ℕ) (f g : LowerFault) → IsRefusal m n facts f → IsRefusal m n facts g → (f ≡ g) ⊎ (IsWant f ⊎ IsWant g)

pub record IsOneThing : Type 0 where
  pub model : (text : List ℕ) (m n : NamedTree) → SaysModel text m → SaysModel text n → m ≡ n
  pub fault : (text words others : List ℕ) → IsFaulty text words → IsFaulty text others → words ≡ others
  pub faulty : (text words : List ℕ) (m : NamedTree) → SaysModel text m → IsFaulty text words → ⊥

-- ---- one model

module _ (not_refused : NotRefused) (one_refusal : OneRefusal) (text_is : IsOneThing) (kind : CommandKind) where
  one_told : (m : NamedTree) (n : ℕ) (words others : List ℕ) → LacksProblem m n words → LacksProblem m n others → words ≡ others
  one_told m n words others x y =
      let fault : x.fault ≡ y.fault = elim (one_refusal m n (all_facts m) x.fault y.fault x.refused y.refused) [
        | inl same ↦ same
        | inr (inl memory) ↦ absurd (told_no_want x.fault x.told memory)
        | inr (inr memory) ↦ absurd (told_no_want y.fault y.told memory)
      ] in
      x.words_are ∙ ap (command_words n) fault ∙ sym y.words_are

  one_bad : (m : NamedTree) (numbers words others : List ℕ) → HasBadAmong m numbers words → HasBadAmong m numbers others → words ≡ others
  one_bad m numbers words others a b =
      let same : a.number ≡ b.number = first_one (CanBeRun m) (LacksProblem m) (has_or_lacks not_refused m) a.before b.before a.others b.others a.number b.number words others
      (sym a.numbers_are ∙ b.numbers_are) a.earlier b.earlier a.lacks b.lacks in
      one_told m b.number words others (subst (λ (n : ℕ). LacksProblem m n words) same a.lacks) b.lacks

  same_bad : (text words others : List ℕ) → SaysBadCommandOf kind text words → SaysBadCommandOf kind text others → words ≡ others
  same_bad text words others a b =
      let same : a.0 ≡ b.0 = text_is.model text a.0 b.0 a.1 b.1 in
      one_bad b.0 (numbers_of kind b.0) words others (subst (λ (m : NamedTree). HasBadAmong m (numbers_of kind m) words) same a.2) b.2

  usable_or_refused : (text words : List ℕ) → IsUsableFor kind text → IsRefusedFor kind text words → ⊥
  usable_or_refused text words (m, says, problems) (inl faulty) = text_is.faulty text words m says faulty
  usable_or_refused text words (m, says, problems) (inr bad) =
      let same : bad.0 ≡ m = text_is.model text bad.0 m bad.1 says in
      let among = subst (λ (n : NamedTree). HasBadAmong n (numbers_of kind n) words) same bad.2 in
      has_or_lacks not_refused m among.number words
      (all_at_split (CanBeRun m) among.before among.others among.number (subst (All (CanBeRun m)) among.numbers_are problems)) among.lacks

  one_words : (text words others : List ℕ) → IsRefusedFor kind text words → IsRefusedFor kind text others → words ≡ others
  one_words text words others (inl a) (inl b) = text_is.fault text words others a b
  one_words text words others (inl a) (inr b) = absurd (text_is.faulty text words b.0 b.1 a)
  one_words text words others (inr a) (inl b) = absurd (text_is.faulty text others a.0 a.1 b)
  one_words text words others (inr a) (inr b) = same_bad text words others a b

  -- ---- models

  pub one_first_refused : (entries : List ModelEntry) (name words others more : List ℕ) → IsFirstRefusedFor kind entries name words → IsFirstRefusedFor kind entries others more → (name ≡ others) × (words ≡ more)
  one_first_refused entries name words others more a b =
      let same : a.entry ≡ b.entry = first_one (λ (e : ModelEntry). IsUsableFor kind e.text) (λ (e : ModelEntry) (ws : List ℕ). IsRefusedFor kind e.text ws) (λ e ws. usable_or_refused e.text ws)
      a.before b.before a.others b.others a.entry b.entry words more (sym a.entries_are ∙ b.entries_are) a.usable b.usable a.refused b.refused in (
        a.name_is ∙ ap (λ (e : ModelEntry). e.name) same ∙ sym b.name_is,
        one_words b.entry.text words more (subst (λ (e : ModelEntry). IsRefusedFor kind e.text words) same a.refused) b.refused,
      )

  pub usable_or_first_refused : (entries : List ModelEntry) (name words : List ℕ) → All (λ (e : ModelEntry). IsUsableFor kind e.text) entries → IsFirstRefusedFor kind entries name words → ⊥
  usable_or_first_refused entries name words usable first =
      let IsUsed : ModelEntry → Type 0 = λ e. IsUsableFor kind e.text in
      usable_or_refused first.entry.text words (all_at_split IsUsed first.before first.others first.entry (subst (All IsUsed) first.entries_are usable)) first.refused

-- ---- what is told of can be used

problems_of : (m : NamedTree) (IsOn : ℕ → List ℕ → Type 0) → ((n : ℕ) (text : List ℕ) → IsOn n text → CanBeRun m n) → (numbers text : List ℕ) → AreTexts IsOn numbers text → All (CanBeRun m) numbers
problems_of m IsOn runs [] text are = All-nil (CanBeRun m)
problems_of m IsOn runs (n ∷ ns) text (first, rest, on, others, same) = All-cons (CanBeRun m) n ns (runs n first on) (problems_of m IsOn runs ns rest others)

usable_of_texts : (kind : CommandKind) (IsSaid : ModelEntry → List ℕ → Type 0) → ((e : ModelEntry) (text : List ℕ) → IsSaid e text → IsUsableFor kind e.text)
    → (entries : List ModelEntry) (text : List ℕ) → AreTexts IsSaid entries text → All (λ (e : ModelEntry). IsUsableFor kind e.text) entries
usable_of_texts kind IsSaid usable [] text are = All-nil (λ (e : ModelEntry). IsUsableFor kind e.text)
usable_of_texts kind IsSaid usable (e ∷ es) text (first, rest, is, others, same) =
    All-cons (λ (x : ModelEntry). IsUsableFor kind x.text) e es (usable e first is) (usable_of_texts kind IsSaid usable es rest others)

pub usable_of_told : (budget : ℕ) (entries : List ModelEntry) (text : List ℕ) → AreAssertionsOf budget entries text → All (λ (e : ModelEntry). IsUsableFor Check e.text) entries
usable_of_told budget entries text told = usable_of_texts Check (AreDecisionsOn budget) usable entries text told.0
  where
    usable : (e : ModelEntry) (told : List ℕ) → AreDecisionsOn budget e told → IsUsableFor Check e.text
    usable e told (m, says, texts) = (m, says, problems_of m (IsDecisionOn budget e.name m) (λ n t on. (on.translation.problem, on.problem)) (numbers_of Check m) told texts)

pub usable_of_facts : (budget : ℕ) (entries : List ModelEntry) (text : List ℕ) → AreFactSetsOf budget entries text → All (λ (e : ModelEntry). IsUsableFor Run e.text) entries
usable_of_facts budget entries text told = usable_of_texts Run (AreFactSetsOn budget) usable entries text told.0
  where
    usable : (e : ModelEntry) (told : List ℕ) → AreFactSetsOn budget e told → IsUsableFor Run e.text
    usable e told (m, says, texts) = (m, says, problems_of m (IsFactSetOn budget e.name m) (λ n t on. on.runs) (numbers_of Run m) told texts)
