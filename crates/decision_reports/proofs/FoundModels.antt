-- What is found of models: one model more, one number more, and the first that can't be used.
use Rattle.std.proofs.Common.{◌≡◌, inl, inr, ℕ, zero, suc, ◌+◌, ◌<◌, ◌≤◌, ◌^◌, List, [], ◌∷◌, ◌++◌, length, take, drop, get_or, All, refl, sym, ap, subst, ◌∙◌, arith}
use Rattle.std.specs.Prelude.{Bool, true, false, filter, if◌then◌else◌, Vec}
use Rattle.std.specs.declared.alloc.Global.{Global}
use Rattle.std.specs.List.{AllZip, range_with_len}
use Rattle.std.proofs.lemmas.List.{take_more, take-append-drop, drop_more}
use Rattle.std.proofs.lemmas.List.Elements.{All-nil, All-cons, filter-append}
use Rattle.refutation_check.proofs.TextLines.{zip_push}
use Rattle.alloy_syntax.specs.declared.tree.CommandKind.{CommandKind}
use Rattle.named_model.specs.Model.{NamedTree}
use Rattle.named_model.specs.View.{named_view}
use Rattle.rel_formula.specs.Bounds.{Bounded, IsProblem}
use Rattle.rel_terms.specs.Terms.{HasTerms}
use Rattle.lowering_rules.specs.declared.fault.LowerFault.{LowerFault}
use Rattle.lowering_rules.specs.Formula.{all_facts}
use Rattle.lowering_rules.specs.Problem.{ProblemOf, IsWant, IsRefusal}
use Rattle.model_texts.specs.Texts.ModelText.{SaysModel}
use Rattle.script_format.specs.declared.entries.ModelEntry.{ModelEntry}
use Rattle.served_models.specs.Served.{LacksProblem}
use Rattle.served_models.proofs.Refusals.{told_no_want}
use Rattle.decision_reports.specs.declared.taken_models.TakenModel.{TakenModel}
use Rattle.decision_reports.specs.declared.taken_models.FoundModel.{FoundModel}
use Rattle.decision_reports.specs.declared.taken_models.FoundModel.TheVariants as model
use Rattle.decision_reports.specs.Taken.{CanBeRun, is_of_kind, numbers_of, IsUsableFor, HasBadAmong, IsRefusedFor, IsFirstRefusedFor, IsTakenOf, IsTaken, IsFoundIn, IsFoundFor}

-- ---- the commands of one model

-- among one number more
pub range_push : (a n : ℕ) → range_with_len a (n + 1) ≡ range_with_len a n ++ (a + n) ∷ []
range_push a zero = let same : a ≡ a + 0 = omega arith in ap (λ (k : ℕ). k ∷ []) same
range_push a (suc n) =
    let more : suc n + 1 ≡ suc (n + 1) = omega arith in
    let same : (a + 1) + n ≡ a + suc n = omega arith in
    ap (range_with_len a) more ∙ ap (λ (ks : List ℕ). a ∷ ks) (range_push (a + 1) n ∙ ap (λ (k : ℕ). range_with_len (a + 1) n ++ k ∷ []) same)

-- the turn of the loop that takes numbers
pub numbers_more : (kind : CommandKind) (m : NamedTree) (place : ℕ) (old new : List ℕ) (taken : Bool) → taken ≡ is_of_kind kind m (place + 1) → new ≡ old ++ (if taken then (place + 1) ∷ [] else [])
    → old ≡ filter (is_of_kind kind m) (range_with_len 1 place) → new ≡ filter (is_of_kind kind m) (range_with_len 1 (place + 1))
numbers_more kind m place old new taken e added before =
    let same : 1 + place ≡ place + 1 = omega arith in
    let last : (b : Bool) → b ≡ is_of_kind kind m (place + 1) → (if b then (place + 1) ∷ [] else []) ≡ filter (is_of_kind kind m) ((place + 1) ∷ []) =
    λ b f. ap (λ (t : Bool). if t then (place + 1) ∷ [] else []) f in
    added ∙ ap (λ (xs : List ℕ). xs ++ (if taken then (place + 1) ∷ [] else [])) before ∙ ap (λ (xs : List ℕ). filter (is_of_kind kind m) (range_with_len 1 place) ++ xs) (last taken e)
    ∙ sym (filter-append (is_of_kind kind m) (range_with_len 1 place) ((place + 1) ∷ []))
    ∙ ap (λ (k : ℕ). filter (is_of_kind kind m) (range_with_len 1 place ++ k ∷ [])) (sym same)
    ∙ ap (filter (is_of_kind kind m)) (sym (range_push 1 place))

-- a model's command has a problem, or lacks one
abbrev pub NotRefused : Type 0
NotRefused = (m : NamedTree) (n : ℕ) (facts : List ℕ) (p : Bounded) → IsProblem p → ProblemOf m n facts p → (k : ℕ) → HasTerms p k → k ≤ 2 ^ 18 → (f : LowerFault) → IsRefusal m n facts f → IsWant f

pub has_or_lacks : NotRefused → (m : NamedTree) (n : ℕ) (words : List ℕ) → CanBeRun m n → LacksProblem m n words → ⊥
has_or_lacks not_refused m n words (p, is) lacks =
    let few = is.lowered.translatable.few_terms in
    told_no_want lacks.fault lacks.told (not_refused m n (all_facts m) p is.problem is.lowered.is few.0 few.1 few.2 lacks.fault lacks.refused)

-- the loop over numbers stops at the first whose command has no problem
pub bad_among : (m : NamedTree) (numbers : List ℕ) (i number : ℕ) (words : List ℕ) → i < length numbers → number ≡ get_or numbers i number → All (CanBeRun m) (take i numbers) → LacksProblem m number words
    → HasBadAmong m numbers words
bad_among m numbers i number words l item before lacks = record {
  before = take i numbers;
  number = number;
  others = drop (i + 1) numbers;
  numbers_are = sym (take-append-drop i numbers) ∙ ap (λ (ks : List ℕ). take i numbers ++ ks) (drop_more numbers i number l ∙ ap (λ (k : ℕ). k ∷ drop (i + 1) numbers) (sym item));
  earlier = before;
  lacks = lacks;
}

-- what is found of the model that a text says is found of the text
pub found_of_model : (kind : CommandKind) (text : List ℕ) (m : NamedTree) (found : FoundModel) → SaysModel text m → IsFoundIn kind m found → IsFoundFor kind text found
found_of_model kind text m (model.Ready x) says is = (subst (SaysModel text) (sym is.0) says, is.1)
found_of_model kind text m (model.Refused words) says bad = inr (m, says, bad)

-- ---- models

module _ (kind : CommandKind) where
  usable_of_taken : (entry : ModelEntry) (x : TakenModel) → IsTaken kind entry x → IsUsableFor kind entry.text
  usable_of_taken entry x taken = (named_view x.model, taken.0, subst (All (CanBeRun (named_view x.model))) taken.1.numbers taken.1.problems)

  usable_of_all : (entries : List ModelEntry) (xs : List TakenModel) → AllZip (IsTaken kind) entries xs → All (λ (e : ModelEntry). IsUsableFor kind e.text) entries
  usable_of_all [] [] zip = All-nil (λ (e : ModelEntry). IsUsableFor kind e.text)
  usable_of_all [] (x ∷ xs) zip = absurd zip
  usable_of_all (e ∷ es) [] zip = absurd zip
  usable_of_all (e ∷ es) (x ∷ xs) zip = All-cons (λ (e : ModelEntry). IsUsableFor kind e.text) e es (usable_of_taken e x zip.0) (usable_of_all es xs zip.1)

  -- the turn of the loop that reads models
  pub taken_more : (entries : List ModelEntry) (i : ℕ) (entry : ModelEntry) (text : List ℕ) (old new : List TakenModel) (x : TakenModel)
      → i < length entries → entry ≡ get_or entries i entry → text ≡ entry.text → new ≡ old ++ x ∷ []
      → AllZip (IsTaken kind) (take i entries) old → IsFoundFor kind text (model.Ready x) → AllZip (IsTaken kind) (take (i + 1) entries) new
  taken_more entries i entry text old new x l item told pushed before found =
      let more : take (i + 1) entries ≡ take i entries ++ entry ∷ [] = take_more entries i entry l ∙ ap (λ (e : ModelEntry). take i entries ++ e ∷ []) (sym item) in
      let taken : IsTaken kind entry x = (subst (λ (t : List ℕ). SaysModel t (named_view x.model)) told found.0, found.1) in
      subst (λ (es : List ModelEntry). AllZip (IsTaken kind) es new) (sym more)
      (subst (AllZip (IsTaken kind) (take i entries ++ entry ∷ [])) (sym pushed) (zip_push (IsTaken kind) (take i entries) old entry x before taken))

  -- the loop stops at the first model that can't be used
  pub first_refused : (entries : List ModelEntry) (i : ℕ) (entry : ModelEntry) (text words : List ℕ) (xs : List TakenModel)
      → i < length entries → entry ≡ get_or entries i entry → text ≡ entry.text
      → AllZip (IsTaken kind) (take i entries) xs → IsRefusedFor kind text words → IsFirstRefusedFor kind entries entry.name words
  first_refused entries i entry text words xs l item told before refused = record {
    before = take i entries;
    entry = entry;
    others = drop (i + 1) entries;
    entries_are = sym (take-append-drop i entries) ∙ ap (λ (es : List ModelEntry). take i entries ++ es) (drop_more entries i entry l ∙ ap (λ (e : ModelEntry). e ∷ drop (i + 1) entries) (sym item));
    usable = usable_of_all (take i entries) xs before;
    refused = subst (λ (t : List ℕ). IsRefusedFor kind t words) told refused;
    name_is = refl;
  }
