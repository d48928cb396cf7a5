-- A loop over parts: what is left, with what was settled in front, is settled to the whole.
use Rattle.std.proofs.Common.{◌≡◌, ℕ, ◌+◌, ◌<◌, ◌≤◌, inl, inr, List, [], ◌∷◌, ◌++◌, length, get_or, drop, Result, Ok, Err, refl, sym, ap, ◌∙◌}
use Rattle.std.proofs.lemmas.List.{drop_more, drop_all}
use Rattle.named_model.specs.Answers.{◌>>=◌}
use Rattle.named_model.specs.Phrase.{PhraseTree, no_phrases, more_phrases, phrases_of, DomainTree, DomainTrees, more_domains}
use Rattle.model_types.specs.declared.fault.TypeFault.{TypeFault}
use Rattle.overload_resolution.specs.Settling.Told.{IsTold}

abbrev pub before_all : {Y T : Type 0} → (Y → T → T) → List Y → T → T
before_all cons [] t = t
before_all cons (y ∷ ys) t = cons y (before_all cons ys t)

before_more : {Y T : Type 0} (cons : Y → T → T) (ys : List Y) (y : Y) (t : T) → before_all cons (ys ++ y ∷ []) t ≡ before_all cons ys (cons y t)
before_more cons [] y t = refl
before_more cons (x ∷ ys) y t = ap (cons x) (before_more cons ys y t)

-- what is found, and what is left of the whole
abbrev pub Reached : {Y T : Type 0} → (Y → T → T) → List Y → Result T TypeFault → Result T TypeFault → Type 0
Reached cons found now whole = (now >>= λ t. Ok (before_all cons found t)) ≡ whole

module _ {Y T : Type 0} (cons : Y → T → T) where
  pub reached_start : (now : Result T TypeFault) → Reached cons [] now now
  reached_start (Ok t) = refl
  reached_start (Err e) = refl

  -- one more
  pub reached_more : (found : List Y) (y : Y) (now next whole : Result T TypeFault) → now ≡ (next >>= λ t. Ok (cons y t)) → Reached cons found now whole → Reached cons (found ++ y ∷ []) next whole
  reached_more found y now next whole apart before = go next ∙ ap (λ r. r >>= λ t. Ok (before_all cons found t)) (sym apart) ∙ before
    where
      go : (r : Result T TypeFault) → (r >>= λ t. Ok (before_all cons (found ++ y ∷ []) t)) ≡ ((r >>= λ t. Ok (cons y t)) >>= λ t. Ok (before_all cons found t))
      go (Ok t) = ap Ok (before_more cons found y t)
      go (Err e) = refl

  -- what is told of the rest is told of the whole
  pub reached_fault : (found : List Y) (e : TypeFault) (now whole : Result T TypeFault) → IsTold e now → Reached cons found now whole → IsTold e whole
  reached_fault found e now whole (inl memory) before = inl memory
  reached_fault found e now whole (inr fault) before = inr (sym before ∙ ap (λ r. r >>= λ t. Ok (before_all cons found t)) fault)

  pub reached_all : (found : List Y) (t : T) (now whole : Result T TypeFault) → now ≡ Ok t → Reached cons found now whole → whole ≡ Ok (before_all cons found t)
  reached_all found t now whole ends before = sym before ∙ ap (λ r. r >>= λ t. Ok (before_all cons found t)) ends

-- what is told first is told
pub told_then : {A B : Type 0} (e : TypeFault) (r : Result A TypeFault) (f : A → Result B TypeFault) (whole : Result B TypeFault) → whole ≡ (r >>= f) → IsTold e r → IsTold e whole
told_then e r f whole is (inl memory) = inl memory
told_then e r f whole is (inr fault) = inr (is ∙ ap (λ q. q >>= f) fault)

pub next_is : {X : Type 0} (all : List X) (i : ℕ) (x : X) → i < length all → x ≡ get_or all i x → drop i all ≡ x ∷ drop (i + 1) all
next_is all i x l is = drop_more all i x l ∙ ap (λ z. z ∷ drop (i + 1) all) (sym is)

pub none_is : {X : Type 0} (all : List X) (i : ℕ) → length all ≤ i → drop i all ≡ []
none_is all i l = drop_all i all l

-- ---- lists of each kind

abbrev pub domain_first : DomainTree → DomainTrees → DomainTrees
domain_first d ds = more_domains d.disjoint d.count d.mark d.domain ds

pub phrases_are : (xs : List PhraseTree) → before_all more_phrases xs no_phrases ≡ phrases_of xs
phrases_are [] = refl
phrases_are (x ∷ xs) = ap (more_phrases x) (phrases_are xs)
