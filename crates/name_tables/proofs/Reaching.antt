-- A loop over parts: what is left, with what was resolved in front, is resolved to the whole, and has its faults.
use Rattle.std.proofs.Common.{◌≡◌, ℕ, ◌+◌, ◌<◌, ◌≤◌, List, [], ◌∷◌, ◌++◌, map, length, get_or, drop, refl, sym, ap, ◌∙◌, subst}
use Rattle.std.proofs.lemmas.List.{drop_more, at_drop_all}
use Rattle.named_model.specs.declared.fault.NameFault.{NameFault}
use Rattle.named_model.specs.Phrase.{PhraseTree, PhraseTrees, no_phrases, more_phrases, phrases_of, LinkTree, LinkTrees, no_links, more_links, links_of, StepTree, StepTrees, no_steps, step_first, steps_of, DomainTree, DomainTrees, no_domains, more_domains, domains_of}
use Rattle.name_tables.specs.Told.{IsTold}
use Rattle.name_tables.proofs.Telling.{told_first}

abbrev pub before_all : {Y T : Type 0} → (Y → T → T) → List Y → T → T
before_all cons [] t = t
before_all cons (y ∷ ys) t = cons y (before_all cons ys t)

before_more : {Y T : Type 0} (cons : Y → T → T) (ys : List Y) (y : Y) (t : T) → before_all cons (ys ++ y ∷ []) t ≡ before_all cons ys (cons y t)
before_more cons [] y t = refl
before_more cons (x ∷ ys) y t = ap (cons x) (before_more cons ys y t)

-- the names in force inside, and the parts that are left of all
pub record Reached {X Y T : Type 0} (cons : Y → T → T) (faults : List (List ℕ) → List X → List NameFault) (values : List (List ℕ) → List X → T) (locals : List (List ℕ)) (all : List X) (inner : List (List ℕ)) (rest : List X) (found : List Y) : Type 0 where
  pub faults_are : faults inner rest ≡ faults locals all
  pub values_are : before_all cons found (values inner rest) ≡ values locals all

module _ {X Y T : Type 0} (cons : Y → T → T) (faults : List (List ℕ) → List X → List NameFault) (values : List (List ℕ) → List X → T) (locals : List (List ℕ)) (all : List X) where
  pub reached_start : Reached cons faults values locals all locals all []
  reached_start = record { faults_are = refl; values_are = refl }

  -- a part without a fault
  pub reached_more : (inner next : List (List ℕ)) (xs rest : List X) (x : X) (y : Y) (found more : List Y) (fs : List NameFault)
      → xs ≡ x ∷ rest → more ≡ found ++ y ∷ []
      → faults inner (x ∷ rest) ≡ fs ++ faults next rest → fs ≡ []
      → values inner (x ∷ rest) ≡ cons y (values next rest)
      → Reached cons faults values locals all inner xs found
      → Reached cons faults values locals all next rest more
  reached_more inner next xs rest x y found more fs here pushed apart none one before = record {
    faults_are = sym (ap (faults inner) here ∙ apart ∙ ap (λ gs. gs ++ faults next rest) none) ∙ before.faults_are;
    values_are =
        ap (λ ys. before_all cons ys (values next rest)) pushed
        ∙ before_more cons found y (values next rest)
        ∙ ap (before_all cons found) (sym (ap (values inner) here ∙ one))
        ∙ before.values_are;
  }

  -- a part with a fault
  pub reached_fault : (inner : List (List ℕ)) (xs rest : List X) (x : X) (found : List Y) (fs gs : List NameFault) (e : NameFault)
      → xs ≡ x ∷ rest → faults inner (x ∷ rest) ≡ fs ++ gs → IsTold e fs
      → Reached cons faults values locals all inner xs found
      → IsTold e (faults locals all)
  reached_fault inner xs rest x found fs gs e here apart told before =
      subst (IsTold e) (sym (ap (faults inner) here ∙ apart) ∙ before.faults_are) (told_first e fs gs told)

  -- no part is left
  pub reached_all : (inner : List (List ℕ)) (xs : List X) (found : List Y) (none : T)
      → xs ≡ [] → faults inner [] ≡ [] → values inner [] ≡ none
      → Reached cons faults values locals all inner xs found
      → (faults locals all ≡ []) × (before_all cons found none ≡ values locals all)
  reached_all inner xs found none ends no_fault no_value before = (
    sym before.faults_are ∙ ap (faults inner) ends ∙ no_fault,
    ap (before_all cons found) (sym (ap (values inner) ends ∙ no_value)) ∙ before.values_are,
  )

pub next_is : {X : Type 0} (all : List X) (i : ℕ) (x : X) → i < length all → x ≡ get_or all i x → drop i all ≡ x ∷ drop (i + 1) all
next_is all i x l is = drop_more all i x l ∙ ap (λ z. z ∷ drop (i + 1) all) (sym is)

pub none_is : {X : Type 0} (all : List X) (i : ℕ) → length all ≤ i → drop i all ≡ []
none_is all i l = at_drop_all (λ xs. xs) all i l

-- ---- lists of each kind

abbrev pub link_first : LinkTree → LinkTrees → LinkTrees
link_first l ls = more_links l.operator l.place l.operand ls

abbrev pub domain_first : DomainTree → DomainTrees → DomainTrees
domain_first d ds = more_domains d.disjoint d.count d.mark d.domain ds

pub phrases_are : (xs : List PhraseTree) → phrases_of xs ≡ before_all more_phrases xs no_phrases
phrases_are [] = refl
phrases_are (x ∷ xs) = ap (more_phrases x) (phrases_are xs)

pub links_are : (xs : List LinkTree) → links_of xs ≡ before_all link_first xs no_links
links_are [] = refl
links_are (x ∷ xs) = ap (link_first x) (links_are xs)

pub steps_are : (xs : List StepTree) → steps_of xs ≡ before_all step_first xs no_steps
steps_are [] = refl
steps_are (x ∷ xs) = ap (step_first x) (steps_are xs)

pub domains_are : (xs : List DomainTree) → domains_of xs ≡ before_all domain_first xs no_domains
domains_are [] = refl
domains_are (x ∷ xs) = ap (domain_first x) (domains_are xs)
