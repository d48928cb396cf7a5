-- What holds of the numbers that are called in a part holds of each call.
use Rattle.std.proofs.Common.{◌≡◌, ℕ, ◌==◌, Bool, true, false, ◌||◌, List, ◌∷◌, ◌++◌, refl, ap, ◌∙◌}
use Rattle.std.proofs.lemmas.Bool.{eq-eqb}
use Rattle.std.proofs.lemmas.List.Folds.{list_any-append}
use Rattle.named_model.specs.Phrase.{PhraseTree, refers, called, numbered, constant, bracketed, block, prefixed, chain, path, compared, implies, implies_else, quantified, bound_by_let, PhraseTrees, no_phrases, more_phrases, LinkTrees, no_links, more_links, StepTrees, no_steps, join_first, brackets_first, DomainTrees, no_domains, more_domains}
use Rattle.named_model.specs.Model.{MeaningTree, formulas, value, CalleeTree}
use Rattle.named_model.specs.Faults.{calls_in, calls_in_all, calls_in_links, calls_in_steps, calls_in_domains, calls_in_meaning, callees_of}
use Rattle.reference_cycles.specs.Cycles.Walks.{among}
use Rattle.alloy_types.specs.Headers.Called.{EachCalled, EachCalledInAll, EachCalledInLinks, EachCalledInSteps, EachCalledInDomains, EachCalledInMeaning, EachCalledBy}

left_is : (a b : Bool) → a ≡ true → (a || b) ≡ true
left_is a b h = ap (λ c. c || b) h

right_is : (a b : Bool) → b ≡ true → (a || b) ≡ true
right_is true b h = refl
right_is false b h = h

module _ (P : ℕ → Type 0) where
  -- of each of these numbers
  abbrev pub OfEach : List ℕ → Type 0
  OfEach ns = (r : ℕ) → among r ns ≡ true → P r

  of_left : (ms ns : List ℕ) → OfEach (ms ++ ns) → OfEach ms
  of_left ms ns h r m = h r (list_any-append (λ y. y == r) ms ns ∙ left_is (among r ms) (among r ns) m)

  of_right : (ms ns : List ℕ) → OfEach (ms ++ ns) → OfEach ns
  of_right ms ns h r m = h r (list_any-append (λ y. y == r) ms ns ∙ right_is (among r ms) (among r ns) m)

  of_first : (n : ℕ) (ns : List ℕ) → OfEach (n ∷ ns) → P n
  of_first n ns h = h n (left_is (n == n) (among n ns) (eq-eqb n n refl))

  of_others : (n : ℕ) (ns : List ℕ) → OfEach (n ∷ ns) → OfEach ns
  of_others n ns h r m = h r (right_is (n == r) (among r ns) m)

  mutual
    pub each_called : (x : PhraseTree) → OfEach (calls_in x) → EachCalled P x
    each_called (refers p r) h = tt
    each_called (called p n xs) h = (of_first n (calls_in_all xs) h, all_called xs (of_others n (calls_in_all xs) h))
    each_called (numbered n) h = tt
    each_called (constant c p) h = tt
    each_called (bracketed p x) h = each_called x h
    each_called (block p xs) h = all_called xs h
    each_called (prefixed f p x) h = each_called x h
    each_called (chain x ls) h = (each_called x (of_left (calls_in x) (calls_in_links ls) h), links_called ls (of_right (calls_in x) (calls_in_links ls) h))
    each_called (path x steps) h = (each_called x (of_left (calls_in x) (calls_in_steps steps) h), steps_called steps (of_right (calls_in x) (calls_in_steps steps) h))
    each_called (compared a c b) h = (each_called a (of_left (calls_in a) (calls_in b) h), each_called b (of_right (calls_in a) (calls_in b) h))
    each_called (implies a p b) h = (each_called a (of_left (calls_in a) (calls_in b) h), each_called b (of_right (calls_in a) (calls_in b) h))
    each_called (implies_else a p b c) h =
        let front = of_left (calls_in a ++ calls_in b) (calls_in c) h in (
          each_called a (of_left (calls_in a) (calls_in b) front),
          each_called b (of_right (calls_in a) (calls_in b) front),
          each_called c (of_right (calls_in a ++ calls_in b) (calls_in c) h),
        )
    each_called (quantified q p ds x) h = (domains_called ds (of_left (calls_in_domains ds) (calls_in x) h), each_called x (of_right (calls_in_domains ds) (calls_in x) h))
    each_called (bound_by_let p xs x) h = (all_called xs (of_left (calls_in_all xs) (calls_in x) h), each_called x (of_right (calls_in_all xs) (calls_in x) h))

    all_called : (xs : PhraseTrees) → OfEach (calls_in_all xs) → EachCalledInAll P xs
    all_called no_phrases h = tt
    all_called (more_phrases x xs) h = (each_called x (of_left (calls_in x) (calls_in_all xs) h), all_called xs (of_right (calls_in x) (calls_in_all xs) h))

    links_called : (ls : LinkTrees) → OfEach (calls_in_links ls) → EachCalledInLinks P ls
    links_called no_links h = tt
    links_called (more_links o p x ls) h = (each_called x (of_left (calls_in x) (calls_in_links ls) h), links_called ls (of_right (calls_in x) (calls_in_links ls) h))

    steps_called : (steps : StepTrees) → OfEach (calls_in_steps steps) → EachCalledInSteps P steps
    steps_called no_steps h = tt
    steps_called (join_first p x steps) h = (each_called x (of_left (calls_in x) (calls_in_steps steps) h), steps_called steps (of_right (calls_in x) (calls_in_steps steps) h))
    steps_called (brackets_first p xs steps) h = (all_called xs (of_left (calls_in_all xs) (calls_in_steps steps) h), steps_called steps (of_right (calls_in_all xs) (calls_in_steps steps) h))

    domains_called : (ds : DomainTrees) → OfEach (calls_in_domains ds) → EachCalledInDomains P ds
    domains_called no_domains h = tt
    domains_called (more_domains disjoint n mark x ds) h = (each_called x (of_left (calls_in x) (calls_in_domains ds) h), domains_called ds (of_right (calls_in x) (calls_in_domains ds) h))

  meaning_called : (x : MeaningTree) → OfEach (calls_in_meaning x) → EachCalledInMeaning P x
  meaning_called (formulas xs) h = all_called xs h
  meaning_called (value range body) h = (each_called range (of_left (calls_in range) (calls_in body) h), each_called body (of_right (calls_in range) (calls_in body) h))

  pub called_by : (c : CalleeTree) → OfEach (callees_of c) → EachCalledBy P c
  called_by c h =
      (domains_called c.parameters (of_left (calls_in_domains c.parameters) (calls_in_meaning c.meaning) h), meaning_called c.meaning (of_right (calls_in_domains c.parameters) (calls_in_meaning c.meaning) h))
