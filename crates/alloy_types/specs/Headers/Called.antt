-- What holds of each predicate and function that is called.
use Rattle.std.specs.Prelude.{◌≡◌, ℕ, ◌<◌, slice_get, Some}
use Rattle.named_model.specs.Phrase.{PhraseTree, refers, called, numbered, constant, bracketed, block, prefixed, chain, path, compared, implies, implies_else, quantified, bound_by_let, PhraseTrees, no_phrases, more_phrases, LinkTrees, no_links, more_links, StepTrees, no_steps, join_first, brackets_first, DomainTrees, no_domains, more_domains}
use Rattle.named_model.specs.Model.{MeaningTree, formulas, value, CalleeTree, NamedTree}

abbrev mutual
  pub EachCalled : (ℕ → Type 0) → PhraseTree → Type 0
  EachCalled P (refers p r) = Unit {0}
  EachCalled P (called p n xs) = P n × EachCalledInAll P xs
  EachCalled P (numbered n) = Unit {0}
  EachCalled P (constant c p) = Unit {0}
  EachCalled P (bracketed p x) = EachCalled P x
  EachCalled P (block p xs) = EachCalledInAll P xs
  EachCalled P (prefixed f p x) = EachCalled P x
  EachCalled P (chain x ls) = EachCalled P x × EachCalledInLinks P ls
  EachCalled P (path x steps) = EachCalled P x × EachCalledInSteps P steps
  EachCalled P (compared a c b) = EachCalled P a × EachCalled P b
  EachCalled P (implies a p b) = EachCalled P a × EachCalled P b
  EachCalled P (implies_else a p b c) = EachCalled P a × EachCalled P b × EachCalled P c
  EachCalled P (quantified q p ds x) = EachCalledInDomains P ds × EachCalled P x
  EachCalled P (bound_by_let p xs x) = EachCalledInAll P xs × EachCalled P x

  pub EachCalledInAll : (ℕ → Type 0) → PhraseTrees → Type 0
  EachCalledInAll P no_phrases = Unit {0}
  EachCalledInAll P (more_phrases x xs) = EachCalled P x × EachCalledInAll P xs

  pub EachCalledInLinks : (ℕ → Type 0) → LinkTrees → Type 0
  EachCalledInLinks P no_links = Unit {0}
  EachCalledInLinks P (more_links o p x ls) = EachCalled P x × EachCalledInLinks P ls

  pub EachCalledInSteps : (ℕ → Type 0) → StepTrees → Type 0
  EachCalledInSteps P no_steps = Unit {0}
  EachCalledInSteps P (join_first p x steps) = EachCalled P x × EachCalledInSteps P steps
  EachCalledInSteps P (brackets_first p xs steps) = EachCalledInAll P xs × EachCalledInSteps P steps

  pub EachCalledInDomains : (ℕ → Type 0) → DomainTrees → Type 0
  EachCalledInDomains P no_domains = Unit {0}
  EachCalledInDomains P (more_domains disjoint n mark x ds) = EachCalled P x × EachCalledInDomains P ds

abbrev pub EachCalledInMeaning : (ℕ → Type 0) → MeaningTree → Type 0
EachCalledInMeaning P (formulas xs) = EachCalledInAll P xs
EachCalledInMeaning P (value range body) = EachCalled P range × EachCalled P body

-- wherever in the paragraph
abbrev pub EachCalledBy : (ℕ → Type 0) → CalleeTree → Type 0
EachCalledBy P c = EachCalledInDomains P c.parameters × EachCalledInMeaning P c.meaning

-- each predicate and function calls such of lower ranks alone
abbrev pub AreRanks : NamedTree → (ℕ → ℕ) → Type 0
AreRanks m rank = (n : ℕ) (c : CalleeTree) → slice_get m.callees n ≡ Some c → EachCalledBy (λ k. rank k < rank n) c
