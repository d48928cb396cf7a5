-- Whether a name of several fields stands in a part.
use Rattle.std.specs.Prelude.{Bool, true, false, ◌||◌}
use Rattle.named_model.specs.declared.phrase.Referent.{Referent}
use Rattle.named_model.specs.declared.phrase.Referent.TheVariants as referent
use Rattle.named_model.specs.Phrase.{PhraseTree, refers, called, numbered, constant, bracketed, block, prefixed, chain, path, compared, implies, implies_else, quantified, bound_by_let, PhraseTrees, no_phrases, more_phrases, LinkTrees, no_links, more_links, StepTrees, no_steps, join_first, brackets_first, DomainTrees, no_domains, more_domains, StepTree, joined, in_brackets, phrases_of}

abbrev pub is_shared_name : Referent → Bool
is_shared_name (referent.Shared f) = true
is_shared_name other = false

abbrev mutual
  pub shared_in : PhraseTree → Bool
  shared_in (refers p r) = is_shared_name r
  shared_in (called p n xs) = shared_among xs
  shared_in (numbered n) = false
  shared_in (constant c p) = false
  shared_in (bracketed p x) = shared_in x
  shared_in (block p xs) = shared_among xs
  shared_in (prefixed f p x) = shared_in x
  shared_in (chain x ls) = shared_in x || shared_in_links ls
  shared_in (path x steps) = shared_in x || shared_in_steps steps
  shared_in (compared a c b) = shared_in a || shared_in b
  shared_in (implies a p b) = shared_in a || shared_in b
  shared_in (implies_else a p b c) = shared_in a || (shared_in b || shared_in c)
  shared_in (quantified q p ds x) = shared_in_domains ds || shared_in x
  shared_in (bound_by_let p xs x) = shared_among xs || shared_in x

  pub shared_among : PhraseTrees → Bool
  shared_among no_phrases = false
  shared_among (more_phrases x xs) = shared_in x || shared_among xs

  pub shared_in_links : LinkTrees → Bool
  shared_in_links no_links = false
  shared_in_links (more_links o p x ls) = shared_in x || shared_in_links ls

  pub shared_in_steps : StepTrees → Bool
  shared_in_steps no_steps = false
  shared_in_steps (join_first p x steps) = shared_in x || shared_in_steps steps
  shared_in_steps (brackets_first p xs steps) = shared_among xs || shared_in_steps steps

  pub shared_in_domains : DomainTrees → Bool
  shared_in_domains no_domains = false
  shared_in_domains (more_domains disjoint n mark x ds) = shared_in x || shared_in_domains ds

abbrev pub shared_in_step : StepTree → Bool
shared_in_step (joined p x) = shared_in x
shared_in_step (in_brackets p xs) = shared_among (phrases_of xs)
