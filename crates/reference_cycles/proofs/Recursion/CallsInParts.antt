-- The calls in each kind of phrase, and those that are added for its parts one behind the other.
use Rattle.std.proofs.Common.{◌≡◌, ℕ, List, [], ◌∷◌, ◌++◌, map, Vec, Box, Global, sym, ap, ◌∙◌, subst, append_assoc, append-nil}
use Rattle.std.specs.Prelude.{Result, OnOk}
use Rattle.named_model.specs.Faults.{calls_in, calls_in_all, calls_in_links, calls_in_steps, calls_in_domains}
use Rattle.named_model.specs.Phrase.{PhraseTree, StepTree, DomainTree, LinkTree, links_of, steps_of, domains_of}
use Rattle.named_model.specs.View.{phrase_view, phrases_view, link_view, step_view, domain_view, phrase_level, step_level, domain_level, link_level}
use Rattle.named_model.specs.declared.phrase.Phrase.{Phrase, fold-roll-Phrase}
use Rattle.named_model.specs.declared.phrase.Link.{Link, fold_out-Link}
use Rattle.named_model.specs.declared.phrase.Step.{Step, fold-roll-Step}
use Rattle.named_model.specs.declared.phrase.Domain.{Domain, fold_out-Domain}
use Rattle.named_model.specs.declared.phrase.Phrase.TheVariants as phrase
use Rattle.named_model.specs.declared.phrase.Step.TheVariants as step
use Rattle.named_model.specs.declared.phrase.Phrase.TheOpen.{Phrase-F, Step-F}
use Rattle.reference_cycles.specs.Recursion.Calls.{calls_in_step}

abbrev pub calls_of : Phrase → List ℕ
calls_of x = calls_in (phrase_view x)

abbrev pub calls_of_all : List Phrase → List ℕ
calls_of_all xs = calls_in_all (phrases_view xs)

abbrev pub calls_of_links : List Link → List ℕ
calls_of_links ls = calls_in_links (links_of (map link_view ls))

abbrev pub calls_of_steps : List Step → List ℕ
calls_of_steps ss = calls_in_steps (steps_of (map step_view ss))

abbrev pub calls_of_domains : List Domain → List ℕ
calls_of_domains ds = calls_in_domains (domains_of (map domain_view ds))

pub refers_calls : (p r : _) → calls_of (phrase.Refers p r) ≡ []
refers_calls p r = ap calls_of (sym (phrase.rolls-Refers p r)) ∙ ap calls_in (fold-roll-Phrase PhraseTree StepTree DomainTree LinkTree phrase_level step_level domain_level link_level (Phrase-F.Refers p r))

pub called_calls : (p : _) (n : ℕ) (xs : Vec Phrase Global) → calls_of (phrase.Called p n xs) ≡ (n ∷ []) ++ calls_of_all xs.items
called_calls p n xs = ap calls_of (sym (phrase.rolls-Called p n xs)) ∙ ap calls_in (fold-roll-Phrase PhraseTree StepTree DomainTree LinkTree phrase_level step_level domain_level link_level (Phrase-F.Called p n xs))

pub numbered_calls : (n : _) → calls_of (phrase.Numbered n) ≡ []
numbered_calls n = ap calls_of (sym (phrase.rolls-Numbered n)) ∙ ap calls_in (fold-roll-Phrase PhraseTree StepTree DomainTree LinkTree phrase_level step_level domain_level link_level (Phrase-F.Numbered n))

pub constant_calls : (c p : _) → calls_of (phrase.Constant c p) ≡ []
constant_calls c p = ap calls_of (sym (phrase.rolls-Constant c p)) ∙ ap calls_in (fold-roll-Phrase PhraseTree StepTree DomainTree LinkTree phrase_level step_level domain_level link_level (Phrase-F.Constant c p))

pub bracketed_calls : (p : _) (x : Box Phrase Global) → calls_of (phrase.Bracketed p x) ≡ calls_of x.value
bracketed_calls p x = ap calls_of (sym (phrase.rolls-Bracketed p x)) ∙ ap calls_in (fold-roll-Phrase PhraseTree StepTree DomainTree LinkTree phrase_level step_level domain_level link_level (Phrase-F.Bracketed p x))

pub block_calls : (p : _) (xs : Vec Phrase Global) → calls_of (phrase.Block p xs) ≡ calls_of_all xs.items
block_calls p xs = ap calls_of (sym (phrase.rolls-Block p xs)) ∙ ap calls_in (fold-roll-Phrase PhraseTree StepTree DomainTree LinkTree phrase_level step_level domain_level link_level (Phrase-F.Block p xs))

pub prefixed_calls : (f p : _) (x : Box Phrase Global) → calls_of (phrase.Prefixed f p x) ≡ calls_of x.value
prefixed_calls f p x = ap calls_of (sym (phrase.rolls-Prefixed f p x)) ∙ ap calls_in (fold-roll-Phrase PhraseTree StepTree DomainTree LinkTree phrase_level step_level domain_level link_level (Phrase-F.Prefixed f p x))

pub chain_calls : (x : Box Phrase Global) (ls : Vec Link Global) → calls_of (phrase.Chain x ls) ≡ calls_of x.value ++ calls_of_links ls.items
chain_calls x ls = ap calls_of (sym (phrase.rolls-Chain x ls)) ∙ ap calls_in (fold-roll-Phrase PhraseTree StepTree DomainTree LinkTree phrase_level step_level domain_level link_level (Phrase-F.Chain x ls))

pub path_calls : (x : Box Phrase Global) (ss : Vec Step Global) → calls_of (phrase.Path x ss) ≡ calls_of x.value ++ calls_of_steps ss.items
path_calls x ss = ap calls_of (sym (phrase.rolls-Path x ss)) ∙ ap calls_in (fold-roll-Phrase PhraseTree StepTree DomainTree LinkTree phrase_level step_level domain_level link_level (Phrase-F.Path x ss))

pub compared_calls : (x : Box Phrase Global) (c : _) (y : Box Phrase Global) → calls_of (phrase.Compared x c y) ≡ calls_of x.value ++ calls_of y.value
compared_calls x c y = ap calls_of (sym (phrase.rolls-Compared x c y)) ∙ ap calls_in (fold-roll-Phrase PhraseTree StepTree DomainTree LinkTree phrase_level step_level domain_level link_level (Phrase-F.Compared x c y))

pub implies_calls : (x : Box Phrase Global) (p : _) (y : Box Phrase Global) → calls_of (phrase.Implies x p y) ≡ calls_of x.value ++ calls_of y.value
implies_calls x p y = ap calls_of (sym (phrase.rolls-Implies x p y)) ∙ ap calls_in (fold-roll-Phrase PhraseTree StepTree DomainTree LinkTree phrase_level step_level domain_level link_level (Phrase-F.Implies x p y))

pub implies_else_calls : (x : Box Phrase Global) (p : _) (y z : Box Phrase Global) → calls_of (phrase.ImpliesElse x p y z) ≡ (calls_of x.value ++ calls_of y.value) ++ calls_of z.value
implies_else_calls x p y z = ap calls_of (sym (phrase.rolls-ImpliesElse x p y z)) ∙ ap calls_in (fold-roll-Phrase PhraseTree StepTree DomainTree LinkTree phrase_level step_level domain_level link_level (Phrase-F.ImpliesElse x p y z))

pub quantified_calls : (q p : _) (ds : Vec Domain Global) (x : Box Phrase Global) → calls_of (phrase.Quantified q p ds x) ≡ calls_of_domains ds.items ++ calls_of x.value
quantified_calls q p ds x = ap calls_of (sym (phrase.rolls-Quantified q p ds x)) ∙ ap calls_in (fold-roll-Phrase PhraseTree StepTree DomainTree LinkTree phrase_level step_level domain_level link_level (Phrase-F.Quantified q p ds x))

pub let_calls : (p : _) (xs : Vec Phrase Global) (x : Box Phrase Global) → calls_of (phrase.Let p xs x) ≡ calls_of_all xs.items ++ calls_of x.value
let_calls p xs x = ap calls_of (sym (phrase.rolls-Let p xs x)) ∙ ap calls_in (fold-roll-Phrase PhraseTree StepTree DomainTree LinkTree phrase_level step_level domain_level link_level (Phrase-F.Let p xs x))

pub link_calls : (l : Link) → calls_in (link_view l).operand ≡ calls_of l.operand
link_calls l = ap (λ (t : LinkTree). calls_in t.operand) (fold_out-Link PhraseTree StepTree DomainTree LinkTree phrase_level step_level domain_level link_level l)

pub domain_calls : (d : Domain) → calls_in (domain_view d).domain ≡ calls_of d.domain
domain_calls d = ap (λ (t : DomainTree). calls_in t.domain) (fold_out-Domain PhraseTree StepTree DomainTree LinkTree phrase_level step_level domain_level link_level d)

pub joined_calls : (p : _) (x : Phrase) → calls_in_step (step_view (step.Join p x)) ≡ calls_of x
joined_calls p x = ap (λ s. calls_in_step (step_view s)) (sym (step.rolls-Join p x)) ∙ ap calls_in_step (fold-roll-Step PhraseTree StepTree DomainTree LinkTree phrase_level step_level domain_level link_level (Step-F.Join p x))

pub in_brackets_calls : (p : _) (xs : Vec Phrase Global) → calls_in_step (step_view (step.Brackets p xs)) ≡ calls_of_all xs.items
in_brackets_calls p xs = ap (λ s. calls_in_step (step_view s)) (sym (step.rolls-Brackets p xs)) ∙ ap calls_in_step (fold-roll-Step PhraseTree StepTree DomainTree LinkTree phrase_level step_level domain_level link_level (Step-F.Brackets p xs))

-- nothing was added for a phrase without calls
pub nothing_added : (old whole : List ℕ) → whole ≡ [] → old ≡ old ++ whole
nothing_added old whole none = sym (append-nil old) ∙ ap (λ xs. old ++ xs) (sym none)

module _ {U E X : Type 0} (f : X → List ℕ) (r : Result U E) where
  -- what was added for the only part
  pub added_for : (old new whole : List ℕ) (part given : X) → whole ≡ f part → given ≡ part → OnOk r (new ≡ old ++ f given) → OnOk r (new ≡ old ++ whole)
  added_for old new whole part given is same added = subst (λ xs. OnOk r (new ≡ old ++ xs)) (ap f same ∙ sym is) added

  -- what was added for the last part, behind the others
  pub added_behind : (old middle new whole front : List ℕ) (part given : X) → middle ≡ old ++ front → whole ≡ front ++ f part → given ≡ part → OnOk r (new ≡ middle ++ f given) → OnOk r (new ≡ old ++ whole)
  added_behind old middle new whole front part given before is same added =
      let all : middle ++ f given ≡ old ++ whole = ap (λ xs. xs ++ f given) before ∙ append_assoc old front (f given) ∙ ap (λ xs. old ++ xs) (ap (λ x. front ++ f x) same ∙ sym is) in
      subst (λ xs. OnOk r (new ≡ xs)) all added

-- what was added for two parts
pub both_added : (old middle new a b : List ℕ) → middle ≡ old ++ a → new ≡ middle ++ b → new ≡ old ++ (a ++ b)
both_added old middle new a b first second = second ∙ ap (λ xs. xs ++ b) first ∙ append_assoc old a b
