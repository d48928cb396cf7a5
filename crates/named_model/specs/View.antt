-- What contracts see of a resolved tree: lists where it has vectors, and what its boxes hold.
use Rattle.std.specs.Prelude.{List, map, option_map}
use Rattle.named_model.specs.declared.phrase.Phrase.{Phrase, fold-Phrase}
use Rattle.named_model.specs.declared.phrase.Phrase.TheOpen.{Phrase-F, Step-F, Domain-F, Link-F}
use Rattle.named_model.specs.declared.phrase.Step.{Step, fold-Step}
use Rattle.named_model.specs.declared.phrase.Domain.{Domain, fold-Domain}
use Rattle.named_model.specs.declared.phrase.Link.{Link, fold-Link}
use Rattle.named_model.specs.declared.named.Field.{Field}
use Rattle.named_model.specs.declared.named.Meaning.{Meaning}
use Rattle.named_model.specs.declared.named.Meaning.TheVariants as meaning
use Rattle.named_model.specs.declared.named.Callee.{Callee}
use Rattle.named_model.specs.declared.named.Formulas.{Formulas}
use Rattle.named_model.specs.declared.named.Target.{Target}
use Rattle.named_model.specs.declared.named.Target.TheVariants as target
use Rattle.named_model.specs.declared.named.Scope.{Scope}
use Rattle.named_model.specs.declared.named.Command.{Command}
use Rattle.named_model.specs.declared.named.Named.{Named}
use Rattle.named_model.specs.Phrase.{PhraseTree, PhraseTrees, refers, called, numbered, constant, bracketed, block, prefixed, chain, path, compared, implies, implies_else, quantified, bound_by_let, LinkTree, StepTree, joined, in_brackets, DomainTree, phrases_of, links_of, steps_of, domains_of}
use Rattle.named_model.specs.Model.{FieldTree, MeaningTree, formulas, value, CalleeTree, TargetTree, at_predicate, at_assertion, at_block, ScopeTree, CommandTree, NamedTree}

-- one level of a phrase, with each part inside already seen as its tree
abbrev pub phrase_level : Phrase-F PhraseTree StepTree DomainTree LinkTree → PhraseTree
phrase_level (Phrase-F.Refers p r) = refers p r
phrase_level (Phrase-F.Called p n xs) = called p n (phrases_of xs.items)
phrase_level (Phrase-F.Numbered n) = numbered n
phrase_level (Phrase-F.Constant c p) = constant c p
phrase_level (Phrase-F.Bracketed p x) = bracketed p x.value
phrase_level (Phrase-F.Block p xs) = block p (phrases_of xs.items)
phrase_level (Phrase-F.Prefixed f p x) = prefixed f p x.value
phrase_level (Phrase-F.Chain x ls) = chain x.value (links_of ls.items)
phrase_level (Phrase-F.Path x ss) = path x.value (steps_of ss.items)
phrase_level (Phrase-F.Compared x c y) = compared x.value c y.value
phrase_level (Phrase-F.Implies x p y) = implies x.value p y.value
phrase_level (Phrase-F.ImpliesElse x p y z) = implies_else x.value p y.value z.value
phrase_level (Phrase-F.Quantified q p ds x) = quantified q p (domains_of ds.items) x.value
phrase_level (Phrase-F.Let p xs x) = bound_by_let p (phrases_of xs.items) x.value

abbrev pub step_level : Step-F PhraseTree StepTree DomainTree LinkTree → StepTree
step_level (Step-F.Join p x) = joined p x
step_level (Step-F.Brackets p xs) = in_brackets p xs.items

abbrev pub domain_level : Domain-F PhraseTree StepTree DomainTree LinkTree → DomainTree
domain_level d = record { disjoint = d.disjoint; count = d.count; mark = d.mark; domain = d.domain }

abbrev pub link_level : Link-F PhraseTree StepTree DomainTree LinkTree → LinkTree
link_level l = record { operator = l.operator; place = l.place; operand = l.operand }

abbrev pub phrase_view : Phrase → PhraseTree
phrase_view = fold-Phrase PhraseTree StepTree DomainTree LinkTree phrase_level step_level domain_level link_level

abbrev pub step_view : Step → StepTree
step_view = fold-Step PhraseTree StepTree DomainTree LinkTree phrase_level step_level domain_level link_level

abbrev pub domain_view : Domain → DomainTree
domain_view = fold-Domain PhraseTree StepTree DomainTree LinkTree phrase_level step_level domain_level link_level

abbrev pub link_view : Link → LinkTree
link_view = fold-Link PhraseTree StepTree DomainTree LinkTree phrase_level step_level domain_level link_level

abbrev pub phrases_view : List Phrase → PhraseTrees
phrases_view xs = phrases_of (map phrase_view xs)

-- ---- what is declared

abbrev pub field_view : Field → FieldTree
field_view f = record { name = f.name; place = f.place; owner = f.owner; mark = f.mark; left = f.left; right = f.right; bound = phrase_view f.bound }

abbrev pub meaning_view : Meaning → MeaningTree
meaning_view (meaning.Formulas xs) = formulas (phrases_view xs.items)
meaning_view (meaning.Value range body) = value (phrase_view range) (phrase_view body)

abbrev pub callee_view : Callee → CalleeTree
callee_view c = record { place = c.place; parameters = domains_of (map domain_view c.parameters.items); meaning = meaning_view c.meaning }

abbrev pub formulas_view : Formulas → PhraseTrees
formulas_view f = phrases_view f.formulas.items

abbrev pub target_view : Target → TargetTree
target_view (target.Predicate n) = at_predicate n
target_view (target.Assertion n) = at_assertion n
target_view (target.Block xs) = at_block (phrases_view xs.items)

abbrev pub scope_view : Scope → ScopeTree
scope_view s = record { default = s.default; listings = s.listings.items }

abbrev pub command_view : Command → CommandTree
command_view c = record { kind = c.kind; target = target_view c.target; scope = option_map scope_view c.scope }

abbrev pub named_view : Named → NamedTree
named_view n = record {
  signatures = n.signatures.items;
  fields = map field_view n.fields.items;
  callees = map callee_view n.callees.items;
  facts = map formulas_view n.facts.items;
  fact_names = n.fact_names.items;
  assertions = map formulas_view n.assertions.items;
  commands = map command_view n.commands.items;
  parts = n.parts.items;
}
