-- What a phrase is seen as.
use Rattle.std.proofs.Common.{◌≡◌, ℕ, ap, ◌∙◌, sym, map, Box, Vec, Global}
use Rattle.alloy_lex.specs.declared.token.Place.{Place}
use Rattle.alloy_syntax.specs.declared.tree.Comparing.{Comparing}
use Rattle.alloy_syntax.specs.declared.tree.Constant.{Constant}
use Rattle.alloy_syntax.specs.declared.tree.Prefix.{Prefix}
use Rattle.alloy_syntax.specs.declared.tree.Quantifier.{Quantifier}
use Rattle.named_model.specs.declared.phrase.Phrase.{Phrase, fold-roll-Phrase}
use Rattle.named_model.specs.declared.phrase.Phrase.TheVariants as part
use Rattle.named_model.specs.declared.phrase.Phrase.TheOpen.{Phrase-F}
use Rattle.named_model.specs.declared.phrase.Referent.{Referent}
use Rattle.named_model.specs.declared.phrase.Link.{Link}
use Rattle.named_model.specs.declared.phrase.Step.{Step}
use Rattle.named_model.specs.declared.phrase.Domain.{Domain}
use Rattle.named_model.specs.Phrase.{PhraseTree, LinkTree, StepTree, DomainTree, refers, called, constant, bracketed, block, prefixed, chain, path, compared, implies, implies_else, quantified, bound_by_let, links_of, steps_of, domains_of}
use Rattle.named_model.specs.View.{phrase_view, phrases_view, step_view, link_view, domain_view, phrase_level, step_level, domain_level, link_level}

pub refers_seen : (p : Place) (r : Referent) → phrase_view (part.Refers p r) ≡ refers p r
refers_seen p r = ap phrase_view (sym (part.rolls-Refers p r)) ∙ fold-roll-Phrase PhraseTree StepTree DomainTree LinkTree phrase_level step_level domain_level link_level (Phrase-F.Refers p r)

pub called_seen : (p : Place) (n : ℕ) (xs : Vec Phrase Global) → phrase_view (part.Called p n xs) ≡ called p n (phrases_view xs.items)
called_seen p n xs = ap phrase_view (sym (part.rolls-Called p n xs)) ∙ fold-roll-Phrase PhraseTree StepTree DomainTree LinkTree phrase_level step_level domain_level link_level (Phrase-F.Called p n xs)

pub constant_seen : (c : Constant) (p : Place) → phrase_view (part.Constant c p) ≡ constant c p
constant_seen c p = ap phrase_view (sym (part.rolls-Constant c p)) ∙ fold-roll-Phrase PhraseTree StepTree DomainTree LinkTree phrase_level step_level domain_level link_level (Phrase-F.Constant c p)

pub bracketed_seen : (p : Place) (x : Box Phrase Global) → phrase_view (part.Bracketed p x) ≡ bracketed p (phrase_view x.value)
bracketed_seen p x = ap phrase_view (sym (part.rolls-Bracketed p x)) ∙ fold-roll-Phrase PhraseTree StepTree DomainTree LinkTree phrase_level step_level domain_level link_level (Phrase-F.Bracketed p x)

pub block_seen : (p : Place) (xs : Vec Phrase Global) → phrase_view (part.Block p xs) ≡ block p (phrases_view xs.items)
block_seen p xs = ap phrase_view (sym (part.rolls-Block p xs)) ∙ fold-roll-Phrase PhraseTree StepTree DomainTree LinkTree phrase_level step_level domain_level link_level (Phrase-F.Block p xs)

pub prefixed_seen : (f : Prefix) (p : Place) (x : Box Phrase Global) → phrase_view (part.Prefixed f p x) ≡ prefixed f p (phrase_view x.value)
prefixed_seen f p x = ap phrase_view (sym (part.rolls-Prefixed f p x)) ∙ fold-roll-Phrase PhraseTree StepTree DomainTree LinkTree phrase_level step_level domain_level link_level (Phrase-F.Prefixed f p x)

pub chain_seen : (x : Box Phrase Global) (ls : Vec Link Global) → phrase_view (part.Chain x ls) ≡ chain (phrase_view x.value) (links_of (map link_view ls.items))
chain_seen x ls = ap phrase_view (sym (part.rolls-Chain x ls)) ∙ fold-roll-Phrase PhraseTree StepTree DomainTree LinkTree phrase_level step_level domain_level link_level (Phrase-F.Chain x ls)

pub path_seen : (x : Box Phrase Global) (ss : Vec Step Global) → phrase_view (part.Path x ss) ≡ path (phrase_view x.value) (steps_of (map step_view ss.items))
path_seen x ss = ap phrase_view (sym (part.rolls-Path x ss)) ∙ fold-roll-Phrase PhraseTree StepTree DomainTree LinkTree phrase_level step_level domain_level link_level (Phrase-F.Path x ss)

pub compared_seen : (x : Box Phrase Global) (c : Comparing) (y : Box Phrase Global) → phrase_view (part.Compared x c y) ≡ compared (phrase_view x.value) c (phrase_view y.value)
compared_seen x c y = ap phrase_view (sym (part.rolls-Compared x c y)) ∙ fold-roll-Phrase PhraseTree StepTree DomainTree LinkTree phrase_level step_level domain_level link_level (Phrase-F.Compared x c y)

pub implies_seen : (x : Box Phrase Global) (p : Place) (y : Box Phrase Global) → phrase_view (part.Implies x p y) ≡ implies (phrase_view x.value) p (phrase_view y.value)
implies_seen x p y = ap phrase_view (sym (part.rolls-Implies x p y)) ∙ fold-roll-Phrase PhraseTree StepTree DomainTree LinkTree phrase_level step_level domain_level link_level (Phrase-F.Implies x p y)

pub else_seen : (x : Box Phrase Global) (p : Place) (y z : Box Phrase Global) → phrase_view (part.ImpliesElse x p y z) ≡ implies_else (phrase_view x.value) p (phrase_view y.value) (phrase_view z.value)
else_seen x p y z = ap phrase_view (sym (part.rolls-ImpliesElse x p y z)) ∙ fold-roll-Phrase PhraseTree StepTree DomainTree LinkTree phrase_level step_level domain_level link_level (Phrase-F.ImpliesElse x p y z)

pub quantified_seen : (q : Quantifier) (p : Place) (ds : Vec Domain Global) (x : Box Phrase Global) → phrase_view (part.Quantified q p ds x) ≡ quantified q p (domains_of (map domain_view ds.items)) (phrase_view x.value)
quantified_seen q p ds x = ap phrase_view (sym (part.rolls-Quantified q p ds x)) ∙ fold-roll-Phrase PhraseTree StepTree DomainTree LinkTree phrase_level step_level domain_level link_level (Phrase-F.Quantified q p ds x)

pub bound_seen : (p : Place) (xs : Vec Phrase Global) (x : Box Phrase Global) → phrase_view (part.Let p xs x) ≡ bound_by_let p (phrases_view xs.items) (phrase_view x.value)
bound_seen p xs x = ap phrase_view (sym (part.rolls-Let p xs x)) ∙ fold-roll-Phrase PhraseTree StepTree DomainTree LinkTree phrase_level step_level domain_level link_level (Phrase-F.Let p xs x)
