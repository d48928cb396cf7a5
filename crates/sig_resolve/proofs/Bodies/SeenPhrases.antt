-- What each kind of phrase is seen as.
use Rattle.std.proofs.Common.{◌≡◌, ap, ◌∙◌, sym, map, Box, Vec, Global}
use Rattle.alloy_lex.specs.declared.token.Place.{Place}
use Rattle.alloy_syntax.specs.declared.tree.Comparing.{Comparing}
use Rattle.alloy_syntax.specs.declared.tree.Constant.{Constant}
use Rattle.alloy_syntax.specs.declared.tree.Number.{Number}
use Rattle.alloy_syntax.specs.declared.tree.Prefix.{Prefix}
use Rattle.alloy_syntax.specs.declared.tree.Quantifier.{Quantifier}
use Rattle.named_model.specs.declared.phrase.Domain.{Domain}
use Rattle.named_model.specs.declared.phrase.Link.{Link}
use Rattle.named_model.specs.declared.phrase.Phrase.{Phrase, fold-roll-Phrase}
use Rattle.named_model.specs.declared.phrase.Phrase.TheOpen.{Phrase-F}
use Rattle.named_model.specs.declared.phrase.Phrase.TheVariants as part
use Rattle.named_model.specs.Phrase as phrase
use Rattle.named_model.specs.Phrase.{PhraseTree, LinkTree, StepTree, DomainTree}
use Rattle.named_model.specs.View.{phrase_view, phrases_view, link_view, domain_view, phrase_level, step_level, domain_level, link_level}

pub bracketed_phrase : (p : Place) (x : Box Phrase Global) → phrase_view (part.Bracketed p x) ≡ phrase.bracketed p (phrase_view x.value)
bracketed_phrase p x = ap phrase_view (sym (part.rolls-Bracketed p x)) ∙ fold-roll-Phrase PhraseTree StepTree DomainTree LinkTree phrase_level step_level domain_level link_level (Phrase-F.Bracketed p x)

pub prefixed_phrase : (f : Prefix) (p : Place) (x : Box Phrase Global) → phrase_view (part.Prefixed f p x) ≡ phrase.prefixed f p (phrase_view x.value)
prefixed_phrase f p x = ap phrase_view (sym (part.rolls-Prefixed f p x)) ∙ fold-roll-Phrase PhraseTree StepTree DomainTree LinkTree phrase_level step_level domain_level link_level (Phrase-F.Prefixed f p x)

pub compared_phrase : (x : Box Phrase Global) (c : Comparing) (y : Box Phrase Global) → phrase_view (part.Compared x c y) ≡ phrase.compared (phrase_view x.value) c (phrase_view y.value)
compared_phrase x c y = ap phrase_view (sym (part.rolls-Compared x c y)) ∙ fold-roll-Phrase PhraseTree StepTree DomainTree LinkTree phrase_level step_level domain_level link_level (Phrase-F.Compared x c y)

pub implies_phrase : (x : Box Phrase Global) (p : Place) (y : Box Phrase Global) → phrase_view (part.Implies x p y) ≡ phrase.implies (phrase_view x.value) p (phrase_view y.value)
implies_phrase x p y = ap phrase_view (sym (part.rolls-Implies x p y)) ∙ fold-roll-Phrase PhraseTree StepTree DomainTree LinkTree phrase_level step_level domain_level link_level (Phrase-F.Implies x p y)

pub else_phrase : (x : Box Phrase Global) (p : Place) (y z : Box Phrase Global) → phrase_view (part.ImpliesElse x p y z) ≡ phrase.implies_else (phrase_view x.value) p (phrase_view y.value) (phrase_view z.value)
else_phrase x p y z = ap phrase_view (sym (part.rolls-ImpliesElse x p y z)) ∙ fold-roll-Phrase PhraseTree StepTree DomainTree LinkTree phrase_level step_level domain_level link_level (Phrase-F.ImpliesElse x p y z)

pub numbered_phrase : (k : Number) → phrase_view (part.Numbered k) ≡ phrase.numbered k
numbered_phrase k = ap phrase_view (sym (part.rolls-Numbered k)) ∙ fold-roll-Phrase PhraseTree StepTree DomainTree LinkTree phrase_level step_level domain_level link_level (Phrase-F.Numbered k)

pub constant_phrase : (c : Constant) (p : Place) → phrase_view (part.Constant c p) ≡ phrase.constant c p
constant_phrase c p = ap phrase_view (sym (part.rolls-Constant c p)) ∙ fold-roll-Phrase PhraseTree StepTree DomainTree LinkTree phrase_level step_level domain_level link_level (Phrase-F.Constant c p)

pub block_phrase : (p : Place) (xs : Vec Phrase Global) → phrase_view (part.Block p xs) ≡ phrase.block p (phrases_view xs.items)
block_phrase p xs = ap phrase_view (sym (part.rolls-Block p xs)) ∙ fold-roll-Phrase PhraseTree StepTree DomainTree LinkTree phrase_level step_level domain_level link_level (Phrase-F.Block p xs)

pub chain_phrase : (x : Box Phrase Global) (ls : Vec Link Global) → phrase_view (part.Chain x ls) ≡ phrase.chain (phrase_view x.value) (phrase.links_of (map link_view ls.items))
chain_phrase x ls = ap phrase_view (sym (part.rolls-Chain x ls)) ∙ fold-roll-Phrase PhraseTree StepTree DomainTree LinkTree phrase_level step_level domain_level link_level (Phrase-F.Chain x ls)

pub quantified_phrase : (q : Quantifier) (p : Place) (ds : Vec Domain Global) (x : Box Phrase Global) → phrase_view (part.Quantified q p ds x) ≡ phrase.quantified q p (phrase.domains_of (map domain_view ds.items)) (phrase_view x.value)
quantified_phrase q p ds x = ap phrase_view (sym (part.rolls-Quantified q p ds x)) ∙ fold-roll-Phrase PhraseTree StepTree DomainTree LinkTree phrase_level step_level domain_level link_level (Phrase-F.Quantified q p ds x)

pub let_phrase : (p : Place) (xs : Vec Phrase Global) (x : Box Phrase Global) → phrase_view (part.Let p xs x) ≡ phrase.bound_by_let p (phrases_view xs.items) (phrase_view x.value)
let_phrase p xs x = ap phrase_view (sym (part.rolls-Let p xs x)) ∙ fold-roll-Phrase PhraseTree StepTree DomainTree LinkTree phrase_level step_level domain_level link_level (Phrase-F.Let p xs x)
