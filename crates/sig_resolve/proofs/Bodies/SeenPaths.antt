-- What calls and paths are seen as.
use Rattle.std.proofs.Common.{◌≡◌, ℕ, ap, ◌∙◌, sym, map, Box, Vec, Global}
use Rattle.alloy_lex.specs.declared.token.Place.{Place}
use Rattle.named_model.specs.declared.phrase.Phrase.{Phrase, Called, Path, fold-roll-Phrase}
use Rattle.named_model.specs.declared.phrase.Phrase.TheVariants.{rolls-Called, rolls-Path}
use Rattle.named_model.specs.declared.phrase.Phrase.TheOpen.{Phrase-F}
use Rattle.named_model.specs.declared.phrase.Step.{Step}
use Rattle.named_model.specs.Phrase.{PhraseTree, LinkTree, StepTree, DomainTree, called, path, steps_of}
use Rattle.named_model.specs.View.{phrase_view, phrases_view, step_view, phrase_level, step_level, domain_level, link_level}

pub called_seen : (p : Place) (n : ℕ) (xs : Vec Phrase Global) → phrase_view (Called p n xs) ≡ called p n (phrases_view xs.items)
called_seen p n xs = ap phrase_view (sym (rolls-Called p n xs)) ∙ fold-roll-Phrase PhraseTree StepTree DomainTree LinkTree phrase_level step_level domain_level link_level (Phrase-F.Called p n xs)

pub path_seen : (x : Box Phrase Global) (ss : Vec Step Global) → phrase_view (Path x ss) ≡ path (phrase_view x.value) (steps_of (map step_view ss.items))
path_seen x ss = ap phrase_view (sym (rolls-Path x ss)) ∙ fold-roll-Phrase PhraseTree StepTree DomainTree LinkTree phrase_level step_level domain_level link_level (Phrase-F.Path x ss)
