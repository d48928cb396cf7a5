-- What the laws say.
use Rattle.std.specs.Prelude.{◌≡◌, ◌∷◌, ℕ, Bool, List, Option, Ok}
use Rattle.alloy_lex.specs.declared.token.Place.{Place}
use Rattle.alloy_syntax.specs.declared.tree.MultiplicityWord.{MultiplicityWord}
use Rattle.alloy_syntax.specs.declared.tree.Operator.{Operator}
use Rattle.named_model.specs.Answers.{◌>>=◌}
use Rattle.named_model.specs.Phrase.{PhraseTree, PhraseTrees, more_phrases, LinkTrees, more_links, StepTree, StepTrees, step_first, DomainTrees, more_domains}
use Rattle.model_types.specs.Bounding.{Lists}
use Rattle.model_types.specs.Sorts.{Kind, first_place}
use Rattle.model_types.specs.Typing.{Declared, Local, types_in, onto, settled, arguments_settled, links_settled, steps_settled, domains_settled, values_settled}
use Rattle.overload_resolution.specs.Names.Shared.{shared_in, shared_in_domains}
use Rattle.overload_resolution.specs.Settling.Inside.{AreAlikeWhere, AreAlikeBehind}
use Rattle.overload_resolution.specs.Settling.Same.{AreSameTypes, AreSameTops, Asks}
use Rattle.overload_resolution.specs.Settling.Single.{link_settled, links_after, step_settled, steps_after, relation_settled, domain_settled, with_argument, entered}

-- types and signatures matter as far as a shared name in the part asks for them
abbrev pub PartsAreSettledAlike : Type 0
PartsAreSettledAlike =
    (asked : Bool) (d : Declared) (ls ms : List Local) (tops ts : List ℕ) (x : PhraseTree) → AreSameTypes (types_in d) (types_in d) → AreAlikeWhere asked ls ms → AreSameTops asked tops ts
    → Asks (shared_in x) asked → settled d ls tops x ≡ settled d ms ts x

abbrev pub DomainsAreSettledAlike : Type 0
DomainsAreSettledAlike =
    (asked single : Bool) (d : Declared) (ls ms : List Local) (ds : DomainTrees) → AreSameTypes (types_in d) (types_in d) → AreAlikeWhere asked ls ms
    → Asks (shared_in_domains ds) asked → AreAlikeBehind asked (domains_settled single d ls ds) (domains_settled single d ms ds)

-- each operand is settled behind those before, and so on
abbrev pub OperandsAreSettledInOrder : Type 0
OperandsAreSettledInOrder =
    (d : Declared) (ls : List Local) (left : Place) (k : Kind) (a : Lists) (o : Operator) (p : Place) (x : PhraseTree) (rest : LinkTrees)
    → links_settled d ls left k a (more_links o p x rest) ≡ (link_settled d ls left k a (record { operator = o; place = p; operand = x }) >>= links_after d ls left a rest)

abbrev pub StepsAreSettledInOrder : Type 0
StepsAreSettledInOrder =
    (d : Declared) (ls : List Local) (left : Place) (k : Kind) (a : Lists) (s : StepTree) (rest : StepTrees)
    → steps_settled d ls left k a (step_first s rest) ≡ (step_settled d ls left k a s >>= steps_after d ls left a rest)

abbrev pub ArgumentsAreSettledInOrder : Type 0
ArgumentsAreSettledInOrder =
    (d : Declared) (ls : List Local) (x : PhraseTree) (xs : PhraseTrees)
    → arguments_settled d ls (more_phrases x xs) ≡ (relation_settled d ls x >>= λ r. arguments_settled d ls xs >>= λ ys. Ok (with_argument r (first_place x) ys))

abbrev pub ValuesAreSettledInOrder : Type 0
ValuesAreSettledInOrder =
    (d : Declared) (ls : List Local) (x : PhraseTree) (xs : PhraseTrees)
    → values_settled d ls (more_phrases x xs) ≡ (relation_settled d ls x >>= λ r. values_settled d (entered d ls r ∷ ls) xs >>= λ zs. Ok (more_phrases r.0 zs.0, zs.1))

abbrev pub DomainsAreSettledInOrder : Type 0
DomainsAreSettledInOrder =
    (single : Bool) (d : Declared) (ls : List Local) (disjoint : Bool) (n : ℕ) (mark : Option MultiplicityWord) (x : PhraseTree) (ds : DomainTrees)
    → domains_settled single d ls (more_domains disjoint n mark x ds)
    ≡ (domain_settled single d ls x >>= λ r. domains_settled single d (onto n (entered d ls r) ls) ds >>= λ zs. Ok (more_domains disjoint n mark r.0 zs.0, zs.1))
