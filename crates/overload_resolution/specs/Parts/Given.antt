-- What functions return that enter local names, and parts that were settled before.
use Rattle.std.specs.Prelude.{◌≡◌, ℕ, List, [], Bool, Option, Result, Ok, MatchResult, IfSome}
use Rattle.alloy_lex.specs.declared.token.Place.{Place}
use Rattle.named_model.specs.declared.phrase.Phrase.{Phrase}
use Rattle.named_model.specs.Phrase.{PhraseTree, PhraseTrees, more_phrases, StepTrees, brackets_first}
use Rattle.named_model.specs.View.{phrase_view}
use Rattle.model_types.specs.declared.fault.TypeFault.{TypeFault}
use Rattle.model_types.specs.Typing.{Declared, Local, settled}
use Rattle.model_types.specs.declared.part_sorts.kinds.Kind.{Kind}
use Rattle.overload_resolution.specs.Settling.Inside.{AreAlikeWhere}
use Rattle.overload_resolution.specs.Settling.Told.{IsTold}
use Rattle.overload_resolution.specs.Scopes.Given.{settled_view}

abbrev pub relation_view : Phrase × ℕ → PhraseTree × ℕ
relation_view r = (phrase_view r.0, r.1)

-- the same, of parts that enter local names: these are the definition's, with the same types where they are asked for
abbrev pub GivesBehind : {X Y : Type 0} → Bool → (X → Y) → Result X TypeFault → List Local → Result (Y × List Local) TypeFault → Type 0
GivesBehind asked see result new read = MatchResult result (λ x. (behind : List Local) × (read ≡ Ok (see x, behind)) × AreAlikeWhere asked new behind) (λ e. IsTold e read)

-- a part that was settled before, if one is given
abbrev pub IsGiven : Declared → List Local → Option (Phrase × Kind) → PhraseTree → Type 0
IsGiven d locals given x = IfSome given (λ r. settled d locals [] x ≡ Ok (settled_view r))

-- the first of these
abbrev pub IsGivenFirst : Declared → List Local → Option (Phrase × Kind) → PhraseTrees → Type 0
IsGivenFirst d locals given xs = (x : PhraseTree) (rest : PhraseTrees) → xs ≡ more_phrases x rest → IsGiven d locals given x

-- the first in brackets that come first
abbrev pub IsGivenBefore : Declared → List Local → Option (Phrase × Kind) → StepTrees → Type 0
IsGivenBefore d locals given steps = (p : Place) (xs : PhraseTrees) (rest : StepTrees) → steps ≡ brackets_first p xs rest → IsGivenFirst d locals given xs
