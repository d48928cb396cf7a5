-- Predicates and functions.
use Rattle.std.specs.Prelude.{ℕ, ◌==◌, List, [], ◌∷◌, Bool, ◌||◌, option_map, Result, Ok}
use Rattle.named_model.specs.Phrase.{PhraseTree, DomainTree}
use Rattle.named_model.specs.Model.{MeaningTree, formulas, value}
use Rattle.named_model.specs.Answers.{◌>>=◌}
use Rattle.model_types.specs.declared.fault.TypeFault.{TypeFault}
use Rattle.model_types.specs.declared.fault.TypeFault.TheVariants as fault
use Rattle.model_types.specs.Sorts.{Checked, unless, first_place}
use Rattle.model_types.specs.Typing.{Declared, Local, fits}
use Rattle.overload_resolution.specs.Names.Shared.{shared_in, shared_among}
use Rattle.overload_resolution.specs.Settling.Single.{relation_settled}
use Rattle.alloy_types.specs.Calls.Groups.{GroupTree}

-- whether a name of several fields stands in it
abbrev pub shared_in_meaning : MeaningTree → Bool
shared_in_meaning (formulas xs) = shared_among xs
shared_in_meaning (value range body) = shared_in range || shared_in body

-- a range and a body, which are relations of one arity
abbrev pub value_settled : Declared → List Local → PhraseTree → PhraseTree → Result (PhraseTree × PhraseTree) TypeFault
value_settled d locals range body = do
  r ← relation_settled d locals range
  b ← relation_settled d locals body
  same ← unless (r.1 == b.1) (fault.Arity (first_place body))
  Ok (r.0, b.0)

-- the parameters of a domain have to be sets, as far as it has an arity
abbrev pub group_unary : GroupTree → DomainTree → Checked
group_unary g x = unless (fits (option_map (λ (r : PhraseTree × ℕ). r.1) g.relation) 1) (fault.NotUnary (first_place x.domain))

-- the parameters of groups have to be sets, each as far as its domain has an arity
abbrev pub groups_unary : List GroupTree → List DomainTree → Checked
groups_unary [] xs = Ok tt
groups_unary (g ∷ gs) [] = Ok tt
groups_unary (g ∷ gs) (x ∷ xs) = group_unary g x >>= λ done. groups_unary gs xs
