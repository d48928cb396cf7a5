-- Parameters of one domain, as far as that is known.
use Rattle.std.specs.Prelude.{ℕ, List, [], ◌∷◌, replicate, flat_map, Option, Some, None, option_map, Result, Ok, Err}
use Rattle.named_model.specs.Phrase.{PhraseTree, DomainTree, DomainTrees, no_domains, more_domains}
use Rattle.model_types.specs.declared.fault.TypeFault.{TypeFault}
use Rattle.model_types.specs.Sorts.{relation}
use Rattle.model_types.specs.Typing.{Declared, Local, Settled, settled, type_in, onto}
use Rattle.model_types.specs.Models.{or_unknown}
use Rattle.overload_resolution.specs.Parts.Given.{relation_view}
use Rattle.alloy_types.specs.declared.known_callees.groups.Group.{Group}

-- so many parameters, and their domain with its arity, where that has no fault
pub record GroupTree : Type 0 where
  pub count : ℕ
  pub relation : Option (PhraseTree × ℕ)

abbrev pub relation_in : Settled → Option (PhraseTree × ℕ)
relation_in y = elim y.kind [ relation n ↦ Some (y.tree, n) | other ↦ None ]

-- a part with its arity, where it is a relation without a fault
abbrev pub relation_of : Result Settled TypeFault → Option (PhraseTree × ℕ)
relation_of (Err e) = None
relation_of (Ok y) = relation_in y

-- a parameter, as far as it is known
abbrev pub local_with : Declared → List Local → Option (PhraseTree × ℕ) → Option Local
local_with d locals None = None
local_with d locals (Some r) = Some (record { arity = r.1; type = type_in d locals r.0 })

-- the local names in a group
abbrev pub entered : Declared → List Local → GroupTree → List Local
entered d locals g = onto g.count (or_unknown (local_with d locals g.relation)) locals

-- the group of a domain
abbrev pub group_in : Declared → List Local → DomainTree → GroupTree
group_in d locals x = record { count = x.count; relation = relation_of (settled d locals [] x.domain) }

-- the groups of domains, each of which is settled behind those before it
abbrev pub groups_in : Declared → List Local → DomainTrees → List GroupTree
groups_in d locals no_domains = []
groups_in d locals (more_domains disjoint n mark x ds) =
    let g = group_in d locals (record { disjoint = disjoint; count = n; mark = mark; domain = x }) in
    g ∷ groups_in d (entered d locals g) ds

-- the local names behind groups
abbrev pub behind : Declared → List Local → List GroupTree → List Local
behind d locals [] = locals
behind d locals (g ∷ gs) = behind d (entered d locals g) gs

-- the arity of each parameter, as far as it is known
abbrev pub arities_of : List GroupTree → List (Option ℕ)
arities_of = flat_map (λ (g : GroupTree). replicate g.count (option_map (λ (r : PhraseTree × ℕ). r.1) g.relation))

-- what contracts see
abbrev pub group_view : Group → GroupTree
group_view g = record { count = g.count; relation = option_map relation_view g.relation }
