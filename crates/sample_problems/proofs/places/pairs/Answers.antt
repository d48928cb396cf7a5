use Rattle.std.proofs.Common.{◌<◌, sym, subst, get_or, All}
use Rattle.std.proofs.lemmas.List.Elements.{All-append, All-contains, Contains-get_or}
use Rattle.tuple_core.specs.declared.atom.Atom.{Atom}
use Rattle.sample_problems.proofs.places.pairs.Goals as goal

pub returns-clause-tops : goal.returns-clause-tops
returns-clause-tops c = λ k d l.
    let Z : Atom → Type 0 = λ a. a.top < 1 in
    let rows = c.in_ok-all.all.rows in
    let set = c.in_ok-set.set.rows in
    let parts = (c.in_ok-all.ensures.just (get_or rows k d)).0 (Contains-get_or rows k d l) in
    let left = All-contains (All Z) set parts.0 c.in_ok-set.ensures.tops parts.2 in
    let right = All-contains (All Z) set parts.1 c.in_ok-set.ensures.tops parts.3 in
    subst (All Z) (sym parts.4) (All-append Z parts.0 parts.1 left right)
