use Rattle.std.proofs.Common.{◌/◌, List, arith, ap, ◌∙◌, sym, subst}
use Rattle.std.specs.List.{Contains}
use Rattle.cnf_core.specs.declared.literal.Lit.{Lit}
use Rattle.unit_propagation.specs.Clauses.Codes.{literal_of}
use Rattle.unit_propagation.proofs.Propagation.Slots.{at_slot, clause_is, codes_low, list_moved}
use Rattle.unit_propagation.proofs.Propagation.Steps.{walking_bring, gone_other}
use Rattle.unit_propagation.proofs.watched_literals.walk.replace.Goals as goal

pub codes-requires-clause-in_range : goal.codes-requires-clause-in_range
codes-requires-clause-in_range c = let s = at_slot _ _ _ _ _ _ _ _ c.requires.at_slot c.len-count.ensures.listed in omega (arith, s.2)

pub replacement-requires : goal.replacement-requires
replacement-requires c =
    let s = at_slot _ _ _ _ _ _ _ _ c.requires.at_slot c.len-count.ensures.listed in
    codes_low _ _ _ _ c.requires.at_slot.walking.within s.2 c.codes.ensures

pub bring-requires-clause-other : goal.bring-requires-clause-other
bring-requires-clause-other c = let found = c.in-Some.ensures in gone_other _ _ _ _ _ _ _ _ c.requires.at_slot.walking found.2

pub returns-in-Some-clause-walking : goal.returns-in-Some-clause-walking
returns-in-Some-clause-walking c =
    let a = c.requires.at_slot in
    let found = c.in-Some.ensures in
    let clause = clause_is c.args.store.now c.codes.result.now (c.args.slot / 2) c.codes.ensures in
    walking_bring _ _ _ _ _ _ _ _ c.args.slot c.in-Some.code c.len-count_true.ensures.consistent a.walking c.len-count.ensures.listed a.here a.gone_in a.gone_low a.is
    (subst (λ (k : List Lit). Contains k (literal_of c.in-Some.code)) (sym clause) found.0)
    (λ e. found.1 (e ∙ ap literal_of (sym c.other_of-other.ensures.code))) found.2 found.3 c.bring.ensures

pub returns-in-Some-clause-moved : goal.returns-in-Some-clause-moved
returns-in-Some-clause-moved c = λ _.
    let a = c.requires.at_slot in
    let found = c.in-Some.ensures in
    list_moved _ _ _ _ c.args.slot c.in-Some.code c.bring.ensures a.gone_in (omega (arith, a.walking.lists, found.3)) (gone_other _ _ _ _ _ _ _ _ a.walking found.2)

pub returns-in-None-clause-others : goal.returns-in-None-clause-others
returns-in-None-clause-others c = λ _ l h ne.
    let clause = clause_is c.args.store.now c.codes.result.now (c.args.slot / 2) c.codes.ensures in
    let others = c.in-None.ensures in
    others l (subst (λ (k : List Lit). Contains k l) clause h) (λ e. ne (e ∙ ap literal_of c.other_of-other.ensures.code))
