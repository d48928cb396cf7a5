use Rattle.std.proofs.Common.{◌≡◌, ◌++◌, ◌∷◌, [], sym, ap, ◌∙◌, subst, length, arith}
use Rattle.std.specs.List.{slice_set, slice_index_or}
use Rattle.name_tables.specs.Occurrence.{AreFirsts, once_more}
use Rattle.name_tables.proofs.Occurrences.{covered, pushed}
use Rattle.name_tables.proofs.firsts.Firsts.push.Goals as goal

pub invariant_of-self : goal.invariant_of-self
invariant_of-self c =
    let longer = c.cover.ensures.longer in
    subst (AreFirsts c.self.inside.numbers.items) (sym longer.1) (covered c.self.inside.numbers.items c.self.inside.occurrences.items longer.0 c.self.invariant)

pub invariant_of-self-in_err-push : goal.invariant_of-self-in_err-push
invariant_of-self-in_err-push c =
    let longer = c.cover.ensures.longer in
    subst (λ numbers. AreFirsts numbers c.cover.new.table.items) (sym c.in_err-push.ensures.items)
    (subst (AreFirsts c.self.inside.numbers.items) (sym longer.1) (covered c.self.inside.numbers.items c.self.inside.occurrences.items longer.0 c.self.invariant))

pub invariant_of-self-2 : goal.invariant_of-self-2
invariant_of-self-2 c =
    let longer = c.cover.ensures.longer in
    let are : AreFirsts c.self.inside.numbers.items c.cover.new.table.items
    = subst (AreFirsts c.self.inside.numbers.items) (sym longer.1) (covered c.self.inside.numbers.items c.self.inside.occurrences.items longer.0 c.self.invariant) in
    let count : length c.self.inside.numbers.items ≡ c.len.result = omega (arith, c.len.ensures) in
    let more : once_more (length c.self.inside.numbers.items) (slice_index_or c.cover.new.table.items c.args.number c.index.result.now) ≡ c.once_more-occurrence.result
    = ap (λ n. once_more n (slice_index_or c.cover.new.table.items c.args.number c.index.result.now)) count ∙ ap (once_more c.len.result) (sym c.index.ensures) ∙ sym c.once_more-occurrence.ensures in
    subst (λ numbers. AreFirsts numbers (slice_set c.cover.new.table.items c.args.number c.once_more-occurrence.result)) (sym c.in_ok-push.ensures.items)
    (subst (λ o. AreFirsts (c.self.inside.numbers.items ++ c.args.number ∷ []) (slice_set c.cover.new.table.items c.args.number o)) more
    (pushed c.self.inside.numbers.items c.cover.new.table.items are c.args.number c.index.result.now c.in_ok-cover.ensures.covers))
