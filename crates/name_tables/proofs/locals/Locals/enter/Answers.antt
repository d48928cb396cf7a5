use Rattle.std.proofs.Common.{◌≡◌, ◌++◌, ◌∷◌, [], sym, subst, length, arith, Some}
use Rattle.std.specs.List.{slice_set}
use Rattle.name_tables.specs.Levels.{AreLevels}
use Rattle.name_tables.proofs.Leveled.{covered, entered}
use Rattle.name_tables.proofs.locals.Locals.enter.Goals as goal

pub invariant_of-self : goal.invariant_of-self
invariant_of-self c =
    let longer = c.cover.ensures.longer in
    subst (AreLevels c.self.inside.levels.items) (sym longer.1) (covered c.self.inside.levels.items c.self.inside.innermost.items longer.0 c.self.invariant)

pub invariant_of-self-in_err-push : goal.invariant_of-self-in_err-push
invariant_of-self-in_err-push c =
    let longer = c.cover.ensures.longer in
    subst (λ levels. AreLevels levels c.cover.new.table.items) (sym c.in_err-push.ensures.items)
    (subst (AreLevels c.self.inside.levels.items) (sym longer.1) (covered c.self.inside.levels.items c.self.inside.innermost.items longer.0 c.self.invariant))

pub invariant_of-self-2 : goal.invariant_of-self-2
invariant_of-self-2 c =
    let longer = c.cover.ensures.longer in
    let are : AreLevels c.self.inside.levels.items c.cover.new.table.items
    = subst (AreLevels c.self.inside.levels.items) (sym longer.1) (covered c.self.inside.levels.items c.self.inside.innermost.items longer.0 c.self.invariant) in
    let count : length c.self.inside.levels.items ≡ c.len-level.result = omega (arith, c.len-level.ensures) in
    subst (λ levels. AreLevels levels (slice_set c.cover.new.table.items c.args.number (Some c.len-level.result))) (sym c.in_ok-push.ensures.items)
    (subst (λ n. AreLevels (c.self.inside.levels.items ++ record { number = c.args.number; hidden = c.index-hidden.result.now } ∷ []) (slice_set c.cover.new.table.items c.args.number (Some n))) count
    (entered c.self.inside.levels.items c.cover.new.table.items are (record { number = c.args.number; hidden = c.index-hidden.result.now }) c.index-hidden.result.now c.in_ok-cover.ensures.covers c.index-hidden.ensures))
