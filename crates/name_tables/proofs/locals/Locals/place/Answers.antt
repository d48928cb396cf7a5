use Rattle.std.proofs.Common.{◌≡◌, ◌+◌, ◌-◌, ◌==◌, ◌<◌, ◌≤◌, length, sym, ap, ◌∙◌, Some, arith}
use Rattle.std.proofs.lemmas.Iterator.Adapters.{position_from-zero}
use Rattle.name_tables.specs.Levels.{place_of, numbers_of}
use Rattle.name_tables.proofs.Leveled.{placed, not_placed, far, numbers_length}
use Rattle.name_tables.proofs.locals.Locals.place.Goals as goal

pub returns-then-number-len : goal.returns-then-number-len
returns-then-number-len c =
    let past : length c.self.inside.innermost.items ≤ c.args.number = omega (arith, c.if-number-len.true, c.len.ensures) in
    let none = far c.self.inside.levels.items c.self.inside.innermost.items c.self.invariant c.args.number past in
    sym (position_from-zero (λ x. x == c.args.number) (numbers_of c.self.inside.levels.items) ∙ not_placed c.args.number 0 (numbers_of c.self.inside.levels.items) none) ∙ ap (place_of c.args.number) c.self.view_is

pub overflow_sub-result-in-Some : goal.overflow_sub-result-in-Some
overflow_sub-result-in-Some c =
    let inside : c.args.number < length c.self.inside.innermost.items = omega (arith, c.if-number-len.false, c.len.ensures) in
    let level_is = sym (c.self.invariant.right c.args.number c.index.result.now inside) ∙ sym c.index.ensures ∙ c.in-Some.is in
    let at = placed c.args.number c.in-Some.level 0 (numbers_of c.self.inside.levels.items) level_is in
    let count = numbers_length c.self.inside.levels.items in
    omega (arith, at.0, count, c.len-in-Some.ensures)

pub returns-in-Some : goal.returns-in-Some
returns-in-Some c =
    let inside : c.args.number < length c.self.inside.innermost.items = omega (arith, c.if-number-len.false, c.len.ensures) in
    let level_is = sym (c.self.invariant.right c.args.number c.index.result.now inside) ∙ sym c.index.ensures ∙ c.in-Some.is in
    let at = placed c.args.number c.in-Some.level 0 (numbers_of c.self.inside.levels.items) level_is in
    let count = numbers_length c.self.inside.levels.items in
    let place : c.len-in-Some.result - 1 - c.in-Some.level ≡ 0 + (length (numbers_of c.self.inside.levels.items) - 1 - c.in-Some.level) = omega (arith, at.0, count, c.len-in-Some.ensures) in
    ap Some place ∙ sym (position_from-zero (λ x. x == c.args.number) (numbers_of c.self.inside.levels.items) ∙ at.1) ∙ ap (place_of c.args.number) c.self.view_is

pub returns-in-None : goal.returns-in-None
returns-in-None c =
    let inside : c.args.number < length c.self.inside.innermost.items = omega (arith, c.if-number-len.false, c.len.ensures) in
    let none = sym (c.self.invariant.right c.args.number c.index.result.now inside) ∙ sym c.index.ensures ∙ c.in-None.is in
    sym (position_from-zero (λ x. x == c.args.number) (numbers_of c.self.inside.levels.items) ∙ not_placed c.args.number 0 (numbers_of c.self.inside.levels.items) none) ∙ ap (place_of c.args.number) c.self.view_is
