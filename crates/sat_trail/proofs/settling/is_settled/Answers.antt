use Rattle.std.proofs.Common.{◌+◌, ◌*◌, get_or, arith}
use Rattle.sat_trail.specs.Settling.{IsHeldUp}
use Rattle.sat_trail.proofs.settling.is_settled.Goals as goal

pub is_held_up-requires-clause-code : goal.is_held_up-requires-clause-code
is_held_up-requires-clause-code c =
    let own = c.len.ensures.listed.all (2 * c.args.n) (omega (arith, c.requires.in_range)) in
    omega (arith, own.0, c.code-one.ensures, c.requires.lists)

pub is_held_up-requires-clause-other : goal.is_held_up-requires-clause-other
is_held_up-requires-clause-other c =
    let own = c.len.ensures.listed.all (2 * c.args.n + 1) c.requires.in_range in
    omega (arith, own.0, c.code-other.ensures, c.requires.lists)

pub returns-then-is_held_up : goal.returns-then-is_held_up
returns-then-is_held_up c = λ t.
    let first : IsHeldUp c.args.now.now.assigned (get_or c.args.watches.now.codes (2 * c.args.n) 0) (get_or c.args.watches.now.codes (2 * c.args.n + 1) 0) = rw (c.code-one.ensures, c.code-other.ensures) at (c.is_held_up.ensures c.if-is_held_up.true) in
    let second : IsHeldUp c.args.now.now.assigned (get_or c.args.watches.now.codes (2 * c.args.n + 1) 0) (get_or c.args.watches.now.codes (2 * c.args.n) 0) = rw (c.code-one.ensures, c.code-other.ensures) at (c.is_held_up-then-is_held_up.ensures t) in
    record { first_is = omega (arith, c.if-one-lt2.false, c.code-one.ensures); second_is = omega (arith, c.if-other-lt2.false, c.code-other.ensures); first = first; second = second }
