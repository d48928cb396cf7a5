use Rattle.std.proofs.Common.{◌≡◌, ◌+◌, length, arith, ap, ◌∙◌, length-append}
use Rattle.unit_propagation.proofs.Propagation.MarkLists.{mark_list_flag}
use Rattle.unit_propagation.proofs.watched_literals.pending.Pending.push.Goals as goal

pub invariant_of-self : goal.invariant_of-self
invariant_of-self c =
    let kept = c.self.invariant in
    let flags = c.in_err-put_flag.ensures.same_flags in
    let list = c.in_err-put_flag.ensures.same_list in
    record { marks = rw (flags, list) kept.marks; room = omega (arith, ap length flags, kept.room, c.put_flag.ensures.capacity) }

pub invariant_of-self-2 : goal.invariant_of-self-2
invariant_of-self-2 c =
    let kept = c.self.invariant in
    let flags = c.in_ok-put_flag.ensures.flags in
    let list = c.in_ok-put_flag.ensures.list in
    let long : length c.put_flag.new.flags.items ≡ length c.self.inside.flags.items + 1 = ap length flags ∙ length-append _ _ in
    record { marks = rw (flags, list) (mark_list_flag _ _ c.args.is_marked kept.marks); room = omega (arith, long, c.in_ok-put_flag.ensures.room) }
