use Rattle.std.proofs.Common.{◌≡◌, ◌-◌, ◌+◌, [], ◌∙◌, Some, true, Bool, List, All, length, get_or, take, arith, ap, sym, subst, length-append}
use Rattle.std.proofs.lemmas.List.Elements.{All-push}
use Rattle.std.proofs.lemmas.List.{get_or_push}
use Rattle.std.specs.Prelude.{◌||◌}
use Rattle.std.specs.List.{slice_get}
use Rattle.cnf_core.specs.declared.literal.Lit.{Lit}
use Rattle.cnf_core.specs.Literal.{HasVarsUpTo}
use Rattle.unit_propagation.specs.Clauses.Codes.{literals_of}
use Rattle.unit_propagation.specs.Propagation.Rule.{IsMarked}
use Rattle.unit_propagation.proofs.Propagation.Slots.{clause_is, codes_low}
use Rattle.sat_trail.proofs.Readiness.{ready_append}
use Rattle.sat_trail.proofs.Watches.{pair_low, pair_watches, without_last, or_true, marked_or_none}
use Rattle.sat_trail.proofs.filling.append.Goals as goal
use Rattle.sat_trail.proofs.filling.append.Goals.{then-is_marked, else-is_marked}

pub codes-requires-clause-in_range : goal.codes-requires-clause-in_range
codes-requires-clause-in_range c =
    let longer : length c.push.new.self ≡ length c.args.store.now + 1 = ap length c.in_ok-push.ensures.ok ∙ length-append c.args.store.now _ in
    omega (arith, c.len-n.ensures.len, longer)

pub pair_of-pair-requires : goal.pair_of-pair-requires
pair_of-pair-requires c =
    let longer : length c.push.new.self ≡ length c.args.store.now + 1 = ap length c.in_ok-push.ensures.ok ∙ length-append c.args.store.now _ in
    let within : All (HasVarsUpTo c.args.now.now.vars) c.push.new.self = rw c.in_ok-push.ensures.ok (All-push (HasVarsUpTo c.args.now.now.vars) _ _ c.requires.ready.within c.requires.vars) in
    codes_low c.push.new.self c.codes.result.now c.len-n.result c.args.now.now.vars within (omega (arith, c.len-n.ensures.len, longer)) c.codes.ensures

pub put_slots-requires-clause-one : goal.put_slots-requires-clause-one
put_slots-requires-clause-one c =
    let longer : length c.push.new.self ≡ length c.args.store.now + 1 = ap length c.in_ok-push.ensures.ok ∙ length-append c.args.store.now _ in
    let within : All (HasVarsUpTo c.args.now.now.vars) c.push.new.self = rw c.in_ok-push.ensures.ok (All-push (HasVarsUpTo c.args.now.now.vars) _ _ c.requires.ready.within c.requires.vars) in
    let low = codes_low c.push.new.self c.codes.result.now c.len-n.result c.args.now.now.vars within (omega (arith, c.len-n.ensures.len, longer)) c.codes.ensures in
    let both = pair_low c.codes.result.now c.args.now.now.vars c.pair_of-pair.result.one c.pair_of-pair.result.other c.pair_of-pair.result.is_short low c.pair_of-pair.ensures in
    omega (arith, both.0, c.requires.ready.lists)

pub put_slots-requires-clause-other : goal.put_slots-requires-clause-other
put_slots-requires-clause-other c =
    let longer : length c.push.new.self ≡ length c.args.store.now + 1 = ap length c.in_ok-push.ensures.ok ∙ length-append c.args.store.now _ in
    let within : All (HasVarsUpTo c.args.now.now.vars) c.push.new.self = rw c.in_ok-push.ensures.ok (All-push (HasVarsUpTo c.args.now.now.vars) _ _ c.requires.ready.within c.requires.vars) in
    let low = codes_low c.push.new.self c.codes.result.now c.len-n.result c.args.now.now.vars within (omega (arith, c.len-n.ensures.len, longer)) c.codes.ensures in
    let both = pair_low c.codes.result.now c.args.now.now.vars c.pair_of-pair.result.one c.pair_of-pair.result.other c.pair_of-pair.result.is_short low c.pair_of-pair.ensures in
    omega (arith, both.1, c.requires.ready.lists)

pub returns-in-Ok-clause-ready : goal.returns-in-Ok-clause-ready
returns-in-Ok-clause-ready c =
    let was = c.requires.ready in
    let n_is : c.len-n.result ≡ length c.args.store.now = c.len-n.ensures.len in
    let read : slice_get c.push.new.self ((c.len-n.result + 1) - 1) ≡ Some (literals_of c.codes.result.now) = c.codes.ensures in
    let last : c.args.clause.now ≡ literals_of c.codes.result.now =
    sym (get_or_push c.args.store.now c.args.clause.now [] c.len-n.result (sym n_is)) ∙ (ap (λ (cs : List (List Lit)). get_or cs c.len-n.result []) (sym c.in_ok-push.ensures.ok) ∙ clause_is c.push.new.self c.codes.result.now c.len-n.result read) in
    let flags = c.in-Ok.ensures.flags in
    let asked : c.if-is_marked.is_flagged ≡ (c.args.is_marked || c.pair_of-pair.result.is_short) = elim c.if-is_marked.branch [
      | then-is_marked w ↦ w.is_flagged-is ∙ (w.if-is_marked.true ∙ sym (ap (λ (b : Bool). b || c.pair_of-pair.result.is_short) w.if-is_marked.true))
      | else-is_marked w ↦ w.is_flagged-is ∙ sym (ap (λ (b : Bool). b || c.pair_of-pair.result.is_short) w.if-is_marked.false)
    ] in
    let marked : (c.args.is_marked || c.pair_of-pair.result.is_short) ≡ true → IsMarked c.put_slots.new.pending.flags (length c.args.store.now) = λ e. subst (IsMarked c.put_slots.new.pending.flags) was.flags_long (flags.marked (asked ∙ e)) in
    let made = ready_append c.args.store.now c.args.watches.now c.args.now.now c.args.pending.now.flags c.put_slots.new.pending.flags c.args.propagated c.pair_of-pair.result.one c.pair_of-pair.result.other c.args.clause.now was flags.stays flags.long c.requires.vars
    (pair_watches c.codes.result.now c.args.clause.now c.pair_of-pair.result.one c.pair_of-pair.result.other c.pair_of-pair.result.is_short c.put_slots.new.pending.flags (length c.args.store.now) last c.pair_of-pair.ensures (λ e. marked (or_true c.args.is_marked c.pair_of-pair.result.is_short e)))
    (marked_or_none c.args.is_marked c.pair_of-pair.result.is_short c.put_slots.new.pending.flags (length c.args.store.now) c.args.propagated marked c.requires.unmarked) in
    rw (c.in_ok-push.ensures.ok, c.in-Ok.ensures.watches) made

pub pop-requires : goal.pop-requires
pop-requires c =
    let longer : length c.push.new.self ≡ length c.args.store.now + 1 = ap length c.in_ok-push.ensures.ok ∙ length-append c.args.store.now _ in
    omega (arith, longer)

pub returns-in-Err-clause-same_store : goal.returns-in-Err-clause-same_store
returns-in-Err-clause-same_store c =
    c.pop.ensures ∙ (ap (λ (cs : List (List Lit)). take (length cs - 1) cs) c.in_ok-push.ensures.ok ∙ without_last c.args.store.now _)

pub returns-in-Err-clause-same : goal.returns-in-Err-clause-same
returns-in-Err-clause-same c =
    let store = c.pop.ensures ∙ (ap (λ (cs : List (List Lit)). take (length cs - 1) cs) c.in_ok-push.ensures.ok ∙ without_last c.args.store.now _) in
    rw (store, c.in-Err.ensures.same_watches, c.in-Err.ensures.same_flags) c.requires.ready
