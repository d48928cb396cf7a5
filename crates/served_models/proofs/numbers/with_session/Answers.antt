use Rattle.std.proofs.Common.{◌≡◌, ◌≤◌, ◌<◌, min, subst, arith}
use Rattle.std.specs.Prelude.{Option, ℕ}
use Rattle.served_models.specs.Served.{IsNext}
use Rattle.served_models.proofs.CommandsWithSessions.{next_as_before, next_first, next_lesser}
use Rattle.served_models.proofs.numbers.with_session.Goals.{then-session-place-via-then-session-place, then-session-place-via-else-session-place+then-from}
use Rattle.served_models.proofs.numbers.with_session.Goals as goal

pub returns-then-session-place : goal.returns-then-session-place
returns-then-session-place c = λ sessions found.
    let x = c.args.session.now in
    let early : x.model ≡ c.args.place → x.number < c.args.from = elim c.then-session-place.branch [
      | then-session-place-via-then-session-place w ↦ λ on. let n = w.if-session-place.true in omega arith
      | then-session-place-via-else-session-place+then-from w ↦ λ on. let n = w.if-from.true in let e = w.from.ensures in omega arith
    ] in
    next_as_before c.args.place c.args.from sessions x c.args.least early found

pub returns-in-Some : goal.returns-in-Some
returns-in-Some c = λ sessions found.
    let x = c.args.session.now in
    let on : x.model ≡ c.args.place = let n = c.if-session-place.false in omega arith in
    let behind : c.args.from ≤ x.number = let n = c.if-from.false in let e = c.from.ensures in omega arith in
    let least : c.min.result ≡ min c.in-Some.number x.number = let e = c.min.ensures in omega arith in
    next_lesser c.args.place c.args.from sessions x c.in-Some.number c.min.result on behind least (subst (λ (found : Option ℕ). IsNext sessions c.args.place c.args.from found) c.in-Some.is found)

pub returns-in-None : goal.returns-in-None
returns-in-None c = λ sessions found.
    let x = c.args.session.now in
    let on : x.model ≡ c.args.place = let n = c.if-session-place.false in omega arith in
    let behind : c.args.from ≤ x.number = let n = c.if-from.false in let e = c.from.ensures in omega arith in
    next_first c.args.place c.args.from sessions x on behind (subst (λ (found : Option ℕ). IsNext sessions c.args.place c.args.from found) c.in-None.is found)
