use Rattle.std.proofs.Common.{◌≡◌, ◌+◌, ◌<◌, ◌≤◌, ◌∙◌, ℕ, List, Option, [], rules, length, get_or, take, sym, subst, arith}
use Rattle.std.specs.Option.{IfSome}
use Rattle.std.proofs.lemmas.List.{get_or_default, take_all}
use Rattle.std.proofs.lemmas.Result.{IfOk-weaker}
use Rattle.tuple_core.specs.declared.atom.Atom.{Atom}
use Rattle.renaming_classes.specs.Keeping.{NoneKeeping, NonePutting}
use Rattle.renaming_classes.specs.Orbits.{AreOrbits}
use Rattle.renaming_classes.proofs.Searching.{no_later_itself, all_placed, tried_more, tried_all, put_swapped, put_same, at_or_any, searched_on, searched_swapped, IsSwapped}
use Rattle.renaming_classes.proofs.placing.Placing.+placing.Goals as goal

pub visit-returns-then-branch-clause-no_later : goal.visit-returns-then-branch-clause-no_later
visit-returns-then-branch-clause-no_later t c = no_later_itself c.args.problem.now c.args.best.now c.requires.searched.of_best

pub visit-returns-then-branch-clause-least : goal.visit-returns-then-branch-clause-least
visit-returns-then-branch-clause-least t c =
    let p = c.args.problem.now in
    let atoms : List Atom = c.args.self.now.atoms.items in
    let xs = c.args.self.now.orbits.items in
    let m = c.args.placed in
    let within : m ≤ length atoms = c.requires.placed in
    let l : m < length xs = let e = c.requires.placing.long in omega arith in
    let same = c.index.ensures ∙ get_or_default xs m c.index.result.now [] l in
    c.in_ok-rules_out.ensures c.if-branch.true (take m atoms) (subst (AreOrbits p (take m atoms)) (sym same) (c.requires.placing.together m within))

pub place-returns-then-placed-len-clause-no_later : goal.place-returns-then-placed-len-clause-no_later
place-returns-then-placed-len-clause-no_later t c =
    IfOk-weaker c.keep_earlier.result _ _
    (λ _ h. (all_placed c.args.problem.now c.args.self.now.atoms.items c.args.scenario.now c.args.best.now c.keep_earlier.new.best c.requires.placing.well c.requires.placing.movable c.requires.searched h).0)
    c.keep_earlier.ensures

pub place-returns-then-placed-len-clause-least : goal.place-returns-then-placed-len-clause-least
place-returns-then-placed-len-clause-least t c =
    let p = c.args.problem.now in
    let atoms : List Atom = c.args.self.now.atoms.items in
    let s : List ℕ = c.args.scenario.now in
    let new = c.keep_earlier.new.best in
    let all : take c.args.placed atoms ≡ atoms = take_all c.args.placed atoms (let e = c.if-placed-len.true in omega arith) in
    IfOk-weaker c.keep_earlier.result _ _
    (λ _ h. subst (λ (xs : List Atom). NoneKeeping p xs s new) (sym all) (all_placed p atoms s c.args.best.now new c.requires.placing.well c.requires.placing.movable c.requires.searched h).1)
    c.keep_earlier.ensures

pub place-put-requires : goal.place-put-requires
place-put-requires t c =
    let p = c.args.problem.now in
    let going = c.loop-other.invariant in
    let atoms : List Atom = c.args.self.now.atoms.items in
    let within : c.args.placed < length atoms = let f = c.if-placed-len.false in let w = c.requires.placed in omega arith in
    let l : c.loop-other.other < length atoms = let t = c.loop-other-test.true in omega arith in (
      first_of (search rules, omega arith, grind arith, search (rules, c.decreases)),
      (
        c.requires.placing,
        (
          within,
          (
            searched_on p c.args.best.now c.loop-other.best c.requires.searched.of_best going.no_later c.args.scenario.now c.requires.searched,
            ((c.loop-other.other, l, sym c.index.ensures), going.same),
          ),
        ),
      ),
    )

pub place-loop-other-preserved : goal.place-loop-other-preserved
place-loop-other-preserved t c =
    let p = c.args.problem.now in
    let atoms : List Atom = c.args.self.now.atoms.items in
    let s : List ℕ = c.args.scenario.now in
    let m = c.args.placed in
    let z : Atom = record { top = 0; place = 0 } in
    let other = c.loop-other.other in
    let b : Atom = c.index.result.now in
    let l : other < length atoms = let t = c.loop-other-test.true in omega arith in
    let m_in : m < length atoms = let f = c.if-placed-len.false in let w = c.requires.placed in omega arith in
    let same : get_or atoms m b ≡ at_or_any atoms m = get_or_default atoms m b z m_in in
    tried_more p atoms m (at_or_any atoms m) s c.args.best.now c.loop-other.best c.put.new.best other b l (sym c.index.ensures) c.in_ok-put.ensures.no_later
    (subst (λ (a : Atom). NonePutting p (take m atoms) b a s c.put.new.best) same c.in_ok-put.ensures.least) c.loop-other.invariant

pub place-returns-clause-least : goal.place-returns-clause-least
place-returns-clause-least t c =
    let p = c.args.problem.now in
    let atoms : List Atom = c.args.self.now.atoms.items in
    let m = c.args.placed in
    let z : Atom = record { top = 0; place = 0 } in
    let m_in : m < length atoms = let f = c.if-placed-len.false in let w = c.requires.placed in omega arith in
    tried_all p atoms m (at_or_any atoms m) c.args.scenario.now c.args.best.now c.loop-other.best c.loop-other.other m_in (get_or_default atoms m (at_or_any atoms m) z m_in) c.requires.placing.movable
    (let t = c.loop-other-test.false in omega arith) c.loop-other.invariant

pub put-visit-requires : goal.put-visit-requires
put-visit-requires t c =
    let p = c.args.problem.now in
    let atoms : List Atom = c.args.self.now.atoms.items in
    let a : Atom = c.index.result.now in
    let b : Atom = c.args.other in
    let s : List ℕ = c.args.scenario.now in
    let image : List ℕ = c.in-Some.image in
    let movable = c.requires.placing.movable in
    let h : IsSwapped p a b s image = subst (λ (o : Option (List ℕ)). IfSome o (IsSwapped p a b s)) c.in-Some.is c.in_ok-image.ensures.some in
    let within : c.args.placed + 1 ≤ length atoms = let w = c.requires.placed in omega arith in (
      first_of (search rules, omega arith, grind arith, search (rules, c.decreases)),
      (
        c.requires.placing,
        (
          within,
          searched_swapped p a b s image c.args.best.now h.0 (movable.members a (c.args.placed, c.requires.placed, sym c.index.ensures)) (movable.members b c.requires.other) h.1 h.2 c.requires.searched,
        ),
      ),
    )

pub put-returns-in-Some-clause-least : goal.put-returns-in-Some-clause-least
put-returns-in-Some-clause-least t c =
    let p = c.args.problem.now in
    let atoms : List Atom = c.args.self.now.atoms.items in
    let m = c.args.placed in
    let l = c.requires.placed in
    let a : Atom = c.index.result.now in
    let b : Atom = c.args.other in
    let s : List ℕ = c.args.scenario.now in
    let image : List ℕ = c.in-Some.image in
    let new : List ℕ = c.visit.new.best in
    let movable = c.requires.placing.movable in
    let at : get_or atoms m a ≡ a = sym c.index.ensures in
    let same : get_or atoms m b ≡ a = get_or_default atoms m b a l ∙ at in
    let h : IsSwapped p a b s image = subst (λ (o : Option (List ℕ)). IfSome o (IsSwapped p a b s)) c.in-Some.is c.in_ok-image.ensures.some in
    IfOk-weaker c.visit.result _ _
    (λ _ none. subst (λ (x : Atom). NonePutting p (take m atoms) b x s new) (sym same)
    (put_swapped p atoms m l a b at (movable.members a (m, l, at)) (movable.members b c.requires.other) s new image h.0 h.2 none))
    c.visit.ensures.least

pub put-returns-in-None-clause-no_later : goal.put-returns-in-None-clause-no_later
put-returns-in-None-clause-no_later t c = no_later_itself c.args.problem.now c.args.best.now c.requires.searched.of_best

pub put-returns-in-None-clause-least : goal.put-returns-in-None-clause-least
put-returns-in-None-clause-least t c =
    let p = c.args.problem.now in
    let atoms : List Atom = c.args.self.now.atoms.items in
    let m = c.args.placed in
    let l = c.requires.placed in
    let a : Atom = c.index.result.now in
    let b : Atom = c.args.other in
    let s : List ℕ = c.args.scenario.now in
    let best : List ℕ = c.args.best.now in
    let movable = c.requires.placing.movable in
    let at : get_or atoms m a ≡ a = sym c.index.ensures in
    let same : get_or atoms m b ≡ a = get_or_default atoms m b a l ∙ at in
    subst (λ (x : Atom). NonePutting p (take m atoms) b x s best) (sym same)
    (put_same p atoms m l a b at (movable.members a (m, l, at)) (movable.members b c.requires.other) s best (c.in_ok-image.ensures.none c.in-None.is) c.requires.same)
