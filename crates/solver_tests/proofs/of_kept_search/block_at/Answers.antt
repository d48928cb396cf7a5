use Rattle.std.proofs.Common.{◌≡◌, ◌≤◌, ◌∙◌, ◌++◌, ◌∷◌, Bool, true, false, List, All, length, take, drop, arith, ap, subst, sym, length-append}
use Rattle.std.proofs.lemmas.List.{take-append-drop, length-take-le}
use Rattle.std.proofs.lemmas.List.Elements.{All-append, All-cons, All-drop, All-take}
use Rattle.cnf_core.specs.declared.literal.Lit.{Lit}
use Rattle.cnf_core.specs.Literal.{HasVarsUpTo}
use Rattle.sat_core.specs.Kept.{Kept, IfBlocked, IsKept}
use Rattle.solver_tests.proofs.of_kept_search.block_at.Goals as goal

pub block-requires-clause-kept : goal.block-requires-clause-kept
block-requires-clause-kept c = subst (λ (ls : List (List Lit)). IsKept c.args.f.now ls c.args.pool.now c.args.search.now) (sym c.as_slice.ensures.value) c.requires.kept

pub block-requires-clause-few : goal.block-requires-clause-few
block-requires-clause-few c = omega (arith, c.requires.few, c.requires.room, ap length c.as_slice.ensures.value)

pub block-requires-clause-place : goal.block-requires-clause-place
block-requires-clause-place c = omega (arith, c.requires.place, ap length c.as_slice.ensures.value)

pub returns-then-not-done-clause-kept : goal.returns-then-not-done-clause-kept
returns-then-not-done-clause-kept c =
    let ls = c.args.local.now.items in
    let first : List (List Lit) = take c.args.place ls in
    let rest : List (List Lit) = drop c.args.place ls in
    let made = c.in_ok-done.ensures.blocked first rest (c.as_slice.ensures.value ∙ sym (take-append-drop c.args.place ls)) (sym (length-take-le c.args.place ls c.requires.place)) in
    let no : c.in_ok-done.done ≡ false = (let f = c.if-not-done.true in cc) in
    let same : c.block.new.self ≡ c.args.search.now = (subst (λ (b : Bool). IfBlocked c.args.f.now (first ++ c.args.clause ∷ rest) c.args.pool.now c.args.clause c.args.search.now c.block.new.self b) no made).0 in
    subst (λ (k : Kept). IsKept c.args.f.now ls c.args.pool.now k) (sym same) c.requires.kept

pub returns-clause-kept : goal.returns-clause-kept
returns-clause-kept c =
    let ls = c.args.local.now.items in
    let first : List (List Lit) = take c.args.place ls in
    let rest : List (List Lit) = drop c.args.place ls in
    let made = c.in_ok-done.ensures.blocked first rest (c.as_slice.ensures.value ∙ sym (take-append-drop c.args.place ls)) (sym (length-take-le c.args.place ls c.requires.place)) in
    let yes' : c.in_ok-done.done ≡ true = (let f = c.if-not-done.false in cc) in
    let kept : IsKept c.args.f.now (first ++ c.args.clause ∷ rest) c.args.pool.now c.block.new.self = subst (λ (b : Bool). IfBlocked c.args.f.now (first ++ c.args.clause ∷ rest) c.args.pool.now c.args.clause c.args.search.now c.block.new.self b) yes' made in
    subst (λ (xs : List (List Lit)). IsKept c.args.f.now xs c.args.pool.now c.block.new.self) (sym c.in_ok-insert.ensures.items) kept

pub returns-clause-locals : goal.returns-clause-locals
returns-clause-locals c =
    let ls = c.args.local.now.items in
    let P : List Lit → Type 0 = HasVarsUpTo c.args.f.now.vars in
    subst (All P) (sym c.in_ok-insert.ensures.items)
    (All-append P (take c.args.place ls) (c.args.clause ∷ drop c.args.place ls) (All-take P c.args.place ls c.requires.locals) (All-cons P c.args.clause (drop c.args.place ls) c.requires.vars (All-drop P c.args.place ls c.requires.locals)))
