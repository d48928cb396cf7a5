use Rattle.std.proofs.Common.{◌≡◌, ◌<◌, ◌≤◌, ◌+◌, ◌-◌, ℕ, List, [], ◌∷◌, ◌++◌, take, length, get_or, All, Contains, sum_by, refl, sym, ◌∙◌, ap, subst, arith}
use Rattle.std.proofs.lemmas.List.{take_more, take_all}
use Rattle.std.proofs.lemmas.List.Elements.{All-contains}
use Rattle.std.proofs.lemmas.List.Sums.{sum_by-append}
use Rattle.refutation_check.specs.SearchLog.{IsSearchLog, novel_steps}
use Rattle.refutation_check.specs.Part.{Parted}
use Rattle.translation_rules.specs.Parts.{given_to, novel_in}
use Rattle.session_state.proofs.search_rounds.novel.left_after.Goals as goal

pub loop-part-init : goal.loop-part-init
loop-part-init c = λ t pool all no_empty searched few. omega arith

pub loop-part-preserved : goal.loop-part-preserved
loop-part-preserved c = λ t pool all no_empty searched few.
    let xs = c.args.parts.now in
    let i = c.loop-part.part-index in
    let part : Parted = c.part-item.result in
    let l = c.loop-part-test.true in
    let f : Parted → ℕ = λ p. novel_steps (given_to t pool p) p.log in
    let one : sum_by f (part ∷ []) ≡ f part = omega arith in
    let sum : novel_in t pool (take (i + 1) xs) ≡ novel_in t pool (take i xs) + f part =
    ap (novel_in t pool) (take_more xs i part l ∙ ap (λ (p : Parted). take i xs ++ p ∷ []) (sym c.part-item.is)) ∙ sum_by-append f (take i xs) (part ∷ []) ∙ ap (λ n. novel_in t pool (take i xs) + n) one in
    let log = All-contains (λ (p : Parted). IsSearchLog (given_to t pool p) p.log) xs part searched (i, l, sym c.part-item.is) in
    let here : c.novel_steps_of.result ≡ f part = c.novel_steps_of.ensures t.cnf.clauses pool all no_empty log.novel in
    let before : novel_in t pool (take i xs) + c.loop-part.left ≡ c.args.budget = c.loop-part.invariant t pool all no_empty searched (omega arith) in
    let left = c.saturating_sub-left.ensures in
    omega arith

pub returns : goal.returns
returns c = λ t pool all no_empty searched few.
    let xs = c.args.parts.now in
    let i = c.loop-part.part-index in
    let whole : take i xs ≡ xs = take_all i xs (let f = c.loop-part-test.false in omega arith) in
    let now : novel_in t pool (take i xs) ≡ novel_in t pool xs = ap (novel_in t pool) whole in
    let h = c.loop-part.invariant t pool all no_empty searched (omega arith) in
    omega arith
