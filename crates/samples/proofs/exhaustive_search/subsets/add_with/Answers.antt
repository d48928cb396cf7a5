use Rattle.std.proofs.Common.{◌≡◌, ◌<◌, ◌≤◌, ◌++◌, ◌∷◌, [], ◌∙◌, ℕ, List, map, take, length, get_or, ap, sym, subst, arith}
use Rattle.std.proofs.lemmas.List.{take_all}
use Rattle.samples.specs.Exhaustive.Subsets.{IsRisingBelow}
use Rattle.samples.proofs.Exhaustive.SubsetLemmas.{with, front_of, with_more}
use Rattle.samples.proofs.exhaustive_search.subsets.add_with.Goals as goal

pub with_cell-requires : goal.with_cell-requires
with_cell-requires c =
    let old = c.args.sets.now.items in
    let i = c.loop-place.place in
    let long = c.args.sets.now.ok in
    let l : i < length old = let h = c.loop-place-test.true in let e = c.len-before.ensures in omega arith in
    subst (IsRisingBelow c.args.number) (sym (c.index.ensures ∙ front_of old (map (with c.args.number) (take i old)) c.loop-place.sets.items i c.index.result.now c.loop-place.invariant l)) (c.requires i c.index.result.now l)

pub loop-place-preserved : goal.loop-place-preserved
loop-place-preserved c =
    let old = c.args.sets.now.items in
    let i = c.loop-place.place in
    let n = c.args.number in
    let x = c.index.result.now in
    let long = c.args.sets.now.ok in
    let l : i < length old = let h = c.loop-place-test.true in let e = c.len-before.ensures in omega arith in
    let at : x ≡ get_or old i x = c.index.ensures ∙ front_of old (map (with n) (take i old)) c.loop-place.sets.items i x c.loop-place.invariant l in
    c.in_ok-push.ensures.items ∙ ap (λ (y : List ℕ). c.loop-place.sets.items ++ y ∷ []) (c.in_ok-with.ensures ∙ ap (with n) at)
    ∙ with_more n old c.loop-place.sets.items i x l c.loop-place.invariant

pub returns : goal.returns
returns c =
    let old = c.args.sets.now.items in
    let long = c.args.sets.now.ok in
    let l : length old ≤ c.loop-place.place = let h = c.loop-place-test.false in let e = c.len-before.ensures in omega arith in
    c.loop-place.invariant ∙ ap (λ xs. old ++ map (with c.args.number) xs) (take_all c.loop-place.place old l)
