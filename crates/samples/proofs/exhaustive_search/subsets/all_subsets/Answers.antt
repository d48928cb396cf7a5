use Rattle.std.proofs.Common.{◌≡◌, ◌≢◌, ◌++◌, ◌∙◌, ◌↔◌, ℕ, List, map, length, get_or, All, AllPairs, Contains, ap, sym, subst, arith}
use Rattle.std.proofs.lemmas.List.Elements.{Contains-get_or}
use Rattle.samples.specs.Exhaustive.Subsets.{IsRisingBelow}
use Rattle.samples.proofs.Exhaustive.SubsetLemmas.{with, subsets, has_subset, subsets_are, subsets_once, subsets_more, subsets_few}
use Rattle.samples.proofs.exhaustive_search.subsets.all_subsets.Goals as goal

pub add_with-requires : goal.add_with-requires
add_with-requires c =
    subst (All (IsRisingBelow c.loop-number.number)) (sym c.loop-number.invariant) (λ k d l. has_subset c.loop-number.number (get_or (subsets c.loop-number.number) k d) (Contains-get_or (subsets c.loop-number.number) k d l))

pub loop-number-preserved : goal.loop-number-preserved
loop-number-preserved c =
    let n = c.loop-number.number in
    c.in_ok-add_with.ensures ∙ ap (λ xs. xs ++ map (with n) xs) c.loop-number.invariant ∙ sym (subsets_more n)

pub returns-clause-all : goal.returns-clause-all
returns-clause-all c =
    let last : c.loop-number.number ≡ c.args.cells = let h = c.loop-number-test.false in let g = c.loop-number.auto.number-end in omega arith in
    let done : c.loop-number.sets.items ≡ subsets c.args.cells = c.loop-number.invariant ∙ ap subsets last in
    subst (λ (xs : List (List ℕ)). (s : List ℕ) → Contains xs s ↔ IsRisingBelow c.args.cells s) (sym done) (subsets_are c.args.cells)

pub returns-clause-once : goal.returns-clause-once
returns-clause-once c =
    let last : c.loop-number.number ≡ c.args.cells = let h = c.loop-number-test.false in let g = c.loop-number.auto.number-end in omega arith in
    let done : c.loop-number.sets.items ≡ subsets c.args.cells = c.loop-number.invariant ∙ ap subsets last in
    subst (λ (xs : List (List ℕ)). AllPairs (λ s t. s ≢ t) xs) (sym done) (subsets_once c.args.cells)

pub returns-clause-few : goal.returns-clause-few
returns-clause-few c =
    let last : c.loop-number.number ≡ c.args.cells = let h = c.loop-number-test.false in let g = c.loop-number.auto.number-end in omega arith in
    let done = ap length (c.loop-number.invariant ∙ ap subsets last) in
    let h = subsets_few c.args.cells c.requires in omega arith
