use Rattle.std.proofs.Common.{◌↔◌, ◌∙◌, Bool, ℕ, List, IsTrue, Contains, refl, sym, subst, Ok, Err, Result}
use Rattle.std.specs.Prelude.{is_ok}
use Rattle.std.specs.List.Sorted.{IsBinarySearchResult}
use Rattle.std.specs.Ordering.{nat_cmp}
use Rattle.std.proofs.lemmas.List.{get_or_default}
use Rattle.std.proofs.lemmas.List.Sorted.{searched}
use Rattle.rel_formula.proofs.RisingNumbers.{Rises, never_fall, absent}
use Rattle.rel_formula.proofs.scenario.Scenario.has.Goals as goal

told : (xs : List ℕ) (x : ℕ) (r : Result ℕ ℕ) → Rises xs → IsBinarySearchResult (λ y. nat_cmp y x) xs r → IsTrue (is_ok r) ↔ Contains xs x
told xs x (Ok i) up at =
    let found = searched xs x (Ok i) at (never_fall xs up) in
    (λ e. (i, found.0, sym (get_or_default xs i 0 x found.0) ∙ found.1), λ c. refl)
told xs x (Err i) up at =
    let found = searched xs x (Err i) at (never_fall xs up) in
    (λ e. absurd (cc), λ c. absurd (absent xs x i up found.0 found.1 found.2 c))

pub returns : goal.returns
returns c =
    let S = c.deref.result.now in
    let up : Rises S = subst Rises (sym c.deref.ensures.value) c.self.invariant in
    let here = told S c.args.number c.binary_search.result up c.binary_search.ensures.position in
    let items = subst (λ (xs : List ℕ). IsTrue (is_ok c.binary_search.result) ↔ Contains xs c.args.number) c.deref.ensures.value here in
    let value = subst (λ (xs : List ℕ). IsTrue (is_ok c.binary_search.result) ↔ Contains xs c.args.number) c.self.view_is items in
    subst (λ (b : Bool). IsTrue b ↔ Contains c.args.self.now c.args.number) (sym c.is_ok.ensures.value) value
