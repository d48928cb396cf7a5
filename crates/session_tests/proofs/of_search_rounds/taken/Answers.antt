use Rattle.std.proofs.Common.{◌≡◌, ◌++◌, ◌∷◌, [], ℕ, List, All, sym, subst}
use Rattle.std.proofs.lemmas.List.Elements.{All-push, Contains-append_left}
use Rattle.rel_formula.specs.Bounds.{Bounded}
use Rattle.swap_symmetry.specs.Due.{IsDue}
use Rattle.session_rules.specs.Proofs.{IsCopy}
use Rattle.session_tests.proofs.of_search_rounds.taken.Goals as goal

-- a copy stays one where more was shown
copy_stays : (p : Bounded) (floor : List ℕ) (shown : List (List ℕ)) (s copy : List ℕ) → IsCopy p floor shown copy → IsCopy p floor (shown ++ s ∷ []) copy
copy_stays p floor shown s copy is = record {
  minimal = is.minimal;
  unsettled = is.unsettled;
  renamed = (is.renamed.0, Contains-append_left shown (s ∷ []) is.renamed.0 is.renamed.1, is.renamed.2);
}

pub returns-in_ok-push-in-Shown-clause-shown : goal.returns-in_ok-push-in-Shown-clause-shown
returns-in_ok-push-in-Shown-clause-shown c =
    let due = IsDue c.args.made.now.problem c.args.floor.now in
    subst (All due) (sym c.in_ok-push-in-Shown.ensures.items) (All-push due c.args.shown.now.items c.in-Shown.scenario c.requires.known (c.requires.shown c.in-Shown.scenario c.in-Shown.is))

pub returns-in_ok-push-in-Shown-clause-copies : goal.returns-in_ok-push-in-Shown-clause-copies
returns-in_ok-push-in-Shown-clause-copies c = λ copy is.
    let p = c.args.made.now.problem in
    let floor = c.args.floor.now in
    subst (λ (was : List (List ℕ)). IsCopy p floor was copy) (sym c.in_ok-push-in-Shown.ensures.items) (copy_stays p floor c.args.shown.now.items c.in-Shown.scenario copy is)
