-- A descent on its way.
use Rattle.std.proofs.Common.{◌≡◌, ◌↔◌, inl, inr, ◌≤◌, ◌+◌, ◌-◌, ℕ, Bool, List, [], ◌∷◌, ◌++◌, map, length, get_or, sum_by, All, AllPairs, refl, sym, ◌∙◌, ap, subst, arith}
use Rattle.std.proofs.lemmas.List.{map-append, length_push}
use Rattle.std.proofs.lemmas.List.Elements.{All-push, All-nil}
use Rattle.std.proofs.lemmas.List.Quantifiers.{all_pairs_push}
use Rattle.std.proofs.lemmas.List.Sums.{sum_by-append}
use Rattle.cnf_core.specs.Valuation.{Satisfies}
use Rattle.refutation_check.specs.declared.log.Step.{Step as LogStep}
use Rattle.refutation_check.specs.SearchLog.{IsSearchLog, IsAllNovel, HasNoEmpty, novel_steps}
use Rattle.refutation_check.specs.Part.{Parted}
use Rattle.refutation_check.proofs.Novelty.{novel_at_most, novel_all}
use Rattle.rel_formula.specs.Instance.{AreCells, IsScenario, IsInstance, IsMinimalAbove, Includes}
use Rattle.translation_rules.specs.Translation.{Translated, IsSatisfiableAt}
use Rattle.translation_rules.specs.Parts.{AreSearched, given_to, novel_in}
use Rattle.translation_rules.specs.Descents.{IsProperPart, IsSmaller, Lowering, IsLowering, descent_locals}
use Rattle.translation_rules.proofs.Tests.{includes_or_not, cells_within}
use Rattle.sat_core.specs.Count.{raised}
use Rattle.sat_core.proofs.Counts.{all_novel}
use Rattle.minimiser.specs.declared.descent.Down.{Down}
use Rattle.minimiser.specs.declared.descent.Down.TheVariants.{Minimal, Spent}
use Rattle.minimiser.specs.Down.{IsDescent, IsRight, IsRightOn}

-- the searches so far lead from the start to this scenario, and so much of the budget is left
pub record Going (t : Translated) (pool : List LogStep) (floor start : List ℕ) (budget : ℕ) (scenario : List ℕ) (left : ℕ) (parts : List Parted) : Type 0 where
  pub lowerings : List Lowering
  pub all_parts : parts ≡ map (λ x. x.part) lowerings
  pub each : All (IsLowering t.problem floor) lowerings
  pub shrinking : AllPairs (λ x y. IsProperPart x.from y.from) lowerings
  pub below : All (λ x. IsProperPart x.from scenario) lowerings
  pub inside : All (λ x. Includes start x.from) lowerings
  pub first : (lowerings ≡ [] → scenario ≡ start) × ((x : Lowering) (others : List Lowering) → lowerings ≡ x ∷ others → x.from ≡ start)
  pub instance_of : IsInstance t.problem scenario
  pub above : Includes scenario floor
  pub within : Includes start scenario
  pub searched : AreSearched t pool parts
  pub spent : novel_in t pool parts + left ≡ budget

pub set_out : (t : Translated) (pool : List LogStep) (floor start : List ℕ) (budget : ℕ) → IsInstance t.problem start → Includes start floor → Going t pool floor start budget start budget []
set_out t pool floor start budget is above = record {
  lowerings = [];
  all_parts = refl;
  each = All-nil (IsLowering t.problem floor);
  shrinking = λ i j d less l. absurd (omega arith);
  below = All-nil (λ (x : Lowering). IsProperPart x.from start);
  inside = All-nil (λ (x : Lowering). Includes start x.from);
  first = (λ e. refl, λ x others e. absurd (let k = ap length e in omega arith));
  instance_of = is;
  above = above;
  within = λ n c. c;
  searched = All-nil (λ (part : Parted). IsSearchLog (given_to t pool part) part.log);
  spent = omega arith;
}

-- no search is a descent
pub nothing_done : (t : Translated) (pool : List LogStep) (floor start : List ℕ) (budget : ℕ) → IsInstance t.problem start → Includes start floor → IsDescent t pool floor start budget []
nothing_done t pool floor start budget is above =
    let going = set_out t pool floor start budget is above in
    record {
      descent = record {
        lowerings = going.lowerings;
        all_parts = going.all_parts;
        down = record { lowerings = going.each; shrinking = going.shrinking };
        first = going.first.1;
        within = going.inside;
      };
      searched = going.searched;
      few = let all = going.spent in omega arith;
    }

-- the first of a list with one more behind it
first_of_push : (xs : List Lowering) (y : Lowering) (start : List ℕ) → (xs ≡ [] → y.from ≡ start) → ((x : Lowering) (others : List Lowering) → xs ≡ x ∷ others → x.from ≡ start) →
    (x : Lowering) (others : List Lowering) → xs ++ y ∷ [] ≡ x ∷ others → x.from ≡ start
first_of_push [] y start none some x others e = subst (λ (z : Lowering). z.from ≡ start) (ap (λ zs. get_or zs 0 y) e) (none refl)
first_of_push (z ∷ zs) y start none some x others e = subst (λ (w : Lowering). w.from ≡ start) (ap (λ ws. get_or ws 0 y) e) (some z zs refl)

smaller_still : (s m part : List ℕ) → IsProperPart s m → IsProperPart m part → IsProperPart s part
smaller_still s m part one two = (λ n c. one.0 n (two.0 n c), λ back. two.1 (λ n c. back n (one.0 n c)))

module _ (t : Translated) (pool : List LogStep) (floor start : List ℕ) (budget : ℕ) (scenario : List ℕ) (left : ℕ) (parts : List Parted) (going : Going t pool floor start budget scenario left parts)
    (part : Parted) (local : part.local ≡ descent_locals t.problem floor scenario) (log : IsSearchLog (given_to t pool part) part.log) (few : length part.log ≤ left) where
  lowering : Lowering
  lowering = record { from = scenario; part = part }

  more : List Lowering
  more = going.lowerings ++ lowering ∷ []

  more_parts : parts ++ part ∷ [] ≡ map (λ (x : Lowering). x.part) more
  unfolding more lowering
  more_parts = ap (λ ps. ps ++ part ∷ []) going.all_parts ∙ sym (map-append (λ (x : Lowering). x.part) going.lowerings (lowering ∷ []))

  more_each : All (IsLowering t.problem floor) more
  unfolding more lowering
  more_each = All-push (IsLowering t.problem floor) going.lowerings lowering going.each (record { instance_of = going.instance_of; above = going.above; local = local })

  more_shrinking : AllPairs (λ (x y : Lowering). IsProperPart x.from y.from) more
  unfolding more lowering
  more_shrinking = all_pairs_push (λ (x y : Lowering). IsProperPart x.from y.from) going.lowerings lowering going.shrinking going.below

  more_inside : All (λ (x : Lowering). Includes start x.from) more
  unfolding more lowering
  more_inside = All-push (λ (x : Lowering). Includes start x.from) going.lowerings lowering going.inside going.within

  more_first : (x : Lowering) (others : List Lowering) → more ≡ x ∷ others → x.from ≡ start
  unfolding more lowering
  more_first = first_of_push going.lowerings lowering start going.first.0 going.first.1

  more_searched : AreSearched t pool (parts ++ part ∷ [])
  more_searched = All-push (λ (p : Parted). IsSearchLog (given_to t pool p) p.log) parts part going.searched log

  more_novel : novel_in t pool (parts ++ part ∷ []) ≡ novel_in t pool parts + novel_steps (given_to t pool part) part.log
  more_novel =
      let f : Parted → ℕ = λ p. novel_steps (given_to t pool p) p.log in
      let one : sum_by f (part ∷ []) ≡ f part = omega arith in
      sum_by-append f parts (part ∷ []) ∙ ap (λ n. sum_by f parts + n) one

  -- what was done with the search
  pub ended : IsDescent t pool floor start budget (parts ++ part ∷ [])
  unfolding more
  ended = record {
    descent = record {
      lowerings = more;
      all_parts = more_parts;
      down = record { lowerings = more_each; shrinking = more_shrinking };
      first = more_first;
      within = more_inside;
    };
    searched = more_searched;
    few = (let e = more_novel in let m = novel_at_most (given_to t pool part) part.log in let s = going.spent in omega arith);
  }

  -- all of the budget is spent
  pub spent_all : length part.log ≡ left → IsAllNovel (given_to t pool part) part.log → novel_in t pool (parts ++ part ∷ []) ≡ budget
  spent_all all novel = let e = more_novel in let m = novel_all (given_to t pool part) part.log novel in let s = going.spent in omega arith

  -- a count that the search raised by no more than its novel steps
  pub counted : (first old new learnt : ℕ) → new ≡ raised old learnt → learnt ≤ novel_steps (given_to t pool part) part.log → old ≤ first + novel_in t pool parts → new ≤ first + novel_in t pool (parts ++ part ∷ [])
  counted first old new learnt rose all before = omega (arith, more_novel, rose, all, before)

  -- on to a smaller instance
  pub next : (s : List ℕ) → IsSmaller t.problem floor scenario s → HasNoEmpty part.log → Going t pool floor start budget s (left - length part.log) (parts ++ part ∷ [])
  unfolding more lowering
  next s smaller none = record {
    lowerings = more;
    all_parts = more_parts;
    each = more_each;
    shrinking = more_shrinking;
    below = All-push (λ (x : Lowering). IsProperPart x.from s) going.lowerings lowering (λ k d l. smaller_still (get_or going.lowerings k d).from scenario s (going.below k d l) smaller.proper) smaller.proper;
    inside = more_inside;
    first = (λ e. absurd (let k = ap length e in let l = length_push going.lowerings lowering in omega arith), more_first);
    instance_of = smaller.instance_of;
    above = smaller.above;
    within = λ n c. going.within n (smaller.proper.0 n c);
    searched = more_searched;
    spent =
        let e = more_novel in
        let m = novel_all (given_to t pool part) part.log (all_novel (given_to t pool part) part.log log.novel none) in
        let k = going.spent in
        omega arith;
  }

-- the clauses of a descent say what is smaller
abbrev pub SaysWhatIsSmaller : Translated → Type 0
SaysWhatIsSmaller t = (floor scenario : List ℕ) → AreCells t.problem floor → AreCells t.problem scenario → (s : List ℕ) → IsScenario t.problem s →
    IsSmaller t.problem floor scenario s ↔ IsSatisfiableAt t.problem s (t.cnf.clauses ++ descent_locals t.problem floor scenario)

-- where nothing smaller can be found, the scenario is minimal
pub minimal : (t : Translated) → SaysWhatIsSmaller t → (floor scenario : List ℕ) → IsInstance t.problem scenario → Includes scenario floor →
    ((v : ℕ → Bool) → ¬ Satisfies v (t.cnf.clauses ++ descent_locals t.problem floor scenario)) → IsMinimalAbove t.problem floor scenario
minimal t says floor scenario instance above refuted = record {
  instance_of = instance;
  above = above;
  least = λ u is over within. elim (includes_or_not u scenario) [
    | inl all ↦ all
    | inr not_all ↦
        let cells = instance.scenario.cells in
        let sat = (says floor scenario (cells_within t.problem scenario floor cells above) cells u is.scenario).0 (record { instance_of = is; above = over; proper = (within, not_all) }) in
        absurd (refuted sat.valuation sat.satisfied)
  ];
}

-- a descent with parts is one that may have none
pub right_on : (t : Translated) (pool : List LogStep) (floor start : List ℕ) (budget : ℕ) (d : Down) → IsRight t pool floor start budget d → IsRightOn t pool floor start budget d
right_on t pool floor start budget (Minimal scenario parts) right = (right.0, right.1, inr right.2)
right_on t pool floor start budget (Spent parts) right = right
