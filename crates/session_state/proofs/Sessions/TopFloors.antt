-- What a session on a problem has at its top floor.
use Rattle.std.proofs.Common.{◌≡◌, ◌≤◌, ◌<◌, inl, inr, ℕ, cond, List, [], ◌∷◌, map, filter, length, slice_index_or, bytes_eq, All, Contains, sym, subst, arith}
use Rattle.std.proofs.lemmas.Bool.{cases_Bool}
use Rattle.std.proofs.lemmas.List.{length-map}
use Rattle.std.proofs.lemmas.List.Elements.{All-nil, All-cons, All-head, All-tail, All-contains, Contains-push}
use Rattle.std.proofs.lemmas.Slice.Eq.{bytes_eq-Decides}
use Rattle.rel_formula.specs.Bounds.{Bounded, cells_of}
use Rattle.rel_formula.specs.Instance.{AreCells, IsInstance}
use Rattle.rel_formula.proofs.OneSetOfAtoms.{filter_shorter}
use Rattle.swap_symmetry.specs.Due.{IsDue}
use Rattle.session_rules.specs.States.{State, ShownAt, top_floor, shown_at, shown_here, IsCurrent}
use Rattle.session_rules.specs.Sound.{IsFloor, IsSound}
use Rattle.session_rules.specs.Proofs.{IsCopy}
use Rattle.session_state.specs.Store.Stored.{Stored, copies_at}
use Rattle.session_state.specs.Sessions.Fits.{FitsProblem}

-- the top floor has cells of the problem
top_cells : (p : Bounded) (above : List (List ℕ)) → All (IsFloor p) above → AreCells p (slice_index_or above 0 [])
top_cells p [] all = All-nil (λ n. n < length (cells_of p))
top_cells p (floor ∷ above) all = (All-head (IsFloor p) floor above all).scenario.cells

pub floor_here : (p : Bounded) (s : State) → IsSound p s → AreCells p (top_floor s)
floor_here p s sound = top_cells p s.above sound.floors

abbrev pub CopyAt : Bounded → State → ShownAt → Type 0
CopyAt p s x = IsCopy p x.floor (shown_at x.floor s) x.scenario

-- those of one floor
module _ (p : Bounded) (s : State) (floor : List ℕ) where
  abbrev at_floor : List ShownAt → List (List ℕ)
  at_floor xs = map (λ (x : ShownAt). x.scenario) (filter (λ (x : ShownAt). bytes_eq x.floor floor) xs)

  copies_of_floor : (xs : List ShownAt) → All (CopyAt p s) xs → All (IsCopy p floor (shown_at floor s)) (at_floor xs)
  copies_of_floor [] all = All-nil (IsCopy p floor (shown_at floor s))
  copies_of_floor (x ∷ xs) all =
      let Q : List (List ℕ) → Type 0 = All (IsCopy p floor (shown_at floor s)) in
      let rest = copies_of_floor xs (All-tail (CopyAt p s) x xs all) in
      let there = filter (λ (x : ShownAt). bytes_eq x.floor floor) xs in
      elim (cases_Bool (bytes_eq x.floor floor)) [
        | inl t ↦
            let same : x.floor ≡ floor = (bytes_eq-Decides x.floor floor).0 t in
            let one : IsCopy p floor (shown_at floor s) x.scenario = subst (λ (f : List ℕ). IsCopy p f (shown_at f s) x.scenario) same (All-head (CopyAt p s) x xs all) in
            subst (λ b. Q (map (λ (x : ShownAt). x.scenario) (cond b (x ∷ there) there))) (sym t) (All-cons (IsCopy p floor (shown_at floor s)) x.scenario (at_floor xs) one rest)
        | inr f ↦ subst (λ b. Q (map (λ (x : ShownAt). x.scenario) (cond b (x ∷ there) there))) (sym f) rest
      ]

pub copies_here : (p : Bounded) (kept : Stored) → FitsProblem p kept → All (IsCopy p (top_floor kept.state) (shown_here kept.state)) (copies_at (top_floor kept.state) kept)
copies_here p kept fits = copies_of_floor p kept.state (top_floor kept.state) kept.copies fits.copies

-- those of one floor are at most as many as all
pub few_at : (floor : List ℕ) (xs : List ShownAt) → length (map (λ (x : ShownAt). x.scenario) (filter (λ (x : ShownAt). bytes_eq x.floor floor) xs)) ≤ length xs
few_at floor xs =
    let picked : List ShownAt = filter (λ (x : ShownAt). bytes_eq x.floor floor) xs in
    let same : length (map (λ (x : ShownAt). x.scenario) picked) ≡ length picked = length-map picked (λ (x : ShownAt). x.scenario) in
    let fewer : length picked ≤ length xs = filter_shorter (λ (x : ShownAt). bytes_eq x.floor floor) xs in
    omega arith

-- the current scenario is an instance
pub current_here : (p : Bounded) (s : State) (current : List ℕ) → IsSound p s → IsCurrent s current → IsInstance p current
current_here p s current sound is =
    let shown : Contains (shown_here s) current = subst (λ (xs : List (List ℕ)). Contains xs current) (sym is.1) (Contains-push is.0 current) in
    (All-contains (IsDue p (top_floor s)) (shown_here s) current (sound.due (top_floor s)) shown).minimal.instance_of
