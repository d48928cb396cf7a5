-- A matrix squared some times.
use Rattle.std.proofs.Common.{◌≡◌, ℕ, zero, suc, ◌+◌, ◌-◌, ◌*◌, ◌/◌, ◌≤◌, List, Contains, length, sym, subst, arith}
use Rattle.std.proofs.Math.Nat.{mul-le-mul_left}
use Rattle.tuple_core.specs.declared.atom.Atom.{Atom}
use Rattle.tuple_core.specs.Operators.{Pred, United, Joined, Closed}
use Rattle.tuple_core.specs.Gains.{Same}
use Rattle.tuple_core.proofs.Congruence.{same_then, United-same, Joined-same}
use Rattle.bool_circuit.specs.Network.{Network}
use Rattle.bool_matrix.specs.Cells.{Cells, IsCells, IsOf, ThereIn, TrueIn, IsMatrixOf}
use Rattle.bool_matrix.specs.Closure.{HasFewAtoms, Short, reach}
use Rattle.bool_matrix.specs.Terms.{Meeting, joins, tuples}
use Rattle.bool_matrix.proofs.Closure.{short_one, short_twice, short_closed}
use Rattle.bool_matrix.proofs.DistinctLists.{In, tuples_distinct, tuple_there}
use Rattle.bool_matrix.proofs.JoiningPairs.{joins_bounded}
use Rattle.bool_matrix.proofs.Loops.{true_long, there_long, true_there}

reach_some : (n : ℕ) → 1 ≤ reach n
reach_some zero = omega arith
reach_some (suc n) = let h = reach_some n in omega arith

-- the pairs within reach, after one squaring more
further : (P : Pred) (n : ℕ) → Same (United (Short P (reach n)) (Joined (Short P (reach n)) (Short P (reach n)))) (Short P (reach (n + 1)))
further P n = subst (λ k. Same (United (Short P (reach n)) (Joined (Short P (reach n)) (Short P (reach n)))) (Short P (reach k))) (let e : suc n ≡ n + 1 = omega arith in e) (short_twice P (reach n) (reach_some n))

module _ (old : Network) (self : Cells) (is : IsCells self) (arity : self.arity ≡ 2) where
  pub closure_start : IsOf old self → IsMatrixOf old self 2 (λ s. Short (TrueIn old self s) (reach 0)) (Short (ThereIn self) (reach 0))
  closure_start of = record {
    arity_is = arity;
    of = of;
    value = λ s. short_one (TrueIn old self s) (true_long old self s 2 is arity);
    there = short_one (ThereIn self) (there_long self 2 is arity);
  }

  pub closure_step : (mid new : Network) (walks next : Cells) (n : ℕ)
      → IsMatrixOf mid walks 2 (λ s. Short (TrueIn old self s) (reach n)) (Short (ThereIn self) (reach n))
      → IsMatrixOf new next 2 (λ s. United (TrueIn mid walks s) (Joined (TrueIn mid walks s) (TrueIn mid walks s))) (United (ThereIn walks) (Joined (ThereIn walks) (ThereIn walks)))
      → IsMatrixOf new next 2 (λ s. Short (TrueIn old self s) (reach (n + 1))) (Short (ThereIn self) (reach (n + 1)))
  closure_step mid new walks next n g h = record {
    arity_is = h.arity_is;
    of = h.of;
    value = λ s. same_then (h.value s) (same_then (United-same (g.value s) (Joined-same (g.value s) (g.value s))) (further (TrueIn old self s) n));
    there = same_then h.there (same_then (United-same g.there (Joined-same g.there g.there)) (further (ThereIn self) n));
  }

  pub closure_end : (new : Network) (walks : Cells) (n : ℕ) → HasFewAtoms (reach n) (ThereIn self)
      → IsMatrixOf new walks 2 (λ s. Short (TrueIn old self s) (reach n)) (Short (ThereIn self) (reach n))
      → IsMatrixOf new walks 2 (λ s. Closed (TrueIn old self s)) (Closed (ThereIn self))
  closure_end new walks n few g = record {
    arity_is = g.arity_is;
    of = g.of;
    value = λ s. same_then (g.value s) (short_closed (TrueIn old self s) (reach n) (few.0, few.1, λ x y p. few.2 x y (true_there old self s _ p)));
    there = same_then g.there (short_closed (ThereIn self) (reach n) few);
  }

  -- a squaring costs no more than two for each two closed pairs that join
  pub squared_cost : (mid : Network) (walks : Cells) (n : ℕ) → IsCells walks → IsMatrixOf mid walks 2 (λ s. Short (TrueIn old self s) (reach n)) (Short (ThereIn self) (reach n))
      → (rows : List (List Atom)) → ((t : List Atom) → Meeting (Closed (ThereIn self)) (Closed (ThereIn self)) t → Contains rows t) → joins (tuples walks) (tuples walks) ≤ length rows
  squared_cost mid walks n cells g rows has =
      let apart = tuples_distinct walks.entries cells.ascending in
      let inside : (t : List Atom) → In t (tuples walks) → Closed (ThereIn self) t = λ t i. let s = g.there.to t (tuple_there walks t i) in (s.0, s.1, s.2, s.3, s.4) in
      joins_bounded (Closed (ThereIn self)) (Closed (ThereIn self)) 2 (tuples walks) (tuples walks) rows inside inside (λ t i. there_long walks 2 cells g.arity_is t (tuple_there walks t i)) apart apart has

-- while the length doubles, what is left to reach halves
pub halved : (atoms r q left : ℕ) → atoms ≤ r * left → q ≡ r + r → atoms ≤ q * (left - left / 2)
halved atoms r q left h e =
    let half : left ≤ (left - left / 2) + (left - left / 2) = omega arith in
    let m = mul-le-mul_left r half in
    subst (λ k. atoms ≤ k * (left - left / 2)) (sym e) (omega (arith, h, m))

pub few_reached : (P : Pred) (atoms r left : ℕ) → HasFewAtoms atoms P → atoms ≤ r * left → left ≤ 1 → HasFewAtoms r P
few_reached P atoms r left few h one =
    let m = mul-le-mul_left r one in
    (few.0, (let l = few.1 in omega arith), few.2)
