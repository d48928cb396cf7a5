-- How many clauses a search at a floor has.
use Rattle.std.proofs.Common.{◌≡◌, ◌<◌, ◌≤◌, ◌+◌, ◌*◌, ℕ, suc, Bool, List, [], ◌∷◌, ◌++◌, map, filter, flat_map, length, All, AllPairs, subst, ap, arith, length-append}
use Rattle.std.proofs.lemmas.List.{length-map}
use Rattle.std.proofs.lemmas.List.Elements.{All-nil, All-cons, All-filter}
use Rattle.cnf_core.specs.declared.literal.Lit.{Lit}
use Rattle.rel_formula.specs.Bounds.{Bounded, cells_of}
use Rattle.rel_formula.specs.Instance.{AreCells}
use Rattle.rel_formula.proofs.OneSetOfAtoms.{filter_shorter}
use Rattle.translation_rules.specs.Free.{is_free_of}
use Rattle.translation_rules.specs.Translation.{SwapClauses, Translated, clauses_of_swaps}
use Rattle.translation_rules.specs.Locals.{literal_of, units_of, absence_in, locals_of}
use Rattle.translation_rules.proofs.Locals.Cells.{few_cells}
use Rattle.translation.specs.Numbered.{pair_of, AreNumbered}
use Rattle.translation.specs.Kept.{IsTranslation}
use Rattle.translation.proofs.NeighbourCounts.{few_pairs}

-- lists of at most so many elements, put one after the other
flat_few : {X Y : Type 0} (f : X → List Y) (xs : List X) → All (λ x. length (f x) ≤ 12289) xs → length (flat_map f xs) ≤ length xs * 12289
flat_few f [] all = omega arith
flat_few f (x ∷ xs) all =
    let here : length (f x) ≤ 12289 = all 0 x (omega arith) in
    let rest = flat_few f xs (λ k d l. all (suc k) d (omega arith)) in
    let both : length (flat_map f (x ∷ xs)) ≡ length (f x) + length (flat_map f xs) = length-append (f x) (flat_map f xs) in
    omega arith

each_few : (p : Bounded) → length (cells_of p) ≤ 4096 → (last : ℕ) (xs : List SwapClauses) → AreNumbered p last xs → All (λ (x : SwapClauses). length x.cnf.clauses ≤ 12289) xs
each_few p few last [] all = All-nil (λ (x : SwapClauses). length x.cnf.clauses ≤ 12289)
each_few p few last (x ∷ xs) (next, rest) =
    All-cons (λ (x : SwapClauses). length x.cnf.clauses ≤ 12289) x xs (let h = next.few_clauses in omega arith) (each_few p few x.cnf.vars xs rest)

-- those of the swaps, of the floor and of the blocked scenarios
pub few_locals : (t : Translated) → IsTranslation t → length (cells_of t.problem) ≤ 4096 → (floor : List ℕ) → length floor ≤ length (cells_of t.problem) → (blocked : List (List ℕ)) →
    length (locals_of t floor blocked) ≤ 800000 + length blocked
few_locals t is cells floor few blocked =
    let free : SwapClauses → Bool = λ x. is_free_of t.problem floor x.first x.second in
    let swaps = filter free t.swaps in
    let of_swaps = clauses_of_swaps (is_free_of t.problem floor) t.swaps in
    let pairs = few_pairs t.problem (map pair_of t.swaps) is.translatable.few_atoms is.all in
    let as_many : length (map pair_of t.swaps) ≡ length t.swaps = length-map t.swaps pair_of in
    let picked : length swaps ≤ length t.swaps = filter_shorter free t.swaps in
    let each : All (λ (x : SwapClauses). length x.cnf.clauses ≤ 12289) swaps = All-filter free (λ (x : SwapClauses). length x.cnf.clauses ≤ 12289) t.swaps (each_few t.problem cells t.cnf.vars t.swaps is.numbered) in
    let one : length of_swaps ≤ length swaps * 12289 = flat_few (λ (x : SwapClauses). x.cnf.clauses) swaps each in
    let two : length (units_of floor) ≡ length floor = length-map floor (λ cell. literal_of cell ∷ []) in
    let three : length (map absence_in blocked) ≡ length blocked = length-map blocked absence_in in
    let front : length (of_swaps ++ units_of floor) ≡ length of_swaps + length (units_of floor) = length-append of_swaps (units_of floor) in
    let all : length (locals_of t floor blocked) ≡ length (of_swaps ++ units_of floor) + length (map absence_in blocked) = length-append (of_swaps ++ units_of floor) (map absence_in blocked) in
    omega arith

-- so there are few, of a problem whose cells are few
pub few_clauses : (t : Translated) → IsTranslation t → (p : Bounded) → p ≡ t.problem → length (cells_of p) ≤ 4096 → (floor : List ℕ) → AllPairs (λ m n. m < n) floor → AreCells t.problem floor → (blocked : List (List ℕ)) →
    (clauses : List (List Lit)) → clauses ≡ locals_of t floor blocked → length clauses ≤ 800000 + length blocked
few_clauses t is p same cells floor rising inside blocked clauses e =
    let few : length (cells_of t.problem) ≤ 4096 = subst (λ (q : Bounded). length (cells_of q) ≤ 4096) same cells in
    let h = few_locals t is few floor (few_cells (length (cells_of t.problem)) floor rising inside) blocked in
    let n : length clauses ≡ length (locals_of t floor blocked) = ap length e in
    omega arith
