-- What the local clauses of a search say of a valuation with the cells of a scenario, and of the scenario.
use Rattle.std.proofs.Common.{◌≡◌, ◌↔◌, inl, inr, ◌<◌, ℕ, Bool, true, false, not, ◌||◌, List, [], ◌∷◌, ◌++◌, map, length, All, Contains, IsTrue, refl, sym, ap, subst}
use Rattle.std.specs.Prelude.{nat_eq}
use Rattle.std.specs.List.{list_any, range_with_len}
use Rattle.std.proofs.lemmas.Bool.{cases_Bool}
use Rattle.std.proofs.lemmas.List.Elements.{All-nil, All-cons, All-append, All-contains}
use Rattle.tuple_core.specs.declared.atom.Atom.{Atom}
use Rattle.cnf_core.specs.declared.literal.Lit.{Lit}
use Rattle.cnf_core.specs.Literal.{negation_of}
use Rattle.cnf_core.specs.Valuation.{literal_value, clause_value, Satisfies}
use Rattle.rel_formula.specs.Bounds.{Bounded, cells_of}
use Rattle.rel_formula.specs.Instance.{AreCells, IsScenario, IsInstance, Includes}
use Rattle.rel_formula.proofs.OpenCells.{cons_first, filter_has, has_filter, map_has, has_map}
use Rattle.swap_symmetry.specs.Swaps.{IsSettledBeside, NoSwapIsEarlier}
use Rattle.translation_rules.specs.Free.{IsPicked, is_free_of}
use Rattle.translation_rules.specs.Translation.{Translated, StandsFor, HasCellsOf, IsSatisfiableAt, var_of, clauses_of_swaps}
use Rattle.translation_rules.specs.Locals.{IsLeft, literal_of, units_of, absence_in, locals_of}
use Rattle.translation_rules.specs.Descents.{IsSmaller, outside, descent_locals}
use Rattle.translation_rules.proofs.Tests.{any_has, has_any, any_number, in_or_not, front, back, from_each, in_range, range_in}

alone : (b : Bool) → (b || false) ≡ true → b ≡ true
alone true h = refl
alone false h = absurd cc

or_first : (b : Bool) → b ≡ true → (b || false) ≡ true
or_first true h = refl
or_first false h = absurd cc

not_true : (b : Bool) → b ≡ true → not b ≡ true → ⊥
not_true true h k = absurd cc
not_true false h k = absurd cc

not_false : (b : Bool) → (b ≡ true → ⊥) → not b ≡ true
not_false true h = absurd (h refl)
not_false false h = refl

module _ (p : Bounded) (s : List ℕ) (v : ℕ → Bool) (has : HasCellsOf p s v) where
  abbrev Holds : List Lit → Type 0
  Holds c = IsTrue (clause_value v c)

  below : (cells : List ℕ) → AreCells p cells → (n : ℕ) → Contains cells n → n < length (cells_of p)
  below cells are n c = All-contains (λ k. k < length (cells_of p)) cells n are c

  -- the units of cells say that each is there
  pub units_hold : (cells : List ℕ) → AreCells p cells → Includes s cells ↔ Satisfies v (units_of cells)
  units_hold cells are = (
    λ includes. from_each Holds (units_of cells) (λ c h.
        let f = map_has (λ cell. literal_of cell ∷ []) cells c h in
        subst Holds (sym f.2) (or_first (v (var_of f.0)) ((has f.0 (below cells are f.0 f.1)).1 (includes f.0 f.1)))),
    λ holds n c.
        let unit = All-contains Holds (units_of cells) (literal_of n ∷ []) holds (has_map (λ cell. literal_of cell ∷ []) cells n c) in
        (has n (below cells are n c)).0 (alone (v (var_of n)) unit),
  )

  -- the absence of cells says that none is there
  pub absences_hold : (cells : List ℕ) → AreCells p cells → ((n : ℕ) → Contains cells n → Contains s n → ⊥) ↔ Satisfies v (map (λ cell. negation_of (literal_of cell) ∷ []) cells)
  absences_hold cells are = (
    λ none. from_each Holds (map (λ cell. negation_of (literal_of cell) ∷ []) cells) (λ c h.
        let f = map_has (λ cell. negation_of (literal_of cell) ∷ []) cells c h in
        subst Holds (sym f.2) (or_first (not (v (var_of f.0))) (not_false (v (var_of f.0)) (λ t. none f.0 f.1 ((has f.0 (below cells are f.0 f.1)).0 t))))),
    λ holds n c there.
        let unit = All-contains Holds (map (λ cell. negation_of (literal_of cell) ∷ []) cells) (negation_of (literal_of n) ∷ []) holds (has_map (λ cell. negation_of (literal_of cell) ∷ []) cells n c) in
        not_true (v (var_of n)) ((has n (below cells are n c)).1 there) (alone (not (v (var_of n))) unit),
  )

  -- where no literal of an absence is true, each cell is there
  all_there : (b : List ℕ) → AreCells p b → clause_value v (absence_in b) ≡ false → Includes s b
  all_there b are f n c = elim (cases_Bool (v (var_of n))) [
    | inl t ↦ (has n (below b are n c)).0 t
    | inr g ↦ absurd (
        let holds : clause_value v (absence_in b) ≡ true = has_any (literal_value v) (absence_in b) (negation_of (literal_of n)) (has_map (λ cell. negation_of (literal_of cell)) b n c) (ap not g) in
        cc)
  ]

  -- the absence of some cell of a scenario says that not all are there
  pub absence_holds : (b : List ℕ) → AreCells p b → (¬ Includes s b) ↔ Holds (absence_in b)
  absence_holds b are = (
    λ not_all. elim (cases_Bool (clause_value v (absence_in b))) [ inl t ↦ t | inr f ↦ absurd (not_all (all_there b are f)) ],
    λ holds includes.
        let l = any_has (literal_value v) (absence_in b) holds in
        let c = map_has (λ cell. negation_of (literal_of cell)) b l.0 l.1 in
        not_true (v (var_of c.0)) ((has c.0 (below b are c.0 c.1)).1 (includes c.0 c.1)) (subst (λ (k : Lit). literal_value v k ≡ true) c.2 l.2),
  )

  pub blocked_hold : (blocked : List (List ℕ)) → All (AreCells p) blocked → All (λ b. ¬ Includes s b) blocked ↔ Satisfies v (map absence_in blocked)
  blocked_hold blocked are = (
    λ fresh. from_each Holds (map absence_in blocked) (λ c h.
        let f = map_has absence_in blocked c h in
        subst Holds (sym f.2) ((absence_holds f.0 (All-contains (AreCells p) blocked f.0 are f.1)).0 (All-contains (λ b. ¬ Includes s b) blocked f.0 fresh f.1))),
    λ holds. from_each (λ b. ¬ Includes s b) blocked (λ b c.
        (absence_holds b (All-contains (AreCells p) blocked b are c)).1 (All-contains Holds (map absence_in blocked) (absence_in b) holds (has_map absence_in blocked b c))),
  )

  module _ (floor scenario : List ℕ) (floor_in : AreCells p floor) (scenario_in : AreCells p scenario) (cells : AreCells p s) where
    others_has : (n : ℕ) → Contains (outside scenario (range_with_len 0 (length (cells_of p)))) n → (n < length (cells_of p)) × (Contains scenario n → ⊥)
    others_has n c =
        let f = filter_has (λ cell. not (list_any (nat_eq cell) scenario)) (range_with_len 0 (length (cells_of p))) n c in
        (in_range (length (cells_of p)) n f.0, λ d. not_true (list_any (nat_eq n) scenario) ((any_number n scenario).1 d) f.1)

    has_others : (n : ℕ) → n < length (cells_of p) → (Contains scenario n → ⊥) → Contains (outside scenario (range_with_len 0 (length (cells_of p)))) n
    has_others n l none =
        has_filter (λ cell. not (list_any (nat_eq cell) scenario)) (range_with_len 0 (length (cells_of p))) n (range_in (length (cells_of p)) n l)
        (not_false (list_any (nat_eq n) scenario) (λ t. none ((any_number n scenario).0 t)))

    -- a scenario that includes the floor and the rest includes all
    with_rest : Includes s floor → Includes s (outside floor scenario) → Includes s scenario
    with_rest above rest n c = elim (in_or_not n floor) [
      | inl d ↦ above n d
      | inr none ↦ rest n (has_filter (λ cell. not (list_any (nat_eq cell) floor)) scenario n c (not_false (list_any (nat_eq n) floor) (λ t. none ((any_number n floor).0 t))))
    ]

    rest_of : (n : ℕ) → Contains (outside floor scenario) n → Contains scenario n
    rest_of n c = (filter_has (λ cell. not (list_any (nat_eq cell) floor)) scenario n c).0

    rest_in : AreCells p (outside floor scenario)
    rest_in = from_each (λ n. n < length (cells_of p)) (outside floor scenario) (λ n c. below scenario scenario_in n (rest_of n c))

    others_in : AreCells p (outside scenario (range_with_len 0 (length (cells_of p))))
    others_in = from_each (λ n. n < length (cells_of p)) (outside scenario (range_with_len 0 (length (cells_of p)))) (λ n c. (others_has n c).0)

    abbrev absent_ones : List (List Lit)
    absent_ones = map (λ cell. negation_of (literal_of cell) ∷ []) (outside scenario (range_with_len 0 (length (cells_of p))))

    pub descent_holds : (Includes s floor × (Includes scenario s × (¬ Includes s scenario))) ↔ Satisfies v (descent_locals p floor scenario)
    descent_holds = (
      λ (above, (within, proper)).
          All-append Holds (absent_ones ++ units_of floor) (absence_in (outside floor scenario) ∷ [])
          (All-append Holds absent_ones (units_of floor)
          ((absences_hold (outside scenario (range_with_len 0 (length (cells_of p)))) others_in).0 (λ n c there. (others_has n c).1 (within n there)))
          ((units_hold floor floor_in).0 above))
          (All-cons Holds (absence_in (outside floor scenario)) [] ((absence_holds (outside floor scenario) rest_in).0 (λ rest. proper (with_rest above rest))) (All-nil Holds)),
      λ holds.
          let first = front Holds (absent_ones ++ units_of floor) (absence_in (outside floor scenario) ∷ []) holds in
          let last = back Holds (absent_ones ++ units_of floor) (absence_in (outside floor scenario) ∷ []) holds in
          let some = All-contains Holds (absence_in (outside floor scenario) ∷ []) (absence_in (outside floor scenario)) last (cons_first (absence_in (outside floor scenario)) []) in
          let none = (absences_hold (outside scenario (range_with_len 0 (length (cells_of p)))) others_in).1 (front Holds absent_ones (units_of floor) first) in (
            (units_hold floor floor_in).1 (back Holds absent_ones (units_of floor) first),
            (
              λ n c. elim (in_or_not n scenario) [
                | inl there ↦ there
                | inr missing ↦ absurd (none n (has_others n (below s cells n c) missing) c)
              ],
              λ all. (absence_holds (outside floor scenario) rest_in).1 some (λ n c. all n (rest_of n c)),
            ),
          ),
    )

module _ (p : Bounded) (t : Translated) (stands : StandsFor p t) (s : List ℕ) (scenario : IsScenario p s) where
  -- where a valuation of the translation's clauses satisfies the local ones exactly if something is true of the scenario,
  -- all the clauses say that this is true of an instance
  said : (local : List (List Lit)) (P : Type 0) → ((v : ℕ → Bool) → HasCellsOf p s v → P ↔ Satisfies v local) → (IsInstance p s × P) ↔ IsSatisfiableAt p s (t.cnf.clauses ++ local)
  said local P says = (
    λ (instance, holds).
        let sat = (stands.instances s scenario).0 instance in
        record {
          valuation = sat.valuation;
          cells = sat.cells;
          satisfied = All-append (λ c. IsTrue (clause_value sat.valuation c)) t.cnf.clauses local sat.satisfied ((says sat.valuation sat.cells).0 holds);
        },
    λ sat. (
      (stands.instances s scenario).1 (record { valuation = sat.valuation; cells = sat.cells; satisfied = front (λ c. IsTrue (clause_value sat.valuation c)) t.cnf.clauses local sat.satisfied }),
      (says sat.valuation sat.cells).1 (back (λ c. IsTrue (clause_value sat.valuation c)) t.cnf.clauses local sat.satisfied),
    ),
  )

  pub possible_said : (cells : List ℕ) → AreCells p cells → (IsInstance p s × Includes s cells) ↔ IsSatisfiableAt p s (t.cnf.clauses ++ units_of cells)
  possible_said cells are = said (units_of cells) (Includes s cells) (λ v has. units_hold p s v has cells are)

  pub smaller_said : (floor from : List ℕ) → AreCells p floor → AreCells p from → IsSmaller p floor from s ↔ IsSatisfiableAt p s (t.cnf.clauses ++ descent_locals p floor from)
  smaller_said floor from floor_in from_in =
      let says = said (descent_locals p floor from) (Includes s floor × (Includes from s × (¬ Includes s from))) (λ v has. descent_holds p s v has floor from floor_in from_in scenario.cells) in (
        λ smaller. says.0 (smaller.instance_of, (smaller.above, (smaller.proper.0, smaller.proper.1))),
        λ sat. let is = says.1 sat in record { instance_of = is.0; above = is.1.0; proper = (is.1.1.0, is.1.1.1) },
      )

  module _ (floor : List ℕ) (blocked : List (List ℕ)) (floor_in : AreCells p floor) (blocked_in : All (AreCells p) blocked)
      (tested : IsSettledBeside p floor s ↔ NoSwapIsEarlier p (IsPicked p (is_free_of p floor)) (Contains s))
      (both : (picks : Atom → Atom → Bool) → IsInstance p s → NoSwapIsEarlier p (IsPicked p picks) (Contains s) → IsSatisfiableAt p s (t.cnf.clauses ++ clauses_of_swaps picks t.swaps)) where
    picked : IsSettledBeside p floor s ↔ NoSwapIsEarlier p (IsPicked p (is_free_of t.problem floor)) (Contains s)
    picked = subst (λ (q : Bounded). IsSettledBeside p floor s ↔ NoSwapIsEarlier p (IsPicked p (is_free_of q floor)) (Contains s)) (sym stands.problem) tested

    pub left_said : IsLeft p floor blocked s ↔ IsSatisfiableAt p s (t.cnf.clauses ++ locals_of t floor blocked)
    left_said = (
      λ left.
          let free = clauses_of_swaps (is_free_of t.problem floor) t.swaps in
          let sat = both (is_free_of t.problem floor) left.instance_of (picked.0 left.settled) in
          let Good : List Lit → Type 0 = λ c. IsTrue (clause_value sat.valuation c) in
          record {
            valuation = sat.valuation;
            cells = sat.cells;
            satisfied = All-append Good t.cnf.clauses (locals_of t floor blocked) (front Good t.cnf.clauses free sat.satisfied)
                (All-append Good (free ++ units_of floor) (map absence_in blocked)
                (All-append Good free (units_of floor) (back Good t.cnf.clauses free sat.satisfied) ((units_hold p s sat.valuation sat.cells floor floor_in).0 left.above))
                ((blocked_hold p s sat.valuation sat.cells blocked blocked_in).0 left.fresh));
          },
      λ sat.
          let free = clauses_of_swaps (is_free_of t.problem floor) t.swaps in
          let Good : List Lit → Type 0 = λ c. IsTrue (clause_value sat.valuation c) in
          let local = back Good t.cnf.clauses (locals_of t floor blocked) sat.satisfied in
          let first = front Good (free ++ units_of floor) (map absence_in blocked) local in
          record {
            instance_of = (stands.instances s scenario).1 (record { valuation = sat.valuation; cells = sat.cells; satisfied = front Good t.cnf.clauses (locals_of t floor blocked) sat.satisfied });
            above = (units_hold p s sat.valuation sat.cells floor floor_in).1 (back Good free (units_of floor) first);
            settled = picked.1 ((stands.settled (is_free_of t.problem floor) s scenario).1 (record { valuation = sat.valuation; cells = sat.cells; satisfied = front Good free (units_of floor) first }));
            fresh = (blocked_hold p s sat.valuation sat.cells blocked blocked_in).1 (back Good (free ++ units_of floor) (map absence_in blocked) local);
          },
    )
