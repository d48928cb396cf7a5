-- A clause that is blocked where a search is gone on with.
use Rattle.std.proofs.Common.{Bool, ◌≡◌, ◌≢◌, ◌<◌, ◌≤◌, ◌+◌, ◌-◌, ◌++◌, [], ◌∷◌, ◌⊎◌, ℕ, suc, Some, List, length, get_or, take, map, All, arith, sym, ◌∙◌, ap, inl, inr, refl, subst, lt-ltb, le-ltb, append_assoc, append-nil, length-append}
use Rattle.std.proofs.lemmas.Bool.{cases_lt}
use Rattle.std.proofs.lemmas.List.{get_or-map, length-map}
use Rattle.std.proofs.lemmas.Option.{get_or_from_slice_get}
use Rattle.std.proofs.lemmas.List.Elements.{All-contains, All-map, All-weaker, Contains-append_left, Contains-append_right, Contains-append_cases, Contains-push, Contains-push_cases, Contains-get_or}
use Rattle.std.specs.Prelude.{if◌then◌else◌}
use Rattle.std.specs.List.{Contains, slice_get}
use Rattle.cnf_core.specs.declared.literal.Lit.{Lit}
use Rattle.cnf_core.specs.Formula.{Formula}
use Rattle.refutation_check.specs.declared.log.Step.{Step}
use Rattle.refutation_check.specs.Chain.{Names, members_of, IsAccepted, IsNovel, Subsumes}
use Rattle.refutation_check.specs.Lift.{lifted_hint}
use Rattle.refutation_check.specs.SearchLog.{IsVarOf, HasVarsOf}
use Rattle.refutation_check.proofs.Chains.{names_one}
use Rattle.sat_trail.proofs.Learned.{named_in}
use Rattle.sat_core.specs.Answers.{NamesUnit, NamesNoUnits}
use Rattle.sat_core.specs.Assuming.{Keeps, numbered}
use Rattle.sat_core.specs.Kept.{KeepsTo, number_in, told_by}
use Rattle.sat_core.proofs.Going.{number_front, number_last, steps_agree, twice_numbered, accepted_sent}
use Rattle.sat_core.proofs.Numbers.{get_after, get_before}
use Rattle.sat_core.proofs.Searches.{slice_get_below}

-- a clause behind the first ones of a list
module _ (front : List (List Lit)) (c : List Lit) where
  abbrev raise : ℕ → ℕ
  raise = lifted_hint (length front) 1

  raise_low : (n : ℕ) → n ≤ length front → raise n ≡ n
  raise_low n low = ap (λ (b : Bool). if b then n + 1 else n) (le-ltb (length front) n low)

  raise_high : (n : ℕ) → length front < n → raise n ≡ n + 1
  raise_high n high = ap (λ (b : Bool). if b then n + 1 else n) (lt-ltb (length front) n high)

  names_raised : (rest : List (List Lit)) (n : ℕ) (d : List Lit) → Names (front ++ rest) n d → Names ((front ++ c ∷ []) ++ rest) (raise n) d
  names_raised rest n d named =
      elim (cases_lt (length front) n) [
        | inl above ↦
            let place : ℕ = n - 1 - length front in
            let old : n - 1 ≡ length front + place = omega (arith, above) in
            let new : n + 1 - 1 ≡ length (front ++ c ∷ []) + place = omega (arith, above, length-append front (c ∷ [])) in
            let there : slice_get rest place ≡ Some d = sym (get_after front rest place) ∙ (ap (slice_get (front ++ rest)) (sym old) ∙ named.1) in
            rw (raise_high n above) ((omega arith, ap (slice_get ((front ++ c ∷ []) ++ rest)) new ∙ (get_after (front ++ c ∷ []) rest place ∙ there)))
        | inr below ↦
            let within : n - 1 < length front = omega (arith, named.0) in
            let longer : n - 1 < length (front ++ c ∷ []) = omega (arith, within, length-append front (c ∷ [])) in
            let there : slice_get front (n - 1) ≡ Some d = sym (get_before front rest (n - 1) within) ∙ named.1 in
            rw (raise_low n below) ((named.0, get_before (front ++ c ∷ []) rest (n - 1) longer ∙ (get_before front (c ∷ []) (n - 1) within ∙ there)))
      ]

  name_of_new : (rest : List (List Lit)) → Names ((front ++ c ∷ []) ++ rest) (length front + 1) c
  name_of_new rest =
      let back : length front + 1 - 1 ≡ length front + 0 = omega arith in
      let within : length front + 0 < length (front ++ c ∷ []) = omega (arith, length-append front (c ∷ [])) in
      (omega arith, ap (slice_get ((front ++ c ∷ []) ++ rest)) back ∙ (get_before (front ++ c ∷ []) rest (length front + 0) within ∙ get_after front (c ∷ []) 0))

  wider : (rest : List (List Lit)) (x : List Lit) → Contains (front ++ rest) x → Contains ((front ++ c ∷ []) ++ rest) x
  wider rest x h =
      elim (Contains-append_cases front rest x h) [
        | inl first ↦ Contains-append_left (front ++ c ∷ []) rest x (Contains-append_left front (c ∷ []) x first)
        | inr later ↦ Contains-append_right (front ++ c ∷ []) rest x later
      ]

  inserted : (rest : List (List Lit)) (x : List Lit) → Contains ((front ++ c ∷ []) ++ rest) x → Contains (front ++ rest) x ⊎ (c ≡ x)
  inserted rest x h =
      elim (Contains-append_cases (front ++ c ∷ []) rest x h) [
        | inl first ↦ elim (Contains-push_cases front c x first) [ inl old ↦ inl (Contains-append_left front rest x old) | inr is ↦ inr is ]
        | inr later ↦ inl (Contains-append_right front rest x later)
      ]

module _ (f : Formula) (first rest : List (List Lit)) (pool : List Step) (c : List Lit) where
  abbrev front : List (List Lit)
  front = f.clauses ++ first

  abbrev named_pool : List (List Lit)
  named_pool = map (λ (s : Step). s.clause) pool

  abbrev before : List (List Lit)
  before = members_of (f.clauses ++ (first ++ rest)) pool

  abbrev after : List (List Lit)
  after = members_of (f.clauses ++ (first ++ c ∷ rest)) pool

  abbrev above : ℕ
  above = length f.clauses + length first

  abbrev raised_by : ℕ → ℕ
  raised_by = lifted_hint above 1

  long : length front ≡ above
  long = length-append f.clauses first

  before_is : (more : List (List Lit)) → before ++ more ≡ front ++ (rest ++ (named_pool ++ more))
  before_is more =
      append_assoc (f.clauses ++ (first ++ rest)) named_pool more
      ∙ (ap (λ (xs : List (List Lit)). xs ++ (named_pool ++ more)) (sym (append_assoc f.clauses first rest)) ∙ append_assoc front rest (named_pool ++ more))

  after_is : (more : List (List Lit)) → after ++ more ≡ (front ++ c ∷ []) ++ (rest ++ (named_pool ++ more))
  after_is more =
      let split : f.clauses ++ (first ++ c ∷ rest) ≡ (front ++ c ∷ []) ++ rest =
      ap (λ (xs : List (List Lit)). f.clauses ++ xs) (sym (append_assoc first (c ∷ []) rest))
      ∙ (sym (append_assoc f.clauses (first ++ c ∷ []) rest) ∙ ap (λ (xs : List (List Lit)). xs ++ rest) (sym (append_assoc f.clauses first (c ∷ [])))) in
      append_assoc (f.clauses ++ (first ++ c ∷ rest)) named_pool more
      ∙ (ap (λ (xs : List (List Lit)). xs ++ (named_pool ++ more)) split ∙ append_assoc (front ++ c ∷ []) rest (named_pool ++ more))

  sends : (more : List (List Lit)) (n : ℕ) (d : List Lit) → Names (before ++ more) n d → Names (after ++ more) (raised_by n) d
  sends more n d named =
      subst (λ (k : ℕ). Names (after ++ more) (lifted_hint k 1 n) d) long
      (subst (λ (cs : List (List Lit)). Names cs (lifted_hint (length front) 1 n) d) (sym (after_is more)) (names_raised front c (rest ++ (named_pool ++ more)) n d (subst (λ (cs : List (List Lit)). Names cs n d) (before_is more) named)))

  new_named : (more : List (List Lit)) → Names (after ++ more) (above + 1) c
  new_named more =
      subst (λ (k : ℕ). Names (after ++ more) (k + 1) c) long
      (subst (λ (cs : List (List Lit)). Names cs (length front + 1) c) (sym (after_is more)) (name_of_new front c (rest ++ (named_pool ++ more))))

  keeps_in : (more : List (List Lit)) (x : List Lit) → Contains (before ++ more) x → Contains (after ++ more) x
  keeps_in more x h = subst (λ (cs : List (List Lit)). Contains cs x) (sym (after_is more)) (wider front c (rest ++ (named_pool ++ more)) x (subst (λ (cs : List (List Lit)). Contains cs x) (before_is more) h))

  old_or_new : (more : List (List Lit)) (x : List Lit) → Contains (after ++ more) x → Contains (before ++ more) x ⊎ (c ≡ x)
  old_or_new more x h =
      elim (inserted front c (rest ++ (named_pool ++ more)) x (subst (λ (cs : List (List Lit)). Contains cs x) (after_is more) h)) [
        | inl old ↦ inl (subst (λ (cs : List (List Lit)). Contains cs x) (sym (before_is more)) old)
        | inr is ↦ inr is
      ]

  has_new : (more : List (List Lit)) → Contains (after ++ more) c
  has_new more = let named = new_named more in (above + 1 - 1, omega (arith, named_in (after ++ more) (above + 1) c named), get_or_new more)
    where
      get_or_new : (more : List (List Lit)) → get_or (after ++ more) (above + 1 - 1) c ≡ c
      get_or_new more = get_or_from_slice_get (after ++ more) (above + 1 - 1) c c (new_named more).1

  in_given : (x : List Lit) → Contains before x → Contains after x
  in_given x h = subst (λ (cs : List (List Lit)). Contains cs x) (append-nil after) (keeps_in [] x (subst (λ (cs : List (List Lit)). Contains cs x) (sym (append-nil before)) h))

  vars_in : (var : ℕ) → IsVarOf before var → IsVarOf after var
  vars_in var of = record { clause = of.clause; literal = of.literal; given = in_given of.clause of.given; member = of.member; same = of.same }

  -- a hint that names a unit names one before
  unit_back : (n : ℕ) → NamesUnit (length f.clauses) (first ++ c ∷ rest) (raised_by n) → NamesUnit (length f.clauses) (first ++ rest) n
  unit_back n unit =
      elim (cases_lt above n) [
        | inr low ↦
            let same : raised_by n ≡ n = ap (λ (b : Bool). if b then n + 1 else n) (le-ltb above n low) in
            let u : NamesUnit (length f.clauses) (first ++ c ∷ rest) n = subst (λ (m : ℕ). NamesUnit (length f.clauses) (first ++ c ∷ rest) m) same unit in
            let place : ℕ = n - length f.clauses in
            let within : place - 1 < length first = omega (arith, u.named.0, u.after, low) in
            record { literal = u.literal; after = u.after; named = (u.named.0, get_before first rest (place - 1) within ∙ (sym (get_before first (c ∷ rest) (place - 1) within) ∙ u.named.1)) }
        | inl high ↦
            let same : raised_by n ≡ n + 1 = ap (λ (b : Bool). if b then n + 1 else n) (lt-ltb above n high) in
            let u : NamesUnit (length f.clauses) (first ++ c ∷ rest) (n + 1) = subst (λ (m : ℕ). NamesUnit (length f.clauses) (first ++ c ∷ rest) m) same unit in
            let k : ℕ = n - length f.clauses - 1 - length first in
            let old : n - length f.clauses - 1 ≡ length first + k = omega (arith, high) in
            let new : n + 1 - length f.clauses - 1 ≡ length first + suc k = omega (arith, high) in
            record {
              literal = u.literal;
              after = omega (arith, high);
              named = (
                omega (arith, high),
                ap (slice_get (first ++ rest)) old ∙ (get_after first rest k ∙ (sym (get_after first (c ∷ rest) (suc k)) ∙ (ap (slice_get (first ++ c ∷ rest)) (sym new) ∙ u.named.1))),
              );
            }
      ]

  new_no_unit : ((l : Lit) → c ≡ l ∷ [] → ⊥) → NamesUnit (length f.clauses) (first ++ c ∷ rest) (above + 1) → ⊥
  new_no_unit longer u =
      let place : above + 1 - length f.clauses ≡ length first + 1 = omega arith in
      let back : length first + 1 - 1 ≡ length first + 0 = omega arith in
      let named : Names (first ++ c ∷ rest) (length first + 1) c = (omega arith, ap (slice_get (first ++ c ∷ rest)) back ∙ get_after first (c ∷ rest) 0) in
      longer u.literal (names_one (first ++ c ∷ rest) (length first + 1) c (u.literal ∷ []) named (subst (λ (n : ℕ). Names (first ++ c ∷ rest) n (u.literal ∷ [])) place u.named))

  module _ (clauses : List (List Lit)) (vars : ℕ) (assumed : List Lit) (numbers : List ℕ) (steps : List Step) (was : KeepsTo f (first ++ rest) pool clauses vars assumed numbers steps)
      (longer : (l : Lit) → c ≡ l ∷ [] → ⊥) (new : All (λ s. ¬ Subsumes c s.clause) steps) where
    abbrev named_steps : List (List Lit)
    named_steps = map (λ (s : Step). s.clause) steps

    abbrev later : List ℕ
    later = map raised_by numbers ++ (above + 1) ∷ []

    as_long : length (map raised_by numbers) ≡ length numbers
    as_long = length-map numbers raised_by

    same : (hint : ℕ) → (1 ≤ hint) × (hint ≤ length numbers) → number_in later hint ≡ raised_by (number_in numbers hint)
    same hint (low, high) =
        number_front (map raised_by numbers) ((above + 1) ∷ []) hint low (omega (arith, high, as_long)) ∙ get_or-map raised_by numbers (hint - 1) 0 0 (omega (arith, low, high))

    told_later : told_by later steps ≡ map (numbered raised_by) (told_by numbers steps)
    told_later =
        steps_agree (number_in later) (λ hint. raised_by (number_in numbers hint)) (λ hint. (1 ≤ hint) × (hint ≤ length numbers)) same steps was.within ∙ sym (twice_numbered raised_by (number_in numbers) steps)

    last : (hint : ℕ) → length clauses < hint → hint ≤ length (clauses ++ c ∷ []) → number_in later hint ≡ above + 1
    last hint low high = number_last (map raised_by numbers) (above + 1) hint (omega (arith, low, high, as_long, was.as_many, length-append clauses (c ∷ [])))

    named_later : (hint : ℕ) (d : List Lit) → Names (clauses ++ c ∷ []) hint d → Names (members_of after steps) (number_in later hint) d
    named_later hint d named =
        let top : hint ≤ length (clauses ++ c ∷ []) = named_in (clauses ++ c ∷ []) hint d named in
        elim (cases_lt (length clauses) hint) [
          | inr low ↦
              let there : Names clauses hint d = (named.0, sym (get_before clauses (c ∷ []) (hint - 1) (omega (arith, low, named.0))) ∙ named.1) in
              subst (λ (n : ℕ). Names (members_of after steps) n d) (sym (same hint (named.0, omega (arith, low, was.as_many)))) (sends named_steps (number_in numbers hint) d (was.named hint d there))
          | inl high ↦
              let at : hint - 1 ≡ length clauses + 0 = omega (arith, top, high, length-append clauses (c ∷ [])) in
              let is : Some c ≡ Some d = sym (get_after clauses (c ∷ []) 0) ∙ (ap (slice_get (clauses ++ c ∷ [])) (sym at) ∙ named.1) in
              let equal : c ≡ d = cc in
              subst (λ (n : ℕ). Names (members_of after steps) n d) (sym (last hint high top)) (subst (λ (x : List Lit). Names (members_of after steps) (above + 1) x) equal (new_named named_steps))
        ]

    no_unit_later : (hint : ℕ) → 1 ≤ hint → hint ≤ length (clauses ++ c ∷ []) → NamesUnit (length f.clauses) (first ++ c ∷ rest) (number_in later hint) → ⊥
    no_unit_later hint low high unit =
        elim (cases_lt (length clauses) hint) [
          | inr within ↦
              was.no_unit hint low within (unit_back (number_in numbers hint) (subst (λ (n : ℕ). NamesUnit (length f.clauses) (first ++ c ∷ rest) n) (same hint (low, omega (arith, within, was.as_many))) unit))
          | inl past ↦ new_no_unit longer (subst (λ (n : ℕ). NamesUnit (length f.clauses) (first ++ c ∷ rest) n) (last hint past high) unit)
        ]

    keeps_later : Keeps (members_of after steps) (clauses ++ c ∷ []) assumed
    keeps_later =
        record {
          of_kept = λ x h. elim (Contains-push_cases clauses c x h) [
            | inl old ↦ keeps_in named_steps x (was.keeps.of_kept x old)
            | inr is ↦ subst (Contains (members_of after steps)) is (has_new named_steps)
          ];
          of_assumed = λ l h. keeps_in named_steps (l ∷ []) (was.keeps.of_assumed l h);
          each = λ x h. elim (old_or_new named_steps x h) [
            | inl old ↦ elim (was.keeps.each x old) [ inl there ↦ inl (Contains-append_left clauses (c ∷ []) x there) | inr unit ↦ inr unit ]
            | inr is ↦ inl (subst (Contains (clauses ++ c ∷ [])) is (Contains-push clauses c))
          ];
        }

    units_later : (l : Lit) → Contains assumed l → Contains (first ++ c ∷ rest) (l ∷ [])
    units_later l h =
        elim (Contains-append_cases first rest (l ∷ []) (was.units l h)) [
          | inl there ↦ Contains-append_left first (c ∷ rest) (l ∷ []) there
          | inr there ↦ Contains-append_right first (c ∷ rest) (l ∷ []) (Contains-append_right (c ∷ []) rest (l ∷ []) there)
        ]

    novel_later : (i : ℕ) (s : Step) → slice_get steps i ≡ Some s → IsNovel (members_of after (take i steps)) s.clause
    novel_later i s e k d h =
        let more : List (List Lit) = map (λ (s : Step). s.clause) (take i steps) in
        let x : List Lit = get_or (members_of after (take i steps)) k d in
        let within : i < length steps = slice_get_below steps i s e in
        let is : get_or steps i s ≡ s = get_or_from_slice_get steps i s s e in
        elim (old_or_new more x (Contains-get_or (members_of after (take i steps)) k d h)) [
          | inl old ↦ All-contains (λ other. ¬ Subsumes other s.clause) (members_of before (take i steps)) x (was.novel i s e) old
          | inr here ↦ subst (λ (y : List Lit). ¬ Subsumes y s.clause) here (subst (λ (t : Step). ¬ Subsumes c t.clause) is (new i s within))
        ]

    pub blocked : KeepsTo f (first ++ c ∷ rest) pool (clauses ++ c ∷ []) vars assumed later steps
    blocked =
        record {
          as_many = omega (arith, was.as_many, as_long, length-append (map raised_by numbers) ((above + 1) ∷ []), length-append clauses (c ∷ []));
          few = omega (arith, was.few, length-append clauses (c ∷ []), ap length (after_is []), ap length (before_is []), length-append after [], length-append before [], length-append (front ++ c ∷ []) (rest ++ (named_pool ++ [])), length-append front (rest ++ (named_pool ++ [])), length-append front (c ∷ []));
          of_formula = was.of_formula;
          in_range = was.in_range;
          keeps = keeps_later;
          units = units_later;
          named = named_later;
          no_unit = no_unit_later;
          within =
              All-weaker (λ (s : Step). All (λ hint. (1 ≤ hint) × (hint ≤ length numbers)) s.hints) (λ (s : Step). All (λ hint. (1 ≤ hint) × (hint ≤ length later)) s.hints)
              (λ x all. All-weaker (λ hint. (1 ≤ hint) × (hint ≤ length numbers)) (λ hint. (1 ≤ hint) × (hint ≤ length later)) (λ hint both. (both.0, omega (arith, both.1, as_long, length-append (map raised_by numbers) ((above + 1) ∷ [])))) x.hints all) steps was.within;
          accepted = subst (IsAccepted after) (sym told_later) (accepted_sent raised_by before after (told_by numbers steps) sends was.accepted);
          step_vars =
              All-weaker (λ (s : Step). All (λ (l : Lit). IsVarOf before l.var) s.clause) (λ (s : Step). All (λ (l : Lit). IsVarOf after l.var) s.clause)
              (λ s all. All-weaker (λ (l : Lit). IsVarOf before l.var) (λ (l : Lit). IsVarOf after l.var) (λ l of. vars_in l.var of) s.clause all) steps was.step_vars;
          novel = novel_later;
          no_empty = was.no_empty;
          none_assumed = was.none_assumed;
          no_units = subst (NamesNoUnits (length f.clauses) (first ++ c ∷ rest)) (sym told_later)
              (All-map (λ (s : Step). s.clause ≢ [] → All (λ hint. ¬ NamesUnit (length f.clauses) (first ++ c ∷ rest) hint) s.hints) (numbered raised_by) (told_by numbers steps)
              (λ k d h some. All-map (λ hint. ¬ NamesUnit (length f.clauses) (first ++ c ∷ rest) hint) raised_by (get_or (told_by numbers steps) k d).hints
              (λ j e m unit. was.no_units k d h some j e m (unit_back (get_or (get_or (told_by numbers steps) k d).hints j e) unit))));
        }
