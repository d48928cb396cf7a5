-- What the steps of a refutation that its last step needs say.
use Rattle.std.proofs.Common.{Some, ◌≡◌, ◌≢◌, ◌<◌, ◌≤◌, ◌+◌, ◌-◌, ◌++◌, [], ◌∷◌, ℕ, Bool, List, length, get_or, take, map, All, arith, sym, ◌∙◌, ap, inl, inr, refl, subst, lt-ltb, le-ltb, length-append}
use Rattle.std.proofs.lemmas.Bool.{cases_lt}
use Rattle.std.proofs.lemmas.List.{get_or-map, get_or-take, length-map, length-take}
use Rattle.std.proofs.lemmas.Option.{slice_get-get_or, slice_get_within, get_or_from_slice_get}
use Rattle.std.proofs.lemmas.List.Elements.{All-append, All-contains, All-map, Contains-append_left, Contains-get_or}
use Rattle.std.specs.Prelude.{if◌then◌else◌}
use Rattle.std.specs.List.{Contains, slice_get}
use Rattle.cnf_core.specs.declared.literal.Lit.{Lit}
use Rattle.cnf_core.specs.Formula.{Formula}
use Rattle.refutation_check.specs.declared.log.Step.{Step}
use Rattle.refutation_check.specs.Chain.{Names, IsChain, members_of, IsAccepted, IsNovel, EndsEmpty, Subsumes}
use Rattle.refutation_check.specs.Renumbering.{kept_number}
use Rattle.refutation_check.specs.SearchLog.{IsVarOf, HasVarsOf, IsNovelButLast, IsDirect}
use Rattle.refutation_check.proofs.Chains.{names_all}
use Rattle.refutation_check.proofs.Renumbered.{chain_renumbered}
use Rattle.sat_trail.proofs.Learned.{named_in}
use Rattle.sat_core.specs.Answers.{HasEmptyOnlyLast, NamesUnit, NamesNoUnits, learnt_in}
use Rattle.sat_core.specs.Assuming.{numbered}
use Rattle.sat_core.specs.Search.{IsAnswerTo}
use Rattle.sat_core.specs.Trimmed.{AreNeededFrom, AreNumbers, IsMarked, IsNamedAt, IsTrimmed, IsUsedUp, NamesBefore, marked_steps, number_by, trimmed_by}
use Rattle.sat_core.specs.declared.search.Answer.{Answer}
use Rattle.sat_core.specs.declared.search.Answer.TheVariants.{Found, Refuted, Spent}
use Rattle.sat_core.proofs.Answered.{given_count}
use Rattle.sat_core.proofs.NeededSteps.{count_marked, count_rises, left_at, left_count, left_few, marked_within, stood_at}
use Rattle.sat_core.proofs.Numbers.{chain_within, get_after, get_before}
use Rattle.sat_core.proofs.Searches.{slice_get_below, vars_bounded}

-- the clause of one of the first steps
clause_at : (steps : List Step) (i k : ℕ) (d : Step) → k < i → k < length steps → slice_get (map (λ (s : Step). s.clause) (take i steps)) k ≡ Some (get_or steps k d).clause
clause_at steps i k d h within =
    let there : k < length (take i steps) = omega (arith, length-take i steps) in
    let long : k < length (map (λ (s : Step). s.clause) (take i steps)) = omega (arith, there, length-map (take i steps) (λ (s : Step). s.clause)) in
    slice_get-get_or (map (λ (s : Step). s.clause) (take i steps)) k d.clause long
    ∙ ap Some (get_or-map (λ (s : Step). s.clause) (take i steps) k d d.clause there ∙ ap (λ (s : Step). s.clause) (get_or-take i steps k d h))

clause_of : (steps : List Step) (i k : ℕ) (d : Step) (c : List Lit) → slice_get (map (λ (s : Step). s.clause) (take i steps)) k ≡ Some c → (k < i) × (k < length steps) × ((get_or steps k d).clause ≡ c)
clause_of steps i k d c is =
    let long = slice_get_within (map (λ (s : Step). s.clause) (take i steps)) k c is in
    let first : k < i = omega (arith, long, length-map (take i steps) (λ (s : Step). s.clause), length-take i steps) in
    let within : k < length steps = omega (arith, long, length-map (take i steps) (λ (s : Step). s.clause), length-take i steps) in
    let same : Some (get_or steps k d).clause ≡ Some c = sym (clause_at steps i k d first within) ∙ is in
    (first, within, cc)

-- a step is named by the number behind the given clauses
step_named : (given : List (List Lit)) (steps : List Step) (i k : ℕ) (d : Step) → k < i → k < length steps → Names (members_of given (take i steps)) (length given + k + 1) (get_or steps k d).clause
step_named given steps i k d h within =
    let back : length given + k + 1 - 1 ≡ length given + k = omega arith in
    (omega arith, ap (slice_get (members_of given (take i steps))) back ∙ (get_after given (map (λ (s : Step). s.clause) (take i steps)) k ∙ clause_at steps i k d h within))

-- the hints of an accepted log name what is given and earlier steps
pub names_before : (given : List (List Lit)) (steps : List Step) → IsAccepted given steps → NamesBefore (length given) steps
names_before given steps accepted i d h k e m =
    let low = chain_within (members_of given (take i steps)) (get_or steps i d).clause (get_or steps i d).hints (accepted i d h) k e m in
    omega (arith, low, length-append given (map (λ (s : Step). s.clause) (take i steps)), length-map (take i steps) (λ (s : Step). s.clause), length-take i steps)

one_end : (steps : List Step) → length steps ≤ 1 → EndsEmpty steps → IsDirect steps
one_end [] h ends = inl refl
one_end (s ∷ []) h (t, there, empty) = let same : Some s ≡ Some t = there in let is : s ≡ t = cc in inr (s, refl, ap (λ (x : Step). x.clause) is ∙ empty)
one_end (s ∷ (t ∷ steps)) h ends = absurd (omega arith)

direct_few : (steps : List Step) → IsDirect steps → length steps ≤ 1
direct_few steps (inl none) = omega (arith, ap length none)
direct_few steps (inr (s, is, empty)) = omega (arith, ap length is)

contains_map : (f : ℕ → ℕ) (xs : List ℕ) (x : ℕ) → Contains xs x → Contains (map f xs) (f x)
contains_map f xs x there =
    let in' : there.0 < length (map f xs) = omega (arith, there.1, length-map xs f) in
    subst (Contains (map f xs)) (get_or-map f xs there.0 x (f x) there.1 ∙ ap f there.2) (Contains-get_or (map f xs) there.0 (f x) in')

module _ (given : List (List Lit)) (steps : List Step) (marks : List Bool) (numbers : List ℕ) (needed : AreNeededFrom (length given) steps 0 marks) (counted : AreNumbers (length given) marks numbers) where
  abbrev number : ℕ → ℕ
  number = number_by (length given) numbers

  abbrev kept : List Step
  kept = trimmed_by (length given) numbers marks steps

  as_many : length kept ≡ kept_number (length steps) marks
  as_many = length-map (marked_steps marks steps) (numbered number) ∙ (left_count marks steps needed.as_many ∙ ap (λ (n : ℕ). kept_number n marks) needed.as_many)

  few : length kept ≤ length steps
  few = omega (arith, length-map (marked_steps marks steps) (numbered number), left_few marks steps)

  number_low : (hint : ℕ) → hint ≤ length given → number hint ≡ hint
  number_low hint low = ap (λ (b : Bool). if b then get_or numbers (hint - length given - 1) 0 else hint) (le-ltb (length given) hint low)

  number_high : (hint : ℕ) → length given < hint → IsMarked marks (hint - length given - 1) → number hint ≡ length given + kept_number (hint - length given - 1) marks + 1
  number_high hint high is =
      let place : ℕ = hint - length given - 1 in
      ap (λ (b : Bool). if b then get_or numbers (hint - length given - 1) 0 else hint) (lt-ltb (length given) hint high)
      ∙ omega (arith, counted.each place (marked_within marks place is), count_marked marks place is)

  -- where a marked step is now
  below : (place : ℕ) → IsMarked marks place → (place < length steps) × (kept_number place marks < length kept)
  below place is =
      let within : place < length steps = omega (arith, marked_within marks place is, needed.as_many) in
      (within, omega (arith, as_many, count_marked marks place is, count_rises marks (place + 1) (length steps) (omega (arith, within))))

  now_at : (place : ℕ) (d : Step) → IsMarked marks place → get_or kept (kept_number place marks) d ≡ numbered number (get_or steps place d)
  now_at place d is =
      let left : kept_number place marks < length (marked_steps marks steps) = omega (arith, (below place is).1, length-map (marked_steps marks steps) (numbered number)) in
      get_or-map (numbered number) (marked_steps marks steps) (kept_number place marks) d d left ∙ ap (numbered number) (left_at marks steps place d needed.as_many is)

  -- where a step that is left stood
  record WasAt (i : ℕ) : Type 0 where
    place : ℕ
    marked : IsMarked marks place
    count : kept_number place marks ≡ i
    within : place < length steps
    read : (d : Step) → get_or kept i d ≡ numbered number (get_or steps place d)

  was_at : (i : ℕ) → i < length kept → WasAt i
  was_at i h =
      let at = stood_at marks steps i needed.as_many (omega (arith, h, length-map (marked_steps marks steps) (numbered number))) in
      record {
        place = at.place;
        marked = at.marked;
        count = at.count;
        within = (below at.place at.marked).0;
        read = λ d. ap (λ (k : ℕ). get_or kept k d) (sym at.count) ∙ now_at at.place d at.marked;
      }

  -- of two steps that are left the earlier one stood earlier
  earlier : (i k : ℕ) → k < i → (a : WasAt i) → (b : WasAt k) → b.place < a.place
  earlier i k h a b =
      elim (cases_lt b.place a.place) [
        | inl lt ↦ lt
        | inr ge ↦ absurd (omega (arith, h, a.count, b.count, count_rises marks a.place b.place ge))
      ]

  -- the last one stood at the end
  not_last : (i : ℕ) → i + 1 < length kept → (a : WasAt i) → a.place + 1 < length steps
  not_last i h a =
      elim (cases_lt (a.place + 1) (length steps)) [
        | inl lt ↦ lt
        | inr ge ↦
            let same : a.place + 1 ≡ length steps = omega (arith, ge, a.within) in
            absurd (omega (arith, h, as_many, ap (λ (n : ℕ). kept_number n marks) same, count_marked marks a.place a.marked, a.count))
      ]

  at_last : (i : ℕ) → (a : WasAt i) → a.place + 1 ≡ length steps → i + 1 ≡ length kept
  at_last i a last = omega (arith, as_many, ap (λ (n : ℕ). kept_number n marks) last, count_marked marks a.place a.marked, a.count)

  -- what a hint of a step names has its new number
  sends : (i : ℕ) → (a : WasAt i) → (hint : ℕ) → (length given < hint → IsMarked marks (hint - length given - 1)) → (c : List Lit) → Names (members_of given (take a.place steps)) hint c → Names (members_of given (take i kept)) (number hint) c
  sends i a hint marked c named =
      elim (cases_lt (length given) hint) [
        | inr low ↦
            let within : hint - 1 < length given = omega (arith, named.0) in
            rw (number_low hint low) ((named.0, get_before given (map (λ (s : Step). s.clause) (take i kept)) (hint - 1) within ∙ (sym (get_before given (map (λ (s : Step). s.clause) (take a.place steps)) (hint - 1) within) ∙ named.1)))
        | inl high ↦
            let place : ℕ = hint - length given - 1 in
            let is : IsMarked marks place = marked high in
            let old : hint - 1 ≡ length given + place = omega (arith, high) in
            let there : slice_get (map (λ (s : Step). s.clause) (take a.place steps)) place ≡ Some c =
            sym (get_after given (map (λ (s : Step). s.clause) (take a.place steps)) place) ∙ (ap (slice_get (members_of given (take a.place steps))) (sym old) ∙ named.1) in
            let d : Step = record { clause = c; hints = [] } in
            let of = clause_of steps a.place place d c there in
            let before : kept_number place marks < i = omega (arith, a.count, count_marked marks place is, count_rises marks (place + 1) a.place (omega (arith, of.0))) in
            let clause : (get_or kept (kept_number place marks) d).clause ≡ c = ap (λ (s : Step). s.clause) (now_at place d is) ∙ of.2 in
            subst (Names (members_of given (take i kept)) (number hint)) clause
            (subst (λ (n : ℕ). Names (members_of given (take i kept)) n (get_or kept (kept_number place marks) d).clause) (sym (number_high hint high is))
            (step_named given kept i (kept_number place marks) d before (below place is).1))
      ]

  accepted : IsAccepted given steps → IsAccepted given kept
  accepted was i d h =
      let a = was_at i h in
      let s : Step = get_or steps a.place d in
      let chain : IsChain (members_of given (take i kept)) s.clause (map number s.hints) =
      chain_renumbered number (members_of given (take a.place steps)) (members_of given (take i kept)) s.clause s.hints
      (λ k e m c named. sends i a (get_or s.hints k e) (needed.named a.place d (omega arith) a.within a.marked k e m) c named) (was a.place d a.within) in
      subst (λ (t : Step). IsChain (members_of given (take i kept)) t.clause t.hints) (sym (a.read d)) chain

  vars_of : HasVarsOf given steps → HasVarsOf given kept
  vars_of was i d h =
      let a = was_at i h in
      subst (λ (t : Step). All (λ (l : Lit). IsVarOf given l.var) t.clause) (sym (a.read d)) (was a.place d a.within)

  -- before a step that is left stand no other clauses than before
  fewer : (P : List Lit → Type 0) (i : ℕ) → (a : WasAt i) → All P (members_of given (take a.place steps)) → All P (members_of given (take i kept))
  fewer P i a all =
      All-append P given (map (λ (s : Step). s.clause) (take i kept))
      (λ k d h. All-contains P (members_of given (take a.place steps)) (get_or given k d) all (Contains-append_left given (map (λ (s : Step). s.clause) (take a.place steps)) (get_or given k d) (Contains-get_or given k d h)))
      (All-map P (λ (s : Step). s.clause) (take i kept) (λ k d h.
      let first : k < i = omega (arith, h, length-take i kept) in
      let b = was_at k (omega (arith, h, length-take i kept)) in
      let is : get_or (take i kept) k d ≡ numbered number (get_or steps b.place d) = get_or-take i kept k d first ∙ b.read d in
      subst (λ (t : Step). P t.clause) (sym is)
      (names_all P (members_of given (take a.place steps)) (length given + b.place + 1) (get_or steps b.place d).clause all (step_named given steps a.place b.place d (earlier i k first a b) b.within))))

  novel : IsNovelButLast given steps → IsNovelButLast given kept
  novel was i s e =
      let a = was_at i (slice_get_below kept i s e) in
      let t : Step = get_or steps a.place s in
      let is : numbered number t ≡ s = sym (a.read s) ∙ get_or_from_slice_get kept i s s e in
      elim (was a.place t (slice_get-get_or steps a.place s a.within)) [
        | inl new ↦ inl (subst (λ (x : Step). IsNovel (members_of given (take i kept)) x.clause) is (fewer (λ other. ¬ Subsumes other t.clause) i a new))
        | inr (last, empty) ↦ inr (at_last i a last, subst (λ (x : Step). x.clause ≡ []) is empty)
      ]

  ends : EndsEmpty steps → EndsEmpty kept
  ends (s, there, empty) =
      let place : ℕ = length steps - 1 in
      let last : place + 1 ≡ length steps = omega (arith, slice_get_below steps place s there) in
      let is : IsMarked marks place = needed.last place last in
      let count : kept_number place marks ≡ length kept - 1 = omega (arith, as_many, ap (λ (n : ℕ). kept_number n marks) last, count_marked marks place is) in
      let read : get_or kept (length kept - 1) s ≡ numbered number s = ap (λ (k : ℕ). get_or kept k s) (sym count) ∙ (now_at place s is ∙ ap (numbered number) (get_or_from_slice_get steps place s s there)) in
      (numbered number s, slice_get-get_or kept (length kept - 1) s (omega (arith, count, (below place is).1)) ∙ ap Some read, empty)

  no_empty : HasEmptyOnlyLast steps → HasEmptyOnlyLast kept
  no_empty was k d h =
      let first : k < length kept - 1 = omega (arith, h, length-take (length kept - 1) kept) in
      let a = was_at k (omega (arith, first)) in
      let before : a.place + 1 < length steps = not_last k (omega (arith, first)) a in
      let old : a.place < length steps - 1 = omega (arith, before) in
      let is : get_or (take (length kept - 1) kept) k d ≡ numbered number (get_or steps a.place d) = get_or-take (length kept - 1) kept k d first ∙ a.read d in
      let some : (get_or steps a.place d).clause ≢ [] =
      subst (λ (t : Step). t.clause ≢ []) (get_or-take (length steps - 1) steps a.place d old) (was a.place d (omega (arith, old, length-take (length steps - 1) steps))) in
      subst (λ (t : Step). t.clause ≢ []) (sym is) some

  -- a local clause of one literal has the number that it had
  free : (first : ℕ) (local : List (List Lit)) (hint : ℕ) → first + length local ≤ length given → (length given < hint → IsMarked marks (hint - length given - 1)) → ¬ NamesUnit first local hint → ¬ NamesUnit first local (number hint)
  free first local hint low marked was unit =
      elim (cases_lt (length given) hint) [
        | inr small ↦ was (subst (NamesUnit first local) (number_low hint small) unit)
        | inl high ↦ absurd (omega (arith, low, named_in local (number hint - first) (unit.literal ∷ []) unit.named, number_high hint high (marked high)))
      ]

  no_units : (first : ℕ) (local : List (List Lit)) → first + length local ≤ length given → NamesNoUnits first local steps → NamesNoUnits first local kept
  no_units first local low was i d h =
      let a = was_at i h in
      let s : Step = get_or steps a.place d in
      subst (λ (t : Step). t.clause ≢ [] → All (λ hint. ¬ NamesUnit first local hint) t.hints) (sym (a.read d))
      (λ some. All-map (λ hint. ¬ NamesUnit first local hint) number s.hints
      (λ k e m. free first local (get_or s.hints k e) low (needed.named a.place d (omega arith) a.within a.marked k e m) (was a.place d a.within some k e m)))

  -- each step that is left is named by one that is left
  used : (i : ℕ) → i + 1 < length kept → (later : ℕ) × IsNamedAt (length given) kept i later
  used i h =
      let a = was_at i (omega arith) in
      let by = needed.needed a.place (not_last i h a) a.marked in
      let at = by.2 in
      let back : length given + a.place + 1 - length given - 1 ≡ a.place = omega arith in
      let is : IsMarked marks (length given + a.place + 1 - length given - 1) = subst (IsMarked marks) (sym back) a.marked in
      let new : number (length given + a.place + 1) ≡ length given + i + 1 =
      omega (arith, number_high (length given + a.place + 1) (omega arith) is, ap (λ (n : ℕ). kept_number n marks) back, a.count) in (
        kept_number by.0 marks,
        record {
          after = omega (arith, a.count, count_marked marks a.place a.marked, count_rises marks (a.place + 1) by.0 (omega (arith, at.after)));
          within = (below by.0 by.1).1;
          named = λ d. subst (λ (t : Step). Contains t.hints (length given + i + 1)) (sym (now_at by.0 d by.1))
              (subst (Contains (map number (get_or steps by.0 d).hints)) new (contains_map number (get_or steps by.0 d).hints (length given + a.place + 1) (at.named d)));
        },
      )

  pub trimmed_log : (f : Formula) (local : List (List Lit)) (pool : List Step) (budget : ℕ) → given ≡ members_of (f.clauses ++ local) pool → IsAnswerTo f local pool budget (Refuted steps) → IsAnswerTo f local pool budget (Refuted kept)
  trimmed_log f local pool budget all was =
      let given_is = sym all in
      let low : length f.clauses + length local ≤ length given = omega (arith, ap length all, given_count f.clauses local pool) in
      let log = was.log in
      let vars : HasVarsOf (members_of (f.clauses ++ local) pool) kept = subst (λ (cs : List (List Lit)). HasVarsOf cs kept) all (vars_of (subst (λ (cs : List (List Lit)). HasVarsOf cs steps) given_is log.vars)) in
      let end = ends was.right.0 in
      record {
        log = record {
          accepted = subst (λ (cs : List (List Lit)). IsAccepted cs kept) all (accepted (subst (λ (cs : List (List Lit)). IsAccepted cs steps) given_is log.accepted));
          vars = vars;
          novel = subst (λ (cs : List (List Lit)). IsNovelButLast cs kept) all (novel (subst (λ (cs : List (List Lit)). IsNovelButLast cs steps) given_is log.novel));
          direct = λ hints chain. one_end kept (omega (arith, few, direct_few steps (log.direct hints chain))) end;
        };
        in_range = vars_bounded f.clauses local pool kept vars;
        few = omega (arith, few, was.few);
        right = (end, was.right.1);
        stopped = tt;
        units = no_units (length f.clauses) local low was.units;
        last = no_empty was.last;
        small = tt;
      }

  pub trimmed_used : IsUsedUp (length given) (Refuted kept)
  trimmed_used = used

module _ (f : Formula) (local : List (List Lit)) (pool : List Step) (budget : ℕ) (steps kept : List Step) (was : IsAnswerTo f local pool budget (Refuted steps)) (count : ℕ) (is : count ≡ (length f.clauses + length local) + length pool) where
  abbrev given : List (List Lit)
  given = members_of (f.clauses ++ local) pool

  counts : count ≡ length given
  counts = omega (arith, is, given_count f.clauses local pool)

  pub can_trim : NamesBefore count steps
  can_trim = subst (λ (n : ℕ). NamesBefore n steps) (sym counts) (names_before given steps was.log.accepted)

  module _ (trimmed : IsTrimmed count steps kept) where
    needed' : AreNeededFrom (length given) steps 0 trimmed.marks
    needed' = subst (λ (n : ℕ). AreNeededFrom n steps 0 trimmed.marks) counts trimmed.needed

    counted' : AreNumbers (length given) trimmed.marks trimmed.numbers
    counted' = subst (λ (n : ℕ). AreNumbers n trimmed.marks trimmed.numbers) counts trimmed.counted

    kept_are : kept ≡ trimmed_by (length given) trimmed.numbers trimmed.marks steps
    kept_are = trimmed.steps_are ∙ ap (λ (n : ℕ). trimmed_by n trimmed.numbers trimmed.marks steps) counts

    -- of a refutation the steps that the last one needs answer the same
    pub answer_trimmed : IsAnswerTo f local pool budget (Refuted kept)
    answer_trimmed = subst (λ (ss : List Step). IsAnswerTo f local pool budget (Refuted ss)) (sym kept_are) (trimmed_log given steps trimmed.marks trimmed.numbers needed' counted' f local pool budget refl was)

    pub answer_used : IsUsedUp ((length f.clauses + length local) + length pool) (Refuted kept)
    answer_used =
        subst (λ (n : ℕ). IsUsedUp n (Refuted kept)) (given_count f.clauses local pool)
        (subst (λ (ss : List Step). IsUsedUp (length given) (Refuted ss)) (sym kept_are) (trimmed_used given steps trimmed.marks trimmed.numbers needed' counted'))

-- where nothing was learnt, there is the last step alone
pub used_at_once : (given : ℕ) (a : Answer) → learnt_in a ≡ 0 → IsUsedUp given a
used_at_once given (Found valuation log) none = tt
used_at_once given (Refuted log) none = λ place more. absurd (omega (arith, none, more))
used_at_once given (Spent log) none = tt
