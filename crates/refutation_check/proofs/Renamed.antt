-- Logs whose variables have other names.
use Rattle.std.proofs.Common.{◌≡◌, ◌<◌, ◌-◌, ◌++◌, [], ◌∷◌, ℕ, Some, None, List, length, get_or, take, map, arith, sym, ◌∙◌, ap, inl, inr, refl, subst}
use Rattle.std.proofs.lemmas.List.{map-append, length-map, get_or-map, take-map, nil_from_length}
use Rattle.std.proofs.lemmas.List.Elements.{All-contains, Contains-get_or}
use Rattle.std.proofs.lemmas.Option.{slice_get-map, slice_get_cases}
use Rattle.std.specs.List.{Contains, slice_get}
use Rattle.std.specs.Option.{option_map}
use Rattle.cnf_core.specs.declared.literal.Lit.{Lit}
use Rattle.cnf_core.specs.Literal.{negation_of}
use Rattle.refutation_check.specs.declared.log.Step.{Step}
use Rattle.refutation_check.specs.declared.refutation.Verdict.{Verdict}
use Rattle.refutation_check.specs.declared.refutation.Verdict.TheVariants.{Accepted, Refused, NoEmptyClause}
use Rattle.refutation_check.specs.Renaming.{AreApart, renamed, renamed_clause, renamed_step}
use Rattle.refutation_check.specs.Verdict.{FailsAt, FailsFirst, Fits}
use Rattle.refutation_check.specs.Chain.{IsFalsified, IsUnit, Names, Forces, Refutes, Reaches, IsChain, members_of, IsAccepted, EndsEmpty}
use Rattle.refutation_check.proofs.Sights.{lit_equal}
use Rattle.refutation_check.proofs.Renumbered.{accepted_first, accepted_rest, accepted_cons}

slice_get_map : {X Y : Type 0} → (f : X → Y) (xs : List X) (i : ℕ) (x : X) → slice_get xs i ≡ Some x → slice_get (map f xs) i ≡ Some (f x)
slice_get_map f xs i x is = slice_get-map f xs i ∙ ap (option_map f) is

-- what stands in the list with other names has a name there
slice_get_from_map : {X Y : Type 0} → (f : X → Y) (xs : List X) (i : ℕ) (y : Y) → slice_get (map f xs) i ≡ Some y → (x : X) × (slice_get xs i ≡ Some x) × (f x ≡ y)
slice_get_from_map f xs i y is =
    elim (slice_get_cases xs i).1 [
      | inl (x, in', at, there) ↦ let e : Some (f x) ≡ Some y = sym (slice_get_map f xs i x at) ∙ is in (x, at, cc)
      | inr (past, at) ↦ let e : None ≡ Some y = sym (ap (option_map f) at) ∙ (sym (slice_get-map f xs i) ∙ is) in absurd cc
    ]

module _ (name : ℕ → ℕ) (apart : AreApart name) where
  renamed_one : (a b : Lit) → renamed name a ≡ renamed name b → a ≡ b
  renamed_one a b e = lit_equal a b (apart a.var b.var (ap (λ (l : Lit). l.var) e)) (ap (λ (l : Lit). l.positive) e)

  there : (lits : List Lit) (l : Lit) → Contains lits l → Contains (renamed_clause name lits) (renamed name l)
  there lits l (k, in', is) = (k, rw (length-map lits (renamed name)) in', get_or-map (renamed name) lits k l (renamed name l) in' ∙ ap (renamed name) is)

  -- a literal of a clause with other names is one of the clause
  from_there : (lits : List Lit) (m : Lit) → Contains (renamed_clause name lits) m → (l : Lit) × Contains lits l × (renamed name l ≡ m)
  from_there lits m (k, in', is) =
      let within : k < length lits = rw (length-map lits (renamed name)) at in' in
      (get_or lits k m, Contains-get_or lits k m within, sym (get_or-map (renamed name) lits k m m within) ∙ is)

  back : (lits : List Lit) (l : Lit) → Contains (renamed_clause name lits) (renamed name l) → Contains lits l
  back lits l has = let found = from_there lits (renamed name l) has in subst (Contains lits) (renamed_one found.0 l found.2) found.1

  falsified_there : (falses clause : List Lit) → IsFalsified (Contains falses) clause → IsFalsified (Contains (renamed_clause name falses)) (renamed_clause name clause)
  falsified_there falses clause all k d h =
      let found = from_there clause (get_or (renamed_clause name clause) k d) (Contains-get_or (renamed_clause name clause) k d h) in
      subst (Contains (renamed_clause name falses)) found.2 (there falses found.0 (All-contains (Contains falses) clause found.0 all found.1))

  falsified_back : (falses clause : List Lit) → IsFalsified (Contains (renamed_clause name falses)) (renamed_clause name clause) → IsFalsified (Contains falses) clause
  falsified_back falses clause all k d h =
      back falses (get_or clause k d) (All-contains (Contains (renamed_clause name falses)) (renamed_clause name clause) (renamed name (get_or clause k d)) all (there clause (get_or clause k d) (Contains-get_or clause k d h)))

  unit_there : (falses clause : List Lit) (l : Lit) → IsUnit (Contains falses) clause l → IsUnit (Contains (renamed_clause name falses)) (renamed_clause name clause) (renamed name l)
  unit_there falses clause l u =
      record {
        member = there clause l u.member;
        not_false = λ h. u.not_false (back falses l h);
        not_true = λ h. u.not_true (back falses (negation_of l) h);
        others = λ other h differs.
            let found = from_there clause other h in
            subst (Contains (renamed_clause name falses)) found.2 (there falses found.0 (u.others found.0 found.1 (λ same. differs (sym found.2 ∙ ap (renamed name) same))));
      }

  unit_back : (falses clause : List Lit) (l : Lit) → IsUnit (Contains (renamed_clause name falses)) (renamed_clause name clause) (renamed name l) → IsUnit (Contains falses) clause l
  unit_back falses clause l u =
      record {
        member = back clause l u.member;
        not_false = λ h. u.not_false (there falses l h);
        not_true = λ h. u.not_true (there falses (negation_of l) h);
        others = λ other h differs. back falses other (u.others (renamed name other) (there clause other h) (λ same. differs (renamed_one other l same)));
      }

  module _ (members : List (List Lit)) where
    named_there : (hint : ℕ) (clause : List Lit) → Names members hint clause → Names (map (renamed_clause name) members) hint (renamed_clause name clause)
    named_there hint clause named = (named.0, slice_get_map (renamed_clause name) members (hint - 1) clause named.1)

    named_back : (hint : ℕ) (clause : List Lit) → Names (map (renamed_clause name) members) hint clause → (c : List Lit) × Names members hint c × (renamed_clause name c ≡ clause)
    named_back hint clause named =
        let found = slice_get_from_map (renamed_clause name) members (hint - 1) clause named.1 in
        (found.0, (named.0, found.1), found.2)

    forces_there : (falses : List Lit) (hint : ℕ) (l : Lit) → Forces members falses hint l → Forces (map (renamed_clause name) members) (renamed_clause name falses) hint (renamed name l)
    forces_there falses hint l f =
        record { clause = renamed_clause name f.clause; named = named_there hint f.clause f.named; unit = unit_there falses f.clause l f.unit }

    forces_back : (falses : List Lit) (hint : ℕ) (m : Lit) → Forces (map (renamed_clause name) members) (renamed_clause name falses) hint m → (l : Lit) × Forces members falses hint l
    forces_back falses hint m f =
        let found = named_back hint f.clause f.named in
        let unit : IsUnit (Contains (renamed_clause name falses)) (renamed_clause name found.0) m = subst (λ (c : List Lit). IsUnit (Contains (renamed_clause name falses)) c m) (sym found.2) f.unit in
        let old = from_there found.0 m unit.member in
        (old.0, record { clause = found.0; named = found.1; unit = unit_back falses found.0 old.0 (subst (IsUnit (Contains (renamed_clause name falses)) (renamed_clause name found.0)) (sym old.2) unit) })

    refutes_there : (falses : List Lit) (hint : ℕ) → Refutes members falses hint → Refutes (map (renamed_clause name) members) (renamed_clause name falses) hint
    refutes_there falses hint r =
        record { clause = renamed_clause name r.clause; named = named_there hint r.clause r.named; falsified = falsified_there falses r.clause r.falsified }

    refutes_back : (falses : List Lit) (hint : ℕ) → Refutes (map (renamed_clause name) members) (renamed_clause name falses) hint → Refutes members falses hint
    refutes_back falses hint r =
        let found = named_back hint r.clause r.named in
        record {
          clause = found.0;
          named = found.1;
          falsified = falsified_back falses found.0 (subst (IsFalsified (Contains (renamed_clause name falses))) (sym found.2) r.falsified);
        }

    reaches_there : (falses : List Lit) (hints : List ℕ) (after : List Lit) → Reaches members falses hints after → Reaches (map (renamed_clause name) members) (renamed_clause name falses) hints (renamed_clause name after)
    reaches_there falses [] after same = ap (renamed_clause name) same
    reaches_there falses (hint ∷ hints) after (l, forced, rest) = (
      renamed name l,
      forces_there falses hint l forced,
      subst (λ (fs : List Lit). Reaches (map (renamed_clause name) members) fs hints (renamed_clause name after)) (map-append (renamed name) falses (negation_of l ∷ []))
          (reaches_there (falses ++ negation_of l ∷ []) hints after rest),
    )

    chain_there : (clause : List Lit) (hints : List ℕ) → IsChain members clause hints → IsChain (map (renamed_clause name) members) (renamed_clause name clause) hints
    chain_there clause hints chain =
        record {
          before = chain.before;
          last = chain.last;
          after = renamed_clause name chain.after;
          in_order = chain.in_order;
          reached = reaches_there clause chain.before chain.after chain.reached;
          refuted = refutes_there chain.after chain.last chain.refuted;
        }

    fails_there : (clause : List Lit) (hints : List ℕ) (hint : ℕ) → FailsAt members clause hints hint → FailsAt (map (renamed_clause name) members) (renamed_clause name clause) hints hint
    fails_there clause hints hint fails =
        record {
          no_hints = fails.no_hints;
          in_range = fails.in_range;
          after = renamed_clause name fails.after;
          reached = reaches_there clause (take (hint - 1) hints) fails.after fails.reached;
          not_forced = λ low more m f. let old = forces_back fails.after (get_or hints (hint - 1) 0) m f in fails.not_forced low more old.0 old.1;
          not_refuted = λ low last r. fails.not_refuted low last (refutes_back fails.after (get_or hints (hint - 1) 0) r);
        }

  accepted_there : (given : List (List Lit)) (steps : List Step) → IsAccepted given steps → IsAccepted (map (renamed_clause name) given) (map (renamed_step name) steps)
  accepted_there given [] accepted = λ i d h. absurd (omega arith)
  accepted_there given (s ∷ steps) accepted =
      accepted_cons (map (renamed_clause name) given) (renamed_step name s) (map (renamed_step name) steps)
      (chain_there given s.clause s.hints (accepted_first given s steps accepted))
      (subst (λ (cs : List (List Lit)). IsAccepted cs (map (renamed_step name) steps)) (map-append (renamed_clause name) given (s.clause ∷ []))
      (accepted_there (given ++ s.clause ∷ []) steps (accepted_rest given s steps accepted)))

  clauses_there : (steps : List Step) → map (renamed_clause name) (map (λ (s : Step). s.clause) steps) ≡ map (λ (s : Step). s.clause) (map (renamed_step name) steps)
  clauses_there [] = refl
  clauses_there (s ∷ steps) = ap (λ (cs : List (List Lit)). renamed_clause name s.clause ∷ cs) (clauses_there steps)

  members_there : (clauses : List (List Lit)) (steps : List Step) → map (renamed_clause name) (members_of clauses steps) ≡ members_of (map (renamed_clause name) clauses) (map (renamed_step name) steps)
  members_there clauses steps =
      map-append (renamed_clause name) clauses (map (λ (s : Step). s.clause) steps) ∙ ap (λ (cs : List (List Lit)). map (renamed_clause name) clauses ++ cs) (clauses_there steps)

  front_there : (n : ℕ) (steps : List Step) → take n (map (renamed_step name) steps) ≡ map (renamed_step name) (take n steps)
  front_there n steps = take-map (renamed_step name) n steps

  fails_first_there : (clauses : List (List Lit)) (steps : List Step) (step hint : ℕ) → FailsFirst clauses steps step hint → FailsFirst (map (renamed_clause name) clauses) (map (renamed_step name) steps) step hint
  fails_first_there clauses steps step hint f =
      let front : List Step = take (step - 1) steps in
      record {
        from_one = f.from_one;
        failing = renamed_step name f.failing;
        there = slice_get_map (renamed_step name) steps (step - 1) f.failing f.there;
        earlier = rw (front_there (step - 1) steps) (accepted_there clauses front f.earlier);
        fails = rw (front_there (step - 1) steps) (subst (λ (ms : List (List Lit)). FailsAt ms (renamed_clause name f.failing.clause) f.failing.hints hint) (members_there clauses front) (fails_there (members_of clauses front) f.failing.clause f.failing.hints hint f.fails));
      }

  ends_there : (steps : List Step) → EndsEmpty steps → EndsEmpty (map (renamed_step name) steps)
  ends_there steps (s, last, empty) = (
    renamed_step name s,
    ap (λ (n : ℕ). slice_get (map (renamed_step name) steps) (n - 1)) (length-map steps (renamed_step name)) ∙ slice_get_map (renamed_step name) steps (length steps - 1) s last,
    ap (renamed_clause name) empty,
  )

  ends_back : (steps : List Step) → EndsEmpty (map (renamed_step name) steps) → EndsEmpty steps
  ends_back steps (s, last, empty) =
      let at : slice_get (map (renamed_step name) steps) (length steps - 1) ≡ Some s = ap (λ (n : ℕ). slice_get (map (renamed_step name) steps) (n - 1)) (sym (length-map steps (renamed_step name))) ∙ last in
      let found = slice_get_from_map (renamed_step name) steps (length steps - 1) s at in
      let none : renamed_clause name found.0.clause ≡ [] = ap (λ (x : Step). x.clause) found.2 ∙ empty in
      let long : length found.0.clause ≡ 0 = sym (length-map found.0.clause (renamed name)) ∙ ap length none in
      (found.0, found.1, nil_from_length found.0.clause long)

  -- a verdict that is right of a log is right of the log with other names
  pub fits_there : (clauses : List (List Lit)) (steps : List Step) (v : Verdict) → Fits clauses steps v → Fits (map (renamed_clause name) clauses) (map (renamed_step name) steps) v
  fits_there clauses steps Accepted fits = (accepted_there clauses steps fits.0, ends_there steps fits.1)
  fits_there clauses steps (Refused step hint) fits = fails_first_there clauses steps step hint fits
  fits_there clauses steps NoEmptyClause fits = (accepted_there clauses steps fits.0, λ ends. fits.1 (ends_back steps ends))
