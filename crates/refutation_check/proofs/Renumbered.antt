-- Chains under other numbers of their members.
use Rattle.std.proofs.Common.{◌≡◌, ◌<◌, ◌≤◌, ◌+◌, ◌-◌, ◌++◌, [], ◌∷◌, ℕ, zero, suc, Bool, true, false, Some, List, length, get_or, take, map, replicate, All, arith, sym, ◌∙◌, ap, inl, inr, refl, subst, ap₂, zero-add, lt-ltb, le-ltb, append_assoc, append-nil, length-append}
use Rattle.std.proofs.lemmas.Bool.{cases_Bool, cases_lt}
use Rattle.std.proofs.lemmas.List.{map-append, length-map, length-replicate}
use Rattle.std.proofs.lemmas.List.Folds.{list_all_at}
use Rattle.std.proofs.lemmas.List.Elements.{All-head, All-tail}
use Rattle.std.proofs.lemmas.Option.{slice_get_within}
use Rattle.std.specs.Prelude.{if◌then◌else◌}
use Rattle.std.specs.List.{slice_get, list_all}
use Rattle.cnf_core.specs.declared.literal.Lit.{Lit}
use Rattle.cnf_core.specs.Literal.{negation_of}
use Rattle.refutation_check.specs.declared.log.Step.{Step}
use Rattle.refutation_check.specs.Chain.{Names, Reaches, IsChain, members_of, IsAccepted, EndsEmpty, IsRefutation}
use Rattle.refutation_check.specs.Lift.{lifted_hint, lifted}
use Rattle.refutation_check.specs.Renumbering.{Renumbers, kept_of, kept_number, is_free, free_steps, not_local}

module _ (renumber : ℕ → ℕ) (members others : List (List Lit)) where
  -- the clause of this hint keeps its name
  abbrev pub Sends : ℕ → Type 0
  Sends hint = (clause : List Lit) → Names members hint clause → Names others (renumber hint) clause

  reaches_renumbered : (falses : List Lit) (hints : List ℕ) (after : List Lit) → All Sends hints → Reaches members falses hints after → Reaches others falses (map renumber hints) after
  reaches_renumbered falses [] after sends same = same
  reaches_renumbered falses (hint ∷ hints) after sends (l, forced, rest) = (
    l,
    record { clause = forced.clause; named = All-head Sends hint hints sends forced.clause forced.named; unit = forced.unit },
    reaches_renumbered (falses ++ negation_of l ∷ []) hints after (All-tail Sends hint hints sends) rest,
  )

  sends_front : (before : List ℕ) (last : ℕ) → All Sends (before ++ last ∷ []) → All Sends before × Sends last
  sends_front [] last all = (λ k d h. absurd (omega arith), All-head Sends last [] all)
  sends_front (hint ∷ before) last all =
      let rest = sends_front before last (All-tail Sends hint (before ++ last ∷ []) all) in
      (All-cons hint before (All-head Sends hint (before ++ last ∷ []) all) rest.0, rest.1)
    where
      All-cons : (x : ℕ) (xs : List ℕ) → Sends x → All Sends xs → All Sends (x ∷ xs)
      All-cons x xs first rest zero d h = first
      All-cons x xs first rest (suc k) d h = rest k d (omega arith)

  pub chain_renumbered : (clause : List Lit) (hints : List ℕ) → Renumbers renumber hints members others → IsChain members clause hints → IsChain others clause (map renumber hints)
  chain_renumbered clause hints sends chain =
      let both = sends_front chain.before chain.last (subst (All Sends) chain.in_order sends) in
      record {
        before = map renumber chain.before;
        last = renumber chain.last;
        after = chain.after;
        in_order = ap (map renumber) chain.in_order ∙ map-append renumber chain.before (chain.last ∷ []);
        reached = reaches_renumbered clause chain.before chain.after both.0 chain.reached;
        refuted = record { clause = chain.refuted.clause; named = both.1 chain.refuted.clause chain.refuted.named; falsified = chain.refuted.falsified };
      }

-- an accepted log, step by step
module _ (given : List (List Lit)) (s : Step) (steps : List Step) where
  after_step : (rest : List Step) → (given ++ s.clause ∷ []) ++ map (λ (s : Step). s.clause) rest ≡ members_of given (s ∷ rest)
  after_step rest = append_assoc given (s.clause ∷ []) (map (λ (s : Step). s.clause) rest)

  pub accepted_first : IsAccepted given (s ∷ steps) → IsChain given s.clause s.hints
  accepted_first accepted = subst (λ (cs : List (List Lit)). IsChain cs s.clause s.hints) (append-nil given) (accepted 0 s (omega arith))

  pub accepted_rest : IsAccepted given (s ∷ steps) → IsAccepted (given ++ s.clause ∷ []) steps
  accepted_rest accepted i d h =
      subst (λ (cs : List (List Lit)). IsChain cs (get_or steps i d).clause (get_or steps i d).hints) (sym (after_step (take i steps))) (accepted (suc i) d (omega arith))

  pub accepted_cons : IsChain given s.clause s.hints → IsAccepted (given ++ s.clause ∷ []) steps → IsAccepted given (s ∷ steps)
  accepted_cons chain rest zero d h = subst (λ (cs : List (List Lit)). IsChain cs s.clause s.hints) (sym (append-nil given)) chain
  accepted_cons chain rest (suc i) d h =
      subst (λ (cs : List (List Lit)). IsChain cs (get_or steps i d).clause (get_or steps i d).hints) (after_step (take i steps)) (rest i d (omega arith))

pub accepted_append : (given : List (List Lit)) (steps more : List Step) → IsAccepted given steps → IsAccepted (members_of given steps) more → IsAccepted given (steps ++ more)
accepted_append given [] more accepted rest = subst (λ (cs : List (List Lit)). IsAccepted cs more) (append-nil given) rest
accepted_append given (s ∷ steps) more accepted rest =
    accepted_cons given s (steps ++ more) (accepted_first given s steps accepted)
    (accepted_append (given ++ s.clause ∷ []) steps more (accepted_rest given s steps accepted)
    (subst (λ (cs : List (List Lit)). IsAccepted cs more) (sym (after_step given s steps steps)) rest))

get_after : {X : Type 0} (xs ys : List X) (k : ℕ) → slice_get (xs ++ ys) (length xs + k) ≡ slice_get ys k
get_after [] ys k = rw (zero-add k) refl
get_after (x ∷ xs) ys k = let e : length (x ∷ xs) + k ≡ suc (length xs + k) = omega arith in rw e (get_after xs ys k)

get_before : {X : Type 0} (xs ys : List X) (k : ℕ) → k < length xs → slice_get (xs ++ ys) k ≡ slice_get xs k
get_before [] ys k h = absurd (omega arith)
get_before (x ∷ xs) ys zero h = refl
get_before (x ∷ xs) ys (suc k) h = get_before xs ys k (omega arith)

-- a clause after the first ones is named by a higher number, where others come between
names_lifted : (clauses local rest : List (List Lit)) (hint : ℕ) (clause : List Lit) → Names (clauses ++ rest) hint clause → Names ((clauses ++ local) ++ rest) (lifted_hint (length clauses) (length local) hint) clause
names_lifted clauses local rest hint clause named =
    elim (cases_lt (length clauses) hint) [
      | inl above ↦
          let place : ℕ = hint - 1 - length clauses in
          let old : hint - 1 ≡ length clauses + place = omega arith in
          let new : hint + length local - 1 ≡ length (clauses ++ local) + place = omega (arith, length-append clauses local) in
          let there : slice_get rest place ≡ Some clause = sym (get_after clauses rest place) ∙ (ap (slice_get (clauses ++ rest)) (sym old) ∙ named.1) in
          let is : lifted_hint (length clauses) (length local) hint ≡ hint + length local = ap (λ (b : Bool). if b then hint + length local else hint) (lt-ltb (length clauses) hint above) in
          rw is ((omega (arith, named.0), ap (slice_get ((clauses ++ local) ++ rest)) new ∙ (get_after (clauses ++ local) rest place ∙ there)))
      | inr below ↦
          let within : hint - 1 < length clauses = omega (arith, named.0) in
          let longer : hint - 1 < length (clauses ++ local) = omega (arith, named.0, length-append clauses local) in
          let there : slice_get clauses (hint - 1) ≡ Some clause = sym (get_before clauses rest (hint - 1) within) ∙ named.1 in
          let is : lifted_hint (length clauses) (length local) hint ≡ hint = ap (λ (b : Bool). if b then hint + length local else hint) (le-ltb (length clauses) hint below) in
          rw is ((named.0, get_before (clauses ++ local) rest (hint - 1) longer ∙ (get_before clauses local (hint - 1) within ∙ there)))
    ]

lifted_accepted : (clauses local rest : List (List Lit)) (steps : List Step) → IsAccepted (clauses ++ rest) steps → IsAccepted ((clauses ++ local) ++ rest) (lifted (length clauses) (length local) steps)
lifted_accepted clauses local rest [] accepted = λ i d h. absurd (omega arith)
lifted_accepted clauses local rest (s ∷ steps) accepted =
    let chain = chain_renumbered (lifted_hint (length clauses) (length local)) (clauses ++ rest) ((clauses ++ local) ++ rest) s.clause s.hints
    (λ k d h clause named. names_lifted clauses local rest (get_or s.hints k d) clause named) (accepted_first (clauses ++ rest) s steps accepted) in
    let more = subst (λ (cs : List (List Lit)). IsAccepted cs steps) (append_assoc clauses rest (s.clause ∷ [])) (accepted_rest (clauses ++ rest) s steps accepted) in
    accepted_cons ((clauses ++ local) ++ rest) (record { clause = s.clause; hints = map (lifted_hint (length clauses) (length local)) s.hints }) (lifted (length clauses) (length local) steps) chain
    (subst (λ (cs : List (List Lit)). IsAccepted cs (lifted (length clauses) (length local) steps)) (sym (append_assoc (clauses ++ local) rest (s.clause ∷ [])))
    (lifted_accepted clauses local (rest ++ s.clause ∷ []) steps more))

lifted_clauses : (base added : ℕ) (steps : List Step) → map (λ (s : Step). s.clause) (lifted base added steps) ≡ map (λ (s : Step). s.clause) steps
lifted_clauses base added [] = refl
lifted_clauses base added (s ∷ steps) = ap (λ (cs : List (List Lit)). s.clause ∷ cs) (lifted_clauses base added steps)

pub pool_and_log : (clauses local : List (List Lit)) (pool log : List Step) → IsAccepted clauses pool → IsAccepted (members_of (clauses ++ local) pool) log → IsAccepted (clauses ++ local) (lifted (length clauses) (length local) pool ++ log)
pool_and_log clauses local pool log pooled accepted =
    accepted_append (clauses ++ local) (lifted (length clauses) (length local) pool) log
    (subst (λ (cs : List (List Lit)). IsAccepted cs (lifted (length clauses) (length local) pool)) (append-nil (clauses ++ local))
    (lifted_accepted clauses local [] pool (subst (λ (cs : List (List Lit)). IsAccepted cs pool) (sym (append-nil clauses)) pooled)))
    (subst (λ (cs : List (List Lit)). IsAccepted ((clauses ++ local) ++ cs) log) (sym (lifted_clauses (length clauses) (length local) pool)) accepted)

-- the end of a log stays its end where steps come before it
get_append : (steps more : List Step) (s : Step) → slice_get more (length more - 1) ≡ Some s → slice_get (steps ++ more) (length (steps ++ more) - 1) ≡ Some s
get_append steps more s is =
    let within : length more - 1 < length more = slice_get_within more (length more - 1) s is in
    let last : length (steps ++ more) - 1 ≡ length steps + (length more - 1) = omega (arith, within, length-append steps more) in
    ap (slice_get (steps ++ more)) last ∙ (get_after steps more (length more - 1) ∙ is)

pub pool_and_refutation : (clauses local : List (List Lit)) (pool log : List Step) → IsAccepted clauses pool → IsAccepted (members_of (clauses ++ local) pool) log → EndsEmpty log → IsRefutation (clauses ++ local) (lifted (length clauses) (length local) pool ++ log)
pool_and_refutation clauses local pool log pooled accepted (s, there, empty) =
    (pool_and_log clauses local pool log pooled accepted, (s, get_append (lifted (length clauses) (length local) pool) log s there, empty))

-- a member that is kept has its new number
kept_at : (kept : List Bool) (members : List (List Lit)) (n : ℕ) (clause : List Lit) → slice_get members n ≡ Some clause → get_or kept n false ≡ true → (m : ℕ) × (kept_number (suc n) kept ≡ suc m) × (slice_get (kept_of kept members) m ≡ Some clause)
kept_at [] members n clause there is = absurd cc
kept_at (k ∷ kept) [] n clause there is = absurd cc
kept_at (true ∷ kept) (x ∷ members) zero clause there is = (0, refl, there)
kept_at (true ∷ kept) (x ∷ members) (suc n) clause there is = let rest = kept_at kept members n clause there is in (suc rest.0, omega (arith, rest.1), rest.2)
kept_at (false ∷ kept) (x ∷ members) zero clause there is = absurd cc
kept_at (false ∷ kept) (x ∷ members) (suc n) clause there is = let rest = kept_at kept members n clause there is in (rest.0, zero-add (kept_number (suc n) kept) ∙ rest.1, rest.2)

kept_named : (kept : List Bool) (members : List (List Lit)) (hint : ℕ) (clause : List Lit) → get_or kept (hint - 1) false ≡ true → Names members hint clause → Names (kept_of kept members) (kept_number hint kept) clause
kept_named kept members zero clause is named = absurd (let h : 1 ≤ 0 = named.0 in omega arith)
kept_named kept members (suc n) clause is named =
    let back : suc n - 1 ≡ n = omega arith in
    let at = kept_at kept members n clause (subst (λ (k : ℕ). slice_get members k ≡ Some clause) back named.1) (subst (λ (k : ℕ). get_or kept k false ≡ true) back is) in
    let front : suc at.0 - 1 ≡ at.0 = omega arith in
    rw at.1 ((omega arith, subst (λ (k : ℕ). slice_get (kept_of kept members) k ≡ Some clause) (sym front) at.2))

kept_append : (kept more : List Bool) (members others : List (List Lit)) → length kept ≡ length members → kept_of (kept ++ more) (members ++ others) ≡ kept_of kept members ++ kept_of more others
kept_append [] more [] others long = refl
kept_append [] more (m ∷ members) others long = absurd (omega arith)
kept_append (k ∷ kept) more [] others long = absurd (omega arith)
kept_append (true ∷ kept) more (m ∷ members) others long = ap (λ (cs : List (List Lit)). m ∷ cs) (kept_append kept more members others (omega arith))
kept_append (false ∷ kept) more (m ∷ members) others long = kept_append kept more members others (omega arith)

pub all_at : {X : Type 0} (p : X → Bool) (xs : List X) (k : ℕ) (d : X) → list_all p xs ≡ true → k < length xs → p (get_or xs k d) ≡ true
all_at p xs k d all h =
    elim (cases_Bool (p (get_or xs k d))) [
      | inl t ↦ t
      | inr f ↦ let e : list_all p xs ≡ false = list_all_at p xs k d h f in absurd cc
    ]

module _ (kept : List Bool) (members : List (List Lit)) (s : Step) (steps : List Step) where
  free_more : length kept ≡ length members → IsAccepted members (s ∷ steps) → (rest : (k : Bool) → IsAccepted (kept_of kept members ++ kept_of (k ∷ []) (s.clause ∷ [])) (free_steps (kept ++ k ∷ []) steps)) → (b : Bool) → is_free kept s.hints ≡ b →
      IsAccepted (kept_of kept members) (if b then record { clause = s.clause; hints = map (λ hint. kept_number hint kept) s.hints } ∷ free_steps (kept ++ true ∷ []) steps else free_steps (kept ++ false ∷ []) steps)
  free_more long accepted rest true is =
      accepted_cons (kept_of kept members) (record { clause = s.clause; hints = map (λ hint. kept_number hint kept) s.hints }) (free_steps (kept ++ true ∷ []) steps)
      (chain_renumbered (λ hint. kept_number hint kept) members (kept_of kept members) s.clause s.hints
      (λ k d h clause named. kept_named kept members (get_or s.hints k d) clause (all_at (λ (hint : ℕ). get_or kept (hint - 1) false) s.hints k d is h) named) (accepted_first members s steps accepted))
      (rest true)
  free_more long accepted rest false is = subst (λ (cs : List (List Lit)). IsAccepted cs (free_steps (kept ++ false ∷ []) steps)) (append-nil (kept_of kept members)) (rest false)

free_accepted : (kept : List Bool) (members : List (List Lit)) (steps : List Step) → length kept ≡ length members → IsAccepted members steps → IsAccepted (kept_of kept members) (free_steps kept steps)
free_accepted kept members [] long accepted = λ i d h. absurd (omega arith)
free_accepted kept members (s ∷ steps) long accepted =
    free_more kept members s steps long accepted
    (λ k. subst (λ (cs : List (List Lit)). IsAccepted cs (free_steps (kept ++ k ∷ []) steps)) (kept_append kept (k ∷ []) members (s.clause ∷ []) long)
    (free_accepted (kept ++ k ∷ []) (members ++ s.clause ∷ []) steps (omega (arith, long, length-append kept (k ∷ []), length-append members (s.clause ∷ []))) (accepted_rest members s steps accepted)))
    (is_free kept s.hints) refl

kept_all : (members : List (List Lit)) → kept_of (replicate (length members) true) members ≡ members
kept_all [] = refl
kept_all (m ∷ members) = ap (λ (cs : List (List Lit)). m ∷ cs) (kept_all members)

kept_none : (members : List (List Lit)) → kept_of (replicate (length members) false) members ≡ []
kept_none [] = refl
kept_none (m ∷ members) = kept_none members

pub free_of_local : (clauses local : List (List Lit)) (pool log : List Step) → IsAccepted (members_of (clauses ++ local) pool) log → IsAccepted (members_of clauses pool) (free_steps (not_local (length clauses) (length local) (length pool)) log)
free_of_local clauses local pool log accepted =
    let named : List (List Lit) = map (λ (s : Step). s.clause) pool in
    let as_many : length named ≡ length pool = length-map pool (λ (s : Step). s.clause) in
    let first : kept_of (replicate (length clauses) true ++ replicate (length local) false) (clauses ++ local) ≡ clauses =
    kept_append (replicate (length clauses) true) (replicate (length local) false) clauses local (length-replicate (length clauses) true) ∙ (ap₂ (λ (xs ys : List (List Lit)). xs ++ ys) (kept_all clauses) (kept_none local) ∙ append-nil clauses) in
    let last : kept_of (replicate (length pool) true) named ≡ named = ap (λ (n : ℕ). kept_of (replicate n true) named) (sym as_many) ∙ kept_all named in
    let marks : length (replicate (length clauses) true ++ replicate (length local) false) ≡ length (clauses ++ local) =
    omega (arith, length-append (replicate (length clauses) true) (replicate (length local) false), length-append clauses local, length-replicate (length clauses) true, length-replicate (length local) false) in
    let all : length (not_local (length clauses) (length local) (length pool)) ≡ length (members_of (clauses ++ local) pool) =
    omega (arith, marks, as_many, length-append (replicate (length clauses) true ++ replicate (length local) false) (replicate (length pool) true), length-append (clauses ++ local) named, length-replicate (length pool) true) in
    let whole : kept_of (not_local (length clauses) (length local) (length pool)) (members_of (clauses ++ local) pool) ≡ members_of clauses pool =
    kept_append (replicate (length clauses) true ++ replicate (length local) false) (replicate (length pool) true) (clauses ++ local) named marks ∙ ap₂ (λ (xs ys : List (List Lit)). xs ++ ys) first last in
    subst (λ (cs : List (List Lit)). IsAccepted cs (free_steps (not_local (length clauses) (length local) (length pool)) log)) whole
    (free_accepted (not_local (length clauses) (length local) (length pool)) (members_of (clauses ++ local) pool) log all accepted)
