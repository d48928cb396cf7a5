-- The steps of a search on a trail, with the numbers of an answer.
use Rattle.std.proofs.Common.{Bool, ◌≡◌, ◌≢◌, ◌<◌, ◌≤◌, ◌+◌, ◌-◌, ◌^◌, ◌++◌, [], ◌∷◌, ℕ, List, length, get_or, take, map, All, arith, sym, ◌∙◌, ap, inl, inr, refl, subst, length-append}
use Rattle.std.proofs.lemmas.List.{get_or-map, take-map, length-map, length-take}
use Rattle.std.proofs.lemmas.Option.{slice_get-get_or, get_or_from_slice_get}
use Rattle.std.proofs.lemmas.List.Elements.{All-contains, All-head, All-map, All-push, All-nil, All-take, All-weaker, Contains-append_left, Contains-append_right, Contains-get_or}
use Rattle.std.specs.List.{Contains}
use Rattle.std.specs.Bool.{IsTrue}
use Rattle.cnf_core.specs.declared.literal.Lit.{Lit}
use Rattle.cnf_core.specs.Literal.{HasVarsUpTo}
use Rattle.cnf_core.specs.Valuation.{clause_value, value_of}
use Rattle.refutation_check.specs.declared.log.Step.{Step}
use Rattle.refutation_check.specs.Chain.{Names, IsChain, members_of, IsAccepted, IsNovel, EndsEmpty, Subsumes}
use Rattle.refutation_check.specs.SearchLog.{IsSearchLog, IsVarOf, HasNoEmpty, HasVarsOf}
use Rattle.refutation_check.proofs.Renumbered.{chain_renumbered}
use Rattle.sat_core.specs.Answers.{HasEmptyOnlyLast, IsModel, NamesUnit, NamesNoUnits}
use Rattle.sat_core.specs.Assuming.{Keeps, numbered}
use Rattle.sat_core.specs.Lent.{IsLearnt, with_units}
use Rattle.sat_core.specs.Search.{IsSoFar}
use Rattle.sat_core.proofs.Descents.{closed_no_chain}
use Rattle.sat_core.proofs.Numbers.{chain_within}
use Rattle.sat_core.proofs.Searches.{has_unit, accepted_more, vars_more, novel_all, novel_but_last, ends_empty, front, slice_get_below}
use Rattle.sat_core.proofs.SearchClauses.{keeps_all, keeps_more, given_closed}

clauses_numbered : (number : ℕ → ℕ) (log : List Step) → map (λ (s : Step). s.clause) (map (numbered number) log) ≡ map (λ (s : Step). s.clause) log
clauses_numbered number [] = refl
clauses_numbered number (s ∷ log) = ap (λ (cs : List (List Lit)). s.clause ∷ cs) (clauses_numbered number log)

-- the members are the same under other numbers of the steps' hints
pub members_numbered : (given : List (List Lit)) (number : ℕ → ℕ) (log : List Step) → members_of given (map (numbered number) log) ≡ members_of given log
members_numbered given number log = ap (λ (cs : List (List Lit)). given ++ cs) (clauses_numbered number log)

-- the hints of an accepted log are small where its members are few
pub hints_small : (clauses : List (List Lit)) (log : List Step) → IsAccepted clauses log → length clauses + length log < 2 ^ 30 → All (λ s. All (λ hint. hint < 2 ^ 30) s.hints) log
hints_small clauses log accepted few k d h =
    let members : List (List Lit) = members_of clauses (take k log) in
    let long : length members ≡ length clauses + length (take k log) = length-append clauses (map (λ (s : Step). s.clause) (take k log)) ∙ ap (λ (n : ℕ). length clauses + n) (length-map (take k log) (λ (s : Step). s.clause)) in
    All-weaker (λ (hint : ℕ). hint ≤ length members) (λ (hint : ℕ). hint < 2 ^ 30) (λ hint low. omega (arith, low, long, length-take k log, few, h)) (get_or log k d).hints (chain_within members (get_or log k d).clause (get_or log k d).hints (accepted k d h))

module _ (given kept local : List (List Lit)) (assumed : List Lit) (clauses : ℕ) (keeps : Keeps given kept assumed) (number : ℕ → ℕ)
    (sends : (log : List Step) (hint : ℕ) (c : List Lit) → Names (members_of kept log) hint c → Names (members_of given log) (number hint) c) (free : (hint : ℕ) → ¬ NamesUnit clauses local (number hint))
    (log : List Step) (was : IsLearnt kept assumed log) where
  abbrev steps : List Step
  steps = map (numbered number) log

  below : (i : ℕ) → i < length steps → i < length log
  below i h = omega (arith, h, length-map log (numbered number))

  at : (i : ℕ) (d : Step) → i < length steps → get_or steps i d ≡ numbered number (get_or log i d)
  at i d h = get_or-map (numbered number) log i d d (below i h)

  taken : (i : ℕ) → members_of given (take i steps) ≡ members_of given (take i log)
  taken i = ap (members_of given) (take-map (numbered number) i log) ∙ members_numbered given number (take i log)

  accepted : IsAccepted given steps
  accepted i d h =
      let s : Step = get_or log i d in
      let chain : IsChain (members_of given (take i log)) s.clause (map number s.hints) =
      chain_renumbered number (members_of kept (take i log)) (members_of given (take i log)) s.clause s.hints (λ k e m c named. sends (take i log) (get_or s.hints k e) c named) (was.accepted i d (below i h)) in
      rw (taken i, at i d h) chain

  vars_of : HasVarsOf given steps
  vars_of =
      let weaker : (v : ℕ) → IsVarOf kept v → IsVarOf given v = λ v of. record { clause = of.clause; literal = of.literal; given = keeps.of_kept of.clause of.given; member = of.member; same = of.same } in
      All-map (λ (s : Step). All (λ (l : Lit). IsVarOf given l.var) s.clause) (numbered number) log
      (λ k d h. All-weaker (λ (l : Lit). IsVarOf kept l.var) (λ (l : Lit). IsVarOf given l.var) (λ l of. weaker l.var of) (get_or log k d).clause (was.vars k d h))

  novel : (i : ℕ) (t : Step) → i < length log → IsNovel (members_of given (take i log)) (get_or log i t).clause
  novel i t h =
      let s : Step = get_or log i t in
      let more : List (List Lit) = map (λ (s : Step). s.clause) (take i log) in
      keeps_all (given ++ more) (kept ++ more) assumed (keeps_more given kept more assumed keeps) (λ other. ¬ Subsumes other s.clause) (was.novel i s (slice_get-get_or log i t h))
      (λ l is subsumed. All-contains (λ (l : Lit). ¬ Contains assumed l) s.clause l (was.none_assumed i t h) (All-head (Contains s.clause) l [] subsumed) is)

  -- the steps with the numbers of an answer are as an answer's have to be
  pub so_far : IsSoFar given local clauses steps
  so_far =
      record {
        accepted = accepted;
        vars = vars_of;
        novel = λ i t e.
            let in' : i < length steps = slice_get_below steps i t e in
            let is : numbered number (get_or log i t) ≡ t = sym (at i t in') ∙ get_or_from_slice_get steps i t t e in
            subst (λ (s : Step). IsNovel (members_of given (take i steps)) s.clause) is (subst (λ (cs : List (List Lit)). IsNovel cs (get_or log i t).clause) (sym (taken i)) (novel i t (below i in')));
        no_empty = All-map (λ (s : Step). s.clause ≢ []) (numbered number) log was.no_empty;
        no_units = All-map (λ (s : Step). s.clause ≢ [] → All (λ hint. ¬ NamesUnit clauses local hint) s.hints) (numbered number) log
            (λ k d h some. All-map (λ hint. ¬ NamesUnit clauses local hint) number (get_or log k d).hints (λ j e m. free (get_or (get_or log k d).hints j e)));
        direct = λ hints chain. elim was.direct [
          | inl none ↦ ap (map (numbered number)) none
          | inr permits ↦ absurd (closed_no_chain given permits.falses (given_closed given kept assumed keeps permits.falses permits.consistent permits.closed permits.is_true) hints chain)
        ];
      }

module _ (given local : List (List Lit)) (clauses : ℕ) (log : List Step) (was : IsSoFar given local clauses log) where
  pub log_so_far : IsSearchLog given log
  log_so_far = record { accepted = was.accepted; vars = was.vars; novel = novel_all given log was.novel; direct = λ hints chain. inl (was.direct hints chain) }

  pub last_so_far : HasEmptyOnlyLast log
  last_so_far = All-take (λ (s : Step). s.clause ≢ []) (length log - 1) log was.no_empty

  -- a last empty step
  module _ (s : Step) (empty : s.clause ≡ []) (chain : IsChain (members_of given log) s.clause s.hints) where
    pub end_accepted : IsAccepted given (log ++ s ∷ [])
    end_accepted = accepted_more given log s was.accepted chain

    pub end_vars : HasVarsOf given (log ++ s ∷ [])
    end_vars = vars_more given log s was.vars (subst (All (λ (l : Lit). IsVarOf (members_of given log) l.var)) (sym empty) (All-nil (λ (l : Lit). IsVarOf (members_of given log) l.var)))

    pub end_empty : EndsEmpty (log ++ s ∷ [])
    end_empty = ends_empty given log s empty

    pub end_last : HasEmptyOnlyLast (log ++ s ∷ [])
    end_last =
        let last : length (log ++ s ∷ []) - 1 ≡ length log = omega (arith, length-append log (s ∷ [])) in
        subst HasNoEmpty (sym (ap (λ (n : ℕ). take n (log ++ s ∷ [])) last ∙ front log s)) was.no_empty

    pub end_log : IsSearchLog given (log ++ s ∷ [])
    end_log =
        record {
          accepted = end_accepted;
          vars = end_vars;
          novel = novel_but_last given log s was.novel empty;
          direct = λ hints chain. inr (s, ap (λ (ss : List Step). ss ++ s ∷ []) (was.direct hints chain), empty);
        }

    pub end_no_units : NamesNoUnits clauses local (log ++ s ∷ [])
    end_no_units = All-push (λ (s : Step). s.clause ≢ [] → All (λ hint. ¬ NamesUnit clauses local hint) s.hints) log s was.no_units (λ some. absurd (some empty))

-- what satisfies the clauses that a trail keeps, with what is assumed, satisfies all that is given
pub model_given : (given kept : List (List Lit)) (assumed : List Lit) (first vars : ℕ) (values : List Bool) → Keeps given kept assumed → length values ≡ vars → IsModel vars (with_units kept assumed) values → first ≤ vars → IsModel first given values
model_given given kept assumed first vars values keeps long model low =
    let units : List (List Lit) = map (λ (l : Lit). l ∷ []) assumed in
    let has : (c : List Lit) → Contains given c → Contains (kept ++ units) c =
    λ c h. elim (keeps.each c h) [
      | inl there ↦ Contains-append_left kept units c there
      | inr (l, is, there) ↦ subst (Contains (kept ++ units)) (sym is) (Contains-append_right kept units (l ∷ []) (has_unit assumed l there))
    ] in
    let each : (P : List Lit → Type 0) → All P (kept ++ units) → All P given = λ P all k d h. All-contains P (kept ++ units) (get_or given k d) all (has (get_or given k d) (Contains-get_or given k d h)) in
    record {
      enough = omega (arith, long, low);
      within = each (HasVarsUpTo (length values)) model.within;
      satisfied = each (λ c. IsTrue (clause_value (value_of values) c)) model.satisfied;
    }
