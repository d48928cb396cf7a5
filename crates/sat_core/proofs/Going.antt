-- A search that is gone on with: steps that are learnt, and clauses that are blocked.
use Rattle.std.proofs.Common.{Bool, true, false, ◌≡◌, ◌≢◌, ◌<◌, ◌≤◌, ◌+◌, ◌-◌, ◌^◌, ◌++◌, [], ◌∷◌, ◌⊎◌, ℕ, zero, suc, Option, Some, None, List, length, get_or, take, map, All, arith, sym, ◌∙◌, ap, ap₂, inl, inr, refl, subst, zero-add, lt-ltb, le-ltb, append_assoc, append-nil, length-append}
use Rattle.std.proofs.Math.Seq.{take-length}
use Rattle.std.proofs.lemmas.Bool.{cases_lt}
use Rattle.std.proofs.lemmas.List.{get_or-map, take-map, length-map, length-take, map-append, take_more, get_or_append_left, get_or_push}
use Rattle.std.proofs.lemmas.Option.{slice_get-get_or, get_or_from_slice_get}
use Rattle.std.proofs.lemmas.List.Elements.{All-contains, All-head, All-tail, All-map, All-push, All-nil, All-take, All-weaker, Contains-append_left, Contains-append_right, Contains-append_cases, Contains-push, Contains-push_cases, Contains-get_or}
use Rattle.std.specs.Prelude.{if◌then◌else◌}
use Rattle.std.specs.List.{Contains, slice_get}
use Rattle.cnf_core.specs.declared.literal.Lit.{Lit}
use Rattle.cnf_core.specs.Formula.{Formula}
use Rattle.refutation_check.specs.declared.log.Step.{Step}
use Rattle.refutation_check.specs.Chain.{Names, IsChain, members_of, IsAccepted, IsNovel, Subsumes}
use Rattle.refutation_check.specs.Lift.{lifted_hint}
use Rattle.refutation_check.specs.SearchLog.{IsSearchLog, IsVarOf, HasNoEmpty, HasVarsOf, IsAllNovel}
use Rattle.refutation_check.proofs.Chains.{names_one}
use Rattle.refutation_check.proofs.Renumbered.{chain_renumbered}
use Rattle.sat_trail.specs.Trailed.{Trailed}
use Rattle.sat_trail.specs.Closed.{IsClosed}
use Rattle.sat_trail.proofs.Learned.{named_in}
use Rattle.sat_trail.proofs.Waiting.{chain_named}
use Rattle.sat_core.specs.Answers.{IsModel, NamesUnit, NamesNoUnits}
use Rattle.sat_core.specs.Assuming.{IsClash, IsSplit, Keeps, number_of, numbered}
use Rattle.sat_core.specs.Kept.{KeepsTo, HasMore, AreWithin, number_in, numbers_from, told_by}
use Rattle.sat_core.specs.Lent.{IsLearnt, with_units}
use Rattle.sat_core.specs.Search.{IsSoFar, IsVarIn}
use Rattle.sat_core.proofs.Answered.{given_count}
use Rattle.sat_core.proofs.Numbers.{get_after, get_before, names_more, members_number, number_no_unit}
use Rattle.sat_core.proofs.Numbered.{members_numbered, model_given}
use Rattle.sat_core.proofs.Searches.{front, model_front, members_more, members_none, members_taken, members_all, accepted_more, vars_more, novel_more, slice_get_below}
use Rattle.sat_core.proofs.SearchClauses.{keeps_all, keeps_more, keeps_members, never_closed}

-- a number of the first ones
pub number_front : (numbers more : List ℕ) (hint : ℕ) → 1 ≤ hint → hint ≤ length numbers → number_in (numbers ++ more) hint ≡ number_in numbers hint
number_front numbers more hint low high = get_or_append_left numbers more 0 (hint - 1) (omega (arith, low, high))

-- the last number
pub number_last : (numbers : List ℕ) (n hint : ℕ) → hint ≡ length numbers + 1 → number_in (numbers ++ n ∷ []) hint ≡ n
number_last numbers n hint is = get_or_push numbers n 0 (hint - 1) (omega (arith, is))

hints_agree : (g h : ℕ → ℕ) (P : ℕ → Type 0) → ((x : ℕ) → P x → g x ≡ h x) → (xs : List ℕ) → All P xs → map g xs ≡ map h xs
hints_agree g h P same [] all = refl
hints_agree g h P same (x ∷ xs) all = ap₂ (λ (y : ℕ) (ys : List ℕ). y ∷ ys) (same x (All-head P x xs all)) (hints_agree g h P same xs (All-tail P x xs all))

-- steps are the same by two numberings that agree on their hints
pub steps_agree : (g h : ℕ → ℕ) (P : ℕ → Type 0) → ((x : ℕ) → P x → g x ≡ h x) → (steps : List Step) → All (λ s. All P s.hints) steps → map (numbered g) steps ≡ map (numbered h) steps
steps_agree g h P same [] all = refl
steps_agree g h P same (s ∷ steps) all =
    ap₂ (λ (hints : List ℕ) (more : List Step). record { clause = s.clause; hints = hints } ∷ more) (hints_agree g h P same s.hints (All-head (λ (s : Step). All P s.hints) s steps all))
    (steps_agree g h P same steps (All-tail (λ (s : Step). All P s.hints) s steps all))

pub twice_numbered : (g h : ℕ → ℕ) (steps : List Step) → map (numbered g) (map (numbered h) steps) ≡ map (numbered (λ x. g (h x))) steps
twice_numbered g h [] = refl
twice_numbered g h (s ∷ steps) = ap₂ (λ (hints : List ℕ) (more : List Step). record { clause = s.clause; hints = hints } ∷ more) (twice s.hints) (twice_numbered g h steps)
  where
    twice : (xs : List ℕ) → map g (map h xs) ≡ map (λ x. g (h x)) xs
    twice [] = refl
    twice (x ∷ xs) = ap (λ (ys : List ℕ). g (h x) ∷ ys) (twice xs)

-- a log is accepted over other members, where each of its members has its number among these
pub accepted_sent : (number : ℕ → ℕ) (given others : List (List Lit)) (log : List Step) →
    ((more : List (List Lit)) (hint : ℕ) (c : List Lit) → Names (given ++ more) hint c → Names (others ++ more) (number hint) c) → IsAccepted given log → IsAccepted others (map (numbered number) log)
accepted_sent number given others log sends accepted i d h =
    let within : i < length log = omega (arith, h, length-map log (numbered number)) in
    let s : Step = get_or log i d in
    let at : get_or (map (numbered number) log) i d ≡ numbered number s = get_or-map (numbered number) log i d d within in
    let taken : members_of others (take i (map (numbered number) log)) ≡ members_of others (take i log) = ap (members_of others) (take-map (numbered number) i log) ∙ members_numbered others number (take i log) in
    let chain : IsChain (members_of others (take i log)) s.clause (map number s.hints) =
    chain_renumbered number (members_of given (take i log)) (members_of others (take i log)) s.clause s.hints (λ k e m c named. sends (map (λ (s : Step). s.clause) (take i log)) (get_or s.hints k e) c named) (accepted i d within) in
    rw (taken, at) chain

-- one more step is learnt
module _ (f : Formula) (local : List (List Lit)) (pool : List Step) (clauses : List (List Lit)) (vars : ℕ) (assumed : List Lit) (numbers : List ℕ) (steps : List Step) (was : KeepsTo f local pool clauses vars assumed numbers steps) (s : Step)
    (chain : IsChain clauses s.clause s.hints) (variables : All (λ l. IsVarOf clauses l.var) s.clause) (novel : IsNovel clauses s.clause) (some : s.clause ≢ []) (none : All (λ l. ¬ Contains assumed l) s.clause) where
  abbrev given : List (List Lit)
  given = members_of (f.clauses ++ local) pool

  abbrev members : List (List Lit)
  members = members_of given steps

  abbrev number : ℕ
  number = length given + length steps + 1

  abbrev later : List ℕ
  later = numbers ++ number ∷ []

  long : length members + 1 ≡ number
  long = omega (arith, length-append given (map (λ (s : Step). s.clause) steps), length-map steps (λ (s : Step). s.clause))

  hints_within : All (λ hint. (1 ≤ hint) × (hint ≤ length clauses)) s.hints
  hints_within = chain_named clauses s.clause s.hints chain

  same : (hint : ℕ) → (1 ≤ hint) × (hint ≤ length numbers) → number_in later hint ≡ number_in numbers hint
  same hint (low, high) = number_front numbers (number ∷ []) hint low high

  pub told_more : told_by later (steps ++ s ∷ []) ≡ told_by numbers steps ++ numbered (number_in numbers) s ∷ []
  told_more =
      map-append (numbered (number_in later)) steps (s ∷ [])
      ∙ ap₂ (λ (all : List Step) (hints : List ℕ). all ++ record { clause = s.clause; hints = hints } ∷ []) (steps_agree (number_in later) (number_in numbers) (λ hint. (1 ≤ hint) × (hint ≤ length numbers)) same steps was.within)
      (hints_agree (number_in later) (number_in numbers) (λ hint. (1 ≤ hint) × (hint ≤ length numbers)) same s.hints (All-weaker (λ hint. (1 ≤ hint) × (hint ≤ length clauses)) (λ hint. (1 ≤ hint) × (hint ≤ length numbers)) (λ hint both. (both.0, omega (arith, both.1, was.as_many))) s.hints hints_within))

  named_more : (hint : ℕ) (c : List Lit) → Names (clauses ++ s.clause ∷ []) hint c → Names (members ++ s.clause ∷ []) (number_in later hint) c
  named_more hint c named =
      elim (cases_lt (length clauses) hint) [
        | inr low ↦
            let before : Names clauses hint c = (named.0, sym (get_before clauses (s.clause ∷ []) (hint - 1) (omega (arith, named.0))) ∙ named.1) in
            subst (λ (n : ℕ). Names (members ++ s.clause ∷ []) n c) (sym (same hint (named.0, omega (arith, was.as_many)))) (names_more members (s.clause ∷ []) (number_in numbers hint) c (was.named hint c before))
        | inl high ↦
            let top : hint ≤ length (clauses ++ s.clause ∷ []) = named_in (clauses ++ s.clause ∷ []) hint c named in
            let last : hint - 1 ≡ length clauses + 0 = omega (arith, top, length-append clauses (s.clause ∷ [])) in
            let is : Some s.clause ≡ Some c = sym (get_after clauses (s.clause ∷ []) 0) ∙ (ap (slice_get (clauses ++ s.clause ∷ [])) (sym last) ∙ named.1) in
            let at : number - 1 ≡ length members + 0 = omega (arith, long) in
            let new : number_in later hint ≡ number = number_last numbers number hint (omega (arith, top, was.as_many, length-append clauses (s.clause ∷ []))) in
            rw new ((omega arith, ap (slice_get (members ++ s.clause ∷ [])) at ∙ (get_after members (s.clause ∷ []) 0 ∙ is)))
      ]

  no_unit_more : (hint : ℕ) → 1 ≤ hint → hint ≤ length (clauses ++ s.clause ∷ []) → NamesUnit (length f.clauses) local (number_in later hint) → ⊥
  no_unit_more hint low high unit =
      elim (cases_lt (length clauses) hint) [
        | inr within ↦ was.no_unit hint low within (subst (λ (n : ℕ). NamesUnit (length f.clauses) local n) (same hint (low, omega (arith, was.as_many))) unit)
        | inl above ↦
            let new : number_in later hint ≡ number = number_last numbers number hint (omega (arith, high, was.as_many, length-append clauses (s.clause ∷ []))) in
            let unit' : NamesUnit (length f.clauses) local number = subst (λ (n : ℕ). NamesUnit (length f.clauses) local n) new unit in
            let few : number - length f.clauses ≤ length local = named_in local (number - length f.clauses) (unit'.literal ∷ []) unit'.named in
            absurd (omega (arith, few, length-append (f.clauses ++ local) (map (λ (s : Step). s.clause) pool), length-append f.clauses local))
      ]

  step_hints : All (λ hint. ¬ NamesUnit (length f.clauses) local hint) (map (number_in numbers) s.hints)
  step_hints =
      All-map (λ hint. ¬ NamesUnit (length f.clauses) local hint) (number_in numbers) s.hints
      (λ j e m. let both = hints_within j e m in was.no_unit (get_or s.hints j e) both.0 both.1)

  step_chain : IsChain members s.clause (map (number_in numbers) s.hints)
  step_chain = chain_renumbered (number_in numbers) clauses members s.clause s.hints (λ k e m c named. was.named (get_or s.hints k e) c named) chain

  pub one_more : KeepsTo f local pool (clauses ++ s.clause ∷ []) vars assumed later (steps ++ s ∷ [])
  one_more =
      record {
        as_many = omega (arith, was.as_many, length-append numbers (number ∷ []), length-append clauses (s.clause ∷ []));
        few = omega (arith, was.few, length-append clauses (s.clause ∷ []), length-append steps (s ∷ []));
        of_formula = was.of_formula;
        in_range = was.in_range;
        keeps = subst (λ (cs : List (List Lit)). Keeps cs (clauses ++ s.clause ∷ []) assumed) (sym (members_more given steps s)) (keeps_more members clauses (s.clause ∷ []) assumed was.keeps);
        units = was.units;
        named = λ hint c named. subst (λ (cs : List (List Lit)). Names cs (number_in later hint) c) (sym (members_more given steps s)) (named_more hint c named);
        no_unit = no_unit_more;
        within =
            All-push (λ (s : Step). All (λ hint. (1 ≤ hint) × (hint ≤ length later)) s.hints) steps s
            (All-weaker (λ (s : Step). All (λ hint. (1 ≤ hint) × (hint ≤ length numbers)) s.hints) (λ (s : Step). All (λ hint. (1 ≤ hint) × (hint ≤ length later)) s.hints)
            (λ x all. All-weaker (λ hint. (1 ≤ hint) × (hint ≤ length numbers)) (λ hint. (1 ≤ hint) × (hint ≤ length later)) (λ hint both. (both.0, omega (arith, both.1, length-append numbers (number ∷ [])))) x.hints all) steps was.within)
            (All-weaker (λ hint. (1 ≤ hint) × (hint ≤ length clauses)) (λ hint. (1 ≤ hint) × (hint ≤ length later)) (λ hint both. (both.0, omega (arith, both.1, was.as_many, length-append numbers (number ∷ [])))) s.hints hints_within);
        accepted =
            subst (IsAccepted given) (sym told_more)
            (accepted_more given (told_by numbers steps) (numbered (number_in numbers) s) was.accepted
            (subst (λ (cs : List (List Lit)). IsChain cs s.clause (map (number_in numbers) s.hints)) (sym (members_numbered given (number_in numbers) steps)) step_chain));
        step_vars = vars_more given steps s was.step_vars (All-weaker (λ (l : Lit). IsVarOf clauses l.var) (λ (l : Lit). IsVarOf members l.var) (λ l of. record { clause = of.clause; literal = of.literal; given = was.keeps.of_kept of.clause of.given; member = of.member; same = of.same }) s.clause variables);
        novel = novel_more given steps s was.novel
            (keeps_all members clauses assumed was.keeps (λ other. ¬ Subsumes other s.clause) novel (λ l is subsumed. All-contains (λ (l : Lit). ¬ Contains assumed l) s.clause l none (All-head (Contains s.clause) l [] subsumed) is));
        no_empty = All-push (λ (s : Step). s.clause ≢ []) steps s was.no_empty some;
        none_assumed = All-push (λ (s : Step). All (λ l. ¬ Contains assumed l) s.clause) steps s was.none_assumed none;
        no_units = subst (NamesNoUnits (length f.clauses) local) (sym told_more)
            (All-push (λ (s : Step). s.clause ≢ [] → All (λ hint. ¬ NamesUnit (length f.clauses) local hint) s.hints) (told_by numbers steps) (numbered (number_in numbers) s) was.no_units (λ some'. step_hints));
      }

-- the steps of a search on the trail are learnt
module _ (f : Formula) (local : List (List Lit)) (pool : List Step) (clauses : List (List Lit)) (vars : ℕ) (assumed : List Lit) (numbers : List ℕ) (steps : List Step) (was : KeepsTo f local pool clauses vars assumed numbers steps)
    (log : List Step) (learnt : IsLearnt clauses assumed log) where
  abbrev first : ℕ
  first = length (members_of (f.clauses ++ local) pool) + length steps + 1

  up_to : (i : ℕ) → i ≤ length log → KeepsTo f local pool (members_of clauses (take i log)) vars assumed (numbers ++ numbers_from first i) (steps ++ take i log)
  up_to zero h = rw (members_none clauses, append-nil numbers, append-nil steps) was
  up_to (suc i) h =
      let d : Step = record { clause = []; hints = [] } in
      let in' : i < length log = omega (arith, h) in
      let s : Step = get_or log i d in
      let before = up_to i (omega (arith, h)) in
      let weaker : (l : Lit) → IsVarOf clauses l.var → IsVarOf (members_of clauses (take i log)) l.var = λ l of. record { clause = of.clause; literal = of.literal; given = Contains-append_left clauses (map (λ (s : Step). s.clause) (take i log)) of.clause of.given; member = of.member; same = of.same } in
      let next = one_more f local pool (members_of clauses (take i log)) vars assumed (numbers ++ numbers_from first i) (steps ++ take i log) before s (learnt.accepted i d in')
      (All-weaker (λ (l : Lit). IsVarOf clauses l.var) (λ (l : Lit). IsVarOf (members_of clauses (take i log)) l.var) weaker s.clause (learnt.vars i d in')) (learnt.novel i s (slice_get-get_or log i d in')) (learnt.no_empty i d in') (learnt.none_assumed i d in') in
      let back : suc i ≡ i + 1 = omega arith in
      let cut : length (take i log) ≡ i = omega (arith, h, length-take i log) in
      let one : length (members_of (f.clauses ++ local) pool) + length (steps ++ take i log) + 1 ≡ first + i = omega (arith, cut, length-append steps (take i log)) in
      let all_numbers : (numbers ++ numbers_from first i) ++ (length (members_of (f.clauses ++ local) pool) + length (steps ++ take i log) + 1) ∷ [] ≡ numbers ++ numbers_from first (suc i) =
      append_assoc numbers (numbers_from first i) ((length (members_of (f.clauses ++ local) pool) + length (steps ++ take i log) + 1) ∷ []) ∙ ap (λ (n : ℕ). numbers ++ (numbers_from first i ++ n ∷ [])) one in
      let taken : take (suc i) log ≡ take i log ++ s ∷ [] = ap (λ (n : ℕ). take n log) back ∙ take_more log i d in' in
      let all_steps : (steps ++ take i log) ++ s ∷ [] ≡ steps ++ take (suc i) log = append_assoc steps (take i log) (s ∷ []) ∙ ap (λ (ss : List Step). steps ++ ss) (sym taken) in
      let all_clauses : members_of clauses (take i log) ++ s.clause ∷ [] ≡ members_of clauses (take (suc i) log) = sym (members_taken clauses log i d in') ∙ ap (λ (n : ℕ). members_of clauses (take n log)) (sym back) in
      subst (λ (cs : List (List Lit)). KeepsTo f local pool cs vars assumed (numbers ++ numbers_from first (suc i)) (steps ++ take (suc i) log)) all_clauses
      (subst (λ (ns : List ℕ). KeepsTo f local pool (members_of clauses (take i log) ++ s.clause ∷ []) vars assumed ns (steps ++ take (suc i) log)) all_numbers
      (subst (λ (ss : List Step). KeepsTo f local pool (members_of clauses (take i log) ++ s.clause ∷ []) vars assumed ((numbers ++ numbers_from first i) ++ (length (members_of (f.clauses ++ local) pool) + length (steps ++ take i log) + 1) ∷ []) ss) all_steps next))

  pub all_learnt : KeepsTo f local pool (members_of clauses log) vars assumed (numbers ++ numbers_from first (length log)) (steps ++ log)
  all_learnt = subst (λ (ss : List Step). KeepsTo f local pool (members_of clauses ss) vars assumed (numbers ++ numbers_from first (length log)) (steps ++ ss)) (take-length log) (up_to (length log) (omega arith))

-- what is kept, told
module _ (f : Formula) (local : List (List Lit)) (pool : List Step) (clauses : List (List Lit)) (vars : ℕ) (assumed : List Lit) (numbers : List ℕ) (steps : List Step) (was : KeepsTo f local pool clauses vars assumed numbers steps) where
  abbrev all_given : List (List Lit)
  all_given = members_of (f.clauses ++ local) pool

  abbrev all_told : List Step
  all_told = told_by numbers steps

  told_within : (i : ℕ) → i < length all_told → i < length steps
  told_within i h = omega (arith, h, length-map steps (numbered (number_in numbers)))

  told_novel : IsAllNovel all_given all_told
  told_novel i t e =
      let in' : i < length all_told = slice_get_below all_told i t e in
      let within : i < length steps = told_within i in' in
      let s : Step = get_or steps i t in
      let is : numbered (number_in numbers) s ≡ t = sym (get_or-map (numbered (number_in numbers)) steps i t t within) ∙ get_or_from_slice_get all_told i t t e in
      let taken : members_of all_given (take i all_told) ≡ members_of all_given (take i steps) = ap (members_of all_given) (take-map (numbered (number_in numbers)) i steps) ∙ members_numbered all_given (number_in numbers) (take i steps) in
      let novel : IsNovel (members_of all_given (take i steps)) s.clause = was.novel i s (slice_get-get_or steps i t within) in
      subst (λ (s : Step). IsNovel (members_of all_given (take i all_told)) s.clause) is (subst (λ (cs : List (List Lit)). IsNovel cs s.clause) (sym taken) novel)

  -- where the empty clause isn't a chain over what is given, what is told is as the steps of an answer have to be
  pub told_so_far : ((hints : List ℕ) → IsChain all_given [] hints → ⊥) → IsSoFar all_given local (length f.clauses) all_told
  told_so_far open' =
      record {
        accepted = was.accepted;
        vars = All-map (λ (s : Step). All (λ (l : Lit). IsVarOf all_given l.var) s.clause) (numbered (number_in numbers)) steps was.step_vars;
        novel = told_novel;
        no_empty = All-map (λ (s : Step). s.clause ≢ []) (numbered (number_in numbers)) steps was.no_empty;
        no_units = was.no_units;
        direct = λ hints chain. absurd (open' hints chain);
      }

  -- what propagation refutes on the trail it refutes of what is given and told
  pub told_clash : IsClash clauses assumed → (falses : List Lit) → IsClosed (members_of all_given all_told) falses → ⊥
  told_clash clash falses closed =
      never_closed (members_of all_given steps) clauses assumed was.keeps clash falses (subst (λ (cs : List (List Lit)). IsClosed cs falses) (members_numbered all_given (number_in numbers) steps) closed)

  -- what satisfies the trail's clauses and what is assumed satisfies what is given
  pub kept_model : (values : List Bool) → (length values ≡ vars) × IsModel vars (with_units clauses assumed) values → IsModel f.vars (f.clauses ++ local) values
  kept_model values (long, model) =
      model_front f.vars (f.clauses ++ local) (map (λ (s : Step). s.clause) pool) values
      (model_front f.vars all_given (map (λ (s : Step). s.clause) steps) values (model_given (members_of all_given steps) clauses assumed f.vars vars values was.keeps long model was.of_formula))

-- where nothing was learnt
module _ (f : Formula) (local : List (List Lit)) (assumed : List Lit) (others : List (List Lit)) (places : List ℕ) (pool : List Step) (split : IsSplit local assumed others places) (vars : ℕ) (numbers : List ℕ) where
  abbrev of_trail : List (List Lit)
  of_trail = members_of (f.clauses ++ others) pool

  abbrev number_at : ℕ → ℕ
  number_at = number_of (length f.clauses) (length local) places

  pub keeps_none : length numbers ≡ length of_trail → ((i : ℕ) → i < length numbers → get_or numbers i 0 ≡ number_at (i + 1)) → f.vars ≤ vars → All (IsVarIn vars) assumed → KeepsTo f local pool of_trail vars assumed numbers []
  keeps_none long at low in_range =
      let given : List (List Lit) = members_of (f.clauses ++ local) pool in
      let same : (hint : ℕ) → 1 ≤ hint → hint ≤ length numbers → number_in numbers hint ≡ number_at hint = λ hint from to. at (hint - 1) (omega (arith, from, to)) ∙ (let back : hint - 1 + 1 ≡ hint = omega (arith, from) in ap number_at back) in
      record {
        as_many = long;
        few = omega (arith, split.few, given_count f.clauses local pool, given_count f.clauses others pool);
        of_formula = low;
        in_range = in_range;
        keeps = subst (λ (cs : List (List Lit)). Keeps cs of_trail assumed) (sym (members_none given)) (keeps_members f.clauses local assumed others places pool split);
        units = split.units;
        named = λ hint c named.
            let within : hint ≤ length numbers = omega (arith, long, named_in of_trail hint c named) in
            let sent = members_number f.clauses local assumed others places split pool [] hint c (subst (λ (cs : List (List Lit)). Names cs hint c) (sym (members_none of_trail)) named) in
            subst (λ (n : ℕ). Names (members_of given []) n c) (sym (same hint named.0 within)) sent;
        no_unit = λ hint from to unit. number_no_unit f.clauses local assumed others places split hint (subst (λ (n : ℕ). NamesUnit (length f.clauses) local n) (same hint from (omega (arith, long, to))) unit);
        within = All-nil (λ (s : Step). All (λ hint. (1 ≤ hint) × (hint ≤ length numbers)) s.hints);
        accepted = λ i d h. absurd (omega (arith, h));
        step_vars = All-nil (λ (s : Step). All (λ (l : Lit). IsVarOf given l.var) s.clause);
        novel = λ i s e. absurd (let h : i < 0 = slice_get_below [] i s e in omega (arith, h));
        no_empty = All-nil (λ (s : Step). s.clause ≢ []);
        none_assumed = All-nil (λ (s : Step). All (λ l. ¬ Contains assumed l) s.clause);
        no_units = All-nil (λ (s : Step). s.clause ≢ [] → All (λ hint. ¬ NamesUnit (length f.clauses) local hint) s.hints);
      }

-- one more step than those that a search on the trail learnt
module _ (f : Formula) (local : List (List Lit)) (pool : List Step) (clauses : List (List Lit)) (vars : ℕ) (assumed : List Lit) (numbers : List ℕ) (steps log : List Step)
    (was : KeepsTo f local pool (members_of clauses log) vars assumed numbers steps) (step : Step) (learnt : IsLearnt clauses assumed (log ++ step ∷ [])) where
  behind : length log < length (log ++ step ∷ [])
  behind = omega (arith, length-append log (step ∷ []))

  at_end : get_or (log ++ step ∷ []) (length log) step ≡ step
  at_end = get_or_push log step step (length log) refl

  step_after : IsChain (members_of clauses log) step.clause step.hints
  step_after =
      subst (λ (cs : List (List Lit)). IsChain cs step.clause step.hints) (ap (members_of clauses) (front log step))
      (subst (λ (s : Step). IsChain (members_of clauses (take (length log) (log ++ step ∷ []))) s.clause s.hints) at_end (learnt.accepted (length log) step behind))

  step_vars : All (λ (l : Lit). IsVarOf (members_of clauses log) l.var) step.clause
  step_vars =
      All-weaker (λ (l : Lit). IsVarOf clauses l.var) (λ (l : Lit). IsVarOf (members_of clauses log) l.var)
      (λ l of. record { clause = of.clause; literal = of.literal; given = Contains-append_left clauses (map (λ (s : Step). s.clause) log) of.clause of.given; member = of.member; same = of.same }) step.clause
      (subst (λ (s : Step). All (λ (l : Lit). IsVarOf clauses l.var) s.clause) at_end (learnt.vars (length log) step behind))

  step_novel : IsNovel (members_of clauses log) step.clause
  step_novel =
      subst (λ (cs : List (List Lit)). IsNovel cs step.clause) (ap (members_of clauses) (front log step))
      (learnt.novel (length log) step (slice_get-get_or (log ++ step ∷ []) (length log) step behind ∙ ap Some at_end))

  step_some : step.clause ≢ []
  step_some = subst (λ (s : Step). s.clause ≢ []) at_end (learnt.no_empty (length log) step behind)

  step_none : All (λ (l : Lit). ¬ Contains assumed l) step.clause
  step_none = subst (λ (s : Step). All (λ (l : Lit). ¬ Contains assumed l) s.clause) at_end (learnt.none_assumed (length log) step behind)

  pub more_of : (trail : Trailed) (depth : ℕ) → HasMore f local pool (record { trail = trail; depth = depth; assumed = assumed; numbers = numbers; steps = steps })
  more_of trail depth =
      record {
        more = record {
          trail = record { vars = vars; clauses = members_of clauses log ++ step.clause ∷ []; assigned = [] };
          depth = 0;
          assumed = assumed;
          numbers = numbers ++ (length (members_of (f.clauses ++ local) pool) + length steps + 1) ∷ [];
          steps = steps ++ step ∷ [];
        };
        holds = one_more f local pool (members_of clauses log) vars assumed numbers steps was step step_after step_vars step_novel step_some step_none;
        step = numbered (number_in numbers) step;
        told_more = told_more f local pool (members_of clauses log) vars assumed numbers steps was step step_after step_vars step_novel step_some step_none;
      }
