-- The clauses that a search is given, and those that its trail keeps.
use Rattle.std.proofs.Common.{◌≡◌, ◌≤◌, ◌++◌, [], ◌∷◌, ◌⊎◌, ℕ, List, get_or, map, All, arith, sym, inl, inr, subst}
use Rattle.std.proofs.lemmas.List.Elements.{All-nil, All-cons, All-head, All-contains, Contains-append_left, Contains-append_right, Contains-append_cases, Contains-get_or}
use Rattle.std.specs.List.{Contains}
use Rattle.cnf_core.specs.declared.literal.Lit.{Lit}
use Rattle.cnf_core.specs.Literal.{negation_of, IsVariable, IsClause, HasVarsUpTo}
use Rattle.refutation_check.specs.declared.log.Step.{Step}
use Rattle.refutation_check.specs.Chain.{IsFalsified, IsUnit, members_of, IsNovel, Subsumes}
use Rattle.sat_trail.specs.Closed.{IsClosed}
use Rattle.sat_trail.proofs.Learned.{named_contains}
use Rattle.sat_core.specs.Assuming.{IsSplit, AreTrue, IsClash, Keeps}
use Rattle.sat_core.specs.Search.{IsVarIn}
use Rattle.sat_core.proofs.Assumes.{unit_closed}

pub keeps_more : (given kept more : List (List Lit)) (assumed : List Lit) → Keeps given kept assumed → Keeps (given ++ more) (kept ++ more) assumed
keeps_more given kept more assumed k =
    record {
      of_kept = λ c h. elim (Contains-append_cases kept more c h) [ inl first ↦ Contains-append_left given more c (k.of_kept c first) | inr later ↦ Contains-append_right given more c later ];
      of_assumed = λ l h. Contains-append_left given more (l ∷ []) (k.of_assumed l h);
      each = λ c h. elim (Contains-append_cases given more c h) [
        | inl first ↦ elim (k.each c first) [ inl there ↦ inl (Contains-append_left kept more c there) | inr unit ↦ inr unit ]
        | inr later ↦ inl (Contains-append_right kept more c later)
      ];
    }

keeps_after : (front given kept : List (List Lit)) (assumed : List Lit) → Keeps given kept assumed → Keeps (front ++ given) (front ++ kept) assumed
keeps_after front given kept assumed k =
    record {
      of_kept = λ c h. elim (Contains-append_cases front kept c h) [ inl first ↦ Contains-append_left front given c first | inr later ↦ Contains-append_right front given c (k.of_kept c later) ];
      of_assumed = λ l h. Contains-append_right front given (l ∷ []) (k.of_assumed l h);
      each = λ c h. elim (Contains-append_cases front given c h) [
        | inl first ↦ inl (Contains-append_left front kept c first)
        | inr later ↦ elim (k.each c later) [ inl there ↦ inl (Contains-append_right front kept c there) | inr unit ↦ inr unit ]
      ];
    }

keeps_split : (local : List (List Lit)) (assumed : List Lit) (others : List (List Lit)) (places : List ℕ) → IsSplit local assumed others places → Keeps local others assumed
keeps_split local assumed others places s =
    record {
      of_kept = λ c h. subst (Contains local) h.2 (named_contains local (get_or places h.0 0) (get_or others h.0 c) (s.named h.0 0 c h.1));
      of_assumed = s.units;
      each = s.each;
    }

pub keeps_asked : (clauses local : List (List Lit)) (assumed : List Lit) (others : List (List Lit)) (places : List ℕ) → IsSplit local assumed others places → Keeps (clauses ++ local) (clauses ++ others) assumed
keeps_asked clauses local assumed others places s = keeps_after clauses local others assumed (keeps_split local assumed others places s)

pub keeps_members : (clauses local : List (List Lit)) (assumed : List Lit) (others : List (List Lit)) (places : List ℕ) (pool : List Step) → IsSplit local assumed others places → Keeps (members_of (clauses ++ local) pool) (members_of (clauses ++ others) pool) assumed
keeps_members clauses local assumed others places pool s = keeps_more (clauses ++ local) (clauses ++ others) (map (λ (s : Step). s.clause) pool) assumed (keeps_asked clauses local assumed others places s)

module _ (given kept : List (List Lit)) (assumed : List Lit) (keeps : Keeps given kept assumed) where
  -- what is so of what is kept and of the others is so of all that is given
  pub keeps_all : (P : List Lit → Type 0) → All P kept → ((l : Lit) → Contains assumed l → P (l ∷ [])) → All P given
  keeps_all P all units k d h =
      elim (keeps.each (get_or given k d) (Contains-get_or given k d h)) [
        | inl there ↦ All-contains P kept (get_or given k d) all there
        | inr (l, is, a) ↦ subst P (sym is) (units l a)
      ]

  module _ (falses : List Lit) where
    abbrev IsQuiet : List Lit → Type 0
    IsQuiet c = (¬ IsFalsified (Contains falses) c) × ((u : Lit) → ¬ IsUnit (Contains falses) c u)

    true_at : AreTrue falses assumed → (l : Lit) → Contains assumed l → Contains falses (negation_of l)
    true_at all l is = All-contains (λ (l : Lit). Contains falses (negation_of l)) assumed l all is

    -- where what is kept forces no more, and what is assumed is true, all that is given forces no more
    pub given_closed : ((l : Lit) → Contains falses l → Contains falses (negation_of l) → ⊥) → IsClosed kept falses → AreTrue falses assumed → IsClosed given falses
    given_closed consistent closed all =
        keeps_all IsQuiet closed (λ l is. All-head IsQuiet (l ∷ []) [] (unit_closed falses l (true_at all l is) (λ c. consistent l c (true_at all l is))))

    -- a clause of false literals that is novel over what is kept is so over all that is given
    pub given_novel : ((l : Lit) → Contains falses l → Contains falses (negation_of l) → ⊥) → AreTrue falses assumed → (clause : List Lit) → All (Contains falses) clause → IsNovel kept clause → IsNovel given clause
    given_novel consistent all clause is_false novel =
        keeps_all (λ other. ¬ Subsumes other clause) novel
        (λ l is subsumed. consistent l (All-contains (Contains falses) clause l is_false (All-head (Contains clause) l [] subsumed)) (true_at all l is))

  pub never_closed : IsClash kept assumed → (falses : List Lit) → IsClosed given falses → ⊥
  never_closed clash falses closed =
      clash falses (λ k d h. All-contains (IsQuiet falses) given (get_or kept k d) closed (keeps.of_kept (get_or kept k d) (Contains-get_or kept k d h)))
      (λ k d h. All-cons (IsQuiet falses) (get_or assumed k d ∷ []) [] (All-contains (IsQuiet falses) given (get_or assumed k d ∷ []) closed (keeps.of_assumed (get_or assumed k d) (Contains-get_or assumed k d h))) (All-nil (IsQuiet falses)))

  -- the assumed literals are of clauses of one literal
  pub given_clauses : All IsClause kept → All (λ l. IsVariable l.var) assumed → All IsClause given
  given_clauses clauses variables =
      keeps_all IsClause clauses (λ l is. record {
        rising = λ i j d less h. absurd (omega arith);
        variables = All-cons (λ (x : Lit). IsVariable x.var) l [] (All-contains (λ (x : Lit). IsVariable x.var) assumed l variables is) (All-nil (λ (x : Lit). IsVariable x.var));
      })

  pub given_vars : (vars : ℕ) → All (HasVarsUpTo vars) kept → All (IsVarIn vars) assumed → All (HasVarsUpTo vars) given
  given_vars vars within in_range =
      keeps_all (HasVarsUpTo vars) within (λ l is. All-cons (λ (x : Lit). x.var ≤ vars) l [] (All-contains (IsVarIn vars) assumed l in_range is).1 (All-nil (λ (x : Lit). x.var ≤ vars)))
