-- Where a descent stops, and how it goes on.
use Rattle.std.proofs.Common.{◌≡◌, ◌<◌, ◌≤◌, ◌+◌, ◌++◌, [], ◌∷◌, ℕ, Bool, true, false, not, Some, None, List, length, get_or, take, arith, sym, ap, inl, inr, refl, subst}
use Rattle.std.proofs.lemmas.List.{take_all}
use Rattle.std.proofs.lemmas.List.Elements.{All-nil, All-cons, All-head, All-contains, All-more, Contains-get_or, Contains-push}
use Rattle.std.proofs.Math.Bool.{beq}
use Rattle.std.specs.Prelude.{min}
use Rattle.std.specs.List.{Contains}
use Rattle.cnf_core.specs.declared.literal.Lit.{Lit}
use Rattle.cnf_core.specs.Literal.{negation_of}
use Rattle.refutation_check.specs.Chain.{Refutes}
use Rattle.refutation_check.specs.Assumed.{IsOpen}
use Rattle.refutation_check.proofs.Sights.{lit_equal}
use Rattle.unit_propagation.specs.declared.assignment_trail.assigned.Assigned.{Assigned}
use Rattle.unit_propagation.specs.Assignments.Trail.{IsTrail, ForcesMore, falses_of, level_of}
use Rattle.sat_trail.specs.Trailed.{Trailed, IsValue}
use Rattle.sat_trail.specs.Closed.{IsClosed, IsClosedBelow}
use Rattle.sat_core.specs.Assuming.{AreTrue, IsAssumedFirst, IsClash}
use Rattle.sat_core.specs.Search.{IsStuck, IsAssumedTo}
use Rattle.unit_propagation.proofs.Assignments.Trails.{falses_of-push, level_of-push}
use Rattle.sat_core.proofs.Assumes.{decisions_forced, decisions_more, decision_above, first_forced, first_more, first_lowered, assumed_up_to, assumed_while, assumed_more, clash_of_clause, clash_of_literal, consistent, true_forced, true_more}

-- what propagation forces after a trail that was closed before each decision
module _ (old new : Trailed) (same : new.clauses ≡ old.clauses) (forces : ForcesMore old.assigned new.assigned) where
  pub closed_below_forced : IsClosedBelow old.clauses old.assigned → IsClosedBelow new.clauses new.assigned
  closed_below_forced closed_below =
      subst (λ (cs : List (List Lit)). IsClosedBelow cs new.assigned) (sym same) (decisions_forced (λ before a. IsClosed old.clauses (falses_of before)) old.assigned closed_below new.assigned forces)

  module _ (assumed : List Lit) (depth : ℕ) (closed_below : IsClosedBelow old.clauses old.assigned) (first : IsAssumedFirst assumed depth old.assigned) (trail : IsTrail new.clauses new.assigned) (number : ℕ) (refuted : Refutes new.clauses (falses_of new.assigned) number) where
    -- a falsified clause above what is assumed
    pub stuck_above : depth < level_of new.assigned → IsStuck assumed new number
    stuck_above above =
        let d : Assigned = record { lit = record { var = 0; positive = false }; level = 0; reason = None } in
        let below = closed_below_forced closed_below in
        let all : level_of (take (length new.assigned) new.assigned) ≡ level_of new.assigned = ap level_of (take_all (length new.assigned) new.assigned (omega arith)) in
        let r = decision_above new.clauses new.assigned trail depth (length new.assigned) (omega arith) (omega (arith, all, above)) in
        record {
          refuted = refuted;
          closed_below = below;
          place = r.0;
          closed = below r.0 d r.1 (r.2 d);
          assumed_true = elim (first_forced old.assigned assumed depth first new.assigned forces r.0 d r.1 (r.2 d)) [
            | inl here ↦ let high = r.3 d in let low : (get_or new.assigned r.0 d).level ≤ depth = here.0 in absurd (omega arith)
            | inr there ↦ there.1
          ];
        }

    -- a falsified clause where nothing but what is assumed was decided
    pub clash_below : level_of new.assigned ≤ depth → IsClash new.clauses assumed
    clash_below low =
        clash_of_clause new.clauses new.assigned trail assumed (assumed_up_to new.clauses new.assigned trail assumed depth (first_forced old.assigned assumed depth first new.assigned forces) low) number refuted

-- a decision where nothing is left for propagation
pub closed_below_more : (trail : Trailed) (a : Assigned) → IsClosed trail.clauses (falses_of trail.assigned) → IsClosedBelow trail.clauses trail.assigned → IsClosedBelow trail.clauses (trail.assigned ++ a ∷ [])
closed_below_more trail a closed closed_below = decisions_more (λ before b. IsClosed trail.clauses (falses_of before)) trail.assigned closed_below a closed

pub beq_differ : (a b : Bool) → beq a b ≡ false → a ≡ b → ⊥
beq_differ true true h e = cc
beq_differ true false h e = cc
beq_differ false true h e = cc
beq_differ false false h e = cc

-- what the value of an assumed literal says
pub value_true : (falses : List Lit) (l : Lit) (value : Bool) → IsValue falses l.var (Some value) → value ≡ l.positive → Contains falses (negation_of l)
value_true falses l value is same = subst (λ (b : Bool). Contains falses (record { var = l.var; positive = not b })) same is

not_other : (a b : Bool) → (a ≡ b → ⊥) → not a ≡ b
not_other true true differ = absurd (differ refl)
not_other true false differ = refl
not_other false true differ = refl
not_other false false differ = absurd (differ refl)

pub value_false : (falses : List Lit) (l : Lit) (value : Bool) → IsValue falses l.var (Some value) → (value ≡ l.positive → ⊥) → Contains falses l
value_false falses l value is differ = subst (Contains falses) (lit_equal (record { var = l.var; positive = not value }) l refl (not_other value l.positive differ)) is

pub value_open : (falses : List Lit) (l : Lit) → IsValue falses l.var None → IsOpen falses l
value_open falses l is = (is l.positive, is (not l.positive))

module _ (trail : Trailed) (assumed : List Lit) (depth : ℕ) (ordered : IsTrail trail.clauses trail.assigned) (first : IsAssumedFirst assumed depth trail.assigned) (l : Lit) (is : Contains assumed l) where
  all_true : AreTrue (falses_of trail.assigned) assumed → Contains (falses_of trail.assigned) (negation_of l)
  all_true all = All-contains (λ (l : Lit). Contains (falses_of trail.assigned) (negation_of l)) assumed l all is

  -- an assumed literal is false
  pub clash_of_false : Contains (falses_of trail.assigned) l → IsClash trail.clauses assumed
  clash_of_false c =
      clash_of_literal trail.clauses trail.assigned ordered assumed
      (assumed_while trail.clauses trail.assigned ordered assumed depth first (λ all. consistent trail.clauses trail.assigned ordered l c (all_true all))) l is c

  -- an assumed literal is open
  pub some_open : IsOpen (falses_of trail.assigned) l → AreTrue (falses_of trail.assigned) assumed → ⊥
  some_open is_open all = is_open.1 (all_true all)

-- one more assumed literal is true
pub assumed_next : (trail : Trailed) (assumed : List Lit) (place depth : ℕ) (d : Lit) → IsAssumedTo assumed place depth trail → place < length assumed → Contains (falses_of trail.assigned) (negation_of (get_or assumed place d)) → IsAssumedTo assumed (place + 1) depth trail
assumed_next trail assumed place depth d was h here =
    record {
      ordered = was.ordered;
      closed = was.closed;
      closed_below = was.closed_below;
      first = was.first;
      so_far = All-more (λ (l : Lit). Contains (falses_of trail.assigned) (negation_of l)) assumed place d h was.so_far here;
    }

-- all of them are
pub assumed_all : (trail : Trailed) (assumed : List Lit) (place depth : ℕ) → IsAssumedTo assumed place depth trail → length assumed ≤ place → AreTrue (falses_of trail.assigned) assumed
assumed_all trail assumed place depth was h = subst (AreTrue (falses_of trail.assigned)) (take_all place assumed h) was.so_far

pub assumed_whole : (trail : Trailed) (assumed : List Lit) (place depth : ℕ) → IsAssumedTo assumed place depth trail → length assumed ≤ place → IsAssumedTo assumed (length assumed) depth trail
assumed_whole trail assumed place depth was h =
    record {
      ordered = was.ordered;
      closed = was.closed;
      closed_below = was.closed_below;
      first = was.first;
      so_far = subst (AreTrue (falses_of trail.assigned)) (sym (take_all (length assumed) assumed (omega arith))) (assumed_all trail assumed place depth was h);
    }

-- an assumed literal was decided, and propagation came after it
module _ (old new : Trailed) (assumed : List Lit) (place depth level : ℕ) (d : Lit) (was : IsAssumedTo assumed place depth old) (h : place < length assumed) (is_open : IsOpen (falses_of old.assigned) (get_or assumed place d)) (is_level : level ≡ level_of old.assigned + 1) where
  there : Contains assumed (get_or assumed place d)
  there = Contains-get_or assumed place d h

  mid_first : IsAssumedFirst assumed level (old.assigned ++ record { lit = get_or assumed place d; level = level_of old.assigned + 1; reason = None } ∷ [])
  mid_first =
      let a : Assigned = record { lit = get_or assumed place d; level = level_of old.assigned + 1; reason = None } in
      subst (λ (n : ℕ). IsAssumedFirst assumed n (old.assigned ++ a ∷ [])) (sym is_level) (assumed_more old.clauses old.assigned was.ordered assumed depth was.first a (some_open old assumed depth was.ordered was.first (get_or assumed place d) there is_open) there refl)

  mid_below : IsClosedBelow old.clauses (old.assigned ++ record { lit = get_or assumed place d; level = level_of old.assigned + 1; reason = None } ∷ [])
  mid_below = closed_below_more old (record { lit = get_or assumed place d; level = level_of old.assigned + 1; reason = None }) was.closed was.closed_below

  module _ (same : new.clauses ≡ old.clauses) (forces : ForcesMore (old.assigned ++ record { lit = get_or assumed place d; level = level_of old.assigned + 1; reason = None } ∷ []) new.assigned) (trail : IsTrail new.clauses new.assigned) where
    pub decided_first : IsAssumedFirst assumed level new.assigned
    decided_first = first_forced (old.assigned ++ record { lit = get_or assumed place d; level = level_of old.assigned + 1; reason = None } ∷ []) assumed level mid_first new.assigned forces

    pub decided_clash : (number : ℕ) → Refutes new.clauses (falses_of new.assigned) number → level_of new.assigned ≡ level → IsClash new.clauses assumed
    decided_clash number refuted top =
        let m : Trailed = record { vars = old.vars; clauses = old.clauses; assigned = old.assigned ++ record { lit = get_or assumed place d; level = level_of old.assigned + 1; reason = None } ∷ [] } in
        clash_below m new same forces assumed level mid_below mid_first trail number refuted (omega (arith, top))

    pub decided_next : IsClosed new.clauses (falses_of new.assigned) → IsAssumedTo assumed (place + 1) level new
    decided_next closed =
        let a : Assigned = record { lit = get_or assumed place d; level = level_of old.assigned + 1; reason = None } in
        let m : Trailed = record { vars = old.vars; clauses = old.clauses; assigned = old.assigned ++ a ∷ [] } in
        let last : Contains (falses_of (old.assigned ++ a ∷ [])) (negation_of a.lit) = subst (λ (fs : List Lit). Contains fs (negation_of a.lit)) (sym (falses_of-push old.assigned a)) (Contains-push (falses_of old.assigned) (negation_of a.lit)) in
        record {
          ordered = trail;
          closed = closed;
          closed_below = closed_below_forced m new same forces mid_below;
          first = decided_first;
          so_far = All-more (λ (l : Lit). Contains (falses_of new.assigned) (negation_of l)) assumed place d h
              (true_forced (old.assigned ++ a ∷ []) new.assigned (take place assumed) forces (true_more old.assigned (a ∷ []) (take place assumed) was.so_far))
              (All-head (λ (l : Lit). Contains (falses_of new.assigned) (negation_of l)) a.lit [] (true_forced (old.assigned ++ a ∷ []) new.assigned (a.lit ∷ []) forces (All-cons (λ (l : Lit). Contains (falses_of (old.assigned ++ a ∷ [])) (negation_of l)) a.lit [] last (All-nil (λ (l : Lit). Contains (falses_of (old.assigned ++ a ∷ [])) (negation_of l))))));
        }

-- a further literal was decided, and propagation came after it
module _ (old new : Trailed) (assumed : List Lit) (depth : ℕ) (a : Assigned) (was : IsAssumedTo assumed (length assumed) depth old) (level : a.level ≡ level_of old.assigned + 1) (low : depth ≤ level_of old.assigned) (same : new.clauses ≡ old.clauses) (forces : ForcesMore (old.assigned ++ a ∷ []) new.assigned) (trail : IsTrail new.clauses new.assigned) where
  free_true : AreTrue (falses_of old.assigned) assumed
  free_true = assumed_all old assumed (length assumed) depth was (omega arith)

  free_below : IsClosedBelow old.clauses (old.assigned ++ a ∷ [])
  free_below = closed_below_more old a was.closed was.closed_below

  free_mid : IsAssumedFirst assumed depth (old.assigned ++ a ∷ [])
  free_mid = first_more old.assigned assumed depth was.first a free_true (omega (arith, level, low))

  pub free_first : IsAssumedFirst assumed depth new.assigned
  free_first = first_forced (old.assigned ++ a ∷ []) assumed depth free_mid new.assigned forces

  pub free_stuck : (number : ℕ) → Refutes new.clauses (falses_of new.assigned) number → level_of new.assigned ≡ level_of (old.assigned ++ a ∷ []) → IsStuck assumed new number
  free_stuck number refuted top =
      let m : Trailed = record { vars = old.vars; clauses = old.clauses; assigned = old.assigned ++ a ∷ [] } in
      stuck_above m new same forces assumed depth free_below free_mid trail number refuted (omega (arith, top, level, low, level_of-push old.assigned a))

  pub free_next : IsClosed new.clauses (falses_of new.assigned) → IsAssumedTo assumed (length assumed) depth new
  free_next closed =
      let m : Trailed = record { vars = old.vars; clauses = old.clauses; assigned = old.assigned ++ a ∷ [] } in
      record {
        ordered = trail;
        closed = closed;
        closed_below = closed_below_forced m new same forces free_below;
        first = free_first;
        so_far = subst (AreTrue (falses_of new.assigned)) (sym (take_all (length assumed) assumed (omega arith))) (true_forced (old.assigned ++ a ∷ []) new.assigned assumed forces (true_more old.assigned (a ∷ []) assumed free_true));
      }

-- the level of the trail bounds the levels of its decisions
pub lowered : (trail : Trailed) (assumed : List Lit) (depth low : ℕ) → IsAssumedTo assumed (length assumed) depth trail → low ≡ min depth (level_of trail.assigned) → IsAssumedTo assumed (length assumed) low trail
lowered trail assumed depth low was is =
    record {
      ordered = was.ordered;
      closed = was.closed;
      closed_below = was.closed_below;
      first = subst (λ (n : ℕ). IsAssumedFirst assumed n trail.assigned) (sym is) (first_lowered trail.clauses trail.assigned was.ordered assumed depth was.first);
      so_far = was.so_far;
    }
