use Rattle.std.proofs.Common.{Some, ◌≡◌, ◌-◌, ◌<◌, ◌≤◌, ◌+◌, ◌^◌, ◌∙◌, ◌++◌, ◌∷◌, [], ℕ, List, All, arith, ap, get_or, length, map, subst, sym, length-append}
use Rattle.std.specs.Prelude.{MatchBool}
use Rattle.std.specs.List.{slice_get}
use Rattle.std.proofs.lemmas.List.{get_or_default, length-map}
use Rattle.std.proofs.lemmas.Option.{slice_get-get_or}
use Rattle.cnf_core.specs.declared.literal.Lit.{Lit}
use Rattle.refutation_check.specs.declared.log.Step.{Step}
use Rattle.refutation_check.specs.Chain.{Names, Subsumes, members_of}
use Rattle.refutation_check.specs.Lift.{lifted_hint}
use Rattle.sat_trail.proofs.Learned.{named_in}
use Rattle.sat_core.specs.Kept.{Kept, KeepsTo, IsContainedIn, number_in}
use Rattle.sat_core.specs.Lent.{IsStanding}
use Rattle.sat_core.proofs.Answered.{given_count}
use Rattle.sat_core.proofs.Blocked.{blocked}
use Rattle.sat_core.proofs.Searches.{first_behind}
use Rattle.sat_core.proofs.kept.KeptSearch.block.Goals as goal

pub lifted-requires : goal.lifted-requires
lifted-requires c =
    let f = c.args.f.now in
    let local = c.args.local.now in
    let pool = c.args.pool.now in
    let k = c.args.self.now in
    let numbers_are : c.as_slice.result.now ≡ k.numbers = c.as_slice.ensures.value ∙ ap (λ (x : Kept). x.numbers) c.self.view_is in
    let each : (i : ℕ) (d : ℕ) → i < length k.numbers → get_or k.numbers i d < 2 ^ 30 =
    λ i d h.
    let in' : i < length k.trail.clauses = omega (arith, h, c.requires.kept.holds.as_many) in
    let back : i + 1 - 1 ≡ i = omega arith in
    let clause : List Lit = get_or k.trail.clauses i [] in
    let named : Names k.trail.clauses (i + 1) clause = (omega arith, subst (λ (n : ℕ). slice_get k.trail.clauses n ≡ Some clause) (sym back) (slice_get-get_or k.trail.clauses i [] in')) in
    let top = named_in _ _ clause (c.requires.kept.holds.named (i + 1) clause named) in
    let at : number_in k.numbers (i + 1) ≡ get_or k.numbers i d = ap (λ (n : ℕ). get_or k.numbers n 0) back ∙ get_or_default k.numbers i 0 d h in
    omega (arith, top, at, c.requires.few, given_count f.clauses local pool, length-append (members_of (f.clauses ++ local) pool) (map (λ (s : Step). s.clause) k.steps), length-map k.steps (λ (s : Step). s.clause)) in
    subst (λ (ns : List ℕ). All (λ n. n < 2 ^ 30) ns) (sym numbers_are) each

pub add_given-requires-clause-vars : goal.add_given-requires-clause-vars
add_given-requires-clause-vars c =
    let vars : c.args.f.now.vars ≤ c.self.inside.trail.vars = subst (λ (x : Kept). c.args.f.now.vars ≤ x.trail.vars) (sym c.self.view_is) c.requires.kept.holds.of_formula in
    λ i d h. let low = c.requires.vars i d h in omega (arith, low, vars)

pub add_given-requires-clause-room : goal.add_given-requires-clause-room
add_given-requires-clause-room c =
    let f = c.args.f.now in
    let local = c.args.local.now in
    let pool = c.args.pool.now in
    let k = c.self.inside in
    let few : length k.trail.clauses ≤ length (members_of (f.clauses ++ local) pool) + length k.steps = subst (λ (x : Kept). length x.trail.clauses ≤ length (members_of (f.clauses ++ local) pool) + length x.steps) (sym c.self.view_is) c.requires.kept.holds.few in
    let held : length c.args.self.now.steps ≡ length k.steps = ap (λ (x : Kept). length x.steps) (sym c.self.view_is) in
    omega (arith, few, held, c.requires.few, given_count f.clauses local pool)

pub returns-clause-blocked : goal.returns-clause-blocked
returns-clause-blocked c =
    let f = c.args.f.now in
    let pool = c.args.pool.now in
    let clause : List Lit = c.args.clause.now in
    let k = c.self.inside in
    λ first rest local_is place_is.
    let was : KeepsTo f (first ++ rest) pool k.trail.clauses k.trail.vars k.assumed.items k.numbers.items k.steps =
    subst (λ (x : Kept). KeepsTo f (first ++ rest) pool x.trail.clauses x.trail.vars x.assumed x.numbers x.steps) (sym c.self.view_is)
    (subst (λ (ls : List (List Lit)). KeepsTo f ls pool c.args.self.now.trail.clauses c.args.self.now.trail.vars c.args.self.now.assumed c.args.self.now.numbers c.args.self.now.steps) local_is c.requires.kept.holds) in
    let longer : (l : Lit) → clause ≡ l ∷ [] → ⊥ = λ l e. c.if-lits-eq1.false (ap length (c.lits.ensures.lits ∙ e)) in
    let new : All (λ (s : Step). ¬ Subsumes clause s.clause) k.steps = subst (λ b. MatchBool b (IsContainedIn clause k.steps) (All (λ (s : Step). ¬ Subsumes clause s.clause) k.steps)) c.if-is_contained.false c.is_contained.ensures in
    let above : c.len.result + c.args.place ≡ length f.clauses + length first = omega (arith, c.len.ensures.len, place_is) in
    let numbers_are : c.push.new.self.items ≡ map (lifted_hint (length f.clauses + length first) 1) k.numbers.items ++ (length f.clauses + length first + 1) ∷ [] =
    c.in_ok-push.ensures.items ∙ ap (λ (ns : List ℕ). ns ++ (c.len.result + c.args.place + 1) ∷ []) (c.in_ok-numbers.ensures ∙ ap (map (lifted_hint (c.len.result + c.args.place) 1)) c.as_slice.ensures.value)
    ∙ ap (λ (n : ℕ). map (lifted_hint n 1) k.numbers.items ++ (n + 1) ∷ []) above in
    let whole = blocked f first rest pool clause k.trail.clauses k.trail.vars k.assumed.items k.numbers.items k.steps was longer new in
    let made = c.in_ok-add_given.ensures in
    let stood = subst (λ (x : Kept). IsStanding x.assumed x.depth x.trail) (sym c.self.view_is) c.requires.kept.stands in
    record {
      holds = subst (λ (cs : List (List Lit)). KeepsTo f (first ++ clause ∷ rest) pool cs c.add_given.new.self.vars k.assumed.items c.push.new.self.items k.steps) (sym made.ok)
          (subst (λ (n : ℕ). KeepsTo f (first ++ clause ∷ rest) pool (k.trail.clauses ++ clause ∷ []) n k.assumed.items c.push.new.self.items k.steps) (sym made.vars)
          (subst (λ (ns : List ℕ). KeepsTo f (first ++ clause ∷ rest) pool (k.trail.clauses ++ clause ∷ []) k.trail.vars k.assumed.items ns k.steps) (sym numbers_are) whole));
      stands = record { closed_below = made.closed stood.closed_below; assumed_first = first_behind k.assumed.items k.depth k.trail.assigned c.add_given.new.self.assigned made.assigned.0 made.assigned.1 stood.assumed_first };
    }
