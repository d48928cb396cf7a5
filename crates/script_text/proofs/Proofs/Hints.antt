-- The hints of a log that is accepted.
use Rattle.std.proofs.Common.{◌≡◌, ◌<◌, ◌≤◌, ◌+◌, ◌^◌, ◌++◌, ℕ, List, map, length, get_or, All, arith, sym, subst, ◌∙◌, ap, length-append}
use Rattle.std.proofs.lemmas.Bool.Decides.{nat_tests}
use Rattle.std.proofs.lemmas.List.{length-map, get_or-map, get_or_append_left}
use Rattle.cnf_core.specs.declared.literal.Lit.{Lit}
use Rattle.refutation_check.specs.declared.log.Step.{Step}
use Rattle.refutation_check.specs.Chain.{IsAccepted}
use Rattle.refutation_check.specs.Lift.{lifted_hint, lifted, HasRoomToLift}
use Rattle.refutation_check.specs.WrittenProof.{HasHintsInRange}
use Rattle.clause_pool.proofs.Accepting.{IsNumberTo, hints_in_range}

pub written_hints : (clauses : List (List Lit)) (log : List Step) → IsAccepted clauses log → length clauses + length log ≤ 2147483647 → HasHintsInRange log
written_hints clauses log accepted few i d l k e m =
    let named = hints_in_range clauses log accepted i d l k e m in
    let most = named.1 in
    (named.0, omega arith)

abbrev raised : ℕ → ℕ → Step → Step
raised base added s = record { clause = s.clause; hints = map (lifted_hint base added) s.hints }

above_base : (base added hint : ℕ) → base < hint → lifted_hint base added hint ≡ hint + added
above_base base added hint l = grind (arith, nat_tests)

-- the raised hints are numbers of members
pub room_to_lift : (members : List (List Lit)) (base added : ℕ) (pool log : List Step) → IsAccepted members (lifted base added pool ++ log) → length members + length pool < 2 ^ 32 → HasRoomToLift base added pool
room_to_lift members base added pool log accepted few i d l k e m above =
    let s : Step = get_or pool i d in
    let r : Step = raised base added s in
    let hint = get_or s.hints k e in
    let long : length (lifted base added pool) ≡ length pool = length-map pool (raised base added) in
    let all : length (lifted base added pool ++ log) ≡ length (lifted base added pool) + length log = length-append (lifted base added pool) log in
    let here : get_or (lifted base added pool ++ log) i r ≡ r =
    get_or_append_left (lifted base added pool) log r i (omega arith) ∙ get_or-map (raised base added) pool i d r l in
    let named : All (IsNumberTo (length members + i)) r.hints =
    subst (λ (x : Step). All (IsNumberTo (length members + i)) x.hints) here (hints_in_range members (lifted base added pool ++ log) accepted i r (omega arith)) in
    let many : length r.hints ≡ length s.hints = length-map s.hints (lifted_hint base added) in
    let one : lifted_hint base added hint ≤ length members + i =
    subst (λ n. n ≤ length members + i) (get_or-map (lifted_hint base added) s.hints k e 0 m) (named k 0 (omega arith)).1 in
    let up : lifted_hint base added hint ≡ hint + added = above_base base added hint above in
    omega arith
