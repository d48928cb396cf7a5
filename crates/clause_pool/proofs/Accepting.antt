-- What hints of accepted logs name, and pools that go on.
use Rattle.std.proofs.Common.{◌≡◌, ◌<◌, ◌≤◌, ◌+◌, ◌-◌, ◌^◌, ◌++◌, [], ◌∷◌, ℕ, zero, suc, Some, List, length, map, get_or, take, drop, All, arith, sym, ◌∙◌, ap, inl, inr, refl, subst, append-nil, append_assoc, length-append}
use Rattle.std.proofs.lemmas.Bool.{cases_lt}
use Rattle.std.proofs.lemmas.List.{take-append-drop, length-map, length-drop, length-take-le, map-append}
use Rattle.std.proofs.lemmas.List.Elements.{All-append}
use Rattle.std.proofs.lemmas.Option.{slice_get_within, get_or_from_slice_get}
use Rattle.std.specs.List.{slice_get}
use Rattle.cnf_core.specs.declared.literal.Lit.{Lit}
use Rattle.cnf_core.specs.Literal.{negation_of}
use Rattle.refutation_check.specs.declared.log.Step.{Step}
use Rattle.refutation_check.specs.Chain.{Names, Reaches, IsChain, members_of, IsAccepted}
use Rattle.refutation_check.specs.Lift.{lifted, HasRoomToLift}
use Rattle.refutation_check.proofs.Renumbered.{accepted_first, accepted_rest, accepted_cons, accepted_append, pool_and_log}
use Rattle.clause_pool.specs.Limits.{moved_behind}

-- ---- hints

-- the hint is the number of one of so many members
abbrev pub IsNumberTo : ℕ → ℕ → Type 0
IsNumberTo most hint = (1 ≤ hint) × (hint ≤ most)

named_in_range : (members : List (List Lit)) (hint : ℕ) (clause : List Lit) → Names members hint clause → IsNumberTo (length members) hint
named_in_range members hint clause named =
    let within : hint - 1 < length members = slice_get_within members (hint - 1) clause named.1 in
    (named.0, omega (arith, within))

All-cons : {X : Type 0} (P : X → Type 0) (x : X) (xs : List X) → P x → All P xs → All P (x ∷ xs)
All-cons P x xs first rest zero d h = first
All-cons P x xs first rest (suc k) d h = rest k d (omega arith)

module _ (members : List (List Lit)) where
  reached_in_range : (falses : List Lit) (hints : List ℕ) (after : List Lit) → Reaches members falses hints after → All (IsNumberTo (length members)) hints
  reached_in_range falses [] after same = λ k d h. absurd (omega arith)
  reached_in_range falses (hint ∷ hints) after (l, forced, rest) =
      All-cons (IsNumberTo (length members)) hint hints (named_in_range members hint forced.clause forced.named) (reached_in_range (falses ++ negation_of l ∷ []) hints after rest)

  pub chain_in_range : (clause : List Lit) (hints : List ℕ) → IsChain members clause hints → All (IsNumberTo (length members)) hints
  chain_in_range clause hints chain =
      subst (All (IsNumberTo (length members))) (sym chain.in_order)
      (All-append (IsNumberTo (length members)) chain.before (chain.last ∷ []) (reached_in_range clause chain.before chain.after chain.reached)
      (All-cons (IsNumberTo (length members)) chain.last [] (named_in_range members chain.last chain.refuted.clause chain.refuted.named) (λ k d h. absurd (omega arith))))

-- each hint of a step names a member or an earlier step
pub hints_in_range : (members : List (List Lit)) (log : List Step) → IsAccepted members log → (i : ℕ) (d : Step) → i < length log → All (IsNumberTo (length members + i)) (get_or log i d).hints
hints_in_range members log accepted i d h =
    let long : length (members_of members (take i log)) ≡ length members + i =
    omega (arith, length-append members (map (λ (s : Step). s.clause) (take i log)), length-map (take i log) (λ (s : Step). s.clause), length-take-le i log (omega arith)) in
    subst (λ (n : ℕ). All (IsNumberTo n) (get_or log i d).hints) long (chain_in_range (members_of members (take i log)) (get_or log i d).clause (get_or log i d).hints (accepted i d h))

pub named_hints : (members : List (List Lit)) (log : List Step) → IsAccepted members log → (i : ℕ) (s : Step) → slice_get log i ≡ Some s → All (IsNumberTo (length members + i)) s.hints
named_hints members log accepted i s there =
    subst (λ (x : Step). All (IsNumberTo (length members + i)) x.hints) (get_or_from_slice_get log i s s there) (hints_in_range members log accepted i s (slice_get_within log i s there))

pub hints_from_one : (members : List (List Lit)) (log : List Step) → IsAccepted members log → All (λ s. All (λ hint. 1 ≤ hint) s.hints) log
hints_from_one members log accepted i d h k e l = (hints_in_range members log accepted i d h k e l).0

pub hints_have_room : (members : List (List Lit)) (log : List Step) (base added : ℕ) → IsAccepted members log → length members + length log + added ≤ 2 ^ 32 → HasRoomToLift base added log
hints_have_room members log base added accepted room i d h k e l above =
    let small : get_or (get_or log i d).hints k e ≤ length members + i = (hints_in_range members log accepted i d h k e l).1 in
    omega arith

-- ---- logs that go on

-- what comes first in an accepted log is accepted
pub front_accepted : (given : List (List Lit)) (steps more : List Step) → IsAccepted given (steps ++ more) → IsAccepted given steps
front_accepted given [] more h = λ i d l. absurd (omega arith)
front_accepted given (s ∷ steps) more h =
    accepted_cons given s steps (accepted_first given s (steps ++ more) h) (front_accepted (given ++ s.clause ∷ []) steps more (accepted_rest given s (steps ++ more) h))

abbrev pub clauses_in : List Step → List (List Lit)
clauses_in steps = map (λ s. s.clause) steps

module _ (clauses : List (List Lit)) (pool : List Step) (at : ℕ) where
  -- the clauses and the first steps are so many
  pub members_before : at ≤ length pool → length (members_of clauses (take at pool)) ≡ length clauses + at
  members_before within = omega (arith, length-append clauses (clauses_in (take at pool)), length-map (take at pool) (λ (s : Step). s.clause), length-take-le at pool within)

  -- the members before those that came since, and these
  members_split : members_of clauses (take at pool) ++ clauses_in (drop at pool) ≡ members_of clauses pool
  members_split =
      append_assoc clauses (clauses_in (take at pool)) (clauses_in (drop at pool)) ∙
      ap (λ (cs : List (List Lit)). clauses ++ cs) (sym (map-append (λ (s : Step). s.clause) (take at pool) (drop at pool)) ∙ ap clauses_in (take-append-drop at pool))

  pub moved_accepted : at ≤ length pool → (steps : List Step) → IsAccepted (members_of clauses (take at pool)) steps → IsAccepted (members_of clauses pool) (moved_behind (length clauses) at pool steps)
  moved_accepted within steps accepted =
      let before = members_before within in
      let since : length (clauses_in (drop at pool)) ≡ length pool - at = length-map (drop at pool) (λ (s : Step). s.clause) ∙ length-drop at pool in
      let whole = pool_and_log (members_of clauses (take at pool)) (clauses_in (drop at pool)) steps [] accepted (λ i d h. absurd (omega arith)) in
      let alone = subst (IsAccepted (members_of clauses (take at pool) ++ clauses_in (drop at pool))) (append-nil (lifted (length (members_of clauses (take at pool))) (length (clauses_in (drop at pool))) steps)) whole in
      let named = subst (λ (cs : List (List Lit)). IsAccepted cs (lifted (length (members_of clauses (take at pool))) (length (clauses_in (drop at pool))) steps)) members_split alone in
      let based = subst (λ (n : ℕ). IsAccepted (members_of clauses pool) (lifted n (length (clauses_in (drop at pool))) steps)) before named in
      subst (λ (n : ℕ). IsAccepted (members_of clauses pool) (lifted (length clauses + at) n steps)) since based

  -- the pool with the first of the steps behind it
  pub shared_accepted : at ≤ length pool → (steps : List Step) (n : ℕ) → IsAccepted (members_of clauses (take at pool)) steps → IsAccepted clauses pool → IsAccepted clauses (pool ++ take n (moved_behind (length clauses) at pool steps))
  shared_accepted within steps n accepted pooled =
      let all = moved_accepted within steps accepted in
      accepted_append clauses pool (take n (moved_behind (length clauses) at pool steps)) pooled
      (front_accepted (members_of clauses pool) (take n (moved_behind (length clauses) at pool steps)) (drop n (moved_behind (length clauses) at pool steps))
      (subst (IsAccepted (members_of clauses pool)) (sym (take-append-drop n (moved_behind (length clauses) at pool steps))) all))
