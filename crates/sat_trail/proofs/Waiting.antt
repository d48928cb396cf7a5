-- What waits to be decided.
use Rattle.std.proofs.Common.{◌≡◌, ◌<◌, ◌≤◌, ◌+◌, ◌-◌, ◌*◌, ◌/◌, ◌++◌, [], ◌∷◌, ◌⊎◌, ℕ, zero, suc, Bool, true, false, not, cond, Option, Some, None, List, length, get_or, set, take, replicate, All, arith, sym, ◌∙◌, ap, inl, inr, refl, subst, length-set, get_or-set_other, get_or-set_same}
use Rattle.std.proofs.lemmas.Bool.{cases_lt, cases_eq}
use Rattle.std.proofs.lemmas.List.{get_or-map, get_or-replicate, length-map, length-replicate, map-append}
use Rattle.std.proofs.lemmas.List.Elements.{All-nil, All-cons, All-push, Contains-append_left, Contains-push}
use Rattle.std.proofs.lemmas.List.Sums.{sum_by-set}
use Rattle.std.specs.List.{Contains, sum_by, count_by}
use Rattle.std.specs.Option.{is_some}
use Rattle.cnf_core.specs.declared.literal.Lit.{Lit}
use Rattle.cnf_core.specs.Literal.{negation_of, HasVarsUpTo, IsClause}
use Rattle.unit_propagation.specs.Clauses.Codes.{literal_of, literals_of}
use Rattle.unit_propagation.proofs.Clauses.Coded.{literal_of-code_of}
use Rattle.refutation_check.specs.Assumed.{IsOpen}
use Rattle.refutation_check.specs.Chain.{Names, Reaches, IsChain}
use Rattle.refutation_check.proofs.Chains.{names_all}
use Rattle.refutation_check.proofs.Entailment.{lit_equal_or_not}
use Rattle.unit_propagation.specs.Activity.OrderState.{OrderState, Waits, NoneWaits, with_waiting}
use Rattle.unit_propagation.specs.declared.assignment_trail.assigned.Assigned.{Assigned}
use Rattle.unit_propagation.specs.Assignments.AssignmentState.{AssignmentState, IsValueOf}
use Rattle.unit_propagation.specs.Assignments.Trail.{ForcesMore, IsBackTo, IsVarUpTo, falses_of}
use Rattle.unit_propagation.proofs.Assignments.Trails.{falses_of-push, from_falses, in_front}
use Rattle.sat_trail.specs.Deciding.{HasAllValues, IsLowestOpen, IsOpenVar}
use Rattle.sat_trail.specs.Waiting.{IsOrderOf, IsPutBack}
use Rattle.sat_trail.proofs.Learned.{named_in}

not_cons : (y : Lit) (ys : List Lit) (x : Lit) → (y ≡ x → ⊥) → (Contains ys x → ⊥) → Contains (y ∷ ys) x → ⊥
not_cons y ys x first rest (zero, h, e) = first e
not_cons y ys x first rest (suc k, h, e) = rest (k, omega arith, e)

-- a literal stands in a list or not
pub contains_or_not : (xs : List Lit) (x : Lit) → Contains xs x ⊎ (Contains xs x → ⊥)
contains_or_not [] x = inr (λ c. absurd (omega (arith, c.1)))
contains_or_not (y ∷ ys) x =
    elim (lit_equal_or_not y x) [
      | inl e ↦ inl (0, omega arith, e)
      | inr first ↦ elim (contains_or_not ys x) [
        | inl c ↦ inl (suc c.0, omega (arith, c.1), c.2)
        | inr rest ↦ inr (λ c. not_cons y ys x first rest c)
      ]
    ]

-- the hints of a chain are numbers of its members
reaches_named : (members : List (List Lit)) (falses : List Lit) (hints : List ℕ) (after : List Lit) → Reaches members falses hints after → All (λ hint. (1 ≤ hint) × (hint ≤ length members)) hints
reaches_named members falses [] after same = All-nil (λ hint. (1 ≤ hint) × (hint ≤ length members))
reaches_named members falses (hint ∷ hints) after (l, forced, rest) =
    All-cons (λ hint. (1 ≤ hint) × (hint ≤ length members)) hint hints (forced.named.0, named_in members hint forced.clause forced.named) (reaches_named members (falses ++ negation_of l ∷ []) hints after rest)

pub chain_named : (members : List (List Lit)) (clause : List Lit) (hints : List ℕ) → IsChain members clause hints → All (λ hint. (1 ≤ hint) × (hint ≤ length members)) hints
chain_named members clause hints chain =
    subst (All (λ hint. (1 ≤ hint) × (hint ≤ length members))) (sym chain.in_order)
    (All-push (λ hint. (1 ≤ hint) × (hint ≤ length members)) chain.before chain.last (reaches_named members clause chain.before chain.after chain.reached) (chain.refuted.named.0, named_in members chain.last chain.refuted.clause chain.refuted.named))

-- at first all variables wait
pub order_first : (vars : ℕ) → IsOrderOf vars [] (record { activities = replicate vars 0; increment = 1; waiting = replicate vars true })
order_first vars =
    record {
      long = length-replicate vars 0;
      as_many = length-replicate vars true;
      waits = λ i o. get_or-replicate vars i true false (omega (arith, o.in_range));
    }

-- where more is false, fewer variables are open
open_before : (vars : ℕ) (falses more : List Lit) (var : ℕ) → ((l : Lit) → Contains falses l → Contains more l) → IsOpenVar vars more var → IsOpenVar vars falses var
open_before vars falses more var within o = record { from_one = o.from_one; in_range = o.in_range; is_open = (λ c. o.is_open.0 (within _ c), λ c. o.is_open.1 (within _ c)) }

order_more : (vars : ℕ) (falses more : List Lit) (order : OrderState) → ((l : Lit) → Contains falses l → Contains more l) → IsOrderOf vars falses order → IsOrderOf vars more order
order_more vars falses more order within was = record { long = was.long; as_many = was.as_many; waits = λ i o. was.waits i (open_before vars falses more (i + 1) within o) }

pub order_forced : (old new : AssignmentState) (order : OrderState) → new.vars ≡ old.vars → ForcesMore old.assigned new.assigned → IsOrderOf old.vars (falses_of old.assigned) order → IsOrderOf new.vars (falses_of new.assigned) order
order_forced old new order same more was =
    let more_false : (l : Lit) → Contains (falses_of old.assigned) l → Contains (falses_of new.assigned) l =
    λ l c. subst (λ (xs : List Assigned). Contains (falses_of xs) l) (sym more.added)
    (subst (λ (fs : List Lit). Contains fs l) (sym (map-append (λ (a : Assigned). negation_of a.lit) old.assigned more.more)) (Contains-append_left (falses_of old.assigned) (falses_of more.more) l c)) in
    subst (λ (vars : ℕ). IsOrderOf vars (falses_of new.assigned) order) (sym same) (order_more old.vars (falses_of old.assigned) (falses_of new.assigned) order more_false was)

pub order_decided : (vars : ℕ) (xs : List Assigned) (a : Assigned) (order : OrderState) → IsOrderOf vars (falses_of xs) order → IsOrderOf vars (falses_of (xs ++ a ∷ [])) order
order_decided vars xs a order was =
    subst (λ (fs : List Lit). IsOrderOf vars fs order) (sym (falses_of-push xs a)) (order_more vars (falses_of xs) (falses_of xs ++ negation_of a.lit ∷ []) order (λ l c. Contains-append_left (falses_of xs) (negation_of a.lit ∷ []) l c) was)

pub order_pushed : (vars : ℕ) (xs : List Assigned) (a : Assigned) (order : OrderState) → IsOrderOf vars (falses_of xs ++ negation_of a.lit ∷ []) order → IsOrderOf vars (falses_of (xs ++ a ∷ [])) order
order_pushed vars xs a order was = subst (λ (fs : List Lit). IsOrderOf vars fs order) (sym (falses_of-push xs a)) was

-- the activities change
pub order_raised : (vars : ℕ) (falses : List Lit) (old new : OrderState) → new.waiting ≡ old.waiting → length new.activities ≡ length old.activities → IsOrderOf vars falses old → IsOrderOf vars falses new
order_raised vars falses old new waiting long was =
    record {
      long = long ∙ was.long;
      as_many = ap length waiting ∙ was.as_many;
      waits = λ i o. ap (λ (bs : List Bool). get_or bs i false) waiting ∙ was.waits i o;
    }

-- neither literal of an open variable is false
open_with : (falses : List Lit) (var : ℕ) (value : Bool) → (Contains falses (record { var = var; positive = false }) → ⊥) → (Contains falses (record { var = var; positive = true }) → ⊥) → Contains falses (record { var = var; positive = value }) → ⊥
open_with falses var false low high = low
open_with falses var true low high = high

-- nor is that of a decision
pub open_decided : (falses : List Lit) (var : ℕ) (value : Bool) → IsOpen falses (record { var = var; positive = false }) → IsOpen falses (record { var = var; positive = value })
open_decided falses var value o = (open_with falses var value o.0 o.1, open_with falses var (not value) o.0 o.1)

-- a variable that has a value waits no more
pub order_skipped : (vars : ℕ) (falses : List Lit) (order : OrderState) (place : ℕ) → (IsOpen falses (record { var = place + 1; positive = false }) → ⊥) → IsOrderOf vars falses order → IsOrderOf vars falses (with_waiting order place false)
order_skipped vars falses order place valued was =
    record {
      long = was.long;
      as_many = length-set order.waiting place false ∙ was.as_many;
      waits = λ i o. elim (cases_eq i place) [
        | inl e ↦ absurd (valued (subst (λ (n : ℕ). IsOpen falses (record { var = n + 1; positive = false })) e o.is_open))
        | inr other ↦ get_or-set_other order.waiting place i false false other ∙ was.waits i o
      ];
    }

-- nor does one that gets a value
pub order_taken : (vars : ℕ) (falses : List Lit) (order : OrderState) (place : ℕ) (value : Bool) → IsOrderOf vars falses order → IsOrderOf vars (falses ++ record { var = place + 1; positive = value } ∷ []) (with_waiting order place false)
order_taken vars falses order place value was =
    let l : Lit = record { var = place + 1; positive = value } in
    record {
      long = was.long;
      as_many = length-set order.waiting place false ∙ was.as_many;
      waits = λ i o. elim (cases_eq i place) [
        | inl e ↦ absurd (open_with (falses ++ l ∷ []) (i + 1) value o.is_open.0 o.is_open.1 (subst (λ (n : ℕ). Contains (falses ++ l ∷ []) (record { var = n + 1; positive = value })) (sym e) (Contains-push falses l)))
        | inr other ↦ get_or-set_other order.waiting place i false false other ∙ was.waits i (open_before vars falses (falses ++ l ∷ []) (i + 1) (λ k c. Contains-append_left falses (l ∷ []) k c) o)
      ];
    }

-- a variable that is not open has a value
has_value : (falses : List Lit) (var : ℕ) → (IsOpen falses (record { var = var; positive = false }) → ⊥) → (value : Bool) × Contains falses (record { var = var; positive = not value })
has_value falses var closed =
    elim (contains_or_not falses (record { var = var; positive = false })) [
      | inl is_true ↦ (true, is_true)
      | inr not_true ↦ elim (contains_or_not falses (record { var = var; positive = true })) [
        | inl is_false ↦ (false, is_false)
        | inr not_false ↦ absurd (closed (not_true, not_false))
      ]
    ]

-- where none waits, each variable has a value
pub all_valued : (vars : ℕ) (falses : List Lit) (order : OrderState) → IsOrderOf vars falses order → NoneWaits order.waiting → HasAllValues vars falses
all_valued vars falses order was none var low high =
    has_value falses var (λ is_open.
    let back : (var - 1) + 1 ≡ var = omega arith in
    let o : IsOpenVar vars falses var = record { from_one = low; in_range = high; is_open = is_open } in
    none (var - 1) (was.waits (var - 1) (subst (IsOpenVar vars falses) (sym back) o)))

-- what the value of a variable's negative literal says
low_literal : (var code : ℕ) → code ≡ 2 * var → literal_of code ≡ record { var = var; positive = false }
low_literal var code is =
    let l : Lit = record { var = var; positive = false } in
    let same : code ≡ 2 * var + 0 = omega arith in
    ap literal_of same ∙ literal_of-code_of l

pub open_value : (falses : List Lit) (l : Lit) (o : Option Bool) (none : Bool) → IsValueOf falses l o → is_some o ≡ not none → none ≡ true → IsOpen falses l
open_value falses l None none is some unset = is
open_value falses l (Some value) none is some unset = let e : true ≡ false = some ∙ ap not unset in cc

closed_value : (falses : List Lit) (l : Lit) (o : Option Bool) (none : Bool) → IsValueOf falses l o → is_some o ≡ not none → none ≡ false → IsOpen falses l → ⊥
closed_value falses l None none is some unset is_open = let e : false ≡ true = some ∙ ap not unset in cc
closed_value falses l (Some true) none is some unset is_open = is_open.1 is.0
closed_value falses l (Some false) none is some unset is_open = is_open.0 is.0

pub open_code : (falses : List Lit) (var code : ℕ) (o : Option Bool) (none : Bool) → code ≡ 2 * var → IsValueOf falses (literal_of code) o → is_some o ≡ not none → none ≡ true → IsOpen falses (record { var = var; positive = false })
open_code falses var code o none is value some unset = open_value falses (record { var = var; positive = false }) o none (subst (λ (l : Lit). IsValueOf falses l o) (low_literal var code is) value) some unset

pub closed_code : (falses : List Lit) (var code : ℕ) (o : Option Bool) (none : Bool) → code ≡ 2 * var → IsValueOf falses (literal_of code) o → is_some o ≡ not none → none ≡ false → IsOpen falses (record { var = var; positive = false }) → ⊥
closed_code falses var code o none is value some unset = closed_value falses (record { var = var; positive = false }) o none (subst (λ (l : Lit). IsValueOf falses l o) (low_literal var code is) value) some unset

-- fewer variables wait where one of them is taken
pub fewer_wait : (waiting : List Bool) (place : ℕ) → place < length waiting → Waits waiting place → count_by (λ b. b) (set waiting place false) < count_by (λ b. b) waiting
fewer_wait waiting place in' waits =
    let f : Bool → ℕ = λ b. cond b 1 0 in
    let e : sum_by f (set waiting place false) + f (get_or waiting place false) ≡ sum_by f waiting + f false = sum_by-set f waiting place false false in' in
    let g : f (get_or waiting place false) ≡ 1 = ap f waits in
    omega (arith, e, g)

-- going back from the newest literal
pub back_start : (vars : ℕ) (xs : List Assigned) (falses : List Lit) (order : OrderState) → IsOrderOf vars falses order → IsPutBack vars xs order order (length xs)
back_start vars xs falses order was =
    record {
      in_range = omega arith;
      long = was.long;
      as_many = was.as_many;
      stays = λ i w. w;
      back = λ j d low h. absurd (omega arith);
    }

-- one more variable waits again
pub back_more : (vars : ℕ) (xs : List Assigned) (old now : OrderState) (n m : ℕ) (a : Assigned) → m + 1 ≡ n → All (IsVarUpTo vars) xs → ((d : Assigned) → a ≡ get_or xs m d) → IsPutBack vars xs old now n → IsPutBack vars xs old (with_waiting now (a.lit.var - 1) true) m
back_more vars xs old now n m a next all at was =
    let place : ℕ = a.lit.var - 1 in
    let in' : m < length xs = omega (arith, next, was.in_range) in
    let range : IsVarUpTo vars (get_or xs m a) = all m a in' in
    let v : (get_or xs m a).lit.var ≡ a.lit.var = ap (λ (b : Assigned). b.lit.var) (sym (at a)) in
    let place_in : place < length now.waiting = omega (arith, range.0, range.1, v, was.as_many) in
    let here : get_or (set now.waiting place true) place false ≡ true = get_or-set_same now.waiting place true false place_in in
    let on : (i : ℕ) → Waits now.waiting i → Waits (set now.waiting place true) i =
    λ i w. elim (cases_eq i place) [
      | inl e ↦ ap (λ (k : ℕ). get_or (set now.waiting place true) k false) e ∙ here
      | inr other ↦ get_or-set_other now.waiting place i true false other ∙ w
    ] in
    record {
      in_range = omega (arith, in');
      long = was.long;
      as_many = length-set now.waiting place true ∙ was.as_many;
      stays = λ i w. on i (was.stays i w);
      back = λ j d low h. elim (cases_lt m j) [
        | inl above ↦ on ((get_or xs j d).lit.var - 1) (was.back j d (omega (arith, above, next)) h)
        | inr not_above ↦
            let e : j ≡ m = omega (arith, low, not_above) in
            let is : (get_or xs j d).lit.var - 1 ≡ place = ap (λ (k : ℕ). (get_or xs k d).lit.var - 1) e ∙ ap (λ (b : Assigned). b.lit.var - 1) (sym (at d)) in
            ap (λ (k : ℕ). get_or (set now.waiting place true) k false) is ∙ here
      ];
    }

-- where the literals above a level are undone, what is open waits
module _ (vars level : ℕ) (xs : List Assigned) (old now : OrderState) (n : ℕ) (was : IsOrderOf vars (falses_of xs) old) (put : IsPutBack vars xs old now n) (low : 0 < n → (d : Assigned) → (get_or xs (n - 1) d).level ≤ level) (ys : List Assigned) (to : IsBackTo level xs ys) where
  -- a literal that is undone
  undone_waits : (i : ℕ) (l : Lit) → l.var ≡ i + 1 → (Contains (falses_of ys) l → ⊥) → Contains (falses_of xs) l → Waits now.waiting i
  undone_waits i l is undone c =
      let r = from_falses xs l c in
      let j : ℕ = r.0 in
      let d : Assigned = record { lit = l; level = 0; reason = None } in
      let v : (get_or xs j d).lit.var ≡ l.var = ap (λ (k : Lit). k.var) (r.2 d) in
      elim (cases_lt j to.count) [
        | inl before ↦
            let front : Contains (falses_of (take to.count xs)) l = subst (Contains (falses_of (take to.count xs))) (r.2 d) (in_front xs j to.count d before r.1) in
            absurd (undone (subst (λ (zs : List Assigned). Contains (falses_of zs) l) (sym to.stays) front))
        | inr behind ↦ elim (cases_lt j n) [
          | inl less ↦
              let up : (get_or xs (n - 1) d).level ≤ level = low (omega (arith, less)) d in
              let down : level < (get_or xs (n - 1) d).level = to.undone (n - 1) d (omega (arith, behind, less)) (omega (arith, less, put.in_range)) in
              absurd (omega (arith, up, down))
          | inr there ↦
              let place : (get_or xs j d).lit.var - 1 ≡ i = omega (arith, v, is) in
              subst (Waits now.waiting) place (put.back j d there r.1)
        ]
      ]

  pub back_done : IsOrderOf vars (falses_of ys) now
  back_done =
      record {
        long = put.long;
        as_many = put.as_many;
        waits = λ i o.
            let l : Lit = record { var = i + 1; positive = false } in
            elim (contains_or_not (falses_of xs) l) [
              | inl c ↦ undone_waits i l refl o.is_open.0 c
              | inr not_false ↦ elim (contains_or_not (falses_of xs) (negation_of l)) [
                | inl c ↦ undone_waits i (negation_of l) refl o.is_open.1 c
                | inr not_true ↦ put.stays i (was.waits i (record { from_one = o.from_one; in_range = o.in_range; is_open = (not_false, not_true) }))
              ]
            ];
      }

-- the variables of the literals of these numbers
pub code_within : (codes : List ℕ) (vars i : ℕ) → All (λ l. (1 ≤ l.var) × (l.var ≤ vars)) (literals_of codes) → i < length codes → (1 ≤ get_or codes i 0 / 2) × (get_or codes i 0 / 2 ≤ vars)
code_within codes vars i all h =
    let d : Lit = record { var = 0; positive = false } in
    let in' : i < length (literals_of codes) = omega (arith, h, length-map codes literal_of) in
    let v : (get_or (literals_of codes) i d).var ≡ get_or codes i 0 / 2 = ap (λ (l : Lit). l.var) (get_or-map literal_of codes i 0 d h) in
    let here : (1 ≤ (get_or (literals_of codes) i d).var) × ((get_or (literals_of codes) i d).var ≤ vars) = all i d in' in
    (omega (arith, here.0, v), omega (arith, here.1, v))

-- the variables of a clause
pub clause_within : (clauses : List (List Lit)) (n : ℕ) (lits : List Lit) (vars : ℕ) → All IsClause clauses → All (HasVarsUpTo vars) clauses → Names clauses n lits → All (λ l. (1 ≤ l.var) × (l.var ≤ vars)) lits
clause_within clauses n lits vars each within named k d h =
    let low = (names_all IsClause clauses n lits each named).variables k d h in
    (low.0, names_all (HasVarsUpTo vars) clauses n lits within named k d h)

-- the variable of a literal of the trail
pub in_vars : (vars : ℕ) (xs : List Assigned) (m : ℕ) (a : Assigned) → m < length xs → All (IsVarUpTo vars) xs → ((d : Assigned) → a ≡ get_or xs m d) → IsVarUpTo vars a
in_vars vars xs m a h all at = subst (IsVarUpTo vars) (sym (at a)) (all m a h)

-- the first variables with one more that has a value
pub valued_more : (n : ℕ) (falses : List Lit) → HasAllValues n falses → (IsOpen falses (record { var = n + 1; positive = false }) → ⊥) → HasAllValues (n + 1) falses
valued_more n falses was closed var low high =
    elim (cases_lt var (n + 1)) [
      | inl less ↦ was var low (omega arith)
      | inr more ↦
          let is : n + 1 ≡ var = omega arith in
          subst (λ (v : ℕ). (value : Bool) × Contains falses (record { var = v; positive = not value })) is (has_value falses (n + 1) closed)
    ]

-- the first variable that is open, behind so many that aren't
pub open_behind : (n limit : ℕ) (falses : List Lit) → n < limit → HasAllValues n falses → IsOpen falses (record { var = n + 1; positive = false }) → IsLowestOpen limit falses (n + 1)
open_behind n limit falses less was is_open =
    let back : n ≡ (n + 1) - 1 = omega arith in
    record {
      is_open = record { from_one = omega arith; in_range = omega (arith, less); is_open = is_open };
      below = subst (λ (k : ℕ). HasAllValues k falses) back was;
    }
