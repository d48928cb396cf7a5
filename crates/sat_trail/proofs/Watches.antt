-- What the slots of a clause watch.
use Rattle.std.proofs.Common.{◌≡◌, ◌<◌, ◌≤◌, ◌+◌, ◌-◌, ◌*◌, ◌/◌, ◌++◌, [], ◌∷◌, ◌⊎◌, ℕ, Bool, true, false, List, length, get_or, take, set, replicate, All, arith, sym, ◌∙◌, ap, inl, inr, refl, subst, length-append, length-set, get_or-set_same}
use Rattle.std.proofs.lemmas.List.{get_or-map, get_or_push, length-map, length-replicate, take_at}
use Rattle.std.proofs.lemmas.List.Elements.{All-contains}
use Rattle.std.specs.List.{Contains}
use Rattle.std.specs.Prelude.{◌||◌}
use Rattle.cnf_core.specs.declared.literal.Lit.{Lit}
use Rattle.unit_propagation.specs.Clauses.Codes.{literal_of, literals_of}
use Rattle.unit_propagation.specs.Propagation.Rule.{IsMarked}
use Rattle.unit_propagation.specs.Propagation.Walk.{IsReady}
use Rattle.unit_propagation.proofs.Propagation.Keeping.{marked_more}
use Rattle.unit_propagation.proofs.Propagation.MarkLists.{flag_stays}
use Rattle.unit_propagation.proofs.Propagation.Slots.{literal_of-same}
use Rattle.sat_trail.specs.Filling.{IsPair, IsFlagged}

pub Contains-literal : (codes : List ℕ) (code : ℕ) → Contains codes code → Contains (literals_of codes) (literal_of code)
Contains-literal codes code (k, h, is) = (k, omega (arith, h, length-map codes literal_of), get_or-map literal_of codes k code (literal_of code) h ∙ ap literal_of is)

-- the slots are on lists that are there
pub pair_low : (codes : List ℕ) (vars one other : ℕ) (is_short : Bool) → All (λ c. c / 2 ≤ vars) codes → IsPair codes (record { one = one; other = other; is_short = is_short }) → (one < 2 * vars + 2) × (other < 2 * vars + 2)
pair_low codes vars one other true low is = (omega (arith, is.0), omega (arith, is.1))
pair_low codes vars one other false low is =
    let a : one / 2 ≤ vars = All-contains (λ (c : ℕ). c / 2 ≤ vars) codes one low is.0 in
    let b : other / 2 ≤ vars = All-contains (λ (c : ℕ). c / 2 ≤ vars) codes other low is.1 in
    (omega (arith, a), omega (arith, b))

-- and watch two literals of the clause, or it is short and marked
pub pair_watches : (codes : List ℕ) (clause : List Lit) (one other : ℕ) (is_short : Bool) (news : List Bool) (n : ℕ) → clause ≡ literals_of codes → IsPair codes (record { one = one; other = other; is_short = is_short }) → (is_short ≡ true → IsMarked news n) →
    (IsMarked news n × (one < 2) × (other < 2)) ⊎ (Contains clause (literal_of one) × Contains clause (literal_of other) × (literal_of one ≡ literal_of other → ⊥))
pair_watches codes clause one other true news n same is marked = inl (marked refl, is.0, is.1)
pair_watches codes clause one other false news n same is marked =
    let in_clause : (code : ℕ) → Contains codes code → Contains clause (literal_of code) = λ code h. subst (λ (c : List Lit). Contains c (literal_of code)) (sym same) (Contains-literal codes code h) in
    inr (in_clause one is.0, in_clause other is.1, λ e. is.2 (sym (literal_of-same one other e)))

-- no clauses
pub ready_none : (vars : ℕ) → IsReady [] (record { codes = []; lists = replicate (2 * vars + 2) [] }) (record { vars = vars; assigned = [] }) [] 0
ready_none vars =
    record {
      trail = λ i d h. absurd (omega arith);
      within = λ k d h. absurd (omega arith);
      long = refl;
      flags_long = refl;
      lists = length-replicate (2 * vars + 2) [];
      watching = λ m h. absurd (omega arith);
      propagated_in = omega arith;
      right = λ i x h. absurd (omega arith);
    }

-- the flag of one clause more is the last one
pub last_flag : (flags : List Bool) (b : Bool) → get_or (flags ++ b ∷ []) (length (flags ++ b ∷ []) - 1) false ≡ b
last_flag flags b = get_or_push flags b false (length (flags ++ b ∷ []) - 1) (omega (arith, length-append flags (b ∷ [])))

pub without_last : {X : Type 0} (xs : List X) (x : X) → take (length (xs ++ x ∷ []) - 1) (xs ++ x ∷ []) ≡ xs
without_last xs x =
    let n : length (xs ++ x ∷ []) - 1 ≡ length xs = omega (arith, length-append xs (x ∷ [])) in
    ap (λ (k : ℕ). take k (xs ++ x ∷ [])) n ∙ take_at xs (x ∷ []) (length xs) refl

-- a clause more that is not marked, and one that is
pub flagged_not : (old new : List Bool) → new ≡ old ++ false ∷ [] → IsFlagged old new false
flagged_not old new is = rw is (record { long = length-append old (false ∷ []); stays = λ m h. flag_stays old false m h; marked = λ e. cc })

pub flagged : (old new : List Bool) (n : ℕ) → n ≡ length old → new ≡ set (old ++ false ∷ []) n true → IsFlagged old new true
flagged old new n at is =
    let one : List Bool = old ++ false ∷ [] in
    let in' : n < length one = omega (arith, at, length-append old (false ∷ [])) in
    rw is (record {
      long = length-set one n true ∙ length-append old (false ∷ []);
      stays = λ m h. marked_more one n m (flag_stays old false m h);
      marked = λ e. subst (IsMarked (set one n true)) at (get_or-set_same one n true false in');
    })

-- whether it is marked as asked, or as it is short
pub or_true : (a b : Bool) → b ≡ true → (a || b) ≡ true
or_true true b h = refl
or_true false b h = h

pub marked_or_none : (a b : Bool) (news : List Bool) (n propagated : ℕ) → ((a || b) ≡ true → IsMarked news n) → (a ≡ false → propagated ≡ 0) → IsMarked news n ⊎ (propagated ≡ 0)
marked_or_none true b news n propagated marked none = inl (marked refl)
marked_or_none false b news n propagated marked none = inr (none refl)
