-- Chains of hints, one hint after another.
use Rattle.std.proofs.Common.{◌≡◌, ◌<◌, ◌≤◌, ◌+◌, ◌-◌, ◌++◌, [], ◌∷◌, ℕ, Some, None, List, length, get_or, take, All, arith, sym, ◌∙◌, ap, inl, inr, refl, subst, length-append}
use Rattle.std.proofs.lemmas.List.{take_more, take_all}
use Rattle.std.proofs.lemmas.List.Elements.{All-contains}
use Rattle.std.proofs.lemmas.Option.{slice_get_cases}
use Rattle.std.specs.List.{Contains}
use Rattle.cnf_core.specs.declared.literal.Lit.{Lit}
use Rattle.cnf_core.specs.Literal.{negation_of, HasVarsUpTo}
use Rattle.refutation_check.specs.declared.marks.Sight.{Sight}
use Rattle.refutation_check.specs.declared.marks.Sight.TheVariants.{Falsified, Unit, Neither}
use Rattle.refutation_check.specs.Chain.{IsFalsified, IsUnit, Names, Refutes, Forces, Reaches, IsChain}
use Rattle.refutation_check.specs.Verdict.{FailsAt}
use Rattle.refutation_check.specs.Marks.{IsSeen, HintIs}
use Rattle.refutation_check.specs.Assumed.{IsOpen}
use Rattle.refutation_check.proofs.Sights.{lit_equal, not_not}

-- a number names one clause
pub names_one : (members : List (List Lit)) (number : ℕ) (a b : List Lit) → Names members number a → Names members number b → a ≡ b
names_one members number a b p q = let e : Some a ≡ Some b = sym p.1 ∙ q.1 in cc

pub names_all : (P : List Lit → Type 0) (members : List (List Lit)) (number : ℕ) (a : List Lit) → All P members → Names members number a → P a
names_all P members number a all named =
    elim (slice_get_cases members (number - 1)).1 [
      | inl (x, in', is, there) ↦ let e : Some x ≡ Some a = sym is ∙ named.1 in let f : x ≡ a = cc in subst P (there ∙ f) (all (number - 1) x in')
      | inr (past, is) ↦ let e : None ≡ Some a = sym is ∙ named.1 in absurd cc
    ]

-- a clause that is false is no unit
pub refutes_forces : (members : List (List Lit)) (falses : List Lit) (hint : ℕ) (l : Lit) → Refutes members falses hint → Forces members falses hint l → ⊥
refutes_forces members falses hint l r f =
    let one : f.clause ≡ r.clause = names_one members hint f.clause r.clause f.named r.named in
    f.unit.not_false (All-contains (Contains falses) r.clause l r.falsified (subst (λ (c : List Lit). Contains c l) one f.unit.member))

-- what is seen of a clause is so of the hint that names it
pub hint_seen : (members : List (List Lit)) (falses : List Lit) (hint : ℕ) (clause : List Lit) → Names members hint clause → (s : Sight) → IsSeen (Contains falses) clause s → HintIs members falses hint s
hint_seen members falses hint clause named Falsified seen = record { clause = clause; named = named; falsified = seen }
hint_seen members falses hint clause named (Unit l) seen = record { clause = clause; named = named; unit = seen }
hint_seen members falses hint clause named Neither (not_false, not_unit) = (
  λ r. not_false (subst (λ (c : List Lit). IsFalsified (Contains falses) c) (names_one members hint r.clause clause r.named named) r.falsified),
  λ l f. not_unit l (subst (λ (c : List Lit). IsUnit (Contains falses) c l) (names_one members hint f.clause clause f.named named) f.unit),
)

-- a number that names no clause is no help
pub hint_unnamed : (members : List (List Lit)) (falses : List Lit) (hint : ℕ) → ((c : List Lit) → ¬ Names members hint c) → HintIs members falses hint Neither
hint_unnamed members falses hint none = (λ r. none r.clause r.named, λ l f. none f.clause f.named)

-- the literal that is seen open has a variable of the clause
pub seen_in_range : (IsFalse : Lit → Type 0) (clause : List Lit) (vars : ℕ) → HasVarsUpTo vars clause → (s : Sight) → IsSeen IsFalse clause s → (l : Lit) → s ≡ Unit l → l.var ≤ vars
seen_in_range IsFalse clause vars within s seen l e = All-contains (λ (l : Lit). l.var ≤ vars) clause l within (subst (λ (s : Sight). IsSeen IsFalse clause s) e seen).member

-- the opposite of a literal that is forced is open
pub forced_open : (members : List (List Lit)) (falses : List Lit) (hint : ℕ) (l : Lit) → Forces members falses hint l → IsOpen falses (negation_of l)
forced_open members falses hint l f = (
  f.unit.not_true,
  λ h. f.unit.not_false (subst (Contains falses) (lit_equal (negation_of (negation_of l)) l refl (not_not l.positive)) h),
)

module _ (members : List (List Lit)) where
  -- one more hint
  pub reaches_more : (first : List Lit) (hints : List ℕ) (after : List Lit) (hint : ℕ) (l : Lit) → Reaches members first hints after → Forces members after hint l → Reaches members first (hints ++ hint ∷ []) (after ++ negation_of l ∷ [])
  reaches_more first [] after hint l same forced = (l, subst (λ (fs : List Lit). Forces members fs hint l) same forced, ap (λ (fs : List Lit). fs ++ negation_of l ∷ []) same)
  reaches_more first (h ∷ hs) after hint l (k, forces, rest) forced = (k, forces, reaches_more (first ++ negation_of k ∷ []) hs after hint l rest forced)

  -- the first i hints force literals, one each, and these are not all the hints
  pub record Going (first : List Lit) (hints : List ℕ) (i : ℕ) (falses : List Lit) : Type 0 where
    pub reached : Reaches members first (take i hints) falses
    pub grown : i ≤ length falses
    pub more : 0 < i → i < length hints

  pub going_on : (first : List Lit) (hints : List ℕ) (i : ℕ) (falses : List Lit) → Going first hints i falses → (l : Lit) → i + 1 < length hints → Forces members falses (get_or hints i 0) l → Going first hints (i + 1) (falses ++ negation_of l ∷ [])
  going_on first hints i falses g l in' forced =
      record {
        reached = rw (take_more hints i 0 (omega arith)) (reaches_more first (take i hints) falses (get_or hints i 0) l g.reached forced);
        grown = omega (arith, g.grown, length-append falses (negation_of l ∷ []));
        more = λ _. in';
      }

  pub chain_ends : (first : List Lit) (hints : List ℕ) (i : ℕ) (falses : List Lit) → Going first hints i falses → i + 1 ≡ length hints → Refutes members falses (get_or hints i 0) → IsChain members first hints
  chain_ends first hints i falses g last refuted =
      record {
        before = take i hints;
        last = get_or hints i 0;
        after = falses;
        in_order = sym (take_all (i + 1) hints (omega arith)) ∙ take_more hints i 0 (omega arith);
        reached = g.reached;
        refuted = refuted;
      }

  pub fails_here : (first : List Lit) (hints : List ℕ) (i : ℕ) (falses : List Lit) → Going first hints i falses → i < length hints →
      (i + 1 < length hints → (l : Lit) → Forces members falses (get_or hints i 0) l → ⊥) → (i + 1 ≡ length hints → Refutes members falses (get_or hints i 0) → ⊥) → FailsAt members first hints (i + 1)
  fails_here first hints i falses g in' not_forced not_refuted =
      let back : (i + 1) - 1 ≡ i = omega arith in
      record {
        in_range = omega arith;
        no_hints = λ h. absurd (omega arith);
        after = falses;
        reached = rw back g.reached;
        not_forced = λ _ h. rw back (not_forced h);
        not_refuted = λ _ h. rw back (not_refuted h);
      }

  -- a step without hints
  pub fails_empty : (first : List Lit) (hints : List ℕ) → length hints ≡ 0 → FailsAt members first hints 0
  fails_empty first [] none =
      record {
        in_range = omega arith;
        no_hints = λ h. refl;
        after = first;
        reached = refl;
        not_forced = λ h. absurd (omega arith);
        not_refuted = λ h. absurd (omega arith);
      }
  fails_empty first (h ∷ hs) none = absurd (omega arith)
