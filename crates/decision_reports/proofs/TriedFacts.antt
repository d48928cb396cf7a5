-- Some of the facts of a command: what is refuted, what is needed, and how trials go on.
use Rattle.std.proofs.Common.{◌≡◌, ◌<◌, ◌≤◌, ◌^◌, ◌++◌, ◌∷◌, ◌==◌, [], ℕ, Bool, not, List, filter, length, Contains, AllPairs, append_assoc, refl, sym, ◌∙◌, ap, subst, arith}
use Rattle.std.specs.List.{AllZip}
use Rattle.std.specs.Prelude.{Vec}
use Rattle.std.specs.declared.alloc.Global.{Global}
use Rattle.std.proofs.lemmas.List.{append-nil}
use Rattle.std.proofs.lemmas.List.Kept.{AllPairs-filter}
use Rattle.std.proofs.lemmas.List.FromFn.{get_or-range_with_len, length-range_with_len}
use Rattle.refutation_check.proofs.TextLines.{zip_push}
use Rattle.rel_formula.specs.Bounds.{Bounded, IsProblem}
use Rattle.rel_terms.specs.Terms.{HasTerms}
use Rattle.named_model.specs.Model.{NamedTree}
use Rattle.lowering_rules.specs.Formula.{all_facts}
use Rattle.lowering_rules.specs.Problem.{ProblemOf}
use Rattle.translation_rules.specs.Translation.{Translated}
use Rattle.decision_reports.specs.Decided.{IsDecision}
use Rattle.decision_reports.specs.SomeFacts.{AreSomeOf, without}
use Rattle.decision_reports.specs.FactSets.{IsWitness, AreRefuted, IsTranslationOf, IsCore, IsSpentOn, AreNeeded, AreOneLess}
use Rattle.decision_reports.specs.Trials.{HasWholeProblem, IsTrial, tried_by, smaller, AreTried, IsNext, IsNextOf}
use Rattle.decision_reports.specs.declared.decision.Decision.{Decision}
use Rattle.decision_reports.specs.declared.decision.Decision.TheVariants.{Holds, Fails, Spent as NotDecided}
use Rattle.decision_reports.specs.declared.needed_facts.trials.Trial.{Trial}
use Rattle.decision_reports.specs.declared.needed_facts.trials.Trial.TheVariants.{Refuted, Satisfied, Spent}
use Rattle.decision_reports.specs.declared.needed_facts.singles.Tried.{Tried}
use Rattle.decision_reports.specs.declared.needed_facts.singles.Next.{Next}
use Rattle.decision_reports.specs.declared.needed_facts.singles.Next.TheVariants as next
use Rattle.decision_reports.specs.declared.needed_facts.trials.Core.{Core}
use Rattle.decision_reports.proofs.KeptNumbers.{taken_out, in_middle, either_first}
use Rattle.decision_reports.proofs.FewerFacts.{fewer_facts, fewer_problem, fewer_lowered, weaker}

-- ---- by their numbers

facts_rise : (m : NamedTree) → AllPairs (λ m n. m < n) (all_facts m)
facts_rise m i j d less l =
    let count = length m.facts in
    let long = length-range_with_len 1 count in
    let one = get_or-range_with_len 1 count i d (omega arith) in
    let two = get_or-range_with_len 1 count j d (omega arith) in
    omega arith

some_rise : (m : NamedTree) (facts : List ℕ) → AreSomeOf (all_facts m) facts → AllPairs (λ m n. m < n) facts
some_rise m facts some = subst (AllPairs (λ m n. m < n)) (sym some.1) (AllPairs-filter (λ m n. m < n) some.0 (all_facts m) (facts_rise m))

-- ---- fewer of them

-- a witness of some facts is one of fewer
pub still_witness : (m : NamedTree) (n : ℕ) (facts : List ℕ) (keep : ℕ → Bool) (s : List ℕ) → IsWitness m n facts s → IsWitness m n (filter keep facts) s
still_witness m n facts keep s w = (fewer_facts m n facts w.0 w.1 w.2 keep, fewer_problem m n facts w.0 w.1 w.2 keep, fewer_lowered m n facts w.0 w.1 w.2 keep, (weaker m n facts w.0 w.1 w.2 keep).instances s w.3)

-- and without one of them one of fewer without it
pub still_needed : (m : NamedTree) (n : ℕ) (facts : List ℕ) (keep : ℕ → Bool) (needed : List ℕ) (ss : List (List ℕ)) → AllZip (λ fact s. IsWitness m n (without fact facts) s) needed ss
    → AllZip (λ fact s. IsWitness m n (without fact (filter keep facts)) s) needed ss
still_needed m n facts keep [] [] each = tt
still_needed m n facts keep [] (s ∷ ss) each = absurd each
still_needed m n facts keep (fact ∷ needed) [] each = absurd each
still_needed m n facts keep (fact ∷ needed) (s ∷ ss) each =
    (subst (λ xs. IsWitness m n xs s) (either_first keep (λ other. not (other == fact)) facts) (still_witness m n (without fact facts) keep s each.0), still_needed m n facts keep needed ss each.1)

-- there is a problem with few terms
pub some_problem : (m : NamedTree) (n : ℕ) (facts : List ℕ) → HasWholeProblem m n → AreSomeOf (all_facts m) facts → (q : Bounded) × IsProblem q × ProblemOf m n facts q × ((k : ℕ) × HasTerms q k × (k ≤ 2 ^ 18))
some_problem m n facts whole some =
    let p = whole.0 in
    let is = whole.1 in
    let of = whole.2.is in
    let few = whole.2.translatable.few_terms in
    let less = (weaker m n (all_facts m) p is of some.0).terms few.0 few.1 in
    let small : less.0 ≤ 2 ^ 18 = let a = less.2 in let b = few.2 in omega arith in
    (fewer_facts m n (all_facts m) p is of some.0, fewer_problem m n (all_facts m) p is of some.0, subst (λ xs. ProblemOf m n xs (fewer_facts m n (all_facts m) p is of some.0)) (sym some.1) (fewer_lowered m n (all_facts m) p is of some.0), (less.0, less.1, small))

-- ---- cores

pub core_refutes : (m : NamedTree) (n : ℕ) (core : Core) → IsCore m n core → AreRefuted m n core.facts.items
core_refutes m n core is = (core.translation.problem, is.translation.problem, is.translation.lowered, is.refuted.none)

-- ---- trials

pub trial_right : (m : NamedTree) (n budget : ℕ) (facts : Vec ℕ Global) (t : Translated) (d : Decision) → IsTranslationOf m n facts.items t → IsDecision t budget d → IsTrial m n budget facts.items (tried_by facts t d)
trial_right m n budget facts t (Holds proof) of is = (refl, record { translation = of; refuted = is })
trial_right m n budget facts t (Fails scenario) of due = (t.problem, of.problem, of.lowered, due.minimal.instance_of)
trial_right m n budget facts t (NotDecided parts) of is = (refl, record { translation = of; spent = is })

pub smaller_core : (m : NamedTree) (n budget : ℕ) (facts : List ℕ) (core : Core) (trial : Trial) → IsCore m n core → IsTrial m n budget facts trial → IsCore m n (smaller core trial)
smaller_core m n budget facts core (Refuted less) is found = found.1
smaller_core m n budget facts core (Satisfied scenario) is found = is
smaller_core m n budget facts core (Spent tried) is found = is

module _ (m : NamedTree) (n budget fact : ℕ) (rest : List ℕ) (tried : Tried) (so_far : AreTried m n (fact ∷ rest) tried) where
  abbrev facts : List ℕ
  facts = tried.core.facts.items

  up : AllPairs (λ m n. m < n) (so_far.needed ++ fact ∷ rest)
  up = subst (AllPairs (λ m n. m < n)) so_far.facts (some_rise m facts so_far.core.translation.some)

  -- without the fact the core has those before it and those behind it
  left : without fact facts ≡ so_far.needed ++ rest
  left = ap (without fact) so_far.facts ∙ taken_out fact so_far.needed rest up

  refuted : (less : Core) (later : Tried) → less.facts.items ≡ without fact facts → IsCore m n less → later.core ≡ less → later.scenarios.items ≡ tried.scenarios.items → AreTried m n rest later
  refuted less later same is core scenarios =
      let now : later.core.facts.items ≡ without fact facts = ap (λ x. x.facts.items) core ∙ same in
      let each = still_needed m n facts (λ other. not (other == fact)) so_far.needed tried.scenarios.items so_far.each in
      record {
        core = subst (IsCore m n) (sym core) is;
        needed = so_far.needed;
        facts = now ∙ left;
        each = subst (λ ss. AllZip (λ g s. IsWitness m n (without g later.core.facts.items) s) so_far.needed ss) (sym scenarios)
            (subst (λ xs. AllZip (λ g s. IsWitness m n (without g xs) s) so_far.needed tried.scenarios.items) (sym now) each);
      }

  satisfied : (s : List ℕ) (later : Tried) → IsWitness m n (without fact facts) s → later.core ≡ tried.core → later.scenarios.items ≡ tried.scenarios.items ++ s ∷ [] → AreTried m n rest later
  satisfied s later witness core scenarios =
      let same : later.core.facts.items ≡ facts = ap (λ x. x.facts.items) core in
      let each = zip_push (λ g s. IsWitness m n (without g facts) s) so_far.needed tried.scenarios.items fact s so_far.each witness in
      record {
        core = subst (IsCore m n) (sym core) so_far.core;
        needed = so_far.needed ++ fact ∷ [];
        facts = same ∙ so_far.facts ∙ sym (append_assoc so_far.needed (fact ∷ []) rest);
        each = subst (λ ss. AllZip (λ g s. IsWitness m n (without g later.core.facts.items) s) (so_far.needed ++ fact ∷ []) ss) (sym scenarios)
            (subst (λ xs. AllZip (λ g s. IsWitness m n (without g xs) s) (so_far.needed ++ fact ∷ []) (tried.scenarios.items ++ s ∷ [])) (sym same) each);
      }

  one_less : (facts_left : List ℕ) → facts_left ≡ without fact facts → AreOneLess m n facts_left
  one_less facts_left same = record {
    more = facts;
    some = so_far.core.translation.some;
    refuted = core_refutes m n tried.core so_far.core;
    fact = fact;
    member = subst (λ xs. Contains xs fact) (sym so_far.facts) (in_middle fact so_far.needed rest);
    less = same;
  }

  pub next_right : (trial : Trial) (later : Next) → IsTrial m n budget (without fact tried.core.facts.items) trial → IsNextOf tried trial later → IsNext m n budget rest later
  next_right (Refuted less) (next.Tried later) found of = refuted less later found.0 found.1 of.0 of.1
  next_right (Refuted less) (next.Spent spent) found of = absurd of
  next_right (Satisfied s) (next.Tried later) found of = satisfied s later found of.0 of.1
  next_right (Satisfied s) (next.Spent spent) found of = absurd of
  next_right (Spent spent) (next.Tried later) found of = absurd of
  next_right (Spent spent) (next.Spent same) found of =
      let now : same.facts.items ≡ without fact facts = ap (λ x. x.facts.items) of ∙ found.0 in
      (subst (IsSpentOn m n budget) (sym of) found.1, one_less same.facts.items now)

pub all_needed : (m : NamedTree) (n : ℕ) (tried : Tried) → AreTried m n [] tried → AreNeeded m n tried.core.facts.items tried.scenarios.items
all_needed m n tried so_far =
    let same : so_far.needed ≡ tried.core.facts.items = sym (append-nil so_far.needed) ∙ sym so_far.facts in
    subst (λ xs. AllZip (λ g s. IsWitness m n (without g tried.core.facts.items) s) xs tried.scenarios.items) same so_far.each
