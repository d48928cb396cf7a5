-- The search for offers on its way.
use Rattle.std.proofs.Common.{◌≡◌, ◌≢◌, ◌↔◌, ◌⊎◌, inl, inr, ◌<◌, ◌≤◌, ◌+◌, ◌-◌, ℕ, Bool, true, false, List, [], ◌∷◌, ◌++◌, replicate, length, get_or, sum_by, All, AllPairs, Contains, IsTrue, refl, sym, ◌∙◌, ap, subst, arith}
use Rattle.std.specs.List.{AllZip}
use Rattle.std.proofs.lemmas.Bool.{cases_lt, cases_Bool}
use Rattle.std.proofs.lemmas.List.{get_or-replicate, length-replicate}
use Rattle.std.proofs.lemmas.List.Elements.{All-push, All-nil, All-weaker, All-contains, Contains-append_left, Contains-push}
use Rattle.std.proofs.lemmas.List.Quantifiers.{all_pairs_push}
use Rattle.std.proofs.lemmas.List.Sums.{sum_by-append}
use Rattle.cnf_core.specs.Valuation.{value_of}
use Rattle.refutation_check.specs.declared.log.Step.{Step as LogStep}
use Rattle.refutation_check.specs.SearchLog.{IsSearchLog, novel_steps}
use Rattle.refutation_check.specs.Chain.{EndsEmpty}
use Rattle.refutation_check.specs.Part.{Parted}
use Rattle.refutation_check.proofs.Novelty.{novel_all}
use Rattle.refutation_check.proofs.TextLines.{zip_push}
use Rattle.rel_formula.specs.Bounds.{Bounded, cells_of}
use Rattle.rel_formula.specs.Instance.{AreCells, IsInstance, with_cell}
use Rattle.rel_formula.proofs.WithCell.{with_cell_has, all_of}
use Rattle.translation_rules.specs.Translation.{Translated, var_of}
use Rattle.translation_rules.specs.Offers.{IsPossible, AreOffers}
use Rattle.translation_rules.specs.Parts.{AreSearched, TriesCell, given_to, novel_in}
use Rattle.augmenter.specs.Search.{IsSearchFor, GivesInstance, RestsOnNoLocal}
use Rattle.augmenter.specs.Offering.{AreTrials, IsRefutedIn, OthersAreRefuted}

-- the cells below a number are settled: the marked ones can be given, and the others outside are refuted; so much of the budget is left
pub record Trying (t : Translated) (pool : List LogStep) (scenario : List ℕ) (budget upto : ℕ) (marks : List Bool) (parts : List Parted) (left : ℕ) : Type 0 where
  pub count : length marks ≡ length (cells_of t.problem)
  pub marked : (n : ℕ) → n < length (cells_of t.problem) → get_or marks n false ≡ true → IsPossible t.problem (with_cell n scenario)
  pub settled : (n : ℕ) → n < upto → (Contains scenario n → ⊥) → IsPossible t.problem (with_cell n scenario) → get_or marks n false ≡ true
  pub refuted : (n : ℕ) → n < upto → (Contains scenario n → ⊥) → get_or marks n false ≡ false → IsRefutedIn t.problem scenario parts n
  pub cells : List ℕ
  pub below : All (λ n. n < upto) cells
  pub distinct : AllPairs (λ m n. m ≢ n) cells
  pub each : AllZip (TriesCell t.problem scenario) cells parts
  pub searched : AreSearched t pool parts
  pub free : All (RestsOnNoLocal t pool) parts
  pub spent : novel_in t pool parts + left ≡ budget

pub set_out : (t : Translated) (pool : List LogStep) (scenario : List ℕ) (budget count : ℕ) → count ≡ length (cells_of t.problem) → Trying t pool scenario budget 0 (replicate count false) [] budget
set_out t pool scenario budget count e = record {
  count = length-replicate count false ∙ e;
  marked = λ n l m. absurd (let f : get_or (replicate count false) n false ≡ false = get_or-replicate count n false false (omega arith) in let k : false ≡ true = sym f ∙ m in cc);
  settled = λ n l. absurd (omega arith);
  refuted = λ n l. absurd (omega arith);
  cells = [];
  below = All-nil (λ n. n < 0);
  distinct = λ i j d less l. absurd (omega arith);
  each = tt;
  searched = All-nil (λ (part : Parted). IsSearchLog (given_to t pool part) part.log);
  free = All-nil (RestsOnNoLocal t pool);
  spent = omega arith;
}

module _ (t : Translated) (pool : List LogStep) (scenario : List ℕ) (budget upto : ℕ) (marks : List Bool) (parts : List Parted) (left : ℕ) (trying : Trying t pool scenario budget upto marks parts left) where
  -- the next cell is in the scenario, or it is marked
  pub skipped : ((Contains scenario upto → ⊥) → get_or marks upto false ≡ true) → Trying t pool scenario budget (upto + 1) marks parts left
  skipped known = record {
    count = trying.count;
    marked = trying.marked;
    settled = λ n l out possible. elim (cases_lt n upto) [
      | inl less ↦ trying.settled n less out possible
      | inr past ↦
          let same : upto ≡ n = omega arith in
          subst (λ m. get_or marks m false ≡ true) same (known (subst (λ m. Contains scenario m → ⊥) (sym same) out))
    ];
    refuted = λ n l out unmarked. elim (cases_lt n upto) [
      | inl less ↦ trying.refuted n less out unmarked
      | inr past ↦
          let same : upto ≡ n = omega arith in
          let marked : get_or marks n false ≡ true = subst (λ m. get_or marks m false ≡ true) same (known (subst (λ m. Contains scenario m → ⊥) (sym same) out)) in
          absurd (let k : false ≡ true = sym unmarked ∙ marked in cc)
    ];
    cells = trying.cells;
    below = All-weaker (λ n. n < upto) (λ n. n < upto + 1) (λ n l. omega arith) trying.cells trying.below;
    distinct = trying.distinct;
    each = trying.each;
    searched = trying.searched;
    free = trying.free;
    spent = trying.spent;
  }

  pub done : AreTrials t pool scenario budget parts
  done = record {
    tried = record { cells = trying.cells; distinct = trying.distinct; each = trying.each };
    searched = trying.searched;
    free = trying.free;
    few = (let e = trying.spent in omega arith);
  }

  module _ (in_range : upto < length (cells_of t.problem)) (absent : Contains scenario upto → ⊥) (instance : IsInstance t.problem scenario)
      (part : Parted) (search : IsSearchFor t pool (with_cell upto scenario) left part) where
    more : List ℕ
    more = trying.cells ++ upto ∷ []

    more_below : All (λ n. n < upto + 1) more
    unfolding more
    more_below = All-push (λ n. n < upto + 1) trying.cells upto (All-weaker (λ n. n < upto) (λ n. n < upto + 1) (λ n l. omega arith) trying.cells trying.below) (omega arith)

    more_distinct : AllPairs (λ m n. m ≢ n) more
    unfolding more
    more_distinct = all_pairs_push (λ m n. m ≢ n) trying.cells upto trying.distinct (λ k d l e. let h = trying.below k d l in omega arith)

    more_each : AllZip (TriesCell t.problem scenario) more (parts ++ part ∷ [])
    unfolding more
    more_each = zip_push (TriesCell t.problem scenario) trying.cells parts upto part trying.each (record { in_range = in_range; absent = absent; local = search.local })

    more_searched : AreSearched t pool (parts ++ part ∷ [])
    more_searched = All-push (λ (p : Parted). IsSearchLog (given_to t pool p) p.log) parts part trying.searched search.searched

    more_free : All (RestsOnNoLocal t pool) (parts ++ part ∷ [])
    more_free = All-push (RestsOnNoLocal t pool) parts part trying.free search.free

    more_novel : novel_in t pool (parts ++ part ∷ []) ≡ novel_in t pool parts + length part.log
    more_novel =
        let f : Parted → ℕ = λ p. novel_steps (given_to t pool p) p.log in
        let one : sum_by f (part ∷ []) ≡ f part = omega arith in
        let all : f part ≡ length part.log = novel_all (given_to t pool part) part.log (search.novel scenario instance) in
        sum_by-append f parts (part ∷ []) ∙ ap (λ n. sum_by f parts + n) (one ∙ all)

    -- the search has spent what was left
    pub spent_trials : AreTrials t pool scenario budget (parts ++ part ∷ [])
    spent_trials = record {
      tried = record { cells = more; distinct = more_distinct; each = more_each };
      searched = more_searched;
      free = more_free;
      few = (let e = more_novel in let s = trying.spent in let f = search.few in omega arith);
    }

    pub spent_all : length part.log ≡ left → novel_in t pool (parts ++ part ∷ []) ≡ budget
    spent_all all = let e = more_novel in let s = trying.spent in omega arith

    still_refuted : (n : ℕ) → IsRefutedIn t.problem scenario parts n → IsRefutedIn t.problem scenario (parts ++ part ∷ []) n
    still_refuted n is = record { part = is.part; among = Contains-append_left parts (part ∷ []) is.part is.among; tries = is.tries; ends = is.ends }

    refuted_now : EndsEmpty part.log → IsRefutedIn t.problem scenario (parts ++ part ∷ []) upto
    refuted_now ends = record { part = part; among = Contains-push parts part; tries = record { in_range = in_range; absent = absent; local = search.local }; ends = ends }

    -- the cell is settled too, by these marks
    settled_by : (new : List Bool) → length new ≡ length marks → ((n : ℕ) → n < length (cells_of t.problem) → get_or new n false ≡ true → IsPossible t.problem (with_cell n scenario)) →
        ((n : ℕ) → n < length marks → get_or marks n false ≡ true → get_or new n false ≡ true) → (IsPossible t.problem (with_cell upto scenario) → get_or new upto false ≡ true) →
        (get_or new upto false ≡ false → EndsEmpty part.log) → Trying t pool scenario budget (upto + 1) new (parts ++ part ∷ []) (left - length part.log)
    settled_by new as_long marked kept here ends = record {
      count = as_long ∙ trying.count;
      marked = marked;
      settled = λ n l out possible. elim (cases_lt n upto) [
        | inl less ↦ kept n (let e = trying.count in omega arith) (trying.settled n less out possible)
        | inr past ↦
            let same : upto ≡ n = omega arith in
            subst (λ m. get_or new m false ≡ true) same (here (subst (λ m. IsPossible t.problem (with_cell m scenario)) (sym same) possible))
      ];
      refuted = λ n l out unmarked. elim (cases_lt n upto) [
        | inl less ↦ elim (cases_Bool (get_or marks n false)) [
          | inl old ↦
              let still : get_or new n false ≡ true = kept n (let e = trying.count in omega arith) old in
              absurd (let k : false ≡ true = sym unmarked ∙ still in cc)
          | inr old ↦ still_refuted n (trying.refuted n less out old)
        ]
        | inr past ↦
            let same : upto ≡ n = omega arith in
            subst (IsRefutedIn t.problem scenario (parts ++ part ∷ [])) same (refuted_now (ends (subst (λ m. get_or new m false ≡ false) (sym same) unmarked)))
      ];
      cells = more;
      below = more_below;
      distinct = more_distinct;
      each = more_each;
      searched = more_searched;
      free = more_free;
      spent = (let e = more_novel in let s = trying.spent in let f = search.few in omega arith);
    }

    -- no instance has the cell
    pub refused : (IsPossible t.problem (with_cell upto scenario) → ⊥) → EndsEmpty part.log → Trying t pool scenario budget (upto + 1) marks (parts ++ part ∷ []) (left - length part.log)
    refused none ends = settled_by marks refl trying.marked (λ n l m. m) (λ possible. absurd (none possible)) (λ unmarked. ends)

    -- an instance has it, and all of the instance's cells are marked
    pub given : (valuation : List Bool) → GivesInstance t.problem (with_cell upto scenario) valuation → (new : List Bool) → length new ≡ length marks →
        ((n : ℕ) → n < length marks → IsTrue (get_or new n false) ↔ (IsTrue (get_or marks n false) ⊎ IsTrue (value_of valuation (var_of n)))) →
        Trying t pool scenario budget (upto + 1) new (parts ++ part ∷ []) (left - length part.log)
    given valuation gives new as_long adds =
        let there : Contains gives.instance upto = gives.has upto ((with_cell_has upto scenario upto).1 (inr refl)) in
        let now_marked : get_or new upto false ≡ true = (adds upto (let e = trying.count in omega arith)).1 (inr ((gives.chosen upto in_range).1 there)) in
        settled_by new as_long
        (λ n l m. elim ((adds n (let e = trying.count in omega arith)).0 m) [
          | inl old ↦ trying.marked n l old
          | inr true_one ↦
              let has_it : Contains gives.instance n = (gives.chosen n l).0 true_one in
              record {
                instance = gives.instance;
                instance_of = gives.instance_of;
                has = λ k c. elim ((with_cell_has n scenario k).0 c) [
                  | inl old ↦ gives.has k ((with_cell_has upto scenario k).1 (inl old))
                  | inr same ↦ subst (Contains gives.instance) (sym same) has_it
                ];
              }
        ])
        (λ n l m. (adds n l).1 (inl m))
        (λ possible. now_marked)
        (λ unmarked. absurd (let k : false ≡ true = sym unmarked ∙ now_marked in cc))

-- at the end the marked cells outside are the offers
pub all_offers : (t : Translated) (pool : List LogStep) (scenario : List ℕ) (budget upto : ℕ) (marks : List Bool) (parts : List Parted) (left : ℕ) → Trying t pool scenario budget upto marks parts left →
    upto ≡ length (cells_of t.problem) → (cells : List ℕ) →
    ((cell : ℕ) → Contains cells cell ↔ ((cell < length marks) × (Contains scenario cell → ⊥) × IsTrue (get_or marks cell false))) → AllPairs (λ m n. m < n) cells → AreOffers t.problem scenario cells
all_offers t pool scenario budget upto marks parts left trying all cells exactly rising = record {
  exactly = λ cell. (
    λ c.
        let is = (exactly cell).0 c in
        let in_range : cell < length (cells_of t.problem) = let l = is.0 in let e = trying.count in omega arith in
        record { in_range = in_range; absent = is.1; possible = trying.marked cell in_range is.2 },
    λ offer.
        let l = offer.in_range in
        (exactly cell).1 ((let e = trying.count in omega arith), offer.absent, trying.settled cell (omega arith) offer.absent offer.possible),
  );
  rising = rising;
}

-- and of the others outside each is refuted
pub others_refuted : (t : Translated) (pool : List LogStep) (scenario : List ℕ) (budget upto : ℕ) (marks : List Bool) (parts : List Parted) (left : ℕ) → Trying t pool scenario budget upto marks parts left →
    upto ≡ length (cells_of t.problem) → (cells : List ℕ) →
    ((cell : ℕ) → Contains cells cell ↔ ((cell < length marks) × (Contains scenario cell → ⊥) × IsTrue (get_or marks cell false))) → OthersAreRefuted t.problem scenario cells parts
others_refuted t pool scenario budget upto marks parts left trying all cells exactly = λ cell in_range absent out. elim (cases_Bool (get_or marks cell false)) [
  | inl marked ↦ absurd (out ((exactly cell).1 ((let e = trying.count in omega arith), absent, marked)))
  | inr unmarked ↦ trying.refuted cell (omega arith) absent unmarked
]

-- a count that was raised by no more than the novel steps of one more part
pub counted : (t : Translated) (pool : List LogStep) (parts : List Parted) (part : Parted) (first old new : ℕ) → new ≤ old + novel_in t pool (part ∷ []) → old ≤ first + novel_in t pool parts → new ≤ first + novel_in t pool (parts ++ part ∷ [])
counted t pool parts part first old new rose before = omega (arith, sum_by-append (λ (p : Parted). novel_steps (given_to t pool p) p.log) parts (part ∷ []), rose, before)

-- a scenario of cells with one cell more is one too
pub with_cell_in : (p : Bounded) (scenario : List ℕ) (cell : ℕ) → AreCells p scenario → cell < length (cells_of p) → AreCells p (with_cell cell scenario)
with_cell_in p scenario cell cells_in in_range =
    let B : ℕ → Type 0 = λ n. n < length (cells_of p) in
    all_of B (with_cell cell scenario) (λ n c. elim ((with_cell_has cell scenario n).0 c) [
      | inl old ↦ All-contains B scenario n cells_in old
      | inr new ↦ subst B (sym new) in_range
    ])
