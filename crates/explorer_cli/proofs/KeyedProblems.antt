-- The problems of commands under their keys.
use Rattle.std.proofs.Common.{◌≡◌, ◌≢◌, ◌≤◌, ◌<◌, ◌+◌, ◌*◌, ◌==◌, ◌∙◌, ℕ, Bool, true, false, Option, Some, List, [], ◌∷◌, ◌++◌, map, length, take, get_or, All, AllPairs, Contains, inl, inr, sym, ap, subst, arith, length-append, append-nil, append_assoc}
use Rattle.std.specs.Prelude.{slice_get}
use Rattle.std.specs.List.{position_or_len}
use Rattle.std.specs.Global.{Vec}
use Rattle.std.proofs.lemmas.Bool.{cases_lt, eqb-true, eq-eqb}
use Rattle.std.proofs.lemmas.Option.{get_or_from_slice_get, slice_get_within}
use Rattle.std.proofs.lemmas.List.{length-map, get_or-map, map-append, take_more}
use Rattle.std.proofs.lemmas.Grind.{flat_map-append}
use Rattle.std.proofs.lemmas.List.Concat.{get_or-flat_map}
use Rattle.std.proofs.lemmas.List.Elements.{All-nil, All-append, All-map, All-weaker, Contains-get_or}
use Rattle.std.proofs.lemmas.List.Folds.{length-flat_map-take}
use Rattle.std.proofs.lemmas.List.Sums.{fails_before_first, passes_at_first}
use Rattle.rel_formula.specs.Bounds.{Bounded}
use Rattle.rel_formula.specs.Renaming.{IsSymmetric}
use Rattle.rel_formula.proofs.Counts.{no_longer}
use Rattle.named_model.specs.Model.{NamedTree}
use Rattle.lowering_rules.specs.Formula.{all_facts}
use Rattle.lowering_rules.specs.Problem.{ProblemOf}
use Rattle.script_format.specs.declared.entries.SessionEntry.{SessionEntry}
use Rattle.served_models.specs.declared.purposes.Purpose.{Purpose}
use Rattle.served_models.specs.declared.commands.ServedCommand.{ServedCommand}
use Rattle.served_models.specs.Served.{IsAsked, IsProblemOf, AreMade, AreAllMade}
use Rattle.explorer_run.specs.Served.{IsServable}
use Rattle.explorer_cli.specs.Runs.{IsServedAt, IsServed}
use Rattle.explorer_cli.specs.Keys.{problems_in, problems_of, place_of, place_in, key_of}

-- ---- the first place that passes a test

module _ {X : Type 0} (test : X → Bool) (xs : List X) (c : X) (in' : Contains xs c) (passes : test c ≡ true) where
  pub within : position_or_len test xs < length xs
  within = elim (cases_lt (position_or_len test xs) (length xs)) [
    | inl less ↦ less
    | inr more ↦
        let l = in'.1 in
        let fails : test (get_or xs in'.0 c) ≡ false = fails_before_first test xs in'.0 c (omega arith) in
        let both : true ≡ false = sym passes ∙ ap test (sym in'.2) ∙ fails in
        absurd (cc)
  ]

-- ---- lists of problems, as they are made and counted

-- the problem of a model's last command comes in front of others
pub front_more : (ys made : List ServedCommand) (c : ServedCommand) (ps new all : List Bounded) → made ≡ ys ++ c ∷ [] → new ≡ c.problem ∷ ps → map (λ (d : ServedCommand). d.problem) made ++ ps ≡ all
    → map (λ (d : ServedCommand). d.problem) ys ++ new ≡ all
front_more ys made c ps new all is front so_far =
    let f : ServedCommand → Bounded = λ d. d.problem in
    ap (λ (qs : List Bounded). map f ys ++ qs) front ∙ sym (append_assoc (map f ys) (c.problem ∷ []) ps)
    ∙ ap (λ (qs : List Bounded). qs ++ ps) (sym (ap (map f) is ∙ map-append f ys (c ∷ []))) ∙ so_far

pub front_all : (made : List ServedCommand) (ps all : List Bounded) → made ≡ [] → map (λ (d : ServedCommand). d.problem) made ++ ps ≡ all → ps ≡ all
front_all made ps all none so_far = ap (λ (cs : List ServedCommand). map (λ (d : ServedCommand). d.problem) cs ++ ps) (sym none) ∙ so_far

-- so do those of the last model
pub models_more : (ys models : List (Vec ServedCommand)) (made : Vec ServedCommand) (ps new all : List Bounded) → models ≡ ys ++ made ∷ [] → new ≡ problems_in made ++ ps → problems_of models ++ ps ≡ all
    → problems_of ys ++ new ≡ all
models_more ys models made ps new all is front so_far =
    let last : problems_of (made ∷ []) ≡ problems_in made = append-nil (problems_in made) in
    ap (λ (qs : List Bounded). problems_of ys ++ qs) front ∙ sym (append_assoc (problems_of ys) (problems_in made) ps)
    ∙ ap (λ (qs : List Bounded). qs ++ ps) (sym (ap problems_of is ∙ flat_map-append problems_in ys (made ∷ []) ∙ ap (λ (qs : List Bounded). problems_of ys ++ qs) last)) ∙ so_far

pub models_all : (models : List (Vec ServedCommand)) (ps all : List Bounded) → models ≡ [] → problems_of models ++ ps ≡ all → ps ≡ all
models_all models ps all none so_far = ap (λ (ms : List (Vec ServedCommand)). problems_of ms ++ ps) (sym none) ∙ so_far

-- one model more has so many problems more
pub count_more : (models : List (Vec ServedCommand)) (i : ℕ) (made : Vec ServedCommand) → i < length models → made ≡ get_or models i made
    → length (problems_of (take (i + 1) models)) ≡ length (problems_of (take i models)) + length made.items
count_more models i made l item =
    let more : take (i + 1) models ≡ take i models ++ made ∷ [] = take_more models i made l ∙ ap (λ (v : Vec ServedCommand). take i models ++ v ∷ []) (sym item) in
    let whole : length (problems_of (take (i + 1) models)) ≡ length (problems_of (take i models) ++ problems_of (made ∷ [])) = ap (λ (vs : List (Vec ServedCommand)). length (problems_of vs)) more ∙ ap (λ (ps : List Bounded). length ps) (flat_map-append problems_in (take i models) (made ∷ [])) in
    let parts = length-append (problems_of (take i models)) (problems_of (made ∷ [])) in
    let last = length-append (problems_in made) [] in
    let long : length (problems_in made) ≡ length made.items = length-map made.items (λ (c : ServedCommand). c.problem) in
    omega (arith, whole, parts, last, long)

-- and all that were counted so far, with those of one model more, are no more than there are
pub count_few : (models : List (Vec ServedCommand)) (i : ℕ) (made : Vec ServedCommand) → i < length models → made ≡ get_or models i made
    → length (problems_of (take i models)) + length made.items ≤ length (problems_of models)
count_few models i made l item =
    let long : length (problems_in made) ≡ length made.items = length-map made.items (λ (c : ServedCommand). c.problem) in
    let whole : length (problems_of (take i models)) + length (problems_in made) ≤ length (problems_of models) =
    subst (λ (v : Vec ServedCommand). length (problems_of (take i models)) + length (problems_in v) ≤ length (problems_of models)) (sym item) (length-flat_map-take problems_in models i made l) in
    omega (arith, long, whole)

-- ---- the key of a session's command

module _ (models : List (Vec ServedCommand)) (x : SessionEntry) where
  abbrev is_asked : ServedCommand → Bool
  is_asked d = d.number == x.number

  -- the session's model, and the command among those that are served of it
  record IsOn (made : Vec ServedCommand) : Type 0 where
    pub inside : x.model < length models
    pub item : get_or models x.model made ≡ made
    pub key : key_of models x.model x.number ≡ length (problems_of (take x.model models)) + place_of x.number made.items
    pub within : place_of x.number made.items < length made.items

  is_on : (made : Vec ServedCommand) (c : ServedCommand) → slice_get models x.model ≡ Some made → Contains made.items c → c.number ≡ x.number → IsOn made
  is_on made c at in' number =
      let passes : is_asked c ≡ true = eq-eqb c.number x.number number in
      record {
        inside = slice_get_within models x.model made at;
        item = get_or_from_slice_get models x.model made made at;
        key = ap (λ (found : Option (Vec ServedCommand)). length (problems_of (take x.model models)) + place_in x.number found) at;
        within = within is_asked made.items c in' passes;
      }

  -- the commands of earlier models come before, and those of the session's model behind them
  before_key : (made : Vec ServedCommand) → IsOn made → length (problems_of (take x.model models)) + length made.items ≤ length (problems_of models)
  before_key made on = count_few models x.model made on.inside (sym on.item)

  pub model_inside : IsServed models x → x.model < length models
  model_inside (p, (made, at, rest)) = slice_get_within models x.model made at

  pub few_before : IsServed models x → length (problems_of (take x.model models)) ≤ length (problems_of models)
  few_before (p, (made, at, (c, in', number, problem))) = let on = is_on made c at in' number in omega (arith, before_key made on)

  pub key_within : IsServed models x → key_of models x.model x.number < length (problems_of models)
  key_within (p, (made, at, (c, in', number, problem))) = let on = is_on made c at in' number in omega (arith, before_key made on, on.key, on.within)

  -- the place among the commands of the model makes the key
  pub key_is : (made : Vec ServedCommand) → get_or models x.model made ≡ made → IsServed models x → length (problems_of (take x.model models)) + place_of x.number made.items ≡ key_of models x.model x.number
  key_is made item (p, (own, at, (c, in', number, problem))) =
      let same : own ≡ made = sym (get_or_from_slice_get models x.model own made at) ∙ item in
      sym (subst IsOn same (is_on own c at in' number)).key

  -- the problem under the key is served to the session
  pub problem_there : (p : Bounded) → IsServed models x → slice_get (problems_of models) (key_of models x.model x.number) ≡ Some p → IsServedAt models x p
  problem_there p (q, (made, at, (c, in', number, problem))) has =
      let on = is_on made c at in' number in
      let place = place_of x.number made.items in
      let own : ServedCommand = get_or made.items place c in
      let long : length (problems_in made) ≡ length made.items = length-map made.items (λ (d : ServedCommand). d.problem) in
      let short : place < length (problems_in (get_or models x.model made)) = subst (λ (v : Vec ServedCommand). place < length (problems_in v)) (sym on.item) (omega (arith, long, on.within)) in
      let first : get_or (problems_of models) (key_of models x.model x.number) p ≡ p = get_or_from_slice_get (problems_of models) (key_of models x.model x.number) p p has in
      let second : get_or (problems_of models) (key_of models x.model x.number) p ≡ get_or (problems_in made) place p =
      ap (λ (k : ℕ). get_or (problems_of models) k p) on.key ∙ get_or-flat_map problems_in models x.model place made p on.inside short ∙ ap (λ (v : Vec ServedCommand). get_or (problems_in v) place p) on.item in
      let third : get_or (problems_in made) place p ≡ own.problem = get_or-map (λ (d : ServedCommand). d.problem) made.items place c p on.within in
      let is : own.number ≡ x.number = eqb-true own.number x.number (passes_at_first is_asked made.items c on.within) in
      (made, at, (own, Contains-get_or made.items place c on.within, is, sym first ∙ second ∙ third))

-- ---- all of them

-- what the law of problems says, as it is used here
abbrev pub AreSymmetric : Type 0
AreSymmetric = (m : NamedTree) (n : ℕ) (facts : List ℕ) (p : Bounded) → ProblemOf m n facts p → IsSymmetric p

module _ (purpose : Purpose) (sessions : List SessionEntry) where
  -- there are no more of a model than sessions
  numbers_differ : (made : List ServedCommand) → AllPairs (λ (x y : ServedCommand). x.number < y.number) made → AllPairs (λ (m n : ℕ). m ≢ n) (map (λ (c : ServedCommand). c.number) made)
  numbers_differ [] rising i j d l m same = absurd (omega arith)
  numbers_differ (c ∷ made) rising i j d l m same =
      let long = length-map (c ∷ made) (λ (x : ServedCommand). x.number) in
      let less = rising i j c l (omega (arith, long, m)) in
      let first = get_or-map (λ (x : ServedCommand). x.number) (c ∷ made) i c d (omega (arith, long, l, m)) in
      let second = get_or-map (λ (x : ServedCommand). x.number) (c ∷ made) j c d (omega (arith, long, m)) in
      absurd (omega (arith, less, first, second, same))

  number_there : (place : ℕ) (made : List ServedCommand) → All (λ (c : ServedCommand). IsAsked sessions place c.number) made
      → (n : ℕ) → Contains (map (λ (c : ServedCommand). c.number) made) n → Contains (map (λ (x : SessionEntry). x.number) sessions) n
  number_there place [] asked n in' = absurd (let l = in'.1 in omega arith)
  number_there place (c ∷ made) asked n in' =
      let long = length-map (c ∷ made) (λ (x : ServedCommand). x.number) in
      let inside : in'.0 < length (c ∷ made) = let l = in'.1 in omega (arith, long, l) in
      let own : ServedCommand = get_or (c ∷ made) in'.0 c in
      let same : own.number ≡ n = sym (get_or-map (λ (x : ServedCommand). x.number) (c ∷ made) in'.0 c n inside) ∙ in'.2 in
      let by = asked in'.0 c inside in
      let session = by.0 in
      let at = by.1 in
      let many = length-map sessions (λ (x : SessionEntry). x.number) in
      (at.0, let l = at.1 in omega (arith, many, l), get_or-map (λ (x : SessionEntry). x.number) sessions at.0 session n at.1 ∙ ap (λ (x : SessionEntry). x.number) at.2 ∙ by.3 ∙ same)

  few_made : (place : ℕ) (m : NamedTree) (made : List ServedCommand) → AreMade purpose sessions place m made → length made ≤ length sessions
  few_made place m made are =
      let less = no_longer (map (λ (c : ServedCommand). c.number) made) (map (λ (x : SessionEntry). x.number) sessions) (numbers_differ made are.rising) (number_there place made are.asked) in
      let long = length-map made (λ (c : ServedCommand). c.number) in
      let many = length-map sessions (λ (x : SessionEntry). x.number) in
      omega (arith, less, long, many)

  pub few_problems : (place : ℕ) (ms : List NamedTree) (models : List (Vec ServedCommand)) → length sessions ≤ 64 → AreAllMade purpose sessions place ms models → length (problems_of models) ≤ 64 * length ms
  few_problems place [] [] few are = omega arith
  few_problems place [] (x ∷ xs) few are = absurd are
  few_problems place (m ∷ ms) [] few are = absurd are
  few_problems place (m ∷ ms) (x ∷ xs) few are =
      let here = few_made place m x.items are.0 in
      let long = length-map x.items (λ (c : ServedCommand). c.problem) in
      let joined = length-append (problems_in x) (problems_of xs) in
      let rest = few_problems (place + 1) ms xs few are.1 in
      omega (arith, here, long, joined, rest, few)

  -- each of a model can be translated, and so can all
  pub made_servable : AreSymmetric → (place : ℕ) (m : NamedTree) (made : List ServedCommand) → AreMade purpose sessions place m made → All (λ (c : ServedCommand). IsServable c.problem) made
  made_servable symmetric place m made are =
      let Servable : ServedCommand → Type 0 = λ c. IsServable c.problem in
      let each : (c : ServedCommand) → IsProblemOf m c.number c.problem → Servable c = λ c is. record { translatable = is.lowered.translatable; symmetric = symmetric m c.number (all_facts m) c.problem is.lowered.is } in
      All-weaker (λ (c : ServedCommand). IsProblemOf m c.number c.problem) Servable each made are.each

  pub all_servable : AreSymmetric → (place : ℕ) (ms : List NamedTree) (models : List (Vec ServedCommand)) → AreAllMade purpose sessions place ms models → All IsServable (problems_of models)
  all_servable symmetric place [] [] are = All-nil IsServable
  all_servable symmetric place [] (x ∷ xs) are = absurd are
  all_servable symmetric place (m ∷ ms) [] are = absurd are
  all_servable symmetric place (m ∷ ms) (x ∷ xs) are =
      let own = made_servable symmetric place m x.items are.0 in
      All-append IsServable (problems_in x) (problems_of xs) (All-map IsServable (λ (c : ServedCommand). c.problem) x.items own) (all_servable symmetric (place + 1) ms xs are.1)
