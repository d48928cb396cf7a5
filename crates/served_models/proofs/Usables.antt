-- Models that sessions can run on: one model more, and what holds of all of them.
use Rattle.std.proofs.Common.{◌≡◌, inl, inr, Result, Ok, Err, ℕ, ◌+◌, ◌<◌, List, [], ◌∷◌, ◌++◌, length, take, drop, get_or, All, AllPairs, refl, sym, ap, subst, ◌∙◌, arith}
use Rattle.std.specs.Prelude.{Vec, MatchResult}
use Rattle.std.specs.declared.alloc.Global.{Global}
use Rattle.std.proofs.lemmas.Bool.{cases_lt}
use Rattle.std.proofs.lemmas.Option.{slice_get_read}
use Rattle.std.proofs.lemmas.List.{length-take-le, take_more, take-append-drop, drop_more}
use Rattle.std.proofs.lemmas.List.Elements.{All-nil, All-cons, All-push, All-append, All-weaker, All-contains, Contains-append_left, Contains-append_right}
use Rattle.std.proofs.lemmas.List.Quantifiers.{all_pairs_push}
use Rattle.rel_formula.specs.Bounds.{Bounded}
use Rattle.named_model.specs.Model.{NamedTree}
use Rattle.lowering_rules.specs.declared.fault.LowerFault.{LowerFault}
use Rattle.lowering_rules.specs.declared.fault.LowerFault.TheVariants as lower
use Rattle.lowering_rules.specs.Formula.{all_facts}
use Rattle.lowering_rules.specs.Problem.{IsRefusal}
use Rattle.model_texts.specs.Texts.ModelText.{SaysModel}
use Rattle.script_format.specs.declared.entries.ModelEntry.{ModelEntry}
use Rattle.script_format.specs.declared.entries.SessionEntry.{SessionEntry}
use Rattle.served_models.specs.declared.purposes.Purpose.{Purpose}
use Rattle.served_models.specs.declared.commands.ServedCommand.{ServedCommand}
use Rattle.served_models.specs.declared.commands.Commands.{Commands}
use Rattle.served_models.specs.declared.commands.Commands.TheVariants as commands
use Rattle.served_models.specs.Served.{IsAsked, IsProblemOf, Fits, IsUnfit, renamings_words, HasProblem, IsUnusable, HasBadCommand, IsUsable, IsRefused, AreUsable, IsFirstRefused, IsLeastAsked, IsServedFor, IsTooLarge, HasLargeCommand, SaysLargeCommand, HasLargeModel, AreOf, AreFit, HasMade, AreMade, AreServed, IsFound, AreAllMade, AreUsed}

-- ---- one command

-- its problem is made, or it can't be used for this
pub served_or_unfit : (purpose : Purpose) (m : NamedTree) (number : ℕ) (p : Bounded) (found : Result ServedCommand (Vec ℕ Global)) → IsProblemOf m number p
    → MatchResult found (λ (x : ServedCommand). (x.number ≡ number) × (x.problem ≡ p) × Fits purpose p) (λ (words : Vec ℕ Global). IsUnfit purpose p × (words.items ≡ renamings_words number))
    → MatchResult found (IsServedFor purpose m number) (λ (words : Vec ℕ Global). IsUnusable purpose m number words.items)
served_or_unfit purpose m number p (Ok x) is h = (h.0, subst (IsProblemOf m number) (sym h.1) is, subst (Fits purpose) (sym h.1) h.2)
served_or_unfit purpose m number p (Err words) is h = inr (record { problem = p; is = is; unfit = h.0; words_are = h.1 })

-- ---- formulas that are too large to build

pub too_large : (m : NamedTree) (n : ℕ) (f : LowerFault) → IsRefusal m n (all_facts m) f → f ≡ lower.TooLarge → IsTooLarge m n
too_large m n f refused same = subst (IsRefusal m n (all_facts m)) same refused

pub large_command : (sessions : List SessionEntry) (place : ℕ) (m : NamedTree) (from number : ℕ) → IsLeastAsked sessions place from number → IsTooLarge m number → HasLargeCommand sessions place m
large_command sessions place m from number least large = (number, least.asked, large)

pub large_model : (sessions : List SessionEntry) (entries : List ModelEntry) (i : ℕ) (entry : ModelEntry) (text : List ℕ) → i < length entries → entry ≡ get_or entries i entry
    → text ≡ entry.text → SaysLargeCommand sessions i text → HasLargeModel sessions entries
large_model sessions entries i entry text l item told large =
    (i, entry, slice_get_read entries (length entries) i entry refl l item, subst (SaysLargeCommand sessions i) told large)

-- ---- the commands of one model

module _ (purpose : Purpose) (sessions : List SessionEntry) (place : ℕ) (m : NamedTree) where
  -- what is made for all numbers below one
  pub record IsMadeBelow (from : ℕ) (made : List ServedCommand) : Type 0 where
    pub each : AreOf m made
    pub fit : AreFit purpose made
    pub asked : All (λ (x : ServedCommand). IsAsked sessions place x.number) made
    pub below : All (λ (x : ServedCommand). x.number < from) made
    pub all : (number : ℕ) → IsAsked sessions place number → number < from → HasMade made number
    pub rising : AllPairs (λ (x y : ServedCommand). x.number < y.number) made

  pub none_made : IsMadeBelow 0 []
  none_made = record {
    each = All-nil (λ (x : ServedCommand). IsProblemOf m x.number x.problem);
    fit = All-nil (λ (x : ServedCommand). Fits purpose x.problem);
    asked = All-nil (λ (x : ServedCommand). IsAsked sessions place x.number);
    below = All-nil (λ (x : ServedCommand). x.number < 0);
    all = λ number asked l. absurd (omega arith);
    rising = λ i j d less l. absurd (omega arith);
  }

  made_on : (made : List ServedCommand) (x : ServedCommand) (number : ℕ) → HasMade made number → HasMade (made ++ x ∷ []) number
  made_on made x number h = (h.0, Contains-append_left made (x ∷ []) h.0 h.1, h.2)

  -- one command more, the first that is asked for from that number on
  pub made_more : (from number : ℕ) (made new : List ServedCommand) (x : ServedCommand) → new ≡ made ++ x ∷ [] → IsLeastAsked sessions place from number → IsServedFor purpose m number x
      → IsMadeBelow from made → IsMadeBelow (number + 1) new
  made_more from number made new x pushed least served below =
      let IsOf : ServedCommand → Type 0 = λ (y : ServedCommand). IsProblemOf m y.number y.problem in
      let this : IsOf x = subst (λ (n : ℕ). IsProblemOf m n x.problem) (sym served.0) served.1 in
      subst (IsMadeBelow (number + 1)) (sym pushed) (record {
        each = All-append IsOf made (x ∷ []) below.each (All-cons IsOf x [] this (All-nil IsOf));
        fit = All-push (λ (y : ServedCommand). Fits purpose y.problem) made x below.fit served.2;
        asked = All-push (λ (y : ServedCommand). IsAsked sessions place y.number) made x below.asked (subst (IsAsked sessions place) (sym served.0) least.asked);
        below = All-push (λ (y : ServedCommand). y.number < number + 1) made x
            (All-weaker (λ (y : ServedCommand). y.number < from) (λ (y : ServedCommand). y.number < number + 1) (λ y l. let behind = least.behind in omega arith) made below.below)
            (let same = served.0 in omega arith);
        all = λ n asked l. elim (cases_lt n from) [
          | inl less ↦ made_on made x n (below.all n asked less)
          | inr more ↦ let under = least.least n asked (omega arith) in let same = served.0 in (x, Contains-append_right made (x ∷ []) x (0, omega arith, refl), omega arith)
        ];
        rising = all_pairs_push (λ (y z : ServedCommand). y.number < z.number) made x below.rising (λ k d l. let here = below.below k d l in let behind = least.behind in let same = served.0 in omega arith);
      })

  -- nothing is asked for from that number on
  pub all_made : (from : ℕ) (made : List ServedCommand) → ((n : ℕ) → IsAsked sessions place n → n < from) → IsMadeBelow from made → AreMade purpose sessions place m made
  all_made from made none below = record { each = below.each; fit = below.fit; asked = below.asked; all = λ number asked. below.all number asked (none number asked); rising = below.rising }

  -- a command for which one is made has a problem
  has_problem : (made : List ServedCommand) (number : ℕ) → AreOf m made → AreFit purpose made → HasMade made number → HasProblem purpose m number
  has_problem made number each fit (x, in', is) = (
    x.problem,
    subst (λ (n : ℕ). IsProblemOf m n x.problem) is (All-contains (λ (y : ServedCommand). IsProblemOf m y.number y.problem) made x each in'),
    All-contains (λ (y : ServedCommand). Fits purpose y.problem) made x fit in',
  )

  -- so each with a lower number has one
  pub problem_of : (from : ℕ) (made : List ServedCommand) (number : ℕ) → IsMadeBelow from made → IsAsked sessions place number → number < from → HasProblem purpose m number
  problem_of from made number below asked l = has_problem made number below.each below.fit (below.all number asked l)

  -- the first that is asked for from that number on has none
  pub bad_command : (from number : ℕ) (made : List ServedCommand) (words : List ℕ) → IsMadeBelow from made → IsLeastAsked sessions place from number → IsUnusable purpose m number words
      → HasBadCommand purpose sessions place m words
  bad_command from number made words below least unusable = record {
    number = number;
    asked = least.asked;
    earlier = λ n asked l. elim (cases_lt n from) [
      | inl less ↦ problem_of from made n below asked less
      | inr more ↦ absurd (let under = least.least n asked (omega arith) in omega arith)
    ];
    unusable = unusable;
  }

  -- and so has each command on which a session is, where all are made
  pub usable_of_made : (text : List ℕ) (made : List ServedCommand) → SaysModel text m → AreMade purpose sessions place m made → IsUsable purpose sessions place text m
  usable_of_made text made says are = record {
    says = says;
    served = λ number asked. has_problem made number are.each are.fit (are.all number asked);
  }

  pub found_of_served : (text : List ℕ) (found : Commands) → SaysModel text m → AreServed purpose sessions place m found → IsFound purpose sessions place text found
  found_of_served text (commands.Ready made) says are = (m, usable_of_made text made.items says are, are)
  found_of_served text (commands.Refused words) says bad = inr (m, says, bad)

-- ---- models

module _ (purpose : Purpose) (sessions : List SessionEntry) where
  usable_push : (place : ℕ) (entries : List ModelEntry) (ms : List NamedTree) (entry : ModelEntry) (m : NamedTree)
      → AreUsable purpose sessions place entries ms → IsUsable purpose sessions (place + length entries) entry.text m → AreUsable purpose sessions place (entries ++ entry ∷ []) (ms ++ m ∷ [])
  usable_push place [] [] entry m are is =
      let same : place + 0 ≡ place = omega arith in
      (subst (λ (n : ℕ). IsUsable purpose sessions n entry.text m) same is, tt)
  usable_push place [] (x ∷ xs) entry m are is = absurd are
  usable_push place (e ∷ es) [] entry m are is = absurd are
  usable_push place (e ∷ es) (x ∷ xs) entry m are is =
      let same : place + length (e ∷ es) ≡ (place + 1) + length es = omega arith in
      (are.0, usable_push (place + 1) es xs entry m are.1 (subst (λ (n : ℕ). IsUsable purpose sessions n entry.text m) same is))

  made_push : (place : ℕ) (ms : List NamedTree) (xs : List (Vec ServedCommand Global)) (m : NamedTree) (x : Vec ServedCommand Global)
      → AreAllMade purpose sessions place ms xs → AreMade purpose sessions (place + length ms) m x.items → AreAllMade purpose sessions place (ms ++ m ∷ []) (xs ++ x ∷ [])
  made_push place [] [] m x are is =
      let same : place + 0 ≡ place = omega arith in
      (subst (λ (n : ℕ). AreMade purpose sessions n m x.items) same is, tt)
  made_push place [] (y ∷ ys) m x are is = absurd are
  made_push place (n ∷ ns) [] m x are is = absurd are
  made_push place (n ∷ ns) (y ∷ ys) m x are is =
      let same : place + length (n ∷ ns) ≡ (place + 1) + length ns = omega arith in
      (are.0, made_push (place + 1) ns ys m x are.1 (subst (λ (k : ℕ). AreMade purpose sessions k m x.items) same is))

  pub usable_length : (place : ℕ) (entries : List ModelEntry) (ms : List NamedTree) → AreUsable purpose sessions place entries ms → length ms ≡ length entries
  usable_length place [] [] are = refl
  usable_length place [] (x ∷ xs) are = absurd are
  usable_length place (e ∷ es) [] are = absurd are
  usable_length place (e ∷ es) (x ∷ xs) are = let l = usable_length (place + 1) es xs are.1 in omega arith

  -- the turn of the loop that reads models
  pub used_more : (entries : List ModelEntry) (i : ℕ) (entry : ModelEntry) (text : List ℕ) (old new : List (Vec ServedCommand Global)) (made : Vec ServedCommand Global)
      → i < length entries → entry ≡ get_or entries i entry → text ≡ entry.text → new ≡ old ++ made ∷ []
      → AreUsed purpose sessions (take i entries) old → (m : NamedTree) → IsUsable purpose sessions i text m → AreMade purpose sessions i m made.items → AreUsed purpose sessions (take (i + 1) entries) new
  used_more entries i entry text old new made l item told pushed (ms, usable, are) m is_text is_made =
      let is = subst (λ (t : List ℕ). IsUsable purpose sessions i t m) told is_text in
      let front : length (take i entries) ≡ i = length-take-le i entries (omega arith) in
      let long : 0 + length (take i entries) ≡ i = omega arith in
      let many : 0 + length ms ≡ i = let e = usable_length 0 (take i entries) ms usable in omega arith in
      let more : take (i + 1) entries ≡ take i entries ++ entry ∷ [] = take_more entries i entry l ∙ ap (λ (e : ModelEntry). take i entries ++ e ∷ []) (sym item) in (
        ms ++ m ∷ [],
        subst (λ (es : List ModelEntry). AreUsable purpose sessions 0 es (ms ++ m ∷ [])) (sym more) (usable_push 0 (take i entries) ms entry m usable (subst (λ (n : ℕ). IsUsable purpose sessions n entry.text m) (sym long) is)),
        subst (AreAllMade purpose sessions 0 (ms ++ m ∷ [])) (sym pushed) (made_push 0 ms old m made are (subst (λ (n : ℕ). AreMade purpose sessions n m made.items) (sym many) is_made)),
      )

  -- the loop stops at the first model that can't be used
  pub first_refused : (entries : List ModelEntry) (i : ℕ) (entry : ModelEntry) (text words : List ℕ) (models : List NamedTree) → i < length entries → entry ≡ get_or entries i entry → text ≡ entry.text
      → AreUsable purpose sessions 0 (take i entries) models → IsRefused purpose sessions i text words → IsFirstRefused purpose sessions entries entry.name words
  first_refused entries i entry text words models l item told are is =
      let long : i ≡ length (take i entries) = let e = length-take-le i entries (omega arith) in omega arith in
      record {
        before = take i entries;
        entry = entry;
        others = drop (i + 1) entries;
        entries_are = sym (take-append-drop i entries) ∙ ap (λ (es : List ModelEntry). take i entries ++ es) (drop_more entries i entry l ∙ ap (λ (e : ModelEntry). e ∷ drop (i + 1) entries) (sym item));
        models = models;
        usable = are;
        refused = subst (λ (t : List ℕ). IsRefused purpose sessions (length (take i entries)) t words) told (subst (λ (n : ℕ). IsRefused purpose sessions n text words) long is);
        name_is = refl;
      }
