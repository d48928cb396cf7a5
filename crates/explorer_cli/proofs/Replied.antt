-- The reply at a place of a transcript: the state in which it was given, and what was shown before.
use Rattle.std.proofs.Common.{◌≡◌, ◌≢◌, ◌↔◌, ◌⊎◌, inl, inr, ℕ, zero, suc, ◌+◌, ◌<◌, List, [], ◌∷◌, length, Some, slice_get, slice_index_or, All, AllPairs, Contains, refl, sym, ap, ◌∙◌, subst, arith}
use Rattle.std.proofs.lemmas.Bool.{cases_lt}
use Rattle.std.proofs.lemmas.List.Elements.{All-nil}
use Rattle.rel_formula.specs.Bounds.{Bounded, cells_of}
use Rattle.rel_formula.specs.Instance.{IsScenario}
use Rattle.rel_formula.proofs.Lists.{pairs_nil}
use Rattle.swap_symmetry.specs.Due.{IsDue}
use Rattle.swap_symmetry.specs.Order.{IsEarlier}
use Rattle.translation_rules.specs.Offers.{IsPossible}
use Rattle.session_words.specs.declared.atom_names.AtomName.{AtomName}
use Rattle.session_words.specs.declared.steps.Step.TheVariants as step
use Rattle.session_words.specs.declared.commands.Command.{Command}
use Rattle.session_words.specs.declared.commands.Command.TheVariants as command
use Rattle.session_rules.specs.ProofOfEnd.{ProofOfEnd}
use Rattle.session_rules.specs.States.{State, Start, IsCurrent, top_floor, shown_at, shown_here}
use Rattle.session_rules.specs.Steps.{AsksFor, Exchange, IsReached, state_after}
use Rattle.session_rules.specs.Sound.{IsFloor, IsSound}
use Rattle.session_rules.specs.Transcripts.{Serves, IsTranscript}
use Rattle.session_rules.specs.declared.answers.Refusal.TheVariants.{NoInstance}
use Rattle.session_rules.specs.declared.answers.Reply.{Reply}
use Rattle.session_rules.specs.declared.answers.Reply.TheVariants as reply
use Rattle.explorer_cli.specs.Runs.{AreRepliesOn}
use Rattle.explorer_cli.specs.Shown.{IsReplyAt, Shows, ShowsNew, WasTold, AllHasFailed, IsShownBefore, EndsAt, IsCurrentAt, OffersAt, AsksAt}
use Rattle.explorer_cli.proofs.ShowingReplies.{reached_on, kept, shown_after, new_is_fresh, is_due, ends, all_is_shown, offers, once_partly, listed_in_order, asked_by_all, list_ends, CameFrom, came_from, part_count, augments_by, impossible_by, augmented_top}

-- an earlier reply shows the scenario at the floor, or an earlier `all` failed there
abbrev ToldOrHidden : List Command → List Reply → List (List ℕ) → ℕ → List ℕ → List ℕ → Type 0
ToldOrHidden commands replies floors place at x = WasTold replies floors place at x ⊎ AllHasFailed commands replies floors place at

-- the reply was given in this state, which keeps what was shown in the old one and has what earlier replies show, and nothing
-- but what an `all` found that failed
pub record IsGivenIn (p : Bounded) (commands : List Command) (replies : List Reply) (floors : List (List ℕ)) (place : ℕ) (reply : Reply) (floor : List ℕ) (old s : State) : Type 0 where
  pub reached : IsReached p s
  pub floor_is : top_floor s ≡ floor
  pub command : Command
  pub asked : slice_get commands place ≡ Some command
  pub exchanges : List Exchange
  pub serves : Serves p s command reply exchanges
  pub keeps : (at x : List ℕ) → Contains (shown_at at old) x → Contains (shown_at at s) x
  pub told : (earlier : ℕ) (r : Reply) (at x : List ℕ) → earlier < place → IsReplyAt replies floors earlier r at → Shows r x → Contains (shown_at at s) x
  pub known : (at x : List ℕ) → Contains (shown_at at s) x → Contains (shown_at at old) x ⊎ ToldOrHidden commands replies floors place at x

-- the same, with one command more in front
told_later : (c : Command) (cs : List Command) (y : Reply) (rs : List Reply) (g : List ℕ) (fs : List (List ℕ)) (n : ℕ) (at x : List ℕ) → ToldOrHidden cs rs fs n at x → ToldOrHidden (c ∷ cs) (y ∷ rs) (g ∷ fs) (suc n) at x
told_later c cs y rs g fs n at x (inl told) = inl (record { earlier = suc told.earlier; reply = told.reply; before = let l = told.before in omega arith; at = told.at; shows = told.shows })
told_later c cs y rs g fs n at x (inr all) = inr (record { earlier = suc all.earlier; asked = all.asked; reply = all.reply; before = let l = all.before in omega arith; command = all.command; at = all.at; failed = all.failed })

told_first : (old : State) (c : Command) (cs : List Command) (y : Reply) (rs : List Reply) (g : List ℕ) (fs : List (List ℕ)) (n : ℕ) (at x : List ℕ) → g ≡ top_floor old → CameFrom old c y at x
    → Contains (shown_at at old) x ⊎ ToldOrHidden (c ∷ cs) (y ∷ rs) (g ∷ fs) (suc n) at x
told_first old c cs y rs g fs n at x floor (inl before) = inl before
told_first old c cs y rs g fs n at x floor (inr now) =
    let there : IsReplyAt (y ∷ rs) (g ∷ fs) 0 y at = (refl, ap (λ (f : List ℕ). Some f) (floor ∙ sym now.0)) in
    elim now.1 [
      | inl shows ↦ inr (inl (record { earlier = 0; reply = y; before = omega arith; at = there; shows = shows }))
      | inr hides ↦ inr (inr (record { earlier = 0; asked = hides.0; reply = y; before = omega arith; command = ap (λ (d : Command). Some d) hides.1; at = there; failed = hides.2 }))
    ]

same_reply : (x y : Reply) → Some x ≡ Some y → x ≡ y
same_reply x y e = cc

same_floor : (x y : List ℕ) → Some x ≡ Some y → x ≡ y
same_floor x y e = cc

same_command : (x y : Command) → Some x ≡ Some y → x ≡ y
same_command x y e = cc

-- the floor behind an augmentation
pub next_floor : (p : Bounded) (old : State) (cs : List Command) (rs : List Reply) (fs : List (List ℕ)) (xs : List Exchange) → IsTranscript p old cs rs fs xs
    → (place : ℕ) (f above later : List ℕ) → IsReplyAt rs fs place (reply.Augmented above) f → slice_get fs (place + 1) ≡ Some later → later ≡ above
next_floor p old [] [] [] xs h place f above later at next = absurd (let e = at.0 in cc)
next_floor p old [] [] (g ∷ fs) xs h place f above later at next = absurd h
next_floor p old [] (y ∷ rs) fs xs h place f above later at next = absurd h
next_floor p old (c ∷ cs) [] fs xs h place f above later at next = absurd h
next_floor p old (c ∷ cs) (y ∷ rs) [] xs h place f above later at next = absurd h
next_floor p old (c ∷ []) (y ∷ []) (g ∷ []) xs h zero f above later at next = absurd (cc)
next_floor p old (c ∷ []) (y ∷ []) (g ∷ k ∷ fs) xs h zero f above later at next = absurd h.5
next_floor p old (c ∷ []) (y ∷ z ∷ rs) (g ∷ fs) xs h zero f above later at next = absurd h.5
next_floor p old (c ∷ d ∷ cs) (y ∷ []) (g ∷ fs) xs h zero f above later at next = absurd h.5
next_floor p old (c ∷ d ∷ cs) (y ∷ z ∷ rs) (g ∷ []) xs h zero f above later at next = absurd h.5
next_floor p old (c ∷ d ∷ cs) (y ∷ z ∷ rs) (g ∷ k ∷ fs) xs (here, rest, joined, floor, serves, others) zero f above later at next =
    same_floor later k (sym next) ∙ others.3 ∙ augmented_top p old c above here (subst (λ (w : Reply). Serves p old c w here) (same_reply y (reply.Augmented above) at.0) serves)
next_floor p old (c ∷ cs) (y ∷ rs) (g ∷ fs) xs (here, rest, joined, floor, serves, others) (suc n) f above later at next =
    let same : suc n + 1 ≡ suc (n + 1) = omega arith in
    next_floor p (state_after old here) cs rs fs rest others n f above later at (subst (λ (k : ℕ). slice_get (g ∷ fs) k ≡ Some later) same next)

given : (p : Bounded) (old : State) (cs : List Command) (rs : List Reply) (fs : List (List ℕ)) (xs : List Exchange) → IsReached p old → IsTranscript p old cs rs fs xs
    → (place : ℕ) (r : Reply) (f : List ℕ) → IsReplyAt rs fs place r f → (s : State) × IsGivenIn p cs rs fs place r f old s
given p old [] [] [] xs reached h place r f at = absurd (let e = at.0 in cc)
given p old [] [] (g ∷ fs) xs reached h place r f at = absurd h
given p old [] (y ∷ rs) fs xs reached h place r f at = absurd h
given p old (c ∷ cs) [] fs xs reached h place r f at = absurd h
given p old (c ∷ cs) (y ∷ rs) [] xs reached h place r f at = absurd h
given p old (c ∷ cs) (y ∷ rs) (g ∷ fs) xs reached (here, later, joined, floor, serves, rest) zero r f at = (
  old,
  record {
    reached = reached;
    floor_is = sym floor ∙ same_floor g f at.1;
    command = c;
    asked = refl;
    exchanges = here;
    serves = subst (λ (z : Reply). Serves p old c z here) (same_reply y r at.0) serves;
    keeps = λ at x shown. shown;
    told = λ earlier z at x l. absurd (omega arith);
    known = λ at x shown. inl shown;
  },
)
given p old (c ∷ cs) (y ∷ rs) (g ∷ fs) xs reached (here, later, joined, floor, serves, rest) (suc n) r f at =
    let next = state_after old here in
    let h = given p next cs rs fs later (reached_on p old here reached serves.run) rest n r f at in
    let first : (z : Reply) (at' x : List ℕ) → IsReplyAt (y ∷ rs) (g ∷ fs) 0 z at' → Shows z x → Contains (shown_at at' h.0) x =
    λ z at' x is shows.
    let now = shown_after p old c y here x serves (subst (λ (w : Reply). Shows w x) (sym (same_reply y z is.0)) shows) in
    let there : top_floor old ≡ at' = sym floor ∙ same_floor g at' is.1 in
    h.1.keeps at' x (subst (λ (w : List ℕ). Contains (shown_at w next) x) there now) in (
      h.0,
      record {
        reached = h.1.reached;
        floor_is = h.1.floor_is;
        command = h.1.command;
        asked = h.1.asked;
        exchanges = h.1.exchanges;
        serves = h.1.serves;
        keeps = λ at' x shown. h.1.keeps at' x (kept old here at' x shown);
        told = λ earlier z at' x l is shows. elim earlier as (λ (k : ℕ). k < suc n → IsReplyAt (y ∷ rs) (g ∷ fs) k z at' → Contains (shown_at at' h.0) x) [
          | zero ↦ λ l is. first z at' x is shows
          | suc k ↦ λ l is. h.1.told k z at' x (omega arith) is shows
        ] l is;
        known = λ at' x shown. elim (h.1.known at' x shown) [
          | inl early ↦ told_first old c cs y rs g fs n at' x floor (came_from p old c y here at' x serves early)
          | inr told ↦ inr (told_later c cs y rs g fs n at' x told)
        ];
      },
    )

-- a part has as many scenarios as were asked for
pub part_at : (p : Bounded) (budget : ℕ) (commands : List Command) (replies : List Reply) (floors : List (List ℕ)) → AreRepliesOn p budget commands replies floors
    → (place number n : ℕ) (scenarios : List (List ℕ)) (f : List ℕ) → IsReplyAt replies floors place (reply.Partly number scenarios) f → slice_get commands place ≡ Some (command.All n) → length scenarios ≡ n
part_at p budget commands replies floors run place number n scenarios f at asked =
    let h = given p (Start budget) commands replies floors run.0 (record { budget = budget; exchanges = []; run = tt; state = refl }) run.1 place (reply.Partly number scenarios) f at in
    part_count p h.0 h.1.command number n scenarios h.1.exchanges (same_command h.1.command (command.All n) (sym h.1.asked ∙ asked)) h.1.serves

-- the first of some floors, or the bottom, is a scenario
top_in : (p : Bounded) (above : List (List ℕ)) → All (IsFloor p) above → IsScenario p (slice_index_or above 0 [])
top_in p [] all = record { cells = All-nil (λ n. n < length (cells_of p)); rising = pairs_nil (λ m n. m < n) }
top_in p (floor ∷ above) all = (all 0 [] (omega arith)).scenario

module _ (p : Bounded) (budget : ℕ) (commands : List Command) (replies : List Reply) (floors : List (List ℕ)) (run : AreRepliesOn p budget commands replies floors)
    (sound : (p : Bounded) (s : State) → IsReached p s → IsSound p s) where
  at_place : (place : ℕ) (r : Reply) (f : List ℕ) → IsReplyAt replies floors place r f → (s : State) × IsGivenIn p commands replies floors place r f (Start budget) s
  at_place = given p (Start budget) commands replies floors run.0 (record { budget = budget; exchanges = []; run = tt; state = refl }) run.1

  after_it : (place : ℕ) (r : Reply) (f : List ℕ) (s : State) (h : IsGivenIn p commands replies floors place r f (Start budget) s) → IsSound p (state_after s h.exchanges)
  after_it place r f s h = sound p (state_after s h.exchanges) (reached_on p s h.exchanges h.reached h.serves.run)

  pub shows_due : (place : ℕ) (r : Reply) (f x : List ℕ) → IsReplyAt replies floors place r f → Shows r x → IsDue p f x
  shows_due place r f x at shows =
      let h = at_place place r f at in
      subst (λ (g : List ℕ). IsDue p g x) h.1.floor_is (is_due p h.0 h.1.command r h.1.exchanges x (after_it place r f h.0 h.1) h.1.serves shows)

  new_shows : (r : Reply) (x : List ℕ) → ShowsNew r x → Shows r x
  new_shows (reply.Shown number scenario) x is = is
  new_shows (reply.All scenarios) x is = absurd is
  new_shows (reply.Partly first scenarios) x is = is
  new_shows (reply.End number proof) x is = is
  new_shows (reply.Offers cells) x is = is
  new_shows (reply.Augmented floor) x is = is
  new_shows reply.Back x is = is
  new_shows (reply.BudgetSet number) x is = is
  new_shows (reply.Proof proof) x is = is
  new_shows (reply.Refused refusal) x is = is
  new_shows reply.Memory x is = is

  -- what an earlier reply shows at a floor isn't new there later
  not_again : (first second : ℕ) (r other : Reply) (f x : List ℕ) → first < second → IsReplyAt replies floors first r f → IsReplyAt replies floors second other f → ShowsNew r x → ShowsNew other x → ⊥
  not_again first second r other f x l at at' new new' =
      let h = at_place second other f at' in
      new_is_fresh p h.0 h.1.command other h.1.exchanges x h.1.serves new' (subst (λ (g : List ℕ). Contains (shown_at g h.0) x) (sym h.1.floor_is) (h.1.told first r f x l at (new_shows r x new)))

  pub apart : (first second : ℕ) (r other : Reply) (f x : List ℕ) → IsReplyAt replies floors first r f → IsReplyAt replies floors second other f → ShowsNew r x → ShowsNew other x → first ≡ second
  apart first second r other f x at at' new new' = elim (cases_lt first second) [
    | inl less ↦ absurd (not_again first second r other f x less at at' new new')
    | inr more ↦ elim (cases_lt second first) [
      | inl less ↦ absurd (not_again second first other r f x less at' at new' new)
      | inr same ↦ omega arith
    ]
  ]

  pub partly_once : (place number : ℕ) (scenarios : List (List ℕ)) (f : List ℕ) → IsReplyAt replies floors place (reply.Partly number scenarios) f → AllPairs (λ x y. x ≢ y) scenarios
  partly_once place number scenarios f at =
      let h = at_place place (reply.Partly number scenarios) f at in
      once_partly p h.0 h.1.command number scenarios h.1.exchanges (after_it place (reply.Partly number scenarios) f h.0 h.1) h.1.serves

  pub listed_once : (place : ℕ) (scenarios : List (List ℕ)) (f : List ℕ) → IsReplyAt replies floors place (reply.All scenarios) f → AllPairs IsEarlier scenarios
  listed_once place scenarios f at =
      let h = at_place place (reply.All scenarios) f at in
      listed_in_order p h.0 h.1.command scenarios h.1.exchanges h.1.serves

  -- what was shown at the floor of a reply
  before_it : (place : ℕ) (r : Reply) (f : List ℕ) (s : State) → IsGivenIn p commands replies floors place r f (Start budget) s → IsShownBefore p commands replies floors place f (shown_here s)
  before_it place r f s h =
      let same = h.floor_is in
      record {
        due = subst (λ (g : List ℕ). All (IsDue p g) (shown_here s)) same ((sound p s h.reached).due (top_floor s));
        once = (sound p s h.reached).once (top_floor s);
        told = λ x told. subst (λ (g : List ℕ). Contains (shown_at g s) x) (sym same) (h.told told.earlier told.reply f x told.before told.at told.shows);
        known = λ x shown. elim (h.known f x (subst (λ (g : List ℕ). Contains (shown_at g s) x) same shown)) [
          | inl never ↦ absurd (let l = never.1 in omega arith)
          | inr told ↦ told
        ];
      }

  pub ends_at : (place number : ℕ) (proof : ProofOfEnd) (f : List ℕ) → IsReplyAt replies floors place (reply.End number proof) f → EndsAt p commands replies floors place f number
  ends_at place number proof f at =
      let h = at_place place (reply.End number proof) f at in
      let end = ends p h.0 h.1.command number proof h.1.exchanges h.1.serves in
      record {
        shown = shown_here h.0;
        before = before_it place (reply.End number proof) f h.0 h.1;
        all = λ x due. all_is_shown p h.0 proof (sound p h.0 h.1.reached) end.1 x (subst (λ (g : List ℕ). IsDue p g x) (sym h.1.floor_is) due);
        number_is = end.0;
      }

  -- the current scenario
  current_at : (place : ℕ) (r : Reply) (f : List ℕ) (s : State) (current : List ℕ) (is : IsCurrent s current) → IsGivenIn p commands replies floors place r f (Start budget) s → IsCurrentAt p commands replies floors place f current
  current_at place r f s current is h = record { earlier = is.0; before = subst (IsShownBefore p commands replies floors place f) is.1 (before_it place r f s h) }

  pub offers_at : (place : ℕ) (cells f : List ℕ) → IsReplyAt replies floors place (reply.Offers cells) f → OffersAt p commands replies floors place f cells
  offers_at place cells f at =
      let h = at_place place (reply.Offers cells) f at in
      let has = offers p h.0 h.1.command cells h.1.exchanges h.1.serves in
      record { current = has.current; is_current = current_at place (reply.Offers cells) f h.0 has.current has.is_current h.1; offers = has.offers }

  -- the floor that a command asks for
  asks_at : (place : ℕ) (r : Reply) (f above name : List ℕ) (names : List AtomName) (s : State) (h : IsGivenIn p commands replies floors place r f (Start budget) s) → h.command ≡ command.Step (step.Augment name names) → AsksFor p s name names above
      → AsksAt p commands replies floors place f above
  asks_at place r f above name names s h is asks = record {
    name = name;
    names = names;
    command = h.asked ∙ ap (λ (c : Command). Some c) is;
    current = asks.current;
    is_current = current_at place r f s asks.current asks.is_current h;
    cell = asks.cell;
    named = asks.named;
    absent = asks.absent;
    above_is = asks.floor_is;
  }

  pub augmented_at : (place : ℕ) (f above : List ℕ) → IsReplyAt replies floors place (reply.Augmented above) f → AsksAt p commands replies floors place f above × IsPossible p above
  augmented_at place f above at =
      let h = at_place place (reply.Augmented above) f at in
      let by = augments_by p h.0 h.1.command above h.1.exchanges h.1.serves in
      (asks_at place (reply.Augmented above) f above by.name by.names h.0 h.1 by.command_is by.augments.asked, by.augments.possible)

  pub impossible_at : (place : ℕ) (f : List ℕ) (proof : ProofOfEnd) → IsReplyAt replies floors place (reply.Refused (NoInstance proof)) f → (above : List ℕ) × AsksAt p commands replies floors place f above × (¬ IsPossible p above)
  impossible_at place f proof at =
      let h = at_place place (reply.Refused (NoInstance proof)) f at in
      let by = impossible_by p h.0 h.1.command proof h.1.exchanges h.1.serves in
      (by.asks.floor, asks_at place (reply.Refused (NoInstance proof)) f by.asks.floor by.name by.names h.0 h.1 by.command_is by.asks.asked, by.asks.impossible)

  pub list_due : ((p : Bounded) (old : State) (n : ℕ) (scenarios : List (List ℕ)) (xs : List Exchange) → IsSound p old → Serves p old (command.All n) (reply.All scenarios) xs
      → (x : List ℕ) → Contains scenarios x ↔ IsDue p (top_floor (state_after old xs)) x)
      → (place : ℕ) (scenarios : List (List ℕ)) (f : List ℕ) → IsReplyAt replies floors place (reply.All scenarios) f → (x : List ℕ) → Contains scenarios x ↔ IsDue p f x
  list_due law place scenarios f at x =
      let h = at_place place (reply.All scenarios) f at in
      let all = asked_by_all p h.0 h.1.command scenarios h.1.exchanges h.1.serves in
      let serves = subst (λ (c : Command). Serves p h.0 c (reply.All scenarios) h.1.exchanges) all.1 h.1.serves in
      subst (λ (g : List ℕ). Contains scenarios x ↔ IsDue p g x) (list_ends p h.0 all.0 scenarios h.1.exchanges serves ∙ h.1.floor_is) (law p h.0 all.0 scenarios h.1.exchanges (sound p h.0 h.1.reached) serves x)

  -- the floor of a reply is a scenario
  pub floor_in : (place : ℕ) (r : Reply) (f : List ℕ) → IsReplyAt replies floors place r f → IsScenario p f
  floor_in place r f at =
      let h = at_place place r f at in
      subst (IsScenario p) h.1.floor_is (top_in p h.0.above (sound p h.0 h.1.reached).floors)
