-- What a step adds, and that the session stays seated.
use Rattle.std.proofs.Common.{◌≡◌, ◌≢◌, ◌⊎◌, inl, inr, ◌==◌, ◌≤◌, ℕ, Bool, false, cond, Result, Ok, Err, List, [], ◌∷◌, ◌++◌, map, All, append-nil, refl, sym, ◌∙◌, ap, subst}
use Rattle.std.specs.Prelude.{IfOk, OnOk}
use Rattle.std.proofs.lemmas.Bool.{eq-eqb}
use Rattle.std.proofs.lemmas.Grind.{flat_map-append}
use Rattle.std.proofs.lemmas.List.Elements.{All-nil, All-cons, All-weaker, Contains-append_left}
use Rattle.atomic_table.specs.Seated.{TableId}
use Rattle.refutation_check.specs.declared.log.Step.{Step as LogStep}
use Rattle.refutation_check.specs.Part.{Parted}
use Rattle.rel_formula.specs.Bounds.{Bounded}
use Rattle.translation_rules.specs.Translation.{Translated}
use Rattle.session_words.specs.declared.steps.Step.{Step}
use Rattle.session_words.specs.declared.steps.Step.TheVariants.{Next, Offers, Augment, Back, Budget, Proof}
use Rattle.session_words.specs.declared.commands.Command.TheVariants.{Step as ToStep}
use Rattle.script_format.specs.Limits.{IsAllowed}
use Rattle.session_rules.specs.States.{State, Start}
use Rattle.session_rules.specs.Steps.{Exchange, MayAnswer, MachineRun, state_after}
use Rattle.session_rules.specs.Transcripts.{is_memory, without_memory}
use Rattle.session_rules.specs.Evidence.{NeedsEvidence}
use Rattle.session_rules.specs.Work.{IsWork}
use Rattle.session_rules.specs.declared.answers.Reply.{Reply}
use Rattle.session_rules.specs.declared.answers.Refusal.TheVariants.{NoInstance}
use Rattle.session_rules.specs.declared.answers.Reply.TheVariants.{End, Refused, Memory}
use Rattle.session_rules.proofs.Runs.{states_join, runs_joined}
use Rattle.session_state.specs.Sessions.Fits.{InSession}
use Rattle.session_state.specs.Sessions.Proposed.{Proposed, IsProposal, IsPlain, IsPlainProposal, NeedsTranslation}
use Rattle.session_turns.specs.Serving.{IsOn}
use Rattle.session_turns.proofs.Stepping.{on_wider, plain_ok}
use Rattle.hub_state.specs.Journal.Noted.{Note, Noted, Imported, Shared, Opened, Recorded}
use Rattle.hub_state.specs.Journal.Journal.{HasImported, IsReplay, IsPublished, exchanges_of, recorded_in}
use Rattle.hub_turns.specs.Groups.{AreShared, IsSearch, IsBeforeRecord, IsGroupOf, IsGroup, AreGroups, SharesItsSteps, SharesItsProof}
use Rattle.hub_turns.specs.Interleaved.{SharesItsProofs}
use Rattle.hub_turns.proofs.Grouping.{recorded_by, groups_record}
use Rattle.hub_turns.proofs.OwnEntries.{own_replay, published_grows}
use Rattle.hub_turns.specs.Turned.{IsIdle, WentOn, HasAdded, MayAdd}
use Rattle.session_turns.specs.Added.{HasAddedAll, HasBegun, HasProposed, HasSettled, HasAnswered}
use Rattle.session_turns.specs.Allowed.{cost_of_step}
use Rattle.session_turns.specs.Seated.{IsSeated}
use Rattle.hub_turns.proofs.Onward.{same_number, same_problems}
use Rattle.session_turns.proofs.Turning.{Seen, noted, added_none, added_then}
use Rattle.session_turns.proofs.ProofSharing.{OneFloor, proof_shared, shares_still, shares_more}

-- a step that a search answers begins with the search
pub begins_with_search : (step : Step) (key : ℕ) (notes : List Note) → NeedsTranslation step → IsSearch key notes → IsBeforeRecord step key notes
begins_with_search Next key notes asked search = search
begins_with_search Offers key notes asked search = search
begins_with_search (Augment relation tuple) key notes asked search = search
begins_with_search Back key notes asked search = absurd asked
begins_with_search (Budget budget) key notes asked search = absurd asked
begins_with_search Proof key notes asked search = absurd asked

-- what comes before a record records nothing
abbrev pub IsQuiet : Note → Type 0
IsQuiet note = (step : Step) (reply : Reply) → note ≢ Recorded step reply

search_is_quiet : (key : ℕ) (notes : List Note) → IsSearch key notes → All IsQuiet notes
search_is_quiet key notes search =
    let shared : All IsQuiet search.shared = All-weaker (λ (note : Note). (steps : List LogStep) × (note ≡ Shared key steps)) IsQuiet (λ note is step reply same. let wrong : Shared key is.0 ≡ Recorded step reply = sym is.1 ∙ same in absurd cc) search.shared search.are_shared in
    subst (All IsQuiet) (sym search.notes_are) (All-cons IsQuiet (Imported key search.imported) search.shared (λ step reply same. absurd cc) shared)

pub before_is_quiet : (step : Step) (key : ℕ) (notes : List Note) → IsBeforeRecord step key notes → All IsQuiet notes
before_is_quiet Next key notes before = search_is_quiet key notes before
before_is_quiet Offers key notes before = search_is_quiet key notes before
before_is_quiet (Augment relation tuple) key notes before = search_is_quiet key notes before
before_is_quiet Back key notes before = subst (All IsQuiet) (sym before) (All-nil IsQuiet)
before_is_quiet (Budget budget) key notes before = subst (All IsQuiet) (sym before) (All-nil IsQuiet)
before_is_quiet Proof key notes before = subst (All IsQuiet) (sym before) (All-nil IsQuiet)

pub not_memory : (reply : Reply) → reply ≢ Memory → is_memory reply ≡ false
not_memory Memory other = absurd (other refl)
not_memory reply other = refl

-- a whole group
pub group_whole : (key : ℕ) (step : Step) (reply : Reply) (before : List Note) → reply ≢ Memory → IsBeforeRecord step key before → IsGroup key (record { step = step; reply = reply }) (before ++ Recorded step reply ∷ [])
group_whole key step reply before told is =
    let x : Exchange = record { step = step; reply = reply } in
    subst (λ (b : Bool). IsGroupOf b key x (before ++ Recorded step reply ∷ [])) (sym (not_memory reply told)) (before, is, refl)

pub one_group : (key : ℕ) (x : Exchange) (notes : List Note) → IsGroup key x notes → AreGroups key (x ∷ []) notes
one_group key x notes group = (notes, [], sym (append-nil notes), group, refl)

-- own entries with more behind them
own_record : (n : ℕ) (notes : List Note) → exchanges_of n (map (noted n) notes) ≡ recorded_by notes
own_record n [] = refl
own_record n (note ∷ notes) =
    ap (λ (b : Bool). cond b (recorded_in note) [] ++ exchanges_of n (map (noted n) notes)) (eq-eqb n n refl) ∙ ap (λ (es : List Exchange). recorded_in note ++ es) (own_record n notes)

-- want of memory changes nothing, so a run goes on without it
abbrev pub MemoryChangesNothing : Type 0
MemoryChangesNothing =
    ((p : Bounded) (s : State) (xs : List Exchange) → MachineRun p s xs → MachineRun p s (without_memory xs)) × ((s : State) (xs : List Exchange) → state_after s (without_memory xs) ≡ state_after s xs)

pub replay_groups : MemoryChangesNothing → (problems : List Bounded) (own : List Noted) (n key : ℕ) (p : Bounded) (s : State) (xs : List Exchange) (notes : List Note) → IsReplay problems own n key p s → AreGroups key xs notes → MachineRun p s xs →
    IsReplay problems (own ++ map (noted n) notes) n key p (state_after s xs)
replay_groups law problems own n key p s xs notes replay groups run =
    let old = exchanges_of n own in
    let told : exchanges_of n (own ++ map (noted n) notes) ≡ old ++ without_memory xs =
    flat_map-append (λ (x : Noted). cond (x.by == n) (recorded_in x.note) []) own (map (noted n) notes) ∙ ap (λ (es : List Exchange). old ++ es) (own_record n notes ∙ groups_record key xs notes groups) in
    let from : MachineRun p (state_after (Start replay.budget) old) (without_memory xs) = subst (λ (u : State). MachineRun p u (without_memory xs)) replay.state (law.0 p s xs run) in
    record {
      budget = replay.budget;
      opened = Contains-append_left own (map (noted n) notes) (record { by = n; note = Opened key replay.budget }) replay.opened;
      of_key = replay.of_key;
      run = subst (MachineRun p (Start replay.budget)) (sym told) (runs_joined p (Start replay.budget) old (without_memory xs) replay.run from);
      state = sym (law.1 s xs)
          ∙ ap (λ (u : State). state_after u (without_memory xs)) replay.state
          ∙ sym (states_join (Start replay.budget) old (without_memory xs))
          ∙ ap (state_after (Start replay.budget)) (sym told);
    }

-- the session stays seated, where groups were added for a run
pub seated_more : MemoryChangesNothing → (lock : TableId) (t : Translated) (a b : Seen) (x y : InSession) (shown more : ℕ) (xs : List Exchange) (notes : List Note) → (seated : IsSeated lock t shown a x) → WentOn lock a b → HasAddedAll a b notes → AreGroups x.key xs notes → MachineRun t.problem x.kept.state xs
    → y.kept.state ≡ state_after x.kept.state xs → y.owner ≡ x.owner → y.key ≡ x.key → IsOn t more y.kept → SharesItsProofs seated.idle.problems b.view.seen a.view.number x.key t → IsSeated lock t more b y
seated_more law lock t a b x y shown more xs notes seated went added groups run state owner key on shares =
    let number = same_number lock a b went in
    let problems = same_problems lock a b seated.idle went in
    let replay : IsReplay seated.idle.problems (a.view.own ++ map (noted a.view.number) notes) a.view.number x.key t.problem (state_after x.kept.state xs) =
    replay_groups law seated.idle.problems a.view.own a.view.number x.key t.problem x.kept.state xs notes seated.replay groups run in
    record {
      idle = went.idle;
      owner = owner ∙ seated.owner ∙ sym number;
      published = subst (λ (k : ℕ). IsPublished b.view.seen k t) (sym key) (published_grows a.view.seen b.view.seen went.seen x.key t seated.published);
      on = on;
      replay = subst (λ (ps : List Bounded). IsReplay ps b.view.own b.view.number y.key t.problem y.kept.state) (sym problems)
          (subst (λ (es : List Noted). IsReplay seated.idle.problems es b.view.number y.key t.problem y.kept.state) (sym added)
          (subst (λ (n : ℕ). IsReplay seated.idle.problems (a.view.own ++ map (noted a.view.number) notes) n y.key t.problem y.kept.state) (sym number)
          (subst (λ (k : ℕ). IsReplay seated.idle.problems (a.view.own ++ map (noted a.view.number) notes) a.view.number k t.problem y.kept.state) (sym key)
          (subst (λ (s : State). IsReplay seated.idle.problems (a.view.own ++ map (noted a.view.number) notes) a.view.number x.key t.problem s) (sym state) replay))));
      shares = subst (λ (ps : List Bounded). SharesItsProofs ps b.view.seen b.view.number y.key t) (sym problems)
          (subst (λ (n : ℕ). SharesItsProofs seated.idle.problems b.view.seen n y.key t) (sym number)
          (subst (λ (k : ℕ). SharesItsProofs seated.idle.problems b.view.seen a.view.number k t) (sym key) shares));
    }

-- what comes before the record leads nowhere else
pub replay_begun : MemoryChangesNothing → (lock : TableId) (t : Translated) (a b : Seen) (x : InSession) (step : Step) (notes : List Note) → (idle : IsIdle lock a) → IsReplay idle.problems a.view.own a.view.number x.key t.problem x.kept.state → (went : WentOn lock a b) → HasAddedAll a b notes → IsBeforeRecord step x.key notes
    → IsReplay went.idle.problems b.view.seen b.view.number x.key t.problem x.kept.state
replay_begun law lock t a b x step notes idle replay went added before =
    let number = same_number lock a b went in
    let problems = same_problems lock a b idle went in
    let quiet : AreGroups x.key (record { step = step; reply = Memory } ∷ []) notes = one_group x.key (record { step = step; reply = Memory }) notes (inr before) in
    let own : IsReplay idle.problems (a.view.own ++ map (noted a.view.number) notes) a.view.number x.key t.problem x.kept.state =
    replay_groups law idle.problems a.view.own a.view.number x.key t.problem x.kept.state (record { step = step; reply = Memory } ∷ []) notes replay quiet (tt, tt) in
    let here : IsReplay went.idle.problems b.view.own b.view.number x.key t.problem x.kept.state = subst (λ (ps : List Bounded). IsReplay ps b.view.own b.view.number x.key t.problem x.kept.state) (sym problems)
    (subst (λ (es : List Noted). IsReplay idle.problems es b.view.number x.key t.problem x.kept.state) (sym added)
    (subst (λ (n : ℕ). IsReplay idle.problems (a.view.own ++ map (noted a.view.number) notes) n x.key t.problem x.kept.state) (sym number) own)) in
    own_replay went.idle.problems b.view.seen b.view.number x.key t.problem x.kept.state (subst (λ (es : List Noted). IsReplay went.idle.problems es b.view.number x.key t.problem x.kept.state) (sym went.idle.own) here)

-- what was proposed may be recorded
pub may_record : MemoryChangesNothing → (lock : TableId) (t : Translated) (a b : Seen) (x : InSession) (step : Step) (proposed : Proposed) (idle : IsIdle lock a) → IsReplay idle.problems a.view.own a.view.number x.key t.problem x.kept.state → WentOn lock a b → HasBegun a b step x
    → HasProposed t b x step proposed → MayAdd b (Recorded step proposed.reply)
may_record law lock t a b x step proposed idle replay went begun has = (
  went.idle.problems,
  went.idle.base_is,
  record {
    key = x.key;
    problem = t.problem;
    old = x.kept.state;
    replay = replay_begun law lock t a b x step begun.0 idle replay went begun.1 begun.2;
    may = has.proposal.may;
    not_memory = has.proposal.told;
    evidence = λ needs. (t, has.pool, has.imported needs, has.proposal.evidence needs);
  },
)

-- what a settled reply adds
pub answered_settled : (t : Translated) (a b c : Seen) (x y : InSession) (step : Step) (proposed result : Reply) → b.view.number ≡ a.view.number → HasBegun a b step x → HasSettled b c x y step proposed result → MayAnswer t.problem x.kept.state step proposed → proposed ≢ Memory
    → HasAnswered t a c x y step result
answered_settled t a b c x y step proposed result number begun (inl wanting) may told =
    let cut : HasAnswered t a c x y step Memory = record { machine = (tt, wanting.2); notes = begun.0; added = wanting.1 ∙ begun.1; group = inr begun.2 } in
    subst (λ (r : Reply). HasAnswered t a c x y step r) (sym wanting.0) cut
answered_settled t a b c x y step proposed result number begun (inr done) may told =
    let whole : HasAnswered t a c x y step proposed = record {
      machine = (may, done.2);
      notes = begun.0 ++ Recorded step proposed ∷ [];
      added = added_then a b c begun.0 (Recorded step proposed ∷ []) number begun.1 done.1;
      group = group_whole x.key step proposed begun.0 told begun.2;
    } in
    subst (λ (r : Reply). HasAnswered t a c x y step r) (sym done.0) whole

-- a step that was cut short
pub answered_cut : (t : Translated) (a b : Seen) (x y : InSession) (step : Step) → y.kept.state ≡ x.kept.state → (b.view.own ≡ a.view.own) ⊎ HasBegun a b step x → HasAnswered t a b x y step Memory
answered_cut t a b x y step same (inl none) = record { machine = (tt, same); notes = []; added = added_none a b none; group = inl refl }
answered_cut t a b x y step same (inr begun) = record { machine = (tt, same); notes = begun.0; added = begun.1; group = inr begun.2 }

-- the proofs that the session recorded stay shared
module _ (lock : TableId) (t : Translated) (a b : Seen) (x : InSession) (step : Step) (shown : ℕ) (seated : IsSeated lock t shown a x) (went : WentOn lock a b) where
  shares_begun : HasBegun a b step x → SharesItsProofs seated.idle.problems b.view.seen a.view.number x.key t
  shares_begun begun = shares_still lock a b seated.idle went begun.0 begun.1 x.key t seated.shares (before_is_quiet step x.key begun.0 begun.2)

  pub shares_cut : (b.view.own ≡ a.view.own) ⊎ HasBegun a b step x → SharesItsProofs seated.idle.problems b.view.seen a.view.number x.key t
  shares_cut (inl none) = shares_still lock a b seated.idle went [] (added_none a b none) x.key t seated.shares (All-nil IsQuiet)
  shares_cut (inr begun) = shares_begun begun

  there : HasBegun a b step x → SharesItsProofs went.idle.problems b.view.seen b.view.number x.key t
  there begun = subst (λ (ps : List Bounded). SharesItsProofs ps b.view.seen b.view.number x.key t) (sym (same_problems lock a b seated.idle went))
      (subst (λ (n : ℕ). SharesItsProofs seated.idle.problems b.view.seen n x.key t) (sym (same_number lock a b went)) (shares_begun begun))

  back : (c : Seen) → SharesItsProofs went.idle.problems c.view.seen b.view.number x.key t → SharesItsProofs seated.idle.problems c.view.seen a.view.number x.key t
  back c shares = subst (λ (ps : List Bounded). SharesItsProofs ps c.view.seen a.view.number x.key t) (same_problems lock a b seated.idle went)
      (subst (λ (n : ℕ). SharesItsProofs went.idle.problems c.view.seen n x.key t) (same_number lock a b went) shares)

  pub shares_settled : MemoryChangesNothing → (c : Seen) (y : InSession) (proposed : Proposed) (result : Reply) → WentOn lock b c → HasBegun a b step x → HasProposed t b x step proposed → HasSettled b c x y step proposed.reply result
      → SharesItsProofs seated.idle.problems c.view.seen a.view.number x.key t
  shares_settled law c y proposed result on begun has (inl wanting) = back c (shares_still lock b c went.idle on [] (added_none b c wanting.1) x.key t (there begun) (All-nil IsQuiet))
  shares_settled law c y proposed result on begun has (inr done) =
      back c (shares_more lock b c went.idle on (Recorded step proposed.reply ∷ []) done.1 x.key t (there begun) step proposed.reply x.kept.state refl
      (replay_begun law lock t a b x step begun.0 seated.idle seated.replay went begun.1 begun.2) has.shared)

-- the session stays seated, where a step was answered
pub seated_answered : MemoryChangesNothing → (lock : TableId) (t : Translated) (a b : Seen) (x y : InSession) (shown more : ℕ) (step : Step) (reply : Reply) → (seated : IsSeated lock t shown a x) → WentOn lock a b → HasAnswered t a b x y step reply
    → y.owner ≡ x.owner → y.key ≡ x.key → IsOn t more y.kept → SharesItsProofs seated.idle.problems b.view.seen a.view.number x.key t → IsSeated lock t more b y
seated_answered law lock t a b x y shown more step reply seated went answered owner key on shares =
    seated_more law lock t a b x y shown more (record { step = step; reply = reply } ∷ []) answered.notes seated went answered.added (one_group x.key (record { step = step; reply = reply }) answered.notes answered.group) (answered.machine.0, tt) answered.machine.1 owner key on shares

-- what a search proposes, once the free steps of its parts are shared
pub proposed_by_search : (t : Translated) (b : Seen) (n : ℕ) (x : InSession) (step : Step) (proposed : Proposed) (pool : List LogStep) → OneFloor t.problem → b.view.number ≡ n → IsProposal t pool x.kept.state step proposed → HasImported b.view.seen n x.key t pool
    → All (λ (part : Parted). SharesItsSteps b.view.seen n x.key t part.local pool part.log) proposed.parts → HasProposed t b x step proposed
proposed_by_search t b n x step proposed pool one number proposal imported shared = record {
  pool = pool;
  proposal = proposal;
  imported = λ needs. subst (λ (m : ℕ). HasImported b.view.seen m x.key t pool) (sym number) imported;
  shared = proof_shared b.view.seen b.view.number x.key t one pool x.kept.state proposed.parts proposed.copies
      (subst (λ (m : ℕ). All (λ (part : Parted). SharesItsSteps b.view.seen m x.key t part.local pool part.log) proposed.parts) (sym number) shared) step proposed.reply proposal.evidence proposal.rests;
}

pub seated_wider : (lock : TableId) (t : Translated) (m n : ℕ) (a : Seen) (x : InSession) → m ≤ n → IsSeated lock t m a x → IsSeated lock t n a x
seated_wider lock t m n a x l seated = record {
  idle = seated.idle;
  owner = seated.owner;
  published = seated.published;
  on = on_wider t m n x.kept l seated.on;
  replay = seated.replay;
  shares = seated.shares;
}

-- ---- a step that no search answers

abbrev pub IsPlainStep : Step → Type 0
IsPlainStep Back = Unit {0}
IsPlainStep (Budget budget) = Unit {0}
IsPlainStep Proof = Unit {0}
IsPlainStep step = ⊥

-- no search answers a step that doesn't need the translation
pub plain_step : (step : Step) → ¬ NeedsTranslation step → IsPlainStep step
plain_step Back none = tt
plain_step (Budget budget) none = tt
plain_step Proof none = tt
plain_step Next none = absurd (none tt)
plain_step Offers none = absurd (none tt)
plain_step (Augment relation tuple) none = absurd (none tt)

pub plain_where_allowed : (step : Step) → ¬ NeedsTranslation step → IsAllowed (ToStep step) → IsPlain step
plain_where_allowed Back none allowed = tt
plain_where_allowed (Budget budget) none allowed = allowed
plain_where_allowed Proof none allowed = tt
plain_where_allowed Next none allowed = absurd (none tt)
plain_where_allowed Offers none allowed = absurd (none tt)
plain_where_allowed (Augment relation tuple) none allowed = absurd (none tt)

-- a step that a search answers may cost the budget
pub searched_costs : (budget : ℕ) (step : Step) → NeedsTranslation step → cost_of_step budget step ≡ budget
searched_costs budget Next asked = refl
searched_costs budget Offers asked = refl
searched_costs budget (Augment relation tuple) asked = refl
searched_costs budget Back asked = absurd asked
searched_costs budget (Budget other) asked = absurd asked
searched_costs budget Proof asked = absurd asked

nothing_before : (step : Step) (key : ℕ) → IsPlainStep step → IsBeforeRecord step key []
nothing_before Back key plain = refl
nothing_before (Budget budget) key plain = refl
nothing_before Proof key plain = refl
nothing_before Next key plain = absurd plain
nothing_before Offers key plain = absurd plain
nothing_before (Augment relation tuple) key plain = absurd plain

pub on_ok : {A E : Type 0} {P : Type 0} (r : Result A E) → P → OnOk r P
on_ok (Ok x) p = p
on_ok (Err e) p = tt

pub begun_plain : (p : Seen) (step : Step) (x : InSession) → IsPlainStep step → HasBegun p p step x
begun_plain p step x plain = ([], added_none p p refl, nothing_before step x.key plain)

-- no proof is made
plain_shared : (journal : List Noted) (by key : ℕ) (t : Translated) (s : State) (step : Step) (reply : Reply) → ¬ NeedsEvidence s reply → SharesItsProof journal by key t s step reply
plain_shared journal by key t s Next (End number made) none proof local (same, not_ended, local_is) = absurd (none not_ended)
plain_shared journal by key t s (Augment name names) (Refused (NoInstance made)) none proof local makes = absurd (none tt)
plain_shared journal by key t s step reply none proof local makes = absurd makes

abbrev NothingIsWork : Type 0
NothingIsWork = (t : Translated) (pool : List LogStep) (s : State) (x : Step) → IsWork t pool s x [] []

pub plain_proposed : {E : Type 0} (t : Translated) (p : Seen) (x : InSession) (step : Step) (r : Result Proposed E) → NothingIsWork → IfOk r (IsPlainProposal x.kept.state step) → IfOk r (HasProposed t p x step)
plain_proposed t p x step (Ok proposed) nothing plain = record {
  pool = [];
  proposal = plain_ok {E = Unit {0}} t [] x.kept.state step (Ok proposed) nothing plain;
  imported = λ needs. absurd (plain.no_evidence needs);
  shared = plain_shared p.view.seen p.view.number x.key t x.kept.state step proposed.reply plain.no_evidence;
}
plain_proposed t p x step (Err e) nothing plain = tt

-- ---- a step that a search answers

pub begun_search : (a b c : Seen) (step : Step) (x : InSession) (steps : ℕ) (notes : List Note) → b.view.number ≡ a.view.number → HasAdded a b (Imported x.key steps) → HasAddedAll b c notes → AreShared x.key notes → NeedsTranslation step → HasBegun a c step x
begun_search a b c step x steps notes number imported shared are asked = (
  Imported x.key steps ∷ notes,
  added_then a b c (Imported x.key steps ∷ []) notes number imported shared,
  begins_with_search step x.key (Imported x.key steps ∷ notes) asked (record { imported = steps; shared = notes; notes_are = refl; are_shared = are }),
)
