-- A session so far.
use Rattle.std.proofs.Common.{◌≡◌, ◌<◌, ◌+◌, ◌==◌, ℕ, Some, List, [], ◌∷◌, ◌++◌, map, length, take, get_or, All, Contains, refl, sym, ◌∙◌, ap, subst, arith}
use Rattle.std.specs.Prelude.{slice_get, flat_map}
use Rattle.std.specs.List.{AllZip}
use Rattle.std.proofs.lemmas.List.{take_more}
use Rattle.std.proofs.lemmas.List.Elements.{All-nil, All-push}
use Rattle.atomic_table.specs.Seated.{TableId}
use Rattle.hub_lock.specs.Passes.{of_pass}
use Rattle.hub_lock.specs.declared.view.View.{View}
use Rattle.refutation_check.proofs.TextLines.{zip_push}
use Rattle.rel_formula.specs.Bounds.{Bounded}
use Rattle.rel_formula.specs.Instance.{AreCells}
use Rattle.rel_formula.proofs.OpenCells.{filter_has}
use Rattle.translation_rules.specs.Translation.{Translated}
use Rattle.session_words.specs.declared.commands.Command.{Command}
use Rattle.session_rules.specs.States.{State, Start, top_floor}
use Rattle.session_rules.specs.Steps.{Exchange, state_after}
use Rattle.session_rules.specs.Sound.{IsSound}
use Rattle.session_rules.specs.Transcripts.{Serves, IsTranscript}
use Rattle.session_rules.specs.declared.answers.Reply.{Reply}
use Rattle.session_rules.proofs.Runs.{states_join}
use Rattle.session_state.specs.Sessions.Fits.{InSession}
use Rattle.session_state.proofs.Sessions.TopFloors.{floor_here}
use Rattle.hub_state.specs.Journal.Noted.{Note, Noted, Opened}
use Rattle.hub_state.specs.Journal.Journal.{HasNoted, IsPublished, recorded_in}
use Rattle.hub_turns.specs.Groups.{notes_of, AreGroups}
use Rattle.hub_turns.specs.Interleaved.{SharesItsProofs}
use Rattle.hub_turns.specs.Turned.{WentOn, HasAdded}
use Rattle.hub_turns.proofs.Going.{same_base}
use Rattle.hub_turns.proofs.Grouping.{groups_join, notes_record, groups_record}
use Rattle.hub_turns.proofs.Onward.{same_number}
use Rattle.session_turns.specs.Serving.{IsPrintable}
use Rattle.session_turns.specs.Added.{HasAddedAll, HasServed}
use Rattle.session_turns.specs.Seated.{IsSeated}
use Rattle.session_turns.specs.Served.{IsOpened, IsServedScript}
use Rattle.session_turns.proofs.Transcribed.{transcript_more}
use Rattle.session_turns.proofs.Turning.{Seen, noted, added_none, added_then}

-- these commands were served, which led from one session to the other
pub record IsSoFar (t : Translated) (a b : Seen) (x y : InSession) (cs : List Command) (rs : List Reply) (fs : List (List ℕ)) : Type 0 where
  pub exchanges : List Exchange
  pub transcript : IsTranscript t.problem x.kept.state cs rs fs exchanges
  pub state : y.kept.state ≡ state_after x.kept.state exchanges
  pub notes : List Note
  pub added : HasAddedAll a b notes
  pub groups : AreGroups x.key exchanges notes
  pub floors : All (AreCells t.problem) fs
  pub printable : AllZip (IsPrintable t) fs rs

pub so_far_none : (t : Translated) (p : Seen) (x : InSession) → IsSoFar t p p x x [] [] []
so_far_none t p x = record {
  exchanges = [];
  transcript = refl;
  state = refl;
  notes = [];
  added = added_none p p refl;
  groups = refl;
  floors = All-nil (AreCells t.problem);
  printable = tt;
}

-- with one command more
pub so_far_more : (t : Translated) (a b c : Seen) (x y z : InSession) (cs : List Command) (i : ℕ) (asked : Command) (rs : List Reply) (fs : List (List ℕ)) (r : Reply) → i < length cs → asked ≡ get_or cs i asked → b.view.number ≡ a.view.number → y.key ≡ x.key
    → IsSound t.problem y.kept.state → IsSoFar t a b x y (take i cs) rs fs → HasServed t b c y z asked r → IsPrintable t (top_floor y.kept.state) r → IsSoFar t a c x z (take (i + 1) cs) (rs ++ r ∷ []) (fs ++ top_floor y.kept.state ∷ [])
so_far_more t a b c x y z cs i asked rs fs r l is number key sound so served can =
    let p = t.problem in
    let old = x.kept.state in
    let xs = so.exchanges in
    let ys = served.exchanges in
    let more : take (i + 1) cs ≡ take i cs ++ asked ∷ [] = take_more cs i asked l ∙ ap (λ (d : Command). take i cs ++ d ∷ []) (sym is) in
    let serves : Serves p (state_after old xs) asked r ys = subst (λ (s : State). Serves p s asked r ys) so.state served.serves in
    let grown = transcript_more p old (take i cs) rs fs xs ys asked r so.transcript serves in
    let floors = subst (λ (s : State). IsTranscript p old (take i cs ++ asked ∷ []) (rs ++ r ∷ []) (fs ++ top_floor s ∷ []) (xs ++ ys)) (sym so.state) grown in
    record {
      exchanges = xs ++ ys;
      transcript = subst (λ (ds : List Command). IsTranscript p old ds (rs ++ r ∷ []) (fs ++ top_floor y.kept.state ∷ []) (xs ++ ys)) (sym more) floors;
      state = served.state ∙ ap (λ (s : State). state_after s ys) so.state ∙ sym (states_join old xs ys);
      notes = so.notes ++ served.notes;
      added = added_then a b c so.notes served.notes number so.added served.added;
      groups = groups_join x.key xs ys so.notes served.notes so.groups (subst (λ (k : ℕ). AreGroups k ys served.notes) key served.groups);
      floors = All-push (AreCells p) fs (top_floor y.kept.state) so.floors (floor_here p y.kept.state sound);
      printable = zip_push (IsPrintable t) fs rs (top_floor y.kept.state) r so.printable can;
    }

-- a session that was just opened
pub just_opened : (lock : TableId) (a b : Seen) (x : InSession) (key budget : ℕ) → a.view.own ≡ [] → WentOn lock a b → HasAdded a b (Opened key budget) → x.key ≡ key → x.kept.state ≡ Start budget → IsOpened key budget b x
just_opened lock a b x key budget none went added key_is state = record {
  key_is = key_is;
  state = state;
  own = added ∙ ap (λ (es : List Noted). es ++ noted a.view.number (Opened key budget) ∷ []) none ∙ ap (λ (n : ℕ). noted n (Opened key budget) ∷ []) (sym (same_number lock a b went));
}

notes_back : (n : ℕ) (notes : List Note) → map (λ (e : Noted). e.note) (map (noted n) notes) ≡ notes
notes_back n [] = refl
notes_back n (note ∷ notes) = ap (λ (ns : List Note). note ∷ ns) (notes_back n notes)

-- a whole session
module _ (lock : TableId) (t : Translated) (a b : Seen) (x y : InSession) (shown : ℕ) (went : WentOn lock a b) (seated : IsSeated lock t shown b y) (problems : List Bounded) (base : a.view.base ≡ Some problems) (key budget : ℕ) (opened : IsOpened key budget a x) (same_key : y.key ≡ x.key) where
  abbrev n : ℕ
  n = b.view.number

  same_problems : seated.idle.problems ≡ problems
  same_problems = same_base seated.idle.problems problems b.view.base seated.idle.base_is (ap (λ (v : View Noted (List Bounded)). v.base) went.same ∙ base)

  key_is : y.key ≡ key
  key_is = same_key ∙ opened.key_is

  of_key : slice_get problems key ≡ Some t.problem
  of_key = ap (λ (ps : List Bounded). slice_get ps key) (sym same_problems) ∙ ap (slice_get seated.idle.problems) (sym key_is) ∙ seated.replay.of_key

  shares : SharesItsProofs problems b.view.seen n key t
  shares = subst (λ (ps : List Bounded). SharesItsProofs ps b.view.seen n key t) same_problems (subst (λ (k : ℕ). SharesItsProofs seated.idle.problems b.view.seen n k t) key_is seated.shares)

  own_entries : (notes : List Note) → HasAddedAll a b notes → of_pass (λ (e : Noted). e.by) n b.view.seen ≡ noted n (Opened key budget) ∷ map (noted n) notes
  own_entries notes added =
      seated.idle.own
      ∙ added
      ∙ ap (λ (es : List Noted). es ++ map (noted a.view.number) notes) opened.own
      ∙ ap (λ (m : ℕ). noted m (Opened key budget) ∷ map (noted m) notes) (sym (same_number lock a b went))

  own_notes : (notes : List Note) → HasAddedAll a b notes → notes_of n b.view.seen ≡ Opened key budget ∷ notes
  own_notes notes added = ap (map (λ (e : Noted). e.note)) (own_entries notes added) ∙ ap (λ (ns : List Note). Opened key budget ∷ ns) (notes_back n notes)

  opened_there : (notes : List Note) → HasAddedAll a b notes → HasNoted b.view.seen n (Opened key budget)
  opened_there notes added =
      let entry = noted n (Opened key budget) in
      let first : Contains (entry ∷ map (noted n) notes) entry = (0, omega arith, refl) in
      (filter_has (λ (e : Noted). e.by == n) b.view.seen entry (subst (λ (es : List Noted). Contains es entry) (sym (own_entries notes added)) first)).0

  pub served_whole : (cs : List Command) (rs : List Reply) (fs : List (List ℕ)) → IsSoFar t a b x y cs rs fs → IsServedScript problems b.view.seen t n key budget cs (record { replies = rs; floors = fs })
  served_whole cs rs fs so = record {
    served = record {
      told = record {
        opened = opened_there so.notes so.added;
        problem = t.problem;
        of_key = of_key;
        exchanges = so.exchanges;
        transcript = subst (λ (s : State). IsTranscript t.problem s cs rs fs so.exchanges) opened.state so.transcript;
        recorded = notes_record n b.view.seen ∙ ap (λ (ns : List Note). flat_map recorded_in ns) (own_notes so.notes so.added) ∙ groups_record x.key so.exchanges so.notes so.groups;
      };
      groups = so.notes;
      notes = own_notes so.notes so.added;
      are_groups = subst (λ (k : ℕ). AreGroups k so.exchanges so.notes) opened.key_is so.groups;
      published = subst (λ (k : ℕ). IsPublished b.view.seen k t) key_is seated.published;
      shares = shares;
    };
    cells = so.floors;
    printable = so.printable;
  }
