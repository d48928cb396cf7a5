-- A session begins.
use Rattle.std.proofs.Common.{◌≡◌, ◌≢◌, ◌≤◌, ℕ, Bool, cond, Some, List, [], ◌∷◌, ◌++◌, length, All, Contains, refl, sym, ◌∙◌, ap, subst, arith}
use Rattle.std.specs.Prelude.{slice_get}
use Rattle.std.proofs.lemmas.Bool.{eq-eqb}
use Rattle.std.proofs.lemmas.List.Elements.{All-nil, All-cons, All-contains, Contains-append_right}
use Rattle.atomic_table.specs.Seated.{TableId}
use Rattle.rel_formula.specs.Bounds.{Bounded}
use Rattle.translation_rules.specs.Translation.{Translated, StandsFor}
use Rattle.session_rules.specs.States.{State, Start}
use Rattle.session_rules.specs.Steps.{Exchange, MachineRun, state_after}
use Rattle.session_state.specs.Sessions.Fits.{InSession, FitsProblem}
use Rattle.session_turns.specs.Serving.{IsEndProof}
use Rattle.hub_state.specs.Journal.Noted.{Noted, Opened, Recorded}
use Rattle.hub_state.specs.Journal.Journal.{IsPublished, IsReplay, IsLegal, exchanges_of}
use Rattle.hub_turns.specs.Interleaved.{SharesItsProofs}
use Rattle.hub_state.specs.HubView.{HasTranslation}
use Rattle.hub_turns.proofs.OwnEntries.{no_own, published_grows}
use Rattle.hub_turns.specs.Turned.{IsIdle, WentOn, HasAdded, MayAdd}
use Rattle.session_turns.specs.Seated.{IsSeated}
use Rattle.hub_turns.proofs.Onward.{same_number, same_problems}
use Rattle.session_turns.proofs.Turning.{Seen, noted}
use Rattle.session_turns.proofs.ProofSharing.{shares_still}
use Rattle.session_turns.proofs.Answering.{IsQuiet}

-- what was published is of the key's problem
abbrev pub OfItsKey : Type 0
OfItsKey = (problems : List Bounded) (journal : List Noted) → IsLegal problems journal → (key : ℕ) (t : Translated) → IsPublished journal key t → (slice_get problems key ≡ Some t.problem) × StandsFor t.problem t

module _ (of_its_key : OfItsKey) (lock : TableId) (a : Seen) (idle : IsIdle lock a) (none : a.view.own ≡ []) (key budget : ℕ) where
  others : All (λ (x : Noted). x.by ≢ a.view.number) a.view.seen
  others = no_own a.view.number a.view.seen (idle.own ∙ none)

  pub may_open : HasTranslation a.view.seen key → MayAdd a (Opened key budget)
  may_open (t, there) = (
    idle.problems,
    idle.base_is,
    record {
      problem = t.problem;
      of_key = (of_its_key idle.problems a.view.seen idle.legal key t there).0;
      first = λ other most before. All-contains (λ (x : Noted). x.by ≢ a.view.number) a.view.seen (noted a.view.number (Opened other most)) others before refl;
    },
  )

  pub seated_at_start : (b : Seen) (t : Translated) (x : InSession) → WentOn lock a b → HasAdded a b (Opened key budget) → IsPublished a.view.seen key t → x ≡ record { owner = a.view.number; key = key; kept = record { state = Start budget; copies = []; room = 0 } }
      → FitsProblem t.problem x.kept → IsSeated lock t 0 b x
  seated_at_start b t x went added there is fits =
      let n = a.view.number in
      let number = same_number lock a b went in
      let problems = same_problems lock a b idle went in
      let state : x.kept.state ≡ Start budget = ap (λ (y : InSession). y.kept.state) is in
      let key_is : x.key ≡ key = ap (λ (y : InSession). y.key) is in
      let opened : IsReplay idle.problems (noted n (Opened key budget) ∷ []) n key t.problem (Start budget) = record {
        budget = budget;
        opened = (0, omega arith, refl);
        of_key = (of_its_key idle.problems a.view.seen idle.legal key t there).0;
        run = nothing_run n;
        state = nothing_state n;
      } in
      let own : b.view.own ≡ noted n (Opened key budget) ∷ [] = added ∙ ap (λ (es : List Noted). es ++ noted n (Opened key budget) ∷ []) none in
      let vacuous : SharesItsProofs idle.problems a.view.seen n key t = λ before step reply later s split replay.
      absurd (All-contains (λ (y : Noted). y.by ≢ n) a.view.seen (noted n (Recorded step reply)) others (subst (λ (j : List Noted). Contains j (noted n (Recorded step reply))) (sym split) (Contains-append_right before (noted n (Recorded step reply) ∷ later) (noted n (Recorded step reply)) (0, omega arith, refl))) refl) in
      let quiet : All IsQuiet (Opened key budget ∷ []) = All-cons IsQuiet (Opened key budget) [] (λ step reply same. absurd cc) (All-nil IsQuiet) in
      let shares : SharesItsProofs idle.problems b.view.seen n key t = shares_still lock a b idle went (Opened key budget ∷ []) added key t vacuous quiet in
      record {
        idle = went.idle;
        owner = ap (λ (y : InSession). y.owner) is ∙ sym number;
        published = subst (λ (k : ℕ). IsPublished b.view.seen k t) (sym key_is) (published_grows a.view.seen b.view.seen went.seen key t there);
        on = record { fits = fits; few_shown = subst (λ (s : State). length s.shown ≤ 0) (sym state) (omega arith); proofs = subst (λ (s : State). All (IsEndProof t) s.ended) (sym state) (All-nil (IsEndProof t)) };
        replay = subst (λ (ps : List Bounded). IsReplay ps b.view.own b.view.number x.key t.problem x.kept.state) (sym problems)
            (subst (λ (es : List Noted). IsReplay idle.problems es b.view.number x.key t.problem x.kept.state) (sym own)
            (subst (λ (m : ℕ). IsReplay idle.problems (noted n (Opened key budget) ∷ []) m x.key t.problem x.kept.state) (sym number)
            (subst (λ (k : ℕ). IsReplay idle.problems (noted n (Opened key budget) ∷ []) n k t.problem x.kept.state) (sym key_is)
            (subst (λ (s : State). IsReplay idle.problems (noted n (Opened key budget) ∷ []) n key t.problem s) (sym state) opened))));
        shares = subst (λ (ps : List Bounded). SharesItsProofs ps b.view.seen b.view.number x.key t) (sym problems)
            (subst (λ (m : ℕ). SharesItsProofs idle.problems b.view.seen m x.key t) (sym number) (subst (λ (k : ℕ). SharesItsProofs idle.problems b.view.seen n k t) (sym key_is) shares));
      }
    where
      told : (m : ℕ) → exchanges_of m (noted m (Opened key budget) ∷ []) ≡ []
      told m = let E : List Exchange = [] in ap (λ (b : Bool). cond b E E ++ E) (eq-eqb m m refl)

      nothing_run : (m : ℕ) → MachineRun t.problem (Start budget) (exchanges_of m (noted m (Opened key budget) ∷ []))
      nothing_run m = subst (MachineRun t.problem (Start budget)) (sym (told m)) tt

      nothing_state : (m : ℕ) → Start budget ≡ state_after (Start budget) (exchanges_of m (noted m (Opened key budget) ∷ []))
      nothing_state m = sym (ap (state_after (Start budget)) (told m))
