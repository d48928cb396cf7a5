-- The journal that is left when all sessions were served.
use Rattle.std.proofs.Common.{◌≡◌, ◌+◌, ◌≤◌, ℕ, Some, List, map, length, All, sym, ◌∙◌, ap, subst, arith}
use Rattle.atomic_table.specs.Seated.{TableId}
use Rattle.hub_lock.specs.Passes.{of_pass}
use Rattle.rel_formula.specs.Bounds.{Bounded}
use Rattle.translation_rules.specs.Translation.{Translated}
use Rattle.session_rules.specs.declared.script.SessionScript.{SessionScript}
use Rattle.hub_state.specs.Journal.Noted.{Note, Noted}
use Rattle.hub_state.specs.Journal.Journal.{IsLegal}
use Rattle.hub_state.specs.HubView.{HubView}
use Rattle.hub_turns.proofs.Going.{same_base}
use Rattle.explorer_run.specs.declared.sessions.Served.{Served}
use Rattle.explorer_run.specs.Served.{AreServed, AreServedFrom, ArePublished, translations_of}
use Rattle.explorer_run.specs.Seats.{StaysRoot, IsNewRoot}
use Rattle.explorer_run.proofs.Rooted.{Seen, IsPublication}

-- the first pass served the scripts' sessions, and the lock was closed
pub all_served : (lock : TableId) (problems : List Bounded) (scripts : List SessionScript) (ts : List Translated) (s : Served) (old new : Seen) (hub : HubView) → translations_of s ≡ ts → IsNewRoot lock problems ts old → StaysRoot lock ts old new → new.view.made ≡ old.view.made + length scripts
    → AreServedFrom problems new.view.seen ts (old.view.made + 1) scripts s.transcripts.items → new.view.base ≡ Some hub.problems → hub.journal ≡ new.view.seen → IsLegal hub.problems hub.journal → All (λ x. x.by ≤ new.view.made) hub.journal
    → of_pass (λ x. x.by) 0 hub.journal ≡ new.view.own → AreServed problems scripts s
all_served lock problems scripts ts s old new hub of first stays made served base journal legal numbers own =
    let same : hub.problems ≡ problems = same_base hub.problems problems new.view.base base (stays.base ∙ first.base) in
    let none = first.made in
    let count : new.view.made ≡ length scripts = omega (arith, none, made) in
    let one : old.view.made + 1 ≡ 1 = omega (arith, none) in
    let note_of : Noted → Note = λ x. x.note in
    let ys = s.transcripts.items in
    let told : AreServedFrom problems new.view.seen ts 1 scripts ys = subst (λ (n : ℕ). AreServedFrom problems new.view.seen ts n scripts ys) one served in
    let here : AreServedFrom problems hub.journal ts 1 scripts ys = subst (λ (js : List Noted). AreServedFrom problems js ts 1 scripts ys) (sym journal) told in
    let were : ArePublished hub.journal ts = subst (λ (js : List Noted). ArePublished js ts) (sym journal) stays.root.published in
    record {
      journal = hub.journal;
      interleaving = record {
        legal = subst (λ (ps : List Bounded). IsLegal ps hub.journal) same legal;
        numbers = subst (λ (n : ℕ). All (λ (x : Noted). x.by ≤ n) hub.journal) count numbers;
        publications = subst (λ (es : List Noted). All IsPublication (map note_of es)) (sym own) stays.root.own;
      };
      keys = ap (λ (us : List Translated). length us) of ∙ first.keys;
      published = subst (λ (us : List Translated). ArePublished hub.journal us) (sym of) were;
      sessions = subst (λ (us : List Translated). AreServedFrom problems hub.journal us 1 scripts ys) (sym of) here;
    }
