-- The texts of sessions, one session more; and the runs that they tell.
use Rattle.std.proofs.Common.{◌≡◌, ℕ, zero, suc, ◌+◌, ◌<◌, ◌≤◌, List, [], ◌∷◌, ◌++◌, length, take, get_or, All, Some, refl, sym, ap, subst, ◌∙◌, arith, add-one, append-nil, append_assoc}
use Rattle.std.specs.Prelude.{slice_get}
use Rattle.std.specs.Global.{Vec}
use Rattle.std.specs.List.{AllZip, AllByRecursion}
use Rattle.std.specs.declared.sync.Arc.{Arc}
use Rattle.std.proofs.lemmas.List.{length-map, get_or-map}
use Rattle.std.proofs.lemmas.Option.{get_or_from_slice_get, slice_get_within}
use Rattle.std.proofs.lemmas.List.Elements.{All-nil, All-cons, recursion_from_All}
use Rattle.rel_formula.specs.Bounds.{Bounded}
use Rattle.translation_rules.specs.Translation.{Translated, StandsFor}
use Rattle.session_words.specs.declared.commands.Command.{Command}
use Rattle.session_rules.specs.States.{Start}
use Rattle.session_rules.specs.Transcripts.{IsTranscript}
use Rattle.session_rules.specs.declared.answers.Reply.{Reply}
use Rattle.session_rules.specs.declared.script.SessionScript.{SessionScript}
use Rattle.session_rules.specs.declared.script.Transcript.{Transcript}
use Rattle.script_format.specs.declared.entries.Script.{Script}
use Rattle.script_format.specs.declared.entries.ModelEntry.{ModelEntry}
use Rattle.script_format.specs.declared.entries.SessionEntry.{SessionEntry}
use Rattle.script_text.specs.Limits.{most_output}
use Rattle.script_text.specs.Printed.{all_printed}
use Rattle.script_text.specs.Replies.{PrintedSession, NamesCellsOf, PrintsRightProof, PrintsCheckableProof, IsOutput}
use Rattle.hub_state.specs.Journal.Noted.{Noted}
use Rattle.hub_state.specs.Journal.Journal.{IsPublished, IsLegal}
use Rattle.hub_state.specs.Journal.Told.{IsTold}
use Rattle.hub_turns.specs.Backed.{AreBacked}
use Rattle.hub_turns.specs.Interleaved.{IsServedBy, IsInterleaving}
use Rattle.session_turns.specs.Serving.{IsPrintable}
use Rattle.session_turns.specs.Served.{IsServedScript}
use Rattle.explorer_run.specs.Served.{AreServedFrom, values_of, translations_of}
use Rattle.named_model.specs.Model.{NamedTree}
use Rattle.served_models.specs.declared.purposes.Purpose.{Purpose}
use Rattle.served_models.specs.declared.purposes.Purpose.TheVariants.{Lists, Classes}
use Rattle.served_models.specs.declared.commands.ServedCommand.{ServedCommand}
use Rattle.served_models.specs.Served.{AreUsed, AreAllMade}
use Rattle.explorer_cli.specs.declared.sessions.Ran.{Ran}
use Rattle.explorer_cli.specs.Runs.{IsRunOn, IsProblemAt, Translations, IsRunAmong, AreRuns, Together, TellsRun, TellsRuns, IsServed}
use Rattle.explorer_cli.specs.Keys.{problems_of, key_of, IsScriptOf, WereServed}
use Rattle.explorer_cli.specs.Classes.{AreClassedRuns, IsToldText, IsTranscriptText, AreTranscriptTexts}
use Rattle.explorer_cli.specs.Outcome.{AreToldRuns, WritesRuns}
use Rattle.explorer_cli.proofs.KeyedProblems.{problem_there}
use Rattle.explorer_cli.proofs.Usables.{problem_at}

-- ---- the texts of transcripts, one transcript more

-- the text of a transcript over the translation of a key
abbrev IsTextAt : Purpose → List Translated → SessionScript → Transcript → List ℕ → Type 0
IsTextAt purpose ts x y text = (t : Translated) × (slice_get ts x.key ≡ Some t) × IsTranscriptText purpose t x.name y text

texts_suc : (purpose : Purpose) (ts : List Translated) (xs : List SessionScript) (ys : List Transcript) (i : ℕ) (x : SessionScript) (y : Transcript) (text lines : List ℕ) → i < length xs → i < length ys
    → AreTranscriptTexts purpose ts (take i xs) (take i ys) text → IsTextAt purpose ts (get_or xs i x) (get_or ys i y) lines
    → AreTranscriptTexts purpose ts (take (suc i) xs) (take (suc i) ys) (text ++ lines)
texts_suc purpose ts [] ys i x y text lines l m h is = absurd (omega arith)
texts_suc purpose ts (a ∷ xs) [] i x y text lines l m h is = absurd (omega arith)
texts_suc purpose ts (a ∷ xs) (b ∷ ys) zero x y text lines l m h is = (lines, [], is, refl, ap (λ (t : List ℕ). t ++ lines) h ∙ sym (append-nil lines))
texts_suc purpose ts (a ∷ xs) (b ∷ ys) (suc i) x y text lines l m h is =
    (h.0, h.1 ++ lines, h.2, texts_suc purpose ts xs ys i x y h.1 lines (omega arith) (omega arith) h.3 is, ap (λ (t : List ℕ). t ++ lines) h.4 ∙ append_assoc h.0 h.1 lines)

-- the turn of the loop that tells transcripts
pub texts_more : (purpose : Purpose) (ts : List Translated) (xs : List SessionScript) (ys : List Transcript) (i : ℕ) (x : SessionScript) (y : Transcript) (old new lines : List ℕ)
    → i < length xs → i < length ys → x ≡ get_or xs i x → y ≡ get_or ys i y → new ≡ old ++ lines
    → AreTranscriptTexts purpose ts (take i xs) (take i ys) old → IsTextAt purpose ts x y lines → AreTranscriptTexts purpose ts (take (i + 1) xs) (take (i + 1) ys) new
texts_more purpose ts xs ys i x y old new lines l m item other added are is =
    let there = subst (λ (a : SessionScript). IsTextAt purpose ts a (get_or ys i y) lines) item (subst (λ (b : Transcript). IsTextAt purpose ts x b lines) other is) in
    subst (AreTranscriptTexts purpose ts (take (i + 1) xs) (take (i + 1) ys)) (sym added)
    (subst (λ (k : ℕ). AreTranscriptTexts purpose ts (take k xs) (take k ys) (old ++ lines)) (sym (add-one i)) (texts_suc purpose ts xs ys i x y old lines l m are there))

-- ---- what was served, at a place

pub as_many : (problems : List Bounded) (journal : List Noted) (ts : List Translated) (number : ℕ) (xs : List SessionScript) (ys : List Transcript) → AreServedFrom problems journal ts number xs ys → length xs ≡ length ys
as_many problems journal ts number [] [] are = refl
as_many problems journal ts number [] (y ∷ ys) are = absurd are
as_many problems journal ts number (x ∷ xs) [] are = absurd are
as_many problems journal ts number (x ∷ xs) (y ∷ ys) are = let rest = as_many problems journal ts (number + 1) xs ys are.1 in omega arith

-- the session was served under some number over the translation of its key
abbrev pub IsServedThere : List Bounded → List Noted → List Translated → SessionScript → Transcript → Type 0
IsServedThere problems journal ts x y = (t : Translated) × (slice_get ts x.key ≡ Some t) × ((number : ℕ) × IsServedScript problems journal t number x.key x.budget x.commands y)

pub served_there : (problems : List Bounded) (journal : List Noted) (ts : List Translated) (number : ℕ) (xs : List SessionScript) (ys : List Transcript) (i : ℕ) (x : SessionScript) (y : Transcript)
    → AreServedFrom problems journal ts number xs ys → i < length xs → x ≡ get_or xs i x → y ≡ get_or ys i y → IsServedThere problems journal ts x y
served_there problems journal ts number [] [] i x y are l item other = absurd (omega arith)
served_there problems journal ts number [] (b ∷ ys) i x y are l item other = absurd are
served_there problems journal ts number (a ∷ xs) [] i x y are l item other = absurd are
served_there problems journal ts number (a ∷ xs) (b ∷ ys) zero x y are l item other =
    subst (λ (z : SessionScript). IsServedThere problems journal ts z y) (sym item) (subst (IsServedThere problems journal ts a) (sym other) (are.0.0, are.0.1, (number, are.0.2)))
served_there problems journal ts number (a ∷ xs) (b ∷ ys) (suc i) x y are l item other = served_there problems journal ts (number + 1) xs ys i x y are.1 (omega arith) item other

-- the key of each session has a translation
pub key_there : (problems : List Bounded) (journal : List Noted) (ts : List Translated) (number : ℕ) (xs : List SessionScript) (ys : List Transcript) (i : ℕ) (x : SessionScript)
    → AreServedFrom problems journal ts number xs ys → i < length xs → x ≡ get_or xs i x → (t : Translated) × (slice_get ts x.key ≡ Some t)
key_there problems journal ts number [] [] i x are l item = absurd (omega arith)
key_there problems journal ts number [] (b ∷ ys) i x are l item = absurd are
key_there problems journal ts number (a ∷ xs) [] i x are l item = absurd are
key_there problems journal ts number (a ∷ xs) (b ∷ ys) zero x are l item = subst (λ (z : SessionScript). (t : Translated) × (slice_get ts z.key ≡ Some t)) (sym item) (are.0.0, are.0.1)
key_there problems journal ts number (a ∷ xs) (b ∷ ys) (suc i) x are l item = key_there problems journal ts (number + 1) xs ys i x are.1 (omega arith) item

-- the translation to which the pointer of a key points
pub inside : {A : Type 0} (items : List (Arc Translated A)) (key : ℕ) (t : Translated) → slice_get (values_of items) key ≡ Some t → key < length items
inside items key t at = let l = slice_get_within (values_of items) key t at in let long = length-map items (λ a. a.value) in omega (arith, l, long)

pub pointed : {A : Type 0} (items : List (Arc Translated A)) (key : ℕ) (t : Translated) (a : Arc Translated A) → slice_get (values_of items) key ≡ Some t → a ≡ get_or items key a → a.value ≡ t
pointed {A} items key t a at item =
    let own : get_or (values_of items) key t ≡ (get_or items key a).value = get_or-map (λ (b : Arc Translated A). b.value) items key a t (inside items key t at) in
    ap (λ (b : Arc Translated A). b.value) item ∙ sym own ∙ get_or_from_slice_get (values_of items) key t t at

-- replies that can be printed name cells of the problem, and print proofs of their floors' ends
pub name_cells : (t : Translated) (floors : List (List ℕ)) (replies : List Reply) → AllZip (IsPrintable t) floors replies → All (NamesCellsOf t.problem) replies
name_cells t [] [] zip = All-nil (NamesCellsOf t.problem)
name_cells t [] (r ∷ rs) zip = absurd zip
name_cells t (f ∷ fs) [] zip = absurd zip
name_cells t (f ∷ fs) (r ∷ rs) zip = All-cons (NamesCellsOf t.problem) r rs zip.0.cells (name_cells t fs rs zip.1)

pub right_proofs : (t : Translated) (floors : List (List ℕ)) (replies : List Reply) → AllZip (IsPrintable t) floors replies → AllZip (PrintsRightProof t) floors replies
right_proofs t [] [] zip = tt
right_proofs t [] (r ∷ rs) zip = absurd zip
right_proofs t (f ∷ fs) [] zip = absurd zip
right_proofs t (f ∷ fs) (r ∷ rs) zip = (zip.0.proof, right_proofs t fs rs zip.1)

-- ---- the run of one session

-- what the laws of journals say, as they are used here
abbrev pub Stands : Type 0
Stands = (problems : List Bounded) (journal : List Noted) → IsLegal problems journal → (key : ℕ) (t : Translated) → IsPublished journal key t → (slice_get problems key ≡ Some t.problem) × StandsFor t.problem t

abbrev pub ToldAreBacked : Type 0
ToldAreBacked = (problems : List Bounded) (journal : List Noted) → IsLegal problems journal → (number key budget : ℕ) (commands : List Command) (replies : List Reply) (floors : List (List ℕ))
    → (told : IsTold problems journal number key budget commands replies floors) → (t : Translated) → IsPublished journal key t → AreBacked t (Start budget) told.exchanges

same_problem : (p q : Bounded) → Some p ≡ Some q → p ≡ q
same_problem p q e = cc

same_translation : (u t : Translated) → Some u ≡ Some t → u ≡ t
same_translation u t e = cc

-- what is printed of a session over a translation
abbrev session_of : Translated → List ℕ → Transcript → PrintedSession
session_of t name y = record { problem = t.problem; name = name; replies = all_printed t y.floors y.replies }

-- the translation of each command is that of its key
abbrev over : List (Vec ServedCommand) → List Translated → Translations
over models ts model number = slice_get ts (key_of models model number)

abbrev together : List (Vec ServedCommand) → List Noted → Together
together models journal = record { problems = problems_of models; key_of = key_of models; journal = journal }

pub zip_length : {X Y : Type 0} (R : X → Y → Type 0) (xs : List X) (ys : List Y) → AllZip R xs ys → length xs ≡ length ys
zip_length R [] [] zip = refl
zip_length R [] (y ∷ ys) zip = absurd zip
zip_length R (x ∷ xs) [] zip = absurd zip
zip_length R (x ∷ xs) (y ∷ ys) zip = let rest = zip_length R xs ys zip.1 in omega arith

-- this is printed of the transcript
abbrev pub Prints : Transcript → PrintedSession → Type 0
Prints y s = (t : Translated) × AllZip (PrintsCheckableProof t) y.floors y.replies × (s.replies ≡ all_printed t y.floors y.replies)

module _ (stands : Stands) (backed : ToldAreBacked) (purpose : Purpose) (budget : ℕ) (ms : List NamedTree) (models : List (Vec ServedCommand)) (ts : List Translated) (journal : List Noted)
    (legal : IsLegal (problems_of models) journal) (of_model : (x : SessionEntry) → IsServed models x → (p : Bounded) → slice_get (problems_of models) (key_of models x.model x.number) ≡ Some p → IsProblemAt ms x p) where
  run_on : (number : ℕ) (x : SessionEntry) (t : Translated) (y : Transcript) (text : List ℕ) → IsTranscriptText purpose t x.name y text
      → (served : IsServedBy (problems_of models) journal t number (key_of models x.model x.number) budget x.commands y.replies y.floors) → IsRunOn t budget x (session_of t x.name y)
  run_on number x t y text is served =
      let told = served.told in
      let key = key_of models x.model x.number in
      let same : told.problem ≡ t.problem = same_problem told.problem t.problem (sym told.of_key ∙ (stands (problems_of models) journal legal key t served.published).0) in
      record {
        made = is.made;
        replies = y.replies;
        floors = y.floors;
        exchanges = told.exchanges;
        transcript = subst (λ (p : Bounded). IsTranscript p (Start budget) x.commands y.replies y.floors told.exchanges) same told.transcript;
        backed = backed (problems_of models) journal legal number key budget x.commands y.replies y.floors told t served.published;
        checkable = is.checkable;
        is = refl;
      }

  -- a session with its text, as the journal tells it
  record IsToldRun (number : ℕ) (x : SessionEntry) (z : Transcript) (text : List ℕ) : Type 0 where
    pub printed : PrintedSession
    pub run : IsRunAmong budget ms (over models ts) x printed
    pub tells : TellsRun (together models journal) number budget ms (over models ts) x printed run
    pub told : IsToldText purpose printed.problem printed.name run.3.floors printed.replies text
    pub prints : Prints z printed

  told_run : (number : ℕ) (x : SessionEntry) (y : SessionScript) (z : Transcript) (text : List ℕ) → IsServed models x → IsScriptOf models budget x y
      → (t : Translated) → slice_get ts y.key ≡ Some t → IsServedScript (problems_of models) journal t number y.key y.budget y.commands z → IsTextAt purpose ts y z text → IsToldRun number x z text
  unfolding run_on
  told_run number x y z text on script t at is (u, there, told) =
      let key = key_of models x.model x.number in
      let same : u ≡ t = same_translation u t (sym there ∙ at) in
      let text_is : IsTranscriptText purpose t x.name z text = subst (λ (w : Translated). IsTranscriptText purpose w x.name z text) same (subst (λ (n : List ℕ). IsTranscriptText purpose u n z text) script.name told) in
      let on_key = subst (λ (k : ℕ). IsServedBy (problems_of models) journal t number k y.budget y.commands z.replies z.floors) script.key is.served in
      let from = subst (λ (b : ℕ). IsServedBy (problems_of models) journal t number key b y.commands z.replies z.floors) script.budget_is on_key in
      let served : IsServedBy (problems_of models) journal t number key budget x.commands z.replies z.floors =
      subst (λ (cs : List Command). IsServedBy (problems_of models) journal t number key budget cs z.replies z.floors) script.commands from in
      let of_key = (stands (problems_of models) journal legal key t served.published).0 in
      record {
        printed = session_of t x.name z;
        run = (t, subst (λ (k : ℕ). slice_get ts k ≡ Some t) script.key at, of_model x on t.problem of_key, run_on number x t z text text_is served);
        tells = served;
        told = text_is.told;
        prints = (t, text_is.checkable, refl);
      }

  -- ---- those of all sessions

  whole_runs : (number : ℕ) (sessions : List SessionEntry) (xs : List SessionScript) (ys : List Transcript) (text : List ℕ) → AllByRecursion (IsServed models) sessions → AllZip (IsScriptOf models budget) sessions xs
      → AreServedFrom (problems_of models) journal ts number xs ys → AreTranscriptTexts purpose ts xs ys text → purpose ≡ Lists
      → (runs : List PrintedSession) × TellsRuns (together models journal) number budget ms (over models ts) sessions runs × IsOutput runs text × AllZip Prints ys runs
  whole_runs number [] [] [] text on scripts served are lists = ([], tt, are, tt)
  whole_runs number [] [] (y ∷ ys) text on scripts served are lists = absurd are
  whole_runs number [] (x ∷ xs) ys text on scripts served are lists = absurd scripts
  whole_runs number (a ∷ sessions) [] ys text on scripts served are lists = absurd scripts
  whole_runs number (a ∷ sessions) (x ∷ xs) [] text on scripts served are lists = absurd are
  whole_runs number (a ∷ sessions) (x ∷ xs) (y ∷ ys) text on scripts served (first, rest, is, others, e) lists =
      let own = told_run number a x y first on.0 scripts.0 served.0.0 served.0.1 served.0.2 is in
      let more = whole_runs (number + 1) sessions xs ys rest on.1 scripts.1 served.1 others lists in
      let told = subst (λ (q : Purpose). IsToldText q own.printed.problem own.printed.name own.run.3.floors own.printed.replies first) lists own.told in
      (own.printed ∷ more.0, ((own.run, own.tells), more.1), (first, rest, told, more.2, e), (own.prints, more.3))

  classed_runs : (number : ℕ) (sessions : List SessionEntry) (xs : List SessionScript) (ys : List Transcript) (text : List ℕ) → AllByRecursion (IsServed models) sessions → AllZip (IsScriptOf models budget) sessions xs
      → AreServedFrom (problems_of models) journal ts number xs ys → AreTranscriptTexts purpose ts xs ys text → purpose ≡ Classes → AreClassedRuns (together models journal) number budget ms (over models ts) sessions text
  classed_runs number [] [] [] text on scripts served are classes = are
  classed_runs number [] [] (y ∷ ys) text on scripts served are classes = absurd are
  classed_runs number [] (x ∷ xs) ys text on scripts served are classes = absurd scripts
  classed_runs number (a ∷ sessions) [] ys text on scripts served are classes = absurd scripts
  classed_runs number (a ∷ sessions) (x ∷ xs) [] text on scripts served are classes = absurd are
  classed_runs number (a ∷ sessions) (x ∷ xs) (y ∷ ys) text on scripts served (first, rest, is, others, e) classes =
      let own = told_run number a x y first on.0 scripts.0 served.0.0 served.0.1 served.0.2 is in
      let more = classed_runs (number + 1) sessions xs ys rest on.1 scripts.1 served.1 others classes in
      let told = subst (λ (q : Purpose). IsToldText q own.printed.problem own.printed.name own.run.3.floors own.printed.replies first) classes own.told in
      (first, rest, ((own.printed, own.run, told), own.tells), more, e)

-- what was found of the models of a script, what its sessions were answered on that, and the texts of it make the script's answer
module _ (stands : Stands) (backed : ToldAreBacked) (purpose : Purpose) (budget : ℕ) where
  -- the journal's interleaving, and what a key's problem is
  interleaved : (sessions : List SessionEntry) (models : List (Vec ServedCommand)) (ran : Ran) (were : WereServed models budget sessions ran) → IsInterleaving (problems_of models) were.served.journal (length sessions)
  interleaved sessions models ran were =
      subst (IsInterleaving (problems_of models) were.served.journal) (sym (zip_length (IsScriptOf models budget) sessions ran.scripts.items were.scripts)) were.served.interleaving

  pub runs_of_lists : (sessions : List SessionEntry) (ms : List NamedTree) (models : List (Vec ServedCommand)) (ran : Ran) (text : List ℕ) → AreAllMade purpose sessions 0 ms models → All (IsServed models) sessions
      → WereServed models budget sessions ran → AreTranscriptTexts purpose (translations_of ran.served) ran.scripts.items ran.served.transcripts.items text → purpose ≡ Lists
      → (runs : List PrintedSession) × AreRuns budget sessions ms runs × IsOutput runs text × AllZip Prints ran.served.transcripts.items runs
  runs_of_lists sessions ms models ran text made on were are lists =
      let served = were.served in
      let ts = translations_of ran.served in
      let interleaving = interleaved sessions models ran were in
      let of_model : (x : SessionEntry) → IsServed models x → (p : Bounded) → slice_get (problems_of models) (key_of models x.model x.number) ≡ Some p → IsProblemAt ms x p =
      λ x is p at. problem_at purpose sessions ms models x p made (problem_there models x p is at) in
      let whole =
      whole_runs stands backed purpose budget ms models ts served.journal interleaving.legal of_model 1 sessions ran.scripts.items ran.served.transcripts.items text (recursion_from_All (IsServed models) sessions on) were.scripts
      served.sessions are lists in
      (whole.0, (over models ts, together models served.journal, interleaving, whole.1), whole.2, whole.3)

  told_runs : (sessions : List SessionEntry) (ms : List NamedTree) (models : List (Vec ServedCommand)) (ran : Ran) (text : List ℕ) → AreAllMade purpose sessions 0 ms models → All (IsServed models) sessions
      → WereServed models budget sessions ran → AreTranscriptTexts purpose (translations_of ran.served) ran.scripts.items ran.served.transcripts.items text → length text ≤ most_output → AreToldRuns purpose budget sessions ms text
  told_runs sessions ms models ran text made on were are fits =
      let served = were.served in
      let ts = translations_of ran.served in
      let interleaving = interleaved sessions models ran were in
      let of_model : (x : SessionEntry) → IsServed models x → (p : Bounded) → slice_get (problems_of models) (key_of models x.model x.number) ≡ Some p → IsProblemAt ms x p =
      λ x is p at. problem_at purpose sessions ms models x p made (problem_there models x p is at) in
      let go : (q : Purpose) → purpose ≡ q → AreToldRuns q budget sessions ms text =
      λ q. elim q as (λ q. purpose ≡ q → AreToldRuns q budget sessions ms text) [
        | Lists ↦ λ lists. let whole = runs_of_lists sessions ms models ran text made on were are lists in (whole.0, whole.1, whole.2, fits)
        | Classes ↦ λ classes.
            let told =
            classed_runs stands backed purpose budget ms models ts served.journal interleaving.legal of_model 1 sessions ran.scripts.items ran.served.transcripts.items text (recursion_from_All (IsServed models) sessions on)
            were.scripts served.sessions are classes in
            (over models ts, together models served.journal, interleaving, told, fits)
      ] in
      go purpose refl

  pub runs_answer_of : (s : Script) (sessions : List SessionEntry) (entries : List ModelEntry) (models : List (Vec ServedCommand)) (ran : Ran) (text : List ℕ) → sessions ≡ s.sessions → entries ≡ s.models
      → AreUsed purpose sessions entries models → All (IsServed models) sessions → WereServed models budget sessions ran
      → AreTranscriptTexts purpose (translations_of ran.served) ran.scripts.items ran.served.transcripts.items text → length text ≤ most_output → WritesRuns purpose budget s text
  runs_answer_of s sessions entries models ran text e f used on were are fits =
      let u = subst (λ (es : List ModelEntry). AreUsed purpose s.sessions es models) f (subst (λ (xs : List SessionEntry). AreUsed purpose xs entries models) e used) in
      let served = subst (λ (xs : List SessionEntry). All (IsServed models) xs) e on in
      let all_were = subst (λ (xs : List SessionEntry). WereServed models budget xs ran) e were in
      (u.0, u.1, told_runs s.sessions u.0 models ran text u.2 served all_were are fits)
