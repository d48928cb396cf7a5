-- The summary of transcripts is that of the runs that they are.
use Rattle.std.proofs.Common.{◌≡◌, ◌≤◌, ◌+◌, ◌∙◌, ℕ, List, [], ◌∷◌, All, length, sum_by, refl, sym, ap, ap₂, subst, arith, length-append}
use Rattle.std.specs.Global.{Vec}
use Rattle.std.specs.List.{AllZip}
use Rattle.std.proofs.lemmas.List.Sums.{sum_by-cons}
use Rattle.translation_rules.specs.Translation.{Translated}
use Rattle.session_rules.specs.declared.answers.Reply.{Reply}
use Rattle.session_rules.specs.declared.script.SessionScript.{SessionScript}
use Rattle.session_rules.specs.declared.script.Transcript.{Transcript}
use Rattle.script_format.specs.declared.entries.Script.{Script}
use Rattle.script_format.specs.declared.entries.ModelEntry.{ModelEntry}
use Rattle.script_format.specs.declared.entries.SessionEntry.{SessionEntry}
use Rattle.script_text.specs.Printed.{Printed, all_printed}
use Rattle.script_text.specs.Replies.{PrintedSession}
use Rattle.explorer_run.specs.Served.{translations_of}
use Rattle.served_models.specs.declared.purposes.Purpose.TheVariants.{Lists}
use Rattle.served_models.specs.declared.commands.ServedCommand.{ServedCommand}
use Rattle.served_models.specs.Served.{AreUsed}
use Rattle.explorer_cli.specs.declared.sessions.Ran.{Ran}
use Rattle.explorer_cli.specs.Runs.{IsServed}
use Rattle.explorer_cli.specs.Keys.{IsScriptOf, WereServed}
use Rattle.explorer_cli.specs.Classes.{AreTranscriptTexts}
use Rattle.explorer_cli.specs.Load.{scenarios_listed, floors_ended, sum_over, summary}
use Rattle.explorer_cli.specs.Tallies.{scenarios_in, ends_in, sum_in, summary_in}
use Rattle.explorer_cli.specs.Outcome.{WritesSummary}
use Rattle.explorer_cli.proofs.ServedOutputs.{Prints, Stands, ToldAreBacked, as_many, runs_of_lists, zip_length}
use Rattle.explorer_cli.proofs.Summaries.{Agree, Fits, session_fits, same_sum, scenarios_agree, scenarios_fit, ends_agree, ends_fit}

module _ (count : Printed → ℕ) (of : Reply → ℕ) (agree : Agree count of) where
  in_replies : Transcript → ℕ
  in_replies y = sum_by of y.replies

  -- what transcripts come to is what is printed of them
  sums_are : (ys : List Transcript) (runs : List PrintedSession) → AllZip Prints ys runs → sum_over count runs ≡ sum_in of ys
  sums_are [] [] zip = refl
  sums_are [] (s ∷ runs) zip = absurd zip
  sums_are (y ∷ ys) [] zip = absurd zip
  sums_are (y ∷ ys) (s ∷ runs) zip =
      let (t, checkable, replies) = zip.0 in
      let here : sum_by count s.replies ≡ sum_by of y.replies = ap (sum_by count) replies ∙ same_sum count of agree t y.floors y.replies checkable in
      sum_by-cons (λ (r : PrintedSession). sum_by count r.replies) s runs ∙ ap₂ (λ (m n : ℕ). m + n) here (sums_are ys runs zip.1) ∙ sym (sum_by-cons (λ (z : Transcript). sum_by of z.replies) y ys)

  -- and no more than their text has bytes
  sum_fits : Fits count → (ts : List Translated) (xs : List SessionScript) (ys : List Transcript) (text : List ℕ) → AreTranscriptTexts Lists ts xs ys text → sum_in of ys ≤ length text
  sum_fits fits ts [] [] text are = omega arith
  sum_fits fits ts [] (y ∷ ys) text are = absurd are
  sum_fits fits ts (x ∷ xs) [] text are = absurd are
  sum_fits fits ts (x ∷ xs) (y ∷ ys) text (first, rest, (t, at, is), others, e) =
      let printed = session_fits count fits t.problem x.name (all_printed t y.floors y.replies) first is.told in
      let here = same_sum count of agree t y.floors y.replies is.checkable in
      let later = sum_fits fits ts xs ys rest others in
      omega (arith, printed, here, later, sum_by-cons (λ (z : Transcript). sum_by of z.replies) y ys, ap (λ (bs : List ℕ). length bs) e, length-append first rest)

pub scenarios_within : (ts : List Translated) (xs : List SessionScript) (ys : List Transcript) (text : List ℕ) → AreTranscriptTexts Lists ts xs ys text → sum_in scenarios_in ys ≤ length text
scenarios_within = sum_fits scenarios_listed scenarios_in scenarios_agree scenarios_fit

pub ends_within : (ts : List Translated) (xs : List SessionScript) (ys : List Transcript) (text : List ℕ) → AreTranscriptTexts Lists ts xs ys text → sum_in ends_in ys ≤ length text
ends_within = sum_fits floors_ended ends_in ends_agree ends_fit

-- what was found of the models of a script, what its sessions were answered on that, and the sums of it make the script's summary
module _ (stands : Stands) (backed : ToldAreBacked) (budget : ℕ) where
  pub summary_answer : (s : Script) (sessions : List SessionEntry) (entries : List ModelEntry) (models : List (Vec ServedCommand)) (ran : Ran) (lines text : List ℕ) → sessions ≡ s.sessions → entries ≡ s.models
      → AreUsed Lists sessions entries models → All (IsServed models) sessions → WereServed models budget sessions ran
      → AreTranscriptTexts Lists (translations_of ran.served) ran.scripts.items ran.served.transcripts.items lines
      → text ≡ summary_in ran.served.transcripts.items → WritesSummary budget s text
  summary_answer s sessions entries models ran lines text e f used on were are told =
      let u = subst (λ (es : List ModelEntry). AreUsed Lists s.sessions es models) f (subst (λ (xs : List SessionEntry). AreUsed Lists xs entries models) e used) in
      let served = subst (λ (xs : List SessionEntry). All (IsServed models) xs) e on in
      let all_were = subst (λ (xs : List SessionEntry). WereServed models budget xs ran) e were in
      let ys = ran.served.transcripts.items in
      let whole = runs_of_lists stands backed Lists budget s.sessions u.0 models ran lines u.2 served all_were are refl in
      let number : length ys ≡ length s.sessions =
      sym (zip_length (IsScriptOf models budget) s.sessions ran.scripts.items all_were.scripts ∙ as_many _ _ _ 1 ran.scripts.items ys all_were.served.sessions) in
      let shown = sym (sums_are scenarios_listed scenarios_in scenarios_agree ys whole.0 whole.3) in
      let ended = sym (sums_are floors_ended ends_in ends_agree ys whole.0 whole.3) in
      (u.0, u.1, (whole.0, whole.1, told ∙ ap (λ (n : ℕ). summary n (sum_in scenarios_in ys) (sum_in ends_in ys)) number ∙ ap₂ (λ (m n : ℕ). summary (length s.sessions) m n) shown ended))
