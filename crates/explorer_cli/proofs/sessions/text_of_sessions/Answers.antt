use Rattle.std.proofs.Common.{◌≤◌, ◌<◌, ◌∙◌, ◌++◌, ◌≡◌, All, List, ℕ, length, length-append, take, sym, ap, subst, arith}
use Rattle.std.specs.List.{AllZip}
use Rattle.std.proofs.lemmas.List.{take_all}
use Rattle.rel_formula.specs.Instance.{AreCells}
use Rattle.translation_rules.specs.Translation.{Translated}
use Rattle.session_rules.specs.declared.script.SessionScript.{SessionScript}
use Rattle.session_rules.specs.declared.script.Transcript.{Transcript}
use Rattle.script_text.specs.Printed.{all_printed}
use Rattle.script_text.specs.Replies.{NamesCellsOf, PrintsRightProof}
use Rattle.explorer_run.specs.Served.{translations_of}
use Rattle.explorer_cli.specs.Classes.{IsToldText, IsTranscriptText, AreTranscriptTexts}
use Rattle.explorer_cli.proofs.ServedOutputs.{as_many, key_there, served_there, inside, pointed, name_cells, right_proofs, texts_more}
use Rattle.explorer_cli.proofs.sessions.text_of_sessions.Goals as goal

pub index-translation-requires : goal.index-translation-requires
index-translation-requires c =
    let served = c.args.served.now in
    let are = c.requires.1 in
    let there = key_there c.requires.0 are.journal (translations_of served) 1 c.args.scripts.now served.transcripts.items c.loop-place.place c.index-scripts-place.result are.sessions c.loop-place-test.true c.index-scripts-place.is in
    let l = inside served.translations.items c.index-scripts-place.result.key there.0 there.1 in
    omega (arith, l, served.translations.ok.0)

pub index-transcript-requires : goal.index-transcript-requires
index-transcript-requires c =
    let served = c.args.served.now in
    let are = c.requires.1 in
    let many = as_many c.requires.0 are.journal (translations_of served) 1 c.args.scripts.now served.transcripts.items are.sessions in
    let l = c.loop-place-test.true in
    omega (arith, many, l, served.transcripts.ok.0)

pub told_text-requires-clause-floors : goal.told_text-requires-clause-floors
told_text-requires-clause-floors c =
    let served = c.args.served.now in
    let are = c.requires.1 in
    let x = c.index-scripts-place.result in
    let y : Transcript = c.index-transcript.result.now in
    let there = served_there c.requires.0 are.journal (translations_of served) 1 c.args.scripts.now served.transcripts.items c.loop-place.place x y are.sessions c.loop-place-test.true c.index-scripts-place.is c.index-transcript.ensures in
    let same : c.deref.result.now ≡ there.0 = c.deref.ensures ∙ pointed served.translations.items x.key there.0 c.index-translation.result.now there.1 c.index-translation.ensures in
    subst (λ (u : Translated). All (AreCells u.problem) y.floors) (sym same) there.2.1.cells

pub told_text-requires-clause-cells : goal.told_text-requires-clause-cells
told_text-requires-clause-cells c =
    let served = c.args.served.now in
    let are = c.requires.1 in
    let x = c.index-scripts-place.result in
    let y : Transcript = c.index-transcript.result.now in
    let there = served_there c.requires.0 are.journal (translations_of served) 1 c.args.scripts.now served.transcripts.items c.loop-place.place x y are.sessions c.loop-place-test.true c.index-scripts-place.is c.index-transcript.ensures in
    let same : c.deref.result.now ≡ there.0 = c.deref.ensures ∙ pointed served.translations.items x.key there.0 c.index-translation.result.now there.1 c.index-translation.ensures in
    subst (λ (u : Translated). All (NamesCellsOf u.problem) y.replies) (sym same) (name_cells there.0 y.floors y.replies there.2.1.printable)

pub told_text-requires-clause-proofs : goal.told_text-requires-clause-proofs
told_text-requires-clause-proofs c =
    let served = c.args.served.now in
    let are = c.requires.1 in
    let x = c.index-scripts-place.result in
    let y : Transcript = c.index-transcript.result.now in
    let there = served_there c.requires.0 are.journal (translations_of served) 1 c.args.scripts.now served.transcripts.items c.loop-place.place x y are.sessions c.loop-place-test.true c.index-scripts-place.is c.index-transcript.ensures in
    let same : c.deref.result.now ≡ there.0 = c.deref.ensures ∙ pointed served.translations.items x.key there.0 c.index-translation.result.now there.1 c.index-translation.ensures in
    subst (λ (u : Translated). AllZip (PrintsRightProof u) y.floors y.replies) (sym same) (right_proofs there.0 y.floors y.replies there.2.1.printable)

pub loop-place-preserved : goal.loop-place-preserved
loop-place-preserved c =
    let served = c.args.served.now in
    let ts = translations_of served in
    let xs = c.args.scripts.now in
    let ys : List Transcript = served.transcripts.items in
    let are = c.requires.1 in
    let i = c.loop-place.place in
    let x = c.index-scripts-place.result in
    let y : Transcript = c.index-transcript.result.now in
    let t : Translated = c.deref.result.now in
    let old = c.loop-place.text.items in
    let lines = c.in_ok-lines.lines.items in
    let there = served_there c.requires.0 are.journal ts 1 xs ys i x y are.sessions c.loop-place-test.true c.index-scripts-place.is c.index-transcript.ensures in
    let same : t ≡ there.0 = c.deref.ensures ∙ pointed served.translations.items x.key there.0 c.index-translation.result.now there.1 c.index-translation.ensures in
    let told = subst (λ (n : List ℕ). IsToldText c.args.purpose t.problem n y.floors (all_printed t y.floors y.replies) lines) c.text.ensures.value c.in_ok-lines.ensures.text in
    let text : IsTranscriptText c.args.purpose t x.name y lines = record { made = c.told_text.ensures.made; told = told; checkable = c.in_ok-lines.ensures.checkable } in
    let many = as_many c.requires.0 are.journal ts 1 xs ys are.sessions in
    let l : i < length ys = let m = c.loop-place-test.true in omega (arith, many, m) in
    let added : c.extend_from_slice.new.self.items ≡ old ++ lines = c.in_ok-extend_from_slice.ensures.items ∙ ap (λ (zs : List ℕ). old ++ zs) c.deref-in-loop-place.ensures.value in
    let joined = ap (λ (zs : List ℕ). length zs) added ∙ length-append old lines in
    record {
      texts = texts_more c.args.purpose ts xs ys i x y old c.extend_from_slice.new.self.items lines c.loop-place-test.true l c.index-scripts-place.is c.index-transcript.ensures added c.loop-place.invariant.texts
          (there.0, there.1, subst (λ (u : Translated). IsTranscriptText c.args.purpose u x.name y lines) same text);
      fits = omega (arith, joined, c.in_ok-fits_output.ensures.ok);
    }

pub returns-clause-texts : goal.returns-clause-texts
returns-clause-texts c =
    let served = c.args.served.now in
    let ts = translations_of served in
    let xs = c.args.scripts.now in
    let ys : List Transcript = served.transcripts.items in
    let are = c.requires.1 in
    let i = c.loop-place.place in
    let many = as_many c.requires.0 are.journal ts 1 xs ys are.sessions in
    let past = c.loop-place-test.false in
    let text = c.loop-place.text.items in
    subst (λ (zs : List SessionScript). AreTranscriptTexts c.args.purpose ts zs ys text) (take_all i xs past)
    (subst (λ (zs : List Transcript). AreTranscriptTexts c.args.purpose ts (take i xs) zs text) (take_all i ys (omega (arith, many, past))) c.loop-place.invariant.texts)
