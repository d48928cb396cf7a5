use Rattle.std.proofs.Common.{◌≡◌, ◌<◌, ◌+◌, ◌∙◌, ◌++◌, ℕ, List, [], length, get_or, take, ap, sym, subst, codes, arith, append_assoc, below_more}
use Rattle.std.proofs.lemmas.List.{take_all, get_or_default}
use Rattle.rel_formula.specs.Instance.{AreCells}
use Rattle.session_rules.specs.declared.answers.Reply.{Reply}
use Rattle.session_rules.specs.declared.answers.Reply.TheVariants.{Back}
use Rattle.script_text.specs.Printed.{Printed, printed, all_printed}
use Rattle.script_text.specs.Replies.{NamesCellsOf, PrintsRightProof, PrintsCheckableProof}
use Rattle.script_text.proofs.Zips.{zip_long, zip_at, zip_from}
use Rattle.explorer_cli.specs.Classes.{IsClassedReply, AreClassedReplies}
use Rattle.explorer_cli.proofs.ClassedReplies.{replies_more}
use Rattle.explorer_cli.proofs.classed_sessions.text_at.Goals as goal

pub bounds-floors-place : goal.bounds-floors-place
bounds-floors-place c =
    let same = zip_long (PrintsRightProof c.args.translation.now) c.args.floors.now c.args.replies.now c.requires.proofs in
    let l = c.loop-place-test.true in
    omega arith

pub push_told-requires-clause-floor : goal.push_told-requires-clause-floor
push_told-requires-clause-floor c =
    let p = c.args.translation.now.problem in
    let i = c.loop-place.place in
    let f : List ℕ = c.index-floors-place.result in
    let same = zip_long (PrintsRightProof c.args.translation.now) c.args.floors.now c.args.replies.now c.requires.proofs in
    let in' : i < length c.args.floors.now = let l = c.loop-place-test.true in omega arith in
    subst (AreCells p) (sym c.index-floors-place.is) (c.requires.floors i f in')

pub push_told-requires-clause-cells : goal.push_told-requires-clause-cells
push_told-requires-clause-cells c =
    let p = c.args.translation.now.problem in
    let r : Reply = c.index-replies-place.result in
    subst (NamesCellsOf p) (sym c.index-replies-place.is) (c.requires.cells c.loop-place.place r c.loop-place-test.true)

pub push_told-requires-clause-proof : goal.push_told-requires-clause-proof
push_told-requires-clause-proof c =
    let t = c.args.translation.now in
    let i = c.loop-place.place in
    let f : List ℕ = c.index-floors-place.result in
    let r : Reply = c.index-replies-place.result in
    let same = zip_long (PrintsRightProof t) c.args.floors.now c.args.replies.now c.requires.proofs in
    let in' : i < length c.args.floors.now = let l = c.loop-place-test.true in omega arith in
    subst (λ (x : List ℕ). PrintsRightProof t x r) (sym c.index-floors-place.is)
    (subst (PrintsRightProof t (get_or c.args.floors.now i f)) (sym c.index-replies-place.is) (zip_at (PrintsRightProof t) c.args.floors.now c.args.replies.now i f r c.requires.proofs in'))

pub loop-place-preserved : goal.loop-place-preserved
loop-place-preserved c =
    let t = c.args.translation.now in
    let p = t.problem in
    let floors = c.args.floors.now in
    let xs = c.args.replies.now in
    let i = c.loop-place.place in
    let f : List ℕ = c.index-floors-place.result in
    let x : Reply = c.index-replies-place.result in
    let same = zip_long (PrintsRightProof t) floors xs c.requires.proofs in
    let at : i < length xs = c.loop-place-test.true in
    let in' : i < length floors = omega arith in
    let before = c.loop-place.invariant.text in
    let added = c.in_ok-push_told.ensures.lines in
    let here : IsClassedReply p (get_or floors i f) (printed t (get_or floors i f) x) added.0 = subst (λ (y : List ℕ). IsClassedReply p y (printed t y x) added.0) c.index-floors-place.is added.1 in
    let checked : PrintsCheckableProof t (get_or floors i f) (get_or xs i x) =
    subst (PrintsCheckableProof t (get_or floors i f)) c.index-replies-place.is (subst (λ (y : List ℕ). PrintsCheckableProof t y x) c.index-floors-place.is c.in_ok-push_told.ensures.checkable) in
    record {
      text = (
        before.0 ++ added.0,
        replies_more p t floors xs i f x before.0 added.0 in' at c.index-replies-place.is before.1 here,
        added.2 ∙ ap (λ b. b ++ added.0) before.2 ∙ append_assoc (codes "== " ++ c.args.name.now ++ codes "\n") before.0 added.0,
      );
      checkable = λ k floor reply l.
          below_more (λ (k : ℕ). (floor : List ℕ) (reply : Reply) → PrintsCheckableProof t (get_or floors k floor) (get_or xs k reply)) i
          (λ k h floor reply. c.loop-place.invariant.checkable k floor reply h)
          (λ floor reply. subst (λ (y : List ℕ). PrintsCheckableProof t y (get_or xs i reply)) (get_or_default floors i f floor in') (subst (PrintsCheckableProof t (get_or floors i f)) (get_or_default xs i x reply at) checked))
          k l floor reply;
    }

pub returns : goal.returns
returns c =
    let t = c.args.translation.now in
    let p = t.problem in
    let floors = c.args.floors.now in
    let xs = c.args.replies.now in
    let i = c.loop-place.place in
    let same = zip_long (PrintsRightProof t) floors xs c.requires.proofs in
    let past = c.loop-place-test.false in
    let all = c.loop-place.invariant.text in
    let all_floors : take i floors ≡ floors = take_all i floors (omega arith) in
    let whole : all_printed t floors (take i xs) ≡ all_printed t floors xs = ap (all_printed t floors) (take_all i xs past) in
    let told : AreClassedReplies p floors (all_printed t floors (take i xs)) all.0 = subst (λ (fs : List (List ℕ)). AreClassedReplies p fs (all_printed t fs (take i xs)) all.0) all_floors all.1 in
    record {
      text = (all.0, subst (λ (zs : List Printed). AreClassedReplies p floors zs all.0) whole told, all.2);
      checkable = zip_from (PrintsCheckableProof t) floors xs [] Back same (λ k l. c.loop-place.invariant.checkable k [] Back (omega arith));
    }
