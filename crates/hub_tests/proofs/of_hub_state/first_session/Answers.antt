use Rattle.std.proofs.Common.{◌≡◌, ◌+◌, ℕ, List, [], ◌∷◌, length, take, sym, ◌∙◌, ap, subst, All}
use Rattle.std.proofs.lemmas.List.Elements.{All-nil}
use Rattle.cnf_core.specs.Formula.{Formula}
use Rattle.translation_rules.specs.Translation.{Translated}
use Rattle.translation.specs.Kept.{IsTranslation}
use Rattle.session_words.specs.declared.steps.Step.TheVariants.{Next}
use Rattle.session_rules.specs.ProofOfEnd.{ProofOfEnd}
use Rattle.session_rules.specs.declared.answers.Reply.TheVariants.{Shown, End}
use Rattle.hub_state.specs.Journal.Noted.{Noted, Shared}
use Rattle.hub_state.specs.Journal.Journal.{Opens, Records}
use Rattle.hub_state.specs.HubView.{HubView, IsPublishing, moved}
use Rattle.hub_tests.proofs.Ended.{with_log, end_of, may_open, may_show, may_end}
use Rattle.hub_tests.proofs.Sessions.{after_import, after_showing, after_ending, published_there, goes_on, last_problems, last_own, last_published}
use Rattle.hub_tests.proofs.of_hub_state.first_session.Goals as goal

pub record-requires : goal.record-requires
record-requires c = subst (λ (h : HubView). Opens h.problems h.journal 1 0) (sym c.requires.hub) (may_open 1 [] (All-nil (λ (x : Noted). x.by ≡ 1 → ⊥)))

pub record-requires-2 : goal.record-requires-2
record-requires-2 c =
    let t = c.args.t.now.value in
    let entry = subst (λ (u : Translated). IsPublishing c.record.new.self 1 0 u c.publish.new.self c.in_ok-publish.field-0.value) c.in_ok-try_clone.ensures c.in_ok-publish.ensures.entry in
    let third = after_import c.args.hub.now c.record.new.self c.publish.new.self c.import.new.self t c.in_ok-publish.field-0.value c.requires.hub c.in_ok-record.ensures.ok entry c.in_ok-import.ensures.entry in
    subst (λ (s : List ℕ). Records c.import.new.self.problems c.import.new.self.journal 1 Next (Shown 1 s)) (sym c.new.ensures)
    (subst (λ (h : HubView). Records h.problems h.journal 1 Next (Shown 1 [])) (sym third) (may_show t))

pub record-requires-3 : goal.record-requires-3
record-requires-3 c =
    let t = c.args.t.now.value in
    let entry = subst (λ (u : Translated). IsPublishing c.record.new.self 1 0 u c.publish.new.self c.in_ok-publish.field-0.value) c.in_ok-try_clone.ensures c.in_ok-publish.ensures.entry in
    let third = after_import c.args.hub.now c.record.new.self c.publish.new.self c.import.new.self t c.in_ok-publish.field-0.value c.requires.hub c.in_ok-record.ensures.ok entry c.in_ok-import.ensures.entry in
    let fourth = after_showing c.import.new.self c.record-2.new.self t c.new.result c.new.ensures third c.in_ok-record-2.ensures.ok in
    let clauses = c.cnf.ensures ∙ ap (λ (u : Translated). u.cnf) c.deref-2.ensures in
    let proof = c.in_ok-end_proof.ensures ∙ ap (λ (f : Formula). with_log (length f.clauses + 1)) clauses in
    let is = subst IsTranslation c.deref.ensures c.problem.ensures.well in
    subst (λ (p : ProofOfEnd). Records c.record-2.new.self.problems c.record-2.new.self.journal 1 Next (End 1 p)) (sym proof)
    (subst (λ (h : HubView). Records h.problems h.journal 1 Next (End 1 (end_of t))) (sym fourth) (may_end t is c.requires.translation))

pub share-requires : goal.share-requires
share-requires c =
    let t = c.args.t.now.value in
    let entry = subst (λ (u : Translated). IsPublishing c.record.new.self 1 0 u c.publish.new.self c.in_ok-publish.field-0.value) c.in_ok-try_clone.ensures c.in_ok-publish.ensures.entry in
    let third = after_import c.args.hub.now c.record.new.self c.publish.new.self c.import.new.self t c.in_ok-publish.field-0.value c.requires.hub c.in_ok-record.ensures.ok entry c.in_ok-import.ensures.entry in
    let fourth = after_showing c.import.new.self c.record-2.new.self t c.new.result c.new.ensures third c.in_ok-record-2.ensures.ok in
    let clauses = c.cnf.ensures ∙ ap (λ (u : Translated). u.cnf) c.deref-2.ensures in
    let proof = c.in_ok-end_proof.ensures ∙ ap (λ (f : Formula). with_log (length f.clauses + 1)) clauses in
    let fifth = after_ending c.record-2.new.self c.record-3.new.self t c.in_ok-end_proof.field-0 proof fourth c.in_ok-record-3.ensures.ok in
    let same = ap (λ (f : Formula). f.clauses) c.cnf-2.ensures ∙ ap (λ (u : Translated). u.cnf.clauses) c.deref-3.ensures in
    goes_on c.record-3.new.self.journal 0 t c.in_ok-free.free c.cnf-2.result.now.clauses (published_there c.record-3.new.self t fifth) same c.in_ok-free.ensures

pub returns-clause-problems : goal.returns-clause-problems
returns-clause-problems c =
    let t = c.args.t.now.value in
    let entry = subst (λ (u : Translated). IsPublishing c.record.new.self 1 0 u c.publish.new.self c.in_ok-publish.field-0.value) c.in_ok-try_clone.ensures c.in_ok-publish.ensures.entry in
    let third = after_import c.args.hub.now c.record.new.self c.publish.new.self c.import.new.self t c.in_ok-publish.field-0.value c.requires.hub c.in_ok-record.ensures.ok entry c.in_ok-import.ensures.entry in
    let fourth = after_showing c.import.new.self c.record-2.new.self t c.new.result c.new.ensures third c.in_ok-record-2.ensures.ok in
    let clauses = c.cnf.ensures ∙ ap (λ (u : Translated). u.cnf) c.deref-2.ensures in
    let proof = c.in_ok-end_proof.ensures ∙ ap (λ (f : Formula). with_log (length f.clauses + 1)) clauses in
    let fifth = after_ending c.record-2.new.self c.record-3.new.self t c.in_ok-end_proof.field-0 proof fourth c.in_ok-record-3.ensures.ok in
    last_problems c.record-3.new.self c.share.new.self t (Shared 0 (take c.in_ok-share.field-0 (moved c.record-3.new.self.journal 0 t 0 c.in_ok-free.free))) fifth (c.in_ok-share.ensures.entry t (published_there c.record-3.new.self t fifth))

pub returns-clause-own : goal.returns-clause-own
returns-clause-own c =
    let t = c.args.t.now.value in
    let entry = subst (λ (u : Translated). IsPublishing c.record.new.self 1 0 u c.publish.new.self c.in_ok-publish.field-0.value) c.in_ok-try_clone.ensures c.in_ok-publish.ensures.entry in
    let third = after_import c.args.hub.now c.record.new.self c.publish.new.self c.import.new.self t c.in_ok-publish.field-0.value c.requires.hub c.in_ok-record.ensures.ok entry c.in_ok-import.ensures.entry in
    let fourth = after_showing c.import.new.self c.record-2.new.self t c.new.result c.new.ensures third c.in_ok-record-2.ensures.ok in
    let clauses = c.cnf.ensures ∙ ap (λ (u : Translated). u.cnf) c.deref-2.ensures in
    let proof = c.in_ok-end_proof.ensures ∙ ap (λ (f : Formula). with_log (length f.clauses + 1)) clauses in
    let fifth = after_ending c.record-2.new.self c.record-3.new.self t c.in_ok-end_proof.field-0 proof fourth c.in_ok-record-3.ensures.ok in
    last_own c.record-3.new.self c.share.new.self t (Shared 0 (take c.in_ok-share.field-0 (moved c.record-3.new.self.journal 0 t 0 c.in_ok-free.free))) fifth (c.in_ok-share.ensures.entry t (published_there c.record-3.new.self t fifth))

pub returns-clause-published : goal.returns-clause-published
returns-clause-published c =
    let t = c.args.t.now.value in
    let entry = subst (λ (u : Translated). IsPublishing c.record.new.self 1 0 u c.publish.new.self c.in_ok-publish.field-0.value) c.in_ok-try_clone.ensures c.in_ok-publish.ensures.entry in
    let third = after_import c.args.hub.now c.record.new.self c.publish.new.self c.import.new.self t c.in_ok-publish.field-0.value c.requires.hub c.in_ok-record.ensures.ok entry c.in_ok-import.ensures.entry in
    let fourth = after_showing c.import.new.self c.record-2.new.self t c.new.result c.new.ensures third c.in_ok-record-2.ensures.ok in
    let clauses = c.cnf.ensures ∙ ap (λ (u : Translated). u.cnf) c.deref-2.ensures in
    let proof = c.in_ok-end_proof.ensures ∙ ap (λ (f : Formula). with_log (length f.clauses + 1)) clauses in
    let fifth = after_ending c.record-2.new.self c.record-3.new.self t c.in_ok-end_proof.field-0 proof fourth c.in_ok-record-3.ensures.ok in
    last_published c.record-3.new.self c.share.new.self t (Shared 0 (take c.in_ok-share.field-0 (moved c.record-3.new.self.journal 0 t 0 c.in_ok-free.free))) fifth (c.in_ok-share.ensures.entry t (published_there c.record-3.new.self t fifth))
