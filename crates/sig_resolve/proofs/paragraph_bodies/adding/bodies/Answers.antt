use Rattle.std.proofs.Common.{◌≡◌, [], ap, ◌∙◌, subst}
use Rattle.std.proofs.lemmas.Result.{err_from_is_err_and}
use Rattle.alloy_syntax.specs.View.{paragraph_view}
use Rattle.named_model.specs.Faults.{body_faults}
use Rattle.name_tables.specs.InForce.{InForce}
use Rattle.name_tables.specs.Told.{IsTold}
use Rattle.sig_resolve.specs.Paragraphs.Bodies.{IsLonger}
use Rattle.sig_resolve.proofs.Paragraphs.ParagraphLoops.{so_far_more, so_far_fault, so_far_all}
use Rattle.sig_resolve.proofs.paragraph_bodies.adding.bodies.Goals as goal

pub loop-paragraph-preserved : goal.loop-paragraph-preserved
loop-paragraph-preserved c =
    let n : InForce = c.args.names.now in
    let x = c.paragraph-item.result in
    let same = c.loop-paragraph.invariant.same in
    let one = subst (λ (m : InForce). (body_faults m.globals (paragraph_view x) ≡ []) × IsLonger m.globals (paragraph_view x) c.loop-paragraph.all c.add.new.all) same c.in_ok-add.ensures.value in
    record {
      same = c.in_ok-add.ensures.names ∙ same;
      said = so_far_more n.globals c.args.paragraphs.now c.loop-paragraph.paragraph-index c.loop-paragraph.all c.loop-paragraph.invariant.said x c.add.new.all c.loop-paragraph-test.true c.paragraph-item.is one.0 one.1;
    }

pub returns-in_err-add-clause-value : goal.returns-in_err-add-clause-value
returns-in_err-add-clause-value c =
    let n : InForce = c.args.names.now in
    let p = err_from_is_err_and c.from_residual.result c.from_residual.ensures.1 in
    let told = subst (λ (m : InForce). IsTold c.in_err-add.field-0.0 (body_faults m.globals (paragraph_view c.paragraph-item.result))) c.loop-paragraph.invariant.same c.in_err-add.ensures.value in
    rw (p.1, p.2) (so_far_fault n.globals c.args.paragraphs.now c.loop-paragraph.paragraph-index c.loop-paragraph.all c.loop-paragraph.invariant.said c.paragraph-item.result c.in_err-add.field-0.0 c.loop-paragraph-test.true c.paragraph-item.is told)

pub returns-clause-value : goal.returns-clause-value
returns-clause-value c =
    let n : InForce = c.args.names.now in
    so_far_all n.globals c.args.paragraphs.now c.loop-paragraph.paragraph-index c.loop-paragraph.all c.loop-paragraph.invariant.said c.loop-paragraph-test.false

pub add-requires : goal.add-requires
add-requires c = record { global = ap (λ (m : InForce). m.locals) c.loop-paragraph.invariant.same ∙ c.requires.global }
