use Rattle.std.proofs.Common.{inr, refl, subst}
use Rattle.rel_formula.specs.Bounds.{Bounded}
use Rattle.session_rules.specs.States.{top_floor, shown_here}
use Rattle.session_rules.specs.Proofs.{IsCovered}
use Rattle.session_rules.proofs.laws.evidence_makes_an_answer.Goals as goal

pub returns-clause-end : goal.returns-clause-end
returns-clause-end c p t stands s sound not_ended pool proof shown =
    let covered : IsCovered p (top_floor s) (shown_here s) proof.blocked = subst (λ (q : Bounded). IsCovered q (top_floor s) (shown_here s) proof.blocked) stands.problem shown.covered in (
      refl,
      inr (record {
        not_ended = not_ended;
        all_shown = c.a_proof_of_an_end_is_right.ensures p t stands (top_floor s) (shown_here s) (sound.due (top_floor s)) proof shown.proves covered;
      }),
    )

pub returns-clause-no_instance : goal.returns-clause-no_instance
returns-clause-no_instance c p t stands s name names floor asked room pool proof shown =
    record { floor = floor; asked = asked; room = room; impossible = c.a_proof_of_no_instance_is_right.ensures p t stands floor proof shown.proves }
