use Rattle.std.proofs.Common.{refl}
use Rattle.session_rules.proofs.laws.a_refuting_part_makes_a_proof.Goals as goal

pub returns : goal.returns
returns c t pool part blocked accepted searched ends = record {
  imported = refl;
  refutation = c.lifted_pool_and_log_are_accepted.ensures.refuted t.cnf.clauses part.local pool part.log accepted searched.accepted ends;
  novel = searched.novel;
}
