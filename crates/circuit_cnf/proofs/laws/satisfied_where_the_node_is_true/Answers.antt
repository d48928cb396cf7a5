use Rattle.circuit_cnf.proofs.Answering.{can_be_satisfied, is_satisfied}
use Rattle.circuit_cnf.proofs.laws.satisfied_where_the_node_is_true.Goals as goal

pub returns : goal.returns
returns c = λ network node f ordered there form inputs.
    ((λ (v, has, satisfied). is_satisfied network ordered node there f form inputs v has satisfied), can_be_satisfied network ordered node there f form inputs)
