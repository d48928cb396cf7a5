use Rattle.served_models.proofs.Refusals.{one_problem, one_list, one_first_refused, usable_or_first_refused}
use Rattle.served_models.proofs.laws.models_are_used_one_way.Goals as goal

pub returns : goal.returns
returns c =
    let refused = c.problems_are_not_refused.ensures in
    let fault = c.refusals_are_one.ensures in
    let text = c.a_text_is_one_thing.ensures in
    let one = c.problems_are_one.ensures in
    record {
      problem = one_problem one;
      models = λ purpose sessions entries. one_list refused fault text.model text.fault text.faulty one purpose sessions 0 entries;
      refused = λ purpose sessions entries name words others more. one_first_refused refused fault text.model text.fault text.faulty one purpose sessions entries name others words more;
      either = λ purpose sessions entries. usable_or_first_refused refused fault text.model text.fault text.faulty one purpose sessions entries;
    }
