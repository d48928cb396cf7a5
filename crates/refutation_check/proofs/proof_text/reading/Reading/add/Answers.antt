use Rattle.std.proofs.Common.{◌≡◌, refl}
use Rattle.refutation_check.specs.ProofText.{words_in}
use Rattle.refutation_check.specs.Progress.{progress_of}
use Rattle.refutation_check.specs.declared.proof_text.line.Form.TheVariants as forms
use Rattle.refutation_check.proofs.ReadProgress.{form_is, clause_from_one, step_from_one, clause_line, step_line, clause_fault, step_fault, on_ok, if_err}
use Rattle.refutation_check.proofs.proof_text.reading.Reading.add.Goals as goal

pub add_clause-requires : goal.add_clause-requires
add_clause-requires c =
    clause_from_one (words_in c.args.text.now) c.form_of.new.lits.items c.form_of.new.numbers.items
    (form_is (words_in c.args.text.now) c.in_ok-form_of.field-0 forms.Clause c.form_of.new.lits.items c.form_of.new.numbers.items c.in_ok-form_of.ensures c.in-Clause.is)

pub add_step-requires-clause-lits : goal.add_step-requires-clause-lits
add_step-requires-clause-lits c =
    step_from_one (words_in c.args.text.now) c.form_of.new.lits.items c.form_of.new.numbers.items
    (form_is (words_in c.args.text.now) c.in_ok-form_of.field-0 forms.Step c.form_of.new.lits.items c.form_of.new.numbers.items c.in_ok-form_of.ensures c.in-Step.is)

pub returns-in-Clause-clause-line : goal.returns-in-Clause-clause-line
returns-in-Clause-clause-line c =
    let form = form_is (words_in c.args.text.now) c.in_ok-form_of.field-0 forms.Clause c.form_of.new.lits.items c.form_of.new.numbers.items c.in_ok-form_of.ensures c.in-Clause.is in
    on_ok c.add_clause.result (clause_line (words_in c.args.text.now) c.form_of.new.lits.items c.form_of.new.numbers.items (progress_of c.args.self.now) (progress_of c.add_clause.new.self) form) c.add_clause.ensures.clause

pub returns-in-Clause-clause-fault : goal.returns-in-Clause-clause-fault
returns-in-Clause-clause-fault c =
    let form = form_is (words_in c.args.text.now) c.in_ok-form_of.field-0 forms.Clause c.form_of.new.lits.items c.form_of.new.numbers.items c.in_ok-form_of.ensures c.in-Clause.is in
    if_err c.add_clause.result (λ fault. clause_fault (words_in c.args.text.now) c.form_of.new.lits.items c.form_of.new.numbers.items c.args.self.now.log c.args.line fault form) c.add_clause.ensures.fault

pub returns-in-Step-clause-line : goal.returns-in-Step-clause-line
returns-in-Step-clause-line c =
    let form = form_is (words_in c.args.text.now) c.in_ok-form_of.field-0 forms.Step c.form_of.new.lits.items c.form_of.new.numbers.items c.in_ok-form_of.ensures c.in-Step.is in
    on_ok c.add_step.result (step_line (words_in c.args.text.now) c.form_of.new.lits.items c.form_of.new.numbers.items (progress_of c.args.self.now) (progress_of c.add_step.new.self) form) c.add_step.ensures.step

pub returns-in-Step-clause-fault : goal.returns-in-Step-clause-fault
returns-in-Step-clause-fault c =
    let form = form_is (words_in c.args.text.now) c.in_ok-form_of.field-0 forms.Step c.form_of.new.lits.items c.form_of.new.numbers.items c.in_ok-form_of.ensures c.in-Step.is in
    if_err c.add_step.result (λ fault. step_fault (words_in c.args.text.now) c.form_of.new.lits.items c.form_of.new.numbers.items c.args.self.now.log c.args.line fault form) c.add_step.ensures.fault
