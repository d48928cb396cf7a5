use Rattle.std.proofs.Common.{Some, None, false, if◌then◌else◌, slice_index_or, ap, ◌∙◌, sym}
use Rattle.named_model.specs.declared.fault.NameFault.TheVariants as fault
use Rattle.named_model.specs.Names.{callee_names, number_of}
use Rattle.sig_resolve.proofs.Commands.Runs.{one_to_run, none_to_run}
use Rattle.sig_resolve.proofs.command_names.predicates.Predicates.fault.Goals as goal

pub returns-in-Some : goal.returns-in-Some
returns-in-Some c = λ runs are.
    let names = callee_names c.args.self.now.names.globals in
    let n = c.args.name.now in
    let found = ap (number_of names) (sym c.text.ensures.value) ∙ sym c.callee.ensures ∙ c.in-Some.is in
    c.higher_fault.ensures
    ∙ ap (λ bs. if slice_index_or bs c.in-Some.number false then Some (fault.HigherOrder n.place) else None) c.deref.ensures.value
    ∙ one_to_run n.place n.text runs names are.names_are c.args.self.now.higher.items are.higher_are c.in-Some.number found

pub returns-in-None : goal.returns-in-None
returns-in-None c = λ runs are.
    let names = callee_names c.args.self.now.names.globals in
    let n = c.args.name.now in
    none_to_run n.place n.text runs names are.names_are (ap (number_of names) (sym c.text.ensures.value) ∙ sym c.callee.ensures ∙ c.in-None.is)
