use Rattle.std.proofs.Common.{◌++◌, ◌∷◌, [], map, subst, append_assoc}
use Rattle.alloy_syntax.specs.View.{declaration_view}
use Rattle.named_model.specs.Declarations.{parameter_names}
use Rattle.named_model.specs.Faults.{global, parameters, stated}
use Rattle.name_tables.specs.Repeats.Coded.{IsReading}
use Rattle.name_tables.proofs.repeated_names.stated.add_callee.Goals as goal

pub returns : goal.returns
returns c = λ cs before is.
    let first = c.in_ok-add_name.ensures global (λ ws. tt) cs before is in
    let both = c.in_ok-add_parameters.ensures cs (before ++ stated global (c.args.name.now ∷ [])) first in
    subst (λ xs. IsReading cs c.add_parameters.new.reading xs) (append_assoc before (stated global (c.args.name.now ∷ [])) (stated (parameters c.args.number) (parameter_names (map declaration_view c.args.declarations.now)))) both
