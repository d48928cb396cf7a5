use Rattle.std.proofs.Common.{sym, ap, subst, ◌∙◌, ◌++◌, ◌∷◌, [], refl, arith, if◌then◌else◌}
use Rattle.name_tables.specs.InForce.{in_force, AreTables, with_callee}
use Rattle.name_tables.proofs.WordsMet.{in_error, same_tables, same_names, callee_tables, callee_more}
use Rattle.name_tables.proofs.names.Names.declare_callee.Goals as goal

pub invariant_of-self-in_err-reserve : goal.invariant_of-self-in_err-reserve
invariant_of-self-in_err-reserve c =
    subst (λ xs. AreTables c.meet.new.self c.self.inside.signatures c.self.inside.fields c.self.inside.callees xs c.self.inside.assertions c.self.inside.locals) (sym c.in_err-reserve.ensures.items)
    (same_tables c.self.inside.words c.meet.new.self c.args.text.now c.in_ok-word.ensures.words c.self.inside.signatures c.self.inside.fields c.self.inside.callees c.self.inside.entries.items c.self.inside.assertions c.self.inside.locals c.self.invariant)

pub returns-in_err-reserve-clause-err : goal.returns-in_err-reserve-clause-err
returns-in_err-reserve-clause-err c =
    in_error c.from_residual-in_err-reserve.result
    (ap (λ xs. in_force c.meet.new.self c.self.inside.signatures c.self.inside.fields xs c.self.inside.assertions c.self.inside.locals) c.in_err-reserve.ensures.items
    ∙ same_names c.self.inside.words c.meet.new.self c.args.text.now c.in_ok-word.ensures.words c.self.inside.signatures c.self.inside.fields c.self.inside.callees c.self.inside.entries.items c.self.inside.assertions c.self.inside.locals c.self.invariant
    ∙ c.self.view_is)

pub invariant_of-self-in_err-push : goal.invariant_of-self-in_err-push
invariant_of-self-in_err-push c =
    subst (λ es. AreTables c.meet.new.self c.self.inside.signatures c.self.inside.fields c.push.new.self es c.self.inside.assertions c.self.inside.locals) (sym c.in_ok-reserve.ensures.items)
    (subst (λ xs. AreTables c.meet.new.self c.self.inside.signatures c.self.inside.fields xs c.self.inside.entries.items c.self.inside.assertions c.self.inside.locals) (sym c.in_err-push.ensures.err)
    (same_tables c.self.inside.words c.meet.new.self c.args.text.now c.in_ok-word.ensures.words c.self.inside.signatures c.self.inside.fields c.self.inside.callees c.self.inside.entries.items c.self.inside.assertions c.self.inside.locals c.self.invariant))

pub returns-in_err-push-clause-err : goal.returns-in_err-push-clause-err
returns-in_err-push-clause-err c =
    in_error c.from_residual-in_err-push.result
    (ap (λ xs. in_force c.meet.new.self c.self.inside.signatures c.self.inside.fields xs c.self.inside.assertions c.self.inside.locals) c.in_ok-reserve.ensures.items
    ∙ same_names c.self.inside.words c.meet.new.self c.args.text.now c.in_ok-word.ensures.words c.self.inside.signatures c.self.inside.fields c.self.inside.callees c.self.inside.entries.items c.self.inside.assertions c.self.inside.locals c.self.invariant
    ∙ c.self.view_is)

pub invariant_of-self-2 : goal.invariant_of-self-2
invariant_of-self-2 c =
    let entries_are = c.push-2.ensures.items ∙ ap (λ b. if b then c.reserve.new.self.items ++ record { word = c.in_ok-word.word; is_function = c.args.header.is_function; parameters = c.args.header.parameters } ∷ [] else c.reserve.new.self.items) (c.push-2.ensures.succeeds (omega (arith, c.in_ok-reserve.ensures.ok))) ∙ ap (λ es. es ++ record { word = c.in_ok-word.word; is_function = c.args.header.is_function; parameters = c.args.header.parameters } ∷ []) c.in_ok-reserve.ensures.items in
    subst (λ es. AreTables c.meet.new.self c.self.inside.signatures c.self.inside.fields c.push.new.self es c.self.inside.assertions c.self.inside.locals) (sym entries_are)
    (subst (λ xs. AreTables c.meet.new.self c.self.inside.signatures c.self.inside.fields xs (c.self.inside.entries.items ++ record { word = c.in_ok-word.word; is_function = c.args.header.is_function; parameters = c.args.header.parameters } ∷ []) c.self.inside.assertions c.self.inside.locals) (sym c.in_ok-push.ensures.ok)
    (callee_tables c.self.inside.words c.meet.new.self c.args.text.now c.in_ok-word.ensures.words c.self.inside.signatures c.self.inside.fields c.self.inside.callees c.self.inside.entries.items c.self.inside.assertions c.self.inside.locals c.self.invariant c.in_ok-word.word c.in_ok-word.ensures.number (record { word = c.in_ok-word.word; is_function = c.args.header.is_function; parameters = c.args.header.parameters }) refl))

pub returns-clause-ok : goal.returns-clause-ok
returns-clause-ok c =
    let entries_are = c.push-2.ensures.items ∙ ap (λ b. if b then c.reserve.new.self.items ++ record { word = c.in_ok-word.word; is_function = c.args.header.is_function; parameters = c.args.header.parameters } ∷ [] else c.reserve.new.self.items) (c.push-2.ensures.succeeds (omega (arith, c.in_ok-reserve.ensures.ok))) ∙ ap (λ es. es ++ record { word = c.in_ok-word.word; is_function = c.args.header.is_function; parameters = c.args.header.parameters } ∷ []) c.in_ok-reserve.ensures.items in
    ap (λ es. in_force c.meet.new.self c.self.inside.signatures c.self.inside.fields es c.self.inside.assertions c.self.inside.locals) entries_are
    ∙ callee_more c.self.inside.words c.meet.new.self c.args.text.now c.in_ok-word.ensures.words c.self.inside.signatures c.self.inside.fields c.self.inside.callees c.self.inside.entries.items c.self.inside.assertions c.self.inside.locals c.self.invariant c.in_ok-word.word c.in_ok-word.ensures.number (record { word = c.in_ok-word.word; is_function = c.args.header.is_function; parameters = c.args.header.parameters }) refl
    ∙ ap (λ n. with_callee n (record { name = c.args.text.now; is_function = c.args.header.is_function; parameters = c.args.header.parameters })) c.self.view_is
