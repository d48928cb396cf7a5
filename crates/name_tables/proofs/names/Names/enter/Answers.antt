use Rattle.std.proofs.Common.{sym, ap, subst, ◌∙◌, ◌∷◌}
use Rattle.name_tables.specs.InForce.{InForce, in_force, AreTables, with_locals}
use Rattle.name_tables.proofs.WordsMet.{in_error, same_tables, same_names, local_tables, local_more}
use Rattle.name_tables.proofs.names.Names.enter.Goals as goal

pub invariant_of-self-in_err-enter : goal.invariant_of-self-in_err-enter
invariant_of-self-in_err-enter c =
    subst (λ xs. AreTables c.meet.new.self c.self.inside.signatures c.self.inside.fields c.self.inside.callees c.self.inside.entries.items c.self.inside.assertions xs) (sym c.in_err-enter.ensures.err)
    (same_tables c.self.inside.words c.meet.new.self c.args.text.now c.in_ok-word.ensures.words c.self.inside.signatures c.self.inside.fields c.self.inside.callees c.self.inside.entries.items c.self.inside.assertions c.self.inside.locals c.self.invariant)

pub returns-in_err-enter-clause-err : goal.returns-in_err-enter-clause-err
returns-in_err-enter-clause-err c =
    in_error c.from_residual-in_err-enter.result
    (ap (λ xs. in_force c.meet.new.self c.self.inside.signatures c.self.inside.fields c.self.inside.entries.items c.self.inside.assertions xs) c.in_err-enter.ensures.err
    ∙ same_names c.self.inside.words c.meet.new.self c.args.text.now c.in_ok-word.ensures.words c.self.inside.signatures c.self.inside.fields c.self.inside.callees c.self.inside.entries.items c.self.inside.assertions c.self.inside.locals c.self.invariant
    ∙ c.self.view_is)

pub invariant_of-self-2 : goal.invariant_of-self-2
invariant_of-self-2 c =
    subst (λ xs. AreTables c.meet.new.self c.self.inside.signatures c.self.inside.fields c.self.inside.callees c.self.inside.entries.items c.self.inside.assertions xs) (sym c.in_ok-enter.ensures.ok)
    (local_tables c.self.inside.words c.meet.new.self c.args.text.now c.in_ok-word.ensures.words c.self.inside.signatures c.self.inside.fields c.self.inside.callees c.self.inside.entries.items c.self.inside.assertions c.self.inside.locals c.self.invariant c.in_ok-word.word c.in_ok-word.ensures.number)

pub returns-clause-ok : goal.returns-clause-ok
returns-clause-ok c =
    ap (λ xs. in_force c.meet.new.self c.self.inside.signatures c.self.inside.fields c.self.inside.entries.items c.self.inside.assertions xs) c.in_ok-enter.ensures.ok
    ∙ local_more c.self.inside.words c.meet.new.self c.args.text.now c.in_ok-word.ensures.words c.self.inside.signatures c.self.inside.fields c.self.inside.callees c.self.inside.entries.items c.self.inside.assertions c.self.inside.locals c.self.invariant c.in_ok-word.word c.in_ok-word.ensures.number
    ∙ ap (λ (n : InForce). with_locals n (c.args.text.now ∷ n.locals)) c.self.view_is
