use Rattle.std.proofs.Common.{◌≡◌, List, ◌++◌, ◌∷◌, [], length, ap, ◌∙◌, if◌then◌else◌, arith}
use Rattle.overload_resolution.specs.declared.shared_fields.fields.Row.{Row}
use Rattle.overload_resolution.specs.Fields.Entries.{Entry}
use Rattle.overload_resolution.proofs.Fields.Naming.{grown_rows}
use Rattle.overload_resolution.proofs.Fields.Keeping.{in_error, kept_put, pushed_view}
use Rattle.overload_resolution.proofs.shared_fields.fields.Fields.push.Goals as goal

pub returns-in_err-put-clause-err : goal.returns-in_err-put-clause-err
returns-in_err-put-clause-err c =
    in_error c.from_residual-in_err-put.result
    (grown_rows c.self.inside.names.keys c.numbered.new.names.keys c.self.inside.rows.items c.reserve.new.self.items c.self.invariant.have_names.inside c.in_ok-name.ensures.grown c.in_ok-reserve.ensures.items ∙ c.self.view_is)

pub invariant_of-self-2 : goal.invariant_of-self-2
invariant_of-self-2 c =
    let row : Row = record { key = record { name = c.in_ok-name.name; top = c.args.top }; arity = c.args.arity } in
    let rows_are : c.push-pushed.new.self.items ≡ c.self.inside.rows.items ++ row ∷ [] =
    c.push-pushed.ensures.items
    ∙ ap (λ b. if b then c.reserve.new.self.items ++ row ∷ [] else c.reserve.new.self.items) (c.push-pushed.ensures.succeeds (omega (arith, c.in_ok-reserve.ensures.ok)))
    ∙ ap (λ (rs : List Row). rs ++ row ∷ []) c.in_ok-reserve.ensures.items in
    kept_put c.self.inside.names.keys c.numbered.new.names.keys c.self.inside.rows.items c.push-pushed.new.self.items row c.len.result c.self.inside.seen.entries c.put.new.seen.entries
    c.self.invariant c.in_ok-name.ensures.grown c.in_ok-name.ensures.once c.in_ok-name.ensures.number.0 (c.len.ensures ∙ c.reserve.new.self.ok.0 ∙ ap length c.in_ok-reserve.ensures.items) rows_are c.in_ok-put.ensures.ok

pub returns-clause-ok : goal.returns-clause-ok
returns-clause-ok c =
    let row : Row = record { key = record { name = c.in_ok-name.name; top = c.args.top }; arity = c.args.arity } in
    let rows_are : c.push-pushed.new.self.items ≡ c.self.inside.rows.items ++ row ∷ [] =
    c.push-pushed.ensures.items
    ∙ ap (λ b. if b then c.reserve.new.self.items ++ row ∷ [] else c.reserve.new.self.items) (c.push-pushed.ensures.succeeds (omega (arith, c.in_ok-reserve.ensures.ok)))
    ∙ ap (λ (rs : List Row). rs ++ row ∷ []) c.in_ok-reserve.ensures.items in
    pushed_view c.self.inside.names.keys c.numbered.new.names.keys c.self.inside.rows.items c.push-pushed.new.self.items row c.args.name.now
    c.self.invariant.have_names.inside c.in_ok-name.ensures.grown rows_are c.in_ok-name.ensures.number.1
    ∙ ap (λ (es : List Entry). es ++ record { name = c.args.name.now; top = c.args.top; arity = c.args.arity } ∷ []) c.self.view_is
