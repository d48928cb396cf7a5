use Rattle.std.proofs.Common.{List, ℕ, sym, subst}
use Rattle.overload_resolution.specs.Fields.Seen.{IsNumberOf}
use Rattle.overload_resolution.proofs.Fields.Naming.{own_number, row_name, no_row, row_inside}
use Rattle.overload_resolution.proofs.shared_fields.fields.name_of.Goals as goal

pub returns-in-Some : goal.returns-in-Some
returns-in-Some c =
    let names = c.args.names.now.keys in
    let row = c.in-Some.row.now in
    let at = c.in-Some.ensures.lookup in
    subst (λ (text : List ℕ). IsNumberOf names text row.key.name) (sym (row_name names c.args.rows.now c.args.number row at.3.0 at.1))
    (own_number names c.requires.once row.key.name (row_inside _ c.args.rows.now c.args.number row c.requires.inside at.3.0 at.1))

pub returns-in-None : goal.returns-in-None
returns-in-None c =
    let names = c.args.names.now.keys in
    subst (λ (text : List ℕ). IsNumberOf names text c.number_in.result) (sym (no_row names c.args.rows.now c.args.number c.in-None.ensures.lookup.3)) c.number_in.ensures
