use Rattle.std.proofs.Common.{ℕ, List, map, sym, ap, subst, ◌∙◌}
use Rattle.std.specs.List.{slice_get}
use Rattle.overload_resolution.specs.Fields.Entries.{entry_view, entry_name}
use Rattle.overload_resolution.specs.Fields.Found.{the_found, found_by}
use Rattle.overload_resolution.specs.Fields.Seen.{is_under, IsNumberOf}
use Rattle.overload_resolution.specs.declared.shared_fields.fields.Row.{Row}
use Rattle.overload_resolution.proofs.Fields.Fitting.{chosen_is}
use Rattle.overload_resolution.proofs.shared_fields.fields.Fields.chosen.Goals as goal

pub returns : goal.returns
returns c = λ d ts same alike.
    let names = c.self.inside.names.keys in
    let rows = c.self.inside.rows.items in
    let name = c.name_of-name.result in
    chosen_is d c.args.tops.now ts c.args.place c.args.number names rows name c.only.result
    (same ∙ sym c.self.view_is) alike c.self.invariant.have_names.inside
    (subst (λ (rs : List Row). IsNumberOf names (entry_name (slice_get (map (entry_view names) rs) c.args.number)) name) c.as_slice.ensures.value c.name_of-name.ensures)
    (c.only.ensures ∙ ap (the_found c.args.place) (c.under.ensures rows c.self.invariant.are_seen ∙ ap (λ (ns : List ℕ). found_by (is_under name ns) 0 rows) c.as_slice-2.ensures))
