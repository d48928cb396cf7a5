use Rattle.std.proofs.Common.{ap, ◌∙◌, ◌++◌, ◌∷◌, []}
use Rattle.std.specs.List.{list_any}
use Rattle.overload_resolution.proofs.Fields.Unions.{one_more}
use Rattle.overload_resolution.proofs.shared_fields.tops.Tops.put.Goals as goal

pub returns : goal.returns
returns c = λ t.
    one_more c.self.inside.numbers.keys c.args.number c.insert_full.new.self.keys c.in_ok-insert_full.ensures.keys t
    ∙ ap (λ ns. list_any t (ns ++ c.args.number ∷ [])) c.self.view_is
