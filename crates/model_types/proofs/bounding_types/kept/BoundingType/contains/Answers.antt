use Rattle.std.proofs.Common.{ℕ, sym, ap, ◌∙◌}
use Rattle.std.specs.Prelude.{Vec, bytes_eq}
use Rattle.std.specs.declared.alloc.Global.{Global}
use Rattle.model_types.specs.Bounding.{has}
use Rattle.model_types.proofs.Bounds.Sets.{any-map}
use Rattle.model_types.proofs.bounding_types.kept.BoundingType.contains.Goals as goal

pub returns : goal.returns
returns c =
    c.contains.ensures ∙ sym (any-map (bytes_eq c.args.list.now) (λ (v : Vec ℕ Global). v.items) c.self.inside.rows.keys)
    ∙ ap (λ ls. has ls c.args.list.now) c.self.view_is
