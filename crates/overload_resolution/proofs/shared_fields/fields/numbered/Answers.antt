use Rattle.std.proofs.Common.{sym, ◌∙◌}
use Rattle.std.specs.String.{string_bytes}
use Rattle.std.proofs.lemmas.Slice.Eq.{bytes_eq-Decides}
use Rattle.overload_resolution.proofs.Fields.Naming.{stands}
use Rattle.overload_resolution.proofs.shared_fields.fields.numbered.Goals as goal

pub returns-clause-number : goal.returns-clause-number
returns-clause-number c =
    let at = c.in_ok-number.ensures.stored in
    (c.in_ok-number.ensures.within, stands c.insert_full.new.self.keys at.0 c.in_ok-number.number at.1 ∙ sym ((bytes_eq-Decides (string_bytes c.in_ok-name.name) (string_bytes at.0)).0 at.2) ∙ c.in_ok-name.ensures.ok)
