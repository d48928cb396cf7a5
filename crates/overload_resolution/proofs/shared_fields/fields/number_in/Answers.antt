use Rattle.std.proofs.Common.{ℕ, sym, subst}
use Rattle.overload_resolution.specs.Fields.Seen.{IsNumberOf}
use Rattle.overload_resolution.proofs.Fields.Naming.{found_number, no_number}
use Rattle.overload_resolution.proofs.shared_fields.fields.number_in.Goals as goal

pub returns-in-Some : goal.returns-in-Some
returns-in-Some c = found_number c.args.names.now.keys c.args.name.now c.in-Some.number c.requires (sym c.in-Some.ensures.index) c.in-Some.ensures.within

pub returns-in-None : goal.returns-in-None
returns-in-None c = subst (λ (n : ℕ). IsNumberOf c.args.names.now.keys c.args.name.now n) (sym c.len.ensures.len) (no_number c.args.names.now.keys c.args.name.now (sym c.in-None.ensures.found))
