use Rattle.std.proofs.Common.{sym, ap, ◌∙◌}
use Rattle.named_model.specs.Names.{number_of}
use Rattle.name_tables.proofs.Signatures.Lookups.{known, unknown}
use Rattle.name_tables.proofs.signature_names.signatures.signature.Goals as goal

pub returns-in-Some : goal.returns-in-Some
returns-in-Some c =
    known c.args.names.now.globals c.args.name.now c.in-Some.number (sym (c.signature.ensures ∙ ap (number_of c.args.names.now.globals.signatures) c.text.ensures.value) ∙ c.in-Some.is)

pub returns-in-None : goal.returns-in-None
returns-in-None c =
    unknown c.args.names.now.globals c.args.name.now (sym (c.signature.ensures ∙ ap (number_of c.args.names.now.globals.signatures) c.text.ensures.value) ∙ c.in-None.is)
