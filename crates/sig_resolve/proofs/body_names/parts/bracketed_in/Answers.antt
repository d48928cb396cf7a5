use Rattle.std.proofs.Common.{ap, ◌∙◌, sym}
use Rattle.std.specs.Option.{option_copied}
use Rattle.sig_resolve.proofs.Bodies.Steps.{bracketed_some, bracketed_none}
use Rattle.sig_resolve.proofs.body_names.parts.bracketed_in.Goals as goal

pub returns-in-Some : goal.returns-in-Some
returns-in-Some c =
    c.parts_in.ensures ∙ bracketed_some c.args.steps.now c.in-Some.step.now (sym (ap option_copied c.in-Some.is) ∙ c.first.ensures.value)

pub returns-in-None : goal.returns-in-None
returns-in-None c = bracketed_none c.args.steps.now (sym (ap option_copied c.in-None.is) ∙ c.first.ensures.value)
