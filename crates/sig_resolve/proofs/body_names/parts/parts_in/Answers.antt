use Rattle.std.proofs.Common.{◌≡◌, length, ap, ◌∙◌, sym, arith}
use Rattle.alloy_syntax.specs.View.{step_view}
use Rattle.sig_resolve.specs.Bodies.Each.{parts_in}
use Rattle.sig_resolve.proofs.Bodies.Steps.{brackets_counted}
use Rattle.sig_resolve.proofs.body_names.parts.parts_in.Goals as goal

pub returns-in-Brackets : goal.returns-in-Brackets
returns-in-Brackets c =
    let count : c.len.result ≡ length c.in-Brackets.parts.items = omega (arith, c.len.ensures) in
    count ∙ sym (ap (λ s. parts_in (step_view s)) c.in-Brackets.is ∙ brackets_counted c.in-Brackets.field-0 c.in-Brackets.parts)
