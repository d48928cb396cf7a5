use Rattle.std.proofs.Common.{◌≡◌, ◌<◌, ◌+◌, ◌-◌, Bor, List, ℕ, [], ◌∷◌, length, drop, take, arith, refl, sym, ap, ◌∙◌}
use Rattle.std.specs.List.{prefix_len}
use Rattle.std.specs.Str.Lines.{lines, strip_carriage_return}
use Rattle.refutation_check.specs.Scanned.{is_in_line}
use Rattle.refutation_check.proofs.TextLines.{first_line, last_line, if_some, rest_is}
use Rattle.refutation_check.proofs.proof_text.reading.next_line.Goals as goal

pub returns-then-len-bytes-clause-line : goal.returns-then-len-bytes-clause-line
returns-then-len-bytes-clause-line c =
    let bytes = c.args.bytes.now in
    let whole : prefix_len is_in_line bytes ≡ length bytes = omega (arith, c.line_len-len.ensures.value, c.if-len-bytes.true) in
    if_some c.last_line.result (λ found x. last_line bytes whole x.2 ∙ ap (λ b. b ∷ []) (sym x.0) ∙ ap (λ r. found.0.now ∷ lines r) (sym x.1)) c.last_line.ensures.line

pub returns-clause-line : goal.returns-clause-line
returns-clause-line c =
    let bytes = c.args.bytes.now in
    let n = c.line_len-len.result in
    let value = c.line_len-len.ensures.value in
    let less : prefix_len is_in_line bytes < length bytes = omega (arith, value, c.line_len-len.ensures.within, c.if-len-bytes.false) in
    first_line bytes less
    ∙ ap (λ k. strip_carriage_return (take k bytes) ∷ lines (drop (k + 1) bytes)) (sym value)
    ∙ ap (λ r. strip_carriage_return (take n bytes) ∷ lines r) (sym (rest_is bytes (n + 1)))
    ∙ ap (λ x. x ∷ lines (take (length bytes - (n + 1)) (drop (n + 1) bytes))) (sym c.without_return.ensures)
