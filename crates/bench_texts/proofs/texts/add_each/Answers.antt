use Rattle.std.proofs.Common.{◌≡◌, ◌≤◌, ◌+◌, ◌++◌, ◌-◌, string_bytes, ap, ◌∙◌, arith, max}
use Rattle.std.specs.List.{flat_map, range_with_len}
use Rattle.bench_texts.specs.Texts.{filled}
use Rattle.bench_texts.proofs.Repeats.{repeated_more}
use Rattle.bench_texts.proofs.texts.add_each.Goals as goal

pub loop-number-preserved : goal.loop-number-preserved
loop-number-preserved c =
    let within : c.loop-number.number + 1 ≤ max 1 c.args.count = omega (arith, c.loop-number-test.true) in (
      c.in_ok-add.ensures ∙ ap (λ text. text ++ filled c.loop-number.number c.args.part.now) c.loop-number.invariant.0
          ∙ repeated_more (string_bytes c.args.text.now) c.args.part.now c.loop-number.number (omega (arith, c.loop-number.auto.number)),
      within,
    )

pub returns : goal.returns
returns c =
    let end : c.loop-number.number - 1 ≡ c.args.count - 1 = omega (arith, c.loop-number.auto.number, c.loop-number.invariant.1, c.loop-number-test.false) in
    c.loop-number.invariant.0 ∙ ap (λ k. string_bytes c.args.text.now ++ flat_map (λ n. filled n c.args.part.now) (range_with_len 1 k)) end
