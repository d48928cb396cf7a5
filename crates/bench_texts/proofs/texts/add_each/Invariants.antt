use Rattle.std.proofs.Common.{◌≡◌, ◌≤◌, ◌++◌, string_bytes, max}
use Rattle.bench_texts.specs.Texts.{repeated}
use Rattle.bench_texts.proofs.texts.add_each.Given as goal

abbrev pub invariant-loop-number : goal.invariant-loop-number
invariant-loop-number l =
    (string_bytes l.text ≡ string_bytes l.fn.text ++ repeated l.number l.part) × (l.number ≤ max 1 l.count)
