use Rattle.std.proofs.Common.{◌≡◌, ◌++◌, string_bytes}
use Rattle.std.specs.List.{flat_map}
use Rattle.bench_texts.specs.Texts.{spelled}
use Rattle.bench_texts.proofs.texts.add.Given as goal

abbrev pub invariant-loop-character : goal.invariant-loop-character
invariant-loop-character l =
    string_bytes l.text ≡ string_bytes l.fn.text ++ flat_map (λ c. spelled l.number c) l.yielded
