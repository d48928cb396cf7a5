use Rattle.std.proofs.Common.{ℕ, ◌<◌, ◌≡◌, length, ap, arith, inl, inr, refl, subst, List}
use Rattle.std.specs.Prelude.{Contains}
use Rattle.std.proofs.lemmas.Bool.Decides.{nat_tests}
use Rattle.outside_io.specs.Count.{raised}
use Rattle.outside_io.specs.Memory.{Output}
use Rattle.outside_io.proofs.memory.MemSinkSink.write.Goals as goal
use Rattle.outside_io.proofs.memory.MemSinkSink.write.Goals.{then-count-eq0-via-then-count-eq0, then-count-eq0-via-else-count-eq0+then-contains}

pub returns-then-count-eq0-clause-fails : goal.returns-then-count-eq0-clause-fails
returns-then-count-eq0-clause-fails c =
    let some : 0 < length c.args.piece.now = grind (arith, nat_tests) in
    let room : c.self.inside.room ≡ c.args.self.now.room = ap (λ s. s.room) c.self.view_is in
    let written : length c.self.inside.bytes.items ≡ length c.args.self.now.written = ap (λ s. length s.written) c.self.view_is in (
      λ _. elim c.then-count-eq0.branch [
        | then-count-eq0-via-then-count-eq0 w ↦ (some, inr (omega arith))
        | then-count-eq0-via-else-count-eq0+then-contains w ↦ (
          some,
          inl (
              subst (λ (s : Output). Contains s.fails (raised s.calls)) c.self.view_is
              (subst (λ (numbers : List ℕ). Contains numbers (raised c.self.inside.calls)) w.deref.ensures.value
              (subst (λ (k : ℕ). Contains w.deref.result.now k) c.raised-self-inside.ensures
              (w.contains.ensures.0 w.if-contains.true)))),
        )
      ],
      λ _. refl,
    )
