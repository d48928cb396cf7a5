use Rattle.std.proofs.Common.{ℕ, List, ◌≡◌, ◌≤◌, ◌-◌, take, drop, length, ap, sym, ◌∙◌, arith, length-drop}
use Rattle.std.proofs.lemmas.List.{take_rest}
use Rattle.outside_io.proofs.Pieces.{copied_front}
use Rattle.outside_io.proofs.memory.MemSourceSource.read.Goals as goal

pub returns-clause-bytes : goal.returns-clause-bytes
returns-clause-bytes c = λ _.
    let bytes : List ℕ = c.self.inside.bytes.items in
    let at = c.self.inside.at in
    let count = c.min-count.result in
    let copied : c.copy_from_slice.new.self ≡ take count (drop at bytes) =
    c.copy_from_slice.ensures.after
    ∙ ap (λ (b : List ℕ). take count (take (length b - at) (drop at b))) c.deref-2.ensures.value
    ∙ ap (λ (b : List ℕ). take count b) (take_rest bytes at) in
    let within : count ≤ length (drop at bytes) = omega (arith, length-drop at bytes) in
    copied_front c.args.self.now.left bytes c.copy_from_slice.new.self (drop count c.args.into.now) at count (sym (ap (λ s. s.left) c.self.view_is)) copied within
