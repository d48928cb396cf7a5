-- One more piece of a stream.
use Rattle.std.proofs.Common.{◌≡◌, ℕ, ◌+◌, ◌≤◌, List, ◌++◌, length, take, drop, ◌∙◌, ap, sym, append_assoc}
use Rattle.std.proofs.Math.Seq.{take-add}
use Rattle.std.proofs.lemmas.List.{take-append-drop, drop-drop, take_at, length-take-le}

-- the front of the bytes was written, and then the front of the rest
pub written_more : (start before after bytes piece : List ℕ) (taken n : ℕ) → piece ≡ drop taken bytes → before ≡ start ++ take taken bytes → after ≡ before ++ take n piece → after ≡ start ++ take (taken + n) bytes
written_more start before after bytes piece taken n is p q =
    q ∙ ap (λ w. w ++ take n piece) p ∙ append_assoc start (take taken bytes) (take n piece)
    ∙ ap (λ w. start ++ (take taken bytes ++ take n w)) is ∙ ap (λ w. start ++ w) (sym (take-add taken n bytes))

-- the front of the bytes from a place on was copied into a buffer
pub copied_front : (left bytes copied after : List ℕ) (at n : ℕ) → left ≡ drop at bytes → copied ≡ take n (drop at bytes) → n ≤ length (drop at bytes) → left ≡ take n (copied ++ after) ++ drop (at + n) bytes
copied_front left bytes copied after at n is same within =
    is ∙ sym (take-append-drop n (drop at bytes)) ∙ ap (λ w. w ++ drop n (drop at bytes)) (sym same)
    ∙ ap (λ w. w ++ drop n (drop at bytes)) (sym (take_at copied after n (ap length same ∙ length-take-le n (drop at bytes) within)))
    ∙ ap (λ w. take n (copied ++ after) ++ w) (drop-drop n at bytes)
