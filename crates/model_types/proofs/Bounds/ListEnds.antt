-- The ends of a list, by its length.
use Rattle.std.proofs.Common.{◌≡◌, ℕ, List, length, take, drop, min, ap, ◌∙◌, arith}
use Rattle.std.proofs.lemmas.List.{take_min, drop_min}

turned : (n : ℕ) → min n 1 ≡ min 1 n
turned n = omega arith

pub start_by_length : (l : List ℕ) → take (min (length l) 1) l ≡ take 1 l
start_by_length l = ap (λ k. take k l) (turned (length l)) ∙ take_min 1 l

pub rest_by_length : (l : List ℕ) → drop (min (length l) 1) l ≡ drop 1 l
rest_by_length l = ap (λ k. drop k l) (turned (length l)) ∙ drop_min 1 l
