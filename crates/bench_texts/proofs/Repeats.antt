-- A part for one number more.
use Rattle.std.proofs.Common.{◌≡◌, ◌≤◌, ◌+◌, ◌-◌, ℕ, List, [], ◌∷◌, ◌++◌, map-id, ap, sym, ◌∙◌, refl, arith}
use Rattle.std.specs.List.{flat_map, range_with_len}
use Rattle.std.proofs.lemmas.List.{flat_map_more}
use Rattle.std.proofs.lemmas.List.FromFn.{map-range_with_len_more}
use Rattle.bench_texts.specs.Texts.{filled, repeated}

range_more : (a n : ℕ) → range_with_len a (n + 1) ≡ range_with_len a n ++ (a + n) ∷ []
range_more a n =
    sym (map-id (range_with_len a (n + 1))) ∙ map-range_with_len_more (λ k. k) a n (a + n) refl ∙ ap (λ ks. ks ++ (a + n) ∷ []) (map-id (range_with_len a n))

below : (n : ℕ) → 1 ≤ n → range_with_len 1 (n + 1 - 1) ≡ range_with_len 1 (n - 1) ++ n ∷ []
below n h =
    let long : n + 1 - 1 ≡ n - 1 + 1 = omega (arith, h) in
    let last : 1 + (n - 1) ≡ n = omega (arith, h) in
    ap (λ k. range_with_len 1 k) long ∙ range_more 1 (n - 1) ∙ ap (λ k. range_with_len 1 (n - 1) ++ k ∷ []) last

pub repeated_more : (text part : List ℕ) (n : ℕ) → 1 ≤ n → (text ++ repeated n part) ++ filled n part ≡ text ++ repeated (n + 1) part
repeated_more text part n h =
    flat_map_more (λ k. filled k part) text (range_with_len 1 (n - 1)) n ∙ ap (λ ks. text ++ flat_map (λ k. filled k part) ks) (sym (below n h))
