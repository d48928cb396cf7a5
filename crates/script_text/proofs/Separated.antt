-- Pieces with separators between them, one piece more.
use Rattle.std.proofs.Common.{◌≡◌, ℕ, zero, suc, ◌+◌, ◌<◌, List, [], ◌∷◌, ◌++◌, map, take, length, get_or, false, ◌==◌, if◌then◌else◌, refl, sym, ◌∙◌, ap, arith, add-one, append_assoc}
use Rattle.std.specs.List.{flat_map}
use Rattle.std.proofs.lemmas.Bool.Decides.{nat_tests}
use Rattle.std.proofs.lemmas.List.{append-nil, map-append}
use Rattle.std.proofs.lemmas.List.Concat.{flat_map-append}
use Rattle.std.proofs.Math.Seq.{take-suc}
use Rattle.script_text.specs.Lines.{separated}

gap : List ℕ → List (List ℕ) → List ℕ
gap between [] = []
gap between (y ∷ ys) = between

separated_push : (between : List ℕ) (ys : List (List ℕ)) (z : List ℕ) → separated between (ys ++ z ∷ []) ≡ separated between ys ++ gap between ys ++ z
unfolding gap
separated_push between [] z = append-nil z
separated_push between (y ∷ ys) z =
    let g : List ℕ → List ℕ = λ piece. between ++ piece in
    ap (λ ws. y ++ ws) (flat_map-append g ys (z ∷ []) ∙ ap (λ ws. flat_map g ys ++ ws) (append-nil (between ++ z)))
    ∙ sym (append_assoc y (flat_map g ys) (between ++ z)) ∙ sym (append_assoc (y ++ flat_map g ys) between z)

gap_is : {X : Type 0} (between : List ℕ) (f : X → List ℕ) (xs : List X) (i : ℕ) → i < length xs → gap between (map f (take i xs)) ≡ (if i == 0 then [] else between)
unfolding gap
gap_is between f [] i l = absurd (omega arith)
gap_is between f (x ∷ xs) zero l = refl
gap_is between f (x ∷ xs) (suc i) l = let e : (suc i == 0) ≡ false = grind (arith, nat_tests) in ap (λ b. if b then [] else between) (sym e)

-- one piece more, with the separator before it unless it is the first
pub separated_more : {X : Type 0} (between : List ℕ) (f : X → List ℕ) (xs : List X) (i : ℕ) (d : X) → i < length xs →
    separated between (map f (take (i + 1) xs)) ≡ separated between (map f (take i xs)) ++ (if i == 0 then [] else between) ++ f (get_or xs i d)
separated_more between f xs i d l =
    ap (λ k. separated between (map f (take k xs))) (add-one i) ∙ ap (λ ys. separated between (map f ys)) (take-suc xs i d l)
    ∙ ap (separated between) (map-append f (take i xs) (get_or xs i d ∷ [])) ∙ separated_push between (map f (take i xs)) (f (get_or xs i d))
    ∙ ap (λ g. separated between (map f (take i xs)) ++ g ++ f (get_or xs i d)) (gap_is between f xs i l)

regroup : (o s g x : List ℕ) → ((o ++ s) ++ g) ++ x ≡ o ++ ((s ++ g) ++ x)
regroup o s g x = simp append_assoc

-- the turn of a loop that writes pieces
pub piece_written : {X : Type 0} (between : List ℕ) (f : X → List ℕ) (xs : List X) (i : ℕ) (d : X) (old before gapped after : List ℕ) → i < length xs →
    before ≡ old ++ separated between (map f (take i xs)) → gapped ≡ before ++ (if i == 0 then [] else between) → after ≡ gapped ++ f (get_or xs i d) →
    after ≡ old ++ separated between (map f (take (i + 1) xs))
piece_written between f xs i d old before gapped after l e g h =
    let s = separated between (map f (take i xs)) in
    let b = if i == 0 then [] else between in
    h ∙ ap (λ w. w ++ f (get_or xs i d)) (g ∙ ap (λ w. w ++ b) e) ∙ regroup old s b (f (get_or xs i d)) ∙ ap (λ w. old ++ w) (sym (separated_more between f xs i d l))
