-- Commands and facts by their numbers.
use Rattle.std.proofs.Common.{◌≡◌, ℕ, zero, suc, ◌+◌, List, [], ◌∷◌, ◌++◌, refl, sym, ◌∙◌, ap, subst, arith, slice_get}
use Rattle.std.specs.List.{range_with_len}
use Rattle.named_model.specs.Model.{NamedTree}
use Rattle.lowering_rules.specs.Problem.{command_at}

-- the command behind so many others
pub command_behind : (m : NamedTree) (n p : ℕ) → n ≡ suc p → command_at m n ≡ slice_get m.commands p
command_behind m n p e = ap (command_at m) e

range_push : (a n : ℕ) → range_with_len a (suc n) ≡ range_with_len a n ++ (a + n) ∷ []
range_push a zero = ap (λ k. k ∷ []) (let e : a ≡ a + zero = omega arith in e)
range_push a (suc n) = ap (λ zs. a ∷ zs) (range_push (a + 1) n) ∙ ap (λ k. a ∷ (range_with_len (a + 1) n ++ k ∷ [])) (let e : a + 1 + n ≡ a + suc n = omega arith in e)

-- one number more
pub one_more : (n : ℕ) (ns : List ℕ) → ns ≡ range_with_len 1 n → ns ++ (n + 1) ∷ [] ≡ range_with_len 1 (n + 1)
one_more n ns e =
    let plus : n + 1 ≡ 1 + n = omega arith in
    let next : n + 1 ≡ suc n = omega arith in
    ap (λ k. ns ++ k ∷ []) plus ∙ ap (λ zs. zs ++ (1 + n) ∷ []) e ∙ sym (ap (range_with_len 1) next ∙ range_push 1 n)
