-- Relations that have their outlines.
use Rattle.std.proofs.Common.{◌≡◌, ℕ, ◌+◌, List, [], ◌∷◌, ◌++◌, map, Bool, Contains, IsTrue, refl, sym, ◌∙◌, ap, subst, arith, inl, inr}
use Rattle.std.specs.List.{AllZip, range_with_len}
use Rattle.std.proofs.lemmas.List.FromFn.{map-range_with_len_more}
use Rattle.rel_formula.proofs.OpenCells.{cons_first, cons_cases}
use Rattle.tuple_core.specs.declared.atom.Atom.{Atom}
use Rattle.tuple_core.specs.Rows.{Rows, IsSetOf}
use Rattle.rel_formula.specs.declared.problem.Relation.{Relation}
use Rattle.model_sizes.specs.declared.size.Size.{Size}
use Rattle.lowering_rules.specs.Relations.{InProduct, InProducts, Outline, Has, MayHave, IsOutlined}

zip_push : {X Y : Type 0} (R : X → Y → Type 0) (xs : List X) (ys : List Y) (x : X) (y : Y) → AllZip R xs ys → R x y → AllZip R (xs ++ x ∷ []) (ys ++ y ∷ [])
zip_push R [] [] x y h r = (r, tt)
zip_push R [] (b ∷ ys) x y h r = absurd h
zip_push R (a ∷ xs) [] x y h r = absurd h
zip_push R (a ∷ xs) (b ∷ ys) x y h r = (h.0, zip_push R xs ys x y h.1 r)

-- one relation more
pub outlines_more : (sizes : List Size) (f : ℕ → Outline) (n : ℕ) (before after : List Relation) (r : Relation) → after ≡ before ++ r ∷ []
    → AllZip (IsOutlined sizes) (map f (range_with_len 0 n)) before → IsOutlined sizes (f n) r → AllZip (IsOutlined sizes) (map f (range_with_len 0 (n + 1))) after
outlines_more sizes f n before after r e h is =
    let zero_on : 0 + n ≡ n = omega arith in
    subst (λ os. AllZip (IsOutlined sizes) os after) (sym (map-range_with_len_more f 0 n n zero_on))
    (subst (AllZip (IsOutlined sizes) (map f (range_with_len 0 n) ++ f n ∷ [])) (sym e) (zip_push (IsOutlined sizes) (map f (range_with_len 0 n)) before (f n) r h is))

-- the products of one list
one_product : (sizes : List Size) (tops : List ℕ) (t : List Atom) → InProducts sizes (tops ∷ []) t → InProduct sizes tops t
one_product sizes tops t h = elim (cons_cases tops [] h.0 h.1) [ inl e ↦ subst (λ l. InProduct sizes l t) (sym e) h.2 | inr c ↦ absurd (let l = c.1 in omega arith) ]

-- a signature's relation, by its bounds
pub is_outlined : (sizes : List Size) (o : Outline) (top : ℕ) (r : Relation) → o.arity ≡ 1 → o.type ≡ (top ∷ []) ∷ [] → r.name ≡ o.name
    → IsSetOf r.upper 1 (InProduct sizes (top ∷ [])) → IsSetOf r.lower r.upper.arity (λ t. IsTrue o.fixed × Contains r.upper.rows t) → IsOutlined sizes o r
is_outlined sizes o top r one type name upper lower = record {
  name = name;
  lower = record {
    arity_is = lower.arity_is ∙ upper.arity_is ∙ sym one;
    just = λ t. (
      λ c. (let h = (lower.just t).0 c in (h.0, to t ((upper.just t).0 h.1))),
      λ h. (lower.just t).1 (h.0, (upper.just t).1 (from t h.1)),
    );
  };
  upper = record {
    arity_is = upper.arity_is ∙ sym one;
    just = λ t. (λ c. to t ((upper.just t).0 c), λ h. (upper.just t).1 (from t h));
  };
}
  where
    to : (t : List Atom) → InProduct sizes (top ∷ []) t → MayHave sizes o t
    to t h = subst (λ lists. InProducts sizes lists t) (sym type) (top ∷ [], cons_first (top ∷ []) [], h)

    from : (t : List Atom) → MayHave sizes o t → InProduct sizes (top ∷ []) t
    from t h = one_product sizes (top ∷ []) t (subst (λ lists. InProducts sizes lists t) type h)
