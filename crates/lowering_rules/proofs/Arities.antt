-- The relations of a problem have the arities that are declared.
use Rattle.std.specs.Prelude.{slice_index_or}
use Rattle.std.proofs.Common.{◌≡◌, ℕ, zero, suc, ◌+◌, ◌<◌, List, [], ◌∷◌, ◌++◌, map, length, Some, slice_get, refl, sym, ◌∙◌, ap, subst, arith}
use Rattle.std.specs.List.{range_with_len}
use Rattle.std.proofs.lemmas.List.{get_or-map, length-map}
use Rattle.std.proofs.lemmas.List.FromFn.{length-map-range_with_len}
use Rattle.std.proofs.lemmas.Slice.Zip.{AllZip-long}
use Rattle.rel_formula.specs.declared.problem.Relation.{Relation}
use Rattle.rel_formula.specs.Bounds.{Bounded, relation_at}
use Rattle.rel_formula.proofs.Lists.{some_below}
use Rattle.rel_formula.proofs.Tabled.{no_relation}
use Rattle.named_model.specs.Model.{NamedTree}
use Rattle.model_types.specs.Typing as typing
use Rattle.model_types.specs.Models.{declared_in, field_declared, settled_in}
use Rattle.lowering_rules.specs.Relations.{Outline, IsOutlined, signature_outline, field_outline, outlines}
use Rattle.lowering_rules.specs.Lowering.{field_number}
use Rattle.lowering_rules.specs.Problem.{ProblemOf}
use Rattle.lowering_rules.specs.Shapes.{HasRelations}
use Rattle.lowering_rules.proofs.Outlined.{outlined_at, same_some}
use Rattle.lowering_rules.proofs.Atoms.{below, outlined}

-- an item behind a list
pub behind : {X : Type 0} (xs ys : List X) (i : ℕ) → slice_get (xs ++ ys) (length xs + i) ≡ slice_get ys i
behind [] ys i = let e : 0 + i ≡ i = omega arith in ap (slice_get ys) e
behind (x ∷ xs) ys i =
    let e : length (x ∷ xs) + i ≡ suc (length xs + i) = omega arith in
    ap (slice_get (x ∷ (xs ++ ys))) e ∙ behind xs ys i

pub get_map : {X Y : Type 0} (f : X → Y) (xs : List X) (i : ℕ) (x : X) → slice_get xs i ≡ Some x → slice_get (map f xs) i ≡ Some (f x)
get_map f [] i x e = absurd cc
get_map f (y ∷ xs) zero x e = let same : y ≡ x = same_some y x e in ap (λ z. Some (f z)) same
get_map f (y ∷ xs) (suc i) x e = get_map f xs i x e

-- what a mapped list has at a place
pub map_get : {X Y : Type 0} (f : X → Y) (xs : List X) (i : ℕ) (y : Y) → slice_get (map f xs) i ≡ Some y → (x : X) × (slice_get xs i ≡ Some x) × (f x ≡ y)
map_get f [] i y e = absurd cc
map_get f (x ∷ xs) zero y e = (x, refl, same_some (f x) y e)
map_get f (x ∷ xs) (suc i) y e = map_get f xs i y e

module _ (m : NamedTree) (n : ℕ) (facts : List ℕ) (p : Bounded) (of : ProblemOf (settled_in m) n facts p) where
  abbrev pub arities : List ℕ
  arities = map (λ (r : Relation). r.lower.arity) p.relations

  arity_at : (r : ℕ) → r < length p.relations → (r < length arities) × (slice_index_or arities r 0 ≡ (relation_at p.relations r).lower.arity)
  arity_at r l = (
    (let long = length-map p.relations (λ (r : Relation). r.lower.arity) in omega arith),
    get_or-map (λ (r : Relation). r.lower.arity) p.relations r no_relation 0 l,
  )

  of_signature : (s : ℕ) → s < length m.signatures → (s < length arities) × (slice_index_or arities s 0 ≡ 1)
  of_signature s l =
      let at = arity_at s (below (settled_in m) n facts p of s l) in
      (at.0, at.1 ∙ (outlined (settled_in m) n facts p of s l).lower.arity_is)

  of_field : (f : ℕ) (x : typing.Field) → slice_get (declared_in m).fields f ≡ Some x →
      (field_number (length m.signatures) f < length arities) × (slice_index_or arities (field_number (length m.signatures) f) 0 ≡ x.arity)
  of_field f x e =
      let g = map_get (field_declared m) m.fields f x e in
      let m' = settled_in m in
      let signatures = map (signature_outline m' of.sizes) (range_with_len 0 (length m.signatures)) in
      let fields = map (field_outline m') m.fields in
      let first : length signatures ≡ length m.signatures = length-map-range_with_len (signature_outline m' of.sizes) 0 (length m.signatures) in
      let there : slice_get (signatures ++ fields) (length signatures + f) ≡ Some (field_outline m' g.0) =
      behind signatures fields f ∙ get_map (field_outline m') m.fields f g.0 g.1 in
      let at : slice_get (outlines m' of.sizes) (field_number (length m.signatures) f) ≡ Some (field_outline m' g.0) =
      subst (λ k. slice_get (signatures ++ fields) (k + f) ≡ Some (field_outline m' g.0)) first there in
      let long = AllZip-long (IsOutlined of.sizes) (outlines m' of.sizes) p.relations of.relations in
      let low = some_below (outlines m' of.sizes) (field_number (length m.signatures) f) (field_outline m' g.0) at in
      let l : field_number (length m.signatures) f < length p.relations = omega arith in
      let o = outlined_at of.sizes (outlines m' of.sizes) p.relations of.relations (field_number (length m.signatures) f) l in
      let same : o.0 ≡ field_outline m' g.0 = same_some o.0 (field_outline m' g.0) (sym o.1 ∙ at) in
      let a = arity_at (field_number (length m.signatures) f) l in
      (a.0, a.1 ∙ o.2.lower.arity_is ∙ ap (λ (q : Outline). q.arity) same ∙ ap (λ (y : typing.Field). y.arity) g.2)

  pub has_relations : HasRelations arities (declared_in m) (length m.signatures)
  has_relations = record { signature = of_signature; field = of_field }
