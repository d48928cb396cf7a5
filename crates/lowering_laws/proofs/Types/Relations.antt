-- The relations of a problem have what their bounding types allow.
use Rattle.std.proofs.Common.{◌≡◌, ◌<◌, inl, inr, ℕ, zero, suc, ◌+◌, List, [], ◌∷◌, ◌++◌, map, length, Contains, Bool, true, false, if◌then◌else◌, Option, Some, None, slice_get, Result, Ok, sym, ◌∙◌, ap, subst, arith}
use Rattle.std.specs.List.{range_with_len}
use Rattle.std.proofs.lemmas.List.FromFn.{length-map-range_with_len}
use Rattle.std.proofs.lemmas.Slice.Zip.{AllZip-long}
use Rattle.tuple_core.specs.declared.atom.Atom.{Atom}
use Rattle.rel_formula.specs.Bounds.{Bounded, relation_at}
use Rattle.rel_formula.specs.Instance.{InRelation, InSome, structure_of}
use Rattle.rel_formula.proofs.OpenCells.{cons_cases, cons_first, cons_later, cell_open, has_map}
use Rattle.rel_formula.proofs.Lists.{some_below}
use Rattle.named_model.specs.declared.fault.NameFault.{NameFault}
use Rattle.named_model.specs.declared.named.Signature.{Signature}
use Rattle.named_model.specs.declared.named.Listing.{Listing}
use Rattle.named_model.specs.Model.{NamedTree}
use Rattle.named_model.specs.Signatures.{signature_at, top_of, tops}
use Rattle.model_sizes.specs.declared.size.Size.{Size}
use Rattle.model_sizes.specs.Sizes.{listings_of, listing_for, default_of, scope_at, small, size, is_alone, is_one, abstract_sum, by_default, by_sum, by_listing, size_of, sizes_of}
use Rattle.model_types.specs.Bounding.{singles}
use Rattle.model_types.specs.Typing as typing
use Rattle.model_types.specs.Models.{declared_in, field_declared, settled_in}
use Rattle.lowering_rules.specs.Relations.{IsPlaceOf, InProduct, Outline, IsOutlined, signature_outline, field_outline, outlines}
use Rattle.lowering_rules.specs.Lowering.{field_number}
use Rattle.lowering_rules.specs.Problem.{ProblemOf}
use Rattle.lowering_rules.proofs.Inversion.{bind_ok}
use Rattle.lowering_rules.proofs.Outlined.{outlined_at, same_some}
use Rattle.lowering_rules.proofs.Atoms.{outlined, top_at, top_within-top}
use Rattle.lowering_rules.proofs.Arities.{behind, get_map, map_get}
use Rattle.lowering_rules.proofs.Tops.{sized}
use Rattle.lowering_laws.proofs.Types.Places.{LieIn}
use Rattle.lowering_laws.proofs.Types.Expressions.{IsBounded}

-- ---- sizes

abbrev sized_ok : Size → Result Size NameFault
sized_ok z = Ok z

same_size : (z y : Size) → sized_ok z ≡ Ok y → z ≡ y
same_size z y e = cc

default_names : (s : ℕ) (default : Option ℕ) (z : Size) → by_default s default ≡ Ok z → z.signature ≡ s
default_names s None z e = absurd cc
default_names s (Some n) z e = ap (λ (y : Size). y.signature) (sym (same_size (size s n false) z e))

sum_names : (s : ℕ) (sum default : Option ℕ) (z : Size) → by_sum s sum default ≡ Ok z → z.signature ≡ s
sum_names s None default z e = default_names s default z e
sum_names s (Some n) default z e = let a = bind_ok (small n) _ z e in ap (λ (y : Size). y.signature) (sym (same_size (size s n false) z a.2))

listing_names : (xs : List Signature) (ls : List Listing) (s : ℕ) (l : Option Listing) (default : Option ℕ) (z : Size) → by_listing xs ls s l default ≡ Ok z → z.signature ≡ s
listing_names xs ls s None default z e = sum_names s (abstract_sum xs ls s) default z e
listing_names xs ls s (Some l) default z e = ap (λ (y : Size). y.signature) (sym (same_size (size s l.number.value l.exactly) z e))

size_names : (xs : List Signature) (ls : List Listing) (default : Option ℕ) (s : ℕ) (z : Size) → size_of xs ls default s ≡ Ok z → z.signature ≡ s
size_names xs ls default s z e =
    let mark = (signature_at xs s).mark in
    let go : (b : Bool) → (if b then sized_ok (size s 1 (is_one mark)) else by_listing xs ls s (listing_for ls s) default) ≡ Ok z → z.signature ≡ s =
    λ b. elim b as (λ b. (if b then sized_ok (size s 1 (is_one mark)) else by_listing xs ls s (listing_for ls s) default) ≡ Ok z → z.signature ≡ s) [
      | true ↦ λ e. ap (λ (y : Size). y.signature) (sym (same_size (size s 1 (is_one mark)) z e))
      | false ↦ λ e. listing_names xs ls s (listing_for ls s) default z e
    ] in
    go (is_alone mark) e

abbrev sizes_ok : List Size → Result (List Size) NameFault
sizes_ok zs = Ok zs

same_sizes : (xs ys : List Size) → sizes_ok xs ≡ Ok ys → xs ≡ ys
same_sizes xs ys e = cc

sizes_name : (xs : List Signature) (ls : List Listing) (default : Option ℕ) (ss : List ℕ) (zs : List Size) → sizes_of xs ls default ss ≡ Ok zs →
    (i : ℕ) (z : Size) → slice_get zs i ≡ Some z → Contains ss z.signature
sizes_name xs ls default [] zs e i z at = absurd (let none = ap (λ ys. slice_get ys i) (same_sizes [] zs e) ∙ at in cc)
sizes_name xs ls default (s ∷ ss) zs e i z at =
    let a = bind_ok (size_of xs ls default s) _ zs e in
    let b = bind_ok (sizes_of xs ls default ss) _ zs a.2 in
    let there : slice_get (a.0 ∷ b.0) i ≡ Some z = ap (λ ys. slice_get ys i) (same_sizes (a.0 ∷ b.0) zs b.2) ∙ at in
    let go : (k : ℕ) → slice_get (a.0 ∷ b.0) k ≡ Some z → Contains (s ∷ ss) z.signature =
    λ k. elim k as (λ k. slice_get (a.0 ∷ b.0) k ≡ Some z → Contains (s ∷ ss) z.signature) [
      | zero ↦ λ h.
          let name : s ≡ z.signature = sym (size_names xs ls default s a.0 a.1) ∙ ap (λ (y : Size). y.signature) (same_some a.0 z h) in
          subst (Contains (s ∷ ss)) name (cons_first s ss)
      | suc k ↦ λ h. cons_later s ss z.signature (sizes_name xs ls default ss b.0 b.1 k z h)
    ] in
    go i there

-- ---- relations

module _ (p : Bounded) (Chosen : ℕ → Type 0) (sizes : List Size) where
  -- what a relation has where cells are chosen lies in the type of its outline
  outline_lies : (o : Outline) (r : ℕ) → IsOutlined sizes o (relation_at p.relations r) → LieIn sizes o.type (InRelation p Chosen r)
  outline_lies o r is = λ t v. elim v [
    | inl low ↦ ((is.lower.just t).0 low).1
    | inr cell ↦ (is.upper.just t).0 (cell_open p cell.0 r t cell.2).1
  ]

module _ (m : NamedTree) (n : ℕ) (facts : List ℕ) (p : Bounded) (of : ProblemOf (settled_in m) n facts p) (Chosen : ℕ → Type 0) where
  signature_lies : (s : ℕ) → s < length m.signatures → LieIn of.sizes ((top_of m.signatures s ∷ []) ∷ []) (InRelation p Chosen s)
  signature_lies s l = outline_lies p Chosen of.sizes (signature_outline (settled_in m) of.sizes s) s (outlined (settled_in m) n facts p of s l)

  field_lies : (f : ℕ) (x : typing.Field) → slice_get (declared_in m).fields f ≡ Some x → LieIn of.sizes x.type (InRelation p Chosen (field_number (length m.signatures) f))
  field_lies f x e =
      let g = map_get (field_declared m) m.fields f x e in
      let m' = settled_in m in
      let r = field_number (length m.signatures) f in
      let signatures = map (signature_outline m' of.sizes) (range_with_len 0 (length m.signatures)) in
      let fields = map (field_outline m') m.fields in
      let first : length signatures ≡ length m.signatures = length-map-range_with_len (signature_outline m' of.sizes) 0 (length m.signatures) in
      let there : slice_get (signatures ++ fields) (length signatures + f) ≡ Some (field_outline m' g.0) =
      behind signatures fields f ∙ get_map (field_outline m') m.fields f g.0 g.1 in
      let at : slice_get (outlines m' of.sizes) r ≡ Some (field_outline m' g.0) =
      subst (λ k. slice_get (signatures ++ fields) (k + f) ≡ Some (field_outline m' g.0)) first there in
      let long = AllZip-long (IsOutlined of.sizes) (outlines m' of.sizes) p.relations of.relations in
      let low = some_below (outlines m' of.sizes) r (field_outline m' g.0) at in
      let o = outlined_at of.sizes (outlines m' of.sizes) p.relations of.relations r (omega arith) in
      let same : o.0 ≡ field_outline m' g.0 = same_some o.0 (field_outline m' g.0) (sym o.1 ∙ at) in
      let type : o.0.type ≡ x.type = ap (λ (q : Outline). q.type) same ∙ ap (λ (y : typing.Field). y.type) g.2 in
      subst (λ a. LieIn of.sizes a (InRelation p Chosen r)) type (outline_lies p Chosen of.sizes o.0 r o.2)

  universe_lies : LieIn of.sizes (singles (tops m.signatures)) (InSome p.tops (InRelation p Chosen))
  universe_lies = λ t v.
      let top = top_at (settled_in m) n facts p of v.0 v.1 in
      let own : top_of m.signatures v.0 ≡ v.0 = top_within-top m.signatures (length m.signatures) v.0 top.1 in
      let h = signature_lies v.0 top.0 t v.2 in
      let only : top_of m.signatures v.0 ∷ [] ≡ h.0 = elim (cons_cases (top_of m.signatures v.0 ∷ []) [] h.0 h.1) [ inl e ↦ e | inr c ↦ absurd (let none = c.1 in omega arith) ] in
      let is : h.0 ≡ v.0 ∷ [] = sym only ∙ ap (λ s. s ∷ []) own in
      (v.0 ∷ [], has_map (λ s. s ∷ []) (tops m.signatures) v.0 (subst (λ ts. Contains ts v.0) of.tops v.1), subst (λ l. InProduct of.sizes l t) is h.2)

  sizes_lie : (s : ℕ) (a : Atom) → IsPlaceOf of.sizes s a → Contains (tops m.signatures) s
  sizes_lie s a h =
      let scope = scope_at m.commands n in
      let scope' = scope_at (settled_in m).commands n in
      let are = (sized (settled_in m) n of.sizes of.commands.sized).0 in
      subst (Contains (tops m.signatures)) h.of (sizes_name m.signatures (listings_of scope') (default_of scope') (tops m.signatures) of.sizes are a.top h.size h.sized)

  pub is_bounded : IsBounded (declared_in m) of.sizes (structure_of p Chosen)
  is_bounded = record { sized = sizes_lie; universe = universe_lies; signature = signature_lies; field = field_lies }
