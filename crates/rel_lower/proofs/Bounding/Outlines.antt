-- The outlines of a model, as far as a loop over its fields has come.
use Rattle.std.proofs.Common.{◌≡◌, ℕ, ◌+◌, ◌<◌, ◌≤◌, List, [], ◌∷◌, ◌++◌, map, length, take, drop, take-append-drop, get_or, append_assoc, length-append, All, refl, sym, ◌∙◌, ap, subst, arith}
use Rattle.std.specs.List.{AllZip, range_with_len}
use Rattle.std.proofs.lemmas.List.{append-nil, map-append, drop_more, take_more, take_all, length-map, get_or-map}
use Rattle.std.proofs.lemmas.Slice.Zip.{AllZip-long}
use Rattle.std.proofs.lemmas.List.FromFn.{length-map-range_with_len}
use Rattle.rel_formula.specs.declared.problem.Relation.{Relation}
use Rattle.rel_formula.specs.Bounds.{cells_from}
use Rattle.rel_formula.specs.Meaning.{HasAtLeast}
use Rattle.named_model.specs.declared.named.Field.{Field}
use Rattle.named_model.specs.Model.{NamedTree, FieldTree}
use Rattle.named_model.specs.View.{field_view}
use Rattle.model_sizes.specs.declared.size.Size.{Size}
use Rattle.lowering_rules.specs.declared.fault.LowerFault.{LowerFault}
use Rattle.lowering_rules.specs.declared.fault.LowerFault.TheVariants as fault
use Rattle.lowering_rules.specs.Relations.{Outline, outlines, signature_outline, field_outline, IsOutlined, MayHave}
use Rattle.lowering_rules.specs.Problem.{HasMoreCells}
use Rattle.rel_lower.specs.Bounding.Bounds.{IsTooLarge, IsTooMany}
use Rattle.rel_lower.proofs.Bounding.Cells.{AreSets, enough, enough_more}

abbrev pub signature_outlines : NamedTree → List Size → List Outline
signature_outlines m sizes = map (signature_outline m sizes) (range_with_len 0 (length m.signatures))

-- those of the signatures and of the first fields
abbrev pub first_outlines : NamedTree → List Size → ℕ → List Outline
first_outlines m sizes i = signature_outlines m sizes ++ map (field_outline m) (take i m.fields)

pub how_many : (m : NamedTree) (sizes : List Size) → length (outlines m sizes) ≡ length m.signatures + length m.fields
how_many m sizes =
    let a = length-append (signature_outlines m sizes) (map (field_outline m) m.fields) in
    let b = length-map-range_with_len (signature_outline m sizes) 0 (length m.signatures) in
    let c = length-map m.fields (field_outline m) in
    omega (arith, a, b, c)

zip_push : {X Y : Type 0} (R : X → Y → Type 0) (xs : List X) (ys : List Y) (x : X) (y : Y) → AllZip R xs ys → R x y → AllZip R (xs ++ x ∷ []) (ys ++ y ∷ [])
zip_push R [] [] x y h r = (r, tt)
zip_push R [] (b ∷ ys) x y h r = absurd h
zip_push R (a ∷ xs) [] x y h r = absurd h
zip_push R (a ∷ xs) (b ∷ ys) x y h r = (h.0, zip_push R xs ys x y h.1 r)

module _ (m : NamedTree) (sizes : List Size) where
  pub none_yet : first_outlines m sizes 0 ≡ signature_outlines m sizes
  none_yet = append-nil (signature_outlines m sizes)

  pub all_come : (i : ℕ) → length m.fields ≤ i → first_outlines m sizes i ≡ outlines m sizes
  all_come i l = ap (λ fs. signature_outlines m sizes ++ map (field_outline m) fs) (take_all i m.fields l)

  module _ (i : ℕ) (f : FieldTree) (l : i < length m.fields) (e : f ≡ get_or m.fields i f) where
    next_comes : first_outlines m sizes (i + 1) ≡ first_outlines m sizes i ++ field_outline m f ∷ []
    next_comes =
        ap (λ fs. signature_outlines m sizes ++ map (field_outline m) fs) (take_more m.fields i f l ∙ ap (λ g. take i m.fields ++ g ∷ []) (sym e))
        ∙ ap (λ os. signature_outlines m sizes ++ os) (map-append (field_outline m) (take i m.fields) (f ∷ []))
        ∙ sym (append_assoc (signature_outlines m sizes) (map (field_outline m) (take i m.fields)) (field_outline m f ∷ []))

    -- the others behind the field
    the_rest : outlines m sizes ≡ first_outlines m sizes i ++ field_outline m f ∷ map (field_outline m) (drop (i + 1) m.fields)
    the_rest =
        ap (λ fs. signature_outlines m sizes ++ map (field_outline m) fs)
        (sym (take-append-drop i m.fields) ∙ ap (λ fs. take i m.fields ++ fs) (drop_more m.fields i f l ∙ ap (λ g. g ∷ drop (i + 1) m.fields) (sym e)))
        ∙ ap (λ os. signature_outlines m sizes ++ os) (map-append (field_outline m) (take i m.fields) (f ∷ drop (i + 1) m.fields))
        ∙ sym (append_assoc (signature_outlines m sizes) (map (field_outline m) (take i m.fields)) (field_outline m f ∷ map (field_outline m) (drop (i + 1) m.fields)))

    pub one_outlined : (rs ss : List Relation) (r : Relation) → ss ≡ rs ++ r ∷ [] → AllZip (IsOutlined sizes) (first_outlines m sizes i) rs → IsOutlined sizes (field_outline m f) r
        → AllZip (IsOutlined sizes) (first_outlines m sizes (i + 1)) ss
    one_outlined rs ss r s h o =
        subst (λ os. AllZip (IsOutlined sizes) os ss) (sym next_comes)
        (subst (AllZip (IsOutlined sizes) (first_outlines m sizes i ++ field_outline m f ∷ [])) (sym s) (zip_push (IsOutlined sizes) (first_outlines m sizes i) rs (field_outline m f) r h o))

    pub field_many : (rs : List Relation) (cells room : ℕ) → AllZip (IsOutlined sizes) (first_outlines m sizes i) rs → All AreSets rs → cells ≡ length (cells_from 0 rs) → cells + room ≡ 4096
        → HasAtLeast (room + 1) (MayHave sizes (field_outline m f)) → HasMoreCells sizes (outlines m sizes) 4096
    field_many rs cells room zip sets count sum h =
        subst (λ os. HasMoreCells sizes os 4096) (sym the_rest)
        (enough_more sizes (first_outlines m sizes i) (map (field_outline m) (drop (i + 1) m.fields)) (field_outline m f) rs zip sets refl room 4096 (omega (arith, count, sum)) h)

  pub signatures_many : (rs : List Relation) → AllZip (IsOutlined sizes) (signature_outlines m sizes) rs → All AreSets rs → 4096 < length (cells_from 0 rs) → HasMoreCells sizes (outlines m sizes) 4096
  signatures_many rs zip sets l = enough sizes (signature_outlines m sizes) (map (field_outline m) m.fields) rs zip sets 4096 l

-- a field with too many tuples is one of too many cells
pub many_told : (m : NamedTree) (sizes : List Size) (o : Outline) (room : ℕ) (f : LowerFault) → length (outlines m sizes) ≤ 128 → (HasAtLeast (room + 1) (MayHave sizes o) → HasMoreCells sizes (outlines m sizes) 4096)
    → IsTooLarge room (MayHave sizes o) f → IsTooMany m sizes f
many_told m sizes o room fault.NoCommand few many h = absurd h
many_told m sizes o room (fault.Scope e) few many h = absurd h
many_told m sizes o room fault.TooManyRelations few many h = absurd h
many_told m sizes o room fault.TooManyCells few many h = (few, many h)
many_told m sizes o room fault.TooManyTerms few many h = absurd h
many_told m sizes o room fault.TooLarge few many h = absurd h
many_told m sizes o room fault.Memory few many h = tt

pub field_at : (fields items : List Field) (i : ℕ) (x : Field) → items ≡ fields → i < length items → x ≡ get_or items i x
    → (i < length (map field_view fields)) × (field_view x ≡ get_or (map field_view fields) i (field_view x))
field_at fields items i x e l is =
    let below : i < length fields = subst (λ (xs : List Field). i < length xs) e l in
    let here : x ≡ get_or fields i x = subst (λ (xs : List Field). x ≡ get_or xs i x) e is in
    let long = length-map fields field_view in
    (omega (arith, below, long), ap field_view here ∙ sym (get_or-map field_view fields i x (field_view x) below))

pub are_few : (m : NamedTree) (sizes : List Size) (i : ℕ) (rs : List Relation) → length m.fields ≤ i → AllZip (IsOutlined sizes) (first_outlines m sizes i) rs
    → AllZip (IsOutlined sizes) (outlines m sizes) rs × (length rs ≡ length (outlines m sizes))
are_few m sizes i rs l h =
    let all = subst (λ os. AllZip (IsOutlined sizes) os rs) (all_come m sizes i l) h in
    (all, AllZip-long (IsOutlined sizes) (outlines m sizes) rs all)
