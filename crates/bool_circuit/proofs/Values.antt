-- A node that is added leaves the values of the nodes before it.
use Rattle.std.proofs.Common.{◌≡◌, ℕ, zero, suc, ◌+◌, ◌<◌, Bool, false, not, ◌&&◌, ◌||◌, List, [], ◌∷◌, ◌++◌, length, get_or, take, Some, refl, sym, ap, ◌∙◌, subst, arith, length-append, inl, inr}
use Rattle.std.specs.Prelude.{slice_get}
use Rattle.std.proofs.Math.ListN.{get_or-append}
use Rattle.std.proofs.lemmas.Option.{slice_get-get_or, slice_get_within, get_or_from_slice_get}
use Rattle.std.proofs.lemmas.List.{get_or_default}
use Rattle.std.proofs.lemmas.Bool.{cases_lt}
use Rattle.std.proofs.Math.Seq.{get_or-append_seam, take-append_seam}
use Rattle.bool_circuit.specs.declared.shape.Shape.{Shape}
use Rattle.bool_circuit.specs.declared.shape.Shape.TheVariants.{Constant, Input, And, Or, Not}
use Rattle.bool_circuit.specs.Network.{Network, Has, ReadsBelow, IsInOrder, with_shape}
use Rattle.bool_circuit.specs.Value.{shape_value, place, values_after, value_at, Extends, Stands}

-- what is known stays known
kept : (s : ℕ → Bool) (known : List Bool) (gs : List Shape) (n : ℕ) → n < length known → get_or (values_after s known gs) n false ≡ get_or known n false
kept s known [] n h = refl
kept s known (g ∷ gs) n h =
    let v = shape_value s (place known) g in
    let longer : n < length (known ++ v ∷ []) = omega (arith, length-append known (v ∷ [])) in
    kept s (known ++ v ∷ []) gs n longer ∙ get_or-append known (v ∷ []) false n h

values_after-append : (s : ℕ → Bool) (known : List Bool) (xs ys : List Shape) → values_after s known (xs ++ ys) ≡ values_after s (values_after s known xs) ys
values_after-append s known [] ys = refl
values_after-append s known (x ∷ xs) ys = values_after-append s (known ++ shape_value s (place known) x ∷ []) xs ys

pub length-values_after : (s : ℕ → Bool) (known : List Bool) (gs : List Shape) → length (values_after s known gs) ≡ length known + length gs
length-values_after s known [] = omega arith
length-values_after s known (g ∷ gs) =
    let v = shape_value s (place known) g in
    omega (arith, length-values_after s (known ++ v ∷ []) gs, length-append known (v ∷ []))

-- a shape reads nothing at or past its place
shape_value-same : (s : ℕ → Bool) (f h : ℕ → Bool) (i k : ℕ) → (g : Shape) → ReadsBelow i k g → ((m : ℕ) → m < k → f m ≡ h m) → shape_value s f g ≡ shape_value s h g
shape_value-same s f h i k (Constant b) e same = refl
shape_value-same s f h i k (Input n) e same = refl
shape_value-same s f h i k (And a b) e same = ap (λ x. x && f b) (same a e.0) ∙ ap (λ y. h a && y) (same b e.1)
shape_value-same s f h i k (Or a b) e same = ap (λ x. x || f b) (same a e.0) ∙ ap (λ y. h a || y) (same b e.1)
shape_value-same s f h i k (Not a) e same = ap not (same a e)

value_at-append : (network : Network) (rest : List Shape) (n : ℕ) (s : ℕ → Bool) → n < length network.shapes → value_at (record network { shapes = network.shapes ++ rest }) n s ≡ value_at network n s
unfolding value_at
value_at-append network rest n s h =
    let gs = network.shapes in
    let there : n < length (values_after s [] gs) = omega (arith, length-values_after s [] gs) in
    ap (λ vs. get_or vs n false) (values_after-append s [] gs rest) ∙ kept s (values_after s [] gs) rest n there

-- a node has its shape's value at the values of all nodes
found : (s : ℕ → Bool) (known : List Bool) (gs : List Shape) (i k : ℕ) (g : Shape) → slice_get gs k ≡ Some g → ReadsBelow i (length known + k) g → get_or (values_after s known gs) (length known + k) false ≡ shape_value s (place (values_after s known gs)) g
found s known [] i k g e earlier = cc
found s known (x ∷ gs) i zero g e earlier =
    let v = shape_value s (place known) x in
    let here : length known < length (known ++ v ∷ []) = omega (arith, length-append known (v ∷ [])) in
    let same : x ≡ g = cc in
    let len : length known + zero ≡ length known = omega arith in
    let earlier' : ReadsBelow i (length known) x = subst (λ n. ReadsBelow i n x) len (subst (λ y. ReadsBelow i (length known + zero) y) (sym same) earlier) in
    let reads = shape_value-same s (place known) (place (values_after s (known ++ v ∷ []) gs)) i (length known) x earlier'
    (λ (m : ℕ) (h : m < length known). sym (kept s known (x ∷ gs) m h)) in
    ap (λ n. get_or (values_after s (known ++ v ∷ []) gs) n false) len
    ∙ kept s (known ++ v ∷ []) gs (length known) here
    ∙ get_or-append_seam known v [] false
    ∙ reads
    ∙ ap (λ y. shape_value s (place (values_after s (known ++ v ∷ []) gs)) y) same
found s known (x ∷ gs) i (suc k) g e earlier =
    let v = shape_value s (place known) x in
    let len : length known + suc k ≡ length (known ++ v ∷ []) + k = omega (arith, length-append known (v ∷ [])) in
    let e' : slice_get gs k ≡ Some g = e in
    let rest = found s (known ++ v ∷ []) gs i k g e' (subst (λ n. ReadsBelow i n g) len earlier) in
    ap (λ n. get_or (values_after s (known ++ v ∷ []) gs) n false) len ∙ rest

pub value_at-shape : (network : Network) (k : ℕ) (g : Shape) (s : ℕ → Bool) → IsInOrder network → Has network k g → value_at network k s ≡ shape_value s (λ m. value_at network m s) g
unfolding value_at
value_at-shape network k g s ordered e =
    let gs = network.shapes in
    let i = network.inputs in
    let len : k ≡ length {A = Bool} [] + k = omega arith in
    let earlier : ReadsBelow i (length {A = Bool} [] + k) g = subst (λ n. ReadsBelow i n g) len (ordered k g e) in
    ap (λ n. get_or (values_after s [] gs) n false) len ∙ found s [] gs i k g e earlier

pub Extends-refl : (network : Network) → Extends network network
Extends-refl network = record { inputs = refl; longer = omega arith; shapes = take_whole network.shapes; same = λ n s h. refl }
  where
    take_whole : (xs : List Shape) → take (length xs) xs ≡ xs
    take_whole [] = refl
    take_whole (x ∷ xs) = ap (λ ys. x ∷ ys) (take_whole xs)

pub Extends-push : (network : Network) (g : Shape) → Extends network (with_shape network g)
Extends-push network g = record {
  inputs = refl;
  longer = omega (arith, length-append network.shapes (g ∷ []));
  shapes = take-append_seam network.shapes (g ∷ []);
  same = λ n s h. value_at-append network (g ∷ []) n s h;
}

pub IsInOrder-push : (network : Network) (g : Shape) → IsInOrder network → ReadsBelow network.inputs (length network.shapes) g → IsInOrder (with_shape network g)
IsInOrder-push network g ordered earlier k h e =
    let gs = network.shapes in
    let i = network.inputs in
    elim (cases_lt k (length gs)) [
      | inl lt ↦
          let same : slice_get gs k ≡ slice_get (gs ++ g ∷ []) k =
          slice_get-get_or gs k h lt ∙ sym (ap Some (get_or-append gs (g ∷ []) h k lt)) ∙ sym (slice_get-get_or (gs ++ g ∷ []) k h (slice_get_within (gs ++ g ∷ []) k h e)) in
          ordered k h (same ∙ e)
      | inr le ↦
          let within = slice_get_within (gs ++ g ∷ []) k h e in
          let at_end : k ≡ length gs = omega (arith, length-append gs (g ∷ [])) in
          let is_g : h ≡ g = sym (get_or_from_slice_get (gs ++ g ∷ []) k h h e) ∙ ap (λ n. get_or (gs ++ g ∷ []) n h) at_end ∙ get_or-append_seam gs g [] h in
          subst (λ n. ReadsBelow i n h) (sym at_end) (subst (λ y. ReadsBelow i (length gs) y) (sym is_g) earlier)
    ]

-- a new node has its shape's value at the old nodes' values
pub Stands-from : (old new : Network) (g : Shape) (n : ℕ) → Extends old new → IsInOrder new → ReadsBelow old.inputs (length old.shapes) g → Has new n g → Stands new n (λ s. shape_value s (λ m. value_at old m s) g)
Stands-from old new g n extends ordered earlier is = record {
  there = slice_get_within new.shapes n g is;
  value = λ s.
      value_at-shape new n g s ordered is
      ∙ shape_value-same s (λ m. value_at new m s) (λ m. value_at old m s) old.inputs (length old.shapes) g earlier
      (λ (m : ℕ) (h : m < length old.shapes). extends.same m s h);
}

-- the value of a node in the list of all values
pub value_at-place : (network : Network) (n : ℕ) (s : ℕ → Bool) (values : List Bool) → values ≡ values_after s [] network.shapes → (v : Bool) → v ≡ get_or values n v → n < length network.shapes → v ≡ value_at network n s
unfolding value_at
value_at-place network n s values is v at h =
    let there : n < length values = omega (arith, ap length is, length-values_after s [] network.shapes) in
    at ∙ get_or_default values n v false there ∙ ap (λ vs. get_or vs n false) is

pub length-values : (network : Network) (s : ℕ → Bool) (values : List Bool) → values ≡ values_after s [] network.shapes → length values ≡ length network.shapes
length-values network s values is = omega (arith, ap length is, length-values_after s [] network.shapes)
