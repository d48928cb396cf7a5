-- Facts on atoms, tuples and their comparison.
use Rattle.std.proofs.Common.{◌≡◌, ◌+◌, List, [], ◌∷◌, ◌++◌, length, Some, ap, sym, ◌∙◌, ◌↔◌, arith, length-append, ◌==◌}
use Rattle.std.specs.Bool.{Decides}
use Rattle.std.specs.Cmp.Lexicographic.{pointwise, pointwise_decides}
use Rattle.std.proofs.lemmas.Bool.Decides.{Decides-eqb, Decides-and, Decides-like}
use Rattle.std.proofs.lemmas.List.{same_from_push}
use Rattle.tuple_core.specs.declared.atom.Atom.{Atom}
use Rattle.tuple_core.specs.Swap.{atom_eq}
use Rattle.tuple_core.specs.Equality.{tuple_eq, set_eq}
use Rattle.tuple_core.specs.Operators.{JoinsTo}
use Rattle.tuple_core.specs.Rows.{Rows}

pub same_atom : (a b : Atom) → a.top ≡ b.top → a.place ≡ b.place → a ≡ b
same_atom a b p q =
    let first : a ≡ record { top = b.top; place = a.place } = ap (λ x. let r : Atom = record { top = x; place = a.place } in r) p in
    first ∙ ap (λ y. let r : Atom = record { top = b.top; place = y } in r) q

pub atom_eq-decides : (a b : Atom) → Decides (atom_eq a b) (a ≡ b)
atom_eq-decides a b =
    Decides-like {P = (a.top ≡ b.top) × (a.place ≡ b.place)} (atom_eq a b) (λ h. same_atom a b h.0 h.1) (λ e. (ap (λ (x : Atom). x.top) e, ap (λ (x : Atom). x.place) e))
    (Decides-and (a.top == b.top) (a.place == b.place) (Decides-eqb a.top b.top) (Decides-eqb a.place b.place))

pub tuple_eq-decides : (s t : List Atom) → Decides (pointwise atom_eq s t) (s ≡ t)
tuple_eq-decides = pointwise_decides atom_eq-decides

pub same_set : (v w : Rows) → v.arity ≡ w.arity → v.rows ≡ w.rows → v ≡ w
same_set v w p q =
    let first : v ≡ record { arity = w.arity; rows = v.rows } = ap (λ n. let r : Rows = record { arity = n; rows = v.rows } in r) p in
    first ∙ ap (λ xs. let r : Rows = record { arity = w.arity; rows = xs } in r) q

-- a join is as long as both sides without two atoms
pub JoinsTo-length : (l r t : List Atom) → JoinsTo l r t → length t + 2 ≡ length l + length r
JoinsTo-length l r t j =
    let ll : length l ≡ length j.0 + 1 = ap length j.3 ∙ length-append j.0 (j.1 ∷ []) in
    let rr : length r ≡ length j.2 + 1 = ap length j.4 ∙ omega arith in
    let tt' : length t ≡ length j.0 + length j.2 = ap length j.5 ∙ length-append j.0 j.2 in
    omega arith

pub same_some : {X : Type 0} (x y : X) → (y ≡ x) ↔ (Some x ≡ Some y)
same_some x y = (λ e. ap (λ z. Some z) (sym e), λ e. cc)

-- a tuple has one first atom, and one last
pub same_first : (x y : Atom) (xs ys : List Atom) → x ∷ xs ≡ y ∷ ys → x ≡ y
same_first x y xs ys e = cc

pub same_last : (xs ys : List Atom) (x y : Atom) → xs ++ x ∷ [] ≡ ys ++ y ∷ [] → x ≡ y
same_last xs ys x y e = (same_from_push xs ys x y e).1

pub set_eq-decides : (v w : Rows) → Decides (set_eq v w) (v ≡ w)
set_eq-decides v w =
    Decides-like {P = (v.arity ≡ w.arity) × (v.rows ≡ w.rows)} (set_eq v w) (λ h. same_set v w h.0 h.1) (λ e. (ap (λ (r : Rows). r.arity) e, ap (λ (r : Rows). r.rows) e))
    (Decides-and (v.arity == w.arity) (pointwise tuple_eq v.rows w.rows) (Decides-eqb v.arity w.arity) (pointwise_decides tuple_eq-decides v.rows w.rows))
