-- Local names that stand inside others.
use Rattle.std.proofs.Common.{◌≡◌, ℕ, ◌<◌, ◌≤◌, List, [], ◌∷◌, ◌++◌, length, drop, refl, sym, ap, ◌∙◌, subst, append_assoc, arith, length-append}
use Rattle.alloy_syntax.specs.declared.tree.Name.{Name}
use Rattle.alloy_syntax.specs.Tree.{Declarations, no_declarations, more_declarations, Bindings, no_bindings, more_bindings}
use Rattle.named_model.specs.Names.{onto, behind_declarations, behind_bindings}
use Rattle.name_tables.specs.InForce.{InForce, with_locals}

-- these stand inside those
abbrev pub IsInside : List (List ℕ) → List (List ℕ) → Type 0
IsInside inner outer = (more : List (List ℕ)) × (inner ≡ more ++ outer)

inside_step : (inner middle outer : List (List ℕ)) → IsInside inner middle → IsInside middle outer → IsInside inner outer
inside_step inner middle outer a b = (a.0 ++ b.0, a.1 ∙ ap (λ xs. a.0 ++ xs) b.1 ∙ sym (append_assoc a.0 b.0 outer))

pub onto_inside : (ns : List Name) (locals : List (List ℕ)) → IsInside (onto ns locals) locals
onto_inside [] locals = ([], refl)
onto_inside (n ∷ ns) locals = inside_step (onto ns (n.text ∷ locals)) (n.text ∷ locals) locals (onto_inside ns (n.text ∷ locals)) (n.text ∷ [], refl)

pub declarations_inside : (ds : Declarations) (locals : List (List ℕ)) → IsInside (behind_declarations locals ds) locals
declarations_inside no_declarations locals = ([], refl)
declarations_inside (more_declarations disjoint names mark domain rest) locals =
    inside_step (behind_declarations (onto names locals) rest) (onto names locals) locals (declarations_inside rest (onto names locals)) (onto_inside names locals)

pub bindings_inside : (bs : Bindings) (locals : List (List ℕ)) → IsInside (behind_bindings locals bs) locals
bindings_inside no_bindings locals = ([], refl)
bindings_inside (more_bindings name value rest) locals =
    inside_step (behind_bindings (name.text ∷ locals) rest) (name.text ∷ locals) locals (bindings_inside rest (name.text ∷ locals)) (name.text ∷ [], refl)

-- the innermost one is left
pub one_left : (more outer : List (List ℕ)) → length outer < length (more ++ outer) → IsInside (drop 1 (more ++ outer)) outer
one_left [] outer l = absurd (omega arith)
one_left (x ∷ more) outer l = (more, refl)

-- no other is
pub none_left : (more outer : List (List ℕ)) → length (more ++ outer) ≤ length outer → more ++ outer ≡ outer
none_left [] outer l = refl
none_left (x ∷ more) outer l = absurd (omega (arith, length-append more outer))

-- the innermost one is left, which stood inside those
pub leave_one : (old each new : InForce) (outer : List (List ℕ)) → length outer < length each.locals → new ≡ with_locals each (drop 1 each.locals)
    → IsInside each.locals outer × (each ≡ with_locals old each.locals) → IsInside new.locals outer × (new ≡ with_locals old new.locals)
leave_one old each new outer deep is inside =
    let more = inside.0.0 in
    let split : each.locals ≡ more ++ outer = inside.0.1 in
    let left : new.locals ≡ drop 1 each.locals = ap (λ (m : InForce). m.locals) is in
    let below : length outer < length (more ++ outer) = subst (λ (ls : List (List ℕ)). length outer < length ls) split deep in (
      subst (λ (ls : List (List ℕ)). IsInside ls outer) (sym (left ∙ ap (drop 1) split)) (one_left more outer below),
      is ∙ ap (λ (m : InForce). with_locals m (drop 1 each.locals)) inside.1 ∙ ap (with_locals old) (sym left),
    )

-- the names are as before, once those that came inside are left
pub all_left : (old now new : InForce) (depth : ℕ) (behind : List (List ℕ)) → IsInside behind old.locals → now ≡ with_locals old behind
    → ((inner outer : List (List ℕ)) → now.locals ≡ inner ++ outer → length outer ≡ depth → new ≡ with_locals now outer)
    → depth ≡ length old.locals → new ≡ old
all_left old now new depth behind inside is left depth_is =
    left inside.0 old.locals (ap (λ (m : InForce). m.locals) is ∙ inside.1) (sym depth_is) ∙ ap (λ (m : InForce). with_locals m old.locals) is
