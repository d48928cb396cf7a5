-- Local names that were entered, by their numbers, and left again.
use Rattle.std.proofs.Common.{◌≡◌, ℕ, zero, suc, ◌+◌, ◌-◌, ◌<◌, ◌≤◌, List, [], ◌∷◌, ◌++◌, map, reverse, length, get_or, take, refl, sym, ap, ◌∙◌, append_assoc, arith}
use Rattle.std.proofs.Math.Seq.{take-append_seam}
use Rattle.std.proofs.lemmas.List.{get_or-reverse, get_or-map, get_or_past, length-map, length-reverse, reverse-reverse, reverse-append, take-map}
use Rattle.rel_formula.specs.Kernel.{nothing}
use Rattle.named_model.specs.Phrase.{PhraseTrees, no_phrases, more_phrases, DomainTrees, no_domains, more_domains}
use Rattle.lowering_rules.specs.Binders as binders
use Rattle.lowering_rules.specs.Binders.{under, local_at, given, variable, behind_variables, behind_domains}
use Rattle.lowering_rules.specs.Parts.{expression_in}
use Rattle.lowering_rules.specs.Lowering.{Base, lowered, behind_values}
use Rattle.body_lowering.specs.declared.locals.Local.{Local}
use Rattle.body_lowering.specs.Locals.{local_view, locals_view}

-- ---- by number

module _ (ls : List Local) (i d : ℕ) where
  abbrev otherwise : binders.Local
  otherwise = record { depth = d; expression = nothing }

  pub none_is : length ls ≤ i → nothing ≡ local_at (locals_view ls) i d
  none_is past =
      let few : length (reverse (map local_view ls)) ≤ i = omega (arith, past, length-reverse (map local_view ls), length-map ls local_view) in
      ap (under d) (sym (get_or_past (reverse (map local_view ls)) i otherwise few))

  pub local_is : (l : Local) → i < length ls → l ≡ get_or ls (length ls - 1 - i) l → under d (local_view l) ≡ local_at (locals_view ls) i d
  local_is l below is =
      let seen = map local_view ls in
      let long : length seen ≡ length ls = length-map ls local_view in
      ap (under d) (sym (
      get_or-reverse seen i otherwise (omega (arith, below, long))
      ∙ ap (λ n. get_or seen (n - 1 - i) otherwise) long
      ∙ get_or-map local_view ls (length ls - 1 - i) l otherwise (omega (arith, below))
      ∙ ap local_view (sym is)))

-- ---- inside others

-- these stand inside those
abbrev pub IsInside : List binders.Local → List binders.Local → Type 0
IsInside inner outer = (more : List binders.Local) × (inner ≡ more ++ outer)

-- the outer ones are left, where the inner ones are cut off
pub left_again : (all old : List Local) (inner : List binders.Local) → locals_view all ≡ inner → IsInside inner (locals_view old) → locals_view (take (length old) all) ≡ locals_view old
left_again all old inner are inside =
    let seen = map local_view old in
    let whole : map local_view all ≡ seen ++ reverse inside.0 =
    sym (reverse-reverse (map local_view all)) ∙ ap reverse (are ∙ inside.1) ∙ reverse-append inside.0 (reverse seen) ∙ ap (λ xs. xs ++ reverse inside.0) (reverse-reverse seen) in
    ap reverse (
    sym (take-map local_view (length old) all)
    ∙ ap (take (length old)) whole
    ∙ ap (λ n. take n (seen ++ reverse inside.0)) (sym (length-map old local_view))
    ∙ take-append_seam seen (reverse inside.0))

behind : (inner middle outer : List binders.Local) → IsInside inner middle → IsInside middle outer → IsInside inner outer
behind inner middle outer a b = (a.0 ++ b.0, a.1 ∙ ap (λ xs. a.0 ++ xs) b.1 ∙ sym (append_assoc a.0 b.0 outer))

one_behind : (l : binders.Local) (ls : List binders.Local) → IsInside (l ∷ ls) ls
one_behind l ls = (l ∷ [], refl)

variables_inside : (k n : ℕ) (ls : List binders.Local) → IsInside (behind_variables k n ls) ls
variables_inside k zero ls = ([], refl)
variables_inside k (suc n) ls = behind (behind_variables (k + 1) n (variable k ∷ ls)) (variable k ∷ ls) ls (variables_inside (k + 1) n (variable k ∷ ls)) (one_behind (variable k) ls)

pub domains_inside : (d : ℕ) (ds : DomainTrees) (ls : List binders.Local) → IsInside (behind_domains d ds ls) ls
domains_inside d no_domains ls = ([], refl)
domains_inside d (more_domains disjoint n mark x ds) ls =
    behind (behind_domains (d + n) ds (behind_variables d n ls)) (behind_variables d n ls) ls (domains_inside (d + n) ds (behind_variables d n ls)) (variables_inside d n ls)

pub values_inside : (base : Base) (d : ℕ) (xs : PhraseTrees) (ls : List binders.Local) → IsInside (behind_values base ls d xs) ls
values_inside base d no_phrases ls = ([], refl)
values_inside base d (more_phrases x xs) ls =
    let l = given d (expression_in (lowered base ls d x)) in
    behind (behind_values base (l ∷ ls) d xs) (l ∷ ls) ls (values_inside base d xs (l ∷ ls)) (one_behind l ls)

-- ---- variables

-- a variable more
pub entered_more : (k end : ℕ) (old new whole : List binders.Local) → k < end → new ≡ variable k ∷ old → behind_variables k (end - k) old ≡ whole → behind_variables (k + 1) (end - (k + 1)) new ≡ whole
entered_more k end old new whole l more before =
    let e : end - k ≡ suc (end - (k + 1)) = omega arith in
    ap (behind_variables (k + 1) (end - (k + 1))) more ∙ sym (ap (λ n. behind_variables k n old) e) ∙ before
