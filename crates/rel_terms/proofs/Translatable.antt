-- Problems with one top-level signature, few atoms and few terms.
use Rattle.std.proofs.Common.{◌≡◌, ℕ, ◌≤◌, ◌^◌, List, [], ◌∷◌, Contains, map, length, get_or, refl, sym, ◌∙◌, ap, subst, arith}
use Rattle.std.proofs.lemmas.List.{length-map, get_or-map}
use Rattle.tuple_core.specs.declared.atom.Atom.{Atom}
use Rattle.tuple_core.specs.Rows.{Rows, IsSetOf}
use Rattle.rel_formula.specs.Bounds.{Bounded, InAtoms}
use Rattle.rel_formula.proofs.OneSetOfAtoms.{only_one}
use Rattle.rel_terms.specs.Terms.{HasTerms, IsTranslatable}

-- the first atom of a tuple
abbrev head : List Atom → Atom
head t = get_or t 0 (record { top = 0; place = 0 })

heads_have : (rows : List (List Atom)) (a : Atom) → Contains rows (a ∷ []) → Contains (map head rows) a
heads_have rows a c =
    let l = c.1 in
    let at : get_or (map head rows) c.0 a ≡ a = get_or-map head rows c.0 (a ∷ []) a l ∙ ap head c.2 in
    (c.0, (let n = length-map rows head in omega arith), at)

pub one_top : (p : Bounded) (atoms : Rows) (n : ℕ) → p.tops ≡ 0 ∷ [] → IsSetOf atoms 1 (InAtoms p) → length atoms.rows ≤ 64 → HasTerms p n → n ≤ 2 ^ 18 → IsTranslatable p
one_top p atoms n tops set few has most =
    let top : (r : ℕ) → Contains p.tops r → 0 ≡ r = λ r c. only_one 0 r (subst (λ (ts : List ℕ). Contains ts r) tops c) in
    record {
      few_atoms = (map head atoms.rows, (let m = length-map atoms.rows head in omega arith), λ a is. heads_have atoms.rows a ((set.just (a ∷ [])).1 (a, is, refl)));
      disjoint_tops = λ r s t c d x y. sym (top r c) ∙ top s d;
      few_terms = (n, has, most);
    }
