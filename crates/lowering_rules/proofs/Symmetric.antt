-- Every renaming keeps the bounds of the problem of a model and a command.
use Rattle.std.proofs.Common.{◌≡◌, ℕ, ◌<◌, ◌≤◌, inl, inr, List, [], ◌∷◌, map, length, Contains, sym, ◌∙◌, ap, subst, arith}
use Rattle.std.proofs.lemmas.Bool.{cases_lt}
use Rattle.std.proofs.lemmas.List.{get_or_past, get_or_default}
use Rattle.std.proofs.lemmas.List.Elements.{Contains-get_or}
use Rattle.tuple_core.specs.declared.atom.Atom.{Atom}
use Rattle.rel_formula.specs.declared.problem.Relation.{Relation}
use Rattle.rel_formula.specs.Bounds.{Bounded, IsAtomOf, relation_at}
use Rattle.rel_formula.specs.Renaming.{IsSymmetric}
use Rattle.rel_formula.proofs.OpenCells.{cons_first, cons_later}
use Rattle.rel_formula.proofs.Images.{map_undone}
use Rattle.rel_formula.proofs.Tabled.{no_relation}
use Rattle.named_model.specs.Model.{NamedTree}
use Rattle.lowering_rules.specs.Relations.{InProduct, MayHave, Outline, IsOutlined}
use Rattle.lowering_rules.specs.Problem.{ProblemOf}
use Rattle.lowering_rules.proofs.Outlined.{outlined_at, IsSomePlace, placed, place_moved}

module _ (m : NamedTree) (n : ℕ) (facts : List ℕ) (p : Bounded) (of : ProblemOf m n facts p) where
  -- each atom of the problem is a place
  pub atom_placed : (a : Atom) → IsAtomOf p a → IsSomePlace of.sizes a
  atom_placed a h =
      let r = h.1.0 in
      let l : r < length p.relations = h.1.1 in
      let same : h.0 ≡ relation_at p.relations r = sym h.1.2 ∙ get_or_default p.relations r h.0 no_relation l in
      let up = subst (λ (x : Relation). Contains x.upper.rows h.2.0) same h.2.1 in
      let o = outlined_at of.sizes _ p.relations of.relations r l in
      let may = (o.2.upper.just h.2.0).0 up in
      placed of.sizes may.0 h.2.0 may.2 a h.2.2

  Keeps : (Atom → Atom) → Type 0
  Keeps f = ((a : Atom) → (f a).top ≡ a.top) × ((a : Atom) → IsAtomOf p a → IsAtomOf p (f a))

  product_moved : (f : Atom → Atom) → Keeps f → (tops : List ℕ) (t : List Atom) → ((a : Atom) → Contains t a → IsAtomOf p a) → InProduct of.sizes tops t → InProduct of.sizes tops (map f t)
  unfolding Keeps
  product_moved f k [] [] atoms h = tt
  product_moved f k [] (b ∷ t) atoms h = absurd h
  product_moved f k (s ∷ tops) [] atoms h = absurd h
  product_moved f k (s ∷ tops) (b ∷ t) atoms h = (
    place_moved of.sizes s b (f b) h.0 (k.0 b) (atom_placed (f b) (k.1 b (atoms b (cons_first b t)))),
    product_moved f k tops t (λ a c. atoms a (cons_later b t a c)) h.1,
  )

  -- the image of what a relation may have
  moved : (f : Atom → Atom) → Keeps f → (r : ℕ) → r < length p.relations → (o : Outline) → IsOutlined of.sizes o (relation_at p.relations r) →
      (t : List Atom) → MayHave of.sizes o t → MayHave of.sizes o (map f t)
  moved f k r l o is t may =
      let atoms : (a : Atom) → Contains t a → IsAtomOf p a = λ a c. (relation_at p.relations r, Contains-get_or p.relations r no_relation l, (t, (is.upper.just t).1 may, c)) in
      (may.0, may.1, product_moved f k may.0 t atoms may.2)

  no_more : (r : ℕ) → length p.relations ≤ r → (t : List Atom) → (Contains (relation_at p.relations r).upper.rows t → ⊥) × (Contains (relation_at p.relations r).lower.rows t → ⊥)
  no_more r past t = (
    λ c. absurd (let d = subst (λ (x : Relation). Contains x.upper.rows t) (get_or_past p.relations r no_relation past) c in let h = d.1 in omega arith),
    λ c. absurd (let d = subst (λ (x : Relation). Contains x.lower.rows t) (get_or_past p.relations r no_relation past) c in let h = d.1 in omega arith),
  )

  upper_moved : (f : Atom → Atom) → Keeps f → (r : ℕ) (t : List Atom) → Contains (relation_at p.relations r).upper.rows t → Contains (relation_at p.relations r).upper.rows (map f t)
  upper_moved f k r t h = elim (cases_lt r (length p.relations)) [
    | inl l ↦
        let o = outlined_at of.sizes _ p.relations of.relations r l in
        (o.2.upper.just (map f t)).1 (moved f k r l o.0 o.2 t ((o.2.upper.just t).0 h))
    | inr past ↦ absurd ((no_more r past t).0 h)
  ]

  lower_moved : (f : Atom → Atom) → Keeps f → (r : ℕ) (t : List Atom) → Contains (relation_at p.relations r).lower.rows t → Contains (relation_at p.relations r).lower.rows (map f t)
  lower_moved f k r t h = elim (cases_lt r (length p.relations)) [
    | inl l ↦
        let o = outlined_at of.sizes _ p.relations of.relations r l in
        let has = (o.2.lower.just t).0 h in
        (o.2.lower.just (map f t)).1 (has.0, moved f k r l o.0 o.2 t has.1)
    | inr past ↦ absurd ((no_more r past t).1 h)
  ]

  pub symmetric : IsSymmetric p
  unfolding Keeps
  symmetric f g renaming =
      let there : Keeps f = (renaming.tops, renaming.atoms) in
      let back : Keeps g = (λ a. sym (renaming.tops (g a)) ∙ ap (λ (x : Atom). x.top) (renaming.there a), renaming.atoms_back) in
      record {
        lower = λ r t. (lower_moved f there r t, λ c. subst (Contains (relation_at p.relations r).lower.rows) (map_undone g f renaming.back t) (lower_moved g back r (map f t) c));
        upper = λ r t. (upper_moved f there r t, λ c. subst (Contains (relation_at p.relations r).upper.rows) (map_undone g f renaming.back t) (upper_moved g back r (map f t) c));
      }
