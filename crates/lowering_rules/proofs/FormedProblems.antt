-- The problem of a model and a command is as every problem is.
use Rattle.std.specs.Prelude.{slice_index_or}
use Rattle.std.proofs.Common.{◌≡◌, ◌≢◌, ℕ, ◌<◌, ◌≤◌, List, map, length, is_none, Contains, All, AllPairs, sym, ◌∙◌, ap, subst, arith}
use Rattle.std.proofs.lemmas.List.{get_or_default}
use Rattle.std.proofs.lemmas.List.Elements.{Contains-get_or}
use Rattle.tuple_core.specs.declared.atom.Atom.{Atom}
use Rattle.tuple_core.specs.Rows.{IsRows}
use Rattle.rel_formula.specs.declared.problem.Relation.{Relation}
use Rattle.rel_formula.specs.Shape.{IsProper}
use Rattle.rel_formula.specs.Bounds.{Bounded, IsRelation, IsProblem, IsAtomOf, relation_at, cells_of}
use Rattle.rel_formula.proofs.Lists.{some_below}
use Rattle.rel_formula.proofs.Tabled.{no_relation}
use Rattle.named_model.specs.Model.{NamedTree}
use Rattle.named_model.specs.Signatures.{tops}
use Rattle.model_sizes.specs.declared.size.Size.{Size}
use Rattle.model_sizes.specs.Sizes.{default_of, listings_of, scope_at}
use Rattle.lowering_rules.specs.Relations.{Outline, IsOutlined, outlines}
use Rattle.lowering_rules.specs.Problem.{ProblemOf}
use Rattle.lowering_rules.proofs.Outlined.{outlined_at}
use Rattle.lowering_rules.proofs.Symmetric.{atom_placed}
use Rattle.lowering_rules.proofs.Tops.{picked_rise, sized, sizes_count}
use Rattle.lowering_rules.proofs.Atoms.{below, outlined, top_at}

relation_right : (sizes : List Size) (o : Outline) (r : Relation) → IsOutlined sizes o r → IsRows r.lower → IsRows r.upper → IsRelation r
relation_right sizes o r is low up = record {
  lower = low;
  upper = up;
  arity = is.upper.arity_is ∙ sym is.lower.arity_is;
  within = λ k d l.
      let t = slice_index_or r.lower.rows k d in
      (is.upper.just t).1 ((is.lower.just t).0 (Contains-get_or r.lower.rows k d l)).1;
}

module _ (m : NamedTree) (n : ℕ) (facts : List ℕ) (p : Bounded) (of : ProblemOf m n facts p) where
  relations_right : All (λ (r : Relation). IsRows r.lower × IsRows r.upper) p.relations → All IsRelation p.relations
  relations_right rows k d l =
      let o = outlined_at of.sizes (outlines m of.sizes) p.relations of.relations k l in
      let sets = rows k no_relation l in
      subst IsRelation (sym (get_or_default p.relations k d no_relation l)) (relation_right of.sizes o.0 (relation_at p.relations k) o.2 sets.0 sets.1)

  top_of_all : (k d : ℕ) → k < length p.tops → Contains p.tops (slice_index_or p.tops k d)
  top_of_all k d l = Contains-get_or p.tops k d l

  atom_named : (a : Atom) → IsAtomOf p a → a.top < length p.tops
  atom_named a is =
      let place = atom_placed m n facts p of a is in
      let l = some_below of.sizes a.top place.0 place.1 in
      let scope = scope_at m.commands n in
      let count = sizes_count m.signatures (listings_of scope) (default_of scope) (tops m.signatures) of.sizes (sized m n of.sizes of.commands.sized).0 in
      let same : length p.tops ≡ length (tops m.signatures) = ap length of.tops in
      omega arith

  pub is_problem : All (λ (r : Relation). IsRows r.lower × IsRows r.upper) p.relations → AllPairs (λ (r s : Relation). r.name ≢ s.name) p.relations →
      length p.relations ≤ 128 → length (cells_of p) ≤ 4096 → IsProper (map (λ (r : Relation). r.lower.arity) p.relations) 0 p.formula → IsProblem p
  is_problem rows names few cells proper = record {
    few = few;
    few_cells = cells;
    relations = relations_right rows;
    names = names;
    tops = λ k d l. below m n facts p of (slice_index_or p.tops k d) (top_at m n facts p of (slice_index_or p.tops k d) (top_of_all k d l)).0;
    unary = λ k d l. (outlined m n facts p of (slice_index_or p.tops k d) (top_at m n facts p of (slice_index_or p.tops k d) (top_of_all k d l)).0).upper.arity_is;
    rising = subst (AllPairs (λ r s. r < s)) (sym of.tops) (picked_rise (λ x. is_none x.parent) 0 m.signatures);
    atoms = atom_named;
    proper = proper;
  }
