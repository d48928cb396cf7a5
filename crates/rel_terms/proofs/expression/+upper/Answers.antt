use Rattle.std.proofs.Common.{◌≡◌, ℕ, [], ◌∷◌, Contains, length, get_or, subst, sym, reverse, List, refl}
use Rattle.tuple_core.specs.declared.atom.Atom.{Atom}
use Rattle.tuple_core.specs.Rows.{Rows}
use Rattle.tuple_core.proofs.Congruence.{rows_same}
use Rattle.rel_formula.specs.declared.formula.Expression.{Expression}
use Rattle.rel_formula.specs.declared.problem.Relation.{Relation}
use Rattle.rel_formula.specs.Bounds.{Bounded}
use Rattle.rel_formula.specs.Instance.{InSome}
use Rattle.rel_formula.specs.Sizes.{HasSize}
use Rattle.rel_formula.specs.View.{expression_tree}
use Rattle.rel_formula.specs.Shape.{arity_of, IsWellFormed}
use Rattle.rel_terms.specs.Upper.{InUpperSet, IsAtomAt, upper_structure}
use Rattle.rel_terms.specs.Terms.{InUpperAt, ExpressionHas}
use Rattle.rel_terms.specs.Counting.{IsCounted, arities_of}
use Rattle.rel_terms.proofs.Counted.{combined_counted, turned_counted}
use Rattle.rel_terms.proofs.Leaves.{leaf_counted, relation_counted, variable_same, nothing_counted, doubled_same}
use Rattle.rel_terms.proofs.expression.+upper.Goals as goal

-- v is the upper value of e, whose terms were added
abbrev IsUpper : Bounded → List Atom → Rows → ℕ → Expression → ℕ → Type 0
IsUpper p env v b e a =
    IsCounted v (arity_of (arities_of p) (expression_tree e)) (InUpperAt (upper_structure p) (reverse env) (expression_tree e)) (ExpressionHas (upper_structure p) (reverse env) (expression_tree e)) b a

pub returns-in_ok-whole-in-Rel : goal.returns-in_ok-whole-in-Rel
returns-in_ok-whole-in-Rel t c =
    let p = c.args.problem.now in
    let v = c.in_ok-whole-in-Rel.field-0 in
    let a = c.whole.new.tally.terms in
    let formed = subst (λ (e : Expression). IsWellFormed (arities_of p) (length c.args.env.now) (expression_tree e)) c.in-Rel.is c.requires.formed in
    let x = c.index-relations-r.result in
    let is : x ≡ get_or p.relations c.in-Rel.r x = subst (λ (rs : List Relation). x ≡ get_or rs c.in-Rel.r x) c.relations.ensures.value c.index-relations-r.is in
    subst (λ b. IsUpper p c.args.env.now v b c.args.e.now a) c.in_ok-look.ensures.terms
    (subst (λ e. IsUpper p c.args.env.now v c.look.new.self.terms e a) (sym c.in-Rel.is)
    (relation_counted p c.in-Rel.r x v c.look.new.self.terms a c.requires.problem formed is
    (subst (λ (y : Relation). IsCounted v y.upper.arity (Contains y.upper.rows) (HasSize (Contains y.upper.rows)) c.look.new.self.terms a) (sym c.index-relations-r.is) c.in_ok-whole-in-Rel.ensures)))

pub returns-in_ok-single-in-Var : goal.returns-in_ok-single-in-Var
returns-in_ok-single-in-Var t c =
    let p = c.args.problem.now in
    let env = c.args.env.now in
    let v = c.in_ok-single-in-Var.field-0 in
    let a = c.single.new.tally.terms in
    let formed = subst (λ (e : Expression). IsWellFormed (arities_of p) (length env) (expression_tree e)) c.in-Var.is c.requires.formed in
    let same = variable_same env c.in-Var.i _ (record { top = 0; place = 0 }) formed refl in
    subst (λ b. IsUpper p env v b c.args.e.now a) c.in_ok-look.ensures.terms
    (subst (λ e. IsUpper p env v c.look.new.self.terms e a) (sym c.in-Var.is)
    (leaf_counted 1 _ (IsAtomAt (reverse env) c.in-Var.i) refl same c.in_ok-single-in-Var.ensures))

pub returns-in-None : goal.returns-in-None
returns-in-None t c =
    let p = c.args.problem.now in
    let a = c.look.new.self.terms in
    subst (λ b. IsUpper p c.args.env.now c.new.result b c.args.e.now a) c.in_ok-look.ensures.terms
    (subst (λ e. IsUpper p c.args.env.now c.new.result a e a) (sym c.in-None.is) (nothing_counted c.new.ensures.arity c.new.ensures.rows))

pub returns-in_ok-whole-in-Univ : goal.returns-in_ok-whole-in-Univ
returns-in_ok-whole-in-Univ t c =
    let p = c.args.problem.now in
    let v = c.in_ok-whole-in-Univ.field-0 in
    let a = c.whole-in-Univ.new.tally.terms in
    subst (λ b. IsUpper p c.args.env.now v b c.args.e.now a) c.in_ok-look.ensures.terms
    (subst (λ e. IsUpper p c.args.env.now v c.look.new.self.terms e a) (sym c.in-Univ.is)
    (leaf_counted 1 (Contains c.args.universe.now.rows) (InSome p.tops (InUpperSet p)) c.requires.universe.arity_is (rows_same c.requires.universe) c.in_ok-whole-in-Univ.ensures))

pub returns-in_ok-identity-in-Iden : goal.returns-in_ok-identity-in-Iden
returns-in_ok-identity-in-Iden t c =
    let p = c.args.problem.now in
    let v = c.in_ok-identity-in-Iden.field-0 in
    let a = c.identity.new.tally.terms in
    let same = doubled_same (Contains c.args.universe.now.rows) (InSome p.tops (InUpperSet p)) (rows_same c.requires.universe) in
    subst (λ b. IsUpper p c.args.env.now v b c.args.e.now a) c.in_ok-look.ensures.terms
    (subst (λ e. IsUpper p c.args.env.now v c.look.new.self.terms e a) (sym c.in-Iden.is)
    (leaf_counted 2 _ (λ t. (x : Atom) × InSome p.tops (InUpperSet p) (x ∷ []) × (t ≡ x ∷ x ∷ [])) refl same c.in_ok-identity-in-Iden.ensures))

pub returns-in_ok-combined-in-Binary : goal.returns-in_ok-combined-in-Binary
returns-in_ok-combined-in-Binary t c =
    let p = c.args.problem.now in
    let env = c.args.env.now in
    let start = subst (λ b. IsUpper p env c.in_ok-left-in-Binary.left b c.deref.result.now c.upper.new.tally.terms) c.in_ok-look.ensures.terms c.in_ok-left-in-Binary.ensures in
    let left = subst (λ e. IsUpper p env c.in_ok-left-in-Binary.left c.args.tally.now.terms e c.upper.new.tally.terms) c.deref.ensures start in
    let right = subst (λ e. IsUpper p env c.in_ok-right-in-Binary.right c.upper.new.tally.terms e c.upper-in-Binary.new.tally.terms) c.deref-in-Binary.ensures c.in_ok-right-in-Binary.ensures in
    subst (λ e. IsUpper p env c.in_ok-combined-in-Binary.field-0 c.args.tally.now.terms e c.combined.new.tally.terms) (sym c.in-Binary.is)
    (combined_counted c.in-Binary.operator left right c.in_ok-combined-in-Binary.ensures)

pub returns-in_ok-turned_pairs-in-Unary : goal.returns-in_ok-turned_pairs-in-Unary
returns-in_ok-turned_pairs-in-Unary t c =
    let p = c.args.problem.now in
    let env = c.args.env.now in
    let v = c.in_ok-pairs-in-Unary.pairs in
    let x = c.upper-in-Unary.new.tally.terms in
    let start = subst (λ b. IsUpper p env v b c.deref-in-Unary.result.now x) c.in_ok-look.ensures.terms c.in_ok-pairs-in-Unary.ensures in
    let pairs = subst (λ e. IsUpper p env v c.args.tally.now.terms e x) c.deref-in-Unary.ensures start in
    subst (λ e. IsUpper p env c.in_ok-turned_pairs-in-Unary.field-0 c.args.tally.now.terms e c.turned_pairs.new.tally.terms) (sym c.in-Unary.is)
    (turned_counted c.in-Unary.operator pairs c.in_ok-turned_pairs-in-Unary.ensures)
