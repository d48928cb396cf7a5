-- The variables of one declaration before those of others.
use Rattle.std.proofs.Common.{◌≡◌, ℕ, ◌+◌, List, [], ◌++◌, ◌∙◌, append_assoc, arith, if◌then◌else◌, map}
use Rattle.rel_formula.specs.Kernel.{ExpressionTree, FormulaTree}
use Rattle.named_model.specs.Phrase.{DomainTree, DomainTrees, more_domains}
use Rattle.lowering_rules.specs.Binders as binders
use Rattle.lowering_rules.specs.Binders.{under, variables, behind_variables, behind_domains, variables_in, domain_of_each, differences, differences_in}
use Rattle.lowering_rules.specs.Parts.{expression_in}
use Rattle.lowering_rules.specs.Lowering.{Base, lowered, domains_lowered}

abbrev pub domain_first : DomainTree → DomainTrees → DomainTrees
domain_first x ds = more_domains x.disjoint x.count x.mark x.domain ds

module _ (x : DomainTree) (ds : DomainTrees) where
  pub counted : (n k : ℕ) → k ≡ n + x.count → k + variables_in ds ≡ n + variables_in (domain_first x ds)
  counted n k e = omega (arith, e)

  pub entered : (n k : ℕ) (old new : List binders.Local) → k ≡ n + x.count → new ≡ behind_variables n x.count old → behind_domains k ds new ≡ behind_domains n (domain_first x ds) old
  entered n k old new e f = (λ i. behind_domains (e i) ds (f i))

  pub added : (base : Base) (n k : ℕ) (old new : List binders.Local) (es fs : List ExpressionTree) → k ≡ n + x.count → new ≡ behind_variables n x.count old
      → fs ≡ es ++ domain_of_each 0 (expression_in (lowered base old n x.domain)) x.count
      → fs ++ domains_lowered base new k ds ≡ es ++ domains_lowered base old n (domain_first x ds)
  added base n k old new es fs e f g =
      let rest = domains_lowered base (behind_variables n x.count old) (n + x.count) ds in
      (λ i. g i ++ domains_lowered base (f i) (e i) ds) ∙ append_assoc es (domain_of_each 0 (expression_in (lowered base old n x.domain)) x.count) rest

  pub apart : (d n k : ℕ) (old new : List FormulaTree) → k ≡ n + x.count → new ≡ old ++ (if x.disjoint then differences (map (under d) (variables n x.count)) else [])
      → new ++ differences_in d k ds ≡ old ++ differences_in d n (domain_first x ds)
  apart d n k old new e f =
      (λ i. f i ++ differences_in d (e i) ds) ∙ append_assoc old (if x.disjoint then differences (map (under d) (variables n x.count)) else []) (differences_in d (n + x.count) ds)
