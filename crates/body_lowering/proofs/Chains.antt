-- Links of chains and steps of paths, one before the others.
use Rattle.std.proofs.Common.{◌≡◌, ℕ, List, ◌∷◌, map, refl, sym, ap, ◌∙◌, Bool, true, false, if◌then◌else◌}
use Rattle.alloy_syntax.specs.declared.tree.Operator.{Operator}
use Rattle.named_model.specs.declared.phrase.Link.{Link, fold_out-Link}
use Rattle.named_model.specs.View.{link_view, phrase_level, step_level, domain_level, link_level}
use Rattle.named_model.specs.Phrase.{PhraseTree, DomainTree, LinkTree, LinkTrees, more_links, links_of, StepTree, StepTrees, joined, in_brackets, step_first}
use Rattle.rel_formula.specs.Kernel.{more_formulas}
use Rattle.lowering_rules.specs.Binders.{Local}
use Rattle.lowering_rules.specs.Parts.{Lowered, formula_in, joins_all, operator_lowered, list_lowered}
use Rattle.lowering_rules.specs.Lowering.{Base, lowered, links_lowered, operands_lowered, steps_lowered}
use Rattle.body_lowering.specs.Steps.{step_lowered}

abbrev pub link_first : LinkTree → LinkTrees → LinkTrees
link_first l ls = more_links l.operator l.place l.operand ls

-- what is seen of a link's operator
pub operator_seen : (l : Link) → (link_view l).operator ≡ l.operator
operator_seen l = ap (λ (t : LinkTree). t.operator) (fold_out-Link PhraseTree StepTree DomainTree LinkTree phrase_level step_level domain_level link_level l)

module _ (base : Base) (ls : List Local) (d : ℕ) (x : Lowered) where
  module _ (y : LinkTree) (rest : LinkTrees) where
    -- two operands, or a list of them all
    abbrev pub chosen : Bool → Lowered
    chosen b =
        if b
        then list_lowered y.operator (more_formulas (formula_in x) (more_formulas (formula_in (lowered base ls d y.operand)) (operands_lowered base ls d rest)))
        else links_lowered base ls d (operator_lowered y.operator x (lowered base ls d y.operand)) rest

    pub two_by_two : joins_all y.operator ≡ false → links_lowered base ls d (operator_lowered y.operator x (lowered base ls d y.operand)) rest ≡ links_lowered base ls d x (link_first y rest)
    two_by_two e = sym (ap chosen e)

    pub all_at_once : joins_all y.operator ≡ true → list_lowered y.operator (more_formulas (formula_in x) (operands_lowered base ls d (link_first y rest))) ≡ links_lowered base ls d x (link_first y rest)
    all_at_once e = sym (ap chosen e)

  -- and so it is of a list of links
  pub listed : (y : Link) (ys all : List Link) → all ≡ y ∷ ys → joins_all y.operator ≡ true
      → list_lowered y.operator (more_formulas (formula_in x) (operands_lowered base ls d (links_of (map link_view all)))) ≡ links_lowered base ls d x (links_of (map link_view all))
  listed y ys all is e =
      let seen = operator_seen y in
      let rest = links_of (map link_view ys) in
      ap (λ (zs : List Link). list_lowered y.operator (more_formulas (formula_in x) (operands_lowered base ls d (links_of (map link_view zs))))) is
      ∙ ap (λ (o : Operator). list_lowered o (more_formulas (formula_in x) (operands_lowered base ls d (link_first (link_view y) rest)))) (sym seen)
      ∙ all_at_once (link_view y) rest (ap joins_all seen ∙ e)
      ∙ ap (λ (zs : List Link). links_lowered base ls d x (links_of (map link_view zs))) (sym is)

  pub step_by_step : (s : StepTree) (rest : StepTrees) → steps_lowered base ls d (step_lowered base ls d x s) rest ≡ steps_lowered base ls d x (step_first s rest)
  step_by_step (joined p y) rest = refl
  step_by_step (in_brackets p ys) rest = refl
