-- The step that comes first behind an expression.
use Rattle.std.proofs.Common.{◌≡◌, ◌+◌, ◌==◌, List, [], ◌∷◌, map, length, drop, Some, None, false, refl, sym, ap, ◌∙◌, add-one, Vec, Global}
use Rattle.alloy_lex.specs.declared.token.Place.{Place}
use Rattle.std.specs.List.{slice_get}
use Rattle.alloy_syntax.specs.declared.tree.Node.{Node}
use Rattle.alloy_syntax.specs.declared.tree.Node.TheOpen.{Step-F}
use Rattle.alloy_syntax.specs.declared.tree.Step.{Step as NodeStep, Brackets, fold-roll-Step}
use Rattle.alloy_syntax.specs.declared.tree.Step.TheVariants.{rolls-Brackets}
use Rattle.alloy_syntax.specs.Tree as tree
use Rattle.alloy_syntax.specs.Tree.{trees_of, steps_of}
use Rattle.alloy_syntax.specs.View.{views, step_view, node_level, step_level, binding_level, declaration_level, link_level}
use Rattle.named_model.specs.declared.phrase.Step.{Step}
use Rattle.named_model.specs.Phrase as phrase
use Rattle.named_model.specs.View as seen
use Rattle.named_model.specs.Names.{trees_count, bracketed_in, path_of}
use Rattle.sig_resolve.specs.Bodies.Each.{parts_in}

pub counted : (xs : List Node) → trees_count (trees_of (views xs)) ≡ length xs
counted [] = refl
counted (x ∷ xs) = ap (λ n. n + 1) (counted xs) ∙ add-one (length xs)

pub node_brackets_seen : (p : Place) (xs : Vec Node Global) → step_view (Brackets p xs) ≡ tree.in_brackets p (views xs.items)
node_brackets_seen p xs = ap step_view (sym (rolls-Brackets p xs)) ∙ fold-roll-Step tree.Tree tree.StepTree tree.BindingTree tree.DeclarationTree tree.LinkTree node_level step_level binding_level declaration_level link_level (Step-F.Brackets p xs)

pub brackets_counted : (p : Place) (xs : Vec Node Global) → parts_in (step_view (Brackets p xs)) ≡ length xs.items
brackets_counted p xs = ap parts_in (node_brackets_seen p xs) ∙ counted xs.items

-- the first step and the others
pub first_is : (steps : List NodeStep) (s : NodeStep) → Some s ≡ slice_get steps 0 → steps ≡ s ∷ drop 1 steps
first_is [] s e = absurd cc
first_is (x ∷ steps) s e = let same : s ≡ x = cc in ap (λ y. y ∷ steps) (sym same)

bracketed_first : (s : tree.StepTree) (rest : tree.Steps) → bracketed_in (tree.step_first s rest) ≡ parts_in s
bracketed_first (tree.joined p t) rest = refl
bracketed_first (tree.in_brackets p ts) rest = refl

pub bracketed_some : (steps : List NodeStep) (s : NodeStep) → Some s ≡ slice_get steps 0 → parts_in (step_view s) ≡ bracketed_in (steps_of (map step_view steps))
bracketed_some steps s e =
    sym (bracketed_first (step_view s) (steps_of (map step_view (drop 1 steps)))) ∙ ap (λ ss. bracketed_in (steps_of (map step_view ss))) (sym (first_is steps s e))

pub bracketed_none : (steps : List NodeStep) → None ≡ slice_get steps 0 → 0 ≡ bracketed_in (steps_of (map step_view steps))
bracketed_none [] e = refl
bracketed_none (x ∷ steps) e = absurd cc

path_first : (h : phrase.PhraseTree) (s : phrase.StepTree) (rest : phrase.StepTrees) → phrase.path h (phrase.step_first s rest) ≡ path_of h (phrase.step_first s rest)
path_first h (phrase.joined p x) rest = refl
path_first h (phrase.in_brackets p xs) rest = refl

-- where there are steps
pub path_some : (h : phrase.PhraseTree) (steps : List Step) → false ≡ (length steps == 0) → phrase.path h (phrase.steps_of (map seen.step_view steps)) ≡ path_of h (phrase.steps_of (map seen.step_view steps))
path_some h [] some = absurd cc
path_some h (s ∷ steps) some = path_first h (seen.step_view s) (phrase.steps_of (map seen.step_view steps))
