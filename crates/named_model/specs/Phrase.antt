-- The trees of the parts of a model, with every name tied to its declaration.
use Rattle.std.specs.Prelude.{ℕ, List, [], ◌∷◌, Bool, Option}
use Rattle.alloy_lex.specs.declared.token.Place.{Place}
use Rattle.alloy_syntax.specs.declared.tree.Number.{Number}
use Rattle.alloy_syntax.specs.declared.tree.MultiplicityWord.{MultiplicityWord}
use Rattle.alloy_syntax.specs.declared.tree.Quantifier.{Quantifier}
use Rattle.alloy_syntax.specs.declared.tree.Constant.{Constant}
use Rattle.alloy_syntax.specs.declared.tree.Prefix.{Prefix}
use Rattle.alloy_syntax.specs.declared.tree.Operator.{Operator}
use Rattle.alloy_syntax.specs.declared.tree.Comparing.{Comparing}
use Rattle.named_model.specs.declared.phrase.Referent.{Referent}

-- an expression, a formula or a number
mutual
  pub data PhraseTree : Type 0 where
    refers : Place → Referent → PhraseTree
    -- a call of the predicate or function of a number, with its arguments
    called : Place → ℕ → PhraseTrees → PhraseTree
    numbered : Number → PhraseTree
    constant : Constant → Place → PhraseTree
    bracketed : Place → PhraseTree → PhraseTree
    block : Place → PhraseTrees → PhraseTree
    prefixed : Prefix → Place → PhraseTree → PhraseTree
    chain : PhraseTree → LinkTrees → PhraseTree
    path : PhraseTree → StepTrees → PhraseTree
    compared : PhraseTree → Comparing → PhraseTree → PhraseTree
    implies : PhraseTree → Place → PhraseTree → PhraseTree
    implies_else : PhraseTree → Place → PhraseTree → PhraseTree → PhraseTree
    quantified : Quantifier → Place → DomainTrees → PhraseTree → PhraseTree
    -- the values of the names of a `let`, and the part that sees them
    bound_by_let : Place → PhraseTrees → PhraseTree → PhraseTree

  pub data PhraseTrees : Type 0 where
    no_phrases : PhraseTrees
    more_phrases : PhraseTree → PhraseTrees → PhraseTrees

  pub data LinkTrees : Type 0 where
    no_links : LinkTrees
    more_links : Operator → Place → PhraseTree → LinkTrees → LinkTrees

  pub data StepTrees : Type 0 where
    no_steps : StepTrees
    join_first : Place → PhraseTree → StepTrees → StepTrees
    brackets_first : Place → PhraseTrees → StepTrees → StepTrees

  -- whether the variables are disjoint, how many they are, the word before their domain, and the domain
  pub data DomainTrees : Type 0 where
    no_domains : DomainTrees
    more_domains : Bool → ℕ → Option MultiplicityWord → PhraseTree → DomainTrees → DomainTrees

-- an operator of a chain, and the operand behind it
pub record LinkTree : Type 0 where
  pub operator : Operator
  pub place : Place
  pub operand : PhraseTree

-- a join or brackets behind an expression
pub data StepTree : Type 0 where
  joined : Place → PhraseTree → StepTree
  in_brackets : Place → List PhraseTree → StepTree

-- so many variables with their domain
pub record DomainTree : Type 0 where
  pub disjoint : Bool
  pub count : ℕ
  pub mark : Option MultiplicityWord
  pub domain : PhraseTree

abbrev pub phrases_of : List PhraseTree → PhraseTrees
phrases_of [] = no_phrases
phrases_of (t ∷ ts) = more_phrases t (phrases_of ts)

abbrev pub links_of : List LinkTree → LinkTrees
links_of [] = no_links
links_of (l ∷ ls) = more_links l.operator l.place l.operand (links_of ls)

abbrev pub step_first : StepTree → StepTrees → StepTrees
step_first (joined p t) steps = join_first p t steps
step_first (in_brackets p ts) steps = brackets_first p (phrases_of ts) steps

abbrev pub steps_of : List StepTree → StepTrees
steps_of [] = no_steps
steps_of (s ∷ ss) = step_first s (steps_of ss)

abbrev pub domains_of : List DomainTree → DomainTrees
domains_of [] = no_domains
domains_of (d ∷ ds) = more_domains d.disjoint d.count d.mark d.domain (domains_of ds)
