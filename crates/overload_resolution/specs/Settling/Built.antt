-- What is built of settled parts, where these are answers: the first fault in order, or the part and what it is.
use Rattle.std.specs.Prelude.{ℕ, ◌==◌, Bool, true, if◌then◌else◌, map, Result, Ok, Err}
use Rattle.alloy_lex.specs.declared.token.Place.{Place}
use Rattle.alloy_syntax.specs.declared.tree.Comparing.{Comparing}
use Rattle.alloy_syntax.specs.declared.tree.Prefix.{Prefix}
use Rattle.alloy_syntax.specs.declared.tree.Quantifier.{Quantifier}
use Rattle.named_model.specs.Answers.{◌>>=◌}
use Rattle.named_model.specs.Phrase.{PhraseTree, bracketed, block, prefixed, chain, path, compared, implies, implies_else, quantified, bound_by_let, PhraseTrees, LinkTree, LinkTrees, StepTrees, join_first, brackets_first, DomainTrees}
use Rattle.model_types.specs.declared.fault.TypeFault.{TypeFault}
use Rattle.model_types.specs.declared.fault.TypeFault.TheVariants as fault
use Rattle.model_types.specs.Sorts.{Kind, relation, formula, unless, first_place, as_relation, as_formula, prefix_kind, may_stand_left, fits_left, operator_arity, joined_arity, brackets_arity}
use Rattle.model_types.specs.Typing.{Settled, Arguments}
use Rattle.overload_resolution.specs.Settling.Single.{Linked, Stepped}

-- an answer, with what it holds seen by `see`
abbrev pub seen : {X Y : Type 0} → (X → Y) → Result X TypeFault → Result Y TypeFault
seen see (Ok x) = Ok (see x)
seen see (Err e) = Err e

-- ---- parts of a sort

abbrev pub relation_built : PhraseTree → Result Settled TypeFault → Result (PhraseTree × ℕ) TypeFault
relation_built x answer = answer >>= λ y. as_relation (first_place x) y.kind >>= λ n. Ok (y.tree, n)

abbrev pub domain_built : Bool → PhraseTree → Result (PhraseTree × ℕ) TypeFault → Result (PhraseTree × ℕ) TypeFault
domain_built single x answer = answer >>= λ y. unless (if single then y.1 == 1 else true) (fault.NotUnary (first_place x)) >>= λ one. Ok y

-- ---- parts with one inside

abbrev pub bracketed_built : Place → Result Settled TypeFault → Result Settled TypeFault
bracketed_built p answer = answer >>= λ y. Ok (record { tree = bracketed p y.tree; kind = y.kind })

abbrev pub block_built : Place → Result PhraseTrees TypeFault → Result Settled TypeFault
block_built p answer = answer >>= λ ys. Ok (record { tree = block p ys; kind = formula })

abbrev pub prefixed_built : Prefix → Place → PhraseTree → Result Settled TypeFault → Result Settled TypeFault
prefixed_built f p x answer = answer >>= λ y. prefix_kind f p (first_place x) y.kind >>= λ k. Ok (record { tree = prefixed f p y.tree; kind = k })

-- ---- parts with several inside, the first of which are settled

abbrev pub chain_built : PhraseTree → Result (LinkTrees × Kind) TypeFault → Result Settled TypeFault
chain_built x answer = answer >>= λ zs. Ok (record { tree = chain x zs.0; kind = zs.1 })

abbrev pub path_built : PhraseTree → Result (StepTrees × Kind) TypeFault → Result Settled TypeFault
path_built x answer = answer >>= λ zs. Ok (record { tree = path x zs.0; kind = zs.1 })

abbrev pub compared_built : Place → Settled → Comparing → PhraseTree → Result Settled TypeFault → Result Settled TypeFault
compared_built left y c b answer = may_stand_left c.comparison left y.kind >>= λ may. answer >>= λ z. fits_left c.place (first_place b) y.kind z.kind >>= λ right. Ok (record { tree = compared y.tree c z.tree; kind = formula })

abbrev pub implies_built : PhraseTree → Place → Result PhraseTree TypeFault → Result Settled TypeFault
implies_built x p answer = answer >>= λ z. Ok (record { tree = implies x p z; kind = formula })

abbrev pub else_built : PhraseTree → Place → Result PhraseTree TypeFault → Result PhraseTree TypeFault → Result Settled TypeFault
else_built x p second other = second >>= λ y. other >>= λ z. Ok (record { tree = implies_else x p y z; kind = formula })

abbrev pub quantified_built : Quantifier → Place → DomainTrees → Result PhraseTree TypeFault → Result Settled TypeFault
quantified_built q p es answer = answer >>= λ y. Ok (record { tree = quantified q p es y; kind = formula })

abbrev pub let_built : Place → PhraseTrees → Result PhraseTree TypeFault → Result Settled TypeFault
let_built p ys answer = answer >>= λ z. Ok (record { tree = bound_by_let p ys z; kind = formula })

-- ---- links and steps

abbrev pub connected_built : Place → Kind → LinkTree → Result PhraseTree TypeFault → Result Linked TypeFault
connected_built left k l answer = as_formula left k >>= λ is. answer >>= λ y. Ok (record { link = record { operator = l.operator; place = l.place; operand = y }; kind = formula })

abbrev pub combined_built : Place → Kind → LinkTree → Result Settled TypeFault → Result Linked TypeFault
combined_built left k l answer = do
  m ← as_relation left k
  y ← answer
  n ← as_relation (first_place l.operand) y.kind
  r ← operator_arity l.operator l.place left (first_place l.operand) m n
  Ok (record { link = record { operator = l.operator; place = l.place; operand = y.tree }; kind = relation r })

abbrev pub join_built : Place → Kind → Place → PhraseTree → Result Settled TypeFault → Result Settled TypeFault
join_built left k p x answer = do
  m ← as_relation left k
  y ← answer
  n ← as_relation (first_place x) y.kind
  r ← joined_arity p m n
  Ok (record { tree = y.tree; kind = relation r })

abbrev pub join_step : Place → Result Settled TypeFault → Result Stepped TypeFault
join_step p answer = answer >>= λ y. Ok (record { before = join_first p y.tree; kind = y.kind })

abbrev pub brackets_built : Place → Kind → Place → Result Arguments TypeFault → Result (PhraseTrees × Kind) TypeFault
brackets_built left k p answer = do
  m ← as_relation left k
  ys ← answer
  r ← brackets_arity p m (map (λ n. n.0) ys.arities)
  Ok (ys.trees, relation r)

abbrev pub brackets_step : Place → Result (PhraseTrees × Kind) TypeFault → Result Stepped TypeFault
brackets_step p answer = answer >>= λ ys. Ok (record { before = brackets_first p ys.0; kind = ys.1 })
