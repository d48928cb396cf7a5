-- Texts without a fault of names or types, and what the problem of their first command is.
use Rattle.std.specs.Prelude.{◌≡◌, ℕ, List, [], ◌∷◌, ◌++◌, Option, Some, None, Ok, Err, true, false, codes, option_map, option_and_then, map, flat_map}
use Rattle.rel_formula.specs.Kernel.{ExpressionTree, rel, var, nothing, univ, iden, union, minus, meet, product, join, transpose, closure, override, dom, ran, FormulaTree, within, equal, at_least, negation, conjunction, disjunction, for_all, for_some, for_at_most_one, formulas_of}
use Rattle.alloy_syntax.specs.Tree.{ModelTree}
use Rattle.named_model.specs.Model.{NamedTree}
use Rattle.named_model.specs.Texts.{tree_of}
use Rattle.named_model.specs.Faults.{faults_in}
use Rattle.named_model.specs.Declarations.{named_of}
use Rattle.model_types.specs.Models.{types_checked, settled_in}
use Rattle.model_sizes.specs.Sizes.{sizes_in}
use Rattle.lowering_rules.specs.Parts.{some_of, no_of, lone_of, one_of}
use Rattle.lowering_rules.specs.Relations.{Outline, outlines}
use Rattle.lowering_rules.specs.Formula.{formula_of, all_facts}
use Rattle.lowering_rules.specs.declared.fault.LowerFault.{LowerFault}
use Rattle.lowering_rules.specs.declared.fault.LowerFault.TheVariants.{NoCommand, Scope}
use Rattle.named_model.specs.declared.fault.NameFault.TheVariants.{NoScope, ScopeTooLarge}
use Rattle.lowering_rules.specs.Problem.{command_at, IsRefusal}

-- ---- what is told of a text

-- the model with types of a tree that has no fault
abbrev pub model_in : ModelTree → Option NamedTree
model_in tree = elim (faults_in tree) [
  | [] ↦ elim (types_checked (named_of tree)) [ Ok types ↦ Some (settled_in (named_of tree)) | Err fault ↦ None ]
  | fault ∷ faults ↦ None
]

abbrev pub model_of : List ℕ → Option NamedTree
model_of text = option_and_then model_in (tree_of text)

-- the formula of its first command with facts of these numbers, and with all of them
abbrev pub formula_with : List ℕ → NamedTree → Option FormulaTree
formula_with facts m = option_map (λ c. formula_of m c facts) (command_at m 1)

abbrev pub formula_in : NamedTree → Option FormulaTree
formula_in m = formula_with (all_facts m) m

abbrev pub formula_told : List ℕ → Option FormulaTree
formula_told text = option_and_then formula_in (model_of text)

-- the outlines of its relations under its first command
abbrev pub outlines_in : NamedTree → Option (List Outline)
outlines_in m = elim (sizes_in m 1) [ Ok sizes ↦ Some (outlines m sizes) | Err fault ↦ None ]

abbrev pub outlines_told : List ℕ → Option (List Outline)
outlines_told text = option_and_then outlines_in (model_of text)

-- ---- texts and formulas

pub record Row : Type 0 where
  pub text : List ℕ
  pub formula : FormulaTree

abbrev pub all_of : List FormulaTree → FormulaTree
all_of fs = conjunction (formulas_of fs)

abbrev pub any_of : List FormulaTree → FormulaTree
any_of fs = disjunction (formulas_of fs)

abbrev pub row : List ℕ → List FormulaTree → Row
row text fs = record { text = text; formula = all_of fs }

-- each formula is the one that the table has
abbrev pub AreLowered : List Row → Type 0
AreLowered rs = map (λ (r : Row). formula_told r.text) rs ≡ map (λ (r : Row). Some r.formula) rs

-- ---- parts of bodies, in a model with a signature `A` and two fields `f` and `g` from `A` to `A`

abbrev pub A : ExpressionTree
A = rel 0

abbrev pub f : ExpressionTree
f = rel 1

abbrev pub g : ExpressionTree
g = rel 2

-- the innermost variable, the one outside it, and the one outside that
abbrev pub x0 : ExpressionTree
x0 = var 0

abbrev pub x1 : ExpressionTree
x1 = var 1

abbrev pub x2 : ExpressionTree
x2 = var 2

abbrev pub body : List ℕ → FormulaTree → Row
body text formula = row (codes "sig A { f, g: set A } run { " ++ text ++ codes " }")
    (within f (product A A) ∷ within g (product A A) ∷ all_of (formula ∷ []) ∷ [])

-- the variables differ
abbrev pub differ : ExpressionTree → ExpressionTree → FormulaTree
differ x y = negation (equal x y)

abbrev pub bodies : List Row
bodies =
    body (codes "some A + none") (some_of (union A nothing))
    ∷ body (codes "some A + A - A") (some_of (minus (union A A) A))
    ∷ body (codes "some A - univ") (some_of (minus A univ))
    ∷ body (codes "some f & iden") (some_of (meet f iden))
    ∷ body (codes "some A -> univ") (some_of (product A univ))
    ∷ body (codes "some A -> A -> univ") (some_of (product (product A A) univ))
    ∷ body (codes "some A.f") (some_of (join A f))
    ∷ body (codes "some A.f.g") (some_of (join (join A f) g))
    ∷ body (codes "some A.(f.g)") (some_of (join A (join f g)))
    ∷ body (codes "some f[A]") (some_of (join A f))
    ∷ body (codes "some (f -> A)[A, univ]") (some_of (join univ (join A (product f A))))
    ∷ body (codes "some (f -> A)[A][univ]") (some_of (join univ (join A (product f A))))
    ∷ body (codes "some A[]") (some_of A)
    ∷ body (codes "some ~f") (some_of (transpose f))
    ∷ body (codes "some ^f") (some_of (closure f))
    ∷ body (codes "some *f") (some_of (union (closure f) iden))
    ∷ body (codes "some f ++ g") (some_of (override f g))
    ∷ body (codes "some A <: f") (some_of (dom A f))
    ∷ body (codes "some f :> A") (some_of (ran f A))
    ∷ body (codes "A in univ") (within A univ)
    ∷ body (codes "f = g") (equal f g)
    ∷ body (codes "f != g") (negation (equal f g))
    ∷ body (codes "f !in g") (negation (within f g))
    ∷ body (codes "f not = g") (negation (equal f g))
    ∷ body (codes "some A") (at_least 1 A)
    ∷ body (codes "no A") (negation (at_least 1 A))
    ∷ body (codes "lone A") (negation (at_least 2 A))
    ∷ body (codes "one A") (all_of (at_least 1 A ∷ negation (at_least 2 A) ∷ []))
    ∷ body (codes "#A >= 2") (at_least 2 A)
    ∷ body (codes "#A > 2") (at_least 3 A)
    ∷ body (codes "#A < 2") (negation (at_least 2 A))
    ∷ body (codes "#A =< 2") (negation (at_least 3 A))
    ∷ body (codes "#A <= 2") (negation (at_least 3 A))
    ∷ body (codes "#A = 2") (all_of (at_least 2 A ∷ negation (at_least 3 A) ∷ []))
    ∷ body (codes "#A != 2") (negation (all_of (at_least 2 A ∷ negation (at_least 3 A) ∷ [])))
    ∷ body (codes "!some A") (negation (some_of A))
    ∷ body (codes "some A && no f") (all_of (some_of A ∷ no_of f ∷ []))
    ∷ body (codes "some A && no f && lone g") (all_of (some_of A ∷ no_of f ∷ lone_of g ∷ []))
    ∷ body (codes "some A || no f || lone g") (any_of (some_of A ∷ no_of f ∷ lone_of g ∷ []))
    ∷ body (codes "{ some A no f }") (all_of (some_of A ∷ no_of f ∷ []))
    ∷ body (codes "{}") (all_of [])
    ∷ body (codes "some A => no f") (any_of (negation (some_of A) ∷ no_of f ∷ []))
    ∷ body (codes "some A => no f else no g") (all_of (any_of (negation (some_of A) ∷ no_of f ∷ []) ∷ any_of (some_of A ∷ no_of g ∷ []) ∷ []))
    ∷ body (codes "some A <=> no f") (all_of (any_of (negation (some_of A) ∷ no_of f ∷ []) ∷ any_of (some_of A ∷ negation (no_of f) ∷ []) ∷ []))
    ∷ body (codes "let x = f | some x") (some_of f)
    ∷ body (codes "let x = A, y = x.f | y in x") (within (join A f) A)
    ∷ body (codes "all x: A | some x") (for_all A (some_of x0))
    ∷ body (codes "some x, y: A | x in y") (for_some A (for_some A (within x1 x0)))
    ∷ body (codes "no x, y: A | x in y") (negation (for_some A (for_some A (within x1 x0))))
    ∷ body (codes "lone x: A | some x.f") (for_at_most_one A (some_of (join x0 f)))
    ∷ body (codes "one x: A | some x.f") (all_of (for_some A (some_of (join x0 f)) ∷ for_at_most_one A (some_of (join x0 f)) ∷ []))
    ∷ body (codes "all x: A, y: x.f | y in x.g") (for_all A (for_all (join x0 f) (within x0 (join x1 g))))
    ∷ body (codes "all x: A | all y, z: x.f | y in z") (for_all A (for_all (join x0 f) (for_all (join x1 f) (within x1 x0))))
    ∷ body (codes "all x: A | let y = x.f | all z: y | z in y") (for_all A (for_all (join x0 f) (within x0 (join x1 f))))
    ∷ body (codes "all disj x, y: A | x in y") (for_all A (for_all A (any_of (negation (all_of (differ x1 x0 ∷ [])) ∷ within x1 x0 ∷ []))))
    ∷ body (codes "some disj x, y, z: A | x in z") (for_some A (for_some A (for_some A (all_of (differ x2 x1 ∷ differ x2 x0 ∷ differ x1 x0 ∷ within x2 x0 ∷ [])))))
    ∷ body (codes "no disj x, y: A | x in y") (negation (for_some A (for_some A (all_of (differ x1 x0 ∷ within x1 x0 ∷ [])))))
    ∷ body (codes "lone disj x: A | some x") (for_at_most_one A (some_of x0))
    ∷ body (codes "some x: A, disj y, z: x.f | y in z") (for_some A (for_some (join x0 f) (for_some (join x1 f) (all_of (differ x1 x0 ∷ within x1 x0 ∷ [])))))
    ∷ body (codes "some disj x, y: A, z: A | x in z") (for_some A (for_some A (for_some A (all_of (differ x2 x1 ∷ within x2 x0 ∷ [])))))
    ∷ []

-- ---- calls, facts and commands, in models whose first signature is `A`

abbrev pub calls : List Row
calls =
    row (codes "sig A {} pred p { some A } run { p && p[] }") (all_of (all_of (all_of (some_of A ∷ []) ∷ all_of (some_of A ∷ []) ∷ []) ∷ []) ∷ [])
    ∷ row (codes "sig A {} pred p [x: A] { some x } run { all y: A | p[y] }") (all_of (for_all A (all_of (some_of x0 ∷ [])) ∷ []) ∷ [])
    ∷ row (codes "sig A {} pred p [x, y: A] { x in y } run { all x, y: A | p[y, x] }") (all_of (for_all A (for_all A (all_of (within x0 x1 ∷ []))) ∷ []) ∷ [])
    ∷ row (codes "sig A {} pred p [x: A] { all y: A | y in x } run { some y: A | p[y] }") (all_of (for_some A (all_of (for_all A (within x0 x1) ∷ [])) ∷ []) ∷ [])
    ∷ row (codes "sig A {} pred p [x: A] { all y: A | q[y, x] } pred q [x, y: A] { x in y } run { some y: A | p[y] }")
    (all_of (for_some A (all_of (for_all A (all_of (within x0 x1 ∷ [])) ∷ [])) ∷ []) ∷ [])
    ∷ row (codes "sig A { f: set B } sig B { f: set A } fun g [x: A]: set B { x.f } run { some a: A | some g[a] } for 1")
    (within (rel 2) (product A (rel 1)) ∷ within (rel 3) (product (rel 1) A) ∷ all_of (for_some A (some_of (join x0 (rel 2))) ∷ []) ∷ [])
    ∷ row (codes "sig A {} fun g: A { A } run { some g.iden }") (all_of (some_of (join A iden) ∷ []) ∷ [])
    ∷ row (codes "sig A {} pred p [x, x': A] { x != x' } run p for 2") (for_some A (for_some A (all_of (negation (equal x1 x0) ∷ []))) ∷ [])
    ∷ row (codes "sig A {} pred p [disj x, y: A, z: A] { x in z } run p")
    (for_some A (for_some A (for_some A (all_of (differ x2 x1 ∷ all_of (within x2 x0 ∷ []) ∷ [])))) ∷ [])
    ∷ row (codes "sig A {} pred p {} run p") (all_of [] ∷ [])
    ∷ row (codes "sig A {} assert n { no A } check n for 2") (negation (all_of (no_of A ∷ [])) ∷ [])
    ∷ row (codes "sig A {} check { no A some A }") (negation (all_of (no_of A ∷ some_of A ∷ [])) ∷ [])
    ∷ row (codes "sig A {} run { lone A } fact { some A no A } fact { one A }") (all_of (some_of A ∷ no_of A ∷ []) ∷ all_of (one_of A ∷ []) ∷ all_of (lone_of A ∷ []) ∷ [])
    ∷ []

-- ---- what is said of signatures

abbrev pub signatures : List Row
signatures =
    row (codes "some sig A {} run {}") (some_of A ∷ all_of [] ∷ [])
    ∷ row (codes "lone sig A {} run {}") (lone_of A ∷ all_of [] ∷ [])
    ∷ row (codes "one sig A {} run {} for 3 but exactly 2 A") (one_of A ∷ all_of (at_least 2 A ∷ negation (at_least 3 A) ∷ []) ∷ all_of [] ∷ [])
    ∷ row (codes "sig A {} run {} for 3 but exactly 2 A") (all_of [] ∷ [])
    ∷ row (codes "sig A {} sig B in A {} run {} for 3 but 2 B") (within (rel 1) A ∷ negation (at_least 3 (rel 1)) ∷ all_of [] ∷ [])
    ∷ row (codes "sig A {} sig B, C extends A {} sig D in A {} run {}")
    (within (rel 1) A ∷ within (rel 2) A ∷ no_of (meet (rel 1) (rel 2)) ∷ within (rel 3) A ∷ all_of [] ∷ [])
    ∷ row (codes "abstract sig A {} one sig R, G extends A {} run {} for 1")
    (within A (union (rel 1) (rel 2)) ∷ within (rel 1) A ∷ one_of (rel 1) ∷ within (rel 2) A ∷ no_of (meet (rel 1) (rel 2)) ∷ one_of (rel 2) ∷ all_of [] ∷ [])
    ∷ row (codes "abstract sig A {} sig B in A {} run {}") (within (rel 1) A ∷ all_of [] ∷ [])
    ∷ row (codes "sig B extends A {} abstract sig A {} run { some B } for 3 but exactly 1 B")
    (within (rel 0) (rel 1) ∷ all_of (at_least 1 (rel 0) ∷ negation (at_least 2 (rel 0)) ∷ []) ∷ within (rel 1) (rel 0) ∷ all_of (some_of (rel 0) ∷ []) ∷ [])
    ∷ []

-- ---- what is said of fields

-- a word as it is written, and what it says of an expression
pub record Word : Type 0 where
  pub spelled : List ℕ
  pub says : ExpressionTree → List FormulaTree

abbrev pub word : List ℕ → (ExpressionTree → List FormulaTree) → Word
word spelled says = record { spelled = spelled; says = says }

abbrev pub words : List Word
words =
    word (codes "set ") (λ e. [])
    ∷ word (codes "some ") (λ e. at_least 1 e ∷ [])
    ∷ word (codes "lone ") (λ e. negation (at_least 2 e) ∷ [])
    ∷ word (codes "one ") (λ e. all_of (at_least 1 e ∷ negation (at_least 2 e) ∷ []) ∷ [])
    ∷ []

-- a field from `A` with a word before its unary bound; a bound without a word has `one`
abbrev pub before : List ℕ → (ExpressionTree → List FormulaTree) → Row
before spelled says = row (codes "sig A { f: " ++ spelled ++ codes "A } run {}") (within f (product A A) ∷ map (for_all A) (says (join x0 f)) ++ all_of [] ∷ [])

-- a field from `A` with an arrow from `B` to `C`, and words on both sides of it
abbrev pub arrow : Word → Word → Row
arrow left right =
    let field : ExpressionTree = rel 3 in
    row (codes "sig A { f: B " ++ left.spelled ++ codes "-> " ++ right.spelled ++ codes "C } sig B, C {} run {}")
    (within field (product A (product (rel 1) (rel 2)))
    ∷ map (λ h. for_all A (for_all (rel 1) h)) (right.says (join x0 (join x1 field)))
    ++ map (λ h. for_all A (for_all (rel 2) h)) (left.says (join (join x1 field) x0))
    ++ all_of [] ∷ [])

abbrev pub fields : List Row
fields =
    before [] (λ e. all_of (at_least 1 e ∷ negation (at_least 2 e) ∷ []) ∷ [])
    ∷ map (λ (w : Word). before w.spelled w.says) words
    ++ flat_map (λ left. map (arrow left) words) words
    ++ row (codes "sig A { f: A -> A } run {}") (within f (product A (product A A)) ∷ all_of [] ∷ [])
    ∷ row (codes "sig A { f: A + B } sig B {} run {}") (within (rel 2) (product A (union A (rel 1))) ∷ for_all A (one_of (join x0 (rel 2))) ∷ all_of [] ∷ [])
    ∷ row (codes "sig A { f: (A lone -> A) } run {}") (within f (product A (product A A)) ∷ for_all A (for_all A (lone_of (join (join x1 f) x0))) ∷ all_of [] ∷ [])
    ∷ []

-- ---- some facts alone

pub record FactRow : Type 0 where
  pub facts : List ℕ
  pub formula : FormulaTree

-- the formula with facts of these numbers, of the model with three facts
abbrev pub with_facts : List ℕ → List FormulaTree → FactRow
with_facts facts fs = record { facts = facts; formula = all_of (fs ++ all_of [] ∷ []) }

abbrev pub three_facts : List ℕ
three_facts = codes "sig A {} fact { some A } fact { no A } run {} fact { lone A }"

abbrev pub first : FormulaTree
first = all_of (some_of A ∷ [])

abbrev pub second : FormulaTree
second = all_of (no_of A ∷ [])

abbrev pub third : FormulaTree
third = all_of (lone_of A ∷ [])

abbrev pub subsets : List FactRow
subsets =
    with_facts [] []
    ∷ with_facts (1 ∷ []) (first ∷ [])
    ∷ with_facts (2 ∷ []) (second ∷ [])
    ∷ with_facts (3 ∷ []) (third ∷ [])
    ∷ with_facts (1 ∷ 2 ∷ []) (first ∷ second ∷ [])
    ∷ with_facts (1 ∷ 3 ∷ []) (first ∷ third ∷ [])
    ∷ with_facts (2 ∷ 3 ∷ []) (second ∷ third ∷ [])
    ∷ with_facts (1 ∷ 2 ∷ 3 ∷ []) (first ∷ second ∷ third ∷ [])
    ∷ []

abbrev pub AreWithFacts : List ℕ → List FactRow → Type 0
AreWithFacts text rs = map (λ (r : FactRow). option_and_then (formula_with r.facts) (model_of text)) rs ≡ map (λ (r : FactRow). Some r.formula) rs

-- ---- relations

pub record OutlineRow : Type 0 where
  pub text : List ℕ
  pub outlines : List Outline

-- a signature with the number of its top-level signature
abbrev pub may_have : List ℕ → ℕ → Outline
may_have name top = record { name = name; arity = 1; type = (top ∷ []) ∷ []; fixed = false }

abbrev pub has_all : List ℕ → ℕ → Outline
has_all name top = record { name = name; arity = 1; type = (top ∷ []) ∷ []; fixed = true }

abbrev pub leads : List ℕ → ℕ → List (List ℕ) → Outline
leads name arity type = record { name = name; arity = arity; type = type; fixed = false }

abbrev pub relations : List ℕ → List Outline → OutlineRow
relations text os = record { text = text; outlines = os }

abbrev pub outline_rows : List OutlineRow
outline_rows =
    relations (codes "sig A {} run {}") (may_have (codes "A") 0 ∷ [])
    ∷ relations (codes "sig A, B {} run {} for 2 but exactly 1 B") (may_have (codes "A") 0 ∷ has_all (codes "B") 1 ∷ [])
    ∷ relations (codes "one sig A {} lone sig B {} run {}") (has_all (codes "A") 0 ∷ may_have (codes "B") 1 ∷ [])
    ∷ relations (codes "abstract sig C {} one sig R, G extends C {} run {} for 1") (may_have (codes "C") 0 ∷ may_have (codes "R") 0 ∷ may_have (codes "G") 0 ∷ [])
    ∷ relations (codes "sig A {} sig P in A {} sig Q in A {} run { some Q } for exactly 2 A") (has_all (codes "A") 0 ∷ may_have (codes "P") 0 ∷ may_have (codes "Q") 0 ∷ [])
    ∷ relations (codes "sig Q in P {} sig B {} sig P in B {} run {} for exactly 2 B, exactly 1 P") (may_have (codes "Q") 1 ∷ has_all (codes "B") 1 ∷ may_have (codes "P") 1 ∷ [])
    ∷ relations (codes "sig A { f: A -> A } run {} for 16") (may_have (codes "A") 0 ∷ leads (codes "f") 3 ((0 ∷ 0 ∷ 0 ∷ []) ∷ []) ∷ [])
    ∷ relations (codes "sig A, B { f: A + B } sig C extends B { g: (A + C) -> B } run {}")
    (may_have (codes "A") 0 ∷ may_have (codes "B") 1 ∷ may_have (codes "C") 1
    ∷ leads (codes "A.f") 2 ((0 ∷ 0 ∷ []) ∷ (0 ∷ 1 ∷ []) ∷ []) ∷ leads (codes "B.f") 2 ((1 ∷ 0 ∷ []) ∷ (1 ∷ 1 ∷ []) ∷ [])
    ∷ leads (codes "g") 3 ((1 ∷ 0 ∷ 1 ∷ []) ∷ (1 ∷ 1 ∷ 1 ∷ []) ∷ []) ∷ [])
    ∷ []

abbrev pub AreOutlined : List OutlineRow → Type 0
AreOutlined rs = map (λ (r : OutlineRow). outlines_told r.text) rs ≡ map (λ (r : OutlineRow). Some r.outlines) rs

-- ---- refusals

-- a command of a text, by its number, and why it has no problem
pub record RefusalRow : Type 0 where
  pub text : List ℕ
  pub command : ℕ
  pub told : LowerFault

abbrev pub refusal : List ℕ → ℕ → LowerFault → RefusalRow
refusal text command told = record { text = text; command = command; told = told }

abbrev pub refusals : List RefusalRow
refusals =
    refusal (codes "sig A {}") 1 NoCommand
    ∷ refusal (codes "sig A {} run {}") 0 NoCommand
    ∷ refusal (codes "sig A {} run {}") 2 NoCommand
    ∷ refusal (codes "sig A {} sig B {} run {} for 2 B") 1 (Scope NoScope)
    ∷ refusal (codes "sig A {} run {} check {} for 33") 2 (Scope ScopeTooLarge)
    ∷ []

abbrev pub IsRefusedIn : ℕ → LowerFault → Option NamedTree → Type 0
IsRefusedIn n told None = ⊥
IsRefusedIn n told (Some m) = IsRefusal m n (all_facts m) told

-- each command is refused as the table has it
abbrev pub AreRefused : List RefusalRow → Type 0
AreRefused [] = Unit {0}
AreRefused (r ∷ rs) = IsRefusedIn r.command r.told (model_of r.text) × AreRefused rs
