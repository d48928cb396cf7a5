-- Orders of the atoms of a signature, and the formulas that describe them.
use Rattle.std.specs.Prelude.{◌≡◌, ◌≢◌, ◌⊎◌, ◌↔◌, ℕ, List, [], ◌∷◌, ◌++◌, Contains, AllPairs}
use Rattle.tuple_core.specs.declared.atom.Atom.{Atom}
use Rattle.rel_formula.specs.Kernel.{ExpressionTree, rel, var, iden, union, minus, product, join, transpose, closure, FormulaTree, within, equal, at_least, negation, conjunction, disjunction, for_all, formulas_of}
use Rattle.rel_formula.specs.Bounds.{Bounded}
use Rattle.rel_formula.specs.Instance.{InRelation, structure_of}
use Rattle.rel_formula.specs.Meaning.{InValue, Truth, AllTrue}

-- the relations of an ordering, by their numbers: the ordered signature, the ordering's own one, and its two fields
pub record Ordering : Type 0 where
  pub signature : ℕ
  pub own : ℕ
  pub first : ℕ
  pub next : ℕ

-- ---- what the declarations of the fields and the fact become in the kernel; S is the ordered signature

-- Ord.First
abbrev pub first_atom : Ordering → ExpressionTree
first_atom o = join (rel o.own) (rel o.first)

-- Ord.Next
abbrev pub neighbours : Ordering → ExpressionTree
neighbours o = join (rel o.own) (rel o.next)

-- First: lone S, Next: S -> S
abbrev pub fields_say : Ordering → List FormulaTree
fields_say o =
    within (rel o.first) (product (rel o.own) (rel o.signature))
    ∷ for_all (rel o.own) (negation (at_least 2 (join (var 0) (rel o.first))))
    ∷ within (rel o.next) (product (rel o.own) (product (rel o.signature) (rel o.signature)))
    ∷ []

-- no Ord.Next.(Ord.First)
abbrev pub first_has_none_before : Ordering → FormulaTree
first_has_none_before o = negation (at_least 1 (join (neighbours o) (first_atom o)))

-- all x: S | lone x.(Ord.Next)
abbrev pub lone_behind : Ordering → FormulaTree
lone_behind o = for_all (rel o.signature) (negation (at_least 2 (join (var 0) (neighbours o))))

-- all x: S | lone (Ord.Next).x
abbrev pub lone_before : Ordering → FormulaTree
lone_before o = for_all (rel o.signature) (negation (at_least 2 (join (neighbours o) (var 0))))

-- S in (Ord.First).*(Ord.Next)
abbrev pub all_from_first : Ordering → FormulaTree
all_from_first o = within (rel o.signature) (join (first_atom o) (union (closure (neighbours o)) iden))

-- the fact: these four
abbrev pub fact_says : Ordering → List FormulaTree
fact_says o = first_has_none_before o ∷ lone_behind o ∷ lone_before o ∷ all_from_first o ∷ []

-- all of it is true where some cells are chosen
abbrev pub SaysOrder : Bounded → List ℕ → Ordering → Type 0
SaysOrder p s o = AllTrue (structure_of p (Contains s)) [] (formulas_of (fields_say o ++ fact_says o))

-- ---- orders

-- the first atom of a list
abbrev pub IsHead : List Atom → Atom → Type 0
IsHead [] a = ⊥
IsHead (x ∷ xs) a = x ≡ a

-- two atoms of a list, the second directly behind the first
abbrev pub Follows : List Atom → Atom → Atom → Type 0
Follows [] a b = ⊥
Follows (x ∷ []) a b = ⊥
Follows (x ∷ y ∷ more) a b = ((x ≡ a) × (y ≡ b)) ⊎ Follows (y ∷ more) a b

-- for some list of the signature's atoms, each once, the fields of the ordering's atom are the first one and the neighbours
pub record IsOrdered (p : Bounded) (s : List ℕ) (o : Ordering) (own : Atom) : Type 0 where
  pub atoms : List Atom
  pub each : (a : Atom) → Contains atoms a ↔ InRelation p (Contains s) o.signature (a ∷ [])
  pub once : AllPairs (λ (a b : Atom). a ≢ b) atoms
  pub first : (t : List Atom) → InRelation p (Contains s) o.first t ↔ ((a : Atom) × (t ≡ own ∷ a ∷ []) × IsHead atoms a)
  pub next : (t : List Atom) → InRelation p (Contains s) o.next t ↔ ((a : Atom) × (b : Atom) × (t ≡ own ∷ a ∷ b ∷ []) × Follows atoms a b)

-- the ordered signature is a set of atoms and stands among the top-level ones, and the ordering's own has this atom alone
pub record IsOrderable (p : Bounded) (s : List ℕ) (o : Ordering) (own : Atom) : Type 0 where
  pub atoms : (t : List Atom) → InRelation p (Contains s) o.signature t → (a : Atom) × (t ≡ a ∷ [])
  pub top : Contains p.tops o.signature
  pub alone : (t : List Atom) → InRelation p (Contains s) o.own t ↔ (t ≡ own ∷ [])

-- ---- what the names of an ordering stand for

-- the last atom of a list
abbrev pub IsLast : List Atom → Atom → Type 0
IsLast [] a = ⊥
IsLast (x ∷ []) a = x ≡ a
IsLast (x ∷ y ∷ more) a = IsLast (y ∷ more) a

-- two atoms of a list, the second somewhere behind the first
abbrev pub IsBehind : List Atom → Atom → Atom → Type 0
IsBehind [] a b = ⊥
IsBehind (x ∷ xs) a b = ((x ≡ a) × Contains xs b) ⊎ IsBehind xs a b

-- S - (Ord.Next).S
abbrev pub last_atom : Ordering → ExpressionTree
last_atom o = minus (rel o.signature) (join (neighbours o) (rel o.signature))

-- e.^(Ord.Next)
abbrev pub all_behind : Ordering → ExpressionTree → ExpressionTree
all_behind o e = join e (closure (neighbours o))

-- e.^(~(Ord.Next))
abbrev pub all_before : Ordering → ExpressionTree → ExpressionTree
all_before o e = join e (closure (transpose (neighbours o)))

-- a in prevs[b]
abbrev pub is_less : Ordering → ExpressionTree → ExpressionTree → FormulaTree
is_less o a b = conjunction (formulas_of (within a (all_before o b) ∷ []))

-- a in nexts[b]
abbrev pub is_greater : Ordering → ExpressionTree → ExpressionTree → FormulaTree
is_greater o a b = conjunction (formulas_of (within a (all_behind o b) ∷ []))

-- a = b or f
abbrev pub or_equal : ExpressionTree → ExpressionTree → FormulaTree → FormulaTree
or_equal a b f = conjunction (formulas_of (disjunction (formulas_of (equal a b ∷ f ∷ [])) ∷ []))

-- the value of an expression where some cells are chosen
abbrev pub Value : Bounded → List ℕ → List Atom → ExpressionTree → List Atom → Type 0
Value p s env e t = InValue (structure_of p (Contains s)) env e t

-- it is this atom alone
abbrev pub IsAtom : Bounded → List ℕ → List Atom → ExpressionTree → Atom → Type 0
IsAtom p s env e a = (t : List Atom) → Value p s env e t ↔ (t ≡ a ∷ [])

-- the formula is true where some cells are chosen
abbrev pub IsTrue : Bounded → List ℕ → List Atom → FormulaTree → Type 0
IsTrue p s env f = Truth (structure_of p (Contains s)) env f

-- `first`, `last`, `next`, `prev`, `nexts`, `prevs`, `lt`, `gt`, `lte` and `gte` are read off the list of atoms
pub record ReadsOff (p : Bounded) (s : List ℕ) (o : Ordering) (atoms : List Atom) : Type 0 where
  pub first : (env t : List Atom) → Value p s env (first_atom o) t ↔ ((a : Atom) × (t ≡ a ∷ []) × IsHead atoms a)
  pub last : (env t : List Atom) → Value p s env (last_atom o) t ↔ ((a : Atom) × (t ≡ a ∷ []) × IsLast atoms a)
  pub next : (env t : List Atom) → Value p s env (neighbours o) t ↔ ((a : Atom) × (b : Atom) × (t ≡ a ∷ b ∷ []) × Follows atoms a b)
  pub prev : (env t : List Atom) → Value p s env (transpose (neighbours o)) t ↔ ((a : Atom) × (b : Atom) × (t ≡ a ∷ b ∷ []) × Follows atoms b a)
  pub nexts : (env t : List Atom) (e : ExpressionTree) (x : Atom) → IsAtom p s env e x → Value p s env (all_behind o e) t ↔ ((a : Atom) × (t ≡ a ∷ []) × IsBehind atoms x a)
  pub prevs : (env t : List Atom) (e : ExpressionTree) (x : Atom) → IsAtom p s env e x → Value p s env (all_before o e) t ↔ ((a : Atom) × (t ≡ a ∷ []) × IsBehind atoms a x)
  pub lt : (env : List Atom) (e f : ExpressionTree) (x y : Atom) → IsAtom p s env e x → IsAtom p s env f y → IsTrue p s env (is_less o e f) ↔ IsBehind atoms x y
  pub gt : (env : List Atom) (e f : ExpressionTree) (x y : Atom) → IsAtom p s env e x → IsAtom p s env f y → IsTrue p s env (is_greater o e f) ↔ IsBehind atoms y x
  pub lte : (env : List Atom) (e f : ExpressionTree) (x y : Atom) → IsAtom p s env e x → IsAtom p s env f y →
      IsTrue p s env (or_equal e f (is_less o e f)) ↔ ((x ≡ y) ⊎ IsBehind atoms x y)
  pub gte : (env : List Atom) (e f : ExpressionTree) (x y : Atom) → IsAtom p s env e x → IsAtom p s env f y →
      IsTrue p s env (or_equal e f (is_greater o e f)) ↔ ((x ≡ y) ⊎ IsBehind atoms y x)
