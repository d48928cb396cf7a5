-- Texts whose names have no fault, and what is told of their sorts and arities.
use Rattle.std.specs.Prelude.{◌≡◌, ℕ, List, [], ◌∷◌, Option, Some, None, Ok, Err, codes, option_and_then, map}
use Rattle.alloy_lex.specs.declared.token.Place.{Place}
use Rattle.alloy_syntax.specs.Tree.{ModelTree}
use Rattle.named_model.specs.Texts.{tree_of}
use Rattle.named_model.specs.Faults.{faults_in}
use Rattle.named_model.specs.Declarations.{named_of}
use Rattle.model_types.specs.declared.fault.TypeFault.{TypeFault}
use Rattle.model_types.specs.declared.fault.TypeFault.TheVariants.{Ambiguous, Arity, ArityTooLarge, NotBinary, NotUnary, Sort}
use Rattle.model_types.specs.Sorts.{Checked}
use Rattle.model_types.specs.Models.{types_checked}

-- what is told of the sorts and arities of a tree whose names have no fault
abbrev pub told_in : ModelTree → Option Checked
told_in m = elim (faults_in m) [ [] ↦ Some (types_checked (named_of m)) | fault ∷ faults ↦ None ]

abbrev pub told_of : List ℕ → Option Checked
told_of text = option_and_then told_in (tree_of text)

-- a fault on the first line, at that column
abbrev pub at : (Place → TypeFault) → ℕ → Checked
at fault column = Err (fault (record { line = 1; column = column }))

abbrev pub nothing : Checked
nothing = Ok tt

pub record Row : Type 0 where
  pub text : List ℕ
  pub told : Checked

abbrev pub row : List ℕ → Checked → Row
row text told = record { text = text; told = told }

abbrev pub rows : List Row
rows =
    row (codes "sig A { f: set A } fact { A = f } run {}") (at Arity 29)
    ∷ row (codes "sig A { f: set A } sig B { f: set A } run { some f } for 1") (at Ambiguous 50)
    ∷ row (codes "sig A { f: set B } sig B { f: set A } fun g [x: A]: set B { x.f } run { some a: A | some g[a] } for 1") nothing
    ∷ row (codes "sig A {} fact { A }") (at Sort 17)
    ∷ row (codes "sig A {} fact { some (no A) }") (at Sort 22)
    ∷ row (codes "sig A {} fact { #A = 1 #A != 2 #A < 3 #A <= 4 #A >= 5 }") nothing
    ∷ row (codes "sig A {} fact { 3 = #A }") (at Sort 17)
    ∷ row (codes "sig A {} fact { #A in A }") (at Sort 17)
    ∷ row (codes "sig A {} fact { A < 3 }") (at Sort 17)
    ∷ row (codes "sig A {} fact { #A = A }") (at Sort 22)
    ∷ row (codes "sig A {} fact { A = 3 }") (at Sort 21)
    ∷ row (codes "sig A {} fact { some A + (some A) }") (at Sort 26)
    ∷ row (codes "sig A {} fact { some A && A }") (at Sort 27)
    ∷ row (codes "sig A {} fact { A => some A }") (at Sort 17)
    ∷ row (codes "sig A {} fact { some A => A else some A }") (at Sort 27)
    ∷ row (codes "sig A {} fact { some A => some A else (A) }") (at Sort 39)
    ∷ row (codes "sig A {} fact { all x: A | x }") (at Sort 28)
    ∷ row (codes "sig A {} fact { let x = (some A) | some x }") (at Sort 25)
    ∷ row (codes "sig A {} fact { some { some A } }") (at Sort 22)
    ∷ row (codes "sig A {} pred p { some A } fact { some p }") (at Sort 40)
    ∷ row (codes "sig A {} pred p { some A } fact { some p.A }") (at Sort 40)
    ∷ row (codes "sig A {} fun f: A { (some A) }") (at Sort 21)
    ∷ row (codes "sig A {} fun f: A { A } fact { f }") (at Sort 32)
    ∷ row (codes "sig A {} pred p [x: A] { x }") (at Sort 26)
    ∷ row (codes "sig A {} pred p [x: A] { some x } fact { p[(some A)] }") (at Sort 44)
    ∷ row (codes "sig A {} assert a { A }") (at Sort 21)
    ∷ row (codes "sig A {} run { A }") (at Sort 16)
    ∷ row (codes "sig A { f: A } fact { some A + f }") (at Arity 30)
    ∷ row (codes "sig A { f: A } fact { some f & A }") (at Arity 30)
    ∷ row (codes "sig A { f: A } fact { some f - A }") (at Arity 30)
    ∷ row (codes "sig A { f: A } fact { A in f }") (at Arity 25)
    ∷ row (codes "sig A { f: A } fact { A !in f }") (at Arity 25)
    ∷ row (codes "sig A { f: A } fact { A != f }") (at Arity 25)
    ∷ row (codes "sig A {} fact { some A.A }") (at Arity 23)
    ∷ row (codes "sig A { f: A } fact { some A[A] }") (at Arity 29)
    ∷ row (codes "sig A { f: A -> A } fact { some A.f[A] }") nothing
    ∷ row (codes "sig A { f: A -> A } fact { some f[A, A] }") nothing
    ∷ row (codes "sig A { f: A -> A } fact { some f[A, A, A] }") (at Arity 34)
    ∷ row (codes "sig A {} fact { some A.univ }") (at Arity 23)
    ∷ row (codes "sig A {} fact { some none + A some univ & none some iden & A -> A }") nothing
    ∷ row (codes "sig A {} pred p [x: A] { some x } fact { p[A -> A] }") (at Arity 44)
    ∷ row (codes "sig A {} pred p [x: A -> A] { some x } fact { p[A -> A] }") nothing
    ∷ row (codes "sig A {} pred p [x: A, y: A] { some x } fact { p[A -> A, A.A] }") (at Arity 59)
    ∷ row (codes "sig A {} fun f: A { A -> A }") (at Arity 21)
    ∷ row (codes "sig A {} fun f [x: A]: A -> A { x -> x } fact { some f[A].A f[A] in A -> A }") nothing
    ∷ row (codes "sig A {} fact { all x: A -> A | some x }") (at NotUnary 24)
    ∷ row (codes "sig A { f: A } fact { some f <: f }") (at NotUnary 28)
    ∷ row (codes "sig A { f: A } fact { some f :> f }") (at NotUnary 33)
    ∷ row (codes "sig A { f: A } fact { some A <: f :> A some A <: A }") nothing
    ∷ row (codes "sig A { f: A one -> A }") nothing
    ∷ row (codes "sig A { f: one A -> A }") (at NotUnary 16)
    ∷ row (codes "sig A { f: set A -> A }") nothing
    ∷ row (codes "sig A { f: A -> A -> A }") (at ArityTooLarge 9)
    ∷ row (codes "sig A { f: one A -> A -> A }") (at NotUnary 16)
    ∷ row (codes "sig A {} pred p [x: univ + iden] { some x }") (at Arity 26)
    ∷ row (codes "sig A {} pred p [x: iden] { some x } run p") (at NotUnary 21)
    ∷ row (codes "sig A {} pred p [x: iden] { some x } fact { p[iden] }") nothing
    ∷ row (codes "sig A {} fact { some ~A }") (at NotBinary 22)
    ∷ row (codes "sig A {} fact { some ^A }") (at NotBinary 22)
    ∷ row (codes "sig A {} fact { some *A }") (at NotBinary 22)
    ∷ row (codes "sig A { f: A } fact { some A ++ A }") (at NotBinary 30)
    ∷ row (codes "sig A { f: A } fact { some f ++ f some ^f some *f some ~f }") nothing
    ∷ row (codes "sig A { f: A -> A } fact { some f -> A }") (at ArityTooLarge 35)
    ∷ row (codes "sig A { f: A -> A } fact { some f.f }") (at ArityTooLarge 34)
    ∷ row (codes "sig A { f: set B } sig B { f: set A } fact { all a: A, b: B { some a.f some b.f some a.(f) some f[a] some (f)[b] } }") nothing
    ∷ row (codes "sig A { f: set B } sig B { f: set A } fact { all a: A | a.f.f in A }") nothing
    ∷ row (codes "sig A { f: set B } sig B { f: set A } fact { some A <: f some B <: (f) }") nothing
    ∷ row (codes "sig A { f: set B } sig B { f: set A } fact { some f :> A }") (at Ambiguous 51)
    ∷ row (codes "sig A { f: set B } sig B { f: set A } fact { some ~f }") (at Ambiguous 52)
    ∷ row (codes "sig A { f: set B } sig B { f: set A } fact { some A.~f }") (at Ambiguous 54)
    ∷ row (codes "sig A { f: set B } sig B { f: set A } fact { some (A + B).f }") (at Ambiguous 59)
    ∷ row (codes "sig A { f: set B } sig B { f: set A } fact { some univ.f }") (at Ambiguous 56)
    ∷ row (codes "sig A { f: set B } sig B { f: set A } fact { some none.f }") (at Ambiguous 56)
    ∷ row (codes "sig A { f: set B } sig B { f: set A } sig C {} fact { some C.f }") (at Ambiguous 62)
    ∷ row (codes "sig A { f: set B } sig B { f: set A } sig C {} fact { some f[C] }") (at Ambiguous 60)
    ∷ row (codes "sig A { f: set B } sig B { f: set A } fact { some f[] }") (at Ambiguous 51)
    ∷ row (codes "sig A { f: set B } sig B { f: set A } fact { some ((A + B) - B).f }") (at Ambiguous 65)
    ∷ row (codes "sig A { f: set B } sig B { f: set A } fact { some ((A + B) & B).f }") nothing
    ∷ row (codes "sig A { f: set B } sig B { f: set A } sig C extends A {} fact { some C.f some C <: f }") nothing
    ∷ row (codes "sig A { f: set B } sig B { f: set A } fact { some (A -> B) <: f }") (at Ambiguous 63)
    ∷ row (codes "sig A { f: set B } sig B { f: set A } fact { some (A -> B).f }") nothing
    ∷ row (codes "sig A { f: set B, g: set A } sig B { f: set A } fact { all a: A { some a.^g.f some a.*g.f } }") nothing
    ∷ row (codes "sig A { f: set B, g: set B } sig B { f: set A, h: set A } fact { all a: A | some a.^(g + h).f }") (at Ambiguous 93)
    ∷ row (codes "sig A { f: set B, g: set B } sig B { f: set A, h: set A } fact { all a: A | some a.(g ++ g).f }") nothing
    ∷ row (codes "sig A { f: set B } sig B { f: set A } fact { let x = A, y = x.f | some y.f }") nothing
    ∷ row (codes "sig A { f: set B } sig B { f: set A } pred p [x: A] { some x.f } fact { p[A.f] }") nothing
    ∷ row (codes "sig A { f: set B } sig B { f: set A } fun g [x: univ]: univ { x } fact { some g[A].f some g[B].f }") nothing
    ∷ row (codes "sig A { f: set B } sig B { f: set A } fun g [x: univ]: univ { x.f }") (at Ambiguous 65)
    ∷ row (codes "sig A { f: set B } sig B { f: set A } fact { some g[A].f } fun g [x: univ]: univ { h[x] } fun h [y: univ]: univ { y }") nothing
    ∷ row (codes "sig A { f: set B } sig B { f: set A } fun g [x: A, y: x.f]: y.f { y.f }") nothing
    ∷ row (codes "sig A, B { f: set A } fact { some A.f some B.f }") nothing
    ∷ row (codes "sig A { f: set B } sig B { f: set A } run { some f[A.A] }") (at Arity 53)
    ∷ row (codes "sig A { f: A } fact { some A.A && A in f }") (at Arity 29)
    ∷ row (codes "sig A {} fact { A } sig B { f: one B -> B }") (at Sort 17)
    ∷ row (codes "sig A { f: one A -> A } fact { A }") (at NotUnary 16)
    ∷ row (codes "sig A {} fact { some A + (some A) + A.A }") (at Sort 26)
    ∷ row (codes "sig A {} run p pred p [x: A.A] { some x }") (at Arity 28)
    ∷ row (codes "sig A {} fact { p[A] } pred p [x: A.A] { some x }") (at Arity 36)
    ∷ row (codes "sig A {} fact { some g } fun g: A.A { A }") (at Arity 34)
    ∷ []

-- what is told is what the table has
abbrev pub AreTold : List Row → Type 0
AreTold rs = map (λ (r : Row). told_of r.text) rs ≡ map (λ (r : Row). Some r.told) rs
