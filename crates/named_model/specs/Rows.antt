-- Texts, and what is told of their names.
use Rattle.std.specs.Prelude.{◌≡◌, ℕ, List, [], ◌∷◌, Option, Some, None, codes, map}
use Rattle.named_model.specs.declared.fault.NameFault.{NameFault}
use Rattle.named_model.specs.declared.fault.NameFault.TheVariants.{Arguments, Cycle, HigherOrder, Recursive, Twice, Unknown}
use Rattle.named_model.specs.Texts.{at, told_of}

pub record Row : Type 0 where
  pub text : List ℕ
  pub told : Option NameFault

abbrev pub row : List ℕ → Option NameFault → Row
row text told = record { text = text; told = told }

abbrev pub nothing : Option NameFault
nothing = None

abbrev pub rows : List Row
rows =
    row (codes "sig A {} fact { some B } run {}") (at Unknown 22)
    ∷ row (codes "sig A extends B {} sig B extends A {} run {}") (at Cycle 5)
    ∷ row (codes "sig A { f: set A } sig B extends A { f: set A } run {}") (at Twice 38)
    ∷ row (codes "sig A {} sig A {}") (at Twice 14)
    ∷ row (codes "sig A, A {}") (at Twice 8)
    ∷ row (codes "sig A { A: A }") (at Twice 9)
    ∷ row (codes "sig A { f: A, f: A }") (at Twice 15)
    ∷ row (codes "sig A {} pred p [] {} fun p: A { A }") (at Twice 27)
    ∷ row (codes "sig A {} pred A [] {}") (at Twice 15)
    ∷ row (codes "sig A { f: A } pred f [] {}") (at Twice 21)
    ∷ row (codes "pred f [] {} sig A { f: A }") (at Twice 22)
    ∷ row (codes "sig A {} pred p [x: A, x: A] {}") (at Twice 24)
    ∷ row (codes "sig A {} fun p [x, x: A]: A { A }") (at Twice 20)
    ∷ row (codes "sig A {} pred p [x: A] {} pred q [x: A] {}") nothing
    ∷ row (codes "assert a {} assert a {}") (at Twice 20)
    ∷ row (codes "sig a {} assert a {}") nothing
    ∷ row (codes "fact a {} fact a {} sig a {}") nothing
    ∷ row (codes "sig A { f: A } sig B { f: A }") nothing
    ∷ row (codes "sig A, B { f: A }") nothing
    ∷ row (codes "sig A, B { f: A } sig C { g: A, f: A }") nothing
    ∷ row (codes "sig C {} sig A, B extends C { f: A }") (at Twice 31)
    ∷ row (codes "sig C {} sig A in C { f: A } sig B extends C { f: A }") (at Twice 48)
    ∷ row (codes "sig A extends B { f: A } sig B extends A { f: A }") (at Twice 44)
    ∷ row (codes "sig A, B { f, g: A, f: A }") (at Twice 21)
    ∷ row (codes "sig A extends B {}") (at Unknown 15)
    ∷ row (codes "sig A { f: A -> B }") (at Unknown 17)
    ∷ row (codes "sig A { f: f }") (at Unknown 12)
    ∷ row (codes "sig A in A1 { f: B }") (at Unknown 10)
    ∷ row (codes "pred p [] {} sig A { f: A + (A -> p) }") (at Unknown 35)
    ∷ row (codes "sig A extends A {}") (at Cycle 5)
    ∷ row (codes "sig C in A {} sig A extends B {} sig B in A {}") (at Cycle 19)
    ∷ row (codes "sig A {} fact { some x: A | some y }") (at Unknown 34)
    ∷ row (codes "sig A {} fact { some x: x | some x }") (at Unknown 25)
    ∷ row (codes "sig A {} fact { all x: A, y: x | some y }") nothing
    ∷ row (codes "sig A {} fact { let x = A, y = x | some y }") nothing
    ∷ row (codes "sig A {} fact { let x = y, y = A | some x }") (at Unknown 25)
    ∷ row (codes "sig A {} fact { some A: A | some A }") nothing
    ∷ row (codes "sig A {} fact { (some x: A | some x) && some x }") (at Unknown 46)
    ∷ row (codes "sig A {} pred p [x: A] { some x } fact { p }") (at Arguments 42)
    ∷ row (codes "sig A {} pred p [x: A] { some x } fact { p[A, A] }") (at Arguments 42)
    ∷ row (codes "sig A {} pred p [x: A] { some x } fact { p[A] }") nothing
    ∷ row (codes "sig A {} pred p [x: A] { some x } fact { (p)[A] }") (at Arguments 43)
    ∷ row (codes "sig A {} pred p [x: A] { some x } fact { some A.p[A] }") (at Arguments 49)
    ∷ row (codes "sig A {} pred p { some A } fact { p p[] }") nothing
    ∷ row (codes "sig A {} pred p { some A } fact { p[A] }") (at Arguments 35)
    ∷ row (codes "sig A {} fun f: A { A } fact { some f some f[] some f[A] some f[][A] }") nothing
    ∷ row (codes "sig A {} fun f [x: A]: A { x } fact { some f }") (at Arguments 44)
    ∷ row (codes "sig A {} fun f [x: A]: A { x } fact { some f[A] }") nothing
    ∷ row (codes "sig A {} fun f [x: A]: A { x } fact { some f[] }") (at Arguments 44)
    ∷ row (codes "sig A {} fact { some A[] some A[A] }") nothing
    ∷ row (codes "sig A {} fun f [x: A]: y { x }") (at Unknown 24)
    ∷ row (codes "sig A {} fun f [x: A, y: x]: x { z }") (at Unknown 34)
    ∷ row (codes "sig A {} fact { some x: set A | some x }") (at HigherOrder 25)
    ∷ row (codes "sig A {} fact { all x: one A, y: lone A | some x }") (at HigherOrder 34)
    ∷ row (codes "sig A {} fact { all x: some B | some x }") (at HigherOrder 24)
    ∷ row (codes "sig A {} assert a { some B }") (at Unknown 26)
    ∷ row (codes "sig A {} run { some B }") (at Unknown 21)
    ∷ row (codes "sig A {} run l { some l }") (at Unknown 23)
    ∷ row (codes "sig A {} fact { some o/first }") (at Unknown 22)
    ∷ row (codes "pred p { p }") (at Recursive 6)
    ∷ row (codes "pred r { p } pred p { q } pred q { p }") (at Recursive 19)
    ∷ row (codes "sig A {} fun f [x: A]: A { g[x] } fun g [x: f[A]]: A { x }") (at Recursive 14)
    ∷ row (codes "sig A {} fun f: f { A }") (at Recursive 14)
    ∷ row (codes "sig A {} pred p { q } pred q { r } pred r { some A }") nothing
    ∷ row (codes "sig A {} run p") (at Unknown 14)
    ∷ row (codes "sig A {} fun p: A { A } run p") (at Unknown 29)
    ∷ row (codes "sig A {} run A") (at Unknown 14)
    ∷ row (codes "sig A {} assert p {} run p") (at Unknown 26)
    ∷ row (codes "sig A {} pred p {} check p") (at Unknown 26)
    ∷ row (codes "sig A {} pred p {} assert q {} run p check q") nothing
    ∷ row (codes "sig A {} pred p [x: set A] {} run p") (at HigherOrder 35)
    ∷ row (codes "sig A {} pred p [x: one A] {} run p") nothing
    ∷ row (codes "sig A {} pred p [x: A, y: (A -> A).x] {} run p") (at HigherOrder 46)
    ∷ row (codes "sig A {} pred p [x: set A] { some x } fact { p[A] }") nothing
    ∷ row (codes "sig A extends B {} sig C {} sig C {}") (at Twice 33)
    ∷ row (codes "fact { some x } sig A extends B {}") (at Unknown 31)
    ∷ row (codes "sig A { f: A } sig B extends B {} sig B {}") (at Twice 39)
    ∷ row (codes "sig B extends B {} sig A { f: C }") (at Unknown 31)
    ∷ row (codes "fact { some x } sig B extends B {}") (at Cycle 21)
    ∷ row (codes "pred p { p } sig B extends B {}") (at Cycle 18)
    ∷ row (codes "pred p { p } fact { some x }") (at Unknown 26)
    ∷ row (codes "run q pred p { p }") (at Recursive 12)
    ∷ row (codes "run q fact { some x }") (at Unknown 19)
    ∷ row (codes "run q sig A {} sig A {}") (at Twice 20)
    ∷ row (codes "run q sig A extends B {}") (at Unknown 21)
    ∷ row (codes "run q sig A in A {}") (at Cycle 11)
    ∷ row (codes "pred p { p } sig A {} sig A {}") (at Twice 27)
    ∷ row (codes "fact { some x } sig A {} sig A {}") (at Twice 30)
    ∷ row (codes "sig B extends B {} sig A {} sig A {}") (at Twice 33)
    ∷ row (codes "fact { some x p[1] } pred p {}") (at Unknown 13)
    ∷ row (codes "fact { p[1] some x } pred p {}") (at Arguments 8)
    ∷ row (codes "fact { some y: set x | some y }") (at HigherOrder 16)
    ∷ []

-- what is told is what the table has
abbrev pub AreTold : List Row → Type 0
AreTold rs = map (λ (r : Row). told_of r.text) rs ≡ map (λ (r : Row). Some r.told) rs
