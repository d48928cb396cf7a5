-- Answers with a fault.
use Rattle.std.specs.Prelude.{List, [], ◌∷◌, Option, Some, None, Result, Ok, Err}

infixl 10 ◌>>=◌
abbrev pub ◌>>=◌ : {A B F : Type 0} → Result A F → (A → Result B F) → Result B F
(Ok x) >>= f = f x
(Err e) >>= f = Err e

-- the one that is told
abbrev pub first_in : {F : Type 0} → List F → Option F
first_in [] = None
first_in (f ∷ fs) = Some f
