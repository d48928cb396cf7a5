-- Local names.
use Rattle.std.specs.Prelude.{◌≡◌, List, [], ◌∷◌, Bool, true, Result, Ok, Err}
use Rattle.model_types.specs.declared.fault.TypeFault.{TypeFault}
use Rattle.model_types.specs.Bounding.{Lists}
use Rattle.model_types.specs.Typing.{Local}
use Rattle.model_types.specs.Bounds.Same.{AreSame}

-- the same types, where they are asked for
abbrev pub AreSameWhere : Bool → Lists → Lists → Type 0
AreSameWhere asked a b = asked ≡ true → AreSame a b

-- local names of the same arities, and of the same types where these are asked for
abbrev pub AreAlikeWhere : Bool → List Local → List Local → Type 0
AreAlikeWhere asked [] [] = Unit {0}
AreAlikeWhere asked (l ∷ ls) (m ∷ ms) = (l.arity ≡ m.arity) × AreSameWhere asked l.type m.type × AreAlikeWhere asked ls ms
AreAlikeWhere asked ls ms = ⊥

-- the same fault; or the same trees, and local names behind them that are alike
abbrev pub AreAlikeBehind : {T : Type 0} → Bool → Result (T × List Local) TypeFault → Result (T × List Local) TypeFault → Type 0
AreAlikeBehind asked (Ok x) (Ok y) = (x.0 ≡ y.0) × AreAlikeWhere asked x.1 y.1
AreAlikeBehind asked (Err e) (Err f) = e ≡ f
AreAlikeBehind asked (Ok x) (Err f) = ⊥
AreAlikeBehind asked (Err e) (Ok y) = ⊥
