-- What stands at the front of tokens, up to those that are left behind it.
use Rattle.std.specs.Prelude.{◌≡◌, ◌⊎◌, List, [], ◌∷◌, Bool, true, false, IsTrue, Option, Some, None}
use Rattle.alloy_lex.specs.declared.token.Place.{Place}
use Rattle.alloy_syntax.specs.declared.class.Class.{Class}
use Rattle.alloy_syntax.specs.declared.class.Class.TheVariants as class
use Rattle.alloy_syntax.specs.declared.tree.Name.{Name}
use Rattle.alloy_syntax.specs.declared.tree.Number.{Number}
use Rattle.alloy_syntax.specs.declared.tree.MultiplicityWord.{MultiplicityWord}
use Rattle.alloy_syntax.specs.declared.tree.Multiplicity.{Multiplicity}
use Rattle.alloy_syntax.specs.declared.tree.Multiplicity.TheVariants as multiplicity
use Rattle.alloy_syntax.specs.declared.parser_token.ParserToken.{ParserToken}
use Rattle.alloy_syntax.specs.Readers.{next_is, value_from}

-- the first list begins with such a text, and the second is what stands behind it
abbrev pub Front : Type 1
Front = List ParserToken → List ParserToken → Type 0

-- one text, and the other directly behind it
infixr 6 ◌before◌
abbrev pub ◌before◌ : Front → Front → Front
(P before Q) ts rest = (us : List ParserToken) × P ts us × Q us rest

-- the one text, or the other
infixr 5 ◌or◌
abbrev pub ◌or◌ : Front → Front → Front
(P or Q) ts rest = P ts rest ⊎ Q ts rest

-- no token
abbrev pub nothing : Front
nothing ts rest = ts ≡ rest

-- such a text, where the test holds
abbrev pub only : Bool → Front → Front
only b P ts rest = IsTrue b × P ts rest

-- no token, where that terminal doesn't follow
abbrev pub unless_next : Class → Front
unless_next c ts rest = (ts ≡ rest) × (next_is c rest ≡ false)

-- ---- one token

-- a token of that terminal, at that place
abbrev pub sign : Class → Place → Front
sign c p ts rest = (t : ParserToken) × (ts ≡ t ∷ rest) × (t.class ≡ c) × (t.place ≡ p)

-- a token of that terminal, whose place no tree keeps
abbrev pub mark_of : Class → Front
mark_of c ts rest = (t : ParserToken) × (ts ≡ t ∷ rest) × (t.class ≡ c)

-- a token of that terminal, or none
abbrev pub flag : Class → Bool → Front
flag c true = mark_of c
flag c false = nothing

-- a token of that terminal that spells the name, where it was written
abbrev pub spelled_as : Class → Name → Front
spelled_as c n ts rest = (t : ParserToken) × (ts ≡ t ∷ rest) × (t.class ≡ c) × (t.text ≡ n.text) × (t.place ≡ n.place)

abbrev pub name : Name → Front
name = spelled_as class.Name

abbrev pub number : Number → Front
number n ts rest = (t : ParserToken) × (ts ≡ t ∷ rest) × (t.class ≡ class.Number) × (value_from 0 t.text ≡ n.value) × (t.place ≡ n.place)

abbrev pub class_of_multiplicity : Multiplicity → Class
class_of_multiplicity multiplicity.Set = class.Set
class_of_multiplicity multiplicity.One = class.One
class_of_multiplicity multiplicity.Lone = class.Lone
class_of_multiplicity multiplicity.Some = class.Some

-- [ mult ]
abbrev pub mark : Option MultiplicityWord → Front
mark None = nothing
mark (Some m) = sign (class_of_multiplicity m.multiplicity) m.place

-- ---- lists

-- { item }
abbrev pub each : {A : Type 0} → (A → Front) → List A → Front
each item [] = nothing
each item (x ∷ xs) = item x before each item xs

-- item { "," item }
abbrev pub listed : {A : Type 0} → (A → Front) → List A → Front
listed item [] ts rest = ⊥
listed item (x ∷ xs) ts rest = (item x before each (λ y. mark_of class.Comma before item y) xs) ts rest

-- [ item { "," item } ]
abbrev pub listed_if_any : {A : Type 0} → (A → Front) → List A → Front
listed_if_any item [] = nothing
listed_if_any item (x ∷ xs) = listed item (x ∷ xs)

-- names = name { "," name }
abbrev pub names : List Name → Front
names = listed name
