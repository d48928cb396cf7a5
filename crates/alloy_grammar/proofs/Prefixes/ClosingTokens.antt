-- Tokens that may stand behind whatever was read: no operator of formulas and no `else` is the first.
use Rattle.std.proofs.Common.{◌≡◌, Bool, true, false, List, [], ◌∷◌, ◌++◌, codes, refl, ap}
use Rattle.alloy_syntax.specs.declared.class.Class.{Class}
use Rattle.alloy_syntax.specs.declared.class.Class.TheVariants as class
use Rattle.alloy_syntax.specs.declared.parser_token.ParserToken.{ParserToken}
use Rattle.alloy_syntax.specs.Class.{is_class}
use Rattle.alloy_syntax.specs.Readers.{next_is}
use Rattle.alloy_grammar.specs.Nodes.{begins_operator}

pub record Calm (ts : List ParserToken) : Type 0 where
  pub no_else : next_is class.Else ts ≡ false
  pub no_operator : begins_operator ts ≡ false

-- a token of that terminal, for the end of a text
abbrev pub any_token : Class → ParserToken
any_token c = record { class = c; place = record { line = 1; column = 1 }; text = codes "a" }

abbrev pub is_calm : Class → Bool
is_calm class.Else = false
is_calm class.Or = false
is_calm class.Iff = false
is_calm class.Implies = false
is_calm class.And = false
is_calm _ = true

pub calm_class : (c : Class) → is_calm c ≡ true → (t : ParserToken) → t.class ≡ c → (ts : List ParserToken) → Calm (t ∷ ts)
unfolding next_is is_class begins_operator
calm_class class.Else e t is ts = absurd cc
calm_class class.Or e t is ts = absurd cc
calm_class class.Iff e t is ts = absurd cc
calm_class class.Implies e t is ts = absurd cc
calm_class class.And e t is ts = absurd cc
calm_class _ e t is ts = record { no_else = ap (λ c. is_class c class.Else) is; no_operator = ap (λ (c : Class). begins_operator (any_token c ∷ ts)) is }

pub calm_token : (c : Class) → is_calm c ≡ true → (ts : List ParserToken) → Calm (any_token c ∷ ts)
calm_token c e ts = calm_class c e (any_token c) refl ts

pub calm_end : Calm []
unfolding next_is begins_operator
calm_end = record { no_else = refl; no_operator = refl }

-- the first of the tokens stays, or calm ones come
pub stays_else : (read left other : List ParserToken) → next_is class.Else (read ++ left) ≡ false → Calm other → next_is class.Else (read ++ other) ≡ false
unfolding next_is
stays_else [] left other e c = c.no_else
stays_else (t ∷ ts) left other e c = e

pub stays_operator : (read left other : List ParserToken) → begins_operator (read ++ left) ≡ false → Calm other → begins_operator (read ++ other) ≡ false
unfolding next_is begins_operator
stays_operator [] left other e c = c.no_operator
stays_operator (t ∷ ts) left other e c = e
