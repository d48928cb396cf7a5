-- What a reading that succeeds says of its parts.
use Rattle.std.proofs.Common.{◌≡◌, ◌⊎◌, inl, inr, Bool, true, false, List, Result, Ok, Err, refl, ap}
use Rattle.alloy_syntax.specs.declared.parser_token.ParserToken.{ParserToken}
use Rattle.alloy_syntax.specs.Readers.{ParseStopView}

-- a result is a success or a stop
pub data Known {A : Type 0} (r : Result A ParseStopView) : Type 0 where
  success : (x : A) → r ≡ Ok x → Known r
  stop : (d : ParseStopView) → r ≡ Err d → Known r

pub known : {A : Type 0} (r : Result A ParseStopView) → Known r
known (Ok x) = success x refl
known (Err d) = stop d refl

pub either : (b : Bool) → (b ≡ true) ⊎ (b ≡ false)
either true = inl refl
either false = inr refl

pub no_success : {A : Type 0} {P : Type 0} (d : ParseStopView) (x : A) → Err d ≡ Ok x → P
no_success d x e = absurd cc

abbrev pub got : {A : Type 0} → A → List ParserToken → Result (A × List ParserToken) ParseStopView
got x ts = Ok (x, ts)

abbrev pub done : {A : Type 0} → A → Result A ParseStopView
done x = Ok x

pub done_is : {A : Type 0} (x y : A) → done x ≡ done y → x ≡ y
done_is x y e = cc

pub value_is : {A : Type 0} (x y : A) (us rest : List ParserToken) → got x us ≡ got y rest → x ≡ y
value_is {A} x y us rest e = ap (λ (p : A × List ParserToken). p.0) (done_is (x, us) (y, rest) e)

pub rest_is : {A : Type 0} (x y : A) (us rest : List ParserToken) → got x us ≡ got y rest → us ≡ rest
rest_is {A} x y us rest e = ap (λ (p : A × List ParserToken). p.1) (done_is (x, us) (y, rest) e)

pub true_not_false : {P : Type 0} → true ≡ false → P
true_not_false e = absurd cc
