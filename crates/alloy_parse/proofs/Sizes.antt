-- The size of each token.
use Rattle.std.proofs.Common.{List, [], ◌∷◌}
use Rattle.std.specs.List.{All}
use Rattle.std.proofs.lemmas.List.Elements.{All-nil, All-cons}
use Rattle.alloy_lex.specs.declared.token.Token.{Token}
use Rattle.alloy_lex.specs.Reading.{IsSized, AreSized}

pub each_is_sized : (ts : List Token) → AreSized ts → All IsSized ts
each_is_sized [] sized = All-nil IsSized
each_is_sized (t ∷ ts) sized = All-cons IsSized t ts sized.0 (each_is_sized ts sized.1)
