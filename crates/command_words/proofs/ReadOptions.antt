-- What is read of an option, where it is given and where it isn't.
use Rattle.std.proofs.Common.{◌≡◌, ◌∙◌, ℕ, List, Some, None, sym, ap, subst, inl, inr}
use Rattle.clap.specs.Lexer.{without_minus}
use Rattle.clap.specs.Walk.{Row, Text, first_of, one_of}
use Rattle.command_words.specs.Words.{IsNumber, number_after}
use Rattle.command_words.specs.Program.{ReadsNumber}
use Rattle.command_words.proofs.Numbers.{minus_off}

pub record IsTaken (v : Text) (n : ℕ) : Type 0 where
  pub number : IsNumber v
  pub is : n ≡ number_after 0 v

pub taken : (default n : ℕ) (name : Text) (rows : List Row) (v : Text) → first_of name rows ≡ Some v → one_of name rows ≡ Some (without_minus v) → ReadsNumber default name rows (Some n) → IsTaken v n
taken default n name rows v first one (inl none) = let bad : Some v ≡ None = sym first ∙ none.0 in absurd (cc)
taken default n name rows v first one (inr some) =
    let both : Some some.0 ≡ Some v = sym some.1 ∙ first in
    let same : some.0 ≡ v = cc in
    let number = subst IsNumber same some.2 in
    let text = one ∙ ap Some (minus_off v number) in
    record { number = number; is = some.3 (text ∙ ap Some (sym same)) ∙ ap (number_after 0) same }

pub absent : (default n : ℕ) (name : Text) (rows : List Row) → first_of name rows ≡ None → ReadsNumber default name rows (Some n) → n ≡ default
absent default n name rows first (inl none) = none.1
absent default n name rows first (inr some) = let bad : None ≡ Some some.0 = sym first ∙ some.1 in absurd (cc)

pub number_here : (v text : Text) → IsNumber v → Some v ≡ Some text → IsNumber text × (Some (without_minus v) ≡ Some text)
number_here v text is e = let same : v ≡ text = cc in (subst IsNumber same is, ap Some (minus_off v is ∙ same))
