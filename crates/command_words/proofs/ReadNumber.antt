-- A number that is read under a name.
use Rattle.std.proofs.Common.{◌≡◌, ◌<◌, ◌^◌, ◌∙◌, ℕ, List, Option, Some, None, Result, Ok, Err, sym, ap, subst, inl, inr}
use Rattle.std.specs.Str.Parse.{IsNumeral, ParsesUnsigned, digits_value}
use Rattle.clap.specs.Matches.{ReadsOne}
use Rattle.clap.specs.Walk.{Row, Text, first_of, one_of}
use Rattle.command_words.specs.Words.{IsNumber}
use Rattle.command_words.specs.Program.{ReadsGiven, ReadsNumber}
use Rattle.command_words.proofs.Numbers.{number_fits, numeral, plus_off, value_is}

-- by what `u32` reads of a text
module _ (E : Type 0) (gives : Text → Result ℕ E → Type 0) (parses : (text : Text) (r : Result ℕ E) → gives text r → ParsesUnsigned 32 10 text r) where
  pub reads_number : (name : Text) (rows : List Row) (text : Text) (read : Option ℕ) → first_of name rows ≡ Some text → IsNumber text
      → (one_of name rows ≡ Some text → ReadsOne gives text read) → ReadsGiven name rows read
  reads_number name rows text None first is reads =
      let same = sym (plus_off text is) in inr (
        text,
        first,
        λ number one.
            let failed = reads one in
            parses text (Err failed.0) failed.1 (subst (IsNumeral 10) same (numeral text is), subst (λ (t : Text). digits_value 10 t < 2 ^ 32) same (number_fits text is)),
      )
  reads_number name rows text (Some n) first is reads =
      (text, first, is, λ one. (parses text (Ok n) (reads one)).1 ∙ ap (digits_value 10) (plus_off text is) ∙ value_is text is)

-- an option that is given
pub where_given : (default : ℕ) (name : Text) (rows : List Row) (text : Text) (read : Option ℕ) → first_of name rows ≡ Some text → ReadsGiven name rows read → ReadsNumber default name rows read
where_given default name rows text None first (inl none) = let bad : Some text ≡ None = sym first ∙ none in absurd (cc)
where_given default name rows text None first (inr reads) = reads
where_given default name rows text (Some n) first reads = inr reads
