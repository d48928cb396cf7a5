-- Lexing step after step, as a loop does.
use Rattle.std.proofs.Common.{◌≡◌, ℕ, zero, suc, ◌<◌, List, [], ◌∷◌, ◌++◌, length, Option, option_to_list, Result, Ok, Err, refl, sym, ap, ◌∙◌, append_assoc, arith}
use Rattle.std.proofs.lemmas.List.{append-nil}
use Rattle.alloy_lex.specs.declared.token.Token.{Token}
use Rattle.alloy_lex.specs.declared.token.LexFault.{LexFault}
use Rattle.alloy_lex.specs.declared.token.LexFault.TheVariants as fault
use Rattle.alloy_lex.specs.declared.lexing.Spot.{Spot}
use Rattle.alloy_lex.specs.Tokens.{◌>>=◌, tokens_from, step_of, origin, tokens_of, IsFaultOf}

abbrev pub with_front : List Token → Result (List Token) LexFault → Result (List Token) LexFault
with_front front read = read >>= λ ts. Ok (front ++ ts)

-- the tokens so far, and those of what is left, are the whole's
pub record Lexes (front : List Token) (at : Spot) (rest : List ℕ) (total : Result (List Token) LexFault) : Type 0 where
  pub steps : ℕ
  pub enough : length rest < steps
  pub equation : with_front front (tokens_from steps at rest) ≡ total

no_front : (read : Result (List Token) LexFault) → with_front [] read ≡ read
no_front (Ok ts) = refl
no_front (Err e) = refl

pub lexes_start : (text : List ℕ) → Lexes [] origin text (tokens_of text)
lexes_start text = record { steps = suc (length text); enough = omega arith; equation = no_front (tokens_of text) }

regroup : (front ts : List Token) (read : Result (List Token) LexFault) → with_front front (read >>= λ us. Ok (ts ++ us)) ≡ with_front (front ++ ts) read
regroup front ts (Ok us) = ap (λ (xs : List Token). Ok xs) (simp append_assoc)
regroup front ts (Err e) = refl

more_of : (front : List Token) (steps : ℕ) (at next : Spot) (rest after : List ℕ) (found : Option Token) (total : Result (List Token) LexFault) → length rest < steps → 0 < length rest
    → with_front front (tokens_from steps at rest) ≡ total → step_of at rest ≡ Ok (found, next, after) → length after < length rest → Lexes (front ++ option_to_list found) next after total
unfolding tokens_from
more_of front zero at next rest after found total enough some equation step shorter = absurd (omega arith)
more_of front (suc steps) at next [] after found total enough some equation step shorter = absurd (omega arith)
more_of front (suc steps) at next (b ∷ bs) after found total enough some equation step shorter =
    let turn : with_front front (tokens_from (suc steps) at (b ∷ bs)) ≡ with_front (front ++ option_to_list found) (tokens_from steps next after) = rw step (regroup front (option_to_list found) (tokens_from steps next after)) in
    record { steps = steps; enough = omega arith; equation = sym turn ∙ equation }

pub lexes_more : (front : List Token) (at next : Spot) (rest after : List ℕ) (found : Option Token) (total : Result (List Token) LexFault) → Lexes front at rest total → 0 < length rest
    → step_of at rest ≡ Ok (found, next, after) → length after < length rest → Lexes (front ++ option_to_list found) next after total
lexes_more front at next rest after found total l some step shorter = more_of front l.steps at next rest after found total l.enough some l.equation step shorter

fails_of : (front : List Token) (steps : ℕ) (at : Spot) (rest : List ℕ) (e : LexFault) → length rest < steps → 0 < length rest → step_of at rest ≡ Err e → with_front front (tokens_from steps at rest) ≡ Err e
unfolding tokens_from
fails_of front zero at rest e enough some step = absurd (omega arith)
fails_of front (suc steps) at [] e enough some step = absurd (omega arith)
fails_of front (suc steps) at (b ∷ bs) e enough some step = rw step refl

fails : (front : List Token) (at : Spot) (rest : List ℕ) (total : Result (List Token) LexFault) (e : LexFault) → Lexes front at rest total → 0 < length rest → step_of at rest ≡ Err e → total ≡ Err e
fails front at rest total e l some step = sym l.equation ∙ fails_of front l.steps at rest e l.enough some step

pub lexes_fails : (e : LexFault) (front : List Token) (at : Spot) (rest : List ℕ) (total : Result (List Token) LexFault) → Lexes front at rest total → 0 < length rest → IsFaultOf e (step_of at rest) → IsFaultOf e total
lexes_fails fault.Memory front at rest total l some step = tt
lexes_fails (fault.BadCharacter p) front at rest total l some step = fails front at rest total (fault.BadCharacter p) l some step
lexes_fails (fault.OpenComment p) front at rest total l some step = fails front at rest total (fault.OpenComment p) l some step
lexes_fails (fault.NumberTooLarge p) front at rest total l some step = fails front at rest total (fault.NumberTooLarge p) l some step

ends_of : (front : List Token) (steps : ℕ) (at : Spot) (rest : List ℕ) → length rest < steps → length rest ≡ 0 → with_front front (tokens_from steps at rest) ≡ Ok front
unfolding tokens_from
ends_of front zero at rest enough none = absurd (omega arith)
ends_of front (suc steps) at [] enough none = ap (λ (xs : List Token). Ok xs) (append-nil front)
ends_of front (suc steps) at (b ∷ bs) enough none = absurd (omega arith)

pub lexes_ends : (front : List Token) (at : Spot) (rest : List ℕ) (total : Result (List Token) LexFault) → Lexes front at rest total → length rest ≡ 0 → total ≡ Ok front
lexes_ends front at rest total l none = sym l.equation ∙ ends_of front l.steps at rest l.enough none
