-- Reading one after the other, as a loop does.
use Rattle.std.proofs.Common.{◌≡◌, ℕ, zero, suc, ◌<◌, Bool, true, false, List, [], ◌∷◌, ◌++◌, length, Result, Ok, Err, refl, sym, ap, ◌∙◌, append_assoc, arith}
use Rattle.std.proofs.lemmas.List.{append-nil}
use Rattle.alloy_syntax.specs.declared.parser_token.ParserToken.{ParserToken}
use Rattle.alloy_syntax.specs.declared.parse_stop.ParseStop.{ParseStop}
use Rattle.alloy_syntax.specs.declared.parse_stop.ParseStop.TheVariants as stop
use Rattle.alloy_syntax.specs.Gives.{Fails}
use Rattle.alloy_syntax.specs.Readers.{ParseStopView, refused, too_deep, unsupported, Parser, ◌>>=◌, repeated, many, with_front}

-- what was read before, and what is still read, are the whole
pub record Reads {A : Type 0} (test : List ParserToken → Bool) (item : Parser A) (front : List A) (rest : List ParserToken) (total : Result (List A × List ParserToken) ParseStopView) : Type 0 where
  pub fuel : ℕ
  pub enough : length rest < fuel
  pub equation : with_front front (repeated test item fuel rest) ≡ total

pub reads_start : {A : Type 0} (test : List ParserToken → Bool) (item : Parser A) (front : List A) (rest : List ParserToken) → Reads test item front rest (with_front front (many test item rest))
reads_start test item front rest = record { fuel = suc (length rest); enough = omega arith; equation = refl }

regroup : {A : Type 0} (front : List A) (x : A) (read : Result (List A × List ParserToken) ParseStopView) → with_front front (read >>= λ xs. Ok (x ∷ xs.0, xs.1)) ≡ with_front (front ++ x ∷ []) read
regroup {A} front x (Ok xs) = ap (λ (ys : List A). Ok (ys, xs.1)) (simp append_assoc)
regroup front x (Err e) = refl

turn : {A : Type 0} (test : List ParserToken → Bool) (item : Parser A) (front : List A) (fuel : ℕ) (rest after : List ParserToken) (x : A) → test rest ≡ true → item rest ≡ Ok (x, after)
    → with_front front (repeated test item (suc fuel) rest) ≡ with_front (front ++ x ∷ []) (repeated test item fuel after)
unfolding repeated
turn test item front fuel rest after x going read = rw (going, read) (regroup front x (repeated test item fuel after))

more_of : {A : Type 0} (test : List ParserToken → Bool) (item : Parser A) (front : List A) (fuel : ℕ) (rest after : List ParserToken) (x : A) (total : Result (List A × List ParserToken) ParseStopView)
    → length rest < fuel → with_front front (repeated test item fuel rest) ≡ total → test rest ≡ true → item rest ≡ Ok (x, after) → length after < length rest → Reads test item (front ++ x ∷ []) after total
more_of test item front zero rest after x total enough equation going read shorter = absurd (omega arith)
more_of test item front (suc fuel) rest after x total enough equation going read shorter =
    record { fuel = fuel; enough = omega arith; equation = sym (turn test item front fuel rest after x going read) ∙ equation }

pub reads_more : {A : Type 0} (test : List ParserToken → Bool) (item : Parser A) (front : List A) (rest after : List ParserToken) (x : A) (total : Result (List A × List ParserToken) ParseStopView)
    → Reads test item front rest total → test rest ≡ true → item rest ≡ Ok (x, after) → length after < length rest → Reads test item (front ++ x ∷ []) after total
reads_more test item front rest after x total r going read shorter = more_of test item front r.fuel rest after x total r.enough r.equation going read shorter

fails_of : {A : Type 0} (test : List ParserToken → Bool) (item : Parser A) (front : List A) (fuel : ℕ) (rest : List ParserToken) (e : ParseStopView)
    → length rest < fuel → test rest ≡ true → item rest ≡ Err e → with_front front (repeated test item fuel rest) ≡ Err e
unfolding repeated
fails_of test item front zero rest e enough going read = absurd (omega arith)
fails_of test item front (suc fuel) rest e enough going read = rw (going, read) refl

pub reads_fails : {A : Type 0} (test : List ParserToken → Bool) (item : Parser A) (front : List A) (rest : List ParserToken) (e : ParseStopView) (total : Result (List A × List ParserToken) ParseStopView)
    → Reads test item front rest total → test rest ≡ true → item rest ≡ Err e → total ≡ Err e
reads_fails test item front rest e total r going read = sym r.equation ∙ fails_of test item front r.fuel rest e r.enough going read

ends_of : {A : Type 0} (test : List ParserToken → Bool) (item : Parser A) (front : List A) (fuel : ℕ) (rest : List ParserToken)
    → length rest < fuel → test rest ≡ false → with_front front (repeated test item fuel rest) ≡ Ok (front, rest)
unfolding repeated
ends_of test item front zero rest enough stops = absurd (omega arith)
ends_of {A} test item front (suc fuel) rest enough stops = rw stops (ap (λ (xs : List A). Ok (xs, rest)) (append-nil front))

pub reads_ends : {A : Type 0} (test : List ParserToken → Bool) (item : Parser A) (front : List A) (rest : List ParserToken) (total : Result (List A × List ParserToken) ParseStopView)
    → Reads test item front rest total → test rest ≡ false → total ≡ Ok (front, rest)
reads_ends test item front rest total r stops = sym r.equation ∙ ends_of test item front r.fuel rest r.enough stops

-- an error inside the loop is the whole's
pub loop_fails : {A : Type 0} (e : ParseStop) (test : List ParserToken → Bool) (item : Parser A) (front : List A) (rest : List ParserToken) (total : Result (List A × List ParserToken) ParseStopView)
    → Reads test item front rest total → test rest ≡ true → Fails e (item rest) → Fails e total
loop_fails stop.Memory test item front rest total r going read = tt
loop_fails (stop.Refused ts) test item front rest total r going read = reads_fails test item front rest (refused ts.left.now) total r going read
loop_fails (stop.Deep ts) test item front rest total r going read = reads_fails test item front rest (too_deep ts.left.now) total r going read
loop_fails (stop.Unsupported form ts) test item front rest total r going read = reads_fails test item front rest (unsupported form ts.left.now) total r going read
