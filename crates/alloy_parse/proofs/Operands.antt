-- Reading the operands of a bound, as the loop does that keeps their trees, and whether one has an arrow.
use Rattle.std.proofs.Common.{◌≡◌, ◌<◌, Bool, true, false, ◌||◌, List, [], ◌∷◌, ◌++◌, length, Result, Ok, Err, refl, ap, ◌∙◌, subst}
use Rattle.std.proofs.lemmas.List.{map_push}
use Rattle.std.proofs.lemmas.List.Folds.{list_any-append}
use Rattle.alloy_lex.specs.declared.token.Place.{Place}
use Rattle.alloy_syntax.specs.declared.class.Class.TheVariants.{Plus}
use Rattle.alloy_syntax.specs.declared.parser_token.ParserToken.{ParserToken}
use Rattle.alloy_syntax.specs.Tree.{BoundTree}
use Rattle.alloy_syntax.specs.Readers.{ParseStopView, ◌>>=◌, next_is, many, with_front}
use Rattle.alloy_syntax.specs.Bounds.{Standing, Bounded, BoundReader, operand_over}
use Rattle.alloy_syntax.specs.declared.parse_stop.ParseStop.{ParseStop}
use Rattle.alloy_syntax.specs.declared.parse_stop.ParseStop.TheVariants as stop
use Rattle.alloy_syntax.specs.Gives.{Fails}
use Rattle.alloy_syntax.proofs.Loop.{Reads, reads_start, reads_more, reads_ends, loop_fails}
use Rattle.alloy_parse.specs.Bounds.{trees_at, any_arrow, operands_over}

-- these trees were read, one of which has an arrow if that is so, and the others are still to be read
pub record Gathers (j : BoundReader) (standing : Standing) (trees : List (Place × BoundTree)) (has_arrow : Bool) (rest ts : List ParserToken) : Type 0 where
  pub front : List (Place × Bounded)
  pub reads : Reads (next_is Plus) (operand_over true j standing) front rest (many (next_is Plus) (operand_over true j standing) ts)
  pub trees_are : trees_at front ≡ trees
  pub arrow_is : any_arrow front ≡ has_arrow

nothing_in_front : {A : Type 0} (read : Result (List A × List ParserToken) ParseStopView) → with_front [] read ≡ read
nothing_in_front (Ok xs) = refl
nothing_in_front (Err e) = refl

pub gathers_start : (j : BoundReader) (standing : Standing) (ts : List ParserToken) → Gathers j standing [] false ts ts
gathers_start j standing ts = record {
  front = [];
  reads = subst (λ (total : Result (List (Place × Bounded) × List ParserToken) ParseStopView). Reads (next_is Plus) (operand_over true j standing) [] ts total) (nothing_in_front (many (next_is Plus) (operand_over true j standing) ts)) (reads_start (next_is Plus) (operand_over true j standing) [] ts);
  trees_are = refl;
  arrow_is = refl;
}

or_false : (a b : Bool) → (a || (b || false)) ≡ (a || b)
or_false true b = refl
or_false false true = refl
or_false false false = refl

pub gathers_more : (j : BoundReader) (standing : Standing) (trees : List (Place × BoundTree)) (has_arrow : Bool) (rest after ts : List ParserToken) (place : Place) (x : Bounded)
    → Gathers j standing trees has_arrow rest ts → next_is Plus rest ≡ true → operand_over true j standing rest ≡ Ok ((place, x), after) → length after < length rest
    → Gathers j standing (trees ++ (place, x.bound) ∷ []) (has_arrow || x.has_arrow) after ts
gathers_more j standing trees has_arrow rest after ts place x g going read shorter =
    let trees_now : trees_at (g.front ++ (place, x) ∷ []) ≡ trees ++ (place, x.bound) ∷ [] = map_push (λ (y : Place × Bounded). (y.0, y.1.bound)) g.front (place, x) ∙ ap (λ (front : List (Place × BoundTree)). front ++ (place, x.bound) ∷ []) g.trees_are in
    let arrow_now : any_arrow (g.front ++ (place, x) ∷ []) ≡ (has_arrow || x.has_arrow) = list_any-append (λ (y : Place × Bounded). y.1.has_arrow) g.front ((place, x) ∷ []) ∙ (or_false (any_arrow g.front) x.has_arrow ∙ ap (λ (b : Bool). b || x.has_arrow) g.arrow_is) in
    record {
      front = g.front ++ (place, x) ∷ [];
      reads = reads_more (next_is Plus) (operand_over true j standing) g.front rest after (place, x) _ g.reads going read shorter;
      trees_are = trees_now;
      arrow_is = arrow_now;
    }

pub gathers_ends : (j : BoundReader) (standing : Standing) (trees : List (Place × BoundTree)) (has_arrow : Bool) (rest ts : List ParserToken)
    → Gathers j standing trees has_arrow rest ts → next_is Plus rest ≡ false → operands_over j standing ts ≡ Ok ((trees, has_arrow), rest)
unfolding operands_over
gathers_ends j standing trees has_arrow rest ts g stops =
    let all : many (next_is Plus) (operand_over true j standing) ts ≡ Ok (g.front, rest) = reads_ends (next_is Plus) (operand_over true j standing) g.front rest _ g.reads stops in
    rw (all, g.trees_are, g.arrow_is)

fails_behind : {A B : Type 0} (e : ParseStop) (read : Result A ParseStopView) (go : A → Result B ParseStopView) → Fails e read → Fails e (read >>= go)
fails_behind stop.Memory read go fails = tt
fails_behind (stop.Refused ts) read go fails = rw fails refl
fails_behind (stop.Deep ts) read go fails = rw fails refl
fails_behind (stop.Unsupported form ts) read go fails = rw fails refl

pub gathers_fails : (e : ParseStop) (j : BoundReader) (standing : Standing) (trees : List (Place × BoundTree)) (has_arrow : Bool) (rest ts : List ParserToken)
    → Gathers j standing trees has_arrow rest ts → next_is Plus rest ≡ true → Fails e (operand_over true j standing rest) → Fails e (operands_over j standing ts)
unfolding operands_over
gathers_fails e j standing trees has_arrow rest ts g going fails =
    fails_behind e (many (next_is Plus) (operand_over true j standing) ts) _ (loop_fails e (next_is Plus) (operand_over true j standing) g.front rest _ g.reads going fails)
