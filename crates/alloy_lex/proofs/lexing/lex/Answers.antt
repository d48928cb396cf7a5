use Rattle.std.proofs.Common.{◌≡◌, Ok, ◌<◌, ◌++◌, ◌∷◌, [], length, Some, None, arith}
use Rattle.std.proofs.lemmas.Result.{err_from_is_err_and}
use Rattle.std.proofs.lemmas.List.{append-nil}
use Rattle.alloy_lex.proofs.LexingSteps.{lexes_more, lexes_fails, lexes_ends}
use Rattle.alloy_lex.specs.Tokens.{tokens_of}
use Rattle.alloy_lex.proofs.Slices.{tokens_sized, tokens_few}
use Rattle.alloy_lex.proofs.lexing.lex.Goals as goal

pub returns-in_err-found-clause-faults : goal.returns-in_err-found-clause-faults
returns-in_err-found-clause-faults c =
    let p = err_from_is_err_and c.from_residual.result c.from_residual.ensures.1 in
    let some : 0 < length c.each.rest.now = grind arith in
    rw (p.1, p.2) (lexes_fails _ c.each.tokens.items c.each.at c.each.rest.now _ c.each.invariant.lexes some c.in_err-found.ensures.value)

pub each-preserved-in_ok-push : goal.each-preserved-in_ok-push
each-preserved-in_ok-push c =
    let done = c.in_ok-found.ensures in
    let some : 0 < length c.each.rest.now = grind arith in
    let read = rw c.in-Some.is at done.value in
    let pushed : c.push.new.self.items ≡ c.each.tokens.items ++ c.in-Some.token ∷ [] = c.in_ok-push.ensures.items in
    record {
      lexes = rw pushed (lexes_more c.each.tokens.items c.each.at c.in_ok-found.next c.each.rest.now c.in_ok-found.behind.now (Some c.in-Some.token) _ c.each.invariant.lexes some read done.shorter);
      start = omega (arith, done.start);
      line = omega (arith, done.line);
      column = omega (arith, done.column);
    }

pub each-preserved : goal.each-preserved
each-preserved c =
    let done = c.in_ok-found.ensures in
    let some : 0 < length c.each.rest.now = grind arith in
    let read = rw c.in_default.is at done.value in
    record {
      lexes = rw (← append-nil c.each.tokens.items) (lexes_more c.each.tokens.items c.each.at c.in_ok-found.next c.each.rest.now c.in_ok-found.behind.now None _ c.each.invariant.lexes some read done.shorter);
      start = omega (arith, done.start);
      line = omega (arith, done.line);
      column = omega (arith, done.column);
    }

read_whole : (c : goal.After-each) → tokens_of c.args.text.now ≡ Ok c.each.tokens.items
read_whole c =
    let none : length c.each.rest.now ≡ 0 = grind arith in
    lexes_ends c.each.tokens.items c.each.at c.each.rest.now _ c.each.invariant.lexes none

pub returns-clause-tokens : goal.returns-clause-tokens
returns-clause-tokens c = read_whole c

pub returns-clause-sized : goal.returns-clause-sized
returns-clause-sized c = tokens_sized c.args.text.now c.each.tokens.items c.requires (read_whole c)

pub returns-clause-few : goal.returns-clause-few
returns-clause-few c = tokens_few c.args.text.now c.each.tokens.items (read_whole c)
