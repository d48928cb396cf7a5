use Rattle.std.proofs.Common.{◌≡◌, true, false, ◌++◌, ◌∷◌, [], map}
use Rattle.std.proofs.lemmas.Result.{err_from_is_err_and}
use Rattle.std.proofs.lemmas.List.{map_push}
use Rattle.alloy_syntax.specs.Paragraphs.{is_left}
use Rattle.alloy_syntax.specs.View.{paragraph_view}
use Rattle.alloy_syntax.proofs.Loop.{loop_fails, reads_more, reads_ends}
use Rattle.alloy_parse.proofs.paragraphs.all_paragraphs.Goals as goal

pub returns-in_err-another : goal.returns-in_err-another
returns-in_err-another c =
    let p = err_from_is_err_and c.from_residual.result c.from_residual.ensures.1 in
    let going : is_left c.each.rest.left.now ≡ true = cc in
    rw (p.1, p.2) (loop_fails _ _ _ _ _ _ c.each.invariant going c.in_err-another.ensures.value)

pub each-preserved : goal.each-preserved
each-preserved c =
    let pushed : map paragraph_view c.push.new.self.items ≡ map paragraph_view c.each.all.items ++ paragraph_view c.in_ok-another.another ∷ [] = rw c.in_ok-push.ensures.items (map_push _ c.each.all.items c.in_ok-another.another) in
    let going : is_left c.each.rest.left.now ≡ true = cc in
    rw pushed (reads_more _ _ _ _ _ _ _ c.each.invariant going c.in_ok-another.ensures.value c.in_ok-another.ensures.shorter)

pub returns : goal.returns
returns c =
    let stops : is_left c.each.rest.left.now ≡ false = cc in
    rw c.fitted.ensures (reads_ends _ _ _ _ _ c.each.invariant stops)
