use Rattle.std.proofs.Common.{◌≡◌, ◌+◌, ◌∙◌, ◌++◌, ℕ, List, codes, decimal, ap, arith, append_assoc}
use Rattle.script_text.proofs.ReplyLemmas.{numbered_more}
use Rattle.script_text.proofs.listed_lines.push_numbered.Goals as goal

grouped : (o l w t : List ℕ) → ((o ++ l) ++ w) ++ t ≡ o ++ (l ++ (w ++ t))
grouped o l w t = simp append_assoc

pub loop-place-preserved : goal.loop-place-preserved
loop-place-preserved c =
    let p = c.args.problem.now in
    let word = c.args.word.now in
    let i = c.loop-place.place in
    let s : List ℕ = c.index-scenarios-place.result in
    let before = c.loop-place.invariant in
    let text = c.in_ok-push_scenario.ensures in
    let m = c.from.result + i in
    let number : m ≡ c.args.first + i = let e = c.from.ensures in omega arith in (
      before.0 ++ (word ++ decimal m ++ codes "\n" ++ text.0),
      numbered_more p word c.args.first m c.args.scenarios.now i s before.0 text.0 c.loop-place-test.true c.index-scenarios-place.is number before.1 text.1,
      text.2 ∙ ap (λ out. out ++ text.0) (c.in_ok-push_number_line.ensures ∙ ap (λ out. out ++ (word ++ decimal m ++ codes "\n")) before.2) ∙ grouped c.args.out.now.items before.0 (word ++ decimal m ++ codes "\n") text.0,
    )
