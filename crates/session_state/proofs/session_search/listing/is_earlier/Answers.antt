use Rattle.std.proofs.Common.{◌≡◌, ◌∙◌, ap, sym, subst}
use Rattle.session_state.specs.Sessions.Listed.{comes_first}
use Rattle.session_state.proofs.Sessions.Ordered.{Says, says}
use Rattle.session_state.proofs.session_search.listing.is_earlier.Goals as goal

pub returns-clause-earlier : goal.returns-clause-earlier
returns-clause-earlier c =
    let first = c.args.first.now in
    let second = c.args.second.now in
    let same : c.comes_first.result ≡ comes_first first second = c.comes_first.ensures ∙ ap (λ xs. comes_first xs c.numbers-2.result.now) c.numbers.ensures.value ∙ ap (comes_first first) c.numbers-2.ensures.value in
    let told = subst (Says first second) (sym same) (says first second c.numbers.ensures.rising c.numbers-2.ensures.rising) in
    told.earlier

pub returns-clause-other : goal.returns-clause-other
returns-clause-other c =
    let first = c.args.first.now in
    let second = c.args.second.now in
    let same : c.comes_first.result ≡ comes_first first second = c.comes_first.ensures ∙ ap (λ xs. comes_first xs c.numbers-2.result.now) c.numbers.ensures.value ∙ ap (comes_first first) c.numbers-2.ensures.value in
    let told = subst (Says first second) (sym same) (says first second c.numbers.ensures.rising c.numbers-2.ensures.rising) in
    told.other
