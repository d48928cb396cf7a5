use Rattle.std.proofs.Common.{sym, ◌∙◌}
use Rattle.std.proofs.lemmas.Bool.Decides.{Decides-eqb}
use Rattle.std.proofs.lemmas.Slice.Eq.{slice_eq-Decides}
use Rattle.session_state.proofs.search_rounds.due.is_same.Goals as goal

pub returns : goal.returns
returns c =
    let same = slice_eq-Decides Decides-eqb _ _ _ c.eq.ensures in
    let one = c.numbers.ensures.value in
    let two = c.numbers-2.ensures.value in
    (λ t. sym one ∙ same.0 t ∙ two, λ e. same.1 (one ∙ e ∙ sym two))
