use Rattle.std.proofs.Common.{◌≡◌, inr, ℕ, List, [], ◌∷◌, length, refl, ap, subst}
use Rattle.std.proofs.lemmas.List.Elements.{All-nil, All-cons}
use Rattle.refutation_check.specs.declared.log.Step.{Step as LogStep}
use Rattle.hub_state.specs.Journal.Noted.{Note, Shared}
use Rattle.hub_turns.specs.Groups.{SharesFront, free_in}
use Rattle.session_turns.proofs.sharing.share_part.Goals as goal

pub returns-clause-added : goal.returns-clause-added
returns-clause-added g c =
    let key = c.args.key in
    let Is : Note → Type 0 = λ (note : Note). (steps : List LogStep) × (note ≡ Shared key steps) in
    let got = c.in_ok-share.ensures.added c.args.translation.now c.requires.imported.published in
    (Shared key got.0 ∷ [], got.2, All-cons Is (Shared key got.0) [] (got.0, refl) (All-nil Is))

pub returns-clause-shared : goal.returns-clause-shared
returns-clause-shared g c =
    let t = c.args.translation.now in
    let by = c.args.pass.now.view.number in
    let key = c.args.key in
    let seen = c.share.new.pass.view.seen in
    let got = c.in_ok-share.ensures.added t c.requires.imported.published in
    let free = free_in t c.args.part.now.local c.args.pool.now c.args.part.now.log in
    inr (subst (λ (n : ℕ). SharesFront t by key n free seen) (ap length c.steps-2.ensures.steps)
    (subst (λ (xs : List LogStep). SharesFront t by key (length c.steps-2.result.now) xs seen) c.in_ok-free.ensures.steps got.3))
