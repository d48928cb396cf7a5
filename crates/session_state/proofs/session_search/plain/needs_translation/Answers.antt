use Rattle.std.proofs.Common.{◌≡◌, false, true, refl, subst, sym}
use Rattle.session_state.specs.Sessions.Proposed.{NeedsTranslation}
use Rattle.session_state.proofs.session_search.plain.needs_translation.Goals as goal

pub returns-in-Next : goal.returns-in-Next
returns-in-Next c = (λ t. subst NeedsTranslation (sym c.in-Next.is) tt, λ n. refl)

pub returns-in-Offers : goal.returns-in-Offers
returns-in-Offers c = (λ t. subst NeedsTranslation (sym c.in-Offers.is) tt, λ n. refl)

pub returns-in-Augment : goal.returns-in-Augment
returns-in-Augment c = (λ t. subst NeedsTranslation (sym c.in-Augment.is) tt, λ n. refl)

pub returns-in-Back : goal.returns-in-Back
returns-in-Back c = (λ t. absurd (let h : false ≡ true = t in cc), λ n. absurd (subst NeedsTranslation c.in-Back.is n))

pub returns-in-Budget : goal.returns-in-Budget
returns-in-Budget c = (λ t. absurd (let h : false ≡ true = t in cc), λ n. absurd (subst NeedsTranslation c.in-Budget.is n))

pub returns-in-Proof : goal.returns-in-Proof
returns-in-Proof c = (λ t. absurd (let h : false ≡ true = t in cc), λ n. absurd (subst NeedsTranslation c.in-Proof.is n))
