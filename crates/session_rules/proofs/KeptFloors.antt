-- Replies that leave the floors as they are.
use Rattle.std.proofs.Common.{◌≡◌, suc, true, false, if◌then◌else◌, List, [], ◌∷◌, ◌++◌, All, refl, ◌∙◌, arith}
use Rattle.session_rules.specs.ProofOfEnd.{ProofOfEnd}
use Rattle.session_rules.specs.States.{State, top_floor, has_ended, after, KeepsFloors}
use Rattle.session_rules.specs.Steps.{Exchange, state_after}
use Rattle.session_rules.specs.declared.answers.Reply.{Reply}
use Rattle.session_rules.specs.declared.answers.Reply.TheVariants.{Shown, End, Offers as OffersAre, Augmented, Back as WentBack, BudgetSet, All as AllShown, Partly, Proof as ProofIs, Refused, Memory}

abbrev ended_by : State → ProofOfEnd → State
ended_by s proof = record s { ended = s.ended ++ record { floor = top_floor s; proof = proof } ∷ [] }

pub floors_stay : (s : State) (reply : Reply) → KeepsFloors reply → (after s reply).above ≡ s.above
floors_stay s (Shown number scenario) keeps = refl
floors_stay s (End number proof) keeps = elim (has_ended (top_floor s) s) as (λ b. (if b then s else ended_by s proof).above ≡ s.above) [ true ↦ refl | false ↦ refl ]
floors_stay s (OffersAre cells) keeps = refl
floors_stay s (Augmented floor) keeps = absurd keeps
floors_stay s WentBack keeps = absurd keeps
floors_stay s (BudgetSet budget) keeps = refl
floors_stay s (AllShown scenarios) keeps = refl
floors_stay s (Partly first scenarios) keeps = refl
floors_stay s (ProofIs proof) keeps = refl
floors_stay s (Refused refusal) keeps = refl
floors_stay s Memory keeps = refl

pub all_floors_stay : (s : State) (xs : List Exchange) → All (λ (x : Exchange). KeepsFloors x.reply) xs → (state_after s xs).above ≡ s.above
all_floors_stay s [] keep = refl
all_floors_stay s (x ∷ xs) keep = all_floors_stay (after s x.reply) xs (λ k d l. keep (suc k) d (omega arith)) ∙ floors_stay s x.reply (keep 0 x (omega arith))
