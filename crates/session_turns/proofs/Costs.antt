-- What commands cost, and the budget that they leave.
use Rattle.std.proofs.Common.{◌≡◌, ◌≤◌, ◌<◌, ◌+◌, ◌*◌, inl, inr, ℕ, suc, Bool, true, false, List, [], ◌∷◌, ◌++◌, drop, length, get_or, if◌then◌else◌, refl, sym, ◌∙◌, ap, subst, arith}
use Rattle.std.proofs.Math.Nat.{add-mul, mul-le-mul_right}
use Rattle.std.proofs.Math.Seq.{drop-cons}
use Rattle.rel_formula.specs.Bounds.{Bounded}
use Rattle.session_words.specs.declared.steps.Step.{Step as StepType}
use Rattle.session_words.specs.declared.steps.Step.TheVariants.{Next, Offers, Augment, Back, Budget, Proof}
use Rattle.session_words.specs.declared.commands.Command.{Command}
use Rattle.session_words.specs.declared.commands.Command.TheVariants.{Step, All}
use Rattle.session_rules.specs.States.{State, top_floor, has_ended, after}
use Rattle.session_rules.specs.Steps.{MayAnswer, MachineStep}
use Rattle.session_rules.specs.declared.answers.Reply.{Reply}
use Rattle.session_rules.specs.declared.answers.Reply.TheVariants.{Shown, End, Offers as OffersAre, Augmented, Back as WentBack, BudgetSet, All as AllShown, Partly, Proof as ProofIs, Refused, Memory}
use Rattle.session_turns.specs.Allowed.{cost_of, MayLeave, allowed}

-- each step may leave the budget as it is
stays : (budget : ℕ) (step : StepType) → MayLeave budget (Step step) budget
stays budget Next = refl
stays budget Offers = refl
stays budget (Augment name names) = refl
stays budget Back = refl
stays budget (Budget other) = inl refl
stays budget Proof = refl

-- an end leaves it so, whether it is the first or not
one_or_other : (b : Bool) (s other : State) → other.budget ≡ s.budget → (if b then s else other).budget ≡ s.budget
one_or_other true s other e = refl
one_or_other false s other e = e

left_by_reply : (p : Bounded) (s : State) (step : StepType) (reply : Reply) → MayAnswer p s step reply → MayLeave s.budget (Step step) (after s reply).budget
left_by_reply p s step (Shown number scenario) may = stays s.budget step
left_by_reply p s step (End number proof) may =
    subst (MayLeave s.budget (Step step)) (sym (one_or_other (has_ended (top_floor s) s) s (record s { ended = s.ended ++ record { floor = top_floor s; proof = proof } ∷ [] }) refl)) (stays s.budget step)
left_by_reply p s step (OffersAre cells) may = stays s.budget step
left_by_reply p s step (Augmented floor) may = stays s.budget step
left_by_reply p s step WentBack may = stays s.budget step
left_by_reply p s Next (BudgetSet budget) may = absurd may
left_by_reply p s Offers (BudgetSet budget) may = absurd may
left_by_reply p s (Augment name names) (BudgetSet budget) may = absurd may
left_by_reply p s Back (BudgetSet budget) may = absurd may
left_by_reply p s (Budget asked) (BudgetSet budget) may = inr may
left_by_reply p s Proof (BudgetSet budget) may = absurd may
left_by_reply p s step (AllShown scenarios) may = stays s.budget step
left_by_reply p s step (Partly first scenarios) may = stays s.budget step
left_by_reply p s step (ProofIs proof) may = stays s.budget step
left_by_reply p s step (Refused refusal) may = stays s.budget step
left_by_reply p s step Memory may = stays s.budget step

-- the budget behind a step
pub left_by_step : (p : Bounded) (old new : State) (step : StepType) (reply : Reply) → MachineStep p old step reply new → MayLeave old.budget (Step step) new.budget
left_by_step p old new step reply machine = subst (λ (s : State). MayLeave old.budget (Step step) s.budget) (sym machine.1) (left_by_reply p old step reply machine.0)

pub left_by_next : (p : Bounded) (old new : State) (reply : Reply) → MachineStep p old Next reply new → new.budget ≡ old.budget
left_by_next p old new reply machine = left_by_step p old new Next reply machine

-- ---- `all`

-- one scenario more may cost the budget once more
pub spent_more : (start now next times budget left : ℕ) → left ≡ budget → now ≤ start + times * budget → next ≤ now + left → next ≤ start + (times + 1) * budget
spent_more start now next times budget left same before one = let e = add-mul times 1 budget in omega arith

pub spent_within : (start now times wanted budget : ℕ) → times ≤ wanted → now ≤ start + times * budget → now ≤ start + wanted * budget
spent_within start now times wanted budget few before = let most = mul-le-mul_right budget few in omega arith

-- ---- commands, one after the other

step_first : (budget left : ℕ) (step : StepType) (commands : List Command) → MayLeave budget (Step step) left → cost_of budget (Step step) + allowed left commands ≤ allowed budget (Step step ∷ commands)
step_first budget left Next commands same = let e = ap (λ n. allowed n commands) same in omega arith
step_first budget left Offers commands same = let e = ap (λ n. allowed n commands) same in omega arith
step_first budget left (Augment name names) commands same = let e = ap (λ n. allowed n commands) same in omega arith
step_first budget left Back commands same = let e = ap (λ n. allowed n commands) same in omega arith
step_first budget left (Budget other) commands (inl same) = let e = ap (λ n. allowed n commands) same in omega arith
step_first budget left (Budget other) commands (inr set) = let e = ap (λ n. allowed n commands) set in omega arith
step_first budget left Proof commands same = let e = ap (λ n. allowed n commands) same in omega arith

-- what the first command may cost, and those behind it by the budget that it leaves
first_of : (budget left : ℕ) (command : Command) (commands : List Command) → MayLeave budget command left → cost_of budget command + allowed left commands ≤ allowed budget (command ∷ commands)
first_of budget left (Step step) commands may = step_first budget left step commands may
first_of budget left (All n) commands same = let e = ap (λ m. allowed m commands) same in omega arith

-- the commands from one on, when it was answered
pub spent_on : (cs : List Command) (i : ℕ) (command : Command) → i < length cs → command ≡ get_or cs i command → (budget left : ℕ) → MayLeave budget command left →
    (start now next most : ℕ) → now + allowed budget (drop i cs) ≤ start + most → next ≤ now + cost_of budget command → next + allowed left (drop (i + 1) cs) ≤ start + most
spent_on cs i command l is budget left may start now next most before more =
    let one : suc i ≡ i + 1 = omega arith in
    let cut : drop i cs ≡ command ∷ drop (i + 1) cs = drop-cons cs i command l ∙ ap (λ n. get_or cs i command ∷ drop n cs) one ∙ ap (λ (c : Command). c ∷ drop (i + 1) cs) (sym is) in
    let e = ap (allowed budget) cut in
    let first = first_of budget left command (drop (i + 1) cs) may in
    omega arith
