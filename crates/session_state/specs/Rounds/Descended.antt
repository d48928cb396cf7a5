-- What the descent of a round comes to.
use Rattle.std.specs.Prelude.{◌≡◌, ◌⊎◌, ◌+◌, ℕ, List, ◌∷◌, Contains}
use Rattle.refutation_check.specs.declared.log.Step.{Step as LogStep}
use Rattle.refutation_check.specs.Part.{Parted}
use Rattle.rel_formula.specs.Bounds.{Bounded}
use Rattle.rel_formula.specs.Instance.{Includes}
use Rattle.swap_symmetry.specs.Due.{IsDue}
use Rattle.translation_rules.specs.Translation.{Translated}
use Rattle.translation_rules.specs.Parts.{LastGoesOn, novel_in}
use Rattle.minimiser.specs.Down.{IsDescent}
use Rattle.session_rules.specs.Proofs.{IsCopy}
use Rattle.session_state.specs.declared.search_rounds.round.RoundEnd.{RoundEnd}
use Rattle.session_state.specs.declared.search_rounds.round.RoundEnd.TheVariants.{Due, Copy, Refuted, Spent}
use Rattle.session_state.specs.Rounds.Rounds.{parts_in}

-- where this minimal scenario leads: to one that is due and was not shown; or it is a copy of one that was, and takes one of the units
-- that are left, or none is left for it
abbrev pub IsDueOrCopy : Bounded → List ℕ → List (List ℕ) → List ℕ → ℕ → RoundEnd → Type 0
IsDueOrCopy p floor shown minimal left (Due scenario parts) = IsDue p floor scenario × (¬ Contains shown scenario)
IsDueOrCopy p floor shown minimal left (Copy scenario parts rest) = (scenario ≡ minimal) × IsCopy p floor shown minimal × (1 + rest ≡ left)
IsDueOrCopy p floor shown minimal left (Refuted part) = ⊥
IsDueOrCopy p floor shown minimal left (Spent parts) = IsCopy p floor shown minimal × (left ≡ 0)

-- some copy of what was shown lies in the start
abbrev pub HasCopyIn : Bounded → List ℕ → List (List ℕ) → List ℕ → Type 0
HasCopyIn p floor shown start = (copy : List ℕ) × IsCopy p floor shown copy × Includes start copy

-- where a descent from the start leads that has these parts: to a scenario that is due and was not shown; or to a copy of one that was, which
-- lies in the start, and with it the novel steps leave so much; or these are all that was left, and the last part goes on, or there is no
-- unit for such a copy
abbrev pub LeadsTo : Translated → List LogStep → List ℕ → List (List ℕ) → List ℕ → ℕ → List Parted → RoundEnd → Type 0
LeadsTo t pool floor shown start left parts (Due scenario all) = IsDue t.problem floor scenario × (¬ Contains shown scenario)
LeadsTo t pool floor shown start left parts (Copy scenario all rest) = IsCopy t.problem floor shown scenario × Includes start scenario × (novel_in t pool parts + 1 + rest ≡ left)
LeadsTo t pool floor shown start left parts (Refuted part) = ⊥
LeadsTo t pool floor shown start left parts (Spent all) = (novel_in t pool parts ≡ left) × (LastGoesOn t pool parts ⊎ HasCopyIn t.problem floor shown start)

-- the parts of the round are this one, and then those of a descent from the start, over the translation and the pool
pub record DescendsTo (t : Translated) (pool : List LogStep) (floor : List ℕ) (shown : List (List ℕ)) (part : Parted) (start : List ℕ) (left : ℕ) (end : RoundEnd) : Type 0 where
  pub parts : List Parted
  pub in_order : parts_in end ≡ part ∷ parts
  pub descent : IsDescent t pool floor start left parts
  pub leads : LeadsTo t pool floor shown start left parts end
