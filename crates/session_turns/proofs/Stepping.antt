-- What one step of a session leaves, and what can be printed of its reply.
use Rattle.std.proofs.Common.{◌≡◌, ◌≤◌, ◌<◌, ◌+◌, ◌++◌, ℕ, Bool, true, false, if◌then◌else◌, Result, Ok, Err, IfOk, List, [], ◌∷◌, length, length-append, All, Contains, IsTrue, refl, sym, subst, arith}
use Rattle.std.proofs.lemmas.List.Elements.{All-nil, All-cons, All-append, All-contains, All-contains_itself, All-weaker, Contains-append_right}
use Rattle.refutation_check.specs.declared.log.Step.{Step as LogStep}
use Rattle.refutation_check.specs.Part.{Parted}
use Rattle.rel_formula.specs.Bounds.{Bounded, cells_of}
use Rattle.rel_formula.specs.Instance.{AreCells}
use Rattle.rel_formula.proofs.WithCell.{all_of}
use Rattle.swap_symmetry.specs.Due.{IsDue}
use Rattle.translation_rules.specs.Translation.{Translated}
use Rattle.script_format.specs.Reading.{asks_step}
use Rattle.session_words.specs.declared.steps.Step.{Step}
use Rattle.session_words.specs.declared.steps.Step.TheVariants as step
use Rattle.session_rules.specs.ProofOfEnd.{ProofOfEnd}
use Rattle.session_rules.specs.States.{State, ShownAt, EndedAt, top_floor, shown_at, shown_here, has_ended, after}
use Rattle.session_rules.specs.Steps.{MayAnswer, IsReached}
use Rattle.session_rules.specs.Proofs.{IsCopy, IsCovered}
use Rattle.session_rules.specs.Work.{IsWork, units_in}
use Rattle.session_rules.specs.Sound.{IsSound}
use Rattle.session_rules.specs.Transcripts.{ListsShown}
use Rattle.session_rules.specs.Evidence.{NeedsEvidence, HasEvidence}
use Rattle.session_rules.specs.declared.answers.Reply.{Reply}
use Rattle.session_rules.specs.declared.answers.Reply.TheVariants as reply
use Rattle.session_state.specs.Store.Stored.{Stored}
use Rattle.session_state.specs.Sessions.Fits.{FitsProblem}
use Rattle.session_state.specs.Sessions.Proposed.{Proposed, IsProposal, IsPlainProposal}
use Rattle.session_turns.specs.Serving.{IsEndProof, IsOn, IsPrintable}

abbrev ended_by : State → ProofOfEnd → State
ended_by s proof = record s { ended = s.ended ++ record { floor = top_floor s; proof = proof } ∷ [] }

-- a step shows no more than it asks for
pub shows_few : (p : Bounded) (s : State) (x : Step) (r : Reply) → MayAnswer p s x r → length (after s r).shown ≤ length s.shown + asks_step x
shows_few p s step.Next (reply.Shown number scenario) may = let e = length-append s.shown (record { floor = top_floor s; scenario = scenario } ∷ []) in omega arith
shows_few p s step.Offers (reply.Shown number scenario) may = absurd may
shows_few p s (step.Augment relation tuple) (reply.Shown number scenario) may = absurd may
shows_few p s step.Back (reply.Shown number scenario) may = absurd may
shows_few p s (step.Budget budget) (reply.Shown number scenario) may = absurd may
shows_few p s step.Proof (reply.Shown number scenario) may = absurd may
shows_few p s x (reply.End number proof) may =
    elim (has_ended (top_floor s) s) as (λ b. length (if b then s else ended_by s proof).shown ≤ length s.shown + asks_step x) [ true ↦ omega arith | false ↦ omega arith ]
shows_few p s x (reply.Offers cells) may = omega arith
shows_few p s x (reply.Augmented floor) may = omega arith
shows_few p s x reply.Back may = omega arith
shows_few p s x (reply.BudgetSet budget) may = omega arith
shows_few p s x (reply.All scenarios) may = omega arith
shows_few p s x (reply.Partly first scenarios) may = omega arith
shows_few p s x (reply.Proof proof) may = omega arith
shows_few p s x (reply.Refused refusal) may = omega arith
shows_few p s x reply.Memory may = omega arith

not_false : (b : Bool) → b ≡ false → IsTrue b → ⊥
not_false b e is = grind arith

-- room changes nothing
pub fits_still : (p : Bounded) (kept new : Stored) → new.state ≡ kept.state → new.copies ≡ kept.copies → FitsProblem p kept → FitsProblem p new
fits_still p kept new state_is copies_are fits = record {
  reached = subst (IsReached p) (sym state_is) fits.reached;
  copies = subst (λ (s : State). All (λ (x : ShownAt). IsCopy p x.floor (shown_at x.floor s) x.scenario) new.copies) (sym state_is)
      (subst (All (λ (x : ShownAt). IsCopy p x.floor (shown_at x.floor kept.state) x.scenario)) (sym copies_are) fits.copies);
}

-- what needs no search is proposed over every translation
abbrev NothingIsWork : Type 0
NothingIsWork = (t : Translated) (pool : List LogStep) (s : State) (x : Step) → IsWork t pool s x [] []

plain_is_proposal : (t : Translated) (pool : List LogStep) (s : State) (x : Step) (p : Proposed) → NothingIsWork → IsPlainProposal s x p → IsProposal t pool s x p
plain_is_proposal t pool s x p nothing plain = record {
  may = plain.may t.problem;
  told = plain.told;
  evidence = λ needs. absurd (plain.no_evidence needs);
  rests = λ needs. absurd (plain.no_evidence needs);
  work = subst (λ (parts : List Parted). IsWork t pool s x parts p.copies) (sym plain.no_parts) (subst (λ (copies : List (List ℕ)). IsWork t pool s x [] copies) (sym plain.no_copies) (nothing t pool s x));
  units = subst (λ (parts : List Parted). units_in t pool parts p.copies ≤ s.budget) (sym plain.no_parts) (subst (λ (copies : List (List ℕ)). units_in t pool [] copies ≤ s.budget) (sym plain.no_copies) (omega arith));
  copies = subst (All (IsCopy t.problem (top_floor s) (shown_here s))) (sym plain.no_copies) (All-nil (IsCopy t.problem (top_floor s) (shown_here s)));
}

pub plain_ok : {E : Type 0} (t : Translated) (pool : List LogStep) (s : State) (x : Step) (r : Result Proposed E) → NothingIsWork → IfOk r (IsPlainProposal s x) → IfOk r (IsProposal t pool s x)
plain_ok t pool s x (Ok p) nothing plain = plain_is_proposal t pool s x p nothing plain
plain_ok t pool s x (Err e) nothing plain = tt

-- what a proof of an end may block is of the problem's cells
abbrev pub CoveredAreCells : Type 0
CoveredAreCells = (p : Bounded) (floor : List ℕ) (shown blocked : List (List ℕ)) → All (IsDue p floor) shown → IsCovered p floor shown blocked → All (AreCells p) blocked

module _ (t : Translated) (pool : List LogStep) (s : State) (sound : IsSound t.problem s) (covered : CoveredAreCells) where
  -- an end makes a proof only where the floor had not ended
  new_proof : (x : Step) (number : ℕ) (proof : ProofOfEnd) → MayAnswer t.problem s x (reply.End number proof) → HasEvidence t pool s x (reply.End number proof) → IsEndProof t (record { floor = top_floor s; proof = proof })
  new_proof step.Next number proof may e = record { proves = e.proves; blocked = covered t.problem (top_floor s) (shown_here s) proof.blocked (sound.due (top_floor s)) e.covered }
  new_proof step.Offers number proof may e = absurd may
  new_proof (step.Augment relation tuple) number proof may e = absurd may
  new_proof step.Back number proof may e = absurd may
  new_proof (step.Budget budget) number proof may e = absurd may
  new_proof step.Proof number proof may e = absurd may

  -- the kept proofs are over the translation
  pub proofs_after : (x : Step) (r : Reply) → MayAnswer t.problem s x r → (NeedsEvidence s r → HasEvidence t pool s x r) → All (IsEndProof t) s.ended → All (IsEndProof t) (after s r).ended
  proofs_after x (reply.End number proof) may evidence all =
      let at : EndedAt = record { floor = top_floor s; proof = proof } in
      let go : (b : Bool) → has_ended (top_floor s) s ≡ b → All (IsEndProof t) (if b then s else ended_by s proof).ended =
      λ b. elim b as (λ b. has_ended (top_floor s) s ≡ b → All (IsEndProof t) (if b then s else ended_by s proof).ended) [
        | true ↦ λ e. all
        | false ↦ λ e.
            let new = new_proof x number proof may (evidence (λ is. not_false (has_ended (top_floor s) s) e is)) in
            All-append (IsEndProof t) s.ended (at ∷ []) all (All-cons (IsEndProof t) at [] new (All-nil (IsEndProof t)))
      ] in
      go (has_ended (top_floor s) s) refl
  proofs_after x (reply.Shown number scenario) may evidence all = all
  proofs_after x (reply.Offers cells) may evidence all = all
  proofs_after x (reply.Augmented floor) may evidence all = all
  proofs_after x reply.Back may evidence all = all
  proofs_after x (reply.BudgetSet budget) may evidence all = all
  proofs_after x (reply.All scenarios) may evidence all = all
  proofs_after x (reply.Partly first scenarios) may evidence all = all
  proofs_after x (reply.Proof proof) may evidence all = all
  proofs_after x (reply.Refused refusal) may evidence all = all
  proofs_after x reply.Memory may evidence all = all

  -- a session stays one on the translation's problem
  pub on_after : (x : Step) (r : Reply) (kept new : Stored) (shown : ℕ) → kept.state ≡ s → new.state ≡ after s r → FitsProblem t.problem new
      → MayAnswer t.problem s x r → (NeedsEvidence s r → HasEvidence t pool s x r) → IsOn t shown kept → IsOn t (shown + asks_step x) new
  on_after x r kept new shown old_is new_is fits may evidence on = record {
    fits = fits;
    few_shown =
        let few : length s.shown ≤ shown = subst (λ (s : State). length s.shown ≤ shown) old_is on.few_shown in
        let more = shows_few t.problem s x r may in
        subst (λ (s : State). length s.shown ≤ shown + asks_step x) (sym new_is) (omega arith);
    proofs = subst (λ (s : State). All (IsEndProof t) s.ended) (sym new_is) (proofs_after x r may evidence (subst (λ (s : State). All (IsEndProof t) s.ended) old_is on.proofs));
  }

-- nothing changed
pub on_still : (t : Translated) (x : Step) (kept new : Stored) (shown : ℕ) → new.state ≡ kept.state → FitsProblem t.problem new → IsOn t shown kept → IsOn t (shown + asks_step x) new
on_still t x kept new shown same fits on = record {
  fits = fits;
  few_shown = let few = on.few_shown in subst (λ (s : State). length s.shown ≤ shown + asks_step x) (sym same) (omega arith);
  proofs = subst (λ (s : State). All (IsEndProof t) s.ended) (sym same) on.proofs;
}

-- a reply that the machine may give can be printed
module _ (t : Translated) (s : State) (sound : IsSound t.problem s) (proofs : All (IsEndProof t) s.ended) where
  pub printable : (x : Step) (r : Reply) → MayAnswer t.problem s x r → IsPrintable t (top_floor s) r
  printable step.Next (reply.Shown number scenario) may = record { cells = may.due.minimal.instance_of.scenario.cells; proof = tt }
  printable step.Offers (reply.Shown number scenario) may = absurd may
  printable (step.Augment relation tuple) (reply.Shown number scenario) may = absurd may
  printable step.Back (reply.Shown number scenario) may = absurd may
  printable (step.Budget budget) (reply.Shown number scenario) may = absurd may
  printable step.Proof (reply.Shown number scenario) may = absurd may
  printable step.Offers (reply.Offers cells) may = record { cells = all_of (λ n. n < length (cells_of t.problem)) cells (λ n c. ((may.offers.exactly n).0 c).in_range); proof = tt }
  printable step.Next (reply.Offers cells) may = absurd may
  printable (step.Augment relation tuple) (reply.Offers cells) may = absurd may
  printable step.Back (reply.Offers cells) may = absurd may
  printable (step.Budget budget) (reply.Offers cells) may = absurd may
  printable step.Proof (reply.Offers cells) may = absurd may
  printable step.Proof (reply.Proof proof) may =
      let of_end = All-contains (IsEndProof t) s.ended (record { floor = top_floor s; proof = proof }) proofs may in
      record { cells = of_end.blocked; proof = of_end.proves }
  printable step.Next (reply.Proof proof) may = absurd may
  printable step.Offers (reply.Proof proof) may = absurd may
  printable (step.Augment relation tuple) (reply.Proof proof) may = absurd may
  printable step.Back (reply.Proof proof) may = absurd may
  printable (step.Budget budget) (reply.Proof proof) may = absurd may
  printable step.Next (reply.All scenarios) may = absurd may
  printable step.Offers (reply.All scenarios) may = absurd may
  printable (step.Augment relation tuple) (reply.All scenarios) may = absurd may
  printable step.Back (reply.All scenarios) may = absurd may
  printable (step.Budget budget) (reply.All scenarios) may = absurd may
  printable step.Proof (reply.All scenarios) may = absurd may
  printable step.Next (reply.Partly first scenarios) may = absurd may
  printable step.Offers (reply.Partly first scenarios) may = absurd may
  printable (step.Augment relation tuple) (reply.Partly first scenarios) may = absurd may
  printable step.Back (reply.Partly first scenarios) may = absurd may
  printable (step.Budget budget) (reply.Partly first scenarios) may = absurd may
  printable step.Proof (reply.Partly first scenarios) may = absurd may
  printable x (reply.End number proof) may = record { cells = tt; proof = tt }
  printable x (reply.Augmented floor) may = record { cells = tt; proof = tt }
  printable x reply.Back may = record { cells = tt; proof = tt }
  printable x (reply.BudgetSet budget) may = record { cells = tt; proof = tt }
  printable x (reply.Refused refusal) may = record { cells = tt; proof = tt }
  printable x reply.Memory may = record { cells = tt; proof = tt }

-- a list of what was shown can be printed
pub list_printable : (t : Translated) (s : State) (floor : List ℕ) (scenarios : List (List ℕ)) → IsSound t.problem s → ListsShown s scenarios → IsPrintable t floor (reply.All scenarios)
list_printable t s floor scenarios sound lists = record {
  cells = All-weaker (Contains scenarios) (AreCells t.problem) (λ x c. (All-contains (IsDue t.problem (top_floor s)) (shown_here s) x (sound.due (top_floor s)) ((lists.same x).0 c)).minimal.instance_of.scenario.cells) scenarios (All-contains_itself scenarios);
  proof = tt;
}

pub on_wider : (t : Translated) (m n : ℕ) (kept : Stored) → m ≤ n → IsOn t m kept → IsOn t n kept
on_wider t m n kept l on = record { fits = on.fits; few_shown = let few = on.few_shown in omega arith; proofs = on.proofs }

-- so can scenarios that are the last ones shown
pub partly_printable : (t : Translated) (s : State) (floor : List ℕ) (before scenarios : List (List ℕ)) (first : ℕ) → IsSound t.problem s → shown_here s ≡ before ++ scenarios → IsPrintable t floor (reply.Partly first scenarios)
partly_printable t s floor before scenarios first sound here = record {
  cells = All-weaker (Contains scenarios) (AreCells t.problem) (λ x c.
      let there : Contains (shown_here s) x = subst (λ (xs : List (List ℕ)). Contains xs x) (sym here) (Contains-append_right before scenarios x c) in
      (All-contains (IsDue t.problem (top_floor s)) (shown_here s) x (sound.due (top_floor s)) there).minimal.instance_of.scenario.cells) scenarios (All-contains_itself scenarios);
  proof = tt;
}
