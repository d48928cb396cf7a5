-- What the lines on a command tell.
use Rattle.std.proofs.Common.{◌≡◌, inl, inr, ℕ, ◌+◌, ◌<◌, ◌≤◌, zero, suc, List, [], ◌∷◌, ◌++◌, Some, None, Option, length, All, Contains, refl, sym, ap, subst, ◌∙◌, append_assoc, arith}
use Rattle.std.specs.Prelude.{Bool, true, false, codes, decimal, slice_get}
use Rattle.std.proofs.lemmas.List.{append_cancel_left}
use Rattle.std.proofs.lemmas.List.Elements.{filter_passes, All-contains}
use Rattle.std.specs.List.{range_with_len}
use Rattle.alloy_syntax.specs.declared.tree.CommandKind.{CommandKind}
use Rattle.alloy_syntax.specs.declared.tree.CommandKind.TheVariants.{Run, Check}
use Rattle.rel_formula.specs.Bounds.{Bounded, IsProblem}
use Rattle.rel_formula.specs.Instance.{IsInstance}
use Rattle.refutation_check.specs.Part.{Parted}
use Rattle.swap_symmetry.specs.Due.{IsDue}
use Rattle.translation_rules.specs.Translation.{Translated}
use Rattle.named_model.specs.Model.{CommandTree, NamedTree}
use Rattle.named_model.specs.Numbered.{checks, is_check}
use Rattle.lowering_rules.specs.Formula as formula
use Rattle.lowering_rules.specs.Formula.{all_facts}
use Rattle.lowering_rules.specs.Problem.{ProblemOf, command_at}
use Rattle.lowering_rules.proofs.Outlined.{same_some}
use Rattle.decision_reports.specs.declared.decision.Decision.{Decision}
use Rattle.decision_reports.specs.declared.decision.Decision.TheVariants.{Holds, Fails, Spent}
use Rattle.decision_reports.specs.Assertions.{IsCounterexample}
use Rattle.decision_reports.specs.Decided.{IsDecision, IsSpent, HasNoInstance}
use Rattle.script_text.specs.Replies.{IsScenarioText}
use Rattle.served_models.specs.Served.{IsProblemOf}
use Rattle.decision_reports.specs.Taken.{is_of_kind, numbers_of}
use Rattle.decision_reports.specs.Reports.{command_front, IsDecisionText, IsDecisionOn, HasNoCounterexample, FailsIn, WasSpent}

-- ---- which of the three texts it is

-- behind one front, texts with different first letters differ
first_letters : (front xs ys : List ℕ) (a b : ℕ) → front ++ (a ∷ xs) ≡ front ++ (b ∷ ys) → a ≡ b
first_letters front xs ys a b e =
    let rest : a ∷ xs ≡ b ∷ ys = append_cancel_left front (a ∷ xs) (b ∷ ys) e in
    cc

fails_text : (front lines : List ℕ) → front ++ codes "fails\n" ++ lines ≡ front ++ (codes "fails\n" ++ lines)
fails_text front lines = append_assoc front (codes "fails\n") lines

spent_text : (front : List ℕ) (budget : ℕ) → front ++ codes "spent " ++ decimal budget ++ codes "\n" ≡ front ++ (codes "spent " ++ (decimal budget ++ codes "\n"))
spent_text front budget =
    append_assoc (front ++ codes "spent ") (decimal budget) (codes "\n") ∙ append_assoc front (codes "spent ") (decimal budget ++ codes "\n")

holds_or_fails : (front lines : List ℕ) → front ++ codes "holds\n" ≡ front ++ codes "fails\n" ++ lines → ⊥
holds_or_fails front lines e =
    let letters : 104 ≡ 102 = first_letters front (codes "olds\n") (codes "ails\n" ++ lines) 104 102 (e ∙ fails_text front lines) in
    absurd (omega (arith, letters))

holds_or_spent : (front : List ℕ) (budget : ℕ) → front ++ codes "holds\n" ≡ front ++ codes "spent " ++ decimal budget ++ codes "\n" → ⊥
holds_or_spent front budget e =
    let letters : 104 ≡ 115 = first_letters front (codes "olds\n") (codes "pent " ++ (decimal budget ++ codes "\n")) 104 115 (e ∙ spent_text front budget) in
    absurd (omega (arith, letters))

fails_or_spent : (front lines : List ℕ) (budget : ℕ) → front ++ codes "fails\n" ++ lines ≡ front ++ codes "spent " ++ decimal budget ++ codes "\n" → ⊥
fails_or_spent front lines budget e =
    let letters : 102 ≡ 115 = first_letters front (codes "ails\n" ++ lines) (codes "pent " ++ (decimal budget ++ codes "\n")) 102 115 (sym (fails_text front lines) ∙ e ∙ spent_text front budget) in
    absurd (omega (arith, letters))

-- ---- what each of them tells

module _ (t : Translated) (budget : ℕ) (front text : List ℕ) where
  told_to_hold : (d : Decision) → IsDecision t budget d → IsDecisionText t.problem budget front d text → text ≡ front ++ codes "holds\n" → HasNoInstance t.problem
  told_to_hold (Holds proof) decided told same = decided.none
  told_to_hold (Fails scenario) decided told same = absurd (holds_or_fails front told.0 (sym same ∙ told.2))
  told_to_hold (Spent parts) decided told same = absurd (holds_or_spent front budget (sym same ∙ told))

  told_to_fail : (lines : List ℕ) (d : Decision) → IsDecision t budget d → IsDecisionText t.problem budget front d text → text ≡ front ++ codes "fails\n" ++ lines
      → (s : List ℕ) × IsDue t.problem [] s × IsScenarioText t.problem s lines
  told_to_fail lines (Holds proof) decided told same = absurd (holds_or_fails front lines (sym told ∙ same))
  told_to_fail lines (Fails scenario) decided told same =
      let lines_are : told.0 ≡ lines = append_cancel_left (front ++ codes "fails\n") told.0 lines (sym told.2 ∙ same) in
      (scenario, decided, subst (IsScenarioText t.problem scenario) lines_are told.1)
  told_to_fail lines (Spent parts) decided told same = absurd (fails_or_spent front lines budget (sym same ∙ told))

  told_to_be_spent : (d : Decision) → IsDecision t budget d → IsDecisionText t.problem budget front d text → text ≡ front ++ codes "spent " ++ decimal budget ++ codes "\n"
      → (parts : List Parted) × IsSpent t budget parts
  told_to_be_spent (Holds proof) decided told same = absurd (holds_or_spent front budget (sym told ∙ same))
  told_to_be_spent (Fails scenario) decided told same = absurd (fails_or_spent front told.0 budget (sym told.2 ∙ same))
  told_to_be_spent (Spent parts) decided told same = (parts, decided)

-- ---- of `check` commands

checks_of_kind : (kind : CommandKind) → checks kind ≡ formula.is_check kind
checks_of_kind Run = refl
checks_of_kind Check = refl

-- a number at which a `check` command stands
command_of : (m : NamedTree) (n : ℕ) → is_check m.commands n ≡ true → (c : CommandTree) × (command_at m n ≡ Some c) × (formula.is_check c.kind ≡ true)
command_of m zero e = absurd (let wrong : false ≡ true = e in cc)
command_of m (suc n) e =
    let Is : Option CommandTree → Type 0 = λ o. elim o [ None ↦ false | Some command ↦ checks command.kind ] ≡ true → slice_get m.commands n ≡ o → (c : CommandTree) × (slice_get m.commands n ≡ Some c) × (formula.is_check c.kind ≡ true) in
    let go : (o : Option CommandTree) → Is o = λ o. elim o as Is [ None ↦ λ wrong _. absurd (cc) | Some command ↦ λ checked there. (command, there, sym (checks_of_kind command.kind) ∙ checked) ] in
    go (slice_get m.commands n) e refl

module _ (one : (m : NamedTree) (n : ℕ) (facts : List ℕ) (p q : Bounded) → IsProblem p → IsProblem q → ProblemOf m n facts p → ProblemOf m n facts q → p ≡ q)
    (counters : (m : NamedTree) (n : ℕ) (facts : List ℕ) (p : Bounded) (c : CommandTree) → ProblemOf m n facts p → command_at m n ≡ Some c → formula.is_check c.kind ≡ true → (s : List ℕ) → (IsInstance p s → IsCounterexample m c facts p s) × (IsCounterexample m c facts p s → IsInstance p s))
    (budget : ℕ) (name : List ℕ) (m : NamedTree) (number : ℕ) (text : List ℕ) (is_there : Contains (numbers_of Check m) number) (on : IsDecisionOn budget name m number text) where
  command : (c : CommandTree) × (command_at m number ≡ Some c) × (formula.is_check c.kind ≡ true)
  command = command_of m number (All-contains (λ (n : ℕ). is_check m.commands n ≡ true) (numbers_of Check m) number (filter_passes (is_of_kind Check m) (range_with_len 1 (length m.commands))) is_there)

  pub holds : text ≡ command_front name number ++ codes "holds\n" → HasNoCounterexample m number
  holds same p is c there s counter =
      let same_command : command.0 ≡ c = same_some command.0 c (sym command.1 ∙ there) in
      let is_checked : formula.is_check c.kind ≡ true = subst (λ (d : CommandTree). formula.is_check d.kind ≡ true) same_command command.2 in
      let instance_of : IsInstance p s = (counters m number (all_facts m) p c is.lowered.is there is_checked s).1 counter in
      let problem : p ≡ on.translation.problem = one m number (all_facts m) p on.translation.problem is.problem on.problem.problem is.lowered.is on.problem.lowered.is in
      told_to_hold on.translation budget (command_front name number) text on.decision on.decided on.told same s (subst (λ (q : Bounded). IsInstance q s) problem instance_of)

  pub spent : text ≡ command_front name number ++ codes "spent " ++ decimal budget ++ codes "\n" → WasSpent budget m number
  spent same = (on.translation, on.made, on.problem, told_to_be_spent on.translation budget (command_front name number) text on.decision on.decided on.told same)

  pub fails : (lines : List ℕ) → text ≡ command_front name number ++ codes "fails\n" ++ lines → FailsIn m number lines
  fails lines same =
      let told = told_to_fail on.translation budget (command_front name number) text lines on.decision on.decided on.told same in
      let counter = (counters m number (all_facts m) on.translation.problem command.0 on.problem.lowered.is command.1 command.2 told.0).0 told.1.minimal.instance_of in
      (on.translation.problem, on.problem, (command.0, command.1, (told.0, counter, told.1, told.2)))
