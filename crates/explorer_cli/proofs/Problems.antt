-- A session is on one problem.
use Rattle.std.proofs.Common.{◌≡◌, ℕ, List, Option, Some, ap, sym, subst, ◌∙◌}
use Rattle.std.specs.Prelude.{slice_get}
use Rattle.rel_formula.specs.Bounds.{Bounded}
use Rattle.named_model.specs.Model.{NamedTree}
use Rattle.script_format.specs.declared.entries.SessionEntry.{SessionEntry}
use Rattle.script_text.specs.Replies.{PrintedSession}
use Rattle.served_models.specs.Served.{IsProblemOf}
use Rattle.explorer_cli.specs.Runs.{IsProblemAt, Translations, IsRunAmong}

-- what the law of models says, as it is used here
abbrev pub OneProblem : Type 0
OneProblem = (m : NamedTree) (number : ℕ) (p q : Bounded) → IsProblemOf m number p → IsProblemOf m number q → p ≡ q

same_model : (m n : NamedTree) → Some m ≡ Some n → m ≡ n
same_model m n e = cc

module _ (one_problem : OneProblem) (models : List NamedTree) (x : SessionEntry) where
  pub one_problem_at : (p q : Bounded) → IsProblemAt models x p → IsProblemAt models x q → p ≡ q
  one_problem_at p q a b =
      let same : b.0 ≡ a.0 = same_model b.0 a.0 (sym b.1 ∙ a.1) in
      one_problem a.0 x.number p q a.2 (subst (λ (m : NamedTree). IsProblemOf m x.number q) same b.2)

  pub one_run_at : (budget : ℕ) (over : Translations) (s : PrintedSession) (p : Bounded) → IsRunAmong budget models over x s → IsProblemAt models x p → s.problem ≡ p
  one_run_at budget over s p run is = ap (λ (t : PrintedSession). t.problem) run.3.is ∙ one_problem_at run.0.problem p run.2 is
