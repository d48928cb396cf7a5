use Rattle.std.proofs.Common.{sym, ◌++◌, ◌∷◌, [], subst}
use Rattle.name_tables.specs.Repeats.Marks.{AreMarks}
use Rattle.name_tables.proofs.Repeats.DeclaredMarks.{marks_put}
use Rattle.name_tables.proofs.repeated_names.marks.put.Goals as goal

pub returns : goal.returns
returns c = λ ms are. subst (λ keys. AreMarks (ms ++ c.args.mark ∷ []) keys) (sym c.in_ok-insert.ensures.keys) (marks_put ms c.args.marks.now.keys c.args.mark are)
