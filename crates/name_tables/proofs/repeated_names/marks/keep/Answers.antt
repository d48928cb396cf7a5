use Rattle.std.proofs.Common.{◌++◌, ◌∷◌, [], sym, subst}
use Rattle.name_tables.specs.declared.repeated_names.marks.Mark.TheVariants as mark
use Rattle.name_tables.specs.declared.repeated_names.stated.Space.{Space}
use Rattle.name_tables.specs.Repeats.Marks.{AreMarks, marks_of}
use Rattle.name_tables.proofs.Repeats.DeclaredMarks.{marks_two}
use Rattle.name_tables.proofs.repeated_names.marks.keep.Goals as goal

pub returns-in_ok-put-in-Under-2 : goal.returns-in_ok-put-in-Under-2
returns-in_ok-put-in-Under-2 c = λ ms are.
    subst (λ (s : Space). AreMarks (ms ++ marks_of s c.args.word) c.put-in-Under-2.new.marks.keys) (sym c.in-Under.is)
    (marks_two ms (mark.Field c.args.word) (mark.Under c.in-Under.top c.args.word) c.put-in-Under-2.new.marks.keys (c.in_ok-put-in-Under-2.ensures (ms ++ mark.Field c.args.word ∷ []) (c.in_ok-put-in-Under.ensures ms are)))

pub returns-in_ok-put-in-Loose-2 : goal.returns-in_ok-put-in-Loose-2
returns-in_ok-put-in-Loose-2 c = λ ms are.
    subst (λ (s : Space). AreMarks (ms ++ marks_of s c.args.word) c.put-in-Loose-2.new.marks.keys) (sym c.in-Loose.is)
    (marks_two ms (mark.Field c.args.word) (mark.Loose c.args.word) c.put-in-Loose-2.new.marks.keys (c.in_ok-put-in-Loose-2.ensures (ms ++ mark.Field c.args.word ∷ []) (c.in_ok-put-in-Loose.ensures ms are)))
