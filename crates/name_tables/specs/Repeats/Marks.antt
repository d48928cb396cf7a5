-- Marks that tell which names were declared where.
use Rattle.std.specs.Prelude.{◌≡◌, ◌==◌, ℕ, List, [], ◌∷◌, Bool, false, ◌&&◌, ◌||◌}
use Rattle.std.specs.List.{list_any}
use Rattle.name_tables.specs.declared.repeated_names.marks.Mark.{Mark}
use Rattle.name_tables.specs.declared.repeated_names.marks.Mark.TheVariants as mark
use Rattle.name_tables.specs.declared.repeated_names.stated.Space.{Space}
use Rattle.name_tables.specs.declared.repeated_names.stated.Space.TheVariants.{Global, Under, Loose, Assertions, Parameters}

abbrev pub same_mark : Mark → Mark → Bool
same_mark (mark.Global v) (mark.Global w) = v == w
same_mark (mark.Field v) (mark.Field w) = v == w
same_mark (mark.Loose v) (mark.Loose w) = v == w
same_mark (mark.Under s v) (mark.Under t w) = (s == t) && (v == w)
same_mark (mark.Assertion v) (mark.Assertion w) = v == w
same_mark (mark.Parameter k v) (mark.Parameter l w) = (k == l) && (v == w)
same_mark a b = false

abbrev pub has : List Mark → Mark → Bool
has ms m = list_any (λ x. same_mark x m) ms

-- these are the same marks, in any order and number
abbrev pub AreMarks : List Mark → List Mark → Type 0
AreMarks ms keys = (m : Mark) → has keys m ≡ has ms m

-- the marks of a name that is declared there
abbrev pub marks_of : Space → ℕ → List Mark
marks_of Global w = mark.Global w ∷ []
marks_of (Under t) w = mark.Field w ∷ mark.Under t w ∷ []
marks_of Loose w = mark.Field w ∷ mark.Loose w ∷ []
marks_of Assertions w = mark.Assertion w ∷ []
marks_of (Parameters k) w = mark.Parameter k w ∷ []

-- whether a name may not be declared there too
abbrev pub is_marked : List Mark → Space → ℕ → Bool
is_marked ms Global w = has ms (mark.Global w) || has ms (mark.Field w)
is_marked ms (Under t) w = has ms (mark.Global w) || has ms (mark.Loose w) || has ms (mark.Under t w)
is_marked ms Loose w = has ms (mark.Global w) || has ms (mark.Field w)
is_marked ms Assertions w = has ms (mark.Assertion w)
is_marked ms (Parameters k) w = has ms (mark.Parameter k w)
