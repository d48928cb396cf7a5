-- How many units the work for a step has at most.
use Rattle.std.specs.Prelude.{◌+◌, ◌*◌, ◌^◌, ℕ, List, All}
use Rattle.refutation_check.specs.Log.{IsLog}
use Rattle.refutation_check.specs.Part.{Parted}
use Rattle.session_words.specs.declared.steps.Step.{Step}
use Rattle.session_words.specs.declared.steps.Step.TheVariants.{Next, Offers, Augment}

-- what each part derives is a log
abbrev pub AreLogs : List Parted → Type 0
AreLogs parts = All (λ part. IsLog part.log) parts

-- over c cells and v variables: a part derives no clause twice, and there are 3 ^ v of them; a round has a search, and a descent
-- of at most c + 1
abbrev pub most_in_round : ℕ → ℕ → ℕ
most_in_round c v = (c + 2) * 3 ^ v

-- the next scenario takes at most as many rounds as there are scenarios, 2 ^ c, each with a copy; offers a part for each cell; an
-- augmentation one part
abbrev pub most_units : Step → ℕ → ℕ → ℕ
most_units Next c v = 2 ^ c * (most_in_round c v + 1)
most_units Offers c v = c * 3 ^ v
most_units (Augment name names) c v = 3 ^ v
most_units step c v = 0
