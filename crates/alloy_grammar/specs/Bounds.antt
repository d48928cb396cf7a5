-- How a field's bound is spelled, how deep its brackets nest, and where it may have multiplicity words.
use Rattle.std.specs.Prelude.{◌≤◌, ℕ, suc, max, Bool, true, false, not, ◌||◌, ◌&&◌, Option, Some, None}
use Rattle.alloy_syntax.specs.declared.class.Class.TheVariants as class
use Rattle.alloy_syntax.specs.declared.tree.MultiplicityWord.{MultiplicityWord}
use Rattle.alloy_syntax.specs.Tree.{BoundTree, bound_named, bound_bracketed, bound_union, bound_arrows, BoundUnions, no_unions, more_unions, BoundArrows, no_arrows, more_arrows}
use Rattle.alloy_grammar.specs.Fronts.{Front, ◌before◌, nothing, only, sign, mark_of, name, mark}

-- the levels of precedence: a `+`, an arrow, and a name or brackets
abbrev pub level_of_bound : BoundTree → ℕ
level_of_bound (bound_named n) = 2
level_of_bound (bound_bracketed p b) = 2
level_of_bound (bound_union b us) = 0
level_of_bound (bound_arrows b rest) = 1

-- a part that binds at least so tightly
abbrev pub bound_at : ℕ → BoundTree → Front → Front
bound_at l b P ts rest = (l ≤ level_of_bound b) × P ts rest

abbrev pub has_unions : BoundUnions → Bool
has_unions no_unions = false
has_unions (more_unions p b us) = true

abbrev pub has_arrows : BoundArrows → Bool
has_arrows no_arrows = false
has_arrows (more_arrows l p r b rest) = true

unfoldable mutual
  pub spells_bound : BoundTree → Front
  spells_bound (bound_named n) = name n
  spells_bound (bound_bracketed p b) = sign class.LeftParen p before spells_bound b before mark_of class.RightParen
  spells_bound (bound_union b us) = only (has_unions us) (bound_at 1 b (spells_bound b) before spells_unions us)
  spells_bound (bound_arrows b rest) = only (has_arrows rest) (bound_at 2 b (spells_bound b) before spells_arrows rest)

  -- { "+" barrow }
  pub spells_unions : BoundUnions → Front
  spells_unions no_unions = nothing
  spells_unions (more_unions p b us) = sign class.Plus p before bound_at 1 b (spells_bound b) before spells_unions us

  -- { [ mult ] "->" [ mult ] side }
  pub spells_arrows : BoundArrows → Front
  spells_arrows no_arrows = nothing
  spells_arrows (more_arrows l p r b rest) = mark l before sign class.Arrow p before mark r before bound_at 2 b (spells_bound b) before spells_arrows rest

-- ---- how deep brackets nest

unfoldable mutual
  pub depth_of_bound : BoundTree → ℕ
  depth_of_bound (bound_named n) = 0
  depth_of_bound (bound_bracketed p b) = suc (depth_of_bound b)
  depth_of_bound (bound_union b us) = max (depth_of_bound b) (depth_of_unions us)
  depth_of_bound (bound_arrows b rest) = max (depth_of_bound b) (depth_of_arrows rest)

  pub depth_of_unions : BoundUnions → ℕ
  depth_of_unions no_unions = 0
  depth_of_unions (more_unions p b us) = max (depth_of_bound b) (depth_of_unions us)

  pub depth_of_arrows : BoundArrows → ℕ
  depth_of_arrows no_arrows = 0
  depth_of_arrows (more_arrows l p r b rest) = max (depth_of_bound b) (depth_of_arrows rest)

-- ---- multiplicity words beside arrows

abbrev pub is_word : Option MultiplicityWord → Bool
is_word None = false
is_word (Some m) = true

unfoldable mutual
  -- an arrow stands in the bound
  pub has_arrow : BoundTree → Bool
  has_arrow (bound_named n) = false
  has_arrow (bound_bracketed p b) = has_arrow b
  has_arrow (bound_union b us) = has_arrow b || unions_have_arrow us
  has_arrow (bound_arrows b rest) = true

  pub unions_have_arrow : BoundUnions → Bool
  unions_have_arrow no_unions = false
  unions_have_arrow (more_unions p b us) = has_arrow b || unions_have_arrow us

unfoldable mutual
  -- a word stands beside an arrow of the bound
  pub has_word : BoundTree → Bool
  has_word (bound_named n) = false
  has_word (bound_bracketed p b) = has_word b
  has_word (bound_union b us) = has_word b || unions_have_word us
  has_word (bound_arrows b rest) = has_word b || arrows_have_word rest

  pub unions_have_word : BoundUnions → Bool
  unions_have_word no_unions = false
  unions_have_word (more_unions p b us) = has_word b || unions_have_word us

  pub arrows_have_word : BoundArrows → Bool
  arrows_have_word no_arrows = false
  arrows_have_word (more_arrows l p r b rest) = is_word l || (is_word r || (has_word b || arrows_have_word rest))

-- the bound is one arrow, whose sides have none
unfoldable pub is_one_arrow : BoundTree → Bool
is_one_arrow (bound_named n) = false
is_one_arrow (bound_bracketed p b) = is_one_arrow b
is_one_arrow (bound_union b us) = false
is_one_arrow (bound_arrows b no_arrows) = false
is_one_arrow (bound_arrows b (more_arrows l p r c no_arrows)) = not (has_arrow b) && not (has_arrow c)
is_one_arrow (bound_arrows b (more_arrows l p r c (more_arrows m q s d rest))) = false

-- the language takes the bound's words: they stand beside the one arrow that it is
abbrev pub is_plain_bound : BoundTree → Bool
is_plain_bound b = not (has_word b) || is_one_arrow b
