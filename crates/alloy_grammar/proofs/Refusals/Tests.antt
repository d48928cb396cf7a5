-- What tests of reading look at: the terminal of the next token. Those that are quiet fail at a `!` and at a comma.
use Rattle.std.proofs.Common.{◌≡◌, inl, inr, false, refl}
use Rattle.alloy_syntax.specs.declared.class.Class.{Class}
use Rattle.alloy_syntax.specs.declared.class.Class.TheVariants as class
use Rattle.alloy_syntax.specs.declared.reading.Level.{Level}
use Rattle.alloy_syntax.specs.declared.reading.Level.TheVariants as level
use Rattle.alloy_syntax.specs.Class.{is_class}
use Rattle.alloy_syntax.specs.Readers.{next_is, is_mark}
use Rattle.alloy_syntax.specs.Bounds.{begins_bound_arrow}
use Rattle.alloy_syntax.specs.Nodes.{is_inner, is_constant, is_tightening, begins_step, begins_link, begins_arrow, is_counting, is_plain_comparison}
use Rattle.alloy_syntax.specs.Paragraphs.{is_qualifier, is_left}
use Rattle.alloy_grammar.proofs.Refusals.SeamedLists.{Sees, Quiet}

pub sees_mark : Sees is_mark
unfolding is_mark next_is
sees_mark a b ts us e = rw e refl

pub sees_counting : Sees is_counting
unfolding is_counting next_is
sees_counting a b ts us e = rw e refl

pub sees_tightening : Sees is_tightening
unfolding is_tightening next_is
sees_tightening a b ts us e = rw e refl

pub sees_constant : Sees is_constant
unfolding is_constant next_is
sees_constant a b ts us e = rw e refl

pub sees_inner : Sees is_inner
unfolding is_inner next_is
sees_inner a b ts us e = rw e refl

pub sees_step : Sees begins_step
unfolding begins_step next_is
sees_step a b ts us e = rw e refl

pub sees_link : (l : Level) → Sees (begins_link l)
unfolding begins_link next_is
sees_link level.Or a b ts us e = rw e refl
sees_link level.Iff a b ts us e = rw e refl
sees_link level.And a b ts us e = rw e refl
sees_link level.Sum a b ts us e = rw e refl
sees_link level.Override a b ts us e = rw e refl
sees_link level.Meet a b ts us e = rw e refl
sees_link level.Restrict a b ts us e = rw e refl

pub sees_plain : Sees is_plain_comparison
unfolding is_plain_comparison next_is
sees_plain a b ts us e = rw e refl

pub sees_qualifier : Sees is_qualifier
unfolding is_qualifier is_mark next_is
sees_qualifier a b ts us e = rw e refl

pub sees_bound_arrow : Sees begins_bound_arrow
unfolding begins_bound_arrow is_mark next_is
sees_bound_arrow a b ts us e = rw e refl

pub sees_left : Sees is_left
unfolding is_left
sees_left a b ts us e = refl

-- ---- tests that what waits doesn't meet

pub quiet_class : (c : Class) → is_class class.Not c ≡ false → is_class class.Comma c ≡ false → Quiet (next_is c)
unfolding next_is
quiet_class c e f t ts w = elim w [ inl n ↦ rw n e | inr n ↦ rw n f ]

pub quiet_step : Quiet begins_step
unfolding begins_step next_is is_class
quiet_step t ts w = elim w [ inl n ↦ rw n refl | inr n ↦ rw n refl ]

pub quiet_link : (l : Level) → Quiet (begins_link l)
unfolding begins_link next_is is_class
quiet_link level.Or t ts w = elim w [ inl n ↦ rw n refl | inr n ↦ rw n refl ]
quiet_link level.Iff t ts w = elim w [ inl n ↦ rw n refl | inr n ↦ rw n refl ]
quiet_link level.And t ts w = elim w [ inl n ↦ rw n refl | inr n ↦ rw n refl ]
quiet_link level.Sum t ts w = elim w [ inl n ↦ rw n refl | inr n ↦ rw n refl ]
quiet_link level.Override t ts w = elim w [ inl n ↦ rw n refl | inr n ↦ rw n refl ]
quiet_link level.Meet t ts w = elim w [ inl n ↦ rw n refl | inr n ↦ rw n refl ]
quiet_link level.Restrict t ts w = elim w [ inl n ↦ rw n refl | inr n ↦ rw n refl ]

pub quiet_arrow : Quiet begins_arrow
unfolding begins_arrow is_mark next_is is_class
quiet_arrow t ts w = elim w [ inl n ↦ rw n refl | inr n ↦ rw n refl ]
