-- The first fault of several lists, one behind the other.
use Rattle.std.proofs.Common.{◌≡◌, List, [], ◌∷◌, ◌++◌, Option, Some, None, inr, refl, sym, ap, ◌∙◌, subst, append_assoc}
use Rattle.named_model.specs.declared.fault.NameFault.{NameFault}
use Rattle.named_model.specs.Answers.{first_in}
use Rattle.name_tables.specs.Told.{IsTold}
use Rattle.name_tables.proofs.Telling.{told_first}

-- ---- a fault that is looked for

pub none_found : (fault : Option NameFault) (fs : List NameFault) → fault ≡ first_in fs → fault ≡ None → fs ≡ []
none_found fault [] is none = refl
none_found fault (f ∷ fs) is none = absurd cc

pub one_found : (fault : Option NameFault) (fs : List NameFault) (e : NameFault) → fault ≡ first_in fs → fault ≡ Some e → IsTold e fs
one_found fault fs e is one = inr (sym is ∙ one)

-- ---- two lists

-- of a list behind one that is empty
pub told_behind : (e : NameFault) (before fs : List NameFault) → before ≡ [] → IsTold e fs → IsTold e (before ++ fs)
told_behind e before fs none told = subst (IsTold e) (sym (ap (λ xs. xs ++ fs) none)) told

pub none_behind : (before fs : List NameFault) → before ≡ [] → fs ≡ [] → before ++ fs ≡ []
none_behind before fs none nothing = ap (λ xs. xs ++ fs) none ∙ nothing

-- ---- three lists

module _ (a b c : List NameFault) where
  pub first_told : (e : NameFault) → IsTold e a → IsTold e (a ++ b ++ c)
  first_told e told = told_first e (a ++ b) c (told_first e a b told)

  pub second_told : (e : NameFault) → a ≡ [] → IsTold e b → IsTold e (a ++ b ++ c)
  second_told e none told = told_first e (a ++ b) c (told_behind e a b none told)

  pub third_told : (e : NameFault) → a ≡ [] → b ≡ [] → IsTold e c → IsTold e (a ++ b ++ c)
  third_told e none nothing told = told_behind e (a ++ b) c (none_behind a b none nothing) told

  pub none_of_three : a ≡ [] → b ≡ [] → c ≡ [] → a ++ b ++ c ≡ []
  none_of_three none nothing rest = none_behind (a ++ b) c (none_behind a b none nothing) rest

-- ---- two threes

pub six_lists : (a b c d e f : List NameFault) → (a ++ b ++ c) ++ (d ++ e ++ f) ≡ a ++ b ++ c ++ d ++ e ++ f
six_lists a b c d e f = sym (append_assoc (a ++ b ++ c) (d ++ e) f) ∙ ap (λ xs. xs ++ f) (sym (append_assoc (a ++ b ++ c) d e))
