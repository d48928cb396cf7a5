-- The first fault of several parts.
use Rattle.std.proofs.Common.{◌≡◌, List, [], ◌∷◌, ◌++◌, inl, inr, Some, sym, subst}
use Rattle.std.proofs.lemmas.Result.{err_from_is_err_and}
use Rattle.std.specs.Prelude.{Result, IsErrAnd}
use Rattle.named_model.specs.declared.fault.NameFault.{NameFault}
use Rattle.named_model.specs.Answers.{first_in}
use Rattle.name_tables.specs.Told.{IsTold, Answers}

-- what is told of the first of two parts is told of both
pub told_first : (e : NameFault) (fs gs : List NameFault) → IsTold e fs → IsTold e (fs ++ gs)
told_first e fs gs (inl memory) = inl memory
told_first e [] gs (inr first) = absurd cc
told_first e (f ∷ fs) gs (inr first) = inr first

-- and of the second, where the first has no fault
pub told_second : (e : NameFault) (fs gs : List NameFault) → fs ≡ [] → IsTold e gs → IsTold e (fs ++ gs)
told_second e fs gs none told = subst (λ hs. IsTold e (hs ++ gs)) (sym none) told

-- the exit of a `?` tells its fault
pub told_by : {X : Type 0} (r : Result X NameFault) (e : NameFault) (fs : List NameFault) (P : X → Type 0) → IsErrAnd r (λ y. y ≡ e) → IsTold e fs → Answers r fs P
told_by r e fs P is told =
    let left = err_from_is_err_and r is in
    subst (λ z. Answers z fs P) (sym left.1) (subst (λ y. IsTold y fs) (sym left.2) told)
