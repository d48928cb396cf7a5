-- A loop that adds what each part declares: what came behind, with what the parts that are left declare, is what all declare, and
-- the faults of what is left are those of all.
use Rattle.std.proofs.Common.{◌≡◌, ℕ, ◌+◌, ◌<◌, ◌≤◌, List, [], ◌∷◌, ◌++◌, length, get_or, drop, refl, sym, ap, ◌∙◌, subst, append_assoc, append-nil}
use Rattle.named_model.specs.declared.fault.NameFault.{NameFault}
use Rattle.name_tables.specs.Told.{IsTold}
use Rattle.name_tables.proofs.Telling.{told_first}
use Rattle.name_tables.proofs.Reaching.{next_is, none_is}

pub record Gained {X Y : Type 0} (faults : List X → List NameFault) (values : List X → List Y) (all rest : List X) (old now : List Y) : Type 0 where
  pub faults_are : faults rest ≡ faults all
  pub values_are : now ++ values rest ≡ old ++ values all

module _ {X Y : Type 0} (faults : List X → List NameFault) (values : List X → List Y) (all : List X) where
  pub gained_start : (old : List Y) → Gained faults values all all old old
  gained_start old = record { faults_are = refl; values_are = refl }

  module _ (i : ℕ) (old now : List Y) (before : Gained faults values all (drop i all) old now) where
    -- a part without a fault
    pub gained_more : (x : X) (more ys : List Y) (fs : List NameFault) → i < length all → x ≡ get_or all i x
        → faults (x ∷ drop (i + 1) all) ≡ fs ++ faults (drop (i + 1) all) → fs ≡ []
        → values (x ∷ drop (i + 1) all) ≡ ys ++ values (drop (i + 1) all) → more ≡ now ++ ys
        → Gained faults values all (drop (i + 1) all) old more
    gained_more x more ys fs l is apart none one pushed =
        let here = next_is all i x l is in
        let rest = drop (i + 1) all in
        record {
          faults_are = sym (ap faults here ∙ apart ∙ ap (λ gs. gs ++ faults rest) none) ∙ before.faults_are;
          values_are =
              ap (λ zs. zs ++ values rest) pushed
              ∙ append_assoc now ys (values rest)
              ∙ ap (λ zs. now ++ zs) (sym (ap values here ∙ one))
              ∙ before.values_are;
        }

    -- a part with a fault
    pub gained_fault : (x : X) (fs : List NameFault) (e : NameFault) → i < length all → x ≡ get_or all i x
        → faults (x ∷ drop (i + 1) all) ≡ fs ++ faults (drop (i + 1) all) → IsTold e fs → IsTold e (faults all)
    gained_fault x fs e l is apart told =
        subst (IsTold e) (sym (ap faults (next_is all i x l is) ∙ apart) ∙ before.faults_are) (told_first e fs (faults (drop (i + 1) all)) told)

    -- no part is left
    pub no_fault : length all ≤ i → faults [] ≡ [] → faults all ≡ []
    no_fault l empty = sym before.faults_are ∙ ap faults (none_is all i l) ∙ empty

    pub all_gained : length all ≤ i → values [] ≡ [] → now ≡ old ++ values all
    all_gained l empty = sym (append-nil now) ∙ ap (λ zs. now ++ zs) (sym (ap values (none_is all i l) ∙ empty)) ∙ before.values_are
