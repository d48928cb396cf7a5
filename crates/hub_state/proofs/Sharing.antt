-- What a hub finds for a key, and what it shares.
use Rattle.std.proofs.Common.{◌≡◌, ◌↔◌, ◌≤◌, ℕ, Option, None, Some, true, false, List, [], ◌++◌, length, take, get_or, refl, sym, ◌∙◌, ap, subst}
use Rattle.std.specs.Prelude.{IfSome, IsNone}
use Rattle.std.specs.declared.sync.Arc.{Arc}
use Rattle.std.proofs.lemmas.Option.{none-some}
use Rattle.cnf_core.specs.declared.literal.Lit.{Lit}
use Rattle.refutation_check.specs.declared.log.Step.{Step as LogStep}
use Rattle.refutation_check.specs.Chain.{members_of, IsAccepted}
use Rattle.clause_pool.specs.Limits.{IsWithinLimits, IsLongestFit, moved_behind}
use Rattle.rel_formula.specs.Bounds.{Bounded}
use Rattle.translation_rules.specs.Translation.{Translated}
use Rattle.translation_cache.specs.Published.{shown}
use Rattle.hub_state.specs.Journal.Noted.{Noted}
use Rattle.hub_state.specs.Journal.Journal.{IsPublished, IsPool, Shares, pool_of}
use Rattle.hub_state.specs.HubView.{HasTranslation, moved}
use Rattle.hub_state.specs.Held.{IsHub}

module _ (problems : List Bounded) (kept : List (Option Translated)) (pools : List (List LogStep)) (journal : List Noted) (held : IsHub problems kept pools journal) (key : ℕ) where
  -- nothing is found where nothing was published, and what is found was published
  pub none_found : {A : Type 0} (found : Option (Arc Translated A)) → shown found ≡ get_or kept key None → IsNone found ↔ (¬ HasTranslation journal key)
  none_found None e = (λ none h. none-some h.0 (e ∙ held.translation key h.0 h.1), λ h. refl)
  none_found (Some t) e = (λ none. absurd (let wrong : true ≡ false = none in cc), λ h. absurd (h (t.value, held.published key t.value (sym e))))

  pub one_found : {A : Type 0} (found : Option (Arc Translated A)) → shown found ≡ get_or kept key None → IfSome found (λ t. IsPublished journal key t.value)
  one_found None e = tt
  one_found (Some t) e = held.published key t.value (sym e)

  -- where something was published, that is what is found
  pub is_found : (u : Translated) → IsPublished journal key u → {A : Type 0} (t : Arc Translated A) → shown (Some t) ≡ get_or kept key None → t.value ≡ u
  is_found u there t e = let both : Some t.value ≡ Some u = e ∙ held.translation key u there in cc

  pub nothing_found : (u : Translated) → IsPublished journal key u → None ≡ get_or kept key None → ⊥
  nothing_found u there e = none-some u (e ∙ held.translation key u there)

-- a log goes on over equal clauses and an equal pool
pub over_equals : (at : ℕ) (free : List LogStep) (clauses same : List (List Lit)) (pool whole : List LogStep) → clauses ≡ same → pool ≡ whole →
    IsAccepted (members_of same (take at whole)) free → IsAccepted (members_of clauses (take at pool)) free
over_equals at free clauses same pool whole e p accepted =
    subst (λ (xs : List LogStep). IsAccepted (members_of clauses (take at xs)) free) (sym p)
    (subst (λ (cs : List (List Lit)). IsAccepted (members_of cs (take at whole)) free) (sym e) accepted)

-- what is added to a pool is what the entry names, and may follow
pub record IsSharing (journal : List Noted) (key at : ℕ) (u : Translated) (free added new : List LogStep) (n : ℕ) : Type 0 where
  pub added_is : added ≡ take n (moved journal key u at free)
  pub new_is : new ≡ pool_of key journal ++ added
  pub longest : IsLongestFit (pool_of key journal) (moved journal key u at free) n
  pub shares : Shares journal key added

pub is_sharing : (one : (pool steps : List LogStep) (n m : ℕ) → IsLongestFit pool steps n → IsLongestFit pool steps m → n ≡ m) (journal : List Noted) (key at : ℕ) (u : Translated) → IsPublished journal key u → IsPool u (pool_of key journal) →
    (free added new : List LogStep) (n : ℕ) (clauses more : List (List Lit)) (pool again : List LogStep) → clauses ≡ u.cnf.clauses → more ≡ u.cnf.clauses → pool ≡ pool_of key journal → again ≡ pool_of key journal →
    added ≡ take (length added) (moved_behind (length clauses) at pool free) → IsLongestFit pool (moved_behind (length clauses) at pool free) (length added) →
    new ≡ again ++ take n (moved_behind (length more) at again free) → IsLongestFit again (moved_behind (length more) at again free) n → (IsAccepted more again → IsAccepted more new) →
    IsSharing journal key at u free added new n
is_sharing one journal key at u there right free added new n clauses more pool again e f p q added_is added_fits new_is fits accepted =
    let whole : List LogStep = pool_of key journal in
    let all : List LogStep = moved journal key u at free in
    let first : moved_behind (length clauses) at pool free ≡ all = ap (λ (cs : List (List Lit)). moved_behind (length cs) at pool free) e ∙ ap (λ (xs : List LogStep). moved_behind (length u.cnf.clauses) at xs free) p in
    let second : moved_behind (length more) at again free ≡ all = ap (λ (cs : List (List Lit)). moved_behind (length cs) at again free) f ∙ ap (λ (xs : List LogStep). moved_behind (length u.cnf.clauses) at xs free) q in
    let fits_added : IsLongestFit whole all (length added) = subst (λ (xs : List LogStep). IsLongestFit xs all (length added)) p (subst (λ (xs : List LogStep). IsLongestFit pool xs (length added)) first added_fits) in
    let fits_new : IsLongestFit whole all n = subst (λ (xs : List LogStep). IsLongestFit xs all n) q (subst (λ (xs : List LogStep). IsLongestFit again xs n) second fits) in
    let same : length added ≡ n = one whole all (length added) n fits_added fits_new in
    let named : added ≡ take n all = added_is ∙ ap (take (length added)) first ∙ ap (λ (k : ℕ). take k all) same in
    let grown : new ≡ whole ++ added =
    new_is ∙ ap (λ (xs : List LogStep). xs ++ take n (moved_behind (length more) at again free)) q ∙ ap (λ (xs : List LogStep). whole ++ take n xs) second ∙ ap (λ (xs : List LogStep). whole ++ xs) (sym named) in
    let before : IsAccepted more again = subst (IsAccepted more) (sym q) (subst (λ (cs : List (List Lit)). IsAccepted cs whole) (sym f) right.accepted) in
    let after : IsAccepted u.cnf.clauses (whole ++ added) = subst (IsAccepted u.cnf.clauses) grown (subst (λ (cs : List (List Lit)). IsAccepted cs new) f (accepted before)) in
    record {
      added_is = named;
      new_is = grown;
      longest = fits_new;
      shares = record {
        translation = u;
        published = there;
        pool = record { accepted = after; limits = subst (λ (xs : List LogStep). IsWithinLimits (whole ++ xs)) (sym named) fits_new.fits };
      };
    }
