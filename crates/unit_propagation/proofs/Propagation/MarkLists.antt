-- What marks and their list are, as they change.
use Rattle.std.proofs.Common.{◌≡◌, ◌<◌, ◌≤◌, ◌-◌, ◌++◌, [], ◌∷◌, ◌⊎◌, ℕ, suc, Bool, true, false, List, length, get_or, set, take, cond, arith, sym, ◌∙◌, ap, inl, inr, refl, subst, eqb, length-append, length-set, length-take, get_or-set_other, get_or-set_same}
use Rattle.std.proofs.lemmas.Bool.{cases_lt, cases_eq, cases_Bool, eqb-true, eqb-false}
use Rattle.std.proofs.lemmas.Cmp.{nat_eq_equiv}
use Rattle.std.proofs.lemmas.List.{get_or_past, get_or_default, get_or_append_left, get_or_push, get_or-take}
use Rattle.std.proofs.lemmas.List.Elements.{All-push, All-weaker, All-from_recursion, Contains-push, Contains-append_left}
use Rattle.std.proofs.lemmas.List.Folds.{Any-from_list_any}
use Rattle.std.proofs.lemmas.List.Sorted.{All-permutation, Contains-permutation, IsPermutation-swap_remove}
use Rattle.std.proofs.lemmas.Map.Keys.{IsDistinct-IsPermutation, IsDistinct-push}
use Rattle.std.proofs.lemmas.Map.Steps.{length-le_from_distinct_below}
use Rattle.std.specs.List.{Contains, IsDistinct, list_any, swap_remove}
use Rattle.std.specs.List.Sorted.{IsPermutation}
use Rattle.unit_propagation.proofs.Watches.Links.{contains_cases}
use Rattle.unit_propagation.specs.Propagation.PendingState.{IsMarkList}
use Rattle.unit_propagation.specs.Propagation.Rule.{IsMarked}
use Rattle.unit_propagation.proofs.Propagation.Keeping.{marked_more}

pub marked_in : (flags : List Bool) (n : ℕ) → IsMarked flags n → n < length flags
marked_in flags n is = elim (cases_lt n (length flags)) [ inl lt ↦ lt | inr ge ↦ let e : false ≡ true = sym (get_or_past flags n false ge) ∙ is in absurd cc ]

not_any : (list : List ℕ) (n : ℕ) → (Contains list n → ⊥) → list_any (eqb n) list ≡ false
not_any list n absent =
    elim (cases_Bool (list_any (eqb n) list)) [
      | inl t ↦
          let some = Any-from_list_any (eqb n) list t in
          let same : n ≡ some.1 = eqb-true n some.1 some.4 in
          absurd (absent (subst (Contains list) (sym same) (some.0, some.2, some.3)))
      | inr f ↦ f
    ]

pub mark_list_none : IsMarkList [] []
unfolding IsDistinct
mark_list_none = record { covers = λ n is. let none : List Bool = [] in let in' : n < length none = marked_in none n is in absurd (omega (arith, in')); only = λ k d h. absurd (omega arith); once = tt }

-- no clause more is marked than there are
pub mark_list_long : (flags : List Bool) (list : List ℕ) → IsMarkList flags list → length list ≤ length flags
mark_list_long flags list are =
    length-le_from_distinct_below list (length flags) are.once (λ q t.
    let some = Any-from_list_any (eqb q) list t in
    let same : q ≡ some.1 = eqb-true q some.1 some.4 in
    let in' : get_or list some.0 some.1 < length flags = marked_in flags (get_or list some.0 some.1) (are.only some.0 some.1 some.2) in
    omega (arith, in', same, some.3))

-- one that isn't marked is marked
pub mark_list_push : (flags : List Bool) (list : List ℕ) (n : ℕ) → n < length flags → (IsMarked flags n → ⊥) → IsMarkList flags list → IsMarkList (set flags n true) (list ++ n ∷ [])
mark_list_push flags list n in' unmarked are =
    record {
      covers = λ m h. elim (cases_eq m n) [
        | inl e ↦ subst (Contains (list ++ n ∷ [])) (sym e) (Contains-push list n)
        | inr ne ↦ Contains-append_left list (n ∷ []) m (are.covers m (sym (get_or-set_other flags n m true false ne) ∙ h))
      ];
      only = All-push (IsMarked (set flags n true)) list n (All-weaker (IsMarked flags) (IsMarked (set flags n true)) (λ m. marked_more flags n m) list are.only) (get_or-set_same flags n true false in');
      once = IsDistinct-push nat_eq_equiv list n are.once (not_any list n (λ (k, h, is). unmarked (subst (IsMarked flags) is (are.only k n h))));
    }

-- and so there is room for it
pub mark_list_room : (flags : List Bool) (list : List ℕ) (n : ℕ) → n < length flags → (IsMarked flags n → ⊥) → IsMarkList flags list → length list < length flags
mark_list_room flags list n in' unmarked are =
    let all : length (list ++ n ∷ []) ≤ length (set flags n true) = mark_list_long (set flags n true) (list ++ n ∷ []) (mark_list_push flags list n in' unmarked are) in
    omega (arith, all, length-append list (n ∷ []), length-set flags n true)

-- one clause more
pub flag_stays : (flags : List Bool) (b : Bool) (m : ℕ) → IsMarked flags m → IsMarked (flags ++ b ∷ []) m
flag_stays flags b m is = get_or_append_left flags (b ∷ []) false m (marked_in flags m is) ∙ is

flag_cases : (flags : List Bool) (b : Bool) (m : ℕ) → IsMarked (flags ++ b ∷ []) m → IsMarked flags m ⊎ ((m ≡ length flags) × (b ≡ true))
flag_cases flags b m is =
    elim (cases_lt m (length flags)) [
      | inl lt ↦ inl (sym (get_or_append_left flags (b ∷ []) false m lt) ∙ is)
      | inr ge ↦
          let in' : m < length (flags ++ b ∷ []) = marked_in (flags ++ b ∷ []) m is in
          let last : m ≡ length flags = omega (arith, in', length-append flags (b ∷ [])) in
          inr (last, sym (get_or_push flags b false m (sym last)) ∙ is)
    ]

pub mark_list_flag : (flags : List Bool) (list : List ℕ) (b : Bool) → IsMarkList flags list → IsMarkList (flags ++ b ∷ []) (cond b (list ++ length flags ∷ []) list)
mark_list_flag flags list false are =
    record {
      covers = λ m h. elim (flag_cases flags false m h) [ inl old ↦ are.covers m old | inr last ↦ let e : false ≡ true = last.1 in absurd cc ];
      only = All-weaker (IsMarked flags) (IsMarked (flags ++ false ∷ [])) (λ m. flag_stays flags false m) list are.only;
      once = are.once;
    }
mark_list_flag flags list true are =
    let n : ℕ = length flags in
    record {
      covers = λ m h. elim (flag_cases flags true m h) [
        | inl old ↦ Contains-append_left list (n ∷ []) m (are.covers m old)
        | inr last ↦ subst (Contains (list ++ n ∷ [])) (sym last.0) (Contains-push list n)
      ];
      only = All-push (IsMarked (flags ++ true ∷ [])) list n (All-weaker (IsMarked flags) (IsMarked (flags ++ true ∷ [])) (λ m. flag_stays flags true m) list are.only) (get_or_push flags true false n refl);
      once = IsDistinct-push nat_eq_equiv list n are.once (not_any list n (λ (k, h, is).
          let in' : n < length flags = marked_in flags n (subst (IsMarked flags) is (are.only k n h)) in
          absurd (omega (arith, in'))));
    }

distinct_first : (x : ℕ) (xs : List ℕ) → IsDistinct eqb (x ∷ xs) → (Contains xs x → ⊥) × IsDistinct eqb xs
unfolding IsDistinct
distinct_first x xs (none, once) = (λ (k, h, is). let e : eqb x (get_or xs k x) ≡ false = All-from_recursion (λ y. eqb x y ≡ false) xs none k x h in eqb-false x (get_or xs k x) e (sym is), once)

-- one clause less, which was not marked
pub mark_list_cut : (flags : List Bool) (list : List ℕ) → IsMarkList flags list → get_or flags (length flags - 1) false ≡ false → IsMarkList (take (length flags - 1) flags) list
mark_list_cut flags list are unmarked =
    let n : ℕ = length flags - 1 in
    record {
      covers = λ m h.
          let below : m < n = omega (arith, marked_in (take n flags) m h, length-take n flags) in
          are.covers m (sym (get_or-take n flags m false below) ∙ h);
      only = λ k d h.
          let m : ℕ = get_or list k d in
          let old : IsMarked flags m = are.only k d h in
          let in' : m < length flags = marked_in flags m old in
          elim (cases_eq m n) [
            | inl e ↦ let f : false ≡ true = sym unmarked ∙ (ap (λ (j : ℕ). get_or flags j false) (sym e) ∙ old) in absurd cc
            | inr ne ↦ get_or-take n flags m false (omega (arith, in', ne)) ∙ old
          ];
      once = are.once;
    }

-- a mark is taken away
pub mark_list_unmark : (flags : List Bool) (list : List ℕ) (i x : ℕ) → i < length list → x ≡ get_or list i x → IsMarkList flags list → IsMarkList (set flags x false) (swap_remove list i x)
mark_list_unmark flags list i x in' is are =
    let rest : List ℕ = swap_remove list i x in
    let moved : IsPermutation list (x ∷ rest) = IsPermutation-swap_remove list i x in' is in
    let apart = distinct_first x rest (IsDistinct-IsPermutation eqb nat_eq_equiv.symm list (x ∷ rest) moved are.once) in
    let here : IsMarked flags x = subst (IsMarked flags) (sym is) (are.only i x in') in
    let gone : get_or (set flags x false) x false ≡ false = get_or-set_same flags x false false (marked_in flags x here) in
    record {
      covers = λ m h. elim (cases_eq m x) [
        | inl e ↦ let f : false ≡ true = sym (subst (λ (k : ℕ). get_or (set flags x false) k false ≡ false) (sym e) gone) ∙ h in absurd cc
        | inr ne ↦
            let old : IsMarked flags m = sym (get_or-set_other flags x m false false ne) ∙ h in
            elim (contains_cases x m rest (Contains-permutation list (x ∷ rest) m moved (are.covers m old))) [ inl same ↦ absurd (ne (sym same)) | inr there ↦ there ]
      ];
      only = λ k d h.
          let m : ℕ = get_or rest k d in
          let ne : m ≡ x → ⊥ = λ e. apart.0 (k, h, get_or_default rest k x d h ∙ e) in
          let old : IsMarked flags m = All-permutation (IsMarked flags) list (x ∷ rest) moved are.only (suc k) d (omega (arith, h)) in
          get_or-set_other flags x m false false ne ∙ old;
      once = apart.1;
    }

pub not_marked : (flags : List Bool) (n : ℕ) (x : Bool) → n < length flags → x ≡ get_or flags n x → x ≡ false → IsMarked flags n → ⊥
not_marked flags n x in' is no' marked = let e : true ≡ false = sym marked ∙ (get_or_default flags n false x in' ∙ (sym is ∙ no')) in cc
