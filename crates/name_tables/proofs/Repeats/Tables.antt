-- The table of parents, as it is filled from the last signature to the first.
use Rattle.std.proofs.Common.{◌≡◌, ℕ, suc, ◌+◌, ◌-◌, ◌<◌, ◌==◌, List, [], ◌∷◌, ◌++◌, length, get_or, drop, Option, Some, None, refl, sym, ap, ◌∙◌, subst, inl, inr, arith, slice_index_or, if◌then◌else◌}
use Rattle.std.specs.List.{slice_set}
use Rattle.std.proofs.lemmas.Bool.{cases_lt, eq-eqb}
use Rattle.std.proofs.lemmas.Bool.Decides.{eqb_tells}
use Rattle.std.proofs.lemmas.List.{drop_more, drop_all, get_or_past, get_or_push, get_or_append_left, get_or-set_same, get_or-set_other, length_push}
use Rattle.name_tables.specs.declared.repeated_names.links.Link.{Link}
use Rattle.name_tables.specs.Repeats.Climbing.{parent_in, top_in}

-- an empty entry more
behind : (table : List (Option ℕ)) (w : ℕ) → slice_index_or (table ++ None ∷ []) w None ≡ slice_index_or table w None
behind table w =
    elim (cases_lt w (length table)) [
      | inl inside ↦ get_or_append_left table (None ∷ []) None w inside
      | inr past ↦ elim (cases_lt (length table) w) [
        | inl far ↦ get_or_past (table ++ None ∷ []) w None (omega (arith, far, length_push table None)) ∙ sym (get_or_past table w None past)
        | inr last ↦ get_or_push table None None w (omega (arith, past, last)) ∙ sym (get_or_past table w None past)
      ]
    ]

pub grown : (table more : List (Option ℕ)) (w : ℕ) → more ≡ table ++ None ∷ [] → slice_index_or more w None ≡ slice_index_or table w None
grown table more w pushed = ap (λ (t : List (Option ℕ)). slice_index_or t w None) pushed ∙ behind table w

-- an entry that is set
pub entry_set : (table : List (Option ℕ)) (number : ℕ) (parent : Option ℕ) (w : ℕ) → number < length table
    → slice_index_or (slice_set table number parent) w None ≡ (if number == w then parent else slice_index_or table w None)
entry_set table number parent w l =
    elim (eqb_tells number w) [
      | inl same ↦
          subst (λ v. slice_index_or (slice_set table number parent) v None ≡ (if number == v then parent else slice_index_or table v None)) same.1
          (get_or-set_same table number parent None l ∙ sym (ap (λ b. if b then parent else slice_index_or table number None) (eq-eqb number number refl)))
      | inr differ ↦
          get_or-set_other table number w parent None (λ e. differ.1 (sym e)) ∙ sym (ap (λ b. if b then parent else slice_index_or table w None) differ.0)
    ]

-- the signature before those that are in the table
parents_at : (links : List Link) (i j : ℕ) (table new : List (Option ℕ)) (k : Link) → j + (i + 1) ≡ length links → k ≡ get_or links (length links - 1 - i) k
    → ((w : ℕ) → slice_index_or table w None ≡ parent_in (drop (length links - i) links) w)
    → ((w : ℕ) → slice_index_or new w None ≡ (if k.name == w then k.parent else slice_index_or table w None))
    → (w : ℕ) → slice_index_or new w None ≡ parent_in (drop j links) w
parents_at links i j table new k e is before set w =
    let at : k ≡ get_or links j k = is ∙ ap (λ m. get_or links m k) (let same : length links - 1 - i ≡ j = omega (arith, e) in same) in
    let front : drop j links ≡ k ∷ drop (length links - i) links
    = drop_more links j k (omega (arith, e)) ∙ ap (λ x. x ∷ drop (j + 1) links) (sym at) ∙ ap (λ m. k ∷ drop m links) (let next : j + 1 ≡ length links - i = omega (arith, e) in next) in
    set w ∙ ap (λ o. if k.name == w then k.parent else o) (before w) ∙ sym (ap (λ ls. parent_in ls w) front)

pub parents_more : (links : List Link) (i : ℕ) (table new : List (Option ℕ)) (k : Link) → i < length links → k ≡ get_or links (length links - 1 - i) k
    → ((w : ℕ) → slice_index_or table w None ≡ parent_in (drop (length links - i) links) w)
    → ((w : ℕ) → slice_index_or new w None ≡ (if k.name == w then k.parent else slice_index_or table w None))
    → (w : ℕ) → slice_index_or new w None ≡ parent_in (drop (length links - (i + 1)) links) w
parents_more links i table new k l is before set = parents_at links i (length links - (i + 1)) table new k (omega (arith, l)) is before set

pub no_parents : (links : List Link) (w : ℕ) → slice_index_or [] w None ≡ parent_in (drop (length links - 0) links) w
no_parents links w = sym (ap (λ ls. parent_in ls w) (drop_all (length links - 0) links (omega arith)))

pub all_parents : (links : List Link) (i : ℕ) (table : List (Option ℕ)) → i ≡ length links → ((w : ℕ) → slice_index_or table w None ≡ parent_in (drop (length links - i) links) w)
    → (w : ℕ) → slice_index_or table w None ≡ parent_in links w
all_parents links i table e before w = before w ∙ ap (λ m. parent_in (drop m links) w) (let z : length links - i ≡ 0 = omega (arith, e) in z)

-- ---- steps to a top-level signature

module _ (table : List (Option ℕ)) (count i above : ℕ) (goal : Option ℕ) (l : i < count) (before : top_in table (suc (count - i)) above ≡ goal) where
  one_less : suc (count - (i + 1)) ≡ count - i
  one_less = omega (arith, l)

  pub step_up : (p : ℕ) → slice_index_or table above None ≡ Some p → top_in table (suc (count - (i + 1))) p ≡ goal
  step_up p e =
      ap (λ k. top_in table k p) one_less
      ∙ sym (ap (λ (o : Option ℕ). elim o [ None ↦ Some above | Some q ↦ top_in table (count - i) q ]) e)
      ∙ before

  pub step_ends : slice_index_or table above None ≡ None → Some above ≡ goal
  step_ends e = sym (ap (λ (o : Option ℕ). elim o [ None ↦ Some above | Some q ↦ top_in table (count - i) q ]) e) ∙ before

pub last_step : (table : List (Option ℕ)) (count i above : ℕ) (goal : Option ℕ) → i ≡ count → top_in table (suc (count - i)) above ≡ goal → top_in table 1 above ≡ goal
last_step table count i above goal e before = ap (λ k. top_in table (suc k) above) (let z : 0 ≡ count - i = omega (arith, e) in z) ∙ before

pub itself_is : (table : List (Option ℕ)) (number : ℕ) (p : ℕ) → slice_index_or table number None ≡ Some p → None ≡ top_in table 1 number
itself_is table number p e = sym (ap (λ (o : Option ℕ). elim o [ None ↦ Some number | Some q ↦ top_in table 0 q ]) e)

pub itself_top : (table : List (Option ℕ)) (number : ℕ) → slice_index_or table number None ≡ None → Some number ≡ top_in table 1 number
itself_top table number e = sym (ap (λ (o : Option ℕ). elim o [ None ↦ Some number | Some q ↦ top_in table 0 q ]) e)
