-- How many steps of a log are novel, where each but the last one is.
use Rattle.std.proofs.Common.{◌≡◌, ◌≢◌, ◌↔◌, ◌<◌, ◌≤◌, ◌+◌, ℕ, zero, Bool, true, false, List, [], ◌∷◌, ◌++◌, map, take, length, get_or, slice_get, Some, All, Contains, refl, sym, ◌∙◌, ap, subst, inl, inr, arith, append_assoc, append-nil, if◌then◌else◌}
use Rattle.std.specs.List.{list_any}
use Rattle.std.proofs.lemmas.Bool.{cases_Bool}
use Rattle.std.proofs.lemmas.List.{take-append-le, get_or_append_left, length_push}
use Rattle.std.proofs.lemmas.List.Elements.{All-contains, All-nil, Contains-append_left, Contains-append_right, Contains-append_cases}
use Rattle.std.proofs.lemmas.Option.{slice_get_within, slice_get-get_or, get_or_from_slice_get}
use Rattle.std.proofs.Math.Seq.{take-append_seam, get_or-append_seam}
use Rattle.cnf_core.specs.declared.literal.Lit.{Lit}
use Rattle.cnf_core.specs.Valuation.{Satisfies, clause_value}
use Rattle.refutation_check.specs.declared.log.Step.{Step}
use Rattle.refutation_check.specs.Chain.{members_of, Subsumes, IsNovel, EachEntailed}
use Rattle.refutation_check.specs.SearchLog.{HasNoEmpty, IsAllNovel, IsNovelButLast, is_novel, novel_steps}
use Rattle.refutation_check.proofs.Novelty.{novel_exact, novel_all}
use Rattle.rel_formula.proofs.OpenCells.{map_has}
use Rattle.translation_rules.proofs.Tests.{from_each}

abbrev one_if : Bool → ℕ
one_if b = if b then 1 else 0

-- one step more
counted_push : (given : List (List Lit)) (log : List Step) (s : Step) → novel_steps given (log ++ s ∷ []) ≡ novel_steps given log + one_if (is_novel (members_of given log) s.clause)
counted_push given [] s =
    let e : one_if (is_novel (given ++ []) s.clause) ≡ one_if (is_novel given s.clause) = ap (λ cs. one_if (is_novel cs s.clause)) (append-nil given) in
    omega arith
counted_push given (x ∷ log) s =
    let h = counted_push (given ++ x.clause ∷ []) log s in
    let same : members_of (given ++ x.clause ∷ []) log ≡ members_of given (x ∷ log) = append_assoc given (x.clause ∷ []) (map (λ (s : Step). s.clause) log) in
    let e : one_if (is_novel (members_of (given ++ x.clause ∷ []) log) s.clause) ≡ one_if (is_novel (members_of given (x ∷ log)) s.clause) = ap (λ cs. one_if (is_novel cs s.clause)) same in
    omega arith

nothing_in : (clause : List Lit) → All (Contains []) clause → clause ≡ []
nothing_in [] all = refl
nothing_in (l ∷ clause) all = absurd (let there = all 0 l (omega arith) in let k = there.1 in omega arith)

-- the empty clause is novel where none is empty, and else not
empty_is_novel : (members : List (List Lit)) → All (λ (c : List Lit). c ≢ []) members → IsNovel members []
empty_is_novel members none k d l all = none k d l (nothing_in (get_or members k d) all)

empty_is_known : (members : List (List Lit)) → Contains members [] → IsNovel members [] → ⊥
empty_is_known members there novel = All-contains (λ (other : List Lit). ¬ Subsumes other []) members [] novel there (All-nil (Contains {X = Lit} []))

module _ (given : List (List Lit)) (before : List Step) (last : Step) (novel : IsNovelButLast given (before ++ last ∷ [])) where
  front : (i : ℕ) → i ≤ length before → take i (before ++ last ∷ []) ≡ take i before
  front i l = take-append-le i before (last ∷ []) l

  long : length (before ++ last ∷ []) ≡ length before + 1
  long = length_push before last

  at_front : (i : ℕ) (s : Step) → slice_get before i ≡ Some s → slice_get (before ++ last ∷ []) i ≡ Some s
  at_front i s at =
      let l : i < length before = slice_get_within before i s at in
      let e = long in
      let here : get_or (before ++ last ∷ []) i s ≡ s = get_or_append_left before (last ∷ []) s i l ∙ get_or_from_slice_get before i s s at in
      slice_get-get_or (before ++ last ∷ []) i s (omega arith) ∙ ap (λ (x : Step). Some x) here

  at_last : slice_get (before ++ last ∷ []) (length before) ≡ Some last
  at_last =
      let e = long in
      slice_get-get_or (before ++ last ∷ []) (length before) last (omega arith) ∙ ap (λ (x : Step). Some x) (get_or-append_seam before last [] last)

  earlier : IsAllNovel given before
  earlier i s at =
      let l : i < length before = slice_get_within before i s at in
      elim (novel i s (at_front i s at)) [
        | inl is ↦ subst (λ (steps : List Step). IsNovel (members_of given steps) s.clause) (front i (omega arith)) is
        | inr end ↦ absurd (let e = end.0 in let f = long in omega arith)
      ]

  counted : novel_steps given (before ++ last ∷ []) ≡ length before + one_if (is_novel (members_of given before) last.clause)
  counted = let e = counted_push given before last in let f = novel_all given before earlier in omega arith

  -- the last step is novel, or it is empty
  last_is : (last.clause ≡ [] → All (λ (c : List Lit). c ≢ []) (members_of given before)) → IsNovel (members_of given before) last.clause
  last_is none = elim (novel (length before) last at_last) [
    | inl is ↦ subst (λ (steps : List Step). IsNovel (members_of given steps) last.clause) (take-append_seam before (last ∷ [])) is
    | inr end ↦ subst (IsNovel (members_of given before)) (sym end.1) (empty_is_novel (members_of given before) (none end.1))
  ]

  -- each step is novel, unless the last is empty and another clause is
  pub all_counted : (last.clause ≡ [] → All (λ (c : List Lit). c ≢ []) (members_of given before)) → novel_steps given (before ++ last ∷ []) ≡ length before + 1
  all_counted none =
      let t : is_novel (members_of given before) last.clause ≡ true = (novel_exact (members_of given before) last.clause).1 (last_is none) in
      let e : one_if (is_novel (members_of given before) last.clause) ≡ 1 = ap one_if t in
      let f = counted in
      omega arith

  -- and then all the others are
  pub others_counted : last.clause ≡ [] → Contains (members_of given before) [] → novel_steps given (before ++ last ∷ []) ≡ length before
  others_counted empty there = elim (cases_Bool (is_novel (members_of given before) last.clause)) [
    | inl t ↦ absurd (empty_is_known (members_of given before) there (subst (IsNovel (members_of given before)) empty ((novel_exact (members_of given before) last.clause).0 t)))
    | inr f ↦ let e : one_if (is_novel (members_of given before) last.clause) ≡ 0 = ap one_if f in let g = counted in omega arith
  ]

-- no clause that a valuation makes true is empty
not_empty : (v : ℕ → Bool) (clause : List Lit) → clause_value v clause ≡ true → clause ≢ []
not_empty v clause t e = let f : false ≡ true = subst (λ (c : List Lit). clause_value v c ≡ true) e t in absurd cc

pub none_empty : (v : ℕ → Bool) (clauses : List (List Lit)) → Satisfies v clauses → All (λ (c : List Lit). c ≢ []) clauses
none_empty v clauses true' k d l = not_empty v (get_or clauses k d) (true' k d l)

-- and none that follows from such clauses
pub none_empty_after : (v : ℕ → Bool) (clauses : List (List Lit)) → Satisfies v clauses → (steps : List Step) → EachEntailed clauses steps → HasNoEmpty steps
none_empty_after v clauses true' steps entailed k d l = not_empty v (get_or steps k d).clause (entailed k d l v true')

-- the members of a part and of the steps before its last one
known_in : (clauses local : List (List Lit)) (pool before : List Step) → Contains (members_of local before) [] → Contains (members_of (members_of (clauses ++ local) pool) before) []
known_in clauses local pool before c =
    let f : Step → List Lit = λ s. s.clause in
    elim (Contains-append_cases local (map f before) [] c) [
      | inl here ↦ Contains-append_left ((clauses ++ local) ++ map f pool) (map f before) [] (Contains-append_left (clauses ++ local) (map f pool) [] (Contains-append_right clauses local [] here))
      | inr later ↦ Contains-append_right ((clauses ++ local) ++ map f pool) (map f before) [] later
    ]

none_in : (clauses local : List (List Lit)) (pool before : List Step) → All (λ (c : List Lit). c ≢ []) clauses → HasNoEmpty pool → (Contains (members_of local before) [] → ⊥) →
    All (λ (c : List Lit). c ≢ []) (members_of (members_of (clauses ++ local) pool) before)
none_in clauses local pool before all no_empty none =
    let f : Step → List Lit = λ s. s.clause in
    from_each (λ (c : List Lit). c ≢ []) (((clauses ++ local) ++ map f pool) ++ map f before) (λ c there e. elim (Contains-append_cases ((clauses ++ local) ++ map f pool) (map f before) c there) [
      | inr later ↦ none (Contains-append_right local (map f before) [] (subst (Contains (map f before)) e later))
      | inl given ↦ elim (Contains-append_cases (clauses ++ local) (map f pool) c given) [
        | inr imported ↦ let h = map_has f pool c imported in All-contains (λ (s : Step). s.clause ≢ []) pool h.0 no_empty h.1 (sym h.2 ∙ e)
        | inl own ↦ elim (Contains-append_cases clauses local c own) [
          | inl first ↦ All-contains (λ (c : List Lit). c ≢ []) clauses c all first e
          | inr here ↦ none (Contains-append_left local (map f before) [] (subst (Contains local) e here))
        ]
      ]
    ])

module _ (clauses local : List (List Lit)) (pool log before : List Step) (last : Step) (same : log ≡ before ++ last ∷ []) (novel : IsNovelButLast (members_of (clauses ++ local) pool) log) where
  novel_here : IsNovelButLast (members_of (clauses ++ local) pool) (before ++ last ∷ [])
  novel_here = subst (IsNovelButLast (members_of (clauses ++ local) pool)) same novel

  -- the last step is not counted where it is empty, and so is a clause of the part or an earlier step
  pub counted_known : last.clause ≡ [] → Contains (members_of local before) [] → length before ≡ novel_steps (members_of (clauses ++ local) pool) log
  counted_known empty there =
      sym (ap (novel_steps (members_of (clauses ++ local) pool)) same ∙ others_counted (members_of (clauses ++ local) pool) before last novel_here empty (known_in clauses local pool before there))

  -- and else it is
  pub counted_new : All (λ (c : List Lit). c ≢ []) clauses → HasNoEmpty pool → (last.clause ≡ [] → Contains (members_of local before) [] → ⊥) → length log ≡ novel_steps (members_of (clauses ++ local) pool) log
  counted_new all no_empty none =
      let e = all_counted (members_of (clauses ++ local) pool) before last novel_here (λ empty. none_in clauses local pool before all no_empty (none empty)) in
      let f : length log ≡ length before + 1 = ap length same ∙ length_push before last in
      f ∙ sym e ∙ sym (ap (novel_steps (members_of (clauses ++ local) pool)) same)
