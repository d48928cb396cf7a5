-- What is made of all parts of the problems is made of all problems.
use Rattle.std.proofs.Common.{◌≡◌, ◌+◌, ◌*◌, ◌<◌, ◌≤◌, ℕ, zero, suc, Result, Ok, List, [], ◌∷◌, ◌++◌, map, flat_map, take, drop, length, get_or, All, refl, sym, ◌∙◌, ap, subst, arith, suc-mul, zero-mul, take-add, take_all, drop-drop}
use Rattle.std.specs.Fork.{slice_chunk, IsChunk}
use Rattle.std.specs.declared.alloc.AllocError.{AllocError}
use Rattle.std.specs.declared.alloc.Global.{Global}
use Rattle.std.specs.declared.sync.Arc.{Arc}
use Rattle.std.proofs.lemmas.List.{map-append, length-map, get_or-map, flat_map_more}
use Rattle.rel_formula.specs.Bounds.{Bounded}
use Rattle.translation_rules.specs.Translation.{Translated}
use Rattle.explorer_run.specs.Served.{IsServable, values_of}
use Rattle.explorer_run.specs.Parts.{Made, AreTranslated, AreJoined}

abbrev pub Shared : Type 0
Shared = Arc Translated Global

abbrev problem_of : Translated → Bounded
problem_of t = t.problem

abbrev items_of : Made → List Shared
items_of v = v.items

abbrev problems_of : Made → List Bounded
problems_of v = map problem_of (values_of v.items)

abbrev pub made : Made → Result Made AllocError
made v = Ok v

-- parts of so many, of which there are enough, are some where there is something to part
pub some_in_a_part : (size parts count : ℕ) → count ≤ size * parts → size < count → 0 < size
some_in_a_part zero parts count enough less = let none = zero-mul parts in absurd (omega (arith, none, enough, less))
some_in_a_part (suc size) parts count enough less = omega arith

-- what holds of all problems holds of those of a part
pub of_a_part : (size : ℕ) (problems : List Bounded) (start : ℕ) (part : List Bounded) → IsChunk problems size start part → All IsServable problems → All IsServable part
of_a_part size problems start part is all k d lt =
    let within = is.in_bounds in
    subst IsServable (sym (is.elements k d lt)) (all (start + k) d (omega (arith, within, lt)))

-- ---- put together

pub none_joined : (all : Made) → all.items ≡ [] → AreJoined [] all
none_joined all none = ([], refl, none)

pub one_more_joined : (parts : List (Result Made AllocError)) (part : Result Made AllocError) (v all more : Made) → part ≡ made v → more.items ≡ all.items ++ v.items → AreJoined parts all → AreJoined (parts ++ part ∷ []) more
one_more_joined parts part v all more is grown (vs, parted, joined) = (
  vs ++ v ∷ [],
  (λ i. parted i ++ is i ∷ []) ∙ sym (map-append made vs (v ∷ [])),
  grown ∙ (ap (λ (xs : List Shared). xs ++ v.items) joined ∙ flat_map_more items_of [] vs v),
)

-- ---- the problems of all parts

problems_joined : (vs : List Made) → map problem_of (values_of (flat_map items_of vs)) ≡ flat_map problems_of vs
problems_joined [] = refl
problems_joined (v ∷ vs) =
    let value_of : Shared → Translated = λ a. a.value in
    ap (map problem_of) (map-append value_of v.items (flat_map items_of vs))
    ∙ (map-append problem_of (values_of v.items) (values_of (flat_map items_of vs)) ∙ ap (λ (ps : List Bounded). problems_of v ++ ps) (problems_joined vs))

module _ (size : ℕ) (problems : List Bounded) where
  -- from the part of this number on
  from_part : (n : ℕ) (vs : List Made) → ((k : ℕ) (d : Made) → k < length vs → problems_of (get_or vs k d) ≡ slice_chunk problems size (n + k)) → flat_map problems_of vs ≡ take (length vs * size) (drop (n * size) problems)
  from_part n [] each = sym (ap (λ (k : ℕ). take k (drop (n * size) problems)) (zero-mul size))
  from_part n (v ∷ vs) each =
      let here = drop (n * size) problems in
      let this : n + 0 ≡ n = omega arith in
      let first : problems_of v ≡ take size here = each 0 v (omega arith) ∙ ap (slice_chunk problems size) this in
      let rest = from_part (suc n) vs (λ k d lt. let next : n + suc k ≡ suc n + k = omega arith in each (suc k) d (omega arith) ∙ ap (slice_chunk problems size) next) in
      let there : drop (suc n * size) problems ≡ drop size here = ap (λ (k : ℕ). drop k problems) (suc-mul n size) ∙ sym (drop-drop size (n * size) problems) in
      let long : size + length vs * size ≡ length (v ∷ vs) * size = let one_more = suc-mul (length vs) size in omega (arith, one_more) in
      (λ i. first i ++ rest i)
      ∙ (ap (λ (ps : List Bounded). take size here ++ take (length vs * size) ps) there ∙ (sym (take-add size (length vs * size) here) ∙ ap (λ (k : ℕ). take k here) long))

  -- where there are as many parts as it takes, and each was made
  pub all_translated : (parts : List (Result Made AllocError)) (all : Made) → length problems ≤ length parts * size → ((k : ℕ) (d : Result Made AllocError) → k < length parts → AreTranslated (slice_chunk problems size k) (get_or parts k d))
      → AreJoined parts all → map problem_of (values_of all.items) ≡ problems
  all_translated parts all enough each (vs, parted, joined) =
      let long : length parts ≡ length vs = ap (λ (ps : List (Result Made AllocError)). length ps) parted ∙ length-map vs made in
      let of_each : (k : ℕ) (d : Made) → k < length vs → problems_of (get_or vs k d) ≡ slice_chunk problems size (0 + k) = λ k d lt.
      let at : get_or parts k (made d) ≡ made (get_or vs k d) = ap (λ (ps : List (Result Made AllocError)). get_or ps k (made d)) parted ∙ get_or-map made vs k d (made d) lt in
      let same : k ≡ 0 + k = omega arith in
      subst (AreTranslated (slice_chunk problems size k)) at (each k (made d) (omega (arith, long, lt))) ∙ ap (slice_chunk problems size) same in
      let whole : length problems ≤ length vs * size = subst (λ (n : ℕ). length problems ≤ n * size) long enough in
      ap (λ (xs : List Shared). map problem_of (values_of xs)) joined
      ∙ (problems_joined vs ∙ (from_part 0 vs of_each ∙ (ap (λ (k : ℕ). take (length vs * size) (drop k problems)) (zero-mul size) ∙ take_all (length vs * size) problems whole)))
