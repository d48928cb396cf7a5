-- What the ends say of the clauses.
use Rattle.std.proofs.Common.{◌≡◌, ◌<◌, ◌≤◌, ◌+◌, ◌-◌, ◌++◌, [], ◌∷◌, ℕ, zero, suc, Some, List, length, get_or, take, drop, arith, sym, ◌∙◌, ap, refl, subst, length-append, length-drop, length-take}
use Rattle.std.proofs.lemmas.List.{take_all, drop_at, drop-take, take-append-le, take-take, drop-append-le}
use Rattle.std.specs.List.{slice_range, slice_get}
use Rattle.std.proofs.lemmas.Option.{slice_get-get_or}
use Rattle.cnf_core.specs.declared.literal.Lit.{Lit}
use Rattle.unit_propagation.specs.Clauses.Codes.{literals_of}
use Rattle.unit_propagation.specs.Clauses.Parts.{clauses_from, EndsAt, start_at}

pub ends_high : (whole start : ℕ) (ends : List ℕ) → EndsAt whole start ends → start ≤ whole
ends_high whole start [] is = omega arith
ends_high whole start (e ∷ es) (up, rest) = let h = ends_high whole e es rest in omega (arith, up, h)

-- a part that lies within stays where more comes to the end
pub range_more : (xs ys : List ℕ) (a b : ℕ) → a ≤ b → b ≤ length xs → slice_range (xs ++ ys) a b ≡ slice_range xs a b
range_more xs ys a b up in' =
    let front : drop a (xs ++ ys) ≡ drop a xs ++ ys = drop-append-le a xs ys (omega arith) in
    ap (take (b - a)) front ∙ take-append-le (b - a) (drop a xs) ys (omega (arith, length-drop a xs))

pub range_new : (xs ys : List ℕ) (n : ℕ) → n ≡ length xs + length ys → slice_range (xs ++ ys) (length xs) n ≡ ys
range_new xs ys n is =
    let back : drop (length xs) (xs ++ ys) ≡ ys = drop_at xs ys (length xs) refl in
    ap (take (n - length xs)) back ∙ take_all (n - length xs) ys (omega arith)

-- one more clause at the end
pub ends_push : (whole start n : ℕ) (ends : List ℕ) → EndsAt whole start ends → whole ≤ n → EndsAt n start (ends ++ n ∷ [])
ends_push whole start n [] is up = (omega arith, refl)
ends_push whole start n (e ∷ es) (h, rest) up = (h, ends_push whole e n es rest up)

pub clauses_push : (codes more : List ℕ) (start n : ℕ) (ends : List ℕ) → n ≡ length codes + length more → EndsAt (length codes) start ends →
    clauses_from (codes ++ more) start (ends ++ n ∷ []) ≡ clauses_from codes start ends ++ literals_of more ∷ []
clauses_push codes more start n [] long is =
    let e : slice_range (codes ++ more) start n ≡ more = ap (λ (s : ℕ). slice_range (codes ++ more) s n) is ∙ range_new codes more n long in
    ap (λ (xs : List ℕ). literals_of xs ∷ []) e
clauses_push codes more start n (e ∷ es) long (up, rest) =
    let high = ends_high (length codes) e es rest in
    let part : slice_range (codes ++ more) start e ≡ slice_range codes start e = range_more codes more start e up high in
    ap (λ (xs : List ℕ). literals_of xs ∷ clauses_from (codes ++ more) e (es ++ n ∷ [])) part ∙
    ap (λ (cs : List (List Lit)). literals_of (slice_range codes start e) ∷ cs) (clauses_push codes more e n es long rest)

pub length-clauses_from : (codes : List ℕ) (start : ℕ) (ends : List ℕ) → length (clauses_from codes start ends) ≡ length ends
length-clauses_from codes start [] = refl
length-clauses_from codes start (e ∷ es) = ap suc (length-clauses_from codes e es)

pub start_at-first : (start : ℕ) (ends : List ℕ) → start_at start ends 0 ≡ start
start_at-first start [] = refl
start_at-first start (e ∷ es) = refl

pub start_at-next : (start : ℕ) (ends : List ℕ) (n d : ℕ) → n < length ends → start_at start ends (suc n) ≡ get_or ends n d
start_at-next start [] n d h = absurd (omega arith)
start_at-next start (e ∷ es) zero d h = start_at-first e es
start_at-next start (e ∷ es) (suc n) d h = start_at-next e es n d (omega arith)

pub clause_at : (codes : List ℕ) (start : ℕ) (ends : List ℕ) (n d : ℕ) (e : List Lit) → n < length ends → get_or (clauses_from codes start ends) n e ≡ literals_of (slice_range codes (start_at start ends n) (get_or ends n d))
clause_at codes start [] n d e h = absurd (omega arith)
clause_at codes start (x ∷ xs) zero d e h = refl
clause_at codes start (x ∷ xs) (suc n) d e h = clause_at codes x xs n d e (omega arith)

-- the clause lies within
pub clause_within : (whole start : ℕ) (ends : List ℕ) (n d : ℕ) → EndsAt whole start ends → n < length ends → (start_at start ends n ≤ get_or ends n d) × (get_or ends n d ≤ whole)
clause_within whole start [] n d is h = absurd (omega arith)
clause_within whole start (e ∷ es) zero d (up, rest) h = (up, ends_high whole e es rest)
clause_within whole start (e ∷ es) (suc n) d (up, rest) h = clause_within whole e es n d rest (omega arith)

-- the clause of this number, by its part
pub clause_named : (codes ends part : List ℕ) (cs : List (List Lit)) (number : ℕ) → clauses_from codes 0 ends ≡ cs → 1 ≤ number → number ≤ length cs →
    part ≡ slice_range codes (start_at 0 ends (number - 1)) (get_or ends (number - 1) 0) → slice_get cs (number - 1) ≡ Some (literals_of part)
clause_named codes ends part cs number is low high same =
    let long : length cs ≡ length ends = ap length (sym is) ∙ length-clauses_from codes 0 ends in
    let in' : number - 1 < length cs = omega arith in
    let there : get_or cs (number - 1) [] ≡ literals_of part =
    ap (λ (xs : List (List Lit)). get_or xs (number - 1) []) (sym is) ∙ (clause_at codes 0 ends (number - 1) 0 [] (omega arith) ∙ ap literals_of (sym same)) in
    slice_get-get_or cs (number - 1) [] in' ∙ ap Some there

-- what a store of a clause more is
pub stored_push : (codes more ends new_codes new_ends : List ℕ) (clause : List Lit) (n : ℕ) → EndsAt (length codes) 0 ends → new_codes ≡ codes ++ more → literals_of more ≡ clause → n ≡ length new_codes → new_ends ≡ ends ++ n ∷ [] →
    EndsAt (length new_codes) 0 new_ends × (clauses_from new_codes 0 new_ends ≡ clauses_from codes 0 ends ++ clause ∷ [])
stored_push codes more ends new_codes new_ends clause n was same lits is same_ends =
    let long : n ≡ length codes + length more = is ∙ (ap length same ∙ length-append codes more) in (
      rw (same_ends, ← is) (ends_push (length codes) 0 n ends was (omega arith)),
      ap (λ (xs : List ℕ). clauses_from xs 0 new_ends) same ∙ (ap (λ (es : List ℕ). clauses_from (codes ++ more) 0 es) same_ends ∙
          (clauses_push codes more 0 n ends long was ∙ ap (λ (c : List Lit). clauses_from codes 0 ends ++ c ∷ []) lits)),
    )

-- the first so many clauses, with the literals up to where the next one starts
range_cut : (xs : List ℕ) (a b s : ℕ) → a ≤ b → b ≤ s → slice_range (take s xs) a b ≡ slice_range xs a b
range_cut xs a b s up high =
    let whole : s ≡ a + (s - a) = omega arith in
    let front : drop a (take s xs) ≡ take (s - a) (drop a xs) = ap (λ (n : ℕ). drop a (take n xs)) whole ∙ drop-take a (s - a) xs in
    ap (take (b - a)) front ∙ take-take (b - a) (s - a) (drop a xs) (omega arith)

pub ends_cut : (whole start : ℕ) (ends : List ℕ) (n : ℕ) → EndsAt whole start ends → EndsAt (start_at start ends n) start (take n ends)
ends_cut whole start [] zero is = refl
ends_cut whole start [] (suc n) is = refl
ends_cut whole start (e ∷ es) zero is = refl
ends_cut whole start (e ∷ es) (suc n) (up, rest) = (up, ends_cut whole e es n rest)

pub clauses_cut : (codes : List ℕ) (s start : ℕ) (ends : List ℕ) (n : ℕ) → EndsAt s start (take n ends) → clauses_from (take s codes) start (take n ends) ≡ take n (clauses_from codes start ends)
clauses_cut codes s start [] zero is = refl
clauses_cut codes s start [] (suc n) is = refl
clauses_cut codes s start (e ∷ es) zero is = refl
clauses_cut codes s start (e ∷ es) (suc n) (up, rest) =
    let part : slice_range (take s codes) start e ≡ slice_range codes start e = range_cut codes start e s up (ends_high s e (take n es) rest) in
    ap (λ (xs : List ℕ). literals_of xs ∷ clauses_from (take s codes) e (take n es)) part ∙
    ap (λ (cs : List (List Lit)). literals_of (slice_range codes start e) ∷ cs) (clauses_cut codes s e es n rest)

-- what a store is without its last clause
pub stored_pop : (codes ends new_codes new_ends : List ℕ) → EndsAt (length codes) 0 ends → 0 < length ends → new_codes ≡ take (start_at 0 ends (length ends - 1)) codes → new_ends ≡ take (length ends - 1) ends →
    EndsAt (length new_codes) 0 new_ends × (clauses_from new_codes 0 new_ends ≡ take (length ends - 1) (clauses_from codes 0 ends))
stored_pop codes ends new_codes new_ends was some codes_are ends_are =
    let n : ℕ = length ends - 1 in
    let s : ℕ = start_at 0 ends n in
    let within = clause_within (length codes) 0 ends n 0 was (omega (arith, some)) in
    let cut : EndsAt s 0 (take n ends) = ends_cut (length codes) 0 ends n was in
    let short : length (take s codes) ≡ s = omega (arith, length-take s codes, within.0, within.1) in
    let is : EndsAt (length (take s codes)) 0 (take n ends) = subst (λ (k : ℕ). EndsAt k 0 (take n ends)) (sym short) cut in (
      rw (codes_are, ends_are) is,
      ap (λ (xs : List ℕ). clauses_from xs 0 new_ends) codes_are ∙ (ap (λ (es : List ℕ). clauses_from (take s codes) 0 es) ends_are ∙ clauses_cut codes s 0 ends n cut),
    )
