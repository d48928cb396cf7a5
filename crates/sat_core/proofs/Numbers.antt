-- The numbers of an answer.
use Rattle.std.proofs.Common.{◌≡◌, ◌<◌, ◌≤◌, ◌+◌, ◌-◌, ◌^◌, ◌++◌, [], ◌∷◌, ℕ, zero, suc, Bool, Option, Some, None, List, length, get_or, take, map, All, arith, sym, ◌∙◌, ap, inl, inr, refl, subst, zero-add, lt-ltb, le-ltb, append_assoc, length-append}
use Rattle.std.proofs.lemmas.Bool.{cases_lt}
use Rattle.std.proofs.lemmas.Option.{slice_get-get_or, slice_get_cases}
use Rattle.std.proofs.lemmas.List.{take_more, get_or_append_left, get_or_push}
use Rattle.std.proofs.lemmas.List.Elements.{All-push, All-more, All-weaker, Contains-append_left, Contains-push, Contains-push_cases}
use Rattle.std.specs.Prelude.{max, if◌then◌else◌}
use Rattle.std.specs.List.{Contains, slice_get}
use Rattle.std.specs.Option.{option_map_or}
use Rattle.cnf_core.specs.declared.literal.Lit.{Lit}
use Rattle.cnf_core.specs.Literal.{IsVariable}
use Rattle.refutation_check.specs.declared.log.Step.{Step}
use Rattle.refutation_check.specs.Chain.{Names, IsChain, members_of}
use Rattle.refutation_check.proofs.Chains.{names_one}
use Rattle.sat_trail.proofs.Learned.{named_in}
use Rattle.sat_trail.proofs.Waiting.{chain_named}
use Rattle.sat_core.specs.Answers.{NamesUnit}
use Rattle.sat_core.specs.Assuming.{IsSplit, number_of}

pub get_after : {X : Type 0} (xs ys : List X) (k : ℕ) → slice_get (xs ++ ys) (length xs + k) ≡ slice_get ys k
get_after [] ys k = rw (zero-add k) refl
get_after (x ∷ xs) ys k = let e : length (x ∷ xs) + k ≡ suc (length xs + k) = omega arith in rw e (get_after xs ys k)

pub get_before : {X : Type 0} (xs ys : List X) (k : ℕ) → k < length xs → slice_get (xs ++ ys) k ≡ slice_get xs k
get_before [] ys k h = absurd (omega arith)
get_before (x ∷ xs) ys zero h = refl
get_before (x ∷ xs) ys (suc k) h = get_before xs ys k (omega arith)

pub names_more : (members more : List (List Lit)) (n : ℕ) (c : List Lit) → Names members n c → Names (members ++ more) n c
names_more members more n c named =
    let low : n ≤ length members = named_in members n c named in
    (named.0, get_before members more (n - 1) (omega (arith, named.0)) ∙ named.1)

-- a hint of a chain names a member
pub chain_within : (members : List (List Lit)) (clause : List Lit) (hints : List ℕ) → IsChain members clause hints → All (λ hint. hint ≤ length members) hints
chain_within members clause hints chain = All-weaker (λ hint. (1 ≤ hint) × (hint ≤ length members)) (λ hint. hint ≤ length members) (λ hint both. both.1) hints (chain_named members clause hints chain)

-- the place of each of the others is one among the local clauses
pub places_within : (local : List (List Lit)) (assumed : List Lit) (others : List (List Lit)) (places : List ℕ) → IsSplit local assumed others places → All (λ place. place ≤ length local) places
places_within local assumed others places s k d h = named_in local (get_or places k d) (get_or others k []) (s.named k d [] (omega (arith, s.as_many)))

module _ (clauses : ℕ) (local : ℕ) (places : List ℕ) (hint : ℕ) where
  abbrev further : Option ℕ → ℕ
  further o = option_map_or (λ place. clauses + place) o ((hint - length places) + local)

  pub number_low : hint ≤ clauses → number_of clauses local places hint ≡ hint
  number_low low = ap (λ (b : Bool). if b then further (slice_get places (hint - clauses - 1)) else hint) (le-ltb clauses hint low)

  number_high : clauses < hint → number_of clauses local places hint ≡ further (slice_get places (hint - clauses - 1))
  number_high high = ap (λ (b : Bool). if b then further (slice_get places (hint - clauses - 1)) else hint) (lt-ltb clauses hint high)

  pub number_local : (place : ℕ) → clauses < hint → slice_get places (hint - clauses - 1) ≡ Some place → number_of clauses local places hint ≡ clauses + place
  number_local place high is = number_high high ∙ ap further is

  pub number_later : clauses < hint → slice_get places (hint - clauses - 1) ≡ None → number_of clauses local places hint ≡ (hint - length places) + local
  number_later high is = number_high high ∙ ap further is

module _ (formula local : List (List Lit)) (assumed : List Lit) (others : List (List Lit)) (places : List ℕ) (s : IsSplit local assumed others places) where
  -- a member of the trail has its number in an answer
  names_number : (rest : List (List Lit)) (hint : ℕ) (c : List Lit) → Names ((formula ++ others) ++ rest) hint c → Names ((formula ++ local) ++ rest) (number_of (length formula) (length local) places hint) c
  names_number rest hint c named =
      elim (cases_lt (length formula) hint) [
        | inr low ↦
            let within : hint - 1 < length formula = omega (arith, named.0) in
            let first : hint - 1 < length (formula ++ others) = omega (arith, named.0, length-append formula others) in
            let second : hint - 1 < length (formula ++ local) = omega (arith, named.0, length-append formula local) in
            let there : slice_get formula (hint - 1) ≡ Some c = sym (get_before formula others (hint - 1) within) ∙ (sym (get_before (formula ++ others) rest (hint - 1) first) ∙ named.1) in
            rw (number_low (length formula) (length local) places hint low) ((named.0, get_before (formula ++ local) rest (hint - 1) second ∙ (get_before formula local (hint - 1) within ∙ there)))
        | inl high ↦
            let place : ℕ = hint - length formula - 1 in
            let old : hint - 1 ≡ length formula + place = omega arith in
            elim (slice_get_cases places place).1 [
              | inl (p, in', is, at) ↦
                  let within : place < length others = omega (arith, s.as_many) in
                  let first : length formula + place < length (formula ++ others) = omega (arith, within, length-append formula others) in
                  let there : slice_get others place ≡ Some c = sym (get_after formula others place) ∙ (sym (get_before (formula ++ others) rest (length formula + place) first) ∙ (ap (slice_get ((formula ++ others) ++ rest)) (sym old) ∙ named.1)) in
                  let read : get_or others place c ≡ c = let e : Some (get_or others place c) ≡ Some c = sym (slice_get-get_or others place c within) ∙ there in cc in
                  let named' : Names local p c = subst (λ (n : ℕ). Names local n c) at (subst (Names local (get_or places place p)) read (s.named place p c within)) in
                  let low : p ≤ length local = named_in local p c named' in
                  let new : length formula + p - 1 ≡ length formula + (p - 1) = omega (arith, named'.0) in
                  let second : length formula + (p - 1) < length (formula ++ local) = omega (arith, low, named'.0, length-append formula local) in
                  rw (number_local (length formula) (length local) places hint p high is) ((
                    omega (arith, named'.0),
                    ap (slice_get ((formula ++ local) ++ rest)) new ∙ (get_before (formula ++ local) rest (length formula + (p - 1)) second ∙ (get_after formula local (p - 1) ∙ named'.1)),
                  ))
              | inr (past, is) ↦
                  let further : ℕ = place - length places in
                  let last : hint - 1 ≡ length (formula ++ others) + further = omega (arith, past, s.as_many, length-append formula others) in
                  let there : slice_get rest further ≡ Some c = sym (get_after (formula ++ others) rest further) ∙ (ap (slice_get ((formula ++ others) ++ rest)) (sym last) ∙ named.1) in
                  let new : (hint - length places) + length local - 1 ≡ length (formula ++ local) + further = omega (arith, past, length-append formula local) in
                  rw (number_later (length formula) (length local) places hint high is) ((omega (arith, past), ap (slice_get ((formula ++ local) ++ rest)) new ∙ (get_after (formula ++ local) rest further ∙ there)))
            ]
      ]

  pub members_number : (pool log : List Step) (hint : ℕ) (c : List Lit) → Names (members_of (members_of (formula ++ others) pool) log) hint c → Names (members_of (members_of (formula ++ local) pool) log) (number_of (length formula) (length local) places hint) c
  members_number pool log hint c named =
      let rest : List (List Lit) = map (λ (s : Step). s.clause) pool ++ map (λ (s : Step). s.clause) log in
      let before : members_of (members_of (formula ++ others) pool) log ≡ (formula ++ others) ++ rest = append_assoc (formula ++ others) (map (λ (s : Step). s.clause) pool) (map (λ (s : Step). s.clause) log) in
      let after : members_of (members_of (formula ++ local) pool) log ≡ (formula ++ local) ++ rest = append_assoc (formula ++ local) (map (λ (s : Step). s.clause) pool) (map (λ (s : Step). s.clause) log) in
      subst (λ (cs : List (List Lit)). Names cs (number_of (length formula) (length local) places hint) c) (sym after) (names_number rest hint c (subst (λ (cs : List (List Lit)). Names cs hint c) before named))

  -- no member of the trail is a local clause of one literal
  pub number_no_unit : (hint : ℕ) → NamesUnit (length formula) local (number_of (length formula) (length local) places hint) → ⊥
  number_no_unit hint unit =
      elim (cases_lt (length formula) hint) [
        | inr low ↦ let is = number_low (length formula) (length local) places hint low in let above = unit.after in absurd (omega arith)
        | inl high ↦
            let place : ℕ = hint - length formula - 1 in
            elim (slice_get_cases places place).1 [
              | inl (p, in', is, at) ↦
                  let within : place < length others = omega (arith, s.as_many) in
                  let back : number_of (length formula) (length local) places hint - length formula ≡ p = omega (arith, number_local (length formula) (length local) places hint p high is) in
                  let one : Names local p (unit.literal ∷ []) = subst (λ (n : ℕ). Names local n (unit.literal ∷ [])) back unit.named in
                  let other : Names local p (get_or others place []) = subst (λ (n : ℕ). Names local n (get_or others place [])) at (s.named place p [] within) in
                  s.longer place [] within unit.literal (names_one local p (get_or others place []) (unit.literal ∷ []) other one)
              | inr (past, is) ↦
                  let few : number_of (length formula) (length local) places hint - length formula ≤ length local = named_in local _ (unit.literal ∷ []) unit.named in
                  absurd (omega (arith, past, few, number_later (length formula) (length local) places hint high is))
            ]
      ]

module _ (local : List (List Lit)) (assumed : List Lit) (others : List (List Lit)) (places : List ℕ) (s : IsSplit local assumed others places) where
  -- one more local clause of one literal
  pub split_unit : (l : Lit) → IsSplit (local ++ (l ∷ []) ∷ []) (assumed ++ l ∷ []) others places
  split_unit l =
      record {
        units = λ x h. elim (Contains-push_cases assumed l x h) [
          | inl old ↦ Contains-append_left local ((l ∷ []) ∷ []) (x ∷ []) (s.units x old)
          | inr one ↦ subst (λ (y : Lit). Contains (local ++ (l ∷ []) ∷ []) (y ∷ [])) one (Contains-push local (l ∷ []))
        ];
        each = λ c h. elim (Contains-push_cases local (l ∷ []) c h) [
          | inl old ↦ elim (s.each c old) [ inl there ↦ inl there | inr (x, is, a) ↦ inr (x, is, Contains-append_left assumed (l ∷ []) x a) ]
          | inr one ↦ inr (l, sym one, Contains-push assumed l)
        ];
        as_many = s.as_many;
        few = omega (arith, s.few, length-append local ((l ∷ []) ∷ []));
        named = λ i d e h. names_more local ((l ∷ []) ∷ []) (get_or places i d) (get_or others i e) (s.named i d e h);
        longer = s.longer;
      }

  -- one more of the others
  pub split_other : (c : List Lit) → ((l : Lit) → c ≡ l ∷ [] → ⊥) → IsSplit (local ++ c ∷ []) assumed (others ++ c ∷ []) (places ++ (length local + 1) ∷ [])
  split_other c longer =
      record {
        units = λ x h. Contains-append_left local (c ∷ []) (x ∷ []) (s.units x h);
        each = λ x h. elim (Contains-push_cases local c x h) [
          | inl old ↦ elim (s.each x old) [ inl there ↦ inl (Contains-append_left others (c ∷ []) x there) | inr unit ↦ inr unit ]
          | inr one ↦ inl (subst (Contains (others ++ c ∷ [])) one (Contains-push others c))
        ];
        as_many = omega (arith, s.as_many, length-append places ((length local + 1) ∷ []), length-append others (c ∷ []));
        few = omega (arith, s.few, length-append local (c ∷ []), length-append others (c ∷ []));
        named = λ i d e h. elim (cases_lt i (length others)) [
          | inl lt ↦
              let in' : i < length places = omega (arith, s.as_many) in
              rw (get_or_append_left places ((length local + 1) ∷ []) d i in', get_or_append_left others (c ∷ []) e i lt) (names_more local (c ∷ []) (get_or places i d) (get_or others i e) (s.named i d e lt))
          | inr ge ↦
              let is : i ≡ length others = omega (arith, length-append others (c ∷ [])) in
              let at : i ≡ length places = omega (arith, is, s.as_many) in
              rw (get_or_push places (length local + 1) d i (sym at), get_or_push others c e i (sym is)) ((
                omega arith,
                let back : length local + 1 - 1 ≡ length local = omega arith in
                    ap (slice_get (local ++ c ∷ [])) back ∙ (slice_get-get_or (local ++ c ∷ []) (length local) c (omega (arith, length-append local (c ∷ []))) ∙ ap Some (get_or_push local c c (length local) refl)),
              ))
        ];
        longer = All-push (λ x. (l : Lit) → x ≡ l ∷ [] → ⊥) others c s.longer longer;
      }

-- the first clauses with one more
pub taken : (cs : List (List Lit)) (i : ℕ) (c : List Lit) → slice_get cs (i + 1 - 1) ≡ Some c → take (i + 1) cs ≡ take i cs ++ c ∷ []
taken cs i c is =
    let back : i + 1 - 1 ≡ i = omega arith in
    elim (slice_get_cases cs i).1 [
      | inl (x, in', read, at) ↦
          let e : Some x ≡ Some c = sym read ∙ (ap (slice_get cs) (sym back) ∙ is) in
          let same : x ≡ c = cc in
          take_more cs i x in' ∙ ap (λ (y : List Lit). take i cs ++ y ∷ []) (at ∙ same)
      | inr (past, none) ↦ let e : None ≡ Some c = sym none ∙ (ap (slice_get cs) (sym back) ∙ is) in absurd cc
    ]

one_first : (lits : List Lit) (d : Lit) → length lits ≡ 1 → lits ≡ get_or lits 0 d ∷ []
one_first [] d h = absurd (omega arith)
one_first (x ∷ []) d h = refl
one_first (x ∷ (y ∷ rest)) d h = absurd (omega arith)

module _ (local : List (List Lit)) (assumed : List Lit) (others : List (List Lit)) (places : List ℕ) (s : IsSplit local assumed others places) (clause lits : List Lit) where
  pub put_unit : (d : Lit) (after : List Lit) → lits ≡ clause → length lits ≡ 1 → after ≡ assumed ++ get_or lits 0 d ∷ [] → IsSplit (local ++ clause ∷ []) after others places
  put_unit d after same one added =
      let is : get_or lits 0 d ∷ [] ≡ clause = sym (one_first lits d one) ∙ same in
      subst (λ (ls : List Lit). IsSplit (local ++ clause ∷ []) ls others places) (sym added)
      (subst (λ (c : List Lit). IsSplit (local ++ c ∷ []) (assumed ++ get_or lits 0 d ∷ []) others places) is (split_unit local assumed others places s (get_or lits 0 d)))

  pub put_other : (place : ℕ) (copy : List Lit) (more : List (List Lit)) (later : List ℕ) → lits ≡ clause → (length lits ≡ 1 → ⊥) → length local ≡ place → copy ≡ clause → more ≡ others ++ copy ∷ [] → later ≡ places ++ (place + 1) ∷ [] → IsSplit (local ++ clause ∷ []) assumed more later
  put_other place copy more later same differ long copied added at =
      let longer : (l : Lit) → clause ≡ l ∷ [] → ⊥ = λ l e. differ (ap length (same ∙ e)) in
      subst (λ (ps : List ℕ). IsSplit (local ++ clause ∷ []) assumed more ps) (sym (at ∙ ap (λ (n : ℕ). places ++ (n + 1) ∷ []) (sym long)))
      (subst (λ (os : List (List Lit)). IsSplit (local ++ clause ∷ []) assumed os (places ++ (length local + 1) ∷ [])) (sym (added ∙ ap (λ (c : List Lit). others ++ c ∷ []) copied)) (split_other local assumed others places s clause longer))

-- one more literal, and the highest variable
module _ (lits : List Lit) (i : ℕ) (d : Lit) (old new : ℕ) (h : i < length lits) where
  pub highest_more : All (λ x. x.var ≤ old) (take i lits) → new ≡ max old (get_or lits i d).var → All (λ x. x.var ≤ new) (take (i + 1) lits)
  highest_more was is =
      All-more (λ (x : Lit). x.var ≤ new) lits i d h (All-weaker (λ (x : Lit). x.var ≤ old) (λ (x : Lit). x.var ≤ new) (λ x low. omega arith) (take i lits) was) (omega arith)

  pub highest_small : All (λ x. IsVariable x.var) lits → old < 2 ^ 31 → new ≡ max old (get_or lits i d).var → new < 2 ^ 31
  highest_small variables low is = let here = variables i d h in omega (arith, here.1, low, is)
