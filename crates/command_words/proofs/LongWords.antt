-- How `clap` reads a word where it has long options alone.
use Rattle.std.proofs.Common.{◌≡◌, ◌∙◌, ◌+◌, ◌⊎◌, ℕ, zero, suc, Bool, cond, not, true, false, ◌||◌, List, [], ◌∷◌, ◌++◌, length, take, drop, Option, Some, None, refl, sym, ap, ap₂, arith, eqb-true, is_some, inl, inr}
use Rattle.std.specs.Prelude.{encode_utf8, slice_get, option_and_then, ◌==◌}
use Rattle.std.specs.List.{fold, position_or_len, before_first, after_first}
use Rattle.std.specs.Option.{option_map_or}
use Rattle.std.specs.Str.{bytes_eq, chars}
use Rattle.clap.specs.Lexer.{has_byte, long_of, long_of_rest, name_and_value, short_of, strip_byte}
use Rattle.clap.specs.Kinds.{Kinds, or_else}
use Rattle.clap.specs.Walk.{Held, Names, Row, Rule, Step, Text, Waiting, Walk, after_flag, after_step, arg_by_index, arg_by_long, arg_by_short, bundle_met, bundle_step, idle, long_or_other, option, plain, plain_word, short_or_plain, subcommand_met, subcommand_or_other, takes_values, trailing, value, walked, word_met}
use Rattle.clap.specs.Simple.{Shape}
use Rattle.clap.specs.declared.error.kind.ErrorKind.TheVariants.{TooManyValues, UnknownArgument}
use Rattle.clap.specs.declared.error.kind.ErrorKind.{ErrorKind}
use Rattle.clap.specs.Faults.{bundle_fault, bundle_step_fault, flag_word_fault, flags_fault, long_fault, option_fault, other_fault, positional_fault, react_fault, settle_fault, short_fault, step_fault, stray_fault, turn_fault, walk_fault}

abbrev pub dashes : Text
dashes = 45 ∷ 45 ∷ []

-- no option has a short name
abbrev pub HasNoShort : Shape → Type 0
HasNoShort s = (x : ℕ) → arg_by_short s.rules x ≡ None

-- and no word goes by this place
pub record HasLongAlone (s : Shape) (place : ℕ) : Type 0 where
  pub no_short : HasNoShort s
  pub no_place : arg_by_index s.rules place ≡ None

abbrev pub held : List Row → Option (Text × List Text) → Held
held rows pending = record { rows = rows; pending = pending; skip = 0 }

-- where the next word that goes by its place has this one
abbrev pub walk_on : ℕ → List Row → Option (Text × List Text) → Waiting → Walk
walk_on place rows pending waiting = record { held = held rows pending; waiting = waiting; position = place; is_trailing = false; stopped = None }

abbrev pub walk_at : List Row → Option (Text × List Text) → Waiting → Walk
walk_at = walk_on 1

-- ---- faults

pub both_none : (a b : Kinds) → or_else a b ≡ [] → (a ≡ []) × (b ≡ [])
both_none [] b e = (refl, e)
both_none (k ∷ ks) b e = absurd (cc)

pub none_of_both : (a b : Kinds) → a ≡ [] → b ≡ [] → or_else a b ≡ []
none_of_both a b first second = ap (λ x. or_else x b) first ∙ second

some_kind : (k : ErrorKind) (ks : Kinds) → k ∷ ks ≡ [] → ⊥
some_kind k ks e = absurd (cc)

stray : (s : Shape) → stray_fault s ≡ [] → ⊥
stray s e = go s.is_leaf e
  where
    go : (b : Bool) → cond b (stray_fault (record s { is_leaf = true })) (stray_fault (record s { is_leaf = false })) ≡ [] → ⊥
    go true bad = absurd (cc)
    go false bad = absurd (cc)

-- a word that goes by its place is refused
pub placed : (s : Shape) (place : ℕ) (h : Held) → HasLongAlone s place → step_fault s place h value ≡ [] → ⊥
placed s place h long e =
    stray s (ap (λ o. option_map_or (λ a. positional_fault s.rules s.args_override_self a h) o (stray_fault s)) (sym long.no_place) ∙ e)

-- ---- words that are no long options

module _ (s : Shape) (no_short : HasNoShort s) (rows : List Row) (pending : Option (Text × List Text)) (waiting : Waiting) (word : Text) where
  first_flag : (k : ℕ) (flags : Text) (o : Option ℕ) → bundle_step_fault s.rules s.args_override_self o flags 0 (held rows pending) (flags_fault s.rules s.args_override_self k) ≡ []
      → after_flag s.rules waiting word (bundle_step s.rules o flags 0 plain (held rows pending) (bundle_met s.rules k)).0 (bundle_step s.rules o flags 0 plain (held rows pending) (bundle_met s.rules k)).1
      ≡ plain_word s.rules waiting word (held rows pending)
  first_flag k flags None e = refl
  first_flag k flags (Some x) e =
      let rest = drop (length (encode_utf8 x)) flags in
      let refused : UnknownArgument ∷ [] ≡ [] =
      ap (λ o. short_fault s.rules s.args_override_self o rest (held rows pending) (flags_fault s.rules s.args_override_self k rest 0)) (sym (no_short x)) ∙ e in
      absurd (some_kind UnknownArgument [] refused)

  flags_plain : (k : ℕ) (flags : Text) → flags_fault s.rules s.args_override_self k flags 0 (held rows pending) ≡ []
      → after_flag s.rules waiting word (bundle_met s.rules k flags 0 plain (held rows pending)).0 (bundle_met s.rules k flags 0 plain (held rows pending)).1
      ≡ plain_word s.rules waiting word (held rows pending)
  unfolding flags_fault bundle_met
  flags_plain zero flags e = refl
  flags_plain (suc k) flags e = first_flag k flags (slice_get (chars flags) 0) e

  -- a word with no fault that is no long option is a plain one
  pub read_plain : (o : Option Text) → option_map_or (λ flags. bundle_fault s.rules s.args_override_self flags (held rows pending)) o [] ≡ []
      → short_or_plain s.rules waiting word o (held rows pending) ≡ plain_word s.rules waiting word (held rows pending)
  read_plain None e = refl
  read_plain (Some flags) e = flags_plain (length flags) flags e

-- ---- what a word comes to, by its reading as a long option

module _ (s : Shape) (names : Names) (place : ℕ) (rows : List Row) (pending : Option (Text × List Text)) (waiting : Waiting) (word : Text) where
  abbrev step_with : Option Text → Held × Step
  step_with o = subcommand_or_other s.rules o waiting place word (held rows pending)

  abbrev step_unless : Bool → Held × Step
  step_unless b = cond b (held rows pending, trailing place) (long_or_other s.rules waiting word (long_of word) (held rows pending))

  abbrev fault_unless : Bool → Kinds
  fault_unless b = cond b [] (flag_word_fault s.rules s.args_override_self (long_of word) word (held rows pending))

  pub met_is : subcommand_met names waiting word ≡ None → bytes_eq word dashes ≡ false
      → word_met s.rules names false waiting place word (held rows pending) ≡ long_or_other s.rules waiting word (long_of word) (held rows pending)
  met_is none safe = ap step_with none ∙ ap step_unless safe

  pub turn_is : subcommand_met names waiting word ≡ None → bytes_eq word dashes ≡ false
      → turn_fault s names (walk_on place rows pending waiting) word
      ≡ or_else (flag_word_fault s.rules s.args_override_self (long_of word) word (held rows pending))
      (step_fault s place (long_or_other s.rules waiting word (long_of word) (held rows pending)).0 (long_or_other s.rules waiting word (long_of word) (held rows pending)).1)
  turn_is none safe =
      ap (λ o. or_else (other_fault s o word (held rows pending)) (step_fault s place (step_with o).0 (step_with o).1)) none
      ∙ ap (λ b. or_else (fault_unless b) (step_fault s place (step_unless b).0 (step_unless b).1)) safe

  pub walked_is : (h : Held) (step : Step) → word_met s.rules names false waiting place word (held rows pending) ≡ (h, step)
      → walked s.rules names (walk_on place rows pending waiting) word ≡ after_step s.rules word (walk_on place rows pending waiting) h step
  unfolding walked
  walked_is h step met = ap (λ (m : Held × Step). after_step s.rules word (walk_on place rows pending waiting) m.0 m.1) met

-- where nothing waits, a word with no fault is a long option that there is
pub record IsLong (s : Shape) (word : Text) : Type 0 where
  pub name : Text
  pub given : Option Text
  pub rule : Rule
  pub reads : long_of word ≡ Some (name, given)
  pub found : arg_by_long s.rules name ≡ Some rule

-- where nothing waits, a word with no fault is such an option, or goes by its place
abbrev pub GoesByPlace : Shape → ℕ → List Row → Option (Text × List Text) → Text → Type 0
GoesByPlace s place rows pending word =
    (long_of word ≡ None) × (long_or_other s.rules idle word (long_of word) (held rows pending) ≡ (held rows pending, value)) × (step_fault s place (held rows pending) value ≡ [])

module _ (s : Shape) (names : Names) (no_short : HasNoShort s) (place : ℕ) (rows : List Row) (pending : Option (Text × List Text)) (word : Text) where
  abbrev idle_step : Option (Text × Option Text) → Held × Step
  idle_step o = long_or_other s.rules idle word o (held rows pending)

  abbrev idle_fault : Option (Text × Option Text) → Kinds
  idle_fault o = or_else (flag_word_fault s.rules s.args_override_self o word (held rows pending)) (step_fault s place (idle_step o).0 (idle_step o).1)

  abbrev named_fault : Option Text → Option Rule → Kinds
  named_fault v o = long_fault s.rules s.args_override_self o v (held rows pending)

  by_place : long_of word ≡ None → idle_fault None ≡ [] → GoesByPlace s place rows pending word
  by_place is e =
      let parts = both_none _ _ e in
      let as_plain = read_plain s no_short rows pending idle word (short_of word) parts.0 in
      (is, ap idle_step is ∙ as_plain, ap (λ (m : Held × Step). step_fault s place m.0 m.1) (sym as_plain) ∙ parts.1)

  found_rule : (q : Text × Option Text) → long_of word ≡ Some q → named_fault q.1 (arg_by_long s.rules q.0) ≡ [] → (o : Option Rule) → arg_by_long s.rules q.0 ≡ o → IsLong s word
  found_rule q is e None none = let bad = ap (named_fault q.1) (sym none) ∙ e in absurd (cc)
  found_rule q is e (Some a) found = record { name = q.0; given = q.1; rule = a; reads = is; found = found }

  read_idle : (o : Option (Text × Option Text)) → long_of word ≡ o → idle_fault o ≡ [] → IsLong s word ⊎ GoesByPlace s place rows pending word
  read_idle None is e = inr (by_place is e)
  read_idle (Some q) is e = inl (found_rule q is (both_none _ _ e).0 (arg_by_long s.rules q.0) refl)

  pub idle_word : subcommand_met names idle word ≡ None → bytes_eq word dashes ≡ false → turn_fault s names (walk_on place rows pending idle) word ≡ [] → IsLong s word ⊎ GoesByPlace s place rows pending word
  idle_word none safe e = read_idle (long_of word) refl (sym (turn_is s names place rows pending idle word none safe) ∙ e)

-- where there is no such place, it is such an option
pub idle_turn : (s : Shape) (names : Names) (place : ℕ) (long : HasLongAlone s place) (rows : List Row) (pending : Option (Text × List Text)) (word : Text)
    → subcommand_met names idle word ≡ None → bytes_eq word dashes ≡ false → turn_fault s names (walk_on place rows pending idle) word ≡ [] → IsLong s word
idle_turn s names place long rows pending word none safe e =
    elim (idle_word s names long.no_short place rows pending word none safe e) [
      | inl is ↦ is
      | inr goes ↦ absurd (placed s place (held rows pending) long goes.2)
    ]

-- where a value is wanted, a word with no fault is that value
module _ (s : Shape) (no_short : HasNoShort s) (place : ℕ) (rows : List Row) (id word : Text) where
  abbrev wanting : Option (Text × List Text)
  wanting = Some (id, [])

  abbrev long_kinds : Option Text → Option Rule → Kinds
  long_kinds v o = long_fault s.rules s.args_override_self o v (held rows wanting)

  module _ (wants : settle_fault s.rules s.args_override_self (held rows wanting) ≡ [] → ⊥) where
    no_long : (v : Option Text) (o : Option Rule) → long_kinds v o ≡ [] → ⊥
    no_long v None e = absurd (cc)
    no_long v (Some a) e = go v (takes_values a) e
      where
        go : (v : Option Text) (b : Bool)
            → cond b (option_fault s.rules s.args_override_self a v (held rows wanting)) (cond (is_some v) (TooManyValues ∷ []) (react_fault s.rules s.args_override_self a [] (held rows wanting))) ≡ []
            → ⊥
        go None true e = wants e
        go None false e = wants (both_none _ _ e).0
        go (Some x) true e = wants (both_none _ _ e).0
        go (Some x) false e = absurd (cc)

    abbrev wanting_fault : Option (Text × Option Text) → Kinds
    wanting_fault o =
        or_else (flag_word_fault s.rules s.args_override_self o word (held rows wanting))
        (step_fault s place (long_or_other s.rules (option id) word o (held rows wanting)).0 (long_or_other s.rules (option id) word o (held rows wanting)).1)

    as_value : (o : Option (Text × Option Text)) → wanting_fault o ≡ [] → long_or_other s.rules (option id) word o (held rows wanting) ≡ plain_word s.rules (option id) word (held rows wanting)
    as_value None e = read_plain s no_short rows wanting (option id) word (short_of word) (both_none _ _ e).0
    as_value (Some q) e = absurd (no_long q.1 (arg_by_long s.rules q.0) (both_none _ _ e).0)

    pub wanting_turn : bytes_eq word dashes ≡ false → turn_fault s [] (walk_on place rows wanting (option id)) word ≡ []
        → word_met s.rules [] false (option id) place word (held rows wanting) ≡ plain_word s.rules (option id) word (held rows wanting)
    wanting_turn safe e =
        met_is s [] place rows wanting (option id) word refl safe
        ∙ as_value (long_of word) (sym (turn_is s [] place rows wanting (option id) word refl safe) ∙ e)

-- ---- the words of a command, from where the walk stands

module _ (s : Shape) where
  abbrev pub held_after : Walk → List Text → Held
  held_after w words = (fold (walked s.rules []) w words).held

  -- the faults of the walk, and of what waits at its end
  abbrev pub kinds_from : Walk → List Text → Kinds
  kinds_from w words = or_else (walk_fault s [] w words) (settle_fault s.rules false (held_after w words))

  pub record Stepped (w : Walk) (word : Text) (rest : List Text) : Type 0 where
    pub turn : turn_fault s [] w word ≡ []
    pub more : kinds_from (walked s.rules [] w word) rest ≡ []

  pub one_step : (w : Walk) (word : Text) (rest : List Text) → kinds_from w (word ∷ rest) ≡ [] → Stepped w word rest
  unfolding walk_fault
  one_step w word rest e =
      let outer = both_none _ _ e in
      let inner = both_none _ _ outer.0 in
      record { turn = inner.0; more = none_of_both _ _ inner.1 outer.1 }

  pub step_back : (w : Walk) (word : Text) (rest : List Text) → Stepped w word rest → kinds_from w (word ∷ rest) ≡ []
  unfolding walk_fault
  step_back w word rest s =
      let parts = both_none _ _ s.more in
      none_of_both _ _ (none_of_both _ _ s.turn parts.0) parts.1

-- ---- the word of a long option

stripped : (c : ℕ) (w rest : Text) → strip_byte c w ≡ Some rest → w ≡ c ∷ rest
stripped c [] rest e = absurd (cc)
stripped c (x ∷ xs) rest e = go (x == c) refl e
  where
    go : (b : Bool) → (x == c) ≡ b → cond b (Some xs) None ≡ Some rest → x ∷ xs ≡ c ∷ rest
    go true t e = let same : x ≡ c = eqb-true x c t in let tail : xs ≡ rest = cc in ap₂ (λ (y : ℕ) (ys : Text). y ∷ ys) same tail
    go false t e = absurd (cc)

-- an option's value stands behind `=`
abbrev pub behind : Option Text → Text
behind None = []
behind (Some v) = 61 ∷ v

abbrev is_equals : ℕ → Bool
is_equals x = x == 61

abbrev behind_if : Bool → Text → Text
behind_if b t = cond b (61 ∷ t) []

rejoined : (w : Text) → w ≡ before_first is_equals w ++ behind_if (has_byte 61 w) (after_first is_equals w)
rejoined [] = refl
rejoined (x ∷ xs) = go (x == 61) refl (rejoined xs)
  where
    go : (b : Bool) → (x == 61) ≡ b → xs ≡ before_first is_equals xs ++ behind_if (has_byte 61 xs) (after_first is_equals xs)
        → x ∷ xs ≡ take (cond (not b) (1 + position_or_len is_equals xs) 0) (x ∷ xs) ++ behind_if (b || has_byte 61 xs) (drop (cond (not b) (1 + position_or_len is_equals xs) 0 + 1) (x ∷ xs))
    go true t ih = ap (λ y. y ∷ xs) (eqb-true x 61 t)
    go false t ih =
        let n = position_or_len is_equals xs in
        let one : suc n ≡ 1 + n = omega arith in
        let two : suc (n + 1) ≡ 1 + n + 1 = omega arith in
        ap (λ ys. x ∷ ys) ih ∙ ap₂ (λ (i j : ℕ). take i (x ∷ xs) ++ behind_if (has_byte 61 xs) (drop j (x ∷ xs))) one two

pub joined_again : (w : Text) → w ≡ (name_and_value w).0 ++ behind (name_and_value w).1
joined_again w = rejoined w ∙ go (has_byte 61 w)
  where
    go : (b : Bool) → before_first is_equals w ++ behind_if b (after_first is_equals w) ≡ before_first is_equals w ++ behind (cond b (Some (after_first is_equals w)) None)
    go true = refl
    go false = refl

pub long_word_is : (word : Text) (q : Text × Option Text) → long_of word ≡ Some q → word ≡ 45 ∷ 45 ∷ (q.0 ++ behind q.1)
long_word_is word q e = first (strip_byte 45 word) refl e
  where
    rest : (w : Text) → long_of_rest w ≡ Some q → w ≡ q.0 ++ behind q.1
    rest [] e = absurd (cc)
    rest (x ∷ xs) e =
        let same : name_and_value (x ∷ xs) ≡ q = cc in
        joined_again (x ∷ xs) ∙ ap (λ (r : Text × Option Text). r.0 ++ behind r.1) same

    second : (w : Text) (o : Option Text) → strip_byte 45 w ≡ o → option_and_then long_of_rest o ≡ Some q → w ≡ 45 ∷ (q.0 ++ behind q.1)
    second w None is e = absurd (cc)
    second w (Some v) is e = stripped 45 w v is ∙ ap (λ ys. 45 ∷ ys) (rest v e)

    first : (o : Option Text) → strip_byte 45 word ≡ o → option_and_then long_of_rest (option_and_then (strip_byte 45) o) ≡ Some q → word ≡ 45 ∷ 45 ∷ (q.0 ++ behind q.1)
    first None is e = absurd (cc)
    first (Some w) is e = stripped 45 word w is ∙ ap (λ ys. 45 ∷ ys) (second w (strip_byte 45 w) refl e)
