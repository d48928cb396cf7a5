-- How `clap` reads the words behind `load`: its number, which goes by its place, and the option of the workers.
use Rattle.std.proofs.Common.{◌≡◌, ◌∙◌, ◌&&◌, ◌||◌, ℕ, Bool, cond, true, false, List, [], ◌∷◌, ◌++◌, codes, Option, Some, None, refl, sym, ap, subst, inl, inr}
use Rattle.std.specs.Option.{option_map_or}
use Rattle.std.specs.Str.{bytes_eq}
use Rattle.std.proofs.lemmas.Slice.Eq.{bytes_eq-Decides}
use Rattle.clap.specs.Kinds.{Kinds, or_else}
use Rattle.clap.specs.Walk.{Held, Row, Rule, Text, Waiting, Walk, Step, arg_by_long, idle, is_pending, long_or_other, option, plain_word, pushed, settled, settled_rows, short_or_plain, subcommand_met, used, value, walked, word_met}
use Rattle.clap.specs.Simple.{Shape, built_leaf, filled, inherited, with_index}
use Rattle.clap.specs.Faults.{bundle_fault, flag_word_fault, settle_fault, step_fault, turn_fault, use_fault, walk_fault}
use Rattle.command_words.specs.Program.{load_command, load_number}
use Rattle.command_words.proofs.LongWords.{GoesByPlace, HasLongAlone, HasNoShort, IsLong, both_none, behind, held, held_after, idle_word, kinds_from, long_word_is, met_is, none_of_both, one_step, placed, step_back, turn_is, walk_on, walked_is, wanting_turn}
use Rattle.command_words.proofs.Options.{IsPlain, first_safe, has_dashes, option_of, others_safe, spelled, top}

abbrev pub load_shape : Shape
load_shape = built_leaf (inherited top load_command.top)

abbrev pub load_rules : List Rule
load_rules = load_shape.rules

-- ---- a part of the words: the option of the workers, or the number

pub record Part : Type 0 where
  pub is_option : Bool
  pub joined : Bool
  pub value : Text

abbrev pub label_of : Bool → Text
label_of true = codes "workers"
label_of false = codes "number"

abbrev pub rule_of_part : Bool → Rule
rule_of_part true = option_of true
rule_of_part false = with_index 1 (filled load_number)

abbrev pub option_words : Bool → Text → List Text
option_words joined v = cond joined (spelled true (Some v) ∷ []) (spelled true None ∷ v ∷ [])

abbrev pub part_words : Part → List Text
part_words p = cond p.is_option (option_words p.joined p.value) (p.value ∷ [])

abbrev pub all_words : List Part → List Text
all_words [] = []
all_words (p ∷ ps) = part_words p ++ all_words ps

abbrev pub part_rows : Bool → Text → List Row → List Row
part_rows a v rows = used (rule_of_part a) (v ∷ []) rows

abbrev pub part_kinds : Bool → Text → List Row → Kinds
part_kinds a v rows = use_fault false (rule_of_part a) (v ∷ []) rows

abbrev pub parts_rows : List Row → List Part → List Row
parts_rows rows [] = rows
parts_rows rows (p ∷ ps) = parts_rows (part_rows p.is_option p.value rows) ps

-- each part passes where those before it came
abbrev pub PartsPass : List Row → List Part → Type 0
PartsPass rows [] = Unit {0}
PartsPass rows (p ∷ ps) = (part_kinds p.is_option p.value rows ≡ []) × PartsPass (part_rows p.is_option p.value rows) ps

abbrev pub AllPlainParts : List Part → Type 0
AllPlainParts [] = Unit {0}
AllPlainParts (p ∷ ps) = IsPlain p.value × AllPlainParts ps

abbrev settled_at : List Row → Option (Text × List Text) → List Row
settled_at rows pending = settled_rows load_rules pending rows

abbrev settle_kinds : List Row → Option (Text × List Text) → Kinds
settle_kinds rows pending = settle_fault load_rules false (held rows pending)

settle_one : (a : Bool) (v : Text) (rows : List Row) → settle_kinds rows (Some (label_of a, v ∷ [])) ≡ part_kinds a v rows
settle_one true v rows = refl
settle_one false v rows = refl

settled_one : (a : Bool) (v : Text) (rows : List Row) → settled_at rows (Some (label_of a, v ∷ [])) ≡ part_rows a v rows
settled_one true v rows = refl
settled_one false v rows = refl

-- the option without its value is refused
wants_value : (rows : List Row) → settle_kinds rows (Some (label_of true, [])) ≡ [] → ⊥
wants_value rows e = absurd (cc)

abbrev pub load_end : Walk → List Text → List Row
load_end w words = settled_at (held_after load_shape w words).rows (held_after load_shape w words).pending

-- ---- where the walk stands: the number is still to come, or was met

abbrev pub place_of : Bool → ℕ
place_of false = 1
place_of true = 2

no_short : HasNoShort load_shape
no_short x = refl

one_place : HasLongAlone load_shape 2
one_place = record { no_short = no_short; no_place = refl }

abbrev wanting : Option (Text × List Text)
wanting = Some (label_of true, [])

named_walk : (place : ℕ) (rows : List Row) (pending : Option (Text × List Text))
    → walked load_rules [] (walk_on place rows pending idle) (spelled true None) ≡ walk_on place (settled_at rows pending) wanting (option (label_of true))
unfolding walked
named_walk place rows pending = refl

joined_walk : (place : ℕ) (v : Text) (rows : List Row) (pending : Option (Text × List Text))
    → walked load_rules [] (walk_on place rows pending idle) (spelled true (Some v)) ≡ walk_on place (part_rows true v (settled_at rows pending)) None idle
unfolding walked
joined_walk place v rows pending = refl

named_fault : (place : ℕ) (rows : List Row) (pending : Option (Text × List Text))
    → turn_fault load_shape [] (walk_on place rows pending idle) (spelled true None) ≡ or_else (settle_kinds rows pending) []
named_fault place rows pending = refl

joined_fault : (place : ℕ) (v : Text) (rows : List Row) (pending : Option (Text × List Text))
    → turn_fault load_shape [] (walk_on place rows pending idle) (spelled true (Some v)) ≡ or_else (or_else (settle_kinds rows pending) (part_kinds true v (settled_at rows pending))) []
joined_fault place v rows pending = refl

value_walk : (place : ℕ) (v : Text) (rows : List Row)
    → word_met load_rules [] false (option (label_of true)) place v (held rows wanting) ≡ plain_word load_rules (option (label_of true)) v (held rows wanting)
    → walked load_rules [] (walk_on place rows wanting (option (label_of true))) v ≡ walk_on place rows (Some (label_of true, v ∷ [])) idle
value_walk place v rows met = walked_is load_shape [] place rows wanting (option (label_of true)) v _ _ met

-- the number takes one value, so what waits is settled before it
abbrev walk_with : Bool → Text → List Row → Option (Text × List Text) → Walk
walk_with waits v rows pending = record {
  held = pushed (label_of false) v (cond (waits && false) (held rows pending) (settled load_rules (held rows pending)));
  waiting = idle;
  position = 2;
  is_trailing = false;
  stopped = None;
}

placed_walk : (v : Text) (rows : List Row) (pending : Option (Text × List Text)) → word_met load_rules [] false idle 1 v (held rows pending) ≡ (held rows pending, value)
    → walked load_rules [] (walk_on 1 rows pending idle) v ≡ walk_on 2 (settled_at rows pending) (Some (label_of false, v ∷ [])) idle
placed_walk v rows pending met = walked_is load_shape [] 1 rows pending idle v _ _ met ∙ go (is_pending (rule_of_part false) pending)
  where
    go : (waits : Bool) → walk_with waits v rows pending ≡ walk_on 2 (settled_at rows pending) (Some (label_of false, v ∷ [])) idle
    go true = refl
    go false = refl

placed_fault : (rows : List Row) (pending : Option (Text × List Text)) → step_fault load_shape 1 (held rows pending) value ≡ settle_kinds rows pending
placed_fault rows pending = go (is_pending (rule_of_part false) pending)
  where
    go : (waits : Bool) → cond (waits && false) [] (settle_kinds rows pending) ≡ settle_kinds rows pending
    go true = refl
    go false = refl

-- ---- a word that is no flag

module _ (v : Text) (plain : IsPlain v) (place : ℕ) (rows : List Row) (pending : Option (Text × List Text)) (waiting : Waiting) (none : subcommand_met [] waiting v ≡ None) where
  abbrev plain_step : Held × Step
  plain_step = plain_word load_rules waiting v (held rows pending)

  plain_met : word_met load_rules [] false waiting place v (held rows pending) ≡ plain_step
  plain_met =
      met_is load_shape [] place rows pending waiting v none plain.safe
      ∙ ap (λ o. long_or_other load_rules waiting v o (held rows pending)) plain.no_long
      ∙ ap (λ o. short_or_plain load_rules waiting v o (held rows pending)) plain.no_short

  plain_fault : turn_fault load_shape [] (walk_on place rows pending waiting) v ≡ step_fault load_shape place plain_step.0 plain_step.1
  plain_fault =
      turn_is load_shape [] place rows pending waiting v none plain.safe
      ∙ ap (λ o. or_else (flag_word_fault load_rules false o v (held rows pending)) (step_fault load_shape place (long_or_other load_rules waiting v o (held rows pending)).0 (long_or_other load_rules waiting v o (held rows pending)).1)) plain.no_long
      ∙ ap (λ o. or_else (option_map_or (λ flags. bundle_fault load_rules false flags (held rows pending)) o [])
      (step_fault load_shape place (short_or_plain load_rules waiting v o (held rows pending)).0 (short_or_plain load_rules waiting v o (held rows pending)).1)) plain.no_short

-- ---- words that pass are parts

-- the words are these parts, and each passes
pub record IsRead (met : Bool) (rows : List Row) (pending : Option (Text × List Text)) (words : List Text) : Type 0 where
  pub parts : List Part
  pub are : words ≡ all_words parts
  pub settles : settle_kinds rows pending ≡ []
  pub pass : PartsPass (settled_at rows pending) parts
  pub ends : load_end (walk_on (place_of met) rows pending idle) words ≡ parts_rows (settled_at rows pending) parts

-- words with no `--` and no fault are read so
abbrev Reads : Bool → List Text → Type 0
Reads met words = (rows : List Row) (pending : Option (Text × List Text)) → has_dashes words ≡ false → kinds_from load_shape (walk_on (place_of met) rows pending idle) words ≡ [] → IsRead met rows pending words

joined_first : (met : Bool) (v : Text) (tail : List Text) → Reads met tail → Reads met (spelled true (Some v) ∷ tail)
joined_first met v tail ih rows pending safe e =
    let place = place_of met in
    let word = spelled true (Some v) in
    let after = settled_at rows pending in
    let s = one_step load_shape (walk_on place rows pending idle) word tail e in
    let turn = both_none _ _ (both_none _ _ (sym (joined_fault place v rows pending) ∙ s.turn)).0 in
    let walk = joined_walk place v rows pending in
    let r = ih (part_rows true v after) None (others_safe word tail safe) (subst (λ (w : Walk). kinds_from load_shape w tail ≡ []) walk s.more) in
    record {
      parts = record { is_option = true; joined = true; value = v } ∷ r.parts;
      are = ap (λ ws. word ∷ ws) r.are;
      settles = turn.0;
      pass = (turn.1, r.pass);
      ends = ap (λ (w : Walk). load_end w tail) walk ∙ r.ends;
    }

named_first : (met : Bool) (v : Text) (tail : List Text) → Reads met tail → Reads met (spelled true None ∷ v ∷ tail)
named_first met v tail ih rows pending safe e =
    let place = place_of met in
    let word = spelled true None in
    let after = settled_at rows pending in
    let s = one_step load_shape (walk_on place rows pending idle) word (v ∷ tail) e in
    let settles = (both_none _ _ (sym (named_fault place rows pending) ∙ s.turn)).0 in
    let walk = named_walk place rows pending in
    let t = one_step load_shape (walk_on place after wanting (option (label_of true))) v tail (subst (λ (w : Walk). kinds_from load_shape w (v ∷ tail) ≡ []) walk s.more) in
    let rest_safe = others_safe word (v ∷ tail) safe in
    let value = value_walk place v after (wanting_turn load_shape no_short place after (label_of true) v (wants_value after) (first_safe v tail rest_safe) t.turn) in
    let r = ih after (Some (label_of true, v ∷ [])) (others_safe v tail rest_safe) (subst (λ (w : Walk). kinds_from load_shape w tail ≡ []) value t.more) in
    record {
      parts = record { is_option = true; joined = false; value = v } ∷ r.parts;
      are = ap (λ ws. word ∷ v ∷ ws) r.are;
      settles = settles;
      pass = (sym (settle_one true v after) ∙ r.settles, subst (λ (rs : List Row). PartsPass rs r.parts) (settled_one true v after) r.pass);
      ends = ap (λ (w : Walk). load_end w (v ∷ tail)) walk
          ∙ ap (λ (w : Walk). load_end w tail) value ∙ r.ends
          ∙ ap (λ (rs : List Row). parts_rows rs r.parts) (settled_one true v after);
    }

named_last : (met : Bool) → Reads met (spelled true None ∷ [])
named_last met rows pending safe e =
    let s = one_step load_shape (walk_on (place_of met) rows pending idle) (spelled true None) [] e in
    let last = (both_none _ _ (subst (λ (w : Walk). kinds_from load_shape w [] ≡ []) (named_walk (place_of met) rows pending) s.more)).1 in
    absurd (wants_value (settled_at rows pending) last)

-- a word that goes by its place is the number, where that is still to come
placed_first : (met : Bool) (v : Text) (tail : List Text) → Reads true tail → (rows : List Row) (pending : Option (Text × List Text)) → has_dashes (v ∷ tail) ≡ false
    → kinds_from load_shape (walk_on (place_of met) rows pending idle) (v ∷ tail) ≡ [] → GoesByPlace load_shape (place_of met) rows pending v → IsRead met rows pending (v ∷ tail)
placed_first true v tail ih rows pending safe e goes = absurd (placed load_shape 2 (held rows pending) one_place goes.2)
placed_first false v tail ih rows pending safe e goes =
    let after = settled_at rows pending in
    let s = one_step load_shape (walk_on 1 rows pending idle) v tail e in
    let walk = placed_walk v rows pending (met_is load_shape [] 1 rows pending idle v refl (first_safe v tail safe) ∙ goes.1) in
    let r = ih after (Some (label_of false, v ∷ [])) (others_safe v tail safe) (subst (λ (w : Walk). kinds_from load_shape w tail ≡ []) walk s.more) in
    record {
      parts = record { is_option = false; joined = false; value = v } ∷ r.parts;
      are = ap (λ ws. v ∷ ws) r.are;
      settles = sym (placed_fault rows pending) ∙ goes.2;
      pass = (sym (settle_one false v after) ∙ r.settles, subst (λ (rs : List Row). PartsPass rs r.parts) (settled_one false v after) r.pass);
      ends = ap (λ (w : Walk). load_end w tail) walk ∙ r.ends ∙ ap (λ (rs : List Row). parts_rows rs r.parts) (settled_one false v after);
    }

-- the word is that of the option
record IsOptionWord (word : Text) : Type 0 where
  pub given : Option Text
  pub is : word ≡ spelled true given

option_name : (n : Text) (r : Rule) → arg_by_long load_rules n ≡ Some r → n ≡ codes "workers"
option_name n r e = go (bytes_eq (codes "workers") n) refl e
  where
    go : (x : Bool) → bytes_eq (codes "workers") n ≡ x → cond (x || false) (Some (option_of true)) None ≡ Some r → n ≡ codes "workers"
    go true is e = sym ((bytes_eq-Decides (codes "workers") n).0 is)
    go false is e = absurd (cc)

option_word : (word : Text) → IsLong load_shape word → IsOptionWord word
option_word word l =
    record { given = l.given; is = long_word_is word (l.name, l.given) l.reads ∙ ap (λ (n : Text). 45 ∷ 45 ∷ (n ++ behind l.given)) (option_name l.name l.rule l.found) }

read_none : (met : Bool) → Reads met []
unfolding walk_fault
read_none met rows pending safe e = record { parts = []; are = refl; settles = e; pass = tt; ends = refl }

read_last : (met : Bool) (given : Option Text) → Reads met (spelled true given ∷ [])
read_last met None = named_last met
read_last met (Some v) = joined_first met v [] (read_none met)

read_next : (met : Bool) (given : Option Text) (v : Text) (tail : List Text) → Reads met tail → Reads met (v ∷ tail) → Reads met (spelled true given ∷ v ∷ tail)
read_next met None v tail rest more = named_first met v tail rest
read_next met (Some x) v tail rest more = joined_first met x (v ∷ tail) more

pub read_parts : (words : List Text) (met : Bool) → Reads met words
read_parts [] met = read_none met
read_parts (word ∷ []) met = λ rows pending safe e.
    let s = one_step load_shape (walk_on (place_of met) rows pending idle) word [] e in
    elim (idle_word load_shape [] no_short (place_of met) rows pending word refl (first_safe word [] safe) s.turn) [
      | inl long ↦ let w = option_word word long in subst (λ (x : Text). Reads met (x ∷ [])) (sym w.is) (read_last met w.given) rows pending safe e
      | inr goes ↦ placed_first met word [] (read_none true) rows pending safe e goes
    ]
read_parts (word ∷ v ∷ tail) met = λ rows pending safe e.
    let s = one_step load_shape (walk_on (place_of met) rows pending idle) word (v ∷ tail) e in
    elim (idle_word load_shape [] no_short (place_of met) rows pending word refl (first_safe word (v ∷ tail) safe) s.turn) [
      | inl long ↦ let w = option_word word long in
          subst (λ (x : Text). Reads met (x ∷ v ∷ tail)) (sym w.is) (read_next met w.given v tail (read_parts tail met) (read_parts (v ∷ tail) met)) rows pending safe e
      | inr goes ↦ placed_first met word (v ∷ tail) (read_parts (v ∷ tail) true) rows pending safe e goes
    ]

-- ---- parts that pass are read

pub record IsWritten (met : Bool) (rows : List Row) (pending : Option (Text × List Text)) (parts : List Part) : Type 0 where
  pub passes : kinds_from load_shape (walk_on (place_of met) rows pending idle) (all_words parts) ≡ []
  pub ends : load_end (walk_on (place_of met) rows pending idle) (all_words parts) ≡ parts_rows (settled_at rows pending) parts

abbrev Writes : Bool → List Part → Type 0
Writes met parts = (rows : List Row) (pending : Option (Text × List Text)) → settle_kinds rows pending ≡ [] → PartsPass (settled_at rows pending) parts → IsWritten met rows pending parts

write_none : (met : Bool) → Writes met []
unfolding walk_fault
write_none met rows pending settles pass = record { passes = settles; ends = refl }

write_joined : (met : Bool) (v : Text) (ps : List Part) → Writes met ps → Writes met (record { is_option = true; joined = true; value = v } ∷ ps)
write_joined met v ps ih rows pending settles pass =
    let place = place_of met in
    let word = spelled true (Some v) in
    let tail = all_words ps in
    let after = settled_at rows pending in
    let walk = joined_walk place v rows pending in
    let r = ih (part_rows true v after) None refl pass.1 in
    record {
      passes = step_back load_shape (walk_on place rows pending idle) word tail (record {
        turn = joined_fault place v rows pending ∙ none_of_both _ [] (none_of_both _ _ settles pass.0) refl;
        more = subst (λ (w : Walk). kinds_from load_shape w tail ≡ []) (sym walk) r.passes;
      });
      ends = ap (λ (w : Walk). load_end w tail) walk ∙ r.ends;
    }

write_named : (met : Bool) (v : Text) (ps : List Part) → IsPlain v → Writes met ps → Writes met (record { is_option = true; joined = false; value = v } ∷ ps)
write_named met v ps plain ih rows pending settles pass =
    let place = place_of met in
    let word = spelled true None in
    let tail = all_words ps in
    let after = settled_at rows pending in
    let walk = named_walk place rows pending in
    let waiting = option (label_of true) in
    let value = value_walk place v after (plain_met v plain place after wanting waiting refl) in
    let r = ih after (Some (label_of true, v ∷ [])) (settle_one true v after ∙ pass.0) (subst (λ (rs : List Row). PartsPass rs ps) (sym (settled_one true v after)) pass.1) in
    let second = step_back load_shape (walk_on place after wanting waiting) v tail (record {
      turn = plain_fault v plain place after wanting waiting refl;
      more = subst (λ (w : Walk). kinds_from load_shape w tail ≡ []) (sym value) r.passes;
    }) in
    record {
      passes = step_back load_shape (walk_on place rows pending idle) word (v ∷ tail) (record {
        turn = named_fault place rows pending ∙ none_of_both _ [] settles refl;
        more = subst (λ (w : Walk). kinds_from load_shape w (v ∷ tail) ≡ []) (sym walk) second;
      });
      ends = ap (λ (w : Walk). load_end w (v ∷ tail)) walk
          ∙ ap (λ (w : Walk). load_end w tail) value ∙ r.ends
          ∙ ap (λ (rs : List Row). parts_rows rs ps) (settled_one true v after);
    }

write_placed : (v : Text) (ps : List Part) → IsPlain v → Writes true ps → Writes false (record { is_option = false; joined = false; value = v } ∷ ps)
write_placed v ps plain ih rows pending settles pass =
    let tail = all_words ps in
    let after = settled_at rows pending in
    let walk = placed_walk v rows pending (plain_met v plain 1 rows pending idle refl) in
    let r = ih after (Some (label_of false, v ∷ [])) (settle_one false v after ∙ pass.0) (subst (λ (rs : List Row). PartsPass rs ps) (sym (settled_one false v after)) pass.1) in
    record {
      passes = step_back load_shape (walk_on 1 rows pending idle) v tail (record {
        turn = plain_fault v plain 1 rows pending idle refl ∙ placed_fault rows pending ∙ settles;
        more = subst (λ (w : Walk). kinds_from load_shape w tail ≡ []) (sym walk) r.passes;
      });
      ends = ap (λ (w : Walk). load_end w tail) walk ∙ r.ends ∙ ap (λ (rs : List Row). parts_rows rs ps) (settled_one false v after);
    }

write_option : (met joined : Bool) (v : Text) (ps : List Part) → IsPlain v → Writes met ps → Writes met (record { is_option = true; joined = joined; value = v } ∷ ps)
write_option met true v ps plain ih = write_joined met v ps ih
write_option met false v ps plain ih = write_named met v ps plain ih

abbrev pub the_number : Text → Part
the_number v = record { is_option = false; joined = false; value = v }

abbrev pub the_option : Bool → Text → Part
the_option joined v = record { is_option = true; joined = joined; value = v }

-- the number alone, before the option, and behind it
pub data Order : Type 0 where
  alone : Order
  before : Order
  behind_it : Order

abbrev pub in_order : Order → Text → Bool → Text → List Part
in_order alone n joined w = the_number n ∷ []
in_order before n joined w = the_number n ∷ the_option joined w ∷ []
in_order behind_it n joined w = the_option joined w ∷ the_number n ∷ []

pub write_parts : (o : Order) (n : Text) (joined : Bool) (w : Text) → IsPlain n → IsPlain w → PartsPass [] (in_order o n joined w) → IsWritten false [] None (in_order o n joined w)
write_parts alone n joined w plain other = write_placed n [] plain (write_none true) [] None refl
write_parts before n joined w plain other = write_placed n (the_option joined w ∷ []) plain (write_option true joined w [] other (write_none true)) [] None refl
write_parts behind_it n joined w plain other = write_option false joined w (the_number n ∷ []) other (write_placed n [] plain (write_none true)) [] None refl
