-- How `clap` reads the options of a command that has them, whatever its name is.
use Rattle.std.proofs.Common.{◌≡◌, ◌∙◌, ◌||◌, Bool, cond, true, false, List, [], ◌∷◌, ◌++◌, codes, Option, Some, None, refl, sym, ap, subst}
use Rattle.std.specs.List.{list_any}
use Rattle.std.specs.Option.{option_map_or}
use Rattle.std.specs.Str.{bytes_eq}
use Rattle.std.proofs.lemmas.Slice.Eq.{bytes_eq-Decides}
use Rattle.clap.specs.Lexer.{long_of, short_of}
use Rattle.clap.specs.Kinds.{Kinds, or_else}
use Rattle.clap.specs.Walk.{Held, Row, Rule, Text, Walk, arg_by_long, idle, long_or_other, option, plain_word, settled_rows, short_or_plain, used, walked, word_met}
use Rattle.clap.specs.Simple.{Shape, built_leaf, filled, inherited, marked_built, with_leaf_noted}
use Rattle.clap.specs.Faults.{bundle_fault, flag_word_fault, settle_fault, step_fault, turn_fault, use_fault, walk_fault}
use Rattle.command_words.specs.Program.{budget, check_command, command_with_options, program, workers}
use Rattle.command_words.proofs.LongWords.{HasLongAlone, behind, both_none, dashes, held, held_after, idle_turn, kinds_from, long_word_is, met_is, none_of_both, one_step, step_back, turn_is, walk_at, walked_is, wanting_turn}

-- the commands as they are built
abbrev pub top : Shape
top = with_leaf_noted (marked_built program.top)

-- a command with the options, by its name
abbrev pub shape_of : Text → Shape
shape_of command = built_leaf (inherited top (command_with_options command).top)

abbrev pub check_shape : Shape
check_shape = built_leaf (inherited top check_command.top)

abbrev pub rules : List Rule
rules = (shape_of []).rules

-- the two options
abbrev pub name_of : Bool → Text
name_of true = codes "workers"
name_of false = codes "budget"

abbrev pub option_of : Bool → Rule
option_of true = filled workers
option_of false = filled budget

-- a word is `--`
abbrev pub has_dashes : List Text → Bool
has_dashes words = list_any (λ word. bytes_eq word dashes) words

-- an option's word, with a value behind `=` or without one
abbrev pub spelled : Bool → Option Text → Text
spelled a given = 45 ∷ 45 ∷ (name_of a ++ behind given)

-- ---- a use of an option

pub record Use : Type 0 where
  pub which : Bool
  pub joined : Bool
  pub value : Text

abbrev pub written : Use → List Text
written u = cond u.joined (spelled u.which (Some u.value) ∷ []) (spelled u.which None ∷ u.value ∷ [])

abbrev pub all_written : List Use → List Text
all_written [] = []
all_written (u ∷ us) = written u ++ all_written us

abbrev pub use_rows : Bool → Text → List Row → List Row
use_rows a v rows = used (option_of a) (v ∷ []) rows

abbrev pub use_kinds : Bool → Text → List Row → Kinds
use_kinds a v rows = use_fault false (option_of a) (v ∷ []) rows

abbrev pub used_all : List Row → List Use → List Row
used_all rows [] = rows
used_all rows (u ∷ us) = used_all (use_rows u.which u.value rows) us

-- each use passes where those before it came
abbrev pub Pass : List Row → List Use → Type 0
Pass rows [] = Unit {0}
Pass rows (u ∷ us) = (use_kinds u.which u.value rows ≡ []) × Pass (use_rows u.which u.value rows) us

abbrev pub settled_at : List Row → Option (Text × List Text) → List Row
settled_at rows pending = settled_rows rules pending rows

abbrev pub settle_kinds : List Row → Option (Text × List Text) → Kinds
settle_kinds rows pending = settle_fault rules false (held rows pending)

settle_named : (a : Bool) (v : Text) (rows : List Row) → settle_kinds rows (Some (name_of a, v ∷ [])) ≡ use_kinds a v rows
settle_named true v rows = refl
settle_named false v rows = refl

settled_named : (a : Bool) (v : Text) (rows : List Row) → settled_at rows (Some (name_of a, v ∷ [])) ≡ use_rows a v rows
settled_named true v rows = refl
settled_named false v rows = refl

-- an option without its value is refused
wants_value : (a : Bool) (rows : List Row) → settle_kinds rows (Some (name_of a, [])) ≡ [] → ⊥
wants_value true rows e = absurd (cc)
wants_value false rows e = absurd (cc)

named_walk : (a : Bool) (rows : List Row) (pending : Option (Text × List Text))
    → walked rules [] (walk_at rows pending idle) (spelled a None) ≡ walk_at (settled_at rows pending) (Some (name_of a, [])) (option (name_of a))
unfolding walked
named_walk true rows pending = refl
named_walk false rows pending = refl

joined_walk : (a : Bool) (v : Text) (rows : List Row) (pending : Option (Text × List Text))
    → walked rules [] (walk_at rows pending idle) (spelled a (Some v)) ≡ walk_at (use_rows a v (settled_at rows pending)) None idle
unfolding walked
joined_walk true v rows pending = refl
joined_walk false v rows pending = refl

-- a value that is no flag and no `--`
pub record IsPlain (v : Text) : Type 0 where
  pub safe : bytes_eq v dashes ≡ false
  pub no_long : long_of v ≡ None
  pub no_short : short_of v ≡ None

abbrev pub end_of : Walk → List Text → Held
end_of = held_after (shape_of [])

abbrev pub settled_end : Held → List Row
settled_end h = settled_at h.rows h.pending

-- the words are these uses, and each passes
pub record IsRead (rows : List Row) (pending : Option (Text × List Text)) (words : List Text) : Type 0 where
  pub uses : List Use
  pub are : words ≡ all_written uses
  pub settles : settle_kinds rows pending ≡ []
  pub pass : Pass (settled_at rows pending) uses
  pub ends : settled_end (end_of (walk_at rows pending idle) words) ≡ used_all (settled_at rows pending) uses

pub first_safe : (word : Text) (words : List Text) → has_dashes (word ∷ words) ≡ false → bytes_eq word dashes ≡ false
first_safe word words e = go (bytes_eq word dashes) refl e
  where
    go : (b : Bool) → bytes_eq word dashes ≡ b → (b || has_dashes words) ≡ false → bytes_eq word dashes ≡ false
    go true is e = absurd (cc)
    go false is e = is

pub others_safe : (word : Text) (words : List Text) → has_dashes (word ∷ words) ≡ false → has_dashes words ≡ false
others_safe word words e = go (bytes_eq word dashes) e
  where
    go : (b : Bool) → (b || has_dashes words) ≡ false → has_dashes words ≡ false
    go true e = absurd (cc)
    go false e = e

-- the first word is an option's
pub record Begins (word : Text) : Type 0 where
  pub which : Bool
  pub given : Option Text
  pub is : word ≡ spelled which given

which_name : (n : Text) (r : Rule) → arg_by_long rules n ≡ Some r → (a : Bool) × (n ≡ name_of a)
which_name n r e = go (bytes_eq (codes "workers") n) (bytes_eq (codes "budget") n) refl refl e
  where
    go : (x y : Bool) → bytes_eq (codes "workers") n ≡ x → bytes_eq (codes "budget") n ≡ y
        → cond (x || false) (Some (option_of true)) (cond (y || false) (Some (option_of false)) None) ≡ Some r → (a : Bool) × (n ≡ name_of a)
    go true y is is' e = (true, sym ((bytes_eq-Decides (codes "workers") n).0 is))
    go false true is is' e = (false, sym ((bytes_eq-Decides (codes "budget") n).0 is'))
    go false false is is' e = absurd (cc)

abbrev pub AllPlain : List Use → Type 0
AllPlain [] = Unit {0}
AllPlain (u ∷ us) = IsPlain u.value × AllPlain us

-- ---- the words behind a command of this name

module _ (command : Text) where
  abbrev shape : Shape
  shape = shape_of command

  long : HasLongAlone shape 1
  long = record { no_short = λ x. refl; no_place = refl }

  named_fault : (a : Bool) (rows : List Row) (pending : Option (Text × List Text))
      → turn_fault shape [] (walk_at rows pending idle) (spelled a None) ≡ or_else (settle_kinds rows pending) []
  named_fault true rows pending = refl
  named_fault false rows pending = refl

  joined_fault : (a : Bool) (v : Text) (rows : List Row) (pending : Option (Text × List Text))
      → turn_fault shape [] (walk_at rows pending idle) (spelled a (Some v)) ≡ or_else (or_else (settle_kinds rows pending) (use_kinds a v (settled_at rows pending))) []
  joined_fault true v rows pending = refl
  joined_fault false v rows pending = refl

  value_walk : (a : Bool) (v : Text) (rows : List Row)
      → word_met rules [] false (option (name_of a)) 1 v (held rows (Some (name_of a, []))) ≡ plain_word rules (option (name_of a)) v (held rows (Some (name_of a, [])))
      → walked rules [] (walk_at rows (Some (name_of a, [])) (option (name_of a))) v ≡ walk_at rows (Some (name_of a, v ∷ [])) idle
  value_walk true v rows met = walked_is shape [] 1 rows (Some (name_of true, [])) (option (name_of true)) v _ _ met
  value_walk false v rows met = walked_is shape [] 1 rows (Some (name_of false, [])) (option (name_of false)) v _ _ met

  module _ (a : Bool) (v : Text) (rows : List Row) (plain : IsPlain v) where
    abbrev wanting : Option (Text × List Text)
    wanting = Some (name_of a, [])

    plain_met : word_met rules [] false (option (name_of a)) 1 v (held rows wanting) ≡ plain_word rules (option (name_of a)) v (held rows wanting)
    plain_met =
        met_is shape [] 1 rows wanting (option (name_of a)) v refl plain.safe
        ∙ ap (λ o. long_or_other rules (option (name_of a)) v o (held rows wanting)) plain.no_long
        ∙ ap (λ o. short_or_plain rules (option (name_of a)) v o (held rows wanting)) plain.no_short

    plain_fault : turn_fault shape [] (walk_at rows wanting (option (name_of a))) v ≡ []
    plain_fault =
        turn_is shape [] 1 rows wanting (option (name_of a)) v refl plain.safe
        ∙ ap (λ o. or_else (flag_word_fault rules false o v (held rows wanting)) (step_fault shape 1 (long_or_other rules (option (name_of a)) v o (held rows wanting)).0 (long_or_other rules (option (name_of a)) v o (held rows wanting)).1)) plain.no_long
        ∙ ap (λ o. or_else (option_map_or (λ flags. bundle_fault rules false flags (held rows wanting)) o [])
        (step_fault shape 1 (short_or_plain rules (option (name_of a)) v o (held rows wanting)).0 (short_or_plain rules (option (name_of a)) v o (held rows wanting)).1)) plain.no_short

  abbrev pub rest_kinds : Walk → List Text → Kinds
  rest_kinds = kinds_from shape

  -- ---- words that pass are uses of options

  -- words with no `--` and no fault are read so, wherever the walk stands
  abbrev Reads : List Text → Type 0
  Reads words = (rows : List Row) (pending : Option (Text × List Text)) → has_dashes words ≡ false → rest_kinds (walk_at rows pending idle) words ≡ [] → IsRead rows pending words

  joined_first : (a : Bool) (v : Text) (tail : List Text) → Reads tail → Reads (spelled a (Some v) ∷ tail)
  joined_first a v tail ih rows pending safe e =
      let word = spelled a (Some v) in
      let s = one_step shape (walk_at rows pending idle) word tail e in
      let turn = both_none _ _ (both_none _ _ (sym (joined_fault a v rows pending) ∙ s.turn)).0 in
      let walk = joined_walk a v rows pending in
      let after = settled_at rows pending in
      let r = ih (use_rows a v after) None (others_safe word tail safe) (subst (λ (w : Walk). rest_kinds w tail ≡ []) walk s.more) in
      record {
        uses = record { which = a; joined = true; value = v } ∷ r.uses;
        are = ap (λ ws. word ∷ ws) r.are;
        settles = turn.0;
        pass = (turn.1, r.pass);
        ends = ap (λ (w : Walk). settled_end (end_of w tail)) walk ∙ r.ends;
      }

  named_first : (a : Bool) (v : Text) (tail : List Text) → Reads tail → Reads (spelled a None ∷ v ∷ tail)
  named_first a v tail ih rows pending safe e =
      let word = spelled a None in
      let after = settled_at rows pending in
      let s = one_step shape (walk_at rows pending idle) word (v ∷ tail) e in
      let settles = (both_none _ _ (sym (named_fault a rows pending) ∙ s.turn)).0 in
      let walk = named_walk a rows pending in
      let t = one_step shape (walk_at after (Some (name_of a, [])) (option (name_of a))) v tail (subst (λ (w : Walk). rest_kinds w (v ∷ tail) ≡ []) walk s.more) in
      let rest_safe = others_safe word (v ∷ tail) safe in
      let met = wanting_turn shape long.no_short 1 after (name_of a) v (wants_value a after) (first_safe v tail rest_safe) t.turn in
      let value = value_walk a v after met in
      let r = ih after (Some (name_of a, v ∷ [])) (others_safe v tail rest_safe) (subst (λ (w : Walk). rest_kinds w tail ≡ []) value t.more) in
      record {
        uses = record { which = a; joined = false; value = v } ∷ r.uses;
        are = ap (λ ws. word ∷ v ∷ ws) r.are;
        settles = settles;
        pass = (sym (settle_named a v after) ∙ r.settles, subst (λ (rs : List Row). Pass rs r.uses) (settled_named a v after) r.pass);
        ends = ap (λ (w : Walk). settled_end (end_of w (v ∷ tail))) walk
            ∙ ap (λ (w : Walk). settled_end (end_of w tail)) value ∙ r.ends
            ∙ ap (λ (rs : List Row). used_all rs r.uses) (settled_named a v after);
      }

  named_last : (a : Bool) → Reads (spelled a None ∷ [])
  named_last a rows pending safe e =
      let s = one_step shape (walk_at rows pending idle) (spelled a None) [] e in
      let last = (both_none _ _ (subst (λ (w : Walk). rest_kinds w [] ≡ []) (named_walk a rows pending) s.more)).1 in
      absurd (wants_value a (settled_at rows pending) last)

  begins : (word : Text) (rows : List Row) (pending : Option (Text × List Text)) → bytes_eq word dashes ≡ false → turn_fault shape [] (walk_at rows pending idle) word ≡ [] → Begins word
  begins word rows pending safe e =
      let l = idle_turn shape [] 1 long rows pending word refl safe e in
      let a = which_name l.name l.rule l.found in
      record { which = a.0; given = l.given; is = long_word_is word (l.name, l.given) l.reads ∙ ap (λ (n : Text). 45 ∷ 45 ∷ (n ++ behind l.given)) a.1 }

  read_last : (a : Bool) (given : Option Text) → Reads [] → Reads (spelled a given ∷ [])
  read_last a None none = named_last a
  read_last a (Some v) none = joined_first a v [] none

  read_next : (a : Bool) (given : Option Text) (v : Text) (tail : List Text) → Reads tail → Reads (v ∷ tail) → Reads (spelled a given ∷ v ∷ tail)
  read_next a None v tail rest more = named_first a v tail rest
  read_next a (Some x) v tail rest more = joined_first a x (v ∷ tail) more

  read_none : Reads []
  unfolding walk_fault
  read_none rows pending safe e = record { uses = []; are = refl; settles = e; pass = tt; ends = refl }

  pub read_words : (words : List Text) → Reads words
  read_words [] = read_none
  read_words (word ∷ []) = λ rows pending safe e.
      let s = one_step shape (walk_at rows pending idle) word [] e in
      let b = begins word rows pending (first_safe word [] safe) s.turn in
      subst (λ (w : Text). Reads (w ∷ [])) (sym b.is) (read_last b.which b.given read_none) rows pending safe e
  read_words (word ∷ v ∷ tail) = λ rows pending safe e.
      let s = one_step shape (walk_at rows pending idle) word (v ∷ tail) e in
      let b = begins word rows pending (first_safe word (v ∷ tail) safe) s.turn in
      subst (λ (w : Text). Reads (w ∷ v ∷ tail)) (sym b.is) (read_next b.which b.given v tail (read_words tail) (read_words (v ∷ tail))) rows pending safe e

  -- ---- uses that pass are read

  pub record IsWritten (rows : List Row) (pending : Option (Text × List Text)) (uses : List Use) : Type 0 where
    pub passes : rest_kinds (walk_at rows pending idle) (all_written uses) ≡ []
    pub ends : settled_end (end_of (walk_at rows pending idle) (all_written uses)) ≡ used_all (settled_at rows pending) uses

  abbrev Writes : List Use → Type 0
  Writes uses = (rows : List Row) (pending : Option (Text × List Text)) → settle_kinds rows pending ≡ [] → Pass (settled_at rows pending) uses → IsWritten rows pending uses

  write_joined : (a : Bool) (v : Text) (us : List Use) → Writes us → Writes (record { which = a; joined = true; value = v } ∷ us)
  write_joined a v us ih rows pending settles pass =
      let word = spelled a (Some v) in
      let tail = all_written us in
      let after = settled_at rows pending in
      let walk = joined_walk a v rows pending in
      let r = ih (use_rows a v after) None refl pass.1 in
      record {
        passes = step_back shape (walk_at rows pending idle) word tail (record {
          turn = joined_fault a v rows pending ∙ none_of_both _ [] (none_of_both _ _ settles pass.0) refl;
          more = subst (λ (w : Walk). rest_kinds w tail ≡ []) (sym walk) r.passes;
        });
        ends = ap (λ (w : Walk). settled_end (end_of w tail)) walk ∙ r.ends;
      }

  write_named : (a : Bool) (v : Text) (us : List Use) → IsPlain v → Writes us → Writes (record { which = a; joined = false; value = v } ∷ us)
  write_named a v us plain ih rows pending settles pass =
      let word = spelled a None in
      let tail = all_written us in
      let after = settled_at rows pending in
      let walk = named_walk a rows pending in
      let value = value_walk a v after (plain_met a v after plain) in
      let r = ih after (Some (name_of a, v ∷ [])) (settle_named a v after ∙ pass.0) (subst (λ (rs : List Row). Pass rs us) (sym (settled_named a v after)) pass.1) in
      let second = step_back shape (walk_at after (Some (name_of a, [])) (option (name_of a))) v tail (record {
        turn = plain_fault a v after plain;
        more = subst (λ (w : Walk). rest_kinds w tail ≡ []) (sym value) r.passes;
      }) in
      record {
        passes = step_back shape (walk_at rows pending idle) word (v ∷ tail) (record {
          turn = named_fault a rows pending ∙ none_of_both _ [] settles refl;
          more = subst (λ (w : Walk). rest_kinds w (v ∷ tail) ≡ []) (sym walk) second;
        });
        ends = ap (λ (w : Walk). settled_end (end_of w (v ∷ tail))) walk
            ∙ ap (λ (w : Walk). settled_end (end_of w tail)) value ∙ r.ends
            ∙ ap (λ (rs : List Row). used_all rs us) (settled_named a v after);
      }

  write_use : (u : Use) (us : List Use) → IsPlain u.value → Writes us → Writes (u ∷ us)
  write_use u us plain ih = go u.joined
    where
      go : (b : Bool) → Writes (record u { joined = b } ∷ us)
      go true = write_joined u.which u.value us ih
      go false = write_named u.which u.value us plain ih

  write_none : Writes []
  unfolding walk_fault
  write_none rows pending settles pass = record { passes = settles; ends = refl }

  pub write_uses : (uses : List Use) → AllPlain uses → Writes uses
  write_uses [] plain = write_none
  write_uses (u ∷ us) plain = write_use u us plain.0 (write_uses us plain.1)
