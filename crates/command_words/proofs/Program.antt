-- How `clap` reads the whole words.
use Rattle.std.proofs.Common.{◌≡◌, ◌∙◌, ◌⊎◌, ◌&&◌, ◌||◌, Bool, cond, not, true, false, List, [], ◌∷◌, ◌++◌, codes, Option, Some, None, is_some, refl, sym, ap, ap₂, subst, inl, inr}
use Rattle.std.specs.List.{fold}
use Rattle.std.specs.Prelude.{option_map}
use Rattle.std.specs.Str.{bytes_eq}
use Rattle.std.proofs.lemmas.Slice.Eq.{bytes_eq-Decides}
use Rattle.clap.specs.Kinds.{Kinds, check_kinds as kinds_of_check, or_else}
use Rattle.clap.specs.Walk.{Names, Row, Text, Walk, arg_by_long, finished, has_row, idle, nothing_held, settled, subcommand_met, walked, with_default}
use Rattle.clap.specs.Simple.{App, Shape, built, entered, is_simple, names_of, subcommand_of}
use Rattle.clap.specs.Takes.{is_given}
use Rattle.clap.specs.Faults.{check_fault, default_fault, defaults_fault, entered_fault, fault_of, is_simple_and_free, level_fault, settle_fault, walk_fault}
use Rattle.clap.proofs.OnLiterals.{clap_on_literals}
use Rattle.clap.proofs.WalkLemmas.{walk_stopped}
use Rattle.command_words.specs.Program.{program}
use Rattle.command_words.proofs.LongWords.{HasLongAlone, IsLong, both_none, held_after, idle_turn, kinds_from, none_of_both, walk_at}
use Rattle.command_words.proofs.LoadParts.{Order, alone, before, behind_it, Part, PartsPass, all_words, in_order, load_end, load_rules, load_shape, parts_rows, read_parts, rule_of_part, write_parts}
use Rattle.command_words.proofs.Options.{AllPlain, IsPlain, Pass, Use, all_written, check_shape, end_of, first_safe, has_dashes, option_of, others_safe, read_words, rest_kinds, rules, settle_kinds, shape_of, settled_end, used_all, write_uses}

abbrev whole : App
whole = built program

abbrev names : Names
names = names_of whole

abbrev start : Walk
start = walk_at [] None idle

-- the walk where a command was met, with the words behind it
abbrev stopped_at : Text → List Text → Walk
stopped_at name rest = record start { stopped = Some (name, rest) }

-- ---- behind the command's word nothing is refused above it

no_fault_behind : (s : Shape) (n : Names) (name : Text) (seen words : List Text) → walk_fault s n (stopped_at name seen) words ≡ []
unfolding walk_fault walked
no_fault_behind s n name seen [] = refl
no_fault_behind s n name seen (word ∷ words) = no_fault_behind s n name (seen ++ word ∷ []) words

-- the faults by the walk over all words
abbrev faults_by : Walk → Kinds → Kinds
faults_by w kinds =
    or_else kinds (or_else (entered_fault whole w.stopped) (or_else (settle_fault whole.top.rules false w.held)
    (or_else (defaults_fault (settled whole.top.rules w.held).rows whole.top.rules) (check_fault whole.top (finished whole.top.rules w.held) (is_some (entered whole w.stopped))))))

abbrev walk_of : List Text → Walk
walk_of words = fold (walked whole.top.rules names) start words

abbrev kinds_of : List Text → Kinds
kinds_of words = walk_fault whole.top names start words

-- the commands that know options
pub data WithOptions : Type 0 where
  run : WithOptions
  distinct : WithOptions
  crew : WithOptions
  asserts : WithOptions
  facts : WithOptions

abbrev pub name_with : WithOptions → Text
name_with run = codes "run"
name_with distinct = codes "distinct"
name_with crew = codes "crew"
name_with asserts = codes "assert"
name_with facts = codes "facts"

walk_with : (c : WithOptions) (rest : List Text) → walk_of (name_with c ∷ rest) ≡ stopped_at (name_with c) rest
unfolding walked
walk_with run rest = sym (walk_stopped whole.top.rules names start (codes "run") [] rest)
walk_with distinct rest = sym (walk_stopped whole.top.rules names start (codes "distinct") [] rest)
walk_with crew rest = sym (walk_stopped whole.top.rules names start (codes "crew") [] rest)
walk_with asserts rest = sym (walk_stopped whole.top.rules names start (codes "assert") [] rest)
walk_with facts rest = sym (walk_stopped whole.top.rules names start (codes "facts") [] rest)

check_walk : (rest : List Text) → walk_of (codes "check" ∷ rest) ≡ stopped_at (codes "check") rest
unfolding walked
check_walk rest = sym (walk_stopped whole.top.rules names start (codes "check") [] rest)

load_walk : (rest : List Text) → walk_of (codes "load" ∷ rest) ≡ stopped_at (codes "load") rest
unfolding walked
load_walk rest = sym (walk_stopped whole.top.rules names start (codes "load") [] rest)

kinds_with : (c : WithOptions) (rest : List Text) → kinds_of (name_with c ∷ rest) ≡ []
unfolding walked walk_fault
kinds_with run rest = no_fault_behind whole.top names (codes "run") [] rest
kinds_with distinct rest = no_fault_behind whole.top names (codes "distinct") [] rest
kinds_with crew rest = no_fault_behind whole.top names (codes "crew") [] rest
kinds_with asserts rest = no_fault_behind whole.top names (codes "assert") [] rest
kinds_with facts rest = no_fault_behind whole.top names (codes "facts") [] rest

check_kinds : (rest : List Text) → kinds_of (codes "check" ∷ rest) ≡ []
unfolding walked walk_fault
check_kinds rest = no_fault_behind whole.top names (codes "check") [] rest

load_kinds : (rest : List Text) → kinds_of (codes "load" ∷ rest) ≡ []
unfolding walked walk_fault
load_kinds rest = no_fault_behind whole.top names (codes "load") [] rest

-- the faults of the command below
abbrev below : Shape → List Text → Kinds
below s rest = level_fault s [] nothing_held rest false []

faults_with : (c : WithOptions) (rest : List Text) → fault_of program (name_with c ∷ rest) ≡ or_else (below (shape_of (name_with c)) rest) []
unfolding defaults_fault
faults_with run rest = ap₂ faults_by (walk_with run rest) (kinds_with run rest)
faults_with distinct rest = ap₂ faults_by (walk_with distinct rest) (kinds_with distinct rest)
faults_with crew rest = ap₂ faults_by (walk_with crew rest) (kinds_with crew rest)
faults_with asserts rest = ap₂ faults_by (walk_with asserts rest) (kinds_with asserts rest)
faults_with facts rest = ap₂ faults_by (walk_with facts rest) (kinds_with facts rest)

check_faults : (rest : List Text) → fault_of program (codes "check" ∷ rest) ≡ or_else (below check_shape rest) []
unfolding defaults_fault
check_faults rest = ap₂ faults_by (check_walk rest) (check_kinds rest)

load_faults : (rest : List Text) → fault_of program (codes "load" ∷ rest) ≡ or_else (below load_shape rest) []
unfolding defaults_fault
load_faults rest = ap₂ faults_by (load_walk rest) (load_kinds rest)

-- ---- the options' matches

abbrev pub rows_of_options : List Row → List Row
rows_of_options rows = fold with_default rows rules

no_default : (a : Bool) (rows : List Row) → default_fault rows (option_of a) ≡ []
no_default true rows = go (has_row (codes "workers") rows)
  where
    go : (b : Bool) → cond (b || true) [] (default_fault [] (option_of true)) ≡ []
    go true = refl
    go false = refl
no_default false rows = go (has_row (codes "budget") rows)
  where
    go : (b : Bool) → cond (b || true) [] (default_fault [] (option_of false)) ≡ []
    go true = refl
    go false = refl

no_defaults : (rows : List Row) → defaults_fault rows rules ≡ []
unfolding defaults_fault
no_defaults rows = none_of_both _ _ (no_default true rows) (none_of_both _ _ (no_default false (with_default rows (option_of true))) refl)

-- ---- the level of a command with options, whatever its name is

module _ (command : Text) where
  below_passes : (rest : List Text) → rest_kinds command start rest ≡ [] → below (shape_of command) rest ≡ []
  below_passes rest e =
      let parts = both_none _ _ e in
      none_of_both _ _ parts.0 (none_of_both _ _ parts.1 (none_of_both _ _ (no_defaults (settled_end (end_of start rest))) refl))

  passes_below : (rest : List Text) → below (shape_of command) rest ≡ [] → rest_kinds command start rest ≡ []
  passes_below rest e =
      let end = end_of start rest in
      let walks = walk_fault (shape_of command) [] start rest in
      let settles = settle_kinds end.rows end.pending in
      let after = or_else (defaults_fault (settled_end end) rules) (check_fault (shape_of command) (rows_of_options (settled_end end)) false) in
      let parts = both_none walks (or_else settles after) e in
      none_of_both walks settles parts.0 (both_none settles after parts.1).0

rows_with : (c : WithOptions) (rest : List Text) → subcommand_of program (name_with c ∷ rest) ≡ Some (name_with c, rows_of_options (settled_end (end_of start rest)))
rows_with run rest = ap (λ (w : Walk). entered whole w.stopped) (walk_with run rest)
rows_with distinct rest = ap (λ (w : Walk). entered whole w.stopped) (walk_with distinct rest)
rows_with crew rest = ap (λ (w : Walk). entered whole w.stopped) (walk_with crew rest)
rows_with asserts rest = ap (λ (w : Walk). entered whole w.stopped) (walk_with asserts rest)
rows_with facts rest = ap (λ (w : Walk). entered whole w.stopped) (walk_with facts rest)

-- ---- the level of `load`

abbrev pub rows_of_load : List Row → List Row
rows_of_load rows = fold with_default rows load_rules

no_default_here : (a : Bool) (rows : List Row) → default_fault rows (rule_of_part a) ≡ []
no_default_here true rows = no_default true rows
no_default_here false rows = go (has_row (codes "number") rows)
  where
    go : (b : Bool) → cond (b || true) [] (default_fault [] (rule_of_part false)) ≡ []
    go true = refl
    go false = refl

no_load_defaults : (rows : List Row) → defaults_fault rows load_rules ≡ []
unfolding defaults_fault
no_load_defaults rows = none_of_both _ _ (no_default_here false rows) (none_of_both _ _ (no_default_here true (with_default rows (rule_of_part false))) refl)

-- the number is there
load_checked : (rows : List Row) → is_given (codes "number") rows ≡ true → check_fault load_shape rows false ≡ []
load_checked rows given = ap (λ (g : Bool). kinds_of_check false false ((true && not g) || false)) given

load_passes : (rest : List Text) → kinds_from load_shape start rest ≡ [] → is_given (codes "number") (rows_of_load (load_end start rest)) ≡ true → below load_shape rest ≡ []
load_passes rest e given =
    let parts = both_none _ _ e in
    none_of_both _ _ parts.0 (none_of_both _ _ parts.1 (none_of_both _ _ (no_load_defaults (load_end start rest)) (load_checked (rows_of_load (load_end start rest)) given)))

passes_load : (rest : List Text) → below load_shape rest ≡ [] → kinds_from load_shape start rest ≡ []
passes_load rest e =
    let end = held_after load_shape start rest in
    let walks = walk_fault load_shape [] start rest in
    let settles = settle_fault load_rules false end in
    let after = or_else (defaults_fault (load_end start rest) load_rules) (check_fault load_shape (rows_of_load (load_end start rest)) false) in
    let parts = both_none walks (or_else settles after) e in
    none_of_both walks settles parts.0 (both_none settles after parts.1).0

load_rows : (rest : List Text) → subcommand_of program (codes "load" ∷ rest) ≡ Some (codes "load", rows_of_load (load_end start rest))
load_rows rest = ap (λ (w : Walk). entered whole w.stopped) (load_walk rest)

-- the words are `load` and its parts
pub record HasParts (words : List Text) : Type 0 where
  pub parts : List Part
  pub are : words ≡ codes "load" ∷ all_words parts
  pub pass : PartsPass [] parts
  pub rows : subcommand_of program words ≡ Some (codes "load", rows_of_load (parts_rows [] parts))

accepted_parts : (rest : List Text) → has_dashes rest ≡ false → fault_of program (codes "load" ∷ rest) ≡ [] → HasParts (codes "load" ∷ rest)
accepted_parts rest safe e =
    let passes = passes_load rest (both_none _ _ (sym (load_faults rest) ∙ e)).0 in
    let r = read_parts rest false [] None safe passes in
    record {
      parts = r.parts;
      are = ap (λ ws. codes "load" ∷ ws) r.are;
      pass = r.pass;
      rows = load_rows rest ∙ ap (λ (xs : List Row). Some (codes "load", rows_of_load xs)) r.ends;
    }

-- with the number, in whichever order
pub record PartsAreRead (parts : List Part) : Type 0 where
  pub no_fault : fault_of program (codes "load" ∷ all_words parts) ≡ []
  pub rows : subcommand_of program (codes "load" ∷ all_words parts) ≡ Some (codes "load", rows_of_load (parts_rows [] parts))

has_number : (o : Order) (n : Text) (joined : Bool) (w : Text) → is_given (codes "number") (rows_of_load (parts_rows [] (in_order o n joined w))) ≡ true
has_number alone n joined w = refl
has_number before n joined w = refl
has_number behind_it n joined w = refl

pub parts_pass : (o : Order) (n : Text) (joined : Bool) (w : Text) → IsPlain n → IsPlain w → PartsPass [] (in_order o n joined w) → PartsAreRead (in_order o n joined w)
parts_pass o n joined w plain other pass =
    let parts = in_order o n joined w in
    let rest = all_words parts in
    let is = write_parts o n joined w plain other pass in
    let given = ap (λ (xs : List Row). is_given (codes "number") (rows_of_load xs)) is.ends ∙ has_number o n joined w in
    record {
      no_fault = load_faults rest ∙ none_of_both _ [] (load_passes rest is.passes given) refl;
      rows = load_rows rest ∙ ap (λ (xs : List Row). Some (codes "load", rows_of_load xs)) is.ends;
    }

-- ---- words that pass

top_long : HasLongAlone whole.top 1
top_long = record { no_short = λ x. refl; no_place = refl }

check_long : HasLongAlone check_shape 1
check_long = record { no_short = λ x. refl; no_place = refl }

no_rule : (s : Shape) (word : Text) → s.rules ≡ [] → IsLong s word → ⊥
no_rule s word none is =
    let bad : None ≡ Some is.rule = ap (λ rs. arg_by_long rs is.name) (sym none) ∙ is.found in
    absurd (cc)

-- the words are a command and uses of its options
pub record HasUses (command : Text) (words : List Text) : Type 0 where
  pub uses : List Use
  pub are : words ≡ command ∷ all_written uses
  pub pass : Pass [] uses
  pub rows : subcommand_of program words ≡ Some (command, rows_of_options (used_all [] uses))

-- words that pass, with the matches of these uses
pub record Passes (command : Text) (words : List Text) (uses : List Use) : Type 0 where
  pub no_fault : fault_of program words ≡ []
  pub rows : subcommand_of program words ≡ Some (command, rows_of_options (used_all [] uses))

accepted_uses : (c : WithOptions) (rest : List Text) → has_dashes rest ≡ false → fault_of program (name_with c ∷ rest) ≡ [] → HasUses (name_with c) (name_with c ∷ rest)
accepted_uses c rest safe e =
    let passes = passes_below (name_with c) rest (both_none _ _ (sym (faults_with c rest) ∙ e)).0 in
    let r = read_words (name_with c) rest [] None safe passes in
    record {
      uses = r.uses;
      are = ap (λ ws. name_with c ∷ ws) r.are;
      pass = r.pass;
      rows = rows_with c rest ∙ ap (λ (xs : List Row). Some (name_with c, rows_of_options xs)) r.ends;
    }

pub uses_pass : (c : WithOptions) (uses : List Use) → AllPlain uses → Pass [] uses → Passes (name_with c) (name_with c ∷ all_written uses) uses
uses_pass c uses plain pass =
    let rest = all_written uses in
    let w = write_uses (name_with c) uses plain [] None refl pass in
    record {
      no_fault = faults_with c rest ∙ none_of_both _ [] (below_passes (name_with c) rest w.passes) refl;
      rows = rows_with c rest ∙ ap (λ (xs : List Row). Some (name_with c, rows_of_options xs)) w.ends;
    }

-- the words are `check`, `load` and its parts, or another command and uses of its options
abbrev pub Accepted : List Text → Type 0
Accepted words = (words ≡ codes "check" ∷ []) ⊎ HasParts words ⊎ ((c : WithOptions) × HasUses (name_with c) words)

accepted_check : (rest : List Text) → has_dashes rest ≡ false → fault_of program (codes "check" ∷ rest) ≡ [] → rest ≡ []
unfolding walk_fault
accepted_check [] safe e = refl
accepted_check (word ∷ rest) safe e =
    let turn = (both_none _ _ (both_none _ _ (both_none _ _ (sym (check_faults (word ∷ rest)) ∙ e)).0).0).0 in
    absurd (no_rule check_shape word refl (idle_turn check_shape [] 1 check_long [] None word refl (first_safe word rest safe) turn))

other_word : (word : Text) (rest : List Text) → bytes_eq word (codes "--") ≡ false → subcommand_met names idle word ≡ None → fault_of program (word ∷ rest) ≡ [] → ⊥
unfolding walk_fault
other_word word rest safe none e =
    let turn = (both_none _ _ (both_none _ _ e).0).0 in
    no_rule whole.top word refl (idle_turn whole.top names 1 top_long [] None word none safe turn)

no_words : fault_of program [] ≡ [] → ⊥
unfolding clap_on_literals
no_words e = absurd (cc)

-- which command a word is, by its comparison with each name
abbrev met_by : Bool → Bool → Bool → Bool → Bool → Bool → Bool → Option Text
met_by r k d a f l c =
    option_map (λ (s : Text × List Text). s.0) (cond (r || false) (Some (codes "run", [])) (cond (k || false) (Some (codes "check", [])) (cond (d || false) (Some (codes "distinct", []))
    (cond (a || false) (Some (codes "assert", [])) (cond (f || false) (Some (codes "facts", [])) (cond (l || false) (Some (codes "load", []))
    (cond (c || false) (Some (codes "crew", [])) None)))))))

accepted_with : (c : WithOptions) (word : Text) (rest : List Text) → has_dashes (word ∷ rest) ≡ false → fault_of program (word ∷ rest) ≡ [] → bytes_eq (name_with c) word ≡ true → Accepted (word ∷ rest)
accepted_with c word rest safe e is =
    let same = (bytes_eq-Decides (name_with c) word).0 is in
    inr (inr (c, subst (λ (w : Text). HasUses (name_with c) (w ∷ rest)) same (accepted_uses c rest (others_safe word rest safe) (subst (λ (w : Text). fault_of program (w ∷ rest) ≡ []) (sym same) e))))

accepted_load : (word : Text) (rest : List Text) → has_dashes (word ∷ rest) ≡ false → fault_of program (word ∷ rest) ≡ [] → bytes_eq (codes "load") word ≡ true → Accepted (word ∷ rest)
accepted_load word rest safe e is =
    let same = (bytes_eq-Decides (codes "load") word).0 is in
    inr (inl (subst (λ (w : Text). HasParts (w ∷ rest)) same (accepted_parts rest (others_safe word rest safe) (subst (λ (w : Text). fault_of program (w ∷ rest) ≡ []) (sym same) e))))

accepted_word : (word : Text) (rest : List Text) → has_dashes (word ∷ rest) ≡ false → fault_of program (word ∷ rest) ≡ [] → bytes_eq (codes "check") word ≡ true → Accepted (word ∷ rest)
accepted_word word rest safe e is =
    let same = (bytes_eq-Decides (codes "check") word).0 is in
    let none = accepted_check rest (others_safe word rest safe) (subst (λ (w : Text). fault_of program (w ∷ rest) ≡ []) (sym same) e) in
    inl (ap₂ (λ (w : Text) (ws : List Text). w ∷ ws) (sym same) none)

pub accepted : (words : List Text) → has_dashes words ≡ false → fault_of program words ≡ [] → Accepted words
accepted [] safe e = absurd (no_words e)
accepted (word ∷ rest) safe e =
    go (bytes_eq (codes "run") word) (bytes_eq (codes "check") word) (bytes_eq (codes "distinct") word) (bytes_eq (codes "assert") word) (bytes_eq (codes "facts") word) (bytes_eq (codes "load") word) (bytes_eq (codes "crew") word) refl refl refl
    refl refl refl refl
  where
    go : (r k d a f l c : Bool) → bytes_eq (codes "run") word ≡ r → bytes_eq (codes "check") word ≡ k → bytes_eq (codes "distinct") word ≡ d → bytes_eq (codes "assert") word ≡ a → bytes_eq (codes "facts") word ≡ f
        → bytes_eq (codes "load") word ≡ l → bytes_eq (codes "crew") word ≡ c → Accepted (word ∷ rest)
    go true k d a f l c is-r is-k is-d is-a is-f is-l is-c = accepted_with run word rest safe e is-r
    go false true d a f l c is-r is-k is-d is-a is-f is-l is-c = accepted_word word rest safe e is-k
    go false false true a f l c is-r is-k is-d is-a is-f is-l is-c = accepted_with distinct word rest safe e is-d
    go false false false true f l c is-r is-k is-d is-a is-f is-l is-c = accepted_with asserts word rest safe e is-a
    go false false false false true l c is-r is-k is-d is-a is-f is-l is-c = accepted_with facts word rest safe e is-f
    go false false false false false true c is-r is-k is-d is-a is-f is-l is-c = accepted_load word rest safe e is-l
    go false false false false false false true is-r is-k is-d is-a is-f is-l is-c = accepted_with crew word rest safe e is-c
    go false false false false false false false is-r is-k is-d is-a is-f is-l is-c =
        let none : subcommand_met names idle word ≡ None =
        ap₂ (λ (x y : Bool). met_by x y (bytes_eq (codes "distinct") word) (bytes_eq (codes "assert") word) (bytes_eq (codes "facts") word) (bytes_eq (codes "load") word) (bytes_eq (codes "crew") word)) is-r is-k
        ∙ ap₂ (λ (x y : Bool). met_by false false x y (bytes_eq (codes "facts") word) (bytes_eq (codes "load") word) (bytes_eq (codes "crew") word)) is-d is-a
        ∙ ap₂ (λ (x y : Bool). met_by false false false false x y (bytes_eq (codes "crew") word)) is-f is-l ∙ ap (met_by false false false false false false) is-c in
        absurd (other_word word rest (first_safe word rest safe) none e)

-- ---- and only they do

pub check_passes : fault_of program (codes "check" ∷ []) ≡ []
unfolding clap_on_literals
check_passes = refl

pub check_rows : subcommand_of program (codes "check" ∷ []) ≡ Some (codes "check", [])
unfolding clap_on_literals
check_rows = refl

-- ---- `clap` says exactly what it makes of such a program

pub simple_program : is_simple program ≡ true
simple_program = refl

pub free_program : is_simple_and_free program ≡ true
free_program = refl
