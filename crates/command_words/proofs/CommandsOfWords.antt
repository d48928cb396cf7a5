-- The command that is read of the matches is the one that the words say.
use Rattle.std.proofs.Common.{◌≡◌, ◌≤◌, ◌∙◌, ◌⊎◌, ◌&&◌, ◌||◌, ℕ, Bool, cond, not, true, false, List, [], ◌∷◌, ◌++◌, codes, pos, Option, Some, None, IfNone, IfSome, refl, sym, ap, ap₂, subst, inl, inr, arith, append-nil}
use Rattle.std.specs.Str.{bytes_eq}
use Rattle.clap.specs.Kinds.{Kinds, IsAmong, or_else}
use Rattle.clap.specs.ValueTests.{accepts}
use Rattle.clap.specs.Walk.{Row, Text, first_of, has_row, one_of}
use Rattle.clap.specs.Simple.{subcommand_of}
use Rattle.clap.specs.Faults.{fault_of}
use Rattle.clap.specs.declared.error.kind.ErrorKind.{ErrorKind}
use Rattle.clap.specs.declared.error.kind.ErrorKind.TheVariants.{ArgumentConflict, ValueValidation}
use Rattle.clap.specs.declared.builder.value_parser.ValueParser.{ValueParser}
use Rattle.clap.specs.declared.builder.value_parser.ValueParser.TheVariants.{Signed}
use Rattle.command_words.specs.Words.{AreOptions, IsBehind, IsBudget, IsBudgetAlone, IsNumber, IsWorkers, Says, SaysNone}
use Rattle.command_words.specs.Program.{IsReadBy, ReadsBudget, ReadsLoad, ReadsNumber, ReadsOptions, ReadsWithBudget, ReadsWithOptions, program}
use Rattle.command_words.specs.declared.reading.Command.{Command}
use Rattle.command_words.specs.declared.reading.Command.TheVariants.{Run, Check, Distinct, Assert, Facts, Load, Crew}
use Rattle.command_words.proofs.CommandLemmas.{first_word, is_first_word, name_said, second_byte}
use Rattle.command_words.proofs.LongWords.{dashes}
use Rattle.command_words.proofs.Numbers.{accepted_number, number_in_range, number_plain}
use Rattle.command_words.proofs.LoadParts.{all_words, parts_rows}
use Rattle.command_words.proofs.Options.{AllPlain, Pass, Use, all_written, has_dashes, name_of, spelled, use_kinds, use_rows, used_all, written}
use Rattle.command_words.proofs.ReadOptions.{IsTaken, absent, number_here, taken}
use Rattle.command_words.proofs.LoadCommand.{load_clean, load_is_read, read_load}
use Rattle.command_words.proofs.Program.{HasParts, HasUses, WithOptions, run, distinct, crew, asserts, facts, accepted, check_passes, check_rows, name_with, rows_of_load, rows_of_options, uses_pass}

-- ---- one use

abbrev parser_of : Bool → ValueParser
parser_of true = Signed (pos 1) (pos 16)
parser_of false = Signed (pos 0) (pos 100000)

record IsFresh (a : Bool) (v : Text) (rows : List Row) : Type 0 where
  pub fresh : has_row (name_of a) rows ≡ false
  pub takes : accepts false (parser_of a) v ≡ true

abbrev kinds_by : Bool → Bool → Kinds
kinds_by used taken = or_else (cond (used && true) (ArgumentConflict ∷ []) []) (or_else (cond taken [] (ValueValidation ∷ [])) [])

fresh_use : (a : Bool) (v : Text) (rows : List Row) → use_kinds a v rows ≡ [] → IsFresh a v rows
fresh_use true v rows e = go (has_row (name_of true) rows) (accepts false (parser_of true) v) refl refl e
  where
    go : (x y : Bool) → has_row (name_of true) rows ≡ x → accepts false (parser_of true) v ≡ y → kinds_by x y ≡ [] → IsFresh true v rows
    go true y is is' bad = absurd (cc)
    go false true is is' e = record { fresh = is; takes = is' }
    go false false is is' bad = absurd (cc)
fresh_use false v rows e = go (has_row (name_of false) rows) (accepts false (parser_of false) v) refl refl e
  where
    go : (x y : Bool) → has_row (name_of false) rows ≡ x → accepts false (parser_of false) v ≡ y → kinds_by x y ≡ [] → IsFresh false v rows
    go true y is is' bad = absurd (cc)
    go false true is is' e = record { fresh = is; takes = is' }
    go false false is is' bad = absurd (cc)

use_passes : (a : Bool) (v : Text) (rows : List Row) → IsFresh a v rows → use_kinds a v rows ≡ []
use_passes true v rows is = ap₂ kinds_by is.fresh is.takes
use_passes false v rows is = ap₂ kinds_by is.fresh is.takes

abbrev matched : List Use → List Row
matched uses = rows_of_options (used_all [] uses)

-- ---- what is read of the matches

is_workers : (joined : Bool) (v : Text) (n : ℕ) (rows : List Row) → IsTaken v n → IsFresh true v rows → IsWorkers (written (record { which = true; joined = joined; value = v })) n
is_workers joined v n rows t f =
    let range = number_in_range 1 16 v t.number f.takes in
    record { word = v; number = t.number; is = t.is; least = subst (λ (m : ℕ). 1 ≤ m) (sym t.is) range.least; most = subst (λ (m : ℕ). m ≤ 16) (sym t.is) range.most; given = go joined }
  where
    go : (j : Bool) → (written (record { which = true; joined = j; value = v }) ≡ codes "--workers" ∷ v ∷ []) ⊎ (written (record { which = true; joined = j; value = v }) ≡ (codes "--workers" ++ codes "=" ++ v) ∷ [])
    go true = inr refl
    go false = inl refl

is_budget : (joined : Bool) (v : Text) (n : ℕ) (rows : List Row) → IsTaken v n → IsFresh false v rows → IsBudget (written (record { which = false; joined = joined; value = v })) n
is_budget joined v n rows t f =
    let range = number_in_range 0 100000 v t.number f.takes in
    record { word = v; number = t.number; is = t.is; least = subst (λ (m : ℕ). 0 ≤ m) (sym t.is) range.least; most = subst (λ (m : ℕ). m ≤ 100000) (sym t.is) range.most; given = go joined }
  where
    go : (j : Bool) → (written (record { which = false; joined = j; value = v }) ≡ codes "--budget" ∷ v ∷ []) ⊎ (written (record { which = false; joined = j; value = v }) ≡ (codes "--budget" ++ codes "=" ++ v) ∷ [])
    go true = inr refl
    go false = inl refl

-- these are the options that the words have
abbrev Reading : List Use → Type 0
Reading uses = Pass [] uses → (workers budget : ℕ) → ReadsNumber 4 (codes "workers") (matched uses) (Some workers) → ReadsNumber 20000 (codes "budget") (matched uses) (Some budget) → AreOptions (all_written uses) workers budget

read_none : Reading []
read_none pass workers budget w b = inl (refl, absent 4 workers (codes "workers") [] refl w, absent 20000 budget (codes "budget") [] refl b)

read_one : (a j : Bool) (v : Text) → Reading (record { which = a; joined = j; value = v } ∷ [])
read_one true j v pass workers budget w b =
    let u : Use = record { which = true; joined = j; value = v } in
    let rows = matched (u ∷ []) in
    let is = is_workers j v workers [] (taken 4 workers (codes "workers") rows v refl refl w) (fresh_use true v [] pass.0) in
    inr (inl (subst (λ (ws : List Text). IsWorkers ws workers) (sym (append-nil (written u))) is, absent 20000 budget (codes "budget") rows refl b))
read_one false j v pass workers budget w b =
    let u : Use = record { which = false; joined = j; value = v } in
    let rows = matched (u ∷ []) in
    let is = is_budget j v budget [] (taken 20000 budget (codes "budget") rows v refl refl b) (fresh_use false v [] pass.0) in
    inr (inr (inl (subst (λ (ws : List Text). IsBudget ws budget) (sym (append-nil (written u))) is, absent 4 workers (codes "workers") rows refl w)))

-- no option is used twice
again : (a : Bool) (v : Text) (rows : List Row) → has_row (name_of a) rows ≡ true → use_kinds a v rows ≡ [] → ⊥
again a v rows has e = let fresh = (fresh_use a v rows e).fresh in absurd (cc (has, fresh))

read_two : (a j : Bool) (v : Text) (a' j' : Bool) (v' : Text) → Reading (record { which = a; joined = j; value = v } ∷ record { which = a'; joined = j'; value = v' } ∷ [])
read_two true j v true j' v' pass workers budget w b = absurd (again true v' (use_rows true v []) refl pass.1.0)
read_two false j v false j' v' pass workers budget w b = absurd (again false v' (use_rows false v []) refl pass.1.0)
read_two true j v false j' v' pass workers budget w b =
    let u : Use = record { which = true; joined = j; value = v } in
    let t : Use = record { which = false; joined = j'; value = v' } in
    let rows = matched (u ∷ t ∷ []) in
    let first = is_workers j v workers [] (taken 4 workers (codes "workers") rows v refl refl w) (fresh_use true v [] pass.0) in
    let second = is_budget j' v' budget (use_rows true v []) (taken 20000 budget (codes "budget") rows v' refl refl b) (fresh_use false v' (use_rows true v []) pass.1.0) in
    inr (inr (inr (inl (record { front = written u; back = written t; in_order = ap (λ ws. written u ++ ws) (append-nil (written t)); first = first; second = second }))))
read_two false j v true j' v' pass workers budget w b =
    let u : Use = record { which = false; joined = j; value = v } in
    let t : Use = record { which = true; joined = j'; value = v' } in
    let rows = matched (u ∷ t ∷ []) in
    let first = is_budget j v budget [] (taken 20000 budget (codes "budget") rows v refl refl b) (fresh_use false v [] pass.0) in
    let second = is_workers j' v' workers (use_rows false v []) (taken 4 workers (codes "workers") rows v' refl refl w) (fresh_use true v' (use_rows false v []) pass.1.0) in
    inr (inr (inr (inr (record { front = written u; back = written t; in_order = ap (λ ws. written u ++ ws) (append-nil (written t)); first = first; second = second }))))

no_third : (a : Bool) (v : Text) (a' : Bool) (v' : Text) (a'' : Bool) (v'' : Text) → use_kinds a' v' (use_rows a v []) ≡ [] → use_kinds a'' v'' (use_rows a' v' (use_rows a v [])) ≡ [] → ⊥
no_third true v true v' a'' v'' second third = again true v' (use_rows true v []) refl second
no_third false v false v' a'' v'' second third = again false v' (use_rows false v []) refl second
no_third true v false v' true v'' second third = again true v'' (use_rows false v' (use_rows true v [])) refl third
no_third true v false v' false v'' second third = again false v'' (use_rows false v' (use_rows true v [])) refl third
no_third false v true v' true v'' second third = again true v'' (use_rows true v' (use_rows false v [])) refl third
no_third false v true v' false v'' second third = again false v'' (use_rows true v' (use_rows false v [])) refl third

read_options : (uses : List Use) → Reading uses
read_options [] = read_none
read_options (u ∷ []) = read_one u.which u.joined u.value
read_options (u ∷ t ∷ []) = read_two u.which u.joined u.value t.which t.joined t.value
read_options (u ∷ t ∷ s ∷ more) = λ pass workers budget w b. absurd (no_third u.which u.value t.which t.value s.which s.value pass.1.0 pass.1.1.0)

-- where no number of workers is given, there is a budget at most
read_budget : (uses : List Use) → Pass [] uses → first_of (codes "workers") (matched uses) ≡ None → (budget : ℕ) → ReadsNumber 20000 (codes "budget") (matched uses) (Some budget) → IsBudgetAlone (all_written uses) budget
read_budget [] pass none budget b = inl (refl, absent 20000 budget (codes "budget") [] refl b)
read_budget (u ∷ []) pass none budget b = one u.which u.joined u.value pass none b
  where
    one : (a j : Bool) (v : Text) → Pass [] (record { which = a; joined = j; value = v } ∷ []) → first_of (codes "workers") (matched (record { which = a; joined = j; value = v } ∷ [])) ≡ None
        → ReadsNumber 20000 (codes "budget") (matched (record { which = a; joined = j; value = v } ∷ [])) (Some budget) → IsBudgetAlone (all_written (record { which = a; joined = j; value = v } ∷ [])) budget
    one true j v pass none b = absurd (cc)
    one false j v pass none b =
        let t : Use = record { which = false; joined = j; value = v } in
        let is = is_budget j v budget [] (taken 20000 budget (codes "budget") (matched (t ∷ [])) v refl refl b) (fresh_use false v [] pass.0) in
        inr (subst (λ (ws : List Text). IsBudget ws budget) (sym (append-nil (written t))) is)
read_budget (u ∷ t ∷ []) pass none budget b = absurd (two u.which u.joined u.value t.which t.joined t.value pass none)
  where
    two : (a j : Bool) (v : Text) (a' j' : Bool) (v' : Text) → Pass [] (record { which = a; joined = j; value = v } ∷ record { which = a'; joined = j'; value = v' } ∷ [])
        → first_of (codes "workers") (matched (record { which = a; joined = j; value = v } ∷ record { which = a'; joined = j'; value = v' } ∷ [])) ≡ None → ⊥
    two true j v true j' v' pass none = again true v' (use_rows true v []) refl pass.1.0
    two false j v false j' v' pass none = again false v' (use_rows false v []) refl pass.1.0
    two true j v false j' v' pass none = absurd (cc)
    two false j v true j' v' pass none = absurd (cc)
read_budget (u ∷ t ∷ s ∷ more) pass none budget b = absurd (no_third u.which u.value t.which t.value s.which s.value pass.1.0 pass.1.1.0)

-- ---- words that say a command

-- what is read of these rows are numbers
abbrev HasNumbers : List Row → Type 0
HasNumbers rows = (a : Bool) (text : Text) → first_of (name_of a) rows ≡ Some text → IsNumber text × (one_of (name_of a) rows ≡ Some text)

record IsGood (options : List Text) : Type 0 where
  pub uses : List Use
  pub are : options ≡ all_written uses
  pub plain : AllPlain uses
  pub pass : Pass [] uses
  pub numbers : HasNumbers (matched uses)

no_number : (text : Text) {P : Type 0} → None ≡ Some text → P
no_number text e = absurd (cc)

numbers_none : HasNumbers []
numbers_none a text e = no_number text e

numbers_one : (a j : Bool) (v : Text) → IsNumber v → HasNumbers (matched (record { which = a; joined = j; value = v } ∷ []))
numbers_one true j v is true text e = number_here v text is e
numbers_one true j v is false text e = no_number text e
numbers_one false j v is true text e = no_number text e
numbers_one false j v is false text e = number_here v text is e

numbers_two : (a j : Bool) (v : Text) (j' : Bool) (v' : Text) → IsNumber v → IsNumber v' → HasNumbers (matched (record { which = a; joined = j; value = v } ∷ record { which = not a; joined = j'; value = v' } ∷ []))
numbers_two true j v j' v' is is' true text e = number_here v text is e
numbers_two true j v j' v' is is' false text e = number_here v' text is' e
numbers_two false j v j' v' is is' true text e = number_here v' text is' e
numbers_two false j v j' v' is is' false text e = number_here v text is e

-- an option as a use
record IsUse (a : Bool) (words : List Text) : Type 0 where
  pub joined : Bool
  pub value : Text
  pub number : IsNumber value
  pub takes : accepts false (parser_of a) value ≡ true
  pub are : words ≡ written (record { which = a; joined = joined; value = value })

use_of_workers : (words : List Text) (n : ℕ) → IsWorkers words n → IsUse true words
use_of_workers words n is = go is.given
  where
    takes : accepts false (parser_of true) is.word ≡ true
    takes = accepted_number 1 16 is.word (omega arith) is.number (subst (λ (m : ℕ). 1 ≤ m) is.is is.least) (subst (λ (m : ℕ). m ≤ 16) is.is is.most)

    go : (words ≡ codes "--workers" ∷ is.word ∷ []) ⊎ (words ≡ (codes "--workers" ++ codes "=" ++ is.word) ∷ []) → IsUse true words
    go (inl e) = record { joined = false; value = is.word; number = is.number; takes = takes; are = e }
    go (inr e) = record { joined = true; value = is.word; number = is.number; takes = takes; are = e }

use_of_budget : (words : List Text) (n : ℕ) → IsBudget words n → IsUse false words
use_of_budget words n is = go is.given
  where
    takes : accepts false (parser_of false) is.word ≡ true
    takes = accepted_number 0 100000 is.word (omega arith) is.number (subst (λ (m : ℕ). 0 ≤ m) is.is is.least) (subst (λ (m : ℕ). m ≤ 100000) is.is is.most)

    go : (words ≡ codes "--budget" ∷ is.word ∷ []) ⊎ (words ≡ (codes "--budget" ++ codes "=" ++ is.word) ∷ []) → IsUse false words
    go (inl e) = record { joined = false; value = is.word; number = is.number; takes = takes; are = e }
    go (inr e) = record { joined = true; value = is.word; number = is.number; takes = takes; are = e }

abbrev use_as : (a : Bool) (words : List Text) → IsUse a words → Use
use_as a words u = record { which = a; joined = u.joined; value = u.value }

good_one : (a : Bool) (words : List Text) → IsUse a words → IsGood words
good_one a words u = record {
  uses = use_as a words u ∷ [];
  are = u.are ∙ sym (append-nil (written (use_as a words u)));
  plain = (number_plain u.value u.number, tt);
  pass = (use_passes a u.value [] (record { fresh = refl; takes = u.takes }), tt);
  numbers = numbers_one a u.joined u.value u.number;
}

other_fresh : (a : Bool) (v : Text) → has_row (name_of (not a)) (use_rows a v []) ≡ false
other_fresh true v = refl
other_fresh false v = refl

good_two : (a : Bool) (words front back : List Text) → words ≡ front ++ back → IsUse a front → IsUse (not a) back → IsGood words
good_two a words front back e u t =
    let first = use_as a front u in
    let second = use_as (not a) back t in
    record {
      uses = first ∷ second ∷ [];
      are = e ∙ ap₂ (λ (xs ys : List Text). xs ++ ys) u.are (t.are ∙ sym (append-nil (written second)));
      plain = (number_plain u.value u.number, (number_plain t.value t.number, tt));
      pass = (use_passes a u.value [] (record { fresh = refl; takes = u.takes }), (use_passes (not a) t.value (use_rows a u.value []) (record { fresh = other_fresh a u.value; takes = t.takes }), tt));
      numbers = numbers_two a u.joined u.value t.joined t.value u.number t.number;
    }

good_options : (options : List Text) (workers budget : ℕ) → AreOptions options workers budget → IsGood options
good_options options workers budget (inl none) = record { uses = []; are = none.0; plain = tt; pass = tt; numbers = numbers_none }
good_options options workers budget (inr (inl one)) = good_one true options (use_of_workers options workers one.0)
good_options options workers budget (inr (inr (inl one))) = good_one false options (use_of_budget options budget one.0)
good_options options workers budget (inr (inr (inr (inl both)))) =
    good_two true options both.front both.back both.in_order (use_of_workers both.front workers both.first) (use_of_budget both.back budget both.second)
good_options options workers budget (inr (inr (inr (inr both)))) =
    good_two false options both.front both.back both.in_order (use_of_budget both.front budget both.first) (use_of_workers both.back workers both.second)

-- options without a number of workers
record HasNoWorkers (options : List Text) : Type 0 where
  pub good : IsGood options
  pub none : first_of (codes "workers") (matched good.uses) ≡ None

good_budget : (options : List Text) (budget : ℕ) → IsBudgetAlone options budget → HasNoWorkers options
unfolding good_one
good_budget options budget (inl none) = record { good = record { uses = []; are = none.0; plain = tt; pass = tt; numbers = numbers_none }; none = refl }
good_budget options budget (inr one) = record { good = good_one false options (use_of_budget options budget one); none = refl }

-- none of them is `--`
spelled_safe : (a : Bool) (given : Option Text) → bytes_eq (spelled a given) dashes ≡ false
spelled_safe true given = refl
spelled_safe false given = refl

uses_safe : (uses : List Use) → AllPlain uses → has_dashes (all_written uses) ≡ false
uses_safe [] plain = refl
uses_safe (u ∷ us) plain = go u.joined (uses_safe us plain.1)
  where
    go : (j : Bool) → has_dashes (all_written us) ≡ false → has_dashes (written (record u { joined = j }) ++ all_written us) ≡ false
    go true e = ap₂ (λ (x y : Bool). x || y) (spelled_safe u.which (Some u.value)) e
    go false e = ap₂ (λ (x y : Bool). x || y) (spelled_safe u.which None) (ap₂ (λ (x y : Bool). x || y) plain.0.safe e)

-- ---- the answers

-- words that say a command have no `--` and no fault
record IsClean (words : List Text) : Type 0 where
  pub safe : has_dashes words ≡ false
  pub passes : fault_of program words ≡ []

options_clean : (c : WithOptions) (words options : List Text) → words ≡ name_with c ∷ options → IsGood options → IsClean words
options_clean c words options e good =
    let whole = e ∙ ap (λ ws. name_with c ∷ ws) good.are in
    record {
      safe = ap has_dashes whole ∙ ap₂ (λ (x y : Bool). x || y) (name_safe c) (uses_safe good.uses good.plain);
      passes = ap (fault_of program) whole ∙ (uses_pass c good.uses good.plain good.pass).no_fault;
    }
  where
    name_safe : (c : WithOptions) → bytes_eq (name_with c) dashes ≡ false
    name_safe run = refl
    name_safe distinct = refl
    name_safe crew = refl
    name_safe asserts = refl
    name_safe facts = refl

says_clean : (words : List Text) (c : Command) → Says words c → IsClean words
says_clean words (Run workers budget) says = options_clean run words says.0 says.1 (good_options says.0 workers budget says.2)
says_clean words Check says = record { safe = ap has_dashes says; passes = ap (fault_of program) says ∙ check_passes }
says_clean words (Distinct workers budget) says = options_clean distinct words says.0 says.1 (good_options says.0 workers budget says.2)
says_clean words (Assert budget) says = options_clean asserts words says.0 says.1 (good_budget says.0 budget says.2).good
says_clean words (Facts budget) says = options_clean facts words says.0 says.1 (good_budget says.0 budget says.2).good
says_clean words (Crew workers budget) says = options_clean crew words says.0 says.1 (good_options says.0 workers budget says.2)
says_clean words (Load number workers) says = let clean = load_clean words number workers says in record { safe = clean.safe; passes = clean.passes }

pub escape_says_none : (words : List Text) → has_dashes words ≡ true → SaysNone words
escape_says_none words e c says = let safe = (says_clean words c says).safe in absurd (cc (e, safe))

pub fault_says_none : (words : List Text) (k : ErrorKind) → IsAmong k (fault_of program words) → SaysNone words
fault_says_none words k is c says = subst (IsAmong k) (says_clean words c says).passes is

-- the command is none where no command is said, and else the one that is
pub record IsSaid (words : List Text) (said : Option Command) : Type 0 where
  pub none : IfNone said (SaysNone words)
  pub some : IfSome said (Says words)

abbrev Found : Type 0
Found = Option (Text × List Row)

said_check : (words : List Text) (said : Option Command) → words ≡ codes "check" ∷ [] → said ≡ Some Check → IsSaid words said
said_check words said e is = subst (IsSaid words) (sym is) (record { none = tt; some = e })

same_rows : (name : Text) (xs ys : List Row) → ◌≡◌ {A = Found} (Some (name, xs)) (Some (name, ys)) → xs ≡ ys
same_rows name xs ys e = let both : ◌≡◌ {A = Text × List Row} (name, xs) (name, ys) = cc in ap (λ (p : Text × List Row). p.1) both

-- the matches are those of the options that the words have
rows_of_good : (c : WithOptions) (words options : List Text) (is : HasUses (name_with c) words) → words ≡ name_with c ∷ options → (good : IsGood options) → matched good.uses ≡ matched is.uses
rows_of_good c words options is e good =
    let whole = e ∙ ap (λ ws. name_with c ∷ ws) good.are in
    let rows = (uses_pass c good.uses good.plain good.pass).rows in
    let both : ◌≡◌ {A = Found} (Some (name_with c, matched good.uses)) (Some (name_with c, matched is.uses)) = sym rows ∙ ap (subcommand_of program) (sym whole) ∙ is.rows in
    same_rows (name_with c) (matched good.uses) (matched is.uses) both

-- options that are so are read
read_at_all : (c : WithOptions) (words : List Text) (is : HasUses (name_with c) words) → ReadsOptions (matched is.uses) None → (workers budget : ℕ) → IsBehind (name_with c) words (λ o. AreOptions o workers budget) → ⊥
read_at_all c words is reads workers budget says =
    let good = good_options says.0 workers budget says.2 in
    let numbers = subst HasNumbers (rows_of_good c words says.0 is says.1 good) good.numbers in
    elim reads [
      | inl w ↦ let n = numbers true w.0 w.1 in w.2 n.0 n.1
      | inr b ↦ let n = numbers false b.0 b.1 in b.2 n.0 n.1
    ]

budget_at_all : (c : WithOptions) (words : List Text) (is : HasUses (name_with c) words) → ReadsBudget (matched is.uses) None → (budget : ℕ) → IsBehind (name_with c) words (λ o. IsBudgetAlone o budget) → ⊥
budget_at_all c words is reads budget says =
    let alone = good_budget says.0 budget says.2 in
    let rows = rows_of_good c words says.0 is says.1 alone.good in
    let numbers = subst HasNumbers rows alone.good.numbers in
    elim reads [
      | inl given ↦ given (ap (first_of (codes "workers")) (sym rows) ∙ alone.none)
      | inr b ↦ let n = numbers false b.0 b.1 in b.2 n.0 n.1
    ]

-- what is read of the rows of a command
abbrev Reads : WithOptions → List Row → Option Command → Type 0
Reads run = ReadsWithOptions Run
Reads distinct = ReadsWithOptions Distinct
Reads crew = ReadsWithOptions Crew
Reads asserts = ReadsWithBudget Assert
Reads facts = ReadsWithBudget Facts

-- words with this name say no command where nothing is read
none_said : (c : WithOptions) (words : List Text) (is : HasUses (name_with c) words) → Reads c (matched is.uses) None → (d : Command) → Says words d → name_said d ≡ name_with c → ⊥
none_said run words is reads (Run workers budget) says e = read_at_all run words is reads workers budget says
none_said run words is reads Check says e = absurd (omega (arith, ap second_byte e))
none_said run words is reads (Distinct workers budget) says e = absurd (omega (arith, ap second_byte e))
none_said run words is reads (Assert budget) says e = absurd (omega (arith, ap second_byte e))
none_said run words is reads (Facts budget) says e = absurd (omega (arith, ap second_byte e))
none_said run words is reads (Load number workers) says e = absurd (omega (arith, ap second_byte e))
none_said run words is reads (Crew workers budget) says e = absurd (omega (arith, ap second_byte e))
none_said distinct words is reads (Run workers budget) says e = absurd (omega (arith, ap second_byte e))
none_said distinct words is reads Check says e = absurd (omega (arith, ap second_byte e))
none_said distinct words is reads (Distinct workers budget) says e = read_at_all distinct words is reads workers budget says
none_said distinct words is reads (Assert budget) says e = absurd (omega (arith, ap second_byte e))
none_said distinct words is reads (Facts budget) says e = absurd (omega (arith, ap second_byte e))
none_said distinct words is reads (Load number workers) says e = absurd (omega (arith, ap second_byte e))
none_said distinct words is reads (Crew workers budget) says e = absurd (omega (arith, ap second_byte e))
none_said crew words is reads (Run workers budget) says e = absurd (omega (arith, ap second_byte e))
none_said crew words is reads Check says e = absurd (omega (arith, ap second_byte e))
none_said crew words is reads (Distinct workers budget) says e = absurd (omega (arith, ap second_byte e))
none_said crew words is reads (Assert budget) says e = absurd (omega (arith, ap second_byte e))
none_said crew words is reads (Facts budget) says e = absurd (omega (arith, ap second_byte e))
none_said crew words is reads (Load number workers) says e = absurd (omega (arith, ap second_byte e))
none_said crew words is reads (Crew workers budget) says e = read_at_all crew words is reads workers budget says
none_said asserts words is reads (Run workers budget) says e = absurd (omega (arith, ap second_byte e))
none_said asserts words is reads Check says e = absurd (omega (arith, ap second_byte e))
none_said asserts words is reads (Distinct workers budget) says e = absurd (omega (arith, ap second_byte e))
none_said asserts words is reads (Assert budget) says e = budget_at_all asserts words is reads budget says
none_said asserts words is reads (Facts budget) says e = absurd (omega (arith, ap second_byte e))
none_said asserts words is reads (Load number workers) says e = absurd (omega (arith, ap second_byte e))
none_said asserts words is reads (Crew workers budget) says e = absurd (omega (arith, ap second_byte e))
none_said facts words is reads (Run workers budget) says e = absurd (omega (arith, ap second_byte e))
none_said facts words is reads Check says e = absurd (omega (arith, ap second_byte e))
none_said facts words is reads (Distinct workers budget) says e = absurd (omega (arith, ap second_byte e))
none_said facts words is reads (Assert budget) says e = absurd (omega (arith, ap second_byte e))
none_said facts words is reads (Facts budget) says e = budget_at_all facts words is reads budget says
none_said facts words is reads (Load number workers) says e = absurd (omega (arith, ap second_byte e))
none_said facts words is reads (Crew workers budget) says e = absurd (omega (arith, ap second_byte e))

some_said : (c : WithOptions) (words : List Text) (is : HasUses (name_with c) words) (d : Command) → Reads c (matched is.uses) (Some d) → Says words d
some_said run words is d reads = subst (Says words) (sym reads.2) (all_written is.uses, is.are, read_options is.uses is.pass reads.0.workers reads.0.budget reads.1.0 reads.1.1)
some_said distinct words is d reads = subst (Says words) (sym reads.2) (all_written is.uses, is.are, read_options is.uses is.pass reads.0.workers reads.0.budget reads.1.0 reads.1.1)
some_said crew words is d reads = subst (Says words) (sym reads.2) (all_written is.uses, is.are, read_options is.uses is.pass reads.0.workers reads.0.budget reads.1.0 reads.1.1)
some_said asserts words is d reads = subst (Says words) (sym reads.2) (all_written is.uses, is.are, read_budget is.uses is.pass reads.1.0 reads.0 reads.1.1)
some_said facts words is d reads = subst (Says words) (sym reads.2) (all_written is.uses, is.are, read_budget is.uses is.pass reads.1.0 reads.0 reads.1.1)

said_with : (c : WithOptions) (words : List Text) (said : Option Command) (is : HasUses (name_with c) words) → Reads c (matched is.uses) said → IsSaid words said
said_with c words None is reads = record {
  none = λ d says. none_said c words is reads d says (sym (is_first_word words d says) ∙ ap first_word is.are);
  some = tt;
}
said_with c words (Some d) is reads = record { none = tt; some = some_said c words is d reads }

-- the same of `load`
no_load_said : (words : List Text) (is : HasParts words) → ReadsLoad (rows_of_load (parts_rows [] is.parts)) None → (d : Command) → Says words d → name_said d ≡ codes "load" → ⊥
no_load_said words is reads (Run workers budget) says e = absurd (omega (arith, ap second_byte e))
no_load_said words is reads Check says e = absurd (omega (arith, ap second_byte e))
no_load_said words is reads (Distinct workers budget) says e = absurd (omega (arith, ap second_byte e))
no_load_said words is reads (Assert budget) says e = absurd (omega (arith, ap second_byte e))
no_load_said words is reads (Facts budget) says e = absurd (omega (arith, ap second_byte e))
no_load_said words is reads (Load number workers) says e = load_is_read words is reads number workers says
no_load_said words is reads (Crew workers budget) says e = absurd (omega (arith, ap second_byte e))

said_load : (words : List Text) (said : Option Command) (is : HasParts words) → ReadsLoad (rows_of_load (parts_rows [] is.parts)) said → IsSaid words said
said_load words None is reads = record {
  none = λ d says. no_load_said words is reads d says (sym (is_first_word words d says) ∙ ap first_word is.are);
  some = tt;
}
said_load words (Some d) is reads = record {
  none = tt;
  some = subst (Says words) (sym reads.4) (all_words is.parts, is.are, read_load is.parts is.pass reads.0 reads.1 reads.2 reads.3);
}

pub is_said : (words : List Text) (found : Found) (said : Option Command) → has_dashes words ≡ false → fault_of program words ≡ [] → found ≡ subcommand_of program words → IsReadBy found said → IsSaid words said
is_said words found said safe none is read =
    elim (accepted words safe none) [
      | inl e ↦ said_check words said e (read.check [] (is ∙ ap (subcommand_of program) e ∙ check_rows))
      | inr (inl l) ↦ said_load words said l (read.load (rows_of_load (parts_rows [] l.parts)) (is ∙ l.rows))
      | inr (inr r) ↦ said_with r.0 words said r.1 (reads r.0 (matched r.1.uses) (is ∙ r.1.rows))
    ]
  where
    reads : (c : WithOptions) (rows : List Row) → found ≡ Some (name_with c, rows) → Reads c rows said
    reads run = read.run
    reads distinct = read.distinct
    reads crew = read.crew
    reads asserts = read.asserts
    reads facts = read.facts
