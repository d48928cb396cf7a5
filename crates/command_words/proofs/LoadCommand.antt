-- The command `load` that is read of the matches is the one that the words say.
use Rattle.std.proofs.Common.{◌≡◌, ◌≤◌, ◌∙◌, ◌⊎◌, ◌&&◌, ℕ, ◌||◌, Bool, cond, true, false, List, [], ◌∷◌, ◌++◌, codes, pos, Option, Some, None, refl, sym, ap, ap₂, subst, inl, inr, arith, append-nil}
use Rattle.std.specs.Str.{bytes_eq}
use Rattle.clap.specs.Kinds.{Kinds, or_else}
use Rattle.clap.specs.Faults.{fault_of}
use Rattle.clap.specs.Lexer.{without_minus}
use Rattle.clap.specs.ValueTests.{accepts}
use Rattle.clap.specs.Walk.{Row, Text, first_of, has_row, one_of}
use Rattle.clap.specs.Simple.{subcommand_of}
use Rattle.clap.specs.declared.error.kind.ErrorKind.TheVariants.{ArgumentConflict, ValueValidation}
use Rattle.clap.specs.declared.builder.value_parser.ValueParser.TheVariants.{Signed}
use Rattle.command_words.specs.Words.{AreOfLoad, IsBehind, IsLoadNumber, IsNumber, IsWorkers}
use Rattle.command_words.specs.Program.{ReadsGiven, ReadsLoad, ReadsNumber, program}
use Rattle.command_words.proofs.LoadParts.{Order, alone, before, behind_it, Part, PartsPass, all_words, in_order, label_of, option_words, part_kinds, part_rows, parts_rows}
use Rattle.command_words.proofs.LongWords.{dashes}
use Rattle.command_words.proofs.Options.{has_dashes}
use Rattle.command_words.proofs.Numbers.{accepted_number, minus_off, number_in_range, number_plain}
use Rattle.command_words.proofs.Program.{HasParts, parts_pass, rows_of_load}
use Rattle.command_words.proofs.ReadOptions.{IsTaken, absent, number_here, taken}

-- both are numbers from 1 to 16
record IsFresh (a : Bool) (v : Text) (rows : List Row) : Type 0 where
  pub fresh : has_row (label_of a) rows ≡ false
  pub takes : accepts false (Signed (pos 1) (pos 16)) v ≡ true

abbrev kinds_by : Bool → Bool → Kinds
kinds_by used taken = or_else (cond (used && true) (ArgumentConflict ∷ []) []) (or_else (cond taken [] (ValueValidation ∷ [])) [])

kinds_are : (a : Bool) (v : Text) (rows : List Row) → part_kinds a v rows ≡ kinds_by (has_row (label_of a) rows) (accepts false (Signed (pos 1) (pos 16)) v)
kinds_are true v rows = refl
kinds_are false v rows = refl

fresh_part : (a : Bool) (v : Text) (rows : List Row) → part_kinds a v rows ≡ [] → IsFresh a v rows
fresh_part a v rows e = go (has_row (label_of a) rows) (accepts false (Signed (pos 1) (pos 16)) v) refl refl (sym (kinds_are a v rows) ∙ e)
  where
    go : (x y : Bool) → has_row (label_of a) rows ≡ x → accepts false (Signed (pos 1) (pos 16)) v ≡ y → kinds_by x y ≡ [] → IsFresh a v rows
    go true y is is' bad = absurd (cc)
    go false true is is' e = record { fresh = is; takes = is' }
    go false false is is' bad = absurd (cc)

part_passes : (a : Bool) (v : Text) (rows : List Row) → IsFresh a v rows → part_kinds a v rows ≡ []
part_passes a v rows is = kinds_are a v rows ∙ ap₂ kinds_by is.fresh is.takes

again : (a : Bool) (v : Text) (rows : List Row) → has_row (label_of a) rows ≡ true → part_kinds a v rows ≡ [] → ⊥
again a v rows has e = let fresh = (fresh_part a v rows e).fresh in absurd (cc (has, fresh))

abbrev matched : List Part → List Row
matched parts = rows_of_load (parts_rows [] parts)

-- ---- what is read of the matches is what the words say

given : (n : ℕ) (name : Text) (rows : List Row) (v : Text) → first_of name rows ≡ Some v → one_of name rows ≡ Some (without_minus v) → ReadsGiven name rows (Some n) → IsTaken v n
given n name rows v first one reads = taken 0 n name rows v first one (inr reads)

is_number : (v : Text) (n : ℕ) (rows : List Row) → IsTaken v n → IsFresh false v rows → IsLoadNumber (v ∷ []) n
is_number v n rows t f =
    let range = number_in_range 1 16 v t.number f.takes in
    record { word = v; number = t.number; is = t.is; least = subst (λ (m : ℕ). 1 ≤ m) (sym t.is) range.least; most = subst (λ (m : ℕ). m ≤ 16) (sym t.is) range.most; alone = refl }

is_workers : (joined : Bool) (v : Text) (n : ℕ) (rows : List Row) → IsTaken v n → IsFresh true v rows → IsWorkers (option_words joined v) n
is_workers joined v n rows t f =
    let range = number_in_range 1 16 v t.number f.takes in
    record { word = v; number = t.number; is = t.is; least = subst (λ (m : ℕ). 1 ≤ m) (sym t.is) range.least; most = subst (λ (m : ℕ). m ≤ 16) (sym t.is) range.most; given = go joined }
  where
    go : (j : Bool) → (option_words j v ≡ codes "--workers" ∷ v ∷ []) ⊎ (option_words j v ≡ (codes "--workers" ++ codes "=" ++ v) ∷ [])
    go true = inr refl
    go false = inl refl

abbrev Reading : List Part → Type 0
Reading parts = PartsPass [] parts → (number workers : ℕ) → ReadsGiven (codes "number") (matched parts) (Some number) → ReadsNumber 4 (codes "workers") (matched parts) (Some workers) → AreOfLoad (all_words parts) number workers

no_number : (name : Text) (rows : List Row) (n : ℕ) → first_of name rows ≡ None → ReadsGiven name rows (Some n) → ⊥
no_number name rows n none reads = let bad : None ≡ Some reads.0 = sym none ∙ reads.1 in absurd (cc)

read_one : (a j : Bool) (v : Text) → Reading (record { is_option = a; joined = j; value = v } ∷ [])
read_one true j v pass number workers n w = absurd (no_number (codes "number") (matched (record { is_option = true; joined = j; value = v } ∷ [])) number refl n)
read_one false j v pass number workers n w =
    let rows = matched (record { is_option = false; joined = j; value = v } ∷ []) in
    inl (is_number v number [] (given number (codes "number") rows v refl refl n) (fresh_part false v [] pass.0), absent 4 workers (codes "workers") rows refl w)

read_two : (a j : Bool) (v : Text) (a' j' : Bool) (v' : Text) → Reading (record { is_option = a; joined = j; value = v } ∷ record { is_option = a'; joined = j'; value = v' } ∷ [])
read_two true j v true j' v' pass number workers n w = absurd (again true v' (part_rows true v []) refl pass.1.0)
read_two false j v false j' v' pass number workers n w = absurd (again false v' (part_rows false v []) refl pass.1.0)
read_two true j v false j' v' pass number workers n w =
    let rows = matched (record { is_option = true; joined = j; value = v } ∷ record { is_option = false; joined = j'; value = v' } ∷ []) in
    let first = is_workers j v workers [] (taken 4 workers (codes "workers") rows v refl refl w) (fresh_part true v [] pass.0) in
    let second = is_number v' number (part_rows true v []) (given number (codes "number") rows v' refl refl n) (fresh_part false v' (part_rows true v []) pass.1.0) in
    inr (inr (record { front = option_words j v; back = v' ∷ []; in_order = refl; first = first; second = second }))
read_two false j v true j' v' pass number workers n w =
    let rows = matched (record { is_option = false; joined = j; value = v } ∷ record { is_option = true; joined = j'; value = v' } ∷ []) in
    let first = is_number v number [] (given number (codes "number") rows v refl refl n) (fresh_part false v [] pass.0) in
    let second = is_workers j' v' workers (part_rows false v []) (taken 4 workers (codes "workers") rows v' refl refl w) (fresh_part true v' (part_rows false v []) pass.1.0) in
    inr (inl (record { front = v ∷ []; back = option_words j' v'; in_order = ap (λ ws. v ∷ ws) (append-nil (option_words j' v')); first = first; second = second }))

no_third : (a : Bool) (v : Text) (a' : Bool) (v' : Text) (a'' : Bool) (v'' : Text) → part_kinds a' v' (part_rows a v []) ≡ [] → part_kinds a'' v'' (part_rows a' v' (part_rows a v [])) ≡ [] → ⊥
no_third true v true v' a'' v'' second third = again true v' (part_rows true v []) refl second
no_third false v false v' a'' v'' second third = again false v' (part_rows false v []) refl second
no_third true v false v' true v'' second third = again true v'' (part_rows false v' (part_rows true v [])) refl third
no_third true v false v' false v'' second third = again false v'' (part_rows false v' (part_rows true v [])) refl third
no_third false v true v' true v'' second third = again true v'' (part_rows true v' (part_rows false v [])) refl third
no_third false v true v' false v'' second third = again false v'' (part_rows true v' (part_rows false v [])) refl third

pub read_load : (parts : List Part) → Reading parts
read_load [] = λ pass number workers n w. absurd (no_number (codes "number") [] number refl n)
read_load (p ∷ []) = read_one p.is_option p.joined p.value
read_load (p ∷ q ∷ []) = read_two p.is_option p.joined p.value q.is_option q.joined q.value
read_load (p ∷ q ∷ r ∷ more) = λ pass number workers n w. absurd (no_third p.is_option p.value q.is_option q.value r.is_option r.value pass.1.0 pass.1.1.0)

-- ---- words that say it

-- the words are such parts, of numbers that are read again
pub record IsGoodLoad (words : List Text) : Type 0 where
  pub order : Order
  pub number : Text
  pub joined : Bool
  pub workers : Text
  pub are : words ≡ all_words (in_order order number joined workers)
  pub is_number : IsNumber number
  pub are_workers : IsNumber workers
  pub pass : PartsPass [] (in_order order number joined workers)

-- an option of the workers, as it stands
record IsOptionOf (words : List Text) : Type 0 where
  pub joined : Bool
  pub value : Text
  pub number : IsNumber value
  pub takes : accepts false (Signed (pos 1) (pos 16)) value ≡ true
  pub are : words ≡ option_words joined value

option_of_workers : (words : List Text) (n : ℕ) → IsWorkers words n → IsOptionOf words
option_of_workers words n is = go is.given
  where
    takes : accepts false (Signed (pos 1) (pos 16)) is.word ≡ true
    takes = accepted_number 1 16 is.word (omega arith) is.number (subst (λ (m : ℕ). 1 ≤ m) is.is is.least) (subst (λ (m : ℕ). m ≤ 16) is.is is.most)

    go : (words ≡ codes "--workers" ∷ is.word ∷ []) ⊎ (words ≡ (codes "--workers" ++ codes "=" ++ is.word) ∷ []) → IsOptionOf words
    go (inl e) = record { joined = false; value = is.word; number = is.number; takes = takes; are = e }
    go (inr e) = record { joined = true; value = is.word; number = is.number; takes = takes; are = e }

takes_number : (words : List Text) (n : ℕ) (is : IsLoadNumber words n) → accepts false (Signed (pos 1) (pos 16)) is.word ≡ true
takes_number words n is = accepted_number 1 16 is.word (omega arith) is.number (subst (λ (m : ℕ). 1 ≤ m) is.is is.least) (subst (λ (m : ℕ). m ≤ 16) is.is is.most)

other_fresh : (a b : Bool) (v : Text) → cond a (cond b false true) b ≡ true → has_row (label_of b) (part_rows a v []) ≡ false
other_fresh true true v e = absurd (cc)
other_fresh true false v e = refl
other_fresh false true v e = refl
other_fresh false false v e = absurd (cc)

good_load : (words : List Text) (n workers : ℕ) → AreOfLoad words n workers → IsGoodLoad words
good_load words n workers (inl one) = record {
  order = alone;
  number = one.0.word;
  joined = false;
  workers = one.0.word;
  are = one.0.alone;
  is_number = one.0.number;
  are_workers = one.0.number;
  pass = (part_passes false one.0.word [] (record { fresh = refl; takes = takes_number words n one.0 }), tt);
}
good_load words n workers (inr (inl both)) =
    let u = option_of_workers both.back workers both.second in
    let v = both.first.word in
    record {
      order = before;
      number = v;
      joined = u.joined;
      workers = u.value;
      are = both.in_order ∙ ap₂ (λ (xs ys : List Text). xs ++ ys) both.first.alone (u.are ∙ sym (append-nil (option_words u.joined u.value)));
      is_number = both.first.number;
      are_workers = u.number;
      pass = (
        part_passes false v [] (record { fresh = refl; takes = takes_number both.front n both.first }),
        (part_passes true u.value (part_rows false v []) (record { fresh = other_fresh false true v refl; takes = u.takes }), tt),
      );
    }
good_load words n workers (inr (inr both)) =
    let u = option_of_workers both.front workers both.first in
    let v = both.second.word in
    record {
      order = behind_it;
      number = v;
      joined = u.joined;
      workers = u.value;
      are = both.in_order ∙ ap₂ (λ (xs ys : List Text). xs ++ ys) u.are both.second.alone;
      is_number = both.second.number;
      are_workers = u.number;
      pass = (
        part_passes true u.value [] (record { fresh = refl; takes = u.takes }),
        (part_passes false v (part_rows true u.value []) (record { fresh = other_fresh true false u.value refl; takes = takes_number both.back n both.second }), tt),
      );
    }

-- its numbers are read
record HasBoth (rows : List Row) : Type 0 where
  pub text : Text
  pub first : first_of (codes "number") rows ≡ Some text
  pub number : IsNumber text
  pub one : one_of (codes "number") rows ≡ Some text
  pub workers : (text : Text) → first_of (codes "workers") rows ≡ Some text → IsNumber text × (one_of (codes "workers") rows ≡ Some text)

no_text : (text : Text) {P : Type 0} → None ≡ Some text → P
no_text text e = absurd (cc)

both_read : (o : Order) (n : Text) (joined : Bool) (w : Text) → IsNumber n → IsNumber w → HasBoth (matched (in_order o n joined w))
both_read alone n joined w is other = record { text = n; first = refl; number = is; one = ap Some (minus_off n is); workers = λ text e. no_text text e }
both_read before n joined w is other = record { text = n; first = refl; number = is; one = ap Some (minus_off n is); workers = λ text e. number_here w text other e }
both_read behind_it n joined w is other = record { text = n; first = refl; number = is; one = ap Some (minus_off n is); workers = λ text e. number_here w text other e }

nothing_wanting : (rows : List Row) → HasBoth rows → ReadsLoad rows None → ⊥
nothing_wanting rows has (inl (inl none)) = let bad : Some has.text ≡ None = sym has.first ∙ none in absurd (cc)
nothing_wanting rows has (inl (inr text)) =
    let same : Some text.0 ≡ Some has.text = sym text.1 ∙ has.first in
    let is : text.0 ≡ has.text = cc in
    text.2 (subst IsNumber (sym is) has.number) (has.one ∙ ap Some (sym is))
nothing_wanting rows has (inr text) = let n = has.workers text.0 text.1 in text.2 n.0 n.1

-- they have no `--` and no fault
parts_safe : (o : Order) (n : Text) (joined : Bool) (w : Text) → bytes_eq n dashes ≡ false → bytes_eq w dashes ≡ false → has_dashes (all_words (in_order o n joined w)) ≡ false
parts_safe alone n joined w number workers = ap (λ (x : Bool). x || false) number
parts_safe before n true w number workers = ap (λ (x : Bool). x || false) number
parts_safe before n false w number workers = ap₂ (λ (x y : Bool). x || (y || false)) number workers
parts_safe behind_it n true w number workers = ap (λ (x : Bool). x || false) number
parts_safe behind_it n false w number workers = ap₂ (λ (x y : Bool). x || (y || false)) workers number

pub record IsCleanLoad (words : List Text) : Type 0 where
  pub safe : has_dashes words ≡ false
  pub passes : fault_of program words ≡ []

pub load_clean : (words : List Text) (number workers : ℕ) → IsBehind (codes "load") words (λ o. AreOfLoad o number workers) → IsCleanLoad words
load_clean words number workers says =
    let good = good_load says.0 number workers says.2 in
    let whole = says.1 ∙ ap (λ ws. codes "load" ∷ ws) good.are in
    let n = number_plain good.number good.is_number in
    let w = number_plain good.workers good.are_workers in
    record {
      safe = ap has_dashes whole ∙ parts_safe good.order good.number good.joined good.workers n.safe w.safe;
      passes = ap (fault_of program) whole ∙ (parts_pass good.order good.number good.joined good.workers n w good.pass).no_fault;
    }

same_rows : (xs ys : List Row) → ◌≡◌ {A = Option (Text × List Row)} (Some (codes "load", xs)) (Some (codes "load", ys)) → xs ≡ ys
same_rows xs ys e = let both : ◌≡◌ {A = Text × List Row} (codes "load", xs) (codes "load", ys) = cc in ap (λ (p : Text × List Row). p.1) both

-- words that say a load are read
pub load_is_read : (words : List Text) (is : HasParts words) → ReadsLoad (matched is.parts) None → (number workers : ℕ) → IsBehind (codes "load") words (λ o. AreOfLoad o number workers) → ⊥
load_is_read words is reads number workers says =
    let good = good_load says.0 number workers says.2 in
    let parts = in_order good.order good.number good.joined good.workers in
    let whole = says.1 ∙ ap (λ ws. codes "load" ∷ ws) good.are in
    let rows = (parts_pass good.order good.number good.joined good.workers (number_plain good.number good.is_number) (number_plain good.workers good.are_workers) good.pass).rows in
    let both : ◌≡◌ {A = Option (Text × List Row)} (Some (codes "load", matched parts)) (Some (codes "load", matched is.parts)) = sym rows ∙ ap (subcommand_of program) (sym whole) ∙ is.rows in
    let same = same_rows (matched parts) (matched is.parts) both in
    nothing_wanting (matched is.parts) (subst HasBoth same (both_read good.order good.number good.joined good.workers good.is_number good.are_workers)) reads
