-- What was read keeps to the limits, line by line.
use Rattle.std.proofs.Common.{◌≡◌, ◌≤◌, ◌<◌, ◌+◌, ◌++◌, ℕ, zero, suc, Bool, true, false, not, nat_lt, ◌||◌, if◌then◌else◌, List, [], ◌∷◌, Option, Some, None, IfSome, map, length, bytes_eq, refl, sym, ap, subst, arith, length-append}
use Rattle.std.proofs.lemmas.List.{length-map}
use Rattle.std.specs.List.{AllByRecursion}
use Rattle.std.proofs.lemmas.Bool.Decides.{nat_tests}
use Rattle.session_words.specs.declared.commands.Command.{Command}
use Rattle.script_format.specs.declared.entries.ModelEntry.{ModelEntry}
use Rattle.script_format.specs.declared.entries.SessionEntry.{SessionEntry}
use Rattle.script_format.specs.declared.fault.Kind.{Kind}
use Rattle.script_format.specs.declared.fault.Kind.TheVariants as kind
use Rattle.script_format.specs.declared.keys.Key.{Key}
use Rattle.script_format.specs.declared.line.Line.{Line}
use Rattle.script_format.specs.declared.line.Line.TheVariants as line
use Rattle.script_format.specs.declared.line.Open.{Open}
use Rattle.script_format.specs.declared.line.Open.TheVariants as open_
use Rattle.script_format.specs.Keys.{key_of, with_key, keys_from, keys_of}
use Rattle.script_format.specs.Lines.{line_of}
use Rattle.script_format.specs.Reading.{Reading, Start, place_from, model_named, session_named, is_there, or_zero, asks, new_session, fault_of, after, changed, with_text, with_command, most_commands, most_asked}
use Rattle.script_format.specs.Script.{Leads}
use Rattle.script_format.specs.Sound.{IsThere, IsSound}
use Rattle.script_format.proofs.LineReadings.{beyond}
use Rattle.script_format.proofs.Sizes.{text_of, more, sizes, sizes_more, sizes_changed}

-- no fault from a test on
pub none_of : (b : Bool) (k : Kind) (o : Option Kind) → (if b then Some k else o) ≡ None → (b ≡ false) × (o ≡ None)
none_of false k o e = (refl, e)
none_of true k o e = absurd (cc)

at_most : (m n : ℕ) → nat_lt m n ≡ false → n ≤ m
at_most m n e = grind (arith, nat_tests)

neither : (a b : Bool) → (a || b) ≡ false → (a ≡ false) × (b ≡ false)
neither false b e = (refl, e)
neither true b e = absurd (cc)

there : (b : Bool) → not b ≡ false → b ≡ true
there true e = refl
there false e = absurd (cc)

later : (m n : ℕ) (o : Option ℕ) → m ≤ n → IfSome o (λ k. k < m) → IfSome o (λ k. k < n)
later m n None l h = tt
later m n (Some k) l h = omega arith

-- the place of a name is one
below : (n : ℕ) (name : List ℕ) (names : List (List ℕ)) → IfSome (place_from n name names) (λ k. k < n + length names)
below n name [] = tt
below n name (x ∷ xs) =
    let on : IfSome (place_from (n + 1) name xs) (λ k. k < n + 1 + length xs) = below (n + 1) name xs in
    let go : (b : Bool) (o : Option ℕ) → IfSome o (λ k. k < n + 1 + length xs) → IfSome (if b then Some n else o) (λ k. k < n + length (x ∷ xs)) =
    λ b o h. elim b as (λ b. IfSome (if b then Some n else o) (λ k. k < n + length (x ∷ xs))) [
      | true ↦ omega arith
      | false ↦ later (n + 1 + length xs) (n + length (x ∷ xs)) o (omega arith) h
    ] in
    go (bytes_eq x name) (place_from (n + 1) name xs) on

found : (n : ℕ) (o : Option ℕ) → is_there o ≡ true → IfSome o (λ k. k < n) → or_zero o < n
found n None e h = absurd (cc)
found n (Some k) e h = h

named_below : (name : List ℕ) (names : List (List ℕ)) (n : ℕ) → length names ≡ n → is_there (place_from 0 name names) ≡ true → or_zero (place_from 0 name names) < n
named_below name names n l e = found n (place_from 0 name names) e (later (0 + length names) n (place_from 0 name names) (omega arith) (below 0 name names))

-- keys of one session more
keys_more : (keys : List Key) (ss : List SessionEntry) (s : SessionEntry) → keys_from keys (ss ++ s ∷ []) ≡ with_key (keys_from keys ss) (key_of s)
keys_more keys [] s = refl
keys_more keys (x ∷ xs) s = keys_more (with_key keys (key_of x)) xs s

-- a command more changes no key
keys_changed : (keys : List Key) (c : Command) (k : ℕ) (ss : List SessionEntry) → keys_from keys (changed (with_command c) k ss) ≡ keys_from keys ss
keys_changed keys c k [] = refl
keys_changed keys c zero (x ∷ xs) = refl
keys_changed keys c (suc k) (x ∷ xs) = keys_changed (with_key keys (key_of x)) c k xs

-- a change keeps the number
pub length-changed : {X : Type 0} (f : X → X) (k : ℕ) (xs : List X) → length (changed f k xs) ≡ length xs
length-changed f k [] = refl
length-changed f zero (x ∷ xs) = refl
length-changed f (suc k) (x ∷ xs) = ap suc (length-changed f k xs)

abbrev On : ℕ → List SessionEntry → Type 0
On n ss = AllByRecursion (λ (s : SessionEntry). s.model < n) ss

on_changed : (n : ℕ) (c : Command) (k : ℕ) (ss : List SessionEntry) → On n ss → On n (changed (with_command c) k ss)
on_changed n c k [] h = tt
on_changed n c zero (x ∷ xs) h = (h.0, h.1)
on_changed n c (suc k) (x ∷ xs) h = (h.0, on_changed n c k xs h.1)

on_more : (n : ℕ) (ss : List SessionEntry) (s : SessionEntry) → On n ss → s.model < n → On n (ss ++ s ∷ [])
on_more n [] s h l = (l, tt)
on_more n (x ∷ xs) s h l = (h.0, on_more n xs s h.1 l)

on_wider : (m n : ℕ) (ss : List SessionEntry) → m ≤ n → On m ss → On n ss
on_wider m n [] l h = tt
on_wider m n (x ∷ xs) l h = (omega (arith, h.0), on_wider m n xs l h.1)

-- what was begun is there where there is as much or more
still : (r s : Reading) (o : Open) → length r.models ≤ length s.models → length r.sessions ≤ length s.sessions → IsThere r o → IsThere s o
still r s open_.Nothing a b h = tt
still r s (open_.Model k) a b h = omega arith
still r s (open_.Session k) a b h = omega arith

-- a line without a fault keeps to the limits
pub sound_on : (r : Reading) (text : List ℕ) (l : Line) → IsSound r → fault_of r l ≡ None → IsSound (after r text l)
unfolding fault_of after
sound_on r text line.Idle h e = h
sound_on r text line.Stray h e = h
sound_on r text line.BadNumber h e = h
sound_on r text line.Unknown h e = h
sound_on r text (line.Text k) h e =
    let same = length-changed (with_text text) k r.models in
    record {
      there = still r (after r text (line.Text k)) r.began (omega arith) (omega arith) h.there;
      models = omega (arith, h.models);
      sessions = h.sessions;
      keys = h.keys;
      commands = h.commands;
      asked = h.asked;
      named = on_wider (length r.models) (length (changed (with_text text) k r.models)) r.sessions (omega arith) h.named;
    }
sound_on r text (line.Model name) h e =
    let one = none_of (is_there (model_named r name)) kind.Twice (if nat_lt 16 (length r.models + 1) then Some kind.TooMany else None) e in
    let few = at_most 16 (length r.models + 1) (none_of (nat_lt 16 (length r.models + 1)) kind.TooMany None one.1).0 in
    let more = length-append r.models (record { name = name; text = [] } ∷ []) in
    record {
      there = omega arith;
      models = omega arith;
      sessions = h.sessions;
      keys = h.keys;
      commands = h.commands;
      asked = h.asked;
      named = on_wider (length r.models) (length (after r text (line.Model name)).models) r.sessions (omega arith) h.named;
    }
sound_on r text (line.Session name model number) h e =
    let s = new_session r name model number in
    let many = nat_lt 64 (length r.sessions + 1) || nat_lt 16 (length (with_key (keys_of r.sessions) (key_of s))) in
    let last : Option Kind = if many then Some kind.TooMany else None in
    let third : Option Kind = if is_there (session_named r name) then Some kind.Twice else last in
    let second : Option Kind = if not (is_there (model_named r model)) then Some kind.UnknownModel else third in
    let a = none_of (not (is_there number)) kind.BadNumber second e in
    let b = none_of (not (is_there (model_named r model))) kind.UnknownModel third a.1 in
    let c = none_of (is_there (session_named r name)) kind.Twice last b.1 in
    let d = none_of many kind.TooMany None c.1 in
    let both = neither (nat_lt 64 (length r.sessions + 1)) (nat_lt 16 (length (with_key (keys_of r.sessions) (key_of s)))) d.0 in
    let few = at_most 64 (length r.sessions + 1) both.0 in
    let keys = at_most 16 (length (with_key (keys_of r.sessions) (key_of s))) both.1 in
    let more = length-append r.sessions (s ∷ []) in
    record {
      there = omega arith;
      models = h.models;
      sessions = omega arith;
      keys = subst (λ (ks : List Key). length ks ≤ 16) (sym (keys_more [] r.sessions s)) keys;
      commands = h.commands;
      asked = h.asked;
      named = on_more (length r.models) r.sessions s h.named (named_below model (map (λ (m : ModelEntry). m.name) r.models) (length r.models) (length-map r.models (λ (m : ModelEntry). m.name)) (there (is_there (model_named r model)) b.0));
    }
sound_on r text (line.More name) h e =
    let a = none_of (not (is_there (session_named r name))) kind.UnknownSession None e in
    record {
      there = named_below name (map (λ (s : SessionEntry). s.name) r.sessions) (length r.sessions) (length-map r.sessions (λ (s : SessionEntry). s.name)) (there (is_there (session_named r name)) a.0);
      models = h.models;
      sessions = h.sessions;
      keys = h.keys;
      commands = h.commands;
      asked = h.asked;
      named = h.named;
    }
sound_on r text (line.Command k command) h e =
    let a = none_of (nat_lt most_commands (r.commands + 1) || nat_lt most_asked (r.asked + asks command)) kind.TooMany None e in
    let both = neither (nat_lt most_commands (r.commands + 1)) (nat_lt most_asked (r.asked + asks command)) a.0 in
    let same = length-changed (with_command command) k r.sessions in
    record {
      there = still r (after r text (line.Command k command)) r.began (omega arith) (omega arith) h.there;
      models = h.models;
      sessions = omega (arith, h.sessions);
      keys = subst (λ (ks : List Key). length ks ≤ 16) (sym (keys_changed [] command k r.sessions)) h.keys;
      commands = at_most most_commands (r.commands + 1) both.0;
      asked = at_most most_asked (r.asked + asks command) both.1;
      named = on_changed (length r.models) command k r.sessions h.named;
    }

pub sound_at_start : IsSound Start
sound_at_start = record { there = tt; models = omega arith; sessions = omega arith; keys = omega arith; commands = omega arith; asked = omega arith; named = tt }

-- lines without a fault keep to the limits
pub sound_after : (first last : Reading) (texts : List (List ℕ)) → Leads first texts last → IsSound first → IsSound last
sound_after first last [] e h = subst IsSound (sym e) h
sound_after first last (x ∷ xs) p h = sound_after (beyond first x) last xs p.1 (sound_on first x (line_of first.began x) h p.0)

-- how long the texts become
sizes_on : (r : Reading) (text : List ℕ) (l : Line) → sizes (after r text l).models ≤ sizes r.models + length text + 1
unfolding after
sizes_on r text line.Idle = omega arith
sizes_on r text line.Stray = omega arith
sizes_on r text line.BadNumber = omega arith
sizes_on r text line.Unknown = omega arith
sizes_on r text (line.Text k) = sizes_changed text k r.models
sizes_on r text (line.Model name) = omega (arith, sizes_more r.models name)
sizes_on r text (line.Session name model number) = omega arith
sizes_on r text (line.More name) = omega arith
sizes_on r text (line.Command k command) = omega arith

pub sizes_after : (first last : Reading) (texts : List (List ℕ)) → Leads first texts last → sizes last.models ≤ sizes first.models + length (text_of texts)
sizes_after first last [] e = omega (arith, ap (λ (r : Reading). sizes r.models) e)
sizes_after first last (x ∷ xs) p = omega (arith, more x xs, sizes_after (beyond first x) last xs p.1, sizes_on first x (line_of first.began x))
