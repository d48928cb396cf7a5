-- What the commands of a script ask for, line by line.
use Rattle.std.proofs.Common.{◌≡◌, ◌≤◌, ◌+◌, ◌++◌, ◌&&◌, ℕ, zero, suc, Bool, true, false, nat_le, if◌then◌else◌, List, [], ◌∷◌, Option, Some, None, IfSome, All, get_or, bytes_eq, codes, refl, subst, sym, arith}
use Rattle.std.proofs.lemmas.Bool.Decides.{nat_tests}
use Rattle.std.specs.List.{AllByRecursion}
use Rattle.std.proofs.lemmas.List.Elements.{All-from_recursion}
use Rattle.std.specs.Str.Lines.{lines}
use Rattle.session_words.specs.declared.atom_names.AtomName.{AtomName}
use Rattle.session_words.specs.declared.commands.Command.{Command}
use Rattle.session_words.specs.declared.steps.Step.TheVariants as step
use Rattle.script_format.specs.declared.entries.SessionEntry.{SessionEntry}
use Rattle.script_format.specs.declared.entries.Script.{Script}
use Rattle.script_format.specs.declared.line.Line.{Line}
use Rattle.script_format.specs.declared.line.Line.TheVariants as line
use Rattle.script_format.specs.declared.line.Open.{Open}
use Rattle.script_format.specs.declared.line.Open.TheVariants as open_
use Rattle.script_format.specs.Words.{words_in, is_directive, is_idle, is_name, number_in, if_within, number_within}
use Rattle.script_format.specs.Tuples.{is_relation_name, tuple_in}
use Rattle.script_format.specs.Lines.{step_line, directive_of_three, directive_of, command_of_one, command_of_two, command_of_three, all_line, budget_line, augment_line, command_of, line_beside, line_of}
use Rattle.script_format.specs.Reading.{Reading, Start, asks, new_session, after, changed, with_command, most_asked}
use Rattle.script_format.specs.Script.{Leads, IsScript}
use Rattle.script_format.specs.Limits.{IsAllowed, asked_by, asked_in}
use Rattle.script_format.proofs.LineReadings.{beyond}
use Rattle.script_format.proofs.Soundness.{sound_after, sound_at_start}

-- ---- how many scenarios

asked_behind : (cs : List Command) (c : Command) → asked_by (cs ++ c ∷ []) ≡ asked_by cs + asks c
asked_behind [] c = omega arith
asked_behind (x ∷ xs) c = omega (arith, asked_behind xs c)

asked_changed : (c : Command) (k : ℕ) (ss : List SessionEntry) → asked_in (changed (with_command c) k ss) ≤ asked_in ss + asks c
asked_changed c k [] = omega arith
asked_changed c zero (x ∷ xs) = omega (arith, asked_behind x.commands c)
asked_changed c (suc k) (x ∷ xs) = omega (arith, asked_changed c k xs)

asked_more : (ss : List SessionEntry) (s : SessionEntry) → asked_by s.commands ≡ 0 → asked_in (ss ++ s ∷ []) ≡ asked_in ss
asked_more [] s none = omega (arith, none)
asked_more (x ∷ xs) s none = omega (arith, asked_more xs s none)

-- the sessions ask for no more than was counted
abbrev IsCounted : Reading → Type 0
IsCounted r = asked_in r.sessions ≤ r.asked

counted_on : (r : Reading) (text : List ℕ) (l : Line) → IsCounted r → IsCounted (after r text l)
unfolding after
counted_on r text line.Idle h = h
counted_on r text line.Stray h = h
counted_on r text line.BadNumber h = h
counted_on r text line.Unknown h = h
counted_on r text (line.Text k) h = h
counted_on r text (line.Model name) h = h
counted_on r text (line.Session name model number) h = omega (arith, h, asked_more r.sessions (new_session r name model number) refl)
counted_on r text (line.More name) h = h
counted_on r text (line.Command k command) h = omega (arith, h, asked_changed command k r.sessions)

counted_after : (first last : Reading) (texts : List (List ℕ)) → Leads first texts last → IsCounted first → IsCounted last
counted_after first last [] e h = subst IsCounted (sym e) h
counted_after first last (x ∷ xs) p h = counted_after (beyond first x) last xs p.1 (counted_on first x (line_of first.began x) h)

-- ---- which commands

-- the line's command, if it has one, is allowed
abbrev Allows : Line → Type 0
Allows (line.Command k command) = IsAllowed command
Allows other = Unit {0}

either : (b : Bool) (x y : Line) → Allows x → Allows y → Allows (if b then x else y)
either true x y p q = p
either false x y p q = q

within : (least most : ℕ) (o : Option ℕ) → IfSome (if_within least most o) (λ n. (least ≤ n) × (n ≤ most))
within least most None = tt
within least most (Some n) =
    let go : (a b : Bool) → nat_le least n ≡ a → nat_le n most ≡ b → IfSome (if a && b then Some n else None) (λ n. (least ≤ n) × (n ≤ most)) =
    λ a b. elim a as (λ a. nat_le least n ≡ a → nat_le n most ≡ b → IfSome (if a && b then Some n else None) (λ n. (least ≤ n) × (n ≤ most))) [
      | true ↦ elim b as (λ b. nat_le least n ≡ true → nat_le n most ≡ b → IfSome (if true && b then Some n else None) (λ n. (least ≤ n) × (n ≤ most))) [
        | true ↦ λ p q. (grind (arith, nat_tests), grind (arith, nat_tests))
        | false ↦ λ p q. tt
      ]
      | false ↦ λ p q. tt
    ] in
    go (nat_le least n) (nat_le n most) refl refl

all_allows : (k : ℕ) (o : Option ℕ) → IfSome o (λ n. (1 ≤ n) × (n ≤ 1000)) → Allows (all_line k o)
all_allows k None h = tt
all_allows k (Some n) h = h

budget_allows : (k : ℕ) (o : Option ℕ) → IfSome o (λ n. (0 ≤ n) × (n ≤ 100000)) → Allows (budget_line k o)
budget_allows k None h = tt
budget_allows k (Some n) h = h.1

augment_allows : (k : ℕ) (relation : List ℕ) (o : Option (List AtomName)) → Allows (augment_line k relation o)
augment_allows k relation None = tt
augment_allows k relation (Some tuple) = tt

one_allows : (k : ℕ) (a : List ℕ) → Allows (command_of_one k a)
one_allows k a =
    let proof : Line = if bytes_eq a (codes "proof") then step_line k step.Proof else line.Unknown in
    let back : Line = if bytes_eq a (codes "back") then step_line k step.Back else proof in
    let offers : Line = if bytes_eq a (codes "offers") then step_line k step.Offers else back in
    let a4 = either (bytes_eq a (codes "proof")) (step_line k step.Proof) line.Unknown tt tt in
    let a3 = either (bytes_eq a (codes "back")) (step_line k step.Back) proof tt a4 in
    let a2 = either (bytes_eq a (codes "offers")) (step_line k step.Offers) back tt a3 in
    either (bytes_eq a (codes "next")) (step_line k step.Next) offers tt a2

two_allows : (k : ℕ) (a b : List ℕ) → Allows (command_of_two k a b)
two_allows k a b =
    let budget : Line = if bytes_eq a (codes "budget") then budget_line k (number_within 0 100000 b) else line.Unknown in
    let one = either (bytes_eq a (codes "budget")) (budget_line k (number_within 0 100000 b)) line.Unknown (budget_allows k (number_within 0 100000 b) (within 0 100000 (number_in b))) tt in
    either (bytes_eq a (codes "all")) (all_line k (number_within 1 1000 b)) budget (all_allows k (number_within 1 1000 b) (within 1 1000 (number_in b))) one

three_allows : (k : ℕ) (a b c : List ℕ) → Allows (command_of_three k a b c)
three_allows k a b c = either (bytes_eq a (codes "augment") && is_relation_name b) (augment_line k b (tuple_in c)) line.Unknown (augment_allows k b (tuple_in c)) tt

command_allows : (k : ℕ) (words : List (List ℕ)) → Allows (command_of k words)
command_allows k [] = tt
command_allows k (a ∷ []) = one_allows k a
command_allows k (a ∷ b ∷ []) = two_allows k a b
command_allows k (a ∷ b ∷ c ∷ []) = three_allows k a b c
command_allows k (a ∷ b ∷ c ∷ d ∷ others) = tt

of_three_allows : (a b c : List ℕ) → Allows (directive_of_three a b c)
of_three_allows a b c =
    let more : Line = if bytes_eq b (codes "more") then line.More c else line.Unknown in
    let kind : Line = if bytes_eq b (codes "model") then line.Model c else more in
    let one = either (bytes_eq b (codes "more")) (line.More c) line.Unknown tt tt in
    let two = either (bytes_eq b (codes "model")) (line.Model c) more tt one in
    either (bytes_eq a (codes "==") && is_name c) kind line.Unknown two tt

directive_allows : (words : List (List ℕ)) → Allows (directive_of words)
directive_allows [] = tt
directive_allows (a ∷ []) = tt
directive_allows (a ∷ b ∷ []) = tt
directive_allows (a ∷ b ∷ c ∷ []) = of_three_allows a b c
directive_allows (a ∷ b ∷ c ∷ d ∷ []) = tt
directive_allows (a ∷ b ∷ c ∷ d ∷ e ∷ []) = either (bytes_eq a (codes "==") && bytes_eq b (codes "session") && is_name c && is_name d) (line.Session c d (number_within 1 1000 e)) line.Unknown tt tt
directive_allows (a ∷ b ∷ c ∷ d ∷ e ∷ f ∷ others) = tt

beside_allows : (began : Open) (text : List ℕ) → Allows (line_beside began text)
beside_allows open_.Nothing text = either (is_idle text) line.Idle line.Stray tt tt
beside_allows (open_.Model k) text = tt
beside_allows (open_.Session k) text = either (is_idle text) line.Idle (command_of k (words_in text)) tt (command_allows k (words_in text))

line_allows : (began : Open) (text : List ℕ) → Allows (line_of began text)
unfolding line_of
line_allows began text = either (is_directive text) (directive_of (words_in text)) (line_beside began text) (directive_allows (words_in text)) (beside_allows began text)

abbrev AllAllowed : List SessionEntry → Type 0
AllAllowed ss = AllByRecursion (λ (s : SessionEntry). AllByRecursion IsAllowed s.commands) ss

behind_allowed : (cs : List Command) (c : Command) → AllByRecursion IsAllowed cs → IsAllowed c → AllByRecursion IsAllowed (cs ++ c ∷ [])
behind_allowed [] c h a = (a, tt)
behind_allowed (x ∷ xs) c h a = (h.0, behind_allowed xs c h.1 a)

changed_allowed : (c : Command) (k : ℕ) (ss : List SessionEntry) → AllAllowed ss → IsAllowed c → AllAllowed (changed (with_command c) k ss)
changed_allowed c k [] h a = tt
changed_allowed c zero (x ∷ xs) h a = (behind_allowed x.commands c h.0 a, h.1)
changed_allowed c (suc k) (x ∷ xs) h a = (h.0, changed_allowed c k xs h.1 a)

more_allowed : (ss : List SessionEntry) (s : SessionEntry) → AllByRecursion IsAllowed s.commands → AllAllowed ss → AllAllowed (ss ++ s ∷ [])
more_allowed [] s none h = (none, tt)
more_allowed (x ∷ xs) s none h = (h.0, more_allowed xs s none h.1)

allowed_on : (r : Reading) (text : List ℕ) (l : Line) → Allows l → AllAllowed r.sessions → AllAllowed (after r text l).sessions
unfolding after
allowed_on r text line.Idle a h = h
allowed_on r text line.Stray a h = h
allowed_on r text line.BadNumber a h = h
allowed_on r text line.Unknown a h = h
allowed_on r text (line.Text k) a h = h
allowed_on r text (line.Model name) a h = h
allowed_on r text (line.Session name model number) a h = more_allowed r.sessions (new_session r name model number) tt h
allowed_on r text (line.More name) a h = h
allowed_on r text (line.Command k command) a h = changed_allowed command k r.sessions h a

allowed_after : (first last : Reading) (texts : List (List ℕ)) → Leads first texts last → AllAllowed first.sessions → AllAllowed last.sessions
allowed_after first last [] e h = subst (λ (r : Reading). AllAllowed r.sessions) (sym e) h
allowed_after first last (x ∷ xs) p h = allowed_after (beyond first x) last xs p.1 (allowed_on first x (line_of first.began x) (line_allows first.began x) h)

-- ---- of scripts

pub asked_few : (bytes : List ℕ) (s : Script) → IsScript bytes s → asked_in s.sessions ≤ most_asked
asked_few bytes s is =
    let sound = sound_after Start is.last (lines bytes) is.leads sound_at_start in
    subst (λ (ss : List SessionEntry). asked_in ss ≤ most_asked) (sym is.sessions) (omega (arith, sound.asked, counted_after Start is.last (lines bytes) is.leads (omega arith)))

pub all_allowed : (bytes : List ℕ) (s : Script) → IsScript bytes s → All (λ (x : SessionEntry). All IsAllowed x.commands) s.sessions
all_allowed bytes s is =
    let each = subst AllAllowed (sym is.sessions) (allowed_after Start is.last (lines bytes) is.leads tt) in
    let all = All-from_recursion (λ (x : SessionEntry). AllByRecursion IsAllowed x.commands) s.sessions each in
    λ i d l. All-from_recursion IsAllowed (get_or s.sessions i d).commands (all i d l)
