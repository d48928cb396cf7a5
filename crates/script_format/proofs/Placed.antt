-- Text and commands go where the last directive said; and lists of words that say nothing.
use Rattle.std.proofs.Common.{◌≡◌, ◌<◌, ◌==◌, ◌&&◌, ℕ, Bool, true, false, if◌then◌else◌, List, [], ◌∷◌, Bor, Option, Some, None, codes, map, length, bytes_eq, refl, ap, arith}
use Rattle.std.proofs.lemmas.Bool.Decides.{nat_tests}
use Rattle.session_words.specs.declared.atom_names.AtomName.{AtomName}
use Rattle.session_words.specs.declared.steps.Step.TheVariants as step
use Rattle.script_format.specs.declared.line.Line.{Line}
use Rattle.script_format.specs.declared.line.Line.TheVariants as line
use Rattle.script_format.specs.declared.line.Open.{Open}
use Rattle.script_format.specs.declared.line.Open.TheVariants as open_
use Rattle.script_format.specs.Words.{words_in, is_directive, is_idle, is_name, number_within}
use Rattle.script_format.specs.Tuples.{is_relation_name, atom_in, atom_behind, tuple_in}
use Rattle.script_format.specs.Lines.{directive_of, step_line, command_of_one, all_line, budget_line, augment_line, command_of, line_beside, line_of}
use Rattle.script_format.specs.Reading.{Reading}
use Rattle.script_format.specs.Sound.{IsThere}

-- where a line goes is there
abbrev pub Placed : Reading → Line → Type 0
Placed r (line.Text k) = k < length r.models
Placed r (line.Command k command) = k < length r.sessions
Placed r _ = Unit {0}

either : (r : Reading) (b : Bool) (x y : Line) → Placed r x → Placed r y → Placed r (if b then x else y)
either r true x y p q = p
either r false x y p q = q

of_directive : (r : Reading) (ws : List (List ℕ)) → Placed r (directive_of ws)
of_directive r [] = tt
of_directive r (a ∷ []) = tt
of_directive r (a ∷ b ∷ []) = tt
of_directive r (a ∷ b ∷ c ∷ []) =
    let inner : Line = if bytes_eq b (codes "more") then line.More c else line.Unknown in
    let outer : Line = if bytes_eq b (codes "model") then line.Model c else inner in
    either r (bytes_eq a (codes "==") && is_name c) outer line.Unknown
    (either r (bytes_eq b (codes "model")) (line.Model c) inner tt (either r (bytes_eq b (codes "more")) (line.More c) line.Unknown tt tt)) tt
of_directive r (a ∷ b ∷ c ∷ d ∷ []) = tt
of_directive r (a ∷ b ∷ c ∷ d ∷ e ∷ []) =
    either r (bytes_eq a (codes "==") && bytes_eq b (codes "session") && is_name c && is_name d) (line.Session c d (number_within 1 1000 e)) line.Unknown tt tt
of_directive r (a ∷ b ∷ c ∷ d ∷ e ∷ f ∷ others) = tt

of_one : (r : Reading) (k : ℕ) (word : List ℕ) → k < length r.sessions → Placed r (command_of_one k word)
of_one r k word l =
    let third : Line = if bytes_eq word (codes "proof") then step_line k step.Proof else line.Unknown in
    let second : Line = if bytes_eq word (codes "back") then step_line k step.Back else third in
    let first : Line = if bytes_eq word (codes "offers") then step_line k step.Offers else second in
    either r (bytes_eq word (codes "next")) (step_line k step.Next) first l
    (either r (bytes_eq word (codes "offers")) (step_line k step.Offers) second l
    (either r (bytes_eq word (codes "back")) (step_line k step.Back) third l
    (either r (bytes_eq word (codes "proof")) (step_line k step.Proof) line.Unknown l tt)))

of_all : (r : Reading) (k : ℕ) (o : Option ℕ) → k < length r.sessions → Placed r (all_line k o)
of_all r k None l = tt
of_all r k (Some n) l = l

of_budget : (r : Reading) (k : ℕ) (o : Option ℕ) → k < length r.sessions → Placed r (budget_line k o)
of_budget r k None l = tt
of_budget r k (Some n) l = l

of_augment : (r : Reading) (k : ℕ) (relation : List ℕ) (o : Option (List AtomName)) → k < length r.sessions → Placed r (augment_line k relation o)
of_augment r k relation None l = tt
of_augment r k relation (Some n) l = l

of_command : (r : Reading) (k : ℕ) (ws : List (List ℕ)) → k < length r.sessions → Placed r (command_of k ws)
of_command r k [] l = tt
of_command r k (a ∷ []) l = of_one r k a l
of_command r k (a ∷ b ∷ []) l =
    let second : Line = if bytes_eq a (codes "budget") then budget_line k (number_within 0 100000 b) else line.Unknown in
    either r (bytes_eq a (codes "all")) (all_line k (number_within 1 1000 b)) second (of_all r k (number_within 1 1000 b) l)
    (either r (bytes_eq a (codes "budget")) (budget_line k (number_within 0 100000 b)) line.Unknown (of_budget r k (number_within 0 100000 b) l) tt)
of_command r k (a ∷ b ∷ c ∷ []) l =
    either r (bytes_eq a (codes "augment") && is_relation_name b) (augment_line k b (tuple_in c)) line.Unknown (of_augment r k b (tuple_in c) l) tt
of_command r k (a ∷ b ∷ c ∷ d ∷ others) l = tt

beside : (r : Reading) (o : Open) (text : List ℕ) → IsThere r o → Placed r (line_beside o text)
beside r open_.Nothing text h = either r (is_idle text) line.Idle line.Stray tt tt
beside r (open_.Model k) text h = h
beside r (open_.Session k) text h = either r (is_idle text) line.Idle (command_of k (words_in text)) tt (of_command r k (words_in text) h)

pub placed : (r : Reading) (text : List ℕ) → IsThere r r.began → Placed r (line_of r.began text)
unfolding line_of
placed r text h = either r (is_directive text) (directive_of (words_in text)) (line_beside r.began text) (of_directive r (words_in text)) (beside r r.began text h)

-- a text without the arrow's `>` is no atom behind one
pub no_arrow : (text : List ℕ) → ((rest : List ℕ) → text ≡ 62 ∷ rest → ⊥) → None ≡ atom_behind text
no_arrow [] none = refl
no_arrow (b ∷ bs) none =
    let go : (t : Bool) → (b == 62) ≡ t → None ≡ (if t then atom_in bs else None) =
    λ t. elim t as (λ t. (b == 62) ≡ t → None ≡ (if t then atom_in bs else None)) [
      | true ↦ λ e. absurd (none bs (ap (λ (x : ℕ). x ∷ bs) (grind (arith, nat_tests))))
      | false ↦ λ e. refl
    ] in
    go (b == 62) refl

-- no words and more than three are no command
pub no_command : (k : ℕ) (ws : List (Bor (List ℕ))) → (length ws ≡ 1 → ⊥) → (length ws ≡ 2 → ⊥) → (length ws ≡ 3 → ⊥) → line.Unknown ≡ command_of k (map (λ w. w.now) ws)
no_command k [] p q r = refl
no_command k (a ∷ []) p q r = absurd (p refl)
no_command k (a ∷ b ∷ []) p q r = absurd (q refl)
no_command k (a ∷ b ∷ c ∷ []) p q r = absurd (r refl)
no_command k (a ∷ b ∷ c ∷ d ∷ others) p q r = refl
