-- Bytes are one script, or have one fault.
use Rattle.std.proofs.Common.{◌≡◌, ◌⊎◌, ◌≤◌, ◌<◌, ◌+◌, ℕ, List, [], ◌∷◌, ◌++◌, Bor, Result, Ok, Err, IfOk, IfErr, All, map, length, take, drop, get_or, sym, ap, ◌∙◌, subst, arith, inl, inr}
use Rattle.std.specs.Str.Lines.{lines}
use Rattle.std.proofs.lemmas.List.{take-append-drop, take_more, drop_more, map-append}
use Rattle.std.proofs.lemmas.List.Elements.{All-from_recursion}
use Rattle.script_format.specs.declared.entries.ModelEntry.{ModelEntry}
use Rattle.script_format.specs.declared.entries.SessionEntry.{SessionEntry}
use Rattle.script_format.specs.declared.entries.Script.{Script}
use Rattle.script_format.specs.declared.fault.Kind.{Kind}
use Rattle.script_format.specs.declared.fault.ScriptFault.{ScriptFault}
use Rattle.script_format.specs.declared.fault.ScriptFault.TheVariants as fault
use Rattle.script_format.specs.Keys.{keys_of}
use Rattle.script_format.specs.Reading.{Reading, Start}
use Rattle.script_format.specs.Script.{Leads, IsFirstFault, IsText, IsScript, fault_at, HasLineFault, HasFault}
use Rattle.script_format.specs.Read.{Reads}
use Rattle.script_format.specs.Sound.{IsSound}
use Rattle.script_format.proofs.LineReadings.{leads_one, no_fault, same_fault}
use Rattle.script_format.proofs.Sizes.{sizes, each_size, text_size}
use Rattle.script_format.proofs.Soundness.{sound_after, sound_at_start, sizes_after}

-- the lines of a list of words
abbrev pub texts : List (Bor (List ℕ)) → List (List ℕ)
texts xs = map (λ x. x.now) xs

-- a list is what stands before a place, that line, and what stands after it
pub texts_split : (xs : List (Bor (List ℕ))) (n : ℕ) (d : Bor (List ℕ)) → n < length xs → texts xs ≡ texts (take n xs) ++ (get_or xs n d).now ∷ texts (drop (n + 1) xs)
texts_split xs n d l =
    ap texts (sym (take-append-drop n xs) ∙ ap (λ t. take n xs ++ t) (drop_more xs n d l)) ∙ map-append (λ (x : Bor (List ℕ)). x.now) (take n xs) (get_or xs n d ∷ drop (n + 1) xs)

-- a line more
pub texts_more : (xs : List (Bor (List ℕ))) (n : ℕ) (d : Bor (List ℕ)) → n < length xs → texts (take (n + 1) xs) ≡ texts (take n xs) ++ (get_or xs n d).now ∷ []
texts_more xs n d l = ap texts (take_more xs n d l) ∙ map-append (λ (x : Bor (List ℕ)). x.now) (take n xs) (get_or xs n d ∷ [])

pub one_script : (bytes : List ℕ) (s t : Script) → IsScript bytes s → IsScript bytes t → s ≡ t
one_script bytes s t a b =
    let e = leads_one Start a.last b.last (lines bytes) a.leads b.leads in
    let models : s.models ≡ t.models = a.models ∙ ap (λ (r : Reading). r.models) e ∙ sym b.models in
    let sessions : s.sessions ≡ t.sessions = a.sessions ∙ ap (λ (r : Reading). r.sessions) e ∙ sym b.sessions in
    λ i. record { models = models i; sessions = sessions i }

pub no_line_fault : (bytes : List ℕ) (s : Script) (n : ℕ) (k : Kind) → IsScript bytes s → IsFirstFault (lines bytes) n k → ⊥
no_line_fault bytes s n k a f = no_fault Start a.last f.last f.before f.others f.text k (subst (λ (ls : List (List ℕ)). Leads Start ls a.last) f.texts_are a.leads) f.leads f.fault

pub no_fault_of_script : (bytes : List ℕ) (s : Script) (f : ScriptFault) → IsScript bytes s → HasFault bytes f → ⊥
no_fault_of_script bytes s f a (inl h) = absurd (omega (arith, h.1, a.is_text.0))
no_fault_of_script bytes s f a (inr (inl h)) = h.2 a.is_text.1
no_fault_of_script bytes s f a (inr (inr h)) = no_line_fault bytes s h.1.0 h.1.1 a h.1.2

same_line : (texts : List (List ℕ)) (n m : ℕ) (k j : Kind) → IsFirstFault texts n k → IsFirstFault texts m j → (n ≡ m) × (k ≡ j)
same_line texts n m k j a b =
    let same = same_fault Start a.last b.last a.before a.others b.before b.others a.text b.text k j a.leads a.fault b.leads b.fault (sym a.texts_are ∙ b.texts_are) in
    (omega (arith, a.number_is, b.number_is, same.0), same.1)

line_faults : (bytes : List ℕ) (f g : ScriptFault) → HasLineFault bytes f → HasLineFault bytes g → f ≡ g
line_faults bytes f g a b =
    let same = same_line (lines bytes) a.1.0 b.1.0 a.1.1 b.1.1 a.1.2 b.1.2 in
    a.1.3 ∙ ap (λ (n : ℕ). fault_at a.1.1 n) same.0 ∙ ap (λ (k : Kind). fault_at k b.1.0) same.1 ∙ sym b.1.3

pub one_fault : (bytes : List ℕ) (f g : ScriptFault) → HasFault bytes f → HasFault bytes g → f ≡ g
one_fault bytes f g (inl a) (inl b) = a.0 ∙ sym b.0
one_fault bytes f g (inl a) (inr (inl b)) = absurd (omega (arith, a.1, b.1))
one_fault bytes f g (inl a) (inr (inr b)) = absurd (omega (arith, a.1, b.0.0))
one_fault bytes f g (inr (inl a)) (inl b) = absurd (omega (arith, b.1, a.1))
one_fault bytes f g (inr (inl a)) (inr (inl b)) = a.0 ∙ sym b.0
one_fault bytes f g (inr (inl a)) (inr (inr b)) = absurd (a.2 b.0.1)
one_fault bytes f g (inr (inr a)) (inl b) = absurd (omega (arith, b.1, a.0.0))
one_fault bytes f g (inr (inr a)) (inr (inl b)) = absurd (b.2 a.0.1)
one_fault bytes f g (inr (inr a)) (inr (inr b)) = line_faults bytes f g a b

-- what reading the lines gives is so of the bytes
pub reads_script : (bytes : List ℕ) (ts : List (List ℕ)) (r : Result Script ScriptFault) → IsText bytes → ts ≡ lines bytes → Reads ts r → IfOk r (λ s. IsScript bytes s)
reads_script bytes ts (Ok s) text e h = record { is_text = text; last = h.0; leads = subst (λ (ls : List (List ℕ)). Leads Start ls h.0) e h.1; models = h.2; sessions = h.3 }
reads_script bytes ts (Err f) text e h = tt

pub reads_fault : (bytes : List ℕ) (ts : List (List ℕ)) (r : Result Script ScriptFault) → IsText bytes → ts ≡ lines bytes → Reads ts r → IfErr r (λ f. (f ≡ fault.Memory) ⊎ HasFault bytes f)
reads_fault bytes ts (Ok s) text e h = tt
reads_fault bytes ts (Err f) text e (inl m) = inl m
reads_fault bytes ts (Err f) text e (inr h) = inr (inr (inr (text, (h.0, h.1, subst (λ (ls : List (List ℕ)). IsFirstFault ls h.0 h.1) e h.2, h.3))))

-- of what bytes are, or have, just that is answered
pub just_script : (bytes : List ℕ) (r : Result Script ScriptFault) → IfOk r (λ s. IsScript bytes s) → IfErr r (λ f. (f ≡ fault.Memory) ⊎ HasFault bytes f)
    → (s : Script) → IsScript bytes s → (r ≡ Ok s) ⊎ (r ≡ Err fault.Memory)
just_script bytes (Ok t) a b s is = inl (ap (λ (x : Script). Ok x) (one_script bytes t s a is))
just_script bytes (Err f) a (inl m) s is = inr (ap (λ (x : ScriptFault). Err x) m)
just_script bytes (Err f) a (inr h) s is = absurd (no_fault_of_script bytes s f is h)

pub just_fault : (bytes : List ℕ) (r : Result Script ScriptFault) → IfOk r (λ s. IsScript bytes s) → IfErr r (λ f. (f ≡ fault.Memory) ⊎ HasFault bytes f)
    → (f : ScriptFault) → HasFault bytes f → (r ≡ Err f) ⊎ (r ≡ Err fault.Memory)
just_fault bytes (Ok t) a b f has = absurd (no_fault_of_script bytes t f a has)
just_fault bytes (Err g) a (inl m) f has = inr (ap (λ (x : ScriptFault). Err x) m)
just_fault bytes (Err g) a (inr h) f has = inl (ap (λ (x : ScriptFault). Err x) (one_fault bytes g f h has))

-- a script keeps to the limits
sound_script : (bytes : List ℕ) (s : Script) (is : IsScript bytes s) → IsSound is.last
sound_script bytes s is = sound_after Start is.last (lines bytes) is.leads sound_at_start

pub few_models : (bytes : List ℕ) (s : Script) → IsScript bytes s → length s.models ≤ 16
few_models bytes s is = subst (λ (ms : List ModelEntry). length ms ≤ 16) (sym is.models) (sound_script bytes s is).models

pub few_sessions : (bytes : List ℕ) (s : Script) → IsScript bytes s → length s.sessions ≤ 64
few_sessions bytes s is = subst (λ (xs : List SessionEntry). length xs ≤ 64) (sym is.sessions) (sound_script bytes s is).sessions

pub few_keys : (bytes : List ℕ) (s : Script) → IsScript bytes s → length (keys_of s.sessions) ≤ 16
few_keys bytes s is = subst (λ (xs : List SessionEntry). length (keys_of xs) ≤ 16) (sym is.sessions) (sound_script bytes s is).keys

-- sessions are on models of the script
pub models_there : (bytes : List ℕ) (s : Script) → IsScript bytes s → All (λ (x : SessionEntry). x.model < length s.models) s.sessions
models_there bytes s is =
    let sound = sound_after Start is.last (lines bytes) is.leads sound_at_start in
    let all = All-from_recursion (λ (x : SessionEntry). x.model < length is.last.models) is.last.sessions sound.named in
    subst (λ (ms : List ModelEntry). All (λ (x : SessionEntry). x.model < length ms) s.sessions) (sym is.models)
    (subst (λ (xs : List SessionEntry). All (λ (x : SessionEntry). x.model < length is.last.models) xs) (sym is.sessions) all)

-- the models' texts are no longer than a script may be
pub texts_small : (bytes : List ℕ) (s : Script) → IsScript bytes s → All (λ (m : ModelEntry). length m.text ≤ 1048576) s.models
texts_small bytes s is =
    let bound : sizes is.last.models ≤ 1048577 = omega (arith, is.is_text.0, text_size bytes, sizes_after Start is.last (lines bytes) is.leads) in
    let all = All-from_recursion (λ (m : ModelEntry). length m.text < 1048577) is.last.models (each_size 1048577 is.last.models bound) in
    subst (λ (ms : List ModelEntry). All (λ (m : ModelEntry). length m.text ≤ 1048576) ms) (sym is.models) (λ i d l. omega (arith, all i d l))

pub if_ok : {P : Script → Type 0} (bytes : List ℕ) (r : Result Script ScriptFault) → ((s : Script) → IsScript bytes s → P s) → IfOk r (λ s. IsScript bytes s) → IfOk r P
if_ok bytes (Ok s) f h = f s h
if_ok bytes (Err e) f h = tt
