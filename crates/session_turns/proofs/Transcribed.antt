-- Transcripts that grow by one command.
use Rattle.std.proofs.Common.{◌≡◌, ◌≤◌, ◌<◌, ◌+◌, ◌++◌, ℕ, zero, suc, List, [], ◌∷◌, length, take, get_or, refl, sym, ap, ◌∙◌, subst, append-nil, append_assoc, arith}
use Rattle.std.proofs.lemmas.List.{take_more}
use Rattle.rel_formula.specs.Bounds.{Bounded}
use Rattle.session_words.specs.declared.commands.Command.{Command}
use Rattle.script_format.specs.Reading.{asks}
use Rattle.script_format.specs.Limits.{asked_by}
use Rattle.session_rules.specs.States.{State, top_floor}
use Rattle.session_rules.specs.Steps.{Exchange, state_after}
use Rattle.session_rules.specs.Transcripts.{Serves, IsTranscript}
use Rattle.session_rules.specs.declared.answers.Reply.{Reply}
use Rattle.session_rules.proofs.Runs.{states_join}

-- one command more, with its reply
pub transcript_more : (p : Bounded) (old : State) (cs : List Command) (rs : List Reply) (fs : List (List ℕ)) (xs ys : List Exchange) (c : Command) (r : Reply)
    → IsTranscript p old cs rs fs xs → Serves p (state_after old xs) c r ys → IsTranscript p old (cs ++ c ∷ []) (rs ++ r ∷ []) (fs ++ top_floor (state_after old xs) ∷ []) (xs ++ ys)
transcript_more p old [] [] [] xs ys c r h serves =
    let none : (λ (zs : List Exchange). Serves p (state_after old zs) c r ys) [] = subst (λ (zs : List Exchange). Serves p (state_after old zs) c r ys) h serves in
    let floor : top_floor (state_after old xs) ≡ top_floor old = ap (λ (zs : List Exchange). top_floor (state_after old zs)) h in
    (ys, [], ap (λ (zs : List Exchange). zs ++ ys) h ∙ sym (append-nil ys), floor, none, refl)
transcript_more p old (c' ∷ cs) (r' ∷ rs) (f' ∷ fs) xs ys c r h serves =
    let here = h.0 in
    let later = h.1 in
    let state : state_after old xs ≡ state_after (state_after old here) later = ap (state_after old) h.2 ∙ states_join old here later in
    let rest = transcript_more p (state_after old here) cs rs fs later ys c r h.5 (subst (λ (s : State). Serves p s c r ys) state serves) in
    let floors = subst (λ (s : State). IsTranscript p (state_after old here) (cs ++ c ∷ []) (rs ++ r ∷ []) (fs ++ top_floor s ∷ []) (later ++ ys)) (sym state) rest in
    (here, later ++ ys, ap (λ (zs : List Exchange). zs ++ ys) h.2 ∙ append_assoc here later ys, h.3, h.4, floors)
transcript_more p old [] [] (f ∷ fs) xs ys c r h serves = absurd h
transcript_more p old [] (r' ∷ rs) fs xs ys c r h serves = absurd h
transcript_more p old (c' ∷ cs) [] fs xs ys c r h serves = absurd h
transcript_more p old (c' ∷ cs) (r' ∷ rs) [] xs ys c r h serves = absurd h

-- ---- how many scenarios commands ask for

asked_behind : (cs : List Command) (c : Command) → asked_by (cs ++ c ∷ []) ≡ asked_by cs + asks c
asked_behind [] c = omega arith
asked_behind (x ∷ xs) c = omega (arith, asked_behind xs c)

asked_take : (n : ℕ) (cs : List Command) → asked_by (take n cs) ≤ asked_by cs
asked_take zero cs = omega arith
asked_take (suc n) [] = omega arith
asked_take (suc n) (c ∷ cs) = omega (arith, asked_take n cs)

-- with one command more
pub asked_more : (cs : List Command) (i : ℕ) (c : Command) → i < length cs → c ≡ get_or cs i c → asked_by (take (i + 1) cs) ≡ asked_by (take i cs) + asks c
asked_more cs i c l is =
    let more : take (i + 1) cs ≡ take i cs ++ c ∷ [] = take_more cs i c l ∙ ap (λ (y : Command). take i cs ++ y ∷ []) (sym is) in
    ap asked_by more ∙ asked_behind (take i cs) c

pub asked_few : (cs : List Command) (i : ℕ) (c : Command) → i < length cs → c ≡ get_or cs i c → asked_by (take i cs) + asks c ≤ asked_by cs
asked_few cs i c l is = omega (arith, asked_more cs i c l is, asked_take (i + 1) cs)
