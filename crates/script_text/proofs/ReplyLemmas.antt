-- The lines of replies, one reply more.
use Rattle.std.proofs.Common.{◌≡◌, ℕ, zero, suc, ◌+◌, ◌<◌, List, [], ◌∷◌, ◌++◌, take, length, get_or, codes, decimal, refl, sym, ◌∙◌, ap, subst, arith, add-one, append_assoc}
use Rattle.std.proofs.lemmas.List.{append-nil, length-take-le}
use Rattle.std.proofs.Math.Seq.{take-suc}
use Rattle.rel_formula.specs.Bounds.{Bounded}
use Rattle.translation_rules.specs.Translation.{Translated}
use Rattle.session_rules.specs.declared.answers.Reply.{Reply}
use Rattle.script_text.specs.Printed.{Printed, printed, all_printed}
use Rattle.script_text.specs.Replies.{IsScenarioText, AreNumbered, IsReplyText, AreReplyTexts}

pub texts_push : (p : Bounded) (xs : List Printed) (x : Printed) (lines text : List ℕ) → AreReplyTexts p xs lines → IsReplyText p x text → AreReplyTexts p (xs ++ x ∷ []) (lines ++ text)
texts_push p [] x lines text e is = (text, [], is, refl, ap (λ l. l ++ text) e ∙ sym (append-nil text))
texts_push p (y ∷ ys) x lines text h is =
    (h.0, h.1 ++ text, h.2, texts_push p ys x h.1 text h.3 is, ap (λ l. l ++ text) h.4 ∙ append_assoc h.0 h.1 text)

-- ---- replies at their floors

printed_suc : (t : Translated) (floors : List (List ℕ)) (xs : List Reply) (i : ℕ) (f : List ℕ) (x : Reply) → i < length floors → i < length xs
    → all_printed t (take (suc i) floors) (take (suc i) xs) ≡ all_printed t (take i floors) (take i xs) ++ printed t (get_or floors i f) (get_or xs i x) ∷ []
printed_suc t [] xs i f x l m = absurd (omega arith)
printed_suc t (g ∷ gs) [] i f x l m = absurd (omega arith)
printed_suc t (g ∷ gs) (y ∷ ys) zero f x l m = refl
printed_suc t (g ∷ gs) (y ∷ ys) (suc i) f x l m = ap (λ zs. printed t g y ∷ zs) (printed_suc t gs ys i f x (omega arith) (omega arith))

pub answers_more : (p : Bounded) (t : Translated) (floors : List (List ℕ)) (xs : List Reply) (i : ℕ) (f : List ℕ) (x : Reply) (lines text : List ℕ) → i < length floors → i < length xs → x ≡ get_or xs i x
    → AreReplyTexts p (all_printed t (take i floors) (take i xs)) lines → IsReplyText p (printed t (get_or floors i f) x) text
    → AreReplyTexts p (all_printed t (take (i + 1) floors) (take (i + 1) xs)) (lines ++ text)
answers_more p t floors xs i f x lines text l m e h is =
    let front : all_printed t (take (i + 1) floors) (take (i + 1) xs) ≡ all_printed t (take i floors) (take i xs) ++ printed t (get_or floors i f) x ∷ [] =
    ap (λ k. all_printed t (take k floors) (take k xs)) (add-one i) ∙ printed_suc t floors xs i f x l m
    ∙ sym (ap (λ (y : Reply). all_printed t (take i floors) (take i xs) ++ printed t (get_or floors i f) y ∷ []) e) in
    subst (λ (zs : List Printed). AreReplyTexts p zs (lines ++ text)) (sym front) (texts_push p (all_printed t (take i floors) (take i xs)) (printed t (get_or floors i f) x) lines text h is)

-- ---- numbered scenarios

-- a word and a number, and the lines of a scenario below
abbrev headed : List ℕ → ℕ → List ℕ → List ℕ
headed word n text = word ++ decimal n ++ codes "\n" ++ text

numbered_push : (p : Bounded) (word : List ℕ) (n m : ℕ) (ss : List (List ℕ)) (s lines text : List ℕ) → m ≡ n + length ss → AreNumbered p word n ss lines → IsScenarioText p s text
    → AreNumbered p word n (ss ++ s ∷ []) (lines ++ headed word m text)
numbered_push p word n m [] s lines text e h is =
    let same : m ≡ n = omega arith in
    (text, [], is, refl, ap (λ ls. ls ++ headed word m text) h ∙ ap (λ k. headed word k text) same ∙ sym (append-nil (headed word n text)))
numbered_push p word n m (y ∷ ys) s lines text e h is =
    (h.0, h.1 ++ headed word m text, h.2, numbered_push p word (n + 1) m ys s h.1 text (omega arith) h.3 is, ap (λ ls. ls ++ headed word m text) h.4 ∙ append_assoc (headed word n h.0) h.1 (headed word m text))

pub numbered_more : (p : Bounded) (word : List ℕ) (n m : ℕ) (ss : List (List ℕ)) (i : ℕ) (s lines text : List ℕ) → i < length ss → s ≡ get_or ss i s → m ≡ n + i → AreNumbered p word n (take i ss) lines → IsScenarioText p s text
    → AreNumbered p word n (take (i + 1) ss) (lines ++ (word ++ decimal m ++ codes "\n" ++ text))
numbered_more p word n m ss i s lines text l e f h is =
    let front : take (i + 1) ss ≡ take i ss ++ s ∷ [] = ap (λ k. take k ss) (add-one i) ∙ take-suc ss i s l ∙ sym (ap (λ y. take i ss ++ y ∷ []) e) in
    let long : length (take i ss) ≡ i = length-take-le i ss (omega arith) in
    subst (λ (zs : List (List ℕ)). AreNumbered p word n zs (lines ++ headed word m text)) (sym front) (numbered_push p word n m (take i ss) s lines text (omega arith) h is)
