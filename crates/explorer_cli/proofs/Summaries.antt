-- What the lists of transcripts come to: no more than their text has bytes, and the same as what is printed of them.
use Rattle.std.proofs.Common.{◌≡◌, ◌≤◌, ◌+◌, ◌∙◌, ◌++◌, ℕ, List, [], ◌∷◌, codes, decimal, length, length-append, sum_by, refl, sym, ap, ap₂, subst, arith}
use Rattle.std.specs.List.{AllZip}
use Rattle.std.proofs.lemmas.List.Sums.{sum_by-cons}
use Rattle.rel_formula.specs.Bounds.{Bounded}
use Rattle.translation_rules.specs.Translation.{Translated}
use Rattle.session_rules.specs.declared.answers.Reply.{Reply}
use Rattle.session_rules.specs.declared.answers.Reply.TheVariants as reply
use Rattle.script_text.specs.Printed.{Printed, printed, all_printed, shown, ended, offered, augmented, back, budget_set, listed, partly, proved, refused, no_memory}
use Rattle.script_text.specs.Replies.{AreNumbered, IsReplyText, AreReplyTexts, IsSessionText, PrintsCheckableProof}
use Rattle.explorer_cli.specs.Load.{scenarios_listed, floors_ended}
use Rattle.explorer_cli.specs.Tallies.{scenarios_in, ends_in}

-- ---- texts are as long as what they list

numbered_length : (p : Bounded) (word : List ℕ) (n : ℕ) (scenarios : List (List ℕ)) (text : List ℕ) → AreNumbered p word n scenarios text → length scenarios ≤ length text
numbered_length p word n [] text e = omega arith
numbered_length p word n (s ∷ ss) text (lines, others, is, more, e) =
    let rest = numbered_length p word (n + 1) ss others more in
    let whole = ap (λ (xs : List ℕ). length xs) e in
    let last = length-append (word ++ decimal n ++ codes "\n" ++ lines) others in
    let line = length-append (word ++ decimal n ++ codes "\n") lines in
    let first = length-append (word ++ decimal n) (codes "\n") in
    omega (arith, rest, whole, last, line, first)

pub scenarios_fit : (p : Bounded) (r : Printed) (text : List ℕ) → IsReplyText p r text → scenarios_listed r ≤ length text
scenarios_fit p (listed scenarios) text (lines, numbered, e) =
    let most = numbered_length p (codes "listed ") 1 scenarios lines numbered in
    let whole = length-append (lines ++ codes "end " ++ decimal (length scenarios)) (codes "\n") in
    let number = length-append (lines ++ codes "end ") (decimal (length scenarios)) in
    let word = length-append lines (codes "end ") in
    omega (arith, most, ap (λ (xs : List ℕ). length xs) e, whole, number, word)
scenarios_fit p (shown number scenario) text is = omega arith
scenarios_fit p (ended number) text is = omega arith
scenarios_fit p (offered cells) text is = omega arith
scenarios_fit p augmented text is = omega arith
scenarios_fit p back text is = omega arith
scenarios_fit p (budget_set budget) text is = omega arith
scenarios_fit p (partly first scenarios) text is = omega arith
scenarios_fit p (proved clauses log) text is = omega arith
scenarios_fit p (refused words) text is = omega arith
scenarios_fit p no_memory text is = omega arith

pub ends_fit : (p : Bounded) (r : Printed) (text : List ℕ) → IsReplyText p r text → floors_ended r ≤ length text
ends_fit p (listed scenarios) text (lines, numbered, e) =
    let whole = length-append (lines ++ codes "end " ++ decimal (length scenarios)) (codes "\n") in
    omega (arith, ap (λ (xs : List ℕ). length xs) e, whole)
ends_fit p (shown number scenario) text is = omega arith
ends_fit p (ended number) text is = omega arith
ends_fit p (offered cells) text is = omega arith
ends_fit p augmented text is = omega arith
ends_fit p back text is = omega arith
ends_fit p (budget_set budget) text is = omega arith
ends_fit p (partly first scenarios) text is = omega arith
ends_fit p (proved clauses log) text is = omega arith
ends_fit p (refused words) text is = omega arith
ends_fit p no_memory text is = omega arith

-- what a reply counts for fits its text
abbrev pub Fits : (Printed → ℕ) → Type 0
Fits count = (p : Bounded) (r : Printed) (text : List ℕ) → IsReplyText p r text → count r ≤ length text

module _ (count : Printed → ℕ) (fits : Fits count) (p : Bounded) where
  replies_fit : (rs : List Printed) (text : List ℕ) → AreReplyTexts p rs text → sum_by count rs ≤ length text
  replies_fit [] text e = omega arith
  replies_fit (r ∷ rs) text (first, others, is, more, e) =
      omega (arith, sum_by-cons count r rs, fits p r first is, replies_fit rs others more, ap (λ (xs : List ℕ). length xs) e, length-append first others)

  pub session_fits : (name : List ℕ) (rs : List Printed) (text : List ℕ) → IsSessionText p name rs text → sum_by count rs ≤ length text
  session_fits name rs text (lines, are, e) =
      let behind = length-append (codes "== " ++ name ++ codes "\n") lines in
      omega (arith, replies_fit rs lines are, ap (λ (xs : List ℕ). length xs) e, behind)

-- ---- what is printed counts for as much as the reply

-- a count of replies and one of what is printed of them
abbrev pub Agree : (Printed → ℕ) → (Reply → ℕ) → Type 0
Agree count of = (t : Translated) (floor : List ℕ) (r : Reply) → count (printed t floor r) ≡ of r

pub scenarios_agree : Agree scenarios_listed scenarios_in
scenarios_agree t floor (reply.All scenarios) = refl
scenarios_agree t floor (reply.Shown number scenario) = refl
scenarios_agree t floor (reply.End number proof) = refl
scenarios_agree t floor (reply.Offers cells) = refl
scenarios_agree t floor (reply.Augmented above) = refl
scenarios_agree t floor reply.Back = refl
scenarios_agree t floor (reply.BudgetSet budget) = refl
scenarios_agree t floor (reply.Partly first scenarios) = refl
scenarios_agree t floor (reply.Proof proof) = refl
scenarios_agree t floor (reply.Refused refusal) = refl
scenarios_agree t floor reply.Memory = refl

pub ends_agree : Agree floors_ended ends_in
ends_agree t floor (reply.All scenarios) = refl
ends_agree t floor (reply.Shown number scenario) = refl
ends_agree t floor (reply.End number proof) = refl
ends_agree t floor (reply.Offers cells) = refl
ends_agree t floor (reply.Augmented above) = refl
ends_agree t floor reply.Back = refl
ends_agree t floor (reply.BudgetSet budget) = refl
ends_agree t floor (reply.Partly first scenarios) = refl
ends_agree t floor (reply.Proof proof) = refl
ends_agree t floor (reply.Refused refusal) = refl
ends_agree t floor reply.Memory = refl

module _ (count : Printed → ℕ) (of : Reply → ℕ) (agree : Agree count of) (t : Translated) where
  pub same_sum : (floors : List (List ℕ)) (replies : List Reply) → AllZip (PrintsCheckableProof t) floors replies → sum_by count (all_printed t floors replies) ≡ sum_by of replies
  same_sum [] [] zip = refl
  same_sum [] (r ∷ rs) zip = absurd zip
  same_sum (f ∷ fs) [] zip = absurd zip
  same_sum (f ∷ fs) (r ∷ rs) zip =
      sum_by-cons count (printed t f r) (all_printed t fs rs) ∙ ap₂ (λ (m n : ℕ). m + n) (agree t f r) (same_sum fs rs zip.1) ∙ sym (sum_by-cons of r rs)
