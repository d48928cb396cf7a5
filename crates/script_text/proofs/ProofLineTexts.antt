-- The lines of a proof can be read back.
use Rattle.std.proofs.Common.{◌≡◌, ◌≢◌, ◌<◌, ◌≤◌, ◌+◌, ◌^◌, ℕ, zero, suc, Bool, true, false, if◌then◌else◌, List, [], ◌∷◌, ◌++◌, length, codes, decimal, flat_map, All, get_or, refl, sym, ap, ◌∙◌, arith, append_assoc}
use Rattle.std.specs.List.{AllByRecursion}
use Rattle.std.proofs.lemmas.Fmt.{first_decimal}
use Rattle.std.proofs.lemmas.List.{append_cancel_left}
use Rattle.std.proofs.lemmas.List.Elements.{All-head, All-tail, recursion_from_All}
use Rattle.cnf_core.specs.declared.literal.Lit.{Lit}
use Rattle.refutation_check.specs.declared.log.Step.{Step}
use Rattle.refutation_check.specs.ProofText.{IsDigit}
use Rattle.refutation_check.specs.WrittenProof.{number_text, literal_text, clause_text, step_text, proof_text}
use Rattle.script_text.specs.Printable.{IsSmall, IsSmallLiteral, IsSmallStep}
use Rattle.script_text.proofs.Cuts.{head_is, tail_is, same_number, group5}

space_other : ¬ IsDigit 32
space_other d = let l = d.0 in absurd (omega arith)

-- digits that don't begin with 0
first_of : (ds : List ℕ) (b : ℕ) (x y : List ℕ) → 48 < get_or ds 0 0 → ds ++ x ≡ b ∷ y → 48 < b
first_of [] b x y l e = absurd (omega arith)
first_of (d ∷ ds) b x y l e = let same = head_is d b (ds ++ x) y e in omega arith

first_digit : (n b : ℕ) (x y : List ℕ) → IsSmall n → decimal n ++ x ≡ b ∷ y → 48 < b
first_digit n b x y small e = first_of (decimal n) b x y (first_decimal n small.0 small.1) e

-- a number and a space
number_is : (n : ℕ) (x : List ℕ) → number_text n ++ x ≡ decimal n ++ 32 ∷ x
number_is n x = append_assoc (decimal n) (codes " ") x

same_hint : (m n : ℕ) (x y : List ℕ) → IsSmall m → IsSmall n → number_text m ++ x ≡ number_text n ++ y → (m ≡ n) × (x ≡ y)
same_hint m n x y sm sn e =
    let cut = same_number m n 32 32 x y sm.1 sn.1 space_other space_other (sym (number_is m x) ∙ e ∙ number_is n y) in
    (cut.0, tail_is 32 32 x y cut.1)

numbers_are : (m n : ℕ) (ms ns : List ℕ) → m ≡ n → ms ≡ ns → m ∷ ms ≡ n ∷ ns
numbers_are m n ms ns e f = cc

abbrev numbers_text : List ℕ → List ℕ
numbers_text ns = flat_map number_text ns

-- numbers up to a 0
same_hints : (ms ns : List ℕ) (x y : List ℕ) → AllByRecursion IsSmall ms → AllByRecursion IsSmall ns → numbers_text ms ++ 48 ∷ x ≡ numbers_text ns ++ 48 ∷ y → (ms ≡ ns) × (x ≡ y)
same_hints [] [] x y sm sn e = (refl, tail_is 48 48 x y e)
same_hints [] (n ∷ ns) x y sm sn e =
    let l = first_digit n 48 (32 ∷ (numbers_text ns ++ 48 ∷ y)) x sn.0 (sym (number_is n (numbers_text ns ++ 48 ∷ y)) ∙ sym (append_assoc (number_text n) (numbers_text ns) (48 ∷ y)) ∙ sym e) in
    absurd (omega arith)
same_hints (m ∷ ms) [] x y sm sn e =
    let l = first_digit m 48 (32 ∷ (numbers_text ms ++ 48 ∷ x)) y sm.0 (sym (number_is m (numbers_text ms ++ 48 ∷ x)) ∙ sym (append_assoc (number_text m) (numbers_text ms) (48 ∷ x)) ∙ e) in
    absurd (omega arith)
same_hints (m ∷ ms) (n ∷ ns) x y sm sn e =
    let bare = sym (append_assoc (number_text m) (numbers_text ms) (48 ∷ x)) ∙ e ∙ append_assoc (number_text n) (numbers_text ns) (48 ∷ y) in
    let first = same_hint m n (numbers_text ms ++ 48 ∷ x) (numbers_text ns ++ 48 ∷ y) sm.0 sn.0 bare in
    let rest = same_hints ms ns x y sm.1 sn.1 first.1 in
    (numbers_are m n ms ns first.0 rest.0, rest.1)

-- a literal
abbrev lit : ℕ → Bool → Lit
lit n sign = record { var = n; positive = sign }

same_literal_by : (m n : ℕ) (s t : Bool) (x y : List ℕ) → IsSmall m → IsSmall n → literal_text (lit m s) ++ x ≡ literal_text (lit n t) ++ y → (lit m s ≡ lit n t) × (x ≡ y)
same_literal_by m n true true x y sm sn e = let cut = same_hint m n x y sm sn e in (ap (λ (v : ℕ). lit v true) cut.0, cut.1)
same_literal_by m n false false x y sm sn e = let cut = same_hint m n x y sm sn (tail_is 45 45 (number_text m ++ x) (number_text n ++ y) e) in (ap (λ (v : ℕ). lit v false) cut.0, cut.1)
same_literal_by m n true false x y sm sn e = let l = first_digit m 45 (32 ∷ x) (number_text n ++ y) sm (sym (number_is m x) ∙ e) in absurd (omega arith)
same_literal_by m n false true x y sm sn e = let l = first_digit n 45 (32 ∷ y) (number_text m ++ x) sn (sym (number_is n y) ∙ sym e) in absurd (omega arith)

same_literal : (k l : Lit) (x y : List ℕ) → IsSmallLiteral k → IsSmallLiteral l → literal_text k ++ x ≡ literal_text l ++ y → (k ≡ l) × (x ≡ y)
same_literal k l x y sm sn e = same_literal_by k.var l.var k.positive l.positive x y sm sn e

-- a literal doesn't begin with 0
no_zero_by : (m : ℕ) (s : Bool) (x y : List ℕ) → IsSmall m → 48 ∷ x ≡ literal_text (lit m s) ++ y → ⊥
no_zero_by m true x y sm e = let l = first_digit m 48 (32 ∷ y) x sm (sym (number_is m y) ∙ sym e) in omega arith
no_zero_by m false x y sm e = let same = head_is 48 45 x (number_text m ++ y) e in omega arith

no_zero : (k : Lit) (x y : List ℕ) → IsSmallLiteral k → 48 ∷ x ≡ literal_text k ++ y → ⊥
no_zero k x y sm e = no_zero_by k.var k.positive x y sm e

literals_are : (k l : Lit) (ks ls : List Lit) → k ≡ l → ks ≡ ls → k ∷ ks ≡ l ∷ ls
literals_are k l ks ls e f = ap (λ (z : Lit). z ∷ ks) e ∙ ap (λ (zs : List Lit). l ∷ zs) f

abbrev literals_text : List Lit → List ℕ
literals_text ls = flat_map literal_text ls

-- literals up to a 0
same_literals : (ks ls : List Lit) (x y : List ℕ) → AllByRecursion IsSmallLiteral ks → AllByRecursion IsSmallLiteral ls → literals_text ks ++ 48 ∷ x ≡ literals_text ls ++ 48 ∷ y → (ks ≡ ls) × (x ≡ y)
same_literals [] [] x y sk sl e = (refl, tail_is 48 48 x y e)
same_literals [] (l ∷ ls) x y sk sl e = absurd (no_zero l x (literals_text ls ++ 48 ∷ y) sl.0 (e ∙ append_assoc (literal_text l) (literals_text ls) (48 ∷ y)))
same_literals (k ∷ ks) [] x y sk sl e = absurd (no_zero k y (literals_text ks ++ 48 ∷ x) sk.0 (sym e ∙ append_assoc (literal_text k) (literals_text ks) (48 ∷ x)))
same_literals (k ∷ ks) (l ∷ ls) x y sk sl e =
    let bare = sym (append_assoc (literal_text k) (literals_text ks) (48 ∷ x)) ∙ e ∙ append_assoc (literal_text l) (literals_text ls) (48 ∷ y) in
    let first = same_literal k l (literals_text ks ++ 48 ∷ x) (literals_text ls ++ 48 ∷ y) sk.0 sl.0 bare in
    let rest = same_literals ks ls x y sk.1 sl.1 first.1 in
    (literals_are k l ks ls first.0 rest.0, rest.1)

-- ---- lines

clause_is : (c : List Lit) (x : List ℕ) → clause_text c ++ x ≡ codes "c " ++ (literals_text c ++ 48 ∷ 10 ∷ x)
clause_is c x = append_assoc (codes "c ") (literals_text c ++ codes "0\n") x ∙ ap (λ (z : List ℕ). codes "c " ++ z) (append_assoc (literals_text c) (codes "0\n") x)

same_clause : (c d : List Lit) (x y : List ℕ) → AllByRecursion IsSmallLiteral c → AllByRecursion IsSmallLiteral d → clause_text c ++ x ≡ clause_text d ++ y → (c ≡ d) × (x ≡ y)
same_clause c d x y sc sd e =
    let bare = append_cancel_left (codes "c ") (literals_text c ++ 48 ∷ 10 ∷ x) (literals_text d ++ 48 ∷ 10 ∷ y) (sym (clause_is c x) ∙ e ∙ clause_is d y) in
    let cut = same_literals c d (10 ∷ x) (10 ∷ y) sc sd bare in
    (cut.0, tail_is 10 10 x y cut.1)

step_is : (s : Step) (x : List ℕ) → step_text s ++ x ≡ codes "s " ++ (literals_text s.clause ++ 48 ∷ 32 ∷ (numbers_text s.hints ++ 48 ∷ 10 ∷ x))
step_is s x = group5 (codes "s ") (literals_text s.clause) (codes "0 ") (numbers_text s.hints) (codes "0\n") x

abbrev IsSmallLine : Step → Type 0
IsSmallLine s = AllByRecursion IsSmallLiteral s.clause × AllByRecursion IsSmall s.hints

step_of : List Lit → List ℕ → Step
step_of clause hints = record { clause = clause; hints = hints }

same_step : (s t : Step) (x y : List ℕ) → IsSmallLine s → IsSmallLine t → step_text s ++ x ≡ step_text t ++ y → (s ≡ t) × (x ≡ y)
unfolding step_of
same_step s t x y ss st e =
    let bare = append_cancel_left (codes "s ") (literals_text s.clause ++ 48 ∷ 32 ∷ (numbers_text s.hints ++ 48 ∷ 10 ∷ x)) (literals_text t.clause ++ 48 ∷ 32 ∷ (numbers_text t.hints ++ 48 ∷ 10 ∷ y)) (sym (step_is s x) ∙ e ∙ step_is t y) in
    let clause = same_literals s.clause t.clause (32 ∷ (numbers_text s.hints ++ 48 ∷ 10 ∷ x)) (32 ∷ (numbers_text t.hints ++ 48 ∷ 10 ∷ y)) ss.0 st.0 bare in
    let hints = same_hints s.hints t.hints (10 ∷ x) (10 ∷ y) ss.1 st.1 (tail_is 32 32 (numbers_text s.hints ++ 48 ∷ 10 ∷ x) (numbers_text t.hints ++ 48 ∷ 10 ∷ y) clause.1) in
    (ap (λ (c : List Lit). step_of c s.hints) clause.0 ∙ ap (λ (h : List ℕ). step_of t.clause h) hints.0, tail_is 10 10 x y hints.1)

-- ---- proofs

clauses_are : (c d : List Lit) (cs ds : List (List Lit)) → c ≡ d → cs ≡ ds → c ∷ cs ≡ d ∷ ds
clauses_are c d cs ds e f = ap (λ (z : List Lit). z ∷ cs) e ∙ ap (λ (zs : List (List Lit)). d ∷ zs) f

steps_are : (s t : Step) (ss ts : List Step) → s ≡ t → ss ≡ ts → s ∷ ss ≡ t ∷ ts
steps_are s t ss ts e f = ap (λ (z : Step). z ∷ ss) e ∙ ap (λ (zs : List Step). t ∷ zs) f

abbrev steps_text : List Step → List ℕ
steps_text ss = flat_map step_text ss

same_steps : (ss ts : List Step) (x y : List ℕ) → length ss ≡ length ts → AllByRecursion IsSmallLine ss → AllByRecursion IsSmallLine ts → steps_text ss ++ x ≡ steps_text ts ++ y → (ss ≡ ts) × (x ≡ y)
same_steps [] [] x y l a b e = (refl, e)
same_steps [] (t ∷ ts) x y l a b e = absurd (omega arith)
same_steps (s ∷ ss) [] x y l a b e = absurd (omega arith)
same_steps (s ∷ ss) (t ∷ ts) x y l a b e =
    let bare = sym (append_assoc (step_text s) (steps_text ss) x) ∙ e ∙ append_assoc (step_text t) (steps_text ts) y in
    let first = same_step s t (steps_text ss ++ x) (steps_text ts ++ y) a.0 b.0 bare in
    let rest = same_steps ss ts x y (omega arith) a.1 b.1 first.1 in
    (steps_are s t ss ts first.0 rest.0, rest.1)

abbrev clauses_text : List (List Lit) → List ℕ
clauses_text cs = flat_map clause_text cs

-- a step is no clause
no_clause : (c : List Lit) (s : Step) (x y : List ℕ) → step_text s ++ x ≡ clause_text c ++ y → ⊥
no_clause c s x y e =
    let same = head_is 115 99 (32 ∷ (literals_text s.clause ++ 48 ∷ 32 ∷ (numbers_text s.hints ++ 48 ∷ 10 ∷ x))) (32 ∷ (literals_text c ++ 48 ∷ 10 ∷ y)) (sym (step_is s x) ∙ e ∙ clause_is c y) in
    omega arith

abbrev lines_before : List (List Lit) → List Step → List ℕ → List ℕ
lines_before cs ss x = clauses_text cs ++ (steps_text ss ++ x)

same_lines : (cs ds : List (List Lit)) (ss ts : List Step) (x y : List ℕ) → length cs + length ss ≡ length ds + length ts
    → AllByRecursion (AllByRecursion IsSmallLiteral) cs → AllByRecursion (AllByRecursion IsSmallLiteral) ds → AllByRecursion IsSmallLine ss → AllByRecursion IsSmallLine ts
    → lines_before cs ss x ≡ lines_before ds ts y → (cs ≡ ds) × (ss ≡ ts) × (x ≡ y)
same_lines [] [] ss ts x y l sc sd a b e = let cut = same_steps ss ts x y (omega arith) a b e in (refl, cut.0, cut.1)
same_lines [] (d ∷ ds) [] ts x y l sc sd a b e = absurd (omega arith)
same_lines [] (d ∷ ds) (s ∷ ss) ts x y l sc sd a b e =
    absurd (no_clause d s (steps_text ss ++ x) (lines_before ds ts y) (sym (append_assoc (step_text s) (steps_text ss) x) ∙ e ∙ append_assoc (clause_text d) (clauses_text ds) (steps_text ts ++ y)))
same_lines (c ∷ cs) [] ss [] x y l sc sd a b e = absurd (omega arith)
same_lines (c ∷ cs) [] ss (t ∷ ts) x y l sc sd a b e =
    absurd (no_clause c t (steps_text ts ++ y) (lines_before cs ss x) (sym (append_assoc (step_text t) (steps_text ts) y) ∙ sym e ∙ append_assoc (clause_text c) (clauses_text cs) (steps_text ss ++ x)))
same_lines (c ∷ cs) (d ∷ ds) ss ts x y l sc sd a b e =
    let bare = sym (append_assoc (clause_text c) (clauses_text cs) (steps_text ss ++ x)) ∙ e ∙ append_assoc (clause_text d) (clauses_text ds) (steps_text ts ++ y) in
    let first = same_clause c d (lines_before cs ss x) (lines_before ds ts y) sc.0 sd.0 bare in
    let rest = same_lines cs ds ss ts x y (omega arith) sc.1 sd.1 a b first.1 in
    (clauses_are c d cs ds first.0 rest.0, rest.1, rest.2)

small_clauses : (cs : List (List Lit)) → All (All IsSmallLiteral) cs → AllByRecursion (AllByRecursion IsSmallLiteral) cs
small_clauses [] all = tt
small_clauses (c ∷ cs) all = (recursion_from_All IsSmallLiteral c (All-head (All IsSmallLiteral) c cs all), small_clauses cs (All-tail (All IsSmallLiteral) c cs all))

small_steps : (ss : List Step) → All IsSmallStep ss → AllByRecursion IsSmallLine ss
small_steps [] all = tt
small_steps (s ∷ ss) all =
    let h = All-head IsSmallStep s ss all in
    ((recursion_from_All IsSmallLiteral s.clause h.0, recursion_from_All IsSmall s.hints h.1), small_steps ss (All-tail IsSmallStep s ss all))

-- with something behind them
pub same_proof : (cs ds : List (List Lit)) (ss ts : List Step) (x y : List ℕ) → length cs + length ss ≡ length ds + length ts → All (All IsSmallLiteral) cs → All (All IsSmallLiteral) ds → All IsSmallStep ss → All IsSmallStep ts
    → proof_text cs ss ++ x ≡ proof_text ds ts ++ y → (cs ≡ ds) × (ss ≡ ts) × (x ≡ y)
same_proof cs ds ss ts x y l sc sd a b e =
    same_lines cs ds ss ts x y l (small_clauses cs sc) (small_clauses ds sd) (small_steps ss a) (small_steps ts b) (sym (append_assoc (clauses_text cs) (steps_text ss) x) ∙ e ∙ append_assoc (clauses_text ds) (steps_text ts) y)
