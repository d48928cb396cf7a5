-- Two lists of tokens that are one up to a seam, behind which the first token of each is of the same terminal; and what reading
-- gives of both.
use Rattle.std.proofs.Common.{◌≡◌, ◌⊎◌, inl, inr, ℕ, zero, suc, ◌≤◌, ◌<◌, Bool, true, false, if◌then◌else◌, List, [], ◌∷◌, ◌++◌, length, Result, Ok, Err, refl, sym, ap, subst, ◌∙◌, arith}
use Rattle.std.proofs.lemmas.List.{length-append}
use Rattle.alloy_syntax.specs.declared.class.Class.{Class}
use Rattle.alloy_syntax.specs.declared.class.Class.TheVariants as class
use Rattle.alloy_syntax.specs.declared.reading.Around.{Around}
use Rattle.alloy_syntax.specs.declared.reading.Around.TheVariants as around
use Rattle.alloy_syntax.specs.declared.parser_token.ParserToken.{ParserToken}
use Rattle.alloy_syntax.specs.Class.{is_class}
use Rattle.alloy_syntax.specs.Readers.{ParseStopView, refused, too_deep, unsupported, Parser, ◌>>=◌, next_is, after, repeated, many, behind, others, listed}
use Rattle.alloy_grammar.proofs.Results.{either, no_success, done_is}
use Rattle.alloy_grammar.proofs.TextEnds.{same_class}
use Rattle.alloy_grammar.proofs.Lists.{Shortens}
use Rattle.alloy_grammar.specs.Faults.Stops.{unread, AreLast}
use Rattle.alloy_grammar.proofs.Faults.LastTokens.{Lands, Keeps, read, stops, all_last, after_last, choice_last}

pub record Seam : Type 0 where
  pub token : ParserToken
  pub later : List ParserToken
  pub other : ParserToken
  pub tail : List ParserToken
  pub alike : token.class ≡ other.class

abbrev pub rest_of : Seam → List ParserToken
rest_of s = s.token ∷ s.later

abbrev pub tail_of : Seam → List ParserToken
tail_of s = s.other ∷ s.tail

-- where the two lists stand: before the seam, alike; or the first has passed it
pub data At (s : Seam) (ts us : List ParserToken) : Type 0 where
  near : (ws : List ParserToken) → ts ≡ ws ++ rest_of s → us ≡ ws ++ tail_of s → At s ts us
  past : AreLast s.later ts → At s ts us

-- another stop than one that refuses the token at the seam
abbrev pub IsElse : Seam → ParseStopView → Type 0
IsElse s (refused ts) = AreLast s.later ts
IsElse s (too_deep ts) = Unit {0}
IsElse s (unsupported form ts) = Unit {0}

-- the first list was read past the seam, or stops otherwise
pub data Past {A : Type 0} (s : Seam) (a : Result (A × List ParserToken) ParseStopView) : Type 0 where
  went : (x : A × List ParserToken) → a ≡ Ok x → AreLast s.later x.1 → Past s a
  faulty : (d : ParseStopView) → a ≡ Err d → IsElse s d → Past s a

-- a comma and names with commas up to the seam, which is at a comma or at a name
pub data Runs (s : Seam) : List ParserToken → Type 0 where
  comma_here : (ts : List ParserToken) → s.token.class ≡ class.Comma → ts ≡ rest_of s → Runs s ts
  name_next : (c : ParserToken) (ts : List ParserToken) → c.class ≡ class.Comma → s.token.class ≡ class.Name → ts ≡ c ∷ rest_of s → Runs s ts
  name_then : (c n : ParserToken) (us ts : List ParserToken) → c.class ≡ class.Comma → n.class ≡ class.Name → Runs s us → ts ≡ c ∷ n ∷ us → Runs s ts

-- tokens at which the first list waits, and which are sure to be taken: a `!` before the next node in braces, a comma between arguments
abbrev pub Held : Seam → Around → List ParserToken → Type 0
Held s around.Braces ts = (ts ≡ rest_of s) × (s.token.class ≡ class.Not)
Held s around.Brackets ts = Runs s ts
Held s around.Parens ts = ⊥

pub data Kept {A : Type 0} (s : Seam) (k : Around) (a : Result (A × List ParserToken) ParseStopView) : Type 0 where
  holds : (x : A × List ParserToken) → a ≡ Ok x → Held s k x.1 → Kept s k a
  leaves : Past s a → Kept s k a

-- both are read alike, up to the seam; or the first is read past it, or waits; or the second stops
pub data Parted {A : Type 0} (s : Seam) (k : Around) (a b : Result (A × List ParserToken) ParseStopView) : Type 0 where
  both : (x y : A × List ParserToken) → a ≡ Ok x → b ≡ Ok y → (ws : List ParserToken) → x.1 ≡ ws ++ rest_of s → y.1 ≡ ws ++ tail_of s → Parted s k a b
  kept : Kept s k a → Parted s k a b
  ended : (d : ParseStopView) → b ≡ Err d → Parted s k a b

abbrev pub OutOf : {A : Type 0} {ts us : List ParserToken} → (s : Seam) (k : Around) → At s ts us → Result (A × List ParserToken) ParseStopView → Result (A × List ParserToken) ParseStopView → Type 0
OutOf s k (near ws e f) a b = Parted s k a b
OutOf s k (past last) a b = Past s a

-- what two readings give, of lists that stand so
pub data Out {A : Type 0} {ts us : List ParserToken} (s : Seam) (k : Around) (at : At s ts us) (a b : Result (A × List ParserToken) ParseStopView) : Type 0 where
  out : OutOf s k at a b → Out s k at a b

pub of_near : {A : Type 0} {ts us : List ParserToken} {s : Seam} {k : Around} {ws : List ParserToken} {e : ts ≡ ws ++ rest_of s} {f : us ≡ ws ++ tail_of s} {a b : Result (A × List ParserToken) ParseStopView} → Out s k (near ws e f) a b → Parted s k a b
of_near (out p) = p

pub of_past : {A : Type 0} {ts us : List ParserToken} {s : Seam} {k : Around} {last : AreLast s.later ts} {a b : Result (A × List ParserToken) ParseStopView} → Out {ts = ts} {us = us} s k (past last) a b → Past s a
of_past (out p) = p

-- so is each reading
abbrev pub Law : {A : Type 0} → Seam → Around → Parser A → Parser A → Type 0
Law s k p q = (ts us : List ParserToken) (at : At s ts us) → Out s k at (p ts) (q us)

-- ---- past the seam

else_of : (s : Seam) (d : ParseStopView) → AreLast s.later (unread d) → IsElse s d
else_of s (refused ts) last = last
else_of s (too_deep ts) last = tt
else_of s (unsupported form ts) last = tt

pub landed : {A : Type 0} {s : Seam} {a : Result (A × List ParserToken) ParseStopView} → Lands s.later a → Past s a
landed {A} {s} {a} h =
    elim h [
      | read x e last ↦ went x e last
      | stops d e last ↦ faulty d e (else_of s d last)
    ]

pub past_then : {A B : Type 0} {s : Seam} {a : Result (A × List ParserToken) ParseStopView} {f : A × List ParserToken → Result (B × List ParserToken) ParseStopView} → Past s a → ((x : A × List ParserToken) → AreLast s.later x.1 → Past s (f x)) → Past s (a >>= f)
past_then {A} {B} {s} {a} {f} h to =
    elim h [
      | went x e last ↦ subst (λ (c : Result (A × List ParserToken) ParseStopView). Past s (c >>= f)) (sym e) (to x last)
      | faulty d e other ↦ faulty d (ap (λ (c : Result (A × List ParserToken) ParseStopView). c >>= f) e) other
    ]

pub past_choice : {A : Type 0} {s : Seam} (test : Bool) {u v : Result (A × List ParserToken) ParseStopView} → Past s u → Past s v → Past s (if test then u else v)
past_choice true p q = p
past_choice false p q = q

pub kept_then : {A B : Type 0} {s : Seam} {k l : Around} {a : Result (A × List ParserToken) ParseStopView} {f : A × List ParserToken → Result (B × List ParserToken) ParseStopView} → Kept s k a → ((x : A × List ParserToken) → AreLast s.later x.1 → Past s (f x)) → ((x : A × List ParserToken) → Held s k x.1 → Kept s l (f x)) → Kept s l (a >>= f)
kept_then {A} {B} {s} {k} {l} {a} {f} h to hold =
    elim h [
      | holds x e held ↦ subst (λ (c : Result (A × List ParserToken) ParseStopView). Kept s l (c >>= f)) (sym e) (hold x held)
      | leaves p ↦ leaves (past_then p to)
    ]

-- ---- one after the other

-- what was read leaves both lists where they stand
pub stay : {A : Type 0} {s : Seam} {k : Around} {ts us : List ParserToken} {x y : A} (at : At s ts us) → Out s k at (Ok (x, ts)) (Ok (y, us))
stay {A} {s} {k} {ts} {us} {x} {y} (near ws e f) = out (both (x, ts) (y, us) refl refl ws e f)
stay {A} {s} {k} {ts} {us} {x} {y} (past last) = out (went (x, ts) refl last)

pub stay_all : {A : Type 0} {s : Seam} {k : Around} (x y : A × List ParserToken) (at : At s x.1 y.1) → Out s k at (Ok x) (Ok y)
stay_all {A} {s} {k} x y (near ws e f) = out (both x y refl refl ws e f)
stay_all {A} {s} {k} x y (past last) = out (went x refl last)

-- where what was read may wait, so does what follows
pub then_held : {A B : Type 0} {s : Seam} {k l : Around} {ts us : List ParserToken} (at : At s ts us) {a b : Result (A × List ParserToken) ParseStopView} {f g : A × List ParserToken → Result (B × List ParserToken) ParseStopView}
    → Out s k at a b → ((x y : A × List ParserToken) (here : At s x.1 y.1) → Out s l here (f x) (g y)) → ((x : A × List ParserToken) → Held s k x.1 → Kept s l (f x)) → Out s l at (a >>= f) (b >>= g)
then_held {A} {B} {s} {k} {l} (near ws e0 f0) {a} {b} {f} {g} h to hold =
    out (elim (of_near h) [
      | both x y e1 e2 vs e f' ↦ subst (λ (c : Result (A × List ParserToken) ParseStopView). Parted s l (c >>= f) (b >>= g)) (sym e1) (subst (λ (c : Result (A × List ParserToken) ParseStopView). Parted s l (f x) (c >>= g)) (sym e2) (of_near (to x y (near vs e f'))))
      | kept p ↦ kept (kept_then p (λ x last. of_past (to x x (past last))) hold)
      | ended d e ↦ ended d (ap (λ (c : Result (A × List ParserToken) ParseStopView). c >>= g) e)
    ])
then_held {A} {B} {s} {k} {l} (past last) {a} {b} {f} {g} h to hold = out (past_then (of_past h) (λ x here. of_past (to x x (past here))))

pub then_out : {A B : Type 0} {s : Seam} {l : Around} {ts us : List ParserToken} (at : At s ts us) {a b : Result (A × List ParserToken) ParseStopView} {f g : A × List ParserToken → Result (B × List ParserToken) ParseStopView}
    → Out s around.Parens at a b → ((x y : A × List ParserToken) (here : At s x.1 y.1) → Out s l here (f x) (g y)) → Out s l at (a >>= f) (b >>= g)
then_out {A} {B} {s} {l} at h to = then_held {k = around.Parens} at h to (λ x held. absurd held)

-- ---- tests of the next token

abbrev pub Sees : (List ParserToken → Bool) → Type 0
Sees test = (a b : ParserToken) (ts us : List ParserToken) → a.class ≡ b.class → test (a ∷ ts) ≡ test (b ∷ us)

pub sees_near : (s : Seam) (test : List ParserToken → Bool) → Sees test → (ws : List ParserToken) → test (ws ++ rest_of s) ≡ test (ws ++ tail_of s)
sees_near s test sees [] = sees s.token s.other s.later s.tail s.alike
sees_near s test sees (w ∷ ws) = sees w w (ws ++ rest_of s) (ws ++ tail_of s) refl

pub sees_at : (s : Seam) (test : List ParserToken → Bool) → Sees test → (ts us ws : List ParserToken) → ts ≡ ws ++ rest_of s → us ≡ ws ++ tail_of s → test ts ≡ test us
sees_at s test sees ts us ws e f = ap test e ∙ (sees_near s test sees ws ∙ sym (ap test f))

pub same_choice : {A : Type 0} {s : Seam} {k : Around} (test other : Bool) {u v us vs : Result (A × List ParserToken) ParseStopView} → test ≡ other → Parted s k u us → Parted s k v vs → Parted s k (if test then u else v) (if other then us else vs)
same_choice true true e p q = p
same_choice false false e p q = q
same_choice true false e p q = absurd cc
same_choice false true e p q = absurd cc

pub choose : {A : Type 0} {s : Seam} {k : Around} {ts us : List ParserToken} (test : List ParserToken → Bool) → Sees test → (at : At s ts us) {u v u' v' : Result (A × List ParserToken) ParseStopView} → Out s k at u u' → Out s k at v v' → Out s k at (if test ts then u else v) (if test us then u' else v')
choose {A} {s} {k} {ts} {us} test sees (near ws e f) p q = out (same_choice (test ts) (test us) (sees_at s test sees ts us ws e f) (of_near p) (of_near q))
choose {A} {s} {k} {ts} {us} test sees (past last) p q = out (past_choice (test ts) (of_past p) (of_past q))

-- a test that only stops reading, otherwise than by a token that can't stand there
pub guarded : {A : Type 0} {s : Seam} {k : Around} {ts us : List ParserToken} (at : At s ts us) (test other : Bool) (d e : ParseStopView) {u v : Result (A × List ParserToken) ParseStopView} → IsElse s d → Out s k at u v → Out s k at (if test then Err d else u) (if other then Err e else v)
guarded (near ws e f) true o d c apart p = out (kept (leaves (faulty d refl apart)))
guarded (near ws e f) false true d c apart p = out (ended c refl)
guarded (near ws e f) false false d c apart p = p
guarded (past last) true o d c apart p = out (faulty d refl apart)
guarded (past last) false o d c apart p = out (of_past p)

-- ---- the tokens behind

pub after_at : {s : Seam} {ts us : List ParserToken} → At s ts us → At s (after ts) (after us)
after_at {s} {ts} {us} (near [] e f) = past (subst (λ vs. AreLast s.later vs) (sym (ap after e)) (all_last s.later))
after_at {s} {ts} {us} (near (w ∷ ws) e f) = near ws (ap after e) (ap after f)
after_at {s} {ts} {us} (past last) = past (after_last s.later ts last)

pub choice_at : {s : Seam} {ts us : List ParserToken} (test : List ParserToken → Bool) → Sees test → At s ts us → At s (if test ts then after ts else ts) (if test us then after us else us)
choice_at {s} {ts} {us} test sees (near ws e f) =
    elim (either (test ts)) [
      | inl is ↦ rw (is, sym (sees_at s test sees ts us ws e f) ∙ is) (after_at (near ws e f))
      | inr fails ↦ rw (fails, sym (sees_at s test sees ts us ws e f) ∙ fails) (near ws e f)
    ]
choice_at {s} {ts} {us} test sees (past last) = past (choice_last s.later (test ts) (after ts) ts (after_last s.later ts last) last)

-- further on, and never back from behind the seam
abbrev pub Further : {s : Seam} {ts us vs ws : List ParserToken} → At s ts us → At s vs ws → Type 0
Further (near os e f) here = Unit {0}
Further (past last) (near os e f) = ⊥
Further (past last) (past more) = Unit {0}

pub moved : {A : Type 0} {s : Seam} {k : Around} {ts us vs ws : List ParserToken} (at : At s ts us) (here : At s vs ws) {a b : Result (A × List ParserToken) ParseStopView} → Further at here → Out s k here a b → Out s k at a b
moved (near os e f) (near ps g h) on p = out (of_near p)
moved (near os e f) (past more) on p = out (kept (leaves (of_past p)))
moved (past last) (near ps g h) on p = absurd on
moved (past last) (past more) on p = out (of_past p)

after_further : {s : Seam} {ts us : List ParserToken} (at : At s ts us) → Further at (after_at at)
unfolding after_at
after_further (near ws e f) = tt
after_further (past last) = tt

choice_further : {s : Seam} {ts us : List ParserToken} (test : List ParserToken → Bool) (sees : Sees test) (at : At s ts us) → Further at (choice_at test sees at)
unfolding choice_at
choice_further test sees (near ws e f) = tt
choice_further test sees (past last) = tt

-- behind the next token
pub at_after : {A : Type 0} {s : Seam} {k : Around} {ts us : List ParserToken} (at : At s ts us) (p q : Parser A) → Law s k p q → Out s k at (p (after ts)) (q (after us))
at_after {A} {s} {k} {ts} {us} at p q law = moved at (after_at at) (after_further at) (law (after ts) (after us) (after_at at))

-- the next token was read, whatever it is
pub stay_after : {A : Type 0} {s : Seam} {k : Around} {ts us : List ParserToken} {x y : A} (at : At s ts us) → Out s k at (Ok (x, after ts)) (Ok (y, after us))
stay_after {A} {s} {k} {ts} {us} {x} {y} at = moved at (after_at at) (after_further at) (stay (after_at at))

-- behind the next token, where the test holds
pub at_choice : {A : Type 0} {s : Seam} {k : Around} {ts us : List ParserToken} (test : List ParserToken → Bool) (sees : Sees test) (at : At s ts us) (p q : Parser A) → Law s k p q
    → Out s k at (p (if test ts then after ts else ts)) (q (if test us then after us else us))
at_choice {A} {s} {k} {ts} {us} test sees at p q law =
    moved at (choice_at test sees at) (choice_further test sees at) (law (if test ts then after ts else ts) (if test us then after us else us) (choice_at test sees at))

-- ---- repetitions

-- what is read past the seam stays there
abbrev pub Onward : {A : Type 0} → Seam → Parser A → Type 0
Onward s p = (ts : List ParserToken) → AreLast s.later ts → Past s (p ts)

pub repeated_past : {A : Type 0} (s : Seam) (test : List ParserToken → Bool) (p : Parser A) → Onward s p → (n : ℕ) (ts : List ParserToken) → AreLast s.later ts → Past s (repeated test p n ts)
unfolding repeated
repeated_past s test p onward zero ts last = went ([], ts) refl last
repeated_past s test p onward (suc n) ts last =
    past_choice (test ts) (past_then (onward ts last) (λ x here. past_then (repeated_past s test p onward n x.1 here) (λ xs there. went _ refl there))) (went ([], ts) refl last)

-- one more is read, and the others behind it
pub more_past : {A : Type 0} (s : Seam) (test : List ParserToken → Bool) (p : Parser A) → Onward s p → (n : ℕ) (ts : List ParserToken) → test ts ≡ true → Past s (p ts) → Past s (repeated test p (suc n) ts)
unfolding repeated
more_past s test p onward n ts is h = rw is (past_then h (λ x here. past_then (repeated_past s test p onward n x.1 here) (λ xs there. went _ refl there)))

-- the test is the same on both sides, or it ends the comparison
pub data Tested {A : Type 0} (s : Seam) (test : List ParserToken → Bool) (p q : Parser A) (ws : List ParserToken) : Type 0 where
  same : test (ws ++ rest_of s) ≡ test (ws ++ tail_of s) → Tested s test p q ws
  first : test (ws ++ rest_of s) ≡ true → Past s (p (ws ++ rest_of s)) → Tested s test p q ws
  second : (d : ParseStopView) → test (ws ++ tail_of s) ≡ true → q (ws ++ tail_of s) ≡ Err d → Tested s test p q ws

module _ {A : Type 0} (s : Seam) (k l : Around) (test : List ParserToken → Bool) (p q : Parser A) (law : Law s k p q) where
  onward_of : Onward s p
  onward_of ts last = of_past (law ts ts (past last))

  -- where the test holds, the item takes a token; where the first list waits, it goes on so
  module _ (short : Shortens test p) (hold : (n : ℕ) (ts : List ParserToken) → length ts < n → Held s k ts → Kept s l (repeated test p n ts)) where
    module _ (tested : (ws : List ParserToken) → Tested s test p q ws) where
      one_more : (n : ℕ) (x : A × List ParserToken) → Kept s l (repeated test p n x.1) → Kept s l (repeated test p n x.1 >>= (λ xs. Ok (x.0 ∷ xs.0, xs.1)))
      one_more n x h = kept_then h (λ xs last. went _ refl last) (λ xs held. holds _ refl held)

      repeated_near : (m n : ℕ) (ws : List ParserToken) → length (ws ++ rest_of s) < m → length (ws ++ tail_of s) < n → Parted s l (repeated test p m (ws ++ rest_of s)) (repeated test q n (ws ++ tail_of s))
      unfolding repeated
      repeated_near zero n ws enough more = absurd (omega (arith, enough))
      repeated_near (suc m) zero ws enough more = absurd (omega (arith, more))
      repeated_near (suc m) (suc n) ws enough more =
          let ts = ws ++ rest_of s in
          let us = ws ++ tail_of s in
          elim (tested ws) [
            | first is gone ↦ rw is (kept (leaves (past_then gone (λ x here. past_then (repeated_past s test p onward_of m x.1 here) (λ xs there. went _ refl there)))))
            | second d is e ↦ rw (is, e) (ended d refl)
            | same e ↦ elim (either (test ts)) [
              | inr fails ↦ rw (fails, sym e ∙ fails) (both ([], ts) ([], us) refl refl ws refl refl)
              | inl is ↦ rw (is, sym e ∙ is) (
                  elim (of_near (law ts us (near ws refl refl))) [
                    | both x y e1 e2 vs g h ↦ (
                        let less = short ts x.0 x.1 is e1 in
                        let l1 = length-append ws (rest_of s) in
                        let l2 = length-append ws (tail_of s) in
                        let l3 = length-append vs (rest_of s) in
                        let l4 = length-append vs (tail_of s) in
                        let l5 = ap length g in
                        let rest = repeated_near m n vs (omega (arith, less, l1, l3, l5, enough)) (omega (arith, less, l1, l2, l3, l4, l5, enough, more)) in
                        let there : Parted s l (repeated test p m x.1) (repeated test q n y.1) = rw (g, h) rest in
                        rw (e1, e2) (elim there [
                          | both xs ys f1 f2 os i j ↦ rw (f1, f2) (both (x.0 ∷ xs.0, xs.1) (y.0 ∷ ys.0, ys.1) refl refl os i j)
                          | kept q ↦ kept (one_more m x q)
                          | ended d f ↦ ended d (rw f refl)
                        ]))
                    | kept q ↦ kept (elim q [
                      | holds x e1 held ↦ rw e1 (one_more m x (hold m x.1 (omega (arith, short ts x.0 x.1 is e1, enough)) held))
                      | leaves gone ↦ leaves (past_then gone (λ x last. past_then (repeated_past s test p onward_of m x.1 last) (λ xs there. went _ refl there)))
                    ])
                    | ended d e2 ↦ rw e2 (ended d refl)
                  ])
            ]
          ]

      pub many_out : Law s l (many test p) (many test q)
      many_out ts us (near ws e f) = out (rw (e, f) (repeated_near (suc (length (ws ++ rest_of s))) (suc (length (ws ++ tail_of s))) ws (omega arith) (omega arith)))
      many_out ts us (past last) = out (repeated_past s test p onward_of (suc (length ts)) ts last)

-- the first token of what waits is a `!` or a comma
abbrev pub Waits : ParserToken → Type 0
Waits t = (t.class ≡ class.Not) ⊎ (t.class ≡ class.Comma)

pub runs_first : (s : Seam) (ts : List ParserToken) → Runs s ts → (t : ParserToken) × (us : List ParserToken) × (ts ≡ t ∷ us) × (t.class ≡ class.Comma)
runs_first s _ (comma_here ts e f) = (s.token, s.later, f, e)
runs_first s _ (name_next c ts e g f) = (c, rest_of s, f, e)
runs_first s _ (name_then c n us ts e g more f) = (c, n ∷ us, f, e)

-- no test that only a token of another terminal meets
abbrev pub Quiet : (List ParserToken → Bool) → Type 0
Quiet test = (t : ParserToken) (ts : List ParserToken) → Waits t → test (t ∷ ts) ≡ false

pub quiet_held : (s : Seam) (k : Around) (ts : List ParserToken) (test : List ParserToken → Bool) → Quiet test → Held s k ts → test ts ≡ false
quiet_held s around.Braces ts test quiet h = ap test h.0 ∙ quiet s.token s.later (inl h.1)
quiet_held s around.Brackets ts test quiet h = let f = runs_first s ts h in ap test f.2 ∙ quiet f.0 f.1 (inr f.3)
quiet_held s around.Parens ts test quiet h = absurd h

-- ---- lists

not_longer : (base ts : List ParserToken) → AreLast base ts → length ts ≤ length base
not_longer base ts last = omega (arith, ap length last.1, length-append last.0 ts)

-- an item that lands behind its first token, where it is read, takes it
pub short_behind : {A : Type 0} (test : List ParserToken → Bool) (p : Parser A) → test [] ≡ false → ((t : ParserToken) (ts : List ParserToken) → test (t ∷ ts) ≡ true → Lands ts (p (t ∷ ts)) ⊎ ((d : ParseStopView) × (p (t ∷ ts) ≡ Err d))) → Shortens test p
short_behind {A} test p none lands [] x rest is e = let clash : false ≡ true = sym none ∙ is in absurd cc
short_behind {A} test p none lands (t ∷ ts) x rest is e =
    elim (lands t ts is) [
      | inr d ↦ no_success d.0 (x, rest) (sym d.1 ∙ e)
      | inl h ↦ elim h [
        | read y f last ↦ (
            let here : AreLast ts rest = subst (λ (vs : List ParserToken). AreLast ts vs) (ap (λ (r : A × List ParserToken). r.1) (done_is y (x, rest) (sym f ∙ e))) last in
            omega (arith, not_longer ts rest here))
        | stops d f last ↦ no_success d (x, rest) (sym f ∙ e)
      ]
    ]

abbrev pub plain_hold : {A : Type 0} (s : Seam) (k : Around) (test : List ParserToken → Bool) (p : Parser A) → Type 0
plain_hold s k test p = (n : ℕ) (ts : List ParserToken) → length ts < n → Held s k ts → Kept s k (repeated test p n ts)

pub hold_quiet : {A : Type 0} (s : Seam) (k : Around) (test : List ParserToken → Bool) (p : Parser A) → Quiet test → plain_hold s k test p
unfolding repeated
hold_quiet s k test p quiet zero ts enough held = absurd (omega (arith, enough))
hold_quiet s k test p quiet (suc n) ts enough held = rw (quiet_held s k ts test quiet held) (holds _ refl held)

hold_none : {A : Type 0} (s : Seam) (test : List ParserToken → Bool) (p : Parser A) → plain_hold s around.Parens test p
hold_none s test p n ts enough held = absurd held

-- where the test is of the next token, and what waits doesn't meet it
pub many_quiet : {A : Type 0} (s : Seam) (k : Around) (test : List ParserToken → Bool) (p : Parser A) → Sees test → Quiet test → Shortens test p → Law s k p p → Law s k (many test p) (many test p)
many_quiet s k test p sees quiet short law = many_out s k k test p p law short (hold_quiet s k test p quiet) (λ ws. same (sees_near s test sees ws))

-- where nothing waits
pub many_free : {A : Type 0} (s : Seam) (test : List ParserToken → Bool) (p q : Parser A) → Sees test → Shortens test p → Law s around.Parens p q → Law s around.Parens (many test p) (many test q)
many_free s test p q sees short law = many_out s around.Parens around.Parens test p q law short (hold_none s test p) (λ ws. same (sees_near s test sees ws))

-- a token of that terminal is the next
pub class_next : (t : ParserToken) (ts : List ParserToken) (c : Class) → t.class ≡ c → next_is c (t ∷ ts) ≡ true
unfolding next_is
class_next t ts c e = subst (λ (k : Class). is_class k c ≡ true) (sym e) (same_class c)

pub sees_class : (c : Class) → Sees (next_is c)
unfolding next_is
sees_class c a b ts us e = ap (λ (k : Class). is_class k c) e

pub comma_short : {A : Type 0} (p : Parser A) → ((base : List ParserToken) → Keeps base p) → Shortens (next_is class.Comma) (behind p)
unfolding next_is
comma_short p lands = short_behind (next_is class.Comma) (behind p) refl (λ t ts is. inl (lands ts ts (all_last ts)))

pub listed_free : {A : Type 0} (s : Seam) (p : Parser A) → ((base : List ParserToken) → Keeps base p) → Law s around.Parens p p → Law s around.Parens (listed p) (listed p)
unfolding listed others
listed_free s p lands law ts us at =
    then_out at (law ts us at) (λ x y here. then_out here (many_free s (next_is class.Comma) (behind p) (behind p) (sees_class class.Comma) (comma_short p lands) (λ vs ws there. at_after there p p law) x.1 y.1 here) (λ xs ys there. stay there))

-- where the first is read past the seam
pub listed_past : {A : Type 0} (s : Seam) (p : Parser A) → Keeps s.later p → (ts : List ParserToken) → Past s (p ts) → Past s (listed p ts)
unfolding listed others
listed_past s p lands ts h =
    past_then h (λ x last. past_then (repeated_past s (next_is class.Comma) (behind p) (λ us end. landed (lands (after us) (after_last s.later us end))) (suc (length x.1)) x.1 last) (λ xs end. went _ refl end))
