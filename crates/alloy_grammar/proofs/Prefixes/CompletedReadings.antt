-- What reading gives: what is read may be moved before other tokens, and where it stops, what was read can be completed.
use Rattle.std.proofs.Common.{◌≡◌, ◌⊎◌, inl, inr, ℕ, zero, suc, Bool, true, false, ◌||◌, if◌then◌else◌, List, [], ◌∷◌, ◌++◌, length, Result, Ok, Err, Some, bytes_eq, codes, refl, sym, ap, subst, ◌∙◌, append_assoc}
use Rattle.alloy_syntax.specs.declared.class.Class.{Class}
use Rattle.alloy_syntax.specs.declared.class.Class.TheVariants as class
use Rattle.alloy_lex.specs.declared.token.Place.{Place}
use Rattle.alloy_syntax.specs.declared.reading.Form.{Form}
use Rattle.alloy_syntax.specs.declared.reading.Form.TheVariants as form
use Rattle.alloy_syntax.specs.declared.parser_token.ParserToken.{ParserToken}
use Rattle.alloy_syntax.specs.Class.{is_class}
use Rattle.alloy_syntax.specs.Readers.{ParseStopView, refused, too_deep, unsupported, Parser, ◌>>=◌, next_is, after, is_mark, one, expect, spelled_at, number_at, repeated, many, behind, others, listed, names_at}
use Rattle.alloy_syntax.specs.Nodes.{is_comprehension}
use Rattle.alloy_grammar.specs.Fronts.{Front, sign, unless_next}
use Rattle.alloy_grammar.specs.Nodes.{begins_operator, unless_operator}
use Rattle.alloy_grammar.proofs.Tokens.{token, class_is}
use Rattle.alloy_grammar.specs.Faults.Stops.{unread, AreLast}
use Rattle.alloy_grammar.specs.Refusals.Texts.{next_terminal}
use Rattle.alloy_grammar.specs.Prefixes.Beginnings.{may_stand}
use Rattle.alloy_grammar.proofs.Prefixes.ClosingTokens.{Calm, any_token, is_calm, calm_token, stays_else, stays_operator}

-- ---- texts, one behind the other

pub record Then (F G : Front) (ts rest : List ParserToken) : Type 0 where
  pub middle : List ParserToken
  pub first : F ts middle
  pub second : G middle rest

pub record Token (c : Class) (ts rest : List ParserToken) : Type 0 where
  pub token : ParserToken
  pub are : ts ≡ token ∷ rest
  pub is : token.class ≡ c

pub data Maybe (F : Front) (ts rest : List ParserToken) : Type 0 where
  none : ts ≡ rest → Maybe F ts rest
  some : F ts rest → Maybe F ts rest

pub data Or (F G : Front) (ts rest : List ParserToken) : Type 0 where
  this : F ts rest → Or F G ts rest
  that : G ts rest → Or F G ts rest

pub data Many (F : Front) : List ParserToken → List ParserToken → Type 0 where
  no_more : {ts rest : List ParserToken} → ts ≡ rest → Many F ts rest
  one_more : {ts rest : List ParserToken} (us : List ParserToken) → F ts us → Many F us rest → Many F ts rest

abbrev pub Listed : Front → Front
Listed F = Then F (Many (Then (Token class.Comma) F))

-- ---- what was read before the tokens that are left, and any calm ones in their place

pub record Moves (F : Front) (ts left read : List ParserToken) : Type 0 where
  pub whole : List ParserToken
  pub parts : ts ≡ whole ++ left
  pub text : (other : List ParserToken) → Calm other → F (whole ++ other) (read ++ other)

-- wherever the tokens that are left begin
pub record Moved (F : Front) (ts rest : List ParserToken) : Type 0 where
  pub moves : (left read : List ParserToken) → rest ≡ read ++ left → Moves F ts left read

-- a shortest text
pub record Closing (F : Front) : Type 0 where
  pub tokens : List ParserToken → List ParserToken
  pub calm : (rest : List ParserToken) → Calm rest → Calm (tokens rest)
  pub text : (rest : List ParserToken) → Calm rest → F (tokens rest) rest

-- the token at fault can stand there
abbrev pub stands : ParseStopView → Bool
stands (refused ts) = false
stands (too_deep ts) = true
stands (unsupported f ts) = may_stand f

-- an arrow stands behind the last tokens' first, or before it
abbrev ArrowBeside : List ParserToken → List ParserToken → Type 0
ArrowBeside ts us = (next_is class.Arrow (after us) ≡ true) ⊎ ((vs : List ParserToken) × AreLast ts vs × (next_is class.Arrow vs ≡ true) × (after vs ≡ us))

-- a comma stands before the last tokens, or a comma and a `disj`
abbrev pub CommaBefore : List ParserToken → List ParserToken → Type 0
CommaBefore ts us = (vs : List ParserToken) × AreLast ts vs × (next_is class.Comma vs ≡ true) × ((after vs ≡ us) ⊎ ((next_is class.Disj (after vs) ≡ true) × (after (after vs) ≡ us)))

-- a path of another module than the one that may be opened
abbrev OtherPath : List ParserToken → Type 0
OtherPath us = (path : ParserToken) × (behind : List ParserToken) × (us ≡ path ∷ behind) × (path.class ≡ class.Path) × (bytes_eq path.text (codes "util/ordering") ≡ false)

-- what stands at the fault, where a form is refused but a block behind a signature
abbrev FormAt : Form → List ParserToken → List ParserToken → Type 0
FormAt form.Comprehension ts us = is_comprehension us ≡ true
FormAt form.Appended ts us = ⊥
FormAt form.ArrowMultiplicity ts us = (is_mark us ≡ true) × ArrowBeside ts us
FormAt form.Several ts us = (next_is class.Name us ≡ true) × CommaBefore ts us
FormAt form.Open ts us = OtherPath us

abbrev pub Formed : List ParserToken → ParseStopView → Type 0
Formed ts (refused us) = Unit {0}
Formed ts (too_deep us) = Unit {0}
Formed ts (unsupported f us) = FormAt f ts us

last_behind : {ts us vs : List ParserToken} → AreLast ts us → AreLast us vs → AreLast ts vs
last_behind {ts} {us} {vs} e f = (e.0 ++ f.0, e.1 ∙ (ap (λ (ws : List ParserToken). e.0 ++ ws) f.1 ∙ sym (append_assoc e.0 f.0 vs)))

beside_behind : {ts us ws : List ParserToken} → AreLast ts us → ArrowBeside us ws → ArrowBeside ts ws
beside_behind {ts} {us} {ws} last b =
    elim b [
      | inl arrow ↦ inl arrow
      | inr before ↦ inr (before.0, last_behind last before.1, before.2, before.3)
    ]

comma_behind : {ts us ws : List ParserToken} → AreLast ts us → CommaBefore us ws → CommaBefore ts ws
comma_behind last b = (b.0, last_behind last b.1, b.2, b.3)

formed_behind : {ts us : List ParserToken} → AreLast ts us → (d : ParseStopView) → Formed us d → Formed ts d
formed_behind last (refused vs) f = tt
formed_behind last (too_deep vs) f = tt
formed_behind last (unsupported form.Comprehension vs) f = f
formed_behind last (unsupported form.Appended vs) f = f
formed_behind last (unsupported form.ArrowMultiplicity vs) f = (f.0, beside_behind last f.1)
formed_behind last (unsupported form.Several vs) f = (f.0, comma_behind last f.1)
formed_behind last (unsupported form.Open vs) f = f

-- what was read before the fault, and what completes it; it begins as the token at fault, where that can stand there
pub record Stopped (F : Front) (ts : List ParserToken) (d : ParseStopView) : Type 0 where
  pub read : List ParserToken
  pub parts : ts ≡ read ++ unread d
  pub more : List ParserToken → List ParserToken
  pub calm : (rest : List ParserToken) → Calm rest → Calm (more rest)
  pub alike : stands d ≡ true → (rest : List ParserToken) → next_terminal (more rest) ≡ next_terminal (unread d)
  pub text : (rest : List ParserToken) → Calm rest → F (read ++ more rest) rest
  pub formed : Formed ts d

pub data Gives {A : Type 0} (F : Front) (ts : List ParserToken) (r : Result (A × List ParserToken) ParseStopView) : Type 0 where
  gone : (x : A × List ParserToken) → r ≡ Ok x → Moved F ts x.1 → Gives F ts r
  ended : (d : ParseStopView) → r ≡ Err d → Stopped F ts d → Gives F ts r

abbrev pub Goes : {A : Type 0} → Parser A → Front → Type 0
Goes p F = (ts : List ParserToken) → Gives F ts (p ts)

-- ---- tests

either_in : {P : Type 0} (a b : Bool) → (a || b) ≡ true → (a ≡ true → P) → (b ≡ true → P) → P
either_in true b e p q = p refl
either_in false b e p q = q e

pub either_of : {P : Type 0} {a b : Bool} → (a || b) ≡ true → (a ≡ true → P) → (b ≡ true → P) → P
either_of {P} {a} {b} e p q = either_in a b e p q

pub terminal_is : (c : Class) (ts : List ParserToken) → next_is c ts ≡ true → next_terminal ts ≡ Some c
terminal_is c ts e = let s = token c ts e in ap next_terminal s.1 ∙ ap (λ (d : Class). Some d) s.2

-- ---- closings

abbrev pub close_none : (F : Front) → Closing (Many F)
close_none F = record { tokens = λ rest. rest; calm = λ rest c. c; text = λ rest c. no_more refl }

abbrev pub close_maybe : (F : Front) → Closing (Maybe F)
close_maybe F = record { tokens = λ rest. rest; calm = λ rest c. c; text = λ rest c. none refl }

abbrev pub close_token : (c : Class) → is_calm c ≡ true → Closing (Token c)
close_token c e = record { tokens = λ rest. any_token c ∷ rest; calm = λ rest _. calm_token c e rest; text = λ rest _. record { token = any_token c; are = refl; is = refl } }

abbrev pub close_then : {F G : Front} → Closing F → Closing G → Closing (Then F G)
close_then {F} {G} f g = record {
  tokens = λ rest. f.tokens (g.tokens rest);
  calm = λ rest c. f.calm (g.tokens rest) (g.calm rest c);
  text = λ rest c. record { middle = g.tokens rest; first = f.text (g.tokens rest) (g.calm rest c); second = g.text rest c };
}

abbrev pub close_map : {F G : Front} → ((ts rest : List ParserToken) → F ts rest → G ts rest) → Closing F → Closing G
close_map to f = record { tokens = f.tokens; calm = f.calm; text = λ rest c. to (f.tokens rest) rest (f.text rest c) }

-- ---- moving

pub moved_here : {F : Front} → ((us : List ParserToken) → F us us) → (ts : List ParserToken) → Moved F ts ts
moved_here {F} nothing ts = record { moves = λ left read e. record { whole = read; parts = e; text = λ other c. nothing (read ++ other) } }

pub moved_then : {F G : Front} {ts us rest : List ParserToken} → Moved F ts us → Moved G us rest → Moved (Then F G) ts rest
moved_then {F} {G} {ts} {us} {rest} f g = record {
  moves = λ left read e.
      let h = g.moves left read e in
      let k = f.moves left h.whole h.parts in
      record { whole = k.whole; parts = k.parts; text = λ other c. record { middle = h.whole ++ other; first = k.text other c; second = h.text other c } };
}

pub moved_map : {F G : Front} {ts rest : List ParserToken} → ((us vs : List ParserToken) → F us vs → G us vs) → Moved F ts rest → Moved G ts rest
moved_map {F} {G} {ts} {rest} to f = record {
  moves = λ left read e. let h = f.moves left read e in record { whole = h.whole; parts = h.parts; text = λ other c. to (h.whole ++ other) (read ++ other) (h.text other c) };
}

pub moved_one : (c : Class) (t : ParserToken) (ts rest : List ParserToken) → ts ≡ t ∷ rest → t.class ≡ c → Moved (Token c) ts rest
moved_one c t ts rest e is = record {
  moves = λ left read f. record { whole = t ∷ read; parts = e ∙ ap (λ us. t ∷ us) f; text = λ other _. record { token = t; are = refl; is = is } };
}

pub moved_sign : {c : Class} {p : Place} {ts rest : List ParserToken} → sign c p ts rest → Moved (Token c) ts rest
moved_sign {c} {p} {ts} {rest} s = moved_one c s.0 ts rest s.1 s.2

pub moved_token : (c : Class) (ts : List ParserToken) → next_is c ts ≡ true → Moved (Token c) ts (after ts)
moved_token c ts e = moved_sign (token c ts e)

pub moved_maybe : (F : Front) (ts : List ParserToken) → Moved (Maybe F) ts ts
moved_maybe F ts = moved_here (λ us. none refl) ts

pub moved_unless_else : (ts : List ParserToken) → next_is class.Else ts ≡ false → Moved (unless_next class.Else) ts ts
moved_unless_else ts fails = record {
  moves = λ left read e. record { whole = read; parts = e; text = λ other c. (refl, stays_else read left other (subst (λ us. next_is class.Else us ≡ false) e fails) c) };
}

pub moved_unless_operator : (ts : List ParserToken) → begins_operator ts ≡ false → Moved unless_operator ts ts
moved_unless_operator ts fails = record {
  moves = λ left read e. record { whole = read; parts = e; text = λ other c. (refl, stays_operator read left other (subst (λ us. begins_operator us ≡ false) e fails) c) };
}

-- what was read stands before the last of the tokens
pub moved_last : {F : Front} {ts us : List ParserToken} → Moved F ts us → AreLast ts us
moved_last {F} {ts} {us} f = let h = f.moves us [] refl in (h.whole, h.parts)

-- ---- stopping

pub stopped_map : {F G : Front} {ts : List ParserToken} {d : ParseStopView} → ((us vs : List ParserToken) → F us vs → G us vs) → Stopped F ts d → Stopped G ts d
stopped_map {F} {G} {ts} {d} to f =
    record { read = f.read; parts = f.parts; more = f.more; calm = f.calm; alike = f.alike; text = λ rest c. to (f.read ++ f.more rest) rest (f.text rest c); formed = f.formed }

-- the first part stopped, and the second has its shortest text
pub stopped_close : {F G : Front} {ts : List ParserToken} {d : ParseStopView} → Stopped F ts d → Closing G → Stopped (Then F G) ts d
stopped_close {F} {G} {ts} {d} f g = record {
  read = f.read;
  parts = f.parts;
  more = λ rest. f.more (g.tokens rest);
  calm = λ rest c. f.calm (g.tokens rest) (g.calm rest c);
  alike = λ s rest. f.alike s (g.tokens rest);
  text = λ rest c. record { middle = g.tokens rest; first = f.text (g.tokens rest) (g.calm rest c); second = g.text rest c };
  formed = f.formed;
}

-- the first part was read, and the second stopped
pub stopped_then : {F G : Front} {ts us : List ParserToken} {d : ParseStopView} → Moved F ts us → Stopped G us d → Stopped (Then F G) ts d
stopped_then {F} {G} {ts} {us} {d} f g =
    let h = f.moves (unread d) g.read g.parts in
    record {
      read = h.whole;
      parts = h.parts;
      more = g.more;
      calm = g.calm;
      alike = g.alike;
      text = λ rest c. record { middle = g.read ++ g.more rest; first = h.text (g.more rest) (g.calm rest c); second = g.text rest c };
      formed = formed_behind (moved_last f) d g.formed;
    }

-- nothing was read
pub stopped_here : {F : Front} (d : ParseStopView) (close : Closing F) → (stands d ≡ true → (rest : List ParserToken) → next_terminal (close.tokens rest) ≡ next_terminal (unread d)) → Formed (unread d) d → Stopped F (unread d) d
stopped_here {F} d close alike formed = record { read = []; parts = refl; more = close.tokens; calm = close.calm; alike = alike; text = close.text; formed = formed }

-- the first part was read, and nothing of the second
pub stopped_after : {F G : Front} {ts us : List ParserToken} → Moved F ts us → (d : ParseStopView) (close : Closing G) → us ≡ unread d → (stands d ≡ true → (rest : List ParserToken) → next_terminal (close.tokens rest) ≡ next_terminal (unread d)) → Formed ts d → Stopped (Then F G) ts d
stopped_after {F} {G} {ts} {us} f d close e alike formed =
    let h = f.moves (unread d) [] e in
    record {
      read = h.whole;
      parts = h.parts;
      more = close.tokens;
      calm = close.calm;
      alike = alike;
      text = λ rest c. record { middle = close.tokens rest; first = h.text (close.tokens rest) (close.calm rest c); second = close.text rest c };
      formed = formed;
    }

pub not_there : {P : Type 0} → false ≡ true → P
not_there e = absurd cc

-- ---- what reading gives

pub gives_none : {A : Type 0} (F : Front) (x : A) (ts : List ParserToken) → Gives (Maybe F) ts (Ok (x, ts))
gives_none F x ts = gone (x, ts) refl (moved_maybe F ts)

pub gives_no_more : {A : Type 0} (F : Front) (x : A) (ts : List ParserToken) → Gives (Many F) ts (Ok (x, ts))
gives_no_more F x ts = gone (x, ts) refl (moved_here (λ us. no_more refl) ts)

pub gives_map : {A : Type 0} {F G : Front} {ts : List ParserToken} {r : Result (A × List ParserToken) ParseStopView} → ((us vs : List ParserToken) → F us vs → G us vs) → Gives F ts r → Gives G ts r
gives_map {A} {F} {G} {ts} {r} to h =
    elim h [
      | gone x e m ↦ gone x e (moved_map to m)
      | ended d e s ↦ ended d e (stopped_map to s)
    ]

pub gives_behind : {A : Type 0} {F G : Front} {ts us : List ParserToken} {r : Result (A × List ParserToken) ParseStopView} → Moved F ts us → Gives G us r → Gives (Then F G) ts r
gives_behind {A} {F} {G} {ts} {us} {r} f h =
    elim h [
      | gone x e m ↦ gone x e (moved_then f m)
      | ended d e s ↦ ended d e (stopped_then f s)
    ]

-- one part, and then the other, for which the first is known
pub gives_known : {A B : Type 0} {F G : Front} {ts : List ParserToken} {a : Result (A × List ParserToken) ParseStopView} {f : A × List ParserToken → Result (B × List ParserToken) ParseStopView}
    → Gives F ts a → Closing G → ((x : A × List ParserToken) → a ≡ Ok x → Gives G x.1 (f x)) → Gives (Then F G) ts (a >>= f)
gives_known {A} {B} {F} {G} {ts} {a} {f} h close to =
    elim h [
      | gone x e m ↦ subst (λ (c : Result (A × List ParserToken) ParseStopView). Gives (Then F G) ts (c >>= f)) (sym e) (gives_behind m (to x e))
      | ended d e s ↦ ended d (ap (λ (c : Result (A × List ParserToken) ParseStopView). c >>= f) e) (stopped_close s close)
    ]

pub gives_then : {A B : Type 0} {F G : Front} {ts : List ParserToken} {a : Result (A × List ParserToken) ParseStopView} {f : A × List ParserToken → Result (B × List ParserToken) ParseStopView}
    → Gives F ts a → Closing G → ((x : A × List ParserToken) → Gives G x.1 (f x)) → Gives (Then F G) ts (a >>= f)
gives_then h close to = gives_known h close (λ x e. to x)

-- what was read is given as something else
pub gives_last : {A B : Type 0} {F : Front} {ts : List ParserToken} {a : Result (A × List ParserToken) ParseStopView} (g : A × List ParserToken → B) → Gives F ts a → Gives F ts (a >>= λ x. Ok (g x, x.1))
gives_last {A} {B} {F} {ts} {a} g h =
    elim h [
      | gone x e m ↦ gone (g x, x.1) (ap (λ (c : Result (A × List ParserToken) ParseStopView). c >>= λ y. Ok (g y, y.1)) e) m
      | ended d e s ↦ ended d (ap (λ (c : Result (A × List ParserToken) ParseStopView). c >>= λ y. Ok (g y, y.1)) e) s
    ]

pub gives_choice : {A : Type 0} {F : Front} {ts : List ParserToken} (test : Bool) {u v : Result (A × List ParserToken) ParseStopView} → (test ≡ true → Gives F ts u) → (test ≡ false → Gives F ts v) → Gives F ts (if test then u else v)
gives_choice true p q = p refl
gives_choice false p q = q refl

-- ---- one token

one_gives : {A : Type 0} (c : Class) (f : ParserToken → A) → is_calm c ≡ true → Goes (one c f) (Token c)
one_gives c f calm [] = ended (refused []) refl (stopped_here (refused []) (close_token c calm) (λ s. not_there s) tt)
one_gives c f calm (t ∷ ts) =
    gives_choice (is_class t.class c) (λ is. gone (f t, ts) refl (moved_one c t (t ∷ ts) ts refl (class_is t.class c is)))
    (λ _. ended (refused (t ∷ ts)) refl (stopped_here (refused (t ∷ ts)) (close_token c calm) (λ s. not_there s) tt))

pub expect_gives : (c : Class) → is_calm c ≡ true → Goes (expect c) (Token c)
unfolding expect
expect_gives c calm = one_gives c (λ t. t.place) calm

pub spelled_gives : (c : Class) → is_calm c ≡ true → Goes (spelled_at c) (Token c)
unfolding spelled_at
spelled_gives c calm = one_gives c (λ t. record { text = t.text; place = t.place }) calm

pub number_gives : Goes number_at (Token class.Number)
unfolding number_at
number_gives = one_gives class.Number _ refl

abbrev pub close_name : Closing (Token class.Name)
close_name = close_token class.Name refl

-- ---- repetitions

repeated_gives : {A : Type 0} {F : Front} (test : List ParserToken → Bool) (p : Parser A) → ((us : List ParserToken) → test us ≡ true → Gives F us (p us)) → (n : ℕ) → Goes (repeated test p n) (Many F)
unfolding repeated
repeated_gives {A} {F} test p h zero ts = gives_no_more F [] ts
repeated_gives {A} {F} test p h (suc n) ts =
    gives_choice (test ts)
    (λ is. gives_map (λ us vs t. one_more t.middle t.first t.second) (gives_then (h ts is) (close_none F) (λ x. gives_last _ (repeated_gives test p h n x.1))))
    (λ _. gives_no_more F [] ts)

pub gives_many : {A : Type 0} {F : Front} (test : List ParserToken → Bool) (p : Parser A) → ((us : List ParserToken) → test us ≡ true → Gives F us (p us)) → Goes (many test p) (Many F)
gives_many test p h ts = repeated_gives test p h (suc (length ts)) ts

pub gives_listed : {A : Type 0} {F : Front} (p : Parser A) → Goes p F → Goes (listed p) (Listed F)
unfolding listed others
gives_listed {A} {F} p h ts =
    gives_then (h ts) (close_none (Then (Token class.Comma) F)) (λ x. gives_last _ (gives_many (next_is class.Comma) (behind p) (λ us is. gives_behind (moved_token class.Comma us is) (h (after us))) x.1))

abbrev pub close_listed : {F : Front} → Closing F → Closing (Listed F)
close_listed {F} f = close_then f (close_none (Then (Token class.Comma) F))

pub names_give : Goes names_at (Listed (Token class.Name))
unfolding names_at
names_give = gives_listed (spelled_at class.Name) (spelled_gives class.Name refl)

abbrev pub close_names : Closing (Listed (Token class.Name))
close_names = close_listed close_name
