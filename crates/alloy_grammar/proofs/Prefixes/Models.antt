-- What reading gives of models, and with it which tokens begin a text.
use Rattle.std.proofs.Common.{◌≡◌, ℕ, inl, inr, Bool, true, List, [], ◌∷◌, ◌++◌, bytes_eq, codes, Result, Ok, Err, Some, refl, sym, ap, subst, ◌∙◌, append_assoc, append-nil}
use Rattle.std.proofs.lemmas.List.{append_cancel_right}
use Rattle.alloy_syntax.specs.declared.class.Class.{Class}
use Rattle.alloy_syntax.specs.declared.class.Class.TheVariants as class
use Rattle.alloy_syntax.specs.declared.reading.Form.TheVariants as form
use Rattle.alloy_syntax.specs.declared.parser_token.ParserToken.{ParserToken}
use Rattle.alloy_syntax.specs.Class.{is_class}
use Rattle.alloy_syntax.specs.Tree.{ModelTree}
use Rattle.alloy_syntax.specs.Readers.{ParseStopView, refused, too_deep, unsupported, ◌>>=◌, next_is, after, spelled_at}
use Rattle.alloy_syntax.specs.Paragraphs.{is_left, heading_at, ordering_at, open_at, paragraph_at, model_at}
use Rattle.alloy_grammar.specs.Fronts.{Front}
use Rattle.alloy_grammar.specs.Models.{IsTextOf}
use Rattle.alloy_grammar.proofs.Results.{either, no_success}
use Rattle.alloy_grammar.proofs.Tokens.{token, class_is}
use Rattle.alloy_grammar.specs.Faults.Stops.{unread, AreLast}
use Rattle.alloy_grammar.specs.Refusals.Texts.{next_terminal, GoesOn}
use Rattle.alloy_grammar.specs.Prefixes.Beginnings.{Begins, EndsWithSignature, IsBehindComma, HasForm}
use Rattle.alloy_grammar.proofs.Prefixes.ClosingTokens.{calm_end, calm_class}
use Rattle.alloy_grammar.proofs.Prefixes.CompletedReadings.{Then, Token, Maybe, some, Many, Moved, Closing, stands, CommaBefore, Formed, Stopped, Gives, gone, ended, Goes, close_none, close_token, close_then, close_name, moved_then, moved_token, stopped_close, stopped_then, stopped_here, not_there, gives_none, gives_map, gives_behind, gives_then, gives_last, expect_gives, spelled_gives, gives_many}
use Rattle.alloy_grammar.proofs.Prefixes.SignatureEnds.{Read, Signs, plainly, appended, signs_many}
use Rattle.alloy_grammar.proofs.Prefixes.ParagraphTexts.{Paragraph, Ordering, Opening, Heading, Signature, model_text, signed_text}
use Rattle.alloy_grammar.proofs.Prefixes.Paragraphs.{paragraph_signs}

heading_gives : Goes heading_at (Maybe Heading)
unfolding heading_at
heading_gives ts =
    elim (either (next_is class.Module ts)) [
      | inl is ↦ rw is (gives_map (λ us vs t. some t) (gives_behind (moved_token class.Module ts is) (gives_last _ (spelled_gives class.Name refl (after ts)))))
      | inr fails ↦ rw fails (gives_none Heading _ ts)
    ]

-- ---- openings

abbrev ordering_path : ParserToken
ordering_path = record { class = class.Path; place = record { line = 1; column = 1 }; text = codes "util/ordering" }

abbrev close_ordering : Closing Ordering
close_ordering = record { tokens = λ rest. ordering_path ∷ rest; calm = λ rest _. calm_class class.Path refl ordering_path refl rest; text = λ rest _. record { token = ordering_path; are = refl; is = refl; spelled = refl } }

moved_ordering : (t : ParserToken) (ts : List ParserToken) → t.class ≡ class.Path → bytes_eq t.text (codes "util/ordering") ≡ true → Moved Ordering (t ∷ ts) ts
moved_ordering t ts is same = record {
  moves = λ left read e. record { whole = t ∷ read; parts = ap (λ us. t ∷ us) e; text = λ other _. record { token = t; are = refl; is = is; spelled = same } };
}

ordering_gives : Goes ordering_at Ordering
unfolding ordering_at spelled_at
ordering_gives [] = ended (refused []) refl (stopped_here (refused []) close_ordering (λ s. not_there s) tt)
ordering_gives (t ∷ ts) =
    elim (either (is_class t.class class.Path)) [
      | inr fails ↦ rw fails (ended (refused (t ∷ ts)) refl (stopped_here (refused (t ∷ ts)) close_ordering (λ s. not_there s) tt))
      | inl is ↦ rw is (
          elim (either (bytes_eq t.text (codes "util/ordering"))) [
            | inl same ↦ rw same (gone _ refl (moved_ordering t ts (class_is t.class class.Path is) same))
            | inr other ↦ rw other (ended (unsupported form.Open (t ∷ ts)) refl (stopped_here (unsupported form.Open (t ∷ ts)) close_ordering (λ _ rest. sym (ap (λ (c : Class). Some c) (class_is t.class class.Path is))) (t, ts, refl, class_is t.class class.Path is, other)))
          ])
    ]

abbrev close_alias : Closing (Then (Token class.As) (Token class.Name))
close_alias = close_then (close_token class.As refl) close_name

opening_gives : (ts : List ParserToken) → next_is class.Open ts ≡ true → Gives (Then (Token class.Open) Opening) ts (open_at ts)
unfolding open_at
opening_gives ts is =
    let close_bracket = close_then (close_token class.RightBracket refl) close_alias in
    let close_signature = close_then close_name close_bracket in
    gives_behind (moved_token class.Open ts is) (
    gives_then (ordering_gives (after ts)) (close_then (close_token class.LeftBracket refl) close_signature) (λ p.
    gives_then (expect_gives class.LeftBracket refl p.1) close_signature (λ o.
    gives_then (spelled_gives class.Name refl o.1) close_bracket (λ s.
    gives_then (expect_gives class.RightBracket refl s.1) close_alias (λ c.
    gives_then (expect_gives class.As refl c.1) close_name (λ w. gives_last _ (spelled_gives class.Name refl w.1)))))))

-- ---- models

-- a model is read to its end
data Ends {A : Type 0} (F S : Front) (ts : List ParserToken) (r : Result A ParseStopView) : Type 0 where
  finished : (x : A) → r ≡ Ok x → Ends F S ts r
  halted : (d : ParseStopView) → r ≡ Err d → Stopped F ts d → Ends F S ts r
  over : (us : List ParserToken) → r ≡ Err (unsupported form.Appended us) → Moved S ts us → next_is class.LeftBrace us ≡ true → Ends F S ts r

ends_then : {A B : Type 0} {F G S : Front} {ts : List ParserToken} {a : Read A} {f : A × List ParserToken → Result B ParseStopView} → Gives F ts a → Closing G → ((x : A × List ParserToken) → Ends G S x.1 (f x)) → Ends (Then F G) (Then F S) ts (a >>= f)
ends_then {A} {B} {F} {G} {S} {ts} {a} {f} h close to =
    elim h [
      | ended d e s ↦ halted d (ap (λ (c : Read A). c >>= f) e) (stopped_close s close)
      | gone x e m ↦ subst (λ (c : Read A). Ends (Then F G) (Then F S) ts (c >>= f)) (sym e) (
          elim (to x) [
            | finished y g ↦ finished y g
            | halted d g s ↦ halted d g (stopped_then m s)
            | over us g k brace ↦ over us g (moved_then m k) brace
          ])
    ]

ends_last : {A B : Type 0} {F S : Front} {ts : List ParserToken} {a : Read A} (g : A × List ParserToken → B) → Signs F S ts a → Ends F S ts (a >>= λ x. Ok (g x))
ends_last {A} {B} {F} {S} {ts} {a} g h =
    elim h [
      | appended us e m brace ↦ over us (ap (λ (c : Read A). c >>= λ y. Ok (g y)) e) m brace
      | plainly p ↦ elim p [
        | ended d e s ↦ halted d (ap (λ (c : Read A). c >>= λ y. Ok (g y)) e) s
        | gone x e m ↦ finished (g x) (ap (λ (c : Read A). c >>= λ y. Ok (g y)) e)
      ]
    ]

abbrev Whole : Front
Whole = Then (Maybe Heading) (Then (Many (Then (Token class.Open) Opening)) (Many Paragraph))

abbrev WholeSigned : Front
WholeSigned = Then (Maybe Heading) (Then (Many (Then (Token class.Open) Opening)) (Then (Many Paragraph) Signature))

model_ends : (strict : Bool) (limit : ℕ) (ts : List ParserToken) → Ends Whole WholeSigned ts (model_at strict limit ts)
unfolding model_at
model_ends strict limit ts =
    ends_then (heading_gives ts) (close_then (close_none (Then (Token class.Open) Opening)) (close_none Paragraph)) (λ h.
    ends_then (gives_many (next_is class.Open) open_at opening_gives h.1) (close_none Paragraph) (λ os.
    ends_last _ (signs_many is_left (paragraph_at strict limit) (λ us _. paragraph_signs strict limit us) os.1)))

-- ---- where reading stops

abbrev failed : ParseStopView → Result ModelTree ParseStopView
failed d = Err d

stop_is : (d e : ParseStopView) → failed d ≡ failed e → d ≡ e
stop_is d e same = cc

-- the tokens before a fault can be completed; or they are a text, and a block stands behind its last signature
data Halts (before : List ParserToken) (d : ParseStopView) : Type 0 where
  within_text : (more : List ParserToken) → (m : ModelTree) → IsTextOf (before ++ more) m → (stands d ≡ true → next_terminal more ≡ next_terminal (unread d)) → Formed (before ++ unread d) d → Halts before d
  behind_text : (us : List ParserToken) → d ≡ unsupported form.Appended us → next_is class.LeftBrace us ≡ true → EndsWithSignature before → Halts before d

stopped_halts : (before : List ParserToken) (d : ParseStopView) → Stopped Whole (before ++ unread d) d → Halts before d
stopped_halts before d s =
    let m = model_text (s.read ++ s.more []) [] (s.text [] calm_end) in
    let same : s.read ≡ before = sym (append_cancel_right before s.read (unread d) s.parts) in
    within_text (s.more []) m.tree (subst (λ us. IsTextOf (us ++ s.more []) m.tree) same m.spelled) (λ there. s.alike there []) s.formed

over_halts : (before us : List ParserToken) → Moved WholeSigned (before ++ us) us → next_is class.LeftBrace us ≡ true → Halts before (unsupported form.Appended us)
over_halts before us m brace =
    let h = m.moves us [] refl in
    let t = signed_text (h.whole ++ []) [] (h.text [] calm_end) in
    let same : h.whole ++ [] ≡ before = append-nil h.whole ∙ sym (append_cancel_right before h.whole us h.parts) in
    behind_text us refl brace (record { model = t.tree; text = subst (λ vs. IsTextOf vs t.tree) same t.spelled; others = t.others; last = t.last; all = t.all; signature = t.is })

halts : (strict : Bool) (limit : ℕ) (before : List ParserToken) (d : ParseStopView) → model_at strict limit (before ++ unread d) ≡ Err d → Halts before d
halts strict limit before d e =
    elim (model_ends strict limit (before ++ unread d)) [
      | finished m f ↦ no_success d m (sym e ∙ f)
      | halted c f s ↦ stopped_halts before d (subst (λ (b : ParseStopView). Stopped Whole (before ++ unread d) b) (stop_is c d (sym f ∙ e)) s)
      | over us f m brace ↦ (
          let same : unsupported form.Appended us ≡ d = stop_is (unsupported form.Appended us) d (sym f ∙ e) in
          subst (λ (b : ParseStopView). Halts before b) same (over_halts before us (subst (λ (b : ParseStopView). Moved WholeSigned (before ++ unread b) us) (sym same) m) brace))
    ]

-- ---- the laws

pub goes_on : (strict : Bool) (limit : ℕ) (before : List ParserToken) (d : ParseStopView) → model_at strict limit (before ++ unread d) ≡ Err d → Begins before
goes_on strict limit before d e =
    elim (halts strict limit before d e) [
      | within_text more m text alike formed ↦ record { tail = more; model = m; text = text }
      | behind_text us is brace signed ↦ record { tail = []; model = signed.model; text = subst (λ vs. IsTextOf vs signed.model) (sym (append-nil before)) signed.text }
    ]

pub stands_there : (strict : Bool) (limit : ℕ) (before : List ParserToken) (d : ParseStopView) → model_at strict limit (before ++ unread d) ≡ Err d → stands d ≡ true → GoesOn before (unread d)
stands_there strict limit before d e there =
    elim (halts strict limit before d e) [
      | within_text more m text alike formed ↦ record { tail = more; alike = alike there; model = m; text = text }
      | behind_text us is brace signed ↦ not_there (subst (λ (b : ParseStopView). stands b ≡ true) is there)
    ]

-- the form that is refused
abbrev pub FormOf : List ParserToken → ParseStopView → Type 0
FormOf before (refused rest) = Unit {0}
FormOf before (too_deep rest) = Unit {0}
FormOf before (unsupported f rest) = HasForm f before rest

arrow_before : (before rest vs : List ParserToken) → AreLast (before ++ rest) vs → next_is class.Arrow vs ≡ true → after vs ≡ rest → (front : List ParserToken) × (arrow : ParserToken) × (before ≡ front ++ (arrow ∷ [])) × (arrow.class ≡ class.Arrow)
arrow_before before rest vs last is same =
    let t = token class.Arrow vs is in
    let all : before ++ rest ≡ (last.0 ++ (t.0 ∷ [])) ++ rest = last.1 ∙ (ap (λ (ws : List ParserToken). last.0 ++ ws) (t.1 ∙ ap (λ (ws : List ParserToken). t.0 ∷ ws) same) ∙ sym (append_assoc last.0 (t.0 ∷ []) rest)) in
    (last.0, t.0, append_cancel_right before (last.0 ++ (t.0 ∷ [])) rest all, t.2)

comma_before : (before rest : List ParserToken) → CommaBefore (before ++ rest) rest → IsBehindComma before
comma_before before rest (vs, last, is, how) =
    let t = token class.Comma vs is in
    elim how [
      | inl same ↦ (
          let all : before ++ rest ≡ (last.0 ++ (t.0 ∷ [])) ++ rest = last.1 ∙ (ap (λ (ws : List ParserToken). last.0 ++ ws) (t.1 ∙ ap (λ (ws : List ParserToken). t.0 ∷ ws) same) ∙ sym (append_assoc last.0 (t.0 ∷ []) rest)) in
          (last.0, t.0, [], append_cancel_right before (last.0 ++ (t.0 ∷ [])) rest all, t.2, inl refl))
      | inr disj ↦ (
          let u = token class.Disj (after vs) disj.0 in
          let both : vs ≡ t.0 ∷ u.0 ∷ rest = t.1 ∙ ap (λ (ws : List ParserToken). t.0 ∷ ws) (u.1 ∙ ap (λ (ws : List ParserToken). u.0 ∷ ws) disj.1) in
          let all : before ++ rest ≡ (last.0 ++ (t.0 ∷ u.0 ∷ [])) ++ rest = last.1 ∙ (ap (λ (ws : List ParserToken). last.0 ++ ws) both ∙ sym (append_assoc last.0 (t.0 ∷ u.0 ∷ []) rest)) in
          (last.0, t.0, u.0 ∷ [], append_cancel_right before (last.0 ++ (t.0 ∷ u.0 ∷ [])) rest all, t.2, inr (u.0, refl, u.2)))
    ]

formed_is : (before : List ParserToken) (d : ParseStopView) → Formed (before ++ unread d) d → FormOf before d
formed_is before (refused rest) f = tt
formed_is before (too_deep rest) f = tt
formed_is before (unsupported form.Comprehension rest) f = f
formed_is before (unsupported form.Appended rest) f = absurd f
formed_is before (unsupported form.ArrowMultiplicity rest) f = (f.0, elim f.1 [ inl behind ↦ inl behind | inr b ↦ inr (arrow_before before rest b.0 b.1 b.2 b.3) ])
formed_is before (unsupported form.Several rest) f = (f.0, comma_before before rest f.1)
formed_is before (unsupported form.Open rest) f = f

pub form_is : (strict : Bool) (limit : ℕ) (before : List ParserToken) (d : ParseStopView) → model_at strict limit (before ++ unread d) ≡ Err d → FormOf before d
form_is strict limit before d e =
    elim (halts strict limit before d e) [
      | within_text more m text alike formed ↦ formed_is before d formed
      | behind_text us is brace signed ↦ subst (λ (b : ParseStopView). FormOf before b) (sym is) (brace, signed)
    ]
