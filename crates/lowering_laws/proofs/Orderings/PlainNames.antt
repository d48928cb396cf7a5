-- The names that a text declares have no slash.
use Rattle.std.specs.Prelude.{flat_map, bytes_eq, ◌&&◌}
use Rattle.std.proofs.Common.{◌≡◌, inl, inr, ℕ, Bool, true, false, ◌||◌, List, [], ◌∷◌, map, get_or, Contains, refl, sym, ◌∙◌, ap, subst}
use Rattle.std.specs.List.{list_any, list_all}
use Rattle.std.proofs.lemmas.Bool.{cases_Bool}
use Rattle.std.proofs.lemmas.List.Elements.{Contains-append_right, Contains-get_or}
use Rattle.rel_formula.proofs.OpenCells.{cons_first, cons_cases, map_has}
use Rattle.rel_formula.proofs.OneSetOfAtoms.{only_one}
use Rattle.alloy_lex.specs.Fronts.{slash, is_name_byte}
use Rattle.alloy_lex.specs.declared.token.Token.{Token}
use Rattle.alloy_lex.specs.declared.token.TokenKind.{TokenKind}
use Rattle.alloy_lex.specs.declared.token.TokenKind.TheVariants as kinds
use Rattle.alloy_lex.specs.declared.lexing.Spot.{Spot}
use Rattle.alloy_lex.specs.Reading.{IsToken, Reads}
use Rattle.alloy_lex.specs.Tokens.{passed}
use Rattle.alloy_syntax.specs.declared.class.Class.{Class}
use Rattle.alloy_syntax.specs.declared.class.Class.TheVariants as class
use Rattle.alloy_syntax.specs.Class.{class_in, words, symbols, class_at, class_of, is_class}
use Rattle.alloy_syntax.specs.declared.parser_token.ParserToken.{ParserToken}
use Rattle.alloy_syntax.specs.ParserTokens.{seen, seen_all}
use Rattle.alloy_syntax.specs.declared.tree.Name.{Name}
use Rattle.alloy_syntax.specs.Tree.{FieldTree, ParagraphTree, signatures, fact, predicate, function, assertion, command, ModelTree}
use Rattle.named_model.specs.Names.{Header}
use Rattle.named_model.specs.Declarations.{globals_of, signature_names, field_names, headers}
use Rattle.alloy_grammar.specs.Fronts.{Front, name, each, listed, listed_if_any, names}
use Rattle.alloy_grammar.specs.Models.{field, parent, paragraph, heading, opened, IsTextOf}
use Rattle.lowering_laws.specs.OrderingTexts.{HasNoSlash, HasPlainNames}
use Rattle.lowering_laws.proofs.Orderings.Lines.{none_in}
use Rattle.lowering_laws.proofs.Orderings.Occurrences.{flat_map_has}
use Rattle.lowering_laws.proofs.Orderings.Rests.{IsRest, one, both, name_rest, optional_rest, behind_comma, comma_rest, each_rest, names_rest, parent_rest, field_rest, qualifiers_rest, paragraph_rest, opened_rest}

-- ---- tokens whose names have no slash

abbrev pub HasNames : List ParserToken → Type 0
HasNames ts = (k : ParserToken) → Contains ts k → k.class ≡ class.Name → HasNoSlash k.text

later : {ts rest : List ParserToken} → IsRest ts rest → HasNames ts → HasNames rest
later {ts} {rest} r has = λ k c. has k (subst (λ us. Contains us k) (sym r.whole) (Contains-append_right r.front rest k c))

name_plain : (n : Name) (ts rest : List ParserToken) → name n ts rest → HasNames ts → HasNoSlash n.text
name_plain n ts rest s has = subst HasNoSlash s.3 (has s.0 (subst (λ us. Contains us s.0) (sym s.1) (cons_first s.0 rest)) s.2)

-- ---- what each of a list has

module _ {A : Type 0} (item : A → Front) (P : A → Type 0) (leaves : (x : A) (ts rest : List ParserToken) → item x ts rest → IsRest ts rest) (holds : (x : A) (ts rest : List ParserToken) → item x ts rest → HasNames ts → P x) where
  each_has : (xs : List A) (ts rest : List ParserToken) → each item xs ts rest → HasNames ts → (x : A) → Contains xs x → P x
  each_has [] ts rest s has x c = absurd (none_in x c)
  each_has (y ∷ xs) ts rest s has x c = elim (cons_cases y xs x c) [
    | inl same ↦ subst P same (holds y ts s.0 s.1 has)
    | inr behind ↦ each_has xs s.0 rest s.2 (later (leaves y ts s.0 s.1) has) x behind
  ]

  commas_have : (xs : List A) (ts rest : List ParserToken) → each (behind_comma item) xs ts rest → HasNames ts → (x : A) → Contains xs x → P x
  commas_have [] ts rest s has x c = absurd (none_in x c)
  commas_have (y ∷ xs) ts rest s has x c = elim (cons_cases y xs x c) [
    | inl same ↦ subst P same (holds y s.1.0 s.0 s.1.2 (later (one s.1.1.0 s.1.1.1) has))
    | inr behind ↦ commas_have xs s.0 rest s.2 (later (comma_rest item leaves y ts s.0 s.1) has) x behind
  ]

  listed_has : (xs : List A) (ts rest : List ParserToken) → listed item xs ts rest → HasNames ts → (x : A) → Contains xs x → P x
  listed_has [] ts rest s has x c = absurd s
  listed_has (y ∷ xs) ts rest s has x c = elim (cons_cases y xs x c) [
    | inl same ↦ subst P same (holds y ts s.0 s.1 has)
    | inr behind ↦ commas_have xs s.0 rest s.2 (later (leaves y ts s.0 s.1) has) x behind
  ]

names_plain : (ns : List Name) (ts rest : List ParserToken) → names ns ts rest → HasNames ts → (n : Name) → Contains ns n → HasNoSlash n.text
names_plain = listed_has name (λ n. HasNoSlash n.text) name_rest name_plain

abbrev HasPlainField : FieldTree → Type 0
HasPlainField f = (n : Name) → Contains f.names n → HasNoSlash n.text

field_plain : (f : FieldTree) (ts rest : List ParserToken) → field f ts rest → HasNames ts → HasPlainField f
field_plain f ts rest s has = names_plain f.names ts s.0 s.1 has

fields_plain : (fs : List FieldTree) (ts rest : List ParserToken) → listed_if_any field fs ts rest → HasNames ts → (f : FieldTree) → Contains fs f → HasPlainField f
fields_plain [] ts rest s has f c = absurd (none_in f c)
fields_plain (x ∷ fs) ts rest s has f c = listed_has field HasPlainField field_rest field_plain (x ∷ fs) ts rest s has f c

-- ---- paragraphs

record DeclaresPlain (x : ParagraphTree) : Type 0 where
  pub signatures : (n : Name) → Contains (signature_names x) n → HasNoSlash n.text
  pub fields : (n : Name) → Contains (field_names x) n → HasNoSlash n.text
  pub callees : (h : Header) → Contains (headers x) h → HasNoSlash h.name

field_named : (ns : List Name) (fs : List FieldTree) → ((f : FieldTree) → Contains fs f → HasPlainField f) → (n : Name) →
    Contains (flat_map (λ (f : FieldTree). flat_map (λ (m : Name). map (λ (owner : Name). m) ns) f.names) fs) n → HasNoSlash n.text
field_named ns fs plain n c =
    let f = flat_map_has (λ (f : FieldTree). flat_map (λ (m : Name). map (λ (owner : Name). m) ns) f.names) fs n c in
    let m = flat_map_has (λ (m : Name). map (λ (owner : Name). m) ns) f.0.names n f.2 in
    let owner = map_has (λ (owner : Name). m.0) ns n m.2 in
    subst (λ (z : Name). HasNoSlash z.text) (sym owner.2) (plain f.0 f.1 m.0 m.1)

one_header : (h : Header) → HasNoSlash h.name → (k : Header) → Contains (h ∷ []) k → HasNoSlash k.name
one_header h plain k c = subst (λ (z : Header). HasNoSlash z.name) (only_one h k c) plain

paragraph_plain : (x : ParagraphTree) (ts rest : List ParserToken) → paragraph x ts rest → HasNames ts → DeclaresPlain x
paragraph_plain (signatures is_abstract m ns p fs) ts rest s has =
    let front = both (qualifiers_rest is_abstract m ts s.0 s.1) (one s.2.1.0 s.2.1.1) in
    let inside = both front (both (names_rest ns s.2.0 s.2.2.0 s.2.2.1) (both (optional_rest parent parent_rest p s.2.2.0 s.2.2.2.0 s.2.2.2.1) (one s.2.2.2.2.1.0 s.2.2.2.2.1.1))) in
    let plain = fields_plain fs s.2.2.2.2.0 s.2.2.2.2.2.0 s.2.2.2.2.2.1 (later inside has) in
    record {
      signatures = names_plain ns s.2.0 s.2.2.0 s.2.2.1 (later front has);
      fields = field_named ns fs plain;
      callees = λ h c. absurd (none_in h c);
    }
paragraph_plain (fact n b) ts rest s has = record { signatures = λ n c. absurd (none_in n c); fields = λ n c. absurd (none_in n c); callees = λ h c. absurd (none_in h c) }
paragraph_plain (predicate n ds b) ts rest s has =
    record { signatures = λ m c. absurd (none_in m c); fields = λ m c. absurd (none_in m c); callees = one_header _ (name_plain n s.0 s.2.0 s.2.1 (later (one s.1.0 s.1.1) has)) }
paragraph_plain (function n ds m range result) ts rest s has =
    record { signatures = λ k c. absurd (none_in k c); fields = λ k c. absurd (none_in k c); callees = one_header _ (name_plain n s.0 s.2.0 s.2.1 (later (one s.1.0 s.1.1) has)) }
paragraph_plain (assertion n b) ts rest s has = record { signatures = λ m c. absurd (none_in m c); fields = λ m c. absurd (none_in m c); callees = λ h c. absurd (none_in h c) }
paragraph_plain (command k p t z e) ts rest s has = record { signatures = λ m c. absurd (none_in m c); fields = λ m c. absurd (none_in m c); callees = λ h c. absurd (none_in h c) }

-- ---- models

heading_rest : (n : Name) (ts rest : List ParserToken) → heading n ts rest → IsRest ts rest
heading_rest n ts rest s = both (one s.1.0 s.1.1) (one s.2.0 s.2.1)

pub model_plain : (ts : List ParserToken) (m : ModelTree) → IsTextOf ts m → HasNames ts → HasPlainNames m
model_plain ts m s has =
    let front = both (optional_rest heading heading_rest m.heading ts s.0 s.1) (each_rest opened opened_rest m.opens s.0 s.2.0 s.2.1) in
    let plain = each_has paragraph DeclaresPlain paragraph_rest paragraph_plain m.paragraphs s.2.0 [] s.2.2 (later front has) in
    let signature : (text : List ℕ) → Contains (globals_of m.paragraphs).signatures text → HasNoSlash text = λ text c.
    let n = map_has (λ (n : Name). n.text) (flat_map signature_names m.paragraphs) text c in
    let p = flat_map_has signature_names m.paragraphs n.0 n.1 in
    subst HasNoSlash (sym n.2) ((plain p.0 p.1).signatures n.0 p.2) in
    let of_field : (text : List ℕ) → Contains (globals_of m.paragraphs).fields text → HasNoSlash text = λ text c.
    let n = map_has (λ (n : Name). n.text) (flat_map field_names m.paragraphs) text c in
    let p = flat_map_has field_names m.paragraphs n.0 n.1 in
    subst HasNoSlash (sym n.2) ((plain p.0 p.1).fields n.0 p.2) in
    let callee : (text : List ℕ) → Contains (map (λ (h : Header). h.name) (flat_map headers m.paragraphs)) text → HasNoSlash text = λ text c.
    let h = map_has (λ (h : Header). h.name) (flat_map headers m.paragraphs) text c in
    let p = flat_map_has headers m.paragraphs h.0 h.1 in
    subst HasNoSlash (sym h.2) ((plain p.0 p.1).callees h.0 p.2) in
    record {
      signatures = λ k d l. signature (get_or (globals_of m.paragraphs).signatures k d) (Contains-get_or (globals_of m.paragraphs).signatures k d l);
      fields = λ k d l. of_field (get_or (globals_of m.paragraphs).fields k d) (Contains-get_or (globals_of m.paragraphs).fields k d l);
      callees = λ k d l. callee (get_or (map (λ (h : Header). h.name) (flat_map headers m.paragraphs)) k d) (Contains-get_or (map (λ (h : Header). h.name) (flat_map headers m.paragraphs)) k d l);
    }

-- ---- tokens of a text

both_true : (a b : Bool) → (a && b) ≡ true → (a ≡ true) × (b ≡ true)
both_true true b e = (refl, e)
both_true false b e = absurd cc

either_false : (a b : Bool) → (a || b) ≡ false → (a ≡ false) × (b ≡ false)
either_false true b e = absurd cc
either_false false b e = (refl, e)

name_bytes : (text : List ℕ) → list_all is_name_byte text ≡ true → HasNoSlash text
name_bytes [] e c = none_in slash c
name_bytes (b ∷ text) e c =
    let parts = both_true (is_name_byte b) (list_all is_name_byte text) e in
    elim (cons_cases b text slash c) [
      | inl same ↦ (let k : is_name_byte slash ≡ true = subst (λ z. is_name_byte z ≡ true) same parts.0 in let f : is_name_byte slash ≡ false = refl in cc)
      | inr behind ↦ name_bytes text parts.1 behind
    ]

-- a table without names
no_name : (entries : List (List ℕ × Class)) (text : List ℕ) → list_any (λ (e : List ℕ × Class). is_class e.1 class.Name) entries ≡ false → class_in entries text ≡ class.Name → ⊥
unfolding class_in is_class
no_name [] text none h = absurd cc
no_name (x ∷ entries) text none h =
    let parts = either_false (is_class x.1 class.Name) (list_any (λ (e : List ℕ × Class). is_class e.1 class.Name) entries) none in
    elim (cases_Bool (bytes_eq x.0 text)) [
      | inl here ↦
          let same : x.1 ≡ class.Name = rw here at h in
          let yes' : is_class x.1 class.Name ≡ true = ap (λ c. is_class c class.Name) same in
          (let f = parts.0 in cc)
      | inr other ↦ no_name entries text parts.1 (rw other at h)
    ]

token_plain : (kind : TokenKind) (text rest : List ℕ) → IsToken kind text rest → class_at kind text ≡ class.Name → HasNoSlash text
unfolding is_class
token_plain kinds.Name text rest is e = name_bytes text is.0.1.0
token_plain kinds.Path text rest is e = absurd cc
token_plain kinds.Number text rest is e = absurd cc
token_plain kinds.Word text rest is e = absurd (no_name words text refl e)
token_plain kinds.Symbol text rest is e = absurd (no_name symbols text refl e)

pub tokens_plain : (at : Spot) (text : List ℕ) (ts : List Token) → Reads at text ts → HasNames (seen_all ts)
unfolding class_of
tokens_plain at text [] r k c e = absurd (none_in k c)
tokens_plain at text (t ∷ ts) (gap, rest, next, more) k c e = elim (cons_cases (seen t) (seen_all ts) k c) [
  | inl same ↦
      let kind : class_at t.kind t.text ≡ class.Name = ap (λ (z : ParserToken). z.class) same ∙ e in
      subst (λ (z : ParserToken). HasNoSlash z.text) same (token_plain t.kind t.text rest next.longest kind)
  | inr behind ↦ tokens_plain (passed (passed at gap) t.text) rest ts more k behind e
]
