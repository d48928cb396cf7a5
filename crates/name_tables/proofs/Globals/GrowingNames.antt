-- Names in force that grow.
use Rattle.std.proofs.Common.{◌≡◌, ℕ, ◌+◌, ◌<◌, ◌≤◌, List, [], ◌∷◌, ◌++◌, map, flat_map, length, get_or, drop, sym, ap, ◌∙◌, append_assoc}
use Rattle.std.proofs.lemmas.List.{append-nil, map-append, drop_more}
use Rattle.std.proofs.lemmas.List.Concat.{flat_map-cons}
use Rattle.alloy_syntax.specs.declared.tree.Name.{Name}
use Rattle.alloy_syntax.specs.declared.tree.Paragraph.{Paragraph}
use Rattle.alloy_syntax.specs.Tree.{ParagraphTree}
use Rattle.alloy_syntax.specs.View.{paragraph_view}
use Rattle.named_model.specs.Names.{Header}
use Rattle.named_model.specs.Declarations.{texts, signature_names, field_names, headers, assertion_names}
use Rattle.name_tables.specs.InForce.{InForce, with_signature, with_field}
use Rattle.name_tables.proofs.Reaching.{next_is, none_is}
use Rattle.name_tables.specs.Globals.Grown.{with_names, with_signatures, with_fields, with_paragraph, with_paragraphs}

-- names of all kinds, in two parts
names_twice : (n : InForce) (s t f g : List (List ℕ)) (h k : List Header) (a b : List (List ℕ)) → with_names (with_names n s f h a) t g k b ≡ with_names n (s ++ t) (f ++ g) (h ++ k) (a ++ b)
names_twice n s t f g h k a b =
    ap (λ (xs : List (List ℕ)). record { globals = record { signatures = xs; fields = (n.globals.fields ++ f) ++ g; callees = (n.globals.callees ++ h) ++ k; assertions = (n.globals.assertions ++ a) ++ b }; locals = n.locals }) (append_assoc n.globals.signatures s t)
    ∙ ap (λ (xs : List (List ℕ)). record { globals = record { signatures = n.globals.signatures ++ (s ++ t); fields = xs; callees = (n.globals.callees ++ h) ++ k; assertions = (n.globals.assertions ++ a) ++ b }; locals = n.locals }) (append_assoc n.globals.fields f g)
    ∙ ap (λ (xs : List Header). record { globals = record { signatures = n.globals.signatures ++ (s ++ t); fields = n.globals.fields ++ (f ++ g); callees = xs; assertions = (n.globals.assertions ++ a) ++ b }; locals = n.locals }) (append_assoc n.globals.callees h k)
    ∙ ap (λ (xs : List (List ℕ)). record { globals = record { signatures = n.globals.signatures ++ (s ++ t); fields = n.globals.fields ++ (f ++ g); callees = n.globals.callees ++ (h ++ k); assertions = xs }; locals = n.locals }) (append_assoc n.globals.assertions a b)

pub only_callees_and_assertions : (n : InForce) (h : List Header) (a : List (List ℕ))
    → record { globals = record { signatures = n.globals.signatures; fields = n.globals.fields; callees = n.globals.callees ++ h; assertions = n.globals.assertions ++ a }; locals = n.locals } ≡ with_names n [] [] h a
only_callees_and_assertions n h a =
    ap (λ (xs : List (List ℕ)). record { globals = record { signatures = xs; fields = n.globals.fields; callees = n.globals.callees ++ h; assertions = n.globals.assertions ++ a }; locals = n.locals }) (sym (append-nil n.globals.signatures))
    ∙ ap (λ (xs : List (List ℕ)). record { globals = record { signatures = n.globals.signatures ++ []; fields = xs; callees = n.globals.callees ++ h; assertions = n.globals.assertions ++ a }; locals = n.locals }) (sym (append-nil n.globals.fields))

pub only_assertions : (n : InForce) (a : List (List ℕ))
    → record { globals = record { signatures = n.globals.signatures; fields = n.globals.fields; callees = n.globals.callees; assertions = n.globals.assertions ++ a }; locals = n.locals } ≡ with_names n [] [] [] a
only_assertions n a =
    ap (λ (xs : List Header). record { globals = record { signatures = n.globals.signatures; fields = n.globals.fields; callees = xs; assertions = n.globals.assertions ++ a }; locals = n.locals }) (sym (append-nil n.globals.callees))
    ∙ only_callees_and_assertions n [] a

pub no_names : (n : InForce) → n ≡ with_names n [] [] [] []
no_names n =
    ap (λ (xs : List (List ℕ)). record { globals = record { signatures = n.globals.signatures; fields = n.globals.fields; callees = n.globals.callees; assertions = xs }; locals = n.locals }) (sym (append-nil n.globals.assertions))
    ∙ only_assertions n []

-- ---- loops

signatures_twice : (n : InForce) (s t : List (List ℕ)) → with_signatures (with_signatures n s) t ≡ with_signatures n (s ++ t)
signatures_twice n s t = ap (λ (xs : List (List ℕ)). record { globals = record { signatures = xs; fields = n.globals.fields; callees = n.globals.callees; assertions = n.globals.assertions }; locals = n.locals }) (append_assoc n.globals.signatures s t)

fields_twice : (n : InForce) (s t : List (List ℕ)) → with_fields (with_fields n s) t ≡ with_fields n (s ++ t)
fields_twice n s t = ap (λ (xs : List (List ℕ)). record { globals = record { signatures = n.globals.signatures; fields = xs; callees = n.globals.callees; assertions = n.globals.assertions }; locals = n.locals }) (append_assoc n.globals.fields s t)

pub signatures_none : (n : InForce) (xs : List Name) (i : ℕ) → length xs ≤ i → with_signatures n (texts (drop i xs)) ≡ n
signatures_none n xs i l =
    ap (λ rest. with_signatures n (texts rest)) (none_is xs i l)
    ∙ ap (λ (ys : List (List ℕ)). record { globals = record { signatures = ys; fields = n.globals.fields; callees = n.globals.callees; assertions = n.globals.assertions }; locals = n.locals }) (append-nil n.globals.signatures)

fields_no : (n : InForce) → with_fields n [] ≡ n
fields_no n = ap (λ (ys : List (List ℕ)). record { globals = record { signatures = n.globals.signatures; fields = ys; callees = n.globals.callees; assertions = n.globals.assertions }; locals = n.locals }) (append-nil n.globals.fields)

pub signatures_more : (n next all : InForce) (xs : List Name) (i : ℕ) (x : Name) → i < length xs → x ≡ get_or xs i x → next ≡ with_signature n x.text
    → with_signatures n (texts (drop i xs)) ≡ all → with_signatures next (texts (drop (i + 1) xs)) ≡ all
signatures_more n next all xs i x l here is before =
    ap (λ m. with_signatures m (texts (drop (i + 1) xs))) is
    ∙ signatures_twice n (x.text ∷ []) (texts (drop (i + 1) xs))
    ∙ ap (λ ys. with_signatures n (texts ys)) (sym (next_is xs i x l here))
    ∙ before

-- fields of what is left
module _ {X : Type 0} (named : List X → List Name) (f : X → List Name) where
  pub fields_more : ((x : X) (rest : List X) → named (x ∷ rest) ≡ f x ++ named rest)
      → (n next all : InForce) (xs : List X) (i : ℕ) (x : X) → i < length xs → x ≡ get_or xs i x → next ≡ with_fields n (texts (f x))
      → with_fields n (texts (named (drop i xs))) ≡ all → with_fields next (texts (named (drop (i + 1) xs))) ≡ all
  fields_more cons n next all xs i x l here is before =
      let rest = named (drop (i + 1) xs) in
      ap (λ m. with_fields m (texts rest)) is
      ∙ fields_twice n (texts (f x)) (texts rest)
      ∙ ap (with_fields n) (sym (map-append (λ (m : Name). m.text) (f x) rest))
      ∙ ap (λ ys. with_fields n (texts ys)) (sym (cons x (drop (i + 1) xs)))
      ∙ ap (λ ys. with_fields n (texts (named ys))) (sym (next_is xs i x l here))
      ∙ before

  pub fields_none : named [] ≡ [] → (n : InForce) (xs : List X) (i : ℕ) → length xs ≤ i → with_fields n (texts (named (drop i xs))) ≡ n
  fields_none nothing n xs i l = ap (λ rest. with_fields n (texts (named rest))) (none_is xs i l) ∙ ap (λ rest. with_fields n (texts rest)) nothing ∙ fields_no n

-- a field's name once more
pub owners_more : (n next all : InForce) (name : Name) (owners : List Name) (i : ℕ) → i < length owners → next ≡ with_field n name.text
    → with_fields n (texts (map (λ (owner : Name). name) (drop i owners))) ≡ all → with_fields next (texts (map (λ (owner : Name). name) (drop (i + 1) owners))) ≡ all
owners_more n next all name owners i l is before =
    let rest = texts (map (λ (owner : Name). name) (drop (i + 1) owners)) in
    ap (λ m. with_fields m rest) is
    ∙ fields_twice n (name.text ∷ []) rest
    ∙ ap (λ (ys : List Name). with_fields n (texts (map (λ (owner : Name). name) ys))) (sym (drop_more owners i name l))
    ∙ before

pub owners_none : (n : InForce) (name : Name) (owners : List Name) (i : ℕ) → length owners ≤ i → with_fields n (texts (map (λ (owner : Name). name) (drop i owners))) ≡ n
owners_none n name owners i l = ap (λ (rest : List Name). with_fields n (texts (map (λ (owner : Name). name) rest))) (none_is owners i l) ∙ fields_no n

joined : (f : ParagraphTree → List Name) (p : ParagraphTree) (ps : List ParagraphTree) → texts (f p) ++ texts (flat_map f ps) ≡ texts (flat_map f (p ∷ ps))
joined f p ps = sym (map-append (λ (m : Name). m.text) (f p) (flat_map f ps)) ∙ ap texts (sym (flat_map-cons f p ps))

-- a paragraph's names before those of others
pub paragraphs_cons : (n : InForce) (p : ParagraphTree) (ps : List ParagraphTree) → with_paragraphs (with_paragraph n p) ps ≡ with_paragraphs n (p ∷ ps)
paragraphs_cons n p ps =
    names_twice n (texts (signature_names p)) (texts (flat_map signature_names ps)) (texts (field_names p)) (texts (flat_map field_names ps)) (headers p) (flat_map headers ps) (texts (assertion_names p)) (texts (flat_map assertion_names ps))
    ∙ ap (λ s. with_names n s (texts (field_names p) ++ texts (flat_map field_names ps)) (headers p ++ flat_map headers ps) (texts (assertion_names p) ++ texts (flat_map assertion_names ps))) (joined signature_names p ps)
    ∙ ap (λ f. with_names n (texts (flat_map signature_names (p ∷ ps))) f (headers p ++ flat_map headers ps) (texts (assertion_names p) ++ texts (flat_map assertion_names ps))) (joined field_names p ps)
    ∙ ap (λ h. with_names n (texts (flat_map signature_names (p ∷ ps))) (texts (flat_map field_names (p ∷ ps))) h (texts (assertion_names p) ++ texts (flat_map assertion_names ps))) (sym (flat_map-cons headers p ps))
    ∙ ap (λ a. with_names n (texts (flat_map signature_names (p ∷ ps))) (texts (flat_map field_names (p ∷ ps))) (flat_map headers (p ∷ ps)) a) (joined assertion_names p ps)

pub paragraphs_more : (n next all : InForce) (ps : List Paragraph) (i : ℕ) (p : Paragraph) → i < length ps → p ≡ get_or ps i p → next ≡ with_paragraph n (paragraph_view p)
    → with_paragraphs n (map paragraph_view (drop i ps)) ≡ all → with_paragraphs next (map paragraph_view (drop (i + 1) ps)) ≡ all
paragraphs_more n next all ps i p l here is before =
    ap (λ m. with_paragraphs m (map paragraph_view (drop (i + 1) ps))) is
    ∙ paragraphs_cons n (paragraph_view p) (map paragraph_view (drop (i + 1) ps))
    ∙ ap (λ qs. with_paragraphs n (map paragraph_view qs)) (sym (next_is ps i p l here))
    ∙ before

pub paragraphs_none : (n : InForce) (ps : List Paragraph) (i : ℕ) → length ps ≤ i → with_paragraphs n (map paragraph_view (drop i ps)) ≡ n
paragraphs_none n ps i l = ap (λ rest. with_paragraphs n (map paragraph_view rest)) (none_is ps i l) ∙ sym (no_names n)
