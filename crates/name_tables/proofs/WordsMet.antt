-- The tables where a word is met, and then a name is declared.
use Rattle.std.proofs.Common.{◌≡◌, ℕ, ◌+◌, ◌<◌, ◌≤◌, true, false, List, [], ◌∷◌, ◌++◌, length, map, get_or, Some, Result, Ok, Err, refl, sym, ap, subst, ◌∙◌, inl, inr, arith, append-nil}
use Rattle.std.specs.Result.{OnErr}
use Rattle.std.specs.List.{slice_get, list_any}
use Rattle.std.specs.Str.{bytes_eq}
use Rattle.std.specs.String.{string_bytes, string_eq}
use Rattle.std.proofs.lemmas.Bool.{cases_Bool}
use Rattle.std.proofs.lemmas.List.Folds.{list_any_at}
use Rattle.std.proofs.lemmas.List.{get_or_append_left, length-append, map-append}
use Rattle.std.proofs.lemmas.List.Elements.{All-head, All-tail, All-cons, All-push, All-weaker}
use Rattle.std.proofs.lemmas.Option.{slice_get_within, get_or_from_slice_get}
use Rattle.std.proofs.lemmas.List.Quantifiers.{all_pairs_push, position-Some}
use Rattle.std.specs.declared.string.String.{String}
use Rattle.indexmap.specs.IndexSet.{insert_key}
use Rattle.named_model.specs.Names as names
use Rattle.name_tables.specs.declared.names.Entry.{Entry}
use Rattle.name_tables.specs.InForce.{word_at, with_word, header_of, in_force, AreWords, AreTables, with_signature, with_field, with_callee, with_assertion, with_locals}
use Rattle.name_tables.proofs.Texts.{turned, same_text}
use Rattle.name_tables.proofs.Numbered.{AreOnce, kept}

pub in_error : {T E P : Type 0} (r : Result T E) → P → OnErr r P
in_error (Ok x) p = tt
in_error (Err e) p = p

-- ---- the list of words

any_same : {Z : Type 0} (keys : List (String Z)) (k : String Z) → list_any (string_eq k) keys ≡ names.is_among (map string_bytes keys) (string_bytes k)
any_same [] k = refl
any_same (x ∷ keys) k = rw (any_same keys k, turned (string_bytes x) (string_bytes k)) refl

pub inserted : {Z : Type 0} (keys : List (String Z)) (k : String Z) → map string_bytes (insert_key string_eq keys k) ≡ with_word (map string_bytes keys) (string_bytes k)
inserted keys k =
    elim (cases_Bool (list_any (string_eq k) keys)) [
      | inl holds ↦ rw (holds, sym (any_same keys k) ∙ holds) refl
      | inr fails ↦ rw (fails, sym (any_same keys k) ∙ fails) (map-append string_bytes keys (k ∷ []))
    ]

pub met_before : (words : List (List ℕ)) (text : List ℕ) (n : ℕ) → names.number_of words text ≡ Some n → with_word words text ≡ words
met_before words text n e =
    let at = position-Some (λ name. bytes_eq name text) words n [] e in
    let holds : names.is_among words text ≡ true = list_any_at (λ name. bytes_eq name text) words n [] at.0 at.1 in
    rw holds refl

-- ---- the tables

none_is : (words : List (List ℕ)) (text : List ℕ) → names.is_among words text ≡ false → (k : ℕ) (d : List ℕ) → k < length words → get_or words k d ≡ text → ⊥
none_is words text e k d l is =
    let holds : list_any (λ name. bytes_eq name text) words ≡ true
    = list_any_at (λ name. bytes_eq name text) words k d l (subst (λ t. bytes_eq t text ≡ true) (sym is) (same_text text)) in
    true_is_not_false (sym holds ∙ e)
  where
    true_is_not_false : true ≡ false → ⊥
    true_is_not_false h = absurd cc

-- what was met, and what is met behind it
with_word_is : (words : List (List ℕ)) (text : List ℕ) → (more : List (List ℕ)) × (with_word words text ≡ words ++ more)
with_word_is words text =
    elim (cases_Bool (names.is_among words text)) [
      | inl holds ↦ ([], rw holds (sym (append-nil words)))
      | inr fails ↦ (text ∷ [], rw fails refl)
    ]

still_once : (words : List (List ℕ)) (text : List ℕ) → AreOnce words → AreOnce (with_word words text)
still_once words text once =
    elim (cases_Bool (names.is_among words text)) [
      | inl holds ↦ rw holds once
      | inr fails ↦ rw fails (all_pairs_push (λ a b. a ≡ b → ⊥) words text once (none_is words text fails))
    ]

headers_kept : (words more : List (List ℕ)) (entries : List Entry) → AreWords words (map (λ (e : Entry). e.word) entries) → map (header_of (words ++ more)) entries ≡ map (header_of words) entries
headers_kept words more [] a = refl
headers_kept words more (e ∷ entries) a =
    rw (get_or_append_left words more [] e.word (All-head (λ y. y < length words) e.word (map (λ (x : Entry). x.word) entries) a), headers_kept words more entries (All-tail (λ y. y < length words) e.word (map (λ (x : Entry). x.word) entries) a)) refl

module _ (words met : List (List ℕ)) (text : List ℕ) (is : met ≡ with_word words text) (signatures fields callees : List ℕ) (entries : List Entry) (assertions locals : List ℕ) (are : AreTables words signatures fields callees entries assertions locals) where
  names_same : (xs : List ℕ) → AreWords words xs → map (word_at met) xs ≡ map (word_at words) xs
  names_same xs a =
      let more = with_word_is words text in
      subst (λ ws. map (word_at ws) xs ≡ map (word_at words) xs) (sym (is ∙ more.1)) (kept words more.0 xs a)

  headers_same : map (header_of met) entries ≡ map (header_of words) entries
  headers_same =
      let more = with_word_is words text in
      subst (λ ws. map (header_of ws) entries ≡ map (header_of words) entries) (sym (is ∙ more.1)) (headers_kept words more.0 entries (subst (AreWords words) (sym are.entries_are) are.callees_are))

  longer : length words ≤ length met
  longer =
      let more = with_word_is words text in
      let long : length met ≡ length words + length more.0 = ap length (is ∙ more.1) ∙ length-append words more.0 in
      omega (arith, long)

  below : (xs : List ℕ) → AreWords words xs → AreWords met xs
  below xs = All-weaker (λ x. x < length words) (λ x. x < length met) (λ x l. omega (arith, l, longer)) xs

  met_once : AreOnce met
  met_once = subst AreOnce (sym is) (still_once words text are.once)

  -- nothing is declared yet
  pub same_names : in_force met signatures fields entries assertions locals ≡ in_force words signatures fields entries assertions locals
  same_names =
      rw (names_same signatures are.signatures_are, names_same fields are.fields_are, headers_same, names_same assertions are.assertions_are, names_same locals are.locals_are) refl

  pub same_tables : AreTables met signatures fields callees entries assertions locals
  same_tables = record {
    once = met_once;
    signatures_are = below signatures are.signatures_are;
    fields_are = below fields are.fields_are;
    callees_are = below callees are.callees_are;
    entries_are = are.entries_are;
    assertions_are = below assertions are.assertions_are;
    locals_are = below locals are.locals_are;
  }

  module _ (word : ℕ) (at : slice_get met word ≡ Some text) where
    word_is : (word < length met) × (word_at met word ≡ text)
    word_is = (slice_get_within met word text at, get_or_from_slice_get met word text [] at)

    one_more : (xs : List ℕ) → AreWords words xs → map (word_at met) (xs ++ word ∷ []) ≡ map (word_at words) xs ++ text ∷ []
    one_more xs a = map-append (word_at met) xs (word ∷ []) ∙ ap (λ ys. ys ++ word_at met word ∷ []) (names_same xs a) ∙ ap (λ t. map (word_at words) xs ++ t ∷ []) word_is.1

    more_below : (xs : List ℕ) → AreWords words xs → AreWords met (xs ++ word ∷ [])
    more_below xs a = All-push (λ x. x < length met) xs word (below xs a) word_is.0

    pub signature_more : in_force met (signatures ++ word ∷ []) fields entries assertions locals ≡ with_signature (in_force words signatures fields entries assertions locals) text
    signature_more =
        rw (one_more signatures are.signatures_are, names_same fields are.fields_are, headers_same, names_same assertions are.assertions_are, names_same locals are.locals_are) refl

    pub field_more : in_force met signatures (fields ++ word ∷ []) entries assertions locals ≡ with_field (in_force words signatures fields entries assertions locals) text
    field_more =
        rw (names_same signatures are.signatures_are, one_more fields are.fields_are, headers_same, names_same assertions are.assertions_are, names_same locals are.locals_are) refl

    pub assertion_more : in_force met signatures fields entries (assertions ++ word ∷ []) locals ≡ with_assertion (in_force words signatures fields entries assertions locals) text
    assertion_more =
        rw (names_same signatures are.signatures_are, names_same fields are.fields_are, headers_same, one_more assertions are.assertions_are, names_same locals are.locals_are) refl

    pub local_more : in_force met signatures fields entries assertions (word ∷ locals) ≡ with_locals (in_force words signatures fields entries assertions locals) (text ∷ map (word_at words) locals)
    local_more =
        rw (names_same signatures are.signatures_are, names_same fields are.fields_are, headers_same, names_same assertions are.assertions_are, names_same locals are.locals_are, word_is.1) refl

    headers_more : (e : Entry) → e.word ≡ word → map (header_of met) (entries ++ e ∷ []) ≡ map (header_of words) entries ++ record { name = text; is_function = e.is_function; parameters = e.parameters } ∷ []
    headers_more e same =
        map-append (header_of met) entries (e ∷ [])
        ∙ ap (λ hs. hs ++ header_of met e ∷ []) headers_same
        ∙ ap (λ t. map (header_of words) entries ++ record { name = t; is_function = e.is_function; parameters = e.parameters } ∷ []) (ap (word_at met) same ∙ word_is.1)

    pub callee_more : (e : Entry) → e.word ≡ word → in_force met signatures fields (entries ++ e ∷ []) assertions locals ≡ with_callee (in_force words signatures fields entries assertions locals) (record { name = text; is_function = e.is_function; parameters = e.parameters })
    callee_more e same =
        rw (names_same signatures are.signatures_are, names_same fields are.fields_are, headers_more e same, names_same assertions are.assertions_are, names_same locals are.locals_are) refl

    pub signature_tables : AreTables met (signatures ++ word ∷ []) fields callees entries assertions locals
    signature_tables = record {
      once = met_once;
      signatures_are = more_below signatures are.signatures_are;
      fields_are = below fields are.fields_are;
      callees_are = below callees are.callees_are;
      entries_are = are.entries_are;
      assertions_are = below assertions are.assertions_are;
      locals_are = below locals are.locals_are;
    }

    pub field_tables : AreTables met signatures (fields ++ word ∷ []) callees entries assertions locals
    field_tables = record {
      once = met_once;
      signatures_are = below signatures are.signatures_are;
      fields_are = more_below fields are.fields_are;
      callees_are = below callees are.callees_are;
      entries_are = are.entries_are;
      assertions_are = below assertions are.assertions_are;
      locals_are = below locals are.locals_are;
    }

    pub callee_tables : (e : Entry) → e.word ≡ word → AreTables met signatures fields (callees ++ word ∷ []) (entries ++ e ∷ []) assertions locals
    callee_tables e same = record {
      once = met_once;
      signatures_are = below signatures are.signatures_are;
      fields_are = below fields are.fields_are;
      callees_are = more_below callees are.callees_are;
      entries_are = map-append (λ (x : Entry). x.word) entries (e ∷ []) ∙ ap (λ xs. xs ++ e.word ∷ []) are.entries_are ∙ ap (λ w. callees ++ w ∷ []) same;
      assertions_are = below assertions are.assertions_are;
      locals_are = below locals are.locals_are;
    }

    pub assertion_tables : AreTables met signatures fields callees entries (assertions ++ word ∷ []) locals
    assertion_tables = record {
      once = met_once;
      signatures_are = below signatures are.signatures_are;
      fields_are = below fields are.fields_are;
      callees_are = below callees are.callees_are;
      entries_are = are.entries_are;
      assertions_are = more_below assertions are.assertions_are;
      locals_are = below locals are.locals_are;
    }

    pub local_tables : AreTables met signatures fields callees entries assertions (word ∷ locals)
    local_tables = record {
      once = met_once;
      signatures_are = below signatures are.signatures_are;
      fields_are = below fields are.fields_are;
      callees_are = below callees are.callees_are;
      entries_are = are.entries_are;
      assertions_are = below assertions are.assertions_are;
      locals_are = All-cons (λ x. x < length met) word locals word_is.0 (below locals are.locals_are);
    }
