-- What a name stands for, by the number of its word.
use Rattle.std.proofs.Common.{◌≡◌, ℕ, ◌+◌, ◌<◌, true, false, List, [], ◌∷◌, map, drop, length, Option, Some, None, refl, sym, ap, subst, ◌∙◌, if◌then◌else◌}
use Rattle.std.specs.Str.{bytes_eq}
use Rattle.std.proofs.lemmas.List.{drop-map}
use Rattle.std.proofs.lemmas.List.Elements.{All-drop}
use Rattle.std.proofs.lemmas.List.Quantifiers.{position-Some}
use Rattle.named_model.specs.Names as names
use Rattle.named_model.specs.declared.standing.Standing.{Standing}
use Rattle.named_model.specs.declared.standing.Standing.TheVariants as standing
use Rattle.name_tables.specs.declared.names.Entry.{Entry}
use Rattle.name_tables.specs.Occurrence.{is_among}
use Rattle.name_tables.specs.Levels.{place_of}
use Rattle.name_tables.specs.InForce.{word_at, header_of, in_force, AreTables, standing_of_word}
use Rattle.name_tables.proofs.Positions.{none_passes}
use Rattle.name_tables.proofs.Texts.{equal_texts, same_text}
use Rattle.name_tables.proofs.Numbered.{by_number, among_by_number, unmet_is_none}

-- the word of a number that was found
pub found : (words : List (List ℕ)) (text : List ℕ) (word : ℕ) → names.number_of words text ≡ Some word → (word < length words) × (word_at words word ≡ text)
found words text word e =
    let at = position-Some (λ name. bytes_eq name text) words word [] e in
    (at.0, equal_texts (word_at words word) text at.1)

-- a text that was not found is no word
pub unmet : (words : List (List ℕ)) (text : List ℕ) → names.number_of words text ≡ None → (n : ℕ) → n < length words → word_at words n ≡ text → ⊥
unmet words text e n l is =
    let fails = none_passes (λ name. bytes_eq name text) words e n [] l in
    let holds : bytes_eq (word_at words n) text ≡ true = subst (λ t. bytes_eq t text ≡ true) (sym is) (same_text text) in
    true_is_not_false (sym holds ∙ fails)
  where
    true_is_not_false : true ≡ false → ⊥
    true_is_not_false h = absurd cc

or_else_same : (o : Option ℕ) (f g : ℕ → Standing) (a b : Standing) → ((n : ℕ) → f n ≡ g n) → a ≡ b → names.or_else o f a ≡ names.or_else o g b
or_else_same (Some n) f g a b same e = same n
or_else_same None f g a b same e = e

pub callee_words : (words : List (List ℕ)) (entries : List Entry) → map (λ (h : names.Header). h.name) (map (header_of words) entries) ≡ map (word_at words) (map (λ (e : Entry). e.word) entries)
callee_words words [] = refl
callee_words words (e ∷ entries) = ap (λ rest. word_at words e.word ∷ rest) (callee_words words entries)

module _ (words : List (List ℕ)) (signatures fields callees : List ℕ) (entries : List Entry) (assertions locals : List ℕ) (are : AreTables words signatures fields callees entries assertions locals) where
  pub callee_names_are : names.callee_names (in_force words signatures fields entries assertions locals).globals ≡ map (word_at words) callees
  callee_names_are = callee_words words entries ∙ ap (map (word_at words)) are.entries_are

  pub by_word : (text : List ℕ) (word : ℕ) → names.number_of words text ≡ Some word
      → standing_of_word locals signatures fields callees word ≡ names.standing_of (in_force words signatures fields entries assertions locals).globals (in_force words signatures fields entries assertions locals).locals text
  by_word text word e =
      let at = found words text word e in
      let local_is = by_number words are.once word text at.0 at.1 locals are.locals_are in
      let signature_is = by_number words are.once word text at.0 at.1 signatures are.signatures_are in
      let field_is = by_number words are.once word text at.0 at.1 fields are.fields_are in
      let callee_is = ap (λ names_there. names.number_of names_there text) callee_names_are ∙ by_number words are.once word text at.0 at.1 callees are.callees_are in
      let again : (n : ℕ) → (if is_among (drop (n + 1) fields) word then standing.Shared n else standing.Field n) ≡ names.field_standing (map (word_at words) fields) text n
      = λ n. ap (λ t. if t then standing.Shared n else standing.Field n) (sym (ap (λ xs. names.is_among xs text) (drop-map (word_at words) (n + 1) fields) ∙ among_by_number words are.once word text at.0 at.1 (drop (n + 1) fields) (All-drop (λ x. x < length words) (n + 1) fields are.fields_are))) in
      rw (local_is, signature_is, field_is, callee_is)
      (or_else_same (place_of word locals) standing.Local standing.Local _ _ (λ n. refl)
      (or_else_same (place_of word signatures) standing.Signature standing.Signature _ _ (λ n. refl)
      (or_else_same (place_of word fields) _ _ _ _ again refl)))

  pub by_no_word : (text : List ℕ) → names.number_of words text ≡ None
      → standing.Nothing ≡ names.standing_of (in_force words signatures fields entries assertions locals).globals (in_force words signatures fields entries assertions locals).locals text
  by_no_word text e =
      let never = unmet words text e in
      rw (unmet_is_none words text never locals are.locals_are, unmet_is_none words text never signatures are.signatures_are, unmet_is_none words text never fields are.fields_are, callee_names_are, unmet_is_none words text never callees are.callees_are) refl
