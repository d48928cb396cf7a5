-- The declarations of an ordering in a text, by their numbers, and what its names stand for.
use Rattle.std.specs.Prelude.{flat_map, unwrap_or, codes, drop, bytes_eq, if◌then◌else◌}
use Rattle.std.proofs.Common.{◌≡◌, ◌⊎◌, inl, inr, ℕ, ◌+◌, true, false, List, [], ◌∷◌, ◌++◌, map, length, slice_get, Some, None, Contains, refl, sym, ◌∙◌, ap, subst}
use Rattle.std.proofs.lemmas.List.Elements.{Contains-append_cases}
use Rattle.rel_formula.proofs.OpenCells.{cons_cases, map_has}
use Rattle.rel_formula.proofs.OneSetOfAtoms.{only_one}
use Rattle.alloy_lex.specs.Fronts.{slash}
use Rattle.alloy_syntax.specs.declared.tree.Name.{Name}
use Rattle.alloy_syntax.specs.declared.tree.Multiplicity.TheVariants as multiplicity
use Rattle.alloy_syntax.specs.declared.tree.Open.{Open}
use Rattle.alloy_syntax.specs.Tree.{ParagraphTree, ModelTree}
use Rattle.named_model.specs.declared.named.Signature.{Signature}
use Rattle.named_model.specs.declared.standing.Standing.TheVariants as standing
use Rattle.named_model.specs.Model.{FieldTree}
use Rattle.named_model.specs.Names.{Globals, number_of, is_among, callee_names, or_else, field_standing, standing_of}
use Rattle.named_model.specs.Declarations.{globals_of, number_in, field_named, fields_named, signatures_named}
use Rattle.order_lib.specs.Library as library
use Rattle.order_lib.specs.Library.{own, paragraphs_of}
use Rattle.order_lib.specs.Faults.{is_alone, first_fault}
use Rattle.order_lib.specs.Expanded.{paragraphs_with}
use Rattle.lowering_laws.specs.OrderingTexts.{HasPlainNames}
use Rattle.lowering_laws.proofs.Orderings.Lines.{none_in}
use Rattle.lowering_laws.proofs.Orderings.Occurrences.{StandsOnce, number_is, place_is, no_later, no_number, text_same, first_left, once_head, once_right, once_among, flat_map_has}
use Rattle.lowering_laws.proofs.Orderings.Declared.{IsWord, SameAlias, same_own, has_slash, aliases_differ, ordered_declared, with_their_own, names_of_signatures, names_of_fields, not_with_slash, IsFirstTop, first_declared}

abbrev pub own_signature : Open → Signature
own_signature o = record {
  name = (own o (codes "Ord")).text;
  place = o.alias.place;
  is_abstract = false;
  mark = library.word_at o multiplicity.One;
  parent = None;
}

abbrev pub first_named : Globals → Open → FieldTree
first_named g o = field_named g (library.first_field o) (own o (codes "First")) (own o (codes "Ord"))

abbrev pub next_named : Globals → Open → FieldTree
next_named g o = field_named g (library.next_field o) (own o (codes "Next")) (own o (codes "Ord"))

abbrev signature_name : Signature → List ℕ
signature_name x = x.name

abbrev field_name : FieldTree → List ℕ
field_name x = x.name

once_alone : {X : Type 0} (name : X → List ℕ) (one : X) → StandsOnce name (one ∷ []) one
once_alone name one = once_head name one [] (λ x c e. none_in x c)

numbered : (names : List (List ℕ)) (n : Name) (k : ℕ) → number_of names n.text ≡ Some k → number_in names n ≡ k
numbered names n k e = ap (λ x. unwrap_or x 0) e

-- local names without a slash
abbrev pub ArePlain : List (List ℕ) → Type 0
ArePlain locals = (l : List ℕ) → Contains locals l → Contains l slash → ⊥

-- a word that is none of the other three
pub record IsCallee (w : List ℕ) : Type 0 where
  pub word : IsWord w
  pub not_own : bytes_eq (codes "Ord") w ≡ false
  pub not_first : bytes_eq (codes "First") w ≡ false
  pub not_next : bytes_eq (codes "Next") w ≡ false

differ : (a b : List ℕ) → bytes_eq a b ≡ false → a ≡ b → ⊥
differ a b e same = let both : bytes_eq a b ≡ true = text_same a b same in cc

module _ (t : ModelTree) (plain : HasPlainNames t) (fine : first_fault t.paragraphs t.opens ≡ None) (o : Open) (is : Contains t.opens o) where
  abbrev pub ps : List ParagraphTree
  ps = paragraphs_with t.opens t.paragraphs

  abbrev pub g : Globals
  g = globals_of ps

  abbrev pub sigs : List Signature
  sigs = flat_map (signatures_named g) ps

  abbrev pub fields : List FieldTree
  fields = flat_map (fields_named g) ps

  abbrev own_signatures : Open → List Signature
  own_signatures q = flat_map (signatures_named g) (paragraphs_of q)

  abbrev own_fields : Open → List FieldTree
  own_fields q = flat_map (fields_named g) (paragraphs_of q)

  sigs_are : sigs ≡ flat_map (signatures_named g) t.paragraphs ++ flat_map own_signatures t.opens
  sigs_are = with_their_own (signatures_named g) (λ kind p target a b expected. refl) t.paragraphs t.opens

  fields_are : fields ≡ flat_map (fields_named g) t.paragraphs ++ flat_map own_fields t.opens
  fields_are = with_their_own (fields_named g) (λ kind p target a b expected. refl) t.paragraphs t.opens

  -- ---- the ordering's own signature

  plain_signature : (x : Signature) → Contains (flat_map (signatures_named g) t.paragraphs) x → (q : Open) (w : List ℕ) → x.name ≡ (own q w).text → ⊥
  plain_signature x c q w e =
      not_with_slash signature_name (globals_of t.paragraphs).signatures (flat_map (signatures_named g) t.paragraphs) (names_of_signatures g t.paragraphs) plain.signatures x c (own q w).text (has_slash q w) e

  -- an own signature that is called so is this one's
  same_signature : (q : Open) (x : Signature) → Contains (own_signatures q) x → (w : List ℕ) → IsWord w → x.name ≡ (own o w).text → SameAlias q o × (codes "Ord" ≡ w)
  same_signature q x c w word e =
      let one : own_signature q ≡ x = only_one (own_signature q) x c in
      same_own q o (codes "Ord") w refl word (ap signature_name one ∙ e)

  own_once : StandsOnce signature_name sigs (own_signature o)
  own_once =
      subst (λ xs. StandsOnce signature_name xs (own_signature o)) (sym sigs_are)
      (once_right signature_name (flat_map (signatures_named g) t.paragraphs) (flat_map own_signatures t.opens) (own_signature o)
      (λ x c e. plain_signature x c o (codes "Ord") e)
      (once_among signature_name own_signatures t.opens o (own_signature o) is (once_alone signature_name (own_signature o)) SameAlias (aliases_differ t.paragraphs [] t.opens fine)
      (λ q x c e. let same = (same_signature q x c (codes "Ord") refl e).0 in (same, sym same))))

  names_are : g.signatures ≡ map signature_name sigs
  names_are = names_of_signatures g ps

  own_found : number_of g.signatures (own o (codes "Ord")).text ≡ Some (length own_once.first.before)
  own_found = ap (λ ns. number_of ns (own o (codes "Ord")).text) names_are ∙ number_is signature_name sigs (own_signature o) own_once.first

  pub own_number : number_of g.signatures (own o (codes "Ord")).text ≡ Some (number_in g.signatures (own o (codes "Ord")))
  own_number = own_found ∙ ap Some (sym (numbered g.signatures (own o (codes "Ord")) (length own_once.first.before) own_found))

  pub own_there : slice_get sigs (number_in g.signatures (own o (codes "Ord"))) ≡ Some (own_signature o)
  own_there =
      ap (slice_get sigs) (numbered g.signatures (own o (codes "Ord")) (length own_once.first.before) own_found) ∙ place_is signature_name sigs (own_signature o) own_once.first

  -- ---- the ordered signature

  ordered_first : IsFirstTop sigs o.signature.text
  ordered_first =
      let p = ordered_declared t.paragraphs [] t.opens fine o is in
      let one = first_declared g o.signature.text t.paragraphs p.0 p.1 p.2 in
      subst (λ xs. IsFirstTop xs o.signature.text) (sym sigs_are)
      (record { one = one.one; named = one.named; top = one.top; whole = one.whole; many = one.many; first = first_left signature_name (flat_map (signatures_named g) t.paragraphs) (flat_map own_signatures t.opens) one.one one.first })

  ordered_found : number_of g.signatures o.signature.text ≡ Some (length ordered_first.first.before)
  ordered_found =
      ap (λ ns. number_of ns o.signature.text) names_are
      ∙ ap (number_of (map signature_name sigs)) (sym ordered_first.named)
      ∙ number_is signature_name sigs ordered_first.one ordered_first.first

  pub signature_number : number_of g.signatures o.signature.text ≡ Some (number_in g.signatures o.signature)
  signature_number = ordered_found ∙ ap Some (sym (numbered g.signatures o.signature (length ordered_first.first.before) ordered_found))

  pub signature_there : (x : Signature) × (slice_get sigs (number_in g.signatures o.signature) ≡ Some x) × (x.parent ≡ None) × (x.is_abstract ≡ false) × (is_alone x.mark ≡ false)
  signature_there = (
    ordered_first.one,
    ap (slice_get sigs) (numbered g.signatures o.signature (length ordered_first.first.before) ordered_found) ∙ place_is signature_name sigs ordered_first.one ordered_first.first,
    ordered_first.top,
    ordered_first.whole,
    ordered_first.many,
  )

  -- ---- the fields

  plain_field : (x : FieldTree) → Contains (flat_map (fields_named g) t.paragraphs) x → (q : Open) (w : List ℕ) → x.name ≡ (own q w).text → ⊥
  plain_field x c q w e =
      not_with_slash field_name (globals_of t.paragraphs).fields (flat_map (fields_named g) t.paragraphs) (names_of_fields g t.paragraphs) plain.fields x c (own q w).text (has_slash q w) e

  same_field : (q : Open) (x : FieldTree) → Contains (own_fields q) x → (w : List ℕ) → IsWord w → x.name ≡ (own o w).text → SameAlias q o
  same_field q x c w word e = elim (cons_cases (first_named g q) (next_named g q ∷ []) x c) [
    | inl first ↦ (same_own q o (codes "First") w refl word (ap field_name first ∙ e)).0
    | inr later ↦ (same_own q o (codes "Next") w refl word (ap field_name (only_one (next_named g q) x later) ∙ e)).0
  ]

  field_once : (w : List ℕ) (one : FieldTree) → IsWord w → one.name ≡ (own o w).text → StandsOnce field_name (own_fields o) one → StandsOnce field_name fields one
  field_once w one word named here =
      subst (λ xs. StandsOnce field_name xs one) (sym fields_are)
      (once_right field_name (flat_map (fields_named g) t.paragraphs) (flat_map own_fields t.opens) one
      (λ x c e. plain_field x c o w (e ∙ named))
      (once_among field_name own_fields t.opens o one is here SameAlias (aliases_differ t.paragraphs [] t.opens fine)
      (λ q x c e. let same = same_field q x c w word (e ∙ named) in (same, sym same))))

  words_differ : (own o (codes "Next")).text ≡ (own o (codes "First")).text → ⊥
  words_differ e = differ (codes "Next") (codes "First") refl (same_own o o (codes "Next") (codes "First") refl refl e).1

  first_once : StandsOnce field_name fields (first_named g o)
  first_once =
      field_once (codes "First") (first_named g o) refl refl
      (once_head field_name (first_named g o) (next_named g o ∷ []) (λ x c e. words_differ (ap field_name (only_one (next_named g o) x c) ∙ e)))

  next_once : StandsOnce field_name fields (next_named g o)
  next_once =
      field_once (codes "Next") (next_named g o) refl refl
      (once_right field_name (first_named g o ∷ []) (next_named g o ∷ []) (next_named g o) (λ x c e. words_differ (sym (ap field_name (only_one (first_named g o) x c) ∙ e)))
      (once_alone field_name (next_named g o)))

  field_names_are : g.fields ≡ map field_name fields
  field_names_are = names_of_fields g ps

  -- a field that stands once has a number of its own, and its name stands for it alone
  module _ (n : Name) (one : FieldTree) (named : one.name ≡ n.text) (once : StandsOnce field_name fields one) where
    field_found : number_of g.fields n.text ≡ Some (length once.first.before)
    field_found = ap (λ ns. number_of ns n.text) field_names_are ∙ ap (number_of (map field_name fields)) (sym named) ∙ number_is field_name fields one once.first

    same_number : number_in g.fields n ≡ length once.first.before
    same_number = numbered g.fields n (length once.first.before) field_found

    field_at : slice_get fields (number_in g.fields n) ≡ Some one
    field_at = ap (slice_get fields) same_number ∙ place_is field_name fields one once.first

    not_shared : field_standing g.fields n.text (length once.first.before) ≡ standing.Field (length once.first.before)
    not_shared =
        let none : is_among (drop (length once.first.before + 1) g.fields) n.text ≡ false =
        ap (λ ns. is_among (drop (length once.first.before + 1) ns) n.text) field_names_are ∙ ap (is_among (drop (length once.first.before + 1) (map field_name fields))) (sym named) ∙ no_later field_name fields one once in
        ap (λ b. if b then standing.Shared (length once.first.before) else standing.Field (length once.first.before)) none

    field_stands : (locals : List (List ℕ)) → number_of locals n.text ≡ None → number_of g.signatures n.text ≡ None → standing_of g locals n.text ≡ standing.Field (number_in g.fields n)
    field_stands locals e f =
        let other = or_else (number_of (callee_names g) n.text) standing.Callee standing.Nothing in
        (λ i. or_else (e i) standing.Local (or_else (f i) standing.Signature (or_else (field_found i) (field_standing g.fields n.text) other)))
        ∙ not_shared ∙ ap standing.Field (sym same_number)

  pub first_there : slice_get fields (number_in g.fields (own o (codes "First"))) ≡ Some (first_named g o)
  first_there = field_at (own o (codes "First")) (first_named g o) refl first_once

  pub next_there : slice_get fields (number_in g.fields (own o (codes "Next"))) ≡ Some (next_named g o)
  next_there = field_at (own o (codes "Next")) (next_named g o) refl next_once

  -- ---- what names stand for, behind local names without a slash

  no_signature : (w : List ℕ) → IsWord w → (codes "Ord" ≡ w → ⊥) → number_of g.signatures (own o w).text ≡ None
  no_signature w word other = no_number g.signatures (own o w).text (
      λ n c e.
      let x = map_has signature_name sigs n (subst (λ ns. Contains ns n) names_are c) in
      let same : x.0.name ≡ (own o w).text = sym x.2 ∙ e in
      elim (Contains-append_cases (flat_map (signatures_named g) t.paragraphs) (flat_map own_signatures t.opens) x.0 (subst (λ xs. Contains xs x.0) sigs_are x.1)) [
        | inl front ↦ plain_signature x.0 front o w same
        | inr later ↦ let q = flat_map_has own_signatures t.opens x.0 later in other (same_signature q.0 x.0 q.2 w word same).1
      ])

  pub no_local : (locals : List (List ℕ)) → ArePlain locals → (w : List ℕ) → number_of locals (own o w).text ≡ None
  no_local locals none w = no_number locals (own o w).text (λ n c e. none n c (subst (λ z. Contains z slash) (sym e) (has_slash o w)))

  pub own_stands : (locals : List (List ℕ)) → ArePlain locals → standing_of g locals (own o (codes "Ord")).text ≡ standing.Signature (number_in g.signatures (own o (codes "Ord")))
  own_stands locals none =
      let text = (own o (codes "Ord")).text in
      let other = or_else (number_of g.fields text) (field_standing g.fields text) (or_else (number_of (callee_names g) text) standing.Callee standing.Nothing) in
      let e = no_local locals none (codes "Ord") in
      λ i. or_else (e i) standing.Local (or_else (own_number i) standing.Signature other)

  pub signature_stands : standing_of g [] o.signature.text ≡ standing.Signature (number_in g.signatures o.signature)
  signature_stands =
      let text = o.signature.text in
      let other = or_else (number_of g.fields text) (field_standing g.fields text) (or_else (number_of (callee_names g) text) standing.Callee standing.Nothing) in
      λ i. or_else (signature_number i) standing.Signature other

  pub first_stands : (locals : List (List ℕ)) → ArePlain locals → standing_of g locals (own o (codes "First")).text ≡ standing.Field (number_in g.fields (own o (codes "First")))
  first_stands locals none =
      field_stands (own o (codes "First")) (first_named g o) refl first_once locals (no_local locals none (codes "First"))
      (no_signature (codes "First") refl (differ (codes "Ord") (codes "First") refl))

  pub next_stands : (locals : List (List ℕ)) → ArePlain locals → standing_of g locals (own o (codes "Next")).text ≡ standing.Field (number_in g.fields (own o (codes "Next")))
  next_stands locals none =
      field_stands (own o (codes "Next")) (next_named g o) refl next_once locals (no_local locals none (codes "Next"))
      (no_signature (codes "Next") refl (differ (codes "Ord") (codes "Next") refl))

  -- ---- names of functions and predicates

  own_field_word : (q : Open) (x : FieldTree) → Contains (own_fields q) x → (w : List ℕ) → IsWord w → x.name ≡ (own o w).text → (codes "First" ≡ w) ⊎ (codes "Next" ≡ w)
  own_field_word q x c w word e = elim (cons_cases (first_named g q) (next_named g q ∷ []) x c) [
    | inl first ↦ inl (same_own q o (codes "First") w refl word (ap field_name first ∙ e)).1
    | inr later ↦ inr (same_own q o (codes "Next") w refl word (ap field_name (only_one (next_named g q) x later) ∙ e)).1
  ]

  no_field : (w : List ℕ) → IsWord w → (codes "First" ≡ w → ⊥) → (codes "Next" ≡ w → ⊥) → number_of g.fields (own o w).text ≡ None
  no_field w word first next = no_number g.fields (own o w).text (
      λ n c e.
      let x = map_has field_name fields n (subst (λ ns. Contains ns n) field_names_are c) in
      let same : x.0.name ≡ (own o w).text = sym x.2 ∙ e in
      elim (Contains-append_cases (flat_map (fields_named g) t.paragraphs) (flat_map own_fields t.opens) x.0 (subst (λ xs. Contains xs x.0) fields_are x.1)) [
        | inl front ↦ plain_field x.0 front o w same
        | inr later ↦ let q = flat_map_has own_fields t.opens x.0 later in elim (own_field_word q.0 x.0 q.2 w word same) [ inl is' ↦ first is' | inr is' ↦ next is' ]
      ])

  pub callee_stands : (locals : List (List ℕ)) → ArePlain locals → (w : List ℕ) → IsCallee w → (k : ℕ) → number_of (callee_names g) (own o w).text ≡ Some k → standing_of g locals (own o w).text ≡ standing.Callee k
  callee_stands locals none w is' k found =
      let text = (own o w).text in
      let a = no_local locals none w in
      let b = no_signature w is'.word (differ (codes "Ord") w is'.not_own) in
      let c = no_field w is'.word (differ (codes "First") w is'.not_first) (differ (codes "Next") w is'.not_next) in
      λ i. or_else (a i) standing.Local (or_else (b i) standing.Signature (or_else (c i) (field_standing g.fields text) (or_else (found i) standing.Callee standing.Nothing)))
