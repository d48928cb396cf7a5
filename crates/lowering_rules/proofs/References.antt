-- The references of a model that a tree says are there.
use Rattle.std.specs.Prelude.{flat_map, unwrap_or, bytes_eq, slice_index_or, option_map}
use Rattle.std.specs.List.{position_or_len}
use Rattle.std.proofs.Common.{◌≡◌, ◌⊎◌, inl, inr, ℕ, ◌<◌, ◌≤◌, nat_lt, List, [], ◌∷◌, map, length, Contains, All, Bool, true, false, cond, Option, Some, None, refl, sym, ◌∙◌, ap, subst, arith}
use Rattle.std.proofs.lemmas.Bool.{cases_lt}
use Rattle.std.proofs.lemmas.Bool.Decides.{nat_tests}
use Rattle.std.proofs.lemmas.List.{length-append, length-map, get_or_past}
use Rattle.std.proofs.lemmas.List.Elements.{All-nil, All-append, All-map, All-contains, Contains-get_or}
use Rattle.rel_formula.proofs.OpenCells.{cons_first, cons_later, cons_cases}
use Rattle.alloy_syntax.specs.declared.tree.Manner.{Manner}
use Rattle.alloy_syntax.specs.declared.tree.Name.{Name}
use Rattle.alloy_syntax.specs.declared.tree.Parent.{Parent}
use Rattle.alloy_syntax.specs.Tree as tree
use Rattle.alloy_syntax.specs.Tree.{BoundTree, BoundUnions, BoundArrows, ParagraphTree, ModelTree}
use Rattle.named_model.specs.declared.named.Signature.{Signature}
use Rattle.named_model.specs.Names.{Globals}
use Rattle.named_model.specs.Signatures.{signature_at, no_signature}
use Rattle.named_model.specs.Declarations.{signature_names, globals_of, number_in, bound_resolved, unions_resolved, arrows_resolved, words_beside, field_named, fields_named, signature_named, signatures_named, named_of}
use Rattle.lowering_rules.specs.Typed.{IsBound, AreUnions, AreArrows, HasArrow, IsField, HasReferences}
use Rattle.lowering_rules.proofs.Paragraphs.{same_count}

-- ---- numbers of names

lt_test : (m n : ℕ) → nat_lt m n ≡ true → m < n
lt_test m n e = grind (arith, nat_tests)

number_low : (names : List (List ℕ)) (n : Name) → 0 < length names → number_in names n < length names
number_low names n l =
    let k = position_or_len (λ name. bytes_eq name n.text) names in
    let go : (b : Bool) → nat_lt k (length names) ≡ b → unwrap_or (cond b (Some k) None) 0 < length names =
    λ b. elim b as (λ b. nat_lt k (length names) ≡ b → unwrap_or (cond b (Some k) None) 0 < length names) [
      | true ↦ λ e. lt_test k (length names) e
      | false ↦ λ e. l
    ] in
    go (nat_lt k (length names)) refl

-- ---- lists of lists

all_flat : {P X : Type 0} (Q : X → Type 0) (k : P → List X) (ps : List P) → ((p : P) → Contains ps p → All Q (k p)) → All Q (flat_map k ps)
all_flat Q k [] h = All-nil Q
all_flat Q k (p ∷ ps) h = All-append Q (k p) (flat_map k ps) (h p (cons_first p ps)) (all_flat Q k ps (λ q c. h q (cons_later p ps q c)))

part_of : {P X : Type 0} (k : P → List X) (ps : List P) (p : P) → Contains ps p → length (k p) ≤ length (flat_map k ps)
part_of k [] p c = absurd (let l = c.1 in omega arith)
part_of k (q ∷ ps) p c =
    let long = length-append (k q) (flat_map k ps) in
    elim (cons_cases q ps p c) [
      | inl same ↦ (let e : length (k q) ≡ length (k p) = ap (λ r. length (k r)) same in omega arith)
      | inr later ↦ (let l = part_of k ps p later in omega arith)
    ]

-- ---- bounds

mutual
  bound_is : (g : Globals) (b : BoundTree) → IsBound (bound_resolved g b)
  bound_is g (tree.bound_named n) = tt
  bound_is g (tree.bound_bracketed p b) = bound_is g b
  bound_is g (tree.bound_union b us) = (bound_is g b, inl (unions_are g us))
  bound_is g (tree.bound_arrows b arrows) = (bound_is g b, inr (arrows_are g arrows))

  unions_are : (g : Globals) (us : BoundUnions) → AreUnions (unions_resolved g us)
  unions_are g tree.no_unions = tt
  unions_are g (tree.more_unions p b us) = (bound_is g b, unions_are g us)

  arrows_are : (g : Globals) (arrows : BoundArrows) → AreArrows (arrows_resolved g arrows)
  arrows_are g tree.no_arrows = tt
  arrows_are g (tree.more_arrows l p r b arrows) = (bound_is g b, arrows_are g arrows)

arrow_words : (g : Globals) (b : BoundTree) (arrows : BoundArrows) →
    (((words_beside (tree.bound_arrows b arrows)).0 ≡ None) × ((words_beside (tree.bound_arrows b arrows)).1 ≡ None)) ⊎ HasArrow (bound_resolved g (tree.bound_arrows b arrows))
arrow_words g b tree.no_arrows = inl (refl, refl)
arrow_words g b (tree.more_arrows l p r c arrows) = inr tt

words_are : (g : Globals) (b : BoundTree) → (((words_beside b).0 ≡ None) × ((words_beside b).1 ≡ None)) ⊎ HasArrow (bound_resolved g b)
words_are g (tree.bound_named n) = inl (refl, refl)
words_are g (tree.bound_bracketed p b) = words_are g b
words_are g (tree.bound_union b us) = inl (refl, refl)
words_are g (tree.bound_arrows b arrows) = arrow_words g b arrows

-- ---- models

signatures_count : (g : Globals) (p : ParagraphTree) → length (signatures_named g p) ≡ length (signature_names p)
signatures_count g (tree.signatures is_abstract mark names parent fields) = length-map names (signature_named g is_abstract mark parent)
signatures_count g (tree.fact n b) = refl
signatures_count g (tree.predicate n ds b) = refl
signatures_count g (tree.function n ds mark range body) = refl
signatures_count g (tree.assertion n b) = refl
signatures_count g (tree.command kind p target scope expected) = refl

-- the number of the parent is that of some name
abbrev NamesParent : Globals → Signature → Type 0
NamesParent g x = (p : Manner × ℕ) → x.parent ≡ Some p → (n : Name) × (p.1 ≡ number_in g.signatures n)

some_pair : (a b : Manner × ℕ) → Some a ≡ Some b → a ≡ b
some_pair a b e = cc

parent_named : (g : Globals) (o : Option Parent) (p : Manner × ℕ) → option_map (λ (q : Parent). (q.manner, number_in g.signatures q.name)) o ≡ Some p → (n : Name) × (p.1 ≡ number_in g.signatures n)
parent_named g None p e = absurd cc
parent_named g (Some q) p e =
    let same : (q.manner, number_in g.signatures q.name) ≡ p = some_pair (q.manner, number_in g.signatures q.name) p e in
    (q.name, sym (ap (λ (r : Manner × ℕ). r.1) same))

signatures_named_right : (g : Globals) (p : ParagraphTree) → All (NamesParent g) (signatures_named g p)
signatures_named_right g (tree.signatures is_abstract mark names parent fields) =
    All-map (NamesParent g) (signature_named g is_abstract mark parent) names (λ k d l p e. parent_named g parent p e)
signatures_named_right g (tree.fact n b) = All-nil (NamesParent g)
signatures_named_right g (tree.predicate n ds b) = All-nil (NamesParent g)
signatures_named_right g (tree.function n ds mark range body) = All-nil (NamesParent g)
signatures_named_right g (tree.assertion n b) = All-nil (NamesParent g)
signatures_named_right g (tree.command kind p target scope expected) = All-nil (NamesParent g)

module _ (t : ModelTree) where
  abbrev g : Globals
  g = globals_of t.paragraphs

  abbrev sigs : List Signature
  sigs = flat_map (signatures_named g) t.paragraphs

  names_count : length g.signatures ≡ length sigs
  names_count =
      length-map (flat_map signature_names t.paragraphs) (λ (n : Name). n.text) ∙ sym (same_count (signatures_named g) signature_names (signatures_count g) t.paragraphs)

  number_there : (n : Name) → 0 < length sigs → number_in g.signatures n < length sigs
  number_there n l =
      let e = names_count in
      let low = number_low g.signatures n (omega arith) in
      omega arith

  parents_right : (s : ℕ) (p : Manner × ℕ) → (signature_at sigs s).parent ≡ Some p → p.1 < length sigs
  parents_right s p e = elim (cases_lt s (length sigs)) [
    | inl here ↦
        let all = all_flat (NamesParent g) (signatures_named g) t.paragraphs (λ q c. signatures_named_right g q) in
        let n = All-contains (NamesParent g) sigs (signature_at sigs s) all (Contains-get_or sigs s no_signature here) p e in
        subst (λ k. k < length sigs) (sym n.1) (number_there n.0 (omega arith))
    | inr past ↦ absurd (let none : None ≡ Some p = sym (ap (λ (x : Signature). x.parent) (get_or_past sigs s no_signature past)) ∙ e in cc)
  ]

  field_right : (f : tree.FieldTree) (n owner : Name) → 0 < length sigs → IsField (length sigs) (field_named g f n owner)
  field_right f n owner l = record { owner = number_there owner l; bound = bound_is g f.bound; words = words_are g f.bound }

  fields_right : (p : ParagraphTree) → Contains t.paragraphs p → All (IsField (length sigs)) (fields_named g p)
  fields_right (tree.signatures is_abstract mark names parent fields) c =
      let some = part_of (signatures_named g) t.paragraphs (tree.signatures is_abstract mark names parent fields) c in
      let count = length-map names (signature_named g is_abstract mark parent) in
      all_flat (IsField (length sigs)) (λ (f : tree.FieldTree). flat_map (λ (n : Name). map (field_named g f n) names) f.names) fields (λ f cf.
      all_flat (IsField (length sigs)) (λ (n : Name). map (field_named g f n) names) f.names (λ n cn.
      All-map (IsField (length sigs)) (field_named g f n) names (λ k d l. field_right f n (slice_index_or names k d) (omega arith))))
  fields_right (tree.fact n b) c = All-nil (IsField (length sigs))
  fields_right (tree.predicate n ds b) c = All-nil (IsField (length sigs))
  fields_right (tree.function n ds mark range body) c = All-nil (IsField (length sigs))
  fields_right (tree.assertion n b) c = All-nil (IsField (length sigs))
  fields_right (tree.command kind p target scope expected) c = All-nil (IsField (length sigs))

  pub has_references : HasReferences (named_of t)
  has_references = record { parents = parents_right; fields = all_flat (IsField (length sigs)) (fields_named g) t.paragraphs fields_right }
