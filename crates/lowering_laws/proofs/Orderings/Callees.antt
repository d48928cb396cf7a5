-- The functions and predicates of an ordering in a text, by their numbers.
use Rattle.std.specs.Prelude.{flat_map, unwrap_or, codes}
use Rattle.std.proofs.Common.{◌≡◌, inl, inr, ℕ, ◌+◌, ◌-◌, ◌==◌, true, false, List, [], ◌∷◌, ◌++◌, map, length, slice_get, Some, None, Contains, refl, sym, ◌∙◌, ap, subst, arith}
use Rattle.std.specs.List.{list_any}
use Rattle.std.proofs.lemmas.List.{map-id, length-append, length-map}
use Rattle.std.proofs.lemmas.List.Elements.{Contains-append_left, Contains-append_right, Contains-append_cases}
use Rattle.std.proofs.lemmas.Option.{get_or_from_slice_get}
use Rattle.rel_formula.proofs.OpenCells.{cons_cases, map_has, has_map}
use Rattle.rel_formula.proofs.Lists.{some-Contains}
use Rattle.alloy_lex.specs.Fronts.{slash}
use Rattle.alloy_syntax.specs.declared.tree.Operator.TheVariants as operator
use Rattle.alloy_syntax.specs.declared.tree.Open.{Open}
use Rattle.alloy_syntax.specs.Tree as tree
use Rattle.alloy_syntax.specs.Tree.{Tree, ParagraphTree, ModelTree, DeclarationTree, declarations_of, trees_of}
use Rattle.named_model.specs.Model.{CalleeTree, formulas, value}
use Rattle.named_model.specs.Names.{Header, Globals, number_of, callee_names, header_at, resolved, all_resolved, declarations_resolved}
use Rattle.named_model.specs.Declarations.{globals_of, number_in, parameter_names, parameters_of, headers, callees_named}
use Rattle.lowering_rules.proofs.Arities.{get_map, map_get}
use Rattle.order_lib.specs.Library as library
use Rattle.order_lib.specs.Library.{own, paragraphs_of}
use Rattle.order_lib.specs.Faults.{first_fault}
use Rattle.order_lib.specs.Expanded.{paragraphs_with}
use Rattle.lowering_laws.specs.OrderingTexts.{HasPlainNames}
use Rattle.lowering_laws.proofs.Orderings.Lines.{none_in}
use Rattle.lowering_laws.proofs.Orderings.Occurrences.{Differing, flat_map_has, flat_names}
use Rattle.lowering_laws.proofs.Orderings.Keys.{first_number, one_row, same_at, part_of}
use Rattle.lowering_laws.proofs.Orderings.Declared.{IsWord, SameAlias, same_own, has_slash, aliases_differ, with_their_own, not_with_slash}

-- ---- a function or a predicate, with what is known of it by its name

abbrev pub Callee : Type 0
Callee = Header × CalleeTree

abbrev pairs_of : List Header → List CalleeTree → List Callee
pairs_of [] cs = []
pairs_of (h ∷ hs) [] = []
pairs_of (h ∷ hs) (c ∷ cs) = (h, c) ∷ pairs_of hs cs

abbrev pub callee_pairs : Globals → ParagraphTree → List Callee
callee_pairs g p = pairs_of (headers p) (callees_named g p)

abbrev header_of : Callee → Header
header_of x = x.0

abbrev tree_of : Callee → CalleeTree
tree_of x = x.1

abbrev callee_name : Callee → List ℕ
callee_name x = x.0.name

headers_agree : (g : Globals) (p : ParagraphTree) → map (λ (h : Header). h) (headers p) ≡ map header_of (callee_pairs g p)
headers_agree g (tree.signatures is_abstract mark names parent fields) = refl
headers_agree g (tree.fact n b) = refl
headers_agree g (tree.predicate n ds b) = refl
headers_agree g (tree.function n ds mark range body) = refl
headers_agree g (tree.assertion n b) = refl
headers_agree g (tree.command kind p target scope expected) = refl

names_agree : (g : Globals) (p : ParagraphTree) → map (λ (h : Header). h.name) (headers p) ≡ map callee_name (callee_pairs g p)
names_agree g (tree.signatures is_abstract mark names parent fields) = refl
names_agree g (tree.fact n b) = refl
names_agree g (tree.predicate n ds b) = refl
names_agree g (tree.function n ds mark range body) = refl
names_agree g (tree.assertion n b) = refl
names_agree g (tree.command kind p target scope expected) = refl

trees_agree : (g : Globals) (p : ParagraphTree) → map (λ (c : CalleeTree). c) (callees_named g p) ≡ map tree_of (callee_pairs g p)
trees_agree g (tree.signatures is_abstract mark names parent fields) = refl
trees_agree g (tree.fact n b) = refl
trees_agree g (tree.predicate n ds b) = refl
trees_agree g (tree.function n ds mark range body) = refl
trees_agree g (tree.assertion n b) = refl
trees_agree g (tree.command kind p target scope expected) = refl

-- ---- those of an ordering, each with its word

abbrev function_pair : Globals → Open → List ℕ → List DeclarationTree → Tree → Tree → Callee
function_pair g o word ds range body = (
  record { name = (own o word).text; is_function = true; parameters = length (parameter_names ds) },
  record {
    place = o.alias.place;
    parameters = declarations_resolved g [] (declarations_of ds);
    meaning = value (resolved g (parameters_of ds) range) (resolved g (parameters_of ds) body);
  },
)

abbrev predicate_pair : Globals → Open → List ℕ → Tree → Callee
predicate_pair g o word body = (
  record { name = (own o word).text; is_function = false; parameters = length (parameter_names (library.two_atoms o)) },
  record {
    place = o.alias.place;
    parameters = declarations_resolved g [] (declarations_of (library.two_atoms o));
    meaning = formulas (all_resolved g (parameters_of (library.two_atoms o)) (trees_of (body ∷ [])));
  },
)

abbrev pub Row : Type 0
Row = List ℕ × Callee

abbrev pub function_row : Globals → Open → List ℕ → List DeclarationTree → Tree → Tree → Row
function_row g o word ds range body = (word, function_pair g o word ds range body)

abbrev pub predicate_row : Globals → Open → List ℕ → Tree → Row
predicate_row g o word body = (word, predicate_pair g o word body)

abbrev pub rows : Globals → Open → List Row
rows g o =
    function_row g o (codes "first") [] (library.all_atoms o) (library.first_atom o)
    ∷ function_row g o (codes "next") [] (library.all_pairs o) (library.neighbours o)
    ∷ function_row g o (codes "prev") [] (library.all_pairs o) (library.reversed o)
    ∷ function_row g o (codes "last") [] (library.all_atoms o) (library.between o (library.all_atoms o) operator.Minus (library.followed o))
    ∷ function_row g o (codes "nexts") (library.one_atom o) (library.all_atoms o) (library.reached o (library.neighbours o))
    ∷ function_row g o (codes "prevs") (library.one_atom o) (library.all_atoms o) (library.reached o (library.reversed o))
    ∷ predicate_row g o (codes "lt") (library.is_in o (codes "prevs"))
    ∷ predicate_row g o (codes "gt") (library.is_in o (codes "nexts"))
    ∷ predicate_row g o (codes "lte") (library.or_equal o (codes "lt"))
    ∷ predicate_row g o (codes "gte") (library.or_equal o (codes "gt"))
    ∷ []

abbrev row_callee : Row → Callee
row_callee r = r.1

row_named : (g : Globals) (o : Open) (r : Row) → Contains (rows g o) r → callee_name r.1 ≡ (own o r.0).text
row_named g o r c = same_at (λ (x : Row). callee_name x.1) (λ (x : Row). (own o x.0).text) (rows g o) refl r c

row_word : (g : Globals) (o : Open) (r : Row) → Contains (rows g o) r → IsWord r.0
row_word g o r c = same_at (λ (x : Row). list_any (λ b. b == slash) x.0) (λ (x : Row). false) (rows g o) refl r c

-- an ordering whose alias is that of another one is that one
same_ordering : (os : List Open) → Differing SameAlias os → (q o : Open) → Contains os q → Contains os o → SameAlias q o → q ≡ o
same_ordering [] apart q o c d same = absurd (none_in q c)
same_ordering (x ∷ os) apart q o c d same = elim (cons_cases x os q c) [
  | inl first ↦ elim (cons_cases x os o d) [
    | inl second ↦ sym first ∙ second
    | inr later ↦ absurd (apart.0 o later (ap (λ (z : Open). z.alias.text) first ∙ same))
  ]
  | inr before ↦ elim (cons_cases x os o d) [
    | inl second ↦ absurd (apart.0 q before (ap (λ (z : Open). z.alias.text) second ∙ sym same))
    | inr later ↦ same_ordering os apart.1 q o before later same
  ]
]

has_flat : {P X : Type 0} (k : P → List X) (ps : List P) (p : P) (x : X) → Contains ps p → Contains (k p) x → Contains (flat_map k ps) x
has_flat k [] p x c d = absurd (none_in p c)
has_flat k (q ∷ ps) p x c d = elim (cons_cases q ps p c) [
  | inl same ↦ Contains-append_left (k q) (flat_map k ps) x (subst (λ z. Contains (k z) x) (sym same) d)
  | inr later ↦ Contains-append_right (k q) (flat_map k ps) x (has_flat k ps p x later d)
]

module _ (t : ModelTree) (plain : HasPlainNames t) (fine : first_fault t.paragraphs t.opens ≡ None) (o : Open) (is : Contains t.opens o) where
  abbrev ps : List ParagraphTree
  ps = paragraphs_with t.opens t.paragraphs

  abbrev g : Globals
  g = globals_of ps

  abbrev pairs : List Callee
  pairs = flat_map (callee_pairs g) ps

  abbrev own_pairs : Open → List Callee
  own_pairs q = flat_map (callee_pairs g) (paragraphs_of q)

  pairs_are : pairs ≡ flat_map (callee_pairs g) t.paragraphs ++ flat_map own_pairs t.opens
  pairs_are = with_their_own (callee_pairs g) (λ kind p target a b expected. refl) t.paragraphs t.opens

  own_rows : (q : Open) → own_pairs q ≡ map row_callee (rows g q)
  own_rows q = refl

  names_are : callee_names g ≡ map callee_name pairs
  names_are = flat_names headers (callee_pairs g) (λ (h : Header). h.name) callee_name (names_agree g) ps

  headers_are : g.callees ≡ map header_of pairs
  headers_are = sym (map-id g.callees) ∙ flat_names headers (callee_pairs g) (λ (h : Header). h) header_of (headers_agree g) ps

  trees_are : flat_map (callees_named g) ps ≡ map tree_of pairs
  trees_are = sym (map-id (flat_map (callees_named g) ps)) ∙ flat_names (callees_named g) (callee_pairs g) (λ (c : CalleeTree). c) tree_of (trees_agree g) ps

  module _ (r : Row) (there : Contains (rows g o) r) where
    pair_there : Contains pairs r.1
    pair_there =
        subst (λ xs. Contains xs r.1) (sym pairs_are)
        (Contains-append_right (flat_map (callee_pairs g) t.paragraphs) (flat_map own_pairs t.opens) r.1 (has_flat own_pairs t.opens o r.1 is (has_map row_callee (rows g o) r there)))

    found : (i : ℕ) × (number_of (callee_names g) (own o r.0).text ≡ Some i) × (slice_get (callee_names g) i ≡ Some (own o r.0).text)
    found =
        first_number (callee_names g) (own o r.0).text
        (subst (λ ns. Contains ns (own o r.0).text) (sym names_are) (subst (Contains (map callee_name pairs)) (row_named g o r there) (has_map callee_name pairs r.1 pair_there)))

    found_pair : (x : Callee) × (slice_get pairs found.0 ≡ Some x) × (callee_name x ≡ (own o r.0).text)
    found_pair = map_get callee_name pairs found.0 (own o r.0).text (ap (λ ns. slice_get ns found.0) (sym names_are) ∙ found.2)

    same_pair : found_pair.0 ≡ r.1
    same_pair =
        let x = found_pair.0 in
        let inside = subst (λ xs. Contains xs x) pairs_are (some-Contains pairs found.0 x found_pair.1) in
        elim (Contains-append_cases (flat_map (callee_pairs g) t.paragraphs) (flat_map own_pairs t.opens) x inside) [
          | inl front ↦
              absurd (not_with_slash callee_name (callee_names (globals_of t.paragraphs)) (flat_map (callee_pairs g) t.paragraphs)
              (flat_names headers (callee_pairs g) (λ (h : Header). h.name) callee_name (names_agree g) t.paragraphs) plain.callees x front (own o r.0).text (has_slash o r.0) found_pair.2)
          | inr later ↦
              let q = flat_map_has own_pairs t.opens x later in
              let row = map_has row_callee (rows g q.0) x q.2 in
              let text : (own q.0 row.0.0).text ≡ (own o r.0).text = sym (row_named g q.0 row.0 row.1) ∙ ap callee_name (sym row.2) ∙ found_pair.2 in
              let same = same_own q.0 o row.0.0 r.0 (row_word g q.0 row.0 row.1) (row_word g o r there) text in
              let ordering : q.0 ≡ o = same_ordering t.opens (aliases_differ t.paragraphs [] t.opens fine) q.0 o q.1 is same.0 in
              let one : row.0 ≡ r = one_row (rows g o) refl row.0 r (subst (λ z. Contains (rows g z) row.0) ordering row.1) there same.1 in
              row.2 ∙ ap row_callee one
        ]

    number_is : number_in (callee_names g) (own o r.0) ≡ found.0
    number_is = ap (λ x. unwrap_or x 0) found.1

    pub callee_number : number_of (callee_names g) (own o r.0).text ≡ Some (number_in (callee_names g) (own o r.0))
    callee_number = found.1 ∙ ap Some (sym number_is)

    pair_at : slice_get pairs (number_in (callee_names g) (own o r.0)) ≡ Some r.1
    pair_at = ap (slice_get pairs) number_is ∙ found_pair.1 ∙ ap Some same_pair

    pub callee_at : slice_get (flat_map (callees_named g) ps) (number_in (callee_names g) (own o r.0)) ≡ Some r.1.1
    callee_at = ap (λ cs. slice_get cs (number_in (callee_names g) (own o r.0))) trees_are ∙ get_map tree_of pairs (number_in (callee_names g) (own o r.0)) r.1 pair_at

    pub header_is : header_at g (number_in (callee_names g) (own o r.0)) ≡ r.1.0
    header_is =
        get_or_from_slice_get g.callees (number_in (callee_names g) (own o r.0)) r.1.0 (record { name = []; is_function = false; parameters = 0 })
        (ap (λ hs. slice_get hs (number_in (callee_names g) (own o r.0))) headers_are ∙ get_map header_of pairs (number_in (callee_names g) (own o r.0)) r.1 pair_at)

  -- there are at least ten
  pub many : (k : ℕ) × (length (flat_map (callees_named g) ps) ≡ k + 10)
  many =
      let ten : length (own_pairs o) ≡ 10 = refl in
      let own_part = part_of own_pairs t.opens o is in
      let whole = ap length pairs_are ∙ length-append (flat_map (callee_pairs g) t.paragraphs) (flat_map own_pairs t.opens) in
      let long = ap length trees_are ∙ length-map pairs tree_of in
      (length (flat_map (callees_named g) ps) - 10, omega (arith, ten, own_part, whole, long))
