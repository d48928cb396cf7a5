-- What a loop has added, and what is left.
use Rattle.std.proofs.Common.{◌≡◌, ℕ, ◌+◌, ◌<◌, ◌≤◌, List, [], ◌∷◌, ◌++◌, map, flat_map, length, get_or, drop, Option, Some, None, refl, sym, ap, ◌∙◌, append_assoc, append-nil, option_map}
use Rattle.std.specs.Option.{option_and_then}
use Rattle.std.proofs.lemmas.List.{drop_more, at_drop_all, map-append, map_push}
use Rattle.std.specs.Prelude.{Vec}
use Rattle.std.specs.declared.alloc.Global.{Global}
use Rattle.alloy_syntax.specs.declared.tree.Name.{Name}
use Rattle.alloy_syntax.specs.declared.tree.Parent.{Parent}
use Rattle.named_model.specs.Names.{number_of}
use Rattle.named_model.specs.Declarations.{texts, signature_names, globals_of}
use Rattle.named_model.specs.Faults.{Child, children}
use Rattle.alloy_syntax.specs.Tree as tree
use Rattle.alloy_syntax.specs.Tree.{ParagraphTree}
use Rattle.reference_cycles.specs.Cycles.Walks.{rows_of}
use Rattle.name_tables.specs.Parents.Graphs.{row_to, row_of, place_of}

module _ {X Y : Type 0} (F : List X → List Y) (f : X → List Y) (xs : List X) (i : ℕ) (now whole : List Y) (before : now ++ F (drop i xs) ≡ whole) where
  -- one part more
  pub one_more : (x : X) (more : List Y) → ((y : X) (ys : List X) → F (y ∷ ys) ≡ f y ++ F ys) → i < length xs → x ≡ get_or xs i x → more ≡ now ++ f x → more ++ F (drop (i + 1) xs) ≡ whole
  one_more x more law l is added =
      ap (λ c. c ++ F (drop (i + 1) xs)) added
      ∙ append_assoc now (f x) (F (drop (i + 1) xs))
      ∙ ap (λ c. now ++ c) (sym (law x (drop (i + 1) xs)))
      ∙ ap (λ y. now ++ F (y ∷ drop (i + 1) xs)) is
      ∙ ap (λ ys. now ++ F ys) (sym (drop_more xs i x l))
      ∙ before

  -- all of them
  pub all_added : F [] ≡ [] → length xs ≤ i → now ≡ whole
  all_added empty l = sym (append-nil now) ∙ ap (λ c. now ++ c) (sym (at_drop_all F xs i l ∙ empty)) ∙ before

pub row_pushed : (rows : List (Vec ℕ Global)) (more : List (Vec ℕ Global)) (row : Vec ℕ Global) (r : List ℕ) → more ≡ rows ++ row ∷ [] → row.items ≡ r → rows_of more ≡ rows_of rows ++ r ∷ []
row_pushed rows more row r pushed is = ap rows_of pushed ∙ map_push (λ (v : Vec ℕ Global). v.items) rows row ∙ ap (λ z. rows_of rows ++ z ∷ []) is

-- the signatures of one paragraph have one parent
abbrev pub child_of : Option Parent → Name → Child
child_of parent n = record { name = n; parent = option_map (λ (p : Parent). p.name.text) parent }

number_through : (ss : List (List ℕ)) (parent : Option Parent) → option_and_then (number_of ss) (option_map (λ (p : Parent). p.name.text) parent) ≡ option_and_then (λ (p : Parent). number_of ss p.name.text) parent
number_through ss None = refl
number_through ss (Some p) = refl

pub rows_of_names : (ss : List (List ℕ)) (parent : Option Parent) (number : Option ℕ) (ns : List Name) → number ≡ option_and_then (λ (p : Parent). number_of ss p.name.text) parent
    → map (λ (n : Name). row_to number) ns ≡ map (row_of ss) (map (child_of parent) ns)
rows_of_names ss parent number [] is = refl
rows_of_names ss parent number (n ∷ ns) is =
    ap (λ o. row_to o ∷ map (λ (n : Name). row_to number) ns) (is ∙ sym (number_through ss parent))
    ∙ ap (λ zs. row_of ss (child_of parent n) ∷ zs) (rows_of_names ss parent number ns is)

pub places_of_names : (parent : Option Parent) (ns : List Name) → map (λ (n : Name). n.place) ns ≡ map place_of (map (child_of parent) ns)
places_of_names parent [] = refl
places_of_names parent (n ∷ ns) = ap (λ zs. n.place ∷ zs) (places_of_names parent ns)

-- ---- the names of the signatures

texts_of_names : (parent : Option Parent) (ns : List Name) → map (λ (c : Child). c.name.text) (map (child_of parent) ns) ≡ texts ns
texts_of_names parent [] = refl
texts_of_names parent (n ∷ ns) = ap (λ zs. n.text ∷ zs) (texts_of_names parent ns)

texts_of_one : (p : ParagraphTree) → map (λ (c : Child). c.name.text) (children p) ≡ texts (signature_names p)
texts_of_one (tree.signatures is_abstract mark names parent fields) = texts_of_names parent names
texts_of_one (tree.fact n b) = refl
texts_of_one (tree.predicate n ds b) = refl
texts_of_one (tree.function n ds mark range body) = refl
texts_of_one (tree.assertion n b) = refl
texts_of_one (tree.command kind p target scope expected) = refl

pub texts_of_all : (ps : List ParagraphTree) → map (λ (c : Child). c.name.text) (flat_map children ps) ≡ (globals_of ps).signatures
texts_of_all [] = refl
texts_of_all (p ∷ ps) =
    map-append (λ (c : Child). c.name.text) (children p) (flat_map children ps)
    ∙ ap (λ zs. zs ++ map (λ (c : Child). c.name.text) (flat_map children ps)) (texts_of_one p)
    ∙ ap (λ zs. texts (signature_names p) ++ zs) (texts_of_all ps)
    ∙ sym (map-append (λ (n : Name). n.text) (signature_names p) (flat_map signature_names ps))
