-- How many things paragraphs declare, one paragraph after the other.
use Rattle.std.proofs.Common.{◌≡◌, ℕ, suc, ◌+◌, ◌*◌, ◌<◌, ◌≤◌, List, [], ◌∷◌, ◌++◌, map, flat_map, length, get_or, take, drop, sym, ap, ◌∙◌, subst, append_assoc, append-nil, add-mul, suc-mul, zero-mul, add_comm}
use Rattle.std.proofs.lemmas.List.{length-append, length-map, map_more}
use Rattle.std.proofs.lemmas.List.Concat.{flat_map-cons}
use Rattle.std.proofs.lemmas.Grind.{flat_map-append}
use Rattle.alloy_syntax.specs.declared.tree.Name.{Name}
use Rattle.alloy_syntax.specs.declared.tree.Paragraph.{Paragraph}
use Rattle.alloy_syntax.specs.Tree.{FieldTree, ParagraphTree}
use Rattle.alloy_syntax.specs.View.{paragraph_view}
use Rattle.named_model.specs.declared.named.Part.{Part}
use Rattle.named_model.specs.Declarations.{count_in, field_names, facts_named, headers, assertion_names, commands_named, globals_of, part_behind, parts_behind}
use Rattle.name_tables.proofs.Reaching.{next_is, none_is}
use Rattle.sig_resolve.specs.declared.parts.Counts.{Counts}
use Rattle.sig_resolve.specs.Counts.{AreCounts, AreMore}

-- ---- paragraphs

count_more : {X : Type 0} (kind : ParagraphTree → List X) (before : List ParagraphTree) (p : ParagraphTree) → count_in kind (before ++ p ∷ []) ≡ count_in kind before + length (kind p)
count_more kind before p =
    ap length (flat_map-append kind before (p ∷ []))
    ∙ length-append (flat_map kind before) (flat_map kind (p ∷ []))
    ∙ ap (λ xs. count_in kind before + length xs) (flat_map-cons kind p [] ∙ append-nil (kind p))

kind_more : {X : Type 0} (kind : ParagraphTree → List X) (before : List ParagraphTree) (p : ParagraphTree) (n m : ℕ) → n ≡ count_in kind before → m ≡ n + length (kind p) → m ≡ count_in kind (before ++ p ∷ [])
kind_more kind before p n m is more = more ∙ ap (λ k. k + length (kind p)) is ∙ sym (count_more kind before p)

counts_behind : (before : List ParagraphTree) (p : ParagraphTree) (c next : Counts) → AreCounts before c → AreMore p c next → AreCounts (before ++ p ∷ []) next
counts_behind before p c next are more = record {
  fields_are = kind_more field_names before p c.fields next.fields are.fields_are more.fields_are;
  facts_are = kind_more (facts_named (globals_of [])) before p c.facts next.facts are.facts_are more.facts_are;
  callees_are = kind_more headers before p c.callees next.callees are.callees_are more.callees_are;
  assertions_are = kind_more assertion_names before p c.assertions next.assertions are.assertions_are more.assertions_are;
  commands_are = kind_more (commands_named (globals_of [])) before p c.commands next.commands are.commands_are more.commands_are;
}

abbrev pub first_of : ℕ → List Paragraph → List ParagraphTree
first_of i ps = map paragraph_view (take i ps)

abbrev pub left_of : ℕ → List Paragraph → List ParagraphTree
left_of i ps = map paragraph_view (drop i ps)

first_more : (ps : List Paragraph) (i : ℕ) (p : Paragraph) → i < length ps → p ≡ get_or ps i p → first_of (i + 1) ps ≡ first_of i ps ++ paragraph_view p ∷ []
first_more ps i p l is = map_more paragraph_view ps i p l ∙ ap (λ q. first_of i ps ++ paragraph_view q ∷ []) (sym is)

pub counts_more : (ps : List Paragraph) (i : ℕ) (p : Paragraph) (c next : Counts) → i < length ps → p ≡ get_or ps i p
    → AreCounts (first_of i ps) c → AreMore (paragraph_view p) c next → AreCounts (first_of (i + 1) ps) next
counts_more ps i p c next l is are more =
    subst (λ before. AreCounts before next) (sym (first_more ps i p l is)) (counts_behind (first_of i ps) (paragraph_view p) c next are more)

-- ---- their parts

pub parts_more : (ps : List Paragraph) (i : ℕ) (p : Paragraph) (now more : List Part) → i < length ps → p ≡ get_or ps i p
    → more ≡ now ++ part_behind (first_of i ps) (paragraph_view p) ∷ []
    → now ++ parts_behind (first_of i ps) (left_of i ps) ≡ parts_behind [] (map paragraph_view ps)
    → more ++ parts_behind (first_of (i + 1) ps) (left_of (i + 1) ps) ≡ parts_behind [] (map paragraph_view ps)
parts_more ps i p now more l is pushed before =
    let x = part_behind (first_of i ps) (paragraph_view p) in
    ap (λ ys. ys ++ parts_behind (first_of (i + 1) ps) (left_of (i + 1) ps)) pushed
    ∙ append_assoc now (x ∷ []) (parts_behind (first_of (i + 1) ps) (left_of (i + 1) ps))
    ∙ ap (λ before. now ++ x ∷ parts_behind before (left_of (i + 1) ps)) (first_more ps i p l is)
    ∙ ap (λ (qs : List Paragraph). now ++ parts_behind (first_of i ps) (map paragraph_view qs)) (sym (next_is ps i p l is))
    ∙ before

pub parts_none : (ps : List Paragraph) (i : ℕ) (now : List Part) → length ps ≤ i
    → now ++ parts_behind (first_of i ps) (left_of i ps) ≡ parts_behind [] (map paragraph_view ps) → now ≡ parts_behind [] (map paragraph_view ps)
parts_none ps i now l before =
    sym (append-nil now)
    ∙ ap (λ (qs : List Paragraph). now ++ parts_behind (first_of i ps) (map paragraph_view qs)) (sym (none_is ps i l))
    ∙ before

-- ---- fields

abbrev pub owned : List Name → List Name → List Name
owned owners names = flat_map (λ (n : Name). map (λ (owner : Name). n) owners) names

names_times : (owners names : List Name) → length (owned owners names) ≡ length names * length owners
names_times owners [] = sym (zero-mul (length owners))
names_times owners (n ∷ ns) =
    ap length (flat_map-cons (λ (m : Name). map (λ (owner : Name). m) owners) n ns)
    ∙ length-append (map (λ (owner : Name). n) owners) (owned owners ns)
    ∙ ap (λ k. k + length (owned owners ns)) (length-map owners (λ (owner : Name). n))
    ∙ ap (λ k. length owners + k) (names_times owners ns)
    ∙ more (length ns) (length owners)
  where
    more : (a b : ℕ) → b + a * b ≡ suc a * b
    more a b = add_comm b (a * b) ∙ sym (suc-mul a b)

abbrev pub names_of : List FieldTree → List Name
names_of fs = flat_map (λ (f : FieldTree). f.names) fs

fields_times : (owners : List Name) (fs : List FieldTree) → length (flat_map (λ (f : FieldTree). owned owners f.names) fs) ≡ length (names_of fs) * length owners
fields_times owners [] = sym (zero-mul (length owners))
fields_times owners (f ∷ fs) =
    let rest = flat_map (λ (g : FieldTree). owned owners g.names) fs in
    ap length (flat_map-cons (λ (g : FieldTree). owned owners g.names) f fs)
    ∙ length-append (owned owners f.names) rest
    ∙ ap (λ k. k + length rest) (names_times owners f.names)
    ∙ ap (λ k. length f.names * length owners + k) (fields_times owners fs)
    ∙ sym (add-mul (length f.names) (length (names_of fs)) (length owners))
    ∙ ap (λ k. k * length owners) (sym (ap length (flat_map-cons (λ (g : FieldTree). g.names) f fs) ∙ length-append f.names (names_of fs)))

pub fields_counted : (owners : List Name) (fs : List FieldTree) (n m p : ℕ) → p ≡ n * m → n ≡ length (names_of fs) → m ≡ length owners
    → p ≡ length (flat_map (λ (f : FieldTree). owned owners f.names) fs)
fields_counted owners fs n m p product names each =
    product ∙ ap (λ k. k * m) names ∙ ap (λ k. length (names_of fs) * k) each ∙ sym (fields_times owners fs)
