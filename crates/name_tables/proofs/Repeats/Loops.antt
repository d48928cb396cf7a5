-- Loops over names, parameters, fields and paragraphs.
use Rattle.std.proofs.Common.{◌≡◌, ℕ, zero, suc, ◌+◌, ◌<◌, ◌≤◌, List, [], ◌∷◌, ◌++◌, map, flat_map, length, get_or, take, Some, refl, sym, ap, ◌∙◌, subst, arith, append_assoc, append-nil}
use Rattle.std.proofs.lemmas.List.{take_all, map-append, length-map, length-take-le}
use Rattle.alloy_syntax.specs.declared.tree.Name.{Name}
use Rattle.alloy_syntax.specs.declared.tree.Declaration.{Declaration}
use Rattle.alloy_syntax.specs.declared.tree.Paragraph.{Paragraph}
use Rattle.alloy_syntax.specs.Tree.{ParagraphTree, DeclarationTree}
use Rattle.alloy_syntax.specs.View.{declaration_view, paragraph_view}
use Rattle.named_model.specs.Declarations.{parameter_names}
use Rattle.named_model.specs.Names.{number_of}
use Rattle.named_model.specs.Faults as faults
use Rattle.named_model.specs.Faults.{Child, Stated, field_under, parameters, top_of, stated, stated_in, stated_from, fields_stated}
use Rattle.name_tables.specs.declared.repeated_names.stated.Space.{Space}
use Rattle.name_tables.specs.declared.repeated_names.stated.Coded.{Coded}
use Rattle.name_tables.specs.declared.repeated_names.stated.Reading.{Reading}
use Rattle.name_tables.specs.Repeats.Coded.{IsSpace, AreSpaces, IsReading, space_of, fields_under}
use Rattle.name_tables.proofs.Repeats.Coding.{field_added}
use Rattle.name_tables.proofs.Repeats.ListsGoneOver.{items_more, seen_more}

-- ---- parameters

pub parameters_more : (k : ℕ) (before : List Stated) (ds : List Declaration) (i : ℕ) (d : Declaration) → i < length ds → d ≡ get_or ds i d
    → before ++ stated (parameters k) (parameter_names (map declaration_view (take (i + 1) ds)))
    ≡ (before ++ stated (parameters k) (parameter_names (map declaration_view (take i ds)))) ++ stated (parameters k) (declaration_view d).names
parameters_more k before ds i d l is =
    ap (λ ns. before ++ stated (parameters k) ns) (seen_more declaration_view (λ (e : DeclarationTree). e.names) [] ds i d l is)
    ∙ ap (λ xs. before ++ xs) (map-append (λ (n : Name). let x : Stated = record { space = parameters k; name = n } in x) (parameter_names (map declaration_view (take i ds))) (declaration_view d).names)
    ∙ sym (append_assoc before (stated (parameters k) (parameter_names (map declaration_view (take i ds)))) (stated (parameters k) (declaration_view d).names))

-- ---- fields

-- the field of one name and one signature
abbrev under_one : List Child → Name → Name → Stated
under_one cs n owner = record { space = field_under (top_of cs owner.text); name = n }

under_owners : (cs : List Child) (n : Name) (owners : List Name) → map (under_one cs n) owners ≡ fields_under (map (space_of cs) owners) n
under_owners cs n [] = refl
under_owners cs n (o ∷ owners) = ap (λ xs. under_one cs n o ∷ xs) (under_owners cs n owners)

pub fields_are : (cs : List Child) (owners ns : List Name) → flat_map (λ (n : Name). map (under_one cs n) owners) ns ≡ flat_map (fields_under (map (space_of cs) owners)) ns
fields_are cs owners [] = refl
fields_are cs owners (n ∷ ns) =
    ap (λ xs. xs ++ flat_map (λ (m : Name). map (under_one cs m) owners) ns) (under_owners cs n owners)
    ∙ ap (λ xs. fields_under (map (space_of cs) owners) n ++ xs) (fields_are cs owners ns)

-- the place beside one
pub spaces_at : (ws : List (List ℕ)) (ss : List Space) (ts : List faults.Space) (i : ℕ) (s : Space) → AreSpaces ws ss ts → i < length ss → s ≡ get_or ss i s
    → (t : faults.Space) × IsSpace ws s t × (take (i + 1) ts ≡ take i ts ++ t ∷ [])
spaces_at ws [] ts i s a l is = absurd (omega (arith, l))
spaces_at ws (r ∷ ss) [] i s a l is = absurd a
spaces_at ws (r ∷ ss) (u ∷ ts) zero s a l is = (u, subst (λ x. IsSpace ws x u) (sym is) a.0, refl)
spaces_at ws (r ∷ ss) (u ∷ ts) (suc i) s a l is =
    let more = spaces_at ws ss ts i s a.1 (omega (arith, l)) is in
    let e : suc i + 1 ≡ suc (i + 1) = omega arith in
    (more.0, more.1, ap (λ n. take n (u ∷ ts)) e ∙ ap (λ ys. u ∷ ys) more.2)

spaces_count : (ws : List (List ℕ)) (ss : List Space) (ts : List faults.Space) → AreSpaces ws ss ts → length ss ≡ length ts
spaces_count ws [] [] a = refl
spaces_count ws [] (t ∷ ts) a = absurd a
spaces_count ws (s ∷ ss) [] a = absurd a
spaces_count ws (s ∷ ss) (t ∷ ts) a = ap suc (spaces_count ws ss ts a.1)

pub spaces_end : (ws : List (List ℕ)) (ss : List Space) (ts : List faults.Space) (i : ℕ) → AreSpaces ws ss ts → length ss ≤ i → take i ts ≡ ts
spaces_end ws ss ts i a l = take_all i ts (omega (arith, l, spaces_count ws ss ts a))

-- ---- paragraphs

stated_behind : (cs : List Child) (k : ℕ) (ps : List ParagraphTree) (p : ParagraphTree) → stated_from cs k (ps ++ p ∷ []) ≡ stated_from cs k ps ++ stated_in cs (k + length ps) p
stated_behind cs k [] p = append-nil (stated_in cs k p) ∙ ap (λ n. stated_in cs n p) (let e : k ≡ k + 0 = omega arith in e)
stated_behind cs k (q ∷ ps) p =
    ap (λ xs. stated_in cs k q ++ xs) (stated_behind cs (k + 1) ps p ∙ ap (λ n. stated_from cs (k + 1) ps ++ stated_in cs n p) (let e : k + 1 + length ps ≡ k + suc (length ps) = omega arith in e))
    ∙ sym (append_assoc (stated_in cs k q) (stated_from cs (k + 1) ps) (stated_in cs (k + suc (length ps)) p))

pub paragraphs_more : (cs : List Child) (ps : List Paragraph) (i : ℕ) (p : Paragraph) → i < length ps → p ≡ get_or ps i p
    → stated_from cs 0 (map paragraph_view (take (i + 1) ps)) ≡ stated_from cs 0 (map paragraph_view (take i ps)) ++ stated_in cs i (paragraph_view p)
paragraphs_more cs ps i p l is =
    ap (λ qs. stated_from cs 0 (map paragraph_view qs)) (items_more ps i p l is)
    ∙ ap (stated_from cs 0) (map-append paragraph_view (take i ps) (p ∷ []))
    ∙ stated_behind cs 0 (map paragraph_view (take i ps)) (paragraph_view p)
    ∙ ap (λ n. stated_from cs 0 (map paragraph_view (take i ps)) ++ stated_in cs n (paragraph_view p)) (let e : 0 + length (map paragraph_view (take i ps)) ≡ i = omega (arith, l, length-map (take i ps) paragraph_view, length-take-le i ps (omega (arith, l))) in e)

-- ---- the fields of one name

fields_more : (before : List Stated) (ts : List faults.Space) (i : ℕ) (t : faults.Space) (n : Name) → take (i + 1) ts ≡ take i ts ++ t ∷ []
    → before ++ fields_under (take (i + 1) ts) n ≡ (before ++ fields_under (take i ts) n) ++ record { space = t; name = n } ∷ []
fields_more before ts i t n e =
    ap (λ us. before ++ fields_under us n) e
    ∙ ap (λ xs. before ++ xs) (map-append (λ (s : faults.Space). let x : Stated = record { space = s; name = n } in x) (take i ts) (t ∷ []))
    ∙ sym (append_assoc before (fields_under (take i ts) n) (record { space = t; name = n } ∷ []))

pub field_next : (cs : List Child) (old new : Reading) (before : List Stated) (ts : List faults.Space) (i : ℕ) (t : faults.Space) (n : Name) (c : Coded) → take (i + 1) ts ≡ take i ts ++ t ∷ []
    → new.words ≡ old.words → new.parents ≡ old.parents → new.coded.items ≡ old.coded.items ++ c ∷ [] → IsSpace new.words c.space t → number_of new.words n.text ≡ Some c.word → c.place ≡ n.place
    → IsReading cs old (before ++ fields_under (take i ts) n) → IsReading cs new (before ++ fields_under (take (i + 1) ts) n)
field_next cs old new before ts i t n c e words parents coded space word place is =
    subst (λ xs. IsReading cs new xs) (sym (fields_more before ts i t n e))
    (field_added cs old new (before ++ fields_under (take i ts) n) c (record { space = t; name = n }) words parents coded space word place is)
