-- Lines of relations are told apart: from a text one can read the tuples.
use Rattle.std.proofs.Common.{◌≡◌, ◌≢◌, ◌⊎◌, inl, inr, ◌<◌, ◌≤◌, ◌^◌, ◌+◌, ◌==◌, ℕ, zero, suc, List, [], ◌∷◌, ◌++◌, Bool, true, false, map, length, codes, decimal, flat_map, All, refl, sym, ap, subst, ◌∙◌, arith, append_assoc, IsTrue, AllPairs, get_or, Contains, slice_index, slice_index_or}
use Rattle.std.specs.List.{AllByRecursion, AllZip}
use Rattle.std.proofs.lemmas.Bool.{cases_lt}
use Rattle.std.proofs.lemmas.List.{append_cancel_left}
use Rattle.std.proofs.lemmas.List.Elements.{recursion_from_All, All-get_or}
use Rattle.tuple_core.specs.declared.atom.Atom.{Atom}
use Rattle.tuple_core.specs.Rows.{Rows}
use Rattle.refutation_check.specs.ProofText.{IsDigit}
use Rattle.rel_formula.specs.declared.problem.Relation.{Relation}
use Rattle.rel_formula.specs.Bounds.{Bounded, IsProblem, relation_at, signature_name}
use Rattle.rel_formula.proofs.Tabled.{no_relation}
use Rattle.script_text.specs.Lines.{separated, atom_text, tuple_text, relation_line, relation_lines}
use Rattle.script_text.specs.Printable.{is_relation_byte, IsWritable}
use Rattle.script_text.proofs.Cuts.{head_is, tail_is, same_front, same_number_before, Begins, group3, group4}

-- no mark that stands beside names
abbrev IsInner : ℕ → Type 0
IsInner b = (b ≢ 36) × (b ≢ 125)

-- an atom with a signature of the problem
abbrev pub IsAtom : Bounded → Atom → Type 0
IsAtom p a = (a.top < length p.tops) × (a.place < 2 ^ 64)

-- a tuple of this arity, which isn't 0
abbrev pub IsTuple : Bounded → ℕ → List Atom → Type 0
IsTuple p n t = (length t ≡ n) × (0 < n) × AllByRecursion (IsAtom p) t

-- a table has tuples of its relation's arity
abbrev pub Fits : Bounded → Relation → Rows → Type 0
Fits p r v = AllByRecursion (IsTuple p r.lower.arity) v.rows

abbrev pub tuples_of : List Rows → List (List (List Atom))
tuples_of vs = map (λ (v : Rows). v.rows) vs

not_dollar : (b : ℕ) → IsTrue (is_relation_byte b) → b ≢ 36
not_dollar b is e = let no : IsTrue (is_relation_byte 36) = subst (λ (n : ℕ). IsTrue (is_relation_byte n)) e is in absurd (cc)

not_brace : (b : ℕ) → IsTrue (is_relation_byte b) → b ≢ 125
not_brace b is e = let no : IsTrue (is_relation_byte 125) = subst (λ (n : ℕ). IsTrue (is_relation_byte n)) e is in absurd (cc)

not_space : (b : ℕ) → IsTrue (is_relation_byte b) → b ≢ 32
not_space b is e = let no : IsTrue (is_relation_byte 32) = subst (λ (n : ℕ). IsTrue (is_relation_byte n)) e is in absurd (cc)

inner_of : (name : List ℕ) → AllByRecursion (λ b. IsTrue (is_relation_byte b)) name → AllByRecursion IsInner name
inner_of [] all = tt
inner_of (b ∷ name) all = ((not_dollar b all.0, not_brace b all.0), inner_of name all.1)

atom_is : (a b : Atom) → a.top ≡ b.top → a.place ≡ b.place → a ≡ b
atom_is a b e f =
    ap (λ (n : ℕ). let x : Atom = record { top = n; place = a.place } in x) e
    ∙ ap (λ (n : ℕ). let x : Atom = record { top = b.top; place = n } in x) f

atoms_are : (a b : Atom) (firsts bs : List Atom) → a ≡ b → firsts ≡ bs → a ∷ firsts ≡ b ∷ bs
atoms_are a b firsts bs e f = ap (λ (x : Atom). x ∷ firsts) e ∙ ap (λ (xs : List Atom). b ∷ xs) f

tuples_are : (t u : List Atom) (ts us : List (List Atom)) → t ≡ u → ts ≡ us → t ∷ ts ≡ u ∷ us
tuples_are t u ts us e f = ap (λ (x : List Atom). x ∷ ts) e ∙ ap (λ (xs : List (List Atom)). u ∷ xs) f

lists_are : (v w : List (List Atom)) (vs ws : List (List (List Atom))) → v ≡ w → vs ≡ ws → v ∷ vs ≡ w ∷ ws
lists_are v w vs ws e f = ap (λ (x : List (List Atom)). x ∷ vs) e ∙ ap (λ (xs : List (List (List Atom))). w ∷ xs) f

-- a brace is no first byte of an atom
brace_first : (name others x : List ℕ) → AllByRecursion IsInner name → 125 ∷ x ≡ name ++ 36 ∷ others → ⊥
brace_first [] others x inner e = let f = head_is 125 36 x others e in omega arith
brace_first (b ∷ name) others x inner e = inner.0.1 (sym (head_is 125 b x (name ++ 36 ∷ others) e))

module _ (p : Bounded) (writable : IsWritable p) where
  top_there : (top : ℕ) → top < length p.tops → slice_index p.tops top < length p.relations
  top_there top l = All-get_or (λ r. r < length p.relations) p.tops top 0 l writable.problem.tops

  name_inner : (a : Atom) → a.top < length p.tops → AllByRecursion IsInner (signature_name p a)
  name_inner a l =
      let named = All-get_or (λ (r : Relation). All (λ b. IsTrue (is_relation_byte b)) r.name) p.relations (slice_index p.tops a.top) no_relation (top_there a.top l) writable.names in
      inner_of (signature_name p a) (recursion_from_All (λ b. IsTrue (is_relation_byte b)) (signature_name p a) named)

  pub one_relation : (r s : ℕ) → r < length p.relations → s < length p.relations → (relation_at p.relations r).name ≡ (relation_at p.relations s).name → r ≡ s
  one_relation r s l m e = elim (cases_lt r s) [
    | inl less ↦ absurd (writable.problem.names r s no_relation less m e)
    | inr past ↦ elim (cases_lt s r) [
      | inl more ↦ absurd (writable.problem.names s r no_relation more l (sym e))
      | inr none ↦ omega arith
    ]
  ]

  names_plain : (name : List ℕ) → AllByRecursion (λ b. IsTrue (is_relation_byte b)) name → AllByRecursion (λ b. b ≢ 32) name
  names_plain [] all = tt
  names_plain (b ∷ name) all = (not_space b all.0, names_plain name all.1)

  -- the name of a relation has no space
  pub name_plain : (r : ℕ) → r < length p.relations → AllByRecursion (λ b. b ≢ 32) (relation_at p.relations r).name
  name_plain r l =
      let named = All-get_or (λ (r : Relation). All (λ b. IsTrue (is_relation_byte b)) r.name) p.relations r no_relation l writable.names in
      let name = (relation_at p.relations r).name in
      names_plain name (recursion_from_All (λ b. IsTrue (is_relation_byte b)) name named)

  one_top : (t u : ℕ) → t < length p.tops → u < length p.tops → slice_index p.tops t ≡ slice_index p.tops u → t ≡ u
  one_top t u l m e = elim (cases_lt t u) [
    | inl less ↦ let rising = writable.problem.rising t u 0 less m in absurd (omega arith)
    | inr past ↦ elim (cases_lt u t) [
      | inl more ↦ let rising = writable.problem.rising u t 0 more l in absurd (omega arith)
      | inr none ↦ omega arith
    ]
  ]

  same_atom : (a b : Atom) (x y : List ℕ) → IsAtom p a → IsAtom p b → Begins x → Begins y → atom_text p a ++ x ≡ atom_text p b ++ y → (a ≡ b) × (x ≡ y)
  same_atom a b x y u v bx by e =
      let front = group3 (signature_name p a) (codes "$") (decimal a.place) x in
      let back = group3 (signature_name p b) (codes "$") (decimal b.place) y in
      let cut = same_front IsInner (signature_name p a) (signature_name p b) 36 36 (decimal a.place ++ x) (decimal b.place ++ y)
      (name_inner a u.0) (name_inner b v.0) (λ n. n.0 refl) (λ n. n.0 refl) (sym front ∙ e ∙ back) in
      let number = same_number_before a.place b.place x y u.1 v.1 bx by (tail_is 36 36 (decimal a.place ++ x) (decimal b.place ++ y) cut.1) in
      let top = one_top a.top b.top u.0 v.0 (one_relation (slice_index p.tops a.top) (slice_index p.tops b.top) (top_there a.top u.0) (top_there b.top v.0) cut.0) in
      (atom_is a b top number.0, number.1)

  -- the atoms behind the first one
  abbrev arrows : List Atom → List ℕ
  arrows firsts = flat_map (λ piece. codes "->" ++ piece) (map (atom_text p) firsts)

  arrow_first : (a : Atom) (firsts : List Atom) (x : List ℕ) → arrows (a ∷ firsts) ++ x ≡ codes "->" ++ (atom_text p a ++ (arrows firsts ++ x))
  arrow_first a firsts x = append_assoc (codes "->" ++ atom_text p a) (arrows firsts) x ∙ append_assoc (codes "->") (atom_text p a) (arrows firsts ++ x)

  arrows_begin : (firsts : List Atom) (x : List ℕ) → Begins x → Begins (arrows firsts ++ x)
  arrows_begin [] x b = b
  arrows_begin (a ∷ firsts) x b = record { first = 45; others = 62 ∷ (atom_text p a ++ (arrows firsts ++ x)); is = arrow_first a firsts x; other = λ d. let l = d.0 in absurd (omega arith) }

  same_arrows : (firsts bs : List Atom) (x y : List ℕ) → length firsts ≡ length bs → AllByRecursion (IsAtom p) firsts → AllByRecursion (IsAtom p) bs → Begins x → Begins y
      → arrows firsts ++ x ≡ arrows bs ++ y → (firsts ≡ bs) × (x ≡ y)
  same_arrows [] [] x y l u v bx by e = (refl, e)
  same_arrows [] (b ∷ bs) x y l u v bx by e = absurd (omega arith)
  same_arrows (a ∷ firsts) [] x y l u v bx by e = absurd (omega arith)
  same_arrows (a ∷ firsts) (b ∷ bs) x y l u v bx by e =
      let bare = append_cancel_left (codes "->") (atom_text p a ++ (arrows firsts ++ x)) (atom_text p b ++ (arrows bs ++ y)) (sym (arrow_first a firsts x) ∙ e ∙ arrow_first b bs y) in
      let first = same_atom a b (arrows firsts ++ x) (arrows bs ++ y) u.0 v.0 (arrows_begin firsts x bx) (arrows_begin bs y by) bare in
      let rest = same_arrows firsts bs x y (omega arith) u.1 v.1 bx by first.1 in
      (atoms_are a b firsts bs first.0 rest.0, rest.1)

  pub same_tuple : (n : ℕ) (t u : List Atom) (x y : List ℕ) → IsTuple p n t → IsTuple p n u → Begins x → Begins y → tuple_text p t ++ x ≡ tuple_text p u ++ y → (t ≡ u) × (x ≡ y)
  same_tuple n [] u x y is_t is_u bx by e = absurd (let l = is_t.0 in let k = is_t.1 in omega arith)
  same_tuple n (a ∷ firsts) [] x y is_t is_u bx by e = absurd (let l = is_u.0 in let k = is_u.1 in omega arith)
  same_tuple n (a ∷ firsts) (b ∷ bs) x y is_t is_u bx by e =
      let bare = sym (append_assoc (atom_text p a) (arrows firsts) x) ∙ e ∙ append_assoc (atom_text p b) (arrows bs) y in
      let first = same_atom a b (arrows firsts ++ x) (arrows bs ++ y) is_t.2.0 is_u.2.0 (arrows_begin firsts x bx) (arrows_begin bs y by) bare in
      let long : length firsts ≡ length bs = let l = is_t.0 in let k = is_u.0 in omega arith in
      let rest = same_arrows firsts bs x y long is_t.2.1 is_u.2.1 bx by first.1 in
      (atoms_are a b firsts bs first.0 rest.0, rest.1)

  -- the tuples behind the first one
  abbrev commas : List (List Atom) → List ℕ
  commas ts = flat_map (λ piece. codes ", " ++ piece) (map (tuple_text p) ts)

  comma_first : (t : List Atom) (ts : List (List Atom)) (x : List ℕ) → commas (t ∷ ts) ++ x ≡ codes ", " ++ (tuple_text p t ++ (commas ts ++ x))
  comma_first t ts x = append_assoc (codes ", " ++ tuple_text p t) (commas ts) x ∙ append_assoc (codes ", ") (tuple_text p t) (commas ts ++ x)

  commas_begin : (ts : List (List Atom)) (x : List ℕ) → Begins (commas ts ++ 125 ∷ x)
  commas_begin [] x = record { first = 125; others = x; is = refl; other = λ d. let l = d.1 in absurd (omega arith) }
  commas_begin (t ∷ ts) x = record { first = 44; others = 32 ∷ (tuple_text p t ++ (commas ts ++ 125 ∷ x)); is = comma_first t ts (125 ∷ x); other = λ d. let l = d.0 in absurd (omega arith) }

  same_commas : (n : ℕ) (ts us : List (List Atom)) (x y : List ℕ) → AllByRecursion (IsTuple p n) ts → AllByRecursion (IsTuple p n) us → commas ts ++ 125 ∷ x ≡ commas us ++ 125 ∷ y → (ts ≡ us) × (x ≡ y)
  same_commas n [] [] x y all_t all_u e = (refl, tail_is 125 125 x y e)
  same_commas n [] (u ∷ us) x y all_t all_u e = let f = head_is 125 44 x (32 ∷ (tuple_text p u ++ (commas us ++ 125 ∷ y))) (e ∙ comma_first u us (125 ∷ y)) in absurd (omega arith)
  same_commas n (t ∷ ts) [] x y all_t all_u e = let f = head_is 125 44 y (32 ∷ (tuple_text p t ++ (commas ts ++ 125 ∷ x))) (sym e ∙ comma_first t ts (125 ∷ x)) in absurd (omega arith)
  same_commas n (t ∷ ts) (u ∷ us) x y all_t all_u e =
      let bare = append_cancel_left (codes ", ") (tuple_text p t ++ (commas ts ++ 125 ∷ x)) (tuple_text p u ++ (commas us ++ 125 ∷ y)) (sym (comma_first t ts (125 ∷ x)) ∙ e ∙ comma_first u us (125 ∷ y)) in
      let first = same_tuple n t u (commas ts ++ 125 ∷ x) (commas us ++ 125 ∷ y) all_t.0 all_u.0 (commas_begin ts x) (commas_begin us y) bare in
      let rest = same_commas n ts us x y all_t.1 all_u.1 first.1 in
      (tuples_are t u ts us first.0 rest.0, rest.1)

  no_brace : (n : ℕ) (t : List Atom) (x y : List ℕ) → IsTuple p n t → 125 ∷ x ≡ tuple_text p t ++ y → ⊥
  no_brace n [] x y is e = let l = is.0 in let k = is.1 in absurd (omega arith)
  no_brace n (a ∷ firsts) x y is e =
      brace_first (signature_name p a) (decimal a.place ++ (arrows firsts ++ y)) x (name_inner a is.2.0.0)
      (e ∙ append_assoc (atom_text p a) (arrows firsts) y ∙ group3 (signature_name p a) (codes "$") (decimal a.place) (arrows firsts ++ y))

  abbrev rows_text : List (List Atom) → List ℕ
  rows_text ts = separated (codes ", ") (map (tuple_text p) ts)

  same_rows : (n : ℕ) (ts us : List (List Atom)) (x y : List ℕ) → AllByRecursion (IsTuple p n) ts → AllByRecursion (IsTuple p n) us → rows_text ts ++ 125 ∷ x ≡ rows_text us ++ 125 ∷ y → (ts ≡ us) × (x ≡ y)
  same_rows n [] [] x y all_t all_u e = (refl, tail_is 125 125 x y e)
  same_rows n [] (u ∷ us) x y all_t all_u e = absurd (no_brace n u x (commas us ++ 125 ∷ y) all_u.0 (e ∙ append_assoc (tuple_text p u) (commas us) (125 ∷ y)))
  same_rows n (t ∷ ts) [] x y all_t all_u e = absurd (no_brace n t y (commas ts ++ 125 ∷ x) all_t.0 (sym e ∙ append_assoc (tuple_text p t) (commas ts) (125 ∷ x)))
  same_rows n (t ∷ ts) (u ∷ us) x y all_t all_u e =
      let bare = sym (append_assoc (tuple_text p t) (commas ts) (125 ∷ x)) ∙ e ∙ append_assoc (tuple_text p u) (commas us) (125 ∷ y) in
      let first = same_tuple n t u (commas ts ++ 125 ∷ x) (commas us ++ 125 ∷ y) all_t.0 all_u.0 (commas_begin ts x) (commas_begin us y) bare in
      let rest = same_commas n ts us x y all_t.1 all_u.1 first.1 in
      (tuples_are t u ts us first.0 rest.0, rest.1)

  line_is : (name : List ℕ) (ts : List (List Atom)) (x : List ℕ) → relation_line p name ts ++ x ≡ name ++ (codes " = {" ++ (rows_text ts ++ 125 ∷ 10 ∷ x))
  line_is name ts x = group4 name (codes " = {") (rows_text ts) (codes "}\n") x

  same_line : (n : ℕ) (name : List ℕ) (ts us : List (List Atom)) (x y : List ℕ) → AllByRecursion (IsTuple p n) ts → AllByRecursion (IsTuple p n) us
      → relation_line p name ts ++ x ≡ relation_line p name us ++ y → (ts ≡ us) × (x ≡ y)
  same_line n name ts us x y all_t all_u e =
      let named = append_cancel_left name (codes " = {" ++ (rows_text ts ++ 125 ∷ 10 ∷ x)) (codes " = {" ++ (rows_text us ++ 125 ∷ 10 ∷ y)) (sym (line_is name ts x) ∙ e ∙ line_is name us y) in
      let opened = append_cancel_left (codes " = {") (rows_text ts ++ 125 ∷ 10 ∷ x) (rows_text us ++ 125 ∷ 10 ∷ y) named in
      let cut = same_rows n ts us (10 ∷ x) (10 ∷ y) all_t all_u opened in
      (cut.0, tail_is 10 10 x y cut.1)

  pub same_lines : (rs : List Relation) (vs ws : List Rows) (x y : List ℕ) → AllZip (Fits p) rs vs → AllZip (Fits p) rs ws → relation_lines p rs vs ++ x ≡ relation_lines p rs ws ++ y
      → (tuples_of vs ≡ tuples_of ws) × (x ≡ y)
  same_lines [] [] [] x y fv fw e = (refl, e)
  same_lines [] [] (w ∷ ws) x y fv fw e = absurd fw
  same_lines [] (v ∷ vs) ws x y fv fw e = absurd fv
  same_lines (r ∷ rs) [] ws x y fv fw e = absurd fv
  same_lines (r ∷ rs) (v ∷ vs) [] x y fv fw e = absurd fw
  same_lines (r ∷ rs) (v ∷ vs) (w ∷ ws) x y fv fw e =
      let bare = sym (append_assoc (relation_line p r.name v.rows) (relation_lines p rs vs) x) ∙ e ∙ append_assoc (relation_line p r.name w.rows) (relation_lines p rs ws) y in
      let first = same_line r.lower.arity r.name v.rows w.rows (relation_lines p rs vs ++ x) (relation_lines p rs ws ++ y) fv.0 fw.0 bare in
      let rest = same_lines rs vs ws x y fv.1 fw.1 first.1 in
      (lists_are v.rows w.rows (tuples_of vs) (tuples_of ws) first.0 rest.0, rest.1)
