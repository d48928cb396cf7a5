-- Lists of formulas, and a formula at the atoms of a quantifier's domain, step by step.
use Rattle.std.proofs.Common.{◌≡◌, ℕ, ◌+◌, ◌≤◌, ◌<◌, ◌↔◌, ◌⊎◌, inl, inr, Bool, IsTrue, List, [], ◌∷◌, All, AllPairs, Contains, map, length, get_or, take, drop, refl, sym, ◌∙◌, ap, subst, arith}
use Rattle.std.specs.List.{Any}
use Rattle.std.specs.declared.cmp.Ordering.TheVariants.{Less, Equal}
use Rattle.std.proofs.lemmas.Bool.{cases_lt}
use Rattle.std.proofs.lemmas.Cmp.{tied_itself}
use Rattle.std.proofs.lemmas.List.{take_all, take-append-drop, length-map, get_or-map, get_or_default}
use Rattle.std.proofs.lemmas.List.Elements.{All-contains, All-map, Contains-get_or}
use Rattle.tuple_core.specs.declared.atom.Atom.{Atom}
use Rattle.tuple_core.specs.Operators.{Pred, BeginsWith}
use Rattle.tuple_core.specs.Order.{tuple_cmp}
use Rattle.tuple_core.specs.Gains.{Same}
use Rattle.tuple_core.proofs.Ascending.{tuple_order}
use Rattle.bool_circuit.specs.Network.{Network, size}
use Rattle.bool_circuit.specs.Value.{value_at, Extends}
use Rattle.bool_circuit.specs.Folding.{IsConstant}
use Rattle.bool_circuit.proofs.CallerLemmas.{Extends-trans}
use Rattle.bool_matrix.specs.declared.entry.Entry.{Entry}
use Rattle.bool_matrix.specs.Cells.{Cells, TrueIn, Says}
use Rattle.bool_matrix.proofs.ComparedEntries.{says_same}
use Rattle.bool_matrix.proofs.Nodes.{says_kept}
use Rattle.rel_formula.specs.declared.connectives.Connective.{Connective}
use Rattle.rel_formula.specs.declared.connectives.Connective.TheVariants as connective
use Rattle.rel_formula.specs.declared.connectives.Quantifier.{Quantifier}
use Rattle.rel_formula.specs.declared.connectives.Quantifier.TheVariants as quantifier
use Rattle.rel_formula.specs.declared.formula.Formula.{Formula}
use Rattle.rel_formula.specs.Bounds.{Bounded, IsAtomOf}
use Rattle.rel_formula.specs.Kernel.{ExpressionTree, FormulaTree, quantified}
use Rattle.rel_formula.specs.View.{formula_tree}
use Rattle.rel_formula.specs.Meaning.{Structure, InValue, HoldsFor, Truth}
use Rattle.rel_formula.specs.Evaluation.{IsTrueAt, HoldsOf}
use Rattle.rel_formula.specs.Shape.{arity_of}
use Rattle.rel_formula.proofs.Valued.{one_atom, first_same}
use Rattle.rel_terms.specs.Numbers.{Number, Is, ◌⊕◌}
use Rattle.rel_terms.specs.Upper.{upper_structure}
use Rattle.rel_terms.specs.Terms.{FormulaHas, SumsOver, each_terms}
use Rattle.rel_terms.specs.Counting.{RowsHave, arities_of}
use Rattle.rel_terms.proofs.PartTerms.{PartsHave, parts_append, AtomHas, rows_append, rows_sums}
use Rattle.rel_translate.specs.Tables.{structure_at}
use Rattle.rel_translate.specs.Makes.{HasRoomFor, Spends, TermsOf, FormulaTermsOf, IsMade, Tells, IsTold}
use Rattle.rel_translate.specs.Grounding.{Connects, Guarded, IsGuarded, IsMet, AreNotBothMet, IsGrounded}
use Rattle.rel_translate.proofs.Lists.{take_last, junction_more, connects_same, guarded_same, two_more}
use Rattle.rel_translate.proofs.MatrixSizes.{tuples_list}
use Rattle.rel_translate.proofs.Spending.{spends_both, spends_same, room_same, room_left, room_right}
use Rattle.rel_translate.proofs.Gated.{says_later}
use Rattle.rel_translate.proofs.FormulaNodes.{tells_same}
use Rattle.rel_translate.proofs.Operators.{UpperOf}
use Rattle.rel_translate.proofs.Atoms.{upper_atoms}

pub room_second : (used : ℕ) (C D : Number) → HasRoomFor used (C ⊕ D) → HasRoomFor used D
room_second used C D h = (h.1.1, h.1.3, (let e = h.1.4 in let l = h.2 in omega arith))

-- the room for a quantifier is room for its domain
pub domain_first : (p : Bounded) (env : List Atom) (e : ExpressionTree) (q : Quantifier) (f : FormulaTree) (used : ℕ) → HasRoomFor used (FormulaTermsOf p env (quantified q e f)) → HasRoomFor used (TermsOf p env e)
domain_first p env e q f used room = room_left used (TermsOf p env e) (SumsOver (UpperOf p env e) (AtomHas (upper_structure p) env (each_terms q) f)) room

-- the terms of a list of formulas
module _ (M : Structure) (env : List Atom) (fs : List Formula) where
  abbrev PartHas : Formula → Number
  PartHas f = FormulaHas M env (formula_tree f)

  pub parts_last : (i : ℕ) (f : Formula) → i < length fs → f ≡ get_or fs i f → (n : ℕ) → PartsHave M env (take (i + 1) fs) n → (PartsHave M env (take i fs) ⊕ PartHas f) n
  parts_last i f l e n h =
      let both = (parts_append M env (take i fs) (f ∷ []) n).1 (subst (λ gs. PartsHave M env gs n) (take_last fs i f l e) h) in
      let one = both.3 in
      (both.0, one.0, both.2, one.2, (let a = both.4 in let b = one.4 in let z = one.3 in omega arith))

  pub parts_room : (used : ℕ) (i : ℕ) → HasRoomFor used (PartsHave M env fs) → HasRoomFor used (PartsHave M env (take i fs))
  parts_room used i h =
      room_left used (PartsHave M env (take i fs)) (PartsHave M env (drop i fs))
      (room_same used (PartsHave M env fs) (PartsHave M env (take i fs) ⊕ PartsHave M env (drop i fs))
      (λ n p. (parts_append M env (take i fs) (drop i fs) n).1 (subst (λ gs. PartsHave M env gs n) (sym (take-append-drop i fs)) p)) h)

-- the loops over a list of formulas: what was spent so far, and what the node says
module _ (p : Bounded) (env : List Atom) (fs : List Formula) where
  abbrev pub TermsSoFar : ℕ → Number
  TermsSoFar i = PartsHave (upper_structure p) env (take i fs)

  pub parts_start : {old new : Network} → Extends old new → size new ≤ size old → Spends old new (TermsSoFar 0)
  parts_start extends most = record { extends = extends; most = λ n h. omega arith }

  module _ {old now : Network} (i : ℕ) (f : Formula) (l : i < length fs) (e : f ≡ get_or fs i f) (spent : Spends old now (TermsSoFar i)) where
    -- room for the next formula
    pub next_room : HasRoomFor (size old) (Is 1 ⊕ PartsHave (upper_structure p) env fs) → HasRoomFor (size now) (FormulaTermsOf p env (formula_tree f))
    next_room h =
        let all = room_second (size old) (Is 1) (PartsHave (upper_structure p) env fs) h in
        let so_far = parts_room (upper_structure p) env fs (size old) (i + 1) all in
        let both = room_same (size old) (TermsSoFar (i + 1)) (TermsSoFar i ⊕ FormulaTermsOf p env (formula_tree f)) (parts_last (upper_structure p) env fs i f l e) so_far in
        room_right (FormulaTermsOf p env (formula_tree f)) both spent

    -- and for its gate
    pub next_gate : {mid : Network} {node : ℕ} → IsTold now mid p env (formula_tree f) node → HasRoomFor (size old) (Is 1 ⊕ PartsHave (upper_structure p) env fs) → size mid < 1073741823
    next_gate told h =
        let r = next_room h in
        let m = told.spends.most r.0 r.1 in
        let l = r.2 in
        omega arith

    pub next_spent : {mid new : Network} {node : ℕ} → IsTold now mid p env (formula_tree f) node → Extends mid new → size new ≤ size mid + 1 → (IsConstant mid node → size new ≤ size mid) → Spends old new (TermsSoFar (i + 1))
    next_spent {mid} {new} {node} told extends one folded = record {
      extends = Extends-trans old mid new (Extends-trans old now mid spent.extends told.spends.extends) extends;
      most = λ n h.
          let both = parts_last (upper_structure p) env fs i f l e n h in
          let before = spent.most both.0 both.2 in
          let here = told.spends.most both.1 both.3 in
          let sum = both.4 in
          elim (told.spare both.1 both.3) [
            | inl constant ↦ let same = folded constant in omega arith
            | inr spare ↦ omega arith
          ];
    }

  pub parts_tell : {old new : Network} {node : ℕ} (i : ℕ) (F : (ℕ → Bool) → Type 0) → length fs ≤ i → Spends old new (TermsSoFar i) → Says new node F → Tells old new node F (Is 1 ⊕ PartsHave (upper_structure p) env fs)
  parts_tell {old} {new} i F l spent says =
      let all : Spends old new (PartsHave (upper_structure p) env fs) = spends_same (λ n h. subst (λ gs. PartsHave (upper_structure p) env gs n) (sym (take_all i fs l)) h) spent in
      record {
        spends = record { extends = all.extends; most = λ n h. let m = all.most h.1 h.3 in let o = h.2 in let e = h.4 in omega arith };
        says = says;
        spare = λ n h. inr (let m = all.most h.1 h.3 in let o = h.2 in let e = h.4 in omega arith);
      }

-- the terms of a formula at the atoms of a list of tuples
module _ (M : Structure) (env : List Atom) (more : ℕ) (f : FormulaTree) (rows : List (List Atom)) where
  pub rows_last : (i : ℕ) (row : List Atom) (a : Atom) → i < length rows → row ≡ get_or rows i row → BeginsWith a row → (n : ℕ) → RowsHave M env more f (take (i + 1) rows) n → (RowsHave M env more f (take i rows) ⊕ AtomHas M env more f a) n
  rows_last i row a l e begins n h =
      let both = (rows_append M env more f (take i rows) (row ∷ []) n).1 (subst (λ rs. RowsHave M env more f rs n) (take_last rows i row l e) h) in
      let one = subst (λ r. RowsHave M env more f (r ∷ []) both.1) begins.1 both.3 in
      (both.0, one.0, both.2, one.2, (let s = both.4 in let t = one.4 in let z = one.3 in omega arith))

  pub rows_room : (used : ℕ) (i : ℕ) → HasRoomFor used (RowsHave M env more f rows) → HasRoomFor used (RowsHave M env more f (take i rows))
  rows_room used i h =
      room_left used (RowsHave M env more f (take i rows)) (RowsHave M env more f (drop i rows))
      (room_same used (RowsHave M env more f rows) (RowsHave M env more f (take i rows) ⊕ RowsHave M env more f (drop i rows))
      (λ n p. (rows_append M env more f (take i rows) (drop i rows) n).1 (subst (λ rs. RowsHave M env more f rs n) (sym (take-append-drop i rows)) p)) h)

-- the tuples of entries
abbrev pub tuples_of : List Entry → List (List Atom)
tuples_of es = map (λ (e : Entry). e.tuple) es

-- the loops over a quantifier's domain
module _ (p : Bounded) (env : List Atom) (more : ℕ) (f : FormulaTree) (es : List Entry) where
  abbrev pub RowsSoFar : ℕ → Number
  RowsSoFar i = RowsHave (upper_structure p) env more f (take i (tuples_of es))

  abbrev BodyHas : Atom → Number
  BodyHas a = FormulaTermsOf p (a ∷ env) f

  pub rows_start : {old new : Network} {node : ℕ} (F : (ℕ → Bool) → Type 0) → Extends old new → size new ≤ size old → Says new node F → IsConstant new node → Tells old new node F (RowsSoFar 0)
  rows_start F extends most says constant = record {
    spends = record { extends = extends; most = λ n h. omega arith };
    says = says;
    spare = λ n h. inl constant;
  }

  module _ {old now : Network} (i : ℕ) (x : Entry) (a : Atom) (l : i < length es) (e : x ≡ get_or es i x) (begins : BeginsWith a x.tuple) (spent : Spends old now (RowsSoFar i)) where
    row_last : (n : ℕ) → RowsSoFar (i + 1) n → (RowsSoFar i ⊕ (Is more ⊕ BodyHas a)) n
    row_last =
        let l' : i < length (tuples_of es) = let m = length-map es (λ (e : Entry). e.tuple) in omega arith in
        let at : x.tuple ≡ get_or (tuples_of es) i x.tuple = ap (λ (y : Entry). y.tuple) e ∙ sym (get_or-map (λ (e : Entry). e.tuple) es i x x.tuple l) in
        rows_last (upper_structure p) env more f (tuples_of es) i x.tuple a l' at begins

    turn_room : HasRoomFor (size old) (RowsHave (upper_structure p) env more f (tuples_of es)) → HasRoomFor (size now) (Is more ⊕ BodyHas a)
    turn_room h = room_right (Is more ⊕ BodyHas a) (room_same (size old) (RowsSoFar (i + 1)) (RowsSoFar i ⊕ (Is more ⊕ BodyHas a)) row_last (rows_room (upper_structure p) env more f (tuples_of es) (size old) (i + 1) h)) spent

    -- room for the formula at the next atom
    pub body_room : HasRoomFor (size old) (RowsHave (upper_structure p) env more f (tuples_of es)) → HasRoomFor (size now) (BodyHas a)
    body_room h = room_second (size now) (Is more) (BodyHas a) (turn_room h)

    module _ {mid : Network} {body : ℕ} (told : IsTold now mid p (a ∷ env) f body) where
      -- and for its gates
      pub gates_room : 1 ≤ more → HasRoomFor (size old) (RowsHave (upper_structure p) env more f (tuples_of es)) → size mid + 15 < 1073741823
      gates_room some h =
          let r = turn_room h in
          let m = told.spends.most r.1.1 r.1.3 in
          let o = r.1.2 in
          let s = r.1.4 in
          let t = r.2 in
          omega arith

      pub turn_tells : {new : Network} {node : ℕ} (F : (ℕ → Bool) → Type 0) → 1 ≤ more → Extends mid new → size new ≤ size mid + 6 → Says new node F → Tells old new node F (RowsSoFar (i + 1))
      turn_tells {new} F some extends gates says = record {
        spends = record {
          extends = Extends-trans old mid new (Extends-trans old now mid spent.extends told.spends.extends) extends;
          most = λ n h.
              let both = row_last n h in
              let before = spent.most both.0 both.2 in
              let own = both.3 in
              let here = told.spends.most own.1 own.3 in
              let s = both.4 in let t = own.4 in let o = own.2 in
              omega arith;
        };
        says = says;
        spare = λ n h.
            let both = row_last n h in
            let before = spent.most both.0 both.2 in
            let own = both.3 in
            let here = told.spends.most own.1 own.3 in
            let s = both.4 in let t = own.4 in let o = own.2 in
            inr (omega arith);
      }

  pub rows_tell : {old new : Network} {node : ℕ} (i : ℕ) (F G : (ℕ → Bool) → Type 0) → length es ≤ i → ((s : ℕ → Bool) → F s ↔ G s) → Tells old new node F (RowsSoFar i) → Tells old new node G (RowsHave (upper_structure p) env more f (tuples_of es))
  rows_tell i F G l same t = tells_same G (RowsHave (upper_structure p) env more f (tuples_of es)) same
      (λ n h. subst (λ rs. RowsHave (upper_structure p) env more f rs n) (sym (take_all i (tuples_of es) (let m = length-map es (λ (e : Entry). e.tuple) in omega arith))) h) t

-- the atom of an entry is one of the problem's
pub first_atom : (p : Bounded) (es : List Entry) (i : ℕ) (x : Entry) (a : Atom) → i < length es → x ≡ get_or es i x → BeginsWith a x.tuple → All (λ e. All (IsAtomOf p) e.tuple) es → IsAtomOf p a
first_atom p es i x a l is begins atoms =
    let all : All (IsAtomOf p) x.tuple = subst (λ (y : Entry). All (IsAtomOf p) y.tuple) (sym is) (atoms i x l) in
    All-contains (IsAtomOf p) x.tuple a all (subst (λ t. Contains t a) (sym begins.1) (0, omega arith, refl))

-- what the loops' nodes say
module _ {now mid : Network} (old : Network) (p : Bounded) (env : List Atom) (f : FormulaTree) (es : List Entry) (i : ℕ) (x : Entry) (a : Atom) (l : i < length es) (e : x ≡ get_or es i x) (begins : BeginsWith a x.tuple) (single : length x.tuple ≡ 1)
    (start : Extends old now) (known : x.node < length old.shapes) {body : ℕ} (told : IsTold now mid p (a ∷ env) f body) where
  extends_mid : Extends old mid
  extends_mid = Extends-trans old now mid start told.spends.extends

  guard_same : (s : ℕ → Bool) → IsTrue (value_at mid x.node s) ↔ IsTrue (value_at old x.node s)
  guard_same s = (λ h. subst IsTrue (extends_mid.same x.node s known) h, λ h. subst IsTrue (sym (extends_mid.same x.node s known)) h)

  body_same : (s : ℕ → Bool) → IsTrue (value_at mid body s) ↔ IsTrueAt (structure_at p s) env f x.tuple
  body_same s =
      let row : x.tuple ≡ a ∷ [] = one_atom a x.tuple single begins in (
        λ h. (a, row, (told.says.value s).0 h),
        λ h. (told.says.value s).1 (subst (λ b. Truth (structure_at p s) (b ∷ env) f) (first_same h.0 a x.tuple h.1 row) h.2),
      )

  guarded_at : (c : Connective) (s : ℕ → Bool) → Guarded c (IsTrue (value_at mid x.node s)) (IsTrue (value_at mid body s)) ↔ IsGuarded c old s p env f x
  guarded_at c s = guarded_same c (guard_same s) (body_same s)

  pub guarded_turn : {new : Network} {so_far node : ℕ} (c : Connective) → Says now so_far (λ s. HoldsOf c (IsGuarded c old s p env f) (take i es)) →
      Says new node (λ s. Connects c (IsTrue (value_at mid so_far s)) (Guarded c (IsTrue (value_at mid x.node s)) (IsTrue (value_at mid body s)))) →
      Says new node (λ s. HoldsOf c (IsGuarded c old s p env f) (take (i + 1) es))
  guarded_turn c before says =
      let later = says_later told.spends.extends before in
      says_same (λ s.
      let step = junction_more (IsGuarded c old s p env f) c es i x l e in
      let both = connects_same c (later.value s) (guarded_at c s) in
      (λ h. step.1 (both.0 h), λ h. both.1 (step.0 h))) says

  pub found_turn : {later new : Network} {found node : ℕ} → Extends mid later → Says now found (λ s. Any (IsMet old s p env f) (take i es)) → Says new node (λ s. IsTrue (value_at later found s) ⊎ (IsTrue (value_at later x.node s) × IsTrue (value_at later body s))) →
      Says new node (λ s. Any (IsMet old s p env f) (take (i + 1) es))
  found_turn {later} {new} {found} extends before says =
      let mine = says_later told.spends.extends before in
      guarded_turn connective.Or before (says_same (λ s.
      let kept_found = says_kept mid later extends found mine.there s in
      let kept_guard = says_kept mid later extends x.node (let m = extends_mid.longer in omega arith) s in
      let kept_body = says_kept mid later extends body told.says.there s in (
        λ h. elim h [ inl b ↦ inl (kept_found.1 b) | inr m ↦ inr (kept_guard.1 m.0, kept_body.1 m.1) ],
        λ h. elim h [ inl b ↦ inl (kept_found.0 b) | inr m ↦ inr (kept_guard.0 m.0, kept_body.0 m.1) ],
      )) says)

  pub lone_turn : {new : Network} {found lone node : ℕ} → Says now found (λ s. Any (IsMet old s p env f) (take i es)) → Says now lone (λ s. AllPairs (AreNotBothMet old s p env f) (take i es)) →
      Says new node (λ s. IsTrue (value_at mid lone s) × (IsTrue (value_at mid found s) → IsTrue (value_at mid x.node s) → IsTrue (value_at mid body s) → ⊥)) →
      Says new node (λ s. AllPairs (AreNotBothMet old s p env f) (take (i + 1) es))
  lone_turn before_found before_lone says =
      let found = says_later told.spends.extends before_found in
      let lone = says_later told.spends.extends before_lone in
      says_same (λ s.
      let step = two_more (IsMet old s p env f) es i x l e in (
        λ h. step.1 ((lone.value s).0 h.0, λ any met. let m = (guarded_at connective.Or s).1 met in h.1 ((found.value s).1 any) m.0 m.1),
        λ h. let r = step.0 h in ((lone.value s).1 r.0, λ g b c. r.1 ((found.value s).0 g) ((guarded_at connective.Or s).0 (b, c))),
      )) says

-- from the tuples of the domain's matrix to its value
module _ (network : Network) (s : ℕ → Bool) (p : Bounded) (env : List Atom) (f : FormulaTree) (m : Cells) (P : Pred) (value : Same (TrueIn network m s) P) (single : All (λ e. length e.tuple ≡ 1) m.entries) where
  abbrev BodyAt : Atom → Type 0
  BodyAt a = Truth (structure_at p s) (a ∷ env) f

  row_of : (row : List Atom) → length row ≡ 1 → (a : Atom) × (row ≡ a ∷ [])
  row_of [] e = absurd (omega arith)
  row_of (a ∷ rest) e = (a, one_atom a (a ∷ rest) e (rest, refl))

  entry_atom : (e : Entry) → Contains m.entries e → (a : Atom) × (e.tuple ≡ a ∷ [])
  entry_atom e c = row_of e.tuple (All-contains (λ (e : Entry). length e.tuple ≡ 1) m.entries e single c)

  entry_value : (e : Entry) (a : Atom) → Contains m.entries e → e.tuple ≡ a ∷ [] → IsTrue (value_at network e.node s) → P (a ∷ [])
  entry_value e a c is h = value.to (a ∷ []) (e, c, (sym is, h))

  body_at : (e : Entry) (a : Atom) → a ∷ [] ≡ e.tuple → IsTrueAt (structure_at p s) env f e.tuple → BodyAt a
  body_at e a is h = subst BodyAt (first_same h.0 a e.tuple h.1 (sym is)) h.2

  implied_is : All (IsGuarded connective.And network s p env f) m.entries ↔ ((a : Atom) → P (a ∷ []) → BodyAt a)
  implied_is = (
    λ all a v.
        let g = value.back (a ∷ []) v in
        body_at g.0 a g.2.0 (All-contains (IsGuarded connective.And network s p env f) m.entries g.0 all g.1 g.2.1),
    λ each k d l h.
        let e = get_or m.entries k d in
        let c = Contains-get_or m.entries k d l in
        let at = entry_atom e c in
        (at.0, at.1, each at.0 (entry_value e at.0 c at.1 h)),
  )

  met_is : Any (IsMet network s p env f) m.entries ↔ ((a : Atom) × P (a ∷ []) × BodyAt a)
  met_is = (
    λ h.
        let c : Contains m.entries h.1 = (h.0, h.2, h.3) in
        let at = h.4.1 in
        (at.0, entry_value h.1 at.0 c at.1 h.4.0, at.2),
    λ h.
        let g = value.back (h.0 ∷ []) h.1 in
        (g.1.0, g.0, g.1.1, g.1.2, (g.2.1, (h.0, sym g.2.0, h.2))),
  )

  lone_is : AllPairs (λ d e. tuple_cmp d.tuple e.tuple ≡ Less) m.entries → AllPairs (AreNotBothMet network s p env f) m.entries ↔ ((a b : Atom) → P (a ∷ []) → BodyAt a → P (b ∷ []) → BodyAt b → a ≡ b)
  lone_is ascending = (
    λ two a b v h w k.
        let c = value.back (a ∷ []) v in
        let d = value.back (b ∷ []) w in
        let met_a : IsMet network s p env f c.0 = (c.2.1, (a, sym c.2.0, h)) in
        let met_b : IsMet network s p env f d.0 = (d.2.1, (b, sym d.2.0, k)) in
        let at_a : get_or m.entries c.1.0 c.0 ≡ c.0 = c.1.2 in
        let at_b : get_or m.entries d.1.0 c.0 ≡ d.0 = get_or_default m.entries d.1.0 c.0 d.0 d.1.1 ∙ d.1.2 in
        elim (cases_lt c.1.0 d.1.0) [
          | inl less ↦ absurd (two c.1.0 d.1.0 c.0 less d.1.1 (subst (IsMet network s p env f) (sym at_a) met_a) (subst (IsMet network s p env f) (sym at_b) met_b))
          | inr past ↦ elim (cases_lt d.1.0 c.1.0) [
            | inl less ↦ absurd (two d.1.0 c.1.0 c.0 less c.1.1 (subst (IsMet network s p env f) (sym at_b) met_b) (subst (IsMet network s p env f) (sym at_a) met_a))
            | inr back ↦
                let same : c.1.0 ≡ d.1.0 = omega arith in
                let entry : c.0 ≡ d.0 = sym at_a ∙ ap (λ n. get_or m.entries n c.0) same ∙ at_b in
                first_same a b c.0.tuple (sym c.2.0) (ap (λ (e : Entry). e.tuple) entry ∙ sym d.2.0)
          ]
        ],
    λ once i j d l h f g.
        let x = get_or m.entries i d in
        let y = get_or m.entries j d in
        let v = entry_value x f.1.0 (Contains-get_or m.entries i d (omega arith)) f.1.1 f.0 in
        let w = entry_value y g.1.0 (Contains-get_or m.entries j d h) g.1.1 g.0 in
        let same = once f.1.0 g.1.0 v f.1.2 w g.1.2 in
        let tuples : x.tuple ≡ y.tuple = f.1.1 ∙ ap (λ (a : Atom). a ∷ []) same ∙ sym g.1.1 in
        let less : tuple_cmp x.tuple y.tuple ≡ Less = ascending i j d l h in
        let less' : tuple_cmp x.tuple x.tuple ≡ Less = subst (λ t. tuple_cmp x.tuple t ≡ Less) (sym tuples) less in
        let tie : tuple_cmp x.tuple x.tuple ≡ Equal = tied_itself tuple_order x.tuple in
        cc,
  )

  pub grounded_is : AllPairs (λ d e. tuple_cmp d.tuple e.tuple ≡ Less) m.entries → (q : Quantifier) → IsGrounded q network s p env f m.entries ↔ HoldsFor q P BodyAt
  grounded_is ascending quantifier.All = implied_is
  grounded_is ascending quantifier.Exists = met_is
  grounded_is ascending quantifier.Lone = lone_is ascending

-- a quantifier, from the matrix of its domain and the node of its loop
module _ (p : Bounded) (env : List Atom) {start mid : Network} {e : ExpressionTree} {m : Cells} (domain : IsMade start mid p env e m) (unary : arity_of (arities_of p) e ≡ 1) where
  abbrev DomainAt : (ℕ → Bool) → Pred
  DomainAt s = InValue (structure_at p s) env e

  pub domain_single : All (λ x. length x.tuple ≡ 1) m.entries
  domain_single k d l = domain.is.well.arities k d l ∙ domain.is.is.arity_is ∙ unary

  pub domain_atoms : All (IsAtomOf p) env → All (λ x. All (IsAtomOf p) x.tuple) m.entries
  domain_atoms vars k d l i b h =
      let x = get_or m.entries k d in
      upper_atoms p env vars e x.tuple (get_or x.tuple i b) (domain.is.is.there.to x.tuple (x, Contains-get_or m.entries k d l, refl)) (Contains-get_or x.tuple i b h)

  module _ (more : ℕ) (f : FormulaTree) where
    abbrev Sums : Number
    Sums = SumsOver (UpperOf p env e) (AtomHas (upper_structure p) env more f)

    sums_are : (n : ℕ) → Sums n ↔ RowsHave (upper_structure p) env more f (tuples_of m.entries) n
    sums_are n =
        let list = tuples_list m (UpperOf p env e) domain.is.well domain.is.is.there in
        let same = rows_sums (upper_structure p) env more f (UpperOf p env e) (tuples_of m.entries) (All-map (λ (t : List Atom). length t ≡ 1) (λ (x : Entry). x.tuple) m.entries domain_single) list n in
        (same.1, same.0)

    pub domain_room : HasRoomFor (size start) (TermsOf p env e ⊕ Sums) → HasRoomFor (size mid) (RowsHave (upper_structure p) env more f (tuples_of m.entries))
    domain_room h = room_same (size mid) Sums (RowsHave (upper_structure p) env more f (tuples_of m.entries)) (λ n. (sums_are n).0) (room_right Sums h domain.spends)

    grounded : {new : Network} {node : ℕ} (F G : (ℕ → Bool) → Type 0) → ((s : ℕ → Bool) → F s ↔ G s) → Tells mid new node F (RowsHave (upper_structure p) env more f (tuples_of m.entries)) → Tells start new node G (TermsOf p env e ⊕ Sums)
    grounded F G same t = record {
      spends = spends_both domain.spends (spends_same (λ n. (sums_are n).0) t.spends);
      says = says_same same t.says;
      spare = λ n h. elim (t.spare h.1 ((sums_are h.1).0 h.3)) [
        | inl constant ↦ inl constant
        | inr spare ↦ inr (let l = domain.spends.most h.0 h.2 in let e = h.4 in omega arith)
      ];
    }

  pub quantified_told : {new : Network} {node : ℕ} (q : Quantifier) (f : FormulaTree) → Tells mid new node (λ s. IsGrounded q mid s p env f m.entries) (RowsHave (upper_structure p) env (each_terms q) f (tuples_of m.entries)) → IsTold start new p env (quantified q e f) node
  quantified_told q f t = grounded (each_terms q) f (λ s. IsGrounded q mid s p env f m.entries) (λ s. Truth (structure_at p s) env (quantified q e f))
      (λ s. grounded_is mid s p env f m (DomainAt s) (domain.is.is.value s) domain_single domain.is.well.ascending q) t
