-- The matrices of relations and of the universe, tuple by tuple.
use Rattle.std.proofs.Common.{◌≡◌, ℕ, ◌+◌, ◌≤◌, ◌<◌, ◌↔◌, inl, inr, Bool, true, false, IsTrue, List, [], ◌∷◌, ◌++◌, All, AllPairs, Contains, Some, length, get_or, take, slice_get, refl, sym, ◌∙◌, ap, subst, arith}
use Rattle.std.specs.List.{list_any}
use Rattle.std.specs.Ordering.{eq_by_cmp}
use Rattle.std.specs.declared.cmp.Ordering.TheVariants.{Less, Equal}
use Rattle.std.proofs.lemmas.Bool.{cases_lt}
use Rattle.std.proofs.lemmas.Cmp.{tied_itself}
use Rattle.std.proofs.lemmas.List.{take_all, get_or_default, get_or-take, get_or-map, length-take-le, length_push, get_or_append_left, get_or_push}
use Rattle.std.proofs.lemmas.List.Elements.{Contains-get_or}
use Rattle.tuple_core.specs.declared.atom.Atom.{Atom}
use Rattle.tuple_core.specs.Operators.{Pred, United}
use Rattle.tuple_core.specs.Order.{tuple_cmp, IsAscending}
use Rattle.tuple_core.specs.Gains.{Same, Gains, SomeGives}
use Rattle.tuple_core.proofs.Ascending.{tuple_order}
use Rattle.tuple_core.proofs.Congruence.{same_then}
use Rattle.tuple_core.proofs.Steps.{more_gives}
use Rattle.bool_circuit.specs.declared.shape.Shape.{Shape}
use Rattle.bool_circuit.specs.Network.{Network, size, missing}
use Rattle.bool_circuit.specs.Value.{value_at, Extends, Stands}
use Rattle.bool_circuit.proofs.CallerLemmas.{Stands-kept}
use Rattle.bool_matrix.specs.declared.entry.Entry.{Entry}
use Rattle.bool_matrix.specs.Cells.{Cells, IsCells, IsOf, AtEntry, TrueAt, TrueIn, ThereIn, Says, MatrixGains}
use Rattle.bool_matrix.specs.Edits.{Puts}
use Rattle.bool_matrix.proofs.Nodes.{from_stands}
use Rattle.bool_matrix.proofs.Loops.{of_empty, matrix_made}
use Rattle.rel_formula.specs.declared.problem.Relation.{Relation}
use Rattle.rel_formula.specs.Bounds.{Bounded, IsProblem, HasDisjointTops, relation_at, cell_of, cells_of}
use Rattle.rel_formula.specs.Kernel.{rel}
use Rattle.rel_formula.specs.Instance.{InRelation, InSome}
use Rattle.rel_formula.proofs.Cells.{any_row}
use Rattle.rel_formula.proofs.OpenCells.{open_cell, cell_open}
use Rattle.rel_formula.proofs.Tabled.{no_relation, some_more}
use Rattle.rel_terms.specs.Upper.{InUpperSet}
use Rattle.rel_terms.specs.Counting.{arities_of}
use Rattle.rel_terms.proofs.Uppers.{lies_in}
use Rattle.rel_translate.specs.Tables.{IsWell, AreLeaves, IsRelationOf, IsUniverseOf}

-- the cells whose inputs are true
abbrev pub ChosenAt : (ℕ → Bool) → ℕ → Type 0
ChosenAt s n = IsTrue (s n)

-- a tuple with a cell is there just where the cell's input is true
pub cell_says : (p : Bounded) (network : Network) (always : ℕ) (inputs : List ℕ) (r n : ℕ) (t : List Atom) (node d : ℕ) → AreLeaves network p always inputs → ((m : ℕ) → (Some n ≡ Some m) ↔ (slice_get (cells_of p) m ≡ Some (cell_of r t))) →
    n < length inputs → node ≡ get_or inputs n d → Says network node (λ s. InRelation p (ChosenAt s) r t)
cell_says p network always inputs r n t node d leaves is l at =
    let stands : Stands network node (λ s. s n) = subst (λ k. Stands network k (λ s. s n)) (sym at) (leaves.each n d l) in
    from_stands network node (λ s. s n) (λ s. InRelation p (ChosenAt s) r t) stands (λ s. (
      λ h. inr (n, h, (is n).0 refl),
      λ h. elim h [
        | inl low ↦ absurd ((cell_open p n r t ((is n).0 refl)).2 low)
        | inr cell ↦ let e : Some n ≡ Some cell.0 = (is cell.0).1 cell.2 in let same : n ≡ cell.0 = cc in subst (λ k. IsTrue (s k)) (sym same) cell.1
      ],
    ))

-- a tuple that a relation may have and that is no cell is one that it must have
pub fixed_says : (p : Bounded) (network : Network) (always : ℕ) (inputs : List ℕ) (r : ℕ) (t : List Atom) → AreLeaves network p always inputs → r < length p.relations → Contains (relation_at p.relations r).upper.rows t →
    ((n : ℕ) → slice_get (cells_of p) n ≡ Some (cell_of r t) → ⊥) → Says network always (λ s. InRelation p (ChosenAt s) r t)
fixed_says p network always inputs r t leaves there up none =
    from_stands network always (λ s. true) (λ s. InRelation p (ChosenAt s) r t) leaves.always_is (λ s. (λ h. inl lower, λ h. refl))
  where
    decide : (b : Bool) → list_any (eq_by_cmp tuple_cmp t) (relation_at p.relations r).lower.rows ≡ b → Contains (relation_at p.relations r).lower.rows t
    decide true e = (any_row t (relation_at p.relations r).lower.rows).0 e
    decide false e =
        let cell = open_cell p r t there up (λ low. let h = (any_row t (relation_at p.relations r).lower.rows).1 low in absurd (cc)) in
        absurd (none cell.0 cell.1)

    lower : Contains (relation_at p.relations r).lower.rows t
    lower = decide (list_any (eq_by_cmp tuple_cmp t) (relation_at p.relations r).lower.rows) refl

-- a tuple of a sorted list isn't among those before it
pub row_absent : (rows : List (List Atom)) (i : ℕ) (x : List Atom) → IsAscending rows → i < length rows → x ≡ get_or rows i x → (y : List Atom) → Contains (take i rows) y → x ≡ y → ⊥
row_absent rows i x up l is y c same =
    let short = length-take-le i rows (omega arith) in
    let k = c.1 in
    let at : get_or rows c.0 x ≡ y = sym (get_or-take i rows c.0 x (omega arith)) ∙ get_or_default (take i rows) c.0 x y k ∙ c.2 in
    let less : tuple_cmp (get_or rows c.0 x) (get_or rows i x) ≡ Less = up c.0 i x (omega arith) l in
    let less' : tuple_cmp x x ≡ Less = subst (λ z. tuple_cmp z x ≡ Less) (at ∙ sym same) (subst (λ z. tuple_cmp (get_or rows c.0 x) z ≡ Less) (sym is) less) in
    let tie : tuple_cmp x x ≡ Equal = tied_itself tuple_order x in
    cc

-- t is the tuple, and the fact holds of it
abbrev pub Chosen : Pred → List Atom → Pred
Chosen P row t = (t ≡ row) × P row

-- the loop over a relation's upper set: the tuples so far, each true where the relation has it
pub record IsSoFar (network : Network) (m : Cells) (F : (ℕ → Bool) → Pred) (rows : List (List Atom)) : Type 0 where
  pub of : IsOf network m
  pub value : (s : ℕ → Bool) → Same (TrueIn network m s) (SomeGives rows (Chosen (F s)))

pub so_far_none : (network : Network) (m : Cells) (F : (ℕ → Bool) → Pred) (rows : List (List Atom)) → m.entries ≡ [] → IsSoFar network m F (take 0 rows)
so_far_none network m F rows e = record {
  of = of_empty network m e;
  value = λ s. record {
    to = λ t g. absurd (let l = g.1.1 in let n = ap (λ (xs : List Entry). length xs) e in omega arith);
    back = λ t g. absurd (let l = g.1.1 in omega arith);
  };
}

pub so_far_more : (network : Network) (m n : Cells) (F : (ℕ → Bool) → Pred) (rows : List (List Atom)) (i : ℕ) (x : List Atom) (node : ℕ) → i < length rows → x ≡ get_or rows i x → Puts m n x node → Says network node (λ s. F s x) →
    IsSoFar network m F (take i rows) → IsSoFar network n F (take (i + 1) rows)
so_far_more network m n F rows i x node l is puts says before =
    let gains = puts.gains network before.of says.there in
    record {
      of = gains.of;
      value = λ s.
          let step = λ (t : List Atom). more_gives rows i x (Chosen (F s)) t l is in
          record {
            to = λ t g. (step t).1 (elim (((gains.value s).tuples t).0 g) [ inl old ↦ inl ((before.value s).to t old) | inr new ↦ inr (new.0, (says.value s).0 new.1) ]);
            back = λ t g. ((gains.value s).tuples t).1 (elim ((step t).0 g) [ inl old ↦ inl ((before.value s).back t old) | inr new ↦ inr (new.0, (says.value s).1 new.1) ]);
          };
    }

-- all tuples of the upper set are there
pub relation_well : (p : Bounded) (network : Network) (r i : ℕ) (m : Cells) (rows : List (List Atom)) → IsProblem p → r < length p.relations → rows ≡ (relation_at p.relations r).upper.rows → length rows ≤ i →
    m.arity ≡ (relation_at p.relations r).upper.arity → IsCells m → Same (ThereIn m) (Contains (take i rows)) → IsSoFar network m (λ s. InRelation p (ChosenAt s) r) (take i rows) → IsRelationOf network p r m
relation_well p network r i m rows well l e past arity is there value =
    let all : take i rows ≡ (relation_at p.relations r).upper.rows = take_all i rows past ∙ e in
    record {
      well = is;
      is = record {
        arity_is = arity ∙ (well.relations r no_relation l).arity ∙ sym (get_or-map (λ (x : Relation). x.lower.arity) p.relations r no_relation 0 l);
        of = value.of;
        value = λ s. record {
          to = λ t g. let h = (value.value s).to t g in subst (InRelation p (ChosenAt s) r) (sym h.2.0) h.2.1;
          back = λ t h. (value.value s).back t (t, subst (λ zs. Contains zs t) (sym all) (lies_in p (ChosenAt s) well [] (rel r) t h), (refl, h));
        };
        there = record {
          to = λ t g. subst (λ zs. Contains zs t) all (there.to t g);
          back = λ t c. there.back t (subst (λ zs. Contains zs t) (sym all) c);
        };
      };
    }

pub there_more : (m n : Cells) (rows : List (List Atom)) (i : ℕ) (x : List Atom) → i < length rows → x ≡ get_or rows i x → Gains (ThereIn m) (ThereIn n) (λ t. t ≡ x) → Same (ThereIn m) (Contains (take i rows)) → Same (ThereIn n) (Contains (take (i + 1) rows))
there_more m n rows i x l is gains before =
    let step = λ (t : List Atom). more_gives rows i x (λ y u. u ≡ y) t l is in
    let as_list : (ys : List (List Atom)) (t : List Atom) → Contains ys t ↔ SomeGives ys (λ y u. u ≡ y) t = λ ys t. (λ c. (t, c, refl), λ g. subst (Contains ys) (sym g.2) g.1) in
    record {
      to = λ t g. (as_list (take (i + 1) rows) t).1 ((step t).1 (elim ((gains.tuples t).0 g) [ inl old ↦ inl ((as_list (take i rows) t).0 (before.to t old)) | inr e ↦ inr e ]));
      back = λ t c. (gains.tuples t).1 (elim ((step t).0 ((as_list (take (i + 1) rows) t).0 c)) [ inl old ↦ inl (before.back t ((as_list (take i rows) t).1 old)) | inr e ↦ inr e ]);
    }

pub there_none : (m : Cells) (rows : List (List Atom)) → m.entries ≡ [] → Same (ThereIn m) (Contains (take 0 rows))
there_none m rows e = record {
  to = λ t g. absurd (let l = g.1.1 in let n = ap (λ (xs : List Entry). length xs) e in omega arith);
  back = λ t c. absurd (let l = c.1 in omega arith);
}

-- the top-level signatures so far
pub record AreTopsSoFar (network : Network) (p : Bounded) (m : Cells) (tops : List ℕ) : Type 0 where
  pub of : IsOf network m
  pub value : (s : ℕ → Bool) → Same (TrueIn network m s) (InSome tops (InRelation p (ChosenAt s)))

pub tops_none : (network : Network) (p : Bounded) (m : Cells) (tops : List ℕ) → m.entries ≡ [] → AreTopsSoFar network p m (take 0 tops)
tops_none network p m tops e = record {
  of = of_empty network m e;
  value = λ s. record {
    to = λ t g. absurd (let l = g.1.1 in let n = ap (λ (xs : List Entry). length xs) e in omega arith);
    back = λ t g. absurd (let l = g.1.1 in omega arith);
  };
}

pub tops_there_none : (p : Bounded) (m : Cells) (tops : List ℕ) → m.entries ≡ [] → Same (ThereIn m) (InSome (take 0 tops) (InUpperSet p))
tops_there_none p m tops e = record {
  to = λ t g. absurd (let l = g.1.1 in let n = ap (λ (xs : List Entry). length xs) e in omega arith);
  back = λ t g. absurd (let l = g.1.1 in omega arith);
}

-- the tuples of one more signature, none of which was there
grown : (m n : Cells) (es : List Entry) (top : Cells) (P Q : Pred) → es ≡ top.entries → Gains (ThereIn m) (ThereIn n) (SomeGives es AtEntry) → Same (ThereIn m) P → Same (ThereIn top) Q → Same (ThereIn n) (United P Q)
grown m n es top P Q e gains before here = record {
  to = λ t g. elim ((gains.tuples t).0 g) [ inl old ↦ inl (before.to t old) | inr new ↦ inr (here.to t (subst (λ xs. SomeGives xs AtEntry t) e new)) ];
  back = λ t u. (gains.tuples t).1 (elim u [ inl old ↦ inl (before.back t old) | inr new ↦ inr (subst (λ xs. SomeGives xs AtEntry t) (sym e) (here.back t new)) ]);
}

grown_true : (network : Network) (m n : Cells) (es : List Entry) (top : Cells) (s : ℕ → Bool) (P Q : Pred) → es ≡ top.entries → Gains (TrueIn network m s) (TrueIn network n s) (SomeGives es (TrueAt network s)) → Same (TrueIn network m s) P → Same (TrueIn network top s) Q → Same (TrueIn network n s) (United P Q)
grown_true network m n es top s P Q e gains before here = record {
  to = λ t g. elim ((gains.tuples t).0 g) [ inl old ↦ inl (before.to t old) | inr new ↦ inr (here.to t (subst (λ xs. SomeGives xs (TrueAt network s) t) e new)) ];
  back = λ t u. (gains.tuples t).1 (elim u [ inl old ↦ inl (before.back t old) | inr new ↦ inr (subst (λ xs. SomeGives xs (TrueAt network s) t) (sym e) (here.back t new)) ]);
}

module _ (p : Bounded) (tops : List ℕ) (i x : ℕ) (l : i < length tops) (is : x ≡ get_or tops i x) (m n top : Cells) (es : List Entry) (e : es ≡ top.entries) where
  pub tops_there_more : Gains (ThereIn m) (ThereIn n) (SomeGives es AtEntry) → Same (ThereIn m) (InSome (take i tops) (InUpperSet p)) → Same (ThereIn top) (InUpperSet p x) → Same (ThereIn n) (InSome (take (i + 1) tops) (InUpperSet p))
  tops_there_more gains before here =
      same_then (grown m n es top (InSome (take i tops) (InUpperSet p)) (InUpperSet p x) e gains before here) (some_more tops i x (InUpperSet p) l is)

  pub tops_more : (network : Network) → ((network : Network) → IsOf network m → All (λ (e : Entry). e.node < length network.shapes) es → MatrixGains network network m n (λ s. SomeGives es (TrueAt network s)) (SomeGives es AtEntry)) →
      IsRelationOf network p x top → AreTopsSoFar network p m (take i tops) → AreTopsSoFar network p n (take (i + 1) tops)
  tops_more network gains here before =
      let grows = gains network before.of (subst (λ (xs : List Entry). All (λ (e : Entry). e.node < length network.shapes) xs) (sym e) here.is.of) in
      record {
        of = grows.of;
        value = λ s. same_then (grown_true network m n es top s (InSome (take i tops) (InRelation p (ChosenAt s))) (InRelation p (ChosenAt s) x) e (grows.value s) (before.value s) (here.is.value s)) (some_more tops i x (InRelation p (ChosenAt s)) l is);
      }

  -- no tuple of one top-level signature is in an earlier one
  pub tops_absent : AllPairs (λ r s. r < s) tops → HasDisjointTops p → tops ≡ p.tops → Same (ThereIn m) (InSome (take i tops) (InUpperSet p)) → Same (ThereIn top) (InUpperSet p x) → All (λ e. ThereIn m e.tuple → ⊥) es
  tops_absent rising disjoint same before here k d h g =
      let y = get_or es k d in
      let some = before.to y.tuple g in
      let short = length-take-le i tops (omega arith) in
      let c = some.1 in
      let j = c.1 in
      let at : get_or tops c.0 some.0 ≡ some.0 = sym (get_or-take i tops c.0 some.0 (omega arith)) ∙ c.2 in
      let there : Contains tops some.0 = (c.0, omega arith, at) in
      let last : Contains tops x = (i, l, sym is) in
      let mine : InUpperSet p x y.tuple = here.to y.tuple (y, subst (λ (xs : List Entry). Contains xs y) e (Contains-get_or es k d h), refl) in
      let one : some.0 ≡ x = disjoint some.0 x y.tuple (subst (λ ts. Contains ts some.0) same there) (subst (λ ts. Contains ts x) same last) some.2 mine in
      let less : get_or tops c.0 some.0 < get_or tops i some.0 = rising c.0 i some.0 (omega arith) l in
      let end : get_or tops i some.0 ≡ x = get_or_default tops i some.0 x l ∙ sym is in
      omega arith

-- the nodes of the inputs, with one more
pub inputs_push : (old new : Network) (nodes more : List ℕ) (i node : ℕ) → length nodes ≡ i → more ≡ nodes ++ node ∷ [] → Extends old new → Stands new node (λ s. s i) →
    ((n d : ℕ) → n < length nodes → Stands old (get_or nodes n d) (λ s. s n)) → (n d : ℕ) → n < length more → Stands new (get_or more n d) (λ s. s n)
inputs_push old new nodes more i node count e extends here each n d l =
    let long : length more ≡ length nodes + 1 = ap length e ∙ length_push nodes node in
    subst (λ (ks : List ℕ). Stands new (get_or ks n d) (λ s. s n)) (sym e) (elim (cases_lt n (length nodes)) [
      | inl before ↦ subst (λ k. Stands new k (λ s. s n)) (sym (get_or_append_left nodes (node ∷ []) d n before)) (Stands-kept old new (get_or nodes n d) (λ s. s n) (each n d before) extends)
      | inr past ↦ let same : length nodes ≡ n = omega arith in
          subst (λ k. Stands new k (λ s. s n)) (sym (get_or_push nodes node d n same)) (subst (λ k. Stands new node (λ s. s k)) (sym count ∙ same) here)
    ])

-- and the matrices of the relations
pub relations_push : (network : Network) (p : Bounded) (ms more : List Cells) (i : ℕ) (m : Cells) → length ms ≡ i → more ≡ ms ++ m ∷ [] → IsRelationOf network p i m →
    ((r : ℕ) (d : Cells) → r < length ms → IsRelationOf network p r (get_or ms r d)) → (r : ℕ) (d : Cells) → r < length more → IsRelationOf network p r (get_or more r d)
relations_push network p ms more i m count e here each r d l =
    let long : length more ≡ length ms + 1 = ap length e ∙ length_push ms m in
    subst (λ (ks : List Cells). IsRelationOf network p r (get_or ks r d)) (sym e) (elim (cases_lt r (length ms)) [
      | inl before ↦ subst (IsRelationOf network p r) (sym (get_or_append_left ms (m ∷ []) d r before)) (each r d before)
      | inr past ↦ let same : length ms ≡ r = omega arith in
          subst (IsRelationOf network p r) (sym (get_or_push ms m d r same)) (subst (λ k. IsRelationOf network p k m) (sym count ∙ same) here)
    ])

-- the matrix of one tuple, and that of none
pub single_well : (network : Network) (m n : Cells) (always : ℕ) (a : Atom) (t : List Atom) → m.entries ≡ [] → m.arity ≡ 1 → t ≡ a ∷ [] → IsCells n → Puts m n t always → Stands network always (λ s. true) → IsWell network n 1 (λ s u. u ≡ a ∷ []) (λ u. u ≡ a ∷ [])
single_well network m n always a t empty one is well puts stands =
    let gains = puts.gains network (of_empty network m empty) stands.there in
    let same : Same (λ u. u ≡ t) (λ u. u ≡ a ∷ []) = record { to = λ u e. e ∙ is; back = λ u e. e ∙ sym is } in
    record {
      well = well;
      is = matrix_made network network m n 1 (λ s u. (u ≡ t) × IsTrue (value_at network always s)) (λ s u. u ≡ a ∷ []) (λ u. u ≡ t) (λ u. u ≡ a ∷ []) empty one gains
          (λ s. record { to = λ u h. same.to u h.0; back = λ u e. (same.back u e, stands.value s) }) same;
    }

pub nothing_well : (network : Network) (m : Cells) → m.entries ≡ [] → m.arity ≡ 1 → IsCells m → IsWell network m 1 (λ s t. ⊥) (λ t. ⊥)
nothing_well network m empty one well = record {
  well = well;
  is = record {
    arity_is = one;
    of = of_empty network m empty;
    value = λ s. record { to = λ t g. absurd (let l = g.1.1 in let n = ap (λ (xs : List Entry). length xs) empty in omega arith); back = λ t h. absurd h };
    there = record { to = λ t g. absurd (let l = g.1.1 in let n = ap (λ (xs : List Entry). length xs) empty in omega arith); back = λ t h. absurd h };
  };
}

pub top_below : (p : Bounded) (tops : List ℕ) (i : ℕ) → IsProblem p → tops ≡ p.tops → i < length tops → get_or tops i 0 < length p.relations
top_below p tops i well same l = subst (λ (ts : List ℕ). (k : ℕ) → k < length ts → get_or ts k 0 < length p.relations) (sym same) (λ k h. well.tops k 0 h) i l

pub universe_well : (network : Network) (p : Bounded) (m : Cells) (tops : List ℕ) (i : ℕ) → tops ≡ p.tops → length tops ≤ i → m.arity ≡ 1 → IsCells m → Same (ThereIn m) (InSome (take i tops) (InUpperSet p)) → AreTopsSoFar network p m (take i tops) → IsUniverseOf network p m
universe_well network p m tops i same past arity well there value =
    let all : take i tops ≡ p.tops = take_all i tops past ∙ same in
    record {
      well = well;
      is = record {
        arity_is = arity;
        of = value.of;
        value = λ s. subst (λ ts. Same (TrueIn network m s) (InSome ts (InRelation p (ChosenAt s)))) all (value.value s);
        there = subst (λ ts. Same (ThereIn m) (InSome ts (InUpperSet p))) all there;
      };
    }

pub top_unary : (p : Bounded) (tops : List ℕ) (i : ℕ) → IsProblem p → tops ≡ p.tops → i < length tops → get_or (arities_of p) (get_or tops i 0) 0 ≡ 1
top_unary p tops i well same l =
    let x = get_or tops i 0 in
    let there : x < length p.relations = top_below p tops i well same l in
    let one : (relation_at p.relations x).upper.arity ≡ 1 = subst (λ (ts : List ℕ). (k : ℕ) → k < length ts → (relation_at p.relations (get_or ts k 0)).upper.arity ≡ 1) (sym same) (λ k h. well.unary k 0 h) i l in
    get_or-map (λ (y : Relation). y.lower.arity) p.relations x no_relation 0 there ∙ sym (well.relations x no_relation there).arity ∙ one

-- a circuit without nodes has room for two constants in its size
pub size_empty : (network : Network) → network.shapes ≡ [] → size network ≡ 2
size_empty network e = ap (λ (xs : List Shape). length xs + missing true xs + missing false xs) e
