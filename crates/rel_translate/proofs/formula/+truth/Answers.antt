use Rattle.std.proofs.Common.{◌≡◌, ℕ, ◌+◌, ◌<◌, IsTrue, List, [], ◌∷◌, All, AllPairs, map, reverse, length, take, get_or, refl, sym, ◌∙◌, ap, subst, rules, arith}
use Rattle.std.proofs.lemmas.List.{take_all, reverse-append, length_push}
use Rattle.tuple_core.specs.declared.atom.Atom.{Atom}
use Rattle.bool_circuit.specs.Network.{Network, size}
use Rattle.bool_circuit.specs.Value.{Extends}
use Rattle.bool_matrix.specs.declared.entry.Entry.{Entry}
use Rattle.bool_matrix.specs.Cells.{Cells}
use Rattle.bool_matrix.proofs.ComparedEntries.{says_same}
use Rattle.rel_formula.specs.declared.connectives.Connective.TheVariants as connective
use Rattle.rel_formula.specs.declared.connectives.Quantifier.{Quantifier}
use Rattle.rel_formula.specs.declared.formula.Formula.{Formula, Junction}
use Rattle.rel_formula.specs.declared.formula.Formula.TheViews.{the_lemmas}
use Rattle.rel_formula.specs.Bounds.{Bounded, IsAtomOf}
use Rattle.rel_formula.specs.Kernel.{FormulaTree, compared, at_least, formulas_of}
use Rattle.rel_formula.specs.View.{expression_tree, formula_tree}
use Rattle.rel_formula.specs.Meaning.{Truth}
use Rattle.rel_formula.specs.Evaluation.{HoldsOf}
use Rattle.rel_formula.specs.Shape.{IsWellFormed, IsProper}
use Rattle.rel_formula.proofs.AndOrParts.{Junction-tree, Truth-Junction, IsProper-Junction}
use Rattle.rel_terms.specs.Numbers.{Is, ◌⊕◌}
use Rattle.rel_terms.specs.Upper.{upper_structure}
use Rattle.rel_terms.specs.Terms.{FormulasHave, each_terms}
use Rattle.rel_terms.specs.Counting.{RowsHave, arities_of}
use Rattle.rel_translate.specs.Tables.{structure_at, IsReady}
use Rattle.rel_translate.specs.Makes.{HasRoomFor, TermsOf, FormulaTermsOf, IsMade, Tells, IsTold}
use Rattle.rel_translate.specs.Grounding.{IsGuarded, IsMet, AreNotBothMet, IsGrounded}
use Rattle.rel_translate.proofs.Lists.{two_start, junction_start, junction_more, connects_same}
use Rattle.rel_translate.proofs.GrownCircuits.{ready_kept, ready_more}
use Rattle.rel_translate.proofs.Gated.{there_later, says_later}
use Rattle.bool_circuit.proofs.CallerLemmas.{Extends-trans}
use Rattle.rel_translate.proofs.Spending.{room_now, room_before}
use Rattle.rel_translate.proofs.FormulaNodes.{tells_same, negation_room, negation_told}
use Rattle.rel_translate.proofs.Grounded.{room_second, next_room, next_gate, next_spent, parts_start, parts_tell, rows_start, rows_tell, body_room, gates_room, turn_tells, guarded_turn, lone_turn, found_turn, first_atom, domain_first, domain_single, domain_atoms, domain_room, quantified_told}
use Rattle.rel_translate.proofs.formula.+truth.Goals as goal

abbrev ReadyAt : Network → Bounded → ℕ → List Cells → Cells → List Atom → Type 0
ReadyAt network p always relations universe es = IsReady network p always relations universe (reverse es)

abbrev ToldAt : Network → Network → Bounded → List Atom → ℕ → Formula → Type 0
ToldAt old new p es node f = IsTold old new p (reverse es) (formula_tree f) node

abbrev ProperAt : Bounded → List Atom → Formula → Type 0
ProperAt p es f = IsProper (arities_of p) (length es) (formula_tree f)

abbrev RoomAt : Network → Bounded → List Atom → Formula → Type 0
RoomAt network p es f = HasRoomFor (size network) (FormulaTermsOf p (reverse es) (formula_tree f))

-- the room that a quantifier's rows want, and that their node was made
abbrev RowsRoomAt : Network → Bounded → List Atom → FormulaTree → List Entry → Quantifier → Type 0
RowsRoomAt network p env f es q = HasRoomFor (size network) (RowsHave (upper_structure p) env (each_terms q) f (map (λ (x : Entry). x.tuple) es))

abbrev GroundedAt : Network → Network → ℕ → Bounded → List Atom → FormulaTree → List Entry → Quantifier → Type 0
GroundedAt old new node p env f es q = Tells old new node (λ s. IsGrounded q old s p env f es) (RowsHave (upper_structure p) env (each_terms q) f (map (λ (x : Entry). x.tuple) es))

-- the node of an entry is there in a circuit that has grown twice
guard_there : {old now mid : Network} (es : List Entry) (i : ℕ) (x : Entry) → Extends old now → Extends now mid → All (λ e. e.node < length old.shapes) es → i < length es → x ≡ get_or es i x → x.node < length mid.shapes
guard_there {old} {now} {mid} es i x first second nodes l is =
    there_later now mid x.node second (there_later old now x.node first (subst (λ (y : Entry). y.node < length old.shapes) (sym is) (nodes i x l)))

pub true_of-loop-part-init : goal.true_of-loop-part-init
true_of-loop-part-init t c = record {
  env = refl;
  spends = parts_start c.args.problem.now (reverse c.args.env.now.items) c.args.parts.now c.constant.ensures.extends c.constant.ensures.size;
  says = says_same (λ s.
      let start = junction_start (λ (f : Formula). Truth (structure_at c.args.problem.now s) (reverse c.args.env.now.items) (formula_tree f)) c.args.connective c.args.parts.now in
      (λ h. start.0 (subst IsTrue c.of_none.ensures h), λ h. subst IsTrue (sym c.of_none.ensures) (start.1 h))) c.in_ok-so_far.ensures.says;
}

pub true_of-truth-requires : goal.true_of-truth-requires
true_of-truth-requires t c =
    let p = c.args.problem.now in
    let inv = c.loop-part.invariant in
    let x = c.part-item.result in
    let i = c.loop-part.part-index in (
      search (rules, the_lemmas),
      (
        subst (ReadyAt c.loop-part.circuit p c.args.tables.now.always c.args.tables.now.relations.items c.args.tables.now.universe) (sym inv.env) (ready_kept inv.spends.extends c.requires.ready),
        (
          subst (λ es. ProperAt p es x) (sym inv.env) (subst (ProperAt p c.args.env.now.items) (sym c.part-item.is) (c.requires.proper i x c.loop-part-test.true)),
          subst (λ es. RoomAt c.loop-part.circuit p es x) (sym inv.env) (next_room p (reverse c.args.env.now.items) c.args.parts.now i x c.loop-part-test.true c.part-item.is inv.spends c.requires.room),
        ),
      ),
    )

pub true_of-loop-part-preserved : goal.true_of-loop-part-preserved
true_of-loop-part-preserved t c =
    let p = c.args.problem.now in
    let env = reverse c.args.env.now.items in
    let o = c.args.connective in
    let inv = c.loop-part.invariant in
    let x = c.part-item.result in
    let i = c.loop-part.part-index in
    let told = subst (λ es. ToldAt c.loop-part.circuit c.truth.new.circuit p es c.in_ok-node.node x) inv.env c.in_ok-node.ensures.told in
    let later = says_later told.spends.extends inv.says in
    record {
      env = c.in_ok-node.ensures.env ∙ inv.env;
      spends = next_spent p env c.args.parts.now i x c.loop-part-test.true c.part-item.is inv.spends told c.connected.ensures.extends c.connected.ensures.size c.connected.ensures.folded;
      says = says_same (λ s.
          let step = junction_more (λ (f : Formula). Truth (structure_at p s) env (formula_tree f)) o c.args.parts.now i x c.loop-part-test.true c.part-item.is in
          let both = connects_same o (later.value s) (told.says.value s) in
          (λ h. step.1 (both.0 h), λ h. both.1 (step.0 h))) c.in_ok-so_far-2.ensures.says;
    }

pub true_of-returns-clause-told : goal.true_of-returns-clause-told
true_of-returns-clause-told t c =
    let p = c.args.problem.now in
    let env = reverse c.args.env.now.items in
    let o = c.args.connective in
    let inv = c.loop-part.invariant in
    let i = c.loop-part.part-index in
    let parts = c.args.parts.now in
    parts_tell p env parts i (λ s. HoldsOf o (λ (f : Formula). Truth (structure_at p s) env (formula_tree f)) parts) c.loop-part-test.false inv.spends
    (says_same (λ s. let all = take_all i parts c.loop-part-test.false in let P : Formula → Type 0 = λ f. Truth (structure_at p s) env (formula_tree f) in
    (λ h. subst (HoldsOf o P) all h, λ h. subst (HoldsOf o P) (sym all) h)) inv.says)

pub true_at_those-loop-entry-init : goal.true_at_those-loop-entry-init
true_at_those-loop-entry-init t c =
    let p = c.args.problem.now in
    let env = reverse c.args.env.now.items in
    let o = c.args.connective in
    let f = formula_tree c.args.f.now in
    let es = c.args.entries.now in
    let old = c.args.circuit.now in
    record {
      env = refl;
      told = rows_start p env 1 f es (λ s. HoldsOf o (IsGuarded o old s p env f) (take 0 es)) c.constant.ensures.extends c.constant.ensures.size
          (says_same (λ s.
          let start = junction_start (IsGuarded o old s p env f) o es in
          (λ h. start.0 (subst IsTrue c.of_none.ensures h), λ h. subst IsTrue (sym c.of_none.ensures) (start.1 h))) c.in_ok-so_far.ensures.says) c.in_ok-so_far.ensures.constant;
    }

pub true_at_those-true_at-requires : goal.true_at_those-true_at-requires
true_at_those-true_at-requires t c =
    let p = c.args.problem.now in
    let inv = c.loop-entry.invariant in
    let x = c.entry-item.result in
    let i = c.loop-entry.entry-index in
    let es = c.args.entries.now in
    let a = c.first.result in (
      search (rules, the_lemmas),
      (
        subst (ReadyAt c.loop-entry.circuit p c.args.tables.now.always c.args.tables.now.relations.items c.args.tables.now.universe) (sym inv.env) (ready_kept inv.told.spends.extends c.requires.ready),
        (
          subst (λ (vs : List Atom). IsProper (arities_of p) (length vs + 1) (formula_tree c.args.f.now)) (sym inv.env) c.requires.proper,
          (
            first_atom p es i x a c.loop-entry-test.true c.entry-item.is c.first.ensures c.requires.atoms,
            subst (λ vs. HasRoomFor (size c.loop-entry.circuit) (FormulaTermsOf p (a ∷ reverse vs) (formula_tree c.args.f.now))) (sym inv.env)
                (body_room p (reverse c.args.env.now.items) 1 (formula_tree c.args.f.now) es i x a c.loop-entry-test.true c.entry-item.is c.first.ensures inv.told.spends c.requires.room),
          ),
        ),
      ),
    )

pub true_at_those-loop-entry-preserved : goal.true_at_those-loop-entry-preserved
true_at_those-loop-entry-preserved t c =
    let p = c.args.problem.now in
    let env = reverse c.args.env.now.items in
    let o = c.args.connective in
    let f = formula_tree c.args.f.now in
    let inv = c.loop-entry.invariant in
    let x = c.entry-item.result in
    let i = c.loop-entry.entry-index in
    let es = c.args.entries.now in
    let old = c.args.circuit.now in
    let a = c.first.result in
    let l = c.loop-entry-test.true in
    let is = c.entry-item.is in
    let begins = c.first.ensures in
    let told = subst (λ vs. IsTold c.loop-entry.circuit c.true_at.new.circuit p (a ∷ reverse vs) f c.in_ok-body.body) inv.env c.in_ok-body.ensures.told in
    let single : length x.tuple ≡ 1 = subst (λ (y : Entry). length y.tuple ≡ 1) (sym is) (c.requires.single i x l) in
    let known : x.node < length old.shapes = subst (λ (y : Entry). y.node < length old.shapes) (sym is) (c.requires.nodes i x l) in
    let says = guarded_turn old p env f es i x a l is begins single inv.told.spends.extends known told o inv.told.says c.in_ok-so_far-2.ensures.says in
    record {
      env = c.in_ok-body.ensures.env ∙ inv.env;
      told = turn_tells p env 1 f es i x a l is begins inv.told.spends told (λ s. HoldsOf o (IsGuarded o old s p env f) (take (i + 1) es)) (omega arith) c.guarded_also.ensures.extends (omega (arith, c.guarded_also.ensures.size)) says;
    }

pub true_at_those-returns-clause-told : goal.true_at_those-returns-clause-told
true_at_those-returns-clause-told t c =
    let p = c.args.problem.now in
    let env = reverse c.args.env.now.items in
    let o = c.args.connective in
    let f = formula_tree c.args.f.now in
    let es = c.args.entries.now in
    let i = c.loop-entry.entry-index in
    let old = c.args.circuit.now in
    rows_tell p env 1 f es i (λ s. HoldsOf o (IsGuarded o old s p env f) (take i es)) (λ s. HoldsOf o (IsGuarded o old s p env f) es) c.loop-entry-test.false
    (λ s. let all = take_all i es c.loop-entry-test.false in (λ h. subst (HoldsOf o (IsGuarded o old s p env f)) all h, λ h. subst (HoldsOf o (IsGuarded o old s p env f)) (sym all) h)) c.loop-entry.invariant.told

pub true_for_at_most_one-loop-entry-init : goal.true_for_at_most_one-loop-entry-init
true_for_at_most_one-loop-entry-init t c =
    let p = c.args.problem.now in
    let env = reverse c.args.env.now.items in
    let f = formula_tree c.args.f.now in
    let es = c.args.entries.now in
    let old = c.args.circuit.now in
    record {
      env = refl;
      told = rows_start p env 2 f es (λ s. AllPairs (AreNotBothMet old s p env f) (take 0 es)) (Extends-trans old c.constant.new.circuit c.constant-2.new.circuit c.constant.ensures.extends c.constant-2.ensures.extends) (omega (arith, c.constant.ensures.size, c.constant-2.ensures.size))
          (says_same (λ s. two_start (IsMet old s p env f) es) c.in_ok-lone.ensures.says) c.in_ok-lone.ensures.constant;
      found = says_later c.constant-2.ensures.extends (says_same (λ s. junction_start (IsMet old s p env f) connective.Or es) c.in_ok-found.ensures.says);
    }

pub true_for_at_most_one-true_at-requires : goal.true_for_at_most_one-true_at-requires
true_for_at_most_one-true_at-requires t c =
    let p = c.args.problem.now in
    let inv = c.loop-entry.invariant in
    let x = c.entry-item.result in
    let i = c.loop-entry.entry-index in
    let es = c.args.entries.now in
    let a = c.first.result in (
      search (rules, the_lemmas),
      (
        subst (ReadyAt c.loop-entry.circuit p c.args.tables.now.always c.args.tables.now.relations.items c.args.tables.now.universe) (sym inv.env) (ready_kept inv.told.spends.extends c.requires.ready),
        (
          subst (λ (vs : List Atom). IsProper (arities_of p) (length vs + 1) (formula_tree c.args.f.now)) (sym inv.env) c.requires.proper,
          (
            first_atom p es i x a c.loop-entry-test.true c.entry-item.is c.first.ensures c.requires.atoms,
            subst (λ vs. HasRoomFor (size c.loop-entry.circuit) (FormulaTermsOf p (a ∷ reverse vs) (formula_tree c.args.f.now))) (sym inv.env)
                (body_room p (reverse c.args.env.now.items) 2 (formula_tree c.args.f.now) es i x a c.loop-entry-test.true c.entry-item.is c.first.ensures inv.told.spends c.requires.room),
          ),
        ),
      ),
    )

pub true_for_at_most_one-loop-entry-preserved : goal.true_for_at_most_one-loop-entry-preserved
true_for_at_most_one-loop-entry-preserved t c =
    let p = c.args.problem.now in
    let env = reverse c.args.env.now.items in
    let f = formula_tree c.args.f.now in
    let inv = c.loop-entry.invariant in
    let x = c.entry-item.result in
    let i = c.loop-entry.entry-index in
    let es = c.args.entries.now in
    let old = c.args.circuit.now in
    let a = c.first.result in
    let l = c.loop-entry-test.true in
    let is = c.entry-item.is in
    let begins = c.first.ensures in
    let told = subst (λ vs. IsTold c.loop-entry.circuit c.true_at.new.circuit p (a ∷ reverse vs) f c.in_ok-body.body) inv.env c.in_ok-body.ensures.told in
    let single : length x.tuple ≡ 1 = subst (λ (y : Entry). length y.tuple ≡ 1) (sym is) (c.requires.single i x l) in
    let known : x.node < length old.shapes = subst (λ (y : Entry). y.node < length old.shapes) (sym is) (c.requires.nodes i x l) in
    let mid = c.true_at.new.circuit in
    let now = c.lone_still.new.circuit in
    let end = c.met_also.new.circuit in
    let lone = lone_turn old p env f es i x a l is begins single inv.told.spends.extends known told inv.found inv.told.says c.in_ok-lone-2.ensures.says in
    record {
      env = c.in_ok-body.ensures.env ∙ inv.env;
      told = turn_tells p env 2 f es i x a l is begins inv.told.spends told (λ s. AllPairs (AreNotBothMet old s p env f) (take (i + 1) es)) (omega arith) (Extends-trans mid now end c.lone_still.ensures.extends c.met_also.ensures.extends) (omega (arith, c.lone_still.ensures.size, c.met_also.ensures.size)) (says_later c.met_also.ensures.extends lone);
      found = found_turn old p env f es i x a l is begins single inv.told.spends.extends known told c.lone_still.ensures.extends inv.found c.in_ok-found-2.ensures.says;
    }

pub true_for_at_most_one-returns-clause-told : goal.true_for_at_most_one-returns-clause-told
true_for_at_most_one-returns-clause-told t c =
    let p = c.args.problem.now in
    let env = reverse c.args.env.now.items in
    let f = formula_tree c.args.f.now in
    let es = c.args.entries.now in
    let i = c.loop-entry.entry-index in
    let old = c.args.circuit.now in
    rows_tell p env 2 f es i (λ s. AllPairs (AreNotBothMet old s p env f) (take i es)) (λ s. AllPairs (AreNotBothMet old s p env f) es) c.loop-entry-test.false
    (λ s. let all = take_all i es c.loop-entry-test.false in (λ h. subst (AllPairs (AreNotBothMet old s p env f)) all h, λ h. subst (AllPairs (AreNotBothMet old s p env f)) (sym all) h)) c.loop-entry.invariant.told

pub truth-true_of-requires : goal.truth-true_of-requires
truth-true_of-requires t c =
    let p = c.args.problem.now in
    let env = c.args.env.now.items in
    let ns = arities_of p in
    let d = length env in
    let proper = (IsProper-Junction ns d c.in-Junction.connective c.in-Junction.parts).0 (subst (ProperAt p env) c.in-Junction.is c.requires.proper) in
    let room = subst (λ (g : FormulaTree). HasRoomFor (size c.args.circuit.now) (FormulaTermsOf p (reverse env) g)) (Junction-tree c.in-Junction.connective c.in-Junction.parts) (subst (RoomAt c.args.circuit.now p env) c.in-Junction.is c.requires.room) in (
      search (rules, the_lemmas),
      (
        c.requires.ready,
        (
          subst (All (λ (f : Formula). IsProper ns d (formula_tree f))) (sym c.deref-in-Junction.ensures.value) proper,
          subst (λ (fs : List Formula). HasRoomFor (size c.args.circuit.now) (Is 1 ⊕ FormulasHave (upper_structure p) (reverse env) (formulas_of (map formula_tree fs)))) (sym c.deref-in-Junction.ensures.value) room,
        ),
      ),
    )

pub truth-returns-in_ok-true_of-in-Junction-clause-told : goal.truth-returns-in_ok-true_of-in-Junction-clause-told
truth-returns-in_ok-true_of-in-Junction-clause-told t c =
    let p = c.args.problem.now in
    let env = c.args.env.now.items in
    let start = c.args.circuit.now in
    let o = c.in-Junction.connective in
    let new = c.true_of.new.circuit in
    let node = c.in_ok-true_of-in-Junction.field-0 in
    let parts = subst (λ (fs : List Formula). Tells start new node (λ s. HoldsOf o (λ (f : Formula). Truth (structure_at p s) (reverse env) (formula_tree f)) fs) (Is 1 ⊕ FormulasHave (upper_structure p) (reverse env) (formulas_of (map formula_tree fs))))
    c.deref-in-Junction.ensures.value c.in_ok-true_of-in-Junction.ensures.told in
    subst (ToldAt start new p env node) (sym c.in-Junction.is)
    (tells_same (λ s. Truth (structure_at p s) (reverse env) (formula_tree (Junction o c.in-Junction.parts))) (FormulaTermsOf p (reverse env) (formula_tree (Junction o c.in-Junction.parts)))
    (λ s. let same = Truth-Junction (structure_at p s) (reverse env) o c.in-Junction.parts in (same.1, same.0))
    (λ n h. subst (λ (g : FormulaTree). FormulaTermsOf p (reverse env) g n) (Junction-tree o c.in-Junction.parts) h) parts)

pub truth-true_for-requires : goal.truth-true_for-requires
truth-true_for-requires t c =
    let p = c.args.problem.now in
    let env = c.args.env.now.items in
    let start = c.args.circuit.now in
    let more = each_terms c.in-Quantified.quantifier in
    let mid = c.matrix.new.circuit in
    let formed = subst (ProperAt p env) c.in-Quantified.is c.requires.proper in
    let room = subst (RoomAt start p env) c.in-Quantified.is c.requires.room in
    let domain = subst (λ es. IsMade start mid p (reverse es) (expression_tree c.in-Quantified.e) c.in_ok-domain-in-Quantified.domain) c.as_slice-in-Quantified.ensures.value c.in_ok-domain-in-Quantified.ensures in
    let entries = sym c.entries.ensures.value in
    let f = formula_tree c.deref-in-Quantified.result.now in
    let back = sym c.deref-in-Quantified.ensures in (
      search (rules, the_lemmas),
      (
        ready_kept domain.spends.extends c.requires.ready,
        (
          subst (λ (g : Formula). IsProper (arities_of p) (length env + 1) (formula_tree g)) back formed.2,
          (
            subst (All (λ (x : Entry). length x.tuple ≡ 1)) entries (domain_single p (reverse env) domain formed.1),
            (
              subst (All (λ (x : Entry). x.node < length mid.shapes)) entries domain.is.is.of,
              (
                subst (All (λ (x : Entry). All (IsAtomOf p) x.tuple)) entries (domain_atoms p (reverse env) domain formed.1 c.requires.ready.atoms),
                subst (λ (g : Formula). HasRoomFor (size mid) (RowsHave (upper_structure p) (reverse env) more (formula_tree g) (map (λ (x : Entry). x.tuple) c.entries.result.now))) back
                    (subst (λ (xs : List Entry). HasRoomFor (size mid) (RowsHave (upper_structure p) (reverse env) more (formula_tree c.in-Quantified.g.value) (map (λ (x : Entry). x.tuple) xs))) entries
                    (domain_room p (reverse env) domain formed.1 more (formula_tree c.in-Quantified.g.value) room)),
              ),
            ),
          ),
        ),
      ),
    )

pub truth-returns-in_ok-true_for-in-Quantified-clause-told : goal.truth-returns-in_ok-true_for-in-Quantified-clause-told
truth-returns-in_ok-true_for-in-Quantified-clause-told t c =
    let p = c.args.problem.now in
    let env = c.args.env.now.items in
    let start = c.args.circuit.now in
    let q = c.in-Quantified.quantifier in
    let mid = c.matrix.new.circuit in
    let new = c.true_for.new.circuit in
    let node = c.in_ok-true_for-in-Quantified.field-0 in
    let formed = subst (ProperAt p env) c.in-Quantified.is c.requires.proper in
    let domain = subst (λ es. IsMade start mid p (reverse es) (expression_tree c.in-Quantified.e) c.in_ok-domain-in-Quantified.domain) c.as_slice-in-Quantified.ensures.value c.in_ok-domain-in-Quantified.ensures in
    let told = subst (λ (g : Formula). Tells mid new node (λ s. IsGrounded q mid s p (reverse env) (formula_tree g) c.entries.result.now) (RowsHave (upper_structure p) (reverse env) (each_terms q) (formula_tree g) (map (λ (x : Entry). x.tuple) c.entries.result.now)))
    c.deref-in-Quantified.ensures c.in_ok-true_for-in-Quantified.ensures.told in
    let rows = subst (λ (xs : List Entry). Tells mid new node (λ s. IsGrounded q mid s p (reverse env) (formula_tree c.in-Quantified.g.value) xs) (RowsHave (upper_structure p) (reverse env) (each_terms q) (formula_tree c.in-Quantified.g.value) (map (λ (x : Entry). x.tuple) xs)))
    c.entries.ensures.value told in
    subst (ToldAt start new p env node) (sym c.in-Quantified.is) (quantified_told p (reverse env) domain formed.1 q (formula_tree c.in-Quantified.g.value) rows)

pub truth-truth-requires : goal.truth-truth-requires
truth-truth-requires t c =
    let p = c.args.problem.now in
    let env = c.args.env.now.items in
    let start = c.args.circuit.now in
    let proper = subst (ProperAt p env) c.in-Not.is c.requires.proper in
    let room = room_second (size start) (Is 1) (FormulaTermsOf p (reverse env) (formula_tree c.in-Not.g.value)) (subst (RoomAt start p env) c.in-Not.is c.requires.room) in
    let inner = sym c.deref.ensures in
    (search (rules, the_lemmas), (c.requires.ready, (subst (ProperAt p env) inner proper, subst (RoomAt start p env) inner room)))

pub truth-neither-requires-clause-room : goal.truth-neither-requires-clause-room
truth-neither-requires-clause-room t c =
    let p = c.args.problem.now in
    let env = c.args.env.now.items in
    let start = c.args.circuit.now in
    let told = subst (ToldAt start c.truth.new.circuit p env c.in_ok-inner-in-Not.inner) c.deref.ensures c.in_ok-inner-in-Not.ensures.told in
    negation_room p (reverse env) (formula_tree c.in-Not.g.value) told (subst (RoomAt start p env) c.in-Not.is c.requires.room)

pub truth-returns-in_ok-neither-in-Not-clause-told : goal.truth-returns-in_ok-neither-in-Not-clause-told
truth-returns-in_ok-neither-in-Not-clause-told t c =
    let p = c.args.problem.now in
    let env = c.args.env.now.items in
    let start = c.args.circuit.now in
    let told = subst (ToldAt start c.truth.new.circuit p env c.in_ok-inner-in-Not.inner) c.deref.ensures c.in_ok-inner-in-Not.ensures.told in
    subst (ToldAt start c.neither.new.circuit p env c.in_ok-neither-in-Not.field-0) (sym c.in-Not.is)
    (negation_told p (reverse env) (formula_tree c.in-Not.g.value) told c.neither.ensures.extends c.in_ok-neither-in-Not.ensures.says c.neither.ensures.size)

pub true_of-connected-requires-clause-room : goal.true_of-connected-requires-clause-room
true_of-connected-requires-clause-room t c =
    let p = c.args.problem.now in
    let inv = c.loop-part.invariant in
    let x = c.part-item.result in
    let told = subst (λ es. ToldAt c.loop-part.circuit c.truth.new.circuit p es c.in_ok-node.node x) inv.env c.in_ok-node.ensures.told in
    next_gate p (reverse c.args.env.now.items) c.args.parts.now c.loop-part.part-index x c.loop-part-test.true c.part-item.is inv.spends told c.requires.room

pub true_at_those-guarded_also-requires-clause-guard : goal.true_at_those-guarded_also-requires-clause-guard
true_at_those-guarded_also-requires-clause-guard t c =
    guard_there c.args.entries.now c.loop-entry.entry-index c.entry-item.result c.loop-entry.invariant.told.spends.extends c.in_ok-body.ensures.told.spends.extends c.requires.nodes c.loop-entry-test.true c.entry-item.is

pub true_at_those-guarded_also-requires-clause-room : goal.true_at_those-guarded_also-requires-clause-room
true_at_those-guarded_also-requires-clause-room t c =
    let p = c.args.problem.now in
    let env = reverse c.args.env.now.items in
    let f = formula_tree c.args.f.now in
    let inv = c.loop-entry.invariant in
    let x = c.entry-item.result in
    let i = c.loop-entry.entry-index in
    let es = c.args.entries.now in
    let a = c.first.result in
    let l = c.loop-entry-test.true in
    let told = subst (λ vs. IsTold c.loop-entry.circuit c.true_at.new.circuit p (a ∷ reverse vs) f c.in_ok-body.body) inv.env c.in_ok-body.ensures.told in
    omega (arith, gates_room p env 1 f es i x a l c.entry-item.is c.first.ensures inv.told.spends told (omega arith) c.requires.room)

pub true_for_at_most_one-lone_still-requires-clause-guard : goal.true_for_at_most_one-lone_still-requires-clause-guard
true_for_at_most_one-lone_still-requires-clause-guard t c =
    guard_there c.args.entries.now c.loop-entry.entry-index c.entry-item.result c.loop-entry.invariant.told.spends.extends c.in_ok-body.ensures.told.spends.extends c.requires.nodes c.loop-entry-test.true c.entry-item.is

pub true_for_at_most_one-lone_still-requires-clause-room : goal.true_for_at_most_one-lone_still-requires-clause-room
true_for_at_most_one-lone_still-requires-clause-room t c =
    let p = c.args.problem.now in
    let env = reverse c.args.env.now.items in
    let f = formula_tree c.args.f.now in
    let inv = c.loop-entry.invariant in
    let x = c.entry-item.result in
    let i = c.loop-entry.entry-index in
    let es = c.args.entries.now in
    let a = c.first.result in
    let l = c.loop-entry-test.true in
    let told = subst (λ vs. IsTold c.loop-entry.circuit c.true_at.new.circuit p (a ∷ reverse vs) f c.in_ok-body.body) inv.env c.in_ok-body.ensures.told in
    omega (arith, gates_room p env 2 f es i x a l c.entry-item.is c.first.ensures inv.told.spends told (omega arith) c.requires.room)

pub true_for_at_most_one-met_also-requires-clause-room : goal.true_for_at_most_one-met_also-requires-clause-room
true_for_at_most_one-met_also-requires-clause-room t c =
    let p = c.args.problem.now in
    let env = reverse c.args.env.now.items in
    let f = formula_tree c.args.f.now in
    let inv = c.loop-entry.invariant in
    let x = c.entry-item.result in
    let i = c.loop-entry.entry-index in
    let es = c.args.entries.now in
    let a = c.first.result in
    let l = c.loop-entry-test.true in
    let told = subst (λ vs. IsTold c.loop-entry.circuit c.true_at.new.circuit p (a ∷ reverse vs) f c.in_ok-body.body) inv.env c.in_ok-body.ensures.told in
    omega (arith, gates_room p env 2 f es i x a l c.entry-item.is c.first.ensures inv.told.spends told (omega arith) c.requires.room, c.lone_still.ensures.size)

pub truth-is_compared-requires-clause-room : goal.truth-is_compared-requires-clause-room
truth-is_compared-requires-clause-room t c =
    let p = c.args.problem.now in
    let start = c.args.circuit.now in
    let f = compared c.in-Compared.comparison (expression_tree c.in-Compared.a) (expression_tree c.in-Compared.b) in
    subst (λ (es : List Atom). HasRoomFor (size start) (FormulaTermsOf p (reverse es) f)) (sym c.as_slice.ensures.value) (subst (RoomAt start p c.args.env.now.items) c.in-Compared.is c.requires.room)

pub truth-has_at_least-requires-clause-room : goal.truth-has_at_least-requires-clause-room
truth-has_at_least-requires-clause-room t c =
    let p = c.args.problem.now in
    let start = c.args.circuit.now in
    let f = at_least c.in-AtLeast.n (expression_tree c.in-AtLeast.e) in
    subst (λ (es : List Atom). HasRoomFor (size start) (FormulaTermsOf p (reverse es) f)) (sym c.as_slice-in-AtLeast.ensures.value) (subst (RoomAt start p c.args.env.now.items) c.in-AtLeast.is c.requires.room)

pub true_at-truth-requires : goal.true_at-truth-requires
true_at-truth-requires t c =
    let p = c.args.problem.now in
    let start = c.args.circuit.now in
    let env = c.args.env.now.items in
    let a = c.args.atom in
    let tables = c.args.tables.now in
    let f = formula_tree c.args.f.now in
    let now = c.push.new.self.items in
    let turned : reverse now ≡ a ∷ reverse env = ap reverse c.in_ok-push.ensures.items ∙ reverse-append env (a ∷ []) in
    let long : length env + 1 ≡ length now = sym (ap length c.in_ok-push.ensures.items ∙ length_push env a) in (
      search (rules, the_lemmas),
      (
        subst (IsReady start p tables.always tables.relations.items tables.universe) (sym turned) (ready_more a c.requires.atom c.requires.ready),
        (
          subst (λ (n : ℕ). IsProper (arities_of p) n f) long c.requires.proper,
          subst (λ (es : List Atom). HasRoomFor (size start) (FormulaTermsOf p es f)) (sym turned) c.requires.room,
        ),
      ),
    )

pub truth-is_compared-requires-clause-ready : goal.truth-is_compared-requires-clause-ready
truth-is_compared-requires-clause-ready t c = subst (ReadyAt c.args.circuit.now c.args.problem.now c.args.tables.now.always c.args.tables.now.relations.items c.args.tables.now.universe) (sym c.as_slice.ensures.value) c.requires.ready

pub truth-is_compared-requires-clause-left : goal.truth-is_compared-requires-clause-left
truth-is_compared-requires-clause-left t c =
    let p = c.args.problem.now in
    let proper = subst (ProperAt p c.args.env.now.items) c.in-Compared.is c.requires.proper in
    subst (λ (es : List Atom). IsWellFormed (arities_of p) (length es) (expression_tree c.in-Compared.a)) (sym c.as_slice.ensures.value) proper.0

pub truth-is_compared-requires-clause-right : goal.truth-is_compared-requires-clause-right
truth-is_compared-requires-clause-right t c =
    let p = c.args.problem.now in
    let proper = subst (ProperAt p c.args.env.now.items) c.in-Compared.is c.requires.proper in
    subst (λ (es : List Atom). IsWellFormed (arities_of p) (length es) (expression_tree c.in-Compared.b)) (sym c.as_slice.ensures.value) proper.1

pub truth-is_compared-requires-clause-arities : goal.truth-is_compared-requires-clause-arities
truth-is_compared-requires-clause-arities t c =
    let proper = subst (ProperAt c.args.problem.now c.args.env.now.items) c.in-Compared.is c.requires.proper in
    proper.2

pub truth-has_at_least-requires-clause-ready : goal.truth-has_at_least-requires-clause-ready
truth-has_at_least-requires-clause-ready t c = subst (ReadyAt c.args.circuit.now c.args.problem.now c.args.tables.now.always c.args.tables.now.relations.items c.args.tables.now.universe) (sym c.as_slice-in-AtLeast.ensures.value) c.requires.ready

pub truth-has_at_least-requires-clause-formed : goal.truth-has_at_least-requires-clause-formed
truth-has_at_least-requires-clause-formed t c =
    let p = c.args.problem.now in
    let proper = subst (ProperAt p c.args.env.now.items) c.in-AtLeast.is c.requires.proper in
    subst (λ (es : List Atom). IsWellFormed (arities_of p) (length es) (expression_tree c.in-AtLeast.e)) (sym c.as_slice-in-AtLeast.ensures.value) proper

pub truth-matrix-requires : goal.truth-matrix-requires
truth-matrix-requires t c =
    let p = c.args.problem.now in
    let env = c.args.env.now.items in
    let start = c.args.circuit.now in
    let e = expression_tree c.in-Quantified.e in
    let same = sym c.as_slice-in-Quantified.ensures.value in
    let formed = subst (ProperAt p env) c.in-Quantified.is c.requires.proper in
    let room = subst (RoomAt start p env) c.in-Quantified.is c.requires.room in
    record {
      ready = subst (ReadyAt start p c.args.tables.now.always c.args.tables.now.relations.items c.args.tables.now.universe) same c.requires.ready;
      formed = subst (λ (es : List Atom). IsWellFormed (arities_of p) (length es) e) same formed.0;
      room = subst (λ (es : List Atom). HasRoomFor (size start) (TermsOf p (reverse es) e)) same (domain_first p (reverse env) e c.in-Quantified.quantifier (formula_tree c.in-Quantified.g.value) (size start) room);
    }

pub truth-neither-requires-clause-operand : goal.truth-neither-requires-clause-operand
truth-neither-requires-clause-operand t c = c.in_ok-inner-in-Not.ensures.told.says.there

pub truth-returns-in_ok-is_compared-in-Compared : goal.truth-returns-in_ok-is_compared-in-Compared
truth-returns-in_ok-is_compared-in-Compared t c =
    let p = c.args.problem.now in
    let start = c.args.circuit.now in
    let new = c.is_compared.new.circuit in
    let node = c.in_ok-is_compared-in-Compared.field-0 in
    let f = compared c.in-Compared.comparison (expression_tree c.in-Compared.a) (expression_tree c.in-Compared.b) in
    record {
      told = subst (ToldAt start new p c.args.env.now.items node) (sym c.in-Compared.is) (subst (λ (es : List Atom). IsTold start new p (reverse es) f node) c.as_slice.ensures.value c.in_ok-is_compared-in-Compared.ensures);
      env = refl;
    }

pub truth-returns-in_ok-has_at_least-in-AtLeast : goal.truth-returns-in_ok-has_at_least-in-AtLeast
truth-returns-in_ok-has_at_least-in-AtLeast t c =
    let p = c.args.problem.now in
    let start = c.args.circuit.now in
    let new = c.has_at_least.new.circuit in
    let node = c.in_ok-has_at_least-in-AtLeast.field-0 in
    let f = at_least c.in-AtLeast.n (expression_tree c.in-AtLeast.e) in
    record {
      told = subst (ToldAt start new p c.args.env.now.items node) (sym c.in-AtLeast.is) (subst (λ (es : List Atom). IsTold start new p (reverse es) f node) c.as_slice-in-AtLeast.ensures.value c.in_ok-has_at_least-in-AtLeast.ensures);
      env = refl;
    }

pub truth-returns-in_ok-neither-in-Not-clause-env : goal.truth-returns-in_ok-neither-in-Not-clause-env
truth-returns-in_ok-neither-in-Not-clause-env t c = c.in_ok-inner-in-Not.ensures.env

pub truth-returns-in_ok-true_of-in-Junction-clause-env : goal.truth-returns-in_ok-true_of-in-Junction-clause-env
truth-returns-in_ok-true_of-in-Junction-clause-env t c = c.in_ok-true_of-in-Junction.ensures.env

pub truth-returns-in_ok-true_for-in-Quantified-clause-env : goal.truth-returns-in_ok-true_for-in-Quantified-clause-env
truth-returns-in_ok-true_for-in-Quantified-clause-env t c = c.in_ok-true_for-in-Quantified.ensures.env

pub true_of-constant-requires : goal.true_of-constant-requires
true_of-constant-requires t c = record { room = room_now (size c.args.circuit.now) c.requires.room.0 c.requires.room.2 }

pub true_of-connected-requires-clause-first : goal.true_of-connected-requires-clause-first
true_of-connected-requires-clause-first t c = there_later c.loop-part.circuit c.truth.new.circuit c.loop-part.so_far c.in_ok-node.ensures.told.spends.extends c.loop-part.invariant.says.there

pub true_of-connected-requires-clause-second : goal.true_of-connected-requires-clause-second
true_of-connected-requires-clause-second t c = c.in_ok-node.ensures.told.says.there

pub true_of-returns-clause-env : goal.true_of-returns-clause-env
true_of-returns-clause-env t c = c.loop-part.invariant.env

pub true_for-true_at_those-requires : goal.true_for-true_at_those-requires
true_for-true_at_those-requires t c =
    let room = subst (RowsRoomAt c.args.circuit.now c.args.problem.now (reverse c.args.env.now.items) (formula_tree c.args.f.now) c.args.entries.now) c.in-All.is c.requires.room in
    (search (rules, the_lemmas), (c.requires.ready, (c.requires.proper, (c.requires.single, (c.requires.nodes, (c.requires.atoms, room))))))

pub true_for-true_at_those-requires-in-Exists : goal.true_for-true_at_those-requires-in-Exists
true_for-true_at_those-requires-in-Exists t c =
    let room = subst (RowsRoomAt c.args.circuit.now c.args.problem.now (reverse c.args.env.now.items) (formula_tree c.args.f.now) c.args.entries.now) c.in-Exists.is c.requires.room in
    (search (rules, the_lemmas), (c.requires.ready, (c.requires.proper, (c.requires.single, (c.requires.nodes, (c.requires.atoms, room))))))

pub true_for-true_for_at_most_one-requires : goal.true_for-true_for_at_most_one-requires
true_for-true_for_at_most_one-requires t c =
    let room = subst (RowsRoomAt c.args.circuit.now c.args.problem.now (reverse c.args.env.now.items) (formula_tree c.args.f.now) c.args.entries.now) c.in-Lone.is c.requires.room in
    (search (rules, the_lemmas), (c.requires.ready, (c.requires.proper, (c.requires.single, (c.requires.nodes, (c.requires.atoms, room))))))

pub true_for-returns-in_ok-true_at_those-in-All : goal.true_for-returns-in_ok-true_at_those-in-All
true_for-returns-in_ok-true_at_those-in-All t c = record {
  told = subst (GroundedAt c.args.circuit.now c.true_at_those.new.circuit c.in_ok-true_at_those-in-All.field-0 c.args.problem.now (reverse c.args.env.now.items) (formula_tree c.args.f.now) c.args.entries.now) (sym c.in-All.is) c.in_ok-true_at_those-in-All.ensures.told;
  env = c.in_ok-true_at_those-in-All.ensures.env;
}

pub true_for-returns-in_ok-true_at_those-in-Exists : goal.true_for-returns-in_ok-true_at_those-in-Exists
true_for-returns-in_ok-true_at_those-in-Exists t c = record {
  told = subst (GroundedAt c.args.circuit.now c.true_at_those-in-Exists.new.circuit c.in_ok-true_at_those-in-Exists.field-0 c.args.problem.now (reverse c.args.env.now.items) (formula_tree c.args.f.now) c.args.entries.now) (sym c.in-Exists.is) c.in_ok-true_at_those-in-Exists.ensures.told;
  env = c.in_ok-true_at_those-in-Exists.ensures.env;
}

pub true_for-returns-in_ok-true_for_at_most_one-in-Lone : goal.true_for-returns-in_ok-true_for_at_most_one-in-Lone
true_for-returns-in_ok-true_for_at_most_one-in-Lone t c = record {
  told = subst (GroundedAt c.args.circuit.now c.true_for_at_most_one.new.circuit c.in_ok-true_for_at_most_one-in-Lone.field-0 c.args.problem.now (reverse c.args.env.now.items) (formula_tree c.args.f.now) c.args.entries.now) (sym c.in-Lone.is) c.in_ok-true_for_at_most_one-in-Lone.ensures.told;
  env = c.in_ok-true_for_at_most_one-in-Lone.ensures.env;
}

pub true_at_those-constant-requires : goal.true_at_those-constant-requires
true_at_those-constant-requires t c = record { room = room_now (size c.args.circuit.now) c.requires.room.0 c.requires.room.2 }

pub true_at_those-guarded_also-requires-clause-so_far : goal.true_at_those-guarded_also-requires-clause-so_far
true_at_those-guarded_also-requires-clause-so_far t c = there_later c.loop-entry.circuit c.true_at.new.circuit c.loop-entry.so_far c.in_ok-body.ensures.told.spends.extends c.loop-entry.invariant.told.says.there

pub true_at_those-guarded_also-requires-clause-body : goal.true_at_those-guarded_also-requires-clause-body
true_at_those-guarded_also-requires-clause-body t c = c.in_ok-body.ensures.told.says.there

pub true_at_those-returns-clause-env : goal.true_at_those-returns-clause-env
true_at_those-returns-clause-env t c = c.loop-entry.invariant.env

pub true_for_at_most_one-constant-requires : goal.true_for_at_most_one-constant-requires
true_for_at_most_one-constant-requires t c = record { room = room_now (size c.args.circuit.now) c.requires.room.0 c.requires.room.2 }

pub true_for_at_most_one-constant-requires-2 : goal.true_for_at_most_one-constant-requires-2
true_for_at_most_one-constant-requires-2 t c = record { room = room_before (size c.args.circuit.now) (size c.constant.new.circuit) c.requires.room.0 c.constant.ensures.size c.requires.room.2 }

pub true_for_at_most_one-lone_still-requires-clause-lone : goal.true_for_at_most_one-lone_still-requires-clause-lone
true_for_at_most_one-lone_still-requires-clause-lone t c = there_later c.loop-entry.circuit c.true_at.new.circuit c.loop-entry.lone c.in_ok-body.ensures.told.spends.extends c.loop-entry.invariant.told.says.there

pub true_for_at_most_one-lone_still-requires-clause-found : goal.true_for_at_most_one-lone_still-requires-clause-found
true_for_at_most_one-lone_still-requires-clause-found t c = there_later c.loop-entry.circuit c.true_at.new.circuit c.loop-entry.found c.in_ok-body.ensures.told.spends.extends c.loop-entry.invariant.found.there

pub true_for_at_most_one-lone_still-requires-clause-body : goal.true_for_at_most_one-lone_still-requires-clause-body
true_for_at_most_one-lone_still-requires-clause-body t c = c.in_ok-body.ensures.told.says.there

pub true_for_at_most_one-met_also-requires-clause-any : goal.true_for_at_most_one-met_also-requires-clause-any
true_for_at_most_one-met_also-requires-clause-any t c = there_later c.true_at.new.circuit c.lone_still.new.circuit c.loop-entry.found c.lone_still.ensures.extends (there_later c.loop-entry.circuit c.true_at.new.circuit c.loop-entry.found c.in_ok-body.ensures.told.spends.extends c.loop-entry.invariant.found.there)

pub true_for_at_most_one-met_also-requires-clause-guard : goal.true_for_at_most_one-met_also-requires-clause-guard
true_for_at_most_one-met_also-requires-clause-guard t c =
    there_later c.true_at.new.circuit c.lone_still.new.circuit c.entry-item.result.node c.lone_still.ensures.extends
    (guard_there c.args.entries.now c.loop-entry.entry-index c.entry-item.result c.loop-entry.invariant.told.spends.extends c.in_ok-body.ensures.told.spends.extends c.requires.nodes c.loop-entry-test.true c.entry-item.is)

pub true_for_at_most_one-met_also-requires-clause-body : goal.true_for_at_most_one-met_also-requires-clause-body
true_for_at_most_one-met_also-requires-clause-body t c = there_later c.true_at.new.circuit c.lone_still.new.circuit c.in_ok-body.body c.lone_still.ensures.extends c.in_ok-body.ensures.told.says.there

pub true_for_at_most_one-returns-clause-env : goal.true_for_at_most_one-returns-clause-env
true_for_at_most_one-returns-clause-env t c = c.loop-entry.invariant.env

pub true_at-returns-clause-told : goal.true_at-returns-clause-told
true_at-returns-clause-told t c =
    let start = c.args.circuit.now in
    let new = c.truth.new.circuit in
    let env = c.args.env.now.items in
    let a = c.args.atom in
    let turned : reverse c.push.new.self.items ≡ a ∷ reverse env = ap reverse c.in_ok-push.ensures.items ∙ reverse-append env (a ∷ []) in
    subst (λ (es : List Atom). IsTold start new c.args.problem.now es (formula_tree c.args.f.now) c.in_ok-node.node) turned c.in_ok-node.ensures.told
