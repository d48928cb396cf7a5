-- What is said of a paragraph's parts is said of the paragraph.
use Rattle.std.proofs.Common.{◌≡◌, ℕ, List, [], ◌∷◌, ◌++◌, length, refl, sym, ap, ◌∙◌, subst}
use Rattle.std.proofs.lemmas.List.{append-nil}
use Rattle.alloy_syntax.specs.declared.tree.Name.{Name}
use Rattle.alloy_syntax.specs.declared.tree.MultiplicityWord.{MultiplicityWord}
use Rattle.alloy_syntax.specs.Tree as tree
use Rattle.alloy_syntax.specs.Tree.{Tree, DeclarationTree, BlockTree, declarations_of, trees_of}
use Rattle.std.specs.Prelude.{Option}
use Rattle.named_model.specs.declared.fault.NameFault.{NameFault}
use Rattle.named_model.specs.Phrase.{PhraseTree, PhraseTrees, DomainTrees}
use Rattle.named_model.specs.Model.{CalleeTree, formulas, value}
use Rattle.named_model.specs.Names.{behind_declarations, resolved, all_resolved, declarations_resolved, faults_of, all_faults, parameter_faults}
use Rattle.named_model.specs.Declarations.{parameters_of, callees_named}
use Rattle.named_model.specs.Faults.{body_faults}
use Rattle.name_tables.specs.InForce.{InForce, with_locals}
use Rattle.name_tables.specs.Told.{IsTold}
use Rattle.name_tables.proofs.Telling.{told_first}

-- all local names are left
pub left_all : (n first last : InForce) (inner : List (List ℕ)) → n.locals ≡ [] → first ≡ with_locals n inner
    → ((more outer : List (List ℕ)) → first.locals ≡ more ++ outer → length outer ≡ 0 → last ≡ with_locals first outer) → last ≡ n
left_all n first last inner global is left =
    left first.locals [] (sym (append-nil first.locals)) refl ∙ ap (λ (m : InForce). with_locals m []) is ∙ ap (with_locals n) (sym global)

module _ (n : InForce) (global : n.locals ≡ []) (ds : List DeclarationTree) where
  abbrev pub AreBehind : InForce → Type 0
  AreBehind first = first ≡ with_locals n (behind_declarations n.locals (declarations_of ds))

  abbrev pub AreParameters : DomainTrees → Type 0
  AreParameters xs = (parameter_faults n.globals n.locals ds ≡ []) × (xs ≡ declarations_resolved n.globals n.locals (declarations_of ds))

  behind_is : (first : InForce) → AreBehind first → first ≡ with_locals n (parameters_of ds)
  behind_is first is = is ∙ ap (λ ls. with_locals n (behind_declarations ls (declarations_of ds))) global

  parameters_are : (xs : DomainTrees) → AreParameters xs → (parameter_faults n.globals [] ds ≡ []) × (xs ≡ declarations_resolved n.globals [] (declarations_of ds))
  parameters_are xs params = subst (λ ls. (parameter_faults n.globals ls ds ≡ []) × (xs ≡ declarations_resolved n.globals ls (declarations_of ds))) global params

  module _ (name : Name) (block : BlockTree) where
    pub predicate_all : (first : InForce) (xs : DomainTrees) (ys : PhraseTrees) → AreBehind first → AreParameters xs
        → (all_faults first.globals first.locals (trees_of block.formulas) ≡ []) × (ys ≡ all_resolved first.globals first.locals (trees_of block.formulas))
        → (body_faults n.globals (tree.predicate name ds block) ≡ []) × (record { place = name.place; parameters = xs; meaning = formulas ys } ∷ [] ≡ callees_named n.globals (tree.predicate name ds block))
    predicate_all first xs ys is params body =
        let ts = trees_of block.formulas in
        let inside = parameters_of ds in
        let p = parameters_are xs params in
        let b = subst (λ (m : InForce). (all_faults m.globals m.locals ts ≡ []) × (ys ≡ all_resolved m.globals m.locals ts)) (behind_is first is) body in (
          ap (λ fs. fs ++ all_faults n.globals inside ts) p.0 ∙ b.0,
          ap (λ (z : DomainTrees). let c : CalleeTree = record { place = name.place; parameters = z; meaning = formulas ys } in c ∷ []) p.1
              ∙ ap (λ (z : PhraseTrees). let c : CalleeTree = record { place = name.place; parameters = declarations_resolved n.globals [] (declarations_of ds); meaning = formulas z } in c ∷ []) b.1,
        )

    pub predicate_told : (e : NameFault) → IsTold e (parameter_faults n.globals n.locals ds) → IsTold e (body_faults n.globals (tree.predicate name ds block))
    predicate_told e told = told_first e (parameter_faults n.globals [] ds) (all_faults n.globals (parameters_of ds) (trees_of block.formulas)) (subst (λ ls. IsTold e (parameter_faults n.globals ls ds)) global told)

    pub predicate_body_told : (e : NameFault) (first : InForce) (xs : DomainTrees) → AreBehind first → AreParameters xs
        → IsTold e (all_faults first.globals first.locals (trees_of block.formulas)) → IsTold e (body_faults n.globals (tree.predicate name ds block))
    predicate_body_told e first xs is params told =
        let ts = trees_of block.formulas in
        subst (IsTold e) (sym (ap (λ fs. fs ++ all_faults n.globals (parameters_of ds) ts) (parameters_are xs params).0))
        (subst (λ (m : InForce). IsTold e (all_faults m.globals m.locals ts)) (behind_is first is) told)

  module _ (name : Name) (mark : Option MultiplicityWord) (range body : Tree) where
    abbrev pub OfRange : List NameFault
    OfRange = faults_of n.globals (parameters_of ds) 0 range

    abbrev pub OfBody : List NameFault
    OfBody = faults_of n.globals (parameters_of ds) 0 body

    abbrev pub IsPart : InForce → Tree → PhraseTree → Type 0
    IsPart m t x = (faults_of m.globals m.locals 0 t ≡ []) × (x ≡ resolved m.globals m.locals t)

    pub function_all : (first : InForce) (xs : DomainTrees) (x y : PhraseTree) → AreBehind first → AreParameters xs → IsPart first range x → IsPart first body y
        → (body_faults n.globals (tree.function name ds mark range body) ≡ []) × (record { place = name.place; parameters = xs; meaning = value x y } ∷ [] ≡ callees_named n.globals (tree.function name ds mark range body))
    function_all first xs x y is params one other =
        let inside = parameters_of ds in
        let p = parameters_are xs params in
        let a = subst (λ (m : InForce). IsPart m range x) (behind_is first is) one in
        let b = subst (λ (m : InForce). IsPart m body y) (behind_is first is) other in (
          ap (λ fs. fs ++ OfRange ++ OfBody) p.0 ∙ ap (λ fs. fs ++ OfBody) a.0 ∙ b.0,
          ap (λ (z : DomainTrees). let c : CalleeTree = record { place = name.place; parameters = z; meaning = value x y } in c ∷ []) p.1
              ∙ ap (λ (z : PhraseTree). let c : CalleeTree = record { place = name.place; parameters = declarations_resolved n.globals [] (declarations_of ds); meaning = value z y } in c ∷ []) a.1
              ∙ ap (λ (z : PhraseTree). let c : CalleeTree = record { place = name.place; parameters = declarations_resolved n.globals [] (declarations_of ds); meaning = value (resolved n.globals inside range) z } in c ∷ []) b.1,
        )

    pub function_told : (e : NameFault) → IsTold e (parameter_faults n.globals n.locals ds) → IsTold e (body_faults n.globals (tree.function name ds mark range body))
    function_told e told = told_first e (parameter_faults n.globals [] ds ++ OfRange) OfBody (told_first e (parameter_faults n.globals [] ds) OfRange (subst (λ ls. IsTold e (parameter_faults n.globals ls ds)) global told))

    pub function_range_told : (e : NameFault) (first : InForce) (xs : DomainTrees) → AreBehind first → AreParameters xs
        → IsTold e (faults_of first.globals first.locals 0 range) → IsTold e (body_faults n.globals (tree.function name ds mark range body))
    function_range_told e first xs is params told =
        subst (IsTold e) (sym (ap (λ fs. fs ++ OfRange ++ OfBody) (parameters_are xs params).0))
        (told_first e OfRange OfBody (subst (λ (m : InForce). IsTold e (faults_of m.globals m.locals 0 range)) (behind_is first is) told))

    pub function_body_told : (e : NameFault) (first : InForce) (xs : DomainTrees) (x : PhraseTree) → AreBehind first → AreParameters xs → IsPart first range x
        → IsTold e (faults_of first.globals first.locals 0 body) → IsTold e (body_faults n.globals (tree.function name ds mark range body))
    function_body_told e first xs x is params one told =
        let a = subst (λ (m : InForce). IsPart m range x) (behind_is first is) one in
        subst (IsTold e) (sym (ap (λ fs. fs ++ OfRange ++ OfBody) (parameters_are xs params).0 ∙ ap (λ fs. fs ++ OfBody) a.0))
        (subst (λ (m : InForce). IsTold e (faults_of m.globals m.locals 0 body)) (behind_is first is) told)
