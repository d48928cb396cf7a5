-- What is wrong with the names of commands.
use Rattle.std.proofs.Common.{◌≡◌, ℕ, ◌+◌, ◌<◌, ◌≤◌, List, [], ◌∷◌, ◌++◌, map, flat_map, length, get_or, drop, true, false, if◌then◌else◌, Option, Some, None, is_some, inl, inr, refl, sym, ap, ◌∙◌}
use Rattle.std.proofs.lemmas.Bool.{cases_Bool}
use Rattle.std.proofs.lemmas.List.Folds.{list_any_at}
use Rattle.std.proofs.lemmas.List.Quantifiers.{position-Some}
use Rattle.std.proofs.lemmas.Iterator.Adapters.{position_from-zero}
use Rattle.std.specs.Str.{bytes_eq}
use Rattle.std.specs.List.{position_from}
use Rattle.alloy_lex.specs.declared.token.Place.{Place}
use Rattle.alloy_syntax.specs.declared.tree.Name.{Name}
use Rattle.alloy_syntax.specs.declared.tree.Number.{Number}
use Rattle.alloy_syntax.specs.declared.tree.CommandKind.{CommandKind}
use Rattle.alloy_syntax.specs.declared.tree.CommandKind.TheVariants.{Run, Check}
use Rattle.alloy_syntax.specs.Tree as tree
use Rattle.alloy_syntax.specs.Tree.{ParagraphTree, BlockTree, ScopeTree}
use Rattle.named_model.specs.declared.fault.NameFault.{NameFault}
use Rattle.named_model.specs.declared.fault.NameFault.TheVariants as fault
use Rattle.named_model.specs.Answers.{first_in}
use Rattle.named_model.specs.Names.{Globals, number_of, is_among}
use Rattle.named_model.specs.Faults.{command_faults}
use Rattle.name_tables.proofs.Reaching.{next_is, none_is}
use Rattle.sig_resolve.specs.Commands.Predicates.{name_faults, check_faults}

-- ---- one command

pub named_faults : (ps : List ParagraphTree) (g : Globals) (kind : CommandKind) (p : Place) (n : Name) (scope : Option ScopeTree) (expected : Option Number)
    → name_faults ps g kind n ≡ command_faults ps g (tree.command kind p (tree.at_name n) scope expected)
named_faults ps g Run p n scope expected = refl
named_faults ps g Check p n scope expected = refl

pub block_faults : (ps : List ParagraphTree) (g : Globals) (kind : CommandKind) (p : Place) (label : Option Name) (b : BlockTree) (scope : Option ScopeTree) (expected : Option Number)
    → None ≡ first_in (command_faults ps g (tree.command kind p (tree.at_block label b) scope expected))
block_faults ps g Run p label b scope expected = refl
block_faults ps g Check p label b scope expected = refl

-- ---- assertions

none_from : (i : ℕ) (names : List (List ℕ)) (t : List ℕ) → position_from (λ name. bytes_eq name t) i names ≡ None → is_among names t ≡ false
none_from i [] t e = refl
none_from i (name ∷ names) t e =
    elim (cases_Bool (bytes_eq name t)) [
      | inl holds ↦ absurd (some_is_none (rw holds at e))
      | inr fails ↦ rw fails (none_from (i + 1) names t (rw fails at e))
    ]
  where
    some_is_none : Some i ≡ None → ⊥
    some_is_none h = absurd cc

pub one_to_check : (g : Globals) (n : Name) (k : ℕ) → number_of g.assertions n.text ≡ Some k → None ≡ first_in (check_faults g n)
one_to_check g n k e =
    let names = g.assertions in
    let at = position-Some (λ s. bytes_eq s n.text) names k [] e in
    let there : is_among names n.text ≡ true = list_any_at (λ s. bytes_eq s n.text) names k [] at.0 at.1 in
    sym (ap (λ b. first_in (if b then [] else fault.Unknown n.place ∷ [])) there)

pub none_to_check : (g : Globals) (n : Name) → number_of g.assertions n.text ≡ None → Some (fault.Unknown n.place) ≡ first_in (check_faults g n)
none_to_check g n e =
    let names = g.assertions in
    sym (ap (λ b. first_in (if b then [] else fault.Unknown n.place ∷ [])) (none_from 0 names n.text (sym (position_from-zero (λ s. bytes_eq s n.text) names) ∙ e)))

-- ---- a loop over commands

first_behind : (fs gs : List NameFault) → first_in fs ≡ None → first_in (fs ++ gs) ≡ first_in gs
first_behind [] gs e = refl
first_behind (f ∷ fs) gs e = absurd (some_is_none e)
  where
    some_is_none : Some f ≡ None → ⊥
    some_is_none h = absurd cc

first_before : (fs gs : List NameFault) (f : NameFault) → first_in fs ≡ Some f → first_in (fs ++ gs) ≡ Some f
first_before [] gs f e = absurd (none_is_some e)
  where
    none_is_some : None ≡ Some f → ⊥
    none_is_some h = absurd cc
first_before (h ∷ fs) gs f e = e

module _ {X Z : Type 0} (v : X → Z) (faults : Z → List NameFault) (all : List X) (i : ℕ) (whole : Option NameFault) (before : first_in (flat_map faults (map v (drop i all))) ≡ whole) where
  here : (x : X) → i < length all → x ≡ get_or all i x → first_in (faults (v x) ++ flat_map faults (map v (drop (i + 1) all))) ≡ whole
  here x l is = sym (ap (λ xs. first_in (flat_map faults (map v xs))) (next_is all i x l is)) ∙ before

  pub first_later : (x : X) → i < length all → x ≡ get_or all i x → (o : Option NameFault) → is_some o ≡ false → o ≡ first_in (faults (v x)) → first_in (flat_map faults (map v (drop (i + 1) all))) ≡ whole
  first_later x l is (Some f) none e = absurd (true_is_false none)
    where
      true_is_false : true ≡ false → ⊥
      true_is_false h = absurd cc
  first_later x l is None none e = sym (first_behind (faults (v x)) (flat_map faults (map v (drop (i + 1) all))) (sym e)) ∙ here x l is

  pub first_here : (x : X) → i < length all → x ≡ get_or all i x → (o : Option NameFault) → is_some o ≡ true → o ≡ first_in (faults (v x)) → o ≡ whole
  first_here x l is (Some f) some e = sym (first_before (faults (v x)) (flat_map faults (map v (drop (i + 1) all))) f (sym e)) ∙ here x l is
  first_here x l is None some e = absurd (false_is_true some)
    where
      false_is_true : false ≡ true → ⊥
      false_is_true h = absurd cc

  pub none_left : length all ≤ i → None ≡ whole
  none_left l = sym (ap (λ xs. first_in (flat_map faults (map v xs))) (none_is all i l)) ∙ before
