-- No two faults are both the first one.
use Rattle.std.proofs.Common.{◌≡◌, ◌⊎◌, inl, inr, ℕ, ◌<◌, ◌≤◌, List, length, Option, Some, None, Result, Ok, Err, refl, ap, subst, arith}
use Rattle.std.proofs.lemmas.Slice.Zip.{AllZip-long}
use Rattle.named_model.specs.declared.fault.NameFault.{NameFault}
use Rattle.named_model.specs.Model.{CommandTree, NamedTree}
use Rattle.model_sizes.specs.declared.size.Size.{Size}
use Rattle.model_sizes.specs.Sizes.{sizes_in}
use Rattle.rel_formula.specs.Bounds.{Bounded, IsProblem}
use Rattle.lowering_rules.specs.declared.fault.LowerFault.{LowerFault}
use Rattle.lowering_rules.specs.declared.fault.LowerFault.TheVariants as fault
use Rattle.lowering_rules.specs.Relations.{IsOutlined, outlines}
use Rattle.lowering_rules.specs.Problem.{command_at, ProblemOf, HasMoreCells, IsWant, IsRefusal}
use Rattle.lowering_rules.proofs.OneProblem.{same_sizes, sizes_not, few_cells}

some_not : (c : CommandTree) (o : Option CommandTree) → o ≡ None → o ≡ Some c → ⊥
some_not c o e f = absurd cc

same_fault : (f g : NameFault) (r : Result (List Size) NameFault) → r ≡ Err f → r ≡ Err g → f ≡ g
same_fault f g r d e = cc

module _ (m : NamedTree) (n : ℕ) (facts : List ℕ) where
  -- relations too many, and a problem or few relations
  many_few : (a b : List Size) → sizes_in m n ≡ Ok a → sizes_in m n ≡ Ok b → 128 < length (outlines m a) → length (outlines m b) ≤ 128 → ⊥
  many_few a b d e more few =
      let l = subst (λ zs. 128 < length (outlines m zs)) (same_sizes a b (sizes_in m n) d e) more in
      absurd (omega arith)

  few_relations : (p : Bounded) → IsProblem p → (of : ProblemOf m n facts p) → length (outlines m of.sizes) ≤ 128
  few_relations p is of =
      let long = AllZip-long (IsOutlined of.sizes) (outlines m of.sizes) p.relations of.relations in
      let few = is.few in
      omega arith

  no_more : (sizes : List Size) → sizes_in m n ≡ Ok sizes → HasMoreCells sizes (outlines m sizes) 4096 → (p : Bounded) → IsProblem p → ProblemOf m n facts p → ⊥
  no_more sizes e more p is of =
      few_cells m n facts p is of (subst (λ zs. HasMoreCells zs (outlines m zs) 4096) (same_sizes sizes of.sizes (sizes_in m n) e of.commands.sized) more)

  pub first_once : (f g : LowerFault) → IsRefusal m n facts f → IsRefusal m n facts g → (f ≡ g) ⊎ (IsWant f ⊎ IsWant g)
  first_once fault.Memory g h k = inr (inl (inl refl))
  first_once fault.TooLarge g h k = inr (inl (inr refl))
  first_once fault.NoCommand fault.NoCommand h k = inl refl
  first_once fault.NoCommand (fault.Scope y) h k = absurd (some_not k.0 (command_at m n) h k.1)
  first_once fault.NoCommand fault.TooManyRelations h k = absurd (some_not k.0 (command_at m n) h k.2.there)
  first_once fault.NoCommand fault.TooManyCells h k = absurd (some_not k.0 (command_at m n) h k.2.there)
  first_once fault.NoCommand fault.TooManyTerms h k = absurd (some_not k.2.command (command_at m n) h k.2.commands.there)
  first_once fault.NoCommand fault.TooLarge h k = inr (inr (inr refl))
  first_once fault.NoCommand fault.Memory h k = inr (inr (inl refl))
  first_once (fault.Scope x) fault.NoCommand h k = absurd (some_not h.0 (command_at m n) k h.1)
  first_once (fault.Scope x) (fault.Scope y) h k = inl (ap fault.Scope (same_fault x y (sizes_in m n) h.2 k.2))
  first_once (fault.Scope x) fault.TooManyRelations h k = absurd (sizes_not k.1 x (sizes_in m n) k.2.sized h.2)
  first_once (fault.Scope x) fault.TooManyCells h k = absurd (sizes_not k.1 x (sizes_in m n) k.2.sized h.2)
  first_once (fault.Scope x) fault.TooManyTerms h k = absurd (sizes_not k.2.sizes x (sizes_in m n) k.2.commands.sized h.2)
  first_once (fault.Scope x) fault.TooLarge h k = inr (inr (inr refl))
  first_once (fault.Scope x) fault.Memory h k = inr (inr (inl refl))
  first_once fault.TooManyRelations fault.NoCommand h k = absurd (some_not h.0 (command_at m n) k h.2.there)
  first_once fault.TooManyRelations (fault.Scope y) h k = absurd (sizes_not h.1 y (sizes_in m n) h.2.sized k.2)
  first_once fault.TooManyRelations fault.TooManyRelations h k = inl refl
  first_once fault.TooManyRelations fault.TooManyCells h k = absurd (many_few h.1 k.1 h.2.sized k.2.sized h.3 k.3)
  first_once fault.TooManyRelations fault.TooManyTerms h k = absurd (many_few h.1 k.2.sizes h.2.sized k.2.commands.sized h.3 (few_relations k.0 k.1 k.2))
  first_once fault.TooManyRelations fault.TooLarge h k = inr (inr (inr refl))
  first_once fault.TooManyRelations fault.Memory h k = inr (inr (inl refl))
  first_once fault.TooManyCells fault.NoCommand h k = absurd (some_not h.0 (command_at m n) k h.2.there)
  first_once fault.TooManyCells (fault.Scope y) h k = absurd (sizes_not h.1 y (sizes_in m n) h.2.sized k.2)
  first_once fault.TooManyCells fault.TooManyRelations h k = absurd (many_few k.1 h.1 k.2.sized h.2.sized k.3 h.3)
  first_once fault.TooManyCells fault.TooManyCells h k = inl refl
  first_once fault.TooManyCells fault.TooManyTerms h k = absurd (no_more h.1 h.2.sized h.4 k.0 k.1 k.2)
  first_once fault.TooManyCells fault.TooLarge h k = inr (inr (inr refl))
  first_once fault.TooManyCells fault.Memory h k = inr (inr (inl refl))
  first_once fault.TooManyTerms fault.NoCommand h k = absurd (some_not h.2.command (command_at m n) k h.2.commands.there)
  first_once fault.TooManyTerms (fault.Scope y) h k = absurd (sizes_not h.2.sizes y (sizes_in m n) h.2.commands.sized k.2)
  first_once fault.TooManyTerms fault.TooManyRelations h k = absurd (many_few k.1 h.2.sizes k.2.sized h.2.commands.sized k.3 (few_relations h.0 h.1 h.2))
  first_once fault.TooManyTerms fault.TooManyCells h k = absurd (no_more k.1 k.2.sized k.4 h.0 h.1 h.2)
  first_once fault.TooManyTerms fault.TooManyTerms h k = inl refl
  first_once fault.TooManyTerms fault.TooLarge h k = inr (inr (inr refl))
  first_once fault.TooManyTerms fault.Memory h k = inr (inr (inl refl))
