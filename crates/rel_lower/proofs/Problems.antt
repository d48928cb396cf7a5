-- What the problem of a command rests on, and why there may be none.
use Rattle.std.proofs.Common.{◌≡◌, ◌≤◌, ◌+◌, ℕ, List, [], ◌∷◌, ◌++◌, map, length, refl, sym, subst, arith}
use Rattle.std.specs.List.{AllZip, range_with_len}
use Rattle.std.proofs.lemmas.List.{length-append}
use Rattle.std.proofs.lemmas.List.FromFn.{length-map-range_with_len}
use Rattle.named_model.specs.Model.{NamedTree, CommandTree}
use Rattle.model_sizes.specs.declared.size.Size.{Size}
use Rattle.rel_formula.specs.declared.problem.Relation.{Relation}
use Rattle.rel_formula.specs.Bounds.{Bounded, IsProblem}
use Rattle.lowering_rules.specs.declared.fault.LowerFault.{LowerFault}
use Rattle.lowering_rules.specs.declared.fault.LowerFault.TheVariants as fault
use Rattle.lowering_rules.specs.declared.fault.LowerStop.{LowerStop}
use Rattle.lowering_rules.specs.declared.fault.LowerStop.TheVariants as stop
use Rattle.lowering_rules.specs.Relations.{Outline, signature_outline, field_outline, outlines, IsOutlined}
use Rattle.lowering_rules.specs.Problem.{Commands, ProblemOf, IsRefusal}
use Rattle.lowering_rules.specs.Stops.{fault_of}
use Rattle.rel_lower.specs.Bounding.Bounds.{AreRelations, IsTooMany}

-- too many relations or cells refuse a problem
pub too_many : (m : NamedTree) (n : ℕ) (facts : List ℕ) (c : CommandTree) (sizes : List Size) → Commands m n c sizes →
    (f : LowerFault) → IsTooMany m sizes f → IsRefusal m n facts f
too_many m n facts c sizes commands fault.NoCommand h = absurd h
too_many m n facts c sizes commands (fault.Scope e) h = absurd h
too_many m n facts c sizes commands fault.TooManyRelations h = (c, sizes, commands, h)
too_many m n facts c sizes commands fault.TooManyCells h = (c, sizes, commands, h.0, h.1)
too_many m n facts c sizes commands fault.TooManyTerms h = absurd h
too_many m n facts c sizes commands fault.TooLarge h = absurd h
too_many m n facts c sizes commands fault.Memory h = tt

-- where there is a problem, its formula may be too large to build
pub not_built : (m : NamedTree) (n : ℕ) (facts : List ℕ) (p : Bounded) → IsProblem p → ProblemOf m n facts p →
    (s : LowerStop) (f : LowerFault) → f ≡ fault_of s → IsRefusal m n facts f
not_built m n facts p is of stop.TooLarge f e = subst (IsRefusal m n facts) (sym e) (p, is, of)
not_built m n facts p is of stop.Memory f e = subst (IsRefusal m n facts) (sym e) tt
