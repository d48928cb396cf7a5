-- What a look at the next literal of a clause tells, by its number.
use Rattle.std.proofs.Common.{◌≡◌, ◌<◌, ◌+◌, ℕ, Bool, true, false, Option, Some, None, List, length, get_or, arith, sym, ◌∙◌, ap, subst}
use Rattle.std.proofs.Math.Bool.{beq}
use Rattle.std.proofs.lemmas.List.{get_or-map, length-map}
use Rattle.std.specs.Option.{is_some}
use Rattle.cnf_core.specs.declared.literal.Lit.{Lit}
use Rattle.cnf_core.specs.Literal.{IsClause}
use Rattle.refutation_check.specs.declared.marks.Sight.TheVariants.{Neither}
use Rattle.refutation_check.specs.Marks.{IsFalseIn, IsSeen, IsWithin}
use Rattle.refutation_check.proofs.Sights.{Scanned, seen_true, second_open, first_open, next_false}
use Rattle.unit_propagation.specs.Clauses.Codes.{literal_of, literals_of}

module _ (marks : List (Option Bool)) (codes : List ℕ) (n code : ℕ) (lit : Lit) (in' : n < length codes) (code_is : code ≡ get_or codes n 0) (lit_is : lit ≡ literal_of code) where
  in_lits : n < length (literals_of codes)
  in_lits = omega (arith, in', length-map codes literal_of)

  at : (d : Lit) → get_or (literals_of codes) n d ≡ lit
  at d = get_or-map literal_of codes n 0 d in' ∙ sym (lit_is ∙ ap literal_of code_is)

  pub looked_within : IsWithin (length marks) (literals_of codes) → lit.var < length marks
  looked_within within = subst (λ (l : Lit). l.var < length marks) (at lit) (within n lit in_lits)

  pub looked_true : (value : Bool) → get_or marks lit.var None ≡ Some value → value ≡ lit.positive → IsSeen (IsFalseIn marks) (literals_of codes) Neither
  looked_true value is same = seen_true marks (literals_of codes) lit (n, in_lits, at lit) (is ∙ ap Some same)

  pub looked_second : (seen : Option Lit) → IsClause (literals_of codes) → Scanned marks (literals_of codes) n seen → is_some seen ≡ true → get_or marks lit.var None ≡ None → IsSeen (IsFalseIn marks) (literals_of codes) Neither
  looked_second seen clause was some unset =
      second_open marks (literals_of codes) n seen lit in_lits clause.rising was some (subst (λ (l : Lit). get_or marks l.var None ≡ None) (sym (at lit)) unset)

  pub looked_first : (seen : Option Lit) → Scanned marks (literals_of codes) n seen → is_some seen ≡ false → get_or marks lit.var None ≡ None → Scanned marks (literals_of codes) (n + 1) (Some lit)
  looked_first seen was none unset =
      subst (λ (l : Lit). Scanned marks (literals_of codes) (n + 1) (Some l)) (at lit) (first_open marks (literals_of codes) n seen lit in_lits was none (subst (λ (l : Lit). get_or marks l.var None ≡ None) (sym (at lit)) unset))

  pub looked_false : (seen : Option Lit) (value : Bool) → Scanned marks (literals_of codes) n seen → get_or marks lit.var None ≡ Some value → beq value lit.positive ≡ false → Scanned marks (literals_of codes) (n + 1) seen
  looked_false seen value was is differ =
      next_false marks (literals_of codes) n seen lit value in_lits was (subst (λ (l : Lit). get_or marks l.var None ≡ Some value) (sym (at lit)) is) (subst (λ (l : Lit). beq value l.positive ≡ false) (sym (at lit)) differ)
