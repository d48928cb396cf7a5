-- The matrices of the expressions without operands, and of two expressions.
use Rattle.std.proofs.Common.{◌≡◌, ℕ, ◌-◌, ◌<◌, List, [], ◌∷◌, length, reverse, get_or, refl, sym, ◌∙◌, subst, arith}
use Rattle.std.proofs.lemmas.List.{length-map}
use Rattle.tuple_core.specs.declared.atom.Atom.{Atom}
use Rattle.bool_circuit.specs.Network.{Network}
use Rattle.bool_circuit.proofs.Values.{Extends-refl}
use Rattle.bool_matrix.specs.Cells.{Cells, TrueIn, ThereIn}
use Rattle.rel_formula.specs.declared.problem.Relation.{Relation}
use Rattle.rel_formula.specs.Bounds.{Bounded}
use Rattle.rel_formula.specs.Kernel.{ExpressionTree, rel, var, nothing, univ, iden}
use Rattle.rel_terms.specs.Numbers.{Number}
use Rattle.rel_terms.specs.Counting.{arities_of}
use Rattle.rel_terms.proofs.Leaves.{variable_same, doubled_same}
use Rattle.rel_terms.specs.Upper.{upper_structure, IsAtomAt}
use Rattle.rel_translate.specs.Tables.{structure_at, IsWell, AreTables, IsRelationOf}
use Rattle.rel_translate.specs.Makes.{Spends, IsMatrixFor, IsMade, AreMade}
use Rattle.rel_translate.proofs.Spending.{spends_both}
use Rattle.rel_translate.proofs.GrownCircuits.{well_of, well_kept}

spends_nothing : (network : Network) (C : Number) → Spends network network C
spends_nothing network C = record { extends = Extends-refl network; most = λ n h. omega arith }

pub leaf_made : {network : Network} {p : Bounded} {env : List Atom} {e : ExpressionTree} {m : Cells} → IsMatrixFor network p env e m → IsMade network network p env e m
leaf_made {network} is = record { spends = spends_nothing network _; is = is }

pub relation_made : {network : Network} {p : Bounded} {always : ℕ} {relations : List Cells} {universe : Cells} (env : List Atom) (r : ℕ) (x m : Cells) → AreTables network p always relations universe →
    r < length (arities_of p) → x ≡ get_or relations r x → m ≡ x → IsMade network network p env (rel r) m
relation_made {network} {p} env r x m tables there at same =
    let l : r < length p.relations = let n = length-map p.relations (λ (s : Relation). s.lower.arity) in omega arith in
    leaf_made (subst (IsRelationOf network p r) (sym (same ∙ at)) (tables.each r x (let n = tables.count in omega arith)))

pub variable_made : {network : Network} (p : Bounded) (env : List Atom) (i : ℕ) (a d : Atom) (m : Cells) → i < length env → a ≡ get_or env (length env - 1 - i) d →
    IsWell network m 1 (λ s t. t ≡ a ∷ []) (λ t. t ≡ a ∷ []) → IsMade network network p (reverse env) (var i) m
variable_made p env i a d m l at is =
    let same = variable_same env i a d l at in
    leaf_made (well_of 1 (λ s. IsAtomAt (reverse env) i) (IsAtomAt (reverse env) i) refl (λ s. same) same is.well is.is)

pub nothing_made : {network : Network} {p : Bounded} {env : List Atom} {m : Cells} → IsWell network m 1 (λ s t. ⊥) (λ t. ⊥) → IsMade network network p env nothing m
nothing_made is = leaf_made is

pub universe_made : {network : Network} {p : Bounded} {always : ℕ} {relations : List Cells} {universe : Cells} (env : List Atom) (m : Cells) → AreTables network p always relations universe → m ≡ universe → IsMade network network p env univ m
universe_made {network} {p} env m tables same =
    leaf_made (subst (λ (u : Cells). IsWell network u 1 (λ s. (structure_at p s).universe) (upper_structure p).universe) (sym same) tables.universe_is)

pub identity_made : {network : Network} {p : Bounded} {always : ℕ} {relations : List Cells} {universe : Cells} (env : List Atom) (m : Cells) → AreTables network p always relations universe →
    IsWell network m 2 (λ s t. (a : Atom) × TrueIn network universe s (a ∷ []) × (t ≡ a ∷ a ∷ [])) (λ t. (a : Atom) × ThereIn universe (a ∷ []) × (t ≡ a ∷ a ∷ [])) → IsMade network network p env iden m
identity_made {network} {p} {universe = universe} env m tables is =
    let u = tables.universe_is.is in
    leaf_made (well_of 2 (λ s t. (a : Atom) × (structure_at p s).universe (a ∷ []) × (t ≡ a ∷ a ∷ [])) (λ t. (a : Atom) × (upper_structure p).universe (a ∷ []) × (t ≡ a ∷ a ∷ [])) refl
    (λ s. doubled_same (TrueIn network universe s) (structure_at p s).universe (u.value s)) (doubled_same (ThereIn universe) (upper_structure p).universe u.there) is.well is.is)

pub both_made : {start mid end : Network} {p : Bounded} {env : List Atom} {a b : ExpressionTree} {l r : Cells} → IsMade start mid p env a l → IsMade mid end p env b r → AreMade start end p env a b l r
both_made f g = record { spends = spends_both f.spends g.spends; left = well_kept g.spends.extends f.is; right = g.is }
