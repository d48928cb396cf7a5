-- A problem without relations whose formula is always true: the empty scenario is the one that is due.
use Rattle.std.proofs.Common.{◌≡◌, ◌<◌, ◌+◌, ℕ, suc, List, [], ◌∷◌, ◌++◌, map, length, All, Contains, append-nil, refl, sym, ◌∙◌, ap, subst, arith}
use Rattle.std.proofs.lemmas.List.Elements.{All-nil, All-head}
use Rattle.tuple_core.specs.declared.atom.Atom.{Atom}
use Rattle.cnf_core.specs.declared.literal.Lit.{Lit}
use Rattle.rel_formula.specs.Kernel.{conjunction, no_formulas}
use Rattle.rel_formula.specs.Bounds.{Bounded, IsAtomOf}
use Rattle.rel_formula.specs.Instance.{IsScenario}
use Rattle.rel_formula.proofs.Lists.{pairs_nil}
use Rattle.swap_symmetry.specs.Due.{IsDue}
use Rattle.translation_rules.specs.Translation.{SwapClauses, Translated, clauses_of_swaps}
use Rattle.translation_rules.specs.Free.{is_free_of}
use Rattle.translation_rules.specs.Locals.{locals_of}
use Rattle.translation.specs.Numbered.{pair_of}
use Rattle.translation.specs.Kept.{IsTranslation}
use Rattle.translation_cache.proofs.BareProblems.{bare, no_atoms}

abbrev pub always : Bounded
always = bare (conjunction no_formulas)

pub no_cells : (x : List ℕ) → IsScenario always x → x ≡ []
no_cells [] s = refl
no_cells (n ∷ ns) s = absurd (let below = All-head (λ m. m < 0) n ns s.cells in omega arith)

pub empty_is_due : IsDue always [] []
empty_is_due = record {
  minimal = record {
    instance_of = record { scenario = record { cells = All-nil (λ (n : ℕ). n < 0); rising = pairs_nil (λ (m n : ℕ). m < n) }; holds = tt };
    above = λ n h. h;
    least = λ t is above part. above;
  };
  settled = λ a b pair earlier. no_atoms (conjunction no_formulas) a pair.0.first;
}

none_swapped : (swaps : List SwapClauses) → ((a b : Atom) → Contains (map pair_of swaps) (a, b) → ⊥) → swaps ≡ []
none_swapped [] none = refl
none_swapped (x ∷ xs) none = absurd (none x.first x.second (0, omega arith, refl))

-- a translation of the problem has no swaps
pub no_swaps : (t : Translated) → IsTranslation t → t.problem ≡ always → t.swaps ≡ []
no_swaps t is e = none_swapped t.swaps (λ a b there.
    let neighbours = (is.all.exactly a b).0 there in
    no_atoms (conjunction no_formulas) a (subst (λ (p : Bounded). IsAtomOf p a) e neighbours.first))

-- and the clauses that block the empty scenario are an empty one
pub blocked : (t : Translated) → t.swaps ≡ [] → locals_of t [] ([] ∷ []) ≡ [] ∷ []
blocked t none = ap (λ (swaps : List SwapClauses). clauses_of_swaps (is_free_of t.problem []) swaps ++ [] ++ [] ∷ []) none
