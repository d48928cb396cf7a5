-- How many local clauses a proof has.
use Rattle.std.proofs.Common.{◌≡◌, ◌≤◌, ◌+◌, ℕ, List, length, AllPairs, ◌<◌, ◌∷◌, [], arith}
use Rattle.std.proofs.lemmas.List.{length-map}
use Rattle.rel_formula.specs.Bounds.{cells_of}
use Rattle.rel_formula.specs.Instance.{AreCells}
use Rattle.translation_rules.proofs.Locals.Cells.{few_cells}
use Rattle.translation_rules.specs.Translation.{Translated}
use Rattle.translation_rules.specs.Locals.{literal_of}
use Rattle.translation.specs.Kept.{IsTranslation}
use Rattle.session_state.proofs.Rounds.Sizes.{few_locals}
use Rattle.session_rules.specs.Proofs.{locals_for}
use Rattle.session_rules.specs.declared.end_proof.ProofKind.{ProofKind}
use Rattle.session_rules.specs.declared.end_proof.ProofKind.TheVariants.{End, NoInstance}

module _ (t : Translated) (is : IsTranslation t) (cells : length (cells_of t.problem) ≤ 4096) (floor : List ℕ) (rising : AllPairs (λ m n. m < n) floor) (are : AreCells t.problem floor) where
  few_floor : length floor ≤ length (cells_of t.problem)
  few_floor = few_cells (length (cells_of t.problem)) floor rising are

  pub few_local : (kind : ProofKind) (blocked : List (List ℕ)) → length (locals_for t floor kind blocked) ≤ 800000 + length blocked
  few_local End blocked = few_locals t is cells floor few_floor blocked
  few_local NoInstance blocked = let same = length-map floor (λ cell. literal_of cell ∷ []) in let few = few_floor in omega arith

  -- those of the translation are few too
  pub few_clauses : length t.cnf.clauses ≤ 13000000
  few_clauses =
      let terms = is.translatable.few_terms in
      let clauses = (is.small terms.0 terms.1).clauses in
      let most = terms.2 in
      omega arith
