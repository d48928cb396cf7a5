use Rattle.std.proofs.Common.{◌≡◌, ◌∷◌, [], ◌∙◌, sym, Contains, List}
use Rattle.tuple_core.specs.declared.atom.Atom.{Atom}
use Rattle.tuple_core.proofs.Congruence.{rows_same}
use Rattle.tuple_core.proofs.Steps.{set_from_gains}
use Rattle.rel_formula.specs.Sizes.{HasSize}
use Rattle.rel_terms.proofs.Counted.{counted, adds_alike, alike_size}
use Rattle.rel_terms.proofs.operators.single.Goals as goal

pub returns : goal.returns
returns c =
    let P : List Atom → Type 0 = λ t. t ≡ c.args.atom ∷ [] in
    let set = set_from_gains c.new-set.result c.insert.new.self 1 (λ t. t ≡ c.single.result) P c.new-set.ensures.rows c.new-set.ensures.arity c.in_ok-insert.ensures.gains
    (record { to = λ t e. e ∙ c.single.ensures; back = λ t e. e ∙ sym c.single.ensures }) in
    counted set (adds_alike (HasSize (Contains c.insert.new.self.rows)) (HasSize P) _ _ (alike_size (rows_same set)) c.add_size.ensures)
