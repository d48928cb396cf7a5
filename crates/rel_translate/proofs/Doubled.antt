-- Each atom of a matrix beside itself.
use Rattle.std.proofs.Common.{◌≡◌, ℕ, Bool, IsTrue, List, [], ◌∷◌, Contains, sym, ◌∙◌, ap, subst}
use Rattle.tuple_core.specs.declared.atom.Atom.{Atom}
use Rattle.tuple_core.specs.Operators.{Pred}
use Rattle.tuple_core.specs.Gains.{Same, SomeGives}
use Rattle.bool_circuit.specs.Network.{Network}
use Rattle.bool_circuit.specs.Value.{value_at}
use Rattle.bool_matrix.specs.declared.entry.Entry.{Entry}
use Rattle.bool_matrix.specs.Cells.{Cells, TrueIn, ThereIn}
use Rattle.rel_formula.proofs.Valued.{Doubles}

-- t is the entry's atom beside itself
abbrev pub DoubleAt : Entry → Pred
DoubleAt e t = Doubles e.tuple t

-- and the node is true
abbrev pub TrueDouble : Network → (ℕ → Bool) → Entry → Pred
TrueDouble network s e t = Doubles e.tuple t × IsTrue (value_at network e.node s)

pub doubled_there : (m : Cells) (xs : List Entry) → xs ≡ m.entries → Same (SomeGives xs DoubleAt) (λ t. (a : Atom) × ThereIn m (a ∷ []) × (t ≡ a ∷ a ∷ []))
doubled_there m xs e = record {
  to = λ t g. (g.2.0, (g.0, subst (λ ys. Contains ys g.0) e g.1, sym g.2.1), g.2.2);
  back = λ t h. (h.1.0, subst (λ ys. Contains ys h.1.0) (sym e) h.1.1, (h.0, sym h.1.2, h.2));
}

pub doubled_true : (network : Network) (s : ℕ → Bool) (m : Cells) (xs : List Entry) → xs ≡ m.entries → Same (SomeGives xs (TrueDouble network s)) (λ t. (a : Atom) × TrueIn network m s (a ∷ []) × (t ≡ a ∷ a ∷ []))
doubled_true network s m xs e = record {
  to = λ t g. (g.2.0.0, (g.0, subst (λ ys. Contains ys g.0) e g.1, (sym g.2.0.1, g.2.1)), g.2.0.2);
  back = λ t h. (h.1.0, subst (λ ys. Contains ys h.1.0) (sym e) h.1.1, ((h.0, sym h.1.2.0, h.2), h.1.2.1));
}

-- two entries with one double have one tuple
pub double_once : (s t q : List Atom) (a : Atom) → t ≡ a ∷ [] → q ≡ a ∷ a ∷ [] → Doubles s q → s ≡ t
double_once s t q a is e h =
    let pair : a ∷ a ∷ [] ≡ h.0 ∷ h.0 ∷ [] = sym e ∙ h.2 in
    let same : a ≡ h.0 = cc in
    h.1 ∙ ap (λ (b : Atom). b ∷ []) (sym same) ∙ sym is
