-- How many tuples of a matrix are there, and how many of them join.
use Rattle.std.proofs.Common.{◌≡◌, ℕ, ◌≤◌, List, length, Contains, sym, ◌∙◌, ap, arith}
use Rattle.std.specs.declared.cmp.Ordering.TheVariants.{Less}
use Rattle.std.proofs.lemmas.List.{length-map}
use Rattle.std.proofs.lemmas.List.Elements.{All-contains}
use Rattle.tuple_core.specs.declared.atom.Atom.{Atom}
use Rattle.tuple_core.specs.Operators.{Pred}
use Rattle.tuple_core.specs.Order.{tuple_cmp}
use Rattle.tuple_core.specs.Gains.{Same}
use Rattle.bool_matrix.specs.declared.entry.Entry.{Entry}
use Rattle.bool_matrix.specs.Cells.{Cells, IsCells, ThereIn}
use Rattle.bool_matrix.specs.Terms.{tuples, joins}
use Rattle.bool_matrix.proofs.DistinctLists.{tuples_distinct, tuple_there, there_tuple}
use Rattle.bool_matrix.proofs.JoiningPairs.{joins_bounded}
use Rattle.rel_formula.specs.Sizes.{IsListOf, HasSize}
use Rattle.rel_formula.proofs.Lists.{pairs_map}
use Rattle.rel_formula.proofs.OpenCells.{map_has}
use Rattle.rel_terms.specs.Terms.{Meeting}
use Rattle.rel_terms.proofs.TupleSizes.{list_once}

pub contains_there : (m : Cells) (t : List Atom) → Contains (tuples m) t → ThereIn m t
contains_there m t c = let h = map_has (λ (e : Entry). e.tuple) m.entries t c in (h.0, h.1, h.2)

-- the tuples that are there, in order
pub tuples_list : (m : Cells) (P : Pred) → IsCells m → Same (ThereIn m) P → IsListOf P (tuples m)
tuples_list m P well s = record {
  ascending = pairs_map (λ s t. tuple_cmp s t ≡ Less) (λ (e : Entry). e.tuple) m.entries well.ascending;
  just = λ t. (λ c. s.to t (contains_there m t c), λ p. there_tuple m t (s.back t p));
}

pub entries_size : (m : Cells) (P : Pred) (n : ℕ) → IsCells m → Same (ThereIn m) P → HasSize P n → length m.entries ≡ n
entries_size m P n well s h =
    sym (length-map m.entries (λ (e : Entry). e.tuple))
    ∙ ap (λ (ts : List (List Atom)). length ts) (list_once P (tuples m) h.0 (tuples_list m P well s) h.1)
    ∙ h.2

there_arity : (m : Cells) (t : List Atom) → IsCells m → ThereIn m t → length t ≡ m.arity
there_arity m t well g = ap (λ (u : List Atom). length u) g.2 ∙ All-contains (λ (e : Entry). length e.tuple ≡ m.arity) m.entries g.0 well.arities g.1

-- no more tuples join than there are meetings
pub joins_size : (a b : Cells) (P Q : Pred) (n : ℕ) → IsCells a → IsCells b → Same (ThereIn a) P → Same (ThereIn b) Q → HasSize (Meeting P Q) n → joins (tuples a) (tuples b) ≤ n
joins_size a b P Q n wa wb sa sb h =
    let most = joins_bounded P Q a.arity (tuples a) (tuples b) h.0
    (λ t i. sa.to t (tuple_there a t i)) (λ t i. sb.to t (tuple_there b t i)) (λ t i. there_arity a t wa (tuple_there a t i))
    (tuples_distinct a.entries wa.ascending) (tuples_distinct b.entries wb.ascending) (λ t g. (h.1.just t).1 g) in
    let e = h.2 in omega arith
