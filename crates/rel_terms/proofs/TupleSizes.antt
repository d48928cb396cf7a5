-- Sizes of sets of tuples.
use Rattle.std.proofs.Common.{◌≡◌, ℕ, ◌⊎◌, inl, inr, List, ◌++◌, All, length, refl, sym, ◌∙◌, ap}
use Rattle.std.proofs.lemmas.List.Elements.{Contains-append_cases, Contains-append_left, Contains-append_right}
use Rattle.std.specs.declared.cmp.Ordering.TheVariants.{Less}
use Rattle.tuple_core.specs.declared.atom.Atom.{Atom}
use Rattle.tuple_core.specs.Operators.{Pred}
use Rattle.tuple_core.specs.Gains.{Same}
use Rattle.tuple_core.specs.Order.{tuple_cmp}
use Rattle.tuple_core.specs.Rows.{Rows, IsRows, IsSetOf}
use Rattle.tuple_core.proofs.Ascending.{same_lists}
use Rattle.rel_formula.specs.Sizes.{IsListOf, HasSize}
use Rattle.rel_formula.proofs.Lists.{pairs_append}
use Rattle.rel_terms.specs.Numbers.{Only}
use Rattle.rel_terms.proofs.Numbers.{Once, only}

pub list_once : (P : Pred) (ts us : List (List Atom)) → IsListOf P ts → IsListOf P us → ts ≡ us
list_once P ts us a b = same_lists ts us a.ascending b.ascending (λ t c. (b.just t).1 ((a.just t).0 c)) (λ t c. (a.just t).1 ((b.just t).0 c))

pub size_once : (P : Pred) → Once (HasSize P)
size_once P n m h g = sym h.2 ∙ ap length (list_once P h.0 g.0 h.1 g.1) ∙ g.2

pub list_same : (P Q : Pred) (ts : List (List Atom)) → Same P Q → IsListOf P ts → IsListOf Q ts
list_same P Q ts s l = record { ascending = l.ascending; just = λ t. (λ c. s.to t ((l.just t).0 c), λ q. (l.just t).1 (s.back t q)) }

pub size_same : (P Q : Pred) (n : ℕ) → Same P Q → HasSize P n → HasSize Q n
size_same P Q n s h = (h.0, list_same P Q h.0 s h.1, h.2)

pub rows_list : {v : Rows} {n : ℕ} {P : Pred} → IsRows v → IsSetOf v n P → IsListOf P v.rows
rows_list well is = record { ascending = well.ascending; just = is.just }

pub rows_size : {v : Rows} {n : ℕ} {P : Pred} → IsRows v → IsSetOf v n P → Only (HasSize P) (length v.rows)
rows_size {v} {n} {P} well is = only (HasSize P) (length v.rows) (size_once P) (v.rows, rows_list well is, refl)

-- the list of a set whose later part comes behind
pub list_append : (P Q : Pred) (ts us : List (List Atom)) → IsListOf P ts → IsListOf Q us → All (λ t. All (λ u. tuple_cmp t u ≡ Less) us) ts → IsListOf (λ t. P t ⊎ Q t) (ts ++ us)
list_append P Q ts us a b before = record {
  ascending = pairs_append (λ s t. tuple_cmp s t ≡ Less) ts us a.ascending b.ascending before;
  just = λ t. (
    λ c. elim (Contains-append_cases ts us t c) [ inl l ↦ inl ((a.just t).0 l) | inr r ↦ inr ((b.just t).0 r) ],
    λ s. elim s [ inl p ↦ Contains-append_left ts us t ((a.just t).1 p) | inr q ↦ Contains-append_right ts us t ((b.just t).1 q) ],
  );
}
