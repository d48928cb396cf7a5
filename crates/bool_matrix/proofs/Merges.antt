-- The entries of two lists, put in by turns.
use Rattle.std.proofs.Common.{◌≡◌, ℕ, ◌+◌, ◌<◌, ◌≤◌, List, ◌++◌, length, take, get_or, All, Contains, sym, ◌∙◌, subst, inl, inr, arith, length-append}
use Rattle.std.specs.declared.cmp.Ordering.TheVariants.{Less}
use Rattle.std.proofs.lemmas.List.{take_all, get_or-append-add}
use Rattle.std.proofs.lemmas.List.Elements.{Contains-append_left, Contains-append_right, Contains-append_cases, Contains-get_or, All-contains}
use Rattle.tuple_core.specs.Operators.{Pred, United}
use Rattle.tuple_core.specs.Gains.{Same, SomeGives}
use Rattle.tuple_core.specs.Order.{tuple_cmp}
use Rattle.tuple_core.proofs.Congruence.{same_itself, United-same}
use Rattle.tuple_core.proofs.Steps.{more_gives, gives_same}
use Rattle.bool_circuit.specs.Network.{Network}
use Rattle.bool_circuit.specs.Value.{Extends}
use Rattle.bool_matrix.specs.declared.entry.Entry.{Entry}
use Rattle.bool_matrix.specs.Entries.{IsAscending}
use Rattle.bool_matrix.specs.Cells.{Cells, AtEntry, TrueAt, ThereIn, TrueIn, MatrixGains}
use Rattle.bool_matrix.proofs.Loops.{matrix_then, matrix_same}
use Rattle.bool_matrix.proofs.Nodes.{true_at_kept}

-- an element of a part
pub in_part : {X : Type 0} (whole done rest before after : List X) (x : X) → whole ≡ done ++ rest → rest ≡ before ++ after → Contains before x → Contains whole x
in_part whole done rest before after x e f c = subst (λ zs. Contains zs x) (sym e) (Contains-append_right done rest x (subst (λ zs. Contains zs x) (sym f) (Contains-append_left before after x c)))

pub all_part : {X : Type 0} (P : X → Type 0) (whole done rest before after : List X) → whole ≡ done ++ rest → rest ≡ before ++ after → All P whole → All P before
all_part P whole done rest before after e f all = λ k d h. All-contains P whole (get_or before k d) all (in_part whole done rest before after (get_or before k d) e f (Contains-get_or before k d h))

pub rest_part : {X : Type 0} (P : X → Type 0) (whole done rest : List X) → whole ≡ done ++ rest → All P whole → All P rest
rest_part P whole done rest e all = λ k d h. All-contains P whole (get_or rest k d) all (subst (λ zs. Contains zs (get_or rest k d)) (sym e) (Contains-append_right done rest (get_or rest k d) (Contains-get_or rest k d h)))

-- the rest of a list in order is in order
pub rest_ascending : (whole done rest : List Entry) → whole ≡ done ++ rest → IsAscending whole → IsAscending rest
rest_ascending whole done rest e up j k d l m =
    let all : IsAscending (done ++ rest) = subst IsAscending e up in
    let long = length-append done rest in
    let at : (n : ℕ) → get_or (done ++ rest) (length done + n) d ≡ get_or rest n d = λ n. get_or-append-add done rest n d in
    subst (λ (x : Entry). tuple_cmp x.tuple (get_or rest k d).tuple ≡ Less) (at j)
    (subst (λ (y : Entry). tuple_cmp (get_or (done ++ rest) (length done + j) d).tuple y.tuple ≡ Less) (at k) (all (length done + j) (length done + k) d (omega arith) (omega arith)))

append_gives : {X : Type 0} (xs ys : List X) (R : X → Pred) → Same (United (SomeGives xs R) (SomeGives ys R)) (SomeGives (xs ++ ys) R)
append_gives xs ys R = record {
  to = λ t u. elim u [ inl g ↦ (g.0, Contains-append_left xs ys g.0 g.1, g.2) | inr g ↦ (g.0, Contains-append_right xs ys g.0 g.1, g.2) ];
  back = λ t g. elim (Contains-append_cases xs ys g.0 g.1) [ inl c ↦ inl (g.0, c, g.2) | inr c ↦ inr (g.0, c, g.2) ];
}

-- what came by turns, and then some of the one list and the next of the other
by_turns : (done before xs : List Entry) (i : ℕ) (x : Entry) (R : Entry → Pred) → i < length xs → x ≡ get_or xs i x
    → Same (United (United (SomeGives done R) (SomeGives (take i xs) R)) (United (SomeGives before R) (R x))) (United (SomeGives (done ++ before) R) (SomeGives (take (i + 1) xs) R))
by_turns done before xs i x R l e = record {
  to = λ t u. elim u [
    | inl a ↦ elim a [ inl d ↦ inl ((append_gives done before R).to t (inl d)) | inr g ↦ inr ((more_gives xs i x R t l e).1 (inl g)) ]
    | inr b ↦ elim b [ inl d ↦ inl ((append_gives done before R).to t (inr d)) | inr r ↦ inr ((more_gives xs i x R t l e).1 (inr r)) ]
  ];
  back = λ t u. elim u [
    | inl g ↦ elim ((append_gives done before R).back t g) [ inl d ↦ inl (inl d) | inr b ↦ inr (inl b) ]
    | inr g ↦ elim ((more_gives xs i x R t l e).0 g) [ inl f ↦ inl (inr f) | inr r ↦ inr (inr r) ]
  ];
}

module _ (old w v : Network) (extends : Extends old w) (xs : List Entry) (i : ℕ) (whole done rest : List Entry) (split : whole ≡ done ++ rest) (nodes : All (λ e. e.node < length old.shapes) whole) (l m n : Cells)
    (g : MatrixGains old w l m (λ s. United (SomeGives done (TrueAt old s)) (SomeGives (take i xs) (TrueAt old s))) (United (SomeGives done AtEntry) (SomeGives (take i xs) AtEntry))) where
  pub turn_taken : (x : Entry) (before after : List Entry) → rest ≡ before ++ after → x.node < length old.shapes → i < length xs → x ≡ get_or xs i x
      → MatrixGains w v m n (λ s. United (SomeGives before (TrueAt w s)) (TrueAt w s x)) (United (SomeGives before AtEntry) (AtEntry x))
      → MatrixGains old v l n (λ s. United (SomeGives (done ++ before) (TrueAt old s)) (SomeGives (take (i + 1) xs) (TrueAt old s))) (United (SomeGives (done ++ before) AtEntry) (SomeGives (take (i + 1) xs) AtEntry))
  turn_taken x before after parts b lt at h =
      matrix_same (λ s. by_turns done before xs i x (TrueAt old s) lt at) (by_turns done before xs i x AtEntry lt at)
      (matrix_then g (matrix_same (λ s. United-same
      (gives_same before (TrueAt w s) (TrueAt old s) (λ y c. true_at_kept old w extends s y (All-contains (λ e. e.node < length old.shapes) whole y nodes (in_part whole done rest before after y split parts c))))
      (true_at_kept old w extends s x b)) (same_itself _) h))

  pub turns_taken : (a b : Cells) → length xs ≤ i → xs ≡ a.entries → whole ≡ b.entries
      → MatrixGains w v m n (λ s. SomeGives rest (TrueAt w s)) (SomeGives rest AtEntry)
      → MatrixGains old v l n (λ s. United (TrueIn old a s) (TrueIn old b s)) (United (ThereIn a) (ThereIn b))
  turns_taken a b long e f h =
      matrix_same (λ s. both (TrueAt old s)) (both AtEntry)
      (matrix_then g (matrix_same (λ s. gives_same rest (TrueAt w s) (TrueAt old s) (λ y c. true_at_kept old w extends s y (All-contains (λ e. e.node < length old.shapes) whole y nodes (subst (λ zs. Contains zs y) (sym split) (Contains-append_right done rest y c))))) (same_itself _) h))
    where
      both : (R : Entry → Pred) → Same (United (United (SomeGives done R) (SomeGives (take i xs) R)) (SomeGives rest R)) (United (SomeGives a.entries R) (SomeGives b.entries R))
      both R =
          subst (λ ys. Same (United (United (SomeGives done R) (SomeGives (take i xs) R)) (SomeGives rest R)) (United (SomeGives ys R) (SomeGives b.entries R))) (take_all i xs long ∙ e)
          (subst (λ zs. Same (United (United (SomeGives done R) (SomeGives (take i xs) R)) (SomeGives rest R)) (United (SomeGives (take i xs) R) (SomeGives zs R))) (sym split ∙ f)
          (record {
            to = λ t u. elim u [ inl p ↦ elim p [ inl d ↦ inr ((append_gives done rest R).to t (inl d)) | inr q ↦ inl q ] | inr r ↦ inr ((append_gives done rest R).to t (inr r)) ];
            back = λ t u. elim u [ inl q ↦ inl (inr q) | inr z ↦ elim ((append_gives done rest R).back t z) [ inl d ↦ inl (inl d) | inr r ↦ inr r ] ];
          }))
