-- Sets of tuples for the values of expressions.
use Rattle.std.proofs.Common.{◌≡◌, ℕ, ◌-◌, ◌<◌, List, [], ◌∷◌, Contains, ◌∙◌, ap, subst, sym, arith, refl, length, get_or, reverse, Some, slice_get}
use Rattle.std.proofs.lemmas.List.{get_or-map, get_or_default, get_or-reverse, length-reverse, length-map}
use Rattle.tuple_core.specs.declared.atom.Atom.{Atom}
use Rattle.tuple_core.specs.Operators.{Pred, BeginsWith}
use Rattle.tuple_core.specs.Gains.{Same, SomeGives}
use Rattle.tuple_core.specs.Rows.{Rows, IsSetOf}
use Rattle.tuple_core.proofs.Congruence.{set_of_same}
use Rattle.rel_formula.specs.Tables.{Tabled, arities, values_of}
use Rattle.rel_formula.proofs.Lists.{get-Some, some_at}
use Rattle.rel_formula.proofs.Tabled.{no_rows}

pub relation_is : (tables : Tabled) (r : ℕ) (x v : Rows) → r < length (arities tables) → x ≡ get_or tables.values r x → v ≡ x → IsSetOf v (get_or (arities tables) r 0) (values_of tables.values r)
relation_is tables r x v m e f =
    let l : r < length tables.values = let n = length-map tables.values (λ (s : Rows). s.arity) in omega arith in
    let same : v ≡ get_or tables.values r no_rows = f ∙ e ∙ get_or_default tables.values r x no_rows l in
    record {
      arity_is = ap (λ (s : Rows). s.arity) same ∙ sym (get_or-map (λ (s : Rows). s.arity) tables.values r no_rows 0 l);
      just = λ t. (λ c. subst (λ (s : Rows). Contains s.rows t) same c, λ c. subst (λ (s : Rows). Contains s.rows t) (sym same) c);
    }

pub variable_is : (env : List Atom) (i : ℕ) (v : Rows) (a d : Atom) → i < length env → a ≡ get_or env (length env - 1 - i) d →
    IsSetOf v 1 (λ t. t ≡ a ∷ []) → IsSetOf v 1 (λ t. (b : Atom) × (slice_get (reverse env) i ≡ Some b) × (t ≡ b ∷ []))
variable_is env i v a d l is set =
    let m : i < length (reverse env) = let e = length-reverse env in omega arith in
    let at : slice_get (reverse env) i ≡ Some a = get-Some (reverse env) i d m ∙ ap (λ b. Some b) (get_or-reverse env i d l ∙ sym is) in
    set_of_same refl (record {
      to = λ t e. (a, at, e);
      back = λ t h. h.2 ∙ ap (λ b. b ∷ []) (sym (some_at (reverse env) i h.0 d h.1) ∙ some_at (reverse env) i a d at);
    }) set

pub nothing_is : {v : Rows} → v.arity ≡ 1 → v.rows ≡ [] → IsSetOf v 1 (λ t. ⊥)
nothing_is {v} one none = record {
  arity_is = one;
  just = λ t. (λ c. let l = (subst (λ rows. Contains rows t) none c).1 in omega arith, λ h. absurd h);
}

pub universe_is : {u v : Rows} → u.arity ≡ 1 → v ≡ u → IsSetOf v 1 (Contains u.rows)
universe_is {u} {v} one e = record {
  arity_is = ap (λ (s : Rows). s.arity) e ∙ one;
  just = λ t. (λ c. subst (λ (s : Rows). Contains s.rows t) e c, λ c. subst (λ (s : Rows). Contains s.rows t) (sym e) c);
}

-- t is the atom of the row beside itself
abbrev pub Doubles : List Atom → Pred
Doubles row t = (a : Atom) × (row ≡ a ∷ []) × (t ≡ a ∷ a ∷ [])

-- the only atom of a row is its first
pub one_atom : (x : Atom) (row : List Atom) → length row ≡ 1 → BeginsWith x row → row ≡ x ∷ []
one_atom x row one begins =
    let short : length begins.0 ≡ 0 = let e = ap length begins.1 in omega arith in
    begins.1 ∙ ap (λ rest. x ∷ rest) (none begins.0 short)
  where
    none : (xs : List Atom) → length xs ≡ 0 → xs ≡ []
    none [] e = refl
    none (y ∷ ys) e = absurd (omega arith)

pub first_same : (x y : Atom) (row : List Atom) → row ≡ x ∷ [] → row ≡ y ∷ [] → x ≡ y
first_same x y row e f = let h : x ∷ [] ≡ y ∷ [] = sym e ∙ f in cc

pub double_is : (x : Atom) (row : List Atom) → row ≡ x ∷ [] → Same (λ t. t ≡ x ∷ x ∷ []) (Doubles row)
double_is x row is = record {
  to = λ t e. (x, is, e);
  back = λ t h. h.2 ∙ ap (λ (a : Atom). a ∷ a ∷ []) (first_same h.0 x row h.1 is);
}

pub doubles_are : (rows : List (List Atom)) → Same (SomeGives rows Doubles) (λ t. (a : Atom) × Contains rows (a ∷ []) × (t ≡ a ∷ a ∷ []))
doubles_are rows = record {
  to = λ t h. (h.2.0, subst (Contains rows) h.2.1 h.1, h.2.2);
  back = λ t h. (h.0 ∷ [], h.1, (h.0, refl, h.2));
}
