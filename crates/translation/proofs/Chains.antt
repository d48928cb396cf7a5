-- Swaps whose fresh variables come one after the other.
use Rattle.std.proofs.Common.{◌≡◌, ◌⊎◌, inl, inr, ◌<◌, ◌≤◌, ◌+◌, ◌*◌, ℕ, zero, suc, Option, Some, None, slice_get, get_or, List, [], ◌∷◌, ◌++◌, map, take, length, Contains, refl, sym, ◌∙◌, ap, subst, arith, length-append}
use Rattle.std.proofs.Math.Seq.{take-suc}
use Rattle.tuple_core.specs.declared.atom.Atom.{Atom}
use Rattle.cnf_core.specs.Formula.{Formula}
use Rattle.rel_formula.specs.Bounds.{Bounded, cells_of}
use Rattle.rel_formula.proofs.OpenCells.{cons_cases}
use Rattle.translation_rules.specs.Translation.{SwapClauses}
use Rattle.translation.specs.Numbered.{swaps_of, pair_of, IsNext, AreNumbered}

-- the last variable of all
abbrev pub last_of : ℕ → List SwapClauses → ℕ
last_of last [] = last
last_of last (x ∷ xs) = last_of x.cnf.vars xs

pub numbered_push : (p : Bounded) (last : ℕ) (xs : List SwapClauses) (x : SwapClauses) → AreNumbered p last xs → IsNext p (last_of last xs) x → AreNumbered p last (xs ++ x ∷ [])
numbered_push p last [] x all next = (next, tt)
numbered_push p last (y ∷ ys) x all next = (all.0, numbered_push p y.cnf.vars ys x all.1 next)

last_push : (last : ℕ) (xs : List SwapClauses) (x : SwapClauses) → last_of last (xs ++ x ∷ []) ≡ x.cnf.vars
last_push last [] x = refl
last_push last (y ∷ ys) x = last_push y.cnf.vars ys x

abbrev pub swap_of : Atom × Atom → Formula → SwapClauses
swap_of pair cnf = record { first = pair.0; second = pair.1; cnf = cnf }

some_same : {X : Type 0} (x y : X) → Some x ≡ Some y → x ≡ y
some_same x y e = cc

of_push : (pairs : List (Atom × Atom)) (cnfs : List Formula) (pair : Atom × Atom) (cnf : Formula) → length cnfs ≡ length pairs →
    swaps_of (pairs ++ pair ∷ []) (cnfs ++ cnf ∷ []) ≡ swaps_of pairs cnfs ++ swap_of pair cnf ∷ []
of_push [] [] pair cnf e = refl
of_push [] (c ∷ cs) pair cnf e = absurd (omega arith)
of_push (q ∷ qs) [] pair cnf e = absurd (omega arith)
of_push (q ∷ qs) (c ∷ cs) pair cnf e = ap (λ xs. swap_of q c ∷ xs) (of_push qs cs pair cnf (omega arith))

-- the pairs are read back
pub pairs_back : (pairs : List (Atom × Atom)) (cnfs : List Formula) → length cnfs ≡ length pairs → map pair_of (swaps_of pairs cnfs) ≡ pairs
pairs_back [] cnfs e = refl
pairs_back (q ∷ qs) [] e = absurd (omega arith)
pairs_back (q ∷ qs) (c ∷ cs) e = ap (λ xs. q ∷ xs) (pairs_back qs cs (omega arith))

-- the clauses of the swap at a place
pub cnf_at : (pairs : List (Atom × Atom)) (cnfs : List Formula) (i : ℕ) (x : SwapClauses) (d : Formula) → slice_get (swaps_of pairs cnfs) i ≡ Some x → get_or cnfs i d ≡ x.cnf
cnf_at [] cnfs i x d e = absurd (let k = e in cc)
cnf_at (q ∷ qs) [] i x d e = absurd (let k = e in cc)
cnf_at (q ∷ qs) (c ∷ cs) zero x d e = ap (λ (y : SwapClauses). y.cnf) (some_same (swap_of q c) x e)
cnf_at (q ∷ qs) (c ∷ cs) (suc i) x d e = cnf_at qs cs i x d e

pub swaps_length : (pairs : List (Atom × Atom)) (cnfs : List Formula) → length cnfs ≡ length pairs → length (swaps_of pairs cnfs) ≡ length cnfs
swaps_length [] [] e = refl
swaps_length [] (c ∷ cs) e = absurd (omega arith)
swaps_length (q ∷ qs) [] e = refl
swaps_length (q ∷ qs) (c ∷ cs) e = ap suc (swaps_length qs cs (omega arith))

-- the clauses of the pairs so far
pub record Made (p : Bounded) (last behind : ℕ) (pairs : List (Atom × Atom)) (cnfs : List Formula) : Type 0 where
  pub count : length cnfs ≡ length pairs
  pub numbered : AreNumbered p last (swaps_of pairs cnfs)
  pub behind_is : behind ≡ last_of last (swaps_of pairs cnfs)
  pub low : last ≤ behind
  pub most : behind ≤ last + length pairs * (length (cells_of p) + 1)

pub made_none : (p : Bounded) (last : ℕ) → Made p last last [] []
made_none p last = record { count = refl; numbered = tt; behind_is = refl; low = omega arith; most = omega arith }

-- a product by one more
one_more_times : (n c : ℕ) → (n + 1) * c ≡ n * c + c
one_more_times n c = omega arith

pub made_push : (p : Bounded) (last behind : ℕ) (pairs : List (Atom × Atom)) (cnfs : List Formula) (pair : Atom × Atom) (cnf : Formula) →
    Made p last behind pairs cnfs → IsNext p behind (swap_of pair cnf) → Made p last cnf.vars (pairs ++ pair ∷ []) (cnfs ++ cnf ∷ [])
made_push p last behind pairs cnfs pair cnf made next =
    let same = of_push pairs cnfs pair cnf made.count in
    let long : length (pairs ++ pair ∷ []) ≡ length pairs + 1 = length-append pairs (pair ∷ []) in
    let longer : length (cnfs ++ cnf ∷ []) ≡ length cnfs + 1 = length-append cnfs (cnf ∷ []) in record {
      count = (let e = made.count in omega arith);
      numbered = subst (AreNumbered p last) (sym same) (numbered_push p last (swaps_of pairs cnfs) (swap_of pair cnf) made.numbered (subst (λ n. IsNext p n (swap_of pair cnf)) made.behind_is next));
      behind_is = sym (ap (last_of last) same ∙ last_push last (swaps_of pairs cnfs) (swap_of pair cnf));
      low = (let l = made.low in let m = next.some in omega arith);
      most =
          let l = made.most in
          let m = next.few_variables in
          let e = one_more_times (length pairs) (length (cells_of p) + 1) in
          subst (λ n. cnf.vars ≤ last + n * (length (cells_of p) + 1)) (sym long) (omega arith);
    }

-- the first pairs, one more of them
pub made_next : (p : Bounded) (last behind vars : ℕ) (pairs : List (Atom × Atom)) (i : ℕ) (d : Atom × Atom) (cnfs now : List Formula) (cnf : Formula) → i < length pairs →
    Made p last behind (take i pairs) cnfs → IsNext p behind (swap_of (get_or pairs i d) cnf) → now ≡ cnfs ++ cnf ∷ [] → vars ≡ cnf.vars → Made p last vars (take (i + 1) pairs) now
made_next p last behind vars pairs i d cnfs now cnf l made next e f =
    let more = take-suc pairs i d l in
    let at : suc i ≡ i + 1 = omega arith in
    subst (λ qs. Made p last vars qs now) (sym more ∙ ap (λ n. take n pairs) at)
    (subst (Made p last vars (take i pairs ++ get_or pairs i d ∷ [])) (sym e)
    (subst (λ n. Made p last n (take i pairs ++ get_or pairs i d ∷ []) (cnfs ++ cnf ∷ [])) (sym f)
    (made_push p last behind (take i pairs) cnfs (get_or pairs i d) cnf made next)))

-- each swap has its variables behind some variable that isn't before the first one
pub member_next : (p : Bounded) (last : ℕ) (xs : List SwapClauses) → AreNumbered p last xs → (x : SwapClauses) → Contains xs x → (behind : ℕ) × (last ≤ behind) × IsNext p behind x
member_next p last [] all x c = absurd (let l = c.1 in omega arith)
member_next p last (y ∷ ys) all x c = elim (cons_cases y ys x c) [
  | inl same ↦ (last, omega arith, subst (IsNext p last) same all.0)
  | inr later ↦
      let rest = member_next p y.cnf.vars ys all.1 x later in
      (rest.0, (let l = all.0.some in let m = rest.1 in omega arith), rest.2)
]
