-- What an exchange of two places leaves of the places of variables, and of those that wait.
use Rattle.std.proofs.Common.{◌≡◌, ◌<◌, ◌≤◌, ◌+◌, ℕ, Bool, true, false, List, length, get_or, set, map, arith, ap, sym, ◌∙◌, inl, inr, length-set, get_or-set_other, get_or-set_same, ltb}
use Rattle.std.proofs.lemmas.Bool.{cases_eq, cases_lt, lt-ltb, le-ltb}
use Rattle.std.proofs.lemmas.List.{same_lists, length-map, get_or-map}
use Rattle.std.proofs.lemmas.List.Edits.{Swapped}
use Rattle.unit_propagation.specs.declared.activity_order.heap.VarHeap.{VarHeap}
use Rattle.unit_propagation.specs.Activity.Heap.{rank, rank_at, var_at, place_of, waiting_of, IsIndexed, IsSwapped}

pub ranks_swapped : (activities : List ℕ) (one other : ℕ) (old new : VarHeap) → IsSwapped one other old new → Swapped (rank_at activities old) (rank_at activities new) one other
ranks_swapped activities one other old new sw = (
  ap (rank activities) sw.at_one,
  ap (rank activities) sw.at_other,
  λ i ni nj. ap (rank activities) (sw.elsewhere i ni nj),
)

tests_agree : (x m y n : ℕ) → (x < m → y < n) → (y < n → x < m) → ltb x m ≡ ltb y n
tests_agree x m y n there back = elim (cases_lt x m) [
  | inl less ↦ lt-ltb x m less ∙ sym (lt-ltb y n (there less))
  | inr more ↦ elim (cases_lt y n) [ inl less ↦ absurd (omega (arith, more, back less)) | inr more' ↦ le-ltb x m more ∙ sym (le-ltb y n more') ]
]

-- each place passes the one test or the other alike
pub tests_same : (ps ps' : List ℕ) (n m : ℕ) → length ps' ≡ length ps → ((v : ℕ) → v < length ps → ltb (get_or ps' v 0) m ≡ ltb (get_or ps v 0) n) → map (λ p. ltb p m) ps' ≡ map (λ p. ltb p n) ps
tests_same ps ps' n m long same =
    let f : ℕ → Bool = λ p. ltb p n in
    let f' : ℕ → Bool = λ p. ltb p m in
    same_lists (map f' ps') (map f ps) (length-map ps' f' ∙ (long ∙ sym (length-map ps f))) (λ v d h.
    let in' : v < length ps' = omega (arith, h, length-map ps' f') in
    let was_in : v < length ps = omega (arith, in', long) in
    get_or-map f' ps' v 0 d in' ∙ (same v was_in ∙ sym (get_or-map f ps v 0 d was_in)))

-- and so does each but this one
pub tests_set : (ps ps' : List ℕ) (n m var : ℕ) (b : Bool) → length ps' ≡ length ps → var < length ps → ltb (get_or ps' var 0) m ≡ b → ((v : ℕ) → (v ≡ var → ⊥) → v < length ps → ltb (get_or ps' v 0) m ≡ ltb (get_or ps v 0) n) →
    map (λ p. ltb p m) ps' ≡ set (map (λ p. ltb p n) ps) var b
tests_set ps ps' n m var b long var_in here same =
    let f : ℕ → Bool = λ p. ltb p n in
    let f' : ℕ → Bool = λ p. ltb p m in
    let long' : length (map f' ps') ≡ length (set (map f ps) var b) = length-map ps' f' ∙ (long ∙ (sym (length-map ps f) ∙ sym (length-set (map f ps) var b))) in
    same_lists (map f' ps') (set (map f ps) var b) long' (λ v d h.
    let in' : v < length ps' = omega (arith, h, length-map ps' f') in
    let was_in : v < length ps = omega (arith, in', long) in
    let var_in' : var < length (map f ps) = omega (arith, var_in, length-map ps f) in
    get_or-map f' ps' v 0 d in' ∙ elim (cases_eq v var) [
      | inl e ↦ ap (λ (x : ℕ). ltb (get_or ps' x 0) m) e ∙ (here ∙ sym (ap (λ (x : ℕ). get_or (set (map f ps) var b) x d) e ∙ get_or-set_same (map f ps) var b d var_in'))
      | inr ne ↦ same v ne was_in ∙ sym (get_or-set_other (map f ps) var v b d ne ∙ get_or-map f ps v 0 d was_in)
    ])

-- an exchange among those that wait leaves them waiting
pub waits_same : (one other : ℕ) (old new : VarHeap) → IsIndexed old → IsSwapped one other old new → one < old.waiting → other < old.waiting → waiting_of new ≡ waiting_of old
waits_same one other old new was sw h k =
    let long : length new.places.items ≡ length old.places.items = omega (arith, sw.indexed.places.long, sw.long, was.places.long) in
    let of_one = was.places.of_place one (omega (arith, h, was.front)) in
    let of_other = was.places.of_place other (omega (arith, k, was.front)) in
    tests_same old.places.items new.places.items old.waiting new.waiting long (λ v in'. elim (cases_eq v (var_at old one)) [
      | inl e ↦
          let p : place_of new v ≡ other = ap (place_of new) e ∙ sw.of_one in
          let q : place_of old v ≡ one = ap (place_of old) e ∙ of_one.1 in
          tests_agree _ _ _ _ (λ _. omega (arith, q, h)) (λ _. omega (arith, p, k, sw.count))
      | inr na ↦ elim (cases_eq v (var_at old other)) [
        | inl e ↦
            let p : place_of new v ≡ one = ap (place_of new) e ∙ sw.of_other in
            let q : place_of old v ≡ other = ap (place_of old) e ∙ of_other.1 in
            tests_agree _ _ _ _ (λ _. omega (arith, q, k)) (λ _. omega (arith, p, h, sw.count))
        | inr nb ↦
            let p : place_of new v ≡ place_of old v = sw.of_others v na nb in
            tests_agree _ _ _ _ (λ less. omega (arith, less, p, sw.count)) (λ less. omega (arith, less, p, sw.count))
      ]
    ])

-- the first one goes to the last place, and waits no more
pub waits_less : (last : ℕ) (old mid new : VarHeap) → IsIndexed old → IsSwapped 0 last old mid → old.waiting ≡ last + 1 → new.places.items ≡ mid.places.items → new.waiting ≡ last → waiting_of new ≡ set (waiting_of old) (var_at old 0) false
waits_less last old mid new was sw count places count' =
    let long : length new.places.items ≡ length old.places.items = omega (arith, ap length places, sw.indexed.places.long, sw.long, was.places.long) in
    let of_first = was.places.of_place 0 (omega (arith, count, was.front)) in
    let of_last = was.places.of_place last (omega (arith, count, was.front)) in
    let now : (v : ℕ) → place_of new v ≡ place_of mid v = λ v. ap (λ (xs : List ℕ). get_or xs v 0) places in
    let here : place_of new (var_at old 0) ≡ last = now (var_at old 0) ∙ sw.of_one in
    tests_set old.places.items new.places.items old.waiting new.waiting (var_at old 0) false long (omega (arith, of_first.0, was.places.long)) (le-ltb _ _ (omega (arith, here, count'))) (λ v ne in'. elim (cases_eq v (var_at old last)) [
      | inl e ↦
          let p : place_of new v ≡ 0 = now v ∙ (ap (place_of mid) e ∙ sw.of_other) in
          let q : place_of old v ≡ last = ap (place_of old) e ∙ of_last.1 in
          let not_zero : last ≡ 0 → ⊥ = λ z. ne (e ∙ ap (var_at old) z) in
          tests_agree _ _ _ _ (λ _. omega (arith, q, count)) (λ _. omega (arith, p, not_zero, count'))
      | inr nb ↦
          let p : place_of new v ≡ place_of old v = now v ∙ sw.of_others v ne nb in
          let not_last : place_of old v ≡ last → ⊥ = λ z. nb (sym (was.places.at_place v (omega (arith, in', was.places.long))).1 ∙ ap (var_at old) z) in
          tests_agree _ _ _ _ (λ less. omega (arith, less, p, count, count')) (λ less. omega (arith, less, p, not_last, count, count'))
    ])

-- a variable behind the waiting ones goes to the first place behind them, and waits
pub waits_more : (var place : ℕ) (old mid new : VarHeap) → IsIndexed old → var < length old.variables.items → place ≡ place_of old var → old.waiting ≤ place → IsSwapped place old.waiting old mid → new.places.items ≡ mid.places.items → new.waiting ≡ old.waiting + 1 →
    waiting_of new ≡ set (waiting_of old) var true
waits_more var place old mid new was var_in is behind sw places count =
    let long : length new.places.items ≡ length old.places.items = omega (arith, ap length places, sw.indexed.places.long, sw.long, was.places.long) in
    let of_var = was.places.at_place var var_in in
    let of_last = was.places.of_place old.waiting (omega (arith, is, behind, of_var.0)) in
    let var_is : var_at old place ≡ var = ap (var_at old) is ∙ of_var.1 in
    let now : (v : ℕ) → place_of new v ≡ place_of mid v = λ v. ap (λ (xs : List ℕ). get_or xs v 0) places in
    let here : place_of new var ≡ old.waiting = now var ∙ (ap (place_of mid) (sym var_is) ∙ sw.of_one) in
    tests_set old.places.items new.places.items old.waiting new.waiting var true long (omega (arith, var_in, was.places.long)) (lt-ltb _ _ (omega (arith, here, count))) (λ v ne in'. elim (cases_eq v (var_at old old.waiting)) [
      | inl e ↦
          let p : place_of new v ≡ place = now v ∙ (ap (place_of mid) e ∙ sw.of_other) in
          let q : place_of old v ≡ old.waiting = ap (place_of old) e ∙ of_last.1 in
          let not_last : place ≡ old.waiting → ⊥ = λ z. ne (e ∙ (ap (var_at old) (sym z) ∙ var_is)) in
          tests_agree _ _ _ _ (λ less. omega (arith, less, p, not_last, behind, count)) (λ less. omega (arith, less, q))
      | inr nb ↦
          let p : place_of new v ≡ place_of old v = now v ∙ sw.of_others v (λ e. ne (e ∙ var_is)) nb in
          let not_last : place_of old v ≡ old.waiting → ⊥ = λ z. nb (sym (was.places.at_place v (omega (arith, in', was.places.long))).1 ∙ ap (var_at old) z) in
          tests_agree _ _ _ _ (λ less. omega (arith, less, p, not_last, count)) (λ less. omega (arith, less, p, count))
    ])
