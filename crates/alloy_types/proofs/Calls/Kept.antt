-- Types of calls that are kept.
use Rattle.std.proofs.Common.{◌≡◌, ℕ, zero, suc, ◌+◌, ◌<◌, ◌≤◌, Bool, true, false, ◌||◌, ◌==◌, nat_le, if◌then◌else◌, List, [], map, length, reverse, Option, Some, None, Result, Ok, Err, IfSome, refl, sym, ap, ◌∙◌, subst, inl, inr, arith}
use Rattle.std.specs.List.{slice_get, slice_index_or, list_any}
use Rattle.std.proofs.lemmas.Bool.{cases_Bool, eqb-true, leb-true}
use Rattle.named_model.specs.Phrase.{PhraseTree}
use Rattle.named_model.specs.Model.{MeaningTree, formulas, value, CalleeTree, NamedTree}
use Rattle.model_types.specs.declared.fault.TypeFault.{TypeFault}
use Rattle.model_types.specs.Bounding.{Lists, type_of}
use Rattle.model_types.specs.Typing as typing
use Rattle.model_types.specs.Typing.{Local, Declared, Settled, settled, types_in, call_type}
use Rattle.model_types.specs.Models.{or_unknown, parameters_known, domains_known, type_known, header_with, header_of, declared_in}
use Rattle.model_types.specs.Bounds.Same.{AreSame}
use Rattle.overload_resolution.specs.declared.expression_types.known.KeptType.{KeptType}
use Rattle.overload_resolution.specs.Expressions.Types.{called_type, calls_within, types_within, kept_with, kept_at, AreCallTypes}
use Rattle.alloy_types.specs.Declarations.Same.{IsSameHeader}
use Rattle.alloy_types.specs.Headers.Called.{AreRanks}
use Rattle.alloy_types.specs.Headers.Bodies.{tree_of, body_in, body_of, bodies_of, AreLow}
use Rattle.alloy_types.specs.Calls.Known.{IsKept}
use Rattle.alloy_types.proofs.Headers.Bodies.{calls_by_bodies}
use Rattle.alloy_types.proofs.Headers.TypesAlike.{type_alike}
use Rattle.alloy_types.proofs.Calls.Bodies.{EachCalledIn}
use Rattle.alloy_types.proofs.Calls.Known.{types_of_fields, body_past}

some_is : {X : Type 0} (x y : X) → Some x ≡ Some y → x ≡ y
some_is x y e = cc

nothing_is : {X : Type 0} (x : X) → None ≡ Some x → ⊥
nothing_is x e = absurd cc

-- ---- a function by its body

body_typed : (d : Declared) (r : Result Settled TypeFault) (x : PhraseTree) → tree_of r ≡ Some x → type_known d r [] ≡ type_of (types_in d) [] x
body_typed d (Ok y) x e = ap (type_of (types_in d) []) (some_is y.tree x e)
body_typed d (Err f) x e = absurd (nothing_is x e)

meaning_typed : (d : Declared) (ls : List (Option Local)) (mean : MeaningTree) (x : PhraseTree) → body_in d (reverse (map or_unknown ls)) mean ≡ Some x → (header_with d ls mean).type [] ≡ type_of (types_in d) [] x
meaning_typed d ls (formulas xs) x e = absurd (nothing_is x e)
meaning_typed d ls (value range body) x e = body_typed d (settled d (reverse (map or_unknown ls)) [] body) x e

type_by_body : (d : Declared) (c : CalleeTree) (x : PhraseTree) → body_of d c ≡ Some x → (header_of d c).type [] ≡ type_of (types_in d) [] x
type_by_body d c x e = meaning_typed d (parameters_known (domains_known d [] c.parameters)) c.meaning x e

-- ---- what is kept of one

reaches : (v : KeptType) (k : ℕ) (a : Lists) → kept_with (Some v) k ≡ Some a → (v.calls ≤ k) × (v.lists ≡ a)
reaches v k a e = go (nat_le v.calls k) refl
  where
    go : (b : Bool) → nat_le v.calls k ≡ b → (v.calls ≤ k) × (v.lists ≡ a)
    go true t = (leb-true v.calls k t, some_is v.lists a (sym (ap (λ (b : Bool). if b then Some v.lists else None) t) ∙ e))
    go false f = absurd (nothing_is a (sym (ap (λ (b : Bool). if b then Some v.lists else None) f) ∙ e))

module _ (m : NamedTree) (rank : ℕ → ℕ) (ranked : AreRanks m rank) (low : AreLow m rank) where
  -- by all bodies
  abbrev pub by_all : ℕ → ℕ → List Lists → Lists
  by_all k n = calls_within m.signatures (types_of_fields m) (bodies_of m) k n

  opened : (j k n : ℕ) → ((l : ℕ) → rank l < rank n → by_all j l ≡ by_all k l) → (xs : List Lists) (o : Option PhraseTree) → EachCalledIn (λ l. rank l < rank n) o
      → called_type (types_within m.signatures (types_of_fields m) (bodies_of m) j) o xs ≡ called_type (types_within m.signatures (types_of_fields m) (bodies_of m) k) o xs
  opened j k n lower xs None h = refl
  opened j k n lower xs (Some x) h = type_alike m.signatures (types_of_fields m) (by_all j) (by_all k) (λ l. rank l < rank n) lower (reverse xs) x h

  -- a call has one type for every depth of calls above its rank
  stable : (j k n : ℕ) → rank n < j → rank n < k → by_all j n ≡ by_all k n
  stable zero k n a b = absurd (omega (arith, a))
  stable (suc j) zero n a b = absurd (omega (arith, b))
  stable (suc j) (suc k) n a b = λ i. λ xs.
      opened j k n (λ l below. stable j k l (omega (arith, below, a)) (omega (arith, below, b))) xs (slice_index_or (bodies_of m) n None)
      (body_past m (λ l. rank l < rank n) n (slice_get m.callees n) refl (ranked n)) i

  -- the type of a call is that of its header
  call_is : (k n : ℕ) (c : CalleeTree) → slice_get m.callees n ≡ Some c → (declared_in m).callee n ≡ Some (header_of (declared_in m) c) → rank n < k → by_all k n [] ≡ (header_of (declared_in m) c).type []
  call_is k n c there known deep =
      ap (λ (f : List Lists → Lists). f []) (stable k (length m.callees) n deep (low n c there)) ∙ calls_by_bodies m rank ranked low n [] ∙ ap (λ (o : Option typing.Header). call_type o []) known

  -- the type of a body, by what is known before it
  type_is : (d : Declared) (n i k : ℕ) (c : CalleeTree) → slice_get m.callees n ≡ Some c → (declared_in m).callee n ≡ Some (header_of (declared_in m) c) → IsSameHeader (header_of d c) (header_of (declared_in m) c) → rank n < i + 1
      → (body : Option PhraseTree) → body ≡ body_of d c → (v : KeptType) → IsKept d (i + 1) body v → v.calls ≤ k → AreSame v.lists (by_all k n [])
  type_is d n i k c there known same first None e v is deep = absurd is
  type_is d n i k c there known same first (Some x) e v is deep = λ t.
      is.1 t ∙ ap (list_any t) (sym (type_by_body d c x (sym e))) ∙ same.types [] [] tt t ∙ ap (list_any t) (sym (call_is k n c there known (omega (arith, first, deep, is.0))))

  pub one_kept : (d : Declared) (n i : ℕ) (c : CalleeTree) → slice_get m.callees n ≡ Some c → (declared_in m).callee n ≡ Some (header_of (declared_in m) c) → IsSameHeader (header_of d c) (header_of (declared_in m) c) → rank n < i + 1
      → (body : Option PhraseTree) → body ≡ body_of d c → (o : Option KeptType) → IfSome o (IsKept d (i + 1) body) → (k : ℕ) (a : Lists) → kept_with o k ≡ Some a → AreSame a (by_all k n [])
  one_kept d n i c there known same first body e None is k a at = absurd (nothing_is a at)
  one_kept d n i c there known same first body e (Some v) is k a at =
      subst (λ (b : Lists). AreSame b (by_all k n [])) (reaches v k a at).1 (type_is d n i k c there known same first body e v is (reaches v k a at).0)

  -- one more is kept
  module _ (ts : List Lists) (bodies new_bodies : List (Option PhraseTree)) (done more : ℕ → Bool) (n : ℕ) (more_is : (l : ℕ) → more l ≡ (done l || (n == l)))
      (before : (k l : ℕ) → done l ≡ true → AreSame (calls_within m.signatures ts bodies k l []) (by_all k l []))
      (after : (k l : ℕ) → more l ≡ true → AreSame (calls_within m.signatures ts new_bodies k l []) (by_all k l []))
      (kept new_kept : List (Option KeptType)) (are : AreCallTypes m.signatures ts bodies kept) (unkept : (l : ℕ) → done l ≡ false → slice_index_or kept l None ≡ None)
      (others : (l : ℕ) → (n == l) ≡ false → slice_index_or new_kept l None ≡ slice_index_or kept l None)
      (one : (k : ℕ) (a : Lists) → kept_at new_kept n k ≡ Some a → AreSame a (by_all k n [])) where
    was : (l : ℕ) → (n == l) ≡ false → more l ≡ done l
    was l e = more_is l ∙ ap (λ (b : Bool). done l || b) e ∙ right (done l)
      where
        right : (b : Bool) → (b || false) ≡ b
        right true = refl
        right false = refl

    now : (l : ℕ) → (n == l) ≡ true → more l ≡ true
    now l e = more_is l ∙ ap (λ (b : Bool). done l || b) e ∙ right (done l)
      where
        right : (b : Bool) → (b || true) ≡ true
        right true = refl
        right false = refl

    here : (l k : ℕ) (a : Lists) → (n == l) ≡ true → kept_at new_kept l k ≡ Some a → AreSame a (calls_within m.signatures ts new_bodies k l [])
    here l k a e at = λ t.
        subst (λ (j : ℕ). AreSame a (by_all k j [])) (eqb-true n l e) (one k a (subst (λ (j : ℕ). kept_at new_kept j k ≡ Some a) (sym (eqb-true n l e)) at)) t ∙ sym (after k l (now l e) t)

    there : (l k : ℕ) (a : Lists) → (n == l) ≡ false → kept_at kept l k ≡ Some a → (b : Bool) → done l ≡ b → AreSame a (calls_within m.signatures ts new_bodies k l [])
    there l k a e at true d = λ t. are l k a at t ∙ before k l d t ∙ sym (after k l (was l e ∙ d) t)
    there l k a e at false d = absurd (nothing_is a (sym (ap (λ (o : Option KeptType). kept_with o k) (unkept l d)) ∙ at))

    pub kept_more : AreCallTypes m.signatures ts new_bodies new_kept
    kept_more l k a at = elim (cases_Bool (n == l)) [
      | inl e ↦ here l k a e at
      | inr e ↦ there l k a e (sym (ap (λ (o : Option KeptType). kept_with o k) (others l e)) ∙ at) (done l) refl
    ]

    never : true ≡ false → ⊥
    never e = absurd cc

    pub unkept_more : (l : ℕ) → more l ≡ false → slice_index_or new_kept l None ≡ None
    unkept_more l h = elim (cases_Bool (n == l)) [
      | inl e ↦ absurd (never (sym (now l e) ∙ h))
      | inr e ↦ others l e ∙ unkept l (sym (was l e) ∙ h)
    ]
