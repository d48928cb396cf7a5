-- The type of a call by the body of what is called, or by what is kept.
use Rattle.std.proofs.Common.{◌≡◌, ℕ, zero, suc, ◌+◌, List, [], ◌∷◌, replicate, reverse, refl, sym, ap, ◌∙◌, subst, slice_index_or, Option, Some, None, add-one}
use Rattle.named_model.specs.declared.named.Signature.{Signature}
use Rattle.named_model.specs.Phrase.{PhraseTree}
use Rattle.model_types.specs.Bounding.{Lists, Types, type_of}
use Rattle.model_types.specs.Bounds.Same.{AreSame}
use Rattle.model_types.proofs.Bounds.SameListsMade.{same_then}
use Rattle.overload_resolution.specs.declared.expression_types.known.Known.{Known}
use Rattle.overload_resolution.specs.declared.expression_types.known.KeptType.{KeptType}
use Rattle.overload_resolution.specs.Expressions.Types.{AreEachSame, StandFor, called_type, calls_within, types_within, kept_with, kept_at, bodies_view, AreCallTypes}
use Rattle.overload_resolution.proofs.Expressions.Each.{each_reverse}

module _ (known : Known) (t : Types) (n : ℕ) where
  -- no call has a type
  pub called_none : (calls : ℕ) (ys : List Lists) → calls ≡ 0 → StandFor known calls t → AreSame [] (t.calls n ys)
  called_none calls ys e s =
      subst (λ (k : ℕ). AreSame (calls_within t.signatures t.fields (bodies_view known.bodies.items) k n ys) (t.calls n ys)) e (s.of_calls n ys)

  -- no body is known
  pub called_unknown : (calls : ℕ) (ys : List Lists) → slice_index_or (bodies_view known.bodies.items) n None ≡ None → StandFor known calls t → AreSame [] (t.calls n ys)
  called_unknown zero ys e s = s.of_calls n ys
  called_unknown (suc k) ys e s =
      subst (λ (b : Option PhraseTree). AreSame (called_type (types_within t.signatures t.fields (bodies_view known.bodies.items) k) b ys) (t.calls n ys)) e (s.of_calls n ys)

  -- the body's type
  pub called_body : (calls k : ℕ) (tree : PhraseTree) (xs ys : List Lists) (found : Lists) → k + 1 ≡ calls → slice_index_or (bodies_view known.bodies.items) n None ≡ Some tree
      → ((u : Types) (ls : List Lists) → StandFor known k u → AreEachSame (reverse xs) ls → AreSame found (type_of u ls tree))
      → StandFor known calls t → AreEachSame xs ys → AreSame found (t.calls n ys)
  called_body calls k tree xs ys found e is made s h =
      let within = types_within t.signatures t.fields (bodies_view known.bodies.items) k in
      same_then found (type_of within (reverse ys) tree) (t.calls n ys)
      (made within (reverse ys) (record { at_the_top = s.at_the_top; over = s.over; fields = s.fields; of_calls = λ m zs test. refl; kept = s.kept }) (each_reverse xs ys h))
      (subst (λ (b : Option PhraseTree). AreSame (called_type within b ys) (t.calls n ys)) is
      (subst (λ (j : ℕ). AreSame (calls_within t.signatures t.fields (bodies_view known.bodies.items) j n ys) (t.calls n ys)) (sym e ∙ add-one k) (s.of_calls n ys)))

  -- what is kept
  pub called_kept : (calls : ℕ) (a : Lists) (ys : List Lists) → kept_at known.kept.items n calls ≡ Some a → StandFor known calls t → AreEachSame [] ys → AreSame a (t.calls n ys)
  called_kept calls a [] e s h = λ test. s.kept n calls a e test ∙ s.of_calls n [] test
  called_kept calls a (y ∷ ys) e s h = absurd h

-- ---- nothing is kept

nothing_is : {X : Type 0} (x : X) → None ≡ Some x → ⊥
nothing_is x e = absurd cc

-- so many places
abbrev places : ℕ → List (Option KeptType)
places n = replicate n None

none_at : (n k : ℕ) → slice_index_or (places n) k None ≡ None
none_at zero k = refl
none_at (suc n) zero = refl
none_at (suc n) (suc k) = none_at n k

pub nothing_kept_at : (kept : List (Option KeptType)) (n k : ℕ) → kept ≡ replicate n None → slice_index_or kept k None ≡ None
nothing_kept_at kept n k e = ap (λ (os : List (Option KeptType)). slice_index_or os k None) e ∙ none_at n k

pub nothing_kept : (signatures : List Signature) (ts : List Lists) (bodies : List (Option PhraseTree)) (kept : List (Option KeptType)) (n : ℕ) → kept ≡ replicate n None → AreCallTypes signatures ts bodies kept
nothing_kept signatures ts bodies kept n e l k a there =
    absurd (nothing_is a (sym (ap (λ (o : Option KeptType). kept_with o k) (nothing_kept_at kept n l e)) ∙ there))
