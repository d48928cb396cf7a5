-- Parts without a shared name stay as they are, whatever their types.
use Rattle.std.specs.Prelude.{if◌then◌else◌}
use Rattle.std.proofs.Common.{◌≡◌, ℕ, ◌==◌, nat_lt, Bool, true, List, [], length, slice_get, Option, Some, None, Result, Ok, Err, refl, sym, ◌∙◌, ap, ap₂, subst}
use Rattle.alloy_lex.specs.declared.token.Place.{Place}
use Rattle.alloy_syntax.specs.declared.tree.MultiplicityWord.{MultiplicityWord}
use Rattle.alloy_syntax.specs.declared.tree.Quantifier.{Quantifier}
use Rattle.alloy_syntax.specs.declared.tree.Prefix.{Prefix}
use Rattle.alloy_syntax.specs.declared.tree.Comparing.{Comparing}
use Rattle.named_model.specs.declared.phrase.Referent.TheVariants as referent
use Rattle.named_model.specs.Phrase.{PhraseTree, refers, prefixed, path, compared, quantified, PhraseTrees, no_phrases, more_phrases, no_steps, join_first, no_domains, more_domains}
use Rattle.model_types.specs.declared.fault.TypeFault.{TypeFault}
use Rattle.model_types.specs.declared.fault.TypeFault.TheVariants as fault
use Rattle.model_types.specs.Sorts as sorts
use Rattle.model_types.specs.Sorts.{unless, first_place, as_relation, as_formula, prefix_kind, joined_arity, may_stand_left, fits_left}
use Rattle.model_types.specs.Typing as typing
use Rattle.model_types.specs.Typing.{Declared, Settled, type_in, ends_of, is_shared, formula_from, settled, formulas_settled, steps_settled, tops_in, domains_settled}
use Rattle.model_types.specs.Models.{or_same}
use Rattle.lowering_rules.proofs.Inversion.{bind_ok, same_ok, fine}

-- a thing that isn't changed by what settles its shared names, or has a fault
pub or_stays : {X : Type 0} (f : X → Result X TypeFault) (x : X) → ((y : X) → f x ≡ Ok y → y ≡ x) → or_same f x ≡ x
or_stays {X} f x same = go (f x) refl
  where
    go : (r : Result X TypeFault) → f x ≡ r → (elim r as (λ r. X) [ Ok y ↦ y | Err e ↦ x ]) ≡ x
    go (Ok y) e = same y e
    go (Err d) e = refl

pub tree_is : (x : PhraseTree) (z y : Settled) → fine z ≡ Ok y → z.tree ≡ x → y.tree ≡ x
tree_is x z y e t = subst (λ (w : Settled). w.tree ≡ x) (same_ok z y e) t

field_is : (p : Place) (f : ℕ) (y : Settled) (o : Option typing.Field) →
    (elim o as (λ o. Result Settled TypeFault) [ None ↦ Err (fault.Sort p) | Some field ↦ Ok (record { tree = refers p (referent.Field f); kind = sorts.relation field.arity }) ]) ≡ Ok y → y.tree ≡ refers p (referent.Field f)
field_is p f y None h = absurd cc
field_is p f y (Some x) h = tree_is (refers p (referent.Field f)) (record { tree = refers p (referent.Field f); kind = sorts.relation x.arity }) y h refl

local_is : (p : Place) (i : ℕ) (y : Settled) (o : Option typing.Local) →
    (elim o as (λ o. Result Settled TypeFault) [ None ↦ Err (fault.Sort p) | Some l ↦ Ok (record { tree = refers p (referent.Local i); kind = sorts.relation l.arity }) ]) ≡ Ok y → y.tree ≡ refers p (referent.Local i)
local_is p i y None h = absurd cc
local_is p i y (Some x) h = tree_is (refers p (referent.Local i)) (record { tree = refers p (referent.Local i); kind = sorts.relation x.arity }) y h refl

pub formula_is : (x t : PhraseTree) (answer : Result Settled TypeFault) → ((y : Settled) → answer ≡ Ok y → y.tree ≡ x) → formula_from x answer ≡ Ok t → t ≡ x
formula_is x t answer same h =
    let a = bind_ok answer _ t h in
    let b = bind_ok (as_formula (first_place x) a.0.kind) _ t a.2 in
    sym (same_ok a.0.tree t b.2) ∙ same a.0 a.1

module _ (d : Declared) where
  abbrev pub StaysSo : PhraseTree → Type 0
  StaysSo x = (locals : List typing.Local) (tops : List ℕ) (y : Settled) → settled d locals tops x ≡ Ok y → y.tree ≡ x

  pub signature_stays : (p : Place) (s : ℕ) → StaysSo (refers p (referent.Signature s))
  signature_stays p s locals tops y h =
      let a = bind_ok (unless (nat_lt s (length d.signatures)) (fault.Sort p)) _ y h in
      tree_is (refers p (referent.Signature s)) (record { tree = refers p (referent.Signature s); kind = sorts.relation 1 }) y a.2 refl

  pub field_stays : (p : Place) (f : ℕ) → StaysSo (refers p (referent.Field f))
  field_stays p f locals tops y h = field_is p f y (slice_get d.fields f) h

  pub local_stays : (p : Place) (i : ℕ) → StaysSo (refers p (referent.Local i))
  local_stays p i locals tops y h = local_is p i y (slice_get locals i) h

  pub prefixed_stays : (f : Prefix) (p : Place) (x : PhraseTree) → StaysSo x → StaysSo (prefixed f p x)
  prefixed_stays f p x same locals tops y h =
      let a = bind_ok (settled d locals [] x) _ y h in
      let b = bind_ok (prefix_kind f p (first_place x) a.0.kind) _ y a.2 in
      tree_is (prefixed f p x) (record { tree = prefixed f p a.0.tree; kind = b.0 }) y b.2 (ap (prefixed f p) (same locals [] a.0 a.1))

  pub join_stays : (x : PhraseTree) (p : Place) (z : PhraseTree) → StaysSo x → StaysSo z → StaysSo (path x (join_first p z no_steps))
  join_stays x p z left right locals tops y h =
      let i = bind_ok (if is_shared x then tops_in d locals (join_first p z no_steps) else Ok []) _ y h in
      let a = bind_ok (settled d locals i.0 x) _ y i.2 in
      let b = bind_ok (steps_settled d locals (first_place x) a.0.kind (type_in d locals a.0.tree) (join_first p z no_steps)) _ y a.2 in
      let m = bind_ok (as_relation (first_place x) a.0.kind) _ b.0 b.1 in
      let c = bind_ok (settled d locals (ends_of (type_in d locals a.0.tree)) z) _ b.0 m.2 in
      let n = bind_ok (as_relation (first_place z) c.0.kind) _ b.0 c.2 in
      let j = bind_ok (joined_arity p m.0 n.0) _ b.0 n.2 in
      let steps : b.0.0 ≡ join_first p c.0.tree no_steps = ap (λ q. q.0) (sym (same_ok (join_first p c.0.tree no_steps, sorts.relation j.0) b.0 j.2)) in
      let first = left locals i.0 a.0 a.1 in
      let second = right locals (ends_of (type_in d locals a.0.tree)) c.0 c.1 in
      tree_is (path x (join_first p z no_steps)) (record { tree = path a.0.tree b.0.0; kind = b.0.1 }) y b.2
      (ap₂ path first (steps ∙ ap (λ w. join_first p w no_steps) second))

  pub compared_stays : (x : PhraseTree) (c : Comparing) (z : PhraseTree) → StaysSo x → StaysSo z → StaysSo (compared x c z)
  compared_stays x c z left right locals tops y h =
      let a = bind_ok (settled d locals [] x) _ y h in
      let l = bind_ok (may_stand_left c.comparison (first_place x) a.0.kind) _ y a.2 in
      let b = bind_ok (settled d locals [] z) _ y l.2 in
      let r = bind_ok (fits_left c.place (first_place z) a.0.kind b.0.kind) _ y b.2 in
      let first = left locals [] a.0 a.1 in
      let second = right locals [] b.0 b.1 in
      tree_is (compared x c z) (record { tree = compared a.0.tree c b.0.tree; kind = sorts.formula }) y r.2 (λ i. compared (first i) c (second i))

  -- a quantifier with one declaration
  pub quantified_stays : (q : Quantifier) (p : Place) (disjoint : Bool) (n : ℕ) (mark : Option MultiplicityWord) (x body : PhraseTree) → StaysSo x → StaysSo body →
      StaysSo (quantified q p (more_domains disjoint n mark x no_domains) body)
  quantified_stays q p disjoint n mark x body first second locals tops y h =
      let a = bind_ok (domains_settled true d locals (more_domains disjoint n mark x no_domains)) _ y h in
      let b = bind_ok (formula_from body (settled d a.0.1 [] body)) _ y a.2 in
      let z = bind_ok (settled d locals [] x) _ a.0 a.1 in
      let m = bind_ok (as_relation (first_place x) z.0.kind) _ a.0 z.2 in
      let one = bind_ok (unless (m.0 == 1) (fault.NotUnary (first_place x))) _ a.0 m.2 in
      let behind = typing.onto n (record { arity = m.0; type = type_in d locals z.0.tree }) locals in
      let domains : a.0.0 ≡ more_domains disjoint n mark z.0.tree no_domains = ap (λ w. w.0) (sym (same_ok (more_domains disjoint n mark z.0.tree no_domains, behind) a.0 one.2)) in
      let domain = domains ∙ ap (λ w. more_domains disjoint n mark w no_domains) (first locals [] z.0 z.1) in
      let inside = formula_is body b.0 (settled d a.0.1 [] body) (second a.0.1 []) b.1 in
      tree_is (quantified q p (more_domains disjoint n mark x no_domains) body) (record { tree = quantified q p a.0.0 b.0; kind = sorts.formula }) y b.2
      (λ i. quantified q p (domain i) (inside i))

  abbrev pub StayAll : PhraseTrees → Type 0
  StayAll xs = (locals : List typing.Local) (ys : PhraseTrees) → formulas_settled d locals xs ≡ Ok ys → ys ≡ xs

  pub none_stay : StayAll no_phrases
  none_stay locals ys h = sym (same_ok no_phrases ys h)

  pub more_stay : (x : PhraseTree) (xs : PhraseTrees) → StaysSo x → StayAll xs → StayAll (more_phrases x xs)
  more_stay x xs one rest locals ys h =
      let a = bind_ok (formula_from x (settled d locals [] x)) _ ys h in
      let b = bind_ok (formulas_settled d locals xs) _ ys a.2 in
      sym (same_ok (more_phrases a.0 b.0) ys b.2) ∙ ap₂ more_phrases (formula_is x a.0 (settled d locals [] x) (one locals []) a.1) (rest locals b.0 b.1)
