-- What functions answer, moved to where it is wanted.
use Rattle.std.proofs.Common.{◌≡◌, ℕ, ◌+◌, ◌<◌, List, [], ◌∷◌, ◌++◌, map, length, take, replicate, get_or, sym, ap, ◌∙◌, subst, Bool, Option, Some, None, Result, Ok, Err, IfOk}
use Rattle.std.specs.List.{slice_get}
use Rattle.std.specs.Option.{option_map}
use Rattle.std.proofs.lemmas.List.{map-append, append-nil, take_more}
use Rattle.std.proofs.lemmas.Grind.{flat_map-append}
use Rattle.std.proofs.lemmas.Option.{slice_get-map, slice_get-get_or, same_Some}
use Rattle.alloy_syntax.specs.declared.tree.Operator.TheVariants as operator
use Rattle.named_model.specs.Phrase.{PhraseTree}
use Rattle.named_model.specs.Model.{FieldTree, CalleeTree}
use Rattle.named_model.specs.declared.named.Field.{Field as CodeField}
use Rattle.named_model.specs.declared.phrase.Phrase.{Phrase}
use Rattle.named_model.specs.View.{field_view, phrase_view}
use Rattle.named_model.specs.Signatures.{top_of}
use Rattle.model_types.specs.Bounding.{Lists, operator_type}
use Rattle.model_types.specs.Typing.{Declared, Local, type_in, onto}
use Rattle.model_types.specs.Models.{or_unknown, header_of}
use Rattle.model_types.specs.Parts.Kinds.{kind_view}
use Rattle.model_types.specs.Bounds.Same.{AreSame}
use Rattle.overload_resolution.specs.Expressions.Types.{AreEachSame}
use Rattle.overload_resolution.specs.Settling.Inside.{AreAlikeWhere}
use Rattle.overload_resolution.specs.declared.shared_names.headers.Header.{Header}
use Rattle.overload_resolution.proofs.Settling.SharedDeclarations.{alike_refl}
use Rattle.overload_resolution.specs.Parts.Given.{relation_view}
use Rattle.alloy_types.specs.declared.known_callees.groups.Group.{Group}
use Rattle.alloy_types.specs.Calls.Groups.{GroupTree, local_with, entered, arities_of, group_view}
use Rattle.alloy_types.specs.Headers.Bodies.{body_of}
use Rattle.alloy_types.specs.Calls.Fields.{field_type}
use Rattle.alloy_types.specs.Calls.Known.{IsHeader}
use Rattle.alloy_types.proofs.Calls.Bounds.{each_more}

-- parameters of an unknown domain
pub unknown_entered : (asked : Bool) (d : Declared) (new now : List Local) (g : GroupTree) → g.relation ≡ None → new ≡ onto g.count (record { arity = 1; type = [] }) now → AreAlikeWhere asked new (entered d now g)
unknown_entered asked d new now g none e =
    subst (λ (ls : List Local). AreAlikeWhere asked new ls) (e ∙ ap (λ (r : Option (PhraseTree × ℕ)). onto g.count (or_unknown (local_with d now r)) now) (sym none)) (alike_refl asked new)

-- the signature of a field before its bound
pub field_typed : (d : Declared) (f : FieldTree) (t owner bound : Lists) (top : ℕ) → ((x y : Lists) → AreSame owner x → AreSame bound y → AreSame t (operator_type operator.Product x y))
    → top ≡ top_of d.signatures f.owner → AreSame owner ((top ∷ []) ∷ []) → (ls : List Local) → ls ≡ [] → AreSame bound (type_in d ls f.bound) → AreSame t (field_type d f)
field_typed d f t owner bound top all is first ls none second =
    all ((top_of d.signatures f.owner ∷ []) ∷ []) (type_in d [] f.bound) (subst (λ k. AreSame owner ((k ∷ []) ∷ [])) is first) (subst (λ (ms : List Local). AreSame bound (type_in d ms f.bound)) none second)

-- the types of fields, with one more
pub fields_more : (d : Declared) (fs : List CodeField) (i : ℕ) (f : CodeField) (ts : List Lists) (t : Lists) → i < length fs → f ≡ get_or fs i f
    → AreEachSame ts (map (field_type d) (map field_view (take i fs))) → AreSame t (field_type d (field_view f)) → AreEachSame (ts ++ t ∷ []) (map (field_type d) (map field_view (take (i + 1) fs)))
fields_more d fs i f ts t l is before same =
    let more : map field_view (take (i + 1) fs) ≡ map field_view (take i fs) ++ field_view f ∷ [] =
    ap (map field_view) (take_more fs i f l ∙ ap (λ (x : CodeField). take i fs ++ x ∷ []) (sym is)) ∙ map-append field_view (take i fs) (f ∷ []) in
    subst (λ (us : List Lists). AreEachSame (ts ++ t ∷ []) us) (sym (ap (map (field_type d)) more ∙ map-append (field_type d) (map field_view (take i fs)) (field_view f ∷ [])))
    (each_more ts (map (field_type d) (map field_view (take i fs))) t (field_type d (field_view f)) before (same, tt))

-- the arities of parameters, with those of one group more
pub arities_more : (gs : List Group) (i : ℕ) (g : Group) (a : Option ℕ) (before after : List (Option ℕ)) → i < length gs → g ≡ get_or gs i g → before ≡ arities_of (map group_view (take i gs))
    → a ≡ option_map (λ (r : PhraseTree × ℕ). r.1) (option_map relation_view g.relation) → after ≡ before ++ replicate g.count a → after ≡ arities_of (map group_view (take (i + 1) gs))
arities_more gs i g a before after l is done arity added =
    let one = λ (t : GroupTree). replicate t.count (option_map (λ (r : PhraseTree × ℕ). r.1) t.relation) in
    let more : map group_view (take (i + 1) gs) ≡ map group_view (take i gs) ++ group_view g ∷ [] =
    ap (map group_view) (take_more gs i g l ∙ ap (λ (x : Group). take i gs ++ x ∷ []) (sym is)) ∙ map-append group_view (take i gs) (g ∷ []) in
    added ∙ (λ j. done j ++ replicate g.count (arity j)) ∙ ap (λ ns. arities_of (map group_view (take i gs)) ++ ns) (sym (append-nil (one (group_view g))))
    ∙ sym (flat_map-append one (map group_view (take i gs)) (group_view g ∷ [])) ∙ ap arities_of (sym more)

-- the element of a number, seen as it stands in the list that is seen
pub seen_at : {X V : Type 0} (see : X → V) (xs : List X) (n : ℕ) (x : X) (v : V) → x ≡ get_or xs n x → n < length xs → slice_get (map see xs) n ≡ Some v → see x ≡ v
seen_at see xs n x v is l there = same_Some (see x) v (ap (λ y. Some (see y)) is ∙ sym (ap (option_map see) (slice_get-get_or xs n x l)) ∙ sym (slice_get-map see xs n) ∙ there)

-- the header and the body of the one that is meant
module _ {E : Type 0} (d : Declared) (x : CalleeTree) (C : CalleeTree → Type 0) (same : (c : CalleeTree) → C c → x ≡ c) where
  pub header_at : (r : Result (Header × Option Phrase) E) → IfOk r (λ r. r.0.parameters.items ≡ (header_of d x).parameters) → IfOk r (λ r. kind_view r.0.kind ≡ (header_of d x).kind)
      → IfOk r (λ r. (c : CalleeTree) → C c → IsHeader (Some r.0) (header_of d c))
  header_at (Ok r) parameters kind = λ c is. (parameters ∙ ap (λ y. (header_of d y).parameters) (same c is), kind ∙ ap (λ y. (header_of d y).kind) (same c is))
  header_at (Err e) parameters kind = tt

  pub body_at : (r : Result (Header × Option Phrase) E) → IfOk r (λ r. option_map phrase_view r.1 ≡ body_of d x) → IfOk r (λ r. (c : CalleeTree) → C c → option_map phrase_view r.1 ≡ body_of d c)
  body_at (Ok r) body = λ c is. body ∙ ap (body_of d) (same c is)
  body_at (Err e) body = tt
