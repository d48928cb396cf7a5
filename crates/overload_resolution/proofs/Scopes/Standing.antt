-- What tables say is declared.
use Rattle.std.proofs.Common.{◌≡◌, ℕ, zero, suc, ◌≤◌, List, [], ◌∷◌, map, length, Option, Some, None, refl, sym, ap, ◌∙◌, subst, inl, inr, arith}
use Rattle.std.specs.List.{slice_get, slice_index_or, list_any}
use Rattle.std.specs.Option.{option_map}
use Rattle.std.specs.Prelude.{Result, Ok, Err, IfOk}
use Rattle.std.proofs.lemmas.Option.{slice_get_cases}
use Rattle.std.proofs.lemmas.List.{length-map}
use Rattle.alloy_lex.specs.declared.token.Place.{Place}
use Rattle.named_model.specs.declared.phrase.Referent.TheVariants as referent
use Rattle.named_model.specs.Phrase.{refers, PhraseTree}
use Rattle.named_model.specs.View.{phrase_view}
use Rattle.model_types.specs.declared.fault.TypeFault.{TypeFault}
use Rattle.model_types.specs.declared.fault.TypeFault.TheVariants as fault
use Rattle.model_types.specs.Sorts.{relation}
use Rattle.model_types.specs.Bounding.{Lists}
use Rattle.model_types.specs.Typing.{Field, Declared, Settled, Local, types_in, is_field, call_type, referent_settled}
use Rattle.model_types.specs.Bounds.Same.{AreSame}
use Rattle.overload_resolution.specs.Fields.Entries.{Entry, entry_of}
use Rattle.overload_resolution.specs.declared.shared_names.headers.Header.{Header}
use Rattle.overload_resolution.specs.Names.Headers.{with_type}
use Rattle.overload_resolution.specs.Expressions.Types.{AreEachSame, StandFor, called_type, calls_within, types_within, AreCallTypes, bodies_view}
use Rattle.overload_resolution.specs.declared.typed_scopes.setting.Setting.{Setting}
use Rattle.overload_resolution.specs.Scopes.Given.{field_with}
use Rattle.overload_resolution.specs.Scopes.Declaring.{fields_by, declared_by, AreTables}
use Rattle.overload_resolution.specs.Settling.Same.{AreSameTypes}
use Rattle.overload_resolution.proofs.Settling.Typed.{within_alike}

pub entries_are : (es : List Entry) (ts : List Lists) → map entry_of (fields_by es ts) ≡ es
entries_are [] ts = refl
entries_are (e ∷ es) [] = ap (λ fs. e ∷ fs) (entries_are es [])
entries_are (e ∷ es) (t ∷ ts) = ap (λ fs. e ∷ fs) (entries_are es ts)

types_are : (es : List Entry) (ts : List Lists) → length ts ≡ length es → map (λ (f : Field). f.type) (fields_by es ts) ≡ ts
types_are [] [] e = refl
types_are [] (t ∷ ts) e = absurd (omega (arith, e))
types_are (x ∷ es) [] e = absurd (omega (arith, e))
types_are (x ∷ es) (t ∷ ts) e = ap (λ us. t ∷ us) (types_are es ts (omega (arith, e)))

pub arity_is : (es : List Entry) (ts : List Lists) (n : ℕ) → option_map (λ (f : Field). f.arity) (slice_get (fields_by es ts) n) ≡ option_map (λ (e : Entry). e.arity) (slice_get es n)
arity_is [] ts n = refl
arity_is (e ∷ es) [] zero = refl
arity_is (e ∷ es) [] (suc n) = arity_is es [] n
arity_is (e ∷ es) (t ∷ ts) zero = refl
arity_is (e ∷ es) (t ∷ ts) (suc n) = arity_is es ts n

-- ---- what fields and local names are, by their arities

abbrev pub local_with : Place → ℕ → Option ℕ → Result Settled TypeFault
local_with p n None = Err (fault.Sort p)
local_with p n (Some m) = Ok (record { tree = refers p (referent.Local n); kind = relation m })

pub field_is : (d : Declared) (p : Place) (n : ℕ) → is_field d p n ≡ field_with p n (option_map (λ (f : Field). f.arity) (slice_get d.fields n))
field_is d p n = go (slice_get d.fields n)
  where
    go : (o : Option Field) → elim o [
      | None ↦ Err (fault.Sort p)
      | Some field ↦ Ok (record { tree = refers p (referent.Field n); kind = relation field.arity })
    ] ≡ field_with p n (option_map (λ (f : Field). f.arity) o)
    go None = refl
    go (Some f) = refl

pub field_declared : (s : Setting) (p : Place) (n : ℕ) (arity : Option ℕ) → arity ≡ option_map (λ (e : Entry). e.arity) (slice_get s.fields n) → is_field (declared_by s) p n ≡ field_with p n arity
field_declared s p n arity e = field_is (declared_by s) p n ∙ ap (field_with p n) (arity_is s.fields s.types.fields.items n ∙ sym e)

pub local_is : (d : Declared) (locals : List Local) (tops : List ℕ) (p : Place) (n : ℕ) (arity : Option ℕ) → arity ≡ option_map (λ (l : Local). l.arity) (slice_get locals n)
    → referent_settled d locals tops p (referent.Local n) ≡ local_with p n arity
local_is d locals tops p n arity e = go (slice_get locals n) ∙ ap (local_with p n) (sym e)
  where
    go : (o : Option Local) → elim o [
      | None ↦ Err (fault.Sort p)
      | Some l ↦ Ok (record { tree = refers p (referent.Local n); kind = relation l.arity })
    ] ≡ local_with p n (option_map (λ (l : Local). l.arity) o)
    go None = refl
    go (Some l) = refl

-- ---- types

none_behind : {X : Type 0} (xs : List X) (d : X) (n : ℕ) → length xs ≤ n → slice_index_or xs n d ≡ d
none_behind [] d n l = refl
none_behind (x ∷ xs) d zero l = absurd (omega (arith, l))
none_behind (x ∷ xs) d (suc n) l = none_behind xs d n (omega (arith, l))

module _ (s : Setting) (are : AreTables s) where
  field_types : map (λ (f : Field). f.type) (declared_by s).fields ≡ s.types.fields.items
  field_types = types_are s.fields s.types.fields.items are.fields

  no_calls : (k : ℕ) (n : ℕ) (arguments : List Lists) → length s.headers.items ≤ n → calls_within s.signatures.now s.types.fields.items (bodies_view s.types.bodies.items) k n arguments ≡ []
  no_calls zero n arguments l = refl
  no_calls (suc k) n arguments l =
      ap (λ (body : Option PhraseTree). called_type (types_within s.signatures.now s.types.fields.items (bodies_view s.types.bodies.items) k) body arguments)
      (none_behind (bodies_view s.types.bodies.items) None n (omega (arith, l, are.callees, length-map s.types.bodies.items (option_map phrase_view))))

  calls_are : (n : ℕ) (arguments : List Lists) → calls_within s.signatures.now s.types.fields.items (bodies_view s.types.bodies.items) s.calls n arguments ≡ (types_in (declared_by s)).calls n arguments
  calls_are n arguments = elim (slice_get_cases s.headers.items n).1 [
    | inl some ↦ sym (ap (λ (h : Option Header). call_type (option_map (with_type (calls_within s.signatures.now s.types.fields.items (bodies_view s.types.bodies.items) s.calls n)) h) arguments) some.2)
    | inr none ↦ no_calls s.calls n arguments none.0 ∙ sym (ap (λ (h : Option Header). call_type (option_map (with_type (calls_within s.signatures.now s.types.fields.items (bodies_view s.types.bodies.items) s.calls n)) h) arguments) none.1)
  ]

  pub stands : StandFor s.types s.calls (types_in (declared_by s))
  stands = record {
    at_the_top = are.at_the_top;
    over = are.over;
    fields = λ f t. ap (λ (ts : List Lists). list_any t (slice_index_or ts f [])) (sym field_types);
    of_calls = λ n arguments t.
        ap (λ (ts : List Lists). list_any t (calls_within s.signatures.now ts (bodies_view s.types.bodies.items) s.calls n arguments)) field_types
        ∙ ap (list_any t) (calls_are n arguments);
    kept = subst (λ (ts : List Lists). AreCallTypes s.signatures.now ts (bodies_view s.types.bodies.items) s.types.kept.items) (sym field_types) are.kept;
  }

  same_calls : (h : Option Header) (n : ℕ) (xs ys : List Lists) → AreEachSame xs ys
      → AreSame (call_type (option_map (with_type (calls_within s.signatures.now s.types.fields.items (bodies_view s.types.bodies.items) s.calls n)) h) xs) (call_type (option_map (with_type (calls_within s.signatures.now s.types.fields.items (bodies_view s.types.bodies.items) s.calls n)) h) ys)
  same_calls None n xs ys e = λ t. refl
  same_calls (Some h) n xs ys e = (within_alike s.signatures.now s.types.fields.items (bodies_view s.types.bodies.items) s.calls).calls n xs ys e

  pub same_types : AreSameTypes (types_in (declared_by s)) (types_in (declared_by s))
  same_types = record {
    at_the_top = refl;
    over = λ n. refl;
    fields = λ f t. refl;
    calls = λ n xs ys e. same_calls (slice_get s.headers.items n) n xs ys e;
  }

-- what a function of types ensures for all types that the tables stand for
pub where_they_stand : {X E : Type 0} (r : Result X E) (P Q : X → Type 0) → ((x : X) → P x → Q x) → IfOk r P → IfOk r Q
where_they_stand (Ok x) P Q f p = f x p
where_they_stand (Err e) P Q f p = p
