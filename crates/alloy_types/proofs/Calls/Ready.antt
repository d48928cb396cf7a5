-- The tables of a model, as one predicate or function after the other is done.
use Rattle.std.proofs.Common.{◌≡◌, ◌≢◌, ℕ, zero, suc, ◌+◌, ◌<◌, ◌≤◌, Bool, true, false, ◌||◌, ◌==◌, List, [], ◌∷◌, map, length, take, replicate, Option, Some, None, IfSome, refl, sym, ap, ◌∙◌, subst, inl, inr, arith}
use Rattle.std.specs.List.{slice_get, slice_index_or, slice_set}
use Rattle.std.specs.Option.{option_map}
use Rattle.std.proofs.lemmas.List.{take_all, length-map, length-set, length-replicate, get_or-set_same, get_or-set_other}
use Rattle.std.proofs.lemmas.Bool.{eq-eqb}
use Rattle.std.proofs.lemmas.Option.{slice_get-get_or, slice_get_within, slice_get_cases}
use Rattle.named_model.specs.Phrase.{PhraseTree}
use Rattle.named_model.specs.Model.{CalleeTree, NamedTree}
use Rattle.named_model.specs.Signatures.{tops, top_of}
use Rattle.named_model.specs.declared.named.Callee.{Callee}
use Rattle.named_model.specs.View.{phrase_view, callee_view}
use Rattle.named_model.specs.Faults.{callees_of}
use Rattle.model_types.specs.Bounding.{Lists}
use Rattle.model_types.specs.Bounds.Same.{AreSame}
use Rattle.model_types.specs.Typing.{Field, Declared}
use Rattle.model_types.specs.Models.{signatures_alone, header_of, declared_in}
use Rattle.model_types.specs.Parts.Tables.{entry}
use Rattle.overload_resolution.specs.declared.shared_names.headers.Header.{Header}
use Rattle.overload_resolution.specs.Names.Headers.{with_type}
use Rattle.overload_resolution.specs.declared.expression_types.known.KeptType.{KeptType}
use Rattle.overload_resolution.specs.Expressions.Types.{AreEachSame, calls_within, bodies_view, kept_with, kept_at, AreCallTypes}
use Rattle.overload_resolution.specs.declared.typed_scopes.setting.Setting.{Setting}
use Rattle.overload_resolution.specs.Scopes.Declaring.{fields_by, declared_by, alone, AreTables}
use Rattle.alloy_types.specs.Declarations.Same.{AreSameFields, IsSameHeader, AreSameDeclared}
use Rattle.alloy_types.specs.Headers.Called.{EachCalledBy, AreRanks}
use Rattle.alloy_types.specs.Headers.Bodies.{body_of, AreLow}
use Rattle.reference_cycles.specs.Cycles.Walks.{among}
use Rattle.reference_cycles.specs.Cycles.Orders.{IsOrder}
use Rattle.alloy_types.specs.Calls.Fields.{field_type, field_entry}
use Rattle.alloy_types.specs.Calls.Known.{IsHeader, IsKept, AreKnown}
use Rattle.alloy_types.specs.Calls.Ready.{HasFields, AreKept, IsReady}
use Rattle.alloy_types.proofs.Calls.Bounds.{fields_same, types_same, each_length}
use Rattle.alloy_types.proofs.Calls.Known.{types_of_fields, fields_of, declared_with, header_now, body_now, all_same, known_more, known_once, same_within}
use Rattle.alloy_types.proofs.Calls.Kept.{by_all, one_kept, kept_more, unkept_more}
use Rattle.overload_resolution.proofs.Expressions.Calling.{nothing_kept, nothing_kept_at}
use Rattle.alloy_types.proofs.Calls.Orders as orders

-- ---- tables

-- other headers, bodies and calls
pub fields_stay : (m : NamedTree) (old new : Setting) → new.signatures.now ≡ old.signatures.now → new.fields ≡ old.fields → new.types.tops.items ≡ old.types.tops.items → new.types.over.items ≡ old.types.over.items
    → new.types.fields.items ≡ old.types.fields.items → length new.types.bodies.items ≤ length new.headers.items → AreCallTypes new.signatures.now new.types.fields.items (bodies_view new.types.bodies.items) new.types.kept.items → HasFields m old → HasFields m new
fields_stay m old new signatures fields tops_are over types few kept has = record {
  tables = record {
    at_the_top = tops_are ∙ has.tables.at_the_top ∙ ap tops (sym signatures);
    over = λ n. ap (λ (t : List ℕ). entry t n) over ∙ has.tables.over n ∙ ap (λ s. top_of s n) (sym signatures);
    fields = ap length types ∙ has.tables.fields ∙ ap length (sym fields);
    callees = few;
    kept = kept;
  };
  signatures = signatures ∙ has.signatures;
  fields = fields ∙ has.fields;
  types = subst (λ ts. AreEachSame ts (map (field_type (signatures_alone m)) m.fields)) (sym types) has.types;
}

pub fields_kept : (m : NamedTree) (old new : Setting) → AreKept old new → length new.headers.items ≡ length old.headers.items → length new.types.bodies.items ≡ length old.types.bodies.items
    → AreCallTypes new.signatures.now new.types.fields.items (bodies_view new.types.bodies.items) new.types.kept.items → HasFields m old → HasFields m new
fields_kept m old new k h b kept has = fields_stay m old new k.signatures k.fields k.tops k.over k.types (omega (arith, h, b, has.tables.callees)) kept has

-- fields that are found by the signatures alone
pub fields_start : (m : NamedTree) (old new : Setting) → AreTables old → declared_by old ≡ alone m.signatures → new.signatures.now ≡ m.signatures → new.signatures.now ≡ old.signatures.now → new.types.tops.items ≡ old.types.tops.items
    → new.types.over.items ≡ old.types.over.items → length new.types.bodies.items ≤ length new.headers.items → new.types.kept.items ≡ [] → AreEachSame new.types.fields.items (map (field_type (declared_by old)) m.fields)
    → new.fields ≡ map (field_entry (declared_by old)) m.fields → HasFields m new
fields_start m old new are declared of_model signatures tops_are over few kept types entries = record {
  tables = record {
    at_the_top = tops_are ∙ are.at_the_top ∙ ap tops (sym signatures);
    over = λ n. ap (λ (t : List ℕ). entry t n) over ∙ are.over n ∙ ap (λ s. top_of s n) (sym signatures);
    fields = omega (arith, each_length new.types.fields.items (map (field_type (declared_by old)) m.fields) types, length-map m.fields (field_type (declared_by old)), length-map m.fields (field_entry (declared_by old)), ap length entries);
    callees = few;
    kept = nothing_kept new.signatures.now new.types.fields.items (bodies_view new.types.bodies.items) new.types.kept.items 0 kept;
  };
  signatures = of_model;
  fields = entries ∙ ap (λ (d : Declared). map (field_entry d) m.fields) declared;
  types = subst (λ (d : Declared). AreEachSame new.types.fields.items (map (field_type d) m.fields)) declared types;
}

-- ---- lists

never : false ≡ true → ⊥
never e = absurd cc

apart : (i j : ℕ) → (i == j) ≡ false → i ≢ j
apart i j e is = never (sym e ∙ eq-eqb i j is)

get_set_other : {X : Type 0} (xs : List X) (i j : ℕ) (y : X) → i ≢ j → slice_get (slice_set xs i y) j ≡ slice_get xs j
get_set_other [] i j y h = refl
get_set_other (x ∷ xs) zero zero y h = absurd (h refl)
get_set_other (x ∷ xs) zero (suc j) y h = refl
get_set_other (x ∷ xs) (suc i) zero y h = refl
get_set_other (x ∷ xs) (suc i) (suc j) y h = get_set_other xs i j y (λ e. h (ap suc e))

at_set_other : {X : Type 0} (xs : List X) (i j : ℕ) (y d : X) → i ≢ j → slice_index_or (slice_set xs i y) j d ≡ slice_index_or xs j d
at_set_other xs i j y d h = get_or-set_other xs i j y d (λ e. h (sym e))

get_set_same : {X : Type 0} (xs : List X) (i : ℕ) (y : X) → i < length xs → slice_get (slice_set xs i y) i ≡ Some y
get_set_same xs i y l = slice_get-get_or (slice_set xs i y) i y (omega (arith, l, length-set xs i y)) ∙ ap Some (get_or-set_same xs i y y l)

-- ---- nothing is known

none_at : (n k : ℕ) → slice_index_or (bodies_view (replicate n None)) k None ≡ None
none_at zero k = refl
none_at (suc n) zero = refl
none_at (suc n) (suc k) = none_at n k

pub ready_start : (m : NamedTree) (s : Setting) → HasFields m s → s.calls ≡ length m.callees → length s.headers.items ≡ length m.callees → s.types.bodies.items ≡ replicate (length m.callees) None → s.types.kept.items ≡ replicate (length m.callees) None → IsReady m (λ n. false) s
ready_start m s has calls headers bodies kept = record {
  fields = has;
  calls = calls;
  known = record {
    headers_long = headers;
    bodies_long = length-map s.types.bodies.items (option_map phrase_view) ∙ ap length bodies ∙ length-replicate (length m.callees) None;
    each_header = λ n c e h. absurd (never h);
    each_body = λ n h. absurd (never h);
    unknown = λ n h. ap (λ bs. slice_index_or (bodies_view bs) n None) bodies ∙ none_at (length m.callees) n;
  };
  as_many = ap length kept ∙ length-replicate {A = Option KeptType} (length m.callees) None;
  unkept = λ n h. nothing_kept_at s.types.kept.items (length m.callees) n kept;
}

-- the predicate or function of a number
pub callee_there : (xs : List Callee) (n : ℕ) → n < length xs → (c : CalleeTree) × (slice_get (map callee_view xs) n ≡ Some c)
callee_there xs n l = elim (slice_get_cases (map callee_view xs) n).1 [
  | inl some ↦ (some.0, some.2)
  | inr none ↦ absurd (omega (arith, l, none.0, length-map xs callee_view))
]

-- ---- what is declared

pub declared_is : (m : NamedTree) (done : ℕ → Bool) (s : Setting) → IsReady m done s
    → declared_by s ≡ declared_with m (fields_by s.fields s.types.fields.items) s.types.fields.items s.headers.items (bodies_view s.types.bodies.items)
declared_is m done s r = λ i. record {
  signatures = r.fields.signatures i;
  fields = fields_by s.fields s.types.fields.items;
  callee = λ n. option_map (with_type (calls_within (r.fields.signatures i) s.types.fields.items (bodies_view s.types.bodies.items) (r.calls i) n)) (slice_get s.headers.items n);
}

module _ (m : NamedTree) (order : List ℕ) (is : IsOrder (map callees_of m.callees) order) where
  abbrev pub done_at : ℕ → ℕ → Bool
  done_at i k = among k (take i order)

  module _ (i : ℕ) (s : Setting) (r : IsReady m (done_at i) s) where
    abbrev es : List Field
    es = fields_by s.fields s.types.fields.items

    same_fields : AreSameFields es (fields_of m)
    same_fields = fields_same m m.fields s.fields s.types.fields.items r.fields.fields r.fields.types

    each : AreEachSame s.types.fields.items (types_of_fields m)
    each = types_same m m.fields s.types.fields.items r.fields.types

    abbrev rank : ℕ → ℕ
    rank = orders.rank m (map callees_of m.callees) refl order is

    -- what is known of one that calls what is done
    pub header_ready : (c : CalleeTree) → EachCalledBy (λ k. done_at i k ≡ true) c → IsSameHeader (header_of (declared_by s) c) (header_of (declared_in m) c)
    header_ready c h =
        subst (λ (d : Declared). IsSameHeader (header_of d c) (header_of (declared_in m) c)) (sym (declared_is m (done_at i) s r))
        (header_now m rank (orders.ranked m (map callees_of m.callees) refl order is) (orders.low m (map callees_of m.callees) refl order is) es s.types.fields.items same_fields each (done_at i) s.headers.items (bodies_view s.types.bodies.items) r.known
        (λ n d e h. orders.calls_done m (map callees_of m.callees) refl order is i n d e h) c h)

    pub body_ready : (c : CalleeTree) → EachCalledBy (λ k. done_at i k ≡ true) c → body_of (declared_by s) c ≡ body_of (declared_in m) c
    body_ready c h =
        ap (λ (d : Declared). body_of d c) (declared_is m (done_at i) s r)
        ∙ body_now m rank (orders.ranked m (map callees_of m.callees) refl order is) (orders.low m (map callees_of m.callees) refl order is) es s.types.fields.items same_fields each (done_at i) s.headers.items (bodies_view s.types.bodies.items) r.known
        (λ n d e h. orders.calls_done m (map callees_of m.callees) refl order is i n d e h) c h

    -- where all are done
    pub ready_all : length order ≤ i → AreSameDeclared (declared_by s) (declared_in m)
    ready_all l =
        subst (λ (d : Declared). AreSameDeclared d (declared_in m)) (sym (declared_is m (done_at i) s r))
        (all_same m rank (orders.ranked m (map callees_of m.callees) refl order is) (orders.low m (map callees_of m.callees) refl order is) es s.types.fields.items same_fields each (done_at i) s.headers.items (bodies_view s.types.bodies.items) r.known
        (λ n d e h. orders.calls_done m (map callees_of m.callees) refl order is i n d e h)
        (λ n below. ap (among n) (take_all i order l) ∙ orders.all_done m (map callees_of m.callees) refl order is n below))

    -- one more
    module _ (new : Setting) (n : ℕ) (c : CalleeTree) (header : Header) (body : Option PhraseTree) (l : i < length order) (at : n ≡ slice_index_or order i n) (there : slice_get m.callees n ≡ Some c) (kept : AreKept s new)
        (headers : new.headers.items ≡ slice_set s.headers.items n header) (bodies : bodies_view new.types.bodies.items ≡ slice_set (bodies_view s.types.bodies.items) n body)
        (header_is : IsHeader (Some header) (header_of (declared_by s) c)) (body_is : body ≡ body_of (declared_by s) c)
        (value : Option KeptType) (values : new.types.kept.items ≡ slice_set s.types.kept.items n value) (value_is : IfSome value (IsKept (declared_by s) (i + 1) body)) where
      calls : EachCalledBy (λ k. done_at i k ≡ true) c
      calls = orders.calls_before m (map callees_of m.callees) refl order is i n c l (sym at) there

      low_headers : n < length s.headers.items
      low_headers = omega (arith, slice_get_within m.callees n c there, r.known.headers_long)

      low_bodies : n < length (bodies_view s.types.bodies.items)
      low_bodies = omega (arith, slice_get_within m.callees n c there, r.known.bodies_long)

      headers_long : length new.headers.items ≡ length s.headers.items
      headers_long = ap length headers ∙ length-set s.headers.items n header

      bodies_long : length (bodies_view new.types.bodies.items) ≡ length (bodies_view s.types.bodies.items)
      bodies_long = ap length bodies ∙ length-set (bodies_view s.types.bodies.items) n body

      as_long : length new.types.bodies.items ≡ length s.types.bodies.items
      as_long = sym (length-map new.types.bodies.items (option_map phrase_view)) ∙ bodies_long ∙ length-map s.types.bodies.items (option_map phrase_view)

      header_put : IsHeader (slice_get new.headers.items n) (header_of (declared_in m) c)
      header_put =
          subst (λ (o : Option Header). IsHeader o (header_of (declared_in m) c)) (sym (ap (λ hs. slice_get hs n) headers ∙ get_set_same s.headers.items n header low_headers))
          (header_is.0 ∙ (header_ready c calls).parameters, header_is.1 ∙ (header_ready c calls).kinds)

      body_put : slice_index_or (bodies_view new.types.bodies.items) n None ≡ body_of (declared_in m) c
      body_put = ap (λ bs. slice_index_or bs n None) bodies ∙ get_or-set_same (bodies_view s.types.bodies.items) n body None low_bodies ∙ body_is ∙ body_ready c calls

      more_is : (k : ℕ) → done_at (i + 1) k ≡ (done_at i k || (n == k))
      more_is k = orders.one_more order i n k l at

      known_now : AreKnown m (done_at (i + 1)) new.headers.items (bodies_view new.types.bodies.items)
      known_now =
          known_more m (done_at i) (done_at (i + 1)) s.headers.items new.headers.items (bodies_view s.types.bodies.items) (bodies_view new.types.bodies.items) r.known n c there
          more_is headers_long bodies_long header_put body_put
          (λ k e. ap (λ hs. slice_get hs k) headers ∙ get_set_other s.headers.items n k header (apart n k e))
          (λ k e. ap (λ bs. slice_index_or bs k None) bodies ∙ at_set_other (bodies_view s.types.bodies.items) n k body None (apart n k e))

      -- ---- what is kept

      ranked_by : AreRanks m rank
      ranked_by = orders.ranked m (map callees_of m.callees) refl order is

      low_by : AreLow m rank
      low_by = orders.low m (map callees_of m.callees) refl order is

      closed_at : (j k : ℕ) (d : CalleeTree) → slice_get m.callees k ≡ Some d → done_at j k ≡ true → EachCalledBy (λ q. done_at j q ≡ true) d
      closed_at j k d e h = orders.calls_done m (map callees_of m.callees) refl order is j k d e h

      now_done : done_at (i + 1) n ≡ true
      now_done = more_is n ∙ ap (λ (b : Bool). done_at i n || b) (eq-eqb n n refl) ∙ right (done_at i n)
        where
          right : (b : Bool) → (b || true) ≡ true
          right true = refl
          right false = refl

      low_kept : n < length s.types.kept.items
      low_kept = omega (arith, slice_get_within m.callees n c there, r.as_many)

      others_kept : (k : ℕ) → (n == k) ≡ false → slice_index_or new.types.kept.items k None ≡ slice_index_or s.types.kept.items k None
      others_kept k e = ap (λ os. slice_index_or os k None) values ∙ at_set_other s.types.kept.items n k value None (apart n k e)

      value_put : slice_index_or new.types.kept.items n None ≡ value
      value_put = ap (λ os. slice_index_or os n None) values ∙ get_or-set_same s.types.kept.items n value None low_kept

      one : (k : ℕ) (a : Lists) → kept_at new.types.kept.items n k ≡ Some a → AreSame a (by_all m rank ranked_by low_by k n [])
      one k a e =
          one_kept m rank ranked_by low_by (declared_by s) n i c there
          (known_once m rank ranked_by low_by es s.types.fields.items same_fields each (done_at i) s.headers.items (bodies_view s.types.bodies.items) r.known (closed_at i) n c there)
          (header_ready c calls) (orders.place_front n (i + 1) order now_done) body body_is value value_is k a (sym (ap (λ (o : Option KeptType). kept_with o k) value_put) ∙ e)

      abbrev kept_before : AreCallTypes m.signatures s.types.fields.items (bodies_view s.types.bodies.items) s.types.kept.items
      kept_before = subst (λ ss. AreCallTypes ss s.types.fields.items (bodies_view s.types.bodies.items) s.types.kept.items) r.fields.signatures r.fields.tables.kept

      kept_now : AreCallTypes m.signatures s.types.fields.items (bodies_view new.types.bodies.items) new.types.kept.items
      kept_now =
          kept_more m rank ranked_by low_by s.types.fields.items (bodies_view s.types.bodies.items) (bodies_view new.types.bodies.items) (done_at i) (done_at (i + 1)) n more_is
          (same_within m rank ranked_by low_by es s.types.fields.items same_fields each (done_at i) s.headers.items (bodies_view s.types.bodies.items) r.known (closed_at i))
          (same_within m rank ranked_by low_by es s.types.fields.items same_fields each (done_at (i + 1)) new.headers.items (bodies_view new.types.bodies.items) known_now (closed_at (i + 1)))
          s.types.kept.items new.types.kept.items kept_before r.unkept others_kept one

      kept_new : AreCallTypes new.signatures.now new.types.fields.items (bodies_view new.types.bodies.items) new.types.kept.items
      kept_new =
          subst (λ ss. AreCallTypes ss new.types.fields.items (bodies_view new.types.bodies.items) new.types.kept.items) (sym (kept.signatures ∙ r.fields.signatures))
          (subst (λ ts. AreCallTypes m.signatures ts (bodies_view new.types.bodies.items) new.types.kept.items) (sym kept.types) kept_now)

      pub ready_more : IsReady m (done_at (i + 1)) new
      ready_more = record {
        fields = fields_kept m s new kept headers_long as_long kept_new r.fields;
        calls = kept.calls ∙ r.calls;
        known = known_now;
        as_many = ap length values ∙ length-set s.types.kept.items n value ∙ r.as_many;
        unkept =
            unkept_more m rank ranked_by low_by s.types.fields.items (bodies_view s.types.bodies.items) (bodies_view new.types.bodies.items) (done_at i) (done_at (i + 1)) n more_is
            (same_within m rank ranked_by low_by es s.types.fields.items same_fields each (done_at i) s.headers.items (bodies_view s.types.bodies.items) r.known (closed_at i))
            (same_within m rank ranked_by low_by es s.types.fields.items same_fields each (done_at (i + 1)) new.headers.items (bodies_view new.types.bodies.items) known_now (closed_at (i + 1)))
            s.types.kept.items new.types.kept.items kept_before r.unkept others_kept one;
      }
