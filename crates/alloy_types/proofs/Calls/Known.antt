-- What the predicates and functions that are done say of another one.
use Rattle.std.proofs.Common.{◌≡◌, ℕ, zero, suc, ◌<◌, ◌≤◌, Bool, true, false, ◌||◌, ◌==◌, List, [], ◌∷◌, map, length, reverse, Option, Some, None, Result, Ok, Err, refl, sym, ap, ◌∙◌, subst, inl, inr, arith}
use Rattle.std.specs.List.{slice_get, slice_index_or}
use Rattle.std.specs.Option.{option_map}
use Rattle.std.proofs.lemmas.Option.{slice_get_cases, slice_get_past}
use Rattle.std.proofs.lemmas.Bool.{cases_Bool, eqb-true}
use Rattle.named_model.specs.Phrase.{PhraseTree}
use Rattle.named_model.specs.Model.{MeaningTree, formulas, value, CalleeTree, NamedTree}
use Rattle.model_types.specs.declared.fault.TypeFault.{TypeFault}
use Rattle.model_types.specs.Bounding.{Lists}
use Rattle.model_types.specs.Typing as typing
use Rattle.model_types.specs.Typing.{Local, Field, Declared, Settled, settled, call_type}
use Rattle.model_types.specs.Models.{or_unknown, Domain, parameters_known, domains_known, field_declared, header_of, callee_within, declared_in}
use Rattle.model_types.specs.Bounds.Same.{AreSame}
use Rattle.overload_resolution.specs.declared.shared_names.headers.Header.{Header}
use Rattle.overload_resolution.specs.Names.Headers.{with_type}
use Rattle.overload_resolution.specs.Expressions.Types.{AreEachSame, calls_within}
use Rattle.alloy_types.specs.Declarations.Same.{AreSameFields, IsSameHeader, AreSameHeaders, AreSameDeclared}
use Rattle.overload_resolution.proofs.Settling.Typed.{within_alike}
use Rattle.alloy_types.specs.Headers.Called.{EachCalled, EachCalledInMeaning, EachCalledBy, AreRanks}
use Rattle.alloy_types.specs.Headers.Bodies.{tree_of, body_in, body_of, bodies_of, AreLow}
use Rattle.alloy_types.proofs.Headers.SameAnswers.{Alike}
use Rattle.alloy_types.proofs.Headers.Agreeing.{settled_agrees, known_agree, header_agrees}
use Rattle.alloy_types.proofs.Headers.Ranks.{headers_by_ranks}
use Rattle.alloy_types.proofs.Headers.Bodies.{calls_by_bodies}
use Rattle.alloy_types.specs.Calls.Known.{IsHeader, AreKnown}
use Rattle.alloy_types.proofs.SameCalls.Headers.{header_same, body_same}
use Rattle.alloy_types.proofs.Calls.Bodies.{EachCalledIn, calls_alike}

-- ---- bodies

-- what a function makes of the thing of a number
abbrev found : {X Y : Type 0} → (X → Option Y) → Option X → Option Y
found f None = None
found f (Some x) = f x

pub found_at : {X Y : Type 0} (f : X → Option Y) (xs : List X) (n : ℕ) → slice_index_or (map f xs) n None ≡ found f (slice_get xs n)
found_at f [] n = refl
found_at f (x ∷ xs) zero = refl
found_at f (x ∷ xs) (suc n) = found_at f xs n

module _ (m : NamedTree) where
  abbrev pub fields_of : List Field
  fields_of = map (field_declared m) m.fields

  abbrev pub types_of_fields : List Lists
  types_of_fields = map (λ (f : Field). f.type) fields_of

  pub body_at : (n : ℕ) (c : CalleeTree) → slice_get m.callees n ≡ Some c → slice_index_or (bodies_of m) n None ≡ body_of (declared_in m) c
  body_at n c e = found_at (body_of (declared_in m)) m.callees n ∙ ap (found (body_of (declared_in m))) e

  tree_called : (P : ℕ → Type 0) (a b : Result Settled TypeFault) → Alike (λ (y : Settled). EachCalled P y.tree) a b → EachCalledIn P (tree_of a)
  tree_called P (Ok y) b h = h.holds
  tree_called P (Err e) b h = tt

  meaning_called : (P : ℕ → Type 0) (locals : List Local) (x : MeaningTree) → EachCalledInMeaning P x → EachCalledIn P (body_in (declared_in m) locals x)
  meaning_called P locals (formulas xs) h = tt
  meaning_called P locals (value range body) h =
      tree_called P (settled (declared_in m) locals [] body) (settled (declared_in m) locals [] body)
      (settled_agrees m.signatures fields_of (declared_in m).callee (declared_in m).callee P (λ n d. refl) locals [] body h.1)

  -- a body calls what its paragraph calls
  pub body_called : (P : ℕ → Type 0) (c : CalleeTree) → EachCalledBy P c → EachCalledIn P (body_of (declared_in m) c)
  body_called P c h = meaning_called P (reverse (map or_unknown (parameters_known (domains_known (declared_in m) [] c.parameters)))) c.meaning h.1

  pub body_past : (P : ℕ → Type 0) (n : ℕ) (o : Option CalleeTree) → slice_get m.callees n ≡ o → ((c : CalleeTree) → slice_get m.callees n ≡ Some c → EachCalledBy P c) → EachCalledIn P (slice_index_or (bodies_of m) n None)
  body_past P n None e h = subst (EachCalledIn P) (sym (found_at (body_of (declared_in m)) m.callees n ∙ ap (found (body_of (declared_in m))) e)) tt
  body_past P n (Some c) e h = subst (EachCalledIn P) (sym (body_at n c e)) (body_called P c (h c e))

-- ---- headers

-- what is known of a predicate or function, by headers and bodies
abbrev pub known_by : NamedTree → List Lists → List Header → List (Option PhraseTree) → ℕ → Option typing.Header
known_by m ts headers bodies n = option_map (with_type (calls_within m.signatures ts bodies (length m.callees) n)) (slice_get headers n)

abbrev pub declared_with : NamedTree → List Field → List Lists → List Header → List (Option PhraseTree) → Declared
declared_with m es ts headers bodies = record { signatures = m.signatures; fields = es; callee = known_by m ts headers bodies }

-- one of two headers
abbrev choose : Bool → Option typing.Header → Option typing.Header → Option typing.Header
choose true a b = a
choose false a b = b

module _ (m : NamedTree) (rank : ℕ → ℕ) (ranked : AreRanks m rank) (low : AreLow m rank) (es : List Field) (ts : List Lists) (fields : AreSameFields es (fields_of m)) (each : AreEachSame ts (types_of_fields m))
    (done : ℕ → Bool) (headers : List Header) (bodies : List (Option PhraseTree)) (are : AreKnown m done headers bodies)
    (closed : (n : ℕ) (c : CalleeTree) → slice_get m.callees n ≡ Some c → done n ≡ true → EachCalledBy (λ l. done l ≡ true) c) where
  abbrev Done : ℕ → Type 0
  Done n = done n ≡ true

  -- what is declared by them
  abbrev by_known : ℕ → Option typing.Header
  by_known = known_by m ts headers bodies

  abbrev declared_known : Declared
  declared_known = declared_with m es ts headers bodies

  -- what is done as it is, and others as they are known
  abbrev by_done : ℕ → Option typing.Header
  by_done n = choose (done n) ((declared_in m).callee n) (by_known n)

  -- what is known of one
  pub known_once : (n : ℕ) (c : CalleeTree) → slice_get m.callees n ≡ Some c → (declared_in m).callee n ≡ Some (header_of (declared_in m) c)
  known_once n c e =
      headers_by_ranks m rank (length m.callees) (suc (length m.callees)) n ranked (low n c e) (omega (arith, low n c e))
      ∙ ap (option_map (header_of (declared_in m))) e

  lower : (n : ℕ) → Done n → EachCalledIn Done (slice_index_or (bodies_of m) n None)
  lower n d = body_past m Done n (slice_get m.callees n) refl (λ c e. closed n c e d)

  same_calls : (n : ℕ) → Done n → (xs ys : List Lists) → AreEachSame xs ys → AreSame (calls_within m.signatures ts bodies (length m.callees) n xs) (call_type ((declared_in m).callee n) ys)
  same_calls n d xs ys h =
      subst (λ (a : Lists). AreSame (calls_within m.signatures ts bodies (length m.callees) n xs) a) (calls_by_bodies m rank ranked low n ys)
      (calls_alike m.signatures ts (types_of_fields m) each bodies (bodies_of m) done are.each_body are.unknown lower (length m.callees) n d xs ys h)

  -- a call without arguments of what is done, for every depth of calls
  pub same_within : (k n : ℕ) → Done n → AreSame (calls_within m.signatures ts bodies k n []) (calls_within m.signatures (types_of_fields m) (bodies_of m) k n [])
  same_within k n d = calls_alike m.signatures ts (types_of_fields m) each bodies (bodies_of m) done are.each_body are.unknown lower k n d [] [] tt

  header_is : (n : ℕ) (type : List Lists → Lists) (o : Option Header) (h : typing.Header) → IsHeader o h → ((xs ys : List Lists) → AreEachSame xs ys → AreSame (type xs) (h.type ys))
      → AreSameHeaders (option_map (with_type type) o) (Some h)
  header_is n type None h is same = absurd is
  header_is n type (Some g) h is same = record { parameters = is.0; kinds = is.1; types = same }

  none_past : (n : ℕ) → slice_get m.callees n ≡ None → length m.callees ≤ n → AreSameHeaders (by_known n) ((declared_in m).callee n)
  none_past n e l =
      subst (λ (o : Option Header). AreSameHeaders (option_map (with_type (calls_within m.signatures ts bodies (length m.callees) n)) o) ((declared_in m).callee n))
      (sym (slice_get_past headers n (omega (arith, l, are.headers_long)))) (none (length m.callees))
    where
      none : (k : ℕ) → AreSameHeaders None (callee_within m k n)
      none zero = tt
      none (suc k) = subst (λ (o : Option CalleeTree). AreSameHeaders None (option_map (header_of (record { signatures = m.signatures; fields = fields_of m; callee = callee_within m k })) o)) (sym e) tt

  -- the header of what is done, or of no number
  pub same_where_done : (n : ℕ) → Done n → AreSameHeaders (by_known n) ((declared_in m).callee n)
  same_where_done n d = elim (slice_get_cases m.callees n).1 [
    | inl some ↦ there some.0 some.2
    | inr none ↦ none_past n none.1 none.0
  ]
    where
      there : (c : CalleeTree) → slice_get m.callees n ≡ Some c → AreSameHeaders (by_known n) ((declared_in m).callee n)
      there c e =
          subst (λ (o : Option typing.Header). AreSameHeaders (by_known n) o) (sym (known_once n c e))
          (header_is n (calls_within m.signatures ts bodies (length m.callees) n) (slice_get headers n) (header_of (declared_in m) c) (are.each_header n c e d)
          (λ xs ys h. subst (λ (o : Option typing.Header). AreSame (calls_within m.signatures ts bodies (length m.callees) n xs) (call_type o ys)) (known_once n c e) (same_calls n d xs ys h)))

  as_known : (n : ℕ) (o : Option Header) → AreSameHeaders (option_map (with_type (calls_within m.signatures ts bodies (length m.callees) n)) o) (option_map (with_type (calls_within m.signatures ts bodies (length m.callees) n)) o)
  as_known n None = tt
  as_known n (Some g) = record { parameters = refl; kinds = refl; types = (within_alike m.signatures ts bodies (length m.callees)).calls n }

  same_headers : (n : ℕ) → AreSameHeaders (by_known n) (by_done n)
  same_headers n = go (done n) refl
    where
      go : (b : Bool) → done n ≡ b → AreSameHeaders (by_known n) (by_done n)
      go true e = subst (λ (b : Bool). AreSameHeaders (by_known n) (choose b ((declared_in m).callee n) (by_known n))) (sym e) (same_where_done n e)
      go false e = subst (λ (b : Bool). AreSameHeaders (by_known n) (choose b ((declared_in m).callee n) (by_known n))) (sym e) (as_known n (slice_get headers n))

  agree : (n : ℕ) → Done n → by_done n ≡ (declared_in m).callee n
  agree n d = ap (λ (b : Bool). choose b ((declared_in m).callee n) (by_known n)) d

  -- a predicate or function that calls only what is done has the same header by what is known
  pub header_now : (c : CalleeTree) → EachCalledBy Done c → IsSameHeader (header_of declared_known c) (header_of (declared_in m) c)
  header_now c h =
      subst (λ (k : typing.Header). IsSameHeader (header_of declared_known c) k) (header_agrees m.signatures (fields_of m) by_done (declared_in m).callee Done agree c h)
      (header_same m.signatures es (fields_of m) by_known by_done fields same_headers c)

  abbrev where_done : Declared
  where_done = record { signatures = m.signatures; fields = fields_of m; callee = by_done }

  meaning_agrees : (locals : List Local) (x : MeaningTree) → EachCalledInMeaning Done x → body_in where_done locals x ≡ body_in (declared_in m) locals x
  meaning_agrees locals (formulas xs) h = refl
  meaning_agrees locals (value range body) h = ap tree_of (settled_agrees m.signatures (fields_of m) by_done (declared_in m).callee Done agree locals [] body h.1).same

  -- and the same body
  pub body_now : (c : CalleeTree) → EachCalledBy Done c → body_of declared_known c ≡ body_of (declared_in m) c
  body_now c h =
      body_same m.signatures es (fields_of m) by_known by_done fields same_headers c
      ∙ meaning_agrees (reverse (map or_unknown (parameters_known (domains_known where_done [] c.parameters)))) c.meaning h.1
      ∙ ap (λ (ds : List Domain). body_in (declared_in m) (reverse (map or_unknown (parameters_known ds))) c.meaning)
      (known_agree m.signatures (fields_of m) by_done (declared_in m).callee Done agree [] c.parameters h.0)

  -- where all are done, what is declared is the same
  pub all_same : ((n : ℕ) → n < length m.callees → Done n) → AreSameDeclared declared_known (declared_in m)
  all_same all = record {
    signatures = refl;
    fields = fields;
    callees = λ n. elim (slice_get_cases m.callees n).1 [
      | inl some ↦ same_where_done n (all n some.1)
      | inr none ↦ none_past n none.1 none.0
    ];
  }

-- one more is done
module _ (m : NamedTree) (done more : ℕ → Bool) (headers new_headers : List Header) (bodies new_bodies : List (Option PhraseTree)) (are : AreKnown m done headers bodies) (n : ℕ) (c : CalleeTree) (there : slice_get m.callees n ≡ Some c)
    (more_is : (k : ℕ) → more k ≡ (done k || (n == k)))
    (headers_long : length new_headers ≡ length headers) (bodies_long : length new_bodies ≡ length bodies)
    (header : IsHeader (slice_get new_headers n) (header_of (declared_in m) c)) (body : slice_index_or new_bodies n None ≡ body_of (declared_in m) c)
    (other_headers : (k : ℕ) → (n == k) ≡ false → slice_get new_headers k ≡ slice_get headers k) (other_bodies : (k : ℕ) → (n == k) ≡ false → slice_index_or new_bodies k None ≡ slice_index_or bodies k None) where
  was : (k : ℕ) → (n == k) ≡ false → more k ≡ done k
  was k e = more_is k ∙ ap (λ (b : Bool). done k || b) e ∙ right (done k)
    where
      right : (b : Bool) → (b || false) ≡ b
      right true = refl
      right false = refl

  never : (b : Bool) → (b || true) ≡ false → ⊥
  never true e = absurd cc
  never false e = absurd cc

  pub known_more : AreKnown m more new_headers new_bodies
  known_more = record {
    headers_long = headers_long ∙ are.headers_long;
    bodies_long = bodies_long ∙ are.bodies_long;
    each_header = λ k d e h. elim (cases_Bool (n == k)) [
      | inl here ↦ header_here k (eqb-true n k here) d e
      | inr apart ↦ subst (λ (o : Option Header). IsHeader o (header_of (declared_in m) d)) (sym (other_headers k apart)) (are.each_header k d e (sym (was k apart) ∙ h))
    ];
    each_body = λ k h. elim (cases_Bool (n == k)) [
      | inl here ↦ subst (λ (j : ℕ). slice_index_or new_bodies j None ≡ slice_index_or (bodies_of m) j None) (eqb-true n k here) (body ∙ sym (body_at m n c there))
      | inr apart ↦ other_bodies k apart ∙ are.each_body k (sym (was k apart) ∙ h)
    ];
    unknown = λ k h. elim (cases_Bool (n == k)) [
      | inl here ↦ absurd (never (done k) (sym (more_is k ∙ ap (λ (b : Bool). done k || b) here) ∙ h))
      | inr apart ↦ other_bodies k apart ∙ are.unknown k (sym (was k apart) ∙ h)
    ];
  }
    where
      some_is : {X : Type 0} (x y : X) → Some x ≡ Some y → x ≡ y
      some_is x y e = cc

      header_here : (k : ℕ) → n ≡ k → (d : CalleeTree) → slice_get m.callees k ≡ Some d → IsHeader (slice_get new_headers k) (header_of (declared_in m) d)
      header_here k e d at =
          subst (λ (x : CalleeTree). IsHeader (slice_get new_headers k) (header_of (declared_in m) x)) (some_is c d (sym there ∙ ap (slice_get m.callees) e ∙ at))
          (subst (λ (j : ℕ). IsHeader (slice_get new_headers j) (header_of (declared_in m) c)) e header)
