-- An ordered signature has all its places in every scenario.
use Rattle.std.specs.Prelude.{flat_map, bytes_eq, ◌&&◌, is_none, option_map, option_and_then}
use Rattle.std.proofs.Common.{◌≡◌, ◌↔◌, inl, inr, ℕ, zero, suc, ◌-◌, ◌==◌, ◌||◌, Bool, true, false, List, [], ◌∷◌, ◌++◌, map, get_or, slice_get, Option, Some, None, Result, Ok, Err, Contains, refl, sym, ◌∙◌, ap, subst, arith, zero-add}
use Rattle.std.specs.List.{list_any}
use Rattle.std.proofs.lemmas.Bool.{cases_Bool}
use Rattle.std.proofs.lemmas.Bool.Decides.{Decides-eqb}
use Rattle.std.proofs.lemmas.List.Quantifiers.{position-Some}
use Rattle.std.proofs.lemmas.List.Elements.{Contains-append_left, Contains-append_right, Contains-append_cases}
use Rattle.std.proofs.lemmas.Option.{get_or_from_slice_get, slice_get_within}
use Rattle.rel_formula.proofs.OpenCells.{cons_first, cons_later, cons_cases, map_has, has_map}
use Rattle.rel_formula.proofs.Lists.{some-Contains}
use Rattle.tuple_core.specs.declared.atom.Atom.{Atom}
use Rattle.rel_formula.specs.Bounds.{Bounded, relation_at}
use Rattle.alloy_lex.specs.declared.token.Place.{Place}
use Rattle.alloy_syntax.specs.declared.tree.Name.{Name}
use Rattle.alloy_syntax.specs.declared.tree.Number.{Number}
use Rattle.alloy_syntax.specs.declared.tree.Entry.{Entry}
use Rattle.alloy_syntax.specs.declared.tree.Open.{Open}
use Rattle.alloy_syntax.specs.Tree as tree
use Rattle.alloy_syntax.specs.Tree.{ParagraphTree, ModelTree}
use Rattle.named_model.specs.declared.named.Signature.{Signature}
use Rattle.named_model.specs.declared.named.Listing.{Listing}
use Rattle.named_model.specs.Model.{ScopeTree, CommandTree, NamedTree}
use Rattle.named_model.specs.Names.{Globals, number_of}
use Rattle.named_model.specs.Signatures.{no_signature, signature_at, tops}
use Rattle.named_model.specs.Declarations.{globals_of, scope_named, commands_named, named_of}
use Rattle.model_sizes.specs.declared.size.Size.{Size}
use Rattle.model_sizes.specs.Sizes.{default_of, listings_of, is_for, listing_for, is_alone, abstract_sum, size_of, sizes_of, scope_at}
use Rattle.order_lib.specs.Scopes.{is_among, with_signature, with_signatures, ordered_in, exactly, made_exact, is_listed, with_entry, with_entries, exact_entries, three, exact_scope}
use Rattle.alloy_syntax.specs.declared.tree.MultiplicityWord.{MultiplicityWord}
use Rattle.alloy_syntax.specs.declared.tree.Multiplicity.{Multiplicity}
use Rattle.alloy_syntax.specs.declared.tree.Multiplicity.TheVariants as multiplicity
use Rattle.std.proofs.lemmas.Grind.{flat_map-append}
use Rattle.rel_formula.proofs.OneSetOfAtoms.{only_one}
use Rattle.rel_formula.proofs.OpenCells.{cell_open}
use Rattle.rel_formula.specs.Instance.{InRelation}
use Rattle.model_sizes.specs.Sizes.{size, by_default, by_sum, by_listing}
use Rattle.model_types.specs.declared.fault.TypeFault.{TypeFault}
use Rattle.model_types.specs.Typing.{Declared}
use Rattle.model_types.specs.Models.{declared_in, or_same, command_settled, target_settled}
use Rattle.lowering_rules.specs.Relations.{is_exact, signature_outline}
use Rattle.lowering_rules.specs.Problem.{command_at, ProblemOf}
use Rattle.lowering_rules.proofs.Inversion.{bind_ok, same_ok}
use Rattle.lowering_rules.proofs.Arities.{map_get}
use Rattle.lowering_rules.proofs.Atoms.{outlined}
use Rattle.lowering_rules.proofs.Tops.{sized}
use Rattle.order_lib.specs.Library.{paragraphs_of}
use Rattle.order_lib.specs.Scopes.{with_exact}
use Rattle.order_lib.specs.Faults as faults
use Rattle.order_lib.specs.Faults.{first_fault}
use Rattle.order_lib.specs.Expanded.{paragraphs_with, with_orderings, expanded}
use Rattle.lowering_laws.specs.OrderingTexts.{HasPlainNames, model_of, relations_of}
use Rattle.lowering_laws.proofs.Orderings.Lines.{none_in}
use Rattle.lowering_laws.proofs.Orderings.Occurrences.{same_text, text_same, flat_map_has}
use Rattle.lowering_laws.proofs.Orderings.Listings.{passing}
use Rattle.lowering_laws.proofs.Orderings.Declared.{not_any, expanded_cases, flat_twice}
use Rattle.lowering_laws.proofs.Orderings.Named.{signature_number, signature_there}

-- ---- the ordered signatures

abbrev HasText : List Name → List ℕ → Type 0
HasText names text = is_among names text ≡ true

found : (names : List Name) (n : Name) → Contains names n → (text : List ℕ) → n.text ≡ text → HasText names text
found names n c text same = elim (cases_Bool (is_among names text)) [
  | inl yes' ↦ yes'
  | inr none ↦ absurd (not_any (λ (m : Name). bytes_eq m.text text) names n none c (text_same n.text text same))
]

held : (names : List Name) (text : List ℕ) → HasText names text → (n : Name) × Contains names n × (n.text ≡ text)
held [] text e = absurd cc
held (x ∷ names) text e = elim (cases_Bool (bytes_eq x.text text)) [
  | inl here ↦ (x, cons_first x names, same_text x.text text here)
  | inr other ↦ let there = held names text (rw other at e) in (there.0, cons_later x names there.0 there.1, there.2)
]

stays : (names : List Name) (x : Name) (text : List ℕ) → HasText names text → HasText (with_signature names x) text
stays names x text e = elim (cases_Bool (is_among names x.text)) [
  | inl there ↦ rw there e
  | inr new ↦ rw new (let at = held names text e in found (names ++ x ∷ []) at.0 (Contains-append_left names (x ∷ []) at.0 at.1) text at.2)
]

added : (names : List Name) (x : Name) → HasText (with_signature names x) x.text
added names x = elim (cases_Bool (is_among names x.text)) [
  | inl there ↦ rw there there
  | inr new ↦ rw new (found (names ++ x ∷ []) x (Contains-append_right names (x ∷ []) x (cons_first x [])) x.text refl)
]

all_stay : (names : List Name) (os : List Open) (text : List ℕ) → HasText names text → HasText (with_signatures names os) text
all_stay names [] text e = e
all_stay names (o ∷ os) text e = all_stay (with_signature names o.signature) os text (stays names o.signature text e)

all_added : (names : List Name) (os : List Open) (o : Open) → Contains os o → HasText (with_signatures names os) o.signature.text
all_added names [] o c = absurd (none_in o c)
all_added names (x ∷ os) o c = elim (cons_cases x os o c) [
  | inl same ↦ all_stay (with_signature names x.signature) os o.signature.text (subst (λ (z : Open). HasText (with_signature names x.signature) z.signature.text) same (added names x.signature))
  | inr later ↦ all_added (with_signature names x.signature) os o later
]

-- ---- the entries of a scope that are for an ordered signature

module _ (ordered : List Name) (text : List ℕ) (is : HasText ordered text) where
  -- each that is there is exact
  AreExact : List Entry → Type 0
  AreExact es = (e : Entry) → Contains es e → e.name.text ≡ text → e.exactly ≡ true

  or_true : (b : Bool) → (b || true) ≡ true
  or_true true = refl
  or_true false = refl

  made : (es : List Entry) → AreExact (map (made_exact ordered) es)
  unfolding AreExact
  made es e c same =
      let x = map_has (made_exact ordered) es e c in
      let named : x.0.name.text ≡ text = ap (λ (z : Entry). z.name.text) (sym x.2) ∙ same in
      let among : is_among ordered x.0.name.text ≡ true = subst (λ z. is_among ordered z ≡ true) (sym named) is in
      ap (λ (z : Entry). z.exactly) x.2 ∙ ap (λ b. x.0.exactly || b) among ∙ or_true x.0.exactly

  one_more : (listed : List Entry) (number : Number) (es : List Entry) (n : Name) → AreExact es → AreExact (with_entry listed number es n)
  unfolding AreExact
  one_more listed number es n all = elim (cases_Bool (is_listed listed n.text)) [
    | inl there ↦ rw there all
    | inr new ↦ rw new (λ e c same. elim (Contains-append_cases es (exactly number n ∷ []) e c) [
      | inl front ↦ all e front same
      | inr last ↦ elim (cons_cases (exactly number n) [] e last) [ inl it ↦ ap (λ (z : Entry). z.exactly) (sym it) | inr none ↦ absurd (none_in e none) ]
    ])
  ]

  more : (listed : List Entry) (number : Number) (es : List Entry) (names : List Name) → AreExact es → AreExact (with_entries listed number es names)
  more listed number es [] all = all
  more listed number es (n ∷ names) all = more listed number (with_entry listed number es n) names (one_more listed number es n all)

  pub all_exact : (number : Option Number) (listed : List Entry) (e : Entry) → Contains (exact_entries ordered number listed) e → e.name.text ≡ text → e.exactly ≡ true
  unfolding AreExact
  all_exact None listed = made listed
  all_exact (Some number) listed = more listed number (map (made_exact ordered) listed) ordered (made listed)

  -- with a default there is one
  HasEntry : List Entry → Type 0
  HasEntry es = (e : Entry) × Contains es e × (e.name.text ≡ text)

  kept : (listed : List Entry) (number : Number) (es : List Entry) (n : Name) → HasEntry es → HasEntry (with_entry listed number es n)
  unfolding HasEntry
  kept listed number es n (e, c, same) = elim (cases_Bool (is_listed listed n.text)) [
    | inl there ↦ rw there (e, c, same)
    | inr new ↦ rw new (e, Contains-append_left es (exactly number n ∷ []) e c, same)
  ]

  all_kept : (listed : List Entry) (number : Number) (es : List Entry) (names : List Name) → HasEntry es → HasEntry (with_entries listed number es names)
  all_kept listed number es [] h = h
  all_kept listed number es (n ∷ names) h = all_kept listed number (with_entry listed number es n) names (kept listed number es n h)

  put : (listed : List Entry) (number : Number) (es : List Entry) (names : List Name) → is_listed listed text ≡ false → (n : Name) → Contains names n → n.text ≡ text → HasEntry (with_entries listed number es names)
  unfolding HasEntry
  put listed number es [] free n c same = absurd (none_in n c)
  put listed number es (x ∷ names) free n c same = elim (cons_cases x names n c) [
    | inl here ↦
        let named : x.text ≡ text = ap (λ (z : Name). z.text) here ∙ same in
        let new : is_listed listed x.text ≡ false = subst (λ z. is_listed listed z ≡ false) (sym named) free in
        all_kept listed number (with_entry listed number es x) names (rw new (exactly number x, Contains-append_right es (exactly number x ∷ []) (exactly number x) (cons_first (exactly number x) []), named))
    | inr later ↦ put listed number (with_entry listed number es x) names free n later same
  ]

  listed_there : (listed : List Entry) → is_listed listed text ≡ true → HasEntry (map (made_exact ordered) listed)
  unfolding HasEntry
  listed_there [] e = absurd cc
  listed_there (x ∷ listed) e = elim (cases_Bool (bytes_eq x.name.text text)) [
    | inl here ↦ (made_exact ordered x, cons_first (made_exact ordered x) (map (made_exact ordered) listed), same_text x.name.text text here)
    | inr other ↦
        let there = listed_there listed (rw other at e) in
        (there.0, cons_later (made_exact ordered x) (map (made_exact ordered) listed) there.0 there.1, there.2)
  ]

  pub one_exact : (number : Number) (listed : List Entry) → (e : Entry) × Contains (exact_entries ordered (Some number) listed) e × (e.name.text ≡ text)
  unfolding HasEntry
  one_exact number listed = elim (cases_Bool (is_listed listed text)) [
    | inl there ↦ all_kept listed number (map (made_exact ordered) listed) ordered (listed_there listed there)
    | inr free ↦ let n = held ordered text is in put listed number (map (made_exact ordered) listed) ordered free n.0 n.1 n.2
  ]

-- ---- listings

eq_self : (a : ℕ) → (a == a) ≡ true
eq_self a = (Decides-eqb a a).1 refl

-- the first that is for a signature, if there is one, is one of them
listing_is : (ls : List Listing) (s : ℕ) (l : Listing) → listing_for ls s ≡ Some l → Contains ls l × (l.signature ≡ Some s)
listing_is [] s l e = absurd cc
listing_is (x ∷ ls) s l e = elim (cases_Bool (is_for s x)) [
  | inl here ↦
      let same : x ≡ l = (let k : Some x ≡ Some l = rw here at e in cc) in
      (subst (λ z. Contains (x ∷ ls) z) same (cons_first x ls), subst (λ (z : Listing). z.signature ≡ Some s) same (signature_is x.signature here))
  | inr other ↦ let rest = listing_is ls s l (rw other at e) in (cons_later x ls l rest.0, rest.1)
]
  where
    signature_is : (o : Option ℕ) → (elim o as (λ o. Bool) [ None ↦ false | Some t ↦ s == t ]) ≡ true → o ≡ Some s
    signature_is None h = absurd cc
    signature_is (Some t) h = ap Some (sym ((Decides-eqb s t).0 h))

listing_there : (ls : List Listing) (s : ℕ) (l : Listing) → Contains ls l → l.signature ≡ Some s → (k : Listing) × (listing_for ls s ≡ Some k)
listing_there [] s l c e = absurd (none_in l c)
listing_there (x ∷ ls) s l c e = elim (cases_Bool (is_for s x)) [
  | inl here ↦ (x, rw here refl)
  | inr other ↦ elim (cons_cases x ls l c) [
    | inl same ↦
        let signature : x.signature ≡ Some s = ap (λ (z : Listing). z.signature) same ∙ e in
        let yes' : is_for s x ≡ true = ap (λ o. elim o as (λ o. Bool) [ None ↦ false | Some t ↦ s == t ]) signature ∙ eq_self s in
        absurd (let k : true ≡ false = sym yes' ∙ other in cc)
    | inr later ↦ let rest = listing_there ls s l later e in (rest.0, rw other rest.1)
  ]
]

-- ---- sizes

module _ (xs : List Signature) (ls : List Listing) (default : Option ℕ) (s : ℕ) (many : is_alone (signature_at xs s).mark ≡ false) (whole : (signature_at xs s).is_abstract ≡ false)
    (exact : (l : Listing) → listing_for ls s ≡ Some l → l.exactly ≡ true) (listed : (n : ℕ) → default ≡ Some n → listing_for ls s ≡ None → ⊥) where
  by_listing_exact : (o : Option Listing) → listing_for ls s ≡ o → (z : Size) → by_listing xs ls s o default ≡ Ok z → (z.signature ≡ s) × (z.exact ≡ true)
  by_listing_exact (Some l) e z h =
      let is : size s l.number.value l.exactly ≡ z = cc in
      (ap (λ (y : Size). y.signature) (sym is), ap (λ (y : Size). y.exact) (sym is) ∙ exact l e)
  by_listing_exact None e z h = absurd (by_default_not default refl (ap (λ o. by_sum s o default) none_abstract ∙ h))
    where
      none_abstract : None ≡ abstract_sum xs ls s
      none_abstract = rw whole refl

      by_default_not : (n : Option ℕ) → default ≡ n → by_default s n ≡ Ok z → ⊥
      by_default_not None d k = cc
      by_default_not (Some n) d k = listed n d e

  pub size_exact : (z : Size) → size_of xs ls default s ≡ Ok z → (z.signature ≡ s) × (z.exact ≡ true)
  size_exact z h = by_listing_exact (listing_for ls s) refl z (rw many at h)

-- ---- the scopes of a text with orderings

-- entries of which those for ordered signatures are exact
abbrev pub IsExactScope : Globals → List Name → Option ScopeTree → Type 0
IsExactScope g ordered s = (default : Option Number) × (listed : List Entry) × (s ≡ Some (scope_named g (record { default = default; entries = exact_entries ordered default listed })))

some_scope : (g : Globals) (ordered : List Name) (p : Place) (s : Option tree.ScopeTree) → IsExactScope g ordered (Some (scope_named g (exact_scope p ordered s)))
some_scope g ordered p None = (Some (three p), [], refl)
some_scope g ordered p (Some s) = (s.default, s.entries, refl)

command_scope : (g : Globals) (ordered : List Name) (x : ParagraphTree) (c : CommandTree) → Contains (commands_named g (with_exact ordered x)) c → IsExactScope g ordered c.scope
command_scope g ordered (tree.signatures is_abstract mark names parent fields) c h = absurd (none_in c h)
command_scope g ordered (tree.fact n b) c h = absurd (none_in c h)
command_scope g ordered (tree.predicate n ds b) c h = absurd (none_in c h)
command_scope g ordered (tree.function n ds mark range body) c h = absurd (none_in c h)
command_scope g ordered (tree.assertion n b) c h = absurd (none_in c h)
command_scope g ordered (tree.command kind p target scope expected) c h =
    let one = only_one _ c h in
    subst (λ (z : CommandTree). IsExactScope g ordered z.scope) one (some_scope g ordered p scope)

scopes_are : (g : Globals) (t : ModelTree) (c : CommandTree) → Contains (flat_map (commands_named g) (paragraphs_with t.opens t.paragraphs)) c → IsExactScope g (ordered_in t.opens) c.scope
scopes_are g t c h =
    let own = map (with_exact (ordered_in t.opens)) t.paragraphs in
    let parts = subst (λ xs. Contains xs c) (flat_map-append (commands_named g) own (flat_map paragraphs_of t.opens)) h in
    elim (Contains-append_cases (flat_map (commands_named g) own) (flat_map (commands_named g) (flat_map paragraphs_of t.opens)) c parts) [
      | inl front ↦
          let p = flat_map_has (commands_named g) own c front in
          let x = map_has (with_exact (ordered_in t.opens)) t.paragraphs p.0 p.1 in
          command_scope g (ordered_in t.opens) x.0 c (subst (λ z. Contains (commands_named g z) c) x.2 p.2)
      | inr later ↦
          let o = flat_map_has (λ o. flat_map (commands_named g) (paragraphs_of o)) t.opens c (subst (λ xs. Contains xs c) (flat_twice (commands_named g) paragraphs_of t.opens) later) in
          absurd (none_in c o.2)
    ]

scope_kept : (m : NamedTree) (d : Declared) (c : CommandTree) → (or_same (command_settled m d) c).scope ≡ c.scope
scope_kept m d c = go (command_settled m d c) refl
  where
    go : (r : Result CommandTree TypeFault) → command_settled m d c ≡ r → (elim r as (λ r. CommandTree) [ Ok y ↦ y | Err e ↦ c ]).scope ≡ c.scope
    go (Err e) h = refl
    go (Ok y) h =
        let x = bind_ok (target_settled m d c.target) _ y h in
        ap (λ (z : CommandTree). z.scope) (sym (same_ok (record c { target = x.0 }) y x.2))

less_one : (k : ℕ) → suc k - 1 ≡ k
less_one k = omega arith

scope_of : (m : NamedTree) (n : ℕ) (c : CommandTree) → command_at m n ≡ Some c → scope_at m.commands n ≡ c.scope
scope_of m zero c e = absurd cc
scope_of m (suc k) c e = ap (λ j. option_and_then (λ (z : CommandTree). z.scope) (slice_get m.commands j)) (less_one k) ∙ ap (option_and_then (λ (z : CommandTree). z.scope)) e

one_size : (xs : List Signature) (ls : List Listing) (default : Option ℕ) (ss : List ℕ) (zs : List Size) → sizes_of xs ls default ss ≡ Ok zs → (s : ℕ) → Contains ss s → (z : Size) × Contains zs z × (size_of xs ls default s ≡ Ok z)
one_size xs ls default [] zs e s c = absurd (none_in s c)
one_size xs ls default (x ∷ ss) zs e s c =
    let a = bind_ok (size_of xs ls default x) _ zs e in
    let b = bind_ok (sizes_of xs ls default ss) _ zs a.2 in
    let whole : a.0 ∷ b.0 ≡ zs = cc in
    elim (cons_cases x ss s c) [
      | inl same ↦ (a.0, subst (λ ys. Contains ys a.0) whole (cons_first a.0 b.0), ap (size_of xs ls default) (sym same) ∙ a.1)
      | inr later ↦
          let there = one_size xs ls default ss b.0 b.1 s later in
          (there.0, subst (λ ys. Contains ys there.0) whole (cons_later a.0 b.0 there.0 there.1), there.2)
    ]

passes : {X : Type 0} (test : X → Bool) (xs : List X) (x : X) → Contains xs x → test x ≡ true → list_any test xs ≡ true
passes test xs x c e = elim (cases_Bool (list_any test xs)) [ inl yes' ↦ yes' | inr fails ↦ absurd (not_any test xs x fails c e) ]

and_true : (a b : Bool) → a ≡ true → b ≡ true → (a && b) ≡ true
and_true true b e f = f
and_true false b e f = absurd cc

same_alone : (m : Option MultiplicityWord) → faults.is_alone m ≡ is_alone m
same_alone None = refl
same_alone (Some m) = go m.multiplicity
  where
    go : (x : Multiplicity) → (elim x as (λ x. Bool) [ multiplicity.Set ↦ false | multiplicity.One ↦ true | multiplicity.Lone ↦ true | multiplicity.Some ↦ false ])
        ≡ (elim x as (λ x. Bool) [ multiplicity.One ↦ true | multiplicity.Lone ↦ true | multiplicity.Some ↦ false | multiplicity.Set ↦ false ])
    go multiplicity.Set = refl
    go multiplicity.One = refl
    go multiplicity.Lone = refl
    go multiplicity.Some = refl

-- two names of one number are one
same_number : (names : List (List ℕ)) (u v : List ℕ) (k : ℕ) → number_of names u ≡ Some k → number_of names v ≡ Some k → u ≡ v
same_number names u v k e f =
    let a = position-Some (λ n. bytes_eq n u) names k [] e in
    let b = position-Some (λ n. bytes_eq n v) names k [] f in
    sym (same_text (get_or names k []) u a.1) ∙ same_text (get_or names k []) v b.1

module _ (t : ModelTree) (plain : HasPlainNames t) (fine : first_fault t.paragraphs t.opens ≡ None) (o : Open) (is : Contains t.opens o) where
  abbrev e : ModelTree
  e = with_orderings t

  abbrev g : Globals
  g = globals_of e.paragraphs

  abbrev m : NamedTree
  m = model_of e

  abbrev a : ℕ
  a = (relations_of e o).signature

  abbrev text : List ℕ
  text = o.signature.text

  among : is_among (ordered_in t.opens) text ≡ true
  among = all_added [] t.opens o is

  abbrev listing_of : Entry → Listing
  listing_of x = record { exactly = x.exactly; number = x.number; place = x.name.place; signature = number_of g.signatures x.name.text }

  signature : (x : Signature) × (slice_get m.signatures a ≡ Some x) × (x.parent ≡ None) × (x.is_abstract ≡ false) × (faults.is_alone x.mark ≡ false)
  signature = signature_there t plain fine o is

  at_signature : signature_at m.signatures a ≡ signature.0
  at_signature = get_or_from_slice_get m.signatures a signature.0 no_signature signature.1

  module _ (n : ℕ) (facts : List ℕ) (p : Bounded) (of : ProblemOf m n facts p) where
    scope_is : IsExactScope g (ordered_in t.opens) (scope_at m.commands n)
    scope_is = go n of.commands.there
      where
        go : (k : ℕ) → command_at m k ≡ Some of.command → IsExactScope g (ordered_in t.opens) (scope_at m.commands k)
        go zero h = absurd cc
        go (suc k) h =
            let c = map_get (or_same (command_settled (named_of e) (declared_in (named_of e)))) (named_of e).commands k of.command h in
            let exact = scopes_are g t c.0 (some-Contains (named_of e).commands k c.0 c.1) in
            let same : c.0.scope ≡ scope_at m.commands (suc k) = sym (scope_kept (named_of e) (declared_in (named_of e)) c.0) ∙ ap (λ (z : CommandTree). z.scope) c.2 ∙ sym (scope_of m (suc k) of.command h) in
            subst (IsExactScope g (ordered_in t.opens)) same exact

    abbrev entries : List Entry
    entries = exact_entries (ordered_in t.opens) scope_is.0 scope_is.1

    listings_are : listings_of (scope_at m.commands n) ≡ map listing_of entries
    listings_are = ap listings_of scope_is.2

    default_is : default_of (scope_at m.commands n) ≡ option_map (λ (k : Number). k.value) scope_is.0
    default_is = ap default_of scope_is.2

    listing_exact : (l : Listing) → listing_for (listings_of (scope_at m.commands n)) a ≡ Some l → l.exactly ≡ true
    listing_exact l h =
        let there = listing_is (map listing_of entries) a l (ap (λ ls. listing_for ls a) (sym listings_are) ∙ h) in
        let x = map_has listing_of entries l there.0 in
        let number : number_of g.signatures x.0.name.text ≡ Some a = ap (λ (z : Listing). z.signature) (sym x.2) ∙ there.1 in
        let named = same_number g.signatures x.0.name.text text a number (signature_number t plain fine o is) in
        ap (λ (z : Listing). z.exactly) x.2 ∙ all_exact (ordered_in t.opens) text among scope_is.0 scope_is.1 x.0 x.1 named

    is_listed_then : (k : ℕ) → default_of (scope_at m.commands n) ≡ Some k → listing_for (listings_of (scope_at m.commands n)) a ≡ None → ⊥
    is_listed_then k d none = go scope_is.0 refl (sym default_is ∙ d)
      where
        go : (number : Option Number) → scope_is.0 ≡ number → option_map (λ (j : Number). j.value) scope_is.0 ≡ Some k → ⊥
        go None same h = (let f : option_map (λ (j : Number). j.value) None ≡ Some k = ap (option_map (λ (j : Number). j.value)) (sym same) ∙ h in cc)
        go (Some number) same h =
            let x = one_exact (ordered_in t.opens) text among number scope_is.1 in
            let inside : Contains entries x.0 = subst (λ z. Contains (exact_entries (ordered_in t.opens) z scope_is.1) x.0) (sym same) x.1 in
            let signature' : (listing_of x.0).signature ≡ Some a = ap (number_of g.signatures) x.2 ∙ signature_number t plain fine o is in
            let there = listing_there (map listing_of entries) a (listing_of x.0) (has_map listing_of entries x.0 inside) signature' in
            let f : None ≡ Some there.0 = sym none ∙ ap (λ ls. listing_for ls a) listings_are ∙ there.1 in
            cc

    exact_size : is_exact of.sizes a ≡ true
    exact_size =
        let under = (sized m n of.sizes of.commands.sized).0 in
        let top = subst (Contains (tops m.signatures)) (zero-add a) (passing (λ y. is_none y.parent) 0 m.signatures a signature.0 signature.1 (ap is_none signature.2)) in
        let z = one_size m.signatures (listings_of (scope_at m.commands n)) (default_of (scope_at m.commands n)) (tops m.signatures) of.sizes under a top in
        let mark : is_alone (signature_at m.signatures a).mark ≡ false = ap (λ (x : Signature). is_alone x.mark) at_signature ∙ sym (same_alone signature.0.mark) ∙ signature.4 in
        let whole : (signature_at m.signatures a).is_abstract ≡ false = ap (λ (x : Signature). x.is_abstract) at_signature ∙ signature.3 in
        let exact = size_exact m.signatures (listings_of (scope_at m.commands n)) (default_of (scope_at m.commands n)) a mark whole listing_exact is_listed_then z.0 z.2 in
        passes (λ (y : Size). (y.signature == a) && y.exact) of.sizes z.0 z.1 (and_true (z.0.signature == a) z.0.exact (ap (λ k. k == a) exact.0 ∙ eq_self a) exact.1)

    fixed : (signature_outline m of.sizes a).fixed ≡ true
    fixed = and_true (is_none (signature_at m.signatures a).parent) (is_exact of.sizes a) (ap (λ (x : Signature). is_none x.parent) at_signature ∙ ap is_none signature.2) exact_size

    pub has_all : (s : List ℕ) (u : List Atom) → InRelation p (Contains s) a u ↔ Contains (relation_at p.relations a).upper.rows u
    has_all s u =
        let out = outlined m n facts p of a (slice_get_within m.signatures a signature.0 signature.1) in (
          λ h. elim h [ inl low ↦ (out.upper.just u).1 ((out.lower.just u).0 low).1 | inr cell ↦ (cell_open p cell.0 a u cell.2).1 ],
          λ up. inl ((out.lower.just u).1 (fixed, (out.upper.just u).0 up)),
        )

pub all_places : (t e : ModelTree) → HasPlainNames t → expanded t ≡ Ok e → (n : ℕ) (facts : List ℕ) (p : Bounded) → ProblemOf (model_of e) n facts p → (o : Open) → Contains t.opens o →
    (s : List ℕ) (u : List Atom) → InRelation p (Contains s) (relations_of e o).signature u ↔ Contains (relation_at p.relations (relations_of e o).signature).upper.rows u
all_places t e plain is n facts p of o c s u = elim (expanded_cases t e is) [
  | inl (none, same) ↦ absurd (none_in o (subst (λ os. Contains os o) none c))
  | inr (fine, same) ↦
      subst (λ z. ProblemOf (model_of z) n facts p → InRelation p (Contains s) (relations_of z o).signature u ↔ Contains (relation_at p.relations (relations_of z o).signature).upper.rows u) same
      (λ op. has_all t plain fine o c n facts p op s u) of
]
