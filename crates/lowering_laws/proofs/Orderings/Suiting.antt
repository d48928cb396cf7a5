-- What an ordering declares has no fault of its types.
use Rattle.std.specs.Prelude.{codes, flat_map, nat_le, option_map, replicate}
use Rattle.std.proofs.Common.{◌≡◌, ℕ, suc, ◌+◌, ◌<◌, ◌==◌, nat_lt, true, false, List, [], ◌∷◌, ◌++◌, map, length, slice_get, Option, Some, None, Result, Ok, All, Contains, refl, sym, ◌∙◌, ap, subst, arith}
use Rattle.std.proofs.lemmas.Bool.Decides.{nat_tests}
use Rattle.std.proofs.lemmas.List.Quantifiers.{position-Some}
use Rattle.std.proofs.lemmas.List.Elements.{All-nil, All-cons}
use Rattle.std.proofs.lemmas.Option.{slice_get_within}
use Rattle.std.specs.Str.{bytes_eq}
use Rattle.std.specs.List.{AllByRecursion}
use Rattle.alloy_lex.specs.declared.token.Place.{Place}
use Rattle.alloy_syntax.specs.declared.tree.Prefix.TheVariants as prefix
use Rattle.alloy_syntax.specs.declared.tree.Operator.TheVariants as operator
use Rattle.alloy_syntax.specs.declared.tree.Quantifier.TheVariants as quantifier
use Rattle.alloy_syntax.specs.declared.tree.Comparison.TheVariants as comparison
use Rattle.alloy_syntax.specs.declared.tree.Open.{Open}
use Rattle.alloy_syntax.specs.Tree.{Tree, ModelTree, trees_of}
use Rattle.named_model.specs.declared.standing.Standing.TheVariants as standing
use Rattle.named_model.specs.declared.phrase.Referent.TheVariants as referent
use Rattle.named_model.specs.Phrase.{PhraseTree, refers, called, prefixed, chain, path, compared, PhraseTrees, no_phrases, more_phrases, no_links, more_links, no_steps, join_first, DomainTrees, no_domains, more_domains}
use Rattle.named_model.specs.Model.{FieldTree, CalleeTree, NamedTree, formulas, value}
use Rattle.named_model.specs.Names.{Globals, number_of, callee_names, or_else, field_standing, named_as, standing_of, resolved, all_resolved}
use Rattle.named_model.specs.Declarations.{globals_of, number_in, fields_named, facts_named, callees_named, named_of}
use Rattle.named_model.specs.Answers.{◌>>=◌}
use Rattle.model_types.specs.declared.fault.TypeFault.{TypeFault}
use Rattle.model_types.specs.declared.fault.TypeFault.TheVariants as fault
use Rattle.model_types.specs.Sorts as sorts
use Rattle.model_types.specs.Sorts.{Kind, first_place}
use Rattle.model_types.specs.Typing as typing
use Rattle.model_types.specs.Typing.{Declared, Header, Settled, type_in, call_kind, settled, formulas_settled, domains_settled}
use Rattle.model_types.specs.Models.{field_declared, local_of, kind_known, header_with, header_of, callee_within, declared_in, field_checked, arrow_checked, meaning_settled, callee_settled}
use Rattle.lowering_rules.specs.Typed.{HasNoFault}
use Rattle.lowering_rules.proofs.Arities.{get_map}
use Rattle.order_lib.specs.Library as library
use Rattle.order_lib.specs.Library.{own, paragraphs_of}
use Rattle.order_lib.specs.Faults.{first_fault}
use Rattle.order_lib.specs.Expanded.{with_orderings}
use Rattle.lowering_laws.specs.Orders.{Ordering}
use Rattle.lowering_laws.specs.OrderingTexts.{HasPlainNames, relations_of}
use Rattle.lowering_laws.proofs.Orderings.Named.{own_there, signature_there, first_named, next_named, first_there, next_there, signature_stands}
use Rattle.lowering_laws.proofs.Orderings.Facts.{field_phrase, in_here, fact_phrases, fact_resolved}
use Rattle.lowering_laws.proofs.Orderings.Callees.{rows, function_row, predicate_row, callee_at, many}
use Rattle.lowering_laws.proofs.Orderings.Calls.{no_names, one_name, stands, first_is, next_is, back_is, signature_is, last_phrase, last_is, in_phrase, in_is, or_phrase, or_is}
use Rattle.lowering_laws.proofs.Orderings.Fitting.{Fits, ok_domains, signature_fits, field_fits, local_fits, prefix_fits, join_fits, compared_fits, minus_fits, product_fits, or_fits, no_arguments_fit, more_arguments_fit, called_fits, quantified_fits, formulas_fit}

each_all : {X : Type 0} (P : X → Type 0) (xs : List X) → AllByRecursion P xs → All P xs
each_all P [] h = All-nil P
each_all P (x ∷ xs) h = All-cons P x xs h.0 (each_all P xs h.1)

abbrev ok_kind : Kind → Result Kind TypeFault
ok_kind k = Ok k

less_test : (m n : ℕ) → m < n → nat_lt m n ≡ true
less_test m n l = grind (arith, nat_tests)

-- ---- bodies of functions and predicates

-- behind parameters whose domains have no fault
value_fits : (d : Declared) (place : Place) (parameters : DomainTrees) (locals : List typing.Local) (range body : PhraseTree) (n : ℕ) → domains_settled false d [] parameters ≡ Ok (parameters, locals) →
    Fits d locals range (sorts.relation n) → Fits d locals body (sorts.relation n) → (n == n) ≡ true → HasNoFault (callee_settled d (record { place = place; parameters = parameters; meaning = value range body }))
value_fits d place parameters locals range body n domains first second same = (
  record { place = place; parameters = parameters; meaning = value range body },
  ap (λ q. q >>= λ es. meaning_settled d es.1 (value range body) >>= λ x. Ok (record { place = place; parameters = es.0; meaning = x })) domains
      ∙ ap (λ q. (q >>= λ r. sorts.as_relation (first_place range) r.kind >>= λ m. settled d locals [] body >>= λ b. sorts.as_relation (first_place body) b.kind >>= λ k. sorts.unless (m == k) (fault.Arity (first_place body)) >>= λ same. Ok (value r.tree b.tree))
      >>= λ x. Ok (record { place = place; parameters = parameters; meaning = x })) (first [])
      ∙ ap (λ q. (q >>= λ b. sorts.as_relation (first_place body) b.kind >>= λ k. sorts.unless (n == k) (fault.Arity (first_place body)) >>= λ same. Ok (value range b.tree))
      >>= λ x. Ok (record { place = place; parameters = parameters; meaning = x })) (second [])
      ∙ ap (λ q. (sorts.unless q (fault.Arity (first_place body)) >>= λ same. Ok (value range body)) >>= λ x. Ok (record { place = place; parameters = parameters; meaning = x })) same,
)

formulas_suit : (d : Declared) (place : Place) (parameters : DomainTrees) (locals : List typing.Local) (xs : PhraseTrees) → domains_settled false d [] parameters ≡ Ok (parameters, locals) → formulas_settled d locals xs ≡ Ok xs →
    HasNoFault (callee_settled d (record { place = place; parameters = parameters; meaning = formulas xs }))
formulas_suit d place parameters locals xs domains fit = (
  record { place = place; parameters = parameters; meaning = formulas xs },
  ap (λ q. q >>= λ es. meaning_settled d es.1 (formulas xs) >>= λ x. Ok (record { place = place; parameters = es.0; meaning = x })) domains
      ∙ ap (λ q. (q >>= λ ys. Ok (formulas ys)) >>= λ x. Ok (record { place = place; parameters = parameters; meaning = x })) fit,
)

module _ (t : ModelTree) (plain : HasPlainNames t) (fine : first_fault t.paragraphs t.opens ≡ None) (o : Open) (is : Contains t.opens o) where
  abbrev named : NamedTree
  named = named_of (with_orderings t)

  abbrev g : Globals
  g = globals_of (with_orderings t).paragraphs

  abbrev r : Ordering
  r = relations_of (with_orderings t) o

  abbrev p : Place
  p = o.alias.place

  abbrev i : ℕ
  i = number_in g.fields (own o (codes "First"))

  abbrev j : ℕ
  j = number_in g.fields (own o (codes "Next"))

  abbrev signature : PhraseTree
  signature = refers p (referent.Signature r.signature)

  abbrev first : PhraseTree
  first = field_phrase p r.signature r.own i

  abbrev next : PhraseTree
  next = field_phrase p r.signature r.own j

  abbrev back : PhraseTree
  back = prefixed prefix.Transpose p next

  abbrev pairs : PhraseTree
  pairs = chain signature (more_links operator.Product p signature no_links)

  abbrev variable : ℕ → PhraseTree
  variable k = refers p (referent.Local k)

  -- whatever is known of predicates and functions
  module _ (callee : ℕ → Option Header) where
    abbrev d : Declared
    d = record { signatures = named.signatures; fields = map (field_declared named) named.fields; callee = callee }

    signature_suits : (locals : List typing.Local) → Fits d locals signature (sorts.relation 1)
    signature_suits locals =
        let x = signature_there t plain fine o is in
        signature_fits d locals p r.signature (less_test r.signature (length named.signatures) (slice_get_within named.signatures r.signature x.0 x.1))

    own_suits : (locals : List typing.Local) → Fits d locals (refers p (referent.Signature r.own)) (sorts.relation 1)
    own_suits locals = signature_fits d locals p r.own (less_test r.own (length named.signatures) (slice_get_within named.signatures r.own _ (own_there t plain fine o is)))

    first_suits : (locals : List typing.Local) → Fits d locals first (sorts.relation 1)
    first_suits locals =
        let field = field_fits d locals p i (field_declared named (first_named g o)) (get_map (field_declared named) named.fields i (first_named g o) (first_there t plain fine o is)) in
        join_fits d locals (refers p (referent.Signature r.own)) p (refers p (referent.Field i)) 1 2 1 refl (own_suits locals) field refl

    next_suits : (locals : List typing.Local) → Fits d locals next (sorts.relation 2)
    next_suits locals =
        let field = field_fits d locals p j (field_declared named (next_named g o)) (get_map (field_declared named) named.fields j (next_named g o) (next_there t plain fine o is)) in
        join_fits d locals (refers p (referent.Signature r.own)) p (refers p (referent.Field j)) 1 3 2 refl (own_suits locals) field refl

    back_suits : (locals : List typing.Local) → Fits d locals back (sorts.relation 2)
    back_suits locals = prefix_fits d locals prefix.Transpose p next (sorts.relation 2) (sorts.relation 2) (next_suits locals) refl

    pairs_suit : (locals : List typing.Local) → Fits d locals pairs (sorts.relation 2)
    pairs_suit locals = product_fits d locals signature p signature 1 1 2 (signature_suits locals) (signature_suits locals) refl

    -- an atom, and the parameters of the paragraphs
    abbrev atom : typing.Local
    atom = record { arity = 1; type = type_in d [] signature }

    abbrev domains : ℕ → DomainTrees
    domains n = more_domains false n None signature no_domains

    domains_suit : (n : ℕ) → domains_settled false d [] (domains n) ≡ Ok (domains n, typing.onto n atom [])
    domains_suit n =
        ap (λ q. q >>= λ y. sorts.as_relation p y.kind >>= λ m. sorts.unless true (fault.NotUnary p) >>= λ one.
        ok_domains (more_domains false n None y.tree no_domains) (typing.onto n (record { arity = m; type = type_in d [] y.tree }) [])) (signature_suits [] [])

    -- ---- fields and the fact

    first_checked : HasNoFault (field_checked d (first_named g o))
    first_checked = (
      tt,
      ap (λ q. q >>= λ y. sorts.as_relation p y.kind >>= λ n. arrow_checked d (first_named g o) >>= λ sides. sorts.unless (n == 1) (fault.NotUnary p) >>= λ one. sorts.unless (nat_le n 2) (fault.ArityTooLarge (first_named g o).place)) (signature_suits [] []),
    )

    next_checked : HasNoFault (field_checked d (next_named g o))
    next_checked = (
      tt,
      ap (λ q. q >>= λ y. sorts.as_relation p y.kind >>= λ n. arrow_checked d (next_named g o) >>= λ sides. sorts.unless true (fault.NotUnary p) >>= λ one. sorts.unless (nat_le n 2) (fault.ArityTooLarge (next_named g o).place)) (pairs_suit [] []),
    )

    pub fact_suits : formulas_settled d [] (fact_phrases p r.signature r.own i j) ≡ Ok (fact_phrases p r.signature r.own i j)
    fact_suits =
        let x = variable 0 in
        let one = atom ∷ [] in
        let x_suits = local_fits d one p 0 atom refl in
        let none = prefix_fits d [] prefix.No p (path next (join_first p first no_steps)) (sorts.relation 1) sorts.formula (join_fits d [] next p first 2 1 1 refl (next_suits []) (first_suits []) refl) refl in
        let behind = quantified_fits d [] quantifier.All p signature (prefixed prefix.Lone p (path x (join_first p next no_steps))) (signature_suits [])
        (prefix_fits d one prefix.Lone p (path x (join_first p next no_steps)) (sorts.relation 1) sorts.formula (join_fits d one x p next 1 2 1 refl x_suits (next_suits one) refl) refl) in
        let before = quantified_fits d [] quantifier.All p signature (prefixed prefix.Lone p (path next (join_first p x no_steps))) (signature_suits [])
        (prefix_fits d one prefix.Lone p (path next (join_first p x no_steps)) (sorts.relation 1) sorts.formula (join_fits d one next p x 2 1 1 refl (next_suits one) x_suits refl) refl) in
        let steps = prefix_fits d [] prefix.ReflexiveClosure p next (sorts.relation 2) (sorts.relation 2) (next_suits []) refl in
        let all = compared_fits d [] signature (in_here p r.signature r.own) (path first (join_first p (prefixed prefix.ReflexiveClosure p next) no_steps)) (sorts.relation 1) (sorts.relation 1) (signature_suits [])
        (join_fits d [] first p (prefixed prefix.ReflexiveClosure p next) 1 2 1 refl (first_suits []) steps refl) refl refl in
        formulas_fit d [] _ _ none (formulas_fit d [] _ _ behind (formulas_fit d [] _ _ before (formulas_fit d [] _ no_phrases all refl)))

    -- ---- functions

    -- the range behind the parameter `e`, which may hide the signature
    range_suits : Fits d (atom ∷ []) (named_as p (standing_of g (codes "e" ∷ []) o.signature.text)) (sorts.relation 1)
    range_suits = go (number_of (codes "e" ∷ []) o.signature.text) refl
      where
        go : (x : Option ℕ) → number_of (codes "e" ∷ []) o.signature.text ≡ x → Fits d (atom ∷ []) (named_as p (or_else x standing.Local (or_else (number_of g.signatures o.signature.text) standing.Signature
            (or_else (number_of g.fields o.signature.text) (field_standing g.fields o.signature.text) (or_else (number_of (callee_names g) o.signature.text) standing.Callee standing.Nothing))))) (sorts.relation 1)
        go (Some k) e =
            let low = (position-Some (λ n. bytes_eq n o.signature.text) (codes "e" ∷ []) k [] e).0 in
            let none : 0 ≡ k = omega (arith, low) in
            subst (λ z. Fits d (atom ∷ []) (refers p (referent.Local z)) (sorts.relation 1)) none (local_fits d (atom ∷ []) p 0 atom refl)
        go None e = subst (λ s. Fits d (atom ∷ []) (named_as p s) (sorts.relation 1)) (sym (signature_stands t plain fine o is)) (signature_suits (atom ∷ []))

    reached_suits : (x : PhraseTree) → Fits d (atom ∷ []) x (sorts.relation 2) → Fits d (atom ∷ []) (path (variable 0) (join_first p (prefixed prefix.Closure p x) no_steps)) (sorts.relation 1)
    reached_suits x suits =
        join_fits d (atom ∷ []) (variable 0) p (prefixed prefix.Closure p x) 1 2 1 refl (local_fits d (atom ∷ []) p 0 atom refl)
        (prefix_fits d (atom ∷ []) prefix.Closure p x (sorts.relation 2) (sorts.relation 2) suits refl) refl

    -- ---- the trees that the text has are these

    abbrev Checked : CalleeTree → Type 0
    Checked c = HasNoFault (callee_settled d c)

    first_callee : Checked (function_row g o (codes "first") [] (library.all_atoms o) (library.first_atom o)).1.1
    first_callee =
        let range = signature_is t plain fine o is in
        let body = first_is t plain fine o is [] no_names in
        let same : (function_row g o (codes "first") [] (library.all_atoms o) (library.first_atom o)).1.1 ≡ record { place = p; parameters = no_domains; meaning = value signature first } =
        λ k. record { place = p; parameters = no_domains; meaning = value (range k) (body k) } in
        subst Checked (sym same) (value_fits d p no_domains [] signature first 1 refl (signature_suits []) (first_suits []) refl)

    pairs_are : resolved g [] (library.all_pairs o) ≡ pairs
    pairs_are = let atoms = signature_is t plain fine o is in λ k. chain (atoms k) (more_links operator.Product p (atoms k) no_links)

    next_callee : Checked (function_row g o (codes "next") [] (library.all_pairs o) (library.neighbours o)).1.1
    next_callee =
        let range = pairs_are in
        let body = next_is t plain fine o is [] no_names in
        let same : (function_row g o (codes "next") [] (library.all_pairs o) (library.neighbours o)).1.1 ≡ record { place = p; parameters = no_domains; meaning = value pairs next } =
        λ k. record { place = p; parameters = no_domains; meaning = value (range k) (body k) } in
        subst Checked (sym same) (value_fits d p no_domains [] pairs next 2 refl (pairs_suit []) (next_suits []) refl)

    prev_callee : Checked (function_row g o (codes "prev") [] (library.all_pairs o) (library.reversed o)).1.1
    prev_callee =
        let range = pairs_are in
        let body = back_is t plain fine o is [] no_names in
        let same : (function_row g o (codes "prev") [] (library.all_pairs o) (library.reversed o)).1.1 ≡ record { place = p; parameters = no_domains; meaning = value pairs back } =
        λ k. record { place = p; parameters = no_domains; meaning = value (range k) (body k) } in
        subst Checked (sym same) (value_fits d p no_domains [] pairs back 2 refl (pairs_suit []) (back_suits []) refl)

    abbrev last_body : Tree
    last_body = library.between o (library.all_atoms o) operator.Minus (library.followed o)

    abbrev last : PhraseTree
    last = last_phrase t plain fine o is

    last_suits : Fits d [] last (sorts.relation 1)
    last_suits = minus_fits d [] signature p (path next (join_first p signature no_steps)) 1 (signature_suits []) (join_fits d [] next p signature 2 1 1 refl (next_suits []) (signature_suits []) refl) refl

    last_callee : Checked (function_row g o (codes "last") [] (library.all_atoms o) last_body).1.1
    last_callee =
        let range = signature_is t plain fine o is in
        let body = last_is t plain fine o is in
        let same : (function_row g o (codes "last") [] (library.all_atoms o) last_body).1.1 ≡ record { place = p; parameters = no_domains; meaning = value signature last } =
        λ k. record { place = p; parameters = no_domains; meaning = value (range k) (body k) } in
        subst Checked (sym same) (value_fits d p no_domains [] signature last 1 refl (signature_suits []) last_suits refl)

    abbrev range_phrase : PhraseTree
    range_phrase = named_as p (standing_of g (codes "e" ∷ []) o.signature.text)

    reached_callee : (w : List ℕ) (f : Tree) (x : PhraseTree) → resolved g (codes "e" ∷ []) f ≡ x → Fits d (atom ∷ []) x (sorts.relation 2) → Checked (function_row g o w (library.one_atom o) (library.all_atoms o) (library.reached o f)).1.1
    reached_callee w f x is-x suits =
        let atoms = signature_is t plain fine o is in
        let same : (function_row g o w (library.one_atom o) (library.all_atoms o) (library.reached o f)).1.1
        ≡ record { place = p; parameters = domains 1; meaning = value range_phrase (path (variable 0) (join_first p (prefixed prefix.Closure p x) no_steps)) } =
        λ k. record { place = p; parameters = more_domains false 1 None (atoms k) no_domains; meaning = value range_phrase (path (variable 0) (join_first p (prefixed prefix.Closure p (is-x k)) no_steps)) } in
        subst Checked (sym same) (value_fits d p (domains 1) (atom ∷ []) range_phrase (path (variable 0) (join_first p (prefixed prefix.Closure p x) no_steps)) 1 (domains_suit 1) range_suits (reached_suits x suits) refl)

    nexts_callee : Checked (function_row g o (codes "nexts") (library.one_atom o) (library.all_atoms o) (library.reached o (library.neighbours o))).1.1
    nexts_callee = reached_callee (codes "nexts") (library.neighbours o) next (next_is t plain fine o is (codes "e" ∷ []) (one_name (codes "e") refl)) (next_suits (atom ∷ []))

    prevs_callee : Checked (function_row g o (codes "prevs") (library.one_atom o) (library.all_atoms o) (library.reached o (library.reversed o))).1.1
    prevs_callee = reached_callee (codes "prevs") (library.reversed o) back (back_is t plain fine o is (codes "e" ∷ []) (one_name (codes "e") refl)) (back_suits (atom ∷ []))

    -- ---- calls, as far as the kinds of what is called are known

    abbrev two : List typing.Local
    two = atom ∷ atom ∷ []

    abbrev ab : List (List ℕ)
    ab = codes "b" ∷ codes "a" ∷ []

    first_argument : Fits d two (variable 1) (sorts.relation 1)
    first_argument = local_fits d two p 1 atom refl

    second_argument : Fits d two (variable 0) (sorts.relation 1)
    second_argument = local_fits d two p 0 atom refl

    in_suits : (c : ℕ) → call_kind p (callee c) ((1, p) ∷ []) ≡ Ok (sorts.relation 1) → Fits d two (in_phrase t plain fine o is c) sorts.formula
    in_suits c kind =
        compared_fits d two (variable 1) (record { comparison = comparison.In; negated = false; place = p }) (called p c (more_phrases (variable 0) no_phrases)) (sorts.relation 1) (sorts.relation 1) first_argument
        (called_fits d two p c (more_phrases (variable 0) no_phrases) ((1, p) ∷ []) (sorts.relation 1) (more_arguments_fit d two (variable 0) no_phrases 1 [] second_argument (no_arguments_fit d two)) kind) refl refl

    or_suits : (c : ℕ) → call_kind p (callee c) ((1, p) ∷ (1, p) ∷ []) ≡ Ok sorts.formula → Fits d two (or_phrase t plain fine o is c) sorts.formula
    or_suits c kind =
        or_fits d two (compared (variable 1) (record { comparison = comparison.Equal; negated = false; place = p }) (variable 0)) p (called p c (more_phrases (variable 1) (more_phrases (variable 0) no_phrases)))
        (compared_fits d two (variable 1) (record { comparison = comparison.Equal; negated = false; place = p }) (variable 0) (sorts.relation 1) (sorts.relation 1) first_argument second_argument refl refl)
        (called_fits d two p c (more_phrases (variable 1) (more_phrases (variable 0) no_phrases)) ((1, p) ∷ (1, p) ∷ []) sorts.formula
        (more_arguments_fit d two (variable 1) (more_phrases (variable 0) no_phrases) 1 ((1, p) ∷ []) first_argument (more_arguments_fit d two (variable 0) no_phrases 1 [] second_argument (no_arguments_fit d two))) kind)

    predicate_callee : (w : List ℕ) (body : Tree) (x : PhraseTree) → resolved g ab body ≡ x → Fits d two x sorts.formula → Checked (predicate_row g o w body).1.1
    predicate_callee w body x is-x suits =
        let atoms = signature_is t plain fine o is in
        let same : (predicate_row g o w body).1.1 ≡ record { place = p; parameters = domains 2; meaning = formulas (more_phrases x no_phrases) } =
        λ k. record { place = p; parameters = more_domains false 2 None (atoms k) no_domains; meaning = formulas (more_phrases (is-x k) no_phrases) } in
        subst Checked (sym same) (formulas_suit d p (domains 2) two (more_phrases x no_phrases) (domains_suit 2) (formulas_fit d two x no_phrases suits refl))

    -- ---- the kind of a call

    abbrev of_call : List (ℕ × Place) → Option CalleeTree → Result Kind TypeFault
    of_call ns found = call_kind p (option_map (header_of d) found) ns

    reach_kind : (w : List ℕ) (body : Tree) → Contains (rows g o) (function_row g o w (library.one_atom o) (library.all_atoms o) body) →
        of_call ((1, p) ∷ []) (slice_get named.callees (number_in (callee_names g) (own o w))) ≡ Ok (sorts.relation 1)
    reach_kind w body there =
        let atoms = signature_is t plain fine o is in
        let meaning = value range_phrase (resolved g (codes "e" ∷ []) body) in
        ap (of_call ((1, p) ∷ [])) (callee_at t plain fine o is (function_row g o w (library.one_atom o) (library.all_atoms o) body) there)
        ∙ (λ k. call_kind p (Some (header_of d (record { place = p; parameters = more_domains false 1 None (atoms k) no_domains; meaning = meaning }))) ((1, p) ∷ []))
        ∙ ap (λ q. call_kind p (Some (header_with d (replicate 1 (local_of d [] signature q) ++ []) meaning)) ((1, p) ∷ [])) (signature_suits [] [])
        ∙ ap (λ (q : Result Settled TypeFault). ok_kind (kind_known q)) (range_suits [])

    predicate_kind : (w : List ℕ) (body : Tree) → Contains (rows g o) (predicate_row g o w body) →
        of_call ((1, p) ∷ (1, p) ∷ []) (slice_get named.callees (number_in (callee_names g) (own o w))) ≡ Ok sorts.formula
    predicate_kind w body there =
        let atoms = signature_is t plain fine o is in
        let meaning = formulas (all_resolved g ab (trees_of (body ∷ []))) in
        ap (of_call ((1, p) ∷ (1, p) ∷ [])) (callee_at t plain fine o is (predicate_row g o w body) there)
        ∙ (λ k. call_kind p (Some (header_of d (record { place = p; parameters = more_domains false 2 None (atoms k) no_domains; meaning = meaning }))) ((1, p) ∷ (1, p) ∷ []))
        ∙ ap (λ q. call_kind p (Some (header_with d (replicate 2 (local_of d [] signature q) ++ []) meaning)) ((1, p) ∷ (1, p) ∷ [])) (signature_suits [] [])

  -- ---- all of it

  abbrev known : Declared
  known = declared_in named

  abbrev within : ℕ → Option Header
  within = callee_within named (length named.callees)

  fuel : (n : ℕ) × (length named.callees ≡ suc n)
  fuel = let long = many t plain fine o is in let count = long.1 in (long.0 + 9, omega (arith, count))

  called_reach : (w : List ℕ) (body : Tree) → Contains (rows g o) (function_row g o w (library.one_atom o) (library.all_atoms o) body) → call_kind p (within (number_in (callee_names g) (own o w))) ((1, p) ∷ []) ≡ Ok (sorts.relation 1)
  called_reach w body there = ap (λ f. call_kind p (callee_within named f (number_in (callee_names g) (own o w))) ((1, p) ∷ [])) fuel.1 ∙ reach_kind (callee_within named fuel.0) w body there

  called_predicate : (w : List ℕ) (body : Tree) → Contains (rows g o) (predicate_row g o w body) → call_kind p (within (number_in (callee_names g) (own o w))) ((1, p) ∷ (1, p) ∷ []) ≡ Ok sorts.formula
  called_predicate w body there = ap (λ f. call_kind p (callee_within named f (number_in (callee_names g) (own o w))) ((1, p) ∷ (1, p) ∷ [])) fuel.1 ∙ predicate_kind (callee_within named fuel.0) w body there

  lt_callee : HasNoFault (callee_settled known (predicate_row g o (codes "lt") (library.is_in o (codes "prevs"))).1.1)
  lt_callee =
      let row = function_row g o (codes "prevs") (library.one_atom o) (library.all_atoms o) (library.reached o (library.reversed o)) in
      predicate_callee within (codes "lt") (library.is_in o (codes "prevs")) (in_phrase t plain fine o is (number_in (callee_names g) (own o (codes "prevs"))))
      (in_is t plain fine o is row (5, omega arith, refl) (record { word = refl; not_own = refl; not_first = refl; not_next = refl }) refl)
      (in_suits within (number_in (callee_names g) (own o (codes "prevs"))) (called_reach (codes "prevs") (library.reached o (library.reversed o)) (5, omega arith, refl)))

  gt_callee : HasNoFault (callee_settled known (predicate_row g o (codes "gt") (library.is_in o (codes "nexts"))).1.1)
  gt_callee =
      let row = function_row g o (codes "nexts") (library.one_atom o) (library.all_atoms o) (library.reached o (library.neighbours o)) in
      predicate_callee within (codes "gt") (library.is_in o (codes "nexts")) (in_phrase t plain fine o is (number_in (callee_names g) (own o (codes "nexts"))))
      (in_is t plain fine o is row (4, omega arith, refl) (record { word = refl; not_own = refl; not_first = refl; not_next = refl }) refl)
      (in_suits within (number_in (callee_names g) (own o (codes "nexts"))) (called_reach (codes "nexts") (library.reached o (library.neighbours o)) (4, omega arith, refl)))

  lte_callee : HasNoFault (callee_settled known (predicate_row g o (codes "lte") (library.or_equal o (codes "lt"))).1.1)
  lte_callee =
      let row = predicate_row g o (codes "lt") (library.is_in o (codes "prevs")) in
      predicate_callee within (codes "lte") (library.or_equal o (codes "lt")) (or_phrase t plain fine o is (number_in (callee_names g) (own o (codes "lt"))))
      (or_is t plain fine o is row (6, omega arith, refl) (record { word = refl; not_own = refl; not_first = refl; not_next = refl }) refl)
      (or_suits within (number_in (callee_names g) (own o (codes "lt"))) (called_predicate (codes "lt") (library.is_in o (codes "prevs")) (6, omega arith, refl)))

  gte_callee : HasNoFault (callee_settled known (predicate_row g o (codes "gte") (library.or_equal o (codes "gt"))).1.1)
  gte_callee =
      let row = predicate_row g o (codes "gt") (library.is_in o (codes "nexts")) in
      predicate_callee within (codes "gte") (library.or_equal o (codes "gt")) (or_phrase t plain fine o is (number_in (callee_names g) (own o (codes "gt"))))
      (or_is t plain fine o is row (7, omega arith, refl) (record { word = refl; not_own = refl; not_first = refl; not_next = refl }) refl)
      (or_suits within (number_in (callee_names g) (own o (codes "gt"))) (called_predicate (codes "gt") (library.is_in o (codes "nexts")) (7, omega arith, refl)))

  pub fields_suit : All (λ (f : FieldTree). HasNoFault (field_checked known f)) (flat_map (fields_named g) (paragraphs_of o))
  fields_suit =
      let P = λ (f : FieldTree). HasNoFault (field_checked known f) in
      All-cons P (first_named g o) (next_named g o ∷ []) (first_checked within) (All-cons P (next_named g o) [] (next_checked within) (All-nil P))

  pub facts_suit : All (λ (xs : PhraseTrees). HasNoFault (formulas_settled known [] xs)) (flat_map (facts_named g) (paragraphs_of o))
  facts_suit =
      let P = λ (xs : PhraseTrees). HasNoFault (formulas_settled known [] xs) in
      let x = one_name (codes "x") refl in
      let whole = fact_resolved g o r.signature r.own i j (signature_stands t plain fine o is) (stands t plain fine o is [] no_names) (stands t plain fine o is (codes "x" ∷ []) x) in
      let fact = all_resolved g [] (trees_of (library.order_formulas o)) in
      All-cons P fact [] (subst P (sym whole) (fact_phrases p r.signature r.own i j, fact_suits within)) (All-nil P)

  pub callees_suit : All (λ (c : CalleeTree). HasNoFault (callee_settled known c)) (flat_map (callees_named g) (paragraphs_of o))
  callees_suit =
      each_all (λ (c : CalleeTree). HasNoFault (callee_settled known c)) (flat_map (callees_named g) (paragraphs_of o))
      (first_callee within, (next_callee within, (prev_callee within, (last_callee within, (nexts_callee within, (prevs_callee within, (lt_callee, (gt_callee, (lte_callee, (gte_callee, tt))))))))))
