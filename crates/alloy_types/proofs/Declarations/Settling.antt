-- Parts are settled alike by declarations that say the same.
use Rattle.std.proofs.Common.{◌≡◌, ℕ, zero, suc, ◌+◌, ◌==◌, ◌&&◌, List, [], ◌∷◌, map, length, filter, slice_get, refl, sym, ap, ◌∙◌, subst, Bool, true, false, if◌then◌else◌, Option, Some, None, Result, Ok, Err, bytes_eq}
use Rattle.std.specs.List.{list_any}
use Rattle.alloy_lex.specs.declared.token.Place.{Place}
use Rattle.alloy_syntax.specs.declared.tree.Operator.{Operator}
use Rattle.alloy_syntax.specs.declared.tree.Operator.TheVariants as operator
use Rattle.named_model.specs.declared.named.Signature.{Signature}
use Rattle.named_model.specs.declared.phrase.Referent.{Referent}
use Rattle.named_model.specs.declared.phrase.Referent.TheVariants as referent
use Rattle.named_model.specs.Phrase.{PhraseTree, refers, called, numbered, constant, bracketed, block, prefixed, chain, path, compared, implies, implies_else, quantified, bound_by_let, PhraseTrees, no_phrases, more_phrases, LinkTrees, no_links, more_links, StepTrees, no_steps, join_first, brackets_first, DomainTrees, no_domains, more_domains}
use Rattle.named_model.specs.Signatures.{tops}
use Rattle.named_model.specs.Answers.{◌>>=◌}
use Rattle.model_types.specs.declared.fault.TypeFault.{TypeFault}
use Rattle.model_types.specs.declared.fault.TypeFault.TheVariants as fault
use Rattle.model_types.specs.Bounding.{Lists, type_of, types_of, links_type, steps_type, referent_type, end_of, operator_type, joins, brackets_type}
use Rattle.model_types.specs.Sorts.{Kind, relation, formula, unless, first_place, as_relation, as_formula, joined_arity, operator_arity, brackets_arity, is_connective, prefix_kind, may_stand_left, fits_left}
use Rattle.model_types.specs.Typing.{Local, Field, Header, Declared, call_type, types_in, local_types, type_in, ends_of, tops_behind, fitting, field_name, the_one, chosen, is_shared, Settled, is_field, referent_settled, arguments_fit, call_kind, onto, formula_from, settled, formulas_settled, arguments_settled, links_settled, steps_settled, tops_in, domains_settled, values_settled}
use Rattle.model_types.specs.Bounds.Same.{AreSame}
use Rattle.model_types.proofs.Bounds.SameListsMade.{same_prefix, same_operator, same_joins}
use Rattle.model_types.proofs.Bounds.Sets.{any-filter, any-flat_map}
use Rattle.overload_resolution.specs.Expressions.Types.{AreEachSame}
use Rattle.overload_resolution.proofs.Expressions.Each.{each_at}
use Rattle.alloy_types.specs.Declarations.Same.{AreSameFields, IsSameLocal, AreSameLocals, AreSameHeaders, AreSameDeclared}
use Rattle.alloy_types.proofs.Declarations.Binds.{bind_same, bind_after}

-- the same numbers: a test is true of one of these where it is true of one of those
abbrev pub AreSameTops : List ℕ → List ℕ → Type 0
AreSameTops ts us = (test : ℕ → Bool) → list_any test ts ≡ list_any test us

-- ---- lists

field_types : (xs ys : List Field) → AreSameFields xs ys → AreEachSame (map (λ (f : Field). f.type) xs) (map (λ (f : Field). f.type) ys)
field_types [] [] h = tt
field_types [] (y ∷ ys) h = absurd h
field_types (x ∷ xs) [] h = absurd h
field_types (x ∷ xs) (y ∷ ys) h = (h.0.types, field_types xs ys h.1)

types_of_locals : (xs ys : List Local) → AreSameLocals xs ys → AreEachSame (local_types xs) (local_types ys)
types_of_locals [] [] h = tt
types_of_locals [] (y ∷ ys) h = absurd h
types_of_locals (x ∷ xs) [] h = absurd h
types_of_locals (x ∷ xs) (y ∷ ys) h = (h.0.types, types_of_locals xs ys h.1)

onto_same : (n : ℕ) (a b : Local) → IsSameLocal a b → (xs ys : List Local) → AreSameLocals xs ys → AreSameLocals (onto n a xs) (onto n b ys)
onto_same zero a b s xs ys h = h
onto_same (suc n) a b s xs ys h = (s, onto_same n a b s xs ys h)

names_at : (xs ys : List Field) → AreSameFields xs ys → (n : ℕ) → field_name (slice_get xs n) ≡ field_name (slice_get ys n)
names_at [] [] h n = refl
names_at [] (y ∷ ys) h n = absurd h
names_at (x ∷ xs) [] h n = absurd h
names_at (x ∷ xs) (y ∷ ys) h zero = h.0.names
names_at (x ∷ xs) (y ∷ ys) h (suc n) = names_at xs ys h.1 n

-- the arity of the field of a number
abbrev arity_at : List Field → ℕ → Option ℕ
arity_at [] n = None
arity_at (x ∷ xs) zero = Some x.arity
arity_at (x ∷ xs) (suc n) = arity_at xs n

arities_at : (xs ys : List Field) → AreSameFields xs ys → (n : ℕ) → arity_at xs n ≡ arity_at ys n
arities_at [] [] h n = refl
arities_at [] (y ∷ ys) h n = absurd h
arities_at (x ∷ xs) [] h n = absurd h
arities_at (x ∷ xs) (y ∷ ys) h zero = ap Some h.0.arities
arities_at (x ∷ xs) (y ∷ ys) h (suc n) = arities_at xs ys h.1 n

abbrev local_at : List Local → ℕ → Option ℕ
local_at [] n = None
local_at (x ∷ xs) zero = Some x.arity
local_at (x ∷ xs) (suc n) = local_at xs n

locals_at : (xs ys : List Local) → AreSameLocals xs ys → (n : ℕ) → local_at xs n ≡ local_at ys n
locals_at [] [] h n = refl
locals_at [] (y ∷ ys) h n = absurd h
locals_at (x ∷ xs) [] h n = absurd h
locals_at (x ∷ xs) (y ∷ ys) h zero = ap Some h.0.arities
locals_at (x ∷ xs) (y ∷ ys) h (suc n) = locals_at xs ys h.1 n

-- a name that has an arity, if it has one
abbrev named : Place → Referent → Option ℕ → Result Settled TypeFault
named p r None = Err (fault.Sort p)
named p r (Some n) = Ok (record { tree = refers p r; kind = relation n })

abbrev field_arity : Option Field → Option ℕ
field_arity None = None
field_arity (Some x) = Some x.arity

abbrev local_arity : Option Local → Option ℕ
local_arity None = None
local_arity (Some x) = Some x.arity

field_found : (xs : List Field) (n : ℕ) → arity_at xs n ≡ field_arity (slice_get xs n)
field_found [] n = refl
field_found (x ∷ xs) zero = refl
field_found (x ∷ xs) (suc n) = field_found xs n

local_found : (xs : List Local) (n : ℕ) → local_at xs n ≡ local_arity (slice_get xs n)
local_found [] n = refl
local_found (x ∷ xs) zero = refl
local_found (x ∷ xs) (suc n) = local_found xs n

field_named : (d : Declared) (p : Place) (n : ℕ) → is_field d p n ≡ named p (referent.Field n) (arity_at d.fields n)
field_named d p n = go (slice_get d.fields n) refl (field_found d.fields n)
  where
    go : (o : Option Field) → slice_get d.fields n ≡ o → arity_at d.fields n ≡ field_arity (slice_get d.fields n) → is_field d p n ≡ named p (referent.Field n) (arity_at d.fields n)
    go None e k = rw (e, is_field) (ap (named p (referent.Field n)) (sym (k ∙ ap field_arity e)))
    go (Some x) e k = rw (e, is_field) (ap (named p (referent.Field n)) (sym (k ∙ ap field_arity e)))

local_named : (d : Declared) (ls : List Local) (ts : List ℕ) (p : Place) (i : ℕ) → referent_settled d ls ts p (referent.Local i) ≡ named p (referent.Local i) (local_at ls i)
local_named d ls ts p i = go (slice_get ls i) refl (local_found ls i)
  where
    go : (o : Option Local) → slice_get ls i ≡ o → local_at ls i ≡ local_arity (slice_get ls i) → referent_settled d ls ts p (referent.Local i) ≡ named p (referent.Local i) (local_at ls i)
    go None e k = rw (e, referent_settled) (ap (named p (referent.Local i)) (sym (k ∙ ap local_arity e)))
    go (Some x) e k = rw (e, referent_settled) (ap (named p (referent.Local i)) (sym (k ∙ ap local_arity e)))

-- ---- signatures that a shared name may belong to

ends_same : (a b : Lists) → AreSame a b → AreSameTops (ends_of a) (ends_of b)
ends_same a b h test = any-flat_map test end_of a ∙ h (λ l. list_any test (end_of l)) ∙ sym (any-flat_map test end_of b)

behind_same : (o : Operator) (a b : Lists) → AreSame a b → AreSameTops (tops_behind o a) (tops_behind o b)
behind_same operator.Or a b h test = refl
behind_same operator.Iff a b h test = refl
behind_same operator.And a b h test = refl
behind_same operator.Union a b h test = refl
behind_same operator.Minus a b h test = refl
behind_same operator.Override a b h test = refl
behind_same operator.Meet a b h test = refl
behind_same operator.Product a b h test = refl
behind_same operator.Domain a b h test =
    any-flat_map test (λ l. l) (filter (λ l. length l == 1) a) ∙ any-filter (list_any test) (λ l. length l == 1) a
    ∙ h (λ l. (length l == 1) && list_any test l)
    ∙ sym (any-flat_map test (λ l. l) (filter (λ l. length l == 1) b) ∙ any-filter (list_any test) (λ l. length l == 1) b)
behind_same operator.Range a b h test = refl

fitting_same : (ts us : List ℕ) → AreSameTops ts us → (name : List ℕ) (n : ℕ) (xs ys : List Field) → AreSameFields xs ys → fitting ts name n xs ≡ fitting us name n ys
fitting_same ts us w name n [] [] h = refl
fitting_same ts us w name n [] (y ∷ ys) h = absurd h
fitting_same ts us w name n (x ∷ xs) [] h = absurd h
fitting_same ts us w name n (x ∷ xs) (y ∷ ys) h =
    let rest = fitting_same ts us w name (n + 1) xs ys h.1 in
    let any : list_any (λ t. t == x.top) ts ≡ list_any (λ t. t == y.top) us = w (λ t. t == x.top) ∙ ap (λ (m : ℕ). list_any (λ t. t == m) us) h.0.tops in
    λ i. if bytes_eq (h.0.names i) name then (if any i then n ∷ rest i else rest i) else rest i

-- ---- parts

module _ (ss : List Signature) (fs gs : List Field) (f g : ℕ → Option Header) (same_fields : AreSameFields fs gs) (same_callees : (n : ℕ) → AreSameHeaders (f n) (g n)) where
  abbrev one : Declared
  one = record { signatures = ss; fields = fs; callee = f }

  abbrev other : Declared
  other = record { signatures = ss; fields = gs; callee = g }

  name_same : (ls ms : List Lists) → AreEachSame ls ms → (r : Referent) → AreSame (referent_type (types_in one) ls r) (referent_type (types_in other) ms r)
  name_same ls ms h (referent.Signature s) = λ t. refl
  name_same ls ms h (referent.Field n) = each_at (map (λ (x : Field). x.type) fs) (map (λ (x : Field). x.type) gs) n (field_types fs gs same_fields)
  name_same ls ms h (referent.Shared n) = λ t. refl
  name_same ls ms h (referent.Local i) = each_at ls ms i h

  call_same : (o q : Option Header) → AreSameHeaders o q → (xs ys : List Lists) → AreEachSame xs ys → AreSame (call_type o xs) (call_type q ys)
  call_same None None h xs ys k = λ t. refl
  call_same None (Some b) h xs ys k = absurd h
  call_same (Some a) None h xs ys k = absurd h
  call_same (Some a) (Some b) h xs ys k = h.types xs ys k

  brackets_same : (xs ys : List Lists) → AreEachSame xs ys → (a b : Lists) → AreSame a b → AreSame (brackets_type a xs) (brackets_type b ys)
  brackets_same [] [] h a b e = e
  brackets_same [] (y ∷ ys) h a b e = absurd h
  brackets_same (x ∷ xs) [] h a b e = absurd h
  brackets_same (x ∷ xs) (y ∷ ys) h a b e = brackets_same xs ys h.1 (joins x a) (joins y b) (same_joins x a y b h.0 e)

  mutual
    pub type_same : (ls ms : List Lists) → AreEachSame ls ms → (x : PhraseTree) → AreSame (type_of (types_in one) ls x) (type_of (types_in other) ms x)
    type_same ls ms h (refers p r) = name_same ls ms h r
    type_same ls ms h (called p n xs) = call_same (f n) (g n) (same_callees n) (types_of (types_in one) ls xs) (types_of (types_in other) ms xs) (types_same ls ms h xs)
    type_same ls ms h (numbered n) = λ t. refl
    type_same ls ms h (constant c p) = λ t. refl
    type_same ls ms h (bracketed p x) = type_same ls ms h x
    type_same ls ms h (block p xs) = λ t. refl
    type_same ls ms h (prefixed k p x) = same_prefix (tops ss) k (type_of (types_in one) ls x) (type_of (types_in other) ms x) (type_same ls ms h x)
    type_same ls ms h (chain x links) = links_same ls ms h links (type_of (types_in one) ls x) (type_of (types_in other) ms x) (type_same ls ms h x)
    type_same ls ms h (path x steps) = steps_same ls ms h steps (type_of (types_in one) ls x) (type_of (types_in other) ms x) (type_same ls ms h x)
    type_same ls ms h (compared a c b) = λ t. refl
    type_same ls ms h (implies a p b) = λ t. refl
    type_same ls ms h (implies_else a p b c) = λ t. refl
    type_same ls ms h (quantified q p ds x) = λ t. refl
    type_same ls ms h (bound_by_let p xs x) = λ t. refl

    types_same : (ls ms : List Lists) → AreEachSame ls ms → (xs : PhraseTrees) → AreEachSame (types_of (types_in one) ls xs) (types_of (types_in other) ms xs)
    types_same ls ms h no_phrases = tt
    types_same ls ms h (more_phrases x xs) = (type_same ls ms h x, types_same ls ms h xs)

    links_same : (ls ms : List Lists) → AreEachSame ls ms → (links : LinkTrees) (a b : Lists) → AreSame a b → AreSame (links_type (types_in one) ls a links) (links_type (types_in other) ms b links)
    links_same ls ms h no_links a b e = e
    links_same ls ms h (more_links o p x links) a b e =
        links_same ls ms h links (operator_type o a (type_of (types_in one) ls x)) (operator_type o b (type_of (types_in other) ms x))
        (same_operator o a (type_of (types_in one) ls x) b (type_of (types_in other) ms x) e (type_same ls ms h x))

    steps_same : (ls ms : List Lists) → AreEachSame ls ms → (steps : StepTrees) (a b : Lists) → AreSame a b → AreSame (steps_type (types_in one) ls a steps) (steps_type (types_in other) ms b steps)
    steps_same ls ms h no_steps a b e = e
    steps_same ls ms h (join_first p x steps) a b e =
        steps_same ls ms h steps (joins a (type_of (types_in one) ls x)) (joins b (type_of (types_in other) ms x))
        (same_joins a (type_of (types_in one) ls x) b (type_of (types_in other) ms x) e (type_same ls ms h x))
    steps_same ls ms h (brackets_first p xs steps) a b e =
        steps_same ls ms h steps (brackets_type a (types_of (types_in one) ls xs)) (brackets_type b (types_of (types_in other) ms xs))
        (brackets_same (types_of (types_in one) ls xs) (types_of (types_in other) ms xs) (types_same ls ms h xs) a b e)

  typed : (ls ms : List Local) → AreSameLocals ls ms → (x : PhraseTree) → AreSame (type_in one ls x) (type_in other ms x)
  typed ls ms h x = type_same (local_types ls) (local_types ms) (types_of_locals ls ms h) x

  -- ---- settled

  field_same : (p : Place) (n : ℕ) → is_field one p n ≡ is_field other p n
  field_same p n = field_named one p n ∙ ap (named p (referent.Field n)) (arities_at fs gs same_fields n) ∙ sym (field_named other p n)

  chosen_same : (ts us : List ℕ) → AreSameTops ts us → (p : Place) (n : ℕ) → chosen one ts p n ≡ chosen other us p n
  chosen_same ts us w p n =
      ap (λ (name : List ℕ). the_one p (fitting ts name 0 fs)) (names_at fs gs same_fields n)
      ∙ ap (the_one p) (fitting_same ts us w (field_name (slice_get gs n)) 0 fs gs same_fields)

  referent_same : (ls ms : List Local) → AreSameLocals ls ms → (ts us : List ℕ) → AreSameTops ts us → (p : Place) (r : Referent) → referent_settled one ls ts p r ≡ referent_settled other ms us p r
  referent_same ls ms h ts us w p (referent.Signature s) = refl
  referent_same ls ms h ts us w p (referent.Field n) = field_same p n
  referent_same ls ms h ts us w p (referent.Shared n) = λ i. chosen_same ts us w p n i >>= λ m. field_same p m i
  referent_same ls ms h ts us w p (referent.Local i) = local_named one ls ts p i ∙ ap (named p (referent.Local i)) (locals_at ls ms h i) ∙ sym (local_named other ms us p i)

  kind_same : (p : Place) (o q : Option Header) → AreSameHeaders o q → (ns : List (ℕ × Place)) → call_kind p o ns ≡ call_kind p q ns
  kind_same p None None h ns = refl
  kind_same p None (Some b) h ns = absurd h
  kind_same p (Some a) None h ns = absurd h
  kind_same p (Some a) (Some b) h ns = λ i. arguments_fit p (h.parameters i) ns >>= λ fit. Ok (h.kinds i)

  mutual
    pub settled_same : (ls ms : List Local) → AreSameLocals ls ms → (ts us : List ℕ) → AreSameTops ts us → (x : PhraseTree) → settled one ls ts x ≡ settled other ms us x
    settled_same ls ms h ts us w (refers p r) = referent_same ls ms h ts us w p r
    settled_same ls ms h ts us w (called p n xs) = λ i. arguments_same ls ms h xs i >>= λ ys. kind_same p (f n) (g n) (same_callees n) ys.arities i >>= λ k. Ok (record { tree = called p n ys.trees; kind = k })
    settled_same ls ms h ts us w (numbered n) = refl
    settled_same ls ms h ts us w (constant c p) = refl
    settled_same ls ms h ts us w (bracketed p x) = λ i. settled_same ls ms h ts us w x i >>= λ y. Ok (record { tree = bracketed p y.tree; kind = y.kind })
    settled_same ls ms h ts us w (block p xs) = λ i. formulas_same ls ms h xs i >>= λ ys. Ok (record { tree = block p ys; kind = formula })
    settled_same ls ms h ts us w (prefixed k p x) = λ i. settled_same ls ms h [] [] (λ t. refl) x i >>= λ y. prefix_kind k p (first_place x) y.kind >>= λ m. Ok (record { tree = prefixed k p y.tree; kind = m })
    settled_same ls ms h ts us w (chain x links) = λ i.
        settled_same ls ms h [] [] (λ t. refl) x i
        >>= λ y. links_settle ls ms h (first_place x) y.kind (type_in one ls y.tree) (type_in other ms y.tree) (typed ls ms h y.tree) links i
        >>= λ zs. Ok (record { tree = chain y.tree zs.0; kind = zs.1 })
    settled_same ls ms h ts us w (path x steps) =
        asked_same (is_shared x) ls ms h steps
        (λ inner. settled one ls inner x >>= λ y. steps_settled one ls (first_place x) y.kind (type_in one ls y.tree) steps >>= λ zs. Ok (record { tree = path y.tree zs.0; kind = zs.1 }))
        (λ inner. settled other ms inner x >>= λ y. steps_settled other ms (first_place x) y.kind (type_in other ms y.tree) steps >>= λ zs. Ok (record { tree = path y.tree zs.0; kind = zs.1 }))
        (λ inner outer v. λ i.
        settled_same ls ms h inner outer v x i
        >>= λ y. steps_settle ls ms h (first_place x) y.kind (type_in one ls y.tree) (type_in other ms y.tree) (typed ls ms h y.tree) steps i
        >>= λ zs. Ok (record { tree = path y.tree zs.0; kind = zs.1 }))
    settled_same ls ms h ts us w (compared a c b) = λ i.
        settled_same ls ms h [] [] (λ t. refl) a i >>= λ y. may_stand_left c.comparison (first_place a) y.kind
        >>= λ left. settled_same ls ms h [] [] (λ t. refl) b i >>= λ z. fits_left c.place (first_place b) y.kind z.kind
        >>= λ right. Ok (record { tree = compared y.tree c z.tree; kind = formula })
    settled_same ls ms h ts us w (implies a p b) = λ i.
        formula_from a (settled_same ls ms h [] [] (λ t. refl) a i) >>= λ y. formula_from b (settled_same ls ms h [] [] (λ t. refl) b i) >>= λ z. Ok (record { tree = implies y p z; kind = formula })
    settled_same ls ms h ts us w (implies_else a p b c) = λ i.
        formula_from a (settled_same ls ms h [] [] (λ t. refl) a i) >>= λ x. formula_from b (settled_same ls ms h [] [] (λ t. refl) b i)
        >>= λ y. formula_from c (settled_same ls ms h [] [] (λ t. refl) c i) >>= λ z. Ok (record { tree = implies_else x p y z; kind = formula })
    settled_same ls ms h ts us w (quantified q p ds x) =
        domains_same true ls ms h ds
        (λ es. formula_from x (settled one es.1 [] x) >>= λ y. Ok (record { tree = quantified q p es.0 y; kind = formula }))
        (λ es. formula_from x (settled other es.1 [] x) >>= λ y. Ok (record { tree = quantified q p es.0 y; kind = formula }))
        (λ es ns os s. λ i. formula_from x (settled_same ns os s [] [] (λ t. refl) x i) >>= λ y. Ok (record { tree = quantified q p es y; kind = formula }))
    settled_same ls ms h ts us w (bound_by_let p xs x) =
        values_same ls ms h xs
        (λ ys. formula_from x (settled one ys.1 [] x) >>= λ z. Ok (record { tree = bound_by_let p ys.0 z; kind = formula }))
        (λ ys. formula_from x (settled other ys.1 [] x) >>= λ z. Ok (record { tree = bound_by_let p ys.0 z; kind = formula }))
        (λ ys ns os s. λ i. formula_from x (settled_same ns os s [] [] (λ t. refl) x i) >>= λ z. Ok (record { tree = bound_by_let p ys z; kind = formula }))

    pub formulas_same : (ls ms : List Local) → AreSameLocals ls ms → (xs : PhraseTrees) → formulas_settled one ls xs ≡ formulas_settled other ms xs
    formulas_same ls ms h no_phrases = refl
    formulas_same ls ms h (more_phrases x xs) = λ i. formula_from x (settled_same ls ms h [] [] (λ t. refl) x i) >>= λ y. formulas_same ls ms h xs i >>= λ ys. Ok (more_phrases y ys)

    arguments_same : (ls ms : List Local) → AreSameLocals ls ms → (xs : PhraseTrees) → arguments_settled one ls xs ≡ arguments_settled other ms xs
    arguments_same ls ms h no_phrases = refl
    arguments_same ls ms h (more_phrases x xs) = λ i.
        settled_same ls ms h [] [] (λ t. refl) x i >>= λ y. as_relation (first_place x) y.kind >>= λ n. arguments_same ls ms h xs i
        >>= λ ys. Ok (record { trees = more_phrases y.tree ys.trees; arities = (n, first_place x) ∷ ys.arities })

    links_settle : (ls ms : List Local) → AreSameLocals ls ms → (left : Place) (k : Kind) (a b : Lists) → AreSame a b → (links : LinkTrees) → links_settled one ls left k a links ≡ links_settled other ms left k b links
    links_settle ls ms h left k a b e no_links = refl
    links_settle ls ms h left k a b e (more_links o p x links) = λ i.
        if is_connective o
        then (as_formula left k >>= λ is. formula_from x (settled_same ls ms h [] [] (λ t. refl) x i) >>= λ y. links_settle ls ms h left formula [] [] (λ t. refl) links i >>= λ zs. Ok (more_links o p y zs.0, zs.1))
        else (as_relation left k
        >>= λ m. settled_same ls ms h (tops_behind o a) (tops_behind o b) (behind_same o a b e) x i
        >>= λ y. as_relation (first_place x) y.kind
        >>= λ n. operator_arity o p left (first_place x) m n
        >>= λ r. links_settle ls ms h left (relation r) (operator_type o a (type_in one ls y.tree)) (operator_type o b (type_in other ms y.tree)) (same_operator o a (type_in one ls y.tree) b (type_in other ms y.tree) e (typed ls ms h y.tree)) links i
        >>= λ zs. Ok (more_links o p y.tree zs.0, zs.1))

    steps_settle : (ls ms : List Local) → AreSameLocals ls ms → (left : Place) (k : Kind) (a b : Lists) → AreSame a b → (steps : StepTrees) → steps_settled one ls left k a steps ≡ steps_settled other ms left k b steps
    steps_settle ls ms h left k a b e no_steps = refl
    steps_settle ls ms h left k a b e (join_first p x steps) = λ i.
        as_relation left k
        >>= λ m. settled_same ls ms h (ends_of a) (ends_of b) (ends_same a b e) x i
        >>= λ y. as_relation (first_place x) y.kind
        >>= λ n. joined_arity p m n
        >>= λ r. steps_settle ls ms h left (relation r) (joins a (type_in one ls y.tree)) (joins b (type_in other ms y.tree)) (same_joins a (type_in one ls y.tree) b (type_in other ms y.tree) e (typed ls ms h y.tree)) steps i
        >>= λ zs. Ok (join_first p y.tree zs.0, zs.1)
    steps_settle ls ms h left k a b e (brackets_first p xs steps) = λ i.
        as_relation left k
        >>= λ m. arguments_same ls ms h xs i
        >>= λ ys. brackets_arity p m (map (λ (n : ℕ × Place). n.0) ys.arities)
        >>= λ r. steps_settle ls ms h left (relation r) (brackets_type a (types_of (types_in one) (local_types ls) ys.trees)) (brackets_type b (types_of (types_in other) (local_types ms) ys.trees))
        (brackets_same (types_of (types_in one) (local_types ls) ys.trees) (types_of (types_in other) (local_types ms) ys.trees) (types_same (local_types ls) (local_types ms) (types_of_locals ls ms h) ys.trees) a b e) steps i
        >>= λ zs. Ok (brackets_first p ys.trees zs.0, zs.1)

    asked_same : (test : Bool) (ls ms : List Local) → AreSameLocals ls ms → (steps : StepTrees) (k l : List ℕ → Result Settled TypeFault) → ((ts us : List ℕ) → AreSameTops ts us → k ts ≡ l us)
        → ((if test then tops_in one ls steps else Ok []) >>= k) ≡ ((if test then tops_in other ms steps else Ok []) >>= l)
    asked_same false ls ms h steps k l next = next [] [] (λ t. refl)
    asked_same true ls ms h no_steps k l next = next [] [] (λ t. refl)
    asked_same true ls ms h (join_first p x steps) k l next = next [] [] (λ t. refl)
    asked_same true ls ms h (brackets_first p no_phrases steps) k l next = next [] [] (λ t. refl)
    asked_same true ls ms h (brackets_first p (more_phrases x xs) steps) k l next =
        bind_same (settled one ls [] x) (settled other ms [] x) (settled_same ls ms h [] [] (λ t. refl) x) (λ y. Ok (ends_of (type_in one ls y.tree))) (λ y. Ok (ends_of (type_in other ms y.tree))) k l
        (λ y. next (ends_of (type_in one ls y.tree)) (ends_of (type_in other ms y.tree)) (ends_same (type_in one ls y.tree) (type_in other ms y.tree) (typed ls ms h y.tree)))

    pub domains_same : (single : Bool) (ls ms : List Local) → AreSameLocals ls ms → (ds : DomainTrees) (k l : DomainTrees × List Local → Result Settled TypeFault)
        → ((es : DomainTrees) (ns os : List Local) → AreSameLocals ns os → k (es, ns) ≡ l (es, os)) → (domains_settled single one ls ds >>= k) ≡ (domains_settled single other ms ds >>= l)
    domains_same single ls ms h no_domains k l next = next no_domains ls ms h
    domains_same single ls ms h (more_domains disjoint n mark x ds) k l next =
        bind_same (settled one ls [] x) (settled other ms [] x) (settled_same ls ms h [] [] (λ t. refl) x) _ _ k l
        (λ y. bind_same (as_relation (first_place x) y.kind) (as_relation (first_place x) y.kind) refl _ _ k l
        (λ m. bind_same (unless (if single then m == 1 else true) (fault.NotUnary (first_place x))) (unless (if single then m == 1 else true) (fault.NotUnary (first_place x))) refl _ _ k l
        (λ u.
        let a : Local = record { arity = m; type = type_in one ls y.tree } in
        let b : Local = record { arity = m; type = type_in other ms y.tree } in
        bind_after (domains_settled single one (onto n a ls) ds) (λ zs. (more_domains disjoint n mark y.tree zs.0, zs.1)) k
        ∙ domains_same single (onto n a ls) (onto n b ms) (onto_same n a b (record { arities = refl; types = typed ls ms h y.tree }) ls ms h) ds
        (λ zs. k (more_domains disjoint n mark y.tree zs.0, zs.1)) (λ zs. l (more_domains disjoint n mark y.tree zs.0, zs.1)) (λ es ns os s. next (more_domains disjoint n mark y.tree es) ns os s)
        ∙ sym (bind_after (domains_settled single other (onto n b ms) ds) (λ zs. (more_domains disjoint n mark y.tree zs.0, zs.1)) l))))

    values_same : (ls ms : List Local) → AreSameLocals ls ms → (xs : PhraseTrees) (k l : PhraseTrees × List Local → Result Settled TypeFault)
        → ((ys : PhraseTrees) (ns os : List Local) → AreSameLocals ns os → k (ys, ns) ≡ l (ys, os)) → (values_settled one ls xs >>= k) ≡ (values_settled other ms xs >>= l)
    values_same ls ms h no_phrases k l next = next no_phrases ls ms h
    values_same ls ms h (more_phrases x xs) k l next =
        bind_same (settled one ls [] x) (settled other ms [] x) (settled_same ls ms h [] [] (λ t. refl) x) _ _ k l
        (λ y. bind_same (as_relation (first_place x) y.kind) (as_relation (first_place x) y.kind) refl _ _ k l
        (λ n.
        let a : Local = record { arity = n; type = type_in one ls y.tree } in
        let b : Local = record { arity = n; type = type_in other ms y.tree } in
        bind_after (values_settled one (a ∷ ls) xs) (λ zs. (more_phrases y.tree zs.0, zs.1)) k
        ∙ values_same (a ∷ ls) (b ∷ ms) (record { arities = refl; types = typed ls ms h y.tree }, h) xs
        (λ zs. k (more_phrases y.tree zs.0, zs.1)) (λ zs. l (more_phrases y.tree zs.0, zs.1)) (λ ys ns os s. next (more_phrases y.tree ys) ns os s)
        ∙ sym (bind_after (values_settled other (b ∷ ms) xs) (λ zs. (more_phrases y.tree zs.0, zs.1)) l)))

pub parts_same : (d e : Declared) → AreSameDeclared d e → (ls ms : List Local) → AreSameLocals ls ms → (ts us : List ℕ) → AreSameTops ts us → (x : PhraseTree) → settled d ls ts x ≡ settled e ms us x
parts_same d e s ls ms h ts us w x =
    subst (λ (ss : List Signature). settled d ls ts x ≡ settled (record { signatures = ss; fields = e.fields; callee = e.callee }) ms us x) s.signatures
    (settled_same d.signatures d.fields e.fields d.callee e.callee s.fields s.callees ls ms h ts us w x)

pub part_types_same : (d e : Declared) → AreSameDeclared d e → (ls ms : List Local) → AreSameLocals ls ms → (x : PhraseTree) → AreSame (type_in d ls x) (type_in e ms x)
part_types_same d e s ls ms h x =
    subst (λ (ss : List Signature). AreSame (type_in d ls x) (type_in (record { signatures = ss; fields = e.fields; callee = e.callee }) ms x)) s.signatures
    (type_same d.signatures d.fields e.fields d.callee e.callee s.fields s.callees (local_types ls) (local_types ms) (types_of_locals ls ms h) x)

pub all_formulas_same : (d e : Declared) → AreSameDeclared d e → (ls ms : List Local) → AreSameLocals ls ms → (xs : PhraseTrees) → formulas_settled d ls xs ≡ formulas_settled e ms xs
all_formulas_same d e s ls ms h xs =
    subst (λ (ss : List Signature). formulas_settled d ls xs ≡ formulas_settled (record { signatures = ss; fields = e.fields; callee = e.callee }) ms xs) s.signatures
    (formulas_same d.signatures d.fields e.fields d.callee e.callee s.fields s.callees ls ms h xs)
