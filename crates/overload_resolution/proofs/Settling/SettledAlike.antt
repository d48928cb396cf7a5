-- Parts are settled alike over local names and signatures that are alike, as far as shared names ask.
use Rattle.std.proofs.Common.{◌≡◌, ℕ, ◌==◌, Bool, true, false, ◌||◌, List, [], ◌∷◌, map, Result, Ok, Err, refl, sym, ap, subst, ◌∙◌, if◌then◌else◌}
use Rattle.alloy_lex.specs.declared.token.Place.{Place}
use Rattle.named_model.specs.Answers.{◌>>=◌}
use Rattle.named_model.specs.Phrase.{PhraseTree, refers, called, numbered, constant, bracketed, block, prefixed, chain, path, compared, implies, implies_else, quantified, bound_by_let, PhraseTrees, no_phrases, more_phrases, LinkTrees, no_links, more_links, StepTrees, no_steps, join_first, brackets_first, DomainTrees, no_domains, more_domains}
use Rattle.model_types.specs.declared.fault.TypeFault.{TypeFault}
use Rattle.model_types.specs.declared.fault.TypeFault.TheVariants as fault
use Rattle.model_types.specs.Bounding.{Lists, types_of, joins, brackets_type, operator_type}
use Rattle.model_types.specs.Sorts.{Kind, relation, formula, Checked, unless, first_place, as_relation, as_formula, is_connective, operator_arity, joined_arity, brackets_arity, prefix_kind, may_stand_left, fits_left}
use Rattle.model_types.specs.Typing.{Local, Declared, Settled, types_in, type_in, local_types, ends_of, tops_behind, is_shared, call_kind, onto, formula_from, settled, formulas_settled, arguments_settled, links_settled, steps_settled, tops_in, first_ends, domains_settled, values_settled}
use Rattle.model_types.proofs.Bounds.SameListsMade.{same_operator, same_joins}
use Rattle.overload_resolution.proofs.Fields.Unions.{same_ends, same_behind}
use Rattle.overload_resolution.specs.Names.Shared.{shared_in, shared_among, shared_in_links, shared_in_steps, shared_in_domains}
use Rattle.overload_resolution.specs.Settling.Inside.{AreSameWhere, AreAlikeWhere, AreAlikeBehind}
use Rattle.overload_resolution.proofs.Settling.Binds.{both_same, then_then}
use Rattle.overload_resolution.specs.Settling.Same.{AreSameTypes, AreSameTops, Asks}
use Rattle.overload_resolution.proofs.Settling.Typed.{brackets_alike}
use Rattle.overload_resolution.proofs.Settling.SharedDeclarations.{asks_left, asks_right, alike_onto, referents_alike, type_where, types_where}

-- the head of a path, behind an argument that it asks for
heads : (b : Bool) (r q : Result Settled TypeFault) → r ≡ q → (e f : Settled → List ℕ) (g h : List ℕ → Result Settled TypeFault) → ((y : Settled) → g (e y) ≡ h (f y)) → g [] ≡ h []
    → ((if b then (r >>= λ y. Ok (e y)) else Ok []) >>= g) ≡ ((if b then (q >>= λ y. Ok (f y)) else Ok []) >>= h)
heads true r q s e f g h one none = then_then r (λ y. Ok (e y)) g ∙ both_same r q (λ y. g (e y)) (λ y. h (f y)) s one ∙ sym (then_then q (λ y. Ok (f y)) h)
heads false r q s e f g h one none = none

no_heads : (b : Bool) (g h : List ℕ → Result Settled TypeFault) → g [] ≡ h [] → ((if b then Ok [] else Ok []) >>= g) ≡ ((if b then Ok [] else Ok []) >>= h)
no_heads true g h e = e
no_heads false g h e = e

-- what follows local names that are alike
behind_then : {T : Type 0} (asked : Bool) (r q : Result (T × List Local) TypeFault) (g h : T × List Local → Result Settled TypeFault) → AreAlikeBehind asked r q
    → ((t : T) (inner others : List Local) → AreAlikeWhere asked inner others → g (t, inner) ≡ h (t, others)) → (r >>= g) ≡ (q >>= h)
behind_then asked (Ok x) (Ok y) g h alike same = same x.0 x.1 y.1 alike.1 ∙ ap (λ t. h (t, y.1)) alike.0
behind_then asked (Ok x) (Err f) g h alike same = absurd alike
behind_then asked (Err e) (Ok y) g h alike same = absurd alike
behind_then asked (Err e) (Err f) g h alike same = ap Err alike

pub behind_map : {T : Type 0} (asked : Bool) (r q : Result (T × List Local) TypeFault) (k : T → T) → AreAlikeBehind asked r q
    → AreAlikeBehind asked (r >>= λ zs. Ok (k zs.0, zs.1)) (q >>= λ zs. Ok (k zs.0, zs.1))
behind_map asked (Ok x) (Ok y) k alike = (ap k alike.0, alike.1)
behind_map asked (Ok x) (Err f) k alike = absurd alike
behind_map asked (Err e) (Ok y) k alike = absurd alike
behind_map asked (Err e) (Err f) k alike = alike

behind_check : {T : Type 0} (asked : Bool) (c : Checked) (u v : Result (T × List Local) TypeFault) (k : T → T) → AreAlikeBehind asked u v
    → AreAlikeBehind asked (c >>= λ one. u >>= λ zs. Ok (k zs.0, zs.1)) (c >>= λ one. v >>= λ zs. Ok (k zs.0, zs.1))
behind_check asked (Ok one) u v k alike = behind_map asked u v k alike
behind_check asked (Err e) u v k alike = refl

behind_arity : {T : Type 0} (asked : Bool) (s : Result ℕ TypeFault) (c : ℕ → Checked) (u v : ℕ → Result (T × List Local) TypeFault) (k : T → T) → ((m : ℕ) → AreAlikeBehind asked (u m) (v m))
    → AreAlikeBehind asked (s >>= λ m. c m >>= λ one. u m >>= λ zs. Ok (k zs.0, zs.1)) (s >>= λ m. c m >>= λ one. v m >>= λ zs. Ok (k zs.0, zs.1))
behind_arity asked (Ok m) c u v k alike = behind_check asked (c m) (u m) (v m) k (alike m)
behind_arity asked (Err e) c u v k alike = refl

behind_part : {T : Type 0} (asked : Bool) (r : Result Settled TypeFault) (s : Settled → Result ℕ TypeFault) (c : Settled → ℕ → Checked) (u v : Settled → ℕ → Result (T × List Local) TypeFault) (k : Settled → T → T)
    → ((y : Settled) (m : ℕ) → AreAlikeBehind asked (u y m) (v y m))
    → AreAlikeBehind asked (r >>= λ y. s y >>= λ m. c y m >>= λ one. u y m >>= λ zs. Ok (k y zs.0, zs.1)) (r >>= λ y. s y >>= λ m. c y m >>= λ one. v y m >>= λ zs. Ok (k y zs.0, zs.1))
behind_part asked (Ok y) s c u v k alike = behind_arity asked (s y) (c y) (u y) (v y) (k y) (alike y)
behind_part asked (Err e) s c u v k alike = refl

-- local names that a part enters, where the part is the same
behind_same : {T : Type 0} (asked : Bool) (r q : Result Settled TypeFault) → r ≡ q → (s : Settled → Result ℕ TypeFault) (c : Settled → ℕ → Checked) (u v : Settled → ℕ → Result (T × List Local) TypeFault) (k : Settled → T → T)
    → ((y : Settled) (m : ℕ) → AreAlikeBehind asked (u y m) (v y m))
    → AreAlikeBehind asked (r >>= λ y. s y >>= λ m. c y m >>= λ one. u y m >>= λ zs. Ok (k y zs.0, zs.1)) (q >>= λ y. s y >>= λ m. c y m >>= λ one. v y m >>= λ zs. Ok (k y zs.0, zs.1))
behind_same asked r q e s c u v k alike =
    subst (λ w. AreAlikeBehind asked (r >>= λ y. s y >>= λ m. c y m >>= λ one. u y m >>= λ zs. Ok (k y zs.0, zs.1)) (w >>= λ y. s y >>= λ m. c y m >>= λ one. v y m >>= λ zs. Ok (k y zs.0, zs.1))) e
    (behind_part asked r s c u v k alike)

module _ (asked : Bool) (d : Declared) (s : AreSameTypes (types_in d) (types_in d)) where
  mutual
    pub settled_alike : (ls ms : List Local) → AreAlikeWhere asked ls ms → (tops ts : List ℕ) → AreSameTops asked tops ts → (x : PhraseTree) → Asks (shared_in x) asked
        → settled d ls tops x ≡ settled d ms ts x
    settled_alike ls ms h tops ts k (refers p r) a = referents_alike asked d s ls ms tops ts p r h a k
    settled_alike ls ms h tops ts k (called p n xs) a = λ i. arguments_alike ls ms h xs a i >>= λ ys. call_kind p (d.callee n) ys.arities >>= λ m. Ok (record { tree = called p n ys.trees; kind = m })
    settled_alike ls ms h tops ts k (numbered n) a = refl
    settled_alike ls ms h tops ts k (constant c p) a = refl
    settled_alike ls ms h tops ts k (bracketed p x) a = λ i. settled_alike ls ms h tops ts k x a i >>= λ y. Ok (record { tree = bracketed p y.tree; kind = y.kind })
    settled_alike ls ms h tops ts k (block p xs) a = λ i. formulas_alike ls ms h xs a i >>= λ ys. Ok (record { tree = block p ys; kind = formula })
    settled_alike ls ms h tops ts k (prefixed f p x) a = λ i. settled_alike ls ms h [] [] (λ e t. refl) x a i >>= λ y. prefix_kind f p (first_place x) y.kind >>= λ m. Ok (record { tree = prefixed f p y.tree; kind = m })
    settled_alike ls ms h tops ts k (chain x ks) a = λ i.
        settled_alike ls ms h [] [] (λ e t. refl) x (asks_left (shared_in x) (shared_in_links ks) asked a) i
        >>= λ y. links_alike ls ms h (first_place x) y.kind (type_in d ls y.tree) (type_in d ms y.tree) (type_where asked d s ls ms y.tree h) ks (asks_right (shared_in x) (shared_in_links ks) asked a) i
        >>= λ zs. Ok (record { tree = chain y.tree zs.0; kind = zs.1 })
    settled_alike ls ms h tops ts k (path x steps) a =
        first_alike ls ms h steps (asks_right (shared_in x) (shared_in_steps steps) asked a) (is_shared x)
        (λ inner. settled d ls inner x >>= λ y. steps_settled d ls (first_place x) y.kind (type_in d ls y.tree) steps >>= λ zs. Ok (record { tree = path y.tree zs.0; kind = zs.1 }))
        (λ inner. settled d ms inner x >>= λ y. steps_settled d ms (first_place x) y.kind (type_in d ms y.tree) steps >>= λ zs. Ok (record { tree = path y.tree zs.0; kind = zs.1 }))
        (λ inner others w. λ i.
        settled_alike ls ms h inner others w x (asks_left (shared_in x) (shared_in_steps steps) asked a) i
        >>= λ y. steps_alike ls ms h (first_place x) y.kind (type_in d ls y.tree) (type_in d ms y.tree) (type_where asked d s ls ms y.tree h) steps (asks_right (shared_in x) (shared_in_steps steps) asked a) i
        >>= λ zs. Ok (record { tree = path y.tree zs.0; kind = zs.1 }))
    settled_alike ls ms h tops ts k (compared x c z) a = λ i.
        settled_alike ls ms h [] [] (λ e t. refl) x (asks_left (shared_in x) (shared_in z) asked a) i
        >>= λ y. may_stand_left c.comparison (first_place x) y.kind
        >>= λ left. settled_alike ls ms h [] [] (λ e t. refl) z (asks_right (shared_in x) (shared_in z) asked a) i
        >>= λ w. fits_left c.place (first_place z) y.kind w.kind
        >>= λ right. Ok (record { tree = compared y.tree c w.tree; kind = formula })
    settled_alike ls ms h tops ts k (implies x p z) a = λ i.
        formula_from x (settled_alike ls ms h [] [] (λ e t. refl) x (asks_left (shared_in x) (shared_in z) asked a) i)
        >>= λ y. formula_from z (settled_alike ls ms h [] [] (λ e t. refl) z (asks_right (shared_in x) (shared_in z) asked a) i)
        >>= λ w. Ok (record { tree = implies y p w; kind = formula })
    settled_alike ls ms h tops ts k (implies_else x p z u) a = λ i.
        formula_from x (settled_alike ls ms h [] [] (λ e t. refl) x (asks_left (shared_in x) (shared_in z || shared_in u) asked a) i)
        >>= λ y. formula_from z (settled_alike ls ms h [] [] (λ e t. refl) z (asks_left (shared_in z) (shared_in u) asked (asks_right (shared_in x) (shared_in z || shared_in u) asked a)) i)
        >>= λ w. formula_from u (settled_alike ls ms h [] [] (λ e t. refl) u (asks_right (shared_in z) (shared_in u) asked (asks_right (shared_in x) (shared_in z || shared_in u) asked a)) i)
        >>= λ v. Ok (record { tree = implies_else y p w v; kind = formula })
    settled_alike ls ms h tops ts k (quantified q p ds x) a =
        behind_then asked (domains_settled true d ls ds) (domains_settled true d ms ds)
        (λ es. formula_from x (settled d es.1 [] x) >>= λ y. Ok (record { tree = quantified q p es.0 y; kind = formula }))
        (λ es. formula_from x (settled d es.1 [] x) >>= λ y. Ok (record { tree = quantified q p es.0 y; kind = formula }))
        (domains_alike true ls ms h ds (asks_left (shared_in_domains ds) (shared_in x) asked a))
        (λ es inner others w. λ i. formula_from x (settled_alike inner others w [] [] (λ e t. refl) x (asks_right (shared_in_domains ds) (shared_in x) asked a) i) >>= λ y. Ok (record { tree = quantified q p es y; kind = formula }))
    settled_alike ls ms h tops ts k (bound_by_let p xs x) a =
        behind_then asked (values_settled d ls xs) (values_settled d ms xs)
        (λ ys. formula_from x (settled d ys.1 [] x) >>= λ z. Ok (record { tree = bound_by_let p ys.0 z; kind = formula }))
        (λ ys. formula_from x (settled d ys.1 [] x) >>= λ z. Ok (record { tree = bound_by_let p ys.0 z; kind = formula }))
        (values_alike ls ms h xs (asks_left (shared_among xs) (shared_in x) asked a))
        (λ ys inner others w. λ i. formula_from x (settled_alike inner others w [] [] (λ e t. refl) x (asks_right (shared_among xs) (shared_in x) asked a) i) >>= λ z. Ok (record { tree = bound_by_let p ys z; kind = formula }))

    pub formulas_alike : (ls ms : List Local) → AreAlikeWhere asked ls ms → (xs : PhraseTrees) → Asks (shared_among xs) asked → formulas_settled d ls xs ≡ formulas_settled d ms xs
    formulas_alike ls ms h no_phrases a = refl
    formulas_alike ls ms h (more_phrases x xs) a = λ i.
        formula_from x (settled_alike ls ms h [] [] (λ e t. refl) x (asks_left (shared_in x) (shared_among xs) asked a) i)
        >>= λ y. formulas_alike ls ms h xs (asks_right (shared_in x) (shared_among xs) asked a) i
        >>= λ ys. Ok (more_phrases y ys)

    arguments_alike : (ls ms : List Local) → AreAlikeWhere asked ls ms → (xs : PhraseTrees) → Asks (shared_among xs) asked → arguments_settled d ls xs ≡ arguments_settled d ms xs
    arguments_alike ls ms h no_phrases a = refl
    arguments_alike ls ms h (more_phrases x xs) a = λ i.
        settled_alike ls ms h [] [] (λ e t. refl) x (asks_left (shared_in x) (shared_among xs) asked a) i
        >>= λ y. as_relation (first_place x) y.kind
        >>= λ n. arguments_alike ls ms h xs (asks_right (shared_in x) (shared_among xs) asked a) i
        >>= λ ys. Ok (record { trees = more_phrases y.tree ys.trees; arities = (n, first_place x) ∷ ys.arities })

    pub links_alike : (ls ms : List Local) → AreAlikeWhere asked ls ms → (left : Place) (k : Kind) (a b : Lists) → AreSameWhere asked a b → (ks : LinkTrees) → Asks (shared_in_links ks) asked
        → links_settled d ls left k a ks ≡ links_settled d ms left k b ks
    links_alike ls ms h left k a b w no_links q = refl
    links_alike ls ms h left k a b w (more_links o p x ks) q = λ i.
        if is_connective o
        then (as_formula left k
        >>= λ is. formula_from x (settled_alike ls ms h [] [] (λ e t. refl) x (asks_left (shared_in x) (shared_in_links ks) asked q) i)
        >>= λ y. links_alike ls ms h left formula [] [] (λ e t. refl) ks (asks_right (shared_in x) (shared_in_links ks) asked q) i
        >>= λ zs. Ok (more_links o p y zs.0, zs.1))
        else (as_relation left k
        >>= λ m. settled_alike ls ms h (tops_behind o a) (tops_behind o b) (λ e. same_behind o a b (w e)) x (asks_left (shared_in x) (shared_in_links ks) asked q) i
        >>= λ y. as_relation (first_place x) y.kind
        >>= λ n. operator_arity o p left (first_place x) m n
        >>= λ r. links_alike ls ms h left (relation r) (operator_type o a (type_in d ls y.tree)) (operator_type o b (type_in d ms y.tree)) (λ e. same_operator o a (type_in d ls y.tree) b (type_in d ms y.tree) (w e) (type_where asked d s ls ms y.tree h e)) ks (asks_right (shared_in x) (shared_in_links ks) asked q) i
        >>= λ zs. Ok (more_links o p y.tree zs.0, zs.1))

    pub steps_alike : (ls ms : List Local) → AreAlikeWhere asked ls ms → (left : Place) (k : Kind) (a b : Lists) → AreSameWhere asked a b → (steps : StepTrees) → Asks (shared_in_steps steps) asked
        → steps_settled d ls left k a steps ≡ steps_settled d ms left k b steps
    steps_alike ls ms h left k a b w no_steps q = refl
    steps_alike ls ms h left k a b w (join_first p x steps) q = λ i.
        as_relation left k
        >>= λ m. settled_alike ls ms h (ends_of a) (ends_of b) (λ e. same_ends a b (w e)) x (asks_left (shared_in x) (shared_in_steps steps) asked q) i
        >>= λ y. as_relation (first_place x) y.kind
        >>= λ n. joined_arity p m n
        >>= λ r. steps_alike ls ms h left (relation r) (joins a (type_in d ls y.tree)) (joins b (type_in d ms y.tree)) (λ e. same_joins a (type_in d ls y.tree) b (type_in d ms y.tree) (w e) (type_where asked d s ls ms y.tree h e)) steps (asks_right (shared_in x) (shared_in_steps steps) asked q) i
        >>= λ zs. Ok (join_first p y.tree zs.0, zs.1)
    steps_alike ls ms h left k a b w (brackets_first p xs steps) q = λ i.
        as_relation left k
        >>= λ m. arguments_alike ls ms h xs (asks_left (shared_among xs) (shared_in_steps steps) asked q) i
        >>= λ ys. brackets_arity p m (map (λ n. n.0) ys.arities)
        >>= λ r. steps_alike ls ms h left (relation r) (brackets_type a (types_of (types_in d) (local_types ls) ys.trees)) (brackets_type b (types_of (types_in d) (local_types ms) ys.trees)) (λ e. brackets_alike a b (types_of (types_in d) (local_types ls) ys.trees) (types_of (types_in d) (local_types ms) ys.trees) (w e) (types_where asked d s ls ms ys.trees e h)) steps (asks_right (shared_among xs) (shared_in_steps steps) asked q) i
        >>= λ zs. Ok (brackets_first p ys.trees zs.0, zs.1)

    first_alike : (ls ms : List Local) → AreAlikeWhere asked ls ms → (steps : StepTrees) → Asks (shared_in_steps steps) asked → (b : Bool) (g h : List ℕ → Result Settled TypeFault)
        → ((inner others : List ℕ) → AreSameTops asked inner others → g inner ≡ h others)
        → ((if b then tops_in d ls steps else Ok []) >>= g) ≡ ((if b then tops_in d ms steps else Ok []) >>= h)
    first_alike ls ms w no_steps a b g h same = no_heads b g h (same [] [] (λ e t. refl))
    first_alike ls ms w (join_first p x steps) a b g h same = no_heads b g h (same [] [] (λ e t. refl))
    first_alike ls ms w (brackets_first p xs steps) a b g h same = ends_alike ls ms w xs (asks_left (shared_among xs) (shared_in_steps steps) asked a) b g h same

    ends_alike : (ls ms : List Local) → AreAlikeWhere asked ls ms → (xs : PhraseTrees) → Asks (shared_among xs) asked → (b : Bool) (g h : List ℕ → Result Settled TypeFault)
        → ((inner others : List ℕ) → AreSameTops asked inner others → g inner ≡ h others)
        → ((if b then first_ends d ls xs else Ok []) >>= g) ≡ ((if b then first_ends d ms xs else Ok []) >>= h)
    ends_alike ls ms w no_phrases a b g h same = no_heads b g h (same [] [] (λ e t. refl))
    ends_alike ls ms w (more_phrases x xs) a b g h same =
        heads b (settled d ls [] x) (settled d ms [] x) (settled_alike ls ms w [] [] (λ e t. refl) x (asks_left (shared_in x) (shared_among xs) asked a))
        (λ y. ends_of (type_in d ls y.tree)) (λ y. ends_of (type_in d ms y.tree)) g h
        (λ y. same (ends_of (type_in d ls y.tree)) (ends_of (type_in d ms y.tree)) (λ e. same_ends (type_in d ls y.tree) (type_in d ms y.tree) (type_where asked d s ls ms y.tree w e)))
        (same [] [] (λ e t. refl))

    pub domains_alike : (single : Bool) (ls ms : List Local) → AreAlikeWhere asked ls ms → (ds : DomainTrees) → Asks (shared_in_domains ds) asked
        → AreAlikeBehind asked (domains_settled single d ls ds) (domains_settled single d ms ds)
    domains_alike single ls ms w no_domains a = (refl, w)
    domains_alike single ls ms w (more_domains disjoint n mark x ds) a =
        behind_same asked (settled d ls [] x) (settled d ms [] x) (settled_alike ls ms w [] [] (λ e t. refl) x (asks_left (shared_in x) (shared_in_domains ds) asked a))
        (λ y. as_relation (first_place x) y.kind) (λ y m. unless (if single then m == 1 else true) (fault.NotUnary (first_place x)))
        (λ y m. domains_settled single d (onto n (record { arity = m; type = type_in d ls y.tree }) ls) ds)
        (λ y m. domains_settled single d (onto n (record { arity = m; type = type_in d ms y.tree }) ms) ds)
        (λ y es. more_domains disjoint n mark y.tree es)
        (λ y m. domains_alike single (onto n (record { arity = m; type = type_in d ls y.tree }) ls) (onto n (record { arity = m; type = type_in d ms y.tree }) ms)
        (alike_onto asked n (record { arity = m; type = type_in d ls y.tree }) (record { arity = m; type = type_in d ms y.tree }) ls ms refl (type_where asked d s ls ms y.tree w) w) ds (asks_right (shared_in x) (shared_in_domains ds) asked a))

    pub values_alike : (ls ms : List Local) → AreAlikeWhere asked ls ms → (xs : PhraseTrees) → Asks (shared_among xs) asked
        → AreAlikeBehind asked (values_settled d ls xs) (values_settled d ms xs)
    values_alike ls ms w no_phrases a = (refl, w)
    values_alike ls ms w (more_phrases x xs) a =
        behind_same asked (settled d ls [] x) (settled d ms [] x) (settled_alike ls ms w [] [] (λ e t. refl) x (asks_left (shared_in x) (shared_among xs) asked a))
        (λ y. as_relation (first_place x) y.kind) (λ y n. Ok tt)
        (λ y n. values_settled d (record { arity = n; type = type_in d ls y.tree } ∷ ls) xs)
        (λ y n. values_settled d (record { arity = n; type = type_in d ms y.tree } ∷ ms) xs)
        (λ y ys. more_phrases y.tree ys)
        (λ y n. values_alike (record { arity = n; type = type_in d ls y.tree } ∷ ls) (record { arity = n; type = type_in d ms y.tree } ∷ ms) (refl, type_where asked d s ls ms y.tree w, w) xs (asks_right (shared_in x) (shared_among xs) asked a))
