-- A part is settled alike wherever the predicates and functions that it calls have the same headers.
use Rattle.std.specs.Prelude.{option_map}
use Rattle.std.proofs.Common.{◌≡◌, ℕ, ◌==◌, List, [], ◌∷◌, ◌++◌, map, reverse, Contains, Bool, true, if◌then◌else◌, Option, Some, None, Result, Ok, Err, refl, sym, ◌∙◌, ap, subst}
use Rattle.alloy_lex.specs.declared.token.Place.{Place}
use Rattle.named_model.specs.declared.named.Signature.{Signature}
use Rattle.named_model.specs.Phrase.{PhraseTree, refers, called, numbered, constant, bracketed, block, prefixed, chain, path, compared, implies, implies_else, quantified, bound_by_let, PhraseTrees, no_phrases, more_phrases, LinkTrees, no_links, more_links, StepTrees, no_steps, join_first, brackets_first, DomainTrees, no_domains, more_domains}
use Rattle.named_model.specs.Model.{MeaningTree, formulas, value, CalleeTree}
use Rattle.named_model.specs.Answers.{◌>>=◌}
use Rattle.named_model.specs.Faults.{calls_in, calls_in_all, calls_in_links, calls_in_steps, calls_in_domains, calls_in_meaning, callees_of}
use Rattle.named_model.specs.Signatures.{tops}
use Rattle.model_types.specs.declared.fault.TypeFault.{TypeFault}
use Rattle.model_types.specs.declared.fault.TypeFault.TheVariants as fault
use Rattle.model_types.specs.Bounding.{Lists, prefix_type, operator_type, joins, brackets_type, type_of, types_of, links_type, steps_type}
use Rattle.model_types.specs.Sorts as sorts
use Rattle.model_types.specs.Sorts.{Kind, unless, first_place, as_relation, as_formula, joined_arity, brackets_arity, operator_arity, is_connective, prefix_kind, may_stand_left, fits_left}
use Rattle.model_types.specs.Typing as typing
use Rattle.model_types.specs.Typing.{Field, Header, Declared, Settled, Arguments, types_in, call_type, type_in, local_types, call_kind, formula_from, settled, formulas_settled, arguments_settled, links_settled, steps_settled, tops_in, first_ends, domains_settled, values_settled, is_shared, tops_behind, ends_of}
use Rattle.model_types.specs.Models.{local_of, or_unknown, domains_known, parameters_known, kind_known, type_known, header_with, header_of}
use Rattle.rel_formula.proofs.OpenCells.{cons_first, cons_later}
use Rattle.lowering_rules.proofs.SettledCalls.{kept, arguments_kept}

bind_same : {A B F : Type 0} (r s : Result A F) (u v : A → Result B F) → r ≡ s → ((a : A) → s ≡ Ok a → u a ≡ v a) → (r >>= u) ≡ (s >>= v)
bind_same r (Ok a) u v e h = ap (λ q. q >>= u) e ∙ h a refl
bind_same r (Err x) u v e h = ap (λ q. q >>= u) e

abbrev pub declared_with : List Signature → List Field → (ℕ → Option Header) → Declared
declared_with signatures fields callee = record { signatures = signatures; fields = fields; callee = callee }

module _ (signatures : List Signature) (fields : List Field) (f g : ℕ → Option Header) where
  abbrev F : Declared
  F = declared_with signatures fields f

  abbrev G : Declared
  G = declared_with signatures fields g

  -- the two have the same headers for these
  abbrev pub Agree : List ℕ → Type 0
  Agree [] = Unit {0}
  Agree (q ∷ qs) = (f q ≡ g q) × Agree qs

  pub front : (xs ys : List ℕ) → Agree (xs ++ ys) → Agree xs
  front [] ys h = tt
  front (x ∷ xs) ys h = (h.0, front xs ys h.1)

  pub back : (xs ys : List ℕ) → Agree (xs ++ ys) → Agree ys
  back [] ys h = h
  back (x ∷ xs) ys h = back xs ys h.1

  -- ---- bounding types

  mutual
    type_same : (x : PhraseTree) (ts : List Lists) → Agree (calls_in x) → type_of (types_in F) ts x ≡ type_of (types_in G) ts x
    type_same (refers p r) ts h = refl
    type_same (called p n xs) ts h = λ i. call_type (h.0 i) (types_same xs ts h.1 i)
    type_same (numbered n) ts h = refl
    type_same (constant c p) ts h = refl
    type_same (bracketed p x) ts h = type_same x ts h
    type_same (block p xs) ts h = refl
    type_same (prefixed q p x) ts h = ap (prefix_type (tops signatures) q) (type_same x ts h)
    type_same (chain x ls) ts h =
        ap (λ a. links_type (types_in F) ts a ls) (type_same x ts (front (calls_in x) (calls_in_links ls) h)) ∙ links_type_same ls ts (type_of (types_in G) ts x) (back (calls_in x) (calls_in_links ls) h)
    type_same (path x steps) ts h =
        ap (λ a. steps_type (types_in F) ts a steps) (type_same x ts (front (calls_in x) (calls_in_steps steps) h)) ∙ steps_type_same steps ts (type_of (types_in G) ts x) (back (calls_in x) (calls_in_steps steps) h)
    type_same (compared a c b) ts h = refl
    type_same (implies a p b) ts h = refl
    type_same (implies_else a p b c) ts h = refl
    type_same (quantified q p ds x) ts h = refl
    type_same (bound_by_let p xs x) ts h = refl

    types_same : (xs : PhraseTrees) (ts : List Lists) → Agree (calls_in_all xs) → types_of (types_in F) ts xs ≡ types_of (types_in G) ts xs
    types_same no_phrases ts h = refl
    types_same (more_phrases x xs) ts h = λ i. type_same x ts (front (calls_in x) (calls_in_all xs) h) i ∷ types_same xs ts (back (calls_in x) (calls_in_all xs) h) i

    links_type_same : (ls : LinkTrees) (ts : List Lists) (a : Lists) → Agree (calls_in_links ls) → links_type (types_in F) ts a ls ≡ links_type (types_in G) ts a ls
    links_type_same no_links ts a h = refl
    links_type_same (more_links o p x ls) ts a h =
        ap (λ b. links_type (types_in F) ts (operator_type o a b) ls) (type_same x ts (front (calls_in x) (calls_in_links ls) h))
        ∙ links_type_same ls ts (operator_type o a (type_of (types_in G) ts x)) (back (calls_in x) (calls_in_links ls) h)

    steps_type_same : (steps : StepTrees) (ts : List Lists) (a : Lists) → Agree (calls_in_steps steps) → steps_type (types_in F) ts a steps ≡ steps_type (types_in G) ts a steps
    steps_type_same no_steps ts a h = refl
    steps_type_same (join_first p x steps) ts a h =
        ap (λ b. steps_type (types_in F) ts (joins a b) steps) (type_same x ts (front (calls_in x) (calls_in_steps steps) h))
        ∙ steps_type_same steps ts (joins a (type_of (types_in G) ts x)) (back (calls_in x) (calls_in_steps steps) h)
    steps_type_same (brackets_first p xs steps) ts a h =
        ap (λ bs. steps_type (types_in F) ts (brackets_type a bs) steps) (types_same xs ts (front (calls_in_all xs) (calls_in_steps steps) h))
        ∙ steps_type_same steps ts (brackets_type a (types_of (types_in G) ts xs)) (back (calls_in_all xs) (calls_in_steps steps) h)

  -- of a tree that is settled
  tree_same : (x : PhraseTree) (locals : List typing.Local) (tops' : List ℕ) (y : Settled) → settled G locals tops' x ≡ Ok y → Agree (calls_in x) → type_in F locals y.tree ≡ type_in G locals y.tree
  tree_same x locals tops' y e h = type_same y.tree (local_types locals) (subst Agree (sym (kept G x locals tops' y e)) h)

  -- ---- parts

  mutual
    pub settled_same : (x : PhraseTree) (locals : List typing.Local) (tops' : List ℕ) → Agree (calls_in x) → settled F locals tops' x ≡ settled G locals tops' x
    settled_same (refers p r) locals tops' h = refl
    settled_same (called p n xs) locals tops' h =
        bind_same (arguments_settled F locals xs) (arguments_settled G locals xs) _ _ (arguments_same xs locals h.1)
        (λ ys e. ap (λ o. call_kind p o ys.arities >>= λ k. Ok (record { tree = called p n ys.trees; kind = k })) h.0)
    settled_same (numbered n) locals tops' h = refl
    settled_same (constant c p) locals tops' h = refl
    settled_same (bracketed p x) locals tops' h = ap (λ r. r >>= λ y. Ok (record { tree = bracketed p y.tree; kind = y.kind })) (settled_same x locals tops' h)
    settled_same (block p xs) locals tops' h = ap (λ r. r >>= λ ys. Ok (record { tree = block p ys; kind = sorts.formula })) (formulas_same xs locals h)
    settled_same (prefixed q p x) locals tops' h =
        ap (λ r. r >>= λ y. prefix_kind q p (first_place x) y.kind >>= λ k. Ok (record { tree = prefixed q p y.tree; kind = k })) (settled_same x locals [] h)
    settled_same (chain x links) locals tops' h =
        let hx = front (calls_in x) (calls_in_links links) h in
        bind_same (settled F locals [] x) (settled G locals [] x) _ _ (settled_same x locals [] hx) (λ y e.
        ap (λ r. r >>= λ zs. Ok (record { tree = chain y.tree zs.0; kind = zs.1 }))
        (ap (λ t. links_settled F locals (first_place x) y.kind t links) (tree_same x locals [] y e hx)
        ∙ links_same links locals (first_place x) y.kind (type_in G locals y.tree) (back (calls_in x) (calls_in_links links) h)))
    settled_same (path x steps) locals tops' h =
        let hx = front (calls_in x) (calls_in_steps steps) h in
        let hs = back (calls_in x) (calls_in_steps steps) h in
        bind_same (if is_shared x then tops_in F locals steps else Ok []) (if is_shared x then tops_in G locals steps else Ok []) _ _ (λ i. if is_shared x then tops_same steps locals hs i else Ok []) (λ inner e.
        bind_same (settled F locals inner x) (settled G locals inner x) _ _ (settled_same x locals inner hx) (λ y e'.
        ap (λ r. r >>= λ zs. Ok (record { tree = path y.tree zs.0; kind = zs.1 }))
        (ap (λ t. steps_settled F locals (first_place x) y.kind t steps) (tree_same x locals inner y e' hx)
        ∙ steps_same steps locals (first_place x) y.kind (type_in G locals y.tree) hs)))
    settled_same (compared x c z) locals tops' h =
        let one = settled_same x locals [] (front (calls_in x) (calls_in z) h) in
        let two = settled_same z locals [] (back (calls_in x) (calls_in z) h) in
        λ i. one i >>= λ y. may_stand_left c.comparison (first_place x) y.kind >>= λ left. two i >>= λ w. fits_left c.place (first_place z) y.kind w.kind >>= λ right.
        Ok (record { tree = compared y.tree c w.tree; kind = sorts.formula })
    settled_same (implies x p z) locals tops' h =
        let one = settled_same x locals [] (front (calls_in x) (calls_in z) h) in
        let two = settled_same z locals [] (back (calls_in x) (calls_in z) h) in
        λ i. formula_from x (one i) >>= λ y. formula_from z (two i) >>= λ w. Ok (record { tree = implies y p w; kind = sorts.formula })
    settled_same (implies_else x p z v) locals tops' h =
        let xz = front (calls_in x ++ calls_in z) (calls_in v) h in
        let one = settled_same x locals [] (front (calls_in x) (calls_in z) xz) in
        let two = settled_same z locals [] (back (calls_in x) (calls_in z) xz) in
        let three = settled_same v locals [] (back (calls_in x ++ calls_in z) (calls_in v) h) in
        λ i. formula_from x (one i) >>= λ y. formula_from z (two i) >>= λ w. formula_from v (three i) >>= λ u. Ok (record { tree = implies_else y p w u; kind = sorts.formula })
    settled_same (quantified q p ds x) locals tops' h =
        bind_same (domains_settled true F locals ds) (domains_settled true G locals ds) _ _ (domains_same true ds locals (front (calls_in_domains ds) (calls_in x) h)) (λ es e.
        ap (λ r. formula_from x r >>= λ y. Ok (record { tree = quantified q p es.0 y; kind = sorts.formula })) (settled_same x es.1 [] (back (calls_in_domains ds) (calls_in x) h)))
    settled_same (bound_by_let p xs x) locals tops' h =
        bind_same (values_settled F locals xs) (values_settled G locals xs) _ _ (values_same xs locals (front (calls_in_all xs) (calls_in x) h)) (λ es e.
        ap (λ r. formula_from x r >>= λ y. Ok (record { tree = bound_by_let p es.0 y; kind = sorts.formula })) (settled_same x es.1 [] (back (calls_in_all xs) (calls_in x) h)))

    pub formulas_same : (xs : PhraseTrees) (locals : List typing.Local) → Agree (calls_in_all xs) → formulas_settled F locals xs ≡ formulas_settled G locals xs
    formulas_same no_phrases locals h = refl
    formulas_same (more_phrases x xs) locals h =
        let one = settled_same x locals [] (front (calls_in x) (calls_in_all xs) h) in
        let more = formulas_same xs locals (back (calls_in x) (calls_in_all xs) h) in
        λ i. formula_from x (one i) >>= λ y. more i >>= λ ys. Ok (more_phrases y ys)

    arguments_same : (xs : PhraseTrees) (locals : List typing.Local) → Agree (calls_in_all xs) → arguments_settled F locals xs ≡ arguments_settled G locals xs
    arguments_same no_phrases locals h = refl
    arguments_same (more_phrases x xs) locals h =
        let one = settled_same x locals [] (front (calls_in x) (calls_in_all xs) h) in
        let more = arguments_same xs locals (back (calls_in x) (calls_in_all xs) h) in
        λ i. one i >>= λ y. as_relation (first_place x) y.kind >>= λ n. more i >>= λ ys. Ok (record { trees = more_phrases y.tree ys.trees; arities = (n, first_place x) ∷ ys.arities })

    links_same : (links : LinkTrees) (locals : List typing.Local) (left : Place) (k : Kind) (t : Lists) → Agree (calls_in_links links) → links_settled F locals left k t links ≡ links_settled G locals left k t links
    links_same no_links locals left k t h = refl
    links_same (more_links o p x links) locals left k t h =
        let hx = front (calls_in x) (calls_in_links links) h in
        let hl = back (calls_in x) (calls_in_links links) h in
        let plain = settled_same x locals [] hx in
        let more = links_same links locals left sorts.formula [] hl in
        let C : Declared → Result (LinkTrees × Kind) TypeFault = λ d.
        as_formula left k >>= λ is. formula_from x (settled d locals [] x) >>= λ y. links_settled d locals left sorts.formula [] links >>= λ zs. Ok (more_links o p y zs.0, zs.1) in
        let R : Declared → Result (LinkTrees × Kind) TypeFault = λ d.
        as_relation left k >>= λ m. settled d locals (tops_behind o t) x >>= λ y. as_relation (first_place x) y.kind >>= λ n. operator_arity o p left (first_place x) m n >>= λ r.
        links_settled d locals left (sorts.relation r) (operator_type o t (type_in d locals y.tree)) links >>= λ zs. Ok (more_links o p y.tree zs.0, zs.1) in
        let one : C F ≡ C G = λ i. as_formula left k >>= λ is. formula_from x (plain i) >>= λ y. more i >>= λ zs. Ok (more_links o p y zs.0, zs.1) in
        let two : R F ≡ R G = bind_same (as_relation left k) (as_relation left k) _ _ refl (λ m e.
        bind_same (settled F locals (tops_behind o t) x) (settled G locals (tops_behind o t) x) _ _ (settled_same x locals (tops_behind o t) hx) (λ y e'.
        bind_same (as_relation (first_place x) y.kind) (as_relation (first_place x) y.kind) _ _ refl (λ n e''.
        bind_same (operator_arity o p left (first_place x) m n) (operator_arity o p left (first_place x) m n) _ _ refl (λ r d.
        ap (λ q. q >>= λ zs. Ok (more_links o p y.tree zs.0, zs.1))
        (ap (λ b. links_settled F locals left (sorts.relation r) (operator_type o t b) links) (tree_same x locals (tops_behind o t) y e' hx)
        ∙ links_same links locals left (sorts.relation r) (operator_type o t (type_in G locals y.tree)) hl))))) in
        λ i. if is_connective o then one i else two i

    steps_same : (steps : StepTrees) (locals : List typing.Local) (left : Place) (k : Kind) (t : Lists) → Agree (calls_in_steps steps) → steps_settled F locals left k t steps ≡ steps_settled G locals left k t steps
    steps_same no_steps locals left k t h = refl
    steps_same (join_first p x steps) locals left k t h =
        let hx = front (calls_in x) (calls_in_steps steps) h in
        let hs = back (calls_in x) (calls_in_steps steps) h in
        bind_same (as_relation left k) (as_relation left k) _ _ refl (λ m e.
        bind_same (settled F locals (ends_of t) x) (settled G locals (ends_of t) x) _ _ (settled_same x locals (ends_of t) hx) (λ y e'.
        bind_same (as_relation (first_place x) y.kind) (as_relation (first_place x) y.kind) _ _ refl (λ n e''.
        bind_same (joined_arity p m n) (joined_arity p m n) _ _ refl (λ r d.
        ap (λ q. q >>= λ zs. Ok (join_first p y.tree zs.0, zs.1))
        (ap (λ b. steps_settled F locals left (sorts.relation r) (joins t b) steps) (tree_same x locals (ends_of t) y e' hx)
        ∙ steps_same steps locals left (sorts.relation r) (joins t (type_in G locals y.tree)) hs)))))
    steps_same (brackets_first p xs steps) locals left k t h =
        let hx = front (calls_in_all xs) (calls_in_steps steps) h in
        let hs = back (calls_in_all xs) (calls_in_steps steps) h in
        bind_same (as_relation left k) (as_relation left k) _ _ refl (λ m e.
        bind_same (arguments_settled F locals xs) (arguments_settled G locals xs) _ _ (arguments_same xs locals hx) (λ ys e'.
        bind_same (brackets_arity p m (map (λ n. n.0) ys.arities)) (brackets_arity p m (map (λ n. n.0) ys.arities)) _ _ refl (λ r d.
        ap (λ q. q >>= λ zs. Ok (brackets_first p ys.trees zs.0, zs.1))
        (ap (λ bs. steps_settled F locals left (sorts.relation r) (brackets_type t bs) steps)
        (types_same ys.trees (local_types locals) (subst Agree (sym (arguments_kept G xs locals ys e')) hx))
        ∙ steps_same steps locals left (sorts.relation r) (brackets_type t (types_of (types_in G) (local_types locals) ys.trees)) hs))))

    tops_same : (steps : StepTrees) (locals : List typing.Local) → Agree (calls_in_steps steps) → tops_in F locals steps ≡ tops_in G locals steps
    tops_same no_steps locals h = refl
    tops_same (join_first p x steps) locals h = refl
    tops_same (brackets_first p xs steps) locals h = ends_same xs locals (front (calls_in_all xs) (calls_in_steps steps) h)

    ends_same : (xs : PhraseTrees) (locals : List typing.Local) → Agree (calls_in_all xs) → first_ends F locals xs ≡ first_ends G locals xs
    ends_same no_phrases locals h = refl
    ends_same (more_phrases x xs) locals h =
        let hx = front (calls_in x) (calls_in_all xs) h in
        bind_same (settled F locals [] x) (settled G locals [] x) _ _ (settled_same x locals [] hx) (λ y e. ap (λ t. Ok (ends_of t)) (tree_same x locals [] y e hx))

    pub domains_same : (b : Bool) (ds : DomainTrees) (locals : List typing.Local) → Agree (calls_in_domains ds) → domains_settled b F locals ds ≡ domains_settled b G locals ds
    domains_same b no_domains locals h = refl
    domains_same b (more_domains disjoint n mark x ds) locals h =
        let hx = front (calls_in x) (calls_in_domains ds) h in
        let hd = back (calls_in x) (calls_in_domains ds) h in
        bind_same (settled F locals [] x) (settled G locals [] x) _ _ (settled_same x locals [] hx) (λ y e.
        bind_same (as_relation (first_place x) y.kind) (as_relation (first_place x) y.kind) _ _ refl (λ m e'.
        bind_same (unless (if b then m == 1 else true) (fault.NotUnary (first_place x))) (unless (if b then m == 1 else true) (fault.NotUnary (first_place x))) _ _ refl (λ one d.
        ap (λ q. q >>= λ zs. Ok (more_domains disjoint n mark y.tree zs.0, zs.1))
        (ap (λ t. domains_settled b F (typing.onto n (record { arity = m; type = t }) locals) ds) (tree_same x locals [] y e hx)
        ∙ domains_same b ds (typing.onto n (record { arity = m; type = type_in G locals y.tree }) locals) hd))))

    values_same : (xs : PhraseTrees) (locals : List typing.Local) → Agree (calls_in_all xs) → values_settled F locals xs ≡ values_settled G locals xs
    values_same no_phrases locals h = refl
    values_same (more_phrases x xs) locals h =
        let hx = front (calls_in x) (calls_in_all xs) h in
        let hs = back (calls_in x) (calls_in_all xs) h in
        bind_same (settled F locals [] x) (settled G locals [] x) _ _ (settled_same x locals [] hx) (λ y e.
        bind_same (as_relation (first_place x) y.kind) (as_relation (first_place x) y.kind) _ _ refl (λ m e'.
        ap (λ q. q >>= λ zs. Ok (more_phrases y.tree zs.0, zs.1))
        (ap (λ t. values_settled F (record { arity = m; type = t } ∷ locals) xs) (tree_same x locals [] y e hx)
        ∙ values_same xs (record { arity = m; type = type_in G locals y.tree } ∷ locals) hs)))

  -- ---- headers

  local_same : (x : PhraseTree) (locals : List typing.Local) (r : Result Settled TypeFault) → settled G locals [] x ≡ r → Agree (calls_in x) → local_of F locals x r ≡ local_of G locals x r
  local_same x locals (Err e) at h = refl
  local_same x locals (Ok y) at h =
      let t = tree_same x locals [] y at h in
      λ i. elim y.kind as (λ k. Option typing.Local) [ sorts.relation n ↦ Some (record { arity = n; type = t i }) | other ↦ None ]

  known_same : (ds : DomainTrees) (locals : List typing.Local) → Agree (calls_in_domains ds) → domains_known F locals ds ≡ domains_known G locals ds
  known_same no_domains locals h = refl
  known_same (more_domains disjoint n mark x ds) locals h =
      let hx = front (calls_in x) (calls_in_domains ds) h in
      let l : local_of F locals x (settled F locals [] x) ≡ local_of G locals x (settled G locals [] x) =
      ap (local_of F locals x) (settled_same x locals [] hx) ∙ local_same x locals (settled G locals [] x) refl hx in
      ap (λ o. record { place = first_place x; count = n; local = o } ∷ domains_known F (typing.onto n (or_unknown o) locals) ds) l
      ∙ ap (λ es. record { place = first_place x; count = n; local = local_of G locals x (settled G locals [] x) } ∷ es)
      (known_same ds (typing.onto n (or_unknown (local_of G locals x (settled G locals [] x))) locals) (back (calls_in x) (calls_in_domains ds) h))

  type_known_same : (x : PhraseTree) (locals : List typing.Local) (r : Result Settled TypeFault) → settled G locals [] x ≡ r → Agree (calls_in x) → type_known F r ≡ type_known G r
  type_known_same x locals (Err e) at h = refl
  type_known_same x locals (Ok y) at h = λ i arguments. type_same y.tree (reverse arguments) (subst Agree (sym (kept G x locals [] y at)) h) i

  header_with_same : (ls : List (Option typing.Local)) (w : MeaningTree) → Agree (calls_in_meaning w) → header_with F ls w ≡ header_with G ls w
  header_with_same ls (formulas xs) h = refl
  header_with_same ls (value range body) h =
      let locals = reverse (map or_unknown ls) in
      let r = settled_same range locals [] (front (calls_in range) (calls_in body) h) in
      let hb = back (calls_in range) (calls_in body) h in
      let t = ap (type_known F) (settled_same body locals [] hb) ∙ type_known_same body locals (settled G locals [] body) refl hb in
      λ i. record { parameters = map (λ (o : Option typing.Local). option_map (λ (l : typing.Local). l.arity) o) ls; kind = kind_known (r i); type = t i }

  pub header_same : (c : CalleeTree) → Agree (callees_of c) → header_of F c ≡ header_of G c
  header_same c h =
      let ks = known_same c.parameters [] (front (calls_in_domains c.parameters) (calls_in_meaning c.meaning) h) in
      ap (λ es. header_with F (parameters_known es) c.meaning) ks
      ∙ header_with_same (parameters_known (domains_known G [] c.parameters)) c.meaning (back (calls_in_domains c.parameters) (calls_in_meaning c.meaning) h)

  pub headers_agree : (qs : List ℕ) → ((q : ℕ) → Contains qs q → f q ≡ g q) → Agree qs
  headers_agree [] h = tt
  headers_agree (q ∷ qs) h = (h q (cons_first q qs), headers_agree qs (λ r c. h r (cons_later q qs r c)))
