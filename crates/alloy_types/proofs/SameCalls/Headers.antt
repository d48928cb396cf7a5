-- Predicates and functions are known by the same headers and bodies, where declarations say the same.
use Rattle.std.proofs.Common.{◌≡◌, ℕ, zero, suc, List, [], ◌∷◌, ◌++◌, map, replicate, reverse, refl, sym, ap, subst, Option, Some, None, option_map, Result, Ok, Err}
use Rattle.std.proofs.lemmas.List.{reverse-append}
use Rattle.named_model.specs.declared.named.Signature.{Signature}
use Rattle.named_model.specs.Phrase.{PhraseTree, DomainTrees, no_domains, more_domains}
use Rattle.named_model.specs.Model.{MeaningTree, formulas, value, CalleeTree}
use Rattle.model_types.specs.declared.fault.TypeFault.{TypeFault}
use Rattle.model_types.specs.Bounding.{Lists}
use Rattle.model_types.specs.Sorts.{Kind, relation, formula, number, size}
use Rattle.model_types.specs.Typing.{Local, Field, Header, Declared, type_in, local_types, Settled, onto, settled}
use Rattle.model_types.specs.Models.{local_of, or_unknown, Domain, domains_known, parameters_known, kind_known, type_known, header_with, header_of}
use Rattle.model_types.specs.Bounds.Same.{AreSame}
use Rattle.overload_resolution.specs.Expressions.Types.{AreEachSame}
use Rattle.overload_resolution.proofs.Expressions.Each.{each_reverse}
use Rattle.alloy_types.specs.Declarations.Same.{IsSameLocal, AreSameLocals, AreSameFields, IsSameHeader, AreSameHeaders}
use Rattle.alloy_types.specs.Headers.Bodies.{tree_of, body_in, body_of}
use Rattle.alloy_types.proofs.Declarations.Settling.{type_same, settled_same}

abbrev pub Maybe : Option Local → Option Local → Type 0
Maybe None None = Unit {0}
Maybe (Some l) (Some m) = IsSameLocal l m
Maybe l m = ⊥

abbrev Maybes : List (Option Local) → List (Option Local) → Type 0
Maybes [] [] = Unit {0}
Maybes (l ∷ ls) (m ∷ ms) = Maybe l m × Maybes ls ms
Maybes ls ms = ⊥

pub record IsSameDomain (d e : Domain) : Type 0 where
  pub place : d.place ≡ e.place
  pub count : d.count ≡ e.count
  pub local : Maybe d.local e.local

abbrev pub AreSameKnown : List Domain → List Domain → Type 0
AreSameKnown [] [] = Unit {0}
AreSameKnown (d ∷ ds) (e ∷ es) = IsSameDomain d e × AreSameKnown ds es
AreSameKnown ds es = ⊥

unknown_same : (l m : Option Local) → Maybe l m → IsSameLocal (or_unknown l) (or_unknown m)
unknown_same None None h = record { arities = refl; types = λ t. refl }
unknown_same None (Some m) h = absurd h
unknown_same (Some l) None h = absurd h
unknown_same (Some l) (Some m) h = h

maybes_append : (js ks ls ms : List (Option Local)) → Maybes js ks → Maybes ls ms → Maybes (js ++ ls) (ks ++ ms)
maybes_append [] [] ls ms h e = e
maybes_append [] (k ∷ ks) ls ms h e = absurd h
maybes_append (j ∷ js) [] ls ms h e = absurd h
maybes_append (j ∷ js) (k ∷ ks) ls ms h e = (h.0, maybes_append js ks ls ms h.1 e)

maybes_replicate : (n : ℕ) (l m : Option Local) → Maybe l m → Maybes (replicate n l) (replicate n m)
maybes_replicate zero l m h = tt
maybes_replicate (suc n) l m h = (h, maybes_replicate n l m h)

parameters_same : (ds es : List Domain) → AreSameKnown ds es → Maybes (parameters_known ds) (parameters_known es)
parameters_same [] [] h = tt
parameters_same [] (e ∷ es) h = absurd h
parameters_same (d ∷ ds) [] h = absurd h
parameters_same (d ∷ ds) (e ∷ es) h =
    maybes_append (replicate d.count d.local) (replicate e.count e.local) (parameters_known ds) (parameters_known es)
    (subst (λ n. Maybes (replicate d.count d.local) (replicate n e.local)) h.0.count (maybes_replicate d.count d.local e.local h.0.local)) (parameters_same ds es h.1)

pub arity_same : (l m : Option Local) → Maybe l m → option_map (λ (l : Local). l.arity) l ≡ option_map (λ (l : Local). l.arity) m
arity_same None None h = refl
arity_same None (Some m) h = absurd h
arity_same (Some l) None h = absurd h
arity_same (Some l) (Some m) h = λ i. Some (h.arities i)

arities_same : (ls ms : List (Option Local)) → Maybes ls ms → map (option_map (λ (l : Local). l.arity)) ls ≡ map (option_map (λ (l : Local). l.arity)) ms
arities_same [] [] h = refl
arities_same [] (m ∷ ms) h = absurd h
arities_same (l ∷ ls) [] h = absurd h
arities_same (l ∷ ls) (m ∷ ms) h = λ i. arity_same l m h.0 i ∷ arities_same ls ms h.1 i

locals_same : (ls ms : List (Option Local)) → Maybes ls ms → AreSameLocals (map or_unknown ls) (map or_unknown ms)
locals_same [] [] h = tt
locals_same [] (m ∷ ms) h = absurd h
locals_same (l ∷ ls) [] h = absurd h
locals_same (l ∷ ls) (m ∷ ms) h = (unknown_same l m h.0, locals_same ls ms h.1)

types_of_locals : (xs ys : List Local) → AreSameLocals xs ys → AreEachSame (local_types xs) (local_types ys)
types_of_locals [] [] h = tt
types_of_locals [] (y ∷ ys) h = absurd h
types_of_locals (x ∷ xs) [] h = absurd h
types_of_locals (x ∷ xs) (y ∷ ys) h = (h.0.types, types_of_locals xs ys h.1)

pub onto_same : (n : ℕ) (a b : Local) → IsSameLocal a b → (xs ys : List Local) → AreSameLocals xs ys → AreSameLocals (onto n a xs) (onto n b ys)
onto_same zero a b s xs ys h = h
onto_same (suc n) a b s xs ys h = (s, onto_same n a b s xs ys h)

locals_append : (js ks ls ms : List Local) → AreSameLocals js ks → AreSameLocals ls ms → AreSameLocals (js ++ ls) (ks ++ ms)
locals_append [] [] ls ms h e = e
locals_append [] (k ∷ ks) ls ms h e = absurd h
locals_append (j ∷ js) [] ls ms h e = absurd h
locals_append (j ∷ js) (k ∷ ks) ls ms h e = (h.0, locals_append js ks ls ms h.1 e)

locals_reverse : (ls ms : List Local) → AreSameLocals ls ms → AreSameLocals (reverse ls) (reverse ms)
locals_reverse [] [] h = tt
locals_reverse [] (m ∷ ms) h = absurd h
locals_reverse (l ∷ ls) [] h = absurd h
locals_reverse (l ∷ ls) (m ∷ ms) h =
    subst (λ (ks : List Local). AreSameLocals ks (reverse (m ∷ ms))) (sym (reverse-append (l ∷ []) ls))
    (subst (λ (ks : List Local). AreSameLocals (reverse ls ++ l ∷ []) ks) (sym (reverse-append (m ∷ []) ms))
    (locals_append (reverse ls) (reverse ms) (l ∷ []) (m ∷ []) (locals_reverse ls ms h.1) (h.0, tt)))

module _ (signatures : List Signature) (fs gs : List Field) (f g : ℕ → Option Header) (fields : AreSameFields fs gs) (callees : (n : ℕ) → AreSameHeaders (f n) (g n)) where
  abbrev one : Declared
  one = record { signatures = signatures; fields = fs; callee = f }

  abbrev other : Declared
  other = record { signatures = signatures; fields = gs; callee = g }

  pub typed : (ls ms : List Local) → AreSameLocals ls ms → (x : PhraseTree) → AreSame (type_in one ls x) (type_in other ms x)
  typed ls ms h x = type_same signatures fs gs f g fields callees (local_types ls) (local_types ms) (types_of_locals ls ms h) x

  settle : (ls ms : List Local) → AreSameLocals ls ms → (x : PhraseTree) → settled one ls [] x ≡ settled other ms [] x
  settle ls ms h x = settled_same signatures fs gs f g fields callees ls ms h [] [] (λ t. refl) x

  kind_same : (ls ms : List Local) → AreSameLocals ls ms → (x t : PhraseTree) (k : Kind)
      → Maybe (local_of one ls x (Ok (record { tree = t; kind = k }))) (local_of other ms x (Ok (record { tree = t; kind = k })))
  kind_same ls ms h x t (relation n) = record { arities = refl; types = typed ls ms h t }
  kind_same ls ms h x t formula = tt
  kind_same ls ms h x t number = tt
  kind_same ls ms h x t size = tt

  local_same : (ls ms : List Local) → AreSameLocals ls ms → (x : PhraseTree) (a : Result Settled TypeFault) → Maybe (local_of one ls x a) (local_of other ms x a)
  local_same ls ms h x (Ok y) = kind_same ls ms h x y.tree y.kind
  local_same ls ms h x (Err e) = tt

  pub known_same : (ls ms : List Local) → AreSameLocals ls ms → (ds : DomainTrees) → AreSameKnown (domains_known one ls ds) (domains_known other ms ds)
  known_same ls ms h no_domains = tt
  known_same ls ms h (more_domains disjoint n mark x ds) =
      let l = local_of one ls x (settled one ls [] x) in
      let m = local_of other ms x (settled other ms [] x) in
      let same = subst (λ a. Maybe l (local_of other ms x a)) (settle ls ms h x) (local_same ls ms h x (settled one ls [] x)) in (
        record { place = refl; count = refl; local = same },
        known_same (onto n (or_unknown l) ls) (onto n (or_unknown m) ms) (onto_same n (or_unknown l) (or_unknown m) (unknown_same l m same) ls ms h) ds,
      )

  called_same : (a : Result Settled TypeFault) (xs ys : List Lists) → AreEachSame xs ys → AreSame (type_known one a xs) (type_known other a ys)
  called_same (Ok y) xs ys h = type_same signatures fs gs f g fields callees (reverse xs) (reverse ys) (each_reverse xs ys h) y.tree
  called_same (Err e) xs ys h = λ t. refl

  meaning_same : (ls ms : List (Option Local)) → Maybes ls ms → (x : MeaningTree) → IsSameHeader (header_with one ls x) (header_with other ms x)
  meaning_same ls ms h (formulas xs) = record { parameters = arities_same ls ms h; kinds = refl; types = λ xs ys e. λ t. refl }
  meaning_same ls ms h (value range body) =
      let inner = locals_reverse (map or_unknown ls) (map or_unknown ms) (locals_same ls ms h) in
      let one_in = reverse (map or_unknown ls) in
      let other_in = reverse (map or_unknown ms) in
      record {
        parameters = arities_same ls ms h;
        kinds = ap kind_known (settle one_in other_in inner range);
        types = λ xs ys e. subst (λ a. AreSame (type_known one (settled one one_in [] body) xs) (type_known other a ys)) (settle one_in other_in inner body)
            (called_same (settled one one_in [] body) xs ys e);
      }

  pub header_same : (c : CalleeTree) → IsSameHeader (header_of one c) (header_of other c)
  header_same c =
      meaning_same (parameters_known (domains_known one [] c.parameters)) (parameters_known (domains_known other [] c.parameters))
      (parameters_same (domains_known one [] c.parameters) (domains_known other [] c.parameters) (known_same [] [] tt c.parameters)) c.meaning

  inner_same : (c : CalleeTree) → AreSameLocals (reverse (map or_unknown (parameters_known (domains_known one [] c.parameters)))) (reverse (map or_unknown (parameters_known (domains_known other [] c.parameters))))
  inner_same c =
      let ps = parameters_known (domains_known one [] c.parameters) in
      let qs = parameters_known (domains_known other [] c.parameters) in
      locals_reverse (map or_unknown ps) (map or_unknown qs)
      (locals_same ps qs (parameters_same (domains_known one [] c.parameters) (domains_known other [] c.parameters) (known_same [] [] tt c.parameters)))

  meaning_body : (ls ms : List Local) → AreSameLocals ls ms → (x : MeaningTree) → body_in one ls x ≡ body_in other ms x
  meaning_body ls ms h (formulas xs) = refl
  meaning_body ls ms h (value range body) = ap tree_of (settle ls ms h body)

  pub body_same : (c : CalleeTree) → body_of one c ≡ body_of other c
  body_same c = meaning_body _ _ (inner_same c) c.meaning
