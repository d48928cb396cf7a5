-- Groups of parameters are what is known of domains.
use Rattle.std.proofs.Common.{◌≡◌, ℕ, zero, suc, ◌+◌, ◌<◌, ◌≤◌, Bool, ◌||◌, List, [], ◌∷◌, ◌++◌, map, length, drop, get_or, replicate, reverse, refl, sym, ap, subst, ◌∙◌, Option, Some, None, Result, Ok, Err}
use Rattle.std.specs.Option.{option_map}
use Rattle.std.proofs.lemmas.List.{map-append, append_assoc, append-nil, reverse-append}
use Rattle.named_model.specs.Phrase.{PhraseTree, DomainTree, DomainTrees, no_domains, more_domains, domains_of}
use Rattle.named_model.specs.declared.phrase.Domain.{Domain as CodeDomain}
use Rattle.named_model.specs.View.{domain_view}
use Rattle.model_types.specs.declared.fault.TypeFault.{TypeFault}
use Rattle.model_types.specs.Sorts.{Kind, relation, formula, number, size}
use Rattle.model_types.specs.Typing.{Declared, Local, Settled, settled, types_in, onto}
use Rattle.model_types.specs.Models.{local_of, or_unknown, domains_known, parameters_known, kind_known}
use Rattle.overload_resolution.specs.Names.Shared.{shared_in, shared_in_domains}
use Rattle.overload_resolution.specs.Settling.Inside.{AreAlikeWhere}
use Rattle.overload_resolution.specs.Settling.Same.{AreSameTypes, Asks}
use Rattle.overload_resolution.proofs.Settling.SharedDeclarations.{asks_left, asks_right, alike_then, alike_onto, type_where}
use Rattle.overload_resolution.proofs.Settling.SettledAlike.{settled_alike}
use Rattle.overload_resolution.proofs.Settling.Reaching.{next_is, none_is}
use Rattle.alloy_types.specs.Calls.Groups.{GroupTree, relation_of, local_with, entered, group_in, groups_in, behind, arities_of}
use Rattle.alloy_types.specs.Calls.Meanings.{kind_with}

map_replicate : {X Y : Type 0} (f : X → Y) (n : ℕ) (x : X) → map f (replicate n x) ≡ replicate n (f x)
map_replicate f zero x = refl
map_replicate f (suc n) x = ap (λ ys. f x ∷ ys) (map_replicate f n x)

replicate_last : {X : Type 0} (n : ℕ) (x : X) → replicate n x ++ x ∷ [] ≡ x ∷ replicate n x
replicate_last zero x = refl
replicate_last (suc n) x = ap (λ xs. x ∷ xs) (replicate_last n x)

reverse_replicate : {X : Type 0} (n : ℕ) (x : X) → reverse (replicate n x) ≡ replicate n x
reverse_replicate zero x = refl
reverse_replicate (suc n) x = reverse-append (x ∷ []) (replicate n x) ∙ ap (λ xs. xs ++ x ∷ []) (reverse_replicate n x) ∙ replicate_last n x

abbrev pub local_arity : Option Local → Option ℕ
local_arity = option_map (λ (l : Local). l.arity)

kind_local : (d : Declared) (locals : List Local) (x t : PhraseTree) (k : Kind)
    → local_of d locals x (Ok (record { tree = t; kind = k })) ≡ local_with d locals (relation_of (Ok (record { tree = t; kind = k })))
kind_local d locals x t (relation n) = refl
kind_local d locals x t formula = refl
kind_local d locals x t number = refl
kind_local d locals x t size = refl

pub local_is : (d : Declared) (locals : List Local) (x : PhraseTree) (r : Result Settled TypeFault) → local_of d locals x r ≡ local_with d locals (relation_of r)
local_is d locals x (Err e) = refl
local_is d locals x (Ok y) = kind_local d locals x y.tree y.kind

pub arity_is : (d : Declared) (locals : List Local) (r : Option (PhraseTree × ℕ)) → local_arity (local_with d locals r) ≡ option_map (λ (q : PhraseTree × ℕ). q.1) r
arity_is d locals None = refl
arity_is d locals (Some r) = refl

-- what a call is, by its range
range_known : (t : PhraseTree) (k : Kind) → kind_known (Ok (record { tree = t; kind = k })) ≡ kind_with (relation_of (Ok (record { tree = t; kind = k })))
range_known t (relation n) = refl
range_known t formula = refl
range_known t number = refl
range_known t size = refl

pub range_is : (r : Result Settled TypeFault) → kind_known r ≡ kind_with (relation_of r)
range_is (Err e) = refl
range_is (Ok y) = range_known y.tree y.kind

module _ (d : Declared) where
  abbrev with_local : PhraseTree → ℕ → List Local → DomainTrees → Option Local → List (Option Local)
  with_local x n locals ds l = replicate n l ++ parameters_known (domains_known d (onto n (or_unknown l) locals) ds)

  abbrev local_here : List Local → PhraseTree → Option Local
  local_here locals x = local_with d locals (relation_of (settled d locals [] x))

  known_first : (locals : List Local) (n : ℕ) (x : PhraseTree) (ds : DomainTrees) (o : Option Local) → local_of d locals x (settled d locals [] x) ≡ o
      → with_local x n locals ds (local_of d locals x (settled d locals [] x)) ≡ with_local x n locals ds o
  known_first locals n x ds o e = ap (with_local x n locals ds) e

  pub arities_are : (locals : List Local) (ds : DomainTrees) → map local_arity (parameters_known (domains_known d locals ds)) ≡ arities_of (groups_in d locals ds)
  arities_are locals no_domains = refl
  arities_are locals (more_domains disjoint n mark x ds) =
      let l = local_here locals x in
      let rest = domains_known d (onto n (or_unknown l) locals) ds in
      ap (map local_arity) (known_first locals n x ds l (local_is d locals x (settled d locals [] x)))
      ∙ map-append local_arity (replicate n l) (parameters_known rest)
      ∙ (λ i. (map_replicate local_arity n l ∙ ap (replicate n) (arity_is d locals (relation_of (settled d locals [] x)))) i ++ arities_are (onto n (or_unknown l) locals) ds i)

  pub locals_are : (locals : List Local) (ds : DomainTrees) → reverse (map or_unknown (parameters_known (domains_known d locals ds))) ++ locals ≡ behind d locals (groups_in d locals ds)
  locals_are locals no_domains = refl
  locals_are locals (more_domains disjoint n mark x ds) =
      let l = local_here locals x in
      let u = or_unknown l in
      let ps = parameters_known (domains_known d (onto n u locals) ds) in
      ap (λ (ls : List (Option Local)). reverse (map or_unknown ls) ++ locals) (known_first locals n x ds l (local_is d locals x (settled d locals [] x)))
      ∙ ap (λ (ls : List Local). reverse ls ++ locals) (map-append or_unknown (replicate n l) ps ∙ ap (λ (ls : List Local). ls ++ map or_unknown ps) (map_replicate or_unknown n l))
      ∙ ap (λ (ls : List Local). ls ++ locals) (reverse-append (replicate n u) (map or_unknown ps) ∙ ap (λ (ls : List Local). reverse (map or_unknown ps) ++ ls) (reverse_replicate n u))
      ∙ append_assoc (reverse (map or_unknown ps)) (replicate n u) locals
      ∙ locals_are (onto n u locals) ds

  -- ---- one after the other

  behind_last : (locals : List Local) (gs : List GroupTree) (g : GroupTree) → behind d locals (gs ++ g ∷ []) ≡ entered d (behind d locals gs) g
  behind_last locals [] g = refl
  behind_last locals (f ∷ gs) g = behind_last (entered d locals f) gs g

  pub groups_more : (whole : List GroupTree) (xs : List CodeDomain) (i : ℕ) (x : CodeDomain) (found : List GroupTree) (g : GroupTree) → i < length xs → x ≡ get_or xs i x → g ≡ group_in d (behind d [] found) (domain_view x)
      → whole ≡ found ++ groups_in d (behind d [] found) (domains_of (map domain_view (drop i xs)))
      → whole ≡ found ++ g ∷ [] ++ groups_in d (behind d [] (found ++ g ∷ [])) (domains_of (map domain_view (drop (i + 1) xs)))
  groups_more whole xs i x found g l is e before =
      before
      ∙ ap (λ (ds : List CodeDomain). found ++ groups_in d (behind d [] found) (domains_of (map domain_view ds))) (next_is xs i x l is)
      ∙ ap (λ (h : GroupTree). found ++ h ∷ groups_in d (entered d (behind d [] found) h) (domains_of (map domain_view (drop (i + 1) xs)))) (sym e)
      ∙ sym (append_assoc found (g ∷ []) (groups_in d (entered d (behind d [] found) g) (domains_of (map domain_view (drop (i + 1) xs)))))
      ∙ ap (λ (ls : List Local). found ++ g ∷ [] ++ groups_in d ls (domains_of (map domain_view (drop (i + 1) xs)))) (sym (behind_last [] found g))

  pub alike_more : (asked : Bool) (now : List Local) (found : List GroupTree) (g : GroupTree) → AreAlikeWhere asked now (entered d (behind d [] found) g) → AreAlikeWhere asked now (behind d [] (found ++ g ∷ []))
  alike_more asked now found g h = subst (λ (ls : List Local). AreAlikeWhere asked now ls) (sym (behind_last [] found g)) h

  pub groups_all : (whole : List GroupTree) (xs : List CodeDomain) (i : ℕ) (found : List GroupTree) → length xs ≤ i → whole ≡ found ++ groups_in d (behind d [] found) (domains_of (map domain_view (drop i xs))) → whole ≡ found
  groups_all whole xs i found l before =
      before ∙ ap (λ (ds : List CodeDomain). found ++ groups_in d (behind d [] found) (domains_of (map domain_view ds))) (none_is xs i l) ∙ append-nil found

-- what is asked for in domains is asked for in each
pub asks_next : (asked : Bool) (xs : List CodeDomain) (i : ℕ) (x : CodeDomain) → i < length xs → x ≡ get_or xs i x → Asks (shared_in_domains (domains_of (map domain_view (drop i xs)))) asked
    → Asks (shared_in (domain_view x).domain) asked × Asks (shared_in_domains (domains_of (map domain_view (drop (i + 1) xs)))) asked
asks_next asked xs i x l is a =
    let both : Asks (shared_in (domain_view x).domain || shared_in_domains (domains_of (map domain_view (drop (i + 1) xs)))) asked =
    subst (λ (ds : List CodeDomain). Asks (shared_in_domains (domains_of (map domain_view ds))) asked) (next_is xs i x l is) a in (
      asks_left (shared_in (domain_view x).domain) (shared_in_domains (domains_of (map domain_view (drop (i + 1) xs)))) asked both,
      asks_right (shared_in (domain_view x).domain) (shared_in_domains (domains_of (map domain_view (drop (i + 1) xs)))) asked both,
    )

-- ---- local names that are alike

module _ (asked : Bool) (d : Declared) (same : AreSameTypes (types_in d) (types_in d)) where
  pub entered_alike : (ls ms : List Local) (g : GroupTree) → AreAlikeWhere asked ls ms → AreAlikeWhere asked (entered d ls g) (entered d ms g)
  entered_alike ls ms g h = go g.relation
    where
      go : (r : Option (PhraseTree × ℕ)) → AreAlikeWhere asked (onto g.count (or_unknown (local_with d ls r)) ls) (onto g.count (or_unknown (local_with d ms r)) ms)
      go None = alike_onto asked g.count _ _ ls ms refl (λ a t. refl) h
      go (Some r) = alike_onto asked g.count _ _ ls ms refl (type_where asked d same ls ms r.0 h) h

  -- behind a group that was entered
  pub entered_behind : (new now : List Local) (found : List GroupTree) (g : GroupTree) → AreAlikeWhere asked new (entered d now g) → AreAlikeWhere asked now (behind d [] found) → AreAlikeWhere asked new (entered d (behind d [] found) g)
  entered_behind new now found g h k = alike_then asked new (entered d now g) (entered d (behind d [] found) g) h (entered_alike now (behind d [] found) g k)

  -- the group of a domain is the same behind local names that are alike
  pub group_alike : (ls ms : List Local) (x : DomainTree) → AreAlikeWhere asked ls ms → Asks (shared_in x.domain) asked → group_in d ls x ≡ group_in d ms x
  group_alike ls ms x h a = ap (λ (r : Result Settled TypeFault). record { count = x.count; relation = relation_of r }) (settled_alike asked d same ls ms h [] [] (λ e t. refl) x.domain a)
