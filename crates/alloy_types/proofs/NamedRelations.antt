-- Fields, predicates and functions, by their relations.
use Rattle.std.proofs.Common.{◌≡◌, ℕ, ◌≤◌, length, arith, false, ◌==◌, List, [], ◌∷◌, map, Bool, Option, Result, Ok, Err, refl, sym, ap, ◌∙◌, inr}
use Rattle.alloy_lex.specs.declared.token.Place.{Place}
use Rattle.named_model.specs.Phrase.{PhraseTree, DomainTree, DomainTrees, domains_of, links_of}
use Rattle.named_model.specs.declared.phrase.Link.{Link}
use Rattle.named_model.specs.View.{link_view}
use Rattle.named_model.specs.Model.{MeaningTree, formulas, value, CalleeTree}
use Rattle.named_model.specs.Answers.{◌>>=◌}
use Rattle.model_types.specs.declared.fault.TypeFault.{TypeFault}
use Rattle.model_types.specs.declared.fault.TypeFault.TheVariants as fault
use Rattle.model_types.specs.Sorts.{Checked, unless, first_place, as_relation}
use Rattle.model_types.specs.Typing.{Declared, Local, Settled, settled, types_in, domains_settled, onto, fits}
use Rattle.model_types.specs.Models.{or_unknown, domains_known, domains_unary, only_link, sides_unary, meaning_settled, callee_settled}
use Rattle.overload_resolution.specs.Names.Shared.{shared_in}
use Rattle.overload_resolution.specs.Settling.Inside.{AreAlikeWhere}
use Rattle.overload_resolution.specs.Settling.Same.{AreSameTypes, Asks}
use Rattle.overload_resolution.specs.Settling.Single.{relation_settled}
use Rattle.overload_resolution.specs.Settling.Told.{IsTold, Gives}
use Rattle.overload_resolution.proofs.Settling.SettledAlike.{settled_alike, formulas_alike}
use Rattle.overload_resolution.proofs.Settling.SharedDeclarations.{asks_left, asks_right}
use Rattle.overload_resolution.proofs.Settling.Reaching.{told_then}
use Rattle.alloy_types.specs.Calls.Groups.{GroupTree, entered, group_in, groups_in}
use Rattle.alloy_types.proofs.Calls.Grouped.{local_is, arity_is, local_arity}
use Rattle.alloy_types.specs.Meanings.{shared_in_meaning, value_settled, groups_unary}

-- what goes on with the tree and the arity of a relation
relation_apart : {B : Type 0} (p : Place) (r : Result Settled TypeFault) (g : PhraseTree → ℕ → Result B TypeFault)
    → (r >>= λ y. as_relation p y.kind >>= λ n. g y.tree n) ≡ ((r >>= λ y. as_relation p y.kind >>= λ n. Ok (y.tree, n)) >>= λ (q : PhraseTree × ℕ). g q.0 q.1)
relation_apart p (Err e) g = refl
relation_apart p (Ok y) g = go (as_relation p y.kind)
  where
    go : (s : Result ℕ TypeFault) → (s >>= λ n. g y.tree n) ≡ ((s >>= λ n. Ok (y.tree, n)) >>= λ (q : PhraseTree × ℕ). g q.0 q.1)
    go (Err e) = refl
    go (Ok n) = refl

-- ---- fields

-- ---- predicates and functions

pub value_apart : (d : Declared) (ls : List Local) (range body : PhraseTree) → meaning_settled d ls (value range body) ≡ (value_settled d ls range body >>= λ r. Ok (value r.0 r.1))
value_apart d ls range body =
    relation_apart (first_place range) (settled d ls [] range) (λ t m. settled d ls [] body >>= λ b. as_relation (first_place body) b.kind >>= λ n. unless (m == n) (fault.Arity (first_place body)) >>= λ same. Ok (value t b.tree))
    ∙ go (relation_settled d ls range)
  where
    last : (u : PhraseTree) (t : PhraseTree) (c : Checked) → (c >>= λ same. Ok (value t u)) ≡ ((c >>= λ same. Ok (t, u)) >>= λ (r : PhraseTree × PhraseTree). Ok (value r.0 r.1))
    last u t (Ok done) = refl
    last u t (Err e) = refl

    inner : (r : PhraseTree × ℕ) (s : Result (PhraseTree × ℕ) TypeFault)
        → (s >>= λ (b : PhraseTree × ℕ). unless (r.1 == b.1) (fault.Arity (first_place body)) >>= λ same. Ok (value r.0 b.0))
        ≡ ((s >>= λ (b : PhraseTree × ℕ). unless (r.1 == b.1) (fault.Arity (first_place body)) >>= λ same. Ok (r.0, b.0)) >>= λ (q : PhraseTree × PhraseTree). Ok (value q.0 q.1))
    inner r (Err e) = refl
    inner r (Ok b) = last b.0 r.0 (unless (r.1 == b.1) (fault.Arity (first_place body)))

    go : (s : Result (PhraseTree × ℕ) TypeFault)
        → (s >>= λ (r : PhraseTree × ℕ). settled d ls [] body >>= λ b. as_relation (first_place body) b.kind >>= λ n. unless (r.1 == n) (fault.Arity (first_place body)) >>= λ same. Ok (value r.0 b.tree))
        ≡ ((s >>= λ (r : PhraseTree × ℕ). relation_settled d ls body >>= λ (b : PhraseTree × ℕ). unless (r.1 == b.1) (fault.Arity (first_place body)) >>= λ same. Ok (r.0, b.0)) >>= λ (q : PhraseTree × PhraseTree). Ok (value q.0 q.1))
    go (Err e) = refl
    go (Ok r) =
        relation_apart (first_place body) (settled d ls [] body) (λ t n. unless (r.1 == n) (fault.Arity (first_place body)) >>= λ same. Ok (value r.0 t))
        ∙ inner r (relation_settled d ls body)

-- local names of types that are alike where a shared name asks
pub meaning_alike : (asked : Bool) (d : Declared) → AreSameTypes (types_in d) (types_in d) → (ls ms : List Local) → AreAlikeWhere asked ls ms
    → (x : MeaningTree) → Asks (shared_in_meaning x) asked → meaning_settled d ls x ≡ meaning_settled d ms x
meaning_alike asked d s ls ms alike (formulas xs) asks = ap (λ r. r >>= λ ys. Ok (formulas ys)) (formulas_alike asked d s ls ms alike xs asks)
meaning_alike asked d s ls ms alike (value range body) asks =
    let a = settled_alike asked d s ls ms alike [] [] (λ e t. refl) range (asks_left (shared_in range) (shared_in body) asked asks) in
    let b = settled_alike asked d s ls ms alike [] [] (λ e t. refl) body (asks_right (shared_in range) (shared_in body) asked asks) in
    λ i. a i >>= λ r. as_relation (first_place range) r.kind >>= λ m. b i >>= λ c. as_relation (first_place body) c.kind >>= λ n. unless (m == n) (fault.Arity (first_place body)) >>= λ same. Ok (value r.tree c.tree)

module _ (d : Declared) (s : AreSameTypes (types_in d) (types_in d)) (c : CalleeTree) (asked : Bool) (parameters : DomainTrees) (new behind : List Local) where
  abbrev settled_then : Result MeaningTree TypeFault → Result CalleeTree TypeFault
  settled_then r = r >>= λ x. Ok (record c { parameters = parameters; meaning = x })

  module _ (are : domains_settled false d [] c.parameters ≡ Ok (parameters, behind)) (alike : AreAlikeWhere asked new behind) (asks : Asks (shared_in_meaning c.meaning) asked) where
    callee_now : callee_settled d c ≡ settled_then (meaning_settled d new c.meaning)
    callee_now =
        ap (λ r. r >>= λ (es : DomainTrees × List Local). meaning_settled d es.1 c.meaning >>= λ x. Ok (record c { parameters = es.0; meaning = x })) are
        ∙ ap settled_then (sym (meaning_alike asked d s new behind alike c.meaning asks))

    pub callee_told : (e : TypeFault) → IsTold e (meaning_settled d new c.meaning) → IsTold e (callee_settled d c)
    callee_told e told = told_then e (meaning_settled d new c.meaning) (λ x. Ok (record c { parameters = parameters; meaning = x })) (callee_settled d c) callee_now told

    pub callee_is : (x : MeaningTree) → meaning_settled d new c.meaning ≡ Ok x → callee_settled d c ≡ Ok (record c { parameters = parameters; meaning = x })
    callee_is x is = callee_now ∙ ap settled_then is

-- ---- parameters that have to be sets

-- what is answered as it stands
pub gives_same : {X : Type 0} (r read : Result X TypeFault) → read ≡ r → Gives (λ x. x) r read
gives_same (Ok x) read same = same
gives_same (Err e) read same = inr same

abbrev first_local : Option Local → PhraseTree → Checked → Checked
first_local l x rest = unless (fits (local_arity l) 1) (fault.NotUnary (first_place x)) >>= λ one. rest

pub groups_known : (d : Declared) (ls : List Local) (xs : List DomainTree) → domains_unary (domains_known d ls (domains_of xs)) ≡ groups_unary (groups_in d ls (domains_of xs)) xs
groups_known d ls [] = refl
groups_known d ls (x ∷ xs) =
    let g : GroupTree = group_in d ls x in
    ap (λ (l : Option Local). first_local l x.domain (domains_unary (domains_known d (onto x.count (or_unknown l) ls) (domains_of xs)))) (local_is d ls x.domain (settled d ls [] x.domain))
    ∙ (λ i. unless (fits (arity_is d ls g.relation i) 1) (fault.NotUnary (first_place x.domain)) >>= λ one. groups_known d (entered d ls g) xs i)

-- ---- bounds of more than one arrow

pub no_only_link : (d : Declared) (x : PhraseTree) (ls : List Link) → 2 ≤ length ls → sides_unary d (only_link x (links_of (map link_view ls))) ≡ Ok tt
no_only_link d x [] l = absurd (omega (arith, l))
no_only_link d x (a ∷ []) l = absurd (omega (arith, l))
no_only_link d x (a ∷ b ∷ ls) l = refl
