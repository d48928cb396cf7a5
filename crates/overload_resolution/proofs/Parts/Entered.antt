-- Loops over domains and over values, which enter local names, a turn at a time.
use Rattle.std.proofs.Common.{◌≡◌, ℕ, ◌+◌, ◌<◌, ◌≤◌, Bool, List, [], ◌∷◌, ◌++◌, map, length, get_or, drop, Result, Ok, Err, refl, sym, ap, subst, ◌∙◌, append_assoc}
use Rattle.std.proofs.lemmas.List.{map_push}
use Rattle.named_model.specs.declared.phrase.Phrase.{Phrase}
use Rattle.named_model.specs.declared.phrase.Domain.{Domain, fold_out-Domain}
use Rattle.named_model.specs.Phrase.{PhraseTree, PhraseTrees, no_phrases, more_phrases, LinkTree, StepTree, DomainTree, DomainTrees, no_domains, domains_of}
use Rattle.named_model.specs.View.{phrase_view, phrases_view, domain_view, phrase_level, step_level, domain_level, link_level}
use Rattle.model_types.specs.declared.fault.TypeFault.{TypeFault}
use Rattle.model_types.specs.Typing.{Declared, Local, types_in, type_in, onto, domains_settled, values_settled}
use Rattle.overload_resolution.specs.Names.Shared.{shared_in, shared_among, shared_in_domains}
use Rattle.overload_resolution.specs.Settling.Inside.{AreAlikeWhere}
use Rattle.overload_resolution.specs.Settling.Same.{AreSameTypes, Asks}
use Rattle.overload_resolution.specs.Settling.Single.{relation_settled, domain_settled, entered}
use Rattle.overload_resolution.specs.Settling.Told.{IsTold}
use Rattle.overload_resolution.proofs.Settling.SharedDeclarations.{asks_right, alike_refl}
use Rattle.overload_resolution.proofs.Settling.Loops.{ReachedBehind, behind_all, DomainsLeft, domains_more, domains_fault, ValuesLeft, values_more, values_fault}
use Rattle.overload_resolution.proofs.Settling.Reaching.{before_all, next_is, none_is, domain_first, phrases_are}
use Rattle.overload_resolution.specs.Scopes.Zipped.{IsInside}
use Rattle.overload_resolution.specs.Parts.Given.{relation_view}

pub behind_start : {Y T : Type 0} (asked : Bool) (cons : Y → T → T) (now : Result (T × List Local) TypeFault) → ReachedBehind asked cons [] now now
behind_start asked cons (Ok zs) = (refl, alike_refl asked zs.1)
behind_start asked cons (Err e) = refl

domains_are : (xs : List DomainTree) → before_all domain_first xs no_domains ≡ domains_of xs
domains_are [] = refl
domains_are (x ∷ xs) = ap (domain_first x) (domains_are xs)

pub domain_seen : (y : Domain) → domain_view y ≡ record { disjoint = y.disjoint; count = y.count; mark = y.mark; domain = phrase_view y.domain }
domain_seen y = fold_out-Domain PhraseTree StepTree DomainTree LinkTree phrase_level step_level domain_level link_level y

-- what is left behind one more asks no more than before
pub domains_ask : (asked : Bool) (all : List Domain) (i : ℕ) (x : Domain) → i < length all → x ≡ get_or all i x → Asks (shared_in_domains (domains_of (map domain_view (drop i all)))) asked
    → Asks (shared_in_domains (domains_of (map domain_view (drop (i + 1) all)))) asked
domains_ask asked all i x l is asks =
    asks_right (shared_in (domain_view x).domain) (shared_in_domains (domains_of (map domain_view (drop (i + 1) all)))) asked
    (subst (λ xs. Asks (shared_in_domains (domains_of (map domain_view xs))) asked) (next_is all i x l is) asks)

pub values_ask : (asked : Bool) (all : List Phrase) (i : ℕ) (x : Phrase) → i < length all → x ≡ get_or all i x → Asks (shared_among (phrases_view (drop i all))) asked
    → Asks (shared_among (phrases_view (drop (i + 1) all))) asked
values_ask asked all i x l is asks =
    asks_right (shared_in (phrase_view x)) (shared_among (phrases_view (drop (i + 1) all))) asked
    (subst (λ xs. Asks (shared_among (phrases_view xs)) asked) (next_is all i x l is) asks)

module _ (asked : Bool) (d : Declared) (s : AreSameTypes (types_in d) (types_in d)) where
  module _ (single : Bool) (whole : Result (DomainTrees × List Local) TypeFault) (all : List Domain) (now : List Local) (i : ℕ) (found : List Domain)
      (before : ReachedBehind asked domain_first (map domain_view found) (domains_settled single d now (domains_of (map domain_view (drop i all)))) whole) where
    module _ (x : Domain) (l : i < length all) (is : x ≡ get_or all i x) where
      next : DomainsLeft asked d s single whole now (domain_first (domain_view x) (domains_of (map domain_view (drop (i + 1) all)))) (map domain_view found)
      next = subst (λ xs. DomainsLeft asked d s single whole now (domains_of (map domain_view xs)) (map domain_view found)) (next_is all i x l is) before

      pub domain_more : (y : Phrase) (n : ℕ) (middle new : List Local) (more : List Domain) → more ≡ found ++ record { disjoint = x.disjoint; count = x.count; mark = x.mark; domain = y } ∷ [] → middle ≡ now
          → domain_settled single d now (phrase_view x.domain) ≡ Ok (relation_view (y, n))
          → AreAlikeWhere asked new (onto x.count (record { arity = n; type = type_in d middle (phrase_view y) }) middle)
          → Asks (shared_in_domains (domains_of (map domain_view (drop i all)))) asked
          → ReachedBehind asked domain_first (map domain_view more) (domains_settled single d new (domains_of (map domain_view (drop (i + 1) all)))) whole
      domain_more y n middle new more pushed same one alike asks =
          let z : Domain = record { disjoint = x.disjoint; count = x.count; mark = x.mark; domain = y } in
          let r = relation_view (y, n) in
          let of : DomainTree → DomainTree = λ v. record { disjoint = v.disjoint; count = v.count; mark = v.mark; domain = phrase_view y } in
          subst (λ ys. DomainsLeft asked d s single whole new (domains_of (map domain_view (drop (i + 1) all))) ys)
          (ap (λ v. map domain_view found ++ v ∷ []) (ap of (domain_seen x) ∙ sym (domain_seen z)) ∙ sym (ap (map domain_view) pushed ∙ map_push domain_view found z))
          (domains_more asked d s single whole now new (domain_view x) (domains_of (map domain_view (drop (i + 1) all))) r (map domain_view found)
          (subst (λ (v : DomainTree). domain_settled single d now v.domain ≡ Ok r) (sym (domain_seen x)) one)
          (subst (λ (v : DomainTree). AreAlikeWhere asked new (onto v.count (entered d now r) now)) (sym (domain_seen x))
          (subst (λ ls. AreAlikeWhere asked new (onto x.count (entered d ls r) ls)) same alike))
          (domains_ask asked all i x l is asks) next)

      pub domain_fault : (e : TypeFault) → IsTold e (domain_settled single d now (phrase_view x.domain)) → IsTold e whole
      domain_fault e told =
          domains_fault asked d s single whole now (domain_view x) (domains_of (map domain_view (drop (i + 1) all))) (map domain_view found) e
          (subst (λ (v : DomainTree). IsTold e (domain_settled single d now v.domain)) (sym (domain_seen x)) told) next

    pub domain_all : length all ≤ i → (behind : List Local) × (whole ≡ Ok (domains_of (map domain_view found), behind)) × AreAlikeWhere asked now behind
    domain_all l =
        let done = behind_all asked domain_first (map domain_view found) no_domains now whole
        (subst (λ xs. DomainsLeft asked d s single whole now (domains_of (map domain_view xs)) (map domain_view found)) (none_is all i l) before) in
        (done.0, done.1 ∙ ap (λ t. Ok (t, done.0)) (domains_are (map domain_view found)), done.2)

  module _ (whole : Result (PhraseTrees × List Local) TypeFault) (all : List Phrase) (now : List Local) (i : ℕ) (found : List Phrase)
      (before : ReachedBehind asked more_phrases (map phrase_view found) (values_settled d now (phrases_view (drop i all))) whole) where
    module _ (x : Phrase) (l : i < length all) (is : x ≡ get_or all i x) where
      next_value : ValuesLeft asked d s whole now (more_phrases (phrase_view x) (phrases_view (drop (i + 1) all))) (map phrase_view found)
      next_value = subst (λ xs. ValuesLeft asked d s whole now (phrases_view xs) (map phrase_view found)) (next_is all i x l is) before

      pub value_more : (y : Phrase) (n : ℕ) (middle new : List Local) (more : List Phrase) → more ≡ found ++ y ∷ [] → middle ≡ now
          → relation_settled d now (phrase_view x) ≡ Ok (relation_view (y, n))
          → AreAlikeWhere asked new (onto 1 (record { arity = n; type = type_in d middle (phrase_view y) }) middle)
          → Asks (shared_among (phrases_view (drop i all))) asked
          → ReachedBehind asked more_phrases (map phrase_view more) (values_settled d new (phrases_view (drop (i + 1) all))) whole
      value_more y n middle new more pushed same one alike asks =
          subst (λ ys. ValuesLeft asked d s whole new (phrases_view (drop (i + 1) all)) ys) (sym (ap (map phrase_view) pushed ∙ map_push phrase_view found y))
          (values_more asked d s whole now new (phrase_view x) (phrases_view (drop (i + 1) all)) (relation_view (y, n)) (map phrase_view found) one
          (subst (λ ls. AreAlikeWhere asked new (entered d ls (relation_view (y, n)) ∷ ls)) same alike)
          (values_ask asked all i x l is asks) next_value)

      pub value_fault : (e : TypeFault) → IsTold e (relation_settled d now (phrase_view x)) → IsTold e whole
      value_fault e told = values_fault asked d s whole now (phrase_view x) (phrases_view (drop (i + 1) all)) (map phrase_view found) e told next_value

    pub value_all : length all ≤ i → (behind : List Local) × (whole ≡ Ok (phrases_view found, behind)) × AreAlikeWhere asked now behind
    value_all l =
        let done = behind_all asked more_phrases (map phrase_view found) no_phrases now whole
        (subst (λ xs. ValuesLeft asked d s whole now (phrases_view xs) (map phrase_view found)) (none_is all i l) before) in
        (done.0, done.1 ∙ ap (λ t. Ok (t, done.0)) (phrases_are (map phrase_view found)), done.2)

-- inside what is inside
pub inside_then : (new middle now outer : List Local) → IsInside new middle → middle ≡ now → IsInside now outer → IsInside new outer
inside_then new middle now outer a same b = (a.0 ++ b.0, a.1 ∙ ap (λ ls. a.0 ++ ls) (same ∙ b.1) ∙ sym (append_assoc a.0 b.0 outer))
