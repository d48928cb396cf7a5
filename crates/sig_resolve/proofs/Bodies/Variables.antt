-- Loops over parts each of which is seen by those behind: domains of variables and of parameters, and values of a `let`.
use Rattle.std.proofs.Common.{◌≡◌, ℕ, ◌+◌, ◌<◌, ◌≤◌, List, [], ◌∷◌, ◌++◌, map, length, get_or, drop, refl, sym, ap, ◌∙◌, append_assoc}
use Rattle.std.proofs.lemmas.List.{map_push}
use Rattle.alloy_syntax.specs.declared.tree.Declaration.{Declaration}
use Rattle.alloy_syntax.specs.declared.tree.Binding.{Binding}
use Rattle.alloy_syntax.specs.Tree.{declarations_of, bindings_of}
use Rattle.alloy_syntax.specs.View.{declaration_view, binding_view}
use Rattle.named_model.specs.declared.fault.NameFault.{NameFault}
use Rattle.named_model.specs.declared.phrase.Phrase.{Phrase}
use Rattle.named_model.specs.declared.phrase.Domain.{Domain}
use Rattle.named_model.specs.Phrase as phrase
use Rattle.named_model.specs.View as seen
use Rattle.named_model.specs.Names.{Globals, onto, behind_declarations, behind_bindings, resolved, declarations_resolved, bindings_resolved, mark_faults, faults_of, declaration_faults, binding_faults, parameter_faults}
use Rattle.name_tables.specs.Told.{IsTold}
use Rattle.sig_resolve.specs.Bodies.Each.{domain_resolved}
use Rattle.name_tables.proofs.Reaching.{Reached, reached_more, reached_fault, reached_all, next_is, none_is, domain_first, phrases_are, domains_are}

-- the names behind what is left are those behind all
pub declarations_behind : (all : List Declaration) (i : ℕ) (x : Declaration) (inner behind : List (List ℕ)) → i < length all → x ≡ get_or all i x
    → behind_declarations inner (declarations_of (map declaration_view (drop i all))) ≡ behind
    → behind_declarations (onto (declaration_view x).names inner) (declarations_of (map declaration_view (drop (i + 1) all))) ≡ behind
declarations_behind all i x inner behind l is before = sym (ap (λ xs. behind_declarations inner (declarations_of (map declaration_view xs))) (next_is all i x l is)) ∙ before

pub bindings_behind : (all : List Binding) (i : ℕ) (x : Binding) (inner behind : List (List ℕ)) → i < length all → x ≡ get_or all i x
    → behind_bindings inner (bindings_of (map binding_view (drop i all))) ≡ behind
    → behind_bindings ((binding_view x).name.text ∷ inner) (bindings_of (map binding_view (drop (i + 1) all))) ≡ behind
bindings_behind all i x inner behind l is before = sym (ap (λ xs. behind_bindings inner (bindings_of (map binding_view xs))) (next_is all i x l is)) ∙ before

module _ (g : Globals) where
  abbrev pub DomainsLeft : List (List ℕ) → List Declaration → List (List ℕ) → List Declaration → List Domain → Type 0
  DomainsLeft ls all inner rest found = Reached domain_first (λ at xs. declaration_faults g at (declarations_of (map declaration_view xs))) (λ at xs. declarations_resolved g at (declarations_of (map declaration_view xs))) ls all inner rest (map seen.domain_view found)

  abbrev pub ParametersLeft : List (List ℕ) → List Declaration → List (List ℕ) → List Declaration → List Domain → Type 0
  ParametersLeft ls all inner rest found = Reached domain_first (λ at xs. parameter_faults g at (map declaration_view xs)) (λ at xs. declarations_resolved g at (declarations_of (map declaration_view xs))) ls all inner rest (map seen.domain_view found)

  abbrev pub ValuesLeft : List (List ℕ) → List Binding → List (List ℕ) → List Binding → List Phrase → Type 0
  ValuesLeft ls all inner rest found = Reached phrase.more_phrases (λ at xs. binding_faults g at (bindings_of (map binding_view xs))) (λ at xs. bindings_resolved g at (bindings_of (map binding_view xs))) ls all inner rest (map seen.phrase_view found)

  module _ (ls : List (List ℕ)) (all : List Declaration) (inner : List (List ℕ)) (i : ℕ) where
    pub domains_more : (x : Declaration) (y : Domain) (found more : List Domain) → i < length all → x ≡ get_or all i x → more ≡ found ++ y ∷ []
        → mark_faults (declaration_view x).mark ≡ []
        → (faults_of g inner 0 (declaration_view x).domain ≡ []) × (seen.domain_view y ≡ domain_resolved g inner (declaration_view x))
        → DomainsLeft ls all inner (drop i all) found → DomainsLeft ls all (onto (declaration_view x).names inner) (drop (i + 1) all) more
    domains_more x y found more l is pushed marked one before =
        let rest = drop (i + 1) all in
        let d = declaration_view x in
        reached_more domain_first (λ at xs. declaration_faults g at (declarations_of (map declaration_view xs))) (λ at xs. declarations_resolved g at (declarations_of (map declaration_view xs))) ls all inner (onto d.names inner) (drop i all) rest x (seen.domain_view y) (map seen.domain_view found) (map seen.domain_view more) (mark_faults d.mark ++ faults_of g inner 0 d.domain)
        (next_is all i x l is) (ap (map seen.domain_view) pushed ∙ map_push seen.domain_view found y)
        refl
        (ap (λ fs. fs ++ faults_of g inner 0 d.domain) marked ∙ one.0)
        (ap (λ (z : phrase.DomainTree). domain_first z (declarations_resolved g (onto d.names inner) (declarations_of (map declaration_view rest)))) (sym one.1)) before

    pub domains_mark : (x : Declaration) (found : List Domain) (e : NameFault) → i < length all → x ≡ get_or all i x
        → IsTold e (mark_faults (declaration_view x).mark)
        → DomainsLeft ls all inner (drop i all) found → IsTold e (declaration_faults g ls (declarations_of (map declaration_view all)))
    domains_mark x found e l is told before =
        let d = declaration_view x in
        reached_fault domain_first (λ at xs. declaration_faults g at (declarations_of (map declaration_view xs))) (λ at xs. declarations_resolved g at (declarations_of (map declaration_view xs))) ls all inner (drop i all) (drop (i + 1) all) x (map seen.domain_view found) (mark_faults d.mark) (faults_of g inner 0 d.domain ++ declaration_faults g (onto d.names inner) (declarations_of (map declaration_view (drop (i + 1) all)))) e
        (next_is all i x l is) (append_assoc (mark_faults d.mark) (faults_of g inner 0 d.domain) (declaration_faults g (onto d.names inner) (declarations_of (map declaration_view (drop (i + 1) all))))) told before

    pub domains_fault : (x : Declaration) (found : List Domain) (e : NameFault) → i < length all → x ≡ get_or all i x
        → mark_faults (declaration_view x).mark ≡ [] → IsTold e (faults_of g inner 0 (declaration_view x).domain)
        → DomainsLeft ls all inner (drop i all) found → IsTold e (declaration_faults g ls (declarations_of (map declaration_view all)))
    domains_fault x found e l is marked told before =
        let d = declaration_view x in
        let rest = declaration_faults g (onto d.names inner) (declarations_of (map declaration_view (drop (i + 1) all))) in
        reached_fault domain_first (λ at xs. declaration_faults g at (declarations_of (map declaration_view xs))) (λ at xs. declarations_resolved g at (declarations_of (map declaration_view xs))) ls all inner (drop i all) (drop (i + 1) all) x (map seen.domain_view found) (faults_of g inner 0 d.domain) rest e
        (next_is all i x l is) (ap (λ fs. fs ++ faults_of g inner 0 d.domain ++ rest) marked) told before

    pub domains_all : (found : List Domain) → length all ≤ i → DomainsLeft ls all inner (drop i all) found
        → (declaration_faults g ls (declarations_of (map declaration_view all)) ≡ []) × (phrase.domains_of (map seen.domain_view found) ≡ declarations_resolved g ls (declarations_of (map declaration_view all)))
    domains_all found l before =
        let done = reached_all domain_first (λ at xs. declaration_faults g at (declarations_of (map declaration_view xs))) (λ at xs. declarations_resolved g at (declarations_of (map declaration_view xs))) ls all inner (drop i all) (map seen.domain_view found) phrase.no_domains (none_is all i l) refl refl before in
        (done.0, domains_are (map seen.domain_view found) ∙ done.1)

    pub parameters_more : (x : Declaration) (y : Domain) (found more : List Domain) → i < length all → x ≡ get_or all i x → more ≡ found ++ y ∷ []
        → (faults_of g inner 0 (declaration_view x).domain ≡ []) × (seen.domain_view y ≡ domain_resolved g inner (declaration_view x))
        → ParametersLeft ls all inner (drop i all) found → ParametersLeft ls all (onto (declaration_view x).names inner) (drop (i + 1) all) more
    parameters_more x y found more l is pushed one before =
        let rest = drop (i + 1) all in
        let d = declaration_view x in
        reached_more domain_first (λ at xs. parameter_faults g at (map declaration_view xs)) (λ at xs. declarations_resolved g at (declarations_of (map declaration_view xs))) ls all inner (onto d.names inner) (drop i all) rest x (seen.domain_view y) (map seen.domain_view found) (map seen.domain_view more) (faults_of g inner 0 d.domain)
        (next_is all i x l is) (ap (map seen.domain_view) pushed ∙ map_push seen.domain_view found y) refl one.0
        (ap (λ (z : phrase.DomainTree). domain_first z (declarations_resolved g (onto d.names inner) (declarations_of (map declaration_view rest)))) (sym one.1)) before

    pub parameters_fault : (x : Declaration) (found : List Domain) (e : NameFault) → i < length all → x ≡ get_or all i x
        → IsTold e (faults_of g inner 0 (declaration_view x).domain)
        → ParametersLeft ls all inner (drop i all) found → IsTold e (parameter_faults g ls (map declaration_view all))
    parameters_fault x found e l is told before =
        let d = declaration_view x in
        reached_fault domain_first (λ at xs. parameter_faults g at (map declaration_view xs)) (λ at xs. declarations_resolved g at (declarations_of (map declaration_view xs))) ls all inner (drop i all) (drop (i + 1) all) x (map seen.domain_view found) (faults_of g inner 0 d.domain) (parameter_faults g (onto d.names inner) (map declaration_view (drop (i + 1) all))) e
        (next_is all i x l is) refl told before

    pub parameters_all : (found : List Domain) → length all ≤ i → ParametersLeft ls all inner (drop i all) found
        → (parameter_faults g ls (map declaration_view all) ≡ []) × (phrase.domains_of (map seen.domain_view found) ≡ declarations_resolved g ls (declarations_of (map declaration_view all)))
    parameters_all found l before =
        let done = reached_all domain_first (λ at xs. parameter_faults g at (map declaration_view xs)) (λ at xs. declarations_resolved g at (declarations_of (map declaration_view xs))) ls all inner (drop i all) (map seen.domain_view found) phrase.no_domains (none_is all i l) refl refl before in
        (done.0, domains_are (map seen.domain_view found) ∙ done.1)

  module _ (ls : List (List ℕ)) (all : List Binding) (inner : List (List ℕ)) (i : ℕ) where
    pub values_more : (x : Binding) (y : Phrase) (found more : List Phrase) → i < length all → x ≡ get_or all i x → more ≡ found ++ y ∷ []
        → (faults_of g inner 0 (binding_view x).value ≡ []) × (seen.phrase_view y ≡ resolved g inner (binding_view x).value)
        → ValuesLeft ls all inner (drop i all) found → ValuesLeft ls all ((binding_view x).name.text ∷ inner) (drop (i + 1) all) more
    values_more x y found more l is pushed one before =
        let rest = drop (i + 1) all in
        let b = binding_view x in
        reached_more phrase.more_phrases (λ at xs. binding_faults g at (bindings_of (map binding_view xs))) (λ at xs. bindings_resolved g at (bindings_of (map binding_view xs))) ls all inner (b.name.text ∷ inner) (drop i all) rest x (seen.phrase_view y) (map seen.phrase_view found) (map seen.phrase_view more) (faults_of g inner 0 b.value)
        (next_is all i x l is) (ap (map seen.phrase_view) pushed ∙ map_push seen.phrase_view found y) refl one.0
        (ap (λ z. phrase.more_phrases z (bindings_resolved g (b.name.text ∷ inner) (bindings_of (map binding_view rest)))) (sym one.1)) before

    pub values_fault : (x : Binding) (found : List Phrase) (e : NameFault) → i < length all → x ≡ get_or all i x
        → IsTold e (faults_of g inner 0 (binding_view x).value)
        → ValuesLeft ls all inner (drop i all) found → IsTold e (binding_faults g ls (bindings_of (map binding_view all)))
    values_fault x found e l is told before =
        let b = binding_view x in
        reached_fault phrase.more_phrases (λ at xs. binding_faults g at (bindings_of (map binding_view xs))) (λ at xs. bindings_resolved g at (bindings_of (map binding_view xs))) ls all inner (drop i all) (drop (i + 1) all) x (map seen.phrase_view found) (faults_of g inner 0 b.value) (binding_faults g (b.name.text ∷ inner) (bindings_of (map binding_view (drop (i + 1) all)))) e
        (next_is all i x l is) refl told before

    pub values_all : (found : List Phrase) → length all ≤ i → ValuesLeft ls all inner (drop i all) found
        → (binding_faults g ls (bindings_of (map binding_view all)) ≡ []) × (seen.phrases_view found ≡ bindings_resolved g ls (bindings_of (map binding_view all)))
    values_all found l before =
        let done = reached_all phrase.more_phrases (λ at xs. binding_faults g at (bindings_of (map binding_view xs))) (λ at xs. bindings_resolved g at (bindings_of (map binding_view xs))) ls all inner (drop i all) (map seen.phrase_view found) phrase.no_phrases (none_is all i l) refl refl before in
        (done.0, phrases_are (map seen.phrase_view found) ∙ done.1)
