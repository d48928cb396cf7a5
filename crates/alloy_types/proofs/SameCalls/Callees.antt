-- Predicates and functions are settled alike by declarations that say the same.
use Rattle.std.proofs.Common.{◌≡◌, ℕ, ◌==◌, List, [], ◌∷◌, refl, sym, ◌∙◌, subst, Bool, true, false, if◌then◌else◌, Option, Some, None, Result, Ok}
use Rattle.named_model.specs.declared.named.Signature.{Signature}
use Rattle.named_model.specs.Answers.{◌>>=◌}
use Rattle.named_model.specs.Phrase.{DomainTrees, no_domains, more_domains}
use Rattle.named_model.specs.Model.{MeaningTree, formulas, value, CalleeTree}
use Rattle.model_types.specs.declared.fault.TypeFault.{TypeFault}
use Rattle.model_types.specs.declared.fault.TypeFault.TheVariants as fault
use Rattle.model_types.specs.Sorts.{unless, first_place, as_relation}
use Rattle.model_types.specs.Typing.{Local, Field, Header, Declared, type_in, onto, settled, domains_settled, fits}
use Rattle.model_types.specs.Models.{Domain, domains_known, header_of, meaning_settled, callee_settled, domains_unary, run_checked}
use Rattle.alloy_types.specs.Headers.Bodies.{body_of}
use Rattle.alloy_types.specs.Declarations.Same.{AreSameLocals, AreSameFields, IsSameHeader, AreSameHeaders, AreSameDeclared}
use Rattle.alloy_types.proofs.Declarations.Binds.{bind_same, bind_after}
use Rattle.alloy_types.proofs.Declarations.Settling.{settled_same, formulas_same}
use Rattle.alloy_types.proofs.SameCalls.Headers.{AreSameKnown, arity_same, typed, onto_same, known_same, header_same, body_same}

module _ (signatures : List Signature) (fs gs : List Field) (f g : ℕ → Option Header) (fields : AreSameFields fs gs) (callees : (n : ℕ) → AreSameHeaders (f n) (g n)) where
  abbrev one : Declared
  one = record { signatures = signatures; fields = fs; callee = f }

  abbrev other : Declared
  other = record { signatures = signatures; fields = gs; callee = g }

  -- domains, and then what stands behind them
  domains_then : {Z : Type 0} (single : Bool) (ls ms : List Local) → AreSameLocals ls ms → (ds : DomainTrees) (k l : DomainTrees × List Local → Result Z TypeFault)
      → ((es : DomainTrees) (ns os : List Local) → AreSameLocals ns os → k (es, ns) ≡ l (es, os)) → (domains_settled single one ls ds >>= k) ≡ (domains_settled single other ms ds >>= l)
  domains_then single ls ms h no_domains k l next = next no_domains ls ms h
  domains_then single ls ms h (more_domains disjoint n mark x ds) k l next =
      bind_same (settled one ls [] x) (settled other ms [] x) (settled_same signatures fs gs f g fields callees ls ms h [] [] (λ t. refl) x) _ _ k l
      (λ y. bind_same (as_relation (first_place x) y.kind) (as_relation (first_place x) y.kind) refl _ _ k l
      (λ m. bind_same (unless (if single then m == 1 else true) (fault.NotUnary (first_place x))) (unless (if single then m == 1 else true) (fault.NotUnary (first_place x))) refl _ _ k l
      (λ u.
      let a : Local = record { arity = m; type = type_in one ls y.tree } in
      let b : Local = record { arity = m; type = type_in other ms y.tree } in
      bind_after (domains_settled single one (onto n a ls) ds) (λ zs. (more_domains disjoint n mark y.tree zs.0, zs.1)) k
      ∙ domains_then single (onto n a ls) (onto n b ms) (onto_same n a b (record { arities = refl; types = typed signatures fs gs f g fields callees ls ms h y.tree }) ls ms h) ds
      (λ zs. k (more_domains disjoint n mark y.tree zs.0, zs.1)) (λ zs. l (more_domains disjoint n mark y.tree zs.0, zs.1)) (λ es ns os s. next (more_domains disjoint n mark y.tree es) ns os s)
      ∙ sym (bind_after (domains_settled single other (onto n b ms) ds) (λ zs. (more_domains disjoint n mark y.tree zs.0, zs.1)) l))))

  meaning_alike : (ls ms : List Local) → AreSameLocals ls ms → (x : MeaningTree) → meaning_settled one ls x ≡ meaning_settled other ms x
  meaning_alike ls ms h (formulas xs) = λ i. formulas_same signatures fs gs f g fields callees ls ms h xs i >>= λ ys. Ok (formulas ys)
  meaning_alike ls ms h (value range body) = λ i. do
    r ← settled_same signatures fs gs f g fields callees ls ms h [] [] (λ t. refl) range i
    m ← as_relation (first_place range) r.kind
    b ← settled_same signatures fs gs f g fields callees ls ms h [] [] (λ t. refl) body i
    n ← as_relation (first_place body) b.kind
    same ← unless (m == n) (fault.Arity (first_place body))
    Ok (value r.tree b.tree)

  callee_alike : (c : CalleeTree) → callee_settled one c ≡ callee_settled other c
  callee_alike c =
      domains_then false [] [] tt c.parameters (λ es. meaning_settled one es.1 c.meaning >>= λ x. Ok (record c { parameters = es.0; meaning = x })) (λ es. meaning_settled other es.1 c.meaning >>= λ x. Ok (record c { parameters = es.0; meaning = x }))
      (λ es ns os s. λ i. meaning_alike ns os s c.meaning i >>= λ x. Ok (record c { parameters = es; meaning = x }))

  -- a predicate that is run has unary parameters alike
  unary_alike : (ds es : List Domain) → AreSameKnown ds es → domains_unary ds ≡ domains_unary es
  unary_alike [] [] h = refl
  unary_alike [] (e ∷ es) h = absurd h
  unary_alike (d ∷ ds) [] h = absurd h
  unary_alike (d ∷ ds) (e ∷ es) h = λ i. unless (fits (arity_same d.local e.local h.0.local i) 1) (fault.NotUnary (h.0.place i)) >>= λ u. unary_alike ds es h.1 i

  run_alike : (o : Option CalleeTree) → run_checked one o ≡ run_checked other o
  run_alike None = refl
  run_alike (Some c) = unary_alike (domains_known one [] c.parameters) (domains_known other [] c.parameters) (known_same signatures fs gs f g fields callees [] [] tt c.parameters)

-- with these signatures
abbrev with_signatures : Declared → List Signature → Declared
with_signatures e s = record { signatures = s; fields = e.fields; callee = e.callee }

pub headers_same : (d e : Declared) → AreSameDeclared d e → (c : CalleeTree) → IsSameHeader (header_of d c) (header_of e c)
headers_same d e s c =
    subst (λ (ss : List Signature). IsSameHeader (header_of d c) (header_of (with_signatures e ss) c)) s.signatures
    (header_same d.signatures d.fields e.fields d.callee e.callee s.fields s.callees c)

pub bodies_same : (d e : Declared) → AreSameDeclared d e → (c : CalleeTree) → body_of d c ≡ body_of e c
bodies_same d e s c =
    subst (λ (ss : List Signature). body_of d c ≡ body_of (with_signatures e ss) c) s.signatures
    (body_same d.signatures d.fields e.fields d.callee e.callee s.fields s.callees c)

pub callees_same : (d e : Declared) → AreSameDeclared d e → (c : CalleeTree) → callee_settled d c ≡ callee_settled e c
callees_same d e s c =
    subst (λ (ss : List Signature). callee_settled d c ≡ callee_settled (with_signatures e ss) c) s.signatures
    (callee_alike d.signatures d.fields e.fields d.callee e.callee s.fields s.callees c)

pub runs_same : (d e : Declared) → AreSameDeclared d e → (o : Option CalleeTree) → run_checked d o ≡ run_checked e o
runs_same d e s o =
    subst (λ (ss : List Signature). run_checked d o ≡ run_checked (with_signatures e ss) o) s.signatures
    (run_alike d.signatures d.fields e.fields d.callee e.callee s.fields s.callees o)
