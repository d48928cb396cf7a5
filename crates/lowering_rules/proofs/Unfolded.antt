-- A call becomes the body with the arguments in place of the parameters, however deep calls may be, where ranks go down.
use Rattle.std.proofs.Common.{◌≡◌, ℕ, zero, suc, ◌+◌, ◌<◌, List, [], ◌∷◌, ◌++◌, length, Option, Some, None, slice_get, Contains, if◌then◌else◌, refl, ◌∙◌, ap, arith, inl, inr, sym, ◌≤◌}
use Rattle.std.proofs.lemmas.Bool.{cases_lt}
use Rattle.std.proofs.lemmas.List.Elements.{Contains-append_right}
use Rattle.rel_formula.specs.Kernel.{ExpressionTree, nothing, rel, conjunction, more_formulas}
use Rattle.rel_formula.proofs.OpenCells.{cons_first, cons_later}
use Rattle.named_model.specs.declared.phrase.Referent.TheVariants as referent
use Rattle.named_model.specs.Phrase.{PhraseTree, refers, called, numbered, constant, bracketed, block, prefixed, chain, path, compared, implies, implies_else, quantified, bound_by_let, PhraseTrees, no_phrases, more_phrases, LinkTrees, no_links, more_links, StepTrees, no_steps, join_first, brackets_first, DomainTrees, no_domains, more_domains}
use Rattle.named_model.specs.Model.{MeaningTree, formulas, value, CalleeTree, NamedTree}
use Rattle.named_model.specs.Faults.{calls_in, calls_in_all, calls_in_links, calls_in_steps, calls_in_domains, calls_in_meaning}
use Rattle.lowering_rules.specs.Parts.{Lowered, relation, formula, expression_in, formula_in, implication, choice, prefix_lowered, operator_lowered, joins_all, list_lowered, join_lowered, brackets_lowered, comparison_lowered}
use Rattle.lowering_rules.specs.Binders.{Local, given, arguments, behind_variables, behind_domains, variables_in, domain_of_each, differences_in, quantified_by}
use Rattle.lowering_rules.specs.Lowering.{Base, lowered, formulas_lowered, expressions_lowered, links_lowered, operands_lowered, steps_lowered, domains_lowered, behind_values, meaning_lowered, body_lowered, calls_within, base_within, base_of}
use Rattle.lowering_rules.specs.Calls.{IsRank}

-- the two make the same of a call of each of these
abbrev Agree : Base → Base → List ℕ → Type 0
Agree b c [] = Unit {0}
Agree b c (q ∷ qs) = (b.calls q ≡ c.calls q) × Agree b c qs

left : (b c : Base) (xs ys : List ℕ) → Agree b c (xs ++ ys) → Agree b c xs
left b c [] ys h = tt
left b c (x ∷ xs) ys h = (h.0, left b c xs ys h.1)

right : (b c : Base) (xs ys : List ℕ) → Agree b c (xs ++ ys) → Agree b c ys
right b c [] ys h = h
right b c (x ∷ xs) ys h = right b c xs ys h.1

all_agree : (b c : Base) (qs : List ℕ) → ((q : ℕ) → Contains qs q → b.calls q ≡ c.calls q) → Agree b c qs
all_agree b c [] h = tt
all_agree b c (q ∷ qs) h = (h q (cons_first q qs), all_agree b c qs (λ r d. h r (cons_later q qs r d)))

module _ (b c : Base) (first : b.signatures ≡ c.signatures) where
  mutual
    same : (x : PhraseTree) (d : ℕ) (ls : List Local) → Agree b c (calls_in x) → lowered b ls d x ≡ lowered c ls d x
    same (refers p (referent.Signature s)) d ls h = refl
    same (refers p (referent.Field f)) d ls h = ap (λ k. relation (rel (k + f))) first
    same (refers p (referent.Shared f)) d ls h = refl
    same (refers p (referent.Local i)) d ls h = refl
    same (called p n xs) d ls h = λ i. h.0 i d (expressions_same xs d ls h.1 i)
    same (numbered n) d ls h = refl
    same (constant k p) d ls h = refl
    same (bracketed p x) d ls h = same x d ls h
    same (block p xs) d ls h = λ i. formula (conjunction (formulas_same xs d ls h i))
    same (prefixed f p x) d ls h = λ i. prefix_lowered f (same x d ls h i)
    same (chain x links) d ls h =
        ap (λ z. links_lowered b ls d z links) (same x d ls (left b c (calls_in x) (calls_in_links links) h)) ∙ links_same links d ls (lowered c ls d x) (right b c (calls_in x) (calls_in_links links) h)
    same (path x steps) d ls h =
        ap (λ z. steps_lowered b ls d z steps) (same x d ls (left b c (calls_in x) (calls_in_steps steps) h)) ∙ steps_same steps d ls (lowered c ls d x) (right b c (calls_in x) (calls_in_steps steps) h)
    same (compared x k y) d ls h =
        let l = same x d ls (left b c (calls_in x) (calls_in y) h) in
        let r = same y d ls (right b c (calls_in x) (calls_in y) h) in
        λ i. comparison_lowered k (l i) (r i)
    same (implies x p y) d ls h =
        let l = same x d ls (left b c (calls_in x) (calls_in y) h) in
        let r = same y d ls (right b c (calls_in x) (calls_in y) h) in
        λ i. formula (implication (formula_in (l i)) (formula_in (r i)))
    same (implies_else x p y z) d ls h =
        let xy = left b c (calls_in x ++ calls_in y) (calls_in z) h in
        let l = same x d ls (left b c (calls_in x) (calls_in y) xy) in
        let m = same y d ls (right b c (calls_in x) (calls_in y) xy) in
        let r = same z d ls (right b c (calls_in x ++ calls_in y) (calls_in z) h) in
        λ i. formula (choice (formula_in (l i)) (formula_in (m i)) (formula_in (r i)))
    same (quantified q p ds x) d ls h =
        let l = domains_same ds d ls (left b c (calls_in_domains ds) (calls_in x) h) in
        let r = same x (d + variables_in ds) (behind_domains d ds ls) (right b c (calls_in_domains ds) (calls_in x) h) in
        λ i. formula (quantified_by q (l i) (differences_in (d + variables_in ds) d ds) (formula_in (r i)))
    same (bound_by_let p xs x) d ls h =
        ap (λ ks. lowered b ks d x) (values_same xs d ls (left b c (calls_in_all xs) (calls_in x) h)) ∙ same x d (behind_values c ls d xs) (right b c (calls_in_all xs) (calls_in x) h)

    formulas_same : (xs : PhraseTrees) (d : ℕ) (ls : List Local) → Agree b c (calls_in_all xs) → formulas_lowered b ls d xs ≡ formulas_lowered c ls d xs
    formulas_same no_phrases d ls h = refl
    formulas_same (more_phrases x xs) d ls h =
        let l = same x d ls (left b c (calls_in x) (calls_in_all xs) h) in
        let r = formulas_same xs d ls (right b c (calls_in x) (calls_in_all xs) h) in
        λ i. more_formulas (formula_in (l i)) (r i)

    expressions_same : (xs : PhraseTrees) (d : ℕ) (ls : List Local) → Agree b c (calls_in_all xs) → expressions_lowered b ls d xs ≡ expressions_lowered c ls d xs
    expressions_same no_phrases d ls h = refl
    expressions_same (more_phrases x xs) d ls h =
        let l = same x d ls (left b c (calls_in x) (calls_in_all xs) h) in
        let r = expressions_same xs d ls (right b c (calls_in x) (calls_in_all xs) h) in
        λ i. expression_in (l i) ∷ r i

    links_same : (links : LinkTrees) (d : ℕ) (ls : List Local) (z : Lowered) → Agree b c (calls_in_links links) → links_lowered b ls d z links ≡ links_lowered c ls d z links
    links_same no_links d ls z h = refl
    links_same (more_links o p y links) d ls z h =
        let l = same y d ls (left b c (calls_in y) (calls_in_links links) h) in
        let more = right b c (calls_in y) (calls_in_links links) h in
        let listed = operands_same links d ls more in
        let chained = ap (λ w. links_lowered b ls d (operator_lowered o z w) links) l ∙ links_same links d ls (operator_lowered o z (lowered c ls d y)) more in
        λ i. if joins_all o then list_lowered o (more_formulas (formula_in z) (more_formulas (formula_in (l i)) (listed i))) else chained i

    operands_same : (links : LinkTrees) (d : ℕ) (ls : List Local) → Agree b c (calls_in_links links) → operands_lowered b ls d links ≡ operands_lowered c ls d links
    operands_same no_links d ls h = refl
    operands_same (more_links o p y links) d ls h =
        let l = same y d ls (left b c (calls_in y) (calls_in_links links) h) in
        let r = operands_same links d ls (right b c (calls_in y) (calls_in_links links) h) in
        λ i. more_formulas (formula_in (l i)) (r i)

    steps_same : (steps : StepTrees) (d : ℕ) (ls : List Local) (z : Lowered) → Agree b c (calls_in_steps steps) → steps_lowered b ls d z steps ≡ steps_lowered c ls d z steps
    steps_same no_steps d ls z h = refl
    steps_same (join_first p y steps) d ls z h =
        let l = same y d ls (left b c (calls_in y) (calls_in_steps steps) h) in
        ap (λ w. steps_lowered b ls d (join_lowered z w) steps) l ∙ steps_same steps d ls (join_lowered z (lowered c ls d y)) (right b c (calls_in y) (calls_in_steps steps) h)
    steps_same (brackets_first p ys steps) d ls z h =
        let l = expressions_same ys d ls (left b c (calls_in_all ys) (calls_in_steps steps) h) in
        ap (λ es. steps_lowered b ls d (relation (brackets_lowered (expression_in z) es)) steps) l
        ∙ steps_same steps d ls (relation (brackets_lowered (expression_in z) (expressions_lowered c ls d ys))) (right b c (calls_in_all ys) (calls_in_steps steps) h)

    domains_same : (ds : DomainTrees) (d : ℕ) (ls : List Local) → Agree b c (calls_in_domains ds) → domains_lowered b ls d ds ≡ domains_lowered c ls d ds
    domains_same no_domains d ls h = refl
    domains_same (more_domains disjoint n mark x ds) d ls h =
        let l = same x d ls (left b c (calls_in x) (calls_in_domains ds) h) in
        let r = domains_same ds (d + n) (behind_variables d n ls) (right b c (calls_in x) (calls_in_domains ds) h) in
        λ i. domain_of_each 0 (expression_in (l i)) n ++ r i

    values_same : (xs : PhraseTrees) (d : ℕ) (ls : List Local) → Agree b c (calls_in_all xs) → behind_values b ls d xs ≡ behind_values c ls d xs
    values_same no_phrases d ls h = refl
    values_same (more_phrases x xs) d ls h =
        let l = same x d ls (left b c (calls_in x) (calls_in_all xs) h) in
        ap (λ w. behind_values b (given d (expression_in w) ∷ ls) d xs) l ∙ values_same xs d (given d (expression_in (lowered c ls d x)) ∷ ls) (right b c (calls_in x) (calls_in_all xs) h)

  meaning_same : (x : MeaningTree) (d : ℕ) (ls : List Local) → ((q : ℕ) → Contains (calls_in_meaning x) q → b.calls q ≡ c.calls q) → meaning_lowered b ls d x ≡ meaning_lowered c ls d x
  meaning_same (formulas xs) d ls h = ap (λ fs. formula (conjunction fs)) (formulas_same xs d ls (all_agree b c (calls_in_all xs) h))
  meaning_same (value range body) d ls h =
      same body d ls (all_agree b c (calls_in body) (λ q k. h q (Contains-append_right (calls_in range) (calls_in body) q k)))

  pub body_same : (x : Option CalleeTree) → ((callee : CalleeTree) (q : ℕ) → x ≡ Some callee → Contains (calls_in_meaning callee.meaning) q → b.calls q ≡ c.calls q) →
      (d : ℕ) (es : List ExpressionTree) → body_lowered b d es x ≡ body_lowered c d es x
  body_same None h d es = refl
  body_same (Some callee) h d es = meaning_same callee.meaning d (arguments d es) (λ q. h callee q refl)

-- past the end nothing is called
pub none_past : {X : Type 0} (xs : List X) (i : ℕ) → length xs ≤ i → slice_get xs i ≡ None
none_past [] i l = refl
none_past (x ∷ xs) zero l = absurd (omega arith)
none_past (x ∷ xs) (suc i) l = none_past xs i (omega arith)

no_callee : (m : NamedTree) (n q : ℕ) → slice_get m.callees q ≡ None → calls_within n m q ≡ (λ d es. relation nothing)
no_callee m zero q e = refl
no_callee m (suc n) q e = λ i d es. body_lowered (base_within n m) d es (e i)

-- the depth of calls isn't seen where the rank is below it
settled : (m : NamedTree) (rank : ℕ → ℕ) → IsRank rank m → (n k q : ℕ) → rank q < n → rank q < k → calls_within n m q ≡ calls_within k m q
settled m rank is zero k q l r = absurd (omega arith)
settled m rank is (suc n) zero q l r = absurd (omega arith)
settled m rank is (suc n) (suc k) q l r =
    λ i d es. body_same (base_within n m) (base_within k m) refl (slice_get m.callees q) (λ callee s e h. elim (cases_lt s (length m.callees)) [
      | inl here ↦
          let low = is.down q s callee e (Contains-append_right (calls_in_domains callee.parameters) (calls_in_meaning callee.meaning) s h) here in
          settled m rank is n k s (omega arith) (omega arith)
      | inr past ↦ let none = none_past m.callees s past in no_callee m n s none ∙ sym (no_callee m k s none)
    ]) d es i

pub call_unfolds : (m : NamedTree) (rank : ℕ → ℕ) → IsRank rank m → (q d : ℕ) (es : List ExpressionTree) → q < length m.callees →
    (base_of m).calls q d es ≡ body_lowered (base_of m) d es (slice_get m.callees q)
call_unfolds m rank is q d es l =
    let low = is.below q l in
    let e = settled m rank is (length m.callees) (suc (length m.callees)) q low (omega arith) in
    λ i. e i d es
