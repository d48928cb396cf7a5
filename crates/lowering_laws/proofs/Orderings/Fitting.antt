-- Parts that have no fault of their types, each with its kind.
use Rattle.std.specs.Prelude.{if◌then◌else◌}
use Rattle.std.proofs.Common.{◌≡◌, ℕ, ◌==◌, nat_lt, true, false, List, [], ◌∷◌, length, slice_get, Some, None, Result, Ok, Err, refl, ◌∙◌, ap}
use Rattle.alloy_lex.specs.declared.token.Place.{Place}
use Rattle.alloy_syntax.specs.declared.tree.Quantifier.{Quantifier}
use Rattle.alloy_syntax.specs.declared.tree.Prefix.{Prefix}
use Rattle.alloy_syntax.specs.declared.tree.Operator.TheVariants as operator
use Rattle.alloy_syntax.specs.declared.tree.Comparing.{Comparing}
use Rattle.named_model.specs.declared.phrase.Referent.TheVariants as referent
use Rattle.named_model.specs.Phrase.{PhraseTree, refers, called, prefixed, chain, path, compared, quantified, PhraseTrees, no_phrases, more_phrases, LinkTrees, no_links, more_links, no_steps, join_first, DomainTrees, no_domains, more_domains}
use Rattle.named_model.specs.Answers.{◌>>=◌}
use Rattle.model_types.specs.declared.fault.TypeFault.{TypeFault}
use Rattle.model_types.specs.declared.fault.TypeFault.TheVariants as fault
use Rattle.model_types.specs.Sorts as sorts
use Rattle.model_types.specs.Sorts.{Kind, unless, first_place, prefix_kind, joined_arity, operator_arity, may_stand_left, fits_left}
use Rattle.model_types.specs.Bounding.{Lists}
use Rattle.model_types.specs.Typing as typing
use Rattle.model_types.specs.Typing.{Declared, Settled, Header, Arguments, type_in, ends_of, tops_behind, is_shared, formula_from, call_kind, settled, formulas_settled, arguments_settled, links_settled, steps_settled, tops_in, domains_settled}

then_is : {A B : Type 0} (r : Result A TypeFault) (f : A → Result B TypeFault) (a : A) → r ≡ Ok a → (r >>= f) ≡ f a
then_is r f a e = ap (λ q. q >>= f) e

abbrev pub it : PhraseTree → Kind → Result Settled TypeFault
it x k = Ok (record { tree = x; kind = k })

-- the part is itself and of this kind, whatever a shared name in its place belongs to
abbrev pub Fits : Declared → List typing.Local → PhraseTree → Kind → Type 0
Fits d locals x k = (tops : List ℕ) → settled d locals tops x ≡ it x k

abbrev ok_links : LinkTrees → Kind → Result (LinkTrees × Kind) TypeFault
ok_links ls k = Ok (ls, k)

abbrev pub ok_domains : DomainTrees → List typing.Local → Result (DomainTrees × List typing.Local) TypeFault
ok_domains ds ls = Ok (ds, ls)

module _ (d : Declared) (locals : List typing.Local) where
  pub signature_fits : (p : Place) (s : ℕ) → nat_lt s (length d.signatures) ≡ true → Fits d locals (refers p (referent.Signature s)) (sorts.relation 1)
  signature_fits p s below tops = ap (λ b. unless b (fault.Sort p) >>= λ there. it (refers p (referent.Signature s)) (sorts.relation 1)) below

  pub field_fits : (p : Place) (f : ℕ) (x : typing.Field) → slice_get d.fields f ≡ Some x → Fits d locals (refers p (referent.Field f)) (sorts.relation x.arity)
  field_fits p f x at tops =
      ap (λ o. elim o as (λ o. Result Settled TypeFault) [ None ↦ Err (fault.Sort p) | Some field ↦ it (refers p (referent.Field f)) (sorts.relation field.arity) ]) at

  pub local_fits : (p : Place) (i : ℕ) (l : typing.Local) → slice_get locals i ≡ Some l → Fits d locals (refers p (referent.Local i)) (sorts.relation l.arity)
  local_fits p i l at tops =
      ap (λ o. elim o as (λ o. Result Settled TypeFault) [ None ↦ Err (fault.Sort p) | Some x ↦ it (refers p (referent.Local i)) (sorts.relation x.arity) ]) at

  pub prefix_fits : (f : Prefix) (p : Place) (x : PhraseTree) (k j : Kind) → Fits d locals x k → prefix_kind f p (first_place x) k ≡ Ok j → Fits d locals (prefixed f p x) j
  prefix_fits f p x k j fits kind tops =
      then_is (settled d locals [] x) (λ y. prefix_kind f p (first_place x) y.kind >>= λ q. it (prefixed f p y.tree) q) (record { tree = x; kind = k }) (fits [])
      ∙ then_is (prefix_kind f p (first_place x) k) (λ q. it (prefixed f p x) q) j kind

  steps_fit : (left : Place) (a : Lists) (p : Place) (z : PhraseTree) (m n r : ℕ) → Fits d locals z (sorts.relation n) → joined_arity p m n ≡ Ok r →
      steps_settled d locals left (sorts.relation m) a (join_first p z no_steps) ≡ Ok (join_first p z no_steps, sorts.relation r)
  steps_fit left a p z m n r fits arity =
      ap (λ q. q >>= λ y. sorts.as_relation (first_place z) y.kind >>= λ n. joined_arity p m n >>= λ r. Ok (join_first p y.tree no_steps, sorts.relation r)) (fits (ends_of a))
      ∙ ap (λ q. q >>= λ r. Ok (join_first p z no_steps, sorts.relation r)) arity

  pub join_fits : (x : PhraseTree) (p : Place) (z : PhraseTree) (m n r : ℕ) → is_shared x ≡ false → Fits d locals x (sorts.relation m) → Fits d locals z (sorts.relation n) → joined_arity p m n ≡ Ok r →
      Fits d locals (path x (join_first p z no_steps)) (sorts.relation r)
  join_fits x p z m n r alone left right arity tops =
      let rest = λ (y : Settled). steps_settled d locals (first_place x) y.kind (type_in d locals y.tree) (join_first p z no_steps) >>= λ zs. it (path y.tree zs.0) zs.1 in
      ap (λ b. (if b then tops_in d locals (join_first p z no_steps) else Ok []) >>= λ inner. settled d locals inner x >>= rest) alone
      ∙ then_is (settled d locals [] x) rest (record { tree = x; kind = sorts.relation m }) (left [])
      ∙ then_is (steps_settled d locals (first_place x) (sorts.relation m) (type_in d locals x) (join_first p z no_steps)) (λ zs. it (path x zs.0) zs.1) (join_first p z no_steps, sorts.relation r)
      (steps_fit (first_place x) (type_in d locals x) p z m n r right arity)

  pub compared_fits : (x : PhraseTree) (c : Comparing) (z : PhraseTree) (j k : Kind) → Fits d locals x j → Fits d locals z k → may_stand_left c.comparison (first_place x) j ≡ Ok tt →
      fits_left c.place (first_place z) j k ≡ Ok tt → Fits d locals (compared x c z) sorts.formula
  compared_fits x c z j k left right stands fit tops =
      let last = λ (y w : Settled). fits_left c.place (first_place z) y.kind w.kind >>= λ ok. it (compared y.tree c w.tree) sorts.formula in
      let rest = λ (y : Settled). may_stand_left c.comparison (first_place x) y.kind >>= λ ok. settled d locals [] z >>= last y in
      let one : Settled = record { tree = x; kind = j } in
      let two : Settled = record { tree = z; kind = k } in
      then_is (settled d locals [] x) rest one (left [])
      ∙ then_is (may_stand_left c.comparison (first_place x) j) (λ ok. settled d locals [] z >>= last one) tt stands
      ∙ then_is (settled d locals [] z) (last one) two (right [])
      ∙ then_is (fits_left c.place (first_place z) j k) (λ ok. it (compared x c z) sorts.formula) tt fit

  pub formula_fits : (x : PhraseTree) → Fits d locals x sorts.formula → formula_from x (settled d locals [] x) ≡ Ok x
  formula_fits x fits = ap (formula_from x) (fits [])

  pub minus_fits : (x : PhraseTree) (p : Place) (z : PhraseTree) (n : ℕ) → Fits d locals x (sorts.relation n) → Fits d locals z (sorts.relation n) → operator_arity operator.Minus p (first_place x) (first_place z) n n ≡ Ok n →
      Fits d locals (chain x (more_links operator.Minus p z no_links)) (sorts.relation n)
  minus_fits x p z n left right arity tops =
      let rest = λ (y : Settled). links_settled d locals (first_place x) y.kind (type_in d locals y.tree) (more_links operator.Minus p z no_links) >>= λ zs. it (chain y.tree zs.0) zs.1 in
      then_is (settled d locals [] x) rest (record { tree = x; kind = sorts.relation n }) (left [])
      ∙ ap (λ q. (q >>= λ y. sorts.as_relation (first_place z) y.kind >>= λ k. operator_arity operator.Minus p (first_place x) (first_place z) n k >>= λ r. ok_links (more_links operator.Minus p y.tree no_links) (sorts.relation r)) >>= λ zs. it (chain x zs.0) zs.1) (right (tops_behind operator.Minus (type_in d locals x)))
      ∙ ap (λ q. (q >>= λ r. ok_links (more_links operator.Minus p z no_links) (sorts.relation r)) >>= λ zs. it (chain x zs.0) zs.1) arity

  pub product_fits : (x : PhraseTree) (p : Place) (z : PhraseTree) (m n r : ℕ) → Fits d locals x (sorts.relation m) → Fits d locals z (sorts.relation n) → operator_arity operator.Product p (first_place x) (first_place z) m n ≡ Ok r →
      Fits d locals (chain x (more_links operator.Product p z no_links)) (sorts.relation r)
  product_fits x p z m n r left right arity tops =
      let rest = λ (y : Settled). links_settled d locals (first_place x) y.kind (type_in d locals y.tree) (more_links operator.Product p z no_links) >>= λ zs. it (chain y.tree zs.0) zs.1 in
      then_is (settled d locals [] x) rest (record { tree = x; kind = sorts.relation m }) (left [])
      ∙ ap (λ q. (q >>= λ y. sorts.as_relation (first_place z) y.kind >>= λ k. operator_arity operator.Product p (first_place x) (first_place z) m k >>= λ r. ok_links (more_links operator.Product p y.tree no_links) (sorts.relation r)) >>= λ zs. it (chain x zs.0) zs.1) (right (tops_behind operator.Product (type_in d locals x)))
      ∙ ap (λ q. (q >>= λ r. ok_links (more_links operator.Product p z no_links) (sorts.relation r)) >>= λ zs. it (chain x zs.0) zs.1) arity

  pub or_fits : (x : PhraseTree) (p : Place) (z : PhraseTree) → Fits d locals x sorts.formula → Fits d locals z sorts.formula → Fits d locals (chain x (more_links operator.Or p z no_links)) sorts.formula
  or_fits x p z left right tops =
      let rest = λ (y : Settled). links_settled d locals (first_place x) y.kind (type_in d locals y.tree) (more_links operator.Or p z no_links) >>= λ zs. it (chain y.tree zs.0) zs.1 in
      then_is (settled d locals [] x) rest (record { tree = x; kind = sorts.formula }) (left [])
      ∙ ap (λ q. (q >>= λ y. ok_links (more_links operator.Or p y no_links) sorts.formula) >>= λ zs. it (chain x zs.0) zs.1) (formula_fits z right)

  -- arguments, each a relation
  pub ArgumentsFit : PhraseTrees → List (ℕ × Place) → Type 0
  ArgumentsFit xs ns = arguments_settled d locals xs ≡ Ok (record { trees = xs; arities = ns })

  pub no_arguments_fit : ArgumentsFit no_phrases []
  unfolding ArgumentsFit
  no_arguments_fit = refl

  pub more_arguments_fit : (x : PhraseTree) (xs : PhraseTrees) (n : ℕ) (ns : List (ℕ × Place)) → Fits d locals x (sorts.relation n) → ArgumentsFit xs ns → ArgumentsFit (more_phrases x xs) ((n, first_place x) ∷ ns)
  unfolding ArgumentsFit
  more_arguments_fit x xs n ns one rest =
      ap (λ q. q >>= λ y. sorts.as_relation (first_place x) y.kind >>= λ k. arguments_settled d locals xs >>= λ ys. Ok (record { trees = more_phrases y.tree ys.trees; arities = (k, first_place x) ∷ ys.arities })) (one [])
      ∙ ap (λ q. q >>= λ ys. Ok (record { trees = more_phrases x ys.trees; arities = (n, first_place x) ∷ ys.arities })) rest

  pub called_fits : (p : Place) (c : ℕ) (xs : PhraseTrees) (ns : List (ℕ × Place)) (k : Kind) → ArgumentsFit xs ns → call_kind p (d.callee c) ns ≡ Ok k → Fits d locals (called p c xs) k
  unfolding ArgumentsFit
  called_fits p c xs ns k fit kind tops =
      then_is (arguments_settled d locals xs) (λ ys. call_kind p (d.callee c) ys.arities >>= λ q. it (called p c ys.trees) q) (record { trees = xs; arities = ns }) fit
      ∙ then_is (call_kind p (d.callee c) ns) (λ q. it (called p c xs) q) k kind

-- a quantifier over one variable
pub quantified_fits : (d : Declared) (locals : List typing.Local) (q : Quantifier) (p : Place) (x body : PhraseTree) → Fits d locals x (sorts.relation 1) →
    Fits d (record { arity = 1; type = type_in d locals x } ∷ locals) body sorts.formula → Fits d locals (quantified q p (more_domains false 1 None x no_domains) body) sorts.formula
quantified_fits d locals q p x body domain inside tops =
    let l : typing.Local = record { arity = 1; type = type_in d locals x } in
    ap (λ r. (r >>= λ y. sorts.as_relation (first_place x) y.kind >>= λ m. unless (m == 1) (fault.NotUnary (first_place x)) >>= λ one.
    ok_domains (more_domains false 1 None y.tree no_domains) (typing.onto 1 (record { arity = m; type = type_in d locals y.tree }) locals))
    >>= λ es. formula_from body (settled d es.1 [] body) >>= λ y. it (quantified q p es.0 y) sorts.formula) (domain [])
    ∙ ap (λ r. r >>= λ y. it (quantified q p (more_domains false 1 None x no_domains) y) sorts.formula) (formula_fits d (l ∷ locals) body inside)

-- formulas one behind the other
pub formulas_fit : (d : Declared) (locals : List typing.Local) (x : PhraseTree) (xs : PhraseTrees) → Fits d locals x sorts.formula → formulas_settled d locals xs ≡ Ok xs → formulas_settled d locals (more_phrases x xs) ≡ Ok (more_phrases x xs)
formulas_fit d locals x xs one rest =
    ap (λ q. q >>= λ y. formulas_settled d locals xs >>= λ ys. Ok (more_phrases y ys)) (formula_fits d locals x one) ∙ ap (λ q. q >>= λ ys. Ok (more_phrases x ys)) rest
