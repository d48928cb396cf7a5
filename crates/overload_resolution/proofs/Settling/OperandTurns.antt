-- One operand, step, argument or domain, and those behind it.
use Rattle.std.proofs.Common.{◌≡◌, ℕ, ◌==◌, Bool, true, List, [], ◌∷◌, map, Result, Ok, Err, refl, sym, ap, ◌∙◌, if◌then◌else◌}
use Rattle.alloy_lex.specs.declared.token.Place.{Place}
use Rattle.alloy_syntax.specs.declared.tree.MultiplicityWord.{MultiplicityWord}
use Rattle.alloy_syntax.specs.declared.tree.Operator.{Operator}
use Rattle.alloy_syntax.specs.declared.tree.Operator.TheVariants as operator
use Rattle.std.specs.Prelude.{Option}
use Rattle.named_model.specs.Answers.{◌>>=◌}
use Rattle.named_model.specs.Phrase.{PhraseTree, PhraseTrees, more_phrases, phrases_of, LinkTrees, more_links, StepTree, joined, in_brackets, StepTrees, no_steps, join_first, brackets_first, step_first, DomainTrees, more_domains}
use Rattle.model_types.specs.declared.fault.TypeFault.{TypeFault}
use Rattle.model_types.specs.declared.fault.TypeFault.TheVariants as fault
use Rattle.model_types.specs.Bounding.{Lists, operator_type}
use Rattle.model_types.specs.Sorts.{Kind, relation, formula, unless, first_place, as_relation, as_formula, operator_arity, joined_arity, brackets_arity}
use Rattle.model_types.specs.Typing.{Local, Declared, Settled, Arguments, type_in, tops_behind, ends_of, onto, formula_from, settled, arguments_settled, links_settled, steps_settled, domains_settled, values_settled}
use Rattle.overload_resolution.specs.Settling.Single.{connected, combined, link_settled, step_settled, type_behind, relation_settled, domain_settled, links_after, steps_after, with_argument, entered}

module _ (d : Declared) (ls : List Local) where
  -- ---- operands

  connected_turn : (left : Place) (k : Kind) (a : Lists) (o : Operator) (p : Place) (x : PhraseTree) (rest : LinkTrees) → ((b : Lists) → operator_type o a b ≡ [])
      → (as_formula left k >>= λ is. formula_from x (settled d ls [] x) >>= λ y. links_settled d ls left formula [] rest >>= λ zs. Ok (more_links o p y zs.0, zs.1))
      ≡ (connected d ls left k (record { operator = o; place = p; operand = x }) >>= links_after d ls left a rest)
  connected_turn left k a o p x rest none = go (as_formula left k)
    where
      inner : (w : Result PhraseTree TypeFault) → (w >>= λ y. links_settled d ls left formula [] rest >>= λ zs. Ok (more_links o p y zs.0, zs.1))
          ≡ ((w >>= λ y. Ok (record { link = record { operator = o; place = p; operand = y }; kind = formula })) >>= links_after d ls left a rest)
      inner (Ok y) = ap (λ b. links_settled d ls left formula b rest >>= λ zs. Ok (more_links o p y zs.0, zs.1)) (sym (none (type_in d ls y)))
      inner (Err e) = refl

      go : (v : Result (Unit {0}) TypeFault)
          → (v >>= λ is. formula_from x (settled d ls [] x) >>= λ y. links_settled d ls left formula [] rest >>= λ zs. Ok (more_links o p y zs.0, zs.1))
          ≡ ((v >>= λ is. formula_from x (settled d ls [] x) >>= λ y. Ok (record { link = record { operator = o; place = p; operand = y }; kind = formula })) >>= links_after d ls left a rest)
      go (Ok is) = inner (formula_from x (settled d ls [] x))
      go (Err e) = refl

  combined_turn : (left : Place) (k : Kind) (a : Lists) (o : Operator) (p : Place) (x : PhraseTree) (rest : LinkTrees)
      → (as_relation left k >>= λ m. settled d ls (tops_behind o a) x >>= λ y. as_relation (first_place x) y.kind >>= λ n. operator_arity o p left (first_place x) m n >>= λ r. links_settled d ls left (relation r) (operator_type o a (type_in d ls y.tree)) rest >>= λ zs. Ok (more_links o p y.tree zs.0, zs.1))
      ≡ (combined d ls left k a (record { operator = o; place = p; operand = x }) >>= links_after d ls left a rest)
  combined_turn left k a o p x rest = one (as_relation left k)
    where
      four : (y : Settled) (w : Result ℕ TypeFault)
          → (w >>= λ r. links_settled d ls left (relation r) (operator_type o a (type_in d ls y.tree)) rest >>= λ zs. Ok (more_links o p y.tree zs.0, zs.1))
          ≡ ((w >>= λ r. Ok (record { link = record { operator = o; place = p; operand = y.tree }; kind = relation r })) >>= links_after d ls left a rest)
      four y (Ok r) = refl
      four y (Err e) = refl

      three : (m : ℕ) (y : Settled) (w : Result ℕ TypeFault)
          → (w >>= λ n. operator_arity o p left (first_place x) m n >>= λ r. links_settled d ls left (relation r) (operator_type o a (type_in d ls y.tree)) rest >>= λ zs. Ok (more_links o p y.tree zs.0, zs.1))
          ≡ ((w >>= λ n. operator_arity o p left (first_place x) m n >>= λ r. Ok (record { link = record { operator = o; place = p; operand = y.tree }; kind = relation r })) >>= links_after d ls left a rest)
      three m y (Ok n) = four y (operator_arity o p left (first_place x) m n)
      three m y (Err e) = refl

      two : (m : ℕ) (w : Result Settled TypeFault)
          → (w >>= λ y. as_relation (first_place x) y.kind >>= λ n. operator_arity o p left (first_place x) m n >>= λ r. links_settled d ls left (relation r) (operator_type o a (type_in d ls y.tree)) rest >>= λ zs. Ok (more_links o p y.tree zs.0, zs.1))
          ≡ ((w >>= λ y. as_relation (first_place x) y.kind >>= λ n. operator_arity o p left (first_place x) m n >>= λ r. Ok (record { link = record { operator = o; place = p; operand = y.tree }; kind = relation r })) >>= links_after d ls left a rest)
      two m (Ok y) = three m y (as_relation (first_place x) y.kind)
      two m (Err e) = refl

      one : (w : Result ℕ TypeFault)
          → (w >>= λ m. settled d ls (tops_behind o a) x >>= λ y. as_relation (first_place x) y.kind >>= λ n. operator_arity o p left (first_place x) m n >>= λ r. links_settled d ls left (relation r) (operator_type o a (type_in d ls y.tree)) rest >>= λ zs. Ok (more_links o p y.tree zs.0, zs.1))
          ≡ ((w >>= λ m. settled d ls (tops_behind o a) x >>= λ y. as_relation (first_place x) y.kind >>= λ n. operator_arity o p left (first_place x) m n >>= λ r. Ok (record { link = record { operator = o; place = p; operand = y.tree }; kind = relation r })) >>= links_after d ls left a rest)
      one (Ok m) = two m (settled d ls (tops_behind o a) x)
      one (Err e) = refl

  pub link_turn : (left : Place) (k : Kind) (a : Lists) (o : Operator) (p : Place) (x : PhraseTree) (rest : LinkTrees)
      → links_settled d ls left k a (more_links o p x rest) ≡ (link_settled d ls left k a (record { operator = o; place = p; operand = x }) >>= links_after d ls left a rest)
  link_turn left k a operator.Or p x rest = connected_turn left k a operator.Or p x rest (λ b. refl)
  link_turn left k a operator.And p x rest = connected_turn left k a operator.And p x rest (λ b. refl)
  link_turn left k a operator.Iff p x rest = connected_turn left k a operator.Iff p x rest (λ b. refl)
  link_turn left k a operator.Union p x rest = combined_turn left k a operator.Union p x rest
  link_turn left k a operator.Minus p x rest = combined_turn left k a operator.Minus p x rest
  link_turn left k a operator.Meet p x rest = combined_turn left k a operator.Meet p x rest
  link_turn left k a operator.Product p x rest = combined_turn left k a operator.Product p x rest
  link_turn left k a operator.Override p x rest = combined_turn left k a operator.Override p x rest
  link_turn left k a operator.Domain p x rest = combined_turn left k a operator.Domain p x rest
  link_turn left k a operator.Range p x rest = combined_turn left k a operator.Range p x rest

  -- ---- steps

  pub step_turn : (left : Place) (k : Kind) (a : Lists) (s : StepTree) (rest : StepTrees) → steps_settled d ls left k a (step_first s rest) ≡ (step_settled d ls left k a s >>= steps_after d ls left a rest)
  step_turn left k a (joined p x) rest = one (as_relation left k)
    where
      four : (y : Settled) (w : Result ℕ TypeFault)
          → (w >>= λ r. steps_settled d ls left (relation r) (type_behind d ls a (join_first p y.tree no_steps)) rest >>= λ zs. Ok (join_first p y.tree zs.0, zs.1))
          ≡ (((w >>= λ r. Ok (record { tree = y.tree; kind = relation r })) >>= λ (z : Settled). Ok (record { before = join_first p z.tree; kind = z.kind })) >>= steps_after d ls left a rest)
      four y (Ok r) = refl
      four y (Err e) = refl

      three : (m : ℕ) (y : Settled) (w : Result ℕ TypeFault)
          → (w >>= λ n. joined_arity p m n >>= λ r. steps_settled d ls left (relation r) (type_behind d ls a (join_first p y.tree no_steps)) rest >>= λ zs. Ok (join_first p y.tree zs.0, zs.1))
          ≡ (((w >>= λ n. joined_arity p m n >>= λ r. Ok (record { tree = y.tree; kind = relation r })) >>= λ (z : Settled). Ok (record { before = join_first p z.tree; kind = z.kind })) >>= steps_after d ls left a rest)
      three m y (Ok n) = four y (joined_arity p m n)
      three m y (Err e) = refl

      two : (m : ℕ) (w : Result Settled TypeFault)
          → (w >>= λ y. as_relation (first_place x) y.kind >>= λ n. joined_arity p m n >>= λ r. steps_settled d ls left (relation r) (type_behind d ls a (join_first p y.tree no_steps)) rest >>= λ zs. Ok (join_first p y.tree zs.0, zs.1))
          ≡ (((w >>= λ y. as_relation (first_place x) y.kind >>= λ n. joined_arity p m n >>= λ r. Ok (record { tree = y.tree; kind = relation r })) >>= λ (z : Settled). Ok (record { before = join_first p z.tree; kind = z.kind })) >>= steps_after d ls left a rest)
      two m (Ok y) = three m y (as_relation (first_place x) y.kind)
      two m (Err e) = refl

      one : (w : Result ℕ TypeFault)
          → (w >>= λ m. settled d ls (ends_of a) x >>= λ y. as_relation (first_place x) y.kind >>= λ n. joined_arity p m n >>= λ r. steps_settled d ls left (relation r) (type_behind d ls a (join_first p y.tree no_steps)) rest >>= λ zs. Ok (join_first p y.tree zs.0, zs.1))
          ≡ (((w >>= λ m. settled d ls (ends_of a) x >>= λ y. as_relation (first_place x) y.kind >>= λ n. joined_arity p m n >>= λ r. Ok (record { tree = y.tree; kind = relation r })) >>= λ (z : Settled). Ok (record { before = join_first p z.tree; kind = z.kind })) >>= steps_after d ls left a rest)
      one (Ok m) = two m (settled d ls (ends_of a) x)
      one (Err e) = refl
  step_turn left k a (in_brackets p xs) rest = one (as_relation left k)
    where
      three : (ys : Arguments) (w : Result ℕ TypeFault)
          → (w >>= λ r. steps_settled d ls left (relation r) (type_behind d ls a (brackets_first p ys.trees no_steps)) rest >>= λ zs. Ok (brackets_first p ys.trees zs.0, zs.1))
          ≡ (((w >>= λ r. Ok (ys.trees, relation r)) >>= λ (zs : PhraseTrees × Kind). Ok (record { before = brackets_first p zs.0; kind = zs.1 })) >>= steps_after d ls left a rest)
      three ys (Ok r) = refl
      three ys (Err e) = refl

      two : (m : ℕ) (w : Result Arguments TypeFault)
          → (w >>= λ ys. brackets_arity p m (map (λ n. n.0) ys.arities) >>= λ r. steps_settled d ls left (relation r) (type_behind d ls a (brackets_first p ys.trees no_steps)) rest >>= λ zs. Ok (brackets_first p ys.trees zs.0, zs.1))
          ≡ (((w >>= λ ys. brackets_arity p m (map (λ n. n.0) ys.arities) >>= λ r. Ok (ys.trees, relation r)) >>= λ (zs : PhraseTrees × Kind). Ok (record { before = brackets_first p zs.0; kind = zs.1 })) >>= steps_after d ls left a rest)
      two m (Ok ys) = three ys (brackets_arity p m (map (λ n. n.0) ys.arities))
      two m (Err e) = refl

      one : (w : Result ℕ TypeFault)
          → (w >>= λ m. arguments_settled d ls (phrases_of xs) >>= λ ys. brackets_arity p m (map (λ n. n.0) ys.arities) >>= λ r. steps_settled d ls left (relation r) (type_behind d ls a (brackets_first p ys.trees no_steps)) rest >>= λ zs. Ok (brackets_first p ys.trees zs.0, zs.1))
          ≡ (((w >>= λ m. arguments_settled d ls (phrases_of xs) >>= λ ys. brackets_arity p m (map (λ n. n.0) ys.arities) >>= λ r. Ok (ys.trees, relation r)) >>= λ (zs : PhraseTrees × Kind). Ok (record { before = brackets_first p zs.0; kind = zs.1 })) >>= steps_after d ls left a rest)
      one (Ok m) = two m (arguments_settled d ls (phrases_of xs))
      one (Err e) = refl

  -- ---- arguments, values and domains

  relation_then : {Z : Type 0} (x : PhraseTree) (f : PhraseTree × ℕ → Result Z TypeFault)
      → (settled d ls [] x >>= λ y. as_relation (first_place x) y.kind >>= λ n. f (y.tree, n)) ≡ (relation_settled d ls x >>= f)
  relation_then x f = one (settled d ls [] x)
    where
      two : (y : Settled) (w : Result ℕ TypeFault) → (w >>= λ n. f (y.tree, n)) ≡ ((w >>= λ n. Ok (y.tree, n)) >>= f)
      two y (Ok n) = refl
      two y (Err e) = refl

      one : (w : Result Settled TypeFault) → (w >>= λ y. as_relation (first_place x) y.kind >>= λ n. f (y.tree, n)) ≡ ((w >>= λ y. as_relation (first_place x) y.kind >>= λ n. Ok (y.tree, n)) >>= f)
      one (Ok y) = two y (as_relation (first_place x) y.kind)
      one (Err e) = refl

  pub argument_turn : (x : PhraseTree) (xs : PhraseTrees) → arguments_settled d ls (more_phrases x xs) ≡ (relation_settled d ls x >>= λ r. arguments_settled d ls xs >>= λ ys. Ok (with_argument r (first_place x) ys))
  argument_turn x xs = relation_then x (λ r. arguments_settled d ls xs >>= λ ys. Ok (with_argument r (first_place x) ys))

  pub value_turn : (x : PhraseTree) (xs : PhraseTrees) → values_settled d ls (more_phrases x xs) ≡ (relation_settled d ls x >>= λ r. values_settled d (entered d ls r ∷ ls) xs >>= λ zs. Ok (more_phrases r.0 zs.0, zs.1))
  value_turn x xs = relation_then x (λ r. values_settled d (entered d ls r ∷ ls) xs >>= λ zs. Ok (more_phrases r.0 zs.0, zs.1))

  pub domain_turn : (single : Bool) (disjoint : Bool) (n : ℕ) (mark : Option MultiplicityWord) (x : PhraseTree) (ds : DomainTrees)
      → domains_settled single d ls (more_domains disjoint n mark x ds)
      ≡ (domain_settled single d ls x >>= λ r. domains_settled single d (onto n (entered d ls r) ls) ds >>= λ zs. Ok (more_domains disjoint n mark r.0 zs.0, zs.1))
  domain_turn single disjoint n mark x ds =
      relation_then x (λ r. unless (if single then r.1 == 1 else true) (fault.NotUnary (first_place x)) >>= λ one. f r)
      ∙ go (relation_settled d ls x)
    where
      f : PhraseTree × ℕ → Result (DomainTrees × List Local) TypeFault
      f r = domains_settled single d (onto n (entered d ls r) ls) ds >>= λ zs. Ok (more_domains disjoint n mark r.0 zs.0, zs.1)

      two : (r : PhraseTree × ℕ) (w : Result (Unit {0}) TypeFault) → (w >>= λ one. f r) ≡ ((w >>= λ one. Ok r) >>= f)
      two r (Ok one) = refl
      two r (Err e) = refl

      go : (w : Result (PhraseTree × ℕ) TypeFault) → (w >>= λ r. unless (if single then r.1 == 1 else true) (fault.NotUnary (first_place x)) >>= λ one. f r)
          ≡ ((w >>= λ r. unless (if single then r.1 == 1 else true) (fault.NotUnary (first_place x)) >>= λ one. Ok r) >>= f)
      go (Ok r) = two r (unless (if single then r.1 == 1 else true) (fault.NotUnary (first_place x)))
      go (Err e) = refl
