-- What is built of answers that give what the definition does is what the definition gives.
use Rattle.std.proofs.Common.{◌≡◌, inl, inr, Bool, true, false, if◌then◌else◌, ◌||◌, List, [], map, Option, Result, Ok, Err, refl, sym, ap, subst, ◌∙◌, Vec, Global}
use Rattle.std.specs.Option.{option_map}
use Rattle.alloy_lex.specs.declared.token.Place.{Place}
use Rattle.alloy_syntax.specs.declared.tree.Comparing.{Comparing}
use Rattle.alloy_syntax.specs.declared.tree.Quantifier.{Quantifier}
use Rattle.named_model.specs.Answers.{◌>>=◌}
use Rattle.named_model.specs.declared.phrase.Phrase.{Phrase}
use Rattle.named_model.specs.declared.phrase.Link.{Link}
use Rattle.named_model.specs.declared.phrase.Step.{Step, Join, Brackets}
use Rattle.named_model.specs.declared.phrase.Domain.{Domain}
use Rattle.named_model.specs.Phrase.{PhraseTree, chain, path, compared, implies, implies_else, quantified, bound_by_let, PhraseTrees, LinkTree, LinkTrees, StepTree, in_brackets, StepTrees, DomainTrees}
use Rattle.named_model.specs.View.{phrase_view, phrases_view, link_view, step_view}
use Rattle.model_types.specs.declared.fault.TypeFault.{TypeFault}
use Rattle.model_types.specs.declared.fault.TypeFault.TheVariants.{Memory}
use Rattle.model_types.specs.Bounding.{Lists}
use Rattle.model_types.specs.Sorts as sorts
use Rattle.model_types.specs.Sorts.{relation, formula, first_place, as_relation, as_formula, is_connective, operator_arity, joined_arity, brackets_arity, may_stand_left, fits_left}
use Rattle.model_types.specs.Typing.{Declared, Local, Settled, types_in, type_in, formula_from, tops_behind, ends_of, settled, arguments_settled, links_settled, steps_settled, domains_settled, values_settled}
use Rattle.model_types.specs.declared.part_sorts.kinds.Kind.{Kind}
use Rattle.model_types.specs.Parts.Kinds.{kind_view}
use Rattle.overload_resolution.specs.Names.Shared.{shared_in, shared_among, shared_in_domains}
use Rattle.overload_resolution.specs.Settling.Built.{seen, chain_built, path_built, compared_built, implies_built, else_built, quantified_built, let_built, connected_built, combined_built, join_built, join_step, brackets_built, brackets_step}
use Rattle.overload_resolution.specs.Settling.Inside.{AreAlikeWhere}
use Rattle.overload_resolution.specs.Settling.Same.{AreSameTypes, Asks}
use Rattle.overload_resolution.specs.Settling.Single.{Linked, connected, combined, link_settled, join_settled, brackets_settled, step_settled, argument_asked, tops_of}
use Rattle.overload_resolution.specs.Settling.Told.{Gives}
use Rattle.overload_resolution.specs.Scopes.Given.{settled_view}
use Rattle.overload_resolution.specs.Parts.Views.{phrases_seen, domains_seen, arguments_view, linked_view, links_seen, stepped_view, steps_seen, bracketed_view}
use Rattle.overload_resolution.specs.declared.settled_parts.building.Arguments.{Arguments}
use Rattle.overload_resolution.proofs.Parts.Operands.{link_seen}
use Rattle.overload_resolution.proofs.Parts.PathHeads.{path_head, inside, let_inside, join_seen, brackets_seen}

module _ {X Y Z W : Type 0} (see : X → Y) (look : Z → W) where
  memory_told : (result : Result Z TypeFault) (whole : Result W TypeFault) → Gives look result (Err Memory) → Gives look result whole
  memory_told (Ok z) whole is = absurd cc
  memory_told (Err e) whole (inl memory) = inl memory
  memory_told (Err e) whole (inr is) = inl cc

  -- where want of memory is handed on
  pub gives_by_answer : (rest : Result Y TypeFault → Result W TypeFault) → rest (Err Memory) ≡ Err Memory → (answer : Result X TypeFault) (read : Result Y TypeFault) (result : Result Z TypeFault)
      → Gives see answer read → Gives look result (rest (seen see answer)) → Gives look result (rest read)
  gives_by_answer rest stops (Ok x) read result is gives = subst (λ (r : Result Y TypeFault). Gives look result (rest r)) (sym is) gives
  gives_by_answer rest stops (Err e) read result (inr is) gives = subst (λ (r : Result Y TypeFault). Gives look result (rest r)) (sym is) gives
  gives_by_answer rest stops (Err e) read result (inl is) gives =
      memory_told result (rest read) (subst (λ (r : Result W TypeFault). Gives look result r) (ap (λ (f : TypeFault). rest (Err f)) is ∙ stops) gives)

  -- where something else is tested first
  pub gives_behind : {A : Type 0} (first : Result A TypeFault) (rest : A → Y → Result W TypeFault) (answer : Result X TypeFault) (read : Result Y TypeFault) (result : Result Z TypeFault)
      → Gives see answer read → Gives look result (first >>= λ a. seen see answer >>= rest a) → Gives look result (first >>= λ a. read >>= rest a)
  gives_behind (Ok a) rest answer read result is gives = gives_by_answer (λ r. r >>= rest a) refl answer read result is gives
  gives_behind (Err e) rest answer read result is gives = gives

module _ (d : Declared) (ls : List Local) (result : Result (Phrase × Kind) TypeFault) where
  moved : (this that : Result Settled TypeFault) → this ≡ that → Gives settled_view result this → Gives settled_view result that
  moved this that is gives = subst (λ (r : Result Settled TypeFault). Gives settled_view result r) is gives

  pub chain_whole : (x : PhraseTree) (links : LinkTrees) (left : Place) (y : Phrase × Kind) (one : List Local) (others : Result (Vec Link Global × Kind) TypeFault)
      → left ≡ first_place x → settled d ls [] x ≡ Ok (settled_view y) → one ≡ ls → Gives links_seen others (links_settled d one left (kind_view y.1) (type_in d one (phrase_view y.0)) links)
      → Gives settled_view result (chain_built (phrase_view y.0) (seen links_seen others)) → Gives settled_view result (settled d ls [] (chain x links))
  chain_whole x links left y one others begins head same are built =
      let rest : Settled → Result Settled TypeFault = λ z. chain_built z.tree (links_settled d ls (first_place x) z.kind (type_in d ls z.tree) links) in
      moved (chain_built (phrase_view y.0) (links_settled d one left (kind_view y.1) (type_in d one (phrase_view y.0)) links)) (settled d ls [] (chain x links))
      ((λ j. chain_built (phrase_view y.0) (links_settled d (same j) (begins j) (kind_view y.1) (type_in d (same j) (phrase_view y.0)) links)) ∙ ap (λ r. r >>= rest) (sym head))
      (gives_by_answer links_seen settled_view (chain_built (phrase_view y.0)) refl others (links_settled d one left (kind_view y.1) (type_in d one (phrase_view y.0)) links) result are built)

  pub path_whole : (x : PhraseTree) (steps : StepTrees) (left : Place) (given : Option (Phrase × Kind)) (y : Phrase × Kind) (one two : List Local) (others : Result (Vec Step Global × Kind) TypeFault)
      → left ≡ first_place x → argument_asked d ls x steps ≡ Ok (option_map settled_view given) → one ≡ ls → settled d one (tops_of d one (option_map settled_view given)) x ≡ Ok (settled_view y) → two ≡ one
      → Gives steps_seen others (steps_settled d two left (kind_view y.1) (type_in d two (phrase_view y.0)) steps)
      → Gives settled_view result (path_built (phrase_view y.0) (seen steps_seen others)) → Gives settled_view result (settled d ls [] (path x steps))
  path_whole x steps left given y one two others begins asks same headed again are built =
      let now : two ≡ ls = again ∙ same in
      let head : settled d ls (tops_of d ls (option_map settled_view given)) x ≡ Ok (settled_view y) = ap (λ (ms : List Local). settled d ms (tops_of d ms (option_map settled_view given)) x) (sym same) ∙ headed in
      moved (path_built (phrase_view y.0) (steps_settled d two left (kind_view y.1) (type_in d two (phrase_view y.0)) steps)) (settled d ls [] (path x steps))
      ((λ j. path_built (phrase_view y.0) (steps_settled d (now j) (begins j) (kind_view y.1) (type_in d (now j) (phrase_view y.0)) steps))
      ∙ sym (path_head d ls [] x steps (option_map settled_view given) asks (settled_view y) head))
      (gives_by_answer steps_seen settled_view (path_built (phrase_view y.0)) refl others (steps_settled d two left (kind_view y.1) (type_in d two (phrase_view y.0)) steps) result are built)

  pub compared_whole : (a b : PhraseTree) (c : Comparing) (left : Place) (y : Phrase × Kind) (one : List Local) (second : Result (Phrase × Kind) TypeFault)
      → left ≡ first_place a → settled d ls [] a ≡ Ok (settled_view y) → one ≡ ls → Gives settled_view second (settled d one [] b)
      → Gives settled_view result (compared_built left (settled_view y) c b (seen settled_view second)) → Gives settled_view result (settled d ls [] (compared a c b))
  compared_whole a b c left y one second begins head same is built =
      let k = kind_view y.1 in
      moved (compared_built left (settled_view y) c b (settled d one [] b)) (settled d ls [] (compared a c b))
      ((λ j. compared_built (begins j) (settled_view y) c b (settled d (same j) [] b)) ∙ ap (λ r. r >>= λ (z : Settled). compared_built (first_place a) z c b (settled d ls [] b)) (sym head))
      (gives_behind settled_view settled_view (may_stand_left c.comparison left k) (λ may z. fits_left c.place (first_place b) k z.kind >>= λ right. Ok (record { tree = compared (phrase_view y.0) c z.tree; kind = formula }))
      second (settled d one [] b) result is built)

  pub implied_whole : (a b : PhraseTree) (p : Place) (y : Phrase) (one : List Local) (right : Result Phrase TypeFault)
      → formula_from a (settled d ls [] a) ≡ Ok (phrase_view y) → one ≡ ls → Gives phrase_view right (formula_from b (settled d one [] b))
      → Gives settled_view result (implies_built (phrase_view y) p (seen phrase_view right)) → Gives settled_view result (settled d ls [] (implies a p b))
  implied_whole a b p y one right head same is built =
      moved (implies_built (phrase_view y) p (formula_from b (settled d one [] b))) (settled d ls [] (implies a p b))
      ((λ j. implies_built (phrase_view y) p (formula_from b (settled d (same j) [] b))) ∙ ap (λ r. r >>= λ (u : PhraseTree). implies_built u p (formula_from b (settled d ls [] b))) (sym head))
      (gives_by_answer phrase_view settled_view (implies_built (phrase_view y) p) refl right (formula_from b (settled d one [] b)) result is built)

  pub else_whole : (a b c : PhraseTree) (p : Place) (y : Phrase) (one two : List Local) (second other : Result Phrase TypeFault)
      → formula_from a (settled d ls [] a) ≡ Ok (phrase_view y) → one ≡ ls → Gives phrase_view second (formula_from b (settled d one [] b)) → two ≡ one → Gives phrase_view other (formula_from c (settled d two [] c))
      → Gives settled_view result (else_built (phrase_view y) p (seen phrase_view second) (seen phrase_view other)) → Gives settled_view result (settled d ls [] (implies_else a p b c))
  else_whole a b c p y one two second other head same is again are built =
      let now : two ≡ ls = again ∙ same in
      let after : Result PhraseTree TypeFault = formula_from b (settled d one [] b) in
      let last : Result PhraseTree TypeFault = formula_from c (settled d two [] c) in
      moved (else_built (phrase_view y) p after last) (settled d ls [] (implies_else a p b c))
      ((λ j. else_built (phrase_view y) p (formula_from b (settled d (same j) [] b)) (formula_from c (settled d (now j) [] c)))
      ∙ ap (λ r. r >>= λ (u : PhraseTree). else_built u p (formula_from b (settled d ls [] b)) (formula_from c (settled d ls [] c))) (sym head))
      (gives_behind phrase_view settled_view after (λ u v. Ok (record { tree = implies_else (phrase_view y) p u v; kind = formula })) other last result are
      (gives_by_answer phrase_view settled_view (λ r. else_built (phrase_view y) p r (seen phrase_view other)) refl second after result is built))

  module _ (s : AreSameTypes (types_in d) (types_in d)) (asked : Bool) (new : List Local) (p : Place) (x : PhraseTree) (inner : Result Phrase TypeFault) where
    pub quantified_whole : (q : Quantifier) (ds : DomainTrees) (es : Vec Domain Global) → Asks (shared_in_domains ds || shared_in x) asked
        → (behind : List Local) × (domains_settled true d ls ds ≡ Ok (domains_seen es, behind)) × AreAlikeWhere asked new behind → Gives phrase_view inner (formula_from x (settled d new [] x))
        → Gives settled_view result (quantified_built q p (domains_seen es) (seen phrase_view inner)) → Gives settled_view result (settled d ls [] (quantified q p ds x))
    quantified_whole q ds es asks are is built =
        moved (quantified_built q p (domains_seen es) (formula_from x (settled d new [] x))) (settled d ls [] (quantified q p ds x))
        (sym (inside d ls asked s new are.0 are.2 [] x q p ds (domains_seen es) asks are.1))
        (gives_by_answer phrase_view settled_view (quantified_built q p (domains_seen es)) refl inner (formula_from x (settled d new [] x)) result is built)

    pub let_whole : (xs : PhraseTrees) (ys : Vec Phrase Global) → Asks (shared_among xs || shared_in x) asked
        → (behind : List Local) × (values_settled d ls xs ≡ Ok (phrases_seen ys, behind)) × AreAlikeWhere asked new behind → Gives phrase_view inner (formula_from x (settled d new [] x))
        → Gives settled_view result (let_built p (phrases_seen ys) (seen phrase_view inner)) → Gives settled_view result (settled d ls [] (bound_by_let p xs x))
    let_whole xs ys asks are is built =
        moved (let_built p (phrases_seen ys) (formula_from x (settled d new [] x))) (settled d ls [] (bound_by_let p xs x))
        (sym (let_inside d ls asked s new are.0 are.2 [] x p xs (phrases_seen ys) asks are.1))
        (gives_by_answer phrase_view settled_view (let_built p (phrases_seen ys)) refl inner (formula_from x (settled d new [] x)) result is built)

-- ---- links and steps

module _ (d : Declared) (ls : List Local) (left : Place) (k : sorts.Kind) (a : Lists) where
  module _ (l : Link) (result : Result (Link × Kind) TypeFault) where
    abbrev tree_of : LinkTree
    tree_of = record { operator = l.operator; place = l.place; operand = phrase_view l.operand }

    by_tree : (b : Bool) (whole : LinkTree → Result Linked TypeFault) → is_connective l.operator ≡ b → whole tree_of ≡ (if b then connected d ls left k tree_of else combined d ls left k a tree_of)
        → Gives linked_view result (whole tree_of) → Gives linked_view result (link_settled d ls left k a (link_view l))
    by_tree b whole test is gives =
        subst (λ (t : LinkTree). Gives linked_view result (link_settled d ls left k a t)) (sym (link_seen l))
        (subst (λ (r : Result Linked TypeFault). Gives linked_view result r) (is ∙ ap (λ (c : Bool). if c then connected d ls left k tree_of else combined d ls left k a tree_of) (sym test)) gives)

    pub connected_whole : (operand : Result Phrase TypeFault) → is_connective l.operator ≡ true → Gives phrase_view operand (formula_from (phrase_view l.operand) (settled d ls [] (phrase_view l.operand)))
        → Gives linked_view result (connected_built left k (link_view l) (seen phrase_view operand)) → Gives linked_view result (link_settled d ls left k a (link_view l))
    connected_whole operand test is built =
        by_tree true (λ t. connected d ls left k t) test refl
        (gives_behind phrase_view linked_view (as_formula left k) (λ may y. Ok (record { link = record { operator = l.operator; place = l.place; operand = y }; kind = formula }))
        operand (formula_from (phrase_view l.operand) (settled d ls [] (phrase_view l.operand))) result is
        (subst (λ (t : LinkTree). Gives linked_view result (connected_built left k t (seen phrase_view operand))) (link_seen l) built))

    pub combined_whole : (operand : Result (Phrase × Kind) TypeFault) → is_connective l.operator ≡ false → Gives settled_view operand (settled d ls (tops_behind l.operator a) (phrase_view l.operand))
        → Gives linked_view result (combined_built left k (link_view l) (seen settled_view operand)) → Gives linked_view result (link_settled d ls left k a (link_view l))
    combined_whole operand test is built =
        let begins = first_place (phrase_view l.operand) in
        by_tree false (λ t. combined d ls left k a t) test refl
        (gives_behind settled_view linked_view (as_relation left k)
        (λ m y. as_relation begins y.kind >>= λ n. operator_arity l.operator l.place left begins m n >>= λ r. Ok (record { link = record { operator = l.operator; place = l.place; operand = y.tree }; kind = relation r }))
        operand (settled d ls (tops_behind l.operator a) (phrase_view l.operand)) result is
        (subst (λ (t : LinkTree). Gives linked_view result (combined_built left k t (seen settled_view operand))) (link_seen l) built))

  module _ (s : Step) (result : Result (Step × Kind) TypeFault) (p : Place) where
    pub join_whole : (x : Phrase) (second made : Result (Phrase × Kind) TypeFault) → s ≡ Join p x → Gives settled_view second (settled d ls (ends_of a) (phrase_view x))
        → Gives settled_view made (join_built left k p (phrase_view x) (seen settled_view second)) → Gives stepped_view result (join_step p (seen settled_view made))
        → Gives stepped_view result (step_settled d ls left k a (step_view s))
    join_whole x second made is are built put =
        let begins = first_place (phrase_view x) in
        subst (λ (t : StepTree). Gives stepped_view result (step_settled d ls left k a t)) (sym (ap step_view is ∙ join_seen p x))
        (gives_by_answer settled_view stepped_view (join_step p) refl made (join_settled d ls left k a p (phrase_view x)) result
        (gives_behind settled_view settled_view (as_relation left k) (λ m y. as_relation begins y.kind >>= λ n. joined_arity p m n >>= λ r. Ok (record { tree = y.tree; kind = relation r }))
        second (settled d ls (ends_of a) (phrase_view x)) made are built) put)

    pub brackets_whole : (xs : Vec Phrase Global) (ys : List Phrase) (others : Result Arguments TypeFault) (made : Result (Vec Phrase Global × Kind) TypeFault) → s ≡ Brackets p xs → ys ≡ xs.items
        → Gives arguments_view others (arguments_settled d ls (phrases_view ys)) → Gives bracketed_view made (brackets_built left k p (seen arguments_view others)) → Gives stepped_view result (brackets_step p (seen bracketed_view made))
        → Gives stepped_view result (step_settled d ls left k a (step_view s))
    brackets_whole xs ys others made is same are built put =
        subst (λ (t : StepTree). Gives stepped_view result (step_settled d ls left k a t)) (ap (λ (zs : List Phrase). in_brackets p (map phrase_view zs)) same ∙ sym (ap step_view is ∙ brackets_seen p xs))
        (gives_by_answer bracketed_view stepped_view (brackets_step p) refl made (brackets_settled d ls left k p (phrases_view ys)) result
        (gives_behind arguments_view bracketed_view (as_relation left k) (λ m zs. brackets_arity p m (map (λ n. n.0) zs.arities) >>= λ r. Ok (zs.trees, relation r))
        others (arguments_settled d ls (phrases_view ys)) made are built) put)
