-- A call of an ordering's function or predicate becomes what its name stands for.
use Rattle.std.specs.Prelude.{codes, if◌then◌else◌}
use Rattle.std.proofs.Common.{◌≡◌, inl, inr, ℕ, suc, ◌+◌, ◌-◌, true, false, List, [], ◌∷◌, length, Some, None, Ok, Contains, refl, sym, ◌∙◌, ap, subst, arith}
use Rattle.rel_formula.proofs.OneSetOfAtoms.{only_one}
use Rattle.rel_formula.proofs.OpenCells.{cons_cases}
use Rattle.rel_formula.specs.Kernel.{ExpressionTree, within, equal, conjunction, disjunction, join, closure, transpose, formulas_of}
use Rattle.alloy_lex.specs.Fronts.{slash}
use Rattle.alloy_lex.specs.declared.token.Place.{Place}
use Rattle.alloy_syntax.specs.declared.tree.Prefix.TheVariants as prefix
use Rattle.alloy_syntax.specs.declared.tree.Operator.TheVariants as operator
use Rattle.alloy_syntax.specs.declared.tree.Comparison.TheVariants as comparison
use Rattle.alloy_syntax.specs.declared.tree.Open.{Open}
use Rattle.alloy_syntax.specs.Tree.{ModelTree, DeclarationTree, Tree, declarations_of}
use Rattle.named_model.specs.declared.phrase.Referent.TheVariants as referent
use Rattle.named_model.specs.Phrase.{PhraseTree, refers, called, prefixed, chain, path, compared, PhraseTrees, no_phrases, more_phrases, no_links, more_links, no_steps, join_first, brackets_first}
use Rattle.named_model.specs.Model.{NamedTree}
use Rattle.named_model.specs.Names.{Globals, callee_names, named_as, takes, phrases_count, path_of, with_steps, standing_of, resolved, declarations_resolved}
use Rattle.named_model.specs.Declarations.{globals_of, number_in, parameters_of, named_of}
use Rattle.model_types.specs.Typing.{Declared}
use Rattle.model_types.specs.Models.{declared_in, or_same, callee_settled}
use Rattle.std.proofs.lemmas.List.{length-map}
use Rattle.lowering_rules.specs.Shifted.{shifted}
use Rattle.lowering_rules.specs.Parts.{relation, formula, expression_in, formula_in}
use Rattle.lowering_rules.specs.Binders.{arguments}
use Rattle.lowering_rules.specs.Lowering.{lowered, formulas_lowered, body_lowered, calls_within, base_within}
use Rattle.lowering_rules.proofs.Arities.{get_map}
use Rattle.order_lib.specs.Library as library
use Rattle.order_lib.specs.Library.{own}
use Rattle.order_lib.specs.Faults.{first_fault}
use Rattle.order_lib.specs.Expanded.{with_orderings, expanded}
use Rattle.lowering_laws.specs.Orders.{Ordering, first_atom, last_atom, neighbours, all_behind, all_before, is_less, is_greater, or_equal}
use Rattle.lowering_laws.specs.OrderingTexts.{HasPlainNames, model_of, relations_of}
use Rattle.lowering_laws.specs.OrderingCalls.{CallsBecome}
use Rattle.lowering_laws.proofs.Orderings.Lines.{none_in}
use Rattle.lowering_laws.proofs.Orderings.Settled.{StaysSo, signature_stays, local_stays, prefixed_stays, compared_stays, none_stay, more_stay}
use Rattle.lowering_laws.proofs.Orderings.Meanings.{minus_stays, or_stays_so, no_arguments_stay, more_arguments_stay, called_stays, value_becomes, formulas_become, as_it_is}
use Rattle.lowering_laws.proofs.Orderings.Declared.{IsWord, expanded_cases, no_slash}
use Rattle.lowering_laws.proofs.Orderings.Named.{ArePlain, IsCallee, own_stands, signature_stands, first_stands, next_stands, callee_stands}
use Rattle.lowering_laws.proofs.Orderings.Facts.{Stand, field_phrase, field_phrase_stays, joined_stays, first_resolved, next_resolved}
use Rattle.lowering_laws.proofs.Orderings.Callees.{Row, rows, function_row, predicate_row, callee_number, callee_at, header_is, many}

-- local names of an ordering's paragraphs have no slash
pub no_names : ArePlain []
no_names l c d = none_in l c

pub one_name : (n : List ℕ) → IsWord n → ArePlain (n ∷ [])
one_name n word l c d = no_slash n word (subst (λ z. Contains z slash) (sym (only_one n l c)) d)

pub two_names : (n m : List ℕ) → IsWord n → IsWord m → ArePlain (n ∷ m ∷ [])
two_names n m first second l c d = elim (cons_cases n (m ∷ []) l c) [
  | inl same ↦ no_slash n first (subst (λ z. Contains z slash) (sym same) d)
  | inr later ↦ one_name m second l later d
]

module _ (t : ModelTree) (plain : HasPlainNames t) (fine : first_fault t.paragraphs t.opens ≡ None) (o : Open) (is : Contains t.opens o) where
  abbrev e : ModelTree
  e = with_orderings t

  abbrev g : Globals
  g = globals_of e.paragraphs

  abbrev named : NamedTree
  named = named_of e

  abbrev m : NamedTree
  m = model_of e

  abbrev d : Declared
  d = declared_in named

  abbrev r : Ordering
  r = relations_of e o

  abbrev p : Place
  p = o.alias.place

  abbrev i : ℕ
  i = number_in g.fields (own o (codes "First"))

  abbrev j : ℕ
  j = number_in g.fields (own o (codes "Next"))

  abbrev callee : List ℕ → ℕ
  callee w = number_in (callee_names g) (own o w)

  abbrev first_phrase : PhraseTree
  first_phrase = field_phrase p r.signature r.own i

  abbrev next_phrase : PhraseTree
  next_phrase = field_phrase p r.signature r.own j

  abbrev signature : PhraseTree
  signature = refers p (referent.Signature r.signature)

  abbrev variable : ℕ → PhraseTree
  variable k = refers p (referent.Local k)

  abbrev back_phrase : PhraseTree
  back_phrase = prefixed prefix.Transpose p next_phrase

  first_stays : StaysSo d first_phrase
  first_stays = field_phrase_stays p r.signature r.own d i

  next_stays : StaysSo d next_phrase
  next_stays = field_phrase_stays p r.signature r.own d j

  back_stays : StaysSo d back_phrase
  back_stays = prefixed_stays d prefix.Transpose p next_phrase next_stays

  pub stands : (locals : List (List ℕ)) → ArePlain locals → Stand g o r.signature r.own i j locals
  stands locals none = record { own_is = own_stands t plain fine o is locals none; first_is = first_stands t plain fine o is locals none; next_is = next_stands t plain fine o is locals none }

  pub first_is : (locals : List (List ℕ)) → ArePlain locals → resolved g locals (library.first_atom o) ≡ first_phrase
  first_is locals none = first_resolved g o r.signature r.own i j locals (stands locals none)

  pub next_is : (locals : List (List ℕ)) → ArePlain locals → resolved g locals (library.neighbours o) ≡ next_phrase
  next_is locals none = next_resolved g o r.signature r.own i j locals (stands locals none)

  pub back_is : (locals : List (List ℕ)) → ArePlain locals → resolved g locals (library.reversed o) ≡ back_phrase
  back_is locals none = ap (prefixed prefix.Transpose p) (next_is locals none)

  pub signature_is : resolved g [] (library.all_atoms o) ≡ signature
  signature_is = ap (named_as p) (signature_stands t plain fine o is)

  -- ---- a call, one level

  unfolded : (row : Row) → Contains (rows g o) row → (k b : ℕ) (es : List ExpressionTree) →
      calls_within (suc k) m (callee row.0) b es ≡ body_lowered (base_within k m) b es (Some (or_same (callee_settled d) row.1.1))
  unfolded row there k b es =
      ap (body_lowered (base_within k m) b es) (get_map (or_same (callee_settled d)) named.callees (callee row.0) row.1.1 (callee_at t plain fine o is row there))

  -- a function whose body is that phrase
  function_becomes : (w : List ℕ) (ds : List DeclarationTree) (range body : Tree) (x : PhraseTree) → Contains (rows g o) (function_row g o w ds range body) → resolved g (parameters_of ds) body ≡ x → StaysSo d x →
      (k b : ℕ) (es : List ExpressionTree) → calls_within (suc k) m (callee w) b es ≡ lowered (base_within k m) (arguments b es) b x
  function_becomes w ds range body x there is-x stays k b es =
      let whole = resolved g (parameters_of ds) range in
      let parameters = declarations_resolved g [] (declarations_of ds) in
      let stay = subst (StaysSo d) (sym is-x) stays in
      unfolded (function_row g o w ds range body) there k b es
      ∙ value_becomes d p parameters (base_within k m) (arguments b es) b whole (resolved g (parameters_of ds) body) stay
      ∙ ap (lowered (base_within k m) (arguments b es) b) is-x

  -- a predicate whose block is that phrase
  predicate_becomes : (w : List ℕ) (body : Tree) (x : PhraseTree) → Contains (rows g o) (predicate_row g o w body) → resolved g (parameters_of (library.two_atoms o)) body ≡ x → StaysSo d x →
      (k b : ℕ) (es : List ExpressionTree) → calls_within (suc k) m (callee w) b es ≡ formula (conjunction (formulas_lowered (base_within k m) (arguments b es) b (more_phrases x no_phrases)))
  predicate_becomes w body x there is-x stays k b es =
      let parameters = declarations_resolved g [] (declarations_of (library.two_atoms o)) in
      let y = resolved g (parameters_of (library.two_atoms o)) body in
      let stay = subst (StaysSo d) (sym is-x) stays in
      unfolded (predicate_row g o w body) there k b es
      ∙ formulas_become d p parameters (base_within k m) (arguments b es) b (more_phrases y no_phrases) (more_stay d y no_phrases stay (none_stay d))
      ∙ ap (λ z. formula (conjunction (formulas_lowered (base_within k m) (arguments b es) b (more_phrases z no_phrases)))) is-x

  -- ---- functions without parameters

  first_becomes : (k b : ℕ) → calls_within (suc k) m (callee (codes "first")) b [] ≡ relation (first_atom r)
  first_becomes k b = function_becomes (codes "first") [] (library.all_atoms o) (library.first_atom o) first_phrase (0, omega arith, refl) (first_is [] no_names) first_stays k b []

  next_becomes : (k b : ℕ) → calls_within (suc k) m (callee (codes "next")) b [] ≡ relation (neighbours r)
  next_becomes k b = function_becomes (codes "next") [] (library.all_pairs o) (library.neighbours o) next_phrase (1, omega arith, refl) (next_is [] no_names) next_stays k b []

  prev_becomes : (k b : ℕ) → calls_within (suc k) m (callee (codes "prev")) b [] ≡ relation (transpose (neighbours r))
  prev_becomes k b = function_becomes (codes "prev") [] (library.all_pairs o) (library.reversed o) back_phrase (2, omega arith, refl) (back_is [] no_names) back_stays k b []

  abbrev pub followed_phrase : PhraseTree
  followed_phrase = path next_phrase (join_first p signature no_steps)

  abbrev pub last_phrase : PhraseTree
  last_phrase = chain signature (more_links operator.Minus p followed_phrase no_links)

  pub last_is : resolved g [] (library.between o (library.all_atoms o) operator.Minus (library.followed o)) ≡ last_phrase
  last_is = let next = next_is [] no_names in λ k. chain (signature_is k) (more_links operator.Minus p (with_steps g (next k) (join_first p (signature_is k) no_steps)) no_links)

  last_becomes : (k b : ℕ) → calls_within (suc k) m (callee (codes "last")) b [] ≡ relation (last_atom r)
  last_becomes k b =
      let stays = minus_stays d signature p followed_phrase (signature_stays d p r.signature) (joined_stays p r.signature r.own d next_phrase signature next_stays (signature_stays d p r.signature)) in
      function_becomes (codes "last") [] (library.all_atoms o) (library.between o (library.all_atoms o) operator.Minus (library.followed o)) last_phrase (3, omega arith, refl) last_is stays k b []

  -- ---- functions of one atom

  abbrev pub reached_phrase : PhraseTree → PhraseTree
  reached_phrase x = path (variable 0) (join_first p (prefixed prefix.Closure p x) no_steps)

  pub reached_is : (f : Tree) (x : PhraseTree) → resolved g (codes "e" ∷ []) f ≡ x → resolved g (codes "e" ∷ []) (library.reached o f) ≡ reached_phrase x
  reached_is f x same = λ k. path (variable 0) (join_first p (prefixed prefix.Closure p (same k)) no_steps)

  reached_stays : (x : PhraseTree) → StaysSo d x → StaysSo d (reached_phrase x)
  reached_stays x stays = joined_stays p r.signature r.own d (variable 0) (prefixed prefix.Closure p x) (local_stays d p 0) (prefixed_stays d prefix.Closure p x stays)

  nexts_becomes : (k b : ℕ) (x : ExpressionTree) → calls_within (suc k) m (callee (codes "nexts")) b (x ∷ []) ≡ relation (all_behind r x)
  nexts_becomes k b x =
      function_becomes (codes "nexts") (library.one_atom o) (library.all_atoms o) (library.reached o (library.neighbours o)) (reached_phrase next_phrase) (4, omega arith, refl)
      (reached_is (library.neighbours o) next_phrase (next_is (codes "e" ∷ []) (one_name (codes "e") refl))) (reached_stays next_phrase next_stays) k b (x ∷ [])
      ∙ ap (λ y. relation (join y (closure (neighbours r)))) (as_it_is b x)

  prevs_becomes : (k b : ℕ) (x : ExpressionTree) → calls_within (suc k) m (callee (codes "prevs")) b (x ∷ []) ≡ relation (all_before r x)
  prevs_becomes k b x =
      function_becomes (codes "prevs") (library.one_atom o) (library.all_atoms o) (library.reached o (library.reversed o)) (reached_phrase back_phrase) (5, omega arith, refl)
      (reached_is (library.reversed o) back_phrase (back_is (codes "e" ∷ []) (one_name (codes "e") refl))) (reached_stays back_phrase back_stays) k b (x ∷ [])
      ∙ ap (λ y. relation (join y (closure (transpose (neighbours r))))) (as_it_is b x)

  -- ---- predicates

  abbrev ab : List (List ℕ)
  ab = codes "b" ∷ codes "a" ∷ []

  ab_plain : ArePlain ab
  ab_plain = two_names (codes "b") (codes "a") refl refl

  -- a call of this row's, behind the parameters
  called_is : (row : Row) → Contains (rows g o) row → IsCallee row.0 → (xs : PhraseTrees) → takes row.1.0 (phrases_count xs) ≡ true →
      with_steps g (named_as p (standing_of g ab (own o row.0).text)) (brackets_first p xs no_steps) ≡ called p (callee row.0) xs
  called_is row there word xs own-brackets =
      let stand = callee_stands t plain fine o is ab ab_plain row.0 word (callee row.0) (callee_number t plain fine o is row there) in
      let head = header_is t plain fine o is row there in
      let plain-call = path (called p (callee row.0) no_phrases) (brackets_first p xs no_steps) in
      ap (λ s. with_steps g (named_as p s) (brackets_first p xs no_steps)) stand
      ∙ ap (λ h. if takes h (phrases_count xs) then path_of (called p (callee row.0) xs) no_steps else plain-call) head
      ∙ ap (λ test. if test then path_of (called p (callee row.0) xs) no_steps else plain-call) own-brackets

  abbrev one_argument : PhraseTrees
  one_argument = more_phrases (variable 0) no_phrases

  abbrev both_arguments : PhraseTrees
  both_arguments = more_phrases (variable 1) (more_phrases (variable 0) no_phrases)

  abbrev pub in_phrase : ℕ → PhraseTree
  in_phrase n = compared (variable 1) (record { comparison = comparison.In; negated = false; place = p }) (called p n one_argument)

  in_stays : (n : ℕ) → StaysSo d (in_phrase n)
  in_stays n =
      compared_stays d (variable 1) (record { comparison = comparison.In; negated = false; place = p }) (called p n one_argument) (local_stays d p 1)
      (called_stays d p n one_argument (more_arguments_stay d (variable 0) no_phrases (local_stays d p 0) (no_arguments_stay d)))

  pub in_is : (row : Row) → Contains (rows g o) row → IsCallee row.0 → takes row.1.0 1 ≡ true → resolved g ab (library.is_in o row.0) ≡ in_phrase (callee row.0)
  in_is row there word own-brackets =
      let call = called_is row there word one_argument own-brackets in
      λ k. compared (variable 1) (record { comparison = comparison.In; negated = false; place = p }) (call k)

  abbrev pub or_phrase : ℕ → PhraseTree
  or_phrase n = chain (compared (variable 1) (record { comparison = comparison.Equal; negated = false; place = p }) (variable 0)) (more_links operator.Or p (called p n both_arguments) no_links)

  or_stays : (n : ℕ) → StaysSo d (or_phrase n)
  or_stays n =
      or_stays_so d (compared (variable 1) (record { comparison = comparison.Equal; negated = false; place = p }) (variable 0)) p (called p n both_arguments)
      (compared_stays d (variable 1) (record { comparison = comparison.Equal; negated = false; place = p }) (variable 0) (local_stays d p 1) (local_stays d p 0))
      (called_stays d p n both_arguments (more_arguments_stay d (variable 1) one_argument (local_stays d p 1) (more_arguments_stay d (variable 0) no_phrases (local_stays d p 0) (no_arguments_stay d))))

  pub or_is : (row : Row) → Contains (rows g o) row → IsCallee row.0 → takes row.1.0 2 ≡ true → resolved g ab (library.or_equal o row.0) ≡ or_phrase (callee row.0)
  or_is row there word own-brackets =
      let call = called_is row there word both_arguments own-brackets in
      λ k. chain (compared (variable 1) (record { comparison = comparison.Equal; negated = false; place = p }) (variable 0)) (more_links operator.Or p (call k) no_links)

  abbrev prevs_row : Row
  prevs_row = function_row g o (codes "prevs") (library.one_atom o) (library.all_atoms o) (library.reached o (library.reversed o))

  abbrev nexts_row : Row
  nexts_row = function_row g o (codes "nexts") (library.one_atom o) (library.all_atoms o) (library.reached o (library.neighbours o))

  abbrev lt_row : Row
  lt_row = predicate_row g o (codes "lt") (library.is_in o (codes "prevs"))

  abbrev gt_row : Row
  gt_row = predicate_row g o (codes "gt") (library.is_in o (codes "nexts"))

  lt_becomes : (k b : ℕ) (x y : ExpressionTree) → calls_within (suc (suc k)) m (callee (codes "lt")) b (x ∷ y ∷ []) ≡ formula (is_less r x y)
  lt_becomes k b x y =
      let inner : calls_within (suc k) m (callee (codes "prevs")) b (shifted (b - b) y ∷ []) ≡ relation (all_before r y) =
      ap (λ z. calls_within (suc k) m (callee (codes "prevs")) b (z ∷ [])) (as_it_is b y) ∙ prevs_becomes k b y in
      predicate_becomes (codes "lt") (library.is_in o (codes "prevs")) (in_phrase (callee (codes "prevs"))) (6, omega arith, refl)
      (in_is prevs_row (5, omega arith, refl) (record { word = refl; not_own = refl; not_first = refl; not_next = refl }) refl) (in_stays (callee (codes "prevs"))) (suc k) b (x ∷ y ∷ [])
      ∙ (λ l. formula (conjunction (formulas_of (within (as_it_is b x l) (expression_in (inner l)) ∷ []))))

  gt_becomes : (k b : ℕ) (x y : ExpressionTree) → calls_within (suc (suc k)) m (callee (codes "gt")) b (x ∷ y ∷ []) ≡ formula (is_greater r x y)
  gt_becomes k b x y =
      let inner : calls_within (suc k) m (callee (codes "nexts")) b (shifted (b - b) y ∷ []) ≡ relation (all_behind r y) =
      ap (λ z. calls_within (suc k) m (callee (codes "nexts")) b (z ∷ [])) (as_it_is b y) ∙ nexts_becomes k b y in
      predicate_becomes (codes "gt") (library.is_in o (codes "nexts")) (in_phrase (callee (codes "nexts"))) (7, omega arith, refl)
      (in_is nexts_row (4, omega arith, refl) (record { word = refl; not_own = refl; not_first = refl; not_next = refl }) refl) (in_stays (callee (codes "nexts"))) (suc k) b (x ∷ y ∷ [])
      ∙ (λ l. formula (conjunction (formulas_of (within (as_it_is b x l) (expression_in (inner l)) ∷ []))))

  lte_becomes : (k b : ℕ) (x y : ExpressionTree) → calls_within (suc (suc (suc k))) m (callee (codes "lte")) b (x ∷ y ∷ []) ≡ formula (or_equal x y (is_less r x y))
  lte_becomes k b x y =
      let inner : calls_within (suc (suc k)) m (callee (codes "lt")) b (shifted (b - b) x ∷ shifted (b - b) y ∷ []) ≡ formula (is_less r x y) =
      (λ l. calls_within (suc (suc k)) m (callee (codes "lt")) b (as_it_is b x l ∷ as_it_is b y l ∷ [])) ∙ lt_becomes k b x y in
      predicate_becomes (codes "lte") (library.or_equal o (codes "lt")) (or_phrase (callee (codes "lt"))) (8, omega arith, refl)
      (or_is lt_row (6, omega arith, refl) (record { word = refl; not_own = refl; not_first = refl; not_next = refl }) refl) (or_stays (callee (codes "lt"))) (suc (suc k)) b (x ∷ y ∷ [])
      ∙ (λ l. formula (conjunction (formulas_of (disjunction (formulas_of (equal (as_it_is b x l) (as_it_is b y l) ∷ formula_in (inner l) ∷ [])) ∷ []))))

  gte_becomes : (k b : ℕ) (x y : ExpressionTree) → calls_within (suc (suc (suc k))) m (callee (codes "gte")) b (x ∷ y ∷ []) ≡ formula (or_equal x y (is_greater r x y))
  gte_becomes k b x y =
      let inner : calls_within (suc (suc k)) m (callee (codes "gt")) b (shifted (b - b) x ∷ shifted (b - b) y ∷ []) ≡ formula (is_greater r x y) =
      (λ l. calls_within (suc (suc k)) m (callee (codes "gt")) b (as_it_is b x l ∷ as_it_is b y l ∷ [])) ∙ gt_becomes k b x y in
      predicate_becomes (codes "gte") (library.or_equal o (codes "gt")) (or_phrase (callee (codes "gt"))) (9, omega arith, refl)
      (or_is gt_row (7, omega arith, refl) (record { word = refl; not_own = refl; not_first = refl; not_next = refl }) refl) (or_stays (callee (codes "gt"))) (suc (suc k)) b (x ∷ y ∷ [])
      ∙ (λ l. formula (conjunction (formulas_of (disjunction (formulas_of (equal (as_it_is b x l) (as_it_is b y l) ∷ formula_in (inner l) ∷ [])) ∷ []))))

  -- ---- all of them; calls may be three deep, as there are ten of these alone

  fuel : (n : ℕ) × (length m.callees ≡ suc (suc (suc n)))
  fuel =
      let long = many t plain fine o is in
      let same = length-map named.callees (or_same (callee_settled d)) in
      let count = long.1 in
      (long.0 + 7, omega (arith, same, count))

  pub become : CallsBecome e o
  become = record {
    first = λ b. ap (λ f. calls_within f m (callee (codes "first")) b []) fuel.1 ∙ first_becomes (suc (suc fuel.0)) b;
    last = λ b. ap (λ f. calls_within f m (callee (codes "last")) b []) fuel.1 ∙ last_becomes (suc (suc fuel.0)) b;
    next = λ b. ap (λ f. calls_within f m (callee (codes "next")) b []) fuel.1 ∙ next_becomes (suc (suc fuel.0)) b;
    prev = λ b. ap (λ f. calls_within f m (callee (codes "prev")) b []) fuel.1 ∙ prev_becomes (suc (suc fuel.0)) b;
    nexts = λ b x. ap (λ f. calls_within f m (callee (codes "nexts")) b (x ∷ [])) fuel.1 ∙ nexts_becomes (suc (suc fuel.0)) b x;
    prevs = λ b x. ap (λ f. calls_within f m (callee (codes "prevs")) b (x ∷ [])) fuel.1 ∙ prevs_becomes (suc (suc fuel.0)) b x;
    lt = λ b x y. ap (λ f. calls_within f m (callee (codes "lt")) b (x ∷ y ∷ [])) fuel.1 ∙ lt_becomes (suc fuel.0) b x y;
    gt = λ b x y. ap (λ f. calls_within f m (callee (codes "gt")) b (x ∷ y ∷ [])) fuel.1 ∙ gt_becomes (suc fuel.0) b x y;
    lte = λ b x y. ap (λ f. calls_within f m (callee (codes "lte")) b (x ∷ y ∷ [])) fuel.1 ∙ lte_becomes fuel.0 b x y;
    gte = λ b x y. ap (λ f. calls_within f m (callee (codes "gte")) b (x ∷ y ∷ [])) fuel.1 ∙ gte_becomes fuel.0 b x y;
  }

pub calls_become : (t e : ModelTree) → HasPlainNames t → expanded t ≡ Ok e → (o : Open) → Contains t.opens o → CallsBecome e o
calls_become t e plain is o c = elim (expanded_cases t e is) [
  | inl (none, same) ↦ absurd (none_in o (subst (λ os. Contains os o) none c))
  | inr (fine, same) ↦ subst (λ z. CallsBecome z o) same (become t plain fine o c)
]
