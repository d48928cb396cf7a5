-- What spells a node is read as it: nodes of every form.
use Rattle.std.proofs.Common.{◌≡◌, ℕ, zero, suc, ◌≤◌, ◌<◌, inl, inr, Bool, true, false, ◌||◌, ◌&&◌, List, [], ◌∷◌, length, Ok, refl, sym, ap, subst, ◌∙◌, arith}
use Rattle.alloy_lex.specs.declared.token.Place.{Place}
use Rattle.alloy_syntax.specs.declared.class.Class.{Class}
use Rattle.alloy_syntax.specs.declared.class.Class.TheVariants as class
use Rattle.alloy_syntax.specs.declared.reading.Around.{Around}
use Rattle.alloy_syntax.specs.declared.reading.Around.TheVariants as around
use Rattle.alloy_syntax.specs.declared.tree.Prefix.TheVariants as prefix
use Rattle.alloy_syntax.specs.declared.tree.Operator.{Operator}
use Rattle.alloy_syntax.specs.declared.tree.Operator.TheVariants as operator
use Rattle.alloy_syntax.specs.declared.tree.Comparison.{Comparison}
use Rattle.alloy_syntax.specs.declared.tree.Comparison.TheVariants as comparison
use Rattle.alloy_syntax.specs.declared.parser_token.ParserToken.{ParserToken}
use Rattle.alloy_syntax.specs.Class.{is_class}
use Rattle.alloy_syntax.specs.Tree.{Tree, named, numbered, constant, bracketed, block, prefixed, chain, path, compared, implies, implies_else, quantified, bound_by_let, Trees, no_trees, more_trees, Links, no_links, more_links, LinkTree, Steps, no_steps, join_first, brackets_first, StepTree, joined, in_brackets, Declarations, no_declarations, more_declarations, DeclarationTree, Bindings, no_bindings, more_bindings, BindingTree, trees_of, links_of, steps_of, declarations_of, bindings_of}
use Rattle.alloy_syntax.specs.Readers.{next_is, after, colon_after_names}
use Rattle.alloy_syntax.specs.Nodes.{Reader, begins_link, is_counting, begins_declaration, in_brackets_too, within}
use Rattle.alloy_grammar.specs.Fronts.{nothing, sign, mark_of}
use Rattle.alloy_grammar.specs.Levels.{level_of_operator, level_of}
use Rattle.alloy_grammar.specs.Nodes.{class_of_operator, class_of_comparison, comparing_over, spells, spells_trees, spells_links, begins_operator, comma}
use Rattle.alloy_grammar.proofs.Results.{either, true_not_false}
use Rattle.alloy_grammar.proofs.Tokens.{marks}
use Rattle.alloy_grammar.proofs.NodesSpelled.{node_reads, iff_reads, implication_reads, and_reads, negation_reads, comparison_reads, counted_reads, sum_reads, size_reads, override_reads, meet_reads, arrows_reads, restrict_reads, path_reads, tight_reads, primary_reads}
use Rattle.alloy_grammar.proofs.Quantified.{within_reads}
use Rattle.alloy_grammar.proofs.FirstTokens.{rank, First, looser, first, never_first}
use Rattle.alloy_grammar.proofs.TextEnds.{after_is, differs, Ends, NoNames, tighter, continues, ends_at, names_end, parts_names, operator_parts, comparing_begins, then_name, goes_on_with_names, unfolds_names, names_go_on, formula_ends}
use Rattle.alloy_grammar.proofs.NodesReadBack.{reader, not_counting, climb, kind_of, kind_test}

-- ---- lists

unfoldable pub list_of : Trees → List Tree
list_of no_trees = []
list_of (more_trees x xs) = x ∷ list_of xs

pub trees_of_list : (xs : Trees) → trees_of (list_of xs) ≡ xs
unfolding list_of
trees_of_list no_trees = refl
trees_of_list (more_trees x xs) = ap (more_trees x) (trees_of_list xs)

unfoldable pub list_of_links : Links → List LinkTree
list_of_links no_links = []
list_of_links (more_links o p x ls) = record { operator = o; place = p; operand = x } ∷ list_of_links ls

pub links_of_list : (ls : Links) → links_of (list_of_links ls) ≡ ls
unfolding list_of_links
links_of_list no_links = refl
links_of_list (more_links o p x ls) = ap (more_links o p x) (links_of_list ls)

unfoldable pub list_of_steps : Steps → List StepTree
list_of_steps no_steps = []
list_of_steps (join_first p x ss) = joined p x ∷ list_of_steps ss
list_of_steps (brackets_first p xs ss) = in_brackets p (list_of xs) ∷ list_of_steps ss

pub steps_of_list : (ss : Steps) → steps_of (list_of_steps ss) ≡ ss
unfolding list_of_steps
steps_of_list no_steps = refl
steps_of_list (join_first p x ss) = ap (join_first p x) (steps_of_list ss)
steps_of_list (brackets_first p xs ss) = rw (trees_of_list xs, steps_of_list ss) refl

unfoldable pub list_of_declarations : Declarations → List DeclarationTree
list_of_declarations no_declarations = []
list_of_declarations (more_declarations d ns m x ds) = record { disjoint = d; names = ns; mark = m; domain = x } ∷ list_of_declarations ds

pub declarations_of_list : (ds : Declarations) → declarations_of (list_of_declarations ds) ≡ ds
unfolding list_of_declarations
declarations_of_list no_declarations = refl
declarations_of_list (more_declarations d ns m x ds) = ap (more_declarations d ns m x) (declarations_of_list ds)

unfoldable pub list_of_bindings : Bindings → List BindingTree
list_of_bindings no_bindings = []
list_of_bindings (more_bindings n x bs) = record { name = n; value = x } ∷ list_of_bindings bs

pub bindings_of_list : (bs : Bindings) → bindings_of (list_of_bindings bs) ≡ bs
unfolding list_of_bindings
bindings_of_list no_bindings = refl
bindings_of_list (more_bindings n x bs) = ap (more_bindings n x) (bindings_of_list bs)

-- ---- words that count

pub both_false : (a b : Bool) → (a || b) ≡ false → (a ≡ false) × (b ≡ false)
both_false true b e = true_not_false e
both_false false b e = (refl, e)

pub no_names_of : (a : Around) (ts : List ParserToken) → next_is class.Colon ts ≡ false → next_is class.Comma ts ≡ false → NoNames a ts
no_names_of around.Braces ts e f = (e, f)
no_names_of around.Brackets ts e f = (e, rw f refl)
no_names_of around.Parens ts e f = (e, f)

parts_no_names : (a : Around) (ts : List ParserToken) → parts_names ts ≡ false → NoNames a ts
parts_no_names a ts e =
    let both : (next_is class.Comma ts ≡ false) × (next_is class.Colon ts ≡ false) = both_false (next_is class.Comma ts) (next_is class.Colon ts) e in
    no_names_of a ts both.1 both.0

pub and_false : (b c : Bool) → c ≡ false → (b && c) ≡ false
and_false true c e = e
and_false false c e = refl

-- names with commas and a colon don't go on
names_stop : (ts : List ParserToken) → NoNames around.Brackets ts → goes_on_with_names ts ≡ false
names_stop ts n = rw (n.0, n.1) refl

parts_stop : (ts : List ParserToken) → next_is class.Colon ts ≡ false → next_is class.Comma ts ≡ false → parts_names ts ≡ false
parts_stop ts e f = rw (e, f) refl

-- no expression begins a declaration, where no names go on behind it
plain_names : (y : Tree) (ts rest : List ParserToken) → spells y ts rest → next_is class.Colon rest ≡ false → next_is class.Comma rest ≡ false → (next_is class.Name ts && (next_is class.Comma (after ts) || next_is class.Colon (after ts))) ≡ false
plain_names y ts rest s e f =
    elim (either (next_is class.Name ts)) [
      | inr none ↦ rw none refl
      | inl is ↦ elim (either (parts_names (after ts))) [
        | inr none ↦ and_false (next_is class.Name ts) (parts_names (after ts)) none
        | inl parts ↦ true_not_false (sym parts ∙ (ap parts_names (then_name y ts rest s is parts) ∙ parts_stop rest e f))
      ]
    ]

no_declaration : (y : Tree) (a : Around) (ts rest : List ParserToken) → spells y ts rest → NoNames a rest → begins_declaration a ts ≡ false
unfolding begins_declaration in_brackets_too rank
no_declaration y around.Braces ts rest s n = rw (never_first class.Disj refl (level_of y) ts (first y ts rest s), plain_names y ts rest s n.0 n.1) refl
no_declaration y around.Brackets ts rest s n =
    elim (either (colon_after_names ts)) [
      | inr none ↦ rw (never_first class.Disj refl (level_of y) ts (first y ts rest s), none) refl
      | inl is ↦ true_not_false (sym (names_go_on y ts rest s is) ∙ names_stop rest n)
    ]
no_declaration y around.Parens ts rest s n = rw (never_first class.Disj refl (level_of y) ts (first y ts rest s), plain_names y ts rest s n.0 n.1) refl

seven : (o : Operator) → 5 ≤ level_of_operator o → 7 ≤ level_of_operator o
seven operator.Or h = absurd (omega arith)
seven operator.Iff h = absurd (omega arith)
seven operator.And h = absurd (omega arith)
seven operator.Union h = omega arith
seven operator.Minus h = omega arith
seven operator.Override h = omega arith
seven operator.Meet h = omega arith
seven operator.Product h = omega arith
seven operator.Domain h = omega arith
seven operator.Range h = omega arith

abbrev Uncounted : Around → List ParserToken → Type 0
Uncounted a ts = (is_counting ts && begins_declaration a (after ts)) ≡ false

tight_front : (a : Around) (m : ℕ) (ts : List ParserToken) → 7 ≤ m → First m ts → Uncounted a ts
tight_front a m ts h f = rw (not_counting ts (looser 7 h f)) refl

word_front : (c : Class) (p : Place) (y : Tree) (a : Around) (ts us rest : List ParserToken) → sign c p ts us → spells y us rest → NoNames a rest → Uncounted a ts
word_front c p y a ts us rest s sp n =
    and_false (is_counting ts) (begins_declaration a (after ts)) (subst (λ vs. begins_declaration a vs ≡ false) (sym (after_is c ts us (marks c p ts us s))) (no_declaration y a us rest sp n))

-- a word that counts begins no quantifier, where the tree is none
uncounted : (x : Tree) (a : Around) (ts rest : List ParserToken) → spells x ts rest → 5 ≤ level_of x → NoNames a rest → Uncounted a ts
unfolding spells spells_links
uncounted (named n) a ts rest s h k = tight_front a 15 ts (omega arith) (first (named n) ts rest s)
uncounted (numbered n) a ts rest s h k = tight_front a 15 ts (omega arith) (first (numbered n) ts rest s)
uncounted (constant c p) a ts rest s h k = tight_front a 15 ts (omega arith) (first (constant c p) ts rest s)
uncounted (bracketed p x) a ts rest s h k = tight_front a 15 ts (omega arith) (first (bracketed p x) ts rest s)
uncounted (block p xs) a ts rest s h k = tight_front a 15 ts (omega arith) (first (block p xs) ts rest s)
uncounted (prefixed prefix.Not p y) a ts rest s h k = absurd (omega (arith, h))
uncounted (prefixed prefix.No p y) a ts rest s h k = word_front class.No p y a ts s.0 rest s.1 s.2.1 k
uncounted (prefixed prefix.Some p y) a ts rest s h k = word_front class.Some p y a ts s.0 rest s.1 s.2.1 k
uncounted (prefixed prefix.Lone p y) a ts rest s h k = word_front class.Lone p y a ts s.0 rest s.1 s.2.1 k
uncounted (prefixed prefix.One p y) a ts rest s h k = word_front class.One p y a ts s.0 rest s.1 s.2.1 k
uncounted (prefixed prefix.Size p y) a ts rest s h k = tight_front a 8 ts (omega arith) (first (prefixed prefix.Size p y) ts rest s)
uncounted (prefixed prefix.Transpose p y) a ts rest s h k = tight_front a 14 ts (omega arith) (first (prefixed prefix.Transpose p y) ts rest s)
uncounted (prefixed prefix.Closure p y) a ts rest s h k = tight_front a 14 ts (omega arith) (first (prefixed prefix.Closure p y) ts rest s)
uncounted (prefixed prefix.ReflexiveClosure p y) a ts rest s h k = tight_front a 14 ts (omega arith) (first (prefixed prefix.ReflexiveClosure p y) ts rest s)
uncounted (chain x no_links) a ts rest s h k = absurd (omega (arith, h))
uncounted (chain x (more_links o p y ls)) a ts rest s h k = tight_front a (level_of_operator o) ts (seven o h) (first (chain x (more_links o p y ls)) ts rest s)
uncounted (path x ss) a ts rest s h k = tight_front a 13 ts (omega arith) (first (path x ss) ts rest s)
uncounted (compared y c z) a ts rest s h k = uncounted y a ts s.0 s.1.1 (omega (arith, s.1.0)) (parts_no_names a s.0 (comparing_begins c.comparison c.negated c.place s.0 s.2.0 s.2.1))
uncounted (implies x p y) a ts rest s h k = absurd (omega (arith, h))
uncounted (implies_else x p y z) a ts rest s h k = absurd (omega (arith, h))
uncounted (quantified q p ds x) a ts rest s h k = absurd (omega (arith, h))
uncounted (bound_by_let p bs x) a ts rest s h k = absurd (omega (arith, h))

-- what is read at the tree's own level is read at a looser one
pub raise : (i : Reader) (x : Tree) (a : Around) (l : ℕ) (ts rest : List ParserToken) → spells x ts rest → l ≤ level_of x → Ends a l rest → reader i a (level_of x) ts ≡ Ok (x, rest) → reader i a l ts ≡ Ok (x, rest)
raise i x a l ts rest s less ends e = climb i a x ts rest (level_of x) l less (record { first = first x ts rest s; counted = λ h k. uncounted x a ts rest s k (ends.names h) }) ends e

-- ---- what is read is shorter

pub reader_short : (strict : Bool) (room : ℕ) (a : Around) (l : ℕ) (ts : List ParserToken) (x : Tree) (rest : List ParserToken) → reader (within strict room) a l ts ≡ Ok (x, rest) → length rest < length ts
reader_short strict room a zero ts x rest e = (node_reads strict room (within strict room) (within_reads strict room) a ts x rest e).0.shorter
reader_short strict room a (suc zero) ts x rest e = (iff_reads strict room (within strict room) (within_reads strict room) a ts x rest e).0.shorter
reader_short strict room a (suc (suc zero)) ts x rest e = (implication_reads strict room (within strict room) (within_reads strict room) a ts x rest e).0.shorter
reader_short strict room a (suc (suc (suc zero))) ts x rest e = (and_reads strict room (within strict room) (within_reads strict room) a ts x rest e).0.shorter
reader_short strict room a (suc (suc (suc (suc zero)))) ts x rest e = (negation_reads strict room (within strict room) (within_reads strict room) a ts x rest e).0.shorter
reader_short strict room a (suc (suc (suc (suc (suc zero))))) ts x rest e = (comparison_reads strict room (within strict room) (within_reads strict room) a ts x rest e).0.shorter
reader_short strict room a (suc (suc (suc (suc (suc (suc zero)))))) ts x rest e = (counted_reads strict room (within strict room) (within_reads strict room) a ts x rest e).0.shorter
reader_short strict room a (suc (suc (suc (suc (suc (suc (suc zero))))))) ts x rest e = (sum_reads strict room (within strict room) (within_reads strict room) a ts x rest e).0.shorter
reader_short strict room a (suc (suc (suc (suc (suc (suc (suc (suc zero)))))))) ts x rest e = (size_reads strict room (within strict room) (within_reads strict room) a ts x rest e).0.shorter
reader_short strict room a (suc (suc (suc (suc (suc (suc (suc (suc (suc zero))))))))) ts x rest e = (override_reads strict room (within strict room) (within_reads strict room) a ts x rest e).0.shorter
reader_short strict room a (suc (suc (suc (suc (suc (suc (suc (suc (suc (suc zero)))))))))) ts x rest e = (meet_reads strict room (within strict room) (within_reads strict room) a ts x rest e).0.shorter
reader_short strict room a (suc (suc (suc (suc (suc (suc (suc (suc (suc (suc (suc zero))))))))))) ts x rest e = (arrows_reads strict room (within strict room) (within_reads strict room) a ts x rest e).0.shorter
reader_short strict room a (suc (suc (suc (suc (suc (suc (suc (suc (suc (suc (suc (suc zero)))))))))))) ts x rest e = (restrict_reads strict room (within strict room) (within_reads strict room) a ts x rest e).0.shorter
reader_short strict room a (suc (suc (suc (suc (suc (suc (suc (suc (suc (suc (suc (suc (suc zero))))))))))))) ts x rest e = (path_reads strict room (within strict room) (within_reads strict room) a ts x rest e).0.shorter
reader_short strict room a (suc (suc (suc (suc (suc (suc (suc (suc (suc (suc (suc (suc (suc (suc zero)))))))))))))) ts x rest e = (tight_reads strict room (within strict room) (within_reads strict room) a ts x rest e).0.shorter
reader_short strict room a (suc (suc (suc (suc (suc (suc (suc (suc (suc (suc (suc (suc (suc (suc (suc n))))))))))))))) ts x rest e = (primary_reads strict room (within strict room) (within_reads strict room) ts x rest e).0.shorter

-- ---- what ends a part

-- a closing token, a word or a bar ends everything
pub closed : (a : Around) (c : Class) (l : ℕ) (ts rest : List ParserToken) → mark_of c ts rest → continues c ≡ 20 → is_class c class.Colon ≡ false → is_class c class.Comma ≡ false → Ends a l ts
closed a c l ts rest m none e f = ends_at a c l ts rest m (inr none) (λ _. names_end a c ts rest m e f)

pub operator_continues : (o : Operator) → continues (class_of_operator o) ≡ level_of_operator o
unfolding continues
operator_continues operator.Or = refl
operator_continues operator.Iff = refl
operator_continues operator.And = refl
operator_continues operator.Union = refl
operator_continues operator.Minus = refl
operator_continues operator.Override = refl
operator_continues operator.Meet = refl
operator_continues operator.Product = refl
operator_continues operator.Domain = refl
operator_continues operator.Range = refl

-- an operator ends an operand of its chain
pub operator_ends : (a : Around) (o : Operator) (p : Place) (ts rest : List ParserToken) → sign (class_of_operator o) p ts rest → Ends a (suc (level_of_operator o)) ts
operator_ends a o p ts rest s =
    let m = marks (class_of_operator o) p ts rest s in
    let k = operator_parts o in
    ends_at a (class_of_operator o) (suc (level_of_operator o)) ts rest m (inl (omega (arith, operator_continues o))) (λ _. names_end a (class_of_operator o) ts rest m k.1 k.0)

pub implies_ends : (a : Around) (p : Place) (ts rest : List ParserToken) → sign class.Implies p ts rest → Ends a 3 ts
unfolding continues is_class
implies_ends a p ts rest s = let m = marks class.Implies p ts rest s in ends_at a class.Implies 3 ts rest m (inl (omega arith)) (λ _. names_end a class.Implies ts rest m refl refl)

not_loose : (a : Around) (c : Class) (ts rest : List ParserToken) → mark_of c ts rest → continues c ≡ 5 → Ends a 6 ts
not_loose a c ts rest m five = ends_at a c 6 ts rest m (inl (omega (arith, five))) (λ h. absurd (omega (arith, h)))

comparison_five : (c : Comparison) → continues (class_of_comparison c) ≡ 5
unfolding continues
comparison_five comparison.In = refl
comparison_five comparison.Equal = refl
comparison_five comparison.Less = refl
comparison_five comparison.Greater = refl
comparison_five comparison.AtMost = refl
comparison_five comparison.AtLeast = refl

pub comparing_ends : (a : Around) (c : Comparison) (b : Bool) (p : Place) (ts rest : List ParserToken) → comparing_over c b p ts rest → Ends a 6 ts
unfolding continues
comparing_ends a c false p ts rest s = not_loose a (class_of_comparison c) ts rest (marks (class_of_comparison c) p ts rest s) (comparison_five c)
comparing_ends a comparison.In true p ts rest s = not_loose a class.Not ts s.0 (marks class.Not p ts s.0 s.1) refl
comparing_ends a comparison.Equal true p ts rest s = elim s [ inl t ↦ not_loose a class.Not ts t.0 (marks class.Not p ts t.0 t.1) refl | inr t ↦ not_loose a class.NotEqual ts rest (marks class.NotEqual p ts rest t) refl ]
comparing_ends a comparison.Less true p ts rest s = absurd s
comparing_ends a comparison.Greater true p ts rest s = absurd s
comparing_ends a comparison.AtMost true p ts rest s = absurd s
comparing_ends a comparison.AtLeast true p ts rest s = absurd s

-- anything ends what is as tight as a part of a path
pub tight_ends : (a : Around) (l : ℕ) (ts : List ParserToken) → 14 ≤ l → Ends a l ts
tight_ends a l ts h = record {
  disjunction = λ k. absurd (omega arith);
  iff = λ k. absurd (omega arith);
  implication = λ k. absurd (omega arith);
  conjunction = λ k. absurd (omega arith);
  names = λ k. absurd (omega arith);
  comparison = λ k. absurd (omega arith);
  sum = λ k. absurd (omega arith);
  override = λ k. absurd (omega arith);
  meet = λ k. absurd (omega arith);
  arrow = λ k. absurd (omega arith);
  restrict = λ k. absurd (omega arith);
  step = λ k. absurd (omega arith);
}

-- what ends a quantifier ends its body, where no operator of formulas follows
pub body_ends : (a : Around) (l : ℕ) (ts : List ParserToken) → l ≤ 4 → Ends a l ts → begins_operator ts ≡ false → Ends a 0 ts
unfolding begins_operator
body_ends a l ts h e none =
    let p = both_false (next_is class.Or ts) (next_is class.Iff ts || (next_is class.Implies ts || next_is class.And ts)) none in
    let q = both_false (next_is class.Iff ts) (next_is class.Implies ts || next_is class.And ts) p.1 in
    let r = both_false (next_is class.Implies ts) (next_is class.And ts) q.1 in
    record {
      disjunction = λ _. p.0;
      iff = λ _. q.0;
      implication = λ _. r.0;
      conjunction = λ _. r.1;
      names = λ _. e.names h;
      comparison = λ _. e.comparison (omega (arith, h));
      sum = λ _. e.sum (omega (arith, h));
      override = λ _. e.override (omega (arith, h));
      meet = λ _. e.meet (omega (arith, h));
      arrow = λ _. e.arrow (omega (arith, h));
      restrict = λ _. e.restrict (omega (arith, h));
      step = λ _. e.step (omega (arith, h));
    }

-- where a chain may end, no further operator of it follows
pub kind_ends : (a : Around) (o : Operator) (ts : List ParserToken) → Ends a (level_of_operator o) ts → kind_test (kind_of o) ts ≡ false
unfolding kind_of begins_link
kind_ends a operator.Or ts e = e.disjunction (omega arith)
kind_ends a operator.Iff ts e = e.iff (omega arith)
kind_ends a operator.And ts e = e.conjunction (omega arith)
kind_ends a operator.Union ts e = e.sum (omega arith)
kind_ends a operator.Minus ts e = e.sum (omega arith)
kind_ends a operator.Override ts e = e.override (omega arith)
kind_ends a operator.Meet ts e = e.meet (omega arith)
kind_ends a operator.Product ts e = e.arrow (omega arith)
kind_ends a operator.Domain ts e = e.restrict (omega arith)
kind_ends a operator.Range ts e = e.restrict (omega arith)

-- what ends a chain, or its next operator, ends an operand
pub links_end : (a : Around) (o : Operator) (ls : Links) (ts rest : List ParserToken) → spells_links (level_of_operator o) ls ts rest → Ends a (level_of_operator o) rest → Ends a (suc (level_of_operator o)) ts
unfolding spells_links
links_end a o no_links ts rest s e = subst (λ us. Ends a (suc (level_of_operator o)) us) (sym s) (tighter a (level_of_operator o) (suc (level_of_operator o)) rest (omega arith) e)
links_end a o (more_links n p x ls) ts rest s e = subst (λ l. Ends a (suc l) ts) s.1.0 (operator_ends a n p ts s.0 s.1.1)

-- ---- what ends a formula of a block, and an argument

pub block_ends : (xs : Trees) (ts rest vs : List ParserToken) → spells_trees nothing nothing xs ts rest → mark_of class.RightBrace rest vs → Ends around.Braces 0 ts
unfolding spells_trees continues is_class
block_ends no_trees ts rest vs s m = subst (λ us. Ends around.Braces 0 us) (sym s) (closed around.Braces class.RightBrace 0 rest vs m refl refl refl)
block_ends (more_trees x xs) ts rest vs s m = formula_ends x ts s.2.0 (subst (λ us. spells x us s.2.0) (sym s.1) s.2.1)

pub block_has_no_names : (xs : Trees) (ts rest vs : List ParserToken) → spells_trees nothing nothing xs ts rest → mark_of class.RightBrace rest vs → colon_after_names ts ≡ false
unfolding spells_trees is_class
block_has_no_names no_trees ts rest vs s m =
    elim (either (colon_after_names ts)) [
      | inr none ↦ none
      | inl is ↦ true_not_false (sym (unfolds_names ts is).0 ∙ (ap (next_is class.Name) s ∙ differs class.RightBrace class.Name rest vs m refl))
    ]
block_has_no_names (more_trees x xs) ts rest vs s m =
    elim (either (colon_after_names ts)) [
      | inr none ↦ none
      | inl is ↦ (
          let n = (block_ends xs s.2.0 rest vs s.2.2 m).names (omega arith) in
          true_not_false (sym (names_go_on x ts s.2.0 (subst (λ us. spells x us s.2.0) (sym s.1) s.2.1) is) ∙ rw (n.0, n.1) refl))
    ]

pub arguments_end : (xs : Trees) (ts rest vs : List ParserToken) → spells_trees comma comma xs ts rest → mark_of class.RightBracket rest vs → Ends around.Brackets 0 ts
unfolding spells_trees continues is_class
arguments_end no_trees ts rest vs s m = subst (λ us. Ends around.Brackets 0 us) (sym s) (closed around.Brackets class.RightBracket 0 rest vs m refl refl refl)
arguments_end (more_trees x xs) ts rest vs s m =
    let n = (arguments_end xs s.2.0 rest vs s.2.2 m).names (omega arith) in
    let same = after_is class.Comma ts s.0 s.1 in
    let none : colon_after_names (after ts) ≡ false = elim (either (colon_after_names (after ts))) [
      | inr none ↦ none
      | inl is ↦ true_not_false (sym (names_go_on x s.0 s.2.0 s.2.1 (subst (λ us. colon_after_names us ≡ true) same is)) ∙ names_stop s.2.0 n)
    ] in
    ends_at around.Brackets class.Comma 0 ts s.0 s.1 (inr refl) (λ _. (differs class.Comma class.Colon ts s.0 s.1 refl, and_false (next_is class.Comma ts) (colon_after_names (after ts)) none))
