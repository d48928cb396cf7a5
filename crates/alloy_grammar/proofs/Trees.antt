-- What spells a tree is read as it, where what stands behind ends it, and constructs nest within the limit.
use Rattle.std.proofs.Common.{◌≡◌, ℕ, zero, suc, ◌≤◌, ◌<◌, inl, inr, Bool, true, false, ◌&&◌, IsTrue, List, [], length, Ok, refl, sym, ap, subst, ◌∙◌, arith}
use Rattle.alloy_lex.specs.declared.token.Place.{Place}
use Rattle.alloy_syntax.specs.declared.class.Class.TheVariants as class
use Rattle.alloy_syntax.specs.declared.reading.Around.{Around}
use Rattle.alloy_syntax.specs.declared.reading.Around.TheVariants as around
use Rattle.alloy_syntax.specs.declared.reading.Inside.TheVariants as inside
use Rattle.alloy_syntax.specs.declared.tree.Operator.{Operator}
use Rattle.alloy_syntax.specs.declared.tree.Operator.TheVariants as operator
use Rattle.alloy_syntax.specs.declared.parser_token.ParserToken.{ParserToken}
use Rattle.alloy_syntax.specs.Class.{is_class}
use Rattle.alloy_syntax.specs.Tree.{Tree, named, numbered, constant, bracketed, block, prefixed, chain, path, compared, implies, implies_else, quantified, bound_by_let, Trees, no_trees, more_trees, Links, no_links, more_links, Steps, no_steps, join_first, brackets_first, in_brackets, Declarations, no_declarations, more_declarations, DeclarationTree, Bindings, no_bindings, more_bindings}
use Rattle.alloy_syntax.specs.Readers.{next_is, behind}
use Rattle.alloy_syntax.specs.Nodes.{Reader, is_inner, tight_over, path_over, arguments_over, begins_step, step_over, is_single, are_several, another_declaration, declarations_over, body_over, binding_over, let_over, inside_over, within}
use Rattle.alloy_grammar.specs.Fronts.{nothing, flag, mark_of, name, each}
use Rattle.alloy_grammar.specs.Levels.{level_of_operator, level_behind, level_of_links, level_of}
use Rattle.alloy_grammar.specs.Nodes.{spells, spells_trees, spells_links, spells_steps, spells_declarations, spells_bindings, begins_operator, comma, body, has_links, has_steps, has_declarations, has_bindings}
use Rattle.alloy_grammar.specs.Depths.{depth_of, depth_inside, depth_of_links, depth_of_steps, depth_of_declarations, depth_of_bindings}
use Rattle.alloy_grammar.specs.Forms.{IsPlain, ArePlain, ArePlainLinks, ArePlainSteps, ArePlainDeclarations, ArePlainBindings, binds_several}
use Rattle.alloy_grammar.proofs.Results.{true_not_false}
use Rattle.alloy_grammar.proofs.Tokens.{marks}
use Rattle.alloy_grammar.proofs.ReadTrees.{step_is_one}
use Rattle.alloy_grammar.proofs.NodesSpelled.{step_read}
use Rattle.alloy_grammar.proofs.Quantified.{within_reads, another_read}
use Rattle.alloy_grammar.proofs.FirstTokens.{rank, looser, first}
use Rattle.alloy_grammar.proofs.TextEnds.{is_next, after_is, differs, Ends, tighter, continues, ends_at}
use Rattle.alloy_grammar.proofs.NodesReadBack.{Goes, many_full, reader, named_full, path_named_full, numbered_full, constant_full, paren_full, brace_is_block, prefixed_full, kind_of, same_kind, kind_test, kind_link, operator_full, chain_full, compared_full}
use Rattle.alloy_grammar.proofs.Spelled.{list_of, list_of_links, links_of_list, list_of_steps, list_of_declarations, declarations_of_list, list_of_bindings, bindings_of_list, both_false, raise, reader_short, closed, operator_ends, implies_ends, comparing_ends, tight_ends, body_ends, kind_ends, links_end, block_ends, arguments_end}
use Rattle.alloy_grammar.proofs.Nodes.{inner_first, block_full, block_tree_full, prefix_tighter, part_is, implies_full, implies_else_full, path_full, join_full, brackets_full, no_arguments, some_arguments, quantifier_full, let_word_full, declarations_begin, declaration_full, another_full, declarations_full, body_bar_full, body_block_full, block_begins, block_level, quantified_full, binding_full, let_full}

-- ---- chains and paths, by their first link and step

first_operator : Links → Operator
first_operator no_links = operator.Or
first_operator (more_links o p y ls) = o

links_level : (ls : Links) → level_of_links ls ≡ level_of_operator (first_operator ls)
unfolding first_operator
links_level no_links = refl
links_level (more_links o p y ls) = refl

first_link_ends : (a : Around) (ls : Links) (ts rest : List ParserToken) → IsTrue (has_links ls) → spells_links (level_of_links ls) ls ts rest → Ends a (suc (level_of_links ls)) ts
unfolding spells_links
first_link_ends a no_links ts rest is s = true_not_false (sym is)
first_link_ends a (more_links o p y ls) ts rest is s = operator_ends a o p ts s.0 s.1.1

chain_read : (i : Reader) (a : Around) (x : Tree) (ls : Links) (ts us rest : List ParserToken) → IsTrue (has_links ls) → reader i a (suc (level_of_links ls)) ts ≡ Ok (x, us)
    → each (Goes (kind_test (kind_of (first_operator ls))) (kind_link i a (kind_of (first_operator ls)))) (list_of_links ls) us rest → Ends a (level_of_links ls) rest → reader i a (level_of_links ls) ts ≡ Ok (chain x ls, rest)
unfolding first_operator list_of_links
chain_read i a x no_links ts us rest is e p ends = true_not_false (sym is)
chain_read i a x (more_links o q y ls) ts us rest is e p ends =
    let ks = list_of_links (more_links o q y ls) in
    let more = many_full (kind_test (kind_of o)) (kind_link i a (kind_of o)) ks us rest p (kind_ends a o rest ends) in
    subst (λ ms. reader i a (level_of_operator o) ts ≡ Ok (chain x ms, rest)) (links_of_list (more_links o q y ls)) (chain_full i a o x ks ts us rest e p.1.0 more)

path_read : (i : Reader) (a : Around) (x : Tree) (ss : Steps) (ts us rest : List ParserToken) → IsTrue (has_steps ss) → tight_over i a ts ≡ Ok (x, us) → each (Goes begins_step (step_over i a)) (list_of_steps ss) us rest → begins_step rest ≡ false → path_over i a ts ≡ Ok (path x ss, rest)
unfolding list_of_steps
path_read i a x no_steps ts us rest is e p ends = true_not_false (sym is)
path_read i a x (join_first q y ss) ts us rest is e p ends = path_full i a x (join_first q y ss) ts us rest e p.1.0 (many_full begins_step (step_over i a) (list_of_steps (join_first q y ss)) us rest p ends)
path_read i a x (brackets_first q ys ss) ts us rest is e p ends = path_full i a x (brackets_first q ys ss) ts us rest e p.1.0 (many_full begins_step (step_over i a) (list_of_steps (brackets_first q ys ss)) us rest p ends)

-- ---- declarations and bindings

comma_ends : (ts us : List ParserToken) → mark_of class.Comma ts us → Ends around.Parens 7 ts
unfolding continues
comma_ends ts us m = ends_at around.Parens class.Comma 7 ts us m (inr refl) (λ h. absurd (omega (arith, h)))

declared_end : (ds : Declarations) (ts rest : List ParserToken) → spells_declarations comma ds ts rest → Ends around.Parens 7 rest → Ends around.Parens 7 ts
unfolding spells_declarations
declared_end no_declarations ts rest s e = subst (λ us. Ends around.Parens 7 us) (sym s) e
declared_end (more_declarations d ns m x ds) ts rest s e = comma_ends ts s.0 s.1

bound_end : (bs : Bindings) (ts rest : List ParserToken) → spells_bindings comma bs ts rest → Ends around.Parens 7 rest → Ends around.Parens 7 ts
unfolding spells_bindings
bound_end no_bindings ts rest s e = subst (λ us. Ends around.Parens 7 us) (sym s) e
bound_end (more_bindings n x bs) ts rest s e = comma_ends ts s.0 s.1

-- no declaration stands behind the one of a single variable
no_more : (i : Reader) (ds : Declarations) (ts rest : List ParserToken) → has_declarations ds ≡ false → spells_declarations comma ds ts rest → each (Goes (next_is class.Comma) (another_declaration i true)) (list_of_declarations ds) ts rest
unfolding spells_declarations list_of_declarations
no_more i no_declarations ts rest none s = s
no_more i (more_declarations d ns m x ds) ts rest none s = true_not_false none

-- what stands behind a body's part may end it
body_first : (a : Around) (x : Tree) (ts rest : List ParserToken) → body x (spells x) ts rest → Ends around.Parens 7 ts × (next_is class.Comma ts ≡ false)
unfolding continues is_class
body_first a x ts rest s =
    elim s [
      | inl t ↦ (closed around.Parens class.Bar 7 ts t.0 t.1 refl refl refl, differs class.Bar class.Comma ts t.0 t.1 refl)
      | inr t ↦ (let b = block_begins x ts rest t.0 t.1 in (closed around.Parens class.LeftBrace 7 ts b.0 b.1 refl refl refl, differs class.LeftBrace class.Comma ts b.0 b.1 refl))
    ]

-- what a strict reading of `lone` and `one` knows
strict_of : (strict single : Bool) → (strict && single) ≡ true → strict ≡ true
strict_of true single e = refl
strict_of false single e = e

single_of : (strict single : Bool) → (strict && single) ≡ true → single ≡ true
single_of true single e = e
single_of false single e = true_not_false (sym e)

few_of : (single several : Bool) → (single && several) ≡ false → single ≡ true → several ≡ false
few_of true several few is = few
few_of false several few is = true_not_false (sym is)

-- a step and a declaration are some tokens
step_short : (strict : Bool) (room : ℕ) (a : Around) (ts : List ParserToken) (p : Place) (ys : List Tree) (rest : List ParserToken) → step_over (within strict room) a ts ≡ Ok (in_brackets p ys, rest) → length rest < length ts
step_short strict room a ts p ys rest e = step_is_one strict room (in_brackets p ys) ts rest (step_read strict room (within strict room) (within_reads strict room) a ts (in_brackets p ys) rest e)

another_short : (strict : Bool) (room : ℕ) (ts : List ParserToken) (d : DeclarationTree) (rest : List ParserToken) → next_is class.Comma ts ≡ true → another_declaration (within strict room) false ts ≡ Ok (d, rest) → length rest < length ts
another_short strict room ts d rest goes e = (another_read strict room (within strict room) (within_reads strict room) false d ts rest (goes, e)).shorter

more_of : (strict : Bool) (room : ℕ) (single : Bool) (ds : Declarations) (ts rest : List ParserToken) → (single ≡ true → has_declarations ds ≡ false) → spells_declarations comma ds ts rest
    → each (Goes (next_is class.Comma) (another_declaration (within strict room) false)) (list_of_declarations ds) ts rest → each (Goes (next_is class.Comma) (another_declaration (within strict room) single)) (list_of_declarations ds) ts rest
more_of strict room true ds ts rest few s p = no_more (within strict room) ds ts rest (few refl) s
more_of strict room false ds ts rest few s p = p

-- a body is read, where its tree is
body_full : (i : Reader) (x : Tree) (a : Around) (ts rest : List ParserToken) → body x (spells x) ts rest → (begins_operator rest ≡ false → Ends a 0 rest)
    → ((l : ℕ) (us : List ParserToken) → spells x us rest → l ≤ level_of x → Ends a l rest → reader i a l us ≡ Ok (x, rest)) → body_over i a ts ≡ Ok (x, rest)
body_full i x a ts rest s ends reads =
    elim s [
      | inl t ↦ (
          let spelled : spells x t.0 rest = subst (λ us. spells x t.0 us) t.2.2.0 t.2.1 in
          body_bar_full i a x ts t.0 rest t.1 (reads 0 t.0 spelled (omega arith) (ends t.2.2.1)))
      | inr t ↦ (
          let b = block_begins x ts rest t.0 t.1 in
          body_block_full i a x ts b.0 rest b.1 (reads 15 ts t.1 (block_level x t.0) (tight_ends a 15 rest (omega arith))))
    ]

module _ (strict : Bool) where
  mutual
    unfolding spells spells_trees spells_links spells_steps spells_declarations spells_bindings depth_of depth_inside depth_of_links depth_of_steps depth_of_declarations depth_of_bindings IsPlain ArePlain ArePlainLinks ArePlainSteps ArePlainDeclarations ArePlainBindings within inside_over continues is_class list_of list_of_links list_of_steps list_of_declarations list_of_bindings rank

    pub full : (x : Tree) (room : ℕ) (a : Around) (l : ℕ) (ts rest : List ParserToken) → spells x ts rest → depth_of x < suc room → (strict ≡ true → IsPlain x) → l ≤ level_of x → Ends a l rest → reader (within strict room) a l ts ≡ Ok (x, rest)
    full (named n) room a l ts rest s d pl less ends =
        raise (within strict room) (named n) a l ts rest s less ends (elim s [ inl m ↦ named_full (within strict room) n ts rest m | inr m ↦ path_named_full (within strict room) n ts rest m ])
    full (numbered n) room a l ts rest s d pl less ends = raise (within strict room) (numbered n) a l ts rest s less ends (numbered_full (within strict room) n ts rest s)
    full (constant c p) room a l ts rest s d pl less ends = raise (within strict room) (constant c p) a l ts rest s less ends (constant_full (within strict room) c p ts rest s)
    full (bracketed p x) zero a l ts rest s d pl less ends = absurd (omega (arith, d))
    full (bracketed p x) (suc r) a l ts rest s d pl less ends =
        let inner = full x r around.Parens 0 s.0 s.2.0 s.2.1 (omega (arith, d)) pl (omega arith) (closed around.Parens class.RightParen 0 s.2.0 rest s.2.2 refl refl refl) in
        raise (within strict (suc r)) (bracketed p x) a l ts rest s less ends (paren_full (within strict (suc r)) p x ts s.0 s.2.0 rest s.1 inner s.2.2)
    full (block p xs) room a l ts rest s d pl less ends =
        let all = (full_trees xs room s.0 s.2.0 rest d pl).0 s.2.1 s.2.2 in
        let read = block_tree_full (within strict room) p xs ts rest (block_full (within strict room) p xs ts s.0 s.2.0 rest s.1 s.2.1 s.2.2 all) in
        raise (within strict room) (block p xs) a l ts rest s less ends (brace_is_block (within strict room) ts s.0 (marks class.LeftBrace p ts s.0 s.1) ∙ read)
    full (prefixed f p x) zero a l ts rest s d pl less ends = absurd (omega (arith, d))
    full (prefixed f p x) (suc r) a l ts rest s d pl less ends =
        let inner = full x r a (level_behind f) s.0 rest s.2.1 (omega (arith, d)) pl s.2.0 (tighter a l (level_behind f) rest (omega (arith, less, prefix_tighter f)) ends) in
        raise (within strict (suc r)) (prefixed f p x) a l ts rest s less ends (prefixed_full (within strict (suc r)) a f p x ts s.0 rest s.1 (part_is strict r a f s.0 ∙ inner))
    full (chain x ls) room a l ts rest s d pl less ends =
        let o = first_operator ls in
        let lower = tighter a l (level_of_links ls) rest less ends in
        let head = full x room a (suc (level_of_links ls)) ts s.1.0 s.1.1.1 (omega (arith, d)) (λ h. (pl h).0) s.1.1.0 (first_link_ends a ls s.1.0 rest s.0 s.1.2) in
        let links = full_links ls room a o s.1.0 rest (subst (λ k. spells_links k ls s.1.0 rest) (links_level ls) s.1.2) (omega (arith, d)) (λ h. (pl h).1) (subst (λ k. Ends a k rest) (links_level ls) lower) in
        raise (within strict room) (chain x ls) a l ts rest s less ends (chain_read (within strict room) a x ls ts s.1.0 rest s.0 head links lower)
    full (path x ss) room a l ts rest s d pl less ends =
        let head = full x room a 14 ts s.1.0 s.1.1.1 (omega (arith, d)) (λ h. (pl h).0) s.1.1.0 (tight_ends a 14 s.1.0 (omega arith)) in
        let steps = full_steps ss room a s.1.0 rest s.1.2 (omega (arith, d)) (λ h. (pl h).1) in
        raise (within strict room) (path x ss) a l ts rest s less ends (path_read (within strict room) a x ss ts s.1.0 rest s.0 head steps (ends.step less))
    full (compared x c y) room a l ts rest s d pl less ends =
        let left = full x room a 6 ts s.0 s.1.1 (omega (arith, d)) (λ h. (pl h).0) s.1.0 (comparing_ends a c.comparison c.negated c.place s.0 s.2.0 s.2.1) in
        let right = full y room a 6 s.2.0 rest s.2.2.1 (omega (arith, d)) (λ h. (pl h).1) s.2.2.0 (tighter a l 6 rest (omega (arith, less)) ends) in
        raise (within strict room) (compared x c y) a l ts rest s less ends (compared_full (within strict room) a x c y ts s.0 s.2.0 rest left s.2.1 right)
    full (implies x p y) zero a l ts rest s d pl less ends = absurd (omega (arith, d))
    full (implies x p y) (suc r) a l ts rest s d pl less ends =
        let t = s.2.2 in
        let left = full x (suc r) a 3 ts s.0 s.1.1 (omega (arith, d)) (λ h. (pl h).0) s.1.0 (implies_ends a p s.0 s.2.0 s.2.1) in
        let spelled : spells y s.2.0 rest = subst (λ us. spells y s.2.0 us) t.2.0 t.1.1 in
        let right = full y r a 2 s.2.0 rest spelled (omega (arith, d)) (λ h. (pl h).1) t.1.0 (tighter a l 2 rest less ends) in
        raise (within strict (suc r)) (implies x p y) a l ts rest s less ends (implies_full (within strict (suc r)) a x p y ts s.0 s.2.0 rest left s.2.1 right t.2.1)
    full (implies_else x p y z) zero a l ts rest s d pl less ends = absurd (omega (arith, d))
    full (implies_else x p y z) (suc r) a l ts rest s d pl less ends =
        let t = s.2.2 in
        let left = full x (suc r) a 3 ts s.0 s.1.1 (omega (arith, d)) (λ h. (pl h).0) s.1.0 (implies_ends a p s.0 s.2.0 s.2.1) in
        let middle = full y r a 2 s.2.0 t.0 t.1.1 (omega (arith, d)) (λ h. (pl h).1) t.1.0 (closed a class.Else 2 t.0 t.2.0 t.2.1 refl refl refl) in
        let right = full z r a 2 t.2.0 rest t.2.2.1 (omega (arith, d)) (λ h. (pl h).2) t.2.2.0 (tighter a l 2 rest less ends) in
        raise (within strict (suc r)) (implies_else x p y z) a l ts rest s less ends (implies_else_full (within strict (suc r)) a x p y z ts s.0 s.2.0 t.0 t.2.0 rest left s.2.1 middle t.2.1 right)
    full (quantified q p ds x) zero a l ts rest s d pl less ends = absurd (omega (arith, d))
    full (quantified q p ds x) (suc r) a l ts rest s d pl less ends =
        let t = s.2 in
        let b = body_first a x t.0 rest t.2 in
        let few : (strict && is_single q) ≡ true → binds_several ds ≡ false = λ h. few_of (is_single q) (binds_several ds) (pl (strict_of strict (is_single q) h)).0 (single_of strict (is_single q) h) in
        let declared = (full_declarations ds r s.0 t.0 (omega (arith, d)) (λ h. (pl h).1) b.0 b.1).1 (strict && is_single q) t.1.1 t.1.0 few in
        let reads : (m : ℕ) (us : List ParserToken) → spells x us rest → m ≤ level_of x → Ends a m rest → reader (within strict r) a m us ≡ Ok (x, rest) = λ m us spelled lower there. full x r a m us rest spelled (omega (arith, d)) (λ h. (pl h).2) lower there in
        let inside_body = body_full (within strict r) x a t.0 rest t.2 (λ none. body_ends a l rest less ends none) reads in
        let read = quantified_full strict (within strict r) a q p (list_of_declarations ds) x s.0 t.0 rest declared inside_body in
        let whole = subst (λ es. within strict (suc r) a (inside.Quantified q p) s.0 ≡ Ok (quantified q p es x, rest)) (declarations_of_list ds) read in
        raise (within strict (suc r)) (quantified q p ds x) a l ts rest s less ends (quantifier_full (within strict (suc r)) a q p (quantified q p ds x) ts s.0 rest s.1 (declarations_begin a ds s.0 t.0 t.1.0 t.1.1) whole)
    full (bound_by_let p bs x) zero a l ts rest s d pl less ends = absurd (omega (arith, d))
    full (bound_by_let p bs x) (suc r) a l ts rest s d pl less ends =
        let t = s.2 in
        let b = body_first a x t.0 rest t.2 in
        let reads : (m : ℕ) (us : List ParserToken) → spells x us rest → m ≤ level_of x → Ends a m rest → reader (within strict r) a m us ≡ Ok (x, rest) = λ m us spelled lower there. full x r a m us rest spelled (omega (arith, d)) (λ h. (pl h).1) lower there in
        let inside_body = body_full (within strict r) x a t.0 rest t.2 (λ none. body_ends a l rest less ends none) reads in
        let read = (full_bindings bs r s.0 t.0 (omega (arith, d)) (λ h. (pl h).0) b.0 b.1).1 a p x rest t.1.1 t.1.0 inside_body in
        raise (within strict (suc r)) (bound_by_let p bs x) a l ts rest s less ends (let_word_full (within strict (suc r)) a p (bound_by_let p bs x) ts s.0 rest s.1 read)

    pub full_trees : (xs : Trees) (room : ℕ) (ts rest vs : List ParserToken) → depth_inside xs < suc room → (strict ≡ true → ArePlain xs)
        → (spells_trees nothing nothing xs ts rest → mark_of class.RightBrace rest vs → each (Goes is_inner (within strict room around.Braces inside.Node)) (list_of xs) ts rest)
        × (spells_trees comma comma xs ts rest → mark_of class.RightBracket rest vs → each (Goes (next_is class.Comma) (behind (within strict room around.Brackets inside.Node))) (list_of xs) ts rest)
        × (spells_trees nothing comma xs ts rest → mark_of class.RightBracket rest vs → arguments_over (within strict room) ts ≡ Ok (list_of xs, rest))
    full_trees no_trees room ts rest vs d pl = (λ s m. s, λ s m. s, λ s m. subst (λ us. arguments_over (within strict room) us ≡ Ok ([], rest)) (sym s) (no_arguments (within strict room) rest vs m))
    full_trees (more_trees x xs) zero ts rest vs d pl = absurd (omega (arith, d))
    full_trees (more_trees x xs) (suc r) ts rest vs d pl = (
      λ s m.
          let t = s.2 in
          let spelled : spells x ts t.0 = subst (λ us. spells x us t.0) (sym s.1) t.1 in
          let read = full x r around.Braces 0 ts t.0 spelled (omega (arith, d)) (λ h. (pl h).0) (omega arith) (block_ends xs t.0 rest vs t.2 m) in
          (t.0, (inner_first (level_of x) ts (first x ts t.0 spelled), read, reader_short strict r around.Braces 0 ts x t.0 read), (full_trees xs (suc r) t.0 rest vs (omega (arith, d)) (λ h. (pl h).1)).0 t.2 m),
      λ s m.
          let t = s.2 in
          let read = full x r around.Brackets 0 s.0 t.0 t.1 (omega (arith, d)) (λ h. (pl h).0) (omega arith) (arguments_end xs t.0 rest vs t.2 m) in
          let there = subst (λ us. within strict (suc r) around.Brackets inside.Node us ≡ Ok (x, t.0)) (sym (after_is class.Comma ts s.0 s.1)) read in
          (t.0, (is_next class.Comma ts s.0 s.1, there, omega (arith, ap length s.1.1, reader_short strict r around.Brackets 0 s.0 x t.0 read)), (full_trees xs (suc r) t.0 rest vs (omega (arith, d)) (λ h. (pl h).1)).1 t.2 m),
      λ s m.
          let t = s.2 in
          let spelled : spells x ts t.0 = subst (λ us. spells x us t.0) (sym s.1) t.1 in
          let read = full x r around.Brackets 0 ts t.0 spelled (omega (arith, d)) (λ h. (pl h).0) (omega arith) (arguments_end xs t.0 rest vs t.2 m) in
          let more = many_full (next_is class.Comma) (behind (within strict (suc r) around.Brackets inside.Node)) (list_of xs) t.0 rest ((full_trees xs (suc r) t.0 rest vs (omega (arith, d)) (λ h. (pl h).1)).1 t.2 m) (differs class.RightBracket class.Comma rest vs m refl) in
          some_arguments (within strict (suc r)) x (list_of xs) (level_of x) ts t.0 rest (first x ts t.0 spelled) read more,
    )

    full_links : (ls : Links) (room : ℕ) (a : Around) (o : Operator) (ts rest : List ParserToken) → spells_links (level_of_operator o) ls ts rest → depth_of_links ls < suc room → (strict ≡ true → ArePlainLinks ls) → Ends a (level_of_operator o) rest
        → each (Goes (kind_test (kind_of o)) (kind_link (within strict room) a (kind_of o))) (list_of_links ls) ts rest
    full_links no_links room a o ts rest s d pl ends = s
    full_links (more_links n p y ls) room a o ts rest s d pl ends =
        let t = s.2 in
        let read = full y room a (suc (level_of_operator o)) s.0 t.0 t.1.1 (omega (arith, d)) (λ h. (pl h).0) t.1.0 (links_end a o ls t.0 rest t.2 ends) in
        let f = looser (suc (level_of_operator n)) (omega (arith, s.1.0, t.1.0)) (first y s.0 t.0 t.1.1) in
        let there = subst (λ k. reader (within strict room) a (suc k) s.0 ≡ Ok (y, t.0)) (sym s.1.0) read in
        let both = operator_full (within strict room) a n p y ts s.0 t.0 s.1.1 f there in
        let same = same_kind n o s.1.0 in (
          t.0,
          (subst (λ k. kind_test k ts ≡ true) same both.0, subst (λ k. kind_link (within strict room) a k ts ≡ Ok (record { operator = n; place = p; operand = y }, t.0)) same both.1, omega (arith, ap length s.1.1.1, reader_short strict room a (suc (level_of_operator o)) s.0 y t.0 read)),
          full_links ls room a o t.0 rest t.2 (omega (arith, d)) (λ h. (pl h).1) ends,
        )

    full_steps : (ss : Steps) (room : ℕ) (a : Around) (ts rest : List ParserToken) → spells_steps ss ts rest → depth_of_steps ss < suc room → (strict ≡ true → ArePlainSteps ss) → each (Goes begins_step (step_over (within strict room) a)) (list_of_steps ss) ts rest
    full_steps no_steps room a ts rest s d pl = s
    full_steps (join_first p y ss) room a ts rest s d pl =
        let t = s.2 in
        let read = full y room a 14 s.0 t.0 t.1.1 (omega (arith, d)) (λ h. (pl h).0) t.1.0 (tight_ends a 14 t.0 (omega arith)) in
        let both = join_full (within strict room) a p y ts s.0 t.0 s.1 read in
        (t.0, (both.0, both.1, omega (arith, ap length s.1.1, reader_short strict room a 14 s.0 y t.0 read)), full_steps ss room a t.0 rest t.2 (omega (arith, d)) (λ h. (pl h).1))
    full_steps (brackets_first p ys ss) room a ts rest s d pl =
        let t = s.2 in
        let u = t.2 in
        let read = (full_trees ys room s.0 t.0 u.0 (omega (arith, d)) (λ h. (pl h).0)).2 t.1 u.1 in
        let both = brackets_full (within strict room) a p (list_of ys) ts s.0 t.0 u.0 s.1 read u.1 in
        (u.0, (both.0, both.1, step_short strict room a ts p (list_of ys) u.0 both.1), full_steps ss room a u.0 rest u.2 (omega (arith, d)) (λ h. (pl h).1))

    pub full_declarations : (ds : Declarations) (room : ℕ) (ts rest : List ParserToken) → depth_of_declarations ds < suc room → (strict ≡ true → ArePlainDeclarations ds) → Ends around.Parens 7 rest → next_is class.Comma rest ≡ false
        → (spells_declarations comma ds ts rest → each (Goes (next_is class.Comma) (another_declaration (within strict room) false)) (list_of_declarations ds) ts rest)
        × ((single : Bool) → spells_declarations nothing ds ts rest → IsTrue (has_declarations ds) → (single ≡ true → binds_several ds ≡ false) → declarations_over (within strict room) single ts ≡ Ok (list_of_declarations ds, rest))
    full_declarations no_declarations room ts rest d pl ends none = (λ s. s, λ single s is few. true_not_false (sym is))
    full_declarations (more_declarations disjoint ns m x ds) room ts rest d pl ends none =
        let read : (os us : List ParserToken) → spells x os us → 7 ≤ level_of x → spells_declarations comma ds us rest → reader (within strict room) around.Parens 7 os ≡ Ok (x, us)
        = λ os us spelled level more. full x room around.Parens 7 os us spelled (omega (arith, d)) (λ h. (pl h).0) level (declared_end ds us rest more ends) in
        let others : (us : List ParserToken) → spells_declarations comma ds us rest → each (Goes (next_is class.Comma) (another_declaration (within strict room) false)) (list_of_declarations ds) us rest
        = λ us more. (full_declarations ds room us rest (omega (arith, d)) (λ h. (pl h).1) ends none).0 more in (
          λ s.
              let t1 = s.2 in
              let t2 = t1.2 in
              let t3 = t2.2 in
              let t4 = t3.2 in
              let t5 = t4.2 in
              let here = read t4.0 t5.0 t5.1.1 t5.1.0 t5.2 in
              let one = another_full (within strict room) disjoint ns m x ts s.0 t1.0 t2.0 t3.0 t4.0 t5.0 s.1 t1.1 t2.1 t3.1 t4.1 (looser 7 t5.1.0 (first x t4.0 t5.0 t5.1.1)) here in
              (t5.0, (is_next class.Comma ts s.0 s.1, one, another_short strict room ts (record { disjoint = disjoint; names = ns; mark = m; domain = x }) t5.0 (is_next class.Comma ts s.0 s.1) one), others t5.0 t5.2),
          λ single s is few.
              let t1 = s.2 in
              let t2 = t1.2 in
              let t3 = t2.2 in
              let t4 = t3.2 in
              let t5 = t4.2 in
              let here = read t4.0 t5.0 t5.1.1 t5.1.0 t5.2 in
              let word = subst (λ us. flag class.Disj disjoint us t1.0) (sym s.1) t1.1 in
              let one = declaration_full (within strict room) single disjoint ns m x ts t1.0 t2.0 t3.0 t4.0 t5.0 word t2.1 t3.1 t4.1 (looser 7 t5.1.0 (first x t4.0 t5.0 t5.1.1)) (λ h. (both_false (are_several ns) (has_declarations ds) (few h)).0) here in
              let more = many_full (next_is class.Comma) (another_declaration (within strict room) single) (list_of_declarations ds) t5.0 rest (more_of strict room single ds t5.0 rest (λ h. (both_false (are_several ns) (has_declarations ds) (few h)).1) t5.2 (others t5.0 t5.2)) none in
              declarations_full (within strict room) single (record { disjoint = disjoint; names = ns; mark = m; domain = x }) (list_of_declarations ds) ts t5.0 rest one more,
        )

    full_bindings : (bs : Bindings) (room : ℕ) (ts rest : List ParserToken) → depth_of_bindings bs < suc room → (strict ≡ true → ArePlainBindings bs) → Ends around.Parens 7 rest → next_is class.Comma rest ≡ false
        → (spells_bindings comma bs ts rest → each (Goes (next_is class.Comma) (behind (binding_over (within strict room)))) (list_of_bindings bs) ts rest)
        × ((a : Around) (p : Place) (y : Tree) (end : List ParserToken) → spells_bindings nothing bs ts rest → IsTrue (has_bindings bs) → body_over (within strict room) a rest ≡ Ok (y, end) → let_over (within strict room) a p ts ≡ Ok (bound_by_let p bs y, end))
    full_bindings no_bindings room ts rest d pl ends none = (λ s. s, λ a p y end s is e. true_not_false (sym is))
    full_bindings (more_bindings n x bs) room ts rest d pl ends none =
        let read : (os us : List ParserToken) → spells x os us → 7 ≤ level_of x → spells_bindings comma bs us rest → reader (within strict room) around.Parens 7 os ≡ Ok (x, us)
        = λ os us spelled level more. full x room around.Parens 7 os us spelled (omega (arith, d)) (λ h. (pl h).0) level (bound_end bs us rest more ends) in
        let others : (us : List ParserToken) → spells_bindings comma bs us rest → each (Goes (next_is class.Comma) (behind (binding_over (within strict room)))) (list_of_bindings bs) us rest
        = λ us more. (full_bindings bs room us rest (omega (arith, d)) (λ h. (pl h).1) ends none).0 more in (
          λ s.
              let t1 = s.2 in
              let t2 = t1.2 in
              let t3 = t2.2 in
              let here = read t2.0 t3.0 t3.1.1 t3.1.0 t3.2 in
              let one = binding_full (within strict room) n x s.0 t1.0 t2.0 t3.0 t1.1 t2.1 here in
              let there = subst (λ us. binding_over (within strict room) us ≡ Ok (record { name = n; value = x }, t3.0)) (sym (after_is class.Comma ts s.0 s.1)) one in
              (t3.0, (is_next class.Comma ts s.0 s.1, there, omega (arith, ap length s.1.1, ap length t1.1.1, ap length t2.1.1, reader_short strict room around.Parens 7 t2.0 x t3.0 here)), others t3.0 t3.2),
          λ a p y end s is e.
              let t1 = s.2 in
              let t2 = t1.2 in
              let t3 = t2.2 in
              let here = read t2.0 t3.0 t3.1.1 t3.1.0 t3.2 in
              let word : name n ts t1.0 = subst (λ us. name n us t1.0) (sym s.1) t1.1 in
              let one = binding_full (within strict room) n x ts t1.0 t2.0 t3.0 word t2.1 here in
              let more = many_full (next_is class.Comma) (behind (binding_over (within strict room))) (list_of_bindings bs) t3.0 rest (others t3.0 t3.2) none in
              subst (λ cs. let_over (within strict room) a p ts ≡ Ok (bound_by_let p cs y, end)) (bindings_of_list (more_bindings n x bs)) (let_full (within strict room) a p (record { name = n; value = x }) (list_of_bindings bs) y ts t3.0 rest end one more e),
        )
