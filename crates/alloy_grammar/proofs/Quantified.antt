-- What is read of quantifiers and lets is spelled so, and with it what stands under constructs.
use Rattle.std.proofs.Common.{◌≡◌, ℕ, zero, suc, ◌≤◌, ◌<◌, inl, inr, Bool, true, false, ◌&&◌, IsTrue, List, [], ◌∷◌, length, Ok, refl, sym, ap, subst, arith}
use Rattle.alloy_lex.specs.declared.token.Place.{Place}
use Rattle.alloy_syntax.specs.declared.class.Class.TheVariants as class
use Rattle.alloy_syntax.specs.declared.reading.Around.{Around}
use Rattle.alloy_syntax.specs.declared.reading.Around.TheVariants as around
use Rattle.alloy_syntax.specs.declared.reading.Inside.{Inside}
use Rattle.alloy_syntax.specs.declared.reading.Inside.TheVariants as inside
use Rattle.alloy_syntax.specs.declared.tree.Name.{Name}
use Rattle.alloy_syntax.specs.declared.tree.Quantifier.{Quantifier}
use Rattle.alloy_syntax.specs.declared.parser_token.ParserToken.{ParserToken}
use Rattle.alloy_syntax.specs.Tree.{Tree, block, quantified, bound_by_let, DeclarationTree, BindingTree, trees_of, declarations_of, bindings_of}
use Rattle.alloy_syntax.specs.Readers.{next_is, after, place_at, expect, name_at, mark_at, after_mark, many, behind, listed, names_at}
use Rattle.alloy_syntax.specs.Nodes.{Reader, block_over, block_tree, is_comprehension, may_be_block, begins, stop_at, sum_over, is_single, after_disj, second_is_refused, one_name, are_several, variable_names, variables_over, declaration_over, another_declaration, more_declarations, declarations_over, body_over, quantified_over, binding_over, bindings_over, let_over, inside_over, within}
use Rattle.alloy_grammar.specs.Fronts.{Front, ◌before◌, nothing, sign, mark_of, flag, name, names, each}
use Rattle.alloy_grammar.specs.Levels.{negation_level}
use Rattle.alloy_grammar.specs.Nodes.{class_of_quantifier, comma, is_block}
use Rattle.alloy_grammar.specs.Forms.{binds_several}
use Rattle.alloy_grammar.proofs.Results.{success, stop, known, either, no_success, value_is, rest_is}
use Rattle.alloy_grammar.proofs.Tokens.{token, token_is_one, marks, mark_is_one, expect_read, spelled_read, spelled_is_one, and_right, after_is_short, after_mark_is_short, mark_read, flag_read}
use Rattle.alloy_grammar.proofs.Lists.{Taken, many_read, each_of, others_read}
use Rattle.alloy_grammar.proofs.ReadTrees.{Found, land, FoundDeclaration, FoundDeclarations, declarations_found, FoundBinding, FoundBindings, bindings_found, FoundBody, barred, braced, quantified_found, let_found}
use Rattle.alloy_grammar.proofs.NodesSpelled.{Below, block_tree_read, sum_reads, node_reads, negation_reads, implication_reads, size_reads, tight_reads}

-- ---- names

each_is_short : {A : Type 0} (P : A → Front) → ((x : A) (ts rest : List ParserToken) → P x ts rest → length rest ≤ length ts) → (xs : List A) (ts rest : List ParserToken) → each P xs ts rest → length rest ≤ length ts
each_is_short P short [] ts rest p = omega (arith, ap length p)
each_is_short P short (x ∷ xs) ts rest p = omega (arith, short x ts p.0 p.1, each_is_short P short xs p.0 rest p.2)

another_name : (n : Name) (ts rest : List ParserToken) → Taken (next_is class.Comma) (behind name_at) n ts rest → (comma before name n) ts rest
another_name n ts rest t = (after ts, marks class.Comma (place_at ts) ts (after ts) (token class.Comma ts t.0), spelled_read class.Name (after ts) n rest t.1)

another_name_is_short : (n : Name) (ts rest : List ParserToken) → (comma before name n) ts rest → length rest ≤ length ts
another_name_is_short n ts rest p = omega (arith, mark_is_one class.Comma ts p.0 p.1, spelled_is_one class.Name n p.0 rest p.2)

-- names with commas between them, and that they are some tokens
abbrev pub NamesFound : List Name → Front
NamesFound ns ts rest = names ns ts rest × (length rest < length ts)

pub names_read : (ts : List ParserToken) (ns : List Name) (rest : List ParserToken) → names_at ts ≡ Ok (ns, rest) → NamesFound ns ts rest
unfolding names_at listed
names_read ts ns rest e =
    elim (known (name_at ts)) [
      | stop d is ↦ no_success _ _ (rw is at e)
      | success n is ↦ (
          let h = rw is at e in
          let o = others_read name_at n.0 n.1 ns rest h in
          let first = spelled_read class.Name ts n.0 n.1 is in
          let more = each_of (Taken (next_is class.Comma) (behind name_at)) (λ m. comma before name m) another_name o.0 n.1 rest o.2 in
          let found : NamesFound (n.0 ∷ o.0) ts rest
          = ((n.1, first, more), omega (arith, spelled_is_one class.Name n.0 ts n.1 first, each_is_short (λ m. comma before name m) another_name_is_short o.0 n.1 rest more)) in
          subst (λ ms. NamesFound ms ts rest) o.1 found)
    ]

-- ---- variables

no_second : {A : Type 0} {P : Type 0} (ts : List ParserToken) (x : A) (rest : List ParserToken) → second_is_refused {A = A} ts ≡ Ok (x, rest) → P
no_second ts x rest e = elim (known (name_at ts)) [ stop d is ↦ no_success _ _ (rw is at e) | success n is ↦ no_success _ _ (rw is at e) ]

-- the names of variables, with `disj` or without, and their colon
record Variables (single : Bool) (ns : List Name) (ts rest : List ParserToken) : Type 0 where
  behind_word : List ParserToken
  word : flag class.Disj (next_is class.Disj ts) ts behind_word
  behind_names : List ParserToken
  named : names ns behind_word behind_names
  colon : mark_of class.Colon behind_names rest
  few : single ≡ true → are_several ns ≡ false
  shorter : length rest < length ts

abbrev Named : List Name → Front
Named ns ts rest = (us : List ParserToken) × flag class.Disj (next_is class.Disj ts) ts us × names ns us rest × (length rest < length ts)

one_name_read : (ts : List ParserToken) (ns : List Name) (rest : List ParserToken) → one_name ts ≡ Ok (ns, rest) → NamesFound ns ts rest
unfolding one_name
one_name_read ts ns rest e =
    elim (known (name_at ts)) [
      | stop d is ↦ no_success _ _ (rw is at e)
      | success n is ↦ (
          let h = rw is at e in
          elim (either (next_is class.Comma n.1)) [
            | inl more ↦ no_second (after n.1) ns rest (rw more at h)
            | inr alone ↦ (
                let k = rw alone at h in
                let first = spelled_read class.Name ts n.0 n.1 is in
                let found : NamesFound (n.0 ∷ []) ts n.1 = ((n.1, first, refl), spelled_is_one class.Name n.0 ts n.1 first) in
                subst (λ us. NamesFound ns ts us) (rest_is (n.0 ∷ []) ns n.1 rest k) (subst (λ ms. NamesFound ms ts n.1) (value_is (n.0 ∷ []) ns n.1 rest k) found))
          ])
    ]

after_disj_is_short : (ts : List ParserToken) → length (after_disj ts) ≤ length ts
after_disj_is_short ts = elim (either (next_is class.Disj ts)) [ inl is ↦ rw is (after_is_short ts) | inr fails ↦ rw fails (omega arith) ]

variable_names_read : (single : Bool) (ts : List ParserToken) (ns : List Name) (rest : List ParserToken) → variable_names single ts ≡ Ok (ns, rest) → Named ns ts rest
unfolding variable_names
variable_names_read single ts ns rest e =
    elim (either (single && next_is class.Disj ts)) [
      | inl both ↦ (
          let f = one_name_read (after ts) ns rest (rw both at e) in
          let is = and_right single (next_is class.Disj ts) both in
          let word : flag class.Disj (next_is class.Disj ts) ts (after ts) = rw is (marks class.Disj (place_at ts) ts (after ts) (token class.Disj ts is)) in
          (after ts, word, f.0, omega (arith, f.1, after_is_short ts)))
      | inr other ↦ (
          let f = names_read (after_disj ts) ns rest (rw other at e) in
          (after_disj ts, flag_read class.Disj ts, f.0, omega (arith, f.1, after_disj_is_short ts)))
    ]

variables_read : (single : Bool) (ts : List ParserToken) (ns : List Name) (rest : List ParserToken) → variables_over single ts ≡ Ok (ns, rest) → Variables single ns ts rest
unfolding variables_over
variables_read single ts ns rest e =
    elim (known (variable_names single ts)) [
      | stop d is ↦ no_success _ _ (rw is at e)
      | success ms is ↦ (
          let h = rw is at e in
          elim (known (expect class.Colon ms.1)) [
            | stop d fails ↦ no_success _ _ (rw fails at h)
            | success c colon ↦ (
                let k = rw colon at h in
                elim (either (single && are_several ms.0)) [
                  | inl both ↦ no_success _ _ (rw both at k)
                  | inr few ↦ (
                      let m = rw few at k in
                      let f = variable_names_read single ts ms.0 ms.1 is in
                      let s = expect_read class.Colon ms.1 c.0 c.1 colon in
                      let v : Variables single ms.0 ts c.1 = record {
                        behind_word = f.0;
                        word = f.1;
                        behind_names = ms.1;
                        named = f.2;
                        colon = marks class.Colon c.0 ms.1 c.1 s;
                        few = λ is_single. rw is_single at few;
                        shorter = omega (arith, f.3, token_is_one class.Colon c.0 ms.1 c.1 s);
                      } in
                      subst (λ us. Variables single ns ts us) (rest_is ms.0 ns c.1 rest m) (subst (λ xs. Variables single xs ts c.1) (value_is ms.0 ns c.1 rest m) v))
                ])
          ])
    ]

block_tree_is_block : (i : Reader) (ts : List ParserToken) (x : Tree) (rest : List ParserToken) → block_tree i ts ≡ Ok (x, rest) → IsTrue (is_block x)
unfolding block_tree
block_tree_is_block i ts x rest e =
    elim (known (block_over i ts)) [
      | stop d is ↦ no_success _ _ (rw is at e)
      | success b is ↦ (let h = rw is at e in subst (λ y. IsTrue (is_block y)) (value_is (block b.0.place (trees_of b.0.formulas)) x b.1 rest h) refl)
    ]

module _ (strict : Bool) (room : ℕ) (i : Reader) (below : Below strict room i) where
  -- ---- declarations

  declaration_read : (single : Bool) (ts : List ParserToken) (d : DeclarationTree) (rest : List ParserToken) → declaration_over i single ts ≡ Ok (d, rest)
      → FoundDeclaration strict (suc room) nothing d ts rest × (single ≡ true → are_several d.names ≡ false)
  unfolding declaration_over
  declaration_read single ts d rest e =
      elim (known (variables_over single ts)) [
        | stop s is ↦ no_success _ _ (rw is at e)
        | success ns is ↦ (
            let h = rw is at e in
            elim (known (sum_over i around.Parens (after_mark ns.1))) [
              | stop s fails ↦ no_success _ _ (rw fails at h)
              | success x read ↦ (
                  let k = rw read at h in
                  let v = variables_read single ts ns.0 ns.1 is in
                  let f = (sum_reads strict room i below around.Parens (after_mark ns.1) x.0 x.1 read).0 in
                  let here : DeclarationTree = record { disjoint = next_is class.Disj ts; names = ns.0; mark = mark_at ns.1; domain = x.0 } in
                  let g : FoundDeclaration strict (suc room) nothing here ts x.1 = record {
                    behind = ts;
                    separator = refl;
                    behind_word = v.behind_word;
                    word = v.word;
                    behind_names = v.behind_names;
                    named = v.named;
                    behind_colon = ns.1;
                    colon = v.colon;
                    behind_mark = after_mark ns.1;
                    marked = mark_read ns.1;
                    found = f;
                    shorter = omega (arith, v.shorter, after_mark_is_short ns.1, f.shorter);
                  } in
                  subst (λ us. FoundDeclaration strict (suc room) nothing d ts us × (single ≡ true → are_several d.names ≡ false)) (rest_is here d x.1 rest k)
                  (subst (λ (y : DeclarationTree). FoundDeclaration strict (suc room) nothing y ts x.1 × (single ≡ true → are_several y.names ≡ false)) (value_is here d x.1 rest k) (g, v.few)))
            ])
      ]

  -- where one variable alone may be bound, there is no other declaration
  no_other : (ts : List ParserToken) (d : DeclarationTree) (rest : List ParserToken) → another_declaration i true ts ≡ Ok (d, rest) → ⊥
  unfolding another_declaration
  no_other ts d rest e = no_second (after_disj (after ts)) d rest e

  pub another_read : (single : Bool) (d : DeclarationTree) (ts rest : List ParserToken) → Taken (next_is class.Comma) (another_declaration i single) d ts rest → FoundDeclaration strict (suc room) comma d ts rest
  unfolding another_declaration
  another_read true d ts rest t = no_second (after_disj (after ts)) d rest t.1
  another_read false d ts rest t =
      let f = (declaration_read false (after ts) d rest t.1).0 in
      record {
        behind = after ts;
        separator = marks class.Comma (place_at ts) ts (after ts) (token class.Comma ts t.0);
        behind_word = f.behind_word;
        word = subst (λ us. flag class.Disj d.disjoint us f.behind_word) (sym f.separator) f.word;
        behind_names = f.behind_names;
        named = f.named;
        behind_colon = f.behind_colon;
        colon = f.colon;
        behind_mark = f.behind_mark;
        marked = f.marked;
        found = f.found;
        shorter = omega (arith, f.shorter, after_is_short ts);
      }

  -- the first declaration, the others, and that they are few where only one variable may be bound
  pub record Declared (single : Bool) (ds : List DeclarationTree) (ts rest : List ParserToken) : Type 0 where
    pub first : DeclarationTree
    pub others : List DeclarationTree
    pub all : first ∷ others ≡ ds
    pub found : FoundDeclarations strict (suc room) nothing (declarations_of (first ∷ others)) ts rest
    pub few : single ≡ true → binds_several (declarations_of (first ∷ others)) ≡ false

  few_of : (single : Bool) (d : DeclarationTree) (ds : List DeclarationTree) (ts rest : List ParserToken) → (single ≡ true → are_several d.names ≡ false) → each (Taken (next_is class.Comma) (another_declaration i single)) ds ts rest
      → single ≡ true → binds_several (declarations_of (d ∷ ds)) ≡ false
  few_of single d [] ts rest few p is = rw (few is) refl
  few_of single d (e ∷ ds) ts rest few p is = absurd (no_other ts e p.0 (subst (λ b. another_declaration i b ts ≡ Ok (e, p.0)) is p.1.1))

  pub declarations_read : (single : Bool) (ts : List ParserToken) (ds : List DeclarationTree) (rest : List ParserToken) → declarations_over i single ts ≡ Ok (ds, rest) → Declared single ds ts rest
  unfolding declarations_over more_declarations
  declarations_read single ts ds rest e =
      elim (known (declaration_over i single ts)) [
        | stop s is ↦ no_success _ _ (rw is at e)
        | success d is ↦ (
            let h = rw is at e in
            elim (known (many (next_is class.Comma) (another_declaration i single) d.1)) [
              | stop s fails ↦ no_success _ _ (rw fails at h)
              | success es more ↦ (
                  let k = rw more at h in
                  let f = declaration_read single ts d.0 d.1 is in
                  let taken = many_read (next_is class.Comma) (another_declaration i single) d.1 es.0 es.1 more in
                  let all = each_of (Taken (next_is class.Comma) (another_declaration i single)) (FoundDeclaration strict (suc room) comma) (another_read single) es.0 d.1 es.1 taken in
                  let g : Declared single (d.0 ∷ es.0) ts es.1 = record {
                    first = d.0;
                    others = es.0;
                    all = refl;
                    found = declarations_found strict room d.0 es.0 ts d.1 es.1 f.0 all;
                    few = few_of single d.0 es.0 d.1 es.1 f.1 taken;
                  } in
                  subst (λ us. Declared single ds ts us) (rest_is (d.0 ∷ es.0) ds es.1 rest k) (subst (λ ys. Declared single ys ts es.1) (value_is (d.0 ∷ es.0) ds es.1 rest k) g))
            ])
      ]

  -- ---- bodies

  body_read : (a : Around) (ts : List ParserToken) (x : Tree) (rest : List ParserToken) → body_over i a ts ≡ Ok (x, rest) → FoundBody strict (suc room) x ts rest
  unfolding body_over
  body_read a ts x rest e =
      elim (either (next_is class.Bar ts)) [
        | inl is ↦ (let r = node_reads strict room i below a (after ts) x rest (rw is at e) in barred strict (suc room) x ts (after ts) rest (marks class.Bar (place_at ts) ts (after ts) (token class.Bar ts is)) r.0 r.1)
        | inr other ↦ (let h = rw other at e in braced strict (suc room) x ts rest (block_tree_is_block i ts x rest h) (block_tree_read strict room i below ts x rest h))
      ]

  few_variables : (q : Quantifier) (several : Bool) → ((strict && is_single q) ≡ true → several ≡ false) → strict ≡ true → (is_single q && several) ≡ false
  few_variables q several few is =
      elim (either (is_single q)) [
        | inl single ↦ rw (single, few (rw (is, single) refl)) refl
        | inr fails ↦ rw fails refl
      ]

  quantified_read : (a : Around) (q : Quantifier) (p : Place) (ts : List ParserToken) (x : Tree) (rest : List ParserToken) → quantified_over strict i a q p ts ≡ Ok (x, rest)
      → (ws : List ParserToken) → sign (class_of_quantifier q) p ws ts → Found strict (suc (suc room)) negation_level x ws rest
  unfolding quantified_over
  quantified_read a q p ts x rest e ws s =
      elim (known (declarations_over i (strict && is_single q) ts)) [
        | stop d is ↦ no_success _ _ (rw is at e)
        | success ds is ↦ (
            let h = rw is at e in
            elim (known (body_over i a ds.1)) [
              | stop d fails ↦ no_success _ _ (rw fails at h)
              | success y read ↦ (
                  let k = rw read at h in
                  let g = declarations_read (strict && is_single q) ts ds.0 ds.1 is in
                  let f = quantified_found strict room q p g.first g.others y.0 ws ts ds.1 y.1 s g.found (few_variables q (binds_several (declarations_of (g.first ∷ g.others))) g.few) (body_read a ds.1 y.0 y.1 read) in
                  land k (subst (λ es. Found strict (suc (suc room)) negation_level (quantified q p (declarations_of es) y.0) ws y.1) g.all f))
            ])
      ]

  -- ---- lets

  binding_read : (ts : List ParserToken) (b : BindingTree) (rest : List ParserToken) → binding_over i ts ≡ Ok (b, rest) → (ws : List ParserToken) (next : Front) → next ws ts → length ts ≤ length ws → FoundBinding strict (suc room) next b ws rest
  unfolding binding_over
  binding_read ts b rest e ws next separator short =
      elim (known (name_at ts)) [
        | stop d is ↦ no_success _ _ (rw is at e)
        | success n is ↦ (
            let h = rw is at e in
            elim (known (expect class.Equal n.1)) [
              | stop d fails ↦ no_success _ _ (rw fails at h)
              | success q equal ↦ (
                  let k = rw equal at h in
                  elim (known (sum_over i around.Parens q.1)) [
                    | stop d fails ↦ no_success _ _ (rw fails at k)
                    | success x read ↦ (
                        let m = rw read at k in
                        let s = spelled_read class.Name ts n.0 n.1 is in
                        let o = expect_read class.Equal n.1 q.0 q.1 equal in
                        let f = (sum_reads strict room i below around.Parens q.1 x.0 x.1 read).0 in
                        let here : BindingTree = record { name = n.0; value = x.0 } in
                        let g : FoundBinding strict (suc room) next here ws x.1 = record {
                          behind = ts;
                          separator = separator;
                          behind_name = n.1;
                          named = s;
                          behind_equal = q.1;
                          equal = marks class.Equal q.0 n.1 q.1 o;
                          found = f;
                          shorter = omega (arith, short, spelled_is_one class.Name n.0 ts n.1 s, token_is_one class.Equal q.0 n.1 q.1 o, f.shorter);
                        } in
                        subst (λ us. FoundBinding strict (suc room) next b ws us) (rest_is here b x.1 rest m) (subst (λ y. FoundBinding strict (suc room) next y ws x.1) (value_is here b x.1 rest m) g))
                  ])
            ])
      ]

  another_binding : (b : BindingTree) (ts rest : List ParserToken) → Taken (next_is class.Comma) (behind (binding_over i)) b ts rest → FoundBinding strict (suc room) comma b ts rest
  another_binding b ts rest t = binding_read (after ts) b rest t.1 ts comma (marks class.Comma (place_at ts) ts (after ts) (token class.Comma ts t.0)) (after_is_short ts)

  record Bound (bs : List BindingTree) (ts rest : List ParserToken) : Type 0 where
    first : BindingTree
    others : List BindingTree
    all : first ∷ others ≡ bs
    found : FoundBindings strict (suc room) nothing (bindings_of (first ∷ others)) ts rest

  bindings_read : (ts : List ParserToken) (bs : List BindingTree) (rest : List ParserToken) → bindings_over i ts ≡ Ok (bs, rest) → Bound bs ts rest
  unfolding bindings_over listed
  bindings_read ts bs rest e =
      elim (known (binding_over i ts)) [
        | stop d is ↦ no_success _ _ (rw is at e)
        | success b is ↦ (
            let h = rw is at e in
            let o = others_read (binding_over i) b.0 b.1 bs rest h in
            let all = each_of (Taken (next_is class.Comma) (behind (binding_over i))) (FoundBinding strict (suc room) comma) another_binding o.0 b.1 rest o.2 in
            record {
              first = b.0;
              others = o.0;
              all = o.1;
              found = bindings_found strict room b.0 o.0 ts b.1 rest (binding_read ts b.0 b.1 is ts nothing refl (omega arith)) all;
            })
      ]

  let_read : (a : Around) (p : Place) (ts : List ParserToken) (x : Tree) (rest : List ParserToken) → let_over i a p ts ≡ Ok (x, rest) → (ws : List ParserToken) → sign class.Let p ws ts → Found strict (suc (suc room)) negation_level x ws rest
  unfolding let_over
  let_read a p ts x rest e ws s =
      elim (known (bindings_over i ts)) [
        | stop d is ↦ no_success _ _ (rw is at e)
        | success bs is ↦ (
            let h = rw is at e in
            elim (known (body_over i a bs.1)) [
              | stop d fails ↦ no_success _ _ (rw fails at h)
              | success y read ↦ (
                  let k = rw read at h in
                  let g = bindings_read ts bs.0 bs.1 is in
                  let f = let_found strict room p g.first g.others y.0 ws ts bs.1 y.1 s g.found (body_read a bs.1 y.0 y.1 read) in
                  land k (subst (λ cs. Found strict (suc (suc room)) negation_level (bound_by_let p (bindings_of cs) y.0) ws y.1) g.all f))
            ])
      ]

  -- ---- what stands under one construct more

  more_reads : Below strict (suc room) (inside_over strict i)
  unfolding inside_over
  more_reads = record {
    node = λ a ts x rest e. ((node_reads strict room i below a ts x rest e).0, tt);
    negation = negation_reads strict room i below;
    implied = implication_reads strict room i below;
    sum = sum_reads strict room i below;
    size = size_reads strict room i below;
    tight = tight_reads strict room i below;
    quantified = quantified_read;
    bound_by_let = let_read;
  }

-- where one construct more would be one too many, nothing is read
stops_there : {A : Type 0} {P : Type 0} (part : Inside) (ts : List ParserToken) (x : A) (rest : List ParserToken) → stop_at part ts ≡ Ok (x, rest) → P
unfolding stop_at
stops_there part ts x rest e =
    elim (either (may_be_block part && is_comprehension ts)) [
      | inl is ↦ no_success _ _ (rw is at e)
      | inr a ↦ elim (either (begins part ts)) [ inl is ↦ no_success _ _ (rw (a, is) at e) | inr b ↦ no_success _ _ (rw (a, b) at e) ]
    ]

pub within_reads : (strict : Bool) (room : ℕ) → Below strict room (within strict room)
unfolding within
within_reads strict zero = record {
  node = λ a ts x rest e. stops_there inside.Node ts x rest e;
  negation = λ a ts x rest e. stops_there inside.Negation ts x rest e;
  implied = λ a ts x rest e. stops_there inside.Implied ts x rest e;
  sum = λ a ts x rest e. stops_there inside.Sum ts x rest e;
  size = λ a ts x rest e. stops_there inside.Size ts x rest e;
  tight = λ a ts x rest e. stops_there inside.Tight ts x rest e;
  quantified = λ a q p ts x rest e ws s. stops_there (inside.Quantified q p) ts x rest e;
  bound_by_let = λ a p ts x rest e ws s. stops_there (inside.Let p) ts x rest e;
}
within_reads strict (suc room) = let b = more_reads strict room (within strict room) (within_reads strict room) in record {
  node = b.node;
  negation = b.negation;
  implied = b.implied;
  sum = b.sum;
  size = b.size;
  tight = b.tight;
  quantified = b.quantified;
  bound_by_let = b.bound_by_let;
}
