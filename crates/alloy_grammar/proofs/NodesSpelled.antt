-- What is read of a node is spelled so.
use Rattle.std.proofs.Common.{◌≡◌, ℕ, suc, inl, inr, Bool, true, false, ◌&&◌, List, [], ◌∷◌, length, Ok, refl, sym, ap, subst, ◌∙◌, arith}
use Rattle.alloy_lex.specs.declared.token.Place.{Place}
use Rattle.alloy_syntax.specs.declared.class.Class.TheVariants as class
use Rattle.alloy_syntax.specs.declared.reading.Around.{Around}
use Rattle.alloy_syntax.specs.declared.reading.Around.TheVariants as around
use Rattle.alloy_syntax.specs.declared.reading.Level.{Level}
use Rattle.alloy_syntax.specs.declared.reading.Level.TheVariants as level
use Rattle.alloy_syntax.specs.declared.reading.Inside.TheVariants as inside
use Rattle.alloy_syntax.specs.declared.tree.Quantifier.{Quantifier}
use Rattle.alloy_syntax.specs.declared.tree.Quantifier.TheVariants as quantifier
use Rattle.alloy_syntax.specs.declared.tree.Prefix.{Prefix}
use Rattle.alloy_syntax.specs.declared.tree.Prefix.TheVariants as prefix
use Rattle.alloy_syntax.specs.declared.tree.Operator.TheVariants as operator
use Rattle.alloy_syntax.specs.declared.parser_token.ParserToken.{ParserToken}
use Rattle.alloy_syntax.specs.Tree.{Tree, block, chain, path, implies, implies_else, LinkTree, StepTree, joined, in_brackets, BlockTree, trees_of, links_of, steps_of}
use Rattle.alloy_syntax.specs.Readers.{Parser, next_is, after, place_at, expect, name_at, path_at, number_at, is_mark, many, behind, listed}
use Rattle.alloy_syntax.specs.Nodes.{Reader, is_inner, is_comprehension, block_over, block_tree, paren_over, is_constant, constant_of, primary_over, is_tightening, tightening_of, behind_prefix, tight_over, arguments_over, brackets_over, begins_step, step_over, path_over, begins_link, operator_of, link_over, chained, restrict_over, begins_arrow, arrow_over, arrows_over, meet_over, override_over, size_over, sum_over, is_counting, counting_of, counted_over, begins_comparison, comparing_at, comparison_over, begins_declaration, quantifier_of, negation_over, and_over, implied_over, implication_over, iff_over, node_over}
use Rattle.alloy_grammar.specs.Fronts.{Front, nothing, sign, each}
use Rattle.alloy_grammar.specs.Levels.{or_level, iff_level, implication_level, and_level, negation_level, comparison_level, counted_level, sum_level, size_level, override_level, meet_level, product_level, restrict_level, path_level, tight_level, primary_level, level_of_prefix, level_behind}
use Rattle.alloy_grammar.specs.Nodes.{class_of_prefix, class_of_quantifier, begins_operator, comma}
use Rattle.alloy_grammar.proofs.Results.{success, stop, known, either, no_success, value_is, rest_is, true_not_false}
use Rattle.alloy_grammar.proofs.Tokens.{token, marks, expect_read, spelled_read, spelled_is_one, number_read, and_left, counting_sign, counting_levels, quantifier_sign, tightening_sign, tightening_levels, constant_sign, number_of, link_sign, link_level, or_no, comparing_read, after_is_short}
use Rattle.alloy_grammar.proofs.Lists.{Taken, Shortens, many_read, many_stops, each_of, others_read}
use Rattle.alloy_grammar.proofs.ReadTrees.{Found, land, lowered, named_found, numbered_found, constant_found, bracketed_found, prefixed_found, compared_found, implies_found, implies_else_found, FoundTrees, FoundBehind, trees_found, first_found, block_found, FoundLink, chain_found, FoundStep, join_found, arguments_found, path_found, no_arguments_found, step_is_one}

-- what is read is found, and what is left is such
abbrev pub Reads : Bool → ℕ → ℕ → (List ParserToken → Type 0) → Parser Tree → Type 0
Reads strict room l E p = (ts : List ParserToken) (x : Tree) (rest : List ParserToken) → p ts ≡ Ok (x, rest) → Found strict room l x ts rest × E rest

abbrev pub any : List ParserToken → Type 0
any rest = Unit {0}

-- no `&&` and no `=>` follows
abbrev pub ends_implication : List ParserToken → Type 0
ends_implication rest = (next_is class.And rest ≡ false) × (next_is class.Implies rest ≡ false)

-- what a reader gives of what stands under one construct more, where fewer than so many nest
pub record Below (strict : Bool) (room : ℕ) (i : Reader) : Type 0 where
  pub node : (a : Around) → Reads strict room or_level any (i a inside.Node)
  pub negation : (a : Around) → Reads strict room negation_level any (i a inside.Negation)
  pub implied : (a : Around) → Reads strict room implication_level ends_implication (i a inside.Implied)
  pub sum : (a : Around) → Reads strict room sum_level any (i a inside.Sum)
  pub size : (a : Around) → Reads strict room size_level any (i a inside.Size)
  pub tight : (a : Around) → Reads strict room tight_level any (i a inside.Tight)
  pub quantified : (a : Around) (q : Quantifier) (p : Place) (ts : List ParserToken) (x : Tree) (rest : List ParserToken) → i a (inside.Quantified q p) ts ≡ Ok (x, rest)
      → (ws : List ParserToken) → sign (class_of_quantifier q) p ws ts → Found strict (suc room) negation_level x ws rest
  pub bound_by_let : (a : Around) (p : Place) (ts : List ParserToken) (x : Tree) (rest : List ParserToken) → i a (inside.Let p) ts ≡ Ok (x, rest)
      → (ws : List ParserToken) → sign class.Let p ws ts → Found strict (suc room) negation_level x ws rest

-- ---- chains

ends_of_each : {A : Type 0} (P : A → Front) (E : List ParserToken → Type 0) → ((x : A) (ts rest : List ParserToken) → P x ts rest → E rest) → (xs : List A) (ts rest : List ParserToken) → E ts → each P xs ts rest → E rest
ends_of_each P E ends [] ts rest here p = subst E p here
ends_of_each P E ends (x ∷ xs) ts rest here p = ends_of_each P E ends xs p.0 rest (ends x ts p.0 p.1) p.2

module _ (strict : Bool) (room l : ℕ) (E : List ParserToken → Type 0) (test : List ParserToken → Bool) (item : Parser LinkTree)
    (link : (ts : List ParserToken) (k : LinkTree) (rest : List ParserToken) → test ts ≡ true → item ts ≡ Ok (k, rest) → FoundLink strict (suc room) l k ts rest × E rest) where
  linked : (x : Tree) (ks : List LinkTree) (ts us rest : List ParserToken) → Found strict (suc room) (suc l) x ts us → E us → test us ≡ true → each (Taken test item) ks us rest → test rest ≡ false
      → Found strict (suc room) l (chain x (links_of ks)) ts rest × E rest
  linked x [] ts us rest f here goes p ends = true_not_false (sym goes ∙ (ap test p ∙ ends))
  linked x (k ∷ ks) ts us rest f here goes p ends = (
    chain_found strict room l x k ks ts us rest f (each_of (Taken test item) (FoundLink strict (suc room) l) (λ y vs ws t. (link vs y ws t.0 t.1).0) (k ∷ ks) us rest p),
    ends_of_each (Taken test item) E (λ y vs ws t. (link vs y ws t.0 t.1).1) (k ∷ ks) us rest here p,
  )

  links_shorten : Shortens test item
  links_shorten ts k rest goes e = let f = (link ts k rest goes e).0 in omega (arith, ap length f.word.1, f.found.shorter)

  -- what stands behind the first operand
  pub more_links_read : (x : Tree) (ts us : List ParserToken) (ks : List LinkTree) (rest : List ParserToken) → Found strict (suc room) (suc l) x ts us → E us → test us ≡ true → many test item us ≡ Ok (ks, rest)
      → Found strict (suc room) l (chain x (links_of ks)) ts rest × (E rest × (test rest ≡ false))
  more_links_read x ts us ks rest f here goes e =
      let stops = many_stops test item links_shorten us ks rest e in
      let both = linked x ks ts us rest f here goes (many_read test item us ks rest e) stops in
      (both.0, (both.1, stops))

link_read : (strict : Bool) (room : ℕ) (lv : Level) (E : List ParserToken → Type 0) (item : Parser Tree) → Reads strict (suc room) (suc (number_of lv)) E item → (ts : List ParserToken) (k : LinkTree) (rest : List ParserToken)
    → begins_link lv ts ≡ true → link_over lv item ts ≡ Ok (k, rest) → FoundLink strict (suc room) (number_of lv) k ts rest × E rest
unfolding link_over
link_read strict room lv E item reads ts k rest goes e =
    elim (known (item (after ts))) [
      | stop d is ↦ no_success _ _ (rw is at e)
      | success x is ↦ (
          let h = rw is at e in
          let r = reads (after ts) x.0 x.1 is in
          let here : LinkTree = record { operator = operator_of lv ts; place = place_at ts; operand = x.0 } in
          let f : FoundLink strict (suc room) (number_of lv) here ts x.1 = record { operator = link_level lv ts; behind = after ts; word = link_sign lv ts goes; found = r.0 } in
          (subst (λ us. FoundLink strict (suc room) (number_of lv) k ts us) (rest_is here k x.1 rest h) (subst (λ m. FoundLink strict (suc room) (number_of lv) m ts x.1) (value_is here k x.1 rest h) f), subst E (rest_is here k x.1 rest h) r.1))
    ]

pub chained_reads : (strict : Bool) (room : ℕ) (lv : Level) (E : List ParserToken → Type 0) (item : Parser Tree) → Reads strict (suc room) (suc (number_of lv)) E item
    → Reads strict (suc room) (number_of lv) (λ rest. E rest × (begins_link lv rest ≡ false)) (chained lv item)
unfolding chained
chained_reads strict room lv E item reads ts x rest e =
    elim (known (item ts)) [
      | stop d is ↦ no_success _ _ (rw is at e)
      | success y is ↦ (
          let h = rw is at e in
          let r = reads ts y.0 y.1 is in
          elim (either (begins_link lv y.1)) [
            | inr ends ↦ (
                let k = rw ends at h in
                let same = rest_is y.0 x y.1 rest k in
                (lowered (number_of lv) (omega arith) (land k r.0), (subst E same r.1, subst (λ us. begins_link lv us ≡ false) same ends)))
            | inl goes ↦ (
                let g = rw goes at h in
                elim (known (many (begins_link lv) (link_over lv item) y.1)) [
                  | stop d fails ↦ no_success _ _ (rw fails at g)
                  | success ks more ↦ (
                      let k = rw more at g in
                      let m = more_links_read strict room (number_of lv) E (begins_link lv) (link_over lv item) (link_read strict room lv E item reads) y.0 ts y.1 ks.0 ks.1 r.0 r.1 goes more in
                      let same = rest_is (chain y.0 (links_of ks.0)) x ks.1 rest k in
                      (land k m.0, (subst E same m.1.0, subst (λ us. begins_link lv us ≡ false) same m.1.1)))
                ])
          ])
    ]

-- the same, where nothing is asked of what is left
pub plain_chain : (strict : Bool) (room : ℕ) (lv : Level) (item : Parser Tree) → Reads strict (suc room) (suc (number_of lv)) any item → Reads strict (suc room) (number_of lv) any (chained lv item)
plain_chain strict room lv item reads ts x rest e = ((chained_reads strict room lv any item reads ts x rest e).0, tt)

module _ (strict : Bool) (room : ℕ) (i : Reader) (below : Below strict room i) where
  -- ---- blocks and brackets

  pub block_read : (ts : List ParserToken) (b : BlockTree) (rest : List ParserToken) → block_over i ts ≡ Ok (b, rest) → Found strict (suc room) primary_level (block b.place (trees_of b.formulas)) ts rest
  unfolding block_over
  block_read ts b rest e =
      elim (either (is_comprehension ts)) [
        | inl is ↦ no_success _ _ (rw is at e)
        | inr fails ↦ (
            let e1 = rw fails at e in
            elim (known (expect class.LeftBrace ts)) [
              | stop d is ↦ no_success _ _ (rw is at e1)
              | success o opening ↦ (
                  let e2 = rw opening at e1 in
                  elim (known (many is_inner (i around.Braces inside.Node) o.1)) [
                    | stop d is ↦ no_success _ _ (rw is at e2)
                    | success xs inner ↦ (
                        let e3 = rw inner at e2 in
                        elim (known (expect class.RightBrace xs.1)) [
                          | stop d is ↦ no_success _ _ (rw is at e3)
                          | success c closing ↦ (
                              let e4 = rw closing at e3 in
                              let here : BlockTree = record { place = o.0; formulas = xs.0 } in
                              let item : (y : Tree) (us vs : List ParserToken) → Taken is_inner (i around.Braces inside.Node) y us vs → FoundBehind strict room or_level nothing y us vs
                              = λ y us vs t. record { behind = us; separator = refl; short = omega arith; found = (below.node around.Braces us y vs t.1).0 } in
                              let all = each_of (Taken is_inner (i around.Braces inside.Node)) (FoundBehind strict room or_level nothing) item xs.0 o.1 xs.1 (many_read is_inner (i around.Braces inside.Node) o.1 xs.0 xs.1 inner) in
                              let f = block_found strict room o.0 (trees_of xs.0) ts o.1 xs.1 c.1 (expect_read class.LeftBrace ts o.0 o.1 opening) (trees_found strict room nothing xs.0 o.1 xs.1 all) (marks class.RightBrace c.0 xs.1 c.1 (expect_read class.RightBrace xs.1 c.0 c.1 closing)) in
                              subst (λ us. Found strict (suc room) primary_level (block b.place (trees_of b.formulas)) ts us) (rest_is here b c.1 rest e4)
                              (subst (λ (m : BlockTree). Found strict (suc room) primary_level (block m.place (trees_of m.formulas)) ts c.1) (value_is here b c.1 rest e4) f))
                        ])
                  ])
            ])
      ]

  pub block_tree_read : (ts : List ParserToken) (x : Tree) (rest : List ParserToken) → block_tree i ts ≡ Ok (x, rest) → Found strict (suc room) primary_level x ts rest
  unfolding block_tree
  block_tree_read ts x rest e =
      elim (known (block_over i ts)) [
        | stop d is ↦ no_success _ _ (rw is at e)
        | success b is ↦ (let h = rw is at e in land h (block_read ts b.0 b.1 is))
      ]

  pub paren_read : (ts : List ParserToken) (x : Tree) (rest : List ParserToken) → paren_over i ts ≡ Ok (x, rest) → Found strict (suc room) primary_level x ts rest
  unfolding paren_over
  paren_read ts x rest e =
      elim (known (expect class.LeftParen ts)) [
        | stop d is ↦ no_success _ _ (rw is at e)
        | success o opening ↦ (
            let e1 = rw opening at e in
            elim (known (i around.Parens inside.Node o.1)) [
              | stop d is ↦ no_success _ _ (rw is at e1)
              | success y inner ↦ (
                  let e2 = rw inner at e1 in
                  elim (known (expect class.RightParen y.1)) [
                    | stop d is ↦ no_success _ _ (rw is at e2)
                    | success c closing ↦ (
                        let e3 = rw closing at e2 in
                        land e3 (bracketed_found o.0 ts c.1 (expect_read class.LeftParen ts o.0 o.1 opening) (below.node around.Parens o.1 y.0 y.1 inner).0 (marks class.RightParen c.0 y.1 c.1 (expect_read class.RightParen y.1 c.0 c.1 closing))))
                  ])
            ])
      ]

  pub primary_reads : Reads strict (suc room) primary_level any (primary_over i)
  unfolding primary_over
  primary_reads ts x rest e =
      elim (either (next_is class.Name ts)) [
        | inl is ↦ (
            let h = rw is at e in
            elim (known (name_at ts)) [
              | stop d fails ↦ no_success _ _ (rw fails at h)
              | success n read ↦ (let k = rw read at h in let s = spelled_read class.Name ts n.0 n.1 read in (land k (named_found strict room n.0 ts n.1 (inl s) (spelled_is_one class.Name n.0 ts n.1 s)), tt))
            ])
        | inr e1 ↦ elim (either (next_is class.Path ts)) [
          | inl is ↦ (
              let h = rw (e1, is) at e in
              elim (known (path_at ts)) [
                | stop d fails ↦ no_success _ _ (rw fails at h)
                | success n read ↦ (let k = rw read at h in let s = spelled_read class.Path ts n.0 n.1 read in (land k (named_found strict room n.0 ts n.1 (inr s) (spelled_is_one class.Path n.0 ts n.1 s)), tt))
              ])
          | inr e2 ↦ elim (either (next_is class.Number ts)) [
            | inl is ↦ (
                let h = rw (e1, e2, is) at e in
                elim (known (number_at ts)) [
                  | stop d fails ↦ no_success _ _ (rw fails at h)
                  | success n read ↦ (let k = rw read at h in (land k (numbered_found strict room n.0 ts n.1 (number_read ts n.0 n.1 read)), tt))
                ])
            | inr e3 ↦ elim (either (is_constant ts)) [
              | inl is ↦ (let k = rw (e1, e2, e3, is) at e in (land k (constant_found strict room (constant_of ts) (place_at ts) ts (after ts) (constant_sign ts is)), tt))
              | inr e4 ↦ elim (either (next_is class.LeftParen ts)) [
                | inl is ↦ (paren_read ts x rest (rw (e1, e2, e3, e4, is) at e), tt)
                | inr e5 ↦ (block_tree_read ts x rest (rw (e1, e2, e3, e4, e5) at e), tt)
              ]
            ]
          ]
        ]
      ]

  -- ---- expressions

  pub behind_prefix_read : (f : Prefix) (item : Parser Tree) → Reads strict room (level_behind f) any item → (ts : List ParserToken) → sign (class_of_prefix f) (place_at ts) ts (after ts) → (x : Tree) (rest : List ParserToken)
      → behind_prefix f item ts ≡ Ok (x, rest) → Found strict (suc room) (level_of_prefix f) x ts rest
  unfolding behind_prefix
  behind_prefix_read f item reads ts s x rest e =
      elim (known (item (after ts))) [
        | stop d is ↦ no_success _ _ (rw is at e)
        | success y is ↦ (let k = rw is at e in land k (prefixed_found f (place_at ts) ts s (reads (after ts) y.0 y.1 is).0))
      ]

  pub tight_reads : (a : Around) → Reads strict (suc room) tight_level any (tight_over i a)
  unfolding tight_over
  tight_reads a ts x rest e =
      elim (either (is_tightening ts)) [
        | inl is ↦ (
            let levels = tightening_levels ts in
            let inner : Reads strict room (level_behind (tightening_of ts)) any (i a inside.Tight) = subst (λ l. Reads strict room l any (i a inside.Tight)) (sym levels.1) (below.tight a) in
            let f = behind_prefix_read (tightening_of ts) (i a inside.Tight) inner ts (tightening_sign ts is) x rest (rw is at e) in
            (subst (λ l. Found strict (suc room) l x ts rest) levels.0 f, tt))
        | inr other ↦ (lowered tight_level (omega arith) (primary_reads ts x rest (rw other at e)).0, tt)
      ]

  pub arguments_read : (ts : List ParserToken) (xs : List Tree) (rest : List ParserToken) → arguments_over i ts ≡ Ok (xs, rest) → FoundTrees strict room nothing comma (trees_of xs) ts rest
  unfolding arguments_over listed
  arguments_read ts xs rest e =
      elim (either (next_is class.RightBracket ts)) [
        | inl is ↦ (
            let h = rw is at e in
            subst (λ us. FoundTrees strict room nothing comma (trees_of xs) ts us) (rest_is [] xs ts rest h)
            (subst (λ (ys : List Tree). FoundTrees strict room nothing comma (trees_of ys) ts ts) (value_is [] xs ts rest h) (no_arguments_found strict room ts)))
        | inr other ↦ (
            let h = rw other at e in
            elim (known (i around.Brackets inside.Node ts)) [
              | stop d is ↦ no_success _ _ (rw is at h)
              | success y is ↦ (
                  let k = rw is at h in
                  let o = others_read (i around.Brackets inside.Node) y.0 y.1 xs rest k in
                  let item : (z : Tree) (us vs : List ParserToken) → Taken (next_is class.Comma) (behind (i around.Brackets inside.Node)) z us vs → FoundBehind strict room or_level comma z us vs
                  = λ z us vs t. record { behind = after us; separator = marks class.Comma (place_at us) us (after us) (token class.Comma us t.0); short = after_is_short us; found = (below.node around.Brackets (after us) z vs t.1).0 } in
                  let all = each_of (Taken (next_is class.Comma) (behind (i around.Brackets inside.Node))) (FoundBehind strict room or_level comma) item o.0 y.1 rest o.2 in
                  subst (λ (ys : List Tree). FoundTrees strict room nothing comma (trees_of ys) ts rest) o.1 (first_found strict room comma y.0 o.0 ts y.1 rest (below.node around.Brackets ts y.0 y.1 is).0 all))
            ])
      ]

  pub brackets_read : (ts : List ParserToken) (s : StepTree) (rest : List ParserToken) → brackets_over i ts ≡ Ok (s, rest) → FoundStep strict room s ts rest
  unfolding brackets_over
  brackets_read ts s rest e =
      elim (known (expect class.LeftBracket ts)) [
        | stop d is ↦ no_success _ _ (rw is at e)
        | success o opening ↦ (
            let e1 = rw opening at e in
            elim (known (arguments_over i o.1)) [
              | stop d is ↦ no_success _ _ (rw is at e1)
              | success xs inner ↦ (
                  let e2 = rw inner at e1 in
                  elim (known (expect class.RightBracket xs.1)) [
                    | stop d is ↦ no_success _ _ (rw is at e2)
                    | success c closing ↦ (
                        let e3 = rw closing at e2 in
                        let f = arguments_found o.0 xs.0 ts o.1 xs.1 c.1 (expect_read class.LeftBracket ts o.0 o.1 opening) (arguments_read o.1 xs.0 xs.1 inner) (marks class.RightBracket c.0 xs.1 c.1 (expect_read class.RightBracket xs.1 c.0 c.1 closing)) in
                        subst (λ us. FoundStep strict room s ts us) (rest_is (in_brackets o.0 xs.0) s c.1 rest e3) (subst (λ t. FoundStep strict room t ts c.1) (value_is (in_brackets o.0 xs.0) s c.1 rest e3) f))
                  ])
            ])
      ]

  pub step_read : (a : Around) (ts : List ParserToken) (s : StepTree) (rest : List ParserToken) → step_over i a ts ≡ Ok (s, rest) → FoundStep strict room s ts rest
  unfolding step_over
  step_read a ts s rest e =
      elim (either (next_is class.Dot ts)) [
        | inl is ↦ (
            let h = rw is at e in
            elim (known (tight_over i a (after ts))) [
              | stop d fails ↦ no_success _ _ (rw fails at h)
              | success x read ↦ (
                  let k = rw read at h in
                  let f = join_found (place_at ts) x.0 ts (after ts) x.1 (token class.Dot ts is) (tight_reads a (after ts) x.0 x.1 read).0 in
                  subst (λ us. FoundStep strict room s ts us) (rest_is (joined (place_at ts) x.0) s x.1 rest k) (subst (λ t. FoundStep strict room t ts x.1) (value_is (joined (place_at ts) x.0) s x.1 rest k) f))
            ])
        | inr other ↦ brackets_read ts s rest (rw other at e)
      ]

  steps_shorten : (a : Around) → Shortens begins_step (step_over i a)
  steps_shorten a ts s rest goes e = step_is_one strict room s ts rest (step_read a ts s rest e)

  path_of_steps : (a : Around) (x : Tree) (ss : List StepTree) (ts us rest : List ParserToken) → Found strict (suc room) tight_level x ts us → begins_step us ≡ true → each (Taken begins_step (step_over i a)) ss us rest → begins_step rest ≡ false
      → Found strict (suc room) path_level (path x (steps_of ss)) ts rest
  path_of_steps a x [] ts us rest f goes p ends = true_not_false (sym goes ∙ (ap begins_step p ∙ ends))
  path_of_steps a x (s ∷ ss) ts us rest f goes p ends =
      path_found strict room x s ss ts us rest f (each_of (Taken begins_step (step_over i a)) (FoundStep strict room) (λ t vs ws k. step_read a vs t ws k.1) (s ∷ ss) us rest p)

  pub path_reads : (a : Around) → Reads strict (suc room) path_level any (path_over i a)
  unfolding path_over
  path_reads a ts x rest e =
      elim (known (tight_over i a ts)) [
        | stop d is ↦ no_success _ _ (rw is at e)
        | success y is ↦ (
            let h = rw is at e in
            let f = (tight_reads a ts y.0 y.1 is).0 in
            elim (either (begins_step y.1)) [
              | inr ends ↦ (let k = rw ends at h in (lowered path_level (omega arith) (land k f), tt))
              | inl goes ↦ (
                  let g = rw goes at h in
                  elim (known (many begins_step (step_over i a) y.1)) [
                    | stop d fails ↦ no_success _ _ (rw fails at g)
                    | success ss more ↦ (
                        let k = rw more at g in
                        (land k (path_of_steps a y.0 ss.0 ts y.1 ss.1 f goes (many_read begins_step (step_over i a) y.1 ss.0 ss.1 more) (many_stops begins_step (step_over i a) (steps_shorten a) y.1 ss.0 ss.1 more)), tt))
                  ])
            ])
      ]

  pub restrict_reads : (a : Around) → Reads strict (suc room) restrict_level any (restrict_over i a)
  unfolding restrict_over
  restrict_reads a = plain_chain strict room level.Restrict (path_over i a) (path_reads a)

  pub arrow_read : (a : Around) (ts : List ParserToken) (k : LinkTree) (rest : List ParserToken) → begins_arrow ts ≡ true → arrow_over i a ts ≡ Ok (k, rest) → FoundLink strict (suc room) product_level k ts rest × any rest
  unfolding arrow_over begins_arrow
  arrow_read a ts k rest goes e =
      elim (either (is_mark ts)) [
        | inl is ↦ no_success _ _ (rw is at e)
        | inr e1 ↦ elim (either (is_mark (after ts))) [
          | inl is ↦ no_success _ _ (rw (e1, is) at e)
          | inr e2 ↦ (
              let h = rw (e1, e2) at e in
              let arrow : next_is class.Arrow ts ≡ true = or_no (next_is class.Arrow ts) (rw e1 at goes) in
              elim (known (restrict_over i a (after ts))) [
                | stop d is ↦ no_success _ _ (rw is at h)
                | success x is ↦ (
                    let m = rw is at h in
                    let here : LinkTree = record { operator = operator.Product; place = place_at ts; operand = x.0 } in
                    let f : FoundLink strict (suc room) product_level here ts x.1 = record { operator = refl; behind = after ts; word = token class.Arrow ts arrow; found = (restrict_reads a (after ts) x.0 x.1 is).0 } in
                    (subst (λ us. FoundLink strict (suc room) product_level k ts us) (rest_is here k x.1 rest m) (subst (λ j. FoundLink strict (suc room) product_level j ts x.1) (value_is here k x.1 rest m) f), tt))
              ])
        ]
      ]

  pub arrows_reads : (a : Around) → Reads strict (suc room) product_level any (arrows_over i a)
  unfolding arrows_over
  arrows_reads a ts x rest e =
      elim (known (restrict_over i a ts)) [
        | stop d is ↦ no_success _ _ (rw is at e)
        | success y is ↦ (
            let h = rw is at e in
            let f = (restrict_reads a ts y.0 y.1 is).0 in
            elim (either (begins_arrow y.1)) [
              | inr ends ↦ (let k = rw ends at h in (lowered product_level (omega arith) (land k f), tt))
              | inl goes ↦ (
                  let g = rw goes at h in
                  elim (known (many begins_arrow (arrow_over i a) y.1)) [
                    | stop d fails ↦ no_success _ _ (rw fails at g)
                    | success ks more ↦ (
                        let k = rw more at g in
                        (land k (more_links_read strict room product_level any begins_arrow (arrow_over i a) (arrow_read a) y.0 ts y.1 ks.0 ks.1 f tt goes more).0, tt))
                  ])
            ])
      ]

  pub meet_reads : (a : Around) → Reads strict (suc room) meet_level any (meet_over i a)
  unfolding meet_over
  meet_reads a = plain_chain strict room level.Meet (arrows_over i a) (arrows_reads a)

  pub override_reads : (a : Around) → Reads strict (suc room) override_level any (override_over i a)
  unfolding override_over
  override_reads a = plain_chain strict room level.Override (meet_over i a) (meet_reads a)

  pub size_reads : (a : Around) → Reads strict (suc room) size_level any (size_over i a)
  unfolding size_over
  size_reads a ts x rest e =
      elim (either (next_is class.Hash ts)) [
        | inl is ↦ (behind_prefix_read prefix.Size (i a inside.Size) (below.size a) ts (token class.Hash ts is) x rest (rw is at e), tt)
        | inr other ↦ (lowered size_level (omega arith) (override_reads a ts x rest (rw other at e)).0, tt)
      ]

  pub sum_reads : (a : Around) → Reads strict (suc room) sum_level any (sum_over i a)
  unfolding sum_over
  sum_reads a = plain_chain strict room level.Sum (size_over i a) (size_reads a)

  -- ---- formulas

  pub counted_reads : (a : Around) → Reads strict (suc room) counted_level any (counted_over i a)
  unfolding counted_over
  counted_reads a ts x rest e =
      elim (either (is_counting ts)) [
        | inl is ↦ (
            let levels = counting_levels ts in
            let inner : Reads strict room (level_behind (counting_of ts)) any (i a inside.Sum) = subst (λ l. Reads strict room l any (i a inside.Sum)) (sym levels.1) (below.sum a) in
            let f = behind_prefix_read (counting_of ts) (i a inside.Sum) inner ts (counting_sign ts is) x rest (rw is at e) in
            (subst (λ l. Found strict (suc room) l x ts rest) levels.0 f, tt))
        | inr other ↦ (lowered counted_level (omega arith) (sum_reads a ts x rest (rw other at e)).0, tt)
      ]

  pub comparison_reads : (a : Around) → Reads strict (suc room) comparison_level any (comparison_over i a)
  unfolding comparison_over
  comparison_reads a ts x rest e =
      elim (known (counted_over i a ts)) [
        | stop d is ↦ no_success _ _ (rw is at e)
        | success y is ↦ (
            let h = rw is at e in
            let f = (counted_reads a ts y.0 y.1 is).0 in
            elim (either (begins_comparison a y.1)) [
              | inr ends ↦ (let k = rw ends at h in (lowered comparison_level (omega arith) (land k f), tt))
              | inl goes ↦ (
                  let g = rw goes at h in
                  elim (known (comparing_at y.1)) [
                    | stop d fails ↦ no_success _ _ (rw fails at g)
                    | success c read ↦ (
                        let k = rw read at g in
                        elim (known (counted_over i a c.1)) [
                          | stop d fails ↦ no_success _ _ (rw fails at k)
                          | success z right ↦ (
                              let m = rw right at k in
                              let s = comparing_read a y.1 c.0 c.1 goes read in
                              (land m (compared_found c.0 ts f s.0 s.1 (counted_reads a c.1 z.0 z.1 right).0), tt))
                        ])
                  ])
            ])
      ]

  pub negation_reads : (a : Around) → Reads strict (suc room) negation_level any (negation_over i a)
  unfolding negation_over
  negation_reads a ts x rest e =
      elim (either (next_is class.Not ts)) [
        | inl is ↦ (behind_prefix_read prefix.Not (i a inside.Negation) (below.negation a) ts (token class.Not ts is) x rest (rw is at e), tt)
        | inr e1 ↦ elim (either (next_is class.All ts)) [
          | inl is ↦ (below.quantified a quantifier.All (place_at ts) (after ts) x rest (rw (e1, is) at e) ts (token class.All ts is), tt)
          | inr e2 ↦ elim (either (next_is class.Let ts)) [
            | inl is ↦ (below.bound_by_let a (place_at ts) (after ts) x rest (rw (e1, e2, is) at e) ts (token class.Let ts is), tt)
            | inr e3 ↦ elim (either (is_counting ts && begins_declaration a (after ts))) [
              | inl is ↦ (below.quantified a (quantifier_of ts) (place_at ts) (after ts) x rest (rw (e1, e2, e3, is) at e) ts (quantifier_sign ts (and_left (is_counting ts) (begins_declaration a (after ts)) is)), tt)
              | inr other ↦ (lowered negation_level (omega arith) (comparison_reads a ts x rest (rw (e1, e2, e3, other) at e)).0, tt)
            ]
          ]
        ]
      ]

  pub and_reads : (a : Around) → Reads strict (suc room) and_level (λ rest. next_is class.And rest ≡ false) (and_over i a)
  unfolding and_over begins_link
  and_reads a ts x rest e = let r = chained_reads strict room level.And any (negation_over i a) (negation_reads a) ts x rest e in (r.0, r.1.1)

  pub implied_reads : (a : Around) (left : Tree) (p : Place) (ws us : List ParserToken) → Found strict (suc room) and_level left ws us → (ts : List ParserToken) → sign class.Implies p us ts → (x : Tree) (rest : List ParserToken)
      → implied_over i a left p ts ≡ Ok (x, rest) → Found strict (suc room) implication_level x ws rest × ends_implication rest
  unfolding implied_over
  implied_reads a left p ws us f ts s x rest e =
      elim (known (i a inside.Implied ts)) [
        | stop d is ↦ no_success _ _ (rw is at e)
        | success y is ↦ (
            let h = rw is at e in
            let r = below.implied a ts y.0 y.1 is in
            elim (either (next_is class.Else y.1)) [
              | inr fails ↦ (let k = rw fails at h in (land k (implies_found p ws f s r.0 fails), subst ends_implication (rest_is (implies left p y.0) x y.1 rest k) r.1))
              | inl word ↦ (
                  let g = rw word at h in
                  elim (known (i a inside.Implied (after y.1))) [
                    | stop d fails ↦ no_success _ _ (rw fails at g)
                    | success z other ↦ (
                        let k = rw other at g in
                        let q = below.implied a (after y.1) z.0 z.1 other in
                        (land k (implies_else_found p ws f s r.0 (marks class.Else (place_at y.1) y.1 (after y.1) (token class.Else y.1 word)) q.0), subst ends_implication (rest_is (implies_else left p y.0 z.0) x z.1 rest k) q.1))
                  ])
            ])
      ]

  pub implication_reads : (a : Around) → Reads strict (suc room) implication_level ends_implication (implication_over i a)
  unfolding implication_over
  implication_reads a ts x rest e =
      elim (known (and_over i a ts)) [
        | stop d is ↦ no_success _ _ (rw is at e)
        | success y is ↦ (
            let h = rw is at e in
            let r = and_reads a ts y.0 y.1 is in
            elim (either (next_is class.Implies y.1)) [
              | inr fails ↦ (let k = rw fails at h in (lowered implication_level (omega arith) (land k r.0), subst ends_implication (rest_is y.0 x y.1 rest k) (r.1, fails)))
              | inl word ↦ implied_reads a y.0 (place_at y.1) ts y.1 r.0 (after y.1) (token class.Implies y.1 word) x rest (rw word at h)
            ])
      ]

  pub iff_reads : (a : Around) → Reads strict (suc room) iff_level (λ rest. ends_implication rest × (next_is class.Iff rest ≡ false)) (iff_over i a)
  unfolding iff_over begins_link
  iff_reads a ts x rest e = chained_reads strict room level.Iff ends_implication (implication_over i a) (implication_reads a) ts x rest e

  pub node_reads : (a : Around) → Reads strict (suc room) or_level (λ rest. begins_operator rest ≡ false) (node_over i a)
  unfolding node_over begins_link begins_operator
  node_reads a ts x rest e =
      let r = chained_reads strict room level.Or (λ us. ends_implication us × (next_is class.Iff us ≡ false)) (iff_over i a) (iff_reads a) ts x rest e in
      (r.0, rw (r.1.1, r.1.0.1, r.1.0.0.0, r.1.0.0.1) refl)
