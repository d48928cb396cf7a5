-- The instances of a problem with all facts are those with the text's own facts in which each ordering is an order.
use Rattle.std.specs.Prelude.{slice_index_or, flat_map, codes, if◌then◌else◌, is_none}
use Rattle.std.proofs.Common.{◌≡◌, ◌↔◌, inl, inr, ℕ, ◌+◌, ◌-◌, ◌<◌, List, [], ◌∷◌, ◌++◌, map, length, get_or, None, Result, Ok, Contains, All, refl, sym, ◌∙◌, ap, subst, arith, zero-add}
use Rattle.std.specs.List.{AllZip, range_with_len}
use Rattle.std.proofs.lemmas.List.{map-append, length-append, length-map, append-nil}
use Rattle.std.proofs.lemmas.List.Concat.{flat_map_single}
use Rattle.std.proofs.lemmas.List.Elements.{All-nil, All-contains, Contains-get_or}
use Rattle.std.proofs.lemmas.Option.{get_or_from_slice_get, slice_get_within}
use Rattle.tuple_core.specs.declared.atom.Atom.{Atom}
use Rattle.rel_formula.proofs.OpenCells.{cell_open}
use Rattle.rel_formula.proofs.OneSetOfAtoms.{only_one}
use Rattle.rel_formula.specs.declared.problem.Relation.{Relation}
use Rattle.rel_formula.specs.Kernel.{FormulaTree, rel, conjunction, formulas_of}
use Rattle.rel_formula.specs.Bounds.{Bounded, IsProblem}
use Rattle.rel_formula.specs.Shape.{IsProper}
use Rattle.rel_formula.specs.Meaning.{Structure, Truth, AllTrue}
use Rattle.rel_formula.specs.Instance.{InRelation, structure_of, IsInstance}
use Rattle.alloy_syntax.specs.declared.tree.Open.{Open}
use Rattle.alloy_syntax.specs.Tree as tree
use Rattle.alloy_syntax.specs.Tree.{ParagraphTree, ModelTree, trees_of}
use Rattle.named_model.specs.declared.named.Signature.{Signature}
use Rattle.named_model.specs.declared.named.Listing.{Listing}
use Rattle.named_model.specs.declared.fault.NameFault.{NameFault}
use Rattle.named_model.specs.Phrase.{PhraseTrees, no_phrases}
use Rattle.named_model.specs.Model.{NamedTree}
use Rattle.named_model.specs.Names.{Globals, all_resolved}
use Rattle.named_model.specs.Signatures.{no_signature, signature_at, tops, extensions, top_of}
use Rattle.named_model.specs.Declarations.{globals_of, number_in, facts_named, named_of}
use Rattle.model_sizes.specs.declared.size.Size.{Size}
use Rattle.model_sizes.specs.Sizes.{listings_of, listing_for, sizes_in}
use Rattle.model_types.specs.Typing.{formulas_settled}
use Rattle.model_types.specs.Models.{declared_in, or_same}
use Rattle.lowering_rules.specs.Parts.{marked}
use Rattle.lowering_rules.specs.Lowering.{Base, base_of, field_number}
use Rattle.lowering_rules.specs.Relations.{Outline, outlines, IsOutlined, InProduct, MayHave, signature_outline}
use Rattle.lowering_rules.specs.Formula.{parent_says, extensions_say, listing_says, signature_says, block_says, fact_says, all_facts, command_says, formula_of}
use Rattle.lowering_rules.specs.Formula as lowering
use Rattle.lowering_rules.specs.Problem.{ProblemOf}
use Rattle.lowering_rules.proofs.Atoms.{outlined}
use Rattle.lowering_rules.proofs.Outlined.{same_some}
use Rattle.lowering_rules.proofs.Paragraphs.{same_count}
use Rattle.order_lib.specs.Library as library
use Rattle.order_lib.specs.Library.{own, paragraphs_of}
use Rattle.order_lib.specs.Faults.{first_fault}
use Rattle.order_lib.specs.Expanded.{with_orderings, expanded}
use Rattle.lowering_laws.specs.Orders as orders
use Rattle.lowering_laws.specs.Orders.{Ordering, IsOrderable, SaysOrder, IsOrdered, ReadsOff}
use Rattle.lowering_laws.specs.OrderingTexts.{HasPlainNames, model_of, order_facts, relations_of, OrdersAtoms}
use Rattle.lowering_laws.proofs.Orderings.Lines.{none_in}
use Rattle.lowering_laws.proofs.Orderings.Reading.{read_off}
use Rattle.lowering_laws.proofs.Orderings.Said.{some_is, lone_is, ordered, says}
use Rattle.lowering_laws.proofs.Orderings.Listings.{true_parts, true_joined, true_of, all_true, true_among, true_field, range_parts, in_range, numbered_behind, passing}
use Rattle.lowering_laws.proofs.Orderings.Declared.{expanded_cases, with_their_own}
use Rattle.lowering_laws.proofs.Orderings.Named.{own_signature, first_named, next_named, own_there, signature_there, first_there, next_there, own_stands, signature_stands, first_stands, next_stands}
use Rattle.lowering_laws.proofs.Orderings.Facts.{Stand, fact_settled, fact_resolved}

-- ---- relations of one atom

one_place : (sizes : List Size) (s : ℕ) (t : List Atom) → InProduct sizes (s ∷ []) t → (a : Atom) × (t ≡ a ∷ [])
one_place sizes s [] h = absurd h
one_place sizes s (a ∷ []) h = (a, refl)
one_place sizes s (a ∷ b ∷ t) h = absurd h.1

module _ (m : NamedTree) (n : ℕ) (facts : List ℕ) (p : Bounded) (of : ProblemOf m n facts p) (s : List ℕ) where
  may_be_one : (r : ℕ) (t : List Atom) → MayHave of.sizes (signature_outline m of.sizes r) t → (a : Atom) × (t ≡ a ∷ [])
  may_be_one r t may =
      let one : top_of m.signatures r ∷ [] ≡ may.0 = only_one (top_of m.signatures r ∷ []) may.0 may.1 in
      one_place of.sizes (top_of m.signatures r) t (subst (λ tops. InProduct of.sizes tops t) (sym one) may.2)

  -- the tuples of a signature are atoms
  pub atoms_of : (r : ℕ) → r < length m.signatures → (t : List Atom) → InRelation p (Contains s) r t → (a : Atom) × (t ≡ a ∷ [])
  atoms_of r l t (inl low) = may_be_one r t (((outlined m n facts p of r l).lower.just t).0 low).1
  atoms_of r l t (inr (k, chosen, at)) = may_be_one r t (((outlined m n facts p of r l).upper.just t).0 (cell_open p k r t at).1)

past : (n i : ℕ) → n + 0 + i ≡ n + i
past n i = omega arith

-- ---- the facts

facts_count : (g h : Globals) (p : ParagraphTree) → length (facts_named g p) ≡ length (facts_named h p)
facts_count g h (tree.fact n b) = refl
facts_count g h (tree.signatures is_abstract mark names parent fields) = refl
facts_count g h (tree.predicate n ds b) = refl
facts_count g h (tree.function n ds mark range body) = refl
facts_count g h (tree.assertion n b) = refl
facts_count g h (tree.command kind p target scope expected) = refl

module _ (t : ModelTree) where
  abbrev e : ModelTree
  e = with_orderings t

  abbrev g : Globals
  g = globals_of e.paragraphs

  abbrev named : NamedTree
  named = named_of e

  abbrev m : NamedTree
  m = model_of e

  abbrev base : Base
  base = base_of m

  abbrev settle : PhraseTrees → PhraseTrees
  settle = or_same (formulas_settled (declared_in named) [])

  abbrev text_facts : List PhraseTrees
  text_facts = flat_map (facts_named g) t.paragraphs

  abbrev order_fact : Open → PhraseTrees
  order_fact o = all_resolved g [] (trees_of (library.order_formulas o))

  facts_are : m.facts ≡ map settle text_facts ++ map settle (map order_fact t.opens)
  facts_are =
      ap (map settle) (with_their_own (facts_named g) (λ kind p target a b expected. refl) t.paragraphs t.opens ∙ ap (λ xs. text_facts ++ xs) (flat_map_single order_fact t.opens))
      ∙ map-append settle text_facts (map order_fact t.opens)

  own_count : length (named_of t).facts ≡ length (map settle text_facts)
  own_count =
      same_count (facts_named (globals_of t.paragraphs)) (facts_named g) (facts_count (globals_of t.paragraphs) g) t.paragraphs
      ∙ sym (length-map text_facts settle)

  count : length m.facts ≡ length (named_of t).facts + length (map settle (map order_fact t.opens))
  count = ap length facts_are ∙ length-append (map settle text_facts) (map settle (map order_fact t.opens)) ∙ ap (λ n. n + length (map settle (map order_fact t.opens))) (sym own_count)

  many_orders : length (map settle (map order_fact t.opens)) ≡ length t.opens
  many_orders = length-map (map order_fact t.opens) settle ∙ length-map t.opens order_fact

  pub numbers_are : all_facts m ≡ all_facts (named_of t) ++ order_facts t
  numbers_are =
      ap (range_with_len 1) count
      ∙ range_parts 1 (length (named_of t).facts) (length (map settle (map order_fact t.opens)))
      ∙ ap (λ k. all_facts (named_of t) ++ range_with_len (1 + length (named_of t).facts) k) many_orders

  orders_say : map (fact_says m base) (order_facts t) ≡ map (block_says base) (map settle (map order_fact t.opens))
  orders_say =
      (λ i. map (λ n. block_says base (slice_index_or (facts_are i) (n - 1) no_phrases)) (range_with_len (1 + own_count i) (sym many_orders i)))
      ∙ numbered_behind (block_says base) no_phrases (map settle text_facts) (map settle (map order_fact t.opens))

  module _ (plain : HasPlainNames t) (fine : first_fault t.paragraphs t.opens ≡ None) where
    -- the fact of each ordering
    module _ (o : Open) (is : Contains t.opens o) where
      abbrev r : Ordering
      r = relations_of e o

      abbrev stands : (locals : List (List ℕ)) → ((l : List ℕ) → Contains locals l → Contains l 47 → ⊥) → Stand g o r.signature r.own (number_in g.fields (own o (codes "First"))) (number_in g.fields (own o (codes "Next"))) locals
      stands locals none = record { own_is = own_stands t plain fine o is locals none; first_is = first_stands t plain fine o is locals none; next_is = next_stands t plain fine o is locals none }

      none_plain : (l : List ℕ) → Contains [] l → Contains l 47 → ⊥
      none_plain l c d = none_in l c

      x_plain : (l : List ℕ) → Contains (codes "x" ∷ []) l → Contains l 47 → ⊥
      x_plain l c d =
          let same : codes "x" ≡ l = only_one (codes "x") l c in
          let at = only_one 120 47 (subst (λ z. Contains z 47) (sym same) d) in
          omega (arith, at)

      order_fact_says : block_says base (settle (order_fact o)) ≡ conjunction (formulas_of (orders.fact_says r))
      order_fact_says =
          let i = number_in g.fields (own o (codes "First")) in
          let j = number_in g.fields (own o (codes "Next")) in
          let whole = fact_resolved g o r.signature r.own i j (signature_stands t plain fine o is) (stands [] none_plain) (stands (codes "x" ∷ []) x_plain) in
          ap (λ x. block_says base (settle x)) whole ∙ ap (block_says base) (fact_settled o.alias.place r.signature r.own (declared_in named) i j)

    -- ---- in a problem of the whole text

    module _ (n : ℕ) (facts : List ℕ) (p : Bounded) (of : ProblemOf m n facts p) (s : List ℕ) where
      abbrev M : Structure
      M = structure_of p (Contains s)

      abbrev Holds : List FormulaTree → Type 0
      Holds fs = AllTrue M [] (formulas_of fs)

      abbrev signatures_say : List FormulaTree
      signatures_say = flat_map (signature_says m.signatures (listings_of of.command.scope)) (range_with_len 0 (length m.signatures))

      abbrev fields_say : List FormulaTree
      fields_say = lowering.fields_say base (field_number (length m.signatures) 0) m.fields

      module _ (o : Open) (is : Contains t.opens o) (signatures : Holds signatures_say) (fields : Holds fields_say) where
        abbrev q : Ordering
        q = relations_of e o

        abbrev listings : List Listing
        listings = listings_of of.command.scope

        abbrev says_of : Signature → List FormulaTree
        says_of x =
            parent_says m.signatures q.own x.parent
            ++ (if x.is_abstract then extensions_say q.own (extensions m.signatures q.own) else [])
            ++ marked x.mark (rel q.own)
            ++ listing_says x q.own (listing_for listings q.own)

        own_below : q.own < length m.signatures
        own_below = slice_get_within m.signatures q.own (own_signature o) (own_there t plain fine o is)

        own_says : Holds (says_of (own_signature o))
        own_says =
            let there : Contains (range_with_len 0 (length m.signatures)) q.own = subst (Contains (range_with_len 0 (length m.signatures))) (zero-add q.own) (in_range 0 (length m.signatures) q.own own_below) in
            let same : signature_at m.signatures q.own ≡ own_signature o = get_or_from_slice_get m.signatures q.own (own_signature o) no_signature (own_there t plain fine o is) in
            subst (λ x. Holds (says_of x)) same (true_among M (signature_says m.signatures listings) (range_with_len 0 (length m.signatures)) signatures q.own there)

        own_tuple : (u : List Atom) × InRelation p (Contains s) q.own u
        own_tuple = some_is (InRelation p (Contains s) q.own) own_says.0.0

        own_atom : (a : Atom) × (own_tuple.0 ≡ a ∷ [])
        own_atom = atoms_of m n facts p of s q.own own_below own_tuple.0 own_tuple.1

        own_alone : (u : List Atom) → InRelation p (Contains s) q.own u ↔ (u ≡ own_atom.0 ∷ [])
        own_alone u = (
          λ x. lone_is (InRelation p (Contains s) q.own) own_says.0.1.0 u own_tuple.0 x own_tuple.1 ∙ own_atom.1,
          λ x. subst (InRelation p (Contains s) q.own) (own_atom.1 ∙ sym x) own_tuple.1,
        )

        orderable : (a : Atom) → ((u : List Atom) → InRelation p (Contains s) q.own u ↔ (u ≡ a ∷ [])) → IsOrderable p s q a
        orderable a alone =
            let x = signature_there t plain fine o is in
            record {
              atoms = atoms_of m n facts p of s q.signature (slice_get_within m.signatures q.signature x.0 x.1);
              top = subst (λ ts. Contains ts q.signature) (sym of.tops) (subst (Contains (tops m.signatures)) (zero-add q.signature) (passing (λ y. is_none y.parent) 0 m.signatures q.signature x.0 x.1 (ap is_none x.2)));
              alone = alone;
            }

        fields_hold : Holds (orders.fields_say q)
        fields_hold =
            let first = true_field M base (field_number (length m.signatures) 0) m.fields fields (number_in g.fields (own o (codes "First"))) (first_named g o) (first_there t plain fine o is) in
            let next = true_field M base (field_number (length m.signatures) 0) m.fields fields (number_in g.fields (own o (codes "Next"))) (next_named g o) (next_there t plain fine o is) in
            let a = past (length m.signatures) (number_in g.fields (own o (codes "First"))) in
            let b = past (length m.signatures) (number_in g.fields (own o (codes "Next"))) in
            let one = subst (λ k. Holds (lowering.field_says base k (first_named g o))) a first in
            let two = subst (λ k. Holds (lowering.field_says base k (next_named g o))) b next in
            (one.0, (one.1.0, (two.0, tt)))

        to_order : Truth M [] (block_says base (settle (order_fact o))) → OrdersAtoms p s q
        to_order h =
            let fact : Holds (orders.fact_says q) = subst (Truth M []) (order_fact_says o is) h in
            let said : SaysOrder p s q = true_joined M (orders.fields_say q) (orders.fact_says q) fields_hold fact in
            record { own = own_atom.0; alone = own_alone; ordered = ordered p s q own_atom.0 (orderable own_atom.0 own_alone) said }

        pub reads : (h : OrdersAtoms p s q) → ReadsOff p s q h.ordered.atoms
        reads h = read_off p s q h.own (orderable h.own h.alone) h.ordered

        from_order : OrdersAtoms p s q → Truth M [] (block_says base (settle (order_fact o)))
        from_order h =
            let said : SaysOrder p s q = says p s q h.own (orderable h.own h.alone) h.ordered in
            subst (Truth M []) (sym (order_fact_says o is)) (true_parts M (orders.fields_say q) (orders.fact_says q) said).1

      abbrev Orders : Type 0
      Orders = (o : Open) → Contains t.opens o → OrdersAtoms p s (relations_of e o)

    -- the formula with the facts of orderings is true where that without them is, and the orderings are orders
    module _ (n : ℕ) (facts : List ℕ) (p : Bounded) (of : ProblemOf m n (facts ++ order_facts t) p) (s : List ℕ) where
      abbrev N : Structure
      N = structure_of p (Contains s)

      abbrev Are : List FormulaTree → Type 0
      Are fs = AllTrue N [] (formulas_of fs)

      abbrev first_part : List FormulaTree
      first_part = signatures_say n (facts ++ order_facts t) p of s ++ fields_say n (facts ++ order_facts t) p of s

      abbrev last_part : List FormulaTree
      last_part = command_says m base of.command ∷ []

      abbrev own_part : List FormulaTree
      own_part = map (fact_says m base) facts

      abbrev order_part : List FormulaTree
      order_part = map (block_says base) (map settle (map order_fact t.opens))

      all_part : map (fact_says m base) (facts ++ order_facts t) ≡ own_part ++ order_part
      all_part = map-append (fact_says m base) facts (order_facts t) ∙ ap (λ fs. own_part ++ fs) orders_say

      each_block : (os : List Open) → map (block_says base) (map settle (map order_fact os)) ≡ map (λ o. block_says base (settle (order_fact o))) os
      each_block [] = refl
      each_block (o ∷ os) = ap (λ fs. block_says base (settle (order_fact o)) ∷ fs) (each_block os)

      order_true : Are order_part → (o : Open) → Contains t.opens o → Truth N [] (block_says base (settle (order_fact o)))
      order_true h o c = true_of N (λ q. block_says base (settle (order_fact q))) t.opens (subst Are (each_block t.opens) h) o c

      true_order : ((o : Open) → Contains t.opens o → Truth N [] (block_says base (settle (order_fact o)))) → Are order_part
      true_order h = subst Are (sym (each_block t.opens)) (all_true N (λ q. block_says base (settle (order_fact q))) t.opens h)

      abbrev pub own_problem : Bounded
      own_problem = record p { formula = formula_of m of.command facts }

      own_said : IsInstance p s → Are (signatures_say n (facts ++ order_facts t) p of s) × Are (fields_say n (facts ++ order_facts t) p of s)
      own_said h =
          let whole : Are (first_part ++ map (fact_says m base) (facts ++ order_facts t) ++ last_part) = subst (Truth N []) of.formula h.holds in
          let ends = true_parts N (first_part ++ map (fact_says m base) (facts ++ order_facts t)) last_part whole in
          let front = true_parts N first_part (map (fact_says m base) (facts ++ order_facts t)) ends.0 in
          true_parts N (signatures_say n (facts ++ order_facts t) p of s) (fields_say n (facts ++ order_facts t) p of s) front.0

      apart : IsInstance p s → IsInstance own_problem s × Orders n (facts ++ order_facts t) p of s
      apart h =
          let whole : Are (first_part ++ map (fact_says m base) (facts ++ order_facts t) ++ last_part) = subst (Truth N []) of.formula h.holds in
          let ends = true_parts N (first_part ++ map (fact_says m base) (facts ++ order_facts t)) last_part whole in
          let front = true_parts N first_part (map (fact_says m base) (facts ++ order_facts t)) ends.0 in
          let said = true_parts N (signatures_say n (facts ++ order_facts t) p of s) (fields_say n (facts ++ order_facts t) p of s) front.0 in
          let parts = true_parts N own_part order_part (subst Are all_part front.1) in
          let own_true = true_joined N (first_part ++ own_part) last_part (true_joined N first_part own_part front.0 parts.0) ends.1 in (
            record { scenario = record { cells = h.scenario.cells; rising = h.scenario.rising }; holds = own_true },
            λ o c. to_order n (facts ++ order_facts t) p of s o c said.0 said.1 (order_true parts.1 o c),
          )

      together : IsInstance own_problem s → Orders n (facts ++ order_facts t) p of s → IsInstance p s
      together h each =
          let ends = true_parts N (first_part ++ own_part) last_part h.holds in
          let front = true_parts N first_part own_part ends.0 in
          let said = true_parts N (signatures_say n (facts ++ order_facts t) p of s) (fields_say n (facts ++ order_facts t) p of s) front.0 in
          let order_said = true_order (λ o c. from_order n (facts ++ order_facts t) p of s o c said.0 said.1 (each o c)) in
          let all_said = subst Are (sym all_part) (true_joined N own_part order_part front.1 order_said) in
          let whole = true_joined N (first_part ++ map (fact_says m base) (facts ++ order_facts t)) last_part (true_joined N first_part (map (fact_says m base) (facts ++ order_facts t)) front.0 all_said) ends.1 in
          record { scenario = record { cells = h.scenario.cells; rising = h.scenario.rising }; holds = subst (Truth N []) (sym of.formula) whole }

      pub named_values : IsInstance p s → (o : Open) → Contains t.opens o → (h : OrdersAtoms p s (relations_of e o)) × ReadsOff p s (relations_of e o) h.ordered.atoms
      named_values h o c =
          let both = apart h in
          let order = both.1 o c in
          let said = own_said h in
          (order, reads n (facts ++ order_facts t) p of s o c said.0 said.1 order)

-- ---- two problems with the same relations

same_arities : (sizes : List Size) (os : List Outline) (rs : List Relation) → AllZip (IsOutlined sizes) os rs → map (λ (r : Relation). r.lower.arity) rs ≡ map (λ (o : Outline). o.arity) os
same_arities sizes [] [] h = refl
same_arities sizes [] (r ∷ rs) h = absurd h
same_arities sizes (o ∷ os) [] h = absurd h
same_arities sizes (o ∷ os) (r ∷ rs) h = let rest = same_arities sizes os rs h.1 in λ i. h.0.lower.arity_is i ∷ rest i

-- a model has one problem of a command and some facts
abbrev pub AreOne : Type 0
AreOne = (m : NamedTree) (n : ℕ) (facts : List ℕ) (p q : Bounded) → IsProblem p → IsProblem q → ProblemOf m n facts p → ProblemOf m n facts q → p ≡ q

same_sizes : (a b : List Size) (r : Result (List Size) NameFault) → r ≡ Ok a → r ≡ Ok b → a ≡ b
same_sizes a b r e f = cc

module _ (one : AreOne) (m : NamedTree) (n : ℕ) (facts others : List ℕ) (p q : Bounded) (ip : IsProblem p) (iq : IsProblem q) (op : ProblemOf m n facts p) (oq : ProblemOf m n others q) where
  abbrev pub changed : Bounded
  changed = record p { formula = formula_of m op.command others }

  arities_same : map (λ (r : Relation). r.lower.arity) q.relations ≡ map (λ (r : Relation). r.lower.arity) p.relations
  arities_same =
      same_arities oq.sizes (outlines m oq.sizes) q.relations oq.relations
      ∙ ap (λ (z : List Size). map (λ (o : Outline). o.arity) (outlines m z)) (same_sizes oq.sizes op.sizes (sizes_in m n) oq.commands.sized op.commands.sized)
      ∙ sym (same_arities op.sizes (outlines m op.sizes) p.relations op.relations)

  formula_is : q.formula ≡ formula_of m op.command others
  formula_is = oq.formula ∙ ap (λ c. formula_of m c others) (same_some oq.command op.command (sym oq.commands.there ∙ op.commands.there))

  changed_problem : IsProblem changed
  changed_problem = record {
    few = ip.few;
    few_cells = ip.few_cells;
    relations = ip.relations;
    names = ip.names;
    tops = ip.tops;
    unary = ip.unary;
    rising = ip.rising;
    atoms = ip.atoms;
    proper = subst (λ ns. IsProper ns 0 (formula_of m op.command others)) arities_same (subst (IsProper (map (λ (r : Relation). r.lower.arity) q.relations) 0) formula_is iq.proper);
  }

  changed_of : ProblemOf m n others changed
  changed_of = record { command = op.command; sizes = op.sizes; commands = op.commands; relations = op.relations; tops = op.tops; formula = refl }

  pub changed_is : changed ≡ q
  changed_is = one m n others changed q changed_problem iq changed_of oq

-- ---- the law

abbrev Splits : ModelTree → ModelTree → Type 0
Splits t e = (n : ℕ) (facts : List ℕ) (p q : Bounded) → IsProblem p → IsProblem q → ProblemOf (model_of e) n (facts ++ order_facts t) p → ProblemOf (model_of e) n facts q →
    (s : List ℕ) → IsInstance p s ↔ (IsInstance q s × All (λ o. OrdersAtoms p s (relations_of e o)) t.opens)

no_order_facts : (t : ModelTree) → t.opens ≡ [] → order_facts t ≡ []
no_order_facts t none = ap (λ (os : List Open). range_with_len (1 + length (named_of t).facts) (length os)) none

without_orderings : AreOne → (t : ModelTree) → t.opens ≡ [] → Splits t t
without_orderings one t none n facts p q ip iq op oq s =
    let own = subst (λ ns. ProblemOf (model_of t) n ns p) (ap (λ ns. facts ++ ns) (no_order_facts t none) ∙ append-nil facts) op in
    let same : p ≡ q = one (model_of t) n facts p q ip iq own oq in
    let all : All (λ o. OrdersAtoms p s (relations_of t o)) t.opens = subst (All (λ o. OrdersAtoms p s (relations_of t o))) (sym none) (All-nil (λ o. OrdersAtoms p s (relations_of t o))) in
    (λ h. (subst (λ z. IsInstance z s) same h, all), λ h. subst (λ z. IsInstance z s) (sym same) h.0)

with_some : AreOne → (t : ModelTree) → HasPlainNames t → first_fault t.paragraphs t.opens ≡ None → Splits t (with_orderings t)
with_some one t plain fine n facts p q ip iq op oq s =
    let e = with_orderings t in
    let same : own_problem t plain fine n facts p op s ≡ q = changed_is one (model_of e) n (facts ++ order_facts t) facts p q ip iq op oq in (
      λ h. let both = apart t plain fine n facts p op s h in (subst (λ z. IsInstance z s) same both.0, λ k d l. both.1 (get_or t.opens k d) (Contains-get_or t.opens k d l)),
      λ h. together t plain fine n facts p op s (subst (λ z. IsInstance z s) (sym same) h.0) (λ o c. All-contains (λ o. OrdersAtoms p s (relations_of e o)) t.opens o h.1 c),
    )

pub splits : AreOne → (t e : ModelTree) → HasPlainNames t → expanded t ≡ Ok e → Splits t e
splits one t e plain is = elim (expanded_cases t e is) [
  | inl (none, same) ↦ subst (Splits t) same (without_orderings one t none)
  | inr (fine, same) ↦ subst (Splits t) same (with_some one t plain fine)
]

pub facts_are_all : (t e : ModelTree) → expanded t ≡ Ok e → all_facts (model_of e) ≡ all_facts (named_of t) ++ order_facts t
facts_are_all t e is = elim (expanded_cases t e is) [
  | inl (none, same) ↦
      let count : length (model_of t).facts ≡ length (named_of t).facts = length-map (named_of t).facts (or_same (formulas_settled (declared_in (named_of t)) [])) in
      subst (λ z. all_facts (model_of z) ≡ all_facts (named_of t) ++ order_facts t) same
      (ap (range_with_len 1) count ∙ sym (append-nil (all_facts (named_of t))) ∙ ap (λ ns. all_facts (named_of t) ++ ns) (sym (no_order_facts t none)))
  | inr (fine, same) ↦ subst (λ z. all_facts (model_of z) ≡ all_facts (named_of t) ++ order_facts t) same (numbers_are t)
]

pub values_read_off : (t e : ModelTree) → HasPlainNames t → expanded t ≡ Ok e → (n : ℕ) (facts : List ℕ) (p : Bounded) → ProblemOf (model_of e) n (facts ++ order_facts t) p →
    (s : List ℕ) → IsInstance p s → (o : Open) → Contains t.opens o → (h : OrdersAtoms p s (relations_of e o)) × ReadsOff p s (relations_of e o) h.ordered.atoms
values_read_off t e plain is n facts p of s h o c = elim (expanded_cases t e is) [
  | inl (none, same) ↦ absurd (none_in o (subst (λ os. Contains os o) none c))
  | inr (fine, same) ↦
      subst (λ z. ProblemOf (model_of z) n (facts ++ order_facts t) p → (k : OrdersAtoms p s (relations_of z o)) × ReadsOff p s (relations_of z o) k.ordered.atoms) same
      (λ op. named_values t plain fine n facts p op s h o c) of
]
