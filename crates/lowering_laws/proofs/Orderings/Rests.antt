-- What a text of the grammar leaves behind it is what stands behind a front of the tokens.
use Rattle.std.proofs.Common.{◌≡◌, inl, inr, ℕ, Bool, true, false, List, [], ◌∷◌, ◌++◌, Option, Some, None, append_assoc, sym, ◌∙◌, ap}
use Rattle.alloy_lex.specs.declared.token.Place.{Place}
use Rattle.alloy_syntax.specs.declared.class.Class.{Class}
use Rattle.alloy_syntax.specs.declared.class.Class.TheVariants as class
use Rattle.alloy_syntax.specs.declared.tree.Name.{Name}
use Rattle.alloy_syntax.specs.declared.tree.Number.{Number}
use Rattle.alloy_syntax.specs.declared.tree.MultiplicityWord.{MultiplicityWord}
use Rattle.alloy_syntax.specs.declared.tree.Parent.{Parent}
use Rattle.alloy_syntax.specs.declared.tree.Entry.{Entry}
use Rattle.alloy_syntax.specs.declared.tree.Open.{Open}
use Rattle.alloy_syntax.specs.declared.tree.Comparison.{Comparison}
use Rattle.alloy_syntax.specs.declared.tree.Comparison.TheVariants as comparison
use Rattle.alloy_syntax.specs.declared.parser_token.ParserToken.{ParserToken}
use Rattle.alloy_syntax.specs.Tree.{Tree, named, numbered, constant, bracketed, block, prefixed, chain, path, compared, implies, implies_else, quantified, bound_by_let, Trees, no_trees, more_trees, Links, no_links, more_links, Steps, no_steps, join_first, brackets_first, Declarations, no_declarations, more_declarations, Bindings, no_bindings, more_bindings, trees_of, declarations_of, DeclarationTree, BoundTree, bound_named, bound_bracketed, bound_union, bound_arrows, BoundUnions, no_unions, more_unions, BoundArrows, no_arrows, more_arrows, FieldTree, BlockTree, TargetTree, at_name, at_block, ScopeTree, ParagraphTree, signatures, fact, predicate, function, assertion, command}
use Rattle.alloy_grammar.specs.Fronts.{Front, ◌before◌, nothing, mark_of, flag, name, mark, each, listed, listed_if_any, names}
use Rattle.alloy_grammar.specs.Levels.{level_of_links}
use Rattle.alloy_grammar.specs.Nodes.{comparing_over, negated_comparison, body, comma, spells, spells_trees, spells_links, spells_steps, spells_declarations, spells_bindings}
use Rattle.alloy_grammar.specs.Bounds.{spells_bound, spells_unions, spells_arrows}
use Rattle.alloy_grammar.specs.Models.{optional, block_text, qualifier, qualifiers, parent, field, parameters_in, parameters, target, entry, exceptions, sizes, scope, expected, paragraph, opened}

pub record IsRest (ts rest : List ParserToken) : Type 0 where
  pub front : List ParserToken
  pub whole : ts ≡ front ++ rest

none : {ts rest : List ParserToken} → ts ≡ rest → IsRest ts rest
none e = record { front = []; whole = e }

pub one : {ts rest : List ParserToken} (t : ParserToken) → ts ≡ t ∷ rest → IsRest ts rest
one t e = record { front = t ∷ []; whole = e }

pub both : {ts us rest : List ParserToken} → IsRest ts us → IsRest us rest → IsRest ts rest
both {ts} {us} {rest} a b = record { front = a.front ++ b.front; whole = a.whole ∙ ap (λ xs. a.front ++ xs) b.whole ∙ sym (append_assoc a.front b.front rest) }

-- ---- single tokens and lists

flag_rest : (c : Class) (b : Bool) (ts rest : List ParserToken) → flag c b ts rest → IsRest ts rest
flag_rest c true ts rest s = one s.0 s.1
flag_rest c false ts rest s = none s

mark_rest : (m : Option MultiplicityWord) (ts rest : List ParserToken) → mark m ts rest → IsRest ts rest
mark_rest None ts rest s = none s
mark_rest (Some m) ts rest s = one s.0 s.1

pub optional_rest : {A : Type 0} (item : A → Front) → ((x : A) (ts rest : List ParserToken) → item x ts rest → IsRest ts rest) → (o : Option A) (ts rest : List ParserToken) → optional item o ts rest → IsRest ts rest
optional_rest item l None ts rest s = none s
optional_rest item l (Some x) ts rest s = l x ts rest s

pub each_rest : {A : Type 0} (item : A → Front) → ((x : A) (ts rest : List ParserToken) → item x ts rest → IsRest ts rest) → (xs : List A) (ts rest : List ParserToken) → each item xs ts rest → IsRest ts rest
each_rest item l [] ts rest s = none s
each_rest item l (x ∷ xs) ts rest s = both (l x ts s.0 s.1) (each_rest item l xs s.0 rest s.2)

abbrev pub behind_comma : {A : Type 0} → (A → Front) → A → Front
behind_comma item y = mark_of class.Comma before item y

pub comma_rest : {A : Type 0} (item : A → Front) → ((x : A) (ts rest : List ParserToken) → item x ts rest → IsRest ts rest) → (x : A) (ts rest : List ParserToken) → behind_comma item x ts rest → IsRest ts rest
comma_rest item l x ts rest s = both (one s.1.0 s.1.1) (l x s.0 rest s.2)

listed_rest : {A : Type 0} (item : A → Front) → ((x : A) (ts rest : List ParserToken) → item x ts rest → IsRest ts rest) → (xs : List A) (ts rest : List ParserToken) → listed item xs ts rest → IsRest ts rest
listed_rest item l [] ts rest s = absurd s
listed_rest item l (x ∷ xs) ts rest s = both (l x ts s.0 s.1) (each_rest (behind_comma item) (comma_rest item l) xs s.0 rest s.2)

pub name_rest : (n : Name) (ts rest : List ParserToken) → name n ts rest → IsRest ts rest
name_rest n ts rest s = one s.0 s.1

pub names_rest : (ns : List Name) (ts rest : List ParserToken) → names ns ts rest → IsRest ts rest
names_rest = listed_rest name name_rest

-- ---- bounds

mutual
  unfolding spells_bound spells_unions spells_arrows

  bound_rest : (b : BoundTree) (ts rest : List ParserToken) → spells_bound b ts rest → IsRest ts rest
  bound_rest (bound_named n) ts rest s = one s.0 s.1
  bound_rest (bound_bracketed p b) ts rest s = both (one s.1.0 s.1.1) (both (bound_rest b s.0 s.2.0 s.2.1) (one s.2.2.0 s.2.2.1))
  bound_rest (bound_union b us) ts rest s = both (bound_rest b ts s.1.0 s.1.1.1) (unions_rest us s.1.0 rest s.1.2)
  bound_rest (bound_arrows b arrows) ts rest s = both (bound_rest b ts s.1.0 s.1.1.1) (arrows_rest arrows s.1.0 rest s.1.2)

  unions_rest : (us : BoundUnions) (ts rest : List ParserToken) → spells_unions us ts rest → IsRest ts rest
  unions_rest no_unions ts rest s = none s
  unions_rest (more_unions p b us) ts rest s = both (one s.1.0 s.1.1) (both (bound_rest b s.0 s.2.0 s.2.1.1) (unions_rest us s.2.0 rest s.2.2))

  arrows_rest : (arrows : BoundArrows) (ts rest : List ParserToken) → spells_arrows arrows ts rest → IsRest ts rest
  arrows_rest no_arrows ts rest s = none s
  arrows_rest (more_arrows l p r b arrows) ts rest s =
      both (mark_rest l ts s.0 s.1)
      (both (one s.2.1.0 s.2.1.1)
      (both (mark_rest r s.2.0 s.2.2.0 s.2.2.1)
      (both (bound_rest b s.2.2.0 s.2.2.2.0 s.2.2.2.1.1) (arrows_rest arrows s.2.2.2.0 rest s.2.2.2.2))))

-- ---- expressions and formulas

negated_rest : (c : Comparison) (p : Place) (ts rest : List ParserToken) → negated_comparison c p ts rest → IsRest ts rest
negated_rest comparison.In p ts rest s = both (one s.1.0 s.1.1) (one s.2.0 s.2.1)
negated_rest comparison.Equal p ts rest s = elim s [ inl two ↦ both (one two.1.0 two.1.1) (one two.2.0 two.2.1) | inr single ↦ one single.0 single.1 ]
negated_rest comparison.Less p ts rest s = absurd s
negated_rest comparison.Greater p ts rest s = absurd s
negated_rest comparison.AtMost p ts rest s = absurd s
negated_rest comparison.AtLeast p ts rest s = absurd s

comparing_rest : (c : Comparison) (negated : Bool) (p : Place) (ts rest : List ParserToken) → comparing_over c negated p ts rest → IsRest ts rest
comparing_rest c false p ts rest s = one s.0 s.1
comparing_rest c true p ts rest s = negated_rest c p ts rest s

body_rest : (x : Tree) (P : Front) → ((ts rest : List ParserToken) → P ts rest → IsRest ts rest) → (ts rest : List ParserToken) → body x P ts rest → IsRest ts rest
body_rest x P l ts rest s = elim s [
  | inl bar ↦ both (one bar.1.0 bar.1.1) (both (l bar.0 bar.2.0 bar.2.1) (none bar.2.2.0))
  | inr braces ↦ l ts rest braces.1
]

-- no token, or a comma
abbrev between : Bool → Front
between false = nothing
between true = comma

between_rest : (b : Bool) (ts rest : List ParserToken) → between b ts rest → IsRest ts rest
between_rest false ts rest s = none s
between_rest true ts rest s = one s.0 s.1

mutual
  unfolding spells spells_trees spells_links spells_steps spells_declarations spells_bindings

  pub tree_rest : (x : Tree) (ts rest : List ParserToken) → spells x ts rest → IsRest ts rest
  tree_rest (named n) ts rest s = elim s [ inl plain ↦ one plain.0 plain.1 | inr with_slash ↦ one with_slash.0 with_slash.1 ]
  tree_rest (numbered n) ts rest s = one s.0 s.1
  tree_rest (constant c p) ts rest s = one s.0 s.1
  tree_rest (bracketed p x) ts rest s = both (one s.1.0 s.1.1) (both (tree_rest x s.0 s.2.0 s.2.1) (one s.2.2.0 s.2.2.1))
  tree_rest (block p xs) ts rest s = both (one s.1.0 s.1.1) (both (trees_rest false false xs s.0 s.2.0 s.2.1) (one s.2.2.0 s.2.2.1))
  tree_rest (prefixed f p x) ts rest s = both (one s.1.0 s.1.1) (tree_rest x s.0 rest s.2.1)
  tree_rest (chain x ls) ts rest s = both (tree_rest x ts s.1.0 s.1.1.1) (links_rest (level_of_links ls) ls s.1.0 rest s.1.2)
  tree_rest (path x ss) ts rest s = both (tree_rest x ts s.1.0 s.1.1.1) (steps_rest ss s.1.0 rest s.1.2)
  tree_rest (compared x c y) ts rest s = both (tree_rest x ts s.0 s.1.1) (both (comparing_rest c.comparison c.negated c.place s.0 s.2.0 s.2.1) (tree_rest y s.2.0 rest s.2.2.1))
  tree_rest (implies x p y) ts rest s = both (tree_rest x ts s.0 s.1.1) (both (one s.2.1.0 s.2.1.1) (both (tree_rest y s.2.0 s.2.2.0 s.2.2.1.1) (none s.2.2.2.0)))
  tree_rest (implies_else x p y z) ts rest s =
      both (tree_rest x ts s.0 s.1.1)
      (both (one s.2.1.0 s.2.1.1)
      (both (tree_rest y s.2.0 s.2.2.0 s.2.2.1.1)
      (both (one s.2.2.2.1.0 s.2.2.2.1.1) (tree_rest z s.2.2.2.0 rest s.2.2.2.2.1))))
  tree_rest (quantified q p ds x) ts rest s =
      both (one s.1.0 s.1.1) (both (declarations_rest false ds s.0 s.2.0 s.2.1.1) (body_rest x (spells x) (tree_rest x) s.2.0 rest s.2.2))
  tree_rest (bound_by_let p bs x) ts rest s =
      both (one s.1.0 s.1.1) (both (bindings_rest false bs s.0 s.2.0 s.2.1.1) (body_rest x (spells x) (tree_rest x) s.2.0 rest s.2.2))

  trees_rest : (first next : Bool) (xs : Trees) (ts rest : List ParserToken) → spells_trees (between first) (between next) xs ts rest → IsRest ts rest
  trees_rest first next no_trees ts rest s = none s
  trees_rest first next (more_trees x xs) ts rest s = both (between_rest first ts s.0 s.1) (both (tree_rest x s.0 s.2.0 s.2.1) (trees_rest next next xs s.2.0 rest s.2.2))

  links_rest : (l : ℕ) (ls : Links) (ts rest : List ParserToken) → spells_links l ls ts rest → IsRest ts rest
  links_rest l no_links ts rest s = none s
  links_rest l (more_links o p x ls) ts rest s = both (one s.1.1.0 s.1.1.1) (both (tree_rest x s.0 s.2.0 s.2.1.1) (links_rest l ls s.2.0 rest s.2.2))

  steps_rest : (ss : Steps) (ts rest : List ParserToken) → spells_steps ss ts rest → IsRest ts rest
  steps_rest no_steps ts rest s = none s
  steps_rest (join_first p x ss) ts rest s = both (one s.1.0 s.1.1) (both (tree_rest x s.0 s.2.0 s.2.1.1) (steps_rest ss s.2.0 rest s.2.2))
  steps_rest (brackets_first p xs ss) ts rest s =
      both (one s.1.0 s.1.1) (both (trees_rest false true xs s.0 s.2.0 s.2.1) (both (one s.2.2.1.0 s.2.2.1.1) (steps_rest ss s.2.2.0 rest s.2.2.2)))

  declarations_rest : (first : Bool) (ds : Declarations) (ts rest : List ParserToken) → spells_declarations (between first) ds ts rest → IsRest ts rest
  declarations_rest first no_declarations ts rest s = none s
  declarations_rest first (more_declarations d ns m x ds) ts rest s =
      both (between_rest first ts s.0 s.1)
      (both (flag_rest class.Disj d s.0 s.2.0 s.2.1)
      (both (names_rest ns s.2.0 s.2.2.0 s.2.2.1)
      (both (one s.2.2.2.1.0 s.2.2.2.1.1)
      (both (mark_rest m s.2.2.2.0 s.2.2.2.2.0 s.2.2.2.2.1)
      (both (tree_rest x s.2.2.2.2.0 s.2.2.2.2.2.0 s.2.2.2.2.2.1.1) (declarations_rest true ds s.2.2.2.2.2.0 rest s.2.2.2.2.2.2))))))

  bindings_rest : (first : Bool) (bs : Bindings) (ts rest : List ParserToken) → spells_bindings (between first) bs ts rest → IsRest ts rest
  bindings_rest first no_bindings ts rest s = none s
  bindings_rest first (more_bindings n x bs) ts rest s =
      both (between_rest first ts s.0 s.1)
      (both (one s.2.1.0 s.2.1.1)
      (both (one s.2.2.1.0 s.2.2.1.1)
      (both (tree_rest x s.2.2.0 s.2.2.2.0 s.2.2.2.1.1) (bindings_rest true bs s.2.2.2.0 rest s.2.2.2.2))))

-- ---- paragraphs

block_rest : (b : BlockTree) (ts rest : List ParserToken) → block_text b ts rest → IsRest ts rest
block_rest b ts rest s = tree_rest (block b.place (trees_of b.formulas)) ts rest s

qualifier_rest : (m : MultiplicityWord) (ts rest : List ParserToken) → qualifier m ts rest → IsRest ts rest
qualifier_rest m ts rest s = one s.1.0 s.1.1

pub qualifiers_rest : (b : Bool) (m : Option MultiplicityWord) (ts rest : List ParserToken) → qualifiers b m ts rest → IsRest ts rest
qualifiers_rest b m ts rest s = elim s [
  | inl first ↦ both (flag_rest class.Abstract b ts first.0 first.1) (optional_rest qualifier qualifier_rest m first.0 rest first.2)
  | inr second ↦ both (optional_rest qualifier qualifier_rest m ts second.0 second.1) (flag_rest class.Abstract b second.0 rest second.2)
]

pub parent_rest : (p : Parent) (ts rest : List ParserToken) → parent p ts rest → IsRest ts rest
parent_rest p ts rest s = both (one s.1.0 s.1.1) (one s.2.0 s.2.1)

pub field_rest : (f : FieldTree) (ts rest : List ParserToken) → field f ts rest → IsRest ts rest
field_rest f ts rest s =
    both (names_rest f.names ts s.0 s.1) (both (one s.2.1.0 s.2.1.1) (both (mark_rest f.mark s.2.0 s.2.2.0 s.2.2.1) (bound_rest f.bound s.2.2.0 rest s.2.2.2)))

fields_rest : (fs : List FieldTree) (ts rest : List ParserToken) → listed_if_any field fs ts rest → IsRest ts rest
fields_rest [] ts rest s = none s
fields_rest (f ∷ fs) ts rest s = listed_rest field field_rest (f ∷ fs) ts rest s

parameters_in_rest : (c d : Class) (ds : List DeclarationTree) (ts rest : List ParserToken) → parameters_in c d ds ts rest → IsRest ts rest
parameters_in_rest c d ds ts rest s = both (one s.1.0 s.1.1) (both (declarations_rest false (declarations_of ds) s.0 s.2.0 s.2.1) (one s.2.2.0 s.2.2.1))

parameters_rest : (ds : List DeclarationTree) (ts rest : List ParserToken) → parameters ds ts rest → IsRest ts rest
parameters_rest ds ts rest s = elim s [
  | inl empty ↦ none empty.1
  | inr some ↦ elim some [
    | inl square ↦ parameters_in_rest class.LeftBracket class.RightBracket ds ts rest square
    | inr round ↦ parameters_in_rest class.LeftParen class.RightParen ds ts rest round
  ]
]

target_rest : (t : TargetTree) (ts rest : List ParserToken) → target t ts rest → IsRest ts rest
target_rest (at_name n) ts rest s = one s.0 s.1
target_rest (at_block label b) ts rest s = both (optional_rest name name_rest label ts s.0 s.1) (block_rest b s.0 rest s.2)

entry_rest : (e : Entry) (ts rest : List ParserToken) → entry e ts rest → IsRest ts rest
entry_rest e ts rest s = both (flag_rest class.Exactly e.exactly ts s.0 s.1) (both (one s.2.1.0 s.2.1.1) (one s.2.2.0 s.2.2.1))

exceptions_rest : (es : List Entry) (ts rest : List ParserToken) → exceptions es ts rest → IsRest ts rest
exceptions_rest [] ts rest s = none s
exceptions_rest (e ∷ es) ts rest s = both (one s.1.0 s.1.1) (listed_rest entry entry_rest (e ∷ es) s.0 rest s.2)

sizes_rest : (n : Option Number) (es : List Entry) (ts rest : List ParserToken) → sizes n es ts rest → IsRest ts rest
sizes_rest (Some n) es ts rest s = both (one s.1.0 s.1.1) (exceptions_rest es s.0 rest s.2)
sizes_rest None es ts rest s = listed_rest entry entry_rest es ts rest s

scope_rest : (z : ScopeTree) (ts rest : List ParserToken) → scope z ts rest → IsRest ts rest
scope_rest z ts rest s = both (one s.1.0 s.1.1) (sizes_rest z.default z.entries s.0 rest s.2)

expected_rest : (n : Number) (ts rest : List ParserToken) → expected n ts rest → IsRest ts rest
expected_rest n ts rest s = both (one s.1.0 s.1.1) (one s.2.0 s.2.1)

pub paragraph_rest : (x : ParagraphTree) (ts rest : List ParserToken) → paragraph x ts rest → IsRest ts rest
paragraph_rest (signatures is_abstract m ns p fs) ts rest s =
    both (qualifiers_rest is_abstract m ts s.0 s.1)
    (both (one s.2.1.0 s.2.1.1)
    (both (names_rest ns s.2.0 s.2.2.0 s.2.2.1)
    (both (optional_rest parent parent_rest p s.2.2.0 s.2.2.2.0 s.2.2.2.1)
    (both (one s.2.2.2.2.1.0 s.2.2.2.2.1.1)
    (both (fields_rest fs s.2.2.2.2.0 s.2.2.2.2.2.0 s.2.2.2.2.2.1) (one s.2.2.2.2.2.2.0 s.2.2.2.2.2.2.1))))))
paragraph_rest (fact n b) ts rest s = both (one s.1.0 s.1.1) (both (optional_rest name name_rest n s.0 s.2.0 s.2.1) (block_rest b s.2.0 rest s.2.2))
paragraph_rest (predicate n ds b) ts rest s =
    both (one s.1.0 s.1.1) (both (one s.2.1.0 s.2.1.1) (both (parameters_rest ds s.2.0 s.2.2.0 s.2.2.1) (block_rest b s.2.2.0 rest s.2.2.2)))
paragraph_rest (function n ds m range result) ts rest s =
    both (one s.1.0 s.1.1)
    (both (one s.2.1.0 s.2.1.1)
    (both (parameters_rest ds s.2.0 s.2.2.0 s.2.2.1)
    (both (one s.2.2.2.1.0 s.2.2.2.1.1)
    (both (mark_rest m s.2.2.2.0 s.2.2.2.2.0 s.2.2.2.2.1)
    (both (tree_rest range s.2.2.2.2.0 s.2.2.2.2.2.0 s.2.2.2.2.2.1.1)
    (both (one s.2.2.2.2.2.2.1.0 s.2.2.2.2.2.2.1.1)
    (both (tree_rest result s.2.2.2.2.2.2.0 s.2.2.2.2.2.2.2.0 s.2.2.2.2.2.2.2.1.1) (one s.2.2.2.2.2.2.2.2.0 s.2.2.2.2.2.2.2.2.1))))))))
paragraph_rest (assertion n b) ts rest s = both (one s.1.0 s.1.1) (both (one s.2.1.0 s.2.1.1) (block_rest b s.2.0 rest s.2.2))
paragraph_rest (command k p t z e) ts rest s =
    both (one s.1.0 s.1.1)
    (both (target_rest t s.0 s.2.0 s.2.1)
    (both (optional_rest scope scope_rest z s.2.0 s.2.2.0 s.2.2.1) (optional_rest expected expected_rest e s.2.2.0 rest s.2.2.2)))

pub opened_rest : (o : Open) (ts rest : List ParserToken) → opened o ts rest → IsRest ts rest
opened_rest o ts rest s =
    both (one s.1.0 s.1.1)
    (both (one s.2.1.0 s.2.1.1)
    (both (one s.2.2.1.0 s.2.2.1.1)
    (both (one s.2.2.2.1.0 s.2.2.2.1.1)
    (both (one s.2.2.2.2.1.0 s.2.2.2.2.1.1)
    (both (one s.2.2.2.2.2.1.0 s.2.2.2.2.2.1.1) (one s.2.2.2.2.2.2.0 s.2.2.2.2.2.2.1))))))
