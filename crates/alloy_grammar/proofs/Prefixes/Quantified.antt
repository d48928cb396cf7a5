-- What reading gives of quantifiers and lets, and of all that stands under constructs.
use Rattle.std.proofs.Common.{◌≡◌, ◌⊎◌, ℕ, zero, suc, inl, inr, Bool, true, false, ◌&&◌, if◌then◌else◌, List, [], ◌∷◌, Result, Ok, Some, refl, sym, ap, subst, ◌∙◌}
use Rattle.alloy_lex.specs.declared.token.Place.{Place}
use Rattle.alloy_syntax.specs.declared.class.Class.{Class}
use Rattle.alloy_syntax.specs.declared.class.Class.TheVariants as class
use Rattle.alloy_syntax.specs.declared.reading.Form.TheVariants as form
use Rattle.alloy_syntax.specs.declared.reading.Around.{Around}
use Rattle.alloy_syntax.specs.declared.reading.Around.TheVariants as around
use Rattle.alloy_syntax.specs.declared.reading.Inside.{Inside}
use Rattle.alloy_syntax.specs.declared.reading.Inside.TheVariants as inside
use Rattle.alloy_syntax.specs.declared.tree.Name.{Name}
use Rattle.alloy_syntax.specs.declared.tree.Quantifier.{Quantifier}
use Rattle.alloy_syntax.specs.declared.parser_token.ParserToken.{ParserToken}
use Rattle.alloy_syntax.specs.Class.{is_class}
use Rattle.alloy_syntax.specs.Tree.{Tree}
use Rattle.alloy_syntax.specs.Readers.{ParseStopView, refused, too_deep, unsupported, ◌>>=◌, next_is, after, expect, spelled_at, name_at, is_mark, after_mark, multiplicity_of, names_at}
use Rattle.alloy_syntax.specs.Nodes.{Reader, is_comprehension, may_be_block, begins, stop_at, node_over, is_single, after_disj, second_is_refused, one_name, are_several, one_alone, variable_names, variables_over, declaration_over, another_declaration, more_declarations, declarations_over, body_over, quantified_over, binding_over, bindings_over, let_over, inside_over, within}
use Rattle.alloy_grammar.specs.Fronts.{Front, names}
use Rattle.alloy_grammar.specs.Nodes.{begins_operator, unless_operator}
use Rattle.alloy_grammar.proofs.Results.{success, stop, known, either, no_success, done, done_is}
use Rattle.alloy_grammar.proofs.Tokens.{class_is, and_left, and_right, multiplicity_sign}
use Rattle.alloy_grammar.proofs.NodesSpelled.{node_reads}
use Rattle.alloy_grammar.proofs.Quantified.{names_read, within_reads}
use Rattle.alloy_grammar.proofs.Faults.LastTokens.{all_last}
use Rattle.alloy_grammar.specs.Refusals.Texts.{next_terminal}
use Rattle.alloy_grammar.proofs.Prefixes.CompletedReadings.{Then, Token, Maybe, some, CommaBefore, this, that, no_more, one_more, Listed, Moved, Closing, Stopped, Gives, gone, ended, Goes, close_none, close_token, close_then, close_name, close_names, moved_then, moved_map, moved_one, moved_sign, moved_token, moved_maybe, moved_unless_operator, stopped_map, stopped_close, stopped_then, stopped_here, stopped_after, not_there, gives_no_more, gives_map, gives_behind, gives_then, gives_last, gives_choice, expect_gives, spelled_gives, gives_many, gives_listed, names_give}
use Rattle.alloy_grammar.proofs.Prefixes.Texts.{Node, Word, Names, Variables, Declaration, Binding, Body, Quantified, Let, Part}
use Rattle.alloy_grammar.proofs.Prefixes.Openings.{close_sum, close_body, close_domain, close_part, opens_part, opens_block}
use Rattle.alloy_grammar.proofs.Prefixes.Nodes.{block_tree_gives, negation_gives, implication_gives, size_gives, tight_gives, sum_gives, node_gives}

-- ---- words that may stand there

pub moved_flag : (c : Class) (ts : List ParserToken) → Moved (Maybe (Token c)) ts (if next_is c ts then after ts else ts)
moved_flag c ts =
    elim (either (next_is c ts)) [
      | inl is ↦ rw is (moved_map (λ us vs t. some t) (moved_token c ts is))
      | inr fails ↦ rw fails (moved_maybe (Token c) ts)
    ]

pub moved_word : (ts : List ParserToken) → Moved (Maybe Word) ts (after_mark ts)
unfolding after_mark
moved_word ts =
    elim (either (is_mark ts)) [
      | inl is ↦ rw is (moved_map (λ us vs t. some (record { multiplicity = multiplicity_of ts; token = t })) (moved_sign (multiplicity_sign ts is)))
      | inr fails ↦ rw fails (moved_maybe Word ts)
    ]

-- ---- variables

-- where a second variable is refused, behind a comma, a text would go on with a name
second_gives : {A : Type 0} {M F : Front} (close : Closing F) → ((rest : List ParserToken) → next_terminal (close.tokens rest) ≡ Some class.Name) → {ts : List ParserToken} (us : List ParserToken) → Moved M ts us → CommaBefore ts us
    → Gives (Then M F) ts (second_is_refused {A = A} us)
unfolding spelled_at next_is
second_gives {A} {M} {F} close first [] m before = ended (refused []) refl (stopped_after m (refused []) close refl (λ s. not_there s) tt)
second_gives {A} {M} {F} close first (t ∷ us) m before =
    elim (either (is_class t.class class.Name)) [
      | inl is ↦ rw is (ended (unsupported form.Several (t ∷ us)) refl (stopped_after m (unsupported form.Several (t ∷ us)) close refl (λ _ rest. first rest ∙ sym (ap (λ (c : Class). Some c) (class_is t.class class.Name is))) (is, before)))
      | inr fails ↦ rw fails (ended (refused (t ∷ us)) refl (stopped_after m (refused (t ∷ us)) close refl (λ s. not_there s) tt))
    ]

-- behind a comma, and a `disj` if one is there
disj_between : (ts : List ParserToken) → (after ts ≡ after_disj (after ts)) ⊎ ((next_is class.Disj (after ts) ≡ true) × (after (after ts) ≡ after_disj (after ts)))
disj_between ts = elim (either (next_is class.Disj (after ts))) [ inl is ↦ inr (is, rw is refl) | inr fails ↦ inl (rw fails refl) ]

-- what was read is one
abbrev read_names : List Name → List ParserToken → Result (List Name × List ParserToken) ParseStopView
read_names ns ts = Ok (ns, ts)

same_read : (x y : List Name × List ParserToken) → done x ≡ done y → x ≡ y
same_read x y e = done_is x y e

alone_is : (single : Bool) (ts : List ParserToken) (x : List Name × List ParserToken) → are_several x.0 ≡ false → one_alone single ts x.0 x.1 ≡ Ok x
alone_is true ts x e = rw e refl
alone_is false ts x e = refl

one_name_gives : Goes one_name Names
unfolding one_name
one_name_gives ts =
    gives_then (spelled_gives class.Name refl ts) (close_none (Then (Token class.Comma) (Token class.Name))) (λ x.
    gives_choice (next_is class.Comma x.1)
    (λ is. gives_map (λ us vs t. one_more vs t (no_more refl)) (second_gives close_name (λ rest. refl) (after x.1) (moved_token class.Comma x.1 is) (x.1, all_last x.1, is, inl refl)))
    (λ _. gives_no_more (Then (Token class.Comma) (Token class.Name)) (x.0 ∷ []) x.1))

one_is_alone : (ts : List ParserToken) (x : List Name × List ParserToken) → one_name ts ≡ Ok x → are_several x.0 ≡ false
unfolding one_name
one_is_alone ts x e =
    elim (known (name_at ts)) [
      | stop d is ↦ no_success _ _ (rw is at e)
      | success n is ↦ (
          let h = rw is at e in
          elim (either (next_is class.Comma n.1)) [
            | inl more ↦ elim (known (name_at (after n.1))) [ stop d fails ↦ no_success _ _ (rw (more, fails) at h) | success m second ↦ no_success _ _ (rw (more, second) at h) ]
            | inr alone ↦ subst (λ (y : List Name × List ParserToken). are_several y.0 ≡ false) (same_read (n.0 ∷ [], n.1) x (rw alone at h)) refl
          ])
    ]

-- the names and their colon
abbrev with_colon : Result (List Name × List ParserToken) ParseStopView → Result (List Name × List ParserToken) ParseStopView
with_colon r = r >>= λ ns. expect class.Colon ns.1 >>= λ c. Ok (ns.0, c.1)

names_of : (r : Result (List Name × List ParserToken) ParseStopView) (x : List Name × List ParserToken) → with_colon r ≡ Ok x → (us : List ParserToken) × (r ≡ Ok (x.0, us))
names_of r x e =
    elim (known r) [
      | stop d is ↦ no_success _ _ (rw is at e)
      | success ns is ↦ (
          let h = rw is at e in
          elim (known (expect class.Colon ns.1)) [
            | stop d fails ↦ no_success _ _ (rw fails at h)
            | success c colon ↦ (ns.1, is ∙ ap (λ (m : List Name). read_names m ns.1) (ap (λ (y : List Name × List ParserToken). y.0) (same_read (ns.0, c.1) x (rw colon at h))))
          ])
    ]

colon_then : (single : Bool) (ts : List ParserToken) (r : Result (List Name × List ParserToken) ParseStopView)
    → (r >>= λ ns. expect class.Colon ns.1 >>= λ c. one_alone single ts ns.0 c.1) ≡ (with_colon r >>= λ x. one_alone single ts x.0 x.1)
colon_then single ts r =
    elim (known r) [
      | stop d is ↦ rw is refl
      | success ns is ↦ rw is (elim (known (expect class.Colon ns.1)) [ stop d fails ↦ rw fails refl | success c colon ↦ rw colon refl ])
    ]

name_next : (t : ParserToken) (ts rest : List ParserToken) → ts ≡ t ∷ rest → t.class ≡ class.Name → next_is class.Name ts ≡ true
unfolding next_is is_class
name_next t ts rest e is = ap (next_is class.Name) e ∙ ap (λ c. is_class c class.Name) is

comma_next : (t : ParserToken) (ts rest : List ParserToken) → ts ≡ t ∷ rest → t.class ≡ class.Comma → next_is class.Comma ts ≡ true
unfolding next_is is_class
comma_next t ts rest e is = ap (next_is class.Comma) e ∙ ap (λ c. is_class c class.Comma) is

-- the second of several names, behind the first and a comma
second_stops : (ts : List ParserToken) (ns : List Name) (us : List ParserToken) → names ns ts us → are_several ns ≡ true → Stopped (Then Names (Token class.Colon)) ts (unsupported form.Several (after (after ts)))
second_stops ts [] us p e = absurd cc
second_stops ts (n ∷ []) us p e = absurd cc
second_stops ts (n ∷ m ∷ ms) us p e =
    let first = p.1 in
    let comma = p.2.1.1 in
    let second = p.2.1.2 in
    let here = p.2.1.0 in
    let d = unsupported form.Several here in
    let behind : here ≡ after (after ts) = sym (ap (λ (vs : List ParserToken). after (after vs)) first.1 ∙ ap after comma.1) in
    let s = stopped_after (moved_one class.Comma comma.0 p.0 here comma.1 comma.2) d close_name refl (λ _ rest. sym (ap next_terminal second.1 ∙ ap (λ (c : Class). Some c) second.2))
    (name_next second.0 here p.2.0 second.1 second.2, (p.0, all_last p.0, comma_next comma.0 p.0 here comma.1 comma.2, inl (ap after comma.1))) in
    let t = stopped_map (λ vs ws x. one_more x.middle x.first x.second) (stopped_close s (close_none (Then (Token class.Comma) (Token class.Name)))) in
    subst (λ vs. Stopped (Then Names (Token class.Colon)) ts (unsupported form.Several vs)) behind (stopped_close (stopped_then (moved_one class.Name first.0 ts p.0 first.1 first.2) t) (close_token class.Colon refl))

no_word : (c : Class) (ts : List ParserToken) → next_is c ts ≡ false → (if next_is c ts then after ts else ts) ≡ ts
no_word c ts fails = rw fails refl

colon_gives : {F : Front} {ts : List ParserToken} {r : Result (List Name × List ParserToken) ParseStopView} → Gives F ts r → Gives (Then F (Token class.Colon)) ts (with_colon r)
colon_gives h = gives_then h (close_token class.Colon refl) (λ x. gives_last _ (expect_gives class.Colon refl x.1))

-- several names are refused at the second, where one alone may stand
named_gives : (single : Bool) (ts : List ParserToken) (x : List Name × List ParserToken) → (single && next_is class.Disj ts) ≡ false → with_colon (names_at (after_disj ts)) ≡ Ok x
    → {r : Result (List Name × List ParserToken) ParseStopView} → r ≡ one_alone single ts x.0 x.1 → Moved Variables ts x.1 → Gives Variables ts r
named_gives false ts x other e is m = gone x is m
named_gives true ts x other e is m =
    elim (either (are_several x.0)) [
      | inr few ↦ gone x (is ∙ alone_is true ts x few) m
      | inl several ↦ (
          let found = names_of (names_at (after_disj ts)) x e in
          let here : names x.0 ts found.0 = (names_read ts x.0 found.0 (subst (λ us. names_at us ≡ Ok (x.0, found.0)) (no_word class.Disj ts other) found.1)).0 in
          ended (unsupported form.Several (after (after ts))) (is ∙ rw several refl) (stopped_then (moved_maybe (Token class.Disj) ts) (second_stops ts x.0 found.0 here several)))
    ]

variables_give : (single : Bool) → Goes (variables_over single) Variables
unfolding variables_over variable_names
variables_give single ts =
    elim (either (single && next_is class.Disj ts)) [
      | inl both ↦ rw both (subst (λ r. Gives Variables ts r) (sym (colon_then single ts (one_name (after ts))))
          (gives_behind (moved_map (λ us vs t. some t) (moved_token class.Disj ts (and_right single (next_is class.Disj ts) both)))
          (elim (colon_gives (one_name_gives (after ts))) [
            | ended d e s ↦ ended d (ap (λ (r : Result (List Name × List ParserToken) ParseStopView). r >>= λ x. one_alone single ts x.0 x.1) e) s
            | gone x e m ↦ gone x (ap (λ (r : Result (List Name × List ParserToken) ParseStopView). r >>= λ y. one_alone single ts y.0 y.1) e ∙ alone_is single ts x (one_is_alone (after ts) _ (names_of (one_name (after ts)) x e).1)) m
          ])))
      | inr other ↦ rw other (subst (λ r. Gives Variables ts r) (sym (colon_then single ts (names_at (after_disj ts))))
          (elim (colon_gives (names_give (after_disj ts))) [
            | ended d e s ↦ ended d (ap (λ (r : Result (List Name × List ParserToken) ParseStopView). r >>= λ x. one_alone single ts x.0 x.1) e) (stopped_then (moved_flag class.Disj ts) s)
            | gone x e m ↦ named_gives single ts x other e (ap (λ (r : Result (List Name × List ParserToken) ParseStopView). r >>= λ y. one_alone single ts y.0 y.1) e) (moved_then (moved_flag class.Disj ts) m)
          ]))
    ]

-- ---- declarations, lets and bodies

then_first : {F G H : Front} (ts rest : List ParserToken) → Then F (Then G H) ts rest → Then (Then F G) H ts rest
then_first ts rest t = record { middle = t.second.middle; first = record { middle = t.middle; first = t.first; second = t.second.first }; second = t.second.second }

module _ (i : Reader) (below : (a : Around) (part : Inside) → Goes (i a part) (Part part)) where
  declaration_gives : (single : Bool) → Goes (declaration_over i single) Declaration
  unfolding declaration_over
  declaration_gives single ts = gives_then (variables_give single ts) close_domain (λ ns. gives_behind (moved_word ns.1) (gives_last _ (sum_gives i below around.Parens (after_mark ns.1))))

  another_gives : (single : Bool) (ts : List ParserToken) → next_is class.Comma ts ≡ true → Gives (Then (Token class.Comma) Declaration) ts (another_declaration i single ts)
  unfolding another_declaration
  another_gives single ts is =
      gives_choice single
      (λ _. gives_map (λ us vs t. record { middle = t.first.middle; first = t.first.first; second = then_first t.first.middle vs (record { middle = t.middle; first = t.first.second; second = t.second }) })
      (second_gives (close_then (close_then close_names (close_token class.Colon refl)) close_domain) (λ rest. refl) (after_disj (after ts)) (moved_then (moved_token class.Comma ts is) (moved_flag class.Disj (after ts))) (ts, all_last ts, is, disj_between ts)))
      (λ _. gives_behind (moved_token class.Comma ts is) (declaration_gives false (after ts)))

  pub declarations_give : (single : Bool) → Goes (declarations_over i single) (Listed Declaration)
  unfolding declarations_over more_declarations
  declarations_give single ts =
      gives_then (declaration_gives single ts) (close_none (Then (Token class.Comma) Declaration)) (λ d. gives_last _ (gives_many (next_is class.Comma) (another_declaration i single) (another_gives single) d.1))

  binding_gives : Goes (binding_over i) Binding
  unfolding binding_over
  binding_gives ts =
      gives_then (spelled_gives class.Name refl ts) (close_then (close_token class.Equal refl) close_sum) (λ n.
      gives_then (expect_gives class.Equal refl n.1) close_sum (λ q. gives_last _ (sum_gives i below around.Parens q.1)))

  module _ (ends : (a : Around) (ts : List ParserToken) (x : Tree × List ParserToken) → node_over i a ts ≡ Ok x → begins_operator x.1 ≡ false) where
    abbrev close_unless_operator : Closing unless_operator
    close_unless_operator = record { tokens = λ rest. rest; calm = λ rest c. c; text = λ rest c. (refl, c.no_operator) }

    barred_gives : (a : Around) → Goes (node_over i a) (Then (Node 0) unless_operator)
    barred_gives a ts =
        elim (node_gives i below a ts) [
          | gone x e m ↦ gone x e (moved_then m (moved_unless_operator x.1 (ends a ts x e)))
          | ended d e s ↦ ended d e (stopped_close s close_unless_operator)
        ]

    body_gives : (a : Around) → Goes (body_over i a) Body
    unfolding body_over
    body_gives a ts =
        gives_choice (next_is class.Bar ts) (λ is. gives_map (λ us vs t. this t) (gives_behind (moved_token class.Bar ts is) (barred_gives a (after ts))))
        (λ _. gives_map (λ us vs t. that t) (block_tree_gives i below ts))

    quantified_gives : (strict : Bool) (a : Around) (q : Quantifier) (p : Place) → Goes (quantified_over strict i a q p) Quantified
    unfolding quantified_over
    quantified_gives strict a q p ts = gives_then (declarations_give (strict && is_single q) ts) close_body (λ ds. gives_last _ (body_gives a ds.1))

    let_gives : (a : Around) (p : Place) → Goes (let_over i a p) Let
    unfolding let_over bindings_over
    let_gives a p ts = gives_then (gives_listed (binding_over i) binding_gives ts) close_body (λ bs. gives_last _ (body_gives a bs.1))

    pub inside_gives : (strict : Bool) (a : Around) (part : Inside) → Goes (inside_over strict i a part) (Part part)
    unfolding inside_over
    inside_gives strict a inside.Node = node_gives i below a
    inside_gives strict a inside.Negation = negation_gives i below a
    inside_gives strict a inside.Implied = implication_gives i below a
    inside_gives strict a inside.Sum = sum_gives i below a
    inside_gives strict a inside.Size = size_gives i below a
    inside_gives strict a inside.Tight = tight_gives i below a
    inside_gives strict a (inside.Quantified q p) = quantified_gives strict a q p
    inside_gives strict a (inside.Let p) = let_gives a p

-- ---- what stands under constructs

stop_gives : (part : Inside) → Goes (stop_at {A = Tree} part) (Part part)
unfolding stop_at
stop_gives part ts =
    gives_choice (may_be_block part && is_comprehension ts)
    (λ is. let o = opens_block part ts (and_left _ _ is) (and_right _ _ is) in ended (unsupported form.Comprehension ts) refl (stopped_here (unsupported form.Comprehension ts) o.close (λ _. o.alike) (and_right (may_be_block part) _ is)))
    (λ _. gives_choice (begins part ts)
    (λ is. let o = opens_part part ts is in ended (too_deep ts) refl (stopped_here (too_deep ts) o.close (λ _. o.alike) tt))
    (λ _. ended (refused ts) refl (stopped_here (refused ts) (close_part part) (λ s. not_there s) tt)))

node_ends : (strict : Bool) (room : ℕ) (a : Around) (ts : List ParserToken) (x : Tree × List ParserToken) → node_over (within strict room) a ts ≡ Ok x → begins_operator x.1 ≡ false
node_ends strict room a ts x e = (node_reads strict room (within strict room) (within_reads strict room) a ts x.0 x.1 e).1

pub within_gives : (strict : Bool) (room : ℕ) (a : Around) (part : Inside) → Goes (within strict room a part) (Part part)
unfolding within
within_gives strict zero a part = stop_gives part
within_gives strict (suc room) a part = inside_gives (within strict room) (within_gives strict room) (node_ends strict room) strict a part
