-- What is read of paragraphs is spelled so.
use Rattle.std.proofs.Common.{◌≡◌, ℕ, suc, ◌-◌, ◌≤◌, ◌<◌, inl, inr, Bool, true, false, not, List, [], ◌∷◌, length, Option, Some, None, Ok, refl, ap, subst, arith}
use Rattle.alloy_syntax.specs.declared.class.Class.{Class}
use Rattle.alloy_syntax.specs.declared.class.Class.TheVariants as class
use Rattle.alloy_syntax.specs.declared.reading.Around.TheVariants as around
use Rattle.alloy_syntax.specs.declared.reading.Inside.TheVariants as inside
use Rattle.alloy_syntax.specs.declared.tree.Name.{Name}
use Rattle.alloy_syntax.specs.declared.tree.Parent.{Parent}
use Rattle.alloy_syntax.specs.declared.tree.Manner.TheVariants as manner
use Rattle.alloy_syntax.specs.declared.parser_token.ParserToken.{ParserToken}
use Rattle.alloy_syntax.specs.Tree.{Tree, DeclarationTree, declarations_of, FieldTree, BlockTree, ParagraphTree}
use Rattle.alloy_syntax.specs.Readers.{Parser, next_is, after, place_at, expect, name_at, is_mark, mark_at, after_mark, multiplicity_of, behind, listed as listed_at, names_at}
use Rattle.alloy_syntax.specs.Nodes.{within, sum_over, braced_over, declarations_over}
use Rattle.alloy_syntax.specs.Bounds.{whole, bound_within}
use Rattle.alloy_syntax.specs.Paragraphs.{own_block, field_at, fields_at, parent_at, is_qualifier as is_qualifier_next, qualifier_at, after_qualifier, after_abstract, qualified, signatures_at, label_at, fact_at, parameters_to, parameter_list, predicate_at, function_at, assertion_at}
use Rattle.alloy_grammar.specs.Fronts.{Front, ◌before◌, nothing, mark_of, name, each, listed_if_any}
use Rattle.alloy_grammar.specs.Levels.{sum_level, primary_level}
use Rattle.alloy_grammar.specs.Nodes.{at_level, spells, spells_declarations}
use Rattle.alloy_grammar.specs.Bounds.{depth_of_bound, is_plain_bound}
use Rattle.alloy_grammar.specs.Depths.{depth_of}
use Rattle.alloy_grammar.specs.Forms.{IsPlain, ArePlainDeclarations}
use Rattle.alloy_grammar.specs.Models.{optional, tree_of_block, is_qualifier, qualifier, qualifiers, parent, field, parameters, paragraph, depth_of_fields, depth_of_parameters, depth_of_paragraph, ArePlainFields, IsPlainParagraph}
use Rattle.alloy_grammar.proofs.Results.{success, stop, known, either, no_success, got, value_is, rest_is}
use Rattle.alloy_grammar.proofs.Tokens.{token, marks, mark_is_one, expect_read, spelled_read, spelled_is_one, after_is_short, after_mark_is_short, mark_read, flag_read, multiplicity_sign}
use Rattle.alloy_grammar.proofs.Lists.{Taken, each_of, others_read}
use Rattle.alloy_grammar.proofs.ReadTrees.{Found}
use Rattle.alloy_grammar.proofs.NodesSpelled.{block_read, sum_reads}
use Rattle.alloy_grammar.proofs.Quantified.{names_read, within_reads, declarations_read}
use Rattle.alloy_grammar.proofs.Bounds.{whole_read}

-- ---- lists with commas

abbrev pub after_comma : {A : Type 0} → (A → Front) → A → Front
after_comma P x = mark_of class.Comma before P x

pub listed_read : {A : Type 0} (item : Parser A) (P : A → Front) → ((ts : List ParserToken) (x : A) (rest : List ParserToken) → item ts ≡ Ok (x, rest) → P x ts rest) → (ts : List ParserToken) (xs : List A) (rest : List ParserToken)
    → listed_at item ts ≡ Ok (xs, rest) → (y : A) × (ys : List A) × (us : List ParserToken) × (y ∷ ys ≡ xs) × P y ts us × each (after_comma P) ys us rest
unfolding listed_at
listed_read item P reads ts xs rest e =
    elim (known (item ts)) [
      | stop d is ↦ no_success _ _ (rw is at e)
      | success y is ↦ (
          let e1 = rw is at e in
          let o = others_read item y.0 y.1 xs rest e1 in (
            y.0,
            o.0,
            y.1,
            o.1,
            reads ts y.0 y.1 is,
            each_of (Taken (next_is class.Comma) (behind item)) (after_comma P) (λ z us vs t. (after us, marks class.Comma (place_at us) us (after us) (token class.Comma us t.0), reads (after us) z vs t.1)) o.0 y.1 rest o.2,
          ))
    ]

-- ---- signatures

pub record FoundField (strict : Bool) (limit : ℕ) (f : FieldTree) (ts rest : List ParserToken) : Type 0 where
  pub spelled : field f ts rest
  pub shallow : suc (depth_of_bound f.bound) ≤ limit
  pub plain : strict ≡ true → is_plain_bound f.bound ≡ true
  pub shorter : length rest < length ts

pub field_read : (strict : Bool) (limit : ℕ) (ts : List ParserToken) (f : FieldTree) (rest : List ParserToken) → field_at strict limit ts ≡ Ok (f, rest) → FoundField strict limit f ts rest
unfolding field_at
field_read strict limit ts f rest e =
    elim (known (names_at ts)) [
      | stop d is ↦ no_success _ _ (rw is at e)
      | success ns is ↦ (
          let e1 = rw is at e in
          elim (known (expect class.Colon ns.1)) [
            | stop d fails ↦ no_success _ _ (rw fails at e1)
            | success c colon ↦ (
                let e2 = rw colon at e1 in
                elim (known (bound_within strict limit whole (after_mark c.1))) [
                  | stop d fails ↦ no_success _ _ (rw fails at e2)
                  | success x read ↦ (
                      let e3 = rw read at e2 in
                      let n = names_read ts ns.0 ns.1 is in
                      let s = expect_read class.Colon ns.1 c.0 c.1 colon in
                      let b = whole_read strict limit (after_mark c.1) x.0 x.1 read in
                      let this : FieldTree = record { names = ns.0; mark = mark_at c.1; bound = x.0.bound } in
                      let g : FoundField strict limit this ts x.1 = record {
                        spelled = (ns.1, n.0, (c.1, marks class.Colon c.0 ns.1 c.1 s, (after_mark c.1, mark_read c.1, b.spelled)));
                        shallow = b.shallow;
                        plain = b.plain;
                        shorter = omega (arith, n.1, ap length s.1, after_mark_is_short c.1, b.shorter);
                      } in
                      subst (λ us. FoundField strict limit f ts us) (rest_is this f x.1 rest e3) (subst (λ h. FoundField strict limit h ts x.1) (value_is this f x.1 rest e3) g))
                ])
          ])
    ]

record FoundFields (strict : Bool) (limit : ℕ) (fs : List FieldTree) (ts rest : List ParserToken) : Type 0 where
  spelled : listed_if_any field fs ts rest
  shallow : depth_of_fields fs ≤ limit
  plain : strict ≡ true → ArePlainFields fs
  shorter : length rest ≤ length ts

record OtherFields (strict : Bool) (limit : ℕ) (fs : List FieldTree) (ts rest : List ParserToken) : Type 0 where
  spelled : each (λ f. mark_of class.Comma before field f) fs ts rest
  shallow : depth_of_fields fs ≤ limit
  plain : strict ≡ true → ArePlainFields fs
  shorter : length rest ≤ length ts

other_fields : (strict : Bool) (limit : ℕ) (fs : List FieldTree) (ts rest : List ParserToken) → each (after_comma (FoundField strict limit)) fs ts rest → OtherFields strict limit fs ts rest
other_fields strict limit [] ts rest p = record { spelled = p; shallow = omega arith; plain = λ _. tt; shorter = omega (arith, ap length p) }
other_fields strict limit (f ∷ fs) ts rest p =
    let more = other_fields strict limit fs p.0 rest p.2 in
    let g = p.1.2 in
    record {
      spelled = (p.0, (p.1.0, p.1.1, g.spelled), more.spelled);
      shallow = omega (arith, g.shallow, more.shallow);
      plain = λ h. (g.plain h, more.plain h);
      shorter = omega (arith, ap length p.1.1.1, g.shorter, more.shorter);
    }

fields_read : (strict : Bool) (limit : ℕ) (ts : List ParserToken) (fs : List FieldTree) (rest : List ParserToken) → fields_at strict limit ts ≡ Ok (fs, rest) → FoundFields strict limit fs ts rest
unfolding fields_at
fields_read strict limit ts fs rest e =
    elim (either (next_is class.RightBrace ts)) [
      | inl is ↦ (
          let e1 = rw is at e in
          let g : FoundFields strict limit [] ts ts = record { spelled = refl; shallow = omega arith; plain = λ _. tt; shorter = omega arith } in
          subst (λ us. FoundFields strict limit fs ts us) (rest_is [] fs ts rest e1) (subst (λ hs. FoundFields strict limit hs ts ts) (value_is [] fs ts rest e1) g))
      | inr other ↦ (
          let l = listed_read (field_at strict limit) (FoundField strict limit) (field_read strict limit) ts fs rest (rw other at e) in
          let first = l.4 in
          let more = other_fields strict limit l.1 l.2 rest l.5 in
          let g : FoundFields strict limit (l.0 ∷ l.1) ts rest = record {
            spelled = (l.2, first.spelled, more.spelled);
            shallow = omega (arith, first.shallow, more.shallow);
            plain = λ h. (first.plain h, more.plain h);
            shorter = omega (arith, first.shorter, more.shorter);
          } in
          subst (λ hs. FoundFields strict limit hs ts rest) l.3 g)
    ]

abbrev pub FoundOptional : {A : Type 0} → (A → Front) → Option A → Front
FoundOptional item x ts rest = optional item x ts rest × (length rest ≤ length ts)

pub optional_land : {A : Type 0} (item : A → Front) (x y : Option A) (ts us rest : List ParserToken) → got x us ≡ got y rest → FoundOptional item x ts us → FoundOptional item y ts rest
optional_land {A} item x y ts us rest e f = subst (λ vs. FoundOptional item y ts vs) (rest_is x y us rest e) (subst (λ (z : Option A). FoundOptional item z ts us) (value_is x y us rest e) f)

parent_found : (p : Parent) (c : Class) (ts rest : List ParserToken) → mark_of c ts (after ts) → name p.name (after ts) rest → (mark_of c before name p.name) ts rest × (length rest ≤ length ts)
parent_found p c ts rest m n = ((after ts, m, n), omega (arith, mark_is_one c ts (after ts) m, spelled_is_one class.Name p.name (after ts) rest n))

parent_read : (ts : List ParserToken) (p : Option Parent) (rest : List ParserToken) → parent_at ts ≡ Ok (p, rest) → FoundOptional parent p ts rest
unfolding parent_at
parent_read ts p rest e =
    elim (either (next_is class.Extends ts)) [
      | inl is ↦ (
          let e1 = rw is at e in
          elim (known (name_at (after ts))) [
            | stop d fails ↦ no_success _ _ (rw fails at e1)
            | success n read ↦ (
                let e2 = rw read at e1 in
                let this : Parent = record { manner = manner.Extends; name = n.0 } in
                optional_land parent (Some this) p ts n.1 rest e2 (parent_found this class.Extends ts n.1 (marks class.Extends (place_at ts) ts (after ts) (token class.Extends ts is)) (spelled_read class.Name (after ts) n.0 n.1 read)))
          ])
      | inr a ↦ elim (either (next_is class.In ts)) [
        | inl is ↦ (
            let e1 = rw (a, is) at e in
            elim (known (name_at (after ts))) [
              | stop d fails ↦ no_success _ _ (rw fails at e1)
              | success n read ↦ (
                  let e2 = rw read at e1 in
                  let this : Parent = record { manner = manner.In; name = n.0 } in
                  optional_land parent (Some this) p ts n.1 rest e2 (parent_found this class.In ts n.1 (marks class.In (place_at ts) ts (after ts) (token class.In ts is)) (spelled_read class.Name (after ts) n.0 n.1 read)))
            ])
        | inr b ↦ optional_land parent None p ts ts rest (rw (a, b) at e) (refl, omega arith)
      ]
    ]

-- ---- qualifiers

not_set : (ts : List ParserToken) → next_is class.Set ts ≡ false → is_qualifier (multiplicity_of ts) ≡ true
not_set ts a =
    elim (either (next_is class.One ts)) [
      | inl is ↦ rw (a, is) refl
      | inr b ↦ elim (either (next_is class.Lone ts)) [ inl is ↦ rw (a, b, is) refl | inr c ↦ rw (a, b, c) refl ]
    ]

is_not : (b : Bool) → not b ≡ true → b ≡ false
is_not true e = absurd cc
is_not false e = refl

qualifier_read : (ts : List ParserToken) → optional qualifier (qualifier_at ts) ts (after_qualifier ts)
unfolding is_qualifier_next qualifier_at mark_at
qualifier_read ts =
    elim (either (is_mark ts)) [
      | inr none ↦ rw none refl
      | inl is ↦ elim (either (next_is class.Set ts)) [
        | inl set ↦ rw (is, set) refl
        | inr other ↦ (let many_words = rw other at (not_set ts other) in let word = rw other at (multiplicity_sign ts is) in rw (is, other) (many_words, word))
      ]
    ]

after_qualifier_is_short : (ts : List ParserToken) → length (after_qualifier ts) ≤ length ts
after_qualifier_is_short ts = elim (either (is_qualifier_next ts)) [ inl is ↦ rw is (after_is_short ts) | inr other ↦ rw other (omega arith) ]

after_abstract_is_short : (ts : List ParserToken) → length (after_abstract ts) ≤ length ts
after_abstract_is_short ts = elim (either (next_is class.Abstract ts)) [ inl is ↦ rw is (after_is_short ts) | inr other ↦ rw other (omega arith) ]

qualifiers_read : (ts : List ParserToken) → qualifiers (qualified ts).is_abstract (qualified ts).mark ts (qualified ts).behind × (length (qualified ts).behind ≤ length ts)
unfolding qualified
qualifiers_read ts =
    elim (either (next_is class.Abstract ts)) [
      | inl is ↦ rw is (inl (after ts, marks class.Abstract (place_at ts) ts (after ts) (token class.Abstract ts is), qualifier_read (after ts)), omega (arith, after_is_short ts, after_qualifier_is_short (after ts)))
      | inr other ↦ rw other (inr (after_qualifier ts, qualifier_read ts, flag_read class.Abstract (after_qualifier ts)), omega (arith, after_qualifier_is_short ts, after_abstract_is_short (after_qualifier ts)))
    ]

-- ---- paragraphs

pub record FoundParagraph (strict : Bool) (limit : ℕ) (p : ParagraphTree) (ts rest : List ParserToken) : Type 0 where
  pub spelled : paragraph p ts rest
  pub shallow : depth_of_paragraph p ≤ limit
  pub plain : strict ≡ true → IsPlainParagraph p
  pub shorter : length rest < length ts

pub land : {strict : Bool} {limit : ℕ} {p q : ParagraphTree} {ts us rest : List ParserToken} → got p us ≡ got q rest → FoundParagraph strict limit p ts us → FoundParagraph strict limit q ts rest
land {strict} {limit} {p} {q} {ts} {us} {rest} e f =
    subst (λ vs. FoundParagraph strict limit q ts vs) (rest_is p q us rest e) (subst (λ (r : ParagraphTree). FoundParagraph strict limit r ts us) (value_is p q us rest e) f)

pub own_block_read : (strict : Bool) (limit : ℕ) (ts : List ParserToken) (b : BlockTree) (rest : List ParserToken) → own_block strict limit ts ≡ Ok (b, rest) → Found strict (suc limit) primary_level (tree_of_block b) ts rest
own_block_read strict limit ts b rest e = block_read strict limit (within strict limit) (within_reads strict limit) ts b rest e

pub signatures_read : (strict : Bool) (limit : ℕ) (ts : List ParserToken) (x : ParagraphTree) (rest : List ParserToken) → signatures_at strict limit ts ≡ Ok (x, rest) → FoundParagraph strict limit x ts rest
unfolding signatures_at
signatures_read strict limit ts x rest e =
    elim (known (expect class.Sig (qualified ts).behind)) [
      | stop d fails ↦ no_success _ _ (rw fails at e)
      | success w word ↦ (
          let e1 = rw word at e in
          elim (known (names_at w.1)) [
            | stop d fails ↦ no_success _ _ (rw fails at e1)
            | success ns named ↦ (
                let e2 = rw named at e1 in
                elim (known (parent_at ns.1)) [
                  | stop d fails ↦ no_success _ _ (rw fails at e2)
                  | success p under ↦ (
                      let e3 = rw under at e2 in
                      elim (known (expect class.LeftBrace p.1)) [
                        | stop d fails ↦ no_success _ _ (rw fails at e3)
                        | success o opening ↦ (
                            let e4 = rw opening at e3 in
                            elim (known (fields_at strict limit o.1)) [
                              | stop d fails ↦ no_success _ _ (rw fails at e4)
                              | success fs inner ↦ (
                                  let e5 = rw inner at e4 in
                                  elim (known (expect class.RightBrace fs.1)) [
                                    | stop d fails ↦ no_success _ _ (rw fails at e5)
                                    | success c closing ↦ (
                                        let e6 = rw closing at e5 in
                                        elim (either (next_is class.LeftBrace c.1)) [
                                          | inl is ↦ no_success _ _ (rw is at e6)
                                          | inr other ↦ (
                                              let e7 = rw other at e6 in
                                              let q = qualifiers_read ts in
                                              let sw = expect_read class.Sig (qualified ts).behind w.0 w.1 word in
                                              let sn = names_read w.1 ns.0 ns.1 named in
                                              let sp = parent_read ns.1 p.0 p.1 under in
                                              let so = expect_read class.LeftBrace p.1 o.0 o.1 opening in
                                              let sf = fields_read strict limit o.1 fs.0 fs.1 inner in
                                              let sc = expect_read class.RightBrace fs.1 c.0 c.1 closing in
                                              land e7 (record {
                                                spelled = ((qualified ts).behind, q.0, (w.1, marks class.Sig w.0 (qualified ts).behind w.1 sw, (ns.1, sn.0, (p.1, sp.0, (o.1, marks class.LeftBrace o.0 p.1 o.1 so, (fs.1, sf.spelled, marks class.RightBrace c.0 fs.1 c.1 sc))))));
                                                shallow = sf.shallow;
                                                plain = sf.plain;
                                                shorter = omega (arith, q.1, ap length sw.1, sn.1, sp.1, ap length so.1, sf.shorter, ap length sc.1);
                                              }))
                                        ])
                                  ])
                            ])
                      ])
                ])
          ])
    ]

-- ---- facts and assertions

pub label_read : (ts : List ParserToken) (n : Option Name) (rest : List ParserToken) → label_at ts ≡ Ok (n, rest) → FoundOptional name n ts rest
unfolding label_at
label_read ts n rest e =
    elim (either (next_is class.Name ts)) [
      | inr other ↦ optional_land name None n ts ts rest (rw other at e) (refl, omega arith)
      | inl is ↦ (
          let e1 = rw is at e in
          elim (known (name_at ts)) [
            | stop d fails ↦ no_success _ _ (rw fails at e1)
            | success m named ↦ (
                let e2 = rw named at e1 in
                let s = spelled_read class.Name ts m.0 m.1 named in
                optional_land name (Some m.0) n ts m.1 rest e2 (s, omega (arith, spelled_is_one class.Name m.0 ts m.1 s)))
          ])
    ]

pub fact_read : (strict : Bool) (limit : ℕ) (ts : List ParserToken) (x : ParagraphTree) (rest : List ParserToken) → fact_at strict limit ts ≡ Ok (x, rest) → (ws : List ParserToken) → mark_of class.Fact ws ts → FoundParagraph strict limit x ws rest
unfolding fact_at
fact_read strict limit ts x rest e ws m =
    elim (known (label_at ts)) [
      | stop d fails ↦ no_success _ _ (rw fails at e)
      | success l label ↦ (
          let e1 = rw label at e in
          elim (known (own_block strict limit l.1)) [
            | stop d fails ↦ no_success _ _ (rw fails at e1)
            | success b read ↦ (
                let e2 = rw read at e1 in
                let g = label_read ts l.0 l.1 label in
                let f = own_block_read strict limit l.1 b.0 b.1 read in
                land e2 (record {
                  spelled = (ts, m, (l.1, g.0, f.spelled));
                  shallow = omega (arith, f.shallow);
                  plain = f.plain;
                  shorter = omega (arith, mark_is_one class.Fact ws ts m, g.1, f.shorter);
                }))
          ])
    ]

pub assertion_read : (strict : Bool) (limit : ℕ) (ts : List ParserToken) (x : ParagraphTree) (rest : List ParserToken) → assertion_at strict limit ts ≡ Ok (x, rest) → (ws : List ParserToken) → mark_of class.Assert ws ts → FoundParagraph strict limit x ws rest
unfolding assertion_at
assertion_read strict limit ts x rest e ws m =
    elim (known (name_at ts)) [
      | stop d fails ↦ no_success _ _ (rw fails at e)
      | success n named ↦ (
          let e1 = rw named at e in
          elim (known (own_block strict limit n.1)) [
            | stop d fails ↦ no_success _ _ (rw fails at e1)
            | success b read ↦ (
                let e2 = rw read at e1 in
                let s = spelled_read class.Name ts n.0 n.1 named in
                let f = own_block_read strict limit n.1 b.0 b.1 read in
                land e2 (record {
                  spelled = (ts, m, (n.1, s, f.spelled));
                  shallow = omega (arith, f.shallow);
                  plain = f.plain;
                  shorter = omega (arith, mark_is_one class.Assert ws ts m, spelled_is_one class.Name n.0 ts n.1 s, f.shorter);
                }))
          ])
    ]

-- ---- parameters

record FoundInside (strict : Bool) (limit : ℕ) (closing : Class) (ds : List DeclarationTree) (ts rest : List ParserToken) : Type 0 where
  behind : List ParserToken
  spelled : spells_declarations nothing (declarations_of ds) ts behind
  closed : mark_of closing behind rest
  shallow : depth_of_parameters ds ≤ limit
  plain : strict ≡ true → ArePlainDeclarations (declarations_of ds)
  shorter : length rest ≤ length ts

no_parameters : (strict : Bool) (limit : ℕ) (closing : Class) (ts : List ParserToken) → next_is closing ts ≡ true → FoundInside strict limit closing [] ts (after ts)
unfolding spells_declarations ArePlainDeclarations
no_parameters strict limit closing ts is = record {
  behind = ts;
  spelled = refl;
  closed = marks closing (place_at ts) ts (after ts) (token closing ts is);
  shallow = omega arith;
  plain = λ _. tt;
  shorter = after_is_short ts;
}

parameters_inside : (strict : Bool) (limit : ℕ) → 0 < limit → (closing : Class) (ts : List ParserToken) (ds : List DeclarationTree) (rest : List ParserToken) → parameters_to strict limit closing ts ≡ Ok (ds, rest) → FoundInside strict limit closing ds ts rest
parameters_inside strict limit some closing ts ds rest e =
    elim (either (next_is closing ts)) [
      | inl is ↦ (
          let e1 = rw is at e in
          subst (λ us. FoundInside strict limit closing ds ts us) (rest_is [] ds (after ts) rest e1) (subst (λ es. FoundInside strict limit closing es ts (after ts)) (value_is [] ds (after ts) rest e1) (no_parameters strict limit closing ts is)))
      | inr other ↦ (
          let e1 = rw other at e in
          elim (known (declarations_over (within strict (limit - 1)) false ts)) [
            | stop d fails ↦ no_success _ _ (rw fails at e1)
            | success es read ↦ (
                let e2 = rw read at e1 in
                elim (known (expect closing es.1)) [
                  | stop d fails ↦ no_success _ _ (rw fails at e2)
                  | success c closed ↦ (
                      let e3 = rw closed at e2 in
                      let g = declarations_read strict (limit - 1) (within strict (limit - 1)) (within_reads strict (limit - 1)) false ts es.0 es.1 read in
                      let sc = expect_read closing es.1 c.0 c.1 closed in
                      let f = g.found in
                      let h : FoundInside strict limit closing (g.first ∷ g.others) ts c.1 = record {
                        behind = es.1;
                        spelled = f.spelled;
                        closed = marks closing c.0 es.1 c.1 sc;
                        shallow = omega (arith, f.shallow);
                        plain = f.plain;
                        shorter = omega (arith, f.shorter, ap length sc.1);
                      } in
                      let k : FoundInside strict limit closing es.0 ts c.1 = subst (λ fs. FoundInside strict limit closing fs ts c.1) g.all h in
                      subst (λ us. FoundInside strict limit closing ds ts us) (rest_is es.0 ds c.1 rest e3) (subst (λ fs. FoundInside strict limit closing fs ts c.1) (value_is es.0 ds c.1 rest e3) k))
                ])
          ])
    ]

record FoundParameters (strict : Bool) (limit : ℕ) (ds : List DeclarationTree) (ts rest : List ParserToken) : Type 0 where
  spelled : parameters ds ts rest
  shallow : depth_of_parameters ds ≤ limit
  plain : strict ≡ true → ArePlainDeclarations (declarations_of ds)
  shorter : length rest ≤ length ts

without_parameters : (strict : Bool) (limit : ℕ) (ts : List ParserToken) → FoundParameters strict limit [] ts ts
unfolding ArePlainDeclarations
without_parameters strict limit ts = record { spelled = inl (refl, refl); shallow = omega arith; plain = λ _. tt; shorter = omega arith }

parameters_read : (strict : Bool) (limit : ℕ) → 0 < limit → (ts : List ParserToken) (ds : List DeclarationTree) (rest : List ParserToken) → parameter_list strict limit ts ≡ Ok (ds, rest) → FoundParameters strict limit ds ts rest
unfolding parameter_list
parameters_read strict limit some ts ds rest e =
    elim (either (next_is class.LeftBracket ts)) [
      | inl is ↦ (
          let f = parameters_inside strict limit some class.RightBracket (after ts) ds rest (rw is at e) in
          record { spelled = inr (inl (after ts, marks class.LeftBracket (place_at ts) ts (after ts) (token class.LeftBracket ts is), (f.behind, f.spelled, f.closed))); shallow = f.shallow; plain = f.plain; shorter = omega (arith, after_is_short ts, f.shorter) })
      | inr a ↦ elim (either (next_is class.LeftParen ts)) [
        | inl is ↦ (
            let f = parameters_inside strict limit some class.RightParen (after ts) ds rest (rw (a, is) at e) in
            record { spelled = inr (inr (after ts, marks class.LeftParen (place_at ts) ts (after ts) (token class.LeftParen ts is), (f.behind, f.spelled, f.closed))); shallow = f.shallow; plain = f.plain; shorter = omega (arith, after_is_short ts, f.shorter) })
        | inr b ↦ (
            let e1 = rw (a, b) at e in
            subst (λ us. FoundParameters strict limit ds ts us) (rest_is [] ds ts rest e1) (subst (λ es. FoundParameters strict limit es ts ts) (value_is [] ds ts rest e1) (without_parameters strict limit ts)))
      ]
    ]

pub predicate_read : (strict : Bool) (limit : ℕ) → 0 < limit → (ts : List ParserToken) (x : ParagraphTree) (rest : List ParserToken) → predicate_at strict limit ts ≡ Ok (x, rest) → (ws : List ParserToken) → mark_of class.Pred ws ts → FoundParagraph strict limit x ws rest
unfolding predicate_at
predicate_read strict limit some ts x rest e ws m =
    elim (known (name_at ts)) [
      | stop d fails ↦ no_success _ _ (rw fails at e)
      | success n named ↦ (
          let e1 = rw named at e in
          elim (known (parameter_list strict limit n.1)) [
            | stop d fails ↦ no_success _ _ (rw fails at e1)
            | success ds listed_there ↦ (
                let e2 = rw listed_there at e1 in
                elim (known (own_block strict limit ds.1)) [
                  | stop d fails ↦ no_success _ _ (rw fails at e2)
                  | success b read ↦ (
                      let e3 = rw read at e2 in
                      let s = spelled_read class.Name ts n.0 n.1 named in
                      let g = parameters_read strict limit some n.1 ds.0 ds.1 listed_there in
                      let f = own_block_read strict limit ds.1 b.0 b.1 read in
                      land e3 (record {
                        spelled = (ts, m, (n.1, s, (ds.1, g.spelled, f.spelled)));
                        shallow = omega (arith, f.shallow, g.shallow);
                        plain = λ h. (g.plain h, f.plain h);
                        shorter = omega (arith, mark_is_one class.Pred ws ts m, spelled_is_one class.Name n.0 ts n.1 s, g.shorter, f.shorter);
                      }))
                ])
          ])
    ]

-- ---- functions

record FoundBraced (strict : Bool) (limit : ℕ) (x : Tree) (ts rest : List ParserToken) : Type 0 where
  spelled : (mark_of class.LeftBrace before at_level sum_level x (spells x) before mark_of class.RightBrace) ts rest
  shallow : suc (depth_of x) ≤ limit
  plain : strict ≡ true → IsPlain x
  shorter : length rest < length ts

braced_read : (strict : Bool) (limit : ℕ) (ts : List ParserToken) (x : Tree) (rest : List ParserToken) → braced_over (within strict limit) ts ≡ Ok (x, rest) → FoundBraced strict limit x ts rest
unfolding braced_over
braced_read strict limit ts x rest e =
    elim (known (expect class.LeftBrace ts)) [
      | stop d fails ↦ no_success _ _ (rw fails at e)
      | success o opening ↦ (
          let e1 = rw opening at e in
          elim (known (within strict limit around.Parens inside.Sum o.1)) [
            | stop d fails ↦ no_success _ _ (rw fails at e1)
            | success y inner ↦ (
                let e2 = rw inner at e1 in
                elim (known (expect class.RightBrace y.1)) [
                  | stop d fails ↦ no_success _ _ (rw fails at e2)
                  | success c closing ↦ (
                      let e3 = rw closing at e2 in
                      let so = expect_read class.LeftBrace ts o.0 o.1 opening in
                      let f = ((within_reads strict limit).sum around.Parens o.1 y.0 y.1 inner).0 in
                      let sc = expect_read class.RightBrace y.1 c.0 c.1 closing in
                      let g : FoundBraced strict limit y.0 ts c.1 = record {
                        spelled = (o.1, marks class.LeftBrace o.0 ts o.1 so, (y.1, (f.level, f.spelled), marks class.RightBrace c.0 y.1 c.1 sc));
                        shallow = f.shallow;
                        plain = f.plain;
                        shorter = omega (arith, ap length so.1, f.shorter, ap length sc.1);
                      } in
                      subst (λ us. FoundBraced strict limit x ts us) (rest_is y.0 x c.1 rest e3) (subst (λ z. FoundBraced strict limit z ts c.1) (value_is y.0 x c.1 rest e3) g))
                ])
          ])
    ]

pub function_read : (strict : Bool) (limit : ℕ) → 0 < limit → (ts : List ParserToken) (x : ParagraphTree) (rest : List ParserToken) → function_at strict limit ts ≡ Ok (x, rest) → (ws : List ParserToken) → mark_of class.Fun ws ts → FoundParagraph strict limit x ws rest
unfolding function_at
function_read strict limit some ts x rest e ws m =
    elim (known (name_at ts)) [
      | stop d fails ↦ no_success _ _ (rw fails at e)
      | success n named ↦ (
          let e1 = rw named at e in
          elim (known (parameter_list strict limit n.1)) [
            | stop d fails ↦ no_success _ _ (rw fails at e1)
            | success ds listed_there ↦ (
                let e2 = rw listed_there at e1 in
                elim (known (expect class.Colon ds.1)) [
                  | stop d fails ↦ no_success _ _ (rw fails at e2)
                  | success c colon ↦ (
                      let e3 = rw colon at e2 in
                      elim (known (sum_over (within strict limit) around.Parens (after_mark c.1))) [
                        | stop d fails ↦ no_success _ _ (rw fails at e3)
                        | success r ranged ↦ (
                            let e4 = rw ranged at e3 in
                            elim (known (braced_over (within strict limit) r.1)) [
                              | stop d fails ↦ no_success _ _ (rw fails at e4)
                              | success b read ↦ (
                                  let e5 = rw read at e4 in
                                  let s = spelled_read class.Name ts n.0 n.1 named in
                                  let g = parameters_read strict limit some n.1 ds.0 ds.1 listed_there in
                                  let sc = expect_read class.Colon ds.1 c.0 c.1 colon in
                                  let h = (sum_reads strict limit (within strict limit) (within_reads strict limit) around.Parens (after_mark c.1) r.0 r.1 ranged).0 in
                                  let f = braced_read strict limit r.1 b.0 b.1 read in
                                  land e5 (record {
                                    spelled = (ts, m, (n.1, s, (ds.1, g.spelled, (c.1, marks class.Colon c.0 ds.1 c.1 sc, (after_mark c.1, mark_read c.1, (r.1, (h.level, h.spelled), f.spelled))))));
                                    shallow = omega (arith, f.shallow, g.shallow, h.shallow);
                                    plain = λ is. (g.plain is, h.plain is, f.plain is);
                                    shorter = omega (arith, mark_is_one class.Fun ws ts m, spelled_is_one class.Name n.0 ts n.1 s, g.shorter, ap length sc.1, after_mark_is_short c.1, h.shorter, f.shorter);
                                  }))
                            ])
                      ])
                ])
          ])
    ]
