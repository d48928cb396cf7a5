-- What is read of commands and models is spelled so.
use Rattle.std.proofs.Common.{◌≡◌, ℕ, ◌≤◌, ◌<◌, inl, inr, Bool, true, false, not, ◌&&◌, if◌then◌else◌, List, [], ◌∷◌, length, Option, Some, None, Ok, codes, bytes_eq, refl, ap, subst, ◌∙◌, arith}
use Rattle.std.specs.List.{AllByRecursion}
use Rattle.alloy_lex.specs.declared.token.Place.{Place}
use Rattle.alloy_syntax.specs.declared.class.Class.TheVariants as class
use Rattle.alloy_syntax.specs.declared.tree.Name.{Name}
use Rattle.alloy_syntax.specs.declared.tree.Number.{Number}
use Rattle.alloy_syntax.specs.declared.tree.Entry.{Entry}
use Rattle.alloy_syntax.specs.declared.tree.CommandKind.{CommandKind}
use Rattle.alloy_syntax.specs.declared.tree.CommandKind.TheVariants as kind
use Rattle.alloy_syntax.specs.declared.tree.Open.{Open}
use Rattle.alloy_syntax.specs.declared.parser_token.ParserToken.{ParserToken}
use Rattle.alloy_syntax.specs.Tree.{TargetTree, ScopeTree, ParagraphTree, ModelTree}
use Rattle.alloy_syntax.specs.Readers.{next_is, after, place_at, expect, name_at, path_at, number_at, many}
use Rattle.alloy_syntax.specs.Paragraphs.{own_block, entry_at, entries_at, exceptions_at, has_default, scope_at, expected_at, label_at, target_at, command_at, paragraph_at, is_left, heading_at, ordering_at, open_at, model_at}
use Rattle.alloy_grammar.specs.Fronts.{Front, ◌before◌, sign, mark_of, name, each, listed}
use Rattle.alloy_grammar.specs.Models.{optional, class_of_kind, target, entry, exceptions, scope, expected, paragraph, ordering_path, opened, heading, IsTextOf, depth_of_target, depth_of_paragraphs, depth_of_model, IsPlainTarget, IsPlainParagraph, IsPlainModel}
use Rattle.alloy_grammar.proofs.Results.{success, stop, known, either, no_success, got, value_is, rest_is, true_not_false, done_is}
use Rattle.alloy_grammar.proofs.Tokens.{token, marks, mark_is_one, expect_read, spelled_read, spelled_is_one, number_read, after_is_short, flag_read}
use Rattle.alloy_grammar.proofs.Lists.{Taken, Shortens, many_read, many_stops, each_of}
use Rattle.alloy_grammar.proofs.Paragraphs.{after_comma, listed_read, FoundOptional, optional_land, FoundParagraph, land, own_block_read, signatures_read, label_read, fact_read, assertion_read, predicate_read, function_read}

-- ---- scopes

unfoldable pub Short : {A : Type 0} → (A → Front) → A → Front
Short P x ts rest = P x ts rest × (length rest < length ts)

abbrev after_exactly : List ParserToken → List ParserToken
after_exactly ts = if next_is class.Exactly ts then after ts else ts

after_exactly_is_short : (ts : List ParserToken) → length (after_exactly ts) ≤ length ts
after_exactly_is_short ts = elim (either (next_is class.Exactly ts)) [ inl is ↦ rw is (after_is_short ts) | inr other ↦ rw other (omega arith) ]

pub entry_read : (ts : List ParserToken) (x : Entry) (rest : List ParserToken) → entry_at ts ≡ Ok (x, rest) → Short entry x ts rest
unfolding entry_at Short
entry_read ts x rest e =
    elim (known (number_at (after_exactly ts))) [
      | stop d fails ↦ no_success _ _ (rw fails at e)
      | success n counted ↦ (
          let e1 = rw counted at e in
          elim (known (name_at n.1)) [
            | stop d fails ↦ no_success _ _ (rw fails at e1)
            | success m named ↦ (
                let e2 = rw named at e1 in
                let sn = number_read (after_exactly ts) n.0 n.1 counted in
                let sm = spelled_read class.Name n.1 m.0 m.1 named in
                let this : Entry = record { exactly = next_is class.Exactly ts; number = n.0; name = m.0 } in
                let f : entry this ts m.1 × (length m.1 < length ts) = ((after_exactly ts, flag_read class.Exactly ts, (n.1, sn, sm)), omega (arith, after_exactly_is_short ts, ap length sn.1, spelled_is_one class.Name m.0 n.1 m.1 sm)) in
                subst (λ us. entry x ts us × (length us < length ts)) (rest_is this x m.1 rest e2) (subst (λ y. entry y ts m.1 × (length m.1 < length ts)) (value_is this x m.1 rest e2) f))
          ])
    ]

commas_shorten : {A : Type 0} (P : A → Front) (xs : List A) (ts rest : List ParserToken) → each (after_comma (Short P)) xs ts rest → each (λ x. mark_of class.Comma before P x) xs ts rest × (length rest ≤ length ts)
unfolding Short
commas_shorten P [] ts rest p = (p, omega (arith, ap length p))
commas_shorten P (x ∷ xs) ts rest p = let more = commas_shorten P xs p.0 rest p.2 in ((p.0, (p.1.0, p.1.1, p.1.2.0), more.0), omega (arith, ap length p.1.1.1, p.1.2.1, more.1))

listed_short : {A : Type 0} (P : A → Front) (x : A) (xs : List A) (ts us rest : List ParserToken) → Short P x ts us → each (after_comma (Short P)) xs us rest → Short (listed P) (x ∷ xs) ts rest
unfolding Short
listed_short P x xs ts us rest f p = let more = commas_shorten P xs us rest p in ((us, f.0, more.0), omega (arith, f.1, more.1))

entries_read : (ts : List ParserToken) (es : List Entry) (rest : List ParserToken) → entries_at ts ≡ Ok (es, rest) → Short (listed entry) es ts rest
unfolding entries_at
entries_read ts es rest e =
    let l = listed_read entry_at (Short entry) entry_read ts es rest e in
    subst (λ fs. Short (listed entry) fs ts rest) l.3 (listed_short entry l.0 l.1 ts l.2 rest l.4 l.5)

but_found : (es : List Entry) (ts us rest : List ParserToken) → mark_of class.But ts us → Short (listed entry) es us rest → exceptions es ts rest × (length rest ≤ length ts)
unfolding Short
but_found [] ts us rest m f = absurd f.0
but_found (x ∷ es) ts us rest m f = ((us, m, f.0), omega (arith, mark_is_one class.But ts us m, f.1))

exceptions_read : (ts : List ParserToken) (es : List Entry) (rest : List ParserToken) → exceptions_at ts ≡ Ok (es, rest) → exceptions es ts rest × (length rest ≤ length ts)
unfolding exceptions_at
exceptions_read ts es rest e =
    elim (either (next_is class.But ts)) [
      | inl is ↦ but_found es ts (after ts) rest (marks class.But (place_at ts) ts (after ts) (token class.But ts is)) (entries_read (after ts) es rest (rw is at e))
      | inr other ↦ (
          let e1 = rw other at e in
          let f : exceptions [] ts ts × (length ts ≤ length ts) = (refl, omega arith) in
          subst (λ us. exceptions es ts us × (length us ≤ length ts)) (rest_is [] es ts rest e1) (subst (λ fs. exceptions fs ts ts × (length ts ≤ length ts)) (value_is [] es ts rest e1) f))
    ]

sizes_listed : (es : List Entry) (ts us rest : List ParserToken) → mark_of class.For ts us → Short (listed entry) es us rest → FoundOptional scope (Some (record { default = None; entries = es })) ts rest
unfolding Short
sizes_listed es ts us rest m f = ((us, m, f.0), omega (arith, mark_is_one class.For ts us m, f.1))

scope_read : (ts : List ParserToken) (s : Option ScopeTree) (rest : List ParserToken) → scope_at ts ≡ Ok (s, rest) → FoundOptional scope s ts rest
unfolding scope_at
scope_read ts s rest e =
    elim (either (next_is class.For ts)) [
      | inr other ↦ optional_land scope None s ts ts rest (rw other at e) (refl, omega arith)
      | inl is ↦ (
          let e1 = rw is at e in
          let m = marks class.For (place_at ts) ts (after ts) (token class.For ts is) in
          elim (either (has_default (after ts))) [
            | inl given ↦ (
                let e2 = rw given at e1 in
                elim (known (number_at (after ts))) [
                  | stop d fails ↦ no_success _ _ (rw fails at e2)
                  | success n counted ↦ (
                      let e3 = rw counted at e2 in
                      elim (known (exceptions_at n.1)) [
                        | stop d fails ↦ no_success _ _ (rw fails at e3)
                        | success es but ↦ (
                            let e4 = rw but at e3 in
                            let sn = number_read (after ts) n.0 n.1 counted in
                            let f = exceptions_read n.1 es.0 es.1 but in
                            let this : ScopeTree = record { default = Some n.0; entries = es.0 } in
                            optional_land scope (Some this) s ts es.1 rest e4 ((after ts, m, (n.1, sn, f.0)), omega (arith, mark_is_one class.For ts (after ts) m, ap length sn.1, f.1)))
                      ])
                ])
            | inr none ↦ (
                let e2 = rw none at e1 in
                elim (known (entries_at (after ts))) [
                  | stop d fails ↦ no_success _ _ (rw fails at e2)
                  | success es read ↦ (
                      let e3 = rw read at e2 in
                      optional_land scope (Some (record { default = None; entries = es.0 })) s ts es.1 rest e3 (sizes_listed es.0 ts (after ts) es.1 m (entries_read (after ts) es.0 es.1 read)))
                ])
          ])
    ]

expected_read : (ts : List ParserToken) (n : Option Number) (rest : List ParserToken) → expected_at ts ≡ Ok (n, rest) → FoundOptional expected n ts rest
unfolding expected_at
expected_read ts n rest e =
    elim (either (next_is class.Expect ts)) [
      | inr other ↦ optional_land expected None n ts ts rest (rw other at e) (refl, omega arith)
      | inl is ↦ (
          let e1 = rw is at e in
          elim (known (number_at (after ts))) [
            | stop d fails ↦ no_success _ _ (rw fails at e1)
            | success k counted ↦ (
                let e2 = rw counted at e1 in
                let m = marks class.Expect (place_at ts) ts (after ts) (token class.Expect ts is) in
                let sn = number_read (after ts) k.0 k.1 counted in
                optional_land expected (Some k.0) n ts k.1 rest e2 ((after ts, m, sn), omega (arith, mark_is_one class.Expect ts (after ts) m, ap length sn.1)))
          ])
    ]

-- ---- commands

record FoundTarget (strict : Bool) (limit : ℕ) (t : TargetTree) (ts rest : List ParserToken) : Type 0 where
  spelled : target t ts rest
  shallow : depth_of_target t ≤ limit
  plain : strict ≡ true → IsPlainTarget t
  shorter : length rest ≤ length ts

target_land : {strict : Bool} {limit : ℕ} {t u : TargetTree} {ts us rest : List ParserToken} → got t us ≡ got u rest → FoundTarget strict limit t ts us → FoundTarget strict limit u ts rest
target_land {strict} {limit} {t} {u} {ts} {us} {rest} e f =
    subst (λ vs. FoundTarget strict limit u ts vs) (rest_is t u us rest e) (subst (λ (v : TargetTree). FoundTarget strict limit v ts us) (value_is t u us rest e) f)

target_read : (strict : Bool) (limit : ℕ) (ts : List ParserToken) (t : TargetTree) (rest : List ParserToken) → target_at strict limit ts ≡ Ok (t, rest) → FoundTarget strict limit t ts rest
unfolding target_at
target_read strict limit ts t rest e =
    elim (either (next_is class.Name ts && not (next_is class.LeftBrace (after ts)))) [
      | inl both ↦ (
          let e1 = rw both at e in
          elim (known (name_at ts)) [
            | stop d fails ↦ no_success _ _ (rw fails at e1)
            | success m named ↦ (
                let e2 = rw named at e1 in
                let s = spelled_read class.Name ts m.0 m.1 named in
                target_land e2 (record { spelled = s; shallow = omega arith; plain = λ _. tt; shorter = omega (arith, spelled_is_one class.Name m.0 ts m.1 s) }))
          ])
      | inr other ↦ (
          let e1 = rw other at e in
          elim (known (label_at ts)) [
            | stop d fails ↦ no_success _ _ (rw fails at e1)
            | success l label ↦ (
                let e2 = rw label at e1 in
                elim (known (own_block strict limit l.1)) [
                  | stop d fails ↦ no_success _ _ (rw fails at e2)
                  | success b read ↦ (
                      let e3 = rw read at e2 in
                      let g = label_read ts l.0 l.1 label in
                      let f = own_block_read strict limit l.1 b.0 b.1 read in
                      target_land e3 (record { spelled = (l.1, g.0, f.spelled); shallow = omega (arith, f.shallow); plain = f.plain; shorter = omega (arith, g.1, f.shorter) }))
                ])
          ])
    ]

command_read : (strict : Bool) (limit : ℕ) (k : CommandKind) (p : Place) (ts : List ParserToken) (x : ParagraphTree) (rest : List ParserToken) → command_at strict limit k p ts ≡ Ok (x, rest) → (ws : List ParserToken) → sign (class_of_kind k) p ws ts → FoundParagraph strict limit x ws rest
unfolding command_at
command_read strict limit k p ts x rest e ws m =
    elim (known (target_at strict limit ts)) [
      | stop d fails ↦ no_success _ _ (rw fails at e)
      | success t aimed ↦ (
          let e1 = rw aimed at e in
          elim (known (scope_at t.1)) [
            | stop d fails ↦ no_success _ _ (rw fails at e1)
            | success s scoped ↦ (
                let e2 = rw scoped at e1 in
                elim (known (expected_at s.1)) [
                  | stop d fails ↦ no_success _ _ (rw fails at e2)
                  | success n counted ↦ (
                      let e3 = rw counted at e2 in
                      let f = target_read strict limit ts t.0 t.1 aimed in
                      let g = scope_read t.1 s.0 s.1 scoped in
                      let h = expected_read s.1 n.0 n.1 counted in
                      land e3 (record {
                        spelled = (ts, m, (t.1, f.spelled, (s.1, g.0, h.0)));
                        shallow = f.shallow;
                        plain = f.plain;
                        shorter = omega (arith, ap length m.1, f.shorter, g.1, h.1);
                      }))
                ])
          ])
    ]

pub paragraph_read : (strict : Bool) (limit : ℕ) → 0 < limit → (ts : List ParserToken) (x : ParagraphTree) (rest : List ParserToken) → paragraph_at strict limit ts ≡ Ok (x, rest) → FoundParagraph strict limit x ts rest
unfolding paragraph_at
paragraph_read strict limit some ts x rest e =
    elim (either (next_is class.Fact ts)) [
      | inl is ↦ fact_read strict limit (after ts) x rest (rw is at e) ts (marks class.Fact (place_at ts) ts (after ts) (token class.Fact ts is))
      | inr a ↦ elim (either (next_is class.Pred ts)) [
        | inl is ↦ predicate_read strict limit some (after ts) x rest (rw (a, is) at e) ts (marks class.Pred (place_at ts) ts (after ts) (token class.Pred ts is))
        | inr b ↦ elim (either (next_is class.Fun ts)) [
          | inl is ↦ function_read strict limit some (after ts) x rest (rw (a, b, is) at e) ts (marks class.Fun (place_at ts) ts (after ts) (token class.Fun ts is))
          | inr c ↦ elim (either (next_is class.Assert ts)) [
            | inl is ↦ assertion_read strict limit (after ts) x rest (rw (a, b, c, is) at e) ts (marks class.Assert (place_at ts) ts (after ts) (token class.Assert ts is))
            | inr d ↦ elim (either (next_is class.Run ts)) [
              | inl is ↦ command_read strict limit kind.Run (place_at ts) (after ts) x rest (rw (a, b, c, d, is) at e) ts (token class.Run ts is)
              | inr f ↦ elim (either (next_is class.Check ts)) [
                | inl is ↦ command_read strict limit kind.Check (place_at ts) (after ts) x rest (rw (a, b, c, d, f, is) at e) ts (token class.Check ts is)
                | inr g ↦ signatures_read strict limit ts x rest (rw (a, b, c, d, f, g) at e)
              ]
            ]
          ]
        ]
      ]
    ]

-- ---- models

heading_read : (ts : List ParserToken) (n : Option Name) (rest : List ParserToken) → heading_at ts ≡ Ok (n, rest) → optional heading n ts rest
unfolding heading_at
heading_read ts n rest e =
    elim (either (next_is class.Module ts)) [
      | inr other ↦ (optional_land heading None n ts ts rest (rw other at e) (refl, omega arith)).0
      | inl is ↦ (
          let e1 = rw is at e in
          elim (known (name_at (after ts))) [
            | stop d fails ↦ no_success _ _ (rw fails at e1)
            | success m named ↦ (
                let e2 = rw named at e1 in
                let w = marks class.Module (place_at ts) ts (after ts) (token class.Module ts is) in
                let s = spelled_read class.Name (after ts) m.0 m.1 named in
                (optional_land heading (Some m.0) n ts m.1 rest e2 ((after ts, w, s), omega (arith, mark_is_one class.Module ts (after ts) w, spelled_is_one class.Name m.0 (after ts) m.1 s))).0)
          ])
    ]

ordering_read : (ts : List ParserToken) (n : Name) (rest : List ParserToken) → ordering_at ts ≡ Ok (n, rest) → ordering_path ts rest
unfolding ordering_at
ordering_read ts n rest e =
    elim (known (path_at ts)) [
      | stop d fails ↦ no_success _ _ (rw fails at e)
      | success m named ↦ (
          let e1 = rw named at e in
          elim (either (bytes_eq m.0.text (codes "util/ordering"))) [
            | inr other ↦ no_success _ _ (rw other at e1)
            | inl is ↦ (
                let e2 = rw is at e1 in
                let s = spelled_read class.Path ts m.0 m.1 named in
                subst (λ us. ordering_path ts us) (rest_is m.0 n m.1 rest e2) (s.0, s.1, s.2, ap (λ text. bytes_eq text (codes "util/ordering")) s.3 ∙ is))
          ])
    ]

open_read : (ts : List ParserToken) (o : Open) (rest : List ParserToken) → next_is class.Open ts ≡ true → open_at ts ≡ Ok (o, rest) → opened o ts rest
unfolding open_at
open_read ts o rest is e =
    elim (known (ordering_at (after ts))) [
      | stop d fails ↦ no_success _ _ (rw fails at e)
      | success m named ↦ (
          let e1 = rw named at e in
          elim (known (expect class.LeftBracket m.1)) [
            | stop d fails ↦ no_success _ _ (rw fails at e1)
            | success l opening ↦ (
                let e2 = rw opening at e1 in
                elim (known (name_at l.1)) [
                  | stop d fails ↦ no_success _ _ (rw fails at e2)
                  | success s signed ↦ (
                      let e3 = rw signed at e2 in
                      elim (known (expect class.RightBracket s.1)) [
                        | stop d fails ↦ no_success _ _ (rw fails at e3)
                        | success c closing ↦ (
                            let e4 = rw closing at e3 in
                            elim (known (expect class.As c.1)) [
                              | stop d fails ↦ no_success _ _ (rw fails at e4)
                              | success w word ↦ (
                                  let e5 = rw word at e4 in
                                  elim (known (name_at w.1)) [
                                    | stop d fails ↦ no_success _ _ (rw fails at e5)
                                    | success a alias ↦ (
                                        let e6 = rw alias at e5 in
                                        let this : Open = record { signature = s.0; alias = a.0 } in
                                        let f : opened this ts a.1 = (
                                          after ts,
                                          marks class.Open (place_at ts) ts (after ts) (token class.Open ts is),
                                          (
                                            m.1,
                                            ordering_read (after ts) m.0 m.1 named,
                                            (
                                              l.1,
                                              marks class.LeftBracket l.0 m.1 l.1 (expect_read class.LeftBracket m.1 l.0 l.1 opening),
                                              (
                                                s.1,
                                                spelled_read class.Name l.1 s.0 s.1 signed,
                                                (c.1, marks class.RightBracket c.0 s.1 c.1 (expect_read class.RightBracket s.1 c.0 c.1 closing), (w.1, marks class.As w.0 c.1 w.1 (expect_read class.As c.1 w.0 w.1 word), spelled_read class.Name w.1 a.0 a.1 alias)),
                                              ),
                                            ),
                                          ),
                                        ) in
                                        subst (λ us. opened o ts us) (rest_is this o a.1 rest e6) (subst (λ p. opened p ts a.1) (value_is this o a.1 rest e6) f))
                                  ])
                            ])
                      ])
                ])
          ])
    ]

record Paragraphs (strict : Bool) (limit : ℕ) (ps : List ParagraphTree) (ts rest : List ParserToken) : Type 0 where
  spelled : each paragraph ps ts rest
  shallow : depth_of_paragraphs ps ≤ limit
  plain : strict ≡ true → AllByRecursion IsPlainParagraph ps

paragraphs_found : (strict : Bool) (limit : ℕ) (ps : List ParagraphTree) (ts rest : List ParserToken) → each (FoundParagraph strict limit) ps ts rest → Paragraphs strict limit ps ts rest
paragraphs_found strict limit [] ts rest p = record { spelled = p; shallow = omega arith; plain = λ _. tt }
paragraphs_found strict limit (x ∷ xs) ts rest p =
    let f = p.1 in
    let more = paragraphs_found strict limit xs p.0 rest p.2 in
    record { spelled = (p.0, f.spelled, more.spelled); shallow = omega (arith, f.shallow, more.shallow); plain = λ h. (f.plain h, more.plain h) }

nothing_left : (ts : List ParserToken) → is_left ts ≡ false → ts ≡ []
unfolding is_left
nothing_left [] e = refl
nothing_left (t ∷ ts) e = true_not_false e

pub record FoundModel (strict : Bool) (limit : ℕ) (m : ModelTree) (ts : List ParserToken) : Type 0 where
  pub spelled : IsTextOf ts m
  pub shallow : depth_of_model m ≤ limit
  pub plain : strict ≡ true → IsPlainModel m

pub model_read : (strict : Bool) (limit : ℕ) → 0 < limit → (ts : List ParserToken) (m : ModelTree) → model_at strict limit ts ≡ Ok m → FoundModel strict limit m ts
unfolding model_at
model_read strict limit some ts m e =
    elim (known (heading_at ts)) [
      | stop d fails ↦ no_success _ _ (rw fails at e)
      | success h headed ↦ (
          let e1 = rw headed at e in
          elim (known (many (next_is class.Open) open_at h.1)) [
            | stop d fails ↦ no_success _ _ (rw fails at e1)
            | success os opens ↦ (
                let e2 = rw opens at e1 in
                elim (known (many is_left (paragraph_at strict limit) os.1)) [
                  | stop d fails ↦ no_success _ _ (rw fails at e2)
                  | success ps read ↦ (
                      let e3 = rw read at e2 in
                      let this : ModelTree = record { heading = h.0; opens = os.0; paragraphs = ps.0 } in
                      let shorten : Shortens is_left (paragraph_at strict limit) = λ us p vs goes it. (paragraph_read strict limit some us p vs it).shorter in
                      let last = nothing_left ps.1 (many_stops is_left (paragraph_at strict limit) shorten os.1 ps.0 ps.1 read) in
                      let all = each_of (Taken is_left (paragraph_at strict limit)) (FoundParagraph strict limit) (λ p us vs t. paragraph_read strict limit some us p vs t.1) ps.0 os.1 ps.1 (many_read is_left (paragraph_at strict limit) os.1 ps.0 ps.1 read) in
                      let f = paragraphs_found strict limit ps.0 os.1 ps.1 all in
                      let openings = each_of (Taken (next_is class.Open) open_at) opened (λ o us vs t. open_read us o vs t.0 t.1) os.0 h.1 os.1 (many_read (next_is class.Open) open_at h.1 os.0 os.1 opens) in
                      let g : FoundModel strict limit this ts = record {
                        spelled = (h.1, heading_read ts h.0 h.1 headed, (os.1, openings, subst (λ us. each paragraph ps.0 os.1 us) last f.spelled));
                        shallow = f.shallow;
                        plain = f.plain;
                      } in
                      subst (λ x. FoundModel strict limit x ts) (done_is this m e3) g)
                ])
          ])
    ]
