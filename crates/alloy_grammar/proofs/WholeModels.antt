-- What spells commands and a whole model is read as it, so a text has one tree.
use Rattle.std.proofs.Common.{◌≡◌, ℕ, suc, ◌≤◌, ◌<◌, inl, inr, max, Bool, true, false, not, ◌&&◌, List, [], ◌∷◌, length, Option, Some, None, Ok, refl, sym, ap, subst, ◌∙◌, arith}
use Rattle.std.specs.List.{AllByRecursion}
use Rattle.alloy_lex.specs.declared.token.Place.{Place}
use Rattle.alloy_syntax.specs.declared.class.Class.{Class}
use Rattle.alloy_syntax.specs.declared.class.Class.TheVariants as class
use Rattle.alloy_syntax.specs.declared.tree.Name.{Name}
use Rattle.alloy_syntax.specs.declared.tree.Number.{Number}
use Rattle.alloy_syntax.specs.declared.tree.MultiplicityWord.{MultiplicityWord}
use Rattle.alloy_syntax.specs.declared.tree.Multiplicity.{Multiplicity}
use Rattle.alloy_syntax.specs.declared.tree.Multiplicity.TheVariants as multiplicity
use Rattle.alloy_syntax.specs.declared.tree.Entry.{Entry}
use Rattle.alloy_syntax.specs.declared.tree.CommandKind.{CommandKind}
use Rattle.alloy_syntax.specs.declared.tree.CommandKind.TheVariants as kind
use Rattle.alloy_syntax.specs.declared.tree.Open.{Open}
use Rattle.alloy_syntax.specs.declared.parser_token.ParserToken.{ParserToken}
use Rattle.alloy_syntax.specs.Class.{is_class}
use Rattle.alloy_syntax.specs.Tree.{TargetTree, at_name, at_block, ScopeTree, ParagraphTree, signatures, fact, predicate, function, assertion, command, ModelTree}
use Rattle.alloy_syntax.specs.Readers.{next_is, after, number_at}
use Rattle.alloy_syntax.specs.Paragraphs.{entry_at, entries_at, exceptions_at, has_default, scope_at, expected_at, label_at, target_at, command_at, paragraph_at, is_left, heading_at, ordering_at, open_at, model_at}
use Rattle.alloy_grammar.specs.Fronts.{mark_of, flag, name, number, each, listed, class_of_multiplicity}
use Rattle.alloy_grammar.specs.Models.{optional, qualifier, qualifiers, class_of_kind, target, entry, exceptions, sizes, scope, expected, paragraph, ordering_path, opened, heading, IsTextOf, depth_of_target, depth_of_paragraph, depth_of_paragraphs, depth_of_model, IsPlainTarget, IsPlainParagraph, IsPlainModel}
use Rattle.alloy_grammar.proofs.Results.{true_not_false, done_is}
use Rattle.alloy_grammar.proofs.Tokens.{marks}
use Rattle.alloy_grammar.proofs.TextEnds.{is_next, after_is, differs}
use Rattle.alloy_grammar.proofs.NodesReadBack.{mark_full, spelled_full, number_full, place_is, Goes, many_full}
use Rattle.alloy_grammar.proofs.Models.{Short, entry_read, paragraph_read}
use Rattle.alloy_grammar.proofs.ModelsReadBack.{listed_full, commas_full, own_block_full, block_starts, signatures_full, label_full, fact_full, assertion_full, predicate_full, function_full}

-- ---- what stands behind a command's parts

-- the terminals that go on with a command, or with a model's head, don't follow
record Follow (ts : List ParserToken) : Type 0 where
  name : next_is class.Name ts ≡ false
  comma : next_is class.Comma ts ≡ false
  but : next_is class.But ts ≡ false
  scope : next_is class.For ts ≡ false
  expect : next_is class.Expect ts ≡ false
  brace : next_is class.LeftBrace ts ≡ false
  opening : next_is class.Open ts ≡ false
  module_word : next_is class.Module ts ≡ false

follow_of : (c : Class) (ts us : List ParserToken) → mark_of c ts us → is_class c class.Name ≡ false → is_class c class.Comma ≡ false → is_class c class.But ≡ false → is_class c class.For ≡ false → is_class c class.Expect ≡ false → is_class c class.LeftBrace ≡ false
    → is_class c class.Open ≡ false → is_class c class.Module ≡ false → Follow ts
follow_of c ts us m e1 e2 e3 e4 e5 e6 e7 e8 = record {
  name = differs c class.Name ts us m e1;
  comma = differs c class.Comma ts us m e2;
  but = differs c class.But ts us m e3;
  scope = differs c class.For ts us m e4;
  expect = differs c class.Expect ts us m e5;
  brace = differs c class.LeftBrace ts us m e6;
  opening = differs c class.Open ts us m e7;
  module_word = differs c class.Module ts us m e8;
}

nothing_follows : (ts : List ParserToken) → ts ≡ [] → Follow ts
unfolding next_is
nothing_follows ts same = subst (λ us. Follow us) (sym same) (record { name = refl; comma = refl; but = refl; scope = refl; expect = refl; brace = refl; opening = refl; module_word = refl })

-- ---- paragraphs begin so

multiplicity_follows : (w : Multiplicity) (ts us : List ParserToken) → mark_of (class_of_multiplicity w) ts us → Follow ts
unfolding is_class
multiplicity_follows multiplicity.Set ts us m = follow_of class.Set ts us m refl refl refl refl refl refl refl refl
multiplicity_follows multiplicity.One ts us m = follow_of class.One ts us m refl refl refl refl refl refl refl refl
multiplicity_follows multiplicity.Lone ts us m = follow_of class.Lone ts us m refl refl refl refl refl refl refl refl
multiplicity_follows multiplicity.Some ts us m = follow_of class.Some ts us m refl refl refl refl refl refl refl refl

-- none of the first words of other paragraphs
record NoWord (ts : List ParserToken) : Type 0 where
  fact : next_is class.Fact ts ≡ false
  predicate : next_is class.Pred ts ≡ false
  function : next_is class.Fun ts ≡ false
  assertion : next_is class.Assert ts ≡ false
  run : next_is class.Run ts ≡ false
  check : next_is class.Check ts ≡ false

no_word_of : (c : Class) (ts us : List ParserToken) → mark_of c ts us → is_class c class.Fact ≡ false → is_class c class.Pred ≡ false → is_class c class.Fun ≡ false → is_class c class.Assert ≡ false → is_class c class.Run ≡ false → is_class c class.Check ≡ false → NoWord ts
no_word_of c ts us m e1 e2 e3 e4 e5 e6 = record {
  fact = differs c class.Fact ts us m e1;
  predicate = differs c class.Pred ts us m e2;
  function = differs c class.Fun ts us m e3;
  assertion = differs c class.Assert ts us m e4;
  run = differs c class.Run ts us m e5;
  check = differs c class.Check ts us m e6;
}

multiplicity_no_word : (w : Multiplicity) (ts us : List ParserToken) → mark_of (class_of_multiplicity w) ts us → NoWord ts
unfolding is_class
multiplicity_no_word multiplicity.Set ts us m = no_word_of class.Set ts us m refl refl refl refl refl refl
multiplicity_no_word multiplicity.One ts us m = no_word_of class.One ts us m refl refl refl refl refl refl
multiplicity_no_word multiplicity.Lone ts us m = no_word_of class.Lone ts us m refl refl refl refl refl refl
multiplicity_no_word multiplicity.Some ts us m = no_word_of class.Some ts us m refl refl refl refl refl refl

abbrev Starts : List ParserToken → Type 0
Starts ts = Follow ts × NoWord ts

sig_starts : (ts us : List ParserToken) → mark_of class.Sig ts us → Starts ts
unfolding is_class
sig_starts ts us m = (follow_of class.Sig ts us m refl refl refl refl refl refl refl refl, no_word_of class.Sig ts us m refl refl refl refl refl refl)

abstract_starts : (ts us : List ParserToken) → mark_of class.Abstract ts us → Starts ts
unfolding is_class
abstract_starts ts us m = (follow_of class.Abstract ts us m refl refl refl refl refl refl refl refl, no_word_of class.Abstract ts us m refl refl refl refl refl refl)

qualifier_starts : (m : Option MultiplicityWord) (ts us : List ParserToken) → optional qualifier m ts us → Starts us → Starts ts
qualifier_starts None ts us s f = subst (λ vs. Starts vs) (sym s) f
qualifier_starts (Some w) ts us s f = let t = s.1 in (multiplicity_follows w.multiplicity ts us (t.0, t.1, t.2), multiplicity_no_word w.multiplicity ts us (t.0, t.1, t.2))

flag_starts : (b : Bool) (ts us : List ParserToken) → flag class.Abstract b ts us → Starts us → Starts ts
flag_starts true ts us s f = abstract_starts ts us s
flag_starts false ts us s f = subst (λ vs. Starts vs) (sym s) f

qualifiers_start : (b : Bool) (m : Option MultiplicityWord) (ts us vs : List ParserToken) → qualifiers b m ts us → mark_of class.Sig us vs → Starts ts
qualifiers_start b m ts us vs s sig =
    elim s [
      | inl t ↦ flag_starts b ts t.0 t.1 (qualifier_starts m t.0 us t.2 (sig_starts us vs sig))
      | inr t ↦ qualifier_starts m ts t.0 t.1 (flag_starts b t.0 us t.2 (sig_starts us vs sig))
    ]

kind_follows : (k : CommandKind) (ts us : List ParserToken) → mark_of (class_of_kind k) ts us → Follow ts
unfolding is_class
kind_follows kind.Run ts us m = follow_of class.Run ts us m refl refl refl refl refl refl refl refl
kind_follows kind.Check ts us m = follow_of class.Check ts us m refl refl refl refl refl refl refl refl

paragraph_follows : (p : ParagraphTree) (ts rest : List ParserToken) → paragraph p ts rest → Follow ts
unfolding is_class
paragraph_follows (signatures b m ns p fs) ts rest s = (qualifiers_start b m ts s.0 s.2.0 s.1 s.2.1).0
paragraph_follows (fact n b) ts rest s = follow_of class.Fact ts s.0 s.1 refl refl refl refl refl refl refl refl
paragraph_follows (predicate n ds b) ts rest s = follow_of class.Pred ts s.0 s.1 refl refl refl refl refl refl refl refl
paragraph_follows (function n ds m range result) ts rest s = follow_of class.Fun ts s.0 s.1 refl refl refl refl refl refl refl refl
paragraph_follows (assertion n b) ts rest s = follow_of class.Assert ts s.0 s.1 refl refl refl refl refl refl refl refl
paragraph_follows (command k p t c e) ts rest s = kind_follows k ts s.0 (marks (class_of_kind k) p ts s.0 s.1)

paragraphs_follow : (ps : List ParagraphTree) (ts : List ParserToken) → each paragraph ps ts [] → Follow ts
paragraphs_follow [] ts s = nothing_follows ts s
paragraphs_follow (p ∷ ps) ts s = paragraph_follows p ts s.0 s.1

-- ---- scopes

-- what stands behind a scope
record Behind (ts : List ParserToken) : Type 0 where
  name : next_is class.Name ts ≡ false
  comma : next_is class.Comma ts ≡ false
  but : next_is class.But ts ≡ false
  scope : next_is class.For ts ≡ false
  brace : next_is class.LeftBrace ts ≡ false

default_not : (ts us vs : List ParserToken) → mark_of class.Number ts us → (m : mark_of class.Name us vs) → has_default ts ≡ false
unfolding has_default
default_not ts us vs n m = rw (is_next class.Number ts us n, ap (next_is class.Name) (after_is class.Number ts us n) ∙ is_next class.Name us vs m) refl

default_is : (ts us : List ParserToken) → mark_of class.Number ts us → next_is class.Name us ≡ false → has_default ts ≡ true
unfolding has_default
default_is ts us n none = rw (is_next class.Number ts us n, ap (next_is class.Name) (after_is class.Number ts us n) ∙ none) refl

entry_with : (b : Bool) (k : Number) (n : Name) (ts us vs rest : List ParserToken) → flag class.Exactly b ts us → number k us vs → name n vs rest → entry_at ts ≡ Ok (record { exactly = b; number = k; name = n }, rest)
unfolding entry_at is_class
entry_with true k n ts us vs rest f s t = rw (is_next class.Exactly ts us f, after_is class.Exactly ts us f, number_full k us vs s, spelled_full class.Name n vs rest t) refl
entry_with false k n ts us vs rest f s t =
    let none : next_is class.Exactly ts ≡ false = ap (next_is class.Exactly) f ∙ differs class.Number class.Exactly us vs (s.0, s.1, s.2) refl in
    let there = subst (λ ws. number_at ws ≡ Ok (k, vs)) (sym f) (number_full k us vs s) in
    rw (none, there, spelled_full class.Name n vs rest t) refl

-- a number with a name behind it is no default
entry_default : (b : Bool) (k : Number) (n : Name) (ts us vs rest : List ParserToken) → flag class.Exactly b ts us → number k us vs → name n vs rest → has_default ts ≡ false
unfolding has_default is_class
entry_default true k n ts us vs rest f s t = rw (differs class.Exactly class.Number ts us f refl) refl
entry_default false k n ts us vs rest f s t = subst (λ ws. has_default ws ≡ false) (sym f) (default_not us vs rest (s.0, s.1, s.2) (t.0, t.1, t.2))

entry_full : (e : Entry) (ts rest : List ParserToken) → entry e ts rest → entry_at ts ≡ Ok (e, rest)
entry_full e ts rest s = entry_with e.exactly e.number e.name ts s.0 s.2.0 rest s.1 s.2.1 s.2.2

-- what may stand behind an entry
abbrev NoComma : List ParserToken → Type 0
NoComma ts = Unit {0}

all_units : {A : Type 0} (xs : List A) → AllByRecursion (λ (x : A). Unit {0}) xs
all_units [] = tt
all_units (x ∷ xs) = (tt, all_units xs)

entry_short : (ts : List ParserToken) (e : Entry) (rest : List ParserToken) → entry_at ts ≡ Ok (e, rest) → length rest < length ts
unfolding Short
entry_short ts e rest read = (entry_read ts e rest read).1

entries_full : (es : List Entry) (ts rest : List ParserToken) → listed entry es ts rest → next_is class.Comma rest ≡ false → entries_at ts ≡ Ok (es, rest)
unfolding entries_at
entries_full [] ts rest s none = absurd s
entries_full (e ∷ es) ts rest s none =
    let reads : (x : Entry) (us vs : List ParserToken) → Unit {0} → entry x us vs → NoComma vs → entry_at us ≡ Ok (x, vs) = λ x us vs u p n. entry_full x us vs p in
    let more = commas_full entry_at entry (λ (x : Entry). Unit {0}) NoComma reads entry_short (λ us vs m. tt) es s.0 rest (all_units es) s.2 tt in
    listed_full entry_at e es ts s.0 rest (entry_full e ts s.0 s.1) more.0 none

exceptions_full : (es : List Entry) (ts rest : List ParserToken) → exceptions es ts rest → Behind rest → exceptions_at ts ≡ Ok (es, rest)
unfolding exceptions_at
exceptions_full [] ts rest s f = subst (λ us. exceptions_at us ≡ Ok ([], rest)) (sym s) (rw f.but refl)
exceptions_full (e ∷ es) ts rest s f = rw (is_next class.But ts s.0 s.1, after_is class.But ts s.0 s.1) (entries_full (e ∷ es) s.0 rest s.2 f.comma)

exceptions_name : (es : List Entry) (ts rest : List ParserToken) → exceptions es ts rest → Behind rest → next_is class.Name ts ≡ false
unfolding is_class
exceptions_name [] ts rest s f = ap (next_is class.Name) s ∙ f.name
exceptions_name (e ∷ es) ts rest s f = differs class.But class.Name ts s.0 s.1 refl

entries_default : (es : List Entry) (ts rest : List ParserToken) → listed entry es ts rest → has_default ts ≡ false
entries_default [] ts rest s = absurd s
entries_default (e ∷ es) ts rest s = let t = s.1 in entry_default e.exactly e.number e.name ts t.0 t.2.0 s.0 t.1 t.2.1 t.2.2

sizes_full : (d : Option Number) (es : List Entry) (ts us rest : List ParserToken) → mark_of class.For ts us → sizes d es us rest → Behind rest → scope_at ts ≡ Ok (Some (record { default = d; entries = es }), rest)
unfolding scope_at
sizes_full (Some n) es ts us rest m s f =
    let n_mark : mark_of class.Number us s.0 = (s.1.0, s.1.1, s.1.2) in
    let given = default_is us s.0 n_mark (exceptions_name es s.0 rest s.2 f) in
    rw (is_next class.For ts us m, after_is class.For ts us m, given, number_full n us s.0 s.1, exceptions_full es s.0 rest s.2 f) refl
sizes_full None es ts us rest m s f =
    rw (is_next class.For ts us m, after_is class.For ts us m, entries_default es us rest s, entries_full es us rest s f.comma) refl

scope_full : (c : Option ScopeTree) (ts rest : List ParserToken) → optional scope c ts rest → Behind rest → scope_at ts ≡ Ok (c, rest)
unfolding scope_at
scope_full None ts rest s f = subst (λ us. scope_at us ≡ Ok (None, rest)) (sym s) (rw f.scope refl)
scope_full (Some c) ts rest s f = sizes_full c.default c.entries ts s.0 rest s.1 s.2 f

expected_full : (n : Option Number) (ts rest : List ParserToken) → optional expected n ts rest → Follow rest → expected_at ts ≡ Ok (n, rest)
unfolding expected_at
expected_full None ts rest s f = subst (λ us. expected_at us ≡ Ok (None, rest)) (sym s) (rw f.expect refl)
expected_full (Some n) ts rest s f = rw (is_next class.Expect ts s.0 s.1, after_is class.Expect ts s.0 s.1, number_full n s.0 rest s.2) refl

-- ---- commands

target_full : (strict : Bool) (limit : ℕ) (t : TargetTree) (ts rest : List ParserToken) → target t ts rest → next_is class.LeftBrace rest ≡ false → depth_of_target t ≤ limit → (strict ≡ true → IsPlainTarget t) → target_at strict limit ts ≡ Ok (t, rest)
unfolding target_at
target_full strict limit (at_name n) ts rest s none d plain =
    let w : mark_of class.Name ts rest = (s.0, s.1, s.2) in
    let brace : next_is class.LeftBrace (after ts) ≡ false = ap (next_is class.LeftBrace) (after_is class.Name ts rest w) ∙ none in
    rw (is_next class.Name ts rest w, brace, spelled_full class.Name n ts rest s) refl
target_full strict limit (at_block label b) ts rest s none d plain =
    let start = block_starts b s.0 rest s.2 in
    let l = label_full label ts s.0 start.0 s.1 start.1 in
    rw (l.1, l.0, own_block_full strict limit b s.0 rest s.2 d plain) refl

scope_brace : (c : Option ScopeTree) (ts rest : List ParserToken) → optional scope c ts rest → next_is class.LeftBrace rest ≡ false → next_is class.LeftBrace ts ≡ false
unfolding is_class
scope_brace None ts rest s none = ap (next_is class.LeftBrace) s ∙ none
scope_brace (Some c) ts rest s none = differs class.For class.LeftBrace ts s.0 s.1 refl

-- what an `expect` and what stands behind it say of what stands before it
expected_follows : (n : Option Number) (ts rest : List ParserToken) → optional expected n ts rest → Follow rest → Behind ts
unfolding is_class
expected_follows None ts rest s f = subst (λ us. Behind us) (sym s) (record { name = f.name; comma = f.comma; but = f.but; scope = f.scope; brace = f.brace })
expected_follows (Some n) ts rest s f = record {
  name = differs class.Expect class.Name ts s.0 s.1 refl;
  comma = differs class.Expect class.Comma ts s.0 s.1 refl;
  but = differs class.Expect class.But ts s.0 s.1 refl;
  scope = differs class.Expect class.For ts s.0 s.1 refl;
  brace = differs class.Expect class.LeftBrace ts s.0 s.1 refl;
}

command_full : (strict : Bool) (limit : ℕ) (k : CommandKind) (p : Place) (t : TargetTree) (c : Option ScopeTree) (e : Option Number) (ts us vs rest : List ParserToken) → target t ts us → optional scope c us vs → optional expected e vs rest → Follow rest → depth_of_target t ≤ limit → (strict ≡ true → IsPlainTarget t)
    → command_at strict limit k p ts ≡ Ok (command k p t c e, rest)
unfolding command_at
command_full strict limit k p t c e ts us vs rest s1 s2 s3 f d plain =
    let b = expected_follows e vs rest s3 f in
    rw (target_full strict limit t ts us s1 (scope_brace c us vs s2 b.brace) d plain, scope_full c us vs s2 b, expected_full e vs rest s3 f) refl

-- ---- paragraphs

paragraph_full : (strict : Bool) (limit : ℕ) → 0 < limit → (x : ParagraphTree) (ts rest : List ParserToken) → paragraph x ts rest → Follow rest → depth_of_paragraph x ≤ limit → (strict ≡ true → IsPlainParagraph x) → paragraph_at strict limit ts ≡ Ok (x, rest)
unfolding paragraph_at is_class
paragraph_full strict limit some (signatures b m ns p fs) ts rest s f d plain =
    let w = (qualifiers_start b m ts s.0 s.2.0 s.1 s.2.1).1 in
    rw (w.fact, w.predicate, w.function, w.assertion, w.run, w.check) (signatures_full strict limit b m ns p fs ts rest s d plain f.brace)
paragraph_full strict limit some (fact n b) ts rest s f d plain =
    rw (is_next class.Fact ts s.0 s.1, after_is class.Fact ts s.0 s.1) (fact_full strict limit n b s.0 s.2.0 rest s.2.1 s.2.2 d plain)
paragraph_full strict limit some (predicate n ds b) ts rest s f d plain =
    let t = s.2 in
    let u = t.2 in
    rw (differs class.Pred class.Fact ts s.0 s.1 refl, is_next class.Pred ts s.0 s.1, after_is class.Pred ts s.0 s.1) (predicate_full strict limit n ds b s.0 t.0 u.0 rest some t.1 u.1 u.2 (omega (arith, d)) (omega (arith, d)) (λ h. (plain h).0) (λ h. (plain h).1))
paragraph_full strict limit some (function n ds m range result) ts rest s f d plain =
    let t1 = s.2 in
    let t2 = t1.2 in
    let t3 = t2.2 in
    let t4 = t3.2 in
    let t5 = t4.2 in
    let t6 = t5.2 in
    let t7 = t6.2 in
    rw (differs class.Fun class.Fact ts s.0 s.1 refl, differs class.Fun class.Pred ts s.0 s.1 refl, is_next class.Fun ts s.0 s.1, after_is class.Fun ts s.0 s.1)
    (function_full strict limit n ds m range result s.0 t1.0 t2.0 t3.0 t4.0 t5.0 t6.0 t7.0 rest some t1.1 t2.1 t3.1 t4.1 t5.1 t6.1 t7.1 t7.2 (omega (arith, d)) (omega (arith, d)) (omega (arith, d)) (λ h. (plain h).0) (λ h. (plain h).1) (λ h. (plain h).2))
paragraph_full strict limit some (assertion n b) ts rest s f d plain =
    let t = s.2 in
    rw (differs class.Assert class.Fact ts s.0 s.1 refl, differs class.Assert class.Pred ts s.0 s.1 refl, differs class.Assert class.Fun ts s.0 s.1 refl, is_next class.Assert ts s.0 s.1, after_is class.Assert ts s.0 s.1) (assertion_full strict limit n b s.0 t.0 rest t.1 t.2 d plain)
paragraph_full strict limit some (command kind.Run p t c e) ts rest s f d plain =
    let m = marks class.Run p ts s.0 s.1 in
    let u = s.2 in
    let v = u.2 in
    rw (differs class.Run class.Fact ts s.0 m refl, differs class.Run class.Pred ts s.0 m refl, differs class.Run class.Fun ts s.0 m refl, differs class.Run class.Assert ts s.0 m refl, is_next class.Run ts s.0 m, place_is class.Run p ts s.0 s.1, after_is class.Run ts s.0 m)
    (command_full strict limit kind.Run p t c e s.0 u.0 v.0 rest u.1 v.1 v.2 f d plain)
paragraph_full strict limit some (command kind.Check p t c e) ts rest s f d plain =
    let m = marks class.Check p ts s.0 s.1 in
    let u = s.2 in
    let v = u.2 in
    rw (differs class.Check class.Fact ts s.0 m refl, differs class.Check class.Pred ts s.0 m refl, differs class.Check class.Fun ts s.0 m refl, differs class.Check class.Assert ts s.0 m refl, differs class.Check class.Run ts s.0 m refl, is_next class.Check ts s.0 m, place_is class.Check p ts s.0 s.1, after_is class.Check ts s.0 m)
    (command_full strict limit kind.Check p t c e s.0 u.0 v.0 rest u.1 v.1 v.2 f d plain)

some_left : (ts rest : List ParserToken) → length rest < length ts → is_left ts ≡ true
unfolding is_left
some_left [] rest less = absurd (omega (arith, less))
some_left (t ∷ ts) rest less = refl

paragraphs_full : (strict : Bool) (limit : ℕ) → 0 < limit → (ps : List ParagraphTree) (ts : List ParserToken) → each paragraph ps ts [] → depth_of_paragraphs ps ≤ limit → (strict ≡ true → AllByRecursion IsPlainParagraph ps) → each (Goes is_left (paragraph_at strict limit)) ps ts []
paragraphs_full strict limit some [] ts s d plain = s
paragraphs_full strict limit some (p ∷ ps) ts s d plain =
    let read = paragraph_full strict limit some p ts s.0 s.1 (paragraphs_follow ps s.0 s.2) (omega (arith, d)) (λ h. (plain h).0) in
    let short = (paragraph_read strict limit some ts p s.0 read).shorter in
    (s.0, (some_left ts s.0 short, read, short), paragraphs_full strict limit some ps s.0 s.2 (omega (arith, d)) (λ h. (plain h).1))

-- ---- models

ordering_full : (ts rest : List ParserToken) → ordering_path ts rest → (n : Name) × (ordering_at ts ≡ Ok (n, rest))
unfolding ordering_at
ordering_full ts rest s =
    let n : Name = record { text = s.0.text; place = s.0.place } in
    (n, rw (spelled_full class.Path n ts rest (s.0, s.1, s.2, refl, refl), s.3) refl)

open_full : (o : Open) (ts rest : List ParserToken) → opened o ts rest → (next_is class.Open ts ≡ true) × (open_at ts ≡ Ok (o, rest)) × (length rest < length ts)
unfolding open_at
open_full o ts rest s =
    let t1 = s.2 in
    let t2 = t1.2 in
    let t3 = t2.2 in
    let t4 = t3.2 in
    let t5 = t4.2 in
    let path = ordering_full s.0 t1.0 t1.1 in
    let same = after_is class.Open ts s.0 s.1 in
    let path_there = subst (λ us. ordering_at us ≡ Ok (path.0, t1.0)) (sym same) path.1 in (
      is_next class.Open ts s.0 s.1,
      rw (path_there, mark_full class.LeftBracket t1.0 t2.0 t2.1, spelled_full class.Name o.signature t2.0 t3.0 t3.1, mark_full class.RightBracket t3.0 t4.0 t4.1, mark_full class.As t4.0 t5.0 t5.1, spelled_full class.Name o.alias t5.0 rest t5.2) refl,
      omega (arith, ap length s.1.1, ap length t1.1.1, ap length t2.1.1, ap length t3.1.1, ap length t4.1.1, ap length t5.1.1, ap length t5.2.1),
    )

opens_full : (os : List Open) (ts rest : List ParserToken) → each opened os ts rest → each (Goes (next_is class.Open) open_at) os ts rest
opens_full [] ts rest s = s
opens_full (o ∷ os) ts rest s = (s.0, open_full o ts s.0 s.1, opens_full os s.0 rest s.2)

opens_module : (os : List Open) (ts rest : List ParserToken) → each opened os ts rest → Follow rest → next_is class.Module ts ≡ false
unfolding is_class
opens_module [] ts rest s f = ap (next_is class.Module) s ∙ f.module_word
opens_module (o ∷ os) ts rest s f = differs class.Open class.Module ts s.1.0 s.1.1 refl

heading_full : (n : Option Name) (ts rest : List ParserToken) → optional heading n ts rest → next_is class.Module rest ≡ false → heading_at ts ≡ Ok (n, rest)
unfolding heading_at
heading_full None ts rest s none = subst (λ us. heading_at us ≡ Ok (None, rest)) (sym s) (rw none refl)
heading_full (Some n) ts rest s none = rw (is_next class.Module ts s.0 s.1, after_is class.Module ts s.0 s.1, spelled_full class.Name n s.0 rest s.2) refl

-- a text within the limit is read, where it has no form that is refused
pub model_full : (strict : Bool) (limit : ℕ) → 0 < limit → (ts : List ParserToken) (m : ModelTree) → IsTextOf ts m → depth_of_model m ≤ limit → (strict ≡ true → IsPlainModel m) → model_at strict limit ts ≡ Ok m
unfolding model_at is_left
model_full strict limit some ts m s d plain =
    let t = s.2 in
    let follow = paragraphs_follow m.paragraphs t.0 t.2 in
    let head = heading_full m.heading ts s.0 s.1 (opens_module m.opens s.0 t.0 t.1 follow) in
    let opens = many_full (next_is class.Open) open_at m.opens s.0 t.0 (opens_full m.opens s.0 t.0 t.1) follow.opening in
    let paragraphs = many_full is_left (paragraph_at strict limit) m.paragraphs t.0 [] (paragraphs_full strict limit some m.paragraphs t.0 t.2 d plain) refl in
    rw (head, opens, paragraphs) refl

-- two trees of one text are one
pub one_tree : (ts : List ParserToken) (x y : ModelTree) → IsTextOf ts x → IsTextOf ts y → x ≡ y
one_tree ts x y s t =
    let limit = suc (max (depth_of_model x) (depth_of_model y)) in
    let e = model_full false limit (omega arith) ts x s (omega arith) (λ is. true_not_false (sym is)) in
    let f = model_full false limit (omega arith) ts y t (omega arith) (λ is. true_not_false (sym is)) in
    done_is x y (sym e ∙ f)
