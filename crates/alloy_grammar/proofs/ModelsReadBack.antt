-- What spells a model is read as it.
use Rattle.std.proofs.Common.{◌≡◌, ℕ, zero, suc, ◌-◌, ◌≤◌, ◌<◌, ◌⊎◌, inl, inr, Bool, true, false, not, ◌&&◌, IsTrue, List, [], ◌∷◌, length, Option, Some, None, Ok, refl, sym, ap, subst, ◌∙◌, arith}
use Rattle.std.specs.List.{AllByRecursion}
use Rattle.alloy_syntax.specs.declared.class.Class.{Class}
use Rattle.alloy_syntax.specs.declared.class.Class.TheVariants as class
use Rattle.alloy_syntax.specs.declared.reading.Around.TheVariants as around
use Rattle.alloy_syntax.specs.declared.tree.Name.{Name}
use Rattle.alloy_syntax.specs.declared.tree.MultiplicityWord.{MultiplicityWord}
use Rattle.alloy_syntax.specs.declared.tree.Multiplicity.{Multiplicity}
use Rattle.alloy_syntax.specs.declared.tree.Multiplicity.TheVariants as multiplicity
use Rattle.alloy_syntax.specs.declared.tree.Parent.{Parent}
use Rattle.alloy_syntax.specs.declared.tree.Manner.{Manner}
use Rattle.alloy_syntax.specs.declared.tree.Manner.TheVariants as manner
use Rattle.alloy_syntax.specs.declared.parser_token.ParserToken.{ParserToken}
use Rattle.alloy_syntax.specs.Class.{is_class}
use Rattle.alloy_syntax.specs.Tree.{Tree, trees_of, DeclarationTree, declarations_of, FieldTree, BlockTree, BoundTree, bound_named, bound_bracketed, bound_union, bound_arrows, signatures, fact, predicate, function, assertion}
use Rattle.alloy_syntax.specs.Readers.{Parser, next_is, after, is_mark, behind, others, listed as listed_at}
use Rattle.alloy_syntax.specs.Nodes.{within, inside_over, braced_over}
use Rattle.alloy_syntax.specs.Bounds.{begins_bound_arrow}
use Rattle.alloy_syntax.specs.Paragraphs.{own_block, field_at, fields_at, parent_at, is_qualifier as is_qualifier_next, qualifier_at, after_qualifier, qualified, signatures_at, label_at, fact_at, parameters_to, parameter_list, predicate_at, function_at, assertion_at}
use Rattle.alloy_grammar.specs.Fronts.{Front, ◌before◌, nothing, mark_of, flag, name, mark, names, each, listed_if_any, class_of_multiplicity}
use Rattle.alloy_grammar.specs.Levels.{sum_level}
use Rattle.alloy_grammar.specs.Nodes.{at_level, spells, spells_declarations}
use Rattle.alloy_grammar.specs.Bounds.{spells_bound, depth_of_bound, is_plain_bound}
use Rattle.alloy_grammar.specs.Depths.{depth_of}
use Rattle.alloy_grammar.specs.Forms.{IsPlain, ArePlainDeclarations}
use Rattle.alloy_grammar.specs.Models.{optional, tree_of_block, block_text, is_qualifier, qualifier, qualifiers, class_of_manner, parent, field, is_empty, parameters, paragraph, depth_of_fields, depth_of_parameters, ArePlainFields}
use Rattle.alloy_grammar.proofs.Results.{true_not_false}
use Rattle.alloy_grammar.proofs.Tokens.{marks}
use Rattle.alloy_grammar.proofs.FirstTokens.{looser, first}
use Rattle.alloy_grammar.proofs.TextEnds.{is_next, after_is, differs, continues}
use Rattle.alloy_grammar.proofs.NodesReadBack.{mark_full, spelled_full, Goes, many_full}
use Rattle.alloy_grammar.proofs.Spelled.{list_of, list_of_declarations, closed}
use Rattle.alloy_grammar.proofs.Nodes.{block_full, names_full, word_full, no_word, multiplicity_full}
use Rattle.alloy_grammar.proofs.Trees.{full, full_trees, full_declarations}
use Rattle.alloy_grammar.proofs.BoundTrees.{whole_back}
use Rattle.alloy_grammar.proofs.Paragraphs.{field_read}

-- ---- lists

list_of_trees : (xs : List Tree) → list_of (trees_of xs) ≡ xs
unfolding list_of
list_of_trees [] = refl
list_of_trees (x ∷ xs) = ap (λ ys. x ∷ ys) (list_of_trees xs)

list_declared : (ds : List DeclarationTree) → list_of_declarations (declarations_of ds) ≡ ds
unfolding list_of_declarations
list_declared [] = refl
list_declared (d ∷ ds) = ap (λ es. d ∷ es) (list_declared ds)

pub listed_full : {A : Type 0} (item : Parser A) (x : A) (xs : List A) (ts us rest : List ParserToken) → item ts ≡ Ok (x, us) → each (Goes (next_is class.Comma) (behind item)) xs us rest → next_is class.Comma rest ≡ false → listed_at item ts ≡ Ok (x ∷ xs, rest)
unfolding listed_at others
listed_full item x xs ts us rest e p ends = rw (e, many_full (next_is class.Comma) (behind item) xs us rest p ends) refl

-- ---- blocks

pub own_block_full : (strict : Bool) (limit : ℕ) (b : BlockTree) (ts rest : List ParserToken) → block_text b ts rest → depth_of (tree_of_block b) ≤ limit → (strict ≡ true → IsPlain (tree_of_block b)) → own_block strict limit ts ≡ Ok (b, rest)
unfolding spells depth_of IsPlain
own_block_full strict limit b ts rest s d plain =
    let all = (full_trees strict (trees_of b.formulas) limit s.0 s.2.0 rest (omega (arith, d)) plain).0 s.2.1 s.2.2 in
    let e = block_full (within strict limit) b.place (trees_of b.formulas) ts s.0 s.2.0 rest s.1 s.2.1 s.2.2 all in
    e ∙ ap (λ fs. Ok (record { place = b.place; formulas = fs }, rest)) (list_of_trees b.formulas)

pub block_starts : (b : BlockTree) (ts rest : List ParserToken) → block_text b ts rest → (us : List ParserToken) × mark_of class.LeftBrace ts us
unfolding spells
block_starts b ts rest s = (s.0, marks class.LeftBrace b.place ts s.0 s.1)

-- ---- fields

bound_first : (b : BoundTree) (ts rest : List ParserToken) → spells_bound b ts rest → is_mark ts ≡ false
unfolding spells_bound is_mark is_class
bound_first (bound_named n) ts rest s =
    let m : mark_of class.Name ts rest = (s.0, s.1, s.2) in
    rw (differs class.Name class.Set ts rest m refl, differs class.Name class.One ts rest m refl, differs class.Name class.Lone ts rest m refl, differs class.Name class.Some ts rest m refl) refl
bound_first (bound_bracketed p b) ts rest s =
    let m = marks class.LeftParen p ts s.0 s.1 in
    rw (differs class.LeftParen class.Set ts s.0 m refl, differs class.LeftParen class.One ts s.0 m refl, differs class.LeftParen class.Lone ts s.0 m refl, differs class.LeftParen class.Some ts s.0 m refl) refl
bound_first (bound_union b us) ts rest s = bound_first b ts s.1.0 s.1.1.1
bound_first (bound_arrows b rs) ts rest s = bound_first b ts s.1.0 s.1.1.1

-- what may stand behind a field
abbrev FieldEnds : List ParserToken → Type 0
FieldEnds ts = (next_is class.Plus ts ≡ false) × (begins_bound_arrow ts ≡ false)

ends_field : (c : Class) (ts rest : List ParserToken) → mark_of c ts rest → is_class c class.Plus ≡ false → is_class c class.Arrow ≡ false → is_class c class.Set ≡ false → is_class c class.One ≡ false → is_class c class.Lone ≡ false → is_class c class.Some ≡ false → FieldEnds ts
unfolding begins_bound_arrow is_mark
ends_field c ts rest m e1 e2 e3 e4 e5 e6 = (differs c class.Plus ts rest m e1, rw (differs c class.Arrow ts rest m e2, differs c class.Set ts rest m e3, differs c class.One ts rest m e4, differs c class.Lone ts rest m e5, differs c class.Some ts rest m e6) refl)

field_full : (strict : Bool) (limit : ℕ) (f : FieldTree) (ts rest : List ParserToken) → field f ts rest → suc (depth_of_bound f.bound) ≤ limit → (strict ≡ true → is_plain_bound f.bound ≡ true) → FieldEnds rest → field_at strict limit ts ≡ Ok (f, rest)
unfolding field_at is_class
field_full strict limit f ts rest s d plain ends =
    let t = s.2 in
    let u = t.2 in
    let w = word_full f.mark t.0 u.0 u.1 (bound_first f.bound u.0 rest u.2) in
    let b = whole_back strict limit f.bound u.0 rest u.2 (omega (arith, d)) plain ends.0 ends.1 in
    rw (names_full f.names ts s.0 s.1 (differs class.Colon class.Comma s.0 t.0 t.1 refl), mark_full class.Colon s.0 t.0 t.1, w.1, b.2, w.0, b.1) refl

names_start : (ns : List Name) (ts rest : List ParserToken) → names ns ts rest → (us : List ParserToken) × mark_of class.Name ts us
names_start [] ts rest s = absurd s
names_start (n ∷ ns) ts rest s = (s.0, (s.1.0, s.1.1, s.1.2))

-- each of a list behind a comma, where each is read if a comma or the end follows
pub commas_full : {A : Type 0} (item : Parser A) (P : A → Front) (Q : A → Type 0) (E : List ParserToken → Type 0) → ((x : A) (ts rest : List ParserToken) → Q x → P x ts rest → E rest → item ts ≡ Ok (x, rest)) → ((ts : List ParserToken) (x : A) (rest : List ParserToken) → item ts ≡ Ok (x, rest) → length rest < length ts)
    → ((ts us : List ParserToken) → mark_of class.Comma ts us → E ts) → (xs : List A) (ts rest : List ParserToken) → AllByRecursion Q xs → each (λ x. mark_of class.Comma before P x) xs ts rest → E rest
    → each (Goes (next_is class.Comma) (behind item)) xs ts rest × E ts
commas_full item P Q E reads short comma_ends [] ts rest q p e = (p, subst E (sym p) e)
commas_full item P Q E reads short comma_ends (x ∷ xs) ts rest q p e =
    let k = p.1 in
    let more = commas_full item P Q E reads short comma_ends xs p.0 rest q.1 p.2 e in
    let read = reads x k.0 p.0 q.0 k.2 more.1 in
    let there = subst (λ us. item us ≡ Ok (x, p.0)) (sym (after_is class.Comma ts k.0 k.1)) read in
    ((p.0, (is_next class.Comma ts k.0 k.1, there, omega (arith, ap length k.1.1, short k.0 x p.0 read)), more.0), comma_ends ts k.0 k.1)

-- what a field's reading wants of it
record FieldFits (strict : Bool) (limit : ℕ) (f : FieldTree) : Type 0 where
  shallow : suc (depth_of_bound f.bound) ≤ limit
  plain : strict ≡ true → is_plain_bound f.bound ≡ true

fields_fit : (strict : Bool) (limit : ℕ) (fs : List FieldTree) → depth_of_fields fs ≤ limit → (strict ≡ true → ArePlainFields fs) → AllByRecursion (FieldFits strict limit) fs
fields_fit strict limit [] d plain = tt
fields_fit strict limit (f ∷ fs) d plain = (record { shallow = omega (arith, d); plain = λ h. (plain h).0 }, fields_fit strict limit fs (omega (arith, d)) (λ h. (plain h).1))

comma_ends_field : (ts us : List ParserToken) → mark_of class.Comma ts us → FieldEnds ts
unfolding is_class
comma_ends_field ts us m = ends_field class.Comma ts us m refl refl refl refl refl refl

fields_full : (strict : Bool) (limit : ℕ) (fs : List FieldTree) (ts rest vs : List ParserToken) → listed_if_any field fs ts rest → mark_of class.RightBrace rest vs → depth_of_fields fs ≤ limit → (strict ≡ true → ArePlainFields fs) → fields_at strict limit ts ≡ Ok (fs, rest)
unfolding fields_at is_class
fields_full strict limit [] ts rest vs s m d plain = let is : next_is class.RightBrace ts ≡ true = ap (next_is class.RightBrace) s ∙ is_next class.RightBrace rest vs m in rw is (ap (λ us. Ok ([], us)) s)
fields_full strict limit (f ∷ fs) ts rest vs s m d plain =
    let fit = fields_fit strict limit (f ∷ fs) d plain in
    let start = names_start f.names ts s.1.0 s.1.1 in
    let reads : (x : FieldTree) (us os : List ParserToken) → FieldFits strict limit x → field x us os → FieldEnds os → field_at strict limit us ≡ Ok (x, os) = λ x us os q p e. field_full strict limit x us os p q.shallow q.plain e in
    let short : (us : List ParserToken) (x : FieldTree) (os : List ParserToken) → field_at strict limit us ≡ Ok (x, os) → length os < length us = λ us x os e. (field_read strict limit us x os e).shorter in
    let more = commas_full (field_at strict limit) field (FieldFits strict limit) FieldEnds reads short comma_ends_field fs s.0 rest fit.1 s.2 (ends_field class.RightBrace rest vs m refl refl refl refl refl refl) in
    let one = reads f ts s.0 fit.0 s.1 more.1 in
    rw (differs class.Name class.RightBrace ts start.0 start.1 refl) (listed_full (field_at strict limit) f fs ts s.0 rest one more.0 (differs class.RightBrace class.Comma rest vs m refl))

-- ---- signatures

manner_with : (m : Manner) (n : Name) (ts us rest : List ParserToken) → mark_of (class_of_manner m) ts us → name n us rest → parent_at ts ≡ Ok (Some (record { manner = m; name = n }), rest)
unfolding parent_at is_class
manner_with manner.Extends n ts us rest m s = rw (is_next class.Extends ts us m, after_is class.Extends ts us m, spelled_full class.Name n us rest s) refl
manner_with manner.In n ts us rest m s = rw (differs class.In class.Extends ts us m refl, is_next class.In ts us m, after_is class.In ts us m, spelled_full class.Name n us rest s) refl

manner_comma : (m : Manner) (ts us : List ParserToken) → mark_of (class_of_manner m) ts us → next_is class.Comma ts ≡ false
unfolding is_class
manner_comma manner.Extends ts us m = differs class.Extends class.Comma ts us m refl
manner_comma manner.In ts us m = differs class.In class.Comma ts us m refl

-- behind the names of signatures no comma follows
parent_end : (p : Option Parent) (ts rest vs : List ParserToken) → optional parent p ts rest → mark_of class.LeftBrace rest vs → next_is class.Comma ts ≡ false
unfolding is_class
parent_end None ts rest vs s m = ap (next_is class.Comma) s ∙ differs class.LeftBrace class.Comma rest vs m refl
parent_end (Some p) ts rest vs s m = manner_comma p.manner ts s.0 s.1

manner_full : (p : Parent) (ts us rest : List ParserToken) → mark_of (class_of_manner p.manner) ts us → name p.name us rest → parent_at ts ≡ Ok (Some p, rest)
manner_full p ts us rest m n = manner_with p.manner p.name ts us rest m n

parent_full : (p : Option Parent) (ts rest vs : List ParserToken) → optional parent p ts rest → mark_of class.LeftBrace rest vs → parent_at ts ≡ Ok (p, rest)
unfolding parent_at is_class
parent_full None ts rest vs s m =
    subst (λ us. parent_at us ≡ Ok (None, rest)) (sym s) (rw (differs class.LeftBrace class.Extends rest vs m refl, differs class.LeftBrace class.In rest vs m refl) refl)
parent_full (Some p) ts rest vs s m = manner_full p ts s.0 rest s.1 s.2

set_not : (w : Multiplicity) (ts rest : List ParserToken) → is_qualifier w ≡ true → mark_of (class_of_multiplicity w) ts rest → next_is class.Set ts ≡ false
unfolding is_class
set_not multiplicity.Set ts rest is m = true_not_false (sym is)
set_not multiplicity.One ts rest is m = differs class.One class.Set ts rest m refl
set_not multiplicity.Lone ts rest is m = differs class.Lone class.Set ts rest m refl
set_not multiplicity.Some ts rest is m = differs class.Some class.Set ts rest m refl

-- the words of a qualifier are read, where none follows
qualifier_full : (m : Option MultiplicityWord) (ts rest : List ParserToken) → optional qualifier m ts rest → is_mark rest ≡ false → (qualifier_at ts ≡ m) × (after_qualifier ts ≡ rest)
unfolding is_qualifier_next qualifier_at
qualifier_full None ts rest s none = let here : is_mark ts ≡ false = ap is_mark s ∙ none in (rw here refl, rw here s)
qualifier_full (Some w) ts rest s none =
    let t = s.1 in
    let m : mark_of (class_of_multiplicity w.multiplicity) ts rest = (t.0, t.1, t.2) in
    let k = multiplicity_full w.multiplicity ts rest m in
    let read = word_full (Some w) ts rest t none in
    let set = set_not w.multiplicity ts rest s.0 m in
    (rw (k.0, set) read.0, rw (k.0, set) (after_is (class_of_multiplicity w.multiplicity) ts rest m))

no_mark_at : (c : Class) (ts rest : List ParserToken) → mark_of c ts rest → is_class c class.Set ≡ false → is_class c class.One ≡ false → is_class c class.Lone ≡ false → is_class c class.Some ≡ false → is_mark ts ≡ false
unfolding is_mark
no_mark_at c ts rest m e1 e2 e3 e4 = rw (differs c class.Set ts rest m e1, differs c class.One ts rest m e2, differs c class.Lone ts rest m e3, differs c class.Some ts rest m e4) refl

multiplicity_abstract : (w : Multiplicity) → is_class (class_of_multiplicity w) class.Abstract ≡ false
unfolding is_class
multiplicity_abstract multiplicity.Set = refl
multiplicity_abstract multiplicity.One = refl
multiplicity_abstract multiplicity.Lone = refl
multiplicity_abstract multiplicity.Some = refl

-- a qualifier isn't `abstract`
qualifier_not_abstract : (m : Option MultiplicityWord) (ts rest : List ParserToken) → optional qualifier m ts rest → next_is class.Abstract rest ≡ false → next_is class.Abstract ts ≡ false
qualifier_not_abstract None ts rest s none = ap (next_is class.Abstract) s ∙ none
qualifier_not_abstract (Some w) ts rest s none = let t = s.1 in differs (class_of_multiplicity w.multiplicity) class.Abstract ts rest (t.0, t.1, t.2) (multiplicity_abstract w.multiplicity)

abbrev QualifiedAs : Bool → Option MultiplicityWord → List ParserToken → List ParserToken → Type 0
QualifiedAs b m ts rest = ((qualified ts).is_abstract ≡ b) × ((qualified ts).mark ≡ m) × ((qualified ts).behind ≡ rest)

-- `abstract` first
abstract_first : (m : Option MultiplicityWord) (ts us rest : List ParserToken) → mark_of class.Abstract ts us → optional qualifier m us rest → is_mark rest ≡ false → QualifiedAs true m ts rest
unfolding qualified
abstract_first m ts us rest a q none =
    let is = is_next class.Abstract ts us a in
    let same = after_is class.Abstract ts us a in
    let k = qualifier_full m us rest q none in
    (rw is refl, rw (is, same) k.0, rw (is, same) k.1)

-- no `abstract`
only_qualifier : (m : Option MultiplicityWord) (ts rest : List ParserToken) → optional qualifier m ts rest → is_mark rest ≡ false → next_is class.Abstract rest ≡ false → QualifiedAs false m ts rest
unfolding qualified
only_qualifier m ts rest q none other =
    let not_here = qualifier_not_abstract m ts rest q other in
    let k = qualifier_full m ts rest q none in
    (rw (not_here, k.1) other, rw not_here k.0, rw (not_here, k.1, other) refl)

-- `abstract` behind the other word
abstract_last : (w : MultiplicityWord) (ts us rest : List ParserToken) → qualifier w ts us → mark_of class.Abstract us rest → QualifiedAs true (Some w) ts rest
unfolding qualified is_class
abstract_last w ts us rest q a =
    let t = q.1 in
    let not_here = differs (class_of_multiplicity w.multiplicity) class.Abstract ts us (t.0, t.1, t.2) (multiplicity_abstract w.multiplicity) in
    let k = qualifier_full (Some w) ts us q (no_mark_at class.Abstract us rest a refl refl refl refl) in
    let is = is_next class.Abstract us rest a in
    (rw (not_here, k.1) is, rw not_here k.0, rw (not_here, k.1, is) (after_is class.Abstract us rest a))

flag_first : (b : Bool) (m : Option MultiplicityWord) (ts us rest : List ParserToken) → flag class.Abstract b ts us → optional qualifier m us rest → is_mark rest ≡ false → next_is class.Abstract rest ≡ false → QualifiedAs b m ts rest
flag_first true m ts us rest f q none other = abstract_first m ts us rest f q none
flag_first false m ts us rest f q none other = subst (λ vs. QualifiedAs false m vs rest) (sym f) (only_qualifier m us rest q none other)

flag_last : (b : Bool) (m : Option MultiplicityWord) (ts us rest : List ParserToken) → optional qualifier m ts us → flag class.Abstract b us rest → is_mark rest ≡ false → next_is class.Abstract rest ≡ false → QualifiedAs b m ts rest
flag_last true None ts us rest q f none other = abstract_first None ts rest rest (subst (λ vs. mark_of class.Abstract vs rest) (sym q) f) refl none
flag_last true (Some w) ts us rest q f none other = abstract_last w ts us rest q f
flag_last false m ts us rest q f none other = only_qualifier m ts rest (subst (λ vs. optional qualifier m ts vs) f q) none other

qualifiers_full : (b : Bool) (m : Option MultiplicityWord) (ts rest vs : List ParserToken) → qualifiers b m ts rest → mark_of class.Sig rest vs → QualifiedAs b m ts rest
unfolding is_class
qualifiers_full b m ts rest vs s sig =
    let none = no_mark_at class.Sig rest vs sig refl refl refl refl in
    let other = differs class.Sig class.Abstract rest vs sig refl in
    elim s [ inl t ↦ flag_first b m ts t.0 rest t.1 t.2 none other | inr t ↦ flag_last b m ts t.0 rest t.1 t.2 none other ]

pub signatures_full : (strict : Bool) (limit : ℕ) (b : Bool) (m : Option MultiplicityWord) (ns : List Name) (p : Option Parent) (fs : List FieldTree) (ts rest : List ParserToken) → paragraph (signatures b m ns p fs) ts rest → depth_of_fields fs ≤ limit → (strict ≡ true → ArePlainFields fs) → next_is class.LeftBrace rest ≡ false
    → signatures_at strict limit ts ≡ Ok (signatures b m ns p fs, rest)
unfolding signatures_at is_class
signatures_full strict limit b m ns p fs ts rest s d plain ends =
    let t1 = s.2 in
    let t2 = t1.2 in
    let t3 = t2.2 in
    let t4 = t3.2 in
    let t5 = t4.2 in
    let q = qualifiers_full b m ts s.0 t1.0 s.1 t1.1 in
    let ended : next_is class.Comma t2.0 ≡ false = parent_end p t2.0 t3.0 t4.0 t3.1 t4.1 in
    rw (q.2, mark_full class.Sig s.0 t1.0 t1.1, names_full ns t1.0 t2.0 t2.1 ended, parent_full p t2.0 t3.0 t4.0 t3.1 t4.1, mark_full class.LeftBrace t3.0 t4.0 t4.1, fields_full strict limit fs t4.0 t5.0 rest t5.1 t5.2 d plain, mark_full class.RightBrace t5.0 rest t5.2, ends, q.0, q.1) refl

-- ---- facts and assertions

pub label_full : (n : Option Name) (ts us vs : List ParserToken) → optional name n ts us → mark_of class.LeftBrace us vs → (label_at ts ≡ Ok (n, us)) × ((next_is class.Name ts && not (next_is class.LeftBrace (after ts))) ≡ false)
unfolding label_at is_class
label_full None ts us vs s m =
    let none : next_is class.Name ts ≡ false = ap (next_is class.Name) s ∙ differs class.LeftBrace class.Name us vs m refl in
    (rw none (ap (λ ws. Ok (None, ws)) s), rw none refl)
label_full (Some n) ts us vs s m =
    let w : mark_of class.Name ts us = (s.0, s.1, s.2) in
    let brace : next_is class.LeftBrace (after ts) ≡ true = ap (next_is class.LeftBrace) (after_is class.Name ts us w) ∙ is_next class.LeftBrace us vs m in
    (rw (is_next class.Name ts us w, spelled_full class.Name n ts us s) refl, rw (is_next class.Name ts us w, brace) refl)

pub fact_full : (strict : Bool) (limit : ℕ) (n : Option Name) (b : BlockTree) (ts us rest : List ParserToken) → optional name n ts us → block_text b us rest → depth_of (tree_of_block b) ≤ limit → (strict ≡ true → IsPlain (tree_of_block b)) → fact_at strict limit ts ≡ Ok (fact n b, rest)
unfolding fact_at
fact_full strict limit n b ts us rest m s d plain =
    let start = block_starts b us rest s in
    rw ((label_full n ts us start.0 m start.1).0, own_block_full strict limit b us rest s d plain) refl

pub assertion_full : (strict : Bool) (limit : ℕ) (n : Name) (b : BlockTree) (ts us rest : List ParserToken) → name n ts us → block_text b us rest → depth_of (tree_of_block b) ≤ limit → (strict ≡ true → IsPlain (tree_of_block b)) → assertion_at strict limit ts ≡ Ok (assertion n b, rest)
unfolding assertion_at
assertion_full strict limit n b ts us rest m s d plain = rw (spelled_full class.Name n ts us m, own_block_full strict limit b us rest s d plain) refl

-- ---- parameters

flag_or_name : (c : Class) (b : Bool) (ns : List Name) (ts us vs ws : List ParserToken) → is_class class.Disj c ≡ false → is_class class.Name c ≡ false → ts ≡ us → flag class.Disj b us vs → names ns vs ws → next_is c ts ≡ false
flag_or_name c true ns ts us vs ws e1 e2 same f n = ap (next_is c) same ∙ differs class.Disj c us vs f e1
flag_or_name c false ns ts us vs ws e1 e2 same f n = let start = names_start ns vs ws n in ap (next_is c) (same ∙ f) ∙ differs class.Name c vs start.0 start.1 e2

no_list : (strict : Bool) (limit : ℕ) (ds : List DeclarationTree) (ts rest : List ParserToken) → IsTrue (is_empty ds) → ts ≡ rest → next_is class.LeftBracket rest ≡ false → next_is class.LeftParen rest ≡ false → parameter_list strict limit ts ≡ Ok (ds, rest)
unfolding parameter_list
no_list strict limit [] ts rest is same none1 none2 = subst (λ us. parameter_list strict limit us ≡ Ok ([], rest)) (sym same) (rw (none1, none2) refl)
no_list strict limit (d ∷ ds) ts rest is same none1 none2 = true_not_false (sym is)

-- declarations begin with `disj` or a name
declared_not : (c : Class) (d : DeclarationTree) (ds : List DeclarationTree) (ts rest : List ParserToken) → is_class class.Disj c ≡ false → is_class class.Name c ≡ false → spells_declarations nothing (declarations_of (d ∷ ds)) ts rest → next_is c ts ≡ false
unfolding spells_declarations
declared_not c d ds ts rest e1 e2 s = flag_or_name c d.disjoint d.names ts s.0 s.2.0 s.2.2.0 e1 e2 s.1 s.2.1 s.2.2.1

parameters_read : (strict : Bool) (limit : ℕ) (closing : Class) (ds : List DeclarationTree) (ts us rest : List ParserToken) → 0 < limit → is_class class.Disj closing ≡ false → is_class class.Name closing ≡ false → continues closing ≡ 20 → is_class closing class.Colon ≡ false → is_class closing class.Comma ≡ false
    → spells_declarations nothing (declarations_of ds) ts us → mark_of closing us rest → depth_of_parameters ds ≤ limit → (strict ≡ true → ArePlainDeclarations (declarations_of ds)) → parameters_to strict limit closing ts ≡ Ok (ds, rest)
unfolding spells_declarations
parameters_read strict limit closing [] ts us rest some e1 e2 e3 e4 e5 s m d plain =
    let is : next_is closing ts ≡ true = ap (next_is closing) s ∙ is_next closing us rest m in
    let behind_it : after ts ≡ rest = ap after s ∙ after_is closing us rest m in
    rw (is, behind_it) refl
parameters_read strict limit closing (x ∷ xs) ts us rest some e1 e2 e3 e4 e5 s m d plain =
    let e = (full_declarations strict (declarations_of (x ∷ xs)) (limit - 1) ts us (omega (arith, d, some)) plain (closed around.Parens closing 7 us rest m e3 e4 e5) (differs closing class.Comma us rest m e5)).1 false s refl (λ h. true_not_false (sym h)) in
    rw (declared_not closing x xs ts us e1 e2 s, e, mark_full closing us rest m) (ap (λ es. Ok (es, rest)) (list_declared (x ∷ xs)))

parameters_full : (strict : Bool) (limit : ℕ) (ds : List DeclarationTree) (ts rest : List ParserToken) → 0 < limit → parameters ds ts rest → next_is class.LeftBracket rest ≡ false → next_is class.LeftParen rest ≡ false → depth_of_parameters ds ≤ limit → (strict ≡ true → ArePlainDeclarations (declarations_of ds))
    → parameter_list strict limit ts ≡ Ok (ds, rest)
unfolding parameter_list is_class continues
parameters_full strict limit ds ts rest some s none1 none2 d plain =
    elim s [
      | inl t ↦ no_list strict limit ds ts rest t.0 t.1 none1 none2
      | inr u ↦ elim u [
        | inl t ↦ (let v = t.2 in rw (is_next class.LeftBracket ts t.0 t.1, after_is class.LeftBracket ts t.0 t.1) (parameters_read strict limit class.RightBracket ds t.0 v.0 rest some refl refl refl refl refl v.1 v.2 d plain))
        | inr t ↦ (let v = t.2 in rw (differs class.LeftParen class.LeftBracket ts t.0 t.1 refl, is_next class.LeftParen ts t.0 t.1, after_is class.LeftParen ts t.0 t.1) (parameters_read strict limit class.RightParen ds t.0 v.0 rest some refl refl refl refl refl v.1 v.2 d plain))
      ]
    ]

pub predicate_full : (strict : Bool) (limit : ℕ) (n : Name) (ds : List DeclarationTree) (b : BlockTree) (ts us vs rest : List ParserToken) → 0 < limit → name n ts us → parameters ds us vs → block_text b vs rest → depth_of_parameters ds ≤ limit → depth_of (tree_of_block b) ≤ limit
    → (strict ≡ true → ArePlainDeclarations (declarations_of ds)) → (strict ≡ true → IsPlain (tree_of_block b)) → predicate_at strict limit ts ≡ Ok (predicate n ds b, rest)
unfolding predicate_at is_class
predicate_full strict limit n ds b ts us vs rest some m q s d1 d2 plain1 plain2 =
    let start = block_starts b vs rest s in
    rw (spelled_full class.Name n ts us m, parameters_full strict limit ds us vs some q (differs class.LeftBrace class.LeftBracket vs start.0 start.1 refl) (differs class.LeftBrace class.LeftParen vs start.0 start.1 refl) d1 plain1, own_block_full strict limit b vs rest s d2 plain2) refl

braced_full : (strict : Bool) (limit : ℕ) (x : Tree) (ts us vs rest : List ParserToken) → mark_of class.LeftBrace ts us → at_level sum_level x (spells x) us vs → mark_of class.RightBrace vs rest → suc (depth_of x) ≤ limit → (strict ≡ true → IsPlain x) → braced_over (within strict limit) ts ≡ Ok (x, rest)
unfolding braced_over within inside_over continues is_class
braced_full strict zero x ts us vs rest o s c d plain = absurd (omega (arith, d))
braced_full strict (suc r) x ts us vs rest o s c d plain =
    let e = full strict x r around.Parens 7 us vs s.1 (omega (arith, d)) plain s.0 (closed around.Parens class.RightBrace 7 vs rest c refl refl refl) in
    rw (mark_full class.LeftBrace ts us o, e, mark_full class.RightBrace vs rest c) refl

pub function_full : (strict : Bool) (limit : ℕ) (n : Name) (ds : List DeclarationTree) (m : Option MultiplicityWord) (range result : Tree) (ts us vs ws os ps qs rs rest : List ParserToken) → 0 < limit → name n ts us → parameters ds us vs → mark_of class.Colon vs ws → mark m ws os → at_level sum_level range (spells range) os ps
    → mark_of class.LeftBrace ps qs → at_level sum_level result (spells result) qs rs → mark_of class.RightBrace rs rest → depth_of_parameters ds ≤ limit → depth_of range ≤ limit → suc (depth_of result) ≤ limit
    → (strict ≡ true → ArePlainDeclarations (declarations_of ds)) → (strict ≡ true → IsPlain range) → (strict ≡ true → IsPlain result) → function_at strict limit ts ≡ Ok (function n ds m range result, rest)
unfolding function_at continues is_class
function_full strict limit n ds m range result ts us vs ws os ps qs rs rest some a q c w s o t b d1 d2 d3 plain1 plain2 plain3 =
    let list = parameters_full strict limit ds us vs some q (differs class.Colon class.LeftBracket vs ws c refl) (differs class.Colon class.LeftParen vs ws c refl) d1 plain1 in
    let word = word_full m ws os w (no_word 7 os (omega arith) (looser 7 s.0 (first range os ps s.1))) in
    let ranged = full strict range limit around.Parens 7 os ps s.1 (omega (arith, d2)) plain2 s.0 (closed around.Parens class.LeftBrace 7 ps qs o refl refl refl) in
    rw (spelled_full class.Name n ts us a, list, mark_full class.Colon vs ws c, word.1, ranged, braced_full strict limit result ps qs rs rest o t b d3 plain3, word.0) refl
