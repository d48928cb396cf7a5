-- A text is read in one way, and each text is read.
use Rattle.std.proofs.Common.{◌≡◌, ◌⊎◌, ℕ, List, [], ◌∷◌, Some, Result, Ok, Err, MatchResult, refl, sym, ap, ◌∙◌, subst, inl, inr}
use Rattle.alloy_lex.specs.declared.token.Token.{Token}
use Rattle.alloy_lex.specs.declared.token.LexFault.{LexFault}
use Rattle.alloy_lex.specs.declared.token.LexFault.TheVariants as lex
use Rattle.alloy_lex.specs.Tokens.{tokens_of}
use Rattle.alloy_syntax.specs.Tree.{ModelTree}
use Rattle.alloy_syntax.specs.ParserTokens.{seen_all}
use Rattle.alloy_syntax.specs.Readers.{ParseStopView}
use Rattle.alloy_syntax.specs.Paragraphs.{model_of}
use Rattle.alloy_parse.specs.declared.fault.ParseFault.TheVariants as parse
use Rattle.alloy_parse.specs.Faults.{fault_of}
use Rattle.order_lib.specs.declared.fault.OrderFault.{OrderFault}
use Rattle.order_lib.specs.declared.fault.OrderFault.TheVariants as order
use Rattle.order_lib.specs.Expanded.{expanded}
use Rattle.named_model.specs.declared.fault.NameFault.{NameFault}
use Rattle.named_model.specs.declared.fault.NameFault.TheVariants as name
use Rattle.named_model.specs.Answers.{first_in, ◌>>=◌}
use Rattle.named_model.specs.Declarations.{named_of}
use Rattle.named_model.specs.Faults.{faults_in}
use Rattle.named_model.specs.Model.{NamedTree}
use Rattle.model_types.specs.declared.fault.TypeFault.{TypeFault}
use Rattle.model_types.specs.declared.fault.TypeFault.TheVariants as typing
use Rattle.model_types.specs.Sorts.{Checked}
use Rattle.model_types.specs.Models.{types_checked, settled_in}
use Rattle.alloy_types.specs.Typed as outcome
use Rattle.model_texts.specs.Words.Words.{lex_words, parse_words, order_words, name_words, type_words}
use Rattle.model_texts.specs.Texts.ModelText.{IsTreeOf, IsWhole, SaysModel, IsFaulty}

-- ---- a result, and an option, is one thing

ok_same : {A E : Type 0} (r : Result A E) (x y : A) → r ≡ Ok x → r ≡ Ok y → x ≡ y
ok_same {A = A} {E = E} r x y a b = subst (λ (s : Result A E). MatchResult s (λ z. x ≡ z) (λ _. ⊥)) (sym a ∙ b) refl

err_same : {A E : Type 0} (r : Result A E) (x y : E) → r ≡ Err x → r ≡ Err y → x ≡ y
err_same {A = A} {E = E} r x y a b = subst (λ (s : Result A E). MatchResult s (λ _. ⊥) (λ z. x ≡ z)) (sym a ∙ b) refl

never_both : {A E : Type 0} (r : Result A E) (x : A) (y : E) → r ≡ Ok x → r ≡ Err y → ⊥
never_both {A = A} {E = E} r x y a b = subst (λ (s : Result A E). MatchResult s (λ _. Unit {0}) (λ _. ⊥)) (sym a ∙ b) tt

first_same : (fs : List NameFault) (x y : NameFault) → first_in fs ≡ Some x → first_in fs ≡ Some y → x ≡ y
first_same fs x y a b = let same : Some x ≡ Some y = sym a ∙ b in cc

none_first : (fs : List NameFault) (x : NameFault) → fs ≡ [] → first_in fs ≡ Some x → ⊥
none_first [] x e a = cc
none_first (f ∷ fs) x e a = cc

-- ---- a text is read in one way

model_same : (ts us : List Token) → ts ≡ us → model_of (seen_all ts) ≡ model_of (seen_all us)
model_same ts us e = ap (λ vs. model_of (seen_all vs)) e

pub one_tree : (text : List ℕ) (tree other : ModelTree) → IsTreeOf text tree → IsTreeOf text other → tree ≡ other
one_tree text tree other a b =
    let same : a.0 ≡ b.0 = ok_same (tokens_of text) a.0 b.0 a.1 b.1 in
    ok_same (model_of (seen_all a.0)) tree other a.2 (model_same a.0 b.0 same ∙ b.2)

-- the tree of a text, once its orderings are expanded, is one
expanded_same : (tree other : ModelTree) → tree ≡ other → expanded tree ≡ expanded other
expanded_same tree other e = ap expanded e

pub one_whole : (text : List ℕ) (tree other : ModelTree) → IsWhole text tree → IsWhole text other → tree ≡ other
one_whole text tree other a b =
    let same : a.written ≡ b.written = one_tree text a.written b.written a.reading b.reading in
    ok_same (expanded a.written) tree other a.expansion (expanded_same a.written b.written same ∙ b.expansion)

pub one_model : (text : List ℕ) (m n : NamedTree) → SaysModel text m → SaysModel text n → m ≡ n
one_model text m n a b =
    let same : a.typed.tree ≡ b.typed.tree = one_whole text a.typed.tree b.typed.tree a.whole b.whole in
    a.typed.settled ∙ ap (λ (t : ModelTree). settled_in (named_of t)) same ∙ sym b.typed.settled

-- a text with a tree has tokens, these are a tree, and its orderings have no fault
tokens_there : (text : List ℕ) (tree : ModelTree) (e : LexFault) → IsTreeOf text tree → tokens_of text ≡ Err e → ⊥
tokens_there text tree e is stops = never_both (tokens_of text) is.0 e is.1 stops

tree_there : (text : List ℕ) (tree : ModelTree) (ts : List Token) (s : ParseStopView) → IsTreeOf text tree → tokens_of text ≡ Ok ts → model_of (seen_all ts) ≡ Err s → ⊥
tree_there text tree ts s is e stops =
    let same : ts ≡ is.0 = ok_same (tokens_of text) ts is.0 e is.1 in
    never_both (model_of (seen_all ts)) tree s (model_same ts is.0 same ∙ is.2) stops

order_there : (text : List ℕ) (tree other : ModelTree) (e : OrderFault) → IsWhole text tree → IsTreeOf text other → expanded other ≡ Err e → ⊥
order_there text tree other e whole is stops =
    let same : other ≡ whole.written = one_tree text other whole.written is whole.reading in
    never_both (expanded other) tree e (expanded_same other whole.written same ∙ whole.expansion) stops

pub not_faulty : (text words : List ℕ) (m : NamedTree) → SaysModel text m → IsFaulty text words → ⊥
not_faulty text words m a (inl f) = tokens_there text a.whole.written f.0 a.whole.reading f.1
not_faulty text words m a (inr (inl f)) = tree_there text a.whole.written f.0 f.1 a.whole.reading f.2 f.3
not_faulty text words m a (inr (inr (inl (tree, is, (e, first, told))))) = order_there text a.typed.tree tree e a.whole is first
not_faulty text words m a (inr (inr (inr (inl (tree, whole, (e, first, told)))))) =
    let same : a.typed.tree ≡ tree = one_whole text a.typed.tree tree a.whole whole in
    none_first (faults_in tree) e (subst (λ (t : ModelTree). faults_in t ≡ []) same a.typed.names) first
not_faulty text words m a (inr (inr (inr (inr (tree, whole, names, (e, first, told)))))) =
    let same : a.typed.tree ≡ tree = one_whole text a.typed.tree tree a.whole whole in
    never_both (types_checked (named_of tree)) tt e (subst (λ (t : ModelTree). types_checked (named_of t) ≡ Ok tt) same a.typed.types) first

-- the faults of one stage, and those of the stages before it
tokens_only : (text words others : List ℕ) (e : LexFault) → tokens_of text ≡ Err e → words ≡ lex_words e → IsFaulty text others → words ≡ others
tokens_only text words others e stops told (inl g) = told ∙ ap lex_words (err_same (tokens_of text) e g.0 stops g.1) ∙ sym g.2
tokens_only text words others e stops told (inr (inl g)) = absurd (never_both (tokens_of text) g.0 e g.2 stops)
tokens_only text words others e stops told (inr (inr (inl (tree, is, rest)))) = absurd (tokens_there text tree e is stops)
tokens_only text words others e stops told (inr (inr (inr (inl (tree, whole, rest))))) = absurd (tokens_there text whole.written e whole.reading stops)
tokens_only text words others e stops told (inr (inr (inr (inr (tree, whole, names, rest))))) = absurd (tokens_there text whole.written e whole.reading stops)

tree_only : (text words others : List ℕ) (ts : List Token) (s : ParseStopView) → tokens_of text ≡ Ok ts → model_of (seen_all ts) ≡ Err s → words ≡ parse_words (fault_of ts s) → IsFaulty text others → words ≡ others
tree_only text words others ts s read stops told (inl g) = absurd (never_both (tokens_of text) ts g.0 read g.1)
tree_only text words others ts s read stops told (inr (inl g)) =
    let same : ts ≡ g.0 = ok_same (tokens_of text) ts g.0 read g.2 in
    let stop : s ≡ g.1 = err_same (model_of (seen_all ts)) s g.1 stops (model_same ts g.0 same ∙ g.3) in
    told ∙ ap (λ us. parse_words (fault_of us s)) same ∙ ap (λ z. parse_words (fault_of g.0 z)) stop ∙ sym g.4
tree_only text words others ts s read stops told (inr (inr (inl (tree, is, rest)))) = absurd (tree_there text tree ts s is read stops)
tree_only text words others ts s read stops told (inr (inr (inr (inl (tree, whole, rest))))) = absurd (tree_there text whole.written ts s whole.reading read stops)
tree_only text words others ts s read stops told (inr (inr (inr (inr (tree, whole, names, rest))))) = absurd (tree_there text whole.written ts s whole.reading read stops)

order_only : (text words others : List ℕ) (tree : ModelTree) (e : OrderFault) → IsTreeOf text tree → expanded tree ≡ Err e → words ≡ order_words e → IsFaulty text others → words ≡ others
order_only text words others tree e is stops told (inl g) = absurd (tokens_there text tree g.0 is g.1)
order_only text words others tree e is stops told (inr (inl g)) = absurd (tree_there text tree g.0 g.1 is g.2 g.3)
order_only text words others tree e is stops told (inr (inr (inl (tree', is', (e', stops', told'))))) =
    let same : tree ≡ tree' = one_tree text tree tree' is is' in
    told ∙ ap order_words (err_same (expanded tree) e e' stops (expanded_same tree tree' same ∙ stops')) ∙ sym told'
order_only text words others tree e is stops told (inr (inr (inr (inl (tree', whole, rest))))) = absurd (order_there text tree' tree e whole is stops)
order_only text words others tree e is stops told (inr (inr (inr (inr (tree', whole, names, rest))))) = absurd (order_there text tree' tree e whole is stops)

name_only : (text words others : List ℕ) (tree : ModelTree) (e : NameFault) → IsWhole text tree → first_in (faults_in tree) ≡ Some e → words ≡ name_words e → IsFaulty text others → words ≡ others
name_only text words others tree e whole first told (inl g) = absurd (tokens_there text whole.written g.0 whole.reading g.1)
name_only text words others tree e whole first told (inr (inl g)) = absurd (tree_there text whole.written g.0 g.1 whole.reading g.2 g.3)
name_only text words others tree e whole first told (inr (inr (inl (tree', is', (e', stops', told'))))) = absurd (order_there text tree tree' e' whole is' stops')
name_only text words others tree e whole first told (inr (inr (inr (inl (tree', whole', (e', first', told')))))) =
    let same : tree ≡ tree' = one_whole text tree tree' whole whole' in
    told ∙ ap name_words (first_same (faults_in tree) e e' first (subst (λ (t : ModelTree). first_in (faults_in t) ≡ Some e') (sym same) first')) ∙ sym told'
name_only text words others tree e whole first told (inr (inr (inr (inr (tree', whole', names', rest'))))) =
    let same : tree' ≡ tree = one_whole text tree' tree whole' whole in
    absurd (none_first (faults_in tree) e (subst (λ (t : ModelTree). faults_in t ≡ []) same names') first)

type_only : (text words others : List ℕ) (tree : ModelTree) (e : TypeFault) → IsWhole text tree → faults_in tree ≡ [] → types_checked (named_of tree) ≡ Err e → words ≡ type_words e → IsFaulty text others → words ≡ others
type_only text words others tree e whole names first told (inl g) = absurd (tokens_there text whole.written g.0 whole.reading g.1)
type_only text words others tree e whole names first told (inr (inl g)) = absurd (tree_there text whole.written g.0 g.1 whole.reading g.2 g.3)
type_only text words others tree e whole names first told (inr (inr (inl (tree', is', (e', stops', told'))))) = absurd (order_there text tree tree' e' whole is' stops')
type_only text words others tree e whole names first told (inr (inr (inr (inl (tree', whole', (e', first', told')))))) =
    let same : tree ≡ tree' = one_whole text tree tree' whole whole' in
    absurd (none_first (faults_in tree') e' (subst (λ (t : ModelTree). faults_in t ≡ []) same names) first')
type_only text words others tree e whole names first told (inr (inr (inr (inr (tree', whole', names', (e', first', told')))))) =
    let same : tree ≡ tree' = one_whole text tree tree' whole whole' in
    told ∙ ap type_words (err_same (types_checked (named_of tree)) e e' first (subst (λ (t : ModelTree). types_checked (named_of t) ≡ Err e') (sym same) first')) ∙ sym told'

pub one_fault : (text words others : List ℕ) → IsFaulty text words → IsFaulty text others → words ≡ others
one_fault text words others (inl (e, stops, told)) other = tokens_only text words others e stops told other
one_fault text words others (inr (inl (ts, s, read, stops, told))) other = tree_only text words others ts s read stops told other
one_fault text words others (inr (inr (inl (tree, is, (e, stops, told))))) other = order_only text words others tree e is stops told other
one_fault text words others (inr (inr (inr (inl (tree, whole, (e, first, told)))))) other = name_only text words others tree e whole first told other
one_fault text words others (inr (inr (inr (inr (tree, whole, names, (e, first, told)))))) other = type_only text words others tree e whole names first told other

-- ---- each text is something

abbrev pub IsSomething : List ℕ → Type 0
IsSomething text = ((m : NamedTree) × SaysModel text m) ⊎ ((words : List ℕ) × IsFaulty text words)

types_something : (text : List ℕ) (tree : ModelTree) → IsWhole text tree → faults_in tree ≡ [] → (r : Checked) → types_checked (named_of tree) ≡ r → IsSomething text
types_something text tree whole names (Ok one) e =
    inl (settled_in (named_of tree), record { typed = record { tree = tree; names = names; types = e; settled = refl }; whole = whole })
types_something text tree whole names (Err f) e = inr (type_words f, inr (inr (inr (inr (tree, whole, names, (f, e, refl))))))

names_something : (text : List ℕ) (tree : ModelTree) → IsWhole text tree → (fs : List NameFault) → faults_in tree ≡ fs → IsSomething text
names_something text tree whole [] e = types_something text tree whole e (types_checked (named_of tree)) refl
names_something text tree whole (f ∷ fs) e = inr (name_words f, inr (inr (inr (inl (tree, whole, (f, ap first_in e, refl))))))

tree_something : (text : List ℕ) (tree : ModelTree) → IsTreeOf text tree → (r : Result ModelTree OrderFault) → expanded tree ≡ r → IsSomething text
tree_something text tree is (Ok whole) e = names_something text whole (record { written = tree; reading = is; expansion = e }) (faults_in whole) refl
tree_something text tree is (Err f) e = inr (order_words f, inr (inr (inl (tree, is, (f, e, refl)))))

tokens_something : (text : List ℕ) (ts : List Token) → tokens_of text ≡ Ok ts → (r : Result ModelTree ParseStopView) → model_of (seen_all ts) ≡ r → IsSomething text
tokens_something text ts e (Ok tree) d = tree_something text tree (ts, e, d) (expanded tree) refl
tokens_something text ts e (Err s) d = inr (parse_words (fault_of ts s), inr (inl (ts, s, e, d, refl)))

text_something : (text : List ℕ) (r : Result (List Token) LexFault) → tokens_of text ≡ r → IsSomething text
text_something text (Ok ts) e = tokens_something text ts e (model_of (seen_all ts)) refl
text_something text (Err f) e = inr (lex_words f, inl (f, e, refl))

pub each_something : (text : List ℕ) → IsSomething text
each_something text = text_something text (tokens_of text) refl

-- ---- what is found

pub tree_read : (text : List ℕ) (ts us : List Token) (tree : ModelTree) → tokens_of text ≡ Ok ts → us ≡ ts → model_of (seen_all us) ≡ Ok tree → IsTreeOf text tree
tree_read text ts us tree e same d = (us, e ∙ ap Ok (sym same), d)

pub whole_read : (text : List ℕ) (tree whole : ModelTree) → IsTreeOf text tree → expanded tree ≡ Ok whole → IsWhole text whole
whole_read text tree whole is e = record { written = tree; reading = is; expansion = e }

pub bad_order : (text words : List ℕ) (tree : ModelTree) (e : OrderFault) → IsTreeOf text tree → (e ≡ order.Memory) ⊎ (expanded tree ≡ Err e) → (e ≡ order.Memory → ⊥) → words ≡ order_words e → IsFaulty text words
bad_order text words tree e is (inl memory) other told = absurd (other memory)
bad_order text words tree e is (inr stops) other told = inr (inr (inl (tree, is, (e, stops, told))))

pub bad_name : (text words : List ℕ) (tree : ModelTree) (e : NameFault) → IsWhole text tree → (e ≡ name.Memory) ⊎ (first_in (faults_in tree) ≡ Some e) → (e ≡ name.Memory → ⊥) → words ≡ name_words e → IsFaulty text words
bad_name text words tree e whole (inl memory) other told = absurd (other memory)
bad_name text words tree e whole (inr first) other told = inr (inr (inr (inl (tree, whole, (e, first, told)))))

-- ---- types

types_said : (m t : NamedTree) (r : Checked) → types_checked m ≡ r → (r >>= λ ok. Ok (settled_in m)) ≡ Ok t → (types_checked m ≡ Ok tt) × (t ≡ settled_in m)
types_said m t (Ok one) e d = (e, ok_same {A = NamedTree} {E = TypeFault} (Ok t) t (settled_in m) refl (sym d))
types_said m t (Err f) e d = absurd (never_both {A = NamedTree} {E = TypeFault} (Err f) t f d refl)

pub model_said : (text : List ℕ) (tree : ModelTree) (m t : NamedTree) → IsWhole text tree → faults_in tree ≡ [] → m ≡ named_of tree → outcome.typed m ≡ Ok t → SaysModel text t
model_said text tree m t whole names is e =
    let said : (types_checked m ≡ Ok tt) × (t ≡ settled_in m) = types_said m t (types_checked m) refl e in
    record {
      typed = record { tree = tree; names = names; types = subst (λ (n : NamedTree). types_checked n ≡ Ok tt) is said.0; settled = said.1 ∙ ap settled_in is };
      whole = whole;
    }

types_refused : (m : NamedTree) (e : TypeFault) (r : Checked) → types_checked m ≡ r → (r >>= λ ok. Ok (settled_in m)) ≡ Err e → types_checked m ≡ Err e
types_refused m e (Ok one) d g = absurd (never_both {A = NamedTree} {E = TypeFault} (Ok (settled_in m)) (settled_in m) e refl g)
types_refused m e (Err f) d g = d ∙ ap Err (err_same {A = NamedTree} {E = TypeFault} (Err f) f e refl g)

pub bad_type : (text words : List ℕ) (tree : ModelTree) (m : NamedTree) (e : TypeFault) → IsWhole text tree → faults_in tree ≡ [] → m ≡ named_of tree → (e ≡ typing.Memory) ⊎ (outcome.typed m ≡ Err e) → (e ≡ typing.Memory → ⊥) → words ≡ type_words e → IsFaulty text words
bad_type text words tree m e whole names is (inl memory) other told = absurd (other memory)
bad_type text words tree m e whole names is (inr read) other told =
    inr (inr (inr (inr (tree, whole, names, (e, subst (λ (n : NamedTree). types_checked n ≡ Err e) is (types_refused m e (types_checked m) refl read), told)))))
