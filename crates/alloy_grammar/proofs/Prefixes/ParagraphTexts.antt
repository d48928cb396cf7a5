-- Texts of paragraphs and models by the rules of the grammar, whatever their trees.
use Rattle.std.proofs.Common.{◌≡◌, inl, inr, Bool, true, IsTrue, List, [], ◌∷◌, ◌++◌, Option, None, Some, bytes_eq, codes, refl, sym, subst}
use Rattle.alloy_syntax.specs.declared.class.Class.{Class}
use Rattle.alloy_syntax.specs.declared.class.Class.TheVariants as class
use Rattle.alloy_syntax.specs.declared.tree.Name.{Name}
use Rattle.alloy_syntax.specs.declared.tree.Number.{Number}
use Rattle.alloy_syntax.specs.declared.tree.MultiplicityWord.{MultiplicityWord}
use Rattle.alloy_syntax.specs.declared.tree.Multiplicity.{Multiplicity}
use Rattle.alloy_syntax.specs.declared.tree.Parent.{Parent}
use Rattle.alloy_syntax.specs.declared.tree.Manner.TheVariants as manner
use Rattle.alloy_syntax.specs.declared.tree.Entry.{Entry}
use Rattle.alloy_syntax.specs.declared.tree.CommandKind.{CommandKind}
use Rattle.alloy_syntax.specs.declared.tree.Open.{Open}
use Rattle.alloy_syntax.specs.declared.parser_token.ParserToken.{ParserToken}
use Rattle.alloy_syntax.specs.Tree.{block, DeclarationTree, declarations_of, FieldTree, BlockTree, TargetTree, at_name, at_block, ScopeTree, ParagraphTree, signatures, fact, predicate, function, assertion, command, ModelTree}
use Rattle.alloy_syntax.specs.Readers.{value_from}
use Rattle.alloy_grammar.specs.Fronts.{Front, ◌before◌, nothing, name, number, mark_of, each, listed, listed_if_any, class_of_multiplicity}
use Rattle.alloy_grammar.specs.Levels.{sum_level}
use Rattle.alloy_grammar.specs.Nodes.{spells, spells_declarations}
use Rattle.alloy_grammar.specs.Models.{optional, block_text, is_qualifier, qualifier, qualifiers, parent, field, parameters_in, parameters, class_of_kind, target, entry, exceptions, scope, expected, paragraph, opened, heading, spells_model}
use Rattle.alloy_grammar.proofs.Spelled.{list_of, trees_of_list, list_of_declarations, declarations_of_list}
use Rattle.alloy_grammar.specs.Prefixes.Beginnings.{is_signature}
use Rattle.alloy_grammar.proofs.Prefixes.CompletedReadings.{Then, Token, Maybe, none, some, Or, this, that, Many, no_more, one_more, Listed}
use Rattle.alloy_grammar.proofs.Prefixes.Texts.{Node, Braces, as_mark, as_sign, name_of, as_name, Word, mark_text, Names, names_text, Declaration, declarations_text, flag_text}
use Rattle.alloy_grammar.proofs.Prefixes.Bounds.{Bound}

-- ---- any value, and lists of such

record Is (A : Type 0) (item : A → Front) (ts rest : List ParserToken) : Type 0 where
  value : A
  spelled : item value ts rest

optional_is : {A : Type 0} (item : A → Front) {F : Front} → ((us vs : List ParserToken) → F us vs → Is A item us vs) → (ts rest : List ParserToken) → Maybe F ts rest → Is (Option A) (optional item) ts rest
optional_is item to ts rest (none e) = record { value = None; spelled = e }
optional_is item to ts rest (some t) = let x = to ts rest t in record { value = Some x.value; spelled = x.spelled }

others_are : {A : Type 0} (item : A → Front) {F : Front} → ((us vs : List ParserToken) → F us vs → Is A item us vs) → (ts rest : List ParserToken) → Many (Then (Token class.Comma) F) ts rest → Is (List A) (each (λ y. mark_of class.Comma before item y)) ts rest
others_are item to ts rest (no_more e) = record { value = []; spelled = e }
others_are item to ts rest (one_more us t more) =
    let x = to t.middle us t.second in
    let xs = others_are item to us rest more in
    record { value = x.value ∷ xs.value; spelled = (us, (t.middle, as_mark t.first, x.spelled), xs.spelled) }

each_is : {A : Type 0} (item : A → Front) {F : Front} → ((us vs : List ParserToken) → F us vs → Is A item us vs) → (ts rest : List ParserToken) → Many F ts rest → Is (List A) (each item) ts rest
each_is item to ts rest (no_more e) = record { value = []; spelled = e }
each_is item to ts rest (one_more us t more) =
    let x = to ts us t in
    let xs = each_is item to us rest more in
    record { value = x.value ∷ xs.value; spelled = (us, x.spelled, xs.spelled) }

record Several (A : Type 0) (item : A → Front) (ts rest : List ParserToken) : Type 0 where
  first : A
  more : List A
  spelled : listed item (first ∷ more) ts rest

listed_is : {A : Type 0} (item : A → Front) {F : Front} → ((us vs : List ParserToken) → F us vs → Is A item us vs) → (ts rest : List ParserToken) → Listed F ts rest → Several A item ts rest
listed_is item to ts rest l =
    let x = to ts l.middle l.first in
    let xs = others_are item to l.middle rest l.second in
    record { first = x.value; more = xs.value; spelled = (l.middle, x.spelled, xs.spelled) }

name_is : (ts rest : List ParserToken) → Token class.Name ts rest → Is Name name ts rest
name_is ts rest t = record { value = name_of t; spelled = as_name t }

number_is : (ts rest : List ParserToken) → Token class.Number ts rest → Is Number number ts rest
number_is ts rest t = record { value = record { value = value_from 0 t.token.text; place = t.token.place }; spelled = (t.token, t.are, t.is, refl, refl) }

label_is : (ts rest : List ParserToken) → Maybe (Token class.Name) ts rest → Is (Option Name) (optional name) ts rest
label_is = optional_is name name_is

block_is : (ts rest : List ParserToken) → Braces ts rest → Is BlockTree block_text ts rest
block_is ts rest b = record {
  value = record { place = b.place; formulas = list_of b.trees };
  spelled = subst (λ xs. spells (block b.place xs) ts rest) (sym (trees_of_list b.trees)) b.spelled;
}

-- ---- signatures

-- `one`, `lone` or `some`
pub record Qualifier (ts rest : List ParserToken) : Type 0 where
  pub multiplicity : Multiplicity
  pub some : IsTrue (is_qualifier multiplicity)
  pub token : Token (class_of_multiplicity multiplicity) ts rest

qualifier_is : (ts rest : List ParserToken) → Qualifier ts rest → Is MultiplicityWord qualifier ts rest
qualifier_is ts rest q = record { value = record { multiplicity = q.multiplicity; place = q.token.token.place }; spelled = (q.some, as_sign q.token) }

abbrev pub Qualifiers : Front
Qualifiers = Or (Then (Maybe (Token class.Abstract)) (Maybe Qualifier)) (Then (Maybe Qualifier) (Maybe (Token class.Abstract)))

record Qualified (ts rest : List ParserToken) : Type 0 where
  is_abstract : Bool
  mark : Option MultiplicityWord
  spelled : qualifiers is_abstract mark ts rest

qualified_is : (ts rest : List ParserToken) → Qualifiers ts rest → Qualified ts rest
qualified_is ts rest (this t) =
    let a = flag_text class.Abstract ts t.middle t.first in
    let q = optional_is qualifier qualifier_is t.middle rest t.second in
    record { is_abstract = a.set; mark = q.value; spelled = inl (t.middle, a.spelled, q.spelled) }
qualified_is ts rest (that t) =
    let q = optional_is qualifier qualifier_is ts t.middle t.first in
    let a = flag_text class.Abstract t.middle rest t.second in
    record { is_abstract = a.set; mark = q.value; spelled = inr (t.middle, q.spelled, a.spelled) }

abbrev pub Field : Front
Field = Then Names (Then (Token class.Colon) (Then (Maybe Word) (Bound 0)))

field_is : (ts rest : List ParserToken) → Field ts rest → Is FieldTree field ts rest
field_is ts rest t =
    let c = t.second in
    let w = c.second in
    let ns = names_text ts t.middle t.first in
    let m = mark_text c.middle w.middle w.first in
    record { value = record { names = ns.list; mark = m.word; bound = w.second.tree }; spelled = (t.middle, ns.spelled, (c.middle, as_mark c.first, (w.middle, m.spelled, w.second.spelled))) }

fields_are : (ts rest : List ParserToken) → Maybe (Listed Field) ts rest → Is (List FieldTree) (listed_if_any field) ts rest
fields_are ts rest (none e) = record { value = []; spelled = e }
fields_are ts rest (some l) = let fs = listed_is field field_is ts rest l in record { value = fs.first ∷ fs.more; spelled = fs.spelled }

abbrev pub ParentText : Front
ParentText = Or (Then (Token class.Extends) (Token class.Name)) (Then (Token class.In) (Token class.Name))

parent_is : (ts rest : List ParserToken) → ParentText ts rest → Is Parent parent ts rest
parent_is ts rest (this t) = record { value = record { manner = manner.Extends; name = name_of t.second }; spelled = (t.middle, as_mark t.first, as_name t.second) }
parent_is ts rest (that t) = record { value = record { manner = manner.In; name = name_of t.second }; spelled = (t.middle, as_mark t.first, as_name t.second) }

-- a paragraph
pub record Paragraph (ts rest : List ParserToken) : Type 0 where
  pub tree : ParagraphTree
  pub spelled : paragraph tree ts rest

-- what stands behind the qualifiers
abbrev pub Signatures : Front
Signatures = Then (Token class.Sig) (Then Names (Then (Maybe ParentText) (Then (Token class.LeftBrace) (Then (Maybe (Listed Field)) (Token class.RightBrace)))))

-- a paragraph of signatures
pub record Signature (ts rest : List ParserToken) : Type 0 where
  pub tree : ParagraphTree
  pub spelled : paragraph tree ts rest
  pub is : is_signature tree ≡ true

pub signature_paragraph : (ts rest : List ParserToken) → Signature ts rest → Paragraph ts rest
signature_paragraph ts rest s = record { tree = s.tree; spelled = s.spelled }

pub signature_text : (ts rest : List ParserToken) → Then Qualifiers Signatures ts rest → Signature ts rest
signature_text ts rest t =
    let s = t.second in
    let n = s.second in
    let p = n.second in
    let o = p.second in
    let f = o.second in
    let q = qualified_is ts t.middle t.first in
    let ns = names_text s.middle n.middle n.first in
    let ps = optional_is parent parent_is n.middle p.middle p.first in
    let fs = fields_are o.middle f.middle f.first in
    record {
      tree = signatures q.is_abstract q.mark ns.list ps.value fs.value;
      spelled = (t.middle, q.spelled, (s.middle, as_mark s.first, (n.middle, ns.spelled, (p.middle, ps.spelled, (o.middle, as_mark o.first, (f.middle, fs.spelled, as_mark f.second))))));
      is = refl;
    }

-- ---- facts, predicates, functions and assertions

pub fact_text : (ts rest : List ParserToken) → Then (Token class.Fact) (Then (Maybe (Token class.Name)) Braces) ts rest → Paragraph ts rest
fact_text ts rest t =
    let l = label_is t.middle t.second.middle t.second.first in
    let b = block_is t.second.middle rest t.second.second in
    record { tree = fact l.value b.value; spelled = (t.middle, as_mark t.first, (t.second.middle, l.spelled, b.spelled)) }

pub assertion_text : (ts rest : List ParserToken) → Then (Token class.Assert) (Then (Token class.Name) Braces) ts rest → Paragraph ts rest
assertion_text ts rest t =
    let b = block_is t.second.middle rest t.second.second in
    record { tree = assertion (name_of t.second.first) b.value; spelled = (t.middle, as_mark t.first, (t.second.middle, as_name t.second.first, b.spelled)) }

-- parameters, and their closing bracket
abbrev pub ParametersTo : Class → Front
ParametersTo c = Then (Maybe (Listed Declaration)) (Token c)

abbrev pub Parameters : Front
Parameters = Maybe (Or (Then (Token class.LeftBracket) (ParametersTo class.RightBracket)) (Then (Token class.LeftParen) (ParametersTo class.RightParen)))

declared_is : (ts rest : List ParserToken) → Maybe (Listed Declaration) ts rest → Is (List DeclarationTree) (λ ds. spells_declarations nothing (declarations_of ds)) ts rest
unfolding spells_declarations
declared_is ts rest (none e) = record { value = []; spelled = e }
declared_is ts rest (some l) =
    let ds = declarations_text ts rest l in
    record { value = list_of_declarations ds.list; spelled = subst (λ es. spells_declarations nothing es ts rest) (sym (declarations_of_list ds.list)) ds.spelled }

in_brackets_is : (opening closing : Class) (ts rest : List ParserToken) → Then (Token opening) (ParametersTo closing) ts rest → Is (List DeclarationTree) (parameters_in opening closing) ts rest
in_brackets_is opening closing ts rest t =
    let ds = declared_is t.middle t.second.middle t.second.first in
    record { value = ds.value; spelled = (t.middle, as_mark t.first, (t.second.middle, ds.spelled, as_mark t.second.second)) }

some_parameters : (ts rest : List ParserToken) → Or (Then (Token class.LeftBracket) (ParametersTo class.RightBracket)) (Then (Token class.LeftParen) (ParametersTo class.RightParen)) ts rest → Is (List DeclarationTree) parameters ts rest
some_parameters ts rest (this t) = let ds = in_brackets_is class.LeftBracket class.RightBracket ts rest t in record { value = ds.value; spelled = inr (inl ds.spelled) }
some_parameters ts rest (that t) = let ds = in_brackets_is class.LeftParen class.RightParen ts rest t in record { value = ds.value; spelled = inr (inr ds.spelled) }

parameters_are : (ts rest : List ParserToken) → Parameters ts rest → Is (List DeclarationTree) parameters ts rest
parameters_are ts rest (none e) = record { value = []; spelled = inl (refl, e) }
parameters_are ts rest (some t) = some_parameters ts rest t

pub predicate_text : (ts rest : List ParserToken) → Then (Token class.Pred) (Then (Token class.Name) (Then Parameters Braces)) ts rest → Paragraph ts rest
predicate_text ts rest t =
    let n = t.second in
    let p = n.second in
    let ds = parameters_are n.middle p.middle p.first in
    let b = block_is p.middle rest p.second in
    record { tree = predicate (name_of n.first) ds.value b.value; spelled = (t.middle, as_mark t.first, (n.middle, as_name n.first, (p.middle, ds.spelled, b.spelled))) }

-- a function's result
abbrev pub Returned : Front
Returned = Then (Token class.LeftBrace) (Then (Node sum_level) (Token class.RightBrace))

pub function_text : (ts rest : List ParserToken) → Then (Token class.Fun) (Then (Token class.Name) (Then Parameters (Then (Token class.Colon) (Then (Maybe Word) (Then (Node sum_level) Returned))))) ts rest → Paragraph ts rest
function_text ts rest t =
    let n = t.second in
    let p = n.second in
    let c = p.second in
    let w = c.second in
    let r = w.second in
    let o = r.second in
    let x = o.second in
    let ds = parameters_are n.middle p.middle p.first in
    let m = mark_text c.middle w.middle w.first in
    record {
      tree = function (name_of n.first) ds.value m.word r.first.tree x.first.tree;
      spelled = (t.middle, as_mark t.first, (n.middle, as_name n.first, (p.middle, ds.spelled, (c.middle, as_mark c.first, (w.middle, m.spelled, (r.middle, (r.first.level, r.first.spelled), (o.middle, as_mark o.first, (x.middle, (x.first.level, x.first.spelled), as_mark x.second))))))));
    }

-- ---- commands

abbrev pub Target : Front
Target = Or (Token class.Name) (Then (Maybe (Token class.Name)) Braces)

target_is : (ts rest : List ParserToken) → Target ts rest → Is TargetTree target ts rest
target_is ts rest (this t) = record { value = at_name (name_of t); spelled = as_name t }
target_is ts rest (that t) =
    let l = label_is ts t.middle t.first in
    let b = block_is t.middle rest t.second in
    record { value = at_block l.value b.value; spelled = (t.middle, l.spelled, b.spelled) }

abbrev pub EntryText : Front
EntryText = Then (Maybe (Token class.Exactly)) (Then (Token class.Number) (Token class.Name))

entry_is : (ts rest : List ParserToken) → EntryText ts rest → Is Entry entry ts rest
entry_is ts rest t =
    let x = flag_text class.Exactly ts t.middle t.first in
    let n = number_is t.middle t.second.middle t.second.first in
    record { value = record { exactly = x.set; number = n.value; name = name_of t.second.second }; spelled = (t.middle, x.spelled, (t.second.middle, n.spelled, as_name t.second.second)) }

abbrev pub Exceptions : Front
Exceptions = Maybe (Then (Token class.But) (Listed EntryText))

exceptions_are : (ts rest : List ParserToken) → Exceptions ts rest → Is (List Entry) exceptions ts rest
exceptions_are ts rest (none e) = record { value = []; spelled = e }
exceptions_are ts rest (some t) = let es = listed_is entry entry_is t.middle rest t.second in record { value = es.first ∷ es.more; spelled = (t.middle, as_mark t.first, es.spelled) }

abbrev pub Sizes : Front
Sizes = Or (Then (Token class.Number) Exceptions) (Listed EntryText)

abbrev pub ScopeText : Front
ScopeText = Then (Token class.For) Sizes

sized : (ts us rest : List ParserToken) → Token class.For ts us → Sizes us rest → Is ScopeTree scope ts rest
sized ts us rest f (this t) =
    let n = number_is us t.middle t.first in
    let es = exceptions_are t.middle rest t.second in
    record { value = record { default = Some n.value; entries = es.value }; spelled = (us, as_mark f, (t.middle, n.spelled, es.spelled)) }
sized ts us rest f (that l) = let es = listed_is entry entry_is us rest l in record { value = record { default = None; entries = es.first ∷ es.more }; spelled = (us, as_mark f, es.spelled) }

scope_is : (ts rest : List ParserToken) → ScopeText ts rest → Is ScopeTree scope ts rest
scope_is ts rest t = sized ts t.middle rest t.first t.second

abbrev pub ExpectedText : Front
ExpectedText = Then (Token class.Expect) (Token class.Number)

expected_is : (ts rest : List ParserToken) → ExpectedText ts rest → Is Number expected ts rest
expected_is ts rest t = let n = number_is t.middle rest t.second in record { value = n.value; spelled = (t.middle, as_mark t.first, n.spelled) }

abbrev pub Command : Front
Command = Then Target (Then (Maybe ScopeText) (Maybe ExpectedText))

pub command_text : (k : CommandKind) (ts rest : List ParserToken) → Then (Token (class_of_kind k)) Command ts rest → Paragraph ts rest
command_text k ts rest t =
    let c = t.second in
    let s = c.second in
    let a = target_is t.middle c.middle c.first in
    let b = optional_is scope scope_is c.middle s.middle s.first in
    let e = optional_is expected expected_is s.middle rest s.second in
    record { tree = command k t.first.token.place a.value b.value e.value; spelled = (t.middle, as_sign t.first, (c.middle, a.spelled, (s.middle, b.spelled, e.spelled))) }

-- ---- models

-- the path of the module that may be opened
pub record Ordering (ts rest : List ParserToken) : Type 0 where
  pub token : ParserToken
  pub are : ts ≡ token ∷ rest
  pub is : token.class ≡ class.Path
  pub spelled : bytes_eq token.text (codes "util/ordering") ≡ true

-- what stands behind `open`
abbrev pub Opening : Front
Opening = Then Ordering (Then (Token class.LeftBracket) (Then (Token class.Name) (Then (Token class.RightBracket) (Then (Token class.As) (Token class.Name)))))

opened_is : (ts rest : List ParserToken) → Then (Token class.Open) Opening ts rest → Is Open opened ts rest
opened_is ts rest t =
    let p = t.second in
    let o = p.second in
    let s = o.second in
    let c = s.second in
    let w = c.second in
    record {
      value = record { signature = name_of s.first; alias = name_of w.second };
      spelled = (t.middle, as_mark t.first, (p.middle, (p.first.token, p.first.are, p.first.is, p.first.spelled), (o.middle, as_mark o.first, (s.middle, as_name s.first, (c.middle, as_mark c.first, (w.middle, as_mark w.first, as_name w.second))))));
    }

abbrev pub Heading : Front
Heading = Then (Token class.Module) (Token class.Name)

heading_is : (ts rest : List ParserToken) → Heading ts rest → Is Name heading ts rest
heading_is ts rest t = record { value = name_of t.second; spelled = (t.middle, as_mark t.first, as_name t.second) }

paragraph_is : (ts rest : List ParserToken) → Paragraph ts rest → Is ParagraphTree paragraph ts rest
paragraph_is ts rest p = record { value = p.tree; spelled = p.spelled }

pub record Model (ts rest : List ParserToken) : Type 0 where
  pub tree : ModelTree
  pub spelled : spells_model tree ts rest

pub model_text : (ts rest : List ParserToken) → Then (Maybe Heading) (Then (Many (Then (Token class.Open) Opening)) (Many Paragraph)) ts rest → Model ts rest
model_text ts rest t =
    let h = optional_is heading heading_is ts t.middle t.first in
    let os = each_is opened opened_is t.middle t.second.middle t.second.first in
    let ps = each_is paragraph paragraph_is t.second.middle rest t.second.second in
    record { tree = record { heading = h.value; opens = os.value; paragraphs = ps.value }; spelled = (t.middle, h.spelled, (t.second.middle, os.spelled, ps.spelled)) }

-- a model whose last paragraph is a signature
pub record Signed (ts rest : List ParserToken) : Type 0 where
  pub tree : ModelTree
  pub spelled : spells_model tree ts rest
  pub others : List ParagraphTree
  pub last : ParagraphTree
  pub all : tree.paragraphs ≡ others ++ (last ∷ [])
  pub is : is_signature last ≡ true

one_behind : (ps : List ParagraphTree) (p : ParagraphTree) (ts us rest : List ParserToken) → each paragraph ps ts us → paragraph p us rest → each paragraph (ps ++ (p ∷ [])) ts rest
one_behind [] p ts us rest e s = (rest, subst (λ vs. paragraph p vs rest) (sym e) s, refl)
one_behind (q ∷ ps) p ts us rest e s = (e.0, e.1, one_behind ps p e.0 us rest e.2 s)

pub signed_text : (ts rest : List ParserToken) → Then (Maybe Heading) (Then (Many (Then (Token class.Open) Opening)) (Then (Many Paragraph) Signature)) ts rest → Signed ts rest
signed_text ts rest t =
    let o = t.second in
    let p = o.second in
    let h = optional_is heading heading_is ts t.middle t.first in
    let os = each_is opened opened_is t.middle o.middle o.first in
    let ps = each_is paragraph paragraph_is o.middle p.middle p.first in
    record {
      tree = record { heading = h.value; opens = os.value; paragraphs = ps.value ++ (p.second.tree ∷ []) };
      spelled = (t.middle, h.spelled, (o.middle, os.spelled, one_behind ps.value p.second.tree o.middle p.middle rest ps.spelled p.second.spelled));
      others = ps.value;
      last = p.second.tree;
      all = refl;
      is = p.second.is;
    }
