-- What the orderings of a text declare, behind its own paragraphs.
use Rattle.std.specs.Prelude.{flat_map, bytes_eq, codes, not, ◌&&◌, is_none, option_map}
use Rattle.std.proofs.Common.{◌≡◌, ◌⊎◌, inl, inr, ℕ, ◌==◌, true, false, Bool, List, [], ◌∷◌, ◌++◌, map, Option, Some, None, Result, Ok, All, Contains, append_assoc, refl, sym, ◌∙◌, ap, subst}
use Rattle.std.specs.List.{list_any}
use Rattle.std.proofs.lemmas.Bool.{cases_Bool}
use Rattle.std.proofs.lemmas.Grind.{flat_map-append}
use Rattle.std.proofs.lemmas.List.Elements.{All-contains, Contains-append_left, Contains-append_right}
use Rattle.rel_formula.proofs.OpenCells.{cons_first, cons_cases, map_has, has_map}
use Rattle.rel_formula.proofs.OneSetOfAtoms.{only_one}
use Rattle.alloy_lex.specs.Fronts.{slash}
use Rattle.alloy_lex.specs.declared.token.Place.{Place}
use Rattle.alloy_syntax.specs.declared.tree.Name.{Name}
use Rattle.alloy_syntax.specs.declared.tree.Number.{Number}
use Rattle.alloy_syntax.specs.declared.tree.Parent.{Parent}
use Rattle.alloy_syntax.specs.declared.tree.MultiplicityWord.{MultiplicityWord}
use Rattle.alloy_syntax.specs.declared.tree.CommandKind.{CommandKind}
use Rattle.alloy_syntax.specs.declared.tree.Open.{Open}
use Rattle.alloy_syntax.specs.Tree as tree
use Rattle.alloy_syntax.specs.Tree.{ParagraphTree, ModelTree, TargetTree, ScopeTree}
use Rattle.named_model.specs.declared.named.Signature.{Signature}
use Rattle.named_model.specs.Model.{FieldTree}
use Rattle.named_model.specs.Names.{Globals}
use Rattle.named_model.specs.Declarations.{texts, signature_names, field_names, field_named, fields_named, signature_named, signatures_named}
use Rattle.order_lib.specs.declared.fault.OrderFault.{OrderFault}
use Rattle.order_lib.specs.declared.fault.OrderFault.TheVariants as fault
use Rattle.order_lib.specs.Library.{own, paragraphs_of}
use Rattle.order_lib.specs.Scopes.{with_exact, ordered_in}
use Rattle.order_lib.specs.Faults.{declares, is_alone, is_plain, declaration_of, has_alias, twice, fault_by, fault_of, or_else, first_behind, first_fault}
use Rattle.order_lib.specs.Expanded.{paragraphs_with, with_orderings, unless, expanded}
use Rattle.lowering_laws.specs.OrderingTexts.{HasNoSlash}
use Rattle.lowering_laws.proofs.Orderings.Lines.{none_in}
use Rattle.lowering_laws.proofs.Orderings.Occurrences.{StandsFirst, same_text, text_same, first_left, first_right, first_head, Differing, flat_names}

-- ---- tests of lists

pub not_any : {X : Type 0} (test : X → Bool) (xs : List X) (x : X) → list_any test xs ≡ false → Contains xs x → test x ≡ true → ⊥
not_any test [] x none c e = none_in x c
not_any test (y ∷ ys) x none c e = elim (cases_Bool (test y)) [
  | inl yes' ↦ absurd (let k : true ≡ false = rw yes' at none in cc)
  | inr fails ↦ elim (cons_cases y ys x c) [
    | inl same ↦ (let k : test y ≡ true = subst (λ z. test z ≡ true) (sym same) e in cc)
    | inr later ↦ not_any test ys x (rw fails at none) later e
  ]
]

-- ---- names with a slash

pub no_slash : (xs : List ℕ) → list_any (λ b. b == slash) xs ≡ false → Contains xs slash → ⊥
no_slash xs none c = not_any (λ b. b == slash) xs slash none c refl

last_slash : (a b u v : List ℕ) → (Contains u slash → ⊥) → (Contains v slash → ⊥) → a ++ slash ∷ u ≡ b ++ slash ∷ v → (a ≡ b) × (u ≡ v)
last_slash [] [] u v nu nv e = (refl, cc)
last_slash [] (y ∷ b) u v nu nv e =
    let tail : u ≡ b ++ slash ∷ v = cc in
    absurd (nu (subst (λ z. Contains z slash) (sym tail) (Contains-append_right b (slash ∷ v) slash (cons_first slash v))))
last_slash (x ∷ a) [] u v nu nv e =
    let tail : v ≡ a ++ slash ∷ u = cc in
    absurd (nv (subst (λ z. Contains z slash) (sym tail) (Contains-append_right a (slash ∷ u) slash (cons_first slash u))))
last_slash (x ∷ a) (y ∷ b) u v nu nv e =
    let head : x ≡ y = cc in
    let tail : a ++ slash ∷ u ≡ b ++ slash ∷ v = cc in
    let rest = last_slash a b u v nu nv tail in
    ((λ i. head i ∷ rest.0 i), rest.1)

own_text : (o : Open) (w : List ℕ) → (own o w).text ≡ o.alias.text ++ slash ∷ w
own_text o w = append_assoc o.alias.text (codes "/") w

pub has_slash : (o : Open) (w : List ℕ) → Contains (own o w).text slash
has_slash o w = subst (λ z. Contains z slash) (sym (own_text o w)) (Contains-append_right o.alias.text (slash ∷ w) slash (cons_first slash w))

-- the words of an ordering's own names
abbrev pub IsWord : List ℕ → Type 0
IsWord w = list_any (λ b. b == slash) w ≡ false

pub same_own : (o q : Open) (w v : List ℕ) → IsWord w → IsWord v → (own o w).text ≡ (own q v).text → (o.alias.text ≡ q.alias.text) × (w ≡ v)
same_own o q w v iw iv e = last_slash o.alias.text q.alias.text w v (no_slash w iw) (no_slash v iv) (sym (own_text o w) ∙ e ∙ own_text q v)

-- ---- a text without a fault of its orderings

abbrev pub SameAlias : Open → Open → Type 0
SameAlias o q = o.alias.text ≡ q.alias.text

none_of_two : (a b : Option OrderFault) → or_else a b ≡ None → (a ≡ None) × (b ≡ None)
none_of_two None b e = (refl, e)
none_of_two (Some f) b e = absurd cc

not_twice : (before : List Open) (o : Open) → twice before o ≡ None → has_alias before o.alias.text ≡ false
not_twice before o e = elim (cases_Bool (has_alias before o.alias.text)) [
  | inl has ↦ absurd (let k : Some (fault.Twice o.alias.place) ≡ None = rw has at e in cc)
  | inr none ↦ none
]

fault_inv : (before : List Open) (o : Open) (d : Option ParagraphTree) → fault_by before o (option_map is_plain d) ≡ None
    → (p : ParagraphTree) × (d ≡ Some p) × (is_plain p ≡ true) × (twice before o ≡ None)
fault_inv before o None e = absurd cc
fault_inv before o (Some p) e = elim (cases_Bool (is_plain p)) [
  | inl plain ↦ (p, refl, plain, rw plain at e)
  | inr other ↦ absurd (let k : Some (fault.NotPlain o.signature.place) ≡ None = rw other at e in cc)
]

module _ (ps : List ParagraphTree) where
  earlier : (before os : List Open) → first_behind ps before os ≡ None → (q o : Open) → Contains before q → Contains os o → SameAlias q o → ⊥
  earlier before [] e q o c d same = none_in o d
  earlier before (x ∷ os) e q o c d same =
      let both = none_of_two (fault_of ps before x) (first_behind ps (before ++ x ∷ []) os) e in
      let fine = fault_inv before x (declaration_of ps x.signature.text) both.0 in
      elim (cons_cases x os o d) [
        | inl here ↦
            let alias : q.alias.text ≡ x.alias.text = same ∙ ap (λ (z : Open). z.alias.text) (sym here) in
            not_any (λ (z : Open). bytes_eq z.alias.text x.alias.text) before q (not_twice before x fine.3) c (text_same q.alias.text x.alias.text alias)
        | inr later ↦ earlier (before ++ x ∷ []) os both.1 q o (Contains-append_left before (x ∷ []) q c) later same
      ]

  pub aliases_differ : (before os : List Open) → first_behind ps before os ≡ None → Differing SameAlias os
  aliases_differ before [] e = tt
  aliases_differ before (x ∷ os) e =
      let both = none_of_two (fault_of ps before x) (first_behind ps (before ++ x ∷ []) os) e in (
        λ q c same. earlier (before ++ x ∷ []) os both.1 x q (Contains-append_right before (x ∷ []) x (cons_first x [])) c same,
        aliases_differ (before ++ x ∷ []) os both.1,
      )

  pub ordered_declared : (before os : List Open) → first_behind ps before os ≡ None → (o : Open) → Contains os o
      → (p : ParagraphTree) × (declaration_of ps o.signature.text ≡ Some p) × (is_plain p ≡ true)
  ordered_declared before [] e o c = absurd (none_in o c)
  ordered_declared before (x ∷ os) e o c =
      let both = none_of_two (fault_of ps before x) (first_behind ps (before ++ x ∷ []) os) e in
      let fine = fault_inv before x (declaration_of ps x.signature.text) both.0 in
      elim (cons_cases x os o c) [
        | inl here ↦ subst (λ (z : Open). (p : ParagraphTree) × (declaration_of ps z.signature.text ≡ Some p) × (is_plain p ≡ true)) here (fine.0, fine.1, fine.2)
        | inr later ↦ ordered_declared (before ++ x ∷ []) os both.1 o later
      ]

-- a text without orderings is as it is, and one with orderings has what they declare behind its paragraphs
unless_inv : (f : Option OrderFault) (m e : ModelTree) → unless f m ≡ Ok e → (f ≡ None) × (m ≡ e)
unless_inv None m e h = (refl, cc)
unless_inv (Some f) m e h = absurd cc

abbrev answer : ModelTree → List Open → Result ModelTree OrderFault
answer t os = elim os [ [] ↦ Ok t | first ∷ others ↦ unless (first_fault t.paragraphs t.opens) (with_orderings t) ]

pub expanded_cases : (t e : ModelTree) → expanded t ≡ Ok e → ((t.opens ≡ []) × (t ≡ e)) ⊎ ((first_fault t.paragraphs t.opens ≡ None) × (with_orderings t ≡ e))
expanded_cases t e h = go t.opens refl h
  where
    go : (os : List Open) → t.opens ≡ os → answer t os ≡ Ok e → ((t.opens ≡ []) × (t ≡ e)) ⊎ ((first_fault t.paragraphs t.opens ≡ None) × (with_orderings t ≡ e))
    go [] is k = inl (is, cc)
    go (o ∷ os) is k = inr (unless_inv (first_fault t.paragraphs t.opens) (with_orderings t) e k)

-- ---- what a text with orderings declares of a kind

kept : {Y : Type 0} (f : ParagraphTree → Y) (ordered : List Name) →
    ((kind : CommandKind) (p : Place) (target : TargetTree) (a b : Option ScopeTree) (expected : Option Number) → f (tree.command kind p target a expected) ≡ f (tree.command kind p target b expected)) →
    (p : ParagraphTree) → f (with_exact ordered p) ≡ f p
kept f ordered same (tree.signatures is_abstract mark names parent fields) = refl
kept f ordered same (tree.fact n b) = refl
kept f ordered same (tree.predicate n ds b) = refl
kept f ordered same (tree.function n ds mark range body) = refl
kept f ordered same (tree.assertion n b) = refl
kept f ordered same (tree.command kind p target scope expected) = same kind p target _ scope expected

all_kept : {X : Type 0} (f : ParagraphTree → List X) (g : ParagraphTree → ParagraphTree) → ((p : ParagraphTree) → f (g p) ≡ f p) → (ps : List ParagraphTree) → flat_map f (map g ps) ≡ flat_map f ps
all_kept f g same [] = refl
all_kept f g same (p ∷ ps) = let rest = all_kept f g same ps in λ i. same p i ++ rest i

pub flat_twice : {P Q X : Type 0} (f : Q → List X) (k : P → List Q) (ps : List P) → flat_map f (flat_map k ps) ≡ flat_map (λ p. flat_map f (k p)) ps
flat_twice f k [] = refl
flat_twice f k (p ∷ ps) = flat_map-append f (k p) (flat_map k ps) ∙ ap (λ xs. flat_map f (k p) ++ xs) (flat_twice f k ps)

-- what is said of the scopes of commands isn't seen
abbrev pub IgnoresScopes : {X : Type 0} → (ParagraphTree → List X) → Type 0
IgnoresScopes {X} f = (kind : CommandKind) (p : Place) (target : TargetTree) (a b : Option ScopeTree) (expected : Option Number) → f (tree.command kind p target a expected) ≡ f (tree.command kind p target b expected)

pub with_their_own : {X : Type 0} (f : ParagraphTree → List X) → IgnoresScopes f → (ps : List ParagraphTree) (os : List Open) →
    flat_map f (paragraphs_with os ps) ≡ flat_map f ps ++ flat_map (λ o. flat_map f (paragraphs_of o)) os
with_their_own f ignores ps os =
    let first = all_kept f (with_exact (ordered_in os)) (kept f (ordered_in os) ignores) ps in
    let second = flat_twice f paragraphs_of os in
    flat_map-append f (map (with_exact (ordered_in os)) ps) (flat_map paragraphs_of os) ∙ (λ i. first i ++ second i)

-- ---- the names of what is declared

signature_texts : (g : Globals) (is_abstract : Bool) (mark : Option MultiplicityWord) (parent : Option Parent) (names : List Name) →
    map (λ (n : Name). n.text) names ≡ map (λ (x : Signature). x.name) (map (signature_named g is_abstract mark parent) names)
signature_texts g is_abstract mark parent [] = refl
signature_texts g is_abstract mark parent (n ∷ names) = ap (λ ts. n.text ∷ ts) (signature_texts g is_abstract mark parent names)

signatures_agree : (g : Globals) (p : ParagraphTree) → map (λ (n : Name). n.text) (signature_names p) ≡ map (λ (x : Signature). x.name) (signatures_named g p)
signatures_agree g (tree.signatures is_abstract mark names parent fields) = signature_texts g is_abstract mark parent names
signatures_agree g (tree.fact n b) = refl
signatures_agree g (tree.predicate n ds b) = refl
signatures_agree g (tree.function n ds mark range body) = refl
signatures_agree g (tree.assertion n b) = refl
signatures_agree g (tree.command kind p target scope expected) = refl

pub names_of_signatures : (g : Globals) (ps : List ParagraphTree) → texts (flat_map signature_names ps) ≡ map (λ (x : Signature). x.name) (flat_map (signatures_named g) ps)
names_of_signatures g ps = flat_names signature_names (signatures_named g) (λ (n : Name). n.text) (λ (x : Signature). x.name) (signatures_agree g) ps

owner_texts : (g : Globals) (f : tree.FieldTree) (n : Name) (owners : List Name) →
    map (λ (m : Name). m.text) (map (λ (owner : Name). n) owners) ≡ map (λ (x : FieldTree). x.name) (map (field_named g f n) owners)
owner_texts g f n [] = refl
owner_texts g f n (owner ∷ owners) = ap (λ ts. n.text ∷ ts) (owner_texts g f n owners)

fields_agree : (g : Globals) (p : ParagraphTree) → map (λ (n : Name). n.text) (field_names p) ≡ map (λ (x : FieldTree). x.name) (fields_named g p)
fields_agree g (tree.signatures is_abstract mark names parent fields) =
    flat_names (λ (f : tree.FieldTree). flat_map (λ (n : Name). map (λ (owner : Name). n) names) f.names) (λ (f : tree.FieldTree). flat_map (λ (n : Name). map (field_named g f n) names) f.names)
    (λ (n : Name). n.text) (λ (x : FieldTree). x.name)
    (λ f. flat_names (λ (n : Name). map (λ (owner : Name). n) names) (λ (n : Name). map (field_named g f n) names) (λ (n : Name). n.text) (λ (x : FieldTree). x.name) (λ n. owner_texts g f n names) f.names) fields
fields_agree g (tree.fact n b) = refl
fields_agree g (tree.predicate n ds b) = refl
fields_agree g (tree.function n ds mark range body) = refl
fields_agree g (tree.assertion n b) = refl
fields_agree g (tree.command kind p target scope expected) = refl

pub names_of_fields : (g : Globals) (ps : List ParagraphTree) → texts (flat_map field_names ps) ≡ map (λ (x : FieldTree). x.name) (flat_map (fields_named g) ps)
names_of_fields g ps = flat_names field_names (fields_named g) (λ (n : Name). n.text) (λ (x : FieldTree). x.name) (fields_agree g) ps

-- what has a name of the text's own has none with a slash
pub not_with_slash : {X : Type 0} (name : X → List ℕ) (names : List (List ℕ)) (xs : List X) → names ≡ map name xs → All HasNoSlash names → (x : X) → Contains xs x →
    (text : List ℕ) → Contains text slash → name x ≡ text → ⊥
not_with_slash name names xs agree plain x c text has e =
    let there = subst (λ ts. Contains ts (name x)) (sym agree) (has_map name xs x c) in
    All-contains HasNoSlash names (name x) plain there (subst (λ z. Contains z slash) (sym e) has)

-- ---- the ordered signature, as the first of its name

is_none_inv : {X : Type 0} (o : Option X) → is_none o ≡ true → o ≡ None
is_none_inv None e = refl
is_none_inv (Some x) e = absurd cc

each_of_three : (a b c : Bool) → (not a && (not b && c)) ≡ true → (a ≡ false) × (b ≡ false) × (c ≡ true)
each_of_three true b c e = absurd cc
each_of_three false true c e = absurd cc
each_of_three false false c e = (refl, refl, e)

pub record IsFirstTop (xs : List Signature) (text : List ℕ) : Type 0 where
  pub one : Signature
  pub named : one.name ≡ text
  pub top : one.parent ≡ None
  pub whole : one.is_abstract ≡ false
  pub many : is_alone one.mark ≡ false
  pub first : StandsFirst (λ (x : Signature). x.name) xs one

first_of_names : (g : Globals) (is_abstract : Bool) (mark : Option MultiplicityWord) (text : List ℕ) → is_abstract ≡ false → is_alone mark ≡ false → (names : List Name) →
    list_any (λ (n : Name). bytes_eq n.text text) names ≡ true → IsFirstTop (map (signature_named g is_abstract mark None) names) text
first_of_names g is_abstract mark text whole many [] e = absurd cc
first_of_names g is_abstract mark text whole many (n ∷ names) e =
    let one : Signature = signature_named g is_abstract mark None n in
    let others = map (signature_named g is_abstract mark None) names in
    elim (cases_Bool (bytes_eq n.text text)) [
      | inl here ↦ record { one = one; named = same_text n.text text here; top = refl; whole = whole; many = many; first = first_head (λ (x : Signature). x.name) one others }
      | inr apart ↦
          let rest = first_of_names g is_abstract mark text whole many names (rw apart at e) in
          record {
            one = rest.one;
            named = rest.named;
            top = rest.top;
            whole = rest.whole;
            many = rest.many;
            first = first_right (λ (x : Signature). x.name) (one ∷ []) others rest.one (
                λ x c same.
                let is : one ≡ x = only_one one x c in
                let k : bytes_eq n.text text ≡ true = text_same n.text text (ap (λ (z : Signature). z.name) is ∙ same ∙ rest.named) in
                cc) rest.first;
          }
    ]

first_in_paragraph : (g : Globals) (text : List ℕ) (p : ParagraphTree) → declares p text ≡ true → is_plain p ≡ true → IsFirstTop (signatures_named g p) text
first_in_paragraph g text (tree.signatures is_abstract mark names parent fields) e plain =
    let parts = each_of_three is_abstract (is_alone mark) (is_none parent) plain in
    let none : parent ≡ None = is_none_inv parent parts.2 in
    subst (λ z. IsFirstTop (map (signature_named g is_abstract mark z) names) text) (sym none) (first_of_names g is_abstract mark text parts.0 parts.1 names e)
first_in_paragraph g text (tree.fact n b) e plain = absurd cc
first_in_paragraph g text (tree.predicate n ds b) e plain = absurd cc
first_in_paragraph g text (tree.function n ds mark range body) e plain = absurd cc
first_in_paragraph g text (tree.assertion n b) e plain = absurd cc
first_in_paragraph g text (tree.command kind p target scope expected) e plain = absurd cc

none_in_paragraph : (g : Globals) (text : List ℕ) (p : ParagraphTree) → declares p text ≡ false → (x : Signature) → Contains (signatures_named g p) x → x.name ≡ text → ⊥
none_in_paragraph g text (tree.signatures is_abstract mark names parent fields) e x c same =
    let n = map_has (signature_named g is_abstract mark parent) names x c in
    not_any (λ (m : Name). bytes_eq m.text text) names n.0 e n.1 (text_same n.0.text text (sym (ap (λ (z : Signature). z.name) n.2) ∙ same))
none_in_paragraph g text (tree.fact n b) e x c same = none_in x c
none_in_paragraph g text (tree.predicate n ds b) e x c same = none_in x c
none_in_paragraph g text (tree.function n ds mark range body) e x c same = none_in x c
none_in_paragraph g text (tree.assertion n b) e x c same = none_in x c
none_in_paragraph g text (tree.command kind p target scope expected) e x c same = none_in x c

pub first_declared : (g : Globals) (text : List ℕ) (ps : List ParagraphTree) (p : ParagraphTree) → declaration_of ps text ≡ Some p → is_plain p ≡ true → IsFirstTop (flat_map (signatures_named g) ps) text
first_declared g text [] p e plain = absurd cc
first_declared g text (q ∷ ps) p e plain = elim (cases_Bool (declares q text)) [
  | inl here ↦
      let same : q ≡ p = (let k : Some q ≡ Some p = rw here at e in cc) in
      let one = first_in_paragraph g text q here (subst (λ z. is_plain z ≡ true) (sym same) plain) in
      record { one = one.one; named = one.named; top = one.top; whole = one.whole; many = one.many; first = first_left (λ (x : Signature). x.name) (signatures_named g q) (flat_map (signatures_named g) ps) one.one one.first }
  | inr not_here ↦
      let rest = first_declared g text ps p (rw not_here at e) plain in
      record {
        one = rest.one;
        named = rest.named;
        top = rest.top;
        whole = rest.whole;
        many = rest.many;
        first = first_right (λ (x : Signature). x.name) (signatures_named g q) (flat_map (signatures_named g) ps) rest.one
            (λ x c same. none_in_paragraph g text q not_here x c (same ∙ rest.named)) rest.first;
      }
]
