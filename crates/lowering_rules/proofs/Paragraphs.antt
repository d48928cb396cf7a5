-- What the types of a model's paragraphs say of each thing that they declare.
use Rattle.std.specs.Prelude.{flat_map, take, drop, slice_index_or}
use Rattle.std.proofs.Common.{◌≡◌, ℕ, zero, suc, ◌+◌, ◌-◌, ◌<◌, ◌≤◌, inl, inr, List, [], ◌∷◌, ◌++◌, map, length, Contains, All, Some, None, slice_get, Result, Ok, Err, append_assoc, refl, sym, ◌∙◌, ap, subst, arith}
use Rattle.std.proofs.lemmas.Bool.{cases_lt}
use Rattle.std.proofs.lemmas.List.{length-append, length-map, append-nil}
use Rattle.std.proofs.lemmas.List.Elements.{All-nil, All-cons, All-contains}
use Rattle.rel_formula.proofs.OpenCells.{cons_first, cons_later, cons_cases}
use Rattle.rel_formula.proofs.Lists.{get-Some, some-Contains}
use Rattle.alloy_syntax.specs.declared.tree.Name.{Name}
use Rattle.alloy_syntax.specs.Tree as tree
use Rattle.alloy_syntax.specs.Tree.{ParagraphTree, ModelTree}
use Rattle.named_model.specs.declared.named.Part.{Part}
use Rattle.named_model.specs.declared.named.Part.TheVariants as part
use Rattle.named_model.specs.Model.{FieldTree, NamedTree}
use Rattle.named_model.specs.Names.{Globals}
use Rattle.named_model.specs.Declarations.{globals_of, field_names, field_named, fields_named, headers, callees_named, facts_named, assertion_names, assertions_named, commands_named, count_in, part_behind, parts_behind, named_of}
use Rattle.model_types.specs.declared.fault.TypeFault.{TypeFault}
use Rattle.model_types.specs.Sorts.{Checked}
use Rattle.model_types.specs.Typing.{Declared, formulas_settled}
use Rattle.model_types.specs.Models.{declared_in, field_checked, fields_checked, callee_settled, command_settled, checked, checked_at, part_checked, parts_checked, types_checked}
use Rattle.lowering_rules.specs.Typed.{HasNoFault, HasTypes}
use Rattle.lowering_rules.proofs.Inversion.{bind_ok}

-- ---- paragraphs

-- the paragraph in which a thing of a kind stands, and its place there
record IsLocated {X : Type 0} (kind : ParagraphTree → List X) (before ps : List ParagraphTree) (i : ℕ) : Type 0 where
  front : List ParagraphTree
  paragraph : ParagraphTree
  there : Contains (parts_behind before ps) (part_behind (before ++ front) paragraph)
  offset : ℕ
  inside : offset < length (kind paragraph)
  place : i ≡ length (flat_map kind front) + offset

locate : {X : Type 0} (kind : ParagraphTree → List X) (before ps : List ParagraphTree) (i : ℕ) → i < length (flat_map kind ps) → IsLocated kind before ps i
locate kind before [] i l = absurd (omega arith)
locate kind before (p ∷ ps) i l = elim (cases_lt i (length (kind p))) [
  | inl here ↦ record {
    front = [];
    paragraph = p;
    there = subst (λ b. Contains (parts_behind before (p ∷ ps)) (part_behind b p)) (sym (append-nil before)) (cons_first (part_behind before p) (parts_behind (before ++ p ∷ []) ps));
    offset = i;
    inside = here;
    place = omega arith;
  }
  | inr past ↦
      let long = length-append (kind p) (flat_map kind ps) in
      let rest = locate kind (before ++ p ∷ []) ps (i - length (kind p)) (omega arith) in
      let more = length-append (kind p) (flat_map kind rest.front) in
      let e = rest.place in
      record {
        front = p ∷ rest.front;
        paragraph = rest.paragraph;
        there = cons_later (part_behind before p) (parts_behind (before ++ p ∷ []) ps) (part_behind (before ++ p ∷ rest.front) rest.paragraph)
            (subst (λ b. Contains (parts_behind (before ++ p ∷ []) ps) (part_behind b rest.paragraph)) (append_assoc before (p ∷ []) rest.front) rest.there);
        offset = rest.offset;
        inside = rest.inside;
        place = omega arith;
      }
]

pub same_count : {P X Y : Type 0} (k : P → List X) (l : P → List Y) → ((p : P) → length (k p) ≡ length (l p)) → (ps : List P) → length (flat_map k ps) ≡ length (flat_map l ps)
same_count k l same [] = refl
same_count k l same (p ∷ ps) =
    let a = length-append (k p) (flat_map k ps) in
    let b = length-append (l p) (flat_map l ps) in
    let c = same p in
    let d = same_count k l same ps in
    omega arith

-- ---- the part of each thing

fact_part : (g : Globals) (front : List ParagraphTree) (p : ParagraphTree) (j : ℕ) → j < length (facts_named g p) → part_behind front p ≡ part.Fact (count_in (facts_named (globals_of [])) front + j)
fact_part g front (tree.fact n b) j l = ap part.Fact (omega arith)
fact_part g front (tree.signatures is_abstract mark names parent fields) j l = absurd (omega arith)
fact_part g front (tree.predicate n ds b) j l = absurd (omega arith)
fact_part g front (tree.function n ds mark range body) j l = absurd (omega arith)
fact_part g front (tree.assertion n b) j l = absurd (omega arith)
fact_part g front (tree.command kind p target scope expected) j l = absurd (omega arith)

facts_count : (g h : Globals) (p : ParagraphTree) → length (facts_named g p) ≡ length (facts_named h p)
facts_count g h (tree.fact n b) = refl
facts_count g h (tree.signatures is_abstract mark names parent fields) = refl
facts_count g h (tree.predicate n ds b) = refl
facts_count g h (tree.function n ds mark range body) = refl
facts_count g h (tree.assertion n b) = refl
facts_count g h (tree.command kind p target scope expected) = refl

callee_part : (g : Globals) (front : List ParagraphTree) (p : ParagraphTree) (j : ℕ) → j < length (callees_named g p) → part_behind front p ≡ part.Callee (count_in headers front + j)
callee_part g front (tree.predicate n ds b) j l = ap part.Callee (omega arith)
callee_part g front (tree.function n ds mark range body) j l = ap part.Callee (omega arith)
callee_part g front (tree.fact n b) j l = absurd (omega arith)
callee_part g front (tree.signatures is_abstract mark names parent fields) j l = absurd (omega arith)
callee_part g front (tree.assertion n b) j l = absurd (omega arith)
callee_part g front (tree.command kind p target scope expected) j l = absurd (omega arith)

callees_count : (g : Globals) (p : ParagraphTree) → length (callees_named g p) ≡ length (headers p)
callees_count g (tree.predicate n ds b) = refl
callees_count g (tree.function n ds mark range body) = refl
callees_count g (tree.fact n b) = refl
callees_count g (tree.signatures is_abstract mark names parent fields) = refl
callees_count g (tree.assertion n b) = refl
callees_count g (tree.command kind p target scope expected) = refl

assertion_part : (g : Globals) (front : List ParagraphTree) (p : ParagraphTree) (j : ℕ) → j < length (assertions_named g p) → part_behind front p ≡ part.Assertion (count_in assertion_names front + j)
assertion_part g front (tree.assertion n b) j l = ap part.Assertion (omega arith)
assertion_part g front (tree.predicate n ds b) j l = absurd (omega arith)
assertion_part g front (tree.function n ds mark range body) j l = absurd (omega arith)
assertion_part g front (tree.fact n b) j l = absurd (omega arith)
assertion_part g front (tree.signatures is_abstract mark names parent fields) j l = absurd (omega arith)
assertion_part g front (tree.command kind p target scope expected) j l = absurd (omega arith)

assertions_count : (g : Globals) (p : ParagraphTree) → length (assertions_named g p) ≡ length (assertion_names p)
assertions_count g (tree.assertion n b) = refl
assertions_count g (tree.predicate n ds b) = refl
assertions_count g (tree.function n ds mark range body) = refl
assertions_count g (tree.fact n b) = refl
assertions_count g (tree.signatures is_abstract mark names parent fields) = refl
assertions_count g (tree.command kind p target scope expected) = refl

command_part : (g : Globals) (front : List ParagraphTree) (p : ParagraphTree) (j : ℕ) → j < length (commands_named g p) → part_behind front p ≡ part.Command (count_in (commands_named (globals_of [])) front + j)
command_part g front (tree.command kind p target scope expected) j l = ap part.Command (omega arith)
command_part g front (tree.assertion n b) j l = absurd (omega arith)
command_part g front (tree.predicate n ds b) j l = absurd (omega arith)
command_part g front (tree.function n ds mark range body) j l = absurd (omega arith)
command_part g front (tree.fact n b) j l = absurd (omega arith)
command_part g front (tree.signatures is_abstract mark names parent fields) j l = absurd (omega arith)

commands_count : (g h : Globals) (p : ParagraphTree) → length (commands_named g p) ≡ length (commands_named h p)
commands_count g h (tree.command kind p target scope expected) = refl
commands_count g h (tree.assertion n b) = refl
commands_count g h (tree.predicate n ds b) = refl
commands_count g h (tree.function n ds mark range body) = refl
commands_count g h (tree.fact n b) = refl
commands_count g h (tree.signatures is_abstract mark names parent fields) = refl

fields_count : (g : Globals) (p : ParagraphTree) → length (fields_named g p) ≡ length (field_names p)
fields_count g (tree.signatures is_abstract mark names parent fields) =
    same_count (λ (f : tree.FieldTree). flat_map (λ (n : Name). map (field_named g f n) names) f.names) (λ (f : tree.FieldTree). flat_map (λ (n : Name). map (λ (owner : Name). n) names) f.names)
    (λ f. same_count (λ (n : Name). map (field_named g f n) names) (λ (n : Name). map (λ (owner : Name). n) names) (λ n. length-map names (field_named g f n) ∙ sym (length-map names (λ (owner : Name). n))) f.names) fields
fields_count g (tree.predicate n ds b) = refl
fields_count g (tree.function n ds mark range body) = refl
fields_count g (tree.fact n b) = refl
fields_count g (tree.assertion n b) = refl
fields_count g (tree.command kind p target scope expected) = refl

field_part : (g : Globals) (front : List ParagraphTree) (p : ParagraphTree) (j : ℕ) → j < length (fields_named g p) → part_behind front p ≡ part.Fields (count_in field_names front) (length (field_names p))
field_part g front (tree.signatures is_abstract mark names parent fields) j l = refl
field_part g front (tree.predicate n ds b) j l = absurd (omega arith)
field_part g front (tree.function n ds mark range body) j l = absurd (omega arith)
field_part g front (tree.fact n b) j l = absurd (omega arith)
field_part g front (tree.assertion n b) j l = absurd (omega arith)
field_part g front (tree.command kind p target scope expected) j l = absurd (omega arith)

module _ (ps : List ParagraphTree) (g : Globals) where
  -- one thing for each paragraph of its kind
  single_there : {X Y : Type 0} (kind : ParagraphTree → List X) (count : ParagraphTree → List Y) (of : ℕ → Part) → ((p : ParagraphTree) → length (kind p) ≡ length (count p)) →
      ((front : List ParagraphTree) (p : ParagraphTree) (j : ℕ) → j < length (kind p) → part_behind front p ≡ of (count_in count front + j)) →
      (i : ℕ) → i < length (flat_map kind ps) → Contains (parts_behind [] ps) (of i)
  single_there kind count of same is i l =
      let h = locate kind [] ps i l in
      let e : count_in count h.front + h.offset ≡ i = let a = same_count kind count same h.front in let b = h.place in omega arith in
      subst (Contains (parts_behind [] ps)) (is h.front h.paragraph h.offset h.inside ∙ ap of e) h.there

  fields_there : (i : ℕ) → i < length (flat_map (fields_named g) ps) → (first : ℕ) × (count : ℕ) × Contains (parts_behind [] ps) (part.Fields first count) × (first ≤ i) × (i < first + count)
  fields_there i l =
      let h = locate (fields_named g) [] ps i l in
      let a = same_count (fields_named g) field_names (fields_count g) h.front in
      let b = fields_count g h.paragraph in
      let c = h.inside in
      let e = h.place in (
        count_in field_names h.front,
        length (field_names h.paragraph),
        subst (Contains (parts_behind [] ps)) (field_part g h.front h.paragraph h.offset h.inside) h.there,
        omega arith,
        omega arith,
      )

-- ---- what is checked

drop_get : {X : Type 0} (n i : ℕ) (xs : List X) → slice_get (drop n xs) i ≡ slice_get xs (n + i)
drop_get zero i xs = let e : i ≡ 0 + i = omega arith in ap (slice_get xs) e
drop_get (suc n) i [] = refl
drop_get (suc n) i (x ∷ xs) = let e : suc (n + i) ≡ suc n + i = omega arith in drop_get n i xs ∙ ap (slice_get (x ∷ xs)) e

take_get : {X : Type 0} (n i : ℕ) (xs : List X) → i < n → slice_get (take n xs) i ≡ slice_get xs i
take_get zero i xs l = absurd (omega arith)
take_get (suc n) i [] l = refl
take_get (suc n) zero (x ∷ xs) l = refl
take_get (suc n) (suc i) (x ∷ xs) l = take_get n i xs (omega arith)

checked_ok : {X : Type 0} (r : Result X TypeFault) (u : Unit {0}) → checked r ≡ Ok u → HasNoFault r
checked_ok (Ok x) u h = (x, refl)
checked_ok (Err e) u h = absurd cc

thing_ok : {X Y : Type 0} (f : X → Result Y TypeFault) (xs : List X) (n : ℕ) (x : X) (u : Unit {0}) → slice_get xs n ≡ Some x → checked_at f xs n ≡ Ok u → HasNoFault (f x)
thing_ok f xs n x u e h =
    checked_ok (f x) u (sym (ap (λ o. elim o as (λ o. Checked) [ None ↦ Ok tt | Some x ↦ checked (f x) ]) e) ∙ h)

module _ (m : NamedTree) (d : Declared) where
  part_ok : (ps : List Part) (p : Part) (u : Unit {0}) → Contains ps p → parts_checked m d ps ≡ Ok u → HasNoFault (part_checked m d p)
  part_ok [] p u c h = absurd (let l = c.1 in omega arith)
  part_ok (q ∷ ps) p u c h =
      let a = bind_ok (part_checked m d q) _ u h in
      elim (cons_cases q ps p c) [
        | inl same ↦ subst (λ r. HasNoFault (part_checked m d r)) same (a.0, a.1)
        | inr later ↦ part_ok ps p u later a.2
      ]

  fields_ok : (fs : List FieldTree) (u : Unit {0}) → fields_checked d fs ≡ Ok u → All (λ (f : FieldTree). HasNoFault (field_checked d f)) fs
  fields_ok [] u h = All-nil (λ (f : FieldTree). HasNoFault (field_checked d f))
  fields_ok (f ∷ fs) u h =
      let a = bind_ok (field_checked d f) _ u h in
      All-cons (λ (f : FieldTree). HasNoFault (field_checked d f)) f fs (a.0, a.1) (fields_ok fs u a.2)

  -- a thing that has its part
  one_ok : {X Y : Type 0} (f : X → Result Y TypeFault) (xs : List X) (of : ℕ → Part) (u : Unit {0}) → parts_checked m d m.parts ≡ Ok u → ((i : ℕ) → part_checked m d (of i) ≡ checked_at f xs i) →
      ((i : ℕ) → i < length xs → Contains m.parts (of i)) → All (λ x. HasNoFault (f x)) xs
  one_ok f xs of u h same there k x l =
      let a = part_ok m.parts (of k) u (there k l) h in
      thing_ok f xs k (slice_index_or xs k x) a.0 (get-Some xs k x l) (sym (same k) ∙ a.1)

pub has_types : (t : ModelTree) → types_checked (named_of t) ≡ Ok tt → HasTypes (named_of t)
has_types t h =
    let m = named_of t in
    let d = declared_in m in
    let ps = t.paragraphs in
    let g = globals_of ps in
    record {
      fields = λ k f l.
          let p = fields_there ps g k l in
          let a = part_ok m d m.parts (part.Fields p.0 p.1) tt p.2 h in
          let all = fields_ok m d (take p.1 (drop p.0 m.fields)) a.0 a.1 in
          let j : k - p.0 < p.1 = let low = p.3 in let high = p.4 in omega arith in
          let number : p.0 + (k - p.0) ≡ k = let low = p.3 in omega arith in
          let at : slice_get (take p.1 (drop p.0 m.fields)) (k - p.0) ≡ Some (slice_index_or m.fields k f) =
          take_get p.1 (k - p.0) (drop p.0 m.fields) j ∙ drop_get p.0 (k - p.0) m.fields ∙ ap (slice_get m.fields) number ∙ get-Some m.fields k f l in
          All-contains (λ (x : FieldTree). HasNoFault (field_checked d x)) (take p.1 (drop p.0 m.fields)) (slice_index_or m.fields k f) all
          (some-Contains (take p.1 (drop p.0 m.fields)) (k - p.0) (slice_index_or m.fields k f) at);
      facts = one_ok m d (formulas_settled d []) m.facts part.Fact tt h (λ i. refl)
          (single_there ps g (facts_named g) (facts_named (globals_of [])) part.Fact (facts_count g (globals_of [])) (fact_part g));
      assertions = one_ok m d (formulas_settled d []) m.assertions part.Assertion tt h (λ i. refl)
          (single_there ps g (assertions_named g) assertion_names part.Assertion (assertions_count g) (assertion_part g));
      callees = one_ok m d (callee_settled d) m.callees part.Callee tt h (λ i. refl)
          (single_there ps g (callees_named g) headers part.Callee (callees_count g) (callee_part g));
      commands = one_ok m d (command_settled m d) m.commands part.Command tt h (λ i. refl)
          (single_there ps g (commands_named g) (commands_named (globals_of [])) part.Command (commands_count g (globals_of [])) (command_part g));
    }
