-- What an ordering declares has no fault of its names.
use Rattle.std.specs.Prelude.{codes, flat_map, if◌then◌else◌}
use Rattle.std.proofs.Common.{◌≡◌, inl, inr, ℕ, ◌==◌, true, List, [], ◌∷◌, ◌++◌, Option, Some, None, Ok, Contains, refl, ◌∙◌, ap, subst, arith}
use Rattle.std.proofs.lemmas.Grind.{flat_map-append}
use Rattle.alloy_lex.specs.declared.token.Place.{Place}
use Rattle.alloy_syntax.specs.declared.tree.Open.{Open}
use Rattle.alloy_syntax.specs.Tree.{ModelTree}
use Rattle.named_model.specs.declared.fault.NameFault.{NameFault}
use Rattle.named_model.specs.declared.fault.NameFault.TheVariants as fault
use Rattle.named_model.specs.declared.standing.Standing.TheVariants as standing
use Rattle.named_model.specs.Names.{Globals, Header, number_of, callee_names, arguments_of, or_else, field_standing, name_faults, standing_of, faults_of}
use Rattle.named_model.specs.Declarations.{globals_of, number_in}
use Rattle.named_model.specs.Faults.{unless_signature, signature_faults, body_faults}
use Rattle.order_lib.specs.Library as library
use Rattle.order_lib.specs.Library.{own, paragraphs_of}
use Rattle.order_lib.specs.Faults.{first_fault}
use Rattle.order_lib.specs.Expanded.{with_orderings, expanded}
use Rattle.lowering_laws.specs.Orders.{Ordering}
use Rattle.lowering_laws.specs.OrderingTexts.{HasPlainNames, relations_of}
use Rattle.lowering_laws.specs.OrderingFaults.{IsFaultless}
use Rattle.lowering_laws.proofs.Orderings.Lines.{none_in}
use Rattle.lowering_laws.proofs.Orderings.Occurrences.{number_there}
use Rattle.lowering_laws.proofs.Orderings.Declared.{expanded_cases}
use Rattle.lowering_laws.proofs.Orderings.Named.{ArePlain, IsCallee, own_stands, signature_stands, signature_number, first_stands, next_stands, callee_stands}
use Rattle.lowering_laws.proofs.Orderings.Callees.{Row, rows, function_row, predicate_row, callee_number, header_is}
use Rattle.lowering_laws.proofs.Orderings.Suiting.{fields_suit, facts_suit, callees_suit}
use Rattle.lowering_laws.proofs.Orderings.Calls.{no_names, one_name, two_names}

abbrev AreNone : List NameFault → Type 0
AreNone fs = fs ≡ []

module _ (t : ModelTree) (plain : HasPlainNames t) (fine : first_fault t.paragraphs t.opens ≡ None) (o : Open) (is : Contains t.opens o) where
  abbrev g : Globals
  g = globals_of (with_orderings t).paragraphs

  abbrev p : Place
  p = o.alias.place

  abbrev r : Ordering
  r = relations_of (with_orderings t) o

  abbrev ab : List (List ℕ)
  ab = codes "b" ∷ codes "a" ∷ []

  ab_plain : ArePlain ab
  ab_plain = two_names (codes "b") (codes "a") refl refl

  -- ---- names of a signature and of fields

  -- `S` is declared
  signature_fine : unless_signature g (library.ordered o) ≡ []
  signature_fine = ap (λ b. if b then [] else fault.Unknown p ∷ []) (number_there g.signatures o.signature.text (number_in g.signatures o.signature) (signature_number t plain fine o is))

  first_fine : (locals : List (List ℕ)) → ArePlain locals → faults_of g locals 0 (library.first_atom o) ≡ []
  first_fine locals none = let a = own_stands t plain fine o is locals none in let b = first_stands t plain fine o is locals none in λ i. name_faults g p 0 (a i) ++ (name_faults g p 0 (b i) ++ [])

  next_fine : (locals : List (List ℕ)) → ArePlain locals → faults_of g locals 0 (library.neighbours o) ≡ []
  next_fine locals none = let a = own_stands t plain fine o is locals none in let b = next_stands t plain fine o is locals none in λ i. name_faults g p 0 (a i) ++ (name_faults g p 0 (b i) ++ [])

  atoms_fine : faults_of g [] 0 (library.all_atoms o) ≡ []
  atoms_fine = ap (name_faults g p 0) (signature_stands t plain fine o is)

  -- ---- the signature and the fact

  pub the_signature_fine : signature_faults g (library.the_signature o) ≡ []
  the_signature_fine = let s = signature_fine in λ i. s i ++ ((s i ++ (s i ++ [])) ++ [])

  pub the_fact_fine : body_faults g (library.the_fact o) ≡ []
  the_fact_fine =
      let first = first_fine [] no_names in
      let next = next_fine [] no_names in
      let behind = next_fine (codes "x" ∷ []) (one_name (codes "x") refl) in
      let atoms = atoms_fine in
      λ i.
      (next i ++ (first i ++ []))
      ++ (((atoms i ++ []) ++ (behind i ++ []))
      ++ (((atoms i ++ []) ++ (behind i ++ []))
      ++ ((atoms i ++ (first i ++ (next i ++ []))) ++ [])))

  -- ---- functions

  -- a range stands behind the parameters, one of which may hide the signature
  range_fine : (locals : List (List ℕ)) → faults_of g locals 0 (library.all_atoms o) ≡ []
  range_fine locals = go (number_of locals o.signature.text)
    where
      go : (x : Option ℕ) → name_faults g p 0 (or_else x standing.Local (or_else (number_of g.signatures o.signature.text) standing.Signature
          (or_else (number_of g.fields o.signature.text) (field_standing g.fields o.signature.text) (or_else (number_of (callee_names g) o.signature.text) standing.Callee standing.Nothing)))) ≡ []
      go (Some k) = refl
      go None = ap (name_faults g p 0) (signature_stands t plain fine o is)

  abbrev of_values : List NameFault
  of_values = flat_map (body_faults g) (library.values o)

  values_fine : of_values ≡ []
  values_fine =
      let first = first_fine [] no_names in
      let next = next_fine [] no_names in
      let atoms = atoms_fine in
      λ i.
      (atoms i ++ first i)
      ++ (((atoms i ++ (atoms i ++ [])) ++ next i)
      ++ (((atoms i ++ (atoms i ++ [])) ++ next i)
      ++ ((atoms i ++ (atoms i ++ ((next i ++ (atoms i ++ [])) ++ []))) ++ [])))

  abbrev of_reaches : List NameFault
  of_reaches = flat_map (body_faults g) (library.reaches o)

  reaches_fine : of_reaches ≡ []
  reaches_fine =
      let atoms = atoms_fine in
      let range = range_fine (codes "e" ∷ []) in
      let next = next_fine (codes "e" ∷ []) (one_name (codes "e") refl) in
      λ i. (((atoms i ++ []) ++ range i) ++ (next i ++ [])) ++ ((((atoms i ++ []) ++ range i) ++ (next i ++ [])) ++ [])

  -- ---- predicates

  call_fine : (row : Row) → Contains (rows g o) row → IsCallee row.0 → (n : ℕ) → (arguments_of row.1.0 n == row.1.0.parameters) ≡ true → name_faults g p n (standing_of g ab (own o row.0).text) ≡ []
  call_fine row there word n fits =
      let k = number_in (callee_names g) (own o row.0) in
      let stand = callee_stands t plain fine o is ab ab_plain row.0 word k (callee_number t plain fine o is row there) in
      ap (name_faults g p n) stand
      ∙ ap (λ (h : Header). if arguments_of h n == h.parameters then [] else fault.Arguments p ∷ []) (header_is t plain fine o is row there)
      ∙ ap (λ b. if b then [] else fault.Arguments p ∷ []) fits

  abbrev of_predicates : List NameFault
  of_predicates = flat_map (body_faults g) (library.predicates o)

  predicates_fine : of_predicates ≡ []
  predicates_fine =
      let atoms = atoms_fine in
      let prevs = call_fine (function_row g o (codes "prevs") (library.one_atom o) (library.all_atoms o) (library.reached o (library.reversed o))) (5, omega arith, refl) (record { word = refl; not_own = refl; not_first = refl; not_next = refl }) 1 refl in
      let nexts = call_fine (function_row g o (codes "nexts") (library.one_atom o) (library.all_atoms o) (library.reached o (library.neighbours o))) (4, omega arith, refl) (record { word = refl; not_own = refl; not_first = refl; not_next = refl }) 1 refl in
      let lt = call_fine (predicate_row g o (codes "lt") (library.is_in o (codes "prevs"))) (6, omega arith, refl) (record { word = refl; not_own = refl; not_first = refl; not_next = refl }) 2 refl in
      let gt = call_fine (predicate_row g o (codes "gt") (library.is_in o (codes "nexts"))) (7, omega arith, refl) (record { word = refl; not_own = refl; not_first = refl; not_next = refl }) 2 refl in
      λ i.
      ((atoms i ++ []) ++ ((prevs i ++ []) ++ []))
      ++ (((atoms i ++ []) ++ ((nexts i ++ []) ++ []))
      ++ (((atoms i ++ []) ++ (((lt i ++ []) ++ []) ++ []))
      ++ (((atoms i ++ []) ++ (((gt i ++ []) ++ []) ++ [])) ++ [])))

  -- ---- all of it

  pub bodies_fine : flat_map (body_faults g) (paragraphs_of o) ≡ []
  bodies_fine =
      flat_map-append (body_faults g) (library.the_signature o ∷ library.the_fact o ∷ [] ++ library.functions o) (library.predicates o)
      ∙ ap (λ fs. fs ++ of_predicates) (flat_map-append (body_faults g) (library.the_signature o ∷ library.the_fact o ∷ []) (library.functions o))
      ∙ ap (λ fs. (flat_map (body_faults g) (library.the_signature o ∷ library.the_fact o ∷ []) ++ fs) ++ of_predicates) (flat_map-append (body_faults g) (library.values o) (library.reaches o))
      ∙ (λ i. ((the_fact_fine i ++ []) ++ (values_fine i ++ reaches_fine i)) ++ predicates_fine i)

  pub signatures_fine : flat_map (signature_faults g) (paragraphs_of o) ≡ []
  signatures_fine = λ i. the_signature_fine i ++ []

pub faultless : (t e : ModelTree) → HasPlainNames t → expanded t ≡ Ok e → (o : Open) → Contains t.opens o → IsFaultless e o
faultless t e plain is o c = elim (expanded_cases t e is) [
  | inl (none, same) ↦ absurd (none_in o (subst (λ os. Contains os o) none c))
  | inr (fine, same) ↦
      subst (λ z. IsFaultless z o) same
      (record {
        bounds = signatures_fine t plain fine o c;
        bodies = bodies_fine t plain fine o c;
        fields = fields_suit t plain fine o c;
        facts = facts_suit t plain fine o c;
        callees = callees_suit t plain fine o c;
      })
]
