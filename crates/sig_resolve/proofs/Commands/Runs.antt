-- Predicates by their names.
use Rattle.std.proofs.Common.{◌≡◌, ℕ, ◌+◌, ◌<◌, zero, suc, List, [], ◌∷◌, ◌++◌, map, flat_map, Bool, true, false, if◌then◌else◌, Some, None, inl, inr, refl, sym, ap, ◌∙◌, slice_index_or, length, get_or, take, append-nil, arith}
use Rattle.std.proofs.lemmas.Bool.{cases_Bool}
use Rattle.std.proofs.lemmas.List.{map-append, take_more}
use Rattle.std.proofs.lemmas.Grind.{flat_map-append}
use Rattle.std.proofs.lemmas.Iterator.Adapters.{position_from-zero}
use Rattle.std.specs.Str.{bytes_eq}
use Rattle.std.specs.List.{position_from, list_any}
use Rattle.alloy_lex.specs.declared.token.Place.{Place}
use Rattle.alloy_syntax.specs.declared.tree.Paragraph.{Paragraph}
use Rattle.alloy_syntax.specs.Tree as tree
use Rattle.alloy_syntax.specs.Tree.{ParagraphTree}
use Rattle.alloy_syntax.specs.View.{paragraph_view}
use Rattle.named_model.specs.declared.fault.NameFault.TheVariants as fault
use Rattle.named_model.specs.Answers.{first_in}
use Rattle.named_model.specs.Names.{Header, callee_names, number_of}
use Rattle.named_model.specs.Faults.{is_higher_domain, predicates_at, run_faults}
use Rattle.name_tables.specs.InForce.{InForce, with_callee}
use Rattle.sig_resolve.specs.Commands.Predicates.{Run, run_of, AreRuns, higher_at}

-- the predicates of a name, paragraph by paragraph
pub runs_at : (text : List ℕ) (ps : List ParagraphTree) → flat_map (predicates_at text) ps ≡ higher_at text (flat_map run_of ps)
runs_at text [] = refl
runs_at text (tree.predicate n ds b ∷ ps) = ap (λ more. (if bytes_eq n.text text then list_any is_higher_domain ds ∷ [] else []) ++ more) (runs_at text ps)
runs_at text (tree.signatures a mark names parent fields ∷ ps) = runs_at text ps
runs_at text (tree.fact n b ∷ ps) = runs_at text ps
runs_at text (tree.function n ds mark range body ∷ ps) = runs_at text ps
runs_at text (tree.assertion n b ∷ ps) = runs_at text ps
runs_at text (tree.command kind p target scope expected ∷ ps) = runs_at text ps

-- none of a name
none_from : (text : List ℕ) (i : ℕ) (runs : List Run) → position_from (λ name. bytes_eq name text) i (map (λ (r : Run). r.name) runs) ≡ None → higher_at text runs ≡ []
none_from text i [] e = refl
none_from text i (r ∷ rs) e =
    elim (cases_Bool (bytes_eq r.name text)) [
      | inl holds ↦ absurd (some_is_none i (rw holds at e))
      | inr fails ↦ ap (λ b. (if b then r.is_higher ∷ [] else []) ++ higher_at text rs) fails ∙ none_from text (i + 1) rs (rw fails at e)
    ]
  where
    some_is_none : (n : ℕ) → Some n ≡ None → ⊥
    some_is_none n h = absurd cc

-- the first of a name
first_from : (text : List ℕ) (i : ℕ) (runs : List Run) (n : ℕ) → position_from (λ name. bytes_eq name text) i (map (λ (r : Run). r.name) runs) ≡ Some n
    → (j : ℕ) × (n ≡ i + j) × (more : List Bool) × (higher_at text runs ≡ slice_index_or (map (λ (r : Run). r.is_higher) runs) j false ∷ more)
first_from text i [] n e = absurd cc
first_from text i (r ∷ rs) n e =
    elim (cases_Bool (bytes_eq r.name text)) [
      | inl holds ↦
          let here : i ≡ n = some_same (rw holds at e) in
          (zero, omega (arith, here), higher_at text rs, ap (λ b. (if b then r.is_higher ∷ [] else []) ++ higher_at text rs) holds)
      | inr fails ↦
          let more = first_from text (i + 1) rs n (rw fails at e) in
          (suc more.0, omega (arith, more.1), more.2, ap (λ b. (if b then r.is_higher ∷ [] else []) ++ higher_at text rs) fails ∙ more.3)
    ]
  where
    some_same : Some i ≡ Some n → i ≡ n
    some_same h = cc

at_zero : (text : List ℕ) (names : List (List ℕ)) → number_of names text ≡ position_from (λ name. bytes_eq name text) 0 names
at_zero text names = position_from-zero (λ name. bytes_eq name text) names

told : (p : Place) (b : Bool) (more : List Bool) → (if b then Some (fault.HigherOrder p) else None) ≡ first_in (run_faults p (b ∷ more))
told p true more = refl
told p false more = refl

-- what is wrong where a predicate is run
module _ (p : Place) (text : List ℕ) (runs : List Run) (names : List (List ℕ)) (names_are : names ≡ map (λ (r : Run). r.name) runs) where
  pub none_to_run : number_of names text ≡ None → Some (fault.Unknown p) ≡ first_in (run_faults p (higher_at text runs))
  none_to_run e = sym (ap (λ bs. first_in (run_faults p bs)) (none_from text 0 runs (sym (at_zero text (map (λ (r : Run). r.name) runs)) ∙ ap (λ ns. number_of ns text) (sym names_are) ∙ e)))

  pub one_to_run : (higher : List Bool) → higher ≡ map (λ (r : Run). r.is_higher) runs → (n : ℕ) → number_of names text ≡ Some n
      → (if slice_index_or higher n false then Some (fault.HigherOrder p) else None) ≡ first_in (run_faults p (higher_at text runs))
  one_to_run higher higher_are n e =
      let marks : List Bool = map (λ (r : Run). r.is_higher) runs in
      let first = first_from text 0 runs n (sym (at_zero text (map (λ (r : Run). r.name) runs)) ∙ ap (λ ns. number_of ns text) (sym names_are) ∙ e) in
      let same : n ≡ first.0 = omega (arith, first.1) in
      ap (λ bs. if slice_index_or bs n false then Some (fault.HigherOrder p) else None) higher_are
      ∙ ap (λ k. if slice_index_or marks k false then Some (fault.HigherOrder p) else None) same
      ∙ told p (slice_index_or marks first.0 false) first.2
      ∙ sym (ap (λ bs. first_in (run_faults p bs)) first.3)

-- ---- the table, as it grows

pub runs_more : (runs : List Run) (old new : InForce) (higher more : List Bool) (text : List ℕ) (b : Bool) (h : Header) → new ≡ with_callee old h → h.name ≡ text → more ≡ higher ++ b ∷ []
    → AreRuns runs old higher → AreRuns (runs ++ record { name = text; is_higher = b } ∷ []) new more
runs_more runs old new higher more text b h named text_is pushed are =
    let r : Run = record { name = text; is_higher = b } in
    record {
      names_are =
          ap (λ (n : InForce). callee_names n.globals) named
          ∙ map-append (λ (x : Header). x.name) old.globals.callees (h ∷ [])
          ∙ ap (λ ns. ns ++ h.name ∷ []) are.names_are
          ∙ ap (λ t. map (λ (x : Run). x.name) runs ++ t ∷ []) text_is
          ∙ sym (map-append (λ (x : Run). x.name) runs (r ∷ []));
      higher_are = pushed ∙ ap (λ bs. bs ++ b ∷ []) are.higher_are ∙ sym (map-append (λ (x : Run). x.is_higher) runs (r ∷ []));
    }

pub runs_taken : (ps : List Paragraph) (i : ℕ) (p : Paragraph) → i < length ps → p ≡ get_or ps i p
    → flat_map run_of (map paragraph_view (take (i + 1) ps)) ≡ flat_map run_of (map paragraph_view (take i ps)) ++ run_of (paragraph_view p)
runs_taken ps i p l is =
    ap (λ qs. flat_map run_of (map paragraph_view qs)) (take_more ps i p l ∙ ap (λ q. take i ps ++ q ∷ []) (sym is))
    ∙ ap (flat_map run_of) (map-append paragraph_view (take i ps) (p ∷ []))
    ∙ flat_map-append run_of (map paragraph_view (take i ps)) (paragraph_view p ∷ [])
    ∙ ap (λ rs. flat_map run_of (map paragraph_view (take i ps)) ++ rs) (append-nil (run_of (paragraph_view p)))
