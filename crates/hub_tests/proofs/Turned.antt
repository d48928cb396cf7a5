-- What a pass knows of the entries under its number, in its turn.
use Rattle.std.proofs.Common.{◌≡◌, ◌⊎◌, inl, inr, ◌==◌, ℕ, Bool, true, false, cond, Option, Some, List, [], ◌∷◌, ◌++◌, Contains, refl, sym, ◌∙◌, ap, subst, arith}
use Rattle.std.specs.Prelude.{slice_get}
use Rattle.std.proofs.lemmas.Bool.{cases_Bool, eq-eqb}
use Rattle.std.proofs.lemmas.List.Elements.{Contains-append_cases}
use Rattle.hub_lock.specs.Passes.{of_pass}
use Rattle.rel_formula.specs.Bounds.{Bounded}
use Rattle.hub_state.specs.Journal.Noted.{Noted, Opened}
use Rattle.hub_state.specs.Journal.Journal.{Opens}
use Rattle.hub_state.specs.HubView.{HubView}
use Rattle.hub_state.proofs.GrowingJournals.{only_one}
use Rattle.hub_tests.proofs.Bottom.{always}

-- where the entries under a number are none, no entry has the number
module _ {E : Type 0} (by : E → ℕ) (n : ℕ) where
  pub none_of : (es : List E) → of_pass by n es ≡ [] → (e : E) → Contains es e → by e ≡ n → ⊥
  none_of [] none e there same = let inside = there.1 in omega arith
  none_of (x ∷ xs) none e there same = elim (cases_Bool (by x == n)) [
    | inl t ↦
        let kept : x ∷ of_pass by n xs ≡ [] = ap (λ (b : Bool). cond b (x ∷ of_pass by n xs) (of_pass by n xs)) (sym t) ∙ none in
        cc
    | inr f ↦
        let rest : of_pass by n xs ≡ [] = ap (λ (b : Bool). cond b (x ∷ of_pass by n xs) (of_pass by n xs)) (sym f) ∙ none in
        elim (Contains-append_cases (x ∷ []) xs e there) [
          | inl here ↦
              let is : x ≡ e = only_one x e here in
              let t : (by x == n) ≡ true = eq-eqb (by x) n (ap by is ∙ same) in
              let wrong : true ≡ false = sym t ∙ f in
              cc
          | inr later ↦ none_of xs rest e later same
        ]
  ]

-- so a pass without entries may open a session under its number
pub may_open_in_turn : (hub : HubView) (own : List Noted) (n : ℕ) → of_pass (λ (x : Noted). x.by) n hub.journal ≡ own → own ≡ [] → Some (always ∷ []) ≡ Some hub.problems → Opens hub.problems hub.journal n 0
may_open_in_turn hub own n mine none base = record {
  problem = always;
  of_key = let same : always ∷ [] ≡ hub.problems = cc in subst (λ (ps : List Bounded). slice_get ps 0 ≡ Some always) same refl;
  first = λ other budget there. none_of (λ (x : Noted). x.by) n hub.journal (mine ∙ none) (record { by = n; note = Opened other budget }) there refl;
}
