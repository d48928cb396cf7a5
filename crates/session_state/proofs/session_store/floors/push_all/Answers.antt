use Rattle.std.proofs.Common.{◌≡◌, ◌≢◌, ◌<◌, ◌≤◌, ◌-◌, ◌++◌, ◌∷◌, [], ℕ, List, map, take, length, reverse, append-nil, refl, sym, ap, subst, ◌∙◌, arith}
use Rattle.std.proofs.lemmas.List.{take-map, reverse-reverse, nil_from_length}
use Rattle.std.proofs.lemmas.Bool.Decides.{Decides-eqb}
use Rattle.session_state.specs.declared.session_store.floors.Found.{Found}
use Rattle.session_state.proofs.session_store.floors.push_all.Goals as goal

pub returns-clause-found : goal.returns-clause-found
returns-clause-found c =
    let mk : List ℕ → Found = λ s. record { floor = c.args.floor; scenario = s } in
    let none : c.pushing.left.items ≡ [] = nil_from_length c.pushing.left.items (ap length (sym c.as_slice-in-pushing.ensures.value) ∙ (Decides-eqb (length c.as_slice-in-pushing.result.now) 0).0 (sym c.pushing-test.ensures)) in
    let count : length c.as_slice.result.now ≡ length c.args.found.now.items = ap length c.as_slice.ensures.value in
    let cut : c.truncate.new.self.items ≡ take (1000000 - length c.args.found.now.items) c.args.scenarios.items = c.truncate.ensures.items ∙ ap (λ n. take (1000000 - n) c.args.scenarios.items) count in
    sym (append-nil c.pushing.found.items)
    ∙ ap (λ l. c.pushing.found.items ++ map mk (reverse l)) (sym none)
    ∙ c.pushing.invariant.found
    ∙ ap (λ l. c.args.found.now.items ++ map mk (reverse l)) (c.reverse.ensures.items ∙ ap reverse cut)
    ∙ ap (λ l. c.args.found.now.items ++ map mk l) (reverse-reverse (take (1000000 - length c.args.found.now.items) c.args.scenarios.items))
    ∙ ap (λ l. c.args.found.now.items ++ l) (sym (take-map mk (1000000 - length c.args.found.now.items) c.args.scenarios.items))
