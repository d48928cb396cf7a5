use Rattle.std.proofs.Common.{◌≡◌, ◌↔◌, Option, Some, None, true, false, not, Bool, IsTrue, Contains, refl}
use Rattle.std.specs.Option.{IfSome, is_some}
use Rattle.tuple_core.specs.declared.atom.Atom.{Atom}
use Rattle.swap_symmetry.specs.Swaps.{AreNeighbours, IsFreeOf, SwapIsEarlier, IsSettledBeside}
use Rattle.swap_symmetry.proofs.settled.is_settled_without.Goals as goal

-- nothing was found exactly where there is nothing
told : {X : Type 0} (o : Option X) (P : X → Type 0) (Q : Type 0) (r : Bool) → IfSome o P → ((x : X) → P x → Q → ⊥) → (o ≡ None → Q) → is_some o ≡ not r → IsTrue r ↔ Q
told (Some x) P Q true p against none e = absurd (let h : true ≡ false = e in cc)
told (Some x) P Q false p against none e = (λ h. absurd (let k : false ≡ true = h in cc), λ q. absurd (against x p q))
told None P Q true p against none e = (λ h. none refl, λ q. refl)
told None P Q false p against none e = absurd (let h : false ≡ true = e in cc)

pub returns : goal.returns
returns c =
    let p = c.args.problem.now in
    let floor = c.args.floor.now in
    let Chosen = Contains c.args.scenario.now in
    let Found : Atom × Atom → Type 0 = λ pair. AreNeighbours p pair.0 pair.1 × IsFreeOf p floor pair.0 pair.1 × SwapIsEarlier p pair.0 pair.1 Chosen in
    told c.earlier_swap.result Found (IsSettledBeside p floor c.args.scenario.now) c.is_none.result c.earlier_swap.ensures.some
    (λ pair found settled. settled pair.0 pair.1 (found.0, found.1) found.2) c.earlier_swap.ensures.none c.is_none.ensures
