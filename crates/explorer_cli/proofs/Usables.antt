-- What is served to sessions: each has its command's problem.
use Rattle.std.proofs.Common.{◌≡◌, ℕ, zero, suc, ◌+◌, ◌≤◌, ◌<◌, List, [], ◌∷◌, length, get_or, Contains, All, Some, refl, sym, subst, arith}
use Rattle.std.specs.Prelude.{slice_get}
use Rattle.std.specs.Global.{Vec}
use Rattle.std.proofs.lemmas.List.Elements.{Contains-get_or, All-contains}
use Rattle.rel_formula.specs.Bounds.{Bounded}
use Rattle.named_model.specs.Model.{NamedTree}
use Rattle.script_format.specs.declared.entries.ModelEntry.{ModelEntry}
use Rattle.script_format.specs.declared.entries.SessionEntry.{SessionEntry}
use Rattle.script_format.specs.Limits.{asked_by, asked_in}
use Rattle.served_models.specs.declared.purposes.Purpose.{Purpose}
use Rattle.served_models.specs.declared.commands.ServedCommand.{ServedCommand}
use Rattle.served_models.specs.Served.{IsAsked, IsProblemOf, AreUsable, HasMade, AreMade, AreAllMade, AreUsed}
use Rattle.explorer_cli.specs.Runs.{IsProblemAt, IsServedAt, IsServed}

-- ---- the models in order, and what is made for them

pub usable_length : (purpose : Purpose) (sessions : List SessionEntry) (place : ℕ) (entries : List ModelEntry) (ms : List NamedTree) → AreUsable purpose sessions place entries ms → length ms ≡ length entries
usable_length purpose sessions place [] [] are = refl
usable_length purpose sessions place [] (x ∷ xs) are = absurd are
usable_length purpose sessions place (e ∷ es) [] are = absurd are
usable_length purpose sessions place (e ∷ es) (x ∷ xs) are = let l = usable_length purpose sessions (place + 1) es xs are.1 in omega arith

same_made : (x y : Vec ServedCommand) → Some x ≡ Some y → x ≡ y
same_made x y e = cc

-- what is made for a place is made for the model there
made_at : (purpose : Purpose) (sessions : List SessionEntry) (place : ℕ) (ms : List NamedTree) (xs : List (Vec ServedCommand)) (k : ℕ) (made : Vec ServedCommand) → AreAllMade purpose sessions place ms xs
    → slice_get xs k ≡ Some made → (m : NamedTree) × (slice_get ms k ≡ Some m) × AreMade purpose sessions (place + k) m made.items
made_at purpose sessions place [] [] k made are e = absurd (cc)
made_at purpose sessions place [] (x ∷ xs) k made are e = absurd are
made_at purpose sessions place (m ∷ ms) [] k made are e = absurd are
made_at purpose sessions place (m ∷ ms) (x ∷ xs) zero made are e =
    let same : place ≡ place + 0 = omega arith in
    (m, refl, subst (λ (n : ℕ). AreMade purpose sessions n m made.items) same (subst (λ (v : Vec ServedCommand). AreMade purpose sessions place m v.items) (same_made x made e) are.0))
made_at purpose sessions place (m ∷ ms) (x ∷ xs) (suc k) made are e =
    let h = made_at purpose sessions (place + 1) ms xs k made are.1 e in
    let same : (place + 1) + k ≡ place + suc k = omega arith in
    (h.0, h.1, subst (λ (n : ℕ). AreMade purpose sessions n h.0 made.items) same h.2)

-- something is made for each place
made_there : (purpose : Purpose) (sessions : List SessionEntry) (place : ℕ) (ms : List NamedTree) (xs : List (Vec ServedCommand)) (k : ℕ) → AreAllMade purpose sessions place ms xs → k < length ms
    → (made : Vec ServedCommand) × (slice_get xs k ≡ Some made)
made_there purpose sessions place [] xs k are l = absurd (omega arith)
made_there purpose sessions place (m ∷ ms) [] k are l = absurd are
made_there purpose sessions place (m ∷ ms) (x ∷ xs) zero are l = (x, refl)
made_there purpose sessions place (m ∷ ms) (x ∷ xs) (suc k) are l = made_there purpose sessions (place + 1) ms xs k are.1 (omega arith)

-- what is served to a session is its command's problem
pub problem_at : (purpose : Purpose) (sessions : List SessionEntry) (ms : List NamedTree) (xs : List (Vec ServedCommand)) (x : SessionEntry) (p : Bounded) → AreAllMade purpose sessions 0 ms xs → IsServedAt xs x p → IsProblemAt ms x p
problem_at purpose sessions ms xs x p are (made, at, (c, in', number, problem)) =
    let h = made_at purpose sessions 0 ms xs x.model made are at in
    let is : IsProblemOf h.0 c.number c.problem = All-contains (λ (d : ServedCommand). IsProblemOf h.0 d.number d.problem) made.items c h.2.each in' in
    (h.0, h.1, subst (λ (q : Bounded). IsProblemOf h.0 x.number q) (sym problem) (subst (λ (n : ℕ). IsProblemOf h.0 n c.problem) number is))

served_to : (xs : List (Vec ServedCommand)) (x : SessionEntry) (made : Vec ServedCommand) → slice_get xs x.model ≡ Some made → HasMade made.items x.number → IsServed xs x
served_to xs x made at (c, in', number) = (c.problem, (made, at, (c, in', number, refl)))

-- each session has one
pub all_served : (purpose : Purpose) (sessions : List SessionEntry) (entries : List ModelEntry) (xs : List (Vec ServedCommand)) → AreUsed purpose sessions entries xs → All (λ x. x.model < length entries) sessions → All (IsServed xs) sessions
all_served purpose sessions entries xs (ms, usable, are) named k d l =
    let x = get_or sessions k d in
    let in' = named k d l in
    let long = usable_length purpose sessions 0 entries ms usable in
    let made = made_there purpose sessions 0 ms xs x.model are (omega arith) in
    let h = made_at purpose sessions 0 ms xs x.model made.0 are made.1 in
    let same : x.model ≡ 0 + x.model = omega arith in
    let asked : IsAsked sessions (0 + x.model) x.number = (x, Contains-get_or sessions k d l, same, refl) in
    served_to xs x made.0 made.1 (h.2.all x.number asked)

-- each session asks for no more than all of them
pub asked_each : (sessions : List SessionEntry) (most : ℕ) → asked_in sessions ≤ most → All (λ x. asked_by x.commands ≤ most) sessions
asked_each [] most few k d l = absurd (omega arith)
asked_each (x ∷ xs) most few zero d l = omega arith
asked_each (x ∷ xs) most few (suc k) d l = asked_each xs most (omega arith) k d (omega arith)
