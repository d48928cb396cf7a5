use Rattle.std.proofs.Common.{◌≡◌, ℕ, ◌+◌, ◌<◌, ◌≤◌, List, [], ◌∷◌, ◌++◌, Bor, Option, Some, None, option_map, length, drop, get_or, refl, sym, ap, ◌∙◌, append_assoc, append-nil}
use Rattle.std.proofs.lemmas.List.{at_drop_all, drop_more}
use Rattle.session_words.specs.declared.atom_names.AtomName.{AtomName}
use Rattle.script_format.specs.Tuples.{atom_behind, joined, atoms_behind}
use Rattle.script_format.proofs.UniqueScripts.{texts}
use Rattle.script_format.proofs.tuples.atoms_behind.Goals as goal

-- what a list is said to have beyond its end
abbrev none : Bor (List ℕ)
none = record { ref_ptr = (0, 0); now = [] }

-- these atoms, and those that the parts say
abbrev with_parts : List AtomName → List (List ℕ) → Option (List AtomName)
with_parts before parts = option_map (λ atoms. before ++ atoms) (atoms_behind parts)

with_one : (before : List AtomName) (atom : AtomName) (rest : Option (List AtomName)) → option_map (λ atoms. before ++ atoms) (joined (Some atom) rest) ≡ option_map (λ atoms. (before ++ atom ∷ []) ++ atoms) rest
with_one before atom None = refl
with_one before atom (Some atoms) = ap (λ (names : List AtomName). Some names) (sym (append_assoc before (atom ∷ []) atoms))

-- what the parts from a place on say is what is joined of the part there and of those behind it
at_place : (xs : List (Bor (List ℕ))) (i : ℕ) (d : Bor (List ℕ)) (before : List AtomName) (here : Option AtomName) → i < length xs → here ≡ atom_behind (get_or xs i d).now →
    with_parts before (texts (drop i xs)) ≡ option_map (λ atoms. before ++ atoms) (joined here (atoms_behind (texts (drop (i + 1) xs))))
at_place xs i d before here l is =
    ap (λ (ys : List (Bor (List ℕ))). with_parts before (texts ys)) (drop_more xs i d l) ∙
    ap (λ (o : Option AtomName). option_map (λ atoms. before ++ atoms) (joined o (atoms_behind (texts (drop (i + 1) xs))))) (sym is)

turn : (xs : List (Bor (List ℕ))) (i : ℕ) (d : Bor (List ℕ)) (before : List AtomName) (atom : AtomName) → i < length xs → Some atom ≡ atom_behind (get_or xs i d).now →
    with_parts before (texts (drop i xs)) ≡ with_parts (before ++ atom ∷ []) (texts (drop (i + 1) xs))
turn xs i d before atom l is = at_place xs i d before (Some atom) l is ∙ with_one before atom (atoms_behind (texts (drop (i + 1) xs)))

all_read : (xs : List (Bor (List ℕ))) (i : ℕ) (names : List AtomName) → length xs ≤ i → with_parts names (texts (drop i xs)) ≡ Some names
all_read xs i names l =
    at_drop_all (λ (ys : List (Bor (List ℕ))). with_parts names (texts ys)) xs i l ∙ ap (λ (ns : List AtomName). Some ns) (append-nil names)

pub loop-other-init : goal.loop-other-init
loop-other-init c =
    let one : c.push.new.self.items ≡ c.args.first ∷ [] = c.in_ok-push.ensures.items ∙ ap (λ (ns : List AtomName). ns ++ c.args.first ∷ []) c.new-names.ensures.items in
    ap (λ (ns : List AtomName). with_parts ns (texts c.args.others.now)) one

pub loop-other-preserved : goal.loop-other-preserved
loop-other-preserved c =
    let xs = c.args.others.now in
    let i = c.loop-other.other-index in
    let here = sym c.in-Some.is ∙ c.in_ok-atom.ensures in
    ap (λ (ns : List AtomName). with_parts ns (texts (drop (i + 1) xs))) c.in_ok-push-2.ensures.items ∙
    sym (turn xs i none c.loop-other.names.items c.in-Some.atom c.loop-other-test.true here) ∙ c.loop-other.invariant

pub returns-in_default : goal.returns-in_default
returns-in_default c =
    let here = sym c.in_default.is ∙ c.in_ok-atom.ensures in
    sym (at_place c.args.others.now c.loop-other.other-index none c.loop-other.names.items None c.loop-other-test.true here) ∙ c.loop-other.invariant

pub returns : goal.returns
returns c =
    let xs = c.args.others.now in
    ap (λ (ns : List AtomName). Some ns) c.of.ensures ∙ sym (all_read xs c.loop-other.other-index c.loop-other.names.items c.loop-other-test.false) ∙ c.loop-other.invariant
