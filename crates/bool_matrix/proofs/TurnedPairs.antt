-- Pairs turned round, and the atoms that begin the tuples of a list.
use Rattle.std.proofs.Common.{◌≡◌, ℕ, ◌+◌, ◌<◌, Bool, List, [], ◌∷◌, ◌++◌, length, take, get_or, Contains, IsTrue, sym, ap, ◌∙◌, subst, arith, length-append}
use Rattle.std.specs.declared.cmp.Ordering.TheVariants.{Less, Equal}
use Rattle.std.proofs.lemmas.Cmp.{tied_itself}
use Rattle.std.proofs.lemmas.List.{get_or_default, get_or-take, length-take}
use Rattle.std.proofs.lemmas.List.Elements.{Contains-push, Contains-append_left}
use Rattle.tuple_core.specs.declared.atom.Atom.{Atom}
use Rattle.tuple_core.specs.Operators.{Transposed, BeginsWith}
use Rattle.tuple_core.specs.Order.{tuple_cmp}
use Rattle.tuple_core.specs.Gains.{Same, SomeGives}
use Rattle.tuple_core.proofs.Ascending.{tuple_order}
use Rattle.tuple_core.proofs.Atoms.{same_first}
use Rattle.tuple_core.proofs.Steps.{TurnsTo}
use Rattle.bool_circuit.specs.Network.{Network}
use Rattle.bool_circuit.specs.Value.{value_at}
use Rattle.bool_matrix.specs.declared.entry.Entry.{Entry}
use Rattle.bool_matrix.specs.Entries.{IsAscending}
use Rattle.bool_matrix.specs.Cells.{Cells, ThereIn, TrueIn}
use Rattle.bool_matrix.specs.Closure.{HasFewAtoms}
use Rattle.bool_matrix.proofs.ComparedEntries.{Each, each_more}

-- no earlier entry has the tuple of a later one
pub not_before : (xs : List Entry) (i : ℕ) (x : Entry) → IsAscending xs → i < length xs → x ≡ get_or xs i x → (e : Entry) → Contains (take i xs) e → e.tuple ≡ x.tuple → ⊥
not_before xs i x up l at e c same =
    let lt : c.0 < i = (let b = c.1 in let n = length-take i xs in omega arith) in
    let at_e : get_or xs c.0 e ≡ e = sym (get_or-take i xs c.0 e lt) ∙ c.2 in
    let at_x : get_or xs i e ≡ x = get_or_default xs i e x l ∙ sym at in
    let less : tuple_cmp (get_or xs c.0 e).tuple (get_or xs i e).tuple ≡ Less = up c.0 i e lt l in
    let less' : tuple_cmp e.tuple (get_or xs i e).tuple ≡ Less = subst (λ (y : Entry). tuple_cmp y.tuple (get_or xs i e).tuple ≡ Less) at_e less in
    let itself' : tuple_cmp e.tuple e.tuple ≡ Less = subst (λ (t : List Atom). tuple_cmp e.tuple t ≡ Less) (ap (λ (y : Entry). y.tuple) at_x ∙ sym same) less' in
    let itself : tuple_cmp e.tuple e.tuple ≡ Equal = tied_itself tuple_order e.tuple in
    cc

-- one pair turns to it
pub turned_from : (s t q : List Atom) → TurnsTo s q → TurnsTo t q → s ≡ t
turned_from s t q a b =
    let e : a.1 ∷ a.0 ∷ [] ≡ b.1 ∷ b.0 ∷ [] = sym a.3 ∙ b.3 in
    let first : a.1 ≡ b.1 = cc in
    let second : a.0 ≡ b.0 = cc in
    a.2 ∙ ap (λ x. x ∷ a.1 ∷ []) second ∙ ap (λ y. b.0 ∷ y ∷ []) first ∙ sym b.2

pub turned_true : (w : Network) (m : Cells) (inputs : ℕ → Bool) (xs : List Entry) → xs ≡ m.entries → Same (SomeGives xs (λ e t. TurnsTo e.tuple t × IsTrue (value_at w e.node inputs))) (Transposed (TrueIn w m inputs))
turned_true w m s xs e = record {
  to = λ t g. (g.2.0.0, g.2.0.1, (g.0, subst (λ zs. Contains zs g.0) e g.1, (sym g.2.0.2, g.2.1)), g.2.0.3);
  back = λ t p. (p.2.0, subst (λ zs. Contains zs p.2.0) (sym e) p.2.1, ((p.0, p.1, sym p.2.2.0, p.3), p.2.2.1));
}

pub turned_there : (m : Cells) (xs : List Entry) → xs ≡ m.entries → Same (SomeGives xs (λ e. TurnsTo e.tuple)) (Transposed (ThereIn m))
turned_there m xs e = record {
  to = λ t g. (g.2.0, g.2.1, (g.0, subst (λ zs. Contains zs g.0) e g.1, sym g.2.2), g.2.3);
  back = λ t p. (p.2.0, subst (λ zs. Contains zs p.2.0) (sym e) p.2.1, (p.0, p.1, sym p.2.2, p.3));
}

-- n atoms begin the tuples of the entries, and the last of them is this one
abbrev pub Begun : List Entry → ℕ → Atom → Type 0
Begun es n last = (atoms : List Atom) × (length atoms ≡ n) × Each es (λ e. (x : Atom) → BeginsWith x e.tuple → Contains atoms x) × (0 < n → Contains atoms last)

pub begun_new : (xs : List Entry) (i : ℕ) (x : Entry) (n m : ℕ) (last f : Atom) → i < length xs → x ≡ get_or xs i x → BeginsWith f x.tuple → m ≡ n + 1 → Begun (take i xs) n last → Begun (take (i + 1) xs) m f
begun_new xs i x n m last f l at begins next b =
    let atoms = b.0 ++ f ∷ [] in
    let here : Contains atoms f = Contains-push b.0 f in (
      atoms,
      (let n = length-append b.0 (f ∷ []) in let e = b.1 in omega arith),
      (each_more xs i x (λ e. (y : Atom) → BeginsWith y e.tuple → Contains atoms y) l at).0 (
        λ e c y h. Contains-append_left b.0 (f ∷ []) y (b.2 e c y h),
        λ y h. subst (Contains atoms) (same_first f y begins.0 h.0 (sym begins.1 ∙ h.1)) here,
      ),
      λ _. here,
    )

pub begun_old : (xs : List Entry) (i : ℕ) (x : Entry) (n : ℕ) (last f : Atom) → i < length xs → x ≡ get_or xs i x → BeginsWith f x.tuple → f ≡ last → 0 < n → Begun (take i xs) n last → Begun (take (i + 1) xs) n f
begun_old xs i x n last f l at begins same some b =
    let here : Contains b.0 f = subst (Contains b.0) (sym same) (b.3 some) in (
      b.0,
      b.1,
      (each_more xs i x (λ e. (y : Atom) → BeginsWith y e.tuple → Contains b.0 y) l at).0 (
        b.2,
        λ y h. subst (Contains b.0) (same_first f y begins.0 h.0 (sym begins.1 ∙ h.1)) here,
      ),
      λ _. here,
    )

pub begun_few : (m : Cells) (xs : List Entry) (n : ℕ) (last : Atom) → xs ≡ m.entries → Begun xs n last → HasFewAtoms n (ThereIn m)
begun_few m xs n last e b = (b.0, (let l = b.1 in omega arith), λ x y g. b.2 g.0 (subst (λ zs. Contains zs g.0) (sym e) g.1) x (y ∷ [], sym g.2))
