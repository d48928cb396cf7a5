use Rattle.std.proofs.Common.{◌<◌, ◌≤◌, ◌+◌, ◌*◌, length, take, List, ℕ, Bool, ap, sym, ◌∙◌, subst, arith}
use Rattle.tuple_core.specs.declared.atom.Atom.{Atom}
use Rattle.tuple_core.specs.Operators.{Pred, BeginsWith, IsFirstIn}
use Rattle.tuple_core.specs.Gains.{Same, SomeGives}
use Rattle.tuple_core.proofs.Congruence.{same_itself}
use Rattle.bool_circuit.specs.Network.{size}
use Rattle.bool_circuit.proofs.CallerLemmas.{Extends-trans}
use Rattle.bool_circuit.proofs.Values.{Extends-refl}
use Rattle.bool_matrix.specs.declared.entry.Entry.{Entry}
use Rattle.bool_matrix.specs.Cells.{Cells, IsOf, AtEntry, TrueAt, TrueIn, MatrixGains}
use Rattle.bool_matrix.proofs.Loops.{of_kept, node_kept, matrix_later, matrix_none, entry_fits, matrix_more, matrix_all, matrix_same, matrix_kept, matrix_around, entry_of, entries_same, kept_true, fits_tuple}
use Rattle.bool_matrix.proofs.Nodes.{true_unless_kept, true_at_kept}
use Rattle.bool_matrix.proofs.Keys.{first_found}
use Rattle.bool_matrix.proofs.matrix.Matrix.overridden.Goals as goal

-- the room is enough for the first atoms
room_firsts : (start own others : ℕ) {most : ℕ} → start + 16 * (own + 2 * others) < most → start + others < most
room_firsts start own others room = omega arith

size_start : (start others now : ℕ) → now ≤ start + others → now ≤ start + others + 3 * 0
size_start start others now made = omega arith

-- and for one entry more
room_next : (start now own others i : ℕ) {most : ℕ} → i < own → now ≤ start + others + 3 * i → start + 16 * (own + 2 * others) < most → now + 2 < most
room_next start now own others i within made room = omega arith

size_all : (start now own others i : ℕ) → i ≤ own → now ≤ start + others + 3 * i → now ≤ start + 16 * (own + 2 * others)
size_all start now own others i within made = omega arith

pub firsts-requires : goal.firsts-requires
firsts-requires c = record {
  of = c.requires.of_other;
  room = room_firsts (size c.args.circuit.now) (length c.args.self.now.entries) (length c.args.other.now.entries) c.requires.room;
}

pub loop-entry-init : goal.loop-entry-init
loop-entry-init c =
    let old = c.args.circuit.now in
    let v = c.firsts.new.circuit in
    let other = c.args.other.now in
    let out = c.in_ok-out.out in
    let xs : List Entry = c.entries-entry-items.result.now in
    let R : (ℕ → Bool) → Entry → Pred = λ inputs e t. TrueAt old inputs e t × ((x : Atom) → BeginsWith x e.tuple → IsFirstIn (TrueIn old other inputs) x → ⊥) in
    let of : IsOf old out = subst (λ (m : Cells). IsOf old m) (sym c.in_ok-out.ensures) c.requires.of_other in
    let extends = c.firsts.ensures.extends in
    record {
      extends = extends;
      gains = matrix_later old v out extends of v out (λ s. SomeGives (take 0 xs) (R s)) (SomeGives (take 0 xs) AtEntry) (matrix_none xs R AtEntry v out (of_kept old v out extends of));
      firsts = Extends-refl v;
      size = size_start (size old) (length other.entries) (size v) c.in_ok-firsts.ensures.size;
    }

pub add_unless-requires : goal.add_unless-requires
add_unless-requires c =
    let old = c.args.circuit.now in
    let self = c.args.self.now in
    let v = c.firsts.new.circuit in
    let w = c.loop-entry.circuit in
    let inv = c.loop-entry.invariant in
    let x = c.entry-item.result in
    let i = c.loop-entry.entry-index in
    let xs : List Entry = c.entries-entry-items.result.now in
    let same = c.entries-entry-items.ensures.value in
    let l = c.loop-entry-test.true in
    let within : i < length self.entries = subst (λ (es : List Entry). i < length es) same l in
    record {
      arity = entry_fits self xs i x same c.entries-entry-items.ensures.well l c.entry-item.is ∙ c.requires.left ∙ sym (inv.gains.arity ∙ ap (λ (m : Cells). m.arity) c.in_ok-out.ensures ∙ c.requires.right);
      node = node_kept old w x.node inv.extends (entry_of old self xs i x same c.requires.of l c.entry-item.is);
      of = inv.gains.of;
      of_filter = of_kept v w c.in_ok-firsts.firsts inv.firsts c.in_ok-firsts.ensures.is.of;
      room = room_next (size old) (size w) (length self.entries) (length c.args.other.now.entries) i within inv.size c.requires.room;
    }

pub returns-in_err-firsts-clause-extends : goal.returns-in_err-firsts-clause-extends
returns-in_err-firsts-clause-extends c = c.firsts.ensures.extends

pub returns-in_err-out-clause-extends : goal.returns-in_err-out-clause-extends
returns-in_err-out-clause-extends c = c.firsts.ensures.extends

pub returns-in_err-add_unless-clause-extends : goal.returns-in_err-add_unless-clause-extends
returns-in_err-add_unless-clause-extends c = Extends-trans c.args.circuit.now c.loop-entry.circuit c.add_unless.new.circuit c.loop-entry.invariant.extends c.add_unless.ensures.extends

pub returns-clause-extends : goal.returns-clause-extends
returns-clause-extends c = c.loop-entry.invariant.extends

pub returns-clause-size : goal.returns-clause-size
returns-clause-size c =
    let self = c.args.self.now in
    let i = c.loop-entry.entry-index in
    let within : i ≤ length self.entries = subst (λ (es : List Entry). i ≤ length es) c.entries-entry-items.ensures.value c.loop-entry.auto.entry-index-end in
    size_all (size c.args.circuit.now) (size c.loop-entry.circuit) (length self.entries) (length c.args.other.now.entries) i within c.loop-entry.invariant.size

pub loop-entry-preserved : goal.loop-entry-preserved
loop-entry-preserved c =
    let old = c.args.circuit.now in
    let v = c.firsts.new.circuit in
    let w = c.loop-entry.circuit in
    let x = c.entry-item.result in
    let xs : List Entry = c.entries-entry-items.result.now in
    let F = c.in_ok-firsts.firsts in
    let b = entry_of old c.args.self.now xs c.loop-entry.entry-index x c.entries-entry-items.ensures.value c.requires.of c.loop-entry-test.true c.entry-item.is in
    let b' : x.node < length v.shapes = omega (arith, c.firsts.ensures.extends.longer) in
    let found = λ (s : ℕ → Bool). first_found (TrueIn v F s) (TrueIn old c.args.other.now s) c.first.result x.tuple c.single.result c.first.ensures c.single.ensures (c.in_ok-firsts.ensures.is.value s) in
    let kept : (s : ℕ → Bool) → Same (λ t. TrueAt w s x t × (TrueIn w F s c.single.result → ⊥)) (λ t. TrueAt old s x t × ((y : Atom) → BeginsWith y x.tuple → IsFirstIn (TrueIn old c.args.other.now s) y → ⊥)) = λ s.
    let one = true_unless_kept v w c.loop-entry.invariant.firsts s x F c.single.result b' c.in_ok-firsts.ensures.is.of in
    let two = true_at_kept old v c.firsts.ensures.extends s x b in
    record { to = λ t h. let g = one.to t h in (two.to t g.0, (found s).0 g.1); back = λ t h. one.back t (two.back t h.0, (found s).1 h.1) } in
    record {
      extends = Extends-trans old w c.add_unless.new.circuit c.loop-entry.invariant.extends c.add_unless.ensures.extends;
      gains = matrix_more xs (λ inputs e t. TrueAt old inputs e t × ((x : Atom) → BeginsWith x e.tuple → IsFirstIn (TrueIn old c.args.other.now inputs) x → ⊥)) AtEntry c.loop-entry.entry-index x old w c.add_unless.new.circuit c.in_ok-out.out c.loop-entry.out c.add_unless.new.self c.loop-entry-test.true c.entry-item.is c.loop-entry.invariant.gains
          (matrix_same kept (same_itself _) c.in_ok-add_unless.ensures.gains);
      firsts = Extends-trans v w c.add_unless.new.circuit c.loop-entry.invariant.firsts c.add_unless.ensures.extends;
      size = omega (arith, c.loop-entry.invariant.size, c.in_ok-add_unless.ensures.size);
    }

pub returns-clause-is : goal.returns-clause-is
returns-clause-is c =
    let old = c.args.circuit.now in
    let other = c.args.other.now in
    let xs : List Entry = c.entries-entry-items.result.now in
    let g = matrix_all xs (λ inputs e t. TrueAt old inputs e t × ((x : Atom) → BeginsWith x e.tuple → IsFirstIn (TrueIn old other inputs) x → ⊥)) AtEntry c.loop-entry.entry-index old c.loop-entry.circuit c.in_ok-out.out c.loop-entry.out (omega arith) c.loop-entry.invariant.gains in
    matrix_around (matrix_kept old c.loop-entry.circuit other c.loop-entry.out 2 _ _ _ _ c.requires.right
    (subst (λ (m : Cells). MatrixGains old c.loop-entry.circuit m c.loop-entry.out (λ inputs. SomeGives xs (λ e t. TrueAt old inputs e t × ((x : Atom) → BeginsWith x e.tuple → IsFirstIn (TrueIn old other inputs) x → ⊥))) (SomeGives xs AtEntry)) c.in_ok-out.ensures g)
    (λ s. kept_true old c.args.self.now s xs (λ e. (x : Atom) → BeginsWith x e.tuple → IsFirstIn (TrueIn old other s) x → ⊥) (λ t. (x : Atom) → BeginsWith x t → IsFirstIn (TrueIn old other s) x → ⊥) c.entries-entry-items.ensures.value (λ e t h. fits_tuple (λ t. (x : Atom) → BeginsWith x t → IsFirstIn (TrueIn old other s) x → ⊥) e t h))
    (entries_same AtEntry c.entries-entry-items.ensures.value))
