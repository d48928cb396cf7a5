use Rattle.std.proofs.Common.{◌≡◌, ℕ, Bool, false, ◌<◌, ◌≤◌, ◌+◌, ◌-◌, ◌*◌, All, List, length, take, replicate, cond, count_by, slice_index, IsTrue, sym, ap, ◌∙◌, subst, arith}
use Rattle.std.proofs.Math.Nat.{mul-le-mul_right}
use Rattle.std.proofs.lemmas.List.{take_all, get_or_default, length-replicate, get_or-replicate}
use Rattle.std.proofs.lemmas.List.Sums.{count_by-le-length}
use Rattle.bool_circuit.specs.Network.{Network, size}
use Rattle.bool_circuit.specs.Value.{value_at, Stands}
use Rattle.bool_circuit.proofs.CallerLemmas.{Extends-trans}
use Rattle.bool_matrix.specs.declared.entry.Entry.{Entry}
use Rattle.bool_matrix.specs.Cells.{TrueIn}
use Rattle.bool_matrix.specs.Counter.{Counts, HasAtLeast}
use Rattle.bool_matrix.proofs.Loops.{node_kept, entry_of}
use Rattle.bool_matrix.proofs.Nodes.{from_stands}
use Rattle.bool_matrix.proofs.Terms.{sum_step}
use Rattle.bool_matrix.proofs.TrueEntries.{at_least_count, counts_same}
use Rattle.bool_matrix.proofs.matrix.Matrix.many.Goals as goal

-- the room for all entries is room for a constant
room_start : (old : Network) (k : ℕ) {most : ℕ} → size old + 16 * k < most → length old.shapes < most
room_start old k room = omega arith

-- and for one entry more
room_next : (start now i long n row : ℕ) {most : ℕ} → i < long → row ≡ n → now ≤ start + i * (2 * n) → start + 16 * (long * (n + 1)) < most → now + 2 * row < most
room_next start now i long n row within same made room =
    let some : (i + 1) * n ≤ long * n = mul-le-mul_right n (omega arith) in
    omega arith

-- a row of constants that are false
row_there : (most none n : ℕ) (row : List ℕ) → row ≡ replicate n none → none < most → All (λ k. k < most) row
row_there most none n row items below = subst (λ (ns : List ℕ). All (λ k. k < most) ns) (sym items) (λ k d l.
    let within : k < n = omega (arith, l, length-replicate n none) in
    subst (λ m. m < most) (sym (get_or-replicate n k none d within)) below)

row_counts : (network : Network) (none n : ℕ) (row : List ℕ) → row ≡ replicate n none → Stands network none (λ _. false) → Counts network row (λ _. 0)
row_counts network none n row items stands = subst (λ (ns : List ℕ). Counts network ns (λ _. 0)) (sym items) (λ i s l.
    let within : i < n = omega (arith, l, length-replicate n none) in
    let no : value_at network (slice_index (replicate n none) i) s ≡ false = ap (λ k. value_at network k s) (get_or-replicate n i none 0 within) ∙ stands.value s in
    (λ h. absurd (cc), λ h. absurd (omega arith)))

size_start : (start now n : ℕ) → now ≡ start → now ≤ start + 0 * (2 * n)
size_start start now n same = omega arith

size_none : (start now k : ℕ) → now ≡ start → now ≤ start + 2 * k
size_none start now k same = omega arith

size_all : (start now i long n : ℕ) → i ≤ long → now ≤ start + i * (2 * n) → now ≤ start + 2 * (long * n)
size_all start now i long n most made =
    let some : i * n ≤ long * n = mul-le-mul_right n most in
    omega arith

pub constant-requires : goal.constant-requires
constant-requires c = room_start c.args.circuit.now (length c.args.self.now.entries * (c.args.n + 1)) c.requires.room

pub constant-requires-2 : goal.constant-requires-2
constant-requires-2 c = room_start c.args.circuit.now (length c.args.self.now.entries * (c.args.n + 1)) c.requires.room

pub counted-requires : goal.counted-requires
counted-requires c =
    let old = c.args.circuit.now in
    let w = c.loop-entry.circuit in
    let x = c.entry-item.result in
    let i = c.loop-entry.entry-index in
    let self = c.args.self.now in
    let xs : List Entry = c.entries-entries.result.now in
    let same = c.entries-entries.ensures.value in
    let inv = c.loop-entry.invariant in
    let row = c.deref.ensures.value in
    let l = c.loop-entry-test.true in
    let within : i < length self.entries = subst (λ (es : List Entry). i < length es) same l in
    record {
      row = subst (λ (ns : List ℕ). All (λ k. k < length w.shapes) ns) (sym row) inv.there;
      more = node_kept old w x.node inv.extends (entry_of old self xs i x same c.requires.of l c.entry-item.is);
      room = room_next (size old) (size w) i (length self.entries) c.args.n (length c.deref.result.now) within (ap (λ (ns : List ℕ). length ns) row ∙ inv.len) inv.size c.requires.room;
    }

pub loop-entry-init : goal.loop-entry-init
loop-entry-init c =
    let old = c.args.circuit.now in
    let new = c.constant-2.new.self in
    let n = c.args.n in
    let none = c.in_ok-none.none in
    let items : c.in_ok-row.row.items ≡ replicate n none = c.in_ok-row.ensures.items_if_clones_equal (λ y same. same) in
    record {
      extends = c.constant-2.ensures.extends;
      len = ap (λ (ns : List ℕ). length ns) items ∙ length-replicate n none;
      there = row_there (length new.shapes) none n c.in_ok-row.row.items items c.in_ok-none.ensures.value.there;
      counts = row_counts new none n c.in_ok-row.row.items items c.in_ok-none.ensures.value;
      size = size_start (size old) (size new) n c.constant-2.ensures.size;
    }

pub returns-then-n-entries-clause-extends : goal.returns-then-n-entries-clause-extends
returns-then-n-entries-clause-extends c = c.constant-2.ensures.extends

pub returns-then-n-entries-clause-size : goal.returns-then-n-entries-clause-size
returns-then-n-entries-clause-size c = size_none (size c.args.circuit.now) (size c.constant-2.new.self) (length c.args.self.now.entries * c.args.n) c.constant-2.ensures.size

pub returns-clause-extends : goal.returns-clause-extends
returns-clause-extends c = c.loop-entry.invariant.extends

pub returns-clause-size : goal.returns-clause-size
returns-clause-size c =
    let self = c.args.self.now in
    let i = c.loop-entry.entry-index in
    let most : i ≤ length self.entries = subst (λ (es : List Entry). i ≤ length es) c.entries-entries.ensures.value c.loop-entry.auto.entry-index-end in
    size_all (size c.args.circuit.now) (size c.loop-entry.circuit) i (length self.entries) c.args.n most c.loop-entry.invariant.size

pub returns-in_err-always-clause-extends : goal.returns-in_err-always-clause-extends
returns-in_err-always-clause-extends c = c.constant.ensures.extends

pub returns-in_err-none-clause-extends : goal.returns-in_err-none-clause-extends
returns-in_err-none-clause-extends c = c.constant-2.ensures.extends

pub returns-in_err-row-clause-extends : goal.returns-in_err-row-clause-extends
returns-in_err-row-clause-extends c = c.constant-2.ensures.extends

pub returns-in_err-row-2-clause-extends : goal.returns-in_err-row-2-clause-extends
returns-in_err-row-2-clause-extends c = Extends-trans c.args.circuit.now c.loop-entry.circuit c.counted.new.circuit c.loop-entry.invariant.extends c.counted.ensures.extends

pub returns-then-n-entries-clause-says : goal.returns-then-n-entries-clause-says
returns-then-n-entries-clause-says c =
    let old = c.args.circuit.now in
    let m = c.args.self.now in
    from_stands c.constant-2.new.self c.in_ok-none.none (λ _. false) (λ s. HasAtLeast c.args.n (TrueIn old m s)) c.in_ok-none.ensures.value (λ s. (
      λ h. absurd (cc),
      λ h.
          let most = (at_least_count old m s c.args.n c.entries-entries.ensures.well.ascending).1 h in
          let few = count_by-le-length (λ (e : Entry). value_at old e.node s) m.entries in
          let same = ap (λ (es : List Entry). length es) c.entries-entries.ensures.value in
          absurd (omega (arith, most, few, same, c.if-n-entries.true)),
    ))

pub loop-entry-preserved : goal.loop-entry-preserved
loop-entry-preserved c =
    let old = c.args.circuit.now in
    let w = c.loop-entry.circuit in
    let x = c.entry-item.result in
    let i = c.loop-entry.entry-index in
    let xs : List Entry = c.entries-entries.result.now in
    let inv = c.loop-entry.invariant in
    let row = c.deref.ensures.value in
    let b = entry_of old c.args.self.now xs i x c.entries-entries.ensures.value c.requires.of c.loop-entry-test.true c.entry-item.is in
    let count : (ℕ → Bool) → ℕ = λ s. count_by (λ e. value_at old e.node s) (take i xs) in
    record {
      extends = Extends-trans old w c.counted.new.circuit inv.extends c.counted.ensures.extends;
      len = c.in_ok-row-2.ensures.len ∙ ap (λ (ns : List ℕ). length ns) row ∙ inv.len;
      there = c.in_ok-row-2.ensures.there;
      counts = counts_same c.counted.new.circuit c.in_ok-row-2.row.items _ _ (λ s.
          ap (λ b. count s + cond b 1 0) (inv.extends.same x.node s b)
          ∙ sym (sum_step (λ (e : Entry). cond (value_at old e.node s) 1 0) xs i x c.loop-entry-test.true c.entry-item.is).0)
          (c.in_ok-row-2.ensures.counts count (subst (λ ns. Counts w ns count) (sym row) inv.counts));
      size =
          let long = ap (λ (ns : List ℕ). length ns) row ∙ inv.len in
          omega (arith, inv.size, c.in_ok-row-2.ensures.size, long);
    }

pub returns-clause-says : goal.returns-clause-says
returns-clause-says c =
    let old = c.args.circuit.now in
    let m = c.args.self.now in
    let w = c.loop-entry.circuit in
    let xs : List Entry = c.entries-entries.result.now in
    let inv = c.loop-entry.invariant in
    let n = c.args.n in
    let within : n - 1 < length c.loop-entry.row.items = omega (arith, inv.len, c.if-n-eq0.false) in
    let is : c.index.result.now ≡ slice_index c.loop-entry.row.items (n - 1) = c.index.ensures ∙ get_or_default c.loop-entry.row.items (n - 1) c.index.result.now 0 within in
    let all : take c.loop-entry.entry-index xs ≡ m.entries = take_all c.loop-entry.entry-index xs c.loop-entry-test.false ∙ c.entries-entries.ensures.value in
    record {
      there = subst (λ k. k < length w.shapes) (sym is) (inv.there (n - 1) 0 within);
      value = λ s.
          let at = subst (λ k. (IsTrue (value_at w k s) → n - 1 < count_by (λ e. value_at old e.node s) m.entries) × (n - 1 < count_by (λ e. value_at old e.node s) m.entries → IsTrue (value_at w k s))) (sym is)
          (subst (λ es. (IsTrue (value_at w (slice_index c.loop-entry.row.items (n - 1)) s) → n - 1 < count_by (λ (e : Entry). value_at old e.node s) es) × (n - 1 < count_by (λ (e : Entry). value_at old e.node s) es → IsTrue (value_at w (slice_index c.loop-entry.row.items (n - 1)) s))) all (inv.counts (n - 1) s within)) in
          let many = at_least_count old m s n c.entries-entries.ensures.well.ascending in
          (λ h. many.0 (let l = at.0 h in omega (arith, l, c.if-n-eq0.false)), λ h. at.1 (let l = many.1 h in omega (arith, l, c.if-n-eq0.false)));
    }
