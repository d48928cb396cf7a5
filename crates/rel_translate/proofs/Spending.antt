-- What is spent, part by part, and the room that is left.
use Rattle.std.proofs.Common.{ℕ, ◌+◌, ◌*◌, ◌≤◌, ◌<◌, arith}
use Rattle.bool_circuit.specs.Network.{Network, size}
use Rattle.bool_circuit.specs.Value.{Extends}
use Rattle.bool_circuit.proofs.CallerLemmas.{Extends-trans}
use Rattle.rel_terms.specs.Numbers.{Number, ◌⊕◌}
use Rattle.rel_translate.specs.Makes.{HasRoomFor, Spends}

-- each number that has the fact is at least this one
abbrev pub IsAtMost : ℕ → Number → Type 0
IsAtMost own D = (n : ℕ) → D n → own ≤ n

pub spends_both : {a b c : Network} {C D : Number} → Spends a b C → Spends b c D → Spends a c (C ⊕ D)
spends_both {a} {b} {c} f g = record {
  extends = Extends-trans a b c f.extends g.extends;
  most = λ n h. let l = f.most h.0 h.2 in let r = g.most h.1 h.3 in let e = h.4 in omega arith;
}

pub spends_own : {a b c : Network} {C : Number} (D : Number) (own : ℕ) → Spends a b C → Extends b c → size c ≤ size b + 16 * own → IsAtMost own D → Spends a c (C ⊕ D)
spends_own {a} {b} {c} D own f extends most bound = record {
  extends = Extends-trans a b c f.extends extends;
  most = λ n h. let l = f.most h.0 h.2 in let r = bound h.1 h.3 in let e = h.4 in omega arith;
}

pub spends_same : {a b : Network} {C D : Number} → ((n : ℕ) → D n → C n) → Spends a b C → Spends a b D
spends_same to f = record { extends = f.extends; most = λ n d. f.most n (to n d) }

pub room_same : (used : ℕ) (C D : Number) → ((n : ℕ) → C n → D n) → HasRoomFor used C → HasRoomFor used D
room_same used C D to h = (h.0, to h.0 h.1, h.2)

-- with room for some nodes more there is room for those that are there
pub room_now : (used n : ℕ) → used + 16 * n < 1073741823 → used < 1073741823
room_now used n room = omega arith

pub room_before : (start used n : ℕ) → used ≤ start → start + 16 * n < 1073741823 → used < 1073741823
room_before start used n few room = omega arith

pub room_left : (used : ℕ) (C D : Number) → HasRoomFor used (C ⊕ D) → HasRoomFor used C
room_left used C D h = (h.1.0, h.1.2, (let e = h.1.4 in let l = h.2 in omega arith))

pub room_right : {a b : Network} {C : Number} (D : Number) → HasRoomFor (size a) (C ⊕ D) → Spends a b C → HasRoomFor (size b) D
room_right D h f = (h.1.1, h.1.3, (let e = h.1.4 in let l = h.2 in let m = f.most h.1.0 h.1.2 in omega arith))

pub room_own : {a b : Network} {C : Number} (D : Number) (own : ℕ) → HasRoomFor (size a) (C ⊕ D) → Spends a b C → IsAtMost own D → size b + 16 * own < 1073741823
room_own D own h f bound = let r = room_right D h f in let l = bound r.0 r.1 in let m = r.2 in omega arith
