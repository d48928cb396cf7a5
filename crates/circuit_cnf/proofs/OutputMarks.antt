-- How marks come to stand at what the output rests on.
use Rattle.std.proofs.Common.{ap, take, drop, ◌++◌, ◌≡◌, ◌+◌, ◌↔◌, ◌⊎◌, ◌<◌, ◌≤◌, ℕ, Bool, List, [], ◌∷◌, length, IsTrue, inl, inr, refl, sym, subst, arith, ◌∙◌}
use Rattle.std.proofs.Math.Seq.{take-append_seam}
use Rattle.std.proofs.lemmas.Bool.{cases_lt}
use Rattle.bool_circuit.specs.declared.shape.Shape.{Shape}
use Rattle.bool_circuit.specs.declared.shape.Shape.TheVariants.{Constant, Input, And, Or, Not}
use Rattle.bool_circuit.specs.Network.{Network, Has, ReadsBelow}
use Rattle.bool_circuit.specs.Value.{place}
use Rattle.circuit_cnf.specs.Resting.{Reads, IsPath, RestsOn}
use Rattle.circuit_cnf.specs.Encoding.{AreMarks}

-- the marked nodes from this place on have passed their marks on
pub record HasPassed (network : Network) (node from : ℕ) (marks : List Bool) : Type 0 where
  pub count : length marks ≡ length network.shapes
  pub output : IsTrue (place marks node)
  pub sound : (m : ℕ) → IsTrue (place marks m) → RestsOn network node m
  pub passed : (m : ℕ) → from ≤ m → IsTrue (place marks m) → (shape : Shape) → Has network m shape → (r : ℕ) → Reads shape r → IsTrue (place marks r)

-- what is read stands before
pub reads_before : (shape : Shape) (inputs n m : ℕ) → ReadsBelow inputs n shape → Reads shape m → m < n
reads_before (Constant b) inputs n m before h = absurd h
reads_before (Input i) inputs n m before h = absurd h
reads_before (And a b) inputs n m before (inl h) = omega (arith, h, before.0)
reads_before (And a b) inputs n m before (inr h) = omega (arith, h, before.1)
reads_before (Or a b) inputs n m before (inl h) = omega (arith, h, before.0)
reads_before (Or a b) inputs n m before (inr h) = omega (arith, h, before.1)
reads_before (Not a) inputs n m before h = omega (arith, h, before)

path_push : (network : Network) (path : List ℕ) (n m r : ℕ) (shape : Shape) → IsPath network n path m → Has network m shape → Reads shape r → RestsOn network n r
path_push network [] n m r shape is has reads = (r ∷ [], (shape, subst (λ k. Has network k shape) (sym is) has, reads, refl))
path_push network (k ∷ path) n m r shape is has reads =
    let next : RestsOn network k r = path_push network path k m r shape is.3 has reads in
    (k ∷ next.0, (is.0, is.1, is.2, next.1))

-- what rests on a node rests on what that node reads
pub rests_further : (network : Network) (n m r : ℕ) (shape : Shape) → RestsOn network n m → Has network m shape → Reads shape r → RestsOn network n r
rests_further network n m r shape (path, is) has reads = path_push network path n m r shape is has reads

same_shape : (network : Network) (m : ℕ) (s t : Shape) → Has network m s → Has network m t → s ≡ t
same_shape network m s t p q = cc

-- one node more
pub passes_on : (network : Network) (node i : ℕ) (inputs : ℕ) (shape : Shape) (old new : List Bool) → Has network i shape → ReadsBelow inputs i shape →
    length new ≡ length old → ((m : ℕ) → IsTrue (place new m) ↔ (IsTrue (place old m) ⊎ (IsTrue (place old i) × Reads shape m))) →
    (from : ℕ) → from ≡ i + 1 → HasPassed network node from old → HasPassed network node i new
passes_on network node i inputs shape old new has before count marked from is was =
    record {
      count = count ∙ was.count;
      output = (marked node).1 (inl was.output);
      sound = λ m h. elim ((marked m).0 h) [
        | inl there ↦ was.sound m there
        | inr read ↦ rests_further network node i m shape (was.sound i read.0) has read.1
      ];
      passed = λ m le h s is_s r reads. elim ((marked m).0 h) [
        | inl there ↦ elim (later m le) [
          | inl at ↦ let same : s ≡ shape = same_shape network i s shape (subst (λ k. Has network k s) at is_s) has in
              (marked r).1 (inr (subst (λ k. IsTrue (place old k)) at there, subst (λ t. Reads t r) same reads))
          | inr after ↦ (marked r).1 (inl (was.passed m after there s is_s r reads))
        ]
        | inr read ↦ let earlier : m < i = reads_before shape inputs i m before read.1 in absurd (omega (arith, earlier, le))
      ];
    }
  where
    later : (m : ℕ) → i ≤ m → (m ≡ i) ⊎ (from ≤ m)
    later m le = elim (cases_lt i m) [ inl h ↦ inr (omega (arith, h, is)) | inr h ↦ inl (omega (arith, h, le)) ]

reached : (network : Network) (node : ℕ) (marks : List Bool) → HasPassed network node 0 marks → (path : List ℕ) (n m : ℕ) → IsPath network n path m → IsTrue (place marks n) → IsTrue (place marks m)
reached network node marks was [] n m is h = subst (λ k. IsTrue (place marks k)) is h
reached network node marks was (k ∷ path) n m is h = reached network node marks was path k m is.3 (was.passed n (omega arith) h is.0 is.1 k is.2)

-- all nodes have passed their marks on
pub are_marks : (network : Network) (node : ℕ) (marks : List Bool) → HasPassed network node 0 marks → AreMarks network node marks
are_marks network node marks was =
    record {
      count = was.count;
      sound = was.sound;
      complete = λ m (path, is). reached network node marks was path node m is was.output;
    }

-- a list that is written back whole
pub written_back : {X : Type 0} (xs old : List X) (n : ℕ) → n ≡ length old → length xs ≡ length old → take n (xs ++ drop (length xs) old) ≡ xs
written_back xs old n at same =
    ap (λ k. take k (xs ++ drop (length xs) old)) (at ∙ sym same)
    ∙ take-append_seam xs (drop (length xs) old)
