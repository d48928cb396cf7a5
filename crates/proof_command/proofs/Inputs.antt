-- An input is answered where its bytes are read, an answer to them is made, and its text is written.
use Rattle.std.proofs.Common.{◌≡◌, ◌⊎◌, ◌++◌, ℕ, List, inl, inr, take, drop, subst, sym, ◌∙◌}
use Rattle.outside_io.specs.Front.{AppendsPart}
use Rattle.outside_io.specs.declared.status.Status.{Status}
use Rattle.outside_io.specs.declared.status.Status.TheVariants.{SourceFailed, SinkFailed, NoMemory}
use Rattle.proof_command.specs.Inputs.{IsWritten, WritesAnswer}

-- what writing a text gives, where its status doesn't say that the sink failed
pub written_text : (status : Status) (text : List ℕ) (tells : Type 0) (old new : List ℕ) (result : Status) → (status ≡ SinkFailed → ⊥) → (result ≡ status) ⊎ (result ≡ SinkFailed)
    → (tells → (result ≡ SinkFailed) ⊎ (new ≡ old ++ text)) → (tells → result ≡ SinkFailed → (status ≡ SinkFailed) ⊎ AppendsPart old new text) → IsWritten status text tells old new result
written_text status text tells old new result not_failed (inl same) all part = inl (
  same,
  λ t. elim (all t) [
    | inl failed ↦ absurd (not_failed (sym same ∙ failed))
    | inr whole ↦ whole
  ],
)
written_text status text tells old new result not_failed (inr failed) all part = inr (
  failed,
  λ t. elim (part t failed) [
    | inl bad ↦ absurd (not_failed bad)
    | inr front ↦ front
  ],
)

-- what is answered to a front of the input, where that is answered to the whole too
module _ (most : ℕ) (IsAnswer : List ℕ → Status → List ℕ → Type 0)
    (whole : (bytes : List ℕ) (status : Status) (text : List ℕ) → IsAnswer (take most bytes) status text → IsAnswer bytes status text) where
  pub answered : (source_tells : Type 0) (had left bytes : List ℕ) (sink_tells : Type 0) (old new : List ℕ) (result : Status) → (source_tells → bytes ≡ take most had) → (source_tells → left ≡ drop most had)
      → (result ≡ NoMemory) ⊎ ((status : Status) × (text : List ℕ) × IsAnswer bytes status text × IsWritten status text sink_tells old new result)
      → (result ≡ SourceFailed) ⊎ (result ≡ NoMemory) ⊎ ((source_tells → left ≡ drop most had) × WritesAnswer IsAnswer source_tells had sink_tells old new result)
  answered source_tells had left bytes sink_tells old new result read rest (inl memory) = inr (inl memory)
  answered source_tells had left bytes sink_tells old new result read rest (inr done) = inr (inr (
    rest,
    record {
      status = done.0;
      text = done.1;
      told = λ t. whole had done.0 done.1 (subst (λ (xs : List ℕ). IsAnswer xs done.0 done.1) (read t) done.2);
      untold = (bytes, done.2);
      written = done.3;
    },
  ))
