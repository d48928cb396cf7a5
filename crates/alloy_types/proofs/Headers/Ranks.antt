-- What is known of predicates and functions, by ranks.
use Rattle.std.proofs.Common.{◌≡◌, ℕ, zero, suc, ◌<◌, refl, ap, map, slice_get, Option, Some, None, option_map, arith}
use Rattle.named_model.specs.Model.{CalleeTree, NamedTree}
use Rattle.model_types.specs.Typing.{Declared}
use Rattle.model_types.specs.Models.{field_declared, header_of, callee_within}
use Rattle.alloy_types.specs.Headers.Called.{AreRanks}
use Rattle.alloy_types.proofs.Headers.Agreeing.{header_agrees}

pub headers_by_ranks : (m : NamedTree) (rank : ℕ → ℕ) (j k n : ℕ) → AreRanks m rank → rank n < j → rank n < k → callee_within m j n ≡ callee_within m k n
headers_by_ranks m rank zero k n h a b = absurd (omega arith)
headers_by_ranks m rank (suc j) zero n h a b = absurd (omega arith)
headers_by_ranks m rank (suc j) (suc k) n h a b =
    go (slice_get m.callees n) refl (λ l below. headers_by_ranks m rank j k l h (omega (arith, below, a)) (omega (arith, below, b)))
  where
    left : Declared
    left = record { signatures = m.signatures; fields = map (field_declared m) m.fields; callee = callee_within m j }

    right : Declared
    right = record { signatures = m.signatures; fields = map (field_declared m) m.fields; callee = callee_within m k }

    go : (o : Option CalleeTree) → slice_get m.callees n ≡ o → ((l : ℕ) → rank l < rank n → callee_within m j l ≡ callee_within m k l) → option_map (header_of left) o ≡ option_map (header_of right) o
    go None e below = refl
    go (Some c) e below =
        ap Some (header_agrees m.signatures (map (field_declared m) m.fields) (callee_within m j) (callee_within m k) (λ l. rank l < rank n) below c (h n c e))
