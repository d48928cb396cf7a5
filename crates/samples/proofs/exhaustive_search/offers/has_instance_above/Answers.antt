use Rattle.std.proofs.Common.{◌≡◌, ◌==◌, true, false, List, ℕ, length, Contains, vec_len, arith, rules}
use Rattle.samples.proofs.Exhaustive.Offered.{some_of}
use Rattle.samples.proofs.exhaustive_search.offers.has_instance_above.Goals as goal

pub returns : goal.returns
returns c =
    let all : List (List ℕ) = c.in_ok-instances.instances.items in
    let long = c.in_ok-instances.instances.ok in (
      λ e.
          let some = some_of all (λ none. absurd (let h = c.is_empty.ensures in grind (arith, rules))) in
          let is = (c.in_ok-instances.ensures.all some.0).0 some.1 in
          record { instance = some.0; instance_of = is.0; has = is.1 },
      λ possible.
          let there = (c.in_ok-instances.ensures.all possible.instance).1 (possible.instance_of, possible.has) in
          let l = there.1 in
          let h = c.is_empty.ensures in
          grind (arith, rules),
    )
