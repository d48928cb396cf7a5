-- What the numbers of a descent and of offers count.
use Rattle.std.specs.Prelude.{◌≡◌, ℕ, List, [], length}
use Rattle.rel_formula.specs.Bounds.{Bounded}
use Rattle.rel_formula.specs.Instance.{IsInstance, IsMinimalAbove, Includes}
use Rattle.translation_rules.specs.Offers.{AreOffers}
use Rattle.bench_search.specs.declared.found.Descended.{Descended}
use Rattle.bench_search.specs.declared.found.Offered.{Offered}

-- from an instance of so many cells to a minimal one in it of so many
pub record IsDescended (p : Bounded) (d : Descended) : Type 0 where
  pub start : List ℕ
  pub end : List ℕ
  pub begins : IsInstance p start
  pub minimal : IsMinimalAbove p [] end
  pub within : Includes start end
  pub from : length start ≡ d.from
  pub to : length end ≡ d.to

-- at an instance of so many cells just so many cells are offered
pub record IsOffered (p : Bounded) (o : Offered) : Type 0 where
  pub scenario : List ℕ
  pub cells : List ℕ
  pub begins : IsInstance p scenario
  pub offers : AreOffers p scenario cells
  pub at : length scenario ≡ o.at
  pub offered : length cells ≡ o.offered
