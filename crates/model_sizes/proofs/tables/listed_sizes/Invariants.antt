use Rattle.std.proofs.Common.{◌≡◌, [], take, drop}
use Rattle.model_sizes.specs.Sizes.{listings_checked}
use Rattle.model_sizes.specs.Tables.{IsListed}
use Rattle.model_sizes.proofs.tables.listed_sizes.Given as goal

abbrev pub invariant-loop-listing : goal.invariant-loop-listing
invariant-loop-listing l = record {
  listed : IsListed l.count (take l.listing-index l.listings) l.table.items;
  checked : listings_checked l.count (take l.listing-index l.listings) (drop l.listing-index l.listings) ≡ listings_checked l.count [] l.listings;
}
