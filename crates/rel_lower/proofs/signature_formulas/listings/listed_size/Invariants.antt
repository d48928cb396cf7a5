use Rattle.std.proofs.Common.{◌≡◌, drop, option_map}
use Rattle.model_sizes.specs.Sizes.{listing_for}
use Rattle.rel_lower.specs.Signatures.Extending.{size_in}
use Rattle.rel_lower.proofs.signature_formulas.listings.listed_size.Given as goal

abbrev pub invariant-loop-listing : goal.invariant-loop-listing
invariant-loop-listing l =
    option_map size_in (listing_for (drop l.listing-index l.listings) l.signature) ≡ option_map size_in (listing_for l.listings l.signature)
