use Rattle.std.proofs.Common.{refl, sym, ap, ◌∙◌, inr, take, set, get_or, subst, Some, arith}
use Rattle.std.proofs.lemmas.Result.{err_from_is_err_and}
use Rattle.model_sizes.specs.Tables.{IsListed, listed, unlisted}
use Rattle.model_sizes.proofs.Numbers.{take_more}
use Rattle.model_sizes.proofs.Listings.{no_listing, listed_more, checks_fail, checks_more}
use Rattle.model_sizes.proofs.tables.listed_sizes.Goals as goal

pub returns-in_err-signature : goal.returns-in_err-signature
returns-in_err-signature c =
    let p = err_from_is_err_and c.from_residual-in_err-signature.result c.from_residual-in_err-signature.ensures.1 in
    let l = get_or c.args.listings.now c.loop-listing.listing-index no_listing in
    let bad = ap (λ table. unlisted table l) (sym c.deref.ensures.value) ∙ sym c.in_err-signature.ensures.value in
    rw (p.1, p.2) (inr (checks_fail c.args.count c.args.listings.now c.loop-listing.listing-index no_listing l c.loop-listing.table.items c.in_err-signature.field-0.0 c.loop-listing-test.true refl c.loop-listing.invariant.listed c.loop-listing.invariant.checked bad))

pub loop-listing-preserved : goal.loop-listing-preserved
loop-listing-preserved c =
    let l = get_or c.args.listings.now c.loop-listing.listing-index no_listing in
    let good = ap (λ table. unlisted table l) (sym c.deref.ensures.value) ∙ sym c.in_ok-signature.ensures.value in
    let i = c.loop-listing.listing-index in
    let s = c.in_ok-signature.signature in
    let below = c.loop-listing-test.true in
    record {
      listed = subst (λ front. IsListed c.args.count front (set c.loop-listing.table.items s (Some (listed l)))) (sym (take_more c.args.listings.now i no_listing below))
          (listed_more c.args.count (take i c.args.listings.now) l s c.loop-listing.table.items c.loop-listing.invariant.listed (omega (arith, c.loop-listing.invariant.listed.long, c.in_ok-signature.ensures.there, c.deref.ensures.len, c.deref.ensures.value)) good);
      checked = checks_more c.args.count c.args.listings.now i no_listing l c.loop-listing.table.items s below refl c.loop-listing.invariant.listed c.loop-listing.invariant.checked good;
    }
