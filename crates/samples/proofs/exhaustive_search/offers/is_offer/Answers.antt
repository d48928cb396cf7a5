use Rattle.std.proofs.Common.{◌≡◌, ◌∙◌, List, ℕ, true, false, ap, sym, subst}
use Rattle.rel_formula.specs.Instance.{with_cell}
use Rattle.translation_rules.specs.Offers.{IsPossible}
use Rattle.samples.proofs.exhaustive_search.offers.is_offer.Goals as goal

pub returns-then-has : goal.returns-then-has
returns-then-has c = (λ e. absurd (let h : false ≡ true = e in cc), λ offer. absurd (offer.absent (c.has.ensures.0 c.if-has.true)))

pub returns : goal.returns
returns c =
    let p = c.args.problem.now in
    let with_is : c.insert.new.self ≡ with_cell c.args.cell c.args.scenario.now = c.in_ok-insert.ensures.value ∙ ap (with_cell c.args.cell) c.in_ok-with.ensures in (
      λ e. record {
        in_range = c.requires.cell;
        absent = λ there. absurd (let h : c.has.result ≡ true = c.has.ensures.1 there in let g = c.if-has.false in cc);
        possible = subst (IsPossible p) with_is (c.in_ok-possible.ensures.0 e);
      },
      λ offer. c.in_ok-possible.ensures.1 (subst (IsPossible p) (sym with_is) offer.possible),
    )
