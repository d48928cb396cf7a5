use Rattle.std.proofs.Common.{◌≡◌, true, get_or}
use Rattle.std.proofs.lemmas.List.Elements.{All-contains, Contains-get_or}
use Rattle.rel_formula.specs.Instance.{Includes}
use Rattle.samples.proofs.exhaustive_search.due.is_due.Goals as goal

pub returns-then-is_minimal_among : goal.returns-then-is_minimal_among
returns-then-is_minimal_among c =
    let s = c.args.scenario.now in
    let all = c.is_minimal_among.ensures.0 c.if-is_minimal_among.true in (
      λ e. record {
        minimal = record {
          instance_of = c.requires.one;
          above = c.requires.above;
          least = λ t is above part.
              All-contains (λ u. Includes s u → Includes u s) c.args.instances.now t all ((c.requires.instances t).1 (is, above)) part;
        };
        settled = c.is_settled_beside.ensures.0 e;
      },
      λ due. c.is_settled_beside.ensures.1 due.settled,
    )

pub returns-else-is_minimal_among : goal.returns-else-is_minimal_among
returns-else-is_minimal_among c = (
  λ e. absurd (let h : c.is_minimal_among.result ≡ true = e in let g = c.if-is_minimal_among.false in cc),
  λ due. c.is_minimal_among.ensures.1 (λ k d l part.
      let t = get_or c.args.instances.now k d in
      let is = (c.requires.instances t).0 (Contains-get_or c.args.instances.now k d l) in
      due.minimal.least t is.0 is.1 part),
)
