use Rattle.std.proofs.Common.{◌∷◌, ◌++◌, [], ap, ◌∙◌}
use Rattle.sig_resolve.proofs.DeclaredCounts.{first_of, counts_more, parts_more, parts_none}
use Rattle.sig_resolve.proofs.parts.parts.Goals as goal

pub loop-paragraph-preserved : goal.loop-paragraph-preserved
loop-paragraph-preserved c =
    let ps = c.args.paragraphs.now in
    let i = c.loop-paragraph.paragraph-index in
    let all = c.loop-paragraph.all.items in
    let so_far = c.loop-paragraph.invariant in
    record {
      counts = counts_more ps i c.paragraph-item.result c.loop-paragraph.counts c.in_ok-next.next c.loop-paragraph-test.true c.paragraph-item.is so_far.counts c.in_ok-next.ensures;
      parts = parts_more ps i c.paragraph-item.result all c.push.new.self.items c.loop-paragraph-test.true c.paragraph-item.is (c.in_ok-push.ensures.items ∙ ap (λ z. all ++ z ∷ []) (c.in_ok-part.ensures (first_of i ps) so_far.counts)) so_far.parts;
    }

pub returns : goal.returns
returns c = parts_none c.args.paragraphs.now c.loop-paragraph.paragraph-index c.loop-paragraph.all.items c.loop-paragraph-test.false c.loop-paragraph.invariant.parts
