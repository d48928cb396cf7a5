use Rattle.std.proofs.Common.{◌≡◌, ◌*◌, true, false, ◌++◌, ◌∷◌, [], map, arith}
use Rattle.std.proofs.lemmas.Result.{err_from_is_err_and}
use Rattle.std.proofs.lemmas.List.{map_push}
use Rattle.alloy_syntax.specs.Nodes.{within, begins_link, link_over}
use Rattle.alloy_syntax.specs.View.{link_view}
use Rattle.alloy_syntax.proofs.Loop.{loop_fails, reads_more, reads_ends}
use Rattle.alloy_parse.specs.Nodes.Levels.{operand_over, levels_below}
use Rattle.alloy_parse.proofs.Falls.{falls_within, falls_by}
use Rattle.alloy_parse.proofs.expressions.rules.Rules.+levels.Goals as goal

pub links-returns-in_err-another-clause-value : goal.links-returns-in_err-another-clause-value
links-returns-in_err-another-clause-value g t c =
    let item = operand_over c.args.level (within true c.args.self.now.room) c.args.around in
    let p = err_from_is_err_and c.from_residual.result c.from_residual.ensures.1 in
    let going : begins_link c.args.level c.each.rest.left.now ≡ true = cc in
    rw (p.1, p.2) (loop_fails _ (begins_link c.args.level) (link_over c.args.level item) (map link_view c.each.all.items) c.each.rest.left.now _ c.each.invariant.reads going c.in_err-another.ensures.value)

pub links-each-preserved : goal.links-each-preserved
links-each-preserved g t c =
    let item = operand_over c.args.level (within true c.args.self.now.room) c.args.around in
    let pushed : map link_view c.push.new.self.items ≡ map link_view c.each.all.items ++ link_view c.in_ok-another.another ∷ [] = rw c.in_ok-push.ensures.items (map_push _ c.each.all.items c.in_ok-another.another) in
    let going : begins_link c.args.level c.each.rest.left.now ≡ true = cc in
    record {
      reads = rw pushed (reads_more (begins_link c.args.level) (link_over c.args.level item) (map link_view c.each.all.items) c.each.rest.left.now c.in_ok-another.behind.left.now (link_view c.in_ok-another.another) _ c.each.invariant.reads going c.in_ok-another.ensures.value (omega (arith, c.in_ok-another.ensures.shorter)));
      shorter = omega (arith, c.in_ok-another.ensures.shorter);
    }

pub links-returns-clause-value : goal.links-returns-clause-value
links-returns-clause-value g t c =
    let item = operand_over c.args.level (within true c.args.self.now.room) c.args.around in
    let stops : begins_link c.args.level c.each.rest.left.now ≡ false = cc in
    rw c.fitted.ensures (reads_ends (begins_link c.args.level) (link_over c.args.level item) (map link_view c.each.all.items) c.each.rest.left.now _ c.each.invariant.reads stops)

-- ---- each call goes down

pub chain-operand-requires : goal.chain-operand-requires
chain-operand-requires g t c = λ κs inside. (falls_within (16 * levels_below c.args.level) 8 3 t c.decreases, (inside, c.requires))

pub chain-linked-requires : goal.chain-linked-requires
chain-linked-requires g t c = λ κs inside. (falls_within (16 * levels_below c.args.level) 11 0 t c.decreases, (inside, c.requires))

pub linked-links-requires : goal.linked-links-requires
linked-links-requires g t c = λ κs inside. (falls_within (16 * levels_below c.args.level) 10 0 t c.decreases, (inside, c.requires))

pub links-link-requires : goal.links-link-requires
links-link-requires g t c = λ κs inside. (falls_within (16 * levels_below c.args.level) 9 0 t c.decreases, (inside, c.requires))

pub link-operand-requires : goal.link-operand-requires
link-operand-requires g t c = λ κs inside. (falls_within (16 * levels_below c.args.level) 8 0 t c.decreases, (inside, c.requires))

pub operand-chain-requires : goal.operand-chain-requires
operand-chain-requires g t c = λ κs inside. (falls_by 92 11 t (rw c.in-Or.is at c.decreases), (inside, c.requires))

pub operand-implication-requires : goal.operand-implication-requires
operand-implication-requires g t c = λ κs inside. (falls_by 80 7 t (rw c.in-Iff.is at c.decreases), (inside, c.requires))

pub operand-negation-requires : goal.operand-negation-requires
operand-negation-requires g t c = λ κs inside. (falls_by 65 6 t (rw c.in-And.is at c.decreases), (inside, c.requires))

pub operand-size-requires : goal.operand-size-requires
operand-size-requires g t c = λ κs inside. (falls_by 48 7 t (rw c.in-Sum.is at c.decreases), (inside, c.requires))

pub operand-chain-requires-in-Override : goal.operand-chain-requires-in-Override
operand-chain-requires-in-Override g t c = λ κs inside. (falls_by 28 11 t (rw c.in-Override.is at c.decreases), (inside, c.requires))

pub size-chain-requires : goal.size-chain-requires
size-chain-requires g t c = λ κs inside. (falls_by 44 3 t c.decreases, (inside, c.requires))

pub counted-chain-requires : goal.counted-chain-requires
counted-chain-requires g t c = λ κs inside. (falls_by 60 0 t c.decreases, (inside, c.requires))

pub comparison-counted-requires : goal.comparison-counted-requires
comparison-counted-requires g t c = λ κs inside. (falls_by 61 2 t c.decreases, (inside, c.requires))

pub comparison-compared_with-requires : goal.comparison-compared_with-requires
comparison-compared_with-requires g t c = λ κs inside. (falls_by 63 0 t c.decreases, (inside, c.requires))

pub compared_with-right_side-requires : goal.compared_with-right_side-requires
compared_with-right_side-requires g t c = λ κs inside. (falls_by 62 0 t c.decreases, (inside, c.requires))

pub right_side-counted-requires : goal.right_side-counted-requires
right_side-counted-requires g t c = λ κs inside. (falls_by 61 0 t c.decreases, (inside, c.requires))

pub negation-comparison-requires : goal.negation-comparison-requires
negation-comparison-requires g t c = λ κs inside. (falls_by 64 0 t c.decreases, (inside, c.requires))

pub implication-chain-requires : goal.implication-chain-requires
implication-chain-requires g t c = λ κs inside. (falls_by 76 3 t c.decreases, (inside, c.requires))

-- ---- what reads the parts

pub operand-arrows-requires : goal.operand-arrows-requires
operand-arrows-requires g t c = c.requires

pub operand-path-requires : goal.operand-path-requires
operand-path-requires g t c = c.requires

pub size-prefixed-requires : goal.size-prefixed-requires
size-prefixed-requires g t c = c.requires

pub counted-prefixed-requires : goal.counted-prefixed-requires
counted-prefixed-requires g t c = c.requires

pub negation-prefixed-requires : goal.negation-prefixed-requires
negation-prefixed-requires g t c = c.requires

pub negation-inside-requires : goal.negation-inside-requires
negation-inside-requires g t c = c.requires

pub implication-implied-requires : goal.implication-implied-requires
implication-implied-requires g t c = c.requires
