use Rattle.std.proofs.Common.{◌≡◌, ◌++◌, map, subst, Some}
use Rattle.named_model.specs.Names.{number_of}
use Rattle.name_tables.specs.Repeats.Numbered.{AreLinks, child_of}
use Rattle.name_tables.proofs.Repeats.Numbers.{grows_one}
use Rattle.name_tables.proofs.Repeats.Parents.{link_added}
use Rattle.name_tables.proofs.Repeats.ListsGoneOver.{all_taken}
use Rattle.name_tables.proofs.repeated_names.links.add_names.Goals as goal

pub loop-name-preserved : goal.loop-name-preserved
loop-name-preserved c = λ p cs n a.
    link_added c.loop-name.words c.meet.new.self c.loop-name.links.items c.push.new.self.items cs p c.in_ok-number.number c.args.parent c.args.names.now c.loop-name.name-index c.name-item.result c.loop-name-test.true c.name-item.is
    (grows_one _ _ _ c.in_ok-number.ensures.words) c.in_ok-push.ensures.items (subst (λ t. number_of c.meet.new.self t ≡ Some c.in_ok-number.number) c.text.ensures.value c.in_ok-number.ensures.number) (c.loop-name.invariant p cs n a)

pub returns : goal.returns
returns c = λ p cs n a.
    subst (λ ds. AreLinks c.loop-name.words c.loop-name.links.items ds) (all_taken (λ ns. cs ++ map (child_of p) ns) c.args.names.now c.loop-name.name-index c.loop-name-test.false) (c.loop-name.invariant p cs n a).1
