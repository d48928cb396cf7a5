use Rattle.std.proofs.Common.{◌≡◌, ◌≤◌, ◌+◌, map, drop}
use Rattle.alloy_syntax.specs.View.{paragraph_view}
use Rattle.order_lib.specs.Expanded.{commands_in}
use Rattle.order_lib.proofs.expansion.commands_in.Given as goal

abbrev pub invariant-loop-paragraph : goal.invariant-loop-paragraph
invariant-loop-paragraph l = record {
  all : l.count + commands_in (map paragraph_view (drop l.paragraph-index l.paragraphs)) ≡ commands_in (map paragraph_view l.paragraphs);
  few : l.count ≤ l.paragraph-index;
}
