use Rattle.std.proofs.Common.{◌≡◌, map, take}
use Rattle.script_format.specs.Reading.{Start}
use Rattle.script_format.specs.Read.{reading_of}
use Rattle.script_format.specs.Script.{Leads}
use Rattle.script_format.proofs.script.read_lines.Given as goal

abbrev pub invariant-loop-line : goal.invariant-loop-line
invariant-loop-line l = record {
  count : l.number ≡ l.line-index;
  leads : Leads Start (map (λ line. line.now) (take l.line-index l.lines)) (reading_of l.reader);
}
