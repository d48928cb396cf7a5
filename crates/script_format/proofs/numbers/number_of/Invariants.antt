use Rattle.std.proofs.Common.{◌≡◌, ◌≤◌, ◌<◌, ◌^◌, drop, length}
use Rattle.std.specs.List.{list_all}
use Rattle.script_format.specs.Words.{is_digit, number_from}
use Rattle.script_format.proofs.numbers.number_of.Given as goal

abbrev pub invariant-loop-digit : goal.invariant-loop-digit
invariant-loop-digit l = record {
  few : length l.digits ≤ 6;
  digits_left : list_all is_digit (drop l.digit-index l.digits) ≡ list_all is_digit l.digits;
  value : number_from l.number (drop l.digit-index l.digits) ≡ number_from 0 l.digits;
  small : l.number < 10 ^ l.digit-index;
}
