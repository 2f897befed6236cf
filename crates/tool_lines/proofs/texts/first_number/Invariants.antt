use Rattle.std.proofs.Common.{◌≤◌, ◌≡◌, take, get_or}
use Rattle.std.specs.Str.Parse.{digits_value, AllDigits}
use Rattle.tool_lines.proofs.texts.first_number.Given as goal

abbrev pub invariant-loop-i : goal.invariant-loop-i
invariant-loop-i l = record {
  digits : AllDigits 10 (take l.i l.bytes);
  value : l.value ≡ digits_value 10 (take l.i l.bytes);
  small : l.value ≤ l.most;
  zero : get_or l.bytes 0 0 ≡ 48 → (l.i ≤ 1) × (l.value ≡ 0);
}
