-- Eight cells of each kind, and a terminal.
use Rattle.std.specs.Prelude.{true}
use Rattle.air_core.specs.Shape.{Shape}

abbrev pub eight_of_each : Shape
eight_of_each = record {
  main = 8;
  main_next = λ _. true;
  preprocessed = 8;
  preprocessed_next = λ _. true;
  periodic = 8;
  public = 8;
  permutation = 8;
  challenges = 8;
  terminals = 1;
}
