use Rattle.air_core.specs.Laws.Degrees.{declared_have_periods, air_has_periods}
use Rattle.air_core.proofs.trees.declared_columns_have_periods.Goals as goal

pub returns-clause-shape : goal.returns-clause-shape
returns-clause-shape g c s periods t h d = declared_have_periods s periods t h d

pub returns-clause-air : goal.returns-clause-air
returns-clause-air g c d t h = air_has_periods d t h
