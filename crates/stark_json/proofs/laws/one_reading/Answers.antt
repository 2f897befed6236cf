use Rattle.stark_json.specs.Laws.Readings.{from-by-reading, verify-by-reading}
use Rattle.stark_json.proofs.laws.one_reading.Goals as goal

pub returns-clause-from : goal.returns-clause-from
returns-clause-from c = from-by-reading

pub returns-clause-verify : goal.returns-clause-verify
returns-clause-verify c = verify-by-reading
