-- What the ends over std's readers and writers hold.
use Rattle.std.specs.Prelude.{ℕ}
use Rattle.tool_bytes.specs.declared.streams.StdSource.{StdSource}
use Rattle.tool_bytes.specs.declared.streams.StdSink.{StdSink}

-- the reader that a source reads
abbrev pub reader_of : {R : Type 0} → StdSource R → R
reader_of source = source.reader

-- how often a source has failed
abbrev pub source_faults : {R : Type 0} → StdSource R → ℕ
source_faults source = source.faults

-- the writer that a sink writes
abbrev pub writer_of : {W : Type 0} → StdSink W → W
writer_of sink = sink.writer

-- how often a sink has failed
abbrev pub sink_faults : {W : Type 0} → StdSink W → ℕ
sink_faults sink = sink.faults
