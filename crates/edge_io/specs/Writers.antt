-- What a contract sees of a `StdSink`.
use Rattle.edge_io.specs.declared.streams.StdSink.{StdSink}

-- the writer that the bytes go to
abbrev pub writer_of : {W : Type 0} {g : _} → StdSink W g → W
writer_of sink = sink.inner
