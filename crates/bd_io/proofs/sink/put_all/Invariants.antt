use Rattle.std.proofs.Common.{◌≡◌, length}
use Rattle.bd_io.specs.Written.{WroteAllBut}
use Rattle.bd_io.proofs.sink.put_all.Given as goal

abbrev pub invariant-loop-rest : goal.invariant-loop-rest
invariant-loop-rest g l = record {
  wrote : WroteAllBut l.rest l.bytes (g.K.Sink.written l.fn.sink) (g.K.Sink.written l.sink);
  same_faults : g.K.Sink.fault_count l.sink ≡ g.K.Sink.fault_count l.fn.sink;
}

abbrev pub decreases-loop-rest : goal.decreases-loop-rest
decreases-loop-rest g l = length l.rest
