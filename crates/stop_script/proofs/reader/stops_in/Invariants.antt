use Rattle.std.proofs.Common.{◌≡◌, ◌+◌, ◌≤◌, length}
use Rattle.stop_script.specs.Script.{script_lines, stops_from, stops_of}
use Rattle.stop_script.proofs.ScriptLemmas.{onto}
use Rattle.stop_script.proofs.reader.stops_in.Given as goal

abbrev pub invariant-loop-rest : goal.invariant-loop-rest
invariant-loop-rest l = record {
  few : l.number ≤ 256;
  same : stops_of l.bytes ≡ onto l.stops.items (stops_from (l.number + 1) (script_lines l.rest));
}

abbrev pub decreases-loop-rest : goal.decreases-loop-rest
decreases-loop-rest l = length l.rest
