use Rattle.std.proofs.Common.{arith, refl}
use Rattle.gc_outside.proofs.InOrder.{not_ok}
use Rattle.gc_outside.proofs.Lines.{all_written, appended, line_cut, line_written, none_written}
use Rattle.kernel.proofs.Emitted.{entry_next, no_entry_next}
use Rattle.kernel.proofs.machine.Machine.write_entries.Goals as goal

pub loop-entry-init : goal.loop-entry-init
loop-entry-init g c = record { written = none_written _ _; count = omega arith }

pub loop-entry-preserved : goal.loop-entry-preserved
loop-entry-preserved g c = record {
  written = line_written _ _ c.loop-entry.entry-index _ _ (entry_next _ c.args.entries.now c.loop-entry.entry-index _ _ c.loop-entry-test.true refl) c.loop-entry.invariant.written _ _
      (appended _ _ _ c.trace_line.ensures c.clear.ensures) c.in_ok-emit.ensures.emitted;
  count = omega (arith, c.loop-entry.invariant.count, c.emit.ensures.count);
}

pub returns-in_err-emit-clause-emitted : goal.returns-in_err-emit-clause-emitted
returns-in_err-emit-clause-emitted g c =
    rw (not_ok c.from_residual.result c.from_residual.ensures.0)
    (line_cut _ _ c.loop-entry.entry-index _ _ (entry_next _ c.args.entries.now c.loop-entry.entry-index _ _ c.loop-entry-test.true refl) c.loop-entry.invariant.written _ _
    (appended _ _ _ c.trace_line.ensures c.clear.ensures) c.in_err-emit.ensures.emitted)

pub returns-clause-emitted : goal.returns-clause-emitted
returns-clause-emitted g c =
    all_written _ _ c.loop-entry.entry-index _ (no_entry_next _ c.args.entries.now c.loop-entry.entry-index (omega (arith, c.loop-entry-test.false))) c.loop-entry.invariant.written
