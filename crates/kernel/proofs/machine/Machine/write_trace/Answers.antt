use Rattle.std.proofs.Common.{sym}
use Rattle.kernel.proofs.machine.Machine.write_trace.Goals as goal

pub returns-then-self-clause-emitted : goal.returns-then-self-clause-emitted
returns-then-self-clause-emitted g c = rw (c.if-self.true, sym c.entries.ensures) c.write_lines.ensures.emitted
