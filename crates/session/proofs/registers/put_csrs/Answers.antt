use Rattle.std.proofs.Common.{append_assoc}
use Rattle.session.proofs.registers.put_csrs.Goals as goal

pub returns-clause-lines : goal.returns-clause-lines
returns-clause-lines c =
    rw (c.put_set-8.ensures.line, c.put_set-7.ensures.line, c.put_set-6.ensures.line, c.put_set-5.ensures.line, c.put_set-4.ensures.line, c.put_set-3.ensures.line, c.put_set-2.ensures.line, c.put_set.ensures.line)
    (simp append_assoc)
