use Rattle.std.proofs.Common.{◌≡◌, map}
use Rattle.gm_words.specs.Platform.{platform}
use Rattle.gm_words.specs.Shown.{part_shown}
use Rattle.kernel.proofs.Draws.{AreHalfDone}
use Rattle.kernel.proofs.Tables.{partly}
use Rattle.kernel.proofs.build.configure_parts.Given as goal

-- the parts before the place are configured, and have their handles
abbrev pub invariant-loop-i : goal.invariant-loop-i
invariant-loop-i g l = record {
  rows : map part_shown l.rows ≡ platform l.c;
  parts : AreHalfDone l.c 0 l.i (map (λ b. (goal.SimObject-dyn g (b.vtable, b.value)).state b.value) l.parts.items) (platform l.c);
  table : l.queue.table ≡ partly 0 (platform l.c) l.i;
  pending : l.queue.pending ≡ l.initial.queue.pending;
}
