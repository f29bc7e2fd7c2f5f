use Rattle.std.proofs.Common.{ap, map, sym, subst, ◌∙◌}
use Rattle.gm_words.specs.Shown.{part_shown}
use Rattle.kernel.specs.Build.{AreFew}
use Rattle.kernel.proofs.Tables.{few_classes}
use Rattle.kernel.proofs.machine.Machine.assemble.Goals as goal

pub counts-requires : goal.counts-requires
counts-requires g c = subst AreFew (sym (ap (λ xs. map part_shown xs) c.as_slice-2.ensures.value ∙ c.requires.rows)) (few_classes c.args.c.now)
