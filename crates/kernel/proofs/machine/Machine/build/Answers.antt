use Rattle.std.proofs.Common.{sym, subst, ◌∙◌, []}
use Rattle.gm_model.specs.Sys.{Sys}
use Rattle.rv_step.specs.FlatMem.{ram_base}
use Rattle.kernel.specs.Settled.{IsSettled}
use Rattle.kernel.proofs.Changes.{built_sound}
use Rattle.kernel.proofs.Draws.{started}
use Rattle.kernel.proofs.SettledLemmas.{start_settled}
use Rattle.kernel.proofs.machine.Machine.build.Goals as goal

pub returns-in-Ok-clause-built : goal.returns-in-Ok-clause-built
returns-in-Ok-clause-built g c = c.in-Ok.ensures.built ∙ started c.args.c.now

pub returns-in-Ok-clause-machine : goal.returns-in-Ok-clause-machine
returns-in-Ok-clause-machine g c =
    record { sound = built_sound c.args.c.now _ _ c.requires.valid (c.in-Ok.ensures.built ∙ started c.args.c.now) c.in-Ok.ensures.table }

pub returns-in-Ok-clause-settled : goal.returns-in-Ok-clause-settled
returns-in-Ok-clause-settled g c =
    let P : Sys → Type 0 = IsSettled in
    subst P (sym (c.in-Ok.ensures.built ∙ started c.args.c.now)) (start_settled c.args.c.now ram_base [])
