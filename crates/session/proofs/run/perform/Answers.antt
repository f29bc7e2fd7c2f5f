use Rattle.std.proofs.Common.{◌∙◌, ap, subst}
use Rattle.gm_model.specs.Start.{resumed_state}
use Rattle.gm_model.specs.Sys.{Sys}
use Rattle.session.specs.Script.{ScriptComesTo}
use Rattle.session.proofs.run.perform.Goals as goal

pub returns : goal.returns
returns g c =
    let e = c.carry_out.ensures in
    let from = c.resume_all.ensures.resumed ∙ ap resumed_state (c.load_image.ensures.loaded c.args.config.now c.requires.built c.requires.in_ram) in
    (e.0, subst (λ (s : Sys). ScriptComesTo c.args.config.now s c.args.stops.now e.0) from e.1, e.2)
