use Rattle.std.proofs.Common.{ap, sym, ◌∙◌}
use Rattle.gm_cache.specs.Rule.{backs}
use Rattle.obj_core.specs.Kept.{Kept}
use Rattle.obj_cache.proofs.Backs.{backs-none}
use Rattle.obj_cache.proofs.leaving.Leaving.new.Goals as goal

pub invariant_of-result : goal.invariant_of-result
invariant_of-result c = sym (ap (λ (k : Kept). backs k.flow.items) c.in_ok-new.ensures ∙ backs-none)
