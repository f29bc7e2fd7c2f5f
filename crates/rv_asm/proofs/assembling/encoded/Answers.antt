use Rattle.std.proofs.Common.{◌∙◌}
use Rattle.rv_asm.proofs.Encodes.{encoded_is}
use Rattle.rv_asm.proofs.assembling.encoded.Goals as goal

pub returns : goal.returns
returns c = c.ok_or.ensures.value ∙ encoded_is c.args.i c.encode.result c.encode.ensures.table
