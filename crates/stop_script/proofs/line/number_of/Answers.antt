use Rattle.std.proofs.Common.{sym, ap, ◌∙◌, arith}
use Rattle.stop_script.proofs.LineLaws.{number_of-decimal}
use Rattle.stop_script.specs.Stop.{number_of}
use Rattle.stop_script.proofs.line.number_of.Goals as goal

pub returns-in-Some : goal.returns-in-Some
returns-in-Some c = sym (ap number_of c.in-Some.ensures.value ∙ number_of-decimal c.in-Some.n (omega arith))
