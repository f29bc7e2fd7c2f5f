use Rattle.std.proofs.lemmas.Result.{on_ok_weaker}
use Rattle.gc_cli.proofs.RunLemmas.{budget_more, tells_early}
use Rattle.gc_cli.proofs.machine_tests.run.Goals as goal

pub returns-clause-events : goal.returns-clause-events
returns-clause-events g c = on_ok_weaker c.run.result (λ e. budget_more _ _ c.args.goal e) c.run.ensures.ran

pub returns-clause-due : goal.returns-clause-due
returns-clause-due g c = tells_early c.run.result _ _ c.args.goal c.run.ensures.ended c.run.ensures.ran
