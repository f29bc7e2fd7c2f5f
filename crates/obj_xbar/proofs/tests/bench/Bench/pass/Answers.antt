use Rattle.std.proofs.Common.{ap}
use Rattle.ev_queue.specs.Queue.{Queue}
use Rattle.gm_words.specs.PortUses.{used}
use Rattle.obj_xbar.specs.Shown.{shown}
use Rattle.obj_xbar.proofs.GivenLemmas.{given_there}
use Rattle.obj_xbar.proofs.StayLemmas.{still_passing}
use Rattle.obj_xbar.proofs.tests.bench.Bench.pass.Goals as goal

pub invariant_of-self-clause-is : goal.invariant_of-self-clause-is
invariant_of-self-clause-is g c =
    still_passing 0 (used c.args.self.now.ports) (shown c.args.self.now.part.inner) _ _ _ c.args.self.now.is c.atomic.ensures.state

pub invariant_of-self-clause-given : goal.invariant_of-self-clause-given
invariant_of-self-clause-given g c =
    given_there (used c.args.self.now.ports) c.args.self.now.queue.table _ (ap (λ (q : Queue). q.table) c.atomic.ensures.events) c.args.self.now.given
