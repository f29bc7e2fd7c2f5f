use Rattle.std.proofs.Common.{◌≡◌, ◌∙◌, ap, sym, arith, subst}
use Rattle.ev_queue.specs.Queue.{Queue}
use Rattle.gm_model.specs.ObjState.{Common}
use Rattle.obj_cache.proofs.Sizes.{held_more, same_common}
use Rattle.obj_cache.specs.Shown.{shown}
use Rattle.obj_cache.specs.Step.{HasBoth}
use Rattle.obj_cache.proofs.tests.bench.Bench.wake.Goals as goal

pub invariant_of-self-clause-few : goal.invariant_of-self-clause-few
invariant_of-self-clause-few g c =
    let more = held_more (shown c.args.self.now.part) (shown c.wake.new.self) c.args.out.now.next c.args.w.now c.args.now c.wake.ensures.stands.state in
    omega (arith, more, c.args.self.now.few)

pub invariant_of-self-clause-given : goal.invariant_of-self-clause-given
invariant_of-self-clause-given g c =
    let same = same_common (shown c.args.self.now.part) (shown c.wake.new.self) c.args.out.now.next c.args.w.now c.args.now c.wake.ensures.stands.state in
    subst (λ v. HasBoth v c.wake.new.self.object.0) (sym (ap (λ (q : Queue). q.table) c.wake.ensures.stands.events))
    (subst (λ n. HasBoth c.args.self.now.queue.table n) (sym (ap (λ (k : Common). k.object) same)) c.args.self.now.given)
