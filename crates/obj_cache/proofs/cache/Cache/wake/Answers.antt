use Rattle.obj_cache.proofs.Wakes.{wakes_offered, wakes_at_event, wakes_taken, wakes_refused, wakes_retry, wakes_other}
use Rattle.obj_cache.specs.Shown.{shown}
use Rattle.obj_cache.proofs.cache.Cache.wake.Goals as goal

pub returns-in-Offer : goal.returns-in-Offer
returns-in-Offer c =
    wakes_offered c.in-Offer.port c.in-Offer.pkt c.args.w.now c.args.now (shown c.args.self.now) (shown c.offered.new.self) c.args.q.now c.offered.new.q c.args.out.now c.offered.new.out
    c.offered.result c.in-Offer.is c.offered.ensures

pub returns-in-Event : goal.returns-in-Event
returns-in-Event c =
    wakes_at_event c.in-Event.slot c.args.w.now c.args.now (shown c.args.self.now) (shown c.ask.new.self) (shown c.ended.new.self) c.args.q.now c.args.q.now c.args.out.now c.ask.new.out c.ended.new.out
    c.ended.result c.in-Event.is c.ended.ensures.answer (c.ask.ensures.step c.args.q.now) (c.ended.ensures.called c.args.q.now)

pub returns-in-Taken : goal.returns-in-Taken
returns-in-Taken c =
    wakes_taken c.in-Taken.port c.args.w.now c.args.now (shown c.args.self.now) (shown c.sent.new.self) (shown c.ended-in-Taken.new.self) c.args.q.now c.sent.new.q c.args.out.now c.args.out.now c.ended-in-Taken.new.out
    c.ended-in-Taken.result c.in-Taken.is c.ended-in-Taken.ensures.answer (c.sent.ensures c.args.out.now) (c.ended-in-Taken.ensures.called c.sent.new.q)

pub returns-in-Refused : goal.returns-in-Refused
returns-in-Refused c =
    wakes_refused c.in-Refused.port c.args.w.now c.args.now (shown c.args.self.now) (shown c.hold.new.self) (shown c.ended-in-Refused.new.self) c.args.q.now c.args.q.now c.args.out.now c.args.out.now c.ended-in-Refused.new.out
    c.ended-in-Refused.result c.in-Refused.is c.ended-in-Refused.ensures.answer (c.hold.ensures c.args.q.now c.args.out.now) (c.ended-in-Refused.ensures.called c.args.q.now)

pub returns-in-Retry : goal.returns-in-Retry
returns-in-Retry c =
    wakes_retry c.in-Retry.port c.args.w.now c.args.now (shown c.args.self.now) (shown c.ask_again.new.self) (shown c.ended-in-Retry.new.self) c.args.q.now c.args.q.now c.args.out.now c.ask_again.new.out c.ended-in-Retry.new.out
    c.ended-in-Retry.result c.in-Retry.is c.ended-in-Retry.ensures.answer (c.ask_again.ensures.step c.args.q.now) (c.ended-in-Retry.ensures.called c.args.q.now)

pub returns-in-Line : goal.returns-in-Line
returns-in-Line c = wakes_other c.args.w.now c.args.now (shown c.args.self.now) c.args.q.now c.args.out.now c.in-Line.is

pub returns-in-Line-2 : goal.returns-in-Line-2
returns-in-Line-2 c = wakes_other c.args.w.now c.args.now (shown c.args.self.now) c.args.q.now c.args.out.now c.in-Line.is
