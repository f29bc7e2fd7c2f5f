use Rattle.gm_words.specs.Shown.{end_shown}
use Rattle.kernel.specs.Shown.{delivery_of}
use Rattle.kernel.proofs.Delivered.{shown_ready, told_ready, told_room, offer_delivered}
use Rattle.kernel.proofs.machine.Machine.offer.Goals as goal

pub wake-answer-requires-clause-ready : goal.wake-answer-requires-clause-ready
wake-answer-requires-clause-ready g c =
    let same = c.peer-shown.ensures in
    shown_ready (delivery_of (λ b. (goal.SimObject-dyn g (b.vtable, b.value)).state b.value) c.args.self.now) c.args.self.now.queue.table c.args.sender.0 c.args.port.0 c.args.packet (end_shown c.peer-shown.result) _ same c.requires.allowed

pub wake-requires-clause-room : goal.wake-requires-clause-room
wake-requires-clause-room g c =
    let same = c.peer-shown.ensures in
    told_room (delivery_of (λ b. (goal.SimObject-dyn g (b.vtable, b.value)).state b.value) c.args.self.now) _ c.args.self.now.queue.table c.args.sender.0 c.args.port.0 c.args.packet (end_shown c.peer-shown.result) _ c.wake-answer.result c.told.result
    same c.wake-answer.ensures.delivered c.wake-answer.ensures.answer c.told.ensures c.requires.allowed

pub wake-requires-clause-ready : goal.wake-requires-clause-ready
wake-requires-clause-ready g c =
    let same = c.peer-shown.ensures in
    told_ready (delivery_of (λ b. (goal.SimObject-dyn g (b.vtable, b.value)).state b.value) c.args.self.now) _ c.args.self.now.queue.table c.args.sender.0 c.args.port.0 c.args.packet (end_shown c.peer-shown.result) _ c.wake-answer.result c.told.result
    same c.wake-answer.ensures.delivered c.wake-answer.ensures.answer c.told.ensures _ c.wake-answer.ensures.table c.requires.allowed

pub returns-clause-delivered : goal.returns-clause-delivered
returns-clause-delivered g c =
    let same = c.peer-shown.ensures in
    offer_delivered (delivery_of (λ b. (goal.SimObject-dyn g (b.vtable, b.value)).state b.value) c.args.self.now) _ c.args.self.now.queue.table c.args.sender.0 c.args.port.0 c.args.packet (end_shown c.peer-shown.result) _ c.wake-answer.result c.told.result
    same c.wake-answer.ensures.delivered c.wake-answer.ensures.answer c.told.ensures _ c.wake.ensures.delivered
