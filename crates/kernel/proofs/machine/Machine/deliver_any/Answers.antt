use Rattle.gm_words.specs.Shown.{end_shown}
use Rattle.kernel.proofs.Delivered.{called_ready, called_delivered, sent_first, done_first, rest_room, first_delivered, none_delivered}
use Rattle.kernel.proofs.UnderWay.{line_ready, done_ready, offer_ready, call_ready, few_parts}
use Rattle.kernel.proofs.machine.Machine.deliver_any.Goals as goal

pub returns-in-Some-Done-clause-delivered : goal.returns-in-Some-Done-clause-delivered
returns-in-Some-Done-clause-delivered g c =
    let a = c.in-Some-Done in
    let e = done_first _ a.field-0.now a.sender a.pkt a.latency a.ensures.some a.field-0-is in
    first_delivered _ _ _ _ e (rw c.drop_first-in-Some-Done.ensures at c.wake-in-Some-Done.ensures.delivered)

pub wake-requires-in-Some-Done-clause-room : goal.wake-requires-in-Some-Done-clause-room
wake-requires-in-Some-Done-clause-room g c =
    let a = c.in-Some-Done in
    let e = done_first _ a.field-0.now a.sender a.pkt a.latency a.ensures.some a.field-0-is in
    rw c.drop_first-in-Some-Done.ensures (rest_room _ _ _ _ e c.requires)

pub wake-requires-in-Some-Done-clause-ready : goal.wake-requires-in-Some-Done-clause-ready
wake-requires-in-Some-Done-clause-ready g c =
    let a = c.in-Some-Done in
    let e = done_first _ a.field-0.now a.sender a.pkt a.latency a.ensures.some a.field-0-is in
    rw c.drop_first-in-Some-Done.ensures (done_ready _ _ a.sender.0 a.latency a.pkt _ e c.requires)

pub set_line-requires-clause-room : goal.set_line-requires-clause-room
set_line-requires-clause-room g c =
    let a = c.in-Some-Sent-default-SetLine in
    let e = sent_first _ a.field-0.now a.field-0-0 a.field-0-1 _ a.ensures.some a.field-0-is a.field-0-1-is in
    rw c.drop_first.ensures (rest_room _ _ _ _ e c.requires)

pub set_line-requires-clause-few : goal.set_line-requires-clause-few
set_line-requires-clause-few g c = few_parts _ _ c.requires

pub set_line-requires-clause-ready : goal.set_line-requires-clause-ready
set_line-requires-clause-ready g c =
    let a = c.in-Some-Sent-default-SetLine in
    let e = sent_first _ a.field-0.now a.field-0-0 a.field-0-1 _ a.ensures.some a.field-0-is a.field-0-1-is in
    rw c.drop_first.ensures (line_ready _ _ a.field-0-0.0 a.bit a.level _ e c.requires)

pub returns-in-Some-Sent-default-SetLine-clause-delivered : goal.returns-in-Some-Sent-default-SetLine-clause-delivered
returns-in-Some-Sent-default-SetLine-clause-delivered g c =
    let a = c.in-Some-Sent-default-SetLine in
    let e = sent_first _ a.field-0.now a.field-0-0 a.field-0-1 _ a.ensures.some a.field-0-is a.field-0-1-is in
    first_delivered _ _ _ _ e (rw c.drop_first.ensures at c.set_line.ensures.delivered)

pub returns-in-Some-Sent-default-Offer-clause-delivered : goal.returns-in-Some-Sent-default-Offer-clause-delivered
returns-in-Some-Sent-default-Offer-clause-delivered g c =
    let a = c.in-Some-Sent-default-Offer in
    let e = sent_first _ a.field-0.now a.sender a.field-0-1 _ a.ensures.some a.field-0-is a.field-0-1-is in
    first_delivered _ _ _ _ e (rw c.drop_first-in-Some-Sent-default-Offer.ensures at c.offer.ensures.delivered)

pub offer-requires-clause-room : goal.offer-requires-clause-room
offer-requires-clause-room g c =
    let a = c.in-Some-Sent-default-Offer in
    let e = sent_first _ a.field-0.now a.sender a.field-0-1 _ a.ensures.some a.field-0-is a.field-0-1-is in
    rw c.drop_first-in-Some-Sent-default-Offer.ensures (rest_room _ _ _ _ e c.requires)

pub offer-requires-clause-allowed : goal.offer-requires-clause-allowed
offer-requires-clause-allowed g c =
    let a = c.in-Some-Sent-default-Offer in
    let e = sent_first _ a.field-0.now a.sender a.field-0-1 _ a.ensures.some a.field-0-is a.field-0-1-is in
    rw c.drop_first-in-Some-Sent-default-Offer.ensures (offer_ready _ _ a.sender.0 a.port a.pkt _ e c.requires)

pub wake-requires-clause-room : goal.wake-requires-clause-room
wake-requires-clause-room g c =
    let a = c.in-Some-Sent-default-CallRetry in
    let e = sent_first _ a.field-0.now a.sender a.field-0-1 _ a.ensures.some a.field-0-is a.field-0-1-is in
    rw c.drop_first-in-Some-Sent-default-CallRetry.ensures (rest_room _ _ _ _ e c.requires)

pub wake-requires-clause-ready : goal.wake-requires-clause-ready
wake-requires-clause-ready g c =
    let a = c.in-Some-Sent-default-CallRetry in
    let e = sent_first _ a.field-0.now a.sender a.field-0-1 _ a.ensures.some a.field-0-is a.field-0-1-is in
    let same = c.peer-called.ensures in
    rw c.drop_first-in-Some-Sent-default-CallRetry.ensures (called_ready _ _ (end_shown c.peer-called.result) _ same (call_ready _ _ a.sender.0 a.port _ e c.requires))

pub returns-in-Some-Sent-default-CallRetry-clause-delivered : goal.returns-in-Some-Sent-default-CallRetry-clause-delivered
returns-in-Some-Sent-default-CallRetry-clause-delivered g c =
    let a = c.in-Some-Sent-default-CallRetry in
    let e = sent_first _ a.field-0.now a.sender a.field-0-1 _ a.ensures.some a.field-0-is a.field-0-1-is in
    let same = c.peer-called.ensures in
    first_delivered _ _ _ _ e (called_delivered _ _ (end_shown c.peer-called.result) _ same (rw c.drop_first-in-Some-Sent-default-CallRetry.ensures at c.wake.ensures.delivered))

pub pass_on-requires-clause-first : goal.pass_on-requires-clause-first
pass_on-requires-clause-first g c =
    let a = c.in-Some-Sent-default-Atomic in
    sent_first _ a.field-0.now a.sender a.field-0-1 _ a.ensures.some a.field-0-is a.field-0-1-is

pub returns-in-None-clause-delivered : goal.returns-in-None-clause-delivered
returns-in-None-clause-delivered g c = none_delivered _ c.in-None.ensures.none
