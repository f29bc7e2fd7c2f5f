use Rattle.std.proofs.Common.{arith, refl, ap, map}
use Rattle.gm_words.specs.Platform.{wires_of, ways_of}
use Rattle.gm_words.specs.Routes.{routes_of}
use Rattle.obj_core.specs.Out.{Out}
use Rattle.probe_stats.specs.Counted.{Counted}
use Rattle.ev_queue.specs.Queue.{Queue}
use Rattle.kernel.proofs.Changes.{sys_same, all_commanded, from_start, still_rest, one_commanded}
use Rattle.kernel.proofs.Loops.{enter_command}
use Rattle.kernel.proofs.machine.Machine.enter.Goals as goal

pub loop-i-init : goal.loop-i-init
loop-i-init g c = record {
  rest = refl;
  done = from_start (enter_command c.args.entry) _;
  len = refl;
  board = refl;
  queue = refl;
  tick = refl;
  out = refl;
  counters = refl;
  trace = refl;
  draining = refl;
}

pub loop-i-preserved : goal.loop-i-preserved
loop-i-preserved g c =
    let i = c.loop-i.invariant in
    let v = c.loop-i.self.parts in
    record {
      rest = still_rest _ (enter_command c.args.entry) _ v.items c.loop-i.i c.index_mut.result.now c.enter_part.new.part
          (omega (arith, v.ok.0, i.len, c.len-i-end.ensures, c.loop-i-test.true)) c.index_mut.ensures.value i.rest c.enter_part.ensures;
      done = one_commanded _ (enter_command c.args.entry) _ v.items c.loop-i.i c.index_mut.result.now c.enter_part.new.part
          (omega (arith, v.ok.0, i.len, c.len-i-end.ensures, c.loop-i-test.true)) c.index_mut.ensures.value i.rest c.enter_part.ensures _ i.done;
      len = i.len;
      board = i.board;
      queue = i.queue;
      tick = i.tick;
      out = i.out;
      counters = i.counters;
      trace = i.trace;
      draining = i.draining;
    }

pub returns-clause-entered : goal.returns-clause-entered
returns-clause-entered g c =
    let i = c.loop-i.invariant in
    let v = c.loop-i.self.parts in
    sys_same _ _ i.tick (ap (λ (q : Queue). q.pending) i.queue)
    (all_commanded _ (enter_command c.args.entry) v.items c.loop-i.i _ (omega (arith, v.ok.0, i.len, c.len-i-end.ensures, c.loop-i-test.false)) i.done)
    (ap (λ (o : Out). o.next) i.out) (ap (λ (k : Counted). k.counts) i.counters) (ap (λ (k : Counted). k.since) i.counters) i.trace i.draining
    (ap wires_of i.board) (ap ways_of i.board) (ap (routes_of 0) i.board)
