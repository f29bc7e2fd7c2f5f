use Rattle.std.proofs.Common.{arith, refl, ap, map}
use Rattle.std.proofs.lemmas.List.{length-map}
use Rattle.gm_words.specs.Platform.{wires_of, ways_of}
use Rattle.gm_words.specs.Routes.{routes_of}
use Rattle.obj_core.specs.Out.{Out}
use Rattle.probe_stats.specs.Counted.{Counted}
use Rattle.ev_queue.specs.Queue.{Queue}
use Rattle.kernel.proofs.Changes.{sys_same, all_commanded, from_start, next_untouched, still_rest, one_commanded}
use Rattle.kernel.proofs.Inputs.{input_command, taken_all, taken_next}
use Rattle.kernel.proofs.machine.Machine.feed.Goals as goal

pub loop-i-init : goal.loop-i-init
loop-i-init g c = record {
  rest = refl;
  done = from_start (input_command c.args.byte) _;
  taken = refl;
  len = refl;
  board = refl;
  queue = refl;
  tick = refl;
  out = refl;
  counters = refl;
  trace = refl;
  draining = refl;
}

pub loop-i-preserved : goal.loop-i-preserved
loop-i-preserved g c =
    let i = c.loop-i.invariant in
    let v = c.loop-i.self.parts in
    let e = c.input_box-took.ensures in
    record {
      rest = still_rest _ (input_command c.args.byte) _ v.items c.loop-i.i c.index_mut.result.now c.input_box-took.new.part
          (omega (arith, v.ok.0, i.len, c.len-i-end.ensures, c.loop-i-test.true)) c.index_mut.ensures.value i.rest e.state;
      done = one_commanded _ (input_command c.args.byte) _ v.items c.loop-i.i c.index_mut.result.now c.input_box-took.new.part
          (omega (arith, v.ok.0, i.len, c.len-i-end.ensures, c.loop-i-test.true)) c.index_mut.ensures.value i.rest e.state _ i.done;
      taken = taken_next _ c.loop-i.i _ _ c.input_box-took.result _ e.taken
          (next_untouched _ (input_command c.args.byte) _ v.items c.loop-i.i c.index_mut.result.now c.input_box-took.new.part
          (omega (arith, v.ok.0, i.len, c.len-i-end.ensures, c.loop-i-test.true)) c.index_mut.ensures.value i.rest) i.taken;
      len = i.len;
      board = i.board;
      queue = i.queue;
      tick = i.tick;
      out = i.out;
      counters = i.counters;
      trace = i.trace;
      draining = i.draining;
    }

pub returns-clause-taken : goal.returns-clause-taken
returns-clause-taken g c =
    taken_all _ c.loop-i.i _ _ (rw length-map (omega (arith, c.args.self.now.parts.ok.0, c.len-i-end.ensures, c.loop-i-test.false))) c.loop-i.invariant.taken

pub returns-clause-fed : goal.returns-clause-fed
returns-clause-fed g c =
    let i = c.loop-i.invariant in
    let v = c.loop-i.self.parts in
    sys_same _ _ i.tick (ap (λ (q : Queue). q.pending) i.queue)
    (all_commanded _ (input_command c.args.byte) v.items c.loop-i.i _ (omega (arith, v.ok.0, i.len, c.len-i-end.ensures, c.loop-i-test.false)) i.done)
    (ap (λ (o : Out). o.next) i.out) (ap (λ (k : Counted). k.counts) i.counters) (ap (λ (k : Counted). k.since) i.counters) i.trace i.draining
    (ap wires_of i.board) (ap ways_of i.board) (ap (routes_of 0) i.board)
