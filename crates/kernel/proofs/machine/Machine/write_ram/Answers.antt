use Rattle.std.proofs.Common.{◌≡◌, ◌+◌, ◌-◌, arith, refl, ap, map, ◌∙◌}
use Rattle.rv_step.specs.FlatMem.{ram_base}
use Rattle.gm_model.specs.Command.{with_own_bytes}
use Rattle.gm_words.specs.Platform.{wires_of, ways_of}
use Rattle.gm_words.specs.Routes.{routes_of}
use Rattle.obj_core.specs.Out.{Out}
use Rattle.probe_stats.specs.Counted.{Counted}
use Rattle.ev_queue.specs.Queue.{Queue}
use Rattle.kernel.proofs.Changes.{sys_same, all_commanded, from_start, still_rest, one_commanded}
use Rattle.kernel.proofs.Loops.{put_command}
use Rattle.kernel.proofs.Loads.{room_still}
use Rattle.kernel.proofs.machine.Machine.write_ram.Goals as goal

pub loop-i-init : goal.loop-i-init
loop-i-init g c = record {
  rest = refl;
  done = from_start (put_command c.args.at c.args.from.now) _;
  len = refl;
  board = refl;
  queue = refl;
  tick = refl;
  out = refl;
  counters = refl;
  trace = refl;
  draining = refl;
}

pub write_box-requires : goal.write_box-requires
write_box-requires g c =
    let i = c.loop-i.invariant in
    let v = c.loop-i.self.parts in
    record {
      within = room_still _ _ _ v.items c.loop-i.i c.index_mut.result.now _ c.requires.machine.sound c.requires.within
          (omega (arith, v.ok.0, i.len, c.len-i-end.ensures, c.loop-i-test.true)) c.index_mut.ensures.value i.rest;
    }

pub loop-i-preserved : goal.loop-i-preserved
loop-i-preserved g c =
    let i = c.loop-i.invariant in
    let v = c.loop-i.self.parts in
    record {
      rest = still_rest _ (put_command c.args.at c.args.from.now) _ v.items c.loop-i.i c.index_mut.result.now c.write_box.new.part
          (omega (arith, v.ok.0, i.len, c.len-i-end.ensures, c.loop-i-test.true)) c.index_mut.ensures.value i.rest c.write_box.ensures;
      done = one_commanded _ (put_command c.args.at c.args.from.now) _ v.items c.loop-i.i c.index_mut.result.now c.write_box.new.part
          (omega (arith, v.ok.0, i.len, c.len-i-end.ensures, c.loop-i-test.true)) c.index_mut.ensures.value i.rest c.write_box.ensures _ i.done;
      len = i.len;
      board = i.board;
      queue = i.queue;
      tick = i.tick;
      out = i.out;
      counters = i.counters;
      trace = i.trace;
      draining = i.draining;
    }

pub returns-clause-raw : goal.returns-clause-raw
returns-clause-raw g c =
    let i = c.loop-i.invariant in
    let v = c.loop-i.self.parts in
    sys_same _ _ i.tick (ap (λ (q : Queue). q.pending) i.queue)
    (all_commanded _ (put_command c.args.at c.args.from.now) v.items c.loop-i.i _ (omega (arith, v.ok.0, i.len, c.len-i-end.ensures, c.loop-i-test.false)) (i.done ∙ ap (λ n. map (λ o. with_own_bytes n c.args.from.now o) (map (λ b. (goal.SimObject-dyn g (b.vtable, b.value)).state b.value) c.args.self.now.parts.items)) (let e : c.args.at ≡ ram_base + c.args.at - ram_base = omega arith in e)))
    (ap (λ (o : Out). o.next) i.out) (ap (λ (k : Counted). k.counts) i.counters) (ap (λ (k : Counted). k.since) i.counters) i.trace i.draining
    (ap wires_of i.board) (ap ways_of i.board) (ap (routes_of 0) i.board)
