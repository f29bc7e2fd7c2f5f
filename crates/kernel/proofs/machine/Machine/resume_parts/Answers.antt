use Rattle.std.proofs.Common.{arith, refl, sym, ap, map, ◌∙◌}
use Rattle.std.proofs.lemmas.List.{length-map}
use Rattle.gm_model.specs.Command.{resume_step}
use Rattle.gm_words.specs.Platform.{wires_of, ways_of}
use Rattle.gm_words.specs.Routes.{routes_of}
use Rattle.obj_core.specs.Out.{Out}
use Rattle.probe_stats.specs.Counted.{Counted}
use Rattle.kernel.proofs.Changes.{sys_same, all_commanded, all_changed, from_start, still_rest, one_commanded, one_changed, handles_still}
use Rattle.kernel.proofs.machine.Machine.resume_parts.Goals as goal

pub loop-i-init : goal.loop-i-init
loop-i-init g c = record {
  rest = refl;
  resumed = from_start (λ o. resume_step o c.args.self.now.tick) _;
  events = refl;
  len = refl;
  board = refl;
  table = refl;
  tick = refl;
  out = refl;
  counters = refl;
  trace = refl;
  draining = refl;
}

pub resume_box-requires-clause-handles : goal.resume_box-requires-clause-handles
resume_box-requires-clause-handles g c =
    let i = c.loop-i.invariant in
    let v = c.loop-i.self.parts in
    handles_still _ _ _ _ v.items c.loop-i.i c.index_mut.result.now c.requires.sound i.table
    (omega (arith, v.ok.0, i.len, c.len-i-end.ensures, c.loop-i-test.true)) c.index_mut.ensures.value i.rest

pub loop-i-preserved : goal.loop-i-preserved
loop-i-preserved g c =
    let i = c.loop-i.invariant in
    let v = c.loop-i.self.parts in
    record {
      rest = still_rest _ (λ o. resume_step o c.args.self.now.tick) _ v.items c.loop-i.i c.index_mut.result.now c.resume_box.new.part
          (omega (arith, v.ok.0, i.len, c.len-i-end.ensures, c.loop-i-test.true)) c.index_mut.ensures.value i.rest (rw (sym i.tick) c.resume_box.ensures.state);
      resumed = one_commanded _ (λ o. resume_step o c.args.self.now.tick) _ v.items c.loop-i.i c.index_mut.result.now c.resume_box.new.part
          (omega (arith, v.ok.0, i.len, c.len-i-end.ensures, c.loop-i-test.true)) c.index_mut.ensures.value i.rest (rw (sym i.tick) c.resume_box.ensures.state) _ i.resumed;
      events = one_changed _ (λ o. resume_step o c.args.self.now.tick) _ v.items c.loop-i.i c.index_mut.result.now c.resume_box.new.part
          (omega (arith, v.ok.0, i.len, c.len-i-end.ensures, c.loop-i-test.true)) c.index_mut.ensures.value i.rest (rw (sym i.tick) c.resume_box.ensures.state)
          c.loop-i.self.queue c.resume_box.new.q _ (rw (sym i.tick) c.resume_box.ensures.events) i.events;
      len = i.len;
      board = i.board;
      table = ap (λ q. q.table) c.resume_box.ensures.events ∙ i.table;
      tick = i.tick;
      out = i.out;
      counters = i.counters;
      trace = i.trace;
      draining = i.draining;
    }

pub returns-clause-resumed : goal.returns-clause-resumed
returns-clause-resumed g c =
    let i = c.loop-i.invariant in
    let v = c.loop-i.self.parts in
    sys_same _ _ i.tick (all_changed (λ o. resume_step o c.args.self.now.tick) c.loop-i.i _ _ _ (rw length-map (omega (arith, c.args.self.now.parts.ok.0, c.len-i-end.ensures, c.loop-i-test.false))) i.events)
    (all_commanded _ (λ o. resume_step o c.args.self.now.tick) v.items c.loop-i.i _ (omega (arith, v.ok.0, i.len, c.len-i-end.ensures, c.loop-i-test.false)) i.resumed)
    (ap (λ (o : Out). o.next) i.out) (ap (λ (k : Counted). k.counts) i.counters) (ap (λ (k : Counted). k.since) i.counters) i.trace i.draining
    (ap wires_of i.board) (ap ways_of i.board) (ap (routes_of 0) i.board)
