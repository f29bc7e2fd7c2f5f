use Rattle.std.proofs.Common.{ap, ◌∙◌, inl, inr, map, arith, length, subst}
use Rattle.std.proofs.lemmas.Result.{err_from_is_err_and}
use Rattle.gc_outside.specs.Sinks.{sink_seen}
use Rattle.session.specs.Outside.{store_seen}
use Rattle.session.specs.Script.{machine_start, ScriptComesTo}
use Rattle.session.proofs.CallLemmas.{run_script_stops, run_image_stops, run_machine}
use Rattle.session.proofs.CountLemmas.{counts_earlier, build_counts, stops_counts}
use Rattle.session.proofs.EmissionLemmas.{leaves_from, refuses_from}
use Rattle.session.proofs.FetchLemmas.{reads_then}
use Rattle.session.proofs.StopLemmas.{few_stops}
use Rattle.session.proofs.run.run.Goals as goal

pub returns-in_err-config-clause-ends : goal.returns-in_err-config-clause-ends
returns-in_err-config-clause-ends g c =
    let p = err_from_is_err_and c.from_residual.result c.from_residual.ensures.1 in
    let h = c.in_err-config.ensures.stops in
    rw (p.1, p.2) (h.0, inl h.1, h.2, h.3 (sink_seen g.C.Sink c.args.console.now))

pub returns-in_err-script-clause-reads : goal.returns-in_err-script-clause-reads
returns-in_err-script-clause-reads g c = reads_then _ _ _ c.in_ok-config.ensures.reads c.in_err-script.ensures.reads

pub returns-in_err-script-clause-ends : goal.returns-in_err-script-clause-ends
returns-in_err-script-clause-ends g c =
    let p = err_from_is_err_and c.from_residual-in_err-script.result c.from_residual-in_err-script.ensures.1 in
    let h = c.in_err-script.ensures.stops in
    let said = refuses_from _ _ _ _ _ (ap (sink_seen g.R.Sink) c.in_ok-config.ensures.silent) h.3 in
    rw (p.1, p.2) (
      h.0,
      run_script_stops _ (map (λ b. (goal.SimObject-dyn g (b.vtable, b.value)).state b.value) c.args.parts.items) _ (store_seen g.S.Store c.fetch_script.new.store) _ c.in_ok-config.config c.in_ok-config.ensures.config _ c.in_ok-config.ensures.reads h.1,
      counts_earlier h.0 (store_seen g.S.Store c.args.store.now) (store_seen g.S.Store c.fetch_config.new.store) (store_seen g.S.Store c.fetch_script.new.store) c.in_ok-config.ensures.faultless h.2,
      said (sink_seen g.C.Sink c.args.console.now),
    )

pub returns-in_err-image-clause-reads : goal.returns-in_err-image-clause-reads
returns-in_err-image-clause-reads g c =
    reads_then _ _ _ c.in_ok-config.ensures.reads (reads_then _ _ _ c.in_ok-script.ensures.reads c.in_err-image.ensures.reads)

pub returns-in_err-image-clause-ends : goal.returns-in_err-image-clause-ends
returns-in_err-image-clause-ends g c =
    let p = err_from_is_err_and c.from_residual-in_err-image.result c.from_residual-in_err-image.ensures.1 in
    let h = c.in_err-image.ensures.stops in
    let said = refuses_from _ _ _ _ _ (ap (sink_seen g.R.Sink) (c.in_ok-script.ensures.silent ∙ c.in_ok-config.ensures.silent)) h.3 in
    rw (p.1, p.2) (
      h.0,
      run_image_stops _ (map (λ b. (goal.SimObject-dyn g (b.vtable, b.value)).state b.value) c.args.parts.items) _ (store_seen g.S.Store c.fetch_image.new.store) _ c.in_ok-config.config c.in_ok-config.ensures.config _ c.in_ok-config.ensures.reads c.in_ok-script.script.stops c.in_ok-script.ensures.script _ c.in_ok-script.ensures.reads h.1,
      counts_earlier h.0 (store_seen g.S.Store c.args.store.now) (store_seen g.S.Store c.fetch_script.new.store) (store_seen g.S.Store c.fetch_image.new.store) (c.in_ok-script.ensures.faultless ∙ c.in_ok-config.ensures.faultless) h.2,
      said (sink_seen g.C.Sink c.args.console.now),
    )

pub returns-in_err-machine-clause-reads : goal.returns-in_err-machine-clause-reads
returns-in_err-machine-clause-reads g c =
    reads_then _ _ _ c.in_ok-config.ensures.reads (reads_then _ _ _ c.in_ok-script.ensures.reads c.in_ok-image.ensures.reads)

pub returns-in_err-machine-clause-ends : goal.returns-in_err-machine-clause-ends
returns-in_err-machine-clause-ends g c =
    let p = err_from_is_err_and c.from_residual-in_err-machine.result c.from_residual-in_err-machine.ensures.1 in
    let h = c.in_err-machine.ensures.stops in
    let said = refuses_from _ _ _ _ _ (ap (sink_seen g.R.Sink) (c.in_ok-image.ensures.silent ∙ (c.in_ok-script.ensures.silent ∙ c.in_ok-config.ensures.silent))) h.2 in
    rw (p.1, p.2) (
      h.0,
      run_machine _ (map (λ b. (goal.SimObject-dyn g (b.vtable, b.value)).state b.value) c.args.parts.items) _ (store_seen g.S.Store c.fetch_image.new.store) _ c.in_ok-config.config c.in_ok-config.ensures.config _ c.in_ok-config.ensures.reads c.in_ok-script.script.stops c.in_ok-script.ensures.script _ c.in_ok-script.ensures.reads
          c.in_ok-image.image c.in_ok-image.ensures.image (inl h.1),
      build_counts h.0 c.in_ok-config.config (map (λ b. (goal.SimObject-dyn g (b.vtable, b.value)).state b.value) c.args.parts.items) (store_seen g.S.Store c.args.store.now) (store_seen g.S.Store c.fetch_image.new.store) h.1 (c.in_ok-image.ensures.faultless ∙ (c.in_ok-script.ensures.faultless ∙ c.in_ok-config.ensures.faultless)),
      said (sink_seen g.C.Sink c.args.console.now),
    )

pub perform-requires-clause-few : goal.perform-requires-clause-few
perform-requires-clause-few g c =
    let script = c.in_ok-script.ensures.script in
    omega (arith, few_stops script.bytes c.in_ok-script.script.stops script.says, ap length c.items.ensures)

pub returns-clause-reads : goal.returns-clause-reads
returns-clause-reads g c =
    reads_then _ _ _ c.in_ok-config.ensures.reads (reads_then _ _ _ c.in_ok-script.ensures.reads c.in_ok-image.ensures.reads)

pub returns-clause-ends : goal.returns-clause-ends
returns-clause-ends g c =
    let start = machine_start c.in_ok-config.config c.in_ok-image.image in
    let h = c.perform.ensures in
    let comes = subst (λ xs. ScriptComesTo c.in_ok-config.config start xs h.0) c.items.ensures h.1 in (
      h.0,
      run_machine _ (map (λ b. (goal.SimObject-dyn g (b.vtable, b.value)).state b.value) c.args.parts.items) _ (store_seen g.S.Store c.fetch_image.new.store) _ c.in_ok-config.config c.in_ok-config.ensures.config _ c.in_ok-config.ensures.reads c.in_ok-script.script.stops c.in_ok-script.ensures.script _ c.in_ok-script.ensures.reads
          c.in_ok-image.image c.in_ok-image.ensures.image (inr (c.in_ok-machine.ensures.whole, comes)),
      stops_counts h.0 c.in_ok-config.config start c.in_ok-script.script.stops (store_seen g.S.Store c.args.store.now) (store_seen g.S.Store c.fetch_image.new.store) comes
          (c.in_ok-image.ensures.faultless ∙ (c.in_ok-script.ensures.faultless ∙ c.in_ok-config.ensures.faultless)),
      leaves_from _ _ (sink_seen g.C.Sink c.args.console.now) _ _ _
          (ap (sink_seen g.R.Sink) (c.in_ok-machine.ensures.silent ∙ (c.in_ok-image.ensures.silent ∙ (c.in_ok-script.ensures.silent ∙ c.in_ok-config.ensures.silent)))) h.2,
    )
