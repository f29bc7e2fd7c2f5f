use Rattle.std.proofs.Common.{refl}
use Rattle.gc_outside.specs.Sinks.{sink_seen}
use Rattle.session.proofs.EndsLemmas.{ends-flat, ends-run, ends-assembly, ends-usage, puts-flat, puts-run, puts-assembly, puts-nothing}
use Rattle.session.proofs.top_call.perform.Goals as goal

pub returns-in-Some-clause-puts : goal.returns-in-Some-clause-puts
returns-in-Some-clause-puts g c = puts-flat _ _ _ _ _ c.in-Some.ensures c.flat.ensures.reads

pub returns-in-Some-clause-ends : goal.returns-in-Some-clause-ends
returns-in-Some-clause-ends g c = ends-flat _ _ _ _ _ _ c.in-Some.ensures c.flat.ensures.ends

pub returns-in-Some-read-clause-puts : goal.returns-in-Some-read-clause-puts
returns-in-Some-read-clause-puts g c = puts-run _ _ _ _ _ c.in_default.ensures c.in-Some-read.ensures c.run.ensures.reads

pub returns-in-Some-read-clause-ends : goal.returns-in-Some-read-clause-ends
returns-in-Some-read-clause-ends g c = ends-run _ _ _ _ _ _ c.in_default.ensures c.in-Some-read.ensures c.run.ensures.ends

pub returns-in-Some-read-2-clause-puts : goal.returns-in-Some-read-2-clause-puts
returns-in-Some-read-2-clause-puts g c = puts-assembly _ _ _ _ _ _ _ c.in_default.ensures c.in_default-read.ensures c.in-Some-read-2.ensures c.assembly.ensures

pub returns-in-Some-read-2-clause-ends : goal.returns-in-Some-read-2-clause-ends
returns-in-Some-read-2-clause-ends g c =
    let e = c.assembly.ensures in
    ends-assembly _ _ _ _ _ _ c.in_default.ensures c.in_default-read.ensures c.in-Some-read-2.ensures (e.0, e.1, e.2, e.3 (sink_seen g.C.Sink c.args.console.now))

pub returns-clause-puts : goal.returns-clause-puts
returns-clause-puts g c = puts-nothing _ _ _ _ c.in_default.ensures c.in_default-read.ensures c.in-None.ensures (record { files = refl; open_put = refl })

pub returns-clause-ends : goal.returns-clause-ends
returns-clause-ends g c =
    ends-usage _ _ _ _ _ c.in_default.ensures c.in_default-read.ensures c.in-None.ensures refl (c.refuse.ensures (sink_seen g.C.Sink c.args.console.now))
