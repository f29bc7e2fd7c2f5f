use Rattle.std.proofs.Common.{List, ℕ, ◌++◌, subst}
use Rattle.std.specs.Prelude.{codes}
use Rattle.session.specs.Ending.{Refuses, refusal}
use Rattle.session.specs.Names.{shown_name}
use Rattle.gc_outside.specs.Sinks.{sink_seen}
use Rattle.session.specs.declared.status.Status.TheVariants as status
use Rattle.session.proofs.lines.refuse_config.Goals as goal

pub returns-in-Unknown : goal.returns-in-Unknown
returns-in-Unknown g c =
    rw c.in-Unknown.is (subst (λ (x : List ℕ). Refuses (refusal status.Config (codes "config unknown " ++ shown_name x ++ codes "\n")) c.refuse_file.result (sink_seen g.R.Sink c.args.report.now) (sink_seen g.R.Sink c.refuse_file.new.report))
    c.items.ensures c.refuse_file.ensures)

pub returns-in-Missing : goal.returns-in-Missing
returns-in-Missing g c =
    rw c.in-Missing.is (subst (λ (x : List ℕ). Refuses (refusal status.Config (codes "config missing " ++ shown_name x ++ codes "\n")) c.refuse_file-in-Missing.result (sink_seen g.R.Sink c.args.report.now) (sink_seen g.R.Sink c.refuse_file-in-Missing.new.report))
    c.items-in-Missing.ensures c.refuse_file-in-Missing.ensures)

pub returns-in-Value : goal.returns-in-Value
returns-in-Value g c =
    rw c.in-Value.is (subst (λ (x : List ℕ). Refuses (refusal status.Config (codes "config value " ++ shown_name x ++ codes "\n")) c.refuse_file-in-Value.result (sink_seen g.R.Sink c.args.report.now) (sink_seen g.R.Sink c.refuse_file-in-Value.new.report))
    c.items-in-Value.ensures c.refuse_file-in-Value.ensures)

pub returns-in-Shape : goal.returns-in-Shape
returns-in-Shape g c =
    rw c.in-Shape.is (subst (λ (x : List ℕ). Refuses (refusal status.Config (codes "config shape " ++ shown_name x ++ codes "\n")) c.refuse_file-in-Shape.result (sink_seen g.R.Sink c.args.report.now) (sink_seen g.R.Sink c.refuse_file-in-Shape.new.report))
    c.items-in-Shape.ensures c.refuse_file-in-Shape.ensures)
