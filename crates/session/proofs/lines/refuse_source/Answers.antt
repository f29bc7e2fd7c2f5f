use Rattle.std.proofs.Common.{arith, rules, ap, subst, length, ◌≡◌, ◌++◌, List, ℕ, decimal}
use Rattle.std.specs.Prelude.{codes}
use Rattle.std.proofs.lemmas.Fmt.{length-decimal-le}
use Rattle.rv_asm.specs.Faults.{kind_name}
use Rattle.session.specs.Ending.{Refuses, refusal}
use Rattle.gc_outside.specs.Sinks.{sink_seen}
use Rattle.session.specs.declared.status.Status.TheVariants as status
use Rattle.session.proofs.lines.refuse_source.Goals as goal

pub put_dec-requires : goal.put_dec-requires
put_dec-requires g c =
    let none : length c.new-text.result ≡ 0 = ap length c.new-text.ensures in
    omega (arith, length-decimal-le 20 c.in-Line.line (omega arith) (omega arith) (omega arith), none, c.put_text.ensures.grows)

pub returns-in-Line : goal.returns-in-Line
returns-in-Line g c =
    let all : c.bytes.result.now ≡ codes "source line " ++ decimal c.in-Line.line ++ codes " " ++ kind_name c.in-Line.kind ++ codes "\n" = search rules in
    rw c.in-Line.is (subst (λ (l : List ℕ). Refuses (refusal status.Source l) c.refuse.result (sink_seen g.R.Sink c.args.report.now) (sink_seen g.R.Sink c.refuse.new.report)) all c.refuse.ensures)
