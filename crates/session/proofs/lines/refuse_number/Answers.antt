use Rattle.std.proofs.Common.{arith, ap, ◌∙◌, subst, length, ◌++◌, List, ℕ, ◌≡◌, decimal}
use Rattle.std.specs.Prelude.{codes}
use Rattle.std.proofs.lemmas.Fmt.{length-decimal-le}
use Rattle.session.specs.Ending.{Refuses, refusal}
use Rattle.gc_outside.specs.Sinks.{sink_seen}
use Rattle.session.proofs.lines.refuse_number.Goals as goal

pub put_dec-requires : goal.put_dec-requires
put_dec-requires g c =
    let none : length c.new-text.result ≡ 0 = ap length c.new-text.ensures in
    omega (arith, length-decimal-le 20 c.args.n (omega arith) (omega arith) (omega arith), none, c.put_text.ensures.grows)

pub returns : goal.returns
returns g c =
    let all : c.bytes.result.now ≡ c.args.before.now ++ decimal c.args.n ++ codes "\n" =
    c.bytes.ensures.value ∙ (c.put_text-2.ensures.value ∙ ap (λ (x : List ℕ). x ++ codes "\n") (c.put_dec.ensures.value ∙ ap (λ (x : List ℕ). x ++ decimal c.args.n)
    (c.put_text.ensures.value ∙ ap (λ (x : List ℕ). x ++ c.args.before.now) c.new-text.ensures))) in
    subst (λ (l : List ℕ). Refuses (refusal c.args.status l) c.refuse.result (sink_seen g.R.Sink c.args.report.now) (sink_seen g.R.Sink c.refuse.new.report))
    all c.refuse.ensures
