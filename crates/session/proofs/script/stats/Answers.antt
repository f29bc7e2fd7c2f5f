use Rattle.std.proofs.Common.{arith, ◌<◌, ◌≤◌, length}
use Rattle.gc_outside.proofs.InOrder.{not_ok}
use Rattle.gc_outside.proofs.Lines.{all_written, line_cut, line_written, none_written}
use Rattle.probe_stats.specs.Stats.{stats_pairs}
use Rattle.session.proofs.StatLemmas.{line_told, no_line_told, not_before, pairs_few}
use Rattle.session.proofs.script.stats.Goals as goal

pub loop-now-init : goal.loop-now-init
loop-now-init g c = record {
  within = omega arith;
  empty = c.new-line.ensures;
  written = none_written _ _;
}

pub overflow_add-n : goal.overflow_add-n
overflow_add-n g c =
    let l : c.loop-now.n < length (stats_pairs c.args.counters.now c.args.now) = c.text_line.ensures.more.0 c.loop-now-test.true in
    omega (arith, l, pairs_few c.args.counters.now c.args.now)

pub loop-now-preserved : goal.loop-now-preserved
loop-now-preserved g c =
    let i = c.loop-now.invariant in
    let l : c.loop-now.n < length (stats_pairs c.args.counters.now c.args.now) = c.text_line.ensures.more.0 c.loop-now-test.true in
    record {
      within = omega (arith, l);
      empty = c.clear.ensures;
      written = line_written _ _ c.loop-now.n _ _ (line_told _ c.loop-now.n _ _ l i.empty c.text_line.ensures.value) i.written _ _ c.bytes.ensures.value c.in_ok-say.ensures;
    }

pub returns-in_err-say : goal.returns-in_err-say
returns-in_err-say g c =
    let i = c.loop-now.invariant in
    let l : c.loop-now.n < length (stats_pairs c.args.counters.now c.args.now) = c.text_line.ensures.more.0 c.loop-now-test.true in
    rw (not_ok c.from_residual.result c.from_residual.ensures.0)
    (line_cut _ _ c.loop-now.n _ _ (line_told _ c.loop-now.n _ _ l i.empty c.text_line.ensures.value) i.written _ _ c.bytes.ensures.value c.in_err-say.ensures)

pub returns : goal.returns
returns g c =
    let past : length (stats_pairs c.args.counters.now c.args.now) ≤ c.loop-now.n = not_before _ _ (λ l. absurd (cc (c.loop-now-test.false, c.loop-now-test.ensures.more.1 l))) in
    all_written _ _ c.loop-now.n _ (no_line_told _ c.loop-now.n past) c.loop-now.invariant.written
