use Rattle.std.proofs.Common.{arith}
use Rattle.probe_stats.proofs.OneMore.{one_more-set, one_more-past, below-at}
use Rattle.probe_stats.proofs.counters.count_one.Goals as goal

pub overflow_add-index_mut : goal.overflow_add-index_mut
overflow_add-index_mut c =
    let v = c.args.counts.now in
    let most = below-at 18446744073709551615 v.items c.args.object.0 c.index_mut.result.now c.requires (omega (arith, v.ok.0, c.len.ensures, c.if-place-len.true)) in
    omega (arith, most, c.index_mut.ensures.value)

pub returns-then-place-len-clause-more : goal.returns-then-place-len-clause-more
returns-then-place-len-clause-more c =
    let v = c.args.counts.now in
    one_more-set v.items c.args.object.0 c.index_mut.result.now (omega (arith, v.ok.0, c.len.ensures, c.if-place-len.true)) c.index_mut.ensures.value

pub returns-else-place-len-clause-more : goal.returns-else-place-len-clause-more
returns-else-place-len-clause-more c =
    let v = c.args.counts.now in
    one_more-past v.items c.args.object.0 (omega (arith, v.ok.0, c.len.ensures, c.if-place-len.false))
