use Rattle.std.proofs.Common.{◌≡◌, ◌<◌, ◌≤◌, ap, refl, sym, length, map, arith}
use Rattle.std.proofs.lemmas.List.{length-map}
use Rattle.gm_words.specs.Shown.{part_shown}
use Rattle.probe_stats.specs.Counted.{Counted}
use Rattle.probe_stats.proofs.StatsLemmas.{no_path, short_path}
use Rattle.probe_stats.proofs.counters.Counters.path.Goals as goal

pub returns-then-place-len-clause-short : goal.returns-then-place-len-clause-short
returns-then-place-len-clause-short c =
    let ps = c.self.inside.parts.items in
    let within : c.args.object.0 < length ps = omega (arith, c.self.inside.parts.ok.0, c.len.ensures, c.if-place-len.true) in
    rw c.as_bytes.ensures.value (short_path ps c.args.object.0 c.index.result.now c.self.invariant.1 within c.index.ensures)

pub returns-else-place-len-clause-path : goal.returns-else-place-len-clause-path
returns-else-place-len-clause-path c =
    let ps = c.self.inside.parts.items in
    let past : length ps ≤ c.args.object.0 = omega (arith, c.self.inside.parts.ok.0, c.len.ensures, c.if-place-len.false) in
    no_path (map part_shown ps) _ c.args.object.0 _ refl (sym (ap (λ (k : Counted). k.parts) c.self.view_is)) (rw length-map past)
