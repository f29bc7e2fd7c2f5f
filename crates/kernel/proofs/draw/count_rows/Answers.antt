use Rattle.std.proofs.Common.{◌≡◌, arith, ap, sym, ◌∙◌, map}
use Rattle.std.proofs.lemmas.List.{length-map}
use Rattle.gm_words.specs.Kind.{kind_of_own}
use Rattle.gm_words.specs.Shown.{part_shown}
use Rattle.gm_words.specs.declared.platform.Part.{Part as KeptPart}
use Rattle.kernel.specs.Build.{rank_of}
use Rattle.kernel.proofs.Draws.{rows_next}
use Rattle.kernel.proofs.Rows.{row_at, counted_more, counted_none}
use Rattle.kernel.proofs.draw.count_rows.Goals as goal
use Rattle.kernel.proofs.draw.count_rows.Goals.{then-rank, else-rank}

pub loop-i-preserved : goal.loop-i-preserved
loop-i-preserved c =
    let i = c.loop-i.invariant in
    let rows = c.args.rows.now in
    let x = c.index-rows-i.result in
    let left = rows_next c.args.kind (map part_shown rows) c.loop-i.i (part_shown x) (rw length-map c.loop-i-test.true) (row_at rows c.loop-i.i x c.loop-i-test.true c.index-rows-i.is) in
    let same : rank_of (kind_of_own x.own) ≡ c.rank.result =
    ap (λ (y : KeptPart). rank_of (kind_of_own y.own)) c.index-rows-i.is ∙ (ap rank_of (sym c.kind.ensures) ∙ sym c.rank.ensures) in
    elim c.if-rank.branch [
      | then-rank w ↦ record {
        counted = counted_more c.loop-i.count _ _ c.if-rank.count _ _ _ left (same ∙ (w.if-rank.true ∙ c.rank-in-loop-i.ensures)) w.count-is i.counted;
        few = omega (arith, i.few, w.count-is);
      }
      | else-rank w ↦ record {
        counted = counted_none c.loop-i.count _ _ c.if-rank.count _ _ _ left (λ e. w.if-rank.false (sym same ∙ (e ∙ sym c.rank-in-loop-i.ensures))) w.count-is i.counted;
        few = omega (arith, i.few, w.count-is);
      }
    ]
