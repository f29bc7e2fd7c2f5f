use Rattle.std.proofs.Common.{ap, sym, ◌∙◌, length, map, arith, refl}
use Rattle.gm_words.specs.Platform.{own_classes}
use Rattle.gm_words.specs.Shown.{part_shown}
use Rattle.gm_words.specs.declared.platform.Part.{Part as KeptPart}
use Rattle.kernel.proofs.Rows.{count_more, row_of}
use Rattle.kernel.proofs.Tables.{few_at}
use Rattle.kernel.proofs.build.counts.Goals as goal

pub loop-i-preserved : goal.loop-i-preserved
loop-i-preserved c =
    count_more c.args.rows.now c.loop-i.i c.index-rows-i.result c.loop-i-test.true c.index-rows-i.is _ _ _ _ c.in_ok-push.ensures.items
    (omega (arith, c.len.ensures, c.in_ok-classes.classes.ok.0, ap (λ cs. length cs) c.in_ok-classes.ensures, ap (λ (y : KeptPart). length (own_classes y.own)) (sym c.index-rows-i.is)))
    c.loop-i.invariant

pub overflow_cast-len : goal.overflow_cast-len
overflow_cast-len c =
    let at = row_of c.args.rows.now (map part_shown c.args.rows.now) c.loop-i.i c.index-rows-i.result refl c.loop-i-test.true c.index-rows-i.is in
    omega (
      arith,
      c.len.ensures,
      c.in_ok-classes.classes.ok.0,
      ap (λ cs. length cs) c.in_ok-classes.ensures,
      ap (λ (y : KeptPart). length (own_classes y.own)) (sym c.index-rows-i.is),
      few_at (map part_shown c.args.rows.now) c.loop-i.i (part_shown c.index-rows-i.result) c.requires at.0 at.1,
    )
