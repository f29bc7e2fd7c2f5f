use Rattle.std.proofs.Common.{◌≡◌, ◌+◌, ap, sym, ◌∙◌, cond, Bool, Option, Some, ℕ, map, drop}
use Rattle.rv_step.specs.Flat.{exit_base}
use Rattle.gm_words.specs.Routes.{destination, routes_of}
use Rattle.gm_words.specs.Shown.{part_shown}
use Rattle.kernel.proofs.Rows.{exit_first}
use Rattle.kernel.proofs.board.exit_of.Goals as goal

pub loop-i-preserved : goal.loop-i-preserved
loop-i-preserved c =
    let rest : Option ℕ = destination (routes_of (c.loop-i.i + 1) (drop (c.loop-i.i + 1) (map part_shown c.args.rows.now))) exit_base in
    ap (λ (b : Bool). cond b (Some c.loop-i.i) rest) (sym c.if-has_exit.false)
    ∙ (sym (exit_first c.args.rows.now c.loop-i.i c.index-rows-i.result c.loop-i-test.true c.index-rows-i.is exit_base c.has_exit.result c.has_exit.ensures) ∙ c.loop-i.invariant)

pub returns-then-has_exit : goal.returns-then-has_exit
returns-then-has_exit c =
    let rest : Option ℕ = destination (routes_of (c.loop-i.i + 1) (drop (c.loop-i.i + 1) (map part_shown c.args.rows.now))) exit_base in
    ap (λ (b : Bool). cond b (Some c.loop-i.i) rest) (sym c.if-has_exit.true)
    ∙ (sym (exit_first c.args.rows.now c.loop-i.i c.index-rows-i.result c.loop-i-test.true c.index-rows-i.is exit_base c.has_exit.result c.has_exit.ensures) ∙ c.loop-i.invariant)
