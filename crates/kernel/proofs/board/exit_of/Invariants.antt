use Rattle.std.proofs.Common.{◌≡◌, map, drop}
use Rattle.rv_step.specs.Flat.{exit_base}
use Rattle.gm_words.specs.Routes.{destination, routes_of}
use Rattle.gm_words.specs.Shown.{part_shown}
use Rattle.kernel.proofs.board.exit_of.Given as goal

-- the address goes where the routes to the rows that are left lead
abbrev pub invariant-loop-i : goal.invariant-loop-i
invariant-loop-i l = destination (routes_of l.i (drop l.i (map part_shown l.rows))) exit_base ≡ destination (routes_of 0 (map part_shown l.rows)) exit_base
