use Rattle.std.proofs.Common.{◌≡◌, ◌++◌, take}
use Rattle.session.specs.Names.{shown_name}
use Rattle.session.proofs.lines.put_shown.Given as goal

-- the bytes so far are there, as they are shown
abbrev pub invariant-loop-b : goal.invariant-loop-b
invariant-loop-b l = l.line ≡ l.initial.line ++ shown_name (take l.b-index l.name)
