use Rattle.std.proofs.Common.{◌≡◌, ℕ, ◌+◌, ◌-◌, ◌*◌, ◌≤◌, ◌++◌, List, length}
use Rattle.session.specs.Registers.{x_lines}
use Rattle.session.proofs.registers.put_x_registers.Given as goal

-- the registers below k are there
pub record ArePut (start now x : List ℕ) (k : ℕ) : Type 0 where
  pub lines : now ≡ start ++ x_lines x (k - 1)
  pub room : length now + 21 ≤ length start + 21 * k

abbrev pub invariant-loop-k : goal.invariant-loop-k
invariant-loop-k l = ArePut l.initial.text l.text l.x l.k
