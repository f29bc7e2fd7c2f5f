use Rattle.std.proofs.Common.{◌≡◌, ℕ, suc, ◌-◌, ◌++◌, List, sym, ap, ◌∙◌, append-nil, append_assoc, arith, decimal}
use Rattle.std.specs.Prelude.{codes, slice_index}
use Rattle.session.specs.Registers.{set_line, x_lines}
use Rattle.session.proofs.registers.put_x_registers.Goals as goal

-- the line of the next register completes them
x_lines-next : (text x : List ℕ) (k n : ℕ) → k ≡ suc n → text ++ x_lines x n ++ set_line (codes "x" ++ decimal k) (slice_index x k) ≡ text ++ x_lines x k
unfolding x_lines
x_lines-next text x k n e = rw e (append_assoc text (x_lines x n) (set_line (codes "x" ++ decimal (suc n)) (slice_index x (suc n))))

pub loop-k-init : goal.loop-k-init
unfolding x_lines
loop-k-init c = record { lines = sym (append-nil _); room = omega arith }

pub loop-k-preserved : goal.loop-k-preserved
loop-k-preserved c = record {
  lines =
      c.put_x_register.ensures.line
      ∙ ap (λ (t : List ℕ). t ++ set_line (codes "x" ++ decimal c.loop-k.k) (slice_index c.args.x.now c.loop-k.k)) c.loop-k.invariant.lines
      ∙ x_lines-next c.args.text.now c.args.x.now c.loop-k.k (c.loop-k.k - 1) (omega arith)
      ∙ ap (λ (n : ℕ). c.args.text.now ++ x_lines c.args.x.now n) (omega arith);
  room = omega (arith, c.put_x_register.ensures.room, c.loop-k.invariant.room);
}
