-- How many write-backs are in a queue.
use Rattle.std.proofs.Common.{◌≡◌, ℕ, ◌+◌, ◌≤◌, List, [], ◌∷◌, ◌++◌, refl, arith, length}
use Rattle.gm_cache.specs.Rule.{backs, back_bit}
use Rattle.gm_model.specs.Flows.{Outlet, put_in, gone_in}
use Rattle.gm_words.specs.Flow.{Queued, OutState}
use Rattle.obj_cache.specs.Leaving.{first_bit}
use Rattle.pkt_pool.specs.declared.cmd.Cmd.{Cmd}
use Rattle.pkt_pool.specs.declared.cmd.Cmd.TheVariants as cmds
use Rattle.pkt_pool.specs.declared.packet.Packet.{Packet}

bit_le : (c : Cmd) → back_bit c ≤ 1
bit_le cmds.WriteBack = omega arith
bit_le cmds.Read = omega arith
bit_le cmds.Write = omega arith
bit_le cmds.ReadResp = omega arith
bit_le cmds.WriteResp = omega arith

pub backs-le : (xs : List Queued) → backs xs ≤ length xs
unfolding backs
backs-le [] = omega arith
backs-le (x ∷ xs) = omega (arith, bit_le x.packet.cmd, backs-le xs)

pub backs-last : (xs : List Queued) (y : Queued) → backs (xs ++ y ∷ []) ≡ backs xs + back_bit y.packet.cmd
unfolding backs
backs-last [] y = omega arith
backs-last (x ∷ xs) y = omega (arith, backs-last xs y)

pub put_backs : (o : Outlet) (p : Packet) (at : ℕ) (items : List Queued) (out : OutState) → backs (put_in o p at items out).flow.items ≡ backs items + back_bit p.cmd
unfolding backs
put_backs o p at [] out = omega arith
put_backs o p at (x ∷ xs) out = backs-last (x ∷ xs) _

pub gone_backs : (o : Outlet) (at : ℕ) (items : List Queued) → backs (gone_in o at items).flow.items + first_bit items ≡ backs items
unfolding backs
gone_backs o at [] = refl
gone_backs o at (x ∷ []) = omega arith
gone_backs o at (x ∷ y ∷ ys) = omega arith

pub first-le : (items : List Queued) → first_bit items ≤ backs items
unfolding backs
first-le [] = omega arith
first-le (x ∷ xs) = omega arith

pub backs-none : backs [] ≡ 0
unfolding backs
backs-none = refl
