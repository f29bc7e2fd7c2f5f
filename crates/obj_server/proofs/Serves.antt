-- What serving a request asks for is little.
use Rattle.std.proofs.Common.{◌≡◌, ℕ, ◌-◌, ◌≤◌, ◌==◌, sym, ap, ◌∙◌, arith, Bool, true, false, if◌then◌else◌, List, length, Option}
use Rattle.rv_step.specs.FlatMem.{in_ram}
use Rattle.rv_step.specs.Flat.{in_uart, in_exit, uart_base}
use Rattle.gm_words.specs.Kind.{kind_of_own}
use Rattle.gm_words.specs.Platform.{own_classes, slot_classes}
use Rattle.pkt_pool.specs.declared.cmd.Cmd.{Cmd}
use Rattle.pkt_pool.specs.declared.cmd.Cmd.TheVariants as cmds
use Rattle.gm_words.specs.declared.kind.Kind.{Kind}
use Rattle.gm_words.specs.declared.kind.Kind.TheVariants as kinds
use Rattle.gm_words.specs.declared.own.Own.{Own}
use Rattle.gm_words.specs.declared.own.Own.TheVariants as owns
use Rattle.pkt_pool.specs.declared.packet.Packet.{Packet}
use Rattle.gm_model.specs.ObjState.{Device, Memory, Uart, Exit, Timer, UartState, TimerState, device_kind}
use Rattle.gm_model.specs.Serve.{Served}
use Rattle.gm_model.specs.Memory.{serve_memory}
use Rattle.gm_model.specs.Uart.{serve_uart}
use Rattle.gm_model.specs.ExitDevice.{serve_exit}
use Rattle.gm_model.specs.Timer.{TimerRegister, Msip, Compare, Clock, Nowhere, timer_register, serve_timer, timer_read, timer_write}
use Rattle.gm_model.specs.Server.{serve}
use Rattle.gm_model.specs.Stepped.{line_change}

memory_acts : (m : List ℕ) (p : Packet) (c : Cmd) (b : Bool) → length (serve_memory m p c b).acts ≤ 1
memory_acts m p cmds.Read true = omega arith
memory_acts m p cmds.Read false = omega arith
memory_acts m p cmds.Write true = omega arith
memory_acts m p cmds.Write false = omega arith
memory_acts m p cmds.WriteBack true = omega arith
memory_acts m p cmds.WriteBack false = omega arith
memory_acts m p cmds.ReadResp b = omega arith
memory_acts m p cmds.WriteResp b = omega arith

either : (b : Bool) (x y : Served) → length x.acts ≤ 1 → length y.acts ≤ 1 → length (if b then x else y).acts ≤ 1
either true x y h i = h
either false x y h i = i

uart_acts : (u : UartState) (p : Packet) (now : ℕ) (c : Cmd) (b : Bool) → length (serve_uart u p now c b).acts ≤ 1
uart_acts u p now cmds.Read true = either (p.addr - uart_base == 0) _ _ (omega arith) (either (p.addr - uart_base == 5) _ _ (omega arith) (omega arith))
uart_acts u p now cmds.Read false = omega arith
uart_acts u p now cmds.Write true = either (p.addr - uart_base == 0) _ _ (omega arith) (omega arith)
uart_acts u p now cmds.Write false = omega arith
uart_acts u p now cmds.WriteBack b = omega arith
uart_acts u p now cmds.ReadResp b = omega arith
uart_acts u p now cmds.WriteResp b = omega arith

exit_acts : (p : Packet) (c : Cmd) (b : Bool) (code : Option ℕ) → length (serve_exit code p c b).acts ≤ 1
exit_acts p cmds.Write true code = omega arith
exit_acts p cmds.Write false code = omega arith
exit_acts p cmds.Read b code = omega arith
exit_acts p cmds.WriteBack b code = omega arith
exit_acts p cmds.ReadResp b code = omega arith
exit_acts p cmds.WriteResp b code = omega arith

line_acts : (n : ℕ) (a b : Bool) → length (line_change n a b) ≤ 1
line_acts n true true = omega arith
line_acts n true false = omega arith
line_acts n false true = omega arith
line_acts n false false = omega arith

read_acts : (t : TimerState) (p : Packet) (now : ℕ) (r : TimerRegister) → length (timer_read t p now r).acts ≤ 1
read_acts t p now Msip = omega arith
read_acts t p now Compare = omega arith
read_acts t p now Clock = omega arith
read_acts t p now Nowhere = omega arith

write_acts : (t : TimerState) (p : Packet) (now : ℕ) (r : TimerRegister) → length (timer_write t p now r).acts ≤ 1
write_acts t p now Msip = omega arith
write_acts t p now Compare = line_acts _ _ _
write_acts t p now Clock = omega arith
write_acts t p now Nowhere = omega arith

timer_acts : (t : TimerState) (p : Packet) (now : ℕ) (c : Cmd) (r : TimerRegister) → length (serve_timer t p now c r).acts ≤ 1
timer_acts t p now cmds.Read r = read_acts t p now r
timer_acts t p now cmds.Write r = write_acts t p now r
timer_acts t p now cmds.WriteBack r = omega arith
timer_acts t p now cmds.ReadResp r = omega arith
timer_acts t p now cmds.WriteResp r = omega arith

-- at most one act
pub few_acts : (d : Device) (p : Packet) (now : ℕ) → length (serve d p now).acts ≤ 1
few_acts (Memory m) p now = memory_acts m p p.cmd (in_ram m p.addr p.size)
few_acts (Uart u) p now = uart_acts u p now p.cmd (in_uart p.addr p.size)
few_acts (Exit code) p now = exit_acts p p.cmd (in_exit p.addr p.size) code
few_acts (Timer t) p now = timer_acts t p now p.cmd (timer_register p.addr p.size)

-- The slots of a server go by its kind.

by_kind : (own : Own) (d : Device) → kind_of_own own ≡ device_kind d → own_classes own ≡ slot_classes (device_kind d)
by_kind (owns.AtomicCpu period) d e = ap (λ k. slot_classes k) e
by_kind (owns.TimingCpu period) d e = ap (λ k. slot_classes k) e
by_kind (owns.Xbar latency ports) d e = absurd (no_xbar d e) where
  no_xbar : (d : Device) → kinds.Xbar ≡ device_kind d → ⊥
  no_xbar (Memory m) q = cc
  no_xbar (Uart u) q = cc
  no_xbar (Exit code) q = cc
  no_xbar (Timer t) q = cc
by_kind (owns.Cache source sets ways mshrs targets writeq latency) d e = ap (λ k. slot_classes k) e
by_kind (owns.Mem latency queue) d e = ap (λ k. slot_classes k) e
by_kind (owns.Uart latency chartime) d e = ap (λ k. slot_classes k) e
by_kind (owns.Timer latency period) d e = ap (λ k. slot_classes k) e
by_kind (owns.Exit latency) d e = ap (λ k. slot_classes k) e
by_kind (owns.Dma latency period window) d e = ap (λ k. slot_classes k) e

pub server_classes : (own : Own) (d : Device) (k : Kind) → kind_of_own own ≡ k → device_kind d ≡ k → own_classes own ≡ slot_classes k
server_classes own d k e f = by_kind own d (e ∙ sym f) ∙ ap (λ j. slot_classes j) f
