-- What serving a request is, for each device.
use Rattle.std.proofs.Common.{◌≡◌, ℕ, ◌+◌, ◌-◌, ◌≤◌, ◌==◌, cond, ◌&&◌, ◌||◌, Bool, true, false, List, [], ◌∷◌, refl, sym, ap, subst, arith, Option, replicate, drop}
use Rattle.std.proofs.lemmas.Grind.{common_steps}
use Rattle.std.proofs.lemmas.Bool.Decides.{nat_tests}
use Rattle.std.proofs.lemmas.List.{length-replicate}
use Rattle.rv_step.specs.FlatMem.{in_ram, ram_put}
use Rattle.rv_step.specs.Flat.{in_uart, in_exit, uart_base}
use Rattle.gm_model.specs.ObjState.{Device, Memory, Uart, Exit, UartState, Timer}
use Rattle.pkt_pool.specs.Packet.{is_response, read_response, write_response, carried_bytes, is_write_back}
use Rattle.gm_words.specs.Numbers.{carried_number}
use Rattle.gm_words.specs.Platform.{is_within}
use Rattle.gm_words.specs.Routes.{Route, is_unmapped}
use Rattle.gm_model.specs.Serve.{Served, served, ignored}
use Rattle.gm_model.specs.Server.{serve, event_acts}
use Rattle.gm_model.specs.Memory.{serve_memory}
use Rattle.gm_model.specs.Uart.{serve_uart, first_byte, line_status}
use Rattle.gm_model.specs.ExitDevice.{serve_exit, kept_code}
use Rattle.gm_words.specs.Entries.{ram_bytes, served_entries}
use Rattle.gm_words.specs.Changes.{Schedule, due_after}
use Rattle.pkt_pool.specs.declared.cmd.Cmd.{Cmd}
use Rattle.pkt_pool.specs.declared.cmd.Cmd.TheVariants as cmds
use Rattle.pkt_pool.specs.declared.packet.Packet.{Packet}
use Rattle.gm_laws.specs.Faces.{device_due, device_range}
use Rattle.gm_laws.specs.Program.{read, written, device_read, device_written}
use Rattle.gm_laws.proofs.Answering.{ServeFacts, one_serves, outside, ignored_facts, read_facts, write_facts, refused_read, refused_write}
use Rattle.gm_laws.proofs.Timers.{timer_facts, come_levels, come_light}
use Rattle.gm_laws.proofs.Lines.{AllLevels}
use Rattle.gm_laws.specs.Fuel.{weight}
use Rattle.gm_model.specs.Timer.{timer_register, serve_timer}

one_byte : (address count : ℕ) → in_uart address count ≡ true → 1 ≡ count
one_byte address count h = grind (arith, common_steps, nat_tests, h)

module _ (rs : List Route) (ram : ℕ) (q : Packet) (now : ℕ) where
  memory_facts : (b : List ℕ) (c : Cmd) (within : Bool) → q.cmd ≡ c → is_write_back c ≡ false → in_ram b q.addr q.size ≡ within
      → (is_response c ≡ false → is_unmapped rs q.addr ≡ false)
      → ServeFacts rs ram (Memory b) q (serve_memory b q c within)
  memory_facts b cmds.Read true c n w u = record {
    response = refl;
    id = refl;
    range = λ n. refl;
    due = λ n h. refl;
    own = λ x. refl;
    stays = λ h. cc;
    remains = λ h. cc;
    levels = tt;
    light = omega arith;
    serves =
        λ m l s. (let r : Packet = read_response q (ram_bytes b q.addr q.size) in rw (sym s) (one_serves rs b b q r (served_entries q r false) (read b c refl w (u refl))));
  }
  memory_facts b cmds.Read false c n w u = refused_read rs ram q (Memory b) c (record {
    response = refl;
    id = refl;
    range = λ n. refl;
    due = λ n h. refl;
    own = λ x. refl;
    stays = λ h. cc;
    remains = λ h. cc;
    levels = tt;
    light = omega arith;
    serves = λ m l s. (let p : Packet = read_response q (replicate q.size 0) in let r : Packet = record p { fault = true } in
        rw (sym s) (one_serves rs b b q r (served_entries q r true) (device_read b (replicate q.size 0) true c refl (length-replicate q.size 0) w (u refl))));
  })
  memory_facts b cmds.Write true c n w u = record {
    response = refl;
    id = refl;
    range = λ n. refl;
    due = λ n h. refl;
    own = λ x. refl;
    stays = λ h. cc;
    remains = λ h. cc;
    levels = tt;
    light = omega arith;
    serves =
        λ m l s. (let r : Packet = write_response q in rw (sym s) (one_serves rs b (ram_put b q.addr (carried_bytes q)) q r (served_entries q r false) (written b c refl w (u refl))));
  }
  memory_facts b cmds.Write false c n w u = refused_write rs ram q (Memory b) c (record {
    response = refl;
    id = refl;
    range = λ n. refl;
    due = λ n h. refl;
    own = λ x. refl;
    stays = λ h. cc;
    remains = λ h. cc;
    levels = tt;
    light = omega arith;
    serves = λ m l s. (let p : Packet = write_response q in let r : Packet = record p { fault = true } in
        rw (sym s) (one_serves rs b b q r (served_entries q r true) (device_written b true c refl w (u refl))));
  })
  memory_facts b cmds.WriteBack within c n w u = cc
  memory_facts b cmds.ReadResp within c n w u = ignored_facts rs ram q (Memory b) (ap is_response c)
  memory_facts b cmds.WriteResp within c n w u = ignored_facts rs ram q (Memory b) (ap is_response c)

  uart_facts : (u : UartState) (c : Cmd) (within : Bool) → q.cmd ≡ c → is_write_back c ≡ false → in_uart q.addr q.size ≡ within
      → (is_response c ≡ false → is_unmapped rs q.addr ≡ false)
      → (is_response c ≡ false → (m : List ℕ) → in_ram m q.addr q.size ≡ false) → ServeFacts rs ram (Uart u) q (serve_uart u q now c within)
  uart_facts u cmds.Read true c n w m o = by_offset (q.addr - uart_base == 0) (q.addr - uart_base == 5) where
    answer : (v : UartState) (b : ℕ) → v.busy ≡ u.busy → ServeFacts rs ram (Uart u) q (served (Uart v) q (read_response q (b ∷ [])) true)
    answer v b e =
        read_facts rs ram q (Uart u) (Uart v) (b ∷ []) q.fault c (one_byte q.addr q.size w) refl refl (λ n. refl) (λ n. ap (λ t. t && (n == 1)) e) (m refl)
        (o refl)

    by_offset : (b d : Bool) → ServeFacts rs ram (Uart u) q (cond b (served (Uart (record u { input = drop 1 u.input })) q (read_response q (first_byte u.input ∷ [])) true)
        (cond d (served (Uart u) q (read_response q (line_status u ∷ [])) true) (served (Uart u) q (read_response q (0 ∷ [])) true)))
    by_offset true d = answer (record u { input = drop 1 u.input }) (first_byte u.input) refl
    by_offset false true = answer u (line_status u) refl
    by_offset false false = answer u 0 refl
  uart_facts u cmds.Read false c n w m o =
      refused_read rs ram q (Uart u) c (read_facts rs ram q (Uart u) (Uart u) (replicate q.size 0) true c (length-replicate q.size 0) refl refl (λ n. refl) (λ n. refl) (m refl) (o refl))
  uart_facts u cmds.Write true c n w m o = by_offset (q.addr - uart_base == 0) where
    busy_due : (n : ℕ) (at : ℕ) → (true && (n == 1)) ≡ due_after (Schedule 1 30 at ∷ []) (u.busy && (n == 1)) n
    busy_due n at = by (n == 1) where
      by : (b : Bool) → b ≡ cond b true (u.busy && b)
      by true = refl
      by false = none u.busy where
        none : (x : Bool) → false ≡ (x && false)
        none true = refl
        none false = refl

    by_offset : (b : Bool) → ServeFacts rs ram (Uart u) q (cond b (let s : Served = served (Uart (record u { busy = true })) q (write_response q) true in record s { changes = Schedule 1 30 (now + u.chartime) ∷ [] })
        (served (Uart u) q (write_response q) true))
    by_offset true =
        write_facts rs ram q (Uart u) (Uart (record u { busy = true })) q.fault (Schedule 1 30 (now + u.chartime) ∷ []) [] tt (omega arith) c refl refl
        (λ n. refl) (λ n h. busy_due n (now + u.chartime)) (λ x. refl) (m refl) (o refl)
    by_offset false = write_facts rs ram q (Uart u) (Uart u) q.fault [] [] tt (omega arith) c refl refl (λ n. refl) (λ n h. refl) (λ x. refl) (m refl) (o refl)
  uart_facts u cmds.Write false c n w m o =
      refused_write rs ram q (Uart u) c (write_facts rs ram q (Uart u) (Uart u) true [] [] tt (omega arith) c refl refl (λ n. refl) (λ n h. refl) (λ x. refl) (m refl) (o refl))
  uart_facts u cmds.WriteBack within c n w m o = cc
  uart_facts u cmds.ReadResp within c n w m o = ignored_facts rs ram q (Uart u) (ap is_response c)
  uart_facts u cmds.WriteResp within c n w m o = ignored_facts rs ram q (Uart u) (ap is_response c)

  exit_facts : (k : Option ℕ) (c : Cmd) (within : Bool) → q.cmd ≡ c → is_write_back c ≡ false → (is_response c ≡ false → is_unmapped rs q.addr ≡ false)
      → (is_response c ≡ false → (m : List ℕ) → in_ram m q.addr q.size ≡ false) → ServeFacts rs ram (Exit k) q (serve_exit k q c within)
  exit_facts k cmds.Read within c n m o =
      refused_read rs ram q (Exit k) c (read_facts rs ram q (Exit k) (Exit k) (replicate q.size 0) true c (length-replicate q.size 0) refl refl (λ n. refl) (λ n. refl) (m refl) (o refl))
  exit_facts k cmds.Write true c n m o =
      write_facts rs ram q (Exit k) (Exit (kept_code k (carried_number q))) q.fault [] [] tt (omega arith) c refl refl (λ n. refl) (λ n h. refl)
      (λ x. refl) (m refl) (o refl)
  exit_facts k cmds.Write false c n m o =
      refused_write rs ram q (Exit k) c (write_facts rs ram q (Exit k) (Exit k) true [] [] tt (omega arith) c refl refl (λ n. refl) (λ n h. refl) (λ x. refl) (m refl) (o refl))
  exit_facts k cmds.WriteBack within c n m o = cc
  exit_facts k cmds.ReadResp within c n m o = ignored_facts rs ram q (Exit k) (ap is_response c)
  exit_facts k cmds.WriteResp within c n m o = ignored_facts rs ram q (Exit k) (ap is_response c)

  -- a request within the device's addresses, or a response
  pub serve_facts : (d : Device) → is_write_back q.cmd ≡ false → (is_response q.cmd || is_within q.addr (device_range ram d)) ≡ true
      → ((address : ℕ) → is_within address (device_range ram d) ≡ true → is_unmapped rs address ≡ false) → ServeFacts rs ram d q (serve d q now)
  serve_facts (Memory b) n a mapped =
      memory_facts b q.cmd (in_ram b q.addr q.size) refl n refl
      (λ e. mapped q.addr (subst (λ t. (t || is_within q.addr (device_range ram (Memory b))) ≡ true) e a))
  serve_facts (Uart u) n a mapped =
      let w : is_response q.cmd ≡ false → is_within q.addr (device_range ram (Uart u)) ≡ true = (λ e. subst (λ t. (t || is_within q.addr (device_range ram (Uart u))) ≡ true) e a) in
      uart_facts u q.cmd (in_uart q.addr q.size) refl n refl (λ e. mapped q.addr (w e))
      (λ e m. outside m q.addr q.size 0x10000000 0x10000fff (w e) (omega arith))
  serve_facts (Exit k) n a mapped =
      let w : is_response q.cmd ≡ false → is_within q.addr (device_range ram (Exit k)) ≡ true = (λ e. subst (λ t. (t || is_within q.addr (device_range ram (Exit k))) ≡ true) e a) in
      exit_facts k q.cmd (in_exit q.addr q.size) refl n (λ e. mapped q.addr (w e)) (λ e m. outside m q.addr q.size 0x100000 0x100fff (w e) (omega arith))
  serve_facts (Timer t) n a mapped =
      let w : is_response q.cmd ≡ false → is_within q.addr (device_range ram (Timer t)) ≡ true = (λ e. subst (λ b. (b || is_within q.addr (device_range ram (Timer t))) ≡ true) e a) in
      timer_facts rs ram q now t q.cmd (timer_register q.addr q.size) refl n (λ e. mapped q.addr (w e))
      (λ e m. outside m q.addr q.size 0x2000000 0x200ffff (w e) (omega arith))

-- a write-back changes memory alone
pub record WriteBackFacts (d : Device) (r : Served) : Type 0 where
  pub range : (n : ℕ) → device_range n r.device ≡ device_range n d
  pub due : (n : ℕ) → device_due r.device n ≡ due_after r.changes (device_due d n) n
  pub own : (x : Bool) → due_after r.changes x 0 ≡ x
  pub levels : AllLevels r.acts
  pub light : weight r.acts ≤ 1

ignored_back : (d e : Device) (q : Packet) → ((n : ℕ) → device_range n e ≡ device_range n d) → ((n : ℕ) → device_due e n ≡ device_due d n)
    → WriteBackFacts d (ignored e q)
ignored_back d e q range due = record { range = range; due = due; own = λ x. refl; levels = tt; light = omega arith }

pub write_back_facts : (q : Packet) (now : ℕ) (d : Device) → q.cmd ≡ cmds.WriteBack → WriteBackFacts d (serve d q now)
write_back_facts q now (Memory b) c =
    subst (λ k. WriteBackFacts (Memory b) (serve_memory b q k (in_ram b q.addr q.size))) (sym c) (by (in_ram b q.addr q.size)) where
      by : (t : Bool) → WriteBackFacts (Memory b) (serve_memory b q cmds.WriteBack t)
      by true = ignored_back (Memory b) (Memory (ram_put b q.addr (carried_bytes q))) q (λ n. refl) (λ n. refl)
      by false = ignored_back (Memory b) (Memory b) q (λ n. refl) (λ n. refl)
write_back_facts q now (Uart u) c =
    subst (λ k. WriteBackFacts (Uart u) (serve_uart u q now k (in_uart q.addr q.size))) (sym c) (ignored_back (Uart u) (Uart u) q (λ n. refl) (λ n. refl))
write_back_facts q now (Exit k) c =
    subst (λ o. WriteBackFacts (Exit k) (serve_exit k q o (in_exit q.addr q.size))) (sym c) (ignored_back (Exit k) (Exit k) q (λ n. refl) (λ n. refl))
write_back_facts q now (Timer t) c =
    subst (λ k. WriteBackFacts (Timer t) (serve_timer t q now k (timer_register q.addr q.size))) (sym c)
    (ignored_back (Timer t) (Timer t) q (λ n. refl) (λ n. refl))

-- what is asked for at the event of a device's own slot
pub event_levels : (d : Device) → AllLevels (event_acts d)
event_levels (Timer t) = come_levels t
event_levels (Uart u) = tt
event_levels (Memory m) = tt
event_levels (Exit k) = tt

pub event_light : (d : Device) → weight (event_acts d) ≤ 1
event_light (Timer t) = come_light t
event_light (Uart u) = omega arith
event_light (Memory m) = omega arith
event_light (Exit k) = omega arith
