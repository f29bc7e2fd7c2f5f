-- What a timer owes: it answers its registers, tells its lines, and its own event is pending where its clock still comes to its number.
use Rattle.std.proofs.Common.{◌≡◌, ℕ, ◌*◌, ◌%◌, ◌≤◌, ◌<◌, ◌==◌, nat_le, not, if◌then◌else◌, cond, ◌&&◌, Bool, true, false, List, [], ◌∷◌, refl, ap, arith, replicate}
use Rattle.std.proofs.lemmas.Bool.Decides.{nat_tests}
use Rattle.std.proofs.lemmas.Bool.{and_parts}
use Rattle.std.proofs.lemmas.List.{length-replicate}
use Rattle.rv_step.specs.Bytes.{bytes_of}
use Rattle.rv_step.specs.FlatMem.{in_ram}
use Rattle.gc_base.specs.declared.limits.TheConstants.{LAST}
use Rattle.gm_words.specs.Changes.{due_after}
use Rattle.pkt_pool.specs.Packet.{is_response, is_write_back, read_response, write_response}
use Rattle.gm_words.specs.Numbers.{carried_number}
use Rattle.gm_words.specs.Platform.{slot_classes}
use Rattle.gm_words.specs.Routes.{Route, is_unmapped}
use Rattle.gm_words.specs.declared.act.Act.TheVariants as acts
use Rattle.pkt_pool.specs.declared.cmd.Cmd.{Cmd}
use Rattle.pkt_pool.specs.declared.cmd.Cmd.TheVariants as cmds
use Rattle.gm_words.specs.declared.kind.Kind.TheVariants as kinds
use Rattle.pkt_pool.specs.declared.packet.Packet.{Packet}
use Rattle.gm_model.specs.ObjState.{Timer, TimerState}
use Rattle.gm_model.specs.Serve.{served, refused}
use Rattle.gm_model.specs.Stepped.{line_change}
use Rattle.gm_model.specs.Timer.{TimerRegister, Msip, Compare, Clock, Nowhere, clock_at, compared, is_awaited, compare_changes, serve_timer, come_acts}
use Rattle.gm_laws.specs.Bounds.{AreOwnChanges, AreTimely}
use Rattle.gm_laws.specs.Fuel.{weight}
use Rattle.gm_laws.proofs.Bytes.{length-bytes_of}
use Rattle.gm_laws.proofs.Answering.{ServeFacts, ServesModestly, ignored_facts, read_facts, write_facts, refused_read, refused_write, quiet_modest, served_modest, fault_size, few_served, spoken_served}
use Rattle.gm_laws.proofs.Lines.{AllLevels, change_levels, change_light}
use Rattle.gm_laws.proofs.Ticks.{by_last, ahead}

-- after a write to mtimecmp the own event is pending exactly where the clock still comes to the number
compare_due : (u : TimerState) (b d : Bool) (n : ℕ) → (b && (n == 1)) ≡ due_after (compare_changes u b) (d && (n == 1)) n
compare_due u true d n = by d (n == 1) where
  by : (d z : Bool) → z ≡ cond z true (d && z)
  by d true = refl
  by true false = refl
  by false false = refl
compare_due u false d n = by d (n == 1) where
  by : (d z : Bool) → false ≡ cond z false (d && z)
  by d true = refl
  by true false = refl
  by false false = refl

compare_own : (u : TimerState) (b x : Bool) → due_after (compare_changes u b) x 0 ≡ x
compare_own u true x = refl
compare_own u false x = refl

compare_slots : (u : TimerState) (b : Bool) → AreOwnChanges (slot_classes kinds.Timer) (compare_changes u b)
compare_slots u true = (refl, tt)
compare_slots u false = (omega arith, tt)

-- and it comes now or later, and by the last tick
compare_timely : (u : TimerState) (now : ℕ) (b : Bool) → is_awaited u ≡ b → (u.level ≡ false → now ≤ u.compare * u.period) → AreTimely now (compare_changes u b)
compare_timely u now false e h = tt
compare_timely u now true e h =
    let parts = and_parts (not u.level) (nat_le (u.compare * u.period) LAST) e in
    let last : u.compare * u.period ≤ LAST = grind (arith, nat_tests, parts.1) in
    (h (low u.level parts.0), by_last now (u.compare * u.period) last, tt) where
      low : (l : Bool) → not l ≡ true → l ≡ false
      low false e = refl
      low true e = cc e

not_come : (t : TimerState) (n now : ℕ) → 1 ≤ t.period → (compared t n now).level ≡ false → now ≤ n * t.period
not_come t n now one e =
    let later : clock_at t now < n = grind (arith, nat_tests, e) in
    ahead n t.period now one later

-- its answers
module _ (rs : List Route) (ram : ℕ) (q : Packet) (now : ℕ) (t : TimerState) where
  given : (c : q.cmd ≡ cmds.Read) (v : ℕ) → is_unmapped rs q.addr ≡ false → ((m : List ℕ) → in_ram m q.addr q.size ≡ false)
      → ServeFacts rs ram (Timer t) q (served (Timer t) q (read_response q (bytes_of q.size v)) true)
  given c v m o = read_facts rs ram q (Timer t) (Timer t) (bytes_of q.size v) q.fault c (length-bytes_of q.size v) refl refl (λ n. refl) (λ n. refl) m o

  denied : (c : q.cmd ≡ cmds.Write) → is_unmapped rs q.addr ≡ false → ((m : List ℕ) → in_ram m q.addr q.size ≡ false) → ServeFacts rs ram (Timer t) q (refused (Timer t) q true)
  denied c m o = refused_write rs ram q (Timer t) c (write_facts rs ram q (Timer t) (Timer t) true [] [] tt (omega arith) c refl refl (λ n. refl) (λ n h. refl) (λ x. refl) m o)

  pub timer_facts : (c : Cmd) (r : TimerRegister) → q.cmd ≡ c → is_write_back c ≡ false → (is_response c ≡ false → is_unmapped rs q.addr ≡ false)
      → (is_response c ≡ false → (m : List ℕ) → in_ram m q.addr q.size ≡ false) → ServeFacts rs ram (Timer t) q (serve_timer t q now c r)
  timer_facts cmds.Read Msip c n m o = given c (if t.msip then 1 else 0) (m refl) (o refl)
  timer_facts cmds.Read Compare c n m o = given c t.compare (m refl) (o refl)
  timer_facts cmds.Read Clock c n m o = given c (clock_at t now) (m refl) (o refl)
  timer_facts cmds.Read Nowhere c n m o = refused_read rs ram q (Timer t) c (read_facts rs ram q (Timer t) (Timer t) (replicate q.size 0) true c (length-replicate q.size 0) refl refl (λ n. refl) (λ n. refl) (m refl) (o refl))
  timer_facts cmds.Write Msip c n m o =
      let level : Bool = carried_number q % 2 == 1 in
      write_facts rs ram q (Timer t) (Timer (record t { msip = level })) q.fault [] (acts.SetLine 3 level ∷ []) (refl, tt) (omega arith) c refl refl (λ n. refl) (λ n h. refl) (λ x. refl) (m refl) (o refl)
  timer_facts cmds.Write Compare c n m o =
      let u : TimerState = compared t (carried_number q) now in
      write_facts rs ram q (Timer t) (Timer u) q.fault (compare_changes u (is_awaited u)) (line_change 7 t.level u.level) (change_levels 7 t.level u.level refl) (change_light 7 t.level u.level) c refl refl (λ n. refl)
      (λ n h. compare_due u (is_awaited u) (is_awaited t) n) (λ x. compare_own u (is_awaited u) x) (m refl) (o refl)
  timer_facts cmds.Write Clock c n m o = denied c (m refl) (o refl)
  timer_facts cmds.Write Nowhere c n m o = denied c (m refl) (o refl)
  timer_facts cmds.WriteBack r c n m o = cc
  timer_facts cmds.ReadResp r c n m o = ignored_facts rs ram q (Timer t) (ap is_response c)
  timer_facts cmds.WriteResp r c n m o = ignored_facts rs ram q (Timer t) (ap is_response c)

pub timer_modest : (t : TimerState) (p : Packet) (now : ℕ) (c : Cmd) (r : TimerRegister) → ServesModestly (Timer t) p now (serve_timer t p now c r)
timer_modest t p now cmds.Read Msip = served_modest (Timer t) (Timer t) p _ true now refl (λ h. h) refl
timer_modest t p now cmds.Read Compare = served_modest (Timer t) (Timer t) p _ true now refl (λ h. h) refl
timer_modest t p now cmds.Read Clock = served_modest (Timer t) (Timer t) p _ true now refl (λ h. h) refl
timer_modest t p now cmds.Read Nowhere = served_modest (Timer t) (Timer t) p _ true now refl (λ h. h) (fault_size p p.cmd)
timer_modest t p now cmds.Write Msip = record {
  kind = refl;
  within = λ h. h;
  own = tt;
  timely = λ h. tt;
  size = refl;
  few = few_served p (write_response p) true;
  spoken = spoken_served p (write_response p) true;
  levels = (refl, tt);
}
timer_modest t p now cmds.Write Compare =
    let u : TimerState = compared t (carried_number p) now in
    record {
      kind = refl;
      within = λ h. h;
      own = compare_slots u (is_awaited u);
      timely = λ h. compare_timely u now (is_awaited u) refl (not_come t (carried_number p) now h.0);
      size = refl;
      few = few_served p (write_response p) true;
      spoken = spoken_served p (write_response p) true;
      levels = change_levels 7 t.level u.level refl;
    }
timer_modest t p now cmds.Write Clock = served_modest (Timer t) (Timer t) p _ true now refl (λ h. h) (fault_size p p.cmd)
timer_modest t p now cmds.Write Nowhere = served_modest (Timer t) (Timer t) p _ true now refl (λ h. h) (fault_size p p.cmd)
timer_modest t p now cmds.WriteBack r = quiet_modest (Timer t) (Timer t) p p now refl (λ h. h) refl
timer_modest t p now cmds.ReadResp r = quiet_modest (Timer t) (Timer t) p p now refl (λ h. h) refl
timer_modest t p now cmds.WriteResp r = quiet_modest (Timer t) (Timer t) p p now refl (λ h. h) refl

-- its own event
pub come_levels : (t : TimerState) → AllLevels (come_acts t)
come_levels t = change_levels 7 t.level true refl

pub come_light : (t : TimerState) → weight (come_acts t) ≤ 1
come_light t = change_light 7 t.level true
