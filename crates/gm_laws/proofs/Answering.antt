-- What a device owes that answers a request: the answer is right, and it asks and notes little.
use Rattle.std.proofs.Common.{◌≡◌, ℕ, ◌<◌, ◌==◌, nat_le, cond, ◌&&◌, Bool, true, false, List, [], ◌∷◌, refl, sym, ap, subst, arith, None, length, replicate, ◌≤◌, not, nat_lt, ◌++◌, take, append-nil}
use Rattle.std.proofs.lemmas.Grind.{common_steps}
use Rattle.std.proofs.lemmas.Bool.Decides.{nat_tests}
use Rattle.std.proofs.lemmas.List.{append-nil}
use Rattle.rv_step.specs.FlatMem.{in_ram}
use Rattle.rv_step.specs.Flat.{uart_base}
use Rattle.gm_model.specs.ObjState.{Device, device_kind}
use Rattle.pkt_pool.specs.Packet.{is_response, read_response, write_response, fault_response, carried_bytes, is_write}
use Rattle.gm_words.specs.Platform.{slot_classes}
use Rattle.gm_words.specs.Routes.{Route, is_unmapped}
use Rattle.gm_model.specs.Serve.{Served, served, ignored, refused}
use Rattle.gm_words.specs.Entries.{served_entries, console_of, entry_bytes}
use Rattle.gm_words.specs.Changes.{Change, due_after}
use Rattle.gm_model.specs.View.{device_view}
use Rattle.pkt_pool.specs.declared.cmd.Cmd.{Cmd}
use Rattle.pkt_pool.specs.declared.cmd.Cmd.TheVariants as cmds
use Rattle.gm_words.specs.declared.entry.Entry.{Entry}
use Rattle.pkt_pool.specs.declared.packet.Packet.{Packet}
use Rattle.gm_laws.specs.Faces.{device_due, device_range}
use Rattle.gm_laws.specs.Program.{IsService, device_read, device_written, unchanged, Serves, none, serves, seen}
use Rattle.gm_words.specs.declared.entry.Entry.TheVariants as entries
use Rattle.gm_laws.specs.Bounds.{IsDeviceWithin, AreOwnChanges, AreTimely, packet_speech}
use Rattle.gm_laws.proofs.Lines.{AllLevels}
use Rattle.gm_laws.specs.Fuel.{weight}
use Rattle.gm_words.specs.declared.act.Act.{Act}

pub one_serves : (rs : List Route) (m n : List ℕ) (q r : Packet) (es : List Entry) → IsService rs q r m es n → Serves rs m (record { request = q; response = r } ∷ []) es n
one_serves rs m n q r es h = subst (λ (xs : List Entry). Serves rs m (record { request = q; response = r } ∷ []) xs n) (append-nil es) (serves m n n (record { request = q; response = r }) [] es [] h (none n))

pub record ServeFacts (rs : List Route) (ram : ℕ) (d : Device) (q : Packet) (r : Served) : Type 0 where
  pub response : is_response r.response.cmd ≡ true
  pub id : r.response.id ≡ q.id
  pub range : (n : ℕ) → device_range n r.device ≡ device_range n d
  pub due : (n : ℕ) → (n == 0) ≡ false → device_due r.device n ≡ due_after r.changes (device_due d n) n
  pub own : (x : Bool) → due_after r.changes x 0 ≡ x
  pub stays : device_view d ≡ None → device_view r.device ≡ None
  pub remains : device_view r.device ≡ None → device_view d ≡ None
  pub levels : AllLevels r.acts
  pub light : weight r.acts ≤ 1
  pub serves : (m : List ℕ) → length m ≡ ram → seen (device_view d) m ≡ m → Serves rs m (record { request = q; response = r.response } ∷ []) r.entries (seen (device_view r.device) m)

-- a device's addresses aren't in RAM
pub outside : (m : List ℕ) (address count first last : ℕ) → (nat_le first address && nat_le address last) ≡ true → last < 0x80000000 → in_ram m address count ≡ false
outside m address count first last h l = grind (arith, common_steps, nat_tests, h, l)

module _ (rs : List Route) (ram : ℕ) (q : Packet) where
  pub ignored_facts : (d : Device) → is_response q.cmd ≡ true → ServeFacts rs ram d q (ignored d q)
  ignored_facts d e = record {
    response = e;
    id = refl;
    range = λ n. refl;
    due = λ n h. refl;
    own = λ x. refl;
    stays = λ h. h;
    remains = λ h. h;
    levels = tt;
    light = omega arith;
    serves = λ m l s. subst (λ (n : List ℕ). Serves rs m (record { request = q; response = q } ∷ []) [] n) (sym s) (one_serves rs m m q q [] (unchanged m refl));
  }

  -- a device that isn't memory answers a read, or a write
  pub read_facts : (d e : Device) (front : List ℕ) (f : Bool) → q.cmd ≡ cmds.Read → length front ≡ q.size → device_view d ≡ None → device_view e ≡ None
      → ((n : ℕ) → device_range n e ≡ device_range n d) → ((n : ℕ) → device_due e n ≡ device_due d n) → is_unmapped rs q.addr ≡ false
      → ((m : List ℕ) → in_ram m q.addr q.size ≡ false)
      → (let p = read_response q front in let r : Packet = record p { fault = f } in ServeFacts rs ram d q (record { device = e; response = r; changes = []; acts = []; entries = served_entries q r true }))
  read_facts d e front f c l dn en range due u out = record {
    response = refl;
    id = refl;
    range = range;
    due = λ n h. due n;
    own = λ x. refl;
    stays = λ h. en;
    remains = λ h. dn;
    levels = tt;
    light = omega arith;
    serves = λ m len s. (let p : Packet = read_response q front in let r : Packet = record p { fault = f } in
        rw en (one_serves rs m m q r (served_entries q r true) (device_read m front f c refl l (out m) u)));
  }

  pub write_facts : (d e : Device) (f : Bool) (cs : List Change) (ls : List Act) → AllLevels ls → weight ls ≤ 1 → q.cmd ≡ cmds.Write → device_view d ≡ None → device_view e ≡ None
      → ((n : ℕ) → device_range n e ≡ device_range n d) → ((n : ℕ) → (n == 0) ≡ false → device_due e n ≡ due_after cs (device_due d n) n) → ((x : Bool) → due_after cs x 0 ≡ x)
      → is_unmapped rs q.addr ≡ false → ((m : List ℕ) → in_ram m q.addr q.size ≡ false)
      → (let p = write_response q in let r : Packet = record p { fault = f } in ServeFacts rs ram d q (record { device = e; response = r; changes = cs; acts = ls; entries = served_entries q r true }))
  write_facts d e f cs ls levels light c dn en range due own u out = record {
    response = refl;
    id = refl;
    range = range;
    due = due;
    own = own;
    stays = λ h. en;
    remains = λ h. dn;
    levels = levels;
    light = light;
    serves = λ m len s. (let p : Packet = write_response q in let r : Packet = record p { fault = f } in
        rw en (one_serves rs m m q r (served_entries q r true) (device_written m f c refl (out m) u)));
  }

  -- a request that is refused
  pub refused_read : (d : Device) (k : q.cmd ≡ cmds.Read) → (let p = read_response q (replicate q.size 0) in let r : Packet = record p { fault = true } in ServeFacts rs ram d q (served d q r true)) → ServeFacts rs ram d q (refused d q true)
  refused_read d k h = (let p : Packet = read_response q (replicate q.size 0) in let r : Packet = record p { fault = true } in let e : fault_response q q.cmd ≡ r = rw k refl in
      subst (λ (x : Packet). ServeFacts rs ram d q (served d q x true)) (sym e) h)

  pub refused_write : (d : Device) (k : q.cmd ≡ cmds.Write) → (let p = write_response q in let r : Packet = record p { fault = true } in ServeFacts rs ram d q (served d q r true)) → ServeFacts rs ram d q (refused d q true)
  refused_write d k h = (let p : Packet = write_response q in let r : Packet = record p { fault = true } in let e : fault_response q q.cmd ≡ r = rw k refl in
      subst (λ (x : Packet). ServeFacts rs ram d q (served d q x true)) (sym e) h)

-- what a device does with a request
pub record ServesModestly (d : Device) (p : Packet) (now : ℕ) (r : Served) : Type 0 where
  pub kind : device_kind r.device ≡ device_kind d
  pub within : IsDeviceWithin d → IsDeviceWithin r.device
  pub own : AreOwnChanges (slot_classes (device_kind d)) r.changes
  pub timely : IsDeviceWithin d → AreTimely now r.changes
  pub size : r.response.size ≡ p.size
  pub few : length r.entries ≤ 1
  pub spoken : length (console_of r.entries) ≤ packet_speech p
  pub levels : AllLevels r.acts

one_byte_most : (xs : List ℕ) → length (take 1 xs) ≤ 1
one_byte_most [] = omega arith
one_byte_most (x ∷ xs) = omega arith

pub few_served : (p r : Packet) (device : Bool) → length (served_entries p r device) ≤ 1
few_served p r device = by_source (nat_lt p.src 3) _ where
  by_source : (b : Bool) (e : Entry) → length (cond b (e ∷ []) []) ≤ 1
  by_source true e = omega arith
  by_source false e = omega arith

-- what is noted of a request brings a byte to the console where it is a data access, and one at most
pub spoken_served : (p r : Packet) (device : Bool) → length (console_of (served_entries p r device)) ≤ packet_speech p
spoken_served p r device = by_noted (nat_lt p.src 3) where
  bytes : List ℕ
  bytes = entry_bytes (carried_bytes r)

  by_data : (b c : Bool) → length (cond (b && c) (take 1 bytes) [] ++ []) ≤ cond b 1 0
  by_data true true = omega (arith, one_byte_most bytes, ap length (append-nil (take 1 bytes)))
  by_data true false = omega arith
  by_data false c = omega arith

  by_four : (a b c d e : Bool) → length (cond (a && b && c && d && e) (take 1 bytes) [] ++ []) ≤ cond a 1 0
  by_four a b c d e = subst (λ z. length (cond z (take 1 bytes) [] ++ []) ≤ cond a 1 0) (same a b c d e) (by_data a (b && (c && (d && e)))) where
    same : (a b c d e : Bool) → (a && (b && (c && (d && e)))) ≡ (a && b && c && d && e)
    same true true true d e = refl
    same true true false d e = refl
    same true false c d e = refl
    same false b c d e = refl

  by_noted : (b : Bool) → length (console_of (cond b (entries.Served p.src p.id (is_write p.cmd) p.addr p.size bytes device r.fault ∷ []) [])) ≤ packet_speech p
  by_noted true = by_four (p.src == 1) (is_write p.cmd) (p.addr == uart_base) (p.size == 1) (not r.fault)
  by_noted false = omega arith

pub quiet_modest : (d e : Device) (p r : Packet) (now : ℕ) → device_kind e ≡ device_kind d → (IsDeviceWithin d → IsDeviceWithin e) → r.size ≡ p.size
    → ServesModestly d p now (record { device = e; response = r; changes = []; acts = []; entries = [] })
quiet_modest d e p r now k h z = record { kind = k; within = h; own = tt; timely = λ j. tt; size = z; few = omega arith; spoken = omega arith; levels = tt }

pub served_modest : (d e : Device) (p r : Packet) (device : Bool) (now : ℕ) → device_kind e ≡ device_kind d → (IsDeviceWithin d → IsDeviceWithin e) → r.size ≡ p.size → ServesModestly d p now (served e p r device)
served_modest d e p r device now k h z = record { kind = k; within = h; own = tt; timely = λ j. tt; size = z; few = few_served p r device; spoken = spoken_served p r device; levels = tt }

pub fault_size : (p : Packet) (c : Cmd) → (fault_response p c).size ≡ p.size
fault_size p cmds.Read = refl
fault_size p cmds.Write = refl
fault_size p cmds.WriteBack = refl
fault_size p cmds.ReadResp = refl
fault_size p cmds.WriteResp = refl
