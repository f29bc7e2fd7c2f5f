-- The replay of what parts serve.
use Rattle.std.proofs.Common.{◌≡◌, ℕ, zero, suc, ◌+◌, ◌≤◌, refl, sym, ◌∙◌, ap, subst, arith, Bool, true, false, not, cond, ◌||◌, List, [], ◌∷◌, ◌++◌, length, take, Some, if◌then◌else◌}
use Rattle.rv_step.specs.declared.arch.Arch.{Arch}
use Rattle.rv_step.specs.declared.demand.Demand.{Demand}
use Rattle.rv_step.specs.declared.demand.Demand.TheVariants as demand
use Rattle.rv_step.specs.Bytes.{number, bytes_of}
use Rattle.rv_step.specs.Demand.{need}
use Rattle.rv_step.specs.FlatMem.{in_ram, ram_put}
use Rattle.pkt_pool.specs.Packet.{with_front, is_response, carried_bytes}
use Rattle.gm_words.specs.Platform.{is_in_ram}
use Rattle.gm_words.specs.Replay.{ProgramState, is_of_memory, Progress, AtBoundary, Fetched, Accessed, Faulted, replay, replay_entry}
use Rattle.gm_words.specs.Routes.{Route, is_unmapped}
use Rattle.gm_words.specs.Entries.{ram_bytes, entry_bytes}
use Rattle.gm_words.specs.Moves.{Service}
use Rattle.gm_model.specs.View.{Mind, Doing, Boundary, Fetching, Decoded, Accessing, awaited, progress_of, is_of_hart}
use Rattle.gc_base.specs.declared.ids.PktId.{PktId}
use Rattle.pkt_pool.specs.declared.cmd.Cmd.{Cmd}
use Rattle.pkt_pool.specs.declared.cmd.Cmd.TheVariants as cmds
use Rattle.gm_words.specs.declared.entry.Entry.{Entry}
use Rattle.gm_words.specs.declared.entry.Entry.TheVariants as entries
use Rattle.pkt_pool.specs.declared.packet.Packet.{Packet}
use Rattle.gm_laws.specs.Words.{weigh, IsBlind, requests_of, responses_of}
use Rattle.gm_laws.specs.Program.{bit, core, owed, bad, is_expected, suits, content_of, is_fetch, is_data, is_access, is_true, is_reading, is_writing, is_silent, mind, IsService, read, written, device_read, device_written, nobody_read, nobody_written, unchanged, Serves, none, aside, serves}
use Rattle.gm_laws.proofs.Weights.{weigh-append, on_core, on_core-blind, core_blind, bad_blind, one_more, one_progress, kept_progress}
use Rattle.gm_laws.proofs.Bytes.{same_number, when_holds, one_entry, no_entry, replay-append, front_carried, length-bytes_of, bytes_same, entry_front, length-ram_bytes, length-ram_put, need_narrow, IsNarrow}
use Rattle.gm_system.proofs.Thoughts.{Awaits, Leads, Before, state_with, same_state, at_progress, ram_size, fetch_facts, load_facts, store_facts, IsFetch}

-- what of the packets and of RAM's size each step leaves
pub record Served (rs : List Route) (ram : ℕ) (m : Mind) (xs ys : List Packet) (bytes after : List ℕ) (es : List Entry) : Type 0 where
  pub leads : Leads rs ram m m xs ys bytes after es
  pub size : length after ≡ ram

pub same_source : (rs : List Route) (q r : Packet) (bytes after : List ℕ) (es : List Entry) → IsService rs q r bytes es after → r.src ≡ q.src
same_source rs q r _ _ _ (read bytes c e w u) = ap (λ x. x.src) e
same_source rs q r _ _ _ (written bytes c e w u) = ap (λ x. x.src) e
same_source rs q r _ _ _ (device_read bytes front f c e l w u) = ap (λ x. x.src) e
same_source rs q r _ _ _ (device_written bytes f c e w u) = ap (λ x. x.src) e
same_source rs q r _ _ _ (nobody_read bytes front c e u) = ap (λ x. x.src) e
same_source rs q r _ _ _ (nobody_written bytes c e u) = ap (λ x. x.src) e
same_source rs q r _ _ _ (unchanged bytes e) = ap (λ x. x.src) e

-- entries of single accesses
memory_read : (m : List ℕ) (address size : ℕ) → in_ram m address size ≡ true
    → is_of_memory m (record { write = false; address = address; size = size; bytes = entry_bytes (ram_bytes m address size); device = false; fault = false }) ≡ true
memory_read m address size h = rw (h, bytes_same (entry_bytes (ram_bytes m address size))) refl

abbrev at_state : Arch → Progress → List ℕ → ProgramState
at_state a g m = record { arch = a; progress = g; memory = m }

module _ (rs : List Route) (a : Arch) (w : ℕ) (m : List ℕ) (id : PktId) where
  fetch_replays : a.asleep ≡ false → in_ram m a.pc 4 ≡ true
      → replay_entry rs (at_state a AtBoundary m) (entries.Served 0 id false a.pc 4 (entry_bytes (ram_bytes m a.pc 4)) false false)
      ≡ Some (at_state a (Fetched (number (ram_bytes m a.pc 4))) m)
  fetch_replays awake within =
      when_holds _ _ _ (rw (awake, same_number a.pc) (memory_read m a.pc 4 within))
      (rw (entry_front (ram_bytes m a.pc 4) 4 (length-ram_bytes m a.pc 4 within) (omega arith)) refl)

  load_replays : (address count : ℕ) → need a w ≡ demand.Load address count → count ≤ 8 → in_ram m address count ≡ true
      → replay_entry rs (at_state a (Fetched w) m) (entries.Served 1 id false address count (entry_bytes (ram_bytes m address count)) false false)
      ≡ Some (at_state a (Accessed w (number (ram_bytes m address count))) m)
  load_replays address count d few within =
      let rb : List ℕ = ram_bytes m address count in
      rw (d, same_number address, same_number count, within, bytes_same (entry_bytes rb), entry_front rb count (length-ram_bytes m address count within) few) refl

  store_replays : (address count v : ℕ) → need a w ≡ demand.Store address count v → count ≤ 8 → in_ram m address count ≡ true
      → replay_entry rs (at_state a (Fetched w) m) (entries.Served 1 id true address count (entry_bytes (bytes_of count v)) false false)
      ≡ Some (at_state a (Accessed w 0) (ram_put m address (bytes_of count v)))
  store_replays address count v d few within =
      rw (d, same_number address, same_number count, within, bytes_same (entry_bytes (bytes_of count v)), entry_front (bytes_of count v) count (length-bytes_of count v) few) refl

  device_load_replays : (address count : ℕ) (front : List ℕ) (f : Bool) → need a w ≡ demand.Load address count → count ≤ 8 → length front ≡ count → in_ram m address count ≡ false
      → replay_entry rs (at_state a (Fetched w) m) (entries.Served 1 id false address count (entry_bytes front) true f)
      ≡ Some (at_state a (cond f (Faulted w) (Accessed w (number front))) m)
  device_load_replays address count front f d few long outside =
      rw (d, same_number address, same_number count, outside, entry_front front count long few) (by_fault f) where
        by_fault : (b : Bool) → cond b (Some (at_state a (Faulted w) m)) (Some (at_state a (Accessed w (number front)) m)) ≡ Some (at_state a (cond b (Faulted w) (Accessed w (number front))) m)
        by_fault true = refl
        by_fault false = refl

  device_store_replays : (address count v : ℕ) (f : Bool) → need a w ≡ demand.Store address count v → in_ram m address count ≡ false
      → replay_entry rs (at_state a (Fetched w) m) (entries.Served 1 id true address count (entry_bytes (bytes_of count v)) true f)
      ≡ Some (at_state a (cond f (Faulted w) (Accessed w 0)) m)
  device_store_replays address count v f d outside =
      rw (d, same_number address, same_number count, outside, bytes_same (entry_bytes (bytes_of count v))) (by_fault f) where
        by_fault : (b : Bool) → cond b (Some (at_state a (Faulted w) m)) (Some (at_state a (Accessed w 0) m)) ≡ Some (at_state a (cond b (Faulted w) (Accessed w 0)) m)
        by_fault true = refl
        by_fault false = refl

-- with one entry, or none
one_service : (rs : List Route) (a : Arch) (d : Doing) (xs ys : List Packet) (g h : Progress) (bytes after : List ℕ) (es : List Entry) (e : Entry)
    → progress_of rs d (awaited xs) ≡ g → progress_of rs d (awaited ys) ≡ h → es ≡ e ∷ [] → replay_entry rs (at_state a g bytes) e ≡ Some (at_state a h after)
    → replay rs (state_with rs (mind a d) xs bytes) es ≡ Some (state_with rs (mind a d) ys after)
one_service rs a d xs ys g h bytes after es e p q k r =
    subst (λ (ts : List Entry). replay rs (state_with rs (mind a d) xs bytes) ts ≡ Some (state_with rs (mind a d) ys after)) (sym k)
    (one_entry rs (state_with rs (mind a d) xs bytes) (state_with rs (mind a d) ys after) e
    (at_progress rs a bytes _ g e (state_with rs (mind a d) ys after) p (r ∙ ap Some (same_state a after h _ (sym q)))))

no_service : (rs : List Route) (a : Arch) (d : Doing) (xs ys : List Packet) (bytes : List ℕ) → progress_of rs d (awaited xs) ≡ progress_of rs d (awaited ys)
    → replay rs (state_with rs (mind a d) xs bytes) [] ≡ Some (state_with rs (mind a d) ys bytes)
no_service rs a d xs ys bytes p = no_entry rs (state_with rs (mind a d) xs bytes) (state_with rs (mind a d) ys bytes) (same_state a bytes _ _ p)

-- a packet of the hart's goes, and another comes
module _ (rs : List Route) (ram : ℕ) (a : Arch) (d : Doing) (xs ys ls : List Packet) (q r : Packet) (now : Awaits rs ram (mind a d) xs)
    (before : (f : Packet → ℕ) → IsBlind f → weigh f xs ≡ weigh f ls + f q) (later : (f : Packet → ℕ) → IsBlind f → weigh f ys ≡ weigh f ls + f r) (o : owed d ≡ 1)
    (cq : core q ≡ 1) (cr : core r ≡ 1) where
  none_else : weigh core ls ≡ 0
  none_else = omega (arith, now.owes, before core core_blind, o, cq)

  was : progress_of rs d (awaited xs) ≡ progress_of rs d (Some q)
  was = one_progress rs d xs q (omega (arith, now.owes, o)) (one_more xs ls q before none_else cq)

  is_now : progress_of rs d (awaited ys) ≡ progress_of rs d (Some r)
  is_now = one_progress rs d ys r (omega (arith, later core core_blind, none_else, cr)) (one_more ys ls r later none_else cr)

  then_awaits : is_expected rs ram (mind a d) r ≡ true → Awaits rs ram (mind a d) ys
  then_awaits e = record {
    owes = omega (arith, later core core_blind, none_else, cr, o);
    fits = omega (arith, later (bad rs ram (mind a d)) (bad_blind rs ram (mind a d)), before (bad rs ram (mind a d)) (bad_blind rs ram (mind a d)), now.fits, ap (λ b. bit (not b)) e);
  }

  was_expected : is_expected rs ram (mind a d) q ≡ true
  was_expected = by (is_expected rs ram (mind a d) q) (omega (arith, now.fits, before (bad rs ram (mind a d)) (bad_blind rs ram (mind a d)))) where
    by : (b : Bool) → bit (not b) ≡ 0 → b ≡ true
    by true e = refl
    by false e = absurd (omega arith)

-- a read is no write
no_write : (c : Cmd) → c ≡ cmds.Write → is_reading c ≡ true → ⊥
no_write cmds.Write e r = cc
no_write cmds.Read e r = cc
no_write cmds.ReadResp e r = cc
no_write cmds.WriteResp e r = cc
no_write cmds.WriteBack e r = cc

no_read : (c : Cmd) → c ≡ cmds.Read → is_writing c ≡ true → ⊥
no_read cmds.Write e r = cc
no_read cmds.Read e r = cc
no_read cmds.ReadResp e r = cc
no_read cmds.WriteResp e r = cc
no_read cmds.WriteBack e r = cc

no_both : (b : Bool) → b ≡ true → b ≡ false → ⊥
no_both true e f = cc
no_both false e f = cc

-- a request isn't a fault
sound_request : (rs : List Route) (q : Packet) → is_response q.cmd ≡ false → is_true rs (content_of q) ≡ true → q.fault ≡ false
sound_request rs q r e = by q.fault (subst (λ b. (if b then (not (is_unmapped rs q.addr) || q.fault) else not q.fault) ≡ true) r e) where
  by : (f : Bool) → not f ≡ true → f ≡ false
  by true e = cc
  by false e = refl

-- the fetch is served
module _ (rs : List Route) (ram : ℕ) (a : Arch) (xs ys ls : List Packet) (q r : Packet) (now : Awaits rs ram (mind a Fetching) xs)
    (mapped : (address count : ℕ) → 1 ≤ count → is_in_ram ram address count ≡ true → is_unmapped rs address ≡ false)
    (before : (f : Packet → ℕ) → IsBlind f → weigh f xs ≡ weigh f ls + f q) (later : (f : Packet → ℕ) → IsBlind f → weigh f ys ≡ weigh f ls + f r)
    (s : q.src ≡ 0) (k : IsFetch rs ram a q) where
  fetch_core : core q ≡ 1
  fetch_core = ap (λ n. bit (is_of_hart n)) s

  fetch_served : (bytes after : List ℕ) (es : List Entry) → length bytes ≡ ram → IsService rs q r bytes es after → Served rs ram (mind a Fetching) xs ys bytes after es
  fetch_served _ _ _ size (read bytes c e w u) =
      let rb : List ℕ = ram_bytes bytes a.pc 4 in
      let within : in_ram bytes a.pc 4 ≡ true = ram_size a.pc 4 bytes size ∙ k.3 in
      let front : take 4 (with_front q.bytes rb) ≡ rb = front_carried q.bytes rb 4 (length-ram_bytes bytes a.pc 4 within) in
      let cr : core r ≡ 1 = ap core e ∙ fetch_core in
      let sound : q.fault ≡ false = sound_request rs q (ap is_response c) k.5 in
      record {
        leads = record {
          awaits = then_awaits rs ram a Fetching xs ys ls q r now before later refl fetch_core cr (rw (e, s, k.0, k.1, same_number a.pc, k.2, k.3, mapped a.pc 4 (omega arith) k.3) refl);
          replays = one_service rs a Fetching xs ys AtBoundary (Fetched (number rb)) bytes bytes _ (entries.Served 0 q.id false a.pc 4 (entry_bytes rb) false false)
              (was rs ram a Fetching xs ys ls q r now before later refl fetch_core cr ∙ rw c refl)
              (is_now rs ram a Fetching xs ys ls q r now before later refl fetch_core cr ∙ rw (e, k.1, k.2, front) refl)
              (rw (e, s, c, k.1, k.2, front, sound) refl)
              (fetch_replays rs a 0 bytes q.id k.0 within);
        };
        size = size;
      }
  fetch_served _ _ _ size (written bytes c e w u) = absurd (no_write q.cmd c k.4)
  fetch_served _ _ _ size (device_read bytes front f c e l w u) =
      absurd (no_both (in_ram bytes q.addr q.size) (rw (k.1, k.2) (ram_size a.pc 4 bytes size ∙ k.3)) w)
  fetch_served _ _ _ size (device_written bytes f c e w u) = absurd (no_write q.cmd c k.4)
  fetch_served _ _ _ size (nobody_read bytes front c e u) = absurd (no_both (is_unmapped rs q.addr) u (rw k.1 (mapped a.pc 4 (omega arith) k.3)))
  fetch_served _ _ _ size (nobody_written bytes c e u) = absurd (no_write q.cmd c k.4)
  fetch_served _ _ _ size (unchanged bytes e) =
      let cr : core r ≡ 1 = ap core e ∙ fetch_core in
      record {
        leads = record {
          awaits = then_awaits rs ram a Fetching xs ys ls q r now before later refl fetch_core cr (rw e (was_expected rs ram a Fetching xs ys ls q r now before later refl fetch_core cr));
          replays = no_service rs a Fetching xs ys bytes (was rs ram a Fetching xs ys ls q r now before later refl fetch_core cr
              ∙ sym (is_now rs ram a Fetching xs ys ls q r now before later refl fetch_core cr ∙ ap (λ x. progress_of rs Fetching (Some x)) e));
        };
        size = size;
      }

-- the load is served
module _ (rs : List Route) (ram : ℕ) (a : Arch) (w : ℕ) (xs ys ls : List Packet) (q r : Packet) (now : Awaits rs ram (mind a (Accessing w)) xs)
    (before : (f : Packet → ℕ) → IsBlind f → weigh f xs ≡ weigh f ls + f q) (later : (f : Packet → ℕ) → IsBlind f → weigh f ys ≡ weigh f ls + f r)
    (s : q.src ≡ 1) (address count : ℕ) (n : need a w ≡ demand.Load address count) (few : count ≤ 8)
    (k : (q.addr ≡ address) × (q.size ≡ count) × (is_reading q.cmd ≡ true) × (is_true rs (content_of q) ≡ true)) where
  load_core : core q ≡ 1
  load_core = ap (λ t. bit (is_of_hart t)) s

  load_served : (bytes after : List ℕ) (es : List Entry) → length bytes ≡ ram → IsService rs q r bytes es after → Served rs ram (mind a (Accessing w)) xs ys bytes after es
  load_served _ _ _ size (read bytes c e i u) =
      let rb : List ℕ = ram_bytes bytes address count in
      let within : in_ram bytes address count ≡ true = rw⁻¹ (k.0, k.1) i in
      let mapped : is_unmapped rs address ≡ false = rw⁻¹ k.0 u in
      let front : take count (with_front q.bytes rb) ≡ rb = front_carried q.bytes rb count (length-ram_bytes bytes address count within) in
      let cr : core r ≡ 1 = ap core e ∙ load_core in
      let sound : q.fault ≡ false = sound_request rs q (ap is_response c) k.3 in
      record {
        leads = record {
          awaits = then_awaits rs ram a (Accessing w) xs ys ls q r now before later refl load_core cr (rw (e, s, n, k.0, same_number address, k.1, same_number count, mapped) refl);
          replays = one_service rs a (Accessing w) xs ys (Fetched w) (Accessed w (number rb)) bytes bytes _ (entries.Served 1 q.id false address count (entry_bytes rb) false false)
              (was rs ram a (Accessing w) xs ys ls q r now before later refl load_core cr ∙ rw c refl)
              (is_now rs ram a (Accessing w) xs ys ls q r now before later refl load_core cr ∙ rw (e, k.0, mapped, sound, k.1, front) refl)
              (rw (e, s, c, k.0, k.1, front, sound) refl)
              (load_replays rs a w bytes q.id address count n few within);
        };
        size = size;
      }
  load_served _ _ _ size (written bytes c e i u) = absurd (no_write q.cmd c k.2)
  load_served _ _ _ size (device_read bytes front f c e l i u) =
      let outside : in_ram bytes address count ≡ false = rw⁻¹ (k.0, k.1) i in
      let mapped : is_unmapped rs address ≡ false = rw⁻¹ k.0 u in
      let long : length front ≡ count = l ∙ k.1 in
      let whole : take count (with_front q.bytes front) ≡ front = front_carried q.bytes front count long in
      let cr : core r ≡ 1 = ap core e ∙ load_core in
      record {
        leads = record {
          awaits = then_awaits rs ram a (Accessing w) xs ys ls q r now before later refl load_core cr (rw (e, s, n, k.0, same_number address, k.1, same_number count, mapped) refl);
          replays = one_service rs a (Accessing w) xs ys (Fetched w) (cond f (Faulted w) (Accessed w (number front))) bytes bytes _ (entries.Served 1 q.id false address count (entry_bytes front) true f)
              (was rs ram a (Accessing w) xs ys ls q r now before later refl load_core cr ∙ rw c refl)
              (is_now rs ram a (Accessing w) xs ys ls q r now before later refl load_core cr ∙ rw (e, k.0, mapped, k.1, whole) refl)
              (rw (e, s, c, k.0, k.1, whole) refl)
              (device_load_replays rs a w bytes q.id address count front f n few long outside);
        };
        size = size;
      }
  load_served _ _ _ size (device_written bytes f c e i u) = absurd (no_write q.cmd c k.2)
  load_served _ _ _ size (nobody_read bytes front c e u) =
      let unmapped : is_unmapped rs address ≡ true = rw⁻¹ k.0 u in
      let cr : core r ≡ 1 = ap core e ∙ load_core in
      record {
        leads = record {
          awaits = then_awaits rs ram a (Accessing w) xs ys ls q r now before later refl load_core cr (rw (e, s, n, k.0, same_number address, k.1, same_number count, unmapped) refl);
          replays = no_service rs a (Accessing w) xs ys bytes
              (let p : progress_of rs (Accessing w) (awaited xs) ≡ Fetched w = was rs ram a (Accessing w) xs ys ls q r now before later refl load_core cr ∙ rw c refl in
              let t : progress_of rs (Accessing w) (awaited ys) ≡ Fetched w = is_now rs ram a (Accessing w) xs ys ls q r now before later refl load_core cr ∙ rw (e, k.0, unmapped) refl in
              p ∙ sym t);
        };
        size = size;
      }
  load_served _ _ _ size (nobody_written bytes c e u) = absurd (no_write q.cmd c k.2)
  load_served _ _ _ size (unchanged bytes e) =
      let cr : core r ≡ 1 = ap core e ∙ load_core in
      record {
        leads = record {
          awaits = then_awaits rs ram a (Accessing w) xs ys ls q r now before later refl load_core cr (rw e (was_expected rs ram a (Accessing w) xs ys ls q r now before later refl load_core cr));
          replays = no_service rs a (Accessing w) xs ys bytes (was rs ram a (Accessing w) xs ys ls q r now before later refl load_core cr
              ∙ sym (is_now rs ram a (Accessing w) xs ys ls q r now before later refl load_core cr ∙ ap (λ x. progress_of rs (Accessing w) (Some x)) e));
        };
        size = size;
      }

-- the store is served
module _ (rs : List Route) (ram : ℕ) (a : Arch) (w : ℕ) (xs ys ls : List Packet) (q r : Packet) (now : Awaits rs ram (mind a (Accessing w)) xs)
    (before : (f : Packet → ℕ) → IsBlind f → weigh f xs ≡ weigh f ls + f q) (later : (f : Packet → ℕ) → IsBlind f → weigh f ys ≡ weigh f ls + f r)
    (s : q.src ≡ 1) (address count v : ℕ) (n : need a w ≡ demand.Store address count v) (few : count ≤ 8)
    (k : (q.addr ≡ address) × (q.size ≡ count) × (is_writing q.cmd ≡ true) × (is_true rs (content_of q) ≡ true) × (take q.size q.bytes ≡ bytes_of count v)) where
  store_core : core q ≡ 1
  store_core = ap (λ t. bit (is_of_hart t)) s

  stored_bytes : take count q.bytes ≡ bytes_of count v
  stored_bytes = subst (λ t. take t q.bytes ≡ bytes_of count v) k.1 k.4

  store_served : (bytes after : List ℕ) (es : List Entry) → length bytes ≡ ram → IsService rs q r bytes es after → Served rs ram (mind a (Accessing w)) xs ys bytes after es
  store_served _ _ _ size (written bytes c e i u) =
      let within : in_ram bytes address count ≡ true = rw⁻¹ (k.0, k.1) i in
      let mapped : is_unmapped rs address ≡ false = rw⁻¹ k.0 u in
      let cr : core r ≡ 1 = ap core e ∙ store_core in
      let sound : q.fault ≡ false = sound_request rs q (ap is_response c) k.3 in
      let long : length (carried_bytes q) ≡ count = ap length k.4 ∙ length-bytes_of count v in
      let put : ram_put bytes q.addr (carried_bytes q) ≡ ram_put bytes address (bytes_of count v) = rw (k.0, k.4) refl in
      record {
        leads = record {
          awaits = then_awaits rs ram a (Accessing w) xs ys ls q r now before later refl store_core cr
              (rw (e, s, n, k.0, same_number address, k.1, same_number count, mapped, stored_bytes, bytes_same (bytes_of count v)) refl);
          replays = one_service rs a (Accessing w) xs ys (Fetched w) (Accessed w 0) bytes _ _ (entries.Served 1 q.id true address count (entry_bytes (bytes_of count v)) false false)
              (was rs ram a (Accessing w) xs ys ls q r now before later refl store_core cr ∙ rw c refl)
              (is_now rs ram a (Accessing w) xs ys ls q r now before later refl store_core cr ∙ rw (e, k.0, mapped, sound) refl)
              (rw (e, s, c, k.0, k.1, stored_bytes, sound) refl)
              (rw put (store_replays rs a w bytes q.id address count v n few within));
        };
        size = length-ram_put bytes q.addr (carried_bytes q) (rw (long, k.0) within) ∙ size;
      }
  store_served _ _ _ size (read bytes c e i u) = absurd (no_read q.cmd c k.2)
  store_served _ _ _ size (device_written bytes f c e i u) =
      let outside : in_ram bytes address count ≡ false = rw⁻¹ (k.0, k.1) i in
      let mapped : is_unmapped rs address ≡ false = rw⁻¹ k.0 u in
      let cr : core r ≡ 1 = ap core e ∙ store_core in
      record {
        leads = record {
          awaits = then_awaits rs ram a (Accessing w) xs ys ls q r now before later refl store_core cr
              (rw (e, s, n, k.0, same_number address, k.1, same_number count, mapped, stored_bytes, bytes_same (bytes_of count v)) refl);
          replays = one_service rs a (Accessing w) xs ys (Fetched w) (cond f (Faulted w) (Accessed w 0)) bytes bytes _ (entries.Served 1 q.id true address count (entry_bytes (bytes_of count v)) true f)
              (was rs ram a (Accessing w) xs ys ls q r now before later refl store_core cr ∙ rw c refl)
              (is_now rs ram a (Accessing w) xs ys ls q r now before later refl store_core cr ∙ rw (e, k.0, mapped) refl)
              (rw (e, s, c, k.0, k.1, stored_bytes) refl)
              (device_store_replays rs a w bytes q.id address count v f n outside);
        };
        size = size;
      }
  store_served _ _ _ size (device_read bytes front f c e l i u) = absurd (no_read q.cmd c k.2)
  store_served _ _ _ size (nobody_written bytes c e u) =
      let unmapped : is_unmapped rs address ≡ true = rw⁻¹ k.0 u in
      let cr : core r ≡ 1 = ap core e ∙ store_core in
      record {
        leads = record {
          awaits = then_awaits rs ram a (Accessing w) xs ys ls q r now before later refl store_core cr
              (rw (e, s, n, k.0, same_number address, k.1, same_number count, unmapped, stored_bytes, bytes_same (bytes_of count v)) refl);
          replays = no_service rs a (Accessing w) xs ys bytes
              (let p : progress_of rs (Accessing w) (awaited xs) ≡ Fetched w = was rs ram a (Accessing w) xs ys ls q r now before later refl store_core cr ∙ rw c refl in
              let t : progress_of rs (Accessing w) (awaited ys) ≡ Fetched w = is_now rs ram a (Accessing w) xs ys ls q r now before later refl store_core cr ∙ rw (e, k.0, unmapped) refl in
              p ∙ sym t);
        };
        size = size;
      }
  store_served _ _ _ size (nobody_read bytes front c e u) = absurd (no_read q.cmd c k.2)
  store_served _ _ _ size (unchanged bytes e) =
      let cr : core r ≡ 1 = ap core e ∙ store_core in
      record {
        leads = record {
          awaits = then_awaits rs ram a (Accessing w) xs ys ls q r now before later refl store_core cr (rw e (was_expected rs ram a (Accessing w) xs ys ls q r now before later refl store_core cr));
          replays = no_service rs a (Accessing w) xs ys bytes (was rs ram a (Accessing w) xs ys ls q r now before later refl store_core cr
              ∙ sym (is_now rs ram a (Accessing w) xs ys ls q r now before later refl store_core cr ∙ ap (λ x. progress_of rs (Accessing w) (Some x)) e));
        };
        size = size;
      }

-- one request is served, whatever the hart waits for
pub service_leads : (rs : List Route) (ram : ℕ) (a : Arch) (d : Doing) (xs ys ls : List Packet) (q r : Packet) (bytes after : List ℕ) (es : List Entry)
    → ((address count : ℕ) → 1 ≤ count → is_in_ram ram address count ≡ true → is_unmapped rs address ≡ false) → length bytes ≡ ram
    → Awaits rs ram (mind a d) xs → IsService rs q r bytes es after
    → ((f : Packet → ℕ) → IsBlind f → weigh f xs ≡ weigh f ls + f q) → ((f : Packet → ℕ) → IsBlind f → weigh f ys ≡ weigh f ls + f r)
    → Served rs ram (mind a d) xs ys bytes after es
service_leads rs ram a d xs ys ls q r bytes after es mapped size now svc before later = by_source q.src refl (expected (is_expected rs ram (mind a d) q) (omega (arith, now.fits, before (bad rs ram (mind a d)) (bad_blind rs ram (mind a d))))) where
  expected : (b : Bool) → bit (not b) ≡ 0 → b ≡ true
  expected true e = refl
  expected false e = absurd (omega arith)

  by_need : (w : ℕ) (n : Demand) → need a w ≡ n → q.src ≡ 1 → is_access rs (content_of q) n ≡ true → Awaits rs ram (mind a (Accessing w)) xs → Served rs ram (mind a (Accessing w)) xs ys bytes after es
  by_need w (demand.Load address count) n s h now =
      load_served rs ram a w xs ys ls q r now before later s address count n (let k : (1 ≤ count) × (count ≤ 8) = subst IsNarrow n (need_narrow a w) in k.1)
      (load_facts rs q address count h) bytes after es size svc
  by_need w (demand.Store address count v) n s h now =
      store_served rs ram a w xs ys ls q r now before later s address count v n (let k : (1 ≤ count) × (count ≤ 8) = subst IsNarrow n (need_narrow a w) in k.1)
      (store_facts rs q address count v h) bytes after es size svc
  by_need w demand.Nothing n s h now = cc
  by_need w demand.Sleep n s h now = cc
  by_need w (demand.Trap c t) n s h now = cc

  by_doing_fetch : (d : Doing) → q.src ≡ 0 → is_fetch rs ram a d (content_of q) ≡ true → Awaits rs ram (mind a d) xs → Served rs ram (mind a d) xs ys bytes after es
  by_doing_fetch Fetching s h now = fetch_served rs ram a xs ys ls q r now mapped before later s (fetch_facts rs ram a q h) bytes after es size svc
  by_doing_fetch Boundary s h now = cc
  by_doing_fetch (Decoded w) s h now = cc
  by_doing_fetch (Accessing w) s h now = cc

  by_doing_data : (d : Doing) → q.src ≡ 1 → is_data rs a d (content_of q) ≡ true → Awaits rs ram (mind a d) xs → Served rs ram (mind a d) xs ys bytes after es
  by_doing_data (Accessing w) s h now = by_need w (need a w) refl s h now
  by_doing_data Boundary s h now = cc
  by_doing_data (Decoded w) s h now = cc
  by_doing_data Fetching s h now = cc

  by_source : (n : ℕ) → q.src ≡ n → is_expected rs ram (mind a d) q ≡ true → Served rs ram (mind a d) xs ys bytes after es
  by_source zero s h = by_doing_fetch d s (subst (λ n. suits rs ram (mind a d) n (content_of q) ≡ true) s h) now
  by_source (suc zero) s h = by_doing_data d s (subst (λ n. suits rs ram (mind a d) n (content_of q) ≡ true) s h) now
  by_source (suc (suc n)) s h = absurd (no_both false (subst (λ n. suits rs ram (mind a d) n (content_of q) ≡ true) s h) refl)

-- steps in a row
leads_leads : (rs : List Route) (ram : ℕ) (m : Mind) (xs ys zs : List Packet) (b c e : List ℕ) (es fs : List Entry) → Served rs ram m xs ys b c es → Served rs ram m ys zs c e fs
    → Served rs ram m xs zs b e (es ++ fs)
leads_leads rs ram m xs ys zs b c e es fs p q = record {
  leads = record { awaits = q.leads.awaits; replays = replay-append rs (state_with rs m xs b) (state_with rs m ys c) es fs p.leads.replays ∙ q.leads.replays };
  size = q.size;
}

silent_entry : (rs : List Route) (p : ProgramState) (e : Entry) → is_silent e ≡ true → replay_entry rs p e ≡ Some p
silent_entry rs p (entries.Hit o) h = refl
silent_entry rs p (entries.Miss o) h = refl
silent_entry rs p (entries.Refused o) h = refl
silent_entry rs p (entries.Served src id write addr size bytes device fault) h = cc
silent_entry rs p (entries.Retired pc w) h = cc
silent_entry rs p (entries.Trapped c t) h = cc
silent_entry rs p (entries.Line b l) h = cc
silent_entry rs p entries.Slept h = cc

-- requests one after another
pub serves_leads : (rs : List Route) (ram : ℕ) (m : Mind) (xs ys ls : List Packet) (vs : List Service) (bytes after : List ℕ) (es : List Entry)
    → ((address count : ℕ) → 1 ≤ count → is_in_ram ram address count ≡ true → is_unmapped rs address ≡ false) → length bytes ≡ ram
    → Awaits rs ram m xs → Serves rs bytes vs es after → Before xs ls (requests_of vs) → Before ys ls (responses_of vs) → Served rs ram m xs ys bytes after es
serves_leads rs ram m xs ys ls _ _ _ _ mapped size now (none bytes) before later =
    let same : weigh core ys ≡ owed m.doing = omega (arith, now.owes, before core core_blind, later core core_blind) in
    record {
      leads = record {
        awaits = record {
          owes = same;
          fits = omega (arith, now.fits, before (bad rs ram m) (bad_blind rs ram m), later (bad rs ram m) (bad_blind rs ram m));
        };
        replays = no_service rs m.arch m.doing xs ys bytes
            (kept_progress rs m.doing xs ys now.owes same (λ f b. omega (arith, before (on_core f) (on_core-blind f b), later (on_core f) (on_core-blind f b))));
      };
      size = size;
    }
serves_leads rs ram m xs ys ls _ _ _ _ mapped size now (aside bytes after vs e es h more) before later =
    let rest = serves_leads rs ram m xs ys ls vs bytes after es mapped size now more before later in
    record {
      leads = record {
        awaits = rest.leads.awaits;
        replays = replay-append rs (state_with rs m xs bytes) (state_with rs m xs bytes) (e ∷ []) es
            (one_entry rs (state_with rs m xs bytes) (state_with rs m xs bytes) e (silent_entry rs (state_with rs m xs bytes) e h)) ∙ rest.leads.replays;
      };
      size = rest.size;
    }
serves_leads rs ram m xs ys ls _ _ _ _ mapped size now (serves bytes mid after v vs fs es svc more) before later =
    let q : Packet = v.request in
    let r : Packet = v.response in
    let ks : List Packet = ls ++ requests_of vs in
    let one = service_leads rs ram m.arch m.doing xs (r ∷ ks) ks q r bytes mid fs mapped size now svc
    (λ f b. omega (arith, before f b, weigh-append f ls (requests_of vs))) (λ f b. omega arith) in
    let rest = serves_leads rs ram m (r ∷ ks) ys (r ∷ ls) vs mid after es mapped one.size one.leads.awaits more
    (λ f b. omega (arith, weigh-append f ls (requests_of vs))) (λ f b. omega (arith, later f b)) in
    leads_leads rs ram m xs (r ∷ ks) ys bytes mid after fs es one rest
