-- The replay of what the active CPU makes of a wake.
use Rattle.std.proofs.Common.{◌≡◌, ℕ, zero, suc, ◌+◌, ◌≤◌, refl, sym, ◌∙◌, ap, subst, arith, Bool, true, false, not, ◌&&◌, ◌||◌, ◌==◌, List, [], ◌∷◌, length, take, replicate, Some, if◌then◌else◌}
use Rattle.rv_step.specs.declared.arch.Arch.{Arch}
use Rattle.rv_step.specs.declared.demand.Demand.{Demand}
use Rattle.rv_step.specs.declared.demand.Demand.TheVariants as demand
use Rattle.rv_step.specs.Bytes.{number, bytes_of}
use Rattle.rv_step.specs.Demand.{need}
use Rattle.rv_step.specs.FlatMem.{in_ram}
use Rattle.rv_step.specs.Retire.{finish}
use Rattle.rv_step.specs.Trap.{enter_trap}
use Rattle.gm_model.specs.Accesses.{fetch_request, load_request, store_request}
use Rattle.gm_words.specs.HartLine.{with_line}
use Rattle.pkt_pool.specs.Packet.{is_response}
use Rattle.gm_words.specs.Platform.{is_in_ram}
use Rattle.gm_words.specs.Replay.{ProgramState, Progress, AtBoundary, Fetched, Accessed, Faulted, replay, replay_entry, same_bytes}
use Rattle.gm_words.specs.Routes.{Route, is_unmapped}
use Rattle.gm_model.specs.View.{Mind, Doing, Boundary, Fetching, Decoded, Accessing, is_of_hart, awaited, progress_of}
use Rattle.pkt_pool.specs.declared.cmd.Cmd.{Cmd}
use Rattle.pkt_pool.specs.declared.cmd.Cmd.TheVariants as cmds
use Rattle.gm_words.specs.declared.entry.Entry.{Entry}
use Rattle.gm_words.specs.declared.entry.Entry.TheVariants as entries
use Rattle.pkt_pool.specs.declared.packet.Packet.{Packet}
use Rattle.gm_laws.specs.Words.{weigh, IsBlind}
use Rattle.gm_laws.specs.Program.{bit, core, owed, bad, is_expected, suits, content_of, is_fetch, is_access, is_true, is_reading, is_writing, over, mind, Thought, silent, lined, interrupted, misfetched, fetches, finished, trapped, decoded, loads, stores, fetched_loads, fetched_stores, loaded, load_refused, stored, store_refused}
use Rattle.gm_laws.proofs.Weights.{on_core, on_core-blind, on_core-none, IsOne, core_blind, bad_blind, bad_core, bit_le, weigh_le, one_more, one_progress, kept_progress}
use Rattle.gm_laws.proofs.Bytes.{same_number, same_lists, when_holds, one_entry, no_entry, replay-append, front_carried, length-bytes_of, bytes_same, same_is, need_blind}

-- the program's state while the packets xs are under way
abbrev pub state_with : List Route → Mind → List Packet → List ℕ → ProgramState
state_with rs m xs ram = record { arch = m.arch; progress = progress_of rs m.doing (awaited xs); memory = ram }

-- what is so of the packets under way
pub record Awaits (rs : List Route) (ram : ℕ) (m : Mind) (xs : List Packet) : Type 0 where
  pub owes : weigh core xs ≡ owed m.doing
  pub fits : weigh (bad rs ram m) xs ≡ 0

-- what was noted leads from one to the other
pub record Leads (rs : List Route) (ram : ℕ) (m n : Mind) (xs ys : List Packet) (bytes after : List ℕ) (es : List Entry) : Type 0 where
  pub awaits : Awaits rs ram n ys
  pub replays : replay rs (state_with rs m xs bytes) es ≡ Some (state_with rs n ys after)

both : (a b : Bool) → a ≡ true → b ≡ true → (a && b) ≡ true
both true b e f = f
both false b e f = e

-- an instruction or a trap is over
over_replays : (rs : List Route) (p : ProgramState) (a : Arch) (ram : List ℕ) (e : Entry) (b : Bool)
    → replay_entry rs p e ≡ Some (record { arch = a; progress = AtBoundary; memory = ram }) → a.asleep ≡ b
    → replay rs p (over e b) ≡ Some (record { arch = a; progress = AtBoundary; memory = ram })
over_replays rs p a ram e false h s = one_entry rs p _ e h
over_replays rs p a ram e true h s =
    replay-append rs p (record { arch = a; progress = AtBoundary; memory = ram }) (e ∷ []) (entries.Slept ∷ []) (one_entry rs p _ e h)
    ∙ one_entry rs _ _ entries.Slept (when_holds (true && a.asleep) _ _ (both true a.asleep refl s) refl)

all_four : (a b c d : Bool) → (a && b && c && d) ≡ true → (a ≡ true) × (b ≡ true) × (c ≡ true) × (d ≡ true)
all_four true true true true h = (refl, refl, refl, refl)
all_four false b c d h = cc
all_four true false c d h = cc
all_four true true false d h = cc
all_four true true true false h = cc

all_five : (a b c d e : Bool) → (a && b && c && d && e) ≡ true → (a ≡ true) × (b ≡ true) × (c ≡ true) × (d ≡ true) × (e ≡ true)
all_five true true true true true h = (refl, refl, refl, refl, refl)
all_five false b c d e h = cc
all_five true false c d e h = cc
all_five true true false d e h = cc
all_five true true true false e h = cc
all_five true true true true false h = cc

all_six : (a b c d e f : Bool) → (a && b && c && d && e && f) ≡ true → (a ≡ true) × (b ≡ true) × (c ≡ true) × (d ≡ true) × (e ≡ true) × (f ≡ true)
all_six true true true true true true h = (refl, refl, refl, refl, refl, refl)
all_six false b c d e f h = cc
all_six true false c d e f h = cc
all_six true true false d e f h = cc
all_six true true true false e f h = cc
all_six true true true true false f h = cc
all_six true true true true true false h = cc

not_true : (b : Bool) → not b ≡ true → b ≡ false
not_true true e = cc
not_true false e = refl

-- the facts in a test, one by one
abbrev pub IsFetch : List Route → ℕ → Arch → Packet → Type 0
IsFetch rs ram a z = (a.asleep ≡ false) × (z.addr ≡ a.pc) × (z.size ≡ 4) × (is_in_ram ram a.pc 4 ≡ true) × (is_reading z.cmd ≡ true) × (is_true rs (content_of z) ≡ true)

pub fetch_facts : (rs : List Route) (ram : ℕ) (a : Arch) (z : Packet) → is_fetch rs ram a Fetching (content_of z) ≡ true
    → (a.asleep ≡ false) × (z.addr ≡ a.pc) × (z.size ≡ 4) × (is_in_ram ram a.pc 4 ≡ true) × (is_reading z.cmd ≡ true) × (is_true rs (content_of z) ≡ true)
fetch_facts rs ram a z e =
    let p = all_six (not a.asleep) (z.addr == a.pc) (z.size == 4) (is_in_ram ram a.pc 4) (is_reading z.cmd) (is_true rs (content_of z)) e in
    (not_true a.asleep p.0, same_is z.addr a.pc p.1, same_is z.size 4 p.2, p.3, p.4, p.5)

pub load_facts : (rs : List Route) (z : Packet) (address size : ℕ) → is_access rs (content_of z) (demand.Load address size) ≡ true
    → (z.addr ≡ address) × (z.size ≡ size) × (is_reading z.cmd ≡ true) × (is_true rs (content_of z) ≡ true)
load_facts rs z address size e =
    let p = all_four (z.addr == address) (z.size == size) (is_reading z.cmd) (is_true rs (content_of z)) e in
    (same_is z.addr address p.0, same_is z.size size p.1, p.2, p.3)

pub store_facts : (rs : List Route) (z : Packet) (address size v : ℕ) → is_access rs (content_of z) (demand.Store address size v) ≡ true
    → (z.addr ≡ address) × (z.size ≡ size) × (is_writing z.cmd ≡ true) × (is_true rs (content_of z) ≡ true) × (take z.size z.bytes ≡ bytes_of size v)
store_facts rs z address size v e =
    let p = all_five (z.addr == address) (z.size == size) (is_writing z.cmd) (is_true rs (content_of z)) (same_bytes (take z.size z.bytes) (bytes_of size v)) e in
    (same_is z.addr address p.0, same_is z.size size p.1, p.2, p.3, same_lists _ _ p.4)

pub read_response : (c : Cmd) → is_reading c ≡ true → is_response c ≡ true → c ≡ cmds.ReadResp
read_response cmds.Read r e = cc
read_response cmds.ReadResp r e = refl
read_response cmds.Write r e = cc
read_response cmds.WriteResp r e = cc
read_response cmds.WriteBack r e = cc

pub write_response : (c : Cmd) → is_writing c ≡ true → is_response c ≡ true → c ≡ cmds.WriteResp
write_response cmds.Read r e = cc
write_response cmds.ReadResp r e = cc
write_response cmds.Write r e = cc
write_response cmds.WriteResp r e = refl
write_response cmds.WriteBack r e = cc

-- a response that isn't refused comes from a range
pub mapped_one : (r u f : Bool) → (if r then (not u || f) else not f) ≡ true → r ≡ true → f ≡ false → u ≡ false
mapped_one true true true h e g = cc
mapped_one true true false h e g = cc
mapped_one true false f h e g = refl
mapped_one false u f h e g = cc

-- new accesses are those that the word asks for
load_fits : (rs : List Route) (ram : ℕ) (a : Arch) (w k address count : ℕ) → need a w ≡ demand.Load address count → bad rs ram (mind a (Accessing w)) (load_request ram k address count) ≡ 0
load_fits rs ram a w k address count n = rw (n, same_number address, same_number count) refl

store_fits : (rs : List Route) (ram : ℕ) (a : Arch) (w k address count v : ℕ) → need a w ≡ demand.Store address count v → bad rs ram (mind a (Accessing w)) (store_request ram k address count v) ≡ 0
store_fits rs ram a w k address count v n =
    rw (n, same_number address, same_number count, front_carried (replicate 64 0) (bytes_of count v) count (length-bytes_of count v), bytes_same (bytes_of count v)) refl

-- a line changes nothing that a packet under way depends on
lined_fits : (rs : List Route) (ram : ℕ) (a : Arch) (d : Doing) (b : ℕ) (level : Bool) (x : Packet) → bad rs ram (mind (with_line a b level) d) x ≤ bad rs ram (mind a d) x + 0
lined_fits rs ram a d b level x = by x.src d where
  fetch : (s : Bool) → a.asleep ≡ s → bit (not (is_fetch rs ram (with_line a b level) Fetching (content_of x))) ≤ bit (not (is_fetch rs ram a Fetching (content_of x))) + 0
  fetch true e =
      let one : bit (not (is_fetch rs ram a Fetching (content_of x))) ≡ 1 = rw e refl in
      omega (arith, one, bit_le (not (is_fetch rs ram (with_line a b level) Fetching (content_of x))))
  fetch false e = rw e (omega arith)

  by : (n : ℕ) (d : Doing) → bit (not (suits rs ram (mind (with_line a b level) d) n (content_of x))) ≤ bit (not (suits rs ram (mind a d) n (content_of x))) + 0
  by zero Boundary = omega arith
  by zero (Decoded w) = omega arith
  by zero (Accessing w) = omega arith
  by zero Fetching = fetch a.asleep refl
  by (suc zero) Boundary = omega arith
  by (suc zero) (Decoded w) = omega arith
  by (suc zero) Fetching = omega arith
  by (suc zero) (Accessing w) = omega (arith, ap (λ n. bit (not (is_access rs (content_of x) n))) (need_blind a (with_line a b level).mip (with_line a b level).asleep w))
  by (suc (suc n)) d = omega arith

-- the tests of an address agree
pub ram_size : (address count : ℕ) (bytes : List ℕ) {ram : ℕ} → length bytes ≡ ram → in_ram bytes address count ≡ is_in_ram ram address count
ram_size address count bytes e = ap (λ n. is_in_ram n address count) e

module _ (rs : List Route) (ram : ℕ) (a : Arch) (d : Doing) (xs ys ls : List Packet) (now : Awaits rs ram (mind a d) xs) where
  -- the hart waits for nothing more
  quiet_awaits : (n : Mind) (zs : List Packet) → ((f : Packet → ℕ) → IsBlind f → weigh f xs ≡ weigh f ls + weigh f zs) → ((f : Packet → ℕ) → IsBlind f → weigh f ys ≡ weigh f ls + 0)
      → weigh core zs ≡ owed d → owed n.doing ≡ 0 → Awaits rs ram n ys
  quiet_awaits n zs before after e o =
      let c : weigh core ls ≡ 0 = omega (arith, now.owes, before core core_blind, e) in
      record {
        owes = omega (arith, after core core_blind, c, o);
        fits = omega (arith, after (bad rs ram n) (bad_blind rs ram n), weigh_le (bad rs ram n) (bad rs ram (mind a d)) core (bad_core rs ram (mind a d) n) ls, c, now.fits, before (bad rs ram (mind a d)) (bad_blind rs ram (mind a d)));
      }

  -- it waits for a new packet
  made_awaits : (n : Mind) (zs : List Packet) (x : Packet) → ((f : Packet → ℕ) → IsBlind f → weigh f xs ≡ weigh f ls + weigh f zs)
      → ((f : Packet → ℕ) → IsBlind f → weigh f ys ≡ weigh f ls + (f x + 0))
      → weigh core zs ≡ owed d → owed n.doing ≡ 1 → core x ≡ 1 → bad rs ram n x ≡ 0 → Awaits rs ram n ys
  made_awaits n zs x before after e o h b =
      let c : weigh core ls ≡ 0 = omega (arith, now.owes, before core core_blind, e) in
      record {
        owes = omega (arith, after core core_blind, c, o, h);
        fits = omega (arith, after (bad rs ram n) (bad_blind rs ram n), weigh_le (bad rs ram n) (bad rs ram (mind a d)) core (bad_core rs ram (mind a d) n) ls, c, b, now.fits, before (bad rs ram (mind a d)) (bad_blind rs ram (mind a d)));
      }

  made_one : (zs : List Packet) (x : Packet) → ((f : Packet → ℕ) → IsBlind f → weigh f xs ≡ weigh f ls + weigh f zs)
      → ((f : Packet → ℕ) → IsBlind f → weigh f ys ≡ weigh f ls + (f x + 0)) → weigh core zs ≡ owed d → core x ≡ 1 → IsOne ys x
  made_one zs x before after e h =
      one_more ys ls x (λ f b. omega (arith, after f b)) (omega (arith, now.owes, before core core_blind, e)) h

  -- the packet that it waited for
  pub shown_one : (z : Packet) → ((f : Packet → ℕ) → IsBlind f → weigh f xs ≡ weigh f ls + (f z + 0)) → core z ≡ 1 → owed d ≡ 1 → IsOne xs z
  shown_one z before h o = one_more xs ls z (λ f b. omega (arith, before f b)) (omega (arith, now.owes, before core core_blind, h, o)) h

  pub shown_fits : (z : Packet) → ((f : Packet → ℕ) → IsBlind f → weigh f xs ≡ weigh f ls + (f z + 0)) → is_expected rs ram (mind a d) z ≡ true
  shown_fits z before = by (is_expected rs ram (mind a d) z) (omega (arith, now.fits, before (bad rs ram (mind a d)) (bad_blind rs ram (mind a d)))) where
    by : (b : Bool) → bit (not b) ≡ 0 → b ≡ true
    by true e = refl
    by false e = absurd (omega arith)

  -- the hart's packets are the same
  still_awaits : (n : Mind) (zs : List Packet) → ((f : Packet → ℕ) → IsBlind f → weigh f xs ≡ weigh f ls + weigh f zs) → ((f : Packet → ℕ) → IsBlind f → weigh f ys ≡ weigh f ls + 0)
      → weigh core zs ≡ 0 → owed n.doing ≡ owed d → ((x : Packet) → bad rs ram n x ≤ bad rs ram (mind a d) x + 0) → Awaits rs ram n ys
  still_awaits n zs before after e o l = record {
    owes = omega (arith, after core core_blind, now.owes, before core core_blind, e, o);
    fits = omega (arith, after (bad rs ram n) (bad_blind rs ram n), weigh_le (bad rs ram n) (bad rs ram (mind a d)) (λ x. 0) l ls, none ls, now.fits, before (bad rs ram (mind a d)) (bad_blind rs ram (mind a d)));
  } where
    none : (zs : List Packet) → weigh (λ x. 0) zs ≡ 0
    none [] = refl
    none (z ∷ zs) = omega (arith, none zs)

  still_progress : (zs : List Packet) → ((f : Packet → ℕ) → IsBlind f → weigh f xs ≡ weigh f ls + weigh f zs) → ((f : Packet → ℕ) → IsBlind f → weigh f ys ≡ weigh f ls + 0)
      → weigh core zs ≡ 0 → progress_of rs d (awaited xs) ≡ progress_of rs d (awaited ys)
  still_progress zs before after e =
      kept_progress rs d xs ys now.owes (omega (arith, now.owes, before core core_blind, after core core_blind, e))
      (λ f b. omega (arith, before (on_core f) (on_core-blind f b), after (on_core f) (on_core-blind f b), on_core-none f zs e))

-- an entry at some progress
pub at_progress : (rs : List Route) (a : Arch) (bytes : List ℕ) (g h : Progress) (e : Entry) (q : ProgramState) → g ≡ h
    → replay_entry rs (record { arch = a; progress = h; memory = bytes }) e ≡ Some q → replay_entry rs (record { arch = a; progress = g; memory = bytes }) e ≡ Some q
at_progress rs a bytes g h e q k r =
    let P : Progress → Type 0 = λ y. replay_entry rs (record { arch = a; progress = y; memory = bytes }) e ≡ Some q in
    subst P (sym k) r

pub same_state : (a : Arch) (bytes : List ℕ) (g h : Progress) → g ≡ h → (let p : ProgramState = record { arch = a; progress = g; memory = bytes } in let q : ProgramState = record { arch = a; progress = h; memory = bytes } in p ≡ q)
same_state a bytes g h e = ap (λ y. let q : ProgramState = record { arch = a; progress = y; memory = bytes } in q) e

abbrev pub Before : List Packet → List Packet → List Packet → Type 0
Before xs ls zs = (f : Packet → ℕ) → IsBlind f → weigh f xs ≡ weigh f ls + weigh f zs

-- the word that was fetched
module _ (rs : List Route) (ram : ℕ) (a : Arch) (xs ls : List Packet) (now : Awaits rs ram (mind a Fetching) xs) (z : Packet) (before : Before xs ls (z ∷ []))
    (s : z.src ≡ 0) (r : is_response z.cmd ≡ true) where
  fetch_core : core z ≡ 1
  fetch_core = ap (λ n. bit (is_of_hart n)) s

  fetch_is : IsFetch rs ram a z
  fetch_is = fetch_facts rs ram a z (subst (λ n. suits rs ram (mind a Fetching) n (content_of z) ≡ true) s (shown_fits rs ram a Fetching xs [] ls now z before))

  fetched_word : (w : ℕ) → w ≡ number (take 4 z.bytes) → progress_of rs Fetching (awaited xs) ≡ Fetched w
  fetched_word w e =
      one_progress rs Fetching xs z now.owes (shown_one rs ram a Fetching xs [] ls now z before fetch_core refl)
      ∙ (let k = fetch_is in rw (r, k.2) (ap Fetched (sym e)))

-- the access that was made
module _ (rs : List Route) (ram : ℕ) (a : Arch) (w : ℕ) (xs ls : List Packet) (now : Awaits rs ram (mind a (Accessing w)) xs) (z : Packet) (before : Before xs ls (z ∷ []))
    (s : z.src ≡ 1) where
  data_core : core z ≡ 1
  data_core = ap (λ n. bit (is_of_hart n)) s

  data_is : (n : Demand) → need a w ≡ n → is_access rs (content_of z) n ≡ true
  data_is n e =
      subst (λ t. is_access rs (content_of z) t ≡ true) e
      (subst (λ k. suits rs ram (mind a (Accessing w)) k (content_of z) ≡ true) s (shown_fits rs ram a (Accessing w) xs [] ls now z before))

  data_seen : progress_of rs (Accessing w) (awaited xs) ≡ progress_of rs (Accessing w) (Some z)
  data_seen = one_progress rs (Accessing w) xs z now.owes (shown_one rs ram a (Accessing w) xs [] ls now z before data_core refl)

-- what the CPU makes of a wake is replayed
pub thought_leads : (rs : List Route) (ram : ℕ) (a : Arch) (d : Doing) (xs ys ls made answered : List Packet) (es : List Entry) (n : Mind) (bytes : List ℕ) → length bytes ≡ ram
    → Awaits rs ram (mind a d) xs → Thought ram a d made answered es n → Before xs ls answered → Before ys ls made → Leads rs ram (mind a d) n xs ys bytes bytes es
thought_leads rs ram a d xs ys ls _ _ _ _ bytes size now (silent _ zs c) before after = record {
  awaits = still_awaits rs ram a d xs ys ls now (mind a d) zs before after c refl (λ x. omega arith);
  replays = no_entry rs _ _ (same_state a bytes _ _ (still_progress rs ram a d xs ys ls now zs before after c));
}
thought_leads rs ram a d xs ys ls _ _ _ _ bytes size now (lined _ b level h) before after = record {
  awaits = still_awaits rs ram a d xs ys ls now (mind (with_line a b level) d) [] before after refl refl (λ x. lined_fits rs ram a d b level x);
  replays = one_entry rs _ _ (entries.Line b level) (when_holds _ _ _ h (same_state (with_line a b level) bytes _ _ (still_progress rs ram a d xs ys ls now [] before after refl)));
}
thought_leads rs ram a _ xs ys ls _ _ _ _ bytes size now (interrupted c i) before after = record {
  awaits = quiet_awaits rs ram a Boundary xs ys ls now (mind (enter_trap a c 0) Boundary) [] before after refl refl;
  replays = over_replays rs (state_with rs (mind a Boundary) xs bytes) (enter_trap a c 0) bytes (entries.Trapped c 0) _ (when_holds _ _ _ (rw i (both (c == c) true (same_number c) refl)) refl) refl;
}
thought_leads rs ram a _ xs ys ls _ _ _ _ bytes size now (misfetched i s w) before after = record {
  awaits = quiet_awaits rs ram a Boundary xs ys ls now (mind (enter_trap a 1 a.pc) Boundary) [] before after refl refl;
  replays = over_replays rs (state_with rs (mind a Boundary) xs bytes) (enter_trap a 1 a.pc) bytes (entries.Trapped 1 a.pc) _
      (when_holds _ _ _ (rw (i, s, ram_size a.pc 4 bytes size, w) (same_number a.pc)) refl) refl;
}
thought_leads rs ram a _ xs ys ls _ _ _ _ bytes size now (fetches k s w) before after =
    let x : Packet = fetch_request k a.pc in
    let awaits = made_awaits rs ram a Boundary xs ys ls now (mind a Fetching) [] x before after refl refl refl (rw (s, w, same_number a.pc) refl) in
    record {
      awaits = awaits;
      replays = no_entry rs _ _ (same_state a bytes _ _
          (sym (one_progress rs Fetching ys x awaits.owes (made_one rs ram a Boundary xs ys ls now [] x before after refl refl))));
    }
thought_leads rs ram a _ xs ys ls _ _ _ _ bytes size now (finished z w e n s r) before after = record {
  awaits = quiet_awaits rs ram a Fetching xs ys ls now (mind (finish a w 0) Boundary) (z ∷ []) before after (omega (arith, fetch_core rs ram a xs ls now z before s r)) refl;
  replays = over_replays rs (state_with rs (mind a Fetching) xs bytes) (finish a w 0) bytes (entries.Retired a.pc w) _
      (at_progress rs a bytes _ (Fetched w) (entries.Retired a.pc w) _ (fetched_word rs ram a xs ls now z before s r w e)
      (when_holds _ _ _ (rw (same_number a.pc, same_number w, n) refl) refl)) refl;
}
thought_leads rs ram a _ xs ys ls _ _ _ _ bytes size now (trapped z w c t e n s r) before after = record {
  awaits = quiet_awaits rs ram a Fetching xs ys ls now (mind (enter_trap a c t) Boundary) (z ∷ []) before after (omega (arith, fetch_core rs ram a xs ls now z before s r)) refl;
  replays = over_replays rs (state_with rs (mind a Fetching) xs bytes) (enter_trap a c t) bytes (entries.Trapped c t) _
      (at_progress rs a bytes _ (Fetched w) (entries.Trapped c t) _ (fetched_word rs ram a xs ls now z before s r w e)
      (when_holds _ _ _ (rw (n, same_number c, same_number t) refl) refl)) refl;
}
thought_leads rs ram a _ xs ys ls _ _ _ _ bytes size now (decoded z w e s r) before after = record {
  awaits = quiet_awaits rs ram a Fetching xs ys ls now (mind a (Decoded w)) (z ∷ []) before after (omega (arith, fetch_core rs ram a xs ls now z before s r)) refl;
  replays = no_entry rs _ _ (same_state a bytes _ _ (fetched_word rs ram a xs ls now z before s r w e));
}
thought_leads rs ram a _ xs ys ls _ _ _ _ bytes size now (loads k w address count n) before after =
    let x : Packet = load_request ram k address count in
    let awaits = made_awaits rs ram a (Decoded w) xs ys ls now (mind a (Accessing w)) [] x before after refl refl refl (load_fits rs ram a w k address count n) in
    record {
      awaits = awaits;
      replays = no_entry rs _ _ (same_state a bytes _ _
          (sym (one_progress rs (Accessing w) ys x awaits.owes (made_one rs ram a (Decoded w) xs ys ls now [] x before after refl refl))));
    }
thought_leads rs ram a _ xs ys ls _ _ _ _ bytes size now (stores k w address count v n) before after =
    let x : Packet = store_request ram k address count v in
    let awaits = made_awaits rs ram a (Decoded w) xs ys ls now (mind a (Accessing w)) [] x before after refl refl refl (store_fits rs ram a w k address count v n) in
    record {
      awaits = awaits;
      replays = no_entry rs _ _ (same_state a bytes _ _
          (sym (one_progress rs (Accessing w) ys x awaits.owes (made_one rs ram a (Decoded w) xs ys ls now [] x before after refl refl))));
    }
thought_leads rs ram a _ xs ys ls _ _ _ _ bytes size now (fetched_loads z k w address count e n s r) before after =
    let x : Packet = load_request ram k address count in
    let c : core z + 0 ≡ 1 = omega (arith, fetch_core rs ram a xs ls now z before s r) in
    let awaits = made_awaits rs ram a Fetching xs ys ls now (mind a (Accessing w)) (z ∷ []) x before after c refl refl (load_fits rs ram a w k address count n) in
    record {
      awaits = awaits;
      replays = no_entry rs _ _ (same_state a bytes _ _ (fetched_word rs ram a xs ls now z before s r w e
          ∙ sym (one_progress rs (Accessing w) ys x awaits.owes (made_one rs ram a Fetching xs ys ls now (z ∷ []) x before after c refl))));
    }
thought_leads rs ram a _ xs ys ls _ _ _ _ bytes size now (fetched_stores z k w address count v e n s r) before after =
    let x : Packet = store_request ram k address count v in
    let c : core z + 0 ≡ 1 = omega (arith, fetch_core rs ram a xs ls now z before s r) in
    let awaits = made_awaits rs ram a Fetching xs ys ls now (mind a (Accessing w)) (z ∷ []) x before after c refl refl (store_fits rs ram a w k address count v n) in
    record {
      awaits = awaits;
      replays = no_entry rs _ _ (same_state a bytes _ _ (fetched_word rs ram a xs ls now z before s r w e
          ∙ sym (one_progress rs (Accessing w) ys x awaits.owes (made_one rs ram a Fetching xs ys ls now (z ∷ []) x before after c refl))));
    }
thought_leads rs ram a _ xs ys ls _ _ _ _ bytes size now (loaded z w address count n f s r) before after =
    let k = load_facts rs z address count (data_is rs ram a w xs ls now z before s (demand.Load address count) n) in
    let c = read_response z.cmd k.2 r in
    let u : is_unmapped rs z.addr ≡ false = mapped_one (is_response z.cmd) (is_unmapped rs z.addr) z.fault k.3 r f in
    let v : ℕ = number (take count z.bytes) in
    record {
      awaits = quiet_awaits rs ram a (Accessing w) xs ys ls now (mind (finish a w v) Boundary) (z ∷ []) before after (omega (arith, data_core rs ram a w xs ls now z before s)) refl;
      replays = over_replays rs (state_with rs (mind a (Accessing w)) xs bytes) (finish a w v) bytes (entries.Retired a.pc w) _
          (at_progress rs a bytes _ (Accessed w v) (entries.Retired a.pc w) _ (data_seen rs ram a w xs ls now z before s ∙ rw (c, u, f, k.1) refl)
          (when_holds _ _ _ (rw (same_number a.pc, same_number w) refl) refl)) refl;
    }
thought_leads rs ram a _ xs ys ls _ _ _ _ bytes size now (load_refused z w address count n f s r) before after =
    let k = load_facts rs z address count (data_is rs ram a w xs ls now z before s (demand.Load address count) n) in
    record {
      awaits = quiet_awaits rs ram a (Accessing w) xs ys ls now (mind (enter_trap a 5 address) Boundary) (z ∷ []) before after (omega (arith, data_core rs ram a w xs ls now z before s)) refl;
      replays = over_replays rs (state_with rs (mind a (Accessing w)) xs bytes) (enter_trap a 5 address) bytes (entries.Trapped 5 address) _
          (by_range (is_unmapped rs z.addr) refl k.0 (data_seen rs ram a w xs ls now z before s)) refl;
    } where
      by_range : (u : Bool) → is_unmapped rs z.addr ≡ u → z.addr ≡ address → progress_of rs (Accessing w) (awaited xs) ≡ progress_of rs (Accessing w) (Some z)
          → replay_entry rs (state_with rs (mind a (Accessing w)) xs bytes) (entries.Trapped 5 address) ≡ Some (record { arch = enter_trap a 5 address; progress = AtBoundary; memory = bytes })
      by_range true u i seen = at_progress rs a bytes _ (Fetched w) (entries.Trapped 5 address) _ (seen ∙ rw (r, u) refl)
          (when_holds _ _ _ (rw (n, same_number address) (subst (λ t. is_unmapped rs t ≡ true) i u)) refl)
      by_range false u i seen = at_progress rs a bytes _ (Faulted w) (entries.Trapped 5 address) _ (seen ∙ rw (r, u, f) refl)
          (when_holds _ _ _ (rw (n, same_number address) refl) refl)
thought_leads rs ram a _ xs ys ls _ _ _ _ bytes size now (stored z w address count v n f s r) before after =
    let k = store_facts rs z address count v (data_is rs ram a w xs ls now z before s (demand.Store address count v) n) in
    let c = write_response z.cmd k.2 r in
    let u : is_unmapped rs z.addr ≡ false = mapped_one (is_response z.cmd) (is_unmapped rs z.addr) z.fault k.3 r f in
    record {
      awaits = quiet_awaits rs ram a (Accessing w) xs ys ls now (mind (finish a w 0) Boundary) (z ∷ []) before after (omega (arith, data_core rs ram a w xs ls now z before s)) refl;
      replays = over_replays rs (state_with rs (mind a (Accessing w)) xs bytes) (finish a w 0) bytes (entries.Retired a.pc w) _
          (at_progress rs a bytes _ (Accessed w 0) (entries.Retired a.pc w) _ (data_seen rs ram a w xs ls now z before s ∙ rw (c, u, f) refl)
          (when_holds _ _ _ (rw (same_number a.pc, same_number w) refl) refl)) refl;
    }
thought_leads rs ram a _ xs ys ls _ _ _ _ bytes size now (store_refused z w address count v n f s r) before after =
    let k = store_facts rs z address count v (data_is rs ram a w xs ls now z before s (demand.Store address count v) n) in
    record {
      awaits = quiet_awaits rs ram a (Accessing w) xs ys ls now (mind (enter_trap a 7 address) Boundary) (z ∷ []) before after (omega (arith, data_core rs ram a w xs ls now z before s)) refl;
      replays = over_replays rs (state_with rs (mind a (Accessing w)) xs bytes) (enter_trap a 7 address) bytes (entries.Trapped 7 address) _
          (by_range (is_unmapped rs z.addr) refl k.0 (data_seen rs ram a w xs ls now z before s)) refl;
    } where
      by_range : (u : Bool) → is_unmapped rs z.addr ≡ u → z.addr ≡ address → progress_of rs (Accessing w) (awaited xs) ≡ progress_of rs (Accessing w) (Some z)
          → replay_entry rs (state_with rs (mind a (Accessing w)) xs bytes) (entries.Trapped 7 address) ≡ Some (record { arch = enter_trap a 7 address; progress = AtBoundary; memory = bytes })
      by_range true u i seen = at_progress rs a bytes _ (Fetched w) (entries.Trapped 7 address) _ (seen ∙ rw (r, u) refl)
          (when_holds _ _ _ (rw (n, same_number address) (subst (λ t. is_unmapped rs t ≡ true) i u)) refl)
      by_range false u i seen = at_progress rs a bytes _ (Faulted w) (entries.Trapped 7 address) _ (seen ∙ rw (r, u, f) refl)
          (when_holds _ _ _ (rw (n, same_number address) refl) refl)
