-- Requests from above: accesses, write-backs, and what passes.
use Rattle.std.proofs.Common.{◌≡◌, ℕ, ◌%◌, ◌==◌, ◌&&◌, not, Bool, true, false, List, [], ◌∷◌, ◌++◌, refl, sym, subst, Option, Some, None, is_some, length}
use Rattle.cache_tags.specs.Line.{Line, new_line}
use Rattle.ev_queue.specs.Queue.{Queue}
use Rattle.gm_cache.specs.State.{Register, CacheState, base_of, line_in, find_register, joined}
use Rattle.gm_cache.specs.Rule.{CacheMoved, fits, is_cached, serving, serving_in, sending_below, noting, requesting, installing, absorbing, with_registers, access_in, back_in, cached_in, taking}
use Rattle.gm_words.specs.declared.entry.Entry.{Entry}
use Rattle.gm_words.specs.declared.entry.Entry.TheVariants as entries
use Rattle.obj_core.specs.Out.{Out, extended}
use Rattle.pkt_pool.specs.Packet.{carried_bytes, is_write_back}
use Rattle.pkt_pool.specs.declared.cmd.Cmd.{Cmd}
use Rattle.pkt_pool.specs.declared.cmd.Cmd.TheVariants as cmds
use Rattle.pkt_pool.specs.declared.packet.Packet.{Packet}
use Rattle.obj_cache.specs.Held.{Held}
use Rattle.obj_cache.specs.Step.{Goes}
use Rattle.obj_cache.proofs.Steps.{followed, goes_by, state_goes, notes_goes}
use Rattle.obj_cache.proofs.Parts.{arrives, goes_for, found_by, none_by, true_false}

abbrev pub hit : ℕ → List Entry
hit i = entries.Hit (record { 0 = i }) ∷ []

abbrev pub miss : ℕ → List Entry
miss i = entries.Miss (record { 0 = i }) ∷ []

-- what is noted, and then a step
noted_then : (es : List Entry) (f : CacheMoved → CacheMoved) (s s' : CacheState) (q q' : Queue) (o o₁ o' : Out) → o₁ ≡ extended o [] es o.next
    → Goes f s s' q q' o₁ o' → Goes (λ m. f (noting es m)) s s' q q' o o'
noted_then es f s s' q q' o o₁ o' e h = followed (noting es) f s s s' q q q' o o₁ o' (notes_goes es s q o o₁ e) h

-- the registers after a packet joined one, and after one was opened
abbrev pub with_joined : ℕ → Packet → CacheState → CacheState
with_joined a x s = record s { registers = joined a x s.registers }

abbrev pub with_opened : ℕ → Packet → CacheState → CacheState
with_opened a x s = record s { registers = s.registers ++ record { address = a; targets = x ∷ [] } ∷ [] }

joins : (a : ℕ) (x : Packet) (s : CacheState) (q : Queue) (o : Out) → Goes (λ m. with_registers (joined a x m.cache.registers) m) s (with_joined a x s) q q o o
joins a x s q o = state_goes (with_joined a x) s q o (λ c. refl)

opens : (a : ℕ) (x : Packet) (s : CacheState) (q : Queue) (o : Out)
    → Goes (λ m. with_registers (m.cache.registers ++ record { address = a; targets = x ∷ [] } ∷ []) m) s (with_opened a x s) q q o o
opens a x s q o = state_goes (with_opened a x) s q o (λ c. refl)

-- An access, by whether its line is there, and on its way.

by_line : (a : ℕ) (x : Packet) (now : ℕ) (v : Option Line) (r : Option Register) (s s' : CacheState) (q q' : Queue) (o o' : Out) → line_in s a ≡ v → find_register a s.registers ≡ r
    → Goes (access_in a x now v r) s s' q q' o o' → Goes (λ m. access_in a x now (line_in m.cache a) (find_register a m.cache.registers) m) s s' q q' o o'
by_line a x now v r s s' q q' o o' e f h =
    goes_by (λ c. access_in a x now (line_in c a) (find_register a c.registers)) s s' q q' o o'
    (subst (λ (w : Option Line). Goes (access_in a x now w (find_register a s.registers)) s s' q q' o o') (sym e)
    (subst (λ (w : Option Register). Goes (access_in a x now v w) s s' q q' o o') (sym f) h))

pub access_hits : (a : ℕ) (x : Packet) (now : ℕ) (s s' : CacheState) (q q' : Queue) (o o₁ o' : Out) → is_some (line_in s a) ≡ true
    → o₁ ≡ extended o [] (hit s.common.object) o.next → Goes (serving a x now) s s' q q' o₁ o'
    → Goes (λ m. access_in a x now (line_in m.cache a) (find_register a m.cache.registers) m) s s' q q' o o'
access_hits a x now s s' q q' o o₁ o' e k h =
    found_by _ (line_in s a) e (λ l f. by_line a x now (Some l) (find_register a s.registers) s s' q q' o o' f refl
    (goes_by (λ c m. serving_in (Some l) x now (noting (hit c.common.object) m)) s s' q q' o o'
    (noted_then (hit s.common.object) (serving_in (Some l) x now) s s' q q' o o₁ o' k
    (subst (λ (v : Option Line). Goes (serving_in v x now) s s' q q' o₁ o') f (goes_for (λ c. serving_in (line_in c a) x now) s s' q q' o₁ o' h)))))

pub register_by : (A : Type 0) (v : Option Register) → is_some v ≡ true → ((r : Register) → v ≡ Some r → A) → A
register_by A None e f = absurd (cc)
register_by A (Some r) e f = f r refl

pub no_register : (v : Option Register) → is_some v ≡ false → v ≡ None
no_register None e = refl
no_register (Some r) e = cc

pub access_joins : (a : ℕ) (x : Packet) (now : ℕ) (s s' : CacheState) (q : Queue) (o o' : Out) → is_some (line_in s a) ≡ false
    → is_some (find_register a s.registers) ≡ true → o' ≡ extended o [] (miss s.common.object) o.next → s' ≡ with_joined a x s
    → Goes (λ m. access_in a x now (line_in m.cache a) (find_register a m.cache.registers) m) s s' q q o o'
access_joins a x now s s' q o o' e g k h =
    register_by _ (find_register a s.registers) g (λ r f. by_line a x now None (Some r) s s' q q o o' (none_by (line_in s a) e) f
    (goes_by (λ c m. with_registers (joined a x m.cache.registers) (noting (miss c.common.object) m)) s s' q q o o'
    (arrives _ s (with_joined a x s) s' q q o o' h
    (noted_then (miss s.common.object) (λ m. with_registers (joined a x m.cache.registers) m) s (with_joined a x s) q q o o' o' k (joins a x s q o')))))

pub access_opens : (a : ℕ) (x : Packet) (now : ℕ) (s s' : CacheState) (q q' : Queue) (o o₁ o' : Out) → is_some (line_in s a) ≡ false
    → is_some (find_register a s.registers) ≡ false → o₁ ≡ extended o [] (miss s.common.object) o.next → Goes (requesting cmds.Read a [] now) (with_opened a x s) s' q q' o₁ o'
    → Goes (λ m. access_in a x now (line_in m.cache a) (find_register a m.cache.registers) m) s s' q q' o o'
access_opens a x now s s' q q' o o₁ o' e g k h =
    by_line a x now None None s s' q q' o o' (none_by (line_in s a) e) (no_register (find_register a s.registers) g)
    (goes_by (λ c m. requesting cmds.Read a [] now (with_registers (m.cache.registers ++ record { address = a; targets = x ∷ [] } ∷ []) (noting (miss c.common.object) m))) s s' q q' o o'
    (noted_then (miss s.common.object) (λ m. requesting cmds.Read a [] now (with_registers (m.cache.registers ++ record { address = a; targets = x ∷ [] } ∷ []) m)) s s' q q' o o₁ o' k
    (followed (λ m. with_registers (m.cache.registers ++ record { address = a; targets = x ∷ [] } ∷ []) m) (requesting cmds.Read a [] now) s (with_opened a x s) s' q q q' o₁ o₁ o'
    (opens a x s q o₁) h)))

-- A write-back.

by_back : (a : ℕ) (x : Packet) (now : ℕ) (v : Option Line) (r : Option Register) (s s' : CacheState) (q q' : Queue) (o o' : Out) → line_in s a ≡ v → find_register a s.registers ≡ r
    → Goes (back_in a x now v r) s s' q q' o o' → Goes (λ m. back_in a x now (line_in m.cache a) (find_register a m.cache.registers) m) s s' q q' o o'
by_back a x now v r s s' q q' o o' e f h =
    goes_by (λ c. back_in a x now (line_in c a) (find_register a c.registers)) s s' q q' o o'
    (subst (λ (w : Option Line). Goes (back_in a x now w (find_register a s.registers)) s s' q q' o o') (sym e)
    (subst (λ (w : Option Register). Goes (back_in a x now v w) s s' q q' o o') (sym f) h))

pub back_hits : (a : ℕ) (x : Packet) (now : ℕ) (s s' : CacheState) (q q' : Queue) (o o' : Out) → is_some (line_in s a) ≡ true → Goes (serving a x now) s s' q q' o o'
    → Goes (λ m. back_in a x now (line_in m.cache a) (find_register a m.cache.registers) m) s s' q q' o o'
back_hits a x now s s' q q' o o' e h =
    found_by _ (line_in s a) e (λ l f. by_back a x now (Some l) (find_register a s.registers) s s' q q' o o' f refl
    (subst (λ (v : Option Line). Goes (serving_in v x now) s s' q q' o o') f (goes_for (λ c. serving_in (line_in c a) x now) s s' q q' o o' h)))

pub back_joins : (a : ℕ) (x : Packet) (now : ℕ) (s s' : CacheState) (q : Queue) (o : Out) → is_some (line_in s a) ≡ false
    → is_some (find_register a s.registers) ≡ true → s' ≡ with_joined a x s
    → Goes (λ m. back_in a x now (line_in m.cache a) (find_register a m.cache.registers) m) s s' q q o o
back_joins a x now s s' q o e g h =
    register_by _ (find_register a s.registers) g (λ r f. by_back a x now None (Some r) s s' q q o o (none_by (line_in s a) e) f
    (arrives _ s (with_joined a x s) s' q q o o h (joins a x s q o)))

-- where a write-back is absorbed first
absorbed_first : (x : Packet) (f : CacheMoved → CacheMoved) (s s' : CacheState) (q q' : Queue) (o o' : Out) → Goes f s s' q q' o o' → Goes (λ m. f (absorbing x m)) s s' q q' o o'
absorbed_first x f s s' q q' o o' h = λ m q₀ o₀ st. h (absorbing x m) q₀ o₀ (record { state = st.state; events = st.events; out = st.out })

pub back_comes : (a : ℕ) (x : Packet) (now : ℕ) (s s' : CacheState) (q q' : Queue) (o o' : Out) → is_some (line_in s a) ≡ false
    → is_some (find_register a s.registers) ≡ false → Goes (installing (new_line a true (carried_bytes x)) now) s s' q q' o o'
    → Goes (λ m. back_in a x now (line_in m.cache a) (find_register a m.cache.registers) m) s s' q q' o o'
back_comes a x now s s' q q' o o' e g h =
    by_back a x now None None s s' q q' o o' (none_by (line_in s a) e) (no_register (find_register a s.registers) g)
    (absorbed_first x (installing (new_line a true (carried_bytes x)) now) s s' q q' o o' h)

-- What is taken.

pub takes_passing : (x : Packet) (now : ℕ) (s s' : CacheState) (q q' : Queue) (o o' : Out) → is_cached s x ≡ false → Goes (sending_below x now) s s' q q' o o'
    → Goes (λ m. taking x now (is_cached m.cache x) m) s s' q q' o o'
takes_passing x now s s' q q' o o' e h =
    goes_by (λ c. taking x now (is_cached c x)) s s' q q' o o' (subst (λ b. Goes (taking x now b) s s' q q' o o') (sym e) h)

cached_by : (x : Packet) (now : ℕ) (s s' : CacheState) (q q' : Queue) (o o' : Out) → is_cached s x ≡ true
    → Goes (cached_in (base_of s x.addr) x now x.cmd) s s' q q' o o' → Goes (λ m. taking x now (is_cached m.cache x) m) s s' q q' o o'
cached_by x now s s' q q' o o' e h =
    goes_by (λ c. taking x now (is_cached c x)) s s' q q' o o' (subst (λ b. Goes (taking x now b) s s' q q' o o') (sym e)
    (goes_by (λ c. cached_in (base_of c x.addr) x now x.cmd) s s' q q' o o' h))

second_true : (a b : Bool) → (a && b) ≡ true → b ≡ true
second_true true b e = e
second_true false b e = cc

pub lies_by : (s : CacheState) (x : Packet) → is_cached s x ≡ true → fits s.common.line x x.cmd ≡ true
lies_by s x e = second_true (not x.uncached) (fits s.common.line x x.cmd) e

access_by : (a : ℕ) (x : Packet) (now line : ℕ) (cmd : Cmd) (s s' : CacheState) (q q' : Queue) (o o' : Out) → fits line x cmd ≡ true → is_write_back cmd ≡ false
    → Goes (λ m. access_in a x now (line_in m.cache a) (find_register a m.cache.registers) m) s s' q q' o o' → Goes (cached_in a x now cmd) s s' q q' o o'
access_by a x now line cmds.Read s s' q q' o o' e f h = h
access_by a x now line cmds.Write s s' q q' o o' e f h = h
access_by a x now line cmds.WriteBack s s' q q' o o' e f h = true_false true refl f
access_by a x now line cmds.ReadResp s s' q q' o o' e f h = true_false false e refl
access_by a x now line cmds.WriteResp s s' q q' o o' e f h = true_false false e refl

back_by : (a : ℕ) (x : Packet) (now : ℕ) (cmd : Cmd) (s s' : CacheState) (q q' : Queue) (o o' : Out) → is_write_back cmd ≡ true
    → Goes (λ m. back_in a x now (line_in m.cache a) (find_register a m.cache.registers) m) s s' q q' o o' → Goes (cached_in a x now cmd) s s' q q' o o'
back_by a x now cmds.WriteBack s s' q q' o o' e h = h
back_by a x now cmds.Read s s' q q' o o' e h = true_false false e refl
back_by a x now cmds.Write s s' q q' o o' e h = true_false false e refl
back_by a x now cmds.ReadResp s s' q q' o o' e h = true_false false e refl
back_by a x now cmds.WriteResp s s' q q' o o' e h = true_false false e refl

pub takes_access : (x : Packet) (now : ℕ) (s s' : CacheState) (q q' : Queue) (o o' : Out) → is_cached s x ≡ true → is_write_back x.cmd ≡ false
    → Goes (λ m. access_in (base_of s x.addr) x now (line_in m.cache (base_of s x.addr)) (find_register (base_of s x.addr) m.cache.registers) m) s s' q q' o o'
    → Goes (λ m. taking x now (is_cached m.cache x) m) s s' q q' o o'
takes_access x now s s' q q' o o' e f h =
    cached_by x now s s' q q' o o' e (access_by (base_of s x.addr) x now s.common.line x.cmd s s' q q' o o' (lies_by s x e) f h)

pub takes_back : (x : Packet) (now : ℕ) (s s' : CacheState) (q q' : Queue) (o o' : Out) → is_cached s x ≡ true → is_write_back x.cmd ≡ true
    → Goes (λ m. back_in (base_of s x.addr) x now (line_in m.cache (base_of s x.addr)) (find_register (base_of s x.addr) m.cache.registers) m) s s' q q' o o'
    → Goes (λ m. taking x now (is_cached m.cache x) m) s s' q q' o o'
takes_back x now s s' q q' o o' e f h = cached_by x now s s' q q' o o' e (back_by (base_of s x.addr) x now x.cmd s s' q q' o o' f h)

-- a write-back that lies in a line is one
pub whole_by : (line : ℕ) (x : Packet) (cmd : Cmd) → is_write_back cmd ≡ true → fits line x cmd ≡ true → ((x.addr % line == 0) && (length (carried_bytes x) == line)) ≡ true
whole_by line x cmds.WriteBack e f = f
whole_by line x cmds.Read e f = true_false false e refl
whole_by line x cmds.Write e f = true_false false e refl
whole_by line x cmds.ReadResp e f = true_false false e refl
whole_by line x cmds.WriteResp e f = true_false false e refl

-- a cache with the registers of a call
abbrev pub with_used_registers : CacheState → Held → CacheState
with_used_registers s h = record s { registers = h.used; mshrs = h.count; targets = h.places }
