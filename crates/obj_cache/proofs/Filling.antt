-- Responses from below: lines that were asked for come, and serve who waits for them.
use Rattle.std.proofs.Common.{◌≡◌, ℕ, suc, ◌+◌, ◌≤◌, ◌==◌, Bool, true, false, List, [], ◌∷◌, ◌++◌, refl, sym, ◌∙◌, ap, arith, subst, length, Option, Some, None, is_some, if◌then◌else◌}
use Rattle.std.proofs.lemmas.List.{length-append}
use Rattle.cache_tags.specs.Line.{Line, new_line, leaving_line}
use Rattle.ev_queue.specs.Queue.{Queue}
use Rattle.gm_cache.specs.State.{Register, CacheState, line_in, set_at, find_register, without_register, targets_in, packets_in}
use Rattle.gm_cache.specs.Rule.{CacheMoved, serving_all, sending_above, requesting, evicting, installing, with_registers, is_fill, filling, fill_in, returning}
use Rattle.gm_model.specs.View.{queued_packets}
use Rattle.gm_words.specs.Flow.{Queued}
use Rattle.obj_core.specs.Out.{Out}
use Rattle.pkt_pool.specs.Packet.{carried_bytes}
use Rattle.pkt_pool.specs.declared.cmd.Cmd.TheVariants as cmds
use Rattle.pkt_pool.specs.declared.packet.Packet.{Packet}
use Rattle.obj_cache.specs.Held.{targets_of, with_targets}
use Rattle.obj_cache.specs.Step.{Stands, Goes}
use Rattle.obj_cache.proofs.Steps.{goes_by}
use Rattle.obj_cache.proofs.Parts.{with_come, found_by, none_by}
use Rattle.obj_cache.proofs.Coming.{register_by, no_register}
use Rattle.obj_cache.proofs.Waiting.{all_served, serving_all-registers}

-- A line that comes leaves the registers.

evicting-registers : (v : Option Line) (now : ℕ) (rs : List Register) (m : CacheMoved) → evicting v now (with_registers rs m) ≡ with_registers rs (evicting v now m)
evicting-registers None now rs m = refl
evicting-registers (Some v) now rs m = by v.dirty where
  by : (b : Bool) → (if b then requesting cmds.WriteBack v.address v.bytes now (with_registers rs m) else with_registers rs m)
      ≡ with_registers rs (if b then requesting cmds.WriteBack v.address v.bytes now m else m)
  by true = refl
  by false = refl

-- a line is in its set
abbrev pub come_in_set : Line → CacheMoved → CacheMoved
come_in_set l m = record m { cache = with_come l m.cache }

installing-registers : (l : Line) (now : ℕ) (rs : List Register) (m : CacheMoved) → installing l now (with_registers rs m) ≡ with_registers rs (installing l now m)
installing-registers l now rs m = evicting-registers (leaving_line m.cache.ways (set_at m.cache l.address)) now rs (record m { cache = with_come l m.cache })

evicting-keeps : (v : Option Line) (now : ℕ) (m : CacheMoved) → (evicting v now m).cache.registers ≡ m.cache.registers
evicting-keeps None now m = refl
evicting-keeps (Some v) now m = by v.dirty where
  by : (b : Bool) → (if b then requesting cmds.WriteBack v.address v.bytes now m else m).cache.registers ≡ m.cache.registers
  by true = refl
  by false = refl

installing-keeps : (l : Line) (now : ℕ) (m : CacheMoved) → (installing l now m).cache.registers ≡ m.cache.registers
installing-keeps l now m = evicting-keeps (leaving_line m.cache.ways (set_at m.cache l.address)) now (record m { cache = with_come l m.cache })

-- Registers.

targets_found : (a : ℕ) (rs : List Register) (r : Register) → find_register a rs ≡ Some r → targets_of a rs ≡ r.targets
targets_found a [] r e = absurd (cc)
targets_found a (s ∷ rs) r e = by (s.address == a) refl e (targets_found a rs r) where
  by : (b : Bool) → (s.address == a) ≡ b → (if b then Some s else find_register a rs) ≡ Some r → (find_register a rs ≡ Some r → targets_of a rs ≡ r.targets)
      → (if b then s.targets else targets_of a rs) ≡ r.targets
  by true h e more = ap (λ (t : Register). t.targets) (same s r e) where
    same : (s r : Register) → Some s ≡ Some r → s ≡ r
    same s r e = cc
  by false h e more = more e

without-with : (a : ℕ) (ts : List Packet) (rs : List Register) → without_register a (with_targets a ts rs) ≡ without_register a rs
without-with a ts [] = refl
without-with a ts (r ∷ rs) = by (r.address == a) refl (without-with a ts rs) where
  by : (b : Bool) → (r.address == a) ≡ b → without_register a (with_targets a ts rs) ≡ without_register a rs
      → without_register a (if b then record r { targets = ts } ∷ rs else r ∷ with_targets a ts rs) ≡ (if b then rs else r ∷ without_register a rs)
  by true h more = rw h refl
  by false h more = rw h (ap (λ (l : List Register). r ∷ l) more)

-- A fill.

-- the register of a line is closed
abbrev pub closing : ℕ → CacheMoved → CacheMoved
closing a m = with_registers (without_register a m.cache.registers) m

-- a request of the cache's own was answered
abbrev pub answered : Packet → CacheMoved → CacheMoved
answered y m = record m { moves = record m.moves { answered = m.moves.answered ++ y ∷ [] } }

-- those who wait are served first, and the register is closed then
closed_last : (a : ℕ) (now : ℕ) (r : Register) (rs : List Register) (m : CacheMoved) → m.cache.registers ≡ rs → find_register a rs ≡ Some r
    → closing a (all_served a now m) ≡ serving_all a r.targets now (with_registers (without_register a rs) m)
closed_last a now r rs m k e =
    ap (λ (l : List Register). with_registers (without_register a (with_targets a [] l)) (serving_all a (targets_of a l) now m)) k
    ∙ ap (λ (l : List Register). with_registers l (serving_all a (targets_of a rs) now m)) (without-with a [] rs)
    ∙ ap (λ (l : List Packet). with_registers (without_register a rs) (serving_all a l now m)) (targets_found a rs r e)
    ∙ sym (serving_all-registers a r.targets now (without_register a rs) m)

-- a step from a cache, events and an outbox that are told by equations
moved_start : (f : CacheMoved → CacheMoved) (r s s' : CacheState) (p q q' : Queue) (u o o' : Out) → r ≡ s → p ≡ q → u ≡ o → Goes f r s' p q' u o' → Goes f s s' q q' o o'
moved_start f r s s' p q q' u o o' rs ps us h =
    subst (λ (v : Out). Goes f s s' q q' v o') us (subst (λ (v : Queue). Goes f s s' v q' u o') ps (subst (λ (v : CacheState). Goes f v s' p q' u o') rs h))

fills : (y : Packet) (now : ℕ) (v : Option Line) (f : CacheMoved → CacheMoved) (s s₁ s₂ s₃ : CacheState) (q q₁ q₂ : Queue) (o o₁ o₂ : Out)
    → line_in s y.addr ≡ v → is_some (find_register y.addr s.registers) ≡ true → Goes f s s₁ q q₁ o o₁ → Goes (all_served y.addr now) s₁ s₂ q₁ q₂ o₁ o₂
    → s₃ ≡ (let t : CacheState = record s₂ { registers = without_register y.addr s₂.registers } in t)
    → ((r : Register) (m : CacheMoved) → (f m).cache.registers ≡ m.cache.registers)
    → ((r : Register) (m : CacheMoved) → serving_all y.addr r.targets now (with_registers (without_register y.addr m.cache.registers) (f (answered y m)))
    ≡ filling y r.targets now v (answered y (closing y.addr m)))
    → Goes (λ m. fill_in y now (find_register y.addr m.cache.registers) m) s s₃ q q₂ o o₂
fills y now v f s s₁ s₂ s₃ q q₁ q₂ o o₁ o₂ ev er hf hs es keeps same =
    register_by _ (find_register y.addr s.registers) er (λ r g. λ m q₀ o₀ st.
    let h₁ = hf (answered y m) q₀ o₀ (record { state = st.state; events = st.events; out = st.out }) in
    let h₂ = hs (f (answered y m)) q₀ o₀ h₁ in
    let h₃ : Stands (closing y.addr (all_served y.addr now (f (answered y m)))) q₀ o₀ s₃ q₂ o₂ = record {
      state = es ∙ ap (λ (c : CacheState). let t : CacheState = record c { registers = without_register y.addr c.registers } in t) h₂.state;
      events = h₂.events;
      out = h₂.out;
    } in
    let there : find_register y.addr m.cache.registers ≡ Some r = ap (λ (c : CacheState). find_register y.addr c.registers) (sym st.state) ∙ g in
    let line : v ≡ line_in m.cache y.addr = sym ev ∙ ap (λ (c : CacheState). line_in c y.addr) st.state in
    subst (λ (w : Option Register). Stands (fill_in y now w m) q₀ o₀ s₃ q₂ o₂) (sym there)
    (subst (λ (w : Option Line). Stands (filling y r.targets now w (answered y (closing y.addr m))) q₀ o₀ s₃ q₂ o₂) line
    (subst (λ (n : CacheMoved). Stands n q₀ o₀ s₃ q₂ o₂)
    (closed_last y.addr now r m.cache.registers (f (answered y m)) (keeps r (answered y m)) there ∙ same r m) h₃)))

pub fills_absent : (y : Packet) (now : ℕ) (s s₁ s₂ s₃ : CacheState) (q q₁ q₂ : Queue) (o o₁ o₂ : Out) (r₁ : CacheState) (p₁ : Queue) (u₁ : Out)
    → r₁ ≡ s₁ → p₁ ≡ q₁ → u₁ ≡ o₁ → is_some (line_in s y.addr) ≡ false
    → is_some (find_register y.addr s.registers) ≡ true → Goes (installing (new_line y.addr false (carried_bytes y)) now) s s₁ q q₁ o o₁
    → Goes (all_served y.addr now) r₁ s₂ p₁ q₂ u₁ o₂ → s₃ ≡ (let t : CacheState = record s₂ { registers = without_register y.addr s₂.registers } in t)
    → Goes (λ m. fill_in y now (find_register y.addr m.cache.registers) m) s s₃ q q₂ o o₂
fills_absent y now s s₁ s₂ s₃ q q₁ q₂ o o₁ o₂ r₁ p₁ u₁ rs ps us ev er hf hs es =
    let l : Line = new_line y.addr false (carried_bytes y) in
    let hs = moved_start (all_served y.addr now) r₁ s₁ s₂ p₁ q₁ q₂ u₁ o₁ o₂ rs ps us hs in
    fills y now None (installing l now) s s₁ s₂ s₃ q q₁ q₂ o o₁ o₂ (none_by (line_in s y.addr) ev) er hf hs es (λ r m. installing-keeps l now m)
    (λ r m. ap (λ (n : CacheMoved). serving_all y.addr r.targets now n) (sym (installing-registers l now (without_register y.addr m.cache.registers) (answered y m))))

pub fills_there : (y : Packet) (now : ℕ) (s s₂ s₃ : CacheState) (q q₂ : Queue) (o o₂ : Out) (r₁ : CacheState) (p₁ : Queue) (u₁ : Out)
    → r₁ ≡ s → p₁ ≡ q → u₁ ≡ o → is_some (line_in s y.addr) ≡ true
    → is_some (find_register y.addr s.registers) ≡ true → Goes (all_served y.addr now) r₁ s₂ p₁ q₂ u₁ o₂
    → s₃ ≡ (let t : CacheState = record s₂ { registers = without_register y.addr s₂.registers } in t)
    → Goes (λ m. fill_in y now (find_register y.addr m.cache.registers) m) s s₃ q q₂ o o₂
fills_there y now s s₂ s₃ q q₂ o o₂ r₁ p₁ u₁ rs ps us ev er hs es =
    let hs = moved_start (all_served y.addr now) r₁ s s₂ p₁ q q₂ u₁ o o₂ rs ps us hs in
    found_by _ (line_in s y.addr) ev (λ l e. fills y now (Some l) (λ m. m) s s s₂ s₃ q q q₂ o o o₂ e er (λ m q₀ o₀ st. st) hs es (λ r m. refl) (λ r m. refl))

-- Other responses go on above.

pub returns_filled : (y : Packet) (now : ℕ) (s s' : CacheState) (q q' : Queue) (o o' : Out) → is_fill s y ≡ true
    → Goes (λ m. fill_in y now (find_register y.addr m.cache.registers) m) s s' q q' o o' → Goes (λ m. returning y now (is_fill m.cache y) m) s s' q q' o o'
returns_filled y now s s' q q' o o' e h =
    goes_by (λ c. returning y now (is_fill c y)) s s' q q' o o' (subst (λ b. Goes (returning y now b) s s' q q' o o') (sym e) h)

pub returns_unknown : (y : Packet) (now : ℕ) (s s' : CacheState) (q q' : Queue) (o o' : Out) → is_fill s y ≡ true → is_some (find_register y.addr s.registers) ≡ false
    → Goes (sending_above y now) s s' q q' o o' → Goes (λ m. returning y now (is_fill m.cache y) m) s s' q q' o o'
returns_unknown y now s s' q q' o o' e f h =
    returns_filled y now s s' q q' o o' e (goes_by (λ c. fill_in y now (find_register y.addr c.registers)) s s' q q' o o'
    (subst (λ (r : Option Register). Goes (fill_in y now r) s s' q q' o o') (sym (no_register (find_register y.addr s.registers) f)) h))

pub returns_other : (y : Packet) (now : ℕ) (s s' : CacheState) (q q' : Queue) (o o' : Out) → is_fill s y ≡ false
    → Goes (sending_above y now) s s' q q' o o' → Goes (λ m. returning y now (is_fill m.cache y) m) s s' q q' o o'
returns_other y now s s' q q' o o' e h =
    goes_by (λ c. returning y now (is_fill c y)) s s' q q' o o' (subst (λ b. Goes (returning y now b) s s' q q' o o') (sym e) h)

-- Room.

pub queued_length : (items : List Queued) → length (queued_packets items) ≡ length items
queued_length [] = refl
queued_length (x ∷ xs) = ap (λ n. suc n) (queued_length xs)

targets_within : (a : ℕ) (rs : List Register) → length (targets_of a rs) ≤ length (targets_in rs)
targets_within a [] = omega arith
targets_within a (r ∷ rs) = by (r.address == a) (targets_within a rs) where
  both : length (r.targets ++ targets_in rs) ≡ length r.targets + length (targets_in rs)
  both = length-append r.targets (targets_in rs)

  by : (b : Bool) → length (targets_of a rs) ≤ length (targets_in rs) → length (if b then r.targets else targets_of a rs) ≤ length (r.targets ++ targets_in rs)
  by true more = omega (arith, both)
  by false more = omega (arith, both, more)

-- what a cache holds is more than what its queues hold and who waits for one line
pub record Holds (n : ℕ) (s : CacheState) (a : ℕ) : Type 0 where
  pub above : length s.answers.items + length (targets_of a s.registers) ≤ n
  pub below : length s.leaving.items ≤ n

pub holds : (n : ℕ) (s : CacheState) (a : ℕ) → length (packets_in s) ≤ n → Holds n s a
holds n s a h =
    let all = length-append (queued_packets s.answers.items ++ targets_in s.registers) (queued_packets s.leaving.items) in
    let rest = length-append (queued_packets s.answers.items) (targets_in s.registers) in
    let above = queued_length s.answers.items in
    let below = queued_length s.leaving.items in
    let some = targets_within a s.registers in
    let h : length (queued_packets s.answers.items ++ targets_in s.registers ++ queued_packets s.leaving.items) ≤ n = h in
    record { above = omega (arith, h, all, rest, above, below, some); below = omega (arith, h, all, rest, above, below, some) }
