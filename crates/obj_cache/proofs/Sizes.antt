-- What a wake leaves of a cache's size: it holds at most two packets more, and what it is of a machine stays.
use Rattle.std.proofs.Common.{◌≡◌, ℕ, zero, suc, ◌+◌, ◌≤◌, ◌==◌, Bool, true, false, List, [], ◌∷◌, ◌++◌, refl, sym, ◌∙◌, ap, arith, subst, length, take, drop, ◌-◌, Option, Some, None, if◌then◌else◌}
use Rattle.std.proofs.lemmas.List.{length-append}
use Rattle.cache_tags.specs.Line.{Line, new_line, leaving_line}
use Rattle.gm_cache.specs.State.{Register, CacheState, base_of, line_in, set_at, find_register, without_register, joined, targets_in, packets_in, answers_outlet, leaving_outlet}
use Rattle.gm_model.specs.ObjState.{Common}
use Rattle.gm_cache.specs.Rule.{CacheMoved, begun, noting, sending_above, sending_below, line_request, requesting, evicting, installing, using, line_after, respond, serving_in, serving, serving_all, with_registers, calling, calling_in, absorbing, access_in, back_in, cached_in, taking, is_cached, is_fill, is_blocked, filling, fill_in, returning, from_above, offered, port_moved, sent_in, later, next_ready, cache_step}
use Rattle.gm_model.specs.Flows.{Moved, Outlet, put_in, ask_in, hold_in, again_in, gone_in}
use Rattle.gm_model.specs.View.{queued_packets}
use Rattle.gm_words.specs.Flow.{Queued, OutState}
use Rattle.gm_words.specs.Flow.{Quiet, Due, Asked, Waits}
use Rattle.gm_words.specs.declared.wake.Wake.{Wake}
use Rattle.gm_words.specs.declared.wake.Wake.TheVariants as wakes
use Rattle.pkt_pool.specs.Packet.{carried_bytes, read_response, write_response}
use Rattle.pkt_pool.specs.declared.cmd.Cmd.{Cmd}
use Rattle.pkt_pool.specs.declared.cmd.Cmd.TheVariants as cmds
use Rattle.pkt_pool.specs.declared.packet.Packet.{Packet}
use Rattle.obj_cache.proofs.Coming.{hit, miss}
use Rattle.obj_cache.proofs.Filling.{queued_length, come_in_set, answered, closing}

-- by its two queues and its registers
abbrev pub size : CacheState → ℕ
size s = length s.answers.items + length (targets_in s.registers) + length s.leaving.items

pub size_is : (s : CacheState) → length (packets_in s) ≡ size s
size_is s =
    let all = length-append (queued_packets s.answers.items ++ targets_in s.registers) (queued_packets s.leaving.items) in
    let rest = length-append (queued_packets s.answers.items) (targets_in s.registers) in
    let same : length (packets_in s) ≡ length (queued_packets s.answers.items ++ targets_in s.registers ++ queued_packets s.leaving.items) = refl in
    omega (arith, same, all, rest, queued_length s.answers.items, queued_length s.leaving.items)

-- Queues.

put_length : (o : Outlet) (x : Packet) (at : ℕ) (items : List Queued) (out : OutState) → length (put_in o x at items out).flow.items ≡ length items + 1
put_length o x at [] out = refl
put_length o x at (y ∷ ys) out = omega (arith, length-append (y ∷ ys) (record { packet = x; ready = at } ∷ []))

ask_length : (p : ℕ) (items : List Queued) (out : OutState) → length (ask_in p items out).flow.items ≡ length items
ask_length p [] out = refl
ask_length p (x ∷ xs) Quiet = refl
ask_length p (x ∷ xs) Due = refl
ask_length p (x ∷ xs) Asked = refl
ask_length p (x ∷ xs) Waits = refl

hold_length : (items : List Queued) (out : OutState) → length (hold_in items out).flow.items ≡ length items
hold_length items Quiet = refl
hold_length items Due = refl
hold_length items Asked = refl
hold_length items Waits = refl

again_length : (p : ℕ) (items : List Queued) (out : OutState) → length (again_in p items out).flow.items ≡ length items
again_length p [] out = refl
again_length p (x ∷ xs) Quiet = refl
again_length p (x ∷ xs) Due = refl
again_length p (x ∷ xs) Asked = refl
again_length p (x ∷ xs) Waits = refl

gone_length : (o : Outlet) (at : ℕ) (items : List Queued) → length (gone_in o at items).flow.items ≤ length items
gone_length o at [] = omega arith
gone_length o at (x ∷ []) = omega arith
gone_length o at (x ∷ y ∷ ys) = omega arith

-- Steps.

above_size : (x : Packet) (now : ℕ) (m : CacheMoved) → size (sending_above x now m).cache ≡ size m.cache + 1
above_size x now m = omega (arith, put_length answers_outlet x (now + m.cache.latency) m.cache.answers.items m.cache.answers.out)

below_size : (x : Packet) (now : ℕ) (m : CacheMoved) → size (sending_below x now m).cache ≡ size m.cache + 1
below_size x now m = omega (arith, put_length leaving_outlet x (now + m.cache.latency) m.cache.leaving.items m.cache.leaving.out)

requesting_size : (cmd : Cmd) (a : ℕ) (bytes : List ℕ) (now : ℕ) (m : CacheMoved) → size (requesting cmd a bytes now m).cache ≡ size m.cache + 1
requesting_size cmd a bytes now m = below_size (line_request m.cache m.next cmd a bytes) now m

evicting_size : (v : Option Line) (now : ℕ) (m : CacheMoved) → size (evicting v now m).cache ≤ size m.cache + 1
evicting_size None now m = omega arith
evicting_size (Some v) now m = by v.dirty where
  by : (b : Bool) → size (if b then requesting cmds.WriteBack v.address v.bytes now m else m).cache ≤ size m.cache + 1
  by true = omega (arith, requesting_size cmds.WriteBack v.address v.bytes now m)
  by false = omega arith

installing_size : (l : Line) (now : ℕ) (m : CacheMoved) → size (installing l now m).cache ≤ size m.cache + 1
installing_size l now m = evicting_size (leaving_line m.cache.ways (set_at m.cache l.address)) now (come_in_set l m)

respond_size : (l : Line) (x : Packet) (cmd : Cmd) (now : ℕ) (m : CacheMoved) → size (respond l x cmd now m).cache ≤ size m.cache + 1
respond_size l x cmds.Read now m = omega (arith, above_size (read_response x (take x.size (drop (x.addr - l.address) l.bytes))) now m)
respond_size l x cmds.Write now m = omega (arith, above_size (write_response x) now m)
respond_size l x cmds.WriteBack now m = omega arith
respond_size l x cmds.ReadResp now m = omega arith
respond_size l x cmds.WriteResp now m = omega arith

serving_in_size : (v : Option Line) (x : Packet) (now : ℕ) (m : CacheMoved) → size (serving_in v x now m).cache ≤ size m.cache + 1
serving_in_size None x now m = omega arith
serving_in_size (Some l) x now m = respond_size l x x.cmd now (using (line_after l x x.cmd) m)

serving_all_size : (a : ℕ) (xs : List Packet) (now : ℕ) (m : CacheMoved) → size (serving_all a xs now m).cache ≤ size m.cache + length xs
unfolding serving_all
serving_all_size a [] now m = omega arith
serving_all_size a (x ∷ xs) now m = omega (arith, serving_all_size a xs now (serving a x now m), serving_in_size (line_in m.cache a) x now m)

calling_size : (m : CacheMoved) → size (calling m).cache ≡ size m.cache
calling_size m = by m.cache.waiter (is_blocked m.cache) where
  by : (w b : Bool) → size (calling_in w b m).cache ≡ size m.cache
  by true false = refl
  by true true = refl
  by false b = refl

-- Registers.

joined_size : (a : ℕ) (x : Packet) (rs : List Register) → length (targets_in (joined a x rs)) ≤ length (targets_in rs) + 1
joined_size a x [] = omega arith
joined_size a x (r ∷ rs) = by (r.address == a) (joined_size a x rs) where
  by : (b : Bool) → length (targets_in (joined a x rs)) ≤ length (targets_in rs) + 1
      → length (targets_in (if b then record r { targets = r.targets ++ x ∷ [] } ∷ rs else r ∷ joined a x rs)) ≤ length (targets_in (r ∷ rs)) + 1
  by true more = omega (arith, length-append (r.targets ++ x ∷ []) (targets_in rs), length-append r.targets (x ∷ []), length-append r.targets (targets_in rs))
  by false more = omega (arith, more, length-append r.targets (targets_in (joined a x rs)), length-append r.targets (targets_in rs))

opened_size : (rs : List Register) (a : ℕ) (x : Packet) → length (targets_in (rs ++ record { address = a; targets = x ∷ [] } ∷ [])) ≡ length (targets_in rs) + 1
opened_size [] a x = refl
opened_size (r ∷ rs) a x =
    omega (arith, opened_size rs a x, length-append r.targets (targets_in rs), length-append r.targets (targets_in (rs ++ record { address = a; targets = x ∷ [] } ∷ [])))

closed_size : (a : ℕ) (rs : List Register) (r : Register) → find_register a rs ≡ Some r → length (targets_in (without_register a rs)) + length r.targets ≡ length (targets_in rs)
closed_size a [] r e = absurd (cc)
closed_size a (s ∷ rs) r e = by (s.address == a) refl e (closed_size a rs r) where
  same : (s r : Register) → Some s ≡ Some r → s ≡ r
  same s r e = cc

  by : (b : Bool) → (s.address == a) ≡ b → (if b then Some s else find_register a rs) ≡ Some r
      → (find_register a rs ≡ Some r → length (targets_in (without_register a rs)) + length r.targets ≡ length (targets_in rs))
      → length (targets_in (if b then rs else s ∷ without_register a rs)) + length r.targets ≡ length (targets_in (s ∷ rs))
  by true h e more = omega (arith, ap (λ (t : Register). length t.targets) (same s r e), length-append s.targets (targets_in rs))
  by false h e more = omega (arith, more e, length-append s.targets (targets_in rs), length-append s.targets (targets_in (without_register a rs)))

-- Packets that come.

access_size : (a : ℕ) (x : Packet) (now : ℕ) (v : Option Line) (r : Option Register) (m : CacheMoved) → size (access_in a x now v r m).cache ≤ size m.cache + 2
access_size a x now (Some l) r m = omega (arith, serving_in_size (Some l) x now (noting (hit m.cache.common.object) m))
access_size a x now None (Some r) m = omega (arith, joined_size a x m.cache.registers)
access_size a x now None None m =
    let opened : CacheMoved = with_registers (m.cache.registers ++ record { address = a; targets = x ∷ [] } ∷ []) (noting (miss m.cache.common.object) m) in
    omega (arith, opened_size m.cache.registers a x, requesting_size cmds.Read a [] now opened)

back_size : (a : ℕ) (x : Packet) (now : ℕ) (v : Option Line) (r : Option Register) (m : CacheMoved) → size (back_in a x now v r m).cache ≤ size m.cache + 2
back_size a x now (Some l) r m = omega (arith, serving_in_size (Some l) x now m)
back_size a x now None (Some r) m = omega (arith, joined_size a x m.cache.registers)
back_size a x now None None m = omega (arith, installing_size (new_line a true (carried_bytes x)) now (absorbing x m))

cached_size : (a : ℕ) (x : Packet) (now : ℕ) (cmd : Cmd) (m : CacheMoved) → size (cached_in a x now cmd m).cache ≤ size m.cache + 2
cached_size a x now cmds.Read m = access_size a x now (line_in m.cache a) (find_register a m.cache.registers) m
cached_size a x now cmds.Write m = access_size a x now (line_in m.cache a) (find_register a m.cache.registers) m
cached_size a x now cmds.WriteBack m = back_size a x now (line_in m.cache a) (find_register a m.cache.registers) m
cached_size a x now cmds.ReadResp m = omega arith
cached_size a x now cmds.WriteResp m = omega arith

taking_size : (x : Packet) (now : ℕ) (b : Bool) (m : CacheMoved) → size (taking x now b m).cache ≤ size m.cache + 2
taking_size x now true m = cached_size (base_of m.cache x.addr) x now x.cmd m
taking_size x now false m = omega (arith, above_below) where
  above_below : size (sending_below x now m).cache ≡ size m.cache + 1
  above_below = below_size x now m

filling_size : (y : Packet) (ts : List Packet) (now : ℕ) (v : Option Line) (m : CacheMoved) → size (filling y ts now v m).cache ≤ size m.cache + length ts + 1
filling_size y ts now None m =
    omega (arith, serving_all_size y.addr ts now (installing (new_line y.addr false (carried_bytes y)) now m), installing_size (new_line y.addr false (carried_bytes y)) now m)
filling_size y ts now (Some l) m = omega (arith, serving_all_size y.addr ts now m)

fill_size : (y : Packet) (now : ℕ) (r : Option Register) (m : CacheMoved) → find_register y.addr m.cache.registers ≡ r → size (fill_in y now r m).cache ≤ size m.cache + 2
fill_size y now None m e = omega (arith, above_size y now m)
fill_size y now (Some r) m e = omega (arith, closed_size y.addr m.cache.registers r e, filling_size y r.targets now (line_in m.cache y.addr) (answered y (closing y.addr m)))

returning_size : (y : Packet) (now : ℕ) (b : Bool) (m : CacheMoved) → size (returning y now b m).cache ≤ size m.cache + 2
returning_size y now true m = fill_size y now (find_register y.addr m.cache.registers) m refl
returning_size y now false m = omega (arith, above_size y now m)

above_offered : (s : CacheState) (next : ℕ) (x : Packet) (now : ℕ) (b : Bool) → size (from_above s next x now b).moved.cache ≤ size s + 2
above_offered s next x now true = omega arith
above_offered s next x now false = omega (arith, calling_size (taking x now (is_cached s x) (begun s next)), taking_size x now (is_cached s x) (begun s next))

offered_size : (s : CacheState) (next p : ℕ) (x : Packet) (now : ℕ) → size (offered s next p x now).moved.cache ≤ size s + 2
offered_size s next zero x now = above_offered s next x now (is_blocked s)
offered_size s next (suc p) x now = omega (arith, calling_size (returning x now (is_fill s x) (begun s next)), returning_size x now (is_fill s x) (begun s next))

-- Wakes.

event_size : (p : ℕ) (m : CacheMoved) → size (port_moved p (ask_in 0) (ask_in 1) m).cache ≡ size m.cache
event_size zero m = omega (arith, ask_length 0 m.cache.answers.items m.cache.answers.out)
event_size (suc p) m = omega (arith, ask_length 1 m.cache.leaving.items m.cache.leaving.out)

held_size : (p : ℕ) (m : CacheMoved) → size (port_moved p hold_in hold_in m).cache ≡ size m.cache
held_size zero m = omega (arith, hold_length m.cache.answers.items m.cache.answers.out)
held_size (suc p) m = omega (arith, hold_length m.cache.leaving.items m.cache.leaving.out)

again_size : (p : ℕ) (m : CacheMoved) → size (port_moved p (again_in 0) (again_in 1) m).cache ≡ size m.cache
again_size zero m = omega (arith, again_length 0 m.cache.answers.items m.cache.answers.out)
again_size (suc p) m = omega (arith, again_length 1 m.cache.leaving.items m.cache.leaving.out)

sent_size : (p now : ℕ) (m : CacheMoved) → size (sent_in p now m).cache ≤ size m.cache
sent_size zero now m = omega (arith, gone_length answers_outlet (later now (next_ready m.cache.answers.items)) m.cache.answers.items)
sent_size (suc p) now m = omega (arith, gone_length leaving_outlet (later now (next_ready m.cache.leaving.items)) m.cache.leaving.items)

step_size : (s : CacheState) (next : ℕ) (w : Wake) (now : ℕ) → size (cache_step s next w now).moved.cache ≤ size s + 2
unfolding cache_step
step_size s next (wakes.Event slot) now = omega (arith, calling_size (port_moved slot.0 (ask_in 0) (ask_in 1) (begun s next)), event_size slot.0 (begun s next))
step_size s next (wakes.Offer port x) now = offered_size s next port.0 x now
step_size s next (wakes.Taken port) now = omega (arith, calling_size (sent_in port.0 now (begun s next)), sent_size port.0 now (begun s next))
step_size s next (wakes.Refused port) now = omega (arith, calling_size (port_moved port.0 hold_in hold_in (begun s next)), held_size port.0 (begun s next))
step_size s next (wakes.Retry port) now = omega (arith, calling_size (port_moved port.0 (again_in 0) (again_in 1) (begun s next)), again_size port.0 (begun s next))
step_size s next (wakes.Line bit level) now = omega arith
step_size s next (wakes.AtomicDone p latency) now = omega arith

-- at most two packets more are held after a wake
pub held_more : (s t : CacheState) (next : ℕ) (w : Wake) (now : ℕ) → t ≡ (cache_step s next w now).moved.cache → length (packets_in t) ≤ length (packets_in s) + 2
held_more s t next w now e = omega (arith, ap size e, step_size s next w now, size_is s, size_is t)

-- What it is of a machine stays.

evicting_common : (v : Option Line) (now : ℕ) (m : CacheMoved) → (evicting v now m).cache.common ≡ m.cache.common
evicting_common None now m = refl
evicting_common (Some v) now m = by v.dirty where
  by : (b : Bool) → (if b then requesting cmds.WriteBack v.address v.bytes now m else m).cache.common ≡ m.cache.common
  by true = refl
  by false = refl

installing_common : (l : Line) (now : ℕ) (m : CacheMoved) → (installing l now m).cache.common ≡ m.cache.common
installing_common l now m = evicting_common (leaving_line m.cache.ways (set_at m.cache l.address)) now (come_in_set l m)

respond_common : (l : Line) (x : Packet) (cmd : Cmd) (now : ℕ) (m : CacheMoved) → (respond l x cmd now m).cache.common ≡ m.cache.common
respond_common l x cmds.Read now m = refl
respond_common l x cmds.Write now m = refl
respond_common l x cmds.WriteBack now m = refl
respond_common l x cmds.ReadResp now m = refl
respond_common l x cmds.WriteResp now m = refl

serving_in_common : (v : Option Line) (x : Packet) (now : ℕ) (m : CacheMoved) → (serving_in v x now m).cache.common ≡ m.cache.common
serving_in_common None x now m = refl
serving_in_common (Some l) x now m = respond_common l x x.cmd now (using (line_after l x x.cmd) m)

serving_all_common : (a : ℕ) (xs : List Packet) (now : ℕ) (m : CacheMoved) → (serving_all a xs now m).cache.common ≡ m.cache.common
unfolding serving_all
serving_all_common a [] now m = refl
serving_all_common a (x ∷ xs) now m = serving_all_common a xs now (serving a x now m) ∙ serving_in_common (line_in m.cache a) x now m

calling_common : (m : CacheMoved) → (calling m).cache.common ≡ m.cache.common
calling_common m = by m.cache.waiter (is_blocked m.cache) where
  by : (w b : Bool) → (calling_in w b m).cache.common ≡ m.cache.common
  by true false = refl
  by true true = refl
  by false b = refl

access_common : (a : ℕ) (x : Packet) (now : ℕ) (v : Option Line) (r : Option Register) (m : CacheMoved) → (access_in a x now v r m).cache.common ≡ m.cache.common
access_common a x now (Some l) r m = serving_in_common (Some l) x now (noting (hit m.cache.common.object) m)
access_common a x now None (Some r) m = refl
access_common a x now None None m = refl

back_common : (a : ℕ) (x : Packet) (now : ℕ) (v : Option Line) (r : Option Register) (m : CacheMoved) → (back_in a x now v r m).cache.common ≡ m.cache.common
back_common a x now (Some l) r m = serving_in_common (Some l) x now m
back_common a x now None (Some r) m = refl
back_common a x now None None m = installing_common (new_line a true (carried_bytes x)) now (absorbing x m)

cached_common : (a : ℕ) (x : Packet) (now : ℕ) (cmd : Cmd) (m : CacheMoved) → (cached_in a x now cmd m).cache.common ≡ m.cache.common
cached_common a x now cmds.Read m = access_common a x now (line_in m.cache a) (find_register a m.cache.registers) m
cached_common a x now cmds.Write m = access_common a x now (line_in m.cache a) (find_register a m.cache.registers) m
cached_common a x now cmds.WriteBack m = back_common a x now (line_in m.cache a) (find_register a m.cache.registers) m
cached_common a x now cmds.ReadResp m = refl
cached_common a x now cmds.WriteResp m = refl

taking_common : (x : Packet) (now : ℕ) (b : Bool) (m : CacheMoved) → (taking x now b m).cache.common ≡ m.cache.common
taking_common x now true m = cached_common (base_of m.cache x.addr) x now x.cmd m
taking_common x now false m = refl

filling_common : (y : Packet) (ts : List Packet) (now : ℕ) (v : Option Line) (m : CacheMoved) → (filling y ts now v m).cache.common ≡ m.cache.common
filling_common y ts now None m =
    serving_all_common y.addr ts now (installing (new_line y.addr false (carried_bytes y)) now m) ∙ installing_common (new_line y.addr false (carried_bytes y)) now m
filling_common y ts now (Some l) m = serving_all_common y.addr ts now m

fill_common : (y : Packet) (now : ℕ) (r : Option Register) (m : CacheMoved) → (fill_in y now r m).cache.common ≡ m.cache.common
fill_common y now None m = refl
fill_common y now (Some r) m = filling_common y r.targets now (line_in m.cache y.addr) (answered y (closing y.addr m))

returning_common : (y : Packet) (now : ℕ) (b : Bool) (m : CacheMoved) → (returning y now b m).cache.common ≡ m.cache.common
returning_common y now true m = fill_common y now (find_register y.addr m.cache.registers) m
returning_common y now false m = refl

above_common : (s : CacheState) (next : ℕ) (x : Packet) (now : ℕ) (b : Bool) → (from_above s next x now b).moved.cache.common ≡ s.common
above_common s next x now true = refl
above_common s next x now false = calling_common (taking x now (is_cached s x) (begun s next)) ∙ taking_common x now (is_cached s x) (begun s next)

offered_common : (s : CacheState) (next p : ℕ) (x : Packet) (now : ℕ) → (offered s next p x now).moved.cache.common ≡ s.common
offered_common s next zero x now = above_common s next x now (is_blocked s)
offered_common s next (suc p) x now = calling_common (returning x now (is_fill s x) (begun s next)) ∙ returning_common x now (is_fill s x) (begun s next)

port_common : (p : ℕ) (f g : List Queued → OutState → Moved) (m : CacheMoved) → (port_moved p f g m).cache.common ≡ m.cache.common
port_common zero f g m = refl
port_common (suc p) f g m = refl

step_common : (s : CacheState) (next : ℕ) (w : Wake) (now : ℕ) → (cache_step s next w now).moved.cache.common ≡ s.common
unfolding cache_step
step_common s next (wakes.Event slot) now = calling_common (port_moved slot.0 (ask_in 0) (ask_in 1) (begun s next)) ∙ port_common slot.0 (ask_in 0) (ask_in 1) (begun s next)
step_common s next (wakes.Offer port x) now = offered_common s next port.0 x now
step_common s next (wakes.Taken port) now = calling_common (sent_in port.0 now (begun s next)) ∙ port_common port.0 _ _ (begun s next)
step_common s next (wakes.Refused port) now = calling_common (port_moved port.0 hold_in hold_in (begun s next)) ∙ port_common port.0 hold_in hold_in (begun s next)
step_common s next (wakes.Retry port) now = calling_common (port_moved port.0 (again_in 0) (again_in 1) (begun s next)) ∙ port_common port.0 (again_in 0) (again_in 1) (begun s next)
step_common s next (wakes.Line bit level) now = refl
step_common s next (wakes.AtomicDone p latency) now = refl

pub same_common : (s t : CacheState) (next : ℕ) (w : Wake) (now : ℕ) → t ≡ (cache_step s next w now).moved.cache → t.common ≡ s.common
same_common s t next w now e = ap (λ (c : CacheState). c.common) e ∙ step_common s next w now
