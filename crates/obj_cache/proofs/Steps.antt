-- Steps of a wake, one after another.
use Rattle.std.proofs.Common.{◌≡◌, ℕ, zero, suc, ◌+◌, false, List, [], ◌∷◌, ◌++◌, refl, sym, ◌∙◌, ap, arith, subst, Option, unwrap_or, slice_get, length, replicate}
use Rattle.std.specs.Option.{option_map}
use Rattle.std.proofs.lemmas.List.{append_assoc, append-nil, map-append, drop-replicate}
use Rattle.ev_queue.specs.Queue.{Queue}
use Rattle.ev_queue.specs.declared.due.Due.{Due}
use Rattle.cache_tags.specs.Line.{padded}
use Rattle.pkt_pool.specs.Packet.{with_front, request}
use Rattle.pkt_pool.specs.declared.cmd.Cmd.{Cmd}
use Rattle.gm_cache.specs.State.{CacheState, answers_outlet, leaving_outlet}
use Rattle.gm_cache.specs.Rule.{CacheMoved, above_moved, below_moved, sending_above, sending_below, requesting, line_request, sent_in, next_ready, later, noting}
use Rattle.gm_model.specs.Flows.{Moved, put_in, gone_in}
use Rattle.gm_model.specs.Deliver.{Item, Sent, sent_by}
use Rattle.gm_words.specs.Flow.{Flow, Queued, OutState}
use Rattle.gm_words.specs.Changes.{Change, Schedule, Remove, changed_by, changed}
use Rattle.gm_words.specs.declared.act.Act.{Act}
use Rattle.gm_words.specs.declared.entry.Entry.{Entry}
use Rattle.obj_core.specs.Kept.{outlet_of}
use Rattle.obj_core.specs.Out.{Out, extended}
use Rattle.obj_core.proofs.StepLemmas.{put_acts, gone_acts}
use Rattle.pkt_pool.specs.declared.packet.Packet.{Packet}
use Rattle.obj_cache.specs.Step.{Stands, Goes}

-- Changes and outboxes.

pub changed-append : (i : ℕ) (es : List Due) (cs ds : List Change) → changed i (changed i es cs) ds ≡ changed i es (cs ++ ds)
changed-append i es [] ds = refl
changed-append i es (Schedule slot class at ∷ cs) ds = changed-append i (changed_by i es (Schedule slot class at)) cs ds
changed-append i es (Remove slot ∷ cs) ds = changed-append i (changed_by i es (Remove slot)) cs ds

pub extended-extended : (o : Out) (a b : List Act) (e f : List Entry) (n m : ℕ) → extended (extended o a e n) b f m ≡ extended o (a ++ b) (e ++ f) m
extended-extended o a b e f n m =
    ap (λ (is : List Item). let p : Out = record { sender = o.sender; items = is; entries = (o.entries ++ e) ++ f; next = m } in p)
    (append_assoc o.items (sent_by o.sender a) (sent_by o.sender b) ∙ ap (λ (is : List Item). o.items ++ is) (sym (map-append (Sent o.sender) a b)))
    ∙ ap (λ (es : List Entry). let p : Out = record { sender = o.sender; items = o.items ++ sent_by o.sender (a ++ b); entries = es; next = m } in p)
    (append_assoc o.entries e f)

-- what was extended, and then again by what a step asks for, notes and draws
pub more_out : (o o₁ o₂ : Out) (a b : List Act) (e f : List Entry) (n m : ℕ) → o₁ ≡ extended o a e n → o₂ ≡ extended o₁ b f m → o₂ ≡ extended o (a ++ b) (e ++ f) m
more_out o o₁ o₂ a b e f n m h k = k ∙ ap (λ p. extended p b f m) h ∙ extended-extended o a b e f n m

-- the same of a step that notes nothing
pub more_acts : (o o₁ o₂ : Out) (a b : List Act) (e : List Entry) (n : ℕ) → o₁ ≡ extended o a e n → o₂ ≡ extended o₁ b [] o₁.next → o₂ ≡ extended o (a ++ b) e n
more_acts o o₁ o₂ a b e n h k =
    more_out o o₁ o₂ a b e [] n o₁.next h k ∙ ap (λ es. extended o (a ++ b) es o₁.next) (append-nil e) ∙ ap (λ k. extended o (a ++ b) e k) (ap (λ (p : Out). p.next) h)

-- One step after another.

pub followed : (f g : CacheMoved → CacheMoved) (s s₁ s₂ : CacheState) (q q₁ q₂ : Queue) (o o₁ o₂ : Out)
    → Goes f s s₁ q q₁ o o₁ → Goes g s₁ s₂ q₁ q₂ o₁ o₂ → Goes (λ m. g (f m)) s s₂ q q₂ o o₂
followed f g s s₁ s₂ q q₁ q₂ o o₁ o₂ a b = λ m q₀ o₀ h. b (f m) q₀ o₀ (a m q₀ o₀ h)

-- a step that goes by the cache as it is
pub goes_by : (f : CacheState → CacheMoved → CacheMoved) (s s' : CacheState) (q q' : Queue) (o o' : Out)
    → Goes (f s) s s' q q' o o' → Goes (λ m. f m.cache m) s s' q q' o o'
goes_by f s s' q q' o o' a = λ m q₀ o₀ h. subst (λ (c : CacheState). Stands (f c m) q₀ o₀ s' q' o') h.state (a m q₀ o₀ h)

-- the queue after changes, and then after others
more_events : (i : ℕ) (q q₁ q₂ : Queue) (cs ds : List Change) → q₁ ≡ (let r : Queue = record q { pending = changed i q.pending cs } in r)
    → q₂ ≡ (let r : Queue = record q₁ { pending = changed i q₁.pending ds } in r) → q₂ ≡ (let r : Queue = record q { pending = changed i q.pending (cs ++ ds) } in r)
more_events i q q₁ q₂ cs ds h k =
    k ∙ ap (λ (p : Queue). let r : Queue = record p { pending = changed i p.pending ds } in r) h
    ∙ ap (λ (es : List Due). let r : Queue = record q { pending = es } in r) (changed-append i q.pending cs ds)

-- a step of the answers
pub above_goes : (f : CacheState → Moved) (s s' : CacheState) (q q' : Queue) (o o' : Out)
    → s' ≡ (let t : CacheState = record s { answers = (f s).flow } in t)
    → q' ≡ (let r : Queue = record q { pending = changed s.common.object q.pending (f s).changes } in r)
    → o' ≡ extended o (f s).acts [] o.next
    → Goes (λ m. above_moved (f m.cache) m) s s' q q' o o'
above_goes f s s' q q' o o' es eq eo = λ m q₀ o₀ h. record {
  state = es ∙ ap (λ (c : CacheState). let t : CacheState = record c { answers = (f c).flow } in t) h.state;
  events = more_events m.cache.common.object q₀ q q' m.changes (f m.cache).changes h.events
      (subst (λ (c : CacheState). q' ≡ (let r : Queue = record q { pending = changed c.common.object q.pending (f c).changes } in r)) h.state eq);
  out = more_acts o₀ o o' m.acts (f m.cache).acts m.entries m.next h.out (subst (λ (c : CacheState). o' ≡ extended o (f c).acts [] o.next) h.state eo);
}

-- a step of what leaves
pub below_goes : (f : CacheState → Moved) (s s' : CacheState) (q q' : Queue) (o o' : Out)
    → s' ≡ (let t : CacheState = record s { leaving = (f s).flow } in t)
    → q' ≡ (let r : Queue = record q { pending = changed s.common.object q.pending (f s).changes } in r)
    → o' ≡ extended o (f s).acts [] o.next
    → Goes (λ m. below_moved (f m.cache) m) s s' q q' o o'
below_goes f s s' q q' o o' es eq eo = λ m q₀ o₀ h. record {
  state = es ∙ ap (λ (c : CacheState). let t : CacheState = record c { leaving = (f c).flow } in t) h.state;
  events = more_events m.cache.common.object q₀ q q' m.changes (f m.cache).changes h.events
      (subst (λ (c : CacheState). q' ≡ (let r : Queue = record q { pending = changed c.common.object q.pending (f c).changes } in r)) h.state eq);
  out = more_acts o₀ o o' m.acts (f m.cache).acts m.entries m.next h.out (subst (λ (c : CacheState). o' ≡ extended o (f c).acts [] o.next) h.state eo);
}

-- a step that changes the cache alone
pub state_goes : (f : CacheState → CacheState) (s : CacheState) (q : Queue) (o : Out) → ((c : CacheState) → (f c).common.object ≡ c.common.object)
    → Goes (λ m. let t : CacheMoved = record m { cache = f m.cache } in t) s (f s) q q o o
state_goes f s q o e = λ m q₀ o₀ h. record {
  state = ap f h.state;
  events = h.events ∙ ap (λ i. let r : Queue = record q₀ { pending = changed i q₀.pending m.changes } in r) (sym (e m.cache));
  out = h.out;
}

-- a step that notes
pub notes_goes : (es : List Entry) (s : CacheState) (q : Queue) (o o' : Out) → o' ≡ extended o [] es o.next → Goes (noting es) s s q q o o'
notes_goes es s q o o' eo = λ m q₀ o₀ h. record {
  state = h.state;
  events = h.events;
  out = more_out o₀ o o' m.acts [] m.entries es m.next o.next h.out eo
      ∙ ap (λ l. extended o₀ l (m.entries ++ es) o.next) (append-nil m.acts)
      ∙ ap (λ n. extended o₀ m.acts (m.entries ++ es) n) (ap (λ (p : Out). p.next) h.out);
}

-- Packets come into the queues.

-- a step that asks for nothing leaves the outbox as it is
same_out : (o : Out) (a : List Act) → a ≡ [] → o ≡ extended o a [] o.next
same_out o a e =
    sym (ap (λ (l : List Act). extended o l [] o.next) e
    ∙ ap (λ (is : List Item). let p : Out = record { sender = o.sender; items = is; entries = o.entries ++ []; next = o.next } in p) (append-nil o.items)
    ∙ ap (λ (es : List Entry). let p : Out = record { sender = o.sender; items = o.items; entries = es; next = o.next } in p) (append-nil o.entries))

-- at which port it is offered doesn't matter yet
any_port : (p slot class : ℕ) (x : Packet) (at : ℕ) (items : List Queued) (out : OutState)
    → put_in (record { port = p; slot = slot; class = class }) x at items out ≡ put_in (outlet_of slot class) x at items out
any_port p slot class x at [] out = refl
any_port p slot class x at (y ∷ ys) out = refl

-- what comes in, by the slot and the tick
same_flow : (class slot slot' at at' : ℕ) (x : Packet) (items : List Queued) (out : OutState) → slot ≡ slot' → at ≡ at'
    → (put_in (outlet_of slot class) x at items out) ≡ put_in (outlet_of slot' class) x at' items out
same_flow class slot slot' at at' x items out e k =
    ap (λ n. put_in (outlet_of n class) x at items out) e ∙ ap (λ n. put_in (outlet_of slot' class) x n items out) k

with_changes : (q q' : Queue) (i j : ℕ) (m n : Moved) → i ≡ j → m ≡ n → q' ≡ (let r : Queue = record q { pending = changed i q.pending m.changes } in r)
    → q' ≡ (let r : Queue = record q { pending = changed j q.pending n.changes } in r)
with_changes q q' i j m n e k h =
    h ∙ ap (λ a. let r : Queue = record q { pending = changed a q.pending m.changes } in r) e
    ∙ ap (λ (a : Moved). let r : Queue = record q { pending = changed j q.pending a.changes } in r) k

pub sends_above : (s : CacheState) (x : Packet) (now : ℕ) (q : Queue) (o : Out) (owner slot at : ℕ) (f : Flow) (q' : Queue) → owner ≡ s.common.object → slot ≡ 0
    → at ≡ now + s.latency → f ≡ (put_in (outlet_of slot 0) x at s.answers.items s.answers.out).flow
    → q' ≡ (let r : Queue = record q { pending = changed owner q.pending (put_in (outlet_of slot 0) x at s.answers.items s.answers.out).changes } in r)
    → Goes (sending_above x now) s (record s { answers = f }) q q' o o
sends_above s x now q o owner slot at f q' e k l ef eq =
    let same = same_flow 0 slot 0 at (now + s.latency) x s.answers.items s.answers.out k l in
    above_goes (λ c. put_in answers_outlet x (now + c.latency) c.answers.items c.answers.out) s _ q q' o o
    (ap (λ (g : Flow). let t : CacheState = record s { answers = g } in t) (ef ∙ ap (λ (m : Moved). m.flow) same))
    (with_changes q q' owner s.common.object _ _ e same eq)
    (same_out o _ (put_acts answers_outlet x (now + s.latency) s.answers.items s.answers.out))

pub sends_below : (s : CacheState) (x : Packet) (now : ℕ) (q : Queue) (o : Out) (owner slot at : ℕ) (f : Flow) (q' : Queue) → owner ≡ s.common.object → slot ≡ 1
    → at ≡ now + s.latency → f ≡ (put_in (outlet_of slot 10) x at s.leaving.items s.leaving.out).flow
    → q' ≡ (let r : Queue = record q { pending = changed owner q.pending (put_in (outlet_of slot 10) x at s.leaving.items s.leaving.out).changes } in r)
    → Goes (sending_below x now) s (record s { leaving = f }) q q' o o
sends_below s x now q o owner slot at f q' e k l ef eq =
    let same = same_flow 10 slot 1 at (now + s.latency) x s.leaving.items s.leaving.out k l ∙ sym (any_port 1 1 10 x (now + s.latency) s.leaving.items s.leaving.out) in
    below_goes (λ c. put_in leaving_outlet x (now + c.latency) c.leaving.items c.leaving.out) s _ q q' o o
    (ap (λ (g : Flow). let t : CacheState = record s { leaving = g } in t) (ef ∙ ap (λ (m : Moved). m.flow) same))
    (with_changes q q' owner s.common.object _ _ e same eq)
    (same_out o _ (put_acts leaving_outlet x (now + s.latency) s.leaving.items s.leaving.out))

-- The first packet of a queue is gone.

next_tick : (items : List Queued) → unwrap_or (option_map (λ (q : Queued). q.ready) (slice_get items 1)) 0 ≡ next_ready items
next_tick [] = refl
next_tick (x ∷ []) = refl
next_tick (x ∷ y ∷ ys) = refl

gone_any_port : (p slot class at : ℕ) (items : List Queued)
    → gone_in (record { port = p; slot = slot; class = class }) at items ≡ gone_in (outlet_of slot class) at items
gone_any_port p slot class at [] = refl
gone_any_port p slot class at (x ∷ []) = refl
gone_any_port p slot class at (x ∷ y ∷ ys) = refl

-- what is gone, by the slot and the tick
same_gone : (class slot slot' now at : ℕ) (items : List Queued) (next : Option ℕ) → slot ≡ slot' → next ≡ option_map (λ (q : Queued). q.ready) (slice_get items 1)
    → at ≡ later now (unwrap_or next 0) → gone_in (outlet_of slot class) at items ≡ gone_in (outlet_of slot' class) (later now (next_ready items)) items
same_gone class slot slot' now at items next e k l =
    ap (λ n. gone_in (outlet_of n class) at items) e
    ∙ ap (λ n. gone_in (outlet_of slot' class) n items) (l ∙ ap (λ (n : Option ℕ). later now (unwrap_or n 0)) k ∙ ap (λ n. later now n) (next_tick items))

pub sent_above : (s : CacheState) (now : ℕ) (q : Queue) (o : Out) (owner slot at : ℕ) (next : Option ℕ) (f : Flow) (q' : Queue) → owner ≡ s.common.object → slot ≡ 0
    → next ≡ option_map (λ (q : Queued). q.ready) (slice_get s.answers.items 1) → at ≡ later now (unwrap_or next 0)
    → f ≡ (gone_in (outlet_of slot 0) at s.answers.items).flow
    → q' ≡ (let r : Queue = record q { pending = changed owner q.pending (gone_in (outlet_of slot 0) at s.answers.items).changes } in r)
    → (p : ℕ) → p ≡ 0 → Goes (sent_in p now) s (record s { answers = f }) q q' o o
sent_above s now q o owner slot at next f q' e k n l ef eq (suc p) h = absurd (omega (arith, h))
sent_above s now q o owner slot at next f q' e k n l ef eq zero h =
    let same = same_gone 0 slot 0 now at s.answers.items next k n l in
    above_goes (λ c. gone_in answers_outlet (later now (next_ready c.answers.items)) c.answers.items) s _ q q' o o
    (ap (λ (g : Flow). let t : CacheState = record s { answers = g } in t) (ef ∙ ap (λ (m : Moved). m.flow) same))
    (with_changes q q' owner s.common.object _ _ e same eq)
    (same_out o _ (gone_acts answers_outlet (later now (next_ready s.answers.items)) s.answers.items))

pub sent_below : (s : CacheState) (now : ℕ) (q : Queue) (o : Out) (owner slot at : ℕ) (next : Option ℕ) (f : Flow) (q' : Queue) → owner ≡ s.common.object → slot ≡ 1
    → next ≡ option_map (λ (q : Queued). q.ready) (slice_get s.leaving.items 1) → at ≡ later now (unwrap_or next 0)
    → f ≡ (gone_in (outlet_of slot 10) at s.leaving.items).flow
    → q' ≡ (let r : Queue = record q { pending = changed owner q.pending (gone_in (outlet_of slot 10) at s.leaving.items).changes } in r)
    → (p : ℕ) → (p ≡ 0 → ⊥) → Goes (sent_in p now) s (record s { leaving = f }) q q' o o
sent_below s now q o owner slot at next f q' e k n l ef eq zero h = absurd (h refl)
sent_below s now q o owner slot at next f q' e k n l ef eq (suc p) h =
    let same = same_gone 10 slot 1 now at s.leaving.items next k n l ∙ sym (gone_any_port 1 1 10 (later now (next_ready s.leaving.items)) s.leaving.items) in
    below_goes (λ c. gone_in leaving_outlet (later now (next_ready c.leaving.items)) c.leaving.items) s _ q q' o o
    (ap (λ (g : Flow). let t : CacheState = record s { leaving = g } in t) (ef ∙ ap (λ (m : Moved). m.flow) same))
    (with_changes q q' owner s.common.object _ _ e same eq)
    (same_out o _ (gone_acts leaving_outlet (later now (next_ready s.leaving.items)) s.leaving.items))

-- Requests of the cache's own.

-- a request is made with the next number, and leaves
pub requests_goes : (cmd : Cmd) (a : ℕ) (bytes : List ℕ) (x : Packet) (now : ℕ) (s s' : CacheState) (q q' : Queue) (o o' : Out)
    → x ≡ line_request s o.next cmd a bytes → o' ≡ (let p : Out = record o { next = o.next + 1 } in p)
    → Goes (sending_below x now) s s' q q' o o → Goes (requesting cmd a bytes now) s s' q q' o o'
requests_goes cmd a bytes x now s s' q q' o o' e k h = λ m q₀ o₀ st.
    let same : x ≡ line_request m.cache m.next cmd a bytes =
    e ∙ ap (λ n. line_request s n cmd a bytes) (ap (λ (p : Out). p.next) st.out) ∙ ap (λ (c : CacheState). line_request c m.next cmd a bytes) st.state in
    let t : Stands (sending_below (line_request m.cache m.next cmd a bytes) now m) q₀ o₀ s' q' o =
    subst (λ (y : Packet). Stands (sending_below y now m) q₀ o₀ s' q' o) same (h m q₀ o₀ st) in
    record {
      state = t.state;
      events = t.events;
      out = k ∙ ap (λ (p : Out). let r : Out = record p { next = p.next + 1 } in r) t.out;
    }

-- a line's bytes in front of a packet's, which are zeros
pub padded_front : (bytes : List ℕ) → padded bytes ≡ with_front (replicate 64 0) bytes
padded_front bytes = ap (λ (l : List ℕ). bytes ++ l) (sym (drop-replicate (length bytes) 64 0))

-- a packet that is a line's request: its number, its size and its bytes are told by equations
pub own_request : (source size line m n : ℕ) (cmd : Cmd) (a : ℕ) (front bytes : List ℕ) → m ≡ n → size ≡ line → padded front ≡ bytes
    → (let x : Packet = record { id = record { 0 = m }; src = source; cmd = cmd; addr = a; size = size; bytes = bytes; uncached = false; fault = false; stack = replicate 8 0; depth = 0 } in x)
    ≡ request n source cmd a line front false
own_request source size line m n cmd a front bytes e f g =
    ap (λ i. let x : Packet = record { id = record { 0 = i }; src = source; cmd = cmd; addr = a; size = size; bytes = bytes; uncached = false; fault = false; stack = replicate 8 0; depth = 0 } in x) e
    ∙ ap (λ i. let x : Packet = record { id = record { 0 = n }; src = source; cmd = cmd; addr = a; size = i; bytes = bytes; uncached = false; fault = false; stack = replicate 8 0; depth = 0 } in x) f
    ∙ ap (λ i. let x : Packet = record { id = record { 0 = n }; src = source; cmd = cmd; addr = a; size = line; bytes = i; uncached = false; fault = false; stack = replicate 8 0; depth = 0 } in x)
    (sym g ∙ padded_front front)

-- one entry more is noted
pub noted_out : (o o' : Out) (e : Entry) → o' ≡ (let p : Out = record o { entries = o.entries ++ e ∷ [] } in p) → o' ≡ extended o [] (e ∷ []) o.next
noted_out o o' e h = h ∙ ap (λ (is : List Item). let p : Out = record { sender = o.sender; items = is; entries = o.entries ++ e ∷ []; next = o.next } in p) (sym (append-nil o.items))
