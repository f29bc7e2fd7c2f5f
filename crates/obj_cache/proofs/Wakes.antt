-- A wake from its start to its end.
use Rattle.std.proofs.Common.{◌≡◌, ℕ, zero, suc, ◌+◌, ◌-◌, ◌||◌, Bool, true, false, List, [], ◌∷◌, ◌++◌, refl, sym, ◌∙◌, ap, arith, subst, length, nat_le, nat_lt, ◌⊎◌, inl, inr}
use Rattle.std.proofs.lemmas.List.{append-nil}
use Rattle.ev_queue.specs.Queue.{Queue}
use Rattle.gm_cache.specs.State.{CacheState}
use Rattle.gm_cache.specs.Rule.{CacheMoved, CacheStepped, begun, calling, ended, is_blocked, has_full, backs, is_cached, is_fill, taking, returning, from_above, port_moved, sent_in, offered, cache_step}
use Rattle.gc_base.specs.declared.ids.PortNo.{PortNo}
use Rattle.gc_base.specs.declared.ids.SlotNo.{SlotNo}
use Rattle.gm_model.specs.Flows.{ask_in, hold_in, again_in}
use Rattle.gm_words.specs.Moves.{Moves, no_moves}
use Rattle.gm_words.specs.declared.wake.Wake.{Wake}
use Rattle.gm_words.specs.declared.wake.Wake.TheVariants as wakes
use Rattle.gm_words.specs.declared.answer.Answer.{Answer}
use Rattle.gm_words.specs.declared.answer.Answer.TheVariants as answers
use Rattle.gm_words.specs.declared.entry.Entry.{Entry}
use Rattle.gm_model.specs.Deliver.{Item}
use Rattle.obj_core.specs.Out.{Out}
use Rattle.pkt_pool.specs.declared.packet.Packet.{Packet}
use Rattle.obj_cache.specs.Step.{Stands, Goes, Wakes}

-- where a wake begins, nothing was done
pub begins : (s : CacheState) (q : Queue) (o : Out) → Stands (begun s o.next) q o s q o
begins s q o = record {
  state = refl;
  events = refl;
  out = sym (ap (λ (is : List Item). let p : Out = record { sender = o.sender; items = is; entries = o.entries ++ []; next = o.next } in p) (append-nil o.items)
      ∙ ap (λ (es : List Entry). let p : Out = record { sender = o.sender; items = o.items; entries = es; next = o.next } in p) (append-nil o.entries));
}

-- a step, at whose end who waits is called
pub ends : (f : CacheMoved → CacheMoved) (a : Answer) (s s₁ s₂ : CacheState) (q q₁ : Queue) (o o₁ o₂ : Out) → Goes f s s₁ q q₁ o o₁ → Goes calling s₁ s₂ q₁ q₁ o₁ o₂
    → Wakes (ended a (f (begun s o.next))) q o s₂ q₁ o₂ a
ends f a s s₁ s₂ q q₁ o o₁ o₂ h k = record {
  stands = k (f (begun s o.next)) q o (h (begun s o.next) q o (begins s q o));
  answer = refl;
}

-- the cache, the events and the outbox after a step are told by equations
pub ends_at : (f : CacheMoved → CacheMoved) (s s₁ t₁ : CacheState) (q q₁ p₁ : Queue) (o o₁ u₁ : Out) → t₁ ≡ s₁ → p₁ ≡ q₁ → u₁ ≡ o₁ → Goes f s s₁ q q₁ o o₁ → Goes f s t₁ q p₁ o u₁
ends_at f s s₁ t₁ q q₁ p₁ o o₁ u₁ es eq eo h =
    subst (λ (v : Out). Goes f s t₁ q p₁ o v) (sym eo) (subst (λ (v : Queue). Goes f s t₁ q v o o₁) (sym eq) (subst (λ (v : CacheState). Goes f s v q q₁ o o₁) (sym es) h))

-- nothing is done
pub nothing : (s : CacheState) (v : Moves) (q : Queue) (o : Out)
    → Wakes (record { moved = record (begun s o.next) { moves = v }; answer = answers.Nothing }) q o s q o answers.Nothing
nothing s v q o = let t = begins s q o in record { stands = record { state = t.state; events = t.events; out = t.out }; answer = refl }

-- A packet is offered.

pub offers_below : (p : ℕ) (y : Packet) (now : ℕ) (s s₁ s₂ : CacheState) (q q₁ : Queue) (o o₁ o₂ : Out) → (p ≡ 0 → ⊥)
    → Goes (λ m. returning y now (is_fill m.cache y) m) s s₁ q q₁ o o₁ → Goes calling s₁ s₂ q₁ q₁ o₁ o₂ → Wakes (offered s o.next p y now) q o s₂ q₁ o₂ answers.Taken
offers_below zero y now s s₁ s₂ q q₁ o o₁ o₂ e h k = absurd (e refl)
offers_below (suc p) y now s s₁ s₂ q q₁ o o₁ o₂ e h k = ends (λ m. returning y now (is_fill m.cache y) m) answers.Taken s s₁ s₂ q q₁ o o₁ o₂ h k

pub offers_above : (p : ℕ) (x : Packet) (now : ℕ) (s s₁ s₂ : CacheState) (q q₁ : Queue) (o o₁ o₂ : Out) → p ≡ 0 → is_blocked s ≡ false
    → Goes (λ m. taking x now (is_cached m.cache x) m) s s₁ q q₁ o o₁ → Goes calling s₁ s₂ q₁ q₁ o₁ o₂ → Wakes (offered s o.next p x now) q o s₂ q₁ o₂ answers.Taken
offers_above (suc p) x now s s₁ s₂ q q₁ o o₁ o₂ e b h k = absurd (omega (arith, e))
offers_above zero x now s s₁ s₂ q q₁ o o₁ o₂ e b h k =
    subst (λ v. Wakes (from_above s o.next x now v) q o s₂ q₁ o₂ answers.Taken) (sym b)
    (ends (λ m. taking x now (is_cached m.cache x) m) answers.Taken s s₁ s₂ q q₁ o o₁ o₂ h k)

pub offers_refused : (p : ℕ) (x : Packet) (now : ℕ) (s s₁ : CacheState) (q : Queue) (o o₁ : Out) (a : Answer) → p ≡ 0 → is_blocked s ≡ true
    → Wakes (from_above s o.next x now true) q o s₁ q o₁ a → Wakes (offered s o.next p x now) q o s₁ q o₁ a
offers_refused (suc p) x now s s₁ q o o₁ a e b h = absurd (omega (arith, e))
offers_refused zero x now s s₁ q o o₁ a e b h = subst (λ v. Wakes (from_above s o.next x now v) q o s₁ q o₁ a) (sym b) h

-- where a cache isn't blocked, there is a register and a place for another target
pub free : (s : CacheState) → is_blocked s ≡ false → (nat_le s.mshrs (length s.registers) || has_full s.targets s.registers) ≡ false
unfolding is_blocked
free s e = by (nat_le s.mshrs (length s.registers)) (has_full s.targets s.registers) (nat_lt (s.writeq - backs s.leaving.items) (length s.registers + 1)) e where
  by : (a b d : Bool) → (a || b || d) ≡ false → (a || b) ≡ false
  by true b d e = absurd (cc)
  by false true d e = absurd (cc)
  by false false d e = refl

-- By the wake that it is.

by_wake : (v w : Wake) (now : ℕ) (s s' : CacheState) (q q' : Queue) (o o' : Out) (a : Answer) → w ≡ v → Wakes (cache_step s o.next v now) q o s' q' o' a
    → Wakes (cache_step s o.next w now) q o s' q' o' a
by_wake v w now s s' q q' o o' a e h = subst (λ (x : Wake). Wakes (cache_step s o.next x now) q o s' q' o' a) (sym e) h

pub wakes_offered : (port : PortNo) (x : Packet) (w : Wake) (now : ℕ) (s s' : CacheState) (q q' : Queue) (o o' : Out) (a : Answer) → w ≡ wakes.Offer port x
    → Wakes (offered s o.next port.0 x now) q o s' q' o' a → Wakes (cache_step s o.next w now) q o s' q' o' a
unfolding cache_step
wakes_offered port x w now s s' q q' o o' a e h = by_wake (wakes.Offer port x) w now s s' q q' o o' a e h

answered_by : {r : CacheStepped} {q q' : Queue} {o o' : Out} {s' : CacheState} {a b : Answer} → a ≡ b → Wakes r q o s' q' o' b → Wakes r q o s' q' o' a
answered_by e h = record { stands = h.stands; answer = e ∙ h.answer }

pub wakes_at_event : (slot : SlotNo) (w : Wake) (now : ℕ) (s s₁ s₂ : CacheState) (q q₁ : Queue) (o o₁ o₂ : Out) (a : Answer) → w ≡ wakes.Event slot → a ≡ answers.Nothing
    → Goes (port_moved slot.0 (ask_in 0) (ask_in 1)) s s₁ q q₁ o o₁ → Goes calling s₁ s₂ q₁ q₁ o₁ o₂ → Wakes (cache_step s o.next w now) q o s₂ q₁ o₂ a
unfolding cache_step
wakes_at_event slot w now s s₁ s₂ q q₁ o o₁ o₂ a e f h k =
    by_wake (wakes.Event slot) w now s s₂ q q₁ o o₂ a e (answered_by f (ends (port_moved slot.0 (ask_in 0) (ask_in 1)) answers.Nothing s s₁ s₂ q q₁ o o₁ o₂ h k))

pub wakes_taken : (port : PortNo) (w : Wake) (now : ℕ) (s s₁ s₂ : CacheState) (q q₁ : Queue) (o o₁ o₂ : Out) (a : Answer) → w ≡ wakes.Taken port → a ≡ answers.Nothing
    → Goes (sent_in port.0 now) s s₁ q q₁ o o₁ → Goes calling s₁ s₂ q₁ q₁ o₁ o₂ → Wakes (cache_step s o.next w now) q o s₂ q₁ o₂ a
unfolding cache_step
wakes_taken port w now s s₁ s₂ q q₁ o o₁ o₂ a e f h k =
    by_wake (wakes.Taken port) w now s s₂ q q₁ o o₂ a e (answered_by f (ends (sent_in port.0 now) answers.Nothing s s₁ s₂ q q₁ o o₁ o₂ h k))

pub wakes_refused : (port : PortNo) (w : Wake) (now : ℕ) (s s₁ s₂ : CacheState) (q q₁ : Queue) (o o₁ o₂ : Out) (a : Answer) → w ≡ wakes.Refused port → a ≡ answers.Nothing
    → Goes (port_moved port.0 hold_in hold_in) s s₁ q q₁ o o₁ → Goes calling s₁ s₂ q₁ q₁ o₁ o₂ → Wakes (cache_step s o.next w now) q o s₂ q₁ o₂ a
unfolding cache_step
wakes_refused port w now s s₁ s₂ q q₁ o o₁ o₂ a e f h k =
    by_wake (wakes.Refused port) w now s s₂ q q₁ o o₂ a e (answered_by f (ends (port_moved port.0 hold_in hold_in) answers.Nothing s s₁ s₂ q q₁ o o₁ o₂ h k))

pub wakes_retry : (port : PortNo) (w : Wake) (now : ℕ) (s s₁ s₂ : CacheState) (q q₁ : Queue) (o o₁ o₂ : Out) (a : Answer) → w ≡ wakes.Retry port → a ≡ answers.Nothing
    → Goes (port_moved port.0 (again_in 0) (again_in 1)) s s₁ q q₁ o o₁ → Goes calling s₁ s₂ q₁ q₁ o₁ o₂ → Wakes (cache_step s o.next w now) q o s₂ q₁ o₂ a
unfolding cache_step
wakes_retry port w now s s₁ s₂ q q₁ o o₁ o₂ a e f h k =
    by_wake (wakes.Retry port) w now s s₂ q q₁ o o₂ a e (answered_by f (ends (port_moved port.0 (again_in 0) (again_in 1)) answers.Nothing s s₁ s₂ q q₁ o o₁ o₂ h k))

wakes_line : (bit : ℕ) (level : Bool) (w : Wake) (now : ℕ) (s : CacheState) (q : Queue) (o : Out) → w ≡ wakes.Line bit level
    → Wakes (cache_step s o.next w now) q o s q o answers.Nothing
unfolding cache_step
wakes_line bit level w now s q o e = by_wake (wakes.Line bit level) w now s s q q o o answers.Nothing e (nothing s no_moves q o)

wakes_done : (x : Packet) (latency : ℕ) (w : Wake) (now : ℕ) (s : CacheState) (q : Queue) (o : Out) → w ≡ wakes.AtomicDone x latency
    → Wakes (cache_step s o.next w now) q o s q o answers.Nothing
unfolding cache_step
wakes_done x latency w now s q o e =
    by_wake (wakes.AtomicDone x latency) w now s s q q o o answers.Nothing e (nothing s (record no_moves { answered = x ∷ [] }) q o)

-- lines and packets without time are no events of a cache
pub wakes_other : (w : Wake) (now : ℕ) (s : CacheState) (q : Queue) (o : Out)
    → ((bit : ℕ) × (level : Bool) × w ≡ wakes.Line bit level) ⊎ ((x : Packet) × (latency : ℕ) × w ≡ wakes.AtomicDone x latency)
    → Wakes (cache_step s o.next w now) q o s q o answers.Nothing
wakes_other w now s q o (inl (bit, level, e)) = wakes_line bit level w now s q o e
wakes_other w now s q o (inr (x, latency, e)) = wakes_done x latency w now s q o e
