-- What each wake of a cache does to those who wait for lines.
use Rattle.std.proofs.Common.{◌≡◌, ℕ, zero, suc, ◌⊎◌, inl, inr, ◌&&◌, ◌||◌, not, Bool, true, false, if◌then◌else◌, List, [], ◌∷◌, ◌++◌, Option, Some, None, refl, sym, ◌∙◌, ap, eq-eqb, ne_eqb, ◌==◌}
use Rattle.std.specs.Prelude.{is_some}
use Rattle.std.proofs.lemmas.Bool.{cases_eq}
use Rattle.cache_tags.specs.Line.{Line, new_line}
use Rattle.gm_cache.specs.State.{CacheState, Register, base_of, line_in, find_register, without_register, joined, above, below}
use Rattle.gm_cache.specs.Rule.{is_blocked, is_cached, is_fill, line_after, CacheMoved, begun, noting, absorbing, installing, using, serving_in, serving, serving_all, calling, access_in, back_in, cached_in, taking, filling, fill_in, returning, from_above, port_moved, sent_in, cache_step}
use Rattle.gm_cache.specs.Lines.{HasTags, is_access, is_awaited, waiting_in, waiting_of, Waits, KeepsWaiting, has_to_wait, WaitsAbove, WaitsBelow, MovesWaiting, WakesMoveWaiting}
use Rattle.gm_cache.proofs.RegisterLemmas.{register_here, register_past, register-append, register_added, register_without, gone_register}
use Rattle.gm_cache.proofs.Coming.{evicting_cache, victim_of, came_in}
use Rattle.gm_cache.proofs.Serving.{respond_cache, no_response}
use Rattle.gm_cache.proofs.Parts.{closed}
use Rattle.gm_cache.proofs.Wakes.{calling_cache}
use Rattle.gm_model.specs.Flows.{Moved, ask_in, hold_in, again_in}
use Rattle.gm_words.specs.Flow.{Queued, OutState}
use Rattle.gm_words.specs.Moves.{no_moves}
use Rattle.gm_words.specs.declared.entry.Entry.TheVariants as entries
use Rattle.gm_words.specs.declared.wake.Wake.{Wake}
use Rattle.gm_words.specs.declared.wake.Wake.TheVariants as wakes
use Rattle.pkt_pool.specs.Packet.{carried_bytes}
use Rattle.pkt_pool.specs.declared.cmd.Cmd.{Cmd}
use Rattle.pkt_pool.specs.declared.cmd.Cmd.TheVariants as cmds
use Rattle.pkt_pool.specs.declared.packet.Packet.{Packet}

-- Registers.

joined_here : (b : ℕ) (x : Packet) (rs : List Register) (r : Register) → find_register b rs ≡ Some r
    → waiting_in (find_register b (joined b x rs)) ≡ waiting_in (find_register b rs) ++ x ∷ []
joined_here b x [] r e = absurd (cc e)
joined_here b x (k ∷ ks) r e = by (joined_here b x ks r) (cases_eq k.address b) where
  by : (find_register b ks ≡ Some r → waiting_in (find_register b (joined b x ks)) ≡ waiting_in (find_register b ks) ++ x ∷ [])
      → (k.address ≡ b) ⊎ (k.address ≡ b → ⊥)
      → waiting_in (find_register b (if k.address == b then record k { targets = k.targets ++ x ∷ [] } ∷ ks else k ∷ joined b x ks))
      ≡ waiting_in (find_register b (k ∷ ks)) ++ x ∷ []
  by more (inl f) = rw (eq-eqb k.address b f) (rw (eq-eqb k.address b f) refl)
  by more (inr n) = rw (ne_eqb k.address b n) (rw (ne_eqb k.address b n) (more (sym (register_past b k ks n) ∙ e)))

joined_other : (a b : ℕ) (x : Packet) (rs : List Register) → (b ≡ a → ⊥) → find_register a (joined b x rs) ≡ find_register a rs
joined_other a b x [] n = refl
joined_other a b x (k ∷ ks) n = by (joined_other a b x ks n) (cases_eq k.address b) where
  by : find_register a (joined b x ks) ≡ find_register a ks → (k.address ≡ b) ⊎ (k.address ≡ b → ⊥)
      → find_register a (if k.address == b then record k { targets = k.targets ++ x ∷ [] } ∷ ks else k ∷ joined b x ks) ≡ find_register a (k ∷ ks)
  by more (inl e) =
      rw (eq-eqb k.address b e)
      (register_past a (record k { targets = k.targets ++ x ∷ [] }) ks (λ f. n (sym e ∙ f)) ∙ sym (register_past a k ks (λ f. n (sym e ∙ f))))
  by more (inr e) = rw (ne_eqb k.address b e) (first (cases_eq k.address a)) where
    first : (k.address ≡ a) ⊎ (k.address ≡ a → ⊥) → find_register a (k ∷ joined b x ks) ≡ find_register a (k ∷ ks)
    first (inl f) = register_here a k (joined b x ks) f ∙ sym (register_here a k ks f)
    first (inr f) = register_past a k (joined b x ks) f ∙ (more ∙ sym (register_past a k ks f))

-- a part of a wake that leaves the registers
keeps_waiting : (s t : CacheState) → t.registers ≡ s.registers → KeepsWaiting s t
unfolding waiting_of
keeps_waiting s t e a = ap (λ rs. waiting_in (find_register a rs)) e

waits_joined : (s t : CacheState) (b : ℕ) (x : Packet) (r : Register) → find_register b s.registers ≡ Some r → t.registers ≡ joined b x s.registers
    → Waits s b (waiting_of s b ++ x ∷ []) t
unfolding waiting_of
waits_joined s t b x r there e =
    record {
      own = ap (λ rs. waiting_in (find_register b rs)) e ∙ joined_here b x s.registers r there;
      other = λ a n. ap (λ rs. waiting_in (find_register a rs)) e ∙ ap waiting_in (joined_other a b x s.registers n);
    }

waits_opened : (s t : CacheState) (b : ℕ) (x : Packet) → find_register b s.registers ≡ None
    → t.registers ≡ s.registers ++ (let r : Register = record { address = b; targets = x ∷ [] } in r) ∷ [] → Waits s b (waiting_of s b ++ x ∷ []) t
unfolding waiting_of
waits_opened s t b x free e =
    record {
      own = ap (λ rs. waiting_in (find_register b rs)) e
          ∙ (ap waiting_in (register_added b s.registers opened refl free) ∙ ap (λ o. waiting_in o ++ x ∷ []) (sym free));
      other = λ a n. ap (λ rs. waiting_in (find_register a rs)) e ∙ ap waiting_in (register-append a s.registers opened n);
    } where
      opened : Register
      opened = record { address = b; targets = x ∷ [] }

waits_closed : (s t : CacheState) (b : ℕ) → HasTags s → t.registers ≡ without_register b s.registers → Waits s b [] t
unfolding waiting_of
waits_closed s t b ok e =
    record {
      own = ap (λ rs. waiting_in (find_register b rs)) e ∙ ap waiting_in (gone_register s b s.registers ok.registers.each);
      other = λ a n. ap (λ rs. waiting_in (find_register a rs)) e ∙ ap waiting_in (register_without a b s.registers n);
    }

-- What leaves the registers.

called : (m : CacheMoved) → (calling m).cache.registers ≡ m.cache.registers
called m = ap (λ (s : CacheState). s.registers) (calling_cache m)

served : (o : Option Line) (x : Packet) (now : ℕ) (m : CacheMoved) → (serving_in o x now m).cache.registers ≡ m.cache.registers
served None x now m = refl
served (Some l) x now m = ap (λ (s : CacheState). s.registers) (respond_cache l x x.cmd now (using (line_after l x x.cmd) m))

served_all : (a : ℕ) (xs : List Packet) (now : ℕ) (m : CacheMoved) → (serving_all a xs now m).cache.registers ≡ m.cache.registers
unfolding serving_all
served_all a [] now m = refl
served_all a (x ∷ xs) now m = served_all a xs now (serving a x now m) ∙ served (line_in m.cache a) x now m

installed : (l : Line) (now : ℕ) (m : CacheMoved) → (installing l now m).cache.registers ≡ m.cache.registers
installed l now m = ap (λ (s : CacheState). s.registers) (evicting_cache now (victim_of l m.cache) (came_in l m))

filled : (y : Packet) (xs : List Packet) (now : ℕ) (o : Option Line) (m : CacheMoved) → (filling y xs now o m).cache.registers ≡ m.cache.registers
filled y xs now None m = served_all y.addr xs now (installing _ now m) ∙ installed _ now m
filled y xs now (Some l) m = served_all y.addr xs now m

moved_at : (p : ℕ) (f g : List Queued → OutState → Moved) (m : CacheMoved) → (port_moved p f g m).cache.registers ≡ m.cache.registers
moved_at zero f g m = refl
moved_at (suc p) f g m = refl

-- Offers.

waits_above : (s : CacheState) (next : ℕ) (x : Packet) (now : ℕ) → WaitsAbove s x (from_above s next x now (is_blocked s)).moved.cache (has_to_wait s x)
waits_above s next x now = by (is_blocked s) where
  m : CacheMoved
  m = begun s next

  b : ℕ
  b = base_of s x.addr

  access : (o : Option Line) (r : Option Register) → find_register b s.registers ≡ r
      → WaitsAbove s x (calling (access_in b x now o r m)).cache (not (is_some o) && (true || is_some r))
  access (Some l) r er =
      let t = access_in b x now (Some l) r m in
      keeps_waiting s (calling t).cache (called t ∙ served (Some l) x now (noting (entries.Hit (record { 0 = s.common.object }) ∷ []) m))
  access None (Some r) er = let t = access_in b x now None (Some r) m in waits_joined s (calling t).cache b x r er (called t)
  access None None er = let t = access_in b x now None None m in waits_opened s (calling t).cache b x er (called t)

  back : (o : Option Line) (r : Option Register) → find_register b s.registers ≡ r
      → WaitsAbove s x (calling (back_in b x now o r m)).cache (not (is_some o) && (false || is_some r))
  back (Some l) r er = let t = back_in b x now (Some l) r m in keeps_waiting s (calling t).cache (called t ∙ served (Some l) x now m)
  back None (Some r) er = let t = back_in b x now None (Some r) m in waits_joined s (calling t).cache b x r er (called t)
  back None None er =
      let t = back_in b x now None None m in
      keeps_waiting s (calling t).cache (called t ∙ installed (new_line b true (carried_bytes x)) now (absorbing x m))

  cached : (cmd : Cmd) → x.cmd ≡ cmd → is_cached s x ≡ true
      → WaitsAbove s x (calling (cached_in b x now cmd m)).cache (not (is_some (line_in s b)) && (is_access cmd || is_some (find_register b s.registers)))
  cached cmds.Read c u = access (line_in s b) (find_register b s.registers) refl
  cached cmds.Write c u = access (line_in s b) (find_register b s.registers) refl
  cached cmds.WriteBack c u = back (line_in s b) (find_register b s.registers) refl
  cached cmds.ReadResp c u = absurd (no_response s x cmds.ReadResp c refl u)
  cached cmds.WriteResp c u = absurd (no_response s x cmds.WriteResp c refl u)

  taken : (u : Bool) → is_cached s x ≡ u
      → WaitsAbove s x (calling (taking x now u m)).cache (u && not (is_some (line_in s b)) && (is_access x.cmd || is_some (find_register b s.registers)))
  taken true u = cached x.cmd refl u
  taken false u = let t = taking x now false m in keeps_waiting s (calling t).cache (called t)

  by : (blocked : Bool)
      → WaitsAbove s x (from_above s next x now blocked).moved.cache
      (not blocked && is_cached s x && not (is_some (line_in s b)) && (is_access x.cmd || is_some (find_register b s.registers)))
  by true = keeps_waiting s (from_above s next x now true).moved.cache refl
  by false = taken (is_cached s x) refl

waits_below : (s : CacheState) (next : ℕ) (y : Packet) (now : ℕ) → HasTags s
    → WaitsBelow s y (calling (returning y now (is_fill s y) (begun s next))).cache (is_awaited s y)
waits_below s next y now ok = by (is_fill s y) where
  m : CacheMoved
  m = begun s next

  fills : (o : Option Register) → WaitsBelow s y (calling (fill_in y now o m)).cache (is_some o)
  fills None = let t = fill_in y now None m in keeps_waiting s (calling t).cache (called t)
  fills (Some r) =
      let c : CacheMoved = closed y.addr (record no_moves { answered = y ∷ [] }) m in
      let t = fill_in y now (Some r) m in
      waits_closed s (calling t).cache y.addr ok (called t ∙ filled y r.targets now (line_in c.cache y.addr) c)

  by : (f : Bool) → WaitsBelow s y (calling (returning y now f m)).cache (f && is_some (find_register y.addr s.registers))
  by true = fills (find_register y.addr s.registers)
  by false = let t = returning y now false m in keeps_waiting s (calling t).cache (called t)

-- a step of a queue
waits_at : (s : CacheState) (next p : ℕ) (f g : List Queued → OutState → Moved) → KeepsWaiting s (calling (port_moved p f g (begun s next))).cache
waits_at s next p f g =
    let t = port_moved p f g (begun s next) in keeps_waiting s (calling t).cache (called t ∙ moved_at p f g (begun s next))

sent_at : (p now : ℕ) (m : CacheMoved) → (sent_in p now m).cache.registers ≡ m.cache.registers
sent_at zero now m = refl
sent_at (suc p) now m = refl

pub wakes_move_waiting : WakesMoveWaiting
unfolding cache_step
wakes_move_waiting s next w now ok = by w where
  offered : (p : ℕ) (x : Packet) → MovesWaiting s (wakes.Offer (record { 0 = p }) x) (cache_step s next (wakes.Offer (record { 0 = p }) x) now).moved.cache
  offered zero x = waits_above s next x now
  offered (suc p) y = waits_below s next y now ok

  by : (v : Wake) → MovesWaiting s v (cache_step s next v now).moved.cache
  by (wakes.Event slot) = waits_at s next slot.0 (ask_in above) (ask_in below)
  by (wakes.Offer port x) = offered port.0 x
  by (wakes.Taken port) =
      let t = sent_in port.0 now (begun s next) in keeps_waiting s (calling t).cache (called t ∙ sent_at port.0 now (begun s next))
  by (wakes.Refused port) = waits_at s next port.0 hold_in hold_in
  by (wakes.Retry port) = waits_at s next port.0 (again_in above) (again_in below)
  by (wakes.Line bit level) = keeps_waiting s s refl
  by (wakes.AtomicDone p latency) = keeps_waiting s s refl
