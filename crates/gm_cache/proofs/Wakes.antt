-- What each wake of a cache does to each line, and that it keeps what holds of the lines and registers.
use Rattle.std.proofs.Common.{◌≡◌, ℕ, zero, suc, ◌+◌, ◌%◌, ◌<◌, ◌≤◌, ◌==◌, ◌&&◌, ◌||◌, not, Bool, true, false, List, [], ◌∷◌, ◌++◌, length, get_or, replicate, Option, Some, None, refl, sym, ◌∙◌, ap, subst, arith}
use Rattle.std.specs.Prelude.{IsTrue, is_some}
use Rattle.std.proofs.lemmas.Bool.{and_parts, eqb-true}
use Rattle.std.proofs.lemmas.List.{length-replicate}
use Rattle.cache_tags.specs.Line.{Line, new_line}
use Rattle.gm_cache.specs.State.{CacheState, Register, cache_start, base_of, set_of, set_at, find_line, line_in, find_register, joined, leaving_outlet, answers_outlet, above, below}
use Rattle.gm_cache.specs.Rule.{backs, is_blocked, is_cached, lies_in, is_fill, CacheMoved, begun, noting, above_moved, below_moved, sending_below, sending_above, requesting, installing, absorbing, serving_in, with_registers, calling_in, calling, access_in, back_in, cached_in, taking, filling, fill_in, returning, from_above, next_ready, later, port_moved, sent_in, cache_step}
use Rattle.gm_cache.specs.Lines.{Absent, Filling, Dirty, LineView, line_view, requests, requests_in, line_state, state_in, view_of, IsLineOf, AreLines, IsTarget, AreTargets, HasTags, Moves, Lifts, KeepsLines, Keeps, is_access, noted_by, after_request, FromAbove, Denies, Passes, Hits, Joins, Opens, Replaces, BackJoins, FromBelow, is_awaited, Returns, FillsLine, WithoutHead, SendsHead, MovesLines, StartsWithTags, WakesKeepTags, WakesMoveLines}
use Rattle.gm_cache.proofs.SetLemmas.{found_line}
use Rattle.gm_cache.proofs.QueueLemmas.{base_multiple, requests-gone, backs-gone, ask_same, hold_same, again_same}
use Rattle.gm_cache.proofs.RegisterLemmas.{found_register, register_facts}
use Rattle.gm_cache.proofs.Coming.{sets_rest}
use Rattle.gm_cache.proofs.Serving.{fits_of, back_whole, no_response}
use Rattle.gm_cache.proofs.Parts.{HasRoom, room_of, registers_rest, Does, Leaves, does_serve, does_join, does_open, does_install, does_fill, closed, line_absent, leaves_send, leaves_above, leaves_below, below_tags}
use Rattle.gm_model.specs.Flows.{Moved, put_in, ask_in, hold_in, again_in, gone_in}
use Rattle.gm_words.specs.Flow.{Queued, OutState}
use Rattle.gm_words.specs.Moves.{Moves as Told, no_moves}
use Rattle.gm_words.specs.declared.entry.Entry.{Entry}
use Rattle.gm_words.specs.declared.entry.Entry.TheVariants as entries
use Rattle.gm_words.specs.declared.wake.Wake.{Wake}
use Rattle.gm_words.specs.declared.wake.Wake.TheVariants as wakes
use Rattle.pkt_pool.specs.Packet.{carried_bytes}
use Rattle.pkt_pool.specs.declared.cmd.Cmd.{Cmd}
use Rattle.pkt_pool.specs.declared.cmd.Cmd.TheVariants as cmds
use Rattle.pkt_pool.specs.declared.packet.Packet.{Packet}

-- The end of a wake.

-- the call at the end changes the waiter alone
pub calling_cache : (m : CacheMoved) → (calling m).cache ≡ (let s : CacheState = record m.cache { waiter = (calling m).cache.waiter } in s)
calling_cache m = by m.cache.waiter (is_blocked m.cache) where
  by : (w b : Bool) → (calling_in w b m).cache ≡ (let s : CacheState = record m.cache { waiter = (calling_in w b m).cache.waiter } in s)
  by true true = refl
  by true false = refl
  by false b = refl

calling_entries : (m : CacheMoved) → (calling m).entries ≡ m.entries
calling_entries m = by m.cache.waiter (is_blocked m.cache) where
  by : (w b : Bool) → (calling_in w b m).entries ≡ m.entries
  by true true = refl
  by true false = refl
  by false b = refl

waiter_tags : (s : CacheState) (w : Bool) → HasTags s → HasTags (record s { waiter = w })
waiter_tags s w ok =
    record { sets = sets_rest s s.registers s.answers s.leaving w ok.sets; registers = registers_rest s s.lines s.answers w ok.registers; apart = ok.apart }

same_waiter : (s : CacheState) (w : Bool) (a : ℕ) → view_of (let t : CacheState = record s { waiter = w } in t) a ≡ view_of s a
unfolding view_of
same_waiter s w a = refl

calling_tags : (m : CacheMoved) → HasTags m.cache → HasTags (calling m).cache
calling_tags m ok = subst HasTags (sym (calling_cache m)) (waiter_tags m.cache (calling m).cache.waiter ok)

calling_lines : (m : CacheMoved) → KeepsLines m.cache (calling m).cache
unfolding view_of
calling_lines m a = ap (λ (s : CacheState). view_of s a) (calling_cache m)

does_call : (m t : CacheMoved) (b : ℕ) (after : LineView) (es : List Entry) → Does m b after es t → Does m b after es (calling t)
does_call m t b after es d =
    record {
      lifts = record {
        own = calling_lines t b ∙ d.lifts.own;
        other = λ a n. subst (λ v. Moves (view_of m.cache a) v) (sym (calling_lines t a)) (d.lifts.other a n);
      };
      ok = calling_tags t d.ok;
      entries = calling_entries t ∙ d.entries;
    }

leaves_call : (m t : CacheMoved) → Leaves m t → Leaves m (calling t)
leaves_call m t k = record { lines = λ a. calling_lines t a ∙ k.lines a; ok = calling_tags t k.ok; entries = calling_entries t ∙ k.entries }

keeps_of : (s : CacheState) (next : ℕ) (t : CacheMoved) → Leaves (begun s next) t → Keeps s t
keeps_of s next t k = record { lines = k.lines; entries = k.entries }

-- An offer from above.

view_filling : (s : CacheState) (a : ℕ) (r : Register) → line_in s a ≡ None → find_register a s.registers ≡ Some r → (view_of s a).line ≡ Filling
unfolding view_of
view_filling s a r e f = rw (e, f) refl

view_absent : (s : CacheState) (a : ℕ) → line_in s a ≡ None → find_register a s.registers ≡ None → (view_of s a).line ≡ Absent
unfolding view_of
view_absent s a e f = rw (e, f) refl

-- the line at an address serves a request
serve_at : (m : CacheMoved) (a : ℕ) (l : Line) (x : Packet) (now : ℕ) (es : List Entry) → HasTags m.cache → line_in m.cache a ≡ Some l → IsTarget m.cache a x
    → Does m a (line_view (line_state (after_request l x x.cmd)) (view_of m.cache a).sent) (es ++ noted_by l x x.cmd) (serving_in (Some l) x now (noting es m))
serve_at m a l x now es ok there fits =
    let here : l.address ≡ a = found_line a (set_at m.cache a) l there in
    subst (λ b. Does m b (line_view (line_state (after_request l x x.cmd)) (view_of m.cache b).sent) (es ++ noted_by l x x.cmd)
    (serving_in (Some l) x now (noting es m))) here
    (does_serve m l x now es ok (subst (λ b. line_in m.cache b ≡ Some l) (sym here) there) (subst (λ b. IsTarget m.cache b x) (sym here) fits))

record AboveOk (s : CacheState) (x : Packet) (t : CacheMoved) : Type 0 where
  effect : FromAbove s x (base_of s x.addr) t.cache t.entries
  ok : HasTags t.cache

offered_above : (s : CacheState) (next : ℕ) (x : Packet) (now : ℕ) → HasTags s → AboveOk s x (from_above s next x now (is_blocked s)).moved
offered_above s next x now ok = by (is_blocked s) refl where
  m : CacheMoved
  m = begun s next

  b : ℕ
  b = base_of s x.addr

  hit : List Entry
  hit = entries.Hit (record { 0 = s.common.object }) ∷ []

  miss : List Entry
  miss = entries.Miss (record { 0 = s.common.object }) ∷ []

  access : is_access x.cmd ≡ true → is_cached s x ≡ true → HasRoom s → (o : Option Line) (r : Option Register) → line_in s b ≡ o
      → find_register b s.registers ≡ r → AboveOk s x (calling (access_in b x now o r m))
  access acc u room (Some l) r eo er =
      let d = does_call m (serving_in (Some l) x now (noting hit m)) b _ _ (serve_at m b l x now hit ok eo (u, refl)) in
      record { effect = Hits l u acc eo d.lifts d.entries; ok = d.ok }
  access acc u room None (Some r) eo er =
      let d = does_call m (with_registers (joined b x s.registers) (noting miss m)) b _ _ (does_join m b x r miss ok room eo er (u, refl)) in
      record { effect = Joins u acc (view_filling s b r eo er) d.lifts d.entries; ok = d.ok }
  access acc u room None None eo er =
      let t = requesting cmds.Read b [] now (with_registers (s.registers ++ record { address = b; targets = x ∷ [] } ∷ []) (noting miss m)) in
      let d = does_call m t b _ _ (does_open m b x now miss ok room eo er (base_multiple s x.addr ok.sets.some_bytes) (u, refl)) in
      record { effect = Opens u acc (view_absent s b eo er) d.lifts d.entries; ok = d.ok }

  back : x.cmd ≡ cmds.WriteBack → is_cached s x ≡ true → HasRoom s → (o : Option Line) (r : Option Register) → line_in s b ≡ o
      → find_register b s.registers ≡ r → AboveOk s x (calling (back_in b x now o r m))
  back c u room (Some l) r eo er =
      let t = calling (serving_in (Some l) x now m) in
      let d = does_call m (serving_in (Some l) x now m) b _ _ (serve_at m b l x now [] ok eo (u, refl)) in
      let e : line_state (after_request l x x.cmd) ≡ Dirty (carried_bytes x) = ap (λ cmd. line_state (after_request l x cmd)) c in
      record {
        effect = Replaces u c (subst (λ z. Lifts s b (line_view z (view_of s b).sent) t.cache) e d.lifts) (d.entries ∙ ap (λ cmd. noted_by l x cmd) c);
        ok = d.ok;
      }
  back c u room None (Some r) eo er =
      let d = does_call m (with_registers (joined b x s.registers) m) b _ _ (does_join m b x r [] ok room eo er (u, refl)) in
      record { effect = BackJoins u c (view_filling s b r eo er) d.lifts d.entries; ok = d.ok }
  back c u room None None eo er =
      let f = fits_of s b x (u, refl) in
      let l : Line = new_line b true (carried_bytes x) in
      let is : IsLineOf s (set_of s b) l =
      (refl, base_multiple s x.addr ok.sets.some_bytes, back_whole s b x (subst (λ cmd. lies_in s x cmd ≡ true) c f.0, refl)) in
      let d = does_call (absorbing x m) (installing l now (absorbing x m)) b _ _ (does_install (absorbing x m) l now ok room eo er is) in
      record { effect = Replaces u c d.lifts d.entries; ok = d.ok }

  cached : (cmd : Cmd) → x.cmd ≡ cmd → is_cached s x ≡ true → HasRoom s → AboveOk s x (calling (cached_in b x now cmd m))
  cached cmds.Read c u room = access (ap is_access c) u room (line_in s b) (find_register b s.registers) refl refl
  cached cmds.Write c u room = access (ap is_access c) u room (line_in s b) (find_register b s.registers) refl refl
  cached cmds.WriteBack c u room = back c u room (line_in s b) (find_register b s.registers) refl refl
  cached cmds.ReadResp c u room = absurd (no_response s x cmds.ReadResp c refl u)
  cached cmds.WriteResp c u room = absurd (no_response s x cmds.WriteResp c refl u)

  taken : (u : Bool) → is_cached s x ≡ u → HasRoom s → AboveOk s x (calling (taking x now u m))
  taken true u room = cached x.cmd refl u room
  taken false u room =
      let k = leaves_call m (sending_below x now m) (leaves_send m x now ok room u) in
      record { effect = Passes u k.lines k.entries; ok = k.ok }

  by : (blocked : Bool) → is_blocked s ≡ blocked → AboveOk s x (from_above s next x now blocked).moved
  by true e = record { effect = Denies e (λ a. same_waiter s true a) refl; ok = waiter_tags s true ok }
  by false e = taken (is_cached s x) refl (room_of s e)

-- A response from below.

record BelowOk (s : CacheState) (y : Packet) (t : CacheMoved) : Type 0 where
  effect : FromBelow s y t.cache t.entries
  ok : HasTags t.cache

offered_below : (s : CacheState) (next : ℕ) (y : Packet) (now : ℕ) → HasTags s → BelowOk s y (calling (returning y now (is_fill s y) (begun s next)))
offered_below s next y now ok = by (is_fill s y) refl where
  m : CacheMoved
  m = begun s next

  line : Line
  line = new_line y.addr false (carried_bytes y)

  passes : is_awaited s y ≡ false → BelowOk s y (calling (sending_above y now m))
  passes e =
      let k = leaves_call m (sending_above y now m) (leaves_above m (put_in answers_outlet y (now + s.latency) s.answers.items s.answers.out) ok) in
      record { effect = Returns e k.lines k.entries; ok = k.ok }

  whole : is_fill s y ≡ true → IsLineOf s (set_of s y.addr) line
  whole e =
      let p = and_parts (not y.uncached && (length (carried_bytes y) == s.common.line)) (y.addr % s.common.line == 0) e in
      let q = and_parts (not y.uncached) (length (carried_bytes y) == s.common.line) p.0 in
      (refl, eqb-true (y.addr % s.common.line) 0 p.1, eqb-true (length (carried_bytes y)) s.common.line q.1)

  told : Told
  told = record no_moves { answered = y ∷ [] }

  fills : is_fill s y ≡ true → (o : Option Register) → find_register y.addr s.registers ≡ o → BelowOk s y (calling (fill_in y now o m))
  fills e None er = passes (ap (λ b. b && is_some (find_register y.addr s.registers)) e ∙ ap is_some er)
  fills e (Some r) er =
      let none : line_in s y.addr ≡ None = line_absent s y.addr r ok.apart er in
      let c : CacheMoved = closed y.addr told m in
      let t = filling y r.targets now None c in
      let here : r.address ≡ y.addr = found_register y.addr s.registers r er in
      let fits = subst (λ a. AreTargets s a r.targets) here (register_facts s y.addr s.registers r ok.registers.each er).3 in
      let d = does_call m t y.addr _ _ (does_fill m line r now told ok er (whole e) fits) in
      subst (λ o. BelowOk s y (calling (filling y r.targets now o c))) (sym none)
      (record { effect = FillsLine r e er (view_filling s y.addr r none er) d.lifts d.entries; ok = d.ok })

  by : (f : Bool) → is_fill s y ≡ f → BelowOk s y (calling (returning y now f m))
  by true e = fills e (find_register y.addr s.registers) refl
  by false e = passes (ap (λ b. b && is_some (find_register y.addr s.registers)) e)

-- The other wakes.

-- a step of a queue that keeps the packets
stays_at : (s : CacheState) (next p : ℕ) (f g : List Queued → OutState → Moved) → (g s.leaving.items s.leaving.out).flow.items ≡ s.leaving.items → HasTags s
    → Leaves (begun s next) (calling (port_moved p f g (begun s next)))
stays_at s next zero f g e ok =
    leaves_call (begun s next) (above_moved (f s.answers.items s.answers.out) (begun s next)) (leaves_above (begun s next) (f s.answers.items s.answers.out) ok)
stays_at s next (suc p) f g e ok =
    leaves_call (begun s next) (below_moved (g s.leaving.items s.leaving.out) (begun s next))
    (leaves_below (begun s next) (g s.leaving.items s.leaving.out) e ok)

taken_above : (s : CacheState) (next now : ℕ) → HasTags s → Leaves (begun s next) (calling (sent_in 0 now (begun s next)))
taken_above s next now ok =
    let f : Moved = gone_in answers_outlet (later now (next_ready s.answers.items)) s.answers.items in
    leaves_call (begun s next) (above_moved f (begun s next)) (leaves_above (begun s next) f ok)

-- the first packet that leaves is gone
head_gone : (s : CacheState) (next at : ℕ) (items : List Queued) → s.leaving.items ≡ items
    → WithoutHead s (below_moved (gone_in leaving_outlet at items) (begun s next)).cache items
unfolding view_of
head_gone s next at [] e = λ a. ap (λ xs. line_view (state_in (line_in s a) (find_register a s.registers)) (requests s a xs)) (sym e)
head_gone s next at (x ∷ rest) e = λ a.
    ap (line_view (state_in (line_in s a) (find_register a s.registers))) (ap (requests s a) e ∙ requests-gone s a leaving_outlet at x rest)

head_call : (s : CacheState) (t : CacheMoved) (items : List Queued) → WithoutHead s t.cache items → WithoutHead s (calling t).cache items
head_call s t [] h = λ a. calling_lines t a ∙ h a
head_call s t (x ∷ rest) h = λ a. h a ∙ sym (ap (λ (v : LineView). line_view v.line (requests_in s a x.packet ++ v.sent)) (calling_lines t a))

taken_below : (s : CacheState) (next p now : ℕ) → SendsHead s (calling (sent_in (suc p) now (begun s next)))
taken_below s next p now =
    let at = later now (next_ready s.leaving.items) in
    let t = below_moved (gone_in leaving_outlet at s.leaving.items) (begun s next) in
    record { lines = head_call s t s.leaving.items (head_gone s next at s.leaving.items refl); entries = calling_entries t }

taken_below_tags : (s : CacheState) (next p now : ℕ) → HasTags s → HasTags (calling (sent_in (suc p) now (begun s next))).cache
taken_below_tags s next p now ok =
    let at = later now (next_ready s.leaving.items) in
    let f : Moved = gone_in leaving_outlet at s.leaving.items in
    calling_tags (below_moved f (begun s next)) (below_tags (begun s next) f (backs-gone leaving_outlet at s.leaving.items) ok)

fired : (s : CacheState) (next p : ℕ) → HasTags s → Leaves (begun s next) (calling (port_moved p (ask_in above) (ask_in below) (begun s next)))
fired s next p ok = stays_at s next p (ask_in above) (ask_in below) (ask_same below s.leaving.items s.leaving.out) ok

refused : (s : CacheState) (next p : ℕ) → HasTags s → Leaves (begun s next) (calling (port_moved p hold_in hold_in (begun s next)))
refused s next p ok = stays_at s next p hold_in hold_in (hold_same s.leaving.items s.leaving.out) ok

called : (s : CacheState) (next p : ℕ) → HasTags s → Leaves (begun s next) (calling (port_moved p (again_in above) (again_in below) (begun s next)))
called s next p ok = stays_at s next p (again_in above) (again_in below) (again_same below s.leaving.items s.leaving.out) ok

-- The laws.

pub wakes_keep_tags : WakesKeepTags
unfolding cache_step
wakes_keep_tags s next w now ok = by w where
  offered : (p : ℕ) (x : Packet) → HasTags (cache_step s next (wakes.Offer (record { 0 = p }) x) now).moved.cache
  offered zero x = (offered_above s next x now ok).ok
  offered (suc p) y = (offered_below s next y now ok).ok

  taken : (p : ℕ) → HasTags (cache_step s next (wakes.Taken (record { 0 = p })) now).moved.cache
  taken zero = (taken_above s next now ok).ok
  taken (suc p) = taken_below_tags s next p now ok

  by : (v : Wake) → HasTags (cache_step s next v now).moved.cache
  by (wakes.Event slot) = (fired s next slot.0 ok).ok
  by (wakes.Offer port x) = offered port.0 x
  by (wakes.Taken port) = taken port.0
  by (wakes.Refused port) = (refused s next port.0 ok).ok
  by (wakes.Retry port) = (called s next port.0 ok).ok
  by (wakes.Line bit level) = ok
  by (wakes.AtomicDone p latency) = ok

pub wakes_move_lines : WakesMoveLines
unfolding cache_step
wakes_move_lines s next w now ok = by w where
  offered : (p : ℕ) (x : Packet) → MovesLines s (wakes.Offer (record { 0 = p }) x) (cache_step s next (wakes.Offer (record { 0 = p }) x) now).moved
  offered zero x = (offered_above s next x now ok).effect
  offered (suc p) y = (offered_below s next y now ok).effect

  taken : (p : ℕ) → MovesLines s (wakes.Taken (record { 0 = p })) (cache_step s next (wakes.Taken (record { 0 = p })) now).moved
  taken zero = keeps_of s next (calling (sent_in 0 now (begun s next))) (taken_above s next now ok)
  taken (suc p) = taken_below s next p now

  by : (v : Wake) → MovesLines s v (cache_step s next v now).moved
  by (wakes.Event slot) = keeps_of s next (calling (port_moved slot.0 (ask_in above) (ask_in below) (begun s next))) (fired s next slot.0 ok)
  by (wakes.Offer port x) = offered port.0 x
  by (wakes.Taken port) = taken port.0
  by (wakes.Refused port) = keeps_of s next (calling (port_moved port.0 hold_in hold_in (begun s next))) (refused s next port.0 ok)
  by (wakes.Retry port) = keeps_of s next (calling (port_moved port.0 (again_in above) (again_in below) (begun s next))) (called s next port.0 ok)
  by (wakes.Line bit level) = record { lines = λ a. refl; entries = refl }
  by (wakes.AtomicDone p latency) = record { lines = λ a. refl; entries = refl }

-- The start.

some_bytes : (n : ℕ) → IsTrue ((n == 16) || (n == 32) || (n == 64)) → 0 < n
some_bytes zero h = absurd (cc h)
some_bytes (suc n) h = omega arith

nothing_at : (n i : ℕ) → ◌≡◌ {A = List Line} (get_or (replicate n []) i []) []
nothing_at zero i = refl
nothing_at (suc n) zero = refl
nothing_at (suc n) (suc i) = nothing_at n i

pub starts_with_tags : StartsWithTags
unfolding view_of backs
starts_with_tags p source sets ways mshrs targets writeq latency allowed some_sets some_ways some_targets =
    record {
      tags = record {
        sets = record {
          some_bytes = some_bytes p.line allowed.line;
          some_sets = omega arith;
          some_ways = omega arith;
          count = length-replicate sets [];
          each = λ i. subst (λ ls. AreLines s i ls) (sym (nothing_at sets i)) tt;
          few = λ i. subst (λ (ls : List Line). length ls ≤ ways) (sym (nothing_at sets i)) (omega arith);
        };
        registers = record { some_targets = some_targets; each = tt; used = omega arith; places = omega arith };
        apart = λ a l h. refl;
      };
      lines = λ a. ap (λ ls. line_view (state_in (find_line a ls) None) []) (nothing_at sets (set_of s a));
    } where
      s : CacheState
      s = cache_start p source sets ways mshrs targets writeq latency
