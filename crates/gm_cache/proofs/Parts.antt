-- What each part of a wake does to each line, and that it keeps what holds of the lines and registers.
use Rattle.std.proofs.Common.{◌≡◌, ℕ, ◌+◌, ◌-◌, ◌%◌, ◌≤◌, ◌⊎◌, inl, inr, Bool, true, false, ◌||◌, List, [], ◌∷◌, ◌++◌, length, Option, Some, None, refl, sym, ◌∙◌, ap, subst, arith, append-nil, append_assoc, length-append, ltb-false}
use Rattle.std.specs.Prelude.{nat_le, nat_lt}
use Rattle.std.proofs.lemmas.Bool.{cases_eq, leb-false}
use Rattle.cache_tags.specs.Line.{Line}
use Rattle.gm_cache.specs.State.{CacheState, Register, set_of, find_register, line_in, without_register, joined, leaving_outlet}
use Rattle.gm_cache.specs.Rule.{backs, has_full, is_blocked, is_cached, CacheMoved, noting, line_request, requesting, installing, serving_in, serving_all, with_registers, sending_below, above_moved, below_moved}
use Rattle.gm_cache.specs.Lines.{Filling, Request, ReadLine, LineView, line_view, requests, requests_in, line_state, state_in, view_of, IsLineOf, HasSets, IsTarget, AreTargets, AreRegisters, HasRegisters, AreApart, HasTags, Moves, Stay, Lifts, KeepsLines, noted_by, after_request, after_requests, noted_by_all}
use Rattle.gm_cache.proofs.QueueLemmas.{requests-put, backs-put, one_back, requests_none, own_read, own_other}
use Rattle.gm_cache.proofs.RegisterLemmas.{state_joined, register-append, register_added, register_without, gone_register, registers_without, length-without_register, length-joined, joined_none, registers_joined, registers_added}
use Rattle.gm_cache.proofs.Coming.{sets_rest, evicting_backs, evicting_entries, victim_of, came_in, installs, installs_cache, installs_sets, installs_found, installs_apart}
use Rattle.gm_cache.proofs.Serving.{fits_of, serves_line, serves_all}
use Rattle.gm_model.specs.Flows.{Moved, put_in}
use Rattle.gm_words.specs.Flow.{Flow}
use Rattle.gm_words.specs.Moves.{Moves as Told}
use Rattle.gm_words.specs.declared.entry.Entry.{Entry}
use Rattle.pkt_pool.specs.declared.cmd.Cmd.TheVariants as cmds
use Rattle.pkt_pool.specs.declared.packet.Packet.{Packet}

-- there is a register, a target's place in each, and a write place more than the registers need
pub record HasRoom (s : CacheState) : Type 0 where
  pub register : length s.registers + 1 ≤ s.mshrs
  pub target : has_full s.targets s.registers ≡ false
  pub place : backs s.leaving.items + length s.registers + 1 ≤ s.writeq

-- a cache that isn't blocked has room
pub room_of : (s : CacheState) → is_blocked s ≡ false → HasRoom s
unfolding is_blocked
room_of s e =
    by (nat_le s.mshrs (length s.registers)) (has_full s.targets s.registers)
    (nat_lt (s.writeq - backs s.leaving.items) (length s.registers + 1)) refl refl refl e where
      by : (r f p : Bool) → nat_le s.mshrs (length s.registers) ≡ r → has_full s.targets s.registers ≡ f
          → nat_lt (s.writeq - backs s.leaving.items) (length s.registers + 1) ≡ p → (r || f || p) ≡ false → HasRoom s
      by false false false er ef ep h =
          record {
            register = omega (arith, leb-false s.mshrs (length s.registers) er);
            target = ef;
            place = omega (arith, ltb-false (s.writeq - backs s.leaving.items) (length s.registers + 1) ep);
          }
      by false false true er ef ep h = absurd (cc h)
      by false true p er ef ep h = absurd (cc h)
      by true f p er ef ep h = absurd (cc h)

-- facts on registers that hang on nothing else
pub registers_rest : (s : CacheState) (ls : List (List Line)) (f : Flow) (w : Bool) → HasRegisters s
    → HasRegisters (record s { lines = ls; answers = f; waiter = w })
registers_rest s ls f w ok = record { some_targets = ok.some_targets; each = ok.each; used = ok.used; places = ok.places }

-- what a part of a wake does to the packet's line, to the others, to what holds of the tags, and what it notes
pub record Does (m : CacheMoved) (b : ℕ) (after : LineView) (noted : List Entry) (t : CacheMoved) : Type 0 where
  pub lifts : Lifts m.cache b after t.cache
  pub ok : HasTags t.cache
  pub entries : t.entries ≡ m.entries ++ noted

-- a part of a wake that changes no line's view, and notes nothing
pub record Leaves (m t : CacheMoved) : Type 0 where
  pub lines : KeepsLines m.cache t.cache
  pub ok : HasTags t.cache
  pub entries : t.entries ≡ m.entries

-- the line is there: it serves the request
pub does_serve : (m : CacheMoved) (l : Line) (x : Packet) (now : ℕ) (es : List Entry) → HasTags m.cache → line_in m.cache l.address ≡ Some l
    → IsTarget m.cache l.address x
    → Does m l.address (line_view (line_state (after_request l x x.cmd)) (view_of m.cache l.address).sent) (es ++ noted_by l x x.cmd)
    (serving_in (Some l) x now (noting es m))
does_serve m l x now es ok there fits =
    let k = serves_line (noting es m) l x x.cmd now ok.sets ok.apart there (fits_of m.cache l.address x fits) in
    record {
      lifts = record { own = k.own; other = λ a n. Stay (k.other a n) };
      ok = record {
        sets = k.sets;
        registers = subst HasRegisters (sym k.rest)
            (registers_rest m.cache (serving_in (Some l) x now (noting es m)).cache.lines
            (serving_in (Some l) x now (noting es m)).cache.answers m.cache.waiter ok.registers);
        apart = k.apart;
      };
      entries = k.entries ∙ append_assoc m.entries es (noted_by l x x.cmd);
    }

-- a register of the line is there: the request joins it
pub does_join : (m : CacheMoved) (b : ℕ) (x : Packet) (r : Register) (es : List Entry) → HasTags m.cache → HasRoom m.cache → line_in m.cache b ≡ None
    → find_register b m.cache.registers ≡ Some r → IsTarget m.cache b x
    → Does m b (line_view Filling (view_of m.cache b).sent) es (with_registers (joined b x m.cache.registers) (noting es m))
unfolding view_of
does_join m b x r es ok room none there fits =
    record {
      lifts = record { own = same b ∙ before; other = λ a n. Stay (same a) };
      ok = record {
        sets = sets_rest m.cache (joined b x m.cache.registers) m.cache.answers m.cache.leaving m.cache.waiter ok.sets;
        registers = record {
          some_targets = ok.registers.some_targets;
          each = registers_joined m.cache b x m.cache.registers room.target fits ok.registers.each;
          used = omega (arith, length-joined b x m.cache.registers, ok.registers.used);
          places = omega (arith, length-joined b x m.cache.registers, ok.registers.places);
        };
        apart = λ a l h. joined_none a b x m.cache.registers (ok.apart a l h);
      };
      entries = refl;
    } where
      same : (a : ℕ) → line_view (state_in (line_in m.cache a) (find_register a (joined b x m.cache.registers))) (requests m.cache a m.cache.leaving.items)
          ≡ line_view (state_in (line_in m.cache a) (find_register a m.cache.registers)) (requests m.cache a m.cache.leaving.items)
      same a = ap (λ z. line_view z (requests m.cache a m.cache.leaving.items)) (state_joined (line_in m.cache a) a b x m.cache.registers)

      before : line_view (state_in (line_in m.cache b) (find_register b m.cache.registers)) (requests m.cache b m.cache.leaving.items)
          ≡ line_view Filling (requests m.cache b m.cache.leaving.items)
      before = rw (none, there) refl

-- neither: a register is opened, and a read leaves
pub does_open : (m : CacheMoved) (b : ℕ) (x : Packet) (now : ℕ) (es : List Entry) → HasTags m.cache → HasRoom m.cache → line_in m.cache b ≡ None
    → find_register b m.cache.registers ≡ None → b % m.cache.common.line ≡ 0 → IsTarget m.cache b x
    → Does m b (line_view Filling ((view_of m.cache b).sent ++ ReadLine ∷ [])) es
    (requesting cmds.Read b [] now (with_registers (m.cache.registers ++ record { address = b; targets = x ∷ [] } ∷ []) (noting es m)))
unfolding view_of
does_open m b x now es ok room none free multiple fits =
    record {
      lifts = record { own = own; other = λ a n. Stay (other a n) };
      ok = record {
        sets = sets_rest m.cache (m.cache.registers ++ opened ∷ []) m.cache.answers
            (put_in leaving_outlet asks (now + m.cache.latency) m.cache.leaving.items m.cache.leaving.out).flow m.cache.waiter ok.sets;
        registers = record {
          some_targets = ok.registers.some_targets;
          each = registers_added m.cache opened m.cache.registers free (multiple, omega arith, ok.registers.some_targets, (fits, tt)) ok.registers.each;
          used = omega (arith, length-append m.cache.registers (opened ∷ []), room.register);
          places = omega (
            arith,
            length-append m.cache.registers (opened ∷ []),
            room.place,
            backs-put leaving_outlet asks (now + m.cache.latency) m.cache.leaving.items m.cache.leaving.out,
          );
        };
        apart = λ a l h. apart a l h (cases_eq b a);
      };
      entries = refl;
    } where
      opened : Register
      opened = record { address = b; targets = x ∷ [] }

      asks : Packet
      asks = line_request m.cache m.next cmds.Read b []

      sent : ℕ → List Request
      sent a = requests m.cache a (put_in leaving_outlet asks (now + m.cache.latency) m.cache.leaving.items m.cache.leaving.out).flow.items

      asked : (a : ℕ) → sent a ≡ requests m.cache a m.cache.leaving.items ++ requests_in m.cache a asks
      asked a = requests-put m.cache a leaving_outlet asks (now + m.cache.latency) m.cache.leaving.items m.cache.leaving.out

      own : line_view (state_in (line_in m.cache b) (find_register b (m.cache.registers ++ opened ∷ []))) (sent b)
          ≡ line_view Filling (requests m.cache b m.cache.leaving.items ++ ReadLine ∷ [])
      own =
          ap (λ o. line_view (state_in o (find_register b (m.cache.registers ++ opened ∷ []))) (sent b)) none
          ∙ (ap (λ o. line_view (state_in None o) (sent b)) (register_added b m.cache.registers opened refl free)
          ∙ ap (line_view Filling) (asked b ∙ ap (λ q. requests m.cache b m.cache.leaving.items ++ q) (own_read m.cache m.next b [] multiple)))

      other : (a : ℕ) → (b ≡ a → ⊥) → line_view (state_in (line_in m.cache a) (find_register a (m.cache.registers ++ opened ∷ []))) (sent a)
          ≡ line_view (state_in (line_in m.cache a) (find_register a m.cache.registers)) (requests m.cache a m.cache.leaving.items)
      other a n =
          ap (λ o. line_view (state_in (line_in m.cache a) o) (sent a)) (register-append a m.cache.registers opened n)
          ∙ ap (line_view (state_in (line_in m.cache a) (find_register a m.cache.registers)))
          (asked a ∙ (ap (λ q. requests m.cache a m.cache.leaving.items ++ q) (own_other m.cache a m.next cmds.Read b [] multiple n)
          ∙ append-nil (requests m.cache a m.cache.leaving.items)))

      apart : (a : ℕ) (l : Line) → line_in m.cache a ≡ Some l → (b ≡ a) ⊎ (b ≡ a → ⊥) → find_register a (m.cache.registers ++ opened ∷ []) ≡ None
      apart a l h (inl e) = absurd (cc (sym h ∙ subst (λ c. line_in m.cache c ≡ None) e none))
      apart a l h (inr n) = register-append a m.cache.registers opened n ∙ ok.apart a l h

-- a line that comes in keeps what holds of the tags
installs_tags : (m : CacheMoved) (l : Line) (now : ℕ) → HasSets m.cache → AreApart m.cache → 1 ≤ m.cache.targets → AreRegisters m.cache m.cache.registers
    → length m.cache.registers ≤ m.cache.mshrs → backs m.cache.leaving.items + length m.cache.registers + 1 ≤ m.cache.writeq
    → line_in m.cache l.address ≡ None → find_register l.address m.cache.registers ≡ None → IsLineOf m.cache (set_of m.cache l.address) l
    → HasTags (installing l now m).cache
installs_tags m l now sets apart some each few room none free is =
    record {
      sets = installs_sets l now m sets none is;
      registers = subst HasRegisters (sym (installs_cache l now m sets none is))
          (record { some_targets = some; each = each; used = few; places = omega (arith, evicting_backs now (victim_of l m.cache) (came_in l m), room) });
      apart = installs_apart l now m sets none is apart free;
    }

-- a write-back whose line isn't there comes in
pub does_install : (m : CacheMoved) (l : Line) (now : ℕ) → HasTags m.cache → HasRoom m.cache → line_in m.cache l.address ≡ None
    → find_register l.address m.cache.registers ≡ None → IsLineOf m.cache (set_of m.cache l.address) l
    → Does m l.address (line_view (line_state l) (view_of m.cache l.address).sent) [] (installing l now m)
does_install m l now ok room none free is =
    let i = installs l now m ok.sets ok.apart none in
    record {
      lifts = record { own = i.own; other = i.other };
      ok = installs_tags m l now ok.sets ok.apart ok.registers.some_targets ok.registers.each ok.registers.used room.place none free is;
      entries = evicting_entries now (victim_of l m.cache) (came_in l m) ∙ sym (append-nil m.entries);
    }

-- a line that has a register isn't there
pub line_absent : (s : CacheState) (a : ℕ) (r : Register) → AreApart s → find_register a s.registers ≡ Some r → line_in s a ≡ None
line_absent s a r apart h = by (line_in s a) refl where
  by : (o : Option Line) → line_in s a ≡ o → o ≡ None
  by None e = refl
  by (Some l) e = absurd (cc (sym (apart a l e) ∙ h))

-- with one register closed, never both a line and a register of it
closed_apart : (s : CacheState) (b : ℕ) → HasTags s → (a : ℕ) (j : Line) → line_in s a ≡ Some j → find_register a (without_register b s.registers) ≡ None
closed_apart s b ok a j h = by (cases_eq b a) where
  by : (b ≡ a) ⊎ (b ≡ a → ⊥) → find_register a (without_register b s.registers) ≡ None
  by (inl e) = subst (λ c. find_register c (without_register b s.registers) ≡ None) e (gone_register s b s.registers ok.registers.each)
  by (inr n) = register_without a b s.registers n ∙ ok.apart a j h

-- the register of a line is closed, and a response is told
abbrev pub closed : ℕ → Told → CacheMoved → CacheMoved
closed a told m = record (with_registers (without_register a m.cache.registers) m) { moves = told }

-- a line comes, and its register's targets are served
pub does_fill : (m : CacheMoved) (l : Line) (r : Register) (now : ℕ) (told : Told) → HasTags m.cache → find_register l.address m.cache.registers ≡ Some r
    → IsLineOf m.cache (set_of m.cache l.address) l → AreTargets m.cache l.address r.targets
    → Does m l.address (line_view (line_state (after_requests l r.targets)) (view_of m.cache l.address).sent) (noted_by_all l r.targets)
    (serving_all l.address r.targets now (installing l now (closed l.address told m)))
unfolding view_of
does_fill m l r now told ok there is fits =
    let c : CacheMoved = closed l.address told m in
    let sets : HasSets c.cache = sets_rest m.cache (without_register l.address m.cache.registers) m.cache.answers m.cache.leaving m.cache.waiter ok.sets in
    let none : line_in m.cache l.address ≡ None = line_absent m.cache l.address r ok.apart there in
    let free : find_register l.address (without_register l.address m.cache.registers) ≡ None =
    gone_register m.cache l.address m.cache.registers ok.registers.each in
    let fewer = length-without_register l.address m.cache.registers r there in
    let tags = installs_tags c l now sets apart_closed ok.registers.some_targets (registers_without m.cache l.address m.cache.registers ok.registers.each)
    (omega (arith, fewer, ok.registers.used)) (omega (arith, fewer, ok.registers.places)) none free is in
    let i = installs l now c sets apart_closed none in
    let t = installing l now c in
    let targets : AreTargets t.cache l.address r.targets =
    subst (λ (s : CacheState). AreTargets s l.address r.targets) (sym (installs_cache l now c sets none is)) fits in
    let k = serves_all t l r.targets now tags.sets tags.apart (installs_found l now c sets none is) targets in
    record {
      lifts = record {
        own = k.own ∙ ap (λ (v : LineView). line_view (line_state (after_requests l r.targets)) v.sent) i.own;
        other = λ a n. subst (λ v. Moves (view_of m.cache a) v) (sym (k.other a n)) (subst (λ v. Moves v (view_of t.cache a)) (same a n) (i.other a n));
      };
      ok = record {
        sets = k.sets;
        registers = subst HasRegisters (sym k.rest)
            (registers_rest t.cache (serving_all l.address r.targets now t).cache.lines
            (serving_all l.address r.targets now t).cache.answers t.cache.waiter tags.registers);
        apart = k.apart;
      };
      entries = k.entries ∙ ap (λ es. es ++ noted_by_all l r.targets) (evicting_entries now (victim_of l c.cache) (came_in l c));
    } where
      apart_closed : (a : ℕ) (j : Line) → line_in m.cache a ≡ Some j → find_register a (without_register l.address m.cache.registers) ≡ None
      apart_closed = closed_apart m.cache l.address ok

      same : (a : ℕ) → (l.address ≡ a → ⊥)
          → line_view (state_in (line_in m.cache a) (find_register a (without_register l.address m.cache.registers))) (requests m.cache a m.cache.leaving.items)
          ≡ line_view (state_in (line_in m.cache a) (find_register a m.cache.registers)) (requests m.cache a m.cache.leaving.items)
      same a n = ap (λ o. line_view (state_in (line_in m.cache a) o) (requests m.cache a m.cache.leaving.items))
          (register_without a l.address m.cache.registers n)

-- Parts that change no line.

-- a packet that lies in no line passes
pub leaves_send : (m : CacheMoved) (x : Packet) (now : ℕ) → HasTags m.cache → HasRoom m.cache → is_cached m.cache x ≡ false → Leaves m (sending_below x now m)
unfolding view_of
leaves_send m x now ok room u =
    record {
      lines = λ a.
          ap (line_view (state_in (line_in m.cache a) (find_register a m.cache.registers)))
          (requests-put m.cache a leaving_outlet x (now + m.cache.latency) m.cache.leaving.items m.cache.leaving.out
          ∙ (ap (λ q. requests m.cache a m.cache.leaving.items ++ q) (requests_none m.cache a x u) ∙ append-nil (requests m.cache a m.cache.leaving.items)));
      ok = record {
        sets = sets_rest m.cache m.cache.registers m.cache.answers
            (put_in leaving_outlet x (now + m.cache.latency) m.cache.leaving.items m.cache.leaving.out).flow m.cache.waiter ok.sets;
        registers = record {
          some_targets = ok.registers.some_targets;
          each = ok.registers.each;
          used = ok.registers.used;
          places = omega (arith, backs-put leaving_outlet x (now + m.cache.latency) m.cache.leaving.items m.cache.leaving.out, one_back x.cmd, room.place);
        };
        apart = ok.apart;
      };
      entries = refl;
    }

-- a step of the answers
pub leaves_above : (m : CacheMoved) (f : Moved) → HasTags m.cache → Leaves m (above_moved f m)
unfolding view_of
leaves_above m f ok =
    record {
      lines = λ a. refl;
      ok = record {
        sets = sets_rest m.cache m.cache.registers f.flow m.cache.leaving m.cache.waiter ok.sets;
        registers = registers_rest m.cache m.cache.lines f.flow m.cache.waiter ok.registers;
        apart = ok.apart;
      };
      entries = refl;
    }

-- a step of what leaves
pub below_tags : (m : CacheMoved) (f : Moved) → backs f.flow.items ≤ backs m.cache.leaving.items → HasTags m.cache → HasTags (below_moved f m).cache
below_tags m f few ok =
    record {
      sets = sets_rest m.cache m.cache.registers m.cache.answers f.flow m.cache.waiter ok.sets;
      registers = record {
        some_targets = ok.registers.some_targets;
        each = ok.registers.each;
        used = ok.registers.used;
        places = omega (arith, few, ok.registers.places);
      };
      apart = ok.apart;
    }

-- one that keeps the packets
pub leaves_below : (m : CacheMoved) (f : Moved) → f.flow.items ≡ m.cache.leaving.items → HasTags m.cache → Leaves m (below_moved f m)
unfolding view_of
leaves_below m f e ok =
    record {
      lines = λ a. ap (λ xs. line_view (state_in (line_in m.cache a) (find_register a m.cache.registers)) (requests m.cache a xs)) e;
      ok = below_tags m f (omega (arith, ap backs e)) ok;
      entries = refl;
    }
