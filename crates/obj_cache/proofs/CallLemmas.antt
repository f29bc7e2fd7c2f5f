-- What each call makes of the registers, as they are kept and as contracts see them.
use Rattle.std.proofs.Common.{◌≡◌, ℕ, ◌+◌, ◌≤◌, refl, sym, ◌∙◌, ap, arith, subst, eq-eqb, Bool, true, false, List, [], ◌∷◌, ◌++◌, length, drop, slice_get, Option, Some, None, is_some, IfSome, OnSome, All}
use Rattle.std.proofs.lemmas.List.{length-append}
use Rattle.std.proofs.lemmas.List.Elements.{All-append, All-nil, All-cons, All-head, All-tail}
use Rattle.cache_mshr.specs.Registers as kept
use Rattle.cache_mshr.specs.Registers.{Registers, key_of, AreSound}
use Rattle.cache_mshr.proofs.RegistersLemmas.{found_open}
use Rattle.gm_cache.specs.State.{Register, without_register, joined}
use Rattle.pkt_pool.specs.declared.packet.Packet.{Packet}
use Rattle.pkt_pool.specs.Pooled.{Pooled, packet_at, count, Changes}
use Rattle.obj_cache.specs.Held.{IsTarget, targets_of, with_targets, first_gone}
use Rattle.obj_cache.specs.RegistersKept.{packets_by, packets_of, registers_of, shown, bit, times, sum_in, times_in, IsKept}
use Rattle.obj_cache.proofs.RegistersLemmas.{put_packets, times_append, length_packets, held_put, held_taken, no_target, unseen_in, in_line_unseen, targets_shown, with_shown, without_shown, targets_none, with_none, without_none, joined_with, sum_end, sum_with, sum_without, in_line_end, in_line_with, in_line_without, in_line_at}

-- One is opened.

registers_append : (p : Pooled) (rs qs : List kept.Register) → registers_of p (rs ++ qs) ≡ registers_of p rs ++ registers_of p qs
registers_append p [] qs = refl
registers_append p (r ∷ rs) qs = ap (λ hs. record { address = r.address; targets = packets_of p r.targets } ∷ hs) (registers_append p rs qs)

pub view_opened : (p q : Pooled) (m : Registers) (line g a k : ℕ) (x : Packet) → IsKept p m line → Changes p q k (Some x) → packet_at p k ≡ None
    → shown q (kept.opened g a k m) line ≡ record (shown p m line) { used = registers_of p m.used ++ record { address = a; targets = x ∷ [] } ∷ [] }
view_opened p q m line g a k x i c v =
    ap (λ (hs : List Register). record { used = hs; count = m.count; places = m.places; line = line })
    (registers_append q m.used (record { key = g; address = a; targets = k ∷ [] } ∷ [])
    ∙ rw c.changed (ap (λ hs. hs ++ record { address = a; targets = x ∷ [] } ∷ []) (unseen_in p q m.used k (Some x) c (no_target p m.used k i.held v))))

only : (line a : ℕ) (x : Packet) → IsTarget line a x → All (IsTarget line a) (x ∷ [])
only line a x t = All-cons (IsTarget line a) x [] t (All-nil (IsTarget line a))

new_target : (q : Pooled) (line a k : ℕ) (x : Packet) → packet_at q k ≡ Some x → IsTarget line a x → All (IsTarget line a) (packets_of q (k ∷ []))
new_target q line a k x e t = rw e (only line a x t)

pub kept_opened : (p q : Pooled) (m : Registers) (line g a k : ℕ) (x : Packet) → IsKept p m line → AreSound (kept.opened g a k m) → Changes p q k (Some x)
    → packet_at p k ≡ None → count q ≡ count p + 1 → IsTarget line a x → IsKept q (kept.opened g a k m) line
kept_opened p q m line g a k x i s c v n t =
    let r : kept.Register = record { key = g; address = a; targets = k ∷ [] } in
    record {
      sound = s;
      held = held_put p q k x (λ j. times_in j m.used) (λ j. times_in j (m.used ++ r ∷ [])) c v i.held (λ j. omega (arith, sum_end (times j) m.used r));
      all = omega (arith, n, i.all, sum_end (λ ks. length ks) m.used r);
      in_line = in_line_end line q m.used r (in_line_unseen line p q m.used k (Some x) c (no_target p m.used k i.held v) i.in_line)
          (new_target q line a k x c.changed t);
      room = c.cap ∙ i.room;
      few = i.few;
      some = i.some;
      most = i.most;
    }

-- One gets a target more.

-- what stands in one register is no more than what stands in all of them
part : (f : List ℕ → ℕ) (a g : ℕ) (rs : List kept.Register) → key_of a rs ≡ Some g → f (kept.targets_of g rs) ≤ sum_in f rs
part f a g rs e = omega (arith, sum_without f g rs (found_open a g rs e))

packets_joined : (p q : Pooled) (m : Registers) (line g a k : ℕ) (x : Packet) → IsKept p m line → key_of a m.used ≡ Some g → Changes p q k (Some x)
    → packet_at p k ≡ None → packets_of q (kept.targets_of g m.used ++ k ∷ []) ≡ packets_of p (kept.targets_of g m.used) ++ x ∷ []
packets_joined p q m line g a k x i f c v =
    put_packets p q (kept.targets_of g m.used) k x c (omega (arith, no_target p m.used k i.held v, part (times k) a g m.used f))

pub view_joined : (p q : Pooled) (m : Registers) (line g a k : ℕ) (x : Packet) → IsKept p m line → key_of a m.used ≡ Some g → Changes p q k (Some x)
    → packet_at p k ≡ None → shown q (kept.joined g k m) line ≡ record (shown p m line) { used = joined a x (registers_of p m.used) }
view_joined p q m line g a k x i f c v =
    let hs : List Register = registers_of p m.used in
    ap (λ (hs : List Register). record { used = hs; count = m.count; places = m.places; line = line })
    (with_shown q a g (kept.targets_of g m.used ++ k ∷ []) m.used i.sound.apart f
    ∙ ap (λ gs. with_targets a (packets_of q (kept.targets_of g m.used ++ k ∷ [])) gs) (unseen_in p q m.used k (Some x) c (no_target p m.used k i.held v))
    ∙ ap (λ xs. with_targets a xs hs) (packets_joined p q m line g a k x i f c v ∙ sym (ap (λ xs. xs ++ x ∷ []) (targets_shown p a g m.used i.sound.apart f)))
    ∙ sym (joined_with a x hs))

pub kept_joined : (p q : Pooled) (m : Registers) (line g a k : ℕ) (x : Packet) → IsKept p m line → key_of a m.used ≡ Some g → AreSound (kept.joined g k m)
    → Changes p q k (Some x) → packet_at p k ≡ None → count q ≡ count p + 1 → IsTarget line a x → IsKept q (kept.joined g k m) line
kept_joined p q m line g a k x i f s c v n t =
    let ts : List ℕ = kept.targets_of g m.used in
    let more : List ℕ = ts ++ k ∷ [] in
    let o = found_open a g m.used f in
    record {
      sound = s;
      held = held_put p q k x (λ j. times_in j m.used) (λ j. times_in j (kept.with_targets g more m.used)) c v i.held
          (λ j. omega (arith, sum_with (times j) g more m.used o, times_append j ts (k ∷ [])));
      all = omega (arith, n, i.all, sum_with (λ ks. length ks) g more m.used o, length-append ts (k ∷ []));
      in_line = in_line_with line q a g more m.used i.sound.apart f (in_line_unseen line p q m.used k (Some x) c (no_target p m.used k i.held v) i.in_line)
          (subst (λ xs. All (IsTarget line a) xs) (sym (packets_joined p q m line g a k x i f c v))
          (All-append (IsTarget line a) (packets_of p ts) (x ∷ []) (in_line_at line p a g m.used i.sound.apart f i.in_line) (only line a x t)));
      room = c.cap ∙ i.room;
      few = i.few;
      some = i.some;
      most = i.most;
    }

-- a packet more for a line that isn't on its way
pub joined_none : (p : Pooled) (m : Registers) (line a : ℕ) (x : Packet) → key_of a m.used ≡ None
    → shown p m line ≡ record (shown p m line) { used = joined a x (registers_of p m.used) }
joined_none p m line a x n =
    ap (λ (hs : List Register). record { used = hs; count = m.count; places = m.places; line = line })
    (sym (joined_with a x (registers_of p m.used) ∙ with_none p a _ m.used n))

-- The first target of one is taken out.

-- a list with a first element
first_there : (ks : List ℕ) (k : ℕ) → Some k ≡ slice_get ks 0 → ks ≡ k ∷ drop 1 ks
first_there [] k e = absurd (cc)
first_there (j ∷ js) k e = let same : k ≡ j = some e in ap (λ i. i ∷ js) (sym same) where
  some : {x y : ℕ} → Some x ≡ Some y → x ≡ y
  some q = cc

by_first : (o : Option Packet) (xs : List Packet) → 1 ≤ bit (is_some o) → slice_get (packets_by o xs) 0 ≡ o
by_first None xs h = absurd (omega (arith, h))
by_first (Some x) xs h = refl

by_rest : (o : Option Packet) (xs : List Packet) → 1 ≤ bit (is_some o) → drop 1 (packets_by o xs) ≡ xs
by_rest None xs h = absurd (omega (arith, h))
by_rest (Some x) xs h = refl

pub all_rest : (P : Packet → Type 0) (o : Option Packet) (xs : List Packet) → All P (packets_by o xs) → All P xs
all_rest P None xs h = h
all_rest P (Some x) xs h = All-tail P x xs h

-- what is said of a packet that is there
as_there : {A : Type 0} (r o : Option Packet) → r ≡ o → 1 ≤ bit (is_some o) → OnSome r A → A
as_there None None e h f = absurd (omega (arith, h))
as_there None (Some y) e h f = absurd (cc)
as_there (Some y) o e h f = f

-- how often a key is a target, before and after
record Took (p : Pooled) (m : Registers) (g k : ℕ) : Type 0 where
  pub front : kept.targets_of g m.used ≡ k ∷ drop 1 (kept.targets_of g m.used)
  pub sums : (f : List ℕ → ℕ) → sum_in f (kept.with_targets g (drop 1 (kept.targets_of g m.used)) m.used) + f (k ∷ drop 1 (kept.targets_of g m.used))
      ≡ sum_in f m.used + f (drop 1 (kept.targets_of g m.used))
  pub there : 1 ≤ bit (is_some (packet_at p k))
  pub gone : times_in k (kept.with_targets g (drop 1 (kept.targets_of g m.used)) m.used) ≡ 0

took : (p : Pooled) (m : Registers) (line g a k : ℕ) → IsKept p m line → key_of a m.used ≡ Some g → Some k ≡ slice_get (kept.targets_of g m.used) 0 → Took p m g k
took p m line g a k i f e = record { front = front; sums = sums; there = there; gone = gone } where
  front : kept.targets_of g m.used ≡ k ∷ drop 1 (kept.targets_of g m.used)
  front = first_there (kept.targets_of g m.used) k e

  sums : (h : List ℕ → ℕ) → sum_in h (kept.with_targets g (drop 1 (kept.targets_of g m.used)) m.used) + h (k ∷ drop 1 (kept.targets_of g m.used))
      ≡ sum_in h m.used + h (drop 1 (kept.targets_of g m.used))
  sums h = omega (arith, sum_with h g (drop 1 (kept.targets_of g m.used)) m.used (found_open a g m.used f), ap h front)

  one : times k (k ∷ drop 1 (kept.targets_of g m.used)) ≡ 1 + times k (drop 1 (kept.targets_of g m.used))
  one = rw (eq-eqb k k refl) refl

  there : 1 ≤ bit (is_some (packet_at p k))
  there = omega (arith, one, sums (times k), i.held k)

  most : (b : Bool) → bit b ≤ 1
  most true = omega arith
  most false = omega arith

  gone : times_in k (kept.with_targets g (drop 1 (kept.targets_of g m.used)) m.used) ≡ 0
  gone = omega (arith, one, sums (times k), i.held k, most (is_some (packet_at p k)))

packets_first : (p : Pooled) (m : Registers) (line g a k : ℕ) → IsKept p m line → key_of a m.used ≡ Some g → Some k ≡ slice_get (kept.targets_of g m.used) 0
    → targets_of a (registers_of p m.used) ≡ packets_by (packet_at p k) (packets_of p (drop 1 (kept.targets_of g m.used)))
packets_first p m line g a k i f e =
    targets_shown p a g m.used i.sound.apart f ∙ ap (λ ks. packets_of p ks) (first_there (kept.targets_of g m.used) k e)

pub first_packet : (p : Pooled) (m : Registers) (line g a k : ℕ) → IsKept p m line → key_of a m.used ≡ Some g → Some k ≡ slice_get (kept.targets_of g m.used) 0
    → packet_at p k ≡ slice_get (targets_of a (registers_of p m.used)) 0
first_packet p m line g a k i f e =
    sym (ap (λ xs. slice_get xs 0) (packets_first p m line g a k i f e)
    ∙ by_first (packet_at p k) (packets_of p (drop 1 (kept.targets_of g m.used))) (took p m line g a k i f e).there)

pub view_first_gone : (p q : Pooled) (m : Registers) (line g a k : ℕ) → IsKept p m line → key_of a m.used ≡ Some g → Some k ≡ slice_get (kept.targets_of g m.used) 0
    → Changes p q k None → shown q (kept.first_gone g m) line ≡ record (shown p m line) { used = first_gone a (registers_of p m.used) }
view_first_gone p q m line g a k i f e c =
    let t : Took p m g k = took p m line g a k i f e in
    let ts : List ℕ = drop 1 (kept.targets_of g m.used) in
    let hs : List Register = registers_of p m.used in
    ap (λ (hs : List Register). record { used = hs; count = m.count; places = m.places; line = line })
    (unseen_in p q (kept.with_targets g ts m.used) k None c t.gone ∙ with_shown p a g ts m.used i.sound.apart f
    ∙ ap (λ xs. with_targets a xs hs) (sym (ap (λ xs. drop 1 xs) (packets_first p m line g a k i f e) ∙ by_rest (packet_at p k) (packets_of p ts) t.there)))

pub kept_first_gone : (p q : Pooled) (m : Registers) (line g a k : ℕ) (x : Option Packet) → IsKept p m line → key_of a m.used ≡ Some g
    → Some k ≡ slice_get (kept.targets_of g m.used) 0 → AreSound (kept.first_gone g m) → Changes p q k None → x ≡ packet_at p k
    → OnSome x (count q + 1 ≡ count p) → IsKept q (kept.first_gone g m) line
kept_first_gone p q m line g a k x i f e s c y n =
    let t : Took p m g k = took p m line g a k i f e in
    let ts : List ℕ = drop 1 (kept.targets_of g m.used) in
    record {
      sound = s;
      held = held_taken p q k (λ j. times_in j m.used) (λ j. times_in j (kept.with_targets g ts m.used)) c i.held (λ j. omega (arith, t.sums (times j)));
      all = omega (arith, as_there x (packet_at p k) y t.there n, i.all, t.sums (λ ks. length ks));
      in_line = in_line_unseen line p q (kept.with_targets g ts m.used) k None c t.gone
          (in_line_with line p a g ts m.used i.sound.apart f i.in_line
          (all_rest (IsTarget line a) (packet_at p k) (packets_of p ts)
          (subst (λ xs. All (IsTarget line a) (packets_of p xs)) t.front (in_line_at line p a g m.used i.sound.apart f i.in_line))));
      room = c.cap ∙ i.room;
      few = i.few;
      some = i.some;
      most = i.most;
    }

-- it lies in the line
pub first_target : (p : Pooled) (m : Registers) (line g a : ℕ) → IsKept p m line → key_of a m.used ≡ Some g
    → IfSome (slice_get (targets_of a (registers_of p m.used)) 0) (IsTarget line a)
first_target p m line g a i f =
    rw (targets_shown p a g m.used i.sound.apart f) (of (packets_of p (kept.targets_of g m.used)) (in_line_at line p a g m.used i.sound.apart f i.in_line)) where
      of : (xs : List Packet) → All (IsTarget line a) xs → IfSome (slice_get xs 0) (IsTarget line a)
      of [] h = tt
      of (x ∷ xs) h = All-head (IsTarget line a) x xs h

-- Nobody waits.

-- registers that are kept as before
sums_kept : (g : ℕ) (ts : List ℕ) (rs : List kept.Register) (f : List ℕ → ℕ) → kept.is_open g rs ≡ true → kept.targets_of g rs ≡ ts
    → sum_in f (kept.with_targets g ts rs) ≡ sum_in f rs
sums_kept g ts rs f o e = omega (arith, sum_with f g ts rs o, ap f e)

pub view_none_gone : (p : Pooled) (m : Registers) (line g a : ℕ) → IsKept p m line → key_of a m.used ≡ Some g → kept.targets_of g m.used ≡ []
    → shown p (kept.first_gone g m) line ≡ record (shown p m line) { used = first_gone a (registers_of p m.used) }
view_none_gone p m line g a i f e =
    let hs : List Register = registers_of p m.used in
    ap (λ (hs : List Register). record { used = hs; count = m.count; places = m.places; line = line })
    (with_shown p a g (drop 1 (kept.targets_of g m.used)) m.used i.sound.apart f
    ∙ ap (λ xs. with_targets a xs hs) (ap (λ ks. packets_of p (drop 1 ks)) e ∙ sym (ap (λ xs. drop 1 xs) (targets_shown p a g m.used i.sound.apart f ∙ ap (λ ks. packets_of p ks) e))))

pub kept_none_gone : (p : Pooled) (m : Registers) (line g a : ℕ) → IsKept p m line → key_of a m.used ≡ Some g → kept.targets_of g m.used ≡ []
    → AreSound (kept.first_gone g m) → IsKept p (kept.first_gone g m) line
kept_none_gone p m line g a i f e s =
    let ts : List ℕ = drop 1 (kept.targets_of g m.used) in
    let same : kept.targets_of g m.used ≡ ts = e ∙ sym (ap (λ ks. drop 1 ks) e) in
    let o = found_open a g m.used f in
    record {
      sound = s;
      held = λ j. omega (arith, sums_kept g ts m.used (times j) o same, i.held j);
      all = omega (arith, i.all, sums_kept g ts m.used (λ ks. length ks) o same);
      in_line = in_line_with line p a g ts m.used i.sound.apart f i.in_line
          (subst (λ ks. All (IsTarget line a) (packets_of p ks)) same (in_line_at line p a g m.used i.sound.apart f i.in_line));
      room = i.room;
      few = i.few;
      some = i.some;
      most = i.most;
    }

-- a line that isn't on its way
pub gone_none : (p : Pooled) (m : Registers) (line a : ℕ) → key_of a m.used ≡ None
    → shown p m line ≡ record (shown p m line) { used = first_gone a (registers_of p m.used) }
gone_none p m line a n =
    ap (λ (hs : List Register). record { used = hs; count = m.count; places = m.places; line = line }) (sym (with_none p a _ m.used n))

pub first_none : (p : Pooled) (a : ℕ) (m : Registers) → key_of a m.used ≡ None → None ≡ slice_get (targets_of a (registers_of p m.used)) 0
first_none p a m n = rw (targets_none p a m.used n) refl

pub none_first : (p : Pooled) (m : Registers) (line g a : ℕ) → IsKept p m line → key_of a m.used ≡ Some g → kept.targets_of g m.used ≡ []
    → None ≡ slice_get (targets_of a (registers_of p m.used)) 0
none_first p m line g a i f e =
    sym (ap (λ xs. slice_get xs 0) (targets_shown p a g m.used i.sound.apart f ∙ ap (λ ks. packets_of p ks) e))

-- One is closed.

no_packets : (p : Pooled) (m : Registers) (line g a : ℕ) → IsKept p m line → key_of a m.used ≡ Some g → targets_of a (registers_of p m.used) ≡ []
    → length (kept.targets_of g m.used) ≡ 0
no_packets p m line g a i f e =
    sym (length_packets p (kept.targets_of g m.used) (λ k. omega (arith, i.held k, part (times k) a g m.used f)))
    ∙ ap (λ xs. length xs) (sym (targets_shown p a g m.used i.sound.apart f) ∙ e)

pub served : (p : Pooled) (m : Registers) (line g a : ℕ) → IsKept p m line → key_of a m.used ≡ Some g → targets_of a (registers_of p m.used) ≡ []
    → kept.targets_of g m.used ≡ []
served p m line g a i f e = nil (kept.targets_of g m.used) (no_packets p m line g a i f e) where
  nil : (ks : List ℕ) → length ks ≡ 0 → ks ≡ []
  nil [] h = refl
  nil (k ∷ ks) h = absurd (omega (arith, h))

pub view_closed : (p : Pooled) (m : Registers) (line g a : ℕ) → IsKept p m line → key_of a m.used ≡ Some g
    → shown p (kept.closed g m) line ≡ record (shown p m line) { used = without_register a (registers_of p m.used) }
view_closed p m line g a i f =
    ap (λ (hs : List Register). record { used = hs; count = m.count; places = m.places; line = line }) (without_shown p a g m.used i.sound.apart f)

pub kept_closed : (p : Pooled) (m : Registers) (line g a : ℕ) → IsKept p m line → key_of a m.used ≡ Some g → kept.targets_of g m.used ≡ []
    → AreSound (kept.closed g m) → IsKept p (kept.closed g m) line
kept_closed p m line g a i f e s =
    let o = found_open a g m.used f in
    record {
      sound = s;
      held = λ j. omega (arith, sum_without (times j) g m.used o, i.held j);
      all = omega (arith, i.all, sum_without (λ ks. length ks) g m.used o, ap (λ (ks : List ℕ). length ks) e);
      in_line = in_line_without line p g m.used i.in_line;
      room = i.room;
      few = i.few;
      some = i.some;
      most = i.most;
    }

pub closed_none : (p : Pooled) (m : Registers) (line a : ℕ) → key_of a m.used ≡ None
    → shown p m line ≡ record (shown p m line) { used = without_register a (registers_of p m.used) }
closed_none p m line a n =
    ap (λ (hs : List Register). record { used = hs; count = m.count; places = m.places; line = line }) (sym (without_none p a m.used n))
