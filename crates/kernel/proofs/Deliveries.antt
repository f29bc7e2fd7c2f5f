-- What deliveries leave of a machine, whichever they are.
use Rattle.std.proofs.Common.{◌≡◌, ℕ, suc, zero, ◌+◌, ◌≤◌, length, refl, sym, ◌∙◌, ap, subst, arith, Bool, List, [], ◌∷◌, ◌++◌, Option, Some, None}
use Rattle.std.proofs.lemmas.List.{length-append}
use Rattle.gm_words.specs.Counts.{Counts}
use Rattle.gm_words.specs.Platform.{End}
use Rattle.gm_model.specs.Sys.{Sys, active_cpu, pass_at, peer_in, step_at}
use Rattle.gm_model.specs.Deliver.{Item, Sent, Done, Delivery, handle, deliver, deliver_first, deliver_wake, deliver_line, deliver_passed, deliver_atomic, pass_way, passes_max, told_wake, sent_by}
use Rattle.pkt_pool.specs.declared.packet.Packet.{Packet}
use Rattle.gm_words.specs.declared.way.Way.{Way}
use Rattle.gm_words.specs.declared.way.Way.TheVariants as ways
use Rattle.gm_words.specs.declared.act.Act.TheVariants as acts
use Rattle.gm_words.specs.declared.wake.Wake.{Wake}
use Rattle.gm_words.specs.declared.wake.Wake.TheVariants as wakes

-- a delivery counts nothing, and leaves it whether events are traced
abbrev still : Sys → Counts × Bool
still s = (s.counts, s.trace)

passed_kept : (n : ℕ) (d : Delivery) (j k : ℕ) (p : Packet) (before : ℕ) → still (deliver_atomic n d j k p before).sys ≡ still d.sys
unfolding deliver_atomic
passed_kept zero d j k p before = refl
passed_kept (suc n) d j k p before = by_way (λ port total. passed_kept n (deliver_passed d k p) j (peer_in d.sys.wires k port).part (pass_at d.sys k p).packet total) (pass_at d.sys k p).way where
  on : ℕ → ℕ → Delivery
  on port total = deliver_atomic n (deliver_passed d k p) j (peer_in d.sys.wires k port).part (pass_at d.sys k p).packet total

  by_way : ((port total : ℕ) → still (on port total).sys ≡ still d.sys) → (w : Way) → still (pass_way on (deliver_passed d k p) j (pass_at d.sys k p).packet before w).sys ≡ still d.sys
  by_way more (ways.Pass port latency) = more port.0 (before + latency)
  by_way more (ways.Done latency) = refl

kept : (d : Delivery) (i : Item) → still (handle d i).sys ≡ still d.sys
kept d (Sent j (acts.Offer port p)) = refl
kept d (Sent j (acts.CallRetry port)) = refl
kept d (Sent j (acts.SetLine bit level)) = by_cpu (active_cpu d.sys.objects) where
  by_cpu : (o : Option ℕ) → still (deliver_line d (wakes.Line bit level) o).sys ≡ still d.sys
  by_cpu None = refl
  by_cpu (Some i) = refl
kept d (Sent j (acts.Atomic port p)) = passed_kept passes_max d j (peer_in d.sys.ways j port.0).part p 0
kept d (Done j p latency) = refl

first_kept : (d : Delivery) (is : List Item) → still (deliver_first d is).sys ≡ still d.sys
first_kept d [] = refl
first_kept d (i ∷ is) = kept (record d { items = is }) i

deliver_kept : (n : ℕ) (d : Delivery) → still (deliver n d).sys ≡ still d.sys
unfolding deliver
deliver_kept zero d = refl
deliver_kept (suc n) d = deliver_kept n (deliver_first d d.items) ∙ first_kept d d.items

pub first_counts : (d : Delivery) (is : List Item) → (deliver_first d is).sys.counts ≡ d.sys.counts
first_counts d is = ap (λ (k : Counts × Bool). k.0) (first_kept d is)

pub deliver_counts : (n : ℕ) (d : Delivery) → (deliver n d).sys.counts ≡ d.sys.counts
deliver_counts n d = ap (λ (k : Counts × Bool). k.0) (deliver_kept n d)

pub deliver_trace : (n : ℕ) (d : Delivery) → (deliver n d).sys.trace ≡ d.sys.trace
deliver_trace n d = ap (λ (k : Counts × Bool). k.1) (deliver_kept n d)

-- a delivery keeps the items that wait
wake_least : (d : Delivery) (i : ℕ) (w : Wake) → length d.items ≤ length (deliver_wake d i w).items
wake_least d i w = omega (arith, length-append d.items (sent_by i (step_at d.sys i w).acts))

passed_least : (n : ℕ) (d : Delivery) (j k : ℕ) (p : Packet) (before : ℕ) → length d.items ≤ length (deliver_atomic n d j k p before).items
unfolding deliver_atomic
passed_least zero d j k p before = omega (arith, length-append d.items (Done j p before ∷ []))
passed_least (suc n) d j k p before = by_way (λ port total. passed_least n (deliver_passed d k p) j (peer_in d.sys.wires k port).part (pass_at d.sys k p).packet total) (pass_at d.sys k p).way where
  e : Delivery
  e = deliver_passed d k p

  more : length d.items ≤ length e.items
  more = omega (arith, length-append d.items (sent_by k (pass_at d.sys k p).acts))

  on : ℕ → ℕ → Delivery
  on port total = deliver_atomic n e j (peer_in d.sys.wires k port).part (pass_at d.sys k p).packet total

  by_way : ((port total : ℕ) → length e.items ≤ length (on port total).items) → (w : Way) → length d.items ≤ length (pass_way on e j (pass_at d.sys k p).packet before w).items
  by_way goes (ways.Pass port latency) = omega (arith, more, goes port.0 (before + latency))
  by_way goes (ways.Done latency) = omega (arith, more, length-append e.items (Done j (pass_at d.sys k p).packet (before + latency) ∷ []))

handle_least : (d : Delivery) (i : Item) → length d.items ≤ length (handle d i).items
handle_least d (Sent j (acts.Offer port p)) =
    let q : End = peer_in d.sys.wires j port.0 in
    let w : Wake = wakes.Offer (record { 0 = q.port }) p in
    omega (arith, wake_least d q.part w, wake_least (deliver_wake d q.part w) j (told_wake (step_at d.sys q.part w).answer port.0))
handle_least d (Sent j (acts.CallRetry port)) = let q : End = peer_in d.sys.wires j port.0 in wake_least d q.part (wakes.Retry (record { 0 = q.port }))
handle_least d (Sent j (acts.SetLine bit level)) = by_cpu (active_cpu d.sys.objects) where
  by_cpu : (o : Option ℕ) → length d.items ≤ length (deliver_line d (wakes.Line bit level) o).items
  by_cpu None = omega arith
  by_cpu (Some i) = wake_least d i (wakes.Line bit level)
handle_least d (Sent j (acts.Atomic port p)) = passed_least passes_max d j (peer_in d.sys.ways j port.0).part p 0
handle_least d (Done j p latency) = wake_least d j (wakes.AtomicDone p latency)

first_least : (d : Delivery) (is : List Item) → d.items ≡ is → length d.items ≤ length (deliver_first d is).items + 1
first_least d [] e = omega arith
first_least d (i ∷ is) e = omega (arith, handle_least (record d { items = is }) i, ap (λ xs. length xs) e)

pub deliver_least : (n : ℕ) (d : Delivery) → length d.items ≤ length (deliver n d).items + n
unfolding deliver
deliver_least zero d = omega arith
deliver_least (suc n) d = omega (arith, first_least d d.items refl, deliver_least n (deliver_first d d.items))

-- with nothing to deliver, nothing happens
pub deliver_none : (n : ℕ) (d : Delivery) → d.items ≡ [] → deliver n d ≡ d
unfolding deliver
deliver_none zero d e = refl
deliver_none (suc n) d e = (let P : List Item → Type 0 = λ is. deliver n (deliver_first d is) ≡ d in subst P (sym e) (deliver_none n d e))

-- some items, and then others
pub deliver_then : (m n : ℕ) (d : Delivery) → deliver n (deliver m d) ≡ deliver (m + n) d
unfolding deliver
deliver_then zero n d = (let P : ℕ → Type 0 = λ k. deliver n d ≡ deliver k d in let same : n ≡ 0 + n = omega arith in subst P same refl)
deliver_then (suc m) n d =
    let P : ℕ → Type 0 = λ k. deliver n (deliver m (deliver_first d d.items)) ≡ deliver k d in
    let same : suc (m + n) ≡ suc m + n = omega arith in
    subst P same (deliver_then m n (deliver_first d d.items))
