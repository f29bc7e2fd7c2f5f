-- A delivery comes to an end within its fuel.
use Rattle.std.proofs.Common.{◌≡◌, ℕ, zero, suc, ◌+◌, ◌<◌, ◌≤◌, is_some, true, List, [], ◌∷◌, ◌++◌, refl, sym, subst, arith, Option, Some, None, length}
use Rattle.gm_model.specs.Deliver.{Item, Sent, Done, Delivery, sent_by, handle, deliver_first, deliver, deliver_line, deliver_passed, done_at, deliver_atomic, passes_max}
use Rattle.gm_model.specs.Stepped.{Stepped}
use Rattle.gm_words.specs.Moves.{no_moves}
use Rattle.gm_model.specs.Sys.{Sys, peer_in, pass_at, active_cpu}
use Rattle.gm_words.specs.declared.act.Act.{Act}
use Rattle.gm_words.specs.declared.act.Act.TheVariants as acts
use Rattle.gm_words.specs.declared.answer.Answer.TheVariants as answers
use Rattle.gm_words.specs.declared.entry.Entry.{Entry}
use Rattle.pkt_pool.specs.declared.packet.Packet.{Packet}
use Rattle.gm_words.specs.declared.wake.Wake.TheVariants as wakes
use Rattle.gm_laws.specs.Face.{MayWake}
use Rattle.gm_laws.specs.Fuel.{weight_one, weight_of}
use Rattle.gm_system.specs.MemoryLaws.{MemoryLaws}
use Rattle.gm_system.specs.MemoryView.{MemoryView}
use Rattle.gm_system.specs.System.{IsSoundOver, faces, fuel_of}
use Rattle.gm_laws.specs.Laws.{IsDone}
use Rattle.gm_laws.proofs.EachKind.{passes_hold}
use Rattle.gm_system.proofs.Atomics.{atomic_served}
use Rattle.gm_system.proofs.Deliveries.{first_keeps}
use Rattle.gm_system.proofs.Fuels.{put_falls, weight-append, offer_falls, call_falls, line_falls, done_falls}
use Rattle.gm_system.proofs.Items.{active_below, active_there}
use Rattle.gm_system.proofs.Systems.{put}

module _ (y : MemoryView) (memory : MemoryLaws y) (ram : ℕ) where
  pass_falls : (s : Sys) (rest : List Item) (es : List Entry) (i port : ℕ) (x : Packet) (k total : ℕ) → IsSoundOver y ram s (Sent i (acts.Atomic (record { 0 = port }) x) ∷ rest) → k < length s.objects → IsDone s.routes ram (faces s k) x (pass_at s k x)
      → (let d : Delivery = done_at (deliver_passed (record { sys = s; items = rest; entries = es }) k x) i (pass_at s k x).packet total in fuel_of d.sys d.items < fuel_of s (Sent i (acts.Atomic (record { 0 = port }) x) ∷ rest))
  pass_falls s rest es i port x k total h here d =
      let r : Stepped = record { state = (pass_at s k x).state; next = s.next; changes = (pass_at s k x).changes; acts = (pass_at s k x).acts; entries = (pass_at s k x).entries; answer = answers.Nothing; moves = no_moves } in
      let may : MayWake (faces s k) (wakes.AtomicDone x 0) = record {
        told = λ p. omega arith;
        retry = λ p. omega arith;
        fired = λ n e. cc;
        there = λ p l. absurd (omega (arith, l));
        fresh = λ p l. absurd (omega (arith, l));
        fits = λ p y e. cc;
      } in
      let m : fuel_of (put s k r) (rest ++ sent_by k (pass_at s k x).acts) + 0 ≤ fuel_of s rest + 1 = put_falls s rest k (wakes.AtomicDone x 0) r 1 here (h.net.net.faces k) d.law (λ p. omega (arith, d.few p)) d.light refl may in
      omega (arith, m, weight-append (rest ++ sent_by k (pass_at s k x).acts) (Done i (pass_at s k x).packet total ∷ []))

  atomic_falls : (s : Sys) (rest : List Item) (es : List Entry) (i port : ℕ) (x : Packet) → IsSoundOver y ram s (Sent i (acts.Atomic (record { 0 = port }) x) ∷ rest)
      → (let d : Delivery = deliver_atomic passes_max (record { sys = s; items = rest; entries = es }) i (peer_in s.ways i port).part x 0 in fuel_of d.sys d.items < fuel_of s (Sent i (acts.Atomic (record { 0 = port }) x) ∷ rest))
  atomic_falls s rest es i port x h =
      let v = atomic_served passes_hold y memory ram s rest i port x h es in
      subst (λ (d : Delivery). fuel_of d.sys d.items < fuel_of s (Sent i (acts.Atomic (record { 0 = port }) x) ∷ rest)) (sym v.ends) (pass_falls s rest es i port x v.place v.took h v.there v.done)

  -- each item, of either mode
  pub handle_falls : (s : Sys) (rest : List Item) (es : List Entry) (it : Item) → IsSoundOver y ram s (it ∷ rest)
      → (let d : Delivery = handle (record { sys = s; items = rest; entries = es }) it in fuel_of d.sys d.items < fuel_of s (it ∷ rest))
  handle_falls s rest es (Sent i (acts.Offer p x)) h = offer_falls y memory ram s rest i p.0 x h
  handle_falls s rest es (Sent i (acts.CallRetry p)) h = call_falls y memory ram s rest i p.0 h
  handle_falls s rest es (Sent i (acts.SetLine b l)) h = by (active_cpu s.objects) refl (active_there s.objects h.program.cpu h.program.mind h.program.here) where
    by : (o : Option ℕ) → active_cpu s.objects ≡ o → is_some o ≡ true
        → (let d : Delivery = deliver_line (record { sys = s; items = rest; entries = es }) (wakes.Line b l) o in fuel_of d.sys d.items < fuel_of s (Sent i (acts.SetLine b l) ∷ rest))
    by None e f = cc
    by (Some k) e f = line_falls y memory ram s rest i b l k (omega (arith, active_below 0 k s.objects e)) h
  handle_falls s rest es (Sent i (acts.Atomic p x)) h = atomic_falls s rest es i p.0 x h
  handle_falls s rest es (Done i x l) h = done_falls y memory ram s rest i l x h

  one_left : (a : Act) → 1 ≤ weight_one a
  one_left (acts.Offer p x) = omega arith
  one_left (acts.CallRetry p) = omega arith
  one_left (acts.SetLine b l) = omega arith
  one_left (acts.Atomic p x) = omega arith

  none_left : (items : List Item) → weight_of items ≡ 0 → items ≡ []
  none_left [] e = refl
  none_left (Sent i a ∷ rest) e = absurd (omega (arith, e, one_left a))
  none_left (Done i x l ∷ rest) e = absurd (omega (arith, e))

  stands : (n : ℕ) (d : Delivery) → d.items ≡ [] → (deliver n d).items ≡ []
  unfolding deliver
  stands zero d e = e
  stands (suc n) d e = subst (λ xs. (deliver n (deliver_first d xs)).items ≡ []) (sym e) (stands n d e)

  first_falls : (d : Delivery) (it : Item) (rest : List Item) → d.items ≡ it ∷ rest → IsSoundOver y ram d.sys d.items → (let e : Delivery = deliver_first d d.items in fuel_of e.sys e.items < fuel_of d.sys d.items)
  first_falls d it rest e h =
      subst (λ xs. (let f : Delivery = deliver_first d xs in fuel_of f.sys f.items < fuel_of d.sys xs)) (sym e) (handle_falls d.sys rest d.entries it (subst (IsSoundOver y ram d.sys) e h))

  -- within its fuel a delivery comes to an end
  pub deliver_ends : (n : ℕ) (d : Delivery) → IsSoundOver y ram d.sys d.items → fuel_of d.sys d.items ≤ n → (deliver n d).items ≡ []
  unfolding deliver
  deliver_ends zero d h l = none_left d.items (omega (arith, l))
  deliver_ends (suc n) d h l = by d.items refl (λ less. deliver_ends n (deliver_first d d.items) (first_keeps y memory ram d d.items refl h).sound (omega (arith, less, l))) where
    by : (items : List Item) → d.items ≡ items → ((let e : Delivery = deliver_first d d.items in fuel_of e.sys e.items < fuel_of d.sys d.items) → (deliver n (deliver_first d d.items)).items ≡ [])
        → (deliver n (deliver_first d d.items)).items ≡ []
    by [] e more = subst (λ xs. (deliver n (deliver_first d xs)).items ≡ []) (sym e) (stands n d e)
    by (it ∷ rest) e more = more (first_falls d it rest e h)
