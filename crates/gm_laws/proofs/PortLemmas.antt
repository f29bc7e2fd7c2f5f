-- The ports of a crossbar: each port's layer has a slot of its own, with its class, and an address goes out at one of the ports.
use Rattle.std.proofs.Common.{◌≡◌, ℕ, zero, suc, ◌+◌, ◌-◌, ◌<◌, ◌≤◌, ◌==◌, if◌then◌else◌, cond, ◌&&◌, ◌||◌, not, nat_lt, nat_le, Bool, true, false, List, [], ◌∷◌, replicate, refl, sym, ◌∙◌, ap, subst, arith, Option, Some, None, ◌⊎◌, inl, inr, length, length-append, slice_get, ltb-true, ltb-false, lt-ltb, le-ltb, eq-eqb}
use Rattle.std.proofs.Math.ListN.{get_or-append}
use Rattle.std.proofs.lemmas.Bool.{cases_lt, and_parts, and_from, le-leb}
use Rattle.std.proofs.lemmas.List.{get_or_past, get_or-append_right, get_or-replicate, length-replicate}
use Rattle.std.proofs.lemmas.Option.{slice_get_read}
use Rattle.gm_words.specs.PortUses.{last_address, takes, takes_all, is_total, is_source, is_destination, fore, behind, sides, xbar_classes, request_class, response_class, slot_of_port, class_of_port, port_of_slot, side_slot, is_side_slot, use_at, port_from, source_from, or_first, source_port}
use Rattle.gm_words.specs.declared.port_use.PortUse.{PortUse}
use Rattle.gm_words.specs.declared.port_use.PortUse.TheVariants as uses
use Rattle.gm_laws.proofs.Bytes.{same_is}

pub not_both : (b : Bool) → b ≡ false → b ≡ true → ⊥
not_both true e f = cc
not_both false e f = cc

-- slots

pub fore_le : (us : List PortUse) → fore us ≤ length us
unfolding fore
fore_le [] = omega arith
fore_le (u ∷ us) = by (is_destination u) (fore_le us) where
  by : (b : Bool) → fore us ≤ length us → (if b then 0 else suc (fore us)) ≤ length (u ∷ us)
  by true h = omega arith
  by false h = omega (arith, h)

pub slot_below : (us : List PortUse) (p : ℕ) → p < length us → slot_of_port us p < length us + sides us
slot_below us p h = by (nat_lt p (fore us)) refl where
  by : (b : Bool) → nat_lt p (fore us) ≡ b → (if b then behind us + sides us + p else p - fore us) < length us + sides us
  by true e = omega (arith, ltb-true p (fore us) e, fore_le us)
  by false e = omega (arith, ltb-false p (fore us) e, h)

-- behind the slots of layers for requests there is that of no port, if any
past_side : (us : List PortUse) (n : ℕ) → is_side_slot us n ≡ false → behind us ≤ n → behind us + sides us ≤ n
past_side us n e h = by (is_total us) e where
  by : (t : Bool) → (not t && (n == behind us)) ≡ false → behind us + (if t then 0 else 1) ≤ n
  by true f = omega (arith, h)
  by false f = apart (cases_lt (behind us) n) where
    apart : (behind us < n) ⊎ (n ≤ behind us) → behind us + 1 ≤ n
    apart (inl k) = omega (arith, k)
    apart (inr k) = absurd (not_both (n == behind us) f (eq-eqb n (behind us) (omega (arith, h, k))))

-- the layer of no port has its slot where not all addresses have a port
pub side_is : (us : List PortUse) (n : ℕ) → is_side_slot us n ≡ true → (is_total us ≡ false) × (n ≡ side_slot us)
side_is us n e = (
  by (is_total us) (and_parts (not (is_total us)) (n == behind us) e).0,
  same_is n (behind us) (and_parts (not (is_total us)) (n == behind us) e).1,
) where
  by : (t : Bool) → not t ≡ true → t ≡ false
  by true f = cc
  by false f = refl

pub side_there : (us : List PortUse) → is_total us ≡ false → is_side_slot us (side_slot us) ≡ true
side_there us e = and_from (not (is_total us)) (behind us == behind us) (ap not e) (eq-eqb (behind us) (behind us) refl)

-- a port's layer hasn't that slot
pub port_not_side : (us : List PortUse) (p : ℕ) → p < length us → is_side_slot us (slot_of_port us p) ≡ false
port_not_side us p h = by (is_total us) (nat_lt p (fore us)) refl where
  apart : (n : ℕ) → (n ≡ behind us → ⊥) → (n == behind us) ≡ false
  apart n k = none (n == behind us) refl where
    none : (b : Bool) → (n == behind us) ≡ b → b ≡ false
    none true e = absurd (k (same_is n (behind us) e))
    none false e = refl

  by : (t b : Bool) → nat_lt p (fore us) ≡ b → (not t && ((if b then behind us + (if t then 0 else 1) + p else p - fore us) == behind us)) ≡ false
  by true b e = refl
  by false true e = apart (behind us + 1 + p) (λ k. omega (arith, k))
  by false false e = apart (p - fore us) (λ k. omega (arith, k, h, ltb-false p (fore us) e))

-- the slot of a port leads back to the port, and the port of a slot to the slot
pub port_back : (us : List PortUse) (p : ℕ) → p < length us → port_of_slot us (slot_of_port us p) ≡ p
port_back us p h = by (nat_lt p (fore us)) refl where
  by : (b : Bool) → nat_lt p (fore us) ≡ b → port_of_slot us (if b then behind us + sides us + p else p - fore us) ≡ p
  by true e =
      let past : nat_lt (behind us + sides us + p) (behind us) ≡ false = le-ltb (behind us + sides us + p) (behind us) (omega arith) in
      ap (λ b. if b then fore us + (behind us + sides us + p) else (behind us + sides us + p) - (behind us + sides us)) past ∙ omega arith
  by false e =
      let below : nat_lt (p - fore us) (behind us) ≡ true = lt-ltb (p - fore us) (behind us) (omega (arith, h, ltb-false p (fore us) e)) in
      ap (λ b. if b then fore us + (p - fore us) else (p - fore us) - (behind us + sides us)) below ∙ omega (arith, ltb-false p (fore us) e)

pub slot_back : (us : List PortUse) (n : ℕ) → n < length us + sides us → is_side_slot us n ≡ false → slot_of_port us (port_of_slot us n) ≡ n
slot_back us n h apart = by (nat_lt n (behind us)) refl where
  by : (b : Bool) → nat_lt n (behind us) ≡ b → slot_of_port us (if b then fore us + n else n - (behind us + sides us)) ≡ n
  by true e =
      let past : nat_lt (fore us + n) (fore us) ≡ false = le-ltb (fore us + n) (fore us) (omega arith) in
      ap (λ b. if b then behind us + sides us + (fore us + n) else (fore us + n) - fore us) past ∙ omega arith
  by false e =
      let beyond : behind us + sides us ≤ n = past_side us n apart (ltb-false n (behind us) e) in
      let below : nat_lt (n - (behind us + sides us)) (fore us) ≡ true = lt-ltb (n - (behind us + sides us)) (fore us) (omega (arith, h, beyond, fore_le us)) in
      ap (λ b. if b then behind us + sides us + (n - (behind us + sides us)) else (n - (behind us + sides us)) - fore us) below ∙ omega (arith, beyond)

pub port_of_slot_below : (us : List PortUse) (n : ℕ) → n < length us + sides us → is_side_slot us n ≡ false → port_of_slot us n < length us
port_of_slot_below us n h apart = by (nat_lt n (behind us)) refl where
  by : (b : Bool) → nat_lt n (behind us) ≡ b → (if b then fore us + n else n - (behind us + sides us)) < length us
  by true e = omega (arith, ltb-true n (behind us) e)
  by false e = omega (arith, h, past_side us n apart (ltb-false n (behind us) e), fore_le us, some (length us) (fore us)) where
    some : (a b : ℕ) → a - b ≤ a
    some a b = omega arith

-- classes

pub length-xbar_classes : (us : List PortUse) → length (xbar_classes us) ≡ length us + sides us
length-xbar_classes us =
    length-append (replicate (behind us + sides us) request_class) (replicate (fore us) response_class)
    ∙ omega (arith, length-replicate (behind us + sides us) request_class, length-replicate (fore us) response_class, fore_le us)

request_at : (us : List PortUse) (n : ℕ) → n < behind us + sides us → slice_get (xbar_classes us) n ≡ Some request_class
request_at us n h =
    slice_get_read (xbar_classes us) (length us + sides us) n request_class (sym (length-xbar_classes us)) (omega (arith, h, fore_le us))
    (sym (get_or-append (replicate (behind us + sides us) request_class) (replicate (fore us) response_class) request_class n
    (omega (arith, h, length-replicate (behind us + sides us) request_class))
    ∙ get_or-replicate (behind us + sides us) n request_class request_class h))

response_at : (us : List PortUse) (p : ℕ) → p < fore us → slice_get (xbar_classes us) (behind us + sides us + p) ≡ Some response_class
response_at us p h =
    let at : behind us + sides us + p - length (replicate (behind us + sides us) request_class) ≡ p = omega (
      arith,
      length-replicate (behind us + sides us) request_class,
    ) in
    slice_get_read (xbar_classes us) (length us + sides us) (behind us + sides us + p) response_class (sym (length-xbar_classes us))
    (omega (arith, h, fore_le us))
    (sym (get_or-append_right (replicate (behind us + sides us) request_class) (replicate (fore us) response_class) (behind us + sides us)
    (behind us + sides us + p) response_class (length-replicate (behind us + sides us) request_class) (omega arith)
    ∙ get_or-replicate (fore us) (behind us + sides us + p - (behind us + sides us)) response_class response_class (omega (arith, h))))

-- the slot of a port has the port's class
pub slot_class : (us : List PortUse) (p : ℕ) → p < length us → slice_get (xbar_classes us) (slot_of_port us p) ≡ Some (class_of_port us p)
slot_class us p h = by (nat_lt p (fore us)) refl where
  by : (b : Bool) → nat_lt p (fore us) ≡ b
      → slice_get (xbar_classes us) (if b then behind us + sides us + p else p - fore us) ≡ Some (if b then response_class else request_class)
  by true e = response_at us p (ltb-true p (fore us) e)
  by false e = request_at us (p - fore us) (omega (arith, h, ltb-false p (fore us) e))

pub side_class : (us : List PortUse) → is_total us ≡ false → slice_get (xbar_classes us) (side_slot us) ≡ Some request_class
side_class us e = request_at us (behind us) (let one : sides us ≡ 1 = ap (λ t. if t then 0 else 1) e in omega (arith, one))

-- addresses

-- the port of an address is one at which it goes out
pub port_in : (k : ℕ) (us : List PortUse) (a p : ℕ) → port_from k us a ≡ Some p → (d : ℕ) × (p ≡ k + d) × (d < length us) × (takes (use_at us d) a ≡ true)
unfolding port_from
port_in k [] a p e = absurd (let z : ◌≡◌ {A = Option ℕ} None (Some p) = e in cc)
port_in k (u ∷ us) a p e = by (takes u a) refl (port_in (suc k) us a p) where
  by : (b : Bool) → takes u a ≡ b → (port_from (suc k) us a ≡ Some p → (d : ℕ) × (p ≡ suc k + d) × (d < length us) × (takes (use_at us d) a ≡ true))
      → (d : ℕ) × (p ≡ k + d) × (d < length (u ∷ us)) × (takes (use_at (u ∷ us) d) a ≡ true)
  by true f more =
      let s : ◌≡◌ {A = Option ℕ} (Some k) (Some p) = subst (λ b. cond b (Some k) (port_from (suc k) us a) ≡ Some p) f e in
      let n : k ≡ p = cc s in (0, omega (arith, n), omega arith, f)
  by false f more =
      let m = more (subst (λ b. cond b (Some k) (port_from (suc k) us a) ≡ Some p) f e) in
      (suc m.0, omega (arith, m.1), omega (arith, m.2), m.3)

pub port_below : (us : List PortUse) (a p : ℕ) → port_from 0 us a ≡ Some p → (p < length us) × (takes (use_at us p) a ≡ true)
port_below us a p e =
    let d = port_in 0 us a p e in
    let same : d.0 ≡ p = omega (arith, d.1) in
    (omega (arith, same, d.2), subst (λ n. takes (use_at us n) a ≡ true) same d.3)

-- a port for all addresses takes each
takes_each : (u : PortUse) (a : ℕ) → takes_all u ≡ true → takes u a ≡ true
takes_each uses.Source a e = cc
takes_each uses.Unused a e = cc
takes_each (uses.Destination first last) a e =
    let parts = and_parts (first == 0) (last == last_address) e in
    and_from (nat_le first a) (nat_le a last || (last == last_address)) (least first (same_is first 0 parts.0))
    (or_right (nat_le a last) (last == last_address) parts.1) where
      least : (n : ℕ) → n ≡ 0 → nat_le n a ≡ true
      least n z = le-leb n a (omega (arith, z))

      or_right : (b c : Bool) → c ≡ true → (b || c) ≡ true
      or_right true c f = refl
      or_right false c f = f

-- so no address is left without a port
pub total_takes : (k : ℕ) (us : List PortUse) (a : ℕ) → is_total us ≡ true → port_from k us a ≡ None → ⊥
unfolding is_total port_from
total_takes k [] a t e = cc
total_takes k (u ∷ us) a t e = by (takes u a) (takes_all u) refl refl (total_takes (suc k) us a) where
  by : (b c : Bool) → takes u a ≡ b → takes_all u ≡ c → (is_total us ≡ true → port_from (suc k) us a ≡ None → ⊥) → ⊥
  by true c f g more = absurd (let z : ◌≡◌ {A = Option ℕ} (Some k) None = subst (λ b. cond b (Some k) (port_from (suc k) us a) ≡ None) f e in cc)
  by false true f g more = not_both (takes u a) f (takes_each u a g)
  by false false f g more = more (subst (λ b. (b || is_total us) ≡ true) g t) (subst (λ b. cond b (Some k) (port_from (suc k) us a) ≡ None) f e)

pub total_some : (us : List PortUse) → is_total us ≡ true → 0 < length us
unfolding is_total
total_some [] t = cc
total_some (u ∷ us) t = omega arith

-- sources

-- a port with a use is one of the ports
pub source_there : (us : List PortUse) (p : ℕ) → is_source (use_at us p) ≡ true → p < length us
source_there us p e = by (cases_lt p (length us)) where
  by : (p < length us) ⊎ (length us ≤ p) → p < length us
  by (inl h) = h
  by (inr h) = absurd (let z : false ≡ true = sym (ap is_source (get_or_past us p uses.Unused h)) ∙ e in cc)

source_in : (k : ℕ) (us : List PortUse) (p : ℕ) → source_from k us ≡ Some p → (d : ℕ) × (p ≡ k + d) × (d < length us)
unfolding source_from
source_in k [] p e = absurd (let z : ◌≡◌ {A = Option ℕ} None (Some p) = e in cc)
source_in k (u ∷ us) p e = by (is_source u) refl (source_in (suc k) us p) where
  by : (b : Bool) → is_source u ≡ b → (source_from (suc k) us ≡ Some p → (d : ℕ) × (p ≡ suc k + d) × (d < length us))
      → (d : ℕ) × (p ≡ k + d) × (d < length (u ∷ us))
  by true f more =
      let s : ◌≡◌ {A = Option ℕ} (Some k) (Some p) = subst (λ b. cond b (Some k) (source_from (suc k) us) ≡ Some p) f e in
      let n : k ≡ p = cc s in (0, omega (arith, n), omega arith)
  by false f more =
      let m = more (subst (λ b. cond b (Some k) (source_from (suc k) us) ≡ Some p) f e) in
      (suc m.0, omega (arith, m.1), omega (arith, m.2))

-- a response goes to one of the ports, if there are any
pub source_below : (us : List PortUse) (p : ℕ) → 0 < length us → source_port us p < length us
source_below us p some = by (is_source (use_at us p)) refl where
  first : (o : Option ℕ) → source_from 0 us ≡ o → or_first o < length us
  first None e = some
  first (Some q) e = let d = source_in 0 us q e in omega (arith, d.1, d.2)

  by : (b : Bool) → is_source (use_at us p) ≡ b → (if b then p else or_first (source_from 0 us)) < length us
  by true e = source_there us p e
  by false e = first (source_from 0 us) refl

-- whatever ports there are, the slot at which a response is scheduled has its class
pub source_class : (us : List PortUse) (p : ℕ) → slice_get (xbar_classes us) (slot_of_port us (source_port us p)) ≡ Some (class_of_port us (source_port us p))
unfolding fore is_total source_from
source_class us p = by us where
  by : (vs : List PortUse) → slice_get (xbar_classes vs) (slot_of_port vs (source_port vs p)) ≡ Some (class_of_port vs (source_port vs p))
  by [] = none p where
    none : (q : ℕ) → slice_get (xbar_classes []) (slot_of_port [] (source_port [] q)) ≡ Some (class_of_port [] (source_port [] q))
    none zero = refl
    none (suc q) = refl
  by (v ∷ vs) = slot_class (v ∷ vs) (source_port (v ∷ vs) p) (source_below (v ∷ vs) p (omega arith))
