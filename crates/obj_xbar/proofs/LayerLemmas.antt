-- Which layers packets go to.
use Rattle.std.proofs.Common.{◌≡◌, ℕ, suc, zero, ◌+◌, ◌≤◌, ◌<◌, ◌==◌, ◌&&◌, ◌||◌, refl, sym, ◌∙◌, arith, eqb-true, Bool, true, false, if◌then◌else◌, List, [], ◌∷◌, length, nat_le, Option, Some, None, IfSome}
use Rattle.std.proofs.lemmas.Bool.{lt-ltb, le-leb}
use Rattle.gm_words.specs.PortUses.{is_source, takes, takes_all, use_at, is_total, port_from, source_from, or_first, source_port, last_address}
use Rattle.pkt_pool.specs.declared.packet.Packet.{Packet}
use Rattle.gm_words.specs.declared.port_use.PortUse.{PortUse}
use Rattle.gm_words.specs.declared.port_use.PortUse.TheVariants as uses
use Rattle.pkt_pool.specs.Packet.{top_port}
use Rattle.gm_model.specs.Xbar.{layer_for, port_or_side}

-- where requests come in there is a port
source_there : (us : List PortUse) (p : ℕ) → is_source (use_at us p) ≡ true → p < length us
source_there [] p h = absurd (cc)
source_there (u ∷ us) zero h = omega arith
source_there (u ∷ us) (suc p) h = omega (arith, source_there us p h)

-- the first one, if there is one, is among them
first_there : (k : ℕ) (us : List PortUse) → IfSome (source_from k us) (λ q. q < k + length us)
unfolding source_from
first_there k [] = tt
first_there k (u ∷ us) = by (is_source u) (first_there (suc k) us) where
  more : (o : Option ℕ) → IfSome o (λ q. q < suc k + length us) → IfSome o (λ q. q < k + suc (length us))
  more None h = tt
  more (Some q) h = omega (arith, h)

  by : (b : Bool) → IfSome (source_from (suc k) us) (λ q. q < suc k + length us)
      → IfSome (if b then Some k else source_from (suc k) us) (λ q. q < k + suc (length us))
  by true h = omega arith
  by false h = more (source_from (suc k) us) h

-- a response goes to a port
pub source_below : (us : List PortUse) (p : ℕ) → 0 < length us → source_port us p < length us
source_below us p l = by (is_source (use_at us p)) (source_there us p) where
  first : (o : Option ℕ) → IfSome o (λ q. q < 0 + length us) → or_first o < length us
  first None h = l
  first (Some q) h = omega (arith, h)

  by : (b : Bool) → (b ≡ true → p < length us) → (if b then p else or_first (source_from 0 us)) < length us
  by true h = h refl
  by false h = first (source_from 0 us) (first_there 0 us)

-- a port for all addresses takes each
all_taken : (u : PortUse) (a : ℕ) → takes_all u ≡ true → takes u a ≡ true
all_taken uses.Source a h = absurd (cc)
all_taken (uses.Destination first last) a h = by (cases first last h) where
  cases : (f l : ℕ) → ((f == 0) && (l == last_address)) ≡ true → (f ≡ 0) × (l ≡ last_address)
  cases f l e = both (f == 0) (l == last_address) e (eqb-true f 0) (eqb-true l last_address) where
    both : (x y : Bool) → (x && y) ≡ true → (x ≡ true → f ≡ 0) → (y ≡ true → l ≡ last_address) → (f ≡ 0) × (l ≡ last_address)
    both true true g i j = (i refl, j refl)
    both true false g i j = absurd (cc)
    both false y g i j = absurd (cc)

  ends : (b : Bool) → (b || true) ≡ true
  ends true = refl
  ends false = refl

  by : (first ≡ 0) × (last ≡ last_address) → (nat_le first a && (nat_le a last || (last == last_address))) ≡ true
  by e = rw e.0 (rw e.1 (rw (le-leb 0 a (omega arith)) (ends (nat_le a last_address))))
all_taken uses.Unused a h = absurd (cc)

-- where no address is left without a port, each goes to one
some_port : (k : ℕ) (us : List PortUse) (a : ℕ) → is_total us ≡ true → port_from k us a ≡ None → ⊥
unfolding is_total port_from
some_port k [] a h e = absurd (cc)
some_port k (u ∷ us) a h e = by (takes_all u) (takes u a) (all_taken u a) h e (some_port (suc k) us a) where
  by : (b c : Bool) → (b ≡ true → c ≡ true) → (b || is_total us) ≡ true → (if c then Some k else port_from (suc k) us a) ≡ None
      → (is_total us ≡ true → port_from (suc k) us a ≡ None → ⊥) → ⊥
  by b true i j n r = absurd (cc)
  by true false i j n r = absurd (false≢true (i refl)) where
    false≢true : false ≡ true → ⊥
    false≢true q = cc
  by false false i j n r = r j n

-- the port of an address is among them
port_there : (k : ℕ) (us : List PortUse) (a : ℕ) → IfSome (port_from k us a) (λ q. q < k + length us)
unfolding port_from
port_there k [] a = tt
port_there k (u ∷ us) a = by (takes u a) (port_there (suc k) us a) where
  more : (o : Option ℕ) → IfSome o (λ q. q < suc k + length us) → IfSome o (λ q. q < k + suc (length us))
  more None h = tt
  more (Some q) h = omega (arith, h)

  by : (b : Bool) → IfSome (port_from (suc k) us a) (λ q. q < suc k + length us)
      → IfSome (if b then Some k else port_from (suc k) us a) (λ q. q < k + suc (length us))
  by true h = omega arith
  by false h = more (port_from (suc k) us a) h

-- a packet whose layer is that of no port goes to an address of no port
pub beside_not_total : (us : List PortUse) (x : Packet) (b : Bool) → 0 < length us → layer_for us x b ≡ length us → is_total us ≡ false
unfolding layer_for
beside_not_total us x true l e = absurd (omega (arith, e, source_below us (top_port x) l))
beside_not_total us x false l e = by (is_total us) refl where
  at : is_total us ≡ true → (o : Option ℕ) → port_from 0 us x.addr ≡ o → IfSome o (λ q. q < 0 + length us) → port_or_side (length us) o ≡ length us → ⊥
  at t None n w f = some_port 0 us x.addr t n
  at t (Some q) n w f =
      let same : q ≡ length us = sym (rw (lt-ltb q (length us) (omega (arith, w))) refl) ∙ f in
      omega (arith, w, same)

  by : (b : Bool) → is_total us ≡ b → b ≡ false
  by false t = refl
  by true t = absurd (at t (port_from 0 us x.addr) refl (port_there 0 us x.addr) e)

-- and no packet has a layer behind that
pub layer_within : (us : List PortUse) (x : Packet) (b : Bool) → 0 < length us → layer_for us x b ≤ length us
unfolding layer_for
layer_within us x true l = omega (arith, source_below us (top_port x) l)
layer_within us x false l = by (port_from 0 us x.addr) (port_there 0 us x.addr) where
  by : (o : Option ℕ) → IfSome o (λ q. q < 0 + length us) → port_or_side (length us) o ≤ length us
  by None w = omega arith
  by (Some q) w = rw (lt-ltb q (length us) (omega (arith, w))) (omega (arith, w))
