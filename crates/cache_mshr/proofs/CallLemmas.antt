-- What each call makes of the registers, as they are kept and as contracts see them.
use Rattle.std.proofs.Common.{◌≡◌, ℕ, ◌+◌, ◌≤◌, ◌<◌, refl, sym, ◌∙◌, ap, arith, subst, cond, true, false, List, [], ◌∷◌, ◌++◌, length, Option, Some, None, IsSome, is_some}
use Rattle.std.proofs.lemmas.List.{length-append}
use Rattle.std.proofs.lemmas.List.Sums.{sum_by-set}
use Rattle.slab.specs.Slab.{Slab, get, slab_len, with_value, Updates}
use Rattle.slab.proofs.SlabLemmas.{Updates-with_value, ContainsKey-within}
use Rattle.cache_mshr.specs.declared.entry.Entry.{Entry}
use Rattle.cache_mshr.specs.Registers.{Registers, key_of, is_open, targets_of, with_targets, is_full, opened, closed, AreSound}
use Rattle.cache_mshr.specs.Kept.{registers_of, without_key, shown, AreHeld, AreKept}
use Rattle.cache_mshr.proofs.RegistersLemmas.{register_free, place_free, opened_sound, changed_sound, closed_sound}
use Rattle.cache_mshr.proofs.KeptLemmas.{held_count, vacant, present, held_targets, come_in, come_in_held, changed, changed_held, gone, gone_held, less}

-- One is opened.

-- there is room for one more
pub room_free : (p : Slab Entry) (ks : List ℕ) (room count places : ℕ) → AreKept p ks room count places → is_full (shown p ks count places) ≡ false
    → (slab_len p + 1 ≤ p.capacity) × (length ks < room)
room_free p ks room count places k n =
    let few : length ks < count = omega (arith, register_free (shown p ks count places) k.sound n, held_count p ks k.held) in
    (omega (arith, few, k.all, k.slab_room), omega (arith, few, k.keys_room))

pub view_opened : (p s : Slab Entry) (ks : List ℕ) (count places j a first : ℕ) → AreHeld p ks
    → Updates p s j (Some (record { addr = a; targets = first ∷ [] }))
    → get p j ≡ None → shown s (ks ++ j ∷ []) count places ≡ opened j a first (shown p ks count places)
view_opened p s ks count places j a first h u n =
    ap (λ rs. record { used = rs; count = count; places = places }) (come_in p s ks j (record { addr = a; targets = first ∷ [] }) u n h)

pub kept_opened : (p s : Slab Entry) (ks : List ℕ) (room count places j a first : ℕ) → AreKept p ks room count places
    → is_full (shown p ks count places) ≡ false
    → key_of a (registers_of p ks) ≡ None → Updates p s j (Some (record { addr = a; targets = first ∷ [] })) → get p j ≡ None → slab_len s ≡ slab_len p + 1
    → s.capacity ≡ p.capacity → AreKept s (ks ++ j ∷ []) room count places
kept_opened p s ks room count places j a first k n l u v more same =
    record {
      held = come_in_held p s ks j (record { addr = a; targets = first ∷ [] }) u v k.held;
      all = omega (arith, more, k.all, length-append ks (j ∷ []));
      sound = subst (λ m. AreSound m) (sym (view_opened p s ks count places j a first k.held u v))
          (opened_sound (shown p ks count places) j a first k.sound k.some n l (vacant p ks j k.held v));
      slab_room = omega (arith, same, k.slab_room);
      keys_room = k.keys_room;
      some = k.some;
      most = k.most;
      fits = k.fits;
    }

-- One gets other targets.

-- what stands under the key of an open register
pub record There (p : Slab Entry) (ks : List ℕ) (j : ℕ) : Type 0 where
  pub entry : Entry
  pub at : get p j ≡ Some entry
  pub targets : targets_of j (registers_of p ks) ≡ entry.targets

pub there : (p : Slab Entry) (ks : List ℕ) (count places j : ℕ) (m : Registers) → AreHeld p ks → shown p ks count places ≡ m
    → is_open j m.used ≡ true → There p ks j
there p ks count places j m h v o = by (get p j) refl (present p ks j h used) where
  used : is_open j (registers_of p ks) ≡ true
  used = ap (λ (n : Registers). is_open j n.used) v ∙ o

  by : (e : Option Entry) → get p j ≡ e → IsSome e → There p ks j
  by None e i = absurd (cc)
  by (Some r) e i = record { entry = r; at = e; targets = held_targets p ks j r h used e }

pub targets_there : (p : Slab Entry) (ks : List ℕ) (j : ℕ) (t : There p ks j) (e : Entry) → Some e ≡ get p j → targets_of j (registers_of p ks) ≡ e.targets
targets_there p ks j t e h = let same : t.entry ≡ e = some (sym t.at ∙ sym h) in rw t.targets (ap (λ (x : Entry). x.targets) same) where
  some : {x y : Entry} → Some x ≡ Some y → x ≡ y
  some q = cc

-- it has room for one more target
pub few_targets : (p : Slab Entry) (ks : List ℕ) (room count places j : ℕ) (m : Registers) → AreKept p ks room count places
    → shown p ks count places ≡ m → is_full m ≡ false
    → (t : There p ks j) → length t.entry.targets < places
few_targets p ks room count places j m k v n t =
    omega (arith, place_free (shown p ks count places) j k.some k.sound (ap is_full v ∙ n), ap length t.targets)

same_length : (p : Slab Entry) (j : ℕ) (r t : Entry) → get p j ≡ Some r → slab_len (with_value p j t) ≡ slab_len p
same_length p j r t e =
    let bit : Option Entry → ℕ = λ o. cond (is_some o) 1 0 in
    omega (arith, sum_by-set bit p.slots j (Some t) None (ContainsKey-within p j (ap is_some e)), ap bit e)

pub view_changed : (p : Slab Entry) (ks : List ℕ) (room count places j : ℕ) (r : Entry) (ts : List ℕ) → AreKept p ks room count places → get p j ≡ Some r
    → shown (with_value p j (record r { targets = ts })) ks count places ≡ record (shown p ks count places) { used = with_targets j ts (registers_of p ks) }
view_changed p ks room count places j r ts k e =
    ap (λ rs. record { used = rs; count = count; places = places })
    (changed p _ ks j r ts (Updates-with_value p j (record r { targets = ts }) (ap is_some e)) e k.held k.sound.apart)

pub kept_changed : (p : Slab Entry) (ks : List ℕ) (room count places j : ℕ) (r : Entry) (ts : List ℕ) → AreKept p ks room count places
    → get p j ≡ Some r → length ts ≤ places
    → AreKept (with_value p j (record r { targets = ts })) ks room count places
kept_changed p ks room count places j r ts k e l =
    record {
      held = changed_held p _ ks j (record r { targets = ts }) (Updates-with_value p j (record r { targets = ts }) (ap is_some e)) k.held;
      all = same_length p j r (record r { targets = ts }) e ∙ k.all;
      sound = subst (λ m. AreSound m) (sym (view_changed p ks room count places j r ts k e)) (changed_sound (shown p ks count places) j ts k.sound l);
      slab_room = k.slab_room;
      keys_room = k.keys_room;
      some = k.some;
      most = k.most;
      fits = k.fits;
    }

-- One is closed.

pub view_closed : (p s : Slab Entry) (ks : List ℕ) (room count places j : ℕ) → AreKept p ks room count places → Updates p s j None
    → shown s (without_key j ks) count places ≡ closed j (shown p ks count places)
view_closed p s ks room count places j k u = ap (λ rs. record { used = rs; count = count; places = places }) (gone p s ks j u k.held k.sound.apart)

pub kept_closed : (p s : Slab Entry) (ks : List ℕ) (room count places j : ℕ) → AreKept p ks room count places → Updates p s j None
    → is_open j (registers_of p ks) ≡ true → slab_len s + 1 ≡ slab_len p → s.capacity ≡ p.capacity → AreKept s (without_key j ks) room count places
kept_closed p s ks room count places j k u o one same =
    record {
      held = gone_held p s ks j u k.held k.sound.apart;
      all = omega (arith, one, k.all, less p ks j k.held o);
      sound = subst (λ m. AreSound m) (sym (view_closed p s ks room count places j k u)) (closed_sound (shown p ks count places) j k.sound);
      slab_room = omega (arith, same, k.slab_room);
      keys_room = k.keys_room;
      some = k.some;
      most = k.most;
      fits = k.fits;
    }
