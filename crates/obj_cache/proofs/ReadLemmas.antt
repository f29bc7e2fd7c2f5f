-- The newest write-back among the packets that wait.
use Rattle.std.proofs.Common.{◌≡◌, ℕ, ◌+◌, ◌-◌, ◌≤◌, ◌==◌, if◌then◌else◌, zero, suc, refl, sym, ◌∙◌, ap, arith, subst, eq-eqb, ne_eqb, append_assoc, Bool, true, false, List, [], ◌∷◌, ◌++◌, length, take, drop, slice_get, Option, Some, None, is_some, All}
use Rattle.std.proofs.lemmas.List.{drop_more, drop_all, take-append-drop}
use Rattle.std.proofs.lemmas.Option.{get_or_from_slice_get, slice_get_within}
use Rattle.std.proofs.lemmas.List.Elements.{All-head, All-nil}
use Rattle.std.specs.Option.{option_map}
use Rattle.gm_cache.specs.State.{targets_in}
use Rattle.gm_cache.specs.Rule.{newest_bytes}
use Rattle.gm_model.specs.Memory.{covers}
use Rattle.gm_model.specs.Xbar.{first_there}
use Rattle.cache_mshr.specs.Registers as kept
use Rattle.pkt_pool.specs.declared.packet.Packet.{Packet}
use Rattle.pkt_pool.specs.Packet.{carried_bytes}
use Rattle.pkt_pool.specs.Pooled.{Pooled, packet_at}
use Rattle.gm_words.specs.Allowed.{MayPass}
use Rattle.cache_mshr.specs.Registers.{is_open, AreApart}
use Rattle.cache_mshr.proofs.RegistersLemmas.{or_true, not_both}
use Rattle.obj_cache.specs.RegistersKept.{packets_by, packets_of, registers_of, AreInLine}
use Rattle.obj_cache.proofs.RegistersLemmas.{packets_append}
use Rattle.obj_cache.proofs.CallLemmas.{all_rest}

-- In a list of packets.

there_assoc : (x y z : Option (List ℕ)) → first_there (first_there x y) z ≡ first_there x (first_there y z)
there_assoc None y z = refl
there_assoc (Some b) y z = refl

there_none : (x : Option (List ℕ)) → x ≡ first_there x None
there_none None = refl
there_none (Some b) = refl

newest_append : (xs ys : List Packet) (a c : ℕ) → newest_bytes (xs ++ ys) a c ≡ first_there (newest_bytes ys a c) (newest_bytes xs a c)
newest_append [] ys a c = there_none (newest_bytes ys a c)
newest_append (x ∷ xs) ys a c = rw (newest_append xs ys a c) (there_assoc (newest_bytes ys a c) (newest_bytes xs a c) _)

-- In one register.

-- its targets from one on
from_there : (ts : List ℕ) (n k : ℕ) → Some k ≡ slice_get ts n → drop n ts ≡ k ∷ drop (n + 1) ts
from_there ts n k e =
    drop_more ts n k (slice_get_within ts n k (sym e)) ∙ ap (λ j. j ∷ drop (n + 1) ts) (get_or_from_slice_get ts n k k (sym e))

-- who isn't there
pub newest_past : (p : Pooled) (ts : List ℕ) (n a c : ℕ) → None ≡ slice_get ts n → newest_bytes (packets_of p (drop n ts)) a c ≡ None
newest_past p ts n a c e = ap (λ ks. newest_bytes (packets_of p ks) a c) (drop_all n ts (past ts n e)) where
  past : (ts : List ℕ) (n : ℕ) → None ≡ slice_get ts n → length ts ≤ n
  past [] n e = omega arith
  past (t ∷ ts) zero e = absurd (cc)
  past (t ∷ ts) (suc n) e = omega (arith, past ts n e)

pub newest_gone : (p : Pooled) (ts : List ℕ) (n k a c : ℕ) → Some k ≡ slice_get ts n → None ≡ packet_at p k
    → newest_bytes (packets_of p (drop (n + 1) ts)) a c ≡ None → newest_bytes (packets_of p (drop n ts)) a c ≡ None
newest_gone p ts n k a c e v h = rw (from_there ts n k e) (rw (← v) h)

-- who doesn't cover it
pub newest_other : (p : Pooled) (ts : List ℕ) (n k a c : ℕ) (y : Packet) → Some k ≡ slice_get ts n → Some y ≡ packet_at p k → covers y a ≡ false
    → newest_bytes (packets_of p (drop (n + 1) ts)) a c ≡ None → newest_bytes (packets_of p (drop n ts)) a c ≡ None
newest_other p ts n k a c y e v o h = rw (from_there ts n k e) (rw (← v) (rw h (rw o refl)))

-- who does
pub newest_found : (p : Pooled) (ts : List ℕ) (n k a c : ℕ) (y : Packet) → Some k ≡ slice_get ts n → Some y ≡ packet_at p k → covers y a ≡ true
    → newest_bytes (packets_of p (drop (n + 1) ts)) a c ≡ None → newest_bytes (packets_of p ts) a c ≡ Some (take c (drop (a - y.addr) (carried_bytes y)))
newest_found p ts n k a c y e v o h =
    let b : List ℕ = take c (drop (a - y.addr) (carried_bytes y)) in
    let here : newest_bytes (packets_of p (drop n ts)) a c ≡ Some b = rw (from_there ts n k e) (rw (← v) (rw h (rw o refl))) in
    ap (λ ks. newest_bytes (packets_of p ks) a c) (sym (take-append-drop n ts))
    ∙ ap (λ xs. newest_bytes xs a c) (packets_append p (take n ts) (drop n ts))
    ∙ newest_append (packets_of p (take n ts)) (packets_of p (drop n ts)) a c
    ∙ ap (λ f. first_there f (newest_bytes (packets_of p (take n ts)) a c)) here

-- what holds of all its packets holds of each
pub all_at : (P : Packet → Type 0) (p : Pooled) (ts : List ℕ) (n k : ℕ) (y : Packet) → All P (packets_of p ts) → Some k ≡ slice_get ts n → Some y ≡ packet_at p k → P y
all_at P p [] n k y h e v = absurd (cc)
all_at P p (t ∷ ts) zero k y h e v = head (packet_at p t) (v ∙ ap (λ j. packet_at p j) same) h where
  same : k ≡ t
  same = cc

  head : (o : Option Packet) → Some y ≡ o → All P (packets_by o (packets_of p ts)) → P y
  head None f g = absurd (cc)
  head (Some z) f g = let q : z ≡ y = cc in subst (λ x. P x) q (All-head P z (packets_of p ts) g)
all_at P p (t ∷ ts) (suc n) k y h e v = all_at P p ts n k y (all_rest P (packet_at p t) (packets_of p ts) h) e v

-- In all registers.

in_append : (p : Pooled) (rs qs : List kept.Register) → targets_in (registers_of p (rs ++ qs)) ≡ targets_in (registers_of p rs) ++ targets_in (registers_of p qs)
in_append p [] qs = refl
in_append p (r ∷ rs) qs =
    ap (λ xs. packets_of p r.targets ++ xs) (in_append p rs qs) ∙ sym (append_assoc (packets_of p r.targets) (targets_in (registers_of p rs)) (targets_in (registers_of p qs)))

-- the newest of the registers from one on is the newest in that register, where the others have none
pub newest_from : (p : Pooled) (rs : List kept.Register) (r : kept.Register) (a c : ℕ) → newest_bytes (targets_in (registers_of p rs)) a c ≡ None
    → newest_bytes (targets_in (registers_of p (r ∷ rs))) a c ≡ newest_bytes (packets_of p r.targets) a c
newest_from p rs r a c h =
    newest_append (packets_of p r.targets) (targets_in (registers_of p rs)) a c ∙ ap (λ f. first_there f (newest_bytes (packets_of p r.targets) a c)) h

-- and those before it have none that is newer
there_first : (x y : Option (List ℕ)) → true ≡ is_some x → first_there x y ≡ x
there_first None y e = absurd (cc)
there_first (Some b) y e = refl

pub newest_all : (p : Pooled) (rs : List kept.Register) (n a c : ℕ) → true ≡ is_some (newest_bytes (targets_in (registers_of p (drop n rs))) a c)
    → newest_bytes (targets_in (registers_of p rs)) a c ≡ newest_bytes (targets_in (registers_of p (drop n rs))) a c
newest_all p rs n a c e =
    ap (λ qs. newest_bytes (targets_in (registers_of p qs)) a c) (sym (take-append-drop n rs))
    ∙ ap (λ xs. newest_bytes xs a c) (in_append p (take n rs) (drop n rs))
    ∙ newest_append (targets_in (registers_of p (take n rs))) (targets_in (registers_of p (drop n rs))) a c
    ∙ there_first _ _ e

-- The register of a key, by its position.

record At (rs : List kept.Register) (n g : ℕ) : Type 0 where
  pub register : kept.Register
  pub there : slice_get rs n ≡ Some register
  pub key : register.key ≡ g

at_position : (rs : List kept.Register) (n g : ℕ) → Some g ≡ option_map (λ (r : kept.Register). r.key) (slice_get rs n) → At rs n g
at_position rs n g e = by (slice_get rs n) refl e where
  by : (o : Option kept.Register) → slice_get rs n ≡ o → Some g ≡ option_map (λ (r : kept.Register). r.key) o → At rs n g
  by None f h = absurd (cc)
  by (Some r) f h = record { register = r; there = f; key = same h } where
    same : {x y : ℕ} → Some x ≡ Some y → y ≡ x
    same q = cc

open_there : (rs : List kept.Register) (n : ℕ) (r : kept.Register) → slice_get rs n ≡ Some r → is_open r.key rs ≡ true
open_there [] n r e = absurd (cc)
open_there (x ∷ xs) zero r e = let same : x ≡ r = cc in rw (eq-eqb x.key r.key (ap (λ (q : kept.Register). q.key) same)) refl
open_there (x ∷ xs) (suc n) r e = rw (open_there xs n r e) (or_true (x.key == r.key))

targets_there : (rs : List kept.Register) (n : ℕ) (r : kept.Register) → AreApart rs → slice_get rs n ≡ Some r → kept.targets_of r.key rs ≡ r.targets
targets_there [] n r h e = absurd (cc)
targets_there (x ∷ xs) zero r h e =
    let same : x ≡ r = cc in rw (eq-eqb x.key r.key (ap (λ (q : kept.Register). q.key) same)) (ap (λ (q : kept.Register). q.targets) same)
targets_there (x ∷ xs) (suc n) r h e =
    rw (ne_eqb x.key r.key (λ s. not_both (sym (open_there xs n r e) ∙ ap (λ k. is_open k xs) (sym s) ∙ h.1))) (targets_there xs n r h.2 e)

pub newest_here : (p : Pooled) (rs : List kept.Register) (n g a c : ℕ) → AreApart rs → Some g ≡ option_map (λ (r : kept.Register). r.key) (slice_get rs n)
    → newest_bytes (targets_in (registers_of p (drop (n + 1) rs))) a c ≡ None
    → newest_bytes (targets_in (registers_of p (drop n rs))) a c ≡ newest_bytes (packets_of p (kept.targets_of g rs)) a c
newest_here p rs n g a c h e f =
    let t : At rs n g = at_position rs n g e in
    let r : kept.Register = t.register in
    ap (λ qs. newest_bytes (targets_in (registers_of p qs)) a c)
    (drop_more rs n r (slice_get_within rs n r t.there) ∙ ap (λ q. q ∷ drop (n + 1) rs) (get_or_from_slice_get rs n r r t.there))
    ∙ newest_from p (drop (n + 1) rs) r a c f
    ∙ ap (λ ts. newest_bytes (packets_of p ts) a c) (sym (targets_there rs n r h t.there) ∙ ap (λ k. kept.targets_of k rs) t.key)

pub newest_of : (p : Pooled) (rs : List kept.Register) (n g a c : ℕ) → AreApart rs → Some g ≡ option_map (λ (r : kept.Register). r.key) (slice_get rs n)
    → newest_bytes (targets_in (registers_of p (drop (n + 1) rs))) a c ≡ None → true ≡ is_some (newest_bytes (packets_of p (kept.targets_of g rs)) a c)
    → newest_bytes (targets_in (registers_of p rs)) a c ≡ newest_bytes (packets_of p (kept.targets_of g rs)) a c
newest_of p rs n g a c h e f t =
    let here : newest_bytes (targets_in (registers_of p (drop n rs))) a c ≡ newest_bytes (packets_of p (kept.targets_of g rs)) a c = newest_here p rs n g a c h e f in
    newest_all p rs n a c (t ∙ ap is_some (sym here)) ∙ here

-- a position where none is
pub newest_no : (p : Pooled) (rs : List kept.Register) (n a c : ℕ) → None ≡ option_map (λ (r : kept.Register). r.key) (slice_get rs n)
    → newest_bytes (targets_in (registers_of p (drop n rs))) a c ≡ None
newest_no p rs n a c e = ap (λ qs. newest_bytes (targets_in (registers_of p qs)) a c) (drop_all n rs (past rs n e)) where
  past : (rs : List kept.Register) (n : ℕ) → None ≡ option_map (λ (r : kept.Register). r.key) (slice_get rs n) → length rs ≤ n
  past [] n e = omega arith
  past (r ∷ rs) zero e = absurd (cc)
  past (r ∷ rs) (suc n) e = omega (arith, past rs n e)

pub none_of : (o : Option (List ℕ)) → false ≡ is_some o → o ≡ None
none_of None e = refl
none_of (Some b) e = absurd (cc)

-- each target has bytes for its whole size
pub fits_at : (line : ℕ) (p : Pooled) (g : ℕ) (rs : List kept.Register) → AreInLine line p rs → All MayPass (packets_of p (kept.targets_of g rs))
fits_at line p g [] h = All-nil MayPass
fits_at line p g (r ∷ rs) h = by (r.key == g) (fits_at line p g rs h.1) where
  by : (b : Bool) → All MayPass (packets_of p (kept.targets_of g rs)) → All MayPass (packets_of p (if b then r.targets else kept.targets_of g rs))
  by true f = λ k d l. (h.0 k d l).size
  by false f = f
