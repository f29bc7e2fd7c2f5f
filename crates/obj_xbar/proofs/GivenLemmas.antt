-- The handles that a bench gets for its crossbar, and that its queue gave them.
use Rattle.std.proofs.Common.{◌≡◌, ℕ, suc, zero, ◌+◌, ◌&&◌, refl, sym, ◌∙◌, ap, arith, subst, eq-eqb, Bool, true, false, IsTrue, List, [], ◌∷◌, ◌++◌, replicate}
use Rattle.ev_queue.specs.Handle.{Handle}
use Rattle.ev_queue.specs.SlotTable.{gave}
use Rattle.ev_queue.specs.declared.slot.Slot.{Slot}
use Rattle.gm_words.specs.PortUses.{fore, behind, sides, xbar_classes}
use Rattle.gm_words.specs.Slots.{gave_from}
use Rattle.gm_words.specs.declared.port_use.PortUse.{PortUse}
use Rattle.obj_core.specs.Handles.{handles_from}
use Rattle.obj_xbar.specs.Stays.{Stay}
use Rattle.obj_xbar.proofs.HandleLemmas.{run, only_responses, behind_requests, before_responses}

-- Slots of one class.

-- the handle of one slot more
last_handle : (c s n : ℕ) → handles_from 0 c s (replicate n c) ++ record { owner = 0; slot = s + n } ∷ [] ≡ handles_from 0 c s (replicate (suc n) c)
last_handle c s zero = rw (eq-eqb c c refl) (ap (λ k. record { owner = 0; slot = k } ∷ []) (omega arith))
last_handle c s (suc n) =
    rw (eq-eqb c c refl)
    (ap (λ (hs : List Handle). record { owner = 0; slot = s } ∷ hs)
    (ap (λ k. handles_from 0 c (s + 1) (replicate n c) ++ record { owner = 0; slot = k } ∷ []) (omega arith) ∙ last_handle c (s + 1) n
    ∙ rw (eq-eqb c c refl) refl))

pub one_handle_more : (c s n m at : ℕ) (hs : List Handle) (h : Handle) → hs ≡ handles_from 0 c s (replicate n c)
    → h ≡ record { owner = 0; slot = at } → at ≡ s + n → m ≡ suc n
    → hs ++ h ∷ [] ≡ handles_from 0 c s (replicate m c)
one_handle_more c s n m at hs h e f a l = rw e (rw f (rw a (rw l (last_handle c s n))))

both : (a b : Bool) → (a && b) ≡ true → (a ≡ true) × (b ≡ true)
both true b h = (refl, h)
both false b h = absurd (cc)

all : (a b : Bool) → a ≡ true → b ≡ true → (a && b) ≡ true
all a b h k = rw h k

-- what was given stays given
given_still : (old new : List Slot) (s : ℕ) (cs : List ℕ) → Stay old new → IsTrue (gave_from old 0 s cs) → IsTrue (gave_from new 0 s cs)
given_still old new s [] t h = h
given_still old new s (c ∷ cs) t h =
    let p = both (gave old 0 s c) (gave_from old 0 (s + 1) cs) h in
    all (gave new 0 s c) (gave_from new 0 (s + 1) cs) (t 0 s c p.0) (given_still old new (s + 1) cs t p.1)

last_given : (t : List Slot) (c s n : ℕ) → IsTrue (gave_from t 0 s (replicate n c)) → IsTrue (gave t 0 (s + n) c)
    → IsTrue (gave_from t 0 s (replicate (suc n) c))
last_given t c s zero h g = all (gave t 0 s c) true (ap (λ k. gave t 0 k c) (omega arith) ∙ g) refl
last_given t c s (suc n) h g =
    let p = both (gave t 0 s c) (gave_from t 0 (s + 1) (replicate n c)) h in
    all (gave t 0 s c) (gave_from t 0 (s + 1) (replicate (suc n) c)) p.0 (last_given t c (s + 1) n p.1 (ap (λ k. gave t 0 k c) (omega arith) ∙ g))

pub one_given_more : (old new : List Slot) (c s n m at : ℕ) → Stay old new → IsTrue (gave_from old 0 s (replicate n c)) → IsTrue (gave new 0 at c)
    → at ≡ s + n → m ≡ suc n
    → IsTrue (gave_from new 0 s (replicate m c))
one_given_more old new c s n m at t h g a l =
    rw l (last_given new c s n (given_still old new s (replicate n c) t h) (ap (λ k. gave new 0 k c) (sym a) ∙ g))

-- The slots of a crossbar.

given_both : (t : List Slot) (s a b : ℕ) → IsTrue (gave_from t 0 s (replicate a 10)) → IsTrue (gave_from t 0 (s + a) (replicate b 0))
    → IsTrue (gave_from t 0 s (replicate a 10 ++ replicate b 0))
given_both t s zero b h k = ap (λ j. gave_from t 0 j (replicate b 0)) (omega arith) ∙ k
given_both t s (suc a) b h k =
    let p = both (gave t 0 s 10) (gave_from t 0 (s + 1) (replicate a 10)) h in
    all (gave t 0 s 10) (gave_from t 0 (s + 1) (replicate a 10 ++ replicate b 0)) p.0
    (given_both t (s + 1) a b p.1 (ap (λ j. gave_from t 0 j (replicate b 0)) (omega arith) ∙ k))

only_requests : (s a : ℕ) → handles_from 0 10 s (replicate a 10) ≡ run 0 s a
only_requests s zero = refl
only_requests s (suc a) = ap (λ (l : List Handle). record { owner = 0; slot = s } ∷ l) (only_requests (s + 1) a)

no_devices : (s a b : ℕ) → [] ≡ handles_from 0 30 s (replicate a 10 ++ replicate b 0)
no_devices s zero zero = refl
no_devices s zero (suc b) = no_devices (s + 1) zero b
no_devices s (suc a) b = no_devices (s + 1) a b

no_cpus : (s a b : ℕ) → [] ≡ handles_from 0 50 s (replicate a 10 ++ replicate b 0)
no_cpus s zero zero = refl
no_cpus s zero (suc b) = no_cpus (s + 1) zero b
no_cpus s (suc a) b = no_cpus (s + 1) a b

-- so many of them are for requests, and so many for responses
pub record AreCounted (us : List PortUse) (a b : ℕ) : Type 0 where
  pub requests : a ≡ behind us + sides us
  pub responses : b ≡ fore us

pub counted : (us vs : List PortUse) (a m b : ℕ) → us ≡ vs → a ≡ behind us + sides us → m ≡ fore us → b ≡ m → AreCounted vs a b
counted us vs a m b e f g h = subst (λ (ws : List PortUse). AreCounted ws a b) e (record { requests = f; responses = h ∙ g })

pub response_part : (us : List PortUse) (a b : ℕ) (hs : List Handle) → AreCounted us a b → hs ≡ handles_from 0 0 a (replicate b 0)
    → hs ≡ handles_from 0 0 0 (xbar_classes us)
response_part us a b hs n h =
    rw (← n.requests) (rw (← n.responses) (h ∙ only_responses 0 a b ∙ ap (λ k. run 0 k b) (omega arith) ∙ sym (behind_requests 0 0 a b)))

pub request_part : (us : List PortUse) (a b d : ℕ) (hs : List Handle) → AreCounted us a b → hs ≡ handles_from 0 10 0 (replicate d 10) → d ≡ a
    → hs ≡ handles_from 0 10 0 (xbar_classes us)
request_part us a b d hs n h e =
    rw (← n.requests) (rw (← n.responses) (h ∙ ap (λ k. handles_from 0 10 0 (replicate k 10)) e ∙ only_requests 0 a ∙ sym (before_responses 0 0 a b)))

pub all_given : (us : List PortUse) (a b d : ℕ) (old new : List Slot) → AreCounted us a b → IsTrue (gave_from old 0 0 (replicate d 10)) → Stay old new
    → IsTrue (gave_from new 0 a (replicate b 0)) → d ≡ a → IsTrue (gave_from new 0 0 (xbar_classes us))
all_given us a b d old new n h t k e =
    let r : IsTrue (gave_from new 0 0 (replicate a 10)) = given_still old new 0 (replicate a 10) t (ap (λ j. gave_from old 0 0 (replicate j 10)) (sym e) ∙ h) in
    rw (← n.requests) (rw (← n.responses) (given_both new 0 a b r (ap (λ j. gave_from new 0 j (replicate b 0)) (omega arith) ∙ k)))

-- a table that stays as it is
pub given_there : (us : List PortUse) (old new : List Slot) → new ≡ old → IsTrue (gave_from old 0 0 (xbar_classes us))
    → IsTrue (gave_from new 0 0 (xbar_classes us))
given_there us old new e h = ap (λ (t : List Slot). gave_from t 0 0 (xbar_classes us)) e ∙ h

pub device_part : (us : List PortUse) (hs : List Handle) → hs ≡ [] → hs ≡ handles_from 0 30 0 (xbar_classes us)
device_part us hs h = h ∙ no_devices 0 (behind us + sides us) (fore us)

pub cpu_part : (us : List PortUse) (hs : List Handle) → hs ≡ [] → hs ≡ handles_from 0 50 0 (xbar_classes us)
cpu_part us hs h = h ∙ no_cpus 0 (behind us + sides us) (fore us)
