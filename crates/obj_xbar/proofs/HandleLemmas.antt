-- The handles of a crossbar's layers.
use Rattle.std.proofs.Common.{◌≡◌, ℕ, suc, zero, ◌+◌, ◌-◌, ◌≤◌, ◌<◌, ◌&&◌, refl, ◌∙◌, ap, arith, Bool, true, false, IsTrue, List, [], ◌∷◌, ◌++◌, length, replicate, get_or}
use Rattle.std.proofs.lemmas.Bool.{lt-ltb, le-ltb}
use Rattle.ev_queue.specs.Handle.{Handle}
use Rattle.ev_queue.specs.SlotTable.{gave}
use Rattle.ev_queue.specs.declared.slot.Slot.{Slot}
use Rattle.gm_words.specs.PortUses.{fore, behind, sides, xbar_classes, slot_of_port, class_of_port, is_total}
use Rattle.gm_words.specs.Slots.{gave_from}
use Rattle.gm_words.specs.declared.port_use.PortUse.{PortUse}
use Rattle.obj_core.specs.Handles.{handles_from}
use Rattle.obj_core.proofs.StepLemmas.{put_flow, put_changes}

-- so many handles, of slots one after another
abbrev pub run : ℕ → ℕ → ℕ → List Handle
run o s zero = []
run o s (suc n) = record { owner = o; slot = s } ∷ run o (s + 1) n

run_length : (o s n : ℕ) → length (run o s n) ≡ n
run_length o s zero = refl
run_length o s (suc n) = ap (λ k. suc k) (run_length o (s + 1) n)

run_at : (o s n i : ℕ) (d : Handle) → i < n → get_or (run o s n) i d ≡ record { owner = o; slot = s + i }
run_at o s zero i d l = absurd (omega (arith, l))
run_at o s (suc n) zero d l = ap (λ k. record { owner = o; slot = k }) (omega arith)
run_at o s (suc n) (suc i) d l = run_at o (s + 1) n i d (omega (arith, l)) ∙ ap (λ k. record { owner = o; slot = k }) (omega arith)

-- the layers for responses stand behind the others
pub only_responses : (o s b : ℕ) → handles_from o 0 s (replicate b 0) ≡ run o s b
only_responses o s zero = refl
only_responses o s (suc b) = ap (λ l. record { owner = o; slot = s } ∷ l) (only_responses o (s + 1) b)

pub behind_requests : (o s a b : ℕ) → handles_from o 0 s (replicate a 10 ++ replicate b 0) ≡ run o (s + a) b
behind_requests o s zero b = only_responses o s b ∙ ap (λ k. run o k b) (omega arith)
behind_requests o s (suc a) b = behind_requests o (s + 1) a b ∙ ap (λ k. run o k b) (omega arith)

-- and those for requests in front
no_requests : (o s b : ℕ) → handles_from o 10 s (replicate b 0) ≡ []
no_requests o s zero = refl
no_requests o s (suc b) = no_requests o (s + 1) b

pub before_responses : (o s a b : ℕ) → handles_from o 10 s (replicate a 10 ++ replicate b 0) ≡ run o s a
before_responses o s zero b = no_requests o s b
before_responses o s (suc a) b = ap (λ l. record { owner = o; slot = s } ∷ l) (before_responses o (s + 1) a b)

pub response_count : (o : ℕ) (us : List PortUse) → length (handles_from o 0 0 (xbar_classes us)) ≡ fore us
response_count o us = ap (λ l. length l) (behind_requests o 0 (behind us + sides us) (fore us)) ∙ run_length o (0 + (behind us + sides us)) (fore us)

pub request_count : (o : ℕ) (us : List PortUse) → length (handles_from o 10 0 (xbar_classes us)) ≡ behind us + sides us
request_count o us = ap (λ l. length l) (before_responses o 0 (behind us + sides us) (fore us)) ∙ run_length o 0 (behind us + sides us)

pub response_at : (o : ℕ) (us : List PortUse) (p : ℕ) (d : Handle) → p < fore us
    → get_or (handles_from o 0 0 (xbar_classes us)) p d ≡ record { owner = o; slot = behind us + sides us + p }
response_at o us p d l =
    ap (λ hs. get_or hs p d) (behind_requests o 0 (behind us + sides us) (fore us)) ∙ run_at o (0 + (behind us + sides us)) (fore us) p d l
    ∙ ap (λ k. record { owner = o; slot = k }) (omega arith)

pub request_at : (o : ℕ) (us : List PortUse) (i : ℕ) (d : Handle) → i < behind us + sides us
    → get_or (handles_from o 10 0 (xbar_classes us)) i d ≡ record { owner = o; slot = i }
request_at o us i d l =
    ap (λ hs. get_or hs i d) (before_responses o 0 (behind us + sides us) (fore us)) ∙ run_at o 0 (behind us + sides us) i d l
    ∙ ap (λ k. record { owner = o; slot = k }) (omega arith)

-- A queue gave them.

both : (a b : Bool) → (a && b) ≡ true → (a ≡ true) × (b ≡ true)
both true b h = (refl, h)
both false b h = absurd (cc)

requests_given : (t : List Slot) (o s a : ℕ) (cs : List ℕ) (i : ℕ) → gave_from t o s (replicate a 10 ++ cs) ≡ true → i < a → gave t o (s + i) 10 ≡ true
requests_given t o s zero cs i g l = absurd (omega (arith, l))
requests_given t o s (suc a) cs zero g l =
    ap (λ k. gave t o k 10) (omega arith) ∙ (both (gave t o s 10) (gave_from t o (s + 1) (replicate a 10 ++ cs)) g).0
requests_given t o s (suc a) cs (suc i) g l =
    ap (λ k. gave t o k 10) (omega arith)
    ∙ requests_given t o (s + 1) a cs i (both (gave t o s 10) (gave_from t o (s + 1) (replicate a 10 ++ cs)) g).1 (omega (arith, l))

responses_given : (t : List Slot) (o s b i : ℕ) → gave_from t o s (replicate b 0) ≡ true → i < b → gave t o (s + i) 0 ≡ true
responses_given t o s zero i g l = absurd (omega (arith, l))
responses_given t o s (suc b) zero g l =
    ap (λ k. gave t o k 0) (omega arith) ∙ (both (gave t o s 0) (gave_from t o (s + 1) (replicate b 0)) g).0
responses_given t o s (suc b) (suc i) g l =
    ap (λ k. gave t o k 0) (omega arith)
    ∙ responses_given t o (s + 1) b i (both (gave t o s 0) (gave_from t o (s + 1) (replicate b 0)) g).1 (omega (arith, l))

behind_given : (t : List Slot) (o s a : ℕ) (cs : List ℕ) → gave_from t o s (replicate a 10 ++ cs) ≡ true → gave_from t o (s + a) cs ≡ true
behind_given t o s zero cs g = ap (λ k. gave_from t o k cs) (omega arith) ∙ g
behind_given t o s (suc a) cs g =
    ap (λ k. gave_from t o k cs) (omega arith)
    ∙ behind_given t o (s + 1) a cs (both (gave t o s 10) (gave_from t o (s + 1) (replicate a 10 ++ cs)) g).1

pub request_given : (t : List Slot) (o : ℕ) (us : List PortUse) (i : ℕ) → IsTrue (gave_from t o 0 (xbar_classes us)) → i < behind us + sides us
    → IsTrue (gave t o i 10)
request_given t o us i g l = ap (λ k. gave t o k 10) (omega arith) ∙ requests_given t o 0 (behind us + sides us) (replicate (fore us) 0) i g l

pub response_given : (t : List Slot) (o : ℕ) (us : List PortUse) (p : ℕ) → IsTrue (gave_from t o 0 (xbar_classes us)) → p < fore us
    → IsTrue (gave t o (behind us + sides us + p) 0)
response_given t o us p g l =
    ap (λ k. gave t o k 0) (omega arith)
    ∙ responses_given t o (0 + (behind us + sides us)) (fore us) p (behind_given t o 0 (behind us + sides us) (replicate (fore us) 0) g) l

-- The slot and the class of a port's layer.

pub slot_before : (us : List PortUse) (p : ℕ) → p < fore us → slot_of_port us p ≡ behind us + sides us + p
slot_before us p l = rw (lt-ltb p (fore us) l) refl

pub slot_after : (us : List PortUse) (p : ℕ) → fore us ≤ p → slot_of_port us p ≡ p - fore us
slot_after us p l = rw (le-ltb p (fore us) l) refl

pub class_before : (us : List PortUse) (p : ℕ) → p < fore us → class_of_port us p ≡ 0
class_before us p l = rw (lt-ltb p (fore us) l) refl

pub class_after : (us : List PortUse) (p : ℕ) → fore us ≤ p → class_of_port us p ≡ 10
class_after us p l = rw (le-ltb p (fore us) l) refl

-- where some address has no port, the layer of no port has a slot
pub side_there : (us : List PortUse) → is_total us ≡ false → behind us < behind us + sides us
side_there us h = rw h (omega arith)

-- what a packet that comes into a layer rests on: which handle is used there, and that it was given
pub ruleset into_layer = (slot_before, slot_after, class_before, class_after, response_given, request_given, put_flow, put_changes)

pub ruleset into_side = (side_there, request_given, put_flow, put_changes)
