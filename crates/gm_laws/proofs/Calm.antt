-- Wakes that say nothing of the own offers.
use Rattle.std.proofs.Common.{◌≡◌, ℕ, ◌==◌, cond, ◌&&◌, Bool, true, false, refl}
use Rattle.gc_base.specs.declared.ids.SlotNo.{SlotNo}
use Rattle.gm_words.specs.declared.answer.Answer.{Answer}
use Rattle.gm_words.specs.declared.answer.Answer.TheVariants as answers
use Rattle.pkt_pool.specs.declared.packet.Packet.{Packet}
use Rattle.gm_words.specs.declared.wake.Wake.{Wake}
use Rattle.gm_words.specs.declared.wake.Wake.TheVariants as wakes
use Rattle.gm_laws.specs.Words.{told, refused, retry, rejected}
use Rattle.gm_laws.specs.Face.{Face, went_out, due_before}

-- a wake that says nothing of the own offers
pub record IsCalmWake (w : Wake) (answer : Answer) : Type 0 where
  pub told_none : (p : ℕ) → told w p ≡ 0
  pub refused_none : (p : ℕ) → refused w p ≡ 0
  pub retry_none : (p : ℕ) → retry w p ≡ 0
  pub rejected_none : (p : ℕ) → rejected w answer p ≡ 0
  pub out_none : (f : Packet → ℕ) (k : Face) → went_out f k w ≡ 0

pub set_due : (n : ℕ) (b d : Bool) → (true && b) ≡ cond b true (d && b)
set_due n true d = refl
set_due n false true = refl
set_due n false false = refl

pub calm_event : (slot : SlotNo) → IsCalmWake (wakes.Event slot) answers.Nothing
calm_event slot = record { told_none = λ p. refl; refused_none = λ p. refl; retry_none = λ p. refl; rejected_none = λ p. refl; out_none = λ f k. refl }

pub calm_line : (b : ℕ) (l : Bool) → IsCalmWake (wakes.Line b l) answers.Nothing
calm_line b l = record { told_none = λ p. refl; refused_none = λ p. refl; retry_none = λ p. refl; rejected_none = λ p. refl; out_none = λ f k. refl }

pub calm_done : (x : Packet) (l : ℕ) → IsCalmWake (wakes.AtomicDone x l) answers.Nothing
calm_done x l = record { told_none = λ p. refl; refused_none = λ p. refl; retry_none = λ p. refl; rejected_none = λ p. refl; out_none = λ f k. refl }

pub event_due : (slot : SlotNo) (d : Bool) → slot.0 ≡ 0 → (n : ℕ) → due_before (wakes.Event slot) (d && (n == 0)) n ≡ (false && (n == 0))
event_due slot d e n = rw e (by (n == 0)) where
  by : (b : Bool) → cond b false (d && b) ≡ false
  by true = refl
  by false = none d where
    none : (t : Bool) → (t && false) ≡ false
    none true = refl
    none false = refl

pub no_both : (b : Bool) → b ≡ true → b ≡ false → ⊥
no_both true e f = cc
no_both false e f = cc
