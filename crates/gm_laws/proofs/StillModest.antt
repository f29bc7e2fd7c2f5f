-- A rule that leaves a part as it is, is modest.
use Rattle.std.proofs.Common.{ℕ, refl, arith}
use Rattle.gm_words.specs.declared.answer.Answer.{Answer}
use Rattle.gm_words.specs.declared.answer.Answer.TheVariants as answers
use Rattle.pkt_pool.specs.declared.packet.Packet.{Packet}
use Rattle.gm_words.specs.declared.wake.Wake.{Wake}
use Rattle.gm_model.specs.ObjState.{ObjState}
use Rattle.gm_model.specs.Stepped.{Stepped, stays, drops, answering}
use Rattle.gm_laws.specs.Bounds.{IsWithin, IsModest}

-- nothing happens
pub stays_modest : (o : ObjState) (next : ℕ) (w : Wake) (now : ℕ) → IsWithin o → IsModest o next w now (stays o next)
stays_modest o next w now h = record {
  object = refl;
  slots = refl;
  ports = refl;
  within = h;
  own = tt;
  timely = tt;
  fit = tt;
  entries = omega arith;
  drawn = refl;
  few = omega arith;
  spoken = omega arith;
}

-- what is consumed beside it, and the answer, change nothing of it
pub answered_modest : (o : ObjState) (next : ℕ) (w : Wake) (now : ℕ) (p : Packet) (a : Answer) (r : Stepped) → IsModest o next w now r
    → IsModest o next w now (record (answering p r) { answer = a })
answered_modest o next w now p a r m = record {
  object = m.object;
  slots = m.slots;
  ports = m.ports;
  within = m.within;
  own = m.own;
  timely = m.timely;
  fit = m.fit;
  entries = m.entries;
  drawn = m.drawn;
  few = m.few;
  spoken = m.spoken;
}

pub drops_modest : (o : ObjState) (next : ℕ) (w : Wake) (now : ℕ) (p : Packet) → IsWithin o → IsModest o next w now (drops o next p)
drops_modest o next w now p h = answered_modest o next w now p answers.Nothing (stays o next) (stays_modest o next w now h)
