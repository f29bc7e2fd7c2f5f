-- From what was emitted to how a call ends.
use Rattle.std.proofs.Common.{◌≡◌, ℕ, inl, inr, true, false, Bool, List, [], ◌∷◌, refl, subst}
use Rattle.gc_outside.specs.Emissions.{Emission, EmitsInOrder}
use Rattle.gc_outside.specs.Emits.{Emits}
use Rattle.gc_outside.specs.Sinks.{SinkSeen, Sinks}
use Rattle.gc_outside.proofs.InOrder.{takes_nothing, order_report}
use Rattle.session.specs.Ending.{Ending, Leaves, Refuses, refusal, work_done}
use Rattle.session.specs.declared.status.Status.{Status}
use Rattle.session.specs.declared.status.Status.TheVariants as status

-- a line that was taken
pub said_refuses : (s : Status) (line : List ℕ) (old new : SinkSeen) → Emits line true old.taken new.taken old.faults new.faults → Refuses (refusal s line) s old new
said_refuses s line old new h = λ console. inl (refl, (order_report line true old new h console).all refl)

-- a line of which a front was taken
pub cut_refuses : (s : Status) (line : List ℕ) (old new : SinkSeen) → Emits line false old.taken new.taken old.faults new.faults → Refuses (refusal s line) status.Sink old new
cut_refuses s line old new h = λ console. let k = order_report line false old new h console in inr (refl, k.cause refl, k.front refl)

-- no line was said
pub done_refuses : (s : SinkSeen) → Refuses (work_done []) status.Done s s
done_refuses s = λ console. inl (refl, takes_nothing (record { console = console; report = s }))

-- the report stood as it was until then
pub refuses_from : (e : Ending) (s : Status) (old mid new : SinkSeen) → mid ≡ old → Refuses e s mid new → Refuses e s old new
refuses_from e s old mid new same h = subst (λ (x : SinkSeen). Refuses e s x new) same h

-- and so did the console
pub leaves_from : (e : Ending) (s : Status) (c r r' : SinkSeen) (new : Sinks) → r' ≡ r → Leaves e s (record { console = c; report = r' }) new
    → Leaves e s (record { console = c; report = r }) new
leaves_from e s c r r' new same h = subst (λ (x : SinkSeen). Leaves e s (record { console = c; report = x }) new) same h

module _ (es es' : List Emission) (c r r' : SinkSeen) (new : Sinks) (same : es' ≡ es) (silent : r' ≡ r) where
  from_here : (ok : Bool) → EmitsInOrder es' ok (record { console = c; report = r' }) new → EmitsInOrder es ok (record { console = c; report = r }) new
  from_here ok h =
      let P : List Emission → Type 0 = λ x. EmitsInOrder x ok (record { console = c; report = r' }) new in
      let Q : SinkSeen → Type 0 = λ x. EmitsInOrder es ok (record { console = c; report = x }) new in
      subst Q silent (subst P same h)

  -- the work was done
  pub done_leaves : EmitsInOrder es' true (record { console = c; report = r' }) new → Leaves (work_done es) status.Done (record { console = c; report = r }) new
  done_leaves h = inl (refl, (from_here true h).all refl)

  -- a sink failed
  pub cut_leaves : EmitsInOrder es' false (record { console = c; report = r' }) new → Leaves (work_done es) status.Sink (record { console = c; report = r }) new
  cut_leaves h = let k = from_here false h in inr (refl, k.cause refl, k.front refl)
