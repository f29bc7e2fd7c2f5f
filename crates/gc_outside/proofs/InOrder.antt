-- What several calls do together that emit to two sinks.
use Rattle.std.proofs.Common.{◌≡◌, ℕ, ◌≤◌, ◌⊎◌, inl, inr, Bool, true, false, List, [], ◌∷◌, ◌++◌, Option, Some, None, refl, sym, ap, ◌∙◌, subst, arith, append-nil, append_assoc}
use Rattle.std.specs.Prelude.{Result, Ok, Err, IsErr, is_ok}
use Rattle.gc_outside.specs.Emissions.{Emission, ToConsole, ToReport, console_bytes, report_bytes, with_bytes, TakesAll, TakesFront, SinkFailed, EmitsInOrder}
use Rattle.gc_outside.specs.Emits.{Emits}
use Rattle.gc_outside.specs.Faults.{Rose}
use Rattle.gc_outside.specs.Sink.{Appends, AppendsFront}
use Rattle.gc_outside.specs.Sinks.{SinkSeen, Sinks}
use Rattle.gc_outside.specs.Told.{Told}
use Rattle.gc_outside.proofs.Outputs.{told_appends, told_appends_nothing, rose_later}

console_bytes-append : (a b : List Emission) → console_bytes (a ++ b) ≡ console_bytes a ++ console_bytes b
console_bytes-append [] b = refl
console_bytes-append (ToConsole bytes ∷ a) b = ap (λ (l : List ℕ). bytes ++ l) (console_bytes-append a b) ∙ sym (append_assoc bytes (console_bytes a) (console_bytes b))
console_bytes-append (ToReport bytes ∷ a) b = console_bytes-append a b

report_bytes-append : (a b : List Emission) → report_bytes (a ++ b) ≡ report_bytes a ++ report_bytes b
report_bytes-append [] b = refl
report_bytes-append (ToConsole bytes ∷ a) b = report_bytes-append a b
report_bytes-append (ToReport bytes ∷ a) b = ap (λ (l : List ℕ). bytes ++ l) (report_bytes-append a b) ∙ sym (append_assoc bytes (report_bytes a) (report_bytes b))

pub takes_nothing : (s : Sinks) → TakesAll [] s s
takes_nothing s = record { console = told_appends_nothing s.console.taken; report = told_appends_nothing s.report.taken }

takes_then : (a b : List Emission) (old mid new : Sinks) → TakesAll a old mid → TakesAll b mid new → TakesAll (a ++ b) old new
takes_then a b old mid new first second =
    let P : List ℕ → Type 0 = λ l. Told (Appends l) old.console.taken new.console.taken in
    let Q : List ℕ → Type 0 = λ l. Told (Appends l) old.report.taken new.report.taken in record {
      console = subst P (sym (console_bytes-append a b)) (told_appends (console_bytes a) (console_bytes b) _ _ _ first.console second.console);
      report = subst Q (sym (report_bytes-append a b)) (told_appends (report_bytes a) (report_bytes b) _ _ _ first.report second.report);
    }

-- what was taken before comes before the place
front_then : (a b : List Emission) (old mid new : Sinks) → TakesAll a old mid → TakesFront b mid new → TakesFront (a ++ b) old new
front_then a b old mid new first second =
    let P : List Emission → Type 0 = λ l. TakesAll l old new in record {
      before = a ++ second.before;
      cut = second.cut;
      behind = second.behind;
      place = ap (λ (l : List Emission). a ++ l) second.place ∙ sym (append_assoc a second.before (second.cut ∷ second.behind));
      front = second.front;
      rest = second.rest;
      split = second.split;
      taken = subst P (sym (append_assoc a second.before (with_bytes second.cut second.front ∷ [])))
          (takes_then a (second.before ++ with_bytes second.cut second.front ∷ []) old mid new first second.taken);
    }

-- what was to come lies behind it
pub front_more : (a b : List Emission) (old new : Sinks) → TakesFront a old new → TakesFront (a ++ b) old new
front_more a b old new h = record {
  before = h.before;
  cut = h.cut;
  behind = h.behind ++ b;
  place = ap (λ (l : List Emission). l ++ b) h.place ∙ append_assoc h.before (h.cut ∷ h.behind) b;
  front = h.front;
  rest = h.rest;
  split = h.split;
  taken = h.taken;
}

-- no call emits nothing
pub order_nothing : (s : Sinks) → EmitsInOrder [] true s s
order_nothing s = record {
  all = λ e. takes_nothing s;
  front = λ e. absurd (cc);
  cause = λ e. absurd (cc);
  console_count = omega arith;
  report_count = omega arith;
}

failed_later : (old mid new : Sinks) → old.console.faults ≤ mid.console.faults → old.report.faults ≤ mid.report.faults → SinkFailed mid new → SinkFailed old new
failed_later old mid new c r (inl h) = inl (rose_later old.console.faults mid.console.faults new.console.faults c h)
failed_later old mid new c r (inr h) = inr (rose_later old.report.faults mid.report.faults new.report.faults r h)

-- a call that had all taken, and another one
pub order_then : (a b : List Emission) (ok : Bool) (old mid new : Sinks) → EmitsInOrder a true old mid → EmitsInOrder b ok mid new → EmitsInOrder (a ++ b) ok old new
order_then a b ok old mid new first second = record {
  all = λ e. takes_then a b old mid new (first.all refl) (second.all e);
  front = λ e. front_then a b old mid new (first.all refl) (second.front e);
  cause = λ e. failed_later old mid new first.console_count first.report_count (second.cause e);
  console_count = omega (arith, first.console_count, second.console_count);
  report_count = omega (arith, first.report_count, second.report_count);
}

-- a call that failed, and nothing more of what was to come
pub order_cut : (a b : List Emission) (old new : Sinks) → EmitsInOrder a false old new → EmitsInOrder (a ++ b) false old new
order_cut a b old new first = record {
  all = λ e. absurd (cc);
  front = λ e. front_more a b old new (first.front refl);
  cause = first.cause;
  console_count = first.console_count;
  report_count = first.report_count;
}

-- the front of some bytes that a sink took; of one that doesn't tell, none is known
record HasTaken (bytes : List ℕ) (old new : Option (List ℕ)) : Type 0 where
  front : List ℕ
  rest : List ℕ
  split : bytes ≡ front ++ rest
  taken : Told (Appends (front ++ [])) old new

front_taken : (bytes : List ℕ) (old new : Option (List ℕ)) → Told (AppendsFront bytes) old new → HasTaken bytes old new
front_taken bytes old None h = record { front = []; rest = bytes; split = refl; taken = tt }
front_taken bytes None (Some b) h = absurd h
front_taken bytes (Some a) (Some b) h = record { front = h.0; rest = h.1; split = h.2; taken = rw (append-nil h.0) h.3 }

-- a front of the bytes for one sink, while the other stays as it is
module _ (bytes : List ℕ) (old new : SinkSeen) (h : Told (AppendsFront bytes) old.taken new.taken) (other : SinkSeen) where
  pub front_report : TakesFront (ToReport bytes ∷ []) (record { console = other; report = old }) (record { console = other; report = new })
  front_report =
      let k = front_taken bytes old.taken new.taken h in record {
        before = [];
        cut = ToReport bytes;
        behind = [];
        place = refl;
        front = k.front;
        rest = k.rest;
        split = k.split;
        taken = record { console = told_appends_nothing other.taken; report = k.taken };
      }

  pub front_console : TakesFront (ToConsole bytes ∷ []) (record { console = old; report = other }) (record { console = new; report = other })
  front_console =
      let k = front_taken bytes old.taken new.taken h in record {
        before = [];
        cut = ToConsole bytes;
        behind = [];
        place = refl;
        front = k.front;
        rest = k.rest;
        split = k.split;
        taken = record { console = k.taken; report = told_appends_nothing other.taken };
      }

-- a call that emits to one sink, while the other stays as it is
module _ (bytes : List ℕ) (ok : Bool) (old new : SinkSeen) (h : Emits bytes ok old.taken new.taken old.faults new.faults) (other : SinkSeen) where
  whole : ok ≡ true → Told (Appends (bytes ++ [])) old.taken new.taken
  whole e = rw (append-nil bytes) (h.whole e)

  pub order_report : EmitsInOrder (ToReport bytes ∷ []) ok (record { console = other; report = old }) (record { console = other; report = new })
  order_report = record {
    all = λ e. record { console = told_appends_nothing other.taken; report = whole e };
    front = λ e. front_report bytes old new (h.front e) other;
    cause = λ e. inr (h.cause e);
    console_count = omega arith;
    report_count = h.count;
  }

  pub order_console : EmitsInOrder (ToConsole bytes ∷ []) ok (record { console = old; report = other }) (record { console = new; report = other })
  order_console = record {
    all = λ e. record { console = whole e; report = told_appends_nothing other.taken };
    front = λ e. front_console bytes old new (h.front e) other;
    cause = λ e. inl (h.cause e);
    console_count = h.count;
    report_count = omega arith;
  }

-- a call that handed an error on
pub not_ok : {A E : Type 0} (r : Result A E) → IsErr r → is_ok r ≡ false
not_ok (Ok x) h = cc
not_ok (Err e) h = refl
