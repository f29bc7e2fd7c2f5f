use Rattle.std.proofs.Common.{ℕ, zero, suc, ◌≡◌, ◌+◌, ◌-◌, ◌≤◌, ◌++◌, List, [], ◌∷◌, take, drop, ap, sym, ◌∙◌, refl, subst, arith, zero-add, true, false}
use Rattle.std.proofs.Math.Nat.{suc-add}
use Rattle.std.proofs.Math.Seq.{take-nil}
use Rattle.std.proofs.lemmas.List.{map-append, take-append-drop}
use Rattle.gc_outside.specs.Emits.{Emits}
use Rattle.session.specs.Names.{shown_byte, shown_name}
use Rattle.gc_outside.proofs.InOrder.{not_ok}
use Rattle.gc_outside.proofs.Emissions.{emits_nothing, emits_then, emits_cut}
use Rattle.session.proofs.lines.say_name.Goals as goal

take-add : (i m : ℕ) (xs : List ℕ) → take i xs ++ take m (drop i xs) ≡ take (i + m) xs
take-add zero m xs = rw zero-add refl
take-add (suc i) m [] = take-nil m ∙ sym (take-nil (suc i + m))
take-add (suc i) m (x ∷ xs) = rw suc-add (ap (λ (l : List ℕ). x ∷ l) (take-add i m xs))

-- what is shown of one part more
shown-part : (name : List ℕ) (i j : ℕ) → i ≤ j → shown_name (take i name) ++ shown_name (take (j - i) (drop i name)) ≡ shown_name (take j name)
shown-part name i j h =
    let e : i + (j - i) ≡ j = omega arith in
    sym (map-append shown_byte (take i name) (take (j - i) (drop i name)))
    ∙ ap shown_name (take-add i (j - i) name ∙ ap (λ (n : ℕ). take n name) e)

shown-rest : (name : List ℕ) (i j : ℕ) → i ≤ j → shown_name (take i name) ++ shown_name (take (j - i) (drop i name)) ++ shown_name (drop j name) ≡ shown_name name
shown-rest name i j h =
    ap (λ (l : List ℕ). l ++ shown_name (drop j name)) (shown-part name i j h)
    ∙ sym (map-append shown_byte (take j name) (drop j name))
    ∙ ap shown_name (take-append-drop j name)

pub loop-done-init : goal.loop-done-init
loop-done-init g c = record { within = omega arith; said = emits_nothing _ _ }

pub loop-done-preserved : goal.loop-done-preserved
loop-done-preserved g c = record {
  within = omega arith;
  said = subst (λ (l : List ℕ). Emits l true (g.R.Sink.taken c.args.report.now) (g.R.Sink.taken c.say_part.new.report) (g.R.Sink.faults c.args.report.now) (g.R.Sink.faults c.say_part.new.report))
      (shown-part c.args.name.now c.loop-done.done c.min-end.result (omega arith))
      (emits_then _ _ _ _ _ _ _ _ _ c.loop-done.invariant.said c.in_ok-say_part.ensures);
}

pub returns-in_err-say_part : goal.returns-in_err-say_part
returns-in_err-say_part g c =
    let cut = emits_cut _ (shown_name (drop c.min-end.result c.args.name.now)) _ _ _ _ (emits_then _ _ _ _ _ _ _ _ _ c.loop-done.invariant.said c.in_err-say_part.ensures) in
    rw (not_ok c.from_residual.result c.from_residual.ensures.0)
    (subst (λ (l : List ℕ). Emits l false (g.R.Sink.taken c.args.report.now) (g.R.Sink.taken c.say_part.new.report) (g.R.Sink.faults c.args.report.now) (g.R.Sink.faults c.say_part.new.report))
    (shown-rest c.args.name.now c.loop-done.done c.min-end.result (omega arith)) cut)
