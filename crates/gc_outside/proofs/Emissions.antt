-- What several calls that emit do together.
use Rattle.std.proofs.Common.{ℕ, List, [], ◌++◌, Bool, true, false, Option, refl, arith}
use Rattle.gc_outside.specs.Emits.{Emits}
use Rattle.gc_outside.proofs.Outputs.{told_appends_nothing, told_appends, told_appends_front, told_front_of_more, rose_later}

-- no call emits nothing
pub emits_nothing : (a : Option (List ℕ)) (f : ℕ) → Emits [] true a a f f
emits_nothing a f = record {
  whole = λ e. told_appends_nothing a;
  front = λ e. absurd (cc);
  cause = λ e. absurd (cc);
  count = omega arith;
}

-- a call that took all, and another one
pub emits_then : (xs ys : List ℕ) (ok : Bool) (a b c : Option (List ℕ)) (f g h : ℕ) → Emits xs true a b f g → Emits ys ok b c g h → Emits (xs ++ ys) ok a c f h
emits_then xs ys ok a b c f g h first second = record {
  whole = λ e. told_appends xs ys a b c (first.whole refl) (second.whole e);
  front = λ e. told_appends_front xs ys a b c (first.whole refl) (second.front e);
  cause = λ e. rose_later f g h first.count (second.cause e);
  count = omega (arith, first.count, second.count);
}

-- a call that failed, and nothing more of what was to come
pub emits_cut : (xs ys : List ℕ) (a b : Option (List ℕ)) (f g : ℕ) → Emits xs false a b f g → Emits (xs ++ ys) false a b f g
emits_cut xs ys a b f g first = record {
  whole = λ e. absurd (cc);
  front = λ e. told_front_of_more xs ys a b (first.front refl);
  cause = first.cause;
  count = first.count;
}
