-- Bytes of input, one after another.
use Rattle.std.proofs.Common.{◌≡◌, ℕ, suc, ◌+◌, ◌-◌, ◌*◌, ◌<◌, ◌≤◌, add-one, refl, sym, ◌∙◌, ap, subst, arith, Bool, true, false, ◌||◌, cond, List, [], ◌∷◌, length, drop, map, get_or}
use Rattle.std.proofs.Math.ListN.{drop_of_length-le}
use Rattle.std.proofs.Math.Seq.{drop-cons}
use Rattle.std.proofs.lemmas.Bool.Decides.{nat_tests}
use Rattle.std.proofs.lemmas.List.{length-append}
use Rattle.std.specs.Prelude.{nat_lt}
use Rattle.ev_queue.specs.declared.slot.Slot.{Slot}
use Rattle.gm_model.specs.Command.{takes_input, with_input}
use Rattle.gm_model.specs.ObjState.{ObjState, Blank, AtomicCpu, TimingCpu, Xbar, Server, Device, Memory, Uart, Exit, Timer}
use Rattle.gm_model.specs.Server.{device_takes_input, device_with_input}
use Rattle.gm_model.specs.Stepped.{Commanded}
use Rattle.gm_model.specs.Sys.{Sys}
use Rattle.gm_system.proofs.ForKernel.{fed_sound, parts_few}
use Rattle.gm_system.specs.Machine.{IsMachineSound}
use Rattle.kernel.specs.Input.{fed, one_takes, input_given, input_taken}

-- a byte comes to a part, as a command
abbrev pub input_command : ℕ → ObjState → Commanded
input_command byte o = record { state = with_input byte o; changes = [] }

-- one of the parts before the place took it, or one of the rest takes it
pub taken_next : (all : List ObjState) (i : ℕ) (o : ObjState) (taken took w : Bool) → took ≡ takes_input o → drop i all ≡ o ∷ drop (i + 1) all
    → (taken || one_takes (drop i all)) ≡ w → ((taken || took) || one_takes (drop (i + 1) all)) ≡ w
taken_next all i o taken took w e next h =
    let P : List ObjState → Type 0 = λ os. (taken || one_takes os) ≡ w in
    let Q : Bool → Type 0 = λ b. (taken || (b || one_takes (drop (i + 1) all))) ≡ w in
    or_assoc taken took (one_takes (drop (i + 1) all)) ∙ subst Q (sym e) (subst P next h) where
      or_assoc : (a b c : Bool) → ((a || b) || c) ≡ (a || (b || c))
      or_assoc true b c = refl
      or_assoc false b c = refl

pub taken_all : (all : List ObjState) (i : ℕ) (taken w : Bool) → length all ≤ i → (taken || one_takes (drop i all)) ≡ w → taken ≡ w
taken_all all i taken w l h = let P : List ObjState → Type 0 = λ os. (taken || one_takes os) ≡ w in none taken (subst P (drop_of_length-le all l) h) where
  none : (b : Bool) → (b || false) ≡ w → b ≡ w
  none true k = k
  none false k = k

-- a byte more
module _ (bytes : List ℕ) (i x d : ℕ) (here : i < length bytes) (is : x ≡ get_or bytes i d) (s t : Sys) (fed_is : t ≡ fed x s) where
  next : drop i bytes ≡ x ∷ drop (i + 1) bytes
  next = rw add-one (drop-cons bytes i d here ∙ ap (λ y. y ∷ drop (suc i) bytes) (sym is))

  pub given_more : (u : Sys) → input_given (drop i bytes) s ≡ u → input_given (drop (i + 1) bytes) t ≡ u
  given_more u h =
      let P : List ℕ → Type 0 = λ bs. input_given bs s ≡ u in
      ap (λ y. input_given (drop (i + 1) bytes) y) fed_is ∙ subst P next h

  module _ (took : Bool) (one : took ≡ one_takes s.objects) (n all : ℕ) (h : n + input_taken (drop i bytes) s ≡ all) where
    split : n + ((cond took 1 0) + input_taken (drop (i + 1) bytes) t) ≡ all
    split =
        let P : List ℕ → Type 0 = λ bs. n + input_taken bs s ≡ all in
        let Q : Bool → Type 0 = λ b. n + ((cond b 1 0) + input_taken (drop (i + 1) bytes) (fed x s)) ≡ all in
        let R : Sys → Type 0 = λ y. n + ((cond took 1 0) + input_taken (drop (i + 1) bytes) y) ≡ all in
        subst R (sym fed_is) (subst Q (sym one) (subst P next h))

    pub taken_more : (k : ℕ) → k ≡ cond took 1 0 → n + k + input_taken (drop (i + 1) bytes) t ≡ all
    taken_more k e = omega (arith, split, e)

pub all_given : (bytes : List ℕ) (i : ℕ) (s u : Sys) → length bytes ≤ i → input_given (drop i bytes) s ≡ u → s ≡ u
all_given bytes i s u l h = let P : List ℕ → Type 0 = λ bs. input_given bs s ≡ u in subst P (drop_of_length-le bytes l) h

pub all_taken : (bytes : List ℕ) (i n all : ℕ) (s : Sys) → length bytes ≤ i → n + input_taken (drop i bytes) s ≡ all → n ≡ all
all_taken bytes i n all s l h =
    let P : List ℕ → Type 0 = λ bs. n + input_taken bs s ≡ all in let k = subst P (drop_of_length-le bytes l) h in omega (arith, k)

-- a UART has 256 places, so few bytes are taken
abbrev free_in : Device → ℕ
free_in (Memory m) = 0
free_in (Uart u) = 256 - length u.input
free_in (Exit code) = 0
free_in (Timer t) = 0

abbrev free : ObjState → ℕ
free (Blank k) = 0
free (AtomicCpu s) = 0
free (TimingCpu s) = 0
free (Xbar s) = 0
free (Server s) = free_in s.device

abbrev free_all : List ObjState → ℕ
free_all [] = 0
free_all (o ∷ os) = free o + free_all os

free_few : (o : ObjState) → free o ≤ 256
free_few (Blank k) = omega arith
free_few (AtomicCpu s) = omega arith
free_few (TimingCpu s) = omega arith
free_few (Xbar s) = omega arith
free_few (Server s) = by s.device where
  by : (d : Device) → free_in d ≤ 256
  by (Memory m) = omega arith
  by (Uart u) = omega arith
  by (Exit code) = omega arith
  by (Timer t) = omega arith

all_few : (os : List ObjState) → free_all os ≤ 256 * length os
all_few [] = omega arith
all_few (o ∷ os) = omega (arith, free_few o, all_few os)

one_few : (b : ℕ) (o : ObjState) → (cond (takes_input o) 1 0) + free (with_input b o) ≤ free o
one_few b (Blank k) = omega arith
one_few b (AtomicCpu s) = omega arith
one_few b (TimingCpu s) = omega arith
one_few b (Xbar s) = omega arith
one_few b (Server s) = by s.device where
  by : (d : Device) → (cond (device_takes_input d) 1 0) + free (cond (device_takes_input d) (Server (record s { device = device_with_input b d })) (Server (record s { device = d }))) ≤ free_in d
  by (Memory m) = omega arith
  by (Exit code) = omega arith
  by (Timer t) = omega arith
  by (Uart u) = by_room (nat_lt (length u.input) 256) refl where
    by_room : (c : Bool) → nat_lt (length u.input) 256 ≡ c
        → (cond c 1 0) + free (cond c (Server (record s { device = device_with_input b (Uart u) })) (Server (record s { device = Uart u }))) ≤ 256 - length u.input
    by_room true e = let l : length u.input < 256 = grind (arith, nat_tests, e) in omega (arith, l, length-append u.input (b ∷ []))
    by_room false e = omega arith

either : (a b : Bool) → (cond (a || b) 1 0) ≤ (cond a 1 0) + (cond b 1 0)
either true b = omega arith
either false b = omega arith

each_few : (b : ℕ) (os : List ObjState) → (cond (one_takes os) 1 0) + free_all (map (with_input b) os) ≤ free_all os
each_few b [] = omega arith
each_few b (o ∷ os) = omega (arith, one_few b o, each_few b os, either (takes_input o) (one_takes os))

taken_within : (bytes : List ℕ) (s : Sys) → input_taken bytes s ≤ free_all s.objects
taken_within [] s = omega arith
taken_within (b ∷ bytes) s = omega (arith, each_few b s.objects, taken_within bytes (fed b s))

pub taken_few : (bytes : List ℕ) (s : Sys) (table : List Slot) → IsMachineSound s table → input_taken bytes s ≤ 65536
taken_few bytes s table h = omega (arith, taken_within bytes s, all_few s.objects, parts_few s table h.steady.parts)

pub fed_machine : (s t : Sys) (table table' : List Slot) (byte : ℕ) → IsMachineSound s table → t ≡ fed byte s → table' ≡ table → IsMachineSound t table'
fed_machine s t table table' byte h e same = rw (e, same) (fed_sound s table byte h)
