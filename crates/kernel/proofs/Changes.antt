-- A machine stays sound when bytes are put into RAM, and when it is resumed.
use Rattle.std.proofs.Common.{◌⊎◌, inl, inr, ◌≡◌, ℕ, suc, zero, ◌+◌, ◌-◌, ◌<◌, ◌≤◌, refl, sym, ◌∙◌, ap, subst, arith, add-one, false, List, [], ◌∷◌, length, map, drop, get_or, set}
use Rattle.std.proofs.Math.ListN.{drop_of_length-le}
use Rattle.std.proofs.Math.Seq.{drop-cons}
use Rattle.std.proofs.lemmas.Bool.{cases_lt}
use Rattle.std.proofs.lemmas.List.{get_or-map, get_or-drop, length-map, map-set}
use Rattle.ev_queue.specs.Queue.{Queue}
use Rattle.ev_queue.specs.declared.slot.Slot.{Slot}
use Rattle.ev_queue.specs.declared.due.Due.{Due}
use Rattle.gm_model.specs.ObjState.{ObjState, Blank}
use Rattle.gm_model.specs.Stepped.{Commanded}
use Rattle.gm_model.specs.Command.{resume_step}
use Rattle.gm_model.specs.Sys.{Sys}
use Rattle.gm_model.specs.View.{own_ram}
use Rattle.gm_model.specs.Start.{commanded, commanded_events, resumed_state, start_state, with_raw}
use Rattle.gm_system.specs.Machine.{IsMachineSound}
use Rattle.gm_words.specs.Slots.{given_table}
use Rattle.cfg_tree.specs.Valid.{IsValidConfig}
use Rattle.gm_words.specs.Platform.{platform}
use Rattle.cfg_tree.specs.declared.config.Config.{Config}
use Rattle.gm_words.specs.declared.kind.Kind.TheVariants as kinds
use Rattle.gm_system.proofs.ForKernel.{built_sound as started_sound, put_sound as raw_sound, resumed_sound}
use Rattle.obj_core.specs.Events.{with_changes}
use Rattle.obj_core.specs.Handles.{HasHandles}
use Rattle.kernel.proofs.UnderWay.{handles_at}

pub put_sound : (s s' : Sys) (table table' : List Slot) (address : ℕ) (bytes : List ℕ) → IsMachineSound s table → 0x80000000 ≤ address
    → address - 0x80000000 + length bytes ≤ length (own_ram s.objects) → s' ≡ with_raw (0x80000000 + (address - 0x80000000)) bytes s → table' ≡ table → IsMachineSound s' table'
put_sound s s' table table' address bytes h l m e t =
    let back : 0x80000000 + (address - 0x80000000) ≡ address = omega (arith, l) in
    let P : Sys → Type 0 = λ x. IsMachineSound x table' in
    let Q : List Slot → Type 0 = λ x. IsMachineSound (with_raw address bytes s) x in
    let R : ℕ → Type 0 = λ n. s' ≡ with_raw n bytes s in
    subst P (sym (subst R back e)) (subst Q (sym t) (raw_sound s table address bytes h m))

pub built_sound : (c : Config) (s : Sys) (table : List Slot) → IsValidConfig c → s ≡ start_state c 0x80000000 []
    → table ≡ given_table 0 (platform c) → IsMachineSound s table
built_sound c s table v e t =
    let P : Sys → Type 0 = λ x. IsMachineSound x table in
    let Q : List Slot → Type 0 = λ x. IsMachineSound (start_state c 0x80000000 []) x in
    subst P (sym e) (subst Q (sym t) (started_sound c 0x80000000 [] v (omega arith)))

pub resume_sound : (s s' : Sys) (table table' : List Slot) → IsMachineSound s table → s' ≡ commanded (λ o. resume_step o s.tick) s → table' ≡ table
    → IsMachineSound (record s' { draining = false }) table'
resume_sound s s' table table' h e t =
    let P : Sys → Type 0 = λ x. IsMachineSound (record x { draining = false }) table' in
    let Q : List Slot → Type 0 = λ x. IsMachineSound (resumed_state s) x in
    subst P (sym e) (subst Q (sym t) (resumed_sound s table h))

-- the parts from a place on are commanded
abbrev pub commanded_from : (ObjState → Commanded) → ℕ → List ObjState → List ObjState
commanded_from c i [] = []
commanded_from c zero (o ∷ os) = (c o).state ∷ commanded_from c zero os
commanded_from c (suc i) (o ∷ os) = o ∷ commanded_from c i os

pub from_start : (c : ObjState → Commanded) (os : List ObjState) → commanded_from c 0 os ≡ map (λ o. (c o).state) os
from_start c [] = refl
from_start c (o ∷ os) = ap (λ xs. (c o).state ∷ xs) (from_start c os)

pub from_end : (c : ObjState → Commanded) (i : ℕ) (os : List ObjState) → length os ≤ i → commanded_from c i os ≡ os
from_end c i [] l = refl
from_end c zero (o ∷ os) l = absurd (omega arith)
from_end c (suc i) (o ∷ os) l = ap (λ xs. o ∷ xs) (from_end c i os (omega arith))

from_next : (c : ObjState → Commanded) (i : ℕ) (os : List ObjState) (d : ObjState) → i < length os
    → commanded_from c (suc i) (set os i (c (get_or os i d)).state) ≡ commanded_from c i os
from_next c i [] d l = absurd (omega arith)
from_next c zero (o ∷ os) d l = refl
from_next c (suc i) (o ∷ os) d l = ap (λ xs. o ∷ xs) (from_next c i os d (omega arith))

drop_set : (i : ℕ) (os : List ObjState) (t : ObjState) → drop (suc i) (set os i t) ≡ drop (suc i) os
drop_set i [] t = refl
drop_set zero (o ∷ os) t = refl
drop_set (suc i) (o ∷ os) t = drop_set i os t

module _ {X : Type 0} (f : X → ObjState) (c : ObjState → Commanded) (all : List ObjState) (xs : List X) (i : ℕ) (b b' : X)
    (here : i < length xs) (is : b ≡ get_or xs i b) (rest : drop i (map f xs) ≡ drop i all) where
  shown : (d : ObjState) → get_or (map f xs) i d ≡ f b
  shown d = get_or-map f xs i b d here ∙ sym (ap f is)

  -- the part is still the one that it was at the start
  pub untouched : get_or all i (Blank kinds.AtomicCpu) ≡ f b
  untouched =
      let at : (os : List ObjState) → get_or (drop i os) 0 (Blank kinds.AtomicCpu) ≡ get_or os i (Blank kinds.AtomicCpu) =
      λ os. get_or-drop i os 0 (Blank kinds.AtomicCpu) ∙ ap (λ n. get_or os n (Blank kinds.AtomicCpu)) (omega arith) in
      sym (at all) ∙ (ap (λ os. get_or os 0 (Blank kinds.AtomicCpu)) (sym rest) ∙ (at (map f xs) ∙ shown (Blank kinds.AtomicCpu)))

  rest_first : drop i all ≡ f b ∷ drop (suc i) all
  rest_first =
      let long : i < length (map f xs) = rw length-map here in
      let first : drop i (map f xs) ≡ f b ∷ drop (suc i) (map f xs) = drop-cons (map f xs) i (f b) long ∙ ap (λ o. o ∷ drop (suc i) (map f xs)) (shown (f b)) in
      let tail : (ys zs : List ObjState) → ys ≡ zs → drop 1 ys ≡ drop 1 zs = λ ys zs e. ap (λ os. drop 1 os) e in
      sym rest ∙ (first ∙ ap (λ os. f b ∷ os) (ap (λ os. drop 1 os) (sym first) ∙ (ap (λ os. drop 1 os) rest ∙ drop_one i all))) where
        drop_one : (j : ℕ) (os : List ObjState) → drop 1 (drop j os) ≡ drop (suc j) os
        drop_one zero [] = refl
        drop_one zero (o ∷ os) = refl
        drop_one (suc j) [] = refl
        drop_one (suc j) (o ∷ os) = drop_one j os

  pub next_untouched : drop i all ≡ f b ∷ drop (i + 1) all
  next_untouched = rw add-one rest_first

  module _ (e : f b' ≡ (c (f b)).state) where
    pub still_rest : drop (i + 1) (map f (set xs i b')) ≡ drop (i + 1) all
    still_rest =
        let tail : drop (suc i) (map f xs) ≡ drop (suc i) all = tails rest in
        rw (add-one, map-set f xs i b') (drop_set i (map f xs) (f b') ∙ tail) where
          drop_one : (j : ℕ) (os : List ObjState) → drop 1 (drop j os) ≡ drop (suc j) os
          drop_one zero [] = refl
          drop_one zero (o ∷ os) = refl
          drop_one (suc j) [] = refl
          drop_one (suc j) (o ∷ os) = drop_one j os

          tails : drop i (map f xs) ≡ drop i all → drop (suc i) (map f xs) ≡ drop (suc i) all
          tails h = sym (drop_one i (map f xs)) ∙ (ap (λ os. drop 1 os) h ∙ drop_one i all)

    pub one_commanded : (os : List ObjState) → commanded_from c i (map f xs) ≡ os → commanded_from c (i + 1) (map f (set xs i b')) ≡ os
    one_commanded os h =
        rw (add-one, map-set f xs i b', e) (ap (λ o. commanded_from c (suc i) (set (map f xs) i (c o).state)) (sym (shown (f b)))
        ∙ (from_next c i (map f xs) (f b) (rw length-map here) ∙ h))

    pub one_changed : (q q' : Queue) (es : List Due) → q' ≡ with_changes q (f b) (c (f b)).changes → commanded_events c (drop i all) q.pending ≡ es
        → commanded_events c (drop (i + 1) all) q'.pending ≡ es
    one_changed q q' es w h =
        let P : List ObjState → Type 0 = λ os. commanded_events c os q.pending ≡ es in
        rw (add-one, w) (subst P rest_first h)

-- a part that wasn't commanded yet has its handles
pub handles_still : {X : Type 0} (f : X → ObjState) (s : Sys) (table table' : List Slot) (xs : List X) (i : ℕ) (b : X) → IsMachineSound s table → table' ≡ table
    → i < length xs → b ≡ get_or xs i b → drop i (map f xs) ≡ drop i s.objects → HasHandles table' (f b)
handles_still f s table table' xs i b h t here is rest = by_place (cases_lt i (length s.objects)) where
  nothing : Commanded
  nothing = record { state = Blank kinds.AtomicCpu; changes = [] }

  by_place : (i < length s.objects) ⊎ (length s.objects ≤ i) → HasHandles table' (f b)
  by_place (inl l) =
      let same = untouched f (λ o. nothing) s.objects xs i b b here is rest in
      let P : ObjState → Type 0 = λ o. HasHandles table' o in
      subst P same (rw t (handles_at s table i h l))
  by_place (inr l) = let none : ◌≡◌ {A = List ObjState} [] (f b ∷ drop (suc i) s.objects) = sym (drop_of_length-le s.objects l) ∙ rest_first f (λ o. nothing) s.objects xs i b b here is rest in cc

-- two machines that agree in each field
pub sys_same : (s t : Sys) → s.tick ≡ t.tick → s.pending ≡ t.pending → s.objects ≡ t.objects → s.next ≡ t.next → s.counts ≡ t.counts → s.rebased ≡ t.rebased → s.trace ≡ t.trace
    → s.draining ≡ t.draining → s.wires ≡ t.wires → s.ways ≡ t.ways → s.routes ≡ t.routes → s ≡ t
sys_same s t a b c d e f g h i j k =
    ap (λ x. record s { tick = x }) a
    ∙ (ap (λ x. record s { tick = t.tick; pending = x }) b
    ∙ (ap (λ x. record s { tick = t.tick; pending = t.pending; objects = x }) c
    ∙ (ap (λ x. record s { tick = t.tick; pending = t.pending; objects = t.objects; next = x }) d
    ∙ (ap (λ x. record s { tick = t.tick; pending = t.pending; objects = t.objects; next = t.next; counts = x }) e
    ∙ (ap (λ x. record s { tick = t.tick; pending = t.pending; objects = t.objects; next = t.next; counts = t.counts; rebased = x }) f
    ∙ (ap (λ x. record t { trace = x; draining = s.draining; wires = s.wires; ways = s.ways; routes = s.routes }) g
    ∙ (ap (λ x. record t { draining = x; wires = s.wires; ways = s.ways; routes = s.routes }) h
    ∙ (ap (λ x. record t { wires = x; ways = s.ways; routes = s.routes }) i
    ∙ (ap (λ x. record t { ways = x; routes = s.routes }) j
    ∙ ap (λ x. record t { routes = x }) k)))))))))

-- once all parts were commanded, these are their states, and these events are pending
pub all_commanded : {X : Type 0} (f : X → ObjState) (k : ObjState → Commanded) (xs : List X) (i : ℕ) (all : List ObjState) → length xs ≤ i
    → commanded_from k i (map f xs) ≡ all → map f xs ≡ all
all_commanded f k xs i all l h = sym (from_end k i (map f xs) (rw length-map l)) ∙ h

pub all_changed : (k : ObjState → Commanded) (i : ℕ) (os : List ObjState) (es all : List Due) → length os ≤ i → commanded_events k (drop i os) es ≡ all → es ≡ all
all_changed k i os es all l h = ap (λ xs. commanded_events k xs es) (sym (drop_of_length-le os l)) ∙ h
