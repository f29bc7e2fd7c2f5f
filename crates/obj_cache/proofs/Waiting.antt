-- Those who wait for a line are served in order.
use Rattle.std.proofs.Common.{◌≡◌, ℕ, ◌+◌, ◌==◌, Bool, true, false, List, [], ◌∷◌, refl, sym, ◌∙◌, ap, arith, subst, length, drop, slice_get, Option, Some, None, if◌then◌else◌}
use Rattle.cache_tags.specs.Line.{Line}
use Rattle.ev_queue.specs.Queue.{Queue}
use Rattle.gm_cache.specs.State.{Register, CacheState, line_in}
use Rattle.gm_cache.specs.Rule.{CacheMoved, serving, serving_in, serving_all, respond, using, line_after, with_registers}
use Rattle.obj_core.specs.Out.{Out}
use Rattle.pkt_pool.specs.declared.cmd.Cmd.{Cmd}
use Rattle.pkt_pool.specs.declared.cmd.Cmd.TheVariants as cmds
use Rattle.pkt_pool.specs.declared.packet.Packet.{Packet}
use Rattle.obj_cache.specs.Held.{targets_of, with_targets, first_gone}
use Rattle.obj_cache.specs.Step.{Stands, Goes}

-- Registers.

pub targets-with : (a : ℕ) (ts us : List Packet) (p : Packet) (rs : List Register) → targets_of a rs ≡ p ∷ us → targets_of a (with_targets a ts rs) ≡ ts
targets-with a ts us p [] e = absurd (cc)
targets-with a ts us p (r ∷ rs) e = by (r.address == a) refl e (targets-with a ts us p rs) where
  by : (b : Bool) → (r.address == a) ≡ b → (if b then r.targets else targets_of a rs) ≡ p ∷ us → (targets_of a rs ≡ p ∷ us → targets_of a (with_targets a ts rs) ≡ ts)
      → targets_of a (if b then record r { targets = ts } ∷ rs else r ∷ with_targets a ts rs) ≡ ts
  by true h e more = rw h refl
  by false h e more = rw h (more e)

pub with-with : (a : ℕ) (ts us : List Packet) (rs : List Register) → with_targets a ts (with_targets a us rs) ≡ with_targets a ts rs
with-with a ts us [] = refl
with-with a ts us (r ∷ rs) = by (r.address == a) refl (with-with a ts us rs) where
  by : (b : Bool) → (r.address == a) ≡ b → with_targets a ts (with_targets a us rs) ≡ with_targets a ts rs
      → with_targets a ts (if b then record r { targets = us } ∷ rs else r ∷ with_targets a us rs) ≡ (if b then record r { targets = ts } ∷ rs else r ∷ with_targets a ts rs)
  by true h more = rw h refl
  by false h more = rw h (ap (λ (l : List Register). r ∷ l) more)

pub with-same : (a : ℕ) (rs : List Register) → with_targets a (targets_of a rs) rs ≡ rs
with-same a [] = refl
with-same a (r ∷ rs) = by (r.address == a) (with-same a rs) where
  by : (b : Bool) → with_targets a (targets_of a rs) rs ≡ rs
      → (if b then record r { targets = if b then r.targets else targets_of a rs } ∷ rs else r ∷ with_targets a (if b then r.targets else targets_of a rs) rs) ≡ r ∷ rs
  by true more = refl
  by false more = ap (λ (l : List Register). r ∷ l) more

-- A line that serves leaves the registers.

respond-registers : (l : Line) (x : Packet) (cmd : Cmd) (now : ℕ) (rs : List Register) (m : CacheMoved) → respond l x cmd now (with_registers rs m) ≡ with_registers rs (respond l x cmd now m)
respond-registers l x cmds.Read now rs m = refl
respond-registers l x cmds.Write now rs m = refl
respond-registers l x cmds.WriteBack now rs m = refl
respond-registers l x cmds.ReadResp now rs m = refl
respond-registers l x cmds.WriteResp now rs m = refl

serving_in-registers : (v : Option Line) (x : Packet) (now : ℕ) (rs : List Register) (m : CacheMoved) → serving_in v x now (with_registers rs m) ≡ with_registers rs (serving_in v x now m)
serving_in-registers None x now rs m = refl
serving_in-registers (Some l) x now rs m = respond-registers l x x.cmd now rs (using (line_after l x x.cmd) m)

pub serving-registers : (a : ℕ) (x : Packet) (now : ℕ) (rs : List Register) (m : CacheMoved) → serving a x now (with_registers rs m) ≡ with_registers rs (serving a x now m)
serving-registers a x now rs m = serving_in-registers (line_in m.cache a) x now rs m

pub serving_all-registers : (a : ℕ) (xs : List Packet) (now : ℕ) (rs : List Register) (m : CacheMoved)
    → serving_all a xs now (with_registers rs m) ≡ with_registers rs (serving_all a xs now m)
unfolding serving_all
serving_all-registers a [] now rs m = refl
serving_all-registers a (x ∷ xs) now rs m =
    ap (λ (n : CacheMoved). serving_all a xs now n) (serving-registers a x now rs m) ∙ serving_all-registers a xs now rs (serving a x now m)

respond-keeps : (l : Line) (x : Packet) (cmd : Cmd) (now : ℕ) (m : CacheMoved) → (respond l x cmd now m).cache.registers ≡ m.cache.registers
respond-keeps l x cmds.Read now m = refl
respond-keeps l x cmds.Write now m = refl
respond-keeps l x cmds.WriteBack now m = refl
respond-keeps l x cmds.ReadResp now m = refl
respond-keeps l x cmds.WriteResp now m = refl

serving_in-keeps : (v : Option Line) (x : Packet) (now : ℕ) (m : CacheMoved) → (serving_in v x now m).cache.registers ≡ m.cache.registers
serving_in-keeps None x now m = refl
serving_in-keeps (Some l) x now m = respond-keeps l x x.cmd now (using (line_after l x x.cmd) m)

pub serving-keeps : (a : ℕ) (x : Packet) (now : ℕ) (m : CacheMoved) → (serving a x now m).cache.registers ≡ m.cache.registers
serving-keeps a x now m = serving_in-keeps (line_in m.cache a) x now m

-- All who wait are served, and nobody waits then.

abbrev pub all_served : ℕ → ℕ → CacheMoved → CacheMoved
all_served a now m = with_registers (with_targets a [] m.cache.registers) (serving_all a (targets_of a m.cache.registers) now m)

-- what is left to serve leads to the end of the whole
abbrev pub IsOnWay : ℕ → ℕ → CacheState → CacheState → Queue → Queue → Out → Out → Type 0
IsOnWay a now s₀ s q₀ q o₀ o = (s' : CacheState) (q' : Queue) (o' : Out) → Goes (all_served a now) s s' q q' o o' → Goes (all_served a now) s₀ s' q₀ q' o₀ o'

-- the same as the rest after one was served
one_less : (a : ℕ) (now : ℕ) (p : Packet) (ts : List Packet) (m : CacheMoved) → targets_of a m.cache.registers ≡ p ∷ ts
    → all_served a now (serving a p now (with_registers (first_gone a m.cache.registers) m)) ≡ all_served a now m
unfolding serving_all
one_less a now p ts m e =
    let rs : List Register = m.cache.registers in
    let gone : List Register = first_gone a rs in
    let kept : (serving a p now (with_registers gone m)).cache.registers ≡ gone = serving-keeps a p now (with_registers gone m) in
    let left : targets_of a gone ≡ ts = ap (λ l. targets_of a (with_targets a (drop 1 l) rs)) e ∙ targets-with a ts ts p rs e in
    let none : with_targets a [] gone ≡ with_targets a [] rs = with-with a [] (drop 1 (targets_of a rs)) rs in
    ap (λ (l : List Register). with_registers (with_targets a [] l) (serving_all a (targets_of a l) now (serving a p now (with_registers gone m)))) kept
    ∙ ap (λ (l : List Register). with_registers l (serving_all a (targets_of a gone) now (serving a p now (with_registers gone m)))) none
    ∙ ap (λ (l : List Packet). with_registers (with_targets a [] rs) (serving_all a l now (serving a p now (with_registers gone m)))) left
    ∙ ap (λ (n : CacheMoved). with_registers (with_targets a [] rs) (serving_all a ts now n)) (serving-registers a p now gone m)
    ∙ ap (λ (n : CacheMoved). with_registers (with_targets a [] rs) n) (serving_all-registers a ts now gone (serving a p now m))
    ∙ ap (λ (l : List Packet). with_registers (with_targets a [] rs) (serving_all a l now m)) (sym e)

-- one more is served
pub goes_on : (a : ℕ) (now : ℕ) (p : Packet) (ts : List Packet) (s₀ s s₁ s₂ : CacheState) (q₀ q q₂ : Queue) (o₀ o o₂ : Out) → IsOnWay a now s₀ s q₀ q o₀ o
    → targets_of a s.registers ≡ p ∷ ts → s₁ ≡ (let t : CacheState = record s { registers = first_gone a s.registers } in t)
    → Goes (serving a p now) s₁ s₂ q q₂ o o₂ → IsOnWay a now s₀ s₂ q₀ q₂ o₀ o₂
goes_on a now p ts s₀ s s₁ s₂ q₀ q q₂ o₀ o o₂ w e es h = λ s' q' o' rest. w s' q' o' (λ m r₀ p₀ st.
    let gone : CacheMoved = with_registers (first_gone a m.cache.registers) m in
    let there : targets_of a m.cache.registers ≡ p ∷ ts = ap (λ (c : CacheState). targets_of a c.registers) (sym st.state) ∙ e in
    let st₁ : Stands gone r₀ p₀ s₁ q o = record {
      state = es ∙ ap (λ (c : CacheState). let t : CacheState = record c { registers = first_gone a c.registers } in t) st.state;
      events = st.events;
      out = st.out;
    } in
    subst (λ (n : CacheMoved). Stands n r₀ p₀ s' q' o') (one_less a now p ts m there) (rest (serving a p now gone) r₀ p₀ (h gone r₀ p₀ st₁)))

-- nobody is left
pub arrived : (a : ℕ) (now : ℕ) (s₀ s s₁ : CacheState) (q₀ q : Queue) (o₀ o : Out) → IsOnWay a now s₀ s q₀ q o₀ o → targets_of a s.registers ≡ []
    → s₁ ≡ (let t : CacheState = record s { registers = first_gone a s.registers } in t) → Goes (all_served a now) s₀ s₁ q₀ q o₀ o
unfolding serving_all
arrived a now s₀ s s₁ q₀ q o₀ o w e es = w s₁ q o (λ m r₀ p₀ st.
    let same : first_gone a m.cache.registers ≡ with_targets a [] m.cache.registers =
    ap (λ (l : List Packet). with_targets a (drop 1 l) m.cache.registers) (ap (λ (c : CacheState). targets_of a c.registers) (sym st.state) ∙ e) in
    let served : serving_all a (targets_of a m.cache.registers) now m ≡ m =
    ap (λ (l : List Packet). serving_all a l now m) (ap (λ (c : CacheState). targets_of a c.registers) (sym st.state) ∙ e) in
    subst (λ (n : CacheMoved). Stands (with_registers (with_targets a [] m.cache.registers) n) r₀ p₀ s₁ q o) (sym served) (record {
      state = es ∙ ap (λ (c : CacheState). let t : CacheState = record c { registers = first_gone a c.registers } in t) st.state
          ∙ ap (λ (l : List Register). let t : CacheState = record m.cache { registers = l } in t) same;
      events = st.events;
      out = st.out;
    }))

-- the first who waits, and the others
pub first_of : (a : ℕ) (rs : List Register) (p : Packet) → slice_get (targets_of a rs) 0 ≡ Some p → targets_of a rs ≡ p ∷ drop 1 (targets_of a rs)
first_of a rs p e = by (targets_of a rs) e where
  some : (x y : Packet) → Some x ≡ Some y → x ≡ y
  some x y h = cc

  by : (l : List Packet) → slice_get l 0 ≡ Some p → l ≡ p ∷ drop 1 l
  by [] h = absurd (cc)
  by (x ∷ l) h = ap (λ (y : Packet). y ∷ l) (some x p h)

-- once the first is taken out, one less waits
pub one_left : (a : ℕ) (rs : List Register) (p : Packet) → slice_get (targets_of a rs) 0 ≡ Some p → length (targets_of a rs) ≡ 1 + length (targets_of a (first_gone a rs))
one_left a rs p e =
    let first = first_of a rs p e in
    let left : targets_of a (first_gone a rs) ≡ drop 1 (targets_of a rs) = targets-with a (drop 1 (targets_of a rs)) (drop 1 (targets_of a rs)) p rs first in
    some_more (targets_of a rs) p (targets_of a (first_gone a rs)) (first ∙ ap (λ (l : List Packet). p ∷ l) (sym left)) where
      some_more : (l : List Packet) (p : Packet) (ls : List Packet) → l ≡ p ∷ ls → length l ≡ 1 + length ls
      some_more l p ls e = omega (arith, ap (λ (l : List Packet). length l) e)

pub none_of : (a : ℕ) (rs : List Register) → slice_get (targets_of a rs) 0 ≡ None → targets_of a rs ≡ []
none_of a rs e = by (targets_of a rs) e where
  by : (l : List Packet) → slice_get l 0 ≡ None → l ≡ []
  by [] h = refl
  by (x ∷ l) h = absurd (cc)

-- where nobody waits, nobody is taken out
pub none_gone : (a : ℕ) (rs : List Register) → targets_of a rs ≡ [] → targets_of a (first_gone a rs) ≡ []
none_gone a rs e = ap (λ (l : List Register). targets_of a l) (ap (λ (l : List Packet). with_targets a (drop 1 l) rs) e ∙ sym (ap (λ (l : List Packet). with_targets a l rs) e) ∙ with-same a rs) ∙ e
