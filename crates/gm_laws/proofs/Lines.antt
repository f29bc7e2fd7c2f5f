-- Acts that tell levels of the hart's lines: to ports and packets they are nothing.
use Rattle.std.proofs.Common.{◌≡◌, ℕ, ◌+◌, ◌≤◌, ◌⊎◌, ◌++◌, Bool, true, false, List, [], ◌∷◌, refl, arith, inl, inr}
use Rattle.gm_words.specs.HartLine.{is_line}
use Rattle.gm_words.specs.declared.act.Act.{Act}
use Rattle.gm_words.specs.declared.act.Act.TheVariants as acts
use Rattle.gm_words.specs.declared.answer.Answer.{Answer}
use Rattle.pkt_pool.specs.declared.packet.Packet.{Packet}
use Rattle.gm_words.specs.declared.wake.Wake.{Wake}
use Rattle.gm_model.specs.Stepped.{line_change}
use Rattle.gm_laws.specs.Bounds.{AreFit, speech}
use Rattle.gm_laws.specs.Face.{Face, Law, CallsOne, passed_packets}
use Rattle.gm_laws.specs.Faces.{AllActsOk, AllPassOk}
use Rattle.gm_laws.specs.Fuel.{weight}
use Rattle.gm_laws.specs.Words.{offers, calls, IsIn, offer_out}
use Rattle.gm_laws.proofs.Counts.{IsIn-append}
use Rattle.gm_laws.proofs.Sides.{offers-append, calls-append}

-- each tells a level of a line that the hart has
abbrev pub IsLevel : Act → Type 0
IsLevel (acts.SetLine b l) = is_line b ≡ true
IsLevel (acts.Offer p x) = ⊥
IsLevel (acts.CallRetry p) = ⊥
IsLevel (acts.Atomic p x) = ⊥

abbrev pub AllLevels : List Act → Type 0
AllLevels [] = Unit {0}
AllLevels (a ∷ rest) = IsLevel a × AllLevels rest

pub change_levels : (b : ℕ) (x y : Bool) → is_line b ≡ true → AllLevels (line_change b x y)
change_levels b true true h = tt
change_levels b false false h = tt
change_levels b true false h = (h, tt)
change_levels b false true h = (h, tt)

pub change_light : (b : ℕ) (x y : Bool) → weight (line_change b x y) ≤ 1
change_light b true true = omega arith
change_light b false false = omega arith
change_light b true false = omega arith
change_light b false true = omega arith

-- nothing is offered, nobody is called, and no packet is passed on
pub no_offers : (p : ℕ) (ls : List Act) → AllLevels ls → offers p ls ≡ 0
no_offers p [] h = refl
no_offers p (acts.SetLine b l ∷ ls) h = omega (arith, no_offers p ls h.1)
no_offers p (acts.Offer q x ∷ ls) h = absurd h.0
no_offers p (acts.CallRetry q ∷ ls) h = absurd h.0
no_offers p (acts.Atomic q x ∷ ls) h = absurd h.0

pub no_calls : (p : ℕ) (ls : List Act) → AllLevels ls → calls p ls ≡ 0
no_calls p [] h = refl
no_calls p (acts.SetLine b l ∷ ls) h = omega (arith, no_calls p ls h.1)
no_calls p (acts.Offer q x ∷ ls) h = absurd h.0
no_calls p (acts.CallRetry q ∷ ls) h = absurd h.0
no_calls p (acts.Atomic q x ∷ ls) h = absurd h.0

pub no_passed : (ls : List Act) → AllLevels ls → passed_packets ls ≡ []
no_passed [] h = refl
no_passed (acts.SetLine b l ∷ ls) h = no_passed ls h.1
no_passed (acts.Offer q x ∷ ls) h = absurd h.0
no_passed (acts.CallRetry q ∷ ls) h = absurd h.0
no_passed (acts.Atomic q x ∷ ls) h = absurd h.0

pub no_speech : (ls : List Act) → AllLevels ls → speech ls ≡ 0
no_speech [] h = refl
no_speech (acts.SetLine b l ∷ ls) h = omega (arith, no_speech ls h.1)
no_speech (acts.Offer q x ∷ ls) h = absurd h.0
no_speech (acts.CallRetry q ∷ ls) h = absurd h.0
no_speech (acts.Atomic q x ∷ ls) h = absurd h.0

pub none_in : (p : ℕ) (x : Packet) (ls : List Act) → AllLevels ls → IsIn (offer_out p x) ls → ⊥
none_in p x [] h i = i
none_in p x (acts.SetLine b l ∷ ls) h (inl e) = cc e
none_in p x (acts.SetLine b l ∷ ls) h (inr i) = none_in p x ls h.1 i
none_in p x (acts.Offer q y ∷ ls) h i = absurd h.0
none_in p x (acts.CallRetry q ∷ ls) h i = absurd h.0
none_in p x (acts.Atomic q y ∷ ls) h i = absurd h.0

-- and they are allowed
pub levels_ok : (ls : List Act) → AllLevels ls → AllActsOk ls
levels_ok [] h = tt
levels_ok (acts.SetLine b l ∷ ls) h = (h.0, levels_ok ls h.1)
levels_ok (acts.Offer q x ∷ ls) h = absurd h.0
levels_ok (acts.CallRetry q ∷ ls) h = absurd h.0
levels_ok (acts.Atomic q x ∷ ls) h = absurd h.0

pub levels_hop : (f : Face) (ls : List Act) → AllLevels ls → AllPassOk f ls
levels_hop f [] h = tt
levels_hop f (acts.SetLine b l ∷ ls) h = (tt, levels_hop f ls h.1)
levels_hop f (acts.Offer q x ∷ ls) h = absurd h.0
levels_hop f (acts.CallRetry q ∷ ls) h = absurd h.0
levels_hop f (acts.Atomic q x ∷ ls) h = absurd h.0

-- beside them other acts are what they were
pub levels_passed : (ls xs : List Act) → AllLevels ls → passed_packets (ls ++ xs) ≡ passed_packets xs
levels_passed [] xs h = refl
levels_passed (acts.SetLine b l ∷ ls) xs h = levels_passed ls xs h.1
levels_passed (acts.Offer q x ∷ ls) xs h = absurd h.0
levels_passed (acts.CallRetry q ∷ ls) xs h = absurd h.0
levels_passed (acts.Atomic q x ∷ ls) xs h = absurd h.0

pub levels_acts : (ls xs : List Act) → AllLevels ls → AllActsOk xs → AllActsOk (ls ++ xs)
levels_acts [] xs h k = k
levels_acts (acts.SetLine b l ∷ ls) xs h k = (h.0, levels_acts ls xs h.1 k)
levels_acts (acts.Offer q x ∷ ls) xs h k = absurd h.0
levels_acts (acts.CallRetry q ∷ ls) xs h k = absurd h.0
levels_acts (acts.Atomic q x ∷ ls) xs h k = absurd h.0

pub weight-append : (xs ys : List Act) → weight (xs ++ ys) ≡ weight xs + weight ys
weight-append [] ys = omega arith
weight-append (x ∷ xs) ys = omega (arith, weight-append xs ys)

-- and the law of a wake stays one
pub levels_law : (f : Face) (w : Wake) (g : Face) (answer : Answer) (ls xs : List Act) → AllLevels ls → Law f w g answer xs → Law f w g answer (ls ++ xs)
levels_law f w g answer ls xs levels law =
    record {
      ok = law.ok;
      ports = law.ports;
      route = law.route;
      sends = law.sends;
      admits = law.admits;
      passes = law.passes;
      asked = λ p. omega (arith, law.asked p, offers-append p ls xs, no_offers p ls levels);
      waits = law.waits;
      listed = λ p. omega (arith, law.listed p, calls-append p ls xs, no_calls p ls levels);
      joins = law.joins;
      carries = λ p x h. law.carries p x (mine p x (IsIn-append (offer_out p x) ls xs h));
      keeps = law.keeps;
      again = λ p. omega (arith, law.again p, offers-append p ls xs);
      feeds = law.feeds;
      hungry = λ l h. wants l (law.hungry l h);
    } where
      mine : (p : ℕ) (x : Packet) → IsIn (offer_out p x) ls ⊎ IsIn (offer_out p x) xs → IsIn (offer_out p x) xs
      mine p x (inl h) = absurd (none_in p x ls levels h)
      mine p x (inr h) = h

      wants : (l : ℕ) → (f.hungry l ≡ true) ⊎ CallsOne f xs l → (f.hungry l ≡ true) ⊎ CallsOne f (ls ++ xs) l
      wants l (inl h) = inl h
      wants l (inr c) = inr (record { port = c.port; stood = c.stood; called = omega (arith, c.called, calls-append c.port ls xs) })

pub levels_fit : (ls : List Act) → AllLevels ls → AreFit ls
levels_fit [] h = tt
levels_fit (acts.SetLine b l ∷ ls) h = (tt, levels_fit ls h.1)
levels_fit (acts.Offer q x ∷ ls) h = absurd h.0
levels_fit (acts.CallRetry q ∷ ls) h = absurd h.0
levels_fit (acts.Atomic q x ∷ ls) h = absurd h.0
