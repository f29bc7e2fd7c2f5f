-- The numbers of the packets under way differ.
use Rattle.std.proofs.Common.{◌≡◌, ℕ, ◌+◌, ◌<◌, ◌≤◌, ◌==◌, ◌⊎◌, inl, inr, Bool, true, false, if◌then◌else◌, List, [], ◌∷◌, refl, sym, ◌∙◌, ap, arith}
use Rattle.std.proofs.lemmas.Bool.{cases_lt, eqb-true}
use Rattle.cfg_tree.specs.declared.config.Config.{Config}
use Rattle.ev_queue.specs.declared.slot.Slot.{Slot}
use Rattle.gc_base.specs.declared.ids.PktId.{PktId}
use Rattle.pkt_pool.specs.declared.packet.Packet.{Packet}
use Rattle.gm_words.specs.Moves.{AreDrawn}
use Rattle.gm_words.specs.PortUses.{used}
use Rattle.gm_model.specs.Picks.{Picked}
use Rattle.gm_model.specs.Start.{start_state}
use Rattle.gm_model.specs.Sys.{Sys}
use Rattle.gm_model.specs.View.{all_packets, packets_in}
use Rattle.gm_laws.specs.Words.{weigh}
use Rattle.gm_system.specs.Runs.{IsRunOf, AreNumbered, has_number}

-- of packets that were drawn from one number up to another, one at most has a number, and only one among these
record Drawn (n k m w : ℕ) : Type 0 where
  one : w ≤ 1
  before : n < k → w ≡ 0
  behind : m ≤ n → w ≡ 0
  up : k ≤ m

drawn_once : (n k m : ℕ) (xs : List Packet) → AreDrawn k xs m → Drawn n k m (weigh (has_number n) xs)
drawn_once n k m [] e = record { one = omega arith; before = λ l. refl; behind = λ l. refl; up = omega (arith, e) }
drawn_once n k m (x ∷ xs) e = by (x.id.0 == n) refl (drawn_once n (k + 1) m xs e.1) where
  by : (b : Bool) → (x.id.0 == n) ≡ b → Drawn n (k + 1) m (weigh (has_number n) xs) → Drawn n k m ((if b then 1 else 0) + weigh (has_number n) xs)
  by true same h =
      let here : n ≡ k = sym (eqb-true x.id.0 n same) ∙ e.0 in
      record {
        one = omega (arith, h.before (omega (arith, here)));
        before = λ l. absurd (omega (arith, here, l));
        behind = λ l. absurd (omega (arith, here, l, h.up));
        up = omega (arith, h.up);
      }
  by false other h = record {
    one = omega (arith, h.one);
    before = λ l. omega (arith, h.before (omega (arith, l)));
    behind = λ l. omega (arith, h.behind l);
    up = omega (arith, h.up);
  }

-- after a run numbers differ, where they did before
pub numbers_differ : (s : Sys) (r : Picked) (table : List Slot) → IsRunOf s r table → AreNumbered s → AreNumbered r.sys
numbers_differ s r table h before = record {
  apart = λ n. by n (cases_lt n s.next);
  below = λ n l.
      let d = drawn_once n s.next r.sys.next r.moves.made h.drawn in
      omega (arith, conserved n, d.behind l, before.below n (omega (arith, d.up, l)));
} where
  conserved : (n : ℕ) → weigh (has_number n) (all_packets r.sys []) + (weigh (has_number n) r.moves.answered + weigh (has_number n) r.moves.absorbed)
      ≡ weigh (has_number n) (all_packets s []) + weigh (has_number n) r.moves.made
  conserved n = h.conserved (has_number n) (λ x y e. ap (λ (i : PktId). if i.0 == n then 1 else 0) e)

  by : (n : ℕ) → (n < s.next) ⊎ (s.next ≤ n) → weigh (has_number n) (all_packets r.sys []) ≤ 1
  by n (inl l) = omega (arith, conserved n, (drawn_once n s.next r.sys.next r.moves.made h.drawn).before l, before.apart n)
  by n (inr l) = omega (arith, conserved n, (drawn_once n s.next r.sys.next r.moves.made h.drawn).one, before.below n l)

-- at its start a machine has no packet
none_yet : (c : Config) (entry : ℕ) (ram : List ℕ) → all_packets (start_state c entry ram) [] ≡ []
unfolding used packets_in
none_yet c entry ram = by c.system_model where
  by : (b : Bool) → all_packets (start_state (record c { system_model = b }) entry ram) [] ≡ []
  by true = refl
  by false = refl

pub start_numbered : (c : Config) (entry : ℕ) (ram : List ℕ) → AreNumbered (start_state c entry ram)
start_numbered c entry ram = record {
  apart = λ n. omega (arith, ap (λ xs. weigh (has_number n) xs) (none_yet c entry ram));
  below = λ n l. ap (λ xs. weigh (has_number n) xs) (none_yet c entry ram);
}
