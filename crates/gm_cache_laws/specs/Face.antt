-- What the other parts see of a cache, and what holds of a cache by itself. This project's own rules.
use Rattle.std.specs.Prelude.{◌≡◌, ℕ, zero, suc, ◌==◌, ◌&&◌, not, Bool, true, false, List, [], ◌∷◌}
use Rattle.gm_cache.specs.State.{CacheState, below, packets_in}
use Rattle.gm_cache.specs.Rule.{is_blocked}
use Rattle.gm_cache.specs.Lines.{HasTags}
use Rattle.gm_laws.specs.Face.{Face}
use Rattle.gm_laws.specs.Faces.{IsFlow, AllMeet, bare_face, lanes_face}
use Rattle.gm_model.specs.Flows.{is_due_out}
use Rattle.gm_model.specs.Server.{waiting_of}
use Rattle.gm_model.specs.Xbar.{lane_at}
use Rattle.gm_words.specs.Flow.{Lane}
use Rattle.pkt_pool.specs.Packet.{is_response}
use Rattle.pkt_pool.specs.declared.packet.Packet.{Packet}

-- the two queues as lanes, each with a port of its own; who waits, waits at the first
abbrev pub cache_lanes : CacheState → List Lane
cache_lanes s = record { flow = s.answers; waiting = waiting_of s.waiter } ∷ record { flow = s.leaving; waiting = [] } ∷ []

-- a queue's event has the number of its port
abbrev pub cache_due : CacheState → ℕ → Bool
cache_due s n = is_due_out (lane_at (cache_lanes s) n).flow.out

-- responses go out above, and requests below
abbrev pub cache_sends : ℕ → Packet → Bool
cache_sends zero x = is_response x.cmd
cache_sends (suc p) x = not (is_response x.cmd)

-- and come in the other way round
abbrev pub cache_admits : ℕ → Packet → Bool
cache_admits zero x = not (is_response x.cmd)
cache_admits (suc p) x = is_response x.cmd

abbrev pub cache_rest : CacheState → Face
cache_rest s = record bare_face {
  due = λ n. cache_due s n;
  sends = λ p x. cache_sends p x;
  admits = λ p x. cache_admits p x;
  passes = λ p. p == below;
  packets = packets_in s;
}

-- the ports, without whether there is room for who waits
abbrev pub cache_ports : CacheState → Face
cache_ports s = lanes_face (cache_rest s) (λ l. false) (cache_lanes s) (λ x. 0)

-- somebody waits whose request could be taken
abbrev pub is_eager : CacheState → Bool
is_eager s = s.waiter && not (is_blocked s)

abbrev pub cache_face : CacheState → Face
cache_face s = record (cache_ports s) { hungry = λ k. (k == 0) && is_eager s; caches = true }

-- what holds of its lines and registers, by which who waits for a line is a request; each queue is a flow, of responses above and of
-- requests below; and somebody waits only where the cache is blocked
pub record IsCacheOk (s : CacheState) : Type 0 where
  pub tags : HasTags s
  pub answers : IsFlow s.answers.items s.answers.out
  pub leaving : IsFlow s.leaving.items s.leaving.out
  pub responses : AllMeet (λ x. is_response x.cmd) s.answers.items
  pub requests : AllMeet (λ x. not (is_response x.cmd)) s.leaving.items
  pub full : s.waiter ≡ true → is_blocked s ≡ true
