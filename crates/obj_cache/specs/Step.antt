-- What a call leaves in a cache, the queue of events and the outbox, by the steps of the cache's rule. This project's own rule.
use Rattle.std.specs.Prelude.{◌≡◌, ℕ, IsTrue, List}
use Rattle.ev_queue.specs.Queue.{Queue}
use Rattle.ev_queue.specs.SlotTable.{gave}
use Rattle.ev_queue.specs.declared.slot.Slot.{Slot}
use Rattle.gm_cache.specs.State.{CacheState}
use Rattle.gm_cache.specs.Rule.{CacheMoved, CacheStepped}
use Rattle.gm_words.specs.Changes.{changed}
use Rattle.gm_words.specs.declared.answer.Answer.{Answer}
use Rattle.obj_core.specs.Out.{Out, extended}

-- the queue gave the handles of the answers and of what leaves
pub record HasBoth (table : List Slot) (object : ℕ) : Type 0 where
  pub answers : IsTrue (gave table object 0 0)
  pub leaving : IsTrue (gave table object 1 10)

-- in the middle of a wake: the cache, the queue of events and the outbox, which were q and o before it, are as the rule has them
pub record Stands (m : CacheMoved) (q : Queue) (o : Out) (s : CacheState) (q' : Queue) (o' : Out) : Type 0 where
  pub state : s ≡ m.cache
  pub events : q' ≡ record q { pending = changed m.cache.common.object q.pending m.changes }
  pub out : o' ≡ extended o m.acts m.entries m.next

-- a call takes a step of the rule, wherever in a wake it is made
abbrev pub Goes : (CacheMoved → CacheMoved) → CacheState → CacheState → Queue → Queue → Out → Out → Type 0
Goes f s s' q q' o o' = (m : CacheMoved) (q₀ : Queue) (o₀ : Out) → Stands m q₀ o₀ s q o → Stands (f m) q₀ o₀ s' q' o'

-- a wake took this step, and was answered
pub record Wakes (r : CacheStepped) (q : Queue) (o : Out) (s : CacheState) (q' : Queue) (o' : Out) (a : Answer) : Type 0 where
  pub stands : Stands r.moved q o s q' o'
  pub answer : a ≡ r.answer
