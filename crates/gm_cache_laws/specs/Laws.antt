-- What each wake of a cache owes at its ports. This project's own laws.
use Rattle.std.specs.Prelude.{◌≡◌, ℕ, ◌≤◌, []}
use Rattle.gm_cache.specs.State.{CacheState, cache_start}
use Rattle.gm_cache.specs.Rule.{CacheStepped, cache_step}
use Rattle.gm_cache_laws.specs.Face.{cache_face, IsCacheOk}
use Rattle.gm_laws.specs.Words.{told}
use Rattle.gm_laws.specs.Face.{Face, Law, MayWake, TellsDue, Conserves, IsSame, passed_packets}
use Rattle.gm_laws.specs.Faces.{AllActsOk, AllPassOk}
use Rattle.gm_laws.specs.Fuel.{Spends}
use Rattle.gm_words.specs.Allowed.{IsAllowed}
use Rattle.gm_words.specs.Moves.{no_moves}
use Rattle.gm_words.specs.declared.params.Params.{Params}
use Rattle.gm_words.specs.declared.wake.Wake.{Wake}

-- who is told what became of its offer does nothing but call and offer
pub record CacheSaysNothing (f : Face) (r : CacheStepped) : Type 0 where
  pub entries : r.moved.entries ≡ []
  pub moves : r.moved.moves ≡ no_moves
  pub passed : passed_packets r.moved.acts ≡ []
  pub mind : (cache_face r.moved.cache).mind ≡ f.mind
  pub memory : (cache_face r.moved.cache).memory ≡ f.memory

-- all that a wake of a cache owes at its ports
pub record CacheKeeps (f : Face) (w : Wake) (r : CacheStepped) : Type 0 where
  pub ok : IsCacheOk r.moved.cache
  pub law : Law f w (cache_face r.moved.cache) r.answer r.moved.acts
  pub due : TellsDue f w (cache_face r.moved.cache) r.moved.changes
  pub conserves : Conserves f w (cache_face r.moved.cache) r.answer r.moved.acts r.moved.moves
  pub spends : Spends f w (cache_face r.moved.cache) r.answer r.moved.acts
  pub same : IsSame f (cache_face r.moved.cache)
  pub quiet : (p : ℕ) → 1 ≤ told w p → CacheSaysNothing f r
  pub acts : AllActsOk r.moved.acts
  pub hops : AllPassOk f r.moved.acts

-- each wake of a cache meets the laws
abbrev pub CacheWakesHold : Type 0
CacheWakesHold = (s : CacheState) (next : ℕ) (w : Wake) (now : ℕ) → IsCacheOk s → MayWake (cache_face s) w
    → CacheKeeps (cache_face s) w (cache_step s next w now)

-- whatever a cache is configured with, so it starts
abbrev pub CacheStartsOk : Type 0
CacheStartsOk = (p : Params) (source sets ways mshrs targets writeq latency : ℕ) → IsAllowed p → 1 ≤ sets → 1 ≤ ways → 1 ≤ targets
    → IsCacheOk (cache_start p source sets ways mshrs targets writeq latency)
